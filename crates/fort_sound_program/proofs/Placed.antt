-- Where the declarations of a program stand: each is what a member of a set became, and each set
-- has those of its members.
use Rattle.std.proofs.Common.{◌≡◌, ◌⊎◌, inl, inr, ℕ, zero, suc, ◌+◌, List, [], ◌∷◌, ◌++◌, length, Option, Some, None, refl, sym, ap, ◌∙◌, subst, arith}
use Rattle.std.specs.Prelude.{option_map}
use Rattle.std.specs.List.{slice_get, flat_map}
use Rattle.fort_base.specs.declared.ids.DeclId.{DeclId}
use Rattle.fort_base.specs.declared.refusal.Place.{Place}
use Rattle.fort_core.specs.declared.program.CoreBody.{CoreBody}
use Rattle.fort_core.specs.declared.program.CoreDecl.{CoreDecl}
use Rattle.fort_core.specs.declared.program.CoreSet.{CoreSet}
use Rattle.fort_core.specs.declared.term.Term.{Term}
use Rattle.fort_types_sets.specs.declared.member.Member.{Member}
use Rattle.fort_types_sets.specs.declared.member.MemberSet.{MemberSet}
use Rattle.fort_types_sets.specs.Rules.{StandsAt}
use Rattle.fort_member_fields.proofs.Items.{get_left}
use Rattle.fort_elab_law_matched.proofs.Shapes.{get_behind}
use Rattle.fort_elab_meaning.specs.Programs.{core_body, core_declaration, declarations_from, declarations_of_set, numbers, core_sets}

-- ---- items of lists

pub either_side : {X : Type 0} (xs ys : List X) (j : ℕ) (x : X) → slice_get (xs ++ ys) j ≡ Some x
    → (slice_get xs j ≡ Some x) ⊎ ((i : ℕ) × (j ≡ length xs + i) × (slice_get ys i ≡ Some x))
either_side [] ys j x e = inr (j, omega arith, e)
either_side (z ∷ xs) ys zero x e = inl e
either_side (z ∷ xs) ys (suc j) x e =
    elim (either_side xs ys j x e) as (λ _. (slice_get (z ∷ xs) (suc j) ≡ Some x)
    ⊎ ((i : ℕ) × (suc j ≡ length (z ∷ xs) + i) × (slice_get ys i ≡ Some x)))
    [ inl f ↦ inl f | inr w ↦ inr (w.0, (let l = w.1 in omega arith), w.2) ]

pub nothing_plus : (i : ℕ) → 0 + i ≡ i
nothing_plus i = omega arith

-- ---- the numbers of declarations

pub number_at : (n : ℕ) (ms : List Member) (i : ℕ) (m : Member) → slice_get ms i ≡ Some m
    → slice_get (numbers n ms) i ≡ Some (record { 0 = n + i })
number_at n [] i m e = absurd cc
number_at n (x ∷ ms) zero m e = ap (λ k. let d : DeclId = record { 0 = k } in Some d)
    (let q : n ≡ n + 0 = omega arith in q)
number_at n (x ∷ ms) (suc i) m e =
    number_at (n + 1) ms i m e ∙ ap (λ k. let d : DeclId = record { 0 = k } in Some d)
    (let q : n + 1 + i ≡ n + suc i = omega arith in q)

pub numbered_at : (n : ℕ) (ms : List Member) (i : ℕ) (d : DeclId)
    → slice_get (numbers n ms) i ≡ Some d → (m : Member) × (slice_get ms i ≡ Some m) × (d.0 ≡ n + i)
numbered_at n [] i d e = absurd cc
numbered_at n (x ∷ ms) zero d e =
    let q : record { 0 = n } ≡ d = cc
    in (x, refl, (let r : d.0 ≡ n = ap (λ (k : DeclId). k.0) (sym q) in omega arith))
numbered_at n (x ∷ ms) (suc i) d e =
    let w = numbered_at (n + 1) ms i d e in (w.0, w.1, (let l = w.2 in omega arith))

-- ---- what members become

module _ (table : List (Place × Term)) where
  -- A declaration is what the member at a position of a set became.
  pub record Became (s : MemberSet) (at : ℕ) (m : Member) (decl : CoreDecl) : Type 0 where
    pub body_is : core_body table s at m m.kind ≡ Some decl.body
    pub parameters : decl.parameters ≡ m.parameters
    pub result : decl.result ≡ m.result

  abbrev made_of : Member → CoreBody → CoreDecl
  made_of m b = record { parameters = m.parameters; result = m.result; body = b }

  became_by : (s : MemberSet) (at : ℕ) (m : Member) (decl : CoreDecl) (o : Option CoreBody)
      → core_body table s at m m.kind ≡ o → Some decl ≡ option_map (made_of m) o
      → Became s at m decl
  became_by s at m decl None q e = absurd cc
  became_by s at m decl (Some b) q e =
      let same : made_of m b ≡ decl = cc
      in subst (Became s at m) same (record { body_is = q; parameters = refl; result = refl })

  pub became : (s : MemberSet) (at : ℕ) (m : Member) (decl : CoreDecl)
      → Some decl ≡ core_declaration table s at m → Became s at m decl
  became s at m decl e = became_by s at m decl (core_body table s at m m.kind) refl e

  -- ---- the members of one set

  from_at : (s : MemberSet) (a : ℕ) (ms : List Member) (i : ℕ) (m : Member)
      → slice_get ms i ≡ Some m
      → slice_get (declarations_from table s a ms) i ≡ Some (core_declaration table s (a + i) m)
  from_at s a [] i m e = absurd cc
  from_at s a (x ∷ ms) zero m e = let same : x ≡ m = cc in
      ap (λ z. Some (core_declaration table s a z)) same
      ∙ ap (λ k. Some (core_declaration table s k m)) (let q : a ≡ a + 0 = omega arith in q)
  from_at s a (x ∷ ms) (suc i) m e =
      from_at s (a + 1) ms i m e ∙ ap (λ k. Some (core_declaration table s k m))
      (let q : a + 1 + i ≡ a + suc i = omega arith in q)

  from_long : (s : MemberSet) (a : ℕ) (ms : List Member)
      → length (declarations_from table s a ms) ≡ length ms
  from_long s a [] = refl
  from_long s a (x ∷ ms) = ap suc (from_long s (a + 1) ms)

  of_member : (s : MemberSet) (a : ℕ) (ms : List Member) (i : ℕ) (o : Option CoreDecl)
      → slice_get (declarations_from table s a ms) i ≡ Some o
      → (m : Member) × (slice_get ms i ≡ Some m) × (o ≡ core_declaration table s (a + i) m)
  of_member s a [] i o e = absurd cc
  of_member s a (x ∷ ms) zero o e = let same : core_declaration table s a x ≡ o = cc in (
    x,
    refl,
    sym same ∙ ap (λ k. core_declaration table s k x)
        (let q : a ≡ a + 0 = omega arith in q),
  )
  of_member s a (x ∷ ms) (suc i) o e = let w = of_member s (a + 1) ms i o e in (
    w.0,
    w.1,
    w.2 ∙ ap (λ k. core_declaration table s k w.0)
        (let q : a + 1 + i ≡ a + suc i = omega arith in q),
  )

  -- ---- the members of all sets

  -- A set of the program has the declarations of a set of members, one after another.
  pub record Placed (n : ℕ) (ss : List MemberSet) (k : ℕ) (c : CoreSet) : Type 0 where
    pub set : MemberSet
    pub is_set : slice_get ss k ≡ Some set
    pub base : ℕ
    pub decls : c.decls ≡ numbers (n + base) set.members
    pub has : (i : ℕ) (m : Member) → slice_get set.members i ≡ Some m
        → slice_get (flat_map (declarations_of_set table) ss) (base + i)
        ≡ Some (core_declaration table set i m)

  pub placed : (n : ℕ) (ss : List MemberSet) (k : ℕ) (c : CoreSet)
      → slice_get (core_sets n ss) k ≡ Some c → Placed n ss k c
  placed n [] k c e = absurd cc
  placed n (s ∷ ss) zero c e =
      let same : record { decls = numbers n s.members } ≡ c = cc in record {
        set = s;
        is_set = refl;
        base = 0;
        decls = ap (λ (z : CoreSet). z.decls) (sym same) ∙ ap (λ k. numbers k s.members)
            (let q : n ≡ n + 0 = omega arith in q);
        has = λ i m h. ap (slice_get (flat_map (declarations_of_set table) (s ∷ ss))) (nothing_plus i)
            ∙ get_left (declarations_of_set table s) (flat_map (declarations_of_set table) ss) i
            (core_declaration table s i m)
            (from_at s 0 s.members i m h
            ∙ ap (λ k. Some (core_declaration table s k m)) (nothing_plus i));
      }
  placed n (s ∷ ss) (suc k) c e = let w = placed (n + length s.members) ss k c e in record {
    set = w.set;
    is_set = w.is_set;
    base = length s.members + w.base;
    decls = w.decls ∙ ap (λ k. numbers k w.set.members)
        (let q : n + length s.members + w.base ≡ n + (length s.members + w.base) = omega arith
        in q);
    has = λ i m h. get_behind (declarations_of_set table s)
        (flat_map (declarations_of_set table) ss) (length s.members + w.base + i) (w.base + i)
        (let l = from_long s 0 s.members in omega arith) ∙ w.has i m h;
  }

  -- A declaration is that of a member of one of the sets.
  pub record Origin (ss : List MemberSet) (o : Option CoreDecl) : Type 0 where
    pub number : ℕ
    pub set : MemberSet
    pub is_set : slice_get ss number ≡ Some set
    pub at : ℕ
    pub member : Member
    pub stands : StandsAt set at member
    pub is : o ≡ core_declaration table set at member

  pub origin : (ss : List MemberSet) (j : ℕ) (o : Option CoreDecl)
      → slice_get (flat_map (declarations_of_set table) ss) j ≡ Some o → Origin ss o
  origin [] j o e = absurd cc
  origin (s ∷ ss) j o e =
      elim (either_side (declarations_of_set table s) (flat_map (declarations_of_set table) ss) j o
      e) as (λ _. Origin (s ∷ ss) o) [
        | inl f ↦
            (let w = of_member s 0 s.members j o f
            in record {
              number = 0;
              set = s;
              is_set = refl;
              at = j;
              member = w.0;
              stands = w.1;
              is = w.2 ∙ ap (λ k. core_declaration table s k w.0) (nothing_plus j);
            })
        | inr v ↦
            (let w = origin ss v.0 o v.2
            in record {
              number = suc w.number;
              set = w.set;
              is_set = w.is_set;
              at = w.at;
              member = w.member;
              stands = w.stands;
              is = w.is;
            })
      ]
