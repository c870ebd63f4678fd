-- What wins is most specific, and what is most specific wins.
use Rattle.std.proofs.Common.{◌≡◌, ◌≢◌, ℕ, ◌==◌, Bool, true, false, not, ◌&&◌, ◌||◌, List, map, Option, Some, None, refl, ap, sym, ◌∙◌, subst}
use Rattle.std.specs.Prelude.{Contains, slice_get}
use Rattle.std.specs.List.{list_all, find}
use Rattle.std.proofs.lemmas.Bool.Decides.{Decides-eqb}
use Rattle.fort_base.specs.declared.ids.DeclId.{DeclId}
use Rattle.fort_base.specs.declared.ids.SetId.{SetId}
use Rattle.fort_base.specs.declared.ty.Ty.{Ty}
use Rattle.fort_core.specs.declared.program.CoreDecl.{CoreDecl}
use Rattle.fort_core.specs.declared.program.CoreSet.{CoreSet}
use Rattle.fort_core.specs.declared.program.Program.{Program}
use Rattle.fort_core.specs.declared.value.Value.{Value}
use Rattle.fort_machine.specs.Types.{all_below, type_of}
use Rattle.fort_machine.specs.Calls.{IsApplicable, IsMoreSpecific, IsMostSpecific, Dispatches}
use Rattle.fort_disp_plain.specs.Asked.{asked, gives_way, wins, is_other}
use Rattle.fort_disp_plain.proofs.Members.{left_true, right_true, both_true, all_at, all_from, found, missed}

one_some : {A : Type 0} (x y : A) → Some x ≡ Some y → x ≡ y
one_some x y e = cc

same_number : (d e : DeclId) → d.0 ≡ e.0 → d ≡ e
same_number d e q = ap (λ (n : ℕ). let m : DeclId = record { 0 = n } in m) q

not_or : (b c : Bool) → (not b || c) ≡ true → b ≡ true → c ≡ true
not_or true c e q = e
not_or false c e q = absurd cc

or_not : (b c : Bool) → (b ≡ true → c ≡ true) → (not b || c) ≡ true
or_not true c h = h refl
or_not false c h = refl

or_left : (b c : Bool) → b ≡ true → (b || c) ≡ true
or_left b c e = ap (λ x. x || c) e

or_right : (b c : Bool) → c ≡ true → (b || c) ≡ true
or_right true c e = refl
or_right false c e = e

or_cases : (b c : Bool) → (b || c) ≡ true → (b ≡ true → ⊥) → c ≡ true
or_cases true c e n = absurd (n refl)
or_cases false c e n = e

module _ (p : Program) (set : SetId) (ts : List Ty) (m : CoreSet)
    (q : slice_get p.sets set.0 ≡ Some m) where
  is_member_of : (e : DeclId) (other : CoreDecl) → IsApplicable p set ts e other
      → Contains m.decls e
  is_member_of e other a =
      subst (λ (n : CoreSet). Contains n.decls e) (one_some a.members m (sym a.is_set ∙ q))
      a.is_member

  asked_there : (d : DeclId) (decl : CoreDecl) (b : Bool) (f : CoreDecl → Bool)
      → slice_get p.decls d.0 ≡ Some decl → asked (slice_get p.decls d.0) b f ≡ f decl
  asked_there d decl b f e = ap (λ o. asked o b f) e

  -- a declaration that wins, by whether it is there
  won : (d : DeclId) (o : Option CoreDecl) → slice_get p.decls d.0 ≡ o
      → asked o false (λ decl. all_below p ts decl.parameters
      && list_all (gives_way p ts decl d) m.decls) ≡ true → Contains m.decls d
      → (decl : CoreDecl) × IsMostSpecific p set ts d decl
  won d None e w c = absurd cc
  won d (Some decl) e w c = (
    decl,
    record {
      applicable =
          record { members = m; is_set = q; is_member = c; is_decl = e; applies = left_true _ _ w };
      over_others = λ other it a ne.
          let g = all_at (gives_way p ts decl d) m.decls other (right_true _ _ w)
          (is_member_of other it a) in
          let n = or_cases (other.0 == d.0) _ g
          (λ z. ne (same_number other d ((Decides-eqb other.0 d.0).0 z))) in
          not_or _ _ (sym (asked_there other it true _ a.is_decl) ∙ n) a.applies;
    },
  )

  pub winner_is : (d : DeclId) → wins p m.decls ts d ≡ true → Contains m.decls d
      → (decl : CoreDecl) × IsMostSpecific p set ts d decl
  winner_is d w c = won d (slice_get p.decls d.0) refl w c

  gives : (d : DeclId) (decl : CoreDecl) → IsMostSpecific p set ts d decl → (e : DeclId)
      → Contains m.decls e → (b : Bool) → (e.0 == d.0) ≡ b → (o : Option CoreDecl)
      → slice_get p.decls e.0 ≡ o
      → (b || asked o true (λ other. not (all_below p ts other.parameters)
      || all_below p decl.parameters other.parameters)) ≡ true
  gives d decl s e c true z o r = refl
  gives d decl s e c false z None r = refl
  gives d decl s e c false z (Some other) r =
      or_not _ _
      (λ h. s.over_others e other
      (record { members = m; is_set = q; is_member = c; is_decl = r; applies = h })
      (λ w. let y : (e.0 == d.0) ≡ true = (Decides-eqb e.0 d.0).1 (ap (λ (i : DeclId). i.0) w)
      in let x : false ≡ true = sym z ∙ y in absurd cc))

  pub most_specific_wins : (d : DeclId) (decl : CoreDecl) → IsMostSpecific p set ts d decl
      → wins p m.decls ts d ≡ true
  most_specific_wins d decl s =
      asked_there d decl false _ s.applicable.is_decl
      ∙ both_true _ _ s.applicable.applies
      (all_from _ m.decls
      (λ e c. gives d decl s e c (e.0 == d.0) refl (slice_get p.decls e.0) refl))

-- no set, no declaration that wins, one that isn't alone, one that is
no_set : (p : Program) (set : SetId) (vs : List Value) → slice_get p.sets set.0 ≡ None
    → (d : DeclId) (decl : CoreDecl) → Dispatches p set vs d decl → ⊥
no_set p set vs e d decl h = let z = sym e ∙ h.most_specific.applicable.is_set in absurd cc

pub no_winner : (p : Program) (set : SetId) (vs : List Value) (m : CoreSet)
    → slice_get p.sets set.0 ≡ Some m → find (wins p m.decls (map (type_of p) vs)) m.decls ≡ None
    → (d : DeclId) (decl : CoreDecl) → Dispatches p set vs d decl → ⊥
no_winner p set vs m q e d decl h =
    let ts = map (type_of p) vs in
    let z : true ≡ false =
    sym (most_specific_wins p set ts m q d decl h.most_specific)
    ∙ missed (wins p m.decls ts) m.decls d e
    (is_member_of p set ts m q d decl h.most_specific.applicable) in
    absurd cc

alone : (p : Program) (set : SetId) (ts : List Ty) (m : CoreSet)
    (q : slice_get p.sets set.0 ≡ Some m) (d e : DeclId) (decl : CoreDecl)
    → list_all (is_other p m.decls ts d) m.decls ≡ true
    → IsMostSpecific p set ts e decl → e ≡ d
alone p set ts m q d e decl a s =
    go (e.0 == d.0) refl
    (all_at (is_other p m.decls ts d) m.decls e a (is_member_of p set ts m q e decl s.applicable))
  where
    go : (b : Bool) → (e.0 == d.0) ≡ b → (b || not (wins p m.decls ts e)) ≡ true → e ≡ d
    go true z w = same_number e d ((Decides-eqb e.0 d.0).0 z)
    go false z w = let y = sym w ∙ ap not (most_specific_wins p set ts m q e decl s) in absurd cc

pub sole_dispatches : (p : Program) (set : SetId) (vs : List Value) (m : CoreSet)
    → slice_get p.sets set.0 ≡ Some m → (d : DeclId)
    → find (wins p m.decls (map (type_of p) vs)) m.decls ≡ Some d
    → list_all (is_other p m.decls (map (type_of p) vs) d) m.decls ≡ true
    → (decl : CoreDecl) × Dispatches p set vs d decl
sole_dispatches p set vs m q d e a =
    let ts = map (type_of p) vs in
    let f = found (wins p m.decls ts) m.decls d e in
    let w = winner_is p set ts m q d f.1 f.0 in (
      w.0,
      record {
        most_specific = w.1;
        no_other = λ e2 other s. alone p set ts m q d e2 other a s;
      },
    )

pub rival_dispatches : (p : Program) (set : SetId) (vs : List Value) (m : CoreSet)
    → slice_get p.sets set.0 ≡ Some m → (d : DeclId)
    → find (wins p m.decls (map (type_of p) vs)) m.decls ≡ Some d
    → list_all (is_other p m.decls (map (type_of p) vs) d) m.decls ≡ false
    → (e : DeclId) (decl : CoreDecl) → Dispatches p set vs e decl → ⊥
rival_dispatches p set vs m q d e a e2 decl h =
    let ts = map (type_of p) vs in
    let f = found (wins p m.decls ts) m.decls d e in
    let w = winner_is p set ts m q d f.1 f.0 in
    let same : d ≡ e2 = h.no_other d w.0 w.1 in
    let z : true ≡ false =
    sym (all_from (is_other p m.decls ts d) m.decls (λ x c. other_is x c same)) ∙ a in absurd cc
  where
    other_is : (x : DeclId) → Contains m.decls x → d ≡ e2
        → is_other p m.decls (map (type_of p) vs) d x ≡ true
    other_is x c same = go (x.0 == d.0) (wins p m.decls (map (type_of p) vs) x) refl refl
      where
        go : (b w : Bool) → (x.0 == d.0) ≡ b → wins p m.decls (map (type_of p) vs) x ≡ w
            → (b || not w) ≡ true
        go true w z y = refl
        go false false z y = refl
        go false true z y =
            let i = winner_is p set (map (type_of p) vs) m q x y c in
            let k : x ≡ d = h.no_other x i.0 i.1 ∙ sym same in
            let n : (x.0 == d.0) ≡ true = (Decides-eqb x.0 d.0).1 (ap (λ (i : DeclId). i.0) k) in
            let o : false ≡ true = sym z ∙ n in absurd cc
