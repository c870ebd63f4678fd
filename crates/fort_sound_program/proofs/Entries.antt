-- The members of sets are the declarations of a component, and each of these is a member.
use Rattle.std.proofs.Common.{◌≡◌, ℕ, zero, suc, Bool, true, false, not, ◌||◌, cond, List, [], ◌∷◌, map, Some, refl, sym, ap, ◌∙◌, subst}
use Rattle.std.specs.Prelude.{filter}
use Rattle.std.specs.List.{slice_get, list_any, AllByRecursion}
use Rattle.fort_tree.specs.declared.declarations.Component.{Component}
use Rattle.fort_types_sets.specs.declared.member.Member.{Member}
use Rattle.fort_types_sets.specs.declared.member.MemberSet.{MemberSet}
use Rattle.fort_types_sets.specs.declared.member.Members.{Members}
use Rattle.fort_types_sets.specs.Rules.{StandsAt}
use Rattle.fort_member.specs.declared.entries.Entry.{Entry}
use Rattle.fort_member.specs.Answers.{AreMembers}
use Rattle.fort_member.specs.Declarations.{entries_of}
use Rattle.fort_member.specs.Sets.{Key, key_of, same_key, belongs, member_of, keys_of, set_of, sets_of}
use Rattle.fort_member.proofs.Numbered.{all_item}
use Rattle.fort_member.proofs.SetLaws.{key_told, key_same, get_mapped, get_of_mapped}
use Rattle.fort_member.proofs.WellMadeLaws.{comes_from}

-- what all declarations have is so of each member
module _ (c : Component) (m : Members) (has : AreMembers c m) (P : Member → Type 0)
    (all : AllByRecursion (λ (e : Entry). P e.member) (entries_of c)) where
  pub of_members : (n : ℕ) (s : MemberSet) → slice_get m.sets n ≡ Some s → (i : ℕ) (d : Member)
      → StandsAt s i d → P d
  of_members n s e i d st =
      let es = entries_of c in
      let k = get_mapped (set_of es) (keys_of es) n s (ap (λ z. slice_get z n) (sym has.sets) ∙ e)
      in
      let w = comes_from k.0 es d i (ap (λ (z : MemberSet). slice_get z.members i) k.2 ∙ st) in
      subst P w.4 (all_item (λ (e : Entry). P e.member) es w.1 w.0 all w.2)

-- ---- each declaration stands in a set

-- items that pass stay
kept_step : {X : Type 0} (y x : X) (fs : List X) (i : ℕ) (b : Bool) → slice_get fs i ≡ Some x
    → (j : ℕ) × (slice_get (cond b (y ∷ fs) fs) j ≡ Some x)
kept_step y x fs i true e = (suc i, e)
kept_step y x fs i false e = (i, e)

here_step : {X : Type 0} (x : X) (fs : List X) (b : Bool) → b ≡ true
    → (j : ℕ) × (slice_get (cond b (x ∷ fs) fs) j ≡ Some x)
here_step x fs true e = (0, refl)
here_step x fs false e = absurd cc

pub filtered : {X : Type 0} (test : X → Bool) (xs : List X) (i : ℕ) (x : X)
    → slice_get xs i ≡ Some x → test x ≡ true → (j : ℕ) × (slice_get (filter test xs) j ≡ Some x)
filtered test [] i x e t = absurd cc
filtered test (y ∷ xs) zero x e t = let same : y ≡ x = cc in
    subst (λ z.
    (j : ℕ) × (slice_get (cond (test z) (z ∷ filter test xs) (filter test xs)) j ≡ Some x))
    (sym same) (here_step x (filter test xs) (test x) t)
filtered test (y ∷ xs) (suc i) x e t =
    let w = filtered test xs i x e t in kept_step y x (filter test xs) w.0 (test y) w.1

key_step : (x : Entry) (k : Key) (ks : List Key) (i : ℕ) (b : Bool) → same_key k (key_of x) ≡ b
    → slice_get ks i ≡ Some k
    → (j : ℕ) × (slice_get (key_of x ∷ filter (λ l. not (same_key l (key_of x))) ks) j ≡ Some k)
key_step x k ks i true q e = (0, ap Some (sym (key_told k (key_of x) q)))
key_step x k ks i false q e =
    let w = filtered (λ l. not (same_key l (key_of x))) ks i k e (ap not q) in (suc w.0, w.1)

pub has_key : (es : List Entry) (i : ℕ) (e : Entry) → slice_get es i ≡ Some e
    → (j : ℕ) × (slice_get (keys_of es) j ≡ Some (key_of e))
has_key [] i e g = absurd cc
has_key (x ∷ es) zero e g = let same : x ≡ e = cc in (0, ap (λ (z : Entry). Some (key_of z)) same)
has_key (x ∷ es) (suc i) e g =
    let w = has_key es i e g
    in key_step x (key_of e) (keys_of es) w.0 (same_key (key_of e) (key_of x)) refl w.1

any_step : (b c : Bool) → b ≡ true → (b || c) ≡ true
any_step true c e = refl
any_step false c e = absurd cc

any_later : (b c : Bool) → c ≡ true → (b || c) ≡ true
any_later true c e = refl
any_later false c e = e

pub any_at : {X : Type 0} (test : X → Bool) (xs : List X) (i : ℕ) (x : X) → slice_get xs i ≡ Some x
    → test x ≡ true → list_any test xs ≡ true
any_at test [] i x e t = absurd cc
any_at test (y ∷ xs) zero x e t =
    let same : y ≡ x = cc in any_step (test y) (list_any test xs) (ap test same ∙ t)
any_at test (y ∷ xs) (suc i) x e t = any_later (test y) (list_any test xs) (any_at test xs i x e t)

-- where a declaration passes, some member of some set does
pub some_member : (test : Member → Bool) (es : List Entry) (i : ℕ) (e : Entry)
    → slice_get es i ≡ Some e → test e.member ≡ true
    → list_any (λ (s : MemberSet). list_any test s.members) (sets_of es) ≡ true
some_member test es i e g t =
    let k = has_key es i e g in
    let f = filtered (belongs (key_of e)) es i e g (key_same (key_of e)) in
    any_at (λ
    (s : MemberSet). list_any test s.members) (sets_of es) k.0 (set_of es (key_of e))
    (get_of_mapped (set_of es) (keys_of es) k.0 (key_of e) k.1)
    (any_at test (map member_of (filter (belongs (key_of e)) es)) f.0 e.member
    (get_of_mapped member_of (filter (belongs (key_of e)) es) f.0 e f.1) t)
