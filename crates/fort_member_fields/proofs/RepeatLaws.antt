-- HasFieldNamed that stand twice, and the places of 451.
use Rattle.std.proofs.Common.{◌≡◌, ◌<◌, ◌≤◌, ◌+◌, ℕ, zero, suc, List, [], ◌∷◌, take, length, Option, Some, refl, ap, ◌∙◌, arith}
use Rattle.std.specs.List.{slice_get}
use Rattle.std.proofs.lemmas.Option.{slice_get_within}
use Rattle.fort_base.specs.declared.refusal.Place.{Place}
use Rattle.fort_base.specs.Places.{IsFirst, Keeps}
use Rattle.fort_hier.proofs.First.{Among, first_same, first_more, first_all}
use Rattle.fort_types_sets.specs.declared.field.Field.{Field}
use Rattle.fort_member_fields.specs.Rules.{IsRepeated}
use Rattle.fort_member_fields.specs.Walks.{HasFieldNamed}
use Rattle.fort_member_fields.proofs.Items.{one}

-- The field at a number has the name of one before it.
abbrev pub RepeatedAt : List Field → ℕ → Place → Type 0
RepeatedAt fs j place = (i : ℕ) × (f : Field) × (g : Field) × (i < j) × (slice_get fs i ≡ Some f)
    × (slice_get fs j ≡ Some g) × (f.name ≡ g.name) × (place ≡ g.place)

in_taken : {X : Type 0} (xs : List X) (i k : ℕ) (x : X) → k < i → slice_get xs k ≡ Some x
    → slice_get (take i xs) k ≡ Some x
in_taken [] i k x l e = absurd cc
in_taken (y ∷ xs) zero k x l e = absurd (omega arith)
in_taken (y ∷ xs) (suc i) zero x l e = e
in_taken (y ∷ xs) (suc i) (suc k) x l e = in_taken xs i k x (omega arith) e

of_taken : {X : Type 0} (xs : List X) (i k : ℕ) (x : X) → slice_get (take i xs) k ≡ Some x
    → (k < i) × (slice_get xs k ≡ Some x)
of_taken [] zero k x e = absurd cc
of_taken [] (suc i) k x e = absurd cc
of_taken (y ∷ xs) zero k x e = absurd cc
of_taken (y ∷ xs) (suc i) zero x e = (omega arith, e)
of_taken (y ∷ xs) (suc i) (suc k) x e =
    let r = of_taken xs i k x e in (let l = r.0 in omega arith, r.1)

pub repeated_same : (fs : List Field) (i : ℕ) (x : Field) (best : Option Place)
    → slice_get fs i ≡ Some x → (HasFieldNamed (take i fs) x.name → ⊥)
    → IsFirst (Among (RepeatedAt fs) i) best → IsFirst (Among (RepeatedAt fs) (i + 1)) best
repeated_same fs i x best e n f = first_same (RepeatedAt fs) i best
    (λ place w. n (
      w.0,
      w.1,
      in_taken fs i w.0 w.1 w.3 w.4,
      w.6 ∙ ap (λ
          (z : Field). z.name) (one fs i x w.2 e w.5),
    )) f

pub repeated_more : (fs : List Field) (i : ℕ) (x : Field) (best kept : Option Place)
    → slice_get fs i ≡ Some x → HasFieldNamed (take i fs) x.name → Keeps best x.place kept
    → IsFirst (Among (RepeatedAt fs) i) best → IsFirst (Among (RepeatedAt fs) (i + 1)) kept
repeated_more fs i x best kept e w k f =
    let t = of_taken fs i w.0 w.1 w.2 in first_more (RepeatedAt fs) i best kept x.place
    (w.0, w.1, x, t.0, t.1, e, w.3, refl) (λ other v. v.7 ∙ ap (λ
    (z : Field). z.place) (one fs i x v.2 e v.5)) k f

pub repeated_all : (fs : List Field) (i : ℕ) (best : Option Place) → length fs ≤ i
    → IsFirst (Among (RepeatedAt fs) i) best → IsFirst (IsRepeated fs) best
repeated_all fs i best l f = first_all (RepeatedAt fs) (IsRepeated fs) i best
    (λ place w. (
      w.1,
      let m = slice_get_within fs w.1 w.3 w.6
          in omega arith,
      (w.0, w.2, w.3, w.4, w.5, w.6, w.7, w.8),
    ))
    (λ place w. (w.2.0, w.0, w.2.1, w.2.2, w.2.3, w.2.4, w.2.5, w.2.6, w.2.7)) f

-- ---- of several lists: what is earliest in one and what is earliest so far

-- A place breaks the rule in the list at a number.
abbrev pub TwiceAt : List (List Field) → ℕ → Place → Type 0
TwiceAt own a place = (fs : List Field) × (slice_get own a ≡ Some fs) × IsRepeated fs place
