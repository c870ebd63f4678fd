-- The earliest of places that are walked.
use Rattle.std.proofs.Common.{◌≡◌, ◌++◌, [], ◌∷◌, inl, inr, List, Contains, Option, Some, None, sym, subst, arith}
use Rattle.std.proofs.lemmas.List.Elements.{Contains-append_left, Contains-push, Contains-push_cases}
use Rattle.fort_base.specs.declared.refusal.Place.{Place}
use Rattle.fort_base.specs.Places.{IsBefore, IsFirst, Keeps}

not_before : (a b c : Place) → (IsBefore a b → ⊥) → (IsBefore b c → ⊥) → IsBefore a c → ⊥
not_before a b c p q r = grind arith

through : (a b c : Place) → IsBefore a b → IsBefore b c → IsBefore a c
through a b c p q = grind arith

not_itself : (a : Place) → IsBefore a a → ⊥
not_itself a p = grind arith

-- the same place is not before itself
pub not_same : (a b : Place) → a ≡ b → IsBefore b a → ⊥
not_same a b e w = not_itself a (subst (λ z. IsBefore z a) (sym e) w)

-- what is kept of the earliest so far and a further place is the earliest of all
pub first_push : (xs : List Place) (p : Place) (best kept : Option Place)
    → IsFirst (Contains xs) best → Keeps best p kept → IsFirst (Contains (xs ++ p ∷ [])) kept
first_push xs p None kept f k = subst (IsFirst (Contains (xs ++ p ∷ []))) (sym k) (record {
  breaks = Contains-push xs p;
  none_before = λ other w b. elim (Contains-push_cases xs p other w) as (λ _. ⊥) [
    | inl c ↦ f other c
    | inr e ↦ not_same p other e b
  ];
})
first_push xs p (Some best) kept f k = elim k as (λ _. IsFirst (Contains (xs ++ p ∷ [])) kept) [
  | inl w ↦ subst (IsFirst (Contains (xs ++ p ∷ []))) (sym w.1) (record {
    breaks = Contains-append_left xs (p ∷ []) best f.breaks;
    none_before = λ other v b. elim (Contains-push_cases xs p other v) as (λ _. ⊥) [
      | inl c ↦ f.none_before other c b
      | inr e ↦
          not_itself best (through best p best w.0 (subst (λ z. IsBefore z best) (sym e) b))
    ];
  })
  | inr w ↦ subst (IsFirst (Contains (xs ++ p ∷ []))) (sym w.1) (record {
    breaks = Contains-push xs p;
    none_before = λ other v b. elim (Contains-push_cases xs p other v) as (λ _. ⊥) [
      | inl c ↦ not_before other best p (f.none_before other c) w.0 b
      | inr e ↦ not_same p other e b
    ];
  })
]

-- no place is the earliest of none
pub first_none : IsFirst (Contains []) None
first_none place w = let l = w.1 in omega arith
