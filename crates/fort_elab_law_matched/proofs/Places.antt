-- How often a place stands in a list, and where each stands once.
use Rattle.std.proofs.Common.{◌≡◌, ℕ, ◌+◌, ◌≤◌, Bool, true, false, ◌&&◌, ◌||◌, List, [], ◌∷◌, ◌++◌, map, refl, sym, ap, ◌∙◌, subst, eq-eqb, eqb-true, arith}
use Rattle.std.specs.Prelude.{nat_eq}
use Rattle.std.specs.List.{list_any}
use Rattle.std.proofs.lemmas.List.{map-append}
use Rattle.fort_base.specs.declared.refusal.Place.{Place}
use Rattle.fort_lex_token.specs.declared.token.Token.{Token}
use Rattle.fort_elab_meaning.specs.Bodies.{same_place}
use Rattle.fort_elab_law_written.specs.Matching.{PlacesOnce}
use Rattle.fort_elab_law_matched.specs.Component.{token_place}

pub both : (a b : Bool) → (a && b) ≡ true → (a ≡ true) × (b ≡ true)
both true b e = (refl, e)
both false b e = absurd cc

-- ---- places

abbrev place_at : ℕ → ℕ → Place
place_at line column = record { line = line; column = column }

pub same_told : (p q : Place) → same_place p q ≡ true → p ≡ q
same_told p q e = let r = both (nat_eq p.line q.line) (nat_eq p.column q.column) e in
    ap (λ n. place_at n p.column) (eqb-true p.line q.line r.0)
    ∙ ap (place_at q.line) (eqb-true p.column q.column r.1)

pub same_itself : (p : Place) → same_place p p ≡ true
same_itself p =
    ap (λ b. b && nat_eq p.column p.column) (eq-eqb p.line p.line refl)
    ∙ eq-eqb p.column p.column refl

pub same_turned : (p q : Place) → same_place p q ≡ true → same_place q p ≡ true
same_turned p q e = subst (λ z. same_place z p ≡ true) (same_told p q e) (same_itself p)

-- ---- how often a place stands in a list

abbrev pub one : Bool → ℕ
one true = 1
one false = 0

abbrev pub times : Place → List Place → ℕ
times p [] = 0
times p (x ∷ xs) = one (same_place p x) + times p xs

pub times_append : (p : Place) (xs ys : List Place) → times p (xs ++ ys) ≡ times p xs + times p ys
times_append p [] ys = omega arith
times_append p (x ∷ xs) ys = let e = times_append p xs ys in omega arith

none_step : (b rest : Bool) (n : ℕ) → (n ≡ 0 → rest ≡ false) → one b + n ≡ 0 → (b || rest) ≡ false
none_step true rest n h e = absurd (omega (arith, e))
none_step false rest n h e = h (omega (arith, e))

none_among : (p : Place) (xs : List Place) → times p xs ≡ 0 → list_any (same_place p) xs ≡ false
none_among p [] e = refl
none_among p (x ∷ xs) e =
    none_step (same_place p x) (list_any (same_place p) xs) (times p xs) (none_among p xs) e

-- Where no place stands in a list more often, each stands in it once.
pub places_once : (xs : List Place) → ((p : Place) → times p xs ≤ 1) → PlacesOnce xs
places_once [] few = tt
places_once (x ∷ xs) few = (
  none_among x xs (let f = few x in let s : one (same_place x x) ≡ 1 = ap one (same_itself x)
      in omega arith),
  places_once xs (λ p. let f = few p in omega arith),
)

none_back : (b rest : Bool) (n : ℕ) → (rest ≡ false → n ≡ 0) → (b || rest) ≡ false → one b + n ≡ 0
none_back true rest n h e = absurd cc
none_back false rest n h e = let r = h e in omega arith

none_times : (p : Place) (xs : List Place) → list_any (same_place p) xs ≡ false → times p xs ≡ 0
none_times p [] e = refl
none_times p (x ∷ xs) e =
    none_back (same_place p x) (list_any (same_place p) xs) (times p xs) (none_times p xs) e

once_step : (p x : Place) (xs : List Place) (b : Bool) → same_place p x ≡ b → times x xs ≡ 0
    → times p xs ≤ 1 → one b + times p xs ≤ 1
once_step p x xs true e none few =
    let r : times p xs ≡ 0 = subst (λ z. times z xs ≡ 0) (sym (same_told p x e)) none in omega arith
once_step p x xs false e none few = omega arith

-- The other way round.
pub once_times : (p : Place) (xs : List Place) → PlacesOnce xs → times p xs ≤ 1
once_times p [] once = omega arith
once_times p (x ∷ xs) once =
    once_step p x xs (same_place p x) refl (none_times x xs once.0) (once_times p xs once.1)

-- ---- how often a place is that of a token

abbrev pub standing : Place → List Token → ℕ
standing p ts = times p (map token_place ts)

pub standing_append : (p : Place) (ts us : List Token)
    → standing p (ts ++ us) ≡ standing p ts + standing p us
standing_append p ts us =
    ap (times p) (map-append token_place ts us)
    ∙ times_append p (map token_place ts) (map token_place us)
