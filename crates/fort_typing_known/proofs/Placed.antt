-- Index of sets and types by name: the places of spellings, as they are made from the last item on.
use Rattle.std.proofs.Common.{◌≡◌, ◌<◌, ◌≤◌, ◌-◌, ℕ, zero, suc, Bool, true, false, cond, nat_eq, List, [], ◌∷◌, drop, length, slice_get, slice_set, get_or, Option, Some, None, refl, sym, subst, ap, ◌∙◌, arith}
use Rattle.std.specs.Str.{bytes_eq}
use Rattle.std.proofs.lemmas.Bool.{eqb-true, eq-eqb}
use Rattle.std.proofs.lemmas.Option.{slice_get_within, slice_get_read}
use Rattle.fort_types_sets.specs.declared.member.MemberSet.{MemberSet}
use Rattle.fort_typing_known.specs.Spellings.{Spelling}
use Rattle.fort_typing_known.specs.declared.places.Places.{Places}
use Rattle.fort_typing_known.specs.Places.{placed_as, place_by, set_name, IsChain}

-- what is left of a list begins with the item at its place
pub dropped_at : {X : Type 0} (xs : List X) (k : ℕ) (x : X) → slice_get xs k ≡ Some x
    → drop k xs ≡ x ∷ drop (suc k) xs
dropped_at [] k x e = absurd cc
dropped_at (y ∷ xs) zero x e = let f : y ≡ x = cc in ap (λ z. z ∷ xs) f
dropped_at (y ∷ xs) (suc k) x e = dropped_at xs k x e

pub dropped_all : {X : Type 0} (xs : List X) → drop (length xs) xs ≡ []
dropped_all [] = refl
dropped_all (x ∷ xs) = dropped_all xs

-- each spelling has its place among the items from this one on
pub record HasPlaces {X : Type 0} (name : X → Spelling) (xs : List X) (places : Places)
    (k : ℕ) : Type 0 where
  pub knows : (s : Spelling) → placed_as places s ≡ place_by name k (drop k xs) s

pub places_begin : {X : Type 0} (name : X → Spelling) (xs : List X) (places : Places)
    → ((s : Spelling) → placed_as places s ≡ None) → HasPlaces name xs places (length xs)
places_begin name xs places h =
    record { knows = λ s. h s ∙ sym (ap (λ ys. place_by name (length xs) ys s) (dropped_all xs)) }

pub places_more : {X : Type 0} (name : X → Spelling) (xs : List X) (old new : Places) (k : ℕ)
    (x : X) → slice_get xs k ≡ Some x → HasPlaces name xs old (suc k)
    → ((s : Spelling) → placed_as new s ≡ cond (bytes_eq (name x) s) (Some k) (placed_as old s))
    → HasPlaces name xs new k
places_more name xs old new k x e h u = record {
  knows = λ s. u s ∙ ap (λ r. cond (bytes_eq (name x) s) (Some k) r) (h.knows s)
      ∙ sym (ap (λ ys. place_by name k ys s) (dropped_at xs k x e));
}

-- the sets from this one on have the place of the next of their spelling
pub record HasNexts (sets : List MemberSet) (nexts : List (Option ℕ)) (k : ℕ) : Type 0 where
  pub long : length nexts ≡ length sets
  pub knows : (n : ℕ) (set : MemberSet) → k ≤ n → slice_get sets n ≡ Some set
      → slice_get nexts n ≡ Some (place_by set_name (suc n) (drop (suc n) sets) set.name)

set_long : {X : Type 0} (xs : List X) (k : ℕ) (r : X) → length (slice_set xs k r) ≡ length xs
set_long [] k r = refl
set_long (x ∷ xs) zero r = refl
set_long (x ∷ xs) (suc k) r = ap suc (set_long xs k r)

set_at : {X : Type 0} (xs : List X) (k : ℕ) (r : X) → k < length xs
    → slice_get (slice_set xs k r) k ≡ Some r
set_at [] k r l = absurd (omega arith)
set_at (x ∷ xs) zero r l = refl
set_at (x ∷ xs) (suc k) r l = set_at xs k r (omega arith)

set_apart : {X : Type 0} (xs : List X) (k n : ℕ) (r : X) → k < n
    → slice_get (slice_set xs k r) n ≡ slice_get xs n
set_apart [] k n r l = refl
set_apart (x ∷ xs) k zero r l = absurd (omega arith)
set_apart (x ∷ xs) zero (suc n) r l = refl
set_apart (x ∷ xs) (suc k) (suc n) r l = set_apart xs k n r (omega arith)

pub nexts_begin : (sets : List MemberSet) (nexts : List (Option ℕ)) → length nexts ≡ length sets
    → HasNexts sets nexts (length sets)
nexts_begin sets nexts e =
    record {
      long = e;
      knows = λ n set l g. let w = slice_get_within sets n set g
          in absurd (omega arith);
    }

behind : (n k : ℕ) → k ≤ n → nat_eq n k ≡ false → k < n
behind n k l q = apart (λ e. let t : nat_eq n k ≡ true = eq-eqb n k e in clash t)
  where
    clash : nat_eq n k ≡ true → ⊥
    clash t = absurd cc

    apart : (n ≡ k → ⊥) → k < n
    apart f = omega (arith, f)

more_by : (sets : List MemberSet) (old : List (Option ℕ)) (k n : ℕ) (x set : MemberSet)
    (r : Option ℕ) → length old ≡ length sets → slice_get sets k ≡ Some x
    → slice_get sets n ≡ Some set
    → r ≡ place_by set_name (suc k) (drop (suc k) sets) x.name → n ≡ k
    → slice_get (slice_set old k r) n
    ≡ Some (place_by set_name (suc n) (drop (suc n) sets) set.name)
more_by sets old k n x set r long a g e q =
    let w = slice_get_within sets k x a
    in let same : x ≡ set = once (sym a ∙ ap (slice_get sets) (sym q) ∙ g) in
    ap (slice_get (slice_set old k r)) q ∙ set_at old k r (omega arith)
    ∙ ap Some (e ∙ ap (λ (m : ℕ). place_by set_name (suc m) (drop (suc m) sets) x.name) (sym q)
    ∙ ap (λ (z : MemberSet). place_by set_name (suc n) (drop (suc n) sets) z.name) same)
  where
    once : Some x ≡ Some set → x ≡ set
    once f = cc

pub nexts_more : (sets : List MemberSet) (old : List (Option ℕ)) (k : ℕ) (x : MemberSet)
    (r : Option ℕ) → HasNexts sets old (suc k) → slice_get sets k ≡ Some x
    → r ≡ place_by set_name (suc k) (drop (suc k) sets) x.name → HasNexts sets (slice_set old k r) k
nexts_more sets old k x r h a e = record {
  long = set_long old k r ∙ h.long;
  knows = λ n set l g. by n set l g (nat_eq n k) refl;
}
  where
    by : (n : ℕ) (set : MemberSet) → k ≤ n → slice_get sets n ≡ Some set → (b : Bool)
        → nat_eq n k ≡ b
        → slice_get (slice_set old k r) n
        ≡ Some (place_by set_name (suc n) (drop (suc n) sets) set.name)
    by n set l g true q = more_by sets old k n x set r h.long a g e (eqb-true n k q)
    by n set l g false q = let m = behind n k l q in set_apart old k n r m ∙ h.knows n set m g

pub nexts_all : (sets : List MemberSet) (nexts : List (Option ℕ)) (k : ℕ) → k ≤ 0
    → HasNexts sets nexts k → IsChain sets nexts
nexts_all sets nexts k l h = λ n set g. h.knows n set (omega arith) g

-- ---- the loop

one_fewer : (n : ℕ) → 0 < n → n ≡ suc (n - 1)
one_fewer n l = omega arith

pub sets_more : (sets : List MemberSet) (old new : Places) (nexts : List (Option ℕ)) (n : ℕ)
    (x : MemberSet) (name : Spelling) (r : Option ℕ) → 0 < n
    → (n ≤ length sets) × HasPlaces set_name sets old n × HasNexts sets nexts n
    → x ≡ get_or sets (n - 1) x → name ≡ x.name
    → ((s : Spelling) → placed_as new s ≡ cond (bytes_eq name s) (Some (n - 1)) (placed_as old s))
    → r ≡ placed_as old name
    → (n - 1 ≤ length sets) × HasPlaces set_name sets new (n - 1)
    × HasNexts sets (slice_set nexts (n - 1) r) (n - 1)
sets_more sets old new nexts n x name r l h a e u f =
    let m = h.0 in let at = slice_get_read sets (length sets) (n - 1) x refl (omega arith) a in
    let was = subst (HasPlaces set_name sets old) (one_fewer n l) h.1 in (
      omega arith,
      places_more set_name sets old new (n - 1) x at was (λ s. u s
          ∙ ap (λ z. cond (bytes_eq z s) (Some (n - 1)) (placed_as old s)) e),
      nexts_more sets nexts (n - 1) x r (subst (HasNexts sets nexts) (one_fewer n l) h.2) at (f
          ∙ ap (placed_as old) e ∙ was.knows x.name),
    )
