-- Laws of the counters' runs.
use Rattle.std.proofs.Common.{◌≡◌, ℕ, ◌≤◌, ◌<◌, List, [], ◌∷◌, ◌++◌, length, slice_index, slice_index_or, set, take, drop, zero, suc, refl, ap, ◌∙◌, subst, arith, get_or-set_same, get_or-set_other}
use Rattle.std.proofs.lemmas.List.{length-set}
use mathlib.Core.Logic.{dite}
use native.Mathlib.Decide.{ℕ_discrete}
use Rattle.fort_hall_test_machine.specs.declared.book.Entry.{Entry}
use Rattle.fort_hall_test_machine.specs.Runs.{Raises, Runs, letter, letters}

-- a run goes on by an entry that raises
pub runs_on : (s : List ℕ) (es : List Entry) (t : List ℕ) (e : Entry) → Runs s es t → Raises t e
    → Runs s (es ++ e ∷ []) (set t e.at e.to)
runs_on s [] t e is r = (subst (λ x. Raises x e) is r, ap (λ x. set x e.at e.to) is)
runs_on s (d ∷ es) t e run r = (run.0, runs_on (set s d.at d.to) es t e run.1 r)

pub runs_long : (s : List ℕ) (es : List Entry) (t : List ℕ) → Runs s es t → length t ≡ length s
runs_long s [] t is = ap length is
runs_long s (e ∷ es) t run = runs_long (set s e.at e.to) es t run.1 ∙ length-set s e.at e.to

raised_one : (s : List ℕ) (e : Entry) → Raises s e → (i : ℕ) → slice_index s i ≤ slice_index (set s e.at e.to) i
raised_one s e r i =
    dite (ℕ_discrete i e.at)
    (λ is. let same : slice_index (set s e.at e.to) i ≡ e.to = ap (slice_index (set s e.at e.to)) is ∙ get_or-set_same s e.at e.to 0 r.there in
    let found : slice_index s i ≡ e.from = ap (slice_index s) is ∙ r.found in
    omega (arith, same, found, r.rises))
    (λ not. let other : slice_index (set s e.at e.to) i ≡ slice_index s i = get_or-set_other s e.at i e.to 0 not in
    omega (arith, other))

-- counters only rise
pub runs_rise : (s : List ℕ) (es : List Entry) (t : List ℕ) → Runs s es t → (i : ℕ) → slice_index s i ≤ slice_index t i
runs_rise s [] t is i = let same : slice_index t i ≡ slice_index s i = ap (λ x. slice_index x i) is in omega (arith, same)
runs_rise s (e ∷ es) t run i =
    let first = raised_one s e run.0 i in
    let rest = runs_rise (set s e.at e.to) es t run.1 i in
    omega (arith, first, rest)

-- one letter of what is printed
pub letter_at : (es : List Entry) (n : ℕ) (d : Entry) → n < length es
    → take 1 (drop n (letters es)) ≡ letter (slice_index_or es n d) ∷ []
letter_at [] n d l = absurd (omega (arith, l))
letter_at (e ∷ es) zero d l = refl
letter_at (e ∷ es) (suc n) d l = letter_at es n d (omega (arith, l))

pub front_set : (xs : List ℕ) (x : ℕ) → 0 < length xs → take 1 (set xs 0 x) ≡ x ∷ []
front_set [] x l = absurd (omega (arith, l))
front_set (y ∷ xs) x l = refl
