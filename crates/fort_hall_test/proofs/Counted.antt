-- Lines that are counted by pass.
use Rattle.std.proofs.Common.{◌≡◌, ◌≢◌, ℕ, zero, suc, ◌+◌, ◌≤◌, ◌==◌, cond, Bool, true, false, List, [], ◌∷◌, ◌++◌, length, refl, sym, ap, ◌∙◌, arith, eq-eqb, length-append}
use Rattle.fort_turn.specs.Book.{entries_by}
use Rattle.fort_hall_test.specs.declared.book.Line.{Line}
use Rattle.fort_hall_test.specs.Lines.{line, lines}

abbrev by_of : Line → ℕ
by_of l = l.pass

abbrev of : ℕ → List Line → List Line
of k es = entries_by by_of k es

pub length_lines : (pass k : ℕ) → length (lines pass k) ≡ k
length_lines pass zero = refl
length_lines pass (suc k) =
    let rest = length_lines pass k in omega (arith, length-append (lines pass k) (line pass k ∷ []))

-- the line of a pass is among that pass's lines
own_line : (e : Line) (es : List Line) → of e.pass (e ∷ es) ≡ e ∷ of e.pass es
own_line e es = let same : (e.pass == e.pass) ≡ true = eq-eqb e.pass e.pass refl in rw same refl

not_empty : (e : Line) (es : List Line) → e ∷ es ≡ [] → ⊥
not_empty e es is = absurd cc

below_three : (k : ℕ) (e : Line) (es : List Line) → e.pass ≡ k
    → ((n : ℕ) → 3 ≤ n → of n (e ∷ es) ≡ []) → 3 ≤ k → ⊥
below_three k e es is none high =
    not_empty e (of e.pass es) (sym (own_line e es) ∙ none e.pass (omega arith))

-- a line that names no pass from 3 on is one of three passes
counts : (k : ℕ) (e : Line) (es : List Line) → e.pass ≡ k → ((n : ℕ) → 3 ≤ n → of n (e ∷ es) ≡ [])
    → length (of 0 (e ∷ es)) + length (of 1 (e ∷ es)) + length (of 2 (e ∷ es))
    ≡ length (of 0 es) + length (of 1 es) + length (of 2 es) + 1
counts zero e es is none = rw is (omega arith)
counts (suc zero) e es is none = rw is (omega arith)
counts (suc (suc zero)) e es is none = rw is (omega arith)
counts (suc (suc (suc k))) e es is none =
    absurd (below_three (suc (suc (suc k))) e es is none (omega arith))

kept : (b : Bool) (e : Line) (xs : List Line) → cond b (e ∷ xs) xs ≡ [] → xs ≡ []
kept true e xs none = absurd (not_empty e xs none)
kept false e xs none = none

rest_none : (e : Line) (es : List Line) (n : ℕ) → of n (e ∷ es) ≡ [] → of n es ≡ []
rest_none e es n none = kept (e.pass == n) e (of n es) none

-- all lines are of the passes 0, 1 and 2
pub counted : (es : List Line) → ((n : ℕ) → 3 ≤ n → of n es ≡ [])
    → length es ≡ length (of 0 es) + length (of 1 es) + length (of 2 es)
counted [] none = refl
counted (e ∷ es) none =
    let rest = counted es (λ n l. rest_none e es n (none n l)) in
    let here = counts e.pass e es refl none in
    omega arith
