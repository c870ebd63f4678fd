-- What a pass writes names the pass.
use Rattle.std.proofs.Common.{◌≡◌, ℕ, Bool, true, false, if◌then◌else◌, List, [], ◌∷◌, arith}
use Rattle.std.specs.List.{All}
use Rattle.std.proofs.lemmas.List.Elements.{All-cons}
use Rattle.fort_hall_test.specs.declared.book.Line.{Line}
use Rattle.fort_hall_test.specs.Lines.{line}

none : (n : ℕ) → All (λ (e : Line). e.pass ≡ n) []
none n k d l = absurd (omega arith)

-- the line that was added, if any, is of this pass
pub of_pass : (b : Bool) (n m v : ℕ) → m ≡ n
    → All (λ (e : Line). e.pass ≡ n) (if b then line m v ∷ [] else [])
of_pass true n m v is = All-cons (λ (e : Line). e.pass ≡ n) (line m v) [] is (none n)
of_pass false n m v is = none n
