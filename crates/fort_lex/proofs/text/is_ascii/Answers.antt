use Rattle.std.proofs.Common.{◌≡◌, ◌≢◌, ℕ, Bool, true, false, List, length, refl, ap, ◌∙◌}
use Rattle.fort_lex_scan.specs.Lists.{same}
use Rattle.fort_lex_scan.proofs.Symbols.{same_is}
use Rattle.fort_lex.proofs.text.is_ascii.Goals as goal

other_length : (v w : List ℕ) → length v ≢ length w → (b : Bool) → same v w ≡ b → false ≡ b
other_length v w n true e = absurd (n (ap length (same_is v w e)))
other_length v w n false e = refl

pub returns-then-bytes-word : goal.returns-then-bytes-word
returns-then-bytes-word c =
    other_length c.args.text.now c.args.word.now
    (λ e. c.if-bytes-word.true (ap length c.as_bytes-bytes.ensures.value ∙ e))
    (same c.args.text.now c.args.word.now) refl
