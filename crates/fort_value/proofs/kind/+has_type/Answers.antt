use Rattle.std.proofs.Common.{◌∙◌, length, ap, sym}
use Rattle.std.proofs.lemmas.List.{length-map}
use Rattle.fort_value.proofs.Parts.{each_below-apart}
use Rattle.fort_value.proofs.kind.+has_type.Goals as goal

pub all_have-returns-then-left-right : goal.all_have-returns-then-left-right
all_have-returns-then-left-right t c =
    each_below-apart _ _ _ (
    λ e.
    c.if-left-right.true (
    ap length c.as_slice-left.ensures ∙ sym (length-map _ _ ∙ length-map _ _) ∙ e
    ∙ sym (ap length c.as_slice-right.ensures)
    )
    )
