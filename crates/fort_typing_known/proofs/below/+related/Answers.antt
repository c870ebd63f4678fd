use Rattle.std.proofs.Common.{◌∙◌, length, ap, sym}
use Rattle.std.proofs.lemmas.List.{length-map}
use Rattle.fort_typing_known.proofs.Parts.{each_below-apart}
use Rattle.fort_typing_known.proofs.below.+related.Goals as goal

pub all_related-returns-then-left-right : goal.all_related-returns-then-left-right
all_related-returns-then-left-right t c =
    each_below-apart _ _ _
    (λ e. c.if-left-right.true (ap length c.as_slice-left.ensures ∙ sym (length-map _ _) ∙ e
    ∙ sym (ap length c.as_slice-right.ensures)))
