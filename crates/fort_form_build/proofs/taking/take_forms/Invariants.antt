use Rattle.std.proofs.Common.{◌≡◌, ◌++◌, length}
use Rattle.fort_form_build.proofs.taking.take_forms.Given as goal

abbrev pub invariant-loop-at : goal.invariant-loop-at
invariant-loop-at l = (l.fn.forms ≡ l.taken ++ l.forms) × (length l.taken ≡ l.at)
