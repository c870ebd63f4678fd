use Rattle.std.proofs.Common.{◌≡◌, ◌++◌, length}
use Rattle.std.specs.List.{flat_map}
use Rattle.fort_form_build.specs.Taking.{branch_forms}
use Rattle.fort_form_build.proofs.taking.take_branches.Given as goal

abbrev pub invariant-loop-at : goal.invariant-loop-at
invariant-loop-at l = (l.fn.forms ≡ flat_map branch_forms l.taken ++ l.forms)
    × (length l.taken ≡ l.at)
