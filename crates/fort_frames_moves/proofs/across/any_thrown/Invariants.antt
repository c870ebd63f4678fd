use Rattle.std.proofs.Common.{◌≡◌, drop}
use Rattle.std.specs.List.{list_any}
use Rattle.fort_machine.specs.Ends.{is_thrown}
use Rattle.fort_frames_moves.proofs.across.any_thrown.Given as goal

abbrev pub invariant-loop-part : goal.invariant-loop-part
invariant-loop-part l =
    list_any is_thrown l.part-items ≡ list_any is_thrown (drop l.part-index l.part-items)
