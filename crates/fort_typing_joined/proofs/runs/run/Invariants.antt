use Rattle.std.proofs.Common.{◌≡◌, ◌-◌, length}
use Rattle.fort_typing_known.specs.Read.{facts}
use Rattle.fort_typing_meaning.specs.Joining.{run_within}
use Rattle.fort_typing_joined.proofs.runs.run.Given as goal

abbrev pub invariant-loop-count : goal.invariant-loop-count
invariant-loop-count l =
    run_within (facts l.known) (length l.fn.parts) l.fn.found l.fn.parts
    ≡ run_within (facts l.known) (length l.fn.parts - l.count) l.first l.rest
