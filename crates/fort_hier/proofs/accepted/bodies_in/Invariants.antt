use Rattle.std.proofs.Common.{◌≡◌, ◌++◌, None, map, take}
use Rattle.std.specs.Prelude.{replicate}
use Rattle.fort_types_builtin.specs.declared.types.TheConstants.{TYPE_COUNT}
use Rattle.fort_hier.specs.Heads.{head_body}
use Rattle.fort_hier.proofs.accepted.bodies_in.Given as goal

abbrev pub invariant-loop-i : goal.invariant-loop-i
invariant-loop-i l = l.bodies ≡ replicate TYPE_COUNT None ++ map head_body (take l.i l.heads)
