use Rattle.std.proofs.Common.{◌≡◌, ◌++◌, None, Some, map, take}
use Rattle.std.specs.Prelude.{replicate}
use Rattle.fort_types_builtin.specs.declared.types.TheConstants.{TYPE_COUNT}
use Rattle.fort_member.proofs.checked.places_behind.Given as goal

abbrev pub invariant-loop-number : goal.invariant-loop-number
invariant-loop-number l = l.all ≡ replicate l.number None

abbrev pub invariant-loop-place : goal.invariant-loop-place
invariant-loop-place l = l.all ≡ replicate TYPE_COUNT None ++ map Some (take l.place-index l.places)
