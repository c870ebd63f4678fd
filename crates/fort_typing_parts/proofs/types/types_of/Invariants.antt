use Rattle.std.proofs.Common.{◌≡◌, take, map}
use Rattle.fort_typing_rules.specs.Types.{type_of}
use Rattle.fort_typing_parts.proofs.types.types_of.Given as goal

abbrev pub invariant-loop-node : goal.invariant-loop-node
invariant-loop-node l = l.types ≡ map type_of (take l.node-index l.nodes)
