use Rattle.std.proofs.Common.{◌≡◌, ◌++◌, map, drop}
use Rattle.fort_typing_rules.specs.Typing.{name_and_type}
use Rattle.fort_typing_tasks.specs.Tasks.{bindings_of}
use Rattle.fort_typing_walk.proofs.names.with_types.Given as goal

abbrev pub invariant-loop-name : goal.invariant-loop-name
invariant-loop-name l =
    l.list ++ map name_and_type (bindings_of (drop l.name-index l.names) l.rest)
    ≡ map name_and_type (bindings_of l.names l.types)
