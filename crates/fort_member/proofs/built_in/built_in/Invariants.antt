use Rattle.std.proofs.Common.{◌≡◌, map}
use Rattle.fort_member.specs.BuiltIn.{built_in_entry}
use Rattle.fort_member.proofs.built_in.built_in.Given as goal

abbrev pub invariant-loop-declaration : goal.invariant-loop-declaration
invariant-loop-declaration l = l.entries ≡ map built_in_entry l.yielded
