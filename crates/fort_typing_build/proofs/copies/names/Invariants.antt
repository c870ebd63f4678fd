use Rattle.std.proofs.Common.{◌≡◌, take, map}
use Rattle.fort_typing_rules.specs.Typing.{generator_name}
use Rattle.fort_typing_build.proofs.copies.names.Given as goal

abbrev pub invariant-loop-generator : goal.invariant-loop-generator
invariant-loop-generator l = l.names ≡ map generator_name (take l.generator-index l.generators)
