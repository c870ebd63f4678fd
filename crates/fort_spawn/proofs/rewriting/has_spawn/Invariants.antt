use Rattle.std.proofs.Common.{◌≡◌, drop}
use Rattle.std.specs.List.{list_any}
use Rattle.fort_spawn.specs.Rewritten.{is_spawn}
use Rattle.fort_spawn.proofs.rewriting.has_spawn.Given as goal

abbrev pub invariant-loop-token : goal.invariant-loop-token
invariant-loop-token l =
    list_any is_spawn l.tokens ≡ list_any is_spawn (drop l.token-index l.tokens)
