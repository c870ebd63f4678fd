use Rattle.std.proofs.Common.{◌≡◌, map, take}
use Rattle.fort_cmd.proofs.command.bytes_of.Given as goal

abbrev pub invariant-loop-word : goal.invariant-loop-word
invariant-loop-word l = l.all ≡ map (λ word. word.now) (take l.word-index l.words)
