use Rattle.std.proofs.Common.{◌≡◌, ◌∷◌, ◌++◌, take}
use Rattle.std.specs.List.{flat_map}
use Rattle.fort_lex_canonical.specs.Canonical.{escaped}
use Rattle.fort_lex_canonical.proofs.text.push_quoted.Given as goal

abbrev pub invariant-loop-byte : goal.invariant-loop-byte
invariant-loop-byte l = l.text ≡ l.fn.text ++ 34 ∷ flat_map escaped (take l.byte-index l.said)
