use Rattle.std.proofs.Common.{◌≡◌, ◌++◌, drop}
use Rattle.std.specs.Prelude.{string_bytes, encode_utf8_all}
use Rattle.fort_lex.specs.Meanings.{said_behind, said}
use Rattle.fort_lex.proofs.builder.said.Given as goal

abbrev pub invariant-loop-i : goal.invariant-loop-i
invariant-loop-i l =
    string_bytes l.text ++ encode_utf8_all (said_behind l.escaped (drop l.i l.word))
    ≡ encode_utf8_all (said l.word)
