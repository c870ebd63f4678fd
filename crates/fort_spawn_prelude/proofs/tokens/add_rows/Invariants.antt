use Rattle.std.proofs.Common.{◌≡◌, ◌++◌, map, take}
use Rattle.fort_spawn_prelude.specs.Table.{entry_of}
use Rattle.fort_spawn_prelude.specs.Prelude.{id_in, tokens_from}
use Rattle.fort_spawn_prelude.proofs.tokens.add_rows.Given as goal

abbrev pub invariant-loop-i : goal.invariant-loop-i
invariant-loop-i l =
    l.tokens
    ≡ l.fn.tokens ++ tokens_from (id_in l.names) l.first (map entry_of (take l.i l.rows))
