use Rattle.std.proofs.Common.{◌≡◌, map, take}
use Rattle.fort_link_table.specs.Table.{token_in}
use Rattle.fort_link_table.proofs.table.Whole.tokens.Given as goal

abbrev pub invariant-loop-i : goal.invariant-loop-i
invariant-loop-i l =
    l.list ≡ map (token_in l.self.own.now l.self.all.now l.self.texts l.self.lines)
    (take l.i l.tokens)
