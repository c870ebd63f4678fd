use Rattle.std.proofs.Common.{◌≡◌, ◌++◌, take}
use Rattle.std.specs.Prelude.{map}
use Rattle.fort_link_rules.specs.Symbols.{all_symbols, next_type_symbols}
use Rattle.fort_link_rules.proofs.symbols.+types.Given as goal

abbrev pub invariant-add_next_types-loop-next : goal.invariant-add_next_types-loop-next
invariant-add_next_types-loop-next l =
    l.out ≡ l.fn.out ++ all_symbols (map next_type_symbols (take l.next-index l.types))
