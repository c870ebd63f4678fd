use Rattle.std.proofs.Common.{sym, ◌∙◌}
use Rattle.fort_link.proofs.Several.{main_is_there, end_is_there}
use Rattle.fort_link.proofs.linking.whole_of.Goals as goal

pub unreachable-requires : goal.unreachable-requires
unreachable-requires c =
    main_is_there c.args.found.table.names c.as_slice.result.now c.args.found.units
    c.as_slice-2.result.now c.as_slice.ensures c.as_slice-2.ensures c.requires.some
    c.requires.keep (sym c.in-None.is ∙ c.main_head.ensures)

pub unreachable-requires-in-None-last_end : goal.unreachable-requires-in-None-last_end
unreachable-requires-in-None-last_end c =
    end_is_there c.args.found.table.names c.args.found.units c.as_slice-3.result.now
    c.as_slice-3.ensures c.requires.some c.requires.keep
    (sym c.in-None-last_end.is ∙ c.last_end.ensures)
