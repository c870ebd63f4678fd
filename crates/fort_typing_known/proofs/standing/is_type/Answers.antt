use Rattle.std.proofs.Common.{◌∙◌}
use Rattle.fort_types_builtin.specs.Types.{any_spelling}
use Rattle.fort_typing_known.proofs.Searched.{type_placed, type_apart}
use Rattle.fort_typing_known.proofs.standing.is_type.Goals as goal

pub returns-then-is_some : goal.returns-then-is_some
returns-then-is_some c =
    c.if-is_some.true
    ∙ type_placed c.args.index.now.types.now c.args.spelling.now _ c.type_named.ensures
    c.if-is_some.ensures

pub returns-else-is_some : goal.returns-else-is_some
unfolding any_spelling
returns-else-is_some c =
    c.eq.ensures
    ∙ type_apart c.args.index.now.types.now c.args.spelling.now _ c.type_named.ensures
    c.if-is_some.ensures
