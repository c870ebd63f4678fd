use Rattle.std.proofs.Common.{◌≡◌, ◌<◌, length, subst, arith, Some, None}
use Rattle.fort_parse_types.specs.Longest.{TypeOf}
use Rattle.fort_parse_types.proofs.LongestTypes.{is_type, is_more, is_none}
use Rattle.fort_parse_types.proofs.longest.whole_type.Goals as goal

pub returns-then-left-eq0 : goal.returns-then-left-eq0
returns-then-left-eq0 c =
    let none : length c.type_tree.new.tokens ≡ 0 = omega arith in
    subst (λ names. TypeOf names c.args.tokens.now (Some c.in-Ok.ty)) c.grammar.ensures.names
    (subst (λ ts. TypeOf c.grammar.result.names.now ts (Some c.in-Ok.ty)) c.new-cursor.ensures
    (is_type c.grammar.result.names.now c.grammar.result.depth c.new-cursor.result c.in-Ok.ty
    c.type_tree.new.tokens c.in-Ok.ensures none))

pub returns-else-left-eq0 : goal.returns-else-left-eq0
returns-else-left-eq0 c =
    let some : 0 < length c.type_tree.new.tokens = omega arith in
    subst (λ names. TypeOf names c.args.tokens.now None) c.grammar.ensures.names
    (subst (λ ts. TypeOf c.grammar.result.names.now ts None) c.new-cursor.ensures
    (is_more c.grammar.result.names.now c.grammar.result.depth c.new-cursor.result c.in-Ok.ty
    c.type_tree.new.tokens c.in-Ok.ensures some))

pub returns-in-Err-Syntax : goal.returns-in-Err-Syntax
returns-in-Err-Syntax c =
    subst (λ names. TypeOf names c.args.tokens.now None) c.grammar.ensures.names
    (subst (λ ts. TypeOf c.grammar.result.names.now ts None) c.new-cursor.ensures
    (is_none c.grammar.result.names.now c.grammar.result.depth c.new-cursor.result
    c.type_tree.new.tokens (grind arith)))
