use Rattle.std.proofs.Common.{◌≡◌, ◌-◌, ◌<◌, length, subst, arith, Some, ap}
use Rattle.fort_parse_types.specs.Longest.{NoLongerType, LongestType}
use Rattle.fort_parse_types.proofs.LongestTypes.{no_longer, read_longest}
use Rattle.fort_parse_types.proofs.longest.longest_type.Goals as goal

pub shorter_type-requires-clause-none_longer : goal.shorter_type-requires-clause-none_longer
shorter_type-requires-clause-none_longer c =
    let names = c.grammar.result.names.now in
    let ts = c.new-cursor.result in
    let rest = c.type_tree.new.tokens in
    let size = ap length c.new-cursor.ensures in
    let at : length ts - length rest ≡ c.saturating_sub-in-Err-Syntax.result = omega (arith, size)
    in
    subst (λ ns. NoLongerType ns c.args.tokens.now c.saturating_sub-in-Err-Syntax.result)
    c.grammar.ensures.names
    (subst (λ us. NoLongerType names us c.saturating_sub-in-Err-Syntax.result) c.new-cursor.ensures
    (subst (λ k. NoLongerType names ts k) at
    (no_longer names c.grammar.result.depth ts rest (grind arith))))

pub returns-in-Ok : goal.returns-in-Ok
returns-in-Ok c =
    let names = c.grammar.result.names.now in
    let ts = c.new-cursor.result in
    let rest = c.type_tree.new.tokens in
    let size = ap length c.new-cursor.ensures in
    let at : length ts - length rest ≡ c.saturating_sub.result = omega (arith, size) in
    let lt : length ts < c.grammar.result.depth = omega (arith, size) in
    subst (λ ns. LongestType ns c.args.tokens.now (Some (c.in-Ok.ty, c.saturating_sub.result)))
    c.grammar.ensures.names
    (subst (λ us. LongestType names us (Some (c.in-Ok.ty, c.saturating_sub.result)))
    c.new-cursor.ensures
    (subst (λ k. LongestType names ts (Some (c.in-Ok.ty, k))) at
    (read_longest names c.grammar.result.depth ts c.in-Ok.ty rest lt c.in-Ok.ensures)))
