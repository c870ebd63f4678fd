use Rattle.fort_front_law_decided.proofs.Whole.{tree_or_break, component_or_break, tokens_or_break, file_or_break}
use Rattle.fort_front_law_decided.proofs.laws.one_of_two.Goals as goal

pub returns-clause-tree : goal.returns-clause-tree
returns-clause-tree c =
    tree_or_break c.grouping_decides.ensures c.hierarchy_decides.ensures c.fields_decide.ensures
    c.overloads_decide.ensures c.component_is_exact.ensures.one c.each_is_translated.ensures

pub returns-clause-component : goal.returns-clause-component
returns-clause-component c =
    component_or_break c.each_is_rewritten.ensures
    (tree_or_break c.grouping_decides.ensures c.hierarchy_decides.ensures c.fields_decide.ensures
    c.overloads_decide.ensures c.component_is_exact.ensures.one c.each_is_translated.ensures)

pub returns-clause-tokens : goal.returns-clause-tokens
returns-clause-tokens c =
    tokens_or_break c.grammar_decides.ensures
    (component_or_break c.each_is_rewritten.ensures
    (tree_or_break c.grouping_decides.ensures c.hierarchy_decides.ensures c.fields_decide.ensures
    c.overloads_decide.ensures c.component_is_exact.ensures.one c.each_is_translated.ensures))

pub returns-clause-files : goal.returns-clause-files
returns-clause-files c =
    file_or_break (tokens_or_break c.grammar_decides.ensures
    (component_or_break c.each_is_rewritten.ensures
    (tree_or_break c.grouping_decides.ensures c.hierarchy_decides.ensures c.fields_decide.ensures
    c.overloads_decide.ensures c.component_is_exact.ensures.one c.each_is_translated.ensures)))
