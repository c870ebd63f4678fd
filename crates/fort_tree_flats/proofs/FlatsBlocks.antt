-- The flat expressions of each form that ends with `end` and of its parts.
use Rattle.std.proofs.Common.{◌≡◌, List, ◌++◌, Option, ap, ◌∙◌}
use Rattle.std.specs.Prelude.{map, option_map}
use Rattle.fort_tree.specs.declared.spot.Spot.{Spot}
use Rattle.fort_tree.specs.declared.spot.Name.{Name}
use Rattle.fort_tree.specs.declared.spot.NextName.{NextName}
use Rattle.fort_tree.specs.declared.types.TypeTree.{TypeTree}
use Rattle.fort_tree.specs.declared.delimited.Delimited.TheVariants as a_delimited
use Rattle.fort_tree.specs.declared.delimited.Item.TheVariants as an_item
use Rattle.fort_tree.specs.declared.expr.Expr.{Expr}
use Rattle.fort_tree.specs.declared.expr.Generator.{Generator}
use Rattle.fort_tree.specs.declared.declarations.Variable.{Variable, out-Variable}
use Rattle.fort_tree.specs.declared.delimited.Also.{Also, out-Also}
use Rattle.fort_tree.specs.declared.delimited.BlockItem.{BlockItem, out-BlockItem}
use Rattle.fort_tree.specs.declared.delimited.CaseClause.{CaseClause, out-CaseClause}
use Rattle.fort_tree.specs.declared.delimited.Catch.{Catch, out-Catch}
use Rattle.fort_tree.specs.declared.delimited.Elif.{Elif, out-Elif}
use Rattle.fort_tree.specs.declared.delimited.ElseBlock.{ElseBlock, out-ElseBlock}
use Rattle.fort_tree.specs.declared.delimited.ElseClause.{ElseClause, out-ElseClause}
use Rattle.fort_tree.specs.declared.delimited.Finally.{Finally, out-Finally}
use Rattle.fort_tree.specs.declared.delimited.NextGenerator.{NextGenerator, out-NextGenerator}
use Rattle.fort_tree.specs.declared.delimited.TypeClause.{TypeClause, out-TypeClause}
use Rattle.fort_tree.specs.declared.expr.Flat.{Flat}
use Rattle.fort_tree.specs.Measuring.{measured_delimited, measured_item, measured_expr, measured_generator, measured_variable, measured_also, measured_block_item, measured_case_clause, measured_catch, measured_elif, measured_else_block, measured_else_clause, measured_finally, measured_next_generator, measured_type_clause, measured_flat}
use Rattle.fort_tree.specs.declared.grouped.Row.{Row}
use Rattle.fort_tree.specs.Measured.{Measured, Listed, all_flats, maybe_measured, block_measured, listed_parts}
use Rattle.fort_tree.proofs.MeasuresBlocks.{measures-Do, measures-If, measures-While, measures-For, measures-Case, measures-Typecase, measures-Try, also_measures, elif_measures, else_block_measures, next_generator_measures, case_clause_measures, type_clause_measures, else_clause_measures, catch_measures, finally_measures, block_item_measures, measures-Variable, measures-Names, measures-Expr, variable_measures}
use Rattle.fort_tree_flats.proofs.Lists.{joined, last, two, block_of}
use Rattle.fort_tree_flats.proofs.Types.{behind_type}

pub flats-Do : (do_ : Spot) (block : List BlockItem) (others : List Also) (end : Spot)
    → (measured_delimited (a_delimited.Do do_ block others end)).flats
    ≡ all_flats (map measured_block_item block) ++ all_flats (map measured_also others)
flats-Do do_ block others end = ap (λ (m : Measured). m.flats) (measures-Do do_ block others end)
    ∙ joined (block_measured (map measured_block_item block)) (map measured_also others) ∙ ap (λ
    (u : List Row). u ++ all_flats (map measured_also others))
    (block_of (map measured_block_item block))

pub flats-If : (if_ : Spot) (condition : Flat) (then : Spot) (block : List BlockItem)
    (elifs : List Elif) (otherwise : Option ElseBlock) (end : Spot)
    → (measured_delimited (a_delimited.If if_ condition then block elifs otherwise end)).flats
    ≡ (measured_flat condition).flats
    ++ (all_flats (map measured_block_item block)
    ++ (all_flats (map measured_elif elifs)
    ++ all_flats (maybe_measured (option_map measured_else_block otherwise))))
flats-If if_ condition
    then block elifs otherwise end =
    ap (λ (m : Measured). m.flats) (measures-If if_ condition then block elifs otherwise end)
    ∙ ap (λ (u : List Row). (measured_flat condition).flats ++ u)
    (joined (block_measured (map measured_block_item block))
    (map measured_elif elifs ++ (maybe_measured (option_map measured_else_block otherwise)))
    ∙ ap (λ (u : List Row). u
    ++ all_flats
    (map measured_elif elifs ++ (maybe_measured (option_map measured_else_block otherwise))))
    (block_of (map measured_block_item block)) ∙ ap (λ
    (u : List Row). all_flats (map measured_block_item block) ++ u)
    (joined (map measured_elif elifs) (maybe_measured (option_map measured_else_block otherwise))))

pub flats-While : (while_ : Spot) (condition : Flat) (do_ : Spot) (block : List BlockItem)
    (end : Spot)
    → (measured_delimited (a_delimited.While while_ condition do_ block end)).flats
    ≡ (measured_flat condition).flats ++ all_flats (map measured_block_item block)
flats-While while_ condition do_ block end =
    ap (λ (m : Measured). m.flats) (measures-While while_ condition do_ block end) ∙ ap (λ
    (u : List Row). (measured_flat condition).flats ++ u)
    (block_of (map measured_block_item block))

pub flats-For : (for_ : Spot) (generator : Generator) (others : List NextGenerator) (do_ : Spot)
    (block : List BlockItem) (end : Spot)
    → (measured_delimited (a_delimited.For for_ generator others do_ block end)).flats
    ≡ (measured_generator generator).flats
    ++ (all_flats (map measured_next_generator others) ++ all_flats (map measured_block_item block))
flats-For for_ generator others do_ block end =
    ap (λ (m : Measured). m.flats) (measures-For for_ generator others do_ block end)
    ∙ ap (λ (u : List Row). (measured_generator generator).flats ++ u)
    (joined (map measured_next_generator others) (block_measured (map measured_block_item block))
    ∙ ap (λ (u : List Row). all_flats (map measured_next_generator others) ++ u)
    (block_of (map measured_block_item block)))

pub flats-Case : (case : Spot) (subject : Flat) (of : Spot) (clauses : List CaseClause)
    (otherwise : Option ElseClause) (end : Spot)
    → (measured_delimited (a_delimited.Case case subject of clauses otherwise end)).flats
    ≡ (measured_flat subject).flats
    ++ (all_flats (map measured_case_clause clauses)
    ++ all_flats (maybe_measured (option_map measured_else_clause otherwise)))
flats-Case case subject of clauses otherwise end =
    ap (λ (m : Measured). m.flats) (measures-Case case subject of clauses otherwise end)
    ∙ ap (λ (u : List Row). (measured_flat subject).flats ++ u)
    (joined (map measured_case_clause clauses)
    (maybe_measured (option_map measured_else_clause otherwise)))

pub flats-Typecase : (typecase : Spot) (name : Name) (equals : Spot) (subject : Flat) (of : Spot)
    (clauses : List TypeClause) (otherwise : Option ElseClause) (end : Spot)
    → (measured_delimited
    (a_delimited.Typecase typecase name equals subject of clauses otherwise end)).flats
    ≡ (measured_flat subject).flats
    ++ (all_flats (map measured_type_clause clauses)
    ++ all_flats (maybe_measured (option_map measured_else_clause otherwise)))
flats-Typecase typecase name equals subject of clauses otherwise end =
    ap (λ (m : Measured). m.flats)
    (measures-Typecase typecase name equals subject of clauses otherwise end)
    ∙ ap (λ (u : List Row). (measured_flat subject).flats ++ u)
    (joined (map measured_type_clause clauses)
    (maybe_measured (option_map measured_else_clause otherwise)))

pub flats-Try : (try_ : Spot) (block : List BlockItem) (catch : Option Catch)
    (finally : Option Finally) (end : Spot)
    → (measured_delimited (a_delimited.Try try_ block catch finally end)).flats
    ≡ all_flats (map measured_block_item block)
    ++ (all_flats (listed_parts (option_map measured_catch catch))
    ++ all_flats (maybe_measured (option_map measured_finally finally)))
flats-Try try_ block catch finally end =
    ap (λ (m : Measured). m.flats) (measures-Try try_ block catch finally end)
    ∙ joined (block_measured (map measured_block_item block))
    ((listed_parts (option_map measured_catch catch))
    ++ (maybe_measured (option_map measured_finally finally))) ∙ ap (λ
    (u : List Row). u
    ++ all_flats
    ((listed_parts (option_map measured_catch catch))
    ++ (maybe_measured (option_map measured_finally finally))))
    (block_of (map measured_block_item block)) ∙ ap (λ
    (u : List Row). all_flats (map measured_block_item block) ++ u)
    (joined (listed_parts (option_map measured_catch catch))
    (maybe_measured (option_map measured_finally finally)))

pub flats_also : (x : Also)
    → (measured_also x).flats ≡ all_flats (map measured_block_item (out-Also x).block)
flats_also x =
    ap (λ (m : Measured). m.flats) (also_measures x)
    ∙ block_of (map measured_block_item (out-Also x).block)

pub flats_elif : (x : Elif)
    → (measured_elif x).flats
    ≡ (measured_flat (out-Elif x).condition).flats
    ++ all_flats (map measured_block_item (out-Elif x).block)
flats_elif x =
    ap (λ (m : Measured). m.flats) (elif_measures x) ∙ ap (λ
    (u : List Row). (measured_flat (out-Elif x).condition).flats ++ u)
    (block_of (map measured_block_item (out-Elif x).block))

pub flats_else_block : (x : ElseBlock)
    → (measured_else_block x).flats ≡ all_flats (map measured_block_item (out-ElseBlock x).block)
flats_else_block x =
    ap (λ (m : Measured). m.flats) (else_block_measures x)
    ∙ block_of (map measured_block_item (out-ElseBlock x).block)

pub flats_next_generator : (x : NextGenerator)
    → (measured_next_generator x).flats ≡ (measured_generator (out-NextGenerator x).generator).flats
flats_next_generator x = ap (λ (m : Measured). m.flats) (next_generator_measures x)

pub flats_case_clause : (x : CaseClause)
    → (measured_case_clause x).flats
    ≡ (measured_flat (out-CaseClause x).subject).flats
    ++ (measured_expr (out-CaseClause x).value).flats
flats_case_clause x =
    ap (λ (m : Measured). m.flats) (case_clause_measures x)
    ∙ two (measured_flat (out-CaseClause x).subject) (measured_expr (out-CaseClause x).value)

pub flats_type_clause : (x : TypeClause)
    → (measured_type_clause x).flats ≡ (measured_expr (out-TypeClause x).value).flats
flats_type_clause x =
    ap (λ (m : Measured). m.flats) (type_clause_measures x)
    ∙ behind_type (out-TypeClause x).ty (measured_expr (out-TypeClause x).value)

pub flats_else_clause : (x : ElseClause)
    → (measured_else_clause x).flats ≡ (measured_expr (out-ElseClause x).value).flats
flats_else_clause x =
    ap (λ (m : Measured). m.flats) (else_clause_measures x)
    ∙ last (measured_expr (out-ElseClause x).value)

pub flats_catch : (x : Catch)
    → all_flats (measured_catch x).parts
    ≡ all_flats (map measured_type_clause (out-Catch x).clauses)
flats_catch x = ap (λ (l : Listed). all_flats l.parts) (catch_measures x)

pub flats_finally : (x : Finally)
    → (measured_finally x).flats ≡ all_flats (map measured_block_item (out-Finally x).block)
flats_finally x =
    ap (λ (m : Measured). m.flats) (finally_measures x)
    ∙ block_of (map measured_block_item (out-Finally x).block)

pub flats_block_item : (x : BlockItem)
    → (measured_block_item x).flats ≡ (measured_item (out-BlockItem x).item).flats
flats_block_item x = ap (λ (m : Measured). m.flats) (block_item_measures x)

pub flats-Variable : (variable : Variable)
    → (measured_item (an_item.Variable variable)).flats ≡ (measured_variable variable).flats
flats-Variable variable = ap (λ (m : Measured). m.flats) (measures-Variable variable)

pub flats-Names : (left : Spot) (first : Name) (others : List NextName) (right colon : Spot)
    (ty : TypeTree) (equals : Spot) (value : Expr)
    → (measured_item (an_item.Names left first others right colon ty equals value)).flats
    ≡ (measured_expr value).flats
flats-Names left first others right colon ty equals value =
    ap (λ (m : Measured). m.flats) (measures-Names left first others right colon ty equals value)
    ∙ behind_type ty (measured_expr value)

pub flats-Expr : (expr : Expr)
    → (measured_item (an_item.Expr expr)).flats ≡ (measured_expr expr).flats
flats-Expr expr = ap (λ (m : Measured). m.flats) (measures-Expr expr)

pub flats_variable : (x : Variable)
    → (measured_variable x).flats ≡ (measured_expr (out-Variable x).value).flats
flats_variable x =
    ap (λ (m : Measured). m.flats) (variable_measures x)
    ∙ behind_type (out-Variable x).ty (measured_expr (out-Variable x).value)
