-- The chapter "Grammar", limits: what a walk over each form that ends with `end`, and each part of
-- one, finds.
use Rattle.std.proofs.Common.{◌≡◌, ◌+◌, List, [], ◌∷◌, Option, Some, None, length, ap, ◌∙◌}
use Rattle.std.specs.List.{slice_get}
use Rattle.std.specs.Prelude.{map, option_map}
use Rattle.std.proofs.lemmas.List.{length-map, append-nil}
use Rattle.fort_base.specs.declared.refusal.Place.{Place}
use Rattle.fort_tree.specs.declared.spot.Spot.{Spot}
use Rattle.fort_tree.specs.declared.spot.Name.{Name}
use Rattle.fort_tree.specs.declared.spot.NextName.{NextName}
use Rattle.fort_tree.specs.declared.types.TypeTree.{TypeTree}
use Rattle.fort_tree.specs.declared.delimited.Delimited.TheVariants as a_delimited
use Rattle.fort_tree.specs.declared.delimited.Item.TheVariants as an_item
use Rattle.fort_tree.specs.declared.expr.Expr.{Expr}
use Rattle.fort_tree.specs.declared.expr.Generator.{Generator}
use Rattle.fort_tree.specs.declared.declarations.Variable.{Variable, out-Variable}
use Rattle.fort_tree.specs.declared.delimited.Also.{Also, out-Also}
use Rattle.fort_tree.specs.declared.delimited.BlockItem.{BlockItem, out-BlockItem}
use Rattle.fort_tree.specs.declared.delimited.CaseClause.{CaseClause, out-CaseClause}
use Rattle.fort_tree.specs.declared.delimited.Catch.{Catch, out-Catch}
use Rattle.fort_tree.specs.declared.delimited.Elif.{Elif, out-Elif}
use Rattle.fort_tree.specs.declared.delimited.ElseBlock.{ElseBlock, out-ElseBlock}
use Rattle.fort_tree.specs.declared.delimited.ElseClause.{ElseClause, out-ElseClause}
use Rattle.fort_tree.specs.declared.delimited.Finally.{Finally, out-Finally}
use Rattle.fort_tree.specs.declared.delimited.NextGenerator.{NextGenerator, out-NextGenerator}
use Rattle.fort_tree.specs.declared.delimited.TypeClause.{TypeClause, out-TypeClause}
use Rattle.fort_tree.specs.declared.expr.Flat.{Flat}
use Rattle.fort_tree.specs.Measuring.{measured_delimited, measured_item, measured_expr, measured_generator, measured_variable, measured_also, measured_block_item, measured_case_clause, measured_catch, measured_elif, measured_else_block, measured_else_clause, measured_finally, measured_next_generator, measured_type_clause, measured_flat}
use Rattle.fort_tree.specs.Measured.{Measured, all_crowded, block_measured, listed_parts, maybe_measured, most_generators, most_items, most_also_blocks, most_clauses, over}
use Rattle.fort_tree.specs.Measures.{measured_type}
use Rattle.fort_tree.proofs.MeasuresBlocks.{measures-Do, measures-If, measures-While, measures-For, measures-Case, measures-Typecase, measures-Try, also_measures, elif_measures, else_block_measures, next_generator_measures, case_clause_measures, type_clause_measures, else_clause_measures, catch_measures, finally_measures, block_item_measures, variable_measures, measures-Variable, measures-Names, measures-Expr}
use Rattle.fort_tree_limits.specs.Earliest.{earliest}
use Rattle.fort_tree_limits.proofs.EarliestLaws.{all_crowded-append, earliest_append, earliest_none}

pub walks-Do : (found : Option Place) (do_ : Spot) (block : List BlockItem) (others : List Also)
    (end : Spot)
    → earliest found (measured_delimited (a_delimited.Do do_ block others end)).crowded
    ≡ earliest
    (earliest (earliest found (over most_also_blocks (1 + length others) do_.place))
    (all_crowded (block_measured (map measured_block_item block))))
    (all_crowded (map measured_also others))
walks-Do found do_ block others end =
    simp (measures-Do, length-map, all_crowded-append, earliest_append)

pub walks-If : (found : Option Place) (if_ : Spot) (condition : Flat) (then : Spot)
    (block : List BlockItem) (elifs : List Elif) (otherwise : Option ElseBlock) (end : Spot)
    → earliest found
    (measured_delimited (a_delimited.If if_ condition then block elifs otherwise end)).crowded
    ≡ earliest
    (earliest
    (earliest (earliest found (measured_flat condition).crowded)
    (all_crowded (block_measured (map measured_block_item block))))
    (all_crowded (map measured_elif elifs)))
    (all_crowded (maybe_measured (option_map measured_else_block otherwise)))
walks-If found if_ condition
    then block elifs otherwise end = simp (measures-If, all_crowded-append, earliest_append)

pub walks-While : (found : Option Place) (while_ : Spot) (condition : Flat) (do_ : Spot)
    (block : List BlockItem) (end : Spot)
    → earliest found (measured_delimited (a_delimited.While while_ condition do_ block end)).crowded
    ≡ earliest (earliest found (measured_flat condition).crowded)
    (all_crowded (block_measured (map measured_block_item block)))
walks-While found while_ condition do_ block end =
    simp (measures-While, earliest_append, earliest_none)

pub walks-For : (found : Option Place) (for_ : Spot) (generator : Generator)
    (others : List NextGenerator) (do_ : Spot) (block : List BlockItem) (end : Spot)
    → earliest found
    (measured_delimited (a_delimited.For for_ generator others do_ block end)).crowded
    ≡ earliest
    (earliest
    (earliest (earliest found (over most_generators (1 + length others) for_.place))
    (measured_generator generator).crowded) (all_crowded (map measured_next_generator others)))
    (all_crowded (block_measured (map measured_block_item block)))
walks-For found for_ generator others do_ block end =
    simp (measures-For, length-map, all_crowded-append, earliest_append)

pub walks-Case : (found : Option Place) (case : Spot) (subject : Flat) (of : Spot)
    (clauses : List CaseClause) (otherwise : Option ElseClause) (end : Spot)
    → earliest found
    (measured_delimited (a_delimited.Case case subject of clauses otherwise end)).crowded
    ≡ earliest
    (earliest
    (earliest (earliest found (over most_clauses (length clauses) case.place))
    (measured_flat subject).crowded) (all_crowded (map measured_case_clause clauses)))
    (all_crowded (maybe_measured (option_map measured_else_clause otherwise)))
walks-Case found case subject of clauses otherwise end =
    simp (measures-Case, length-map, all_crowded-append, earliest_append)

pub walks-Typecase : (found : Option Place) (typecase : Spot) (name : Name) (equals : Spot)
    (subject : Flat) (of : Spot) (clauses : List TypeClause) (otherwise : Option ElseClause)
    (end : Spot)
    → earliest found
    (measured_delimited
    (a_delimited.Typecase typecase name equals subject of clauses otherwise end)).crowded
    ≡ earliest
    (earliest
    (earliest (earliest found (over most_clauses (length clauses) typecase.place))
    (measured_flat subject).crowded) (all_crowded (map measured_type_clause clauses)))
    (all_crowded (maybe_measured (option_map measured_else_clause otherwise)))
walks-Typecase found typecase name equals subject of clauses otherwise end =
    simp (measures-Typecase, length-map, all_crowded-append, earliest_append)

pub walks-Try : (found : Option Place) (try_ : Spot) (block : List BlockItem) (catch : Option Catch)
    (finally : Option Finally) (end : Spot)
    → earliest found (measured_delimited (a_delimited.Try try_ block catch finally end)).crowded
    ≡ earliest
    (earliest
    (earliest
    (earliest found
    (over most_clauses (length (listed_parts (option_map measured_catch catch))) try_.place))
    (all_crowded (block_measured (map measured_block_item block))))
    (all_crowded (listed_parts (option_map measured_catch catch))))
    (all_crowded (maybe_measured (option_map measured_finally finally)))
walks-Try found try_ block catch finally end =
    simp (measures-Try, all_crowded-append, earliest_append)

pub also_walks : (found : Option Place) (x : Also)
    → earliest found (measured_also x).crowded
    ≡ earliest found (all_crowded (block_measured (map measured_block_item (out-Also x).block)))
also_walks found x = simp (also_measures, earliest_append, earliest_none)

pub elif_walks : (found : Option Place) (x : Elif)
    → earliest found (measured_elif x).crowded
    ≡ earliest (earliest found (measured_flat (out-Elif x).condition).crowded)
    (all_crowded (block_measured (map measured_block_item (out-Elif x).block)))
elif_walks found x = simp (elif_measures, earliest_append, earliest_none)

pub else_block_walks : (found : Option Place) (x : ElseBlock)
    → earliest found (measured_else_block x).crowded
    ≡ earliest found
    (all_crowded (block_measured (map measured_block_item (out-ElseBlock x).block)))
else_block_walks found x = simp (else_block_measures, earliest_append, earliest_none)

pub next_generator_walks : (found : Option Place) (x : NextGenerator)
    → earliest found (measured_next_generator x).crowded
    ≡ earliest found (measured_generator (out-NextGenerator x).generator).crowded
next_generator_walks found x = simp next_generator_measures

pub case_clause_walks : (found : Option Place) (x : CaseClause)
    → earliest found (measured_case_clause x).crowded
    ≡ earliest (earliest found (measured_flat (out-CaseClause x).subject).crowded)
    (measured_expr (out-CaseClause x).value).crowded
case_clause_walks found x = simp (case_clause_measures, earliest_append, earliest_none)

pub type_clause_walks : (found : Option Place) (x : TypeClause)
    → earliest found (measured_type_clause x).crowded
    ≡ earliest (earliest found (measured_type (out-TypeClause x).ty).crowded)
    (measured_expr (out-TypeClause x).value).crowded
type_clause_walks found x = simp (type_clause_measures, earliest_append, earliest_none)

pub else_clause_walks : (found : Option Place) (x : ElseClause)
    → earliest found (measured_else_clause x).crowded
    ≡ earliest found (measured_expr (out-ElseClause x).value).crowded
else_clause_walks found x = simp (else_clause_measures, earliest_append, earliest_none)

pub catch_walks : (found : Option Place) (x : Catch)
    → earliest found (all_crowded (measured_catch x).parts)
    ≡ earliest found (all_crowded (map measured_type_clause (out-Catch x).clauses))
catch_walks found x = simp catch_measures

pub finally_walks : (found : Option Place) (x : Finally)
    → earliest found (measured_finally x).crowded
    ≡ earliest found (all_crowded (block_measured (map measured_block_item (out-Finally x).block)))
finally_walks found x = simp (finally_measures, earliest_append, earliest_none)

pub block_item_walks : (found : Option Place) (x : BlockItem)
    → earliest found (measured_block_item x).crowded
    ≡ earliest found (measured_item (out-BlockItem x).item).crowded
block_item_walks found x = simp block_item_measures

pub variable_walks : (found : Option Place) (x : Variable)
    → earliest found (measured_variable x).crowded
    ≡ earliest (earliest found (measured_type (out-Variable x).ty).crowded)
    (measured_expr (out-Variable x).value).crowded
variable_walks found x = simp (variable_measures, earliest_append, earliest_none)

pub walks-Variable : (found : Option Place) (variable : Variable)
    → earliest found (measured_item (an_item.Variable variable)).crowded
    ≡ earliest found (measured_variable variable).crowded
walks-Variable found variable = simp measures-Variable

pub walks-Names : (found : Option Place) (left : Spot) (first : Name) (others : List NextName)
    (right colon : Spot) (ty : TypeTree) (equals : Spot) (value : Expr)
    → earliest found
    (measured_item (an_item.Names left first others right colon ty equals value)).crowded
    ≡ earliest (earliest found (measured_type ty).crowded) (measured_expr value).crowded
walks-Names found left first others right colon ty equals value =
    simp (measures-Names, earliest_append, earliest_none)

pub walks-Expr : (found : Option Place) (expr : Expr)
    → earliest found (measured_item (an_item.Expr expr)).crowded
    ≡ earliest found (measured_expr expr).crowded
walks-Expr found expr = simp measures-Expr

-- a block with a first item, whose items are counted
block_walks : (found : Option Place) (m : Measured) (ms : List Measured)
    → earliest found (all_crowded (block_measured (m ∷ ms)))
    ≡ earliest (earliest found (over most_items (length (m ∷ ms)) m.spot.place))
    (all_crowded (m ∷ ms))
block_walks found m ms = simp (append-nil, earliest_append)

pub block_first : (found : Option Place) (block : List BlockItem) (first : BlockItem)
    → Some first ≡ slice_get block 0
    → earliest found (all_crowded (block_measured (map measured_block_item block)))
    ≡ earliest
    (earliest found
    (over most_items (length block) (measured_item (out-BlockItem first).item).spot.place))
    (all_crowded (map measured_block_item block))
block_first found [] first e = cc
block_first found (x ∷ xs) first e =
    let same : x ≡ first = cc in
    let all : List Place = all_crowded (map measured_block_item (x ∷ xs)) in
    block_walks found (measured_block_item x) (map measured_block_item xs)
    ∙ ap (λ n. earliest (earliest found (over most_items n (measured_block_item x).spot.place)) all)
    (length-map (x ∷ xs) measured_block_item)
    ∙ ap (λ (m : Measured). earliest
    (earliest found (over most_items (length (x ∷ xs)) m.spot.place)) all)
    (block_item_measures x)
    ∙ ap (λ (y : BlockItem). earliest
    (earliest found
    (over most_items (length (x ∷ xs)) (measured_item (out-BlockItem y).item).spot.place)) all)
    same

pub block_empty : (found : Option Place) (block : List BlockItem) → None ≡ slice_get block 0
    → earliest found (all_crowded (block_measured (map measured_block_item block))) ≡ found
block_empty found [] e = earliest_none found
block_empty found (x ∷ xs) e = cc
