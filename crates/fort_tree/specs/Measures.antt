-- The chapter "Grammar", limits: what one level of each tree measures. The code counts while it
-- walks a tree.
use Rattle.std.specs.Prelude.{◌+◌, List, [], ◌∷◌, ◌++◌, Option, Some, None, length, map}
use Rattle.fort_lex_token.specs.declared.token.Token.{Token}
use Rattle.fort_tree.specs.declared.grouped.Joint.TheVariants.{Beside, Behind}
use Rattle.fort_tree.specs.declared.grouped.Row.{Row}
use Rattle.fort_tree.specs.declared.spot.Spot.{Spot}
use Rattle.fort_tree.specs.declared.declarations.Parameters.{Parameters}
use Rattle.fort_tree.specs.declared.delimited.Delimited.TheOpen.{Delimited-F, Item-F, Atom-F, Expr-F, FlatPart-F, Generator-F, Head-F, Postfix-F, RunPart-F}
use Rattle.fort_tree.specs.declared.expr.Prefix.{Prefix}
use Rattle.fort_tree.specs.declared.expr.Prefix.TheVariants as a_prefix
use Rattle.fort_tree.specs.declared.types.NextType.{NextType}
use Rattle.fort_tree.specs.declared.types.SimpleType.{SimpleType}
use Rattle.fort_tree.specs.declared.types.TypeList.{TypeList}
use Rattle.fort_tree.specs.declared.types.TypeTree.{TypeTree}
use Rattle.fort_tree.specs.declared.types.SimpleType.TheOpen.{SimpleType-F, TypeTree-F, NextType-F, TypeList-F}
use Rattle.fort_tree.specs.declared.types.SimpleType.TheFolds.{fold-SimpleType, fold-TypeTree, fold-NextType, fold-TypeList}
use Rattle.fort_tree.specs.Types.{parameter_count}
use Rattle.fort_tree.specs.Flats.{big_first}
use Rattle.fort_tree.specs.Measured.{Measured, Joined, Listed, listed_parts, all_flats, all_crowded, made_of, made_in_type, over, maybe_measured, block_measured, most_parameters, most_tuple_parts, most_generators, most_units, most_elements, most_also_blocks, most_clauses, MeasuredDelimited, MeasuredItem, MeasuredAtom, MeasuredExpr, MeasuredFlatPart, MeasuredGenerator, MeasuredHead, MeasuredPostfix, MeasuredRunPart, MeasuredVariable, MeasuredAlso, MeasuredBlockItem, MeasuredCaseClause, MeasuredCatch, MeasuredElif, MeasuredElseBlock, MeasuredElseClause, MeasuredFinally, MeasuredNextGenerator, MeasuredTypeClause, MeasuredExprList, MeasuredFlat, MeasuredNextExpr, MeasuredOperand, MeasuredRun}

-- where a token stands
abbrev pub spot_of : Token → Spot
spot_of t = record { gap = t.gap; place = t.place }

-- ---- types and parameters

-- what a simple type measures; a list in parentheses is counted
abbrev pub measure_simple_type : SimpleType-F Measured Measured Measured Listed → Measured
measure_simple_type (SimpleType-F.Named n) = made_in_type n.spot [] []
measure_simple_type (SimpleType-F.Array array left element comma index right) =
    made_in_type array.spot [] (element ∷ [])
measure_simple_type (SimpleType-F.Parts left parts right) =
    made_in_type left (over most_tuple_parts (length (listed_parts parts)) left.place)
    (listed_parts parts)

-- what a type measures
abbrev pub measure_type_tree : TypeTree-F Measured Measured Measured Listed → Measured
measure_type_tree (TypeTree-F.Simple simple) = simple
measure_type_tree (TypeTree-F.Arrow domain arrow result) =
    made_in_type domain.spot [] (domain ∷ result ∷ [])

-- what a further type of a list measures
abbrev pub measure_next_type : NextType-F Measured Measured Measured Listed → Measured
measure_next_type next = next.ty

-- the types of a list
abbrev pub measure_type_list : TypeList-F Measured Measured Measured Listed → Listed
measure_type_list list = record { parts = list.first ∷ list.others }

-- what a type measures, at every depth
unfoldable pub measured_type : TypeTree → Measured
measured_type =
    fold-TypeTree Measured Measured Measured Listed measure_simple_type measure_type_tree
    measure_next_type measure_type_list

-- what a simple type measures, at every depth
unfoldable pub measured_simple_type : SimpleType → Measured
measured_simple_type =
    fold-SimpleType Measured Measured Measured Listed measure_simple_type measure_type_tree
    measure_next_type measure_type_list

-- the same of a further type of a list
unfoldable pub measured_next_type : NextType → Measured
measured_next_type =
    fold-NextType Measured Measured Measured Listed measure_simple_type measure_type_tree
    measure_next_type measure_type_list

-- the same of a list of types
unfoldable pub measured_type_list : TypeList → Listed
measured_type_list =
    fold-TypeList Measured Measured Measured Listed measure_simple_type measure_type_tree
    measure_next_type measure_type_list

-- what the types of parameters measure
abbrev pub measured_parameters : Option Parameters → List Measured
measured_parameters None = []
measured_parameters (Some list) =
    measured_type list.first.ty ∷ map (λ next. measured_type next.parameter.ty) list.others

-- ---- expressions

-- what an expression measures
abbrev pub measure_expr : MeasuredExpr → Measured
measure_expr (Expr-F.Flat flat) = flat
measure_expr (Expr-F.Assign target sign head value) =
    made_of target.spot [] (target ∷ (maybe_measured head ++ value ∷ []))
measure_expr (Expr-F.Open head body) = made_of head.spot [] (head ∷ body ∷ [])
measure_expr (Expr-F.OpenAssign head target sign value) =
    made_of head.spot [] (head ∷ target ∷ value ∷ [])

-- A `fn` stands at its word.
abbrev pub measure_head : MeasuredHead → Measured
measure_head (Head-F.Atomic s) = made_of s [] []
measure_head (Head-F.Tryatomic s) = made_of s [] []
measure_head (Head-F.Throw s) = made_of s [] []
measure_head (Head-F.Spawn s) = made_of s [] []
measure_head (Head-F.Fn s left parameters right arrow) =
    made_of s (over most_parameters (parameter_count parameters) s.place)
    (measured_parameters parameters)
measure_head (Head-F.Big big left generator right) =
    made_of (spot_of (big_first big)) [] (generator ∷ [])

-- what a generator measures
abbrev pub measure_generator : MeasuredGenerator → Measured
measure_generator (Generator-F.Parallel name arrow source) = made_of name.spot [] (source ∷ [])
measure_generator (Generator-F.Sequential name arrow seq left source right) =
    made_of name.spot [] (source ∷ [])

-- what the grouping of a flat expression depends on
abbrev pub row : MeasuredFlat → Row
row flat = record { place = flat.first.spot.place; joints = map (λ part. part.joint) flat.rest }

-- what a flat expression measures; it is one itself, and its units are counted
abbrev pub measure_flat : MeasuredFlat → Measured
measure_flat flat = let parts = flat.first ∷ map (λ part. part.unit) flat.rest in
    record {
      spot = flat.first.spot;
      flats = row flat ∷ all_flats parts;
      crowded = over most_units (length parts) flat.first.spot.place ++ all_crowded parts;
    }

-- what a further unit measures, and how it stands to the one before it
abbrev pub measure_flat_part : MeasuredFlatPart → Joined
measure_flat_part (FlatPart-F.Run run) = record { joint = Beside; unit = run }
measure_flat_part (FlatPart-F.Infix sign operand) =
    record { joint = Behind sign operand.spot.gap; unit = operand }

-- where a unit begins
abbrev pub prefix_spot : Option Prefix → Spot → Spot
prefix_spot None at = at
prefix_spot (Some (a_prefix.Minus s)) at = s
prefix_spot (Some (a_prefix.Not s)) at = s

-- what a unit measures
abbrev pub measure_operand : MeasuredOperand → Measured
measure_operand operand =
    record {
      spot = prefix_spot operand.prefix operand.run.spot;
      flats = operand.run.flats;
      crowded = operand.run.crowded;
    }

-- what a run measures; its atoms and postfixes are counted
abbrev pub measure_run : MeasuredRun → Measured
measure_run run =
    made_of run.first.spot (over most_elements (1 + length run.rest) run.first.spot.place)
    (run.first ∷ run.rest)

-- what a further part of a run measures
abbrev pub measure_run_part : MeasuredRunPart → Measured
measure_run_part (RunPart-F.Atom atom) = atom
measure_run_part (RunPart-F.Postfix postfix) = postfix

-- The arguments of a method call aren't counted.
abbrev pub measure_postfix : MeasuredPostfix → Measured
measure_postfix (Postfix-F.Subscript left index right) = made_of left [] (index ∷ [])
measure_postfix (Postfix-F.Power power exponent) = made_of power [] (exponent ∷ [])
measure_postfix (Postfix-F.Field dot name) = made_of dot [] []
measure_postfix (Postfix-F.Call dot name left arguments right) =
    made_of dot [] (listed_parts arguments)

-- what an atom measures; a list in parentheses is counted
abbrev pub measure_atom : MeasuredAtom → Measured
measure_atom (Atom-F.Name name) = made_of name.spot [] []
measure_atom (Atom-F.Number value s) = made_of s [] []
measure_atom (Atom-F.Text text s) = made_of s [] []
measure_atom (Atom-F.True s) = made_of s [] []
measure_atom (Atom-F.False s) = made_of s [] []
measure_atom (Atom-F.Self_ s) = made_of s [] []
measure_atom (Atom-F.Parens left contents right) =
    made_of left (over most_tuple_parts (length (listed_parts contents)) left.place)
    (listed_parts contents)
measure_atom (Atom-F.Delimited form) = form
measure_atom (Atom-F.ArrayFill spots element size value) =
    made_of spots.array [] (measured_type element ∷ size ∷ value ∷ [])

-- the expressions of a list
abbrev pub measure_expr_list : MeasuredExprList → Listed
measure_expr_list list = record { parts = list.first ∷ list.others }

-- what a further expression of a list measures
abbrev pub measure_next_expr : MeasuredNextExpr → Measured
measure_next_expr next = next.expr

-- ---- blocks and the forms that end with `end`

-- where a declaration with or without `var` begins
abbrev pub var_spot : Option Spot → Spot → Spot
var_spot None at = at
var_spot (Some s) at = s

-- what a declaration of a variable measures
abbrev pub measure_variable : MeasuredVariable → Measured
measure_variable v = made_of (var_spot v.var v.name.spot) [] (measured_type v.ty ∷ v.value ∷ [])

-- what an item measures
abbrev pub measure_item : MeasuredItem → Measured
measure_item (Item-F.Variable variable) = variable
measure_item (Item-F.Names left first others right colon ty equals value) =
    made_of left [] (measured_type ty ∷ value ∷ [])
measure_item (Item-F.Expr expr) = expr

-- the same with its `;`
abbrev pub measure_block_item : MeasuredBlockItem → Measured
measure_block_item entry = entry.item

-- what a further block of a `do` measures
abbrev pub measure_also : MeasuredAlso → Measured
measure_also a = made_of a.also [] (block_measured a.block)

-- what an `elif` measures
abbrev pub measure_elif : MeasuredElif → Measured
measure_elif e = made_of e.elif [] (e.condition ∷ block_measured e.block)

-- what the `else` of an `if` measures
abbrev pub measure_else_block : MeasuredElseBlock → Measured
measure_else_block e = made_of e.else_ [] (block_measured e.block)

-- what a `finally` measures
abbrev pub measure_finally : MeasuredFinally → Measured
measure_finally f = made_of f.finally [] (block_measured f.block)

-- what a further generator of a `for` measures
abbrev pub measure_next_generator : MeasuredNextGenerator → Measured
measure_next_generator next = next.generator

-- what a clause of a `case` measures
abbrev pub measure_case_clause : MeasuredCaseClause → Measured
measure_case_clause c = made_of c.subject.spot [] (c.subject ∷ c.value ∷ [])

-- what a clause of a `typecase` or `catch` measures
abbrev pub measure_type_clause : MeasuredTypeClause → Measured
measure_type_clause c = made_of (measured_type c.ty).spot [] (measured_type c.ty ∷ c.value ∷ [])

-- what the `else` of a `case` or `typecase` measures
abbrev pub measure_else_clause : MeasuredElseClause → Measured
measure_else_clause e = made_of e.else_ [] (e.value ∷ [])

-- The clauses of a `catch` are counted by its `try`.
abbrev pub measure_catch : MeasuredCatch → Listed
measure_catch c = record { parts = c.clauses }

-- what a form that ends with `end` measures; its blocks, generators or clauses are counted
abbrev pub measure_delimited : MeasuredDelimited → Measured
measure_delimited (Delimited-F.Do at_do block others end) =
    made_of at_do (over most_also_blocks (1 + length others) at_do.place)
    (block_measured block ++ others)
measure_delimited (Delimited-F.If at_if condition then block elifs otherwise end) =
    made_of at_if [] (condition ∷ (block_measured block ++ (elifs ++ maybe_measured otherwise)))
measure_delimited (Delimited-F.While at_while condition at_do block end) =
    made_of at_while [] (condition ∷ block_measured block)
measure_delimited (Delimited-F.For at_for generator others at_do block end) =
    made_of at_for (over most_generators (1 + length others) at_for.place)
    (generator ∷ (others ++ block_measured block))
measure_delimited (Delimited-F.Case at_case subject of clauses otherwise end) =
    made_of at_case (over most_clauses (length clauses) at_case.place)
    (subject ∷ (clauses ++ maybe_measured otherwise))
measure_delimited (Delimited-F.Typecase at_typecase name equals subject of clauses otherwise end) =
    made_of at_typecase (over most_clauses (length clauses) at_typecase.place)
    (subject ∷ (clauses ++ maybe_measured otherwise))
measure_delimited (Delimited-F.Try at_try block catch finally end) =
    made_of at_try (over most_clauses (length (listed_parts catch)) at_try.place)
    (block_measured block ++ (listed_parts catch ++ maybe_measured finally))
