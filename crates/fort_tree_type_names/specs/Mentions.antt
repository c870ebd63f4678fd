-- The chapter "Types": the names that stand as types in one level of each tree, in the order of the
-- text.
use Rattle.std.specs.Prelude.{[], ◌∷◌, ◌++◌, Option, Some, None}
use Rattle.std.specs.List.{flat_map}
use Rattle.fort_tree.specs.declared.declarations.Parameters.{Parameters}
use Rattle.fort_tree.specs.declared.delimited.Delimited.TheOpen.{Delimited-F, Item-F, Atom-F, Expr-F, FlatPart-F, Generator-F, Head-F, Postfix-F, RunPart-F}
use Rattle.fort_tree.specs.declared.types.NextType.{NextType}
use Rattle.fort_tree.specs.declared.types.SimpleType.{SimpleType}
use Rattle.fort_tree.specs.declared.types.TypeList.{TypeList}
use Rattle.fort_tree.specs.declared.types.TypeTree.{TypeTree}
use Rattle.fort_tree.specs.declared.types.SimpleType.TheOpen.{SimpleType-F, TypeTree-F, NextType-F, TypeList-F}
use Rattle.fort_tree.specs.declared.types.SimpleType.TheFolds.{fold-SimpleType, fold-TypeTree, fold-NextType, fold-TypeList}
use Rattle.fort_tree_type_names.specs.Mentioned.{Mentioned, all_mentioned, maybe_mentioned, MentionedDelimited, MentionedItem, MentionedAtom, MentionedExpr, MentionedFlatPart, MentionedGenerator, MentionedHead, MentionedPostfix, MentionedRunPart, MentionedVariable, MentionedAlso, MentionedBlockItem, MentionedCaseClause, MentionedCatch, MentionedElif, MentionedElseBlock, MentionedElseClause, MentionedFinally, MentionedNextGenerator, MentionedTypeClause, MentionedExprList, MentionedFlat, MentionedNextExpr, MentionedOperand, MentionedRun}

-- ---- types and parameters

-- The name of a type is one; the words `Array` and `ZZ32` of an array type are none.
abbrev pub mention_simple_type : SimpleType-F Mentioned Mentioned Mentioned Mentioned → Mentioned
mention_simple_type (SimpleType-F.Named n) = n ∷ []
mention_simple_type (SimpleType-F.Array array left element comma index right) = element
mention_simple_type (SimpleType-F.Parts left parts right) = maybe_mentioned parts

-- of a type
abbrev pub mention_type_tree : TypeTree-F Mentioned Mentioned Mentioned Mentioned → Mentioned
mention_type_tree (TypeTree-F.Simple simple) = simple
mention_type_tree (TypeTree-F.Arrow domain arrow result) = domain ++ result

-- of a further type of a list
abbrev pub mention_next_type : NextType-F Mentioned Mentioned Mentioned Mentioned → Mentioned
mention_next_type next = next.ty

-- of a list of types
abbrev pub mention_type_list : TypeList-F Mentioned Mentioned Mentioned Mentioned → Mentioned
mention_type_list list = list.first ++ all_mentioned list.others

-- of a type, at every depth
unfoldable pub mentioned_type : TypeTree → Mentioned
mentioned_type =
    fold-TypeTree Mentioned Mentioned Mentioned Mentioned mention_simple_type mention_type_tree
    mention_next_type mention_type_list

-- of a simple type, at every depth
unfoldable pub mentioned_simple_type : SimpleType → Mentioned
mentioned_simple_type =
    fold-SimpleType Mentioned Mentioned Mentioned Mentioned mention_simple_type mention_type_tree
    mention_next_type mention_type_list

-- of a further type of a list, at every depth
unfoldable pub mentioned_next_type : NextType → Mentioned
mentioned_next_type =
    fold-NextType Mentioned Mentioned Mentioned Mentioned mention_simple_type mention_type_tree
    mention_next_type mention_type_list

-- of a list of types, at every depth
unfoldable pub mentioned_type_list : TypeList → Mentioned
mentioned_type_list =
    fold-TypeList Mentioned Mentioned Mentioned Mentioned mention_simple_type mention_type_tree
    mention_next_type mention_type_list

-- of the types of parameters
abbrev pub mentioned_parameters : Option Parameters → Mentioned
mentioned_parameters None = []
mentioned_parameters (Some list) =
    mentioned_type list.first.ty ++ flat_map (λ next. mentioned_type next.parameter.ty) list.others

-- ---- expressions

-- of an expression
abbrev pub mention_expr : MentionedExpr → Mentioned
mention_expr (Expr-F.Flat flat) = flat
mention_expr (Expr-F.Assign target sign head value) = target ++ (maybe_mentioned head ++ value)
mention_expr (Expr-F.Open head body) = head ++ body
mention_expr (Expr-F.OpenAssign head target sign value) = head ++ (target ++ value)

-- of a head
abbrev pub mention_head : MentionedHead → Mentioned
mention_head (Head-F.Atomic s) = []
mention_head (Head-F.Tryatomic s) = []
mention_head (Head-F.Throw s) = []
mention_head (Head-F.Spawn s) = []
mention_head (Head-F.Fn s left parameters right arrow) = mentioned_parameters parameters
mention_head (Head-F.Big big left generator right) = generator

-- of a generator
abbrev pub mention_generator : MentionedGenerator → Mentioned
mention_generator (Generator-F.Parallel name arrow source) = source
mention_generator (Generator-F.Sequential name arrow seq left source right) = source

-- of a flat expression
abbrev pub mention_flat : MentionedFlat → Mentioned
mention_flat flat = flat.first ++ all_mentioned flat.rest

-- of a further unit
abbrev pub mention_flat_part : MentionedFlatPart → Mentioned
mention_flat_part (FlatPart-F.Run run) = run
mention_flat_part (FlatPart-F.Infix sign operand) = operand

-- of a unit
abbrev pub mention_operand : MentionedOperand → Mentioned
mention_operand operand = operand.run

-- of a run
abbrev pub mention_run : MentionedRun → Mentioned
mention_run run = run.first ++ all_mentioned run.rest

-- of a further part of a run
abbrev pub mention_run_part : MentionedRunPart → Mentioned
mention_run_part (RunPart-F.Atom atom) = atom
mention_run_part (RunPart-F.Postfix postfix) = postfix

-- of a postfix
abbrev pub mention_postfix : MentionedPostfix → Mentioned
mention_postfix (Postfix-F.Subscript left index right) = index
mention_postfix (Postfix-F.Power power exponent) = exponent
mention_postfix (Postfix-F.Field dot name) = []
mention_postfix (Postfix-F.Call dot name left arguments right) = maybe_mentioned arguments

-- of an atom
abbrev pub mention_atom : MentionedAtom → Mentioned
mention_atom (Atom-F.Name name) = []
mention_atom (Atom-F.Number value s) = []
mention_atom (Atom-F.Text text s) = []
mention_atom (Atom-F.True s) = []
mention_atom (Atom-F.False s) = []
mention_atom (Atom-F.Self_ s) = []
mention_atom (Atom-F.Parens left contents right) = maybe_mentioned contents
mention_atom (Atom-F.Delimited form) = form
mention_atom (Atom-F.ArrayFill spots element size value) = mentioned_type element ++ (size ++ value)

-- of a list of expressions
abbrev pub mention_expr_list : MentionedExprList → Mentioned
mention_expr_list list = list.first ++ all_mentioned list.others

-- of a further expression of a list
abbrev pub mention_next_expr : MentionedNextExpr → Mentioned
mention_next_expr next = next.expr

-- ---- blocks and the forms that end with `end`

-- of a declaration of a variable
abbrev pub mention_variable : MentionedVariable → Mentioned
mention_variable v = mentioned_type v.ty ++ v.value

-- of an item
abbrev pub mention_item : MentionedItem → Mentioned
mention_item (Item-F.Variable variable) = variable
mention_item (Item-F.Names left first others right colon ty equals value) =
    mentioned_type ty ++ value
mention_item (Item-F.Expr expr) = expr

-- of an item with its `;`
abbrev pub mention_block_item : MentionedBlockItem → Mentioned
mention_block_item entry = entry.item

-- of a further block of a `do`
abbrev pub mention_also : MentionedAlso → Mentioned
mention_also a = all_mentioned a.block

-- of an `elif`
abbrev pub mention_elif : MentionedElif → Mentioned
mention_elif e = e.condition ++ all_mentioned e.block

-- of the `else` of an `if`
abbrev pub mention_else_block : MentionedElseBlock → Mentioned
mention_else_block e = all_mentioned e.block

-- of a `finally`
abbrev pub mention_finally : MentionedFinally → Mentioned
mention_finally f = all_mentioned f.block

-- of a further generator of a `for`
abbrev pub mention_next_generator : MentionedNextGenerator → Mentioned
mention_next_generator next = next.generator

-- of a clause of a `case`
abbrev pub mention_case_clause : MentionedCaseClause → Mentioned
mention_case_clause c = c.subject ++ c.value

-- of a clause of a `typecase` or `catch`
abbrev pub mention_type_clause : MentionedTypeClause → Mentioned
mention_type_clause c = mentioned_type c.ty ++ c.value

-- of the `else` of a `case` or `typecase`
abbrev pub mention_else_clause : MentionedElseClause → Mentioned
mention_else_clause e = e.value

-- of a `catch`
abbrev pub mention_catch : MentionedCatch → Mentioned
mention_catch c = all_mentioned c.clauses

-- of a form that ends with `end`
abbrev pub mention_delimited : MentionedDelimited → Mentioned
mention_delimited (Delimited-F.Do at_do block others end) =
    all_mentioned block ++ all_mentioned others
mention_delimited (Delimited-F.If at_if condition then block elifs otherwise end) =
    condition ++ (all_mentioned block ++ (all_mentioned elifs ++ maybe_mentioned otherwise))
mention_delimited (Delimited-F.While at_while condition at_do block end) =
    condition ++ all_mentioned block
mention_delimited (Delimited-F.For at_for generator others at_do block end) =
    generator ++ (all_mentioned others ++ all_mentioned block)
mention_delimited (Delimited-F.Case at_case subject of clauses otherwise end) =
    subject ++ (all_mentioned clauses ++ maybe_mentioned otherwise)
mention_delimited (Delimited-F.Typecase at_typecase name equals subject of clauses otherwise end) =
    subject ++ (all_mentioned clauses ++ maybe_mentioned otherwise)
mention_delimited (Delimited-F.Try at_try block catch finally end) =
    all_mentioned block ++ (maybe_mentioned catch ++ maybe_mentioned finally)
