-- The chapter "Components and APIs": the names that stand as atoms in one level of each tree, in
-- the order of the text.
use Rattle.std.specs.Prelude.{[], ◌∷◌, ◌++◌}
use Rattle.fort_tree.specs.declared.delimited.Delimited.TheOpen.{Delimited-F, Item-F, Atom-F, Expr-F, FlatPart-F, Generator-F, Head-F, Postfix-F, RunPart-F}
use Rattle.fort_tree_atoms.specs.Gathered.{Atoms, all_atoms, maybe_atoms, GatheredDelimited, GatheredItem, GatheredAtom, GatheredExpr, GatheredFlatPart, GatheredGenerator, GatheredHead, GatheredPostfix, GatheredRunPart, GatheredVariable, GatheredAlso, GatheredBlockItem, GatheredCaseClause, GatheredCatch, GatheredElif, GatheredElseBlock, GatheredElseClause, GatheredFinally, GatheredNextGenerator, GatheredTypeClause, GatheredExprList, GatheredFlat, GatheredNextExpr, GatheredOperand, GatheredRun}

-- ---- expressions

-- of an expression
abbrev pub gather_expr : GatheredExpr → Atoms
gather_expr (Expr-F.Flat flat) = flat
gather_expr (Expr-F.Assign target sign head value) = target ++ (maybe_atoms head ++ value)
gather_expr (Expr-F.Open head body) = head ++ body
gather_expr (Expr-F.OpenAssign head target sign value) = head ++ (target ++ value)

-- of a head
abbrev pub gather_head : GatheredHead → Atoms
gather_head (Head-F.Atomic s) = []
gather_head (Head-F.Tryatomic s) = []
gather_head (Head-F.Throw s) = []
gather_head (Head-F.Spawn s) = []
gather_head (Head-F.Fn s left parameters right arrow) = []
gather_head (Head-F.Big big left generator right) = generator

-- Of a generator: the name that it binds is none.
abbrev pub gather_generator : GatheredGenerator → Atoms
gather_generator (Generator-F.Parallel name arrow source) = source
gather_generator (Generator-F.Sequential name arrow seq left source right) = source

-- of a flat expression
abbrev pub gather_flat : GatheredFlat → Atoms
gather_flat flat = flat.first ++ all_atoms flat.rest

-- of a further unit
abbrev pub gather_flat_part : GatheredFlatPart → Atoms
gather_flat_part (FlatPart-F.Run run) = run
gather_flat_part (FlatPart-F.Infix sign operand) = operand

-- of a unit
abbrev pub gather_operand : GatheredOperand → Atoms
gather_operand operand = operand.run

-- of a run
abbrev pub gather_run : GatheredRun → Atoms
gather_run run = run.first ++ all_atoms run.rest

-- of a further part of a run
abbrev pub gather_run_part : GatheredRunPart → Atoms
gather_run_part (RunPart-F.Atom atom) = atom
gather_run_part (RunPart-F.Postfix postfix) = postfix

-- Of a postfix: the name behind a dot is none.
abbrev pub gather_postfix : GatheredPostfix → Atoms
gather_postfix (Postfix-F.Subscript left index right) = index
gather_postfix (Postfix-F.Power power exponent) = exponent
gather_postfix (Postfix-F.Field dot name) = []
gather_postfix (Postfix-F.Call dot name left arguments right) = maybe_atoms arguments

-- Of an atom: a name is one; the name `fill` of an array is none.
abbrev pub gather_atom : GatheredAtom → Atoms
gather_atom (Atom-F.Name name) = name ∷ []
gather_atom (Atom-F.Number value s) = []
gather_atom (Atom-F.Text text s) = []
gather_atom (Atom-F.True s) = []
gather_atom (Atom-F.False s) = []
gather_atom (Atom-F.Self_ s) = []
gather_atom (Atom-F.Parens left contents right) = maybe_atoms contents
gather_atom (Atom-F.Delimited form) = form
gather_atom (Atom-F.ArrayFill spots element size value) = size ++ value

-- of a list of expressions
abbrev pub gather_expr_list : GatheredExprList → Atoms
gather_expr_list list = list.first ++ all_atoms list.others

-- of a further expression of a list
abbrev pub gather_next_expr : GatheredNextExpr → Atoms
gather_next_expr next = next.expr

-- ---- blocks and the forms that end with `end`

-- of a declaration of a variable
abbrev pub gather_variable : GatheredVariable → Atoms
gather_variable v = v.value

-- of an item
abbrev pub gather_item : GatheredItem → Atoms
gather_item (Item-F.Variable variable) = variable
gather_item (Item-F.Names left first others right colon ty equals value) = value
gather_item (Item-F.Expr expr) = expr

-- of an item with its `;`
abbrev pub gather_block_item : GatheredBlockItem → Atoms
gather_block_item entry = entry.item

-- of a further block of a `do`
abbrev pub gather_also : GatheredAlso → Atoms
gather_also a = all_atoms a.block

-- of an `elif`
abbrev pub gather_elif : GatheredElif → Atoms
gather_elif e = e.condition ++ all_atoms e.block

-- of the `else` of an `if`
abbrev pub gather_else_block : GatheredElseBlock → Atoms
gather_else_block e = all_atoms e.block

-- of a `finally`
abbrev pub gather_finally : GatheredFinally → Atoms
gather_finally f = all_atoms f.block

-- of a further generator of a `for`
abbrev pub gather_next_generator : GatheredNextGenerator → Atoms
gather_next_generator next = next.generator

-- of a clause of a `case`
abbrev pub gather_case_clause : GatheredCaseClause → Atoms
gather_case_clause c = c.subject ++ c.value

-- of a clause of a `typecase` or `catch`
abbrev pub gather_type_clause : GatheredTypeClause → Atoms
gather_type_clause c = c.value

-- of the `else` of a `case` or `typecase`
abbrev pub gather_else_clause : GatheredElseClause → Atoms
gather_else_clause e = e.value

-- of a `catch`
abbrev pub gather_catch : GatheredCatch → Atoms
gather_catch c = all_atoms c.clauses

-- of a form that ends with `end`
abbrev pub gather_delimited : GatheredDelimited → Atoms
gather_delimited (Delimited-F.Do at_do block others end) =
    all_atoms block ++ all_atoms others
gather_delimited (Delimited-F.If at_if condition then block elifs otherwise end) =
    condition ++ (all_atoms block ++ (all_atoms elifs ++ maybe_atoms otherwise))
gather_delimited (Delimited-F.While at_while condition at_do block end) =
    condition ++ all_atoms block
gather_delimited (Delimited-F.For at_for generator others at_do block end) =
    generator ++ (all_atoms others ++ all_atoms block)
gather_delimited (Delimited-F.Case at_case subject of clauses otherwise end) =
    subject ++ (all_atoms clauses ++ maybe_atoms otherwise)
gather_delimited (Delimited-F.Typecase at_typecase name equals subject of clauses otherwise end) =
    subject ++ (all_atoms clauses ++ maybe_atoms otherwise)
gather_delimited (Delimited-F.Try at_try block catch finally end) =
    all_atoms block ++ (maybe_atoms catch ++ maybe_atoms finally)
