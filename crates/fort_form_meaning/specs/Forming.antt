-- The chapter "Typing", forms: what one level of each tree becomes, from what its parts become. The
-- code keeps a stack of what it has still to do.
use Rattle.std.specs.Prelude.{ℕ, zero, suc, Bool, true, false, ◌||◌, is_some, List, [], ◌∷◌, Option, Some, None, map, option_map, get_or}
use Rattle.fort_base.specs.declared.ids.NameId.{NameId}
use Rattle.fort_base.specs.declared.refusal.Place.{Place}
use Rattle.fort_ops.specs.declared.op.Op.TheVariants as an_op
use Rattle.fort_form.specs.declared.form.Form.{Form}
use Rattle.fort_form.specs.declared.form.Form.TheVariants as a_form
use Rattle.fort_form.specs.declared.form.Form.TheViews.{roll-Branch, roll-Generator, roll-TypeBranch}
use Rattle.fort_form.specs.declared.form.Item.TheVariants as an_item
use Rattle.fort_form.specs.declared.form.Branch.{Branch}
use Rattle.fort_form.specs.declared.form.Generator.{Generator}
use Rattle.fort_form.specs.declared.form.Parameter.{Parameter}
use Rattle.fort_form.specs.declared.form.Reduction.{Reduction}
use Rattle.fort_form.specs.declared.form.Reduction.TheVariants as a_reduction
use Rattle.fort_form.specs.declared.form.TypeBranch.{TypeBranch}
use Rattle.fort_form.specs.declared.form.Update.{Update}
use Rattle.fort_form.specs.declared.form.Update.TheVariants as an_update
use Rattle.fort_tree.specs.declared.declarations.Parameter.{Parameter as ParameterTree}
use Rattle.fort_tree.specs.declared.declarations.InitialSign.{InitialSign}
use Rattle.fort_tree.specs.declared.declarations.InitialSign.TheVariants as an_initial
use Rattle.fort_tree.specs.declared.declarations.NextParameter.{NextParameter}
use Rattle.fort_tree.specs.declared.declarations.Parameters.{Parameters}
use Rattle.fort_tree.specs.declared.delimited.Delimited.TheOpen.{Delimited-F, Item-F, Atom-F, Expr-F, FlatPart-F, Generator-F, Head-F, Postfix-F, RunPart-F}
use Rattle.fort_tree.specs.declared.expr.AssignSign.{AssignSign}
use Rattle.fort_tree.specs.declared.expr.AssignSign.TheVariants as a_sign
use Rattle.fort_tree.specs.declared.expr.Big.{Big}
use Rattle.fort_tree.specs.declared.expr.Big.TheVariants as a_big
use Rattle.fort_tree.specs.declared.expr.Prefix.{Prefix}
use Rattle.fort_tree.specs.declared.expr.Prefix.TheVariants as a_prefix
use Rattle.fort_tree.specs.declared.grouped.Grouped.{Grouped, fold-Grouped}
use Rattle.fort_tree.specs.declared.grouped.Grouped.TheOpen.{Grouped-F}
use Rattle.fort_tree.specs.declared.spot.Name.{Name}
use Rattle.fort_tree.specs.declared.spot.NextName.{NextName}
use Rattle.fort_tree.specs.declared.spot.Spot.{Spot}
use Rattle.fort_tree.specs.Measures.{measured_type, var_spot}
use Rattle.fort_form_meaning.specs.Levels.{Placed, Catching, Opening, Listed, FormedDelimited, FormedItem, FormedAtom, FormedExpr, FormedFlatPart, FormedGenerator, FormedHead, FormedPostfix, FormedRunPart, FormedVariable, FormedAlso, FormedBlockItem, FormedCaseClause, FormedCatch, FormedElif, FormedElseBlock, FormedElseClause, FormedFinally, FormedNextGenerator, FormedTypeClause, FormedExprList, FormedFlat, FormedNextExpr, FormedOperand, FormedRun}
use Rattle.fort_form_meaning.specs.Places.{place_of}
use Rattle.fort_form_meaning.specs.Source.{Source}

-- ---- parameters and binders

-- a name that is bound, behind its place
abbrev pub binder : Name → Place × NameId
binder name = (name.spot.place, name.id)

-- a parameter, with the type that is written
abbrev pub parameter : Source → ParameterTree → Parameter
parameter k p = record { place = p.name.spot.place; name = p.name.id; ty = k.written p.ty }

-- a further parameter
abbrev pub next_parameter : Source → NextParameter → Parameter
next_parameter k next = parameter k next.parameter

-- the parameters of a function
abbrev pub parameters : Source → Option Parameters → List Parameter
parameters k None = []
parameters k (Some list) = parameter k list.first ∷ map (next_parameter k) list.others

-- ---- runs

-- The elements of a run; one alone is itself.
abbrev pub run_of : Form → List Form → Form
run_of first [] = first
run_of first (next ∷ rest) = a_form.Run (place_of first) (first ∷ next ∷ rest)

-- What stands between parentheses: nothing or two or more are a tuple, one stays in them.
abbrev pub between : Place → Option Listed → Form
between place None = a_form.Tuple place []
between place (Some (form ∷ [])) = a_form.Parens place form
between place (Some forms) = a_form.Tuple place forms

-- the arguments of a method
abbrev pub arguments_of : Option Listed → List Form
arguments_of None = []
arguments_of (Some forms) = forms

-- what a list of expressions becomes
abbrev pub form_expr_list : FormedExprList → Listed
form_expr_list list = list.first ∷ list.others

-- what a further expression of a list becomes
abbrev pub form_next_expr : FormedNextExpr → Form
form_next_expr next = next.expr

-- An atom is the form of its variant, a form that ends with `end` is itself.
abbrev pub form_atom : Source → FormedAtom → Form
form_atom k (Atom-F.Name name) = a_form.Name name.spot.place name.id
form_atom k (Atom-F.Number value s) = a_form.Number s.place value
form_atom k (Atom-F.Text text s) = a_form.Text s.place text
form_atom k (Atom-F.True s) = a_form.Truth s.place true
form_atom k (Atom-F.False s) = a_form.Truth s.place false
form_atom k (Atom-F.Self_ s) = a_form.Receiver s.place
form_atom k (Atom-F.Parens left contents right) = between left.place contents
form_atom k (Atom-F.Delimited form) = form
form_atom k (Atom-F.ArrayFill spots element size value) =
    a_form.Fill spots.array.place (k.written element) size value

-- A postfix stands at its first token.
abbrev pub form_postfix : FormedPostfix → Form
form_postfix (Postfix-F.Subscript left index right) = a_form.Subscript left.place index
form_postfix (Postfix-F.Power power exponent) = a_form.Power power.place exponent
form_postfix (Postfix-F.Field dot name) = a_form.Field dot.place name.spot.place name.id
form_postfix (Postfix-F.Call dot name left arguments right) =
    a_form.Method dot.place name.spot.place name.id (arguments_of arguments)

-- what a further element of a run becomes
abbrev pub form_run_part : FormedRunPart → Form
form_run_part (RunPart-F.Atom atom) = atom
form_run_part (RunPart-F.Postfix postfix) = postfix

-- A run is its elements.
abbrev pub form_run : FormedRun → Form
form_run run = run_of run.first run.rest

-- ---- flat expressions

-- A prefix operator has the run behind it as its operand.
abbrev pub prefixed : Option Prefix → Form → Form
prefixed None run = run
prefixed (Some (a_prefix.Minus s)) run = a_form.Operator s.place an_op.Minus (run ∷ [])
prefixed (Some (a_prefix.Not s)) run = a_form.Operator s.place an_op.Not (run ∷ [])

-- A unit is its run, behind its prefix operator where it has one.
abbrev pub form_operand : FormedOperand → Form
form_operand operand = prefixed operand.prefix operand.run

-- what a further unit becomes; its operator stands in the grouping
abbrev pub form_flat_part : FormedFlatPart → Form
form_flat_part (FlatPart-F.Run run) = run
form_flat_part (FlatPart-F.Infix sign operand) = operand

-- the unit of that number, counted from 0
abbrev pub unit_at : Form → List Form → ℕ → Form
unit_at first rest zero = first
unit_at first rest (suc n) = get_or rest n first

-- Where the first of some parts begins; there is always one.
abbrev pub begins : List Form → Place
begins [] = record { line = 0; column = 0 }
begins (part ∷ parts) = place_of part

-- One node of a grouping, over the units of its flat expression.
abbrev pub form_grouped : Form → List Form → Grouped-F Form → Form
form_grouped first rest (Grouped-F.Unit n) = unit_at first rest n
form_grouped first rest (Grouped-F.Binary op left right) =
    a_form.Operator (place_of left) op (left ∷ right ∷ [])
form_grouped first rest (Grouped-F.Chain ops parts) = a_form.Chain (begins parts) ops parts
form_grouped first rest (Grouped-F.Juxt units) =
    a_form.Beside (begins (map (unit_at first rest) units)) (map (unit_at first rest) units)

-- A grouping applied to the units of its flat expression.
unfoldable pub grouped : Form → List Form → Grouped → Form
grouped first rest = fold-Grouped Form (form_grouped first rest)

-- the units by their grouping; a component has one for each flat expression, and without one it is
-- the first unit
abbrev pub grouped_by : Form → List Form → Option Grouped → Form
grouped_by first rest None = first
grouped_by first rest (Some grouping) = grouped first rest grouping

-- A flat expression is its units, grouped.
abbrev pub form_flat : Source → FormedFlat → Form
form_flat k flat = grouped_by flat.first flat.rest (k.grouping (place_of flat.first))

-- ---- expressions

-- the sign of an assignment
abbrev pub update : AssignSign → Update
update (a_sign.Becomes s) = an_update.Becomes
update (a_sign.AddBecomes s) = an_update.Adds
update (a_sign.SubtractBecomes s) = an_update.Subtracts

-- an assignment stands at its target
abbrev pub assignment : Form → AssignSign → Form → Form
assignment target sign value = a_form.Assign (place_of target) target (update sign) value

-- what a head that may be left out makes of the expression behind it
abbrev pub opened : Option Opening → Form → Form
opened None body = body
opened (Some head) body = head body

-- An assignment has its head, where it has one, before its value; an open assignment has it before
-- its target.
abbrev pub form_expr : FormedExpr → Form
form_expr (Expr-F.Flat flat) = flat
form_expr (Expr-F.Assign target sign head value) = assignment target sign (opened head value)
form_expr (Expr-F.Open head body) = head body
form_expr (Expr-F.OpenAssign head target sign value) = head (assignment target sign value)

-- what a reduction joins by
abbrev pub reduction : Big → Reduction
reduction (a_big.Sum s) = a_reduction.Sum
reduction (a_big.Prod s) = a_reduction.Product
reduction (a_big.Max s t) = a_reduction.Maximum
reduction (a_big.Min s t) = a_reduction.Minimum
reduction (a_big.And s t) = a_reduction.Conjunction
reduction (a_big.Or s t) = a_reduction.Disjunction

-- where its first word stands
abbrev pub big_place : Big → Place
big_place (a_big.Sum s) = s.place
big_place (a_big.Prod s) = s.place
big_place (a_big.Max s t) = s.place
big_place (a_big.Min s t) = s.place
big_place (a_big.And s t) = s.place
big_place (a_big.Or s t) = s.place

-- `spawn e` is `spawn'(fn () => e)`, all of it at the place of the word.
abbrev pub spawned : NameId → Place → Form → Form
spawned spawning p body =
    a_form.Run p (a_form.Name p spawning ∷ a_form.Parens p (a_form.Fn p [] body) ∷ [])

-- What a head makes of the expression behind it.
abbrev pub form_head : Source → FormedHead → Opening
form_head k (Head-F.Atomic s) body = a_form.Atomic s.place body
form_head k (Head-F.Tryatomic s) body = a_form.Tryatomic s.place body
form_head k (Head-F.Throw s) body = a_form.Throw s.place body
form_head k (Head-F.Spawn s) body = spawned k.spawning s.place body
form_head k (Head-F.Fn s left list right arrow) body = a_form.Fn s.place (parameters k list) body
form_head k (Head-F.Big big left generator right) body =
    a_form.Reduce (big_place big) (reduction big) generator body

-- A generator binds its name; with `seq` it is in order.
abbrev pub form_generator : FormedGenerator → Generator
form_generator (Generator-F.Parallel name arrow source) =
    roll-Generator
    (record { place = name.spot.place; name = name.id; sequential = false; source = source })
form_generator (Generator-F.Sequential name arrow seq left source right) =
    roll-Generator
    (record { place = name.spot.place; name = name.id; sequential = true; source = source })

-- what a further generator becomes
abbrev pub form_next_generator : FormedNextGenerator → Generator
form_next_generator next = next.generator

-- ---- blocks and the forms that end with `end`

-- `:=` makes what it initialises mutable
abbrev pub becomes : InitialSign → Bool
becomes (an_initial.Equals s) = false
becomes (an_initial.Becomes s) = true

-- A local variable is mutable with `var` or with `:=`.
abbrev pub form_variable : Source → FormedVariable → Placed
form_variable k v =
    record {
      place = (var_spot v.var v.name.spot).place;
      item = an_item.Local v.name.spot.place v.name.id (is_some v.var
          || becomes v.sign) (k.written v.ty) v.value;
    }

-- An item of a block stands at its first token.
abbrev pub form_item : Source → FormedItem → Placed
form_item k (Item-F.Variable variable) = variable
form_item k (Item-F.Names left first others right colon ty equals value) =
    record {
      place = left.place;
      item = an_item.Locals left.place (binder first ∷ map (λ
          (next : NextName). binder next.name) others) (k.written ty) value;
    }
form_item k (Item-F.Expr expr) = record { place = place_of expr; item = an_item.Expression expr }

-- the same with its `;`
abbrev pub form_block_item : FormedBlockItem → Placed
form_block_item entry = entry.item

-- where a block begins: at its first item, or at the word before it where it has none
abbrev pub block_place : Spot → List Placed → Place
block_place word [] = word.place
block_place word (item ∷ items) = item.place

-- a block behind a word
abbrev pub block : Spot → List Placed → Form
block word items = a_form.Block (block_place word items) (map (λ (i : Placed). i.item) items)

-- a further block of a `do`
abbrev pub form_also : FormedAlso → Form
form_also a = block a.do_ a.block

-- an `elif` is a condition with its block
abbrev pub form_elif : FormedElif → Branch
form_elif e = roll-Branch (record { test = e.condition; value = block e.then e.block })

-- the block of an `else`
abbrev pub form_else_block : FormedElseBlock → Form
form_else_block e = block e.else_ e.block

-- the block of a `finally`
abbrev pub form_finally : FormedFinally → Form
form_finally f = block f.finally f.block

-- a clause of a `case` is what the subject is compared with, and what it gives
abbrev pub form_case_clause : FormedCaseClause → Branch
form_case_clause c = roll-Branch (record { test = c.subject; value = c.value })

-- a clause of a `typecase` or a `catch` is its type, with the place of that, and what it gives
abbrev pub form_type_clause : Source → FormedTypeClause → TypeBranch
form_type_clause k c =
    roll-TypeBranch
    (record { place = (measured_type c.ty).spot.place; ty = k.written c.ty; value = c.value })

-- what an `else` gives
abbrev pub form_else_clause : FormedElseClause → Form
form_else_clause e = e.value

-- what a `catch` binds, and its clauses
abbrev pub form_catch : FormedCatch → Catching
form_catch c = record { binder = binder c.name; clauses = c.clauses }

-- the clauses of a `catch` that may be left out
abbrev pub caught : Option Catching → List TypeBranch
caught None = []
caught (Some c) = c.clauses

-- A form that ends with `end` is that of its word.
abbrev pub form_delimited : FormedDelimited → Form
form_delimited (Delimited-F.Do at_do items others end) =
    a_form.Do at_do.place (block at_do items ∷ others)
form_delimited (Delimited-F.If at_if condition then items elifs otherwise end) =
    a_form.If at_if.place
    (roll-Branch (record { test = condition; value = block then items }) ∷ elifs) otherwise
form_delimited (Delimited-F.While at_while condition at_do items end) =
    a_form.While at_while.place condition (block at_do items)
form_delimited (Delimited-F.For at_for generator others at_do items end) =
    a_form.For at_for.place (generator ∷ others) (block at_do items)
form_delimited (Delimited-F.Case at_case subject of clauses otherwise end) =
    a_form.Case at_case.place subject clauses otherwise
form_delimited (Delimited-F.Typecase at_typecase name equals subject of clauses otherwise end) =
    a_form.Typecase at_typecase.place name.spot.place name.id subject clauses otherwise
form_delimited (Delimited-F.Try at_try items catch finally end) =
    a_form.Try at_try.place (block at_try items) (option_map (λ
    (c : Catching). c.binder) catch) (caught catch) finally
