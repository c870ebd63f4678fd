-- The parts of a tree, each of which has one form, and the tasks of the walk in the words of the
-- definitions.
use Rattle.std.specs.Prelude.{◌≡◌, ℕ, List, [], ◌∷◌, ◌++◌, Option, Some, None, map}
use Rattle.std.specs.List.{flat_map}
use Rattle.fort_form.specs.declared.form.Form.{Form}
use Rattle.fort_tree.specs.declared.delimited.Delimited.{Delimited, out-Delimited}
use Rattle.fort_tree.specs.declared.delimited.Item.{Item, out-Item}
use Rattle.fort_tree.specs.declared.expr.Atom.{Atom, out-Atom}
use Rattle.fort_tree.specs.declared.expr.Expr.{Expr, out-Expr}
use Rattle.fort_tree.specs.declared.expr.FlatPart.{FlatPart}
use Rattle.fort_tree.specs.declared.expr.Generator.{Generator, out-Generator}
use Rattle.fort_tree.specs.declared.expr.Head.{Head, out-Head}
use Rattle.fort_tree.specs.declared.expr.Postfix.{Postfix, out-Postfix}
use Rattle.fort_tree.specs.declared.expr.RunPart.{RunPart}
use Rattle.fort_tree.specs.declared.declarations.Variable.{Variable, out-Variable}
use Rattle.fort_tree.specs.declared.delimited.Also.{Also}
use Rattle.fort_tree.specs.declared.delimited.BlockItem.{BlockItem, out-BlockItem}
use Rattle.fort_tree.specs.declared.delimited.CaseClause.{CaseClause, out-CaseClause}
use Rattle.fort_tree.specs.declared.delimited.Catch.{Catch, out-Catch}
use Rattle.fort_tree.specs.declared.delimited.Elif.{Elif, out-Elif}
use Rattle.fort_tree.specs.declared.delimited.ElseBlock.{ElseBlock}
use Rattle.fort_tree.specs.declared.delimited.ElseClause.{ElseClause, out-ElseClause}
use Rattle.fort_tree.specs.declared.delimited.Finally.{Finally}
use Rattle.fort_tree.specs.declared.delimited.NextGenerator.{NextGenerator, out-NextGenerator}
use Rattle.fort_tree.specs.declared.delimited.TypeClause.{TypeClause, out-TypeClause}
use Rattle.fort_tree.specs.declared.expr.ExprList.{ExprList, out-ExprList}
use Rattle.fort_tree.specs.declared.expr.Flat.{Flat, out-Flat}
use Rattle.fort_tree.specs.declared.expr.NextExpr.{NextExpr}
use Rattle.fort_tree.specs.declared.expr.Operand.{Operand, out-Operand}
use Rattle.fort_tree.specs.declared.expr.Run.{Run, out-Run}
use Rattle.fort_tree.specs.declared.delimited.Delimited.TheOpen.{Delimited-F, Item-F, Atom-F, Expr-F, Generator-F, Head-F, Postfix-F}
use Rattle.fort_tree.specs.declared.grouped.Grouped.{Grouped, out-Grouped}
use Rattle.fort_tree.specs.declared.grouped.Grouped.TheOpen.{Grouped-F}
use Rattle.fort_tree.specs.declared.spot.Spot.{Spot}
use Rattle.fort_form_meaning.specs.Source.{Source}
use Rattle.fort_form_meaning.specs.Forming.{block, grouped, unit_at}
use Rattle.fort_form_meaning.specs.Formed.{formed_delimited, formed_atom, formed_expr, formed_flat_part, formed_postfix, formed_run_part, formed_also, formed_block_item, formed_else_block, formed_finally, formed_flat, formed_next_expr, formed_operand, formed_run}
use Rattle.fort_form_tasks.specs.declared.task.Part.{Part}
use Rattle.fort_form_tasks.specs.declared.task.Part.TheVariants as a_part
use Rattle.fort_form_tasks.specs.declared.task.Task.{Task}
use Rattle.fort_form_tasks.specs.declared.task.Task.TheVariants as a_task

-- ---- parts

-- a block behind a word
abbrev pub formed_block : Source → Spot → List BlockItem → Form
formed_block k word items = block word (map (formed_block_item k) items)

-- the form of the unit of that number of a flat expression
abbrev pub formed_unit : Source → Flat → ℕ → Form
formed_unit k flat n =
    unit_at (formed_operand k (out-Flat flat).first) (map (formed_flat_part k) (out-Flat flat).rest)
    n

-- the form of a part of a flat expression that is grouped so
abbrev pub formed_group : Source → Flat → Grouped → Form
formed_group k flat grouping =
    grouped (formed_operand k (out-Flat flat).first) (map (formed_flat_part k) (out-Flat flat).rest)
    grouping

-- The form of a part.
abbrev pub formed_part : Source → Part → Form
formed_part k (a_part.Expr e) = formed_expr k e.now
formed_part k (a_part.Flat f) = formed_flat k f.now
formed_part k (a_part.Group f g) = formed_group k f.now g.now
formed_part k (a_part.Unit u) = formed_operand k u.now
formed_part k (a_part.Run r) = formed_run k r.now
formed_part k (a_part.Atom a) = formed_atom k a.now
formed_part k (a_part.Postfix p) = formed_postfix k p.now
formed_part k (a_part.Form d) = formed_delimited k d.now
formed_part k (a_part.Block word items) = formed_block k word items.now

-- ---- the forms that stand in a part

-- the source of a generator
abbrev pub source_at : Source
    → Generator-F Delimited Item Atom Expr FlatPart Generator Head Postfix RunPart Variable Also
    BlockItem CaseClause Catch Elif ElseBlock ElseClause Finally NextGenerator TypeClause ExprList
    Flat NextExpr Operand Run → Form
source_at k (Generator-F.Parallel name arrow source) = formed_flat k source
source_at k (Generator-F.Sequential name arrow seq left source right) = formed_flat k source

abbrev pub source_form : Source → Generator → Form
source_form k generator = source_at k (out-Generator generator)

abbrev pub next_source : Source → NextGenerator → Form
next_source k next = source_form k (out-NextGenerator next).generator

-- a reduction has its generator's source
abbrev pub head_at : Source
    → Head-F Delimited Item Atom Expr FlatPart Generator Head Postfix RunPart Variable Also
    BlockItem CaseClause Catch Elif ElseBlock ElseClause Finally NextGenerator TypeClause ExprList
    Flat NextExpr Operand Run → List Form
head_at k (Head-F.Atomic s) = []
head_at k (Head-F.Tryatomic s) = []
head_at k (Head-F.Throw s) = []
head_at k (Head-F.Spawn s) = []
head_at k (Head-F.Fn s left parameters right arrow) = []
head_at k (Head-F.Big big left generator right) = source_form k generator ∷ []

abbrev pub inside_head : Source → Head → List Form
inside_head k head = head_at k (out-Head head)

abbrev pub inside_maybe_head : Source → Option Head → List Form
inside_maybe_head k None = []
inside_maybe_head k (Some head) = inside_head k head

-- what stands in an expression: what its head has stands last
abbrev pub expr_at : Source
    → Expr-F Delimited Item Atom Expr FlatPart Generator Head Postfix RunPart Variable Also
    BlockItem CaseClause Catch Elif ElseBlock ElseClause Finally NextGenerator TypeClause ExprList
    Flat NextExpr Operand Run → List Form
expr_at k (Expr-F.Flat flat) = formed_flat k flat ∷ []
expr_at k (Expr-F.Assign target sign head value) =
    formed_flat k target ∷ formed_flat k value ∷ inside_maybe_head k head
expr_at k (Expr-F.Open head body) = formed_flat k body ∷ inside_head k head
expr_at k (Expr-F.OpenAssign head target sign value) =
    formed_flat k target ∷ formed_flat k value ∷ inside_head k head

-- the units or the parts of a grouping
abbrev pub group_at : Source → Flat → Grouped-F Grouped → List Form
group_at k flat (Grouped-F.Unit n) = formed_unit k flat n ∷ []
group_at k flat (Grouped-F.Binary op left right) =
    formed_group k flat left ∷ formed_group k flat right ∷ []
group_at k flat (Grouped-F.Chain ops parts) = map (formed_group k flat) parts
group_at k flat (Grouped-F.Juxt units) = map (formed_unit k flat) units

-- the expressions of a list
abbrev pub inside_list : Source → Option ExprList → List Form
inside_list k None = []
inside_list k (Some list) =
    formed_expr k (out-ExprList list).first ∷ map (formed_next_expr k) (out-ExprList list).others

abbrev pub atom_at : Source
    → Atom-F Delimited Item Atom Expr FlatPart Generator Head Postfix RunPart Variable Also
    BlockItem CaseClause Catch Elif ElseBlock ElseClause Finally NextGenerator TypeClause ExprList
    Flat NextExpr Operand Run → List Form
atom_at k (Atom-F.Name name) = []
atom_at k (Atom-F.Number value s) = []
atom_at k (Atom-F.Text text s) = []
atom_at k (Atom-F.True s) = []
atom_at k (Atom-F.False s) = []
atom_at k (Atom-F.Self_ s) = []
atom_at k (Atom-F.Parens left contents right) = inside_list k contents
atom_at k (Atom-F.Delimited form) = formed_delimited k form ∷ []
atom_at k (Atom-F.ArrayFill spots element size value) =
    formed_expr k size ∷ formed_expr k value ∷ []

abbrev pub postfix_at : Source
    → Postfix-F Delimited Item Atom Expr FlatPart Generator Head Postfix RunPart Variable Also
    BlockItem CaseClause Catch Elif ElseBlock ElseClause Finally NextGenerator TypeClause ExprList
    Flat NextExpr Operand Run → List Form
postfix_at k (Postfix-F.Subscript left index right) = formed_expr k index ∷ []
postfix_at k (Postfix-F.Power power exponent) = formed_atom k exponent ∷ []
postfix_at k (Postfix-F.Field dot name) = []
postfix_at k (Postfix-F.Call dot name left arguments right) = inside_list k arguments

-- the elements of a run
abbrev pub inside_run : Source → Run → List Form
inside_run k run = formed_atom k (out-Run run).first ∷ map (formed_run_part k) (out-Run run).rest

-- an item of a block has one expression
abbrev pub item_at : Source
    → Item-F Delimited Item Atom Expr FlatPart Generator Head Postfix RunPart Variable Also
    BlockItem CaseClause Catch Elif ElseBlock ElseClause Finally NextGenerator TypeClause ExprList
    Flat NextExpr Operand Run → Form
item_at k (Item-F.Variable variable) = formed_expr k (out-Variable variable).value
item_at k (Item-F.Names left first others right colon ty equals value) = formed_expr k value
item_at k (Item-F.Expr expr) = formed_expr k expr

abbrev pub item_value : Source → BlockItem → Form
item_value k entry = item_at k (out-Item (out-BlockItem entry).item)

-- an `elif` has its condition and its block, a clause of a `case` what it compares with and what it
-- gives
abbrev pub inside_elif : Source → Elif → List Form
inside_elif k e =
    formed_flat k (out-Elif e).condition ∷ formed_block k (out-Elif e).then (out-Elif e).block ∷ []

abbrev pub inside_case_clause : Source → CaseClause → List Form
inside_case_clause k c =
    formed_flat k (out-CaseClause c).subject ∷ formed_expr k (out-CaseClause c).value ∷ []

-- what a clause of a `typecase` or a `catch` gives
abbrev pub type_clause_value : Source → TypeClause → Form
type_clause_value k c = formed_expr k (out-TypeClause c).value

-- what may be left out
abbrev pub inside_else_block : Source → Option ElseBlock → List Form
inside_else_block k None = []
inside_else_block k (Some e) = formed_else_block k e ∷ []

abbrev pub inside_else_clause : Source → Option ElseClause → List Form
inside_else_clause k None = []
inside_else_clause k (Some e) = formed_expr k (out-ElseClause e).value ∷ []

abbrev pub inside_catch : Source → Option Catch → List Form
inside_catch k None = []
inside_catch k (Some c) = map (type_clause_value k) (out-Catch c).clauses

abbrev pub inside_finally : Source → Option Finally → List Form
inside_finally k None = []
inside_finally k (Some f) = formed_finally k f ∷ []

abbrev pub delimited_at : Source
    → Delimited-F Delimited Item Atom Expr FlatPart Generator Head Postfix RunPart Variable Also
    BlockItem CaseClause Catch Elif ElseBlock ElseClause Finally NextGenerator TypeClause ExprList
    Flat NextExpr Operand Run → List Form
delimited_at k (Delimited-F.Do at_do items others end) =
    formed_block k at_do items ∷ map (formed_also k) others
delimited_at k (Delimited-F.If at_if condition then items elifs otherwise end) =
    formed_flat k condition ∷ formed_block k
    then items ∷ (flat_map (inside_elif k) elifs ++ inside_else_block k otherwise)
delimited_at k (Delimited-F.While at_while condition at_do items end) =
    formed_flat k condition ∷ formed_block k at_do items ∷ []
delimited_at k (Delimited-F.For at_for generator others at_do items end) =
    source_form k generator ∷ (map (next_source k) others ++ formed_block k at_do items ∷ [])
delimited_at k (Delimited-F.Case at_case subject of clauses otherwise end) =
    formed_flat k subject
    ∷ (flat_map (inside_case_clause k) clauses ++ inside_else_clause k otherwise)
delimited_at k (Delimited-F.Typecase at_typecase name equals subject of clauses otherwise end) =
    formed_flat k subject ∷ (map (type_clause_value k) clauses ++ inside_else_clause k otherwise)
delimited_at k (Delimited-F.Try at_try items catch finally end) =
    formed_block k at_try items ∷ (inside_catch k catch ++ inside_finally k finally)

-- The forms that stand in a part, in the order in which they lie on the stack, the first on the
-- top. A flat expression has that of its grouping.
abbrev pub inside : Source → Part → List Form
inside k (a_part.Expr e) = expr_at k (out-Expr e.now)
inside k (a_part.Flat f) = formed_flat k f.now ∷ []
inside k (a_part.Group f g) = group_at k f.now (out-Grouped g.now)
inside k (a_part.Unit u) = formed_run k (out-Operand u.now).run ∷ []
inside k (a_part.Run r) = inside_run k r.now
inside k (a_part.Atom a) = atom_at k (out-Atom a.now)
inside k (a_part.Postfix p) = postfix_at k (out-Postfix p.now)
inside k (a_part.Form d) = delimited_at k (out-Delimited d.now)
inside k (a_part.Block word items) = map (item_value k) items.now

-- ---- tasks

-- The tasks, the top first, lead from one stack of forms to another: to see a part puts its form on
-- the top, and to build one takes the forms that stand in it off first.
abbrev pub Leads : Source → List Task → List Form → List Form → Type 0
Leads k [] done goal = done ≡ goal
Leads k (a_task.See part ∷ tasks) done goal = Leads k tasks (formed_part k part ∷ done) goal
Leads k (a_task.Build part ∷ tasks) done goal = (rest : List Form) × (done ≡ inside k part ++ rest)
    × Leads k tasks (formed_part k part ∷ rest) goal

-- Further tasks put these forms on the stack.
pub record Sees (k : Source) (forms : List Form) (old new : List Task) : Type 0 where
  pub sees : (done goal : List Form) → Leads k old (forms ++ done) goal → Leads k new done goal
