-- The chapter "Typing", forms: one level of each tree that a block may stand in, with the forms of
-- its parts in their places.
use Rattle.std.specs.Prelude.{List}
use Rattle.fort_base.specs.declared.ids.NameId.{NameId}
use Rattle.fort_base.specs.declared.refusal.Place.{Place}
use Rattle.fort_form.specs.declared.form.Form.{Form}
use Rattle.fort_form.specs.declared.form.Item.{Item}
use Rattle.fort_form.specs.declared.form.Branch.{Branch}
use Rattle.fort_form.specs.declared.form.TypeBranch.{TypeBranch}
use Rattle.fort_form.specs.declared.form.Generator.{Generator as FormGenerator}
use Rattle.fort_tree.specs.declared.delimited.Delimited.TheOpen.{Delimited-F, Item-F, Atom-F, Expr-F, FlatPart-F, Generator-F, Head-F, Postfix-F, RunPart-F, Variable-F, Also-F, BlockItem-F, CaseClause-F, Catch-F, Elif-F, ElseBlock-F, ElseClause-F, Finally-F, NextGenerator-F, TypeClause-F, ExprList-F, Flat-F, NextExpr-F, Operand-F, Run-F}

-- An item of a block, and the place of its first token.
pub record Placed : Type 0 where
  pub place : Place
  pub item : Item

-- What a `catch` binds, with its place, and its clauses.
pub record Catching : Type 0 where
  pub binder : Place × NameId
  pub clauses : List TypeBranch

-- What a head makes of the expression behind it.
abbrev pub Opening : Type 0
Opening = Form → Form

-- the forms of a list of expressions
abbrev pub Listed : Type 0
Listed = List Form

-- one level of a form that ends with `end`
abbrev pub FormedDelimited : Type 0
FormedDelimited =
    Delimited-F Form Placed Form Form Form FormGenerator Opening Form Form Placed Form Placed Branch
    Catching Branch Form Form Form FormGenerator TypeBranch Listed Form Form Form Form

-- one level of an item of a block
abbrev pub FormedItem : Type 0
FormedItem =
    Item-F Form Placed Form Form Form FormGenerator Opening Form Form Placed Form Placed Branch
    Catching Branch Form Form Form FormGenerator TypeBranch Listed Form Form Form Form

-- one level of an atom
abbrev pub FormedAtom : Type 0
FormedAtom =
    Atom-F Form Placed Form Form Form FormGenerator Opening Form Form Placed Form Placed Branch
    Catching Branch Form Form Form FormGenerator TypeBranch Listed Form Form Form Form

-- one level of an expression
abbrev pub FormedExpr : Type 0
FormedExpr =
    Expr-F Form Placed Form Form Form FormGenerator Opening Form Form Placed Form Placed Branch
    Catching Branch Form Form Form FormGenerator TypeBranch Listed Form Form Form Form

-- one level of a further unit of a flat expression
abbrev pub FormedFlatPart : Type 0
FormedFlatPart =
    FlatPart-F Form Placed Form Form Form FormGenerator Opening Form Form Placed Form Placed Branch
    Catching Branch Form Form Form FormGenerator TypeBranch Listed Form Form Form Form

-- one level of a generator
abbrev pub FormedGenerator : Type 0
FormedGenerator =
    Generator-F Form Placed Form Form Form FormGenerator Opening Form Form Placed Form Placed Branch
    Catching Branch Form Form Form FormGenerator TypeBranch Listed Form Form Form Form

-- one level of a head
abbrev pub FormedHead : Type 0
FormedHead =
    Head-F Form Placed Form Form Form FormGenerator Opening Form Form Placed Form Placed Branch
    Catching Branch Form Form Form FormGenerator TypeBranch Listed Form Form Form Form

-- one level of a postfix
abbrev pub FormedPostfix : Type 0
FormedPostfix =
    Postfix-F Form Placed Form Form Form FormGenerator Opening Form Form Placed Form Placed Branch
    Catching Branch Form Form Form FormGenerator TypeBranch Listed Form Form Form Form

-- one level of a further element of a run
abbrev pub FormedRunPart : Type 0
FormedRunPart =
    RunPart-F Form Placed Form Form Form FormGenerator Opening Form Form Placed Form Placed Branch
    Catching Branch Form Form Form FormGenerator TypeBranch Listed Form Form Form Form

-- one level of a declaration of a variable
abbrev pub FormedVariable : Type 0
FormedVariable =
    Variable-F Form Placed Form Form Form FormGenerator Opening Form Form Placed Form Placed Branch
    Catching Branch Form Form Form FormGenerator TypeBranch Listed Form Form Form Form

-- one level of an `also` with its block
abbrev pub FormedAlso : Type 0
FormedAlso =
    Also-F Form Placed Form Form Form FormGenerator Opening Form Form Placed Form Placed Branch
    Catching Branch Form Form Form FormGenerator TypeBranch Listed Form Form Form Form

-- one level of an item of a block with its `;`
abbrev pub FormedBlockItem : Type 0
FormedBlockItem =
    BlockItem-F Form Placed Form Form Form FormGenerator Opening Form Form Placed Form Placed Branch
    Catching Branch Form Form Form FormGenerator TypeBranch Listed Form Form Form Form

-- one level of a clause of a `case`
abbrev pub FormedCaseClause : Type 0
FormedCaseClause =
    CaseClause-F Form Placed Form Form Form FormGenerator Opening Form Form Placed Form Placed
    Branch Catching Branch Form Form Form FormGenerator TypeBranch Listed Form Form Form Form

-- one level of a `catch`
abbrev pub FormedCatch : Type 0
FormedCatch =
    Catch-F Form Placed Form Form Form FormGenerator Opening Form Form Placed Form Placed Branch
    Catching Branch Form Form Form FormGenerator TypeBranch Listed Form Form Form Form

-- one level of an `elif`
abbrev pub FormedElif : Type 0
FormedElif =
    Elif-F Form Placed Form Form Form FormGenerator Opening Form Form Placed Form Placed Branch
    Catching Branch Form Form Form FormGenerator TypeBranch Listed Form Form Form Form

-- one level of the `else` of an `if`
abbrev pub FormedElseBlock : Type 0
FormedElseBlock =
    ElseBlock-F Form Placed Form Form Form FormGenerator Opening Form Form Placed Form Placed Branch
    Catching Branch Form Form Form FormGenerator TypeBranch Listed Form Form Form Form

-- one level of the `else` of a `case` or `typecase`
abbrev pub FormedElseClause : Type 0
FormedElseClause =
    ElseClause-F Form Placed Form Form Form FormGenerator Opening Form Form Placed Form Placed
    Branch Catching Branch Form Form Form FormGenerator TypeBranch Listed Form Form Form Form

-- one level of a `finally`
abbrev pub FormedFinally : Type 0
FormedFinally =
    Finally-F Form Placed Form Form Form FormGenerator Opening Form Form Placed Form Placed Branch
    Catching Branch Form Form Form FormGenerator TypeBranch Listed Form Form Form Form

-- one level of a further generator of a `for`
abbrev pub FormedNextGenerator : Type 0
FormedNextGenerator =
    NextGenerator-F Form Placed Form Form Form FormGenerator Opening Form Form Placed Form Placed
    Branch Catching Branch Form Form Form FormGenerator TypeBranch Listed Form Form Form Form

-- one level of a clause of a `typecase` or `catch`
abbrev pub FormedTypeClause : Type 0
FormedTypeClause =
    TypeClause-F Form Placed Form Form Form FormGenerator Opening Form Form Placed Form Placed
    Branch Catching Branch Form Form Form FormGenerator TypeBranch Listed Form Form Form Form

-- one level of a list of expressions
abbrev pub FormedExprList : Type 0
FormedExprList =
    ExprList-F Form Placed Form Form Form FormGenerator Opening Form Form Placed Form Placed Branch
    Catching Branch Form Form Form FormGenerator TypeBranch Listed Form Form Form Form

-- one level of a flat expression
abbrev pub FormedFlat : Type 0
FormedFlat =
    Flat-F Form Placed Form Form Form FormGenerator Opening Form Form Placed Form Placed Branch
    Catching Branch Form Form Form FormGenerator TypeBranch Listed Form Form Form Form

-- one level of a further expression of a list
abbrev pub FormedNextExpr : Type 0
FormedNextExpr =
    NextExpr-F Form Placed Form Form Form FormGenerator Opening Form Form Placed Form Placed Branch
    Catching Branch Form Form Form FormGenerator TypeBranch Listed Form Form Form Form

-- one level of a unit
abbrev pub FormedOperand : Type 0
FormedOperand =
    Operand-F Form Placed Form Form Form FormGenerator Opening Form Form Placed Form Placed Branch
    Catching Branch Form Form Form FormGenerator TypeBranch Listed Form Form Form Form

-- one level of a run
abbrev pub FormedRun : Type 0
FormedRun =
    Run-F Form Placed Form Form Form FormGenerator Opening Form Form Placed Form Placed Branch
    Catching Branch Form Form Form FormGenerator TypeBranch Listed Form Form Form Form
