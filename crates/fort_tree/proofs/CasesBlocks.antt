-- The chapter "Grammar": a fact of each form of a block's parts is a fact of every one.
use Rattle.std.specs.Prelude.{List, Option}
use Rattle.std.proofs.Common.{subst, sym}
use Rattle.fort_tree.specs.declared.spot.Spot.{Spot}
use Rattle.fort_tree.specs.declared.spot.Name.{Name}
use Rattle.fort_tree.specs.declared.spot.NextName.{NextName}
use Rattle.fort_tree.specs.declared.declarations.InitialSign.{InitialSign}
use Rattle.fort_tree.specs.declared.types.TypeTree.{TypeTree}
use Rattle.fort_tree.specs.declared.delimited.Delimited.{Delimited}
use Rattle.fort_tree.specs.declared.delimited.Delimited.TheVariants as a_delimited
use Rattle.fort_tree.specs.declared.delimited.Item.{Item}
use Rattle.fort_tree.specs.declared.delimited.Item.TheVariants as an_item
use Rattle.fort_tree.specs.declared.expr.Atom.{Atom}
use Rattle.fort_tree.specs.declared.expr.Expr.{Expr}
use Rattle.fort_tree.specs.declared.expr.FlatPart.{FlatPart}
use Rattle.fort_tree.specs.declared.expr.Generator.{Generator}
use Rattle.fort_tree.specs.declared.expr.Head.{Head}
use Rattle.fort_tree.specs.declared.expr.Postfix.{Postfix}
use Rattle.fort_tree.specs.declared.expr.RunPart.{RunPart}
use Rattle.fort_tree.specs.declared.declarations.Variable.{Variable}
use Rattle.fort_tree.specs.declared.delimited.Also.{Also}
use Rattle.fort_tree.specs.declared.delimited.BlockItem.{BlockItem}
use Rattle.fort_tree.specs.declared.delimited.CaseClause.{CaseClause}
use Rattle.fort_tree.specs.declared.delimited.Catch.{Catch}
use Rattle.fort_tree.specs.declared.delimited.Elif.{Elif}
use Rattle.fort_tree.specs.declared.delimited.ElseBlock.{ElseBlock}
use Rattle.fort_tree.specs.declared.delimited.ElseClause.{ElseClause}
use Rattle.fort_tree.specs.declared.delimited.Finally.{Finally}
use Rattle.fort_tree.specs.declared.delimited.NextGenerator.{NextGenerator}
use Rattle.fort_tree.specs.declared.delimited.TypeClause.{TypeClause}
use Rattle.fort_tree.specs.declared.expr.ExprList.{ExprList}
use Rattle.fort_tree.specs.declared.expr.Flat.{Flat}
use Rattle.fort_tree.specs.declared.expr.NextExpr.{NextExpr}
use Rattle.fort_tree.specs.declared.expr.Operand.{Operand}
use Rattle.fort_tree.specs.declared.expr.Run.{Run}
use Rattle.fort_tree.specs.declared.delimited.Delimited.TheOpen.{Delimited-F, Item-F}
use Rattle.fort_tree.specs.declared.delimited.Delimited.TheViews as views

module _ (P : Delimited → Type 0)
    (of_do : (do_ : Spot) (block : List BlockItem) (others : List Also) (end : Spot)
    → P (a_delimited.Do do_ block others end))
    (of_if : (if_ : Spot) (condition : Flat) (then : Spot) (block : List BlockItem)
    (elifs : List Elif) (otherwise : Option ElseBlock) (end : Spot)
    → P (a_delimited.If if_ condition then block elifs otherwise end))
    (of_while : (while_ : Spot) (condition : Flat) (do_ : Spot) (block : List BlockItem)
    (end : Spot) → P (a_delimited.While while_ condition do_ block end))
    (of_for : (for_ : Spot) (generator : Generator) (others : List NextGenerator) (do_ : Spot)
    (block : List BlockItem) (end : Spot)
    → P (a_delimited.For for_ generator others do_ block end))
    (of_case : (case : Spot) (subject : Flat) (of : Spot) (clauses : List CaseClause)
    (otherwise : Option ElseClause) (end : Spot)
    → P (a_delimited.Case case subject of clauses otherwise end))
    (of_typecase : (typecase : Spot) (name : Name) (equals : Spot) (subject : Flat) (of : Spot)
    (clauses : List TypeClause) (otherwise : Option ElseClause) (end : Spot)
    → P (a_delimited.Typecase typecase name equals subject of clauses otherwise end))
    (of_try : (try_ : Spot) (block : List BlockItem) (catch : Option Catch)
    (finally : Option Finally) (end : Spot)
    → P (a_delimited.Try try_ block catch finally end)) where
  delimited_at : (l : Delimited-F Delimited Item Atom Expr FlatPart Generator Head Postfix RunPart
      Variable Also BlockItem CaseClause Catch Elif ElseBlock ElseClause Finally NextGenerator
      TypeClause ExprList Flat NextExpr Operand Run) → P (views.roll-Delimited l)
  delimited_at (Delimited-F.Do do_ block others end) =
      subst P (sym (views.rolls-Do do_ block others end)) (of_do do_ block others end)
  delimited_at (Delimited-F.If if_ condition then block elifs otherwise end) =
      subst P (sym (views.rolls-If if_ condition then block elifs otherwise end))
      (of_if if_ condition then block elifs otherwise end)
  delimited_at (Delimited-F.While while_ condition do_ block end) =
      subst P (sym (views.rolls-While while_ condition do_ block end))
      (of_while while_ condition do_ block end)
  delimited_at (Delimited-F.For for_ generator others do_ block end) =
      subst P (sym (views.rolls-For for_ generator others do_ block end))
      (of_for for_ generator others do_ block end)
  delimited_at (Delimited-F.Case case subject of clauses otherwise end) =
      subst P (sym (views.rolls-Case case subject of clauses otherwise end))
      (of_case case subject of clauses otherwise end)
  delimited_at (Delimited-F.Typecase typecase name equals subject of clauses otherwise end) =
      subst P (sym (views.rolls-Typecase typecase name equals subject of clauses otherwise end))
      (of_typecase typecase name equals subject of clauses otherwise end)
  delimited_at (Delimited-F.Try try_ block catch finally end) =
      subst P (sym (views.rolls-Try try_ block catch finally end))
      (of_try try_ block catch finally end)

  pub cases_delimited : (x : Delimited) → P x
  cases_delimited x = subst P (views.roll-out-Delimited x) (delimited_at (views.out-Delimited x))

pub cases_also : (P : Also → Type 0)
    → ((also do_ : Spot) (block : List BlockItem)
    → P (views.roll-Also (record { also = also; do_ = do_; block = block }))) → (x : Also) → P x
cases_also P a x =
    subst P (views.roll-out-Also x)
    (a (views.out-Also x).also (views.out-Also x).do_ (views.out-Also x).block)

pub cases_elif : (P : Elif → Type 0)
    → ((elif : Spot) (condition : Flat) (then : Spot) (block : List BlockItem)
    → P (views.roll-Elif
    (record { elif = elif; condition = condition; then = then; block = block }))) → (x : Elif)
    → P x
cases_elif P a x =
    subst P (views.roll-out-Elif x)
    (a (views.out-Elif x).elif (views.out-Elif x).condition (views.out-Elif x).then
    (views.out-Elif x).block)

pub cases_else_block : (P : ElseBlock → Type 0)
    → ((else_ : Spot) (block : List BlockItem)
    → P (views.roll-ElseBlock (record { else_ = else_; block = block }))) → (x : ElseBlock)
    → P x
cases_else_block P a x =
    subst P (views.roll-out-ElseBlock x)
    (a (views.out-ElseBlock x).else_ (views.out-ElseBlock x).block)

pub cases_next_generator : (P : NextGenerator → Type 0)
    → ((comma : Spot) (generator : Generator)
    → P (views.roll-NextGenerator (record { comma = comma; generator = generator })))
    → (x : NextGenerator) → P x
cases_next_generator P a x =
    subst P (views.roll-out-NextGenerator x)
    (a (views.out-NextGenerator x).comma (views.out-NextGenerator x).generator)

pub cases_case_clause : (P : CaseClause → Type 0)
    → ((subject : Flat) (arrow : Spot) (value : Expr) (semicolon : Option Spot)
    → P (views.roll-CaseClause
    (record { subject = subject; arrow = arrow; value = value; semicolon = semicolon })))
    → (x : CaseClause) → P x
cases_case_clause P a x =
    subst P (views.roll-out-CaseClause x)
    (a (views.out-CaseClause x).subject (views.out-CaseClause x).arrow
    (views.out-CaseClause x).value (views.out-CaseClause x).semicolon)

pub cases_type_clause : (P : TypeClause → Type 0)
    → ((ty : TypeTree) (arrow : Spot) (value : Expr) (semicolon : Option Spot)
    → P (views.roll-TypeClause
    (record { ty = ty; arrow = arrow; value = value; semicolon = semicolon })))
    → (x : TypeClause) → P x
cases_type_clause P a x =
    subst P (views.roll-out-TypeClause x)
    (a (views.out-TypeClause x).ty (views.out-TypeClause x).arrow (views.out-TypeClause x).value
    (views.out-TypeClause x).semicolon)

pub cases_else_clause : (P : ElseClause → Type 0)
    → ((semicolon : Option Spot) (else_ arrow : Spot) (value : Expr)
    → P (views.roll-ElseClause
    (record { semicolon = semicolon; else_ = else_; arrow = arrow; value = value })))
    → (x : ElseClause) → P x
cases_else_clause P a x =
    subst P (views.roll-out-ElseClause x)
    (a (views.out-ElseClause x).semicolon (views.out-ElseClause x).else_
    (views.out-ElseClause x).arrow (views.out-ElseClause x).value)

pub cases_catch : (P : Catch → Type 0)
    → ((catch : Spot) (name : Name) (clauses : List TypeClause)
    → P (views.roll-Catch (record { catch = catch; name = name; clauses = clauses })))
    → (x : Catch) → P x
cases_catch P a x =
    subst P (views.roll-out-Catch x)
    (a (views.out-Catch x).catch (views.out-Catch x).name (views.out-Catch x).clauses)

pub cases_finally : (P : Finally → Type 0)
    → ((finally : Spot) (block : List BlockItem)
    → P (views.roll-Finally (record { finally = finally; block = block }))) → (x : Finally)
    → P x
cases_finally P a x =
    subst P (views.roll-out-Finally x) (a (views.out-Finally x).finally (views.out-Finally x).block)

pub cases_block_item : (P : BlockItem → Type 0)
    → ((item : Item) (semicolon : Option Spot)
    → P (views.roll-BlockItem (record { item = item; semicolon = semicolon })))
    → (x : BlockItem) → P x
cases_block_item P a x =
    subst P (views.roll-out-BlockItem x)
    (a (views.out-BlockItem x).item (views.out-BlockItem x).semicolon)

module _ (P : Item → Type 0) (of_variable : (variable : Variable) → P (an_item.Variable variable))
    (of_names : (left : Spot) (first : Name) (others : List NextName) (right colon : Spot)
    (ty : TypeTree) (equals : Spot) (value : Expr)
    → P (an_item.Names left first others right colon ty equals value))
    (of_expr : (expr : Expr) → P (an_item.Expr expr)) where
  item_at : (l : Item-F Delimited Item Atom Expr FlatPart Generator Head Postfix RunPart Variable
      Also BlockItem CaseClause Catch Elif ElseBlock ElseClause Finally NextGenerator TypeClause
      ExprList Flat NextExpr Operand Run) → P (views.roll-Item l)
  item_at (Item-F.Variable variable) =
      subst P (sym (views.rolls-Variable variable)) (of_variable variable)
  item_at (Item-F.Names left first others right colon ty equals value) =
      subst P (sym (views.rolls-Names left first others right colon ty equals value))
      (of_names left first others right colon ty equals value)
  item_at (Item-F.Expr expr) = subst P (sym (views.rolls-Expr expr)) (of_expr expr)

  pub cases_item : (x : Item) → P x
  cases_item x = subst P (views.roll-out-Item x) (item_at (views.out-Item x))

pub cases_variable : (P : Variable → Type 0)
    → ((var : Option Spot) (name : Name) (colon : Spot) (ty : TypeTree) (sign : InitialSign)
    (value : Expr)
    → P (views.roll-Variable
    (record { var = var; name = name; colon = colon; ty = ty; sign = sign; value = value })))
    → (x : Variable) → P x
cases_variable P a x =
    subst P (views.roll-out-Variable x)
    (a (views.out-Variable x).var (views.out-Variable x).name (views.out-Variable x).colon
    (views.out-Variable x).ty (views.out-Variable x).sign (views.out-Variable x).value)
