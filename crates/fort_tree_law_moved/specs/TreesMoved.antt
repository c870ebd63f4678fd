-- The chapter "Grammar", trees apart from places: expressions and blocks with their places moved.
use Rattle.std.specs.Prelude.{map, option_map}
use Rattle.fort_base.specs.declared.refusal.Place.{Place}
use Rattle.fort_tree.specs.declared.delimited.Delimited.{Delimited}
use Rattle.fort_tree.specs.declared.delimited.Item.{Item}
use Rattle.fort_tree.specs.declared.expr.Atom.{Atom}
use Rattle.fort_tree.specs.declared.expr.Expr.{Expr}
use Rattle.fort_tree.specs.declared.expr.FlatPart.{FlatPart}
use Rattle.fort_tree.specs.declared.expr.Generator.{Generator}
use Rattle.fort_tree.specs.declared.expr.Head.{Head}
use Rattle.fort_tree.specs.declared.expr.Postfix.{Postfix}
use Rattle.fort_tree.specs.declared.expr.RunPart.{RunPart}
use Rattle.fort_tree.specs.declared.declarations.Variable.{Variable}
use Rattle.fort_tree.specs.declared.delimited.Also.{Also}
use Rattle.fort_tree.specs.declared.delimited.BlockItem.{BlockItem}
use Rattle.fort_tree.specs.declared.delimited.CaseClause.{CaseClause}
use Rattle.fort_tree.specs.declared.delimited.Catch.{Catch}
use Rattle.fort_tree.specs.declared.delimited.Elif.{Elif}
use Rattle.fort_tree.specs.declared.delimited.ElseBlock.{ElseBlock}
use Rattle.fort_tree.specs.declared.delimited.ElseClause.{ElseClause}
use Rattle.fort_tree.specs.declared.delimited.Finally.{Finally}
use Rattle.fort_tree.specs.declared.delimited.NextGenerator.{NextGenerator}
use Rattle.fort_tree.specs.declared.delimited.TypeClause.{TypeClause}
use Rattle.fort_tree.specs.declared.expr.ExprList.{ExprList}
use Rattle.fort_tree.specs.declared.expr.Flat.{Flat}
use Rattle.fort_tree.specs.declared.expr.NextExpr.{NextExpr}
use Rattle.fort_tree.specs.declared.expr.Operand.{Operand}
use Rattle.fort_tree.specs.declared.expr.Run.{Run}
use Rattle.fort_tree.specs.declared.delimited.Delimited.TheOpen.{Delimited-F, Item-F, Atom-F, Expr-F, FlatPart-F, Generator-F, Head-F, Postfix-F, RunPart-F, Variable-F, Also-F, BlockItem-F, CaseClause-F, Catch-F, Elif-F, ElseBlock-F, ElseClause-F, Finally-F, NextGenerator-F, TypeClause-F, ExprList-F, Flat-F, NextExpr-F, Operand-F, Run-F}
use Rattle.fort_tree.specs.declared.delimited.Delimited.TheFolds.{fold-Delimited, fold-Item, fold-Atom, fold-Expr, fold-FlatPart, fold-Generator, fold-Head, fold-Postfix, fold-RunPart, fold-Variable, fold-Also, fold-BlockItem, fold-CaseClause, fold-Catch, fold-Elif, fold-ElseBlock, fold-ElseClause, fold-Finally, fold-NextGenerator, fold-TypeClause, fold-ExprList, fold-Flat, fold-NextExpr, fold-Operand, fold-Run}
use Rattle.fort_tree.specs.declared.delimited.Delimited.TheViews.{roll-Delimited, roll-Item, roll-Atom, roll-Expr, roll-FlatPart, roll-Generator, roll-Head, roll-Postfix, roll-RunPart, roll-Variable, roll-Also, roll-BlockItem, roll-CaseClause, roll-Catch, roll-Elif, roll-ElseBlock, roll-ElseClause, roll-Finally, roll-NextGenerator, roll-TypeClause, roll-ExprList, roll-Flat, roll-NextExpr, roll-Operand, roll-Run}
use Rattle.fort_tree_law_moved.specs.Spots.{moved_spot, moved_name, moved_sign, moved_next_name, moved_initial, moved_assign, moved_big, moved_fill, moved_prefix}
use Rattle.fort_tree_law_moved.specs.TypesMoved.{moved_type, moved_parameters}

-- ---- levels: their parts stay

module _ (g : Place → Place)
    {D I A E FP G H P RP V AL BI CC C EI EB EC FI NG TC EL F NE O R : Type 0} where
  -- one level of a form that ends with `end`
  abbrev pub delimited_level : Delimited-F D I A E FP G H P RP V AL BI CC C EI EB EC FI NG TC EL F
      NE O R → Delimited-F D I A E FP G H P RP V AL BI CC C EI EB EC FI NG TC EL F NE O R
  delimited_level (Delimited-F.Do at_do block others end) =
      Delimited-F.Do (moved_spot g at_do) block others (moved_spot g end)
  delimited_level (Delimited-F.If at_if condition then block elifs otherwise end) =
      Delimited-F.If (moved_spot g at_if) condition (moved_spot g then) block elifs otherwise
      (moved_spot g end)
  delimited_level (Delimited-F.While at_while condition at_do block end) =
      Delimited-F.While (moved_spot g at_while) condition (moved_spot g at_do) block
      (moved_spot g end)
  delimited_level (Delimited-F.For at_for generator others at_do block end) =
      Delimited-F.For (moved_spot g at_for) generator others (moved_spot g at_do) block
      (moved_spot g end)
  delimited_level (Delimited-F.Case at_case subject of clauses otherwise end) =
      Delimited-F.Case (moved_spot g at_case) subject (moved_spot g of) clauses otherwise
      (moved_spot g end)
  delimited_level
      (Delimited-F.Typecase at_typecase name at_equals subject of clauses otherwise end) =
      Delimited-F.Typecase (moved_spot g at_typecase) (moved_name g name) (moved_spot g at_equals)
      subject (moved_spot g of) clauses otherwise (moved_spot g end)
  delimited_level (Delimited-F.Try at_try block catch finally end) =
      Delimited-F.Try (moved_spot g at_try) block catch finally (moved_spot g end)

  -- one level of an item of a block
  abbrev pub item_level : Item-F D I A E FP G H P RP V AL BI CC C EI EB EC FI NG TC EL F NE O R
      → Item-F D I A E FP G H P RP V AL BI CC C EI EB EC FI NG TC EL F NE O R
  item_level (Item-F.Variable variable) = Item-F.Variable variable
  item_level (Item-F.Names left first others right at_colon ty at_equals value) =
      Item-F.Names (moved_spot g left) (moved_name g first) (map (moved_next_name g) others)
      (moved_spot g right) (moved_spot g at_colon) (moved_type g ty) (moved_spot g at_equals) value
  item_level (Item-F.Expr expr) = Item-F.Expr expr

  -- one level of an atom
  abbrev pub atom_level : Atom-F D I A E FP G H P RP V AL BI CC C EI EB EC FI NG TC EL F NE O R
      → Atom-F D I A E FP G H P RP V AL BI CC C EI EB EC FI NG TC EL F NE O R
  atom_level (Atom-F.Name name) = Atom-F.Name (moved_name g name)
  atom_level (Atom-F.Number value s) = Atom-F.Number value (moved_spot g s)
  atom_level (Atom-F.Text text s) = Atom-F.Text text (moved_spot g s)
  atom_level (Atom-F.True s) = Atom-F.True (moved_spot g s)
  atom_level (Atom-F.False s) = Atom-F.False (moved_spot g s)
  atom_level (Atom-F.Self_ s) = Atom-F.Self_ (moved_spot g s)
  atom_level (Atom-F.Parens left contents right) =
      Atom-F.Parens (moved_spot g left) contents (moved_spot g right)
  atom_level (Atom-F.Delimited form) = Atom-F.Delimited form
  atom_level (Atom-F.ArrayFill spots element size value) =
      Atom-F.ArrayFill (moved_fill g spots) (moved_type g element) size value

  -- one level of an expression
  abbrev pub expr_level : Expr-F D I A E FP G H P RP V AL BI CC C EI EB EC FI NG TC EL F NE O R
      → Expr-F D I A E FP G H P RP V AL BI CC C EI EB EC FI NG TC EL F NE O R
  expr_level (Expr-F.Flat flat) = Expr-F.Flat flat
  expr_level (Expr-F.Assign target sign head value) =
      Expr-F.Assign target (moved_assign g sign) head value
  expr_level (Expr-F.Open head body) = Expr-F.Open head body
  expr_level (Expr-F.OpenAssign head target sign value) =
      Expr-F.OpenAssign head target (moved_assign g sign) value

  -- one level of a further part of a flat expression
  abbrev pub flat_part_level : FlatPart-F D I A E FP G H P RP V AL BI CC C EI EB EC FI NG TC EL F NE
      O R → FlatPart-F D I A E FP G H P RP V AL BI CC C EI EB EC FI NG TC EL F NE O R
  flat_part_level (FlatPart-F.Run run) = FlatPart-F.Run run
  flat_part_level (FlatPart-F.Infix sign operand) = FlatPart-F.Infix (moved_sign g sign) operand

  -- one level of a generator
  abbrev pub generator_level : Generator-F D I A E FP G H P RP V AL BI CC C EI EB EC FI NG TC EL F
      NE O R → Generator-F D I A E FP G H P RP V AL BI CC C EI EB EC FI NG TC EL F NE O R
  generator_level (Generator-F.Parallel name arrow source) =
      Generator-F.Parallel (moved_name g name) (moved_spot g arrow) source
  generator_level (Generator-F.Sequential name arrow seq left source right) =
      Generator-F.Sequential (moved_name g name) (moved_spot g arrow) (moved_spot g seq)
      (moved_spot g left) source (moved_spot g right)

  -- one level of a head
  abbrev pub head_level : Head-F D I A E FP G H P RP V AL BI CC C EI EB EC FI NG TC EL F NE O R
      → Head-F D I A E FP G H P RP V AL BI CC C EI EB EC FI NG TC EL F NE O R
  head_level (Head-F.Atomic s) = Head-F.Atomic (moved_spot g s)
  head_level (Head-F.Tryatomic s) = Head-F.Tryatomic (moved_spot g s)
  head_level (Head-F.Throw s) = Head-F.Throw (moved_spot g s)
  head_level (Head-F.Spawn s) = Head-F.Spawn (moved_spot g s)
  head_level (Head-F.Fn s left parameters right arrow) =
      Head-F.Fn (moved_spot g s) (moved_spot g left) (option_map (moved_parameters g) parameters)
      (moved_spot g right) (moved_spot g arrow)
  head_level (Head-F.Big big left generator right) =
      Head-F.Big (moved_big g big) (moved_spot g left) generator (moved_spot g right)

  -- one level of a postfix
  abbrev pub postfix_level : Postfix-F D I A E FP G H P RP V AL BI CC C EI EB EC FI NG TC EL F NE O
      R → Postfix-F D I A E FP G H P RP V AL BI CC C EI EB EC FI NG TC EL F NE O R
  postfix_level (Postfix-F.Subscript left index right) =
      Postfix-F.Subscript (moved_spot g left) index (moved_spot g right)
  postfix_level (Postfix-F.Power power exponent) = Postfix-F.Power (moved_spot g power) exponent
  postfix_level (Postfix-F.Field dot name) = Postfix-F.Field (moved_spot g dot) (moved_name g name)
  postfix_level (Postfix-F.Call dot name left arguments right) =
      Postfix-F.Call (moved_spot g dot) (moved_name g name) (moved_spot g left) arguments
      (moved_spot g right)

  -- one level of a further part of a run
  abbrev pub run_part_level : RunPart-F D I A E FP G H P RP V AL BI CC C EI EB EC FI NG TC EL F NE O
      R → RunPart-F D I A E FP G H P RP V AL BI CC C EI EB EC FI NG TC EL F NE O R
  run_part_level (RunPart-F.Atom atom) = RunPart-F.Atom atom
  run_part_level (RunPart-F.Postfix postfix) = RunPart-F.Postfix postfix

  -- one level of a declaration of a variable
  abbrev pub variable_level : Variable-F D I A E FP G H P RP V AL BI CC C EI EB EC FI NG TC EL F NE
      O R → Variable-F D I A E FP G H P RP V AL BI CC C EI EB EC FI NG TC EL F NE O R
  variable_level l =
      record {
        var = option_map (moved_spot g) l.var;
        name = moved_name g l.name;
        colon = moved_spot g l.colon;
        ty = moved_type g l.ty;
        sign = moved_initial g l.sign;
        value = l.value;
      }

  -- one level of an `also` with its block
  abbrev pub also_level : Also-F D I A E FP G H P RP V AL BI CC C EI EB EC FI NG TC EL F NE O R
      → Also-F D I A E FP G H P RP V AL BI CC C EI EB EC FI NG TC EL F NE O R
  also_level l = record { also = moved_spot g l.also; do_ = moved_spot g l.do_; block = l.block }

  -- one level of an item of a block with its `;`
  abbrev pub block_item_level : BlockItem-F D I A E FP G H P RP V AL BI CC C EI EB EC FI NG TC EL F
      NE O R → BlockItem-F D I A E FP G H P RP V AL BI CC C EI EB EC FI NG TC EL F NE O R
  block_item_level l = record { item = l.item; semicolon = option_map (moved_spot g) l.semicolon }

  -- one level of a clause of a `case`
  abbrev pub case_clause_level : CaseClause-F D I A E FP G H P RP V AL BI CC C EI EB EC FI NG TC EL
      F NE O R → CaseClause-F D I A E FP G H P RP V AL BI CC C EI EB EC FI NG TC EL F NE O R
  case_clause_level l =
      record {
        subject = l.subject;
        arrow = moved_spot g l.arrow;
        value = l.value;
        semicolon = option_map (moved_spot g) l.semicolon;
      }

  -- one level of a `catch`
  abbrev pub catch_level : Catch-F D I A E FP G H P RP V AL BI CC C EI EB EC FI NG TC EL F NE O R
      → Catch-F D I A E FP G H P RP V AL BI CC C EI EB EC FI NG TC EL F NE O R
  catch_level l =
      record { catch = moved_spot g l.catch; name = moved_name g l.name; clauses = l.clauses }

  -- one level of an `elif`
  abbrev pub elif_level : Elif-F D I A E FP G H P RP V AL BI CC C EI EB EC FI NG TC EL F NE O R
      → Elif-F D I A E FP G H P RP V AL BI CC C EI EB EC FI NG TC EL F NE O R
  elif_level l =
      record {
        elif = moved_spot g l.elif;
        condition = l.condition;
        then = moved_spot g l.then;
        block = l.block;
      }

  -- one level of the `else` of an `if`
  abbrev pub else_block_level : ElseBlock-F D I A E FP G H P RP V AL BI CC C EI EB EC FI NG TC EL F
      NE O R → ElseBlock-F D I A E FP G H P RP V AL BI CC C EI EB EC FI NG TC EL F NE O R
  else_block_level l = record { else_ = moved_spot g l.else_; block = l.block }

  -- one level of the `else` of a `case` or `typecase`
  abbrev pub else_clause_level : ElseClause-F D I A E FP G H P RP V AL BI CC C EI EB EC FI NG TC EL
      F NE O R → ElseClause-F D I A E FP G H P RP V AL BI CC C EI EB EC FI NG TC EL F NE O R
  else_clause_level l =
      record {
        semicolon = option_map (moved_spot g) l.semicolon;
        else_ = moved_spot g l.else_;
        arrow = moved_spot g l.arrow;
        value = l.value;
      }

  -- one level of a `finally`
  abbrev pub finally_level : Finally-F D I A E FP G H P RP V AL BI CC C EI EB EC FI NG TC EL F NE O
      R → Finally-F D I A E FP G H P RP V AL BI CC C EI EB EC FI NG TC EL F NE O R
  finally_level l = record { finally = moved_spot g l.finally; block = l.block }

  -- one level of a further generator of a `for`
  abbrev pub next_generator_level : NextGenerator-F D I A E FP G H P RP V AL BI CC C EI EB EC FI NG
      TC EL F NE O R
      → NextGenerator-F D I A E FP G H P RP V AL BI CC C EI EB EC FI NG TC EL F NE O R
  next_generator_level l = record { comma = moved_spot g l.comma; generator = l.generator }

  -- one level of a clause of a `typecase` or `catch`
  abbrev pub type_clause_level : TypeClause-F D I A E FP G H P RP V AL BI CC C EI EB EC FI NG TC EL
      F NE O R → TypeClause-F D I A E FP G H P RP V AL BI CC C EI EB EC FI NG TC EL F NE O R
  type_clause_level l =
      record {
        ty = moved_type g l.ty;
        arrow = moved_spot g l.arrow;
        value = l.value;
        semicolon = option_map (moved_spot g) l.semicolon;
      }

  -- one level of a list of expressions
  abbrev pub expr_list_level : ExprList-F D I A E FP G H P RP V AL BI CC C EI EB EC FI NG TC EL F NE
      O R → ExprList-F D I A E FP G H P RP V AL BI CC C EI EB EC FI NG TC EL F NE O R
  expr_list_level l = record { first = l.first; others = l.others }

  -- one level of a flat expression
  abbrev pub flat_level : Flat-F D I A E FP G H P RP V AL BI CC C EI EB EC FI NG TC EL F NE O R
      → Flat-F D I A E FP G H P RP V AL BI CC C EI EB EC FI NG TC EL F NE O R
  flat_level l = record { first = l.first; rest = l.rest }

  -- one level of a further expression of a list
  abbrev pub next_expr_level : NextExpr-F D I A E FP G H P RP V AL BI CC C EI EB EC FI NG TC EL F NE
      O R → NextExpr-F D I A E FP G H P RP V AL BI CC C EI EB EC FI NG TC EL F NE O R
  next_expr_level l = record { comma = moved_spot g l.comma; expr = l.expr }

  -- one level of a unit
  abbrev pub operand_level : Operand-F D I A E FP G H P RP V AL BI CC C EI EB EC FI NG TC EL F NE O
      R → Operand-F D I A E FP G H P RP V AL BI CC C EI EB EC FI NG TC EL F NE O R
  operand_level l = record { prefix = option_map (moved_prefix g) l.prefix; run = l.run }

  -- one level of a run
  abbrev pub run_level : Run-F D I A E FP G H P RP V AL BI CC C EI EB EC FI NG TC EL F NE O R
      → Run-F D I A E FP G H P RP V AL BI CC C EI EB EC FI NG TC EL F NE O R
  run_level l = record { first = l.first; rest = l.rest }

-- ---- trees: each level moved, and rolled up again

module _ (g : Place → Place) where
  -- one level of a form that ends with `end`, as a tree
  abbrev pub move_delimited : Delimited-F Delimited Item Atom Expr FlatPart Generator Head Postfix
      RunPart Variable Also BlockItem CaseClause Catch Elif ElseBlock ElseClause Finally
      NextGenerator TypeClause ExprList Flat NextExpr Operand Run → Delimited
  move_delimited l = roll-Delimited (delimited_level g l)

  -- one level of an item of a block, as a tree
  abbrev pub move_item : Item-F Delimited Item Atom Expr FlatPart Generator Head Postfix RunPart
      Variable Also BlockItem CaseClause Catch Elif ElseBlock ElseClause Finally NextGenerator
      TypeClause ExprList Flat NextExpr Operand Run → Item
  move_item l = roll-Item (item_level g l)

  -- one level of an atom, as a tree
  abbrev pub move_atom : Atom-F Delimited Item Atom Expr FlatPart Generator Head Postfix RunPart
      Variable Also BlockItem CaseClause Catch Elif ElseBlock ElseClause Finally NextGenerator
      TypeClause ExprList Flat NextExpr Operand Run → Atom
  move_atom l = roll-Atom (atom_level g l)

  -- one level of an expression, as a tree
  abbrev pub move_expr : Expr-F Delimited Item Atom Expr FlatPart Generator Head Postfix RunPart
      Variable Also BlockItem CaseClause Catch Elif ElseBlock ElseClause Finally NextGenerator
      TypeClause ExprList Flat NextExpr Operand Run → Expr
  move_expr l = roll-Expr (expr_level g l)

  -- one level of a further part of a flat expression, as a tree
  abbrev pub move_flat_part : FlatPart-F Delimited Item Atom Expr FlatPart Generator Head Postfix
      RunPart Variable Also BlockItem CaseClause Catch Elif ElseBlock ElseClause Finally
      NextGenerator TypeClause ExprList Flat NextExpr Operand Run → FlatPart
  move_flat_part l = roll-FlatPart (flat_part_level g l)

  -- one level of a generator, as a tree
  abbrev pub move_generator : Generator-F Delimited Item Atom Expr FlatPart Generator Head Postfix
      RunPart Variable Also BlockItem CaseClause Catch Elif ElseBlock ElseClause Finally
      NextGenerator TypeClause ExprList Flat NextExpr Operand Run → Generator
  move_generator l = roll-Generator (generator_level g l)

  -- one level of a head, as a tree
  abbrev pub move_head : Head-F Delimited Item Atom Expr FlatPart Generator Head Postfix RunPart
      Variable Also BlockItem CaseClause Catch Elif ElseBlock ElseClause Finally NextGenerator
      TypeClause ExprList Flat NextExpr Operand Run → Head
  move_head l = roll-Head (head_level g l)

  -- one level of a postfix, as a tree
  abbrev pub move_postfix : Postfix-F Delimited Item Atom Expr FlatPart Generator Head Postfix
      RunPart Variable Also BlockItem CaseClause Catch Elif ElseBlock ElseClause Finally
      NextGenerator TypeClause ExprList Flat NextExpr Operand Run → Postfix
  move_postfix l = roll-Postfix (postfix_level g l)

  -- one level of a further part of a run, as a tree
  abbrev pub move_run_part : RunPart-F Delimited Item Atom Expr FlatPart Generator Head Postfix
      RunPart Variable Also BlockItem CaseClause Catch Elif ElseBlock ElseClause Finally
      NextGenerator TypeClause ExprList Flat NextExpr Operand Run → RunPart
  move_run_part l = roll-RunPart (run_part_level g l)

  -- one level of a declaration of a variable, as a tree
  abbrev pub move_variable : Variable-F Delimited Item Atom Expr FlatPart Generator Head Postfix
      RunPart Variable Also BlockItem CaseClause Catch Elif ElseBlock ElseClause Finally
      NextGenerator TypeClause ExprList Flat NextExpr Operand Run → Variable
  move_variable l = roll-Variable (variable_level g l)

  -- one level of an `also` with its block, as a tree
  abbrev pub move_also : Also-F Delimited Item Atom Expr FlatPart Generator Head Postfix RunPart
      Variable Also BlockItem CaseClause Catch Elif ElseBlock ElseClause Finally NextGenerator
      TypeClause ExprList Flat NextExpr Operand Run → Also
  move_also l = roll-Also (also_level g l)

  -- one level of an item of a block with its `;`, as a tree
  abbrev pub move_block_item : BlockItem-F Delimited Item Atom Expr FlatPart Generator Head Postfix
      RunPart Variable Also BlockItem CaseClause Catch Elif ElseBlock ElseClause Finally
      NextGenerator TypeClause ExprList Flat NextExpr Operand Run → BlockItem
  move_block_item l = roll-BlockItem (block_item_level g l)

  -- one level of a clause of a `case`, as a tree
  abbrev pub move_case_clause : CaseClause-F Delimited Item Atom Expr FlatPart Generator Head
      Postfix RunPart Variable Also BlockItem CaseClause Catch Elif ElseBlock ElseClause Finally
      NextGenerator TypeClause ExprList Flat NextExpr Operand Run → CaseClause
  move_case_clause l = roll-CaseClause (case_clause_level g l)

  -- one level of a `catch`, as a tree
  abbrev pub move_catch : Catch-F Delimited Item Atom Expr FlatPart Generator Head Postfix RunPart
      Variable Also BlockItem CaseClause Catch Elif ElseBlock ElseClause Finally NextGenerator
      TypeClause ExprList Flat NextExpr Operand Run → Catch
  move_catch l = roll-Catch (catch_level g l)

  -- one level of an `elif`, as a tree
  abbrev pub move_elif : Elif-F Delimited Item Atom Expr FlatPart Generator Head Postfix RunPart
      Variable Also BlockItem CaseClause Catch Elif ElseBlock ElseClause Finally NextGenerator
      TypeClause ExprList Flat NextExpr Operand Run → Elif
  move_elif l = roll-Elif (elif_level g l)

  -- one level of the `else` of an `if`, as a tree
  abbrev pub move_else_block : ElseBlock-F Delimited Item Atom Expr FlatPart Generator Head Postfix
      RunPart Variable Also BlockItem CaseClause Catch Elif ElseBlock ElseClause Finally
      NextGenerator TypeClause ExprList Flat NextExpr Operand Run → ElseBlock
  move_else_block l = roll-ElseBlock (else_block_level g l)

  -- one level of the `else` of a `case` or `typecase`, as a tree
  abbrev pub move_else_clause : ElseClause-F Delimited Item Atom Expr FlatPart Generator Head
      Postfix RunPart Variable Also BlockItem CaseClause Catch Elif ElseBlock ElseClause Finally
      NextGenerator TypeClause ExprList Flat NextExpr Operand Run → ElseClause
  move_else_clause l = roll-ElseClause (else_clause_level g l)

  -- one level of a `finally`, as a tree
  abbrev pub move_finally : Finally-F Delimited Item Atom Expr FlatPart Generator Head Postfix
      RunPart Variable Also BlockItem CaseClause Catch Elif ElseBlock ElseClause Finally
      NextGenerator TypeClause ExprList Flat NextExpr Operand Run → Finally
  move_finally l = roll-Finally (finally_level g l)

  -- one level of a further generator of a `for`, as a tree
  abbrev pub move_next_generator : NextGenerator-F Delimited Item Atom Expr FlatPart Generator Head
      Postfix RunPart Variable Also BlockItem CaseClause Catch Elif ElseBlock ElseClause Finally
      NextGenerator TypeClause ExprList Flat NextExpr Operand Run → NextGenerator
  move_next_generator l = roll-NextGenerator (next_generator_level g l)

  -- one level of a clause of a `typecase` or `catch`, as a tree
  abbrev pub move_type_clause : TypeClause-F Delimited Item Atom Expr FlatPart Generator Head
      Postfix RunPart Variable Also BlockItem CaseClause Catch Elif ElseBlock ElseClause Finally
      NextGenerator TypeClause ExprList Flat NextExpr Operand Run → TypeClause
  move_type_clause l = roll-TypeClause (type_clause_level g l)

  -- one level of a list of expressions, as a tree
  abbrev pub move_expr_list : ExprList-F Delimited Item Atom Expr FlatPart Generator Head Postfix
      RunPart Variable Also BlockItem CaseClause Catch Elif ElseBlock ElseClause Finally
      NextGenerator TypeClause ExprList Flat NextExpr Operand Run → ExprList
  move_expr_list l = roll-ExprList (expr_list_level g l)

  -- one level of a flat expression, as a tree
  abbrev pub move_flat : Flat-F Delimited Item Atom Expr FlatPart Generator Head Postfix RunPart
      Variable Also BlockItem CaseClause Catch Elif ElseBlock ElseClause Finally NextGenerator
      TypeClause ExprList Flat NextExpr Operand Run → Flat
  move_flat l = roll-Flat (flat_level g l)

  -- one level of a further expression of a list, as a tree
  abbrev pub move_next_expr : NextExpr-F Delimited Item Atom Expr FlatPart Generator Head Postfix
      RunPart Variable Also BlockItem CaseClause Catch Elif ElseBlock ElseClause Finally
      NextGenerator TypeClause ExprList Flat NextExpr Operand Run → NextExpr
  move_next_expr l = roll-NextExpr (next_expr_level g l)

  -- one level of a unit, as a tree
  abbrev pub move_operand : Operand-F Delimited Item Atom Expr FlatPart Generator Head Postfix
      RunPart Variable Also BlockItem CaseClause Catch Elif ElseBlock ElseClause Finally
      NextGenerator TypeClause ExprList Flat NextExpr Operand Run → Operand
  move_operand l = roll-Operand (operand_level g l)

  -- one level of a run, as a tree
  abbrev pub move_run : Run-F Delimited Item Atom Expr FlatPart Generator Head Postfix RunPart
      Variable Also BlockItem CaseClause Catch Elif ElseBlock ElseClause Finally NextGenerator
      TypeClause ExprList Flat NextExpr Operand Run → Run
  move_run l = roll-Run (run_level g l)

  -- a form that ends with `end`, at every depth
  unfoldable pub moved_delimited : Delimited → Delimited
  moved_delimited =
      fold-Delimited Delimited Item Atom Expr FlatPart Generator Head Postfix RunPart Variable Also
      BlockItem CaseClause Catch Elif ElseBlock ElseClause Finally NextGenerator TypeClause ExprList
      Flat NextExpr Operand Run move_delimited move_item move_atom move_expr move_flat_part
      move_generator move_head move_postfix move_run_part move_variable move_also move_block_item
      move_case_clause move_catch move_elif move_else_block move_else_clause move_finally
      move_next_generator move_type_clause move_expr_list move_flat move_next_expr move_operand
      move_run

  -- an item of a block, at every depth
  unfoldable pub moved_item : Item → Item
  moved_item =
      fold-Item Delimited Item Atom Expr FlatPart Generator Head Postfix RunPart Variable Also
      BlockItem CaseClause Catch Elif ElseBlock ElseClause Finally NextGenerator TypeClause ExprList
      Flat NextExpr Operand Run move_delimited move_item move_atom move_expr move_flat_part
      move_generator move_head move_postfix move_run_part move_variable move_also move_block_item
      move_case_clause move_catch move_elif move_else_block move_else_clause move_finally
      move_next_generator move_type_clause move_expr_list move_flat move_next_expr move_operand
      move_run

  -- an atom, at every depth
  unfoldable pub moved_atom : Atom → Atom
  moved_atom =
      fold-Atom Delimited Item Atom Expr FlatPart Generator Head Postfix RunPart Variable Also
      BlockItem CaseClause Catch Elif ElseBlock ElseClause Finally NextGenerator TypeClause ExprList
      Flat NextExpr Operand Run move_delimited move_item move_atom move_expr move_flat_part
      move_generator move_head move_postfix move_run_part move_variable move_also move_block_item
      move_case_clause move_catch move_elif move_else_block move_else_clause move_finally
      move_next_generator move_type_clause move_expr_list move_flat move_next_expr move_operand
      move_run

  -- an expression, at every depth
  unfoldable pub moved_expr : Expr → Expr
  moved_expr =
      fold-Expr Delimited Item Atom Expr FlatPart Generator Head Postfix RunPart Variable Also
      BlockItem CaseClause Catch Elif ElseBlock ElseClause Finally NextGenerator TypeClause ExprList
      Flat NextExpr Operand Run move_delimited move_item move_atom move_expr move_flat_part
      move_generator move_head move_postfix move_run_part move_variable move_also move_block_item
      move_case_clause move_catch move_elif move_else_block move_else_clause move_finally
      move_next_generator move_type_clause move_expr_list move_flat move_next_expr move_operand
      move_run

  -- a further part of a flat expression, at every depth
  unfoldable pub moved_flat_part : FlatPart → FlatPart
  moved_flat_part =
      fold-FlatPart Delimited Item Atom Expr FlatPart Generator Head Postfix RunPart Variable Also
      BlockItem CaseClause Catch Elif ElseBlock ElseClause Finally NextGenerator TypeClause ExprList
      Flat NextExpr Operand Run move_delimited move_item move_atom move_expr move_flat_part
      move_generator move_head move_postfix move_run_part move_variable move_also move_block_item
      move_case_clause move_catch move_elif move_else_block move_else_clause move_finally
      move_next_generator move_type_clause move_expr_list move_flat move_next_expr move_operand
      move_run

  -- a generator, at every depth
  unfoldable pub moved_generator : Generator → Generator
  moved_generator =
      fold-Generator Delimited Item Atom Expr FlatPart Generator Head Postfix RunPart Variable Also
      BlockItem CaseClause Catch Elif ElseBlock ElseClause Finally NextGenerator TypeClause ExprList
      Flat NextExpr Operand Run move_delimited move_item move_atom move_expr move_flat_part
      move_generator move_head move_postfix move_run_part move_variable move_also move_block_item
      move_case_clause move_catch move_elif move_else_block move_else_clause move_finally
      move_next_generator move_type_clause move_expr_list move_flat move_next_expr move_operand
      move_run

  -- a head, at every depth
  unfoldable pub moved_head : Head → Head
  moved_head =
      fold-Head Delimited Item Atom Expr FlatPart Generator Head Postfix RunPart Variable Also
      BlockItem CaseClause Catch Elif ElseBlock ElseClause Finally NextGenerator TypeClause ExprList
      Flat NextExpr Operand Run move_delimited move_item move_atom move_expr move_flat_part
      move_generator move_head move_postfix move_run_part move_variable move_also move_block_item
      move_case_clause move_catch move_elif move_else_block move_else_clause move_finally
      move_next_generator move_type_clause move_expr_list move_flat move_next_expr move_operand
      move_run

  -- a postfix, at every depth
  unfoldable pub moved_postfix : Postfix → Postfix
  moved_postfix =
      fold-Postfix Delimited Item Atom Expr FlatPart Generator Head Postfix RunPart Variable Also
      BlockItem CaseClause Catch Elif ElseBlock ElseClause Finally NextGenerator TypeClause ExprList
      Flat NextExpr Operand Run move_delimited move_item move_atom move_expr move_flat_part
      move_generator move_head move_postfix move_run_part move_variable move_also move_block_item
      move_case_clause move_catch move_elif move_else_block move_else_clause move_finally
      move_next_generator move_type_clause move_expr_list move_flat move_next_expr move_operand
      move_run

  -- a further part of a run, at every depth
  unfoldable pub moved_run_part : RunPart → RunPart
  moved_run_part =
      fold-RunPart Delimited Item Atom Expr FlatPart Generator Head Postfix RunPart Variable Also
      BlockItem CaseClause Catch Elif ElseBlock ElseClause Finally NextGenerator TypeClause ExprList
      Flat NextExpr Operand Run move_delimited move_item move_atom move_expr move_flat_part
      move_generator move_head move_postfix move_run_part move_variable move_also move_block_item
      move_case_clause move_catch move_elif move_else_block move_else_clause move_finally
      move_next_generator move_type_clause move_expr_list move_flat move_next_expr move_operand
      move_run

  -- a declaration of a variable, at every depth
  unfoldable pub moved_variable : Variable → Variable
  moved_variable =
      fold-Variable Delimited Item Atom Expr FlatPart Generator Head Postfix RunPart Variable Also
      BlockItem CaseClause Catch Elif ElseBlock ElseClause Finally NextGenerator TypeClause ExprList
      Flat NextExpr Operand Run move_delimited move_item move_atom move_expr move_flat_part
      move_generator move_head move_postfix move_run_part move_variable move_also move_block_item
      move_case_clause move_catch move_elif move_else_block move_else_clause move_finally
      move_next_generator move_type_clause move_expr_list move_flat move_next_expr move_operand
      move_run

  -- an `also` with its block, at every depth
  unfoldable pub moved_also : Also → Also
  moved_also =
      fold-Also Delimited Item Atom Expr FlatPart Generator Head Postfix RunPart Variable Also
      BlockItem CaseClause Catch Elif ElseBlock ElseClause Finally NextGenerator TypeClause ExprList
      Flat NextExpr Operand Run move_delimited move_item move_atom move_expr move_flat_part
      move_generator move_head move_postfix move_run_part move_variable move_also move_block_item
      move_case_clause move_catch move_elif move_else_block move_else_clause move_finally
      move_next_generator move_type_clause move_expr_list move_flat move_next_expr move_operand
      move_run

  -- an item of a block with its `;`, at every depth
  unfoldable pub moved_block_item : BlockItem → BlockItem
  moved_block_item =
      fold-BlockItem Delimited Item Atom Expr FlatPart Generator Head Postfix RunPart Variable Also
      BlockItem CaseClause Catch Elif ElseBlock ElseClause Finally NextGenerator TypeClause ExprList
      Flat NextExpr Operand Run move_delimited move_item move_atom move_expr move_flat_part
      move_generator move_head move_postfix move_run_part move_variable move_also move_block_item
      move_case_clause move_catch move_elif move_else_block move_else_clause move_finally
      move_next_generator move_type_clause move_expr_list move_flat move_next_expr move_operand
      move_run

  -- a clause of a `case`, at every depth
  unfoldable pub moved_case_clause : CaseClause → CaseClause
  moved_case_clause =
      fold-CaseClause Delimited Item Atom Expr FlatPart Generator Head Postfix RunPart Variable Also
      BlockItem CaseClause Catch Elif ElseBlock ElseClause Finally NextGenerator TypeClause ExprList
      Flat NextExpr Operand Run move_delimited move_item move_atom move_expr move_flat_part
      move_generator move_head move_postfix move_run_part move_variable move_also move_block_item
      move_case_clause move_catch move_elif move_else_block move_else_clause move_finally
      move_next_generator move_type_clause move_expr_list move_flat move_next_expr move_operand
      move_run

  -- a `catch`, at every depth
  unfoldable pub moved_catch : Catch → Catch
  moved_catch =
      fold-Catch Delimited Item Atom Expr FlatPart Generator Head Postfix RunPart Variable Also
      BlockItem CaseClause Catch Elif ElseBlock ElseClause Finally NextGenerator TypeClause ExprList
      Flat NextExpr Operand Run move_delimited move_item move_atom move_expr move_flat_part
      move_generator move_head move_postfix move_run_part move_variable move_also move_block_item
      move_case_clause move_catch move_elif move_else_block move_else_clause move_finally
      move_next_generator move_type_clause move_expr_list move_flat move_next_expr move_operand
      move_run

  -- an `elif`, at every depth
  unfoldable pub moved_elif : Elif → Elif
  moved_elif =
      fold-Elif Delimited Item Atom Expr FlatPart Generator Head Postfix RunPart Variable Also
      BlockItem CaseClause Catch Elif ElseBlock ElseClause Finally NextGenerator TypeClause ExprList
      Flat NextExpr Operand Run move_delimited move_item move_atom move_expr move_flat_part
      move_generator move_head move_postfix move_run_part move_variable move_also move_block_item
      move_case_clause move_catch move_elif move_else_block move_else_clause move_finally
      move_next_generator move_type_clause move_expr_list move_flat move_next_expr move_operand
      move_run

  -- the `else` of an `if`, at every depth
  unfoldable pub moved_else_block : ElseBlock → ElseBlock
  moved_else_block =
      fold-ElseBlock Delimited Item Atom Expr FlatPart Generator Head Postfix RunPart Variable Also
      BlockItem CaseClause Catch Elif ElseBlock ElseClause Finally NextGenerator TypeClause ExprList
      Flat NextExpr Operand Run move_delimited move_item move_atom move_expr move_flat_part
      move_generator move_head move_postfix move_run_part move_variable move_also move_block_item
      move_case_clause move_catch move_elif move_else_block move_else_clause move_finally
      move_next_generator move_type_clause move_expr_list move_flat move_next_expr move_operand
      move_run

  -- the `else` of a `case` or `typecase`, at every depth
  unfoldable pub moved_else_clause : ElseClause → ElseClause
  moved_else_clause =
      fold-ElseClause Delimited Item Atom Expr FlatPart Generator Head Postfix RunPart Variable Also
      BlockItem CaseClause Catch Elif ElseBlock ElseClause Finally NextGenerator TypeClause ExprList
      Flat NextExpr Operand Run move_delimited move_item move_atom move_expr move_flat_part
      move_generator move_head move_postfix move_run_part move_variable move_also move_block_item
      move_case_clause move_catch move_elif move_else_block move_else_clause move_finally
      move_next_generator move_type_clause move_expr_list move_flat move_next_expr move_operand
      move_run

  -- a `finally`, at every depth
  unfoldable pub moved_finally : Finally → Finally
  moved_finally =
      fold-Finally Delimited Item Atom Expr FlatPart Generator Head Postfix RunPart Variable Also
      BlockItem CaseClause Catch Elif ElseBlock ElseClause Finally NextGenerator TypeClause ExprList
      Flat NextExpr Operand Run move_delimited move_item move_atom move_expr move_flat_part
      move_generator move_head move_postfix move_run_part move_variable move_also move_block_item
      move_case_clause move_catch move_elif move_else_block move_else_clause move_finally
      move_next_generator move_type_clause move_expr_list move_flat move_next_expr move_operand
      move_run

  -- a further generator of a `for`, at every depth
  unfoldable pub moved_next_generator : NextGenerator → NextGenerator
  moved_next_generator =
      fold-NextGenerator Delimited Item Atom Expr FlatPart Generator Head Postfix RunPart Variable
      Also BlockItem CaseClause Catch Elif ElseBlock ElseClause Finally NextGenerator TypeClause
      ExprList Flat NextExpr Operand Run move_delimited move_item move_atom move_expr move_flat_part
      move_generator move_head move_postfix move_run_part move_variable move_also move_block_item
      move_case_clause move_catch move_elif move_else_block move_else_clause move_finally
      move_next_generator move_type_clause move_expr_list move_flat move_next_expr move_operand
      move_run

  -- a clause of a `typecase` or `catch`, at every depth
  unfoldable pub moved_type_clause : TypeClause → TypeClause
  moved_type_clause =
      fold-TypeClause Delimited Item Atom Expr FlatPart Generator Head Postfix RunPart Variable Also
      BlockItem CaseClause Catch Elif ElseBlock ElseClause Finally NextGenerator TypeClause ExprList
      Flat NextExpr Operand Run move_delimited move_item move_atom move_expr move_flat_part
      move_generator move_head move_postfix move_run_part move_variable move_also move_block_item
      move_case_clause move_catch move_elif move_else_block move_else_clause move_finally
      move_next_generator move_type_clause move_expr_list move_flat move_next_expr move_operand
      move_run

  -- a list of expressions, at every depth
  unfoldable pub moved_expr_list : ExprList → ExprList
  moved_expr_list =
      fold-ExprList Delimited Item Atom Expr FlatPart Generator Head Postfix RunPart Variable Also
      BlockItem CaseClause Catch Elif ElseBlock ElseClause Finally NextGenerator TypeClause ExprList
      Flat NextExpr Operand Run move_delimited move_item move_atom move_expr move_flat_part
      move_generator move_head move_postfix move_run_part move_variable move_also move_block_item
      move_case_clause move_catch move_elif move_else_block move_else_clause move_finally
      move_next_generator move_type_clause move_expr_list move_flat move_next_expr move_operand
      move_run

  -- a flat expression, at every depth
  unfoldable pub moved_flat : Flat → Flat
  moved_flat =
      fold-Flat Delimited Item Atom Expr FlatPart Generator Head Postfix RunPart Variable Also
      BlockItem CaseClause Catch Elif ElseBlock ElseClause Finally NextGenerator TypeClause ExprList
      Flat NextExpr Operand Run move_delimited move_item move_atom move_expr move_flat_part
      move_generator move_head move_postfix move_run_part move_variable move_also move_block_item
      move_case_clause move_catch move_elif move_else_block move_else_clause move_finally
      move_next_generator move_type_clause move_expr_list move_flat move_next_expr move_operand
      move_run

  -- a further expression of a list, at every depth
  unfoldable pub moved_next_expr : NextExpr → NextExpr
  moved_next_expr =
      fold-NextExpr Delimited Item Atom Expr FlatPart Generator Head Postfix RunPart Variable Also
      BlockItem CaseClause Catch Elif ElseBlock ElseClause Finally NextGenerator TypeClause ExprList
      Flat NextExpr Operand Run move_delimited move_item move_atom move_expr move_flat_part
      move_generator move_head move_postfix move_run_part move_variable move_also move_block_item
      move_case_clause move_catch move_elif move_else_block move_else_clause move_finally
      move_next_generator move_type_clause move_expr_list move_flat move_next_expr move_operand
      move_run

  -- a unit, at every depth
  unfoldable pub moved_operand : Operand → Operand
  moved_operand =
      fold-Operand Delimited Item Atom Expr FlatPart Generator Head Postfix RunPart Variable Also
      BlockItem CaseClause Catch Elif ElseBlock ElseClause Finally NextGenerator TypeClause ExprList
      Flat NextExpr Operand Run move_delimited move_item move_atom move_expr move_flat_part
      move_generator move_head move_postfix move_run_part move_variable move_also move_block_item
      move_case_clause move_catch move_elif move_else_block move_else_clause move_finally
      move_next_generator move_type_clause move_expr_list move_flat move_next_expr move_operand
      move_run

  -- a run, at every depth
  unfoldable pub moved_run : Run → Run
  moved_run =
      fold-Run Delimited Item Atom Expr FlatPart Generator Head Postfix RunPart Variable Also
      BlockItem CaseClause Catch Elif ElseBlock ElseClause Finally NextGenerator TypeClause ExprList
      Flat NextExpr Operand Run move_delimited move_item move_atom move_expr move_flat_part
      move_generator move_head move_postfix move_run_part move_variable move_also move_block_item
      move_case_clause move_catch move_elif move_else_block move_else_clause move_finally
      move_next_generator move_type_clause move_expr_list move_flat move_next_expr move_operand
      move_run
