-- The chapter "Grammar", trees apart from places: a fold of a moved expression or block is the fold
-- of it, moved, where this is so of each level.
use Rattle.std.proofs.Common.{◌≡◌, Some, None, map, refl, sym, ap, ◌∙◌, subst}
use Rattle.std.specs.Prelude.{option_map}
use Rattle.fort_base.specs.declared.refusal.Place.{Place}
use Rattle.fort_tree.specs.declared.delimited.Delimited.{Delimited}
use Rattle.fort_tree.specs.declared.delimited.Item.{Item}
use Rattle.fort_tree.specs.declared.expr.Atom.{Atom}
use Rattle.fort_tree.specs.declared.expr.Expr.{Expr}
use Rattle.fort_tree.specs.declared.expr.FlatPart.{FlatPart}
use Rattle.fort_tree.specs.declared.expr.Generator.{Generator}
use Rattle.fort_tree.specs.declared.expr.Head.{Head}
use Rattle.fort_tree.specs.declared.expr.Postfix.{Postfix}
use Rattle.fort_tree.specs.declared.expr.RunPart.{RunPart}
use Rattle.fort_tree.specs.declared.declarations.Variable.{Variable}
use Rattle.fort_tree.specs.declared.delimited.Also.{Also}
use Rattle.fort_tree.specs.declared.delimited.BlockItem.{BlockItem}
use Rattle.fort_tree.specs.declared.delimited.CaseClause.{CaseClause}
use Rattle.fort_tree.specs.declared.delimited.Catch.{Catch}
use Rattle.fort_tree.specs.declared.delimited.Elif.{Elif}
use Rattle.fort_tree.specs.declared.delimited.ElseBlock.{ElseBlock}
use Rattle.fort_tree.specs.declared.delimited.ElseClause.{ElseClause}
use Rattle.fort_tree.specs.declared.delimited.Finally.{Finally}
use Rattle.fort_tree.specs.declared.delimited.NextGenerator.{NextGenerator}
use Rattle.fort_tree.specs.declared.delimited.TypeClause.{TypeClause}
use Rattle.fort_tree.specs.declared.expr.ExprList.{ExprList}
use Rattle.fort_tree.specs.declared.expr.Flat.{Flat}
use Rattle.fort_tree.specs.declared.expr.NextExpr.{NextExpr}
use Rattle.fort_tree.specs.declared.expr.Operand.{Operand}
use Rattle.fort_tree.specs.declared.expr.Run.{Run}
use Rattle.fort_tree.specs.declared.delimited.Delimited.TheOpen.{Delimited-F, Item-F, Atom-F, Expr-F, FlatPart-F, Generator-F, Head-F, Postfix-F, RunPart-F, Variable-F, Also-F, BlockItem-F, CaseClause-F, Catch-F, Elif-F, ElseBlock-F, ElseClause-F, Finally-F, NextGenerator-F, TypeClause-F, ExprList-F, Flat-F, NextExpr-F, Operand-F, Run-F}
use Rattle.fort_tree.specs.declared.delimited.Delimited.TheFolds.{fold-Delimited, fold-roll-Delimited, map-Delimited, fold-Item, fold-roll-Item, map-Item, fold-Atom, fold-roll-Atom, map-Atom, fold-Expr, fold-roll-Expr, map-Expr, ind-Expr, fold-FlatPart, fold-roll-FlatPart, map-FlatPart, fold-Generator, fold-roll-Generator, map-Generator, fold-Head, fold-roll-Head, map-Head, fold-Postfix, fold-roll-Postfix, map-Postfix, fold-RunPart, fold-roll-RunPart, map-RunPart, fold-Variable, fold-roll-Variable, map-Variable, ind-Variable, fold-Also, fold-roll-Also, map-Also, fold-BlockItem, fold-roll-BlockItem, map-BlockItem, fold-CaseClause, fold-roll-CaseClause, map-CaseClause, fold-Catch, fold-roll-Catch, map-Catch, fold-Elif, fold-roll-Elif, map-Elif, fold-ElseBlock, fold-roll-ElseBlock, map-ElseBlock, fold-ElseClause, fold-roll-ElseClause, map-ElseClause, fold-Finally, fold-roll-Finally, map-Finally, fold-NextGenerator, fold-roll-NextGenerator, map-NextGenerator, fold-TypeClause, fold-roll-TypeClause, map-TypeClause, fold-ExprList, fold-roll-ExprList, map-ExprList, fold-Flat, fold-roll-Flat, map-Flat, fold-NextExpr, fold-roll-NextExpr, map-NextExpr, fold-Operand, fold-roll-Operand, map-Operand, fold-Run, fold-roll-Run, map-Run}
use Rattle.fort_tree.specs.declared.delimited.Delimited.TheViews.{roll-Delimited, roll-Item, roll-Atom, roll-Expr, roll-FlatPart, roll-Generator, roll-Head, roll-Postfix, roll-RunPart, roll-Variable, roll-Also, roll-BlockItem, roll-CaseClause, roll-Catch, roll-Elif, roll-ElseBlock, roll-ElseClause, roll-Finally, roll-NextGenerator, roll-TypeClause, roll-ExprList, roll-Flat, roll-NextExpr, roll-Operand, roll-Run}
use Rattle.fort_tree_law_moved.specs.Spots.{moved_spot, moved_name, moved_sign, moved_next_name, moved_initial, moved_assign, moved_big, moved_fill, moved_prefix}
use Rattle.fort_tree_law_moved.specs.TypesMoved.{moved_type}
use Rattle.fort_tree_law_moved.proofs.Parts.{each_met}
use Rattle.fort_tree_law_moved.specs.TreesMoved.{delimited_level, move_delimited, moved_delimited, item_level, move_item, moved_item, atom_level, move_atom, moved_atom, expr_level, move_expr, moved_expr, flat_part_level, move_flat_part, moved_flat_part, generator_level, move_generator, moved_generator, head_level, move_head, moved_head, postfix_level, move_postfix, moved_postfix, run_part_level, move_run_part, moved_run_part, variable_level, move_variable, moved_variable, also_level, move_also, moved_also, block_item_level, move_block_item, moved_block_item, case_clause_level, move_case_clause, moved_case_clause, catch_level, move_catch, moved_catch, elif_level, move_elif, moved_elif, else_block_level, move_else_block, moved_else_block, else_clause_level, move_else_clause, moved_else_clause, finally_level, move_finally, moved_finally, next_generator_level, move_next_generator, moved_next_generator, type_clause_level, move_type_clause, moved_type_clause, expr_list_level, move_expr_list, moved_expr_list, flat_level, move_flat, moved_flat, next_expr_level, move_next_expr, moved_next_expr, operand_level, move_operand, moved_operand, run_level, move_run, moved_run}

-- ---- a moved tree, by its level

module _ (g : Place → Place) where
  -- the parts of one level of a form that ends with `end`, moved
  abbrev pub moving_delimited : Delimited-F Delimited Item Atom Expr FlatPart Generator Head Postfix
      RunPart Variable Also BlockItem CaseClause Catch Elif ElseBlock ElseClause Finally
      NextGenerator TypeClause ExprList Flat NextExpr Operand Run
      → Delimited-F Delimited Item Atom Expr FlatPart Generator Head Postfix RunPart Variable Also
      BlockItem CaseClause Catch Elif ElseBlock ElseClause Finally NextGenerator TypeClause ExprList
      Flat NextExpr Operand Run
  moving_delimited =
      map-Delimited Delimited Item Atom Expr FlatPart Generator Head Postfix RunPart Variable Also
      BlockItem CaseClause Catch Elif ElseBlock ElseClause Finally NextGenerator TypeClause ExprList
      Flat NextExpr Operand Run Delimited Item Atom Expr FlatPart Generator Head Postfix RunPart
      Variable Also BlockItem CaseClause Catch Elif ElseBlock ElseClause Finally NextGenerator
      TypeClause ExprList Flat NextExpr Operand Run (moved_delimited g) (moved_item g)
      (moved_atom g) (moved_expr g) (moved_flat_part g) (moved_generator g) (moved_head g)
      (moved_postfix g) (moved_run_part g) (moved_variable g) (moved_also g) (moved_block_item g)
      (moved_case_clause g) (moved_catch g) (moved_elif g) (moved_else_block g)
      (moved_else_clause g) (moved_finally g) (moved_next_generator g) (moved_type_clause g)
      (moved_expr_list g) (moved_flat g) (moved_next_expr g) (moved_operand g) (moved_run g)

  -- a form that ends with `end` moved, by its level
  moved_roll_delimited : (l : Delimited-F Delimited Item Atom Expr FlatPart Generator Head Postfix
      RunPart Variable Also BlockItem CaseClause Catch Elif ElseBlock ElseClause Finally
      NextGenerator TypeClause ExprList Flat NextExpr Operand Run)
      → moved_delimited g (roll-Delimited l)
      ≡ roll-Delimited (delimited_level g (moving_delimited l))
  unfolding moved_delimited moved_item moved_atom moved_expr moved_flat_part moved_generator
      moved_head moved_postfix moved_run_part moved_variable moved_also moved_block_item
      moved_case_clause moved_catch moved_elif moved_else_block moved_else_clause moved_finally
      moved_next_generator moved_type_clause moved_expr_list moved_flat moved_next_expr
      moved_operand moved_run
  moved_roll_delimited l =
      fold-roll-Delimited Delimited Item Atom Expr FlatPart Generator Head Postfix RunPart Variable
      Also BlockItem CaseClause Catch Elif ElseBlock ElseClause Finally NextGenerator TypeClause
      ExprList Flat NextExpr Operand Run (move_delimited g) (move_item g) (move_atom g)
      (move_expr g) (move_flat_part g) (move_generator g) (move_head g) (move_postfix g)
      (move_run_part g) (move_variable g) (move_also g) (move_block_item g) (move_case_clause g)
      (move_catch g) (move_elif g) (move_else_block g) (move_else_clause g) (move_finally g)
      (move_next_generator g) (move_type_clause g) (move_expr_list g) (move_flat g)
      (move_next_expr g) (move_operand g) (move_run g) l

  -- the parts of one level of an item of a block, moved
  abbrev pub moving_item : Item-F Delimited Item Atom Expr FlatPart Generator Head Postfix RunPart
      Variable Also BlockItem CaseClause Catch Elif ElseBlock ElseClause Finally NextGenerator
      TypeClause ExprList Flat NextExpr Operand Run
      → Item-F Delimited Item Atom Expr FlatPart Generator Head Postfix RunPart Variable Also
      BlockItem CaseClause Catch Elif ElseBlock ElseClause Finally NextGenerator TypeClause ExprList
      Flat NextExpr Operand Run
  moving_item =
      map-Item Delimited Item Atom Expr FlatPart Generator Head Postfix RunPart Variable Also
      BlockItem CaseClause Catch Elif ElseBlock ElseClause Finally NextGenerator TypeClause ExprList
      Flat NextExpr Operand Run Delimited Item Atom Expr FlatPart Generator Head Postfix RunPart
      Variable Also BlockItem CaseClause Catch Elif ElseBlock ElseClause Finally NextGenerator
      TypeClause ExprList Flat NextExpr Operand Run (moved_delimited g) (moved_item g)
      (moved_atom g) (moved_expr g) (moved_flat_part g) (moved_generator g) (moved_head g)
      (moved_postfix g) (moved_run_part g) (moved_variable g) (moved_also g) (moved_block_item g)
      (moved_case_clause g) (moved_catch g) (moved_elif g) (moved_else_block g)
      (moved_else_clause g) (moved_finally g) (moved_next_generator g) (moved_type_clause g)
      (moved_expr_list g) (moved_flat g) (moved_next_expr g) (moved_operand g) (moved_run g)

  -- an item of a block moved, by its level
  moved_roll_item : (l : Item-F Delimited Item Atom Expr FlatPart Generator Head Postfix RunPart
      Variable Also BlockItem CaseClause Catch Elif ElseBlock ElseClause Finally NextGenerator
      TypeClause ExprList Flat NextExpr Operand Run)
      → moved_item g (roll-Item l) ≡ roll-Item (item_level g (moving_item l))
  unfolding moved_delimited moved_item moved_atom moved_expr moved_flat_part moved_generator
      moved_head moved_postfix moved_run_part moved_variable moved_also moved_block_item
      moved_case_clause moved_catch moved_elif moved_else_block moved_else_clause moved_finally
      moved_next_generator moved_type_clause moved_expr_list moved_flat moved_next_expr
      moved_operand moved_run
  moved_roll_item l =
      fold-roll-Item Delimited Item Atom Expr FlatPart Generator Head Postfix RunPart Variable Also
      BlockItem CaseClause Catch Elif ElseBlock ElseClause Finally NextGenerator TypeClause ExprList
      Flat NextExpr Operand Run (move_delimited g) (move_item g) (move_atom g) (move_expr g)
      (move_flat_part g) (move_generator g) (move_head g) (move_postfix g) (move_run_part g)
      (move_variable g) (move_also g) (move_block_item g) (move_case_clause g) (move_catch g)
      (move_elif g) (move_else_block g) (move_else_clause g) (move_finally g)
      (move_next_generator g) (move_type_clause g) (move_expr_list g) (move_flat g)
      (move_next_expr g) (move_operand g) (move_run g) l

  -- the parts of one level of an atom, moved
  abbrev pub moving_atom : Atom-F Delimited Item Atom Expr FlatPart Generator Head Postfix RunPart
      Variable Also BlockItem CaseClause Catch Elif ElseBlock ElseClause Finally NextGenerator
      TypeClause ExprList Flat NextExpr Operand Run
      → Atom-F Delimited Item Atom Expr FlatPart Generator Head Postfix RunPart Variable Also
      BlockItem CaseClause Catch Elif ElseBlock ElseClause Finally NextGenerator TypeClause ExprList
      Flat NextExpr Operand Run
  moving_atom =
      map-Atom Delimited Item Atom Expr FlatPart Generator Head Postfix RunPart Variable Also
      BlockItem CaseClause Catch Elif ElseBlock ElseClause Finally NextGenerator TypeClause ExprList
      Flat NextExpr Operand Run Delimited Item Atom Expr FlatPart Generator Head Postfix RunPart
      Variable Also BlockItem CaseClause Catch Elif ElseBlock ElseClause Finally NextGenerator
      TypeClause ExprList Flat NextExpr Operand Run (moved_delimited g) (moved_item g)
      (moved_atom g) (moved_expr g) (moved_flat_part g) (moved_generator g) (moved_head g)
      (moved_postfix g) (moved_run_part g) (moved_variable g) (moved_also g) (moved_block_item g)
      (moved_case_clause g) (moved_catch g) (moved_elif g) (moved_else_block g)
      (moved_else_clause g) (moved_finally g) (moved_next_generator g) (moved_type_clause g)
      (moved_expr_list g) (moved_flat g) (moved_next_expr g) (moved_operand g) (moved_run g)

  -- an atom moved, by its level
  moved_roll_atom : (l : Atom-F Delimited Item Atom Expr FlatPart Generator Head Postfix RunPart
      Variable Also BlockItem CaseClause Catch Elif ElseBlock ElseClause Finally NextGenerator
      TypeClause ExprList Flat NextExpr Operand Run)
      → moved_atom g (roll-Atom l) ≡ roll-Atom (atom_level g (moving_atom l))
  unfolding moved_delimited moved_item moved_atom moved_expr moved_flat_part moved_generator
      moved_head moved_postfix moved_run_part moved_variable moved_also moved_block_item
      moved_case_clause moved_catch moved_elif moved_else_block moved_else_clause moved_finally
      moved_next_generator moved_type_clause moved_expr_list moved_flat moved_next_expr
      moved_operand moved_run
  moved_roll_atom l =
      fold-roll-Atom Delimited Item Atom Expr FlatPart Generator Head Postfix RunPart Variable Also
      BlockItem CaseClause Catch Elif ElseBlock ElseClause Finally NextGenerator TypeClause ExprList
      Flat NextExpr Operand Run (move_delimited g) (move_item g) (move_atom g) (move_expr g)
      (move_flat_part g) (move_generator g) (move_head g) (move_postfix g) (move_run_part g)
      (move_variable g) (move_also g) (move_block_item g) (move_case_clause g) (move_catch g)
      (move_elif g) (move_else_block g) (move_else_clause g) (move_finally g)
      (move_next_generator g) (move_type_clause g) (move_expr_list g) (move_flat g)
      (move_next_expr g) (move_operand g) (move_run g) l

  -- the parts of one level of an expression, moved
  abbrev pub moving_expr : Expr-F Delimited Item Atom Expr FlatPart Generator Head Postfix RunPart
      Variable Also BlockItem CaseClause Catch Elif ElseBlock ElseClause Finally NextGenerator
      TypeClause ExprList Flat NextExpr Operand Run
      → Expr-F Delimited Item Atom Expr FlatPart Generator Head Postfix RunPart Variable Also
      BlockItem CaseClause Catch Elif ElseBlock ElseClause Finally NextGenerator TypeClause ExprList
      Flat NextExpr Operand Run
  moving_expr =
      map-Expr Delimited Item Atom Expr FlatPart Generator Head Postfix RunPart Variable Also
      BlockItem CaseClause Catch Elif ElseBlock ElseClause Finally NextGenerator TypeClause ExprList
      Flat NextExpr Operand Run Delimited Item Atom Expr FlatPart Generator Head Postfix RunPart
      Variable Also BlockItem CaseClause Catch Elif ElseBlock ElseClause Finally NextGenerator
      TypeClause ExprList Flat NextExpr Operand Run (moved_delimited g) (moved_item g)
      (moved_atom g) (moved_expr g) (moved_flat_part g) (moved_generator g) (moved_head g)
      (moved_postfix g) (moved_run_part g) (moved_variable g) (moved_also g) (moved_block_item g)
      (moved_case_clause g) (moved_catch g) (moved_elif g) (moved_else_block g)
      (moved_else_clause g) (moved_finally g) (moved_next_generator g) (moved_type_clause g)
      (moved_expr_list g) (moved_flat g) (moved_next_expr g) (moved_operand g) (moved_run g)

  -- an expression moved, by its level
  moved_roll_expr : (l : Expr-F Delimited Item Atom Expr FlatPart Generator Head Postfix RunPart
      Variable Also BlockItem CaseClause Catch Elif ElseBlock ElseClause Finally NextGenerator
      TypeClause ExprList Flat NextExpr Operand Run)
      → moved_expr g (roll-Expr l) ≡ roll-Expr (expr_level g (moving_expr l))
  unfolding moved_delimited moved_item moved_atom moved_expr moved_flat_part moved_generator
      moved_head moved_postfix moved_run_part moved_variable moved_also moved_block_item
      moved_case_clause moved_catch moved_elif moved_else_block moved_else_clause moved_finally
      moved_next_generator moved_type_clause moved_expr_list moved_flat moved_next_expr
      moved_operand moved_run
  moved_roll_expr l =
      fold-roll-Expr Delimited Item Atom Expr FlatPart Generator Head Postfix RunPart Variable Also
      BlockItem CaseClause Catch Elif ElseBlock ElseClause Finally NextGenerator TypeClause ExprList
      Flat NextExpr Operand Run (move_delimited g) (move_item g) (move_atom g) (move_expr g)
      (move_flat_part g) (move_generator g) (move_head g) (move_postfix g) (move_run_part g)
      (move_variable g) (move_also g) (move_block_item g) (move_case_clause g) (move_catch g)
      (move_elif g) (move_else_block g) (move_else_clause g) (move_finally g)
      (move_next_generator g) (move_type_clause g) (move_expr_list g) (move_flat g)
      (move_next_expr g) (move_operand g) (move_run g) l

  -- the parts of one level of a further part of a flat expression, moved
  abbrev pub moving_flat_part : FlatPart-F Delimited Item Atom Expr FlatPart Generator Head Postfix
      RunPart Variable Also BlockItem CaseClause Catch Elif ElseBlock ElseClause Finally
      NextGenerator TypeClause ExprList Flat NextExpr Operand Run
      → FlatPart-F Delimited Item Atom Expr FlatPart Generator Head Postfix RunPart Variable Also
      BlockItem CaseClause Catch Elif ElseBlock ElseClause Finally NextGenerator TypeClause ExprList
      Flat NextExpr Operand Run
  moving_flat_part =
      map-FlatPart Delimited Item Atom Expr FlatPart Generator Head Postfix RunPart Variable Also
      BlockItem CaseClause Catch Elif ElseBlock ElseClause Finally NextGenerator TypeClause ExprList
      Flat NextExpr Operand Run Delimited Item Atom Expr FlatPart Generator Head Postfix RunPart
      Variable Also BlockItem CaseClause Catch Elif ElseBlock ElseClause Finally NextGenerator
      TypeClause ExprList Flat NextExpr Operand Run (moved_delimited g) (moved_item g)
      (moved_atom g) (moved_expr g) (moved_flat_part g) (moved_generator g) (moved_head g)
      (moved_postfix g) (moved_run_part g) (moved_variable g) (moved_also g) (moved_block_item g)
      (moved_case_clause g) (moved_catch g) (moved_elif g) (moved_else_block g)
      (moved_else_clause g) (moved_finally g) (moved_next_generator g) (moved_type_clause g)
      (moved_expr_list g) (moved_flat g) (moved_next_expr g) (moved_operand g) (moved_run g)

  -- a further part of a flat expression moved, by its level
  moved_roll_flat_part : (l : FlatPart-F Delimited Item Atom Expr FlatPart Generator Head Postfix
      RunPart Variable Also BlockItem CaseClause Catch Elif ElseBlock ElseClause Finally
      NextGenerator TypeClause ExprList Flat NextExpr Operand Run)
      → moved_flat_part g (roll-FlatPart l) ≡ roll-FlatPart (flat_part_level g (moving_flat_part l))
  unfolding moved_delimited moved_item moved_atom moved_expr moved_flat_part moved_generator
      moved_head moved_postfix moved_run_part moved_variable moved_also moved_block_item
      moved_case_clause moved_catch moved_elif moved_else_block moved_else_clause moved_finally
      moved_next_generator moved_type_clause moved_expr_list moved_flat moved_next_expr
      moved_operand moved_run
  moved_roll_flat_part l =
      fold-roll-FlatPart Delimited Item Atom Expr FlatPart Generator Head Postfix RunPart Variable
      Also BlockItem CaseClause Catch Elif ElseBlock ElseClause Finally NextGenerator TypeClause
      ExprList Flat NextExpr Operand Run (move_delimited g) (move_item g) (move_atom g)
      (move_expr g) (move_flat_part g) (move_generator g) (move_head g) (move_postfix g)
      (move_run_part g) (move_variable g) (move_also g) (move_block_item g) (move_case_clause g)
      (move_catch g) (move_elif g) (move_else_block g) (move_else_clause g) (move_finally g)
      (move_next_generator g) (move_type_clause g) (move_expr_list g) (move_flat g)
      (move_next_expr g) (move_operand g) (move_run g) l

  -- the parts of one level of a generator, moved
  abbrev pub moving_generator : Generator-F Delimited Item Atom Expr FlatPart Generator Head Postfix
      RunPart Variable Also BlockItem CaseClause Catch Elif ElseBlock ElseClause Finally
      NextGenerator TypeClause ExprList Flat NextExpr Operand Run
      → Generator-F Delimited Item Atom Expr FlatPart Generator Head Postfix RunPart Variable Also
      BlockItem CaseClause Catch Elif ElseBlock ElseClause Finally NextGenerator TypeClause ExprList
      Flat NextExpr Operand Run
  moving_generator =
      map-Generator Delimited Item Atom Expr FlatPart Generator Head Postfix RunPart Variable Also
      BlockItem CaseClause Catch Elif ElseBlock ElseClause Finally NextGenerator TypeClause ExprList
      Flat NextExpr Operand Run Delimited Item Atom Expr FlatPart Generator Head Postfix RunPart
      Variable Also BlockItem CaseClause Catch Elif ElseBlock ElseClause Finally NextGenerator
      TypeClause ExprList Flat NextExpr Operand Run (moved_delimited g) (moved_item g)
      (moved_atom g) (moved_expr g) (moved_flat_part g) (moved_generator g) (moved_head g)
      (moved_postfix g) (moved_run_part g) (moved_variable g) (moved_also g) (moved_block_item g)
      (moved_case_clause g) (moved_catch g) (moved_elif g) (moved_else_block g)
      (moved_else_clause g) (moved_finally g) (moved_next_generator g) (moved_type_clause g)
      (moved_expr_list g) (moved_flat g) (moved_next_expr g) (moved_operand g) (moved_run g)

  -- a generator moved, by its level
  moved_roll_generator : (l : Generator-F Delimited Item Atom Expr FlatPart Generator Head Postfix
      RunPart Variable Also BlockItem CaseClause Catch Elif ElseBlock ElseClause Finally
      NextGenerator TypeClause ExprList Flat NextExpr Operand Run)
      → moved_generator g (roll-Generator l)
      ≡ roll-Generator (generator_level g (moving_generator l))
  unfolding moved_delimited moved_item moved_atom moved_expr moved_flat_part moved_generator
      moved_head moved_postfix moved_run_part moved_variable moved_also moved_block_item
      moved_case_clause moved_catch moved_elif moved_else_block moved_else_clause moved_finally
      moved_next_generator moved_type_clause moved_expr_list moved_flat moved_next_expr
      moved_operand moved_run
  moved_roll_generator l =
      fold-roll-Generator Delimited Item Atom Expr FlatPart Generator Head Postfix RunPart Variable
      Also BlockItem CaseClause Catch Elif ElseBlock ElseClause Finally NextGenerator TypeClause
      ExprList Flat NextExpr Operand Run (move_delimited g) (move_item g) (move_atom g)
      (move_expr g) (move_flat_part g) (move_generator g) (move_head g) (move_postfix g)
      (move_run_part g) (move_variable g) (move_also g) (move_block_item g) (move_case_clause g)
      (move_catch g) (move_elif g) (move_else_block g) (move_else_clause g) (move_finally g)
      (move_next_generator g) (move_type_clause g) (move_expr_list g) (move_flat g)
      (move_next_expr g) (move_operand g) (move_run g) l

  -- the parts of one level of a head, moved
  abbrev pub moving_head : Head-F Delimited Item Atom Expr FlatPart Generator Head Postfix RunPart
      Variable Also BlockItem CaseClause Catch Elif ElseBlock ElseClause Finally NextGenerator
      TypeClause ExprList Flat NextExpr Operand Run
      → Head-F Delimited Item Atom Expr FlatPart Generator Head Postfix RunPart Variable Also
      BlockItem CaseClause Catch Elif ElseBlock ElseClause Finally NextGenerator TypeClause ExprList
      Flat NextExpr Operand Run
  moving_head =
      map-Head Delimited Item Atom Expr FlatPart Generator Head Postfix RunPart Variable Also
      BlockItem CaseClause Catch Elif ElseBlock ElseClause Finally NextGenerator TypeClause ExprList
      Flat NextExpr Operand Run Delimited Item Atom Expr FlatPart Generator Head Postfix RunPart
      Variable Also BlockItem CaseClause Catch Elif ElseBlock ElseClause Finally NextGenerator
      TypeClause ExprList Flat NextExpr Operand Run (moved_delimited g) (moved_item g)
      (moved_atom g) (moved_expr g) (moved_flat_part g) (moved_generator g) (moved_head g)
      (moved_postfix g) (moved_run_part g) (moved_variable g) (moved_also g) (moved_block_item g)
      (moved_case_clause g) (moved_catch g) (moved_elif g) (moved_else_block g)
      (moved_else_clause g) (moved_finally g) (moved_next_generator g) (moved_type_clause g)
      (moved_expr_list g) (moved_flat g) (moved_next_expr g) (moved_operand g) (moved_run g)

  -- a head moved, by its level
  moved_roll_head : (l : Head-F Delimited Item Atom Expr FlatPart Generator Head Postfix RunPart
      Variable Also BlockItem CaseClause Catch Elif ElseBlock ElseClause Finally NextGenerator
      TypeClause ExprList Flat NextExpr Operand Run)
      → moved_head g (roll-Head l) ≡ roll-Head (head_level g (moving_head l))
  unfolding moved_delimited moved_item moved_atom moved_expr moved_flat_part moved_generator
      moved_head moved_postfix moved_run_part moved_variable moved_also moved_block_item
      moved_case_clause moved_catch moved_elif moved_else_block moved_else_clause moved_finally
      moved_next_generator moved_type_clause moved_expr_list moved_flat moved_next_expr
      moved_operand moved_run
  moved_roll_head l =
      fold-roll-Head Delimited Item Atom Expr FlatPart Generator Head Postfix RunPart Variable Also
      BlockItem CaseClause Catch Elif ElseBlock ElseClause Finally NextGenerator TypeClause ExprList
      Flat NextExpr Operand Run (move_delimited g) (move_item g) (move_atom g) (move_expr g)
      (move_flat_part g) (move_generator g) (move_head g) (move_postfix g) (move_run_part g)
      (move_variable g) (move_also g) (move_block_item g) (move_case_clause g) (move_catch g)
      (move_elif g) (move_else_block g) (move_else_clause g) (move_finally g)
      (move_next_generator g) (move_type_clause g) (move_expr_list g) (move_flat g)
      (move_next_expr g) (move_operand g) (move_run g) l

  -- the parts of one level of a postfix, moved
  abbrev pub moving_postfix : Postfix-F Delimited Item Atom Expr FlatPart Generator Head Postfix
      RunPart Variable Also BlockItem CaseClause Catch Elif ElseBlock ElseClause Finally
      NextGenerator TypeClause ExprList Flat NextExpr Operand Run
      → Postfix-F Delimited Item Atom Expr FlatPart Generator Head Postfix RunPart Variable Also
      BlockItem CaseClause Catch Elif ElseBlock ElseClause Finally NextGenerator TypeClause ExprList
      Flat NextExpr Operand Run
  moving_postfix =
      map-Postfix Delimited Item Atom Expr FlatPart Generator Head Postfix RunPart Variable Also
      BlockItem CaseClause Catch Elif ElseBlock ElseClause Finally NextGenerator TypeClause ExprList
      Flat NextExpr Operand Run Delimited Item Atom Expr FlatPart Generator Head Postfix RunPart
      Variable Also BlockItem CaseClause Catch Elif ElseBlock ElseClause Finally NextGenerator
      TypeClause ExprList Flat NextExpr Operand Run (moved_delimited g) (moved_item g)
      (moved_atom g) (moved_expr g) (moved_flat_part g) (moved_generator g) (moved_head g)
      (moved_postfix g) (moved_run_part g) (moved_variable g) (moved_also g) (moved_block_item g)
      (moved_case_clause g) (moved_catch g) (moved_elif g) (moved_else_block g)
      (moved_else_clause g) (moved_finally g) (moved_next_generator g) (moved_type_clause g)
      (moved_expr_list g) (moved_flat g) (moved_next_expr g) (moved_operand g) (moved_run g)

  -- a postfix moved, by its level
  moved_roll_postfix : (l : Postfix-F Delimited Item Atom Expr FlatPart Generator Head Postfix
      RunPart Variable Also BlockItem CaseClause Catch Elif ElseBlock ElseClause Finally
      NextGenerator TypeClause ExprList Flat NextExpr Operand Run)
      → moved_postfix g (roll-Postfix l) ≡ roll-Postfix (postfix_level g (moving_postfix l))
  unfolding moved_delimited moved_item moved_atom moved_expr moved_flat_part moved_generator
      moved_head moved_postfix moved_run_part moved_variable moved_also moved_block_item
      moved_case_clause moved_catch moved_elif moved_else_block moved_else_clause moved_finally
      moved_next_generator moved_type_clause moved_expr_list moved_flat moved_next_expr
      moved_operand moved_run
  moved_roll_postfix l =
      fold-roll-Postfix Delimited Item Atom Expr FlatPart Generator Head Postfix RunPart Variable
      Also BlockItem CaseClause Catch Elif ElseBlock ElseClause Finally NextGenerator TypeClause
      ExprList Flat NextExpr Operand Run (move_delimited g) (move_item g) (move_atom g)
      (move_expr g) (move_flat_part g) (move_generator g) (move_head g) (move_postfix g)
      (move_run_part g) (move_variable g) (move_also g) (move_block_item g) (move_case_clause g)
      (move_catch g) (move_elif g) (move_else_block g) (move_else_clause g) (move_finally g)
      (move_next_generator g) (move_type_clause g) (move_expr_list g) (move_flat g)
      (move_next_expr g) (move_operand g) (move_run g) l

  -- the parts of one level of a further part of a run, moved
  abbrev pub moving_run_part : RunPart-F Delimited Item Atom Expr FlatPart Generator Head Postfix
      RunPart Variable Also BlockItem CaseClause Catch Elif ElseBlock ElseClause Finally
      NextGenerator TypeClause ExprList Flat NextExpr Operand Run
      → RunPart-F Delimited Item Atom Expr FlatPart Generator Head Postfix RunPart Variable Also
      BlockItem CaseClause Catch Elif ElseBlock ElseClause Finally NextGenerator TypeClause ExprList
      Flat NextExpr Operand Run
  moving_run_part =
      map-RunPart Delimited Item Atom Expr FlatPart Generator Head Postfix RunPart Variable Also
      BlockItem CaseClause Catch Elif ElseBlock ElseClause Finally NextGenerator TypeClause ExprList
      Flat NextExpr Operand Run Delimited Item Atom Expr FlatPart Generator Head Postfix RunPart
      Variable Also BlockItem CaseClause Catch Elif ElseBlock ElseClause Finally NextGenerator
      TypeClause ExprList Flat NextExpr Operand Run (moved_delimited g) (moved_item g)
      (moved_atom g) (moved_expr g) (moved_flat_part g) (moved_generator g) (moved_head g)
      (moved_postfix g) (moved_run_part g) (moved_variable g) (moved_also g) (moved_block_item g)
      (moved_case_clause g) (moved_catch g) (moved_elif g) (moved_else_block g)
      (moved_else_clause g) (moved_finally g) (moved_next_generator g) (moved_type_clause g)
      (moved_expr_list g) (moved_flat g) (moved_next_expr g) (moved_operand g) (moved_run g)

  -- a further part of a run moved, by its level
  moved_roll_run_part : (l : RunPart-F Delimited Item Atom Expr FlatPart Generator Head Postfix
      RunPart Variable Also BlockItem CaseClause Catch Elif ElseBlock ElseClause Finally
      NextGenerator TypeClause ExprList Flat NextExpr Operand Run)
      → moved_run_part g (roll-RunPart l) ≡ roll-RunPart (run_part_level g (moving_run_part l))
  unfolding moved_delimited moved_item moved_atom moved_expr moved_flat_part moved_generator
      moved_head moved_postfix moved_run_part moved_variable moved_also moved_block_item
      moved_case_clause moved_catch moved_elif moved_else_block moved_else_clause moved_finally
      moved_next_generator moved_type_clause moved_expr_list moved_flat moved_next_expr
      moved_operand moved_run
  moved_roll_run_part l =
      fold-roll-RunPart Delimited Item Atom Expr FlatPart Generator Head Postfix RunPart Variable
      Also BlockItem CaseClause Catch Elif ElseBlock ElseClause Finally NextGenerator TypeClause
      ExprList Flat NextExpr Operand Run (move_delimited g) (move_item g) (move_atom g)
      (move_expr g) (move_flat_part g) (move_generator g) (move_head g) (move_postfix g)
      (move_run_part g) (move_variable g) (move_also g) (move_block_item g) (move_case_clause g)
      (move_catch g) (move_elif g) (move_else_block g) (move_else_clause g) (move_finally g)
      (move_next_generator g) (move_type_clause g) (move_expr_list g) (move_flat g)
      (move_next_expr g) (move_operand g) (move_run g) l

  -- the parts of one level of a declaration of a variable, moved
  abbrev pub moving_variable : Variable-F Delimited Item Atom Expr FlatPart Generator Head Postfix
      RunPart Variable Also BlockItem CaseClause Catch Elif ElseBlock ElseClause Finally
      NextGenerator TypeClause ExprList Flat NextExpr Operand Run
      → Variable-F Delimited Item Atom Expr FlatPart Generator Head Postfix RunPart Variable Also
      BlockItem CaseClause Catch Elif ElseBlock ElseClause Finally NextGenerator TypeClause ExprList
      Flat NextExpr Operand Run
  moving_variable =
      map-Variable Delimited Item Atom Expr FlatPart Generator Head Postfix RunPart Variable Also
      BlockItem CaseClause Catch Elif ElseBlock ElseClause Finally NextGenerator TypeClause ExprList
      Flat NextExpr Operand Run Delimited Item Atom Expr FlatPart Generator Head Postfix RunPart
      Variable Also BlockItem CaseClause Catch Elif ElseBlock ElseClause Finally NextGenerator
      TypeClause ExprList Flat NextExpr Operand Run (moved_delimited g) (moved_item g)
      (moved_atom g) (moved_expr g) (moved_flat_part g) (moved_generator g) (moved_head g)
      (moved_postfix g) (moved_run_part g) (moved_variable g) (moved_also g) (moved_block_item g)
      (moved_case_clause g) (moved_catch g) (moved_elif g) (moved_else_block g)
      (moved_else_clause g) (moved_finally g) (moved_next_generator g) (moved_type_clause g)
      (moved_expr_list g) (moved_flat g) (moved_next_expr g) (moved_operand g) (moved_run g)

  -- a declaration of a variable moved, by its level
  moved_roll_variable : (l : Variable-F Delimited Item Atom Expr FlatPart Generator Head Postfix
      RunPart Variable Also BlockItem CaseClause Catch Elif ElseBlock ElseClause Finally
      NextGenerator TypeClause ExprList Flat NextExpr Operand Run)
      → moved_variable g (roll-Variable l) ≡ roll-Variable (variable_level g (moving_variable l))
  unfolding moved_delimited moved_item moved_atom moved_expr moved_flat_part moved_generator
      moved_head moved_postfix moved_run_part moved_variable moved_also moved_block_item
      moved_case_clause moved_catch moved_elif moved_else_block moved_else_clause moved_finally
      moved_next_generator moved_type_clause moved_expr_list moved_flat moved_next_expr
      moved_operand moved_run
  moved_roll_variable l =
      fold-roll-Variable Delimited Item Atom Expr FlatPart Generator Head Postfix RunPart Variable
      Also BlockItem CaseClause Catch Elif ElseBlock ElseClause Finally NextGenerator TypeClause
      ExprList Flat NextExpr Operand Run (move_delimited g) (move_item g) (move_atom g)
      (move_expr g) (move_flat_part g) (move_generator g) (move_head g) (move_postfix g)
      (move_run_part g) (move_variable g) (move_also g) (move_block_item g) (move_case_clause g)
      (move_catch g) (move_elif g) (move_else_block g) (move_else_clause g) (move_finally g)
      (move_next_generator g) (move_type_clause g) (move_expr_list g) (move_flat g)
      (move_next_expr g) (move_operand g) (move_run g) l

  -- the parts of one level of an `also` with its block, moved
  abbrev pub moving_also : Also-F Delimited Item Atom Expr FlatPart Generator Head Postfix RunPart
      Variable Also BlockItem CaseClause Catch Elif ElseBlock ElseClause Finally NextGenerator
      TypeClause ExprList Flat NextExpr Operand Run
      → Also-F Delimited Item Atom Expr FlatPart Generator Head Postfix RunPart Variable Also
      BlockItem CaseClause Catch Elif ElseBlock ElseClause Finally NextGenerator TypeClause ExprList
      Flat NextExpr Operand Run
  moving_also =
      map-Also Delimited Item Atom Expr FlatPart Generator Head Postfix RunPart Variable Also
      BlockItem CaseClause Catch Elif ElseBlock ElseClause Finally NextGenerator TypeClause ExprList
      Flat NextExpr Operand Run Delimited Item Atom Expr FlatPart Generator Head Postfix RunPart
      Variable Also BlockItem CaseClause Catch Elif ElseBlock ElseClause Finally NextGenerator
      TypeClause ExprList Flat NextExpr Operand Run (moved_delimited g) (moved_item g)
      (moved_atom g) (moved_expr g) (moved_flat_part g) (moved_generator g) (moved_head g)
      (moved_postfix g) (moved_run_part g) (moved_variable g) (moved_also g) (moved_block_item g)
      (moved_case_clause g) (moved_catch g) (moved_elif g) (moved_else_block g)
      (moved_else_clause g) (moved_finally g) (moved_next_generator g) (moved_type_clause g)
      (moved_expr_list g) (moved_flat g) (moved_next_expr g) (moved_operand g) (moved_run g)

  -- an `also` with its block moved, by its level
  moved_roll_also : (l : Also-F Delimited Item Atom Expr FlatPart Generator Head Postfix RunPart
      Variable Also BlockItem CaseClause Catch Elif ElseBlock ElseClause Finally NextGenerator
      TypeClause ExprList Flat NextExpr Operand Run)
      → moved_also g (roll-Also l) ≡ roll-Also (also_level g (moving_also l))
  unfolding moved_delimited moved_item moved_atom moved_expr moved_flat_part moved_generator
      moved_head moved_postfix moved_run_part moved_variable moved_also moved_block_item
      moved_case_clause moved_catch moved_elif moved_else_block moved_else_clause moved_finally
      moved_next_generator moved_type_clause moved_expr_list moved_flat moved_next_expr
      moved_operand moved_run
  moved_roll_also l =
      fold-roll-Also Delimited Item Atom Expr FlatPart Generator Head Postfix RunPart Variable Also
      BlockItem CaseClause Catch Elif ElseBlock ElseClause Finally NextGenerator TypeClause ExprList
      Flat NextExpr Operand Run (move_delimited g) (move_item g) (move_atom g) (move_expr g)
      (move_flat_part g) (move_generator g) (move_head g) (move_postfix g) (move_run_part g)
      (move_variable g) (move_also g) (move_block_item g) (move_case_clause g) (move_catch g)
      (move_elif g) (move_else_block g) (move_else_clause g) (move_finally g)
      (move_next_generator g) (move_type_clause g) (move_expr_list g) (move_flat g)
      (move_next_expr g) (move_operand g) (move_run g) l

  -- the parts of one level of an item of a block with its `;`, moved
  abbrev pub moving_block_item : BlockItem-F Delimited Item Atom Expr FlatPart Generator Head
      Postfix RunPart Variable Also BlockItem CaseClause Catch Elif ElseBlock ElseClause Finally
      NextGenerator TypeClause ExprList Flat NextExpr Operand Run
      → BlockItem-F Delimited Item Atom Expr FlatPart Generator Head Postfix RunPart Variable Also
      BlockItem CaseClause Catch Elif ElseBlock ElseClause Finally NextGenerator TypeClause ExprList
      Flat NextExpr Operand Run
  moving_block_item =
      map-BlockItem Delimited Item Atom Expr FlatPart Generator Head Postfix RunPart Variable Also
      BlockItem CaseClause Catch Elif ElseBlock ElseClause Finally NextGenerator TypeClause ExprList
      Flat NextExpr Operand Run Delimited Item Atom Expr FlatPart Generator Head Postfix RunPart
      Variable Also BlockItem CaseClause Catch Elif ElseBlock ElseClause Finally NextGenerator
      TypeClause ExprList Flat NextExpr Operand Run (moved_delimited g) (moved_item g)
      (moved_atom g) (moved_expr g) (moved_flat_part g) (moved_generator g) (moved_head g)
      (moved_postfix g) (moved_run_part g) (moved_variable g) (moved_also g) (moved_block_item g)
      (moved_case_clause g) (moved_catch g) (moved_elif g) (moved_else_block g)
      (moved_else_clause g) (moved_finally g) (moved_next_generator g) (moved_type_clause g)
      (moved_expr_list g) (moved_flat g) (moved_next_expr g) (moved_operand g) (moved_run g)

  -- an item of a block with its `;` moved, by its level
  moved_roll_block_item : (l : BlockItem-F Delimited Item Atom Expr FlatPart Generator Head Postfix
      RunPart Variable Also BlockItem CaseClause Catch Elif ElseBlock ElseClause Finally
      NextGenerator TypeClause ExprList Flat NextExpr Operand Run)
      → moved_block_item g (roll-BlockItem l)
      ≡ roll-BlockItem (block_item_level g (moving_block_item l))
  unfolding moved_delimited moved_item moved_atom moved_expr moved_flat_part moved_generator
      moved_head moved_postfix moved_run_part moved_variable moved_also moved_block_item
      moved_case_clause moved_catch moved_elif moved_else_block moved_else_clause moved_finally
      moved_next_generator moved_type_clause moved_expr_list moved_flat moved_next_expr
      moved_operand moved_run
  moved_roll_block_item l =
      fold-roll-BlockItem Delimited Item Atom Expr FlatPart Generator Head Postfix RunPart Variable
      Also BlockItem CaseClause Catch Elif ElseBlock ElseClause Finally NextGenerator TypeClause
      ExprList Flat NextExpr Operand Run (move_delimited g) (move_item g) (move_atom g)
      (move_expr g) (move_flat_part g) (move_generator g) (move_head g) (move_postfix g)
      (move_run_part g) (move_variable g) (move_also g) (move_block_item g) (move_case_clause g)
      (move_catch g) (move_elif g) (move_else_block g) (move_else_clause g) (move_finally g)
      (move_next_generator g) (move_type_clause g) (move_expr_list g) (move_flat g)
      (move_next_expr g) (move_operand g) (move_run g) l

  -- the parts of one level of a clause of a `case`, moved
  abbrev pub moving_case_clause : CaseClause-F Delimited Item Atom Expr FlatPart Generator Head
      Postfix RunPart Variable Also BlockItem CaseClause Catch Elif ElseBlock ElseClause Finally
      NextGenerator TypeClause ExprList Flat NextExpr Operand Run
      → CaseClause-F Delimited Item Atom Expr FlatPart Generator Head Postfix RunPart Variable Also
      BlockItem CaseClause Catch Elif ElseBlock ElseClause Finally NextGenerator TypeClause ExprList
      Flat NextExpr Operand Run
  moving_case_clause =
      map-CaseClause Delimited Item Atom Expr FlatPart Generator Head Postfix RunPart Variable Also
      BlockItem CaseClause Catch Elif ElseBlock ElseClause Finally NextGenerator TypeClause ExprList
      Flat NextExpr Operand Run Delimited Item Atom Expr FlatPart Generator Head Postfix RunPart
      Variable Also BlockItem CaseClause Catch Elif ElseBlock ElseClause Finally NextGenerator
      TypeClause ExprList Flat NextExpr Operand Run (moved_delimited g) (moved_item g)
      (moved_atom g) (moved_expr g) (moved_flat_part g) (moved_generator g) (moved_head g)
      (moved_postfix g) (moved_run_part g) (moved_variable g) (moved_also g) (moved_block_item g)
      (moved_case_clause g) (moved_catch g) (moved_elif g) (moved_else_block g)
      (moved_else_clause g) (moved_finally g) (moved_next_generator g) (moved_type_clause g)
      (moved_expr_list g) (moved_flat g) (moved_next_expr g) (moved_operand g) (moved_run g)

  -- a clause of a `case` moved, by its level
  moved_roll_case_clause : (l : CaseClause-F Delimited Item Atom Expr FlatPart Generator Head
      Postfix RunPart Variable Also BlockItem CaseClause Catch Elif ElseBlock ElseClause Finally
      NextGenerator TypeClause ExprList Flat NextExpr Operand Run)
      → moved_case_clause g (roll-CaseClause l)
      ≡ roll-CaseClause (case_clause_level g (moving_case_clause l))
  unfolding moved_delimited moved_item moved_atom moved_expr moved_flat_part moved_generator
      moved_head moved_postfix moved_run_part moved_variable moved_also moved_block_item
      moved_case_clause moved_catch moved_elif moved_else_block moved_else_clause moved_finally
      moved_next_generator moved_type_clause moved_expr_list moved_flat moved_next_expr
      moved_operand moved_run
  moved_roll_case_clause l =
      fold-roll-CaseClause Delimited Item Atom Expr FlatPart Generator Head Postfix RunPart Variable
      Also BlockItem CaseClause Catch Elif ElseBlock ElseClause Finally NextGenerator TypeClause
      ExprList Flat NextExpr Operand Run (move_delimited g) (move_item g) (move_atom g)
      (move_expr g) (move_flat_part g) (move_generator g) (move_head g) (move_postfix g)
      (move_run_part g) (move_variable g) (move_also g) (move_block_item g) (move_case_clause g)
      (move_catch g) (move_elif g) (move_else_block g) (move_else_clause g) (move_finally g)
      (move_next_generator g) (move_type_clause g) (move_expr_list g) (move_flat g)
      (move_next_expr g) (move_operand g) (move_run g) l

  -- the parts of one level of a `catch`, moved
  abbrev pub moving_catch : Catch-F Delimited Item Atom Expr FlatPart Generator Head Postfix RunPart
      Variable Also BlockItem CaseClause Catch Elif ElseBlock ElseClause Finally NextGenerator
      TypeClause ExprList Flat NextExpr Operand Run
      → Catch-F Delimited Item Atom Expr FlatPart Generator Head Postfix RunPart Variable Also
      BlockItem CaseClause Catch Elif ElseBlock ElseClause Finally NextGenerator TypeClause ExprList
      Flat NextExpr Operand Run
  moving_catch =
      map-Catch Delimited Item Atom Expr FlatPart Generator Head Postfix RunPart Variable Also
      BlockItem CaseClause Catch Elif ElseBlock ElseClause Finally NextGenerator TypeClause ExprList
      Flat NextExpr Operand Run Delimited Item Atom Expr FlatPart Generator Head Postfix RunPart
      Variable Also BlockItem CaseClause Catch Elif ElseBlock ElseClause Finally NextGenerator
      TypeClause ExprList Flat NextExpr Operand Run (moved_delimited g) (moved_item g)
      (moved_atom g) (moved_expr g) (moved_flat_part g) (moved_generator g) (moved_head g)
      (moved_postfix g) (moved_run_part g) (moved_variable g) (moved_also g) (moved_block_item g)
      (moved_case_clause g) (moved_catch g) (moved_elif g) (moved_else_block g)
      (moved_else_clause g) (moved_finally g) (moved_next_generator g) (moved_type_clause g)
      (moved_expr_list g) (moved_flat g) (moved_next_expr g) (moved_operand g) (moved_run g)

  -- a `catch` moved, by its level
  moved_roll_catch : (l : Catch-F Delimited Item Atom Expr FlatPart Generator Head Postfix RunPart
      Variable Also BlockItem CaseClause Catch Elif ElseBlock ElseClause Finally NextGenerator
      TypeClause ExprList Flat NextExpr Operand Run)
      → moved_catch g (roll-Catch l) ≡ roll-Catch (catch_level g (moving_catch l))
  unfolding moved_delimited moved_item moved_atom moved_expr moved_flat_part moved_generator
      moved_head moved_postfix moved_run_part moved_variable moved_also moved_block_item
      moved_case_clause moved_catch moved_elif moved_else_block moved_else_clause moved_finally
      moved_next_generator moved_type_clause moved_expr_list moved_flat moved_next_expr
      moved_operand moved_run
  moved_roll_catch l =
      fold-roll-Catch Delimited Item Atom Expr FlatPart Generator Head Postfix RunPart Variable Also
      BlockItem CaseClause Catch Elif ElseBlock ElseClause Finally NextGenerator TypeClause ExprList
      Flat NextExpr Operand Run (move_delimited g) (move_item g) (move_atom g) (move_expr g)
      (move_flat_part g) (move_generator g) (move_head g) (move_postfix g) (move_run_part g)
      (move_variable g) (move_also g) (move_block_item g) (move_case_clause g) (move_catch g)
      (move_elif g) (move_else_block g) (move_else_clause g) (move_finally g)
      (move_next_generator g) (move_type_clause g) (move_expr_list g) (move_flat g)
      (move_next_expr g) (move_operand g) (move_run g) l

  -- the parts of one level of an `elif`, moved
  abbrev pub moving_elif : Elif-F Delimited Item Atom Expr FlatPart Generator Head Postfix RunPart
      Variable Also BlockItem CaseClause Catch Elif ElseBlock ElseClause Finally NextGenerator
      TypeClause ExprList Flat NextExpr Operand Run
      → Elif-F Delimited Item Atom Expr FlatPart Generator Head Postfix RunPart Variable Also
      BlockItem CaseClause Catch Elif ElseBlock ElseClause Finally NextGenerator TypeClause ExprList
      Flat NextExpr Operand Run
  moving_elif =
      map-Elif Delimited Item Atom Expr FlatPart Generator Head Postfix RunPart Variable Also
      BlockItem CaseClause Catch Elif ElseBlock ElseClause Finally NextGenerator TypeClause ExprList
      Flat NextExpr Operand Run Delimited Item Atom Expr FlatPart Generator Head Postfix RunPart
      Variable Also BlockItem CaseClause Catch Elif ElseBlock ElseClause Finally NextGenerator
      TypeClause ExprList Flat NextExpr Operand Run (moved_delimited g) (moved_item g)
      (moved_atom g) (moved_expr g) (moved_flat_part g) (moved_generator g) (moved_head g)
      (moved_postfix g) (moved_run_part g) (moved_variable g) (moved_also g) (moved_block_item g)
      (moved_case_clause g) (moved_catch g) (moved_elif g) (moved_else_block g)
      (moved_else_clause g) (moved_finally g) (moved_next_generator g) (moved_type_clause g)
      (moved_expr_list g) (moved_flat g) (moved_next_expr g) (moved_operand g) (moved_run g)

  -- an `elif` moved, by its level
  moved_roll_elif : (l : Elif-F Delimited Item Atom Expr FlatPart Generator Head Postfix RunPart
      Variable Also BlockItem CaseClause Catch Elif ElseBlock ElseClause Finally NextGenerator
      TypeClause ExprList Flat NextExpr Operand Run)
      → moved_elif g (roll-Elif l) ≡ roll-Elif (elif_level g (moving_elif l))
  unfolding moved_delimited moved_item moved_atom moved_expr moved_flat_part moved_generator
      moved_head moved_postfix moved_run_part moved_variable moved_also moved_block_item
      moved_case_clause moved_catch moved_elif moved_else_block moved_else_clause moved_finally
      moved_next_generator moved_type_clause moved_expr_list moved_flat moved_next_expr
      moved_operand moved_run
  moved_roll_elif l =
      fold-roll-Elif Delimited Item Atom Expr FlatPart Generator Head Postfix RunPart Variable Also
      BlockItem CaseClause Catch Elif ElseBlock ElseClause Finally NextGenerator TypeClause ExprList
      Flat NextExpr Operand Run (move_delimited g) (move_item g) (move_atom g) (move_expr g)
      (move_flat_part g) (move_generator g) (move_head g) (move_postfix g) (move_run_part g)
      (move_variable g) (move_also g) (move_block_item g) (move_case_clause g) (move_catch g)
      (move_elif g) (move_else_block g) (move_else_clause g) (move_finally g)
      (move_next_generator g) (move_type_clause g) (move_expr_list g) (move_flat g)
      (move_next_expr g) (move_operand g) (move_run g) l

  -- the parts of one level of the `else` of an `if`, moved
  abbrev pub moving_else_block : ElseBlock-F Delimited Item Atom Expr FlatPart Generator Head
      Postfix RunPart Variable Also BlockItem CaseClause Catch Elif ElseBlock ElseClause Finally
      NextGenerator TypeClause ExprList Flat NextExpr Operand Run
      → ElseBlock-F Delimited Item Atom Expr FlatPart Generator Head Postfix RunPart Variable Also
      BlockItem CaseClause Catch Elif ElseBlock ElseClause Finally NextGenerator TypeClause ExprList
      Flat NextExpr Operand Run
  moving_else_block =
      map-ElseBlock Delimited Item Atom Expr FlatPart Generator Head Postfix RunPart Variable Also
      BlockItem CaseClause Catch Elif ElseBlock ElseClause Finally NextGenerator TypeClause ExprList
      Flat NextExpr Operand Run Delimited Item Atom Expr FlatPart Generator Head Postfix RunPart
      Variable Also BlockItem CaseClause Catch Elif ElseBlock ElseClause Finally NextGenerator
      TypeClause ExprList Flat NextExpr Operand Run (moved_delimited g) (moved_item g)
      (moved_atom g) (moved_expr g) (moved_flat_part g) (moved_generator g) (moved_head g)
      (moved_postfix g) (moved_run_part g) (moved_variable g) (moved_also g) (moved_block_item g)
      (moved_case_clause g) (moved_catch g) (moved_elif g) (moved_else_block g)
      (moved_else_clause g) (moved_finally g) (moved_next_generator g) (moved_type_clause g)
      (moved_expr_list g) (moved_flat g) (moved_next_expr g) (moved_operand g) (moved_run g)

  -- the `else` of an `if` moved, by its level
  moved_roll_else_block : (l : ElseBlock-F Delimited Item Atom Expr FlatPart Generator Head Postfix
      RunPart Variable Also BlockItem CaseClause Catch Elif ElseBlock ElseClause Finally
      NextGenerator TypeClause ExprList Flat NextExpr Operand Run)
      → moved_else_block g (roll-ElseBlock l)
      ≡ roll-ElseBlock (else_block_level g (moving_else_block l))
  unfolding moved_delimited moved_item moved_atom moved_expr moved_flat_part moved_generator
      moved_head moved_postfix moved_run_part moved_variable moved_also moved_block_item
      moved_case_clause moved_catch moved_elif moved_else_block moved_else_clause moved_finally
      moved_next_generator moved_type_clause moved_expr_list moved_flat moved_next_expr
      moved_operand moved_run
  moved_roll_else_block l =
      fold-roll-ElseBlock Delimited Item Atom Expr FlatPart Generator Head Postfix RunPart Variable
      Also BlockItem CaseClause Catch Elif ElseBlock ElseClause Finally NextGenerator TypeClause
      ExprList Flat NextExpr Operand Run (move_delimited g) (move_item g) (move_atom g)
      (move_expr g) (move_flat_part g) (move_generator g) (move_head g) (move_postfix g)
      (move_run_part g) (move_variable g) (move_also g) (move_block_item g) (move_case_clause g)
      (move_catch g) (move_elif g) (move_else_block g) (move_else_clause g) (move_finally g)
      (move_next_generator g) (move_type_clause g) (move_expr_list g) (move_flat g)
      (move_next_expr g) (move_operand g) (move_run g) l

  -- the parts of one level of the `else` of a `case` or `typecase`, moved
  abbrev pub moving_else_clause : ElseClause-F Delimited Item Atom Expr FlatPart Generator Head
      Postfix RunPart Variable Also BlockItem CaseClause Catch Elif ElseBlock ElseClause Finally
      NextGenerator TypeClause ExprList Flat NextExpr Operand Run
      → ElseClause-F Delimited Item Atom Expr FlatPart Generator Head Postfix RunPart Variable Also
      BlockItem CaseClause Catch Elif ElseBlock ElseClause Finally NextGenerator TypeClause ExprList
      Flat NextExpr Operand Run
  moving_else_clause =
      map-ElseClause Delimited Item Atom Expr FlatPart Generator Head Postfix RunPart Variable Also
      BlockItem CaseClause Catch Elif ElseBlock ElseClause Finally NextGenerator TypeClause ExprList
      Flat NextExpr Operand Run Delimited Item Atom Expr FlatPart Generator Head Postfix RunPart
      Variable Also BlockItem CaseClause Catch Elif ElseBlock ElseClause Finally NextGenerator
      TypeClause ExprList Flat NextExpr Operand Run (moved_delimited g) (moved_item g)
      (moved_atom g) (moved_expr g) (moved_flat_part g) (moved_generator g) (moved_head g)
      (moved_postfix g) (moved_run_part g) (moved_variable g) (moved_also g) (moved_block_item g)
      (moved_case_clause g) (moved_catch g) (moved_elif g) (moved_else_block g)
      (moved_else_clause g) (moved_finally g) (moved_next_generator g) (moved_type_clause g)
      (moved_expr_list g) (moved_flat g) (moved_next_expr g) (moved_operand g) (moved_run g)

  -- the `else` of a `case` or `typecase` moved, by its level
  moved_roll_else_clause : (l : ElseClause-F Delimited Item Atom Expr FlatPart Generator Head
      Postfix RunPart Variable Also BlockItem CaseClause Catch Elif ElseBlock ElseClause Finally
      NextGenerator TypeClause ExprList Flat NextExpr Operand Run)
      → moved_else_clause g (roll-ElseClause l)
      ≡ roll-ElseClause (else_clause_level g (moving_else_clause l))
  unfolding moved_delimited moved_item moved_atom moved_expr moved_flat_part moved_generator
      moved_head moved_postfix moved_run_part moved_variable moved_also moved_block_item
      moved_case_clause moved_catch moved_elif moved_else_block moved_else_clause moved_finally
      moved_next_generator moved_type_clause moved_expr_list moved_flat moved_next_expr
      moved_operand moved_run
  moved_roll_else_clause l =
      fold-roll-ElseClause Delimited Item Atom Expr FlatPart Generator Head Postfix RunPart Variable
      Also BlockItem CaseClause Catch Elif ElseBlock ElseClause Finally NextGenerator TypeClause
      ExprList Flat NextExpr Operand Run (move_delimited g) (move_item g) (move_atom g)
      (move_expr g) (move_flat_part g) (move_generator g) (move_head g) (move_postfix g)
      (move_run_part g) (move_variable g) (move_also g) (move_block_item g) (move_case_clause g)
      (move_catch g) (move_elif g) (move_else_block g) (move_else_clause g) (move_finally g)
      (move_next_generator g) (move_type_clause g) (move_expr_list g) (move_flat g)
      (move_next_expr g) (move_operand g) (move_run g) l

  -- the parts of one level of a `finally`, moved
  abbrev pub moving_finally : Finally-F Delimited Item Atom Expr FlatPart Generator Head Postfix
      RunPart Variable Also BlockItem CaseClause Catch Elif ElseBlock ElseClause Finally
      NextGenerator TypeClause ExprList Flat NextExpr Operand Run
      → Finally-F Delimited Item Atom Expr FlatPart Generator Head Postfix RunPart Variable Also
      BlockItem CaseClause Catch Elif ElseBlock ElseClause Finally NextGenerator TypeClause ExprList
      Flat NextExpr Operand Run
  moving_finally =
      map-Finally Delimited Item Atom Expr FlatPart Generator Head Postfix RunPart Variable Also
      BlockItem CaseClause Catch Elif ElseBlock ElseClause Finally NextGenerator TypeClause ExprList
      Flat NextExpr Operand Run Delimited Item Atom Expr FlatPart Generator Head Postfix RunPart
      Variable Also BlockItem CaseClause Catch Elif ElseBlock ElseClause Finally NextGenerator
      TypeClause ExprList Flat NextExpr Operand Run (moved_delimited g) (moved_item g)
      (moved_atom g) (moved_expr g) (moved_flat_part g) (moved_generator g) (moved_head g)
      (moved_postfix g) (moved_run_part g) (moved_variable g) (moved_also g) (moved_block_item g)
      (moved_case_clause g) (moved_catch g) (moved_elif g) (moved_else_block g)
      (moved_else_clause g) (moved_finally g) (moved_next_generator g) (moved_type_clause g)
      (moved_expr_list g) (moved_flat g) (moved_next_expr g) (moved_operand g) (moved_run g)

  -- a `finally` moved, by its level
  moved_roll_finally : (l : Finally-F Delimited Item Atom Expr FlatPart Generator Head Postfix
      RunPart Variable Also BlockItem CaseClause Catch Elif ElseBlock ElseClause Finally
      NextGenerator TypeClause ExprList Flat NextExpr Operand Run)
      → moved_finally g (roll-Finally l) ≡ roll-Finally (finally_level g (moving_finally l))
  unfolding moved_delimited moved_item moved_atom moved_expr moved_flat_part moved_generator
      moved_head moved_postfix moved_run_part moved_variable moved_also moved_block_item
      moved_case_clause moved_catch moved_elif moved_else_block moved_else_clause moved_finally
      moved_next_generator moved_type_clause moved_expr_list moved_flat moved_next_expr
      moved_operand moved_run
  moved_roll_finally l =
      fold-roll-Finally Delimited Item Atom Expr FlatPart Generator Head Postfix RunPart Variable
      Also BlockItem CaseClause Catch Elif ElseBlock ElseClause Finally NextGenerator TypeClause
      ExprList Flat NextExpr Operand Run (move_delimited g) (move_item g) (move_atom g)
      (move_expr g) (move_flat_part g) (move_generator g) (move_head g) (move_postfix g)
      (move_run_part g) (move_variable g) (move_also g) (move_block_item g) (move_case_clause g)
      (move_catch g) (move_elif g) (move_else_block g) (move_else_clause g) (move_finally g)
      (move_next_generator g) (move_type_clause g) (move_expr_list g) (move_flat g)
      (move_next_expr g) (move_operand g) (move_run g) l

  -- the parts of one level of a further generator of a `for`, moved
  abbrev pub moving_next_generator : NextGenerator-F Delimited Item Atom Expr FlatPart Generator
      Head Postfix RunPart Variable Also BlockItem CaseClause Catch Elif ElseBlock ElseClause
      Finally NextGenerator TypeClause ExprList Flat NextExpr Operand Run
      → NextGenerator-F Delimited Item Atom Expr FlatPart Generator Head Postfix RunPart Variable
      Also BlockItem CaseClause Catch Elif ElseBlock ElseClause Finally NextGenerator TypeClause
      ExprList Flat NextExpr Operand Run
  moving_next_generator =
      map-NextGenerator Delimited Item Atom Expr FlatPart Generator Head Postfix RunPart Variable
      Also BlockItem CaseClause Catch Elif ElseBlock ElseClause Finally NextGenerator TypeClause
      ExprList Flat NextExpr Operand Run Delimited Item Atom Expr FlatPart Generator Head Postfix
      RunPart Variable Also BlockItem CaseClause Catch Elif ElseBlock ElseClause Finally
      NextGenerator TypeClause ExprList Flat NextExpr Operand Run (moved_delimited g) (moved_item g)
      (moved_atom g) (moved_expr g) (moved_flat_part g) (moved_generator g) (moved_head g)
      (moved_postfix g) (moved_run_part g) (moved_variable g) (moved_also g) (moved_block_item g)
      (moved_case_clause g) (moved_catch g) (moved_elif g) (moved_else_block g)
      (moved_else_clause g) (moved_finally g) (moved_next_generator g) (moved_type_clause g)
      (moved_expr_list g) (moved_flat g) (moved_next_expr g) (moved_operand g) (moved_run g)

  -- a further generator of a `for` moved, by its level
  moved_roll_next_generator : (l : NextGenerator-F Delimited Item Atom Expr FlatPart Generator Head
      Postfix RunPart Variable Also BlockItem CaseClause Catch Elif ElseBlock ElseClause Finally
      NextGenerator TypeClause ExprList Flat NextExpr Operand Run)
      → moved_next_generator g (roll-NextGenerator l)
      ≡ roll-NextGenerator (next_generator_level g (moving_next_generator l))
  unfolding moved_delimited moved_item moved_atom moved_expr moved_flat_part moved_generator
      moved_head moved_postfix moved_run_part moved_variable moved_also moved_block_item
      moved_case_clause moved_catch moved_elif moved_else_block moved_else_clause moved_finally
      moved_next_generator moved_type_clause moved_expr_list moved_flat moved_next_expr
      moved_operand moved_run
  moved_roll_next_generator l =
      fold-roll-NextGenerator Delimited Item Atom Expr FlatPart Generator Head Postfix RunPart
      Variable Also BlockItem CaseClause Catch Elif ElseBlock ElseClause Finally NextGenerator
      TypeClause ExprList Flat NextExpr Operand Run (move_delimited g) (move_item g) (move_atom g)
      (move_expr g) (move_flat_part g) (move_generator g) (move_head g) (move_postfix g)
      (move_run_part g) (move_variable g) (move_also g) (move_block_item g) (move_case_clause g)
      (move_catch g) (move_elif g) (move_else_block g) (move_else_clause g) (move_finally g)
      (move_next_generator g) (move_type_clause g) (move_expr_list g) (move_flat g)
      (move_next_expr g) (move_operand g) (move_run g) l

  -- the parts of one level of a clause of a `typecase` or `catch`, moved
  abbrev pub moving_type_clause : TypeClause-F Delimited Item Atom Expr FlatPart Generator Head
      Postfix RunPart Variable Also BlockItem CaseClause Catch Elif ElseBlock ElseClause Finally
      NextGenerator TypeClause ExprList Flat NextExpr Operand Run
      → TypeClause-F Delimited Item Atom Expr FlatPart Generator Head Postfix RunPart Variable Also
      BlockItem CaseClause Catch Elif ElseBlock ElseClause Finally NextGenerator TypeClause ExprList
      Flat NextExpr Operand Run
  moving_type_clause =
      map-TypeClause Delimited Item Atom Expr FlatPart Generator Head Postfix RunPart Variable Also
      BlockItem CaseClause Catch Elif ElseBlock ElseClause Finally NextGenerator TypeClause ExprList
      Flat NextExpr Operand Run Delimited Item Atom Expr FlatPart Generator Head Postfix RunPart
      Variable Also BlockItem CaseClause Catch Elif ElseBlock ElseClause Finally NextGenerator
      TypeClause ExprList Flat NextExpr Operand Run (moved_delimited g) (moved_item g)
      (moved_atom g) (moved_expr g) (moved_flat_part g) (moved_generator g) (moved_head g)
      (moved_postfix g) (moved_run_part g) (moved_variable g) (moved_also g) (moved_block_item g)
      (moved_case_clause g) (moved_catch g) (moved_elif g) (moved_else_block g)
      (moved_else_clause g) (moved_finally g) (moved_next_generator g) (moved_type_clause g)
      (moved_expr_list g) (moved_flat g) (moved_next_expr g) (moved_operand g) (moved_run g)

  -- a clause of a `typecase` or `catch` moved, by its level
  moved_roll_type_clause : (l : TypeClause-F Delimited Item Atom Expr FlatPart Generator Head
      Postfix RunPart Variable Also BlockItem CaseClause Catch Elif ElseBlock ElseClause Finally
      NextGenerator TypeClause ExprList Flat NextExpr Operand Run)
      → moved_type_clause g (roll-TypeClause l)
      ≡ roll-TypeClause (type_clause_level g (moving_type_clause l))
  unfolding moved_delimited moved_item moved_atom moved_expr moved_flat_part moved_generator
      moved_head moved_postfix moved_run_part moved_variable moved_also moved_block_item
      moved_case_clause moved_catch moved_elif moved_else_block moved_else_clause moved_finally
      moved_next_generator moved_type_clause moved_expr_list moved_flat moved_next_expr
      moved_operand moved_run
  moved_roll_type_clause l =
      fold-roll-TypeClause Delimited Item Atom Expr FlatPart Generator Head Postfix RunPart Variable
      Also BlockItem CaseClause Catch Elif ElseBlock ElseClause Finally NextGenerator TypeClause
      ExprList Flat NextExpr Operand Run (move_delimited g) (move_item g) (move_atom g)
      (move_expr g) (move_flat_part g) (move_generator g) (move_head g) (move_postfix g)
      (move_run_part g) (move_variable g) (move_also g) (move_block_item g) (move_case_clause g)
      (move_catch g) (move_elif g) (move_else_block g) (move_else_clause g) (move_finally g)
      (move_next_generator g) (move_type_clause g) (move_expr_list g) (move_flat g)
      (move_next_expr g) (move_operand g) (move_run g) l

  -- the parts of one level of a list of expressions, moved
  abbrev pub moving_expr_list : ExprList-F Delimited Item Atom Expr FlatPart Generator Head Postfix
      RunPart Variable Also BlockItem CaseClause Catch Elif ElseBlock ElseClause Finally
      NextGenerator TypeClause ExprList Flat NextExpr Operand Run
      → ExprList-F Delimited Item Atom Expr FlatPart Generator Head Postfix RunPart Variable Also
      BlockItem CaseClause Catch Elif ElseBlock ElseClause Finally NextGenerator TypeClause ExprList
      Flat NextExpr Operand Run
  moving_expr_list =
      map-ExprList Delimited Item Atom Expr FlatPart Generator Head Postfix RunPart Variable Also
      BlockItem CaseClause Catch Elif ElseBlock ElseClause Finally NextGenerator TypeClause ExprList
      Flat NextExpr Operand Run Delimited Item Atom Expr FlatPart Generator Head Postfix RunPart
      Variable Also BlockItem CaseClause Catch Elif ElseBlock ElseClause Finally NextGenerator
      TypeClause ExprList Flat NextExpr Operand Run (moved_delimited g) (moved_item g)
      (moved_atom g) (moved_expr g) (moved_flat_part g) (moved_generator g) (moved_head g)
      (moved_postfix g) (moved_run_part g) (moved_variable g) (moved_also g) (moved_block_item g)
      (moved_case_clause g) (moved_catch g) (moved_elif g) (moved_else_block g)
      (moved_else_clause g) (moved_finally g) (moved_next_generator g) (moved_type_clause g)
      (moved_expr_list g) (moved_flat g) (moved_next_expr g) (moved_operand g) (moved_run g)

  -- a list of expressions moved, by its level
  moved_roll_expr_list : (l : ExprList-F Delimited Item Atom Expr FlatPart Generator Head Postfix
      RunPart Variable Also BlockItem CaseClause Catch Elif ElseBlock ElseClause Finally
      NextGenerator TypeClause ExprList Flat NextExpr Operand Run)
      → moved_expr_list g (roll-ExprList l) ≡ roll-ExprList (expr_list_level g (moving_expr_list l))
  unfolding moved_delimited moved_item moved_atom moved_expr moved_flat_part moved_generator
      moved_head moved_postfix moved_run_part moved_variable moved_also moved_block_item
      moved_case_clause moved_catch moved_elif moved_else_block moved_else_clause moved_finally
      moved_next_generator moved_type_clause moved_expr_list moved_flat moved_next_expr
      moved_operand moved_run
  moved_roll_expr_list l =
      fold-roll-ExprList Delimited Item Atom Expr FlatPart Generator Head Postfix RunPart Variable
      Also BlockItem CaseClause Catch Elif ElseBlock ElseClause Finally NextGenerator TypeClause
      ExprList Flat NextExpr Operand Run (move_delimited g) (move_item g) (move_atom g)
      (move_expr g) (move_flat_part g) (move_generator g) (move_head g) (move_postfix g)
      (move_run_part g) (move_variable g) (move_also g) (move_block_item g) (move_case_clause g)
      (move_catch g) (move_elif g) (move_else_block g) (move_else_clause g) (move_finally g)
      (move_next_generator g) (move_type_clause g) (move_expr_list g) (move_flat g)
      (move_next_expr g) (move_operand g) (move_run g) l

  -- the parts of one level of a flat expression, moved
  abbrev pub moving_flat : Flat-F Delimited Item Atom Expr FlatPart Generator Head Postfix RunPart
      Variable Also BlockItem CaseClause Catch Elif ElseBlock ElseClause Finally NextGenerator
      TypeClause ExprList Flat NextExpr Operand Run
      → Flat-F Delimited Item Atom Expr FlatPart Generator Head Postfix RunPart Variable Also
      BlockItem CaseClause Catch Elif ElseBlock ElseClause Finally NextGenerator TypeClause ExprList
      Flat NextExpr Operand Run
  moving_flat =
      map-Flat Delimited Item Atom Expr FlatPart Generator Head Postfix RunPart Variable Also
      BlockItem CaseClause Catch Elif ElseBlock ElseClause Finally NextGenerator TypeClause ExprList
      Flat NextExpr Operand Run Delimited Item Atom Expr FlatPart Generator Head Postfix RunPart
      Variable Also BlockItem CaseClause Catch Elif ElseBlock ElseClause Finally NextGenerator
      TypeClause ExprList Flat NextExpr Operand Run (moved_delimited g) (moved_item g)
      (moved_atom g) (moved_expr g) (moved_flat_part g) (moved_generator g) (moved_head g)
      (moved_postfix g) (moved_run_part g) (moved_variable g) (moved_also g) (moved_block_item g)
      (moved_case_clause g) (moved_catch g) (moved_elif g) (moved_else_block g)
      (moved_else_clause g) (moved_finally g) (moved_next_generator g) (moved_type_clause g)
      (moved_expr_list g) (moved_flat g) (moved_next_expr g) (moved_operand g) (moved_run g)

  -- a flat expression moved, by its level
  moved_roll_flat : (l : Flat-F Delimited Item Atom Expr FlatPart Generator Head Postfix RunPart
      Variable Also BlockItem CaseClause Catch Elif ElseBlock ElseClause Finally NextGenerator
      TypeClause ExprList Flat NextExpr Operand Run)
      → moved_flat g (roll-Flat l) ≡ roll-Flat (flat_level g (moving_flat l))
  unfolding moved_delimited moved_item moved_atom moved_expr moved_flat_part moved_generator
      moved_head moved_postfix moved_run_part moved_variable moved_also moved_block_item
      moved_case_clause moved_catch moved_elif moved_else_block moved_else_clause moved_finally
      moved_next_generator moved_type_clause moved_expr_list moved_flat moved_next_expr
      moved_operand moved_run
  moved_roll_flat l =
      fold-roll-Flat Delimited Item Atom Expr FlatPart Generator Head Postfix RunPart Variable Also
      BlockItem CaseClause Catch Elif ElseBlock ElseClause Finally NextGenerator TypeClause ExprList
      Flat NextExpr Operand Run (move_delimited g) (move_item g) (move_atom g) (move_expr g)
      (move_flat_part g) (move_generator g) (move_head g) (move_postfix g) (move_run_part g)
      (move_variable g) (move_also g) (move_block_item g) (move_case_clause g) (move_catch g)
      (move_elif g) (move_else_block g) (move_else_clause g) (move_finally g)
      (move_next_generator g) (move_type_clause g) (move_expr_list g) (move_flat g)
      (move_next_expr g) (move_operand g) (move_run g) l

  -- the parts of one level of a further expression of a list, moved
  abbrev pub moving_next_expr : NextExpr-F Delimited Item Atom Expr FlatPart Generator Head Postfix
      RunPart Variable Also BlockItem CaseClause Catch Elif ElseBlock ElseClause Finally
      NextGenerator TypeClause ExprList Flat NextExpr Operand Run
      → NextExpr-F Delimited Item Atom Expr FlatPart Generator Head Postfix RunPart Variable Also
      BlockItem CaseClause Catch Elif ElseBlock ElseClause Finally NextGenerator TypeClause ExprList
      Flat NextExpr Operand Run
  moving_next_expr =
      map-NextExpr Delimited Item Atom Expr FlatPart Generator Head Postfix RunPart Variable Also
      BlockItem CaseClause Catch Elif ElseBlock ElseClause Finally NextGenerator TypeClause ExprList
      Flat NextExpr Operand Run Delimited Item Atom Expr FlatPart Generator Head Postfix RunPart
      Variable Also BlockItem CaseClause Catch Elif ElseBlock ElseClause Finally NextGenerator
      TypeClause ExprList Flat NextExpr Operand Run (moved_delimited g) (moved_item g)
      (moved_atom g) (moved_expr g) (moved_flat_part g) (moved_generator g) (moved_head g)
      (moved_postfix g) (moved_run_part g) (moved_variable g) (moved_also g) (moved_block_item g)
      (moved_case_clause g) (moved_catch g) (moved_elif g) (moved_else_block g)
      (moved_else_clause g) (moved_finally g) (moved_next_generator g) (moved_type_clause g)
      (moved_expr_list g) (moved_flat g) (moved_next_expr g) (moved_operand g) (moved_run g)

  -- a further expression of a list moved, by its level
  moved_roll_next_expr : (l : NextExpr-F Delimited Item Atom Expr FlatPart Generator Head Postfix
      RunPart Variable Also BlockItem CaseClause Catch Elif ElseBlock ElseClause Finally
      NextGenerator TypeClause ExprList Flat NextExpr Operand Run)
      → moved_next_expr g (roll-NextExpr l) ≡ roll-NextExpr (next_expr_level g (moving_next_expr l))
  unfolding moved_delimited moved_item moved_atom moved_expr moved_flat_part moved_generator
      moved_head moved_postfix moved_run_part moved_variable moved_also moved_block_item
      moved_case_clause moved_catch moved_elif moved_else_block moved_else_clause moved_finally
      moved_next_generator moved_type_clause moved_expr_list moved_flat moved_next_expr
      moved_operand moved_run
  moved_roll_next_expr l =
      fold-roll-NextExpr Delimited Item Atom Expr FlatPart Generator Head Postfix RunPart Variable
      Also BlockItem CaseClause Catch Elif ElseBlock ElseClause Finally NextGenerator TypeClause
      ExprList Flat NextExpr Operand Run (move_delimited g) (move_item g) (move_atom g)
      (move_expr g) (move_flat_part g) (move_generator g) (move_head g) (move_postfix g)
      (move_run_part g) (move_variable g) (move_also g) (move_block_item g) (move_case_clause g)
      (move_catch g) (move_elif g) (move_else_block g) (move_else_clause g) (move_finally g)
      (move_next_generator g) (move_type_clause g) (move_expr_list g) (move_flat g)
      (move_next_expr g) (move_operand g) (move_run g) l

  -- the parts of one level of a unit, moved
  abbrev pub moving_operand : Operand-F Delimited Item Atom Expr FlatPart Generator Head Postfix
      RunPart Variable Also BlockItem CaseClause Catch Elif ElseBlock ElseClause Finally
      NextGenerator TypeClause ExprList Flat NextExpr Operand Run
      → Operand-F Delimited Item Atom Expr FlatPart Generator Head Postfix RunPart Variable Also
      BlockItem CaseClause Catch Elif ElseBlock ElseClause Finally NextGenerator TypeClause ExprList
      Flat NextExpr Operand Run
  moving_operand =
      map-Operand Delimited Item Atom Expr FlatPart Generator Head Postfix RunPart Variable Also
      BlockItem CaseClause Catch Elif ElseBlock ElseClause Finally NextGenerator TypeClause ExprList
      Flat NextExpr Operand Run Delimited Item Atom Expr FlatPart Generator Head Postfix RunPart
      Variable Also BlockItem CaseClause Catch Elif ElseBlock ElseClause Finally NextGenerator
      TypeClause ExprList Flat NextExpr Operand Run (moved_delimited g) (moved_item g)
      (moved_atom g) (moved_expr g) (moved_flat_part g) (moved_generator g) (moved_head g)
      (moved_postfix g) (moved_run_part g) (moved_variable g) (moved_also g) (moved_block_item g)
      (moved_case_clause g) (moved_catch g) (moved_elif g) (moved_else_block g)
      (moved_else_clause g) (moved_finally g) (moved_next_generator g) (moved_type_clause g)
      (moved_expr_list g) (moved_flat g) (moved_next_expr g) (moved_operand g) (moved_run g)

  -- a unit moved, by its level
  moved_roll_operand : (l : Operand-F Delimited Item Atom Expr FlatPart Generator Head Postfix
      RunPart Variable Also BlockItem CaseClause Catch Elif ElseBlock ElseClause Finally
      NextGenerator TypeClause ExprList Flat NextExpr Operand Run)
      → moved_operand g (roll-Operand l) ≡ roll-Operand (operand_level g (moving_operand l))
  unfolding moved_delimited moved_item moved_atom moved_expr moved_flat_part moved_generator
      moved_head moved_postfix moved_run_part moved_variable moved_also moved_block_item
      moved_case_clause moved_catch moved_elif moved_else_block moved_else_clause moved_finally
      moved_next_generator moved_type_clause moved_expr_list moved_flat moved_next_expr
      moved_operand moved_run
  moved_roll_operand l =
      fold-roll-Operand Delimited Item Atom Expr FlatPart Generator Head Postfix RunPart Variable
      Also BlockItem CaseClause Catch Elif ElseBlock ElseClause Finally NextGenerator TypeClause
      ExprList Flat NextExpr Operand Run (move_delimited g) (move_item g) (move_atom g)
      (move_expr g) (move_flat_part g) (move_generator g) (move_head g) (move_postfix g)
      (move_run_part g) (move_variable g) (move_also g) (move_block_item g) (move_case_clause g)
      (move_catch g) (move_elif g) (move_else_block g) (move_else_clause g) (move_finally g)
      (move_next_generator g) (move_type_clause g) (move_expr_list g) (move_flat g)
      (move_next_expr g) (move_operand g) (move_run g) l

  -- the parts of one level of a run, moved
  abbrev pub moving_run : Run-F Delimited Item Atom Expr FlatPart Generator Head Postfix RunPart
      Variable Also BlockItem CaseClause Catch Elif ElseBlock ElseClause Finally NextGenerator
      TypeClause ExprList Flat NextExpr Operand Run
      → Run-F Delimited Item Atom Expr FlatPart Generator Head Postfix RunPart Variable Also
      BlockItem CaseClause Catch Elif ElseBlock ElseClause Finally NextGenerator TypeClause ExprList
      Flat NextExpr Operand Run
  moving_run =
      map-Run Delimited Item Atom Expr FlatPart Generator Head Postfix RunPart Variable Also
      BlockItem CaseClause Catch Elif ElseBlock ElseClause Finally NextGenerator TypeClause ExprList
      Flat NextExpr Operand Run Delimited Item Atom Expr FlatPart Generator Head Postfix RunPart
      Variable Also BlockItem CaseClause Catch Elif ElseBlock ElseClause Finally NextGenerator
      TypeClause ExprList Flat NextExpr Operand Run (moved_delimited g) (moved_item g)
      (moved_atom g) (moved_expr g) (moved_flat_part g) (moved_generator g) (moved_head g)
      (moved_postfix g) (moved_run_part g) (moved_variable g) (moved_also g) (moved_block_item g)
      (moved_case_clause g) (moved_catch g) (moved_elif g) (moved_else_block g)
      (moved_else_clause g) (moved_finally g) (moved_next_generator g) (moved_type_clause g)
      (moved_expr_list g) (moved_flat g) (moved_next_expr g) (moved_operand g) (moved_run g)

  -- a run moved, by its level
  moved_roll_run : (l : Run-F Delimited Item Atom Expr FlatPart Generator Head Postfix RunPart
      Variable Also BlockItem CaseClause Catch Elif ElseBlock ElseClause Finally NextGenerator
      TypeClause ExprList Flat NextExpr Operand Run)
      → moved_run g (roll-Run l) ≡ roll-Run (run_level g (moving_run l))
  unfolding moved_delimited moved_item moved_atom moved_expr moved_flat_part moved_generator
      moved_head moved_postfix moved_run_part moved_variable moved_also moved_block_item
      moved_case_clause moved_catch moved_elif moved_else_block moved_else_clause moved_finally
      moved_next_generator moved_type_clause moved_expr_list moved_flat moved_next_expr
      moved_operand moved_run
  moved_roll_run l =
      fold-roll-Run Delimited Item Atom Expr FlatPart Generator Head Postfix RunPart Variable Also
      BlockItem CaseClause Catch Elif ElseBlock ElseClause Finally NextGenerator TypeClause ExprList
      Flat NextExpr Operand Run (move_delimited g) (move_item g) (move_atom g) (move_expr g)
      (move_flat_part g) (move_generator g) (move_head g) (move_postfix g) (move_run_part g)
      (move_variable g) (move_also g) (move_block_item g) (move_case_clause g) (move_catch g)
      (move_elif g) (move_else_block g) (move_else_clause g) (move_finally g)
      (move_next_generator g) (move_type_clause g) (move_expr_list g) (move_flat g)
      (move_next_expr g) (move_operand g) (move_run g) l

-- ---- folds: by carriers, steps, and what moving is there

module _ (g : Place → Place)
    (D I A E FP G H P RP V AL BI CC C EI EB EC FI NG TC EL F NE O R : Type 0)
    (s_delimited : Delimited-F D I A E FP G H P RP V AL BI CC C EI EB EC FI NG TC EL F NE O R → D)
    (s_item : Item-F D I A E FP G H P RP V AL BI CC C EI EB EC FI NG TC EL F NE O R → I)
    (s_atom : Atom-F D I A E FP G H P RP V AL BI CC C EI EB EC FI NG TC EL F NE O R → A)
    (s_expr : Expr-F D I A E FP G H P RP V AL BI CC C EI EB EC FI NG TC EL F NE O R → E)
    (s_flat_part : FlatPart-F D I A E FP G H P RP V AL BI CC C EI EB EC FI NG TC EL F NE O R → FP)
    (s_generator : Generator-F D I A E FP G H P RP V AL BI CC C EI EB EC FI NG TC EL F NE O R → G)
    (s_head : Head-F D I A E FP G H P RP V AL BI CC C EI EB EC FI NG TC EL F NE O R → H)
    (s_postfix : Postfix-F D I A E FP G H P RP V AL BI CC C EI EB EC FI NG TC EL F NE O R → P)
    (s_run_part : RunPart-F D I A E FP G H P RP V AL BI CC C EI EB EC FI NG TC EL F NE O R → RP)
    (s_variable : Variable-F D I A E FP G H P RP V AL BI CC C EI EB EC FI NG TC EL F NE O R → V)
    (s_also : Also-F D I A E FP G H P RP V AL BI CC C EI EB EC FI NG TC EL F NE O R → AL)
    (s_block_item : BlockItem-F D I A E FP G H P RP V AL BI CC C EI EB EC FI NG TC EL F NE O R → BI)
    (s_case_clause : CaseClause-F D I A E FP G H P RP V AL BI CC C EI EB EC FI NG TC EL F NE O R
    → CC)
    (s_catch : Catch-F D I A E FP G H P RP V AL BI CC C EI EB EC FI NG TC EL F NE O R → C)
    (s_elif : Elif-F D I A E FP G H P RP V AL BI CC C EI EB EC FI NG TC EL F NE O R → EI)
    (s_else_block : ElseBlock-F D I A E FP G H P RP V AL BI CC C EI EB EC FI NG TC EL F NE O R → EB)
    (s_else_clause : ElseClause-F D I A E FP G H P RP V AL BI CC C EI EB EC FI NG TC EL F NE O R
    → EC)
    (s_finally : Finally-F D I A E FP G H P RP V AL BI CC C EI EB EC FI NG TC EL F NE O R → FI)
    (s_next_generator : NextGenerator-F D I A E FP G H P RP V AL BI CC C EI EB EC FI NG TC EL F NE O
    R → NG)
    (s_type_clause : TypeClause-F D I A E FP G H P RP V AL BI CC C EI EB EC FI NG TC EL F NE O R
    → TC)
    (s_expr_list : ExprList-F D I A E FP G H P RP V AL BI CC C EI EB EC FI NG TC EL F NE O R → EL)
    (s_flat : Flat-F D I A E FP G H P RP V AL BI CC C EI EB EC FI NG TC EL F NE O R → F)
    (s_next_expr : NextExpr-F D I A E FP G H P RP V AL BI CC C EI EB EC FI NG TC EL F NE O R → NE)
    (s_operand : Operand-F D I A E FP G H P RP V AL BI CC C EI EB EC FI NG TC EL F NE O R → O)
    (s_run : Run-F D I A E FP G H P RP V AL BI CC C EI EB EC FI NG TC EL F NE O R → R)
    (h_delimited : D → D)
    (h_item : I → I)
    (h_atom : A → A)
    (h_expr : E → E)
    (h_flat_part : FP → FP)
    (h_generator : G → G)
    (h_head : H → H)
    (h_postfix : P → P)
    (h_run_part : RP → RP)
    (h_variable : V → V)
    (h_also : AL → AL)
    (h_block_item : BI → BI)
    (h_case_clause : CC → CC)
    (h_catch : C → C)
    (h_elif : EI → EI)
    (h_else_block : EB → EB)
    (h_else_clause : EC → EC)
    (h_finally : FI → FI)
    (h_next_generator : NG → NG)
    (h_type_clause : TC → TC)
    (h_expr_list : EL → EL)
    (h_flat : F → F)
    (h_next_expr : NE → NE)
    (h_operand : O → O)
    (h_run : R → R)
    (meets_delimited : (l : Delimited-F D I A E FP G H P RP V AL BI CC C EI EB EC FI NG TC EL F NE O
    R) → s_delimited
    (delimited_level g
    (map-Delimited D I A E FP G H P RP V AL BI CC C EI EB EC FI NG TC EL F NE O R D I A E FP
    G H P RP V AL BI CC C EI EB EC FI NG TC EL F NE O R h_delimited h_item h_atom h_expr
    h_flat_part h_generator h_head h_postfix h_run_part h_variable h_also h_block_item
    h_case_clause h_catch h_elif h_else_block h_else_clause h_finally h_next_generator
    h_type_clause h_expr_list h_flat h_next_expr h_operand h_run l))
    ≡ h_delimited (s_delimited l))
    (meets_item : (l : Item-F D I A E FP G H P RP V AL BI CC C EI EB EC FI NG TC EL F NE O R)
    → s_item (item_level g
    (map-Item D I A E FP G H P RP V AL BI CC C EI EB EC FI NG TC EL F NE O R D I A E FP G H
    P RP V AL BI CC C EI EB EC FI NG TC EL F NE O R h_delimited h_item h_atom h_expr
    h_flat_part h_generator h_head h_postfix h_run_part h_variable h_also h_block_item
    h_case_clause h_catch h_elif h_else_block h_else_clause h_finally h_next_generator
    h_type_clause h_expr_list h_flat h_next_expr h_operand h_run l)) ≡ h_item (s_item l))
    (meets_atom : (l : Atom-F D I A E FP G H P RP V AL BI CC C EI EB EC FI NG TC EL F NE O R)
    → s_atom (atom_level g
    (map-Atom D I A E FP G H P RP V AL BI CC C EI EB EC FI NG TC EL F NE O R D I A E FP G H
    P RP V AL BI CC C EI EB EC FI NG TC EL F NE O R h_delimited h_item h_atom h_expr
    h_flat_part h_generator h_head h_postfix h_run_part h_variable h_also h_block_item
    h_case_clause h_catch h_elif h_else_block h_else_clause h_finally h_next_generator
    h_type_clause h_expr_list h_flat h_next_expr h_operand h_run l)) ≡ h_atom (s_atom l))
    (meets_expr : (l : Expr-F D I A E FP G H P RP V AL BI CC C EI EB EC FI NG TC EL F NE O R)
    → s_expr (expr_level g
    (map-Expr D I A E FP G H P RP V AL BI CC C EI EB EC FI NG TC EL F NE O R D I A E FP G H
    P RP V AL BI CC C EI EB EC FI NG TC EL F NE O R h_delimited h_item h_atom h_expr
    h_flat_part h_generator h_head h_postfix h_run_part h_variable h_also h_block_item
    h_case_clause h_catch h_elif h_else_block h_else_clause h_finally h_next_generator
    h_type_clause h_expr_list h_flat h_next_expr h_operand h_run l)) ≡ h_expr (s_expr l))
    (meets_flat_part : (l : FlatPart-F D I A E FP G H P RP V AL BI CC C EI EB EC FI NG TC EL F NE O
    R) → s_flat_part
    (flat_part_level g
    (map-FlatPart D I A E FP G H P RP V AL BI CC C EI EB EC FI NG TC EL F NE O R D I A E FP
    G H P RP V AL BI CC C EI EB EC FI NG TC EL F NE O R h_delimited h_item h_atom h_expr
    h_flat_part h_generator h_head h_postfix h_run_part h_variable h_also h_block_item
    h_case_clause h_catch h_elif h_else_block h_else_clause h_finally h_next_generator
    h_type_clause h_expr_list h_flat h_next_expr h_operand h_run l))
    ≡ h_flat_part (s_flat_part l))
    (meets_generator : (l : Generator-F D I A E FP G H P RP V AL BI CC C EI EB EC FI NG TC EL F NE O
    R) → s_generator
    (generator_level g
    (map-Generator D I A E FP G H P RP V AL BI CC C EI EB EC FI NG TC EL F NE O R D I A E FP
    G H P RP V AL BI CC C EI EB EC FI NG TC EL F NE O R h_delimited h_item h_atom h_expr
    h_flat_part h_generator h_head h_postfix h_run_part h_variable h_also h_block_item
    h_case_clause h_catch h_elif h_else_block h_else_clause h_finally h_next_generator
    h_type_clause h_expr_list h_flat h_next_expr h_operand h_run l))
    ≡ h_generator (s_generator l))
    (meets_head : (l : Head-F D I A E FP G H P RP V AL BI CC C EI EB EC FI NG TC EL F NE O R)
    → s_head (head_level g
    (map-Head D I A E FP G H P RP V AL BI CC C EI EB EC FI NG TC EL F NE O R D I A E FP G H
    P RP V AL BI CC C EI EB EC FI NG TC EL F NE O R h_delimited h_item h_atom h_expr
    h_flat_part h_generator h_head h_postfix h_run_part h_variable h_also h_block_item
    h_case_clause h_catch h_elif h_else_block h_else_clause h_finally h_next_generator
    h_type_clause h_expr_list h_flat h_next_expr h_operand h_run l)) ≡ h_head (s_head l))
    (meets_postfix : (l : Postfix-F D I A E FP G H P RP V AL BI CC C EI EB EC FI NG TC EL F NE O R)
    → s_postfix
    (postfix_level g
    (map-Postfix D I A E FP G H P RP V AL BI CC C EI EB EC FI NG TC EL F NE O R D I A E FP G
    H P RP V AL BI CC C EI EB EC FI NG TC EL F NE O R h_delimited h_item h_atom h_expr
    h_flat_part h_generator h_head h_postfix h_run_part h_variable h_also h_block_item
    h_case_clause h_catch h_elif h_else_block h_else_clause h_finally h_next_generator
    h_type_clause h_expr_list h_flat h_next_expr h_operand h_run l))
    ≡ h_postfix (s_postfix l))
    (meets_run_part : (l : RunPart-F D I A E FP G H P RP V AL BI CC C EI EB EC FI NG TC EL F NE O R)
    → s_run_part
    (run_part_level g
    (map-RunPart D I A E FP G H P RP V AL BI CC C EI EB EC FI NG TC EL F NE O R D I A E FP G
    H P RP V AL BI CC C EI EB EC FI NG TC EL F NE O R h_delimited h_item h_atom h_expr
    h_flat_part h_generator h_head h_postfix h_run_part h_variable h_also h_block_item
    h_case_clause h_catch h_elif h_else_block h_else_clause h_finally h_next_generator
    h_type_clause h_expr_list h_flat h_next_expr h_operand h_run l))
    ≡ h_run_part (s_run_part l))
    (meets_variable : (l : Variable-F D I A E FP G H P RP V AL BI CC C EI EB EC FI NG TC EL F NE O
    R) → s_variable
    (variable_level g
    (map-Variable D I A E FP G H P RP V AL BI CC C EI EB EC FI NG TC EL F NE O R D I A E FP
    G H P RP V AL BI CC C EI EB EC FI NG TC EL F NE O R h_delimited h_item h_atom h_expr
    h_flat_part h_generator h_head h_postfix h_run_part h_variable h_also h_block_item
    h_case_clause h_catch h_elif h_else_block h_else_clause h_finally h_next_generator
    h_type_clause h_expr_list h_flat h_next_expr h_operand h_run l))
    ≡ h_variable (s_variable l))
    (meets_also : (l : Also-F D I A E FP G H P RP V AL BI CC C EI EB EC FI NG TC EL F NE O R)
    → s_also (also_level g
    (map-Also D I A E FP G H P RP V AL BI CC C EI EB EC FI NG TC EL F NE O R D I A E FP G H
    P RP V AL BI CC C EI EB EC FI NG TC EL F NE O R h_delimited h_item h_atom h_expr
    h_flat_part h_generator h_head h_postfix h_run_part h_variable h_also h_block_item
    h_case_clause h_catch h_elif h_else_block h_else_clause h_finally h_next_generator
    h_type_clause h_expr_list h_flat h_next_expr h_operand h_run l)) ≡ h_also (s_also l))
    (meets_block_item : (l : BlockItem-F D I A E FP G H P RP V AL BI CC C EI EB EC FI NG TC EL F NE
    O R) → s_block_item
    (block_item_level g
    (map-BlockItem D I A E FP G H P RP V AL BI CC C EI EB EC FI NG TC EL F NE O R D I A E FP
    G H P RP V AL BI CC C EI EB EC FI NG TC EL F NE O R h_delimited h_item h_atom h_expr
    h_flat_part h_generator h_head h_postfix h_run_part h_variable h_also h_block_item
    h_case_clause h_catch h_elif h_else_block h_else_clause h_finally h_next_generator
    h_type_clause h_expr_list h_flat h_next_expr h_operand h_run l))
    ≡ h_block_item (s_block_item l))
    (meets_case_clause : (l : CaseClause-F D I A E FP G H P RP V AL BI CC C EI EB EC FI NG TC EL F
    NE O R) → s_case_clause
    (case_clause_level g
    (map-CaseClause D I A E FP G H P RP V AL BI CC C EI EB EC FI NG TC EL F NE O R D I A E
    FP G H P RP V AL BI CC C EI EB EC FI NG TC EL F NE O R h_delimited h_item h_atom h_expr
    h_flat_part h_generator h_head h_postfix h_run_part h_variable h_also h_block_item
    h_case_clause h_catch h_elif h_else_block h_else_clause h_finally h_next_generator
    h_type_clause h_expr_list h_flat h_next_expr h_operand h_run l))
    ≡ h_case_clause (s_case_clause l))
    (meets_catch : (l : Catch-F D I A E FP G H P RP V AL BI CC C EI EB EC FI NG TC EL F NE O R)
    → s_catch
    (catch_level g
    (map-Catch D I A E FP G H P RP V AL BI CC C EI EB EC FI NG TC EL F NE O R D I A E FP G H
    P RP V AL BI CC C EI EB EC FI NG TC EL F NE O R h_delimited h_item h_atom h_expr
    h_flat_part h_generator h_head h_postfix h_run_part h_variable h_also h_block_item
    h_case_clause h_catch h_elif h_else_block h_else_clause h_finally h_next_generator
    h_type_clause h_expr_list h_flat h_next_expr h_operand h_run l)) ≡ h_catch (s_catch l))
    (meets_elif : (l : Elif-F D I A E FP G H P RP V AL BI CC C EI EB EC FI NG TC EL F NE O R)
    → s_elif (elif_level g
    (map-Elif D I A E FP G H P RP V AL BI CC C EI EB EC FI NG TC EL F NE O R D I A E FP G H
    P RP V AL BI CC C EI EB EC FI NG TC EL F NE O R h_delimited h_item h_atom h_expr
    h_flat_part h_generator h_head h_postfix h_run_part h_variable h_also h_block_item
    h_case_clause h_catch h_elif h_else_block h_else_clause h_finally h_next_generator
    h_type_clause h_expr_list h_flat h_next_expr h_operand h_run l)) ≡ h_elif (s_elif l))
    (meets_else_block : (l : ElseBlock-F D I A E FP G H P RP V AL BI CC C EI EB EC FI NG TC EL F NE
    O R) → s_else_block
    (else_block_level g
    (map-ElseBlock D I A E FP G H P RP V AL BI CC C EI EB EC FI NG TC EL F NE O R D I A E FP
    G H P RP V AL BI CC C EI EB EC FI NG TC EL F NE O R h_delimited h_item h_atom h_expr
    h_flat_part h_generator h_head h_postfix h_run_part h_variable h_also h_block_item
    h_case_clause h_catch h_elif h_else_block h_else_clause h_finally h_next_generator
    h_type_clause h_expr_list h_flat h_next_expr h_operand h_run l))
    ≡ h_else_block (s_else_block l))
    (meets_else_clause : (l : ElseClause-F D I A E FP G H P RP V AL BI CC C EI EB EC FI NG TC EL F
    NE O R) → s_else_clause
    (else_clause_level g
    (map-ElseClause D I A E FP G H P RP V AL BI CC C EI EB EC FI NG TC EL F NE O R D I A E
    FP G H P RP V AL BI CC C EI EB EC FI NG TC EL F NE O R h_delimited h_item h_atom h_expr
    h_flat_part h_generator h_head h_postfix h_run_part h_variable h_also h_block_item
    h_case_clause h_catch h_elif h_else_block h_else_clause h_finally h_next_generator
    h_type_clause h_expr_list h_flat h_next_expr h_operand h_run l))
    ≡ h_else_clause (s_else_clause l))
    (meets_finally : (l : Finally-F D I A E FP G H P RP V AL BI CC C EI EB EC FI NG TC EL F NE O R)
    → s_finally
    (finally_level g
    (map-Finally D I A E FP G H P RP V AL BI CC C EI EB EC FI NG TC EL F NE O R D I A E FP G
    H P RP V AL BI CC C EI EB EC FI NG TC EL F NE O R h_delimited h_item h_atom h_expr
    h_flat_part h_generator h_head h_postfix h_run_part h_variable h_also h_block_item
    h_case_clause h_catch h_elif h_else_block h_else_clause h_finally h_next_generator
    h_type_clause h_expr_list h_flat h_next_expr h_operand h_run l))
    ≡ h_finally (s_finally l))
    (meets_next_generator : (l : NextGenerator-F D I A E FP G H P RP V AL BI CC C EI EB EC FI NG TC
    EL F NE O R)
    → s_next_generator
    (next_generator_level g
    (map-NextGenerator D I A E FP G H P RP V AL BI CC C EI EB EC FI NG TC EL F NE O R D I A
    E FP G H P RP V AL BI CC C EI EB EC FI NG TC EL F NE O R h_delimited h_item h_atom
    h_expr h_flat_part h_generator h_head h_postfix h_run_part h_variable h_also
    h_block_item h_case_clause h_catch h_elif h_else_block h_else_clause h_finally
    h_next_generator h_type_clause h_expr_list h_flat h_next_expr h_operand h_run l))
    ≡ h_next_generator (s_next_generator l))
    (meets_type_clause : (l : TypeClause-F D I A E FP G H P RP V AL BI CC C EI EB EC FI NG TC EL F
    NE O R) → s_type_clause
    (type_clause_level g
    (map-TypeClause D I A E FP G H P RP V AL BI CC C EI EB EC FI NG TC EL F NE O R D I A E
    FP G H P RP V AL BI CC C EI EB EC FI NG TC EL F NE O R h_delimited h_item h_atom h_expr
    h_flat_part h_generator h_head h_postfix h_run_part h_variable h_also h_block_item
    h_case_clause h_catch h_elif h_else_block h_else_clause h_finally h_next_generator
    h_type_clause h_expr_list h_flat h_next_expr h_operand h_run l))
    ≡ h_type_clause (s_type_clause l))
    (meets_expr_list : (l : ExprList-F D I A E FP G H P RP V AL BI CC C EI EB EC FI NG TC EL F NE O
    R) → s_expr_list
    (expr_list_level g
    (map-ExprList D I A E FP G H P RP V AL BI CC C EI EB EC FI NG TC EL F NE O R D I A E FP
    G H P RP V AL BI CC C EI EB EC FI NG TC EL F NE O R h_delimited h_item h_atom h_expr
    h_flat_part h_generator h_head h_postfix h_run_part h_variable h_also h_block_item
    h_case_clause h_catch h_elif h_else_block h_else_clause h_finally h_next_generator
    h_type_clause h_expr_list h_flat h_next_expr h_operand h_run l))
    ≡ h_expr_list (s_expr_list l))
    (meets_flat : (l : Flat-F D I A E FP G H P RP V AL BI CC C EI EB EC FI NG TC EL F NE O R)
    → s_flat (flat_level g
    (map-Flat D I A E FP G H P RP V AL BI CC C EI EB EC FI NG TC EL F NE O R D I A E FP G H
    P RP V AL BI CC C EI EB EC FI NG TC EL F NE O R h_delimited h_item h_atom h_expr
    h_flat_part h_generator h_head h_postfix h_run_part h_variable h_also h_block_item
    h_case_clause h_catch h_elif h_else_block h_else_clause h_finally h_next_generator
    h_type_clause h_expr_list h_flat h_next_expr h_operand h_run l)) ≡ h_flat (s_flat l))
    (meets_next_expr : (l : NextExpr-F D I A E FP G H P RP V AL BI CC C EI EB EC FI NG TC EL F NE O
    R) → s_next_expr
    (next_expr_level g
    (map-NextExpr D I A E FP G H P RP V AL BI CC C EI EB EC FI NG TC EL F NE O R D I A E FP
    G H P RP V AL BI CC C EI EB EC FI NG TC EL F NE O R h_delimited h_item h_atom h_expr
    h_flat_part h_generator h_head h_postfix h_run_part h_variable h_also h_block_item
    h_case_clause h_catch h_elif h_else_block h_else_clause h_finally h_next_generator
    h_type_clause h_expr_list h_flat h_next_expr h_operand h_run l))
    ≡ h_next_expr (s_next_expr l))
    (meets_operand : (l : Operand-F D I A E FP G H P RP V AL BI CC C EI EB EC FI NG TC EL F NE O R)
    → s_operand
    (operand_level g
    (map-Operand D I A E FP G H P RP V AL BI CC C EI EB EC FI NG TC EL F NE O R D I A E FP G
    H P RP V AL BI CC C EI EB EC FI NG TC EL F NE O R h_delimited h_item h_atom h_expr
    h_flat_part h_generator h_head h_postfix h_run_part h_variable h_also h_block_item
    h_case_clause h_catch h_elif h_else_block h_else_clause h_finally h_next_generator
    h_type_clause h_expr_list h_flat h_next_expr h_operand h_run l))
    ≡ h_operand (s_operand l))
    (meets_run : (l : Run-F D I A E FP G H P RP V AL BI CC C EI EB EC FI NG TC EL F NE O R)
    → s_run (run_level g
    (map-Run D I A E FP G H P RP V AL BI CC C EI EB EC FI NG TC EL F NE O R D I A E FP G H P
    RP V AL BI CC C EI EB EC FI NG TC EL F NE O R h_delimited h_item h_atom h_expr
    h_flat_part h_generator h_head h_postfix h_run_part h_variable h_also h_block_item
    h_case_clause h_catch h_elif h_else_block h_else_clause h_finally h_next_generator
    h_type_clause h_expr_list h_flat h_next_expr h_operand h_run l))
    ≡ h_run (s_run l)) where
  -- a form that ends with `end`, told
  unfoldable told_delimited : Delimited → D
  told_delimited =
      fold-Delimited D I A E FP G H P RP V AL BI CC C EI EB EC FI NG TC EL F NE O R s_delimited
      s_item s_atom s_expr s_flat_part s_generator s_head s_postfix s_run_part s_variable s_also
      s_block_item s_case_clause s_catch s_elif s_else_block s_else_clause s_finally
      s_next_generator s_type_clause s_expr_list s_flat s_next_expr s_operand s_run

  -- a form that ends with `end`, of which it is so
  abbrev MetDelimited : Type 0
  MetDelimited = (t : Delimited)
      × (told_delimited (moved_delimited g t) ≡ h_delimited (told_delimited t))

  -- an item of a block, told
  unfoldable told_item : Item → I
  told_item =
      fold-Item D I A E FP G H P RP V AL BI CC C EI EB EC FI NG TC EL F NE O R s_delimited s_item
      s_atom s_expr s_flat_part s_generator s_head s_postfix s_run_part s_variable s_also
      s_block_item s_case_clause s_catch s_elif s_else_block s_else_clause s_finally
      s_next_generator s_type_clause s_expr_list s_flat s_next_expr s_operand s_run

  -- an item of a block, of which it is so
  abbrev MetItem : Type 0
  MetItem = (t : Item) × (told_item (moved_item g t) ≡ h_item (told_item t))

  -- an atom, told
  unfoldable told_atom : Atom → A
  told_atom =
      fold-Atom D I A E FP G H P RP V AL BI CC C EI EB EC FI NG TC EL F NE O R s_delimited s_item
      s_atom s_expr s_flat_part s_generator s_head s_postfix s_run_part s_variable s_also
      s_block_item s_case_clause s_catch s_elif s_else_block s_else_clause s_finally
      s_next_generator s_type_clause s_expr_list s_flat s_next_expr s_operand s_run

  -- an atom, of which it is so
  abbrev MetAtom : Type 0
  MetAtom = (t : Atom) × (told_atom (moved_atom g t) ≡ h_atom (told_atom t))

  -- an expression, told
  unfoldable told_expr : Expr → E
  told_expr =
      fold-Expr D I A E FP G H P RP V AL BI CC C EI EB EC FI NG TC EL F NE O R s_delimited s_item
      s_atom s_expr s_flat_part s_generator s_head s_postfix s_run_part s_variable s_also
      s_block_item s_case_clause s_catch s_elif s_else_block s_else_clause s_finally
      s_next_generator s_type_clause s_expr_list s_flat s_next_expr s_operand s_run

  -- an expression, of which it is so
  abbrev MetExpr : Type 0
  MetExpr = (t : Expr) × (told_expr (moved_expr g t) ≡ h_expr (told_expr t))

  -- a further part of a flat expression, told
  unfoldable told_flat_part : FlatPart → FP
  told_flat_part =
      fold-FlatPart D I A E FP G H P RP V AL BI CC C EI EB EC FI NG TC EL F NE O R s_delimited
      s_item s_atom s_expr s_flat_part s_generator s_head s_postfix s_run_part s_variable s_also
      s_block_item s_case_clause s_catch s_elif s_else_block s_else_clause s_finally
      s_next_generator s_type_clause s_expr_list s_flat s_next_expr s_operand s_run

  -- a further part of a flat expression, of which it is so
  abbrev MetFlatPart : Type 0
  MetFlatPart = (t : FlatPart)
      × (told_flat_part (moved_flat_part g t) ≡ h_flat_part (told_flat_part t))

  -- a generator, told
  unfoldable told_generator : Generator → G
  told_generator =
      fold-Generator D I A E FP G H P RP V AL BI CC C EI EB EC FI NG TC EL F NE O R s_delimited
      s_item s_atom s_expr s_flat_part s_generator s_head s_postfix s_run_part s_variable s_also
      s_block_item s_case_clause s_catch s_elif s_else_block s_else_clause s_finally
      s_next_generator s_type_clause s_expr_list s_flat s_next_expr s_operand s_run

  -- a generator, of which it is so
  abbrev MetGenerator : Type 0
  MetGenerator = (t : Generator)
      × (told_generator (moved_generator g t) ≡ h_generator (told_generator t))

  -- a head, told
  unfoldable told_head : Head → H
  told_head =
      fold-Head D I A E FP G H P RP V AL BI CC C EI EB EC FI NG TC EL F NE O R s_delimited s_item
      s_atom s_expr s_flat_part s_generator s_head s_postfix s_run_part s_variable s_also
      s_block_item s_case_clause s_catch s_elif s_else_block s_else_clause s_finally
      s_next_generator s_type_clause s_expr_list s_flat s_next_expr s_operand s_run

  -- a head, of which it is so
  abbrev MetHead : Type 0
  MetHead = (t : Head) × (told_head (moved_head g t) ≡ h_head (told_head t))

  -- a postfix, told
  unfoldable told_postfix : Postfix → P
  told_postfix =
      fold-Postfix D I A E FP G H P RP V AL BI CC C EI EB EC FI NG TC EL F NE O R s_delimited s_item
      s_atom s_expr s_flat_part s_generator s_head s_postfix s_run_part s_variable s_also
      s_block_item s_case_clause s_catch s_elif s_else_block s_else_clause s_finally
      s_next_generator s_type_clause s_expr_list s_flat s_next_expr s_operand s_run

  -- a postfix, of which it is so
  abbrev MetPostfix : Type 0
  MetPostfix = (t : Postfix) × (told_postfix (moved_postfix g t) ≡ h_postfix (told_postfix t))

  -- a further part of a run, told
  unfoldable told_run_part : RunPart → RP
  told_run_part =
      fold-RunPart D I A E FP G H P RP V AL BI CC C EI EB EC FI NG TC EL F NE O R s_delimited s_item
      s_atom s_expr s_flat_part s_generator s_head s_postfix s_run_part s_variable s_also
      s_block_item s_case_clause s_catch s_elif s_else_block s_else_clause s_finally
      s_next_generator s_type_clause s_expr_list s_flat s_next_expr s_operand s_run

  -- a further part of a run, of which it is so
  abbrev MetRunPart : Type 0
  MetRunPart = (t : RunPart) × (told_run_part (moved_run_part g t) ≡ h_run_part (told_run_part t))

  -- a declaration of a variable, told
  unfoldable told_variable : Variable → V
  told_variable =
      fold-Variable D I A E FP G H P RP V AL BI CC C EI EB EC FI NG TC EL F NE O R s_delimited
      s_item s_atom s_expr s_flat_part s_generator s_head s_postfix s_run_part s_variable s_also
      s_block_item s_case_clause s_catch s_elif s_else_block s_else_clause s_finally
      s_next_generator s_type_clause s_expr_list s_flat s_next_expr s_operand s_run

  -- a declaration of a variable, of which it is so
  abbrev MetVariable : Type 0
  MetVariable = (t : Variable) × (told_variable (moved_variable g t) ≡ h_variable (told_variable t))

  -- an `also` with its block, told
  unfoldable told_also : Also → AL
  told_also =
      fold-Also D I A E FP G H P RP V AL BI CC C EI EB EC FI NG TC EL F NE O R s_delimited s_item
      s_atom s_expr s_flat_part s_generator s_head s_postfix s_run_part s_variable s_also
      s_block_item s_case_clause s_catch s_elif s_else_block s_else_clause s_finally
      s_next_generator s_type_clause s_expr_list s_flat s_next_expr s_operand s_run

  -- an `also` with its block, of which it is so
  abbrev MetAlso : Type 0
  MetAlso = (t : Also) × (told_also (moved_also g t) ≡ h_also (told_also t))

  -- an item of a block with its `;`, told
  unfoldable told_block_item : BlockItem → BI
  told_block_item =
      fold-BlockItem D I A E FP G H P RP V AL BI CC C EI EB EC FI NG TC EL F NE O R s_delimited
      s_item s_atom s_expr s_flat_part s_generator s_head s_postfix s_run_part s_variable s_also
      s_block_item s_case_clause s_catch s_elif s_else_block s_else_clause s_finally
      s_next_generator s_type_clause s_expr_list s_flat s_next_expr s_operand s_run

  -- an item of a block with its `;`, of which it is so
  abbrev MetBlockItem : Type 0
  MetBlockItem = (t : BlockItem)
      × (told_block_item (moved_block_item g t) ≡ h_block_item (told_block_item t))

  -- a clause of a `case`, told
  unfoldable told_case_clause : CaseClause → CC
  told_case_clause =
      fold-CaseClause D I A E FP G H P RP V AL BI CC C EI EB EC FI NG TC EL F NE O R s_delimited
      s_item s_atom s_expr s_flat_part s_generator s_head s_postfix s_run_part s_variable s_also
      s_block_item s_case_clause s_catch s_elif s_else_block s_else_clause s_finally
      s_next_generator s_type_clause s_expr_list s_flat s_next_expr s_operand s_run

  -- a clause of a `case`, of which it is so
  abbrev MetCaseClause : Type 0
  MetCaseClause = (t : CaseClause)
      × (told_case_clause (moved_case_clause g t) ≡ h_case_clause (told_case_clause t))

  -- a `catch`, told
  unfoldable told_catch : Catch → C
  told_catch =
      fold-Catch D I A E FP G H P RP V AL BI CC C EI EB EC FI NG TC EL F NE O R s_delimited s_item
      s_atom s_expr s_flat_part s_generator s_head s_postfix s_run_part s_variable s_also
      s_block_item s_case_clause s_catch s_elif s_else_block s_else_clause s_finally
      s_next_generator s_type_clause s_expr_list s_flat s_next_expr s_operand s_run

  -- a `catch`, of which it is so
  abbrev MetCatch : Type 0
  MetCatch = (t : Catch) × (told_catch (moved_catch g t) ≡ h_catch (told_catch t))

  -- an `elif`, told
  unfoldable told_elif : Elif → EI
  told_elif =
      fold-Elif D I A E FP G H P RP V AL BI CC C EI EB EC FI NG TC EL F NE O R s_delimited s_item
      s_atom s_expr s_flat_part s_generator s_head s_postfix s_run_part s_variable s_also
      s_block_item s_case_clause s_catch s_elif s_else_block s_else_clause s_finally
      s_next_generator s_type_clause s_expr_list s_flat s_next_expr s_operand s_run

  -- an `elif`, of which it is so
  abbrev MetElif : Type 0
  MetElif = (t : Elif) × (told_elif (moved_elif g t) ≡ h_elif (told_elif t))

  -- the `else` of an `if`, told
  unfoldable told_else_block : ElseBlock → EB
  told_else_block =
      fold-ElseBlock D I A E FP G H P RP V AL BI CC C EI EB EC FI NG TC EL F NE O R s_delimited
      s_item s_atom s_expr s_flat_part s_generator s_head s_postfix s_run_part s_variable s_also
      s_block_item s_case_clause s_catch s_elif s_else_block s_else_clause s_finally
      s_next_generator s_type_clause s_expr_list s_flat s_next_expr s_operand s_run

  -- the `else` of an `if`, of which it is so
  abbrev MetElseBlock : Type 0
  MetElseBlock = (t : ElseBlock)
      × (told_else_block (moved_else_block g t) ≡ h_else_block (told_else_block t))

  -- the `else` of a `case` or `typecase`, told
  unfoldable told_else_clause : ElseClause → EC
  told_else_clause =
      fold-ElseClause D I A E FP G H P RP V AL BI CC C EI EB EC FI NG TC EL F NE O R s_delimited
      s_item s_atom s_expr s_flat_part s_generator s_head s_postfix s_run_part s_variable s_also
      s_block_item s_case_clause s_catch s_elif s_else_block s_else_clause s_finally
      s_next_generator s_type_clause s_expr_list s_flat s_next_expr s_operand s_run

  -- the `else` of a `case` or `typecase`, of which it is so
  abbrev MetElseClause : Type 0
  MetElseClause = (t : ElseClause)
      × (told_else_clause (moved_else_clause g t) ≡ h_else_clause (told_else_clause t))

  -- a `finally`, told
  unfoldable told_finally : Finally → FI
  told_finally =
      fold-Finally D I A E FP G H P RP V AL BI CC C EI EB EC FI NG TC EL F NE O R s_delimited s_item
      s_atom s_expr s_flat_part s_generator s_head s_postfix s_run_part s_variable s_also
      s_block_item s_case_clause s_catch s_elif s_else_block s_else_clause s_finally
      s_next_generator s_type_clause s_expr_list s_flat s_next_expr s_operand s_run

  -- a `finally`, of which it is so
  abbrev MetFinally : Type 0
  MetFinally = (t : Finally) × (told_finally (moved_finally g t) ≡ h_finally (told_finally t))

  -- a further generator of a `for`, told
  unfoldable told_next_generator : NextGenerator → NG
  told_next_generator =
      fold-NextGenerator D I A E FP G H P RP V AL BI CC C EI EB EC FI NG TC EL F NE O R s_delimited
      s_item s_atom s_expr s_flat_part s_generator s_head s_postfix s_run_part s_variable s_also
      s_block_item s_case_clause s_catch s_elif s_else_block s_else_clause s_finally
      s_next_generator s_type_clause s_expr_list s_flat s_next_expr s_operand s_run

  -- a further generator of a `for`, of which it is so
  abbrev MetNextGenerator : Type 0
  MetNextGenerator = (t : NextGenerator)
      × (told_next_generator (moved_next_generator g t) ≡ h_next_generator (told_next_generator t))

  -- a clause of a `typecase` or `catch`, told
  unfoldable told_type_clause : TypeClause → TC
  told_type_clause =
      fold-TypeClause D I A E FP G H P RP V AL BI CC C EI EB EC FI NG TC EL F NE O R s_delimited
      s_item s_atom s_expr s_flat_part s_generator s_head s_postfix s_run_part s_variable s_also
      s_block_item s_case_clause s_catch s_elif s_else_block s_else_clause s_finally
      s_next_generator s_type_clause s_expr_list s_flat s_next_expr s_operand s_run

  -- a clause of a `typecase` or `catch`, of which it is so
  abbrev MetTypeClause : Type 0
  MetTypeClause = (t : TypeClause)
      × (told_type_clause (moved_type_clause g t) ≡ h_type_clause (told_type_clause t))

  -- a list of expressions, told
  unfoldable told_expr_list : ExprList → EL
  told_expr_list =
      fold-ExprList D I A E FP G H P RP V AL BI CC C EI EB EC FI NG TC EL F NE O R s_delimited
      s_item s_atom s_expr s_flat_part s_generator s_head s_postfix s_run_part s_variable s_also
      s_block_item s_case_clause s_catch s_elif s_else_block s_else_clause s_finally
      s_next_generator s_type_clause s_expr_list s_flat s_next_expr s_operand s_run

  -- a list of expressions, of which it is so
  abbrev MetExprList : Type 0
  MetExprList = (t : ExprList)
      × (told_expr_list (moved_expr_list g t) ≡ h_expr_list (told_expr_list t))

  -- a flat expression, told
  unfoldable told_flat : Flat → F
  told_flat =
      fold-Flat D I A E FP G H P RP V AL BI CC C EI EB EC FI NG TC EL F NE O R s_delimited s_item
      s_atom s_expr s_flat_part s_generator s_head s_postfix s_run_part s_variable s_also
      s_block_item s_case_clause s_catch s_elif s_else_block s_else_clause s_finally
      s_next_generator s_type_clause s_expr_list s_flat s_next_expr s_operand s_run

  -- a flat expression, of which it is so
  abbrev MetFlat : Type 0
  MetFlat = (t : Flat) × (told_flat (moved_flat g t) ≡ h_flat (told_flat t))

  -- a further expression of a list, told
  unfoldable told_next_expr : NextExpr → NE
  told_next_expr =
      fold-NextExpr D I A E FP G H P RP V AL BI CC C EI EB EC FI NG TC EL F NE O R s_delimited
      s_item s_atom s_expr s_flat_part s_generator s_head s_postfix s_run_part s_variable s_also
      s_block_item s_case_clause s_catch s_elif s_else_block s_else_clause s_finally
      s_next_generator s_type_clause s_expr_list s_flat s_next_expr s_operand s_run

  -- a further expression of a list, of which it is so
  abbrev MetNextExpr : Type 0
  MetNextExpr = (t : NextExpr)
      × (told_next_expr (moved_next_expr g t) ≡ h_next_expr (told_next_expr t))

  -- a unit, told
  unfoldable told_operand : Operand → O
  told_operand =
      fold-Operand D I A E FP G H P RP V AL BI CC C EI EB EC FI NG TC EL F NE O R s_delimited s_item
      s_atom s_expr s_flat_part s_generator s_head s_postfix s_run_part s_variable s_also
      s_block_item s_case_clause s_catch s_elif s_else_block s_else_clause s_finally
      s_next_generator s_type_clause s_expr_list s_flat s_next_expr s_operand s_run

  -- a unit, of which it is so
  abbrev MetOperand : Type 0
  MetOperand = (t : Operand) × (told_operand (moved_operand g t) ≡ h_operand (told_operand t))

  -- a run, told
  unfoldable told_run : Run → R
  told_run =
      fold-Run D I A E FP G H P RP V AL BI CC C EI EB EC FI NG TC EL F NE O R s_delimited s_item
      s_atom s_expr s_flat_part s_generator s_head s_postfix s_run_part s_variable s_also
      s_block_item s_case_clause s_catch s_elif s_else_block s_else_clause s_finally
      s_next_generator s_type_clause s_expr_list s_flat s_next_expr s_operand s_run

  -- a run, of which it is so
  abbrev MetRun : Type 0
  MetRun = (t : Run) × (told_run (moved_run g t) ≡ h_run (told_run t))

  -- a form that ends with `end`
  abbrev telling_delimited : Delimited-F Delimited Item Atom Expr FlatPart Generator Head Postfix
      RunPart Variable Also BlockItem CaseClause Catch Elif ElseBlock ElseClause Finally
      NextGenerator TypeClause ExprList Flat NextExpr Operand Run
      → Delimited-F D I A E FP G H P RP V AL BI CC C EI EB EC FI NG TC EL F NE O R
  telling_delimited =
      map-Delimited Delimited Item Atom Expr FlatPart Generator Head Postfix RunPart Variable Also
      BlockItem CaseClause Catch Elif ElseBlock ElseClause Finally NextGenerator TypeClause ExprList
      Flat NextExpr Operand Run D I A E FP G H P RP V AL BI CC C EI EB EC FI NG TC EL F NE O R
      told_delimited told_item told_atom told_expr told_flat_part told_generator told_head
      told_postfix told_run_part told_variable told_also told_block_item told_case_clause told_catch
      told_elif told_else_block told_else_clause told_finally told_next_generator told_type_clause
      told_expr_list told_flat told_next_expr told_operand told_run

  -- one level of a form that ends with `end`, its parts alone
  abbrev parts_delimited : Delimited-F MetDelimited MetItem MetAtom MetExpr MetFlatPart MetGenerator
      MetHead MetPostfix MetRunPart MetVariable MetAlso MetBlockItem MetCaseClause MetCatch MetElif
      MetElseBlock MetElseClause MetFinally MetNextGenerator MetTypeClause MetExprList MetFlat
      MetNextExpr MetOperand MetRun
      → Delimited-F Delimited Item Atom Expr FlatPart Generator Head Postfix RunPart Variable Also
      BlockItem CaseClause Catch Elif ElseBlock ElseClause Finally NextGenerator TypeClause ExprList
      Flat NextExpr Operand Run
  parts_delimited =
      map-Delimited MetDelimited MetItem MetAtom MetExpr MetFlatPart MetGenerator MetHead MetPostfix
      MetRunPart MetVariable MetAlso MetBlockItem MetCaseClause MetCatch MetElif MetElseBlock
      MetElseClause MetFinally MetNextGenerator MetTypeClause MetExprList MetFlat MetNextExpr
      MetOperand MetRun Delimited Item Atom Expr FlatPart Generator Head Postfix RunPart Variable
      Also BlockItem CaseClause Catch Elif ElseBlock ElseClause Finally NextGenerator TypeClause
      ExprList Flat NextExpr Operand Run (λ e. e.0) (λ e. e.0) (λ e. e.0) (λ e. e.0) (λ e. e.0)
      (λ e. e.0) (λ e. e.0) (λ e. e.0) (λ e. e.0) (λ e. e.0) (λ e. e.0) (λ e. e.0) (λ e. e.0)
      (λ e. e.0) (λ e. e.0) (λ e. e.0) (λ e. e.0) (λ e. e.0) (λ e. e.0) (λ e. e.0) (λ e. e.0)
      (λ e. e.0) (λ e. e.0) (λ e. e.0) (λ e. e.0)

  -- a form that ends with `end`, told by its level
  told_roll_delimited : (l : Delimited-F Delimited Item Atom Expr FlatPart Generator Head Postfix
      RunPart Variable Also BlockItem CaseClause Catch Elif ElseBlock ElseClause Finally
      NextGenerator TypeClause ExprList Flat NextExpr Operand Run)
      → told_delimited (roll-Delimited l) ≡ s_delimited (telling_delimited l)
  unfolding told_delimited told_item told_atom told_expr told_flat_part told_generator told_head
      told_postfix told_run_part told_variable told_also told_block_item told_case_clause told_catch
      told_elif told_else_block told_else_clause told_finally told_next_generator told_type_clause
      told_expr_list told_flat told_next_expr told_operand told_run
  told_roll_delimited l =
      fold-roll-Delimited D I A E FP G H P RP V AL BI CC C EI EB EC FI NG TC EL F NE O R s_delimited
      s_item s_atom s_expr s_flat_part s_generator s_head s_postfix s_run_part s_variable s_also
      s_block_item s_case_clause s_catch s_elif s_else_block s_else_clause s_finally
      s_next_generator s_type_clause s_expr_list s_flat s_next_expr s_operand s_run l

  -- one level of a form that ends with `end`, whose parts meet
  met_delimited : (y : Delimited-F MetDelimited MetItem MetAtom MetExpr MetFlatPart MetGenerator
      MetHead MetPostfix MetRunPart MetVariable MetAlso MetBlockItem MetCaseClause MetCatch
      MetElif MetElseBlock MetElseClause MetFinally MetNextGenerator MetTypeClause MetExprList
      MetFlat MetNextExpr MetOperand MetRun)
      → telling_delimited (delimited_level g (moving_delimited g (parts_delimited y)))
      ≡ delimited_level g
      (map-Delimited D I A E FP G H P RP V AL BI CC C EI EB EC FI NG TC EL F NE O R D I A E FP G H P
      RP V AL BI CC C EI EB EC FI NG TC EL F NE O R h_delimited h_item h_atom h_expr h_flat_part
      h_generator h_head h_postfix h_run_part h_variable h_also h_block_item h_case_clause
      h_catch h_elif h_else_block h_else_clause h_finally h_next_generator h_type_clause
      h_expr_list h_flat h_next_expr h_operand h_run (telling_delimited (parts_delimited y)))
  met_delimited (Delimited-F.Do at_do block others end) =
      λ i. Delimited-F.Do (moved_spot g at_do)
      (each_met told_block_item (moved_block_item g) h_block_item block i)
      (each_met told_also (moved_also g) h_also others i) (moved_spot g end)
  met_delimited (Delimited-F.If at_if condition then block elifs None end) =
      λ i. Delimited-F.If (moved_spot g at_if) (condition.1 i) (moved_spot g then)
      (each_met told_block_item (moved_block_item g) h_block_item block i)
      (each_met told_elif (moved_elif g) h_elif elifs i) None (moved_spot g end)
  met_delimited (Delimited-F.If at_if condition then block elifs (Some otherwise) end) =
      λ i. Delimited-F.If (moved_spot g at_if) (condition.1 i) (moved_spot g then)
      (each_met told_block_item (moved_block_item g) h_block_item block i)
      (each_met told_elif (moved_elif g) h_elif elifs i) (Some (otherwise.1 i)) (moved_spot g end)
  met_delimited (Delimited-F.While at_while condition at_do block end) =
      λ i. Delimited-F.While (moved_spot g at_while) (condition.1 i) (moved_spot g at_do)
      (each_met told_block_item (moved_block_item g) h_block_item block i) (moved_spot g end)
  met_delimited (Delimited-F.For at_for generator others at_do block end) =
      λ i. Delimited-F.For (moved_spot g at_for) (generator.1 i)
      (each_met told_next_generator (moved_next_generator g) h_next_generator others i)
      (moved_spot g at_do) (each_met told_block_item (moved_block_item g) h_block_item block i)
      (moved_spot g end)
  met_delimited (Delimited-F.Case at_case subject of clauses None end) =
      λ i. Delimited-F.Case (moved_spot g at_case) (subject.1 i) (moved_spot g of)
      (each_met told_case_clause (moved_case_clause g) h_case_clause clauses i) None
      (moved_spot g end)
  met_delimited (Delimited-F.Case at_case subject of clauses (Some otherwise) end) =
      λ i. Delimited-F.Case (moved_spot g at_case) (subject.1 i) (moved_spot g of)
      (each_met told_case_clause (moved_case_clause g) h_case_clause clauses i)
      (Some (otherwise.1 i)) (moved_spot g end)
  met_delimited (Delimited-F.Typecase at_typecase name at_equals subject of clauses None end) =
      λ i. Delimited-F.Typecase (moved_spot g at_typecase) (moved_name g name)
      (moved_spot g at_equals) (subject.1 i) (moved_spot g of)
      (each_met told_type_clause (moved_type_clause g) h_type_clause clauses i) None
      (moved_spot g end)
  met_delimited
      (Delimited-F.Typecase at_typecase name at_equals subject of clauses (Some otherwise) end) =
      λ i. Delimited-F.Typecase (moved_spot g at_typecase) (moved_name g name)
      (moved_spot g at_equals) (subject.1 i) (moved_spot g of)
      (each_met told_type_clause (moved_type_clause g) h_type_clause clauses i)
      (Some (otherwise.1 i)) (moved_spot g end)
  met_delimited (Delimited-F.Try at_try block None None end) =
      λ i. Delimited-F.Try (moved_spot g at_try)
      (each_met told_block_item (moved_block_item g) h_block_item block i) None None
      (moved_spot g end)
  met_delimited (Delimited-F.Try at_try block None (Some finally) end) =
      λ i. Delimited-F.Try (moved_spot g at_try)
      (each_met told_block_item (moved_block_item g) h_block_item block i) None (Some (finally.1 i))
      (moved_spot g end)
  met_delimited (Delimited-F.Try at_try block (Some catch) None end) =
      λ i. Delimited-F.Try (moved_spot g at_try)
      (each_met told_block_item (moved_block_item g) h_block_item block i) (Some (catch.1 i)) None
      (moved_spot g end)
  met_delimited (Delimited-F.Try at_try block (Some catch) (Some finally) end) =
      λ i. Delimited-F.Try (moved_spot g at_try)
      (each_met told_block_item (moved_block_item g) h_block_item block i) (Some (catch.1 i))
      (Some (finally.1 i)) (moved_spot g end)

  -- an item of a block
  abbrev telling_item : Item-F Delimited Item Atom Expr FlatPart Generator Head Postfix RunPart
      Variable Also BlockItem CaseClause Catch Elif ElseBlock ElseClause Finally NextGenerator
      TypeClause ExprList Flat NextExpr Operand Run
      → Item-F D I A E FP G H P RP V AL BI CC C EI EB EC FI NG TC EL F NE O R
  telling_item =
      map-Item Delimited Item Atom Expr FlatPart Generator Head Postfix RunPart Variable Also
      BlockItem CaseClause Catch Elif ElseBlock ElseClause Finally NextGenerator TypeClause ExprList
      Flat NextExpr Operand Run D I A E FP G H P RP V AL BI CC C EI EB EC FI NG TC EL F NE O R
      told_delimited told_item told_atom told_expr told_flat_part told_generator told_head
      told_postfix told_run_part told_variable told_also told_block_item told_case_clause told_catch
      told_elif told_else_block told_else_clause told_finally told_next_generator told_type_clause
      told_expr_list told_flat told_next_expr told_operand told_run

  -- one level of an item of a block, its parts alone
  abbrev parts_item : Item-F MetDelimited MetItem MetAtom MetExpr MetFlatPart MetGenerator MetHead
      MetPostfix MetRunPart MetVariable MetAlso MetBlockItem MetCaseClause MetCatch MetElif
      MetElseBlock MetElseClause MetFinally MetNextGenerator MetTypeClause MetExprList MetFlat
      MetNextExpr MetOperand MetRun
      → Item-F Delimited Item Atom Expr FlatPart Generator Head Postfix RunPart Variable Also
      BlockItem CaseClause Catch Elif ElseBlock ElseClause Finally NextGenerator TypeClause ExprList
      Flat NextExpr Operand Run
  parts_item =
      map-Item MetDelimited MetItem MetAtom MetExpr MetFlatPart MetGenerator MetHead MetPostfix
      MetRunPart MetVariable MetAlso MetBlockItem MetCaseClause MetCatch MetElif MetElseBlock
      MetElseClause MetFinally MetNextGenerator MetTypeClause MetExprList MetFlat MetNextExpr
      MetOperand MetRun Delimited Item Atom Expr FlatPart Generator Head Postfix RunPart Variable
      Also BlockItem CaseClause Catch Elif ElseBlock ElseClause Finally NextGenerator TypeClause
      ExprList Flat NextExpr Operand Run (λ e. e.0) (λ e. e.0) (λ e. e.0) (λ e. e.0) (λ e. e.0)
      (λ e. e.0) (λ e. e.0) (λ e. e.0) (λ e. e.0) (λ e. e.0) (λ e. e.0) (λ e. e.0) (λ e. e.0)
      (λ e. e.0) (λ e. e.0) (λ e. e.0) (λ e. e.0) (λ e. e.0) (λ e. e.0) (λ e. e.0) (λ e. e.0)
      (λ e. e.0) (λ e. e.0) (λ e. e.0) (λ e. e.0)

  -- an item of a block, told by its level
  told_roll_item : (l : Item-F Delimited Item Atom Expr FlatPart Generator Head Postfix RunPart
      Variable Also BlockItem CaseClause Catch Elif ElseBlock ElseClause Finally NextGenerator
      TypeClause ExprList Flat NextExpr Operand Run)
      → told_item (roll-Item l) ≡ s_item (telling_item l)
  unfolding told_delimited told_item told_atom told_expr told_flat_part told_generator told_head
      told_postfix told_run_part told_variable told_also told_block_item told_case_clause told_catch
      told_elif told_else_block told_else_clause told_finally told_next_generator told_type_clause
      told_expr_list told_flat told_next_expr told_operand told_run
  told_roll_item l =
      fold-roll-Item D I A E FP G H P RP V AL BI CC C EI EB EC FI NG TC EL F NE O R s_delimited
      s_item s_atom s_expr s_flat_part s_generator s_head s_postfix s_run_part s_variable s_also
      s_block_item s_case_clause s_catch s_elif s_else_block s_else_clause s_finally
      s_next_generator s_type_clause s_expr_list s_flat s_next_expr s_operand s_run l

  -- one level of an item of a block, whose parts meet
  met_item : (y : Item-F MetDelimited MetItem MetAtom MetExpr MetFlatPart MetGenerator MetHead
      MetPostfix MetRunPart MetVariable MetAlso MetBlockItem MetCaseClause MetCatch MetElif
      MetElseBlock MetElseClause MetFinally MetNextGenerator MetTypeClause MetExprList MetFlat
      MetNextExpr MetOperand MetRun)
      → telling_item (item_level g (moving_item g (parts_item y)))
      ≡ item_level g
      (map-Item D I A E FP G H P RP V AL BI CC C EI EB EC FI NG TC EL F NE O R D I A E FP G H P RP V
      AL BI CC C EI EB EC FI NG TC EL F NE O R h_delimited h_item h_atom h_expr h_flat_part
      h_generator h_head h_postfix h_run_part h_variable h_also h_block_item h_case_clause
      h_catch h_elif h_else_block h_else_clause h_finally h_next_generator h_type_clause
      h_expr_list h_flat h_next_expr h_operand h_run (telling_item (parts_item y)))
  met_item (Item-F.Variable variable) = λ i. Item-F.Variable (variable.1 i)
  met_item (Item-F.Names left first others right at_colon ty at_equals value) =
      λ i. Item-F.Names (moved_spot g left) (moved_name g first) (map (moved_next_name g) others)
      (moved_spot g right) (moved_spot g at_colon) (moved_type g ty) (moved_spot g at_equals)
      (value.1 i)
  met_item (Item-F.Expr expr) = λ i. Item-F.Expr (expr.1 i)

  -- an atom
  abbrev telling_atom : Atom-F Delimited Item Atom Expr FlatPart Generator Head Postfix RunPart
      Variable Also BlockItem CaseClause Catch Elif ElseBlock ElseClause Finally NextGenerator
      TypeClause ExprList Flat NextExpr Operand Run
      → Atom-F D I A E FP G H P RP V AL BI CC C EI EB EC FI NG TC EL F NE O R
  telling_atom =
      map-Atom Delimited Item Atom Expr FlatPart Generator Head Postfix RunPart Variable Also
      BlockItem CaseClause Catch Elif ElseBlock ElseClause Finally NextGenerator TypeClause ExprList
      Flat NextExpr Operand Run D I A E FP G H P RP V AL BI CC C EI EB EC FI NG TC EL F NE O R
      told_delimited told_item told_atom told_expr told_flat_part told_generator told_head
      told_postfix told_run_part told_variable told_also told_block_item told_case_clause told_catch
      told_elif told_else_block told_else_clause told_finally told_next_generator told_type_clause
      told_expr_list told_flat told_next_expr told_operand told_run

  -- one level of an atom, its parts alone
  abbrev parts_atom : Atom-F MetDelimited MetItem MetAtom MetExpr MetFlatPart MetGenerator MetHead
      MetPostfix MetRunPart MetVariable MetAlso MetBlockItem MetCaseClause MetCatch MetElif
      MetElseBlock MetElseClause MetFinally MetNextGenerator MetTypeClause MetExprList MetFlat
      MetNextExpr MetOperand MetRun
      → Atom-F Delimited Item Atom Expr FlatPart Generator Head Postfix RunPart Variable Also
      BlockItem CaseClause Catch Elif ElseBlock ElseClause Finally NextGenerator TypeClause ExprList
      Flat NextExpr Operand Run
  parts_atom =
      map-Atom MetDelimited MetItem MetAtom MetExpr MetFlatPart MetGenerator MetHead MetPostfix
      MetRunPart MetVariable MetAlso MetBlockItem MetCaseClause MetCatch MetElif MetElseBlock
      MetElseClause MetFinally MetNextGenerator MetTypeClause MetExprList MetFlat MetNextExpr
      MetOperand MetRun Delimited Item Atom Expr FlatPart Generator Head Postfix RunPart Variable
      Also BlockItem CaseClause Catch Elif ElseBlock ElseClause Finally NextGenerator TypeClause
      ExprList Flat NextExpr Operand Run (λ e. e.0) (λ e. e.0) (λ e. e.0) (λ e. e.0) (λ e. e.0)
      (λ e. e.0) (λ e. e.0) (λ e. e.0) (λ e. e.0) (λ e. e.0) (λ e. e.0) (λ e. e.0) (λ e. e.0)
      (λ e. e.0) (λ e. e.0) (λ e. e.0) (λ e. e.0) (λ e. e.0) (λ e. e.0) (λ e. e.0) (λ e. e.0)
      (λ e. e.0) (λ e. e.0) (λ e. e.0) (λ e. e.0)

  -- an atom, told by its level
  told_roll_atom : (l : Atom-F Delimited Item Atom Expr FlatPart Generator Head Postfix RunPart
      Variable Also BlockItem CaseClause Catch Elif ElseBlock ElseClause Finally NextGenerator
      TypeClause ExprList Flat NextExpr Operand Run)
      → told_atom (roll-Atom l) ≡ s_atom (telling_atom l)
  unfolding told_delimited told_item told_atom told_expr told_flat_part told_generator told_head
      told_postfix told_run_part told_variable told_also told_block_item told_case_clause told_catch
      told_elif told_else_block told_else_clause told_finally told_next_generator told_type_clause
      told_expr_list told_flat told_next_expr told_operand told_run
  told_roll_atom l =
      fold-roll-Atom D I A E FP G H P RP V AL BI CC C EI EB EC FI NG TC EL F NE O R s_delimited
      s_item s_atom s_expr s_flat_part s_generator s_head s_postfix s_run_part s_variable s_also
      s_block_item s_case_clause s_catch s_elif s_else_block s_else_clause s_finally
      s_next_generator s_type_clause s_expr_list s_flat s_next_expr s_operand s_run l

  -- one level of an atom, whose parts meet
  met_atom : (y : Atom-F MetDelimited MetItem MetAtom MetExpr MetFlatPart MetGenerator MetHead
      MetPostfix MetRunPart MetVariable MetAlso MetBlockItem MetCaseClause MetCatch MetElif
      MetElseBlock MetElseClause MetFinally MetNextGenerator MetTypeClause MetExprList MetFlat
      MetNextExpr MetOperand MetRun)
      → telling_atom (atom_level g (moving_atom g (parts_atom y)))
      ≡ atom_level g
      (map-Atom D I A E FP G H P RP V AL BI CC C EI EB EC FI NG TC EL F NE O R D I A E FP G H P RP V
      AL BI CC C EI EB EC FI NG TC EL F NE O R h_delimited h_item h_atom h_expr h_flat_part
      h_generator h_head h_postfix h_run_part h_variable h_also h_block_item h_case_clause
      h_catch h_elif h_else_block h_else_clause h_finally h_next_generator h_type_clause
      h_expr_list h_flat h_next_expr h_operand h_run (telling_atom (parts_atom y)))
  met_atom (Atom-F.Name name) = refl
  met_atom (Atom-F.Number value s) = refl
  met_atom (Atom-F.Text text s) = refl
  met_atom (Atom-F.True s) = refl
  met_atom (Atom-F.False s) = refl
  met_atom (Atom-F.Self_ s) = refl
  met_atom (Atom-F.Parens left None right) = refl
  met_atom (Atom-F.Parens left (Some contents) right) =
      λ i. Atom-F.Parens (moved_spot g left) (Some (contents.1 i)) (moved_spot g right)
  met_atom (Atom-F.Delimited form) = λ i. Atom-F.Delimited (form.1 i)
  met_atom (Atom-F.ArrayFill spots element size value) =
      λ i. Atom-F.ArrayFill (moved_fill g spots) (moved_type g element) (size.1 i) (value.1 i)

  -- an expression
  abbrev telling_expr : Expr-F Delimited Item Atom Expr FlatPart Generator Head Postfix RunPart
      Variable Also BlockItem CaseClause Catch Elif ElseBlock ElseClause Finally NextGenerator
      TypeClause ExprList Flat NextExpr Operand Run
      → Expr-F D I A E FP G H P RP V AL BI CC C EI EB EC FI NG TC EL F NE O R
  telling_expr =
      map-Expr Delimited Item Atom Expr FlatPart Generator Head Postfix RunPart Variable Also
      BlockItem CaseClause Catch Elif ElseBlock ElseClause Finally NextGenerator TypeClause ExprList
      Flat NextExpr Operand Run D I A E FP G H P RP V AL BI CC C EI EB EC FI NG TC EL F NE O R
      told_delimited told_item told_atom told_expr told_flat_part told_generator told_head
      told_postfix told_run_part told_variable told_also told_block_item told_case_clause told_catch
      told_elif told_else_block told_else_clause told_finally told_next_generator told_type_clause
      told_expr_list told_flat told_next_expr told_operand told_run

  -- one level of an expression, its parts alone
  abbrev parts_expr : Expr-F MetDelimited MetItem MetAtom MetExpr MetFlatPart MetGenerator MetHead
      MetPostfix MetRunPart MetVariable MetAlso MetBlockItem MetCaseClause MetCatch MetElif
      MetElseBlock MetElseClause MetFinally MetNextGenerator MetTypeClause MetExprList MetFlat
      MetNextExpr MetOperand MetRun
      → Expr-F Delimited Item Atom Expr FlatPart Generator Head Postfix RunPart Variable Also
      BlockItem CaseClause Catch Elif ElseBlock ElseClause Finally NextGenerator TypeClause ExprList
      Flat NextExpr Operand Run
  parts_expr =
      map-Expr MetDelimited MetItem MetAtom MetExpr MetFlatPart MetGenerator MetHead MetPostfix
      MetRunPart MetVariable MetAlso MetBlockItem MetCaseClause MetCatch MetElif MetElseBlock
      MetElseClause MetFinally MetNextGenerator MetTypeClause MetExprList MetFlat MetNextExpr
      MetOperand MetRun Delimited Item Atom Expr FlatPart Generator Head Postfix RunPart Variable
      Also BlockItem CaseClause Catch Elif ElseBlock ElseClause Finally NextGenerator TypeClause
      ExprList Flat NextExpr Operand Run (λ e. e.0) (λ e. e.0) (λ e. e.0) (λ e. e.0) (λ e. e.0)
      (λ e. e.0) (λ e. e.0) (λ e. e.0) (λ e. e.0) (λ e. e.0) (λ e. e.0) (λ e. e.0) (λ e. e.0)
      (λ e. e.0) (λ e. e.0) (λ e. e.0) (λ e. e.0) (λ e. e.0) (λ e. e.0) (λ e. e.0) (λ e. e.0)
      (λ e. e.0) (λ e. e.0) (λ e. e.0) (λ e. e.0)

  -- an expression, told by its level
  told_roll_expr : (l : Expr-F Delimited Item Atom Expr FlatPart Generator Head Postfix RunPart
      Variable Also BlockItem CaseClause Catch Elif ElseBlock ElseClause Finally NextGenerator
      TypeClause ExprList Flat NextExpr Operand Run)
      → told_expr (roll-Expr l) ≡ s_expr (telling_expr l)
  unfolding told_delimited told_item told_atom told_expr told_flat_part told_generator told_head
      told_postfix told_run_part told_variable told_also told_block_item told_case_clause told_catch
      told_elif told_else_block told_else_clause told_finally told_next_generator told_type_clause
      told_expr_list told_flat told_next_expr told_operand told_run
  told_roll_expr l =
      fold-roll-Expr D I A E FP G H P RP V AL BI CC C EI EB EC FI NG TC EL F NE O R s_delimited
      s_item s_atom s_expr s_flat_part s_generator s_head s_postfix s_run_part s_variable s_also
      s_block_item s_case_clause s_catch s_elif s_else_block s_else_clause s_finally
      s_next_generator s_type_clause s_expr_list s_flat s_next_expr s_operand s_run l

  -- one level of an expression, whose parts meet
  met_expr : (y : Expr-F MetDelimited MetItem MetAtom MetExpr MetFlatPart MetGenerator MetHead
      MetPostfix MetRunPart MetVariable MetAlso MetBlockItem MetCaseClause MetCatch MetElif
      MetElseBlock MetElseClause MetFinally MetNextGenerator MetTypeClause MetExprList MetFlat
      MetNextExpr MetOperand MetRun)
      → telling_expr (expr_level g (moving_expr g (parts_expr y)))
      ≡ expr_level g
      (map-Expr D I A E FP G H P RP V AL BI CC C EI EB EC FI NG TC EL F NE O R D I A E FP G H P RP V
      AL BI CC C EI EB EC FI NG TC EL F NE O R h_delimited h_item h_atom h_expr h_flat_part
      h_generator h_head h_postfix h_run_part h_variable h_also h_block_item h_case_clause
      h_catch h_elif h_else_block h_else_clause h_finally h_next_generator h_type_clause
      h_expr_list h_flat h_next_expr h_operand h_run (telling_expr (parts_expr y)))
  met_expr (Expr-F.Flat flat) = λ i. Expr-F.Flat (flat.1 i)
  met_expr (Expr-F.Assign target sign None value) =
      λ i. Expr-F.Assign (target.1 i) (moved_assign g sign) None (value.1 i)
  met_expr (Expr-F.Assign target sign (Some head) value) =
      λ i. Expr-F.Assign (target.1 i) (moved_assign g sign) (Some (head.1 i)) (value.1 i)
  met_expr (Expr-F.Open head body) = λ i. Expr-F.Open (head.1 i) (body.1 i)
  met_expr (Expr-F.OpenAssign head target sign value) =
      λ i. Expr-F.OpenAssign (head.1 i) (target.1 i) (moved_assign g sign) (value.1 i)

  -- a further part of a flat expression
  abbrev telling_flat_part : FlatPart-F Delimited Item Atom Expr FlatPart Generator Head Postfix
      RunPart Variable Also BlockItem CaseClause Catch Elif ElseBlock ElseClause Finally
      NextGenerator TypeClause ExprList Flat NextExpr Operand Run
      → FlatPart-F D I A E FP G H P RP V AL BI CC C EI EB EC FI NG TC EL F NE O R
  telling_flat_part =
      map-FlatPart Delimited Item Atom Expr FlatPart Generator Head Postfix RunPart Variable Also
      BlockItem CaseClause Catch Elif ElseBlock ElseClause Finally NextGenerator TypeClause ExprList
      Flat NextExpr Operand Run D I A E FP G H P RP V AL BI CC C EI EB EC FI NG TC EL F NE O R
      told_delimited told_item told_atom told_expr told_flat_part told_generator told_head
      told_postfix told_run_part told_variable told_also told_block_item told_case_clause told_catch
      told_elif told_else_block told_else_clause told_finally told_next_generator told_type_clause
      told_expr_list told_flat told_next_expr told_operand told_run

  -- one level of a further part of a flat expression, its parts alone
  abbrev parts_flat_part : FlatPart-F MetDelimited MetItem MetAtom MetExpr MetFlatPart MetGenerator
      MetHead MetPostfix MetRunPart MetVariable MetAlso MetBlockItem MetCaseClause MetCatch MetElif
      MetElseBlock MetElseClause MetFinally MetNextGenerator MetTypeClause MetExprList MetFlat
      MetNextExpr MetOperand MetRun
      → FlatPart-F Delimited Item Atom Expr FlatPart Generator Head Postfix RunPart Variable Also
      BlockItem CaseClause Catch Elif ElseBlock ElseClause Finally NextGenerator TypeClause ExprList
      Flat NextExpr Operand Run
  parts_flat_part =
      map-FlatPart MetDelimited MetItem MetAtom MetExpr MetFlatPart MetGenerator MetHead MetPostfix
      MetRunPart MetVariable MetAlso MetBlockItem MetCaseClause MetCatch MetElif MetElseBlock
      MetElseClause MetFinally MetNextGenerator MetTypeClause MetExprList MetFlat MetNextExpr
      MetOperand MetRun Delimited Item Atom Expr FlatPart Generator Head Postfix RunPart Variable
      Also BlockItem CaseClause Catch Elif ElseBlock ElseClause Finally NextGenerator TypeClause
      ExprList Flat NextExpr Operand Run (λ e. e.0) (λ e. e.0) (λ e. e.0) (λ e. e.0) (λ e. e.0)
      (λ e. e.0) (λ e. e.0) (λ e. e.0) (λ e. e.0) (λ e. e.0) (λ e. e.0) (λ e. e.0) (λ e. e.0)
      (λ e. e.0) (λ e. e.0) (λ e. e.0) (λ e. e.0) (λ e. e.0) (λ e. e.0) (λ e. e.0) (λ e. e.0)
      (λ e. e.0) (λ e. e.0) (λ e. e.0) (λ e. e.0)

  -- a further part of a flat expression, told by its level
  told_roll_flat_part : (l : FlatPart-F Delimited Item Atom Expr FlatPart Generator Head Postfix
      RunPart Variable Also BlockItem CaseClause Catch Elif ElseBlock ElseClause Finally
      NextGenerator TypeClause ExprList Flat NextExpr Operand Run)
      → told_flat_part (roll-FlatPart l) ≡ s_flat_part (telling_flat_part l)
  unfolding told_delimited told_item told_atom told_expr told_flat_part told_generator told_head
      told_postfix told_run_part told_variable told_also told_block_item told_case_clause told_catch
      told_elif told_else_block told_else_clause told_finally told_next_generator told_type_clause
      told_expr_list told_flat told_next_expr told_operand told_run
  told_roll_flat_part l =
      fold-roll-FlatPart D I A E FP G H P RP V AL BI CC C EI EB EC FI NG TC EL F NE O R s_delimited
      s_item s_atom s_expr s_flat_part s_generator s_head s_postfix s_run_part s_variable s_also
      s_block_item s_case_clause s_catch s_elif s_else_block s_else_clause s_finally
      s_next_generator s_type_clause s_expr_list s_flat s_next_expr s_operand s_run l

  -- one level of a further part of a flat expression, whose parts meet
  met_flat_part : (y : FlatPart-F MetDelimited MetItem MetAtom MetExpr MetFlatPart MetGenerator
      MetHead MetPostfix MetRunPart MetVariable MetAlso MetBlockItem MetCaseClause MetCatch
      MetElif MetElseBlock MetElseClause MetFinally MetNextGenerator MetTypeClause MetExprList
      MetFlat MetNextExpr MetOperand MetRun)
      → telling_flat_part (flat_part_level g (moving_flat_part g (parts_flat_part y)))
      ≡ flat_part_level g
      (map-FlatPart D I A E FP G H P RP V AL BI CC C EI EB EC FI NG TC EL F NE O R D I A E FP G H P
      RP V AL BI CC C EI EB EC FI NG TC EL F NE O R h_delimited h_item h_atom h_expr h_flat_part
      h_generator h_head h_postfix h_run_part h_variable h_also h_block_item h_case_clause
      h_catch h_elif h_else_block h_else_clause h_finally h_next_generator h_type_clause
      h_expr_list h_flat h_next_expr h_operand h_run (telling_flat_part (parts_flat_part y)))
  met_flat_part (FlatPart-F.Run run) = λ i. FlatPart-F.Run (run.1 i)
  met_flat_part (FlatPart-F.Infix sign operand) =
      λ i. FlatPart-F.Infix (moved_sign g sign) (operand.1 i)

  -- a generator
  abbrev telling_generator : Generator-F Delimited Item Atom Expr FlatPart Generator Head Postfix
      RunPart Variable Also BlockItem CaseClause Catch Elif ElseBlock ElseClause Finally
      NextGenerator TypeClause ExprList Flat NextExpr Operand Run
      → Generator-F D I A E FP G H P RP V AL BI CC C EI EB EC FI NG TC EL F NE O R
  telling_generator =
      map-Generator Delimited Item Atom Expr FlatPart Generator Head Postfix RunPart Variable Also
      BlockItem CaseClause Catch Elif ElseBlock ElseClause Finally NextGenerator TypeClause ExprList
      Flat NextExpr Operand Run D I A E FP G H P RP V AL BI CC C EI EB EC FI NG TC EL F NE O R
      told_delimited told_item told_atom told_expr told_flat_part told_generator told_head
      told_postfix told_run_part told_variable told_also told_block_item told_case_clause told_catch
      told_elif told_else_block told_else_clause told_finally told_next_generator told_type_clause
      told_expr_list told_flat told_next_expr told_operand told_run

  -- one level of a generator, its parts alone
  abbrev parts_generator : Generator-F MetDelimited MetItem MetAtom MetExpr MetFlatPart MetGenerator
      MetHead MetPostfix MetRunPart MetVariable MetAlso MetBlockItem MetCaseClause MetCatch MetElif
      MetElseBlock MetElseClause MetFinally MetNextGenerator MetTypeClause MetExprList MetFlat
      MetNextExpr MetOperand MetRun
      → Generator-F Delimited Item Atom Expr FlatPart Generator Head Postfix RunPart Variable Also
      BlockItem CaseClause Catch Elif ElseBlock ElseClause Finally NextGenerator TypeClause ExprList
      Flat NextExpr Operand Run
  parts_generator =
      map-Generator MetDelimited MetItem MetAtom MetExpr MetFlatPart MetGenerator MetHead MetPostfix
      MetRunPart MetVariable MetAlso MetBlockItem MetCaseClause MetCatch MetElif MetElseBlock
      MetElseClause MetFinally MetNextGenerator MetTypeClause MetExprList MetFlat MetNextExpr
      MetOperand MetRun Delimited Item Atom Expr FlatPart Generator Head Postfix RunPart Variable
      Also BlockItem CaseClause Catch Elif ElseBlock ElseClause Finally NextGenerator TypeClause
      ExprList Flat NextExpr Operand Run (λ e. e.0) (λ e. e.0) (λ e. e.0) (λ e. e.0) (λ e. e.0)
      (λ e. e.0) (λ e. e.0) (λ e. e.0) (λ e. e.0) (λ e. e.0) (λ e. e.0) (λ e. e.0) (λ e. e.0)
      (λ e. e.0) (λ e. e.0) (λ e. e.0) (λ e. e.0) (λ e. e.0) (λ e. e.0) (λ e. e.0) (λ e. e.0)
      (λ e. e.0) (λ e. e.0) (λ e. e.0) (λ e. e.0)

  -- a generator, told by its level
  told_roll_generator : (l : Generator-F Delimited Item Atom Expr FlatPart Generator Head Postfix
      RunPart Variable Also BlockItem CaseClause Catch Elif ElseBlock ElseClause Finally
      NextGenerator TypeClause ExprList Flat NextExpr Operand Run)
      → told_generator (roll-Generator l) ≡ s_generator (telling_generator l)
  unfolding told_delimited told_item told_atom told_expr told_flat_part told_generator told_head
      told_postfix told_run_part told_variable told_also told_block_item told_case_clause told_catch
      told_elif told_else_block told_else_clause told_finally told_next_generator told_type_clause
      told_expr_list told_flat told_next_expr told_operand told_run
  told_roll_generator l =
      fold-roll-Generator D I A E FP G H P RP V AL BI CC C EI EB EC FI NG TC EL F NE O R s_delimited
      s_item s_atom s_expr s_flat_part s_generator s_head s_postfix s_run_part s_variable s_also
      s_block_item s_case_clause s_catch s_elif s_else_block s_else_clause s_finally
      s_next_generator s_type_clause s_expr_list s_flat s_next_expr s_operand s_run l

  -- one level of a generator, whose parts meet
  met_generator : (y : Generator-F MetDelimited MetItem MetAtom MetExpr MetFlatPart MetGenerator
      MetHead MetPostfix MetRunPart MetVariable MetAlso MetBlockItem MetCaseClause MetCatch
      MetElif MetElseBlock MetElseClause MetFinally MetNextGenerator MetTypeClause MetExprList
      MetFlat MetNextExpr MetOperand MetRun)
      → telling_generator (generator_level g (moving_generator g (parts_generator y)))
      ≡ generator_level g
      (map-Generator D I A E FP G H P RP V AL BI CC C EI EB EC FI NG TC EL F NE O R D I A E FP G H P
      RP V AL BI CC C EI EB EC FI NG TC EL F NE O R h_delimited h_item h_atom h_expr h_flat_part
      h_generator h_head h_postfix h_run_part h_variable h_also h_block_item h_case_clause
      h_catch h_elif h_else_block h_else_clause h_finally h_next_generator h_type_clause
      h_expr_list h_flat h_next_expr h_operand h_run (telling_generator (parts_generator y)))
  met_generator (Generator-F.Parallel name arrow source) =
      λ i. Generator-F.Parallel (moved_name g name) (moved_spot g arrow) (source.1 i)
  met_generator (Generator-F.Sequential name arrow seq left source right) =
      λ i. Generator-F.Sequential (moved_name g name) (moved_spot g arrow) (moved_spot g seq)
      (moved_spot g left) (source.1 i) (moved_spot g right)

  -- a head
  abbrev telling_head : Head-F Delimited Item Atom Expr FlatPart Generator Head Postfix RunPart
      Variable Also BlockItem CaseClause Catch Elif ElseBlock ElseClause Finally NextGenerator
      TypeClause ExprList Flat NextExpr Operand Run
      → Head-F D I A E FP G H P RP V AL BI CC C EI EB EC FI NG TC EL F NE O R
  telling_head =
      map-Head Delimited Item Atom Expr FlatPart Generator Head Postfix RunPart Variable Also
      BlockItem CaseClause Catch Elif ElseBlock ElseClause Finally NextGenerator TypeClause ExprList
      Flat NextExpr Operand Run D I A E FP G H P RP V AL BI CC C EI EB EC FI NG TC EL F NE O R
      told_delimited told_item told_atom told_expr told_flat_part told_generator told_head
      told_postfix told_run_part told_variable told_also told_block_item told_case_clause told_catch
      told_elif told_else_block told_else_clause told_finally told_next_generator told_type_clause
      told_expr_list told_flat told_next_expr told_operand told_run

  -- one level of a head, its parts alone
  abbrev parts_head : Head-F MetDelimited MetItem MetAtom MetExpr MetFlatPart MetGenerator MetHead
      MetPostfix MetRunPart MetVariable MetAlso MetBlockItem MetCaseClause MetCatch MetElif
      MetElseBlock MetElseClause MetFinally MetNextGenerator MetTypeClause MetExprList MetFlat
      MetNextExpr MetOperand MetRun
      → Head-F Delimited Item Atom Expr FlatPart Generator Head Postfix RunPart Variable Also
      BlockItem CaseClause Catch Elif ElseBlock ElseClause Finally NextGenerator TypeClause ExprList
      Flat NextExpr Operand Run
  parts_head =
      map-Head MetDelimited MetItem MetAtom MetExpr MetFlatPart MetGenerator MetHead MetPostfix
      MetRunPart MetVariable MetAlso MetBlockItem MetCaseClause MetCatch MetElif MetElseBlock
      MetElseClause MetFinally MetNextGenerator MetTypeClause MetExprList MetFlat MetNextExpr
      MetOperand MetRun Delimited Item Atom Expr FlatPart Generator Head Postfix RunPart Variable
      Also BlockItem CaseClause Catch Elif ElseBlock ElseClause Finally NextGenerator TypeClause
      ExprList Flat NextExpr Operand Run (λ e. e.0) (λ e. e.0) (λ e. e.0) (λ e. e.0) (λ e. e.0)
      (λ e. e.0) (λ e. e.0) (λ e. e.0) (λ e. e.0) (λ e. e.0) (λ e. e.0) (λ e. e.0) (λ e. e.0)
      (λ e. e.0) (λ e. e.0) (λ e. e.0) (λ e. e.0) (λ e. e.0) (λ e. e.0) (λ e. e.0) (λ e. e.0)
      (λ e. e.0) (λ e. e.0) (λ e. e.0) (λ e. e.0)

  -- a head, told by its level
  told_roll_head : (l : Head-F Delimited Item Atom Expr FlatPart Generator Head Postfix RunPart
      Variable Also BlockItem CaseClause Catch Elif ElseBlock ElseClause Finally NextGenerator
      TypeClause ExprList Flat NextExpr Operand Run)
      → told_head (roll-Head l) ≡ s_head (telling_head l)
  unfolding told_delimited told_item told_atom told_expr told_flat_part told_generator told_head
      told_postfix told_run_part told_variable told_also told_block_item told_case_clause told_catch
      told_elif told_else_block told_else_clause told_finally told_next_generator told_type_clause
      told_expr_list told_flat told_next_expr told_operand told_run
  told_roll_head l =
      fold-roll-Head D I A E FP G H P RP V AL BI CC C EI EB EC FI NG TC EL F NE O R s_delimited
      s_item s_atom s_expr s_flat_part s_generator s_head s_postfix s_run_part s_variable s_also
      s_block_item s_case_clause s_catch s_elif s_else_block s_else_clause s_finally
      s_next_generator s_type_clause s_expr_list s_flat s_next_expr s_operand s_run l

  -- one level of a head, whose parts meet
  met_head : (y : Head-F MetDelimited MetItem MetAtom MetExpr MetFlatPart MetGenerator MetHead
      MetPostfix MetRunPart MetVariable MetAlso MetBlockItem MetCaseClause MetCatch MetElif
      MetElseBlock MetElseClause MetFinally MetNextGenerator MetTypeClause MetExprList MetFlat
      MetNextExpr MetOperand MetRun)
      → telling_head (head_level g (moving_head g (parts_head y)))
      ≡ head_level g
      (map-Head D I A E FP G H P RP V AL BI CC C EI EB EC FI NG TC EL F NE O R D I A E FP G H P RP V
      AL BI CC C EI EB EC FI NG TC EL F NE O R h_delimited h_item h_atom h_expr h_flat_part
      h_generator h_head h_postfix h_run_part h_variable h_also h_block_item h_case_clause
      h_catch h_elif h_else_block h_else_clause h_finally h_next_generator h_type_clause
      h_expr_list h_flat h_next_expr h_operand h_run (telling_head (parts_head y)))
  met_head (Head-F.Atomic s) = refl
  met_head (Head-F.Tryatomic s) = refl
  met_head (Head-F.Throw s) = refl
  met_head (Head-F.Spawn s) = refl
  met_head (Head-F.Fn s left parameters right arrow) = refl
  met_head (Head-F.Big big left generator right) =
      λ i. Head-F.Big (moved_big g big) (moved_spot g left) (generator.1 i) (moved_spot g right)

  -- a postfix
  abbrev telling_postfix : Postfix-F Delimited Item Atom Expr FlatPart Generator Head Postfix
      RunPart Variable Also BlockItem CaseClause Catch Elif ElseBlock ElseClause Finally
      NextGenerator TypeClause ExprList Flat NextExpr Operand Run
      → Postfix-F D I A E FP G H P RP V AL BI CC C EI EB EC FI NG TC EL F NE O R
  telling_postfix =
      map-Postfix Delimited Item Atom Expr FlatPart Generator Head Postfix RunPart Variable Also
      BlockItem CaseClause Catch Elif ElseBlock ElseClause Finally NextGenerator TypeClause ExprList
      Flat NextExpr Operand Run D I A E FP G H P RP V AL BI CC C EI EB EC FI NG TC EL F NE O R
      told_delimited told_item told_atom told_expr told_flat_part told_generator told_head
      told_postfix told_run_part told_variable told_also told_block_item told_case_clause told_catch
      told_elif told_else_block told_else_clause told_finally told_next_generator told_type_clause
      told_expr_list told_flat told_next_expr told_operand told_run

  -- one level of a postfix, its parts alone
  abbrev parts_postfix : Postfix-F MetDelimited MetItem MetAtom MetExpr MetFlatPart MetGenerator
      MetHead MetPostfix MetRunPart MetVariable MetAlso MetBlockItem MetCaseClause MetCatch MetElif
      MetElseBlock MetElseClause MetFinally MetNextGenerator MetTypeClause MetExprList MetFlat
      MetNextExpr MetOperand MetRun
      → Postfix-F Delimited Item Atom Expr FlatPart Generator Head Postfix RunPart Variable Also
      BlockItem CaseClause Catch Elif ElseBlock ElseClause Finally NextGenerator TypeClause ExprList
      Flat NextExpr Operand Run
  parts_postfix =
      map-Postfix MetDelimited MetItem MetAtom MetExpr MetFlatPart MetGenerator MetHead MetPostfix
      MetRunPart MetVariable MetAlso MetBlockItem MetCaseClause MetCatch MetElif MetElseBlock
      MetElseClause MetFinally MetNextGenerator MetTypeClause MetExprList MetFlat MetNextExpr
      MetOperand MetRun Delimited Item Atom Expr FlatPart Generator Head Postfix RunPart Variable
      Also BlockItem CaseClause Catch Elif ElseBlock ElseClause Finally NextGenerator TypeClause
      ExprList Flat NextExpr Operand Run (λ e. e.0) (λ e. e.0) (λ e. e.0) (λ e. e.0) (λ e. e.0)
      (λ e. e.0) (λ e. e.0) (λ e. e.0) (λ e. e.0) (λ e. e.0) (λ e. e.0) (λ e. e.0) (λ e. e.0)
      (λ e. e.0) (λ e. e.0) (λ e. e.0) (λ e. e.0) (λ e. e.0) (λ e. e.0) (λ e. e.0) (λ e. e.0)
      (λ e. e.0) (λ e. e.0) (λ e. e.0) (λ e. e.0)

  -- a postfix, told by its level
  told_roll_postfix : (l : Postfix-F Delimited Item Atom Expr FlatPart Generator Head Postfix
      RunPart Variable Also BlockItem CaseClause Catch Elif ElseBlock ElseClause Finally
      NextGenerator TypeClause ExprList Flat NextExpr Operand Run)
      → told_postfix (roll-Postfix l) ≡ s_postfix (telling_postfix l)
  unfolding told_delimited told_item told_atom told_expr told_flat_part told_generator told_head
      told_postfix told_run_part told_variable told_also told_block_item told_case_clause told_catch
      told_elif told_else_block told_else_clause told_finally told_next_generator told_type_clause
      told_expr_list told_flat told_next_expr told_operand told_run
  told_roll_postfix l =
      fold-roll-Postfix D I A E FP G H P RP V AL BI CC C EI EB EC FI NG TC EL F NE O R s_delimited
      s_item s_atom s_expr s_flat_part s_generator s_head s_postfix s_run_part s_variable s_also
      s_block_item s_case_clause s_catch s_elif s_else_block s_else_clause s_finally
      s_next_generator s_type_clause s_expr_list s_flat s_next_expr s_operand s_run l

  -- one level of a postfix, whose parts meet
  met_postfix : (y : Postfix-F MetDelimited MetItem MetAtom MetExpr MetFlatPart MetGenerator MetHead
      MetPostfix MetRunPart MetVariable MetAlso MetBlockItem MetCaseClause MetCatch MetElif
      MetElseBlock MetElseClause MetFinally MetNextGenerator MetTypeClause MetExprList MetFlat
      MetNextExpr MetOperand MetRun)
      → telling_postfix (postfix_level g (moving_postfix g (parts_postfix y)))
      ≡ postfix_level g
      (map-Postfix D I A E FP G H P RP V AL BI CC C EI EB EC FI NG TC EL F NE O R D I A E FP G H P
      RP V AL BI CC C EI EB EC FI NG TC EL F NE O R h_delimited h_item h_atom h_expr h_flat_part
      h_generator h_head h_postfix h_run_part h_variable h_also h_block_item h_case_clause
      h_catch h_elif h_else_block h_else_clause h_finally h_next_generator h_type_clause
      h_expr_list h_flat h_next_expr h_operand h_run (telling_postfix (parts_postfix y)))
  met_postfix (Postfix-F.Subscript left index right) =
      λ i. Postfix-F.Subscript (moved_spot g left) (index.1 i) (moved_spot g right)
  met_postfix (Postfix-F.Power power exponent) =
      λ i. Postfix-F.Power (moved_spot g power) (exponent.1 i)
  met_postfix (Postfix-F.Field dot name) = refl
  met_postfix (Postfix-F.Call dot name left None right) = refl
  met_postfix (Postfix-F.Call dot name left (Some arguments) right) =
      λ i. Postfix-F.Call (moved_spot g dot) (moved_name g name) (moved_spot g left)
      (Some (arguments.1 i)) (moved_spot g right)

  -- a further part of a run
  abbrev telling_run_part : RunPart-F Delimited Item Atom Expr FlatPart Generator Head Postfix
      RunPart Variable Also BlockItem CaseClause Catch Elif ElseBlock ElseClause Finally
      NextGenerator TypeClause ExprList Flat NextExpr Operand Run
      → RunPart-F D I A E FP G H P RP V AL BI CC C EI EB EC FI NG TC EL F NE O R
  telling_run_part =
      map-RunPart Delimited Item Atom Expr FlatPart Generator Head Postfix RunPart Variable Also
      BlockItem CaseClause Catch Elif ElseBlock ElseClause Finally NextGenerator TypeClause ExprList
      Flat NextExpr Operand Run D I A E FP G H P RP V AL BI CC C EI EB EC FI NG TC EL F NE O R
      told_delimited told_item told_atom told_expr told_flat_part told_generator told_head
      told_postfix told_run_part told_variable told_also told_block_item told_case_clause told_catch
      told_elif told_else_block told_else_clause told_finally told_next_generator told_type_clause
      told_expr_list told_flat told_next_expr told_operand told_run

  -- one level of a further part of a run, its parts alone
  abbrev parts_run_part : RunPart-F MetDelimited MetItem MetAtom MetExpr MetFlatPart MetGenerator
      MetHead MetPostfix MetRunPart MetVariable MetAlso MetBlockItem MetCaseClause MetCatch MetElif
      MetElseBlock MetElseClause MetFinally MetNextGenerator MetTypeClause MetExprList MetFlat
      MetNextExpr MetOperand MetRun
      → RunPart-F Delimited Item Atom Expr FlatPart Generator Head Postfix RunPart Variable Also
      BlockItem CaseClause Catch Elif ElseBlock ElseClause Finally NextGenerator TypeClause ExprList
      Flat NextExpr Operand Run
  parts_run_part =
      map-RunPart MetDelimited MetItem MetAtom MetExpr MetFlatPart MetGenerator MetHead MetPostfix
      MetRunPart MetVariable MetAlso MetBlockItem MetCaseClause MetCatch MetElif MetElseBlock
      MetElseClause MetFinally MetNextGenerator MetTypeClause MetExprList MetFlat MetNextExpr
      MetOperand MetRun Delimited Item Atom Expr FlatPart Generator Head Postfix RunPart Variable
      Also BlockItem CaseClause Catch Elif ElseBlock ElseClause Finally NextGenerator TypeClause
      ExprList Flat NextExpr Operand Run (λ e. e.0) (λ e. e.0) (λ e. e.0) (λ e. e.0) (λ e. e.0)
      (λ e. e.0) (λ e. e.0) (λ e. e.0) (λ e. e.0) (λ e. e.0) (λ e. e.0) (λ e. e.0) (λ e. e.0)
      (λ e. e.0) (λ e. e.0) (λ e. e.0) (λ e. e.0) (λ e. e.0) (λ e. e.0) (λ e. e.0) (λ e. e.0)
      (λ e. e.0) (λ e. e.0) (λ e. e.0) (λ e. e.0)

  -- a further part of a run, told by its level
  told_roll_run_part : (l : RunPart-F Delimited Item Atom Expr FlatPart Generator Head Postfix
      RunPart Variable Also BlockItem CaseClause Catch Elif ElseBlock ElseClause Finally
      NextGenerator TypeClause ExprList Flat NextExpr Operand Run)
      → told_run_part (roll-RunPart l) ≡ s_run_part (telling_run_part l)
  unfolding told_delimited told_item told_atom told_expr told_flat_part told_generator told_head
      told_postfix told_run_part told_variable told_also told_block_item told_case_clause told_catch
      told_elif told_else_block told_else_clause told_finally told_next_generator told_type_clause
      told_expr_list told_flat told_next_expr told_operand told_run
  told_roll_run_part l =
      fold-roll-RunPart D I A E FP G H P RP V AL BI CC C EI EB EC FI NG TC EL F NE O R s_delimited
      s_item s_atom s_expr s_flat_part s_generator s_head s_postfix s_run_part s_variable s_also
      s_block_item s_case_clause s_catch s_elif s_else_block s_else_clause s_finally
      s_next_generator s_type_clause s_expr_list s_flat s_next_expr s_operand s_run l

  -- one level of a further part of a run, whose parts meet
  met_run_part : (y : RunPart-F MetDelimited MetItem MetAtom MetExpr MetFlatPart MetGenerator
      MetHead MetPostfix MetRunPart MetVariable MetAlso MetBlockItem MetCaseClause MetCatch
      MetElif MetElseBlock MetElseClause MetFinally MetNextGenerator MetTypeClause MetExprList
      MetFlat MetNextExpr MetOperand MetRun)
      → telling_run_part (run_part_level g (moving_run_part g (parts_run_part y)))
      ≡ run_part_level g
      (map-RunPart D I A E FP G H P RP V AL BI CC C EI EB EC FI NG TC EL F NE O R D I A E FP G H P
      RP V AL BI CC C EI EB EC FI NG TC EL F NE O R h_delimited h_item h_atom h_expr h_flat_part
      h_generator h_head h_postfix h_run_part h_variable h_also h_block_item h_case_clause
      h_catch h_elif h_else_block h_else_clause h_finally h_next_generator h_type_clause
      h_expr_list h_flat h_next_expr h_operand h_run (telling_run_part (parts_run_part y)))
  met_run_part (RunPart-F.Atom atom) = λ i. RunPart-F.Atom (atom.1 i)
  met_run_part (RunPart-F.Postfix postfix) = λ i. RunPart-F.Postfix (postfix.1 i)

  -- a declaration of a variable
  abbrev telling_variable : Variable-F Delimited Item Atom Expr FlatPart Generator Head Postfix
      RunPart Variable Also BlockItem CaseClause Catch Elif ElseBlock ElseClause Finally
      NextGenerator TypeClause ExprList Flat NextExpr Operand Run
      → Variable-F D I A E FP G H P RP V AL BI CC C EI EB EC FI NG TC EL F NE O R
  telling_variable =
      map-Variable Delimited Item Atom Expr FlatPart Generator Head Postfix RunPart Variable Also
      BlockItem CaseClause Catch Elif ElseBlock ElseClause Finally NextGenerator TypeClause ExprList
      Flat NextExpr Operand Run D I A E FP G H P RP V AL BI CC C EI EB EC FI NG TC EL F NE O R
      told_delimited told_item told_atom told_expr told_flat_part told_generator told_head
      told_postfix told_run_part told_variable told_also told_block_item told_case_clause told_catch
      told_elif told_else_block told_else_clause told_finally told_next_generator told_type_clause
      told_expr_list told_flat told_next_expr told_operand told_run

  -- one level of a declaration of a variable, its parts alone
  abbrev parts_variable : Variable-F MetDelimited MetItem MetAtom MetExpr MetFlatPart MetGenerator
      MetHead MetPostfix MetRunPart MetVariable MetAlso MetBlockItem MetCaseClause MetCatch MetElif
      MetElseBlock MetElseClause MetFinally MetNextGenerator MetTypeClause MetExprList MetFlat
      MetNextExpr MetOperand MetRun
      → Variable-F Delimited Item Atom Expr FlatPart Generator Head Postfix RunPart Variable Also
      BlockItem CaseClause Catch Elif ElseBlock ElseClause Finally NextGenerator TypeClause ExprList
      Flat NextExpr Operand Run
  parts_variable =
      map-Variable MetDelimited MetItem MetAtom MetExpr MetFlatPart MetGenerator MetHead MetPostfix
      MetRunPart MetVariable MetAlso MetBlockItem MetCaseClause MetCatch MetElif MetElseBlock
      MetElseClause MetFinally MetNextGenerator MetTypeClause MetExprList MetFlat MetNextExpr
      MetOperand MetRun Delimited Item Atom Expr FlatPart Generator Head Postfix RunPart Variable
      Also BlockItem CaseClause Catch Elif ElseBlock ElseClause Finally NextGenerator TypeClause
      ExprList Flat NextExpr Operand Run (λ e. e.0) (λ e. e.0) (λ e. e.0) (λ e. e.0) (λ e. e.0)
      (λ e. e.0) (λ e. e.0) (λ e. e.0) (λ e. e.0) (λ e. e.0) (λ e. e.0) (λ e. e.0) (λ e. e.0)
      (λ e. e.0) (λ e. e.0) (λ e. e.0) (λ e. e.0) (λ e. e.0) (λ e. e.0) (λ e. e.0) (λ e. e.0)
      (λ e. e.0) (λ e. e.0) (λ e. e.0) (λ e. e.0)

  -- a declaration of a variable, told by its level
  told_roll_variable : (l : Variable-F Delimited Item Atom Expr FlatPart Generator Head Postfix
      RunPart Variable Also BlockItem CaseClause Catch Elif ElseBlock ElseClause Finally
      NextGenerator TypeClause ExprList Flat NextExpr Operand Run)
      → told_variable (roll-Variable l) ≡ s_variable (telling_variable l)
  unfolding told_delimited told_item told_atom told_expr told_flat_part told_generator told_head
      told_postfix told_run_part told_variable told_also told_block_item told_case_clause told_catch
      told_elif told_else_block told_else_clause told_finally told_next_generator told_type_clause
      told_expr_list told_flat told_next_expr told_operand told_run
  told_roll_variable l =
      fold-roll-Variable D I A E FP G H P RP V AL BI CC C EI EB EC FI NG TC EL F NE O R s_delimited
      s_item s_atom s_expr s_flat_part s_generator s_head s_postfix s_run_part s_variable s_also
      s_block_item s_case_clause s_catch s_elif s_else_block s_else_clause s_finally
      s_next_generator s_type_clause s_expr_list s_flat s_next_expr s_operand s_run l

  -- one level of a declaration of a variable, whose parts meet
  met_variable : (y : Variable-F MetDelimited MetItem MetAtom MetExpr MetFlatPart MetGenerator
      MetHead MetPostfix MetRunPart MetVariable MetAlso MetBlockItem MetCaseClause MetCatch
      MetElif MetElseBlock MetElseClause MetFinally MetNextGenerator MetTypeClause MetExprList
      MetFlat MetNextExpr MetOperand MetRun)
      → telling_variable (variable_level g (moving_variable g (parts_variable y)))
      ≡ variable_level g
      (map-Variable D I A E FP G H P RP V AL BI CC C EI EB EC FI NG TC EL F NE O R D I A E FP G H P
      RP V AL BI CC C EI EB EC FI NG TC EL F NE O R h_delimited h_item h_atom h_expr h_flat_part
      h_generator h_head h_postfix h_run_part h_variable h_also h_block_item h_case_clause
      h_catch h_elif h_else_block h_else_clause h_finally h_next_generator h_type_clause
      h_expr_list h_flat h_next_expr h_operand h_run (telling_variable (parts_variable y)))
  met_variable y =
      λ i. record {
        var = option_map (moved_spot g) y.var;
        name = moved_name g y.name;
        colon = moved_spot g y.colon;
        ty = moved_type g y.ty;
        sign = moved_initial g y.sign;
        value = y.value.1 i;
      }

  -- an `also` with its block
  abbrev telling_also : Also-F Delimited Item Atom Expr FlatPart Generator Head Postfix RunPart
      Variable Also BlockItem CaseClause Catch Elif ElseBlock ElseClause Finally NextGenerator
      TypeClause ExprList Flat NextExpr Operand Run
      → Also-F D I A E FP G H P RP V AL BI CC C EI EB EC FI NG TC EL F NE O R
  telling_also =
      map-Also Delimited Item Atom Expr FlatPart Generator Head Postfix RunPart Variable Also
      BlockItem CaseClause Catch Elif ElseBlock ElseClause Finally NextGenerator TypeClause ExprList
      Flat NextExpr Operand Run D I A E FP G H P RP V AL BI CC C EI EB EC FI NG TC EL F NE O R
      told_delimited told_item told_atom told_expr told_flat_part told_generator told_head
      told_postfix told_run_part told_variable told_also told_block_item told_case_clause told_catch
      told_elif told_else_block told_else_clause told_finally told_next_generator told_type_clause
      told_expr_list told_flat told_next_expr told_operand told_run

  -- one level of an `also` with its block, its parts alone
  abbrev parts_also : Also-F MetDelimited MetItem MetAtom MetExpr MetFlatPart MetGenerator MetHead
      MetPostfix MetRunPart MetVariable MetAlso MetBlockItem MetCaseClause MetCatch MetElif
      MetElseBlock MetElseClause MetFinally MetNextGenerator MetTypeClause MetExprList MetFlat
      MetNextExpr MetOperand MetRun
      → Also-F Delimited Item Atom Expr FlatPart Generator Head Postfix RunPart Variable Also
      BlockItem CaseClause Catch Elif ElseBlock ElseClause Finally NextGenerator TypeClause ExprList
      Flat NextExpr Operand Run
  parts_also =
      map-Also MetDelimited MetItem MetAtom MetExpr MetFlatPart MetGenerator MetHead MetPostfix
      MetRunPart MetVariable MetAlso MetBlockItem MetCaseClause MetCatch MetElif MetElseBlock
      MetElseClause MetFinally MetNextGenerator MetTypeClause MetExprList MetFlat MetNextExpr
      MetOperand MetRun Delimited Item Atom Expr FlatPart Generator Head Postfix RunPart Variable
      Also BlockItem CaseClause Catch Elif ElseBlock ElseClause Finally NextGenerator TypeClause
      ExprList Flat NextExpr Operand Run (λ e. e.0) (λ e. e.0) (λ e. e.0) (λ e. e.0) (λ e. e.0)
      (λ e. e.0) (λ e. e.0) (λ e. e.0) (λ e. e.0) (λ e. e.0) (λ e. e.0) (λ e. e.0) (λ e. e.0)
      (λ e. e.0) (λ e. e.0) (λ e. e.0) (λ e. e.0) (λ e. e.0) (λ e. e.0) (λ e. e.0) (λ e. e.0)
      (λ e. e.0) (λ e. e.0) (λ e. e.0) (λ e. e.0)

  -- an `also` with its block, told by its level
  told_roll_also : (l : Also-F Delimited Item Atom Expr FlatPart Generator Head Postfix RunPart
      Variable Also BlockItem CaseClause Catch Elif ElseBlock ElseClause Finally NextGenerator
      TypeClause ExprList Flat NextExpr Operand Run)
      → told_also (roll-Also l) ≡ s_also (telling_also l)
  unfolding told_delimited told_item told_atom told_expr told_flat_part told_generator told_head
      told_postfix told_run_part told_variable told_also told_block_item told_case_clause told_catch
      told_elif told_else_block told_else_clause told_finally told_next_generator told_type_clause
      told_expr_list told_flat told_next_expr told_operand told_run
  told_roll_also l =
      fold-roll-Also D I A E FP G H P RP V AL BI CC C EI EB EC FI NG TC EL F NE O R s_delimited
      s_item s_atom s_expr s_flat_part s_generator s_head s_postfix s_run_part s_variable s_also
      s_block_item s_case_clause s_catch s_elif s_else_block s_else_clause s_finally
      s_next_generator s_type_clause s_expr_list s_flat s_next_expr s_operand s_run l

  -- one level of an `also` with its block, whose parts meet
  met_also : (y : Also-F MetDelimited MetItem MetAtom MetExpr MetFlatPart MetGenerator MetHead
      MetPostfix MetRunPart MetVariable MetAlso MetBlockItem MetCaseClause MetCatch MetElif
      MetElseBlock MetElseClause MetFinally MetNextGenerator MetTypeClause MetExprList MetFlat
      MetNextExpr MetOperand MetRun)
      → telling_also (also_level g (moving_also g (parts_also y)))
      ≡ also_level g
      (map-Also D I A E FP G H P RP V AL BI CC C EI EB EC FI NG TC EL F NE O R D I A E FP G H P RP V
      AL BI CC C EI EB EC FI NG TC EL F NE O R h_delimited h_item h_atom h_expr h_flat_part
      h_generator h_head h_postfix h_run_part h_variable h_also h_block_item h_case_clause
      h_catch h_elif h_else_block h_else_clause h_finally h_next_generator h_type_clause
      h_expr_list h_flat h_next_expr h_operand h_run (telling_also (parts_also y)))
  met_also y =
      λ i. record {
        also = moved_spot g y.also;
        do_ = moved_spot g y.do_;
        block = each_met told_block_item (moved_block_item g) h_block_item y.block i;
      }

  -- an item of a block with its `;`
  abbrev telling_block_item : BlockItem-F Delimited Item Atom Expr FlatPart Generator Head Postfix
      RunPart Variable Also BlockItem CaseClause Catch Elif ElseBlock ElseClause Finally
      NextGenerator TypeClause ExprList Flat NextExpr Operand Run
      → BlockItem-F D I A E FP G H P RP V AL BI CC C EI EB EC FI NG TC EL F NE O R
  telling_block_item =
      map-BlockItem Delimited Item Atom Expr FlatPart Generator Head Postfix RunPart Variable Also
      BlockItem CaseClause Catch Elif ElseBlock ElseClause Finally NextGenerator TypeClause ExprList
      Flat NextExpr Operand Run D I A E FP G H P RP V AL BI CC C EI EB EC FI NG TC EL F NE O R
      told_delimited told_item told_atom told_expr told_flat_part told_generator told_head
      told_postfix told_run_part told_variable told_also told_block_item told_case_clause told_catch
      told_elif told_else_block told_else_clause told_finally told_next_generator told_type_clause
      told_expr_list told_flat told_next_expr told_operand told_run

  -- one level of an item of a block with its `;`, its parts alone
  abbrev parts_block_item : BlockItem-F MetDelimited MetItem MetAtom MetExpr MetFlatPart
      MetGenerator MetHead MetPostfix MetRunPart MetVariable MetAlso MetBlockItem MetCaseClause
      MetCatch MetElif MetElseBlock MetElseClause MetFinally MetNextGenerator MetTypeClause
      MetExprList MetFlat MetNextExpr MetOperand MetRun
      → BlockItem-F Delimited Item Atom Expr FlatPart Generator Head Postfix RunPart Variable Also
      BlockItem CaseClause Catch Elif ElseBlock ElseClause Finally NextGenerator TypeClause ExprList
      Flat NextExpr Operand Run
  parts_block_item =
      map-BlockItem MetDelimited MetItem MetAtom MetExpr MetFlatPart MetGenerator MetHead MetPostfix
      MetRunPart MetVariable MetAlso MetBlockItem MetCaseClause MetCatch MetElif MetElseBlock
      MetElseClause MetFinally MetNextGenerator MetTypeClause MetExprList MetFlat MetNextExpr
      MetOperand MetRun Delimited Item Atom Expr FlatPart Generator Head Postfix RunPart Variable
      Also BlockItem CaseClause Catch Elif ElseBlock ElseClause Finally NextGenerator TypeClause
      ExprList Flat NextExpr Operand Run (λ e. e.0) (λ e. e.0) (λ e. e.0) (λ e. e.0) (λ e. e.0)
      (λ e. e.0) (λ e. e.0) (λ e. e.0) (λ e. e.0) (λ e. e.0) (λ e. e.0) (λ e. e.0) (λ e. e.0)
      (λ e. e.0) (λ e. e.0) (λ e. e.0) (λ e. e.0) (λ e. e.0) (λ e. e.0) (λ e. e.0) (λ e. e.0)
      (λ e. e.0) (λ e. e.0) (λ e. e.0) (λ e. e.0)

  -- an item of a block with its `;`, told by its level
  told_roll_block_item : (l : BlockItem-F Delimited Item Atom Expr FlatPart Generator Head Postfix
      RunPart Variable Also BlockItem CaseClause Catch Elif ElseBlock ElseClause Finally
      NextGenerator TypeClause ExprList Flat NextExpr Operand Run)
      → told_block_item (roll-BlockItem l) ≡ s_block_item (telling_block_item l)
  unfolding told_delimited told_item told_atom told_expr told_flat_part told_generator told_head
      told_postfix told_run_part told_variable told_also told_block_item told_case_clause told_catch
      told_elif told_else_block told_else_clause told_finally told_next_generator told_type_clause
      told_expr_list told_flat told_next_expr told_operand told_run
  told_roll_block_item l =
      fold-roll-BlockItem D I A E FP G H P RP V AL BI CC C EI EB EC FI NG TC EL F NE O R s_delimited
      s_item s_atom s_expr s_flat_part s_generator s_head s_postfix s_run_part s_variable s_also
      s_block_item s_case_clause s_catch s_elif s_else_block s_else_clause s_finally
      s_next_generator s_type_clause s_expr_list s_flat s_next_expr s_operand s_run l

  -- one level of an item of a block with its `;`, whose parts meet
  met_block_item : (y : BlockItem-F MetDelimited MetItem MetAtom MetExpr MetFlatPart MetGenerator
      MetHead MetPostfix MetRunPart MetVariable MetAlso MetBlockItem MetCaseClause MetCatch
      MetElif MetElseBlock MetElseClause MetFinally MetNextGenerator MetTypeClause MetExprList
      MetFlat MetNextExpr MetOperand MetRun)
      → telling_block_item (block_item_level g (moving_block_item g (parts_block_item y)))
      ≡ block_item_level g
      (map-BlockItem D I A E FP G H P RP V AL BI CC C EI EB EC FI NG TC EL F NE O R D I A E FP G H P
      RP V AL BI CC C EI EB EC FI NG TC EL F NE O R h_delimited h_item h_atom h_expr h_flat_part
      h_generator h_head h_postfix h_run_part h_variable h_also h_block_item h_case_clause
      h_catch h_elif h_else_block h_else_clause h_finally h_next_generator h_type_clause
      h_expr_list h_flat h_next_expr h_operand h_run (telling_block_item (parts_block_item y)))
  met_block_item y =
      λ i. record { item = y.item.1 i; semicolon = option_map (moved_spot g) y.semicolon }

  -- a clause of a `case`
  abbrev telling_case_clause : CaseClause-F Delimited Item Atom Expr FlatPart Generator Head Postfix
      RunPart Variable Also BlockItem CaseClause Catch Elif ElseBlock ElseClause Finally
      NextGenerator TypeClause ExprList Flat NextExpr Operand Run
      → CaseClause-F D I A E FP G H P RP V AL BI CC C EI EB EC FI NG TC EL F NE O R
  telling_case_clause =
      map-CaseClause Delimited Item Atom Expr FlatPart Generator Head Postfix RunPart Variable Also
      BlockItem CaseClause Catch Elif ElseBlock ElseClause Finally NextGenerator TypeClause ExprList
      Flat NextExpr Operand Run D I A E FP G H P RP V AL BI CC C EI EB EC FI NG TC EL F NE O R
      told_delimited told_item told_atom told_expr told_flat_part told_generator told_head
      told_postfix told_run_part told_variable told_also told_block_item told_case_clause told_catch
      told_elif told_else_block told_else_clause told_finally told_next_generator told_type_clause
      told_expr_list told_flat told_next_expr told_operand told_run

  -- one level of a clause of a `case`, its parts alone
  abbrev parts_case_clause : CaseClause-F MetDelimited MetItem MetAtom MetExpr MetFlatPart
      MetGenerator MetHead MetPostfix MetRunPart MetVariable MetAlso MetBlockItem MetCaseClause
      MetCatch MetElif MetElseBlock MetElseClause MetFinally MetNextGenerator MetTypeClause
      MetExprList MetFlat MetNextExpr MetOperand MetRun
      → CaseClause-F Delimited Item Atom Expr FlatPart Generator Head Postfix RunPart Variable Also
      BlockItem CaseClause Catch Elif ElseBlock ElseClause Finally NextGenerator TypeClause ExprList
      Flat NextExpr Operand Run
  parts_case_clause =
      map-CaseClause MetDelimited MetItem MetAtom MetExpr MetFlatPart MetGenerator MetHead
      MetPostfix MetRunPart MetVariable MetAlso MetBlockItem MetCaseClause MetCatch MetElif
      MetElseBlock MetElseClause MetFinally MetNextGenerator MetTypeClause MetExprList MetFlat
      MetNextExpr MetOperand MetRun Delimited Item Atom Expr FlatPart Generator Head Postfix RunPart
      Variable Also BlockItem CaseClause Catch Elif ElseBlock ElseClause Finally NextGenerator
      TypeClause ExprList Flat NextExpr Operand Run (λ e. e.0) (λ e. e.0) (λ e. e.0) (λ e. e.0)
      (λ e. e.0) (λ e. e.0) (λ e. e.0) (λ e. e.0) (λ e. e.0) (λ e. e.0) (λ e. e.0) (λ e. e.0)
      (λ e. e.0) (λ e. e.0) (λ e. e.0) (λ e. e.0) (λ e. e.0) (λ e. e.0) (λ e. e.0) (λ e. e.0)
      (λ e. e.0) (λ e. e.0) (λ e. e.0) (λ e. e.0) (λ e. e.0)

  -- a clause of a `case`, told by its level
  told_roll_case_clause : (l : CaseClause-F Delimited Item Atom Expr FlatPart Generator Head Postfix
      RunPart Variable Also BlockItem CaseClause Catch Elif ElseBlock ElseClause Finally
      NextGenerator TypeClause ExprList Flat NextExpr Operand Run)
      → told_case_clause (roll-CaseClause l) ≡ s_case_clause (telling_case_clause l)
  unfolding told_delimited told_item told_atom told_expr told_flat_part told_generator told_head
      told_postfix told_run_part told_variable told_also told_block_item told_case_clause told_catch
      told_elif told_else_block told_else_clause told_finally told_next_generator told_type_clause
      told_expr_list told_flat told_next_expr told_operand told_run
  told_roll_case_clause l =
      fold-roll-CaseClause D I A E FP G H P RP V AL BI CC C EI EB EC FI NG TC EL F NE O R
      s_delimited s_item s_atom s_expr s_flat_part s_generator s_head s_postfix s_run_part
      s_variable s_also s_block_item s_case_clause s_catch s_elif s_else_block s_else_clause
      s_finally s_next_generator s_type_clause s_expr_list s_flat s_next_expr s_operand s_run l

  -- one level of a clause of a `case`, whose parts meet
  met_case_clause : (y : CaseClause-F MetDelimited MetItem MetAtom MetExpr MetFlatPart MetGenerator
      MetHead MetPostfix MetRunPart MetVariable MetAlso MetBlockItem MetCaseClause MetCatch
      MetElif MetElseBlock MetElseClause MetFinally MetNextGenerator MetTypeClause MetExprList
      MetFlat MetNextExpr MetOperand MetRun)
      → telling_case_clause (case_clause_level g (moving_case_clause g (parts_case_clause y)))
      ≡ case_clause_level g
      (map-CaseClause D I A E FP G H P RP V AL BI CC C EI EB EC FI NG TC EL F NE O R D I A E FP G H
      P RP V AL BI CC C EI EB EC FI NG TC EL F NE O R h_delimited h_item h_atom h_expr
      h_flat_part h_generator h_head h_postfix h_run_part h_variable h_also h_block_item
      h_case_clause h_catch h_elif h_else_block h_else_clause h_finally h_next_generator
      h_type_clause h_expr_list h_flat h_next_expr h_operand h_run
      (telling_case_clause (parts_case_clause y)))
  met_case_clause y =
      λ i. record {
        subject = y.subject.1 i;
        arrow = moved_spot g y.arrow;
        value = y.value.1 i;
        semicolon = option_map (moved_spot g) y.semicolon;
      }

  -- a `catch`
  abbrev telling_catch : Catch-F Delimited Item Atom Expr FlatPart Generator Head Postfix RunPart
      Variable Also BlockItem CaseClause Catch Elif ElseBlock ElseClause Finally NextGenerator
      TypeClause ExprList Flat NextExpr Operand Run
      → Catch-F D I A E FP G H P RP V AL BI CC C EI EB EC FI NG TC EL F NE O R
  telling_catch =
      map-Catch Delimited Item Atom Expr FlatPart Generator Head Postfix RunPart Variable Also
      BlockItem CaseClause Catch Elif ElseBlock ElseClause Finally NextGenerator TypeClause ExprList
      Flat NextExpr Operand Run D I A E FP G H P RP V AL BI CC C EI EB EC FI NG TC EL F NE O R
      told_delimited told_item told_atom told_expr told_flat_part told_generator told_head
      told_postfix told_run_part told_variable told_also told_block_item told_case_clause told_catch
      told_elif told_else_block told_else_clause told_finally told_next_generator told_type_clause
      told_expr_list told_flat told_next_expr told_operand told_run

  -- one level of a `catch`, its parts alone
  abbrev parts_catch : Catch-F MetDelimited MetItem MetAtom MetExpr MetFlatPart MetGenerator MetHead
      MetPostfix MetRunPart MetVariable MetAlso MetBlockItem MetCaseClause MetCatch MetElif
      MetElseBlock MetElseClause MetFinally MetNextGenerator MetTypeClause MetExprList MetFlat
      MetNextExpr MetOperand MetRun
      → Catch-F Delimited Item Atom Expr FlatPart Generator Head Postfix RunPart Variable Also
      BlockItem CaseClause Catch Elif ElseBlock ElseClause Finally NextGenerator TypeClause ExprList
      Flat NextExpr Operand Run
  parts_catch =
      map-Catch MetDelimited MetItem MetAtom MetExpr MetFlatPart MetGenerator MetHead MetPostfix
      MetRunPart MetVariable MetAlso MetBlockItem MetCaseClause MetCatch MetElif MetElseBlock
      MetElseClause MetFinally MetNextGenerator MetTypeClause MetExprList MetFlat MetNextExpr
      MetOperand MetRun Delimited Item Atom Expr FlatPart Generator Head Postfix RunPart Variable
      Also BlockItem CaseClause Catch Elif ElseBlock ElseClause Finally NextGenerator TypeClause
      ExprList Flat NextExpr Operand Run (λ e. e.0) (λ e. e.0) (λ e. e.0) (λ e. e.0) (λ e. e.0)
      (λ e. e.0) (λ e. e.0) (λ e. e.0) (λ e. e.0) (λ e. e.0) (λ e. e.0) (λ e. e.0) (λ e. e.0)
      (λ e. e.0) (λ e. e.0) (λ e. e.0) (λ e. e.0) (λ e. e.0) (λ e. e.0) (λ e. e.0) (λ e. e.0)
      (λ e. e.0) (λ e. e.0) (λ e. e.0) (λ e. e.0)

  -- a `catch`, told by its level
  told_roll_catch : (l : Catch-F Delimited Item Atom Expr FlatPart Generator Head Postfix RunPart
      Variable Also BlockItem CaseClause Catch Elif ElseBlock ElseClause Finally NextGenerator
      TypeClause ExprList Flat NextExpr Operand Run)
      → told_catch (roll-Catch l) ≡ s_catch (telling_catch l)
  unfolding told_delimited told_item told_atom told_expr told_flat_part told_generator told_head
      told_postfix told_run_part told_variable told_also told_block_item told_case_clause told_catch
      told_elif told_else_block told_else_clause told_finally told_next_generator told_type_clause
      told_expr_list told_flat told_next_expr told_operand told_run
  told_roll_catch l =
      fold-roll-Catch D I A E FP G H P RP V AL BI CC C EI EB EC FI NG TC EL F NE O R s_delimited
      s_item s_atom s_expr s_flat_part s_generator s_head s_postfix s_run_part s_variable s_also
      s_block_item s_case_clause s_catch s_elif s_else_block s_else_clause s_finally
      s_next_generator s_type_clause s_expr_list s_flat s_next_expr s_operand s_run l

  -- one level of a `catch`, whose parts meet
  met_catch : (y : Catch-F MetDelimited MetItem MetAtom MetExpr MetFlatPart MetGenerator MetHead
      MetPostfix MetRunPart MetVariable MetAlso MetBlockItem MetCaseClause MetCatch MetElif
      MetElseBlock MetElseClause MetFinally MetNextGenerator MetTypeClause MetExprList MetFlat
      MetNextExpr MetOperand MetRun)
      → telling_catch (catch_level g (moving_catch g (parts_catch y)))
      ≡ catch_level g
      (map-Catch D I A E FP G H P RP V AL BI CC C EI EB EC FI NG TC EL F NE O R D I A E FP G H P RP
      V AL BI CC C EI EB EC FI NG TC EL F NE O R h_delimited h_item h_atom h_expr h_flat_part
      h_generator h_head h_postfix h_run_part h_variable h_also h_block_item h_case_clause
      h_catch h_elif h_else_block h_else_clause h_finally h_next_generator h_type_clause
      h_expr_list h_flat h_next_expr h_operand h_run (telling_catch (parts_catch y)))
  met_catch y =
      λ i. record {
        catch = moved_spot g y.catch;
        name = moved_name g y.name;
        clauses = each_met told_type_clause (moved_type_clause g) h_type_clause y.clauses i;
      }

  -- an `elif`
  abbrev telling_elif : Elif-F Delimited Item Atom Expr FlatPart Generator Head Postfix RunPart
      Variable Also BlockItem CaseClause Catch Elif ElseBlock ElseClause Finally NextGenerator
      TypeClause ExprList Flat NextExpr Operand Run
      → Elif-F D I A E FP G H P RP V AL BI CC C EI EB EC FI NG TC EL F NE O R
  telling_elif =
      map-Elif Delimited Item Atom Expr FlatPart Generator Head Postfix RunPart Variable Also
      BlockItem CaseClause Catch Elif ElseBlock ElseClause Finally NextGenerator TypeClause ExprList
      Flat NextExpr Operand Run D I A E FP G H P RP V AL BI CC C EI EB EC FI NG TC EL F NE O R
      told_delimited told_item told_atom told_expr told_flat_part told_generator told_head
      told_postfix told_run_part told_variable told_also told_block_item told_case_clause told_catch
      told_elif told_else_block told_else_clause told_finally told_next_generator told_type_clause
      told_expr_list told_flat told_next_expr told_operand told_run

  -- one level of an `elif`, its parts alone
  abbrev parts_elif : Elif-F MetDelimited MetItem MetAtom MetExpr MetFlatPart MetGenerator MetHead
      MetPostfix MetRunPart MetVariable MetAlso MetBlockItem MetCaseClause MetCatch MetElif
      MetElseBlock MetElseClause MetFinally MetNextGenerator MetTypeClause MetExprList MetFlat
      MetNextExpr MetOperand MetRun
      → Elif-F Delimited Item Atom Expr FlatPart Generator Head Postfix RunPart Variable Also
      BlockItem CaseClause Catch Elif ElseBlock ElseClause Finally NextGenerator TypeClause ExprList
      Flat NextExpr Operand Run
  parts_elif =
      map-Elif MetDelimited MetItem MetAtom MetExpr MetFlatPart MetGenerator MetHead MetPostfix
      MetRunPart MetVariable MetAlso MetBlockItem MetCaseClause MetCatch MetElif MetElseBlock
      MetElseClause MetFinally MetNextGenerator MetTypeClause MetExprList MetFlat MetNextExpr
      MetOperand MetRun Delimited Item Atom Expr FlatPart Generator Head Postfix RunPart Variable
      Also BlockItem CaseClause Catch Elif ElseBlock ElseClause Finally NextGenerator TypeClause
      ExprList Flat NextExpr Operand Run (λ e. e.0) (λ e. e.0) (λ e. e.0) (λ e. e.0) (λ e. e.0)
      (λ e. e.0) (λ e. e.0) (λ e. e.0) (λ e. e.0) (λ e. e.0) (λ e. e.0) (λ e. e.0) (λ e. e.0)
      (λ e. e.0) (λ e. e.0) (λ e. e.0) (λ e. e.0) (λ e. e.0) (λ e. e.0) (λ e. e.0) (λ e. e.0)
      (λ e. e.0) (λ e. e.0) (λ e. e.0) (λ e. e.0)

  -- an `elif`, told by its level
  told_roll_elif : (l : Elif-F Delimited Item Atom Expr FlatPart Generator Head Postfix RunPart
      Variable Also BlockItem CaseClause Catch Elif ElseBlock ElseClause Finally NextGenerator
      TypeClause ExprList Flat NextExpr Operand Run)
      → told_elif (roll-Elif l) ≡ s_elif (telling_elif l)
  unfolding told_delimited told_item told_atom told_expr told_flat_part told_generator told_head
      told_postfix told_run_part told_variable told_also told_block_item told_case_clause told_catch
      told_elif told_else_block told_else_clause told_finally told_next_generator told_type_clause
      told_expr_list told_flat told_next_expr told_operand told_run
  told_roll_elif l =
      fold-roll-Elif D I A E FP G H P RP V AL BI CC C EI EB EC FI NG TC EL F NE O R s_delimited
      s_item s_atom s_expr s_flat_part s_generator s_head s_postfix s_run_part s_variable s_also
      s_block_item s_case_clause s_catch s_elif s_else_block s_else_clause s_finally
      s_next_generator s_type_clause s_expr_list s_flat s_next_expr s_operand s_run l

  -- one level of an `elif`, whose parts meet
  met_elif : (y : Elif-F MetDelimited MetItem MetAtom MetExpr MetFlatPart MetGenerator MetHead
      MetPostfix MetRunPart MetVariable MetAlso MetBlockItem MetCaseClause MetCatch MetElif
      MetElseBlock MetElseClause MetFinally MetNextGenerator MetTypeClause MetExprList MetFlat
      MetNextExpr MetOperand MetRun)
      → telling_elif (elif_level g (moving_elif g (parts_elif y)))
      ≡ elif_level g
      (map-Elif D I A E FP G H P RP V AL BI CC C EI EB EC FI NG TC EL F NE O R D I A E FP G H P RP V
      AL BI CC C EI EB EC FI NG TC EL F NE O R h_delimited h_item h_atom h_expr h_flat_part
      h_generator h_head h_postfix h_run_part h_variable h_also h_block_item h_case_clause
      h_catch h_elif h_else_block h_else_clause h_finally h_next_generator h_type_clause
      h_expr_list h_flat h_next_expr h_operand h_run (telling_elif (parts_elif y)))
  met_elif y =
      λ i. record {
        elif = moved_spot g y.elif;
        condition = y.condition.1 i;
        then = moved_spot g y.then;
        block = each_met told_block_item (moved_block_item g) h_block_item y.block i;
      }

  -- the `else` of an `if`
  abbrev telling_else_block : ElseBlock-F Delimited Item Atom Expr FlatPart Generator Head Postfix
      RunPart Variable Also BlockItem CaseClause Catch Elif ElseBlock ElseClause Finally
      NextGenerator TypeClause ExprList Flat NextExpr Operand Run
      → ElseBlock-F D I A E FP G H P RP V AL BI CC C EI EB EC FI NG TC EL F NE O R
  telling_else_block =
      map-ElseBlock Delimited Item Atom Expr FlatPart Generator Head Postfix RunPart Variable Also
      BlockItem CaseClause Catch Elif ElseBlock ElseClause Finally NextGenerator TypeClause ExprList
      Flat NextExpr Operand Run D I A E FP G H P RP V AL BI CC C EI EB EC FI NG TC EL F NE O R
      told_delimited told_item told_atom told_expr told_flat_part told_generator told_head
      told_postfix told_run_part told_variable told_also told_block_item told_case_clause told_catch
      told_elif told_else_block told_else_clause told_finally told_next_generator told_type_clause
      told_expr_list told_flat told_next_expr told_operand told_run

  -- one level of the `else` of an `if`, its parts alone
  abbrev parts_else_block : ElseBlock-F MetDelimited MetItem MetAtom MetExpr MetFlatPart
      MetGenerator MetHead MetPostfix MetRunPart MetVariable MetAlso MetBlockItem MetCaseClause
      MetCatch MetElif MetElseBlock MetElseClause MetFinally MetNextGenerator MetTypeClause
      MetExprList MetFlat MetNextExpr MetOperand MetRun
      → ElseBlock-F Delimited Item Atom Expr FlatPart Generator Head Postfix RunPart Variable Also
      BlockItem CaseClause Catch Elif ElseBlock ElseClause Finally NextGenerator TypeClause ExprList
      Flat NextExpr Operand Run
  parts_else_block =
      map-ElseBlock MetDelimited MetItem MetAtom MetExpr MetFlatPart MetGenerator MetHead MetPostfix
      MetRunPart MetVariable MetAlso MetBlockItem MetCaseClause MetCatch MetElif MetElseBlock
      MetElseClause MetFinally MetNextGenerator MetTypeClause MetExprList MetFlat MetNextExpr
      MetOperand MetRun Delimited Item Atom Expr FlatPart Generator Head Postfix RunPart Variable
      Also BlockItem CaseClause Catch Elif ElseBlock ElseClause Finally NextGenerator TypeClause
      ExprList Flat NextExpr Operand Run (λ e. e.0) (λ e. e.0) (λ e. e.0) (λ e. e.0) (λ e. e.0)
      (λ e. e.0) (λ e. e.0) (λ e. e.0) (λ e. e.0) (λ e. e.0) (λ e. e.0) (λ e. e.0) (λ e. e.0)
      (λ e. e.0) (λ e. e.0) (λ e. e.0) (λ e. e.0) (λ e. e.0) (λ e. e.0) (λ e. e.0) (λ e. e.0)
      (λ e. e.0) (λ e. e.0) (λ e. e.0) (λ e. e.0)

  -- the `else` of an `if`, told by its level
  told_roll_else_block : (l : ElseBlock-F Delimited Item Atom Expr FlatPart Generator Head Postfix
      RunPart Variable Also BlockItem CaseClause Catch Elif ElseBlock ElseClause Finally
      NextGenerator TypeClause ExprList Flat NextExpr Operand Run)
      → told_else_block (roll-ElseBlock l) ≡ s_else_block (telling_else_block l)
  unfolding told_delimited told_item told_atom told_expr told_flat_part told_generator told_head
      told_postfix told_run_part told_variable told_also told_block_item told_case_clause told_catch
      told_elif told_else_block told_else_clause told_finally told_next_generator told_type_clause
      told_expr_list told_flat told_next_expr told_operand told_run
  told_roll_else_block l =
      fold-roll-ElseBlock D I A E FP G H P RP V AL BI CC C EI EB EC FI NG TC EL F NE O R s_delimited
      s_item s_atom s_expr s_flat_part s_generator s_head s_postfix s_run_part s_variable s_also
      s_block_item s_case_clause s_catch s_elif s_else_block s_else_clause s_finally
      s_next_generator s_type_clause s_expr_list s_flat s_next_expr s_operand s_run l

  -- one level of the `else` of an `if`, whose parts meet
  met_else_block : (y : ElseBlock-F MetDelimited MetItem MetAtom MetExpr MetFlatPart MetGenerator
      MetHead MetPostfix MetRunPart MetVariable MetAlso MetBlockItem MetCaseClause MetCatch
      MetElif MetElseBlock MetElseClause MetFinally MetNextGenerator MetTypeClause MetExprList
      MetFlat MetNextExpr MetOperand MetRun)
      → telling_else_block (else_block_level g (moving_else_block g (parts_else_block y)))
      ≡ else_block_level g
      (map-ElseBlock D I A E FP G H P RP V AL BI CC C EI EB EC FI NG TC EL F NE O R D I A E FP G H P
      RP V AL BI CC C EI EB EC FI NG TC EL F NE O R h_delimited h_item h_atom h_expr h_flat_part
      h_generator h_head h_postfix h_run_part h_variable h_also h_block_item h_case_clause
      h_catch h_elif h_else_block h_else_clause h_finally h_next_generator h_type_clause
      h_expr_list h_flat h_next_expr h_operand h_run (telling_else_block (parts_else_block y)))
  met_else_block y =
      λ i. record {
        else_ = moved_spot g y.else_;
        block = each_met told_block_item (moved_block_item g) h_block_item y.block i;
      }

  -- the `else` of a `case` or `typecase`
  abbrev telling_else_clause : ElseClause-F Delimited Item Atom Expr FlatPart Generator Head Postfix
      RunPart Variable Also BlockItem CaseClause Catch Elif ElseBlock ElseClause Finally
      NextGenerator TypeClause ExprList Flat NextExpr Operand Run
      → ElseClause-F D I A E FP G H P RP V AL BI CC C EI EB EC FI NG TC EL F NE O R
  telling_else_clause =
      map-ElseClause Delimited Item Atom Expr FlatPart Generator Head Postfix RunPart Variable Also
      BlockItem CaseClause Catch Elif ElseBlock ElseClause Finally NextGenerator TypeClause ExprList
      Flat NextExpr Operand Run D I A E FP G H P RP V AL BI CC C EI EB EC FI NG TC EL F NE O R
      told_delimited told_item told_atom told_expr told_flat_part told_generator told_head
      told_postfix told_run_part told_variable told_also told_block_item told_case_clause told_catch
      told_elif told_else_block told_else_clause told_finally told_next_generator told_type_clause
      told_expr_list told_flat told_next_expr told_operand told_run

  -- one level of the `else` of a `case` or `typecase`, its parts alone
  abbrev parts_else_clause : ElseClause-F MetDelimited MetItem MetAtom MetExpr MetFlatPart
      MetGenerator MetHead MetPostfix MetRunPart MetVariable MetAlso MetBlockItem MetCaseClause
      MetCatch MetElif MetElseBlock MetElseClause MetFinally MetNextGenerator MetTypeClause
      MetExprList MetFlat MetNextExpr MetOperand MetRun
      → ElseClause-F Delimited Item Atom Expr FlatPart Generator Head Postfix RunPart Variable Also
      BlockItem CaseClause Catch Elif ElseBlock ElseClause Finally NextGenerator TypeClause ExprList
      Flat NextExpr Operand Run
  parts_else_clause =
      map-ElseClause MetDelimited MetItem MetAtom MetExpr MetFlatPart MetGenerator MetHead
      MetPostfix MetRunPart MetVariable MetAlso MetBlockItem MetCaseClause MetCatch MetElif
      MetElseBlock MetElseClause MetFinally MetNextGenerator MetTypeClause MetExprList MetFlat
      MetNextExpr MetOperand MetRun Delimited Item Atom Expr FlatPart Generator Head Postfix RunPart
      Variable Also BlockItem CaseClause Catch Elif ElseBlock ElseClause Finally NextGenerator
      TypeClause ExprList Flat NextExpr Operand Run (λ e. e.0) (λ e. e.0) (λ e. e.0) (λ e. e.0)
      (λ e. e.0) (λ e. e.0) (λ e. e.0) (λ e. e.0) (λ e. e.0) (λ e. e.0) (λ e. e.0) (λ e. e.0)
      (λ e. e.0) (λ e. e.0) (λ e. e.0) (λ e. e.0) (λ e. e.0) (λ e. e.0) (λ e. e.0) (λ e. e.0)
      (λ e. e.0) (λ e. e.0) (λ e. e.0) (λ e. e.0) (λ e. e.0)

  -- the `else` of a `case` or `typecase`, told by its level
  told_roll_else_clause : (l : ElseClause-F Delimited Item Atom Expr FlatPart Generator Head Postfix
      RunPart Variable Also BlockItem CaseClause Catch Elif ElseBlock ElseClause Finally
      NextGenerator TypeClause ExprList Flat NextExpr Operand Run)
      → told_else_clause (roll-ElseClause l) ≡ s_else_clause (telling_else_clause l)
  unfolding told_delimited told_item told_atom told_expr told_flat_part told_generator told_head
      told_postfix told_run_part told_variable told_also told_block_item told_case_clause told_catch
      told_elif told_else_block told_else_clause told_finally told_next_generator told_type_clause
      told_expr_list told_flat told_next_expr told_operand told_run
  told_roll_else_clause l =
      fold-roll-ElseClause D I A E FP G H P RP V AL BI CC C EI EB EC FI NG TC EL F NE O R
      s_delimited s_item s_atom s_expr s_flat_part s_generator s_head s_postfix s_run_part
      s_variable s_also s_block_item s_case_clause s_catch s_elif s_else_block s_else_clause
      s_finally s_next_generator s_type_clause s_expr_list s_flat s_next_expr s_operand s_run l

  -- one level of the `else` of a `case` or `typecase`, whose parts meet
  met_else_clause : (y : ElseClause-F MetDelimited MetItem MetAtom MetExpr MetFlatPart MetGenerator
      MetHead MetPostfix MetRunPart MetVariable MetAlso MetBlockItem MetCaseClause MetCatch
      MetElif MetElseBlock MetElseClause MetFinally MetNextGenerator MetTypeClause MetExprList
      MetFlat MetNextExpr MetOperand MetRun)
      → telling_else_clause (else_clause_level g (moving_else_clause g (parts_else_clause y)))
      ≡ else_clause_level g
      (map-ElseClause D I A E FP G H P RP V AL BI CC C EI EB EC FI NG TC EL F NE O R D I A E FP G H
      P RP V AL BI CC C EI EB EC FI NG TC EL F NE O R h_delimited h_item h_atom h_expr
      h_flat_part h_generator h_head h_postfix h_run_part h_variable h_also h_block_item
      h_case_clause h_catch h_elif h_else_block h_else_clause h_finally h_next_generator
      h_type_clause h_expr_list h_flat h_next_expr h_operand h_run
      (telling_else_clause (parts_else_clause y)))
  met_else_clause y =
      λ i. record {
        semicolon = option_map (moved_spot g) y.semicolon;
        else_ = moved_spot g y.else_;
        arrow = moved_spot g y.arrow;
        value = y.value.1 i;
      }

  -- a `finally`
  abbrev telling_finally : Finally-F Delimited Item Atom Expr FlatPart Generator Head Postfix
      RunPart Variable Also BlockItem CaseClause Catch Elif ElseBlock ElseClause Finally
      NextGenerator TypeClause ExprList Flat NextExpr Operand Run
      → Finally-F D I A E FP G H P RP V AL BI CC C EI EB EC FI NG TC EL F NE O R
  telling_finally =
      map-Finally Delimited Item Atom Expr FlatPart Generator Head Postfix RunPart Variable Also
      BlockItem CaseClause Catch Elif ElseBlock ElseClause Finally NextGenerator TypeClause ExprList
      Flat NextExpr Operand Run D I A E FP G H P RP V AL BI CC C EI EB EC FI NG TC EL F NE O R
      told_delimited told_item told_atom told_expr told_flat_part told_generator told_head
      told_postfix told_run_part told_variable told_also told_block_item told_case_clause told_catch
      told_elif told_else_block told_else_clause told_finally told_next_generator told_type_clause
      told_expr_list told_flat told_next_expr told_operand told_run

  -- one level of a `finally`, its parts alone
  abbrev parts_finally : Finally-F MetDelimited MetItem MetAtom MetExpr MetFlatPart MetGenerator
      MetHead MetPostfix MetRunPart MetVariable MetAlso MetBlockItem MetCaseClause MetCatch MetElif
      MetElseBlock MetElseClause MetFinally MetNextGenerator MetTypeClause MetExprList MetFlat
      MetNextExpr MetOperand MetRun
      → Finally-F Delimited Item Atom Expr FlatPart Generator Head Postfix RunPart Variable Also
      BlockItem CaseClause Catch Elif ElseBlock ElseClause Finally NextGenerator TypeClause ExprList
      Flat NextExpr Operand Run
  parts_finally =
      map-Finally MetDelimited MetItem MetAtom MetExpr MetFlatPart MetGenerator MetHead MetPostfix
      MetRunPart MetVariable MetAlso MetBlockItem MetCaseClause MetCatch MetElif MetElseBlock
      MetElseClause MetFinally MetNextGenerator MetTypeClause MetExprList MetFlat MetNextExpr
      MetOperand MetRun Delimited Item Atom Expr FlatPart Generator Head Postfix RunPart Variable
      Also BlockItem CaseClause Catch Elif ElseBlock ElseClause Finally NextGenerator TypeClause
      ExprList Flat NextExpr Operand Run (λ e. e.0) (λ e. e.0) (λ e. e.0) (λ e. e.0) (λ e. e.0)
      (λ e. e.0) (λ e. e.0) (λ e. e.0) (λ e. e.0) (λ e. e.0) (λ e. e.0) (λ e. e.0) (λ e. e.0)
      (λ e. e.0) (λ e. e.0) (λ e. e.0) (λ e. e.0) (λ e. e.0) (λ e. e.0) (λ e. e.0) (λ e. e.0)
      (λ e. e.0) (λ e. e.0) (λ e. e.0) (λ e. e.0)

  -- a `finally`, told by its level
  told_roll_finally : (l : Finally-F Delimited Item Atom Expr FlatPart Generator Head Postfix
      RunPart Variable Also BlockItem CaseClause Catch Elif ElseBlock ElseClause Finally
      NextGenerator TypeClause ExprList Flat NextExpr Operand Run)
      → told_finally (roll-Finally l) ≡ s_finally (telling_finally l)
  unfolding told_delimited told_item told_atom told_expr told_flat_part told_generator told_head
      told_postfix told_run_part told_variable told_also told_block_item told_case_clause told_catch
      told_elif told_else_block told_else_clause told_finally told_next_generator told_type_clause
      told_expr_list told_flat told_next_expr told_operand told_run
  told_roll_finally l =
      fold-roll-Finally D I A E FP G H P RP V AL BI CC C EI EB EC FI NG TC EL F NE O R s_delimited
      s_item s_atom s_expr s_flat_part s_generator s_head s_postfix s_run_part s_variable s_also
      s_block_item s_case_clause s_catch s_elif s_else_block s_else_clause s_finally
      s_next_generator s_type_clause s_expr_list s_flat s_next_expr s_operand s_run l

  -- one level of a `finally`, whose parts meet
  met_finally : (y : Finally-F MetDelimited MetItem MetAtom MetExpr MetFlatPart MetGenerator MetHead
      MetPostfix MetRunPart MetVariable MetAlso MetBlockItem MetCaseClause MetCatch MetElif
      MetElseBlock MetElseClause MetFinally MetNextGenerator MetTypeClause MetExprList MetFlat
      MetNextExpr MetOperand MetRun)
      → telling_finally (finally_level g (moving_finally g (parts_finally y)))
      ≡ finally_level g
      (map-Finally D I A E FP G H P RP V AL BI CC C EI EB EC FI NG TC EL F NE O R D I A E FP G H P
      RP V AL BI CC C EI EB EC FI NG TC EL F NE O R h_delimited h_item h_atom h_expr h_flat_part
      h_generator h_head h_postfix h_run_part h_variable h_also h_block_item h_case_clause
      h_catch h_elif h_else_block h_else_clause h_finally h_next_generator h_type_clause
      h_expr_list h_flat h_next_expr h_operand h_run (telling_finally (parts_finally y)))
  met_finally y =
      λ i. record {
        finally = moved_spot g y.finally;
        block = each_met told_block_item (moved_block_item g) h_block_item y.block i;
      }

  -- a further generator of a `for`
  abbrev telling_next_generator : NextGenerator-F Delimited Item Atom Expr FlatPart Generator Head
      Postfix RunPart Variable Also BlockItem CaseClause Catch Elif ElseBlock ElseClause Finally
      NextGenerator TypeClause ExprList Flat NextExpr Operand Run
      → NextGenerator-F D I A E FP G H P RP V AL BI CC C EI EB EC FI NG TC EL F NE O R
  telling_next_generator =
      map-NextGenerator Delimited Item Atom Expr FlatPart Generator Head Postfix RunPart Variable
      Also BlockItem CaseClause Catch Elif ElseBlock ElseClause Finally NextGenerator TypeClause
      ExprList Flat NextExpr Operand Run D I A E FP G H P RP V AL BI CC C EI EB EC FI NG TC EL F NE
      O R told_delimited told_item told_atom told_expr told_flat_part told_generator told_head
      told_postfix told_run_part told_variable told_also told_block_item told_case_clause told_catch
      told_elif told_else_block told_else_clause told_finally told_next_generator told_type_clause
      told_expr_list told_flat told_next_expr told_operand told_run

  -- one level of a further generator of a `for`, its parts alone
  abbrev parts_next_generator : NextGenerator-F MetDelimited MetItem MetAtom MetExpr MetFlatPart
      MetGenerator MetHead MetPostfix MetRunPart MetVariable MetAlso MetBlockItem MetCaseClause
      MetCatch MetElif MetElseBlock MetElseClause MetFinally MetNextGenerator MetTypeClause
      MetExprList MetFlat MetNextExpr MetOperand MetRun
      → NextGenerator-F Delimited Item Atom Expr FlatPart Generator Head Postfix RunPart Variable
      Also BlockItem CaseClause Catch Elif ElseBlock ElseClause Finally NextGenerator TypeClause
      ExprList Flat NextExpr Operand Run
  parts_next_generator =
      map-NextGenerator MetDelimited MetItem MetAtom MetExpr MetFlatPart MetGenerator MetHead
      MetPostfix MetRunPart MetVariable MetAlso MetBlockItem MetCaseClause MetCatch MetElif
      MetElseBlock MetElseClause MetFinally MetNextGenerator MetTypeClause MetExprList MetFlat
      MetNextExpr MetOperand MetRun Delimited Item Atom Expr FlatPart Generator Head Postfix RunPart
      Variable Also BlockItem CaseClause Catch Elif ElseBlock ElseClause Finally NextGenerator
      TypeClause ExprList Flat NextExpr Operand Run (λ e. e.0) (λ e. e.0) (λ e. e.0) (λ e. e.0)
      (λ e. e.0) (λ e. e.0) (λ e. e.0) (λ e. e.0) (λ e. e.0) (λ e. e.0) (λ e. e.0) (λ e. e.0)
      (λ e. e.0) (λ e. e.0) (λ e. e.0) (λ e. e.0) (λ e. e.0) (λ e. e.0) (λ e. e.0) (λ e. e.0)
      (λ e. e.0) (λ e. e.0) (λ e. e.0) (λ e. e.0) (λ e. e.0)

  -- a further generator of a `for`, told by its level
  told_roll_next_generator : (l : NextGenerator-F Delimited Item Atom Expr FlatPart Generator Head
      Postfix RunPart Variable Also BlockItem CaseClause Catch Elif ElseBlock ElseClause Finally
      NextGenerator TypeClause ExprList Flat NextExpr Operand Run)
      → told_next_generator (roll-NextGenerator l) ≡ s_next_generator (telling_next_generator l)
  unfolding told_delimited told_item told_atom told_expr told_flat_part told_generator told_head
      told_postfix told_run_part told_variable told_also told_block_item told_case_clause told_catch
      told_elif told_else_block told_else_clause told_finally told_next_generator told_type_clause
      told_expr_list told_flat told_next_expr told_operand told_run
  told_roll_next_generator l =
      fold-roll-NextGenerator D I A E FP G H P RP V AL BI CC C EI EB EC FI NG TC EL F NE O R
      s_delimited s_item s_atom s_expr s_flat_part s_generator s_head s_postfix s_run_part
      s_variable s_also s_block_item s_case_clause s_catch s_elif s_else_block s_else_clause
      s_finally s_next_generator s_type_clause s_expr_list s_flat s_next_expr s_operand s_run l

  -- one level of a further generator of a `for`, whose parts meet
  met_next_generator : (y : NextGenerator-F MetDelimited MetItem MetAtom MetExpr MetFlatPart
      MetGenerator MetHead MetPostfix MetRunPart MetVariable MetAlso MetBlockItem MetCaseClause
      MetCatch MetElif MetElseBlock MetElseClause MetFinally MetNextGenerator MetTypeClause
      MetExprList MetFlat MetNextExpr MetOperand MetRun)
      → telling_next_generator
      (next_generator_level g (moving_next_generator g (parts_next_generator y)))
      ≡ next_generator_level g
      (map-NextGenerator D I A E FP G H P RP V AL BI CC C EI EB EC FI NG TC EL F NE O R D I A E FP G
      H P RP V AL BI CC C EI EB EC FI NG TC EL F NE O R h_delimited h_item h_atom h_expr
      h_flat_part h_generator h_head h_postfix h_run_part h_variable h_also h_block_item
      h_case_clause h_catch h_elif h_else_block h_else_clause h_finally h_next_generator
      h_type_clause h_expr_list h_flat h_next_expr h_operand h_run
      (telling_next_generator (parts_next_generator y)))
  met_next_generator y = λ i. record { comma = moved_spot g y.comma; generator = y.generator.1 i }

  -- a clause of a `typecase` or `catch`
  abbrev telling_type_clause : TypeClause-F Delimited Item Atom Expr FlatPart Generator Head Postfix
      RunPart Variable Also BlockItem CaseClause Catch Elif ElseBlock ElseClause Finally
      NextGenerator TypeClause ExprList Flat NextExpr Operand Run
      → TypeClause-F D I A E FP G H P RP V AL BI CC C EI EB EC FI NG TC EL F NE O R
  telling_type_clause =
      map-TypeClause Delimited Item Atom Expr FlatPart Generator Head Postfix RunPart Variable Also
      BlockItem CaseClause Catch Elif ElseBlock ElseClause Finally NextGenerator TypeClause ExprList
      Flat NextExpr Operand Run D I A E FP G H P RP V AL BI CC C EI EB EC FI NG TC EL F NE O R
      told_delimited told_item told_atom told_expr told_flat_part told_generator told_head
      told_postfix told_run_part told_variable told_also told_block_item told_case_clause told_catch
      told_elif told_else_block told_else_clause told_finally told_next_generator told_type_clause
      told_expr_list told_flat told_next_expr told_operand told_run

  -- one level of a clause of a `typecase` or `catch`, its parts alone
  abbrev parts_type_clause : TypeClause-F MetDelimited MetItem MetAtom MetExpr MetFlatPart
      MetGenerator MetHead MetPostfix MetRunPart MetVariable MetAlso MetBlockItem MetCaseClause
      MetCatch MetElif MetElseBlock MetElseClause MetFinally MetNextGenerator MetTypeClause
      MetExprList MetFlat MetNextExpr MetOperand MetRun
      → TypeClause-F Delimited Item Atom Expr FlatPart Generator Head Postfix RunPart Variable Also
      BlockItem CaseClause Catch Elif ElseBlock ElseClause Finally NextGenerator TypeClause ExprList
      Flat NextExpr Operand Run
  parts_type_clause =
      map-TypeClause MetDelimited MetItem MetAtom MetExpr MetFlatPart MetGenerator MetHead
      MetPostfix MetRunPart MetVariable MetAlso MetBlockItem MetCaseClause MetCatch MetElif
      MetElseBlock MetElseClause MetFinally MetNextGenerator MetTypeClause MetExprList MetFlat
      MetNextExpr MetOperand MetRun Delimited Item Atom Expr FlatPart Generator Head Postfix RunPart
      Variable Also BlockItem CaseClause Catch Elif ElseBlock ElseClause Finally NextGenerator
      TypeClause ExprList Flat NextExpr Operand Run (λ e. e.0) (λ e. e.0) (λ e. e.0) (λ e. e.0)
      (λ e. e.0) (λ e. e.0) (λ e. e.0) (λ e. e.0) (λ e. e.0) (λ e. e.0) (λ e. e.0) (λ e. e.0)
      (λ e. e.0) (λ e. e.0) (λ e. e.0) (λ e. e.0) (λ e. e.0) (λ e. e.0) (λ e. e.0) (λ e. e.0)
      (λ e. e.0) (λ e. e.0) (λ e. e.0) (λ e. e.0) (λ e. e.0)

  -- a clause of a `typecase` or `catch`, told by its level
  told_roll_type_clause : (l : TypeClause-F Delimited Item Atom Expr FlatPart Generator Head Postfix
      RunPart Variable Also BlockItem CaseClause Catch Elif ElseBlock ElseClause Finally
      NextGenerator TypeClause ExprList Flat NextExpr Operand Run)
      → told_type_clause (roll-TypeClause l) ≡ s_type_clause (telling_type_clause l)
  unfolding told_delimited told_item told_atom told_expr told_flat_part told_generator told_head
      told_postfix told_run_part told_variable told_also told_block_item told_case_clause told_catch
      told_elif told_else_block told_else_clause told_finally told_next_generator told_type_clause
      told_expr_list told_flat told_next_expr told_operand told_run
  told_roll_type_clause l =
      fold-roll-TypeClause D I A E FP G H P RP V AL BI CC C EI EB EC FI NG TC EL F NE O R
      s_delimited s_item s_atom s_expr s_flat_part s_generator s_head s_postfix s_run_part
      s_variable s_also s_block_item s_case_clause s_catch s_elif s_else_block s_else_clause
      s_finally s_next_generator s_type_clause s_expr_list s_flat s_next_expr s_operand s_run l

  -- one level of a clause of a `typecase` or `catch`, whose parts meet
  met_type_clause : (y : TypeClause-F MetDelimited MetItem MetAtom MetExpr MetFlatPart MetGenerator
      MetHead MetPostfix MetRunPart MetVariable MetAlso MetBlockItem MetCaseClause MetCatch
      MetElif MetElseBlock MetElseClause MetFinally MetNextGenerator MetTypeClause MetExprList
      MetFlat MetNextExpr MetOperand MetRun)
      → telling_type_clause (type_clause_level g (moving_type_clause g (parts_type_clause y)))
      ≡ type_clause_level g
      (map-TypeClause D I A E FP G H P RP V AL BI CC C EI EB EC FI NG TC EL F NE O R D I A E FP G H
      P RP V AL BI CC C EI EB EC FI NG TC EL F NE O R h_delimited h_item h_atom h_expr
      h_flat_part h_generator h_head h_postfix h_run_part h_variable h_also h_block_item
      h_case_clause h_catch h_elif h_else_block h_else_clause h_finally h_next_generator
      h_type_clause h_expr_list h_flat h_next_expr h_operand h_run
      (telling_type_clause (parts_type_clause y)))
  met_type_clause y =
      λ i. record {
        ty = moved_type g y.ty;
        arrow = moved_spot g y.arrow;
        value = y.value.1 i;
        semicolon = option_map (moved_spot g) y.semicolon;
      }

  -- a list of expressions
  abbrev telling_expr_list : ExprList-F Delimited Item Atom Expr FlatPart Generator Head Postfix
      RunPart Variable Also BlockItem CaseClause Catch Elif ElseBlock ElseClause Finally
      NextGenerator TypeClause ExprList Flat NextExpr Operand Run
      → ExprList-F D I A E FP G H P RP V AL BI CC C EI EB EC FI NG TC EL F NE O R
  telling_expr_list =
      map-ExprList Delimited Item Atom Expr FlatPart Generator Head Postfix RunPart Variable Also
      BlockItem CaseClause Catch Elif ElseBlock ElseClause Finally NextGenerator TypeClause ExprList
      Flat NextExpr Operand Run D I A E FP G H P RP V AL BI CC C EI EB EC FI NG TC EL F NE O R
      told_delimited told_item told_atom told_expr told_flat_part told_generator told_head
      told_postfix told_run_part told_variable told_also told_block_item told_case_clause told_catch
      told_elif told_else_block told_else_clause told_finally told_next_generator told_type_clause
      told_expr_list told_flat told_next_expr told_operand told_run

  -- one level of a list of expressions, its parts alone
  abbrev parts_expr_list : ExprList-F MetDelimited MetItem MetAtom MetExpr MetFlatPart MetGenerator
      MetHead MetPostfix MetRunPart MetVariable MetAlso MetBlockItem MetCaseClause MetCatch MetElif
      MetElseBlock MetElseClause MetFinally MetNextGenerator MetTypeClause MetExprList MetFlat
      MetNextExpr MetOperand MetRun
      → ExprList-F Delimited Item Atom Expr FlatPart Generator Head Postfix RunPart Variable Also
      BlockItem CaseClause Catch Elif ElseBlock ElseClause Finally NextGenerator TypeClause ExprList
      Flat NextExpr Operand Run
  parts_expr_list =
      map-ExprList MetDelimited MetItem MetAtom MetExpr MetFlatPart MetGenerator MetHead MetPostfix
      MetRunPart MetVariable MetAlso MetBlockItem MetCaseClause MetCatch MetElif MetElseBlock
      MetElseClause MetFinally MetNextGenerator MetTypeClause MetExprList MetFlat MetNextExpr
      MetOperand MetRun Delimited Item Atom Expr FlatPart Generator Head Postfix RunPart Variable
      Also BlockItem CaseClause Catch Elif ElseBlock ElseClause Finally NextGenerator TypeClause
      ExprList Flat NextExpr Operand Run (λ e. e.0) (λ e. e.0) (λ e. e.0) (λ e. e.0) (λ e. e.0)
      (λ e. e.0) (λ e. e.0) (λ e. e.0) (λ e. e.0) (λ e. e.0) (λ e. e.0) (λ e. e.0) (λ e. e.0)
      (λ e. e.0) (λ e. e.0) (λ e. e.0) (λ e. e.0) (λ e. e.0) (λ e. e.0) (λ e. e.0) (λ e. e.0)
      (λ e. e.0) (λ e. e.0) (λ e. e.0) (λ e. e.0)

  -- a list of expressions, told by its level
  told_roll_expr_list : (l : ExprList-F Delimited Item Atom Expr FlatPart Generator Head Postfix
      RunPart Variable Also BlockItem CaseClause Catch Elif ElseBlock ElseClause Finally
      NextGenerator TypeClause ExprList Flat NextExpr Operand Run)
      → told_expr_list (roll-ExprList l) ≡ s_expr_list (telling_expr_list l)
  unfolding told_delimited told_item told_atom told_expr told_flat_part told_generator told_head
      told_postfix told_run_part told_variable told_also told_block_item told_case_clause told_catch
      told_elif told_else_block told_else_clause told_finally told_next_generator told_type_clause
      told_expr_list told_flat told_next_expr told_operand told_run
  told_roll_expr_list l =
      fold-roll-ExprList D I A E FP G H P RP V AL BI CC C EI EB EC FI NG TC EL F NE O R s_delimited
      s_item s_atom s_expr s_flat_part s_generator s_head s_postfix s_run_part s_variable s_also
      s_block_item s_case_clause s_catch s_elif s_else_block s_else_clause s_finally
      s_next_generator s_type_clause s_expr_list s_flat s_next_expr s_operand s_run l

  -- one level of a list of expressions, whose parts meet
  met_expr_list : (y : ExprList-F MetDelimited MetItem MetAtom MetExpr MetFlatPart MetGenerator
      MetHead MetPostfix MetRunPart MetVariable MetAlso MetBlockItem MetCaseClause MetCatch
      MetElif MetElseBlock MetElseClause MetFinally MetNextGenerator MetTypeClause MetExprList
      MetFlat MetNextExpr MetOperand MetRun)
      → telling_expr_list (expr_list_level g (moving_expr_list g (parts_expr_list y)))
      ≡ expr_list_level g
      (map-ExprList D I A E FP G H P RP V AL BI CC C EI EB EC FI NG TC EL F NE O R D I A E FP G H P
      RP V AL BI CC C EI EB EC FI NG TC EL F NE O R h_delimited h_item h_atom h_expr h_flat_part
      h_generator h_head h_postfix h_run_part h_variable h_also h_block_item h_case_clause
      h_catch h_elif h_else_block h_else_clause h_finally h_next_generator h_type_clause
      h_expr_list h_flat h_next_expr h_operand h_run (telling_expr_list (parts_expr_list y)))
  met_expr_list y =
      λ i. record {
        first = y.first.1 i;
        others = each_met told_next_expr (moved_next_expr g) h_next_expr y.others i;
      }

  -- a flat expression
  abbrev telling_flat : Flat-F Delimited Item Atom Expr FlatPart Generator Head Postfix RunPart
      Variable Also BlockItem CaseClause Catch Elif ElseBlock ElseClause Finally NextGenerator
      TypeClause ExprList Flat NextExpr Operand Run
      → Flat-F D I A E FP G H P RP V AL BI CC C EI EB EC FI NG TC EL F NE O R
  telling_flat =
      map-Flat Delimited Item Atom Expr FlatPart Generator Head Postfix RunPart Variable Also
      BlockItem CaseClause Catch Elif ElseBlock ElseClause Finally NextGenerator TypeClause ExprList
      Flat NextExpr Operand Run D I A E FP G H P RP V AL BI CC C EI EB EC FI NG TC EL F NE O R
      told_delimited told_item told_atom told_expr told_flat_part told_generator told_head
      told_postfix told_run_part told_variable told_also told_block_item told_case_clause told_catch
      told_elif told_else_block told_else_clause told_finally told_next_generator told_type_clause
      told_expr_list told_flat told_next_expr told_operand told_run

  -- one level of a flat expression, its parts alone
  abbrev parts_flat : Flat-F MetDelimited MetItem MetAtom MetExpr MetFlatPart MetGenerator MetHead
      MetPostfix MetRunPart MetVariable MetAlso MetBlockItem MetCaseClause MetCatch MetElif
      MetElseBlock MetElseClause MetFinally MetNextGenerator MetTypeClause MetExprList MetFlat
      MetNextExpr MetOperand MetRun
      → Flat-F Delimited Item Atom Expr FlatPart Generator Head Postfix RunPart Variable Also
      BlockItem CaseClause Catch Elif ElseBlock ElseClause Finally NextGenerator TypeClause ExprList
      Flat NextExpr Operand Run
  parts_flat =
      map-Flat MetDelimited MetItem MetAtom MetExpr MetFlatPart MetGenerator MetHead MetPostfix
      MetRunPart MetVariable MetAlso MetBlockItem MetCaseClause MetCatch MetElif MetElseBlock
      MetElseClause MetFinally MetNextGenerator MetTypeClause MetExprList MetFlat MetNextExpr
      MetOperand MetRun Delimited Item Atom Expr FlatPart Generator Head Postfix RunPart Variable
      Also BlockItem CaseClause Catch Elif ElseBlock ElseClause Finally NextGenerator TypeClause
      ExprList Flat NextExpr Operand Run (λ e. e.0) (λ e. e.0) (λ e. e.0) (λ e. e.0) (λ e. e.0)
      (λ e. e.0) (λ e. e.0) (λ e. e.0) (λ e. e.0) (λ e. e.0) (λ e. e.0) (λ e. e.0) (λ e. e.0)
      (λ e. e.0) (λ e. e.0) (λ e. e.0) (λ e. e.0) (λ e. e.0) (λ e. e.0) (λ e. e.0) (λ e. e.0)
      (λ e. e.0) (λ e. e.0) (λ e. e.0) (λ e. e.0)

  -- a flat expression, told by its level
  told_roll_flat : (l : Flat-F Delimited Item Atom Expr FlatPart Generator Head Postfix RunPart
      Variable Also BlockItem CaseClause Catch Elif ElseBlock ElseClause Finally NextGenerator
      TypeClause ExprList Flat NextExpr Operand Run)
      → told_flat (roll-Flat l) ≡ s_flat (telling_flat l)
  unfolding told_delimited told_item told_atom told_expr told_flat_part told_generator told_head
      told_postfix told_run_part told_variable told_also told_block_item told_case_clause told_catch
      told_elif told_else_block told_else_clause told_finally told_next_generator told_type_clause
      told_expr_list told_flat told_next_expr told_operand told_run
  told_roll_flat l =
      fold-roll-Flat D I A E FP G H P RP V AL BI CC C EI EB EC FI NG TC EL F NE O R s_delimited
      s_item s_atom s_expr s_flat_part s_generator s_head s_postfix s_run_part s_variable s_also
      s_block_item s_case_clause s_catch s_elif s_else_block s_else_clause s_finally
      s_next_generator s_type_clause s_expr_list s_flat s_next_expr s_operand s_run l

  -- one level of a flat expression, whose parts meet
  met_flat : (y : Flat-F MetDelimited MetItem MetAtom MetExpr MetFlatPart MetGenerator MetHead
      MetPostfix MetRunPart MetVariable MetAlso MetBlockItem MetCaseClause MetCatch MetElif
      MetElseBlock MetElseClause MetFinally MetNextGenerator MetTypeClause MetExprList MetFlat
      MetNextExpr MetOperand MetRun)
      → telling_flat (flat_level g (moving_flat g (parts_flat y)))
      ≡ flat_level g
      (map-Flat D I A E FP G H P RP V AL BI CC C EI EB EC FI NG TC EL F NE O R D I A E FP G H P RP V
      AL BI CC C EI EB EC FI NG TC EL F NE O R h_delimited h_item h_atom h_expr h_flat_part
      h_generator h_head h_postfix h_run_part h_variable h_also h_block_item h_case_clause
      h_catch h_elif h_else_block h_else_clause h_finally h_next_generator h_type_clause
      h_expr_list h_flat h_next_expr h_operand h_run (telling_flat (parts_flat y)))
  met_flat y =
      λ i. record {
        first = y.first.1 i;
        rest = each_met told_flat_part (moved_flat_part g) h_flat_part y.rest i;
      }

  -- a further expression of a list
  abbrev telling_next_expr : NextExpr-F Delimited Item Atom Expr FlatPart Generator Head Postfix
      RunPart Variable Also BlockItem CaseClause Catch Elif ElseBlock ElseClause Finally
      NextGenerator TypeClause ExprList Flat NextExpr Operand Run
      → NextExpr-F D I A E FP G H P RP V AL BI CC C EI EB EC FI NG TC EL F NE O R
  telling_next_expr =
      map-NextExpr Delimited Item Atom Expr FlatPart Generator Head Postfix RunPart Variable Also
      BlockItem CaseClause Catch Elif ElseBlock ElseClause Finally NextGenerator TypeClause ExprList
      Flat NextExpr Operand Run D I A E FP G H P RP V AL BI CC C EI EB EC FI NG TC EL F NE O R
      told_delimited told_item told_atom told_expr told_flat_part told_generator told_head
      told_postfix told_run_part told_variable told_also told_block_item told_case_clause told_catch
      told_elif told_else_block told_else_clause told_finally told_next_generator told_type_clause
      told_expr_list told_flat told_next_expr told_operand told_run

  -- one level of a further expression of a list, its parts alone
  abbrev parts_next_expr : NextExpr-F MetDelimited MetItem MetAtom MetExpr MetFlatPart MetGenerator
      MetHead MetPostfix MetRunPart MetVariable MetAlso MetBlockItem MetCaseClause MetCatch MetElif
      MetElseBlock MetElseClause MetFinally MetNextGenerator MetTypeClause MetExprList MetFlat
      MetNextExpr MetOperand MetRun
      → NextExpr-F Delimited Item Atom Expr FlatPart Generator Head Postfix RunPart Variable Also
      BlockItem CaseClause Catch Elif ElseBlock ElseClause Finally NextGenerator TypeClause ExprList
      Flat NextExpr Operand Run
  parts_next_expr =
      map-NextExpr MetDelimited MetItem MetAtom MetExpr MetFlatPart MetGenerator MetHead MetPostfix
      MetRunPart MetVariable MetAlso MetBlockItem MetCaseClause MetCatch MetElif MetElseBlock
      MetElseClause MetFinally MetNextGenerator MetTypeClause MetExprList MetFlat MetNextExpr
      MetOperand MetRun Delimited Item Atom Expr FlatPart Generator Head Postfix RunPart Variable
      Also BlockItem CaseClause Catch Elif ElseBlock ElseClause Finally NextGenerator TypeClause
      ExprList Flat NextExpr Operand Run (λ e. e.0) (λ e. e.0) (λ e. e.0) (λ e. e.0) (λ e. e.0)
      (λ e. e.0) (λ e. e.0) (λ e. e.0) (λ e. e.0) (λ e. e.0) (λ e. e.0) (λ e. e.0) (λ e. e.0)
      (λ e. e.0) (λ e. e.0) (λ e. e.0) (λ e. e.0) (λ e. e.0) (λ e. e.0) (λ e. e.0) (λ e. e.0)
      (λ e. e.0) (λ e. e.0) (λ e. e.0) (λ e. e.0)

  -- a further expression of a list, told by its level
  told_roll_next_expr : (l : NextExpr-F Delimited Item Atom Expr FlatPart Generator Head Postfix
      RunPart Variable Also BlockItem CaseClause Catch Elif ElseBlock ElseClause Finally
      NextGenerator TypeClause ExprList Flat NextExpr Operand Run)
      → told_next_expr (roll-NextExpr l) ≡ s_next_expr (telling_next_expr l)
  unfolding told_delimited told_item told_atom told_expr told_flat_part told_generator told_head
      told_postfix told_run_part told_variable told_also told_block_item told_case_clause told_catch
      told_elif told_else_block told_else_clause told_finally told_next_generator told_type_clause
      told_expr_list told_flat told_next_expr told_operand told_run
  told_roll_next_expr l =
      fold-roll-NextExpr D I A E FP G H P RP V AL BI CC C EI EB EC FI NG TC EL F NE O R s_delimited
      s_item s_atom s_expr s_flat_part s_generator s_head s_postfix s_run_part s_variable s_also
      s_block_item s_case_clause s_catch s_elif s_else_block s_else_clause s_finally
      s_next_generator s_type_clause s_expr_list s_flat s_next_expr s_operand s_run l

  -- one level of a further expression of a list, whose parts meet
  met_next_expr : (y : NextExpr-F MetDelimited MetItem MetAtom MetExpr MetFlatPart MetGenerator
      MetHead MetPostfix MetRunPart MetVariable MetAlso MetBlockItem MetCaseClause MetCatch
      MetElif MetElseBlock MetElseClause MetFinally MetNextGenerator MetTypeClause MetExprList
      MetFlat MetNextExpr MetOperand MetRun)
      → telling_next_expr (next_expr_level g (moving_next_expr g (parts_next_expr y)))
      ≡ next_expr_level g
      (map-NextExpr D I A E FP G H P RP V AL BI CC C EI EB EC FI NG TC EL F NE O R D I A E FP G H P
      RP V AL BI CC C EI EB EC FI NG TC EL F NE O R h_delimited h_item h_atom h_expr h_flat_part
      h_generator h_head h_postfix h_run_part h_variable h_also h_block_item h_case_clause
      h_catch h_elif h_else_block h_else_clause h_finally h_next_generator h_type_clause
      h_expr_list h_flat h_next_expr h_operand h_run (telling_next_expr (parts_next_expr y)))
  met_next_expr y = λ i. record { comma = moved_spot g y.comma; expr = y.expr.1 i }

  -- a unit
  abbrev telling_operand : Operand-F Delimited Item Atom Expr FlatPart Generator Head Postfix
      RunPart Variable Also BlockItem CaseClause Catch Elif ElseBlock ElseClause Finally
      NextGenerator TypeClause ExprList Flat NextExpr Operand Run
      → Operand-F D I A E FP G H P RP V AL BI CC C EI EB EC FI NG TC EL F NE O R
  telling_operand =
      map-Operand Delimited Item Atom Expr FlatPart Generator Head Postfix RunPart Variable Also
      BlockItem CaseClause Catch Elif ElseBlock ElseClause Finally NextGenerator TypeClause ExprList
      Flat NextExpr Operand Run D I A E FP G H P RP V AL BI CC C EI EB EC FI NG TC EL F NE O R
      told_delimited told_item told_atom told_expr told_flat_part told_generator told_head
      told_postfix told_run_part told_variable told_also told_block_item told_case_clause told_catch
      told_elif told_else_block told_else_clause told_finally told_next_generator told_type_clause
      told_expr_list told_flat told_next_expr told_operand told_run

  -- one level of a unit, its parts alone
  abbrev parts_operand : Operand-F MetDelimited MetItem MetAtom MetExpr MetFlatPart MetGenerator
      MetHead MetPostfix MetRunPart MetVariable MetAlso MetBlockItem MetCaseClause MetCatch MetElif
      MetElseBlock MetElseClause MetFinally MetNextGenerator MetTypeClause MetExprList MetFlat
      MetNextExpr MetOperand MetRun
      → Operand-F Delimited Item Atom Expr FlatPart Generator Head Postfix RunPart Variable Also
      BlockItem CaseClause Catch Elif ElseBlock ElseClause Finally NextGenerator TypeClause ExprList
      Flat NextExpr Operand Run
  parts_operand =
      map-Operand MetDelimited MetItem MetAtom MetExpr MetFlatPart MetGenerator MetHead MetPostfix
      MetRunPart MetVariable MetAlso MetBlockItem MetCaseClause MetCatch MetElif MetElseBlock
      MetElseClause MetFinally MetNextGenerator MetTypeClause MetExprList MetFlat MetNextExpr
      MetOperand MetRun Delimited Item Atom Expr FlatPart Generator Head Postfix RunPart Variable
      Also BlockItem CaseClause Catch Elif ElseBlock ElseClause Finally NextGenerator TypeClause
      ExprList Flat NextExpr Operand Run (λ e. e.0) (λ e. e.0) (λ e. e.0) (λ e. e.0) (λ e. e.0)
      (λ e. e.0) (λ e. e.0) (λ e. e.0) (λ e. e.0) (λ e. e.0) (λ e. e.0) (λ e. e.0) (λ e. e.0)
      (λ e. e.0) (λ e. e.0) (λ e. e.0) (λ e. e.0) (λ e. e.0) (λ e. e.0) (λ e. e.0) (λ e. e.0)
      (λ e. e.0) (λ e. e.0) (λ e. e.0) (λ e. e.0)

  -- a unit, told by its level
  told_roll_operand : (l : Operand-F Delimited Item Atom Expr FlatPart Generator Head Postfix
      RunPart Variable Also BlockItem CaseClause Catch Elif ElseBlock ElseClause Finally
      NextGenerator TypeClause ExprList Flat NextExpr Operand Run)
      → told_operand (roll-Operand l) ≡ s_operand (telling_operand l)
  unfolding told_delimited told_item told_atom told_expr told_flat_part told_generator told_head
      told_postfix told_run_part told_variable told_also told_block_item told_case_clause told_catch
      told_elif told_else_block told_else_clause told_finally told_next_generator told_type_clause
      told_expr_list told_flat told_next_expr told_operand told_run
  told_roll_operand l =
      fold-roll-Operand D I A E FP G H P RP V AL BI CC C EI EB EC FI NG TC EL F NE O R s_delimited
      s_item s_atom s_expr s_flat_part s_generator s_head s_postfix s_run_part s_variable s_also
      s_block_item s_case_clause s_catch s_elif s_else_block s_else_clause s_finally
      s_next_generator s_type_clause s_expr_list s_flat s_next_expr s_operand s_run l

  -- one level of a unit, whose parts meet
  met_operand : (y : Operand-F MetDelimited MetItem MetAtom MetExpr MetFlatPart MetGenerator MetHead
      MetPostfix MetRunPart MetVariable MetAlso MetBlockItem MetCaseClause MetCatch MetElif
      MetElseBlock MetElseClause MetFinally MetNextGenerator MetTypeClause MetExprList MetFlat
      MetNextExpr MetOperand MetRun)
      → telling_operand (operand_level g (moving_operand g (parts_operand y)))
      ≡ operand_level g
      (map-Operand D I A E FP G H P RP V AL BI CC C EI EB EC FI NG TC EL F NE O R D I A E FP G H P
      RP V AL BI CC C EI EB EC FI NG TC EL F NE O R h_delimited h_item h_atom h_expr h_flat_part
      h_generator h_head h_postfix h_run_part h_variable h_also h_block_item h_case_clause
      h_catch h_elif h_else_block h_else_clause h_finally h_next_generator h_type_clause
      h_expr_list h_flat h_next_expr h_operand h_run (telling_operand (parts_operand y)))
  met_operand y = λ i. record { prefix = option_map (moved_prefix g) y.prefix; run = y.run.1 i }

  -- a run
  abbrev telling_run : Run-F Delimited Item Atom Expr FlatPart Generator Head Postfix RunPart
      Variable Also BlockItem CaseClause Catch Elif ElseBlock ElseClause Finally NextGenerator
      TypeClause ExprList Flat NextExpr Operand Run
      → Run-F D I A E FP G H P RP V AL BI CC C EI EB EC FI NG TC EL F NE O R
  telling_run =
      map-Run Delimited Item Atom Expr FlatPart Generator Head Postfix RunPart Variable Also
      BlockItem CaseClause Catch Elif ElseBlock ElseClause Finally NextGenerator TypeClause ExprList
      Flat NextExpr Operand Run D I A E FP G H P RP V AL BI CC C EI EB EC FI NG TC EL F NE O R
      told_delimited told_item told_atom told_expr told_flat_part told_generator told_head
      told_postfix told_run_part told_variable told_also told_block_item told_case_clause told_catch
      told_elif told_else_block told_else_clause told_finally told_next_generator told_type_clause
      told_expr_list told_flat told_next_expr told_operand told_run

  -- one level of a run, its parts alone
  abbrev parts_run : Run-F MetDelimited MetItem MetAtom MetExpr MetFlatPart MetGenerator MetHead
      MetPostfix MetRunPart MetVariable MetAlso MetBlockItem MetCaseClause MetCatch MetElif
      MetElseBlock MetElseClause MetFinally MetNextGenerator MetTypeClause MetExprList MetFlat
      MetNextExpr MetOperand MetRun
      → Run-F Delimited Item Atom Expr FlatPart Generator Head Postfix RunPart Variable Also
      BlockItem CaseClause Catch Elif ElseBlock ElseClause Finally NextGenerator TypeClause ExprList
      Flat NextExpr Operand Run
  parts_run =
      map-Run MetDelimited MetItem MetAtom MetExpr MetFlatPart MetGenerator MetHead MetPostfix
      MetRunPart MetVariable MetAlso MetBlockItem MetCaseClause MetCatch MetElif MetElseBlock
      MetElseClause MetFinally MetNextGenerator MetTypeClause MetExprList MetFlat MetNextExpr
      MetOperand MetRun Delimited Item Atom Expr FlatPart Generator Head Postfix RunPart Variable
      Also BlockItem CaseClause Catch Elif ElseBlock ElseClause Finally NextGenerator TypeClause
      ExprList Flat NextExpr Operand Run (λ e. e.0) (λ e. e.0) (λ e. e.0) (λ e. e.0) (λ e. e.0)
      (λ e. e.0) (λ e. e.0) (λ e. e.0) (λ e. e.0) (λ e. e.0) (λ e. e.0) (λ e. e.0) (λ e. e.0)
      (λ e. e.0) (λ e. e.0) (λ e. e.0) (λ e. e.0) (λ e. e.0) (λ e. e.0) (λ e. e.0) (λ e. e.0)
      (λ e. e.0) (λ e. e.0) (λ e. e.0) (λ e. e.0)

  -- a run, told by its level
  told_roll_run : (l : Run-F Delimited Item Atom Expr FlatPart Generator Head Postfix RunPart
      Variable Also BlockItem CaseClause Catch Elif ElseBlock ElseClause Finally NextGenerator
      TypeClause ExprList Flat NextExpr Operand Run)
      → told_run (roll-Run l) ≡ s_run (telling_run l)
  unfolding told_delimited told_item told_atom told_expr told_flat_part told_generator told_head
      told_postfix told_run_part told_variable told_also told_block_item told_case_clause told_catch
      told_elif told_else_block told_else_clause told_finally told_next_generator told_type_clause
      told_expr_list told_flat told_next_expr told_operand told_run
  told_roll_run l =
      fold-roll-Run D I A E FP G H P RP V AL BI CC C EI EB EC FI NG TC EL F NE O R s_delimited
      s_item s_atom s_expr s_flat_part s_generator s_head s_postfix s_run_part s_variable s_also
      s_block_item s_case_clause s_catch s_elif s_else_block s_else_clause s_finally
      s_next_generator s_type_clause s_expr_list s_flat s_next_expr s_operand s_run l

  -- one level of a run, whose parts meet
  met_run : (y : Run-F MetDelimited MetItem MetAtom MetExpr MetFlatPart MetGenerator MetHead
      MetPostfix MetRunPart MetVariable MetAlso MetBlockItem MetCaseClause MetCatch MetElif
      MetElseBlock MetElseClause MetFinally MetNextGenerator MetTypeClause MetExprList MetFlat
      MetNextExpr MetOperand MetRun)
      → telling_run (run_level g (moving_run g (parts_run y)))
      ≡ run_level g
      (map-Run D I A E FP G H P RP V AL BI CC C EI EB EC FI NG TC EL F NE O R D I A E FP G H P RP V
      AL BI CC C EI EB EC FI NG TC EL F NE O R h_delimited h_item h_atom h_expr h_flat_part
      h_generator h_head h_postfix h_run_part h_variable h_also h_block_item h_case_clause
      h_catch h_elif h_else_block h_else_clause h_finally h_next_generator h_type_clause
      h_expr_list h_flat h_next_expr h_operand h_run (telling_run (parts_run y)))
  met_run y =
      λ i. record {
        first = y.first.1 i;
        rest = each_met told_run_part (moved_run_part g) h_run_part y.rest i;
      }

  -- a form that ends with `end`, by its parts
  step_delimited : (x : Delimited-F Delimited Item Atom Expr FlatPart Generator Head Postfix RunPart
      Variable Also BlockItem CaseClause Catch Elif ElseBlock ElseClause Finally NextGenerator
      TypeClause ExprList Flat NextExpr Operand Run)
      (y : Delimited-F MetDelimited MetItem MetAtom MetExpr MetFlatPart MetGenerator MetHead
      MetPostfix MetRunPart MetVariable MetAlso MetBlockItem MetCaseClause MetCatch MetElif
      MetElseBlock MetElseClause MetFinally MetNextGenerator MetTypeClause MetExprList MetFlat
      MetNextExpr MetOperand MetRun) → parts_delimited y ≡ x
      → told_delimited (moved_delimited g (roll-Delimited x))
      ≡ h_delimited (told_delimited (roll-Delimited x))
  step_delimited x y is =
      subst (λ x. told_delimited (moved_delimited g (roll-Delimited x))
      ≡ h_delimited (told_delimited (roll-Delimited x))) is
      (ap told_delimited (moved_roll_delimited g (parts_delimited y))
      ∙ told_roll_delimited (delimited_level g (moving_delimited g (parts_delimited y)))
      ∙ ap s_delimited (met_delimited y)
      ∙ meets_delimited (telling_delimited (parts_delimited y))
      ∙ ap h_delimited (sym (told_roll_delimited (parts_delimited y))))

  -- an item of a block, by its parts
  step_item : (x : Item-F Delimited Item Atom Expr FlatPart Generator Head Postfix RunPart Variable
      Also BlockItem CaseClause Catch Elif ElseBlock ElseClause Finally NextGenerator TypeClause
      ExprList Flat NextExpr Operand Run)
      (y : Item-F MetDelimited MetItem MetAtom MetExpr MetFlatPart MetGenerator MetHead MetPostfix
      MetRunPart MetVariable MetAlso MetBlockItem MetCaseClause MetCatch MetElif MetElseBlock
      MetElseClause MetFinally MetNextGenerator MetTypeClause MetExprList MetFlat MetNextExpr
      MetOperand MetRun) → parts_item y ≡ x
      → told_item (moved_item g (roll-Item x)) ≡ h_item (told_item (roll-Item x))
  step_item x y is =
      subst (λ x. told_item (moved_item g (roll-Item x)) ≡ h_item (told_item (roll-Item x))) is
      (ap told_item (moved_roll_item g (parts_item y))
      ∙ told_roll_item (item_level g (moving_item g (parts_item y)))
      ∙ ap s_item (met_item y)
      ∙ meets_item (telling_item (parts_item y)) ∙ ap h_item (sym (told_roll_item (parts_item y))))

  -- an atom, by its parts
  step_atom : (x : Atom-F Delimited Item Atom Expr FlatPart Generator Head Postfix RunPart Variable
      Also BlockItem CaseClause Catch Elif ElseBlock ElseClause Finally NextGenerator TypeClause
      ExprList Flat NextExpr Operand Run)
      (y : Atom-F MetDelimited MetItem MetAtom MetExpr MetFlatPart MetGenerator MetHead MetPostfix
      MetRunPart MetVariable MetAlso MetBlockItem MetCaseClause MetCatch MetElif MetElseBlock
      MetElseClause MetFinally MetNextGenerator MetTypeClause MetExprList MetFlat MetNextExpr
      MetOperand MetRun) → parts_atom y ≡ x
      → told_atom (moved_atom g (roll-Atom x)) ≡ h_atom (told_atom (roll-Atom x))
  step_atom x y is =
      subst (λ x. told_atom (moved_atom g (roll-Atom x)) ≡ h_atom (told_atom (roll-Atom x))) is
      (ap told_atom (moved_roll_atom g (parts_atom y))
      ∙ told_roll_atom (atom_level g (moving_atom g (parts_atom y)))
      ∙ ap s_atom (met_atom y)
      ∙ meets_atom (telling_atom (parts_atom y)) ∙ ap h_atom (sym (told_roll_atom (parts_atom y))))

  -- an expression, by its parts
  step_expr : (x : Expr-F Delimited Item Atom Expr FlatPart Generator Head Postfix RunPart Variable
      Also BlockItem CaseClause Catch Elif ElseBlock ElseClause Finally NextGenerator TypeClause
      ExprList Flat NextExpr Operand Run)
      (y : Expr-F MetDelimited MetItem MetAtom MetExpr MetFlatPart MetGenerator MetHead MetPostfix
      MetRunPart MetVariable MetAlso MetBlockItem MetCaseClause MetCatch MetElif MetElseBlock
      MetElseClause MetFinally MetNextGenerator MetTypeClause MetExprList MetFlat MetNextExpr
      MetOperand MetRun) → parts_expr y ≡ x
      → told_expr (moved_expr g (roll-Expr x)) ≡ h_expr (told_expr (roll-Expr x))
  step_expr x y is =
      subst (λ x. told_expr (moved_expr g (roll-Expr x)) ≡ h_expr (told_expr (roll-Expr x))) is
      (ap told_expr (moved_roll_expr g (parts_expr y))
      ∙ told_roll_expr (expr_level g (moving_expr g (parts_expr y)))
      ∙ ap s_expr (met_expr y)
      ∙ meets_expr (telling_expr (parts_expr y)) ∙ ap h_expr (sym (told_roll_expr (parts_expr y))))

  -- a further part of a flat expression, by its parts
  step_flat_part : (x : FlatPart-F Delimited Item Atom Expr FlatPart Generator Head Postfix RunPart
      Variable Also BlockItem CaseClause Catch Elif ElseBlock ElseClause Finally NextGenerator
      TypeClause ExprList Flat NextExpr Operand Run)
      (y : FlatPart-F MetDelimited MetItem MetAtom MetExpr MetFlatPart MetGenerator MetHead
      MetPostfix MetRunPart MetVariable MetAlso MetBlockItem MetCaseClause MetCatch MetElif
      MetElseBlock MetElseClause MetFinally MetNextGenerator MetTypeClause MetExprList MetFlat
      MetNextExpr MetOperand MetRun) → parts_flat_part y ≡ x
      → told_flat_part (moved_flat_part g (roll-FlatPart x))
      ≡ h_flat_part (told_flat_part (roll-FlatPart x))
  step_flat_part x y is =
      subst (λ x. told_flat_part (moved_flat_part g (roll-FlatPart x))
      ≡ h_flat_part (told_flat_part (roll-FlatPart x))) is
      (ap told_flat_part (moved_roll_flat_part g (parts_flat_part y))
      ∙ told_roll_flat_part (flat_part_level g (moving_flat_part g (parts_flat_part y)))
      ∙ ap s_flat_part (met_flat_part y)
      ∙ meets_flat_part (telling_flat_part (parts_flat_part y))
      ∙ ap h_flat_part (sym (told_roll_flat_part (parts_flat_part y))))

  -- a generator, by its parts
  step_generator : (x : Generator-F Delimited Item Atom Expr FlatPart Generator Head Postfix RunPart
      Variable Also BlockItem CaseClause Catch Elif ElseBlock ElseClause Finally NextGenerator
      TypeClause ExprList Flat NextExpr Operand Run)
      (y : Generator-F MetDelimited MetItem MetAtom MetExpr MetFlatPart MetGenerator MetHead
      MetPostfix MetRunPart MetVariable MetAlso MetBlockItem MetCaseClause MetCatch MetElif
      MetElseBlock MetElseClause MetFinally MetNextGenerator MetTypeClause MetExprList MetFlat
      MetNextExpr MetOperand MetRun) → parts_generator y ≡ x
      → told_generator (moved_generator g (roll-Generator x))
      ≡ h_generator (told_generator (roll-Generator x))
  step_generator x y is =
      subst (λ x. told_generator (moved_generator g (roll-Generator x))
      ≡ h_generator (told_generator (roll-Generator x))) is
      (ap told_generator (moved_roll_generator g (parts_generator y))
      ∙ told_roll_generator (generator_level g (moving_generator g (parts_generator y)))
      ∙ ap s_generator (met_generator y)
      ∙ meets_generator (telling_generator (parts_generator y))
      ∙ ap h_generator (sym (told_roll_generator (parts_generator y))))

  -- a head, by its parts
  step_head : (x : Head-F Delimited Item Atom Expr FlatPart Generator Head Postfix RunPart Variable
      Also BlockItem CaseClause Catch Elif ElseBlock ElseClause Finally NextGenerator TypeClause
      ExprList Flat NextExpr Operand Run)
      (y : Head-F MetDelimited MetItem MetAtom MetExpr MetFlatPart MetGenerator MetHead MetPostfix
      MetRunPart MetVariable MetAlso MetBlockItem MetCaseClause MetCatch MetElif MetElseBlock
      MetElseClause MetFinally MetNextGenerator MetTypeClause MetExprList MetFlat MetNextExpr
      MetOperand MetRun) → parts_head y ≡ x
      → told_head (moved_head g (roll-Head x)) ≡ h_head (told_head (roll-Head x))
  step_head x y is =
      subst (λ x. told_head (moved_head g (roll-Head x)) ≡ h_head (told_head (roll-Head x))) is
      (ap told_head (moved_roll_head g (parts_head y))
      ∙ told_roll_head (head_level g (moving_head g (parts_head y)))
      ∙ ap s_head (met_head y)
      ∙ meets_head (telling_head (parts_head y)) ∙ ap h_head (sym (told_roll_head (parts_head y))))

  -- a postfix, by its parts
  step_postfix : (x : Postfix-F Delimited Item Atom Expr FlatPart Generator Head Postfix RunPart
      Variable Also BlockItem CaseClause Catch Elif ElseBlock ElseClause Finally NextGenerator
      TypeClause ExprList Flat NextExpr Operand Run)
      (y : Postfix-F MetDelimited MetItem MetAtom MetExpr MetFlatPart MetGenerator MetHead
      MetPostfix MetRunPart MetVariable MetAlso MetBlockItem MetCaseClause MetCatch MetElif
      MetElseBlock MetElseClause MetFinally MetNextGenerator MetTypeClause MetExprList MetFlat
      MetNextExpr MetOperand MetRun) → parts_postfix y ≡ x
      → told_postfix (moved_postfix g (roll-Postfix x)) ≡ h_postfix (told_postfix (roll-Postfix x))
  step_postfix x y is =
      subst (λ x. told_postfix (moved_postfix g (roll-Postfix x))
      ≡ h_postfix (told_postfix (roll-Postfix x))) is
      (ap told_postfix (moved_roll_postfix g (parts_postfix y))
      ∙ told_roll_postfix (postfix_level g (moving_postfix g (parts_postfix y)))
      ∙ ap s_postfix (met_postfix y)
      ∙ meets_postfix (telling_postfix (parts_postfix y))
      ∙ ap h_postfix (sym (told_roll_postfix (parts_postfix y))))

  -- a further part of a run, by its parts
  step_run_part : (x : RunPart-F Delimited Item Atom Expr FlatPart Generator Head Postfix RunPart
      Variable Also BlockItem CaseClause Catch Elif ElseBlock ElseClause Finally NextGenerator
      TypeClause ExprList Flat NextExpr Operand Run)
      (y : RunPart-F MetDelimited MetItem MetAtom MetExpr MetFlatPart MetGenerator MetHead
      MetPostfix MetRunPart MetVariable MetAlso MetBlockItem MetCaseClause MetCatch MetElif
      MetElseBlock MetElseClause MetFinally MetNextGenerator MetTypeClause MetExprList MetFlat
      MetNextExpr MetOperand MetRun) → parts_run_part y ≡ x
      → told_run_part (moved_run_part g (roll-RunPart x))
      ≡ h_run_part (told_run_part (roll-RunPart x))
  step_run_part x y is =
      subst (λ x. told_run_part (moved_run_part g (roll-RunPart x))
      ≡ h_run_part (told_run_part (roll-RunPart x))) is
      (ap told_run_part (moved_roll_run_part g (parts_run_part y))
      ∙ told_roll_run_part (run_part_level g (moving_run_part g (parts_run_part y)))
      ∙ ap s_run_part (met_run_part y)
      ∙ meets_run_part (telling_run_part (parts_run_part y))
      ∙ ap h_run_part (sym (told_roll_run_part (parts_run_part y))))

  -- a declaration of a variable, by its parts
  step_variable : (x : Variable-F Delimited Item Atom Expr FlatPart Generator Head Postfix RunPart
      Variable Also BlockItem CaseClause Catch Elif ElseBlock ElseClause Finally NextGenerator
      TypeClause ExprList Flat NextExpr Operand Run)
      (y : Variable-F MetDelimited MetItem MetAtom MetExpr MetFlatPart MetGenerator MetHead
      MetPostfix MetRunPart MetVariable MetAlso MetBlockItem MetCaseClause MetCatch MetElif
      MetElseBlock MetElseClause MetFinally MetNextGenerator MetTypeClause MetExprList MetFlat
      MetNextExpr MetOperand MetRun) → parts_variable y ≡ x
      → told_variable (moved_variable g (roll-Variable x))
      ≡ h_variable (told_variable (roll-Variable x))
  step_variable x y is =
      subst (λ x. told_variable (moved_variable g (roll-Variable x))
      ≡ h_variable (told_variable (roll-Variable x))) is
      (ap told_variable (moved_roll_variable g (parts_variable y))
      ∙ told_roll_variable (variable_level g (moving_variable g (parts_variable y)))
      ∙ ap s_variable (met_variable y)
      ∙ meets_variable (telling_variable (parts_variable y))
      ∙ ap h_variable (sym (told_roll_variable (parts_variable y))))

  -- an `also` with its block, by its parts
  step_also : (x : Also-F Delimited Item Atom Expr FlatPart Generator Head Postfix RunPart Variable
      Also BlockItem CaseClause Catch Elif ElseBlock ElseClause Finally NextGenerator TypeClause
      ExprList Flat NextExpr Operand Run)
      (y : Also-F MetDelimited MetItem MetAtom MetExpr MetFlatPart MetGenerator MetHead MetPostfix
      MetRunPart MetVariable MetAlso MetBlockItem MetCaseClause MetCatch MetElif MetElseBlock
      MetElseClause MetFinally MetNextGenerator MetTypeClause MetExprList MetFlat MetNextExpr
      MetOperand MetRun) → parts_also y ≡ x
      → told_also (moved_also g (roll-Also x)) ≡ h_also (told_also (roll-Also x))
  step_also x y is =
      subst (λ x. told_also (moved_also g (roll-Also x)) ≡ h_also (told_also (roll-Also x))) is
      (ap told_also (moved_roll_also g (parts_also y))
      ∙ told_roll_also (also_level g (moving_also g (parts_also y)))
      ∙ ap s_also (met_also y)
      ∙ meets_also (telling_also (parts_also y)) ∙ ap h_also (sym (told_roll_also (parts_also y))))

  -- an item of a block with its `;`, by its parts
  step_block_item : (x : BlockItem-F Delimited Item Atom Expr FlatPart Generator Head Postfix
      RunPart Variable Also BlockItem CaseClause Catch Elif ElseBlock ElseClause Finally
      NextGenerator TypeClause ExprList Flat NextExpr Operand Run)
      (y : BlockItem-F MetDelimited MetItem MetAtom MetExpr MetFlatPart MetGenerator MetHead
      MetPostfix MetRunPart MetVariable MetAlso MetBlockItem MetCaseClause MetCatch MetElif
      MetElseBlock MetElseClause MetFinally MetNextGenerator MetTypeClause MetExprList MetFlat
      MetNextExpr MetOperand MetRun) → parts_block_item y ≡ x
      → told_block_item (moved_block_item g (roll-BlockItem x))
      ≡ h_block_item (told_block_item (roll-BlockItem x))
  step_block_item x y is =
      subst (λ x. told_block_item (moved_block_item g (roll-BlockItem x))
      ≡ h_block_item (told_block_item (roll-BlockItem x))) is
      (ap told_block_item (moved_roll_block_item g (parts_block_item y))
      ∙ told_roll_block_item (block_item_level g (moving_block_item g (parts_block_item y)))
      ∙ ap s_block_item (met_block_item y)
      ∙ meets_block_item (telling_block_item (parts_block_item y))
      ∙ ap h_block_item (sym (told_roll_block_item (parts_block_item y))))

  -- a clause of a `case`, by its parts
  step_case_clause : (x : CaseClause-F Delimited Item Atom Expr FlatPart Generator Head Postfix
      RunPart Variable Also BlockItem CaseClause Catch Elif ElseBlock ElseClause Finally
      NextGenerator TypeClause ExprList Flat NextExpr Operand Run)
      (y : CaseClause-F MetDelimited MetItem MetAtom MetExpr MetFlatPart MetGenerator MetHead
      MetPostfix MetRunPart MetVariable MetAlso MetBlockItem MetCaseClause MetCatch MetElif
      MetElseBlock MetElseClause MetFinally MetNextGenerator MetTypeClause MetExprList MetFlat
      MetNextExpr MetOperand MetRun) → parts_case_clause y ≡ x
      → told_case_clause (moved_case_clause g (roll-CaseClause x))
      ≡ h_case_clause (told_case_clause (roll-CaseClause x))
  step_case_clause x y is =
      subst (λ x. told_case_clause (moved_case_clause g (roll-CaseClause x))
      ≡ h_case_clause (told_case_clause (roll-CaseClause x))) is
      (ap told_case_clause (moved_roll_case_clause g (parts_case_clause y))
      ∙ told_roll_case_clause
      (case_clause_level g (moving_case_clause g (parts_case_clause y)))
      ∙ ap s_case_clause (met_case_clause y)
      ∙ meets_case_clause (telling_case_clause (parts_case_clause y))
      ∙ ap h_case_clause (sym (told_roll_case_clause (parts_case_clause y))))

  -- a `catch`, by its parts
  step_catch : (x : Catch-F Delimited Item Atom Expr FlatPart Generator Head Postfix RunPart
      Variable Also BlockItem CaseClause Catch Elif ElseBlock ElseClause Finally NextGenerator
      TypeClause ExprList Flat NextExpr Operand Run)
      (y : Catch-F MetDelimited MetItem MetAtom MetExpr MetFlatPart MetGenerator MetHead MetPostfix
      MetRunPart MetVariable MetAlso MetBlockItem MetCaseClause MetCatch MetElif MetElseBlock
      MetElseClause MetFinally MetNextGenerator MetTypeClause MetExprList MetFlat MetNextExpr
      MetOperand MetRun) → parts_catch y ≡ x
      → told_catch (moved_catch g (roll-Catch x)) ≡ h_catch (told_catch (roll-Catch x))
  step_catch x y is =
      subst (λ x. told_catch (moved_catch g (roll-Catch x))
      ≡ h_catch (told_catch (roll-Catch x))) is
      (ap told_catch (moved_roll_catch g (parts_catch y))
      ∙ told_roll_catch (catch_level g (moving_catch g (parts_catch y)))
      ∙ ap s_catch (met_catch y)
      ∙ meets_catch (telling_catch (parts_catch y))
      ∙ ap h_catch (sym (told_roll_catch (parts_catch y))))

  -- an `elif`, by its parts
  step_elif : (x : Elif-F Delimited Item Atom Expr FlatPart Generator Head Postfix RunPart Variable
      Also BlockItem CaseClause Catch Elif ElseBlock ElseClause Finally NextGenerator TypeClause
      ExprList Flat NextExpr Operand Run)
      (y : Elif-F MetDelimited MetItem MetAtom MetExpr MetFlatPart MetGenerator MetHead MetPostfix
      MetRunPart MetVariable MetAlso MetBlockItem MetCaseClause MetCatch MetElif MetElseBlock
      MetElseClause MetFinally MetNextGenerator MetTypeClause MetExprList MetFlat MetNextExpr
      MetOperand MetRun) → parts_elif y ≡ x
      → told_elif (moved_elif g (roll-Elif x)) ≡ h_elif (told_elif (roll-Elif x))
  step_elif x y is =
      subst (λ x. told_elif (moved_elif g (roll-Elif x)) ≡ h_elif (told_elif (roll-Elif x))) is
      (ap told_elif (moved_roll_elif g (parts_elif y))
      ∙ told_roll_elif (elif_level g (moving_elif g (parts_elif y)))
      ∙ ap s_elif (met_elif y)
      ∙ meets_elif (telling_elif (parts_elif y)) ∙ ap h_elif (sym (told_roll_elif (parts_elif y))))

  -- the `else` of an `if`, by its parts
  step_else_block : (x : ElseBlock-F Delimited Item Atom Expr FlatPart Generator Head Postfix
      RunPart Variable Also BlockItem CaseClause Catch Elif ElseBlock ElseClause Finally
      NextGenerator TypeClause ExprList Flat NextExpr Operand Run)
      (y : ElseBlock-F MetDelimited MetItem MetAtom MetExpr MetFlatPart MetGenerator MetHead
      MetPostfix MetRunPart MetVariable MetAlso MetBlockItem MetCaseClause MetCatch MetElif
      MetElseBlock MetElseClause MetFinally MetNextGenerator MetTypeClause MetExprList MetFlat
      MetNextExpr MetOperand MetRun) → parts_else_block y ≡ x
      → told_else_block (moved_else_block g (roll-ElseBlock x))
      ≡ h_else_block (told_else_block (roll-ElseBlock x))
  step_else_block x y is =
      subst (λ x. told_else_block (moved_else_block g (roll-ElseBlock x))
      ≡ h_else_block (told_else_block (roll-ElseBlock x))) is
      (ap told_else_block (moved_roll_else_block g (parts_else_block y))
      ∙ told_roll_else_block (else_block_level g (moving_else_block g (parts_else_block y)))
      ∙ ap s_else_block (met_else_block y)
      ∙ meets_else_block (telling_else_block (parts_else_block y))
      ∙ ap h_else_block (sym (told_roll_else_block (parts_else_block y))))

  -- the `else` of a `case` or `typecase`, by its parts
  step_else_clause : (x : ElseClause-F Delimited Item Atom Expr FlatPart Generator Head Postfix
      RunPart Variable Also BlockItem CaseClause Catch Elif ElseBlock ElseClause Finally
      NextGenerator TypeClause ExprList Flat NextExpr Operand Run)
      (y : ElseClause-F MetDelimited MetItem MetAtom MetExpr MetFlatPart MetGenerator MetHead
      MetPostfix MetRunPart MetVariable MetAlso MetBlockItem MetCaseClause MetCatch MetElif
      MetElseBlock MetElseClause MetFinally MetNextGenerator MetTypeClause MetExprList MetFlat
      MetNextExpr MetOperand MetRun) → parts_else_clause y ≡ x
      → told_else_clause (moved_else_clause g (roll-ElseClause x))
      ≡ h_else_clause (told_else_clause (roll-ElseClause x))
  step_else_clause x y is =
      subst (λ x. told_else_clause (moved_else_clause g (roll-ElseClause x))
      ≡ h_else_clause (told_else_clause (roll-ElseClause x))) is
      (ap told_else_clause (moved_roll_else_clause g (parts_else_clause y))
      ∙ told_roll_else_clause
      (else_clause_level g (moving_else_clause g (parts_else_clause y)))
      ∙ ap s_else_clause (met_else_clause y)
      ∙ meets_else_clause (telling_else_clause (parts_else_clause y))
      ∙ ap h_else_clause (sym (told_roll_else_clause (parts_else_clause y))))

  -- a `finally`, by its parts
  step_finally : (x : Finally-F Delimited Item Atom Expr FlatPart Generator Head Postfix RunPart
      Variable Also BlockItem CaseClause Catch Elif ElseBlock ElseClause Finally NextGenerator
      TypeClause ExprList Flat NextExpr Operand Run)
      (y : Finally-F MetDelimited MetItem MetAtom MetExpr MetFlatPart MetGenerator MetHead
      MetPostfix MetRunPart MetVariable MetAlso MetBlockItem MetCaseClause MetCatch MetElif
      MetElseBlock MetElseClause MetFinally MetNextGenerator MetTypeClause MetExprList MetFlat
      MetNextExpr MetOperand MetRun) → parts_finally y ≡ x
      → told_finally (moved_finally g (roll-Finally x)) ≡ h_finally (told_finally (roll-Finally x))
  step_finally x y is =
      subst (λ x. told_finally (moved_finally g (roll-Finally x))
      ≡ h_finally (told_finally (roll-Finally x))) is
      (ap told_finally (moved_roll_finally g (parts_finally y))
      ∙ told_roll_finally (finally_level g (moving_finally g (parts_finally y)))
      ∙ ap s_finally (met_finally y)
      ∙ meets_finally (telling_finally (parts_finally y))
      ∙ ap h_finally (sym (told_roll_finally (parts_finally y))))

  -- a further generator of a `for`, by its parts
  step_next_generator : (x : NextGenerator-F Delimited Item Atom Expr FlatPart Generator Head
      Postfix RunPart Variable Also BlockItem CaseClause Catch Elif ElseBlock ElseClause Finally
      NextGenerator TypeClause ExprList Flat NextExpr Operand Run)
      (y : NextGenerator-F MetDelimited MetItem MetAtom MetExpr MetFlatPart MetGenerator MetHead
      MetPostfix MetRunPart MetVariable MetAlso MetBlockItem MetCaseClause MetCatch MetElif
      MetElseBlock MetElseClause MetFinally MetNextGenerator MetTypeClause MetExprList MetFlat
      MetNextExpr MetOperand MetRun) → parts_next_generator y ≡ x
      → told_next_generator (moved_next_generator g (roll-NextGenerator x))
      ≡ h_next_generator (told_next_generator (roll-NextGenerator x))
  step_next_generator x y is =
      subst (λ x. told_next_generator (moved_next_generator g (roll-NextGenerator x))
      ≡ h_next_generator (told_next_generator (roll-NextGenerator x))) is
      (ap told_next_generator (moved_roll_next_generator g (parts_next_generator y))
      ∙ told_roll_next_generator
      (next_generator_level g (moving_next_generator g (parts_next_generator y)))
      ∙ ap s_next_generator (met_next_generator y)
      ∙ meets_next_generator (telling_next_generator (parts_next_generator y))
      ∙ ap h_next_generator (sym (told_roll_next_generator (parts_next_generator y))))

  -- a clause of a `typecase` or `catch`, by its parts
  step_type_clause : (x : TypeClause-F Delimited Item Atom Expr FlatPart Generator Head Postfix
      RunPart Variable Also BlockItem CaseClause Catch Elif ElseBlock ElseClause Finally
      NextGenerator TypeClause ExprList Flat NextExpr Operand Run)
      (y : TypeClause-F MetDelimited MetItem MetAtom MetExpr MetFlatPart MetGenerator MetHead
      MetPostfix MetRunPart MetVariable MetAlso MetBlockItem MetCaseClause MetCatch MetElif
      MetElseBlock MetElseClause MetFinally MetNextGenerator MetTypeClause MetExprList MetFlat
      MetNextExpr MetOperand MetRun) → parts_type_clause y ≡ x
      → told_type_clause (moved_type_clause g (roll-TypeClause x))
      ≡ h_type_clause (told_type_clause (roll-TypeClause x))
  step_type_clause x y is =
      subst (λ x. told_type_clause (moved_type_clause g (roll-TypeClause x))
      ≡ h_type_clause (told_type_clause (roll-TypeClause x))) is
      (ap told_type_clause (moved_roll_type_clause g (parts_type_clause y))
      ∙ told_roll_type_clause
      (type_clause_level g (moving_type_clause g (parts_type_clause y)))
      ∙ ap s_type_clause (met_type_clause y)
      ∙ meets_type_clause (telling_type_clause (parts_type_clause y))
      ∙ ap h_type_clause (sym (told_roll_type_clause (parts_type_clause y))))

  -- a list of expressions, by its parts
  step_expr_list : (x : ExprList-F Delimited Item Atom Expr FlatPart Generator Head Postfix RunPart
      Variable Also BlockItem CaseClause Catch Elif ElseBlock ElseClause Finally NextGenerator
      TypeClause ExprList Flat NextExpr Operand Run)
      (y : ExprList-F MetDelimited MetItem MetAtom MetExpr MetFlatPart MetGenerator MetHead
      MetPostfix MetRunPart MetVariable MetAlso MetBlockItem MetCaseClause MetCatch MetElif
      MetElseBlock MetElseClause MetFinally MetNextGenerator MetTypeClause MetExprList MetFlat
      MetNextExpr MetOperand MetRun) → parts_expr_list y ≡ x
      → told_expr_list (moved_expr_list g (roll-ExprList x))
      ≡ h_expr_list (told_expr_list (roll-ExprList x))
  step_expr_list x y is =
      subst (λ x. told_expr_list (moved_expr_list g (roll-ExprList x))
      ≡ h_expr_list (told_expr_list (roll-ExprList x))) is
      (ap told_expr_list (moved_roll_expr_list g (parts_expr_list y))
      ∙ told_roll_expr_list (expr_list_level g (moving_expr_list g (parts_expr_list y)))
      ∙ ap s_expr_list (met_expr_list y)
      ∙ meets_expr_list (telling_expr_list (parts_expr_list y))
      ∙ ap h_expr_list (sym (told_roll_expr_list (parts_expr_list y))))

  -- a flat expression, by its parts
  step_flat : (x : Flat-F Delimited Item Atom Expr FlatPart Generator Head Postfix RunPart Variable
      Also BlockItem CaseClause Catch Elif ElseBlock ElseClause Finally NextGenerator TypeClause
      ExprList Flat NextExpr Operand Run)
      (y : Flat-F MetDelimited MetItem MetAtom MetExpr MetFlatPart MetGenerator MetHead MetPostfix
      MetRunPart MetVariable MetAlso MetBlockItem MetCaseClause MetCatch MetElif MetElseBlock
      MetElseClause MetFinally MetNextGenerator MetTypeClause MetExprList MetFlat MetNextExpr
      MetOperand MetRun) → parts_flat y ≡ x
      → told_flat (moved_flat g (roll-Flat x)) ≡ h_flat (told_flat (roll-Flat x))
  step_flat x y is =
      subst (λ x. told_flat (moved_flat g (roll-Flat x)) ≡ h_flat (told_flat (roll-Flat x))) is
      (ap told_flat (moved_roll_flat g (parts_flat y))
      ∙ told_roll_flat (flat_level g (moving_flat g (parts_flat y)))
      ∙ ap s_flat (met_flat y)
      ∙ meets_flat (telling_flat (parts_flat y)) ∙ ap h_flat (sym (told_roll_flat (parts_flat y))))

  -- a further expression of a list, by its parts
  step_next_expr : (x : NextExpr-F Delimited Item Atom Expr FlatPart Generator Head Postfix RunPart
      Variable Also BlockItem CaseClause Catch Elif ElseBlock ElseClause Finally NextGenerator
      TypeClause ExprList Flat NextExpr Operand Run)
      (y : NextExpr-F MetDelimited MetItem MetAtom MetExpr MetFlatPart MetGenerator MetHead
      MetPostfix MetRunPart MetVariable MetAlso MetBlockItem MetCaseClause MetCatch MetElif
      MetElseBlock MetElseClause MetFinally MetNextGenerator MetTypeClause MetExprList MetFlat
      MetNextExpr MetOperand MetRun) → parts_next_expr y ≡ x
      → told_next_expr (moved_next_expr g (roll-NextExpr x))
      ≡ h_next_expr (told_next_expr (roll-NextExpr x))
  step_next_expr x y is =
      subst (λ x. told_next_expr (moved_next_expr g (roll-NextExpr x))
      ≡ h_next_expr (told_next_expr (roll-NextExpr x))) is
      (ap told_next_expr (moved_roll_next_expr g (parts_next_expr y))
      ∙ told_roll_next_expr (next_expr_level g (moving_next_expr g (parts_next_expr y)))
      ∙ ap s_next_expr (met_next_expr y)
      ∙ meets_next_expr (telling_next_expr (parts_next_expr y))
      ∙ ap h_next_expr (sym (told_roll_next_expr (parts_next_expr y))))

  -- a unit, by its parts
  step_operand : (x : Operand-F Delimited Item Atom Expr FlatPart Generator Head Postfix RunPart
      Variable Also BlockItem CaseClause Catch Elif ElseBlock ElseClause Finally NextGenerator
      TypeClause ExprList Flat NextExpr Operand Run)
      (y : Operand-F MetDelimited MetItem MetAtom MetExpr MetFlatPart MetGenerator MetHead
      MetPostfix MetRunPart MetVariable MetAlso MetBlockItem MetCaseClause MetCatch MetElif
      MetElseBlock MetElseClause MetFinally MetNextGenerator MetTypeClause MetExprList MetFlat
      MetNextExpr MetOperand MetRun) → parts_operand y ≡ x
      → told_operand (moved_operand g (roll-Operand x)) ≡ h_operand (told_operand (roll-Operand x))
  step_operand x y is =
      subst (λ x. told_operand (moved_operand g (roll-Operand x))
      ≡ h_operand (told_operand (roll-Operand x))) is
      (ap told_operand (moved_roll_operand g (parts_operand y))
      ∙ told_roll_operand (operand_level g (moving_operand g (parts_operand y)))
      ∙ ap s_operand (met_operand y)
      ∙ meets_operand (telling_operand (parts_operand y))
      ∙ ap h_operand (sym (told_roll_operand (parts_operand y))))

  -- a run, by its parts
  step_run : (x : Run-F Delimited Item Atom Expr FlatPart Generator Head Postfix RunPart Variable
      Also BlockItem CaseClause Catch Elif ElseBlock ElseClause Finally NextGenerator TypeClause
      ExprList Flat NextExpr Operand Run)
      (y : Run-F MetDelimited MetItem MetAtom MetExpr MetFlatPart MetGenerator MetHead MetPostfix
      MetRunPart MetVariable MetAlso MetBlockItem MetCaseClause MetCatch MetElif MetElseBlock
      MetElseClause MetFinally MetNextGenerator MetTypeClause MetExprList MetFlat MetNextExpr
      MetOperand MetRun) → parts_run y ≡ x
      → told_run (moved_run g (roll-Run x)) ≡ h_run (told_run (roll-Run x))
  step_run x y is =
      subst (λ x. told_run (moved_run g (roll-Run x)) ≡ h_run (told_run (roll-Run x))) is
      (ap told_run (moved_roll_run g (parts_run y))
      ∙ told_roll_run (run_level g (moving_run g (parts_run y))) ∙ ap s_run (met_run y)
      ∙ meets_run (telling_run (parts_run y)) ∙ ap h_run (sym (told_roll_run (parts_run y))))

  -- an expression: a fold of it moved
  pub fold_moved_expr : (t : Expr)
      → fold-Expr D I A E FP G H P RP V AL BI CC C EI EB EC FI NG TC EL F NE O R s_delimited s_item
      s_atom s_expr s_flat_part s_generator s_head s_postfix s_run_part s_variable s_also
      s_block_item s_case_clause s_catch s_elif s_else_block s_else_clause s_finally
      s_next_generator s_type_clause s_expr_list s_flat s_next_expr s_operand s_run (moved_expr g t)
      ≡ h_expr (fold-Expr D I A E FP G H P RP V AL BI CC C EI EB EC FI NG TC EL F NE O R s_delimited
      s_item s_atom s_expr s_flat_part s_generator s_head s_postfix s_run_part s_variable s_also
      s_block_item s_case_clause s_catch s_elif s_else_block s_else_clause s_finally
      s_next_generator s_type_clause s_expr_list s_flat s_next_expr s_operand s_run t)
  unfolding told_expr
  fold_moved_expr =
      ind-Expr (λ t. told_delimited (moved_delimited g t)
      ≡ h_delimited (told_delimited t)) (λ t. told_item (moved_item g t)
      ≡ h_item (told_item t)) (λ t. told_atom (moved_atom g t)
      ≡ h_atom (told_atom t)) (λ t. told_expr (moved_expr g t)
      ≡ h_expr (told_expr t)) (λ t. told_flat_part (moved_flat_part g t)
      ≡ h_flat_part (told_flat_part t)) (λ t. told_generator (moved_generator g t)
      ≡ h_generator (told_generator t)) (λ t. told_head (moved_head g t)
      ≡ h_head (told_head t)) (λ t. told_postfix (moved_postfix g t)
      ≡ h_postfix (told_postfix t)) (λ t. told_run_part (moved_run_part g t)
      ≡ h_run_part (told_run_part t)) (λ t. told_variable (moved_variable g t)
      ≡ h_variable (told_variable t)) (λ t. told_also (moved_also g t)
      ≡ h_also (told_also t)) (λ t. told_block_item (moved_block_item g t)
      ≡ h_block_item (told_block_item t)) (λ t. told_case_clause (moved_case_clause g t)
      ≡ h_case_clause (told_case_clause t)) (λ t. told_catch (moved_catch g t)
      ≡ h_catch (told_catch t)) (λ t. told_elif (moved_elif g t)
      ≡ h_elif (told_elif t)) (λ t. told_else_block (moved_else_block g t)
      ≡ h_else_block (told_else_block t)) (λ t. told_else_clause (moved_else_clause g t)
      ≡ h_else_clause (told_else_clause t)) (λ t. told_finally (moved_finally g t)
      ≡ h_finally (told_finally t)) (λ t. told_next_generator (moved_next_generator g t)
      ≡ h_next_generator (told_next_generator t)) (λ t. told_type_clause (moved_type_clause g t)
      ≡ h_type_clause (told_type_clause t)) (λ t. told_expr_list (moved_expr_list g t)
      ≡ h_expr_list (told_expr_list t)) (λ t. told_flat (moved_flat g t)
      ≡ h_flat (told_flat t)) (λ t. told_next_expr (moved_next_expr g t)
      ≡ h_next_expr (told_next_expr t)) (λ t. told_operand (moved_operand g t)
      ≡ h_operand (told_operand t)) (λ t. told_run (moved_run g t)
      ≡ h_run (told_run t)) step_delimited step_item step_atom step_expr step_flat_part
      step_generator step_head step_postfix step_run_part step_variable step_also step_block_item
      step_case_clause step_catch step_elif step_else_block step_else_clause step_finally
      step_next_generator step_type_clause step_expr_list step_flat step_next_expr step_operand
      step_run

  -- a declaration of a variable: a fold of it moved
  pub fold_moved_variable : (t : Variable)
      → fold-Variable D I A E FP G H P RP V AL BI CC C EI EB EC FI NG TC EL F NE O R s_delimited
      s_item s_atom s_expr s_flat_part s_generator s_head s_postfix s_run_part s_variable s_also
      s_block_item s_case_clause s_catch s_elif s_else_block s_else_clause s_finally
      s_next_generator s_type_clause s_expr_list s_flat s_next_expr s_operand s_run
      (moved_variable g t)
      ≡ h_variable
      (fold-Variable D I A E FP G H P RP V AL BI CC C EI EB EC FI NG TC EL F NE O R s_delimited
      s_item s_atom s_expr s_flat_part s_generator s_head s_postfix s_run_part s_variable s_also
      s_block_item s_case_clause s_catch s_elif s_else_block s_else_clause s_finally
      s_next_generator s_type_clause s_expr_list s_flat s_next_expr s_operand s_run t)
  unfolding told_variable
  fold_moved_variable =
      ind-Variable (λ t. told_delimited (moved_delimited g t)
      ≡ h_delimited (told_delimited t)) (λ t. told_item (moved_item g t)
      ≡ h_item (told_item t)) (λ t. told_atom (moved_atom g t)
      ≡ h_atom (told_atom t)) (λ t. told_expr (moved_expr g t)
      ≡ h_expr (told_expr t)) (λ t. told_flat_part (moved_flat_part g t)
      ≡ h_flat_part (told_flat_part t)) (λ t. told_generator (moved_generator g t)
      ≡ h_generator (told_generator t)) (λ t. told_head (moved_head g t)
      ≡ h_head (told_head t)) (λ t. told_postfix (moved_postfix g t)
      ≡ h_postfix (told_postfix t)) (λ t. told_run_part (moved_run_part g t)
      ≡ h_run_part (told_run_part t)) (λ t. told_variable (moved_variable g t)
      ≡ h_variable (told_variable t)) (λ t. told_also (moved_also g t)
      ≡ h_also (told_also t)) (λ t. told_block_item (moved_block_item g t)
      ≡ h_block_item (told_block_item t)) (λ t. told_case_clause (moved_case_clause g t)
      ≡ h_case_clause (told_case_clause t)) (λ t. told_catch (moved_catch g t)
      ≡ h_catch (told_catch t)) (λ t. told_elif (moved_elif g t)
      ≡ h_elif (told_elif t)) (λ t. told_else_block (moved_else_block g t)
      ≡ h_else_block (told_else_block t)) (λ t. told_else_clause (moved_else_clause g t)
      ≡ h_else_clause (told_else_clause t)) (λ t. told_finally (moved_finally g t)
      ≡ h_finally (told_finally t)) (λ t. told_next_generator (moved_next_generator g t)
      ≡ h_next_generator (told_next_generator t)) (λ t. told_type_clause (moved_type_clause g t)
      ≡ h_type_clause (told_type_clause t)) (λ t. told_expr_list (moved_expr_list g t)
      ≡ h_expr_list (told_expr_list t)) (λ t. told_flat (moved_flat g t)
      ≡ h_flat (told_flat t)) (λ t. told_next_expr (moved_next_expr g t)
      ≡ h_next_expr (told_next_expr t)) (λ t. told_operand (moved_operand g t)
      ≡ h_operand (told_operand t)) (λ t. told_run (moved_run g t)
      ≡ h_run (told_run t)) step_delimited step_item step_atom step_expr step_flat_part
      step_generator step_head step_postfix step_run_part step_variable step_also step_block_item
      step_case_clause step_catch step_elif step_else_block step_else_clause step_finally
      step_next_generator step_type_clause step_expr_list step_flat step_next_expr step_operand
      step_run
