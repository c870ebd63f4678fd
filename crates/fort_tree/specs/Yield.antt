-- The chapter "Grammar": what each tree that a block may stand in says, by its levels.
use Rattle.fort_tree.specs.declared.delimited.Delimited.{Delimited}
use Rattle.fort_tree.specs.declared.delimited.Item.{Item}
use Rattle.fort_tree.specs.declared.expr.Atom.{Atom}
use Rattle.fort_tree.specs.declared.expr.Expr.{Expr}
use Rattle.fort_tree.specs.declared.expr.FlatPart.{FlatPart}
use Rattle.fort_tree.specs.declared.expr.Generator.{Generator}
use Rattle.fort_tree.specs.declared.expr.Head.{Head}
use Rattle.fort_tree.specs.declared.expr.Postfix.{Postfix}
use Rattle.fort_tree.specs.declared.expr.RunPart.{RunPart}
use Rattle.fort_tree.specs.declared.declarations.Variable.{Variable}
use Rattle.fort_tree.specs.declared.delimited.Also.{Also}
use Rattle.fort_tree.specs.declared.delimited.BlockItem.{BlockItem}
use Rattle.fort_tree.specs.declared.delimited.CaseClause.{CaseClause}
use Rattle.fort_tree.specs.declared.delimited.Catch.{Catch}
use Rattle.fort_tree.specs.declared.delimited.Elif.{Elif}
use Rattle.fort_tree.specs.declared.delimited.ElseBlock.{ElseBlock}
use Rattle.fort_tree.specs.declared.delimited.ElseClause.{ElseClause}
use Rattle.fort_tree.specs.declared.delimited.Finally.{Finally}
use Rattle.fort_tree.specs.declared.delimited.NextGenerator.{NextGenerator}
use Rattle.fort_tree.specs.declared.delimited.TypeClause.{TypeClause}
use Rattle.fort_tree.specs.declared.expr.ExprList.{ExprList}
use Rattle.fort_tree.specs.declared.expr.Flat.{Flat}
use Rattle.fort_tree.specs.declared.expr.NextExpr.{NextExpr}
use Rattle.fort_tree.specs.declared.expr.Operand.{Operand}
use Rattle.fort_tree.specs.declared.expr.Run.{Run}
use Rattle.fort_tree.specs.declared.delimited.Delimited.TheFolds.{fold-Delimited, fold-Item, fold-Atom, fold-Expr, fold-FlatPart, fold-Generator, fold-Head, fold-Postfix, fold-RunPart, fold-Variable, fold-Also, fold-BlockItem, fold-CaseClause, fold-Catch, fold-Elif, fold-ElseBlock, fold-ElseClause, fold-Finally, fold-NextGenerator, fold-TypeClause, fold-ExprList, fold-Flat, fold-NextExpr, fold-Operand, fold-Run}
use Rattle.fort_tree.specs.Said.{Said, SaidEntry, SaidElse}
use Rattle.fort_tree.specs.Flats.{atom_step, expr_step, flat_part_step, generator_step, head_step, postfix_step, run_part_step, expr_list_step, flat_step, next_expr_step, operand_step, run_step}
use Rattle.fort_tree.specs.Blocks.{delimited_step, item_step, variable_step, also_step, block_item_step, case_clause_step, catch_step, elif_step, else_block_step, else_clause_step, finally_step, next_generator_step, type_clause_step}

-- what a form that ends with `end` says
unfoldable pub said_delimited : Delimited → Said
said_delimited =
    fold-Delimited Said Said Said Said Said Said Said Said Said Said Said SaidEntry SaidEntry Said
    Said Said SaidElse Said Said SaidEntry Said Said Said Said Said delimited_step item_step
    atom_step expr_step flat_part_step generator_step head_step postfix_step run_part_step
    variable_step also_step block_item_step case_clause_step catch_step elif_step else_block_step
    else_clause_step finally_step next_generator_step type_clause_step expr_list_step flat_step
    next_expr_step operand_step run_step

-- what an item of a block says
unfoldable pub said_item : Item → Said
said_item =
    fold-Item Said Said Said Said Said Said Said Said Said Said Said SaidEntry SaidEntry Said Said
    Said SaidElse Said Said SaidEntry Said Said Said Said Said delimited_step item_step atom_step
    expr_step flat_part_step generator_step head_step postfix_step run_part_step variable_step
    also_step block_item_step case_clause_step catch_step elif_step else_block_step else_clause_step
    finally_step next_generator_step type_clause_step expr_list_step flat_step next_expr_step
    operand_step run_step

-- what an atom says
unfoldable pub said_atom : Atom → Said
said_atom =
    fold-Atom Said Said Said Said Said Said Said Said Said Said Said SaidEntry SaidEntry Said Said
    Said SaidElse Said Said SaidEntry Said Said Said Said Said delimited_step item_step atom_step
    expr_step flat_part_step generator_step head_step postfix_step run_part_step variable_step
    also_step block_item_step case_clause_step catch_step elif_step else_block_step else_clause_step
    finally_step next_generator_step type_clause_step expr_list_step flat_step next_expr_step
    operand_step run_step

-- what an expression says
unfoldable pub said_expr : Expr → Said
said_expr =
    fold-Expr Said Said Said Said Said Said Said Said Said Said Said SaidEntry SaidEntry Said Said
    Said SaidElse Said Said SaidEntry Said Said Said Said Said delimited_step item_step atom_step
    expr_step flat_part_step generator_step head_step postfix_step run_part_step variable_step
    also_step block_item_step case_clause_step catch_step elif_step else_block_step else_clause_step
    finally_step next_generator_step type_clause_step expr_list_step flat_step next_expr_step
    operand_step run_step

-- what a further part of a flat expression says
unfoldable pub said_flat_part : FlatPart → Said
said_flat_part =
    fold-FlatPart Said Said Said Said Said Said Said Said Said Said Said SaidEntry SaidEntry Said
    Said Said SaidElse Said Said SaidEntry Said Said Said Said Said delimited_step item_step
    atom_step expr_step flat_part_step generator_step head_step postfix_step run_part_step
    variable_step also_step block_item_step case_clause_step catch_step elif_step else_block_step
    else_clause_step finally_step next_generator_step type_clause_step expr_list_step flat_step
    next_expr_step operand_step run_step

-- what a generator says
unfoldable pub said_generator : Generator → Said
said_generator =
    fold-Generator Said Said Said Said Said Said Said Said Said Said Said SaidEntry SaidEntry Said
    Said Said SaidElse Said Said SaidEntry Said Said Said Said Said delimited_step item_step
    atom_step expr_step flat_part_step generator_step head_step postfix_step run_part_step
    variable_step also_step block_item_step case_clause_step catch_step elif_step else_block_step
    else_clause_step finally_step next_generator_step type_clause_step expr_list_step flat_step
    next_expr_step operand_step run_step

-- what a head says
unfoldable pub said_head : Head → Said
said_head =
    fold-Head Said Said Said Said Said Said Said Said Said Said Said SaidEntry SaidEntry Said Said
    Said SaidElse Said Said SaidEntry Said Said Said Said Said delimited_step item_step atom_step
    expr_step flat_part_step generator_step head_step postfix_step run_part_step variable_step
    also_step block_item_step case_clause_step catch_step elif_step else_block_step else_clause_step
    finally_step next_generator_step type_clause_step expr_list_step flat_step next_expr_step
    operand_step run_step

-- what a postfix says
unfoldable pub said_postfix : Postfix → Said
said_postfix =
    fold-Postfix Said Said Said Said Said Said Said Said Said Said Said SaidEntry SaidEntry Said
    Said Said SaidElse Said Said SaidEntry Said Said Said Said Said delimited_step item_step
    atom_step expr_step flat_part_step generator_step head_step postfix_step run_part_step
    variable_step also_step block_item_step case_clause_step catch_step elif_step else_block_step
    else_clause_step finally_step next_generator_step type_clause_step expr_list_step flat_step
    next_expr_step operand_step run_step

-- what a further part of a run says
unfoldable pub said_run_part : RunPart → Said
said_run_part =
    fold-RunPart Said Said Said Said Said Said Said Said Said Said Said SaidEntry SaidEntry Said
    Said Said SaidElse Said Said SaidEntry Said Said Said Said Said delimited_step item_step
    atom_step expr_step flat_part_step generator_step head_step postfix_step run_part_step
    variable_step also_step block_item_step case_clause_step catch_step elif_step else_block_step
    else_clause_step finally_step next_generator_step type_clause_step expr_list_step flat_step
    next_expr_step operand_step run_step

-- what a declaration of a variable says
unfoldable pub said_variable : Variable → Said
said_variable =
    fold-Variable Said Said Said Said Said Said Said Said Said Said Said SaidEntry SaidEntry Said
    Said Said SaidElse Said Said SaidEntry Said Said Said Said Said delimited_step item_step
    atom_step expr_step flat_part_step generator_step head_step postfix_step run_part_step
    variable_step also_step block_item_step case_clause_step catch_step elif_step else_block_step
    else_clause_step finally_step next_generator_step type_clause_step expr_list_step flat_step
    next_expr_step operand_step run_step

-- what an `also` with its block says
unfoldable pub said_also : Also → Said
said_also =
    fold-Also Said Said Said Said Said Said Said Said Said Said Said SaidEntry SaidEntry Said Said
    Said SaidElse Said Said SaidEntry Said Said Said Said Said delimited_step item_step atom_step
    expr_step flat_part_step generator_step head_step postfix_step run_part_step variable_step
    also_step block_item_step case_clause_step catch_step elif_step else_block_step else_clause_step
    finally_step next_generator_step type_clause_step expr_list_step flat_step next_expr_step
    operand_step run_step

-- what an item of a block with its `;` says
unfoldable pub said_block_item : BlockItem → SaidEntry
said_block_item =
    fold-BlockItem Said Said Said Said Said Said Said Said Said Said Said SaidEntry SaidEntry Said
    Said Said SaidElse Said Said SaidEntry Said Said Said Said Said delimited_step item_step
    atom_step expr_step flat_part_step generator_step head_step postfix_step run_part_step
    variable_step also_step block_item_step case_clause_step catch_step elif_step else_block_step
    else_clause_step finally_step next_generator_step type_clause_step expr_list_step flat_step
    next_expr_step operand_step run_step

-- what a clause of a `case` says
unfoldable pub said_case_clause : CaseClause → SaidEntry
said_case_clause =
    fold-CaseClause Said Said Said Said Said Said Said Said Said Said Said SaidEntry SaidEntry Said
    Said Said SaidElse Said Said SaidEntry Said Said Said Said Said delimited_step item_step
    atom_step expr_step flat_part_step generator_step head_step postfix_step run_part_step
    variable_step also_step block_item_step case_clause_step catch_step elif_step else_block_step
    else_clause_step finally_step next_generator_step type_clause_step expr_list_step flat_step
    next_expr_step operand_step run_step

-- what a `catch` says
unfoldable pub said_catch : Catch → Said
said_catch =
    fold-Catch Said Said Said Said Said Said Said Said Said Said Said SaidEntry SaidEntry Said Said
    Said SaidElse Said Said SaidEntry Said Said Said Said Said delimited_step item_step atom_step
    expr_step flat_part_step generator_step head_step postfix_step run_part_step variable_step
    also_step block_item_step case_clause_step catch_step elif_step else_block_step else_clause_step
    finally_step next_generator_step type_clause_step expr_list_step flat_step next_expr_step
    operand_step run_step

-- what an `elif` says
unfoldable pub said_elif : Elif → Said
said_elif =
    fold-Elif Said Said Said Said Said Said Said Said Said Said Said SaidEntry SaidEntry Said Said
    Said SaidElse Said Said SaidEntry Said Said Said Said Said delimited_step item_step atom_step
    expr_step flat_part_step generator_step head_step postfix_step run_part_step variable_step
    also_step block_item_step case_clause_step catch_step elif_step else_block_step else_clause_step
    finally_step next_generator_step type_clause_step expr_list_step flat_step next_expr_step
    operand_step run_step

-- what the `else` of an `if` says
unfoldable pub said_else_block : ElseBlock → Said
said_else_block =
    fold-ElseBlock Said Said Said Said Said Said Said Said Said Said Said SaidEntry SaidEntry Said
    Said Said SaidElse Said Said SaidEntry Said Said Said Said Said delimited_step item_step
    atom_step expr_step flat_part_step generator_step head_step postfix_step run_part_step
    variable_step also_step block_item_step case_clause_step catch_step elif_step else_block_step
    else_clause_step finally_step next_generator_step type_clause_step expr_list_step flat_step
    next_expr_step operand_step run_step

-- what the `else` of a `case` or `typecase` says
unfoldable pub said_else_clause : ElseClause → SaidElse
said_else_clause =
    fold-ElseClause Said Said Said Said Said Said Said Said Said Said Said SaidEntry SaidEntry Said
    Said Said SaidElse Said Said SaidEntry Said Said Said Said Said delimited_step item_step
    atom_step expr_step flat_part_step generator_step head_step postfix_step run_part_step
    variable_step also_step block_item_step case_clause_step catch_step elif_step else_block_step
    else_clause_step finally_step next_generator_step type_clause_step expr_list_step flat_step
    next_expr_step operand_step run_step

-- what a `finally` says
unfoldable pub said_finally : Finally → Said
said_finally =
    fold-Finally Said Said Said Said Said Said Said Said Said Said Said SaidEntry SaidEntry Said
    Said Said SaidElse Said Said SaidEntry Said Said Said Said Said delimited_step item_step
    atom_step expr_step flat_part_step generator_step head_step postfix_step run_part_step
    variable_step also_step block_item_step case_clause_step catch_step elif_step else_block_step
    else_clause_step finally_step next_generator_step type_clause_step expr_list_step flat_step
    next_expr_step operand_step run_step

-- what a further generator of a `for` says
unfoldable pub said_next_generator : NextGenerator → Said
said_next_generator =
    fold-NextGenerator Said Said Said Said Said Said Said Said Said Said Said SaidEntry SaidEntry
    Said Said Said SaidElse Said Said SaidEntry Said Said Said Said Said delimited_step item_step
    atom_step expr_step flat_part_step generator_step head_step postfix_step run_part_step
    variable_step also_step block_item_step case_clause_step catch_step elif_step else_block_step
    else_clause_step finally_step next_generator_step type_clause_step expr_list_step flat_step
    next_expr_step operand_step run_step

-- what a clause of a `typecase` or `catch` says
unfoldable pub said_type_clause : TypeClause → SaidEntry
said_type_clause =
    fold-TypeClause Said Said Said Said Said Said Said Said Said Said Said SaidEntry SaidEntry Said
    Said Said SaidElse Said Said SaidEntry Said Said Said Said Said delimited_step item_step
    atom_step expr_step flat_part_step generator_step head_step postfix_step run_part_step
    variable_step also_step block_item_step case_clause_step catch_step elif_step else_block_step
    else_clause_step finally_step next_generator_step type_clause_step expr_list_step flat_step
    next_expr_step operand_step run_step

-- what a list of expressions says
unfoldable pub said_expr_list : ExprList → Said
said_expr_list =
    fold-ExprList Said Said Said Said Said Said Said Said Said Said Said SaidEntry SaidEntry Said
    Said Said SaidElse Said Said SaidEntry Said Said Said Said Said delimited_step item_step
    atom_step expr_step flat_part_step generator_step head_step postfix_step run_part_step
    variable_step also_step block_item_step case_clause_step catch_step elif_step else_block_step
    else_clause_step finally_step next_generator_step type_clause_step expr_list_step flat_step
    next_expr_step operand_step run_step

-- what a flat expression says
unfoldable pub said_flat : Flat → Said
said_flat =
    fold-Flat Said Said Said Said Said Said Said Said Said Said Said SaidEntry SaidEntry Said Said
    Said SaidElse Said Said SaidEntry Said Said Said Said Said delimited_step item_step atom_step
    expr_step flat_part_step generator_step head_step postfix_step run_part_step variable_step
    also_step block_item_step case_clause_step catch_step elif_step else_block_step else_clause_step
    finally_step next_generator_step type_clause_step expr_list_step flat_step next_expr_step
    operand_step run_step

-- what a further expression of a list says
unfoldable pub said_next_expr : NextExpr → Said
said_next_expr =
    fold-NextExpr Said Said Said Said Said Said Said Said Said Said Said SaidEntry SaidEntry Said
    Said Said SaidElse Said Said SaidEntry Said Said Said Said Said delimited_step item_step
    atom_step expr_step flat_part_step generator_step head_step postfix_step run_part_step
    variable_step also_step block_item_step case_clause_step catch_step elif_step else_block_step
    else_clause_step finally_step next_generator_step type_clause_step expr_list_step flat_step
    next_expr_step operand_step run_step

-- what a unit says
unfoldable pub said_operand : Operand → Said
said_operand =
    fold-Operand Said Said Said Said Said Said Said Said Said Said Said SaidEntry SaidEntry Said
    Said Said SaidElse Said Said SaidEntry Said Said Said Said Said delimited_step item_step
    atom_step expr_step flat_part_step generator_step head_step postfix_step run_part_step
    variable_step also_step block_item_step case_clause_step catch_step elif_step else_block_step
    else_clause_step finally_step next_generator_step type_clause_step expr_list_step flat_step
    next_expr_step operand_step run_step

-- what a run says
unfoldable pub said_run : Run → Said
said_run =
    fold-Run Said Said Said Said Said Said Said Said Said Said Said SaidEntry SaidEntry Said Said
    Said SaidElse Said Said SaidEntry Said Said Said Said Said delimited_step item_step atom_step
    expr_step flat_part_step generator_step head_step postfix_step run_part_step variable_step
    also_step block_item_step case_clause_step catch_step elif_step else_block_step else_clause_step
    finally_step next_generator_step type_clause_step expr_list_step flat_step next_expr_step
    operand_step run_step
