-- The chapter "Components and APIs": the names that stand as atoms in each tree that a block may
-- stand in, by its levels. The code walks a tree.
use Rattle.fort_tree.specs.declared.delimited.Delimited.{Delimited}
use Rattle.fort_tree.specs.declared.delimited.Item.{Item}
use Rattle.fort_tree.specs.declared.expr.Atom.{Atom}
use Rattle.fort_tree.specs.declared.expr.Expr.{Expr}
use Rattle.fort_tree.specs.declared.expr.FlatPart.{FlatPart}
use Rattle.fort_tree.specs.declared.expr.Generator.{Generator}
use Rattle.fort_tree.specs.declared.expr.Head.{Head}
use Rattle.fort_tree.specs.declared.expr.Postfix.{Postfix}
use Rattle.fort_tree.specs.declared.expr.RunPart.{RunPart}
use Rattle.fort_tree.specs.declared.declarations.Variable.{Variable}
use Rattle.fort_tree.specs.declared.delimited.Also.{Also}
use Rattle.fort_tree.specs.declared.delimited.BlockItem.{BlockItem}
use Rattle.fort_tree.specs.declared.delimited.CaseClause.{CaseClause}
use Rattle.fort_tree.specs.declared.delimited.Catch.{Catch}
use Rattle.fort_tree.specs.declared.delimited.Elif.{Elif}
use Rattle.fort_tree.specs.declared.delimited.ElseBlock.{ElseBlock}
use Rattle.fort_tree.specs.declared.delimited.ElseClause.{ElseClause}
use Rattle.fort_tree.specs.declared.delimited.Finally.{Finally}
use Rattle.fort_tree.specs.declared.delimited.NextGenerator.{NextGenerator}
use Rattle.fort_tree.specs.declared.delimited.TypeClause.{TypeClause}
use Rattle.fort_tree.specs.declared.expr.ExprList.{ExprList}
use Rattle.fort_tree.specs.declared.expr.Flat.{Flat}
use Rattle.fort_tree.specs.declared.expr.NextExpr.{NextExpr}
use Rattle.fort_tree.specs.declared.expr.Operand.{Operand}
use Rattle.fort_tree.specs.declared.expr.Run.{Run}
use Rattle.fort_tree.specs.declared.delimited.Delimited.TheFolds.{fold-Delimited, fold-Item, fold-Atom, fold-Expr, fold-FlatPart, fold-Generator, fold-Head, fold-Postfix, fold-RunPart, fold-Variable, fold-Also, fold-BlockItem, fold-CaseClause, fold-Catch, fold-Elif, fold-ElseBlock, fold-ElseClause, fold-Finally, fold-NextGenerator, fold-TypeClause, fold-ExprList, fold-Flat, fold-NextExpr, fold-Operand, fold-Run}
use Rattle.fort_tree_atoms.specs.Gathered.{Atoms}
use Rattle.fort_tree_atoms.specs.Gathering.{gather_delimited, gather_item, gather_atom, gather_expr, gather_flat_part, gather_generator, gather_head, gather_postfix, gather_run_part, gather_variable, gather_also, gather_block_item, gather_case_clause, gather_catch, gather_elif, gather_else_block, gather_else_clause, gather_finally, gather_next_generator, gather_type_clause, gather_expr_list, gather_flat, gather_next_expr, gather_operand, gather_run}

-- the names that stand as atoms in a form that ends with `end`
unfoldable pub atoms_of_delimited : Delimited → Atoms
atoms_of_delimited =
    fold-Delimited Atoms Atoms Atoms Atoms Atoms Atoms Atoms Atoms
    Atoms Atoms Atoms Atoms Atoms Atoms Atoms Atoms Atoms
    Atoms Atoms Atoms Atoms Atoms Atoms Atoms Atoms
    gather_delimited gather_item gather_atom gather_expr gather_flat_part gather_generator
    gather_head gather_postfix gather_run_part gather_variable gather_also gather_block_item
    gather_case_clause gather_catch gather_elif gather_else_block gather_else_clause
    gather_finally gather_next_generator gather_type_clause gather_expr_list gather_flat
    gather_next_expr gather_operand gather_run

-- the names that stand as atoms in an item of a block
unfoldable pub atoms_of_item : Item → Atoms
atoms_of_item =
    fold-Item Atoms Atoms Atoms Atoms Atoms Atoms Atoms Atoms
    Atoms Atoms Atoms Atoms Atoms Atoms Atoms Atoms Atoms
    Atoms Atoms Atoms Atoms Atoms Atoms Atoms Atoms
    gather_delimited gather_item gather_atom gather_expr gather_flat_part gather_generator
    gather_head gather_postfix gather_run_part gather_variable gather_also gather_block_item
    gather_case_clause gather_catch gather_elif gather_else_block gather_else_clause
    gather_finally gather_next_generator gather_type_clause gather_expr_list gather_flat
    gather_next_expr gather_operand gather_run

-- the names that stand as atoms in an atom
unfoldable pub atoms_of_atom : Atom → Atoms
atoms_of_atom =
    fold-Atom Atoms Atoms Atoms Atoms Atoms Atoms Atoms Atoms
    Atoms Atoms Atoms Atoms Atoms Atoms Atoms Atoms Atoms
    Atoms Atoms Atoms Atoms Atoms Atoms Atoms Atoms
    gather_delimited gather_item gather_atom gather_expr gather_flat_part gather_generator
    gather_head gather_postfix gather_run_part gather_variable gather_also gather_block_item
    gather_case_clause gather_catch gather_elif gather_else_block gather_else_clause
    gather_finally gather_next_generator gather_type_clause gather_expr_list gather_flat
    gather_next_expr gather_operand gather_run

-- the names that stand as atoms in an expression
unfoldable pub atoms_of_expr : Expr → Atoms
atoms_of_expr =
    fold-Expr Atoms Atoms Atoms Atoms Atoms Atoms Atoms Atoms
    Atoms Atoms Atoms Atoms Atoms Atoms Atoms Atoms Atoms
    Atoms Atoms Atoms Atoms Atoms Atoms Atoms Atoms
    gather_delimited gather_item gather_atom gather_expr gather_flat_part gather_generator
    gather_head gather_postfix gather_run_part gather_variable gather_also gather_block_item
    gather_case_clause gather_catch gather_elif gather_else_block gather_else_clause
    gather_finally gather_next_generator gather_type_clause gather_expr_list gather_flat
    gather_next_expr gather_operand gather_run

-- the names that stand as atoms in a further part of a flat expression
unfoldable pub atoms_of_flat_part : FlatPart → Atoms
atoms_of_flat_part =
    fold-FlatPart Atoms Atoms Atoms Atoms Atoms Atoms Atoms Atoms
    Atoms Atoms Atoms Atoms Atoms Atoms Atoms Atoms Atoms
    Atoms Atoms Atoms Atoms Atoms Atoms Atoms Atoms
    gather_delimited gather_item gather_atom gather_expr gather_flat_part gather_generator
    gather_head gather_postfix gather_run_part gather_variable gather_also gather_block_item
    gather_case_clause gather_catch gather_elif gather_else_block gather_else_clause
    gather_finally gather_next_generator gather_type_clause gather_expr_list gather_flat
    gather_next_expr gather_operand gather_run

-- the names that stand as atoms in a generator
unfoldable pub atoms_of_generator : Generator → Atoms
atoms_of_generator =
    fold-Generator Atoms Atoms Atoms Atoms Atoms Atoms Atoms Atoms
    Atoms Atoms Atoms Atoms Atoms Atoms Atoms Atoms Atoms
    Atoms Atoms Atoms Atoms Atoms Atoms Atoms Atoms
    gather_delimited gather_item gather_atom gather_expr gather_flat_part gather_generator
    gather_head gather_postfix gather_run_part gather_variable gather_also gather_block_item
    gather_case_clause gather_catch gather_elif gather_else_block gather_else_clause
    gather_finally gather_next_generator gather_type_clause gather_expr_list gather_flat
    gather_next_expr gather_operand gather_run

-- the names that stand as atoms in a head
unfoldable pub atoms_of_head : Head → Atoms
atoms_of_head =
    fold-Head Atoms Atoms Atoms Atoms Atoms Atoms Atoms Atoms
    Atoms Atoms Atoms Atoms Atoms Atoms Atoms Atoms Atoms
    Atoms Atoms Atoms Atoms Atoms Atoms Atoms Atoms
    gather_delimited gather_item gather_atom gather_expr gather_flat_part gather_generator
    gather_head gather_postfix gather_run_part gather_variable gather_also gather_block_item
    gather_case_clause gather_catch gather_elif gather_else_block gather_else_clause
    gather_finally gather_next_generator gather_type_clause gather_expr_list gather_flat
    gather_next_expr gather_operand gather_run

-- the names that stand as atoms in a postfix
unfoldable pub atoms_of_postfix : Postfix → Atoms
atoms_of_postfix =
    fold-Postfix Atoms Atoms Atoms Atoms Atoms Atoms Atoms Atoms
    Atoms Atoms Atoms Atoms Atoms Atoms Atoms Atoms Atoms
    Atoms Atoms Atoms Atoms Atoms Atoms Atoms Atoms
    gather_delimited gather_item gather_atom gather_expr gather_flat_part gather_generator
    gather_head gather_postfix gather_run_part gather_variable gather_also gather_block_item
    gather_case_clause gather_catch gather_elif gather_else_block gather_else_clause
    gather_finally gather_next_generator gather_type_clause gather_expr_list gather_flat
    gather_next_expr gather_operand gather_run

-- the names that stand as atoms in a further part of a run
unfoldable pub atoms_of_run_part : RunPart → Atoms
atoms_of_run_part =
    fold-RunPart Atoms Atoms Atoms Atoms Atoms Atoms Atoms Atoms
    Atoms Atoms Atoms Atoms Atoms Atoms Atoms Atoms Atoms
    Atoms Atoms Atoms Atoms Atoms Atoms Atoms Atoms
    gather_delimited gather_item gather_atom gather_expr gather_flat_part gather_generator
    gather_head gather_postfix gather_run_part gather_variable gather_also gather_block_item
    gather_case_clause gather_catch gather_elif gather_else_block gather_else_clause
    gather_finally gather_next_generator gather_type_clause gather_expr_list gather_flat
    gather_next_expr gather_operand gather_run

-- the names that stand as atoms in a declaration of a variable
unfoldable pub atoms_of_variable : Variable → Atoms
atoms_of_variable =
    fold-Variable Atoms Atoms Atoms Atoms Atoms Atoms Atoms Atoms
    Atoms Atoms Atoms Atoms Atoms Atoms Atoms Atoms Atoms
    Atoms Atoms Atoms Atoms Atoms Atoms Atoms Atoms
    gather_delimited gather_item gather_atom gather_expr gather_flat_part gather_generator
    gather_head gather_postfix gather_run_part gather_variable gather_also gather_block_item
    gather_case_clause gather_catch gather_elif gather_else_block gather_else_clause
    gather_finally gather_next_generator gather_type_clause gather_expr_list gather_flat
    gather_next_expr gather_operand gather_run

-- the names that stand as atoms in an `also` with its block
unfoldable pub atoms_of_also : Also → Atoms
atoms_of_also =
    fold-Also Atoms Atoms Atoms Atoms Atoms Atoms Atoms Atoms
    Atoms Atoms Atoms Atoms Atoms Atoms Atoms Atoms Atoms
    Atoms Atoms Atoms Atoms Atoms Atoms Atoms Atoms
    gather_delimited gather_item gather_atom gather_expr gather_flat_part gather_generator
    gather_head gather_postfix gather_run_part gather_variable gather_also gather_block_item
    gather_case_clause gather_catch gather_elif gather_else_block gather_else_clause
    gather_finally gather_next_generator gather_type_clause gather_expr_list gather_flat
    gather_next_expr gather_operand gather_run

-- the names that stand as atoms in an item of a block with its `;`
unfoldable pub atoms_of_block_item : BlockItem → Atoms
atoms_of_block_item =
    fold-BlockItem Atoms Atoms Atoms Atoms Atoms Atoms Atoms Atoms
    Atoms Atoms Atoms Atoms Atoms Atoms Atoms Atoms Atoms
    Atoms Atoms Atoms Atoms Atoms Atoms Atoms Atoms
    gather_delimited gather_item gather_atom gather_expr gather_flat_part gather_generator
    gather_head gather_postfix gather_run_part gather_variable gather_also gather_block_item
    gather_case_clause gather_catch gather_elif gather_else_block gather_else_clause
    gather_finally gather_next_generator gather_type_clause gather_expr_list gather_flat
    gather_next_expr gather_operand gather_run

-- the names that stand as atoms in a clause of a `case`
unfoldable pub atoms_of_case_clause : CaseClause → Atoms
atoms_of_case_clause =
    fold-CaseClause Atoms Atoms Atoms Atoms Atoms Atoms Atoms Atoms
    Atoms Atoms Atoms Atoms Atoms Atoms Atoms Atoms Atoms
    Atoms Atoms Atoms Atoms Atoms Atoms Atoms Atoms
    gather_delimited gather_item gather_atom gather_expr gather_flat_part gather_generator
    gather_head gather_postfix gather_run_part gather_variable gather_also gather_block_item
    gather_case_clause gather_catch gather_elif gather_else_block gather_else_clause
    gather_finally gather_next_generator gather_type_clause gather_expr_list gather_flat
    gather_next_expr gather_operand gather_run

-- the names that stand as atoms in a `catch`
unfoldable pub atoms_of_catch : Catch → Atoms
atoms_of_catch =
    fold-Catch Atoms Atoms Atoms Atoms Atoms Atoms Atoms Atoms
    Atoms Atoms Atoms Atoms Atoms Atoms Atoms Atoms Atoms
    Atoms Atoms Atoms Atoms Atoms Atoms Atoms Atoms
    gather_delimited gather_item gather_atom gather_expr gather_flat_part gather_generator
    gather_head gather_postfix gather_run_part gather_variable gather_also gather_block_item
    gather_case_clause gather_catch gather_elif gather_else_block gather_else_clause
    gather_finally gather_next_generator gather_type_clause gather_expr_list gather_flat
    gather_next_expr gather_operand gather_run

-- the names that stand as atoms in an `elif`
unfoldable pub atoms_of_elif : Elif → Atoms
atoms_of_elif =
    fold-Elif Atoms Atoms Atoms Atoms Atoms Atoms Atoms Atoms
    Atoms Atoms Atoms Atoms Atoms Atoms Atoms Atoms Atoms
    Atoms Atoms Atoms Atoms Atoms Atoms Atoms Atoms
    gather_delimited gather_item gather_atom gather_expr gather_flat_part gather_generator
    gather_head gather_postfix gather_run_part gather_variable gather_also gather_block_item
    gather_case_clause gather_catch gather_elif gather_else_block gather_else_clause
    gather_finally gather_next_generator gather_type_clause gather_expr_list gather_flat
    gather_next_expr gather_operand gather_run

-- the names that stand as atoms in the `else` of an `if`
unfoldable pub atoms_of_else_block : ElseBlock → Atoms
atoms_of_else_block =
    fold-ElseBlock Atoms Atoms Atoms Atoms Atoms Atoms Atoms Atoms
    Atoms Atoms Atoms Atoms Atoms Atoms Atoms Atoms Atoms
    Atoms Atoms Atoms Atoms Atoms Atoms Atoms Atoms
    gather_delimited gather_item gather_atom gather_expr gather_flat_part gather_generator
    gather_head gather_postfix gather_run_part gather_variable gather_also gather_block_item
    gather_case_clause gather_catch gather_elif gather_else_block gather_else_clause
    gather_finally gather_next_generator gather_type_clause gather_expr_list gather_flat
    gather_next_expr gather_operand gather_run

-- the names that stand as atoms in the `else` of a `case` or `typecase`
unfoldable pub atoms_of_else_clause : ElseClause → Atoms
atoms_of_else_clause =
    fold-ElseClause Atoms Atoms Atoms Atoms Atoms Atoms Atoms Atoms
    Atoms Atoms Atoms Atoms Atoms Atoms Atoms Atoms Atoms
    Atoms Atoms Atoms Atoms Atoms Atoms Atoms Atoms
    gather_delimited gather_item gather_atom gather_expr gather_flat_part gather_generator
    gather_head gather_postfix gather_run_part gather_variable gather_also gather_block_item
    gather_case_clause gather_catch gather_elif gather_else_block gather_else_clause
    gather_finally gather_next_generator gather_type_clause gather_expr_list gather_flat
    gather_next_expr gather_operand gather_run

-- the names that stand as atoms in a `finally`
unfoldable pub atoms_of_finally : Finally → Atoms
atoms_of_finally =
    fold-Finally Atoms Atoms Atoms Atoms Atoms Atoms Atoms Atoms
    Atoms Atoms Atoms Atoms Atoms Atoms Atoms Atoms Atoms
    Atoms Atoms Atoms Atoms Atoms Atoms Atoms Atoms
    gather_delimited gather_item gather_atom gather_expr gather_flat_part gather_generator
    gather_head gather_postfix gather_run_part gather_variable gather_also gather_block_item
    gather_case_clause gather_catch gather_elif gather_else_block gather_else_clause
    gather_finally gather_next_generator gather_type_clause gather_expr_list gather_flat
    gather_next_expr gather_operand gather_run

-- the names that stand as atoms in a further generator of a `for`
unfoldable pub atoms_of_next_generator : NextGenerator → Atoms
atoms_of_next_generator =
    fold-NextGenerator Atoms Atoms Atoms Atoms Atoms Atoms Atoms
    Atoms Atoms Atoms Atoms Atoms Atoms Atoms Atoms Atoms
    Atoms Atoms Atoms Atoms Atoms Atoms Atoms Atoms Atoms
    gather_delimited gather_item gather_atom gather_expr gather_flat_part gather_generator
    gather_head gather_postfix gather_run_part gather_variable gather_also gather_block_item
    gather_case_clause gather_catch gather_elif gather_else_block gather_else_clause
    gather_finally gather_next_generator gather_type_clause gather_expr_list gather_flat
    gather_next_expr gather_operand gather_run

-- the names that stand as atoms in a clause of a `typecase` or `catch`
unfoldable pub atoms_of_type_clause : TypeClause → Atoms
atoms_of_type_clause =
    fold-TypeClause Atoms Atoms Atoms Atoms Atoms Atoms Atoms Atoms
    Atoms Atoms Atoms Atoms Atoms Atoms Atoms Atoms Atoms
    Atoms Atoms Atoms Atoms Atoms Atoms Atoms Atoms
    gather_delimited gather_item gather_atom gather_expr gather_flat_part gather_generator
    gather_head gather_postfix gather_run_part gather_variable gather_also gather_block_item
    gather_case_clause gather_catch gather_elif gather_else_block gather_else_clause
    gather_finally gather_next_generator gather_type_clause gather_expr_list gather_flat
    gather_next_expr gather_operand gather_run

-- the names that stand as atoms in a list of expressions
unfoldable pub atoms_of_expr_list : ExprList → Atoms
atoms_of_expr_list =
    fold-ExprList Atoms Atoms Atoms Atoms Atoms Atoms Atoms Atoms
    Atoms Atoms Atoms Atoms Atoms Atoms Atoms Atoms Atoms
    Atoms Atoms Atoms Atoms Atoms Atoms Atoms Atoms
    gather_delimited gather_item gather_atom gather_expr gather_flat_part gather_generator
    gather_head gather_postfix gather_run_part gather_variable gather_also gather_block_item
    gather_case_clause gather_catch gather_elif gather_else_block gather_else_clause
    gather_finally gather_next_generator gather_type_clause gather_expr_list gather_flat
    gather_next_expr gather_operand gather_run

-- the names that stand as atoms in a flat expression
unfoldable pub atoms_of_flat : Flat → Atoms
atoms_of_flat =
    fold-Flat Atoms Atoms Atoms Atoms Atoms Atoms Atoms Atoms
    Atoms Atoms Atoms Atoms Atoms Atoms Atoms Atoms Atoms
    Atoms Atoms Atoms Atoms Atoms Atoms Atoms Atoms
    gather_delimited gather_item gather_atom gather_expr gather_flat_part gather_generator
    gather_head gather_postfix gather_run_part gather_variable gather_also gather_block_item
    gather_case_clause gather_catch gather_elif gather_else_block gather_else_clause
    gather_finally gather_next_generator gather_type_clause gather_expr_list gather_flat
    gather_next_expr gather_operand gather_run

-- the names that stand as atoms in a further expression of a list
unfoldable pub atoms_of_next_expr : NextExpr → Atoms
atoms_of_next_expr =
    fold-NextExpr Atoms Atoms Atoms Atoms Atoms Atoms Atoms Atoms
    Atoms Atoms Atoms Atoms Atoms Atoms Atoms Atoms Atoms
    Atoms Atoms Atoms Atoms Atoms Atoms Atoms Atoms
    gather_delimited gather_item gather_atom gather_expr gather_flat_part gather_generator
    gather_head gather_postfix gather_run_part gather_variable gather_also gather_block_item
    gather_case_clause gather_catch gather_elif gather_else_block gather_else_clause
    gather_finally gather_next_generator gather_type_clause gather_expr_list gather_flat
    gather_next_expr gather_operand gather_run

-- the names that stand as atoms in a unit
unfoldable pub atoms_of_operand : Operand → Atoms
atoms_of_operand =
    fold-Operand Atoms Atoms Atoms Atoms Atoms Atoms Atoms Atoms
    Atoms Atoms Atoms Atoms Atoms Atoms Atoms Atoms Atoms
    Atoms Atoms Atoms Atoms Atoms Atoms Atoms Atoms
    gather_delimited gather_item gather_atom gather_expr gather_flat_part gather_generator
    gather_head gather_postfix gather_run_part gather_variable gather_also gather_block_item
    gather_case_clause gather_catch gather_elif gather_else_block gather_else_clause
    gather_finally gather_next_generator gather_type_clause gather_expr_list gather_flat
    gather_next_expr gather_operand gather_run

-- the names that stand as atoms in a run
unfoldable pub atoms_of_run : Run → Atoms
atoms_of_run =
    fold-Run Atoms Atoms Atoms Atoms Atoms Atoms Atoms Atoms
    Atoms Atoms Atoms Atoms Atoms Atoms Atoms Atoms Atoms
    Atoms Atoms Atoms Atoms Atoms Atoms Atoms Atoms
    gather_delimited gather_item gather_atom gather_expr gather_flat_part gather_generator
    gather_head gather_postfix gather_run_part gather_variable gather_also gather_block_item
    gather_case_clause gather_catch gather_elif gather_else_block gather_else_clause
    gather_finally gather_next_generator gather_type_clause gather_expr_list gather_flat
    gather_next_expr gather_operand gather_run
