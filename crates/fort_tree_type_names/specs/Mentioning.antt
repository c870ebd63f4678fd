-- The chapter "Types": the names that stand as types in each tree that a block may stand in, by its
-- levels. The code walks a tree.
use Rattle.fort_tree.specs.declared.delimited.Delimited.{Delimited}
use Rattle.fort_tree.specs.declared.delimited.Item.{Item}
use Rattle.fort_tree.specs.declared.expr.Atom.{Atom}
use Rattle.fort_tree.specs.declared.expr.Expr.{Expr}
use Rattle.fort_tree.specs.declared.expr.FlatPart.{FlatPart}
use Rattle.fort_tree.specs.declared.expr.Generator.{Generator}
use Rattle.fort_tree.specs.declared.expr.Head.{Head}
use Rattle.fort_tree.specs.declared.expr.Postfix.{Postfix}
use Rattle.fort_tree.specs.declared.expr.RunPart.{RunPart}
use Rattle.fort_tree.specs.declared.declarations.Variable.{Variable}
use Rattle.fort_tree.specs.declared.delimited.Also.{Also}
use Rattle.fort_tree.specs.declared.delimited.BlockItem.{BlockItem}
use Rattle.fort_tree.specs.declared.delimited.CaseClause.{CaseClause}
use Rattle.fort_tree.specs.declared.delimited.Catch.{Catch}
use Rattle.fort_tree.specs.declared.delimited.Elif.{Elif}
use Rattle.fort_tree.specs.declared.delimited.ElseBlock.{ElseBlock}
use Rattle.fort_tree.specs.declared.delimited.ElseClause.{ElseClause}
use Rattle.fort_tree.specs.declared.delimited.Finally.{Finally}
use Rattle.fort_tree.specs.declared.delimited.NextGenerator.{NextGenerator}
use Rattle.fort_tree.specs.declared.delimited.TypeClause.{TypeClause}
use Rattle.fort_tree.specs.declared.expr.ExprList.{ExprList}
use Rattle.fort_tree.specs.declared.expr.Flat.{Flat}
use Rattle.fort_tree.specs.declared.expr.NextExpr.{NextExpr}
use Rattle.fort_tree.specs.declared.expr.Operand.{Operand}
use Rattle.fort_tree.specs.declared.expr.Run.{Run}
use Rattle.fort_tree.specs.declared.delimited.Delimited.TheFolds.{fold-Delimited, fold-Item, fold-Atom, fold-Expr, fold-FlatPart, fold-Generator, fold-Head, fold-Postfix, fold-RunPart, fold-Variable, fold-Also, fold-BlockItem, fold-CaseClause, fold-Catch, fold-Elif, fold-ElseBlock, fold-ElseClause, fold-Finally, fold-NextGenerator, fold-TypeClause, fold-ExprList, fold-Flat, fold-NextExpr, fold-Operand, fold-Run}
use Rattle.fort_tree_type_names.specs.Mentioned.{Mentioned}
use Rattle.fort_tree_type_names.specs.Mentions.{mention_delimited, mention_item, mention_atom, mention_expr, mention_flat_part, mention_generator, mention_head, mention_postfix, mention_run_part, mention_variable, mention_also, mention_block_item, mention_case_clause, mention_catch, mention_elif, mention_else_block, mention_else_clause, mention_finally, mention_next_generator, mention_type_clause, mention_expr_list, mention_flat, mention_next_expr, mention_operand, mention_run}

-- the names that stand as types in a form that ends with `end`
unfoldable pub mentioned_delimited : Delimited → Mentioned
mentioned_delimited =
    fold-Delimited Mentioned Mentioned Mentioned Mentioned Mentioned Mentioned Mentioned Mentioned
    Mentioned Mentioned Mentioned Mentioned Mentioned Mentioned Mentioned Mentioned Mentioned
    Mentioned Mentioned Mentioned Mentioned Mentioned Mentioned Mentioned Mentioned
    mention_delimited mention_item mention_atom mention_expr mention_flat_part mention_generator
    mention_head mention_postfix mention_run_part mention_variable mention_also mention_block_item
    mention_case_clause mention_catch mention_elif mention_else_block mention_else_clause
    mention_finally mention_next_generator mention_type_clause mention_expr_list mention_flat
    mention_next_expr mention_operand mention_run

-- the names that stand as types in an item of a block
unfoldable pub mentioned_item : Item → Mentioned
mentioned_item =
    fold-Item Mentioned Mentioned Mentioned Mentioned Mentioned Mentioned Mentioned Mentioned
    Mentioned Mentioned Mentioned Mentioned Mentioned Mentioned Mentioned Mentioned Mentioned
    Mentioned Mentioned Mentioned Mentioned Mentioned Mentioned Mentioned Mentioned
    mention_delimited mention_item mention_atom mention_expr mention_flat_part mention_generator
    mention_head mention_postfix mention_run_part mention_variable mention_also mention_block_item
    mention_case_clause mention_catch mention_elif mention_else_block mention_else_clause
    mention_finally mention_next_generator mention_type_clause mention_expr_list mention_flat
    mention_next_expr mention_operand mention_run

-- the names that stand as types in an atom
unfoldable pub mentioned_atom : Atom → Mentioned
mentioned_atom =
    fold-Atom Mentioned Mentioned Mentioned Mentioned Mentioned Mentioned Mentioned Mentioned
    Mentioned Mentioned Mentioned Mentioned Mentioned Mentioned Mentioned Mentioned Mentioned
    Mentioned Mentioned Mentioned Mentioned Mentioned Mentioned Mentioned Mentioned
    mention_delimited mention_item mention_atom mention_expr mention_flat_part mention_generator
    mention_head mention_postfix mention_run_part mention_variable mention_also mention_block_item
    mention_case_clause mention_catch mention_elif mention_else_block mention_else_clause
    mention_finally mention_next_generator mention_type_clause mention_expr_list mention_flat
    mention_next_expr mention_operand mention_run

-- the names that stand as types in an expression
unfoldable pub mentioned_expr : Expr → Mentioned
mentioned_expr =
    fold-Expr Mentioned Mentioned Mentioned Mentioned Mentioned Mentioned Mentioned Mentioned
    Mentioned Mentioned Mentioned Mentioned Mentioned Mentioned Mentioned Mentioned Mentioned
    Mentioned Mentioned Mentioned Mentioned Mentioned Mentioned Mentioned Mentioned
    mention_delimited mention_item mention_atom mention_expr mention_flat_part mention_generator
    mention_head mention_postfix mention_run_part mention_variable mention_also mention_block_item
    mention_case_clause mention_catch mention_elif mention_else_block mention_else_clause
    mention_finally mention_next_generator mention_type_clause mention_expr_list mention_flat
    mention_next_expr mention_operand mention_run

-- the names that stand as types in a further part of a flat expression
unfoldable pub mentioned_flat_part : FlatPart → Mentioned
mentioned_flat_part =
    fold-FlatPart Mentioned Mentioned Mentioned Mentioned Mentioned Mentioned Mentioned Mentioned
    Mentioned Mentioned Mentioned Mentioned Mentioned Mentioned Mentioned Mentioned Mentioned
    Mentioned Mentioned Mentioned Mentioned Mentioned Mentioned Mentioned Mentioned
    mention_delimited mention_item mention_atom mention_expr mention_flat_part mention_generator
    mention_head mention_postfix mention_run_part mention_variable mention_also mention_block_item
    mention_case_clause mention_catch mention_elif mention_else_block mention_else_clause
    mention_finally mention_next_generator mention_type_clause mention_expr_list mention_flat
    mention_next_expr mention_operand mention_run

-- the names that stand as types in a generator
unfoldable pub mentioned_generator : Generator → Mentioned
mentioned_generator =
    fold-Generator Mentioned Mentioned Mentioned Mentioned Mentioned Mentioned Mentioned Mentioned
    Mentioned Mentioned Mentioned Mentioned Mentioned Mentioned Mentioned Mentioned Mentioned
    Mentioned Mentioned Mentioned Mentioned Mentioned Mentioned Mentioned Mentioned
    mention_delimited mention_item mention_atom mention_expr mention_flat_part mention_generator
    mention_head mention_postfix mention_run_part mention_variable mention_also mention_block_item
    mention_case_clause mention_catch mention_elif mention_else_block mention_else_clause
    mention_finally mention_next_generator mention_type_clause mention_expr_list mention_flat
    mention_next_expr mention_operand mention_run

-- the names that stand as types in a head
unfoldable pub mentioned_head : Head → Mentioned
mentioned_head =
    fold-Head Mentioned Mentioned Mentioned Mentioned Mentioned Mentioned Mentioned Mentioned
    Mentioned Mentioned Mentioned Mentioned Mentioned Mentioned Mentioned Mentioned Mentioned
    Mentioned Mentioned Mentioned Mentioned Mentioned Mentioned Mentioned Mentioned
    mention_delimited mention_item mention_atom mention_expr mention_flat_part mention_generator
    mention_head mention_postfix mention_run_part mention_variable mention_also mention_block_item
    mention_case_clause mention_catch mention_elif mention_else_block mention_else_clause
    mention_finally mention_next_generator mention_type_clause mention_expr_list mention_flat
    mention_next_expr mention_operand mention_run

-- the names that stand as types in a postfix
unfoldable pub mentioned_postfix : Postfix → Mentioned
mentioned_postfix =
    fold-Postfix Mentioned Mentioned Mentioned Mentioned Mentioned Mentioned Mentioned Mentioned
    Mentioned Mentioned Mentioned Mentioned Mentioned Mentioned Mentioned Mentioned Mentioned
    Mentioned Mentioned Mentioned Mentioned Mentioned Mentioned Mentioned Mentioned
    mention_delimited mention_item mention_atom mention_expr mention_flat_part mention_generator
    mention_head mention_postfix mention_run_part mention_variable mention_also mention_block_item
    mention_case_clause mention_catch mention_elif mention_else_block mention_else_clause
    mention_finally mention_next_generator mention_type_clause mention_expr_list mention_flat
    mention_next_expr mention_operand mention_run

-- the names that stand as types in a further part of a run
unfoldable pub mentioned_run_part : RunPart → Mentioned
mentioned_run_part =
    fold-RunPart Mentioned Mentioned Mentioned Mentioned Mentioned Mentioned Mentioned Mentioned
    Mentioned Mentioned Mentioned Mentioned Mentioned Mentioned Mentioned Mentioned Mentioned
    Mentioned Mentioned Mentioned Mentioned Mentioned Mentioned Mentioned Mentioned
    mention_delimited mention_item mention_atom mention_expr mention_flat_part mention_generator
    mention_head mention_postfix mention_run_part mention_variable mention_also mention_block_item
    mention_case_clause mention_catch mention_elif mention_else_block mention_else_clause
    mention_finally mention_next_generator mention_type_clause mention_expr_list mention_flat
    mention_next_expr mention_operand mention_run

-- the names that stand as types in a declaration of a variable
unfoldable pub mentioned_variable : Variable → Mentioned
mentioned_variable =
    fold-Variable Mentioned Mentioned Mentioned Mentioned Mentioned Mentioned Mentioned Mentioned
    Mentioned Mentioned Mentioned Mentioned Mentioned Mentioned Mentioned Mentioned Mentioned
    Mentioned Mentioned Mentioned Mentioned Mentioned Mentioned Mentioned Mentioned
    mention_delimited mention_item mention_atom mention_expr mention_flat_part mention_generator
    mention_head mention_postfix mention_run_part mention_variable mention_also mention_block_item
    mention_case_clause mention_catch mention_elif mention_else_block mention_else_clause
    mention_finally mention_next_generator mention_type_clause mention_expr_list mention_flat
    mention_next_expr mention_operand mention_run

-- the names that stand as types in an `also` with its block
unfoldable pub mentioned_also : Also → Mentioned
mentioned_also =
    fold-Also Mentioned Mentioned Mentioned Mentioned Mentioned Mentioned Mentioned Mentioned
    Mentioned Mentioned Mentioned Mentioned Mentioned Mentioned Mentioned Mentioned Mentioned
    Mentioned Mentioned Mentioned Mentioned Mentioned Mentioned Mentioned Mentioned
    mention_delimited mention_item mention_atom mention_expr mention_flat_part mention_generator
    mention_head mention_postfix mention_run_part mention_variable mention_also mention_block_item
    mention_case_clause mention_catch mention_elif mention_else_block mention_else_clause
    mention_finally mention_next_generator mention_type_clause mention_expr_list mention_flat
    mention_next_expr mention_operand mention_run

-- the names that stand as types in an item of a block with its `;`
unfoldable pub mentioned_block_item : BlockItem → Mentioned
mentioned_block_item =
    fold-BlockItem Mentioned Mentioned Mentioned Mentioned Mentioned Mentioned Mentioned Mentioned
    Mentioned Mentioned Mentioned Mentioned Mentioned Mentioned Mentioned Mentioned Mentioned
    Mentioned Mentioned Mentioned Mentioned Mentioned Mentioned Mentioned Mentioned
    mention_delimited mention_item mention_atom mention_expr mention_flat_part mention_generator
    mention_head mention_postfix mention_run_part mention_variable mention_also mention_block_item
    mention_case_clause mention_catch mention_elif mention_else_block mention_else_clause
    mention_finally mention_next_generator mention_type_clause mention_expr_list mention_flat
    mention_next_expr mention_operand mention_run

-- the names that stand as types in a clause of a `case`
unfoldable pub mentioned_case_clause : CaseClause → Mentioned
mentioned_case_clause =
    fold-CaseClause Mentioned Mentioned Mentioned Mentioned Mentioned Mentioned Mentioned Mentioned
    Mentioned Mentioned Mentioned Mentioned Mentioned Mentioned Mentioned Mentioned Mentioned
    Mentioned Mentioned Mentioned Mentioned Mentioned Mentioned Mentioned Mentioned
    mention_delimited mention_item mention_atom mention_expr mention_flat_part mention_generator
    mention_head mention_postfix mention_run_part mention_variable mention_also mention_block_item
    mention_case_clause mention_catch mention_elif mention_else_block mention_else_clause
    mention_finally mention_next_generator mention_type_clause mention_expr_list mention_flat
    mention_next_expr mention_operand mention_run

-- the names that stand as types in a `catch`
unfoldable pub mentioned_catch : Catch → Mentioned
mentioned_catch =
    fold-Catch Mentioned Mentioned Mentioned Mentioned Mentioned Mentioned Mentioned Mentioned
    Mentioned Mentioned Mentioned Mentioned Mentioned Mentioned Mentioned Mentioned Mentioned
    Mentioned Mentioned Mentioned Mentioned Mentioned Mentioned Mentioned Mentioned
    mention_delimited mention_item mention_atom mention_expr mention_flat_part mention_generator
    mention_head mention_postfix mention_run_part mention_variable mention_also mention_block_item
    mention_case_clause mention_catch mention_elif mention_else_block mention_else_clause
    mention_finally mention_next_generator mention_type_clause mention_expr_list mention_flat
    mention_next_expr mention_operand mention_run

-- the names that stand as types in an `elif`
unfoldable pub mentioned_elif : Elif → Mentioned
mentioned_elif =
    fold-Elif Mentioned Mentioned Mentioned Mentioned Mentioned Mentioned Mentioned Mentioned
    Mentioned Mentioned Mentioned Mentioned Mentioned Mentioned Mentioned Mentioned Mentioned
    Mentioned Mentioned Mentioned Mentioned Mentioned Mentioned Mentioned Mentioned
    mention_delimited mention_item mention_atom mention_expr mention_flat_part mention_generator
    mention_head mention_postfix mention_run_part mention_variable mention_also mention_block_item
    mention_case_clause mention_catch mention_elif mention_else_block mention_else_clause
    mention_finally mention_next_generator mention_type_clause mention_expr_list mention_flat
    mention_next_expr mention_operand mention_run

-- the names that stand as types in the `else` of an `if`
unfoldable pub mentioned_else_block : ElseBlock → Mentioned
mentioned_else_block =
    fold-ElseBlock Mentioned Mentioned Mentioned Mentioned Mentioned Mentioned Mentioned Mentioned
    Mentioned Mentioned Mentioned Mentioned Mentioned Mentioned Mentioned Mentioned Mentioned
    Mentioned Mentioned Mentioned Mentioned Mentioned Mentioned Mentioned Mentioned
    mention_delimited mention_item mention_atom mention_expr mention_flat_part mention_generator
    mention_head mention_postfix mention_run_part mention_variable mention_also mention_block_item
    mention_case_clause mention_catch mention_elif mention_else_block mention_else_clause
    mention_finally mention_next_generator mention_type_clause mention_expr_list mention_flat
    mention_next_expr mention_operand mention_run

-- the names that stand as types in the `else` of a `case` or `typecase`
unfoldable pub mentioned_else_clause : ElseClause → Mentioned
mentioned_else_clause =
    fold-ElseClause Mentioned Mentioned Mentioned Mentioned Mentioned Mentioned Mentioned Mentioned
    Mentioned Mentioned Mentioned Mentioned Mentioned Mentioned Mentioned Mentioned Mentioned
    Mentioned Mentioned Mentioned Mentioned Mentioned Mentioned Mentioned Mentioned
    mention_delimited mention_item mention_atom mention_expr mention_flat_part mention_generator
    mention_head mention_postfix mention_run_part mention_variable mention_also mention_block_item
    mention_case_clause mention_catch mention_elif mention_else_block mention_else_clause
    mention_finally mention_next_generator mention_type_clause mention_expr_list mention_flat
    mention_next_expr mention_operand mention_run

-- the names that stand as types in a `finally`
unfoldable pub mentioned_finally : Finally → Mentioned
mentioned_finally =
    fold-Finally Mentioned Mentioned Mentioned Mentioned Mentioned Mentioned Mentioned Mentioned
    Mentioned Mentioned Mentioned Mentioned Mentioned Mentioned Mentioned Mentioned Mentioned
    Mentioned Mentioned Mentioned Mentioned Mentioned Mentioned Mentioned Mentioned
    mention_delimited mention_item mention_atom mention_expr mention_flat_part mention_generator
    mention_head mention_postfix mention_run_part mention_variable mention_also mention_block_item
    mention_case_clause mention_catch mention_elif mention_else_block mention_else_clause
    mention_finally mention_next_generator mention_type_clause mention_expr_list mention_flat
    mention_next_expr mention_operand mention_run

-- the names that stand as types in a further generator of a `for`
unfoldable pub mentioned_next_generator : NextGenerator → Mentioned
mentioned_next_generator =
    fold-NextGenerator Mentioned Mentioned Mentioned Mentioned Mentioned Mentioned Mentioned
    Mentioned Mentioned Mentioned Mentioned Mentioned Mentioned Mentioned Mentioned Mentioned
    Mentioned Mentioned Mentioned Mentioned Mentioned Mentioned Mentioned Mentioned Mentioned
    mention_delimited mention_item mention_atom mention_expr mention_flat_part mention_generator
    mention_head mention_postfix mention_run_part mention_variable mention_also mention_block_item
    mention_case_clause mention_catch mention_elif mention_else_block mention_else_clause
    mention_finally mention_next_generator mention_type_clause mention_expr_list mention_flat
    mention_next_expr mention_operand mention_run

-- the names that stand as types in a clause of a `typecase` or `catch`
unfoldable pub mentioned_type_clause : TypeClause → Mentioned
mentioned_type_clause =
    fold-TypeClause Mentioned Mentioned Mentioned Mentioned Mentioned Mentioned Mentioned Mentioned
    Mentioned Mentioned Mentioned Mentioned Mentioned Mentioned Mentioned Mentioned Mentioned
    Mentioned Mentioned Mentioned Mentioned Mentioned Mentioned Mentioned Mentioned
    mention_delimited mention_item mention_atom mention_expr mention_flat_part mention_generator
    mention_head mention_postfix mention_run_part mention_variable mention_also mention_block_item
    mention_case_clause mention_catch mention_elif mention_else_block mention_else_clause
    mention_finally mention_next_generator mention_type_clause mention_expr_list mention_flat
    mention_next_expr mention_operand mention_run

-- the names that stand as types in a list of expressions
unfoldable pub mentioned_expr_list : ExprList → Mentioned
mentioned_expr_list =
    fold-ExprList Mentioned Mentioned Mentioned Mentioned Mentioned Mentioned Mentioned Mentioned
    Mentioned Mentioned Mentioned Mentioned Mentioned Mentioned Mentioned Mentioned Mentioned
    Mentioned Mentioned Mentioned Mentioned Mentioned Mentioned Mentioned Mentioned
    mention_delimited mention_item mention_atom mention_expr mention_flat_part mention_generator
    mention_head mention_postfix mention_run_part mention_variable mention_also mention_block_item
    mention_case_clause mention_catch mention_elif mention_else_block mention_else_clause
    mention_finally mention_next_generator mention_type_clause mention_expr_list mention_flat
    mention_next_expr mention_operand mention_run

-- the names that stand as types in a flat expression
unfoldable pub mentioned_flat : Flat → Mentioned
mentioned_flat =
    fold-Flat Mentioned Mentioned Mentioned Mentioned Mentioned Mentioned Mentioned Mentioned
    Mentioned Mentioned Mentioned Mentioned Mentioned Mentioned Mentioned Mentioned Mentioned
    Mentioned Mentioned Mentioned Mentioned Mentioned Mentioned Mentioned Mentioned
    mention_delimited mention_item mention_atom mention_expr mention_flat_part mention_generator
    mention_head mention_postfix mention_run_part mention_variable mention_also mention_block_item
    mention_case_clause mention_catch mention_elif mention_else_block mention_else_clause
    mention_finally mention_next_generator mention_type_clause mention_expr_list mention_flat
    mention_next_expr mention_operand mention_run

-- the names that stand as types in a further expression of a list
unfoldable pub mentioned_next_expr : NextExpr → Mentioned
mentioned_next_expr =
    fold-NextExpr Mentioned Mentioned Mentioned Mentioned Mentioned Mentioned Mentioned Mentioned
    Mentioned Mentioned Mentioned Mentioned Mentioned Mentioned Mentioned Mentioned Mentioned
    Mentioned Mentioned Mentioned Mentioned Mentioned Mentioned Mentioned Mentioned
    mention_delimited mention_item mention_atom mention_expr mention_flat_part mention_generator
    mention_head mention_postfix mention_run_part mention_variable mention_also mention_block_item
    mention_case_clause mention_catch mention_elif mention_else_block mention_else_clause
    mention_finally mention_next_generator mention_type_clause mention_expr_list mention_flat
    mention_next_expr mention_operand mention_run

-- the names that stand as types in a unit
unfoldable pub mentioned_operand : Operand → Mentioned
mentioned_operand =
    fold-Operand Mentioned Mentioned Mentioned Mentioned Mentioned Mentioned Mentioned Mentioned
    Mentioned Mentioned Mentioned Mentioned Mentioned Mentioned Mentioned Mentioned Mentioned
    Mentioned Mentioned Mentioned Mentioned Mentioned Mentioned Mentioned Mentioned
    mention_delimited mention_item mention_atom mention_expr mention_flat_part mention_generator
    mention_head mention_postfix mention_run_part mention_variable mention_also mention_block_item
    mention_case_clause mention_catch mention_elif mention_else_block mention_else_clause
    mention_finally mention_next_generator mention_type_clause mention_expr_list mention_flat
    mention_next_expr mention_operand mention_run

-- the names that stand as types in a run
unfoldable pub mentioned_run : Run → Mentioned
mentioned_run =
    fold-Run Mentioned Mentioned Mentioned Mentioned Mentioned Mentioned Mentioned Mentioned
    Mentioned Mentioned Mentioned Mentioned Mentioned Mentioned Mentioned Mentioned Mentioned
    Mentioned Mentioned Mentioned Mentioned Mentioned Mentioned Mentioned Mentioned
    mention_delimited mention_item mention_atom mention_expr mention_flat_part mention_generator
    mention_head mention_postfix mention_run_part mention_variable mention_also mention_block_item
    mention_case_clause mention_catch mention_elif mention_else_block mention_else_clause
    mention_finally mention_next_generator mention_type_clause mention_expr_list mention_flat
    mention_next_expr mention_operand mention_run
