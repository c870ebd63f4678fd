-- The chapter "Typing", forms: the form of each tree that a block may stand in, by its levels. The
-- code keeps a stack of what it has still to do.
use Rattle.fort_tree.specs.declared.delimited.Delimited.{Delimited}
use Rattle.fort_tree.specs.declared.delimited.Item.{Item}
use Rattle.fort_tree.specs.declared.expr.Atom.{Atom}
use Rattle.fort_tree.specs.declared.expr.Expr.{Expr}
use Rattle.fort_tree.specs.declared.expr.FlatPart.{FlatPart}
use Rattle.fort_tree.specs.declared.expr.Generator.{Generator}
use Rattle.fort_tree.specs.declared.expr.Head.{Head}
use Rattle.fort_tree.specs.declared.expr.Postfix.{Postfix}
use Rattle.fort_tree.specs.declared.expr.RunPart.{RunPart}
use Rattle.fort_tree.specs.declared.declarations.Variable.{Variable}
use Rattle.fort_tree.specs.declared.delimited.Also.{Also}
use Rattle.fort_tree.specs.declared.delimited.BlockItem.{BlockItem}
use Rattle.fort_tree.specs.declared.delimited.CaseClause.{CaseClause}
use Rattle.fort_tree.specs.declared.delimited.Catch.{Catch}
use Rattle.fort_tree.specs.declared.delimited.Elif.{Elif}
use Rattle.fort_tree.specs.declared.delimited.ElseBlock.{ElseBlock}
use Rattle.fort_tree.specs.declared.delimited.ElseClause.{ElseClause}
use Rattle.fort_tree.specs.declared.delimited.Finally.{Finally}
use Rattle.fort_tree.specs.declared.delimited.NextGenerator.{NextGenerator}
use Rattle.fort_tree.specs.declared.delimited.TypeClause.{TypeClause}
use Rattle.fort_tree.specs.declared.expr.ExprList.{ExprList}
use Rattle.fort_tree.specs.declared.expr.Flat.{Flat}
use Rattle.fort_tree.specs.declared.expr.NextExpr.{NextExpr}
use Rattle.fort_tree.specs.declared.expr.Operand.{Operand}
use Rattle.fort_tree.specs.declared.expr.Run.{Run}
use Rattle.fort_tree.specs.declared.delimited.Delimited.TheFolds.{fold-Delimited, fold-Item, fold-Atom, fold-Expr, fold-FlatPart, fold-Generator, fold-Head, fold-Postfix, fold-RunPart, fold-Variable, fold-Also, fold-BlockItem, fold-CaseClause, fold-Catch, fold-Elif, fold-ElseBlock, fold-ElseClause, fold-Finally, fold-NextGenerator, fold-TypeClause, fold-ExprList, fold-Flat, fold-NextExpr, fold-Operand, fold-Run}
use Rattle.fort_form.specs.declared.form.Form.{Form}
use Rattle.fort_form.specs.declared.form.Branch.{Branch}
use Rattle.fort_form.specs.declared.form.TypeBranch.{TypeBranch}
use Rattle.fort_form.specs.declared.form.Generator.{Generator as FormGenerator}
use Rattle.fort_form_meaning.specs.Source.{Source}
use Rattle.fort_form_meaning.specs.Levels.{Placed, Catching, Opening, Listed}
use Rattle.fort_form_meaning.specs.Forming.{form_delimited, form_item, form_atom, form_expr, form_flat_part, form_generator, form_head, form_postfix, form_run_part, form_variable, form_also, form_block_item, form_case_clause, form_catch, form_elif, form_else_block, form_else_clause, form_finally, form_next_generator, form_type_clause, form_expr_list, form_flat, form_next_expr, form_operand, form_run}

-- what a form that ends with `end` becomes
unfoldable pub formed_delimited : Source → Delimited → Form
formed_delimited k =
    fold-Delimited Form Placed Form Form Form FormGenerator Opening Form Form Placed Form Placed
    Branch Catching Branch Form Form Form FormGenerator TypeBranch Listed Form Form Form Form
    form_delimited (form_item k) (form_atom k) form_expr form_flat_part form_generator (form_head k)
    form_postfix form_run_part (form_variable k) form_also form_block_item form_case_clause
    form_catch form_elif form_else_block form_else_clause form_finally form_next_generator
    (form_type_clause k) form_expr_list (form_flat k) form_next_expr form_operand form_run

-- what an item of a block becomes
unfoldable pub formed_item : Source → Item → Placed
formed_item k =
    fold-Item Form Placed Form Form Form FormGenerator Opening Form Form Placed Form Placed Branch
    Catching Branch Form Form Form FormGenerator TypeBranch Listed Form Form Form Form
    form_delimited (form_item k) (form_atom k) form_expr form_flat_part form_generator (form_head k)
    form_postfix form_run_part (form_variable k) form_also form_block_item form_case_clause
    form_catch form_elif form_else_block form_else_clause form_finally form_next_generator
    (form_type_clause k) form_expr_list (form_flat k) form_next_expr form_operand form_run

-- what an atom becomes
unfoldable pub formed_atom : Source → Atom → Form
formed_atom k =
    fold-Atom Form Placed Form Form Form FormGenerator Opening Form Form Placed Form Placed Branch
    Catching Branch Form Form Form FormGenerator TypeBranch Listed Form Form Form Form
    form_delimited (form_item k) (form_atom k) form_expr form_flat_part form_generator (form_head k)
    form_postfix form_run_part (form_variable k) form_also form_block_item form_case_clause
    form_catch form_elif form_else_block form_else_clause form_finally form_next_generator
    (form_type_clause k) form_expr_list (form_flat k) form_next_expr form_operand form_run

-- what an expression becomes
unfoldable pub formed_expr : Source → Expr → Form
formed_expr k =
    fold-Expr Form Placed Form Form Form FormGenerator Opening Form Form Placed Form Placed Branch
    Catching Branch Form Form Form FormGenerator TypeBranch Listed Form Form Form Form
    form_delimited (form_item k) (form_atom k) form_expr form_flat_part form_generator (form_head k)
    form_postfix form_run_part (form_variable k) form_also form_block_item form_case_clause
    form_catch form_elif form_else_block form_else_clause form_finally form_next_generator
    (form_type_clause k) form_expr_list (form_flat k) form_next_expr form_operand form_run

-- what a further unit of a flat expression becomes
unfoldable pub formed_flat_part : Source → FlatPart → Form
formed_flat_part k =
    fold-FlatPart Form Placed Form Form Form FormGenerator Opening Form Form Placed Form Placed
    Branch Catching Branch Form Form Form FormGenerator TypeBranch Listed Form Form Form Form
    form_delimited (form_item k) (form_atom k) form_expr form_flat_part form_generator (form_head k)
    form_postfix form_run_part (form_variable k) form_also form_block_item form_case_clause
    form_catch form_elif form_else_block form_else_clause form_finally form_next_generator
    (form_type_clause k) form_expr_list (form_flat k) form_next_expr form_operand form_run

-- what a generator becomes
unfoldable pub formed_generator : Source → Generator → FormGenerator
formed_generator k =
    fold-Generator Form Placed Form Form Form FormGenerator Opening Form Form Placed Form Placed
    Branch Catching Branch Form Form Form FormGenerator TypeBranch Listed Form Form Form Form
    form_delimited (form_item k) (form_atom k) form_expr form_flat_part form_generator (form_head k)
    form_postfix form_run_part (form_variable k) form_also form_block_item form_case_clause
    form_catch form_elif form_else_block form_else_clause form_finally form_next_generator
    (form_type_clause k) form_expr_list (form_flat k) form_next_expr form_operand form_run

-- what a head becomes
unfoldable pub formed_head : Source → Head → Opening
formed_head k =
    fold-Head Form Placed Form Form Form FormGenerator Opening Form Form Placed Form Placed Branch
    Catching Branch Form Form Form FormGenerator TypeBranch Listed Form Form Form Form
    form_delimited (form_item k) (form_atom k) form_expr form_flat_part form_generator (form_head k)
    form_postfix form_run_part (form_variable k) form_also form_block_item form_case_clause
    form_catch form_elif form_else_block form_else_clause form_finally form_next_generator
    (form_type_clause k) form_expr_list (form_flat k) form_next_expr form_operand form_run

-- what a postfix becomes
unfoldable pub formed_postfix : Source → Postfix → Form
formed_postfix k =
    fold-Postfix Form Placed Form Form Form FormGenerator Opening Form Form Placed Form Placed
    Branch Catching Branch Form Form Form FormGenerator TypeBranch Listed Form Form Form Form
    form_delimited (form_item k) (form_atom k) form_expr form_flat_part form_generator (form_head k)
    form_postfix form_run_part (form_variable k) form_also form_block_item form_case_clause
    form_catch form_elif form_else_block form_else_clause form_finally form_next_generator
    (form_type_clause k) form_expr_list (form_flat k) form_next_expr form_operand form_run

-- what a further element of a run becomes
unfoldable pub formed_run_part : Source → RunPart → Form
formed_run_part k =
    fold-RunPart Form Placed Form Form Form FormGenerator Opening Form Form Placed Form Placed
    Branch Catching Branch Form Form Form FormGenerator TypeBranch Listed Form Form Form Form
    form_delimited (form_item k) (form_atom k) form_expr form_flat_part form_generator (form_head k)
    form_postfix form_run_part (form_variable k) form_also form_block_item form_case_clause
    form_catch form_elif form_else_block form_else_clause form_finally form_next_generator
    (form_type_clause k) form_expr_list (form_flat k) form_next_expr form_operand form_run

-- what a declaration of a variable becomes
unfoldable pub formed_variable : Source → Variable → Placed
formed_variable k =
    fold-Variable Form Placed Form Form Form FormGenerator Opening Form Form Placed Form Placed
    Branch Catching Branch Form Form Form FormGenerator TypeBranch Listed Form Form Form Form
    form_delimited (form_item k) (form_atom k) form_expr form_flat_part form_generator (form_head k)
    form_postfix form_run_part (form_variable k) form_also form_block_item form_case_clause
    form_catch form_elif form_else_block form_else_clause form_finally form_next_generator
    (form_type_clause k) form_expr_list (form_flat k) form_next_expr form_operand form_run

-- what an `also` with its block becomes
unfoldable pub formed_also : Source → Also → Form
formed_also k =
    fold-Also Form Placed Form Form Form FormGenerator Opening Form Form Placed Form Placed Branch
    Catching Branch Form Form Form FormGenerator TypeBranch Listed Form Form Form Form
    form_delimited (form_item k) (form_atom k) form_expr form_flat_part form_generator (form_head k)
    form_postfix form_run_part (form_variable k) form_also form_block_item form_case_clause
    form_catch form_elif form_else_block form_else_clause form_finally form_next_generator
    (form_type_clause k) form_expr_list (form_flat k) form_next_expr form_operand form_run

-- what an item of a block with its `;` becomes
unfoldable pub formed_block_item : Source → BlockItem → Placed
formed_block_item k =
    fold-BlockItem Form Placed Form Form Form FormGenerator Opening Form Form Placed Form Placed
    Branch Catching Branch Form Form Form FormGenerator TypeBranch Listed Form Form Form Form
    form_delimited (form_item k) (form_atom k) form_expr form_flat_part form_generator (form_head k)
    form_postfix form_run_part (form_variable k) form_also form_block_item form_case_clause
    form_catch form_elif form_else_block form_else_clause form_finally form_next_generator
    (form_type_clause k) form_expr_list (form_flat k) form_next_expr form_operand form_run

-- what a clause of a `case` becomes
unfoldable pub formed_case_clause : Source → CaseClause → Branch
formed_case_clause k =
    fold-CaseClause Form Placed Form Form Form FormGenerator Opening Form Form Placed Form Placed
    Branch Catching Branch Form Form Form FormGenerator TypeBranch Listed Form Form Form Form
    form_delimited (form_item k) (form_atom k) form_expr form_flat_part form_generator (form_head k)
    form_postfix form_run_part (form_variable k) form_also form_block_item form_case_clause
    form_catch form_elif form_else_block form_else_clause form_finally form_next_generator
    (form_type_clause k) form_expr_list (form_flat k) form_next_expr form_operand form_run

-- what a `catch` becomes
unfoldable pub formed_catch : Source → Catch → Catching
formed_catch k =
    fold-Catch Form Placed Form Form Form FormGenerator Opening Form Form Placed Form Placed Branch
    Catching Branch Form Form Form FormGenerator TypeBranch Listed Form Form Form Form
    form_delimited (form_item k) (form_atom k) form_expr form_flat_part form_generator (form_head k)
    form_postfix form_run_part (form_variable k) form_also form_block_item form_case_clause
    form_catch form_elif form_else_block form_else_clause form_finally form_next_generator
    (form_type_clause k) form_expr_list (form_flat k) form_next_expr form_operand form_run

-- what an `elif` becomes
unfoldable pub formed_elif : Source → Elif → Branch
formed_elif k =
    fold-Elif Form Placed Form Form Form FormGenerator Opening Form Form Placed Form Placed Branch
    Catching Branch Form Form Form FormGenerator TypeBranch Listed Form Form Form Form
    form_delimited (form_item k) (form_atom k) form_expr form_flat_part form_generator (form_head k)
    form_postfix form_run_part (form_variable k) form_also form_block_item form_case_clause
    form_catch form_elif form_else_block form_else_clause form_finally form_next_generator
    (form_type_clause k) form_expr_list (form_flat k) form_next_expr form_operand form_run

-- what the `else` of an `if` becomes
unfoldable pub formed_else_block : Source → ElseBlock → Form
formed_else_block k =
    fold-ElseBlock Form Placed Form Form Form FormGenerator Opening Form Form Placed Form Placed
    Branch Catching Branch Form Form Form FormGenerator TypeBranch Listed Form Form Form Form
    form_delimited (form_item k) (form_atom k) form_expr form_flat_part form_generator (form_head k)
    form_postfix form_run_part (form_variable k) form_also form_block_item form_case_clause
    form_catch form_elif form_else_block form_else_clause form_finally form_next_generator
    (form_type_clause k) form_expr_list (form_flat k) form_next_expr form_operand form_run

-- what the `else` of a `case` or `typecase` becomes
unfoldable pub formed_else_clause : Source → ElseClause → Form
formed_else_clause k =
    fold-ElseClause Form Placed Form Form Form FormGenerator Opening Form Form Placed Form Placed
    Branch Catching Branch Form Form Form FormGenerator TypeBranch Listed Form Form Form Form
    form_delimited (form_item k) (form_atom k) form_expr form_flat_part form_generator (form_head k)
    form_postfix form_run_part (form_variable k) form_also form_block_item form_case_clause
    form_catch form_elif form_else_block form_else_clause form_finally form_next_generator
    (form_type_clause k) form_expr_list (form_flat k) form_next_expr form_operand form_run

-- what a `finally` becomes
unfoldable pub formed_finally : Source → Finally → Form
formed_finally k =
    fold-Finally Form Placed Form Form Form FormGenerator Opening Form Form Placed Form Placed
    Branch Catching Branch Form Form Form FormGenerator TypeBranch Listed Form Form Form Form
    form_delimited (form_item k) (form_atom k) form_expr form_flat_part form_generator (form_head k)
    form_postfix form_run_part (form_variable k) form_also form_block_item form_case_clause
    form_catch form_elif form_else_block form_else_clause form_finally form_next_generator
    (form_type_clause k) form_expr_list (form_flat k) form_next_expr form_operand form_run

-- what a further generator of a `for` becomes
unfoldable pub formed_next_generator : Source → NextGenerator → FormGenerator
formed_next_generator k =
    fold-NextGenerator Form Placed Form Form Form FormGenerator Opening Form Form Placed Form Placed
    Branch Catching Branch Form Form Form FormGenerator TypeBranch Listed Form Form Form Form
    form_delimited (form_item k) (form_atom k) form_expr form_flat_part form_generator (form_head k)
    form_postfix form_run_part (form_variable k) form_also form_block_item form_case_clause
    form_catch form_elif form_else_block form_else_clause form_finally form_next_generator
    (form_type_clause k) form_expr_list (form_flat k) form_next_expr form_operand form_run

-- what a clause of a `typecase` or `catch` becomes
unfoldable pub formed_type_clause : Source → TypeClause → TypeBranch
formed_type_clause k =
    fold-TypeClause Form Placed Form Form Form FormGenerator Opening Form Form Placed Form Placed
    Branch Catching Branch Form Form Form FormGenerator TypeBranch Listed Form Form Form Form
    form_delimited (form_item k) (form_atom k) form_expr form_flat_part form_generator (form_head k)
    form_postfix form_run_part (form_variable k) form_also form_block_item form_case_clause
    form_catch form_elif form_else_block form_else_clause form_finally form_next_generator
    (form_type_clause k) form_expr_list (form_flat k) form_next_expr form_operand form_run

-- what a list of expressions becomes
unfoldable pub formed_expr_list : Source → ExprList → Listed
formed_expr_list k =
    fold-ExprList Form Placed Form Form Form FormGenerator Opening Form Form Placed Form Placed
    Branch Catching Branch Form Form Form FormGenerator TypeBranch Listed Form Form Form Form
    form_delimited (form_item k) (form_atom k) form_expr form_flat_part form_generator (form_head k)
    form_postfix form_run_part (form_variable k) form_also form_block_item form_case_clause
    form_catch form_elif form_else_block form_else_clause form_finally form_next_generator
    (form_type_clause k) form_expr_list (form_flat k) form_next_expr form_operand form_run

-- what a flat expression becomes
unfoldable pub formed_flat : Source → Flat → Form
formed_flat k =
    fold-Flat Form Placed Form Form Form FormGenerator Opening Form Form Placed Form Placed Branch
    Catching Branch Form Form Form FormGenerator TypeBranch Listed Form Form Form Form
    form_delimited (form_item k) (form_atom k) form_expr form_flat_part form_generator (form_head k)
    form_postfix form_run_part (form_variable k) form_also form_block_item form_case_clause
    form_catch form_elif form_else_block form_else_clause form_finally form_next_generator
    (form_type_clause k) form_expr_list (form_flat k) form_next_expr form_operand form_run

-- what a further expression of a list becomes
unfoldable pub formed_next_expr : Source → NextExpr → Form
formed_next_expr k =
    fold-NextExpr Form Placed Form Form Form FormGenerator Opening Form Form Placed Form Placed
    Branch Catching Branch Form Form Form FormGenerator TypeBranch Listed Form Form Form Form
    form_delimited (form_item k) (form_atom k) form_expr form_flat_part form_generator (form_head k)
    form_postfix form_run_part (form_variable k) form_also form_block_item form_case_clause
    form_catch form_elif form_else_block form_else_clause form_finally form_next_generator
    (form_type_clause k) form_expr_list (form_flat k) form_next_expr form_operand form_run

-- what a unit becomes
unfoldable pub formed_operand : Source → Operand → Form
formed_operand k =
    fold-Operand Form Placed Form Form Form FormGenerator Opening Form Form Placed Form Placed
    Branch Catching Branch Form Form Form FormGenerator TypeBranch Listed Form Form Form Form
    form_delimited (form_item k) (form_atom k) form_expr form_flat_part form_generator (form_head k)
    form_postfix form_run_part (form_variable k) form_also form_block_item form_case_clause
    form_catch form_elif form_else_block form_else_clause form_finally form_next_generator
    (form_type_clause k) form_expr_list (form_flat k) form_next_expr form_operand form_run

-- what a run becomes
unfoldable pub formed_run : Source → Run → Form
formed_run k =
    fold-Run Form Placed Form Form Form FormGenerator Opening Form Form Placed Form Placed Branch
    Catching Branch Form Form Form FormGenerator TypeBranch Listed Form Form Form Form
    form_delimited (form_item k) (form_atom k) form_expr form_flat_part form_generator (form_head k)
    form_postfix form_run_part (form_variable k) form_also form_block_item form_case_clause
    form_catch form_elif form_else_block form_else_clause form_finally form_next_generator
    (form_type_clause k) form_expr_list (form_flat k) form_next_expr form_operand form_run
