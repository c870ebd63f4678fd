-- The chapter "Grammar", limits: what each tree that a block may stand in measures, by its levels.
use Rattle.fort_tree.specs.declared.delimited.Delimited.{Delimited}
use Rattle.fort_tree.specs.declared.delimited.Item.{Item}
use Rattle.fort_tree.specs.declared.expr.Atom.{Atom}
use Rattle.fort_tree.specs.declared.expr.Expr.{Expr}
use Rattle.fort_tree.specs.declared.expr.FlatPart.{FlatPart}
use Rattle.fort_tree.specs.declared.expr.Generator.{Generator}
use Rattle.fort_tree.specs.declared.expr.Head.{Head}
use Rattle.fort_tree.specs.declared.expr.Postfix.{Postfix}
use Rattle.fort_tree.specs.declared.expr.RunPart.{RunPart}
use Rattle.fort_tree.specs.declared.declarations.Variable.{Variable}
use Rattle.fort_tree.specs.declared.delimited.Also.{Also}
use Rattle.fort_tree.specs.declared.delimited.BlockItem.{BlockItem}
use Rattle.fort_tree.specs.declared.delimited.CaseClause.{CaseClause}
use Rattle.fort_tree.specs.declared.delimited.Catch.{Catch}
use Rattle.fort_tree.specs.declared.delimited.Elif.{Elif}
use Rattle.fort_tree.specs.declared.delimited.ElseBlock.{ElseBlock}
use Rattle.fort_tree.specs.declared.delimited.ElseClause.{ElseClause}
use Rattle.fort_tree.specs.declared.delimited.Finally.{Finally}
use Rattle.fort_tree.specs.declared.delimited.NextGenerator.{NextGenerator}
use Rattle.fort_tree.specs.declared.delimited.TypeClause.{TypeClause}
use Rattle.fort_tree.specs.declared.expr.ExprList.{ExprList}
use Rattle.fort_tree.specs.declared.expr.Flat.{Flat, out-Flat}
use Rattle.fort_tree.specs.declared.expr.NextExpr.{NextExpr}
use Rattle.fort_tree.specs.declared.expr.Operand.{Operand}
use Rattle.fort_tree.specs.declared.expr.Run.{Run}
use Rattle.fort_tree.specs.declared.delimited.Delimited.TheFolds.{fold-Delimited, fold-Item, fold-Atom, fold-Expr, fold-FlatPart, fold-Generator, fold-Head, fold-Postfix, fold-RunPart, fold-Variable, fold-Also, fold-BlockItem, fold-CaseClause, fold-Catch, fold-Elif, fold-ElseBlock, fold-ElseClause, fold-Finally, fold-NextGenerator, fold-TypeClause, fold-ExprList, fold-Flat, fold-NextExpr, fold-Operand, fold-Run}
use Rattle.fort_tree.specs.declared.grouped.Row.{Row}
use Rattle.fort_tree.specs.Measured.{Measured, Joined, Listed}
use Rattle.std.specs.Prelude.{map}
use Rattle.fort_tree.specs.Measures.{row, measure_delimited, measure_item, measure_atom, measure_expr, measure_flat_part, measure_generator, measure_head, measure_postfix, measure_run_part, measure_variable, measure_also, measure_block_item, measure_case_clause, measure_catch, measure_elif, measure_else_block, measure_else_clause, measure_finally, measure_next_generator, measure_type_clause, measure_expr_list, measure_flat, measure_next_expr, measure_operand, measure_run}

-- what a form that ends with `end` measures
unfoldable pub measured_delimited : Delimited → Measured
measured_delimited =
    fold-Delimited Measured Measured Measured Measured Joined Measured Measured Measured Measured
    Measured Measured Measured Measured Listed Measured Measured Measured Measured Measured Measured
    Listed Measured Measured Measured Measured measure_delimited measure_item measure_atom
    measure_expr measure_flat_part measure_generator measure_head measure_postfix measure_run_part
    measure_variable measure_also measure_block_item measure_case_clause measure_catch measure_elif
    measure_else_block measure_else_clause measure_finally measure_next_generator
    measure_type_clause measure_expr_list measure_flat measure_next_expr measure_operand measure_run

-- what an item of a block measures
unfoldable pub measured_item : Item → Measured
measured_item =
    fold-Item Measured Measured Measured Measured Joined Measured Measured Measured Measured
    Measured Measured Measured Measured Listed Measured Measured Measured Measured Measured Measured
    Listed Measured Measured Measured Measured measure_delimited measure_item measure_atom
    measure_expr measure_flat_part measure_generator measure_head measure_postfix measure_run_part
    measure_variable measure_also measure_block_item measure_case_clause measure_catch measure_elif
    measure_else_block measure_else_clause measure_finally measure_next_generator
    measure_type_clause measure_expr_list measure_flat measure_next_expr measure_operand measure_run

-- what an atom measures
unfoldable pub measured_atom : Atom → Measured
measured_atom =
    fold-Atom Measured Measured Measured Measured Joined Measured Measured Measured Measured
    Measured Measured Measured Measured Listed Measured Measured Measured Measured Measured Measured
    Listed Measured Measured Measured Measured measure_delimited measure_item measure_atom
    measure_expr measure_flat_part measure_generator measure_head measure_postfix measure_run_part
    measure_variable measure_also measure_block_item measure_case_clause measure_catch measure_elif
    measure_else_block measure_else_clause measure_finally measure_next_generator
    measure_type_clause measure_expr_list measure_flat measure_next_expr measure_operand measure_run

-- what an expression measures
unfoldable pub measured_expr : Expr → Measured
measured_expr =
    fold-Expr Measured Measured Measured Measured Joined Measured Measured Measured Measured
    Measured Measured Measured Measured Listed Measured Measured Measured Measured Measured Measured
    Listed Measured Measured Measured Measured measure_delimited measure_item measure_atom
    measure_expr measure_flat_part measure_generator measure_head measure_postfix measure_run_part
    measure_variable measure_also measure_block_item measure_case_clause measure_catch measure_elif
    measure_else_block measure_else_clause measure_finally measure_next_generator
    measure_type_clause measure_expr_list measure_flat measure_next_expr measure_operand measure_run

-- what a further part of a flat expression measures
unfoldable pub measured_flat_part : FlatPart → Joined
measured_flat_part =
    fold-FlatPart Measured Measured Measured Measured Joined Measured Measured Measured Measured
    Measured Measured Measured Measured Listed Measured Measured Measured Measured Measured Measured
    Listed Measured Measured Measured Measured measure_delimited measure_item measure_atom
    measure_expr measure_flat_part measure_generator measure_head measure_postfix measure_run_part
    measure_variable measure_also measure_block_item measure_case_clause measure_catch measure_elif
    measure_else_block measure_else_clause measure_finally measure_next_generator
    measure_type_clause measure_expr_list measure_flat measure_next_expr measure_operand measure_run

-- what a generator measures
unfoldable pub measured_generator : Generator → Measured
measured_generator =
    fold-Generator Measured Measured Measured Measured Joined Measured Measured Measured Measured
    Measured Measured Measured Measured Listed Measured Measured Measured Measured Measured Measured
    Listed Measured Measured Measured Measured measure_delimited measure_item measure_atom
    measure_expr measure_flat_part measure_generator measure_head measure_postfix measure_run_part
    measure_variable measure_also measure_block_item measure_case_clause measure_catch measure_elif
    measure_else_block measure_else_clause measure_finally measure_next_generator
    measure_type_clause measure_expr_list measure_flat measure_next_expr measure_operand measure_run

-- what a head measures
unfoldable pub measured_head : Head → Measured
measured_head =
    fold-Head Measured Measured Measured Measured Joined Measured Measured Measured Measured
    Measured Measured Measured Measured Listed Measured Measured Measured Measured Measured Measured
    Listed Measured Measured Measured Measured measure_delimited measure_item measure_atom
    measure_expr measure_flat_part measure_generator measure_head measure_postfix measure_run_part
    measure_variable measure_also measure_block_item measure_case_clause measure_catch measure_elif
    measure_else_block measure_else_clause measure_finally measure_next_generator
    measure_type_clause measure_expr_list measure_flat measure_next_expr measure_operand measure_run

-- what a postfix measures
unfoldable pub measured_postfix : Postfix → Measured
measured_postfix =
    fold-Postfix Measured Measured Measured Measured Joined Measured Measured Measured Measured
    Measured Measured Measured Measured Listed Measured Measured Measured Measured Measured Measured
    Listed Measured Measured Measured Measured measure_delimited measure_item measure_atom
    measure_expr measure_flat_part measure_generator measure_head measure_postfix measure_run_part
    measure_variable measure_also measure_block_item measure_case_clause measure_catch measure_elif
    measure_else_block measure_else_clause measure_finally measure_next_generator
    measure_type_clause measure_expr_list measure_flat measure_next_expr measure_operand measure_run

-- what a further part of a run measures
unfoldable pub measured_run_part : RunPart → Measured
measured_run_part =
    fold-RunPart Measured Measured Measured Measured Joined Measured Measured Measured Measured
    Measured Measured Measured Measured Listed Measured Measured Measured Measured Measured Measured
    Listed Measured Measured Measured Measured measure_delimited measure_item measure_atom
    measure_expr measure_flat_part measure_generator measure_head measure_postfix measure_run_part
    measure_variable measure_also measure_block_item measure_case_clause measure_catch measure_elif
    measure_else_block measure_else_clause measure_finally measure_next_generator
    measure_type_clause measure_expr_list measure_flat measure_next_expr measure_operand measure_run

-- what a declaration of a variable measures
unfoldable pub measured_variable : Variable → Measured
measured_variable =
    fold-Variable Measured Measured Measured Measured Joined Measured Measured Measured Measured
    Measured Measured Measured Measured Listed Measured Measured Measured Measured Measured Measured
    Listed Measured Measured Measured Measured measure_delimited measure_item measure_atom
    measure_expr measure_flat_part measure_generator measure_head measure_postfix measure_run_part
    measure_variable measure_also measure_block_item measure_case_clause measure_catch measure_elif
    measure_else_block measure_else_clause measure_finally measure_next_generator
    measure_type_clause measure_expr_list measure_flat measure_next_expr measure_operand measure_run

-- what an `also` with its block measures
unfoldable pub measured_also : Also → Measured
measured_also =
    fold-Also Measured Measured Measured Measured Joined Measured Measured Measured Measured
    Measured Measured Measured Measured Listed Measured Measured Measured Measured Measured Measured
    Listed Measured Measured Measured Measured measure_delimited measure_item measure_atom
    measure_expr measure_flat_part measure_generator measure_head measure_postfix measure_run_part
    measure_variable measure_also measure_block_item measure_case_clause measure_catch measure_elif
    measure_else_block measure_else_clause measure_finally measure_next_generator
    measure_type_clause measure_expr_list measure_flat measure_next_expr measure_operand measure_run

-- what an item of a block with its `;` measures
unfoldable pub measured_block_item : BlockItem → Measured
measured_block_item =
    fold-BlockItem Measured Measured Measured Measured Joined Measured Measured Measured Measured
    Measured Measured Measured Measured Listed Measured Measured Measured Measured Measured Measured
    Listed Measured Measured Measured Measured measure_delimited measure_item measure_atom
    measure_expr measure_flat_part measure_generator measure_head measure_postfix measure_run_part
    measure_variable measure_also measure_block_item measure_case_clause measure_catch measure_elif
    measure_else_block measure_else_clause measure_finally measure_next_generator
    measure_type_clause measure_expr_list measure_flat measure_next_expr measure_operand measure_run

-- what a clause of a `case` measures
unfoldable pub measured_case_clause : CaseClause → Measured
measured_case_clause =
    fold-CaseClause Measured Measured Measured Measured Joined Measured Measured Measured Measured
    Measured Measured Measured Measured Listed Measured Measured Measured Measured Measured Measured
    Listed Measured Measured Measured Measured measure_delimited measure_item measure_atom
    measure_expr measure_flat_part measure_generator measure_head measure_postfix measure_run_part
    measure_variable measure_also measure_block_item measure_case_clause measure_catch measure_elif
    measure_else_block measure_else_clause measure_finally measure_next_generator
    measure_type_clause measure_expr_list measure_flat measure_next_expr measure_operand measure_run

-- what a `catch` measures
unfoldable pub measured_catch : Catch → Listed
measured_catch =
    fold-Catch Measured Measured Measured Measured Joined Measured Measured Measured Measured
    Measured Measured Measured Measured Listed Measured Measured Measured Measured Measured Measured
    Listed Measured Measured Measured Measured measure_delimited measure_item measure_atom
    measure_expr measure_flat_part measure_generator measure_head measure_postfix measure_run_part
    measure_variable measure_also measure_block_item measure_case_clause measure_catch measure_elif
    measure_else_block measure_else_clause measure_finally measure_next_generator
    measure_type_clause measure_expr_list measure_flat measure_next_expr measure_operand measure_run

-- what an `elif` measures
unfoldable pub measured_elif : Elif → Measured
measured_elif =
    fold-Elif Measured Measured Measured Measured Joined Measured Measured Measured Measured
    Measured Measured Measured Measured Listed Measured Measured Measured Measured Measured Measured
    Listed Measured Measured Measured Measured measure_delimited measure_item measure_atom
    measure_expr measure_flat_part measure_generator measure_head measure_postfix measure_run_part
    measure_variable measure_also measure_block_item measure_case_clause measure_catch measure_elif
    measure_else_block measure_else_clause measure_finally measure_next_generator
    measure_type_clause measure_expr_list measure_flat measure_next_expr measure_operand measure_run

-- what the `else` of an `if` measures
unfoldable pub measured_else_block : ElseBlock → Measured
measured_else_block =
    fold-ElseBlock Measured Measured Measured Measured Joined Measured Measured Measured Measured
    Measured Measured Measured Measured Listed Measured Measured Measured Measured Measured Measured
    Listed Measured Measured Measured Measured measure_delimited measure_item measure_atom
    measure_expr measure_flat_part measure_generator measure_head measure_postfix measure_run_part
    measure_variable measure_also measure_block_item measure_case_clause measure_catch measure_elif
    measure_else_block measure_else_clause measure_finally measure_next_generator
    measure_type_clause measure_expr_list measure_flat measure_next_expr measure_operand measure_run

-- what the `else` of a `case` or `typecase` measures
unfoldable pub measured_else_clause : ElseClause → Measured
measured_else_clause =
    fold-ElseClause Measured Measured Measured Measured Joined Measured Measured Measured Measured
    Measured Measured Measured Measured Listed Measured Measured Measured Measured Measured Measured
    Listed Measured Measured Measured Measured measure_delimited measure_item measure_atom
    measure_expr measure_flat_part measure_generator measure_head measure_postfix measure_run_part
    measure_variable measure_also measure_block_item measure_case_clause measure_catch measure_elif
    measure_else_block measure_else_clause measure_finally measure_next_generator
    measure_type_clause measure_expr_list measure_flat measure_next_expr measure_operand measure_run

-- what a `finally` measures
unfoldable pub measured_finally : Finally → Measured
measured_finally =
    fold-Finally Measured Measured Measured Measured Joined Measured Measured Measured Measured
    Measured Measured Measured Measured Listed Measured Measured Measured Measured Measured Measured
    Listed Measured Measured Measured Measured measure_delimited measure_item measure_atom
    measure_expr measure_flat_part measure_generator measure_head measure_postfix measure_run_part
    measure_variable measure_also measure_block_item measure_case_clause measure_catch measure_elif
    measure_else_block measure_else_clause measure_finally measure_next_generator
    measure_type_clause measure_expr_list measure_flat measure_next_expr measure_operand measure_run

-- what a further generator of a `for` measures
unfoldable pub measured_next_generator : NextGenerator → Measured
measured_next_generator =
    fold-NextGenerator Measured Measured Measured Measured Joined Measured Measured Measured
    Measured Measured Measured Measured Measured Listed Measured Measured Measured Measured Measured
    Measured Listed Measured Measured Measured Measured measure_delimited measure_item measure_atom
    measure_expr measure_flat_part measure_generator measure_head measure_postfix measure_run_part
    measure_variable measure_also measure_block_item measure_case_clause measure_catch measure_elif
    measure_else_block measure_else_clause measure_finally measure_next_generator
    measure_type_clause measure_expr_list measure_flat measure_next_expr measure_operand measure_run

-- what a clause of a `typecase` or `catch` measures
unfoldable pub measured_type_clause : TypeClause → Measured
measured_type_clause =
    fold-TypeClause Measured Measured Measured Measured Joined Measured Measured Measured Measured
    Measured Measured Measured Measured Listed Measured Measured Measured Measured Measured Measured
    Listed Measured Measured Measured Measured measure_delimited measure_item measure_atom
    measure_expr measure_flat_part measure_generator measure_head measure_postfix measure_run_part
    measure_variable measure_also measure_block_item measure_case_clause measure_catch measure_elif
    measure_else_block measure_else_clause measure_finally measure_next_generator
    measure_type_clause measure_expr_list measure_flat measure_next_expr measure_operand measure_run

-- what a list of expressions measures
unfoldable pub measured_expr_list : ExprList → Listed
measured_expr_list =
    fold-ExprList Measured Measured Measured Measured Joined Measured Measured Measured Measured
    Measured Measured Measured Measured Listed Measured Measured Measured Measured Measured Measured
    Listed Measured Measured Measured Measured measure_delimited measure_item measure_atom
    measure_expr measure_flat_part measure_generator measure_head measure_postfix measure_run_part
    measure_variable measure_also measure_block_item measure_case_clause measure_catch measure_elif
    measure_else_block measure_else_clause measure_finally measure_next_generator
    measure_type_clause measure_expr_list measure_flat measure_next_expr measure_operand measure_run

-- what a flat expression measures
unfoldable pub measured_flat : Flat → Measured
measured_flat =
    fold-Flat Measured Measured Measured Measured Joined Measured Measured Measured Measured
    Measured Measured Measured Measured Listed Measured Measured Measured Measured Measured Measured
    Listed Measured Measured Measured Measured measure_delimited measure_item measure_atom
    measure_expr measure_flat_part measure_generator measure_head measure_postfix measure_run_part
    measure_variable measure_also measure_block_item measure_case_clause measure_catch measure_elif
    measure_else_block measure_else_clause measure_finally measure_next_generator
    measure_type_clause measure_expr_list measure_flat measure_next_expr measure_operand measure_run

-- what a further expression of a list measures
unfoldable pub measured_next_expr : NextExpr → Measured
measured_next_expr =
    fold-NextExpr Measured Measured Measured Measured Joined Measured Measured Measured Measured
    Measured Measured Measured Measured Listed Measured Measured Measured Measured Measured Measured
    Listed Measured Measured Measured Measured measure_delimited measure_item measure_atom
    measure_expr measure_flat_part measure_generator measure_head measure_postfix measure_run_part
    measure_variable measure_also measure_block_item measure_case_clause measure_catch measure_elif
    measure_else_block measure_else_clause measure_finally measure_next_generator
    measure_type_clause measure_expr_list measure_flat measure_next_expr measure_operand measure_run

-- what a unit measures
unfoldable pub measured_operand : Operand → Measured
measured_operand =
    fold-Operand Measured Measured Measured Measured Joined Measured Measured Measured Measured
    Measured Measured Measured Measured Listed Measured Measured Measured Measured Measured Measured
    Listed Measured Measured Measured Measured measure_delimited measure_item measure_atom
    measure_expr measure_flat_part measure_generator measure_head measure_postfix measure_run_part
    measure_variable measure_also measure_block_item measure_case_clause measure_catch measure_elif
    measure_else_block measure_else_clause measure_finally measure_next_generator
    measure_type_clause measure_expr_list measure_flat measure_next_expr measure_operand measure_run

-- what a run measures
unfoldable pub measured_run : Run → Measured
measured_run =
    fold-Run Measured Measured Measured Measured Joined Measured Measured Measured Measured Measured
    Measured Measured Measured Listed Measured Measured Measured Measured Measured Measured Listed
    Measured Measured Measured Measured measure_delimited measure_item measure_atom measure_expr
    measure_flat_part measure_generator measure_head measure_postfix measure_run_part
    measure_variable measure_also measure_block_item measure_case_clause measure_catch measure_elif
    measure_else_block measure_else_clause measure_finally measure_next_generator
    measure_type_clause measure_expr_list measure_flat measure_next_expr measure_operand measure_run

-- what the grouping of a flat expression depends on
abbrev pub row_of : Flat → Row
row_of flat =
    row (record {
      first = measured_operand (out-Flat flat).first;
      rest = map measured_flat_part (out-Flat flat).rest;
    })
