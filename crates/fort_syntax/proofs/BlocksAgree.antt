-- The productions of blocks and clauses read alike over two such tables.
use Rattle.std.proofs.Common.{ℕ, Bool, true, false, List, [], ◌∷◌, Option, Some, None}
use Rattle.fort_lex_token.specs.declared.marks.Mark.TheVariants as mark
use Rattle.fort_lex_token.specs.declared.reserved.Reserved.TheVariants as reserved
use Rattle.fort_tree.specs.declared.spot.Spot.{Spot}
use Rattle.fort_tree.specs.declared.spot.Name.{Name}
use Rattle.fort_tree.specs.declared.types.TypeTree.{TypeTree}
use Rattle.fort_tree.specs.declared.delimited.Also.{Also}
use Rattle.fort_tree.specs.declared.delimited.BlockItem.{BlockItem, out-BlockItem}
use Rattle.fort_tree.specs.declared.delimited.CaseClause.{CaseClause, out-CaseClause}
use Rattle.fort_tree.specs.declared.delimited.Elif.{Elif}
use Rattle.fort_tree.specs.declared.delimited.NextGenerator.{NextGenerator}
use Rattle.fort_tree.specs.declared.delimited.TypeClause.{TypeClause, out-TypeClause}
use Rattle.fort_tree.specs.declared.expr.Operand.{Operand}
use Rattle.fort_tree.specs.declared.expr.Run.{Run}
use Rattle.fort_tree.specs.Tokens.{Spellings}
use Rattle.fort_parse_reading.specs.Parser.{Eater}
use Rattle.fort_parse_reading.specs.Words.{is_mark, is_word, sees}
use Rattle.fort_parse_first.specs.declared.plain.PlainNames.{PlainNames}
use Rattle.fort_parse_first.specs.Beginnings.{begins_case_clause, begins_item, begins_type_clause}
use Rattle.fort_parse_first.specs.Endings.{semicolon}
use Rattle.fort_parse_first.specs.Plain.{plain_name, plain_names}
use Rattle.fort_parse_reading.specs.Parser.{Row}
use Rattle.fort_parse.specs.Blocks.{is_ended, some_of, initialised, variable_from, var_item, names_from, flat_item, by_names, by_name, declared, item_from, head_item, item, block_item, block, case_clause, case_list, case_clauses, type_clause, type_clause_list, type_clauses, else_from, second_else, else_clause, also_block, also_blocks, elif, elifs, else_block, catch_from, catch, no_finally, finally, next_generator, next_generators}
use Rattle.fort_syntax.proofs.Agreeing.{GoesOn, AllIn, Agrees, Alike, agrees_read, agrees_failed, agrees_accept, agrees_then, agrees_if, agrees_many, agrees_itself}
use Rattle.fort_syntax.proofs.TypesAgree.{same_type_tree}
use Rattle.fort_syntax.proofs.FlatsAgree.{same_operand, same_flat, same_generator, same_head, same_opened, same_expr_from, same_expr}

same_some_of : {A : Type 0} {m : ℕ} (n : ℕ) (xs : List A) (ts : Row) → AllIn m ts
    → Agrees m ((some_of {A = A} {n = n} xs).run ts) ((some_of {A = A} {n = n} xs).run ts)
same_some_of n [] ts h = agrees_failed
same_some_of n (x ∷ xs) ts h = agrees_read h

module _ (names wide : Spellings) (on : GoesOn names wide) {n : ℕ} (run sun : Bool → Eater Run n)
    (same_run : (blocks : Bool) (ts : Row)
    → Alike names ts ((run blocks).parser.run ts) ((sun blocks).parser.run ts)) where
  pub same_initialised : (var : Option Spot) (name : Name) (colon : Spot) (ty : TypeTree) (ts : Row)
      → Alike names ts ((initialised names run var name colon ty).run ts)
      ((initialised wide sun var name colon ty).run ts)
  unfolding initialised
  same_initialised var name colon ty ts all =
      agrees_then _ _ _ _ (agrees_accept _ ts all)
      (λ sign m1 h1. agrees_then _ _ _ _ (same_expr names wide on run sun same_run false m1 h1)
      (λ value m2 h2. agrees_read h2))

  pub same_variable_from : (var : Option Spot) (name : Name) (ts : Row)
      → Alike names ts ((variable_from names run var name).run ts)
      ((variable_from wide sun var name).run ts)
  unfolding variable_from
  same_variable_from var name ts all =
      agrees_then _ _ _ _ (agrees_accept _ ts all)
      (λ colon m1 h1. agrees_then _ _ _ _ (same_type_tree names wide on n m1 h1)
      (λ ty m2 h2. same_initialised var name colon ty m2 h2))

  pub same_var_item : (ts : Row)
      → Alike names ts ((var_item names run).parser.run ts) ((var_item wide sun).parser.run ts)
  unfolding var_item
  same_var_item ts all =
      agrees_then _ _ _ _ (agrees_accept _ ts all)
      (λ var m1 h1. agrees_then _ _ _ _ (agrees_accept _ m1 h1)
      (λ name m2 h2. agrees_then _ _ _ _ (same_variable_from (Some var) name m2 h2)
      (λ v m3 h3. agrees_read h3)))

  pub same_names_from : (p : PlainNames) (ts : Row)
      → Alike names ts ((names_from names run p).run ts) ((names_from wide sun p).run ts)
  unfolding names_from
  same_names_from p ts all =
      agrees_then _ _ _ _ (agrees_accept _ ts all)
      (λ colon m1 h1. agrees_then _ _ _ _ (same_type_tree names wide on n m1 h1)
      (λ ty m2 h2. agrees_then _ _ _ _ (agrees_accept _ m2 h2)
      (λ equals m3 h3. agrees_then _ _ _ _
      (same_expr names wide on run sun same_run false m3 h3) (λ value m4 h4. agrees_read h4))))

  pub same_flat_item : (first : Operand) (ts : Row)
      → Alike names ts ((flat_item names run first).run ts) ((flat_item wide sun first).run ts)
  unfolding flat_item
  same_flat_item first ts all =
      agrees_then _ _ _ _ (same_expr_from names wide on run sun same_run false first ts all)
      (λ e m1 h1. agrees_read h1)

  pub same_by_names : (first : Operand) (a1 : Option PlainNames) (ts : Row)
      → Alike names ts ((by_names names run first a1).run ts) ((by_names wide sun first a1).run ts)
  same_by_names first (Some p) ts all = same_names_from p ts all
  same_by_names first None ts all = same_flat_item first ts all

  pub same_by_name : (first : Operand) (a1 : Option Name) (ts : Row)
      → Alike names ts ((by_name names run first a1).run ts) ((by_name wide sun first a1).run ts)
  same_by_name first (Some name) ts all =
      agrees_then _ _ _ _ (same_variable_from None name ts all) (λ v m1 h1. agrees_read h1)
  same_by_name first None ts all = same_by_names first (plain_names first) ts all

  pub same_declared : (first : Operand) (ts : Row)
      → Alike names ts ((declared names run first).run ts) ((declared wide sun first).run ts)
  unfolding declared
  same_declared first ts all = same_by_name first (plain_name first) ts all

  pub same_item_from : (first : Operand) (ts : Row)
      → Alike names ts ((item_from names run first).run ts) ((item_from wide sun first).run ts)
  unfolding item_from
  same_item_from first ts all =
      agrees_if _ _ _ _ _ (same_declared first ts all) (same_flat_item first ts all)

  pub same_head_item : (ts : Row)
      → Alike names ts ((head_item names run).parser.run ts) ((head_item wide sun).parser.run ts)
  unfolding head_item
  same_head_item ts all =
      agrees_then _ _ _ _ (same_head names wide on run sun same_run ts all)
      (λ h m1 h1. agrees_then _ _ _ _ (same_opened names wide on run sun same_run h m1 h1)
      (λ e m2 h2. agrees_read h2))

  pub same_item : (ts : Row)
      → Alike names ts ((item names run).parser.run ts) ((item wide sun).parser.run ts)
  unfolding item
  same_item ts all =
      agrees_if _ _ _ _ _ (same_var_item ts all)
      (agrees_if _ _ _ _ _ (same_head_item ts all)
      (agrees_then _ _ _ _ (same_operand names wide on run sun same_run true ts all)
      (λ x1 m1 h1. same_item_from x1 m1 h1)))

  pub same_block_item : (ts : Row)
      → Alike names ts ((block_item names run).parser.run ts) ((block_item wide sun).parser.run ts)
  unfolding block_item
  same_block_item ts all =
      agrees_then _ _ _ _ (same_item ts all)
      (λ i m1 h1. agrees_then _ _ _ _ (agrees_itself {m = n} semicolon m1 h1)
      (λ s m2 h2. agrees_read h2))

  pub same_block : (ts : Row) → Alike names ts ((block names run).run ts) ((block wide sun).run ts)
  unfolding block
  same_block ts all =
      agrees_many {A = BlockItem} {S =
      Bool} begins_item (λ ready e. is_ended (out-BlockItem e).semicolon)
      (λ ready. block_item names run) (λ ready. block_item wide sun)
      (λ ready m1 h1. same_block_item m1 h1) n true ts all

  pub same_case_clause : (ts : Row)
      → Alike names ts ((case_clause names run).parser.run ts)
      ((case_clause wide sun).parser.run ts)
  unfolding case_clause
  same_case_clause ts all =
      agrees_then _ _ _ _ (same_flat names wide on run sun same_run true ts all)
      (λ subject m1 h1. agrees_then _ _ _ _ (agrees_accept _ m1 h1)
      (λ arrow m2 h2. agrees_then _ _ _ _ (same_expr names wide on run sun same_run false m2 h2)
      (λ value m3 h3. agrees_then _ _ _ _ (agrees_itself {m = n} semicolon m3 h3)
      (λ s m4 h4. agrees_read h4))))

  pub same_case_list : (ts : Row)
      → Alike names ts ((case_list names run).run ts) ((case_list wide sun).run ts)
  unfolding case_list
  same_case_list ts all =
      agrees_many {A = CaseClause} {S =
      Bool} begins_case_clause (λ ready c. is_ended (out-CaseClause c).semicolon)
      (λ ready. case_clause names run) (λ ready. case_clause wide sun)
      (λ ready m1 h1. same_case_clause m1 h1) n true ts all

  pub same_case_clauses : (ts : Row)
      → Alike names ts ((case_clauses names run).run ts) ((case_clauses wide sun).run ts)
  unfolding case_clauses
  same_case_clauses ts all =
      agrees_then _ _ _ _ (same_case_list ts all) (λ x1 m1 h1. same_some_of n x1 m1 h1)

  pub same_type_clause : (ts : Row)
      → Alike names ts ((type_clause names run).parser.run ts)
      ((type_clause wide sun).parser.run ts)
  unfolding type_clause
  same_type_clause ts all =
      agrees_then _ _ _ _ (same_type_tree names wide on n ts all)
      (λ ty m1 h1. agrees_then _ _ _ _ (agrees_accept _ m1 h1)
      (λ arrow m2 h2. agrees_then _ _ _ _ (same_expr names wide on run sun same_run false m2 h2)
      (λ value m3 h3. agrees_then _ _ _ _ (agrees_itself {m = n} semicolon m3 h3)
      (λ s m4 h4. agrees_read h4))))

  pub same_type_clause_list : (ts : Row)
      → Alike names ts ((type_clause_list names run).run ts) ((type_clause_list wide sun).run ts)
  unfolding type_clause_list
  same_type_clause_list ts all =
      agrees_many {A = TypeClause} {S =
      Bool} begins_type_clause (λ ready c. is_ended (out-TypeClause c).semicolon)
      (λ ready. type_clause names run) (λ ready. type_clause wide sun)
      (λ ready m1 h1. same_type_clause m1 h1) n true ts all

  pub same_type_clauses : (ts : Row)
      → Alike names ts ((type_clauses names run).run ts) ((type_clauses wide sun).run ts)
  unfolding type_clauses
  same_type_clauses ts all =
      agrees_then _ _ _ _ (same_type_clause_list ts all) (λ x1 m1 h1. same_some_of n x1 m1 h1)

  pub same_else_from : (second : Option Spot) (ts : Row)
      → Alike names ts ((else_from names run second).run ts) ((else_from wide sun second).run ts)
  unfolding else_from
  same_else_from second ts all =
      agrees_then _ _ _ _ (agrees_accept _ ts all)
      (λ at_else m1 h1. agrees_then _ _ _ _ (agrees_accept _ m1 h1)
      (λ arrow m2 h2. agrees_then _ _ _ _ (same_expr names wide on run sun same_run false m2 h2)
      (λ value m3 h3. agrees_read h3)))

  pub same_second_else : (ts : Row)
      → Alike names ts ((second_else names run).run ts) ((second_else wide sun).run ts)
  unfolding second_else
  same_second_else ts all =
      agrees_then _ _ _ _ (agrees_accept _ ts all)
      (λ second m1 h1. same_else_from (Some second) m1 h1)

  pub same_else_clause : (ended : Bool) (ts : Row)
      → Alike names ts ((else_clause names run ended).run ts) ((else_clause wide sun ended).run ts)
  unfolding else_clause
  same_else_clause ended ts all =
      agrees_if _ _ _ _ _ (same_second_else ts all)
      (agrees_if _ _ _ _ _ (same_else_from None ts all) (agrees_read all))

  pub same_also_block : (ts : Row)
      → Alike names ts ((also_block names run).parser.run ts) ((also_block wide sun).parser.run ts)
  unfolding also_block
  same_also_block ts all =
      agrees_then _ _ _ _ (agrees_accept _ ts all)
      (λ also m1 h1. agrees_then _ _ _ _ (agrees_accept _ m1 h1)
      (λ at_do m2 h2. agrees_then _ _ _ _ (same_block m2 h2) (λ b m3 h3. agrees_read h3)))

  pub same_also_blocks : (ts : Row)
      → Alike names ts ((also_blocks names run).run ts) ((also_blocks wide sun).run ts)
  unfolding also_blocks
  same_also_blocks ts all =
      agrees_many {A = Also} {S =
      Bool} (λ state. (sees (is_word reserved.Also))) (λ state x. state)
      (λ state. also_block names run) (λ state. also_block wide sun)
      (λ state m1 h1. same_also_block m1 h1) n true ts all

  pub same_elif : (ts : Row)
      → Alike names ts ((elif names run).parser.run ts) ((elif wide sun).parser.run ts)
  unfolding elif
  same_elif ts all =
      agrees_then _ _ _ _ (agrees_accept _ ts all)
      (λ at_elif m1 h1. agrees_then _ _ _ _ (same_flat names wide on run sun same_run true m1 h1)
      (λ condition m2 h2. agrees_then _ _ _ _ (agrees_accept _ m2 h2) (λ
      then m3 h3. agrees_then _ _ _ _ (same_block m3 h3) (λ b m4 h4. agrees_read h4))))

  pub same_elifs : (ts : Row) → Alike names ts ((elifs names run).run ts) ((elifs wide sun).run ts)
  unfolding elifs
  same_elifs ts all =
      agrees_many {A = Elif} {S =
      Bool} (λ state. (sees (is_word reserved.Elif))) (λ state x. state)
      (λ state. elif names run) (λ state. elif wide sun) (λ state m1 h1. same_elif m1 h1) n true ts
      all

  pub same_else_block : (ts : Row)
      → Alike names ts ((else_block names run).run ts) ((else_block wide sun).run ts)
  unfolding else_block
  same_else_block ts all =
      agrees_if _ _ _ _ _
      (agrees_then _ _ _ _ (agrees_accept _ ts all)
      (λ at_else m1 h1. agrees_then _ _ _ _ (same_block m1 h1) (λ b m2 h2. agrees_read h2)))
      (agrees_read all)

  pub same_catch_from : (ts : Row)
      → Alike names ts ((catch_from names run).run ts) ((catch_from wide sun).run ts)
  unfolding catch_from
  same_catch_from ts all =
      agrees_then _ _ _ _ (agrees_accept _ ts all)
      (λ at_catch m1 h1. agrees_then _ _ _ _ (agrees_accept _ m1 h1)
      (λ name m2 h2. agrees_then _ _ _ _ (same_type_clauses m2 h2)
      (λ clauses m3 h3. agrees_read h3)))

  pub same_catch : (ts : Row) → Alike names ts ((catch names run).run ts) ((catch wide sun).run ts)
  unfolding catch
  same_catch ts all = agrees_if _ _ _ _ _ (same_catch_from ts all) (agrees_read all)

  pub same_no_finally : (a0 : Bool) (ts : Row)
      → Alike names ts ((no_finally names run a0).run ts) ((no_finally wide sun a0).run ts)
  same_no_finally true ts all = agrees_read all
  same_no_finally false ts all = agrees_failed

  pub same_finally : (optional : Bool) (ts : Row)
      → Alike names ts ((finally names run optional).run ts) ((finally wide sun optional).run ts)
  unfolding finally
  same_finally optional ts all =
      agrees_if _ _ _ _ _
      (agrees_then _ _ _ _ (agrees_accept _ ts all)
      (λ at_finally m1 h1. agrees_then _ _ _ _ (same_block m1 h1) (λ b m2 h2. agrees_read h2)))
      (same_no_finally optional ts all)

  pub same_next_generator : (ts : Row)
      → Alike names ts ((next_generator names run).parser.run ts)
      ((next_generator wide sun).parser.run ts)
  unfolding next_generator
  same_next_generator ts all =
      agrees_then _ _ _ _ (agrees_accept _ ts all)
      (λ comma m1 h1. agrees_then _ _ _ _
      (same_generator names wide on run sun same_run false m1 h1) (λ g m2 h2. agrees_read h2))

  pub same_next_generators : (ts : Row)
      → Alike names ts ((next_generators names run).run ts) ((next_generators wide sun).run ts)
  unfolding next_generators
  same_next_generators ts all =
      agrees_many {A = NextGenerator} {S =
      Bool} (λ state. (sees (is_mark mark.Comma))) (λ state x. state)
      (λ state. next_generator names run) (λ state. next_generator wide sun)
      (λ state m1 h1. same_next_generator m1 h1) n true ts all
