-- The productions of atoms and runs, and those that stand on them, read alike over two such tables.
use Rattle.std.proofs.Common.{ℕ, zero, suc, Bool, true, false, List, Option, Some, None}
use Rattle.std.specs.Prelude.{codes}
use Rattle.fort_lex_token.specs.declared.token.Kind.{Kind}
use Rattle.fort_lex_token.specs.declared.token.Kind.TheVariants as kind
use Rattle.fort_lex_token.specs.declared.token.Token.{Token}
use Rattle.fort_lex_token.specs.declared.marks.Mark.{Mark}
use Rattle.fort_lex_token.specs.declared.marks.Mark.TheVariants as mark
use Rattle.fort_lex_token.specs.declared.reserved.Reserved.{Reserved}
use Rattle.fort_lex_token.specs.declared.reserved.Reserved.TheVariants as reserved
use Rattle.fort_tree.specs.declared.spot.Spot.{Spot}
use Rattle.fort_tree.specs.declared.spot.Name.{Name}
use Rattle.fort_tree.specs.declared.types.TypeTree.{TypeTree}
use Rattle.fort_tree.specs.declared.expr.Expr.{Expr}
use Rattle.fort_tree.specs.declared.expr.Generator.{Generator}
use Rattle.fort_tree.specs.declared.expr.RunPart.{RunPart}
use Rattle.fort_tree.specs.declared.delimited.BlockItem.{BlockItem}
use Rattle.fort_tree.specs.declared.delimited.CaseClause.{out-CaseClause}
use Rattle.fort_tree.specs.declared.delimited.NextGenerator.{NextGenerator}
use Rattle.fort_tree.specs.declared.delimited.TypeClause.{out-TypeClause}
use Rattle.fort_tree.specs.declared.expr.Flat.{Flat}
use Rattle.fort_tree.specs.declared.expr.Run.{Run}
use Rattle.fort_tree.specs.Tokens.{Spellings}
use Rattle.fort_parse_reading.specs.Parser.{Eater}
use Rattle.fort_tree.specs.Said.{is_there}
use Rattle.fort_parse_first.specs.Beginnings.{begins_run_part}
use Rattle.fort_parse.specs.Blocks.{last_ended}
use Rattle.fort_parse_reading.specs.Parser.{Row, next_of}
use Rattle.fort_parse.specs.Runs.{do_form, if_rest, if_form, while_form, for_rest, for_form, case_rest, case_form, typecase_rest, typecase_form, try_form, word_form, form_for, form_by, delimited, parens, fill_value, fill_size, array_fill, form_atom, do_atom, word_atom, mark_atom, atom_for, atom_by, atom, subscript, tight_atom, method_call, dotted, mark_postfix, postfix_for, postfix_by, postfix, run_part, run_parts, run_level, run_at, expr_at, variable_at}
use Rattle.fort_syntax.proofs.Agreeing.{GoesOn, Alike, agrees_read, agrees_failed, agrees_accept, agrees_called, agrees_then, agrees_if, agrees_many, tight_called}
use Rattle.fort_syntax.proofs.TypesAgree.{same_type_tree}
use Rattle.fort_syntax.proofs.FlatsAgree.{same_flat, same_generator, same_expr, same_maybe_list}
use Rattle.fort_syntax.proofs.BlocksAgree.{same_variable_from, same_block, same_case_clauses, same_type_clauses, same_else_clause, same_also_blocks, same_elifs, same_else_block, same_catch, same_finally, same_next_generators}

module _ (names wide : Spellings) (on : GoesOn names wide) {n : ℕ} (run sun : Bool → Eater Run n)
    (same_run : (blocks : Bool) (ts : Row)
    → Alike names ts ((run blocks).parser.run ts) ((sun blocks).parser.run ts)) where
  pub same_do_form : (at_do : Spot) (ts : Row)
      → Alike names ts ((do_form names run at_do).run ts) ((do_form wide sun at_do).run ts)
  unfolding do_form
  same_do_form at_do ts all =
      agrees_then _ _ _ _ (same_block names wide on run sun same_run ts all)
      (λ b m1 h1. agrees_then _ _ _ _ (same_also_blocks names wide on run sun same_run m1 h1)
      (λ others m2 h2. agrees_then _ _ _ _ (agrees_accept _ m2 h2)
      (λ end m3 h3. agrees_read h3)))

  pub same_if_rest : (at_if : Spot) (condition : Flat) (then : Spot) (b : List BlockItem) (ts : Row)
      → Alike names ts ((if_rest names run at_if condition then b).run ts)
      ((if_rest wide sun at_if condition then b).run ts)
  unfolding if_rest
  same_if_rest at_if condition
      then b ts all =
      agrees_then _ _ _ _ (same_elifs names wide on run sun same_run ts all)
      (λ others m1 h1. agrees_then _ _ _ _ (same_else_block names wide on run sun same_run m1 h1)
      (λ otherwise m2 h2. agrees_then _ _ _ _ (agrees_accept _ m2 h2)
      (λ end m3 h3. agrees_read h3)))

  pub same_if_form : (at_if : Spot) (ts : Row)
      → Alike names ts ((if_form names run at_if).run ts) ((if_form wide sun at_if).run ts)
  unfolding if_form
  same_if_form at_if ts all =
      agrees_then _ _ _ _ (same_flat names wide on run sun same_run true ts all)
      (λ condition m1 h1. agrees_then _ _ _ _ (agrees_accept _ m1 h1) (λ
      then m2 h2. agrees_then _ _ _ _ (same_block names wide on run sun same_run m2 h2)
      (λ b m3 h3. same_if_rest at_if condition then b m3 h3)))

  pub same_while_form : (at_while : Spot) (ts : Row)
      → Alike names ts ((while_form names run at_while).run ts)
      ((while_form wide sun at_while).run ts)
  unfolding while_form
  same_while_form at_while ts all =
      agrees_then _ _ _ _ (same_flat names wide on run sun same_run false ts all)
      (λ condition m1 h1. agrees_then _ _ _ _ (agrees_accept _ m1 h1)
      (λ at_do m2 h2. agrees_then _ _ _ _ (same_block names wide on run sun same_run m2 h2)
      (λ b m3 h3. agrees_then _ _ _ _ (agrees_accept _ m3 h3) (λ end m4 h4. agrees_read h4))))

  pub same_for_rest : (at_for : Spot) (g : Generator) (others : List NextGenerator) (ts : Row)
      → Alike names ts ((for_rest names run at_for g others).run ts)
      ((for_rest wide sun at_for g others).run ts)
  unfolding for_rest
  same_for_rest at_for g others ts all =
      agrees_then _ _ _ _ (agrees_accept _ ts all)
      (λ at_do m1 h1. agrees_then _ _ _ _ (same_block names wide on run sun same_run m1 h1)
      (λ b m2 h2. agrees_then _ _ _ _ (agrees_accept _ m2 h2) (λ end m3 h3. agrees_read h3)))

  pub same_for_form : (at_for : Spot) (ts : Row)
      → Alike names ts ((for_form names run at_for).run ts) ((for_form wide sun at_for).run ts)
  unfolding for_form
  same_for_form at_for ts all =
      agrees_then _ _ _ _ (same_generator names wide on run sun same_run false ts all)
      (λ g m1 h1. agrees_then _ _ _ _ (same_next_generators names wide on run sun same_run m1 h1)
      (λ others m2 h2. same_for_rest at_for g others m2 h2))

  pub same_case_rest : (at_case : Spot) (subject : Flat) (of : Spot) (ts : Row)
      → Alike names ts ((case_rest names run at_case subject of).run ts)
      ((case_rest wide sun at_case subject of).run ts)
  unfolding case_rest
  same_case_rest at_case subject of ts all =
      agrees_then _ _ _ _ (same_case_clauses names wide on run sun same_run ts all)
      (λ clauses m1 h1. agrees_then _ _ _ _
      (same_else_clause names wide on run sun same_run
      (last_ended (λ c. (out-CaseClause c).semicolon) clauses) m1 h1)
      (λ otherwise m2 h2. agrees_then _ _ _ _ (agrees_accept _ m2 h2)
      (λ end m3 h3. agrees_read h3)))

  pub same_case_form : (at_case : Spot) (ts : Row)
      → Alike names ts ((case_form names run at_case).run ts) ((case_form wide sun at_case).run ts)
  unfolding case_form
  same_case_form at_case ts all =
      agrees_then _ _ _ _ (same_flat names wide on run sun same_run true ts all)
      (λ subject m1 h1. agrees_then _ _ _ _ (agrees_accept _ m1 h1)
      (λ of m2 h2. same_case_rest at_case subject of m2 h2))

  pub same_typecase_rest : (at_typecase : Spot) (name : Name) (equals : Spot) (subject : Flat)
      (of : Spot) (ts : Row)
      → Alike names ts ((typecase_rest names run at_typecase name equals subject of).run ts)
      ((typecase_rest wide sun at_typecase name equals subject of).run ts)
  unfolding typecase_rest
  same_typecase_rest at_typecase name equals subject of ts all =
      agrees_then _ _ _ _ (same_type_clauses names wide on run sun same_run ts all)
      (λ clauses m1 h1. agrees_then _ _ _ _
      (same_else_clause names wide on run sun same_run
      (last_ended (λ c. (out-TypeClause c).semicolon) clauses) m1 h1)
      (λ otherwise m2 h2. agrees_then _ _ _ _ (agrees_accept _ m2 h2)
      (λ end m3 h3. agrees_read h3)))

  pub same_typecase_form : (at_typecase : Spot) (ts : Row)
      → Alike names ts ((typecase_form names run at_typecase).run ts)
      ((typecase_form wide sun at_typecase).run ts)
  unfolding typecase_form
  same_typecase_form at_typecase ts all =
      agrees_then _ _ _ _ (agrees_accept _ ts all)
      (λ name m1 h1. agrees_then _ _ _ _ (agrees_accept _ m1 h1)
      (λ equals m2 h2. agrees_then _ _ _ _ (same_flat names wide on run sun same_run true m2 h2)
      (λ subject m3 h3. agrees_then _ _ _ _ (agrees_accept _ m3 h3)
      (λ of m4 h4. same_typecase_rest at_typecase name equals subject of m4 h4))))

  pub same_try_form : (at_try : Spot) (ts : Row)
      → Alike names ts ((try_form names run at_try).run ts) ((try_form wide sun at_try).run ts)
  unfolding try_form
  same_try_form at_try ts all =
      agrees_then _ _ _ _ (same_block names wide on run sun same_run ts all)
      (λ b m1 h1. agrees_then _ _ _ _ (same_catch names wide on run sun same_run m1 h1)
      (λ c m2 h2. agrees_then _ _ _ _
      (same_finally names wide on run sun same_run (is_there c) m2 h2)
      (λ f m3 h3. agrees_then _ _ _ _ (agrees_accept _ m3 h3) (λ end m4 h4. agrees_read h4))))

  pub same_word_form : (a0 : Reserved) (ts : Row)
      → Alike names ts ((word_form names run a0).parser.run ts)
      ((word_form wide sun a0).parser.run ts)
  same_word_form reserved.Do ts all =
      agrees_then _ _ _ _ (agrees_accept _ ts all) (λ x1 m1 h1. same_do_form x1 m1 h1)
  same_word_form reserved.If ts all =
      agrees_then _ _ _ _ (agrees_accept _ ts all) (λ x1 m1 h1. same_if_form x1 m1 h1)
  same_word_form reserved.While ts all =
      agrees_then _ _ _ _ (agrees_accept _ ts all) (λ x1 m1 h1. same_while_form x1 m1 h1)
  same_word_form reserved.For ts all =
      agrees_then _ _ _ _ (agrees_accept _ ts all) (λ x1 m1 h1. same_for_form x1 m1 h1)
  same_word_form reserved.Case ts all =
      agrees_then _ _ _ _ (agrees_accept _ ts all) (λ x1 m1 h1. same_case_form x1 m1 h1)
  same_word_form reserved.Typecase ts all =
      agrees_then _ _ _ _ (agrees_accept _ ts all) (λ x1 m1 h1. same_typecase_form x1 m1 h1)
  same_word_form reserved.Try ts all =
      agrees_then _ _ _ _ (agrees_accept _ ts all) (λ x1 m1 h1. same_try_form x1 m1 h1)
  same_word_form _ ts all = agrees_failed

  pub same_form_for : (a0 : Kind) (ts : Row)
      → Alike names ts ((form_for names run a0).parser.run ts)
      ((form_for wide sun a0).parser.run ts)
  same_form_for (kind.Word w) ts all = same_word_form w ts all
  same_form_for _ ts all = agrees_failed

  pub same_form_by : (a0 : Option Token) (ts : Row)
      → Alike names ts ((form_by names run a0).parser.run ts) ((form_by wide sun a0).parser.run ts)
  same_form_by None ts all = agrees_failed
  same_form_by (Some t) ts all = same_form_for t.kind ts all

  pub same_delimited : (ts : Row)
      → Alike names ts ((delimited names run).parser.run ts) ((delimited wide sun).parser.run ts)
  unfolding delimited
  same_delimited ts all = same_form_by (next_of ts) ts all

  pub same_parens : (left : Spot) (ts : Row)
      → Alike names ts ((parens names run left).run ts) ((parens wide sun left).run ts)
  unfolding parens
  same_parens left ts all =
      agrees_then _ _ _ _ (same_maybe_list names wide on run sun same_run ts all)
      (λ contents m1 h1. agrees_then _ _ _ _ (agrees_accept _ m1 h1)
      (λ right m2 h2. agrees_read h2))

  pub same_fill_value : (array : Spot) (left : Spot) (element : TypeTree) (right : Spot)
      (size_left : Spot) (size : Expr) (size_right : Spot) (ts : Row)
      → Alike names ts
      ((fill_value names run array left element right size_left size size_right).run ts)
      ((fill_value wide sun array left element right size_left size size_right).run ts)
  unfolding fill_value
  same_fill_value array left element right size_left size size_right ts all =
      agrees_then _ _ _ _ (agrees_accept _ ts all)
      (λ dot m1 h1. agrees_then _ _ _ _
      (agrees_called _ _ m1 h1 (tight_called names wide on (codes "fill")))
      (λ fill m2 h2. agrees_then _ _ _ _ (agrees_accept _ m2 h2)
      (λ value_left m3 h3. agrees_then _ _ _ _
      (same_expr names wide on run sun same_run true m3 h3)
      (λ value m4 h4. agrees_then _ _ _ _ (agrees_accept _ m4 h4)
      (λ value_right m5 h5. agrees_read h5)))))

  pub same_fill_size : (array : Spot) (left : Spot) (element : TypeTree) (right : Spot) (ts : Row)
      → Alike names ts ((fill_size names run array left element right).run ts)
      ((fill_size wide sun array left element right).run ts)
  unfolding fill_size
  same_fill_size array left element right ts all =
      agrees_then _ _ _ _ (agrees_accept _ ts all)
      (λ size_left m1 h1. agrees_then _ _ _ _ (same_expr names wide on run sun same_run true m1 h1)
      (λ size m2 h2. agrees_then _ _ _ _ (agrees_accept _ m2 h2)
      (λ size_right m3 h3. same_fill_value array left element right size_left size size_right m3
      h3)))

  pub same_array_fill : (array : Spot) (ts : Row)
      → Alike names ts ((array_fill names run array).run ts) ((array_fill wide sun array).run ts)
  unfolding array_fill
  same_array_fill array ts all =
      agrees_then _ _ _ _ (agrees_accept _ ts all)
      (λ left m1 h1. agrees_then _ _ _ _ (same_type_tree names wide on n m1 h1)
      (λ element m2 h2. agrees_then _ _ _ _ (agrees_accept _ m2 h2)
      (λ right m3 h3. same_fill_size array left element right m3 h3)))

  pub same_form_atom : (ts : Row)
      → Alike names ts ((form_atom names run).parser.run ts) ((form_atom wide sun).parser.run ts)
  same_form_atom ts all = agrees_then _ _ _ _ (same_delimited ts all) (λ d m1 h1. agrees_read h1)

  pub same_do_atom : (a0 : Bool) (ts : Row)
      → Alike names ts ((do_atom names run a0).parser.run ts) ((do_atom wide sun a0).parser.run ts)
  same_do_atom true ts all = same_form_atom ts all
  same_do_atom false ts all = agrees_failed

  pub same_word_atom : (blocks : Bool) (a1 : Reserved) (ts : Row)
      → Alike names ts ((word_atom names run blocks a1).parser.run ts)
      ((word_atom wide sun blocks a1).parser.run ts)
  same_word_atom blocks reserved.True ts all = agrees_accept _ ts all
  same_word_atom blocks reserved.False ts all = agrees_accept _ ts all
  same_word_atom blocks reserved.Self_ ts all = agrees_accept _ ts all
  same_word_atom blocks reserved.Array ts all =
      agrees_then _ _ _ _ (agrees_accept _ ts all) (λ x1 m1 h1. same_array_fill x1 m1 h1)
  same_word_atom blocks reserved.Do ts all = same_do_atom blocks ts all
  same_word_atom blocks reserved.If ts all = same_form_atom ts all
  same_word_atom blocks reserved.While ts all = same_form_atom ts all
  same_word_atom blocks reserved.For ts all = same_form_atom ts all
  same_word_atom blocks reserved.Case ts all = same_form_atom ts all
  same_word_atom blocks reserved.Typecase ts all = same_form_atom ts all
  same_word_atom blocks reserved.Try ts all = same_form_atom ts all
  same_word_atom blocks _ ts all = agrees_failed

  pub same_mark_atom : (a0 : Mark) (ts : Row)
      → Alike names ts ((mark_atom names run a0).parser.run ts)
      ((mark_atom wide sun a0).parser.run ts)
  same_mark_atom mark.OpenParen ts all =
      agrees_then _ _ _ _ (agrees_accept _ ts all) (λ x1 m1 h1. same_parens x1 m1 h1)
  same_mark_atom _ ts all = agrees_failed

  pub same_atom_for : (blocks : Bool) (a1 : Kind) (ts : Row)
      → Alike names ts ((atom_for names run blocks a1).parser.run ts)
      ((atom_for wide sun blocks a1).parser.run ts)
  same_atom_for blocks (kind.Word w) ts all = same_word_atom blocks w ts all
  same_atom_for blocks (kind.Name v) ts all = agrees_accept _ ts all
  same_atom_for blocks (kind.Number v) ts all = agrees_accept _ ts all
  same_atom_for blocks (kind.Text v) ts all = agrees_accept _ ts all
  same_atom_for blocks (kind.Op o) ts all = agrees_failed
  same_atom_for blocks (kind.Mark m) ts all = same_mark_atom m ts all

  pub same_atom_by : (blocks : Bool) (a1 : Option Token) (ts : Row)
      → Alike names ts ((atom_by names run blocks a1).parser.run ts)
      ((atom_by wide sun blocks a1).parser.run ts)
  same_atom_by blocks None ts all = agrees_failed
  same_atom_by blocks (Some t) ts all = same_atom_for blocks t.kind ts all

  pub same_atom : (blocks : Bool) (ts : Row)
      → Alike names ts ((atom names run blocks).parser.run ts)
      ((atom wide sun blocks).parser.run ts)
  unfolding atom
  same_atom blocks ts all = same_atom_by blocks (next_of ts) ts all

  pub same_subscript : (left : Spot) (ts : Row)
      → Alike names ts ((subscript names run left).run ts) ((subscript wide sun left).run ts)
  unfolding subscript
  same_subscript left ts all =
      agrees_then _ _ _ _ (same_expr names wide on run sun same_run true ts all)
      (λ index m1 h1. agrees_then _ _ _ _ (agrees_accept _ m1 h1) (λ right m2 h2. agrees_read h2))

  pub same_tight_atom : (blocks : Bool) (ts : Row)
      → Alike names ts ((tight_atom names run blocks).run ts) ((tight_atom wide sun blocks).run ts)
  unfolding tight_atom
  same_tight_atom blocks ts all = agrees_if _ _ _ _ _ (same_atom blocks ts all) (agrees_failed)

  pub same_method_call : (dot : Spot) (name : Name) (ts : Row)
      → Alike names ts ((method_call names run dot name).run ts)
      ((method_call wide sun dot name).run ts)
  unfolding method_call
  same_method_call dot name ts all =
      agrees_then _ _ _ _ (agrees_accept _ ts all)
      (λ left m1 h1. agrees_then _ _ _ _ (same_maybe_list names wide on run sun same_run m1 h1)
      (λ arguments m2 h2. agrees_then _ _ _ _ (agrees_accept _ m2 h2)
      (λ right m3 h3. agrees_read h3)))

  pub same_dotted : (dot : Spot) (ts : Row)
      → Alike names ts ((dotted names run dot).run ts) ((dotted wide sun dot).run ts)
  unfolding dotted
  same_dotted dot ts all =
      agrees_then _ _ _ _ (agrees_accept _ ts all)
      (λ name m1 h1. agrees_if _ _ _ _ _ (same_method_call dot name m1 h1) (agrees_read h1))

  pub same_mark_postfix : (a0 : Mark) (ts : Row)
      → Alike names ts ((mark_postfix names run a0).parser.run ts)
      ((mark_postfix wide sun a0).parser.run ts)
  same_mark_postfix mark.OpenBracket ts all =
      agrees_then _ _ _ _ (agrees_accept _ ts all) (λ x1 m1 h1. same_subscript x1 m1 h1)
  same_mark_postfix mark.Dot ts all =
      agrees_then _ _ _ _ (agrees_accept _ ts all) (λ x1 m1 h1. same_dotted x1 m1 h1)
  same_mark_postfix _ ts all = agrees_failed

  pub same_postfix_for : (blocks : Bool) (a1 : Kind) (ts : Row)
      → Alike names ts ((postfix_for names run blocks a1).parser.run ts)
      ((postfix_for wide sun blocks a1).parser.run ts)
  same_postfix_for blocks (kind.Op o) ts all =
      agrees_then _ _ _ _ (agrees_accept _ ts all)
      (λ power m1 h1. agrees_then _ _ _ _ (same_tight_atom blocks m1 h1)
      (λ exponent m2 h2. agrees_read h2))
  same_postfix_for blocks (kind.Mark m) ts all = same_mark_postfix m ts all
  same_postfix_for blocks _ ts all = agrees_failed

  pub same_postfix_by : (blocks : Bool) (a1 : Option Token) (ts : Row)
      → Alike names ts ((postfix_by names run blocks a1).parser.run ts)
      ((postfix_by wide sun blocks a1).parser.run ts)
  same_postfix_by blocks None ts all = agrees_failed
  same_postfix_by blocks (Some t) ts all = same_postfix_for blocks t.kind ts all

  pub same_postfix : (blocks : Bool) (ts : Row)
      → Alike names ts ((postfix names run blocks).parser.run ts)
      ((postfix wide sun blocks).parser.run ts)
  unfolding postfix
  same_postfix blocks ts all = same_postfix_by blocks (next_of ts) ts all

  pub same_run_part : (blocks : Bool) (ts : Row)
      → Alike names ts ((run_part names run blocks).parser.run ts)
      ((run_part wide sun blocks).parser.run ts)
  unfolding run_part
  same_run_part blocks ts all =
      agrees_if _ _ _ _ _
      (agrees_then _ _ _ _ (same_postfix blocks ts all) (λ p m1 h1. agrees_read h1))
      (agrees_then _ _ _ _ (same_atom blocks ts all) (λ a m2 h2. agrees_read h2))

  pub same_run_parts : (blocks : Bool) (ts : Row)
      → Alike names ts ((run_parts names run blocks).run ts) ((run_parts wide sun blocks).run ts)
  unfolding run_parts
  same_run_parts blocks ts all =
      agrees_many {A = RunPart} {S =
      Bool} (λ state. (begins_run_part blocks)) (λ state x. state)
      (λ state. run_part names run blocks) (λ state. run_part wide sun blocks)
      (λ state m1 h1. same_run_part blocks m1 h1) n true ts all

  pub same_run_level : (blocks : Bool) (ts : Row)
      → Alike names ts ((run_level names run blocks).parser.run ts)
      ((run_level wide sun blocks).parser.run ts)
  unfolding run_level
  same_run_level blocks ts all =
      agrees_then _ _ _ _ (same_atom blocks ts all)
      (λ first m1 h1. agrees_then _ _ _ _ (same_run_parts blocks m1 h1)
      (λ rest m2 h2. agrees_read h2))

module _ (names wide : Spellings) (on : GoesOn names wide) where
  pub same_run_at : (n : ℕ) (blocks : Bool) (ts : Row)
      → Alike names ts ((run_at names n blocks).parser.run ts)
      ((run_at wide n blocks).parser.run ts)
  unfolding run_at
  same_run_at zero blocks ts h = agrees_failed
  same_run_at (suc n) blocks ts h =
      same_run_level names wide on (run_at names n) (run_at wide n) (same_run_at n) blocks ts h

  pub same_expr_at : (n : ℕ) (lines : Bool) (ts : Row)
      → Alike names ts ((expr_at names n lines).parser.run ts)
      ((expr_at wide n lines).parser.run ts)
  unfolding expr_at
  same_expr_at n lines ts h =
      same_expr names wide on (run_at names n) (run_at wide n) (same_run_at n) lines ts h

  pub same_variable_at : (n : ℕ) (var : Option Spot) (name : Name) (ts : Row)
      → Alike names ts ((variable_at names n var name).run ts)
      ((variable_at wide n var name).run ts)
  unfolding variable_at
  same_variable_at n var name ts h =
      same_variable_from names wide on (run_at names n) (run_at wide n) (same_run_at n) var name ts
      h
