-- The productions of expressions read alike over two such tables.
use Rattle.std.proofs.Common.{ℕ, Bool, true, false, List, [], Option, Some, None}
use Rattle.fort_lex_token.specs.declared.token.Kind.{Kind}
use Rattle.fort_lex_token.specs.declared.token.Kind.TheVariants as kind
use Rattle.fort_lex_token.specs.declared.token.Token.{Token}
use Rattle.fort_lex_token.specs.declared.marks.Mark.TheVariants as mark
use Rattle.fort_lex_token.specs.declared.reserved.Reserved.{Reserved}
use Rattle.fort_lex_token.specs.declared.reserved.Reserved.TheVariants as reserved
use Rattle.fort_tree.specs.declared.spot.Spot.{Spot}
use Rattle.fort_tree.specs.declared.spot.Name.{Name}
use Rattle.fort_tree.specs.declared.expr.AssignSign.{AssignSign}
use Rattle.fort_tree.specs.declared.expr.Big.{Big}
use Rattle.fort_tree.specs.declared.expr.Big.TheVariants as big_word
use Rattle.fort_tree.specs.declared.expr.FlatPart.{FlatPart}
use Rattle.fort_tree.specs.declared.expr.Head.{Head}
use Rattle.fort_tree.specs.declared.expr.Flat.{Flat, roll-Flat}
use Rattle.fort_tree.specs.declared.expr.NextExpr.{NextExpr}
use Rattle.fort_tree.specs.declared.expr.Operand.{Operand}
use Rattle.fort_tree.specs.declared.expr.Run.{Run}
use Rattle.fort_tree.specs.Tokens.{Spellings}
use Rattle.fort_parse_reading.specs.Parser.{Eater}
use Rattle.fort_parse_reading.specs.Words.{is_mark, sees}
use Rattle.fort_parse_first.specs.Beginnings.{begins_flat_part}
use Rattle.fort_parse_reading.specs.Parser.{Row, next_of}
use Rattle.fort_parse.specs.Flats.{prefixed, operand, infix_part, flat_part, flat_parts, flat, sequential, parallel, generator, reduction, big_reduction, function, word_head, head_for, head_by, head, open_assign, opened, assigned, assign, flat_more, expr_from, expr, next_expr, next_exprs, expr_list, maybe_list}
use Rattle.fort_syntax.proofs.Agreeing.{GoesOn, Alike, agrees_read, agrees_failed, agrees_accept, agrees_then, agrees_if, agrees_many}
use Rattle.fort_syntax.proofs.TypesAgree.{same_maybe_parameters}

module _ (names wide : Spellings) (on : GoesOn names wide) {n : ℕ} (run sun : Bool → Eater Run n)
    (same_run : (blocks : Bool) (ts : Row)
    → Alike names ts ((run blocks).parser.run ts) ((sun blocks).parser.run ts)) where
  pub same_prefixed : (blocks : Bool) (ts : Row)
      → Alike names ts ((prefixed names run blocks).parser.run ts)
      ((prefixed wide sun blocks).parser.run ts)
  unfolding prefixed
  same_prefixed blocks ts all =
      agrees_then _ _ _ _ (agrees_accept _ ts all)
      (λ prefix m1 h1. agrees_then _ _ _ _ (same_run blocks m1 h1) (λ r m2 h2. agrees_read h2))

  pub same_operand : (blocks : Bool) (ts : Row)
      → Alike names ts ((operand names run blocks).parser.run ts)
      ((operand wide sun blocks).parser.run ts)
  unfolding operand
  same_operand blocks ts all =
      agrees_if _ _ _ _ _ (same_prefixed blocks ts all)
      (agrees_then _ _ _ _ (same_run blocks ts all) (λ r m1 h1. agrees_read h1))

  pub same_infix_part : (blocks : Bool) (ts : Row)
      → Alike names ts ((infix_part names run blocks).parser.run ts)
      ((infix_part wide sun blocks).parser.run ts)
  unfolding infix_part
  same_infix_part blocks ts all =
      agrees_then _ _ _ _ (agrees_accept _ ts all)
      (λ sign m1 h1. agrees_then _ _ _ _ (same_operand blocks m1 h1) (λ o m2 h2. agrees_read h2))

  pub same_flat_part : (blocks : Bool) (ts : Row)
      → Alike names ts ((flat_part names run blocks).parser.run ts)
      ((flat_part wide sun blocks).parser.run ts)
  unfolding flat_part
  same_flat_part blocks ts all =
      agrees_if _ _ _ _ _ (same_infix_part blocks ts all)
      (agrees_then _ _ _ _ (same_run blocks ts all) (λ r m1 h1. agrees_read h1))

  pub same_flat_parts : (found : List FlatPart) (lines : Bool) (blocks : Bool) (ts : Row)
      → Alike names ts ((flat_parts names run found lines blocks).run ts)
      ((flat_parts wide sun found lines blocks).run ts)
  unfolding flat_parts
  same_flat_parts found lines blocks ts all =
      agrees_then _ _ _ _
      (agrees_many {A = FlatPart} {S =
      Bool} (λ state. (begins_flat_part (record { lines = lines; blocks = blocks })))
      (λ state x. state) (λ state. flat_part names run blocks)
      (λ state. flat_part wide sun blocks) (λ state m1 h1. same_flat_part blocks m1 h1) n true
      ts all) (λ more m2 h2. agrees_read h2)

  pub same_flat : (blocks : Bool) (ts : Row)
      → Alike names ts ((flat names run blocks).parser.run ts)
      ((flat wide sun blocks).parser.run ts)
  unfolding flat
  same_flat blocks ts all =
      agrees_then _ _ _ _ (same_operand blocks ts all)
      (λ first m1 h1. agrees_then _ _ _ _ (same_flat_parts [] false blocks m1 h1)
      (λ rest m2 h2. agrees_read h2))

  pub same_sequential : (name : Name) (arrow : Spot) (ts : Row)
      → Alike names ts ((sequential names run name arrow).run ts)
      ((sequential wide sun name arrow).run ts)
  unfolding sequential
  same_sequential name arrow ts all =
      agrees_then _ _ _ _ (agrees_accept _ ts all)
      (λ seq m1 h1. agrees_then _ _ _ _ (agrees_accept _ m1 h1)
      (λ left m2 h2. agrees_then _ _ _ _ (same_flat true m2 h2)
      (λ source m3 h3. agrees_then _ _ _ _ (agrees_accept _ m3 h3)
      (λ right m4 h4. agrees_read h4))))

  pub same_parallel : (blocks : Bool) (name : Name) (arrow : Spot) (ts : Row)
      → Alike names ts ((parallel names run blocks name arrow).run ts)
      ((parallel wide sun blocks name arrow).run ts)
  unfolding parallel
  same_parallel blocks name arrow ts all =
      agrees_then _ _ _ _ (same_flat blocks ts all) (λ source m1 h1. agrees_read h1)

  pub same_generator : (blocks : Bool) (ts : Row)
      → Alike names ts ((generator names run blocks).parser.run ts)
      ((generator wide sun blocks).parser.run ts)
  unfolding generator
  same_generator blocks ts all =
      agrees_then _ _ _ _ (agrees_accept _ ts all)
      (λ name m1 h1. agrees_then _ _ _ _ (agrees_accept _ m1 h1)
      (λ arrow m2 h2. agrees_if _ _ _ _ _ (same_sequential name arrow m2 h2)
      (same_parallel blocks name arrow m2 h2)))

  pub same_reduction : (big : Big) (ts : Row)
      → Alike names ts ((reduction names run big).run ts) ((reduction wide sun big).run ts)
  unfolding reduction
  same_reduction big ts all =
      agrees_then _ _ _ _ (agrees_accept _ ts all)
      (λ left m1 h1. agrees_then _ _ _ _ (same_generator true m1 h1)
      (λ generator m2 h2. agrees_then _ _ _ _ (agrees_accept _ m2 h2)
      (λ right m3 h3. agrees_read h3)))

  pub same_big_reduction : (s : Spot) (ts : Row)
      → Alike names ts ((big_reduction names run s).run ts) ((big_reduction wide sun s).run ts)
  unfolding big_reduction
  same_big_reduction s ts all =
      agrees_then _ _ _ _ (agrees_accept _ ts all) (λ big m1 h1. same_reduction big m1 h1)

  pub same_function : (s : Spot) (ts : Row)
      → Alike names ts ((function names run s).run ts) ((function wide sun s).run ts)
  unfolding function
  same_function s ts all =
      agrees_then _ _ _ _ (agrees_accept _ ts all)
      (λ left m1 h1. agrees_then _ _ _ _ (same_maybe_parameters names wide on n m1 h1)
      (λ parameters m2 h2. agrees_then _ _ _ _ (agrees_accept _ m2 h2)
      (λ right m3 h3. agrees_then _ _ _ _ (agrees_accept _ m3 h3)
      (λ arrow m4 h4. agrees_read h4))))

  pub same_word_head : (a0 : Reserved) (ts : Row)
      → Alike names ts ((word_head names run a0).parser.run ts)
      ((word_head wide sun a0).parser.run ts)
  same_word_head reserved.Atomic ts all =
      agrees_then _ _ _ _ (agrees_accept _ ts all) (λ s m1 h1. agrees_read h1)
  same_word_head reserved.Tryatomic ts all =
      agrees_then _ _ _ _ (agrees_accept _ ts all) (λ s m1 h1. agrees_read h1)
  same_word_head reserved.Throw ts all =
      agrees_then _ _ _ _ (agrees_accept _ ts all) (λ s m1 h1. agrees_read h1)
  same_word_head reserved.Spawn ts all =
      agrees_then _ _ _ _ (agrees_accept _ ts all) (λ s m1 h1. agrees_read h1)
  same_word_head reserved.Fn ts all =
      agrees_then _ _ _ _ (agrees_accept _ ts all) (λ x1 m1 h1. same_function x1 m1 h1)
  same_word_head reserved.Sum ts all =
      agrees_then _ _ _ _ (agrees_accept _ ts all)
      (λ s m1 h1. same_reduction (big_word.Sum s) m1 h1)
  same_word_head reserved.Prod ts all =
      agrees_then _ _ _ _ (agrees_accept _ ts all)
      (λ s m1 h1. same_reduction (big_word.Prod s) m1 h1)
  same_word_head reserved.Big ts all =
      agrees_then _ _ _ _ (agrees_accept _ ts all) (λ x1 m1 h1. same_big_reduction x1 m1 h1)
  same_word_head _ ts all = agrees_failed

  pub same_head_for : (a0 : Kind) (ts : Row)
      → Alike names ts ((head_for names run a0).parser.run ts)
      ((head_for wide sun a0).parser.run ts)
  same_head_for (kind.Word w) ts all = same_word_head w ts all
  same_head_for _ ts all = agrees_failed

  pub same_head_by : (a0 : Option Token) (ts : Row)
      → Alike names ts ((head_by names run a0).parser.run ts) ((head_by wide sun a0).parser.run ts)
  same_head_by None ts all = agrees_failed
  same_head_by (Some t) ts all = same_head_for t.kind ts all

  pub same_head : (ts : Row)
      → Alike names ts ((head names run).parser.run ts) ((head wide sun).parser.run ts)
  unfolding head
  same_head ts all = same_head_by (next_of ts) ts all

  pub same_open_assign : (h : Head) (target : Flat) (ts : Row)
      → Alike names ts ((open_assign names run h target).run ts)
      ((open_assign wide sun h target).run ts)
  unfolding open_assign
  same_open_assign h target ts all =
      agrees_then _ _ _ _ (agrees_accept _ ts all)
      (λ sign m1 h1. agrees_then _ _ _ _ (same_flat true m1 h1) (λ value m2 h2. agrees_read h2))

  pub same_opened : (h : Head) (ts : Row)
      → Alike names ts ((opened names run h).run ts) ((opened wide sun h).run ts)
  unfolding opened
  same_opened h ts all =
      agrees_then _ _ _ _ (same_flat true ts all)
      (λ body m1 h1. agrees_if _ _ _ _ _ (same_open_assign h body m1 h1) (agrees_read h1))

  pub same_assigned : (target : Flat) (sign : AssignSign) (ts : Row)
      → Alike names ts ((assigned names run target sign).run ts)
      ((assigned wide sun target sign).run ts)
  unfolding assigned
  same_assigned target sign ts all =
      agrees_if _ _ _ _ _
      (agrees_then _ _ _ _ (same_head ts all)
      (λ h m1 h1. agrees_then _ _ _ _ (same_flat true m1 h1) (λ value m2 h2. agrees_read h2)))
      (agrees_then _ _ _ _ (same_flat true ts all) (λ value m3 h3. agrees_read h3))

  pub same_assign : (target : Flat) (ts : Row)
      → Alike names ts ((assign names run target).run ts) ((assign wide sun target).run ts)
  unfolding assign
  same_assign target ts all =
      agrees_then _ _ _ _ (agrees_accept _ ts all) (λ sign m1 h1. same_assigned target sign m1 h1)

  pub same_flat_more : (lines : Bool) (first : Operand) (found : List FlatPart) (ts : Row)
      → Alike names ts ((flat_more names run lines first found).run ts)
      ((flat_more wide sun lines first found).run ts)
  unfolding flat_more
  same_flat_more lines first found ts all =
      agrees_then _ _ _ _ (same_flat_parts found lines true ts all) (λ rest m1 h1. agrees_read h1)

  pub same_expr_from : (lines : Bool) (first : Operand) (ts : Row)
      → Alike names ts ((expr_from names run lines first).run ts)
      ((expr_from wide sun lines first).run ts)
  unfolding expr_from
  same_expr_from lines first ts all =
      agrees_then _ _ _ _ (same_flat_parts [] false true ts all)
      (λ found m1 h1. agrees_if _ _ _ _ _
      (same_assign (roll-Flat (record { first = first; rest = found })) m1 h1)
      (same_flat_more lines first found m1 h1))

  pub same_expr : (lines : Bool) (ts : Row)
      → Alike names ts ((expr names run lines).parser.run ts) ((expr wide sun lines).parser.run ts)
  unfolding expr
  same_expr lines ts all =
      agrees_if _ _ _ _ _
      (agrees_then _ _ _ _ (same_head ts all) (λ x1 m1 h1. same_opened x1 m1 h1))
      (agrees_then _ _ _ _ (same_operand true ts all) (λ x2 m2 h2. same_expr_from lines x2 m2 h2))

  pub same_next_expr : (ts : Row)
      → Alike names ts ((next_expr names run).parser.run ts) ((next_expr wide sun).parser.run ts)
  unfolding next_expr
  same_next_expr ts all =
      agrees_then _ _ _ _ (agrees_accept _ ts all)
      (λ comma m1 h1. agrees_then _ _ _ _ (same_expr true m1 h1) (λ e m2 h2. agrees_read h2))

  pub same_next_exprs : (ts : Row)
      → Alike names ts ((next_exprs names run).run ts) ((next_exprs wide sun).run ts)
  unfolding next_exprs
  same_next_exprs ts all =
      agrees_many {A = NextExpr} {S =
      Bool} (λ state. (sees (is_mark mark.Comma))) (λ state x. state)
      (λ state. next_expr names run) (λ state. next_expr wide sun)
      (λ state m1 h1. same_next_expr m1 h1) n true ts all

  pub same_expr_list : (ts : Row)
      → Alike names ts ((expr_list names run).parser.run ts) ((expr_list wide sun).parser.run ts)
  unfolding expr_list
  same_expr_list ts all =
      agrees_then _ _ _ _ (same_expr true ts all)
      (λ first m1 h1. agrees_then _ _ _ _ (same_next_exprs m1 h1) (λ others m2 h2. agrees_read h2))

  pub same_maybe_list : (ts : Row)
      → Alike names ts ((maybe_list names run).run ts) ((maybe_list wide sun).run ts)
  unfolding maybe_list
  same_maybe_list ts all =
      agrees_if _ _ _ _ _ (agrees_read all)
      (agrees_then _ _ _ _ (same_expr_list ts all) (λ list m1 h1. agrees_read h1))
