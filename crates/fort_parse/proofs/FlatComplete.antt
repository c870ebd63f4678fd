-- The tokens of each expression are read as that expression, where what follows them does not
-- continue it.
use Rattle.std.proofs.Common.{◌≡◌, ℕ, Bool, true, false, List, [], ◌∷◌, ◌++◌, append_assoc, Option, Some, None, refl, ap, ◌∙◌}
use Rattle.std.specs.Prelude.{map, option_map, ◌||◌, not}
use Rattle.fort_ops.specs.declared.op.Op.{Op}
use Rattle.fort_ops.specs.declared.op.Op.TheVariants as op
use Rattle.fort_lex_token.specs.declared.token.Kind.{Kind}
use Rattle.fort_lex_token.specs.declared.token.Kind.TheVariants as kind
use Rattle.fort_lex_token.specs.declared.token.Token.{Token}
use Rattle.fort_lex_token.specs.declared.marks.Mark.TheVariants as mark
use Rattle.fort_lex_token.specs.declared.reserved.Reserved.TheVariants as reserved
use Rattle.fort_tree.specs.declared.spot.Spot.{Spot}
use Rattle.fort_tree.specs.declared.spot.Sign.{Sign}
use Rattle.fort_tree.specs.declared.expr.AssignSign.{AssignSign}
use Rattle.fort_tree.specs.declared.expr.Big.{Big}
use Rattle.fort_tree.specs.declared.expr.Big.TheVariants as big_word
use Rattle.fort_tree.specs.declared.expr.Expr.{Expr}
use Rattle.fort_tree.specs.declared.expr.Expr.TheVariants as an_expr
use Rattle.fort_tree.specs.declared.expr.FlatPart.{FlatPart}
use Rattle.fort_tree.specs.declared.expr.Generator.{Generator}
use Rattle.fort_tree.specs.declared.expr.Head.{Head}
use Rattle.fort_tree.specs.declared.expr.Head.TheVariants as a_head
use Rattle.fort_tree.specs.declared.expr.Prefix.{Prefix}
use Rattle.fort_tree.specs.declared.expr.Prefix.TheVariants as a_prefix
use Rattle.fort_tree.specs.declared.expr.ExprList.{ExprList, out-ExprList}
use Rattle.fort_tree.specs.declared.expr.Flat.{Flat, roll-Flat}
use Rattle.fort_tree.specs.declared.expr.NextExpr.{NextExpr, out-NextExpr}
use Rattle.fort_tree.specs.declared.expr.Operand.{Operand, roll-Operand}
use Rattle.fort_tree.specs.declared.expr.Run.{Run}
use Rattle.fort_tree.specs.Tokens.{Spellings, marked, word, signed, is_empty, is_line, is_infix}
use Rattle.fort_tree.specs.Said.{Allowed, tokens_of, all_tokens, all_obey, maybe_tokens, maybe_obeys, elsewhere, in_brackets}
use Rattle.fort_tree.specs.Flats.{assign_token, big_first, big_more}
use Rattle.fort_tree.specs.Flats.{prefixed as with_prefix}
use Rattle.fort_tree.specs.Yield.{said_expr, said_flat_part, said_generator, said_head, said_expr_list, said_flat, said_next_expr, said_operand, said_run}
use Rattle.fort_tree.proofs.CasesFlats.{cases_expr, cases_head, cases_generator, cases_flat, cases_flat_part, cases_operand, cases_expr_list, cases_next_expr}
use Rattle.fort_tree.proofs.SaysFlats.{says-Flat, says-Assign, says-Open, says-OpenAssign, says-Atomic, says-Tryatomic, says-Throw, says-Spawn, says-Fn, says-Big, says-Parallel, says-Sequential, says_flat, says-Run, says-Infix, says_operand, says_expr_list, expr_list_says, says_next_expr, next_expr_says}
use Rattle.fort_parse_reading.specs.Parser.{Row, next_of, Eater}
use Rattle.fort_parse_reading.specs.Words.{is_mark, is_word, sees, same_mark}
use Rattle.fort_parse_reading.proofs.Laws.{Gets, reads, gets_then}
use Rattle.fort_parse_reading.proofs.Taking.{prefix_token, gets_prefix, gets_sign, gets_name, gets_mark, gets_word, gets_assign, gets_max, gets_min, gets_and, gets_or, is_word_at, is_mark_at, not_mark, not_word}
use Rattle.fort_parse_reading.proofs.Yields.{both, left_true, right_true, true_right, false_right, is_not, gets_list, next_stops}
use Rattle.fort_parse_types.proofs.Complete.{complete_maybe_parameters}
use Rattle.fort_parse_first.specs.Beginnings.{is_prefix, is_infix_kind, begins_atom, begins_postfix, begins_unit, begins_run_part, begins_flat_part, begins_head, begins_expr, assigns}
use Rattle.fort_parse.specs.Flats.{prefixed, operand, infix_part, flat_part, flat_parts, flat, sequential, parallel, generator, reduction, big_reduction, function, head, open_assign, opened, assigned, assign, flat_more, expr_from, expr, next_expr, next_exprs, expr_list, maybe_list}
use Rattle.fort_parse.proofs.Statements.{allowing, flat_stops, expr_stops, UnitExpr, HeadExpr, RunLaws, FlatLaws}
use Rattle.fort_parse.proofs.Firsts.{run_begins, flat_begins, head_begins, expr_begins, close_no_expr, flat_not_head, atom_not_prefix, atom_not_infix, atom_not_assigns, infix_not_assigns}
use Rattle.fort_parse.proofs.AnyLines.{run_same, operand_same}
use Rattle.fort_parse.proofs.Stops.{stops_run, stops_part, stops_flat, stops_assigns, mark_ends_flat, mark_ends_expr, assign_ends_flat, assign_assigns, fewer_parts}
use Rattle.fort_parse.proofs.FlatSound.{sound_operand, sound_flat, sound_generator, sound_head, sound_opened, sound_expr_from, sound_expr, sound_maybe_list, appended}

sees_first : (f : Kind → Bool) (t : Token) (b : Bool) → f t.kind ≡ b → sees f (Some t) ≡ b
unfolding sees
sees_first f t b e = e

sees_prefix : (p : Prefix) → sees is_prefix (Some (prefix_token p)) ≡ true
unfolding sees is_prefix
sees_prefix (a_prefix.Minus s) = refl
sees_prefix (a_prefix.Not s) = refl

infix_op : (o : Op) → is_infix o ≡ true → begins_postfix (kind.Op o) ≡ false
unfolding begins_postfix
infix_op op.Power e = absurd cc
infix_op _ e = refl

infix_ends_run : (blocks : Bool) (s : Sign) → is_infix s.op ≡ true
    → begins_run_part blocks (Some (signed s)) ≡ false
unfolding begins_run_part begins_atom
infix_ends_run blocks s e = rw (infix_op s.op e) (false_right (is_empty s.spot.gap))

infix_begins : (lines blocks : Bool) (s : Sign) → is_infix s.op ≡ true
    → (lines || not (is_line s.spot.gap)) ≡ true
    → begins_flat_part (allowing lines blocks) (Some (signed s)) ≡ true
unfolding begins_flat_part is_infix_kind
infix_begins lines blocks s e f = rw (f, e) refl

sees_infix : (s : Sign) → is_infix s.op ≡ true → sees is_infix_kind (Some (signed s)) ≡ true
unfolding sees is_infix_kind
sees_infix s e = e

run_ends_run : (blocks : Bool) (t : Token) → not (is_empty t.gap) ≡ true
    → begins_run_part blocks (Some t) ≡ false
unfolding begins_run_part
run_ends_run blocks t e = rw (is_not (is_empty t.gap) e) refl

run_begins_part : (lines blocks : Bool) (t : Token) → not (is_empty t.gap) ≡ true
    → (lines || not (is_line t.gap)) ≡ true → begins_atom blocks t.kind ≡ true
    → begins_flat_part (allowing lines blocks) (Some t) ≡ true
unfolding begins_flat_part
run_begins_part lines blocks t e f g = rw (f, e, g) (true_right (is_infix_kind t.kind))

one_line : (lines blocks : Bool) (t : Token)
    → begins_flat_part (allowing lines blocks) (Some t) ≡ true
    → (lines || not (is_line t.gap)) ≡ true
unfolding begins_flat_part
one_line lines blocks t e = left_true _ _ e

or_cases : (a b : Bool) (P : Type 0) → (a || b) ≡ true → (a ≡ true → P) → (b ≡ true → P) → P
or_cases true b P e f g = f refl
or_cases false b P e f g = g e

-- what begins a part of a flat expression assigns nothing
part_not_assigns : (lines blocks : Bool) (t : Token)
    → begins_flat_part (allowing lines blocks) (Some t) ≡ true → sees assigns (Some t) ≡ false
unfolding begins_flat_part sees
part_not_assigns lines blocks t e =
    or_cases (is_infix_kind t.kind) _ (assigns t.kind
    ≡ false) (right_true _ _ e) (infix_not_assigns t.kind)
    (λ h. atom_not_assigns blocks t.kind (right_true _ _ h))

-- a list of parts with a first stretch on one line
record Split (names : Spellings) (lines : Bool) (xs : List FlatPart) (rest : Row) : Type 0 where
  pub near : List FlatPart
  pub far : List FlatPart
  pub whole : xs ≡ near ++ far
  pub near_obeys : all_obey names (allowing false true) (map said_flat_part near) ≡ true
  pub far_obeys : all_obey names (allowing lines true) (map said_flat_part far) ≡ true
  pub no_part : begins_flat_part (allowing false true)
      (next_of (all_tokens (map said_flat_part far) ++ rest)) ≡ false

bool_cases : (b : Bool) (P : Type 0) → (b ≡ true → P) → (b ≡ false → P) → P
bool_cases true P f g = f refl
bool_cases false P f g = g refl

-- what ends a flat expression in brackets ends one on one line
flat_ends : (lines : Bool) (next : Option Token) → flat_stops lines true next ≡ true
    → flat_stops false true next ≡ true
flat_ends lines next e =
    rw (stops_run lines true next e, fewer_parts lines true next (stops_part lines true next e))
    refl

module _ (names : Spellings) {n : ℕ} (run : Bool → Eater Run n) (laws : RunLaws names run) where
  unit_by : (lines blocks : Bool) (prefix : Option Prefix) (r : Run) (rest : Row)
      → (with_prefix prefix (said_run r)).obeys names (allowing lines blocks) ≡ true
      → begins_run_part blocks (next_of rest) ≡ false
      → Gets Operand
      ((operand names run blocks).parser.run (tokens_of (with_prefix prefix (said_run r)) ++ rest))
      (roll-Operand (record { prefix = prefix; run = r })) rest
  unfolding operand prefixed
  unit_by lines blocks None r rest ob st =
      rw (sees_first is_prefix (said_run r).first false
      (atom_not_prefix blocks (said_run r).first.kind
      (run_begins names (allowing lines blocks) r ob)))
      (gets_then _ (laws.complete lines blocks r rest ob st) reads)
  unit_by lines blocks (Some (a_prefix.Minus s)) r rest ob st =
      rw (sees_prefix (a_prefix.Minus s))
      (gets_then _ (gets_prefix (a_prefix.Minus s) _)
      (gets_then _ (laws.complete lines blocks r rest ob st) reads))
  unit_by lines blocks (Some (a_prefix.Not s)) r rest ob st =
      rw (sees_prefix (a_prefix.Not s))
      (gets_then _ (gets_prefix (a_prefix.Not s) _)
      (gets_then _ (laws.complete lines blocks r rest ob st) reads))

  pub complete_operand : (lines blocks : Bool) (o : Operand) (rest : Row)
      → (said_operand o).obeys names (allowing lines blocks) ≡ true
      → begins_run_part blocks (next_of rest) ≡ false
      → Gets Operand ((operand names run blocks).parser.run (tokens_of (said_operand o) ++ rest)) o
      rest
  complete_operand lines blocks o rest =
      cases_operand (λ o. (said_operand o).obeys names (allowing lines blocks) ≡ true
      → begins_run_part blocks (next_of rest) ≡ false
      → Gets Operand
      ((operand names run blocks).parser.run (tokens_of (said_operand o) ++ rest)) o rest)
      (λ prefix r ob st. let own = rw (says_operand prefix r) at ob
      in rw (says_operand prefix r) (unit_by lines blocks prefix r rest own st)) o

  complete_flat_part : (lines blocks : Bool) (p : FlatPart) (rest : Row)
      → (said_flat_part p).obeys names (allowing lines blocks) ≡ true
      → begins_run_part blocks (next_of rest) ≡ false
      → Gets FlatPart
      ((flat_part names run blocks).parser.run (tokens_of (said_flat_part p) ++ rest)) p rest
  unfolding flat_part infix_part
  complete_flat_part lines blocks p rest =
      cases_flat_part (λ p. (said_flat_part p).obeys names (allowing lines blocks) ≡ true
      → begins_run_part blocks (next_of rest) ≡ false
      → Gets FlatPart
      ((flat_part names run blocks).parser.run (tokens_of (said_flat_part p) ++ rest)) p rest)
      (λ r ob st. let own = rw (says-Run r) at ob in
      let inner = right_true _ _ (right_true _ _ own) in
      rw (
        says-Run r,
        sees_first is_infix_kind (said_run r).first false
            (atom_not_infix blocks (said_run r).first.kind
            (run_begins names (allowing lines blocks) r inner)),
      )
      (gets_then _ (laws.complete lines blocks r rest inner st) reads))
      (λ s o ob st. let own = rw (says-Infix s o) at ob in
      rw (says-Infix s o, sees_infix s (left_true _ _ own))
      (gets_then _ (gets_sign s _ (left_true _ _ own))
      (gets_then _
      (complete_operand lines blocks o rest (right_true _ _ (right_true _ _ own)) st)
      reads))) p

  part_begins : (lines blocks : Bool) (p : FlatPart)
      → (said_flat_part p).obeys names (allowing lines blocks) ≡ true
      → begins_flat_part (allowing lines blocks) (Some (said_flat_part p).first) ≡ true
  part_begins lines blocks =
      cases_flat_part (λ p. (said_flat_part p).obeys names (allowing lines blocks) ≡ true
      → begins_flat_part (allowing lines blocks) (Some (said_flat_part p).first) ≡ true)
      (λ r ob. let own = rw (says-Run r) at ob in
      let inner = right_true _ _ own in
      rw (says-Run r)
      (run_begins_part lines blocks (said_run r).first (left_true _ _ own) (left_true _ _ inner)
      (run_begins names (allowing lines blocks) r (right_true _ _ inner))))
      (λ s o ob. let own = rw (says-Infix s o) at ob
      in rw (says-Infix s o)
      (infix_begins lines blocks s (left_true _ _ own)
      (left_true _ _ (right_true _ _ own))))

  part_stops : (lines blocks : Bool) (p : FlatPart)
      → (said_flat_part p).obeys names (allowing lines blocks) ≡ true
      → begins_run_part blocks (Some (said_flat_part p).first) ≡ false
  part_stops lines blocks =
      cases_flat_part (λ p. (said_flat_part p).obeys names (allowing lines blocks) ≡ true
      → begins_run_part blocks (Some (said_flat_part p).first) ≡ false)
      (λ r ob. let own = rw (says-Run r) at ob
      in rw (says-Run r) (run_ends_run blocks (said_run r).first (left_true _ _ own)))
      (λ s o ob. let own = rw (says-Infix s o) at ob
      in rw (says-Infix s o) (infix_ends_run blocks s (left_true _ _ own)))

  gets_parts : (found : List FlatPart) (lines blocks : Bool) (xs : List FlatPart) (rest : Row)
      → all_obey names (allowing lines blocks) (map said_flat_part xs) ≡ true
      → begins_run_part blocks (next_of rest) ≡ false
      → begins_flat_part (allowing lines blocks) (next_of rest) ≡ false
      → Gets (List FlatPart)
      ((flat_parts names run found lines blocks).run (all_tokens (map said_flat_part xs) ++ rest))
      (found ++ xs) rest
  unfolding flat_parts
  gets_parts found lines blocks xs rest ob st en =
      gets_then _
      (gets_list names (allowing lines blocks) said_flat_part
      (begins_flat_part (allowing lines blocks)) (flat_part names run blocks)
      (λ next. begins_run_part blocks next ≡ false)
      (λ x more. complete_flat_part lines blocks x more) (λ x. part_begins lines blocks x)
      (λ x. part_stops lines blocks x) n xs rest ob st en) reads

  next_run_stops : (lines blocks : Bool) (xs : List FlatPart) (rest : Row)
      → all_obey names (allowing lines blocks) (map said_flat_part xs) ≡ true
      → begins_run_part blocks (next_of rest) ≡ false
      → begins_run_part blocks (next_of (all_tokens (map said_flat_part xs) ++ rest)) ≡ false
  next_run_stops lines blocks xs rest ob st =
      next_stops names (allowing lines blocks) said_flat_part (λ next. begins_run_part blocks next
      ≡ false) (λ x. part_stops lines blocks x) xs rest ob st

  pub complete_flat : (blocks : Bool) (f : Flat) (rest : Row)
      → (said_flat f).obeys names (allowing false blocks) ≡ true
      → flat_stops false blocks (next_of rest) ≡ true
      → Gets Flat ((flat names run blocks).parser.run (tokens_of (said_flat f) ++ rest)) f rest
  unfolding flat
  complete_flat blocks f rest =
      cases_flat (λ f. (said_flat f).obeys names (allowing false blocks) ≡ true
      → flat_stops false blocks (next_of rest) ≡ true
      → Gets Flat ((flat names run blocks).parser.run (tokens_of (said_flat f) ++ rest)) f rest)
      (λ first parts ob st. let own = rw (says_flat first parts) at ob in
      rw (says_flat first parts) (simp append_assoc
      (gets_then _
      (complete_operand false blocks first _ (left_true _ _ own)
      (next_run_stops false blocks parts rest (right_true _ _ own)
      (stops_run false blocks (next_of rest) st)))
      (gets_then _
      (gets_parts [] false blocks parts rest (right_true _ _ own)
      (stops_run false blocks (next_of rest) st)
      (stops_part false blocks (next_of rest) st)) reads)))) f

  -- ---- generators and heads

  is_seq : is_word reserved.Seq (kind.Word reserved.Seq) ≡ true
  is_seq = is_word_at reserved.Seq

  seq_not_unit : (blocks : Bool) → begins_unit blocks (kind.Word reserved.Seq) ≡ false
  unfolding begins_unit begins_atom is_prefix
  seq_not_unit blocks = refl

  pub complete_generator : (blocks : Bool) (g : Generator) (rest : Row)
      → (said_generator g).obeys names (allowing false blocks) ≡ true
      → flat_stops false blocks (next_of rest) ≡ true
      → Gets Generator
      ((generator names run blocks).parser.run (tokens_of (said_generator g) ++ rest)) g rest
  unfolding generator sequential parallel
  complete_generator blocks g rest =
      cases_generator (λ g. (said_generator g).obeys names (allowing false blocks) ≡ true
      → flat_stops false blocks (next_of rest) ≡ true
      → Gets Generator
      ((generator names run blocks).parser.run (tokens_of (said_generator g) ++ rest)) g rest)
      (λ name arrow source ob st. let own = rw (says-Parallel name arrow source) at ob in
      rw (says-Parallel name arrow source)
      (gets_then _ (gets_name name _) (gets_then _ (gets_mark mark.LeftArrow arrow _)
      (rw (sees_first (is_word reserved.Seq) (said_flat source).first false
      (not_word (begins_unit blocks) reserved.Seq (seq_not_unit blocks)
      (said_flat source).first.kind (flat_begins names (allowing false blocks) source own)))
      (gets_then _ (complete_flat blocks source rest own st) reads)))))
      (λ name arrow seq left source right ob st. let own =
      rw (says-Sequential name arrow seq left source right) at ob in
      rw (says-Sequential name arrow seq left source right)
      (simp append_assoc
      (gets_then _ (gets_name name _) (gets_then _ (gets_mark mark.LeftArrow arrow _)
      (rw (sees_first (is_word reserved.Seq) (word reserved.Seq seq) true (is_seq))
      (gets_then _ (gets_word reserved.Seq seq _)
      (gets_then _ (gets_mark mark.OpenParen left _)
      (gets_then _
      (complete_flat true source _ own
      (mark_ends_flat false true mark.CloseParen right refl refl))
      (gets_then _ (gets_mark mark.CloseParen right rest) reads))))))))) g

  complete_reduction : (big : Big) (left : Spot) (g : Generator) (right : Spot) (rest : Row)
      → (said_generator g).obeys names elsewhere ≡ true
      → Gets Head
      ((reduction names run big).run
      (marked mark.OpenBracket left
      ∷ (tokens_of (said_generator g) ++ marked mark.CloseBracket right ∷ rest)))
      (a_head.Big big left g right) rest
  unfolding reduction
  complete_reduction big left g right rest ob =
      gets_then _ (gets_mark mark.OpenBracket left _)
      (gets_then _
      (complete_generator true g _ ob
      (mark_ends_flat false true mark.CloseBracket right refl refl))
      (gets_then _ (gets_mark mark.CloseBracket right rest) reads))

  complete_big : (big : Big) (left : Spot) (g : Generator) (right : Spot) (rest : Row)
      → (said_generator g).obeys names elsewhere ≡ true
      → Gets Head
      ((head names run).parser.run
      (big_first big
      ∷ (big_more big ++ marked mark.OpenBracket left
      ∷ (tokens_of (said_generator g) ++ marked mark.CloseBracket right ∷ rest))))
      (a_head.Big big left g right) rest
  unfolding head big_reduction
  complete_big (big_word.Sum s) left g right rest ob =
      gets_then _ (gets_word reserved.Sum s _)
      (complete_reduction (big_word.Sum s) left g right rest ob)
  complete_big (big_word.Prod s) left g right rest ob =
      gets_then _ (gets_word reserved.Prod s _)
      (complete_reduction (big_word.Prod s) left g right rest ob)
  complete_big (big_word.Max s t) left g right rest ob =
      gets_then _ (gets_word reserved.Big s _)
      (gets_then _ (gets_max s t _) (complete_reduction (big_word.Max s t) left g right rest ob))
  complete_big (big_word.Min s t) left g right rest ob =
      gets_then _ (gets_word reserved.Big s _)
      (gets_then _ (gets_min s t _) (complete_reduction (big_word.Min s t) left g right rest ob))
  complete_big (big_word.And s t) left g right rest ob =
      gets_then _ (gets_word reserved.Big s _)
      (gets_then _ (gets_and s t _) (complete_reduction (big_word.And s t) left g right rest ob))
  complete_big (big_word.Or s t) left g right rest ob =
      gets_then _ (gets_word reserved.Big s _)
      (gets_then _ (gets_or s t _) (complete_reduction (big_word.Or s t) left g right rest ob))

  pub complete_head : (h : Head) (rest : Row) → (said_head h).obeys names elsewhere ≡ true
      → Gets Head ((head names run).parser.run (tokens_of (said_head h) ++ rest)) h rest
  unfolding head function
  complete_head h rest = cases_head (λ h. (said_head h).obeys names elsewhere ≡ true
      → Gets Head ((head names run).parser.run (tokens_of (said_head h) ++ rest)) h rest)
      (λ s ob. rw (says-Atomic s) (gets_then _ (gets_word reserved.Atomic s _) reads))
      (λ s ob. rw (says-Tryatomic s) (gets_then _ (gets_word reserved.Tryatomic s _) reads))
      (λ s ob. rw (says-Throw s) (gets_then _ (gets_word reserved.Throw s _) reads))
      (λ s ob. rw (says-Spawn s) (gets_then _ (gets_word reserved.Spawn s _) reads))
      (λ s left p right arrow ob. let own = rw (says-Fn s left p right arrow) at ob in
      rw (says-Fn s left p right arrow)
      (simp append_assoc
      (gets_then _ (gets_word reserved.Fn s _)
      (gets_then _ (gets_mark mark.OpenParen left _)
      (gets_then _
      (complete_maybe_parameters names n p right (marked mark.DoubleArrow arrow ∷ rest) own)
      (gets_then _ (gets_mark mark.CloseParen right _)
      (gets_then _ (gets_mark mark.DoubleArrow arrow rest) reads)))))))
      (λ big left g right ob. let own = rw (says-Big big left g right) at ob in
      rw (says-Big big left g right) (simp append_assoc (complete_big big left g right rest own))) h

  -- ---- expressions

  one_line_part : (lines : Bool) (p : FlatPart)
      → (said_flat_part p).obeys names (allowing lines true) ≡ true
      → begins_flat_part (allowing false true) (Some (said_flat_part p).first) ≡ true
      → (said_flat_part p).obeys names (allowing false true) ≡ true
  one_line_part lines =
      cases_flat_part (λ p. (said_flat_part p).obeys names (allowing lines true) ≡ true
      → begins_flat_part (allowing false true) (Some (said_flat_part p).first) ≡ true
      → (said_flat_part p).obeys names (allowing false true) ≡ true)
      (λ r ob e. let own = rw (says-Run r) at ob in let first = rw (says-Run r) at e in
      rw (says-Run r)
      (both _ _ (left_true _ _ own)
      (both _ _ (one_line false true (said_run r).first first)
      (run_same names false lines true r ∙ right_true _ _ (right_true _ _ own)))))
      (λ s o ob e. let own = rw (says-Infix s o) at ob in let first = rw (says-Infix s o) at e in
      rw (says-Infix s o)
      (both _ _ (left_true _ _ own)
      (both _ _ (one_line false true (signed s) first)
      (operand_same names false lines true o ∙ right_true _ _ (right_true _ _ own)))))

  split : (lines : Bool) (xs : List FlatPart) (rest : Row)
      → all_obey names (allowing lines true) (map said_flat_part xs) ≡ true
      → begins_flat_part (allowing lines true) (next_of rest) ≡ false → Split names lines xs rest
  split lines [] rest ob en =
      record {
        near = [];
        far = [];
        whole = refl;
        near_obeys = refl;
        far_obeys = refl;
        no_part = fewer_parts lines true (next_of rest) en;
      }
  split lines (x ∷ xs) rest ob en =
      bool_cases (begins_flat_part (allowing false true) (Some (said_flat_part x).first)) _
      (λ e. let tail = split lines xs rest (right_true _ _ ob) en in
      record {
        near = x ∷ tail.near;
        far = tail.far;
        whole = ap (λ (u : List FlatPart). x ∷ u) tail.whole;
        near_obeys = both _ _ (one_line_part lines x (left_true _ _ ob) e) tail.near_obeys;
        far_obeys = tail.far_obeys;
        no_part = tail.no_part;
      })
      (λ e. record {
        near = [];
        far = x ∷ xs;
        whole = refl;
        near_obeys = refl;
        far_obeys = ob;
        no_part = e;
      })

  far_assigns : (lines : Bool) (xs : List FlatPart) (rest : Row)
      → all_obey names (allowing lines true) (map said_flat_part xs) ≡ true
      → sees assigns (next_of rest) ≡ false
      → sees assigns (next_of (all_tokens (map said_flat_part xs) ++ rest)) ≡ false
  far_assigns lines [] rest ob e = e
  far_assigns lines (x ∷ xs) rest ob e =
      part_not_assigns lines true (said_flat_part x).first
      (part_begins lines true x (left_true _ _ ob))

  -- behind its first unit, a flat expression goes on as itself
  flat_goes_on : (lines : Bool) (first : Operand) (parts : List FlatPart) (rest : Row)
      → all_obey names (allowing lines true) (map said_flat_part parts) ≡ true
      → expr_stops lines (next_of rest) ≡ true
      → Gets Expr
      ((expr_from names run lines first).run (all_tokens (map said_flat_part parts) ++ rest))
      (an_expr.Flat (roll-Flat (record { first = first; rest = parts }))) rest
  unfolding expr_from flat_more
  flat_goes_on lines first parts rest ob st =
      let s = split lines parts rest ob
      (stops_part lines true (next_of rest) (stops_flat lines (next_of rest) st)) in
      let ends_here = stops_run lines true (next_of rest) (stops_flat lines (next_of rest) st) in
      let far_rest : Row = all_tokens (map said_flat_part s.far) ++ rest in
      rw (s.whole, appended s.near s.far rest)
      (gets_then _
      (gets_parts [] false true s.near far_rest s.near_obeys
      (next_run_stops lines true s.far rest s.far_obeys ends_here) s.no_part)
      (rw (far_assigns lines s.far rest s.far_obeys (stops_assigns lines (next_of rest) st))
      (gets_then _
      (gets_parts s.near lines true s.far rest s.far_obeys ends_here
      (stops_part lines true (next_of rest) (stops_flat lines (next_of rest) st))) reads)))

  gets_value : (target : Flat) (sign : AssignSign) (h : Option Head) (value : Flat) (rest : Row)
      → maybe_obeys names elsewhere (option_map said_head h) ≡ true
      → (said_flat value).obeys names elsewhere ≡ true → flat_stops false true (next_of rest) ≡ true
      → Gets Expr
      ((assigned names run target sign).run
      (maybe_tokens (option_map said_head h) ++ (tokens_of (said_flat value) ++ rest)))
      (an_expr.Assign target sign h value) rest
  unfolding assigned
  gets_value target sign None value rest oh ob st =
      rw (sees_first begins_head (said_flat value).first false
      (flat_not_head names elsewhere value ob))
      (gets_then _ (complete_flat true value rest ob st) reads)
  gets_value target sign (Some h) value rest oh ob st =
      rw (sees_first begins_head (said_head h).first true (head_begins h))
      (gets_then _ (complete_head h _ oh)
      (gets_then _ (complete_flat true value rest ob st) reads))

  -- behind its first unit, the target of an assignment goes on as that assignment
  assign_goes_on : (lines : Bool) (first : Operand) (parts : List FlatPart) (sign : AssignSign)
      (h : Option Head) (value : Flat) (rest : Row)
      → all_obey names elsewhere (map said_flat_part parts) ≡ true
      → maybe_obeys names elsewhere (option_map said_head h) ≡ true
      → (said_flat value).obeys names elsewhere ≡ true → flat_stops false true (next_of rest) ≡ true
      → Gets Expr
      ((expr_from names run lines first).run
      (all_tokens (map said_flat_part parts) ++ assign_token sign
      ∷ (maybe_tokens (option_map said_head h) ++ (tokens_of (said_flat value) ++ rest))))
      (an_expr.Assign (roll-Flat (record { first = first; rest = parts })) sign h value) rest
  unfolding expr_from assign
  assign_goes_on lines first parts sign h value rest op oh ov st =
      let stop = assign_ends_flat false sign in
      gets_then _
      (gets_parts [] false true parts _ op
      (stops_run false true (Some (assign_token sign)) stop)
      (stops_part false true (Some (assign_token sign)) stop))
      (rw (assign_assigns sign)
      (gets_then _ (gets_assign sign _)
      (gets_value (roll-Flat (record { first = first; rest = parts })) sign h value rest oh
      ov st)))

  -- behind its head, an expression goes on as itself
  gets_open : (h : Head) (body : Flat) (lines : Bool) (rest : Row)
      → (said_flat body).obeys names elsewhere ≡ true → expr_stops lines (next_of rest) ≡ true
      → Gets Expr ((opened names run h).run (tokens_of (said_flat body) ++ rest))
      (an_expr.Open h body) rest
  unfolding opened
  gets_open h body lines rest ob st =
      gets_then _
      (complete_flat true body rest ob
      (flat_ends lines (next_of rest) (stops_flat lines (next_of rest) st)))
      (rw (stops_assigns lines (next_of rest) st) reads)

  gets_open_assign : (h : Head) (target : Flat) (sign : AssignSign) (value : Flat) (rest : Row)
      → (said_flat target).obeys names elsewhere ≡ true
      → (said_flat value).obeys names elsewhere ≡ true → flat_stops false true (next_of rest) ≡ true
      → Gets Expr
      ((opened names run h).run
      (tokens_of (said_flat target) ++ assign_token sign
      ∷ (tokens_of (said_flat value) ++ rest))) (an_expr.OpenAssign h target sign value) rest
  unfolding opened open_assign
  gets_open_assign h target sign value rest ot ov st =
      gets_then _ (complete_flat true target _ ot (assign_ends_flat false sign))
      (rw (assign_assigns sign)
      (gets_then _ (gets_assign sign _)
      (gets_then _ (complete_flat true value rest ov st) reads)))

  unit_of_flat : (lines : Bool) (f : Flat) (rest : Row)
      → (said_flat f).obeys names (allowing lines true) ≡ true
      → expr_stops lines (next_of rest) ≡ true → UnitExpr names run lines (an_expr.Flat f) rest
  unit_of_flat lines f rest =
      cases_flat (λ f. (said_flat f).obeys names (allowing lines true) ≡ true
      → expr_stops lines (next_of rest) ≡ true → UnitExpr names run lines (an_expr.Flat f) rest)
      (λ first parts ob st. let own = rw (says_flat first parts) at ob in
      let whole = roll-Flat (record { first = first; rest = parts }) in
      let mid : Row = all_tokens (map said_flat_part parts) ++ rest in
      let is : tokens_of (said_expr (an_expr.Flat whole)) ++ rest
      ≡ tokens_of (said_operand first) ++ mid =
      rw (says-Flat whole, says_flat first parts) (simp append_assoc refl) in
      record {
        unit = first;
        mid = mid;
        tokens = is;
        more = all_tokens (map said_flat_part parts);
        behind = refl;
        reads_unit =
            rw is (complete_operand lines true first mid (left_true _ _ own)
            (next_run_stops lines true parts rest (right_true _ _ own)
            (stops_run lines true (next_of rest) (stops_flat lines (next_of rest) st))));
        goes_on = flat_goes_on lines first parts rest (right_true _ _ own) st;
      }) f

  unit_of_assign : (lines : Bool) (target : Flat) (sign : AssignSign) (h : Option Head)
      (value : Flat) (rest : Row) → (said_flat target).obeys names elsewhere ≡ true
      → maybe_obeys names elsewhere (option_map said_head h) ≡ true
      → (said_flat value).obeys names elsewhere ≡ true → flat_stops false true (next_of rest) ≡ true
      → UnitExpr names run lines (an_expr.Assign target sign h value) rest
  unit_of_assign lines target sign h value rest =
      cases_flat (λ target. (said_flat target).obeys names elsewhere ≡ true
      → maybe_obeys names elsewhere (option_map said_head h) ≡ true
      → (said_flat value).obeys names elsewhere ≡ true → flat_stops false true (next_of rest) ≡ true
      → UnitExpr names run lines (an_expr.Assign target sign h value) rest)
      (λ first parts ot oh ov st. let own = rw (says_flat first parts) at ot in
      let whole = roll-Flat (record { first = first; rest = parts }) in
      let mid : Row =
      all_tokens (map said_flat_part parts) ++ assign_token sign
      ∷ (maybe_tokens (option_map said_head h) ++ (tokens_of (said_flat value) ++ rest)) in
      let is : tokens_of (said_expr (an_expr.Assign whole sign h value)) ++ rest
      ≡ tokens_of (said_operand first) ++ mid =
      rw (says-Assign whole sign h value, says_flat first parts) (simp append_assoc refl) in
      let stop = stops_run false true (Some (assign_token sign)) (assign_ends_flat false sign) in
      record {
        unit = first;
        mid = mid;
        tokens = is;
        more = all_tokens (map said_flat_part parts) ++ assign_token sign
            ∷ (maybe_tokens (option_map said_head h) ++ tokens_of (said_flat value));
        behind = simp append_assoc refl;
        reads_unit =
            rw is (complete_operand false true first mid (left_true _ _ own)
            (next_run_stops false true parts _ (right_true _ _ own) stop));
        goes_on = assign_goes_on lines first parts sign h value rest (right_true _ _ own) oh ov st;
      }) target

  no_head : (h : Head) → begins_head (said_head h).first.kind ≡ false → ⊥
  no_head h e = let is = head_begins h in cc

  pub complete_unit_expr : (lines : Bool) (e : Expr) (rest : Row)
      → (said_expr e).obeys names (allowing lines true) ≡ true
      → expr_stops lines (next_of rest) ≡ true → begins_head (said_expr e).first.kind ≡ false
      → UnitExpr names run lines e rest
  complete_unit_expr lines e rest =
      cases_expr (λ e. (said_expr e).obeys names (allowing lines true) ≡ true
      → expr_stops lines (next_of rest) ≡ true → begins_head (said_expr e).first.kind ≡ false
      → UnitExpr names run lines e rest)
      (λ f ob st b. unit_of_flat lines f rest (rw (says-Flat f) at ob) st)
      (λ target sign h value ob st b. let own = rw (says-Assign target sign h value) at ob in
      unit_of_assign lines target sign h value rest (left_true _ _ own)
      (left_true _ _ (right_true _ _ own)) (right_true _ _ (right_true _ _ own))
      (flat_ends lines (next_of rest) (stops_flat lines (next_of rest) st)))
      (λ h body ob st b. absurd (no_head h (rw (says-Open h body) at b)))
      (λ h target sign value ob st b. absurd
      (no_head h (rw (says-OpenAssign h target sign value) at b))) e

  some_head : (names : Spellings) (allowed : Allowed) (f : Flat)
      → (said_flat f).obeys names allowed ≡ true → begins_head (said_flat f).first.kind ≡ true → ⊥
  some_head names allowed f ob e = let is = flat_not_head names allowed f ob in cc

  pub complete_head_expr : (lines : Bool) (e : Expr) (rest : Row)
      → (said_expr e).obeys names (allowing lines true) ≡ true
      → expr_stops lines (next_of rest) ≡ true → begins_head (said_expr e).first.kind ≡ true
      → HeadExpr names run e rest
  complete_head_expr lines e rest =
      cases_expr (λ e. (said_expr e).obeys names (allowing lines true) ≡ true
      → expr_stops lines (next_of rest) ≡ true → begins_head (said_expr e).first.kind ≡ true
      → HeadExpr names run e rest)
      (λ f ob st b. absurd
      (some_head names (allowing lines true) f (rw (says-Flat f) at ob)
      (rw (says-Flat f) at b)))
      (λ target sign h value ob st b. absurd
      (some_head names elsewhere target
      (left_true _ _ (rw (says-Assign target sign h value) at ob))
      (rw (says-Assign target sign h value) at b)))
      (λ h body ob st b. let own = rw (says-Open h body) at ob in
      let mid : Row = tokens_of (said_flat body) ++ rest in
      let is : tokens_of (said_expr (an_expr.Open h body)) ++ rest
      ≡ tokens_of (said_head h) ++ mid = rw (says-Open h body) (simp append_assoc refl) in
      record {
        start = h;
        mid = mid;
        reads_head = rw is (complete_head h mid (left_true _ _ own));
        goes_on = gets_open h body lines rest (right_true _ _ own) st;
      })
      (λ h target sign value ob st b. let own = rw (says-OpenAssign h target sign value) at ob in
      let mid : Row =
      tokens_of (said_flat target) ++ assign_token sign ∷ (tokens_of (said_flat value) ++ rest)
      in
      let is : tokens_of (said_expr (an_expr.OpenAssign h target sign value)) ++ rest
      ≡ tokens_of (said_head h) ++ mid =
      rw (says-OpenAssign h target sign value) (simp append_assoc refl) in
      record {
        start = h;
        mid = mid;
        reads_head = rw is (complete_head h mid (left_true _ _ own));
        goes_on =
            gets_open_assign h target sign value rest (left_true _ _ (right_true _ _ own))
            (right_true _ _ (right_true _ _ own))
            (flat_ends lines (next_of rest) (stops_flat lines (next_of rest) st));
      }) e

  pub complete_expr : (lines : Bool) (e : Expr) (rest : Row)
      → (said_expr e).obeys names (allowing lines true) ≡ true
      → expr_stops lines (next_of rest) ≡ true
      → Gets Expr ((expr names run lines).parser.run (tokens_of (said_expr e) ++ rest)) e rest
  unfolding expr
  complete_expr lines e rest ob st = bool_cases (begins_head (said_expr e).first.kind) _
      (λ b. let h = complete_head_expr lines e rest ob st b
      in rw (sees_first begins_head (said_expr e).first true b)
      (gets_then _ h.reads_head h.goes_on))
      (λ b. let u = complete_unit_expr lines e rest ob st b
      in rw (sees_first begins_head (said_expr e).first false b)
      (gets_then _ u.reads_unit u.goes_on))

  -- ---- lists of expressions

  complete_next_expr : (x : NextExpr) (rest : Row)
      → (said_next_expr x).obeys names in_brackets ≡ true → expr_stops true (next_of rest) ≡ true
      → Gets NextExpr ((next_expr names run).parser.run (tokens_of (said_next_expr x) ++ rest)) x
      rest
  unfolding next_expr
  complete_next_expr x rest =
      cases_next_expr (λ x. (said_next_expr x).obeys names in_brackets ≡ true
      → expr_stops true (next_of rest) ≡ true
      → Gets NextExpr ((next_expr names run).parser.run (tokens_of (said_next_expr x) ++ rest))
      x rest)
      (λ comma e ob st. let own = rw (says_next_expr comma e) at ob in
      rw (says_next_expr comma e)
      (gets_then _ (gets_mark mark.Comma comma _)
      (gets_then _ (complete_expr true e rest own st) reads))) x

  comma_stops : (s : Spot) → expr_stops true (Some (marked mark.Comma s)) ≡ true
  comma_stops s = mark_ends_expr true mark.Comma s refl refl refl

  close_stops : (s : Spot) → expr_stops true (Some (marked mark.CloseParen s)) ≡ true
  close_stops s = mark_ends_expr true mark.CloseParen s refl refl refl

  next_expr_begins : (x : NextExpr)
      → sees (is_mark mark.Comma) (Some (said_next_expr x).first) ≡ true
  next_expr_begins x =
      rw (next_expr_says x)
      (sees_first (is_mark mark.Comma) (marked mark.Comma (out-NextExpr x).comma) true
      (is_mark_at mark.Comma))

  next_expr_stops : (x : NextExpr) → expr_stops true (Some (said_next_expr x).first) ≡ true
  next_expr_stops x = rw (next_expr_says x) (comma_stops (out-NextExpr x).comma)

  no_comma : (right : Spot)
      → sees (is_mark mark.Comma) (Some (marked mark.CloseParen right)) ≡ false
  unfolding sees is_mark same_mark
  no_comma right = refl

  complete_list : (l : ExprList) (right : Spot) (rest : Row)
      → (said_expr_list l).obeys names in_brackets ≡ true
      → Gets ExprList
      ((expr_list names run).parser.run
      (tokens_of (said_expr_list l) ++ marked mark.CloseParen right ∷ rest)) l
      (marked mark.CloseParen right ∷ rest)
  unfolding expr_list next_exprs
  complete_list l right rest =
      cases_expr_list (λ l. (said_expr_list l).obeys names in_brackets ≡ true
      → Gets ExprList
      ((expr_list names run).parser.run
      (tokens_of (said_expr_list l) ++ marked mark.CloseParen right ∷ rest)) l
      (marked mark.CloseParen right ∷ rest))
      (λ first others ob. let own = rw (says_expr_list first others) at ob in
      let st : expr_stops true (next_of (marked mark.CloseParen right ∷ rest)) ≡ true =
      close_stops right in
      rw (says_expr_list first others) (simp append_assoc
      (gets_then _
      (complete_expr true first _ (left_true _ _ own)
      (next_stops names in_brackets said_next_expr (λ next. expr_stops true next
      ≡ true) (λ x o. next_expr_stops x) others (marked mark.CloseParen right ∷ rest)
      (right_true _ _ own) st))
      (gets_then _
      (gets_list names in_brackets said_next_expr (sees (is_mark mark.Comma))
      (next_expr names run) (λ next. expr_stops true next
      ≡ true) complete_next_expr (λ x o. next_expr_begins x) (λ x o. next_expr_stops x) n
      others (marked mark.CloseParen right ∷ rest) (right_true _ _ own) st (no_comma right))
      reads)))) l

  list_no_close : (l : ExprList) → (said_expr_list l).obeys names in_brackets ≡ true
      → is_mark mark.CloseParen (said_expr_list l).first.kind ≡ false
  list_no_close l ob = let own = rw (expr_list_says l) at ob in
      rw (expr_list_says l)
      (not_mark begins_expr mark.CloseParen close_no_expr
      (said_expr (out-ExprList l).first).first.kind
      (expr_begins names true (out-ExprList l).first (left_true _ _ own)))

  pub complete_maybe_list : (l : Option ExprList) (right : Spot) (rest : Row)
      → maybe_obeys names in_brackets (option_map said_expr_list l) ≡ true
      → Gets (Option ExprList)
      ((maybe_list names run).run
      (maybe_tokens (option_map said_expr_list l) ++ marked mark.CloseParen right ∷ rest)) l
      (marked mark.CloseParen right ∷ rest)
  unfolding maybe_list
  complete_maybe_list None right rest ob =
      rw (sees_first (is_mark mark.CloseParen) (marked mark.CloseParen right) true
      (is_mark_at mark.CloseParen)) reads
  complete_maybe_list (Some l) right rest ob =
      rw (sees_first (is_mark mark.CloseParen) (said_expr_list l).first false (list_no_close l ob))
      (gets_then _ (complete_list l right rest ob) reads)

-- a parser of runs that keeps its laws makes parsers of expressions that keep theirs
pub flat_laws : (names : Spellings) {n : ℕ} (run : Bool → Eater Run n) → RunLaws names run
    → FlatLaws names run
flat_laws names run laws = record {
  sound_operand = sound_operand names run laws;
  sound_flat = sound_flat names run laws;
  sound_generator = sound_generator names run laws;
  sound_head = sound_head names run laws;
  sound_opened = sound_opened names run laws;
  sound_expr_from = sound_expr_from names run laws;
  sound_expr = sound_expr names run laws;
  sound_maybe_list = sound_maybe_list names run laws;
  complete_operand = complete_operand names run laws;
  complete_flat = complete_flat names run laws;
  complete_generator = complete_generator names run laws;
  complete_head = complete_head names run laws;
  complete_expr = complete_expr names run laws;
  complete_unit_expr = complete_unit_expr names run laws;
  complete_head_expr = complete_head_expr names run laws;
  complete_maybe_list = complete_maybe_list names run laws;
}
