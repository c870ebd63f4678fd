-- The tokens of each atom and run are read as it, where what follows them does not continue it.
use Rattle.std.proofs.Common.{◌≡◌, ℕ, zero, suc, Bool, true, false, List, [], ◌∷◌, ◌++◌, append_assoc, Option, Some, None, refl, ◌∙◌}
use Rattle.std.specs.Prelude.{map, ◌&&◌, ◌||◌}
use Rattle.fort_lex_token.specs.declared.token.Kind.{Kind}
use Rattle.fort_lex_token.specs.declared.token.Kind.TheVariants as kind
use Rattle.fort_lex_token.specs.declared.token.Token.{Token}
use Rattle.fort_lex_token.specs.declared.marks.Mark.TheVariants as mark
use Rattle.fort_lex_token.specs.declared.reserved.Reserved.TheVariants as reserved
use Rattle.fort_tree.specs.declared.spot.Spot.{Spot}
use Rattle.fort_tree.specs.declared.spot.Name.{Name}
use Rattle.fort_tree.specs.declared.expr.Atom.{Atom}
use Rattle.fort_tree.specs.declared.expr.Atom.TheVariants as an_atom
use Rattle.fort_tree.specs.declared.expr.Expr.{Expr}
use Rattle.fort_tree.specs.declared.expr.FillSpots.{FillSpots}
use Rattle.fort_tree.specs.declared.expr.Postfix.{Postfix}
use Rattle.fort_tree.specs.declared.expr.RunPart.{RunPart}
use Rattle.fort_tree.specs.declared.expr.Run.{Run}
use Rattle.fort_tree.specs.declared.delimited.Delimited.{Delimited}
use Rattle.fort_tree.specs.declared.types.TypeTree.{TypeTree}
use Rattle.std.specs.Prelude.{codes}
use Rattle.fort_tree.specs.Tokens.{Spellings, token, marked, word, named, is_empty, is_open_paren, is_spelled}
use Rattle.fort_tree.specs.Said.{Said, tokens_of, all_tokens, all_obey, elsewhere, in_brackets}
use Rattle.fort_tree.specs.Types.{said_type}
use Rattle.fort_tree.specs.Flats.{is_field, calls_are_whole}
use Rattle.fort_tree.specs.Yield.{said_atom, said_delimited, said_expr, said_postfix, said_run_part, said_run}
use Rattle.fort_tree.proofs.CasesFlats.{cases_atom, cases_postfix, cases_run_part, cases_run}
use Rattle.fort_tree.proofs.CasesBlocks.{cases_delimited}
use Rattle.fort_tree.proofs.SaysFlats.{says_run, says-Atom, says-Postfix, says-Subscript, says-Power, says-Field, says-Call, says-Name, says-Number, says-Text, says-True, says-False, says-Self_, says-Parens, says-Delimited, says-ArrayFill}
use Rattle.fort_tree.proofs.SaysBlocks.{says-Do, says-If, says-While, says-For, says-Case, says-Typecase, says-Try}
use Rattle.fort_parse_reading.specs.Parser.{Row, next_of, many_run, Eater}
use Rattle.fort_parse_reading.specs.Words.{is_mark, same_mark, is_called, sees, sees_tight}
use Rattle.fort_parse_reading.proofs.Laws.{Gets, reads, ends, gets_then, gets_accept}
use Rattle.fort_parse_reading.proofs.Taking.{gets_mark, gets_word, gets_power, gets_tight_mark, gets_tight_name, gets_tight_called, is_mark_at}
use Rattle.fort_parse_reading.proofs.Yields.{left_true, right_true, true_right, false_right, is_not, not_true, all_after}
use Rattle.fort_parse_types.proofs.Complete.{complete_type_tree, type_stops, type_stops_at}
use Rattle.fort_parse_first.specs.Beginnings.{begins_atom, begins_postfix, begins_run_part, is_next_tight}
use Rattle.fort_parse.specs.Runs.{literal_of, parens, fill_value, fill_size, array_fill, form_atom, do_atom, atom_for, atom, subscript, tight_atom, method_call, dotted, postfix, run_part, run_parts, run_level}
use Rattle.fort_parse.proofs.Statements.{allowing, RunLaws, FlatLaws, FormLaws}
use Rattle.fort_parse.proofs.Firsts.{atom_begins, atom_not_postfix}
use Rattle.fort_parse.proofs.Stops.{mark_ends_expr}
use Rattle.fort_parse.proofs.RunSound.{paren_same, sound_level}

literal_name : (n : Name) → literal_of (named n) ≡ Some (an_atom.Name n)
unfolding literal_of
literal_name n = refl

literal_number : (v : ℕ) (s : Spot)
    → literal_of (token (kind.Number v) s) ≡ Some (an_atom.Number v s)
unfolding literal_of
literal_number v s = refl

literal_text : (v : ℕ) (s : Spot) → literal_of (token (kind.Text v) s) ≡ Some (an_atom.Text v s)
unfolding literal_of
literal_text v s = refl

literal_true : (s : Spot) → literal_of (word reserved.True s) ≡ Some (an_atom.True s)
unfolding literal_of
literal_true s = refl

literal_false : (s : Spot) → literal_of (word reserved.False s) ≡ Some (an_atom.False s)
unfolding literal_of
literal_false s = refl

literal_self : (s : Spot) → literal_of (word reserved.Self_ s) ≡ Some (an_atom.Self_ s)
unfolding literal_of
literal_self s = refl

called_fill : (names : Spellings) (fill : Name) → is_spelled "fill" names fill ≡ true
    → is_called (codes "fill") names fill ≡ true
unfolding is_called
called_fill names fill e = e

type_ends : (s : Spot) → type_stops (Some (marked mark.CloseStatic s)) ≡ true
unfolding is_mark same_mark
type_ends s = type_stops_at (marked mark.CloseStatic s) refl refl

four : (a b c d : Bool) → (a && (b && (c && d))) ≡ true
    → (a ≡ true) × (b ≡ true) × (c ≡ true) × (d ≡ true)
four true true true true e = (refl, refl, refl, refl)
four false b c d e = absurd cc
four true false c d e = absurd cc
four true true false d e = absurd cc
four true true true false e = absurd cc

five : (a b c d f : Bool) → (a && (b && (c && (d && f)))) ≡ true
    → (a ≡ true) × (b ≡ true) × (c ≡ true) × (d ≡ true) × (f ≡ true)
five true b c d f e = let h = four b c d f e in (refl, h.0, h.1, h.2, h.3)
five false b c d f e = absurd cc

call_begins : (left : Spot) → is_empty left.gap ≡ true
    → sees_tight (is_mark mark.OpenParen) (Some (marked mark.OpenParen left)) ≡ true
unfolding sees_tight
call_begins left e = rw (e, is_mark_at mark.OpenParen) refl

sees_at : (f : Kind → Bool) (t : Token) (b : Bool) → f t.kind ≡ b → sees f (Some t) ≡ b
unfolding sees
sees_at f t b e = e

next_tight : (t : Token) → is_empty t.gap ≡ true → is_next_tight (Some t) ≡ true
unfolding is_next_tight
next_tight t e = e

-- a token that begins no part of a run is no `(` without a gap
tight_paren_begins : (blocks : Bool) (k : Kind) → is_mark mark.OpenParen k ≡ true
    → begins_atom blocks k ≡ true
unfolding is_mark begins_atom same_mark
tight_paren_begins blocks (kind.Mark mark.OpenParen) e = refl
tight_paren_begins blocks (kind.Mark _) e = absurd cc
tight_paren_begins blocks (kind.Word v) e = absurd cc
tight_paren_begins blocks (kind.Name v) e = absurd cc
tight_paren_begins blocks (kind.Number v) e = absurd cc
tight_paren_begins blocks (kind.Text v) e = absurd cc
tight_paren_begins blocks (kind.Op v) e = absurd cc

and_true : (a b : Bool) → a ≡ true → b ≡ true → (a && b) ≡ true
and_true a b e f = rw (e, f) refl

no_tight_paren : (blocks : Bool) (next : Option Token) → begins_run_part blocks next ≡ false
    → sees_tight (is_mark mark.OpenParen) next ≡ false
unfolding begins_run_part sees_tight
no_tight_paren blocks None e = refl
no_tight_paren blocks (Some t) e = not_true _ (λ h.
    let atom = tight_paren_begins blocks t.kind (right_true _ _ h) in
    let gap : is_empty t.gap ≡ true = left_true _ _ h in
    let some : (is_empty t.gap && (begins_atom blocks t.kind || begins_postfix t.kind)) ≡ true =
    rw (gap, atom) refl in
    absurd cc)

-- where the rules on calls hold, what directly follows a dotted name is no `(`
paren_after : (x y : Said) (ys : List Said) → calls_are_whole (x ∷ y ∷ ys) ≡ true
    → (is_field x && sees_tight (is_mark mark.OpenParen) (Some y.first)) ≡ false
unfolding sees_tight
paren_after x y ys e =
    let none : (is_field x && is_open_paren y.first.kind) ≡ false = is_not _ (left_true _ _ e) in
    let same = paren_same y.first.kind in
    not_true _ (λ h. let k : (is_field x && is_open_paren y.first.kind) ≡ true =
    and_true _ _ (left_true _ _ h) (same ∙ right_true _ _ (right_true _ _ h)) in absurd cc)

begins_part : (blocks : Bool) (t : Token) → is_empty t.gap ≡ true → begins_atom blocks t.kind ≡ true
    → begins_run_part blocks (Some t) ≡ true
unfolding begins_run_part
begins_part blocks t e f = rw (e, f) refl

begins_part_postfix : (blocks : Bool) (t : Token) → is_empty t.gap ≡ true
    → begins_postfix t.kind ≡ true → begins_run_part blocks (Some t) ≡ true
unfolding begins_run_part
begins_part_postfix blocks t e f = rw (e, f) (true_right (begins_atom blocks t.kind))

postfix_begins : (p : Postfix) → begins_postfix (said_postfix p).first.kind ≡ true
unfolding begins_postfix
postfix_begins = cases_postfix (λ p. begins_postfix (said_postfix p).first.kind ≡ true)
    (λ left i right. rw (says-Subscript left i right) refl) (λ p e. rw (says-Power p e) refl)
    (λ d w. rw (says-Field d w) refl) (λ d w left l right. rw (says-Call d w left l right) refl)

module _ (names : Spellings) {n : ℕ} (run : Bool → Eater Run n) (flats : FlatLaws names run)
    (forms : FormLaws names run) where
  complete_array : (spots : FillSpots) (element : TypeTree) (size value : Expr) (rest : Row)
      → is_empty spots.left.gap ≡ true → is_empty spots.size_left.gap ≡ true
      → is_empty spots.dot.gap ≡ true → is_empty spots.fill.spot.gap ≡ true
      → is_empty spots.value_left.gap ≡ true → is_spelled "fill" names spots.fill ≡ true
      → (said_type element).obeys names elsewhere ≡ true
      → (said_expr size).obeys names in_brackets ≡ true
      → (said_expr value).obeys names in_brackets ≡ true
      → Gets Atom
      ((array_fill names run spots.array).run
      (marked mark.OpenStatic spots.left
      ∷ (tokens_of (said_type element) ++ marked mark.CloseStatic spots.right
      ∷ marked mark.OpenParen spots.size_left
      ∷ (tokens_of (said_expr size) ++ marked mark.CloseParen spots.size_right
      ∷ marked mark.Dot spots.dot ∷ named spots.fill ∷ marked mark.OpenParen spots.value_left
      ∷ (tokens_of (said_expr value) ++ marked mark.CloseParen spots.value_right ∷ rest)))))
      (an_atom.ArrayFill spots element size value) rest
  unfolding array_fill fill_size fill_value
  complete_array spots element size value rest g1 g2 g3 g4 g5 sp oe os ov =
      gets_then _ (gets_tight_mark mark.OpenStatic spots.left _ g1)
      (gets_then _ (complete_type_tree names n element _ oe (type_ends spots.right))
      (gets_then _ (gets_mark mark.CloseStatic spots.right _)
      (gets_then _ (gets_tight_mark mark.OpenParen spots.size_left _ g2)
      (gets_then _
      (flats.complete_expr true size _ os
      (mark_ends_expr true mark.CloseParen spots.size_right refl refl refl))
      (gets_then _ (gets_mark mark.CloseParen spots.size_right _)
      (gets_then _ (gets_tight_mark mark.Dot spots.dot _ g3)
      (gets_then _
      (gets_tight_called (codes "fill") names spots.fill _ g4
      (called_fill names spots.fill sp))
      (gets_then _ (gets_tight_mark mark.OpenParen spots.value_left _ g5)
      (gets_then _
      (flats.complete_expr true value _ ov
      (mark_ends_expr true mark.CloseParen spots.value_right refl refl refl))
      (gets_then _ (gets_mark mark.CloseParen spots.value_right rest) reads))))))))))

  do_is_form : (blocks : Bool) (ts : Row) → blocks ≡ true
      → (do_atom names run blocks).parser.run ts ≡ (form_atom names run).parser.run ts
  do_is_form true ts e = refl
  do_is_form false ts e = absurd cc

  -- a form that ends with `end` is read as an atom
  form_is_atom : (lines blocks : Bool) (d : Delimited) (ts : Row)
      → (said_delimited d).obeys names (allowing lines blocks) ≡ true
      → (atom_for names run blocks (said_delimited d).first.kind).parser.run ts
      ≡ (form_atom names run).parser.run ts
  form_is_atom lines blocks d ts =
      cases_delimited (λ d. (said_delimited d).obeys names (allowing lines blocks) ≡ true
      → (atom_for names run blocks (said_delimited d).first.kind).parser.run ts
      ≡ (form_atom names run).parser.run ts)
      (λ at b others end ob. let own = rw (says-Do at b others end) at ob
      in rw (says-Do at b others end) (do_is_form blocks ts (left_true _ _ own)))
      (λ at c then b others o end ob. rw (says-If at c then b others o end) refl)
      (λ at c d b end ob. rw (says-While at c d b end) refl)
      (λ at g others d b end ob. rw (says-For at g others d b end) refl)
      (λ at s of c o end ob. rw (says-Case at s of c o end) refl)
      (λ at n e s of c o end ob. rw (says-Typecase at n e s of c o end) refl)
      (λ at b c f end ob. rw (says-Try at b c f end) refl) d

  pub complete_atom : (lines blocks : Bool) (a : Atom) (rest : Row)
      → (said_atom a).obeys names (allowing lines blocks) ≡ true
      → Gets Atom ((atom names run blocks).parser.run (tokens_of (said_atom a) ++ rest)) a rest
  unfolding atom parens
  complete_atom lines blocks a rest =
      cases_atom (λ a. (said_atom a).obeys names (allowing lines blocks) ≡ true
      → Gets Atom ((atom names run blocks).parser.run (tokens_of (said_atom a) ++ rest)) a rest)
      (λ w ob. rw (says-Name w)
      (gets_accept literal_of (named w) rest (an_atom.Name w) (literal_name w)))
      (λ v s ob. rw (says-Number v s)
      (gets_accept literal_of (token (kind.Number v) s) rest (an_atom.Number v s)
      (literal_number v s)))
      (λ v s ob. rw (says-Text v s)
      (gets_accept literal_of (token (kind.Text v) s) rest (an_atom.Text v s)
      (literal_text v s)))
      (λ s ob. rw (says-True s)
      (gets_accept literal_of (word reserved.True s) rest (an_atom.True s)
      (literal_true s)))
      (λ s ob. rw (says-False s)
      (gets_accept literal_of (word reserved.False s) rest (an_atom.False s)
      (literal_false s)))
      (λ s ob. rw (says-Self_ s)
      (gets_accept literal_of (word reserved.Self_ s) rest (an_atom.Self_ s)
      (literal_self s)))
      (λ left c right ob. let own = rw (says-Parens left c right) at ob in
      rw (says-Parens left c right)
      (simp append_assoc
      (gets_then _ (gets_mark mark.OpenParen left _)
      (gets_then _ (flats.complete_maybe_list c right rest own)
      (gets_then _ (gets_mark mark.CloseParen right rest) reads)))))
      (λ d ob. let own = rw (says-Delimited d) at ob in
      rw (says-Delimited d, form_is_atom lines blocks d (tokens_of (said_delimited d) ++ rest) own)
      (gets_then _ (forms.complete_delimited lines blocks d rest own) reads))
      (λ spots element size value ob.
      let own = rw (says-ArrayFill spots element size value) at ob in
      let gaps =
      five (is_empty spots.left.gap) (is_empty spots.size_left.gap) (is_empty spots.dot.gap)
      (is_empty spots.fill.spot.gap) (is_empty spots.value_left.gap) (left_true _ _ own) in
      let parts =
      four (is_spelled "fill" names spots.fill) ((said_type element).obeys names elsewhere)
      ((said_expr size).obeys names in_brackets) ((said_expr value).obeys names in_brackets)
      (right_true _ _ own) in
      rw (says-ArrayFill spots element size value)
      (simp append_assoc (gets_then _ (gets_word reserved.Array spots.array _)
      (complete_array spots element size value rest gaps.0 gaps.1 gaps.2 gaps.3 gaps.4 parts.0
      parts.1 parts.2 parts.3)))) a

  complete_postfix : (lines blocks : Bool) (p : Postfix) (rest : Row)
      → (said_postfix p).obeys names (allowing lines blocks) ≡ true
      → (is_field (said_postfix p) && sees_tight (is_mark mark.OpenParen) (next_of rest)) ≡ false
      → Gets Postfix ((postfix names run blocks).parser.run (tokens_of (said_postfix p) ++ rest)) p
      rest
  unfolding postfix subscript tight_atom dotted method_call
  complete_postfix lines blocks p rest =
      cases_postfix (λ p. (said_postfix p).obeys names (allowing lines blocks) ≡ true
      → (is_field (said_postfix p) && sees_tight (is_mark mark.OpenParen) (next_of rest)) ≡ false
      → Gets Postfix ((postfix names run blocks).parser.run (tokens_of (said_postfix p) ++ rest)) p
      rest)
      (λ left i right ob f. let own = rw (says-Subscript left i right) at ob in
      rw (says-Subscript left i right)
      (simp append_assoc
      (gets_then _ (gets_mark mark.OpenBracket left _)
      (gets_then _
      (flats.complete_expr true i _ own
      (mark_ends_expr true mark.CloseBracket right refl refl refl))
      (gets_then _ (gets_mark mark.CloseBracket right rest) reads)))))
      (λ p e ob f. let own = rw (says-Power p e) at ob in
      rw (says-Power p e)
      (gets_then _ (gets_power p _)
      (rw (next_tight (said_atom e).first (left_true _ _ own))
      (gets_then _ (complete_atom lines blocks e rest (right_true _ _ own)) reads))))
      (λ d w ob f. let own = rw (says-Field d w) at ob in let none = rw (says-Field d w) at f in
      rw (says-Field d w)
      (gets_then _ (gets_mark mark.Dot d _)
      (gets_then _ (gets_tight_name w _ own) (rw none reads))))
      (λ d w left l right ob f. let own = rw (says-Call d w left l right) at ob in
      let g = left_true _ _ (right_true _ _ own) in
      rw (says-Call d w left l right)
      (simp append_assoc
      (gets_then _ (gets_mark mark.Dot d _)
      (gets_then _ (gets_tight_name w _ (left_true _ _ own))
      (rw (call_begins left g)
      (gets_then _ (gets_tight_mark mark.OpenParen left _ g)
      (gets_then _
      (flats.complete_maybe_list l right rest (right_true _ _ (right_true _ _ own)))
      (gets_then _ (gets_mark mark.CloseParen right rest) reads)))))))) p

  complete_run_part : (lines blocks : Bool) (p : RunPart) (rest : Row)
      → (said_run_part p).obeys names (allowing lines blocks) ≡ true
      → (is_field (said_run_part p) && sees_tight (is_mark mark.OpenParen) (next_of rest)) ≡ false
      → Gets RunPart ((run_part names run blocks).parser.run (tokens_of (said_run_part p) ++ rest))
      p rest
  unfolding run_part
  complete_run_part lines blocks p rest =
      cases_run_part (λ p. (said_run_part p).obeys names (allowing lines blocks) ≡ true
      → (is_field (said_run_part p) && sees_tight (is_mark mark.OpenParen) (next_of rest)) ≡ false
      → Gets RunPart ((run_part names run blocks).parser.run (tokens_of (said_run_part p) ++ rest))
      p rest)
      (λ a ob f. let own = rw (says-Atom a) at ob in
      let inner : (said_atom a).obeys names (allowing lines blocks) ≡ true = right_true _ _ own in
      rw (
        says-Atom a,
        sees_at begins_postfix (said_atom a).first false
            (atom_not_postfix blocks (said_atom a).first.kind
            (atom_begins names (allowing lines blocks) a inner)),
      )
      (gets_then _ (complete_atom lines blocks a rest inner) reads))
      (λ p ob f. let own = rw (says-Postfix p) at ob in let g = rw (says-Postfix p) at f in
      rw (says-Postfix p, sees_at begins_postfix (said_postfix p).first true (postfix_begins p))
      (gets_then _ (complete_postfix lines blocks p rest (right_true _ _ own) g) reads)) p

  run_part_begins : (lines blocks : Bool) (p : RunPart)
      → (said_run_part p).obeys names (allowing lines blocks) ≡ true
      → begins_run_part blocks (Some (said_run_part p).first) ≡ true
  run_part_begins lines blocks =
      cases_run_part (λ p. (said_run_part p).obeys names (allowing lines blocks) ≡ true
      → begins_run_part blocks (Some (said_run_part p).first) ≡ true)
      (λ a ob. let own = rw (says-Atom a) at ob
      in rw (says-Atom a)
      (begins_part blocks (said_atom a).first (left_true _ _ own)
      (atom_begins names (allowing lines blocks) a (right_true _ _ own))))
      (λ p ob. let own = rw (says-Postfix p) at ob
      in rw (says-Postfix p)
      (begins_part_postfix blocks (said_postfix p).first (left_true _ _ own)
      (postfix_begins p)))

  field_stops : (blocks : Bool) (x : Said) (xs : List RunPart) (rest : Row)
      → calls_are_whole (x ∷ map said_run_part xs) ≡ true
      → begins_run_part blocks (next_of rest) ≡ false
      → (is_field x
      && sees_tight (is_mark mark.OpenParen)
      (next_of (all_tokens (map said_run_part xs) ++ rest))) ≡ false
  field_stops blocks x [] rest e st =
      rw (no_tight_paren blocks (next_of rest) st) (false_right (is_field x))
  field_stops blocks x (y ∷ ys) rest e st = paren_after x (said_run_part y) (map said_run_part ys) e

  gets_run_parts : (lines blocks : Bool) (turns : ℕ) (xs : List RunPart) (rest : Row)
      → all_obey names (allowing lines blocks) (map said_run_part xs) ≡ true
      → calls_are_whole (map said_run_part xs) ≡ true
      → begins_run_part blocks (next_of rest) ≡ false
      → Gets (List RunPart)
      (many_run (λ state. begins_run_part blocks) (λ state x. state)
      (λ state. run_part names run blocks) turns true
      (all_tokens (map said_run_part xs) ++ rest)) xs rest
  gets_run_parts lines blocks zero xs rest ob wh st = ends
  gets_run_parts lines blocks (suc turns) [] rest ob wh st = rw st reads
  gets_run_parts lines blocks (suc turns) (x ∷ xs) rest ob wh st =
      let own = left_true _ _ ob in
      rw (
        all_after (said_run_part x) (map said_run_part xs) rest,
        run_part_begins lines blocks x own,
      )
      (gets_then _
      (complete_run_part lines blocks x (all_tokens (map said_run_part xs) ++ rest) own
      (field_stops blocks (said_run_part x) xs rest wh st))
      (gets_then _
      (gets_run_parts lines blocks turns xs rest (right_true _ _ ob) (right_true _ _ wh) st)
      reads))

  pub complete_level : (lines blocks : Bool) (r : Run) (rest : Row)
      → (said_run r).obeys names (allowing lines blocks) ≡ true
      → begins_run_part blocks (next_of rest) ≡ false
      → Gets Run ((run_level names run blocks).parser.run (tokens_of (said_run r) ++ rest)) r rest
  unfolding run_level run_parts
  complete_level lines blocks r rest =
      cases_run (λ r. (said_run r).obeys names (allowing lines blocks) ≡ true
      → begins_run_part blocks (next_of rest) ≡ false
      → Gets Run ((run_level names run blocks).parser.run (tokens_of (said_run r) ++ rest)) r
      rest)
      (λ first parts ob st. let own = rw (says_run first parts) at ob in
      let others = right_true _ _ own in
      rw (says_run first parts)
      (simp append_assoc
      (gets_then _ (complete_atom lines blocks first _ (left_true _ _ own))
      (gets_then _
      (gets_run_parts lines blocks n parts rest (left_true _ _ others)
      (right_true _ _ others) st) reads)))) r

-- where expressions and forms keep their laws over a parser of runs, runs keep theirs one level up
pub level_laws : (names : Spellings) {n : ℕ} (run : Bool → Eater Run n) → FlatLaws names run
    → FormLaws names run → RunLaws names (run_level names run)
level_laws names run flats forms =
    record {
      sound = sound_level names run flats forms;
      complete = complete_level names run flats forms;
    }
