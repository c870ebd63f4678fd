-- What the productions of atoms and runs read is the tokens of the trees that they answer, and the
-- rules hold in these.
use Rattle.std.proofs.Common.{◌≡◌, ℕ, Bool, true, false, List, [], ◌∷◌, ◌++◌, append_assoc, Some, None, refl, sym, ap, subst, ◌∙◌}
use Rattle.std.specs.Prelude.{map, ◌&&◌, not}
use Rattle.fort_ops.specs.declared.op.Op.TheVariants as op
use Rattle.fort_lex_token.specs.declared.token.Kind.{Kind}
use Rattle.fort_lex_token.specs.declared.token.Kind.TheVariants as kind
use Rattle.fort_lex_token.specs.declared.token.Token.{Token}
use Rattle.fort_lex_token.specs.declared.marks.Mark.{Mark}
use Rattle.fort_lex_token.specs.declared.marks.Mark.TheVariants as mark
use Rattle.fort_lex_token.specs.declared.reserved.Reserved.{Reserved}
use Rattle.fort_lex_token.specs.declared.reserved.Reserved.TheVariants as reserved
use Rattle.fort_tree.specs.declared.spot.Spot.{Spot}
use Rattle.fort_tree.specs.declared.spot.Name.{Name}
use Rattle.fort_tree.specs.declared.expr.Atom.{Atom}
use Rattle.fort_tree.specs.declared.expr.Atom.TheVariants as an_atom
use Rattle.fort_tree.specs.declared.expr.Expr.{Expr}
use Rattle.fort_tree.specs.declared.expr.Postfix.{Postfix}
use Rattle.fort_tree.specs.declared.expr.Postfix.TheVariants as a_postfix
use Rattle.fort_tree.specs.declared.expr.RunPart.{RunPart}
use Rattle.fort_tree.specs.declared.expr.RunPart.TheVariants as a_run_part
use Rattle.fort_tree.specs.declared.expr.Run.{Run}
use Rattle.fort_tree.specs.declared.types.TypeTree.{TypeTree}
use Rattle.fort_tree.specs.Tokens.{Spellings, token, marked, word, named, operator, is_empty, is_dot, is_open_paren}
use Rattle.fort_tree.specs.Said.{Said, Allowed, tokens_of, all_tokens, all_obey, gap_of, elsewhere, in_brackets}
use Rattle.fort_tree.specs.Types.{said_type}
use Rattle.fort_tree.specs.Flats.{alone, is_field, begins_with_paren, calls_are_whole}
use Rattle.fort_tree.specs.Yield.{said_atom, said_expr, said_run_part, said_run}
use Rattle.fort_tree.proofs.SaysFlats.{says_run, says-Atom, says-Postfix, says-Subscript, says-Power, says-Field, says-Call, says-Name, says-Number, says-Text, says-True, says-False, says-Self_, says-Parens, says-Delimited, says-ArrayFill}
use Rattle.fort_parse_reading.specs.Parser.{Row, accept_run, next_of, Eater}
use Rattle.fort_parse_reading.specs.Words.{is_mark, same_mark, is_called, spot_of, sees, sees_tight}
use Rattle.fort_parse_reading.proofs.Laws.{Only, only_read, only_failed, only_then, only_if, only_many, only_more, only_accept}
use Rattle.fort_parse_reading.proofs.Taking.{only_mark, only_word, only_power, only_tight_mark, only_tight_name, only_tight_called}
use Rattle.fort_parse_reading.proofs.Yields.{both, left_true, false_right, all_after}
use Rattle.fort_parse_types.proofs.Sound.{sound_type_tree}
use Rattle.fort_parse_first.specs.Beginnings.{begins_atom, begins_postfix, begins_run_part, is_next_tight}
use Rattle.fort_parse.specs.Runs.{word_literal, literal_in, literal_of, parens, fill_value, fill_size, array_fill, form_atom, do_atom, word_atom, mark_atom, atom_for, atom, subscript, tight_atom, method_call, dotted, mark_postfix, postfix_for, postfix, run_part, run_parts, run_level}
use Rattle.fort_parse.proofs.Statements.{allowing, YieldsUnit, FlatLaws, FormLaws}
use Rattle.fort_parse.proofs.Firsts.{atom_begins}

-- ---- atoms of one token

word_is : (s : Spot) (w : Reserved) (a : Atom) → word_literal s w ≡ Some a
    → said_atom a ≡ alone (word w s)
word_is s reserved.True a e =
    let is : an_atom.True s ≡ a = cc
    in subst (λ x. said_atom x ≡ alone (word reserved.True s)) is (says-True s)
word_is s reserved.False a e =
    let is : an_atom.False s ≡ a = cc
    in subst (λ x. said_atom x ≡ alone (word reserved.False s)) is (says-False s)
word_is s reserved.Self_ a e =
    let is : an_atom.Self_ s ≡ a = cc
    in subst (λ x. said_atom x ≡ alone (word reserved.Self_ s)) is (says-Self_ s)
word_is s _ a e = absurd cc

literal_by : (k : Kind) (s : Spot) (a : Atom) → literal_in s k ≡ Some a
    → said_atom a ≡ alone (token k s)
literal_by (kind.Word w) s a e = word_is s w a e
literal_by (kind.Name v) s a e =
    let is : an_atom.Name (record { id = v; spot = s }) ≡ a = cc
    in subst (λ x. said_atom x
    ≡ alone (token (kind.Name v) s)) is (says-Name (record { id = v; spot = s }))
literal_by (kind.Number v) s a e =
    let is : an_atom.Number v s ≡ a = cc
    in subst (λ x. said_atom x ≡ alone (token (kind.Number v) s)) is (says-Number v s)
literal_by (kind.Text v) s a e =
    let is : an_atom.Text v s ≡ a = cc
    in subst (λ x. said_atom x ≡ alone (token (kind.Text v) s)) is (says-Text v s)
literal_by (kind.Op v) s a e = absurd cc
literal_by (kind.Mark v) s a e = absurd cc

literal_is : (t : Token) (a : Atom) → literal_of t ≡ Some a → said_atom a ≡ alone t
unfolding literal_of
literal_is t a e = literal_by t.kind (spot_of t) a e

sound_literal : (names : Spellings) (blocks : Bool) (ts : Row)
    → Only Atom (accept_run literal_of ts) (λ a rest. YieldsUnit names (said_atom a) blocks ts rest)
sound_literal names blocks ts =
    only_more _ _ _ (only_accept literal_of ts)
    (λ a rest h. rw (literal_is h.0 a h.2) (record { tokens = h.1; obeys = λ lines. refl }))

-- ---- parts of runs

-- ts is the tokens of the part and then rest, no gap stands before it, the rules hold in it, and no
-- `(` directly follows a dotted name
pub record YieldsRunPart (names : Spellings) (x : Said) (blocks : Bool)
    (ts rest : List Token) : Type 0 where
  pub tokens : ts ≡ tokens_of x ++ rest
  pub obeys : (lines : Bool) → x.obeys names (allowing lines blocks) ≡ true
  pub tight : is_empty (gap_of x) ≡ true
  pub field : (is_field x && sees_tight (is_mark mark.OpenParen) (next_of rest)) ≡ false

-- whether no gap stands before the first of these
abbrev starts_tight : List Said → Bool
starts_tight [] = true
starts_tight (x ∷ xs) = is_empty (gap_of x)

-- the same of several parts
record YieldsRunParts (names : Spellings) (xs : List Said) (blocks : Bool)
    (ts rest : List Token) : Type 0 where
  pub tokens : ts ≡ all_tokens xs ++ rest
  pub obeys : (lines : Bool) → all_obey names (allowing lines blocks) xs ≡ true
  pub whole : calls_are_whole xs ≡ true
  pub tight : starts_tight xs ≡ true

mark_paren : (m : Mark) → is_open_paren (kind.Mark m) ≡ same_mark m mark.OpenParen
unfolding same_mark
mark_paren mark.OpenStatic = refl
mark_paren mark.CloseStatic = refl
mark_paren mark.LeftArrow = refl
mark_paren mark.RightArrow = refl
mark_paren mark.DoubleArrow = refl
mark_paren mark.Becomes = refl
mark_paren mark.AddBecomes = refl
mark_paren mark.SubtractBecomes = refl
mark_paren mark.OpenParen = refl
mark_paren mark.CloseParen = refl
mark_paren mark.OpenBracket = refl
mark_paren mark.CloseBracket = refl
mark_paren mark.OpenBrace = refl
mark_paren mark.CloseBrace = refl
mark_paren mark.Comma = refl
mark_paren mark.Semicolon = refl
mark_paren mark.Dot = refl

pub paren_same : (k : Kind) → is_open_paren k ≡ is_mark mark.OpenParen k
unfolding is_mark
paren_same (kind.Mark m) = mark_paren m
paren_same (kind.Word v) = refl
paren_same (kind.Name v) = refl
paren_same (kind.Number v) = refl
paren_same (kind.Text v) = refl
paren_same (kind.Op v) = refl

tight_paren : (t : Token) → is_empty t.gap ≡ true
    → sees_tight (is_mark mark.OpenParen) (Some t) ≡ is_open_paren t.kind
unfolding sees_tight
tight_paren t e = rw (e, paren_same t.kind) refl

is_false : (b : Bool) → b ≡ false → not b ≡ true
is_false b e = rw e refl

whole_call : (x : Said) (xs : List Said) (mid rest : Row)
    → (is_field x && sees_tight (is_mark mark.OpenParen) (next_of mid)) ≡ false
    → mid ≡ all_tokens xs ++ rest → starts_tight xs ≡ true
    → (is_field x && begins_with_paren xs) ≡ false
whole_call x [] mid rest e is t = false_right (is_field x)
whole_call x (y ∷ ys) mid rest e is t = let h = rw (is, tight_paren y.first t) at e in h

more_run_parts : (names : Spellings) (x : Said) (xs : List Said) (blocks : Bool) (ts mid rest : Row)
    → YieldsRunPart names x blocks ts mid → YieldsRunParts names xs blocks mid rest
    → YieldsRunParts names (x ∷ xs) blocks ts rest
more_run_parts names x xs blocks ts mid rest h k = record {
  tokens = h.tokens ∙ ap (λ (u : Row). tokens_of x ++ u) k.tokens ∙ sym (all_after x xs rest);
  obeys = λ lines. both _ _ (h.obeys lines) (k.obeys lines);
  whole = both _ _ (is_false _ (whole_call x xs mid rest h.field k.tokens k.tight)) k.whole;
  tight = h.tight;
}

mark_no_dot : (m : Mark) → begins_atom true (kind.Mark m) ≡ true → is_dot (kind.Mark m) ≡ false
unfolding begins_atom
mark_no_dot mark.OpenParen e = refl
mark_no_dot _ e = absurd cc

atom_no_dot : (blocks : Bool) (k : Kind) → begins_atom blocks k ≡ true → is_dot k ≡ false
unfolding begins_atom
atom_no_dot blocks (kind.Word w) e = refl
atom_no_dot blocks (kind.Name v) e = refl
atom_no_dot blocks (kind.Number v) e = refl
atom_no_dot blocks (kind.Text v) e = refl
atom_no_dot blocks (kind.Op o) e = absurd cc
atom_no_dot blocks (kind.Mark m) e = mark_no_dot m e

-- an atom is no dotted name
pub atom_no_field : (names : Spellings) (allowed : Allowed) (a : Atom)
    → (said_atom a).obeys names allowed ≡ true
    → is_field (said_run_part (a_run_part.Atom a)) ≡ false
atom_no_field names allowed a ob =
    rw (
      says-Atom a,
      atom_no_dot allowed.blocks (said_atom a).first.kind (atom_begins names allowed a ob),
    ) refl

tight_next : (blocks : Bool) (t : Token) → begins_run_part blocks (Some t) ≡ true
    → is_empty t.gap ≡ true
unfolding begins_run_part
tight_next blocks t e = left_true _ _ e

at_tight : (t : Token) → is_next_tight (Some t) ≡ true → is_empty t.gap ≡ true
unfolding is_next_tight
at_tight t e = e

begun : (blocks : Bool) (k : Kind) (t : Token) → t.kind ≡ k → begins_atom blocks k ≡ true
    → sees (begins_atom blocks) (Some t) ≡ true
unfolding sees
begun blocks k t is e = rw is e

module _ (names : Spellings) {n : ℕ} (run : Bool → Eater Run n) (flats : FlatLaws names run)
    (forms : FormLaws names run) where
  sound_parens : (left : Spot) (blocks : Bool) (ts : Row)
      → Only Atom ((parens names run left).run ts)
      (λ a rest. YieldsUnit names (said_atom a) blocks (marked mark.OpenParen left ∷ ts) rest)
  unfolding parens
  sound_parens left blocks ts =
      only_then _ _ _ _ (flats.sound_maybe_list ts) (λ contents mid k.
      only_then _ _ _ _ (only_mark mark.CloseParen mid) (λ right rest l.
      only_read _ _ rest
      (rw (says-Parens left contents right)
      (record { tokens = simp append_assoc (cc); obeys = λ lines. k.obeys }))))

  -- the rest of an array, its tokens before being so
  sound_fill_value : (array left : Spot) (element : TypeTree) (right size_left : Spot) (size : Expr)
      (size_right : Spot) (blocks : Bool) (all ts : Row)
      → all ≡ word reserved.Array array ∷ marked mark.OpenStatic left
      ∷ (tokens_of (said_type element) ++ marked mark.CloseStatic right
      ∷ marked mark.OpenParen size_left
      ∷ (tokens_of (said_expr size) ++ marked mark.CloseParen size_right ∷ ts))
      → is_empty left.gap ≡ true → is_empty size_left.gap ≡ true
      → (said_type element).obeys names elsewhere ≡ true
      → (said_expr size).obeys names in_brackets ≡ true
      → Only Atom ((fill_value names run array left element right size_left size size_right).run ts)
      (λ a rest. YieldsUnit names (said_atom a) blocks all rest)
  unfolding fill_value is_called
  sound_fill_value array left element right size_left size size_right blocks all ts is g1 g2 oe os =
      only_then _ _ _ _ (only_tight_mark mark.Dot ts) (λ dot mid h.
      only_then _ _ _ _ (only_tight_called _ names mid) (λ fill mid1 h1.
      only_then _ _ _ _ (only_tight_mark mark.OpenParen mid1) (λ value_left mid2 h2.
      only_then _ _ _ _ (flats.sound_expr true mid2) (λ value mid3 k.
      only_then _ _ _ _ (only_mark mark.CloseParen mid3) (λ value_right rest l.
      let after : ts
      ≡ marked mark.Dot dot ∷ named fill ∷ marked mark.OpenParen value_left
      ∷ (tokens_of (said_expr value) ++ marked mark.CloseParen value_right ∷ rest) =
      h.0 ∙ ap (λ
      (u : Row). marked mark.Dot dot ∷ u) (h1.0 ∙ ap (λ
      (u : Row). named fill ∷ u) (h2.0 ∙ ap (λ
      (u : Row). marked mark.OpenParen value_left ∷ u) (k.tokens ∙ ap (λ
      (u : Row). tokens_of (said_expr value) ++ u) l))) in
      only_read _ _ rest
      (rw (says-ArrayFill
      (record {
        array = array;
        left = left;
        right = right;
        size_left = size_left;
        size_right = size_right;
        dot = dot;
        fill = fill;
        value_left = value_left;
        value_right = value_right;
      }) element size value) (record {
        tokens = is ∙ (rw after (simp append_assoc refl));
        obeys = λ lines. both _ _ (both _ _ g1 (both _ _ g2 (both _ _ h.1 (both _ _ h1.1.0 h2.1))))
            (both _ _ h1.1.1 (both _ _ oe (both _ _ os k.obeys)));
      })))))))

  sound_fill_size : (array left : Spot) (element : TypeTree) (right : Spot) (blocks : Bool)
      (all ts : Row)
      → all ≡ word reserved.Array array ∷ marked mark.OpenStatic left
      ∷ (tokens_of (said_type element) ++ marked mark.CloseStatic right ∷ ts)
      → is_empty left.gap ≡ true → (said_type element).obeys names elsewhere ≡ true
      → Only Atom ((fill_size names run array left element right).run ts)
      (λ a rest. YieldsUnit names (said_atom a) blocks all rest)
  unfolding fill_size
  sound_fill_size array left element right blocks all ts is g1 oe =
      only_then _ _ _ _ (only_tight_mark mark.OpenParen ts) (λ size_left mid h.
      only_then _ _ _ _ (flats.sound_expr true mid) (λ size mid1 k.
      only_then _ _ _ _ (only_mark mark.CloseParen mid1) (λ size_right mid2 l.
      let after : ts
      ≡ marked mark.OpenParen size_left
      ∷ (tokens_of (said_expr size) ++ marked mark.CloseParen size_right ∷ mid2) =
      h.0 ∙ ap (λ
      (u : Row). marked mark.OpenParen size_left ∷ u) (k.tokens ∙ ap (λ
      (u : Row). tokens_of (said_expr size) ++ u) l) in
      sound_fill_value array left element right size_left size size_right blocks all mid2 (is
      ∙ ap (λ (u : Row). word reserved.Array array ∷ marked mark.OpenStatic left
      ∷ (tokens_of (said_type element) ++ marked mark.CloseStatic right ∷ u)) after) g1 h.1
      oe k.obeys)))

  sound_array_fill : (array : Spot) (blocks : Bool) (ts : Row)
      → Only Atom ((array_fill names run array).run ts)
      (λ a rest. YieldsUnit names (said_atom a) blocks (word reserved.Array array ∷ ts) rest)
  unfolding array_fill
  sound_array_fill array blocks ts =
      only_then _ _ _ _ (only_tight_mark mark.OpenStatic ts) (λ left mid h.
      only_then _ _ _ _ (sound_type_tree names n mid) (λ element mid1 k.
      only_then _ _ _ _ (only_mark mark.CloseStatic mid1) (λ right mid2 l.
      let after : ts
      ≡ marked mark.OpenStatic left
      ∷ (tokens_of (said_type element) ++ marked mark.CloseStatic right ∷ mid2) =
      h.0 ∙ ap (λ
      (u : Row). marked mark.OpenStatic left ∷ u) (k.tokens ∙ ap (λ
      (u : Row). tokens_of (said_type element) ++ u) l) in
      sound_fill_size array left element right blocks (word reserved.Array array ∷ ts) mid2 (ap (λ
      (u : Row). word reserved.Array array ∷ u) after) h.1 k.obeys)))

  sound_form_atom : (blocks : Bool) (ts : Row) → sees (begins_atom blocks) (next_of ts) ≡ true
      → Only Atom ((form_atom names run).parser.run ts)
      (λ a rest. YieldsUnit names (said_atom a) blocks ts rest)
  sound_form_atom blocks ts e =
      only_then _ _ _ _ (forms.sound_delimited blocks ts e)
      (λ d rest k. only_read _ (an_atom.Delimited d) rest (rw (says-Delimited d) k))

  sound_do_atom : (blocks : Bool) (t : Token) (ts : Row) → t.kind ≡ kind.Word reserved.Do
      → Only Atom ((do_atom names run blocks).parser.run (t ∷ ts))
      (λ a rest. YieldsUnit names (said_atom a) blocks (t ∷ ts) rest)
  unfolding begins_atom
  sound_do_atom true t ts is =
      sound_form_atom true (t ∷ ts) (begun true (kind.Word reserved.Do) t is refl)
  sound_do_atom false t ts is = only_failed _ _ (t ∷ ts)

  sound_word_atom : (blocks : Bool) (w : Reserved) (t : Token) (ts : Row) → t.kind ≡ kind.Word w
      → Only Atom ((word_atom names run blocks w).parser.run (t ∷ ts))
      (λ a rest. YieldsUnit names (said_atom a) blocks (t ∷ ts) rest)
  unfolding begins_atom
  sound_word_atom blocks reserved.True t ts is = sound_literal names blocks (t ∷ ts)
  sound_word_atom blocks reserved.False t ts is = sound_literal names blocks (t ∷ ts)
  sound_word_atom blocks reserved.Self_ t ts is = sound_literal names blocks (t ∷ ts)
  sound_word_atom blocks reserved.Array t ts is =
      only_then _ _ _ _ (only_word reserved.Array (t ∷ ts))
      (λ array mid h. rw h (sound_array_fill array blocks mid))
  sound_word_atom blocks reserved.Do t ts is = sound_do_atom blocks t ts is
  sound_word_atom blocks reserved.If t ts is =
      sound_form_atom blocks (t ∷ ts) (begun blocks (kind.Word reserved.If) t is refl)
  sound_word_atom blocks reserved.While t ts is =
      sound_form_atom blocks (t ∷ ts) (begun blocks (kind.Word reserved.While) t is refl)
  sound_word_atom blocks reserved.For t ts is =
      sound_form_atom blocks (t ∷ ts) (begun blocks (kind.Word reserved.For) t is refl)
  sound_word_atom blocks reserved.Case t ts is =
      sound_form_atom blocks (t ∷ ts) (begun blocks (kind.Word reserved.Case) t is refl)
  sound_word_atom blocks reserved.Typecase t ts is =
      sound_form_atom blocks (t ∷ ts) (begun blocks (kind.Word reserved.Typecase) t is refl)
  sound_word_atom blocks reserved.Try t ts is =
      sound_form_atom blocks (t ∷ ts) (begun blocks (kind.Word reserved.Try) t is refl)
  sound_word_atom blocks _ t ts is = only_failed _ _ (t ∷ ts)

  sound_mark_atom : (blocks : Bool) (m : Mark) (ts : Row)
      → Only Atom ((mark_atom names run m).parser.run ts)
      (λ a rest. YieldsUnit names (said_atom a) blocks ts rest)
  sound_mark_atom blocks mark.OpenParen ts =
      only_then _ _ _ _ (only_mark mark.OpenParen ts)
      (λ left mid h. rw h (sound_parens left blocks mid))
  sound_mark_atom blocks _ ts = only_failed _ _ ts

  sound_atom_for : (blocks : Bool) (k : Kind) (t : Token) (ts : Row) → t.kind ≡ k
      → Only Atom ((atom_for names run blocks k).parser.run (t ∷ ts))
      (λ a rest. YieldsUnit names (said_atom a) blocks (t ∷ ts) rest)
  sound_atom_for blocks (kind.Word w) t ts is = sound_word_atom blocks w t ts is
  sound_atom_for blocks (kind.Name v) t ts is = sound_literal names blocks (t ∷ ts)
  sound_atom_for blocks (kind.Number v) t ts is = sound_literal names blocks (t ∷ ts)
  sound_atom_for blocks (kind.Text v) t ts is = sound_literal names blocks (t ∷ ts)
  sound_atom_for blocks (kind.Op o) t ts is = only_failed _ _ (t ∷ ts)
  sound_atom_for blocks (kind.Mark m) t ts is = sound_mark_atom blocks m (t ∷ ts)

  sound_atom : (blocks : Bool) (ts : Row)
      → Only Atom ((atom names run blocks).parser.run ts)
      (λ a rest. YieldsUnit names (said_atom a) blocks ts rest)
  unfolding atom
  sound_atom blocks [] = only_failed _ _ []
  sound_atom blocks (t ∷ ts) = sound_atom_for blocks t.kind t ts refl

  -- ---- postfixes

  -- a postfix that was read from ts, whose first token has no gap
  abbrev ReadsPostfix : Bool → Row → Postfix → Row → Type 0
  ReadsPostfix blocks ts p rest =
      YieldsRunPart names (said_run_part (a_run_part.Postfix p)) blocks ts rest

  sound_subscript : (left : Spot) (blocks : Bool) (ts : Row) → is_empty left.gap ≡ true
      → Only Postfix ((subscript names run left).run ts)
      (ReadsPostfix blocks (marked mark.OpenBracket left ∷ ts))
  unfolding subscript
  sound_subscript left blocks ts g =
      only_then _ _ _ _ (flats.sound_expr true ts) (λ index mid k.
      only_then _ _ _ _ (only_mark mark.CloseBracket mid) (λ right rest l.
      only_read _ _ rest
      (rw (says-Postfix (a_postfix.Subscript left index right), says-Subscript left index right)
      (record {
        tokens = simp append_assoc (cc);
        obeys = λ lines. both _ _ g k.obeys;
        tight = g;
        field = refl;
      }))))

  sound_tight_atom : (blocks : Bool) (ts : Row)
      → Only Atom ((tight_atom names run blocks).run ts)
      (λ a rest. YieldsUnit names (said_atom a) blocks ts rest
      × (is_empty (gap_of (said_atom a)) ≡ true))
  unfolding tight_atom
  sound_tight_atom blocks ts =
      only_if (is_next_tight (next_of ts)) _ _ _
      (λ e. only_more _ _ _ (sound_atom blocks ts)
      (λ a rest k. (k, at_tight (said_atom a).first (rw k.tokens at e))))
      (λ e. only_failed _ _ ts)

  sound_method_call : (dot : Spot) (name : Name) (blocks : Bool) (ts : Row)
      → is_empty dot.gap ≡ true → is_empty name.spot.gap ≡ true
      → Only Postfix ((method_call names run dot name).run ts)
      (ReadsPostfix blocks (marked mark.Dot dot ∷ named name ∷ ts))
  unfolding method_call
  sound_method_call dot name blocks ts g g1 =
      only_then _ _ _ _ (only_tight_mark mark.OpenParen ts) (λ left mid h.
      only_then _ _ _ _ (flats.sound_maybe_list mid) (λ arguments mid1 k.
      only_then _ _ _ _ (only_mark mark.CloseParen mid1) (λ right rest l.
      only_read _ _ rest
      (rw (
        says-Postfix (a_postfix.Call dot name left arguments right),
        says-Call dot name left arguments right,
      )
      (record {
        tokens = let is = h.0 in simp append_assoc (cc);
        obeys = λ lines. both _ _ g (both _ _ g1 (both _ _ h.1 k.obeys));
        tight = g;
        field = refl;
      })))))

  sound_dotted : (dot : Spot) (blocks : Bool) (ts : Row) → is_empty dot.gap ≡ true
      → Only Postfix ((dotted names run dot).run ts)
      (ReadsPostfix blocks (marked mark.Dot dot ∷ ts))
  unfolding dotted
  sound_dotted dot blocks ts g =
      only_then _ _ _ _ (only_tight_name ts) (λ name mid h.
      rw h.0 (only_if (sees_tight (is_mark mark.OpenParen) (next_of mid)) _ _ _
      (λ e. sound_method_call dot name blocks mid g h.1)
      (λ e. only_read _ (a_postfix.Field dot name) mid
      (rw (says-Postfix (a_postfix.Field dot name), says-Field dot name)
      (record { tokens = refl; obeys = λ lines. both _ _ g h.1; tight = g; field = e })))))

  sound_power : (blocks : Bool) (t : Token) (ts : Row) → is_empty t.gap ≡ true
      → Only Postfix ((postfix_for names run blocks (kind.Op op.Power)).parser.run (t ∷ ts))
      (ReadsPostfix blocks (t ∷ ts))
  sound_power blocks t ts g =
      only_then _ _ _ _ (only_power (t ∷ ts)) (λ power mid h.
      only_then _ _ _ _ (sound_tight_atom blocks mid) (λ exponent rest k.
      let same : ◌≡◌ {A = Token} t (operator op.Power power) = cc in
      let first : is_empty power.gap ≡ true = rw same at g in
      only_read _ _ rest
      (rw (says-Postfix (a_postfix.Power power exponent), says-Power power exponent)
      (record {
        tokens = h ∙ ap (λ (u : Row). operator op.Power power ∷ u) k.0.tokens;
        obeys = λ lines. both _ _ first (both _ _ k.1 (k.0.obeys lines));
        tight = first;
        field = refl;
      }))))

  sound_mark_postfix : (blocks : Bool) (m : Mark) (t : Token) (ts : Row) → is_empty t.gap ≡ true
      → Only Postfix ((mark_postfix names run m).parser.run (t ∷ ts)) (ReadsPostfix blocks (t ∷ ts))
  sound_mark_postfix blocks mark.OpenBracket t ts g =
      only_then _ _ _ _ (only_mark mark.OpenBracket (t ∷ ts))
      (λ left mid h. let same : ◌≡◌ {A = Token} t (marked mark.OpenBracket left) = cc
      in rw h (sound_subscript left blocks mid (rw same at g)))
  sound_mark_postfix blocks mark.Dot t ts g =
      only_then _ _ _ _ (only_mark mark.Dot (t ∷ ts))
      (λ dot mid h. let same : ◌≡◌ {A = Token} t (marked mark.Dot dot) = cc
      in rw h (sound_dotted dot blocks mid (rw same at g)))
  sound_mark_postfix blocks _ t ts g = only_failed _ _ (t ∷ ts)

  sound_postfix_for : (blocks : Bool) (k : Kind) (t : Token) (ts : Row) → is_empty t.gap ≡ true
      → Only Postfix ((postfix_for names run blocks k).parser.run (t ∷ ts))
      (ReadsPostfix blocks (t ∷ ts))
  sound_postfix_for blocks (kind.Op o) t ts g = sound_power blocks t ts g
  sound_postfix_for blocks (kind.Mark m) t ts g = sound_mark_postfix blocks m t ts g
  sound_postfix_for blocks _ t ts g = only_failed _ _ (t ∷ ts)

  atom_part : (blocks : Bool) (a : Atom) (u v : Row) → YieldsUnit names (said_atom a) blocks u v
      → is_empty (gap_of (said_atom a)) ≡ true
      → YieldsRunPart names (said_run_part (a_run_part.Atom a)) blocks u v
  atom_part blocks a u v k g =
      record {
        tokens = rw (says-Atom a) k.tokens;
        obeys = λ lines. rw (says-Atom a) (both _ _ g (k.obeys lines));
        tight = rw (says-Atom a) g;
        field = rw (atom_no_field names (allowing false blocks) a (k.obeys false)) refl;
      }

  sound_run_part : (blocks : Bool) (ts : Row) → begins_run_part blocks (next_of ts) ≡ true
      → Only RunPart ((run_part names run blocks).parser.run ts)
      (λ p rest. YieldsRunPart names (said_run_part p) blocks ts rest)
  unfolding run_part postfix
  sound_run_part blocks [] e =
      only_if (sees begins_postfix None) _ _ _ (λ is. only_failed _ _ [])
      (λ is. only_then _ _ _ _ (sound_atom blocks []) (λ a rest k. absurd cc))
  sound_run_part blocks (t ∷ ts) e =
      let g = tight_next blocks t e in
      only_if (sees begins_postfix (Some t)) _ _ _
      (λ is. only_then _ _ _ _ (sound_postfix_for blocks t.kind t ts g)
      (λ p rest k. only_read _ (a_run_part.Postfix p) rest k))
      (λ is. only_then _ _ _ _ (sound_atom blocks (t ∷ ts)) (λ a rest k.
      let same : ◌≡◌ {A = Token} t (said_atom a).first = cc in
      let first : is_empty (gap_of (said_atom a)) ≡ true = rw same at g in
      only_read _ (a_run_part.Atom a) rest (atom_part blocks a (t ∷ ts) rest k first)))

  pub sound_level : (blocks : Bool) (ts : Row)
      → Only Run ((run_level names run blocks).parser.run ts)
      (λ r rest. YieldsUnit names (said_run r) blocks ts rest)
  unfolding run_level run_parts
  sound_level blocks ts =
      only_then _ _ _ _ (sound_atom blocks ts) (λ first mid h.
      only_then _ _ _ _
      (only_many (λ state. begins_run_part blocks) (λ state x. state)
      (λ state. run_part names run blocks)
      (λ state x u v. YieldsRunPart names (said_run_part x) blocks u v)
      (λ state xs u v. YieldsRunParts names (map said_run_part xs) blocks u v)
      (λ state u e. sound_run_part blocks u e)
      (λ state u. record { tokens = refl; obeys = λ lines. refl; whole = refl; tight = refl })
      (λ state x xs u v w i j. more_run_parts names (said_run_part x) (map said_run_part xs) blocks
      u v w i j) n true mid) (λ rest left k.
      only_read _ _ left (rw (says_run first rest) (record {
        tokens = simp append_assoc (h.tokens ∙ ap (λ
            (u : Row). tokens_of (said_atom first) ++ u) k.tokens);
        obeys = λ lines. both _ _ (h.obeys lines) (both _ _ (k.obeys lines) k.whole);
      }))))
