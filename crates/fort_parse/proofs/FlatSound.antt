-- What the productions of expressions read is the tokens of the trees that they answer, and the
-- rules hold in these.
use Rattle.std.proofs.Common.{◌≡◌, ℕ, Bool, true, false, List, [], ◌∷◌, ◌++◌, append_assoc, Option, Some, None, refl, sym, ap, ◌∙◌}
use Rattle.std.specs.Prelude.{map, option_map, ◌||◌, not}
use Rattle.fort_ops.specs.declared.op.Op.TheVariants as op
use Rattle.fort_lex_token.specs.declared.token.Kind.{Kind}
use Rattle.fort_lex_token.specs.declared.token.Kind.TheVariants as kind
use Rattle.fort_lex_token.specs.declared.token.Token.{Token}
use Rattle.fort_lex_token.specs.declared.marks.Mark.TheVariants as mark
use Rattle.fort_lex_token.specs.declared.reserved.Reserved.{Reserved}
use Rattle.fort_lex_token.specs.declared.reserved.Reserved.TheVariants as reserved
use Rattle.fort_tree.specs.declared.spot.Spot.{Spot}
use Rattle.fort_tree.specs.declared.spot.Name.{Name}
use Rattle.fort_tree.specs.declared.expr.AssignSign.{AssignSign}
use Rattle.fort_tree.specs.declared.expr.Big.{Big}
use Rattle.fort_tree.specs.declared.expr.Big.TheVariants as big_word
use Rattle.fort_tree.specs.declared.expr.Expr.{Expr}
use Rattle.fort_tree.specs.declared.expr.Expr.TheVariants as an_expr
use Rattle.fort_tree.specs.declared.expr.FlatPart.{FlatPart}
use Rattle.fort_tree.specs.declared.expr.Generator.{Generator}
use Rattle.fort_tree.specs.declared.expr.Head.{Head}
use Rattle.fort_tree.specs.declared.expr.Prefix.{Prefix}
use Rattle.fort_tree.specs.declared.expr.Prefix.TheVariants as a_prefix
use Rattle.fort_tree.specs.declared.expr.ExprList.{ExprList}
use Rattle.fort_tree.specs.declared.expr.Flat.{Flat, roll-Flat}
use Rattle.fort_tree.specs.declared.expr.NextExpr.{NextExpr}
use Rattle.fort_tree.specs.declared.expr.Operand.{Operand}
use Rattle.fort_tree.specs.declared.expr.Run.{Run}
use Rattle.fort_tree.specs.Tokens.{Spellings, marked, word, named, signed, operator, is_empty, is_line}
use Rattle.fort_tree.specs.Said.{Said, Allowed, tokens_of, all_tokens, all_obey, gap_of, elsewhere, in_brackets}
use Rattle.fort_tree.specs.Flats.{assign_token, big_first, big_more}
use Rattle.fort_tree.specs.Flats.{prefixed as with_prefix}
use Rattle.fort_tree.specs.Yield.{said_expr, said_flat_part, said_generator, said_head, said_expr_list, said_flat, said_next_expr, said_operand, said_run}
use Rattle.fort_tree.proofs.SaysFlats.{says-Flat, says-Assign, says-Open, says-OpenAssign, says-Atomic, says-Tryatomic, says-Throw, says-Spawn, says-Fn, says-Big, says-Parallel, says-Sequential, says_flat, says-Run, says-Infix, says_operand, says_expr_list, says_next_expr}
use Rattle.fort_parse_reading.specs.Parser.{Row, next_of, Eater}
use Rattle.fort_parse_reading.specs.Words.{is_mark, is_word, sees}
use Rattle.fort_parse_reading.proofs.Laws.{Only, only_read, only_failed, only_then, only_if, only_many}
use Rattle.fort_parse_reading.proofs.Taking.{prefix_token, only_prefix, only_sign, only_name, only_mark, only_word, only_assign, only_big}
use Rattle.fort_parse_reading.proofs.Yields.{Yields, YieldsMaybe, both, left_true, right_true, true_right, only_list, left_out, stands_there, all_after}
use Rattle.fort_parse_types.proofs.Sound.{sound_maybe_parameters}
use Rattle.fort_parse_first.specs.Beginnings.{is_prefix, is_infix_kind, begins_flat_part, begins_head, assigns}
use Rattle.fort_parse.specs.Flats.{prefixed, operand, infix_part, flat_part, flat_parts, flat, sequential, parallel, generator, reduction, big_reduction, function, word_head, head_for, head, open_assign, opened, assigned, assign, flat_more, expr_from, expr, next_expr, next_exprs, expr_list, maybe_list}
use Rattle.fort_parse.proofs.Statements.{allowing, YieldsUnit, RunLaws}

-- ts is the tokens of the tree and then rest, and the rules hold in it, also where more new lines
-- may stand
record YieldsPart (names : Spellings) (x : Said) (lines blocks : Bool)
    (ts rest : List Token) : Type 0 where
  pub tokens : ts ≡ tokens_of x ++ rest
  pub obeys : (wider : Bool) → (wider || not lines) ≡ true
      → x.obeys names (allowing wider blocks) ≡ true

-- the same of several
record YieldsParts (names : Spellings) (xs : List FlatPart) (lines blocks : Bool)
    (ts rest : List Token) : Type 0 where
  pub tokens : ts ≡ all_tokens (map said_flat_part xs) ++ rest
  pub obeys : (wider : Bool) → (wider || not lines) ≡ true
      → all_obey names (allowing wider blocks) (map said_flat_part xs) ≡ true

or_right : (a b : Bool) → (a || b) ≡ true → a ≡ false → b ≡ true
or_right true b e f = absurd cc
or_right false b e f = e

wide : (wider lines line : Bool) → (wider || not lines) ≡ true → (lines || not line) ≡ true
    → (wider || not line) ≡ true
wide true lines line e f = refl
wide false true line e f = absurd cc
wide false false line e f = f

-- no new line where none may stand
narrow : (lines : Bool) → (lines || not lines) ≡ true
narrow true = refl
narrow false = refl

at_line : (lines blocks : Bool) (t : Token)
    → begins_flat_part (allowing lines blocks) (Some t) ≡ true
    → (lines || not (is_line t.gap)) ≡ true
unfolding begins_flat_part
at_line lines blocks t e = left_true _ _ e

with_gap : (lines blocks : Bool) (t : Token)
    → begins_flat_part (allowing lines blocks) (Some t) ≡ true → is_infix_kind t.kind ≡ false
    → not (is_empty t.gap) ≡ true
unfolding begins_flat_part
with_gap lines blocks t e f = left_true _ _ (or_right _ _ (right_true _ _ e) f)

at_first : (f : Kind → Bool) (b : Bool) (t : Token) → sees f (Some t) ≡ b → f t.kind ≡ b
unfolding sees
at_first f b t e = e

prefix_yields : (names : Spellings) (blocks : Bool) (prefix : Prefix) (x : Said) (ts mid rest : Row)
    → ts ≡ prefix_token prefix ∷ mid → YieldsUnit names x blocks mid rest
    → YieldsUnit names (with_prefix (Some prefix) x) blocks ts rest
prefix_yields names blocks (a_prefix.Minus s) x ts mid rest h k =
    record { tokens = h ∙ ap (λ (u : Row). operator op.Minus s ∷ u) k.tokens; obeys = k.obeys }
prefix_yields names blocks (a_prefix.Not s) x ts mid rest h k =
    record { tokens = h ∙ ap (λ (u : Row). operator op.Not s ∷ u) k.tokens; obeys = k.obeys }

no_parts : (names : Spellings) (lines blocks : Bool) (ts : Row)
    → YieldsParts names [] lines blocks ts ts
no_parts names lines blocks ts = record { tokens = refl; obeys = λ wider e. refl }

more_parts : (names : Spellings) (lines blocks : Bool) (x : FlatPart) (xs : List FlatPart)
    (ts mid rest : Row) → YieldsPart names (said_flat_part x) lines blocks ts mid
    → YieldsParts names xs lines blocks mid rest → YieldsParts names (x ∷ xs) lines blocks ts rest
more_parts names lines blocks x xs ts mid rest h k = record {
  tokens = h.tokens ∙ ap (λ
      (u : Row). tokens_of (said_flat_part x) ++ u) k.tokens
      ∙ sym (all_after (said_flat_part x) (map said_flat_part xs) rest);
  obeys = λ wider e. both _ _ (h.obeys wider e) (k.obeys wider e);
}

pub appended : (xs ys : List FlatPart) (rest : Row)
    → all_tokens (map said_flat_part (xs ++ ys)) ++ rest
    ≡ all_tokens (map said_flat_part xs) ++ (all_tokens (map said_flat_part ys) ++ rest)
appended [] ys rest = refl
appended (x ∷ xs) ys rest =
    all_after (said_flat_part x) (map said_flat_part (xs ++ ys)) rest ∙ ap (λ
    (u : Row). tokens_of (said_flat_part x) ++ u) (appended xs ys rest)
    ∙ sym (all_after (said_flat_part x) (map said_flat_part xs)
    (all_tokens (map said_flat_part ys) ++ rest))

append_obeys : (names : Spellings) (allowed : Allowed) (xs ys : List FlatPart)
    → all_obey names allowed (map said_flat_part xs) ≡ true
    → all_obey names allowed (map said_flat_part ys) ≡ true
    → all_obey names allowed (map said_flat_part (xs ++ ys)) ≡ true
append_obeys names allowed [] ys h k = k
append_obeys names allowed (x ∷ xs) ys h k =
    both _ _ (left_true _ _ h) (append_obeys names allowed xs ys (right_true _ _ h) k)

-- parts on one line, and then parts where new lines may stand
join_parts : (names : Spellings) (lines blocks : Bool) (xs ys : List FlatPart) (ts mid rest : Row)
    → YieldsParts names xs false blocks ts mid → YieldsParts names ys lines blocks mid rest
    → (ts ≡ all_tokens (map said_flat_part (xs ++ ys)) ++ rest)
    × (all_obey names (allowing lines blocks) (map said_flat_part (xs ++ ys)) ≡ true)
join_parts names lines blocks xs ys ts mid rest h k = (
  h.tokens ∙ ap (λ
      (u : Row). all_tokens (map said_flat_part xs) ++ u) k.tokens ∙ sym (appended xs ys rest),
  append_obeys names (allowing lines blocks) xs ys (h.obeys lines (true_right lines))
      (k.obeys lines (narrow lines)),
)

module _ (names : Spellings) {n : ℕ} (run : Bool → Eater Run n) (laws : RunLaws names run) where
  sound_prefixed : (blocks : Bool) (ts : Row)
      → Only Operand ((prefixed names run blocks).parser.run ts)
      (λ o rest. YieldsUnit names (said_operand o) blocks ts rest)
  unfolding prefixed
  sound_prefixed blocks ts =
      only_then _ _ _ _ (only_prefix ts) (λ prefix mid h.
      only_then _ _ _ _ (laws.sound blocks mid) (λ r rest k.
      only_read _ _ rest
      (rw (says_operand (Some prefix) r)
      (prefix_yields names blocks prefix (said_run r) ts mid rest h k))))

  pub sound_operand : (blocks : Bool) (ts : Row)
      → Only Operand ((operand names run blocks).parser.run ts)
      (λ o rest. YieldsUnit names (said_operand o) blocks ts rest)
  unfolding operand
  sound_operand blocks ts =
      only_if (sees is_prefix (next_of ts)) _ _ _ (λ e. sound_prefixed blocks ts)
      (λ e. only_then _ _ _ _ (laws.sound blocks ts)
      (λ r rest k. only_read _ _ rest (rw (says_operand None r) k)))

  sound_infix : (lines blocks : Bool) (ts : Row)
      → begins_flat_part (allowing lines blocks) (next_of ts) ≡ true
      → Only FlatPart ((infix_part names run blocks).parser.run ts)
      (λ p rest. YieldsPart names (said_flat_part p) lines blocks ts rest)
  unfolding infix_part
  sound_infix lines blocks ts e =
      only_then _ _ _ _ (only_sign ts) (λ sign mid h.
      only_then _ _ _ _ (sound_operand blocks mid) (λ o rest k.
      let line = at_line lines blocks (signed sign) (rw h.0 at e) in
      only_read _ _ rest (rw (says-Infix sign o) (record {
        tokens = h.0 ∙ ap (λ (u : Row). signed sign ∷ u) k.tokens;
        obeys = λ wider w. both _ _ h.1
            (both _ _ (wide wider lines (is_line sign.spot.gap) w line) (k.obeys wider));
      }))))

  sound_flat_part : (lines blocks : Bool) (ts : Row)
      → begins_flat_part (allowing lines blocks) (next_of ts) ≡ true
      → Only FlatPart ((flat_part names run blocks).parser.run ts)
      (λ p rest. YieldsPart names (said_flat_part p) lines blocks ts rest)
  unfolding flat_part
  sound_flat_part lines blocks ts e =
      only_if (sees is_infix_kind (next_of ts)) _ _ _ (λ is. sound_infix lines blocks ts e)
      (λ is. only_then _ _ _ _ (laws.sound blocks ts) (λ r rest k.
      let begins = rw k.tokens at e in
      let none = at_first is_infix_kind false (said_run r).first (rw k.tokens at is) in
      let line = at_line lines blocks (said_run r).first begins in
      let gap = with_gap lines blocks (said_run r).first begins none in
      only_read _ _ rest (rw (says-Run r) (record {
        tokens = k.tokens;
        obeys = λ wider w. both _ _ gap
            (both _ _ (wide wider lines (is_line (gap_of (said_run r))) w line) (k.obeys wider));
      }))))

  sound_flat_parts : (found : List FlatPart) (lines blocks : Bool) (ts : Row)
      → Only (List FlatPart) ((flat_parts names run found lines blocks).run ts) (λ xs rest.
      (more : List FlatPart) × (xs ≡ found ++ more)
      × YieldsParts names more lines blocks ts rest)
  unfolding flat_parts
  sound_flat_parts found lines blocks ts =
      only_then _ _ _ _
      (only_many (λ state. begins_flat_part (allowing lines blocks)) (λ state x. state)
      (λ state. flat_part names run blocks)
      (λ state x u v. YieldsPart names (said_flat_part x) lines blocks u v)
      (λ state xs u v. YieldsParts names xs lines blocks u v)
      (λ state u e. sound_flat_part lines blocks u e) (λ state u. no_parts names lines blocks u)
      (λ state x xs u v w i j. more_parts names lines blocks x xs u v w i j) n true ts)
      (λ more rest h. only_read _ _ rest (more, refl, h))

  pub sound_flat : (blocks : Bool) (ts : Row)
      → Only Flat ((flat names run blocks).parser.run ts)
      (λ f rest. Yields names (said_flat f) (allowing false blocks) ts rest)
  unfolding flat
  sound_flat blocks ts =
      only_then _ _ _ _ (sound_operand blocks ts) (λ first mid h.
      only_then _ _ _ _ (sound_flat_parts [] false blocks mid) (λ xs rest k.
      only_read _ _ rest
      (rw (k.1, says_flat first k.0)
      (record {
        tokens =
            simp append_assoc (h.tokens ∙ ap (λ
            (u : Row). tokens_of (said_operand first) ++ u) k.2.tokens);
        obeys = both _ _ (h.obeys false) (k.2.obeys false refl);
      }))))

  -- ---- generators and heads

  sound_sequential : (name : Name) (arrow : Spot) (blocks : Bool) (ts : Row)
      → Only Generator ((sequential names run name arrow).run ts)
      (λ g rest. Yields names (said_generator g) (allowing false blocks)
      (named name ∷ marked mark.LeftArrow arrow ∷ ts) rest)
  unfolding sequential
  sound_sequential name arrow blocks ts =
      only_then _ _ _ _ (only_word reserved.Seq ts) (λ seq mid h.
      only_then _ _ _ _ (only_mark mark.OpenParen mid) (λ left mid1 h1.
      only_then _ _ _ _ (sound_flat true mid1) (λ source mid2 k.
      only_then _ _ _ _ (only_mark mark.CloseParen mid2) (λ right rest l.
      only_read _ _ rest
      (rw (says-Sequential name arrow seq left source right)
      (record { tokens = simp append_assoc (cc); obeys = k.obeys }))))))

  sound_parallel : (name : Name) (arrow : Spot) (blocks : Bool) (ts : Row)
      → Only Generator ((parallel names run blocks name arrow).run ts)
      (λ g rest. Yields names (said_generator g) (allowing false blocks)
      (named name ∷ marked mark.LeftArrow arrow ∷ ts) rest)
  unfolding parallel
  sound_parallel name arrow blocks ts =
      only_then _ _ _ _ (sound_flat blocks ts) (λ source rest k.
      only_read _ _ rest
      (rw (says-Parallel name arrow source) (record { tokens = cc; obeys = k.obeys })))

  pub sound_generator : (blocks : Bool) (ts : Row)
      → Only Generator ((generator names run blocks).parser.run ts)
      (λ g rest. Yields names (said_generator g) (allowing false blocks) ts rest)
  unfolding generator
  sound_generator blocks ts =
      only_then _ _ _ _ (only_name ts) (λ name mid h.
      only_then _ _ _ _ (only_mark mark.LeftArrow mid) (λ arrow mid1 h1.
      rw (h, h1)
      (only_if (sees (is_word reserved.Seq) (next_of mid1)) _ _ _
      (λ e. sound_sequential name arrow blocks mid1)
      (λ e. sound_parallel name arrow blocks mid1))))

  sound_reduction : (big : Big) (ts : Row)
      → Only Head ((reduction names run big).run ts)
      (λ h rest. Yields names (said_head h) elsewhere (big_first big ∷ (big_more big ++ ts)) rest)
  unfolding reduction
  sound_reduction big ts =
      only_then _ _ _ _ (only_mark mark.OpenBracket ts) (λ left mid h.
      only_then _ _ _ _ (sound_generator true mid) (λ g mid1 k.
      only_then _ _ _ _ (only_mark mark.CloseBracket mid1) (λ right rest l.
      only_read _ _ rest
      (rw (says-Big big left g right)
      (record { tokens = simp append_assoc (cc); obeys = k.obeys })))))

  sound_big_reduction : (s : Spot) (ts : Row)
      → Only Head ((big_reduction names run s).run ts)
      (λ h rest. Yields names (said_head h) elsewhere (word reserved.Big s ∷ ts) rest)
  unfolding big_reduction
  sound_big_reduction s ts =
      only_then _ _ _ _ (only_big s ts) (λ big mid h.
      let is : word reserved.Big s ∷ ts ≡ big_first big ∷ (big_more big ++ mid) =
      rw (h.2.0, h.2.1, h.1) refl in
      rw is (sound_reduction big mid))

  sound_function : (s : Spot) (ts : Row)
      → Only Head ((function names run s).run ts)
      (λ h rest. Yields names (said_head h) elsewhere (word reserved.Fn s ∷ ts) rest)
  unfolding function
  sound_function s ts =
      only_then _ _ _ _ (only_mark mark.OpenParen ts) (λ left mid h.
      only_then _ _ _ _ (sound_maybe_parameters names n mid) (λ p mid1 k.
      only_then _ _ _ _ (only_mark mark.CloseParen mid1) (λ right mid2 l.
      only_then _ _ _ _ (only_mark mark.DoubleArrow mid2) (λ arrow rest m.
      only_read _ _ rest
      (rw (says-Fn s left p right arrow)
      (record { tokens = simp append_assoc (cc); obeys = k.obeys }))))))

  sound_word_head : (w : Reserved) (ts : Row)
      → Only Head ((word_head names run w).parser.run ts)
      (λ h rest. Yields names (said_head h) elsewhere ts rest)
  sound_word_head reserved.Atomic ts =
      only_then _ _ _ _ (only_word reserved.Atomic ts)
      (λ s rest h. only_read _ _ rest (rw (says-Atomic s) (record { tokens = h; obeys = refl })))
  sound_word_head reserved.Tryatomic ts =
      only_then _ _ _ _ (only_word reserved.Tryatomic ts)
      (λ s rest h. only_read _ _ rest (rw (says-Tryatomic s) (record { tokens = h; obeys = refl })))
  sound_word_head reserved.Throw ts =
      only_then _ _ _ _ (only_word reserved.Throw ts)
      (λ s rest h. only_read _ _ rest (rw (says-Throw s) (record { tokens = h; obeys = refl })))
  sound_word_head reserved.Spawn ts =
      only_then _ _ _ _ (only_word reserved.Spawn ts)
      (λ s rest h. only_read _ _ rest (rw (says-Spawn s) (record { tokens = h; obeys = refl })))
  sound_word_head reserved.Fn ts =
      only_then _ _ _ _ (only_word reserved.Fn ts) (λ s mid h. rw h (sound_function s mid))
  sound_word_head reserved.Sum ts =
      only_then _ _ _ _ (only_word reserved.Sum ts)
      (λ s mid h. rw h (sound_reduction (big_word.Sum s) mid))
  sound_word_head reserved.Prod ts =
      only_then _ _ _ _ (only_word reserved.Prod ts)
      (λ s mid h. rw h (sound_reduction (big_word.Prod s) mid))
  sound_word_head reserved.Big ts =
      only_then _ _ _ _ (only_word reserved.Big ts) (λ s mid h. rw h (sound_big_reduction s mid))
  sound_word_head _ ts = only_failed _ _ ts

  sound_head_for : (k : Kind) (ts : Row)
      → Only Head ((head_for names run k).parser.run ts)
      (λ h rest. Yields names (said_head h) elsewhere ts rest)
  sound_head_for (kind.Word w) ts = sound_word_head w ts
  sound_head_for _ ts = only_failed _ _ ts

  pub sound_head : (ts : Row)
      → Only Head ((head names run).parser.run ts)
      (λ h rest. Yields names (said_head h) elsewhere ts rest)
  unfolding head
  sound_head [] = only_failed _ _ []
  sound_head (t ∷ ts) = sound_head_for t.kind (t ∷ ts)

  -- ---- expressions

  sound_open_assign : (h : Head) (target : Flat) (lines : Bool) (ts mid : Row)
      → ts ≡ tokens_of (said_head h) ++ (tokens_of (said_flat target) ++ mid)
      → (said_head h).obeys names elsewhere ≡ true → (said_flat target).obeys names elsewhere ≡ true
      → Only Expr ((open_assign names run h target).run mid)
      (λ e rest. Yields names (said_expr e) (allowing lines true) ts rest)
  unfolding open_assign
  sound_open_assign h target lines ts mid is ob ot =
      only_then _ _ _ _ (only_assign mid) (λ sign mid1 l.
      only_then _ _ _ _ (sound_flat true mid1) (λ value rest k.
      only_read _ _ rest
      (rw (says-OpenAssign h target sign value)
      (record {
        tokens = simp append_assoc (cc);
        obeys = both _ _ ob (both _ _ ot k.obeys);
      }))))

  pub sound_opened : (h : Head) (ts mid : Row) → Yields names (said_head h) elsewhere ts mid
      → (lines : Bool)
      → Only Expr ((opened names run h).run mid)
      (λ e rest. Yields names (said_expr e) (allowing lines true) ts rest)
  unfolding opened
  sound_opened h ts mid y lines =
      only_then _ _ _ _ (sound_flat true mid) (λ body mid1 k.
      only_if (sees assigns (next_of mid1)) _ _ _
      (λ e. sound_open_assign h body lines ts mid1 (y.tokens ∙ ap (λ
      (u : Row). tokens_of (said_head h) ++ u) k.tokens) y.obeys k.obeys)
      (λ e. only_read _ (an_expr.Open h body) mid1
      (rw (says-Open h body)
      (record { tokens = simp append_assoc (cc); obeys = both _ _ y.obeys k.obeys }))))

  sound_assigned : (target : Flat) (sign : AssignSign) (lines : Bool) (ts mid : Row)
      → ts ≡ tokens_of (said_flat target) ++ assign_token sign ∷ mid
      → (said_flat target).obeys names elsewhere ≡ true
      → Only Expr ((assigned names run target sign).run mid)
      (λ e rest. Yields names (said_expr e) (allowing lines true) ts rest)
  unfolding assigned
  sound_assigned target sign lines ts mid is ob =
      only_if (sees begins_head (next_of mid)) _ _ _
      (λ e. only_then _ _ _ _ (sound_head mid) (λ h mid1 l.
      only_then _ _ _ _ (sound_flat true mid1) (λ value rest k.
      only_read _ _ rest
      (rw (says-Assign target sign (Some h) value)
      (record {
        tokens = simp append_assoc (cc);
        obeys = both _ _ ob (both _ _ l.obeys k.obeys);
      })))))
      (λ e. only_then _ _ _ _ (sound_flat true mid) (λ value rest k.
      only_read _ _ rest
      (rw (says-Assign target sign None value)
      (record { tokens = simp append_assoc (cc); obeys = both _ _ ob k.obeys }))))

  sound_assign : (target : Flat) (lines : Bool) (ts mid : Row)
      → Yields names (said_flat target) elsewhere ts mid
      → Only Expr ((assign names run target).run mid)
      (λ e rest. Yields names (said_expr e) (allowing lines true) ts rest)
  unfolding assign
  sound_assign target lines ts mid y =
      only_then _ _ _ _ (only_assign mid)
      (λ sign mid1 l. sound_assigned target sign lines ts mid1 (y.tokens ∙ ap (λ
      (u : Row). tokens_of (said_flat target) ++ u) l) y.obeys)

  sound_flat_more : (lines : Bool) (o : Operand) (found : List FlatPart) (ts mid mid1 : Row)
      → YieldsUnit names (said_operand o) true ts mid → YieldsParts names found false true mid mid1
      → Only Expr ((flat_more names run lines o found).run mid1)
      (λ e rest. Yields names (said_expr e) (allowing lines true) ts rest)
  unfolding flat_more
  sound_flat_more lines o found ts mid mid1 y h =
      only_then _ _ _ _ (sound_flat_parts found lines true mid1) (λ xs rest k.
      let j = join_parts names lines true found k.0 mid mid1 rest h k.2 in
      only_read _ _ rest
      (rw (
        k.1,
        says-Flat (roll-Flat (record { first = o; rest = found ++ k.0 })),
        says_flat o (found ++ k.0),
      )
      (record {
        tokens =
            simp append_assoc (y.tokens ∙ ap (λ (u : Row). tokens_of (said_operand o) ++ u) j.0);
        obeys = both _ _ (y.obeys lines) j.1;
      })))

  pub sound_expr_from : (lines : Bool) (o : Operand) (ts mid : Row)
      → YieldsUnit names (said_operand o) true ts mid
      → Only Expr ((expr_from names run lines o).run mid)
      (λ e rest. Yields names (said_expr e) (allowing lines true) ts rest)
  unfolding expr_from
  sound_expr_from lines o ts mid y =
      only_then _ _ _ _ (sound_flat_parts [] false true mid) (λ xs mid1 k.
      rw k.1 (only_if (sees assigns (next_of mid1)) _ _ _
      (λ e. sound_assign (roll-Flat (record { first = o; rest = k.0 })) lines ts mid1
      (rw (says_flat o k.0)
      (record {
        tokens =
            simp append_assoc (y.tokens ∙ ap (λ
            (u : Row). tokens_of (said_operand o) ++ u) k.2.tokens);
        obeys = both _ _ (y.obeys false) (k.2.obeys false refl);
      })))
      (λ e. sound_flat_more lines o k.0 ts mid mid1 y k.2)))

  pub sound_expr : (lines : Bool) (ts : Row)
      → Only Expr ((expr names run lines).parser.run ts)
      (λ e rest. Yields names (said_expr e) (allowing lines true) ts rest)
  unfolding expr
  sound_expr lines ts =
      only_if (sees begins_head (next_of ts)) _ _ _
      (λ e. only_then _ _ _ _ (sound_head ts) (λ h mid y. sound_opened h ts mid y lines))
      (λ e. only_then _ _ _ _ (sound_operand true ts) (λ o mid y. sound_expr_from lines o ts mid y))

  sound_next_expr : (ts : Row)
      → Only NextExpr ((next_expr names run).parser.run ts)
      (λ e rest. Yields names (said_next_expr e) in_brackets ts rest)
  unfolding next_expr
  sound_next_expr ts =
      only_then _ _ _ _ (only_mark mark.Comma ts) (λ comma mid h.
      only_then _ _ _ _ (sound_expr true mid) (λ e rest k.
      only_read _ _ rest
      (rw (says_next_expr comma e)
      (record {
        tokens = h ∙ ap (λ (u : Row). marked mark.Comma comma ∷ u) k.tokens;
        obeys = k.obeys;
      }))))

  sound_expr_list : (ts : Row)
      → Only ExprList ((expr_list names run).parser.run ts)
      (λ l rest. Yields names (said_expr_list l) in_brackets ts rest)
  unfolding expr_list next_exprs
  sound_expr_list ts =
      only_then _ _ _ _ (sound_expr true ts) (λ first mid h.
      only_then _ _ _ _
      (only_list names in_brackets said_next_expr (sees (is_mark mark.Comma))
      (next_expr names run) (λ u e. sound_next_expr u) n mid) (λ others rest k.
      only_read _ _ rest
      (rw (says_expr_list first others)
      (record { tokens = simp append_assoc (cc); obeys = both _ _ h.obeys k.obeys }))))

  pub sound_maybe_list : (ts : Row)
      → Only (Option ExprList) ((maybe_list names run).run ts)
      (λ l rest. YieldsMaybe names (option_map said_expr_list l) in_brackets ts rest)
  unfolding maybe_list
  sound_maybe_list ts =
      only_if (sees (is_mark mark.CloseParen) (next_of ts)) _ _ _
      (λ e. only_read _ None ts (left_out names in_brackets ts))
      (λ e. only_then _ _ _ _ (sound_expr_list ts)
      (λ l rest k. only_read _ (Some l) rest
      (stands_there names (said_expr_list l) in_brackets ts rest k)))
