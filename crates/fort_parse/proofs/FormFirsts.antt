-- The tokens with which items, clauses and blocks begin and end, and what they say of what stands
-- before them.
use Rattle.std.proofs.Common.{◌≡◌, Bool, true, false, Option, Some, None, refl}
use Rattle.std.specs.Prelude.{◌||◌}
use Rattle.fort_base.specs.declared.refusal.Gap.{Gap}
use Rattle.fort_base.specs.declared.refusal.Gap.TheVariants as gap
use Rattle.fort_ops.specs.declared.op.Op.TheVariants as op
use Rattle.fort_lex_token.specs.declared.token.Kind.{Kind}
use Rattle.fort_lex_token.specs.declared.token.Kind.TheVariants as kind
use Rattle.fort_lex_token.specs.declared.token.Token.{Token}
use Rattle.fort_lex_token.specs.declared.marks.Mark.{Mark}
use Rattle.fort_lex_token.specs.declared.marks.Mark.TheVariants as mark
use Rattle.fort_lex_token.specs.declared.reserved.Reserved.{Reserved}
use Rattle.fort_lex_token.specs.declared.reserved.Reserved.TheVariants as reserved
use Rattle.fort_tree.specs.declared.spot.Spot.{Spot}
use Rattle.fort_tree.specs.declared.delimited.Item.{Item}
use Rattle.fort_tree.specs.Tokens.{Spellings, is_empty, is_line, word, colon}
use Rattle.fort_tree.specs.Said.{Said, elsewhere}
use Rattle.fort_tree.specs.Blocks.{after_var}
use Rattle.fort_tree.specs.Yield.{said_expr, said_item}
use Rattle.fort_tree.proofs.SaysBlocks.{says-Variable, says-Names, says-Expr, variable_says}
use Rattle.fort_tree.proofs.CasesBlocks.{cases_item}
use Rattle.fort_tree.specs.declared.declarations.Variable.{out-Variable}
use Rattle.fort_parse_reading.specs.Words.{is_mark, is_range, sees}
use Rattle.fort_parse_reading.proofs.Taking.{not_mark, not_this, is_range_is}
use Rattle.fort_parse_reading.proofs.Yields.{right_true, false_right}
use Rattle.fort_parse_types.specs.Types.{begins_type, mark_begins_type}
use Rattle.fort_parse_first.specs.Beginnings.{word_begins_atom, begins_atom, begins_postfix, begins_run_part, is_prefix, begins_unit, begins_flat_part, begins_head, assigns, mark_assigns, begins_expr, begins_item_kind, begins_apart_of}
use Rattle.fort_parse.proofs.Firsts.{expr_begins}
use Rattle.fort_parse.proofs.Stops.{word_ends_expr}
use Rattle.fort_parse.proofs.Statements.{flat_stops, expr_stops}

-- ---- each beginning of an item

unit_is_expr : (k : Kind) → begins_unit true k ≡ true → begins_expr k ≡ true
unfolding begins_expr
unit_is_expr k e = rw e refl

word_begins_item : (w : Reserved) → begins_expr (kind.Word w) ≡ true
    → begins_item_kind (kind.Word w) ≡ true
unfolding begins_expr begins_unit begins_atom is_prefix begins_head begins_item_kind
word_begins_item reserved.True e = refl
word_begins_item reserved.False e = refl
word_begins_item reserved.Self_ e = refl
word_begins_item reserved.Array e = refl
word_begins_item reserved.Do e = refl
word_begins_item reserved.If e = refl
word_begins_item reserved.While e = refl
word_begins_item reserved.For e = refl
word_begins_item reserved.Case e = refl
word_begins_item reserved.Typecase e = refl
word_begins_item reserved.Try e = refl
word_begins_item reserved.Atomic e = refl
word_begins_item reserved.Tryatomic e = refl
word_begins_item reserved.Throw e = refl
word_begins_item reserved.Spawn e = refl
word_begins_item reserved.Fn e = refl
word_begins_item reserved.Sum e = refl
word_begins_item reserved.Prod e = refl
word_begins_item reserved.Big e = refl
word_begins_item _ e = absurd cc

pub expr_is_item : (k : Kind) → begins_expr k ≡ true → begins_item_kind k ≡ true
unfolding begins_item_kind
expr_is_item (kind.Word w) e = word_begins_item w e
expr_is_item (kind.Name v) e = e
expr_is_item (kind.Number v) e = e
expr_is_item (kind.Text v) e = e
expr_is_item (kind.Op v) e = e
expr_is_item (kind.Mark v) e = e

pub unit_is_item : (k : Kind) → begins_unit true k ≡ true → begins_item_kind k ≡ true
unit_is_item k e = expr_is_item k (unit_is_expr k e)

mark_type_item : (m : Mark) → mark_begins_type m ≡ true → begins_item_kind (kind.Mark m) ≡ true
unfolding begins_item_kind begins_expr begins_unit begins_atom
mark_type_item mark.OpenParen e = refl
mark_type_item _ e = absurd cc

pub type_is_item : (k : Kind) → begins_type k ≡ true → begins_item_kind k ≡ true
unfolding begins_type begins_item_kind begins_expr begins_unit begins_atom
type_is_item (kind.Word w) e = absurd cc
type_is_item (kind.Name v) e = refl
type_is_item (kind.Number v) e = absurd cc
type_is_item (kind.Text v) e = absurd cc
type_is_item (kind.Op v) e = absurd cc
type_is_item (kind.Mark v) e = mark_type_item v e

variable_at : (var : Option Spot) (x : Said) → begins_item_kind x.first.kind ≡ true
    → begins_item_kind (after_var var x).first.kind ≡ true
unfolding begins_item_kind
variable_at None x e = e
variable_at (Some s) x e = refl

name_is_item : (v : _) → begins_item_kind (kind.Name v) ≡ true
unfolding begins_item_kind begins_expr begins_unit begins_atom
name_is_item v = refl

paren_is_item : begins_item_kind (kind.Mark mark.OpenParen) ≡ true
unfolding begins_item_kind begins_expr begins_unit begins_atom
paren_is_item = refl

pub item_begins : (names : Spellings) (i : Item) → (said_item i).obeys names elsewhere ≡ true
    → begins_item_kind (said_item i).first.kind ≡ true
item_begins names = cases_item (λ i. (said_item i).obeys names elsewhere ≡ true
    → begins_item_kind (said_item i).first.kind ≡ true)
    (λ v ob. rw (says-Variable v, variable_says v)
    (variable_at (out-Variable v).var _ (name_is_item _)))
    (λ a b c d e f g h ob. rw (says-Names a b c d e f g h) paren_is_item)
    (λ e ob. let own = rw (says-Expr e) at ob
    in rw (says-Expr e)
    (expr_is_item (said_expr e).first.kind
    (expr_begins names false e (right_true _ _ own))))

-- ---- what ends an expression

line_empty : (g : Gap) → is_line g ≡ true → is_empty g ≡ false
line_empty gap.Empty e = absurd cc
line_empty gap.Space e = refl
line_empty gap.Line e = refl

-- a new line ends a flat expression
pub line_stops : (blocks : Bool) (t : Token) → is_line t.gap ≡ true
    → flat_stops false blocks (Some t) ≡ true
unfolding begins_run_part begins_flat_part
line_stops blocks t e = rw (line_empty t.gap e, e) refl

-- what follows an item or a clause without a `;`
pub record Stops (next : Option Token) : Type 0 where
  pub expr : expr_stops false next ≡ true
  pub colon : sees is_range next ≡ false
  pub semicolon : sees (is_mark mark.Semicolon) next ≡ false

mark_assigns_not : (m : Mark) → begins_item_kind (kind.Mark m) ≡ true → mark_assigns m ≡ false
unfolding begins_item_kind begins_expr begins_unit begins_atom is_prefix begins_head
mark_assigns_not mark.OpenParen e = refl
mark_assigns_not _ e = absurd cc

assigns_not : (k : Kind) → begins_item_kind k ≡ true → assigns k ≡ false
unfolding assigns
assigns_not (kind.Word w) e = refl
assigns_not (kind.Name v) e = refl
assigns_not (kind.Number v) e = refl
assigns_not (kind.Text v) e = refl
assigns_not (kind.Op v) e = refl
assigns_not (kind.Mark m) e = mark_assigns_not m e

colon_not : (k : Kind) → begins_item_kind k ≡ true → is_range k ≡ false
unfolding begins_item_kind begins_expr begins_unit begins_atom is_prefix begins_head
colon_not k e = not_this begins_item_kind is_range (kind.Op op.Range) is_range_is refl k e

semicolon_not : (k : Kind) → begins_item_kind k ≡ true → is_mark mark.Semicolon k ≡ false
unfolding begins_item_kind begins_expr begins_unit begins_atom is_prefix begins_head
semicolon_not k e = not_mark begins_item_kind mark.Semicolon refl k e

-- a token on a new line that may begin an item ends the one before
pub new_line : (t : Token) → is_line t.gap ≡ true → begins_item_kind t.kind ≡ true → Stops (Some t)
unfolding sees
new_line t e f =
    record {
      expr = rw (line_stops true t e, assigns_not t.kind f) refl;
      colon = colon_not t.kind f;
      semicolon = semicolon_not t.kind f;
    }

-- ---- what ends a block

-- whether a reserved word ends a block
abbrev pub word_ends : Reserved → Bool
word_ends reserved.End = true
word_ends reserved.Also = true
word_ends reserved.Elif = true
word_ends reserved.Else = true
word_ends reserved.Catch = true
word_ends reserved.Finally = true
word_ends _ = false

-- What ends a block or clauses: a word that begins no item.
pub record Ends (next : Option Token) : Type 0 where
  pub stops : Stops next
  pub item : (ready : Bool) → begins_apart_of begins_item_kind ready next ≡ false
  pub clause : (ready : Bool) → begins_apart_of (begins_unit true) ready next ≡ false
  pub types : (ready : Bool) → begins_apart_of begins_type ready next ≡ false

ends_all : (w : Reserved) (s : Spot) → word_begins_atom true w ≡ false
    → begins_item_kind (kind.Word w) ≡ false → Ends (Some (word w s))
unfolding begins_apart_of begins_unit begins_atom is_prefix begins_type sees is_range is_mark
ends_all w s e f = record {
  stops = record { expr = word_ends_expr false w s e; colon = refl; semicolon = refl };
  item = λ ready. rw f (false_right (ready || is_line s.gap));
  clause = λ ready. rw e (false_right (ready || is_line s.gap));
  types = λ ready. false_right (ready || is_line s.gap);
}

-- a word that ends a block does
pub ends_with : (w : Reserved) (s : Spot) → word_ends w ≡ true → Ends (Some (word w s))
unfolding begins_item_kind
ends_with reserved.End s e = ends_all reserved.End s refl refl
ends_with reserved.Also s e = ends_all reserved.Also s refl refl
ends_with reserved.Elif s e = ends_all reserved.Elif s refl refl
ends_with reserved.Else s e = ends_all reserved.Else s refl refl
ends_with reserved.Catch s e = ends_all reserved.Catch s refl refl
ends_with reserved.Finally s e = ends_all reserved.Finally s refl refl
ends_with _ s e = absurd cc

-- a `:` goes on with no run
pub colon_parts : (s : Spot) → begins_run_part true (Some (colon s)) ≡ false
unfolding begins_run_part begins_atom begins_postfix
colon_parts s = false_right (is_empty s.gap)
