-- What may follow a declaration or a member without a `;`.
use Rattle.std.proofs.Common.{◌≡◌, Bool, true, false, ◌++◌, Option, Some, None, refl}
use Rattle.std.specs.Prelude.{◌||◌}
use Rattle.fort_ops.specs.declared.op.Op.TheVariants as op
use Rattle.fort_lex_token.specs.declared.token.Kind.{Kind}
use Rattle.fort_lex_token.specs.declared.token.Kind.TheVariants as kind
use Rattle.fort_lex_token.specs.declared.token.Token.{Token}
use Rattle.fort_lex_token.specs.declared.marks.Mark.TheVariants as mark
use Rattle.fort_lex_token.specs.declared.reserved.Reserved.TheVariants as reserved
use Rattle.fort_tree.specs.declared.spot.Spot.{Spot}
use Rattle.fort_tree.specs.Tokens.{marked, word, is_line}
use Rattle.fort_tree.specs.Said.{semicolon_tokens}
use Rattle.fort_parse_reading.specs.Parser.{Row, next_of}
use Rattle.fort_parse_reading.specs.Words.{is_mark, is_eq, same_mark, sees}
use Rattle.fort_parse_reading.proofs.Taking.{not_mark, not_this, is_eq_is}
use Rattle.fort_parse_reading.proofs.Yields.{both, false_right}
use Rattle.fort_parse_types.proofs.Complete.{type_stops, type_stops_at}
use Rattle.fort_parse_first.specs.Beginnings.{assigns, begins_apart_of}
use Rattle.fort_parse.proofs.Statements.{expr_stops}
use Rattle.fort_parse.proofs.FormFirsts.{line_stops}
use Rattle.fort_parse.proofs.Stops.{mark_ends_expr, word_ends_expr}
use Rattle.fort_parse.proofs.Entries.{StopsAfter}
use Rattle.fort_parse_first.specs.Declarations.{begins_declaration_kind, begins_trait_member, begins_object_member}

-- what ends a declaration or a member
pub record Follows (next : Option Token) : Type 0 where
  pub expr : expr_stops false next ≡ true
  pub type : type_stops next ≡ true
  pub eq : sees is_eq next ≡ false
  pub semicolon : sees (is_mark mark.Semicolon) next ≡ false

sees_at : (f : Kind → Bool) (t : Token) (b : Bool) → f t.kind ≡ b → sees f (Some t) ≡ b
unfolding sees
sees_at f t b e = e

-- a token on a new line ends what stands before it, where it is of kinds that are no sign, bracket
-- or operator
line_follows : (f : Kind → Bool) → f (kind.Mark mark.OpenStatic) ≡ false
    → f (kind.Mark mark.RightArrow) ≡ false → f (kind.Mark mark.Semicolon) ≡ false
    → f (kind.Op op.Eq) ≡ false
    → ((k : Kind) → f k ≡ true → assigns k ≡ false) → (t : Token) → is_line t.gap ≡ true
    → f t.kind ≡ true → Follows (Some t)
line_follows f e1 e2 e3 e4 none t line is = record {
  expr = both _ _ (line_stops true t line) (rw (sees_at assigns t false (none t.kind is)) refl);
  type = type_stops_at t (not_mark f mark.OpenStatic e1 t.kind is)
      (not_mark f mark.RightArrow e2 t.kind is);
  eq = sees_at is_eq t false (not_this f is_eq (kind.Op op.Eq) is_eq_is e4 t.kind is);
  semicolon = sees_at (is_mark mark.Semicolon) t false (not_mark f mark.Semicolon e3 t.kind is);
}

declaration_assigns : (k : Kind) → begins_declaration_kind k ≡ true → assigns k ≡ false
unfolding begins_declaration_kind assigns
declaration_assigns (kind.Word v) e = refl
declaration_assigns (kind.Name v) e = refl
declaration_assigns (kind.Number v) e = refl
declaration_assigns (kind.Text v) e = refl
declaration_assigns (kind.Op v) e = refl
declaration_assigns (kind.Mark v) e = absurd cc

trait_assigns : (k : Kind) → begins_trait_member k ≡ true → assigns k ≡ false
unfolding begins_trait_member assigns
trait_assigns (kind.Word v) e = refl
trait_assigns (kind.Name v) e = refl
trait_assigns (kind.Number v) e = refl
trait_assigns (kind.Text v) e = refl
trait_assigns (kind.Op v) e = refl
trait_assigns (kind.Mark v) e = absurd cc

object_assigns : (k : Kind) → begins_object_member k ≡ true → assigns k ≡ false
unfolding begins_object_member assigns
object_assigns (kind.Word v) e = refl
object_assigns (kind.Name v) e = refl
object_assigns (kind.Number v) e = refl
object_assigns (kind.Text v) e = refl
object_assigns (kind.Op v) e = refl
object_assigns (kind.Mark v) e = absurd cc

pub declaration_follows : (t : Token) → is_line t.gap ≡ true → begins_declaration_kind t.kind ≡ true
    → Follows (Some t)
unfolding begins_declaration_kind
declaration_follows t line e =
    line_follows begins_declaration_kind refl refl refl refl declaration_assigns t line e

pub trait_follows : (t : Token) → is_line t.gap ≡ true → begins_trait_member t.kind ≡ true
    → Follows (Some t)
unfolding begins_trait_member
trait_follows t line e = line_follows begins_trait_member refl refl refl refl trait_assigns t line e

pub object_follows : (t : Token) → is_line t.gap ≡ true → begins_object_member t.kind ≡ true
    → Follows (Some t)
unfolding begins_object_member
object_follows t line e =
    line_follows begins_object_member refl refl refl refl object_assigns t line e

-- `end` ends all
pub end_follows : (s : Spot) → Follows (Some (word reserved.End s))
unfolding sees is_mark is_eq
end_follows s =
    record {
      expr = word_ends_expr false reserved.End s refl;
      type = type_stops_at (word reserved.End s) refl refl;
      eq = refl;
      semicolon = refl;
    }

-- so does a `;`, but for itself
pub record Ended (next : Option Token) : Type 0 where
  pub expr : expr_stops false next ≡ true
  pub type : type_stops next ≡ true
  pub eq : sees is_eq next ≡ false

pub ended : (s : Option Spot) (rest : Row) → StopsAfter Follows s (next_of rest)
    → Ended (next_of (semicolon_tokens s ++ rest))
unfolding sees is_mark is_eq same_mark
ended None rest h = record { expr = h.expr; type = h.type; eq = h.eq }
ended (Some s) rest h =
    record {
      expr = mark_ends_expr false mark.Semicolon s refl refl refl;
      type = type_stops_at (marked mark.Semicolon s) refl refl;
      eq = refl;
    }

pub end_begins_no_declaration : (ready : Bool) (s : Spot)
    → begins_apart_of begins_declaration_kind ready (Some (word reserved.End s)) ≡ false
unfolding begins_apart_of begins_declaration_kind
end_begins_no_declaration ready s = false_right (ready || is_line s.gap)

pub end_begins_no_trait_member : (ready : Bool) (s : Spot)
    → begins_apart_of begins_trait_member ready (Some (word reserved.End s)) ≡ false
unfolding begins_apart_of begins_trait_member
end_begins_no_trait_member ready s = false_right (ready || is_line s.gap)

pub end_begins_no_object_member : (ready : Bool) (s : Spot)
    → begins_apart_of begins_object_member ready (Some (word reserved.End s)) ≡ false
unfolding begins_apart_of begins_object_member
end_begins_no_object_member ready s = false_right (ready || is_line s.gap)
