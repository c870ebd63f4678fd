-- What ends a flat expression and an expression.
use Rattle.std.proofs.Common.{◌≡◌, Bool, true, false, Option, Some, None, refl}
use Rattle.std.specs.Prelude.{◌&&◌, ◌||◌, not}
use Rattle.fort_lex_token.specs.declared.token.Token.{Token}
use Rattle.fort_lex_token.specs.declared.marks.Mark.{Mark}
use Rattle.fort_lex_token.specs.declared.marks.Mark.TheVariants as mark
use Rattle.fort_lex_token.specs.declared.reserved.Reserved.{Reserved}
use Rattle.fort_tree.specs.declared.spot.Spot.{Spot}
use Rattle.fort_tree.specs.declared.expr.AssignSign.{AssignSign}
use Rattle.fort_tree.specs.declared.expr.AssignSign.TheVariants as assign_sign
use Rattle.fort_tree.specs.Tokens.{marked, word, is_empty, is_line}
use Rattle.fort_tree.specs.Flats.{assign_token}
use Rattle.fort_parse_reading.specs.Words.{sees}
use Rattle.fort_parse_reading.proofs.Yields.{both, left_true, right_true, false_right, is_not}
use Rattle.fort_parse_first.specs.Beginnings.{word_begins_atom, mark_begins_atom, begins_atom, mark_begins_postfix, begins_postfix, begins_run_part, is_infix_kind, begins_flat_part, mark_assigns, assigns}
use Rattle.fort_parse.proofs.Statements.{allowing, flat_stops, expr_stops}

pub stops_run : (lines blocks : Bool) (next : Option Token) → flat_stops lines blocks next ≡ true
    → begins_run_part blocks next ≡ false
stops_run lines blocks next e = is_not _ (left_true _ _ e)

pub stops_part : (lines blocks : Bool) (next : Option Token) → flat_stops lines blocks next ≡ true
    → begins_flat_part (allowing lines blocks) next ≡ false
stops_part lines blocks next e = is_not _ (right_true _ _ e)

pub stops_flat : (lines : Bool) (next : Option Token) → expr_stops lines next ≡ true
    → flat_stops lines true next ≡ true
stops_flat lines next e = left_true _ _ e

pub stops_assigns : (lines : Bool) (next : Option Token) → expr_stops lines next ≡ true
    → sees assigns next ≡ false
stops_assigns lines next e = is_not _ (right_true _ _ e)

ends_run : (blocks : Bool) (t : Token) → begins_atom blocks t.kind ≡ false
    → begins_postfix t.kind ≡ false → begins_run_part blocks (Some t) ≡ false
unfolding begins_run_part
ends_run blocks t e f = rw (e, f) (false_right (is_empty t.gap))

ends_part : (lines blocks : Bool) (t : Token) → begins_atom blocks t.kind ≡ false
    → is_infix_kind t.kind ≡ false → begins_flat_part (allowing lines blocks) (Some t) ≡ false
unfolding begins_flat_part
ends_part lines blocks t e f =
    rw (e, f, false_right (not (is_empty t.gap))) (false_right (lines || not (is_line t.gap)))

-- a token that begins neither an atom nor a postfix and is no infix operator ends a flat expression
pub ends_flat : (lines blocks : Bool) (t : Token) → begins_atom blocks t.kind ≡ false
    → begins_postfix t.kind ≡ false → is_infix_kind t.kind ≡ false
    → flat_stops lines blocks (Some t) ≡ true
ends_flat lines blocks t e f g = rw (ends_run blocks t e f, ends_part lines blocks t e g) refl

pub ends_expr : (lines : Bool) (t : Token) → begins_atom true t.kind ≡ false
    → begins_postfix t.kind ≡ false → is_infix_kind t.kind ≡ false → assigns t.kind ≡ false
    → expr_stops lines (Some t) ≡ true
unfolding sees
ends_expr lines t e f g h = both _ _ (ends_flat lines true t e f g) (rw h refl)

-- of symbols
pub mark_ends_flat : (lines blocks : Bool) (m : Mark) (s : Spot) → mark_begins_atom m ≡ false
    → mark_begins_postfix m ≡ false → flat_stops lines blocks (Some (marked m s)) ≡ true
unfolding begins_atom begins_postfix is_infix_kind
mark_ends_flat lines blocks m s e f = ends_flat lines blocks (marked m s) e f refl

pub mark_ends_expr : (lines : Bool) (m : Mark) (s : Spot) → mark_begins_atom m ≡ false
    → mark_begins_postfix m ≡ false → mark_assigns m ≡ false
    → expr_stops lines (Some (marked m s)) ≡ true
unfolding begins_atom begins_postfix is_infix_kind assigns
mark_ends_expr lines m s e f g = ends_expr lines (marked m s) e f refl g

-- of reserved words
pub word_ends_flat : (lines blocks : Bool) (w : Reserved) (s : Spot)
    → word_begins_atom blocks w ≡ false → flat_stops lines blocks (Some (word w s)) ≡ true
unfolding begins_atom begins_postfix is_infix_kind
word_ends_flat lines blocks w s e = ends_flat lines blocks (word w s) e refl refl

pub word_ends_expr : (lines : Bool) (w : Reserved) (s : Spot) → word_begins_atom true w ≡ false
    → expr_stops lines (Some (word w s)) ≡ true
unfolding begins_atom begins_postfix is_infix_kind assigns
word_ends_expr lines w s e = ends_expr lines (word w s) e refl refl refl

-- the end ends everything
pub nothing_ends_flat : (lines blocks : Bool) → flat_stops lines blocks None ≡ true
unfolding begins_run_part begins_flat_part
nothing_ends_flat lines blocks = refl

pub nothing_ends_expr : (lines : Bool) → expr_stops lines None ≡ true
unfolding begins_run_part begins_flat_part sees
nothing_ends_expr lines = refl

-- the sign of an assignment ends a target
pub assign_ends_flat : (lines : Bool) (sign : AssignSign)
    → flat_stops lines true (Some (assign_token sign)) ≡ true
assign_ends_flat lines (assign_sign.Becomes s) = mark_ends_flat lines true mark.Becomes s refl refl
assign_ends_flat lines (assign_sign.AddBecomes s) =
    mark_ends_flat lines true mark.AddBecomes s refl refl
assign_ends_flat lines (assign_sign.SubtractBecomes s) =
    mark_ends_flat lines true mark.SubtractBecomes s refl refl

pub assign_assigns : (sign : AssignSign) → sees assigns (Some (assign_token sign)) ≡ true
unfolding sees assigns
assign_assigns (assign_sign.Becomes s) = refl
assign_assigns (assign_sign.AddBecomes s) = refl
assign_assigns (assign_sign.SubtractBecomes s) = refl

-- what ends a flat expression in brackets ends one outside
fewer : (lines line b : Bool) → ((lines || not line) && b) ≡ false → (not line && b) ≡ false
fewer true true b e = refl
fewer true false b e = e
fewer false line b e = e

pub fewer_parts : (lines blocks : Bool) (next : Option Token)
    → begins_flat_part (allowing lines blocks) next ≡ false
    → begins_flat_part (allowing false blocks) next ≡ false
unfolding begins_flat_part
fewer_parts lines blocks None e = refl
fewer_parts lines blocks (Some t) e = fewer lines (is_line t.gap) _ e
