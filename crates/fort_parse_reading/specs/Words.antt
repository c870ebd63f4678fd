-- The tokens that the productions take one by one, and the tests on the next token.
use Rattle.std.specs.Prelude.{ℕ, Bool, true, false, ◌&&◌, if◌then◌else◌, List, [], Option, Some, None, nat_eq, get_or}
use Rattle.std.specs.Cmp.Lexicographic.{pointwise}
use denote.Enum.Bare.{sameb}
use Rattle.fort_ops.specs.declared.op.Op.{Op}
use Rattle.fort_ops.specs.declared.op.Op.TheVariants as op
use Rattle.fort_lex_token.specs.declared.token.Kind.{Kind}
use Rattle.fort_lex_token.specs.declared.token.Kind.TheVariants as kind
use Rattle.fort_lex_token.specs.declared.token.Token.{Token}
use Rattle.fort_lex_token.specs.declared.marks.Mark.{Mark}
use Rattle.fort_lex_token.specs.declared.marks.Mark.TheVariants as mark
use Rattle.fort_lex_token.specs.contracts.marks.Mark as mark_contract
use Rattle.fort_lex_token.specs.declared.reserved.Reserved.{Reserved}
use Rattle.fort_lex_token.specs.contracts.reserved.Reserved as reserved_contract
use Rattle.fort_tree.specs.declared.spot.Spot.{Spot}
use Rattle.fort_tree.specs.declared.spot.Name.{Name}
use Rattle.fort_tree.specs.declared.spot.Sign.{Sign}
use Rattle.fort_tree.specs.declared.expr.AssignSign.{AssignSign}
use Rattle.fort_tree.specs.declared.expr.AssignSign.TheVariants as assign_sign
use Rattle.fort_tree.specs.declared.expr.Big.{Big}
use Rattle.fort_tree.specs.declared.expr.Big.TheVariants as big_word
use Rattle.fort_tree.specs.declared.expr.Prefix.{Prefix}
use Rattle.fort_tree.specs.declared.expr.Prefix.TheVariants as a_prefix
use Rattle.fort_tree.specs.declared.declarations.InitialSign.{InitialSign}
use Rattle.fort_tree.specs.declared.declarations.InitialSign.TheVariants as initial_sign
use Rattle.fort_tree.specs.Tokens.{Spellings, is_empty, is_infix}

-- ---- one kind of token

-- whether two symbols are one
unfoldable pub same_mark : Mark → Mark → Bool
same_mark = sameb mark_contract.the_type

-- whether two reserved words are one
unfoldable pub same_word : Reserved → Reserved → Bool
same_word = sameb reserved_contract.the_type

-- whether a token is this symbol
unfoldable pub is_mark : Mark → Kind → Bool
is_mark m (kind.Mark k) = same_mark k m
is_mark m _ = false

-- whether a token is this reserved word
unfoldable pub is_word : Reserved → Kind → Bool
is_word w (kind.Word v) = same_word v w
is_word w _ = false

-- whether a token is `:`
unfoldable pub is_range : Kind → Bool
is_range (kind.Op op.Range) = true
is_range _ = false

-- whether a token is `=`
unfoldable pub is_eq : Kind → Bool
is_eq (kind.Op op.Eq) = true
is_eq _ = false

-- whether a token is `^`
unfoldable pub is_power : Kind → Bool
is_power (kind.Op op.Power) = true
is_power _ = false

-- where a token stands
abbrev pub spot_of : Token → Spot
spot_of t = record { gap = t.gap; place = t.place }

-- where a token stands, if it is of these
abbrev pub spot_if : (Kind → Bool) → Token → Option Spot
spot_if f t = if f t.kind then Some (spot_of t) else None

-- what a token is taken as, if no gap stands before it
abbrev pub tight : {A : Type 0} → (Token → Option A) → Token → Option A
tight take t = if is_empty t.gap then take t else None

-- ---- tokens that say more than where they stand

abbrev pub name_in : Spot → Kind → Option Name
name_in s (kind.Name id) = Some (record { id = id; spot = s })
name_in s _ = None

-- the name that a token is
unfoldable pub name_of : Token → Option Name
name_of t = name_in (spot_of t) t.kind

-- whether a name is this word
unfoldable pub is_called : List ℕ → Spellings → Name → Bool
is_called word names name = pointwise nat_eq (get_or names name.id.0 []) word

abbrev pub called_if : List ℕ → Spellings → Option Name → Option Name
called_if word names None = None
called_if word names (Some name) = if is_called word names name then Some name else None

-- the name that a token is, if it is this word
unfoldable pub called_of : List ℕ → Spellings → Token → Option Name
called_of word names t = called_if word names (name_of t)

abbrev pub sign_if : Spot → Op → Option Sign
sign_if s o = if is_infix o then Some (record { op = o; spot = s }) else None

abbrev pub sign_in : Spot → Kind → Option Sign
sign_in s (kind.Op o) = sign_if s o
sign_in s _ = None

-- the infix operator that a token is
unfoldable pub sign_of : Token → Option Sign
sign_of t = sign_in (spot_of t) t.kind

abbrev pub prefix_op : Spot → Op → Option Prefix
prefix_op s op.Minus = Some (a_prefix.Minus s)
prefix_op s op.Not = Some (a_prefix.Not s)
prefix_op s _ = None

abbrev pub prefix_in : Spot → Kind → Option Prefix
prefix_in s (kind.Op o) = prefix_op s o
prefix_in s _ = None

-- the prefix operator that a token is
unfoldable pub prefix_of : Token → Option Prefix
prefix_of t = prefix_in (spot_of t) t.kind

abbrev pub assign_mark : Spot → Mark → Option AssignSign
assign_mark s mark.Becomes = Some (assign_sign.Becomes s)
assign_mark s mark.AddBecomes = Some (assign_sign.AddBecomes s)
assign_mark s mark.SubtractBecomes = Some (assign_sign.SubtractBecomes s)
assign_mark s _ = None

abbrev pub assign_in : Spot → Kind → Option AssignSign
assign_in s (kind.Mark m) = assign_mark s m
assign_in s _ = None

-- the sign of an assignment that a token is
unfoldable pub assign_of : Token → Option AssignSign
assign_of t = assign_in (spot_of t) t.kind

abbrev pub initial_op : Spot → Op → Option InitialSign
initial_op s op.Eq = Some (initial_sign.Equals s)
initial_op s _ = None

abbrev pub initial_mark : Spot → Mark → Option InitialSign
initial_mark s mark.Becomes = Some (initial_sign.Becomes s)
initial_mark s _ = None

abbrev pub initial_in : Spot → Kind → Option InitialSign
initial_in s (kind.Op o) = initial_op s o
initial_in s (kind.Mark m) = initial_mark s m
initial_in s _ = None

-- the sign before an initial that a token is
unfoldable pub initial_of : Token → Option InitialSign
initial_of t = initial_in (spot_of t) t.kind

abbrev pub big_op : Spot → Spot → Op → Option Big
big_op big s op.Max = Some (big_word.Max big s)
big_op big s op.Min = Some (big_word.Min big s)
big_op big s op.And = Some (big_word.And big s)
big_op big s op.Or = Some (big_word.Or big s)
big_op big s _ = None

abbrev pub big_in : Spot → Spot → Kind → Option Big
big_in big s (kind.Op o) = big_op big s o
big_in big s _ = None

-- the reduction that `BIG` at that spot and this token are
unfoldable pub big_of : Spot → Token → Option Big
big_of big t = big_in big (spot_of t) t.kind

-- ---- tests on the next token

-- whether the next token is of these
unfoldable pub sees : (Kind → Bool) → Option Token → Bool
sees f None = false
sees f (Some t) = f t.kind

-- whether the next token is of these and no gap stands before it
unfoldable pub sees_tight : (Kind → Bool) → Option Token → Bool
sees_tight f None = false
sees_tight f (Some t) = is_empty t.gap && f t.kind
