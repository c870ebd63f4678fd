-- The tokens with which parts of an expression begin.
use Rattle.std.specs.Prelude.{Bool, true, false, ◌&&◌, ◌||◌, not, Option, Some, None}
use Rattle.fort_ops.specs.declared.op.Op.{Op}
use Rattle.fort_ops.specs.declared.op.Op.TheVariants as op
use Rattle.fort_lex_token.specs.declared.token.Kind.{Kind}
use Rattle.fort_lex_token.specs.declared.token.Kind.TheVariants as kind
use Rattle.fort_lex_token.specs.declared.token.Token.{Token}
use Rattle.fort_lex_token.specs.declared.marks.Mark.{Mark}
use Rattle.fort_lex_token.specs.declared.marks.Mark.TheVariants as mark
use Rattle.fort_lex_token.specs.declared.reserved.Reserved.{Reserved}
use Rattle.fort_lex_token.specs.declared.reserved.Reserved.TheVariants as reserved
use Rattle.fort_tree.specs.Tokens.{is_empty, is_line, is_infix}
use Rattle.fort_tree.specs.Said.{Allowed}
use Rattle.fort_parse_reading.specs.Words.{is_word}
use Rattle.fort_parse_types.specs.Types.{begins_type}

-- whether a reserved word begins an atom, where `do` may or may not begin one
abbrev pub word_begins_atom : Bool → Reserved → Bool
word_begins_atom blocks reserved.True = true
word_begins_atom blocks reserved.False = true
word_begins_atom blocks reserved.Self_ = true
word_begins_atom blocks reserved.Array = true
word_begins_atom blocks reserved.Do = blocks
word_begins_atom blocks reserved.If = true
word_begins_atom blocks reserved.While = true
word_begins_atom blocks reserved.For = true
word_begins_atom blocks reserved.Case = true
word_begins_atom blocks reserved.Typecase = true
word_begins_atom blocks reserved.Try = true
word_begins_atom blocks _ = false

-- whether a symbol begins an atom
abbrev pub mark_begins_atom : Mark → Bool
mark_begins_atom mark.OpenParen = true
mark_begins_atom _ = false

-- whether a token begins an atom
unfoldable pub begins_atom : Bool → Kind → Bool
begins_atom blocks (kind.Word w) = word_begins_atom blocks w
begins_atom blocks (kind.Name v) = true
begins_atom blocks (kind.Number v) = true
begins_atom blocks (kind.Text v) = true
begins_atom blocks (kind.Op o) = false
begins_atom blocks (kind.Mark m) = mark_begins_atom m

-- whether a symbol begins a postfix
abbrev pub mark_begins_postfix : Mark → Bool
mark_begins_postfix mark.OpenBracket = true
mark_begins_postfix mark.Dot = true
mark_begins_postfix _ = false

-- whether an operator begins a postfix
abbrev pub op_begins_postfix : Op → Bool
op_begins_postfix op.Power = true
op_begins_postfix _ = false

-- whether a token begins a postfix
unfoldable pub begins_postfix : Kind → Bool
begins_postfix (kind.Op o) = op_begins_postfix o
begins_postfix (kind.Mark m) = mark_begins_postfix m
begins_postfix _ = false

-- whether the next token begins a further part of a run
unfoldable pub begins_run_part : Bool → Option Token → Bool
begins_run_part blocks None = false
begins_run_part blocks (Some t) =
    is_empty t.gap && (begins_atom blocks t.kind || begins_postfix t.kind)

-- whether an operator is a prefix operator
abbrev pub op_is_prefix : Op → Bool
op_is_prefix op.Minus = true
op_is_prefix op.Not = true
op_is_prefix _ = false

-- whether a token is a prefix operator
unfoldable pub is_prefix : Kind → Bool
is_prefix (kind.Op o) = op_is_prefix o
is_prefix _ = false

-- whether a token begins a unit
unfoldable pub begins_unit : Bool → Kind → Bool
begins_unit blocks k = begins_atom blocks k || is_prefix k

-- whether a token is an infix operator
unfoldable pub is_infix_kind : Kind → Bool
is_infix_kind (kind.Op o) = is_infix o
is_infix_kind _ = false

-- whether the next token begins a further part of a flat expression
unfoldable pub begins_flat_part : Allowed → Option Token → Bool
begins_flat_part allowed None = false
begins_flat_part allowed (Some t) =
    (allowed.lines || not (is_line t.gap))
    && (is_infix_kind t.kind || (not (is_empty t.gap) && begins_atom allowed.blocks t.kind))

-- whether a reserved word begins a head
abbrev pub word_begins_head : Reserved → Bool
word_begins_head reserved.Atomic = true
word_begins_head reserved.Tryatomic = true
word_begins_head reserved.Throw = true
word_begins_head reserved.Spawn = true
word_begins_head reserved.Fn = true
word_begins_head reserved.Sum = true
word_begins_head reserved.Prod = true
word_begins_head reserved.Big = true
word_begins_head _ = false

-- whether a token begins a head
unfoldable pub begins_head : Kind → Bool
begins_head (kind.Word w) = word_begins_head w
begins_head _ = false

-- whether a symbol is the sign of an assignment
abbrev pub mark_assigns : Mark → Bool
mark_assigns mark.Becomes = true
mark_assigns mark.AddBecomes = true
mark_assigns mark.SubtractBecomes = true
mark_assigns _ = false

-- whether a token is the sign of an assignment
unfoldable pub assigns : Kind → Bool
assigns (kind.Mark m) = mark_assigns m
assigns _ = false

-- whether a token begins an expression
unfoldable pub begins_expr : Kind → Bool
begins_expr k = begins_unit true k || begins_head k

-- whether a reserved word begins a declaration of a local
abbrev pub word_begins_local : Reserved → Bool
word_begins_local reserved.Var = true
word_begins_local _ = false

-- whether a token begins an item of a block
unfoldable pub begins_item_kind : Kind → Bool
begins_item_kind (kind.Word w) =
    word_begins_local w || (word_begins_head w || word_begins_atom true w)
begins_item_kind k = begins_expr k

-- Whether the next token begins an item or a clause of these: behind a `;`, or on a new line.
unfoldable pub begins_apart_of : (Kind → Bool) → Bool → Option Token → Bool
begins_apart_of f ready None = false
begins_apart_of f ready (Some t) = (ready || is_line t.gap) && f t.kind

-- whether the next token begins a further item of a block
unfoldable pub begins_item : Bool → Option Token → Bool
begins_item ready next = begins_apart_of begins_item_kind ready next

-- whether the next token begins a further clause of a `case`
unfoldable pub begins_case_clause : Bool → Option Token → Bool
begins_case_clause ready next = begins_apart_of (begins_unit true) ready next

-- whether the next token begins a further clause of types
unfoldable pub begins_type_clause : Bool → Option Token → Bool
begins_type_clause ready next = begins_apart_of begins_type ready next

-- Whether the next token begins the `else` of a clause list: behind a `;`, or on a new line.
unfoldable pub begins_else : Bool → Option Token → Bool
begins_else ready next = begins_apart_of (is_word reserved.Else) ready next

-- whether no gap stands before the next token
unfoldable pub is_next_tight : Option Token → Bool
is_next_tight None = false
is_next_tight (Some t) = is_empty t.gap
