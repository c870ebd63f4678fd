-- The chapter "Grammar": the tokens that trees are made of, and the tests on them. The code
-- compares kinds of tokens.
use Rattle.std.specs.Prelude.{ℕ, ◌==◌, Bool, true, false, ◌&&◌, ◌||◌, List, [], ◌∷◌, codes, nat_eq, get_or}
use Rattle.std.specs.Cmp.Lexicographic.{pointwise}
use Prim.Native.String.{String}
use Rattle.fort_base.specs.declared.refusal.Gap.{Gap}
use Rattle.fort_base.specs.declared.refusal.Gap.TheVariants as gap
use Rattle.fort_ops.specs.declared.op.Op.{Op}
use Rattle.fort_ops.specs.declared.op.Op.TheVariants as op
use Rattle.fort_lex_token.specs.declared.token.Kind.{Kind}
use Rattle.fort_lex_token.specs.declared.token.Kind.TheVariants as kind
use Rattle.fort_lex_token.specs.declared.token.Token.{Token}
use Rattle.fort_lex_token.specs.declared.marks.Mark.{Mark}
use Rattle.fort_lex_token.specs.declared.marks.Mark.TheVariants as mark
use Rattle.fort_lex_token.specs.declared.reserved.Reserved.{Reserved}
use Rattle.fort_tree.specs.declared.spot.Spot.{Spot}
use Rattle.fort_tree.specs.declared.spot.Name.{Name}
use Rattle.fort_tree.specs.declared.spot.Sign.{Sign}

-- the spellings of names, by their numbers
abbrev pub Spellings : Type 0
Spellings = List (List ℕ)

-- ---- tokens by their kinds

-- a token of a kind, where it stands
abbrev pub token : Kind → Spot → Token
token k s = record { kind = k; gap = s.gap; place = s.place }

-- a reserved word
abbrev pub word : Reserved → Spot → Token
word w s = token (kind.Word w) s

-- a symbol
abbrev pub marked : Mark → Spot → Token
marked m s = token (kind.Mark m) s

-- an operator
abbrev pub operator : Op → Spot → Token
operator o s = token (kind.Op o) s

-- a name
abbrev pub named : Name → Token
named n = token (kind.Name n.id) n.spot

-- an operator that a tree holds
abbrev pub signed : Sign → Token
signed s = operator s.op s.spot

-- the `:` of declarations, which is an operator elsewhere
abbrev pub colon : Spot → Token
colon s = operator op.Range s

-- the `=` of declarations, which is an operator elsewhere
abbrev pub equals : Spot → Token
equals s = operator op.Eq s

-- ---- tests

-- whether a gap is empty
abbrev pub is_empty : Gap → Bool
is_empty gap.Empty = true
is_empty gap.Space = false
is_empty gap.Line = false

-- whether a gap has a line feed
abbrev pub is_line : Gap → Bool
is_line gap.Empty = false
is_line gap.Space = false
is_line gap.Line = true

-- whether a token is a name
abbrev pub is_name : Kind → Bool
is_name (kind.Name n) = true
is_name _ = false

-- whether a token is `:`
abbrev pub is_colon : Kind → Bool
is_colon (kind.Op op.Range) = true
is_colon _ = false

-- whether a token is `,`
abbrev pub is_comma : Kind → Bool
is_comma (kind.Mark mark.Comma) = true
is_comma _ = false

-- whether a token is `.`
abbrev pub is_dot : Kind → Bool
is_dot (kind.Mark mark.Dot) = true
is_dot _ = false

-- whether a token is `(`
abbrev pub is_open_paren : Kind → Bool
is_open_paren (kind.Mark mark.OpenParen) = true
is_open_paren _ = false

-- whether a token is `)`
abbrev pub is_close_paren : Kind → Bool
is_close_paren (kind.Mark mark.CloseParen) = true
is_close_paren _ = false

-- An infix operator is any operator but juxtaposition, `NOT` and `^`.
abbrev pub is_infix : Op → Bool
is_infix op.Juxt = false
is_infix op.Not = false
is_infix op.Power = false
is_infix _ = true

-- The operators that `opr` may declare with that many parameters: infix ones and `^` with two, `-`
-- and `NOT` with one.
abbrev pub may_declare : Op → ℕ → Bool
may_declare op.Juxt n = false
may_declare op.Minus n = (n == 1) || (n == 2)
may_declare op.Not n = n == 1
may_declare _ n = n == 2

-- whether a name is spelled so
abbrev pub is_spelled : String → Spellings → Name → Bool
is_spelled text names name = pointwise nat_eq (get_or names name.id.0 []) (codes text)

-- ---- what a declaration begins with

-- a name and `:`
abbrev pub begins_with_name : List Token → Bool
begins_with_name [] = false
begins_with_name (t ∷ []) = false
begins_with_name (t ∷ u ∷ ts) = is_name t.kind && is_colon u.kind

-- `)` and `:`
abbrev pub closes_names : List Token → Bool
closes_names [] = false
closes_names (t ∷ []) = false
closes_names (t ∷ u ∷ ts) = is_close_paren t.kind && is_colon u.kind

-- `,` and a name, once or more, then `)` and `:`
abbrev pub goes_on_with_names : List Token → Bool
goes_on_with_names [] = false
goes_on_with_names (t ∷ []) = false
goes_on_with_names (t ∷ u ∷ ts) =
    is_comma t.kind && (is_name u.kind && (closes_names ts || goes_on_with_names ts))

-- two or more names in parentheses and `:`
abbrev pub begins_with_names : List Token → Bool
begins_with_names [] = false
begins_with_names (t ∷ []) = false
begins_with_names (t ∷ u ∷ ts) = is_open_paren t.kind && (is_name u.kind && goes_on_with_names ts)

-- whether tokens begin as a declaration of a local does, up to its `:`
abbrev pub begins_declaration : List Token → Bool
begins_declaration ts = begins_with_name ts || begins_with_names ts
