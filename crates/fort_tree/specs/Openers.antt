-- The chapter "Grammar", openers: how deep a token stands. The code counts as it goes along the
-- tokens.
use Rattle.std.specs.Prelude.{ℕ, ◌+◌, ◌-◌, ◌<◌, ◌≤◌, ◌≡◌, Bool, true, false, List, [], ◌∷◌, ◌++◌}
use Rattle.fort_base.specs.declared.refusal.Place.{Place}
use Rattle.fort_lex_token.specs.declared.token.Kind.{Kind}
use Rattle.fort_lex_token.specs.declared.token.Kind.TheVariants as kind
use Rattle.fort_lex_token.specs.declared.token.Token.{Token}
use Rattle.fort_lex_token.specs.declared.marks.Mark.{Mark}
use Rattle.fort_lex_token.specs.declared.marks.Mark.TheVariants as mark
use Rattle.fort_lex_token.specs.declared.reserved.Reserved.{Reserved}
use Rattle.fort_lex_token.specs.declared.reserved.Reserved.TheVariants as reserved

-- What a token does to the openers round the tokens after it.
pub data Turn : Type 0 where
  Opens : Turn
  Closes : Turn
  Stays : Turn

-- An opening bracket opens, and a closing one closes.
abbrev pub mark_turn : Mark → Turn
mark_turn mark.OpenParen = Opens
mark_turn mark.OpenBracket = Opens
mark_turn mark.OpenStatic = Opens
mark_turn mark.OpenBrace = Opens
mark_turn mark.CloseParen = Closes
mark_turn mark.CloseBracket = Closes
mark_turn mark.CloseStatic = Closes
mark_turn mark.CloseBrace = Closes
mark_turn _ = Stays

-- A `do` opens unless it directly follows `also`.
abbrev pub word_turn : Bool → Reserved → Turn
word_turn behind_also reserved.Component = Opens
word_turn behind_also reserved.Trait = Opens
word_turn behind_also reserved.Object = Opens
word_turn behind_also reserved.If = Opens
word_turn behind_also reserved.Case = Opens
word_turn behind_also reserved.Typecase = Opens
word_turn behind_also reserved.Try = Opens
word_turn false reserved.Do = Opens
word_turn true reserved.Do = Stays
word_turn behind_also reserved.End = Closes
word_turn behind_also _ = Stays

-- what a token does, by whether it directly follows `also`
abbrev pub turn : Bool → Kind → Turn
turn behind_also (kind.Word w) = word_turn behind_also w
turn behind_also (kind.Mark m) = mark_turn m
turn behind_also _ = Stays

-- whether a token is `also`
abbrev pub is_also : Kind → Bool
is_also (kind.Word reserved.Also) = true
is_also _ = false

-- how many openers are open behind a token
abbrev pub turned : Turn → ℕ → ℕ
turned Opens depth = depth + 1
turned Closes depth = depth - 1
turned Stays depth = depth

-- how many openers are open after these tokens, of which so many were before them
abbrev pub open_behind : Bool → ℕ → List Token → ℕ
open_behind behind_also depth [] = depth
open_behind behind_also depth (t ∷ ts) =
    open_behind (is_also t.kind) (turned (turn behind_also t.kind) depth) ts

-- whether the last of these tokens is `also`
abbrev pub ends_with_also : List Token → Bool
ends_with_also [] = false
ends_with_also (t ∷ []) = is_also t.kind
ends_with_also (t ∷ u ∷ ts) = ends_with_also (u ∷ ts)

-- An opener isn't inside itself, and a closer isn't inside what it closes.
abbrev pub open_round : Turn → ℕ → ℕ
open_round Opens depth = depth
open_round Closes depth = depth - 1
open_round Stays depth = depth

-- How many openers a token stands inside, behind these tokens: those still open there, its own pair
-- left out.
abbrev pub openers_round : List Token → Token → ℕ
openers_round front t = open_round (turn (ends_with_also front) t.kind) (open_behind false 0 front)

-- No token stands inside more than 100 openers.
abbrev pub AllShallow : List Token → Type 0
AllShallow ts = (front : List Token) (t : Token) (rest : List Token) → ts ≡ front ++ t ∷ rest
    → openers_round front t ≤ 100

-- The first token that stands inside more than 100 openers stands at that place.
pub record FirstDeep (ts : List Token) (at : Place) : Type 0 where
  pub front : List Token
  pub token : Token
  pub rest : List Token
  pub whole : ts ≡ front ++ token ∷ rest
  pub deep : 100 < openers_round front token
  pub before : AllShallow front
  pub place : token.place ≡ at
