-- The chapter "Components and APIs": what reading a file answers: its one unit, or the first broken
-- rule of 202, 201 and 203 with its place. The code reads the tokens once, from left to right.
use Rattle.std.specs.Prelude.{◌≡◌, ◌⊎◌, ℕ, if◌then◌else◌, Bool, true, false, List, [], ◌∷◌, ◌++◌, map, Result, Ok, Err, ⊤}
use Rattle.fort_base.specs.declared.rules.TheConstants.{SYNTAX, TOO_DEEP, TOO_MANY}
use Rattle.fort_base.specs.declared.refusal.Place.{Place}
use Rattle.fort_base.specs.declared.refusal.CheckFault.{CheckFault}
use Rattle.fort_base.specs.declared.refusal.CheckFault.TheVariants as a_fault
use Rattle.fort_lex_token.specs.declared.reserved.Reserved.{Reserved}
use Rattle.fort_lex_token.specs.declared.reserved.Reserved.TheVariants as reserved
use Rattle.fort_lex_token.specs.declared.token.Kind.{Kind}
use Rattle.fort_lex_token.specs.declared.token.Kind.TheVariants as kind
use Rattle.fort_lex_token.specs.declared.token.Token.{Token}
use Rattle.fort_lex_token.specs.declared.token.Tokens.{Tokens}
use Rattle.fort_tree.specs.Component.{NumbersAreIn}
use Rattle.fort_tree.specs.Openers.{AllShallow, FirstDeep}
use Rattle.fort_tree.specs.Tokens.{Spellings}
use Rattle.fort_syntax.specs.Answer.{EndsAt, IsEmpty}
use Rattle.fort_link_units.specs.declared.unit.Unit.{Unit}
use Rattle.fort_link_units.specs.Said.{HasUnit}
use Rattle.fort_link_units.specs.Limits.{BreaksUnitLimit, KeepsUnitLimits}

-- ---- openers

-- whether a token is `api`
abbrev pub is_api : Kind → Bool
is_api (kind.Word reserved.Api) = true
is_api _ = false

-- whether a file is an API, by its first token
abbrev pub begins_api : List Token → Bool
begins_api [] = false
begins_api (t ∷ ts) = is_api t.kind

-- a `trait` or `object` that is no opener, as `var` is none
abbrev pub plain_word : Reserved → Reserved
plain_word reserved.Trait = reserved.Var
plain_word reserved.Object = reserved.Var
plain_word w = w

-- the same of a token's kind
abbrev pub plain_kind : Kind → Kind
plain_kind (kind.Word w) = kind.Word (plain_word w)
plain_kind k = k

-- the same of a token
abbrev pub plain : Token → Token
plain t = record t { kind = plain_kind t.kind }

-- The tokens whose openers are counted: in an API `trait` and `object` are none.
abbrev pub opened : List Token → List Token
opened ts = if begins_api ts then map plain ts else ts

-- ---- which tokens are no unit, and where

-- A token list has no unit.
abbrev pub HasNoUnit : Tokens → Type 0
HasNoUnit tokens = (u : Unit) → HasUnit tokens u → ⊥

-- No unit begins with these tokens: over no table of names that goes on from the file's own, with
-- whatever texts and whatever follows.
abbrev pub BeginsNoUnit : Tokens → List Token → Type 0
BeginsNoUnit tokens front = (more : Spellings) (texts : List (List ℕ)) (others : List Token)
    → HasNoUnit (record { list = front ++ others; names = tokens.names ++ more; texts = texts })

-- A token stands at that place up to which, itself included, no unit begins, where the numbers up
-- to it are in the file's tables.
pub record StopsUnitAt (tokens : Tokens) (at : Place) : Type 0 where
  pub front : List Token
  pub token : Token
  pub rest : List Token
  pub whole : tokens.list ≡ front ++ token ∷ rest
  pub none : NumbersAreIn tokens.names tokens.texts (front ++ token ∷ [])
      → BeginsNoUnit tokens (front ++ token ∷ [])
  pub place : token.place ≡ at

-- The places of a token list that is no unit: that of a token up to which none begins, or the last
-- one's, or 1:1 without tokens.
abbrev pub IsUnitFault : Tokens → Place → Type 0
IsUnitFault tokens at = StopsUnitAt tokens at ⊎ (EndsAt tokens at ⊎ IsEmpty tokens at)

-- ---- what is answered

-- The tokens are those of this unit and of no other, and it passes no limit.
pub record IsUnit (tokens : Tokens) (u : Unit) : Type 0 where
  pub shallow : AllShallow (opened tokens.list)
  pub tree : HasUnit tokens u
  pub only : (other : Unit) → HasUnit tokens other → other ≡ u
  pub small : KeepsUnitLimits u

-- The token list breaks this rule, at this place: 202 where a token stands too deep; else 201 where
-- it has no unit; else 203 where its unit passes a limit.
pub data BreaksUnit (tokens : Tokens) : ℕ → Place → Type 0 where
  TooDeep : {at : Place} → FirstDeep (opened tokens.list) at → BreaksUnit tokens TOO_DEEP.0 at
  Syntax : {at : Place} → AllShallow (opened tokens.list) → HasNoUnit tokens
      → IsUnitFault tokens at → BreaksUnit tokens SYNTAX.0 at
  TooMany : {at : Place} → AllShallow (opened tokens.list) → (u : Unit) → HasUnit tokens u
      → BreaksUnitLimit u at → BreaksUnit tokens TOO_MANY.0 at

-- What is answered is what the tokens have.
abbrev pub UnitAnswers : Tokens → Result Unit CheckFault → Type 0
UnitAnswers tokens (Ok u) = IsUnit tokens u
UnitAnswers tokens (Err (a_fault.Refused rule at)) = BreaksUnit tokens rule.0 at
UnitAnswers tokens (Err a_fault.Memory) = ⊤

-- ---- laws

-- A token list has at most one unit.
abbrev pub AtMostOneUnit : Type 0
AtMostOneUnit = (tokens : Tokens) (u v : Unit) → HasUnit tokens u → HasUnit tokens v → u ≡ v

-- No tokens both are a unit and break a rule.
abbrev pub NeverBoth : Type 0
NeverBoth = (tokens : Tokens) (u : Unit) (rule : ℕ) (at : Place) → IsUnit tokens u
    → BreaksUnit tokens rule at → ⊥
