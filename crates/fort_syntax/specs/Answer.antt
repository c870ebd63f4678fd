-- The chapter "Grammar": what reading a token list answers: its one component, or the first broken
-- rule of 202, 201 and 203 with its place. The code reads the tokens once, from left to right.
use Rattle.std.specs.Prelude.{◌≡◌, ◌⊎◌, ℕ, Bool, true, nat_lt, List, [], ◌∷◌, ◌++◌, length, Option, Some, None, Result, Ok, Err}
use Rattle.std.specs.List.{AllByRecursion}
use Rattle.fort_base.specs.declared.rules.TheConstants.{SYNTAX, TOO_DEEP, TOO_MANY}
use Rattle.fort_base.specs.declared.refusal.Place.{Place}
use Rattle.fort_base.specs.declared.refusal.CheckFault.{CheckFault}
use Rattle.fort_base.specs.declared.refusal.CheckFault.TheVariants as a_fault
use Rattle.fort_ops.specs.declared.op.Op.TheVariants as an_op
use Rattle.fort_lex_token.specs.declared.token.Kind.{Kind}
use Rattle.fort_lex_token.specs.declared.token.Kind.TheVariants as a_kind
use Rattle.fort_lex_token.specs.declared.token.Token.{Token}
use Rattle.fort_lex_token.specs.declared.token.Tokens.{Tokens}
use Rattle.fort_tree.specs.declared.declarations.Component.{Component}
use Rattle.fort_parse_declarations.specs.declared.parsed.Parsed.{Parsed}
use Rattle.fort_tree.specs.Component.{HasTree, NumbersAreIn}
use Rattle.fort_tree.specs.Tokens.{Spellings}
use Rattle.fort_tree.specs.Openers.{AllShallow, FirstDeep}
use Rattle.fort_tree.specs.Limits.{BreaksLimit, KeepsLimits}

-- A token list has no tree.
abbrev pub HasNone : Tokens → Type 0
HasNone tokens = (c : Component) → HasTree tokens c → ⊥

-- No component begins with these tokens: over no table of names that goes on from the file's own,
-- with whatever texts and whatever follows.
abbrev pub BeginsNone : Tokens → List Token → Type 0
BeginsNone tokens front = (more : Spellings) (texts : List (List ℕ)) (others : List Token)
    → HasNone (record { list = front ++ others; names = tokens.names ++ more; texts = texts })

-- A token stands at that place up to which, itself included, no component begins, where the numbers
-- up to it are in the file's tables.
pub record StopsAt (tokens : Tokens) (at : Place) : Type 0 where
  pub front : List Token
  pub token : Token
  pub rest : List Token
  pub whole : tokens.list ≡ front ++ token ∷ rest
  pub none : NumbersAreIn tokens.names tokens.texts (front ++ token ∷ [])
      → BeginsNone tokens (front ++ token ∷ [])
  pub place : token.place ≡ at

-- The last token stands at that place.
pub record EndsAt (tokens : Tokens) (at : Place) : Type 0 where
  pub front : List Token
  pub token : Token
  pub whole : tokens.list ≡ front ++ token ∷ []
  pub place : token.place ≡ at

-- There are no tokens, and the place is the first of the file.
pub record IsEmpty (tokens : Tokens) (at : Place) : Type 0 where
  pub none : tokens.list ≡ []
  pub place : at ≡ record { line = 1; column = 1 }

-- The places of a token list that is no component: that of a token up to which none begins, or the
-- last one's, or 1:1 without tokens.
abbrev pub IsFault : Tokens → Place → Type 0
IsFault tokens at = StopsAt tokens at ⊎ (EndsAt tokens at ⊎ IsEmpty tokens at)

-- The tokens are those of this component and of no other, and it passes no limit.
pub record IsComponent (tokens : Tokens) (c : Component) : Type 0 where
  pub shallow : AllShallow tokens.list
  pub tree : HasTree tokens c
  pub only : (other : Component) → HasTree tokens other → other ≡ c
  pub small : KeepsLimits c

-- The token list breaks this rule, at this place: 202 where a token stands too deep; else 201 where
-- it has no tree; else 203 where its tree passes a limit.
pub data Breaks (tokens : Tokens) : ℕ → Place → Type 0 where
  TooDeep : {at : Place} → FirstDeep tokens.list at → Breaks tokens TOO_DEEP.0 at
  Syntax : {at : Place} → AllShallow tokens.list → HasNone tokens → IsFault tokens at
      → Breaks tokens SYNTAX.0 at
  TooMany : {at : Place} → AllShallow tokens.list → (c : Component) → HasTree tokens c
      → BreaksLimit c at → Breaks tokens TOO_MANY.0 at

-- What reading answers, depth and limits aside: the one tree, or 201 at a fault of tokens that have
-- none.
abbrev pub Reading : Tokens → Result Parsed CheckFault → Type 0
Reading tokens (Ok p) = HasTree tokens p.component
    × ((other : Component) → HasTree tokens other → other ≡ p.component)
Reading tokens (Err (a_fault.Refused rule at)) = (rule.0 ≡ SYNTAX.0) × HasNone tokens
    × IsFault tokens at
Reading tokens (Err a_fault.Memory) = Unit {0}

-- the last of some tokens
abbrev pub last_token : List Token → Option Token
last_token [] = None
last_token (t ∷ []) = Some t
last_token (t ∷ u ∷ ts) = last_token (u ∷ ts)

-- the place of a token, or the first one of a file
abbrev pub place_or_first : Option Token → Place
place_or_first (Some t) = t.place
place_or_first None = record { line = 1; column = 1 }

-- the place of a fault, by the token that is next there
abbrev pub fault_place : List Token → Option Token → Place
fault_place ts (Some t) = t.place
fault_place ts None = place_or_first (last_token ts)

-- What is answered is what the tokens have.
abbrev pub Answers : Tokens → Result Parsed CheckFault → Type 0
Answers tokens (Ok p) = IsComponent tokens p.component
Answers tokens (Err (a_fault.Refused rule at)) = Breaks tokens rule.0 at
Answers tokens (Err a_fault.Memory) = Unit {0}

-- A token list has at most one tree.
abbrev pub AtMostOne : Type 0
AtMostOne = (tokens : Tokens) (c d : Component) → HasTree tokens c → HasTree tokens d → c ≡ d

-- the same declarations, with these names and texts
abbrev pub over : Spellings → List (List ℕ) → Component → Component
over names texts c = record c { names = names; texts = texts }

-- whether a token's number of a name, where it has one, is below the numbers of names
abbrev pub name_is_in : ℕ → Kind → Bool
name_is_in names (a_kind.Name n) = nat_lt n.0 names
name_is_in names (a_kind.Op (an_op.Word n)) = nat_lt n names
name_is_in names _ = true

-- Each number of a name among these tokens is in the table.
abbrev pub NamesAreIn : Spellings → List Token → Type 0
NamesAreIn names ts = AllByRecursion (λ (t : Token). name_is_in (length names) t.kind ≡ true) ts

-- Where the numbers of names among tokens are in their table, their tree is one over each table
-- that goes on, whatever the texts.
abbrev pub TreeGoesOver : Type 0
TreeGoesOver = (tokens : Tokens) (more : Spellings) (texts : List (List ℕ)) (c : Component)
    → NamesAreIn tokens.names tokens.list → HasTree tokens c
    → HasTree (record { list = tokens.list; names = tokens.names ++ more; texts = texts })
    (over (tokens.names ++ more) texts c)
