-- The chapter "Grammar": the longest type that begins a row of tokens. The code runs a parser;
-- where it fails it asks at falling ends whether all tokens up to there are a type.
use Rattle.std.specs.Prelude.{◌≡◌, ℕ, List, Option, Some, None}
use Rattle.fort_lex_token.specs.declared.token.Token.{Token}
use Rattle.fort_tree.specs.declared.types.TypeTree.{TypeTree}
use Rattle.fort_tree.specs.Tokens.{Spellings}
use Rattle.fort_tree.specs.Said.{elsewhere}
use Rattle.fort_tree.specs.Types.{said_type}
use Rattle.fort_parse_reading.specs.Longest.{HasTree, NoneLonger, LongestPart, NoPart}

-- The tokens are those of the type.
abbrev pub HasType : Spellings → List Token → TypeTree → Type 0
HasType names ts ty = HasTree names elsewhere said_type ts ty

-- The one type that all of the tokens are, or none where they are none.
abbrev pub TypeOf : Spellings → List Token → Option TypeTree → Type 0
TypeOf names ts None = (y : TypeTree) → HasType names ts y → ⊥
TypeOf names ts (Some ty) = (HasType names ts ty) × ((y : TypeTree) → HasType names ts y → y ≡ ty)

-- No more than the first k tokens are a type.
abbrev pub NoLongerType : Spellings → List Token → ℕ → Type 0
NoLongerType names ts k = NoneLonger names elsewhere said_type ts k

-- The longest type that begins the tokens, and how many of them it is; none where no type begins
-- them.
abbrev pub LongestType : Spellings → List Token → Option (TypeTree × ℕ) → Type 0
LongestType names ts None = NoPart names elsewhere said_type ts
LongestType names ts (Some found) = LongestPart names elsewhere said_type ts found.0 found.1
