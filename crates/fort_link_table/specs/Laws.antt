-- The chapter "Components and APIs": what the tokens of a file keep in the whole.
use Rattle.std.specs.Prelude.{◌≡◌, ◌≤◌, ◌+◌, ℕ, Bool, true, false, ◌&&◌, List, [], ◌∷◌, ◌++◌, length, map, nat_eq, nat_lt}
use Rattle.std.specs.List.{list_any, AllByRecursion, IsDistinct}
use Rattle.std.specs.Str.{bytes_eq}
use Rattle.fort_base.specs.declared.refusal.Place.{Place}
use Rattle.fort_ops.specs.declared.op.Op.TheVariants as op
use Rattle.fort_lex_token.specs.declared.token.Kind.{Kind}
use Rattle.fort_lex_token.specs.declared.token.Kind.TheVariants as kind
use Rattle.fort_lex_token.specs.declared.token.Token.{Token}
use Rattle.fort_lex_token.specs.declared.token.Tokens.{Tokens}
use Rattle.fort_link_table.specs.declared.table.Table.{Table}
use Rattle.fort_link_table.specs.Names.{Spelling, grown}
use Rattle.fort_link_table.specs.Table.{empty_table, joined}

-- ---- names

-- The names of the files so far stay, with their numbers: those of a further file stand behind them.
abbrev pub NamesGoOn : Type 0
NamesGoOn = (names more : List Spelling)
    → (added : List Spelling) × (grown names more ≡ names ++ added)

-- No spelling stands twice among names.
abbrev pub AreOnce : List Spelling → Type 0
AreOnce names = IsDistinct bytes_eq names

-- Where no spelling stands twice among the names so far, none does among those with a further
-- file's.
abbrev pub NamesStayOnce : Type 0
NamesStayOnce = (names more : List Spelling) → AreOnce names → AreOnce (grown names more)

-- whether a token's number of a name, where it has one, is below the numbers of names
abbrev pub name_is_in : ℕ → Kind → Bool
name_is_in names (kind.Name n) = nat_lt n.0 names
name_is_in names (kind.Op (op.Word n)) = nat_lt n names
name_is_in names _ = true

-- Each number of a name among these tokens is in the table.
abbrev pub NamesAreIn : List Spelling → List Token → Type 0
NamesAreIn names ts = AllByRecursion (λ (t : Token). name_is_in (length names) t.kind ≡ true) ts

-- Where the numbers of names among a file's tokens are in its table, so they are in the whole.
abbrev pub JoinedNamesAreIn : Type 0
JoinedNamesAreIn = (table : Table) (tokens : Tokens) → NamesAreIn tokens.names tokens.list
    → NamesAreIn (joined table tokens).names (joined table tokens).list

-- whether a token's number of a text, where it has one, is below the numbers of texts
abbrev pub text_is_in : ℕ → Kind → Bool
text_is_in texts (kind.Text n) = nat_lt n texts
text_is_in texts _ = true

-- Each number of a text among these tokens is in the table.
abbrev pub TextsAreIn : List (List ℕ) → List Token → Type 0
TextsAreIn texts ts = AllByRecursion (λ (t : Token). text_is_in (length texts) t.kind ≡ true) ts

-- So it is with the numbers of texts.
abbrev pub JoinedTextsAreIn : Type 0
JoinedTextsAreIn = (table : Table) (tokens : Tokens) → TextsAreIn tokens.texts tokens.list
    → TextsAreIn (joined table tokens).texts (joined table tokens).list

-- ---- places

-- whether two places are one
abbrev pub same_place : Place → Place → Bool
same_place a b = nat_eq a.line b.line && nat_eq a.column b.column

-- Each place of a list stands in it once.
abbrev pub PlacesOnce : List Place → Type 0
PlacesOnce [] = Unit {0}
PlacesOnce (x ∷ xs) = (list_any (same_place x) xs ≡ false) × PlacesOnce xs

abbrev pub token_place : Token → Place
token_place t = t.place

-- No two tokens stand at one place.
abbrev pub StandApart : List Token → Type 0
StandApart ts = PlacesOnce (map token_place ts)

-- The tokens of a file that stand apart do so in the whole.
abbrev pub JoinedStandsApart : Type 0
JoinedStandsApart = (table : Table) (tokens : Tokens) → StandApart tokens.list
    → StandApart (joined table tokens).list

-- A token stands on one of these lines, the first and the last included.
abbrev pub IsOnLines : ℕ → ℕ → Token → Type 0
IsOnLines first last t = (first ≤ t.place.line) × (t.place.line ≤ last)

-- In the whole a file's lines are those behind the lines of the files before it.
abbrev pub JoinedStandsBehind : Type 0
JoinedStandsBehind = (table : Table) (tokens : Tokens) (first last : ℕ)
    → AllByRecursion (IsOnLines first last) tokens.list
    → AllByRecursion (IsOnLines (table.lines + first) (table.lines + last))
    (joined table tokens).list

-- ---- numbers

-- A token that is a number is a ZZ64.
abbrev pub FitsKind : Kind → Type 0
FitsKind (kind.Number n) = n ≤ 9223372036854775807
FitsKind _ = Unit {0}

abbrev pub Fits : Token → Type 0
Fits t = FitsKind t.kind

-- Where the numbers of a file are ZZ64, so they are in the whole.
abbrev pub JoinedNumbersFit : Type 0
JoinedNumbersFit = (table : Table) (tokens : Tokens) → AllByRecursion Fits tokens.list
    → AllByRecursion Fits (joined table tokens).list

-- ---- the first file

-- The tokens of the first file are in the whole as they are, where no name stands twice in its table.
abbrev pub FirstIsAsItIs : Type 0
FirstIsAsItIs = (tokens : Tokens) → AreOnce tokens.names → joined empty_table tokens ≡ tokens
