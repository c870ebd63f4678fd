-- The chapter "Threads that are spawned": the prelude, the declarations that stand before those
-- of a component with spawned threads. The code makes the tokens of a component that has them
-- alone, and reads it.
use Rattle.std.specs.Prelude.{◌≡◌, ℕ, ◌+◌, Bool, true, List, [], ◌∷◌, ◌++◌, map}
use Rattle.fort_base.specs.declared.refusal.Gap.TheVariants as gap
use Rattle.fort_base.specs.declared.ids.NameId.{NameId}
use Rattle.fort_base.specs.declared.refusal.Place.{Place}
use Rattle.fort_lex_token.specs.declared.token.Kind.{Kind}
use Rattle.fort_lex_token.specs.declared.token.Kind.TheVariants as kind
use Rattle.fort_lex_token.specs.declared.token.Token.{Token}
use Rattle.fort_lex_token.specs.declared.reserved.Reserved.TheVariants as reserved
use Rattle.fort_tree.specs.declared.spot.Spot.{Spot}
use Rattle.fort_tree.specs.declared.declarations.Declared.{Declared}
use Rattle.fort_tree.specs.Tokens.{named, word}
use Rattle.fort_tree.specs.Said.{entries_tokens, entries_obey}
use Rattle.fort_tree.specs.Declarations.{said_declared}
use Rattle.fort_spawn_prelude.specs.Table.{Part, Entry, Word, Name, Number, Operator, Symbol, table}
use Rattle.fort_spawn_prelude.specs.Numbers.{Spelling, number_of, extended_by}

-- The kind of a token, where each spelling has this number.
abbrev pub kind_of : (Spelling → NameId) → Part → Kind
kind_of id (Word w) = kind.Word w
kind_of id (Name s) = kind.Name (id s)
kind_of id (Number n) = kind.Number n
kind_of id (Operator o) = kind.Op o
kind_of id (Symbol m) = kind.Mark m

-- the place of a token by its number: line 0, and the number as its column
abbrev pub place_at : ℕ → Place
place_at n = record { line = 0; column = n }

-- a token by its number
abbrev pub token_at : (Spelling → NameId) → ℕ → Entry → Token
token_at id n e = record { kind = kind_of id e.part; gap = e.gap; place = place_at n }

-- tokens that are numbered on from a number
abbrev pub tokens_from : (Spelling → NameId) → ℕ → List Entry → List Token
tokens_from id n [] = []
tokens_from id n (e ∷ es) = token_at id n e ∷ tokens_from id (n + 1) es

-- the number of a spelling among names, as a name's
abbrev pub id_in : List Spelling → Spelling → NameId
id_in names s = record { 0 = number_of names s }

-- The prelude's tokens, numbered from 1, over these names.
abbrev pub prelude_tokens : List Spelling → Bool → List Token
prelude_tokens names starts = tokens_from (id_in names) 1 (table starts)

-- The names of a component with a prelude: its own, and behind them the prelude's that it has not.
abbrev pub extended : List Spelling → Bool → List Spelling
extended names starts = extended_by names (table starts)

-- Declarations are the prelude over these names: they have its tokens, and keep the rules on gaps
-- and names.
pub record IsPrelude (names : List Spelling) (starts : Bool) (declarations : List Declared)
    : Type 0 where
  pub tokens : entries_tokens (map said_declared declarations) ≡ prelude_tokens names starts
  pub obeys : entries_obey names (map said_declared declarations) ≡ true

-- Over all names there is a prelude.
abbrev pub PreludeIsRead : Type 0
PreludeIsRead = (names : List Spelling) (starts : Bool)
    → (declarations : List Declared) × IsPrelude names starts declarations

-- Over names there is one prelude.
abbrev pub OnePrelude : Type 0
OnePrelude = (names : List Spelling) (starts : Bool) (c d : List Declared)
    → IsPrelude names starts c → IsPrelude names starts d → c ≡ d

-- ---- a component with these declarations alone

-- where its own tokens stand
abbrev pub corner : Spot
corner = record { gap = gap.Empty; place = place_at 0 }

-- the tokens of a component whose declarations have these
abbrev pub framed : List Token → List Token
framed ts = word reserved.Component corner ∷ named (record { id = record { 0 = 0 }; spot = corner })
    ∷ (ts ++ word reserved.End corner ∷ [])
