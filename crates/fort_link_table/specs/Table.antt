-- The chapter "Components and APIs": the tokens of a file in the whole, with the numbers of names
-- and texts and the lines that they have there. The code goes over a file's tokens once.
use Rattle.std.specs.Prelude.{ℕ, ◌+◌, List, [], ◌++◌, length, map, slice_get}
use Rattle.std.specs.Option.{option_map_or}
use Rattle.fort_base.specs.declared.refusal.Place.{Place}
use Rattle.fort_ops.specs.declared.op.Op.{Op}
use Rattle.fort_ops.specs.declared.op.Op.TheVariants as op
use Rattle.fort_lex_token.specs.declared.token.Kind.{Kind}
use Rattle.fort_lex_token.specs.declared.token.Kind.TheVariants as kind
use Rattle.fort_lex_token.specs.declared.token.Token.{Token}
use Rattle.fort_lex_token.specs.declared.token.Tokens.{Tokens}
use Rattle.fort_link_table.specs.declared.table.Table.{Table}
use Rattle.fort_link_table.specs.Names.{Spelling, number_in, grown}

-- the table before the first file
abbrev pub empty_table : Table
empty_table = record { names = []; texts = []; lines = 0 }

-- The number of a name in the whole: that of its spelling among all names. One without a spelling
-- keeps its number.
abbrev pub renumbered : List Spelling → List Spelling → ℕ → ℕ
renumbered own all n = option_map_or (number_in all) (slice_get own n) n

-- an operator in the whole: an operator word has the number of its spelling there
abbrev pub op_in : List Spelling → List Spelling → Op → Op
op_in own all (op.Word n) = op.Word (renumbered own all n)
op_in own all other = other

-- The kind of a token in the whole, behind so many texts: names and operator words have the numbers
-- of their spellings, and texts are counted on.
abbrev pub kind_in : List Spelling → List Spelling → ℕ → Kind → Kind
kind_in own all texts (kind.Name id) = kind.Name (record { 0 = renumbered own all id.0 })
kind_in own all texts (kind.Op o) = kind.Op (op_in own all o)
kind_in own all texts (kind.Text n) = kind.Text (texts + n)
kind_in own all texts other = other

-- a place behind so many lines
abbrev pub place_in : ℕ → Place → Place
place_in lines place = record { line = lines + place.line; column = place.column }

-- a token of a file with these names, behind so many texts and lines
abbrev pub token_in : List Spelling → List Spelling → ℕ → ℕ → Token → Token
token_in own all texts lines t =
    record { kind = kind_in own all texts t.kind; gap = t.gap; place = place_in lines t.place }

-- The tokens of a further file in the whole, over the names and texts of all files so far.
abbrev pub joined : Table → Tokens → Tokens
joined table tokens = record {
  list = map (token_in tokens.names (grown table.names tokens.names) (length table.texts)
      table.lines) tokens.list;
  names = grown table.names tokens.names;
  texts = table.texts ++ tokens.texts;
}

-- the table behind a file with these tokens and so many lines
abbrev pub after : Table → Tokens → ℕ → Table
after table tokens lines = record {
  names = grown table.names tokens.names;
  texts = table.texts ++ tokens.texts;
  lines = table.lines + lines;
}
