-- The productions of types and parameters as parsers.
use Rattle.std.specs.Prelude.{ℕ, zero, suc, Bool, true, false, List, Option, Some, None, codes}
use Rattle.fort_lex_token.specs.declared.token.Kind.{Kind}
use Rattle.fort_lex_token.specs.declared.token.Kind.TheVariants as kind
use Rattle.fort_lex_token.specs.declared.token.Token.{Token}
use Rattle.fort_lex_token.specs.declared.marks.Mark.{Mark}
use Rattle.fort_lex_token.specs.declared.marks.Mark.TheVariants as mark
use Rattle.fort_tree.specs.declared.spot.Spot.{Spot}
use Rattle.fort_tree.specs.declared.spot.Name.{Name}
use Rattle.fort_tree.specs.declared.declarations.NextParameter.{NextParameter}
use Rattle.fort_tree.specs.declared.declarations.Parameter.{Parameter}
use Rattle.fort_tree.specs.declared.declarations.Parameters.{Parameters}
use Rattle.fort_tree.specs.declared.types.NextType.{NextType, roll-NextType}
use Rattle.fort_tree.specs.declared.types.SimpleType.{SimpleType}
use Rattle.fort_tree.specs.declared.types.SimpleType.TheVariants as a_simple
use Rattle.fort_tree.specs.declared.types.TypeList.{TypeList, roll-TypeList}
use Rattle.fort_tree.specs.declared.types.TypeTree.{TypeTree}
use Rattle.fort_tree.specs.declared.types.TypeTree.TheVariants as a_type
use Rattle.fort_tree.specs.Tokens.{Spellings}
use Rattle.fort_parse_reading.specs.Parser.{Parser, Eater, pure, ◌>>=◌, fork, token, accept, choose, no_eater, no_budget, ◌>>>◌, ◌>>|◌, many}
use Rattle.fort_parse_reading.specs.Words.{is_mark, is_range, spot_if, name_of, is_called, called_of, sees}

-- whether a symbol begins a type
abbrev pub mark_begins_type : Mark → Bool
mark_begins_type mark.OpenParen = true
mark_begins_type _ = false

-- whether a token begins a type
unfoldable pub begins_type : Kind → Bool
begins_type (kind.Name v) = true
begins_type (kind.Mark m) = mark_begins_type m
begins_type _ = false

module _ (names : Spellings) {n : ℕ} (inner : Eater TypeTree n) where
  unfoldable pub next_type : Eater NextType n
  next_type = token (spot_if (is_mark mark.Comma)) >>| λ comma. do
    ty ← inner.parser
    pure (roll-NextType (record { comma = comma; ty = ty }))

  unfoldable pub next_types : Parser (List NextType) n
  next_types = many (sees (is_mark mark.Comma)) next_type

  unfoldable pub type_list : Eater TypeList n
  type_list = inner >>| λ first. do
    others ← next_types
    pure (roll-TypeList (record { first = first; others = others }))

  unfoldable pub maybe_types : Parser (Option TypeList) n
  maybe_types = fork (sees (is_mark mark.CloseParen)) (pure None) (do list ← type_list.parser; pure (Some list))

  unfoldable pub type_parts : Spot → Parser SimpleType n
  type_parts left = do
    parts ← maybe_types
    right ← accept (spot_if (is_mark mark.CloseParen))
    pure (a_simple.Parts left parts right)

  unfoldable pub array_index : Name → Spot → TypeTree → Parser SimpleType n
  array_index array left element = do
    comma ← accept (spot_if (is_mark mark.Comma))
    index ← accept (called_of (codes "ZZ32") names)
    right ← accept (spot_if (is_mark mark.CloseStatic))
    pure (a_simple.Array array left element comma index right)

  unfoldable pub array_type : Name → Parser SimpleType n
  array_type array = do
    left ← accept (spot_if (is_mark mark.OpenStatic))
    element ← inner.parser
    array_index array left element

  abbrev pub named_by : Name → Bool → Parser SimpleType n
  named_by name true =
      fork (sees (is_mark mark.OpenStatic)) (array_type name) (pure (a_simple.Named name))
  named_by name false = pure (a_simple.Named name)

  unfoldable pub named_type : Name → Parser SimpleType n
  named_type name = named_by name (is_called (codes "Array") names name)

  abbrev pub mark_type : Mark → Eater SimpleType (suc n)
  mark_type mark.OpenParen = token (spot_if (is_mark mark.OpenParen)) >>> type_parts
  mark_type _ = no_eater

  abbrev pub simple_for : Kind → Eater SimpleType (suc n)
  simple_for (kind.Name v) = token name_of >>> named_type
  simple_for (kind.Mark m) = mark_type m
  simple_for _ = no_eater

  abbrev pub simple_by : Option Token → Eater SimpleType (suc n)
  simple_by None = no_eater
  simple_by (Some t) = simple_for t.kind

  unfoldable pub simple_type : Eater SimpleType (suc n)
  simple_type = choose simple_by

  unfoldable pub arrow_from : SimpleType → Parser TypeTree (suc n)
  arrow_from domain = do
    arrow ← accept (spot_if (is_mark mark.RightArrow))
    result ← simple_type.parser
    pure (a_type.Arrow domain arrow result)

  unfoldable pub type_level : Eater TypeTree (suc n)
  type_level =
      simple_type >>| λ domain. fork (sees (is_mark mark.RightArrow)) (arrow_from domain)
      (pure (a_type.Simple domain))

-- a type, with that budget
unfoldable pub type_tree : Spellings → (n : ℕ) → Eater TypeTree n
type_tree names zero = no_budget
type_tree names (suc n) = type_level names (type_tree names n)

module _ (names : Spellings) (n : ℕ) where
  unfoldable pub typed : Name → Parser Parameter n
  typed name = do
    colon ← accept (spot_if is_range)
    ty ← (type_tree names n).parser
    pure (record { name = name; colon = colon; ty = ty })

  unfoldable pub parameter : Eater Parameter n
  parameter = token name_of >>| typed

  unfoldable pub next_parameter : Eater NextParameter n
  next_parameter = token (spot_if (is_mark mark.Comma)) >>| λ comma. do
    parameter ← parameter.parser
    pure (record { comma = comma; parameter = parameter })

  unfoldable pub next_parameters : Parser (List NextParameter) n
  next_parameters = many (sees (is_mark mark.Comma)) next_parameter

  unfoldable pub parameters : Eater Parameters n
  parameters = parameter >>| λ first. do
    others ← next_parameters
    pure (record { first = first; others = others })

  unfoldable pub maybe_parameters : Parser (Option Parameters) n
  maybe_parameters = fork (sees (is_mark mark.CloseParen)) (pure None) (do list ← parameters.parser; pure (Some list))
