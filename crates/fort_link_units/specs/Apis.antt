-- The productions of APIs as parsers.
use Rattle.std.specs.Prelude.{ℕ, Bool, true, false, List, Option, Some, None}
use Rattle.fort_lex_token.specs.declared.token.Kind.{Kind}
use Rattle.fort_lex_token.specs.declared.token.Kind.TheVariants as kind
use Rattle.fort_lex_token.specs.declared.token.Token.{Token}
use Rattle.fort_lex_token.specs.declared.marks.Mark.TheVariants as mark
use Rattle.fort_lex_token.specs.declared.reserved.Reserved.{Reserved}
use Rattle.fort_lex_token.specs.declared.reserved.Reserved.TheVariants as reserved
use Rattle.fort_tree.specs.declared.spot.Spot.{Spot}
use Rattle.fort_tree.specs.declared.spot.Name.{Name}
use Rattle.fort_tree.specs.declared.declarations.Parameters.{Parameters}
use Rattle.fort_tree.specs.Tokens.{Spellings}
use Rattle.fort_parse_reading.specs.Parser.{Parser, Eater, pure, wrong, ◌>>=◌, look, fork, fork_eater, token, accept, ◌>>|◌, chain, same_budget}
use Rattle.fort_parse_reading.specs.Words.{is_mark, is_word, is_range, spot_if, name_of, sees}
use Rattle.fort_parse_types.specs.Types.{type_tree, maybe_parameters}
use Rattle.fort_parse_first.specs.Beginnings.{begins_apart_of}
use Rattle.fort_parse.specs.Blocks.{is_ended}
use Rattle.fort_link_units.specs.declared.unit.Api.{Api}
use Rattle.fort_link_units.specs.declared.unit.ApiDeclaration.{ApiDeclaration}
use Rattle.fort_link_units.specs.declared.unit.ApiDeclaration.TheVariants as declaration
use Rattle.fort_link_units.specs.declared.unit.ApiDeclared.{ApiDeclared}

-- whether a reserved word begins a declaration of an API
abbrev pub word_begins_declaration : Reserved → Bool
word_begins_declaration reserved.Trait = true
word_begins_declaration reserved.Object = true
word_begins_declaration _ = false

-- whether a token begins a declaration of an API
unfoldable pub begins_declaration : Kind → Bool
begins_declaration (kind.Name v) = true
begins_declaration (kind.Word w) = word_begins_declaration w
begins_declaration _ = false

-- whether the next token begins a further declaration
unfoldable pub begins_declared : Bool → Option Token → Bool
begins_declared ready next = begins_apart_of begins_declaration ready next

module _ (names : Spellings) (n : ℕ) where
  unfoldable pub semicolon : Parser (Option Spot) n
  semicolon = fork (sees (is_mark mark.Semicolon)) (do s ← accept (spot_if (is_mark mark.Semicolon)); pure (Some s)) (pure None)

  unfoldable pub variable : Name → Parser ApiDeclaration n
  variable name = do
    colon ← accept (spot_if is_range)
    ty ← (type_tree names n).parser
    pure (declaration.Variable name colon ty)

  unfoldable pub head_rest : Name → Spot → Option Parameters → Spot → Parser ApiDeclaration n
  head_rest name left parameters right = do
    colon ← accept (spot_if is_range)
    result ← (type_tree names n).parser
    pure (declaration.Function (record {
      name = name;
      left = left;
      parameters = parameters;
      right = right;
      colon = colon;
      result = result;
    }))

  unfoldable pub head : Name → Parser ApiDeclaration n
  head name = do
    left ← accept (spot_if (is_mark mark.OpenParen))
    parameters ← maybe_parameters names n
    right ← accept (spot_if (is_mark mark.CloseParen))
    head_rest name left parameters right

  unfoldable pub named_declaration : Name → Parser ApiDeclaration n
  named_declaration name = fork (sees (is_mark mark.OpenParen)) (head name) (variable name)

  unfoldable pub trait_declaration : Eater ApiDeclaration n
  trait_declaration = token (spot_if (is_word reserved.Trait)) >>| λ s. do
    name ← accept name_of
    pure (declaration.Trait s name)

  unfoldable pub object_declaration : Eater ApiDeclaration n
  object_declaration = token (spot_if (is_word reserved.Object)) >>| λ s. do
    name ← accept name_of
    pure (declaration.Object s name)

  unfoldable pub declaration_at : Eater ApiDeclaration n
  declaration_at =
      fork_eater (sees (is_word reserved.Trait)) trait_declaration
      (fork_eater (sees (is_word reserved.Object)) object_declaration
      (token name_of >>| named_declaration))

  unfoldable pub declared : Eater ApiDeclared n
  declared = declaration_at >>| λ d. do
    s ← semicolon
    pure (record { declaration = d; semicolon = s })

  unfoldable pub declarations : Parser (List ApiDeclared) n
  declarations =
      chain n (same_budget n) begins_declared (λ ready d. is_ended d.semicolon) (λ ready. declared)
      true

  -- an API, and what may follow it
  unfoldable pub api : Parser Api n
  api = do
    at_api ← accept (spot_if (is_word reserved.Api))
    name ← accept name_of
    list ← declarations
    end ← accept (spot_if (is_word reserved.End))
    pure (record { api = at_api; name = name; declarations = list; end = end })

  abbrev pub nothing_after : Api → Option Token → Parser Api n
  nothing_after a None = pure a
  nothing_after a (Some t) = wrong

  -- an API, and nothing after it
  unfoldable pub whole : Parser Api n
  whole = api >>= λ a. look (nothing_after a)
