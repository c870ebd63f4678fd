-- The chapter "Components and APIs": the tokens of a unit, and whether the rules on gaps and names
-- hold in it. The code reads a unit from left to right.
use Rattle.std.specs.Prelude.{◌≡◌, Bool, true, ◌&&◌, IsTrue, List, [], ◌∷◌, ◌++◌, None, map, option_map}
use Rattle.std.specs.List.{flat_map}
use Rattle.fort_lex_token.specs.declared.token.Token.{Token}
use Rattle.fort_lex_token.specs.declared.token.Tokens.{Tokens}
use Rattle.fort_lex_token.specs.declared.marks.Mark.TheVariants as mark
use Rattle.fort_lex_token.specs.declared.reserved.Reserved.TheVariants as reserved
use Rattle.fort_tree.specs.declared.declarations.Component.{Component}
use Rattle.fort_tree.specs.declared.declarations.Export.{Export}
use Rattle.fort_tree.specs.Tokens.{Spellings, word, marked, named, colon}
use Rattle.fort_tree.specs.Said.{Said, SaidEntry, elsewhere, tokens_of, maybe_tokens, maybe_obeys, entries_tokens, entries_obey}
use Rattle.fort_tree.specs.Types.{said_type, said_parameters}
use Rattle.fort_tree.specs.Declarations.{said_declared}
use Rattle.fort_tree.specs.Component.{Obeys}
use Rattle.fort_link_units.specs.declared.unit.Api.{Api}
use Rattle.fort_link_units.specs.declared.unit.ApiDeclaration.{ApiDeclaration}
use Rattle.fort_link_units.specs.declared.unit.ApiDeclaration.TheVariants as declaration
use Rattle.fort_link_units.specs.declared.unit.ApiDeclared.{ApiDeclared}
use Rattle.fort_link_units.specs.declared.unit.ComponentUnit.{ComponentUnit}
use Rattle.fort_link_units.specs.declared.unit.FunctionHead.{FunctionHead}
use Rattle.fort_link_units.specs.declared.unit.Import.{Import}
use Rattle.fort_link_units.specs.declared.unit.Unit.{Unit}
use Rattle.fort_link_units.specs.declared.unit.Unit.TheVariants as a_unit

-- ---- components

-- the tokens of an `import`
abbrev pub import_tokens : Import → List Token
import_tokens i = word reserved.Import i.import ∷ named i.name ∷ []

-- the tokens of an `export`
abbrev pub export_tokens : Export → List Token
export_tokens e = word reserved.Export e.export ∷ named e.name ∷ []

-- the tokens of imports and, behind them, of exports
abbrev pub heads_tokens : List Import → List Export → List Token
heads_tokens imports exports = flat_map import_tokens imports ++ flat_map export_tokens exports

-- the tokens of a component's declarations, and its `end`
abbrev pub body_tokens : Component → List Token
body_tokens c = entries_tokens (map said_declared c.declarations) ++ word reserved.End c.end ∷ []

-- the tokens of a component with imports and exports, which stand behind its name
abbrev pub component_tokens : ComponentUnit → List Token
component_tokens u = let c = u.parsed.component in
    word reserved.Component c.component ∷ named c.name
    ∷ (heads_tokens u.imports u.exports ++ body_tokens c)

-- The tokens are those of this component with its imports and exports: it has no further `export`,
-- has their names and texts, and obeys the rules on gaps and names.
pub record HasComponent (tokens : Tokens) (u : ComponentUnit) : Type 0 where
  pub yields : component_tokens u ≡ tokens.list
  pub names : u.parsed.component.names ≡ tokens.names
  pub texts : u.parsed.component.texts ≡ tokens.texts
  pub plain : u.parsed.component.export ≡ None
  pub obeys : Obeys u.parsed.component

-- ---- APIs

-- what the head of a function says
abbrev pub said_head : FunctionHead → Said
said_head f = record {
  first = named f.name;
  more = marked mark.OpenParen f.left
      ∷ (maybe_tokens (option_map said_parameters f.parameters) ++ marked mark.CloseParen f.right
      ∷ colon f.colon ∷ tokens_of (said_type f.result));
  obeys = λ names allowed. maybe_obeys names elsewhere (option_map said_parameters f.parameters)
      && (said_type f.result).obeys names elsewhere;
}

-- what a declaration of an API says
abbrev pub said_api_declaration : ApiDeclaration → Said
said_api_declaration (declaration.Variable name at_colon ty) = record {
  first = named name;
  more = colon at_colon ∷ tokens_of (said_type ty);
  obeys = λ names allowed. (said_type ty).obeys names elsewhere;
}
said_api_declaration (declaration.Function head) = said_head head
said_api_declaration (declaration.Trait s name) =
    record { first = word reserved.Trait s; more = named name ∷ []; obeys = λ names allowed. true }
said_api_declaration (declaration.Object s name) =
    record { first = word reserved.Object s; more = named name ∷ []; obeys = λ names allowed. true }

-- what a declaration of an API says, and its `;`
abbrev pub said_api_declared : ApiDeclared → SaidEntry
said_api_declared d = record { item = said_api_declaration d.declaration; semicolon = d.semicolon }

-- the tokens of an API
abbrev pub api_tokens : Api → List Token
api_tokens a = word reserved.Api a.api ∷ named a.name
    ∷ (entries_tokens (map said_api_declared a.declarations) ++ word reserved.End a.end ∷ [])

-- whether the rules on gaps and names hold in an API, over these names; each of its declarations
-- but the first stands behind a `;` or on a new line, as in a component
abbrev pub api_obeys : Spellings → Api → Bool
api_obeys names a = entries_obey names (map said_api_declared a.declarations)

-- The tokens are those of this API, and it obeys the rules on gaps and names.
pub record HasApi (tokens : Tokens) (a : Api) : Type 0 where
  pub yields : api_tokens a ≡ tokens.list
  pub obeys : IsTrue (api_obeys tokens.names a)

-- ---- units

-- The tokens are those of this unit.
abbrev pub HasUnit : Tokens → Unit → Type 0
HasUnit tokens (a_unit.Component u) = HasComponent tokens u
HasUnit tokens (a_unit.Api a) = HasApi tokens a
