-- The chapter "Threads that are spawned": a component in which the word `spawn` stands,
-- with the prelude before its declarations. The code changes the component in its place.
use Rattle.std.specs.Prelude.{◌≡◌, Bool, true, false, List, ◌++◌, cond, codes, map}
use Rattle.std.specs.List.{list_any}
use Rattle.fort_base.specs.declared.ids.NameId.{NameId}
use Rattle.fort_lex_token.specs.declared.reserved.Reserved.TheVariants as reserved
use Rattle.fort_lex_token.specs.declared.token.Kind.{Kind}
use Rattle.fort_lex_token.specs.declared.token.Kind.TheVariants as kind
use Rattle.fort_lex_token.specs.declared.token.Token.{Token}
use Rattle.fort_tree.specs.declared.declarations.Component.{Component}
use Rattle.fort_tree.specs.declared.declarations.Declaration.{Declaration}
use Rattle.fort_tree.specs.declared.declarations.Declaration.TheVariants as declaration
use Rattle.fort_tree.specs.declared.declarations.Declared.{Declared}
use Rattle.fort_tree.specs.declared.declarations.Function.{Function}
use Rattle.fort_tree.specs.declared.declarations.FunctionName.{FunctionName}
use Rattle.fort_tree.specs.declared.declarations.FunctionName.TheVariants as function_name
use Rattle.fort_tree.specs.Tokens.{Spellings}
use Rattle.fort_tree.specs.Component.{yield}
use Rattle.fort_spawn_prelude.specs.Prelude.{IsPrelude, extended, id_in}
use Rattle.fort_spawn.specs.Starts.{is_run, starts}

-- ---- the word `spawn`

-- whether a kind is the word `spawn`
abbrev pub is_spawn_kind : Kind → Bool
is_spawn_kind (kind.Word reserved.Spawn) = true
is_spawn_kind _ = false

abbrev pub is_spawn : Token → Bool
is_spawn t = is_spawn_kind t.kind

-- whether the word `spawn` stands among tokens
abbrev pub has_spawn : List Token → Bool
has_spawn ts = list_any is_spawn ts

-- Whether the word `spawn` stands in a component.
abbrev pub spawns : Component → Bool
spawns c = has_spawn (yield c)

-- ---- `run` as `run'`

-- a name of a function with another number, at its place
abbrev pub name_as : NameId → FunctionName → FunctionName
name_as id (function_name.Name name) =
    function_name.Name (record { id = id; spot = name.spot })
name_as id other = other

-- a function, which is renamed where it is a `run` without parameters
abbrev pub function_as : NameId → Spellings → Function → Function
function_as id names f = record {
  name = cond (is_run names f) (name_as id f.name) f.name;
  left = f.left;
  parameters = f.parameters;
  right = f.right;
  colon = f.colon;
  result = f.result;
  equals = f.equals;
  body = f.body;
}

abbrev pub declaration_as : NameId → Spellings → Declaration → Declaration
declaration_as id names (declaration.Function f) = declaration.Function (function_as id names f)
declaration_as id names other = other

abbrev pub declared_as : NameId → Spellings → Declared → Declared
declared_as id names d =
    record { declaration = declaration_as id names d.declaration; semicolon = d.semicolon }

-- the names of a component with the prelude before its declarations
abbrev pub names_with : Component → Spellings
names_with c = extended c.names (starts c)

-- declarations of a component that starts or doesn't, over its names and over those with the prelude
abbrev pub renamed_over : Bool → Spellings → Spellings → List Declared → List Declared
renamed_over starts all names declarations =
    cond starts (map (declared_as (id_in all (codes "run'")) names) declarations) declarations

-- A component's declarations: where it starts, each function `run` without parameters is `run'`.
abbrev pub renamed : Component → List Declared
renamed c = renamed_over (starts c) (names_with c) c.names c.declarations

-- ---- the component

-- a component with a prelude before its declarations
abbrev pub with_prelude : Component → List Declared → Component
with_prelude c prelude = record {
  component = c.component;
  name = c.name;
  export = c.export;
  declarations = prelude ++ renamed c;
  end = c.end;
  names = names_with c;
  texts = c.texts;
}

-- A component without the word `spawn` is as it is; one with it gets the prelude over its names.
pub data IsRewritten (c d : Component) : Type 0 where
  AsItIs : spawns c ≡ false → d ≡ c → IsRewritten c d
  WithPrelude : spawns c ≡ true → (prelude : List Declared)
      → IsPrelude (names_with c) (starts c) prelude → d ≡ with_prelude c prelude → IsRewritten c d
