-- The chapter "Components and APIs": the component that several are together. The code puts the
-- declarations one behind another, the last component's first.
use Rattle.std.specs.Prelude.{◌≡◌, if◌then◌else◌, List, [], ◌∷◌, ◌++◌, Option, Some, None, option_map}
use Rattle.std.specs.Option.{option_or}
use Rattle.fort_tree.specs.declared.declarations.Component.{Component}
use Rattle.fort_tree.specs.declared.declarations.Declared.{Declared}
use Rattle.fort_tree.specs.declared.declarations.Export.{Export}
use Rattle.fort_tree.specs.declared.spot.Spot.{Spot}
use Rattle.fort_tree.specs.Tokens.{Spellings, is_spelled}
use Rattle.fort_link_units.specs.declared.unit.ComponentUnit.{ComponentUnit}
use Rattle.fort_link_units.specs.declared.unit.Unit.{Unit}
use Rattle.fort_link_units.specs.declared.unit.Unit.TheVariants as a_unit
use Rattle.fort_link.specs.declared.whole.Head.{Head}

-- the components among units, in their order
abbrev pub components : List Unit → List ComponentUnit
components [] = []
components (a_unit.Component u ∷ us) = u ∷ components us
components (a_unit.Api a ∷ us) = components us

-- ---- the head

-- the first export of `Executable`
abbrev pub executable : Spellings → List Export → Option Export
executable names [] = None
executable names (e ∷ es) =
    if is_spelled "Executable" names e.name then Some e else executable names es

-- the head of a component that exports `Executable`
abbrev pub head_of : Spellings → ComponentUnit → Option Head
head_of names u = let c = u.parsed.component in
    option_map (λ e. record { component = c.component; name = c.name; export = e })
    (executable names u.exports)

-- the head of the component that exports `Executable`
abbrev pub main_head : Spellings → List ComponentUnit → Option Head
main_head names [] = None
main_head names (u ∷ us) = option_or (head_of names u) (main_head names us)

-- ---- the declarations

-- a declaration, which has its own `;`, or else this one
abbrev pub with_semicolon : Option Spot → Spot → Option Spot
with_semicolon (Some own) end = Some own
with_semicolon None end = Some end

-- declarations whose last one has a `;`, its own or else this one
abbrev pub closed : List Declared → Spot → List Declared
closed [] end = []
closed (d ∷ []) end = record {
  declaration = d.declaration;
  semicolon = with_semicolon d.semicolon end;
} ∷ []
closed (d ∷ e ∷ ds) end = d ∷ closed (e ∷ ds) end

-- The declarations of a component before others: where there are others and the last of its own has
-- no `;`, the component's `end` is that `;`.
abbrev pub declared_before : ComponentUnit → List Declared → List Declared
declared_before u [] = u.parsed.component.declarations
declared_before u (d ∷ others) =
    closed u.parsed.component.declarations u.parsed.component.end ++ d ∷ others

-- the declarations of components, one component behind another, before others
abbrev pub all_declared_before : List ComponentUnit → List Declared → List Declared
all_declared_before [] others = others
all_declared_before (u ∷ us) others = declared_before u (all_declared_before us others)

-- ---- the whole

-- the `end` of the last component
abbrev pub last_end : List ComponentUnit → Option Spot
last_end [] = None
last_end (u ∷ []) = Some u.parsed.component.end
last_end (u ∷ v ∷ us) = last_end (v ∷ us)

-- A component is the whole of units over these names and texts: it has the head of the one that
-- exports `Executable`, the declarations of all, in their order, and the `end` of the last one.
pub record IsWhole (names : Spellings) (texts : Spellings) (units : List Unit)
    (c : Component) : Type 0 where
  pub head : Head
  pub begins : main_head names (components units) ≡ Some head
  pub end : Spot
  pub ends : last_end (components units) ≡ Some end
  pub is : c ≡ record {
    component = head.component;
    name = head.name;
    export = Some head.export;
    declarations = all_declared_before (components units) [];
    end = end;
    names = names;
    texts = texts;
  }
