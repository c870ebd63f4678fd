-- The chapter "Types", names at the top: the heads of a component's types. The code walks the
-- declarations once.
use Rattle.std.specs.Prelude.{ℕ, ◌+◌, List, [], ◌∷◌, ◌++◌, Option, Some, None, map}
use Rattle.fort_base.specs.declared.refusal.Place.{Place}
use Rattle.fort_types.specs.declared.hierarchy.TypeKind.TheVariants as a_kind
use Rattle.fort_tree.specs.declared.declarations.Component.{Component}
use Rattle.fort_tree.specs.declared.declarations.Comprises.{Comprises}
use Rattle.fort_tree.specs.declared.declarations.Declaration.{Declaration}
use Rattle.fort_tree.specs.declared.declarations.Declaration.TheVariants as declaration
use Rattle.fort_tree.specs.declared.declarations.Declared.{Declared}
use Rattle.fort_tree.specs.declared.declarations.Excludes.{Excludes}
use Rattle.fort_tree.specs.declared.declarations.Extends.{Extends}
use Rattle.fort_tree.specs.declared.declarations.Names.{Names}
use Rattle.fort_tree.specs.declared.declarations.Names.TheVariants as a_list
use Rattle.fort_tree.specs.declared.declarations.Object.{Object}
use Rattle.fort_tree.specs.declared.declarations.Trait.{Trait}
use Rattle.fort_tree.specs.declared.spot.Name.{Name}
use Rattle.fort_tree.specs.declared.spot.NextName.{NextName}
use Rattle.fort_hier.specs.declared.heads.TypeHead.{TypeHead}

-- the name behind a comma
abbrev pub name_of : NextName → Name
name_of next = next.name

-- The names of a list, in their order.
abbrev pub names_of : Names → List Name
names_of (a_list.One name) = name ∷ []
names_of (a_list.Braces left first others right) = first ∷ map name_of others

-- The names of an `extends`, where there is one.
abbrev pub extends_of : Option Extends → Option (List Name)
extends_of None = None
extends_of (Some part) = Some (names_of part.names)

-- The names of an `excludes`.
abbrev pub excludes_of : Option Excludes → List Name
excludes_of None = []
excludes_of (Some part) = names_of part.names

-- The names of a `comprises`.
abbrev pub comprises_of : Option Comprises → List Name
comprises_of None = []
comprises_of (Some part) = names_of part.names

-- The head of a trait that is the declaration of that number.
abbrev pub trait_head : ℕ → Trait → TypeHead
trait_head body t =
    record {
      name = t.name;
      kind = a_kind.Trait;
      body = body;
      extends = extends_of t.extends;
      excludes = excludes_of t.excludes;
      comprises = comprises_of t.comprises;
    }

-- The head of an object that is the declaration of that number; it excludes nothing and has no
-- list.
abbrev pub object_head : ℕ → Object → TypeHead
object_head body o =
    record {
      name = o.name;
      kind = a_kind.Object;
      body = body;
      extends = extends_of o.extends;
      excludes = [];
      comprises = [];
    }

-- The head of a declaration, where it declares a type.
abbrev pub head_of : ℕ → Declaration → List TypeHead
head_of body (declaration.Variable v) = []
head_of body (declaration.Function f) = []
head_of body (declaration.Trait t) = trait_head body t ∷ []
head_of body (declaration.Object o) = object_head body o ∷ []

-- The heads of declarations that are counted from a number.
abbrev pub heads_from : ℕ → List Declared → List TypeHead
heads_from body [] = []
heads_from body (d ∷ ds) = head_of body d.declaration ++ heads_from (body + 1) ds

-- The heads of a component's types, in source order.
abbrev pub heads_of : Component → List TypeHead
heads_of c = heads_from 0 c.declarations

-- the place of a type's name
abbrev pub head_place : TypeHead → Place
head_place head = head.name.spot.place

-- the number of a type's declaration
abbrev pub head_body : TypeHead → Option ℕ
head_body head = Some head.body
