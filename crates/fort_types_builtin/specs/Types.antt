-- The chapter "Types": the built-in declared types. Their one table stands in src/types.rt; the
-- code walks its rows.
use Rattle.std.specs.Prelude.{ℕ, List, [], ◌∷◌, ◌++◌, Option, Some, None, map}
use Rattle.std.specs.Borrow.{Bor}
use Rattle.fort_base.specs.declared.ids.TypeId.{TypeId}
use Rattle.fort_types.specs.declared.hierarchy.DeclaredType.{DeclaredType}
use Rattle.fort_types.specs.declared.hierarchy.TypeKind.{TypeKind}
use Rattle.fort_types_builtin.specs.declared.types.TheConstants.{TYPES, ANY}

-- ---- the table

-- A built-in declared type: its name, its kind, and the type that it extends, where there is one.
pub record BuiltInType : Type 0 where
  pub name : List ℕ
  pub kind : TypeKind
  pub extends : Option TypeId

-- The built-in declared types, in the order of their numbers.
unfoldable pub types : List BuiltInType
types = map (λ k. record { name = k.0.now; kind = k.1; extends = k.2 }) TYPES

-- the same of a row that the code holds
abbrev pub row_of : Bor (List ℕ) × TypeKind × Option TypeId → BuiltInType
row_of k = record { name = k.0.now; kind = k.1; extends = k.2 }

-- ---- names

-- the name of a type
abbrev pub type_name_of : BuiltInType → List ℕ
type_name_of t = t.name

-- The names of the built-in declared types, in the order of their numbers.
unfoldable pub declared_spellings : List (List ℕ)
declared_spellings = map type_name_of types

-- `Any`, which is a type but no declared one.
unfoldable pub any_spelling : List ℕ
any_spelling = ANY.now

-- The names of the built-in types, `Any` behind the declared ones.
unfoldable pub type_spellings : List (List ℕ)
type_spellings = declared_spellings ++ any_spelling ∷ []

-- ---- declared types

-- a built-in type, which extends these, excludes nothing and has no list
abbrev pub plain : TypeKind → List ℕ → DeclaredType
plain kind extends = record { kind = kind; extends = extends; excludes = []; comprises = [] }

-- the numbers of what a type extends
abbrev pub above_of : Option TypeId → List ℕ
above_of None = []
above_of (Some t) = t.0 ∷ []

-- What a row of the table declares.
abbrev pub declared_by_row : BuiltInType → DeclaredType
declared_by_row t = plain t.kind (above_of t.extends)

-- The built-in declared types, in the order of their numbers.
unfoldable pub built_in_declared : List DeclaredType
built_in_declared = map declared_by_row types
