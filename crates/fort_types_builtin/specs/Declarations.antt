-- The chapter "Members", built-in declarations. Their one table stands in src/table.rt; the code
-- walks its rows.
use Rattle.std.specs.Prelude.{ℕ, nat_eq, Bool, ◌&&◌, List, [], length, map, filter, drop}
use Rattle.std.specs.Str.{bytes_eq}
use Rattle.std.specs.Borrow.{Bor}
use Rattle.fort_base.specs.declared.ty.Ty.{Ty}
use Rattle.fort_base.specs.declared.ty.Ty.TheVariants as a_type
use Rattle.fort_core.specs.declared.primitive.Primitive.{Primitive}
use Rattle.fort_types_builtin.specs.declared.table.BuiltInDeclaration.{BuiltInDeclaration}
use Rattle.fort_types_builtin.specs.declared.table.Simple.{Simple}
use Rattle.fort_types_builtin.specs.declared.table.Simple.TheVariants as simple
use Rattle.fort_types_builtin.specs.declared.table.TheConstants.{DECLARATIONS, OPERATOR_COUNT}

-- The type that a row means.
abbrev pub ty_of : Simple → Ty
ty_of simple.Any = a_type.Any
ty_of simple.Unit = a_type.Tuple []
ty_of (simple.Declared id) = a_type.Named id

-- The declaration of the parts of a row.
abbrev pub declared_by : List ℕ → List Simple → Simple → Primitive → BuiltInDeclaration
declared_by name parameters result primitive =
    record {
      name = name;
      parameters = map ty_of parameters;
      result = ty_of result;
      primitive = primitive;
    }

-- The built-in declarations, in their order.
unfoldable pub declarations : List BuiltInDeclaration
declarations = map (λ k. declared_by k.0.now k.1.now k.2 k.3) DECLARATIONS

-- the declaration of a row that the code holds
abbrev pub declaration_of : Bor (List ℕ) × Bor (List Simple) × Simple × Primitive
    → BuiltInDeclaration
declaration_of k = declared_by k.0.now k.1.now k.2 k.3

-- the name of a declaration
abbrev pub declared_name : BuiltInDeclaration → List ℕ
declared_name d = d.name

-- The names of the built-in functions that no operator names; the operators stand before them.
unfoldable pub function_spellings : List (List ℕ)
function_spellings = map declared_name (drop OPERATOR_COUNT declarations)

-- ---- the built-in declarations of an overload set

-- A declaration has a name and so many parameters.
abbrev pub has : List ℕ → ℕ → BuiltInDeclaration → Bool
has name width d = bytes_eq d.name name && nat_eq (length d.parameters) width

-- The built-in declarations with a name and so many parameters, in their order.
abbrev pub declarations_of : List ℕ → ℕ → List BuiltInDeclaration
declarations_of name width = filter (has name width) declarations

-- what a declaration is to the machine
abbrev pub primitive_of : BuiltInDeclaration → Primitive
primitive_of d = d.primitive

-- What these are to the machine.
abbrev pub primitives_of : List ℕ → ℕ → List Primitive
primitives_of name width = map primitive_of (declarations_of name width)
