-- Chapter "The machine with threads": the types of a worked program, the prelude's among them. The
-- program of each component with spawned threads has such tables, with its own types behind these.
use Rattle.std.specs.Prelude.{ℕ, Bool, false, true, ◌||◌, not, List, [], ◌∷◌, ◌++◌, map, codes, pos, Some, None}
use Rattle.fort_base.specs.declared.ids.Loc.{Loc}
use Rattle.fort_base.specs.declared.ids.NameId.{NameId}
use Rattle.fort_base.specs.declared.ty.Ty.{Ty, Tuple, Arrow}
use Rattle.fort_base.specs.declared.ty.Ty.TheVariants.{Any, Named}
use Rattle.fort_core.specs.declared.program.CoreField.{CoreField}
use Rattle.fort_core.specs.declared.program.CoreKind.{CoreKind}
use Rattle.fort_core.specs.declared.program.CoreKind.TheVariants.{Trait, Leaf, Single, Object}
use Rattle.fort_core.specs.declared.program.CoreShape.{CoreShape}
use Rattle.fort_core.specs.declared.value.Value.{Value, Small, Truth}
use Rattle.fort_types.specs.Table.{is_set}
use Rattle.fort_machine.specs.Acts.{unit}
use Rattle.fort_machine.specs.Runs.{location}
use Rattle.fort_machine.specs.Scopes.{is_among}
use Rattle.fort_machine.specs.Worked.{type}

-- The types have the numbers from 0 on: the built-in ones, `TooManyThreads`, `Thread`, `Thread'`.
abbrev pub type_numbers : List ℕ
type_numbers = 0 ∷ 1 ∷ 2 ∷ 3 ∷ 4 ∷ 5 ∷ 6 ∷ 7 ∷ 8 ∷ 9 ∷ 10 ∷ 11 ∷ 12 ∷ 13 ∷ 14 ∷ 15 ∷ 16 ∷ 17 ∷ 18
    ∷ 19 ∷ []

-- What each is below: itself and `Object`; an exception `Exception`; `Thread'` `Thread`.
abbrev pub above : List (List ℕ)
above = (0 ∷ []) ∷ (0 ∷ 1 ∷ []) ∷ (0 ∷ 2 ∷ []) ∷ (0 ∷ 3 ∷ []) ∷ (0 ∷ 4 ∷ []) ∷ (0 ∷ 5 ∷ [])
    ∷ (0 ∷ 6 ∷ []) ∷ (0 ∷ 1 ∷ 7 ∷ []) ∷ (0 ∷ 1 ∷ 8 ∷ []) ∷ (0 ∷ 1 ∷ 9 ∷ []) ∷ (0 ∷ 1 ∷ 10 ∷ [])
    ∷ (0 ∷ 1 ∷ 11 ∷ []) ∷ (0 ∷ 1 ∷ 12 ∷ []) ∷ (0 ∷ 1 ∷ 13 ∷ []) ∷ (0 ∷ 1 ∷ 14 ∷ [])
    ∷ (0 ∷ 1 ∷ 15 ∷ []) ∷ (0 ∷ 1 ∷ 16 ∷ []) ∷ (0 ∷ 1 ∷ 17 ∷ []) ∷ (0 ∷ 18 ∷ []) ∷ (0 ∷ 18 ∷ 19
    ∷ [])
    ∷ []

-- A row has these places set.
abbrev pub row : List ℕ → List Bool
row js = map (λ j. is_among j js) type_numbers

abbrev pub rows : List (List Bool)
rows = map row above

-- Two of them are apart where neither is below the other: no two traits here have a type in common
-- but by that.
abbrev pub are_apart : ℕ → ℕ → Bool
are_apart i j = not (is_set rows i j || is_set rows j i)

abbrev pub apart_row : ℕ → List Bool
apart_row i = map (are_apart i) type_numbers

abbrev pub names : List (List ℕ)
names = codes "Object" ∷ codes "Exception" ∷ codes "ZZ32" ∷ codes "ZZ64" ∷ codes "String"
    ∷ codes "Boolean" ∷ codes "Range" ∷ codes "IntegerOverflow" ∷ codes "DivisionByZero"
    ∷ codes "NegativeExponent" ∷ codes "IndexOutOfRange" ∷ codes "NegativeSize"
    ∷ codes "EmptyReduction" ∷ codes "MatchFailure" ∷ codes "DepthExceeded"
    ∷ codes "TryAtomicFailure" ∷ codes "AbortOutside" ∷ codes "TooManyThreads" ∷ codes "Thread"
    ∷ codes "Thread'" ∷ []

-- Types by their names.
abbrev pub unit_type : Ty
unit_type = Tuple []

abbrev pub exception_type : Ty
exception_type = Named (type 1)

abbrev pub small_type : Ty
small_type = Named (type 2)

abbrev pub large_type : Ty
large_type = Named (type 3)

abbrev pub text_type : Ty
text_type = Named (type 4)

abbrev pub truth_type : Ty
truth_type = Named (type 5)

abbrev pub range_type : Ty
range_type = Named (type 6)

-- `Thread` and `Thread'`.
abbrev pub any_thread : Ty
any_thread = Named (type 18)

abbrev pub thread_type : Ty
thread_type = Named (type 19)

-- `() -> Any` and `() -> ()`.
abbrev pub any_function : Ty
any_function = Arrow unit_type Any

abbrev pub unit_function : Ty
unit_function = Arrow unit_type unit_type

-- The fields of `Thread'`: the names of the component come before those of the prelude.
abbrev pub name : ℕ → NameId
name n = record { 0 = n }

abbrev pub body_name : NameId
body_name = name 19

abbrev pub state_name : NameId
state_name = name 20

abbrev pub value_name : NameId
value_name = name 21

abbrev pub next_name : NameId
next_name = name 22

abbrev pub body_field : CoreField
body_field = record { name = body_name; ty = any_function; mutable = false; initial = None }

abbrev pub state_field : CoreField
state_field =
    record { name = state_name; ty = small_type; mutable = true; initial = Some (Small (pos 0)) }

abbrev pub value_field : CoreField
value_field = record { name = value_name; ty = Any; mutable = true; initial = Some unit }

abbrev pub next_field : CoreField
next_field = record { name = next_name; ty = Any; mutable = true; initial = Some unit }

-- What the types are made of.
abbrev pub plain : CoreKind → CoreShape
plain kind = record { kind = kind; fields = [] }

abbrev pub single_at : ℕ → CoreShape
single_at n = plain (Single (location n))

abbrev pub thread_shape : CoreShape
thread_shape =
    record {
      kind = Object;
      fields = body_field ∷ state_field ∷ value_field ∷ next_field ∷ [];
    }

-- Behind the four variables stand the single objects, built-in ones first.
abbrev pub locations : List ℕ
locations = 4 ∷ 5 ∷ 6 ∷ 7 ∷ 8 ∷ 9 ∷ 10 ∷ 11 ∷ 12 ∷ 13 ∷ 14 ∷ []

abbrev pub shapes : List CoreShape
shapes = plain Trait ∷ plain Trait ∷ plain Leaf ∷ plain Leaf ∷ plain Leaf ∷ plain Leaf ∷ plain Leaf
    ∷ (map single_at locations ++ plain Trait ∷ thread_shape ∷ [])

-- The opening store: `queue'`, `open'`, `count'` and `started'`; and `()` where an object stands.
abbrev pub holding : ℕ → Loc × Value
holding n = (location n, unit)

abbrev pub opening : List (Loc × Value)
opening = (location 0, unit) ∷ (location 1, Small (pos 0)) ∷ (location 2, Small (pos 0))
    ∷ (location 3, Truth false) ∷ map holding locations

abbrev pub typed : ℕ → Loc × Ty
typed n = (location n, unit_type)

abbrev pub opening_types : List (Loc × Ty)
opening_types = (location 0, Any) ∷ (location 1, small_type) ∷ (location 2, small_type)
    ∷ (location 3, truth_type) ∷ map typed locations
