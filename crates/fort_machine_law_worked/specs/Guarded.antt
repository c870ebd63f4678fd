-- Chapter "A worked program": an object with a field, which an atomic form adds to, with all
-- built-in types. Nothing in the code is like it.
use Rattle.std.specs.Prelude.{◌++◌, pos}
use Rattle.std.specs.Prelude.{ℕ, Bool, true, false, List, [], ◌∷◌, map, None}
use Rattle.fort_base.specs.declared.ids.Loc.{Loc}
use Rattle.fort_base.specs.declared.ids.NameId.{NameId}
use Rattle.fort_base.specs.declared.ty.Ty.{Ty, Tuple}
use Rattle.fort_base.specs.declared.ty.Ty.TheVariants.{Named}
use Rattle.fort_core.specs.declared.form.Mode.TheVariants as mode
use Rattle.fort_core.specs.declared.program.CoreBody.TheVariants as body
use Rattle.fort_core.specs.declared.program.CoreDecl.{CoreDecl}
use Rattle.fort_core.specs.declared.program.CoreField.{CoreField}
use Rattle.fort_core.specs.declared.program.CoreKind.TheVariants.{Trait, Leaf, Single, Object}
use Rattle.fort_core.specs.declared.program.CoreShape.{CoreShape}
use Rattle.fort_core.specs.declared.program.Program.{Program}
use Rattle.fort_core.specs.declared.term.Term.{Term, Call, Operator, ReadField, WriteField, Let, Then, Try, Atomic}
use Rattle.fort_core.specs.declared.term.Term as term
use Rattle.fort_core.specs.declared.term.Term.TheVariants.{Variable}
use Rattle.fort_core.specs.declared.value.Value.{Value, Small}
use Rattle.fort_machine.specs.Acts.{unit}
use Rattle.fort_machine.specs.Effects.{Store}
use Rattle.fort_machine.specs.Proper.{Reached}
use Rattle.fort_machine.specs.Runs.{location}
use Rattle.fort_machine.specs.Worked.{type, set, decl, numbered, println_decl}
use Rattle.fort_machine_law_worked.specs.Overflow.{plus_decl, plain}
use Rattle.fort_sound_typed.specs.Sound.{Sound}
use Rattle.fort_sound_typed.specs.Goes.{Complete, Goes}
use Rattle.fort_sound_typed.specs.Overloads.{KeepsRules}

-- The rows of the built-in types and of `Counter`: each is below itself and `Object`, and the
-- exceptions are below `Exception`.
abbrev pub rows : List (List Bool)
rows =
    (true ∷ [])
    ∷ (true ∷ true ∷ [])
    ∷ (true ∷ false ∷ true ∷ [])
    ∷ (true ∷ false ∷ false ∷ true ∷ [])
    ∷ (true ∷ false ∷ false ∷ false ∷ true ∷ [])
    ∷ (true ∷ false ∷ false ∷ false ∷ false ∷ true ∷ [])
    ∷ (true ∷ false ∷ false ∷ false ∷ false ∷ false ∷ true ∷ [])
    ∷ (true ∷ true ∷ false ∷ false ∷ false ∷ false ∷ false ∷ true ∷ [])
    ∷ (true ∷ true ∷ false ∷ false ∷ false ∷ false ∷ false ∷ false ∷ true ∷ [])
    ∷ (true ∷ true ∷ false ∷ false ∷ false ∷ false ∷ false ∷ false ∷ false ∷ true ∷ [])
    ∷ (true ∷ true ∷ false ∷ false ∷ false ∷ false ∷ false ∷ false ∷ false ∷ false ∷ true ∷ [])
    ∷ (true ∷ true ∷ false ∷ false ∷ false ∷ false ∷ false ∷ false ∷ false ∷ false ∷ false ∷ true
    ∷ [])
    ∷ (true ∷ true ∷ false ∷ false ∷ false ∷ false ∷ false ∷ false ∷ false ∷ false ∷ false ∷ false
    ∷ true ∷ [])
    ∷ (true ∷ true ∷ false ∷ false ∷ false ∷ false ∷ false ∷ false ∷ false ∷ false ∷ false ∷ false
    ∷ false ∷ true ∷ [])
    ∷ (true ∷ true ∷ false ∷ false ∷ false ∷ false ∷ false ∷ false ∷ false ∷ false ∷ false ∷ false
    ∷ false ∷ false ∷ true ∷ [])
    ∷ (true ∷ true ∷ false ∷ false ∷ false ∷ false ∷ false ∷ false ∷ false ∷ false ∷ false ∷ false
    ∷ false ∷ false ∷ false ∷ true ∷ [])
    ∷ (true ∷ true ∷ false ∷ false ∷ false ∷ false ∷ false ∷ false ∷ false ∷ false ∷ false ∷ false
    ∷ false ∷ false ∷ false ∷ false ∷ true ∷ [])
    ∷ (true ∷ false ∷ false ∷ false ∷ false ∷ false ∷ false ∷ false ∷ false ∷ false ∷ false ∷ false
    ∷ false ∷ false ∷ false ∷ false ∷ false ∷ true ∷ [])
    ∷ []

-- The locations of the ten exceptions, which are single objects.
abbrev pub locations : List ℕ
locations = 0 ∷ 1 ∷ 2 ∷ 3 ∷ 4 ∷ 5 ∷ 6 ∷ 7 ∷ 8 ∷ 9 ∷ []

-- A location that holds `()`.
abbrev pub holding : ℕ → Loc × Value
holding n = (location n, unit)

-- Its type.
abbrev pub typed : ℕ → Loc × Ty
typed n = (location n, Tuple [])

-- A single object without fields, at a location.
abbrev pub single_at : ℕ → CoreShape
single_at n = plain (Single (location n))

-- The name of the field of `Counter`.
abbrev pub count_name : NameId
count_name = record { 0 = 0 }

-- The type ZZ32.
abbrev pub number : Ty
number = Named (type 2)

-- The field, a parameter of the object.
abbrev pub count : CoreField
count = record { name = count_name; ty = number; mutable = true; initial = None }

-- `object Counter(var n: ZZ32) end`
abbrev pub counter : CoreShape
counter = record { kind = Object; fields = count ∷ [] }

-- The type `Counter`.
abbrev pub counter_type : Ty
counter_type = Named (type 17)

-- Two traits, the five leaves, the ten exceptions, `Counter`.
abbrev pub shapes : List CoreShape
shapes = plain Trait ∷ plain Trait ∷ plain Leaf ∷ plain Leaf ∷ plain Leaf ∷ plain Leaf ∷ plain Leaf
    ∷ (map single_at locations ++ counter ∷ [])

-- A number as a term.
abbrev pub figure : ℕ → Term
figure n = term.Value (Small (pos n))

-- `Counter(2147483647)`
abbrev pub making : Term
making = Call (set 3) (figure 2147483647 ∷ [])

-- `c.n`
abbrev pub reading : Term
reading = ReadField (Variable 0) count_name

-- `c.n + 1`
abbrev pub adding : Term
adding = Operator (set 2) (reading ∷ figure 1 ∷ [])

-- `atomic c.n := c.n + 1`
abbrev pub setting : Term
setting = Atomic mode.Atomic (WriteField (Variable 0) count_name adding)

-- `println(c.n)`
abbrev pub printing : Term
printing = Call (set 1) (reading ∷ [])

-- `c: Counter = Counter(2147483647)`, then both.
abbrev pub counting : Term
counting = Let ((0, counter_type) ∷ []) making (Then setting printing)

-- The body of `run`: `try` that, `catch e IntegerOverflow => ()`.
abbrev pub guarded_body : Term
guarded_body = Try counting 1 ((term.Value unit, Named (type 7)) ∷ []) None

-- The declaration of `run`.
abbrev pub run_decl : CoreDecl
run_decl = record { parameters = []; result = Tuple []; body = body.Plain guarded_body }

-- The constructor of `Counter`.
abbrev pub counter_decl : CoreDecl
counter_decl = record { parameters = number ∷ []; result = counter_type; body = body.New (type 17) }

-- The program.
abbrev pub guarded : Program
guarded = record {
  types = record { below = rows; apart = [] };
  built_in = numbered;
  type_names = [];
  shapes = shapes;
  sets = record { decls = decl 0 ∷ [] } ∷ record { decls = decl 1 ∷ [] }
      ∷ record { decls = decl 2 ∷ [] } ∷ record { decls = decl 3 ∷ [] } ∷ [];
  decls = run_decl ∷ println_decl ∷ plus_decl ∷ counter_decl ∷ [];
  first = Call (set 0) [];
  opening = map holding locations;
  opening_types = map typed locations;
}

-- It is accepted: sound, complete, and it keeps the rules on overloading.
abbrev pub GuardedIsAccepted : Type 0
GuardedIsAccepted = Sound guarded × KeepsRules guarded × Complete guarded

-- So no machine of it is stuck.
abbrev pub GuardedGoesOn : Type 0
GuardedGoesOn = (inner : Bool) (s : Store) (t : Term) → Reached guarded inner s t
    → Goes guarded inner s t
