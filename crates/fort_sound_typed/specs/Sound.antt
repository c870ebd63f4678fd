-- Chapters "Accepted programs" and "What runs keep": what is taken of a program, and what its runs
-- keep. The check of a component gives the first; the code of a run rests on the second.
use Rattle.std.specs.Prelude.{◌≡◌, ℕ, ◌+◌, ◌==◌, if◌then◌else◌, ◌⊎◌, IsTrue, List, [], ◌∷◌, ◌++◌, map, slice_get, Some, None}
use Rattle.fort_base.specs.declared.ids.DeclId.{DeclId}
use Rattle.fort_base.specs.declared.ids.Loc.{Loc}
use Rattle.fort_base.specs.declared.ids.NameId.{NameId}
use Rattle.fort_base.specs.declared.ids.SetId.{SetId}
use Rattle.fort_base.specs.declared.ids.TypeId.{TypeId}
use Rattle.fort_base.specs.declared.ty.Ty.{Ty}
use Rattle.fort_base.specs.declared.ty.Ty.TheVariants.{Named}
use Rattle.fort_core.specs.declared.primitive.Primitive.{Primitive}
use Rattle.fort_core.specs.declared.program.CoreBody.TheVariants as body
use Rattle.fort_core.specs.declared.program.CoreDecl.{CoreDecl}
use Rattle.fort_core.specs.declared.program.CoreField.{CoreField}
use Rattle.fort_core.specs.declared.program.CoreShape.{CoreShape}
use Rattle.fort_core.specs.declared.term.Term.{Term}
use Rattle.fort_core.specs.declared.value.Value.{Value}
use Rattle.fort_core.specs.declared.program.Program.{Program}
use Rattle.fort_types.specs.Table.{is_set}
use Rattle.fort_machine.specs.Acts.{single}
use Rattle.fort_machine.specs.Calls.{IsApplicable, IsMoreSpecific, constants}
use Rattle.fort_core.specs.declared.pick.Pick.{Pick}
use Rattle.std.specs.Prelude.{Bool}
use Rattle.fort_machine.specs.Effects.{Store, Effect, afterwards}
use Rattle.fort_machine.specs.Attempts.{Ended, goes}
use Rattle.fort_machine.specs.Runs.{Runs}
use Rattle.fort_machine.specs.Journals.{opening_store, IsRun}
use Rattle.fort_machine.specs.OneDefinition.{HasDefinition, IsOne}
use Rattle.fort_sound_typed.specs.Signatures.{parameters_of, result_of}
use Rattle.fort_sound_typed.specs.Envs.{Sort, fixed, Sig, Env, none, binds}
use Rattle.fort_sound_typed.specs.Typing.{Below, unit_type, thrown_type, ShapeOf, Makes, FieldOf, Has, HasV, HasVs}

-- The types of a store grow: each location keeps its type for its life, and new ones come.
abbrev pub Up : Sig → Sig → Type 0
Up S S' = (l : ℕ) (F : Ty) → S l ≡ Some F → S' l ≡ Some F

-- The type of a location in a list of locations with types.
abbrev pub typed_at : List (Loc × Ty) → Sig
typed_at [] l = None
typed_at (q ∷ qs) l = if q.0.0 == l then Some q.1 else typed_at qs l

-- Those of a program.
abbrev pub opening : Program → Sig
opening p = typed_at p.opening_types

-- The parameters of a declaration, as the variables from a number on.
abbrev pub numbered : ℕ → List Ty → List (ℕ × Sort)
numbered n [] = []
numbered n (A ∷ As) = (n, fixed A) ∷ numbered (n + 1) As

-- The exceptions that steps and built-in declarations throw.
abbrev pub IsFailure : Program → TypeId → Type 0
IsFailure p id = let b = p.built_in in
    (id ≡ b.integer_overflow) ⊎ (id ≡ b.division_by_zero) ⊎ (id ≡ b.negative_exponent)
    ⊎ (id ≡ b.index_out_of_range) ⊎ (id ≡ b.negative_size)
    ⊎ (id ≡ b.depth_exceeded) ⊎ (id ≡ b.try_atomic_failure) ⊎ (id ≡ b.abort_outside)

-- A constructor makes objects of its type: the fields' types are those of its parameters, then
-- those of the constants, which have them; and its result is above the type.
pub record NewFits (p : Program) (id : TypeId) (decl : CoreDecl) : Type 0 where
  pub shape : CoreShape
  pub is_shape : ShapeOf p id shape
  pub is_made : Makes shape.kind
  pub types : List Ty
  pub constants_have : HasVs p (opening p) (constants shape) types
  pub fields : map (λ (c : CoreField). c.ty) shape.fields ≡ decl.parameters ++ types
  pub result : Below p (Named id) decl.result

-- A store is typed: the types of its locations go on from those of the opening store; each location
-- that has a type holds a value of it; and each that holds a value has a type.
pub record StoreOk (p : Program) (S : Sig) (s : Store) : Type 0 where
  pub opened : Up (opening p) S
  pub holds : (l : ℕ) (F : Ty) → S l ≡ Some F → (v : Value) × (s l ≡ Some v) × HasV p S v F
  pub covers : (l : ℕ) (v : Value) → s l ≡ Some v → (F : Ty) × (S l ≡ Some F)

-- One declared type is another one, or the rows of the program say that it is below it.
abbrev pub Under : Program → TypeId → TypeId → Type 0
Under p i j = (i ≡ j) ⊎ IsTrue (is_set p.types.below i.0 j.0)

-- What the rows say goes through a third type.
abbrev pub RowsThrough : List (List Bool) → Type 0
RowsThrough rows = (i j n : ℕ) → IsTrue (is_set rows i j) → IsTrue (is_set rows j n)
    → IsTrue (is_set rows i n)

-- What the typing of an accepted program gives: its rows go through; nothing is below a type that
-- objects are made of; an object has each field of the types above it, at their types or below; of
-- two declarations that may run in one call, the more specific one's result is below the other's;
-- bodies have their results' types, over the opening store's types; built-in declarations have
-- their signatures; constructors make objects of their types; the opening store has its types; the
-- first term is of type `()`; and the exceptions that steps throw are below `Exception`.
pub record Sound (p : Program) : Type 0 where
  pub through : RowsThrough p.types.below
  pub leaf : (i j : TypeId) (s : CoreShape) → ShapeOf p j s → Makes s.kind → Under p i j → i ≡ j
  pub fields : (i j : TypeId) (f : NameId) (A : Ty) (s : CoreShape) → FieldOf p j f A
      → ShapeOf p i s → Makes s.kind → Under p i j → (B : Ty) × FieldOf p i f B × Below p B A
  pub results : (set : SetId) (ts us : List Ty) (d e : DeclId) (decl other : CoreDecl)
      → IsApplicable p set ts d decl → IsApplicable p set us e other
      → IsMoreSpecific p decl other → Below p decl.result other.result
  pub bodies : (d : DeclId) (decl : CoreDecl) (t : Term) → slice_get p.decls d.0 ≡ Some decl
      → decl.body ≡ body.Plain t
      → Has p (opening p) (binds (numbered 0 decl.parameters) none) t decl.result
  pub primitives : (d : DeclId) (decl : CoreDecl) (f : Primitive)
      → slice_get p.decls d.0 ≡ Some decl → decl.body ≡ body.Primitive f
      → (decl.parameters ≡ parameters_of p f) × (decl.result ≡ result_of p f)
  pub constructors : (d : DeclId) (decl : CoreDecl) (id : TypeId)
      → slice_get p.decls d.0 ≡ Some decl → decl.body ≡ body.New id → NewFits p id decl
  pub opened : StoreOk p (opening p) (opening_store p)
  pub first : Has p (opening p) none p.first unit_type
  pub failures : (id : TypeId) (v : Value) → IsFailure p id → single p id ≡ Some v
      → HasV p (opening p) v (thrown_type p)

-- A closed term and its store are typed, the term at a type.
pub record Typed (p : Program) (t : Term) (s : Store) (T : Ty) : Type 0 where
  pub types : Sig
  pub store : StoreOk p types s
  pub term : Has p types none t T

-- What a step leaves: the types of the store have grown, and store and term are typed by them, the
-- term at the type that it had.
pub record Kept (p : Program) (S : Sig) (b : Term) (s' : Store) (T : Ty) : Type 0 where
  pub types : Sig
  pub up : Up S types
  pub store : StoreOk p types s'
  pub term : Has p types none b T

-- The same of a run that ends so.
pub record KeptRun (p : Program) (S : Sig) (r : Ended) (s' : Store) (T : Ty) : Type 0 where
  pub types : Sig
  pub up : Up S types
  pub store : StoreOk p types s'
  pub term : (t : Term) → r ≡ goes t → Has p types none t T

-- Each run from what is typed, one of an attempt's machine or of the root's, keeps its type,
-- through attempts at any depth.
abbrev pub RunsKeep : Type 0
RunsKeep = (p : Program) → Sound p
    → (inner strict : Bool) (S : Sig) (s : Store) (picks : List Pick) (t : Term) (r : Ended)
    (d : Effect) (T : Ty)
    → StoreOk p S s → Has p S none t T → Runs p inner strict s picks t r d
    → KeptRun p S r (afterwards d s) T

-- So what is typed stays typed.
abbrev pub StaysTyped : Type 0
StaysTyped = (p : Program) → Sound p
    → (inner strict : Bool) (s : Store) (picks : List Pick) (t u : Term) (d : Effect) (T : Ty)
    → Typed p t s T → Runs p inner strict s picks t (goes u) d → Typed p u (afterwards d s) T

-- What the rules on overload sets give: where some declaration of a set is applicable to types of
-- values, one declaration is the one that the values run, and it isn't abstract.
abbrev pub Defined : Program → Type 0
Defined p = (S : Sig) (set : SetId) (vs : List Value) (As : List Ty) (d : DeclId) (decl : CoreDecl)
    → HasVs p S vs As → IsApplicable p set As d decl → HasDefinition p set vs

-- Each call of values in a typed term, wherever it stands in it or in its values, has one
-- definition.
abbrev pub OneDefinition : Type 0
OneDefinition = (p : Program) → Sound p → Defined p → (S : Sig) (G : Env) (t : Term) (T : Ty)
    → Has p S G t T → IsOne p t

-- Each run of an accepted program comes to a term and a store that are typed, the term at `()`.
abbrev pub RunIsTyped : Type 0
RunIsTyped = (p : Program) → Sound p → (picks : List Pick) (t : Term) (d : Effect)
    → IsRun p picks t d → Typed p t (afterwards d (opening_store p)) unit_type
