-- Chapter "The machine with threads": the program of a component with spawned threads has the
-- prelude, and leaves the prelude's own names to it: by what its tables say.
use Rattle.std.specs.Prelude.{◌≡◌, ℕ, ◌==◌, true, false, List, [], ◌∷◌, ◌⊎◌, slice_get, Some, pos}
use Rattle.std.specs.List.{AllByRecursion}
use Rattle.fort_base.specs.declared.ids.DeclId.{DeclId}
use Rattle.fort_base.specs.declared.ids.Loc.{Loc}
use Rattle.fort_base.specs.declared.ids.SetId.{SetId}
use Rattle.fort_base.specs.declared.ty.Ty.{Ty, Tuple, Arrow}
use Rattle.fort_base.specs.declared.ty.Ty.TheVariants.{Any, Named}
use Rattle.fort_core.specs.declared.form.Mode.TheVariants as mode
use Rattle.fort_core.specs.declared.primitive.Primitive.TheVariants.{AddSmall, SubtractSmall, EqualSmall, UnequalSmall, GreaterSmall, RangeCount, Abort}
use Rattle.fort_core.specs.declared.program.CoreBody.TheVariants as body
use Rattle.fort_core.specs.declared.program.CoreDecl.{CoreDecl}
use Rattle.fort_core.specs.declared.program.CoreField.{CoreField}
use Rattle.fort_core.specs.declared.program.CoreSet.{CoreSet}
use Rattle.fort_core.specs.declared.program.CoreShape.{CoreShape}
use Rattle.fort_core.specs.declared.program.Program.{Program}
use Rattle.fort_core.specs.declared.term.Term.{Term, Call, Atomic}
use Rattle.fort_core.specs.declared.term.Term as term
use Rattle.fort_core.specs.declared.value.Closure.{Closure}
use Rattle.fort_core.specs.declared.value.Value.{Value, Small, Truth, Function}
use Rattle.fort_types.specs.Table.{is_set}
use Rattle.fort_machine.specs.Acts.{unit, object_of, single}
use Rattle.fort_machine.specs.Calls.{constants}
use Rattle.fort_machine.specs.Ends.{is_thrown}
use Rattle.fort_machine.specs.Journals.{opening_store}
use Rattle.fort_machine.specs.Marked.{Bare}
use Rattle.fort_machine.specs.Parts.{IsOneOf}
use Rattle.fort_machine.specs.Scopes.{is_among}
use Rattle.fort_threads.specs.Known.{Known}
use Rattle.fort_threads.specs.Known as threads
use Rattle.fort_threads_law_servers.specs.Prelude.{Names, taking, serving}
use Rattle.fort_threads_law_servers.specs.Roots.{Start}
use Rattle.fort_threads_law_private.specs.Apart.{KeepsApart}
use Rattle.fort_threads_law_private.specs.Private.{Private}
use Rattle.fort_threads_law_worlds.specs.Known.{Own}
use Rattle.fort_threads_law_tables.specs.Tabled.{Runs, RunsText, RunsPrimitive, HasOne, HasText, HasFields, StandsAlone, Tabled, TabledAround, two_small, one_thread}
use Rattle.fort_threads_law_tables.specs.Texts.{wait_text, ready_text, val_text, spawn_text, go_text, main_text}
use Rattle.fort_sound_tables.specs.declared.numbers.Numbers.{Numbers}
use Rattle.fort_sound_tables.specs.declared.numbers.Places.{Places}
use Rattle.fort_sound_tables.specs.Numbers.{names, start, known}
use Rattle.fort_sound_tables.specs.Lookups.{TakesText}
use Rattle.fort_sound_tables.specs.Leaves.{ground, Leaves, AllLeaveValues, LeavesValue, LeavesBody, own_sets}

-- How a run of a program begins: with the call of `run`, which leads to the prelude's; its
-- variables stand at their opening values; and `val` is the prelude's.
pub record Begins (p : Program) (n : Names) (m : Start) (k : Known) : Type 0 where
  pub first : p.first ≡ Call m.run []
  pub declared : CoreDecl
  pub run : HasOne p m.run k.run declared
  pub gets : CoreDecl
  pub val : Runs p n.val (one_thread n) k.val gets
  pub queue : opening_store p n.queue ≡ Some unit
  pub unended : opening_store p n.unended ≡ Some (Small (pos 0))
  pub count : opening_store p n.count ≡ Some (Small (pos 0))
  pub started : opening_store p m.started ≡ Some (Truth false)

-- The type of `()`.
abbrev pub nothing_type : Ty
nothing_type = Tuple []

-- `=/=` of two ZZ32 is the built-in one: it takes two of them, and gives a Boolean.
pub record RunsDiffers (p : Program) (set : SetId) : Type 0 where
  pub runs : RunsPrimitive p set (two_small p) UnequalSmall
  pub takes : runs.declared.parameters ≡ two_small p
  pub gives : runs.declared.result ≡ Named p.built_in.truth

-- The prelude's `Exception` is the built-in type, which the rows have below itself; `Thread'` is
-- another one, and not below it.
pub record HasException (p : Program) (n : Names) : Type 0 where
  pub exception : n.exception ≡ Named p.built_in.exception
  pub itself : is_set p.types.below p.built_in.exception.0 p.built_in.exception.0 ≡ true
  pub other : (n.thread.0 == p.built_in.exception.0) ≡ false
  pub apart : is_set p.types.below n.thread.0 p.built_in.exception.0 ≡ false

-- A set has one declaration, which gives `()`.
pub record GivesNothing (p : Program) (set : SetId) : Type 0 where
  pub number : DeclId
  pub declared : CoreDecl
  pub has_one : HasOne p set number declared
  pub gives : declared.result ≡ nothing_type

-- A value is a function that gives `()`.
pub record IsFunction (v : Value) : Type 0 where
  pub function : Closure
  pub is_function : v ≡ Function function
  pub gives : function.result ≡ nothing_type

-- A program has the prelude, by some numbers, and keeps the prelude's own names to it: all that the
-- laws on runs with threads take of a program, but that it is sound, complete and as it is written.
pub record HasThreads (p : Program) : Type 0 where
  pub called : Names
  pub begun : Start
  pub owned : Own
  pub shared : Known
  pub tabled : Tabled p called
  pub own_text : HasText p shared.own_run owned.text
  pub around : Bare owned.text → TabledAround p called begun owned shared
  pub exception : HasException p called
  pub differs : RunsDiffers p called.differs
  pub main : GivesNothing p begun.main
  pub own_run : GivesNothing p owned.set
  pub function : IsFunction begun.own
  pub apart : KeepsApart p called begun shared (ground p called begun)
  pub leaves : Private p called begun (ground p called begun) owned.body
  pub is_open : is_thrown owned.body ≡ false
  pub begins : Begins p called begun shared

-- The parts of this, by the numbers that were found. `serve'`, `take'`, `go'` and `wait` are what
-- their calls run.
pub record RunsPrelude (p : Program) (x : Numbers) : Type 0 where
  pub serve : RunsText p x.sets.serve [] (serving (names x) (Call x.sets.take []))
  pub take : RunsText p x.sets.take [] (Atomic mode.Atomic (taking (names x)))
  pub go : RunsText p x.sets.go (one_thread (names x)) (go_text (names x))
  pub wait : RunsText p x.sets.wait (one_thread (names x)) (wait_text (names x))

-- What the prelude counts with.
pub record RunsNumbers (p : Program) (x : Numbers) : Type 0 where
  pub hash : RunsPrimitive p x.sets.hash (two_small p) RangeCount
  pub equal : RunsPrimitive p x.sets.equal (two_small p) EqualSmall
  pub differs : RunsDiffers p x.sets.differs
  pub plus : RunsPrimitive p x.sets.plus (two_small p) AddSmall
  pub minus : RunsPrimitive p x.sets.minus (two_small p) SubtractSmall
  pub greater : RunsPrimitive p x.sets.greater (two_small p) GreaterSmall
  pub abort : RunsPrimitive p x.sets.abort [] Abort

-- The declarations whose calls are steps of threads.
abbrev pub one_function : List Ty
one_function = Arrow nothing_type Any ∷ []

pub record TakesTexts (p : Program) (x : Numbers) : Type 0 where
  pub spawn : TakesText p x.declarations.spawn one_function (spawn_text (names x))
  pub wait : TakesText p x.declarations.wait (one_thread (names x)) (wait_text (names x))
  pub val : TakesText p x.declarations.val (one_thread (names x)) (val_text (names x))
  pub ready : TakesText p x.declarations.ready (one_thread (names x)) (ready_text (names x))
  pub gets : Runs p x.sets.val (one_thread (names x)) x.declarations.val val.declared

-- A set has one declaration, which takes these types, gives `()`, and goes on as this term.
pub record IsSole (p : Program) (set : SetId) (d : DeclId) (types : List Ty) (t : Term)
    : Type 0 where
  pub declared : CoreDecl
  pub has_one : HasOne p set d declared
  pub takes : declared.parameters ≡ types
  pub gives : declared.result ≡ nothing_type
  pub text : declared.body ≡ body.Plain t

abbrev pub one_action : List Ty
one_action = Arrow nothing_type nothing_type ∷ []

-- `Thread'` makes objects of threads.
pub record MakesThreads (p : Program) (x : Numbers) : Type 0 where
  pub made : CoreDecl
  pub make : HasOne p x.sets.make x.declarations.make made
  pub makes : made.body ≡ body.New x.types.thread

-- `main'` and `run`, and `Thread'` as what makes objects.
pub record StartsTexts (p : Program) (x : Numbers) : Type 0 where
  pub main : IsSole p x.sets.main x.declarations.main one_action (main_text (names x) (start x))
  pub run : IsSole p x.sets.run x.declarations.run []
      (Call x.sets.main (term.Value x.function ∷ []))
  pub make : MakesThreads p x

-- The function that `main'` is given calls the component's own `run`.
pub record CallsOwn (x : Numbers) : Type 0 where
  pub function : Closure
  pub is_function : x.function ≡ Function function
  pub no_parameters : function.parameters ≡ []
  pub holds_none : function.held ≡ []
  pub calls_own : function.body ≡ Call x.sets.own []
  pub gives_unit : function.result ≡ nothing_type

-- The types of the prelude: `TooManyThreads` is a single object; `Thread'` has its fields and
-- stands alone; `Exception` is the built-in type.
pub record StandTypes (p : Program) (x : Numbers) : Type 0 where
  pub single : single p x.types.refusal ≡ Some ((names x).too_many)
  pub fields : HasFields p (names x)
  pub alone : StandsAlone p (names x)
  pub exception : HasException p (names x)

-- The prelude's variables stand apart.
pub record StandApart (x : Places) : Type 0 where
  pub queue_count : (x.queue.0 == x.count.0) ≡ false
  pub queue_unended : (x.queue.0 == x.unended.0) ≡ false
  pub queue_started : (x.queue.0 == x.started.0) ≡ false
  pub count_unended : (x.count.0 == x.unended.0) ≡ false
  pub count_started : (x.count.0 == x.started.0) ≡ false
  pub unended_started : (x.unended.0 == x.started.0) ≡ false

-- So they do, at their opening values; and the call of `run` is first.
pub record StandPlaces (p : Program) (x : Numbers) : Type 0 where
  pub first : p.first ≡ Call x.sets.run []
  pub queue : opening_store p x.places.queue.0 ≡ Some unit
  pub unended : opening_store p x.places.unended.0 ≡ Some (Small (pos 0))
  pub count : opening_store p x.places.count.0 ≡ Some (Small (pos 0))
  pub started : opening_store p x.places.started.0 ≡ Some (Truth false)
  pub apart : StandApart x.places

-- What a call of another set runs is one of the prelude's, or leaves its own names alone.
abbrev pub LeavesMember : Program → Numbers → DeclId → Type 0
LeavesMember p x d = (declared : CoreDecl) → slice_get p.decls d.0 ≡ Some declared
    → IsOneOf d (threads.known (known x)) ⊎ LeavesBody p x declared.body

abbrev pub LeavesSet : Program → Numbers → ℕ → Type 0
LeavesSet p x i = is_among i (own_sets x) ≡ false → (members : CoreSet)
    → slice_get p.sets i ≡ Some members → AllByRecursion (LeavesMember p x) members.decls

-- A type's constants and its single object leave them alone.
abbrev pub LeavesShape : Program → Numbers → ℕ → Type 0
LeavesShape p x i = (s : CoreShape) → slice_get p.shapes i ≡ Some s
    → AllLeaveValues p x (constants s)
    × ((v : Value) → object_of (record { 0 = i }) s ≡ Some v → LeavesValue p x v)

abbrev pub LeavesField : Program → Numbers → CoreField → Type 0
LeavesField p x f = (v : Value) → f.initial ≡ Some v → LeavesValue p x v

abbrev pub LeavesPair : Program → Numbers → Loc × Value → Type 0
LeavesPair p x e = LeavesValue p x e.1

pub record AllStandsApart (p : Program) (x : Numbers) : Type 0 where
  pub sets : (i : ℕ) → LeavesSet p x i
  pub shapes : (i : ℕ) → LeavesShape p x i
  pub opening : AllByRecursion (LeavesPair p x) p.opening

-- The component's own `run`.
pub record RunsOwn (p : Program) (x : Numbers) (t : Term) : Type 0 where
  pub sole : IsSole p x.sets.own x.declarations.own [] t
  pub leaves : Leaves p x t
  pub is_open : is_thrown t ≡ false
