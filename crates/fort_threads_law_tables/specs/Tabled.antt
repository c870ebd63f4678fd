-- Chapter "The machine with threads": what the tables of a program with the prelude say, as a list
-- of equations that are seen by looking at them. What is taken of all calls and values follows.
use Rattle.std.specs.Prelude.{◌≡◌, ℕ, ◌==◌, true, false, List, [], ◌∷◌, slice_get, Contains, Some, None, pos}
use Rattle.fort_base.specs.declared.ids.DeclId.{DeclId}
use Rattle.fort_base.specs.declared.ids.NameId.{NameId}
use Rattle.fort_base.specs.declared.ids.SetId.{SetId}
use Rattle.fort_base.specs.declared.ids.TypeId.{TypeId}
use Rattle.fort_base.specs.declared.ty.Ty.{Ty}
use Rattle.fort_base.specs.declared.ty.Ty.TheVariants.{Named}
use Rattle.fort_core.specs.declared.form.Mode.TheVariants as mode
use Rattle.fort_core.specs.declared.primitive.Primitive.{Primitive}
use Rattle.fort_core.specs.declared.primitive.Primitive.TheVariants.{AddSmall, SubtractSmall, EqualSmall, UnequalSmall, GreaterSmall, RangeCount, Abort}
use Rattle.fort_core.specs.declared.program.CoreBody.TheVariants as body
use Rattle.fort_core.specs.declared.program.CoreDecl.{CoreDecl}
use Rattle.fort_core.specs.declared.program.CoreField.{CoreField}
use Rattle.fort_core.specs.declared.program.CoreSet.{CoreSet}
use Rattle.fort_core.specs.declared.program.CoreShape.{CoreShape}
use Rattle.fort_core.specs.declared.program.Program.{Program}
use Rattle.fort_core.specs.declared.term.Term.{Term, Call, Atomic}
use Rattle.fort_core.specs.declared.term.Term as term
use Rattle.fort_core.specs.declared.value.Closure.{Closure}
use Rattle.fort_core.specs.declared.value.Value.{Value, Small, Function}
use Rattle.fort_types.specs.Table.{is_set}
use Rattle.fort_machine.specs.Acts.{unit, single}
use Rattle.fort_machine.specs.Marked.{Bare}
use Rattle.fort_machine.specs.Types.{all_below}
use Rattle.fort_threads.specs.Known.{Known}
use Rattle.fort_threads_law_servers.specs.Prelude.{Names, taking, serving, HasPrelude}
use Rattle.fort_threads_law_servers.specs.Roots.{Start}
use Rattle.fort_threads_law_worlds.specs.Known.{Own, AreSame, Counts}
use Rattle.fort_threads_law_tables.specs.Texts.{wait_text, ready_text, val_text, spawn_text, go_text, main_text}

-- A call of a set with values of these types runs this declaration: it stands in the set and takes
-- them; and of those that take them no other one is as specific.
pub record Runs (p : Program) (set : SetId) (types : List Ty) (d : DeclId) (x : CoreDecl)
    : Type 0 where
  pub members : CoreSet
  pub is_set : slice_get p.sets set.0 ≡ Some members
  pub is_member : Contains members.decls d
  pub is_decl : slice_get p.decls d.0 ≡ Some x
  pub applies : all_below p types x.parameters ≡ true
  pub alone : (e : DeclId) (y : CoreDecl) → Contains members.decls e
      → slice_get p.decls e.0 ≡ Some y → all_below p types y.parameters ≡ true
      → all_below p y.parameters x.parameters ≡ true → e ≡ d

-- And that one goes on as this term, or is this built-in one.
pub record RunsText (p : Program) (set : SetId) (types : List Ty) (t : Term) : Type 0 where
  pub number : DeclId
  pub declared : CoreDecl
  pub runs : Runs p set types number declared
  pub text : declared.body ≡ body.Plain t

pub record RunsPrimitive (p : Program) (set : SetId) (types : List Ty) (f : Primitive)
    : Type 0 where
  pub number : DeclId
  pub declared : CoreDecl
  pub runs : Runs p set types number declared
  pub primitive : declared.body ≡ body.Primitive f

-- A set has one declaration.
pub record HasOne (p : Program) (set : SetId) (d : DeclId) (x : CoreDecl) : Type 0 where
  pub is_set : slice_get p.sets set.0 ≡ Some (record { decls = d ∷ [] })
  pub is_decl : slice_get p.decls d.0 ≡ Some x

-- A field by its name and its constant.
abbrev pub IsField : CoreField → NameId → Type 0
IsField f n = (f.name ≡ n) × (f.initial ≡ None)

abbrev pub HasConstant : CoreField → NameId → Value → Type 0
HasConstant f n v = (f.name ≡ n) × (f.initial ≡ Some v)

-- `Thread'` has its four fields, whose names differ.
pub record HasFields (p : Program) (n : Names) : Type 0 where
  pub shape : CoreShape
  pub is_shape : slice_get p.shapes n.thread.0 ≡ Some shape
  pub body : CoreField
  pub state : CoreField
  pub value : CoreField
  pub next : CoreField
  pub are_fields : shape.fields ≡ body ∷ state ∷ value ∷ next ∷ []
  pub is_body : IsField body n.body
  pub is_state : HasConstant state n.state (Small (pos 0))
  pub is_value : HasConstant value n.value unit
  pub is_next : HasConstant next n.next unit
  pub apart : ((n.body.0 == n.state.0) ≡ false) × ((n.body.0 == n.value.0) ≡ false)
      × ((n.body.0 == n.next.0) ≡ false) × ((n.state.0 == n.value.0) ≡ false)
      × ((n.state.0 == n.next.0) ≡ false) × ((n.value.0 == n.next.0) ≡ false)

-- `Thread'` alone is below itself, and is none of the built-in leaves.
pub record StandsAlone (p : Program) (n : Names) : Type 0 where
  pub itself : is_set p.types.below n.thread.0 n.thread.0 ≡ true
  pub only : (i : ℕ) → is_set p.types.below i n.thread.0 ≡ true → i ≡ n.thread.0
  pub no_leaf : (is_set p.types.below p.built_in.small.0 n.thread.0 ≡ false)
      × (is_set p.types.below p.built_in.large.0 n.thread.0 ≡ false)
      × (is_set p.types.below p.built_in.text.0 n.thread.0 ≡ false)
      × (is_set p.types.below p.built_in.truth.0 n.thread.0 ≡ false)
      × (is_set p.types.below p.built_in.range.0 n.thread.0 ≡ false)

-- Two ZZ32, and a `Thread'`.
abbrev pub two_small : Program → List Ty
two_small p = Named p.built_in.small ∷ Named p.built_in.small ∷ []

abbrev pub one_thread : Names → List Ty
one_thread n = Named n.thread ∷ []

-- The tables of a program have the prelude by these numbers.
pub record Tabled (p : Program) (n : Names) : Type 0 where
  pub serve : RunsText p n.serve [] (serving n (Call n.take []))
  pub take : RunsText p n.take [] (Atomic mode.Atomic (taking n))
  pub go : RunsText p n.go (one_thread n) (go_text n)
  pub wait : RunsText p n.wait (one_thread n) (wait_text n)
  pub maker : DeclId
  pub made : CoreDecl
  pub make : HasOne p n.make maker made
  pub makes : made.body ≡ body.New n.thread
  pub fields : HasFields p n
  pub stands : StandsAlone p n
  pub hash : RunsPrimitive p n.hash (two_small p) RangeCount
  pub equal : RunsPrimitive p n.equal (two_small p) EqualSmall
  pub differs : RunsPrimitive p n.differs (two_small p) UnequalSmall
  pub plus : RunsPrimitive p n.plus (two_small p) AddSmall
  pub minus : RunsPrimitive p n.minus (two_small p) SubtractSmall
  pub greater : RunsPrimitive p n.greater (two_small p) GreaterSmall
  pub abort : RunsPrimitive p n.abort [] Abort
  pub apart : (n.count == n.unended) ≡ false

-- A declaration of a number has so many parameters, of these types, and goes on as this term.
pub record HasText (p : Program) (d : DeclId) (t : Term) : Type 0 where
  pub declared : CoreDecl
  pub is_decl : slice_get p.decls d.0 ≡ Some declared
  pub text : declared.body ≡ body.Plain t

-- And so they have what starts a program and what is known of it.
pub record TabledAround (p : Program) (n : Names) (m : Start) (o : Own) (k : Known) : Type 0 where
  pub thread : k.thread ≡ n.thread
  pub too_many : k.too_many ≡ n.too_many
  pub is_single : (id : TypeId) × (single p id ≡ Some n.too_many)
  pub spawn : HasText p k.spawn (spawn_text n)
  pub takes_one : Ty
  pub spawn_takes : spawn.declared.parameters ≡ takes_one ∷ []
  pub wait : HasText p k.wait (wait_text n)
  pub wait_takes : wait.declared.parameters ≡ one_thread n
  pub val : HasText p k.val (val_text n)
  pub val_takes : val.declared.parameters ≡ one_thread n
  pub ready : HasText p k.ready (ready_text n)
  pub ready_takes : ready.declared.parameters ≡ one_thread n
  pub run : HasText p k.run (Call m.main (term.Value m.own ∷ []))
  pub run_takes : run.declared.parameters ≡ []
  pub main : DeclId
  pub main_declared : CoreDecl
  pub has_main : HasOne p m.main main main_declared
  pub main_text_is : main_declared.body ≡ body.Plain (main_text n m)
  pub own : HasText p k.own_run o.text
  pub same_text : o.body ≡ o.text
  pub bare : Bare o.text
  pub has_own : HasOne p o.set k.own_run own.declared
  pub function : Closure
  pub is_function : m.own ≡ Function function
  pub no_parameters : function.parameters ≡ []
  pub holds_none : function.held ≡ []
  pub calls_own : function.body ≡ Call o.set []
  pub apart : ((n.queue == n.count) ≡ false) × ((n.queue == n.unended) ≡ false)
      × ((n.queue == m.started) ≡ false) × ((n.count == m.started) ≡ false)
      × ((n.unended == m.started) ≡ false)

-- A program with such tables has the prelude, and counts with small numbers.
abbrev pub TabledHasThePrelude : Type 0
TabledHasThePrelude = (p : Program) (n : Names) → Tabled p n → HasPrelude p n × Counts p n

-- And both machines know the same of it.
abbrev pub TabledIsSame : Type 0
TabledIsSame = (p : Program) (n : Names) (m : Start) (o : Own) (k : Known) → Tabled p n
    → TabledAround p n m o k → AreSame p n m o k
