-- Chapter "The machine with threads": what the tables of a program with the prelude say, so that
-- nothing but exceptions is thrown in its runs. Each fact is seen by looking at the tables.
use Rattle.std.specs.Prelude.{◌≡◌, ◌≢◌, true, false, [], ◌∷◌, slice_get, Contains, Some}
use Rattle.fort_base.specs.declared.ids.DeclId.{DeclId}
use Rattle.fort_base.specs.declared.ids.SetId.{SetId}
use Rattle.fort_base.specs.declared.ty.Ty.{Ty}
use Rattle.fort_core.specs.declared.program.CoreDecl.{CoreDecl}
use Rattle.fort_core.specs.declared.program.CoreSet.{CoreSet}
use Rattle.fort_core.specs.declared.program.Program.{Program}
use Rattle.fort_core.specs.declared.value.Closure.{Closure}
use Rattle.fort_core.specs.declared.value.Value.{Function}
use Rattle.fort_types.specs.Table.{is_set}
use Rattle.fort_machine.specs.Calls.{IsApplicable}
use Rattle.fort_sound_typed.specs.Typing.{unit_type, small_type, truth_type, thrown_type}
use Rattle.fort_threads_law_servers.specs.Prelude.{Names}
use Rattle.fort_threads_law_servers.specs.Roots.{Start}
use Rattle.fort_threads_law_worlds.specs.Known.{Own}

-- Each declaration of a set gives this type.
abbrev pub Gives : Program → SetId → Ty → Type 0
Gives p set ty = (members : CoreSet) → slice_get p.sets set.0 ≡ Some members
    → (d : DeclId) → Contains members.decls d
    → (decl : CoreDecl) → slice_get p.decls d.0 ≡ Some decl → decl.result ≡ ty

-- Some declaration of a set takes two ZZ32 and gives a Boolean.
pub record Compares (p : Program) (set : SetId) : Type 0 where
  pub number : DeclId
  pub declared : CoreDecl
  pub applies : IsApplicable p set (small_type p ∷ small_type p ∷ []) number declared
  pub takes : declared.parameters ≡ small_type p ∷ small_type p ∷ []
  pub gives : declared.result ≡ truth_type p

-- The prelude's `Exception` is the built-in type, which the rows have below itself; `Thread'` is
-- another one, and not below it; `=/=` compares two ZZ32; `main'` and the component's own `run`
-- give `()`; and so does the function that `main'` is given.
pub record Tables (p : Program) (n : Names) (m : Start) (o : Own) : Type 0 where
  pub exception : n.exception ≡ thrown_type p
  pub itself : is_set p.types.below p.built_in.exception.0 p.built_in.exception.0 ≡ true
  pub other : n.thread ≢ p.built_in.exception
  pub apart : is_set p.types.below n.thread.0 p.built_in.exception.0 ≡ false
  pub differs : Compares p n.differs
  pub main : Gives p m.main unit_type
  pub own : Gives p o.set unit_type
  pub function : Closure
  pub is_function : m.own ≡ Function function
  pub gives_unit : function.result ≡ unit_type
