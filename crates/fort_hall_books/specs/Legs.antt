-- The chapter "Books" of docs/THREADS.md: the code's leg as the machine's.
use Rattle.std.specs.Prelude.{◌≡◌, ◌≢◌, ◌↔◌, ℕ, false, List, [], Option, Some, None}
use Rattle.fort_core.specs.declared.program.Program.{Program}
use Rattle.fort_core.specs.declared.term.Term.{Term}
use Rattle.fort_core.specs.declared.value.Value.{Value}
use Rattle.fort_machine.specs.Attempts.{Sleeps, goes}
use Rattle.fort_machine.specs.Effects.{Store}
use Rattle.fort_machine.specs.Ends.{has_stepped}
use Rattle.fort_machine.specs.Journals.{MakesWithinBounds}
use Rattle.fort_machine.specs.Marked.{Marks, In}
use Rattle.fort_store_effects.specs.Levels.{effect_of}
use Rattle.fort_hall_law_books.specs.Taken.{IsStepped, IsTried}
use Rattle.fort_hall_books.specs.declared.leg.Kind.{Kind}
use Rattle.fort_hall_books.specs.declared.leg.Kind.TheVariants as kind
use Rattle.fort_hall_books.specs.declared.leg.Leg.{Leg}

-- Each of some marks has its value.
abbrev pub AllThere : Store → Marks → Type 0
AllThere s ms = (l : ℕ) (v : Value) → In l v ms → s l ≡ Some v

-- A form watches these marks: it sleeps just where each has its value. Without marks it never
-- sleeps.
abbrev pub Watches : Option Marks → Term → Type 0
Watches None a = (s : Store) → Sleeps s a → ⊥
Watches (Some ms) a = (s : Store) → (Sleeps s a ↔ AllThere s ms)

-- A leg was taken on a store: by steps, of which there are some, or by an attempt.
pub data IsTaken (p : Program) (s : Store) (x : Leg) : Type 0 where
  steps : x.kind ≡ kind.Steps → x.picks ≢ []
      → IsStepped p x.inner s x.part x.picks (goes x.term) (effect_of x.done) → IsTaken p s x
  attempt : (watched : Option Marks) (form : Term) → x.kind ≡ kind.Attempt watched
      → IsTried p s x.part form x.picks x.term (effect_of x.done) → Watches watched form
      → IsTaken p s x

-- What a task did is a leg of its part, on some store. The part's term is no mark.
pub record IsLegOf (p : Program) (x : Leg) : Type 0 where
  pub store : Store
  pub taken : IsTaken p store x
  pub unmarked : has_stepped x.part ≡ false
  pub bounded : MakesWithinBounds (effect_of x.done)
