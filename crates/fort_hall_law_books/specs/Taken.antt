-- The chapter "Books" of docs/THREADS.md: what a task does beside its book. It is a leg of its
-- part, taken on some store: steps of the part's threads, or one attempt of an atomic form in it.
use Rattle.std.specs.Prelude.{◌≡◌, Bool, true, false, List, [], ◌∷◌}
use Rattle.fort_core.specs.declared.form.Mode.{Mode}
use Rattle.fort_core.specs.declared.pick.Pick.{Pick, Attempt}
use Rattle.fort_core.specs.declared.program.Program.{Program}
use Rattle.fort_core.specs.declared.term.Term.{Term}
use Rattle.fort_machine.specs.Attempts.{Form, Ended, Closes}
use Rattle.fort_machine.specs.Effects.{Store, Effect}
use Rattle.fort_machine.specs.Frames.{Frame, plug, passed, trodden}
use Rattle.fort_machine.specs.Marked.{Bare}
use Rattle.fort_machine.specs.Runs.{Runs, path_to}
use Rattle.fort_walk_legs.specs.Legs.{AreSteps}

-- Steps lead from a part to where they end, and do this: to a term, or to a step of `abort()`,
-- which ends an attempt's machine.
pub record IsStepped (p : Program) (inner : Bool) (s : Store) (t : Term) (picks : List Pick)
    (r : Ended) (d : Effect) : Type 0 where
  pub runs : Runs p inner true s picks t r d
  pub steps : AreSteps picks

-- One attempt of this atomic form, which stands in a part and isn't passed over in it, leads to a
-- term and does this. Whether the form sleeps is asked by the book that takes the leg in, on its
-- own store.
pub record IsTried (p : Program) (s : Store) (t form : Term) (picks : List Pick) (u : Term)
    (d : Effect) : Type 0 where
  pub frames : List Frame
  pub mode : Mode
  pub body : Term
  pub within : List Pick
  pub ended : Ended
  pub done : Effect
  pub becomes : Term
  pub is_picks : picks ≡ Attempt (path_to frames) within ∷ []
  pub is_term : t ≡ plug frames form
  pub reached : passed frames form ≡ false
  pub is_form : Form form mode body
  pub bare : Bare body
  pub runs : Runs p true true s within body ended done
  pub closes : Closes p mode body ended done becomes d
  pub is_new : u ≡ plug (trodden frames) becomes
