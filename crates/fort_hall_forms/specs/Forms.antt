-- The chapter "Books" of docs/THREADS.md: the atomic form in a part at which an attempt is opened,
-- and how that ends.
use Rattle.std.specs.Prelude.{◌≡◌, Bool, false, List, Option, Some, None}
use Rattle.fort_core.specs.declared.form.Mode.{Mode}
use Rattle.fort_core.specs.declared.program.Program.{Program}
use Rattle.fort_core.specs.declared.term.Term.{Term}
use Rattle.fort_machine.specs.Attempts.{Form, Sleeps, goes, Closes}
use Rattle.fort_machine.specs.Effects.{Store, Effect}
use Rattle.fort_machine.specs.Ends.{has_stepped, open_yet, standing}
use Rattle.fort_machine.specs.Frames.{plug, passed}
use Rattle.fort_machine.specs.Frames as machine
use Rattle.fort_machine.specs.Marked.{Bare}
use Rattle.fort_machine.specs.Parts.{IsOneOf}
use Rattle.fort_machine.specs.Proper.{Reached}
use Rattle.fort_machine.specs.Runs.{path_to}
use Rattle.fort_frames.specs.Frames.{frames, outward, Reaches}
use Rattle.fort_frames_moves.specs.Sweeps.{Swept}
use Rattle.fort_store_effects.specs.Levels.{closing}
use Rattle.fort_hall_books.specs.Legs.{Watches}
use Rattle.fort_hall_forms.specs.declared.form.AtForm.{AtForm}
use Rattle.fort_hall_forms.specs.declared.ended.Became.{Became}

-- A term stands in one to which machines of the program come, and is no mark itself.
pub record IsPartOfRun (p : Program) (t : Term) : Type 0 where
  pub inner : Bool
  pub store : Store
  pub outer : List machine.Frame
  pub reached : Reached p inner store (plug outer t)
  pub unmarked : has_stepped t ≡ false

-- The frames round the form in the part.
abbrev pub way : AtForm → List machine.Frame
way x = outward 0 (frames x.place.stack)

-- This atomic form stands in a part at this place, and isn't passed over.
pub record IsAtForm (t : Term) (x : AtForm) : Type 0 where
  pub is_term : t ≡ plug (way x) x.form
  pub reached : passed (way x) x.form ≡ false
  pub is_path : x.place.path ≡ path_to (way x)
  pub is_form : Form x.form x.mode x.body
  pub watched : Watches x.watched x.form
  pub leads : Reaches 0 (frames x.place.stack) x.form

-- Of some threads each that is an atomic form sleeps.
abbrev pub FormsSleep : Store → List Term → Type 0
FormsSleep s met = (a : Term) → IsOneOf a met → (m : Mode) (body : Term) → Form a m body
    → Sleeps s a

-- The threads before a place are among some of which each that is an atomic form sleeps.
pub record Sleepers (s : Store) (before : List Term → Type 0) : Type 0 where
  pub met : List Term
  pub swept : before met
  pub sleep : FormsSleep s met

-- The first atomic form of a part that doesn't sleep: the forms to its left do. No form sleeps in
-- its body.
pub record IsFirstForm (t : Term) (s : Store) (x : AtForm) : Type 0 where
  pub stands : IsAtForm t x
  pub bare : Bare x.body
  pub awake : Sleeps s x.form → ⊥
  pub left : Sleepers s (λ met. Swept met (frames x.place.stack))

-- What is found in a part: its first atomic form that doesn't sleep; or none, and then each that
-- isn't passed over sleeps.
abbrev pub HasFirstForm : Term → Store → Option AtForm → Type 0
HasFirstForm t s None = (fs : List machine.Frame) (a : Term) (m : Mode) (body : Term)
    → t ≡ plug fs a → passed fs a ≡ false → Form a m body → Sleeps s a
HasFirstForm t s (Some x) = IsFirstForm t s x

-- An attempt whose body has come to a term has ended so, whatever it did; or the term is open.
abbrev pub EndsAt : Term → Option Became → Type 0
EndsAt t None = standing t ≡ open_yet
EndsAt t (Some x) = (p : Program) (m : Mode) (body : Term) (d : Effect)
    → Closes p m body (goes t) d x.term (closing x.closing d)
