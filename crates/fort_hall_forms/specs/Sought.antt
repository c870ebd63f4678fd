-- The chapter "Books" of docs/THREADS.md: an atomic form is sought. The code keeps the part taken
-- apart at one place, at a clock that shows 0.
use Rattle.std.specs.Prelude.{◌≡◌, Option, Some, None}
use Rattle.fort_core.specs.declared.form.Mode.{Mode}
use Rattle.fort_core.specs.declared.term.Term.{Term}
use Rattle.fort_machine.specs.Attempts.{Form, Sleeps}
use Rattle.fort_machine.specs.Effects.{Store}
use Rattle.fort_frames.specs.Frames.{frames, rebuilt, Reaches}
use Rattle.fort_frames.specs.States.{term_at}
use Rattle.fort_frames.specs.declared.state.State.{State}
use Rattle.fort_frames_moves.specs.Sweeps.{SweptTo}
use Rattle.fort_hall_books.specs.Legs.{Watches}
use Rattle.fort_hall_forms.specs.declared.first.Sleepless.{Sleepless}
use Rattle.fort_hall_forms.specs.declared.first.Sought.{Sought}
use Rattle.fort_hall_forms.specs.declared.first.Sought.TheVariants as sought
use Rattle.fort_hall_forms.specs.Forms.{HasFirstForm, Sleepers}

-- The part that a state stands for.
abbrev pub whole : State → Term
whole state = rebuilt 0 (frames state.place.stack) (term_at state.«at»)

-- The part may go on at a state, before which all atomic forms sleep.
pub record IsSought (s : Store) (state : State) : Type 0 where
  pub reached : Reaches 0 (frames state.place.stack) (term_at state.«at»)
  pub left : Sleepers s (λ met. SweptTo met state)

-- What comes next: the search goes on in the same part, or it has its answer.
abbrev pub Follows : Store → Term → Sought → Type 0
Follows s t (sought.Goes state) = IsSought s state × (whole state ≡ t)
Follows s t (sought.Ends found) = HasFirstForm t s found

-- A term is this atomic form, which doesn't sleep.
pub record IsSleepless (a : Term) (s : Store) (x : Sleepless) : Type 0 where
  pub is_form : Form a x.mode x.body
  pub watched : Watches x.watched a
  pub awake : Sleeps s a → ⊥

-- So it is; or it is none that doesn't sleep.
abbrev pub HasSleepless : Term → Store → Option Sleepless → Type 0
HasSleepless a s None = (m : Mode) (body : Term) → Form a m body → Sleeps s a
HasSleepless a s (Some x) = IsSleepless a s x
