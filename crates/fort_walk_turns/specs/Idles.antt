-- Chapter "Atomic": what a sweep from left to right through the threads of a term has met, while no
-- pick was taken. The code has flags.
use Rattle.std.specs.Prelude.{◌≡◌, ℕ, Bool, true, false, List, ◌⊎◌}
use Rattle.fort_core.specs.declared.form.Mode.{Mode}
use Rattle.fort_core.specs.declared.program.Program.{Program}
use Rattle.fort_core.specs.declared.term.Term.{Term}
use Rattle.fort_machine.specs.Effects.{Store, Effect, FitsAll}
use Rattle.fort_machine.specs.Acts.{ends}
use Rattle.fort_machine.specs.Parts.{IsOneOf}
use Rattle.fort_machine.specs.Steps.{Acts, Local}
use Rattle.fort_machine.specs.Attempts.{Form, Ready, Sleeps, Awake, goes}
use Rattle.fort_frames.specs.Frames.{frames, rebuilt}
use Rattle.fort_frames.specs.States.{term_at}
use Rattle.fort_frames.specs.declared.place.Place.{Place}
use Rattle.fort_frames.specs.declared.state.At.{At}
use Rattle.fort_frames.specs.declared.state.At.TheVariants as at
use Rattle.fort_step_deal.specs.declared.deal.Deal.{Deal}
use Rattle.fort_step_deal.specs.declared.deal.Deal.TheVariants as deal
use Rattle.fort_frames_moves.specs.Sweeps.{IsLeftAt, Swept, SweptTo}
use Rattle.fort_store_effects.specs.Levels.{levels_of, seen}
use Rattle.fort_walk_law_course.specs.Picks.{NoneAwake}
use Rattle.fort_walk_law_course.specs.Course.{is_inner}
use Rattle.fort_walk_course.specs.Courses.{HasCome, StandsAt, around}
use Rattle.fort_walk_course.specs.declared.course.Course.{Course}
use Rattle.fort_walk_turns.specs.declared.sweep.Sweep.{Sweep}
use Rattle.fort_walk_turns.specs.declared.next.Walking.{Walking}
use Rattle.fort_walk_turns.specs.declared.next.Next.{Next}
use Rattle.fort_walk_turns.specs.declared.next.Next.TheVariants as next
use Rattle.fort_walk_turns.specs.Walks.{Walks}

-- A thread has nothing to do in a machine, an attempt's or the root's: no legal step, no `abort()`
-- in an attempt, and it is no atomic form.
pub record HasNoStep (p : Program) (inner : Bool) (s : Store) (a : Term) : Type 0 where
  pub no_step : (loc : ℕ) (b : Term) (d : Effect) → Local p inner loc a b d → FitsAll d s → ⊥
  pub no_abort : inner ≡ true → Acts p a ends → ⊥
  pub no_attempt : (mode : Mode) (body : Term) → Form a mode body → ⊥

-- A thread doesn't go on: it sleeps and isn't tried, or it has nothing to do.
abbrev pub IsIdle : Program → Bool → Store → Sweep → Term → Type 0
IsIdle p inner s w a = ((w.wakes ≡ false) × Sleeps s a) ⊎ ((w.stuck ≡ true) × HasNoStep p inner s a)

-- The threads before a place don't go on; where one of them is awake, the flag says so.
pub record Idles (p : Program) (inner : Bool) (s : Store) (w : Sweep) (whole : Term)
    (before : List Term → Type 0) : Type 0 where
  pub met : List Term
  pub swept : before met
  pub idle : (a : Term) → IsOneOf a met → IsIdle p inner s w a
  pub awake : w.stuck ≡ true → (path : List ℕ) × Awake s whole path

-- So they do in the innermost machine of a run, where no pick was taken since the left end of its
-- term.
abbrev pub AreIdle : Program → Course → Sweep → Term → (List Term → Type 0) → Type 0
AreIdle p c w whole before = w.idle ≡ true
    → Idles p (is_inner (around c)) (seen (levels_of c.layers)) w whole before

-- Where sleepers are tried no thread of its term is awake.
abbrev pub AreAsleep : Course → Sweep → Term → Type 0
AreAsleep c w whole = w.wakes ≡ true → NoneAwake (seen (levels_of c.layers)) whole

-- A run that goes on stands at a form of a place, before which no thread goes on.
pub record IsAtForm (p : Program) (c : Course) (w : Sweep) (place : Place) (a : Term)
    (before : List Term → Type 0) : Type 0 where
  pub stands : StandsAt p c place a
  pub idles : AreIdle p c w (rebuilt c.clock (frames place.stack) a) before
  pub asleep : AreAsleep c w (rebuilt c.clock (frames place.stack) a)

-- Between two turns.
abbrev pub IsWalking : Program → Walking → Type 0
IsWalking p w =
    IsAtForm p w.going.course w.sweep w.going.state.place (term_at w.going.state.«at»)
    (λ met. SweptTo met w.going.state)

-- At a form of the term.
abbrev pub IsAtPlace : Program → Course → Sweep → Place → Term → Type 0
IsAtPlace p c w place a = IsAtForm p c w place a (λ met. Swept met (frames place.stack))

-- At a thread of the term.
abbrev pub IsAtThread : Program → Course → Sweep → Place → Term → Type 0
IsAtThread p c w place a = IsAtPlace p c w place a × Ready a

-- Past a form of the term, which is left for now.
abbrev pub IsAtLeft : Program → Course → Sweep → Place → Term → Type 0
IsAtLeft p c w place a =
    IsAtForm p c w place a (λ met. SweptTo met (record { place = place; «at» = at.Left a }))

-- Out of the whole term of the innermost machine: it is finished; or it is left, and where no pick
-- was taken since its left end, none of its threads goes on.
pub record IsAtEndOf (p : Program) (c : Course) (w : Sweep) (a : At) : Type 0 where
  pub come : HasCome p c (goes (term_at a))
  pub idles : AreIdle p c w (term_at a) (λ met. IsLeftAt met a)
  pub asleep : AreAsleep c w (term_at a)

-- What comes next with a fuel: the run goes on, or has come to its end, or can't go on.
abbrev pub Follows : Program → ℕ → Next → Type 0
Follows p fuel (next.Goes w) = IsWalking p w × (w.going.course.fuel ≡ fuel)
Follows p fuel (next.Ends x) = Walks p fuel x

-- Whether a form rests: it sleeps, and sleepers aren't tried; else sleepers are tried, or it
-- doesn't sleep.
abbrev pub Rests : Bool → Bool → Type 0 → Type 0
Rests true wakes S = (wakes ≡ false) × S
Rests false wakes S = (wakes ≡ true) ⊎ (S → ⊥)

-- What is done looks at the store, or ends the machine.
abbrev pub TouchesStore : Deal → Type 0
TouchesStore deal.Stuck = ⊥
TouchesStore (deal.Turns t output cost) = ⊥
TouchesStore (deal.Enters body t) = ⊥
TouchesStore (deal.Calls set vs) = ⊥
TouchesStore (deal.Asks l g) = Unit {0}
TouchesStore (deal.Sets l v) = Unit {0}
TouchesStore (deal.Makes m) = Unit {0}
TouchesStore deal.Ends = Unit {0}
