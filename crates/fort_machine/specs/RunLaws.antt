-- Chapter "Runs": what holds of runs.
use Rattle.std.specs.Prelude.{◌≡◌, ℕ, ◌+◌, Bool, true, false, List, [], ◌∷◌, ◌++◌, map, length, ◌≤◌}
use Rattle.fort_core.specs.declared.form.Mode.{Mode}
use Rattle.fort_core.specs.declared.pick.Pick.{Pick, Attempt}
use Rattle.fort_core.specs.declared.program.Program.{Program}
use Rattle.fort_core.specs.declared.term.Term.{Term}
use Rattle.fort_machine.specs.Effects.{Store, Effect, idle, both, FitsAll, afterwards}
use Rattle.fort_machine.specs.Ends.{has_stepped}
use Rattle.fort_machine.specs.Frames.{Frame, plug, road, passed, trodden}
use Rattle.fort_machine.specs.Marked.{Marks, Bare, Alike}
use Rattle.fort_machine.specs.Steps.{Local}
use Rattle.fort_machine.specs.Attempts.{AreRead, Rising, Ready, Form, MayTry, Ended, goes, aborts, Closes}
use Rattle.fort_machine.specs.Runs.{Runs, path_to}
use Rattle.fort_machine.specs.Threads.{under, ended_in, round_after}

-- A thread's path determines what stands there.
abbrev pub OnePlace : Type 0
OnePlace = (fs gs : List Frame) (a b : Term) → plug fs a ≡ plug gs b → road fs ≡ road gs → Ready a
    → Ready b → (fs ≡ gs) × (a ≡ b)

-- A part in which a step was taken is never passed over.
abbrev pub SteppedGoesOn : Type 0
SteppedGoesOn = (fs : List Frame) (t : Term) → passed (trodden fs) t ≡ false

-- A form has one step.
abbrev pub OneStep : Type 0
OneStep = (p : Program) (inner : Bool) (loc : ℕ) (s : Store) (a b b' : Term) (d d' : Effect)
    → Local p inner loc a b d → Local p inner loc a b' d' → FitsAll d s → FitsAll d' s
    → (b ≡ b') × (d ≡ d')

-- What an attempt read determines its marks, since they stand in order.
abbrev pub OneMarks : Type 0
OneMarks = (marks others : Marks) (d : Effect) → AreRead marks d → Rising marks → AreRead others d
    → Rising others → marks ≡ others

-- What a run read has marks: finitely many locations, in order. So an attempt that aborts always
-- closes.
abbrev pub MarksThere : Type 0
MarksThere = (p : Program) (inner strict : Bool) (s : Store) (picks : List Pick) (t : Term)
    (r : Ended) (d : Effect)
    → Runs p inner strict s picks t r d → (marks : Marks) × AreRead marks d × Rising marks

-- A run is determined by its picks.
abbrev pub OneRun : Type 0
OneRun = (p : Program) (inner strict : Bool) (s : Store) (picks : List Pick) (t : Term)
    (r r' : Ended) (d d' : Effect)
    → Runs p inner strict s picks t r d → Runs p inner strict s picks t r' d' → (r ≡ r') × (d ≡ d')

-- A run depends only on what it read, on the older locations that it wrote being there, on those
-- that it made being absent, and, where the rule on sleeping forms is kept, on what the sleepers of
-- its first term watch.
abbrev pub Framed : Type 0
Framed = (p : Program) (inner strict : Bool) (s s' : Store) (picks : List Pick) (t : Term)
    (r : Ended) (d : Effect)
    → Runs p inner strict s picks t r d → (strict ≡ true → Alike s s' t) → FitsAll d s'
    → Runs p inner strict s' picks t r d

-- Each effect suits some store.
abbrev pub SomeStore : Type 0
SomeStore = (d : Effect) → (s : Store) × FitsAll d s

-- A run on one store is one on each store that suits it, where the rule on sleeping forms is left
-- aside at its own level.
abbrev pub OneStore : Type 0
OneStore = (p : Program) (inner : Bool) (s s' : Store) (picks : List Pick) (t : Term) (r : Ended)
    (d : Effect)
    → Runs p inner false s picks t r d → FitsAll d s' → Runs p inner false s' picks t r d

-- So is a run that keeps the rule, from a term in which no form sleeps.
abbrev pub OneStoreBare : Type 0
OneStoreBare = (p : Program) (inner : Bool) (s s' : Store) (picks : List Pick) (t : Term)
    (r : Ended) (d : Effect)
    → Bare t → Runs p inner true s picks t r d → FitsAll d s' → Runs p inner true s' picks t r d

-- A run suits the store that it runs on.
abbrev pub RunsFit : Type 0
RunsFit = (p : Program) (inner strict : Bool) (s : Store) (picks : List Pick) (t : Term) (r : Ended)
    (d : Effect) → Runs p inner strict s picks t r d → FitsAll d s

-- A part's run is one of the whole term, the part's path before each of its picks, where the part
-- isn't passed over; the mark is none of the part's term.
abbrev pub Lifts : Type 0
Lifts = (p : Program) (inner : Bool) (fs : List Frame) (s : Store) (picks : List Pick) (t : Term)
    (r : Ended) (d : Effect)
    → passed fs t ≡ false → has_stepped t ≡ false
    → Runs p inner false s picks t r d
    → Runs p inner false s (map (under (road fs)) picks) (plug fs t)
    (ended_in (round_after picks fs) r) d

-- One run after another is a run.
abbrev pub RunsJoin : Type 0
RunsJoin = (p : Program) (inner strict : Bool) (s : Store) (picks more : List Pick) (t u : Term)
    (r : Ended) (d e : Effect)
    → Runs p inner strict s picks t (goes u) d → Runs p inner strict (afterwards d s) more u r e
    → Runs p inner strict s (picks ++ more) t r (both d e)

-- A run of some picks, and one of others behind them, which make up a run.
pub record Parted (p : Program) (inner strict : Bool) (s : Store) (picks more : List Pick)
    (t : Term) (r : Ended) (d : Effect) : Type 0 where
  pub middle : Term
  pub first : Effect
  pub second : Effect
  pub before : Runs p inner strict s picks t (goes middle) first
  pub behind : Runs p inner strict (afterwards first s) more middle r second
  pub is_both : d ≡ both first second

-- A run may be parted before each of its picks.
abbrev pub RunsPart : Type 0
RunsPart = (p : Program) (inner strict : Bool) (s : Store) (picks : List Pick) (pick : Pick)
    (more : List Pick) (t : Term) (r : Ended) (d : Effect)
    → Runs p inner strict s (picks ++ pick ∷ more) t r d
    → Parted p inner strict s picks (pick ∷ more) t r d

-- Each pick costs 1 or more, so a run has no more picks than its cost.
abbrev pub PicksCost : Type 0
PicksCost = (p : Program) (inner strict : Bool) (s : Store) (picks : List Pick) (t : Term)
    (r : Ended) (d : Effect)
    → Runs p inner strict s picks t r d → length picks ≤ d.cost

-- The inner picks of an attempt are one pick outside.
abbrev pub AttemptIsOnePick : Type 0
AttemptIsOnePick = (p : Program) (inner strict : Bool) (m : Mode) (fs : List Frame) (s : Store)
    (within : List Pick) (a b body : Term) (r : Ended) (d e : Effect)
    → passed fs a ≡ false → Form a m body → Bare body → MayTry strict s (plug fs a) fs a
    → Runs p true true s within body r d → Closes p m body r d b e
    → Runs p inner strict s (Attempt (path_to fs) within ∷ []) (plug fs a)
    (goes (plug (trodden fs) b)) e

-- A run, pick by pick: what each of them did.
pub data PickByPick (p : Program) (inner strict : Bool) : (s : Store) (picks : List Pick) (t : Term)
    (r : Ended) (effects : List Effect) → Type 0 where
  no_more : {s : Store} {picks : List Pick} {t : Term} {r : Ended} {effects : List Effect}
      → picks ≡ [] → r ≡ goes t → effects ≡ [] → PickByPick p inner strict s picks t r effects
  next : {s : Store} {picks rest : List Pick} {t u : Term} {r : Ended}
      {effects others : List Effect} (pick : Pick) (d : Effect)
      → picks ≡ pick ∷ rest → Runs p inner strict s (pick ∷ []) t (goes u) d
      → PickByPick p inner strict (afterwards d s) rest u r others
      → effects ≡ d ∷ others → PickByPick p inner strict s picks t r effects
  stopped : {s : Store} {picks : List Pick} {t : Term} {r : Ended} {effects : List Effect}
      (pick : Pick) (d : Effect)
      → picks ≡ pick ∷ [] → Runs p inner strict s (pick ∷ []) t aborts d → r ≡ aborts
      → effects ≡ d ∷ [] → PickByPick p inner strict s picks t r effects

-- What stretches do, one after the other.
abbrev pub all_of : List Effect → Effect
all_of [] = idle
all_of (d ∷ ds) = both d (all_of ds)

-- Texts, one after the other.
abbrev pub outputs : List Effect → List ℕ
outputs [] = []
outputs (d ∷ ds) = d.output ++ outputs ds

-- The sum of costs.
abbrev pub costs : List Effect → ℕ
costs [] = 0
costs (d ∷ ds) = d.cost + costs ds

-- A run is its picks one after the other: its output is theirs in a row, and only grows; its cost
-- is the sum of theirs.
abbrev pub PicksAddUp : Type 0
PicksAddUp = (p : Program) (inner strict : Bool) (s : Store) (picks : List Pick) (t : Term)
    (r : Ended) (d : Effect) → Runs p inner strict s picks t r d
    → (effects : List Effect) × PickByPick p inner strict s picks t r effects × (d ≡ all_of effects)
    × (d.output ≡ outputs effects) × (d.cost ≡ costs effects)
