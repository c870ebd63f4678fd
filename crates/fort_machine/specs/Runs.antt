-- Chapter "Runs": a run of picks, with attempts at any depth. The code appends legs of tasks to
-- books; here a run is one pick after another.
use Rattle.std.specs.Prelude.{◌≡◌, ℕ, Bool, true, false, List, [], ◌∷◌, ◌++◌}
use Rattle.fort_base.specs.declared.ids.Loc.{Loc}
use Rattle.fort_core.specs.declared.form.Mode.{Mode}
use Rattle.fort_core.specs.declared.path.Path.{Path}
use Rattle.fort_core.specs.declared.pick.Pick.{Pick, Step, Attempt}
use Rattle.fort_core.specs.declared.program.Program.{Program}
use Rattle.fort_core.specs.declared.term.Term.{Term}
use Rattle.fort_machine.specs.Effects.{Store, Effect, idle, paid, both, FitsAll, afterwards, aborting}
use Rattle.fort_machine.specs.Frames.{Frame, plug, road, passed, trodden}
use Rattle.fort_machine.specs.Acts.{ends}
use Rattle.fort_machine.specs.Marked.{Bare}
use Rattle.fort_machine.specs.Steps.{Acts, Local}
use Rattle.fort_machine.specs.Attempts.{Form, MayTry, Ended, goes, aborts, Closes}

-- The path of the thread that frames lead to.
abbrev pub path_to : List Frame → Path
path_to fs = record { 0 = road fs }

-- A location by its number.
abbrev pub location : ℕ → Loc
location l = record { 0 = l }

-- A machine, an attempt's (`inner`) or the root's, keeping the rule on sleeping forms or leaving it
-- (`strict`), goes from a store and a term by picks to its end, and does something: by no pick; by
-- a step of one thread; by a step of `abort()`, which ends an attempt's machine; by one attempt of
-- an atomic form. No thread of a part that is passed over goes on, and each part on the way to a
-- pick's place gets its mark. Inner runs always keep the rule.
pub data Runs (p : Program) : (inner strict : Bool) (s : Store) (picks : List Pick) (t : Term)
    (r : Ended) (d : Effect) → Type 0 where
  none : {inner strict : Bool} {s : Store} {picks : List Pick} {t : Term} {r : Ended} {d : Effect}
      → picks ≡ [] → r ≡ goes t → d ≡ idle → Runs p inner strict s picks t r d
  step : {inner strict : Bool} {s : Store} {picks rest : List Pick} {t a b : Term} {r : Ended}
      {d d1 d2 : Effect} {loc : ℕ} (fs : List Frame)
      → picks ≡ Step (path_to fs) (location loc) ∷ rest → t ≡ plug fs a → passed fs a ≡ false
      → Local p inner loc a b d1 → FitsAll d1 s
      → Runs p inner strict (afterwards d1 s) rest (plug (trodden fs) b) r d2 → d ≡ both d1 d2
      → Runs p inner strict s picks t r d
  stop : {inner strict : Bool} {s : Store} {picks : List Pick} {t a : Term} {r : Ended} {d : Effect}
      (fs : List Frame)
      → inner ≡ true → picks ≡ Step (path_to fs) (location 0) ∷ [] → t ≡ plug fs a
      → passed fs a ≡ false → Acts p a ends → r ≡ aborts → d ≡ paid 1
      → Runs p inner strict s picks t r d
  attempt : {inner strict : Bool} {m : Mode} {s : Store} {picks within rest : List Pick}
      {t a b body : Term} {ended r : Ended} {d d1 d2 d3 : Effect} (fs : List Frame)
      → picks ≡ Attempt (path_to fs) within ∷ rest → t ≡ plug fs a → passed fs a ≡ false
      → Form a m body → Bare body → MayTry strict s t fs a
      → Runs p true true s within body ended d1 → Closes p m body ended d1 b d2
      → Runs p inner strict (afterwards d2 s) rest (plug (trodden fs) b) r d3 → d ≡ both d2 d3
      → Runs p inner strict s picks t r d

-- An attempt that isn't finished: its inner picks are legal so far, and its last one may be such an
-- attempt itself. It costs 1 and what they cost, and counts as aborted.
pub data Begun (p : Program) : (strict : Bool) (s : Store) (pick : Pick) (t : Term) (d : Effect)
    → Type 0 where
  so_far : {strict : Bool} {m : Mode} {s : Store} {pick : Pick} {t a body : Term} {r : Ended}
      {d d1 : Effect} {within : List Pick} (fs : List Frame)
      → pick ≡ Attempt (path_to fs) within → t ≡ plug fs a → passed fs a ≡ false → Form a m body
      → Bare body → MayTry strict s t fs a
      → Runs p true true s within body r d1 → d ≡ aborting d1 → Begun p strict s pick t d
  inside : {strict : Bool} {m : Mode} {s : Store} {pick last : Pick} {t a body u : Term}
      {d d1 d2 : Effect} {within : List Pick} (fs : List Frame)
      → pick ≡ Attempt (path_to fs) (within ++ last ∷ []) → t ≡ plug fs a → passed fs a ≡ false
      → Form a m body → Bare body → MayTry strict s t fs a
      → Runs p true true s within body (goes u) d1 → Begun p true (afterwards d1 s) last u d2
      → d ≡ aborting (both d1 d2) → Begun p strict s pick t d
