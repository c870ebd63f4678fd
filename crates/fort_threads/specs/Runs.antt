-- Chapter "The machine with threads": the picks of one thread, with attempts at any depth, as in
-- the chapter "Runs". Inside an attempt no thread begins and none ends.
use Rattle.std.specs.Prelude.{◌≡◌, ℕ, Bool, true, false, List, [], ◌∷◌, ◌++◌}
use Rattle.fort_core.specs.declared.form.Mode.{Mode}
use Rattle.fort_core.specs.declared.pick.Pick.{Pick, Step, Attempt}
use Rattle.fort_core.specs.declared.program.Program.{Program}
use Rattle.fort_core.specs.declared.term.Term.{Term}
use Rattle.fort_machine.specs.Acts.{ends}
use Rattle.fort_machine.specs.Attempts.{Form, Ended, goes, aborts, Closes}
use Rattle.fort_machine.specs.Effects.{Store, Effect, idle, paid, FitsAll, afterwards}
use Rattle.fort_machine.specs.Frames.{Frame, plug, road, passed, trodden}
use Rattle.fort_machine.specs.Marked.{Bare}
use Rattle.fort_machine.specs.Runs.{path_to, location}
use Rattle.fort_machine.specs.Steps.{Acts}
use Rattle.fort_threads.specs.Known.{Known, Own, Outside}
use Rattle.fort_threads.specs.Threads.{Paths, Thread, Done, only, both_done, kept, noted}
use Rattle.fort_threads.specs.Moves.{Moves}
use Rattle.fort_threads.specs.Awake.{MayTry}

-- What an attempt did that ended so and whose inner run did so: the threads that it added stay
-- where it completed.
abbrev pub closed : Ended → Done → Effect → Done
closed ended d e = record { effect = e; added = kept ended d.added; came = d.came }

-- One thread, of an attempt's machine (`inner`) or the root's, goes from a store and a term by
-- picks to its end, and does something, while other threads stand beside it in its machine, and
-- these stand in all: by no pick; by a step of one form; by a step of `abort()`; by one attempt,
-- whose machine has the attempt's own thread alone.
pub data Runs (p : Program) (k : Known) : (inner : Bool) (beside standing : List Thread)
    (asked : Paths) (s : Store) (picks : List Pick) (t : Term) (r : Ended) (d : Done) → Type 0 where
  none : {inner : Bool} {beside standing : List Thread} {asked : Paths} {s : Store}
      {picks : List Pick} {t : Term} {r : Ended} {d : Done}
      → picks ≡ [] → r ≡ goes t → d ≡ only idle
      → Runs p k inner beside standing asked s picks t r d
  step : {inner : Bool} {beside standing : List Thread} {asked : Paths} {s : Store}
      {picks rest : List Pick} {t a b : Term} {r : Ended} {d d1 d2 : Done} {loc : ℕ}
      (fs : List Frame)
      → picks ≡ Step (path_to fs) (location loc) ∷ rest → t ≡ plug fs a → passed fs a ≡ false
      → Outside p k fs a → Moves p k inner standing loc a b d1 → FitsAll d1.effect s
      → Runs p k inner beside (standing ++ d1.added) asked (afterwards d1.effect s) rest
      (plug (trodden fs) b) r d2
      → d ≡ both_done d1 d2 → Runs p k inner beside standing asked s picks t r d
  stop : {inner : Bool} {beside standing : List Thread} {asked : Paths} {s : Store}
      {picks : List Pick} {t a : Term} {r : Ended} {d : Done} (fs : List Frame)
      → inner ≡ true → picks ≡ Step (path_to fs) (location 0) ∷ [] → t ≡ plug fs a
      → passed fs a ≡ false → Outside p k fs a → (Own p k a → ⊥) → Acts p a ends → r ≡ aborts
      → d ≡ only (paid 1) → Runs p k inner beside standing asked s picks t r d
  attempt : {inner : Bool} {m : Mode} {beside standing : List Thread} {asked : Paths} {s : Store}
      {picks within rest : List Pick} {t a b body : Term} {ended r : Ended} {d d1 d3 : Done}
      {e : Effect} (fs : List Frame)
      → picks ≡ Attempt (path_to fs) within ∷ rest → t ≡ plug fs a → passed fs a ≡ false
      → Outside p k fs a → (Own p k a → ⊥) → Form a m body → Bare body
      → MayTry p k beside standing asked s t fs a
      → Runs p k true [] standing [] s within body ended d1
      → Closes p m body ended d1.effect b e
      → Runs p k inner beside (standing ++ kept ended d1.added) (noted d1.came (road fs) asked)
      (afterwards e s) rest (plug (trodden fs) b) r d3
      → d ≡ both_done (closed ended d1 e) d3
      → Runs p k inner beside standing asked s picks t r d
