-- Chapter "The machine with threads": a thread that was spawned, and what a stretch of a run does
-- where threads are spawned.
use Rattle.std.specs.Prelude.{ℕ, ◌==◌, Bool, true, false, not, ◌||◌, List, [], ◌∷◌, ◌++◌, filter, if◌then◌else◌, Option, Some, None, bytes_eq}
use Rattle.fort_core.specs.declared.pick.Pick.{Pick, out-Pick}
use Rattle.fort_core.specs.declared.pick.Pick.TheOpen.{Pick-F}
use Rattle.fort_core.specs.declared.term.Term.{Term}
use Rattle.fort_core.specs.declared.value.Value.{Value}
use Rattle.fort_machine.specs.Effects.{Effect, both}
use Rattle.fort_machine.specs.Ends.{Standing, at_value, standing}
use Rattle.fort_machine.specs.Attempts.{Ended, goes, aborts}

-- Paths of atomic forms.
abbrev pub Paths : Type 0
Paths = List (List ℕ)

-- A thread has not begun, and will apply a function to `()`; it goes on as a term, with the paths
-- of those atomic forms in it whose last attempt came to a form of its own; or it has ended, at a
-- value or a throw.
pub data Phase : Type 0 where
  new : (function : Value) → Phase
  going : (term : Term) (asked : Paths) → Phase
  over : (end : Term) → Phase

-- A thread: the location of its object, which thread 0 has not, and how it stands.
pub record Thread : Type 0 where
  pub object : Option ℕ
  pub phase : Phase

-- The thread with this object that stands so.
abbrev pub thread : Option ℕ → Phase → Thread
thread object phase = record { object = object; phase = phase }

-- The end of a thread that has ended.
abbrev pub end_at : Phase → Option Term
end_at (over t) = Some t
end_at _ = None

-- Whether a thread's object is at a location.
abbrev pub is_at : ℕ → Option ℕ → Bool
is_at l (Some m) = m == l
is_at l None = false

-- The end of the thread whose object is at a location, where it has ended.
abbrev pub end_of : List Thread → ℕ → Option Term
end_of [] l = None
end_of (t ∷ ts) l = if is_at l t.object then end_at t.phase else end_of ts l

-- What a stretch did: its effect, the threads that it added, and whether it came to a form of its
-- own.
pub record Done : Type 0 where
  pub effect : Effect
  pub added : List Thread
  pub came : Bool

-- No more was done than this.
abbrev pub only : Effect → Done
only e = record { effect = e; added = []; came = false }

-- Two stretches, one after the other.
abbrev pub both_done : Done → Done → Done
both_done d e =
    record {
      effect = both d.effect e.effect;
      added = d.added ++ e.added;
      came = d.came || e.came;
    }

-- Threads that were added in an attempt stay where it came to a value.
abbrev pub kept_at : Standing → List Thread → List Thread
kept_at (at_value v) ts = ts
kept_at _ ts = []

-- The threads that an attempt leaves of those that it added: all where it completed, and none where
-- it failed or was aborted.
abbrev pub kept : Ended → List Thread → List Thread
kept (goes t) ts = kept_at (standing t) ts
kept aborts ts = []

-- Paths, once the form at one of them was tried again: it is among them where the attempt came to a
-- form of its own.
abbrev pub noted : Bool → List ℕ → Paths → Paths
noted true q qs = q ∷ qs
noted false q qs = filter (λ x. not (bytes_eq x q)) qs

-- The same after a pick of this kind: after a step they are as before.
abbrev pub noted_at : Pick-F Pick → Bool → Paths → Paths
noted_at (Pick-F.Step q loc) came qs = qs
noted_at (Pick-F.Attempt q within) came qs = noted came q.0 qs

-- Paths after a pick, which came to a form of its own or not.
abbrev pub noted_by : Pick → Bool → Paths → Paths
noted_by pick came qs = noted_at (out-Pick pick) came qs
