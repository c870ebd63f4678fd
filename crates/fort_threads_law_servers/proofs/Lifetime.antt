-- A server's picks are a life of one thread.
use Rattle.std.proofs.Common.{◌≡◌, ℕ, List, [], ◌++◌, refl, sym, subst}
use Rattle.fort_core.specs.declared.pick.Pick.{Pick}
use Rattle.fort_core.specs.declared.program.Program.{Program}
use Rattle.fort_machine.specs.Effects.{Store, Effect}
use Rattle.fort_threads.specs.Lives.{not_begun, alive, has_ended, Lives}
use Rattle.fort_threads.specs.Lives as lives
use Rattle.fort_threads.specs.Machine.{Event}
use Rattle.fort_threads_law_servers.specs.Prelude.{Names}
use Rattle.fort_threads_law_servers.specs.Stages.{at_value, at_throw, Stage, called, asking, trying, got, refused, looking, sent, reads, runs, caught, lost, keeps, has_kept, marks, has_marked, leaves, counts, done, Follows}
use Rattle.fort_threads_law_servers.specs.Servers.{Serves, rests, goes_on}
use Rattle.fort_threads_law_servers.specs.Lifetimes.{event_of, events_of, ServesOneLife}

-- how far the life has come at a stage
abbrev life : Stage → lives.Stage
life (runs l t) = alive
life (caught l v) = alive
life (lost v) = alive
life (keeps l e) = alive
life (has_kept l e) = alive
life (marks l e) = alive
life (has_marked l e) = has_ended
life leaves = has_ended
life (counts form) = has_ended
life (done t) = has_ended
life _ = not_begun

abbrev IsDone : Stage → Type 0
IsDone (done t) = Unit {0}
IsDone _ = ⊥

module _ (p : Program) (n : Names) (k : ℕ) where
  no_more : {stage last : Stage} (h : Serves p n stage last) → IsDone stage → events_of k h ≡ []
  no_more (rests e) w = refl
  no_more {stage = done t} (goes_on next s pick d h rest) w = absurd h
  no_more {stage = called} (goes_on next s pick d h rest) w = absurd w
  no_more {stage = _} (goes_on next s pick d h rest) w = absurd w

  stops : (x : lives.Stage) (es : List Event) → es ≡ [] → Lives x es
  stops x es e = subst (Lives x) (sym e) tt

  one_more : (s : Store) (pick : Pick) (d : Effect) (stage next : Stage)
      → Follows p n s pick d stage next → (es : List Event) → (IsDone next → es ≡ [])
      → Lives (life next) es → Lives (life stage) (event_of k pick stage next ++ es)
  one_more s pick d called asking h es q c = c
  one_more s pick d asking (trying form) h es q c = c
  one_more s pick d (trying form) (trying other) h es q c = c
  one_more s pick d (trying form) (got v) h es q c = c
  one_more s pick d (trying form) (refused v) h es q c = c
  one_more s pick d (got v) (looking w) h es q c = c
  one_more s pick d (refused v) (done t) h es q c = stops not_begun es (q tt)
  one_more s pick d (looking v) (sent l) h es q c = c
  one_more s pick d (looking v) (done t) h es q c = stops not_begun es (q tt)
  one_more s pick d (sent l) (reads m) h es q c = c
  one_more s pick d (reads l) (runs m t) h es q c = c
  one_more s pick d (runs l t) (runs m u) h es q c = c
  one_more s pick d (runs l t) (keeps m e) h es q c = c
  one_more s pick d (runs l t) (caught m v) h es q c = c
  one_more s pick d (caught l v) (keeps m e) h es q c = c
  one_more s pick d (caught l v) (lost w) h es q c = c
  one_more s pick d (lost v) (done t) h es q c = stops alive es (q tt)
  one_more s pick d (keeps l e) (has_kept m f) h es q c = c
  one_more s pick d (has_kept l e) (marks m f) h es q c = c
  one_more s pick d (marks l e) (has_marked m f) h es q c = c
  one_more s pick d (has_marked l (at_value v)) leaves h es q c = c
  one_more s pick d (has_marked l (at_throw v)) (counts form) h es q c = c
  one_more s pick d leaves (counts form) h es q c = c
  one_more s pick d (counts form) (counts other) h es q c = c
  one_more s pick d (counts form) (done t) h es q c = c
  one_more s pick d _ _ h es q c = absurd h

  lived : {stage last : Stage} (h : Serves p n stage last) → Lives (life stage) (events_of k h)
  lived (rests e) = tt
  lived {stage = stage} (goes_on next s pick d h rest) =
      one_more s pick d stage next h (events_of k rest) (no_more rest) (lived rest)

pub serves_one_life : ServesOneLife
serves_one_life p n k last h = lived p n k h
