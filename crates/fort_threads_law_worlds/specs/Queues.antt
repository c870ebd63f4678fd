-- Chapter "The machine with threads": what a stretch of both machines leaves of the queue, by the
-- threads that it added.
use Rattle.std.specs.Prelude.{◌≡◌, ℕ, ◌+◌, List, [], ◌∷◌, ◌++◌, length, option_to_list}
use Rattle.fort_threads.specs.Threads.{Thread}
use Rattle.fort_threads_law_worlds.specs.Worlds.{World}

-- Threads put their objects before a queue, one after the other.
abbrev pub queue_after : List Thread → List ℕ → List ℕ
queue_after [] ls = ls
queue_after (u ∷ us) ls = queue_after us (option_to_list u.object ++ ls)

-- These threads were added to the queue, and to both counts, and nothing else was done to these.
abbrev pub HasQueued : World → World → List Thread → Type 0
HasQueued w x added = (x.queue ≡ queue_after added w.queue)
    × (x.unended ≡ length added + w.unended) × (x.spawned ≡ length added + w.spawned)
