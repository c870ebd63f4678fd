-- Queues of threads.
use Rattle.std.proofs.Common.{◌≡◌, ℕ, ◌+◌, List, [], ◌∷◌, ◌++◌, length, option_to_list, Some, refl, ap, sym, ◌∙◌, arith, length-append, inl, inr}
use Rattle.fort_core.specs.declared.value.Value.{Value}
use Rattle.fort_machine.specs.Effects.{Store}
use Rattle.fort_machine.specs.Parts.{IsOneOf}
use Rattle.fort_threads.specs.Threads.{Thread}
use Rattle.fort_threads_law_servers.specs.Prelude.{Names}
use Rattle.fort_threads_law_worlds.specs.Worlds.{World}
use Rattle.fort_threads_law_worlds.specs.Stores.{IsQueue}
use Rattle.fort_threads_law_worlds.specs.Queues.{queue_after, HasQueued}

-- a queue stays where what its objects lead to does
pub queue_kept : (n : Names) (s q : Store) (v : Value) (ls : List ℕ)
    → ((l : ℕ) → IsOneOf l ls → q (l + 3) ≡ s (l + 3)) → IsQueue n s v ls → IsQueue n q v ls
queue_kept n s q v [] f h = h
queue_kept n s q v (l ∷ ls) f h = (
  h.0,
  (
    h.1.0,
    f l (inl refl) ∙ h.1.1,
    queue_kept n s q h.1.0 ls (λ k i. f k (inr i)) h.1.2,
  ),
)

pub queue_there : (n : Names) (s q : Store) (v : Value) (ls : List ℕ)
    → ((l : ℕ) (x : Value) → s l ≡ Some x → q l ≡ Some x) → IsQueue n s v ls → IsQueue n q v ls
queue_there n s q v [] f h = h
queue_there n s q v (l ∷ ls) f h = (
  h.0,
  (h.1.0, f (l + 3) h.1.0 h.1.1, queue_there n s q h.1.0 ls f h.1.2),
)

queue_both : (a b : List Thread) (ls : List ℕ)
    → queue_after (a ++ b) ls ≡ queue_after b (queue_after a ls)
queue_both [] b ls = refl
queue_both (u ∷ a) b ls = queue_both a b (option_to_list u.object ++ ls)

-- what two stretches add, they add together
pub queued_both : (w x y : World) (a b : List Thread) → HasQueued w x a → HasQueued x y b
    → HasQueued w y (a ++ b)
queued_both w x y a b h k =
    let e : length (a ++ b) ≡ length a + length b = length-append a b in
    let h1 : x.unended ≡ length a + w.unended = h.1 in
    let h2 : x.spawned ≡ length a + w.spawned = h.2 in
    let k1 : y.unended ≡ length b + x.unended = k.1 in
    let k2 : y.spawned ≡ length b + x.spawned = k.2 in
    (k.0 ∙ ap (queue_after b) h.0 ∙ sym (queue_both a b w.queue), omega arith, omega arith)

-- a stretch that adds none
pub none_queued : (w x : World) → x.queue ≡ w.queue → x.unended ≡ w.unended
    → x.spawned ≡ w.spawned → HasQueued w x []
none_queued w x a b c =
    let h : x.unended ≡ w.unended = b in
    let k : x.spawned ≡ w.spawned = c in
    (a, omega arith, omega arith)
