-- Servers one by one, and threads that were added.
use Rattle.std.proofs.Common.{◌≡◌, ℕ, ◌+◌, List, [], ◌∷◌, ◌++◌, Some, refl, sym, ap, ◌∙◌, subst, inl, inr}
use Rattle.fort_core.specs.declared.program.Program.{Program}
use Rattle.fort_core.specs.declared.value.Value.{Value}
use Rattle.fort_machine.specs.Effects.{Store}
use Rattle.fort_machine.specs.Parts.{IsOneOf}
use Rattle.fort_threads.specs.Objects.{objects}
use Rattle.fort_threads.specs.Threads.{new, Thread, thread}
use Rattle.fort_threads_law_servers.specs.Prelude.{Names}
use Rattle.fort_threads_law_servers.specs.Roots.{Start}
use Rattle.fort_threads_law_worlds.specs.Worlds.{World, AllNew}
use Rattle.fort_threads_law_worlds.specs.Known.{Own}
use Rattle.fort_threads_law_trees.specs.Leaves.{Leaf}
use Rattle.fort_threads_law_whole.specs.Servers.{IsKept, IsNew, ServesOne, AllServeOne}
use Rattle.fort_threads_law_whole.proofs.Numbers.{has_number, whose_object}
use Rattle.fort_threads_law_whole.proofs.ThreadObjects.{HaveObjects}
use Rattle.fort_threads_law_whole.proofs.ThreadQueue.{in_second}

-- each of these servers serves, and has kept what it keeps
pub each_serves : (p : Program) (n : Names) (m : Start) (o : Own) (w : World) (now : List Thread)
    (s : Store) (xs : List Leaf) (x : Leaf) → AllServeOne p n m o w now s xs → IsOneOf x xs
    → ServesOne p n m o w now x.stage × IsKept s x.stage
each_serves p n m o w now s [] x h i = absurd i
each_serves p n m o w now s (y ∷ xs) x h (inl e) =
    subst (λ (z : Leaf). ServesOne p n m o w now z.stage × IsKept s z.stage) (sym e) (h.0, h.1)
each_serves p n m o w now s (y ∷ xs) x h (inr i) = each_serves p n m o w now s xs x h.2 i

-- and all do where each does
pub all_serve : (p : Program) (n : Names) (m : Start) (o : Own) (w : World) (now : List Thread)
    (s : Store) (xs : List Leaf)
    → ((x : Leaf) → IsOneOf x xs → ServesOne p n m o w now x.stage × IsKept s x.stage)
    → AllServeOne p n m o w now s xs
all_serve p n m o w now s [] each = tt
all_serve p n m o w now s (y ∷ xs) each =
    let q = each y (inl refl) in
    (q.0, q.1, all_serve p n m o w now s xs (λ x i. each x (inr i)))

-- a thread that was added stands behind all, and is new
new_of : (us : List Thread) (u : Thread) → AllNew us → IsOneOf u us
    → (f : Value) × (u.phase ≡ new f)
new_of [] u h i = absurd i
new_of (x ∷ us) u h (inl e) = (h.0.0, ap (λ (z : Thread). z.phase) e ∙ h.0.1)
new_of (x ∷ us) u h (inr i) = new_of us u h.1 i

pub object_of_added : (us : List Thread) (u : Thread) → HaveObjects us → IsOneOf u us
    → (l : ℕ) × (u.object ≡ Some l)
object_of_added [] u h i = absurd i
object_of_added (x ∷ us) u h (inl e) = (h.0.0, ap (λ (z : Thread). z.object) e ∙ h.0.1)
object_of_added (x ∷ us) u h (inr i) = object_of_added us u h.1 i

pub new_among : (us : List Thread) (l : ℕ) → AllNew us → IsOneOf l (objects us)
    → (f : Value) × IsOneOf (thread (Some l) (new f)) us
new_among us l h i =
    let q = whose_object us l i in
    let f = new_of us q.0 h q.1 in
    (f.0, subst (λ (z : Thread). IsOneOf z us) (whole q.0 f.0 q.2 f.1) q.1)
  where
    whole : (u : Thread) (f : Value) → u.object ≡ Some l → u.phase ≡ new f
        → u ≡ thread (Some l) (new f)
    whole u f e q = λ j. thread (e j) (q j)

-- and has a number there
pub added_stands : (now added : List Thread) (l : ℕ) → AllNew added → IsOneOf l (objects added)
    → IsNew (now ++ added) l
added_stands now added l h i =
    let q = new_among added l h i in
    let u = thread (Some l) (new q.0) in
    let k = has_number u (now ++ added) (in_second u now added q.1) in
    (k.0, q.0, k.1)
