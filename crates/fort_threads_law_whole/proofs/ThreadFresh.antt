-- The object of a thread that a pick added is no object of a thread that stood before.
use Rattle.std.proofs.Common.{◌≡◌, ℕ, ◌+◌, Bool, List, ◌++◌, Option, Some, sym, ap, ◌∙◌, subst, arith, ◌⊎◌, inl, inr}
use Rattle.fort_core.specs.declared.pick.Pick.{Pick}
use Rattle.fort_core.specs.declared.program.Program.{Program}
use Rattle.fort_core.specs.declared.term.Term.{Term}
use Rattle.fort_core.specs.declared.value.Value.{Value}
use Rattle.fort_machine.specs.Attempts.{Ended}
use Rattle.fort_machine.specs.Cells.{untouched, made, left_at}
use Rattle.fort_machine.specs.Effects.{Store, Effect, afterwards}
use Rattle.fort_machine.specs.Parts.{IsOneOf}
use Rattle.fort_threads.specs.Known.{Known}
use Rattle.fort_threads.specs.Objects.{objects}
use Rattle.fort_threads.specs.Runs.{Runs}
use Rattle.fort_threads.specs.Threads.{Paths, Thread, Done}
use Rattle.fort_threads_law_servers.specs.Prelude.{Names}
use Rattle.fort_threads_law_servers.specs.Roots.{Start}
use Rattle.fort_threads_law_worlds.specs.Worlds.{Use, unused, for_all, part_of, given, object, World, HasNothing, IsGiven}
use Rattle.fort_threads_law_worlds.specs.Stores.{AreStores}
use Rattle.fort_threads_law_worlds.specs.Effects.{DoAlike}
use Rattle.fort_threads_law_whole.proofs.Numbers.{whose_object}
use Rattle.fort_threads_law_whole.proofs.ThreadQueue.{in_second}
use Rattle.fort_threads_law_whole.proofs.ThreadObjects.{there_of}
use Rattle.fort_threads_law_whole.proofs.ThreadStand.{added_once, added_new}

first_place : (w : World) (l : ℕ) → w.serves (l + 0) ≡ part_of l 0 → w.serves l ≡ part_of l 0
first_place w l e = let z : l + 0 ≡ l = omega arith in sym (ap w.serves z) ∙ e

-- the object of a thread that stands is given, and its first place is its own
pub object_given : {p : Program} {n : Names} {m : Start} {w : World} {now : List Thread}
    {s t : Store} → AreStores p n m w now s t → (l : ℕ) → IsOneOf l (objects now)
    → IsGiven w l × (w.serves l ≡ part_of l 0)
object_given {w = w} {now = now} h l i =
    let q = whose_object now l i in
    let g = h.objects_given q.0 l q.1 q.2 in
    (g, first_place w l (h.parts l (object g.0 (given g.1)) g.2 0 (omega arith)))

part_not_unused : (u : Use) (l : ℕ) → u ≡ part_of l 0 → u ≡ unused → ⊥
part_not_unused u l e f = let z : part_of l 0 ≡ unused = sym e ∙ f in cc

part_not_for_all : (u : Use) (l : ℕ) → u ≡ part_of l 0 → u ≡ for_all → ⊥
part_not_for_all u l e f = let z : part_of l 0 ≡ for_all = sym e ∙ f in cc

had_something : (w : World) (l : ℕ) → IsGiven w l → w.serves l ≡ part_of l 0 → HasNothing w l → ⊥
had_something w l g e (inl f) = part_not_unused (w.serves l) l e f
had_something w l g e (inr q) =
    let z : part_of l 0 ≡ part_of q.0 q.1 = sym e ∙ q.2 in
    let same : l ≡ q.0 = cc in
    q.3 (subst (IsGiven w) same g)

pub fresh : {p : Program} {n : Names} {m : Start} {k : Known} {w x : World} {inner : Bool}
    {beside now : List Thread} {asked : Paths} {s s' t : Store} {picks : List Pick} {u : Term}
    {r : Ended} {d : Effect} {done : Done} → AreStores p n m w now s t
    → AreStores p n m x (now ++ done.added) s' (afterwards done.effect t)
    → DoAlike w x d done.effect → Runs p k inner beside now asked t picks u r done
    → (l : ℕ) → IsOneOf l (objects done.added) → IsOneOf l (objects now) → ⊥
fresh {w = w} {x = x} {now = now} {t = t} {done = done} stores later alike run l i j =
    let first = object_given stores l j in
    let q = whose_object done.added l i in
    let g = later.objects_given q.0 l (in_second q.0 now done.added q.1) q.2 in
    let place : x.serves l ≡ part_of l 0 =
    first_place x l (later.parts l (object g.0 (given g.1)) g.2 0 (omega arith)) in
    let here = there_of (afterwards done.effect t) (objects done.added) l (added_once run).1 i in
    go first.0 first.1 here
    (alike.nothing_else l (part_not_for_all (x.serves l) l place))
  where
    go : IsGiven w l → w.serves l ≡ part_of l 0
        → (v : Value) × (left_at (done.effect.cells l) (t l) ≡ Some v)
        → (done.effect.cells l ≡ untouched)
        ⊎ ((v : Option Value) × (done.effect.cells l ≡ made v) × HasNothing w l) → ⊥
    go g e here (inl c) =
        added_new run l i here.0 (ap (λ z. left_at z (t l)) (sym c) ∙ here.1)
    go g e here (inr q) = had_something w l g e q.2
