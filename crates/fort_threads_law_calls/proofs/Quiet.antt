-- Picks that leave stores and worlds as they are.
use Rattle.std.proofs.Common.{◌≡◌, ℕ, ◌+◌, ◌==◌, Bool, true, false, List, [], ◌∷◌, ◌++◌, Some, None, if◌then◌else◌, arith, rules, refl, ap, sym, ◌∙◌, subst, inl, append-nil}
use Rattle.std.proofs.Math.Path.{fun_ext}
use Rattle.fort_core.specs.declared.program.Program.{Program}
use Rattle.fort_core.specs.declared.value.Value.{Value}
use Rattle.fort_machine.specs.Cells.{Cell, untouched, found, joined, left_at, given_back, taken_away}
use Rattle.fort_machine.specs.Effects.{Store, Effect, idle, paid, only_at, reading, completing, failing, aborting, afterwards}
use Rattle.fort_machine.specs.RunLaws.{all_of}
use Rattle.fort_threads.specs.Threads.{Thread}
use Rattle.fort_threads_law_servers.specs.Prelude.{Names}
use Rattle.fort_threads_law_servers.specs.Roots.{Start}
use Rattle.fort_threads_law_worlds.specs.Worlds.{unused, for_all, part_of, of_prelude, given, object, World}
use Rattle.fort_threads_law_worlds.specs.Stores.{AreStores}
use Rattle.fort_threads_law_worlds.specs.Effects.{DoAlike}

-- a location isn't where an end is kept that has not come
abbrev pub Unkept : World → ℕ → Type 0
Unkept w l = (k : ℕ) (f : Value) → w.object k ≡ Some (object f (given None)) → l ≡ k + 2 → ⊥

-- a variable of the prelude is none
pub own_unkept : {p : Program} {n : Names} {m : Start} {w : World} {standing : List Thread}
    {s t : Store} → AreStores p n m w standing s t → (l : ℕ) → w.serves l ≡ of_prelude
    → Unkept w l
own_unkept {w = w} h l e k f q z =
    let a : part_of k 2 ≡ of_prelude =
    sym (h.parts k _ q 2 (omega arith)) ∙ ap w.serves (sym z) ∙ e in absurd cc

-- what is done touches no location for terms of the component, nor where an end is kept that has
-- not come, prints nothing, and leaves the store
pub record Quiet (w : World) (s : Store) (d : Effect) : Type 0 where
  pub shut : (l : ℕ) → w.serves l ≡ for_all → d.cells l ≡ untouched
  pub lasting : (l : ℕ) → w.lasts l ≡ true → d.cells l ≡ untouched
  pub unended : (l : ℕ) (f : Value) → w.object l ≡ Some (object f (given None))
      → d.cells (l + 2) ≡ untouched
  pub silent : d.output ≡ []
  pub same : afterwards d s ≡ s

pub quiet_is : {w : World} {s : Store} {d e : Effect} → d ≡ e → Quiet w s e → Quiet w s d
quiet_is {w} {s} q k = subst (Quiet w s) (sym q) k

pub quiet_paid : (w : World) (s : Store) (c : ℕ) → Quiet w s (paid c)
quiet_paid w s c =
    record {
      shut = λ l e. refl;
      lasting = λ l e. refl;
      unended = λ l f e. refl;
      silent = refl;
      same = refl;
    }

pub quiet_cells : {w : World} {s : Store} {d : Effect} (l : ℕ) (v : Value)
    → ((k : ℕ) → d.cells k ≡ only_at l (found (Some v) None) k) → d.output ≡ []
    → (w.serves l ≡ for_all → ⊥) → (w.lasts l ≡ true → ⊥) → Unkept w l → Quiet w s d
quiet_cells {w} {s} {d} l v f o n m u = record {
  shut = λ k e. f k ∙ away k (λ z. n (ap w.serves z ∙ e)) (l == k) refl;
  lasting = λ k e. f k ∙ away k (λ z. m (ap w.lasts z ∙ e)) (l == k) refl;
  unended = λ k g e. f (k + 2) ∙ away (k + 2) (λ z. u k g e z) (l == k + 2) refl;
  silent = o;
  same = fun_ext (λ k. ap (λ c. left_at c (s k)) (f k) ∙ left k (l == k));
}
  where
    away : (k : ℕ) → (l ≡ k → ⊥) → (b : Bool) → (l == k) ≡ b
        → (if b then found (Some v) None else untouched) ≡ untouched
    away k e true q = let z : l ≡ k = search (rules, q) in absurd (e z)
    away k e false q = refl

    left : (k : ℕ) (b : Bool)
        → left_at (if b then found (Some v) None else untouched) (s k) ≡ s k
    left k true = refl
    left k false = refl

pub quiet_reading : {w : World} {s : Store} (l : ℕ) (v : Value) → (w.serves l ≡ for_all → ⊥)
    → (w.lasts l ≡ true → ⊥) → Unkept w l → Quiet w s (reading l v)
quiet_reading l v n m u = quiet_cells l v (λ k. refl) refl n m u

by_read : (b : Bool) (v : Value) (f : Cell → Cell) → f untouched ≡ untouched
    → f (found (Some v) None) ≡ found (Some v) None
    → f (joined (if b then found (Some v) None else untouched) untouched)
    ≡ (if b then found (Some v) None else untouched)
by_read true v f e q = q
by_read false v f e q = e

-- attempts that read one location, which isn't for terms of the component
pub quiet_completed : {w : World} {s : Store} (l : ℕ) (v : Value) → (w.serves l ≡ for_all → ⊥)
    → (w.lasts l ≡ true → ⊥) → Unkept w l
    → Quiet w s (completing (all_of (reading l v ∷ paid 1 ∷ paid 1 ∷ [])))
quiet_completed l v n m u =
    quiet_cells l v (λ k. by_read (l == k) v (λ c. c) refl refl) refl n m u

pub quiet_failed : {w : World} {s : Store} (l : ℕ) (v : Value) → (w.serves l ≡ for_all → ⊥)
    → (w.lasts l ≡ true → ⊥) → Unkept w l
    → Quiet w s (failing (all_of (reading l v ∷ paid 1 ∷ paid 1 ∷ paid 1 ∷ [])))
quiet_failed l v n m u =
    quiet_cells l v (λ k. by_read (l == k) v given_back refl refl) refl n m u

pub quiet_aborted : {w : World} {s : Store} (l : ℕ) (v : Value) → (w.serves l ≡ for_all → ⊥)
    → (w.lasts l ≡ true → ⊥) → Unkept w l
    → Quiet w s (aborting (all_of (reading l v ∷ paid 1 ∷ paid 1 ∷ paid 1 ∷ [])))
quiet_aborted l v n m u =
    quiet_cells l v (λ k. by_read (l == k) v taken_away refl refl) refl n m u

-- what reads a location has it as read
pub read_there : (l : ℕ) (v : Value)
    → (all_of (reading l v ∷ paid 1 ∷ paid 1 ∷ paid 1 ∷ [])).cells l ≡ found (Some v) None
read_there l v = go (l == l) here
  where
    here : (l == l) ≡ true
    here = search rules

    go : (b : Bool) → b ≡ true
        → joined (if b then found (Some v) None else untouched) untouched ≡ found (Some v) None
    go true e = refl
    go false e = let z : false ≡ true = e in absurd cc

-- ---- what the machine with threads does meanwhile

pub quiet_idle : {w : World} {s : Store} {d : Effect} → Quiet w s d → DoAlike w w d idle
quiet_idle q = record {
  same = q.shut;
  newly_made = λ l e u. let z : for_all ≡ unused = sym e ∙ u in absurd cc;
  nothing_else = λ l n. inl refl;
  lasting = q.lasting;
  output = q.silent;
  unended = λ l f e. (e, q.unended l f e);
}

pub quiet_alike : {w : World} {s : Store} {d : Effect} (c : ℕ) → Quiet w s d
    → DoAlike w w d (paid c)
quiet_alike c q = record {
  same = q.shut;
  newly_made = λ l e u. let z : for_all ≡ unused = sym e ∙ u in absurd cc;
  nothing_else = λ l n. inl refl;
  lasting = q.lasting;
  output = q.silent;
  unended = λ l f e. (e, q.unended l f e);
}

pub quiet_stores : {p : Program} {n : Names} {m : Start} {w : World} {standing : List Thread}
    {s t : Store} {d : Effect} → Quiet w s d → AreStores p n m w standing s t
    → AreStores p n m w standing (afterwards d s) t
quiet_stores {p} {n} {m} {w} {standing} {s} {t} {d} q h =
    subst (λ x. AreStores p n m w standing x t) (sym q.same) h

-- no threads are added
pub none_added : {p : Program} {n : Names} {m : Start} {w : World} {standing : List Thread}
    {s t : Store} → AreStores p n m w standing s t → AreStores p n m w (standing ++ []) s t
none_added {p} {n} {m} {w} {standing} {s} {t} h =
    subst (λ us. AreStores p n m w us s t) (sym (append-nil standing)) h
