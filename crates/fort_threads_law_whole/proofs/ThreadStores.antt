-- Both stores go together where a thread has gone on, and stands before those that it added.
use Rattle.std.proofs.Common.{◌≡◌, ℕ, ◌+◌, List, [], ◌∷◌, ◌++◌, length, Option, Some, refl, sym, ap, ◌∙◌, subst, ◌⊎◌, inl, inr, suc}
use Rattle.std.specs.Prelude.{if◌then◌else◌}
use Rattle.fort_core.specs.declared.program.Program.{Program}
use Rattle.fort_core.specs.declared.term.Term.{Term}
use Rattle.fort_core.specs.declared.value.Value.{Value}
use Rattle.fort_machine.specs.Effects.{Store}
use Rattle.fort_machine.specs.Parts.{IsOneOf}
use Rattle.fort_threads.specs.Threads.{Paths, new, going, Thread, thread, is_at, end_at, end_of}
use Rattle.fort_threads_law_servers.specs.Prelude.{Names}
use Rattle.fort_threads_law_servers.specs.Stages.{End}
use Rattle.fort_threads_law_servers.specs.Roots.{Start}
use Rattle.fort_threads_law_worlds.specs.Worlds.{given, World, IsGiven}
use Rattle.fort_threads_law_worlds.specs.Stores.{AreStores}
use Rattle.fort_threads_law_whole.proofs.Numbers.{moved_in}

module _ (object : Option ℕ) (v next : Term) (asked later : Paths) where
  -- threads have the same ends
  same_ends : (us ws : List Thread) (l : ℕ)
      → end_of (us ++ thread object (going next later) ∷ ws) l
      ≡ end_of (us ++ thread object (going v asked) ∷ ws) l
  same_ends [] ws l = refl
  same_ends (u ∷ us) ws l =
      ap (λ o. if is_at l u.object then end_at u.phase else o) (same_ends us ws l)

  same_length : (us ws : List Thread)
      → length (us ++ thread object (going next later) ∷ ws)
      ≡ length (us ++ thread object (going v asked) ∷ ws)
  same_length [] ws = refl
  same_length (u ∷ us) ws = ap (λ k. suc k) (same_length us ws)

  -- one of them stood before with this object, and so new
  old_one : (us ws : List Thread) (x : Thread)
      → IsOneOf x (us ++ thread object (going next later) ∷ ws)
      → IsOneOf x (us ++ thread object (going v asked) ∷ ws)
      ⊎ (x ≡ thread object (going next later))
  old_one [] ws x (inl e) = inr e
  old_one [] ws x (inr i) = inl (inr i)
  old_one (u ∷ us) ws x (inl e) = inl (inl e)
  old_one (u ∷ us) ws x (inr i) = go (old_one us ws x i)
    where
      go : IsOneOf x (us ++ thread object (going v asked) ∷ ws)
          ⊎ (x ≡ thread object (going next later))
          → IsOneOf x (u ∷ (us ++ thread object (going v asked) ∷ ws))
          ⊎ (x ≡ thread object (going next later))
      go (inl j) = inl (inr j)
      go (inr e) = inr e

  it_stood : (us ws : List Thread)
      → IsOneOf (thread object (going v asked)) (us ++ thread object (going v asked) ∷ ws)
  it_stood [] ws = inl refl
  it_stood (u ∷ us) ws = inr (it_stood us ws)

  going_on : {p : Program} {n : Names} {m : Start} {x : World} {s t : Store} (us ws : List Thread)
      → AreStores p n m x (us ++ thread object (going v asked) ∷ ws) s t
      → AreStores p n m x (us ++ thread object (going next later) ∷ ws) s t
  going_on {x = x} us ws h =
      record {
        agree = h.agree;
        private_store = h.private_store;
        nothing = h.nothing;
        there = h.there;
        parts = h.parts;
        are_objects = h.are_objects;
        function = h.function;
        marked = λ l f end e.
            ((h.marked l f end e).0, same_ends us ws l ∙ (h.marked l f end e).1);
        kept = h.kept;
        exceptions = h.exceptions;
        flying = h.flying;
        own = h.own;
        count = h.count;
        few = h.few;
        standing_count = same_length us ws ∙ h.standing_count;
        objects_given = λ u l i e. given_there u l (old_one us ws u i) e;
        bounded = h.bounded;
        new_threads = λ u l f i e q. new_there u l f (old_one us ws u i) e q;
        lasting = h.lasting;
        unended = h.unended;
        unended_few = h.unended_few;
        queued = h.queued;
        in_queue = h.in_queue;
        started = h.started;
      }
    where
      new_phase : (f : Value) → going next later ≡ new f → ⊥
      new_phase f e = cc

      given_there : (u : Thread) (l : ℕ)
          → IsOneOf u (us ++ thread object (going v asked) ∷ ws)
          ⊎ (u ≡ thread object (going next later))
          → u.object ≡ Some l → IsGiven x l
      given_there u l (inl j) e = h.objects_given u l j e
      given_there u l (inr q) e =
          h.objects_given (thread object (going v asked)) l (it_stood us ws)
          (ap (λ (z : Thread). z.object) (sym q) ∙ e)

      new_there : (u : Thread) (l : ℕ) (f : Value)
          → IsOneOf u (us ++ thread object (going v asked) ∷ ws)
          ⊎ (u ≡ thread object (going next later))
          → u.object ≡ Some l → u.phase ≡ new f
          → (end : Option End) × (x.object l ≡ Some (record { function = f; stage = given end }))
      new_there u l f (inl j) e q = h.new_threads u l f j e q
      new_there u l f (inr z) e q =
          absurd (new_phase f (ap (λ (y : Thread). y.phase) (sym z) ∙ q))

  pub stores_go_on : {p : Program} {n : Names} {m : Start} {x : World} {s t : Store}
      (before behind added : List Thread)
      → AreStores p n m x ((before ++ thread object (going v asked) ∷ behind) ++ added) s t
      → AreStores p n m x (before ++ thread object (going next later) ∷ (behind ++ added)) s t
  stores_go_on {p} {n} {m} {x} {s} {t} before behind added h =
      going_on before (behind ++ added)
      (subst (λ us. AreStores p n m x us s t)
      (sym (moved_in before behind added (thread object (going v asked)))) h)
