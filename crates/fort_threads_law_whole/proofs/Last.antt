-- The last call of `val`: of the first object, whose thread has ended.
use Rattle.std.proofs.Common.{◌≡◌, ℕ, ◌+◌, ◌==◌, ◌≤◌, Bool, true, false, suc, List, [], ◌∷◌, Some, pos, arith, refl, ap, sym, ◌∙◌, subst, inl, inr, ◌⊎◌}
use Rattle.fort_core.specs.declared.pick.Pick.{Pick}
use Rattle.fort_core.specs.declared.program.Program.{Program}
use Rattle.fort_core.specs.declared.term.Term.{Term, Call}
use Rattle.fort_core.specs.declared.term.Term as term
use Rattle.fort_core.specs.declared.term.Term.TheOpen.{Term-F, Value-F}
use Rattle.fort_core.specs.declared.term.Term.TheVariants.{outs-Call, outs-Then, outs-If, outs-Typecase, outs-ReadField}
use Rattle.fort_core.specs.declared.value.Value.{Value, Small, out-Value}
use Rattle.fort_core.specs.declared.value.Value.TheVariants.{outs-Small}
use Rattle.fort_machine.specs.Acts.{unit}
use Rattle.fort_machine.specs.Attempts.{goes}
use Rattle.fort_machine.specs.Cells.{untouched, found, left_at}
use Rattle.fort_machine.specs.Effects.{Store, Effect, paid, reading, FitsAll, afterwards}
use Rattle.fort_machine.specs.Ends.{open_yet, standing_at, standing, throw_of, Finished}
use Rattle.fort_machine.specs.Runs.{Runs}
use Rattle.fort_machine.proofs.Single.{reads_what_is_there}
use Rattle.fort_machine.proofs.Standing.{not_finished, value_not_throw}
use Rattle.fort_threads_law_servers.specs.Calls.{Place, makes_it, has_it, adds, has_added, was_refused, waits, calls_wait, waits_in, has_waited, has_failed, reads_mark, compares, is_told, reads_thrown, has_thrown, reads_kept, asks_mark, compares_mark, has_come, place_term, IsPlace, HasMark, Asks, Turns, given, getting}
use Rattle.fort_threads_law_servers.specs.Prelude.{Names, object_of, LeadsTo, HasPrelude}
use Rattle.fort_threads_law_servers.specs.Stages.{End, at_value, at_throw, end_term, kept_value, mark_of}
use Rattle.fort_threads_law_servers.proofs.Calling.{each_call_follows}
use Rattle.fort_threads_law_servers.proofs.Server.{calls_one}
use Rattle.fort_threads_law_servers.proofs.Turns.{calls_to}
use Rattle.fort_threads_law_queue.specs.Attempts.{IsSilent}
use Rattle.fort_threads_law_queue.proofs.Taken.{each_wait_ends}
use Rattle.fort_threads_law_calls.proofs.Adding.{read_keeps}
use Rattle.fort_threads_law_whole.specs.Servers.{HasEnd, IsEnd}

-- where `val` stands, of the object at a location, whose thread has come to this end
abbrev pub IsGetting : ℕ → End → Place → Type 0
IsGetting l end (calls_wait k) = k ≡ l
IsGetting l end (waits_in k form) = k ≡ l
IsGetting l end (has_waited k v) = k ≡ l
IsGetting l end (reads_mark k) = k ≡ l
IsGetting l end (compares k mark) = (k ≡ l) × (mark ≡ mark_of end)
IsGetting l end (is_told k b) = (k ≡ l) × (b ≡ (mark_of end == 2))
IsGetting l end (reads_thrown k) = (k ≡ l) × ((v : Value) × (end ≡ at_throw v))
IsGetting l end (has_thrown v) = end ≡ at_throw v
IsGetting l end (reads_kept k) = (k ≡ l) × ((v : Value) × (end ≡ at_value v))
IsGetting l end (has_come t) = t ≡ end_term end
IsGetting l end _ = ⊥

pub data Gets (n : Names) (l : ℕ) (end : End) (u : Term) : Type 0 where
  is_called : u ≡ Call n.val (term.Value (object_of n l) ∷ []) → Gets n l end u
  at_place : (place : Place) → IsPlace n place → IsGetting l end place → u ≡ place_term n place
      → Gets n l end u

paid_silent : (s : Store) (d : Effect) (c : ℕ) → d ≡ paid c → IsSilent d s
paid_silent s d c e =
    record {
      prints_nothing = ap (λ x. x.output) e;
      leaves_all = λ k. ap (λ x. afterwards x s k) e;
    }

reading_silent : (s : Store) (d : Effect) (l : ℕ) (v : Value) → d ≡ reading l v → IsSilent d s
reading_silent s d l v e =
    record {
      prints_nothing = ap (λ x. x.output) e;
      leaves_all = λ k. ap (λ x. afterwards x s k) e ∙ read_keeps l k v s;
    }

some_same : (x y : Value) → Some x ≡ Some y → x ≡ y
some_same x y e = cc

same_small : (i j : ℕ) → Small (pos i) ≡ Small (pos j) → i ≡ j
same_small i j e =
    let r : Value-F.Small (pos i) ≡ Value-F.Small (pos j) =
    sym (outs-Small (pos i)) ∙ ap out-Value e ∙ outs-Small (pos j) in cc

mark_few : (end : End) → mark_of end ≤ 64
mark_few (at_value v) = omega arith
mark_few (at_throw v) = omega arith

module _ (p : Program) (n : Names) (has : HasPrelude p n) (s : Store) (l : ℕ) (end : End)
    (holds : HasEnd p n s l end) where
  -- an attempt of `wait`
  waits_through : (k : ℕ) (next : Term) (d : Effect) → k ≡ l
      → Rattle.fort_threads_law_servers.specs.Stages.Attempted p s
      (Rattle.fort_threads_law_servers.specs.Prelude.waiting n k) next d
      → (next ≡ term.Value unit) × IsSilent d s
  waits_through k next d e a = by_end end refl
    where
      by_end : (x : End) → end ≡ x → (next ≡ term.Value unit) × IsSilent d s
      by_end (at_value v) q =
          each_wait_ends p n has s k 0 next d
          (ap (λ i. s (i + 1)) e ∙ holds.0 ∙ ap (λ x. Some (Small (pos (mark_of x)))) q)
          (omega arith) a
      by_end (at_throw v) q =
          each_wait_ends p n has s k 1 next d
          (ap (λ i. s (i + 1)) e ∙ holds.0 ∙ ap (λ x. Some (Small (pos (mark_of x)))) q)
          (omega arith) a

  -- what is read is what is there
  read_is : (k : ℕ) (x y : Value) (d : Effect) → d ≡ reading k x → FitsAll d s → s k ≡ Some y
      → x ≡ y
  read_is k x y d e f h =
      some_same x y (sym (reads_what_is_there k x s (subst (λ z. FitsAll z s) e f)) ∙ h)

  told_throw : (x : End) → end ≡ x → true ≡ (mark_of x == 2) → (v : Value) × (end ≡ at_throw v)
  told_throw (at_value v) q e = let z : true ≡ false = e in absurd cc
  told_throw (at_throw v) q e = (v, q)

  told_value : (x : End) → end ≡ x → false ≡ (mark_of x == 2) → (v : Value) × (end ≡ at_value v)
  told_value (at_value v) q e = (v, q)
  told_value (at_throw v) q e = let z : false ≡ true = e in absurd cc

  -- from place to place
  getting_goes : (pick : Pick) (place next : Place) (d : Effect) → IsPlace n place
      → FitsAll d s → IsGetting l end place → Turns p n s pick d place next
      → IsSilent d s × IsGetting l end next
  getting_goes pick (calls_wait k) (waits_in i form) d h f e q =
      (paid_silent s d 1 q.2, q.0 ∙ e)
  getting_goes pick (calls_wait k) _ d h f e q = absurd q
  getting_goes pick (waits_in k form) (waits_in i next) d h f e q =
      ((waits_through k next d e q.1).1, q.0 ∙ e)
  getting_goes pick (waits_in k form) (has_waited i v) d h f e q =
      ((waits_through k (term.Value v) d e q.1).1, q.0 ∙ e)
  getting_goes pick (waits_in k form) (has_failed i v) d h f e q =
      absurd (value_not_throw unit v (sym (waits_through k (throw_of v) d e q.1).0))
  getting_goes pick (waits_in k form) _ d h f e q = absurd q
  getting_goes pick (has_waited k v) (reads_mark i) d h f e q = (paid_silent s d 1 q.1, q.0 ∙ e)
  getting_goes pick (has_waited k v) _ d h f e q = absurd q
  getting_goes pick (reads_mark k) (compares i j) d h f e q =
      let z = read_is (k + 1) (Small (pos j)) (Small (pos (mark_of end))) d q.1 f
      (ap (λ x. s (x + 1)) e ∙ holds.0) in
      (reading_silent s d (k + 1) (Small (pos j)) q.1, (q.0 ∙ e, same_small j (mark_of end) z))
  getting_goes pick (reads_mark k) _ d h f e q = absurd q
  getting_goes pick (compares k j) (is_told i b) d h f e q =
      (paid_silent s d 1 q.2, (q.0 ∙ e.0, q.1 ∙ ap (λ x. x == 2) e.1))
  getting_goes pick (compares k j) _ d h f e q = absurd q
  getting_goes pick (is_told k true) (reads_thrown i) d h f e q =
      (paid_silent s d 1 q.1, (q.0 ∙ e.0, told_throw end refl e.1))
  getting_goes pick (is_told k false) (reads_kept i) d h f e q =
      (paid_silent s d 1 q.1, (q.0 ∙ e.0, told_value end refl e.1))
  getting_goes pick (is_told k true) _ d h f e q = absurd q
  getting_goes pick (is_told k false) _ d h f e q = absurd q
  getting_goes pick (reads_thrown k) (has_thrown v) d h f e q =
      let z = read_is (k + 2) v (kept_value end) d q f (ap (λ x. s (x + 2)) e.0 ∙ holds.1) in (
        reading_silent s d (k + 2) v q,
        e.1.1 ∙ ap at_throw (sym (z ∙ ap kept_value e.1.1)),
      )
  getting_goes pick (reads_thrown k) _ d h f e q = absurd q
  getting_goes pick (has_thrown v) (has_come t) d h f e q =
      let z : IsEnd p n (at_throw v) = subst (IsEnd p n) e holds.2 in (
        paid_silent s d 1 q.1,
        q.0 ∙ ap (λ b. given b v) z ∙ sym (ap end_term e),
      )
  getting_goes pick (has_thrown v) _ d h f e q = absurd q
  getting_goes pick (reads_kept k) (has_come t) d h f e q =
      let z = read_is (k + 2) q.0 (kept_value end) d q.2 f
      (ap (λ x. s (x + 2)) e.0 ∙ holds.1) in (
        reading_silent s d (k + 2) q.0 q.2,
        q.1 ∙ ap term.Value (z ∙ ap kept_value e.1.1) ∙ sym (ap end_term e.1.1),
      )
  getting_goes pick (reads_kept k) _ d h f e q = absurd q
  getting_goes pick (has_come t) _ d h f e q = absurd q
  getting_goes pick (makes_it x) _ d h f e q = absurd e
  getting_goes pick (has_it x) _ d h f e q = absurd e
  getting_goes pick (adds x y) _ d h f e q = absurd e
  getting_goes pick (has_added x y) _ d h f e q = absurd e
  getting_goes pick (was_refused x y) _ d h f e q = absurd e
  getting_goes pick (waits x y) _ d h f e q = absurd e
  getting_goes pick (has_failed x y) _ d h f e q = absurd e
  getting_goes pick (asks_mark x) _ d h f e q = absurd e
  getting_goes pick (compares_mark x) _ d h f e q = absurd e

  asks_of : (place : Place) → IsGetting l end place → Asks s place
  asks_of (reads_mark k) e =
      (mark_of end, mark_few end, ap (λ x. s (x + 1)) e ∙ holds.0)
  asks_of (asks_mark k) e = absurd e
  asks_of _ e = tt

  -- a pick of this call does nothing, and goes on so
  pub last_goes : LeadsTo p n.val (object_of n l ∷ [])
      (getting n l (Call n.wait (term.Value (object_of n l) ∷ [])))
      → (pick : Pick) (u v : Term) (d : Effect) → FitsAll d s → Gets n l end u
      → Runs p false false s (pick ∷ []) u (goes v) d → IsSilent d s × Gets n l end v
  last_goes leads pick u v d f (is_called e) k =
      let c : Term = Call n.val (term.Value (object_of n l) ∷ []) in
      let i = calls_to [] c (Term-F.Call n.val (term.Value (object_of n l) ∷ [])) tt (outs-Call _ _)
      refl n.val (object_of n l ∷ [])
      (getting n l (Call n.wait (term.Value (object_of n l) ∷ [])))
      (calls_one p n.val (object_of n l)) leads
      (subst (λ x. Runs p false false s (pick ∷ []) x (goes v) d) e k) in
      (paid_silent s d 1 i.1, at_place (calls_wait l) tt refl i.0)
  last_goes leads pick u v d f (at_place place h g e) k =
      let i = each_call_follows p n has s pick place v d h (asks_of place g)
      (subst (λ x. Runs p false false s (pick ∷ []) x (goes v) d) e k) in
      let j = getting_goes pick place i.0 d h f g i.3 in
      (j.0, at_place i.0 i.1 j.1 i.2)

-- where it has come to its end, that is the thread's
place_open : (n : Names) (l : ℕ) (end : End) (place : Place) → IsGetting l end place
    → ((t : Term) → place ≡ has_come t → ⊥) → standing (place_term n place) ≡ open_yet
place_open n l end (calls_wait k) e other = ap standing_at (outs-Then _ _)
place_open n l end (waits_in k form) e other = ap standing_at (outs-Then _ _)
place_open n l end (has_waited k v) e other = ap standing_at (outs-Then _ _)
place_open n l end (reads_mark k) e other = ap standing_at (outs-If _ _ _)
place_open n l end (compares k j) e other = ap standing_at (outs-If _ _ _)
place_open n l end (is_told k b) e other = ap standing_at (outs-If _ _ _)
place_open n l end (reads_thrown k) e other = ap standing_at (outs-Typecase _ _ _ _)
place_open n l end (has_thrown v) e other = ap standing_at (outs-Typecase _ _ _ _)
place_open n l end (reads_kept k) e other = ap standing_at (outs-ReadField _ _)
place_open n l end (has_come t) e other = absurd (other t refl)
place_open n l end _ e other = absurd e

come_is : (n : Names) (l : ℕ) (end : End) (place : Place) → IsGetting l end place
    → Finished (place_term n place) → place_term n place ≡ end_term end
come_is n l end (has_come t) e f = e
come_is n l end (calls_wait k) e f =
    absurd (not_finished _ (place_open n l end (calls_wait k) e (λ t q. cc)) f)
come_is n l end (waits_in k form) e f =
    absurd (not_finished _ (place_open n l end (waits_in k form) e (λ t q. cc)) f)
come_is n l end (has_waited k v) e f =
    absurd (not_finished _ (place_open n l end (has_waited k v) e (λ t q. cc)) f)
come_is n l end (reads_mark k) e f =
    absurd (not_finished _ (place_open n l end (reads_mark k) e (λ t q. cc)) f)
come_is n l end (compares k j) e f =
    absurd (not_finished _ (place_open n l end (compares k j) e (λ t q. cc)) f)
come_is n l end (is_told k b) e f =
    absurd (not_finished _ (place_open n l end (is_told k b) e (λ t q. cc)) f)
come_is n l end (reads_thrown k) e f =
    absurd (not_finished _ (place_open n l end (reads_thrown k) e (λ t q. cc)) f)
come_is n l end (has_thrown v) e f =
    absurd (not_finished _ (place_open n l end (has_thrown v) e (λ t q. cc)) f)
come_is n l end (reads_kept k) e f =
    absurd (not_finished _ (place_open n l end (reads_kept k) e (λ t q. cc)) f)
come_is n l end _ e f = absurd e

pub last_is : (n : Names) (l : ℕ) (end : End) (u : Term) → Gets n l end u → Finished u
    → u ≡ end_term end
last_is n l end u (is_called e) f =
    absurd (not_finished u (ap standing e ∙ ap standing_at (outs-Call _ _)) f)
last_is n l end u (at_place place h g e) f =
    e ∙ come_is n l end place g (subst Finished e f)
