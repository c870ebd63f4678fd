-- Attempts of `take'`, of `open' -= 1`, and of `wait`.
use Rattle.std.proofs.Common.{◌≡◌, ℕ, ◌+◌, ◌==◌, ◌≤◌, Bool, true, false, nat_lt, suc, List, [], ◌∷◌, Option, Some, None, pos, arith, rules, refl, ap, sym, ◌∙◌, subst, inl, inr}
use Rattle.fort_base.specs.declared.ty.Ty.TheVariants.{Any, Named}
use Rattle.fort_core.specs.declared.form.Slot.{Slot}
use Rattle.fort_core.specs.declared.form.Slot.TheVariants as slot
use Rattle.fort_core.specs.declared.pick.Pick.{Pick}
use Rattle.fort_core.specs.declared.program.Program.{Program}
use Rattle.fort_core.specs.declared.term.Term.{Term, Call, Let, Write, ReadField, Then, If, Typecase}
use Rattle.fort_core.specs.declared.term.Term as term
use Rattle.fort_core.specs.declared.term.Term.TheVariants.{Variable, outs-Call, outs-Let, outs-Write, outs-ReadField, outs-Then, outs-If, outs-Typecase}
use Rattle.fort_core.specs.declared.term.Term.TheOpen.{Term-F, Value-F}
use Rattle.fort_core.specs.declared.value.Value.{Value, Small, Truth}
use Rattle.fort_core.specs.declared.value.Value.TheVariants.{outs-Truth}
use Rattle.fort_machine.specs.Acts.{becomes, calls, unit}
use Rattle.fort_machine.specs.Acts as acts
use Rattle.fort_machine.specs.Attempts.{Ended, goes, aborts}
use Rattle.fort_machine.specs.Effects.{Store, Effect, paid, reading, writing, completing, aborting, afterwards}
use Rattle.fort_machine.specs.Ends.{open_yet, standing, throw_of, Finished}
use Rattle.fort_machine.specs.Ends as ends
use Rattle.fort_machine.specs.Forms.{act_at, act, reading_at, choosing as chosen_by}
use Rattle.fort_machine.specs.Frames.{Frame, in_then, in_let, in_write, in_operand, in_test, plug}
use Rattle.fort_machine.specs.RunLaws.{all_of}
use Rattle.fort_machine.specs.Runs.{Runs, location}
use Rattle.fort_machine.specs.Steps.{Does}
use Rattle.fort_machine.specs.Substitution.{substituted}
use Rattle.fort_machine.specs.Types.{has_type}
use Rattle.fort_machine.proofs.Places.{plug_open, ready_open}
use Rattle.fort_machine.proofs.Standing.{value_not_throw}
use Rattle.fort_threads_law_servers.specs.Prelude.{Names, object_of, number, taking_else, taking_from, taking, fewer, waiting, HasPrelude}
use Rattle.fort_threads_law_servers.specs.Queue.{takes_thread}
use Rattle.fort_threads_law_servers.specs.Stages.{Attempted}
use Rattle.fort_threads_law_servers.proofs.Put.{put_1}
use Rattle.fort_threads_law_servers.proofs.Server.{after_value, calls_none, then_value, let_value, typecase_value, clause_is, clause_none}
use Rattle.fort_threads_law_servers.proofs.Taking.{pops, put_pops, put_from, put_else}
use Rattle.fort_threads_law_servers.proofs.Turns.{AllSerial, pick_sole, ready_call, stepped_at, called_with}
use Rattle.fort_threads_law_worlds.specs.Known.{Counts}
use Rattle.fort_threads_law_calls.proofs.Picking.{Picked, went, ended, picked}
use Rattle.fort_threads_law_calls.proofs.Chains.{same_goes, Becomes, Chain, Stop, comes_to, stops, tried, turns_as, turns_writing, turns_reading, turns_top, turns_answering}
use Rattle.fort_threads_law_calls.proofs.Waiting.{Waited, waited, waits_on, has_waited}
use Rattle.fort_threads_law_calls.proofs.Adding.{read_keeps}
use Rattle.fort_threads_law_queue.specs.Attempts.{IsSilent, SetsOne, TakeEnds, took, found_none, slept, EachTakeEnds, EachCountGoesDown, EachWaitEnds}
use Rattle.fort_threads_law_queue.proofs.Cells.{taken_sets, none_effects, none_silent, aborted_silent, first_read_there, counted_sets, waited_silent}

abbrev at : ℕ → Slot
at l = slot.Location (location l)

module _ (p : Program) (n : Names) (has : HasPrelude p n) where
  abbrev aborting_call : Term
  aborting_call = Call n.abort []

  -- `abort()` ends its machine, under whatever frames
  abort_stops : (fs : List Frame) → AllSerial fs → (s : Store) → Stop p s (plug fs aborting_call)
  abort_stops fs h s pick r d k = go (picked k)
    where
      q : act p aborting_call ≡ calls n.abort []
      q = calls_none p n.abort

      never : (u : Term) → Runs p true true s (pick ∷ []) (plug fs aborting_call) (goes u) d → ⊥
      never u run =
          let i = pick_sole fs aborting_call h (ready_call p aborting_call n.abort [] q) run in
          let j = stepped_at (Term-F.Call n.abort []) (outs-Call _ _) refl i.2 in
          let c = called_with p true j.0 aborting_call i.0 d n.abort [] q j.1 in
          let w : Does p true j.0 acts.ends i.0 d =
          subst (λ x. Does p true j.0 x i.0 d)
          (has.aborts c.declaration c.declared c.dispatches) c.does in
          let z : true ≡ false = w.1 in absurd cc

      go : Picked p s pick (plug fs aborting_call) r d → (r ≡ aborts) × (d ≡ paid 1)
      go (went u e run) =
          absurd (never u
          (subst (λ x. Runs p true true s (pick ∷ []) (plug fs aborting_call) x d) e k))
      go (ended gs a e m x c w) = (c, w)

  abbrev chosen : Term → Term
  chosen a = If a aborting_call (term.Value unit)

  if_is : (b : Bool)
      → act p (chosen (term.Value (Truth b)))
      ≡ chosen_by (Value-F.Truth b) aborting_call (term.Value unit)
  if_is b =
      ap (act_at p) (outs-If (term.Value (Truth b)) aborting_call (term.Value unit))
      ∙ after_value (Truth b) _
      ∙ ap (λ x. chosen_by x aborting_call (term.Value unit)) (outs-Truth b)

  -- the block whose rest is what stood in the queue
  abbrev block : Value → Term
  block v = Then (taking_from n (term.Value v)) (term.Value v)

  abbrev rest : Term
  rest = Then (taking_from n (Variable 0)) (Variable 0)

  -- the queue is read
  reads_queue : {s : Store} {r : Ended} {others : List Effect} (v : Value) → s n.queue ≡ Some v
      → Chain p (afterwards (reading n.queue v) s) (block v) r others
      → Chain p s (taking n) r (reading n.queue v ∷ paid 1 ∷ others)
  reads_queue v e c =
      turns_top (in_let ((0, Any) ∷ []) rest ∷ []) (tt, tt) n.queue v e
      (turns_as [] tt (Let ((0, Any) ∷ []) (term.Value v) rest)
      (Term-F.Let ((0, Any) ∷ []) (term.Value v) rest) (outs-Let _ _ _) refl (block v)
      (let_value p 0 Any v rest ∙ ap becomes (put_from n v)) c)

  -- a thread is taken
  takes_it : (s : Store) (l : ℕ) (w : Value) → s n.queue ≡ Some (object_of n l)
      → s (l + 3) ≡ Some w → has_type p (object_of n l) (Named n.thread) ≡ true
      → Chain p s (taking n) (goes (term.Value (object_of n l))) (takes_thread n l w)
  takes_it s l w e there h =
      let o = object_of n l in
      reads_queue o e
      (turns_as (in_then (term.Value o) ∷ []) (tt, tt) (taking_from n (term.Value o))
      (Term-F.Typecase 1 (term.Value o) ((pops n (Variable 1), Named n.thread) ∷ [])
      (taking_else n)) (outs-Typecase _ _ _ _) refl (pops n (term.Value o))
      (typecase_value p o 1 (pops n (Variable 1)) (Named n.thread) (taking_else n)
      ∙ ap becomes
      (clause_is p o (pops n (Variable 1)) (Named n.thread) _ (substituted 1 o) h
      ∙ put_pops n 1 o (Variable 1) (term.Value o) (put_1 o)))
      (turns_reading (in_then (term.Value o) ∷ in_write (at n.queue) ∷ []) (tt, (tt, tt))
      (ReadField (term.Value o) n.next) (Term-F.ReadField (term.Value o) n.next)
      (outs-ReadField _ _) refl (l + 3) w
      (ap (act_at p) (outs-ReadField (term.Value o) n.next) ∙ after_value o _
      ∙ ap reading_at (has.has_next l)) (read_keeps n.queue (l + 3) o s ∙ there)
      (turns_writing (in_then (term.Value o) ∷ []) (tt, tt) (Write (at n.queue) (term.Value w))
      (Term-F.Write (at n.queue) (term.Value w)) (outs-Write _ _) refl n.queue w
      (ap (act_at p) (outs-Write (at n.queue) (term.Value w)) ∙ after_value w _)
      (turns_as [] tt (Then (term.Value unit) (term.Value o))
      (Term-F.Then (term.Value unit) (term.Value o)) (outs-Then _ _) refl (term.Value o)
      (then_value p unit (term.Value o)) (comes_to (ends.Finished.value o refl) refl refl)))))

  -- how it ends where none is there, by whether some thread has not ended
  abbrev end_by : Value → Bool → Ended
  end_by v true = aborts
  end_by v false = goes (term.Value v)

  told : (s : Store) (v : Value) (b : Bool)
      → Chain p s (Then (chosen (term.Value (Truth b))) (term.Value v)) (end_by v b)
      (paid 1 ∷ paid 1 ∷ [])
  told s v true =
      turns_as (in_then (term.Value v) ∷ []) (tt, tt) (chosen (term.Value (Truth true)))
      (Term-F.If (term.Value (Truth true)) aborting_call (term.Value unit)) (outs-If _ _ _) refl
      aborting_call (if_is true)
      (stops (plug_open (in_then (term.Value v) ∷ []) aborting_call
      (ready_open aborting_call (ready_call p aborting_call n.abort [] (calls_none p n.abort))))
      (abort_stops (in_then (term.Value v) ∷ []) (tt, tt) _) refl refl)
  told s v false =
      turns_as (in_then (term.Value v) ∷ []) (tt, tt) (chosen (term.Value (Truth false)))
      (Term-F.If (term.Value (Truth false)) aborting_call (term.Value unit)) (outs-If _ _ _) refl
      (term.Value unit) (if_is false)
      (turns_as [] tt (Then (term.Value unit) (term.Value v))
      (Term-F.Then (term.Value unit) (term.Value v)) (outs-Then _ _) refl (term.Value v)
      (then_value p unit (term.Value v)) (comes_to (ends.Finished.value v refl) refl refl))

  module _ (counts : Counts p n) where
    finds_none : (s : Store) (v : Value) (k : ℕ) → s n.queue ≡ Some v
        → s n.unended ≡ Some (Small (pos k)) → k ≤ 65 → has_type p v (Named n.thread) ≡ false
        → Chain p s (taking n) (end_by v (nat_lt 0 k))
        (none_effects n.queue n.unended v (Small (pos k)) (paid 1 ∷ []))
    finds_none s v k e there few h =
        reads_queue v e
        (turns_as (in_then (term.Value v) ∷ []) (tt, tt) (taking_from n (term.Value v))
        (Term-F.Typecase 1 (term.Value v) ((pops n (Variable 1), Named n.thread) ∷ [])
        (taking_else n)) (outs-Typecase _ _ _ _) refl (taking_else n)
        (typecase_value p v 1 (pops n (Variable 1)) (Named n.thread) (taking_else n)
        ∙ ap becomes
        (clause_none p v (pops n (Variable 1)) (Named n.thread) _ (substituted 1 v) h
        ∙ put_else n 1 v))
        (turns_top (in_then (term.Value v) ∷ in_test aborting_call (term.Value unit)
        ∷ in_operand n.greater [] (number 0 ∷ []) ∷ []) (tt, (tt, (tt, tt))) n.unended
        (Small (pos k)) (read_keeps n.queue n.unended v s ∙ there)
        (turns_answering (in_then (term.Value v) ∷ in_test aborting_call (term.Value unit) ∷ [])
        (tt, (tt, tt)) n.greater (Small (pos k)) (Small (pos 0))
        (term.Value (Truth (nat_lt 0 k))) (counts.greater k few) (told _ v (nat_lt 0 k)))))

    take_ends : (s : Store) (v : Value) (k : ℕ) (next : Term) (d : Effect) → s n.queue ≡ Some v
        → s n.unended ≡ Some (Small (pos k)) → k ≤ 65
        → ((l : ℕ) → v ≡ object_of n l → (w : Value) × (s (l + 3) ≡ Some w))
        → Attempted p s (taking n) next d → TakeEnds p n s v k next d
    take_ends s v k next d e there few behind a = by_type (has_type p v (Named n.thread)) refl
      where
        taken : (l : ℕ) (w : Value) → v ≡ object_of n l → s (l + 3) ≡ Some w
            → has_type p v (Named n.thread) ≡ true
            → Becomes (goes (term.Value (object_of n l))) (taking n) (takes_thread n l w) next d
            → TakeEnds p n s v k next d
        taken l w q f h (inl i) =
            took l w q f (i.2 ∙ sym (same_goes _ _ i.1) ∙ ap term.Value (sym q)) h
            (subst (λ x. SetsOne x s n.queue w) (sym i.3)
            (taken_sets s n.queue (l + 3) (object_of n l) w))
        taken l w q f h (inr (inl i)) =
            absurd (value_not_throw (object_of n l) i.0 (same_goes _ _ i.1))
        taken l w q f h (inr (inr i)) =
            let y : goes (term.Value (object_of n l)) ≡ aborts = i.1 in absurd cc

        none : (b : Bool) → nat_lt 0 k ≡ b → has_type p v (Named n.thread) ≡ false
            → Becomes (end_by v b) (taking n)
            (none_effects n.queue n.unended v (Small (pos k)) (paid 1 ∷ [])) next d
            → TakeEnds p n s v k next d
        none true z h (inl i) = let y : aborts ≡ goes (term.Value i.0) = i.1 in absurd cc
        none true z h (inr (inl i)) = let y : aborts ≡ goes (throw_of i.0) = i.1 in absurd cc
        none true z h (inr (inr i)) =
            let f = first_read_there n.queue n.unended v (Small (pos k)) in
            slept i.0 i.2 (i.4.are_all n.queue v f.0 f.1) h
            (subst (λ x. IsSilent x s) (sym i.3)
            (aborted_silent s n.queue n.unended v (Small (pos k))))
        none false z h (inl i) =
            found_none h (zero_is k z) (i.2 ∙ sym (same_goes _ _ i.1))
            (subst (λ x. IsSilent x s) (sym i.3)
            (none_silent s n.queue n.unended v (Small (pos k))))
          where
            zero_is : (j : ℕ) → nat_lt 0 j ≡ false → j ≡ 0
            zero_is j y = search (rules, y)
        none false z h (inr (inl i)) = absurd (value_not_throw v i.0 (same_goes _ _ i.1))
        none false z h (inr (inr i)) =
            let y : goes (term.Value v) ≡ aborts = i.1 in absurd cc

        by_type : (b : Bool) → has_type p v (Named n.thread) ≡ b → TakeEnds p n s v k next d
        by_type true h =
            let o = has.are_threads v h in
            let w = behind o.0 o.1 in
            taken o.0 w.0 o.1 w.1 h
            (tried (takes_it s o.0 w.0 (e ∙ ap Some o.1) w.1
            (ap (λ x. has_type p x (Named n.thread)) (sym o.1) ∙ h)) a)
        by_type false h = none (nat_lt 0 k) refl h (tried (finds_none s v k e there few h) a)

    counts_down : (s : Store) (k : ℕ) → s n.unended ≡ Some (Small (pos (suc k))) → k ≤ 64
        → Chain p s (fewer n) (goes (term.Value unit))
        (reading n.unended (Small (pos (suc k))) ∷ paid 1 ∷ writing n.unended (Small (pos k)) ∷ [])
    counts_down s k e few =
        turns_top (in_write (at n.unended) ∷ in_operand n.minus [] (number 1 ∷ []) ∷ [])
        (tt, (tt, tt)) n.unended (Small (pos (suc k))) e
        (turns_answering (in_write (at n.unended) ∷ []) (tt, tt) n.minus (Small (pos (suc k)))
        (Small (pos 1)) (term.Value (Small (pos k))) (counts.takes_one k few)
        (turns_writing [] tt (Write (at n.unended) (term.Value (Small (pos k))))
        (Term-F.Write (at n.unended) (term.Value (Small (pos k)))) (outs-Write _ _) refl n.unended
        (Small (pos k))
        (ap (act_at p) (outs-Write (at n.unended) (term.Value (Small (pos k))))
        ∙ after_value (Small (pos k)) _)
        (comes_to (ends.Finished.value unit refl) refl refl)))

    goes_down : (s : Store) (k : ℕ) (next : Term) (d : Effect)
        → s n.unended ≡ Some (Small (pos (suc k))) → k ≤ 64 → Attempted p s (fewer n) next d
        → (next ≡ term.Value unit) × SetsOne d s n.unended (Small (pos k))
    goes_down s k next d e few a = go (tried (counts_down s k e few) a)
      where
        go : Becomes (goes (term.Value unit)) (fewer n)
            (reading n.unended (Small (pos (suc k))) ∷ paid 1 ∷ writing n.unended (Small (pos k)) ∷ [])
            next d → (next ≡ term.Value unit) × SetsOne d s n.unended (Small (pos k))
        go (inl i) = (
          i.2 ∙ sym (same_goes _ _ i.1),
          subst (λ x. SetsOne x s n.unended (Small (pos k)))
              (sym i.3) (counted_sets s n.unended (Small (pos (suc k))) (Small (pos k))),
        )
        go (inr (inl i)) = absurd (value_not_throw unit i.0 (same_goes _ _ i.1))
        go (inr (inr i)) = let y : goes (term.Value unit) ≡ aborts = i.1 in absurd cc

pub each_take_ends : EachTakeEnds
each_take_ends p n has counts s v k next d e there few behind a =
    take_ends p n has counts s v k next d e there few behind a

pub each_count_goes_down : EachCountGoesDown
each_count_goes_down p n has counts s k next d e few a = goes_down p n has counts s k next d e few a

pub each_wait_ends : EachWaitEnds
each_wait_ends p n has s l k next d e few a = go (waited p n has s l (suc k) next d few e a)
  where
    go : Waited p n has l (suc k) next d
        → (next ≡ term.Value unit) × IsSilent d s
    go (waits_on marks z b c r) = let y : suc k ≡ 0 = search (rules, z) in absurd (omega (arith, y))
    go (has_waited z b c) =
        (b, subst (λ x. IsSilent x s) (sym c) (waited_silent s (l + 1) (Small (pos (suc k)))))
