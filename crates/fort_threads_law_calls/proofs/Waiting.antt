-- An attempt of `wait`, by the mark of its thread.
use Rattle.std.proofs.Common.{◌≡◌, ℕ, ◌+◌, ◌==◌, ◌≤◌, Bool, true, false, List, [], ◌∷◌, Some, pos, arith, refl, ap, sym, ◌∙◌, subst, inl, inr}
use Rattle.fort_core.specs.declared.pick.Pick.{Pick}
use Rattle.fort_core.specs.declared.program.Program.{Program}
use Rattle.fort_core.specs.declared.term.Term.{Term, Call, ReadField, If, Asleep}
use Rattle.fort_core.specs.declared.term.Term as term
use Rattle.fort_core.specs.declared.term.Term.TheVariants.{outs-Call, outs-ReadField, outs-If}
use Rattle.fort_core.specs.declared.term.Term.TheOpen.{Term-F, Value-F}
use Rattle.fort_core.specs.declared.value.Value.{Value, Small, Truth}
use Rattle.fort_core.specs.declared.value.Value.TheVariants.{outs-Truth}
use Rattle.fort_machine.specs.Acts.{calls, unit}
use Rattle.fort_machine.specs.Acts as acts
use Rattle.fort_machine.specs.Attempts.{AreRead, Ended, goes, aborts}
use Rattle.fort_machine.specs.Effects.{Store, Effect, paid, reading, completing, aborting}
use Rattle.fort_machine.specs.Ends.{standing_at, throw_of, Finished}
use Rattle.fort_machine.specs.Ends as ends
use Rattle.fort_machine.specs.Forms.{act_at, act, reading_at, choosing as chosen_by}
use Rattle.fort_machine.specs.Frames.{in_operand, in_test}
use Rattle.fort_machine.specs.Marked.{Marks}
use Rattle.fort_machine.specs.RunLaws.{all_of}
use Rattle.fort_machine.specs.Runs.{Runs}
use Rattle.fort_machine.specs.Steps.{Does}
use Rattle.fort_machine.proofs.Standing.{value_not_throw}
use Rattle.fort_threads_law_servers.specs.Prelude.{Names, object_of, number, waiting, HasPrelude}
use Rattle.fort_threads_law_servers.specs.Stages.{Attempted}
use Rattle.fort_threads_law_servers.proofs.Turns.{pick_sole, ready_call, stepped_at, called_with}
use Rattle.fort_threads_law_servers.proofs.Server.{after_value, calls_none}
use Rattle.fort_threads_law_calls.proofs.Picking.{Picked, went, ended, picked}
use Rattle.fort_threads_law_calls.proofs.Chains.{same_goes, Becomes, Chain, comes_to, stops, tried, turns_as, turns_reading, turns_answering}

module _ (p : Program) (n : Names) (has : HasPrelude p n) where
  abbrev aborting_call : Term
  aborting_call = Call n.abort []

  -- `abort()` ends its machine
  abort_stops : (s : Store) (pick : Pick) (r : Ended) (d : Effect)
      → Runs p true true s (pick ∷ []) aborting_call r d → (r ≡ aborts) × (d ≡ paid 1)
  abort_stops s pick r d k = go (picked k)
    where
      q : act p aborting_call ≡ calls n.abort []
      q = calls_none p n.abort

      never : (u : Term) → Runs p true true s (pick ∷ []) aborting_call (goes u) d → ⊥
      never u k =
          let i = pick_sole [] aborting_call tt (ready_call p aborting_call n.abort [] q) k in
          let j = stepped_at (Term-F.Call n.abort []) (outs-Call _ _) refl i.2 in
          let c = called_with p true j.0 aborting_call i.0 d n.abort [] q j.1 in
          let w : Does p true j.0 acts.ends i.0 d =
          subst (λ x. Does p true j.0 x i.0 d)
          (has.aborts c.declaration c.declared c.dispatches) c.does in
          let z : true ≡ false = w.1 in absurd cc

      go : Picked p s pick aborting_call r d → (r ≡ aborts) × (d ≡ paid 1)
      go (went u e w) =
          absurd (never u (subst (λ x. Runs p true true s (pick ∷ []) aborting_call x d) e k))
      go (ended fs a e m x c w) = (c, w)

  abbrev chosen : Term → Term
  chosen a = If a aborting_call (term.Value unit)

  -- how it ends
  abbrev end_by : Bool → Ended
  end_by true = aborts
  end_by false = goes (term.Value unit)

  abbrev last_by : Bool → List Effect
  last_by true = paid 1 ∷ []
  last_by false = []

  if_is : (b : Bool)
      → act p (chosen (term.Value (Truth b)))
      ≡ chosen_by (Value-F.Truth b) aborting_call (term.Value unit)
  if_is b =
      ap (act_at p) (outs-If (term.Value (Truth b)) aborting_call (term.Value unit))
      ∙ after_value (Truth b) _
      ∙ ap (λ x. chosen_by x aborting_call (term.Value unit)) (outs-Truth b)

  told : (s : Store) (b : Bool)
      → Chain p s (chosen (term.Value (Truth b))) (end_by b) (paid 1 ∷ last_by b)
  told s true =
      turns_as [] tt (chosen (term.Value (Truth true)))
      (Term-F.If (term.Value (Truth true)) aborting_call (term.Value unit)) (outs-If _ _ _) refl
      aborting_call (if_is true)
      (stops (ap standing_at (outs-Call n.abort [])) (abort_stops s) refl refl)
  told s false =
      turns_as [] tt (chosen (term.Value (Truth false)))
      (Term-F.If (term.Value (Truth false)) aborting_call (term.Value unit)) (outs-If _ _ _) refl
      (term.Value unit) (if_is false)
      (comes_to (ends.Finished.value unit refl) refl refl)

  -- what its inner run does
  abbrev pub asks_for_mark : ℕ → ℕ → List Effect
  asks_for_mark l k =
      reading (l + 1) (Small (pos k)) ∷ paid 1 ∷ paid 1 ∷ last_by (k == 0)

  waits_so : (s : Store) (l k : ℕ) → k ≤ 64 → s (l + 1) ≡ Some (Small (pos k))
      → Chain p s (waiting n l) (end_by (k == 0)) (asks_for_mark l k)
  waits_so s l k few e =
      turns_reading (in_test aborting_call (term.Value unit)
      ∷ in_operand n.equal [] (number 0 ∷ []) ∷ []) (tt, (tt, tt))
      (ReadField (term.Value (object_of n l)) n.state)
      (Term-F.ReadField (term.Value (object_of n l)) n.state) (outs-ReadField _ _) refl (l + 1)
      (Small (pos k))
      (ap (act_at p) (outs-ReadField (term.Value (object_of n l)) n.state)
      ∙ after_value (object_of n l) _ ∙ ap reading_at (has.has_state l)) e
      (turns_answering (in_test aborting_call (term.Value unit) ∷ []) (tt, tt) n.equal
      (Small (pos k)) (Small (pos 0)) (term.Value (Truth (k == 0)))
      (has.equals k 0 few (omega arith)) (told _ (k == 0)))

  -- An attempt of `wait`: where the mark is 0, it is aborted, and has read the mark; else it
  -- completes at `()`.
  pub data Waited (l k : ℕ) (b : Term) (d : Effect) : Type 0 where
    waits_on : (marks : Marks) → (k == 0) ≡ true → b ≡ Asleep marks (waiting n l)
        → d ≡ aborting (all_of (reading (l + 1) (Small (pos k)) ∷ paid 1 ∷ paid 1 ∷ paid 1 ∷ []))
        → AreRead marks (all_of (reading (l + 1) (Small (pos k)) ∷ paid 1 ∷ paid 1 ∷ paid 1 ∷ []))
        → Waited l k b d
    has_waited : (k == 0) ≡ false → b ≡ term.Value unit
        → d ≡ completing (all_of (reading (l + 1) (Small (pos k)) ∷ paid 1 ∷ paid 1 ∷ []))
        → Waited l k b d

  pub waited : (s : Store) (l k : ℕ) (b : Term) (d : Effect) → k ≤ 64
      → s (l + 1) ≡ Some (Small (pos k)) → Attempted p s (waiting n l) b d → Waited l k b d
  waited s l k b d few e a = by_mark (k == 0) refl (tried (waits_so s l k few e) a)
    where
      so : Bool → List Effect
      so c = reading (l + 1) (Small (pos k)) ∷ paid 1 ∷ paid 1 ∷ last_by c

      by_mark : (c : Bool) → (k == 0) ≡ c → Becomes (end_by c) (waiting n l) (so c) b d
          → Waited l k b d
      by_mark true z (inl i) = let y : aborts ≡ goes (term.Value i.0) = i.1 in absurd cc
      by_mark true z (inr (inl i)) = let y : aborts ≡ goes (throw_of i.0) = i.1 in absurd cc
      by_mark true z (inr (inr i)) = waits_on i.0 z i.2 i.3 i.4
      by_mark false z (inl i) = has_waited z (i.2 ∙ sym (same_goes _ _ i.1)) i.3
      by_mark false z (inr (inl i)) =
          absurd (value_not_throw unit i.0 (same_goes _ _ i.1))
      by_mark false z (inr (inr i)) =
          let y : goes (term.Value unit) ≡ aborts = i.1 in absurd cc
