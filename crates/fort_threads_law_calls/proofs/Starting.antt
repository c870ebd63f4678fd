-- Picks within a call of `run`, and where the machine with threads is ahead, answered.
use Rattle.std.proofs.Common.{◌≡◌, ℕ, ◌==◌, Bool, true, false, List, [], ◌∷◌, Some, None, if◌then◌else◌, rules, refl, ap, sym, ◌∙◌, subst, ◌⊎◌, inl, inr}
use Rattle.fort_core.specs.declared.form.Slot.TheVariants as slot
use Rattle.fort_core.specs.declared.pick.Pick.{Pick}
use Rattle.fort_core.specs.declared.program.Program.{Program}
use Rattle.fort_core.specs.declared.term.Term.{Term, Call, Apply, If}
use Rattle.fort_core.specs.declared.term.Term as term
use Rattle.fort_core.specs.declared.term.Term.TheVariants.{Read, outs-Call, outs-Apply, outs-Read, outs-If}
use Rattle.fort_core.specs.declared.term.Term.TheOpen.{Term-F, Value-F}
use Rattle.fort_core.specs.declared.value.Value.{Value, Truth}
use Rattle.fort_core.specs.declared.value.Value.TheVariants.{outs-Truth}
use Rattle.fort_machine.specs.Acts.{enters, asks, unit}
use Rattle.fort_machine.specs.Attempts.{Ended, goes}
use Rattle.fort_machine.specs.Cells.{untouched, found}
use Rattle.fort_machine.specs.Effects.{Store, Effect, paid, reading}
use Rattle.fort_machine.specs.Ends.{is_thrown}
use Rattle.fort_machine.specs.Forms.{act_at, act, choosing as chosen_by}
use Rattle.fort_machine.specs.Frames.{in_test}
use Rattle.fort_machine.specs.Runs.{Runs, location}
use Rattle.fort_machine.specs.Steps.{Does}
use Rattle.fort_threads.specs.Known.{Known}
use Rattle.fort_threads.specs.Threads.{Paths, Thread}
use Rattle.fort_threads_law_servers.specs.Prelude.{Names, HasPrelude}
use Rattle.fort_threads_law_servers.specs.Calls.{Place, has_added, compares_mark, has_come, place_term, Turns}
use Rattle.fort_threads_law_servers.specs.Roots.{Start, starting, testing}
use Rattle.fort_threads_law_servers.proofs.Calling.{each_call_follows}
use Rattle.fort_threads_law_servers.proofs.Server.{after_value, calls_one, calls_none}
use Rattle.fort_threads_law_servers.proofs.Taking.{reads_at}
use Rattle.fort_threads_law_servers.proofs.Turns.{turn, moves_to, calls_to}
use Rattle.fort_threads_law_private.specs.Private.{Private, PrivateValue}
use Rattle.fort_threads_law_private.proofs.Values.{term_private}
use Rattle.fort_threads_law_worlds.specs.Worlds.{Spot, for_all, of_prelude, World, ground_of}
use Rattle.fort_threads_law_worlds.specs.Known.{Own, AreSame}
use Rattle.fort_threads_law_worlds.specs.Stores.{AreStores}
use Rattle.fort_threads_law_worlds.specs.Effects.{FindsOpen}
use Rattle.fort_threads_law_matches.specs.Matches.{Matches, same, under_way}
use Rattle.fort_threads_law_matches.specs.Ways as ways
use Rattle.fort_threads_law_matches.specs.Ways.{Starting, calls_main, tests_started, was_told, applies_own, calls_own, starting_term, IsAhead, was_added, has_looked}
use Rattle.fort_threads_law_calls.specs.Answers.{AnswersCall}
use Rattle.fort_threads_law_calls.proofs.Going.{onto_plain, onto_led, place_goes}
use Rattle.fort_threads_law_calls.proofs.Quiet.{Quiet, quiet_is, quiet_paid, quiet_reading, own_unkept}
use Rattle.fort_threads_law_calls.proofs.Answering.{some_same, nothing_done, Answer}

-- ---- one pick

-- What a pick within a call of `run` leads to and does: it costs 1, or reads `started'`; it leads
-- to a further place, or to the body of the component's own `run`.
pub record Started (p : Program) (n : Names) (m : Start) (o : Own) (r : Ended) (d : Effect)
    : Type 0 where
  pub next : Term
  pub going : r ≡ goes next
  pub does : (d ≡ paid 1) ⊎ (d ≡ reading m.started (Truth true))
  pub leads : ((place : Starting) × (next ≡ starting_term n m o place)) ⊎ (next ≡ o.body)

module _ (p : Program) (n : Names) (m : Start) (o : Own) (k : Known) (are : AreSame p n m o k)
    (s : Store) (is_true : s m.started ≡ Some (Truth true)) (pick : Pick) where
  abbrev started_top : Term
  started_top = Read (slot.Location (location m.started))

  abbrev applied_own : Term
  applied_own = Apply (term.Value m.own) (term.Value unit)

  if_true : act p (testing n m (term.Value (Truth true)))
      ≡ chosen_by (Value-F.Truth true) applied_own (starting n m)
  if_true =
      ap (act_at p) (outs-If (term.Value (Truth true)) applied_own (starting n m))
      ∙ after_value (Truth true) _
      ∙ ap (λ z. chosen_by z applied_own (starting n m)) (outs-Truth true)

  reads_top : act p started_top ≡ asks m.started (λ x. term.Value x)
  reads_top = ap (act_at p) (outs-Read (slot.Location (location m.started)))

  started : {inner strict : Bool} {r : Ended} {d : Effect} (place : Starting)
      → Runs p inner strict s (pick ∷ []) (starting_term n m o place) r d
      → Started p n m o r d
  started calls_main run =
      let a : Term = Call m.main (term.Value m.own ∷ []) in
      let q = calls_one p m.main m.own in
      let g = onto_led [] a tt m.main (m.own ∷ []) (testing n m started_top) q are.is_main run in
      let i = calls_to [] a (Term-F.Call m.main (term.Value m.own ∷ [])) tt (outs-Call _ _) refl
      m.main (m.own ∷ []) (testing n m started_top) q are.is_main g.run in
      record {
        next = g.next;
        going = g.going;
        does = inl i.1;
        leads = inl (tests_started, i.0);
      }
  started tests_started run =
      let g = onto_plain (in_test applied_own (starting n m) ∷ []) started_top (tt, tt) _
      reads_top tt tt run in
      let i = reads_at (in_test applied_own (starting n m) ∷ []) started_top
      (Term-F.Read (slot.Location (location m.started))) (tt, tt) (outs-Read _) refl m.started
      reads_top g.run in
      let y = some_same i.value (Truth true) (sym i.is_there ∙ is_true) in
      record {
        next = g.next;
        going = g.going;
        does = inr (i.effect ∙ ap (reading m.started) y);
        leads = inl (was_told, i.becomes ∙ ap (λ x. testing n m (term.Value x)) y);
      }
  started was_told run =
      let a : Term = testing n m (term.Value (Truth true)) in
      let g = onto_plain [] a tt _ if_true tt tt run in
      let i = moves_to [] a (Term-F.If (term.Value (Truth true)) applied_own (starting n m)) tt
      (outs-If _ _ _) refl applied_own if_true g.run in
      record {
        next = g.next;
        going = g.going;
        does = inl i.1;
        leads = inl (applies_own, i.0);
      }
  started applies_own run =
      let z = are.applies in
      let g = onto_plain [] applied_own tt (enters z.0 (Call o.set [])) z.1 tt tt run in
      let i = turn [] applied_own (Term-F.Apply (term.Value m.own) (term.Value unit)) tt
      (outs-Apply _ _) refl (enters z.0 (Call o.set [])) z.1 tt g.run in
      let y : Does p false i.loc (enters z.0 (Call o.set [])) i.next _ = i.does in
      record {
        next = g.next;
        going = g.going;
        does = inl y.3;
        leads = inl (calls_own, i.becomes ∙ y.2);
      }
  started calls_own run =
      let a : Term = Call o.set [] in
      let q = calls_none p o.set in
      let g = onto_led [] a tt o.set [] o.body q are.own_call run in
      let i = calls_to [] a (Term-F.Call o.set []) tt (outs-Call _ _) refl o.set [] o.body q
      are.own_call g.run in
      record { next = g.next; going = g.going; does = inl i.1; leads = inr i.0 }

-- What a pick does where the machine with threads is ahead.
module _ (p : Program) (n : Names) (has : HasPrelude p n) (w : World) (s : Store) (pick : Pick)
  where
    pub record Arrived (x : Value) (r : Ended) (d : Effect) : Type 0 where
      pub next : Term
      pub going : r ≡ goes next
      pub is_value : next ≡ term.Value x
      pub does : d ≡ paid 1

    arrives : {inner strict : Bool} {r : Ended} {d : Effect} {u : Term} (x : Value)
        → IsAhead n w u x → Runs p inner strict s (pick ∷ []) u r d → Arrived x r d
    arrives {inner} {strict} {r} {d} x (was_added l y known e z) run =
        let run' = subst (λ b. Runs p inner strict s (pick ∷ []) b r d) e run in
        let g = place_goes p n has (has_added l y) tt tt run' in
        let j = each_call_follows p n has s pick (has_added l y) g.next d tt tt g.run in
        let i = go g.next j.0 j.2 j.3 in
        record { next = g.next; going = g.going; is_value = i.0; does = i.1 }
      where
        go : (u : Term) (next : Place) → u ≡ place_term n next
            → Turns p n s pick d (has_added l y) next → (u ≡ term.Value x) × (d ≡ paid 1)
        go u (has_come b) i c = (i ∙ c.0 ∙ ap term.Value (sym z), c.1)
        go u _ i c = absurd c
    arrives {inner} {strict} {r} {d} x (has_looked i few e z) run =
        let run' = subst (λ b. Runs p inner strict s (pick ∷ []) b r d) e run in
        let g = place_goes p n has (compares_mark i) few tt run' in
        let j = each_call_follows p n has s pick (compares_mark i) g.next d few tt g.run in
        let y = go g.next j.0 j.2 j.3 in
        record { next = g.next; going = g.going; is_value = y.0; does = y.1 }
      where
        go : (u : Term) (next : Place) → u ≡ place_term n next
            → Turns p n s pick d (compares_mark i) next → (u ≡ term.Value x) × (d ≡ paid 1)
        go u (has_come b) c y = (c ∙ y.0 ∙ ap term.Value (sym z), y.1)
        go u _ c y = absurd y

-- ---- answers

module _ (p : Program) (n : Names) (m : Start) (o : Own) (k : Known) (has : HasPrelude p n)
    (are : AreSame p n m o k) (w : World) (here : Spot) (asked : Paths) (path : List ℕ)
    (standing : List Thread) (s t : Store) (h : AreStores p n m w standing s t) (v : Term)
    (pick : Pick) where
  abbrev Answers : Term → Effect → Type 0
  Answers later d = AnswersCall p n m o k w here asked path standing s t v later d

  shut : w.serves m.started ≡ for_all → ⊥
  shut e = let z : of_prelude ≡ for_all = sym h.own.3 ∙ e in absurd cc

  quiet_start : {d : Effect} → (d ≡ paid 1) ⊎ (d ≡ reading m.started (Truth true)) → Quiet w s d
  quiet_start (inl e) = quiet_is e (quiet_paid w s 1)
  quiet_start (inr e) = quiet_is e (quiet_reading m.started (Truth true) shut
      (λ r. (h.lasting m.started r).4 refl) (own_unkept h m.started h.own.3))

  pub starting_answered : {inner strict : Bool} {r : Ended} {d : Effect} → v ≡ o.body
      → Private p n m (ground_of w) o.body → is_thrown o.body ≡ false → (place : Starting)
      → Runs p inner strict s (pick ∷ []) (starting_term n m o place) r d
      → Answer p n m o k w here asked path standing s t v r d
  starting_answered {d = d} is_form is_private no_throw place run =
      let i = started p n m o k are s h.started pick place run in
      record {
        later = i.next;
        going = i.going;
        answer = nothing_done h (quiet_start i.does) (matched i.next i.leads);
      }
    where
      matched : (u : Term)
          → ((place : Starting) × (u ≡ starting_term n m o place)) ⊎ (u ≡ o.body)
          → Matches p n m o w here asked path u v
      matched u (inl q) =
          under_way (ways.IsUnderWay.starts q.0 q.1 is_form is_private no_throw)
      matched u (inr e) =
          same (e ∙ sym is_form) (subst (Private p n m (ground_of w)) (sym e) is_private)

  pub ahead_answered : {inner strict : Bool} {r : Ended} {d : Effect} {u : Term} (x : Value)
      → IsAhead n w u x → v ≡ term.Value x → PrivateValue p n m (ground_of w) x
      → Runs p inner strict s (pick ∷ []) u r d
      → Answer p n m o k w here asked path standing s t v r d
  ahead_answered x a is_form q run =
      let i = arrives p n has w s pick x a run in
      record {
        later = i.next;
        going = i.going;
        answer = nothing_done h (quiet_is i.does (quiet_paid w s 1))
            (same (i.is_value ∙ sym is_form)
            (subst (Private p n m (ground_of w)) (sym i.is_value) (term_private q)));
      }

-- ---- what is found

module _ (p : Program) (n : Names) (m : Start) (o : Own) (k : Known) (has : HasPrelude p n)
    (are : AreSame p n m o k) (w : World) (standing : List Thread) (s t : Store)
    (h : AreStores p n m w standing s t) (pick : Pick) where
  paid_finds : {d : Effect} → d ≡ paid 1 → FindsOpen m w d
  paid_finds e l r x q =
      let z : untouched ≡ found r x = sym (ap (λ (y : Effect). y.cells l) e) ∙ q in absurd cc

  read_finds : {d : Effect} → d ≡ reading m.started (Truth true) → FindsOpen m w d
  read_finds e l r x q =
      go (m.started == l) refl (sym (ap (λ (y : Effect). y.cells l) e) ∙ q)
    where
      go : (b : Bool) → (m.started == l) ≡ b
          → (if b then found (Some (Truth true)) None else untouched) ≡ found r x
          → (w.serves l ≡ for_all)
          ⊎ ((l ≡ m.started) × ((y : Value) → r ≡ Some y → y ≡ Truth true))
      go true i c =
          let z : m.started ≡ l = search (rules, i) in
          let a : Some (Truth true) ≡ r = cc in
          inr (sym z, λ y j. sym (some_same (Truth true) y (a ∙ j)))
      go false i c = let z : untouched ≡ found r x = c in absurd cc

  pub starting_finds : {inner strict : Bool} {r : Ended} {d : Effect} (place : Starting)
      → Runs p inner strict s (pick ∷ []) (starting_term n m o place) r d → FindsOpen m w d
  starting_finds {d = d} place run = go (started p n m o k are s h.started pick place run).does
    where
      go : (d ≡ paid 1) ⊎ (d ≡ reading m.started (Truth true)) → FindsOpen m w d
      go (inl e) = paid_finds e
      go (inr e) = read_finds e

  pub ahead_finds : {inner strict : Bool} {r : Ended} {d : Effect} {u : Term} (x : Value)
      → IsAhead n w u x → Runs p inner strict s (pick ∷ []) u r d → FindsOpen m w d
  ahead_finds x a run = paid_finds (arrives p n has w s pick x a run).does
