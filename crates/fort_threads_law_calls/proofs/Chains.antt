-- Inner runs of attempts that can go one way alone.
use Rattle.std.proofs.Common.{◌≡◌, ℕ, Bool, true, false, List, [], ◌∷◌, Some, refl, ap, sym, ◌∙◌, subst, ◌⊎◌, inl, inr}
use Rattle.fort_base.specs.declared.ids.DeclId.{DeclId}
use Rattle.fort_base.specs.declared.ids.SetId.{SetId}
use Rattle.fort_core.specs.declared.form.Mode.TheVariants as mode
use Rattle.fort_core.specs.declared.form.Slot.TheVariants as slot
use Rattle.fort_core.specs.declared.pick.Pick.{Pick}
use Rattle.fort_core.specs.declared.program.CoreDecl.{CoreDecl}
use Rattle.fort_core.specs.declared.program.Program.{Program}
use Rattle.fort_core.specs.declared.term.Term.{Term, Operator, Asleep, out-Term}
use Rattle.fort_core.specs.declared.term.Term as term
use Rattle.fort_core.specs.declared.term.Term.TheVariants.{Read, outs-Operator, outs-Read}
use Rattle.fort_core.specs.declared.term.Term.TheOpen.{Term-F}
use Rattle.fort_core.specs.declared.value.Closure.{Closure}
use Rattle.fort_core.specs.declared.value.Value.{Value}
use Rattle.fort_machine.specs.Acts.{asks, sets, becomes, unit}
use Rattle.fort_machine.specs.Acts as acts
use Rattle.fort_machine.specs.Attempts.{AreRead, Ready, Ended, goes, aborts, Closes, completed, failed, gave_up, fell_asleep}
use Rattle.fort_machine.specs.Calls.{Dispatches, by_body}
use Rattle.fort_machine.specs.Effects.{Store, Effect, paid, reading, writing, completing, failing, aborting, afterwards}
use Rattle.fort_machine.specs.Ends.{open_yet, standing, throw_of, Finished}
use Rattle.fort_machine.specs.Ends as ends
use Rattle.fort_machine.specs.Forms.{act_at, act}
use Rattle.fort_machine.specs.Frames.{Frame, plug}
use Rattle.fort_machine.specs.Marked.{Marks}
use Rattle.fort_machine.specs.RunLaws.{PickByPick, no_more, next as then_more, stopped, all_of}
use Rattle.fort_machine.specs.Runs.{Runs, location}
use Rattle.fort_machine.specs.Steps.{Does}
use Rattle.fort_machine.proofs.Picks.{picks_add_up}
use Rattle.fort_machine.proofs.Places.{plug_open, ready_open}
use Rattle.fort_machine.proofs.Ready.{stop_ready}
use Rattle.fort_machine.proofs.Standing.{not_finished}
use Rattle.fort_threads_law_servers.specs.Stages.{Attempted}
use Rattle.fort_threads_law_servers.proofs.Turns.{AllSerial, pick_at, taken_ready, pick_sole, ready_by, ready_call, is_atomic, stepped_at, called_with, moves_to, writes_to}
use Rattle.fort_threads_law_servers.proofs.Operands.{operator_two}
use Rattle.fort_threads_law_servers.proofs.Taking.{reads_at}
use Rattle.fort_threads_law_calls.proofs.Picking.{plain_no_end, call_no_end, Picked, went, ended, picked, onto}

-- ---- chains

-- each pick of an attempt's machine leads from here to there and does this; or ends its machine
abbrev pub Turn : Program → Store → Term → Term → Effect → Type 0
Turn p s t u e = (pick : Pick) (r : Ended) (d : Effect) → Runs p true true s (pick ∷ []) t r d
    → (r ≡ goes u) × (d ≡ e)

abbrev pub Stop : Program → Store → Term → Type 0
Stop p s t = (pick : Pick) (r : Ended) (d : Effect) → Runs p true true s (pick ∷ []) t r d
    → (r ≡ aborts) × (d ≡ paid 1)

-- an attempt's machine goes on so, pick by pick, and no other way
pub data Chain (p : Program) : (s : Store) (t : Term) (r : Ended) (es : List Effect) → Type 0 where
  comes_to : {s : Store} {t : Term} {r : Ended} {es : List Effect}
      → Finished t → r ≡ goes t → es ≡ [] → Chain p s t r es
  turns : {s : Store} {t : Term} {r : Ended} {es : List Effect} (u : Term) (e : Effect)
      (others : List Effect) → standing t ≡ open_yet → Turn p s t u e
      → Chain p (afterwards e s) u r others → es ≡ e ∷ others → Chain p s t r es
  stops : {s : Store} {t : Term} {r : Ended} {es : List Effect} → standing t ≡ open_yet
      → Stop p s t → r ≡ aborts → es ≡ paid 1 ∷ [] → Chain p s t r es

-- a run is over where it came to a value or a throw, or was aborted
abbrev pub IsOver : Ended → Type 0
IsOver r = (t : Term) → r ≡ goes t → Finished t

-- what is finished takes no pick
finished_rests : {p : Program} {inner strict : Bool} {s : Store} {pick : Pick} {t : Term}
    {r : Ended} {d : Effect} → Finished t → Runs p inner strict s (pick ∷ []) t r d → ⊥
finished_rests {p = p} {s = s} {pick = pick} {t = t} {r = r} {d = d} h k = go (picked k)
  where
    go : Picked p s pick t r d → ⊥
    go (went u e k) =
        let i = pick_at k in
        not_finished t
        (ap standing i.is_term
        ∙ plug_open i.frames i.part (ready_open i.part (taken_ready i.taken)))
        h
    go (ended fs a e m x q w) =
        not_finished t (ap standing e ∙ plug_open fs a (ready_open a (stop_ready p a x))) h

pub same_goes : (x y : Term) → goes x ≡ goes y → x ≡ y
same_goes x y e = cc

pub one_way : {p : Program} {s : Store} {picks : List Pick} {t : Term} {r end : Ended}
    {es effects : List Effect} → Chain p s t r es → PickByPick p true true s picks t end effects
    → IsOver end → (end ≡ r) × (effects ≡ es)
one_way (comes_to f b c) (no_more a q w) o = (q ∙ sym b, w ∙ sym c)
one_way (comes_to f b c) (then_more pick d a k more w) o = absurd (finished_rests f k)
one_way (comes_to f b c) (stopped pick d a k q w) o = absurd (finished_rests f k)
one_way {t = t} (turns u e others g f k c) (no_more a q w) o =
    absurd (not_finished t g (o t q))
one_way {p = p} {s = s} {end = end} (turns u e others g f k c)
    (then_more {rest = rest} {u = u'} {others = others'} pick d a h more w) o =
    let i = f pick (goes u') d h in
    let j = one_way k
    (subst (λ x. PickByPick p true true (afterwards x s) rest u end others') i.1
    (subst (λ x. PickByPick p true true (afterwards d s) rest x end others')
    (same_goes u' u i.0) more)) o in
    (j.0, w ∙ (λ n. i.1 n ∷ j.1 n) ∙ sym c)
one_way (turns u e others g f k c) (stopped pick d a h q w) o =
    let i = f pick aborts d h in let z : aborts ≡ goes u = i.0 in absurd cc
one_way {t = t} (stops g f b c) (no_more a q w) o = absurd (not_finished t g (o t q))
one_way (stops g f b c) (then_more {u = u} pick d a h more w) o =
    let i = f pick (goes u) d h in let z : goes u ≡ aborts = i.0 in absurd cc
one_way (stops g f b c) (stopped pick d a h q w) o =
    let i = f pick aborts d h in (q ∙ sym b, w ∙ (λ n. i.1 n ∷ []) ∙ sym c)

-- ---- an attempt of an `atomic` with such a body

-- what an attempt becomes, by the end of its inner run
abbrev pub Becomes : Ended → Term → List Effect → Term → Effect → Type 0
Becomes r body es b d =
    ((v : Value) × (r ≡ goes (term.Value v)) × (b ≡ term.Value v) × (d ≡ completing (all_of es)))
    ⊎ (((v : Value) × (r ≡ goes (throw_of v)) × (b ≡ throw_of v) × (d ≡ failing (all_of es)))
    ⊎ ((marks : Marks) × (r ≡ aborts) × (b ≡ Asleep marks body) × (d ≡ aborting (all_of es))
    × AreRead marks (all_of es)))

over_value : (v : Value) → IsOver (goes (term.Value v))
over_value v t e = ends.Finished.value v (sym (same_goes _ _ e))

over_throw : (v : Value) → IsOver (goes (throw_of v))
over_throw v t e = ends.Finished.throw v (sym (same_goes _ _ e))

over_aborts : IsOver aborts
over_aborts t e = let z : aborts ≡ goes t = e in absurd cc

pub tried : {p : Program} {s : Store} {body b : Term} {d : Effect} {r : Ended} {es : List Effect}
    → Chain p s body r es → Attempted p s body b d → Becomes r body es b d
tried {p = p} {s = s} {body = body} {b = b} {d = d} {r = r} {es = es} chain a =
    go a.ended a.effect a.inside a.closes
  where
    one : (end : Ended) (e : Effect) → Runs p true true s a.within body end e → IsOver end
        → (end ≡ r) × (e ≡ all_of es)
    one end e k o =
        let i = picks_add_up p true true s a.within body end e k in
        let j = one_way chain i.1 o in (j.0, i.2 ∙ ap all_of j.1)

    go : (end : Ended) (e : Effect) → Runs p true true s a.within body end e
        → Closes p mode.Atomic body end e b d → Becomes r body es b d
    go end e k (completed v q c w) =
        let i = one end e k (subst IsOver (sym q) (over_value v)) in
        inl (v, sym i.0 ∙ q, c, w ∙ ap completing i.1)
    go end e k (failed v q c w) =
        let i = one end e k (subst IsOver (sym q) (over_throw v)) in
        inr (inl (v, sym i.0 ∙ q, c, w ∙ ap failing i.1))
    go end e k (gave_up v q c w h g) = let z : mode.Atomic ≡ mode.Try = c in absurd cc
    go end e k (fell_asleep marks q c w h g z) =
        let i = one end e k (subst IsOver (sym q) over_aborts) in
        inr (inr (marks, sym i.0 ∙ q, g, z ∙ ap aborting i.1, subst (AreRead marks) i.1 w))

-- ---- single turns

some_same : (x y : Value) → Some x ≡ Some y → x ≡ y
some_same x y e = cc

opens : (fs : List Frame) (a : Term) → Ready a → standing (plug fs a) ≡ open_yet
opens fs a ready = plug_open fs a (ready_open a ready)

no_end_becomes : (t : Term) → becomes t ≡ acts.ends → ⊥
no_end_becomes t e = cc

module _ {p : Program} {s : Store} {r : Ended} {others : List Effect} (fs : List Frame)
    (h : AllSerial fs) where
  pub turns_as : (a : Term) (y : Term-F Term Value Closure) → out-Term a ≡ y
      → is_atomic y ≡ false → (t : Term) → act p a ≡ becomes t
      → Chain p s (plug fs t) r others → Chain p s (plug fs a) r (paid 1 ∷ others)
  turns_as a y e n t q k =
      let ready = ready_by p a (becomes t) q tt in
      turns (plug fs t) (paid 1) others (opens fs a ready)
      (λ pick end d run.
      let g = onto fs a h ready (plain_no_end p a (becomes t) q tt) run in
      let i = moves_to fs a y h e n t q g.run in
      (g.going ∙ ap goes i.0, i.1)) k refl

  pub turns_writing : (a : Term) (y : Term-F Term Value Closure) → out-Term a ≡ y
      → is_atomic y ≡ false → (l : ℕ) (w : Value) → act p a ≡ sets l w
      → Chain p (afterwards (writing l w) s) (plug fs (term.Value unit)) r others
      → Chain p s (plug fs a) r (writing l w ∷ others)
  turns_writing a y e n l w q k =
      let ready = ready_by p a (sets l w) q tt in
      turns (plug fs (term.Value unit)) (writing l w) others (opens fs a ready)
      (λ pick end d run.
      let g = onto fs a h ready (plain_no_end p a (sets l w) q tt) run in
      let i = writes_to fs a y h e n l w q g.run in
      (g.going ∙ ap goes i.0, i.1)) k refl

  -- what is there is read
  pub turns_reading : (a : Term) (y : Term-F Term Value Closure) → out-Term a ≡ y
      → is_atomic y ≡ false → (l : ℕ) (w : Value) → act p a ≡ asks l (λ v. term.Value v)
      → s l ≡ Some w
      → Chain p (afterwards (reading l w) s) (plug fs (term.Value w)) r others
      → Chain p s (plug fs a) r (reading l w ∷ others)
  turns_reading a y e n l w q there k =
      let ready = ready_by p a (asks l (λ v. term.Value v)) q tt in
      turns (plug fs (term.Value w)) (reading l w) others (opens fs a ready)
      (λ pick end d run.
      let g = onto fs a h ready (plain_no_end p a (asks l (λ v. term.Value v)) q tt) run in
      let i = reads_at fs a y h e n l q g.run in
      let z = some_same i.value w (sym i.is_there ∙ there) in (
        g.going ∙ ap goes (i.becomes ∙ ap (λ x. plug fs (term.Value x)) z),
        i.effect ∙ ap (reading l) z,
      )) k refl

  -- so is a variable at the top
  pub turns_top : (l : ℕ) (w : Value) → s l ≡ Some w
      → Chain p (afterwards (reading l w) s) (plug fs (term.Value w)) r others
      → Chain p s (plug fs (Read (slot.Location (location l)))) r (reading l w ∷ others)
  turns_top l w there k =
      turns_reading (Read (slot.Location (location l)))
      (Term-F.Read (slot.Location (location l))) (outs-Read _) refl l w
      (ap (act_at p) (outs-Read (slot.Location (location l)))) there k

  -- an operator of two values answers
  pub turns_answering : (set : SetId) (x y : Value) (t : Term)
      → ((c : DeclId) (declared : CoreDecl) → Dispatches p set (x ∷ y ∷ []) c declared
      → by_body p declared.body (x ∷ y ∷ []) ≡ becomes t)
      → Chain p s (plug fs t) r others
      → Chain p s (plug fs (Operator set (term.Value x ∷ term.Value y ∷ []))) r (paid 1 ∷ others)
  turns_answering set x y t f k =
      let a : Term = Operator set (term.Value x ∷ term.Value y ∷ []) in
      let q = operator_two p set x y in
      let ready = ready_call p a set _ q in
      turns (plug fs t) (paid 1) others (opens fs a ready)
      (λ pick end d run.
      let g = onto fs a h ready (call_no_end p a set _ q
      (λ c declared i w. no_end_becomes t (sym (f c declared i) ∙ w))) run in
      let i = pick_sole fs a h ready g.run in
      let j = stepped_at (Term-F.Operator set (term.Value x ∷ term.Value y ∷ []))
      (outs-Operator _ _) refl i.2 in
      let c = called_with p false j.0 a i.0 d set _ q j.1 in
      let w : Does p false j.0 (becomes t) i.0 d =
      subst (λ z. Does p false j.0 z i.0 d) (f c.declaration c.declared c.dispatches) c.does
      in
      (g.going ∙ ap goes (i.1 ∙ ap (plug fs) w.1), w.2)) k refl
