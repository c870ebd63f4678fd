-- In a call of the prelude somebody is awake in the machine.
use Rattle.std.proofs.Common.{◌≡◌, ℕ, ◌+◌, false, ◌||◌, List, [], ◌∷◌, ◌++◌, map, Option, None, Some, refl, ap, sym, ◌∙◌, subst, ◌⊎◌, inl, inr, pos}
use Rattle.std.specs.Prelude.{option_map}
use Rattle.fort_base.specs.declared.ids.NameId.{NameId}
use Rattle.fort_base.specs.declared.ids.SetId.{SetId}
use Rattle.fort_core.specs.declared.form.Mode.{Mode}
use Rattle.fort_core.specs.declared.form.Mode.TheVariants as mode
use Rattle.fort_core.specs.declared.form.Slot.TheVariants as slot
use Rattle.fort_core.specs.declared.program.Program.{Program}
use Rattle.fort_core.specs.declared.term.Term.{Term, Call, Operator, Apply, Atomic, Asleep, out-Term}
use Rattle.fort_core.specs.declared.term.Term as term
use Rattle.fort_core.specs.declared.term.Term.TheVariants.{Read, outs-Call, outs-Operator, outs-Apply, outs-Let, outs-Read, outs-ReadField, outs-Then, outs-If, outs-Typecase, outs-Atomic, outs-Asleep}
use Rattle.fort_core.specs.declared.term.Term.TheOpen.{Term-F}
use Rattle.fort_core.specs.declared.value.Closure.{Closure}
use Rattle.fort_core.specs.declared.value.Value.{Value, Small, out-Value}
use Rattle.fort_core.specs.declared.value.Value.TheVariants.{outs-Small}
use Rattle.fort_machine.specs.Attempts.{Form, fresh, slept, Ready, Sleeps}
use Rattle.fort_machine.specs.Effects.{Store}
use Rattle.fort_machine.specs.Ends.{open_yet, standing, Finished}
use Rattle.fort_machine.specs.Ends as ends
use Rattle.fort_machine.specs.Frames.{Frame, in_call, in_function, in_argument, in_throw, in_operand, in_let, in_then, in_test, in_subject, on, plug, passes, passed}
use Rattle.fort_machine.specs.Runs.{location}
use Rattle.fort_machine.proofs.Standing.{not_finished}
use Rattle.fort_machine.proofs.Places.{on_layer}
use Rattle.fort_machine.proofs.Ready.{form_ready}
use Rattle.fort_threads.specs.Awake.{HasEnded}
use Rattle.fort_threads.specs.Threads.{Thread}
use Rattle.fort_threads_law_servers.specs.Prelude.{Names, object_of, adding, waiting}
use Rattle.fort_threads_law_servers.specs.Stages.{End, at_value, at_throw, end_term}
use Rattle.fort_threads_law_servers.specs.Calls.{Place, makes_it, has_it, adds, was_refused, calls_wait, waits_in, has_waited, reads_mark, compares, is_told, reads_thrown, has_thrown, reads_kept, place_term, getting, mark_at, kept_at}
use Rattle.fort_threads_law_servers.specs.Roots.{Start}
use Rattle.fort_threads_law_private.specs.Grounds.{Ground}
use Rattle.fort_threads_law_private.specs.Private.{Private, no_terms, one_more, no_values}
use Rattle.fort_threads_law_private.proofs.Values.{private_at}
use Rattle.fort_threads_law_private.proofs.Shut.{not_waiting}
use Rattle.fort_threads_law_worlds.specs.Worlds.{Spot, World, ground_of, IsGiven}
use Rattle.fort_threads_law_worlds.specs.Known.{Own}
use Rattle.fort_threads_law_worlds.specs.Stores.{AreStores, mark}
use Rattle.fort_threads_law_matches.specs.Ways.{Spawns, Gets, WatchesMark, Starting, calls_main, tests_started, was_told, applies_own, calls_own, starting_term, IsUnderWay, spawns, waits, gets, asks, starts, IsAhead, was_added, has_looked}
use Rattle.fort_threads_law_matches.specs.Sleepers.{IsNoFormOfAll}
use Rattle.fort_threads_law_matches.proofs.Nodes.{none_ready, serial_ready}
use Rattle.fort_threads_law_matches.proofs.Own.{not_adding}

-- somebody is awake in a term, as no atomic form of the component
pub record WakesIn (p : Program) (n : Names) (m : Start) (w : World) (s : Store) (u : Term)
    : Type 0 where
  pub frames : List Frame
  pub part : Term
  pub is_term : u ≡ plug frames part
  pub ready : Ready part
  pub reached : passed frames part ≡ false
  pub sleepless : Sleeps s part → ⊥
  pub none : IsNoFormOfAll p n m w part

-- atomic forms
abbrev pub IsFormShape : Term-F Term Value Closure → Type 0
IsFormShape (Term-F.Atomic d a) = Unit {0}
IsFormShape (Term-F.Asleep marks a) = Unit {0}
IsFormShape _ = ⊥

pub form_shape : (a body : Term) (d : Mode) → Form a d body → IsFormShape (out-Term a)
form_shape a body d (fresh e) = subst IsFormShape (sym (ap out-Term e ∙ outs-Atomic d body)) tt
form_shape a body d (slept marks q e) =
    subst IsFormShape (sym (ap out-Term e ∙ outs-Asleep marks body)) tt

one_body : (a x y : Term) (d e : Mode) → Form a d x → Form a e y → x ≡ y
one_body a x y d e (fresh p) (fresh q) =
    let z = sym (outs-Atomic d x) ∙ ap out-Term (sym p ∙ q) ∙ outs-Atomic e y in cc
one_body a x y d e (fresh p) (slept ms h q) =
    let z = sym (outs-Atomic d x) ∙ ap out-Term (sym p ∙ q) ∙ outs-Asleep ms y in absurd cc
one_body a x y d e (slept ms h p) (fresh q) =
    let z = sym (outs-Asleep ms x) ∙ ap out-Term (sym p ∙ q) ∙ outs-Atomic e y in absurd cc
one_body a x y d e (slept ms h p) (slept ns k q) =
    let z = sym (outs-Asleep ms x) ∙ ap out-Term (sym p ∙ q) ∙ outs-Asleep ns y in cc

-- calls of values are ready
one_value : (before behind : List Term) (b : Term) (v : Value) → standing b ≡ open_yet
    → term.Value v ∷ [] ≡ before ++ b ∷ behind → ⊥
one_value [] behind b v o e = not_finished b o (ends.Finished.value v (cc))
one_value (t ∷ []) behind b v o e = cc
one_value (t ∷ x ∷ before) behind b v o e = cc

no_value : (before behind : List Term) (b : Term) → [] ≡ before ++ b ∷ behind → ⊥
no_value [] behind b e = cc
no_value (t ∷ before) behind b e = cc

call_one : (set : SetId) (v : Value) (f : Frame) (b : Term) → standing b ≡ open_yet
    → Term-F.Call set (term.Value v ∷ []) ≡ on_layer f b → ⊥
call_one set v (in_call other before behind) b o e = one_value before behind b v o cc
call_one set v in_throw b o e = cc
call_one set v _ b o e = cc

call_none : (set : SetId) (f : Frame) (b : Term) → standing b ≡ open_yet
    → Term-F.Call set [] ≡ on_layer f b → ⊥
call_none set (in_call other before behind) b o e = no_value before behind b cc
call_none set in_throw b o e = cc
call_none set _ b o e = cc

apply_one : (v x : Value) (f : Frame) (b : Term) → standing b ≡ open_yet
    → Term-F.Apply (term.Value v) (term.Value x) ≡ on_layer f b → ⊥
apply_one v x (in_function a) b o e = not_finished b o (ends.Finished.value v (cc))
apply_one v x (in_argument a) b o e = not_finished b o (ends.Finished.value x (cc))
apply_one v x in_throw b o e = cc
apply_one v x _ b o e = cc

two_values : (before : List Value) (behind : List Term) (b : Term) (v x : Value)
    → standing b ≡ open_yet
    → term.Value v ∷ term.Value x ∷ [] ≡ map term.Value before ++ b ∷ behind → ⊥
two_values [] behind b v x o e = not_finished b o (ends.Finished.value v (cc))
two_values (y ∷ []) behind b v x o e = not_finished b o (ends.Finished.value x (cc))
two_values (y ∷ z ∷ []) behind b v x o e = cc
two_values (y ∷ z ∷ k ∷ before) behind b v x o e = cc

operator_two : (set : SetId) (v x : Value) (f : Frame) (b : Term) → standing b ≡ open_yet
    → Term-F.Operator set (term.Value v ∷ term.Value x ∷ []) ≡ on_layer f b → ⊥
operator_two set v x (in_operand other before behind) b o e =
    two_values before behind b v x o cc
operator_two set v x in_throw b o e = cc
operator_two set v x _ b o e = cc

read_none : (l : ℕ) (f : Frame) (b : Term) → standing b ≡ open_yet
    → Term-F.Read (slot.Location (location l)) ≡ on_layer f b → ⊥
read_none l in_throw b o e = cc
read_none l _ b o e = cc

call_ready : (set : SetId) (v : Value) → Ready (Call set (term.Value v ∷ []))
call_ready set v = none_ready _ _ (outs-Call set _) refl (call_one set v)

operator_ready : (set : SetId) (v x : Value)
    → Ready (Operator set (term.Value v ∷ term.Value x ∷ []))
operator_ready set v x = none_ready _ _ (outs-Operator set _) refl (operator_two set v x)

field_ready : (v : Value) (f : NameId) → Ready (term.ReadField (term.Value v) f)
field_ready v f =
    serial_ready _ _ _ _ (outs-ReadField _ _) refl refl (ends.Finished.value v refl)

pub fresh_sleepless : {s : Store} (a body : Term) (d : Mode) → a ≡ Atomic d body → Sleeps s a → ⊥
fresh_sleepless a body d e z =
    let y = sym (outs-Atomic d body) ∙ ap out-Term (sym e ∙ z.is_asleep)
    ∙ outs-Asleep z.marks z.body in cc

waiting_closed : {p : Program} {n : Names} {m : Start} {g : Ground} (l : ℕ)
    → Private p n m g (waiting n l) → ⊥
waiting_closed {n = n} l h =
    not_waiting l
    (private_at (Atomic mode.Atomic (waiting n l)) _ (outs-Atomic _ _) tt (one_more h no_terms)
    no_values)

-- the mark of an ended thread isn't 0
marked_end : (v : Value) (end : Option End) (e : Term) → option_map end_term end ≡ Some e
    → Small (pos (mark end)) ≡ Small (pos 0) → ⊥
marked_end v None e q z = cc
marked_end v (Some (at_value x)) e q z =
    let y = sym (outs-Small (pos 1)) ∙ ap out-Value z ∙ outs-Small (pos 0) in cc
marked_end v (Some (at_throw x)) e q z =
    let y = sym (outs-Small (pos 2)) ∙ ap out-Value z ∙ outs-Small (pos 0) in cc

pub waiting_sleepless : {p : Program} {n : Names} {m : Start} {w : World} {stand : List Thread}
    {s t : Store} → AreStores p n m w stand s t → (l : ℕ) → IsGiven w l → HasEnded stand l
    → (a : Term) → WatchesMark l a → Sleeps s a → ⊥
waiting_sleepless are l g h a watches z =
    let k = are.marked l g.0 g.1 g.2 in
    let y = z.unchanged (l + 1) (Small (pos 0)) (watches z.marks z.body z.is_asleep) in
    let x : Small (pos (mark g.1)) ≡ Small (pos 0) = let c = sym k.0 ∙ y in cc in
    marked_end g.0 g.1 h.0 (sym k.1 ∙ h.1) x

module _ {p : Program} {n : Names} {m : Start} {w : World} {s : Store} where
  -- somebody who is no atomic form
  awake_at : {u : Term} (fs : List Frame) (part : Term) (y : Term-F Term Value Closure)
      → u ≡ plug fs part → passed fs part ≡ false → out-Term part ≡ y → (IsFormShape y → ⊥)
      → Ready part → WakesIn p n m w s u
  awake_at fs part y e q h other r =
      record {
        frames = fs;
        part = part;
        is_term = e;
        ready = r;
        reached = q;
        sleepless = λ z. other (subst IsFormShape (sym (ap out-Term z.is_asleep
            ∙ outs-Asleep z.marks z.body) ∙ h) tt);
        none = λ d body form k. other (subst IsFormShape h (form_shape part body d form));
      }

  -- a form whose body isn't the component's
  form_at : {u : Term} (fs : List Frame) (part body : Term) (d : Mode) → u ≡ plug fs part
      → passed fs part ≡ false → Form part d body → (Sleeps s part → ⊥)
      → (Private p n m (ground_of w) body → ⊥) → WakesIn p n m w s u
  form_at fs part body d e q form sleepless other =
      record {
        frames = fs;
        part = part;
        is_term = e;
        ready = form_ready part d body form;
        reached = q;
        sleepless = sleepless;
        none = λ x b k h.
            other (subst (Private p n m (ground_of w)) (one_body part b body x d k form) h);
      }

  pub starting_wakes : (o : Own) (u : Term) (place : Starting) → u ≡ starting_term n m o place
      → WakesIn p n m w s u
  starting_wakes o u calls_main e =
      awake_at [] _ _ e refl (outs-Call _ _) (λ z. z) (call_ready m.main m.own)
  starting_wakes o u tests_started e =
      awake_at (in_test _ _ ∷ []) _ _ e refl (outs-Read (slot.Location (location m.started)))
      (λ z. z) (none_ready _ _ (outs-Read _) refl (read_none m.started))
  starting_wakes o u was_told e =
      awake_at [] _ _ e refl (outs-If _ _ _) (λ z. z)
      (serial_ready _ _ _ _ (outs-If _ _ _) refl refl (ends.Finished.value _ refl))
  starting_wakes o u applies_own e =
      awake_at [] _ _ e refl (outs-Apply _ _) (λ z. z)
      (none_ready _ _ (outs-Apply _ _) refl (apply_one _ _))
  starting_wakes o u calls_own e =
      awake_at [] _ _ e refl (outs-Call _ _) (λ z. z)
      (none_ready _ _ (outs-Call o.set []) refl (call_none o.set))

  pub ahead_wakes : (u : Term) (x : Value) → IsAhead n w u x → WakesIn p n m w s u
  ahead_wakes u x (was_added l y g e q) =
      awake_at [] _ _ e refl (outs-Then _ _) (λ z. z)
      (serial_ready _ _ _ _ (outs-Then _ _) refl refl (ends.Finished.value y refl))
  ahead_wakes u x (has_looked k i e q) =
      awake_at [] _ _ e refl (outs-Operator _ _) (λ z. z) (operator_ready n.differs _ _)

  spawns_wake : (spot : Spot) (f : Value) (place : Place) (u : Term) → Spawns p n m w spot f place
      → u ≡ place_term n place → WakesIn p n m w s u
  spawns_wake spot f (makes_it g) u h e =
      awake_at (in_let _ _ ∷ []) _ _ e refl (outs-Call _ _) (λ z. z) (call_ready n.make g)
  spawns_wake spot f (has_it l) u h e =
      awake_at [] _ _ e refl (outs-Let _ _ _) (λ z. z)
      (serial_ready _ _ _ _ (outs-Let _ _ _) refl refl (ends.Finished.value _ refl))
  spawns_wake spot f (adds l form) u h e =
      form_at (in_then _ ∷ []) form (adding n l) mode.Atomic e refl (fresh h.1)
      (fresh_sleepless form (adding n l) mode.Atomic h.1) (λ z. not_adding _ z)
  spawns_wake spot f (was_refused l v) u h e =
      awake_at [] _ _ e refl (outs-Then _ _) (λ z. z)
      (serial_ready _ _ _ _ (outs-Then _ _) refl refl (ends.Finished.throw v refl))
  spawns_wake spot f _ u h e = absurd h

  gets_wake : (l : ℕ) (place : Place) (u : Term) → Gets n w l place → u ≡ place_term n place
      → ((a : Term) → WatchesMark l a → Sleeps s a → ⊥) → WakesIn p n m w s u
  gets_wake l (calls_wait k) u h e none =
      awake_at (in_then _ ∷ []) _ _ e refl (outs-Call _ _) (λ z. z)
      (call_ready n.wait (object_of n k))
  gets_wake l (waits_in k form) u h e none =
      form_at (in_then _ ∷ []) form (waiting n l) mode.Atomic e refl h.1 (none form h.2)
      (λ z. waiting_closed l z)
  gets_wake l (has_waited k v) u h e none =
      awake_at [] _ _ e refl (outs-Then _ _) (λ z. z)
      (serial_ready _ _ _ _ (outs-Then _ _) refl refl (ends.Finished.value v refl))
  gets_wake l (reads_mark k) u h e none =
      awake_at (in_test _ _ ∷ in_operand n.equal [] _ ∷ []) (mark_at n k) _ e refl
      (outs-ReadField _ _) (λ z. z) (field_ready _ _)
  gets_wake l (compares k mark) u h e none =
      awake_at (in_test _ _ ∷ []) _ _ e refl (outs-Operator _ _) (λ z. z)
      (operator_ready n.equal _ _)
  gets_wake l (is_told k threw) u h e none =
      awake_at [] _ _ e refl (outs-If _ _ _) (λ z. z)
      (serial_ready _ _ _ _ (outs-If _ _ _) refl refl (ends.Finished.value _ refl))
  gets_wake l (reads_thrown k) u h e none =
      awake_at (in_subject _ _ _ ∷ []) (kept_at n k) _ e refl (outs-ReadField _ _) (λ z. z)
      (field_ready _ _)
  gets_wake l (has_thrown v) u h e none =
      awake_at [] _ _ e refl (outs-Typecase _ _ _ _) (λ z. z)
      (serial_ready _ _ _ _ (outs-Typecase _ _ _ _) refl refl (ends.Finished.value v refl))
  gets_wake l (reads_kept k) u h e none =
      awake_at [] _ _ e refl (outs-ReadField _ _) (λ z. z) (field_ready _ _)
  gets_wake l _ u h e none = absurd h

  -- in a call that is under way, where what `wait` and `val` wait for has come
  pub way_wakes : {stand : List Thread} {t : Store} {o : Own} → AreStores p n m w stand s t
      → (spot : Spot) (u v : Term) → IsUnderWay p n m o w spot u v
      → ((l : ℕ) → (v ≡ Atomic mode.Atomic (waiting n l))
      ⊎ (v ≡ getting n l (Call n.wait (term.Value (object_of n l) ∷ []))) → HasEnded stand l)
      → WakesIn p n m w s u
  way_wakes are spot u v (spawns f place h e q) ended = spawns_wake spot f place u h e
  way_wakes are spot u v (waits l g h k q) ended =
      form_at [] u (waiting n l) mode.Atomic refl refl h
      (waiting_sleepless are l g (ended l (inl q)) u k) (λ z. waiting_closed l z)
  way_wakes are spot u v (gets l place g h e q) ended =
      gets_wake l place u h e (λ a k. waiting_sleepless are l g (ended l (inr q)) a k)
  way_wakes are spot u v (asks l g e q) ended =
      awake_at (in_operand n.differs [] _ ∷ []) (mark_at n l) _ e refl (outs-ReadField _ _) (λ z. z)
      (field_ready _ _)
  way_wakes {o = o} are spot u v (starts place e q h t) ended = starting_wakes o u place e

  -- within a frame
  pub wakes_under : {a : Term} (f : Frame) → WakesIn p n m w s a → passes f a ≡ false
      → WakesIn p n m w s (on f a)
  wakes_under {a} f z e =
      record {
        frames = f ∷ z.frames;
        part = z.part;
        is_term = ap (on f) z.is_term;
        ready = z.ready;
        reached = ap (λ x. x || passed z.frames z.part)
            (ap (passes f) (sym z.is_term) ∙ e) ∙ z.reached;
        sleepless = z.sleepless;
        none = z.none;
      }
