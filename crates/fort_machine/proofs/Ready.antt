-- A form that acts waits for none of its parts.
use Rattle.std.proofs.Common.{◌≡◌, ℕ, Bool, true, false, ◌&&◌, List, [], ◌∷◌, ◌++◌, map, refl, ap, sym, ◌∙◌, subst, ◌⊎◌, inl, inr}
use Rattle.std.specs.List.{list_any}
use Rattle.fort_core.specs.declared.form.Mode.{Mode}
use Rattle.fort_core.specs.declared.program.Program.{Program}
use Rattle.fort_core.specs.declared.term.Term.{Term, Atomic, Asleep, out-Term}
use Rattle.fort_core.specs.declared.term.Term as term
use Rattle.fort_core.specs.declared.term.Term.TheVariants.{outs-Value, outs-Throw, outs-Atomic, outs-Asleep}
use Rattle.fort_core.specs.declared.term.Term.TheOpen.{Term-F}
use Rattle.fort_core.specs.declared.value.Value.{Value}
use Rattle.fort_core.specs.declared.value.Closure.{Closure}
use Rattle.fort_machine.specs.Effects.{Effect}
use Rattle.fort_machine.specs.Ends.{Standing, at_value, at_throw, open_yet, standing_at, standing, throw_of, Finished, has_stepped, still_by, is_still, throws_by, is_thrown}
use Rattle.fort_machine.specs.Ends as ends
use Rattle.fort_machine.specs.Frames.{Frame, in_group, in_call, in_function, in_argument, in_first_half, in_second_half, in_first_reduced, in_second_reduced, in_block, in_throw, in_operand, in_fill_size, in_fill_value, in_let, in_mutable, in_write, in_field, in_field_target, in_field_value, in_element, in_index, in_element_target, in_element_index, in_element_value, in_size, in_then, in_test, in_subject, in_source, in_reduced_source, in_try, in_stepped, on, passes}
use Rattle.fort_machine.specs.Acts.{Act, stuck, ends as ends_machine, by_standing, after, after_all, Together, at_values, leftmost, some_still, some_open, with_first, standing_together, by_together, once_all}
use Rattle.fort_machine.specs.Forms.{act_at, act, trying}
use Rattle.fort_machine.specs.Steps.{Acts, by_itself, by_call, Does, Local, steps}
use Rattle.fort_machine.specs.Attempts.{Ready, Form, fresh, slept}
use Rattle.fort_machine.specs.Marked.{Marks}
use Rattle.fort_machine.proofs.Standing.{standing-Value, decide, not_finished, or_false}
use Rattle.fort_machine.proofs.Places.{on_layer, out_on}

after_value : (v : Value) (k : Value → Act) → after (term.Value v) k ≡ k v
after_value v k = ap (λ st. by_standing st k) (standing-Value v)

after_open : (t : Term) (k : Value → Act) → standing t ≡ open_yet → after t k ≡ stuck
after_open t k o = ap (λ st. by_standing st k) o

with_some_open : (st : Standing) (m : Bool) → with_first st m some_open ≡ some_open
with_some_open (at_value v) m = refl
with_some_open (at_throw v) m = refl
with_some_open open_yet true = refl
with_some_open open_yet false = refl

-- parts of which one is open and marked
together_marked : (before behind : List Term) (b : Term) → standing b ≡ open_yet
    → has_stepped b ≡ true → standing_together (before ++ b ∷ behind) ≡ some_open
together_marked [] behind b o m = λ i. with_first (o i) (m i) (standing_together behind)
together_marked (t ∷ before) behind b o m =
    ap (with_first (standing t) (has_stepped t)) (together_marked before behind b o m)
    ∙ with_some_open (standing t) (has_stepped t)

-- parts without a throw, and such with an open one
abbrev Throwless : Together → Type 0
Throwless (leftmost v) = ⊥
Throwless _ = Unit {0}

abbrev Waits : Together → Type 0
Waits some_still = Unit {0}
Waits some_open = Unit {0}
Waits _ = ⊥

throwless_first : (st : Standing) (m : Bool) (g : Together) → throws_by st ≡ false → Throwless g
    → Throwless (with_first st m g)
throwless_first (at_value v) m (at_values vs) e h = tt
throwless_first (at_value v) m (leftmost w) e h = h
throwless_first (at_value v) m some_still e h = tt
throwless_first (at_value v) m some_open e h = tt
throwless_first (at_throw v) m g e h = absurd cc
throwless_first open_yet true g e h = tt
throwless_first open_yet false (at_values vs) e h = tt
throwless_first open_yet false (leftmost w) e h = h
throwless_first open_yet false some_still e h = tt
throwless_first open_yet false some_open e h = tt

waits_first : (st : Standing) (m : Bool) (g : Together) → throws_by st ≡ false → Waits g
    → Waits (with_first st m g)
waits_first st m (at_values vs) e h = absurd h
waits_first st m (leftmost w) e h = absurd h
waits_first (at_value v) m some_still e h = tt
waits_first (at_value v) m some_open e h = tt
waits_first (at_throw v) m some_still e h = absurd cc
waits_first (at_throw v) m some_open e h = tt
waits_first open_yet true some_still e h = tt
waits_first open_yet true some_open e h = tt
waits_first open_yet false some_still e h = tt
waits_first open_yet false some_open e h = tt

open_waits : (m : Bool) (g : Together) → Throwless g → Waits (with_first open_yet m g)
open_waits true g h = tt
open_waits false (at_values vs) h = tt
open_waits false (leftmost w) h = absurd h
open_waits false some_still h = tt
open_waits false some_open h = tt

waits_stuck : (g : Together) (k : List Value → Act) → Waits g → by_together g k ≡ stuck
waits_stuck (at_values vs) k h = absurd h
waits_stuck (leftmost v) k h = absurd h
waits_stuck some_still k h = refl
waits_stuck some_open k h = refl

throwless_all : (ts : List Term) → list_any is_thrown ts ≡ false → Throwless (standing_together ts)
throwless_all [] e = tt
throwless_all (t ∷ ts) e =
    let q = or_false (is_thrown t) (list_any is_thrown ts) e
    in throwless_first (standing t) (has_stepped t) (standing_together ts) q.0
    (throwless_all ts q.1)

together_waits : (before behind : List Term) (b : Term) → standing b ≡ open_yet
    → list_any is_thrown (before ++ behind) ≡ false
    → Waits (standing_together (before ++ b ∷ behind))
together_waits [] behind b o e =
    subst (λ st. Waits (with_first st (has_stepped b) (standing_together behind))) (sym o)
    (open_waits (has_stepped b) (standing_together behind) (throwless_all behind e))
together_waits (t ∷ before) behind b o e =
    let q = or_false (is_thrown t) (list_any is_thrown (before ++ behind)) e in
    waits_first (standing t) (has_stepped t) (standing_together (before ++ b ∷ behind)) q.0
    (together_waits before behind b o q.1)

once_open : (before behind : List Term) (b : Term) (k : List Value → Act) → standing b ≡ open_yet
    → (list_any is_thrown (before ++ behind) && is_still b) ≡ false
    → once_all (before ++ b ∷ behind) k ≡ stuck
once_open before behind b k o e =
    go (has_stepped b) refl (list_any is_thrown (before ++ behind)) refl
  where
    go : (m : Bool) → has_stepped b ≡ m → (x : Bool) → list_any is_thrown (before ++ behind) ≡ x
        → once_all (before ++ b ∷ behind) k ≡ stuck
    go true m x h = ap (λ g. by_together g k) (together_marked before behind b o m)
    go false m false h =
        waits_stuck (standing_together (before ++ b ∷ behind)) k
        (together_waits before behind b o h)
    go false m true h =
        let z : true ≡ false =
        (λ i. still_by (sym o i) (sym m i)) ∙ ap (λ x. x && is_still b) (sym h) ∙ e in absurd cc

operands_open : (before : List Value) (behind : List Term) (b : Term) (k : List Value → Act)
    → standing b ≡ open_yet → after_all (map term.Value before ++ b ∷ behind) k ≡ stuck
operands_open [] behind b k o = after_open b _ o
operands_open (v ∷ before) behind b k o =
    after_value v _ ∙ operands_open before behind b (λ vs. k (v ∷ vs)) o

stuck_open : (p : Program) (f : Frame) (b : Term) → standing b ≡ open_yet → passes f b ≡ false
    → act_at p (on_layer f b) ≡ stuck
stuck_open p (in_group before behind) b o e = once_open before behind b _ o e
stuck_open p (in_call set before behind) b o e = once_open before behind b _ o e
stuck_open p (in_function argument) b o e = once_open [] (argument ∷ []) b _ o e
stuck_open p (in_argument function) b o e = once_open (function ∷ []) [] b _ o e
stuck_open p (in_first_half second) b o e = once_open [] (second ∷ []) b _ o e
stuck_open p (in_second_half first) b o e = once_open (first ∷ []) [] b _ o e
stuck_open p (in_first_reduced set second) b o e = once_open [] (second ∷ []) b _ o e
stuck_open p (in_second_reduced set first) b o e = once_open (first ∷ []) [] b _ o e
stuck_open p (in_block before behind) b o e = once_open before behind b _ o e
stuck_open p in_throw b o e = after_open b _ o
stuck_open p (in_operand set before behind) b o e = operands_open before behind b _ o
stuck_open p (in_fill_size ty value) b o e = after_open b _ o
stuck_open p (in_fill_value ty size) b o e = after_value size _ ∙ after_open b _ o
stuck_open p (in_let xs rest) b o e = after_open b _ o
stuck_open p (in_mutable x ty rest) b o e = after_open b _ o
stuck_open p (in_write slot) b o e = after_open b _ o
stuck_open p (in_field field) b o e = after_open b _ o
stuck_open p (in_field_target field value) b o e = after_open b _ o
stuck_open p (in_field_value object field) b o e = after_value object _ ∙ after_open b _ o
stuck_open p (in_element index) b o e = after_open b _ o
stuck_open p (in_index array) b o e = after_value array _ ∙ after_open b _ o
stuck_open p (in_element_target index value) b o e = after_open b _ o
stuck_open p (in_element_index array value) b o e = after_value array _ ∙ after_open b _ o
stuck_open p (in_element_value array index) b o e =
    after_value array _ ∙ after_value index _ ∙ after_open b _ o
stuck_open p in_size b o e = after_open b _ o
stuck_open p (in_then rest) b o e = after_open b _ o
stuck_open p (in_test one two) b o e = after_open b _ o
stuck_open p (in_subject x clauses other) b o e = after_open b _ o
stuck_open p (in_source s1 s2 x body) b o e = after_open b _ o
stuck_open p (in_reduced_source s1 s2 set empty x body) b o e = after_open b _ o
stuck_open p (in_try x clauses last) b o e = ap (trying p x clauses last) o
stuck_open p in_stepped b o e = refl

finished_stuck : (p : Program) (a : Term) → Finished a → act p a ≡ stuck
finished_stuck p a (ends.Finished.value v e) = ap (act_at p) (ap out-Term e ∙ outs-Value v)
finished_stuck p a (ends.Finished.throw v e) =
    ap (act_at p) (ap out-Term e ∙ outs-Throw (term.Value v)) ∙ after_value v _

pub acts_ready : (p : Program) (a : Term) → (act p a ≡ stuck → ⊥) → Ready a
acts_ready p a n =
    record { unfinished = λ f. n (finished_stuck p a f); no_part = λ f b e. go f b e (decide b) }
  where
    unfinished : (f : Frame) (b : Term) → a ≡ on f b → standing b ≡ open_yet → (x : Bool)
        → passes f b ≡ x → Finished b ⊎ (passes f b ≡ true)
    unfinished f b e o true h = inr h
    unfinished f b e o false h =
        absurd (n (ap (act_at p) (ap out-Term e ∙ out_on f b o) ∙ stuck_open p f b o h))

    go : (f : Frame) (b : Term) → a ≡ on f b → (standing b ≡ open_yet) ⊎ Finished b
        → Finished b ⊎ (passes f b ≡ true)
    go f b e (inl o) = unfinished f b e o (passes f b) refl
    go f b e (inr h) = inl h

pub acts_not_stuck : (p : Program) (a : Term) (x : Act) → (x ≡ stuck → ⊥) → Acts p a x
    → act p a ≡ stuck → ⊥
acts_not_stuck p a x n (by_itself e) q = n (sym e ∙ q)
acts_not_stuck p a x n (by_call e h i) q = cc

pub does_not_stuck : (p : Program) (inner : Bool) (loc : ℕ) (x : Act) (b : Term) (d : Effect)
    → Does p inner loc x b d → x ≡ stuck → ⊥
does_not_stuck p inner loc x b d k e = subst (λ y. Does p inner loc y b d) e k

pub local_ready : (p : Program) (inner : Bool) (loc : ℕ) (a b : Term) (d : Effect)
    → Local p inner loc a b d → Ready a
local_ready p inner loc a b d (steps x h k) =
    acts_ready p a (acts_not_stuck p a x (does_not_stuck p inner loc x b d k) h)

pub stop_ready : (p : Program) (a : Term) → Acts p a ends_machine → Ready a
stop_ready p a h = acts_ready p a (acts_not_stuck p a ends_machine (λ q. cc) h)

no_frame_atomic : (m : Mode) (body : Term) (f : Frame) (b : Term)
    → Term-F.Atomic m body ≡ on_layer f b → ⊥
no_frame_atomic m body in_throw b e = cc
no_frame_atomic m body _ b e = cc

pub no_frame_asleep : (marks : Marks) (body : Term) (f : Frame) (b : Term)
    → Term-F.Asleep marks body ≡ on_layer f b → ⊥
no_frame_asleep marks body in_throw b e = cc
no_frame_asleep marks body _ b e = cc

layer_ready : (a : Term) (y : Term-F Term Value Closure) → out-Term a ≡ y → standing_at y ≡ open_yet
    → ((f : Frame) (b : Term) → y ≡ on_layer f b → ⊥) → Ready a
layer_ready a y e o nf =
    record {
      unfinished = not_finished a (ap standing_at e ∙ o);
      no_part = λ f b q. go f b q (decide b);
    }
  where
    go : (f : Frame) (b : Term) → a ≡ on f b → (standing b ≡ open_yet) ⊎ Finished b
        → Finished b ⊎ (passes f b ≡ true)
    go f b q (inl h) = absurd (nf f b (sym e ∙ ap out-Term q ∙ out_on f b h))
    go f b q (inr h) = inl h

pub form_ready : (a : Term) (m : Mode) (body : Term) → Form a m body → Ready a
form_ready a m body (fresh e) =
    layer_ready a (Term-F.Atomic m body) (ap out-Term e
    ∙ outs-Atomic m body) refl (no_frame_atomic m body)
form_ready a m body (slept marks n e) =
    layer_ready a (Term-F.Asleep marks body) (ap out-Term e
    ∙ outs-Asleep marks body) refl (no_frame_asleep marks body)

-- In an atomic form stands no open part.
pub form_whole : (a : Term) (m : Mode) (body : Term) → Form a m body → (f : Frame) (b : Term)
    → standing b ≡ open_yet → a ≡ on f b → ⊥
form_whole a m body (fresh e) f b o q =
    no_frame_atomic m body f b (sym (ap out-Term e ∙ outs-Atomic m body) ∙ ap out-Term q
    ∙ out_on f b o)
form_whole a m body (slept marks n e) f b o q =
    no_frame_asleep marks body f b (sym (ap out-Term e ∙ outs-Asleep marks body) ∙ ap out-Term q
    ∙ out_on f b o)
