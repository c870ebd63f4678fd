-- Terms of a run: what stands in a frame, and what may stand there.
use Rattle.std.proofs.Common.{◌≡◌, ℕ, List, [], ◌∷◌, ◌++◌, map, refl, ap, sym, ◌∙◌, subst, ◌⊎◌, inl, inr}
use Rattle.fort_core.specs.declared.term.Term.{Term, Group, out-Term}
use Rattle.fort_core.specs.declared.term.Term as term
use Rattle.fort_core.specs.declared.term.Term.TheVariants.{outs-Value, outs-Group, outs-Call, outs-Operator, outs-Apply, outs-Fill, outs-Let, outs-Mutable, outs-Write, outs-ReadField, outs-WriteField, outs-ReadElement, outs-WriteElement, outs-Size, outs-Then, outs-If, outs-Typecase, outs-For, outs-ForHalves, outs-Reduce, outs-ReduceHalves, outs-Also, outs-Try, outs-Throw, outs-Stepped}
use Rattle.fort_core.specs.declared.term.Term.TheOpen.{Term-F}
use Rattle.fort_core.specs.declared.value.Value.{Value}
use Rattle.fort_core.specs.declared.value.Closure.{Closure}
use Rattle.fort_machine.specs.Ends.{open_yet, standing, Finished, throw_of, group, stepped}
use Rattle.fort_machine.specs.Parts.{in_clauses, parts_of, terms_in, values_in}
use Rattle.fort_machine.specs.Frames.{Frame, in_group, in_call, in_function, in_argument, in_first_half, in_second_half, in_first_reduced, in_second_reduced, in_block, in_throw, in_operand, in_fill_size, in_fill_value, in_let, in_mutable, in_write, in_field, in_field_target, in_field_value, in_element, in_index, in_element_target, in_element_index, in_element_value, in_size, in_then, in_test, in_subject, in_source, in_reduced_source, in_try, in_stepped, on, plug, part_number, with_mark, trodden}
use Rattle.fort_machine.specs.Written.{IsNoValue}
use Rattle.fort_machine.specs.Proper.{RestsUntouched, Resting, resting, AllResting, no_rests, next_rest, RestingValue, AllRestingValues, no_resting_values, next_resting_value, going_in, resting_in, MarksOpen, Proper, proper, AllProper, no_propers, next_proper}
use Rattle.fort_machine.proofs.Standing.{decide, values_open, group_open, stepped_open, stepped_finished}
use Rattle.fort_machine.proofs.Places.{on_layer, plug_open}
use Rattle.fort_machine.proofs.Resting.{one_value_rests, Grouped, as_form, as_value, grouped, EachOf, values_at_rest, tuple_rests}

-- a term of a run by its form
pub proper_at : (t : Term) (y : Term-F Term Value Closure) → out-Term t ≡ y → MarksOpen y
    → IsNoValue y → AllProper (going_in y) → AllResting (resting_in y)
    → AllRestingValues (values_in y) → Proper t
proper_at t y e m n gs rs vs =
    proper (subst MarksOpen (sym e) m) (subst IsNoValue (sym e) n)
    (subst (λ z. AllProper (going_in z)) (sym e) gs)
    (subst (λ z. AllResting (resting_in z)) (sym e) rs)
    (subst (λ z. AllRestingValues (values_in z)) (sym e) vs)

pub record Propers (y : Term-F Term Value Closure) : Type 0 where
  pub marks : MarksOpen y
  pub no_value : IsNoValue y
  pub going : AllProper (going_in y)
  pub rests : AllResting (resting_in y)
  pub values : AllRestingValues (values_in y)

pub propers_of : {t : Term} → Proper t → Propers (out-Term t)
propers_of (proper m n gs rs vs) =
    record { marks = m; no_value = n; going = gs; rests = rs; values = vs }

pub propers_as : {t : Term} (y : Term-F Term Value Closure) → out-Term t ≡ y → Proper t → Propers y
propers_as y e h = subst Propers e (propers_of h)

pub one_proper : {t : Term} {ts : List Term} → AllProper (t ∷ ts) → Proper t
one_proper (next_proper h hs) = h

pub proper_value : {v : Value} → RestingValue v → Proper (term.Value v)
proper_value {v} h =
    proper_at (term.Value v) _ (outs-Value v) tt tt no_propers no_rests
    (next_resting_value h no_resting_values)

pub value_proper : {v : Value} → Proper (term.Value v) → RestingValue v
value_proper {v} h = one_value_rests (propers_as _ (outs-Value v) h).values

pub proper_throw : {v : Value} → RestingValue v → Proper (throw_of v)
proper_throw {v} h =
    proper_at (throw_of v) _ (outs-Throw (term.Value v)) tt tt
    (next_proper (proper_value h) no_propers) no_rests no_resting_values

pub throw_proper : {v : Value} → Proper (throw_of v) → RestingValue v
throw_proper {v} h = value_proper (one_proper (propers_as _ (outs-Throw (term.Value v)) h).going)

-- what is at rest may go
abbrev EachBoth : List Term → Type 0
EachBoth [] = Unit {0}
EachBoth (t ∷ ts) = (Resting t × Proper t) × EachBoth ts

all_go : (ts : List Term) → EachBoth ts → AllProper ts
all_go [] h = no_propers
all_go (t ∷ ts) h = next_proper h.0.1 (all_go ts h.1)

all_rest : (ts : List Term) → EachBoth ts → AllResting ts
all_rest [] h = no_rests
all_rest (t ∷ ts) h = next_rest h.0.0 (all_rest ts h.1)

going_part : (y : Term-F Term Value Closure) → EachBoth (terms_in y) → AllProper (going_in y)
going_part (Term-F.Fn c) h = no_propers
going_part (Term-F.Let xs a b) h = next_proper h.0.1 no_propers
going_part (Term-F.Mutable x ty a b) h = next_proper h.0.1 no_propers
going_part (Term-F.Then a b) h = next_proper h.0.1 no_propers
going_part (Term-F.If c a b) h = next_proper h.0.1 no_propers
going_part (Term-F.While c b) h = no_propers
going_part (Term-F.Typecase x a cs b) h = next_proper h.0.1 no_propers
going_part (Term-F.For order s x a b) h = next_proper h.0.1 no_propers
going_part (Term-F.Reduce order s set empty x a b) h = next_proper h.1.0.1 no_propers
going_part (Term-F.Try a x cs last) h = next_proper h.0.1 no_propers
going_part (Term-F.Atomic m a) h = no_propers
going_part (Term-F.Asleep marks a) h = no_propers
going_part form h = all_go (parts_of form) h

resting_part : (y : Term-F Term Value Closure) → EachBoth (terms_in y) → AllResting (resting_in y)
resting_part (Term-F.Fn c) h = all_rest (c.body ∷ []) h
resting_part (Term-F.Let xs a b) h = all_rest (b ∷ []) h.1
resting_part (Term-F.Mutable x ty a b) h = all_rest (b ∷ []) h.1
resting_part (Term-F.Then a b) h = all_rest (b ∷ []) h.1
resting_part (Term-F.If c a b) h = all_rest (a ∷ b ∷ []) h.1
resting_part (Term-F.While c b) h = all_rest (c ∷ b ∷ []) h
resting_part (Term-F.Typecase x a cs b) h = all_rest (b ∷ in_clauses cs) h.1
resting_part (Term-F.For order s x a b) h = all_rest (b ∷ []) h.1
resting_part (Term-F.Reduce order s set empty x a b) h = next_rest h.0.0 (all_rest (b ∷ []) h.1.1)
resting_part (Term-F.Try a x cs last) h = all_rest _ h.1
resting_part (Term-F.Atomic m a) h = all_rest (a ∷ []) h
resting_part (Term-F.Asleep marks a) h = all_rest (a ∷ []) h
resting_part form h = no_rests

marks_untouched : (y : Term-F Term Value Closure) → RestsUntouched y → MarksOpen y
marks_untouched (Term-F.Stepped a) u = absurd u
marks_untouched _ u = tt

mutual
  pub rest_proper : {t : Term} → Resting t → Proper t
  rest_proper {t} (resting u n ts vs) =
      let h = each_both ts
      in proper (marks_untouched (out-Term t) u) n (going_part (out-Term t) h)
      (resting_part (out-Term t) h) vs

  each_both : {ts : List Term} → AllResting ts → EachBoth ts
  each_both no_rests = tt
  each_both (next_rest h hs) = ((h, rest_proper h), each_both hs)

-- a tuple is a form or its value
each_proper : {ts : List Term} → AllProper ts → EachOf Proper (λ v h. value_proper h) ts
each_proper no_propers = tt
each_proper (next_proper h hs) = (h, each_proper hs)

pub group_proper : (ts : List Term) → AllProper ts → Proper (group ts)
group_proper ts h = go (grouped ts)
  where
    go : Grouped ts → Proper (group ts)
    go (as_form e) =
        proper_at (group ts) _ (ap out-Term e ∙ outs-Group ts) tt e h no_rests no_resting_values
    go (as_value vs e q) =
        subst Proper (sym q)
        (proper_value
        (tuple_rests vs
        (values_at_rest Proper (λ v h. value_proper h) ts vs e (each_proper h))))

-- a part with its mark
pub stepped_proper : (b : Term) → Proper b → Proper (stepped b)
stepped_proper b h = go (decide b)
  where
    go : (standing b ≡ open_yet) ⊎ Finished b → Proper (stepped b)
    go (inl o) =
        proper_at (stepped b) _ (ap out-Term (stepped_open b o)
        ∙ outs-Stepped b) o tt (next_proper h no_propers) no_rests no_resting_values
    go (inr f) = subst Proper (sym (stepped_finished b f)) h

-- the parts that go before and behind the one that is left out
abbrev goes_before : Frame → List Term
goes_before (in_group before behind) = before
goes_before (in_call set before behind) = before
goes_before (in_block before behind) = before
goes_before (in_argument function) = function ∷ []
goes_before (in_second_half first) = first ∷ []
goes_before (in_second_reduced set first) = first ∷ []
goes_before (in_operand set before behind) = map term.Value before
goes_before (in_fill_value ty size) = term.Value size ∷ []
goes_before (in_field_value object field) = term.Value object ∷ []
goes_before (in_index array) = term.Value array ∷ []
goes_before (in_element_index array value) = term.Value array ∷ []
goes_before (in_element_value array index) = term.Value array ∷ term.Value index ∷ []
goes_before _ = []

abbrev goes_behind : Frame → List Term
goes_behind (in_group before behind) = behind
goes_behind (in_call set before behind) = behind
goes_behind (in_block before behind) = behind
goes_behind (in_function argument) = argument ∷ []
goes_behind (in_first_half second) = second ∷ []
goes_behind (in_first_reduced set second) = second ∷ []
goes_behind (in_operand set before behind) = behind
goes_behind (in_fill_size ty value) = value ∷ []
goes_behind (in_field_target field value) = value ∷ []
goes_behind (in_element index) = index ∷ []
goes_behind (in_element_target index value) = index ∷ value ∷ []
goes_behind (in_element_index array value) = value ∷ []
goes_behind _ = []

-- neither a tuple's part nor a mark
abbrev IsPlain : Frame → Type 0
IsPlain (in_group before behind) = ⊥
IsPlain in_stepped = ⊥
IsPlain _ = Unit {0}

out_plain : (f : Frame) (t : Term) → IsPlain f → out-Term (on f t) ≡ on_layer f t
out_plain (in_call set before behind) t n = (outs-Call _ _)
out_plain (in_function argument) t n = (outs-Apply _ _)
out_plain (in_argument function) t n = (outs-Apply _ _)
out_plain (in_first_half second) t n = (outs-ForHalves _ _)
out_plain (in_second_half first) t n = (outs-ForHalves _ _)
out_plain (in_first_reduced set second) t n = (outs-ReduceHalves _ _ _)
out_plain (in_second_reduced set first) t n = (outs-ReduceHalves _ _ _)
out_plain (in_block before behind) t n = (outs-Also _)
out_plain in_throw t n = (outs-Throw _)
out_plain (in_operand set before behind) t n = (outs-Operator _ _)
out_plain (in_fill_size ty value) t n = (outs-Fill _ _ _)
out_plain (in_fill_value ty size) t n = (outs-Fill _ _ _)
out_plain (in_let xs rest) t n = (outs-Let _ _ _)
out_plain (in_mutable x ty rest) t n = (outs-Mutable _ _ _ _)
out_plain (in_write slot) t n = (outs-Write _ _)
out_plain (in_field field) t n = (outs-ReadField _ _)
out_plain (in_field_target field value) t n = (outs-WriteField _ _ _)
out_plain (in_field_value object field) t n = (outs-WriteField _ _ _)
out_plain (in_element index) t n = (outs-ReadElement _ _)
out_plain (in_index array) t n = (outs-ReadElement _ _)
out_plain (in_element_target index value) t n = (outs-WriteElement _ _ _)
out_plain (in_element_index array value) t n = (outs-WriteElement _ _ _)
out_plain (in_element_value array index) t n = (outs-WriteElement _ _ _)
out_plain in_size t n = (outs-Size _)
out_plain (in_then rest) t n = (outs-Then _ _)
out_plain (in_test one two) t n = (outs-If _ _ _)
out_plain (in_subject x clauses other) t n = (outs-Typecase _ _ _ _)
out_plain (in_source s1 s2 x body) t n = (outs-For _ _ _ _ _)
out_plain (in_reduced_source s1 s2 set empty x body) t n = (outs-Reduce _ _ _ _ _ _ _)
out_plain (in_try x clauses last) t n = (outs-Try _ _ _ _)
out_plain (in_group before behind) t n = absurd n
out_plain in_stepped t n = absurd n

going_round : (f : Frame) (t : Term) → going_in (on_layer f t) ≡ goes_before f ++ t ∷ goes_behind f
going_round (in_group before behind) t = refl
going_round _ t = refl

resting_round : (f : Frame) (t u : Term) → resting_in (on_layer f t) ≡ resting_in (on_layer f u)
resting_round (in_group before behind) t u = refl
resting_round _ t u = refl

no_values_round : (f : Frame) (t : Term) → values_in (on_layer f t) ≡ []
no_values_round (in_group before behind) t = refl
no_values_round _ t = refl

plain_marks : (f : Frame) (t : Term) → IsPlain f → MarksOpen (on_layer f t)
plain_marks in_stepped t n = absurd n
plain_marks _ t n = tt

plain_no_value : (f : Frame) (t : Term) → IsPlain f → IsNoValue (on_layer f t)
plain_no_value (in_group before behind) t n = absurd n
plain_no_value _ t n = tt

-- a part in the middle
abbrev Middle : (Term → List Term) → Term → Type 0
Middle at a = Proper a × ((b : Term) → Proper b → AllProper (at b))

middle : (pre post : List Term) (a : Term) → AllProper (pre ++ a ∷ post)
    → Middle (λ b. pre ++ b ∷ post) a
middle [] post a (next_proper h hs) = (h, λ b i. next_proper i hs)
middle (t ∷ pre) post a (next_proper h hs) =
    let m = middle pre post a hs in (m.0, λ b i. next_proper h (m.1 b i))

-- a part may be replaced by another one
abbrev pub Place : (Term → Term) → Term → Type 0
Place at a = Proper a × ((b : Term) → Proper b → Proper (at b))

plain_frame : (f : Frame) (a : Term) → IsPlain f → Proper (on f a) → Place (on f) a
plain_frame f a n h =
    let r = propers_as (on_layer f a) (out_plain f a n) h in
    let m = middle (goes_before f) (goes_behind f) a (subst AllProper (going_round f a) r.going)
    in (
      m.0,
      λ b i. proper_at (on f b) (on_layer f b) (out_plain f b n) (plain_marks f b n)
          (plain_no_value f b n) (subst AllProper (sym (going_round f b)) (m.1 b i))
          (subst AllResting (resting_round f a b) r.rests)
          (subst AllRestingValues (sym (no_values_round f b)) no_resting_values),
    )

frame_proper : (f : Frame) (a : Term) → standing a ≡ open_yet → Proper (on f a) → Place (on f) a
frame_proper (in_group before behind) a o h =
    let m = middle before behind a
    (propers_as _
    (ap out-Term (group_open (before ++ a ∷ behind) (values_open before behind a o))
    ∙ outs-Group (before ++ a ∷ behind)) h).going in
    (m.0, λ b i. group_proper (before ++ b ∷ behind) (m.1 b i))
frame_proper in_stepped a o h = (
  one_proper (propers_as _ (ap out-Term (stepped_open a o) ∙ outs-Stepped a) h).going,
  λ b i. stepped_proper b i,
)
frame_proper f a o h = plain_frame f a tt h

mark_proper : (b : Term) (ns : List ℕ) (fs : List Frame) → Proper (plug fs b)
    → Proper (plug (with_mark ns fs) b)
mark_proper b [] fs h = h
mark_proper b (n ∷ ns) [] h = stepped_proper b h
mark_proper b (n ∷ ns) (in_stepped ∷ fs) h = h
mark_proper b (n ∷ ns) (f ∷ fs) h = stepped_proper (plug (f ∷ fs) b) h

-- a part at any depth may be, with the marks of the way
pub plug_proper : (fs : List Frame) (a : Term) → standing a ≡ open_yet → Proper (plug fs a)
    → Place (plug (trodden fs)) a
plug_proper [] a o h = (h, λ b i. i)
plug_proper (f ∷ fs) a o h =
    let p = frame_proper f (plug fs a) (plug_open fs a o) h in
    let q = plug_proper fs a o p.0 in (
      q.0,
      λ b i. p.1 (plug (with_mark (part_number f) (trodden fs)) b)
          (mark_proper b (part_number f) (trodden fs) (q.1 b i)),
    )
