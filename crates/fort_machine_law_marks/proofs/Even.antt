-- Terms in which marks stand round parts of parallel forms only.
use Rattle.std.proofs.Common.{◌≡◌, ℕ, Bool, true, false, List, [], ◌∷◌, ◌++◌, map, refl, ap, sym, ◌∙◌, subst, ◌⊎◌, inl, inr}
use Rattle.fort_core.specs.declared.term.Term.{Term, Group, Asleep, Stepped, out-Term}
use Rattle.fort_core.specs.declared.term.Term as term
use Rattle.fort_core.specs.declared.term.Term.TheVariants.{outs-Also, outs-Apply, outs-Asleep, outs-Call, outs-Fill, outs-For, outs-ForHalves, outs-If, outs-Let, outs-Mutable, outs-Operator, outs-ReadElement, outs-ReadField, outs-Reduce, outs-ReduceHalves, outs-Size, outs-Stepped, outs-Then, outs-Throw, outs-Try, outs-Typecase, outs-Value, outs-Write, outs-WriteElement, outs-WriteField}
use Rattle.fort_core.specs.declared.term.Term.TheOpen.{Term-F}
use Rattle.fort_core.specs.declared.value.Value.{Value}
use Rattle.fort_core.specs.declared.value.Closure.{Closure}
use Rattle.fort_machine.specs.Ends.{open_yet, standing, Finished, throw_of, group, stepped, is_mark, has_stepped}
use Rattle.fort_machine.specs.Parts.{parts_of, terms_in}
use Rattle.fort_machine.specs.Frames.{Frame, in_group, in_call, in_function, in_argument, in_first_half, in_second_half, in_first_reduced, in_second_reduced, in_block, in_throw, in_operand, in_fill_size, in_fill_value, in_let, in_mutable, in_write, in_field, in_field_target, in_field_value, in_element, in_index, in_element_target, in_element_index, in_element_value, in_size, in_then, in_test, in_subject, in_source, in_reduced_source, in_try, in_stepped, on, plug, part_number, with_mark, trodden}
use Rattle.fort_machine.specs.Proper.{RestsUntouched, Resting, resting, AllResting, no_rests, next_rest, going_in}
use Rattle.fort_machine.proofs.Standing.{decide, stepped_open, stepped_finished}
use Rattle.fort_machine.proofs.Places.{on_layer, out_on, plug_open}
use Rattle.fort_machine.proofs.Inside.{out_group}
use Rattle.fort_machine_law_marks.specs.Marks.{LeavesPart}

-- the parts of a parallel form may be marked
abbrev pub may_in : Term-F Term Value Closure → Bool
may_in (Term-F.Group ts) = true
may_in (Term-F.Call set ts) = true
may_in (Term-F.Apply f a) = true
may_in (Term-F.ForHalves a b) = true
may_in (Term-F.ReduceHalves set a b) = true
may_in (Term-F.Also ts) = true
may_in _ = false

abbrev pub IsAllowed : Bool → Term-F Term Value Closure → Type 0
IsAllowed may (Term-F.Stepped a) = may ≡ true
IsAllowed may _ = Unit {0}

mutual
  pub data Even : Bool → Term → Type 0 where
    even : {may : Bool} {t : Term} → IsAllowed may (out-Term t)
        → AllEven (may_in (out-Term t)) (going_in (out-Term t)) → Even may t

  pub data AllEven : Bool → List Term → Type 0 where
    no_evens : {may : Bool} → AllEven may []
    next_even : {may : Bool} {t : Term} {ts : List Term} → Even may t → AllEven may ts
        → AllEven may (t ∷ ts)

even_at : (may : Bool) (t : Term) (y : Term-F Term Value Closure) → out-Term t ≡ y → IsAllowed may y
    → AllEven (may_in y) (going_in y) → Even may t
even_at may t y e a gs =
    even (subst (IsAllowed may) (sym e) a) (subst (λ z. AllEven (may_in z) (going_in z)) (sym e) gs)

pub record Evens (may : Bool) (y : Term-F Term Value Closure) : Type 0 where
  pub allowed : IsAllowed may y
  pub going : AllEven (may_in y) (going_in y)

evens_of : {may : Bool} {t : Term} → Even may t → Evens may (out-Term t)
evens_of (even a gs) = record { allowed = a; going = gs }

pub evens_as : {may : Bool} {t : Term} (y : Term-F Term Value Closure) → out-Term t ≡ y → Even may t
    → Evens may y
evens_as {may = may} y e h = subst (Evens may) e (evens_of h)

one_even : {may : Bool} {t : Term} {ts : List Term} → AllEven may (t ∷ ts) → Even may t
one_even (next_even h hs) = h

-- a form that is no mark may stand anywhere
allowed_here : (may : Bool) (y : Term-F Term Value Closure) → is_mark y ≡ false → IsAllowed may y
allowed_here may (Term-F.Stepped a) e = absurd cc
allowed_here may _ e = tt

unmarked : (may other : Bool) (t : Term) → Even may t → has_stepped t ≡ false → Even other t
unmarked may other t h e = let r = evens_of h in even (allowed_here other (out-Term t) e) r.going

weaker_at : (may : Bool) (y : Term-F Term Value Closure) → IsAllowed false y → is_mark y ≡ false
weaker_at may (Term-F.Stepped a) e = absurd cc
weaker_at may _ e = refl

pub weaker : (may : Bool) (t : Term) → Even false t → Even may t
weaker may t h = let r = evens_of h in unmarked false may t h (weaker_at may (out-Term t) r.allowed)

pub even_value : (may : Bool) (v : Value) → Even may (term.Value v)
even_value may v = even_at may (term.Value v) _ (outs-Value v) tt no_evens

pub even_throw : (may : Bool) (v : Value) → Even may (throw_of v)
even_throw may v =
    even_at may (throw_of v) _ (outs-Throw (term.Value v)) tt
    (next_even (even_value false v) no_evens)

-- what is at rest
abbrev EachEven : List Term → Type 0
EachEven [] = Unit {0}
EachEven (t ∷ ts) = ((may : Bool) → Even may t) × EachEven ts

all_even : (may : Bool) (ts : List Term) → EachEven ts → AllEven may ts
all_even may [] h = no_evens
all_even may (t ∷ ts) h = next_even (h.0 may) (all_even may ts h.1)

going_even : (may : Bool) (y : Term-F Term Value Closure) → EachEven (terms_in y)
    → AllEven may (going_in y)
going_even may (Term-F.Fn c) h = no_evens
going_even may (Term-F.Let xs a b) h = next_even (h.0 may) no_evens
going_even may (Term-F.Mutable x ty a b) h = next_even (h.0 may) no_evens
going_even may (Term-F.Then a b) h = next_even (h.0 may) no_evens
going_even may (Term-F.If c a b) h = next_even (h.0 may) no_evens
going_even may (Term-F.While c b) h = no_evens
going_even may (Term-F.Typecase x a cs b) h = next_even (h.0 may) no_evens
going_even may (Term-F.For order s x a b) h = next_even (h.0 may) no_evens
going_even may (Term-F.Reduce order s set empty x a b) h = next_even (h.1.0 may) no_evens
going_even may (Term-F.Try a x cs last) h = next_even (h.0 may) no_evens
going_even may (Term-F.Atomic m a) h = no_evens
going_even may (Term-F.Asleep marks a) h = no_evens
going_even may form h = all_even may (parts_of form) h

untouched_mark : (y : Term-F Term Value Closure) → RestsUntouched y → is_mark y ≡ false
untouched_mark (Term-F.Stepped a) u = absurd u
untouched_mark _ u = refl

mutual
  pub rest_even : {t : Term} → Resting t → (may : Bool) → Even may t
  rest_even {t} (resting u n ts vs) may =
      even (allowed_here may (out-Term t) (untouched_mark (out-Term t) u))
      (going_even (may_in (out-Term t)) (out-Term t) (each_even ts))

  each_even : {ts : List Term} → AllResting ts → EachEven ts
  each_even no_rests = tt
  each_even (next_rest h hs) = ((λ may. rest_even h may), each_even hs)

pub sleeper_even : (may : Bool) (t body : Term) (marks : _) → t ≡ Asleep marks body → Even may t
sleeper_even may t body marks e =
    even_at may t _ (ap out-Term e ∙ outs-Asleep marks body) tt no_evens

-- a part of a form
abbrev numbered : List ℕ → Bool
numbered [] = false
numbered (n ∷ ns) = true

abbrev pub may_at : Frame → Bool
may_at f = numbered (part_number f)

abbrev before : Frame → List Term
before (in_group pre post) = pre
before (in_call set pre post) = pre
before (in_block pre post) = pre
before (in_argument function) = function ∷ []
before (in_second_half first) = first ∷ []
before (in_second_reduced set first) = first ∷ []
before (in_operand set pre post) = map term.Value pre
before (in_fill_value ty size) = term.Value size ∷ []
before (in_field_value object field) = term.Value object ∷ []
before (in_index array) = term.Value array ∷ []
before (in_element_index array value) = term.Value array ∷ []
before (in_element_value array index) = term.Value array ∷ term.Value index ∷ []
before _ = []

abbrev behind : Frame → List Term
behind (in_group pre post) = post
behind (in_call set pre post) = post
behind (in_block pre post) = post
behind (in_function argument) = argument ∷ []
behind (in_first_half second) = second ∷ []
behind (in_first_reduced set second) = second ∷ []
behind (in_operand set pre post) = post
behind (in_fill_size ty value) = value ∷ []
behind (in_field_target field value) = value ∷ []
behind (in_element index) = index ∷ []
behind (in_element_target index value) = index ∷ value ∷ []
behind (in_element_index array value) = value ∷ []
behind _ = []

going_round : (f : Frame) (t : Term) → going_in (on_layer f t) ≡ before f ++ t ∷ behind f
going_round (in_group pre post) t = refl
going_round _ t = refl

may_round : (f : Frame) (t : Term) → may_in (on_layer f t) ≡ may_at f
may_round (in_group pre post) t = refl
may_round _ t = refl

-- the mark's own frame
abbrev is_marking : Frame → Bool
is_marking in_stepped = true
is_marking _ = false

mark_round : (f : Frame) (t : Term) → is_marking f ≡ false → is_mark (on_layer f t) ≡ false
mark_round in_stepped t e = absurd cc
mark_round (in_group pre post) t e = refl
mark_round _ t e = refl

allowed_round : (may : Bool) (f : Frame) (t u : Term) → IsAllowed may (on_layer f t)
    → IsAllowed may (on_layer f u)
allowed_round may (in_group pre post) t u h = tt
allowed_round may in_stepped t u h = h
allowed_round may _ t u h = tt

abbrev Middle : Bool → (Term → List Term) → Term → Type 0
Middle may at a = Even may a × ((b : Term) → Even may b → AllEven may (at b))

middle : (may : Bool) (pre post : List Term) (a : Term) → AllEven may (pre ++ a ∷ post)
    → Middle may (λ b. pre ++ b ∷ post) a
middle may [] post a (next_even h hs) = (h, λ b i. next_even i hs)
middle may (t ∷ pre) post a (next_even h hs) =
    let m = middle may pre post a hs in (m.0, λ b i. next_even h (m.1 b i))

-- a part may be replaced by another one
abbrev Place : Bool → Bool → (Term → Term) → Term → Type 0
Place may inner at a = Even inner a × ((b : Term) → Even inner b → Even may (at b))

-- neither a tuple's part nor a mark
abbrev IsPlain : Frame → Type 0
IsPlain (in_group pre post) = ⊥
IsPlain in_stepped = ⊥
IsPlain _ = Unit {0}

out_plain : (f : Frame) (t : Term) → IsPlain f → out-Term (on f t) ≡ on_layer f t
out_plain (in_call set pre post) t n = (outs-Call _ _)
out_plain (in_function argument) t n = (outs-Apply _ _)
out_plain (in_argument function) t n = (outs-Apply _ _)
out_plain (in_first_half second) t n = (outs-ForHalves _ _)
out_plain (in_second_half first) t n = (outs-ForHalves _ _)
out_plain (in_first_reduced set second) t n = (outs-ReduceHalves _ _ _)
out_plain (in_second_reduced set first) t n = (outs-ReduceHalves _ _ _)
out_plain (in_block pre post) t n = (outs-Also _)
out_plain in_throw t n = (outs-Throw _)
out_plain (in_operand set pre post) t n = (outs-Operator _ _)
out_plain (in_fill_size ty value) t n = (outs-Fill _ _ _)
out_plain (in_fill_value ty size) t n = (outs-Fill _ _ _)
out_plain (in_let xs rest) t n = (outs-Let _ _ _)
out_plain (in_mutable x ty rest) t n = (outs-Mutable _ _ _ _)
out_plain (in_write slot) t n = (outs-Write _ _)
out_plain (in_field field) t n = (outs-ReadField _ _)
out_plain (in_field_target field value) t n = (outs-WriteField _ _ _)
out_plain (in_field_value object field) t n = (outs-WriteField _ _ _)
out_plain (in_element index) t n = (outs-ReadElement _ _)
out_plain (in_index array) t n = (outs-ReadElement _ _)
out_plain (in_element_target index value) t n = (outs-WriteElement _ _ _)
out_plain (in_element_index array value) t n = (outs-WriteElement _ _ _)
out_plain (in_element_value array index) t n = (outs-WriteElement _ _ _)
out_plain in_size t n = (outs-Size _)
out_plain (in_then rest) t n = (outs-Then _ _)
out_plain (in_test one two) t n = (outs-If _ _ _)
out_plain (in_subject x clauses other) t n = (outs-Typecase _ _ _ _)
out_plain (in_source s1 s2 x body) t n = (outs-For _ _ _ _ _)
out_plain (in_reduced_source s1 s2 set empty x body) t n = (outs-Reduce _ _ _ _ _ _ _)
out_plain (in_try x clauses last) t n = (outs-Try _ _ _ _)
out_plain (in_group pre post) t n = absurd n
out_plain in_stepped t n = absurd n

plain_even : (may : Bool) (f : Frame) (a : Term) → IsPlain f → is_marking f ≡ false
    → Even may (on f a) → Place may (may_at f) (on f) a
plain_even may f a n none h =
    let r = evens_as (on_layer f a) (out_plain f a n) h in
    let m = middle (may_at f) (before f) (behind f) a
    (subst (λ ts. AllEven (may_at f) ts) (going_round f a)
    (subst (λ k. AllEven k (going_in (on_layer f a))) (may_round f a) r.going)) in (
      m.0,
      λ b i. even_at may (on f b) (on_layer f b) (out_plain f b n)
          (allowed_round may f a b r.allowed)
          (subst (λ k. AllEven k (going_in (on_layer f b))) (sym (may_round f b))
          (subst (λ ts. AllEven (may_at f) ts) (sym (going_round f b)) (m.1 b i))),
    )

group_even : (may : Bool) (ts : List Term) → AllEven true ts → Even may (group ts)
group_even may ts h = go (out_group ts)
  where
    go : (out-Term (group ts) ≡ Term-F.Group ts)
        ⊎ ((v : Value) × (out-Term (group ts) ≡ Term-F.Value v)) → Even may (group ts)
    go (inl e) = even_at may (group ts) _ e tt h
    go (inr (v, e)) = even_at may (group ts) _ e tt no_evens

stepped_even : (b : Term) → Even false b → Even true (stepped b)
stepped_even b h = go (decide b)
  where
    go : (standing b ≡ open_yet) ⊎ Finished b → Even true (stepped b)
    go (inl o) =
        even_at true (stepped b) _ (ap out-Term (stepped_open b o)
        ∙ outs-Stepped b) refl (next_even h no_evens)
    go (inr f) = weaker true (stepped b) (subst (Even false) (sym (stepped_finished b f)) h)

mark_even : (may : Bool) (a : Term) → standing a ≡ open_yet → Even may (stepped a)
    → Place may false stepped a
mark_even may a o h =
    let r = evens_as (Term-F.Stepped a) (ap out-Term (stepped_open a o) ∙ outs-Stepped a) h in
    (one_even r.going, λ b i. subst (λ k. Even k (stepped b)) (sym r.allowed) (stepped_even b i))

frame_even : (may : Bool) (f : Frame) (a : Term) → standing a ≡ open_yet → Even may (on f a)
    → Place may (may_at f) (on f) a
frame_even may (in_group pre post) a o h =
    let m = middle true pre post a
    (evens_as (Term-F.Group (pre ++ a ∷ post)) (out_on (in_group pre post) a o) h).going in
    (m.0, λ b i. group_even may (pre ++ b ∷ post) (m.1 b i))
frame_even may in_stepped a o h = mark_even may a o h
frame_even may f a o h = plain_even may f a tt refl h

-- no form but the mark's is a mark
no_mark : (f : Frame) (b : Term) → is_marking f ≡ false → has_stepped (on f b) ≡ false
no_mark (in_group pre post) b e = go (out_group (pre ++ b ∷ post))
  where
    go : (out-Term (group (pre ++ b ∷ post)) ≡ Term-F.Group (pre ++ b ∷ post))
        ⊎ ((v : Value) × (out-Term (group (pre ++ b ∷ post)) ≡ Term-F.Value v))
        → has_stepped (group (pre ++ b ∷ post)) ≡ false
    go (inl q) = ap is_mark q
    go (inr (v, q)) = ap is_mark q
no_mark in_stepped b e = absurd cc
no_mark f b e = ap is_mark (out_plain f b tt) ∙ mark_round f b refl

-- the mark of a part
marked_even : (b : Term) (ns : List ℕ) (fs : List Frame) → Even false b
    → Even (numbered ns) (plug fs b) → Even (numbered ns) (plug (with_mark ns fs) b)
marked_even b [] fs hb h = h
marked_even b (n ∷ ns) [] hb h = stepped_even b hb
marked_even b (n ∷ ns) (in_stepped ∷ fs) hb h = h
marked_even b (n ∷ ns) (f ∷ fs) hb h =
    stepped_even (plug (f ∷ fs) b)
    (unmarked true false (plug (f ∷ fs) b) h (no_mark f (plug fs b) refl))

-- at any depth
abbrev pub may_inside : Bool → List Frame → Bool
may_inside may [] = may
may_inside may (f ∷ fs) = may_inside (may_at f) fs

pub record EvenPlace (may : Bool) (fs : List Frame) (a : Term) : Type 0 where
  pub inner : Even (may_inside may fs) a
  pub after_step : (b : Term) → Even false b → Even may (plug (trodden fs) b)

pub plug_even : (may : Bool) (fs : List Frame) (a : Term) → standing a ≡ open_yet
    → Even may (plug fs a) → EvenPlace may fs a
plug_even may [] a o h = record { inner = h; after_step = λ b i. weaker may b i }
plug_even may (f ∷ fs) a o h =
    let p = frame_even may f (plug fs a) (plug_open fs a o) h in
    let q = plug_even (may_at f) fs a o p.0 in
    record {
      inner = q.inner;
      after_step =
          λ b i. p.1 (plug (with_mark (part_number f) (trodden fs)) b)
          (marked_even b (part_number f) (trodden fs) i (q.after_step b i));
    }

-- what a mark stands in
lone_part : (f : Frame) (ns : List ℕ) → part_number f ≡ ns → numbered ns ≡ true
    → (n : ℕ) × (part_number f ≡ n ∷ [])
lone_part (in_group pre post) ns e q = (_, refl)
lone_part (in_call set pre post) ns e q = (_, refl)
lone_part (in_function argument) ns e q = (_, refl)
lone_part (in_argument function) ns e q = (_, refl)
lone_part (in_first_half second) ns e q = (_, refl)
lone_part (in_second_half first) ns e q = (_, refl)
lone_part (in_first_reduced set second) ns e q = (_, refl)
lone_part (in_second_reduced set first) ns e q = (_, refl)
lone_part (in_block pre post) ns e q = (_, refl)
lone_part f ns e q = let z : false ≡ true = ap numbered e ∙ q in absurd cc

pub leaves_part : (fs : List Frame) (may : Bool) → may ≡ false → may_inside may fs ≡ true
    → LeavesPart fs
leaves_part [] may e q = let z : false ≡ true = sym e ∙ q in absurd cc
leaves_part (f ∷ []) may e q =
    let k = lone_part f (part_number f) refl q
    in record { outer = []; last = f; number = k.0; are = refl; is_number = k.1 }
leaves_part (f ∷ g ∷ gs) may e q =
    let r = leaves_part (g ∷ gs) false refl q in
    record {
      outer = f ∷ r.outer;
      last = r.last;
      number = r.number;
      are = ap (λ hs. f ∷ hs) r.are;
      is_number = r.is_number;
    }
