-- Sleeping forms in a term, and in what stands round a part.
use Rattle.std.proofs.Common.{◌≡◌, ℕ, Bool, true, false, List, [], ◌∷◌, ◌++◌, map, Option, Some, None, refl, ap, sym, ◌∙◌, subst, ◌⊎◌, inl, inr, if◌then◌else◌}
use Rattle.std.specs.Prelude.{nat_le, option_to_list}
use Rattle.fort_core.specs.declared.term.Term.{Term, Group, Asleep, Stepped, out-Term}
use Rattle.fort_core.specs.declared.term.Term as term
use Rattle.fort_core.specs.declared.term.Term.TheVariants.{outs-Value, outs-Group, outs-Call, outs-Operator, outs-Apply, outs-Fill, outs-Let, outs-Mutable, outs-Write, outs-ReadField, outs-WriteField, outs-ReadElement, outs-WriteElement, outs-Size, outs-Then, outs-If, outs-Typecase, outs-For, outs-ForHalves, outs-Reduce, outs-ReduceHalves, outs-Also, outs-Try, outs-Throw, outs-Asleep, outs-Stepped}
use Rattle.fort_core.specs.declared.term.Term.TheOpen.{Term-F}
use Rattle.fort_core.specs.declared.value.Value.{Value, Tuple}
use Rattle.fort_machine.specs.Texts.{depth, deepest}
use Rattle.fort_machine.specs.Ends.{open_yet, standing, Finished, values_of, tuple_of, group, stepped}
use Rattle.fort_machine.specs.Frames.{Frame, in_group, in_call, in_function, in_argument, in_first_half, in_second_half, in_first_reduced, in_second_reduced, in_block, in_throw, in_operand, in_fill_size, in_fill_value, in_let, in_mutable, in_write, in_field, in_field_target, in_field_value, in_element, in_index, in_element_target, in_element_index, in_element_value, in_size, in_then, in_test, in_subject, in_source, in_reduced_source, in_try, in_stepped, on, plug, part_number, with_mark, trodden}
use Rattle.fort_machine.specs.Parts.{IsOneOf, in_clauses, terms_in, Inside, itself, in_part}
use Rattle.fort_machine.specs.Marked.{Marks}
use Rattle.fort_machine.proofs.Standing.{decide, group_open, stepped_open, stepped_finished}
use Rattle.fort_machine.proofs.Places.{on_layer, out_on, plug_open}
use Rattle.fort_machine.proofs.Ready.{no_frame_asleep}

pub in_middle : (pre post : List Term) (a : Term) → IsOneOf a (pre ++ a ∷ post)
in_middle [] post a = inl refl
in_middle (t ∷ pre) post a = inr (in_middle pre post a)

split_more : (t c b : Term) (pre post : List Term)
    → (c ≡ b) ⊎ ((a : Term) → IsOneOf c (pre ++ a ∷ post))
    → (c ≡ b) ⊎ ((a : Term) → IsOneOf c (t ∷ (pre ++ a ∷ post)))
split_more t c b pre post (inl e) = inl e
split_more t c b pre post (inr k) = inr (λ a. inr (k a))

split_middle : (pre post : List Term) (b c : Term) → IsOneOf c (pre ++ b ∷ post)
    → (c ≡ b) ⊎ ((a : Term) → IsOneOf c (pre ++ a ∷ post))
split_middle [] post b c (inl e) = inl e
split_middle [] post b c (inr h) = inr (λ a. inr h)
split_middle (t ∷ pre) post b c (inl e) = inr (λ a. inl e)
split_middle (t ∷ pre) post b c (inr h) = split_more t c b pre post (split_middle pre post b c h)

-- the terms before and behind the part that is left out
abbrev pre_of : Frame → List Term
pre_of (in_group before behind) = before
pre_of (in_call set before behind) = before
pre_of (in_block before behind) = before
pre_of (in_argument function) = function ∷ []
pre_of (in_second_half first) = first ∷ []
pre_of (in_second_reduced set first) = first ∷ []
pre_of (in_operand set before behind) = map term.Value before
pre_of (in_fill_value ty size) = term.Value size ∷ []
pre_of (in_field_value object field) = term.Value object ∷ []
pre_of (in_index array) = term.Value array ∷ []
pre_of (in_element_index array value) = term.Value array ∷ []
pre_of (in_element_value array index) = term.Value array ∷ term.Value index ∷ []
pre_of (in_reduced_source o s set empty x body) = empty ∷ []
pre_of _ = []

abbrev post_of : Frame → List Term
post_of (in_group before behind) = behind
post_of (in_call set before behind) = behind
post_of (in_block before behind) = behind
post_of (in_function argument) = argument ∷ []
post_of (in_first_half second) = second ∷ []
post_of (in_first_reduced set second) = second ∷ []
post_of (in_operand set before behind) = behind
post_of (in_fill_size ty value) = value ∷ []
post_of (in_let xs rest) = rest ∷ []
post_of (in_mutable x ty rest) = rest ∷ []
post_of (in_field_target field value) = value ∷ []
post_of (in_element index) = index ∷ []
post_of (in_element_target index value) = index ∷ value ∷ []
post_of (in_element_index array value) = value ∷ []
post_of (in_then rest) = rest ∷ []
post_of (in_test one two) = one ∷ two ∷ []
post_of (in_subject x clauses other) = other ∷ in_clauses clauses
post_of (in_source o s x body) = body ∷ []
post_of (in_reduced_source o s set empty x body) = body ∷ []
post_of (in_try x clauses last) = option_to_list last ++ in_clauses clauses
post_of _ = []

terms_round : (f : Frame) (b : Term) → terms_in (on_layer f b) ≡ pre_of f ++ b ∷ post_of f
terms_round (in_group before behind) b = refl
terms_round _ b = refl

-- what a term with a part is, the part finished or not
group_out : (ts : List Term) (o : Option (List Value)) → values_of ts ≡ o
    → (out-Term (group ts) ≡ Term-F.Group ts)
    ⊎ ((v : Value) × (out-Term (group ts) ≡ Term-F.Value v))
group_out ts None e = inl (ap out-Term (group_open ts e) ∙ outs-Group ts)
group_out ts (Some vs) e = go (nat_le (depth (Tuple vs)) deepest) (ap (tuple_of ts) e)
  where
    go : (b : Bool) → group ts ≡ (if b then term.Value (Tuple vs) else Group ts)
        → (out-Term (group ts) ≡ Term-F.Group ts)
        ⊎ ((v : Value) × (out-Term (group ts) ≡ Term-F.Value v))
    go true q = inr (Tuple vs, ap out-Term q ∙ outs-Value (Tuple vs))
    go false q = inl (ap out-Term q ∙ outs-Group ts)

pub out_group : (ts : List Term)
    → (out-Term (group ts) ≡ Term-F.Group ts)
    ⊎ ((v : Value) × (out-Term (group ts) ≡ Term-F.Value v))
out_group ts = group_out ts (values_of ts) refl

abbrev Layer : Frame → Term → Type 0
Layer f b = (out-Term (on f b) ≡ on_layer f b)
    ⊎ ((v : Value) × (out-Term (on f b) ≡ Term-F.Value v)) ⊎ (on f b ≡ b)

group_layer : (before behind : List Term) (t : Term)
    → (out-Term (group (before ++ t ∷ behind)) ≡ Term-F.Group (before ++ t ∷ behind))
    ⊎ ((v : Value) × (out-Term (group (before ++ t ∷ behind)) ≡ Term-F.Value v))
    → Layer (in_group before behind) t
group_layer before behind t (inl e) = inl e
group_layer before behind t (inr e) = inr (inl e)

marked_layer : (t : Term) → (standing t ≡ open_yet) ⊎ Finished t → Layer in_stepped t
marked_layer t (inl o) = inl (out_on in_stepped t o)
marked_layer t (inr h) = inr (inr (stepped_finished t h))

layer_on : (f : Frame) (b : Term) → Layer f b
layer_on (in_group before behind) t = group_layer before behind t (out_group (before ++ t ∷ behind))
layer_on (in_call set before behind) t = inl (outs-Call _ _)
layer_on (in_function argument) t = inl (outs-Apply _ _)
layer_on (in_argument function) t = inl (outs-Apply _ _)
layer_on (in_first_half second) t = inl (outs-ForHalves _ _)
layer_on (in_second_half first) t = inl (outs-ForHalves _ _)
layer_on (in_first_reduced set second) t = inl (outs-ReduceHalves _ _ _)
layer_on (in_second_reduced set first) t = inl (outs-ReduceHalves _ _ _)
layer_on (in_block before behind) t = inl (outs-Also _)
layer_on in_throw t = inl (outs-Throw _)
layer_on (in_operand set before behind) t = inl (outs-Operator _ _)
layer_on (in_fill_size ty value) t = inl (outs-Fill _ _ _)
layer_on (in_fill_value ty size) t = inl (outs-Fill _ _ _)
layer_on (in_let xs rest) t = inl (outs-Let _ _ _)
layer_on (in_mutable x ty rest) t = inl (outs-Mutable _ _ _ _)
layer_on (in_write slot) t = inl (outs-Write _ _)
layer_on (in_field field) t = inl (outs-ReadField _ _)
layer_on (in_field_target field value) t = inl (outs-WriteField _ _ _)
layer_on (in_field_value object field) t = inl (outs-WriteField _ _ _)
layer_on (in_element index) t = inl (outs-ReadElement _ _)
layer_on (in_index array) t = inl (outs-ReadElement _ _)
layer_on (in_element_target index value) t = inl (outs-WriteElement _ _ _)
layer_on (in_element_index array value) t = inl (outs-WriteElement _ _ _)
layer_on (in_element_value array index) t = inl (outs-WriteElement _ _ _)
layer_on in_size t = inl (outs-Size _)
layer_on (in_then rest) t = inl (outs-Then _ _)
layer_on (in_test one two) t = inl (outs-If _ _ _)
layer_on (in_subject x clauses other) t = inl (outs-Typecase _ _ _ _)
layer_on (in_source s1 s2 x body) t = inl (outs-For _ _ _ _ _)
layer_on (in_reduced_source s1 s2 set empty x body) t = inl (outs-Reduce _ _ _ _ _ _ _)
layer_on (in_try x clauses last) t = inl (outs-Try _ _ _ _)
layer_on in_stepped t = marked_layer t (decide t)

-- a sleeping form with these marks
abbrev pub Sleeper : Marks → Term → Type 0
Sleeper marks t = (body : Term) × Inside (Asleep marks body) t

pub inside_on : (u : Term) (f : Frame) (t : Term) → standing t ≡ open_yet → Inside u t
    → Inside u (on f t)
inside_on u f t o i =
    in_part t
    (subst (IsOneOf t) (sym (ap terms_in (out_on f t o) ∙ terms_round f t))
    (in_middle (pre_of f) (post_of f) t)) i

pub inside_plug : (u : Term) (fs : List Frame) (a : Term) → standing a ≡ open_yet → Inside u a
    → Inside u (plug fs a)
inside_plug u [] a o i = i
inside_plug u (f ∷ fs) a o i = inside_on u f (plug fs a) (plug_open fs a o) (inside_plug u fs a o i)

abbrev Split : Term → (Term → Term) → Term → Type 0
Split u c b = Inside u b ⊎ ((a : Term) → standing a ≡ open_yet → Inside u (c a))

split_part : (u : Term) (f : Frame) (b c : Term) → Inside u c
    → (c ≡ b) ⊎ ((a : Term) → IsOneOf c (pre_of f ++ a ∷ post_of f)) → Split u (on f) b
split_part u f b c i (inl e) = inl (subst (Inside u) e i)
split_part u f b c i (inr k) =
    inr (λ a o. in_part c
    (subst (IsOneOf c) (sym (ap terms_in (out_on f a o) ∙ terms_round f a)) (k a)) i)

-- what sleeps in a term with a part sleeps in the part, or whatever else stands there
split_on : (marks : Marks) (body : Term) (f : Frame) (b : Term)
    → Inside (Asleep marks body) (on f b) → Split (Asleep marks body) (on f) b
split_on marks body f b (itself e) = go (layer_on f b)
  where
    go : Layer f b → Split (Asleep marks body) (on f) b
    go (inl q) =
        absurd (no_frame_asleep marks body f b (sym (outs-Asleep marks body) ∙ ap out-Term e ∙ q))
    go (inr (inr q)) = inl (itself (e ∙ q))
    go (inr (inl (v, q))) =
        let z : Term-F.Asleep marks body ≡ Term-F.Value v =
        sym (outs-Asleep marks body) ∙ ap out-Term e ∙ q in absurd cc
split_on marks body f b (in_part c h i) = go (layer_on f b)
  where
    go : Layer f b → Split (Asleep marks body) (on f) b
    go (inr (inr q)) = inl (subst (Inside (Asleep marks body)) q (in_part c h i))
    go (inl q) =
        split_part (Asleep marks body) f b c i
        (split_middle (pre_of f) (post_of f) b c
        (subst (IsOneOf c) (ap terms_in q ∙ terms_round f b) h))
    go (inr (inl (v, q))) = absurd (subst (IsOneOf c) (ap terms_in q) h)

-- the mark of a part doesn't sleep
inside_mark : (marks : Marks) (body x t : Term) → t ≡ Stepped x → Inside (Asleep marks body) t
    → Inside (Asleep marks body) x
inside_mark marks body x t e (itself q) =
    let z : Term-F.Asleep marks body ≡ Term-F.Stepped x =
    sym (outs-Asleep marks body) ∙ ap out-Term (q ∙ e) ∙ outs-Stepped x in absurd cc
inside_mark marks body x t e (in_part c h i) =
    go (subst (IsOneOf c) (ap terms_in (ap out-Term e ∙ outs-Stepped x)) h)
  where
    go : (c ≡ x) ⊎ ⊥ → Inside (Asleep marks body) x
    go (inl q) = subst (Inside (Asleep marks body)) q i
    go (inr q) = absurd q

inside_stepped : (marks : Marks) (body x : Term) → Inside (Asleep marks body) (stepped x)
    → Inside (Asleep marks body) x
inside_stepped marks body x i = go (decide x)
  where
    go : (standing x ≡ open_yet) ⊎ Finished x → Inside (Asleep marks body) x
    go (inl o) = inside_mark marks body x (stepped x) (stepped_open x o) i
    go (inr h) = subst (Inside (Asleep marks body)) (stepped_finished x h) i

inside_with_mark : (marks : Marks) (body b : Term) (ns : List ℕ) (fs : List Frame)
    → Inside (Asleep marks body) (plug (with_mark ns fs) b) → Inside (Asleep marks body) (plug fs b)
inside_with_mark marks body b [] fs i = i
inside_with_mark marks body b (n ∷ ns) [] i = inside_stepped marks body b i
inside_with_mark marks body b (n ∷ ns) (in_stepped ∷ fs) i = i
inside_with_mark marks body b (n ∷ ns) (f ∷ fs) i = inside_stepped marks body (plug (f ∷ fs) b) i

-- what sleeps after a step in a part sleeps in the part, or whatever else stands there
pub split_plug : (marks : Marks) (body : Term) (fs : List Frame) (b : Term)
    → Inside (Asleep marks body) (plug (trodden fs) b) → Split (Asleep marks body) (plug fs) b
split_plug marks body [] b i = inl i
split_plug marks body (f ∷ fs) b i =
    go (split_on marks body f (plug (with_mark (part_number f) (trodden fs)) b) i)
    (split_plug marks body fs b)
  where
    inner : Split (Asleep marks body) (plug fs) b → Split (Asleep marks body) (plug (f ∷ fs)) b
    inner (inl k) = inl k
    inner (inr k) =
        inr (λ a o. inside_on (Asleep marks body) f (plug fs a) (plug_open fs a o) (k a o))

    go : Split (Asleep marks body) (on f) (plug (with_mark (part_number f) (trodden fs)) b)
        → (Inside (Asleep marks body) (plug (trodden fs) b) → Split (Asleep marks body) (plug fs) b)
        → Split (Asleep marks body) (plug (f ∷ fs)) b
    go (inl k) ih = inner (ih (inside_with_mark marks body b (part_number f) (trodden fs) k))
    go (inr k) ih = inr (λ a o. k (plug fs a) (plug_open fs a o))
