-- Parts of terms that leave the prelude's own names alone, and others in their places.
use Rattle.std.proofs.Common.{◌≡◌, ℕ, List, [], ◌∷◌, ◌++◌, map, option_to_list, refl, ap, sym, ◌∙◌, subst, ◌⊎◌, inl, inr}
use Rattle.fort_base.specs.declared.ids.Loc.{Loc}
use Rattle.fort_core.specs.declared.form.Mode.{Mode}
use Rattle.fort_core.specs.declared.form.Span.{Span}
use Rattle.fort_core.specs.declared.form.Span.TheVariants as span
use Rattle.fort_core.specs.declared.program.Program.{Program}
use Rattle.fort_core.specs.declared.term.Term.{Term, Asleep, out-Term}
use Rattle.fort_core.specs.declared.term.Term as term
use Rattle.fort_core.specs.declared.term.Term.TheVariants.{outs-Call, outs-Operator, outs-Apply, outs-Fill, outs-Let, outs-Mutable, outs-Write, outs-ReadField, outs-WriteField, outs-ReadElement, outs-WriteElement, outs-Size, outs-Then, outs-If, outs-Typecase, outs-For, outs-ForHalves, outs-Reduce, outs-ReduceHalves, outs-Also, outs-Try, outs-Throw, outs-Stepped, outs-Atomic, outs-Asleep}
use Rattle.fort_core.specs.declared.value.Value.{Value}
use Rattle.fort_machine.specs.Ends.{open_yet, standing, Finished, stepped}
use Rattle.fort_machine.specs.Ends as ends
use Rattle.fort_machine.specs.Parts.{in_clauses, terms_in, values_in}
use Rattle.fort_machine.specs.Frames.{Frame, in_group, in_call, in_function, in_argument, in_first_half, in_second_half, in_first_reduced, in_second_reduced, in_block, in_throw, in_operand, in_fill_size, in_fill_value, in_let, in_mutable, in_write, in_field, in_field_target, in_field_value, in_element, in_index, in_element_target, in_element_index, in_element_value, in_size, in_then, in_test, in_subject, in_source, in_reduced_source, in_try, in_stepped, on, plug, part_number, with_mark, trodden}
use Rattle.fort_machine.specs.Marked.{Marks, In}
use Rattle.fort_machine.specs.Attempts.{Form, fresh, slept}
use Rattle.fort_machine.proofs.Standing.{decide, not_finished, stepped_open, stepped_finished}
use Rattle.fort_machine.proofs.Places.{on_layer, out_on, plug_open}
use Rattle.fort_threads_law_servers.specs.Prelude.{Names}
use Rattle.fort_threads_law_servers.specs.Roots.{Start}
use Rattle.fort_threads_law_private.specs.Grounds.{Ground, Open}
use Rattle.fort_threads_law_private.specs.Private.{IsWithin, KeepsOff, Private, AllPrivate, no_terms, one_more, AllPrivateValues, no_values}
use Rattle.fort_threads_law_private.proofs.Values.{private_at, privates_as, first_of}
use Rattle.fort_threads_law_private.proofs.Substituting.{group_private}

-- what stands before and behind the part that is left out
abbrev goes_before : Frame → List Term
goes_before (in_group before behind) = before
goes_before (in_call set before behind) = before
goes_before (in_block before behind) = before
goes_before (in_argument function) = function ∷ []
goes_before (in_second_half one) = one ∷ []
goes_before (in_second_reduced set one) = one ∷ []
goes_before (in_operand set before behind) = map term.Value before
goes_before (in_fill_value ty size) = term.Value size ∷ []
goes_before (in_field_value object field) = term.Value object ∷ []
goes_before (in_index array) = term.Value array ∷ []
goes_before (in_element_index array value) = term.Value array ∷ []
goes_before (in_element_value array index) = term.Value array ∷ term.Value index ∷ []
goes_before (in_reduced_source o s set empty x body) = empty ∷ []
goes_before _ = []

abbrev goes_behind : Frame → List Term
goes_behind (in_group before behind) = behind
goes_behind (in_call set before behind) = behind
goes_behind (in_block before behind) = behind
goes_behind (in_function argument) = argument ∷ []
goes_behind (in_first_half two) = two ∷ []
goes_behind (in_first_reduced set two) = two ∷ []
goes_behind (in_operand set before behind) = behind
goes_behind (in_fill_size ty value) = value ∷ []
goes_behind (in_let xs rest) = rest ∷ []
goes_behind (in_mutable x ty rest) = rest ∷ []
goes_behind (in_field_target field value) = value ∷ []
goes_behind (in_element index) = index ∷ []
goes_behind (in_element_target index value) = index ∷ value ∷ []
goes_behind (in_element_index array value) = value ∷ []
goes_behind (in_then rest) = rest ∷ []
goes_behind (in_test one two) = one ∷ two ∷ []
goes_behind (in_subject x clauses other) = other ∷ in_clauses clauses
goes_behind (in_source o s x body) = body ∷ []
goes_behind (in_reduced_source o s set empty x body) = body ∷ []
goes_behind (in_try x clauses last) = option_to_list last ++ in_clauses clauses
goes_behind _ = []

-- neither a tuple's part nor a mark
abbrev IsPlain : Frame → Type 0
IsPlain (in_group before behind) = ⊥
IsPlain in_stepped = ⊥
IsPlain _ = Unit {0}

out_plain : (f : Frame) (t : Term) → IsPlain f → out-Term (on f t) ≡ on_layer f t
out_plain (in_call set before behind) t n = outs-Call _ _
out_plain (in_function argument) t n = outs-Apply _ _
out_plain (in_argument function) t n = outs-Apply _ _
out_plain (in_first_half two) t n = outs-ForHalves _ _
out_plain (in_second_half one) t n = outs-ForHalves _ _
out_plain (in_first_reduced set two) t n = outs-ReduceHalves _ _ _
out_plain (in_second_reduced set one) t n = outs-ReduceHalves _ _ _
out_plain (in_block before behind) t n = outs-Also _
out_plain in_throw t n = outs-Throw _
out_plain (in_operand set before behind) t n = outs-Operator _ _
out_plain (in_fill_size ty value) t n = outs-Fill _ _ _
out_plain (in_fill_value ty size) t n = outs-Fill _ _ _
out_plain (in_let xs rest) t n = outs-Let _ _ _
out_plain (in_mutable x ty rest) t n = outs-Mutable _ _ _ _
out_plain (in_write slot) t n = outs-Write _ _
out_plain (in_field field) t n = outs-ReadField _ _
out_plain (in_field_target field value) t n = outs-WriteField _ _ _
out_plain (in_field_value object field) t n = outs-WriteField _ _ _
out_plain (in_element index) t n = outs-ReadElement _ _
out_plain (in_index array) t n = outs-ReadElement _ _
out_plain (in_element_target index value) t n = outs-WriteElement _ _ _
out_plain (in_element_index array value) t n = outs-WriteElement _ _ _
out_plain (in_element_value array index) t n = outs-WriteElement _ _ _
out_plain in_size t n = outs-Size _
out_plain (in_then rest) t n = outs-Then _ _
out_plain (in_test one two) t n = outs-If _ _ _
out_plain (in_subject x clauses other) t n = outs-Typecase _ _ _ _
out_plain (in_source o s x body) t n = outs-For _ _ _ _ _
out_plain (in_reduced_source o s set empty x body) t n = outs-Reduce _ _ _ _ _ _ _
out_plain (in_try x clauses last) t n = outs-Try _ _ _ _
out_plain (in_group before behind) t n = absurd n
out_plain in_stepped t n = absurd n

terms_round : (f : Frame) (t : Term) → terms_in (on_layer f t) ≡ goes_before f ++ t ∷ goes_behind f
terms_round (in_group before behind) t = refl
terms_round _ t = refl

no_values_round : (f : Frame) (t : Term) → values_in (on_layer f t) ≡ []
no_values_round (in_group before behind) t = refl
no_values_round _ t = refl

-- an open part is no source of what is left of a generator
within_round : (s : Span) (a b : Term) → standing a ≡ open_yet → IsWithin s a → IsWithin s b
within_round span.Whole a b o i = tt
within_round (span.Part k count) a b o i = absurd (not_finished a o (ends.Finished.value i.0 i.1))

keeps_round : (n : Names) (m : Start) (g : Ground) (f : Frame) (a b : Term) → standing a ≡ open_yet
    → KeepsOff n m g (on_layer f a) → KeepsOff n m g (on_layer f b)
keeps_round n m g (in_source d s x body) a b o k = within_round s a b o k
keeps_round n m g (in_reduced_source d s set empty x body) a b o k =
    (within_round s a b o k.0, k.1)
keeps_round n m g (in_group before behind) a b o k = k
keeps_round n m g f a b o k = k

-- a part may be replaced by another one
abbrev Place : Program → Names → Start → Ground → (Term → Term) → Term → Type 0
Place p n m g at a = Private p n m g a × ((b : Term) → Private p n m g b → Private p n m g (at b))

module _ {p : Program} {n : Names} {m : Start} {g : Ground} where
  -- a part in the middle
  middle : (pre post : List Term) (a : Term) → AllPrivate p n m g (pre ++ a ∷ post)
      → Private p n m g a
      × ((b : Term) → Private p n m g b → AllPrivate p n m g (pre ++ b ∷ post))
  middle [] post a (one_more h hs) = (h, λ b i. one_more i hs)
  middle (t ∷ pre) post a (one_more h hs) =
      let q = middle pre post a hs in (q.0, λ b i. one_more h (q.1 b i))

  -- a part with its mark
  pub stepped_private : (b : Term) → Private p n m g b → Private p n m g (stepped b)
  stepped_private b h = go (decide b)
    where
      go : (standing b ≡ open_yet) ⊎ Finished b → Private p n m g (stepped b)
      go (inl o) =
          private_at (stepped b) _ (ap out-Term (stepped_open b o) ∙ outs-Stepped b) tt
          (one_more h no_terms) no_values
      go (inr f) = subst (Private p n m g) (sym (stepped_finished b f)) h

  plain_frame : (f : Frame) (a : Term) → IsPlain f → standing a ≡ open_yet
      → Private p n m g (on f a) → Place p n m g (on f) a
  plain_frame f a is o h =
      let r = privates_as (on_layer f a) (out_plain f a is) h in
      let q = middle (goes_before f) (goes_behind f) a
      (subst (AllPrivate p n m g) (terms_round f a) r.terms)
      in (
        q.0,
        λ b i. private_at (on f b) (on_layer f b) (out_plain f b is)
            (keeps_round n m g f a b o r.keeps)
            (subst (AllPrivate p n m g) (sym (terms_round f b)) (q.1 b i))
            (subst (AllPrivateValues p n m g) (sym (no_values_round f b)) no_values),
      )

  frame_private : (f : Frame) (a : Term) → standing a ≡ open_yet → Private p n m g (on f a)
      → Place p n m g (on f) a
  frame_private (in_group before behind) a o h =
      let q = middle before behind a
      (privates_as _ (out_on (in_group before behind) a o) h).terms in
      (q.0, λ b i. group_private (before ++ b ∷ behind) (q.1 b i))
  frame_private in_stepped a o h = (
    first_of (privates_as _ (out_on in_stepped a o) h).terms,
    λ b i. stepped_private b i,
  )
  frame_private f a o h = plain_frame f a tt o h

  mark_private : (b : Term) (ns : List ℕ) (fs : List Frame) → Private p n m g (plug fs b)
      → Private p n m g (plug (with_mark ns fs) b)
  mark_private b [] fs h = h
  mark_private b (k ∷ ns) [] h = stepped_private b h
  mark_private b (k ∷ ns) (in_stepped ∷ fs) h = h
  mark_private b (k ∷ ns) (f ∷ fs) h = stepped_private (plug (f ∷ fs) b) h

  -- a part at any depth may be, with the marks of the way
  pub plug_private : (fs : List Frame) (a : Term) → standing a ≡ open_yet
      → Private p n m g (plug fs a)
      → Private p n m g a
      × ((b : Term) → Private p n m g b → Private p n m g (plug (trodden fs) b))
  plug_private [] a o h = (h, λ b i. i)
  plug_private (f ∷ fs) a o h =
      let r = frame_private f (plug fs a) (plug_open fs a o) h in
      let q = plug_private fs a o r.0 in (
        q.0,
        λ b i. r.1 (plug (with_mark (part_number f) (trodden fs)) b)
            (mark_private b (part_number f) (trodden fs) (q.1 b i)),
      )

  -- the body of an atomic form, and the values of its marks
  pub form_private : (a body : Term) (d : Mode) → Form a d body → Private p n m g a
      → Private p n m g body
  form_private a body d (fresh e) h =
      first_of (privates_as _ (ap out-Term e ∙ outs-Atomic d body) h).terms
  form_private a body d (slept ms q e) h =
      first_of (privates_as _ (ap out-Term e ∙ outs-Asleep ms body) h).terms

  pub marks_private : (a body : Term) (ms : Marks) → a ≡ Asleep ms body → Private p n m g a
      → AllPrivateValues p n m g (map (λ (e : Loc × Value). e.1) ms)
  marks_private a body ms e h = (privates_as _ (ap out-Term e ∙ outs-Asleep ms body) h).values

  -- what it watches is open
  pub watched_open : (a body : Term) (ms : Marks) → a ≡ Asleep ms body → Private p n m g a
      → (l : ℕ) (v : Value) → In l v ms → Open g l
  watched_open a body ms e h = (privates_as _ (ap out-Term e ∙ outs-Asleep ms body) h).keeps
