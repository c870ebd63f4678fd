-- Each part of a typed term that isn't a value is typed, wherever it stands.
use Rattle.std.proofs.Common.{◌≡◌, List, [], ◌∷◌, ◌++◌, map, Option, Some, None, option_to_list, refl, ap, sym, ◌∙◌, subst, ◌⊎◌, inl, inr}
use Rattle.std.specs.Prelude.{option_map, option_and_then}
use Rattle.fort_base.specs.declared.ty.Ty.{Ty}
use Rattle.fort_core.specs.declared.program.Program.{Program}
use Rattle.fort_core.specs.declared.term.Term.{Term, out-Term}
use Rattle.fort_core.specs.declared.term.Term as term
use Rattle.fort_core.specs.declared.term.Term.TheVariants.{outs-Value, outs-Group, outs-Call, outs-Operator, outs-Apply, outs-Fill, outs-Let, outs-Mutable, outs-Write, outs-ReadField, outs-WriteField, outs-ReadElement, outs-WriteElement, outs-Size, outs-Then, outs-If, outs-Typecase, outs-For, outs-ForHalves, outs-Reduce, outs-ReduceHalves, outs-Also, outs-Try, outs-Throw}
use Rattle.fort_core.specs.declared.term.Term.TheOpen.{Term-F}
use Rattle.fort_core.specs.declared.value.Value.{Value}
use Rattle.fort_machine.specs.Ends.{open_yet, standing, Finished, value_at, values_of, throw_of}
use Rattle.fort_machine.specs.Ends as ends
use Rattle.fort_machine.specs.Parts.{in_clauses, terms_in}
use Rattle.fort_machine.specs.Frames.{Frame, in_group, in_call, in_function, in_argument, in_first_half, in_second_half, in_first_reduced, in_second_reduced, in_block, in_throw, in_operand, in_fill_size, in_fill_value, in_let, in_mutable, in_write, in_field, in_field_target, in_field_value, in_element, in_index, in_element_target, in_element_index, in_element_value, in_size, in_then, in_test, in_subject, in_source, in_reduced_source, in_try, in_stepped, on, plug}
use Rattle.fort_machine.proofs.Standing.{decide, standing-throw, value_not_throw, group_open, stepped_finished}
use Rattle.fort_machine.proofs.Places.{on_layer, out_on}
use Rattle.fort_sound_typed.specs.Envs.{Sig, Env, binds, Part}
use Rattle.fort_sound_typed.specs.Typing.{Has, HasParts, parts1}
use Rattle.fort_sound_typed.proofs.Rules.{Rule, rule_at}

-- what stands before and behind the part that is left out
abbrev goes_before : Frame → List Term
goes_before (in_group before behind) = before
goes_before (in_call set before behind) = before
goes_before (in_block before behind) = before
goes_before (in_argument function) = function ∷ []
goes_before (in_second_half one) = one ∷ []
goes_before (in_second_reduced set one) = one ∷ []
goes_before (in_operand set before behind) = map term.Value before
goes_before (in_fill_value ty size) = term.Value size ∷ []
goes_before (in_field_value object field) = term.Value object ∷ []
goes_before (in_index array) = term.Value array ∷ []
goes_before (in_element_index array value) = term.Value array ∷ []
goes_before (in_element_value array index) = term.Value array ∷ term.Value index ∷ []
goes_before (in_reduced_source o s set empty x body) = empty ∷ []
goes_before _ = []

abbrev goes_behind : Frame → List Term
goes_behind (in_group before behind) = behind
goes_behind (in_call set before behind) = behind
goes_behind (in_block before behind) = behind
goes_behind (in_function argument) = argument ∷ []
goes_behind (in_first_half two) = two ∷ []
goes_behind (in_first_reduced set two) = two ∷ []
goes_behind (in_operand set before behind) = behind
goes_behind (in_fill_size ty value) = value ∷ []
goes_behind (in_let xs rest) = rest ∷ []
goes_behind (in_mutable x ty rest) = rest ∷ []
goes_behind (in_field_target field value) = value ∷ []
goes_behind (in_element index) = index ∷ []
goes_behind (in_element_target index value) = index ∷ value ∷ []
goes_behind (in_element_index array value) = value ∷ []
goes_behind (in_then rest) = rest ∷ []
goes_behind (in_test one two) = one ∷ two ∷ []
goes_behind (in_subject x clauses other) = other ∷ in_clauses clauses
goes_behind (in_source o s x body) = body ∷ []
goes_behind (in_reduced_source o s set empty x body) = body ∷ []
goes_behind (in_try x clauses last) = option_to_list last ++ in_clauses clauses
goes_behind _ = []

-- neither a tuple's part nor a mark
abbrev IsPlain : Frame → Type 0
IsPlain (in_group before behind) = ⊥
IsPlain in_stepped = ⊥
IsPlain _ = Unit {0}

out_plain : (f : Frame) (t : Term) → IsPlain f → out-Term (on f t) ≡ on_layer f t
out_plain (in_call set before behind) t n = outs-Call _ _
out_plain (in_function argument) t n = outs-Apply _ _
out_plain (in_argument function) t n = outs-Apply _ _
out_plain (in_first_half two) t n = outs-ForHalves _ _
out_plain (in_second_half one) t n = outs-ForHalves _ _
out_plain (in_first_reduced set two) t n = outs-ReduceHalves _ _ _
out_plain (in_second_reduced set one) t n = outs-ReduceHalves _ _ _
out_plain (in_block before behind) t n = outs-Also _
out_plain in_throw t n = outs-Throw _
out_plain (in_operand set before behind) t n = outs-Operator _ _
out_plain (in_fill_size ty value) t n = outs-Fill _ _ _
out_plain (in_fill_value ty size) t n = outs-Fill _ _ _
out_plain (in_let xs rest) t n = outs-Let _ _ _
out_plain (in_mutable x ty rest) t n = outs-Mutable _ _ _ _
out_plain (in_write slot) t n = outs-Write _ _
out_plain (in_field field) t n = outs-ReadField _ _
out_plain (in_field_target field value) t n = outs-WriteField _ _ _
out_plain (in_field_value object field) t n = outs-WriteField _ _ _
out_plain (in_element index) t n = outs-ReadElement _ _
out_plain (in_index array) t n = outs-ReadElement _ _
out_plain (in_element_target index value) t n = outs-WriteElement _ _ _
out_plain (in_element_index array value) t n = outs-WriteElement _ _ _
out_plain (in_element_value array index) t n = outs-WriteElement _ _ _
out_plain in_size t n = outs-Size _
out_plain (in_then rest) t n = outs-Then _ _
out_plain (in_test one two) t n = outs-If _ _ _
out_plain (in_subject x clauses other) t n = outs-Typecase _ _ _ _
out_plain (in_source o s x body) t n = outs-For _ _ _ _ _
out_plain (in_reduced_source o s set empty x body) t n = outs-Reduce _ _ _ _ _ _ _
out_plain (in_try x clauses last) t n = outs-Try _ _ _ _
out_plain (in_group before behind) t n = absurd n
out_plain in_stepped t n = absurd n

terms_round : (f : Frame) (t : Term) → terms_in (on_layer f t) ≡ goes_before f ++ t ∷ goes_behind f
terms_round (in_group before behind) t = refl
terms_round _ t = refl

-- a part that isn't a value
abbrev pub IsNoValue : Term → Type 0
IsNoValue t = (v : Value) → t ≡ term.Value v → ⊥

none_then : (o : Option Value)
    → option_and_then (λ (v : Value). option_map (λ (vs : List Value). v ∷ vs) None) o ≡ None
none_then None = refl
none_then (Some v) = refl

-- parts of which one is a throw aren't all values
values_thrown : (before behind : List Term) (v : Value)
    → values_of (before ++ throw_of v ∷ behind) ≡ None
values_thrown [] behind v =
    ap (λ st. option_and_then (λ
    (v : Value). option_map (λ (vs : List Value). v ∷ vs) (values_of behind)) (value_at st))
    (standing-throw v)
values_thrown (t ∷ before) behind v =
    ap (λ rest. option_and_then (λ
    (v : Value). option_map (λ (vs : List Value). v ∷ vs) rest) (value_at (standing t)))
    (values_thrown before behind v) ∙ none_then (value_at (standing t))

-- the layer of a term round a throw
out_thrown : (f : Frame) (v : Value)
    → (out-Term (on f (throw_of v)) ≡ on_layer f (throw_of v)) ⊎ (on f (throw_of v) ≡ throw_of v)
out_thrown (in_group before behind) v =
    inl (ap out-Term (group_open _ (values_thrown before behind v)) ∙ outs-Group _)
out_thrown in_stepped v = inr (stepped_finished (throw_of v) (ends.Finished.throw v refl))
out_thrown f v = inl (out_plain f (throw_of v) tt)

module _ (p : Program) (S : Sig) where
  -- a term is typed, with the variables of some place
  pub record Somewhere (a : Term) : Type 0 where
    pub env : Env
    pub type : Ty
    pub has : Has p S env a type

  middle : {G : Env} {qs : List Part} (pre post : List Term) (a : Term)
      → HasParts p S G (pre ++ a ∷ post) qs → Somewhere a
  middle {G} [] post a (parts1 {q = q} n h hs) =
      record { env = binds q.vars G; type = q.type; has = h }
  middle (t ∷ pre) post a (parts1 n h hs) = middle pre post a hs

  round_has : {G : Env} {T : Ty} (f : Frame) (t : Term) → Rule p S G (on_layer f t) T → Somewhere t
  round_has {G} f t r =
      middle (goes_before f) (goes_behind f) t
      (subst (λ z. HasParts p S G z r.qs) (terms_round f t) r.parts)

  on_has : {G : Env} {T : Ty} (f : Frame) (t : Term) → IsNoValue t → Has p S G (on f t) T
      → Somewhere t
  on_has {G} {T} f t n h = go (decide t)
    where
      at_throw : (v : Value) → t ≡ throw_of v
          → (out-Term (on f (throw_of v)) ≡ on_layer f (throw_of v))
          ⊎ (on f (throw_of v) ≡ throw_of v)
          → Somewhere t
      at_throw v e (inl q) =
          subst Somewhere (sym e)
          (round_has f (throw_of v) (rule_at p S q (subst (λ u. Has p S G (on f u) T) e h)))
      at_throw v e (inr q) =
          subst Somewhere (sym e)
          (record {
            env = G;
            type = T;
            has = subst (λ u. Has p S G u T) q (subst (λ u. Has p S G (on f u) T) e h);
          })

      go : (standing t ≡ open_yet) ⊎ Finished t → Somewhere t
      go (inl o) = round_has f t (rule_at p S (out_on f t o) h)
      go (inr (ends.Finished.value v e)) = absurd (n v e)
      go (inr (ends.Finished.throw v e)) = at_throw v e (out_thrown f v)

  -- nor is a term with such a part
  on_no_value : (f : Frame) (t : Term) → IsNoValue t → IsNoValue (on f t)
  on_no_value f t n = go (decide t)
    where
      layer : (g : Frame) (u : Term) (w : Value) → on_layer g u ≡ Term-F.Value w → ⊥
      layer (in_group before behind) u w e = absurd cc
      layer _ u w e = absurd cc

      thrown : (v : Value)
          → (out-Term (on f (throw_of v)) ≡ on_layer f (throw_of v))
          ⊎ (on f (throw_of v) ≡ throw_of v)
          → IsNoValue (on f (throw_of v))
      thrown v (inl q) w e = layer f (throw_of v) w (sym q ∙ ap out-Term e ∙ outs-Value w)
      thrown v (inr q) w e = value_not_throw w v (sym e ∙ q)

      go : (standing t ≡ open_yet) ⊎ Finished t → IsNoValue (on f t)
      go (inl o) = λ w e. layer f t w (sym (out_on f t o) ∙ ap out-Term e ∙ outs-Value w)
      go (inr (ends.Finished.value v e)) = absurd (n v e)
      go (inr (ends.Finished.throw v e)) =
          subst (λ u. IsNoValue (on f u)) (sym e) (thrown v (out_thrown f v))

  plug_no_value : (fs : List Frame) (a : Term) → IsNoValue a → IsNoValue (plug fs a)
  plug_no_value [] a n = n
  plug_no_value (f ∷ fs) a n = on_no_value f (plug fs a) (plug_no_value fs a n)

  -- at any depth
  pub inner_has : (fs : List Frame) (a : Term) {G : Env} {T : Ty} → IsNoValue a
      → Has p S G (plug fs a) T → Somewhere a
  inner_has [] a {G} {T} n h = record { env = G; type = T; has = h }
  inner_has (f ∷ fs) a n h =
      let i = on_has f (plug fs a) (plug_no_value fs a n) h in inner_has fs a n i.has
