-- What stands in a frame, and what may stand there.
use Rattle.std.proofs.Common.{◌≡◌, ℕ, List, [], ◌∷◌, ◌++◌, map, Some, None, refl, ap, sym, ◌∙◌, subst, inl, inr, ◌⊎◌}
use Rattle.fort_base.specs.declared.ty.Ty.{Ty, Arrow, Array}
use Rattle.fort_base.specs.declared.ty.Ty.TheVariants.{Named}
use Rattle.fort_core.specs.declared.form.Span.{Span}
use Rattle.fort_core.specs.declared.form.Span.TheVariants as span
use Rattle.fort_core.specs.declared.term.Term.{Term, Stepped, out-Term}
use Rattle.fort_core.specs.declared.term.Term as term
use Rattle.fort_core.specs.declared.term.Term.TheVariants.{outs-Group, outs-Stepped, outs-Throw, outs-Call, outs-Operator, outs-Apply, outs-Fill, outs-Let, outs-Mutable, outs-Write, outs-ReadField, outs-WriteField, outs-ReadElement, outs-WriteElement, outs-Size, outs-Then, outs-If, outs-Typecase, outs-For, outs-ForHalves, outs-Reduce, outs-ReduceHalves, outs-Also, outs-Try}
use Rattle.fort_core.specs.declared.term.Term.TheOpen.{Term-F}
use Rattle.fort_core.specs.declared.value.Closure.{Closure}
use Rattle.fort_core.specs.declared.value.Value.{Value}
use Rattle.fort_core.specs.declared.program.Program.{Program}
use Rattle.fort_machine.specs.Ends.{at_value, open_yet, standing, Finished, stepped}
use Rattle.fort_machine.specs.Parts.{terms_in, in_clauses, values_in}
use Rattle.fort_machine.specs.Types.{domain_of}
use Rattle.fort_machine.specs.Frames.{Frame, in_group, in_call, in_function, in_argument, in_first_half, in_second_half, in_first_reduced, in_second_reduced, in_block, in_throw, in_operand, in_fill_size, in_fill_value, in_let, in_mutable, in_write, in_field, in_field_target, in_field_value, in_element, in_index, in_element_target, in_element_index, in_element_value, in_size, in_then, in_test, in_subject, in_source, in_reduced_source, in_try, in_stepped, on, plug, part_number, with_mark, trodden}
use Rattle.fort_machine.proofs.Standing.{decide, standing-Value, values_open, group_open, stepped_open, stepped_finished}
use Rattle.fort_machine.proofs.Places.{plug_open}
use Rattle.fort_sound_typed.specs.Envs.{Sig, Env, cell, fixed_all, Part, plain, bound, plains}
use Rattle.fort_sound_typed.specs.Typing.{Below, unit_type, small_type, truth_type, thrown_type, SpanFits, clauses, Fits, Has, HasParts, parts1, HasVs, vs0}
use Rattle.fort_sound_typed.specs.Sound.{Up}
use Rattle.fort_sound_typed.proofs.Rules.{Trans, Rule, rule_at, has_at, never, one_part, sub}
use Rattle.fort_sound_typed.proofs.Grow.{grow, grow_parts, grow_vs, fits_grow}
use Rattle.fort_sound_typed.proofs.Made.{group_has}

module _ (k : Program) (tr : Trans k) (self : (A : Ty) → Below k A A) (S : Sig) (G : Env) where
  -- a place of a term, with what stands there
  pub record Place (at : Term → Term) (a : Term) (T : Ty) : Type 0 where
    pub type : Ty
    pub part : Has k S G a type
    pub back : (S' : Sig) → Up S S' → (b : Term) → Has k S' G b type → Has k S' G (at b) T

  abbrev Same : List Term → List Part → Type 0
  Same [] [] = Unit {0}
  Same (t ∷ ts) (q ∷ qs) = Same ts qs
  Same _ _ = ⊥

  abbrev Mid : Term → Ty → (Term → List Term) → List Part → Type 0
  Mid a A at qs = Has k S G a A
      × ((S' : Sig) → Up S S' → (b : Term) → Has k S' G b A → HasParts k S' G (at b) qs)

  mid_at : (pre post : List Term) (pres posts : List Part) (a : Term) (A : Ty) → Same pre pres
      → HasParts k S G (pre ++ a ∷ post) (pres ++ plain A ∷ posts)
      → Mid a A (λ b. pre ++ b ∷ post) (pres ++ plain A ∷ posts)
  mid_at [] post [] posts a A s (parts1 n h hs) =
      (h, λ S' u b i. parts1 (never k S G) i (grow_parts k S S' u hs))
  mid_at [] post (q ∷ pres) posts a A s h = absurd s
  mid_at (t ∷ pre) post [] posts a A s h = absurd s
  mid_at (t ∷ pre) post (q ∷ pres) posts a A s (parts1 n h hs) =
      let i = mid_at pre post pres posts a A s hs
      in (i.0, λ S' u b j. parts1 n (grow k S S' u h) (i.1 S' u b j))

  mid : (pre post : List Term) (pres posts : List Part) (a : Term) (A : Ty) (qs : List Part)
      → Same pre pres → qs ≡ pres ++ plain A ∷ posts → HasParts k S G (pre ++ a ∷ post) qs
      → Mid a A (λ b. pre ++ b ∷ post) qs
  mid pre post pres posts a A qs s e h =
      subst (λ z. Mid a A (λ b. pre ++ b ∷ post) z) (sym e)
      (mid_at pre post pres posts a A s (subst (λ z. HasParts k S G (pre ++ a ∷ post) z) e h))

  mids_at : (pre post : List Term) (a : Term) (As : List Ty)
      → HasParts k S G (pre ++ a ∷ post) (plains As)
      → (A : Ty) × Mid a A (λ b. pre ++ b ∷ post) (plains As)
  mids_at [] post a [] h = elim h [ ]
  mids_at [] post a (A ∷ As) (parts1 n h hs) =
      (A, (h, λ S' u b i. parts1 (never k S G) i (grow_parts k S S' u hs)))
  mids_at (t ∷ pre) post a [] h = elim h [ ]
  mids_at (t ∷ pre) post a (A ∷ As) (parts1 n h hs) =
      let i = mids_at pre post a As hs
      in (i.0, (i.1.0, λ S' u b j. parts1 n (grow k S S' u h) (i.1.1 S' u b j)))

  -- any part of a parallel node
  mids : (pre post : List Term) (a : Term) (As : List Ty) (qs : List Part) → qs ≡ plains As
      → HasParts k S G (pre ++ a ∷ post) qs → (A : Ty) × Mid a A (λ b. pre ++ b ∷ post) qs
  mids pre post a As qs e h =
      subst (λ z.
      (A : Ty) × Mid a A (λ b. pre ++ b ∷ post) z) (sym e)
      (mids_at pre post a As (subst (λ z. HasParts k S G (pre ++ a ∷ post) z) e h))

  again : {T : Ty} (S' : Sig) → Up S S' → (l l' : Term-F Term Value Closure) (t : Term)
      → out-Term t ≡ l' → (r : Rule k S G l T)
      → (Fits k S' G l r.qs r.ws r.own → Fits k S' G l' r.qs r.ws r.own)
      → HasParts k S' G (terms_in l') r.qs
      → (HasVs k S' (values_in l) r.ws → HasVs k S' (values_in l') r.ws) → Has k S' G t T
  again S' u l l' t e r f ps vs =
      has_at k S' e
      (record {
        own = r.own;
        qs = r.qs;
        ws = r.ws;
        fits = f (fits_grow k S S' u G l r.qs r.ws r.own r.fits);
        parts = ps;
        values = vs (grow_vs k S S' u r.values);
        below = r.below;
      })

  open_not_value : (a : Term) (v : Value) → standing a ≡ open_yet → a ≡ term.Value v → ⊥
  open_not_value a v o e =
      let z : at_value v ≡ open_yet = sym (standing-Value v) ∙ ap standing (sym e) ∙ o in cc

  span_open : (S' : Sig) (s : Span) (a b : Term) → standing a ≡ open_yet → SpanFits s a
      → SpanFits s b
  span_open S' span.Whole a b o i = tt
  span_open S' (span.Part n m) a b o i = absurd (open_not_value a i.0 o i.1)

  pub stepped_has : {T : Ty} (S' : Sig) (b : Term) → Has k S' G b T → Has k S' G (stepped b) T
  stepped_has {T} S' b h = go (decide b)
    where
      go : (standing b ≡ open_yet) ⊎ Finished b → Has k S' G (stepped b) T
      go (inl o) =
          has_at k S' (ap out-Term (stepped_open b o)
          ∙ outs-Stepped b)
          (record {
            own = T;
            qs = plain T ∷ [];
            ws = [];
            fits = refl;
            parts = one_part k S' h;
            values = vs0;
            below = self T;
          })
      go (inr f) = subst (λ u. Has k S' G u T) (sym (stepped_finished b f)) h

  -- a part may be replaced by one of its type
  pub frame_has : (f : Frame) (a : Term) (T : Ty) → standing a ≡ open_yet → Has k S G (on f a) T
      → Place (on f) a T
  frame_has (in_group before behind) a T o h =
      let r = rule_at k S
      (ap out-Term (group_open (before ++ a ∷ behind) (values_open before behind a o))
      ∙ outs-Group (before ++ a ∷ behind)) h in
      let m = mids before behind a r.fits.0 r.qs r.fits.1 r.parts in
      record {
        type = m.0;
        part = m.1.0;
        back = λ S' u b i. group_has k tr self S' (before ++ b ∷ behind) r.fits.0
            (subst (λ z. HasParts k S' G (before ++ b ∷ behind) z) r.fits.1 (m.1.1 S' u b i))
            (subst (λ z. Below k z T) r.fits.2 r.below);
      }
  frame_has (in_call set before behind) a T o h =
      let r = rule_at k S (outs-Call set (before ++ a ∷ behind)) h in
      let m = mids (before) (behind) a r.fits.0 r.qs (r.fits.1) r.parts in
      record {
        type = m.0;
        part = m.1.0;
        back = λ S' u b i. again S' u (Term-F.Call set (before ++ a ∷ behind))
            (Term-F.Call set (before ++ b ∷ behind)) _ (outs-Call set (before ++ b ∷ behind)) r
            (λ i. i) (m.1.1 S' u b i) (λ i. i);
      }
  frame_has (in_function c) a T o h =
      let r = rule_at k S (outs-Apply a c) h in
      let m = mid ([]) (c ∷ []) ([]) (plain r.fits.0 ∷ []) a (Arrow r.fits.0 r.own) r.qs tt
      (r.fits.1) r.parts in
      record {
        type = Arrow r.fits.0 r.own;
        part = m.0;
        back = λ S' u b i. again S' u (Term-F.Apply a c) (Term-F.Apply b c) _ (outs-Apply b c)
            r (λ i. i) (m.1 S' u b i) (λ i. i);
      }
  frame_has (in_argument c) a T o h =
      let r = rule_at k S (outs-Apply c a) h in
      let m = mid (c ∷ []) ([]) (plain (Arrow r.fits.0 r.own) ∷ []) ([]) a (r.fits.0) r.qs tt
      (r.fits.1) r.parts in
      record {
        type = r.fits.0;
        part = m.0;
        back = λ S' u b i. again S' u (Term-F.Apply c a) (Term-F.Apply c b) _ (outs-Apply c b)
            r (λ i. i) (m.1 S' u b i) (λ i. i);
      }
  frame_has (in_first_half c) a T o h =
      let r = rule_at k S (outs-ForHalves a c) h in
      let m = mid ([]) (c ∷ []) ([]) (plain r.fits.1 ∷ []) a (r.fits.0) r.qs tt (r.fits.2) r.parts
      in
      record {
        type = r.fits.0;
        part = m.0;
        back = λ S' u b i. again S' u (Term-F.ForHalves a c) (Term-F.ForHalves b c) _
            (outs-ForHalves b c) r (λ i. i) (m.1 S' u b i) (λ i. i);
      }
  frame_has (in_second_half c) a T o h =
      let r = rule_at k S (outs-ForHalves c a) h in
      let m = mid (c ∷ []) ([]) (plain r.fits.0 ∷ []) ([]) a (r.fits.1) r.qs tt (r.fits.2) r.parts
      in
      record {
        type = r.fits.1;
        part = m.0;
        back = λ S' u b i. again S' u (Term-F.ForHalves c a) (Term-F.ForHalves c b) _
            (outs-ForHalves c b) r (λ i. i) (m.1 S' u b i) (λ i. i);
      }
  frame_has (in_first_reduced set c) a T o h =
      let r = rule_at k S (outs-ReduceHalves set a c) h in
      let m = mid ([]) (c ∷ []) ([]) (plain r.fits.1 ∷ []) a (r.fits.0) r.qs tt (r.fits.2) r.parts
      in
      record {
        type = r.fits.0;
        part = m.0;
        back = λ S' u b i. again S' u (Term-F.ReduceHalves set a c)
            (Term-F.ReduceHalves set b c) _ (outs-ReduceHalves set b c) r (λ i. i) (m.1 S' u b i)
            (λ i. i);
      }
  frame_has (in_second_reduced set c) a T o h =
      let r = rule_at k S (outs-ReduceHalves set c a) h in
      let m = mid (c ∷ []) ([]) (plain r.fits.0 ∷ []) ([]) a (r.fits.1) r.qs tt (r.fits.2) r.parts
      in
      record {
        type = r.fits.1;
        part = m.0;
        back = λ S' u b i. again S' u (Term-F.ReduceHalves set c a)
            (Term-F.ReduceHalves set c b) _ (outs-ReduceHalves set c b) r (λ i. i) (m.1 S' u b i)
            (λ i. i);
      }
  frame_has (in_block before behind) a T o h =
      let r = rule_at k S (outs-Also (before ++ a ∷ behind)) h in
      let m = mids (before) (behind) a r.fits.0 r.qs (r.fits.1) r.parts in
      record {
        type = m.0;
        part = m.1.0;
        back = λ S' u b i. again S' u (Term-F.Also (before ++ a ∷ behind))
            (Term-F.Also (before ++ b ∷ behind)) _ (outs-Also (before ++ b ∷ behind)) r (λ i. i)
            (m.1.1 S' u b i) (λ i. i);
      }
  frame_has in_throw a T o h =
      let r = rule_at k S (outs-Throw a) h in
      let m = mid ([]) ([]) ([]) ([]) a (thrown_type k) r.qs tt (r.fits) r.parts in
      record {
        type = thrown_type k;
        part = m.0;
        back = λ S' u b i. again S' u (Term-F.Throw a) (Term-F.Throw b) _ (outs-Throw b) r
            (λ i. i) (m.1 S' u b i) (λ i. i);
      }
  frame_has (in_operand set before behind) a T o h =
      let r = rule_at k S (outs-Operator set (map term.Value before ++ a ∷ behind)) h in
      let m = mids (map term.Value before) (behind) a r.fits.0 r.qs (r.fits.1) r.parts in
      record {
        type = m.0;
        part = m.1.0;
        back = λ S' u b i. again S' u
            (Term-F.Operator set (map term.Value before ++ a ∷ behind))
            (Term-F.Operator set (map term.Value before ++ b ∷ behind)) _
            (outs-Operator set (map term.Value before ++ b ∷ behind)) r (λ i. i) (m.1.1 S' u b i)
            (λ i. i);
      }
  frame_has (in_fill_size ty c) a T o h =
      let r = rule_at k S (outs-Fill ty a c) h in
      let m = mid ([]) (c ∷ []) ([]) (plain ty ∷ []) a (small_type k) r.qs tt (r.fits.0) r.parts in
      record {
        type = small_type k;
        part = m.0;
        back = λ S' u b i. again S' u (Term-F.Fill ty a c) (Term-F.Fill ty b c) _
            (outs-Fill ty b c) r (λ i. i) (m.1 S' u b i) (λ i. i);
      }
  frame_has (in_fill_value ty c) a T o h =
      let r = rule_at k S (outs-Fill ty (term.Value c) a) h in
      let m = mid (term.Value c ∷ []) ([]) (plain (small_type k) ∷ []) ([]) a (ty) r.qs tt
      (r.fits.0) r.parts in
      record {
        type = ty;
        part = m.0;
        back = λ S' u b i. again S' u (Term-F.Fill ty (term.Value c) a)
            (Term-F.Fill ty (term.Value c) b) _ (outs-Fill ty (term.Value c) b) r (λ i. i)
            (m.1 S' u b i) (λ i. i);
      }
  frame_has (in_let xs c) a T o h =
      let r = rule_at k S (outs-Let xs a c) h in
      let m = mid ([]) (c ∷ []) ([]) (record { vars = fixed_all xs; type = r.own } ∷ []) a
      (domain_of xs) r.qs tt (r.fits.0) r.parts in
      record {
        type = domain_of xs;
        part = m.0;
        back = λ S' u b i. again S' u (Term-F.Let xs a c) (Term-F.Let xs b c) _
            (outs-Let xs b c) r (λ i. i) (m.1 S' u b i) (λ i. i);
      }
  frame_has (in_mutable x ty c) a T o h =
      let r = rule_at k S (outs-Mutable x ty a c) h in
      let m = mid ([]) (c ∷ []) ([]) (record { vars = (x, cell ty) ∷ []; type = r.own } ∷ []) a (ty)
      r.qs tt (r.fits) r.parts in
      record {
        type = ty;
        part = m.0;
        back = λ S' u b i. again S' u (Term-F.Mutable x ty a c) (Term-F.Mutable x ty b c) _
            (outs-Mutable x ty b c) r (λ i. i) (m.1 S' u b i) (λ i. i);
      }
  frame_has (in_write slot) a T o h =
      let r = rule_at k S (outs-Write slot a) h in
      let m = mid ([]) ([]) ([]) ([]) a (r.fits.0) r.qs tt (r.fits.2) r.parts in
      record {
        type = r.fits.0;
        part = m.0;
        back = λ S' u b i. again S' u (Term-F.Write slot a) (Term-F.Write slot b) _
            (outs-Write slot b) r (λ i. i) (m.1 S' u b i) (λ i. i);
      }
  frame_has (in_field n) a T o h =
      let r = rule_at k S (outs-ReadField a n) h in
      let m = mid ([]) ([]) ([]) ([]) a (Named r.fits.0) r.qs tt (r.fits.2) r.parts in
      record {
        type = Named r.fits.0;
        part = m.0;
        back = λ S' u b i. again S' u (Term-F.ReadField a n) (Term-F.ReadField b n) _
            (outs-ReadField b n) r (λ i. i) (m.1 S' u b i) (λ i. i);
      }
  frame_has (in_field_target n c) a T o h =
      let r = rule_at k S (outs-WriteField a n c) h in
      let m = mid ([]) (c ∷ []) ([]) (plain r.fits.1 ∷ []) a (Named r.fits.0) r.qs tt (r.fits.4)
      r.parts in
      record {
        type = Named r.fits.0;
        part = m.0;
        back = λ S' u b i. again S' u (Term-F.WriteField a n c) (Term-F.WriteField b n c) _
            (outs-WriteField b n c) r (λ i. i) (m.1 S' u b i) (λ i. i);
      }
  frame_has (in_field_value c n) a T o h =
      let r = rule_at k S (outs-WriteField (term.Value c) n a) h in
      let m = mid (term.Value c ∷ []) ([]) (plain (Named r.fits.0) ∷ []) ([]) a (r.fits.1) r.qs tt
      (r.fits.4) r.parts in
      record {
        type = r.fits.1;
        part = m.0;
        back = λ S' u b i. again S' u (Term-F.WriteField (term.Value c) n a)
            (Term-F.WriteField (term.Value c) n b) _ (outs-WriteField (term.Value c) n b) r
            (λ i. i) (m.1 S' u b i) (λ i. i);
      }
  frame_has (in_element c) a T o h =
      let r = rule_at k S (outs-ReadElement a c) h in
      let m = mid ([]) (c ∷ []) ([]) (plain (small_type k) ∷ []) a (Array r.own) r.qs tt (r.fits)
      r.parts in
      record {
        type = Array r.own;
        part = m.0;
        back = λ S' u b i. again S' u (Term-F.ReadElement a c) (Term-F.ReadElement b c) _
            (outs-ReadElement b c) r (λ i. i) (m.1 S' u b i) (λ i. i);
      }
  frame_has (in_index c) a T o h =
      let r = rule_at k S (outs-ReadElement (term.Value c) a) h in
      let m = mid (term.Value c ∷ []) ([]) (plain (Array r.own) ∷ []) ([]) a (small_type k) r.qs tt
      (r.fits) r.parts in
      record {
        type = small_type k;
        part = m.0;
        back = λ S' u b i. again S' u (Term-F.ReadElement (term.Value c) a)
            (Term-F.ReadElement (term.Value c) b) _ (outs-ReadElement (term.Value c) b) r (λ i. i)
            (m.1 S' u b i) (λ i. i);
      }
  frame_has (in_element_target c d) a T o h =
      let r = rule_at k S (outs-WriteElement a c d) h in
      let m = mid ([]) (c ∷ d ∷ []) ([]) (plain (small_type k) ∷ plain r.fits.0 ∷ []) a
      (Array r.fits.0) r.qs tt (r.fits.1) r.parts in
      record {
        type = Array r.fits.0;
        part = m.0;
        back = λ S' u b i. again S' u (Term-F.WriteElement a c d) (Term-F.WriteElement b c d)
            _ (outs-WriteElement b c d) r (λ i. i) (m.1 S' u b i) (λ i. i);
      }
  frame_has (in_element_index c d) a T o h =
      let r = rule_at k S (outs-WriteElement (term.Value c) a d) h in
      let m = mid (term.Value c ∷ []) (d ∷ []) (plain (Array r.fits.0) ∷ []) (plain r.fits.0 ∷ []) a
      (small_type k) r.qs tt (r.fits.1) r.parts in
      record {
        type = small_type k;
        part = m.0;
        back = λ S' u b i. again S' u (Term-F.WriteElement (term.Value c) a d)
            (Term-F.WriteElement (term.Value c) b d) _ (outs-WriteElement (term.Value c) b d) r
            (λ i. i) (m.1 S' u b i) (λ i. i);
      }
  frame_has (in_element_value c d) a T o h =
      let r = rule_at k S (outs-WriteElement (term.Value c) (term.Value d) a) h in
      let m = mid (term.Value c ∷ term.Value d ∷ []) ([])
      (plain (Array r.fits.0) ∷ plain (small_type k) ∷ []) ([]) a (r.fits.0) r.qs tt (r.fits.1)
      r.parts in
      record {
        type = r.fits.0;
        part = m.0;
        back = λ S' u b i. again S' u (Term-F.WriteElement (term.Value c) (term.Value d) a)
            (Term-F.WriteElement (term.Value c) (term.Value d) b) _
            (outs-WriteElement (term.Value c) (term.Value d) b) r (λ i. i) (m.1 S' u b i)
            (λ i. i);
      }
  frame_has in_size a T o h =
      let r = rule_at k S (outs-Size a) h in
      let m = mid ([]) ([]) ([]) ([]) a (Array r.fits.0) r.qs tt (r.fits.1) r.parts in
      record {
        type = Array r.fits.0;
        part = m.0;
        back = λ S' u b i. again S' u (Term-F.Size a) (Term-F.Size b) _ (outs-Size b) r
            (λ i. i) (m.1 S' u b i) (λ i. i);
      }
  frame_has (in_then c) a T o h =
      let r = rule_at k S (outs-Then a c) h in
      let m = mid ([]) (c ∷ []) ([]) (plain r.own ∷ []) a (r.fits.0) r.qs tt (r.fits.1) r.parts in
      record {
        type = r.fits.0;
        part = m.0;
        back = λ S' u b i. again S' u (Term-F.Then a c) (Term-F.Then b c) _ (outs-Then b c) r
            (λ i. i) (m.1 S' u b i) (λ i. i);
      }
  frame_has (in_test c d) a T o h =
      let r = rule_at k S (outs-If a c d) h in
      let m = mid ([]) (c ∷ d ∷ []) ([]) (plain r.own ∷ plain r.own ∷ []) a (truth_type k) r.qs tt
      (r.fits) r.parts in
      record {
        type = truth_type k;
        part = m.0;
        back = λ S' u b i. again S' u (Term-F.If a c d) (Term-F.If b c d) _ (outs-If b c d) r
            (λ i. i) (m.1 S' u b i) (λ i. i);
      }
  frame_has (in_subject x cs c) a T o h =
      let r = rule_at k S (outs-Typecase x a cs c) h in
      let m = mid ([]) (c ∷ in_clauses cs) ([]) (bound x r.fits.0 r.own ∷ clauses x cs r.own) a
      (r.fits.0) r.qs tt (r.fits.1) r.parts in
      record {
        type = r.fits.0;
        part = m.0;
        back = λ S' u b i. again S' u (Term-F.Typecase x a cs c) (Term-F.Typecase x b cs c) _
            (outs-Typecase x b cs c) r (λ i. i) (m.1 S' u b i) (λ i. i);
      }
  frame_has (in_source order s x c) a T o h =
      let r = rule_at k S (outs-For order s x a c) h in
      let m = mid ([]) (c ∷ []) ([]) (bound x r.fits.1 unit_type ∷ []) a (r.fits.0) r.qs tt
      (r.fits.4) r.parts in
      record {
        type = r.fits.0;
        part = m.0;
        back = λ S' u b i. again S' u (Term-F.For order s x a c) (Term-F.For order s x b c) _
            (outs-For order s x b c) r (λ i. (i.0, i.1, i.2, span_open S' s a b o i.3, i.4, i.5))
            (m.1 S' u b i) (λ i. i);
      }
  frame_has (in_reduced_source order s set e x c) a T o h =
      let r = rule_at k S (outs-Reduce order s set e x a c) h in
      let m = mid (e ∷ []) (c ∷ []) (plain r.own ∷ []) (bound x r.fits.1 r.own ∷ []) a (r.fits.0)
      r.qs tt (r.fits.5) r.parts in
      record {
        type = r.fits.0;
        part = m.0;
        back = λ S' u b i. again S' u (Term-F.Reduce order s set e x a c)
            (Term-F.Reduce order s set e x b c) _ (outs-Reduce order s set e x b c) r
            (λ i. (i.0, i.1, i.2, i.3, span_open S' s a b o i.4, i.5, i.6, i.7)) (m.1 S' u b i)
            (λ i. i);
      }
  frame_has (in_try x cs None) a T o h =
      let r = rule_at k S (outs-Try a x cs None) h in
      let m = mid ([]) (in_clauses cs) ([]) (clauses x cs r.own) a (r.own) r.qs tt (r.fits.1)
      r.parts in
      record {
        type = r.own;
        part = m.0;
        back = λ S' u b i. again S' u (Term-F.Try a x cs None) (Term-F.Try b x cs None) _
            (outs-Try b x cs None) r (λ i. i) (m.1 S' u b i) (λ i. i);
      }
  frame_has (in_try x cs (Some c)) a T o h =
      let r = rule_at k S (outs-Try a x cs (Some c)) h in
      let m = mid ([]) (c ∷ in_clauses cs) ([]) (plain r.fits.0 ∷ clauses x cs r.own) a (r.own) r.qs
      tt (r.fits.1) r.parts in
      record {
        type = r.own;
        part = m.0;
        back = λ S' u b i. again S' u (Term-F.Try a x cs (Some c))
            (Term-F.Try b x cs (Some c)) _ (outs-Try b x cs (Some c)) r (λ i. i) (m.1 S' u b i)
            (λ i. i);
      }
  frame_has in_stepped a T o h =
      let r = rule_at k S (ap out-Term (stepped_open a o) ∙ outs-Stepped a) h in
      let m = mid [] [] [] [] a r.own r.qs tt r.fits r.parts in
      record {
        type = r.own;
        part = m.0;
        back = λ S' u b i. stepped_has S' b (sub k S' tr i r.below);
      }

  mark_has : {T : Ty} (S' : Sig) (b : Term) (ns : List ℕ) (fs : List Frame)
      → Has k S' G (plug fs b) T → Has k S' G (plug (with_mark ns fs) b) T
  mark_has S' b [] fs h = h
  mark_has S' b (n ∷ ns) [] h = stepped_has S' b h
  mark_has S' b (n ∷ ns) (in_stepped ∷ fs) h = h
  mark_has S' b (n ∷ ns) (f ∷ fs) h = stepped_has S' (plug (f ∷ fs) b) h

  -- a part at any depth may be replaced by one of its type, with the marks of the way
  pub plug_has : (fs : List Frame) (a : Term) (T : Ty) → standing a ≡ open_yet
      → Has k S G (plug fs a) T → Place (plug (trodden fs)) a T
  plug_has [] a T o h = record { type = T; part = h; back = λ S' u b i. i }
  plug_has (f ∷ fs) a T o h =
      let p = frame_has f (plug fs a) T (plug_open fs a o) h in
      let q = plug_has fs a p.type o p.part in
      record {
        type = q.type;
        part = q.part;
        back = λ S' u b i. p.back S' u (plug (with_mark (part_number f) (trodden fs)) b)
            (mark_has S' b (part_number f) (trodden fs) (q.back S' u b i));
      }
