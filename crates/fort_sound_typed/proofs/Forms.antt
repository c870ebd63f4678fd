-- The table of steps, row by row: what a typed form does keeps its type.
use Rattle.std.proofs.Common.{◌≡◌, ℕ, zero, suc, ◌+◌, ◌≤◌, Bool, true, false, if◌then◌else◌, List, [], ◌∷◌, Option, Some, None, refl, ap, sym, ◌∙◌, subst, arith}
use Rattle.fort_base.specs.declared.ids.SetId.{SetId}
use Rattle.fort_base.specs.declared.ty.Ty.{Ty, Arrow, Array}
use Rattle.fort_base.specs.declared.ty.Ty.TheVariants.{Named}
use Rattle.fort_core.specs.declared.form.Order.{Order}
use Rattle.fort_core.specs.declared.form.Order.TheVariants as order
use Rattle.fort_core.specs.declared.form.Slot.TheVariants as slot
use Rattle.fort_core.specs.declared.form.Span.TheVariants as span
use Rattle.fort_core.specs.declared.term.Term.{Term, Then, If, While, For, ForHalves, Reduce, out-Term}
use Rattle.fort_core.specs.declared.term.Term as term
use Rattle.fort_core.specs.declared.term.Term.TheVariants.{outs-Then, outs-If, outs-While, outs-For, outs-ForHalves, outs-Reduce, outs-ReduceHalves, outs-Operator}
use Rattle.fort_core.specs.declared.term.Term.TheOpen.{Term-F}
use Rattle.fort_core.specs.declared.value.Closure.{Closure}
use Rattle.fort_core.specs.declared.value.Value.{Value, out-Value, Tuple as Pack}
use Rattle.fort_core.specs.declared.program.Program.{Program}
use Rattle.fort_machine.specs.Ends.{Standing, at_value, at_throw, open_yet, standing, throw_of}
use Rattle.fort_machine.specs.Parts.{terms_in, in_clauses, values_in}
use Rattle.fort_machine.specs.Scopes.{holds_all}
use Rattle.fort_machine.specs.Texts.{depth, closure_depth}
use Rattle.fort_machine.specs.Types.{domain_of}
use Rattle.fort_machine.specs.Substitution.{substituted, bound_to}
use Rattle.fort_machine.specs.Acts.{stuck, unit}
use Rattle.fort_machine.specs.Generators.{items_at, first_half, rest_half, for_items, reduced_halves, reduce_items}
use Rattle.fort_machine.specs.Forms.{reading_at, writing_at, trying, too_deep, act_at, act}
use Rattle.fort_sound_typed.specs.Envs.{fixed, Sig, none, bind, Fresh, Part, plain, bound}
use Rattle.fort_sound_typed.specs.Typing.{Below, unit_type, small_type, truth_type, thrown_type, Called, ItemsOf, count_of, clauses, Fits, Has, HasParts, parts0, parts1, HasV, HasVs, vs0, vs1}
use Rattle.fort_sound_typed.specs.Sound.{Up, opening}
use Rattle.fort_sound_typed.proofs.Facts.{Facts}
use Rattle.fort_sound_typed.proofs.Rules.{view, has_at, has_value, thrown_has, parts_as, closed, never, two_parts, three_parts, sub, sub_v}
use Rattle.fort_sound_typed.proofs.Grow.{grow}
use Rattle.fort_sound_typed.proofs.Made.{is_value, is_thrown}
use Rattle.fort_sound_typed.proofs.Located.{locate}
use Rattle.fort_sound_typed.proofs.Good.{Good, good_sub, after_good, all_good, once_good, unit_has}
use Rattle.fort_sound_typed.proofs.Items.{halves, same_below, replace_one, applying_good, binding_good, filling_good, element_good, sizing_good, field_reads, field_writes, choosing_good, clause_has, finally_has, deep_good, items_have, item_good, span_of, spanned_good}

module _ (k : Program) (o : Facts k) (S : Sig) (opens : Up (opening k) S) where
  in_none : (q : Part) → Fresh q.vars none
  in_none q z B e = absurd cc

  -- a `for` over items
  module _ (x : ℕ) (source : Value) (body : Term) (A I : Ty) (h : HasV k S source A)
      (i : ItemsOf k A I) where
    for_term : (w : Order) (n m : ℕ) → n + m ≤ count_of (items_at (out-Value source))
        → Has k S (bind x (fixed I) none) body unit_type
        → Has k S none (For w (span.Part n m) x (term.Value source) body) unit_type
    for_term w n m l b =
        has_at k S (outs-For w (span.Part n m) x (term.Value source) body) (record {
          own = unit_type;
          qs = plain A ∷ bound x I unit_type ∷ [];
          ws = [];
          fits = (A, I, i, (source, refl, l), refl, refl);
          parts = parts1 (never k S none) (has_value k S o.reflexive h)
              (parts1 (in_none (bound x I unit_type)) b parts0);
          values = vs0;
          below = o.reflexive unit_type;
        })

    for_good : (w : Order) (n m : ℕ) → n + m ≤ count_of (items_at (out-Value source))
        → Has k S (bind x (fixed I) none) body unit_type
        → Good k S (for_items w (items_at (out-Value source)) n m x source body) unit_type
    for_good w n zero l b = unit_has k o S opens (o.reflexive unit_type)
    for_good order.Seq n (suc m) l b =
        item_good k o S opens (items_at (out-Value source)) n _ I unit_type
        (items_have k o S opens source A I h i (out-Value source) refl) (omega arith)
        (λ v hv. has_at k S
        (outs-Then (substituted x v body)
        (For order.Seq (span.Part (n + 1) m) x (term.Value source) body)) (record {
          own = unit_type;
          qs = plain unit_type ∷ plain unit_type ∷ [];
          ws = [];
          fits = (unit_type, refl);
          parts = two_parts k S (replace_one k o S opens x I v body hv b)
              (for_term order.Seq (n + 1) m (omega arith) b);
          values = vs0;
          below = o.reflexive unit_type;
        }))
    for_good order.Parallel n (suc zero) l b =
        item_good k o S opens (items_at (out-Value source)) n _ I unit_type
        (items_have k o S opens source A I h i (out-Value source) refl) (omega arith)
        (λ v hv. replace_one k o S opens x I v body hv b)
    for_good order.Parallel n (suc (suc m)) l b = let q = halves (suc (suc m)) in
        has_at k S
        (outs-ForHalves
        (For order.Parallel (span.Part n (first_half (suc (suc m)))) x (term.Value source)
        body)
        (For order.Parallel (span.Part (n + first_half (suc (suc m))) (rest_half (suc (suc m)))) x
        (term.Value source) body)) (record {
          own = unit_type;
          qs = plain unit_type ∷ plain unit_type ∷ [];
          ws = [];
          fits = (unit_type, unit_type, refl, refl);
          parts = two_parts k S
              (for_term order.Parallel n (first_half (suc (suc m))) (fits_first n m l q) b)
              (for_term order.Parallel (n + first_half (suc (suc m))) (rest_half (suc (suc m)))
              (fits_rest n m l q) b);
          values = vs0;
          below = o.reflexive unit_type;
        })
      where
        fits_first : (n m : ℕ) → n + suc (suc m) ≤ count_of (items_at (out-Value source))
            → first_half (suc (suc m)) + rest_half (suc (suc m)) ≡ suc (suc m)
            → n + first_half (suc (suc m)) ≤ count_of (items_at (out-Value source))
        fits_first n m l q = omega arith

        fits_rest : (n m : ℕ) → n + suc (suc m) ≤ count_of (items_at (out-Value source))
            → first_half (suc (suc m)) + rest_half (suc (suc m)) ≡ suc (suc m)
            → (n + first_half (suc (suc m))) + rest_half (suc (suc m))
            ≤ count_of (items_at (out-Value source))
        fits_rest n m l q = omega arith

    -- a reduction over items
    module _ (set : SetId) (empty : Term) (R C : Ty) (c : Called k set (R ∷ R ∷ []) C)
        (below : Below k C R) where
      reduce_term : (w : Order) (n m : ℕ) → n + m ≤ count_of (items_at (out-Value source))
          → Has k S none empty R → Has k S (bind x (fixed I) none) body R
          → Has k S none (Reduce w (span.Part n m) set empty x (term.Value source) body) R
      reduce_term w n m l e b =
          has_at k S (outs-Reduce w (span.Part n m) set empty x (term.Value source) body) (record {
            own = R;
            qs = plain R ∷ plain A ∷ bound x I R ∷ [];
            ws = [];
            fits = (A, I, C, i, (source, refl, l), refl, c, below);
            parts = parts1 (never k S none) e
                (parts1 (never k S none) (has_value k S o.reflexive h)
                (parts1 (in_none (bound x I R)) b parts0));
            values = vs0;
            below = o.reflexive R;
          })

      halves_has : (w : Order) (a b : Term) → Has k S none a R → Has k S none b R
          → Has k S none (reduced_halves w set a b) R
      halves_has order.Parallel a b ha hb =
          has_at k S (outs-ReduceHalves set a b)
          (record {
            own = C;
            qs = plain R ∷ plain R ∷ [];
            ws = [];
            fits = (R, R, refl, c);
            parts = two_parts k S ha hb;
            values = vs0;
            below = below;
          })
      halves_has order.Seq a b ha hb =
          has_at k S (outs-Operator set (a ∷ b ∷ []))
          (record {
            own = C;
            qs = plain R ∷ plain R ∷ [];
            ws = [];
            fits = (R ∷ R ∷ [], refl, c);
            parts = two_parts k S ha hb;
            values = vs0;
            below = below;
          })

      reduce_good : (w : Order) (n m : ℕ) → n + m ≤ count_of (items_at (out-Value source))
          → Has k S none empty R → Has k S (bind x (fixed I) none) body R
          → Good k S (reduce_items w (items_at (out-Value source)) n m set empty x source body) R
      reduce_good w n zero l e b = e
      reduce_good w n (suc zero) l e b =
          item_good k o S opens (items_at (out-Value source)) n _ I R
          (items_have k o S opens source A I h i (out-Value source) refl) (omega arith)
          (λ v hv. replace_one k o S opens x I v body hv b)
      reduce_good w n (suc (suc m)) l e b = let q = halves (suc (suc m)) in
          halves_has w
          (Reduce w (span.Part n (first_half (suc (suc m)))) set empty x (term.Value source)
          body)
          (Reduce w (span.Part (n + first_half (suc (suc m))) (rest_half (suc (suc m)))) set empty x
          (term.Value source) body)
          (reduce_term w n (first_half (suc (suc m))) (fits_first n m l q) e b)
          (reduce_term w (n + first_half (suc (suc m))) (rest_half (suc (suc m)))
          (fits_rest n m l q) e b)
        where
          fits_first : (n m : ℕ) → n + suc (suc m) ≤ count_of (items_at (out-Value source))
              → first_half (suc (suc m)) + rest_half (suc (suc m)) ≡ suc (suc m)
              → n + first_half (suc (suc m)) ≤ count_of (items_at (out-Value source))
          fits_first n m l q = omega arith

          fits_rest : (n m : ℕ) → n + suc (suc m) ≤ count_of (items_at (out-Value source))
              → first_half (suc (suc m)) + rest_half (suc (suc m)) ≡ suc (suc m)
              → (n + first_half (suc (suc m))) + rest_half (suc (suc m))
              ≤ count_of (items_at (out-Value source))
          fits_rest n m l q = omega arith

  try_good : (a : Term) (x : ℕ) (cs : List (Term × Ty)) (last : Option Term) (L R : Ty)
      → Has k S none a R → HasParts k S none (in_clauses cs) (clauses x cs R)
      → ((c : Term) → last ≡ Some c → Has k S none c L)
      → Good k S (trying k x cs last (standing a)) R
  try_good a x cs last L R h ps f = go (standing a) refl
    where
      go : (st : Standing) → standing a ≡ st → Good k S (trying k x cs last st) R
      go open_yet e = tt
      go (at_value v) e =
          finally_has k o S opens last L (term.Value v) R f
          (subst (λ u. Has k S none u R) (is_value a v e) h)
      go (at_throw v) e =
          let t : Has k S none (throw_of v) R = subst (λ u. Has k S none u R) (is_thrown a v e) h in
          finally_has k o S opens last L _ R f
          (clause_has k o S opens x v (thrown_type k) R (throw_of v)
          (thrown_has k S o.transitive t) t cs ps)

  act_good_at : (y : Term-F Term Value Closure) (R : Ty) (qs : List Part) (ws : List Ty)
      → Fits k S none y qs ws R → HasParts k S none (terms_in y) qs → HasVs k S (values_in y) ws
      → Good k S (act_at k y) R
  act_good_at (Term-F.Call set ts) R qs ws f ps vs =
      once_good k o S opens R ts f.0 _ (subst (λ z. HasParts k S none ts z) f.1 ps)
      (λ us h. (f.0, R, f.2, h, o.reflexive R))
  act_good_at (Term-F.Operator set ts) R qs ws f ps vs =
      all_good k o S opens R ts f.0 _ (subst (λ z. HasParts k S none ts z) f.1 ps)
      (λ us h. (f.0, R, f.2, h, o.reflexive R))
  act_good_at (Term-F.Apply a b) R qs ws f ps vs =
      once_good k o S opens R (a ∷ b ∷ []) (Arrow f.0 R ∷ f.0 ∷ []) _
      (subst (λ z. HasParts k S none (a ∷ b ∷ []) z) f.1 ps)
      (λ us h. applying_good k o S opens us f.0 R h)
  act_good_at (Term-F.Fill A n a) R qs ws f ps vs = let i = parts_as k S ps f.0 in
      after_good k o S opens R n (small_type k) _ i.0.1
      (λ v e h. after_good k o S opens R a A _ i.1.0.1
      (λ w q j. filling_good k o S opens A w R j
      (same_below k o S opens (Array A) R (sym f.1)) v h (out-Value v) refl))
  act_good_at (Term-F.Let xs a b) R qs ws f ps vs = let i = parts_as k S ps f.0 in
      after_good k o S opens R a (domain_of xs) _ i.0.1
      (λ v e h. binding_good k o S opens xs v b R h f.1 i.1.0.1 (bound_to xs v) refl)
  act_good_at (Term-F.Mutable x A a b) R qs ws f ps vs = let i = parts_as k S ps f in
      after_good k o S opens R a A _ i.0.1 (λ v e h. (
        A ∷ [],
        vs1 h vs0,
        λ S' l u q. locate k o.transitive o.reflexive S' x A l
            (let z : l ≡ l + 0 = omega arith in ap S' z ∙ q 0 A refl) (grow k S S' u i.1.0.1),
      ))
  act_good_at (Term-F.Read (slot.Location l)) R qs ws f ps vs =
      (R, f, λ v h. has_value k S o.reflexive h)
  act_good_at (Term-F.Read (slot.Variable x)) R qs ws f ps vs = tt
  act_good_at (Term-F.Write (slot.Location l) a) R qs ws f ps vs = let i = parts_as k S ps f.2 in
      after_good k o S opens R a f.0 _ i.0.1
      (λ v e h. (f.0, f.1, h, same_below k o S opens unit_type R (sym f.3)))
  act_good_at (Term-F.Write (slot.Variable x) a) R qs ws f ps vs =
      let i = parts_as k S ps f.2 in after_good k o S opens R a f.0 _ i.0.1 (λ v e h. tt)
  act_good_at (Term-F.ReadField a n) R qs ws f ps vs = let i = parts_as k S ps f.2 in
      after_good k o S opens R a (Named f.0) _ i.0.1
      (λ v e h. field_reads k o S opens v f.0 n R h f.1 (out-Value v) refl)
  act_good_at (Term-F.WriteField a n b) R qs ws f ps vs = let i = parts_as k S ps f.4 in
      after_good k o S opens R a (Named f.0) _ i.0.1
      (λ v e h. after_good k o S opens R b f.1 _ i.1.0.1
      (λ w q j. field_writes k o S opens v w f.0 n f.1 R h j f.2 f.3
      (same_below k o S opens unit_type R (sym f.5)) (out-Value v) refl))
  act_good_at (Term-F.ReadElement a b) R qs ws f ps vs = let i = parts_as k S ps f in
      after_good k o S opens R a (Array R) _ i.0.1
      (λ v e h. after_good k o S opens R b (small_type k) _ i.1.0.1
      (λ w q j. element_good k o S opens v R h reading_at R
      (λ l E s c d. (E, s, λ u z. has_value k S o.reflexive (sub_v k S o.transitive z c)))
      (out-Value v) refl (out-Value w)))
  act_good_at (Term-F.WriteElement a b c) R qs ws f ps vs = let i = parts_as k S ps f.1 in
      after_good k o S opens R a (Array f.0) _ i.0.1
      (λ v e h. after_good k o S opens R b (small_type k) _ i.1.0.1
      (λ w q j. after_good k o S opens R c f.0 _ i.1.1.0.1
      (λ u r m. element_good k o S opens v f.0 h (λ l. writing_at l u) R
      (λ l E s d g. (
        E,
        s,
        sub_v k S o.transitive m g,
        same_below k o S opens unit_type R (sym f.2),
      )) (out-Value v) refl (out-Value w))))
  act_good_at (Term-F.Size a) R qs ws f ps vs = let i = parts_as k S ps f.1 in
      after_good k o S opens R a (Array f.0) _ i.0.1
      (λ v e h. sizing_good k o S opens R (same_below k o S opens (small_type k) R (sym f.2)) v
      (Array f.0) h (out-Value v) refl)
  act_good_at (Term-F.Then a b) R qs ws f ps vs =
      let i = parts_as k S ps f.1 in after_good k o S opens R a f.0 _ i.0.1 (λ v e h. i.1.0.1)
  act_good_at (Term-F.If a b c) R qs ws f ps vs =
      let i = parts_as k S ps f
      in after_good k o S opens R a (truth_type k) _ i.0.1
      (λ v e h. choosing_good k o S opens b c R i.1.0.1 i.1.1.0.1 (out-Value v))
  act_good_at (Term-F.While a b) R qs ws f ps vs = let i = parts_as k S ps f.1 in
      sub k S o.transitive (has_at k S (outs-If a (Then b (While a b)) (term.Value unit)) (record {
        own = unit_type;
        qs = plain (truth_type k) ∷ plain unit_type ∷ plain unit_type ∷ [];
        ws = [];
        fits = refl;
        parts = three_parts k S i.0.1 (has_at k S (outs-Then b (While a b)) (record {
          own = unit_type;
          qs = plain f.0 ∷ plain unit_type ∷ [];
          ws = [];
          fits = (f.0, refl);
          parts = two_parts k S i.1.0.1
              (has_at k S (outs-While a b)
              (record {
                own = unit_type;
                qs = plain (truth_type k) ∷ plain f.0 ∷ [];
                ws = [];
                fits = (f.0, refl, refl);
                parts = two_parts k S i.0.1 i.1.0.1;
                values = vs0;
                below = o.reflexive unit_type;
              }));
          values = vs0;
          below = o.reflexive unit_type;
        })) (unit_has k o S opens (o.reflexive unit_type));
        values = vs0;
        below = o.reflexive unit_type;
      })) (same_below k o S opens unit_type R (sym f.2))
  act_good_at (Term-F.Typecase x a cs b) R qs ws f ps vs = let i = parts_as k S ps f.1 in
      after_good k o S opens R a f.0 _ i.0.1
      (λ v e h. clause_has k o S opens x v f.0 R (substituted x v b) h
      (replace_one k o S opens x f.0 v b h i.1.0.1) cs
      (closed k S (in_clauses cs) (clauses x cs R) i.1.1))
  act_good_at (Term-F.For w s x a b) R qs ws f ps vs = let i = parts_as k S ps f.4 in
      after_good k o S opens R a f.0 _ i.0.1
      (λ v e h. spanned_good k o S opens s v R _
      (span_of k o S opens s a v f.3 (is_value a v e))
      (λ n m l. good_sub k o S opens _ unit_type R (for_good x v b f.0 f.1 h f.2 w n m l i.1.0.1)
      (same_below k o S opens unit_type R (sym f.5))))
  act_good_at (Term-F.ForHalves a b) R qs ws f ps vs =
      once_good k o S opens R (a ∷ b ∷ []) (f.0 ∷ f.1 ∷ []) _
      (subst (λ z. HasParts k S none (a ∷ b ∷ []) z) f.2 ps)
      (λ us h. unit_has k o S opens (same_below k o S opens unit_type R (sym f.3)))
  act_good_at (Term-F.Reduce w s set empty x a b) R qs ws f ps vs = let i = parts_as k S ps f.5 in
      after_good k o S opens R a f.0 _ i.1.0.1
      (λ v e h. spanned_good k o S opens s v R _
      (span_of k o S opens s a v f.4 (is_value a v e))
      (λ n m l. reduce_good x v b f.0 f.1 h f.3 set empty R f.2 f.6 f.7 w n m l i.0.1 i.1.1.0.1))
  act_good_at (Term-F.ReduceHalves set a b) R qs ws f ps vs =
      once_good k o S opens R (a ∷ b ∷ []) (f.0 ∷ f.1 ∷ []) _
      (subst (λ z. HasParts k S none (a ∷ b ∷ []) z) f.2 ps)
      (λ us h. (f.0 ∷ f.1 ∷ [], R, f.3, h, o.reflexive R))
  act_good_at (Term-F.Also ts) R qs ws f ps vs =
      once_good k o S opens R ts f.0 _ (subst (λ z. HasParts k S none ts z) f.1 ps)
      (λ us h. unit_has k o S opens (same_below k o S opens unit_type R (sym f.2)))
  act_good_at (Term-F.Throw a) R qs ws f ps vs =
      let i = parts_as k S ps f in after_good k o S opens R a (thrown_type k) _ i.0.1 (λ v e h. tt)
  act_good_at (Term-F.Try a x cs None) R qs ws f ps vs = let i = parts_as k S ps f.1 in
      try_good a x cs None f.0 R i.0.1 (closed k S (in_clauses cs) (clauses x cs R) i.1)
      (λ c e. absurd cc)
  act_good_at (Term-F.Try a x cs (Some b)) R qs ws f ps vs = let i = parts_as k S ps f.1 in
      try_good a x cs (Some b) f.0 R i.0.1 (closed k S (in_clauses cs) (clauses x cs R) i.1.1)
      (λ c e. let z : b ≡ c = cc in subst (λ u. Has k S none u f.0) z i.1.0.1)
  act_good_at (Term-F.Group ts) R qs ws f ps vs =
      once_good k o S opens R ts f.0 _ (subst (λ z. HasParts k S none ts z) f.1 ps)
      (λ us h. deep_good k o S opens (depth (Pack us)) R)
  act_good_at (Term-F.Fn c) R qs ws f ps vs = go (holds_all c)
    where
      go : (b : Bool) → Good k S (if b then too_deep k (closure_depth c) else stuck) R
      go true = deep_good k o S opens (closure_depth c) R
      go false = tt
  act_good_at _ R qs ws f ps vs = tt

  -- what a typed term does keeps its type
  pub act_good : (t : Term) (T : Ty) → Has k S none t T → Good k S (act k t) T
  act_good t T h =
      let r = view k S h
      in good_sub k o S opens _ r.own T
      (act_good_at (out-Term t) r.own r.qs r.ws r.fits r.parts r.values) r.below
