-- Items of generators, elements, fields, functions, clauses: what the rows of the table do with
-- typed values.
use Rattle.std.proofs.Common.{◌≡◌, ℕ, zero, suc, ◌+◌, ◌<◌, ◌≤◌, Bool, true, false, if◌then◌else◌, List, [], ◌∷◌, ◌++◌, map, replicate, Option, Some, None, refl, ap, sym, ◌∙◌, subst, arith, rules, inl, inr, pos, negsuc}
use Rattle.std.specs.Prelude.{slice_get, nat_lt, nat_le, option_map, option_and_then, ◌+ℤ◌}
use Rattle.fort_base.specs.declared.ids.Loc.{Loc}
use Rattle.fort_base.specs.declared.ids.NameId.{NameId}
use Rattle.fort_base.specs.declared.ids.TypeId.{TypeId}
use Rattle.fort_base.specs.declared.ty.Ty.{Ty, Arrow, Array, out-Ty}
use Rattle.fort_base.specs.declared.ty.Ty.TheVariants.{Named}
use Rattle.fort_base.specs.declared.ty.Ty.TheVariants as ty
use Rattle.fort_base.specs.declared.ty.Ty.TheOpen.{Ty-F}
use Rattle.fort_core.specs.declared.form.Span.{Span}
use Rattle.fort_core.specs.declared.form.Span.TheVariants as span
use Rattle.fort_core.specs.declared.program.CoreShape.{CoreShape}
use Rattle.fort_core.specs.declared.term.Term.{Term, Then, out-Term}
use Rattle.fort_core.specs.declared.term.Term as term
use Rattle.fort_core.specs.declared.term.Term.TheVariants.{outs-Value, outs-Then}
use Rattle.fort_core.specs.declared.term.Term.TheOpen.{Term-F, Value-F}
use Rattle.fort_core.specs.declared.value.Closure.{Closure}
use Rattle.fort_core.specs.declared.value.Value.{Value, Small, out-Value}
use Rattle.fort_core.specs.declared.value.Value.TheVariants.{outs-Array}
use Rattle.fort_core.specs.declared.program.Program.{Program}
use Rattle.fort_machine.specs.Primitives.{ValueKind}
use Rattle.fort_machine.specs.Parts.{in_clauses, held_values}
use Rattle.fort_machine.specs.Types.{domain_of, has_type}
use Rattle.fort_machine.specs.Texts.{deepest}
use Rattle.fort_machine.specs.Substitution.{substituted, bound_to}
use Rattle.fort_machine.specs.Acts.{Act, stuck, throwing}
use Rattle.fort_machine.specs.Generators.{Items, numbers_from, elements_from, no_items, items_at, by_item, first_half, rest_half, spanned}
use Rattle.fort_machine.specs.Forms.{entering, applying_to, applying, filling, binding, reading_at, writing_at, place_of, field_of, by_element, sizing, choosing, clause_for, finally_then, too_deep}
use Rattle.std.specs.Int.{w32}
use Rattle.fort_sound_typed.specs.Envs.{fixed, Sig, none, bind, binds, Distinct, fixed_all, named, plain}
use Rattle.fort_sound_typed.specs.Typing.{IsNumber, Below, is_told, unit_type, small_type, Makes, FieldOf, ObjectFits, ItemsOf, count_of, SpanFits, clauses, vars_of, Has, HasParts, parts0, parts1, HasV, HasVs, vs0, vs1}
use Rattle.fort_sound_typed.specs.Sound.{Up, opening}
use Rattle.fort_sound_typed.proofs.Facts.{Facts}
use Rattle.fort_sound_typed.proofs.Bind.{less_first}
use Rattle.fort_sound_typed.proofs.Rules.{has_at, has_v_at, rule_v, has_value, sub, sub_v, parts_as, two_parts}
use Rattle.fort_sound_typed.proofs.Substituted.{replace, replaces}
use Rattle.fort_sound_typed.proofs.Owns.{own_has}
use Rattle.fort_sound_typed.proofs.Good.{Good, failing_good, shape_at, types_of, held_of, bound_has, small_has}

pub halves : (n : ℕ) → first_half n + rest_half n ≡ n
halves n = omega arith

pub less_of : (i n : ℕ) → nat_lt i n ≡ true → i < n
less_of i n e = search (rules, e)

got_replicated : (n : ℕ) (A : Ty) (i : ℕ) → i < n → slice_get (replicate n A) i ≡ Some A
got_replicated zero A i h = absurd (omega arith)
got_replicated (suc n) A zero h = refl
got_replicated (suc n) A (suc i) h = got_replicated n A i (omega arith)

module _ (k : Program) (o : Facts k) (S : Sig) (opens : Up (opening k) S) where
  pub same_below : (A B : Ty) → A ≡ B → Below k A B
  same_below A B e = subst (λ X. Below k A X) e (o.reflexive A)

  -- one variable's value
  pub replace_one : {T : Ty} (x : ℕ) (A : Ty) (v : Value) (t : Term) → HasV k S v A
      → Has k S (bind x (fixed A) none) t T → Has k S none (substituted x v t) T
  replace_one x A v t hv h =
      replace k o.transitive o.reflexive S x A v hv none h (less_first x (fixed A) none refl)

  -- functions
  pairs_have : (hs gs : List (ℕ × Value)) (As ws : List Ty) → HasVs k S (held_of k o S opens hs) As
      → HasVs k S (held_of k o S opens gs) ws
      → HasVs k S (map (λ (h : ℕ × Value). h.1) (hs ++ gs)) (As ++ ws)
  pairs_have [] gs [] ws h i = i
  pairs_have [] gs (A ∷ As) ws h i = elim h [ ]
  pairs_have (q ∷ hs) gs [] ws h i = elim h [ ]
  pairs_have (q ∷ hs) gs (A ∷ As) ws (vs1 h hs') i = vs1 h (pairs_have hs gs As ws hs' i)

  pairs_named : (hs gs : List (ℕ × Value)) (As ws : List Ty) → HasVs k S (held_of k o S opens hs) As
      → named (hs ++ gs) (As ++ ws) ≡ named hs As ++ named gs ws
  pairs_named [] gs [] ws h = refl
  pairs_named [] gs (A ∷ As) ws h = elim h [ ]
  pairs_named (q ∷ hs) gs [] ws h = elim h [ ]
  pairs_named (q ∷ hs) gs (A ∷ As) ws (vs1 h hs') =
      ap (λ r. (q.0, fixed A) ∷ r) (pairs_named hs gs As ws hs')

  enter_good : (c : Closure) (ws : List Ty) (v : Value) (T : Ty) → HasVs k S (held_values c) ws
      → Distinct (vars_of c ws) → Has k S (binds (vars_of c ws) none) c.body c.result
      → HasV k S v (domain_of c.parameters) → Below k c.result T → (m : Option (List (ℕ × Value)))
      → bound_to c.parameters v ≡ m → Good k S (entering c m) T
  enter_good c ws v T i d h hv b None e = tt
  enter_good c ws v T i d h hv b (Some hs) e =
      let j = bound_has k o S opens c.parameters v hs e hv in
      let q : named (hs ++ c.held) (types_of k o S opens c.parameters ++ ws) ≡ vars_of c ws =
      pairs_named hs c.held (types_of k o S opens c.parameters) ws j.0
      ∙ ap (λ r. r ++ named c.held ws) j.1 in
      sub k S o.transitive
      (replaces k o.transitive o.reflexive S (hs ++ c.held)
      (types_of k o S opens c.parameters ++ ws) c.body
      (pairs_have hs c.held (types_of k o S opens c.parameters) ws j.0 i)
      (subst Distinct (sym q) d) (subst (λ z. Has k S (binds z none) c.body c.result) (sym q) h)) b

  apply_good : (f v : Value) (A R : Ty) → HasV k S f (Arrow A R) → HasV k S v A → (y : ValueKind)
      → out-Value f ≡ y → Good k S (applying_to y v) R
  apply_good f v A R hf hv (Value-F.Function c) e =
      let r = rule_v k S e hf in
      let s = shape_at k o S opens r.own (Arrow A R) (Ty-F.Arrow (domain_of c.parameters) c.result)
      (Ty-F.Arrow A R) (ap out-Ty r.fits.2
      ∙ ty.outs-Arrow (domain_of c.parameters) c.result) (ty.outs-Arrow A R) r.below in
      enter_good c r.ws v R r.values r.fits.1 (parts_as k S r.parts r.fits.0).0.1
      (sub_v k S o.transitive hv s.0) s.1 (bound_to c.parameters v) refl
  apply_good f v A R hf hv _ e = tt

  pub applying_good : (vs : List Value) (A R : Ty) → HasVs k S vs (Arrow A R ∷ A ∷ [])
      → Good k S (applying vs) R
  applying_good [] A R h = tt
  applying_good (f ∷ []) A R h = tt
  applying_good (f ∷ v ∷ []) A R (vs1 h (vs1 i j)) = apply_good f v A R h i (out-Value f) refl
  applying_good (f ∷ v ∷ w ∷ vs) A R h = tt

  pub binding_good : (xs : List (ℕ × Ty)) (v : Value) (b : Term) (T : Ty)
      → HasV k S v (domain_of xs) → Distinct (fixed_all xs)
      → Has k S (binds (fixed_all xs) none) b T
      → (m : Option (List (ℕ × Value))) → bound_to xs v ≡ m → Good k S (binding m b) T
  binding_good xs v b T hv d h None e = tt
  binding_good xs v b T hv d h (Some hs) e = let j = bound_has k o S opens xs v hs e hv in
      replaces k o.transitive o.reflexive S hs (types_of k o S opens xs) b j.0
      (subst Distinct (sym j.1) d) (subst (λ z. Has k S (binds z none) b T) (sym j.1) h)

  -- arrays
  replicated : (n : ℕ) (v : Value) (A : Ty) → HasV k S v A
      → HasVs k S (replicate n v) (replicate n A)
  replicated zero v A h = vs0
  replicated (suc n) v A h = vs1 h (replicated n v A h)

  pub filling_good : (A : Ty) (v : Value) (T : Ty) → HasV k S v A → Below k (Array A) T
      → (z : Value) → HasV k S z (small_type k) → (y : ValueKind) → out-Value z ≡ y
      → Good k S (filling k A v y) T
  filling_good A v T h b z hz (Value-F.Small (pos n)) e = (
    replicate n A,
    replicated n v A h,
    λ S' l u q. has_value k S' o.reflexive
        (has_v_at k S' (outs-Array A (record { 0 = l }) n) (record {
          own = Array A;
          qs = [];
          ws = [];
          fits = ((λ i m. q i A (got_replicated n A i m), (rule_v k S e hz).fits.1), refl);
          parts = parts0;
          values = vs0;
          below = b;
        })),
  )
  filling_good A v T h b z hz (Value-F.Small (negsuc n)) e =
      failing_good k o S opens k.built_in.negative_size T (inr (inr (inr (inr (inl refl)))))
  filling_good A v T h b z hz _ e = tt

  array_shape : (v : Value) (A E : Ty) → Below k (Array E) (Array A) → Below k E A × Below k A E
  array_shape v A E b =
      shape_at k o S opens (Array E) (Array A) (Ty-F.Array E) (Ty-F.Array A) (ty.outs-Array E)
      (ty.outs-Array A) b

  pub element_good : (v : Value) (A : Ty) → HasV k S v (Array A) → (f : Option ℕ → Act) (T : Ty)
      → ((l : ℕ) (E : Ty) → S l ≡ Some E → Below k E A → Below k A E → Good k S (f (Some l)) T)
      → (y : ValueKind) → out-Value v ≡ y → (z : ValueKind) → Good k S (by_element k y z f) T
  element_good v A h f T g (Value-F.Array E base size) e (Value-F.Small (pos i)) =
      let r = rule_v k S e h in
      let s = array_shape v A E (subst (λ X. Below k X (Array A)) r.fits.1 r.below) in
      go (nat_lt i size) refl r.fits.0.0 s.0 s.1
    where
      go : (b : Bool) → nat_lt i size ≡ b → ((n : ℕ) → n < size → S (base.0 + n) ≡ Some E)
          → Below k E A → Below k A E
          → Good k S (if b then f (Some (base.0 + i))
          else throwing k k.built_in.index_out_of_range) T
      go true q m b c = g (base.0 + i) E (m i (less_of i size q)) b c
      go false q m b c =
          failing_good k o S opens k.built_in.index_out_of_range T (inr (inr (inr (inl refl))))
  element_good v A h f T g (Value-F.Array E base size) e (Value-F.Small (negsuc i)) =
      failing_good k o S opens k.built_in.index_out_of_range T (inr (inr (inr (inl refl))))
  element_good v A h f T g _ e _ = tt

  pub sizing_good : (R : Ty) → Below k (small_type k) R → (v : Value) (A : Ty) → HasV k S v A
      → (y : ValueKind) → out-Value v ≡ y → Good k S (sizing y) R
  sizing_good R b v A h (Value-F.Array E base size) e =
      has_value k S o.reflexive
      (sub_v k S o.transitive (small_has k o S opens (pos size) (rule_v k S e h).fits.0.1) b)
  sizing_good R b v A h _ e = tt

  -- fields
  pub record Field (y : ValueKind) (f : NameId) (B : Ty) : Type 0 where
    pub location : ℕ
    pub is_location : field_of k f y ≡ Some location
    pub is_type : S location ≡ Some B

  pub field_at : (id : TypeId) (base : Loc) (f : NameId) (B : Ty) → ObjectFits k S id base.0
      → FieldOf k id f B → Field (Value-F.Object id base) f B
  field_at id base f B h i =
      let z : Some h.shape ≡ Some i.shape = sym h.is_shape ∙ i.is_shape
      in let y : h.shape ≡ i.shape = cc in
      record {
        location = base.0 + i.place;
        is_location =
            ap (option_and_then (λ
            (s : CoreShape). option_map (λ n. base.0 + n) (place_of f s.fields))) i.is_shape
            ∙ ap (option_map (λ n. base.0 + n)) i.is_place;
        is_type =
            h.located i.place i.field (ap (λ
            (s : CoreShape). slice_get s.fields i.place) y ∙ i.is_field) ∙ ap Some i.is_type;
      }

  pub field_reads : (v : Value) (id : TypeId) (f : NameId) (R : Ty) → HasV k S v (Named id)
      → FieldOf k id f R → (y : ValueKind) → out-Value v ≡ y
      → Good k S (reading_at (field_of k f y)) R
  field_reads v id f R h i (Value-F.Object j base) e =
      let r = rule_v k S e h in
      let g = o.fields j id f R r.fits.0.shape i r.fits.0.is_shape r.fits.0.is_made
      (subst (λ X. Below k X (Named id)) r.fits.1 r.below) in
      let l = field_at j base f g.0 r.fits.0 g.1 in
      subst (λ z. Good k S (reading_at z) R) (sym l.is_location) (
        g.0,
        l.is_type,
        λ w hw. has_value k S o.reflexive (sub_v k S o.transitive hw g.2),
      )
  field_reads v id f R h i _ e = tt

  pub field_writes : (v w : Value) (id : TypeId) (f : NameId) (A R : Ty) → HasV k S v (Named id)
      → HasV k S w A → (i : FieldOf k id f A) → Makes i.shape.kind → Below k unit_type R
      → (y : ValueKind) → out-Value v ≡ y → Good k S (writing_at (field_of k f y) w) R
  field_writes v w id f A R h hw i m b (Value-F.Object j base) e =
      let r = rule_v k S e h in
      let q = o.leaf j id i.shape i.is_shape m (subst (λ X. Below k X (Named id)) r.fits.1 r.below)
      in
      let l = field_at j base f A r.fits.0 (subst (λ z. FieldOf k z f A) (sym q) i) in
      subst (λ z. Good k S (writing_at z w) R) (sym l.is_location) (A, l.is_type, hw, b)
  field_writes v w id f A R h hw i m b _ e = tt

  pub choosing_good : (a b : Term) (R : Ty) → Has k S none a R → Has k S none b R → (y : ValueKind)
      → Good k S (choosing y a b) R
  choosing_good a b R h i (Value-F.Truth true) = h
  choosing_good a b R h i (Value-F.Truth false) = i
  choosing_good a b R h i _ = tt

  pub clause_has : (x : ℕ) (v : Value) (A R : Ty) (other : Term) → HasV k S v A
      → Has k S none other R → (cs : List (Term × Ty))
      → HasParts k S none (in_clauses cs) (clauses x cs R)
      → Has k S none (clause_for k v cs other (substituted x v)) R
  clause_has x v A R other h i [] ps = i
  clause_has x v A R other h i (c ∷ cs) (parts1 n j js) =
      go (has_type k v c.1) refl (clause_has x v A R other h i cs js)
    where
      go : (b : Bool) → has_type k v c.1 ≡ b
          → Has k S none (clause_for k v cs other (substituted x v)) R
          → Has k S none (if b then substituted x v c.0
          else clause_for k v cs other (substituted x v)) R
      go true e r =
          replace_one x c.1 v c.0 (sub_v k S o.transitive (own_has k o S h).0 (is_told e)) j
      go false e r = r

  pub finally_has : (last : Option Term) (L : Ty) (t : Term) (R : Ty)
      → ((c : Term) → last ≡ Some c → Has k S none c L) → Has k S none t R
      → Has k S none (finally_then last t) R
  finally_has None L t R h i = i
  finally_has (Some c) L t R h i =
      has_at k S (outs-Then c t)
      (record {
        own = R;
        qs = plain L ∷ plain R ∷ [];
        ws = [];
        fits = (L, refl);
        parts = two_parts k S (h c refl) i;
        values = vs0;
        below = o.reflexive R;
      })

  pub deep_good : (n : ℕ) (R : Ty) → Good k S (too_deep k n) R
  deep_good n R = go (nat_le n deepest)
    where
      go : (b : Bool) → Good k S (if b then stuck else throwing k k.built_in.depth_exceeded) R
      go true = tt
      go false =
          failing_good k o S opens k.built_in.depth_exceeded R
          (inr (inr (inr (inr (inr (inl refl))))))

  -- items
  abbrev pub ItemsGood : Items → Ty → Type 0
  ItemsGood (numbers_from first count) I = (I ≡ small_type k)
      × ((n : ℕ) → n < count → IsNumber w32 (first +ℤ pos n))
  ItemsGood (elements_from base count) I = (E : Ty) × ((n : ℕ) → n < count → S (base + n) ≡ Some E)
      × Below k E I
  ItemsGood no_items I = Unit {0}

  pub items_have : (v : Value) (A I : Ty) → HasV k S v A → ItemsOf k A I → (y : ValueKind)
      → out-Value v ≡ y → ItemsGood (items_at y) I
  items_have v A I h (inl i) (Value-F.Range first count) e = (i.1, (rule_v k S e h).fits.1.1)
  items_have v A I h (inr i) (Value-F.Range first count) e = let r = rule_v k S e h in
      absurd (shape_at k o S opens r.own A (Ty-F.Named k.built_in.range) (Ty-F.Array I)
      (ap out-Ty r.fits.0 ∙ ty.outs-Named k.built_in.range) (ap out-Ty i
      ∙ ty.outs-Array I) r.below)
  items_have v A I h (inl i) (Value-F.Array E base size) e = let r = rule_v k S e h in
      absurd (shape_at k o S opens r.own A (Ty-F.Array E) (Ty-F.Named k.built_in.range)
      (ap out-Ty r.fits.1 ∙ ty.outs-Array E) (ap out-Ty i.0
      ∙ ty.outs-Named k.built_in.range) r.below)
  items_have v A I h (inr i) (Value-F.Array E base size) e = let r = rule_v k S e h in
      let s = shape_at k o S opens r.own A (Ty-F.Array E) (Ty-F.Array I) (ap out-Ty r.fits.1
      ∙ ty.outs-Array E) (ap out-Ty i ∙ ty.outs-Array I) r.below in
      (E, r.fits.0.0, s.0)
  items_have v A I h i _ e = tt

  pub item_good : (items : Items) (n : ℕ) (next : Value → Term) (I T : Ty) → ItemsGood items I
      → n < count_of items → ((v : Value) → HasV k S v I → Has k S none (next v) T)
      → Good k S (by_item items n next) T
  item_good (numbers_from first count) n next I T i m g =
      g (Small (first +ℤ pos n))
      (subst (λ X. HasV k S (Small (first +ℤ pos n)) X) (sym i.0)
      (small_has k o S opens (first +ℤ pos n) (i.1 n m)))
  item_good (elements_from base count) n next I T i m g =
      (i.0, i.1 n m, λ v h. g v (sub_v k S o.transitive h i.2))
  item_good no_items n next I T i m g = tt

  abbrev pub SpanOf : Span → Value → Type 0
  SpanOf span.Whole v = Unit {0}
  SpanOf (span.Part n m) v = n + m ≤ count_of (items_at (out-Value v))

  pub span_of : (s : Span) (a : Term) (v : Value) → SpanFits s a → a ≡ term.Value v → SpanOf s v
  span_of span.Whole a v i e = tt
  span_of (span.Part n m) a v i e =
      let z : Term-F.Value i.0 ≡ Term-F.Value v =
      sym (outs-Value i.0) ∙ ap out-Term (sym i.1 ∙ e) ∙ outs-Value v in
      let y : i.0 ≡ v = cc in subst (λ u. n + m ≤ count_of (items_at (out-Value u))) y i.2

  pub spanned_good : (s : Span) (v : Value) (T : Ty) (f : ℕ → ℕ → Act) → SpanOf s v
      → ((n m : ℕ) → n + m ≤ count_of (items_at (out-Value v)) → Good k S (f n m) T)
      → Good k S (spanned s (items_at (out-Value v)) f) T
  spanned_good (span.Part n m) v T f i g = g n m i
  spanned_good span.Whole v T f i g = go (items_at (out-Value v)) g
    where
      go : (items : Items) → ((n m : ℕ) → n + m ≤ count_of items → Good k S (f n m) T)
          → Good k S (spanned span.Whole items f) T
      go (numbers_from first count) g = g 0 count (omega arith)
      go (elements_from base count) g = g 0 count (omega arith)
      go no_items g = tt
