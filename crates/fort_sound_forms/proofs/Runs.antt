-- What comes of the elements of a run or of a juxtaposition.
use Rattle.std.proofs.Common.{◌≡◌, suc, Bool, true, false, cond, ◌&&◌, List, [], ◌∷◌, length, map, Some, refl, sym, subst}
use Rattle.std.specs.Prelude.{codes}
use Rattle.std.specs.List.{AllByRecursion}
use Rattle.std.specs.Str.{bytes_eq}
use Rattle.fort_base.specs.declared.ids.NameId.{NameId}
use Rattle.fort_base.specs.declared.refusal.Place.{Place}
use Rattle.fort_base.specs.declared.ty.Ty.{Ty, Array, out-Ty}
use Rattle.fort_base.specs.declared.ty.Ty.TheOpen.{Ty-F}
use Rattle.fort_types_sets.specs.declared.field.Field.{Field}
use Rattle.fort_juxt.specs.declared.elements.Grouping.{Grouping}
use Rattle.fort_scope.specs.declared.binding.Binding.{Binding}
use Rattle.fort_form_typed.specs.declared.typed_form.TypedForm.{TypedForm, out-TypedForm}
use Rattle.fort_form_typed.specs.declared.typed_form.TypedForm.TheOpen.{TypedForm-F}
use Rattle.fort_core.specs.declared.program.Program.{Program}
use Rattle.fort_typing_known.specs.Known.{Knows}
use Rattle.fort_typing_known.specs.Names.{field_at}
use Rattle.fort_typing_known.specs.Sets.{spelled, function_set, method_set}
use Rattle.fort_sound_typed.specs.Typing.{Below}
use Rattle.fort_typing_rules.specs.declared.part.Part.{Part}
use Rattle.fort_typing_rules.specs.declared.part.Meaning.{Meaning}
use Rattle.fort_typing_rules.specs.declared.part.Meaning.TheVariants as a_meaning
use Rattle.fort_typing_rules.specs.Types.{zz32, is_nothing, array_at, type_of, types_of}
use Rattle.fort_typing_rules.specs.Calls.{Calls}
use Rattle.fort_typing_rules.specs.Elements as element
use Rattle.fort_typing_law_rules.specs.Deciding.{IsAccepted}
use Rattle.fort_typing_law_rules.specs.Typed.{IsTyped, MeansTyped}
use Rattle.fort_typing_law_rules.proofs.Types.{all_left, all_right, all_join, all_item}
use Rattle.fort_typing_law_rules.proofs.Typed.{PartTyped, PartsTyped, arguments-typed, value-typed, all-types, part-typed, rewritten-typed, grouped-typed}
use Rattle.fort_elab_meaning.specs.Parts.{Given, maker_of}
use Rattle.fort_elab_meaning.specs.Translated.{part}
use Rattle.fort_sound_forms.specs.Suits.{Suits}
use Rattle.fort_sound_forms.proofs.Makers.{EachGood}
use Rattle.fort_sound_forms.proofs.Facts.{array_is, arrow_is, named_is, told, call_is}
use Rattle.fort_sound_forms.proofs.Plain.{IsField, Target, Plain, AllPlain, each_good}
use Rattle.fort_sound_forms.proofs.Simple.{plain-ReadField, plain-ReadElement, plain-Size, plain-Call, plain-Operation, plain-Apply}

module _ (k : Knows) (A : IsAccepted k) (g : Given) (p : Program) (U : Suits k g p)
    (bs : List Binding) where
  abbrev Fine : TypedForm → Type 0
  Fine t = Plain k g p bs t

  -- what an element is
  abbrev pub MeansPlain : Meaning → Type 0
  MeansPlain (a_meaning.Value t) = Fine t
  MeansPlain (a_meaning.Index t) = Fine t × Below p (type_of t) zz32
  MeansPlain (a_meaning.Exponent t) = Fine t
  MeansPlain (a_meaning.Method at name ts) = AllPlain k g p bs ts
  MeansPlain _ = Unit {0}

  abbrev pub PartsPlain : List Part → Type 0
  PartsPlain ps = AllByRecursion (λ (q : Part). MeansPlain q.meaning) ps

  abbrev MadePlain : element.Made → Type 0
  MadePlain (element.gives t) = Fine t
  MadePlain (element.breaks r at) = Unit {0}

  means : {m n : Meaning} → MeansPlain m → m ≡ n → MeansPlain n
  means h e = subst MeansPlain e h

  -- the arguments of a function set
  abbrev Arguments : List TypedForm → Type 0
  Arguments ts = EachGood k p bs (map maker_of (map (part g) ts)) (types_of ts)

  alone : (u : TypedForm) → Fine u → Arguments (u ∷ [])
  alone u h = (h.maker, tt)

  parts_of : (u : TypedForm) → Fine u → (x : TypedForm-F TypedForm) → Target k g p bs x
      → Arguments (element.parts_at u x)
  parts_of u h (TypedForm-F.Tuple ty ts) w = w
  parts_of u h _ w = alone u h

  arguments_plain : (a : Part) (u : TypedForm) → Fine u → Arguments (element.arguments a u)
  arguments_plain a u h = go a.listed
    where
      go : (c : Bool) → Arguments (cond c (element.parts_at u (out-TypedForm u)) (u ∷ []))
      go true = parts_of u h (out-TypedForm u) h.target
      go false = alone u h

  -- ---- two elements

  applies_plain : (f a : Part) (m : element.Made) → PartTyped k A f → PartTyped k A a
      → MeansPlain f.meaning → MeansPlain a.meaning → element.Applies k (Calls k) f a m
      → MadePlain m
  applies_plain f a m F G x y (element.call name u result ws fm am c me) =
      let ts = element.arguments a u in
      subst MadePlain (sym me)
      (plain-Call k A g p U (function_set k.facts name (length ts)) result ws ts
      (arguments_plain a u (means y am))
      (call_is k A g p U (function_set k.facts name (length ts)) (types_of ts) result ws
      (arguments-typed k A a u (value-typed k A a u G am)) c))
  applies_plain f a m F G x y (element.no_call name u r fm am c me) = subst MadePlain (sym me) tt
  applies_plain f a m F G x y (element.value h u domain result fm arrow am b me) =
      subst MadePlain (sym me)
      (plain-Apply k A g p U h u domain result (means x fm)
      (arrow_is (type_of h) domain result arrow) (means y am)
      (told k A g p U (type_of u) domain (value-typed k A a u G am).0 b))
  applies_plain f a m F G x y (element.no_argument h u domain result fm arrow am b me) =
      subst MadePlain (sym me) tt

  joins_plain : (a b : Part) (m : element.Made) → PartTyped k A a → PartTyped k A b
      → MeansPlain a.meaning → MeansPlain b.meaning → element.Joins k (Calls k) a b m → MadePlain m
  joins_plain a b m F G x y (element.joining u v result ws am bm c me) =
      subst MadePlain (sym me)
      (plain-Operation k A g p U _ result ws (u ∷ v ∷ []) (means x am, (means y bm, tt))
      (call_is k A g p U _ (type_of u ∷ type_of v ∷ []) result ws (
        (value-typed k A a u F am).0,
        ((value-typed k A b v G bm).0, tt),
      ) c))
  joins_plain a b m F G x y (element.no_joining u v r am bm c me) = subst MadePlain (sym me) tt

  exponent_typed : (q : Part) (e : TypedForm) → PartTyped k A q → q.meaning ≡ a_meaning.Exponent e
      → IsTyped k e
  exponent_typed q e G is = subst (MeansTyped k) is G

  method_typed : (q : Part) (at : Place) (name : NameId) (ts : List TypedForm) → PartTyped k A q
      → q.meaning ≡ a_meaning.Method at name ts → AllByRecursion (IsTyped k) ts
  method_typed q at name ts G is = subst (MeansTyped k) is G

  field_is : (T : Ty) (x : Ty-F Ty) (name : NameId) (f : Field) → out-Ty T ≡ x
      → field_at k.facts x name ≡ Some f → IsField k g p T name f.ty
  field_is T (Ty-F.Named o) name f e h = (o, f, named_is T o e, h, refl)
  field_is T Ty-F.Nothing name f e h = absurd cc
  field_is T Ty-F.Any name f e h = absurd cc
  field_is T (Ty-F.Tuple ts) name f e h = absurd cc
  field_is T (Ty-F.Arrow a b) name f e h = absurd cc
  field_is T (Ty-F.Array a) name f e h = absurd cc

  first_true : (a b : Bool) → a && b ≡ true → a ≡ true
  first_true true b e = refl
  first_true false b e = absurd cc

  array_of : (T : Ty) (x : Ty-F Ty) → out-Ty T ≡ x → array_at x ≡ true → (e : Ty) × (T ≡ Array e)
  array_of T (Ty-F.Array a) e h = (a, array_is T a e)
  array_of T Ty-F.Nothing e h = absurd cc
  array_of T Ty-F.Any e h = absurd cc
  array_of T (Ty-F.Named o) e h = absurd cc
  array_of T (Ty-F.Tuple ts) e h = absurd cc
  array_of T (Ty-F.Arrow a b) e h = absurd cc

  sized : (u : TypedForm) (name : NameId) (ts : List TypedForm)
      → element.is_size k.facts u name ts ≡ true → (e : Ty) × (type_of u ≡ Array e)
  sized u name [] h =
      array_of (type_of u) (out-Ty (type_of u)) refl
      (first_true (array_at (out-Ty (type_of u))) (bytes_eq (spelled k.facts name) (codes "size"))
      h)
  sized u name (t ∷ ts) h = absurd cc

  follows_plain : (a q : Part) (m : element.Made) → PartTyped k A a → PartTyped k A q
      → MeansPlain a.meaning → MeansPlain q.meaning → element.Follows k (Calls k) a q m
      → MadePlain m
  follows_plain a q m F G x y (element.index u i e am qm shape me) =
      let z = means y qm
      in subst MadePlain (sym me)
      (plain-ReadElement k A g p U e u i (means x am) (array_is (type_of u) e shape) z.0 z.1)
  follows_plain a q m F G x y (element.no_array u i am qm shape me) = subst MadePlain (sym me) tt
  follows_plain a q m F G x y (element.power u e result ws am qm c me) =
      subst MadePlain (sym me)
      (plain-Operation k A g p U _ result ws (u ∷ e ∷ []) (means x am, (means y qm, tt))
      (call_is k A g p U _ (type_of u ∷ type_of e ∷ []) result ws (
        (value-typed k A a u F am).0,
        ((exponent_typed q e G qm).0, tt),
      ) c))
  follows_plain a q m F G x y (element.no_power u e r am qm c me) = subst MadePlain (sym me) tt
  follows_plain a q m F G x y (element.field u at name f am qm has me) =
      subst MadePlain (sym me)
      (plain-ReadField k A g p U f.ty u name (means x am)
      (field_is (type_of u) (out-Ty (type_of u)) name f refl has))
  follows_plain a q m F G x y (element.no_field u at name am qm has me) =
      subst MadePlain (sym me) tt
  follows_plain a q m F G x y (element.size u at name ts am qm is me) =
      let e = sized u name ts is
      in subst MadePlain (sym me) (plain-Size k A g p U u e.0 (means x am) e.1)
  follows_plain a q m F G x y (element.method u at name ts result ws am qm is has c me) =
      let z = means x am in
      subst MadePlain (sym me)
      (plain-Call k A g p U (method_set k.facts name (suc (length ts))) result ws (u ∷ ts)
      (z.maker, each_good k g p bs ts (means y qm))
      (call_is k A g p U (method_set k.facts name (suc (length ts))) (type_of u ∷ types_of ts)
      result ws (
        (value-typed k A a u F am).0,
        all-types k A ts (method_typed q at name ts G qm),
      ) c))
  follows_plain a q m F G x y (element.no_method u at name ts am qm is has me) =
      subst MadePlain (sym me) tt
  follows_plain a q m F G x y (element.no_method_call u at name ts r am qm is has c me) =
      subst MadePlain (sym me) tt

  -- ---- runs

  abbrev PartPlain : Part → Type 0
  PartPlain q = MeansPlain q.meaning

  barred_plain : (c : Bool) (t : TypedForm) → Fine t
      → MeansPlain (cond c a_meaning.Unknown (a_meaning.Value t))
  barred_plain true t h = tt
  barred_plain false t h = h

  whole_plain : (c : Bool) (m : element.Made) → MadePlain m → MeansPlain (element.meaning_of c m)
  whole_plain true (element.gives t) h = h
  whole_plain false (element.gives t) h = barred_plain (is_nothing (type_of t)) t h
  whole_plain c (element.breaks r at) h = tt

  rewritten_plain : (ps before after : List Part) (place : Place) (m : element.Made)
      → element.Rewritten k (Calls k) ps before place m after → PartsTyped k A ps → PartsPlain ps
      → PartsPlain (element.rewritten before place m after)
  rewritten_plain ps before after place m (element.applied f a next is at h) P Q =
      let P1 = all_right (PartTyped k A) before (f ∷ a ∷ after) (subst (PartsTyped k A) is P) in
      let Q1 = subst PartsPlain is Q in let Q2 = all_right PartPlain before (f ∷ a ∷ after) Q1 in
      let M = applies_plain f a m P1.0 P1.1.0 Q2.0 Q2.1.0 h in
      all_join PartPlain before _ (all_left PartPlain before (f ∷ a ∷ after) Q1)
      (whole_plain (element.is_whole before after) m M, Q2.1.1)
  rewritten_plain ps before after place m (element.followed a q next is at h) P Q =
      let P1 = all_right (PartTyped k A) before (a ∷ q ∷ after) (subst (PartsTyped k A) is P) in
      let Q1 = subst PartsPlain is Q in let Q2 = all_right PartPlain before (a ∷ q ∷ after) Q1 in
      let M = follows_plain a q m P1.0 P1.1.0 Q2.0 Q2.1.0 h in
      all_join PartPlain before _ (all_left PartPlain before (a ∷ q ∷ after) Q1)
      (whole_plain (element.is_whole before after) m M, Q2.1.1)
  rewritten_plain ps before after place m (element.joined a b next none is at h) P Q =
      let P1 = subst (PartsTyped k A) is P in
      let Q1 = subst PartsPlain is Q in
      let M = joins_plain a b m P1.0 P1.1.0 Q1.0 Q1.1.0 h in
      subst (λ (xs : List Part). PartsPlain (element.rewritten xs place m after)) (sym none)
      (whole_plain (element.is_whole [] after) m M, Q1.1.1)

  pub becomes_plain : {ps : List Part} {t : TypedForm} → element.Becomes k (Calls k) ps t
      → PartsTyped k A ps → PartsPlain ps → Fine t
  becomes_plain (element.whole q is m) P Q = means (subst PartsPlain is Q).0 m
  becomes_plain {ps = ps} (element.on before after place u step free rest) P Q =
      becomes_plain rest (rewritten-typed k A ps before after place (element.gives u) step P).1
      (rewritten_plain ps before after place (element.gives u) step P Q)

  -- ---- juxtapositions

  as_part_means : (m : Meaning) → MeansPlain m → MeansPlain (element.barred_by m)
  as_part_means (a_meaning.Value t) h = barred_plain (is_nothing (type_of t)) t h
  as_part_means a_meaning.Unknown h = h
  as_part_means (a_meaning.Functions name) h = h
  as_part_means (a_meaning.Index t) h = h
  as_part_means (a_meaning.Exponent t) h = h
  as_part_means (a_meaning.Field at name) h = h
  as_part_means (a_meaning.Method at name ts) h = h

  grouped_plain : (ps : List Part) {e : Grouping} {q : Part} → element.Grouped k (Calls k) ps e q
      → PartsTyped k A ps → PartsPlain ps → PartPlain q
  grouped_plain ps {q = q} (element.of_one i is at) P Q = all_item PartPlain ps i q Q at
  grouped_plain ps (element.of_applied a b q r m is ga gb h qe) P Q =
      subst PartPlain (sym qe)
      (whole_plain true m (applies_plain (element.as_part q) (element.as_part r) m
      (part-typed k A q (grouped-typed k A ps ga P)) (part-typed k A r (grouped-typed k A ps gb P))
      (as_part_means q.meaning (grouped_plain ps ga P Q))
      (as_part_means r.meaning (grouped_plain ps gb P Q)) h))
  grouped_plain ps (element.of_joined a b q r m is ga gb h qe) P Q =
      subst PartPlain (sym qe)
      (whole_plain true m (joins_plain (element.as_part q) (element.as_part r) m
      (part-typed k A q (grouped-typed k A ps ga P)) (part-typed k A r (grouped-typed k A ps gb P))
      (as_part_means q.meaning (grouped_plain ps ga P Q))
      (as_part_means r.meaning (grouped_plain ps gb P Q)) h))
  grouped_plain ps (element.of_unapplied a b q r is ga gb u qe) P Q = subst PartPlain (sym qe) tt
  grouped_plain ps (element.of_unjoined a b q r is ga gb u qe) P Q = subst PartPlain (sym qe) tt

  pub stands_plain : (ps : List Part) (t : TypedForm) → element.Stands k (Calls k) ps t
      → PartsTyped k A ps → PartsPlain ps → Fine t
  stands_plain ps t (element.grouped e q gr h m) P Q = means (grouped_plain ps h P Q) m
