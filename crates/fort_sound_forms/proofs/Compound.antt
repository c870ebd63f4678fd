-- Forms that choose, and forms that bind names.
use Rattle.std.proofs.Common.{◌≡◌, ℕ, suc, Bool, true, List, [], ◌∷◌, ◌++◌, map, Option, Some, None, rules, refl, sym, subst}
use Rattle.std.specs.Prelude.{slice_get}
use Rattle.std.specs.List.{AllByRecursion}
use Rattle.fort_base.specs.declared.ids.NameId.{NameId}
use Rattle.fort_base.specs.declared.refusal.Place.{Place}
use Rattle.fort_base.specs.declared.ty.Ty.{Ty}
use Rattle.fort_base.specs.declared.ty.Ty.TheVariants as a_type
use Rattle.fort_ops.specs.declared.op.Op.TheVariants as an_op
use Rattle.fort_scope.specs.declared.binding.Binding.{Binding}
use Rattle.fort_form.specs.declared.form.Parameter.{Parameter}
use Rattle.fort_form.specs.declared.form.Reduction.{Reduction}
use Rattle.fort_form_typed.specs.declared.typed_form.Chosen.{Chosen}
use Rattle.fort_form_typed.specs.declared.typed_form.TypedForm.{TypedForm, out-TypedForm, the_lemmas}
use Rattle.fort_form_typed.specs.declared.typed_form.TypedForm.TheVariants as a_typed
use Rattle.fort_form_typed.specs.declared.typed_form.TypedForm.TheOpen.{TypedForm-F}
use Rattle.fort_core.specs.declared.program.Program.{Program}
use Rattle.fort_typing_known.specs.Known.{Knows}
use Rattle.fort_typing_known.specs.Names.{bound}
use Rattle.fort_typing_known.specs.Sets.{operator_set}
use Rattle.fort_sound_typed.specs.Typing.{Below, unit_type, ItemsOf}
use Rattle.fort_sound_typed.proofs.Order.{itself}
use Rattle.fort_typing_rules.specs.Types.{boolean, unit, IsWidest, tuple_of, parameter_type, type_of, types_of}
use Rattle.fort_typing_rules.specs.Typing as rule
use Rattle.fort_typing_law_rules.specs.Deciding.{AreTypes, IsAccepted}
use Rattle.fort_typing_law_rules.proofs.Types.{all_item}
use Rattle.fort_elab_meaning.specs.Parts.{Given}
use Rattle.fort_elab_meaning.specs.Values.{neutral}
use Rattle.fort_elab_meaning.specs.Items.{block, parameter, fn, loops}
use Rattle.fort_elab_meaning.specs.Translated.{translated, part}
use Rattle.fort_sound_forms.specs.Suits.{Suits}
use Rattle.fort_sound_forms.proofs.Makers.{Good}
use Rattle.fort_sound_forms.proofs.Facts.{tr, told}
use Rattle.fort_sound_forms.proofs.Values.{has_unit, has_neutral}
use Rattle.fort_sound_forms.proofs.Plain.{Plain, AllPlain, plain_of, good_part, good_parts, type_is, types_are}
use Rattle.fort_sound_forms.proofs.Simple.{above}
use Rattle.fort_sound_forms.proofs.Scoped.{parameters_fixed, parameters_are, parameter_types, good_fn, good_reduction}
use Rattle.fort_sound_forms.proofs.Choices.{AllGood, CasesGood, good_or_else, good_branches, Tests, ClausesGood, good_cases, good_typecase, good_trying}
use Rattle.fort_sound_forms.proofs.Chains.{Compared, good_chain}

module _ (k : Knows) (A : IsAccepted k) (g : Given) (p : Program) (U : Suits k g p) where
  -- ---- the widest type

  abbrev pub AllBelow : List TypedForm → Ty → Type 0
  AllBelow ts T = AllByRecursion (λ (t : TypedForm). Below p (type_of t) T) ts

  abbrev pub EachBelow : List Ty → Ty → Type 0
  EachBelow types T = (j : ℕ) (x : Ty) → slice_get types j ≡ Some x → Below p x T

  pub widest_over : (types : List Ty) (T : Ty) → IsWidest k types T → AreTypes k types
      → EachBelow types T
  widest_over types T w t j x e = told k A g p U x T (all_item _ types j x t e) (w.over j x e)

  pub first_ones : (ts : List TypedForm) (more : List Ty) (T : Ty)
      → EachBelow (types_of ts ++ more) T → AllBelow ts T
  first_ones [] more T h = tt
  first_ones (t ∷ ts) more T h =
      (h 0 (type_of t) refl, first_ones ts more T (λ j x e. h (suc j) x e))

  pub last_ones : (ts : List TypedForm) (more : List Ty) (T : Ty)
      → EachBelow (types_of ts ++ more) T → EachBelow more T
  last_ones [] more T h = h
  last_ones (t ∷ ts) more T h = last_ones ts more T (λ j x e. h (suc j) x e)

  -- parts at a type above theirs
  pub all_good : (bs : List Binding) (ts : List TypedForm) (T : Ty) → AllPlain k g p bs ts
      → AllBelow ts T → AllGood k p bs T (map (part g) ts)
  all_good bs [] T h b = tt
  all_good bs (t ∷ ts) T h b = (above k A g p U h.0 b.0, all_good bs ts T h.1 b.1)

  abbrev pub MayBePlain : List Binding → Ty → Option TypedForm → Type 0
  MayBePlain bs T None = Unit {0}
  MayBePlain bs T (Some t) = Plain k g p bs t × Below p (type_of t) T

  -- ---- choices

  pub plain-If : {bs : List Binding} (tests values : List TypedForm) (u : TypedForm) (T : Ty)
      → AllPlain k g p bs tests → AllBelow tests boolean → AllPlain k g p bs values
      → AllBelow values T
      → Plain k g p bs u → Below p (type_of u) T
      → Plain k g p bs (a_typed.If T tests values (Some u))
  plain-If {bs} tests values u T h b i c j d =
      let is : out-TypedForm (a_typed.If T tests values (Some u))
      ≡ TypedForm-F.If T tests values (Some u) = search (rules, the_lemmas) in
      plain_of k g p _ is
      (good_branches k p (map (part g) tests) (map (part g) values) (translated g u)
      (subst (λ X. AllGood k p bs X (map (part g) tests)) (sym U.truth)
      (all_good bs tests boolean h b)) (all_good bs values T i c) (above k A g p U j d)) tt

  pub plain-IfAlone : {bs : List Binding} (tests values : List TypedForm) → AllPlain k g p bs tests
      → AllBelow tests boolean → AllPlain k g p bs values → AllBelow values unit
      → Plain k g p bs (a_typed.If unit tests values None)
  plain-IfAlone {bs} tests values h b i c =
      let is : out-TypedForm (a_typed.If unit tests values None)
      ≡ TypedForm-F.If unit tests values None = search (rules, the_lemmas) in
      plain_of k g p _ is
      (good_branches k p (map (part g) tests) (map (part g) values) _
      (subst (λ X. AllGood k p bs X (map (part g) tests)) (sym U.truth)
      (all_good bs tests boolean h b)) (all_good bs values unit i c)
      (good_or_else k p None _ tt (λ G. has_unit k g p U G))) tt

  -- the clauses of a `case`
  abbrev pub ClausesPlain : List Binding → Ty → Ty → List Chosen → List TypedForm → List TypedForm
      → Type 0
  ClausesPlain bs W T (c ∷ cs) (t ∷ ts) (v ∷ vs) = Tests k A g p U bs W c (part g t)
      × (Plain k g p bs v × Below p (type_of v) T) × ClausesPlain bs W T cs ts vs
  ClausesPlain bs W T _ _ _ = Unit {0}

  clauses_good : (bs : List Binding) (W T : Ty) (cs : List Chosen) (ts vs : List TypedForm)
      → ClausesPlain bs W T cs ts vs
      → ClausesGood k A g p U bs W T cs (map (part g) ts) (map (part g) vs)
  clauses_good bs W T [] ts vs h = tt
  clauses_good bs W T (c ∷ cs) [] vs h = tt
  clauses_good bs W T (c ∷ cs) (t ∷ ts) [] h = tt
  clauses_good bs W T (c ∷ cs) (t ∷ ts) (v ∷ vs) h =
      (h.0, above k A g p U h.1.0 h.1.1, clauses_good bs W T cs ts vs h.2)

  pub plain-Case : {bs : List Binding} (u : TypedForm) (cs : List Chosen)
      (tests values : List TypedForm) (w : Option TypedForm) (T : Ty) → Plain k g p bs u
      → ClausesPlain bs (type_of u) T cs tests values → MayBePlain bs T w
      → Plain k g p bs (a_typed.Case T u cs tests values w)
  plain-Case {bs} u cs tests values None T h i o =
      let is : out-TypedForm (a_typed.Case T u cs tests values None)
      ≡ TypedForm-F.Case T u cs tests values None = search (rules, the_lemmas) in
      plain_of k g p _ is
      (good_cases k A g p U (part g u) cs (map (part g) tests) (map (part g) values) None
      (good_part k g p u h)
      (subst (λ X. ClausesGood k A g p U bs X T cs (map (part g) tests) (map (part g) values))
      (sym (type_is k g p u)) (clauses_good bs (type_of u) T cs tests values i)) tt) tt
  plain-Case {bs} u cs tests values (Some d) T h i o =
      let is : out-TypedForm (a_typed.Case T u cs tests values (Some d))
      ≡ TypedForm-F.Case T u cs tests values (Some d) = search (rules, the_lemmas) in
      plain_of k g p _ is
      (good_cases k A g p U (part g u) cs (map (part g) tests) (map (part g) values)
      (Some (part g d)) (good_part k g p u h)
      (subst (λ X. ClausesGood k A g p U bs X T cs (map (part g) tests) (map (part g) values))
      (sym (type_is k g p u)) (clauses_good bs (type_of u) T cs tests values i))
      (above k A g p U o.0 o.1)) tt

  -- clauses with types
  abbrev pub CasesPlain : List Binding → Option (Place × NameId) → Ty → List TypedForm → List Ty
      → Type 0
  CasesPlain bs name T [] [] = Unit {0}
  CasesPlain bs name T (v ∷ vs) (ty ∷ tys) =
      (Plain k g p (rule.with_clause bs name ty) v × Below p (type_of v) T)
      × CasesPlain bs name T vs tys
  CasesPlain bs name T _ _ = ⊥

  cases_good : (bs : List Binding) (name : Option (Place × NameId)) (T : Ty) (vs : List TypedForm)
      (tys : List Ty) → CasesPlain bs name T vs tys → CasesGood k p bs name T (map (part g) vs) tys
  cases_good bs name T [] [] h = tt
  cases_good bs name T [] (ty ∷ tys) h = absurd h
  cases_good bs name T (v ∷ vs) [] h = absurd h
  cases_good bs name T (v ∷ vs) (ty ∷ tys) h =
      (above k A g p U h.0.0 h.0.1, cases_good bs name T vs tys h.1)

  pub plain-Typecase : {bs : List Binding} (place : Place) (name : NameId) (u : TypedForm)
      (tys : List Ty) (values : List TypedForm) (w : Option TypedForm) (T : Ty)
      → rule.is_fresh k bs (Some (place, name)) ≡ true → Plain k g p bs u
      → CasesPlain bs (Some (place, name)) T values tys
      → MayBePlain (rule.with_clause bs (Some (place, name)) (type_of u)) T w
      → Plain k g p bs (a_typed.Typecase T name u tys values w)
  plain-Typecase {bs} place name u tys values None T f h i o =
      let is : out-TypedForm (a_typed.Typecase T name u tys values None)
      ≡ TypedForm-F.Typecase T name u tys values None = search (rules, the_lemmas) in
      plain_of k g p _ is
      (good_typecase k A g p U place name (part g u) tys (map (part g) values) None f
      (good_part k g p u h) (cases_good bs (Some (place, name)) T values tys i)
      tt) tt
  plain-Typecase {bs} place name u tys values (Some d) T f h i o =
      let is : out-TypedForm (a_typed.Typecase T name u tys values (Some d))
      ≡ TypedForm-F.Typecase T name u tys values (Some d) = search (rules, the_lemmas) in
      plain_of k g p _ is
      (good_typecase k A g p U place name (part g u) tys (map (part g) values) (Some (part g d))
      f (good_part k g p u h) (cases_good bs (Some (place, name)) T values tys i)
      (subst (λ X. Good k p (rule.with_clause bs (Some (place, name)) X) (translated g d) T)
      (sym (type_is k g p u)) (above k A g p U o.0 o.1))) tt

  pub plain-Try : {bs : List Binding} (name : Option (Place × NameId)) (u : TypedForm)
      (tys : List Ty) (values : List TypedForm) (w : Option TypedForm) (T : Ty)
      → rule.is_fresh k bs name ≡ true → Plain k g p bs u → Below p (type_of u) T
      → CasesPlain bs name T values tys → MayBePlain bs unit w
      → Plain k g p bs (a_typed.Try T u (rule.bound_name name) tys values w)
  plain-Try {bs} name u tys values None T f h b i o =
      let is : out-TypedForm (a_typed.Try T u (rule.bound_name name) tys values None)
      ≡ TypedForm-F.Try T u (rule.bound_name name) tys values None = search (rules, the_lemmas) in
      plain_of k g p _ is
      (good_trying k A g p U unit (part g u) name tys (map (part g) values) None f
      (above k A g p U h b) (cases_good bs name T values tys i) tt) tt
  plain-Try {bs} name u tys values (Some d) T f h b i o =
      let is : out-TypedForm (a_typed.Try T u (rule.bound_name name) tys values (Some d))
      ≡ TypedForm-F.Try T u (rule.bound_name name) tys values (Some d) = search (rules, the_lemmas)
      in
      plain_of k g p _ is
      (good_trying k A g p U unit (part g u) name tys (map (part g) values) (Some (part g d)) f
      (above k A g p U h b) (cases_good bs name T values tys i) (above k A g p U o.0 o.1))
      tt

  -- ---- chains, functions, blocks, generators

  pub plain-Chain : {bs : List Binding} (c : Chosen) (cs : List Chosen) (ts : List TypedForm)
      → AllPlain k g p bs ts → Compared k A g p U (c ∷ cs) (types_of ts)
      → Plain k g p bs (a_typed.Chain boolean (operator_set k.facts an_op.And 2) (c ∷ cs) ts)
  plain-Chain {bs} c cs ts h w =
      let is : out-TypedForm (a_typed.Chain boolean (operator_set k.facts an_op.And 2) (c ∷ cs) ts)
      ≡ TypedForm-F.Chain boolean (operator_set k.facts an_op.And 2) (c ∷ cs) ts =
      search (rules, the_lemmas) in
      plain_of k g p _ is
      (good_chain k A g p U c cs (map (part g) ts) (good_parts k g p bs ts h)
      (subst (Compared k A g p U (c ∷ cs)) (sym (types_are k g p ts)) w)) tt

  pub plain-Fn : {bs inner : List Binding} (ps : List Parameter) (u : TypedForm)
      → rule.Binds k bs (map rule.parameter_binding ps) inner → Plain k g p inner u
      → Plain k g p bs
      (a_typed.Fn (a_type.Arrow (tuple_of (map parameter_type ps)) (type_of u)) ps u)
  plain-Fn {bs} {inner} ps u b h =
      let T = a_type.Arrow (tuple_of (map parameter_type ps)) (type_of u) in
      let is : out-TypedForm (a_typed.Fn T ps u) ≡ TypedForm-F.Fn T ps u =
      search (rules, the_lemmas) in
      let x = good_fn k p (type_of u) (translated g u) (tr k A g p U) b (parameters_fixed ps)
      h.maker in
      let y = subst (λ
      (xs : List (NameId × Ty)). Good k p bs (fn xs (type_of u) (translated g u))
      (a_type.Arrow (tuple_of (map (λ (z : NameId × Ty). z.1) xs)) (type_of u)))
      (parameters_are ps) x in
      let z = subst (λ
      (ts : List Ty). Good k p bs (fn (map parameter ps) (type_of u) (translated g u))
      (a_type.Arrow (tuple_of ts) (type_of u))) (parameter_types ps) y in
      plain_of k g p _ is
      (subst (λ X. Good k p bs (fn (map parameter ps) X (translated g u)) T)
      (sym (type_is k g p u)) z) tt

  pub plain-Block : {bs : List Binding} (ts : List TypedForm) (T : Ty)
      → Good k p bs (block (map (part g) ts)) T → Plain k g p bs (a_typed.Block T ts)
  plain-Block ts T h =
      let is : out-TypedForm (a_typed.Block T ts) ≡ TypedForm-F.Block T ts =
      search (rules, the_lemmas) in plain_of k g p _ is h tt

  pub plain-For : {bs : List Binding} (xs : List (NameId × Bool)) (us : List TypedForm)
      (v : TypedForm) → Good k p bs (loops xs (map (part g) us) (translated g v)) unit_type
      → Plain k g p bs (a_typed.For unit xs us v)
  plain-For xs us v h =
      let is : out-TypedForm (a_typed.For unit xs us v) ≡ TypedForm-F.For unit xs us v =
      search (rules, the_lemmas) in plain_of k g p _ is h tt

  pub plain-Reduce : {bs : List Binding} (r : Reduction) (place : Place) (name : NameId) (ty : Ty)
      (sequential : Bool) (s u : TypedForm) → bound bs name ≡ None → Plain k g p bs s
      → ItemsOf p (type_of s) ty
      → Plain k g p (bs ++ rule.binding place name ty ∷ []) u
      → rule.Suits k (rule.reduction_want r) (type_of u)
      → Plain k g p bs
      (a_typed.Reduce (type_of u) r (operator_set k.facts (rule.reduction_operator r) 2) name
      sequential s u)
  plain-Reduce r place name ty sequential s u f h i j w =
      let set = operator_set k.facts (rule.reduction_operator r) 2 in
      let is : out-TypedForm (a_typed.Reduce (type_of u) r set name sequential s u)
      ≡ TypedForm-F.Reduce (type_of u) r set name sequential s u = search (rules, the_lemmas) in
      plain_of k g p _ is
      (good_reduction k p place name ty sequential set (neutral g r (type_of u))
      (translated g s) (translated g u) f i (U.joins r (type_of u) w) (itself p (type_of u))
      (λ G. has_neutral k g p U G r (type_of u) w) h.maker j.maker) tt
