-- What has a type by the rules has a type of the component.
use Rattle.std.proofs.Common.{◌≡◌, ◌<◌, ℕ, suc, nat_eq, nat_le, Bool, true, false, not, cond, ◌&&◌, List, [], ◌∷◌, ◌++◌, length, map, Option, Some, None, rules, refl, arith, ap, ◌∙◌, sym, subst}
use Rattle.std.specs.List.{slice_get, AllByRecursion}
use Rattle.std.proofs.lemmas.Option.{slice_get_within}
use Rattle.fort_base.specs.declared.ids.NameId.{NameId}
use Rattle.fort_base.specs.declared.ids.SetId.{SetId}
use Rattle.fort_base.specs.declared.ids.TypeId.{TypeId}
use Rattle.fort_base.specs.declared.refusal.Place.{Place}
use Rattle.fort_base.specs.declared.ty.Ty.{Ty, out-Ty}
use Rattle.fort_base.specs.declared.ty.Ty.TheVariants as a_type
use Rattle.fort_base.specs.declared.ty.Ty.TheOpen.{Ty-F}
use Rattle.fort_types_sets.specs.declared.field.Field.{Field}
use Rattle.fort_types_sets.specs.Leaves.{is_leaf}
use Rattle.fort_juxt.specs.declared.elements.Grouping.{Grouping}
use Rattle.fort_scope.specs.declared.binding.Binding.{Binding}
use Rattle.fort_form.specs.declared.form.Form.{Form}
use Rattle.fort_form.specs.declared.form.Item.{Item}
use Rattle.fort_form.specs.declared.form.Branch.{Branch}
use Rattle.fort_form.specs.declared.form.Generator.{Generator}
use Rattle.fort_form.specs.declared.form.TypeBranch.{TypeBranch}
use Rattle.fort_form.specs.declared.form.Parameter.{Parameter}
use Rattle.fort_form.specs.declared.form.Reduction.{Reduction}
use Rattle.fort_form_typed.specs.declared.typed_form.Chosen.{Chosen}
use Rattle.fort_form_typed.specs.declared.typed_form.TypedForm.{TypedForm, out-TypedForm, the_lemmas as typed_lemmas}
use Rattle.fort_form_typed.specs.declared.typed_form.TypedForm.TheVariants as a_typed
use Rattle.fort_form_typed.specs.declared.typed_form.TypedForm.TheOpen.{TypedForm-F}
use Rattle.fort_typing_known.specs.Known.{Knows}
use Rattle.fort_typing_known.specs.Names.{Standing, a_binding, a_field, a_variable, a_single, functions, nothing, bound, field_in, field_among, field_of, field_at, variable, is_so, is_leaf_number, is_object, object_of, single, standing_single, standing_top, standing_field, standing_within, standing_bound, standing, type_number}
use Rattle.fort_typing_known.specs.Sets.{is_function, spelled}
use Rattle.fort_typing_rules.specs.declared.part.Part.{Part}
use Rattle.fort_typing_rules.specs.declared.part.Meaning.{Meaning}
use Rattle.fort_typing_rules.specs.declared.part.Meaning.TheVariants as a_meaning
use Rattle.fort_typing_rules.specs.Calls.{Calls, plain, widening}
use Rattle.fort_types_builtin.specs.declared.types.TheConstants.{RANGE}
use Rattle.fort_typing_rules.specs.Types.{IsWidest, type_at, type_of, types_of, is_nothing, zz32, zz64, number_type, given_at, given, tuple_of, parameter_type}
use Rattle.fort_typing_rules.specs.Elements as element
use Rattle.fort_typing_rules.specs.Typing as rule
use Rattle.fort_typing_law_rules.specs.Deciding.{IsType, AreTypes, IsAccepted}
use Rattle.fort_typing_law_rules.specs.Written.{IsWritten, AreBound}
use Rattle.fort_typing_law_rules.specs.Typed.{IsTyped, MeansTyped}
use Rattle.fort_typing_law_rules.proofs.Types.{all_left, all_right, all_join, all_first, all_rest, all_item, nothing_type, named_type, tuple_type, array_type, arrow_type, sides_type, element_type, parts_type, result_is, built_in_type, unit_type}
use Rattle.fort_typing_law_rules.proofs.Written.{AllWritten, BranchWritten, GeneratorWritten, ClauseWritten, MayBeWritten, ItemWritten, of-parts, of-item, values-of}

shift : (n m : ℕ) → n < m → suc n < suc m
shift n m l = omega arith

lengths : {A B : Type 0} (f : A → B) (xs : List A) → length (map f xs) ≡ length xs
lengths f [] = refl
lengths f (x ∷ xs) = ap suc (lengths f xs)

module _ (k : Knows) (A : IsAccepted k) where
  -- ---- what a name stands for

  abbrev StandsTyped : Standing → Type 0
  StandsTyped (a_binding b) = IsType k b.ty
  StandsTyped (a_field o f) = IsType k f.ty
  StandsTyped (a_variable n v) = IsType k v.ty
  StandsTyped (a_single o) = o.0 < length k.declared
  StandsTyped _ = Unit {0}

  abbrev FieldTyped : Option Field → Type 0
  FieldTyped (Some f) = IsType k f.ty
  FieldTyped None = Unit {0}

  abbrev BindingTyped : Option Binding → Type 0
  BindingTyped (Some b) = IsType k b.ty
  BindingTyped None = Unit {0}

  one-binding : (c : Bool) (b : Binding) (o : Option Binding) → IsType k b.ty → BindingTyped o
      → BindingTyped (cond c (Some b) o)
  one-binding true b o h i = h
  one-binding false b o h i = i

  bound-typed : (bs : List Binding) (name : NameId) → AreBound k bs → BindingTyped (bound bs name)
  bound-typed [] name h = tt
  bound-typed (b ∷ bs) name h =
      one-binding (nat_eq b.name.0 name.0) b (bound bs name) h.0 (bound-typed bs name h.1)

  one-field : (c : Bool) (f : Field) (o : Option Field) → IsType k f.ty → FieldTyped o
      → FieldTyped (cond c (Some f) o)
  one-field true f o h i = h
  one-field false f o h i = i

  field-typed : (fs : List Field) (name : NameId)
      → ((i : ℕ) (f : Field) → slice_get fs i ≡ Some f → IsType k f.ty)
      → FieldTyped (field_in fs name)
  field-typed [] name h = tt
  field-typed (f ∷ fs) name h =
      one-field (nat_eq f.name.0 name.0) f (field_in fs name) (h 0 f refl)
      (field-typed fs name (λ i g e. h (suc i) g e))

  among-typed : (t : TypeId) (name : NameId) (o : Option (List Field))
      → slice_get k.facts.members.fields t.0 ≡ o → FieldTyped (field_among o name)
  among-typed t name (Some fs) e = field-typed fs name (λ i f q. A.fields t.0 i fs f e q)
  among-typed t name None e = tt

  pub own-typed : (t : TypeId) (name : NameId) → FieldTyped (field_of k.facts t name)
  own-typed t name = among-typed t name (slice_get k.facts.members.fields t.0) refl

  pub read-typed : (x : Ty-F Ty) (name : NameId) → FieldTyped (field_at k.facts x name)
  read-typed (Ty-F.Named t) name = own-typed t name
  read-typed _ name = tt

  abbrev ObjectTyped : Option TypeId → Type 0
  ObjectTyped (Some o) = o.0 < length k.declared
  ObjectTyped None = Unit {0}

  so-within : (n : ℕ) (o : Option Bool) → slice_get k.facts.members.objects n ≡ o → is_so o ≡ true
      → n < length k.declared
  so-within n (Some b) e h =
      let l = slice_get_within k.facts.members.objects n b e
      in let m : length k.facts.members.objects ≡ length k.declared =
      ap length A.objects ∙ lengths is_leaf k.declared in omega arith
  so-within n None e h = absurd cc

  first-of : (a b : Bool) → a && b ≡ true → a ≡ true
  first-of true b h = refl
  first-of false b h = absurd cc

  object-at : (n : ℕ) (c : Bool) → is_object k.facts n ≡ c
      → ObjectTyped (cond c (Some (record { 0 = n })) None)
  object-at n true e =
      so-within n (slice_get k.facts.members.objects n) refl
      (first-of (is_so (slice_get k.facts.members.objects n)) (not (is_leaf_number n)) e)
  object-at n false e = tt

  object-typed : (n : ℕ) → ObjectTyped (object_of k.facts n)
  object-typed n = object-at n (is_object k.facts n) refl

  single-by : (c : Bool) (o : Option TypeId) → ObjectTyped o → ObjectTyped (cond c None o)
  single-by true o h = tt
  single-by false o h = h

  function-by : (c : Bool) → StandsTyped (cond c functions nothing)
  function-by true = tt
  function-by false = tt

  stands-single : (name : NameId) (o : Option TypeId) → ObjectTyped o
      → StandsTyped (standing_single k.facts name o)
  stands-single name (Some o) h = h
  stands-single name None h = function-by (is_function k.facts name)

  stands-top : (name : NameId) (o : Option Field) → FieldTyped o
      → StandsTyped (standing_top k.facts name o)
  stands-top name (Some v) h = h
  stands-top name None h =
      stands-single name (single k.facts name)
      (single-by (is_function k.facts name)
      (object_of k.facts (type_number k.facts.types (spelled k.facts name))) (object-typed _))

  variable-typed : (name : NameId) → FieldTyped (variable k.facts name)
  variable-typed name = field-typed k.facts.members.variables name (λ i v e. A.variables i v e)

  stands-field : (name : NameId) (t : TypeId) (o : Option Field) → FieldTyped o
      → StandsTyped (standing_field k.facts name t o)
  stands-field name t (Some f) h = h
  stands-field name t None h = stands-top name (variable k.facts name) (variable-typed name)

  stands-within : (name : NameId) (o : Option TypeId) → StandsTyped (standing_within k.facts name o)
  stands-within name (Some t) = stands-field name t (field_of k.facts t name) (own-typed t name)
  stands-within name None = stands-top name (variable k.facts name) (variable-typed name)

  stands-bound : (name : NameId) (o : Option Binding) → BindingTyped o
      → StandsTyped (standing_bound k.facts name o)
  stands-bound name (Some b) h = h
  stands-bound name None h = stands-within name k.facts.owner

  standing-typed : (bs : List Binding) (name : NameId) (s : Standing) → AreBound k bs
      → standing k.facts bs name ≡ s → StandsTyped s
  unfolding standing
  standing-typed bs name s h e =
      subst StandsTyped e (stands-bound name (bound bs name) (bound-typed bs name h))

  -- ---- typed forms

  abbrev Whole : TypedForm-F TypedForm → Type 0
  Whole (TypedForm-F.Tuple ty ts) = AreTypes k (types_of ts)
  Whole _ = Unit {0}

  abbrev pub Typed : TypedForm → Type 0
  Typed t = IsTyped k t

  parts-typed : (t : TypedForm) (x : TypedForm-F TypedForm) → IsType k (type_of t) → Whole x
      → AreTypes k (types_of (element.parts_at t x))
  parts-typed t (TypedForm-F.Tuple ty ts) h w = w
  parts-typed t _ h w = (h, tt)

  made : (t : TypedForm) {x : TypedForm-F TypedForm} → out-TypedForm t ≡ x → IsType k (type_at x)
      → Whole x → Typed t
  unfolding type_of
  made t {x = x} is h w =
      let g : IsType k (type_of t) = subst (λ y. IsType k (type_at y)) (sym is) h in
      (g, subst (λ y. AreTypes k (types_of (element.parts_at t y))) (sym is) (parts-typed t x g w))

  pub typed-Number : (ty : Ty) (n : ℕ) → IsType k ty → Typed (a_typed.Number ty n)
  typed-Number ty n h =
      let is : out-TypedForm (a_typed.Number ty n) ≡ TypedForm-F.Number ty n =
      search (rules, typed_lemmas) in made (a_typed.Number ty n) is h tt

  pub typed-Text : (ty : Ty) (n : ℕ) → IsType k ty → Typed (a_typed.Text ty n)
  typed-Text ty n h =
      let is : out-TypedForm (a_typed.Text ty n) ≡ TypedForm-F.Text ty n =
      search (rules, typed_lemmas) in made (a_typed.Text ty n) is h tt

  pub typed-Truth : (ty : Ty) (b : Bool) → IsType k ty → Typed (a_typed.Truth ty b)
  typed-Truth ty b h =
      let is : out-TypedForm (a_typed.Truth ty b) ≡ TypedForm-F.Truth ty b =
      search (rules, typed_lemmas) in made (a_typed.Truth ty b) is h tt

  typed-Local : (ty : Ty) (name : NameId) (mutable : Bool) → IsType k ty
      → Typed (a_typed.Local ty name mutable)
  typed-Local ty name mutable h =
      let is : out-TypedForm (a_typed.Local ty name mutable) ≡ TypedForm-F.Local ty name mutable =
      search (rules, typed_lemmas) in made (a_typed.Local ty name mutable) is h tt

  typed-Top : (ty : Ty) (n : ℕ) → IsType k ty → Typed (a_typed.Top ty n)
  typed-Top ty n h =
      let is : out-TypedForm (a_typed.Top ty n) ≡ TypedForm-F.Top ty n =
      search (rules, typed_lemmas) in made (a_typed.Top ty n) is h tt

  typed-Single : (ty : Ty) (o : TypeId) → IsType k ty → Typed (a_typed.Single ty o)
  typed-Single ty o h =
      let is : out-TypedForm (a_typed.Single ty o) ≡ TypedForm-F.Single ty o =
      search (rules, typed_lemmas) in made (a_typed.Single ty o) is h tt

  typed-Receiver : (ty : Ty) → IsType k ty → Typed (a_typed.Receiver ty)
  typed-Receiver ty h =
      let is : out-TypedForm (a_typed.Receiver ty) ≡ TypedForm-F.Receiver ty =
      search (rules, typed_lemmas) in made (a_typed.Receiver ty) is h tt

  typed-ReadField : (ty : Ty) (u : TypedForm) (name : NameId) → IsType k ty
      → Typed (a_typed.ReadField ty u name)
  typed-ReadField ty u name h =
      let is : out-TypedForm (a_typed.ReadField ty u name) ≡ TypedForm-F.ReadField ty u name =
      search (rules, typed_lemmas) in made (a_typed.ReadField ty u name) is h tt

  typed-ReadElement : (ty : Ty) (u i : TypedForm) → IsType k ty → Typed (a_typed.ReadElement ty u i)
  typed-ReadElement ty u i h =
      let is : out-TypedForm (a_typed.ReadElement ty u i) ≡ TypedForm-F.ReadElement ty u i =
      search (rules, typed_lemmas) in made (a_typed.ReadElement ty u i) is h tt

  typed-Size : (ty : Ty) (u : TypedForm) → IsType k ty → Typed (a_typed.Size ty u)
  typed-Size ty u h =
      let is : out-TypedForm (a_typed.Size ty u) ≡ TypedForm-F.Size ty u =
      search (rules, typed_lemmas) in made (a_typed.Size ty u) is h tt

  typed-Fill : (ty : Ty) (of : Ty) (u v : TypedForm) → IsType k ty → Typed (a_typed.Fill ty of u v)
  typed-Fill ty of u v h =
      let is : out-TypedForm (a_typed.Fill ty of u v) ≡ TypedForm-F.Fill ty of u v =
      search (rules, typed_lemmas) in made (a_typed.Fill ty of u v) is h tt

  typed-Call : (ty : Ty) (c : Chosen) (ts : List TypedForm) → IsType k ty
      → Typed (a_typed.Call ty c ts)
  typed-Call ty c ts h =
      let is : out-TypedForm (a_typed.Call ty c ts) ≡ TypedForm-F.Call ty c ts =
      search (rules, typed_lemmas) in made (a_typed.Call ty c ts) is h tt

  pub typed-Operation : (ty : Ty) (c : Chosen) (ts : List TypedForm) → IsType k ty
      → Typed (a_typed.Operation ty c ts)
  typed-Operation ty c ts h =
      let is : out-TypedForm (a_typed.Operation ty c ts) ≡ TypedForm-F.Operation ty c ts =
      search (rules, typed_lemmas) in made (a_typed.Operation ty c ts) is h tt

  typed-Chain : (ty : Ty) (set : SetId) (cs : List Chosen) (ts : List TypedForm) → IsType k ty
      → Typed (a_typed.Chain ty set cs ts)
  typed-Chain ty set cs ts h =
      let is : out-TypedForm (a_typed.Chain ty set cs ts) ≡ TypedForm-F.Chain ty set cs ts =
      search (rules, typed_lemmas) in made (a_typed.Chain ty set cs ts) is h tt

  typed-Apply : (ty : Ty) (g u : TypedForm) → IsType k ty → Typed (a_typed.Apply ty g u)
  typed-Apply ty g u h =
      let is : out-TypedForm (a_typed.Apply ty g u) ≡ TypedForm-F.Apply ty g u =
      search (rules, typed_lemmas) in made (a_typed.Apply ty g u) is h tt

  typed-Fn : (ty : Ty) (ps : List Parameter) (u : TypedForm) → IsType k ty
      → Typed (a_typed.Fn ty ps u)
  typed-Fn ty ps u h =
      let is : out-TypedForm (a_typed.Fn ty ps u) ≡ TypedForm-F.Fn ty ps u =
      search (rules, typed_lemmas) in made (a_typed.Fn ty ps u) is h tt

  typed-Block : (ty : Ty) (ts : List TypedForm) → IsType k ty → Typed (a_typed.Block ty ts)
  typed-Block ty ts h =
      let is : out-TypedForm (a_typed.Block ty ts) ≡ TypedForm-F.Block ty ts =
      search (rules, typed_lemmas) in made (a_typed.Block ty ts) is h tt

  typed-Also : (ty : Ty) (ts : List TypedForm) → IsType k ty → Typed (a_typed.Also ty ts)
  typed-Also ty ts h =
      let is : out-TypedForm (a_typed.Also ty ts) ≡ TypedForm-F.Also ty ts =
      search (rules, typed_lemmas) in made (a_typed.Also ty ts) is h tt

  typed-If : (ty : Ty) (ts us : List TypedForm) (w : Option TypedForm) → IsType k ty
      → Typed (a_typed.If ty ts us w)
  typed-If ty ts us w h =
      let is : out-TypedForm (a_typed.If ty ts us w) ≡ TypedForm-F.If ty ts us w =
      search (rules, typed_lemmas) in made (a_typed.If ty ts us w) is h tt

  typed-While : (ty : Ty) (u v : TypedForm) → IsType k ty → Typed (a_typed.While ty u v)
  typed-While ty u v h =
      let is : out-TypedForm (a_typed.While ty u v) ≡ TypedForm-F.While ty u v =
      search (rules, typed_lemmas) in made (a_typed.While ty u v) is h tt

  typed-For : (ty : Ty) (names : List (NameId × Bool)) (us : List TypedForm) (v : TypedForm)
      → IsType k ty → Typed (a_typed.For ty names us v)
  typed-For ty names us v h =
      let is : out-TypedForm (a_typed.For ty names us v) ≡ TypedForm-F.For ty names us v =
      search (rules, typed_lemmas) in made (a_typed.For ty names us v) is h tt

  typed-Case : (ty : Ty) (u : TypedForm) (cs : List Chosen) (ts us : List TypedForm)
      (w : Option TypedForm) → IsType k ty → Typed (a_typed.Case ty u cs ts us w)
  typed-Case ty u cs ts us w h =
      let is : out-TypedForm (a_typed.Case ty u cs ts us w) ≡ TypedForm-F.Case ty u cs ts us w =
      search (rules, typed_lemmas) in made (a_typed.Case ty u cs ts us w) is h tt

  typed-Typecase : (ty : Ty) (name : NameId) (u : TypedForm) (types : List Ty) (us : List TypedForm)
      (w : Option TypedForm) → IsType k ty → Typed (a_typed.Typecase ty name u types us w)
  typed-Typecase ty name u types us w h =
      let is : out-TypedForm (a_typed.Typecase ty name u types us w)
      ≡ TypedForm-F.Typecase ty name u types us w = search (rules, typed_lemmas)
      in made (a_typed.Typecase ty name u types us w) is h tt

  typed-Try : (ty : Ty) (u : TypedForm) (name : Option NameId) (types : List Ty)
      (us : List TypedForm) (w : Option TypedForm) → IsType k ty
      → Typed (a_typed.Try ty u name types us w)
  typed-Try ty u name types us w h =
      let is : out-TypedForm (a_typed.Try ty u name types us w)
      ≡ TypedForm-F.Try ty u name types us w = search (rules, typed_lemmas)
      in made (a_typed.Try ty u name types us w) is h tt

  typed-Atomic : (ty : Ty) (u : TypedForm) → IsType k ty → Typed (a_typed.Atomic ty u)
  typed-Atomic ty u h =
      let is : out-TypedForm (a_typed.Atomic ty u) ≡ TypedForm-F.Atomic ty u =
      search (rules, typed_lemmas) in made (a_typed.Atomic ty u) is h tt

  typed-Tryatomic : (ty : Ty) (u : TypedForm) → IsType k ty → Typed (a_typed.Tryatomic ty u)
  typed-Tryatomic ty u h =
      let is : out-TypedForm (a_typed.Tryatomic ty u) ≡ TypedForm-F.Tryatomic ty u =
      search (rules, typed_lemmas) in made (a_typed.Tryatomic ty u) is h tt

  typed-Throw : (ty : Ty) (u : TypedForm) → IsType k ty → Typed (a_typed.Throw ty u)
  typed-Throw ty u h =
      let is : out-TypedForm (a_typed.Throw ty u) ≡ TypedForm-F.Throw ty u =
      search (rules, typed_lemmas) in made (a_typed.Throw ty u) is h tt

  typed-Reduce : (ty : Ty) (r : Reduction) (set : SetId) (name : NameId) (sequential : Bool)
      (s u : TypedForm) → IsType k ty → Typed (a_typed.Reduce ty r set name sequential s u)
  typed-Reduce ty r set name sequential s u h =
      let is : out-TypedForm (a_typed.Reduce ty r set name sequential s u)
      ≡ TypedForm-F.Reduce ty r set name sequential s u = search (rules, typed_lemmas)
      in made (a_typed.Reduce ty r set name sequential s u) is h tt

  typed-Assign : (ty : Ty) (u v : TypedForm) → IsType k ty → Typed (a_typed.Assign ty u v)
  typed-Assign ty u v h =
      let is : out-TypedForm (a_typed.Assign ty u v) ≡ TypedForm-F.Assign ty u v =
      search (rules, typed_lemmas) in made (a_typed.Assign ty u v) is h tt

  typed-Update : (ty : Ty) (u : TypedForm) (c : Chosen) (v : TypedForm) → IsType k ty
      → Typed (a_typed.Update ty u c v)
  typed-Update ty u c v h =
      let is : out-TypedForm (a_typed.Update ty u c v) ≡ TypedForm-F.Update ty u c v =
      search (rules, typed_lemmas) in made (a_typed.Update ty u c v) is h tt

  pub typed-Tuple : (ts : List TypedForm) → AreTypes k (types_of ts)
      → Typed (a_typed.Tuple (a_type.Tuple (types_of ts)) ts)
  typed-Tuple ts h =
      let is : out-TypedForm (a_typed.Tuple (a_type.Tuple (types_of ts)) ts)
      ≡ TypedForm-F.Tuple (a_type.Tuple (types_of ts)) ts = search (rules, typed_lemmas) in
      made (a_typed.Tuple (a_type.Tuple (types_of ts)) ts) is
      (tuple_type (length k.declared) (types_of ts) h) h

  pub all-types : (ts : List TypedForm) → AllByRecursion Typed ts → AreTypes k (types_of ts)
  all-types [] h = tt
  all-types (t ∷ ts) h = (h.0.0, all-types ts h.1)

  -- ---- calls

  pub call-type : (set : SetId) (types : List Ty) (result : Ty) (widened : List Bool)
      → Calls k set types result widened → IsType k result
  call-type set types result widened (plain s i d e m stands re we) =
      subst (IsType k) (sym re) (result_is k A set.0 s i d e stands)
  call-type set types result widened (widening s i j p d wide e m l stands w b there re we) =
      subst (IsType k) (sym re) (result_is k A set.0 s j d e there)

  -- ---- elements

  abbrev pub MeaningTyped : Meaning → Type 0
  MeaningTyped m = MeansTyped k m

  abbrev pub PartTyped : Part → Type 0
  PartTyped p = MeaningTyped p.meaning

  abbrev pub MadeTyped : element.Made → Type 0
  MadeTyped (element.gives t) = Typed t
  MadeTyped (element.breaks r at) = Unit {0}

  -- the arguments of a function set
  arguments-by : (c : Bool) (u : TypedForm) → Typed u
      → AreTypes k (types_of (cond c (element.parts_at u (out-TypedForm u)) (u ∷ [])))
  arguments-by true u h = h.1
  arguments-by false u h = (h.0, tt)

  pub arguments-typed : (a : Part) (u : TypedForm) → Typed u
      → AreTypes k (types_of (element.arguments a u))
  arguments-typed a u h = arguments-by a.listed u h

  pub value-typed : (p : Part) (u : TypedForm) → PartTyped p → p.meaning ≡ a_meaning.Value u
      → Typed u
  value-typed p u h e = subst MeaningTyped e h

  pub applies-typed : (f a : Part) (m : element.Made) → PartTyped f → PartTyped a
      → element.Applies k (Calls k) f a m → MadeTyped m
  applies-typed f a m F G (element.call name u result widened fm am c me) =
      subst MadeTyped (sym me) (typed-Call result _ _ (call-type _ _ result widened c))
  applies-typed f a m F G (element.no_call name u r fm am c me) = subst MadeTyped (sym me) tt
  applies-typed f a m F G (element.value g u domain result fm arrow am b me) =
      subst MadeTyped (sym me)
      (typed-Apply result g u
      (sides_type (length k.declared) (type_of g) domain result (value-typed f g F fm).0
      arrow).1)
  applies-typed f a m F G (element.no_argument g u domain result fm arrow am b me) =
      subst MadeTyped (sym me) tt

  pub joins-typed : (a b : Part) (m : element.Made) → element.Joins k (Calls k) a b m → MadeTyped m
  joins-typed a b m (element.joining u v result widened am bm c me) =
      subst MadeTyped (sym me) (typed-Operation result _ _ (call-type _ _ result widened c))
  joins-typed a b m (element.no_joining u v r am bm c me) = subst MadeTyped (sym me) tt

  pub follows-typed : (a p : Part) (m : element.Made) → PartTyped a
      → element.Follows k (Calls k) a p m → MadeTyped m
  follows-typed a p m F (element.index u i e am pm shape me) =
      subst MadeTyped (sym me)
      (typed-ReadElement e u i
      (element_type (length k.declared) (type_of u) e (value-typed a u F am).0 shape))
  follows-typed a p m F (element.no_array u i am pm shape me) = subst MadeTyped (sym me) tt
  follows-typed a p m F (element.power u e result widened am pm c me) =
      subst MadeTyped (sym me) (typed-Operation result _ _ (call-type _ _ result widened c))
  follows-typed a p m F (element.no_power u e r am pm c me) = subst MadeTyped (sym me) tt
  follows-typed a p m F (element.field u at name f am pm has me) =
      subst MadeTyped (sym me)
      (typed-ReadField f.ty u name (subst FieldTyped has (read-typed (out-Ty (type_of u)) name)))
  follows-typed a p m F (element.no_field u at name am pm has me) = subst MadeTyped (sym me) tt
  follows-typed a p m F (element.size u at name ts am pm is me) =
      subst MadeTyped (sym me) (typed-Size zz32 u (built_in_type k A 2 (omega arith)))
  follows-typed a p m F (element.method u at name ts result widened am pm is has c me) =
      subst MadeTyped (sym me) (typed-Call result _ _ (call-type _ _ result widened c))
  follows-typed a p m F (element.no_method u at name ts am pm is has me) =
      subst MadeTyped (sym me) tt
  follows-typed a p m F (element.no_method_call u at name ts r am pm is has c me) =
      subst MadeTyped (sym me) tt

  abbrev pub PartsTyped : List Part → Type 0
  PartsTyped ps = AllByRecursion PartTyped ps

  barred-typed : (c : Bool) (t : TypedForm) → Typed t
      → MeaningTyped (cond c a_meaning.Unknown (a_meaning.Value t))
  barred-typed true t h = tt
  barred-typed false t h = h

  whole-typed : (c : Bool) (m : element.Made) → MadeTyped m → MeaningTyped (element.meaning_of c m)
  whole-typed true (element.gives t) h = h
  whole-typed false (element.gives t) h = barred-typed (is_nothing (type_of t)) t h
  whole-typed c (element.breaks r at) h = tt

  -- what comes of two elements, and the elements round it
  pub rewritten-typed : (ps before after : List Part) (place : Place) (m : element.Made)
      → element.Rewritten k (Calls k) ps before place m after → PartsTyped ps
      → MadeTyped m × PartsTyped (element.rewritten before place m after)
  rewritten-typed ps before after place m (element.applied f a next is at h) P =
      let Q = subst PartsTyped is P in let r = all_right PartTyped before (f ∷ a ∷ after) Q
      in let r0 = all_first PartTyped f (a ∷ after) r
      in let r1 = all_rest PartTyped f (a ∷ after) r in
      let M = applies-typed f a m r0 (all_first PartTyped a after r1) h in (
        M,
        all_join PartTyped before _ (all_left PartTyped before (f ∷ a ∷ after) Q)
            (whole-typed (element.is_whole before after) m M, all_rest PartTyped a after r1),
      )
  rewritten-typed ps before after place m (element.followed a p next is at h) P =
      let Q = subst PartsTyped is P in let r = all_right PartTyped before (a ∷ p ∷ after) Q
      in let r0 = all_first PartTyped a (p ∷ after) r
      in let r1 = all_rest PartTyped a (p ∷ after) r in
      let M = follows-typed a p m r0 h in (
        M,
        all_join PartTyped before _ (all_left PartTyped before (a ∷ p ∷ after) Q)
            (whole-typed (element.is_whole before after) m M, all_rest PartTyped p after r1),
      )
  rewritten-typed ps before after place m (element.joined a b next none is at h) P =
      let Q = subst PartsTyped is P in
      let M = joins-typed a b m h in (
        M,
        subst (λ
            (bs : List Part). PartsTyped (element.rewritten bs place m after)) (sym none) (
              whole-typed (element.is_whole [] after) m M,
              all_rest PartTyped b after (all_rest PartTyped a (b ∷ after) Q),
            ),
      )

  pub becomes-typed : {ps : List Part} {t : TypedForm} → element.Becomes k (Calls k) ps t
      → PartsTyped ps → Typed t
  becomes-typed (element.whole p is m) P = value-typed p _ (subst PartsTyped is P).0 m
  becomes-typed {ps = ps} (element.on before after place u step free rest) P =
      becomes-typed rest (rewritten-typed ps before after place (element.gives u) step P).1

  as-part-typed : (m : Meaning) → MeaningTyped m → MeaningTyped (element.barred_by m)
  as-part-typed (a_meaning.Value t) h = barred-typed (is_nothing (type_of t)) t h
  as-part-typed a_meaning.Unknown h = h
  as-part-typed (a_meaning.Functions name) h = h
  as-part-typed (a_meaning.Index t) h = h
  as-part-typed (a_meaning.Exponent t) h = h
  as-part-typed (a_meaning.Field at name) h = h
  as-part-typed (a_meaning.Method at name ts) h = h

  pub part-typed : (p : Part) → PartTyped p → PartTyped (element.as_part p)
  part-typed p h = as-part-typed p.meaning h

  pub grouped-typed : (ps : List Part) {g : Grouping} {q : Part}
      → element.Grouped k (Calls k) ps g q → PartsTyped ps → PartTyped q
  grouped-typed ps {q = q} (element.of_one i is at) P = all_item PartTyped ps i q P at
  grouped-typed ps (element.of_applied a b p r m is ga gb h qe) P =
      subst PartTyped (sym qe)
      (whole-typed true m (applies-typed (element.as_part p) (element.as_part r) m
      (part-typed p (grouped-typed ps ga P)) (part-typed r (grouped-typed ps gb P)) h))
  grouped-typed ps (element.of_joined a b p r m is ga gb h qe) P =
      subst PartTyped (sym qe)
      (whole-typed true m (joins-typed (element.as_part p) (element.as_part r) m h))
  grouped-typed ps (element.of_unapplied a b p r is ga gb u qe) P = subst PartTyped (sym qe) tt
  grouped-typed ps (element.of_unjoined a b p r is ga gb u qe) P = subst PartTyped (sym qe) tt

  pub stands-typed : (ps : List Part) (t : TypedForm) → element.Stands k (Calls k) ps t
      → PartsTyped ps → Typed t
  stands-typed ps t (element.grouped g q gr h m) P = value-typed q t (grouped-typed ps h P) m

  -- ---- bindings

  pub one-bound : (bs : List Binding) (b : Binding) → AreBound k bs → IsType k b.ty
      → AreBound k (bs ++ b ∷ [])
  one-bound bs b B h = all_join (λ (x : Binding). IsType k x.ty) bs (b ∷ []) B (h, tt)

  pub binds-bound : {bs new all : List Binding} → rule.Binds k bs new all → AreBound k bs
      → AreBound k new → AreBound k all
  binds-bound (rule.none e1 e2) B N = subst (AreBound k) (sym e2) B
  binds-bound {bs = bs} (rule.next b more e fresh rest) B N =
      let M = subst (AreBound k) e N in binds-bound rest (one-bound bs b B M.0) M.1

  pub clause-bound : (bs : List Binding) (name : Option (Place × NameId)) (ty : Ty) → AreBound k bs
      → IsType k ty → AreBound k (rule.with_clause bs name ty)
  clause-bound bs None ty B h = B
  clause-bound bs (Some (p, name)) ty B h = one-bound bs _ B h

  pub parameters-bound : (ps : List Parameter)
      → AllByRecursion (λ (q : Parameter). IsType k q.ty) ps
      → AreBound k (map rule.parameter_binding ps)
  parameters-bound [] h = tt
  parameters-bound (p ∷ ps) h = (h.0, parameters-bound ps h.1)

  parameters-types : (ps : List Parameter) → AllByRecursion (λ (q : Parameter). IsType k q.ty) ps
      → AreTypes k (map parameter_type ps)
  parameters-types [] h = tt
  parameters-types (p ∷ ps) h = (h.0, parameters-types ps h.1)

  tuple-of-type : (ts : List Ty) → AreTypes k ts → IsType k (tuple_of ts)
  tuple-of-type [] h = tuple_type (length k.declared) [] tt
  tuple-of-type (t ∷ []) h = h.0
  tuple-of-type (t ∷ u ∷ ts) h = tuple_type (length k.declared) (t ∷ u ∷ ts) h

  abbrev NewBound : Option (List Binding) → Type 0
  NewBound (Some new) = AreBound k new
  NewBound None = Unit {0}

  more-bound : (p : Place) (name : NameId) (t : Ty) (o : Option (List Binding)) → IsType k t
      → NewBound o
      → NewBound (elim o [ Some bs ↦ Some (rule.binding p name t ∷ bs) | None ↦ None ])
  more-bound p name t (Some bs) h i = (h, i)
  more-bound p name t None h i = tt

  types-bound : (names : List (Place × NameId)) (ts : List Ty) → AreTypes k ts
      → NewBound (rule.with_types names ts)
  types-bound [] [] h = tt
  types-bound [] (t ∷ ts) h = tt
  types-bound ((p, name) ∷ names) [] h = tt
  types-bound ((p, name) ∷ names) (t ∷ ts) h =
      more-bound p name t (rule.with_types names ts) h.0 (types-bound names ts h.1)

  named-by : (names : List (Place × NameId)) (want : Ty) (x : Ty-F Ty) → out-Ty want ≡ x
      → IsType k want → NewBound (rule.named_parts_at names x)
  named-by names want (Ty-F.Tuple ts) e h =
      types-bound names ts (parts_type (length k.declared) want ts h e)
  named-by names want _ e h = tt

  pub named-bound : (names : List (Place × NameId)) (want : Ty) (new : List Binding) → IsType k want
      → rule.named_parts names want ≡ Some new → AreBound k new
  named-bound names want new h e = subst NewBound e (named-by names want (out-Ty want) refl h)

  abbrev GivenTyped : Option Ty → Type 0
  GivenTyped (Some t) = IsType k t
  GivenTyped None = Unit {0}

  range-typed : (c : Bool) → GivenTyped (cond c (Some zz32) None)
  range-typed true = built_in_type k A 2 (omega arith)
  range-typed false = tt

  given-by : (t : Ty) (x : Ty-F Ty) → out-Ty t ≡ x → IsType k t → GivenTyped (given_at x)
  given-by t (Ty-F.Named i) e h = range-typed (nat_le i.0 RANGE.0 && nat_le RANGE.0 i.0)
  given-by t (Ty-F.Array a) e h = element_type (length k.declared) t a h e
  given-by t _ e h = tt

  pub given-typed : (t ty : Ty) → IsType k t → given t ≡ Some ty → IsType k ty
  given-typed t ty h e = subst GivenTyped e (given-by t (out-Ty t) refl h)

  pub number-type : (n : ℕ) → IsType k (number_type n)
  number-type n = by (nat_le n 2147483647)
    where
      by : (c : Bool) → IsType k (cond c zz32 zz64)
      by true = built_in_type k A 2 (omega arith)
      by false = built_in_type k A 3 (omega arith)

  pub widest-type : (types : List Ty) (ty : Ty) → IsWidest k types ty → AreTypes k types
      → IsType k ty
  widest-type types ty w h = all_item (IsType k) types w.at ty h w.is

  -- ---- forms

  mutual
    pub typed-of : {bs : List Binding} {e : Form} {t : TypedForm} → rule.Has k (Calls k) bs e t
        → AreBound k bs → IsWritten k e → Typed t
    typed-of (rule.number p n is te) B W =
        subst Typed (sym te) (typed-Number (number_type n) n (number-type n))
    typed-of (rule.words p n is te) B W =
        subst Typed (sym te) (typed-Text _ n (built_in_type k A 4 (omega arith)))
    typed-of (rule.truth p b is te) B W =
        subst Typed (sym te) (typed-Truth _ b (built_in_type k A 5 (omega arith)))
    typed-of (rule.receiver p o is ow te) B W =
        subst Typed (sym te)
        (typed-Receiver (a_type.Named o) (named_type (length k.declared) o (A.enclosed o ow)))
    typed-of {bs = bs} (rule.local p name b is s te) B W =
        subst Typed (sym te)
        (typed-Local b.ty name b.mutable (standing-typed bs name (a_binding b) B s))
    typed-of {bs = bs} (rule.own p name o f is s te) B W =
        subst Typed (sym te)
        (typed-ReadField f.ty _ name (standing-typed bs name (a_field o f) B s))
    typed-of {bs = bs} (rule.top p name n v is s te) B W =
        subst Typed (sym te) (typed-Top v.ty n (standing-typed bs name (a_variable n v) B s))
    typed-of {bs = bs} (rule.single p name o is s te) B W =
        subst Typed (sym te)
        (typed-Single (a_type.Named o) o
        (named_type (length k.declared) o (standing-typed bs name (a_single o) B s)))
    typed-of {e = e} (rule.parens p d is h) B W = typed-as h B (of-parts k e is W)
    typed-of {e = e} (rule.tuple p es ts is h te) B W =
        subst Typed (sym te) (typed-Tuple ts (all-types ts (typed-each h B (of-parts k e is W))))
    typed-of (rule.operator p op es ts result widened is h c te) B W =
        subst Typed (sym te) (typed-Operation result _ ts (call-type _ _ result widened c))
    typed-of (rule.chain p ops es ts cs is h c te) B W =
        subst Typed (sym te) (typed-Chain _ _ cs ts (built_in_type k A 5 (omega arith)))
    typed-of {e = e} {t = t} (rule.beside p es ps is h s) B W =
        stands-typed ps t s (typed-parts h B (of-parts k e is W))
    typed-of {e = e} (rule.run p es ps is h s) B W =
        becomes-typed s (typed-parts h B (of-parts k e is W))
    typed-of {e = e} (rule.fill p ty n v u w is h i te) B W =
        let F = of-parts k e is W
        in subst Typed (sym te)
        (typed-Fill (a_type.Array ty) ty u w (array_type (length k.declared) ty F.0))
    typed-of {e = e} (rule.block p is_ ts ty is h te) B W =
        subst Typed (sym te) (typed-Block ty ts (typed-items h B (of-parts k e is W)))
    typed-of {e = e} (rule.do_one p b is h) B W =
        typed-as h B (all_first (IsWritten k) b [] (of-parts k e is W))
    typed-of (rule.do_also p a b others ts is h te) B W =
        subst Typed (sym te) (typed-Also _ ts (unit_type k A))
    typed-of (rule.if_alone p branches tests values is h i te) B W =
        subst Typed (sym te) (typed-If _ tests values None (unit_type k A))
    typed-of {e = e} (rule.if_else p branches d tests values u ty is h i j w te) B W =
        let F = of-parts k e is W in
        let V = all-types values (typed-each i B (values-of k branches F.0)) in
        subst Typed (sym te)
        (typed-If ty tests values (Some u)
        (widest-type _ ty w
        (all_join (IsType k) (types_of values) (type_of u ∷ []) V (
          (typed-as j B F.1).0,
          tt,
        ))))
    typed-of (rule.while_do p c b u v is h i te) B W =
        subst Typed (sym te) (typed-While _ u v (unit_type k A))
    typed-of (rule.for_do p gs b inner us v is h i te) B W =
        subst Typed (sym te) (typed-For _ _ us v (unit_type k A))
    typed-of {e = e} (rule.case p s branches other u cs tests values w ty is h c o wide te) B W =
        let F = of-parts k e is W in
        subst Typed (sym te)
        (typed-Case ty u cs tests values w
        (widest-type _ ty wide
        (all_join (IsType k) (types_of values) (rule.else_types w)
        (all-types values (typed-clauses c B F.1)) (typed-else o B F.2))))
    typed-of {bs = bs} {e =
        e} (rule.typecase p at name s branches other u values w ty is fresh h c o wide te) B W =
        let F = of-parts k e is W in
        let S = typed-as h B F.0 in
        subst Typed (sym te)
        (typed-Typecase ty name u _ values w
        (widest-type _ ty wide (all_join (IsType k) (types_of values) (rule.else_types w)
        (all-types values (typed-cases c B F.1))
        (typed-else o (clause-bound bs (Some (at, name)) (type_of u) B S.0) F.2))))
    typed-of {e =
        e} (rule.try_catch p b name branches last u values w ty is h fresh x c o wide te) B W =
        let F = of-parts k e is W in
        subst Typed (sym te)
        (typed-Try ty u _ _ values w
        (widest-type _ ty wide (
          (typed-as h B F.0).0,
          all-types values (typed-cases c B F.1),
        )))
    typed-of {e = e} (rule.atomic p d u is h te) B W =
        subst Typed (sym te) (typed-Atomic (type_of u) u (typed-as h B (of-parts k e is W)).0)
    typed-of {e = e} (rule.tryatomic p d u is h te) B W =
        subst Typed (sym te) (typed-Tryatomic (type_of u) u (typed-as h B (of-parts k e is W)).0)
    typed-of (rule.throw p d u is h te) B W =
        subst Typed (sym te) (typed-Throw _ u (nothing_type (length k.declared)))
    typed-of {e = e} (rule.function p ps d inner u is b h te) B W =
        let F = of-parts k e is W in
        let I = binds-bound b B (parameters-bound ps F.0) in
        subst Typed (sym te)
        (typed-Fn _ ps u
        (arrow_type (length k.declared) (tuple_of (map parameter_type ps)) (type_of u)
        (tuple-of-type (map parameter_type ps) (parameters-types ps F.0))
        (typed-as h I F.1).0))
    typed-of {e = e} (rule.reduce p r g d inner s u is h i te) B W =
        let F = of-parts k e is W in
        subst Typed (sym te)
        (typed-Reduce (type_of u) r _ _ _ s u (typed-as i (sources-bound h B (F.0, tt)) F.1).0)
    typed-of (rule.assign p d v sign u w is none h target i te) B W =
        subst Typed (sym te) (typed-Assign _ u w (unit_type k A))
    typed-of (rule.update p d v sign op u w result widened is some h target i c b te) B W =
        subst Typed (sym te) (typed-Update _ u _ w (unit_type k A))

    pub typed-as : {bs : List Binding} {want : rule.Want} {e : Form} {t : TypedForm}
        → rule.HasAs k (Calls k) bs want e t → AreBound k bs → IsWritten k e → Typed t
    typed-as (rule.suits h s) B W = typed-of h B W

    pub typed-each : {bs : List Binding} {want : rule.Want} {es : List Form} {ts : List TypedForm}
        → rule.HasEach k (Calls k) bs want es ts → AreBound k bs → AllWritten k es
        → AllByRecursion Typed ts
    typed-each (rule.no_part e1 e2) B W = subst (AllByRecursion Typed) (sym e2) tt
    typed-each (rule.part_ d ds u us e1 e2 h rest) B W =
        let F = subst (AllWritten k) e1 W
        in subst (AllByRecursion Typed) (sym e2) (typed-as h B F.0, typed-each rest B F.1)

    pub typed-items : {bs : List Binding} {is : List Item} {ts : List TypedForm} {ty : Ty}
        → rule.HasItems k (Calls k) bs is ts ty → AreBound k bs → AllByRecursion (ItemWritten k) is
        → IsType k ty
    typed-items (rule.no_item e1 e2 e3) B W = subst (IsType k) (sym e3) (unit_type k A)
    typed-items (rule.last_item i d u e1 e2 h e3 e4) B W =
        let F = subst (AllByRecursion (ItemWritten k)) e1 W
        in subst (IsType k) (sym e4) (typed-as h B (of-item k i e2 F.0)).0
    typed-items (rule.expression i j more d u us e1 e2 h rest e3) B W =
        let F = subst (AllByRecursion (ItemWritten k)) e1 W
        in typed-items rest B (all_rest (ItemWritten k) i (j ∷ more) F)
    typed-items {bs =
        bs} (rule.declared i more p name mutable want d u us e1 e2 fresh h rest e3) B W =
        let F = subst (AllByRecursion (ItemWritten k)) e1 W in
        typed-items rest (one-bound bs _ B (of-item k i e2 F.0).0) F.1
    typed-items (rule.declared_all i more p names want d new inner u us e1 e2 parts b h rest e3) B
        W =
        let F = subst (AllByRecursion (ItemWritten k)) e1 W in
        typed-items rest (binds-bound b B (named-bound names want new (of-item k i e2 F.0).0 parts))
        F.1

    pub sources-bound : {bs inner : List Binding} {gs : List Generator} {us : List TypedForm}
        → rule.HasSources k (Calls k) bs gs inner us → AreBound k bs
        → AllByRecursion (GeneratorWritten k) gs → AreBound k inner
    sources-bound (rule.no_source e1 e2 e3) B W = subst (AreBound k) (sym e2) B
    sources-bound {bs = bs} (rule.source g more u vs ty e1 e2 fresh h gv rest) B W =
        let F = subst (AllByRecursion (GeneratorWritten k)) e1 W in
        sources-bound rest (one-bound bs _ B (given-typed (type_of u) ty (typed-as h B F.0).0 gv))
        F.1

    pub typed-clauses : {bs : List Binding} {s : TypedForm} {branches : List Branch}
        {cs : List Chosen} {tests values : List TypedForm}
        → rule.HasClauses k (Calls k) bs s branches cs tests values → AreBound k bs
        → AllByRecursion (BranchWritten k) branches → AllByRecursion Typed values
    typed-clauses (rule.no_clause e1 e2 e3 e4) B W = subst (AllByRecursion Typed) (sym e4) tt
    typed-clauses (rule.clause b more u v result widened ds us vs e1 h c bl i rest e2 e3 e4) B W =
        let F = subst (AllByRecursion (BranchWritten k)) e1 W
        in subst (AllByRecursion Typed) (sym e4) (typed-as i B F.0.1, typed-clauses rest B F.1)

    pub typed-cases : {bs : List Binding} {name : Option (Place × NameId)}
        {branches : List TypeBranch} {values : List TypedForm}
        → rule.HasCases k (Calls k) bs name branches values → AreBound k bs
        → AllByRecursion (ClauseWritten k) branches → AllByRecursion Typed values
    typed-cases (rule.no_case e1 e2) B W = subst (AllByRecursion Typed) (sym e2) tt
    typed-cases {bs = bs} {name = name} (rule.case_ b more v vs e1 e2 h rest) B W =
        let F = subst (AllByRecursion (ClauseWritten k)) e1 W in
        subst (AllByRecursion Typed) (sym e2) (
          typed-as h (clause-bound bs name (rule.clause_type b) B F.0.0) F.0.1,
          typed-cases rest B F.1,
        )

    pub typed-else : {bs : List Binding} {other : Option Form} {w : Option TypedForm}
        → rule.HasElse k (Calls k) bs other w → AreBound k bs → MayBeWritten k other
        → AreTypes k (rule.else_types w)
    typed-else (rule.no_else e1 e2) B W =
        subst (λ (x : Option TypedForm). AreTypes k (rule.else_types x)) (sym e2) tt
    typed-else (rule.else_ d u e1 h e2) B W =
        subst (λ (x : Option TypedForm). AreTypes k (rule.else_types x)) (sym e2)
        ((typed-as h B (subst (MayBeWritten k) e1 W)).0, tt)

    pub typed-parts : {bs : List Binding} {es : List Form} {ps : List Part}
        → rule.HasParts k (Calls k) bs es ps → AreBound k bs → AllWritten k es → PartsTyped ps
    typed-parts (rule.no_element e1 e2) B W = subst PartsTyped (sym e2) tt
    typed-parts (rule.element_ d ds m qs e1 e2 h rest) B W =
        let F = subst (AllWritten k) e1 W
        in subst PartsTyped (sym e2) (typed-means h B F.0, typed-parts rest B F.1)

    pub typed-means : {bs : List Binding} {e : Form} {m : Meaning} → rule.Means k (Calls k) bs e m
        → AreBound k bs → IsWritten k e → MeaningTyped m
    typed-means (rule.a_named name n me) B W = subst MeaningTyped (sym me) tt
    typed-means (rule.a_valued t h me) B W = subst MeaningTyped (sym me) (typed-as h B W)
    typed-means {e = e} (rule.an_index p i t is h me) B W =
        subst MeaningTyped (sym me) (typed-as h B (of-parts k e is W))
    typed-means {e = e} (rule.an_exponent p d t is h me) B W =
        subst MeaningTyped (sym me) (typed-as h B (of-parts k e is W))
    typed-means (rule.a_field_of p spot name is me) B W = subst MeaningTyped (sym me) tt
    typed-means {e = e} (rule.a_method_of p spot name es ts is h me) B W =
        subst MeaningTyped (sym me) (typed-each h B (of-parts k e is W))
