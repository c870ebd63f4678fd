-- Typed forms whose terms have their types, and what may be assigned to.
use Rattle.std.proofs.Common.{◌≡◌, List, [], ◌∷◌, map, Some, refl, sym, ap, ◌∙◌, subst}
use Rattle.std.specs.List.{AllByRecursion}
use Rattle.fort_base.specs.declared.ids.NameId.{NameId}
use Rattle.fort_base.specs.declared.ids.TypeId.{TypeId}
use Rattle.fort_base.specs.declared.ty.Ty.{Ty, Array}
use Rattle.fort_base.specs.declared.ty.Ty.TheVariants.{Named}
use Rattle.fort_types_sets.specs.declared.field.Field.{Field}
use Rattle.fort_scope.specs.declared.binding.Binding.{Binding}
use Rattle.fort_form_typed.specs.declared.typed_form.TypedForm.{TypedForm, out-TypedForm, map-TypedForm, fold_out-TypedForm}
use Rattle.fort_form_typed.specs.declared.typed_form.TypedForm.TheOpen.{TypedForm-F}
use Rattle.fort_core.specs.declared.program.Program.{Program}
use Rattle.fort_typing_known.specs.Known.{Knows}
use Rattle.fort_typing_known.specs.Names.{bound, field_of}
use Rattle.fort_sound_typed.specs.Typing.{Below, small_type}
use Rattle.fort_sound_typed.specs.Sound.{opening}
use Rattle.fort_typing_rules.specs.Types.{type_at, type_of, types_of}
use Rattle.fort_elab_meaning.specs.Parts.{Given, Part, maker_of}
use Rattle.fort_elab_meaning.specs.Translated.{made_at, role_at, part_at, part, translated}
use Rattle.fort_elab_meaning.specs.Translated as translation
use Rattle.fort_sound_forms.proofs.Makers.{Good, EachGood}

module _ (k : Knows) (g : Given) (p : Program) where
  -- one level of a form, its parts as parts
  abbrev pub level : TypedForm-F TypedForm → TypedForm-F Part
  level x = map-TypedForm TypedForm Part (part g) x

  pub part_is : (f : TypedForm) → part g f ≡ part_at g (level (out-TypedForm f))
  unfolding part
  part_is f = fold_out-TypedForm Part (part_at g) f

  -- the type of a part is the form's
  same_type : (x : TypedForm-F TypedForm) → translation.type_at (level x) ≡ type_at x
  same_type (TypedForm-F.Number ty n) = refl
  same_type (TypedForm-F.Text ty n) = refl
  same_type (TypedForm-F.Truth ty b) = refl
  same_type (TypedForm-F.Tuple ty ts) = refl
  same_type (TypedForm-F.Local ty name mutable) = refl
  same_type (TypedForm-F.Top ty n) = refl
  same_type (TypedForm-F.Single ty o) = refl
  same_type (TypedForm-F.Receiver ty) = refl
  same_type (TypedForm-F.ReadField ty o f) = refl
  same_type (TypedForm-F.ReadElement ty a i) = refl
  same_type (TypedForm-F.Size ty a) = refl
  same_type (TypedForm-F.Fill ty of n v) = refl
  same_type (TypedForm-F.Call ty c ts) = refl
  same_type (TypedForm-F.Operation ty c ts) = refl
  same_type (TypedForm-F.Chain ty set cs ts) = refl
  same_type (TypedForm-F.Apply ty f a) = refl
  same_type (TypedForm-F.Fn ty ps e) = refl
  same_type (TypedForm-F.Block ty ts) = refl
  same_type (TypedForm-F.Bind ty name mutable written e) = refl
  same_type (TypedForm-F.Binds ty xs e) = refl
  same_type (TypedForm-F.Also ty ts) = refl
  same_type (TypedForm-F.If ty cs bs other) = refl
  same_type (TypedForm-F.While ty c b) = refl
  same_type (TypedForm-F.For ty xs ts b) = refl
  same_type (TypedForm-F.Case ty s cs ts vs other) = refl
  same_type (TypedForm-F.Typecase ty name s types vs other) = refl
  same_type (TypedForm-F.Try ty b name types vs last) = refl
  same_type (TypedForm-F.Atomic ty e) = refl
  same_type (TypedForm-F.Tryatomic ty e) = refl
  same_type (TypedForm-F.Throw ty e) = refl
  same_type (TypedForm-F.Reduce ty r set name sequential s b) = refl
  same_type (TypedForm-F.Assign ty t e) = refl
  same_type (TypedForm-F.Update ty t c e) = refl

  pub type_is : (f : TypedForm) → (part g f).ty ≡ type_of f
  unfolding type_of
  type_is f = ap (λ (q : Part). q.ty) (part_is f) ∙ same_type (out-TypedForm f)

  -- a field of a type, by its name
  abbrev pub IsField : Ty → NameId → Ty → Type 0
  IsField T name ty = (o : TypeId) × (f : Field) × (T ≡ Named o)
      × (field_of k.facts o name ≡ Some f) × (f.ty ≡ ty)

  -- What is to be known of a form's parts: where it may be assigned to, and of a tuple, whose parts
  -- may be arguments; a declaration of a block is no expression.
  abbrev pub Target : List Binding → TypedForm-F TypedForm → Type 0
  Target bs (TypedForm-F.Local ty name mutable) = (b : Binding) × (bound bs name ≡ Some b)
      × (b.ty ≡ ty) × (b.mutable ≡ mutable)
  Target bs (TypedForm-F.Top ty n) = opening p n ≡ Some ty
  Target bs (TypedForm-F.ReadField ty o name) = Good k p bs (translated g o) (type_of o)
      × IsField (type_of o) name ty
  Target bs (TypedForm-F.ReadElement ty a i) = Good k p bs (translated g a) (type_of a)
      × (type_of a ≡ Array ty) × Good k p bs (translated g i) (type_of i)
      × Below p (type_of i) (small_type p)
  Target bs (TypedForm-F.Tuple ty ts) =
      EachGood k p bs (map maker_of (map (part g) ts)) (types_of ts)
  Target bs (TypedForm-F.Bind ty name mutable written e) = ⊥
  Target bs (TypedForm-F.Binds ty xs e) = ⊥
  Target bs _ = Unit {0}

  -- A typed form becomes a term of its type, wherever the variables go with the bindings.
  pub record Plain (bs : List Binding) (t : TypedForm) : Type 0 where
    pub maker : Good k p bs (translated g t) (type_of t)
    pub target : Target bs (out-TypedForm t)

  abbrev pub AllPlain : List Binding → List TypedForm → Type 0
  AllPlain bs ts = AllByRecursion (Plain bs) ts

  pub translated_is : (t : TypedForm) {x : TypedForm-F TypedForm} → out-TypedForm t ≡ x
      → translated g t ≡ made_at g (level x)
  translated_is t is = ap (λ (q : Part). q.maker) (part_is t ∙ ap (λ y. part_at g (level y)) is)

  pub role_is : (t : TypedForm) {x : TypedForm-F TypedForm} → out-TypedForm t ≡ x
      → (part g t).role ≡ role_at (level x)
  role_is t is = ap (λ (q : Part). q.role) (part_is t ∙ ap (λ y. part_at g (level y)) is)

  pub typed_is : (t : TypedForm) {x : TypedForm-F TypedForm} → out-TypedForm t ≡ x
      → type_of t ≡ type_at x
  unfolding type_of
  typed_is t is = ap type_at is

  pub plain_of : {bs : List Binding} (t : TypedForm) {x : TypedForm-F TypedForm}
      → out-TypedForm t ≡ x → Good k p bs (made_at g (level x)) (type_at x) → Target bs x
      → Plain bs t
  plain_of {bs} t {x = x} is h w = record {
    maker = subst (λ m. Good k p bs m (type_of t)) (sym (translated_is t is))
        (subst (Good k p bs (made_at g (level x))) (sym (typed_is t is)) h);
    target = subst (Target bs) (sym is) w;
  }

  -- several
  pub each_good : (bs : List Binding) (ts : List TypedForm) → AllPlain bs ts
      → EachGood k p bs (map maker_of (map (part g) ts)) (types_of ts)
  each_good bs [] h = tt
  each_good bs (t ∷ ts) h = (let i = h.0 in i.maker, each_good bs ts h.1)

  -- as parts, with their own types
  abbrev pub GoodPart : List Binding → Part → Type 0
  GoodPart bs q = Good k p bs q.maker q.ty

  pub good_part : {bs : List Binding} (t : TypedForm) → Plain bs t → GoodPart bs (part g t)
  good_part {bs} t h = subst (Good k p bs (translated g t)) (sym (type_is t)) h.maker

  pub good_parts : (bs : List Binding) (ts : List TypedForm) → AllPlain bs ts
      → AllByRecursion (GoodPart bs) (map (part g) ts)
  good_parts bs [] h = tt
  good_parts bs (t ∷ ts) h = (good_part t h.0, good_parts bs ts h.1)

  pub types_are : (ts : List TypedForm) → map (λ (q : Part). q.ty) (map (part g) ts) ≡ types_of ts
  types_are [] = refl
  types_are (t ∷ ts) =
      ap (λ ty. ty ∷ map (λ (q : Part). q.ty) (map (part g) ts)) (type_is t)
      ∙ ap (λ tys. type_of t ∷ tys) (types_are ts)
