-- Forms that bind names: locals, functions, generators.
use Rattle.std.proofs.Common.{◌≡◌, ◌≤◌, ℕ, ◌+◌, Bool, true, false, cond, ◌&&◌, List, [], ◌∷◌, ◌++◌, length, map, Option, Some, None, inl, inr, refl, sym, ap, ◌∙◌, subst, arith}
use Rattle.std.specs.Prelude.{nat_le}
use Rattle.std.proofs.lemmas.Bool.{leb-true}
use Rattle.std.proofs.lemmas.List.{append-nil}
use Rattle.fort_base.specs.declared.ids.NameId.{NameId}
use Rattle.fort_base.specs.declared.ids.SetId.{SetId}
use Rattle.fort_base.specs.declared.ids.TypeId.{TypeId}
use Rattle.fort_base.specs.declared.refusal.Place.{Place}
use Rattle.fort_base.specs.declared.ty.Ty.{Ty, Arrow, Tuple, out-Ty}
use Rattle.fort_base.specs.declared.ty.Ty.TheVariants as a_type
use Rattle.fort_base.specs.declared.ty.Ty.TheOpen.{Ty-F}
use Rattle.fort_scope.specs.declared.binding.Binding.{Binding}
use Rattle.fort_form.specs.declared.form.Parameter.{Parameter}
use Rattle.fort_core.specs.declared.form.Span.TheVariants as span
use Rattle.fort_core.specs.declared.program.Program.{Program}
use Rattle.fort_core.specs.declared.term.Term.{Term, Let, Mutable, For, Reduce}
use Rattle.fort_core.specs.declared.value.Closure.{Closure}
use Rattle.fort_machine.specs.Types.{domain_of}
use Rattle.fort_typing_known.specs.Known.{Knows}
use Rattle.fort_typing_known.specs.Names.{bound}
use Rattle.fort_sound_typed.specs.Envs.{Env, binds, Distinct, Fresh, fixed_all}
use Rattle.fort_sound_typed.specs.Typing.{Below, is_same, unit_type, ItemsOf, Called, Has, vs0}
use Rattle.fort_sound_typed.specs.Sound.{opening}
use Rattle.fort_sound_typed.proofs.Rules.{Trans}
use Rattle.fort_sound_typed.proofs.Made.{function_has}
use Rattle.fort_sound_typed.proofs.Order.{itself}
use Rattle.fort_types_builtin.specs.declared.types.TheConstants.{RANGE}
use Rattle.fort_typing_rules.specs.Types.{zz32, given_at, given, tuple_of, parameter_type}
use Rattle.fort_typing_rules.specs.Typing as rule
use Rattle.fort_elab_meaning.specs.Making.{Maker, after, naming}
use Rattle.fort_elab_meaning.specs.Parts.{Given}
use Rattle.fort_elab_meaning.specs.Items.{typed_variables, with_names, binding, bindings, parameter, within_function, fn, order_of, reduction}
use Rattle.fort_sound_forms.specs.Suits.{Suits}
use Rattle.fort_sound_forms.proofs.Names.{AllFixed, all_distinct, all_fresh, names_next}
use Rattle.fort_sound_forms.proofs.Built.{has-Let, has-Mutable, has-For, has-Reduce}
use Rattle.fort_sound_forms.proofs.Makers.{Good, good_naming}
use Rattle.fort_sound_forms.proofs.Facts.{named_is, array_is, tuple_is}

-- ---- types of several variables

types_of_variables : (n : ℕ) (xs : List (NameId × Ty))
    → map (λ (x : ℕ × Ty). x.1) (typed_variables n xs) ≡ map (λ (x : NameId × Ty). x.1) xs
types_of_variables n [] = refl
types_of_variables n (x ∷ xs) = ap (λ (ts : List Ty). x.1 ∷ ts) (types_of_variables (n + 1) xs)

-- a function takes its one parameter, else the tuple of them
pub domain_is : (n : ℕ) (xs : List (NameId × Ty))
    → domain_of (typed_variables n xs) ≡ tuple_of (map (λ (x : NameId × Ty). x.1) xs)
domain_is n [] = refl
domain_is n (x ∷ []) = refl
domain_is n (x ∷ y ∷ xs) = ap Tuple (types_of_variables n (x ∷ y ∷ xs))

abbrev binding_type : Binding → Ty
binding_type b = b.ty

more_names : (place : Place) (name : NameId) (t : Ty) (o : Option (List Binding))
    (new : List Binding)
    → elim o [ Some bs ↦ Some (rule.binding place name t ∷ bs) | None ↦ None ] ≡ Some new
    → (bs : List Binding) × (o ≡ Some bs) × (rule.binding place name t ∷ bs ≡ new)
more_names place name t None new e = absurd cc
more_names place name t (Some bs) new e = (bs, refl, cc)

-- names with the parts of a tuple: as many, with these types, none of which can be assigned to
names_with : (names : List (Place × NameId)) (ts : List Ty) (new : List Binding)
    → rule.with_types names ts ≡ Some new
    → (map (λ (x : NameId × Ty). x.1) (map rule.name_and_type new) ≡ ts)
    × (length new ≡ length names) × AllFixed new
names_with [] [] new e =
    let z : [] ≡ new = cc
    in subst (λ
    (x : List Binding). (map (λ (x : NameId × Ty). x.1) (map rule.name_and_type x) ≡ [])
    × (length x ≡ 0) × AllFixed x) z (refl, refl, tt)
names_with [] (t ∷ ts) new e = absurd cc
names_with ((place, name) ∷ names) [] new e = absurd cc
names_with ((place, name) ∷ names) (t ∷ ts) new e =
    let m = more_names place name t (rule.with_types names ts) new e in
    let h = names_with names ts m.0 m.1 in
    let l = h.1 in
    subst (λ (x : List Binding). (map (λ (x : NameId × Ty). x.1) (map rule.name_and_type x)
    ≡ t ∷ ts) × (length x ≡ length ((place, name) ∷ names)) × AllFixed x) m.2
    (ap (λ (us : List Ty). t ∷ us) h.0, omega arith, (refl, h.2))

parts_at : (names : List (Place × NameId)) (want : Ty) (new : List Binding) (x : Ty-F Ty)
    → out-Ty want ≡ x → rule.named_parts_at names x ≡ Some new
    → (ts : List Ty) × (want ≡ Tuple ts) × (rule.with_types names ts ≡ Some new)
parts_at names want new (Ty-F.Tuple ts) e q = (ts, tuple_is want ts e, q)
parts_at names want new Ty-F.Nothing e q = absurd cc
parts_at names want new Ty-F.Any e q = absurd cc
parts_at names want new (Ty-F.Named i) e q = absurd cc
parts_at names want new (Ty-F.Arrow a b) e q = absurd cc
parts_at names want new (Ty-F.Array a) e q = absurd cc

two_or_more : (n : ℕ) (xs : List (NameId × Ty)) → 2 ≤ length xs
    → domain_of (typed_variables n xs) ≡ Tuple (map (λ (x : NameId × Ty). x.1) xs)
two_or_more n [] l = absurd (omega arith)
two_or_more n (x ∷ []) l = absurd (omega arith)
two_or_more n (x ∷ y ∷ xs) l = domain_is n (x ∷ y ∷ xs)

same_length : (new : List Binding) → length (map rule.name_and_type new) ≡ length new
same_length [] = refl
same_length (b ∷ new) = let h = same_length new in omega arith

-- the names of a local tuple
pub tuple_names : (names : List (Place × NameId)) (want : Ty) (new : List Binding)
    → 2 ≤ length names → rule.named_parts names want ≡ Some new
    → AllFixed new × ((n : ℕ) → domain_of (typed_variables n (map rule.name_and_type new)) ≡ want)
tuple_names names want new l e =
    let q = parts_at names want new (out-Ty want) refl e in
    let h = names_with names q.0 new q.2 in
    let i = h.1 in let j = same_length new in
    (h.2, λ n. two_or_more n (map rule.name_and_type new) (omega arith) ∙ ap Tuple h.0 ∙ sym q.1)

-- parameters
pub parameters_fixed : (ps : List Parameter) → AllFixed (map rule.parameter_binding ps)
parameters_fixed [] = tt
parameters_fixed (p ∷ ps) = (refl, parameters_fixed ps)

pub parameters_are : (ps : List Parameter)
    → map rule.name_and_type (map rule.parameter_binding ps) ≡ map parameter ps
parameters_are [] = refl
parameters_are (p ∷ ps) = ap (λ (xs : List (NameId × Ty)). parameter p ∷ xs) (parameters_are ps)

pub parameter_types : (ps : List Parameter)
    → map (λ (x : NameId × Ty). x.1) (map parameter ps) ≡ map parameter_type ps
parameter_types [] = refl
parameter_types (p ∷ ps) = ap (λ (ts : List Ty). p.ty ∷ ts) (parameter_types ps)

module _ (k : Knows) (p : Program) where
  -- ---- locals

  pub good_binding : {bs : List Binding} {T : Ty} (place : Place) (name : NameId) (mutable : Bool)
      (ty : Ty) (initial rest : Maker) → bound bs name ≡ None → Good k p bs initial ty
      → Good k p (bs ++ record { name = name; place = place; ty = ty; mutable = mutable } ∷ []) rest
      T → Good k p bs (binding name mutable ty initial rest) T
  good_binding place name false ty initial rest free h i =
      good_naming k p (record { name = name; place = place; ty = ty; mutable = false }) initial
      (λ n. Let ((n, ty) ∷ [])) rest
      (λ G n t u f x y. has-Let p (opening p) ((n, ty) ∷ []) (refl, tt) f x y) free h i
  good_binding place name true ty initial rest free h i =
      good_naming k p (record { name = name; place = place; ty = ty; mutable = true }) initial
      (λ n. Mutable n ty) rest (λ G n t u f x y. has-Mutable p (opening p) n ty f x y) free h i

  pub good_bindings : {bs new all : List Binding} {T : Ty} (W : Ty) (initial rest : Maker)
      → rule.Binds k bs new all → AllFixed new
      → ((n : ℕ) → domain_of (typed_variables n (map rule.name_and_type new)) ≡ W)
      → Good k p bs initial W → Good k p all rest T
      → Good k p bs (bindings (map rule.name_and_type new) initial rest) T
  good_bindings {new = new} W initial rest b f w h i s c G a =
      let xs = map rule.name_and_type new in
      let x = h s c G a in let m = initial s c in let n = m.counter.variable in let l = x.later in
      let d = after (length xs) m.counter in
      let z = with_names n xs s in
      let v = typed_variables n xs in
      let D = binds (fixed_all v) G in
      let y = i z d D (names_next k n b f a l) in let e = y.later in
      record {
        has = has-Let p (opening p) v (all_distinct xs n) (all_fresh k n xs a l)
            (subst (λ X. Has p (opening p) G m.term X) (sym (w n)) x.has) y.has;
        later = omega arith;
      }

  -- ---- functions

  pub good_fn : {bs new all : List Binding} (R : Ty) (body : Maker) → Trans p
      → rule.Binds k bs new all → AllFixed new → Good k p all body R
      → Good k p bs (fn (map rule.name_and_type new) R body)
      (Arrow (tuple_of (map (λ (x : NameId × Ty). x.1) (map rule.name_and_type new))) R)
  good_fn {new = new} R body tr b f h s c G a =
      let xs = map rule.name_and_type new in
      let n = c.variable in
      let d = after (length xs) (within_function c) in
      let z = with_names n xs s in
      let v = typed_variables n xs in
      let D = binds (fixed_all v) G in
      let y = h z d D (names_next k n b f a (omega arith)) in let e = y.later in
      let m = body z d in
      let u = m.term in
      let o : Closure =
      record { number = c.function; parameters = v; result = R; body = u; held = [] } in
      let w = append-nil (fixed_all v) in
      record {
        has = function_has p tr (itself p) (opening p) o [] vs0
            (subst Distinct (sym w) (all_distinct xs n))
            (subst (λ q. Fresh q G) (sym w) (all_fresh k n xs a (omega arith)))
            (subst (λ q. Has p (opening p) (binds q G) u R) (sym w) y.has)
            (is_same (ap (λ X. Arrow X R) (domain_is n xs)));
        later = omega arith;
      }

  -- ---- generators

  pub good_for : {bs : List Binding} {A : Ty} (place : Place) (name : NameId) (ty : Ty)
      (sequential : Bool) (source rest : Maker) → bound bs name ≡ None → ItemsOf p A ty
      → Good k p bs source A
      → Good k p (bs ++ rule.binding place name ty ∷ []) rest unit_type
      → Good k p bs (naming name source (λ n. For (order_of sequential) span.Whole n) rest)
      unit_type
  good_for place name ty sequential source rest free w h i =
      good_naming k p (rule.binding place name ty) source
      (λ n. For (order_of sequential) span.Whole n) rest
      (λ G n t u f x y. has-For p (opening p) (order_of sequential) n w f x y) free h i

  pub good_reduction : {bs : List Binding} {A T C : Ty} (place : Place) (name : NameId) (ty : Ty)
      (sequential : Bool) (set : SetId) (empty : Term) (source rest : Maker) → bound bs name ≡ None
      → ItemsOf p A ty
      → Called p set (T ∷ T ∷ []) C → Below p C T → ((G : Env) → Has p (opening p) G empty T)
      → Good k p bs source A
      → Good k p (bs ++ rule.binding place name ty ∷ []) rest T
      → Good k p bs (reduction set empty name sequential source rest) T
  good_reduction place name ty sequential set empty source rest free w c l e h i =
      good_naming k p (rule.binding place name ty) source
      (λ n. Reduce (order_of sequential) span.Whole set empty n) rest
      (λ G n t u f x y. has-Reduce p (opening p) (order_of sequential) set n w f c l (e G) x y)
      free h i

-- ---- what generators give

module _ (k : Knows) (g : Given) (p : Program) (U : Suits k g p) where
  is_range : (i : TypeId) (ty : Ty) (c : Bool) → nat_le i.0 RANGE.0 && nat_le RANGE.0 i.0 ≡ c
      → cond c (Some zz32) None ≡ Some ty → (i ≡ RANGE) × (ty ≡ zz32)
  is_range i ty false q e = absurd cc
  is_range i ty true q e = go (nat_le i.0 RANGE.0) (nat_le RANGE.0 i.0) refl refl q
    where
      both : (n m : ℕ) → n ≤ m → m ≤ n → n ≡ m
      both n m a b = omega arith

      same : (a b : TypeId) → a.0 ≡ b.0 → a ≡ b
      same a b r = ap (λ (n : ℕ). let z : TypeId = record { 0 = n } in z) r

      go : (x y : Bool) → nat_le i.0 RANGE.0 ≡ x → nat_le RANGE.0 i.0 ≡ y → x && y ≡ true
          → (i ≡ RANGE) × (ty ≡ zz32)
      go true true a b r =
          (same i RANGE (both i.0 RANGE.0 (leb-true i.0 RANGE.0 a) (leb-true RANGE.0 i.0 b)), cc)
      go true false a b r = absurd cc
      go false y a b r = absurd cc

  pub items_of : (t ty : Ty) → given t ≡ Some ty → ItemsOf p t ty
  items_of t ty e = go (out-Ty t) refl e
    where
      go : (x : Ty-F Ty) → out-Ty t ≡ x → given_at x ≡ Some ty → ItemsOf p t ty
      go (Ty-F.Named i) q r =
          let w = is_range i ty (nat_le i.0 RANGE.0 && nat_le RANGE.0 i.0) refl r in
          inl (named_is t i q ∙ ap a_type.Named w.0 ∙ sym U.range, w.1 ∙ sym U.small)
      go (Ty-F.Array a) q r = let z : a ≡ ty = cc in inr (array_is t a q ∙ ap a_type.Array z)
      go Ty-F.Nothing q r = absurd cc
      go Ty-F.Any q r = absurd cc
      go (Ty-F.Tuple ts) q r = absurd cc
      go (Ty-F.Arrow a b) q r = absurd cc
