-- The parameters of a declaration are those of its body, with the enclosing type where `self`
-- stands.
use Rattle.std.proofs.Common.{◌≡◌, ◌≤◌, ℕ, suc, ◌+◌, Bool, true, false, ◌||◌, cond, List, [], ◌∷◌, ◌++◌, length, map, Option, Some, None, refl, ap, ◌∙◌, arith}
use Rattle.std.specs.List.{flat_map}
use Rattle.fort_base.specs.declared.ids.TypeId.{TypeId}
use Rattle.fort_base.specs.declared.ty.Ty.{Ty}
use Rattle.fort_base.specs.declared.ty.Ty.TheVariants as a_type
use Rattle.fort_form.specs.declared.form.Parameter.{Parameter}
use Rattle.fort_tree.specs.declared.declarations.MethodParameter.{MethodParameter}
use Rattle.fort_tree.specs.declared.declarations.MethodParameter.TheVariants as method_parameter
use Rattle.fort_tree.specs.declared.declarations.MethodParameters.{MethodParameters}
use Rattle.fort_tree.specs.declared.declarations.NextMethodParameter.{NextMethodParameter}
use Rattle.fort_tree.specs.declared.declarations.NextParameter.{NextParameter}
use Rattle.fort_tree.specs.declared.declarations.Parameters.{Parameters}
use Rattle.fort_tree.specs.Declarations.{self_count, next_self_count, selves}
use Rattle.fort_hier.specs.Tops.{is_self, has_self, is_functional}
use Rattle.fort_member.specs.Declarations.{parameter_types, next_parameter_type, method_parameter_type, next_method_parameter_type, method_types, self_among, self_position}
use Rattle.fort_form_meaning.specs.Forming.{parameters, next_parameter}
use Rattle.fort_typing_rules.specs.Types.{parameter_type}
use Rattle.fort_form_walk.specs.FormsOf.{Tables, source, named_parameter, next_named_parameter, named_parameters}
use Rattle.fort_sound_bodies.specs.Bodies.{inserted, Takes}

module _ (n : Tables) where
  -- ---- functions

  next_types : (others : List NextParameter)
      → map (next_parameter_type n.types n.names) others
      ≡ map parameter_type (map (next_parameter (source n)) others)
  next_types [] = refl
  next_types (x ∷ others) =
      ap (λ (ts : List Ty). next_parameter_type n.types n.names x ∷ ts) (next_types others)

  pub function_takes : (ps : Option Parameters)
      → Takes None None (map parameter_type (parameters (source n) ps))
      (parameter_types n.types n.names ps)
  function_takes None = refl
  function_takes (Some ps) =
      ap (λ (ts : List Ty). (source n).written ps.first.ty ∷ ts) (next_types ps.others)

  -- ---- methods

  module _ (T : Ty) where
    -- the types of further parameters, and those of the ones that have names
    abbrev types_behind : List NextMethodParameter → List Ty
    types_behind others = map (next_method_parameter_type n.types n.names T) others

    abbrev named_behind : List NextMethodParameter → List Ty
    named_behind others = map parameter_type (flat_map (next_named_parameter n) others)

    -- without `self` all have names
    none_step : (x : MethodParameter) (ts : List Ty) (ps : List Parameter) (count : ℕ)
        → (count ≡ 0 → ts ≡ map parameter_type ps) → self_count x + count ≡ 0
        → method_parameter_type n.types n.names T x ∷ ts
        ≡ map parameter_type (named_parameter n x ++ ps)
    none_step (method_parameter.Parameter q) ts ps count h e =
        ap (λ (us : List Ty). (source n).written q.ty ∷ us) (h (omega (arith, e)))
    none_step (method_parameter.Self_ s) ts ps count h e = absurd (omega (arith, e))

    none_types : (others : List NextMethodParameter) → next_self_count others ≡ 0
        → types_behind others ≡ named_behind others
    none_types [] e = refl
    none_types (x ∷ others) e =
        none_step x.parameter (types_behind others) (flat_map (next_named_parameter n) others)
        (next_self_count others) (none_types others) e

    -- where it stands once, its type stands among theirs
    abbrev Among : List Ty → List Parameter → ℕ → Type 0
    Among ts ps at = (at ≤ length (map parameter_type ps))
        × (ts ≡ inserted at T (map parameter_type ps))

    some_step : (x : MethodParameter) (ts : List Ty) (ps : List Parameter) (at count : ℕ)
        → (count ≡ 0 → ts ≡ map parameter_type ps) → (count ≡ 1 → Among ts ps at)
        → self_count x + count ≡ 1
        → Among (method_parameter_type n.types n.names T x ∷ ts) (named_parameter n x ++ ps)
        (cond (is_self x) 0 (suc at))
    some_step (method_parameter.Parameter q) ts ps at count h j e =
        let w = j (omega (arith, e)) in let l = w.0
        in (omega arith, ap (λ (us : List Ty). (source n).written q.ty ∷ us) w.1)
    some_step (method_parameter.Self_ s) ts ps at count h j e =
        (omega arith, ap (λ (us : List Ty). T ∷ us) (h (omega (arith, e))))

    some_types : (others : List NextMethodParameter) → next_self_count others ≡ 1
        → Among (types_behind others) (flat_map (next_named_parameter n) others) (self_among others)
    some_types [] e = absurd (omega (arith, e))
    some_types (x ∷ others) e =
        some_step x.parameter (types_behind others) (flat_map (next_named_parameter n) others)
        (self_among others) (next_self_count others) (none_types others) (some_types others) e

    -- how often it stands tells whether a method is functional
    count_step : (x : MethodParameter) (b : Bool) (count : ℕ) → (b ≡ true → 1 ≤ count)
        → (b ≡ false → count ≡ 0)
        → ((is_self x || b) ≡ true → 1 ≤ self_count x + count)
        × ((is_self x || b) ≡ false → self_count x + count ≡ 0)
    count_step (method_parameter.Parameter q) b count h j =
        (λ e. let r = h e in omega arith, λ e. let r = j e in omega arith)
    count_step (method_parameter.Self_ s) b count h j = (λ e. omega arith, λ e. absurd cc)

    counted : (others : List NextMethodParameter)
        → (has_self others ≡ true → 1 ≤ next_self_count others)
        × (has_self others ≡ false → next_self_count others ≡ 0)
    counted [] = (λ e. absurd cc, λ e. refl)
    counted (x ∷ others) =
        let r = counted others
        in count_step x.parameter (has_self others) (next_self_count others) r.0 r.1

    by_kind : (id : TypeId) → T ≡ a_type.Named id
        → (types : List Ty) (ps : List Parameter) (at count : ℕ) (b : Bool)
        → (count ≡ 0 → types ≡ map parameter_type ps) → (count ≡ 1 → Among types ps at) → count ≤ 1
        → (b ≡ true → 1 ≤ count) → (b ≡ false → count ≡ 0)
        → Takes (Some id) (Some (cond b at 0)) (map parameter_type ps) (cond b types (T ∷ types))
    by_kind id q types ps at count true h j few f z =
        let g = f refl in let w = j (omega arith)
        in (w.0, w.1 ∙ ap (λ X. inserted at X (map parameter_type ps)) q)
    by_kind id q types ps at count false h j few f z = (
      omega arith,
      ap (λ
          (us : List Ty). T ∷ us) (h (z refl)) ∙ ap (λ X. X ∷ map parameter_type ps) q,
    )

  pub method_takes : (id : TypeId) (ps : Option MethodParameters) → selves ps ≤ 1
      → Takes (Some id) (Some (cond (is_functional ps) (self_position ps) 0))
      (map parameter_type (named_parameters n ps))
      (cond (is_functional ps) (method_types n.types n.names (a_type.Named id) ps)
      (a_type.Named id ∷ method_types n.types n.names (a_type.Named id) ps))
  method_takes id None few = (omega arith, refl)
  method_takes id (Some ps) few =
      let T = a_type.Named id in
      let c = count_step T ps.first (has_self ps.others) (next_self_count ps.others)
      (counted T ps.others).0 (counted T ps.others).1 in
      by_kind T id refl (method_types n.types n.names T (Some ps)) (named_parameters n (Some ps))
      (self_position (Some ps)) (selves (Some ps)) (is_functional (Some ps))
      (none_step T ps.first (types_behind T ps.others) (flat_map (next_named_parameter n) ps.others)
      (next_self_count ps.others) (none_types T ps.others))
      (some_step T ps.first (types_behind T ps.others) (flat_map (next_named_parameter n) ps.others)
      (self_among ps.others) (next_self_count ps.others) (none_types T ps.others)
      (some_types T ps.others))
      few c.0 c.1
