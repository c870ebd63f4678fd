-- A declaration has as many parameters as its body counts.
use Rattle.std.proofs.Common.{◌≡◌, ℕ, suc, ◌+◌, ◌≤◌, Bool, true, false, ◌||◌, cond, List, [], ◌∷◌, ◌++◌, length, map, Option, Some, None, refl, sym, ap, ◌∙◌, le-leb, arith}
use Rattle.std.specs.List.{flat_map}
use Rattle.std.proofs.Math.ListN.{length-append}
use Rattle.fort_base.specs.declared.ty.Ty.{Ty}
use Rattle.fort_form.specs.declared.form.Parameter.{Parameter}
use Rattle.fort_tree.specs.declared.declarations.MethodParameter.{MethodParameter}
use Rattle.fort_tree.specs.declared.declarations.MethodParameter.TheVariants as method_parameter
use Rattle.fort_tree.specs.declared.declarations.MethodParameters.{MethodParameters}
use Rattle.fort_tree.specs.declared.declarations.NextMethodParameter.{NextMethodParameter}
use Rattle.fort_tree.specs.declared.declarations.Parameters.{Parameters}
use Rattle.fort_tree.specs.Declarations.{self_count, next_self_count, selves}
use Rattle.fort_hier.specs.Tops.{is_self, has_self, is_functional}
use Rattle.fort_hier.proofs.NamesWalk.{as_long}
use Rattle.fort_member.specs.Declarations.{parameter_types, next_parameter_type, next_method_parameter_type, method_types, self_among, self_position}
use Rattle.fort_form_meaning.specs.Forming.{parameters, next_parameter}
use Rattle.fort_form_walk.specs.FormsOf.{Tables, source, named_parameter, next_named_parameter, named_parameters}
use Rattle.fort_elab_meaning.specs.Bodies.{position}

module _ (n : Tables) where
  -- ---- functions

  pub function_width : (ps : Option Parameters)
      → length (parameter_types n.types n.names ps) ≡ length (parameters (source n) ps)
  function_width None = refl
  function_width (Some ps) =
      let a = as_long (next_parameter_type n.types n.names) ps.others
      in let b = as_long (next_parameter (source n)) ps.others in omega arith

  -- ---- methods

  module _ (self_type : Ty) where
    -- the types of further parameters, and those that have names
    abbrev types_behind : List NextMethodParameter → List Ty
    types_behind others = map (next_method_parameter_type n.types n.names self_type) others

    abbrev named_behind : List NextMethodParameter → List Parameter
    named_behind others = flat_map (next_named_parameter n) others

    one_parameter : (p : MethodParameter) → length (named_parameter n p) + self_count p ≡ 1
    one_parameter (method_parameter.Parameter p) = refl
    one_parameter (method_parameter.Self_ s) = refl

    others_long : (others : List NextMethodParameter)
        → length (types_behind others) ≡ length (named_behind others) + next_self_count others
    others_long [] = refl
    others_long (x ∷ others) =
        let a = length-append (named_parameter n x.parameter) (named_behind others)
        in let b = one_parameter x.parameter in let r = others_long others in omega arith

    within_step : (p : MethodParameter) (rest : List Parameter) (at : ℕ) → at ≤ length rest
        → cond (is_self p) 0 (suc at) ≤ length (named_parameter n p ++ rest)
    within_step (method_parameter.Parameter p) rest at l = omega arith
    within_step (method_parameter.Self_ s) rest at l = omega arith

    among_within : (others : List NextMethodParameter)
        → self_among others ≤ length (named_behind others)
    among_within [] = omega arith
    among_within (x ∷ others) =
        within_step x.parameter (named_behind others) (self_among others) (among_within others)

    none_step : (p : MethodParameter) (b : Bool) (count : ℕ) → (b ≡ false → count ≡ 0)
        → (is_self p || b) ≡ false → self_count p + count ≡ 0
    none_step (method_parameter.Parameter p) b count h e = let r = h e in omega arith
    none_step (method_parameter.Self_ s) b count h e = absurd cc

    none_behind : (others : List NextMethodParameter) → has_self others ≡ false
        → next_self_count others ≡ 0
    none_behind [] e = refl
    none_behind (x ∷ others) e =
        none_step x.parameter (has_self others) (next_self_count others) (none_behind others) e

    some_step : (p : MethodParameter) (b : Bool) (count : ℕ) → (b ≡ true → 1 ≤ count)
        → (is_self p || b) ≡ true → 1 ≤ self_count p + count
    some_step (method_parameter.Parameter p) b count h e = let r = h e in omega arith
    some_step (method_parameter.Self_ s) b count h e = omega arith

    some_behind : (others : List NextMethodParameter) → has_self others ≡ true
        → 1 ≤ next_self_count others
    some_behind [] e = absurd cc
    some_behind (x ∷ others) e =
        some_step x.parameter (has_self others) (next_self_count others) (some_behind others) e

    long : (ps : MethodParameters)
        → length (method_types n.types n.names self_type (Some ps))
        ≡ length (named_parameters n (Some ps)) + selves (Some ps)
    long ps =
        let a = length-append (named_parameter n ps.first) (named_behind ps.others)
        in let b = one_parameter ps.first in let r = others_long ps.others in omega arith

    counted : (types : List Ty) (receiver : Ty) (names at : ℕ) (count : ℕ) (b : Bool)
        → length types ≡ names + count → count ≤ 1 → at ≤ names
        → (b ≡ false → count ≡ 0) → (b ≡ true → 1 ≤ count)
        → length (cond b types (receiver ∷ types)) ≡ position (Some (cond b at 0)) names
    counted types receiver names at count true l few w none some =
        let s = some refl in let t : length types ≡ names + 1 = omega arith
        in t ∙ ap (λ (b : Bool). cond b (names + 1) names) (sym (le-leb at names w))
    counted types receiver names at count false l few w none some =
        let z = none refl in let t : suc (length types) ≡ names + 1 = omega arith
        in t ∙ ap (λ (b : Bool). cond b (names + 1) names) (sym (le-leb 0 names (omega arith)))

    -- Where `self` stands once at most.
    pub method_width : (receiver : Ty) (ps : Option MethodParameters) → selves ps ≤ 1
        → length (cond (is_functional ps) (method_types n.types n.names self_type ps)
        (receiver ∷ method_types n.types n.names self_type ps))
        ≡ position (Some (cond (is_functional ps) (self_position ps) 0))
        (length (named_parameters n ps))
    method_width receiver None few = refl
    method_width receiver (Some ps) few =
        counted (method_types n.types n.names self_type (Some ps)) receiver
        (length (named_parameters n (Some ps))) (self_position (Some ps)) (selves (Some ps))
        (is_functional (Some ps)) (long ps) few
        (within_step ps.first (named_behind ps.others) (self_among ps.others)
        (among_within ps.others))
        (none_step ps.first (has_self ps.others) (next_self_count ps.others)
        (none_behind ps.others))
        (some_step ps.first (has_self ps.others) (next_self_count ps.others)
        (some_behind ps.others))
