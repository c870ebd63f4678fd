use Rattle.std.proofs.Common.{◌≡◌, ◌+◌, List, [], ◌∷◌, ◌++◌, Option, Some, None, refl, sym, ap, ◌∙◌, length, arith}
use Rattle.std.specs.Prelude.{map, option_map}
use Rattle.fort_form.specs.declared.form.Generator.{Generator as FormGenerator}
use Rattle.fort_form_build.proofs.Giving.{begun, of_two, remade}
use Rattle.fort_form_build.proofs.expressions.generators.Goals as goal

pub returns : goal.returns
returns c =
    λ k. remade (begun c.new-made.ensures c.in_ok-push.ensures.ok c.in_ok-append.ensures.ok)
    (of_two (λ
    (x : FormGenerator) (xs : List FormGenerator). x ∷ xs) (c.in_ok-begun.ensures k)
    (c.in_ok-further.ensures k) refl refl)
