use Rattle.std.proofs.Common.{◌≡◌, ◌+◌, List, [], ◌∷◌, ◌++◌, true, false, refl, sym, ap, ◌∙◌, length, arith}
use Rattle.std.specs.Prelude.{map, option_map}
use Rattle.fort_form.specs.declared.form.Form.{Form}
use Rattle.fort_form.specs.declared.form.Form.TheViews.{roll-Generator}
use Rattle.fort_tree.specs.declared.expr.Generator.{Generator, out-Generator}
use Rattle.fort_form_meaning.specs.Formed.{formed_flat, formed_generator}
use Rattle.fort_form_meaning.proofs.FormsFlats.{forms-Parallel, forms-Sequential}
use Rattle.fort_form_tasks.specs.Tasks.{source_at}
use Rattle.fort_form_tasks.proofs.Inside.{in-Parallel, in-Sequential}
use Rattle.fort_form_build.proofs.Giving.{of_one, one}
use Rattle.fort_form_build.proofs.expressions.generator.Goals as goal

pub returns-in-Parallel : goal.returns-in-Parallel
returns-in-Parallel c =
    λ k. of_one (λ
    (s : Form). roll-Generator
    (record {
      place = c.in-Parallel.name.spot.place;
      name = c.in-Parallel.name.id;
      sequential = false;
      source = s;
    })) (one (formed_flat k _) c.in_ok-source.ensures)
    (ap (λ (x : Generator). source_at k (out-Generator x) ∷ []) c.in-Parallel.is
    ∙ ap (λ x. x ∷ []) (in-Parallel k _ _ _)) (ap (formed_generator k) c.in-Parallel.is
    ∙ forms-Parallel k _ _ _)

pub returns-in-Sequential : goal.returns-in-Sequential
returns-in-Sequential c =
    λ k. of_one (λ
    (s : Form). roll-Generator
    (record {
      place = c.in-Sequential.name.spot.place;
      name = c.in-Sequential.name.id;
      sequential = true;
      source = s;
    })) (one (formed_flat k _) c.in_ok-source.ensures)
    (ap (λ (x : Generator). source_at k (out-Generator x) ∷ []) c.in-Sequential.is
    ∙ ap (λ x. x ∷ []) (in-Sequential k _ _ _ _ _ _))
    (ap (formed_generator k) c.in-Sequential.is ∙ forms-Sequential k _ _ _ _ _ _)
