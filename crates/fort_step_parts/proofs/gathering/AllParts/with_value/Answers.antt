use Rattle.std.proofs.Common.{◌≡◌, List, [], ◌∷◌, ◌++◌, arith, rules, ap, ◌∙◌}
use Rattle.std.proofs.lemmas.Grind.{common_steps}
use Rattle.fort_core.specs.declared.value.Value.{Value}
use Rattle.fort_machine.specs.Ends.{at_value}
use Rattle.fort_machine.specs.Acts.{with_first}
use Rattle.fort_step_parts.specs.declared.gathering.AllParts.{AllParts}
use Rattle.fort_step_parts.specs.Gathering.{before, values_first}
use Rattle.fort_step_parts.proofs.Gathers.{last_value}
use Rattle.fort_step_parts.proofs.gathering.AllParts.with_value.Goals as goal

pub returns-in_ok-push-in-Values : goal.returns-in_ok-push-in-Values
returns-in_ok-push-in-Values c =
    let e : c.in-Values.values ++ c.args.value.now ∷ [] ≡ c.push.new.self =
    first_of (cc, search rules, grind (arith, common_steps)) in
    λ marked rest.
    ap (λ (g : AllParts). before g (with_first (at_value c.args.value.now) marked rest))
    c.in-Values.is
    ∙ last_value c.in-Values.values c.args.value.now marked rest
    ∙ ap (λ (xs : List Value). values_first xs rest) e
