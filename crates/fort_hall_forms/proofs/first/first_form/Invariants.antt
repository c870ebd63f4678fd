use Rattle.std.proofs.Common.{◌≡◌}
use Rattle.fort_store_effects.specs.Levels.{levels_of, seen}
use Rattle.fort_hall_forms.specs.Sought.{IsSought, whole}
use Rattle.fort_hall_forms.proofs.first.first_form.Given as goal

abbrev pub invariant-loop-turn : goal.invariant-loop-turn
invariant-loop-turn l =
    IsSought (seen (levels_of l.view)) l.state × (whole l.state ≡ l.fn.part)
