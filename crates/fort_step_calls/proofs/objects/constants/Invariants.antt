use Rattle.std.proofs.Common.{◌≡◌, ◌++◌, drop}
use Rattle.std.specs.Prelude.{filter_map}
use Rattle.fort_core.specs.declared.program.CoreField.{CoreField}
use Rattle.fort_step_calls.proofs.objects.constants.Given as goal

abbrev pub invariant-loop-field : goal.invariant-loop-field
invariant-loop-field l =
    l.all ++ filter_map (λ (f : CoreField). f.initial) (drop l.field-index l.field-items)
    ≡ filter_map (λ (f : CoreField). f.initial) l.field-items
