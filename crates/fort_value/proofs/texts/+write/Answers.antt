use Rattle.std.proofs.Common.{◌≡◌, ◌<◌, Some, slice_get, length, rules, refl}
use Rattle.std.proofs.lemmas.Option.{slice_get_read}
use Rattle.fort_machine.specs.Texts.{text}
use Rattle.fort_value.proofs.Parts.{row_step}
use Rattle.fort_value.proofs.texts.+write.Goals as goal

pub write_parts-loop-i-preserved : goal.write_parts-loop-i-preserved
write_parts-loop-i-preserved t c =
    let within : c.loop-i.i < length c.as_slice-values.result.now = search rules in
    let here : slice_get c.as_slice-values.result.now c.loop-i.i ≡ Some c.index-values-i.result =
    slice_get_read _ _ _ _ refl within c.index-values-i.is in
    row_step (text c.args.program.now) c.as_slice-values.result.now c.loop-i.i _ c.args.out.now _ _
    _ c.loop-i.invariant c.in_ok-write_comma.ensures c.in_ok-write.ensures here
