use Rattle.fort_sound_program.proofs.Whole.{values_are_leaves, sets_keep}
use Rattle.fort_sound_program.proofs.laws.program_sets_keep.Goals as goal

pub returns : goal.returns
returns c =
    λ tokens c h m groups typed p ok. (
      values_are_leaves tokens c h m groups typed p ok,
      sets_keep tokens c h m groups typed p ok,
    )
