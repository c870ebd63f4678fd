use Rattle.fort_sound.proofs.Founded.{founded}
use Rattle.fort_sound.proofs.laws.keepers_are_sound.Goals as goal

pub returns : goal.returns
returns c =
    founded c.component_is_written.ensures c.forms_are_ready.ensures c.members_have_bodies.ensures
    c.program_has_bodies.ensures c.program_is_sound.ensures c.program_is_complete.ensures
    c.program_sets_keep.ensures c.sets_keep_rules.ensures c.rules_define.ensures
    c.forms_have_figures.ensures
