use Rattle.fort_elab_law_matched.proofs.Matched.{component_written}
use Rattle.fort_elab_law_matched.proofs.laws.component_is_written.Goals as goal

pub returns : goal.returns
returns c = component_written c.typed_matches_members.ensures c.program_is_written.ensures
