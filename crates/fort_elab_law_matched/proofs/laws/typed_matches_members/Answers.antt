use Rattle.fort_elab_law_matched.proofs.Matched.{typed_matches}
use Rattle.fort_elab_law_matched.proofs.laws.typed_matches_members.Goals as goal

pub returns : goal.returns
returns c = typed_matches
