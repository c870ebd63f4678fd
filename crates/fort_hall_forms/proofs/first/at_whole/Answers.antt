use Rattle.fort_store_effects.specs.Levels.{levels_of, seen}
use Rattle.fort_hall_forms.proofs.Seeking.{begins, is_whole}
use Rattle.fort_hall_forms.proofs.first.at_whole.Goals as goal

pub returns-clause-sought : goal.returns-clause-sought
returns-clause-sought c =
    begins (seen (levels_of c.args.view.now)) c.root.result c.args.part c.root.ensures

pub returns-clause-same : goal.returns-clause-same
returns-clause-same c = is_whole c.root.result c.args.part c.root.ensures
