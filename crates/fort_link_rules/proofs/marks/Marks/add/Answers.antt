use Rattle.fort_link_rules.proofs.Gathering.{on_ok}
use Rattle.fort_link_rules.proofs.Marking.{marks_one}
use Rattle.fort_link_rules.proofs.marks.Marks.add.Goals as goal

pub returns : goal.returns
returns c =
    on_ok c.set.result (λ s. marks_one c.args.name c.args.self.now _ s) c.set.ensures
