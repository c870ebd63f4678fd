use Rattle.std.proofs.Common.{rules}
use Rattle.fort_typing_known.specs.Read.{facts}
use Rattle.fort_typing_walk.proofs.Closes.{sees}
use Rattle.fort_typing_walk.specs.Walks.{state}
use Rattle.fort_typing_walk.proofs.walk.Walk.see.Goals as goal

pub returns : goal.returns
returns c =
    sees (facts c.args.known.now) (state c.args.self.now) (state c.open-outer.new.self)
    c.open-outer.result c.enter-mark.result c.args.form c.args.tasks.now c.push.new.self
    c.inside.new.tasks
    c.inside.result (search rules) (search rules) (search rules) (search rules) c.inside.ensures
