use Rattle.std.proofs.Common.{rules}
use Rattle.fort_typing_known.specs.Read.{facts}
use Rattle.fort_typing_walk.proofs.Sources.{source_taken}
use Rattle.fort_typing_walk.specs.Walks.{state}
use Rattle.fort_typing_walk.proofs.walk.Walk.take_source.Goals as goal

pub returns-in-Ok : goal.returns-in-Ok
returns-in-Ok c =
    source_taken (facts c.args.known.now) c.args.at c.args.name c.args.place (state c.args.self.now)
    _ (state c.gives.new.self) c.taken-node.result c.in-Ok.given
    c.gives.result (search rules) c.in-Ok.ensures (search rules) c.gives.ensures
