use Rattle.std.proofs.Common.{◌≡◌, rules}
use Rattle.fort_frames.proofs.Same.{node_part}
use Rattle.fort_frames.proofs.frame.Frame.number.Goals as goal

pub returns-in-Ok : goal.returns-in-Ok
returns-in-Ok c =
    let same : c.in-Ok.number ≡ c.in-Node.node.«at» = search rules in
    node_part c.args.self.now c.in-Node.node c.in-Ok.number c.in-Node.is same
