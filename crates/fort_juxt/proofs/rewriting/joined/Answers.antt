use Rattle.std.proofs.Common.{arith}
use Rattle.fort_juxt.proofs.TightLaws.{joins_two, refuses_first, refuses_second, is_whole}
use Rattle.fort_juxt.proofs.rewriting.joined.Goals as goal

pub returns-then-first : goal.returns-then-first
returns-then-first c =
    refuses_first c.args.elements.now _ c.requires.none c.requires.atoms (omega arith)
    c.if-first.true

pub returns-then-second : goal.returns-then-second
returns-then-second c =
    refuses_second c.args.elements.now _ c.requires.none c.requires.atoms (omega arith)
    c.if-first.false c.if-second.true

pub returns-in_default : goal.returns-in_default
returns-in_default c = is_whole c.args.elements.now (omega arith) (omega arith)

pub returns-else-second : goal.returns-else-second
returns-else-second c =
    joins_two c.args.elements.now _ c.requires.none c.requires.atoms (omega arith) c.if-first.false
    c.if-second.false
