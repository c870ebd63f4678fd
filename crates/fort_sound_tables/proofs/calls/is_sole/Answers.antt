use Rattle.fort_sound_tables.proofs.CallsRun.{sole_by}
use Rattle.fort_sound_tables.proofs.calls.is_sole.Goals as goal

pub returns : goal.returns
returns c ok =
    sole_by c.args.program.now c.args.set c.args.number c.args.types.now c.args.text.now
    (c.takes_text.ensures c.if-not-takes_text.false) (c.has_one.ensures c.if-not-has_one.false)
    (c.gives_nothing.ensures ok)
