use Rattle.fort_sound_tables.proofs.CallsRun.{text_runs}
use Rattle.fort_sound_tables.proofs.calls.runs_text.Goals as goal

pub returns-then-takes_text : goal.returns-then-takes_text
returns-then-takes_text c ok =
    text_runs c.args.program.now c.args.set c.args.types.now c.args.number c.args.text.now
    (c.takes_text.ensures c.if-takes_text.true) (c.runs.ensures ok)
