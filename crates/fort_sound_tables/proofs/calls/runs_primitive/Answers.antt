use Rattle.fort_sound_tables.proofs.CallsRun.{primitive_runs}
use Rattle.fort_sound_tables.proofs.calls.runs_primitive.Goals as goal

pub returns-then-is_primitive : goal.returns-then-is_primitive
returns-then-is_primitive c ok =
    primitive_runs c.args.program.now c.args.set c.args.types.now c.in-Some.number
    c.args.primitive (c.is_primitive.ensures c.if-is_primitive.true) (c.runs.ensures ok)
