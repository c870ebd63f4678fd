use Rattle.std.proofs.Common.{sym}
use Rattle.std.proofs.lemmas.Result.{IfOk-weaker}
use Rattle.fort_store_effects.specs.Levels.{effect_of}
use Rattle.fort_port_output.proofs.Growing.{parts_written}
use Rattle.fort_walk.specs.Written.{printed_by}
use Rattle.fort_walk.proofs.Halls.{are_next}
use Rattle.fort_walk.proofs.Writing.{hall_within, moved_written}
use Rattle.fort_walk.proofs.beside.side_by_side.Goals as goal

pub take_in-requires-clause-next : goal.take_in-requires-clause-next
take_in-requires-clause-next g c =
    are_next c.args.tables.now.program.now c.args.round.walking c.in_ok-form.form c.in_ok-legs.legs
    c.in_ok-form.ensures c.in_ok-legs.ensures.made

pub take_in-requires-clause-within : goal.take_in-requires-clause-within
take_in-requires-clause-within g c =
    hall_within _ c.write_root-progress.result.failed _
    (effect_of c.in_ok-legs.legs.closed.done).output c.in_ok-legs.legs.progress
    c.in_ok-legs.ensures.writes

pub returns-clause-goes_on : goal.returns-clause-goes_on
returns-clause-goes_on g c = IfOk-weaker c.take_in.result _ _ (λ n t. t.goes_on) c.take_in.ensures

pub returns-clause-written : goal.returns-clause-written
returns-clause-written g c =
    IfOk-weaker c.take_in.result _ _ (λ n t was faults_were h.
    moved_written _ _ _ n.progress
    (parts_written was _ _ faults_were _ _ (printed_by c.args.round.walking.going.course)
    (effect_of c.in_ok-legs.legs.closed.done).output c.write_root-progress.result
    c.in_ok-legs.legs.progress n.progress
    (c.write_root-progress.ensures.written was faults_were h)
    c.write_root-progress.ensures.whole c.in_ok-legs.ensures.writes t.failed t.bytes)
    (sym t.output))
    c.take_in.ensures
