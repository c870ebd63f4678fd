use Rattle.std.proofs.Common.{add-one, drop, subst}
use Rattle.std.specs.List.{AllByRecursion}
use Rattle.fort_sound_tables.specs.Lookups.{GivesWay}
use Rattle.fort_sound_tables.proofs.Lists.{one_more_at}
use Rattle.fort_sound_tables.proofs.calls.is_alone.Goals as goal

pub loop-member-preserved : goal.loop-member-preserved
loop-member-preserved c rest =
    c.loop-member.invariant
    (one_more_at (GivesWay c.args.program.now c.args.types.now c.args.number c.args.declared.now)
    c.args.members.now c.loop-member.member-index _ c.loop-member-test.true
    (c.gives_way.ensures c.if-not-gives_way.false)
    (subst (λ n. AllByRecursion
    (GivesWay c.args.program.now c.args.types.now c.args.number c.args.declared.now)
    (drop n c.args.members.now)) (add-one c.loop-member.member-index) rest))
