use Rattle.fort_meet.specs.Rows.{IsInBoth, Lists}
use Rattle.fort_meet.proofs.meeting.common.Given as goal

abbrev pub invariant-loop-m : goal.invariant-loop-m
invariant-loop-m l = Lists (IsInBoth l.rows l.a.0 l.b.0) l.m l.list
