use Rattle.fort_meet.specs.Rows.{IsHighest}
use Rattle.fort_meet.proofs.meeting.highest.Given as goal

abbrev pub invariant-loop-m : goal.invariant-loop-m
invariant-loop-m l = IsHighest l.rows l.common l.m-index l.list
