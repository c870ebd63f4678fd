use Rattle.fort_pool.proofs.crew.lead.Given as goal

abbrev pub invariant-loop : goal.invariant-loop
invariant-loop g l = record {
  ready : g.W.Work.ready l.all 0 l.state;
  keeps : g.W.Work.keeps l.all 0 l.initial.state l.state;
  first_ready : g.F.First.ready l.first;
  first_keeps : g.F.First.keeps l.initial.first l.first;
}
