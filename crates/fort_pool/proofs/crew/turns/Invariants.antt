use Rattle.fort_pool.proofs.crew.turns.Given as goal

abbrev pub invariant-loop : goal.invariant-loop
invariant-loop g l =
    record {
      ready : g.W.Work.ready l.all l.worker l.state;
      keeps : g.W.Work.keeps l.all l.worker l.initial.state l.state;
    }
