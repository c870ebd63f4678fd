use Rattle.fort_form_meaning.specs.Source.{Source}
use Rattle.fort_form_meaning.specs.Formed.{formed_next_generator}
use Rattle.fort_form_tasks.specs.Tasks.{next_source}
use Rattle.fort_form_build.proofs.Giving.{Made}
use Rattle.fort_form_build.proofs.expressions.further_generators.Given as goal

abbrev pub invariant-loop-next : goal.invariant-loop-next
invariant-loop-next l = (k : Source)
    → Made (next_source k) (formed_next_generator k) l.others l.next-index l.initial.forms l.forms
    l.made
