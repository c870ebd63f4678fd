-- What a built-in declaration does, by the code's answer.
use Rattle.std.proofs.Common.{◌≡◌, Some, None, refl, ap, sym}
use Rattle.fort_core.specs.declared.program.Program.{Program}
use Rattle.fort_machine.specs.Acts.{stuck}
use Rattle.fort_machine.specs.Calls.{by_answer}
use Rattle.fort_machine.specs.Primitives.{Answer, gives, makes_text, throws, prints, ends, nothing}
use Rattle.fort_prim.specs.Answers.{reply}
use Rattle.fort_prim.specs.declared.answer.Answer.{Answer as Given}
use Rattle.fort_prim.specs.declared.answer.Answer.TheVariants as code
use Rattle.fort_step_calls.specs.Called.{by_given}

pub given : (p : Program) (a : Answer) (r : Given) → Some r ≡ reply a → by_answer p a ≡ by_given p r
given p (gives v) r e = let q : r ≡ code.Value v = cc in ap (by_given p) (sym q)
given p (makes_text t) r e = let q : r ≡ code.Makes t = cc in ap (by_given p) (sym q)
given p (throws x) r e = let q : r ≡ code.Throws x = cc in ap (by_given p) (sym q)
given p (prints t) r e = let q : r ≡ code.Prints t = cc in ap (by_given p) (sym q)
given p ends r e = let q : r ≡ code.Ends = cc in ap (by_given p) (sym q)
given p nothing r e = absurd cc

pub none_given : (p : Program) (a : Answer) → None ≡ reply a → by_answer p a ≡ stuck
none_given p (gives v) e = absurd cc
none_given p (makes_text t) e = absurd cc
none_given p (throws x) e = absurd cc
none_given p (prints t) e = absurd cc
none_given p ends e = absurd cc
none_given p nothing e = refl

pub ruleset answers = (given, none_given)
