-- What the definition answers, by what the code does.
use Rattle.std.proofs.Common.{◌≡◌, None, refl}
use Rattle.fort_machine.specs.Primitives.{Answer, gives, makes_text, throws, prints, ends, nothing}
use Rattle.fort_prim.specs.Answers.{reply}

-- where the code has no answer, neither has the definition
pub nothing_from : (x : Answer) → None ≡ reply x → x ≡ nothing
nothing_from (gives v) e = absurd cc
nothing_from (makes_text t) e = absurd cc
nothing_from (throws x) e = absurd cc
nothing_from (prints t) e = absurd cc
nothing_from ends e = absurd cc
nothing_from nothing e = refl
