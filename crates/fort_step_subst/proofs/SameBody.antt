-- A function whose body is as it was.
use Rattle.std.proofs.Common.{◌≡◌, refl, ap, ◌∙◌}
use Rattle.fort_core.specs.declared.term.Term.{Term}
use Rattle.fort_core.specs.declared.value.Closure.{Closure}
use Rattle.fort_machine.specs.Scopes.{function}
use Rattle.fort_step_subst.specs.Places.{function_with}

same_body : (c : Closure) → function_with c c.body ≡ function c
unfolding function_with
same_body c = refl

pub body_placed : (c : Closure) (t : Term) → t ≡ c.body → function_with c t ≡ function c
body_placed c t e = ap (function_with c) e ∙ same_body c
