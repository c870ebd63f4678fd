-- A part more, by how it stands.
use Rattle.std.proofs.Common.{◌≡◌, Bool, ap, ◌∙◌}
use Rattle.std.specs.Prelude.{Result, Ok, Err, IfOk}
use Rattle.fort_base.specs.declared.refusal.Memory.{Memory}
use Rattle.fort_machine.specs.Ends.{Standing}
use Rattle.fort_machine.specs.Acts.{Together, with_first}
use Rattle.fort_step_parts.specs.declared.gathering.AllParts.{AllParts}
use Rattle.fort_step_parts.specs.Gathering.{before}

pub if_standing : (r : Result AllParts Memory) (self : AllParts) (s z : Standing) (m : Bool) → s ≡ z
    → IfOk r (λ more. (marked : Bool) (rest : Together)
    → before self (with_first z marked rest) ≡ before more rest)
    → IfOk r (λ more. (rest : Together) → before self (with_first s m rest) ≡ before more rest)
if_standing (Ok more) self s z m e h =
    λ rest. ap (λ (t : Standing). before self (with_first t m rest)) e ∙ h m rest
if_standing (Err x) self s z m e h = tt
