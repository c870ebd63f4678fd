-- Chapter "Steps and costs": what a thread does at its next step, and nothing else. The code looks
-- rows up; the definition asks for each act that the machine allows.
use Rattle.std.specs.Prelude.{◌≡◌, List, ◌⊎◌}
use Rattle.fort_base.specs.declared.ids.DeclId.{DeclId}
use Rattle.fort_base.specs.declared.ids.SetId.{SetId}
use Rattle.fort_core.specs.declared.program.CoreDecl.{CoreDecl}
use Rattle.fort_core.specs.declared.program.Program.{Program}
use Rattle.fort_core.specs.declared.term.Term.{Term}
use Rattle.fort_core.specs.declared.value.Value.{Value}
use Rattle.fort_machine.specs.Acts.{Act, calls, stuck}
use Rattle.fort_machine.specs.Calls.{Dispatches}
use Rattle.fort_machine.specs.Forms.{act}
use Rattle.fort_machine.specs.Steps.{Acts}
use Rattle.fort_step_deal.specs.Deals.{act_of}
use Rattle.fort_step_deal.specs.declared.deal.Deal.{Deal}
use Rattle.fort_step_deal.specs.declared.deal.Deal.TheVariants as deal

-- A form does this and nothing else, but to call a set.
abbrev pub OnlyDoes : Program → Term → Act → Type 0
OnlyDoes p a x = (y : Act) → Acts p a y
    → (y ≡ x) ⊎ ((set : SetId) × (vs : List Value) × (y ≡ calls set vs))

-- What the code says that a thread's form does, and for a call the declaration that it runs;
-- nothing where it runs none.
abbrev pub IsDealt : Program → Term → Deal → Type 0
IsDealt p a deal.Stuck = OnlyDoes p a stuck
IsDealt p a (deal.Calls set vs) = ⊥
IsDealt p a d = Acts p a (act_of d) × OnlyDoes p a (act_of d)

-- Where a form calls a set, the call runs a declaration.
abbrev pub CallsRun : Program → Term → Type 0
CallsRun p a = (set : SetId) (vs : List Value) → act p a ≡ calls set vs
    → (d : DeclId) × (decl : CoreDecl) × Dispatches p set vs d decl
