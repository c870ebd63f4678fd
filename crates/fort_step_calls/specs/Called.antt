-- Chapter "Calls": what the code says of a call of values. Every declaration of the set was asked.
use Rattle.std.specs.Prelude.{◌≡◌, ◌+◌, List, [], length, Option, Some, None}
use Rattle.std.specs.Borrow.{Bor}
use Rattle.fort_base.specs.declared.ids.DeclId.{DeclId}
use Rattle.fort_base.specs.declared.ids.SetId.{SetId}
use Rattle.fort_core.specs.declared.program.CoreDecl.{CoreDecl}
use Rattle.fort_core.specs.declared.program.Program.{Program}
use Rattle.fort_core.specs.declared.term.Term.{Term}
use Rattle.fort_core.specs.declared.term.Term as term
use Rattle.fort_core.specs.declared.value.Value.{Value, Text}
use Rattle.fort_step_deal.specs.declared.deal.Deal.{Deal}
use Rattle.fort_step_deal.specs.Deals.{act_of}
use Rattle.fort_prim.specs.declared.answer.Answer.{Answer}
use Rattle.fort_prim.specs.declared.answer.Answer.TheVariants as answer
use Rattle.fort_machine.specs.Acts.{Act, turns, becomes, throwing, unit}
use Rattle.fort_machine.specs.Acts as acts
use Rattle.fort_machine.specs.Calls.{Dispatches, by_body}

-- A call of values runs no declaration where there is no deal; else the deal is what the one does
-- that it runs.
abbrev pub IsCalled : Program → SetId → List Value → Option Deal → Type 0
IsCalled p set vs None = (d : DeclId) (decl : CoreDecl) → Dispatches p set vs d decl → ⊥
IsCalled p set vs (Some deal) = (d : DeclId) × (decl : CoreDecl) × Dispatches p set vs d decl
    × (by_body p decl.body vs ≡ act_of deal)

-- What a built-in declaration does by the code's answer, with its cost.
abbrev pub by_given : Program → Answer → Act
by_given p (answer.Value v) = becomes (term.Value v)
by_given p (answer.Makes s) = turns (term.Value (Text s)) [] (1 + length s)
by_given p (answer.Throws id) = throwing p id
by_given p (answer.Prints s) = turns (term.Value unit) s (1 + length s)
by_given p answer.Ends = acts.ends

-- The first clause for a value, where one was found.
abbrev pub by_clause : Option (Bor Term) → Term → (Term → Term) → Term
by_clause None other f = other
by_clause (Some b) other f = f b.now
