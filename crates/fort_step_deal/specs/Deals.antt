-- Chapter "Steps and costs": what the code says that a form does, as an act of the written machine.
-- The code has data where the machine has functions.
use Rattle.std.specs.Prelude.{ℕ, ◌+◌, List, [], ◌∷◌, replicate}
use Rattle.fort_core.specs.declared.term.Term.{Term, Then}
use Rattle.fort_core.specs.declared.term.Term as term
use Rattle.fort_core.specs.declared.value.Value.{Value, Object, Array}
use Rattle.fort_machine.specs.Substitution.{substituted, located}
use Rattle.fort_machine.specs.Acts.{Act, stuck, turns, enters, asks, sets, makes, calls, ends}
use Rattle.fort_step_deal.specs.declared.deal.Deal.{Deal}
use Rattle.fort_step_deal.specs.declared.deal.Deal.TheVariants as deal
use Rattle.fort_step_deal.specs.declared.deal.Goes.{Goes}
use Rattle.fort_step_deal.specs.declared.deal.Goes.TheVariants as goes
use Rattle.fort_step_deal.specs.declared.deal.Makes.{Makes}
use Rattle.fort_step_deal.specs.declared.deal.Makes.TheVariants as fresh

-- The term as which a form goes on by a value that it reads.
abbrev pub next_by : Goes → Value → Term
next_by goes.Value v = term.Value v
next_by (goes.Body x body) v = substituted x v body
next_by (goes.First x body rest) v = Then (substituted x v body) rest

-- The values of the locations that a form makes.
abbrev pub new_values : Makes → List Value
new_values (fresh.Local v x rest) = v ∷ []
new_values (fresh.Object id vs) = vs
new_values (fresh.Array ty v n) = replicate n v

-- The term as which it goes on by the first of them.
abbrev pub made_by : Makes → ℕ → Term
made_by (fresh.Local v x rest) l = located x l rest
made_by (fresh.Object id vs) l = term.Value (Object id (record { 0 = l }))
made_by (fresh.Array ty v n) l = term.Value (Array ty (record { 0 = l }) n)

-- What it costs to make them.
abbrev pub making_cost : Makes → ℕ
making_cost (fresh.Local v x rest) = 1
making_cost (fresh.Object id vs) = 1
making_cost (fresh.Array ty v n) = 1 + n

-- A deal as the act that it is.
abbrev pub act_of : Deal → Act
act_of deal.Stuck = stuck
act_of (deal.Turns t output cost) = turns t output cost
act_of (deal.Enters body t) = enters body t
act_of (deal.Asks l g) = asks l.0 (λ v. next_by g v)
act_of (deal.Sets l v) = sets l.0 v
act_of (deal.Makes m) = makes (new_values m) (λ l. made_by m l) (making_cost m)
act_of (deal.Calls set vs) = calls set vs
act_of deal.Ends = ends
