use Rattle.std.proofs.Common.{◌≡◌, IfOk, [], ◌∷◌, ap, sym, ◌∙◌, subst}
use Rattle.fort_step_deal.specs.Deals.{act_of}
use Rattle.fort_machine.specs.Acts.{Act, after, makes, calls, once_all}
use Rattle.fort_machine.specs.Forms.{act}
use Rattle.fort_machine.specs.Substitution.{located}
use Rattle.fort_step_table.proofs.AtParts.{mutable_acts, reduce_halves_acts}
use Rattle.fort_step_table.proofs.table.deal_of.Goals as goal

pub returns-in-Mutable : goal.returns-in-Mutable
returns-in-Mutable c =
    let e : act c.args.program.now c.args.term.now
    ≡ after c.in-Mutable.first
    (λ v. makes (v ∷ []) (λ l. located c.in-Mutable.variable l c.in-Mutable.rest) 1)
    = ap (act c.args.program.now) (sym c.get.ensures ∙ c.in-Mutable.is)
    ∙ mutable_acts c.args.program.now c.in-Mutable.variable _ c.in-Mutable.first
    c.in-Mutable.rest in
    subst (λ (a : Act). IfOk c.mutable.result (λ deal. act_of deal ≡ a)) (sym e) c.mutable.ensures

pub returns-in-ReduceHalves : goal.returns-in-ReduceHalves
returns-in-ReduceHalves c =
    let e : act c.args.program.now c.args.term.now
    ≡ once_all (c.in-ReduceHalves.first ∷ c.in-ReduceHalves.second ∷ [])
    (calls c.in-ReduceHalves.set)
    = ap (act c.args.program.now) (sym c.get.ensures ∙ c.in-ReduceHalves.is)
    ∙ reduce_halves_acts c.args.program.now c.in-ReduceHalves.set c.in-ReduceHalves.first
    c.in-ReduceHalves.second in
    subst (λ (a : Act). IfOk c.reduce_halves_row.result (λ deal. act_of deal ≡ a)) (sym e)
    c.reduce_halves_row.ensures
