use Rattle.std.proofs.Common.{◌≡◌, IfOk, [], ◌∷◌, length, get_or, sym, subst, rules}
use Rattle.fort_core.specs.declared.term.Term.{ReduceHalves}
use Rattle.fort_step_deal.specs.Deals.{act_of}
use Rattle.fort_frames.specs.Heads.{of_two}
use Rattle.fort_machine.specs.Acts.{Act, calls, once_all}
use Rattle.fort_machine.specs.Forms.{act}
use Rattle.fort_step_table.proofs.Groups.{reduce_two}
use Rattle.fort_step_table.proofs.parallel.deal_of_reduction.Goals as goal

pub returns-then-items-eq2 : goal.returns-then-items-eq2
returns-then-items-eq2 c =
    let n : length c.args.parts.now ≡ 2 = search rules in
    let p : c.index-items-0.result ≡ get_or c.args.parts.now 0 c.index-items-0.result = search rules
    in
    let q : c.index-items-1.result ≡ get_or c.args.parts.now 1 c.index-items-1.result = search rules
    in
    let e : act c.args.program.now (of_two (ReduceHalves c.args.set) c.args.parts.now)
    ≡ once_all (c.index-items-0.result ∷ c.index-items-1.result ∷ []) (calls c.args.set)
    = reduce_two c.args.program.now c.args.parts.now c.args.set c.index-items-0.result
    c.index-items-1.result n p q in
    subst (λ (a : Act). IfOk c.reduce_halves_row.result (λ deal. act_of deal ≡ a)) (sym e)
    c.reduce_halves_row.ensures
