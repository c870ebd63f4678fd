use Rattle.std.proofs.Common.{◌≡◌, ℕ, ◌+◌, ◌++◌, length, take, drop, sym, ap, ◌∙◌, subst, rules}
use Rattle.std.proofs.Math.Seq.{take-append_seam}
use Rattle.fort_turn.specs.Passes.{number_of}
use Rattle.fort_pool.specs.Workers.{EachWorker}
use Rattle.fort_hall_work.specs.declared.worker.Worker.{Worker}
use Rattle.fort_hall_work.specs.Seats.{IsSeated}
use Rattle.fort_hall.proofs.call.at_work.Goals as goal

pub side_by_side-requires-clause-ready : goal.side_by_side-requires-clause-ready
side_by_side-requires-clause-ready g c =
    let P : ℕ → Worker g.row.M.Denot g.row.M-Book.Denot g.row.M-State.Denot g.row.M-Leg.Denot g.row.M-Waste.Denot → Type 0 = λ n w. IsSeated g.M.Machine.history g.M.Machine.by c.args.hall.now.turn w.seat.pass w.seat.legs × (number_of w.seat.pass ≡ n + 1) in
    let e : c.as_mut_slice.result.now ≡ c.args.workers.items = search rules in
    let w : EachWorker 0 P c.as_mut_slice.result.now = subst (EachWorker 0 P) (sym e) c.requires.ready in
    search (rules, w)

pub returns-clause-ready : goal.returns-clause-ready
returns-clause-ready g c =
    let P : ℕ → Worker g.row.M.Denot g.row.M-Book.Denot g.row.M-State.Denot g.row.M-Leg.Denot g.row.M-Waste.Denot → Type 0 = λ n w. IsSeated g.M.Machine.history g.M.Machine.by c.args.hall.now.turn w.seat.pass w.seat.legs × (number_of w.seat.pass ≡ n + 1) in
    let all = c.side_by_side.new.workers in
    let n : c.args.workers.len ≡ length all = search rules in
    subst (EachWorker 0 P)
    (sym (ap (λ (k : ℕ). take k (all ++ drop (length all) c.args.workers.items)) n ∙ take-append_seam all (drop (length all) c.args.workers.items)))
    c.side_by_side.ensures.ready

pub returns-clause-long : goal.returns-clause-long
returns-clause-long g c =
    let all = c.side_by_side.new.workers in
    let rest = drop (length all) c.args.workers.items in
    let e : c.as_mut_slice.result.now ≡ c.args.workers.items = search rules in
    let n : c.args.workers.len ≡ length all = search rules in
    ap length (ap (λ (k : ℕ). take k (all ++ rest)) n ∙ take-append_seam all rest)
    ∙ (c.side_by_side.ensures.long ∙ ap length e)
