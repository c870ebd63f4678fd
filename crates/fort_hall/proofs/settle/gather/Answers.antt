use Rattle.std.proofs.Common.{◌≡◌, ℕ, length, arith, ◌∙◌, subst, set, rules}
use Rattle.fort_hall.specs.Gathered.{Gathered}
use Rattle.fort_hall.proofs.Chain.{takes_one}
use Rattle.fort_hall.proofs.Watching.{sees_further}
use Rattle.std.proofs.lemmas.List.{length-set}
use Rattle.fort_hall.proofs.settle.gather.Goals as goal

pub loop-seat-preserved : goal.loop-seat-preserved
loop-seat-preserved g c =
    let i = c.loop-seat.invariant in
    let s = c.in-Some.ensures in
    let j = c.join.ensures in
    let n = length c.take_last.new.workers.items in
    let e : n ≡ c.len-n.result = search rules in
    let one : Gathered g.M.Machine.history g.M.Machine.origin g.M.Machine.by c.args.turn.now g.M.Machine.start (set c.loop-seat.legs.items n c.in-Some.seat.legs) n (length c.args.workers.items) c.join.new.pass =
    takes_one g.M.Machine.history g.M.Machine.origin g.M.Machine.by c.args.turn.now g.M.Machine.start c.loop-seat.legs.items n (length c.args.workers.items) c.in-Some.seat.legs c.loop-seat.first c.in-Some.seat.pass c.join.new.pass j.seen.0
    (subst (λ (m : ℕ). Gathered g.M.Machine.history g.M.Machine.origin g.M.Machine.by c.args.turn.now g.M.Machine.start c.loop-seat.legs.items m (length c.args.workers.items) c.loop-seat.first) s.shorter i.gathered)
    (omega (arith, s.shorter, i.long, i.few)) s.some.0 s.some.1 j.idle j.same.2 j.numbers j.seen.1 j.seen.2 j.seen.3 in
    record {
      gathered = subst (λ (m : ℕ). Gathered g.M.Machine.history g.M.Machine.origin g.M.Machine.by c.args.turn.now g.M.Machine.start (set c.loop-seat.legs.items m c.in-Some.seat.legs) n (length c.args.workers.items) c.join.new.pass) e one;
      more = sees_further g.M.Machine.history g.M.Machine.origin g.M.Machine.by c.args.first.now c.loop-seat.first c.join.new.pass j.seen.0 i.more j.seen.1 j.seen.2;
      made = j.same.1 ∙ i.made;
      workers = s.rest;
      long = length-set c.loop-seat.legs.items c.len-n.result c.in-Some.seat.legs ∙ i.long;
      few = omega (arith, s.shorter, i.few);
    }
