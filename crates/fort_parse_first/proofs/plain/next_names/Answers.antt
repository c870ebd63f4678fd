use Rattle.std.proofs.Common.{◌≡◌, arith, sym, ◌∙◌, drop, ap, []}
use Rattle.std.proofs.lemmas.List.{drop_all}
use Rattle.fort_parse_first.specs.Plain.{next_names}
use Rattle.fort_parse_first.proofs.Names.{one_more, no_name, all_named, with_names}
use Rattle.fort_parse_first.proofs.plain.next_names.Goals as goal

pub returns-in_default : goal.returns-in_default
returns-in_default c =
    no_name c.args.exprs.now c.loop-next.next-index c.next-item.result c.loop-next.found
    (next_names c.args.exprs.now) c.loop-next-test.true c.next-item.is (sym c.in_default.is
    ∙ c.expr_name.ensures) c.loop-next.invariant

pub loop-next-preserved : goal.loop-next-preserved
loop-next-preserved c =
    rw c.in_ok-push.ensures.ok
    (one_more c.args.exprs.now c.loop-next.next-index c.next-item.result c.in-Some.name
    c.loop-next.found (next_names c.args.exprs.now) c.loop-next-test.true c.next-item.is
    (sym c.in-Some.is ∙ c.expr_name.ensures) c.loop-next.invariant)

pub returns : goal.returns
returns c =
    let none : drop c.loop-next.next-index c.args.exprs.now ≡ [] =
    drop_all c.loop-next.next-index c.args.exprs.now (omega arith) in
    sym (all_named c.loop-next.found)
    ∙ sym (ap (λ xs. with_names c.loop-next.found (next_names xs)) none) ∙ c.loop-next.invariant
