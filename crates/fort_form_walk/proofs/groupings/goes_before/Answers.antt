use Rattle.std.proofs.Common.{refl, arith}
use Rattle.std.proofs.lemmas.Option.{slice_get_read}
use Rattle.fort_form_walk.proofs.Orders.{it_goes_before}
use Rattle.fort_form_walk.proofs.groupings.goes_before.Goals as goal

pub returns-in-Some : goal.returns-in-Some
returns-in-Some c =
    λ t g next e f. it_goes_before c.args.groups.now c.args.at c.in-Some.group.now g next
    (slice_get_read c.args.groups.now _ c.args.at c.in-Some.group.now refl
    c.in-Some.ensures.lookup.3.0 c.in-Some.ensures.lookup.1) (c.is_behind.ensures t) e f

pub returns-in-None : goal.returns-in-None
returns-in-None c = λ t g next e f. let le = c.in-None.ensures.lookup.3 in let lt = c.requires
    in absurd (omega arith)
