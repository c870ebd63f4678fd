use Rattle.std.proofs.Common.{refl, sym, ◌∙◌}
use Rattle.std.proofs.lemmas.Option.{slice_get_read}
use Rattle.fort_form_walk.proofs.Orders.{it_is_behind, none_is_behind}
use Rattle.fort_form_walk.proofs.groupings.is_behind.Goals as goal

pub returns-in-Some : goal.returns-in-Some
returns-in-Some c =
    λ t next e. it_is_behind c.args.groups.now c.args.at c.args.place c.in-Some.next.now next
    (slice_get_read c.args.groups.now _ c.args.at c.in-Some.next.now refl
    c.in-Some.ensures.lookup.3.0 c.in-Some.ensures.lookup.1) (sym c.is_before.ensures.test
    ∙ t) e

pub returns-in-None : goal.returns-in-None
returns-in-None c =
    λ t next e. none_is_behind c.args.groups.now c.args.at c.args.place next
    c.in-None.ensures.lookup.3 e
