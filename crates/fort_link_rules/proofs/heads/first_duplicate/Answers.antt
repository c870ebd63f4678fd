use Rattle.std.proofs.Common.{[], refl, sym, ap, subst, arith}
use Rattle.std.proofs.lemmas.Option.{slice_get_read}
use Rattle.fort_tree.specs.declared.spot.Name.{Name}
use Rattle.fort_link_rules.specs.Heads.{DuplicateAt}
use Rattle.fort_link_rules.specs.Places.{Gathers}
use Rattle.fort_link_rules.proofs.Gathering.{Below, gathers_none_below, gathers_more_below}
use Rattle.fort_link_rules.proofs.HeadLaws.{duplicate_where, duplicate_found}
use Rattle.fort_link_rules.proofs.heads.first_duplicate.Goals as goal

pub loop-k-init : goal.loop-k-init
loop-k-init c =
    subst (λ z. Gathers (Below (DuplicateAt c.args.names.now c.args.units.now) 0) [] z)
    (sym c.new-places.ensures)
    (gathers_none_below (DuplicateAt c.args.names.now c.args.units.now) [])

pub loop-k-preserved : goal.loop-k-preserved
loop-k-preserved c =
    gathers_more_below (DuplicateAt c.args.names.now c.args.units.now) c.loop-k.k [] c.loop-k.places
    c.add_where.new.places c.loop-k.invariant (duplicate_where c.args.names.now c.args.units.now
    c.loop-k.k c.index-units-k.result c.is_duplicate-duplicate.result _ c.loop-k.places
    c.add_where.new.places (slice_get_read c.args.units.now _ c.loop-k.k c.index-units-k.result refl
    c.loop-k-test.true c.index-units-k.is) c.is_duplicate-duplicate.ensures
    (ap (λ (n : Name). n.spot.place) c.name_of.ensures) c.in_ok-add_where.ensures)

pub returns : goal.returns
returns c =
    duplicate_found c.args.names.now c.args.units.now c.loop-k.k c.loop-k.places _ _ (omega arith)
    c.loop-k.invariant c.as_slice.ensures c.earliest.ensures
