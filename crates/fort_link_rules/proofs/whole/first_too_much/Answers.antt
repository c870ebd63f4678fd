use Rattle.fort_link_rules.proofs.WholeLaws.{whole_found}
use Rattle.fort_link_rules.proofs.whole.first_too_much.Goals as goal

pub returns : goal.returns
returns c =
    whole_found c.args.units.now _ _ _ _ _ _ _ _ _ c.new-places.ensures
    c.in_ok-declarations.ensures c.in_ok-types.ensures c.in_ok-tokens.ensures
    c.in_ok-add_passed.ensures c.in_ok-add_passed-2.ensures c.in_ok-add_passed-3.ensures
    c.as_slice.ensures c.earliest.ensures
