use Rattle.std.proofs.Common.{subst}
use Rattle.fort_link_rules.specs.Reports.{IsFirstBroken}
use Rattle.fort_link.proofs.Several.{some_read, broken_is, kept_as, linked_is}
use Rattle.fort_link.proofs.linking.linked.Goals as goal

pub whole_of-requires-clause-some : goal.whole_of-requires-clause-some
whole_of-requires-clause-some c =
    some_read c.args.files.now c.as_slice.result.now c.in_ok-found.found c.as_slice.ensures
    c.requires.count.0 c.in_ok-found.ensures

pub whole_of-requires-clause-keep : goal.whole_of-requires-clause-keep
whole_of-requires-clause-keep c =
    kept_as c.in_ok-found.found c.as_slice-names.result.now c.as_slice-2.result.now
    c.as_slice-names.ensures c.as_slice-2.ensures
    (subst (IsFirstBroken c.as_slice-names.result.now c.as_slice-2.result.now) c.in-None.is
    c.in_ok-broken.ensures)

pub returns-in-Some : goal.returns-in-Some
returns-in-Some c =
    broken_is c.args.files.now c.as_slice.result.now c.in_ok-found.found
    c.as_slice-names.result.now c.as_slice-2.result.now c.in-Some.broken c.spot-at.result
    c.as_slice.ensures c.in_ok-found.ensures c.as_slice-names.ensures c.as_slice-2.ensures
    (subst (IsFirstBroken c.as_slice-names.result.now c.as_slice-2.result.now) c.in-Some.is
    c.in_ok-broken.ensures) c.spot-at.ensures

pub returns-in_ok-whole-in-None : goal.returns-in_ok-whole-in-None
returns-in_ok-whole-in-None c =
    linked_is c.args.files.now c.as_slice.result.now c.in_ok-found.found
    c.in_ok-whole-in-None.whole c.as_slice.ensures c.in_ok-found.ensures
    (kept_as c.in_ok-found.found c.as_slice-names.result.now c.as_slice-2.result.now
    c.as_slice-names.ensures c.as_slice-2.ensures
    (subst (IsFirstBroken c.as_slice-names.result.now c.as_slice-2.result.now) c.in-None.is
    c.in_ok-broken.ensures))
    c.in_ok-whole-in-None.ensures.whole c.in_ok-whole-in-None.ensures.spawns
