use Rattle.std.proofs.Common.{refl}
use Rattle.std.proofs.lemmas.Option.{slice_get_read}
use Rattle.fort_form_walk.proofs.Orders.{found}
use Rattle.fort_form_walk.proofs.groupings.by_halves.Goals as goal

pub chosen-requires : goal.chosen-requires
chosen-requires c =
    found c.args.groups.now c.partition_point-near.result c.in-Some.group.now c.requires
    (slice_get_read c.args.groups.now _ c.partition_point-near.result c.in-Some.group.now refl
    c.in-Some.ensures.lookup.3.0 c.in-Some.ensures.lookup.1)
