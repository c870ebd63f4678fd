use Rattle.std.proofs.Common.{◌≡◌, drop}
use Rattle.std.specs.List.{list_any}
use Rattle.fort_elab_meaning.specs.Shapes.{constructs_by}
use Rattle.fort_elab_shapes.proofs.made_of.has_constructor_in.Given as goal

abbrev pub invariant-loop-member : goal.invariant-loop-member
invariant-loop-member l =
    list_any (λ d. constructs_by d.kind l.id) l.member-items
    ≡ list_any (λ d. constructs_by d.kind l.id) (drop l.member-index l.member-items)
