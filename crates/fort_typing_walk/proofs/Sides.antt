-- What is compared is compared by its type.
use Rattle.std.proofs.Common.{◌≡◌, Option, Some, None, refl}
use Rattle.fort_base.specs.declared.refusal.Place.{Place}
use Rattle.fort_base.specs.declared.ty.Ty.{Ty}
use Rattle.fort_ops.specs.declared.op.Op.{Op}
use Rattle.fort_form_typed.specs.declared.typed_form.TypedForm.{TypedForm}
use Rattle.fort_typing_known.specs.Known.{Facts}
use Rattle.fort_typing_meaning.specs.Parts.{State, compared, after_side, side_of, side_type, side_place}
use Rattle.fort_typing_walk.specs.Walks.{compared_types, behind_side}

pub compared_by_type : (k : Facts) (op : Op) (at place : Place) (t : Option Ty)
    (u : Option TypedForm) (s : State)
    → compared_types k op at t (side_type (side_of place u)) s ≡ compared k op at t u s
compared_by_type k op at place None None s = refl
compared_by_type k op at place None (Some u) s = refl
compared_by_type k op at place (Some t) None s = refl
compared_by_type k op at place (Some t) (Some u) s = refl

pub after_by_type : (k : Facts) (op : Option Op) (place : Place) (u : Option TypedForm) (s : State)
    → behind_side k op place (side_type (side_of place u)) s ≡ after_side k op place u s
after_by_type k None place u s = refl
after_by_type k (Some op) place u s =
    compared_by_type k op (side_place place s.frame.side) place (side_type s.frame.side) u s

pub ruleset sides = (compared_by_type, after_by_type)
