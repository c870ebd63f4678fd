-- A component has one list of its places, fields, sets and variables.
use Rattle.std.proofs.Common.{◌≡◌, Bool, List, Option, sym, ap, ◌∙◌}
use Rattle.fort_base.specs.declared.refusal.Place.{Place}
use Rattle.fort_hier.specs.Hierarchies.{declares}
use Rattle.fort_types_sets.specs.declared.field.Field.{Field}
use Rattle.fort_types_sets.specs.declared.member.MemberSet.{MemberSet}
use Rattle.fort_types_sets.specs.declared.member.Members.{Members}
use Rattle.fort_member_fields.specs.Own.{own_fields}
use Rattle.fort_front_law_phases.specs.Phases.{OneMembership}
use Rattle.fort_front_law_phases.proofs.Fields.{fields_once}

abbrev members : List (Option Place) → List Bool → List (List Field) → List MemberSet → List Field
    → Members
members p o f s v = record { places = p; objects = o; fields = f; sets = s; variables = v }

same : (m n : Members) → m.places ≡ n.places → m.objects ≡ n.objects → m.fields ≡ n.fields
    → m.sets ≡ n.sets → m.variables ≡ n.variables → m ≡ n
same m n p o f s v = ap (λ z. members z m.objects m.fields m.sets m.variables) p
    ∙ ap (λ z. members n.places z m.fields m.sets m.variables) o
    ∙ ap (λ z. members n.places n.objects z m.sets m.variables) f
    ∙ ap (λ z. members n.places n.objects n.fields z m.variables) s
    ∙ ap (λ z. members n.places n.objects n.fields n.sets z) v

pub members_once : OneMembership
members_once c m n a b = same m n (a.places ∙ sym b.places) (a.objects ∙ sym b.objects)
    (fields_once (declares c) (own_fields c) m.fields n.fields a.fields.fields b.fields.fields)
    (a.sets ∙ sym b.sets) (a.variables ∙ sym b.variables)
