-- No component that has a hierarchy neither has members, nor breaks a rule on fields.
use Rattle.std.proofs.Common.{map, refl}
use Rattle.fort_base.specs.declared.rules.TheConstants.{DUPLICATE_MEMBER}
use Rattle.fort_tree_type_names.specs.TypeNames.{type_names}
use Rattle.fort_hier.specs.Hierarchies.{declares, places_of}
use Rattle.fort_hier.specs.Laws.{AcceptedIsSound}
use Rattle.fort_types_sets.specs.Leaves.{leaves_of}
use Rattle.fort_member_fields.specs.Own.{own_fields, variables_of}
use Rattle.fort_member_fields.specs.Rules.{Broken, duplicate}
use Rattle.fort_member_fields.specs.Walks.{count_of}
use Rattle.fort_member_fields.proofs.ComponentLaws.{own_long, fewer_places, has_high}
use Rattle.fort_member_fields.proofs.HeightLaws.{heights_fall}
use Rattle.fort_member_fields.proofs.OnceLaws.{all_are}
use Rattle.fort_member.specs.Answers.{all_places}
use Rattle.fort_member.specs.Declarations.{entries_of}
use Rattle.fort_member.specs.Sets.{sets_of}
use Rattle.fort_front_law_decided.specs.Phases.{FieldsDecide}
use Rattle.fort_front_law_decided.proofs.Order.{none_reported}
use Rattle.fort_front_law_decided.proofs.Gathered.{can_have_all}

pub members_or_report : AcceptedIsSound → FieldsDecide
members_or_report sound c h is none unbroken =
    let kept = none_reported (Broken c)
    (λ rule p e l. unbroken (record { 0 = rule }, p, record { earliest = e; lowest = l })) in
    let fall = heights_fall (declares c) h.table is.rows (sound c (type_names c) h is) in
    can_have_all (declares c) (own_fields c) (map count_of h.table.below) fall (own_long c) (λ r.
    none (
      record {
        places = all_places c;
        objects = leaves_of (declares c);
        fields = r.0;
        sets = sets_of (entries_of c);
        variables = variables_of c;
      },
      record {
        places = refl;
        objects = refl;
        fields = record {
          kept = kept;
          fields = all_are (declares c) (own_fields c) (places_of c) (fewer_places c) (has_high c)
              (λ p d. kept DUPLICATE_MEMBER.0 p (duplicate refl d)) r.0 (own_long c) r.1;
        };
        sets = refl;
        variables = refl;
      },
    ))
