-- No component neither has a hierarchy, nor breaks a rule on types.
use Rattle.std.proofs.Common.{◌++◌, None, length, map, refl}
use Rattle.std.specs.Prelude.{replicate}
use Rattle.fort_types.specs.Hierarchy.{Path, DeclaredApart}
use Rattle.fort_tree_type_names.specs.TypeNames.{type_names}
use Rattle.fort_types_builtin.specs.declared.types.TheConstants.{TYPE_COUNT}
use Rattle.fort_hier.specs.Heads.{heads_of, head_body}
use Rattle.fort_hier.specs.Hierarchies.{Broken, declares}
use Rattle.fort_hier.specs.Numbers.{declared_types}
use Rattle.fort_front_law_decided.specs.Phases.{HierarchyDecides}
use Rattle.fort_front_law_decided.proofs.Order.{none_reported}
use Rattle.fort_front_law_decided.proofs.Claims.{has_rows}

pub hierarchy_or_report : HierarchyDecides
hierarchy_or_report c few none unbroken =
    has_rows (Path (declares c)) (length (declares c)) (λ below.
    has_rows (DeclaredApart (declares c)) (length (declares c)) (λ apart. none (
      record {
        table = record { below = below.0; apart = apart.0 };
        names = declared_types c.names (heads_of c);
        bodies = replicate TYPE_COUNT None ++ map head_body (heads_of c);
      },
      record {
        kept = none_reported (Broken c (type_names c))
            (λ rule p e l. unbroken (
              record { 0 = rule },
              p,
              record { earliest = e; lowest = l },
            ));
        rows = record { below = below.1; apart = apart.1 };
        names = refl;
        bodies = refl;
        few = few;
      },
    )))
