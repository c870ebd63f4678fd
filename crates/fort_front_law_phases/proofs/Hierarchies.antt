-- A component has one hierarchy.
use Rattle.std.proofs.Common.{◌≡◌, ℕ, Bool, List, Option, length, sym, ap, ◌∙◌}
use Rattle.fort_base.specs.declared.table.TypeTable.{TypeTable}
use Rattle.fort_types.specs.Hierarchy.{DeclaredTypes, Path, DeclaredApart}
use Rattle.fort_types.specs.Table.{HasRows}
use Rattle.fort_hier.specs.declared.accepted.Hierarchy.{Hierarchy}
use Rattle.fort_hier.specs.Hierarchies.{declares}
use Rattle.fort_front_law_phases.specs.Phases.{OneHierarchy}
use Rattle.fort_front_law_phases.proofs.Rows.{same_rows}

abbrev table : List (List Bool) → List (List Bool) → TypeTable
table b a = record { below = b; apart = a }

one_table : (h : DeclaredTypes) (t u : TypeTable) → HasRows h t → HasRows h u → t ≡ u
one_table h t u a b =
    ap (λ z. table z t.apart) (same_rows (Path h) (length h) t.below u.below a.below b.below)
    ∙ ap (λ z. table u.below z)
    (same_rows (DeclaredApart h) (length h) t.apart u.apart a.apart b.apart)

abbrev hierarchy : TypeTable → List (List ℕ) → List (Option ℕ) → Hierarchy
hierarchy t n b = record { table = t; names = n; bodies = b }

same : (h g : Hierarchy) → h.table ≡ g.table → h.names ≡ g.names → h.bodies ≡ g.bodies → h ≡ g
same h g t n b =
    ap (λ z. hierarchy z h.names h.bodies) t ∙ ap (λ z. hierarchy g.table z h.bodies) n
    ∙ ap (λ z. hierarchy g.table g.names z) b

pub hierarchy_once : OneHierarchy
hierarchy_once c h g a b =
    same h g (one_table (declares c) h.table g.table a.rows b.rows) (a.names
    ∙ sym b.names) (a.bodies ∙ sym b.bodies)
