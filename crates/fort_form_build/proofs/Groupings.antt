-- The form of a part of a flat expression, as one node of its grouping.
use Rattle.std.proofs.Common.{◌≡◌, ℕ, List, map, rules}
use Rattle.fort_ops.specs.declared.op.Op.{Op}
use Rattle.fort_form.specs.declared.form.Form.{Form}
use Rattle.fort_tree.specs.declared.grouped.Grouped.{Grouped, the_lemmas}
use Rattle.fort_tree.specs.declared.grouped.Grouped as a_grouping
use Rattle.fort_tree.specs.declared.grouped.Grouped.TheOpen.{Grouped-F}
use Rattle.fort_form_meaning.specs.Forming.{form_grouped, grouped}

pub groups-Unit : (first : Form) (rest : List Form) (n : ℕ)
    → grouped first rest (a_grouping.Unit n) ≡ form_grouped first rest (Grouped-F.Unit n)
unfolding grouped
groups-Unit first rest n = search (rules, the_lemmas)

pub groups-Binary : (first : Form) (rest : List Form) (op : Op) (left right : Grouped)
    → grouped first rest (a_grouping.Binary op left right)
    ≡ form_grouped first rest
    (Grouped-F.Binary op (grouped first rest left) (grouped first rest right))
unfolding grouped
groups-Binary first rest op left right = search (rules, the_lemmas)

pub groups-Chain : (first : Form) (rest : List Form) (ops : List Op) (parts : List Grouped)
    → grouped first rest (a_grouping.Chain ops parts)
    ≡ form_grouped first rest (Grouped-F.Chain ops (map (grouped first rest) parts))
unfolding grouped
groups-Chain first rest ops parts = search (rules, the_lemmas)

pub groups-Juxt : (first : Form) (rest : List Form) (units : List ℕ)
    → grouped first rest (a_grouping.Juxt units) ≡ form_grouped first rest (Grouped-F.Juxt units)
unfolding grouped
groups-Juxt first rest units = search (rules, the_lemmas)
