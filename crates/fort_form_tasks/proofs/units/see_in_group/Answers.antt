use Rattle.std.proofs.Common.{ℕ, List, [], ◌∷◌, ap, ◌∙◌}
use Rattle.std.specs.Prelude.{map}
use Rattle.fort_tree.specs.declared.grouped.Grouped.{Grouped, out-Grouped}
use Rattle.fort_form_tasks.specs.Tasks.{formed_group, formed_unit, group_at}
use Rattle.fort_form_tasks.proofs.Inside.{in-Unit, in-Binary, in-Chain, in-Juxt}
use Rattle.fort_form_tasks.proofs.Steps.{by, one_seen, two_seen}
use Rattle.fort_form_tasks.proofs.units.see_in_group.Goals as goal

pub returns-in_ok-see_unit-in-Unit : goal.returns-in_ok-see_unit-in-Unit
returns-in_ok-see_unit-in-Unit c =
    λ k. one_seen k (c.in_ok-see_unit-in-Unit.ensures k) (ap (λ
    (x : Grouped). group_at k c.args.flat.now (out-Grouped x)) c.in-Unit.is ∙ in-Unit k _ _)

pub returns-in_ok-see-in-Binary-2 : goal.returns-in_ok-see-in-Binary-2
returns-in_ok-see-in-Binary-2 c =
    λ k. two_seen k _ _ (by k (λ
    (x : Grouped). formed_group k c.args.flat.now x ∷ []) c.get.ensures
    (c.in_ok-see-in-Binary.ensures k)) (by k (λ
    (x : Grouped). formed_group k c.args.flat.now x ∷ []) c.get-in-Binary.ensures
    (c.in_ok-see-in-Binary-2.ensures k)) (ap (λ
    (x : Grouped). group_at k c.args.flat.now (out-Grouped x)) c.in-Binary.is
    ∙ in-Binary k _ _ _ _)

pub returns-in_ok-see_groups-in-Chain : goal.returns-in_ok-see_groups-in-Chain
returns-in_ok-see_groups-in-Chain c =
    λ k. one_seen k (by k (λ
    (l : List Grouped). map (formed_group k c.args.flat.now) l) c.as_slice.ensures
    (c.in_ok-see_groups-in-Chain.ensures k)) (ap (λ
    (x : Grouped). group_at k c.args.flat.now (out-Grouped x)) c.in-Chain.is ∙ in-Chain k _ _ _)

pub returns-in_ok-see_units-in-Juxt : goal.returns-in_ok-see_units-in-Juxt
returns-in_ok-see_units-in-Juxt c =
    λ k. one_seen k (by k (λ
    (l : List ℕ). map (formed_unit k c.args.flat.now) l) c.as_slice-in-Juxt.ensures
    (c.in_ok-see_units-in-Juxt.ensures k)) (ap (λ
    (x : Grouped). group_at k c.args.flat.now (out-Grouped x)) c.in-Juxt.is ∙ in-Juxt k _ _)
