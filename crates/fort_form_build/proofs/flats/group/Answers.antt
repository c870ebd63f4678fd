use Rattle.std.proofs.Common.{◌≡◌, ◌+◌, List, [], ◌∷◌, ◌++◌, Option, Some, None, true, false, refl, sym, ap, ◌∙◌, length, arith}
use Rattle.std.specs.Prelude.{map, option_map}
use Rattle.std.proofs.lemmas.List.{length-map}
use Rattle.fort_ops.specs.declared.op.Op.{Op}
use Rattle.fort_form.specs.declared.form.Form.TheVariants as a_form
use Rattle.fort_form_meaning.specs.Forming.{begins}
use Rattle.fort_tree.specs.declared.grouped.Grouped.{Grouped, out-Grouped}
use Rattle.fort_form_tasks.specs.Tasks.{formed_group, formed_unit, group_at}
use Rattle.fort_form_build.proofs.Giving.{named_as, one}
use Rattle.fort_form_tasks.proofs.Inside.{in-Unit, in-Binary, in-Chain, in-Juxt}
use Rattle.fort_form_build.proofs.Groupings.{groups-Unit, groups-Binary, groups-Chain, groups-Juxt}
use Rattle.fort_form_build.proofs.flats.group.Goals as goal

pub returns-in_ok-take-in-Unit : goal.returns-in_ok-take-in-Unit
returns-in_ok-take-in-Unit c =
    λ k. named_as (one _ c.in_ok-take-in-Unit.ensures) (ap (λ
    (x : Grouped). group_at k c.args.flat.now (out-Grouped x)) c.in-Unit.is
    ∙ in-Unit k _ _) (ap (formed_group k c.args.flat.now) c.in-Unit.is ∙ groups-Unit _ _ _)

pub returns-in_ok-binary-in-Binary : goal.returns-in_ok-binary-in-Binary
returns-in_ok-binary-in-Binary c =
    λ k. named_as (c.in_ok-binary-in-Binary.ensures _ _) (ap (λ
    (x : Grouped). group_at k c.args.flat.now (out-Grouped x)) c.in-Binary.is
    ∙ in-Binary k _ _ _ _) (ap (formed_group k c.args.flat.now) c.in-Binary.is
    ∙ groups-Binary _ _ _ _ _)

pub returns-in_ok-chain-in-Chain : goal.returns-in_ok-chain-in-Chain
returns-in_ok-chain-in-Chain c =
    λ k. named_as
    (c.in_ok-chain-in-Chain.ensures (map (formed_group k c.args.flat.now) c.in-Chain.parts)
    (length-map c.in-Chain.parts (formed_group k c.args.flat.now) ∙ sym c.len.ensures)) (ap (λ
    (x : Grouped). group_at k c.args.flat.now (out-Grouped x)) c.in-Chain.is
    ∙ in-Chain k _ _ _) (ap (formed_group k c.args.flat.now) c.in-Chain.is
    ∙ groups-Chain _ _ _ _ ∙ ap (λ
    (ops : List Op). a_form.Chain
    (begins (map (formed_group k c.args.flat.now) c.in-Chain.parts)) ops
    (map (formed_group k c.args.flat.now) c.in-Chain.parts)) (sym c.as_slice.ensures))

pub returns-in_ok-beside-in-Juxt : goal.returns-in_ok-beside-in-Juxt
returns-in_ok-beside-in-Juxt c =
    λ k. named_as
    (c.in_ok-beside-in-Juxt.ensures (map (formed_unit k c.args.flat.now) c.in-Juxt.units)
    (length-map c.in-Juxt.units (formed_unit k c.args.flat.now) ∙ sym c.len-in-Juxt.ensures))
    (ap (λ (x : Grouped). group_at k c.args.flat.now (out-Grouped x)) c.in-Juxt.is
    ∙ in-Juxt k _ _) (ap (formed_group k c.args.flat.now) c.in-Juxt.is ∙ groups-Juxt _ _ _)
