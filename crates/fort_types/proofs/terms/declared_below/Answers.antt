use Rattle.std.proofs.Common.{◌≡◌, ◌≢◌, ◌∙◌, ap, false, true, List, Bool, eq-eqb}
use Rattle.fort_base.specs.declared.ids.TypeId.{TypeId}
use Rattle.fort_types.specs.Table.{is_set}
use Rattle.fort_types.proofs.Arms.{told_below, told_above}
use Rattle.fort_types.proofs.terms.declared_below.Goals as goal

pub returns-then-up : goal.returns-then-up
returns-then-up c =
    let other : c.args.a ≢ c.args.b = λ q. let f : false ≡ true =
    c.if-eq.ensures ∙ eq-eqb c.args.a.0 c.args.b.0 (ap (λ (z : TypeId). z.0) q) in cc in
    told_below _ _ _ _ _ c.if-up.true (c.set_at.ensures ∙ ap (λ
    (z : List (List Bool)). is_set z c.args.a.0 c.args.b.0) c.as_slice.ensures) other

pub returns-else-up : goal.returns-else-up
returns-else-up c =
    let other : c.args.a ≢ c.args.b = λ q. let f : false ≡ true =
    c.if-eq.ensures ∙ eq-eqb c.args.a.0 c.args.b.0 (ap (λ (z : TypeId). z.0) q) in cc in
    told_above _ _ _ _ _ c.if-up.false (c.set_at-else-up.ensures ∙ ap (λ
    (z : List (List Bool)). is_set z c.args.b.0 c.args.a.0) c.as_slice-else-up.ensures)
    other
