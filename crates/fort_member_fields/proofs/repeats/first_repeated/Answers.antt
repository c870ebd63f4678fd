use Rattle.std.proofs.Common.{◌≡◌, false, true, refl, sym, ◌∙◌, subst, take}
use Rattle.std.proofs.lemmas.Option.{slice_get_read}
use Rattle.fort_member_fields.specs.Walks.{HoldsNames}
use Rattle.fort_member_fields.proofs.Items.{taken_more}
use Rattle.fort_member_fields.proofs.RepeatLaws.{repeated_same, repeated_more, repeated_all}
use Rattle.fort_member_fields.proofs.repeats.first_repeated.Goals as goal

pub loop-field-preserved-then-not-branch : goal.loop-field-preserved-then-not-branch
loop-field-preserved-then-not-branch c =
    let e = slice_get_read c.args.fields.now _ c.loop-field.field-index c.field-item.result refl
    c.loop-field-test.true c.field-item.is in (
      subst (λ z. HoldsNames z c.add_name.new.seen)
          (taken_more c.args.fields.now c.loop-field.field-index c.field-item.result e)
          (c.in_ok-add_name.ensures.held (take c.loop-field.field-index c.args.fields.now)
          c.field-item.result c.loop-field.invariant.0 refl),
      repeated_same c.args.fields.now c.loop-field.field-index c.field-item.result c.loop-field.best e
          (λ w. let q =
          (c.in_ok-add_name.ensures.stood (take c.loop-field.field-index c.args.fields.now)
          c.loop-field.invariant.0).1 w in let f : false ≡ true = sym c.if-not-branch.true ∙ q
          in cc)
          c.loop-field.invariant.1,
    )

pub loop-field-preserved : goal.loop-field-preserved
loop-field-preserved c =
    let e = slice_get_read c.args.fields.now _ c.loop-field.field-index c.field-item.result refl
    c.loop-field-test.true c.field-item.is in (
      subst (λ z. HoldsNames z c.add_name.new.seen)
          (taken_more c.args.fields.now c.loop-field.field-index c.field-item.result e)
          (c.in_ok-add_name.ensures.held (take c.loop-field.field-index c.args.fields.now)
          c.field-item.result c.loop-field.invariant.0 refl),
      repeated_more c.args.fields.now c.loop-field.field-index c.field-item.result c.loop-field.best
          c.earlier-best.result e
          ((c.in_ok-add_name.ensures.stood (take c.loop-field.field-index c.args.fields.now)
          c.loop-field.invariant.0).0 c.if-not-branch.false)
          c.earlier-best.ensures c.loop-field.invariant.1,
    )

pub returns : goal.returns
returns c =
    repeated_all c.args.fields.now c.loop-field.field-index c.loop-field.best
    c.loop-field-test.false c.loop-field.invariant.1
