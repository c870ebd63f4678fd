use Rattle.std.proofs.Common.{◌≡◌, false, true, refl, sym, ◌∙◌}
use Rattle.std.proofs.lemmas.Option.{slice_get_read}
use Rattle.fort_member_fields.proofs.GatherLaws.{inherits_held, inherits_new, inherits_all}
use Rattle.fort_member_fields.proofs.gathering.Gathering.inherit.Goals as goal

pub loop-field-preserved-then-is_held : goal.loop-field-preserved-then-is_held
loop-field-preserved-then-is_held c = (
  c.loop-field.invariant.0,
  λ further g. inherits_held c.args.own.now further c.args.fields.now c.loop-field.self.fields
      c.loop-field.field-index c.field-item.result
      (slice_get_read _ _ _ _ refl c.loop-field-test.true c.field-item.is)
      (c.is_held.ensures.0 c.if-is_held.true) (c.loop-field.invariant.1 further g),
)

pub loop-field-preserved : goal.loop-field-preserved
loop-field-preserved c = (
  c.in_ok-push.ensures.knows c.loop-field.invariant.0,
  λ further g. inherits_new c.args.own.now further c.args.fields.now c.loop-field.self.fields _
      c.loop-field.field-index c.field-item.result
      (slice_get_read _ _ _ _ refl c.loop-field-test.true c.field-item.is) (λ w. let e =
      c.is_held.ensures.1 w in let f : false ≡ true = sym c.if-is_held.false ∙ e in cc)
      c.in_ok-push.ensures.pushed (c.loop-field.invariant.1 further g),
)

pub returns-clause-gathers : goal.returns-clause-gathers
returns-clause-gathers c =
    λ further g. inherits_all c.args.own.now further c.args.fields.now _ c.loop-field.field-index
    c.loop-field-test.false (c.loop-field.invariant.1 further g)
