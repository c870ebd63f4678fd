use Rattle.std.proofs.Common.{ap, sym, ◌∙◌}
use Rattle.fort_core.specs.declared.program.CoreBody.TheVariants as body
use Rattle.fort_sound_tables.proofs.calls.is_primitive.Goals as goal

pub returns-in-Primitive : goal.returns-in-Primitive
returns-in-Primitive c ok = (
  c.in-Some.declared.now,
  sym c.in-Some.ensures.value,
  c.in-Primitive.is ∙ ap (λ f. body.Primitive f) (c.is_same.ensures ok),
)
