use Rattle.std.proofs.Common.{ap, sym, ◌∙◌}
use Rattle.fort_core.specs.declared.program.CoreBody.TheVariants as body
use Rattle.fort_sound_tables.proofs.calls.takes_text.Goals as goal

pub returns-then-same_types : goal.returns-then-same_types
returns-then-same_types c ok = record {
  declared = c.in-Some.declared.now;
  is_decl = sym c.in-Some.ensures.value;
  takes = c.same_types.ensures c.if-same_types.true;
  text = c.in-Plain.is
      ∙ ap (λ t. body.Plain t) (sym c.get-then-same_types.ensures ∙ c.same.ensures.0 ok);
}
