use Rattle.std.proofs.lemmas.Result.{IfOk-weaker}
use Rattle.fort_sound_tables.proofs.types.types_stand.Goals as goal

pub returns : goal.returns
returns c =
    IfOk-weaker c.has_fields.result _ _
    (λ b h ok. record {
      single = c.is_refusal.ensures c.if-not-is_refusal.false;
      fields = h ok;
      alone = c.stands_alone.ensures c.if-not-stands_alone.false;
      exception = c.has_exception.ensures c.if-not-has_exception.false;
    })
    c.has_fields.ensures
