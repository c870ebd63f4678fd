use Rattle.std.proofs.Common.{ap, sym, ◌∙◌}
use Rattle.fort_core.specs.declared.program.CoreBody.TheVariants as body
use Rattle.fort_sound_tables.proofs.CallsRun.{same_type}
use Rattle.fort_sound_tables.proofs.check.makes_threads.Goals as goal

pub returns-then-ty-x : goal.returns-then-ty-x
returns-then-ty-x c ok = record {
  made = c.in-Some.made.now;
  make = c.has_one.ensures ok c.in-Some.made.now (sym c.in-Some.ensures.value);
  makes = c.in-New.is ∙ ap (λ t. body.New t) (same_type _ _ c.if-ty-x.true);
}
