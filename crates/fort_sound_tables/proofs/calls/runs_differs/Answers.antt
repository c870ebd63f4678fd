use Rattle.std.proofs.Common.{◌≡◌, true, false, refl, sym, ◌∙◌}
use Rattle.fort_sound_tables.proofs.CallsRun.{differs_by}
use Rattle.fort_sound_tables.proofs.calls.runs_differs.Goals as goal
use Rattle.fort_sound_tables.proofs.calls.runs_differs.Goals.{then-is_primitive, else-is_primitive, then-runs, else-runs}

pub returns-after-runs : goal.returns-after-runs
returns-after-runs c ok =
    elim c.if-runs.branch [
      | then-runs w ↦ elim c.if-is_primitive.branch [
        | then-is_primitive v ↦
            differs_by c.args.program.now c.args.set c.args.types.now c.in-Some.number c.requires
            (c.is_primitive.ensures v.if-is_primitive.true)
            (v.runs.ensures (sym v.value-is ∙ w.if-runs.true)) _ refl
            (w.takes_and_gives.ensures (sym w.result-is ∙ ok))
        | else-is_primitive v ↦
            let z : true ≡ false = sym w.if-runs.true ∙ v.value-is ∙ v.if-is_primitive.false in
            absurd cc
      ]
      | else-runs w ↦
          let z : true ≡ false = sym ok ∙ w.result-is ∙ w.if-runs.false in absurd cc
    ]
