use Rattle.std.proofs.Common.{◌≡◌, Option, Some, refl, sym, ◌∙◌, subst}
use Rattle.std.specs.Option.{IsSome}
use Rattle.fort_base.specs.declared.ids.DeclId.{DeclId}
use Rattle.fort_machine.specs.Calls.{Dispatches}
use Rattle.fort_disp.proofs.Bools.{one_some}
use Rattle.fort_disp.proofs.finding.pick.Goals as goal

pub unwrap-requires : goal.unwrap-requires
unwrap-requires g c =
    subst (λ (o : Option DeclId). IsSome o)
    (sym (c.found.ensures.runs c.requires.runs.0 c.requires.runs.1 c.requires.runs.2)) refl

pub returns-clause-runs : goal.returns-clause-runs
returns-clause-runs g c =
    let e : c.found.result ≡ Some c.requires.runs.0 =
    c.found.ensures.runs c.requires.runs.0 c.requires.runs.1 c.requires.runs.2 in
    let s = one_some c.requires.runs.0 c.unwrap.result (sym e ∙ c.unwrap.ensures) in (
      c.requires.runs.1,
      subst (λ
          (d : DeclId). Dispatches c.args.tables.now.program.now c.args.set c.args.values.now d
          c.requires.runs.1) s c.requires.runs.2,
    )
