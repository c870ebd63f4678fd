use Rattle.std.proofs.lemmas.Result.{IfOk-weaker}
use Rattle.fort_cmd.proofs.Leaves.{added}
use Rattle.fort_cmd.proofs.line.line.Goals as goal

pub returns : goal.returns
returns c =
    let one =
    added _ _ _ _ _ c.in_ok-subcommand.ensures c.quiet.ensures c.in_ok-check.ensures.local
    c.in_ok-check.ensures.app in
    let two =
    added _ _ _ _ _ c.in_ok-subcommand-2.ensures one c.in_ok-show.ensures.local
    c.in_ok-show.ensures.app in
    let three =
    added _ _ _ _ _ c.in_ok-subcommand-3.ensures two c.in_ok-run.ensures.local
    c.in_ok-run.ensures.app in
    let four =
    added _ _ _ _ _ c.in_ok-subcommand-4.ensures three c.in_ok-bench.ensures.local
    c.in_ok-bench.ensures.app in
    let five =
    added _ _ _ _ _ c.in_ok-subcommand-5.ensures four c.in_ok-record.ensures.local
    c.in_ok-record.ensures.app in
    let six =
    added _ _ _ _ _ c.in_ok-subcommand-6.ensures five c.in_ok-audit.ensures.local
    c.in_ok-audit.ensures.app in
    IfOk-weaker c.subcommand-7.result _ _
    (λ r h. added _ _ _ _ _ h six c.in_ok-link.ensures.local c.in_ok-link.ensures.app)
    c.subcommand-7.ensures
