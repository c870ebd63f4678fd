use Rattle.std.proofs.Common.{IfOk, subst, sym}
use Rattle.fort_run.specs.Reply.{CommandSays}
use Rattle.fort_run.specs.Tasks.{LeadsTo}
use Rattle.fort_run.proofs.reply.one_file.Goals as goal

pub returns-in-Run : goal.returns-in-Run
returns-in-Run c =
    subst (λ x. IfOk c.run_file.result (LeadsTo (CommandSays x c.args.text.now)))
    (sym c.in-Run.is) c.run_file.ensures

pub returns-in-Bench : goal.returns-in-Bench
returns-in-Bench c =
    subst (λ x. IfOk c.run_bank.result (LeadsTo (CommandSays x c.args.text.now)))
    (sym c.in-Bench.is) c.run_bank.ensures

pub returns-in-Record : goal.returns-in-Record
returns-in-Record c =
    subst (λ x. IfOk c.run_file-in-Record.result (LeadsTo (CommandSays x c.args.text.now)))
    (sym c.in-Record.is) c.run_file-in-Record.ensures
