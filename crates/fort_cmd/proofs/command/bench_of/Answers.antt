use Rattle.std.proofs.Common.{◌≡◌, rules, arith, sym, ◌∙◌}
use Rattle.std.specs.Str.Parse.{ParsesUnsigned, ExplainsUnsignedError, HasUnsignedDigitsIfOk}
use Rattle.clap.specs.Matches.{found_of}
use Rattle.fort_cmd.proofs.Matched.{bank_is, no_bank}
use Rattle.fort_cmd.proofs.Rows.{some_injective}
use Rattle.fort_cmd.proofs.command.bench_of.Goals.{in_default-via-in-Some+then-accounts-ge1+else-accounts-le-MOST_ACCOUNTS, in_default-via-in-Some+else-accounts-ge1, in_default-via-in_default}
use Rattle.fort_cmd.proofs.command.bench_of.Goals as goal

pub returns-in-Some-clause-ok : goal.returns-in-Some-clause-ok
returns-in-Some-clause-ok c = λ behind r.
    bank_is _ (λ bs x. ParsesUnsigned 32 10 bs x × ExplainsUnsignedError 10 bs x
    × HasUnsignedDigitsIfOk bs x) 32 (λ word x g. g.0) (found_of c.args.given.now)
    c.get_one.result
    behind r c.get_one.ensures.value (omega arith) c.in-Some.accounts (search rules) (search rules)
    (search rules)

pub returns-in_default-clause-cause : goal.returns-in_default-clause-cause
returns-in_default-clause-cause c = λ behind r.
    no_bank _ (λ bs x. ParsesUnsigned 32 10 bs x × ExplainsUnsignedError 10 bs x
    × HasUnsignedDigitsIfOk bs x) 32 (λ word x g. g.0) (found_of c.args.given.now)
    c.get_one.result
    behind r c.get_one.ensures.value (omega arith)
    (λ n e least most. elim c.in_default.branch [
      | in_default-via-in-Some+then-accounts-ge1+else-accounts-le-MOST_ACCOUNTS w ↦
          let same : w.in-Some.accounts ≡ n =
          some_injective w.in-Some.accounts n (sym w.in-Some.is ∙ e) in
          omega (arith, same, most, w.if-accounts-le-MOST_ACCOUNTS.false)
      | in_default-via-in-Some+else-accounts-ge1 w ↦
          let same : w.in-Some.accounts ≡ n =
          some_injective w.in-Some.accounts n (sym w.in-Some.is ∙ e) in
          omega (arith, same, least, w.if-accounts-ge1.false)
      | in_default-via-in_default w ↦ w.in_default.not-Some n e
    ])
