use Rattle.std.proofs.Common.{◌≡◌, ℕ, suc, ◌-◌, ◌<◌, ap, arith}
use Rattle.fort_parse.specs.Runs.{run_at}
use Rattle.fort_parse.proofs.runs.+run.Goals as goal

deeper : {X : Type 0} (f : ℕ → X) (n : ℕ) → 0 < n → f n ≡ f (suc (n - 1))
deeper f n some = let e : n ≡ suc (n - 1) = omega arith in ap f e

pub returns-then-depth-eq0 : goal.returns-then-depth-eq0
unfolding run_at
returns-then-depth-eq0 t c _ =
    let none : c.args.depth ≡ 0 = omega arith
    in ap (λ n. (run_at c.args.names.now n c.args.blocks).parser.run c.args.tokens.now) none

pub returns : goal.returns
unfolding run_at
returns t c =
    rw (deeper (λ n. (run_at c.args.names.now n c.args.blocks).parser.run c.args.tokens.now)
    c.args.depth (omega arith)) c.run_level.ensures
