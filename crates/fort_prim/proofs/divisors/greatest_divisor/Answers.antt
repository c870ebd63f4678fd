use Rattle.std.proofs.Common.{◌≡◌, ◌∙◌, ap, sym, pos, rules, unsigned_abs}
use Rattle.std.specs.Int.{w64}
use Rattle.fort_machine.specs.Numbers.{number, within}
use Rattle.fort_prim.proofs.DivisorLaws.{found_divisor}
use Rattle.fort_prim.proofs.divisors.greatest_divisor.Goals as goal

pub returns : goal.returns
returns c =
    let left : c.unsigned_abs.result ≡ unsigned_abs c.args.a = search rules in
    let right : c.unsigned_abs-2.result ≡ unsigned_abs c.args.b = search rules in
    c.natural.ensures
    ∙ ap (λ n. within w64 (number (pos n)))
    (sym (found_divisor _ _ _ _ _ left right c.common_divisor.ensures))
