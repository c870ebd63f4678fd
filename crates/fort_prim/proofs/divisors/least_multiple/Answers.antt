use Rattle.std.proofs.Common.{◌≡◌, ◌∙◌, ap, sym, pos, rules, unsigned_abs}
use Rattle.std.specs.Int.{w64}
use Rattle.fort_machine.specs.Numbers.{number, within}
use Rattle.fort_prim.proofs.DivisorLaws.{no_multiple, least_multiple_is, beyond}
use Rattle.fort_prim.proofs.divisors.least_multiple.Goals as goal

pub returns-then-divisor-eq0 : goal.returns-then-divisor-eq0
returns-then-divisor-eq0 c =
    let left : c.unsigned_abs-left.result ≡ unsigned_abs c.args.a = search rules in
    let right : c.unsigned_abs-right.result ≡ unsigned_abs c.args.b = search rules in
    ap (λ n. within w64 (number (pos n)))
    (sym (no_multiple _ _ _ _ _ left right c.common_divisor-divisor.ensures
    c.if-divisor-eq0.true))

pub returns-in-Some : goal.returns-in-Some
returns-in-Some c =
    let left : c.unsigned_abs-left.result ≡ unsigned_abs c.args.a = search rules in
    let right : c.unsigned_abs-right.result ≡ unsigned_abs c.args.b = search rules in
    let whole =
    least_multiple_is _ _ _ _ _ left right c.common_divisor-divisor.ensures
    c.if-divisor-eq0.false in
    c.natural.ensures ∙ ap (λ n. within w64 (number (pos n))) (c.in-Some.ensures.1 ∙ sym whole)

pub returns-in-None : goal.returns-in-None
returns-in-None c =
    let left : c.unsigned_abs-left.result ≡ unsigned_abs c.args.a = search rules in
    let right : c.unsigned_abs-right.result ≡ unsigned_abs c.args.b = search rules in
    let whole =
    least_multiple_is _ _ _ _ _ left right c.common_divisor-divisor.ensures
    c.if-divisor-eq0.false in
    beyond _ c.in-None.ensures ∙ ap (λ n. within w64 (number (pos n))) (sym whole)
