use Rattle.std.proofs.Common.{arith, drop, suc, get_or, ◌+◌, ◌*◌, ◌-◌}
use Rattle.fort_lex_scan.proofs.Digits.{decimal_grows, decimal_large, decimal_next}
use Rattle.fort_lex_scan.proofs.word.number.Goals as goal

pub returns-then-n : goal.returns-then-n
returns-then-n c =
    let l = c.loop-i in let h = decimal_large l.n l.i c.args.digits.now (omega arith) (omega arith)
    in let e = l.invariant.0 in omega arith

pub returns-then-n-gt-MAX_NUMBER : goal.returns-then-n-gt-MAX_NUMBER
returns-then-n-gt-MAX_NUMBER c =
    let l = c.loop-i in
    let d = c.index-digits-i.result in
    let e = decimal_next l.n l.i d c.args.digits.now (omega arith) in
    let h = decimal_grows (l.n * 10 + (get_or c.args.digits.now l.i d - 48))
    (drop (suc l.i) c.args.digits.now) in
    let f = l.invariant.0 in
    let g = c.index-digits-i.is in omega arith
