use Rattle.std.proofs.Common.{◌≡◌, ◌<◌, ◌-◌, length, drop, take, ℕ, ◌∙◌, List, arith, subst, sym, ap, length-drop, false}
use Rattle.fort_lex_scan.specs.declared.word.Read.{Read}
use Rattle.fort_lex_scan.specs.Words.{word_of}
use Rattle.fort_lex_scan.specs.Gaps.{opens}
use Rattle.fort_lex_scan.proofs.Chains.{rest_is}
use Rattle.fort_lex_scan.proofs.WordLaws.{WordIs, word_is}
use Rattle.fort_lex_scan.proofs.Theorem.{broken_is, open_is, next_is, stuck_is}
use Rattle.fort_lex_scan.proofs.step.next_step.Goals as goal

at_word : (text : List ℕ) (n : ℕ) (read r : Read)
    → read ≡ word_of (take (length text - n) (drop n text)) → n < length text
    → opens (drop n text) ≡ false → read ≡ r → WordIs (drop n text) r
at_word text n read r e l o i =
    subst (WordIs (drop n text)) (sym (e ∙ ap word_of (rest_is n text))
    ∙ i) (word_is (drop n text) (let d = length-drop n text in omega arith) o)

pub overflow_add-result : goal.overflow_add-result
overflow_add-result c =
    let text = c.args.text.now in
    let n = c.in-Ok.n in
    let f = c.in-Ok.ensures in
    let l = f.gap.1 in
    let is = at_word text n c.word_of.result _ c.word_of.ensures (omega arith) f.apart c.in-Fault.is
    in
    let m = is.3 in let d = length-drop n text in omega arith

pub returns-in-Err : goal.returns-in-Err
returns-in-Err c =
    let u = c.in-Err.ensures.unclosed in
    open_is c.args.text.now c.in-Err.n u.0 u.2 u.1

pub returns-in-Fault : goal.returns-in-Fault
returns-in-Fault c =
    let text = c.args.text.now in
    let n = c.in-Ok.n in
    let f = c.in-Ok.ensures in
    let l = f.gap.1 in
    broken_is text n c.in-Fault.k c.in-Fault.rule f.gap.0 l
    (at_word text n c.word_of.result _ c.word_of.ensures (omega arith) f.apart c.in-Fault.is)

pub returns-in-Stuck : goal.returns-in-Stuck
returns-in-Stuck c =
    let text = c.args.text.now in
    let n = c.in-Ok.n in
    let f = c.in-Ok.ensures in
    let l = f.gap.1 in
    stuck_is text n c.in-Stuck.len f.gap.0 l
    (at_word text n c.word_of.result _ c.word_of.ensures (omega arith) f.apart c.in-Stuck.is)

pub returns-in-Whole : goal.returns-in-Whole
returns-in-Whole c =
    let text = c.args.text.now in
    let n = c.in-Ok.n in
    let f = c.in-Ok.ensures in
    let l = f.gap.1 in
    next_is text n c.in-Whole.len c.in-Whole.shape f.gap.0 l
    (at_word text n c.word_of.result _ c.word_of.ensures (omega arith) f.apart c.in-Whole.is)
