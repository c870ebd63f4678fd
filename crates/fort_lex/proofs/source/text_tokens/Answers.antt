use Rattle.std.proofs.Common.{◌≡◌, ◌≤◌, ◌+◌, ◌-◌, length, drop, take, ℕ, ◌∙◌, List, arith, subst, ap, refl, length-drop, length-take}
use mathlib.Core.Logic.{inl, inr}
use Rattle.fort_lex_scan.specs.declared.step.Step.{Step}
use Rattle.fort_lex_scan.specs.Gaps.{mark}
use Rattle.fort_lex_scan.specs.Places.{place_at}
use Rattle.fort_lex_scan.specs.Steps.{StepIs}
use Rattle.fort_lex_scan.specs.Tokens.{with_mark}
use Rattle.fort_lex_scan.proofs.Chains.{rest_is}
use Rattle.fort_lex_scan.proofs.Theorem.{list_is, fault_is, stuck_fault, many_is, stuck_many}
use Rattle.fort_lex.proofs.ReadLaws.{read_more, count_read, few_read, scalars_part}
use Rattle.fort_lex.proofs.source.text_tokens.Goals as goal

step_is : (text : List ℕ) (at : ℕ) (result s : Step)
    → StepIs (take (length text - at) (drop at text)) result → result ≡ s → StepIs (drop at text) s
step_is text at result s h e =
    subst (StepIs (drop at text)) e (subst (λ t. StepIs t result) (rest_is at text) h)

pub returns-in-End : goal.returns-in-End
returns-in-End c =
    let l = c.loop-builder in
    let r = l.invariant.read in
    let text = c.args.text.now in
    let few = l.invariant.few in
    let n = count_read text l.from l.at l.builder r in (
      with_mark (mark text) r.ps,
      list_is text l.at r.ps r.chain (omega arith)
          (step_is text l.at c.next_step.result _ c.next_step.ensures c.in-End.is),
      c.finish.ensures (with_mark (mark text) r.ps) r.held,
    )

pub returns-in-Broken : goal.returns-in-Broken
returns-in-Broken c =
    let l = c.loop-builder in
    let r = l.invariant.read in
    let text = c.args.text.now in
    let few = l.invariant.few in
    let n = count_read text l.from l.at l.builder r in
    let e = c.place_at.ensures in
    let f = fault_is text l.at c.in-Broken.n r.ps c.in-Broken.rule l.invariant.within (omega arith)
    r.chain (step_is text l.at c.next_step.result _ c.next_step.ensures c.in-Broken.is) in
    inl (rw e f)

pub returns-then-len-eq-MOST_TOKENS : goal.returns-then-len-eq-MOST_TOKENS
returns-then-len-eq-MOST_TOKENS c =
    let l = c.loop-builder in
    let r = l.invariant.read in
    let text = c.args.text.now in
    let n = count_read text l.from l.at l.builder r in
    let e = c.place_at-then-len-eq-MOST_TOKENS.ensures in
    let f = stuck_many text l.at c.in-Stuck.gap c.in-Stuck.word r.ps l.invariant.within
    (omega arith) r.chain
    (step_is text l.at c.next_step.result _ c.next_step.ensures c.in-Stuck.is) in
    inr (refl, rw e f)

pub returns-in-Stuck : goal.returns-in-Stuck
returns-in-Stuck c =
    let l = c.loop-builder in
    let r = l.invariant.read in
    let text = c.args.text.now in
    let few = l.invariant.few in
    let n = count_read text l.from l.at l.builder r in
    let back : l.at + c.in-Stuck.gap + c.in-Stuck.word ≡ l.at + (c.in-Stuck.gap + c.in-Stuck.word) =
    omega arith in
    let e = c.place_at-in-Stuck.ensures ∙ ap (place_at text) back in
    let f = stuck_fault text l.at c.in-Stuck.gap c.in-Stuck.word r.ps l.invariant.within
    (omega arith) r.chain
    (step_is text l.at c.next_step.result _ c.next_step.ensures c.in-Stuck.is) in
    inl (rw e f)

pub returns-then-len-eq-MOST_TOKENS-2 : goal.returns-then-len-eq-MOST_TOKENS-2
returns-then-len-eq-MOST_TOKENS-2 c =
    let l = c.loop-builder in
    let r = l.invariant.read in
    let text = c.args.text.now in
    let n = count_read text l.from l.at l.builder r in
    let e = c.place_at-then-len-eq-MOST_TOKENS-2.ensures in
    let f = many_is text l.at c.in-Next.gap c.in-Next.word r.ps c.in-Next.shape l.invariant.within
    (omega arith) r.chain
    (step_is text l.at c.next_step.result _ c.next_step.ensures c.in-Next.is) in
    inr (refl, rw e f)

pub add-requires-clause-few : goal.add-requires-clause-few
add-requires-clause-few c =
    let l = c.loop-builder
    in few_read c.args.text.now l.from l.at l.builder l.invariant.read l.invariant.few

pub add-requires-clause-scalars : goal.add-requires-clause-scalars
add-requires-clause-scalars c =
    let l = c.loop-builder in
    scalars_part (l.at + c.in-Next.gap + c.in-Next.word - (l.at + c.in-Next.gap))
    (l.at + c.in-Next.gap) c.args.text.now c.requires.scalars

pub loop-builder-preserved : goal.loop-builder-preserved
loop-builder-preserved c =
    let l = c.loop-builder in
    let i = l.invariant in
    let text = c.args.text.now in
    let gap = c.in-Next.gap in
    let word = c.in-Next.word in
    let is = step_is text l.at c.next_step.result _ c.next_step.ensures c.in-Next.is in
    let read =
    read_more text l.from l.at gap word c.in-Next.shape l.builder c.add.new.self i.order
    i.within i.read is c.in_ok-add-in-Next.ensures.held in
    let d = length-drop l.at text in
    let w = is.within in
    let within : l.at + gap + word ≤ length text = (let o = i.within in omega arith) in
    let small = c.in_ok-add-in-Next.ensures.small in
    let a = length-take (l.at + gap - l.from) (drop l.from text) in
    let b = length-take (l.at + gap + word - (l.at + gap)) (drop (l.at + gap) text) in
    let old_small = i.small in
    let order = i.order in
    record {
      read = read;
      order = omega arith;
      within = within;
      small = omega arith;
      begun = c.in_ok-add-in-Next.ensures.begun;
      few = (let f = i.few in let g = c.in_ok-add-in-Next.ensures.one
          in let h = c.len-in-Next.ensures in let j = c.if-len-eq-MOST_TOKENS-2.false
          in omega arith);
    }
