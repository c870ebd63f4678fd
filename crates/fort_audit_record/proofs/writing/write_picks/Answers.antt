use Rattle.std.proofs.Common.{rules, ◌≡◌, [], ◌∷◌, ◌++◌, subst, sym}
use Rattle.fort_core.specs.declared.pick.Pick.{Attempt, Step}
use Rattle.fort_audit_record.specs.Text.{picks_text}
use Rattle.fort_audit_record.proofs.Texts.{left_text, after_head, after_end, head_falls, end_falls, none_of, FitLeft, head_fits, end_fits, after_step, step_fits, all_fit}
use Rattle.fort_audit_record.proofs.writing.write_picks.Goals as goal

pub picks-smaller-in-Attempt : goal.picks-smaller-in-Attempt
picks-smaller-in-Attempt c =
    let waits : c.push.new.self ≡ c.picks.waiting ++ c.in-Some.more ∷ [] =
    c.in_ok-push-in-Attempt.ensures.ok in
    let first : c.picks.rest.now
    ≡ Attempt c.in-Attempt.path c.in-Attempt.inner ∷ c.in-Some.more.now = search rules in
    rw (waits, first, c.as_slice-rest.ensures)
    (head_falls c.in-Attempt.path c.in-Attempt.inner c.in-Some.more c.picks.waiting)

pub picks-preserved-in-Attempt : goal.picks-preserved-in-Attempt
picks-preserved-in-Attempt c =
    let waits : c.push.new.self ≡ c.picks.waiting ++ c.in-Some.more ∷ [] =
    c.in_ok-push-in-Attempt.ensures.ok in
    let first : c.picks.rest.now
    ≡ Attempt c.in-Attempt.path c.in-Attempt.inner ∷ c.in-Some.more.now = search rules in
    rw (waits, c.as_slice-rest.ensures) (
      after_head (c.args.out.now ++ picks_text c.args.picks.now) c.picks.out c.write_head.new.out
          c.in-Attempt.path c.in-Attempt.inner c.in-Some.more c.picks.waiting
          (subst (λ ps. c.picks.out ++ left_text ps c.picks.waiting
          ≡ c.args.out.now ++ picks_text c.args.picks.now) first c.picks.invariant.0)
          c.in_ok-write_head-in-Attempt.ensures.text,
      λ h. c.picks.invariant.1
          (subst (λ ps. FitLeft ps c.picks.waiting) (sym first)
          (head_fits c.in-Attempt.path c.in-Attempt.inner c.in-Some.more c.picks.waiting
          c.in_ok-write_head-in-Attempt.ensures.path h)),
    )

pub picks-smaller : goal.picks-smaller
picks-smaller c =
    let waits : c.picks.waiting ≡ c.pop.new.self ++ c.in-Some-pop.more ∷ [] = search rules in
    let none : c.picks.rest.now ≡ [] = none_of _ c.in-None.ensures.cases in
    rw (waits, none) (end_falls c.in-Some-pop.more c.pop.new.self)

pub picks-preserved : goal.picks-preserved
picks-preserved c =
    let waits : c.picks.waiting ≡ c.pop.new.self ++ c.in-Some-pop.more ∷ [] = search rules in
    let none : c.picks.rest.now ≡ [] = none_of _ c.in-None.ensures.cases in (
      after_end (c.args.out.now ++ picks_text c.args.picks.now) c.picks.out c.push_slice.new.self
          c.in-Some-pop.more c.pop.new.self
          (subst (λ ws. c.picks.out ++ left_text [] ws
          ≡ c.args.out.now ++ picks_text c.args.picks.now) waits
          (subst (λ ps. c.picks.out ++ left_text ps c.picks.waiting
          ≡ c.args.out.now ++ picks_text c.args.picks.now) none c.picks.invariant.0))
          c.in_ok-push_slice-in-Some-pop.ensures.ok,
      λ h. c.picks.invariant.1
          (subst (λ ps. FitLeft ps c.picks.waiting) (sym none)
          (subst (λ ws. FitLeft [] ws) (sym waits)
          (end_fits c.in-Some-pop.more c.pop.new.self h))),
    )

pub picks-preserved-in-Step : goal.picks-preserved-in-Step
picks-preserved-in-Step c =
    let first : c.picks.rest.now ≡ Step c.in-Step.path c.in-Step.loc ∷ c.in-Some.more.now =
    search rules in (
      after_step (c.args.out.now ++ picks_text c.args.picks.now) c.picks.out c.write_step.new.out
          c.in-Step.path c.in-Step.loc c.in-Some.more.now c.picks.waiting
          (subst (λ ps. c.picks.out ++ left_text ps c.picks.waiting
          ≡ c.args.out.now ++ picks_text c.args.picks.now) first c.picks.invariant.0)
          c.in_ok-write_step-in-Step.ensures.text,
      λ h. c.picks.invariant.1
          (subst (λ ps. FitLeft ps c.picks.waiting) (sym first)
          (step_fits c.in-Step.path c.in-Step.loc c.in-Some.more.now c.picks.waiting
          c.in_ok-write_step-in-Step.ensures.path c.write_step.ensures.location h)),
    )

pub returns-in-None-pop-clause-fits : goal.returns-in-None-pop-clause-fits
returns-in-None-pop-clause-fits c =
    let none : c.picks.rest.now ≡ [] = none_of _ c.in-None.ensures.cases in
    let empty : c.picks.waiting ≡ [] = search rules in
    c.picks.invariant.1 (all_fit c.picks.rest.now c.picks.waiting none empty)
