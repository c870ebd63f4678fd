use Rattle.std.proofs.Common.{rules, ◌≡◌, Option, None, refl, subst}
use Rattle.std.specs.Prelude.{IfSome}
use Rattle.fort_core.specs.declared.term.Term.{Term}
use Rattle.fort_hall_parts.specs.Parts.{IsPartAt}
use Rattle.fort_hall_program.specs.declared.state.State.{State}
use Rattle.fort_hall_program.proofs.Lending.{good_state}
use Rattle.fort_hall_program.proofs.lend.state_of.Goals as goal

pub returns-clause-good : goal.returns-clause-good
returns-clause-good c =
    let t = c.term.result.now in
    let path = c.as_slice.result.now in
    let part = c.part.inside.inner.value in
    let found : IsPartAt t path c.in-Some-2.part =
    subst (λ (o : Option Term). IfSome o (IsPartAt t path)) c.in-Some-2.is
    c.in_ok-part.ensures.part in
    let here : c.in-Some-2.part ≡ part = search rules in
    let state : State = record {
      task = c.args.task;
      inner = c.is_inner.result;
      path = c.in_ok-path.path;
      part = part;
      view = c.in_ok-new.field-0;
      left = c.left.result;
      slice = c.in-Some.slice;
      depth = c.args.book.now.depth;
      form = None;
    } in
    good_state c.args.program.now c.args.most c.args.book.now c.in-Some-at_hand.store
    c.in_ok-new.field-0 path t state c.requires.one c.requires.keeps c.in-Some-at_hand.is
    (search rules) c.term.ensures (subst (λ (a : Term). IsPartAt t path a) here found)
    c.is_inner.ensures refl c.left.ensures refl
