use Rattle.std.proofs.Common.{rules, arith, IfNone, IfSome, ◌≡◌, ◌≤◌, ◌-◌, length, Some, slice_get, refl, sym, subst}
use Rattle.fort_core.specs.declared.term.Term.{Term}
use Rattle.fort_frames_moves.specs.Turns.{raw_form}
use Rattle.fort_frames_moves.specs.declared.across.Next.{Next}
use Rattle.fort_hall_parts.specs.Parts.{IsDivided, IsGoing, IsNarrow, IsPlain}
use Rattle.fort_hall_parts.proofs.Divisions.{divided_here, divided_into, divided_through_all, narrow_into, narrow_through_all}
use Rattle.fort_hall_parts.proofs.divide.+divide.Goals as goal

pub divided-returns-clause-divided : goal.divided-returns-clause-divided
divided-returns-clause-divided t c =
    let more = c.if-len-lt2.false in
    let long = c.len.ensures in
    divided_here (raw_form c.args.node.head c.args.node.parts) c.args.node c.in_ok-numbers.numbers
    (record { path = record { 0 = c.new.result }; numbers = c.in_ok-numbers.numbers })
    c.requires.node c.in_ok-numbers.ensures (omega (arith, more, long)) c.new.ensures refl

pub divided_lone-returns-in-None-clause-none : goal.divided_lone-returns-in-None-clause-none
divided_lone-returns-in-None-clause-none t c =
    let i = c.in-Some.number.now in
    let next = c.in-Some-2.next in
    let deep = c.requires.deep in
    let lone : slice_get c.args.numbers 0 ≡ Some i = sym c.in-Some.ensures.value in
    let plain : IsPlain c.args.node.parts next × (next.«at» ≡ i) =
    subst (λ o. IfSome o (λ (x : Next). IsPlain c.args.node.parts x × (x.«at» ≡ i))) c.in-Some-2.is
    c.in_ok-next.ensures.plain in
    let narrow : IsNarrow next.part (c.args.depth - 1) =
    subst (λ o. IfNone o (IsNarrow next.part (c.args.depth - 1))) c.in-None.is
    c.in_ok-open_parts.ensures.none in
    narrow_into (raw_form c.args.node.head c.args.node.parts) c.args.node c.args.numbers next i
    c.args.depth (c.args.depth - 1) c.requires.node c.requires.open c.requires.lone lone plain.0
    plain.1 (omega (arith, deep)) narrow

pub divided_lone-returns-clause-divided : goal.divided_lone-returns-clause-divided
divided_lone-returns-clause-divided t c =
    let i = c.in-Some.number.now in
    let next = c.in-Some-2.next in
    let plain : IsPlain c.args.node.parts next × (next.«at» ≡ i) =
    subst (λ o. IfSome o (λ (x : Next). IsPlain c.args.node.parts x × (x.«at» ≡ i))) c.in-Some-2.is
    c.in_ok-next.ensures.plain in
    let inner : IsDivided next.part c.in-Some-3.inner =
    subst (λ o. IfSome o (IsDivided next.part)) c.in-Some-3.is c.in_ok-open_parts.ensures.divided in
    divided_into (raw_form c.args.node.head c.args.node.parts) c.args.node next i c.in-Some-3.inner
    c.in_ok-within-in-Some-3.field-0 c.requires.node plain.0 plain.1 inner
    c.in_ok-within-in-Some-3.ensures.0 c.in_ok-within-in-Some-3.ensures.1

pub open_parts-returns-in-Some-clause-divided : goal.open_parts-returns-in-Some-clause-divided
open_parts-returns-in-Some-clause-divided t c =
    let going : IsGoing c.get.result.now c.in-Some.form =
    subst (λ o. IfSome o (IsGoing c.get.result.now)) c.in-Some.is c.in_ok-form.ensures.order in
    divided_through_all c.open_parts.result c.args.part.now c.in-Some.form
    (subst (λ x. IsGoing x c.in-Some.form) c.get.ensures going) c.open_parts.ensures.divided

pub open_parts-returns-in-Some-clause-none : goal.open_parts-returns-in-Some-clause-none
open_parts-returns-in-Some-clause-none t c =
    let deep = c.if-depth-eq0.false in
    let going : IsGoing c.get.result.now c.in-Some.form =
    subst (λ o. IfSome o (IsGoing c.get.result.now)) c.in-Some.is c.in_ok-form.ensures.order in
    narrow_through_all c.open_parts.result c.args.part.now c.in-Some.form c.args.depth
    (c.args.depth - 1) (subst (λ x. IsGoing x c.in-Some.form) c.get.ensures going)
    (omega (arith, deep)) c.open_parts.ensures.none
