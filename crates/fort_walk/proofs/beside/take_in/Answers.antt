use Rattle.std.proofs.Common.{◌≡◌, ◌+◌, length, true, false, ap, arith, refl, sym, ◌∙◌}
use Rattle.fort_store_effects.specs.Levels.{effect_of}
use Rattle.fort_walk_course.specs.declared.course.Course.{Course}
use Rattle.fort_walk.specs.Written.{printed_by}
use Rattle.fort_walk.proofs.Halls.{both_fit, none_printed, took_none}
use Rattle.fort_walk.proofs.beside.take_in.Goals as goal

pub taken-requires-clause-some : goal.taken-requires-clause-some
taken-requires-clause-some c = λ e.
    let z : true ≡ false = sym (c.is_empty.ensures.1 e) ∙ c.if-is_empty.false in absurd cc

pub behind-progress-requires : goal.behind-progress-requires
behind-progress-requires c = λ calm.
    let few = (c.requires.within calm).1 in
    let none : length (effect_of c.args.legs.closed.done).output ≡ 0 =
    ap length (none_printed c.args.program.now c.args.walking c.args.legs.closed c.requires.next
    (c.is_empty.ensures.0 c.if-is_empty.true)) in
    omega (arith, few, none)

pub behind-progress-requires-2 : goal.behind-progress-requires-2
behind-progress-requires-2 c = λ calm.
    let within = c.requires.within calm in
    both_fit (printed_by c.args.walking.going.course) (effect_of c.args.legs.closed.done).output
    (printed_by c.in_ok-walking.walking.going.course) _ _ _ c.in_ok-walking.ensures.output
    (ap length (c.output.ensures ∙ ap (λ (k : Course). printed_by k) c.get.ensures))
    (c.requires.whole within.0) within.1

pub returns-then-is_empty : goal.returns-then-is_empty
returns-then-is_empty c =
    took_none c.args.program.now c.args.walking c.args.legs c.as_before.result c.args.progress
    c.behind-progress.result c.as_before.ensures.goes_on c.as_before.ensures.course
    (none_printed c.args.program.now c.args.walking c.args.legs.closed c.requires.next
    (c.is_empty.ensures.0 c.if-is_empty.true)) c.as_before.ensures.progress
    c.behind-progress.ensures.failed c.behind-progress.ensures.bytes
    (λ calm. c.requires.whole (c.requires.within calm).0)

pub returns : goal.returns
returns c = record {
  goes_on = record {
    walking = c.in_ok-walking.ensures.walking;
    fuel = c.in_ok-walking.ensures.fuel;
    grows = c.in_ok-walking.ensures.grows;
  };
  output = c.in_ok-walking.ensures.output;
  failed = c.behind-progress-2.ensures.failed;
  bytes = λ calm. c.behind-progress-2.ensures.bytes calm
      ∙ ap (λ n. n + c.args.legs.progress.bytes) (c.requires.whole (c.requires.within calm).0);
}
