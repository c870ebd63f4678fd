use Rattle.std.proofs.Common.{◌≡◌, IfOk, subst, sym, ◌∙◌}
use Rattle.fort_core.specs.declared.term.Term.{Term}
use Rattle.fort_machine.specs.Ends.{open_yet, standing}
use Rattle.fort_store_effects.specs.Levels.{levels_of, seen}
use Rattle.fort_frames.specs.Frames.{Reaches, frames, rebuilt}
use Rattle.fort_frames.specs.declared.place.Place.{Place}
use Rattle.fort_plain.specs.Paths.{AllSleep}
use Rattle.fort_plain.proofs.Marks.{same_marks}
use Rattle.fort_plain.proofs.awake.all_sleep.Goals as goal

pub whole_term-requires-clause-is_open : goal.whole_term-requires-clause-is_open
whole_term-requires-clause-is_open c =
    subst (λ (t : Term). standing t ≡ open_yet) (sym c.in_ok-share-2.ensures) c.requires.is_open

pub whole_term-requires-clause-reached : goal.whole_term-requires-clause-reached
whole_term-requires-clause-reached c =
    rw c.clock.ensures
    (subst (λ
    (p : Place). Reaches c.args.course.now.clock (frames p.stack) c.in_ok-share-2.field-0)
    (sym c.in_ok-share.ensures) (subst (λ
    (t : Term). Reaches c.args.course.now.clock (frames c.args.place.now.stack) t)
    (sym c.in_ok-share-2.ensures) c.requires.reached))

pub sweep-requires : goal.sweep-requires
sweep-requires c =
    same_marks (rebuilt c.args.course.now.clock (frames c.args.place.now.stack) c.args.form.now)
    c.in_ok-term.term
    ((rw c.clock.ensures at c.in_ok-term.ensures)
    ∙ (λ i. rebuilt c.args.course.now.clock (frames (c.in_ok-share.ensures i).stack)
    (c.in_ok-share-2.ensures i))) c.requires.marks

pub returns : goal.returns
returns c =
    subst (λ (t : Term). IfOk c.sweep.result
    (AllSleep (seen (levels_of c.args.course.now.layers)) t))
    ((rw c.clock.ensures at c.in_ok-term.ensures)
    ∙ (λ i. rebuilt c.args.course.now.clock (frames (c.in_ok-share.ensures i).stack)
    (c.in_ok-share-2.ensures i))) c.sweep.ensures
