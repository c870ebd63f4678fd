use Rattle.std.proofs.Common.{◌≡◌, ap, refl, ◌∙◌, subst}
use Rattle.fort_store_effects.specs.Again.{only_store}
use Rattle.fort_store_effects.specs.Levels.{levels_of, seen}
use Rattle.fort_frames.specs.States.{term_at}
use Rattle.fort_walk_course.specs.declared.course.Course.{Course}
use Rattle.fort_walk.proofs.Halls.{form_of, is_covered}
use Rattle.fort_walk.proofs.beside.form_at.Goals as goal

pub unreachable-requires : goal.unreachable-requires
unreachable-requires c = c.in_default.not-Form c.requires.root.1.0 c.requires.root.1.1

pub returns : goal.returns
returns c =
    let p = c.args.program.now in
    let w = c.args.walking.now in
    let v = c.in_ok-new.field-0 in
    let shown : levels_of v ≡ only_store (seen (levels_of w.going.course.layers)) =
    ap levels_of c.in_ok-new.ensures
    ∙ subst (λ (k : Course). levels_of c.in_ok-view.view ≡ only_store (seen (levels_of k.layers)))
    c.get-course.ensures c.in_ok-view.ensures in
    form_of p w _ _ c.requires.walking c.requires.root refl shown c.in_ok-share.ensures c.in-Form.is
    (is_covered p c.get-course.result.now w.going.course w.going.state.place
    (term_at w.going.state.«at») c.get-course.ensures c.requires.walking.stands)
