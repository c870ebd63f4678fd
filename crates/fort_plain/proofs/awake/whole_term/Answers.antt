use Rattle.std.proofs.Common.{◌≡◌, ◌<◌, true, false, length, subst, sym, ◌∙◌}
use Rattle.fort_frames.specs.Frames.{frames, rebuilt}
use Rattle.fort_frames.specs.Heads.{form_of}
use Rattle.fort_plain.specs.Paths.{IsOutOf, place_out}
use Rattle.fort_plain.specs.declared.aside.Out.{Out}
use Rattle.fort_plain.proofs.Outside.{at_root, node_whole}
use Rattle.fort_plain.proofs.awake.whole_term.Goals as goal

pub returns-then-is_root : goal.returns-then-is_root
returns-then-is_root c =
    at_root c.args.clock (rebuilt c.args.clock (frames c.args.place.stack) c.args.form)
    c.frames.place c.frames.part c.frames.invariant
    (c.is_root.ensures.0 c.if-is_root.true)

pub node_form-requires-clause-suits : goal.node_form-requires-clause-suits
node_form-requires-clause-suits c =
    (subst (IsOutOf c.args.clock (rebuilt c.args.clock (frames c.args.place.stack) c.args.form))
    c.in-Node.is
    (c.in_ok-below.ensures.whole (rebuilt c.args.clock (frames c.args.place.stack) c.args.form)
    c.frames.invariant)).0

pub node_form-requires-clause-is_open : goal.node_form-requires-clause-is_open
node_form-requires-clause-is_open c =
    (subst (IsOutOf c.args.clock (rebuilt c.args.clock (frames c.args.place.stack) c.args.form))
    c.in-Node.is
    (c.in_ok-below.ensures.whole (rebuilt c.args.clock (frames c.args.place.stack) c.args.form)
    c.frames.invariant)).1.is_open

pub frames-preserved-in-Form : goal.frames-preserved-in-Form
frames-preserved-in-Form c =
    subst (IsOutOf c.args.clock (rebuilt c.args.clock (frames c.args.place.stack) c.args.form))
    c.in-Form.is
    (c.in_ok-below.ensures.whole (rebuilt c.args.clock (frames c.args.place.stack) c.args.form)
    c.frames.invariant)

pub frames-preserved : goal.frames-preserved
frames-preserved c =
    node_whole c.args.clock (rebuilt c.args.clock (frames c.args.place.stack) c.args.form)
    c.in-Node.below (form_of c.in-Node.head c.in-Node.parts) _
    (subst (IsOutOf c.args.clock (rebuilt c.args.clock (frames c.args.place.stack) c.args.form))
    c.in-Node.is
    (c.in_ok-below.ensures.whole (rebuilt c.args.clock (frames c.args.place.stack) c.args.form)
    c.frames.invariant)).1 c.in_ok-part-in-Node.ensures

pub leave_frame-requires-clause-some : goal.leave_frame-requires-clause-some
leave_frame-requires-clause-some c = λ e. let z : true ≡ false =
    sym (c.is_root.ensures.1 e) ∙ c.if-is_root.false in cc

pub frames-smaller-in-Form : goal.frames-smaller-in-Form
frames-smaller-in-Form c =
    subst
    (λ (r : Out). length (frames (place_out r).stack) < length (frames c.frames.place.stack))
    c.in-Form.is c.in_ok-below.ensures.shorter

pub frames-smaller : goal.frames-smaller
frames-smaller c =
    subst
    (λ (r : Out). length (frames (place_out r).stack) < length (frames c.frames.place.stack))
    c.in-Node.is c.in_ok-below.ensures.shorter
