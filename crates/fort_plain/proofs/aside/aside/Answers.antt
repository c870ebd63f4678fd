use Rattle.std.proofs.Common.{◌<◌, length, subst, arith}
use Rattle.fort_frames.specs.Frames.{frames, rebuilt}
use Rattle.fort_frames.specs.Heads.{form_of}
use Rattle.fort_plain.specs.Paths.{IsOut, place_out}
use Rattle.fort_plain.specs.declared.aside.Out.{Out}
use Rattle.fort_plain.proofs.Outside.{inside_some, node_inside, own_beside}
use Rattle.fort_plain.proofs.aside.aside.Goals as goal

pub into_other-requires-clause-suits : goal.into_other-requires-clause-suits
into_other-requires-clause-suits c =
    (subst (IsOut c.args.clock (rebuilt c.args.clock (frames c.args.place.stack) c.args.part)
    c.args.keep c.args.path.now) c.in-Node.is
    (c.in_ok-below.ensures.inside (rebuilt c.args.clock (frames c.args.place.stack) c.args.part)
    c.args.keep c.args.path.now c.frames.invariant)).0

pub into_other-requires-clause-beside : goal.into_other-requires-clause-beside
into_other-requires-clause-beside c =
    own_beside c.args.clock (rebuilt c.args.clock (frames c.args.place.stack) c.args.part)
    c.args.keep c.args.path.now c.in-Node.below (form_of c.in-Node.head c.in-Node.parts)
    (subst (IsOut c.args.clock (rebuilt c.args.clock (frames c.args.place.stack) c.args.part)
    c.args.keep c.args.path.now) c.in-Node.is
    (c.in_ok-below.ensures.inside (rebuilt c.args.clock (frames c.args.place.stack) c.args.part)
    c.args.keep c.args.path.now c.frames.invariant)).1

pub node_form-requires-clause-suits : goal.node_form-requires-clause-suits
node_form-requires-clause-suits c =
    (subst (IsOut c.args.clock (rebuilt c.args.clock (frames c.args.place.stack) c.args.part)
    c.args.keep c.args.path.now) c.in-Node.is
    (c.in_ok-below.ensures.inside (rebuilt c.args.clock (frames c.args.place.stack) c.args.part)
    c.args.keep c.args.path.now c.frames.invariant)).0

pub node_form-requires-clause-is_open : goal.node_form-requires-clause-is_open
node_form-requires-clause-is_open c =
    (subst (IsOut c.args.clock (rebuilt c.args.clock (frames c.args.place.stack) c.args.part)
    c.args.keep c.args.path.now) c.in-Node.is
    (c.in_ok-below.ensures.inside (rebuilt c.args.clock (frames c.args.place.stack) c.args.part)
    c.args.keep c.args.path.now c.frames.invariant)).1.is_open

pub frames-preserved-in-Form : goal.frames-preserved-in-Form
frames-preserved-in-Form c =
    subst (IsOut c.args.clock (rebuilt c.args.clock (frames c.args.place.stack) c.args.part)
    c.args.keep c.args.path.now) c.in-Form.is
    (c.in_ok-below.ensures.inside (rebuilt c.args.clock (frames c.args.place.stack) c.args.part)
    c.args.keep c.args.path.now c.frames.invariant)

pub frames-preserved : goal.frames-preserved
frames-preserved c =
    node_inside c.args.clock (rebuilt c.args.clock (frames c.args.place.stack) c.args.part)
    c.args.keep c.args.path.now c.in-Node.below (form_of c.in-Node.head c.in-Node.parts) _
    (subst (IsOut c.args.clock (rebuilt c.args.clock (frames c.args.place.stack) c.args.part)
    c.args.keep c.args.path.now) c.in-Node.is
    (c.in_ok-below.ensures.inside (rebuilt c.args.clock (frames c.args.place.stack) c.args.part)
    c.args.keep c.args.path.now c.frames.invariant)).1 c.in_ok-part-in-Node.ensures
    (λ e. omega arith)

pub leave_frame-requires-clause-some : goal.leave_frame-requires-clause-some
leave_frame-requires-clause-some c = inside_some _ _ _ _ _ _ c.frames.invariant

pub frames-smaller-in-Form : goal.frames-smaller-in-Form
frames-smaller-in-Form c =
    subst
    (λ (r : Out). length (frames (place_out r).stack) < length (frames c.frames.place.stack))
    c.in-Form.is c.in_ok-below.ensures.shorter

pub frames-smaller : goal.frames-smaller
frames-smaller c =
    subst
    (λ (r : Out). length (frames (place_out r).stack) < length (frames c.frames.place.stack))
    c.in-Node.is c.in_ok-below.ensures.shorter
