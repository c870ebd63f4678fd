use Rattle.std.proofs.Common.{◌≡◌, true, false, sym, ◌∙◌}
use Rattle.fort_frames.specs.Frames.{frames, rebuilt}
use Rattle.fort_plain.proofs.Finding.{try_ready}
use Rattle.fort_plain.proofs.find.at_form.Goals as goal

pub returns-then-same : goal.returns-then-same
returns-then-same c = (c.requires, c.same.ensures.0 c.if-same.true)

pub elsewhere-requires-clause-ready : goal.elsewhere-requires-clause-ready
elsewhere-requires-clause-ready c =
    try_ready c.args.clock (rebuilt c.args.clock (frames c.args.place.stack) c.args.form)
    c.args.form c.args.place c.requires

pub elsewhere-requires-clause-other : goal.elsewhere-requires-clause-other
elsewhere-requires-clause-other c = λ e. let z : true ≡ false =
    sym (c.same.ensures.1 e) ∙ c.if-same.false in cc
