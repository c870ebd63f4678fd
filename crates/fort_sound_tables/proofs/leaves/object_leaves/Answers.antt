use Rattle.std.proofs.Common.{ap, sym, subst}
use Rattle.fort_base.specs.declared.ids.TypeId.{TypeId}
use Rattle.fort_threads_law_private.specs.Grounds.{AreOpen}
use Rattle.fort_sound_tables.specs.Leaves.{ground_of}
use Rattle.fort_sound_tables.proofs.Objects.{leads_by}
use Rattle.fort_sound_tables.proofs.leaves.object_leaves.Goals as goal

pub returns-in-Some : goal.returns-in-Some
returns-in-Some c ok =
    leads_by c.args.program.now c.args.x.now c.args.ty c.args.base c.in-Some.shape.now
    (λ q. c.if-ty-x.false (ap (λ (t : TypeId). t.0) q)) (sym c.in-Some.ensures.value)
    (subst (λ n. AreOpen (ground_of c.args.program.now c.args.x.now) c.args.base.0 n) c.len.ensures
    (c.are_open.ensures ok))
