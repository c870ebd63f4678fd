use Rattle.std.proofs.Common.{◌≡◌, true, false, ap, sym, ◌∙◌, subst}
use Rattle.fort_base.specs.declared.ids.TypeId.{TypeId}
use Rattle.fort_core.specs.declared.value.Value.{Object}
use Rattle.fort_threads_law_private.specs.Grounds.{AreOpen}
use Rattle.fort_sound_tables.specs.Leaves.{ground_of}
use Rattle.fort_sound_tables.proofs.FormsLeave.{as_value, object_at}
use Rattle.fort_sound_tables.proofs.Lists.{some_is}
use Rattle.fort_sound_tables.proofs.Members.{object_is}
use Rattle.fort_sound_tables.proofs.Objects.{leads_by}
use Rattle.fort_sound_tables.proofs.apart.single_leaves.Goals as goal

pub returns-then-not-is_thread : goal.returns-then-not-is_thread
returns-then-not-is_thread c ok v e =
    let ty : TypeId = record { 0 = c.args.«at» } in
    as_value c.args.program.now c.args.x.now v (Object ty c.in-Single.base)
    (some_is v (Object ty c.in-Single.base)
    (sym e ∙ object_is ty c.args.shape.now c.in-Single.base c.in-Single.is))
    (object_at c.args.program.now c.args.x.now ty c.in-Single.base
    (leads_by c.args.program.now c.args.x.now ty c.in-Single.base c.args.shape.now
    (λ q. let z : c.is_thread.result ≡ true = c.is_thread.ensures.1 (ap (λ (t : TypeId). t.0) q) in
    let w : true ≡ false = sym z ∙ c.if-not-is_thread.true in absurd cc)
    c.requires
    (subst (λ n. AreOpen (ground_of c.args.program.now c.args.x.now) c.in-Single.base.0 n)
    c.len.ensures (c.are_open.ensures ok))))
