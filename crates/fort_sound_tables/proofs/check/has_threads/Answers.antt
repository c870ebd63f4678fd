use Rattle.fort_sound_tables.proofs.Whole.{whole}
use Rattle.fort_sound_tables.proofs.check.has_threads.Goals as goal

pub returns : goal.returns
returns c ok =
    let o = c.has_own.ensures c.if-not-has_own.false in
    whole c.args.program.now _ o.0 (c.in_ok-runs_prelude.ensures c.if-not-branch.false)
    (c.in_ok-runs_numbers.ensures c.if-not-branch-2.false)
    (c.in_ok-takes_texts.ensures c.if-not-branch-3.false)
    (c.in_ok-starts_texts.ensures c.if-not-branch-4.false)
    (c.in_ok-types_stand.ensures c.if-not-branch-5.false)
    (c.in_ok-places_stand.ensures c.if-not-branch-6.false)
    (c.calls_own.ensures c.if-not-calls_own.false) o.1 (c.all_stands_apart.ensures ok)
