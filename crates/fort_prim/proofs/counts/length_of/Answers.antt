use Rattle.std.proofs.Common.{◌≡◌, ◌+◌, ◌≤◌, ◌==◌, if◌then◌else◌, arith}
use Rattle.fort_prim.proofs.Characters.{byte_more_at, counted_then, counted_else, all_bytes}
use Rattle.fort_prim.proofs.counts.length_of.Goals as goal
use Rattle.fort_prim.proofs.counts.length_of.Goals.{then-missing-eq0, else-missing-eq0}

pub loop-byte-preserved : goal.loop-byte-preserved
loop-byte-preserved c =
    let counted : c.if-missing-eq0.count
    ≡ (if c.missing_behind-missing.result == 0 then c.loop-byte.count + 1
    else c.loop-byte.count)
    = elim c.if-missing-eq0.branch [
      | then-missing-eq0 w ↦ counted_then _ _ _ w.if-missing-eq0.true w.count-is
      | else-missing-eq0 w ↦ counted_else _ _ _ w.if-missing-eq0.false w.count-is
    ] in
    let few : c.if-missing-eq0.count ≤ c.loop-byte.byte-index + 1
    = elim c.if-missing-eq0.branch [
      | then-missing-eq0 w ↦ omega arith
      | else-missing-eq0 w ↦ omega arith
    ] in
    record {
      few = few;
      rest = byte_more_at _ c.loop-byte.count c.loop-byte.missing _ c.args.text.now
          c.loop-byte.byte-index _ c.loop-byte-test.true c.missing_behind-missing.ensures counted
          c.loop-byte.invariant.rest;
    }

pub returns : goal.returns
returns c =
    all_bytes c.loop-byte.count c.loop-byte.missing c.args.text.now c.loop-byte.byte-index _
    c.loop-byte-test.false c.loop-byte.invariant.rest
