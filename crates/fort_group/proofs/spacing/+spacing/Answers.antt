use Rattle.std.proofs.Common.{sym, ap, ◌∙◌, arith}
use Rattle.fort_group.specs.Walks.{spaced}
use Rattle.fort_group.proofs.Spaces.{chain_law, all_good_on, loose_parts_on, loose_on, tight_on}
use Rattle.fort_group.proofs.spacing.+spacing.Goals as goal

pub of_chain-loop-part-preserved : goal.of_chain-loop-part-preserved
of_chain-loop-part-preserved t c =
    let l = c.loop-part in
    let v = l.invariant in
    let f = c.spacing_of-first.result in
    let x = c.part-item.result in
    let p = c.spacing_of-next.result in
    let b = c.is_loose_before-is_loose.result in
    record {
      all_good =
          all_good_on _ f _ l.part-index _ p l.good (omega arith) c.part-item.is
          c.spacing_of-next.ensures v.all_good;
      loose_parts =
          loose_parts_on _ f _ l.part-index _ p l.loose_part (omega arith) c.part-item.is
          c.spacing_of-next.ensures v.loose_parts;
      loose_ones =
          loose_on _ f _ l.part-index _ p l.loose b (omega arith) c.part-item.is
          c.spacing_of-next.ensures c.is_loose_before-is_loose.ensures v.loose_ones;
      tight_ones =
          tight_on _ f _ l.part-index _ p l.tight b (omega arith) c.part-item.is
          c.spacing_of-next.ensures c.is_loose_before-is_loose.ensures v.tight_ones;
    }

pub spacing_of-returns-in-Chain : goal.spacing_of-returns-in-Chain
spacing_of-returns-in-Chain t c =
    c.of_chain.ensures ∙ sym (chain_law _ _ _) ∙ ap (spaced c.args.joints.now) (sym c.in-Chain.is)
