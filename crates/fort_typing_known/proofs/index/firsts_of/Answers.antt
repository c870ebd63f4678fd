use Rattle.std.proofs.Common.{arith, rules, sym, ap, ◌∙◌}
use Rattle.fort_types_sets.specs.declared.member.MemberSet.{MemberSet}
use Rattle.fort_typing_known.specs.Places.{set_name}
use Rattle.fort_typing_known.proofs.Placed.{places_begin, nexts_begin, sets_more}
use Rattle.fort_typing_known.proofs.index.firsts_of.Goals as goal

pub loop-number-init : goal.loop-number-init
loop-number-init c = (
  omega arith,
  places_begin set_name c.args.sets.now _ c.new-firsts.ensures,
  nexts_begin c.args.sets.now c.in_ok-nexts.nexts.items (search rules),
)

pub loop-number-preserved : goal.loop-number-preserved
loop-number-preserved c =
    sets_more c.args.sets.now _ _ _ _ c.index-sets-number.result _ _ c.loop-number-test.true
    c.loop-number.invariant c.index-sets-number.is (c.as_slice.ensures ∙ ap (λ
    (z : MemberSet). z.name) (sym c.index-sets-number.is)) c.in_ok-nexts-2.ensures.has
    c.in_ok-nexts-2.ensures.had
