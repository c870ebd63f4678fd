use Rattle.std.proofs.Common.{◌≡◌, ap, ◌∙◌, sym}
use Rattle.std.proofs.lemmas.Result.{IfOk-weaker}
use Rattle.fort_juxt.specs.declared.elements.Grouping.TheVariants as a_grouping
use Rattle.fort_typing_known.specs.Read.{facts}
use Rattle.fort_typing_joined.specs.Taking.{Taken, grown_of}
use Rattle.fort_typing_joined.proofs.Both.{both_applied, both_joined, on_ok}
use Rattle.fort_typing_joined.proofs.taking.+taken.Goals as goal

pub returns-in_ok-other-in-Apply-clause-grown : goal.returns-in_ok-other-in-Apply-clause-grown
returns-in_ok-other-in-Apply-clause-grown t c =
    let whole : c.args.grouping.now ≡ a_grouping.Apply c.get.result.now c.get-in-Apply.result.now =
    cc in
    let both =
    both_applied (facts c.args.known.now) c.args.grouping.now c.get.result.now
    c.get-in-Apply.result.now c.args.rest.now c.taken.new.rest c.taken-in-Apply.new.rest
    c.args.found
    (grown_of c.in_ok-taken-in-Apply.field-0) (grown_of c.in_ok-one-in-Apply.one)
    (grown_of c.in_ok-taken-in-Apply-2.field-0) (grown_of c.in_ok-other-in-Apply.other) whole
    c.in_ok-taken-in-Apply.ensures.grown c.in_ok-taken-in-Apply.ensures.rest
    c.in_ok-one-in-Apply.ensures c.in_ok-taken-in-Apply-2.ensures.grown
    c.in_ok-taken-in-Apply-2.ensures.rest c.in_ok-other-in-Apply.ensures in
    IfOk-weaker c.grows.result _ _ (λ it h. h
    ∙ sym (ap (λ (x : Taken). x.grown) both)) c.grows.ensures

pub returns-in_ok-other-in-Apply-clause-rest : goal.returns-in_ok-other-in-Apply-clause-rest
returns-in_ok-other-in-Apply-clause-rest t c =
    let whole : c.args.grouping.now ≡ a_grouping.Apply c.get.result.now c.get-in-Apply.result.now =
    cc in
    let both =
    both_applied (facts c.args.known.now) c.args.grouping.now c.get.result.now
    c.get-in-Apply.result.now c.args.rest.now c.taken.new.rest c.taken-in-Apply.new.rest
    c.args.found
    (grown_of c.in_ok-taken-in-Apply.field-0) (grown_of c.in_ok-one-in-Apply.one)
    (grown_of c.in_ok-taken-in-Apply-2.field-0) (grown_of c.in_ok-other-in-Apply.other) whole
    c.in_ok-taken-in-Apply.ensures.grown c.in_ok-taken-in-Apply.ensures.rest
    c.in_ok-one-in-Apply.ensures c.in_ok-taken-in-Apply-2.ensures.grown
    c.in_ok-taken-in-Apply-2.ensures.rest c.in_ok-other-in-Apply.ensures in
    on_ok c.grows.result (sym (ap (λ (x : Taken). x.rest) both))

pub returns-in_ok-other-in-Pair-clause-grown : goal.returns-in_ok-other-in-Pair-clause-grown
returns-in_ok-other-in-Pair-clause-grown t c =
    let whole : c.args.grouping.now
    ≡ a_grouping.Pair c.get-in-Pair.result.now c.get-in-Pair-2.result.now = cc in
    let both =
    both_joined (facts c.args.known.now) c.args.grouping.now c.get-in-Pair.result.now
    c.get-in-Pair-2.result.now c.args.rest.now c.taken-in-Pair.new.rest
    c.taken-in-Pair-2.new.rest c.args.found
    (grown_of c.in_ok-taken-in-Pair.field-0) (grown_of c.in_ok-one-in-Pair.one)
    (grown_of c.in_ok-taken-in-Pair-2.field-0) (grown_of c.in_ok-other-in-Pair.other) whole
    c.in_ok-taken-in-Pair.ensures.grown c.in_ok-taken-in-Pair.ensures.rest
    c.in_ok-one-in-Pair.ensures c.in_ok-taken-in-Pair-2.ensures.grown
    c.in_ok-taken-in-Pair-2.ensures.rest c.in_ok-other-in-Pair.ensures in
    IfOk-weaker c.grows-in-Pair.result _ _ (λ it h. h
    ∙ sym (ap (λ (x : Taken). x.grown) both)) c.grows-in-Pair.ensures

pub returns-in_ok-other-in-Pair-clause-rest : goal.returns-in_ok-other-in-Pair-clause-rest
returns-in_ok-other-in-Pair-clause-rest t c =
    let whole : c.args.grouping.now
    ≡ a_grouping.Pair c.get-in-Pair.result.now c.get-in-Pair-2.result.now = cc in
    let both =
    both_joined (facts c.args.known.now) c.args.grouping.now c.get-in-Pair.result.now
    c.get-in-Pair-2.result.now c.args.rest.now c.taken-in-Pair.new.rest
    c.taken-in-Pair-2.new.rest c.args.found
    (grown_of c.in_ok-taken-in-Pair.field-0) (grown_of c.in_ok-one-in-Pair.one)
    (grown_of c.in_ok-taken-in-Pair-2.field-0) (grown_of c.in_ok-other-in-Pair.other) whole
    c.in_ok-taken-in-Pair.ensures.grown c.in_ok-taken-in-Pair.ensures.rest
    c.in_ok-one-in-Pair.ensures c.in_ok-taken-in-Pair-2.ensures.grown
    c.in_ok-taken-in-Pair-2.ensures.rest c.in_ok-other-in-Pair.ensures in
    on_ok c.grows-in-Pair.result (sym (ap (λ (x : Taken). x.rest) both))
