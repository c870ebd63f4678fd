use Rattle.std.proofs.Common.{drop, take, ◌∷◌, ◌∙◌, [], ◌++◌, arith, subst, sym, ap, length-drop}
use Rattle.std.proofs.lemmas.List.{drop-drop}
use Rattle.fort_lex_scan.specs.Chain.{Chain}
use Rattle.fort_lex_scan.specs.Gaps.{Part}
use Rattle.fort_lex_scan.specs.Scan.{part_end}
use Rattle.fort_lex_scan.proofs.Chains.{chain_more, rest_is, rest_some}
use Rattle.fort_lex_scan.proofs.Parts.{PartIs, part_is}
use Rattle.fort_lex_scan.proofs.gap.gap_len.Goals as goal

pub loop-len-preserved : goal.loop-len-preserved
loop-len-preserved c =
    let len = c.loop-len.len in
    let text = c.args.text.now in
    let n = c.in-Part.n in
    let is = subst (PartIs (drop len text))
    (sym (c.part_end.ensures.value ∙ ap part_end (rest_is len text)))
    (part_is (drop len text) (rest_some len text c.loop-len-test.true)) in
    let part = subst (PartIs (drop len text)) c.in-Part.is is in
    let ps = c.loop-len.invariant.0 in
    let l = length-drop len text in
    let w = c.in-Part.ensures.within in (
      (
        ps.0 ++ take n (drop len text) ∷ [],
        subst (λ t. Chain Part (ps.0 ++ take n (drop len text) ∷ []) text t)
            (drop-drop n len text)
            (chain_more Part ps.0 (take n (drop len text)) text (drop len text)
            (drop n (drop len text)) ps.1 part),
      ),
      omega arith,
    )

pub returns-in-Unclosed-clause-unclosed : goal.returns-in-Unclosed-clause-unclosed
returns-in-Unclosed-clause-unclosed c =
    let len = c.loop-len.len in
    let text = c.args.text.now in
    let is = subst (PartIs (drop len text))
    (sym (c.part_end.ensures.value ∙ ap part_end (rest_is len text)))
    (part_is (drop len text) (rest_some len text c.loop-len-test.true)) in
    let un = subst (PartIs (drop len text)) c.in-Unclosed.is is in
    let ps = c.loop-len.invariant.0 in
    ((ps.0, ps.1, un.1), un.0, c.loop-len.invariant.1)
