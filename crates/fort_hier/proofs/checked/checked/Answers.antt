use Rattle.std.proofs.Common.{◌≡◌, ◌++◌, Err, None, List, length, map, rules, ap, ◌∙◌, subst, arith}
use Rattle.std.specs.Prelude.{replicate}
use Rattle.fort_types.specs.Table.{HasRows}
use Rattle.fort_hier.specs.declared.heads.TypeHead.{TypeHead}
use Rattle.fort_base.specs.Places.{IsFirst}
use Rattle.fort_types_builtin.specs.declared.types.TheConstants.{TYPE_COUNT}
use Rattle.fort_hier.specs.Heads.{head_body}
use Rattle.fort_hier.specs.Hierarchies.{IsRefusal, IsSentenceRefusal}
use Rattle.fort_hier.specs.Lowest.{IsLowestFrom}
use Rattle.fort_hier.proofs.AcceptedLaws.{types_by, names_by, unknown_by, sentences_by, few_declared}
use Rattle.fort_hier.proofs.Reported.{duplicate_reported, unknown_reported, sentence_reported, none_broken}
use Rattle.fort_hier.proofs.checked.checked.Goals as goal

pub returns-in_err-refuse_duplicate-clause-err : goal.returns-in_err-refuse_duplicate-clause-err
returns-in_err-refuse_duplicate-clause-err c =
    let is : c.from_residual-in_err-refuse_duplicate.result
    ≡ Err c.in_err-refuse_duplicate.field-0.0 = search rules in
    rw is (duplicate_reported c.args.component.now c.args.mentioned.now
    c.in_err-refuse_duplicate.field-0.0 c.in_err-refuse_duplicate.ensures.err)

pub returns-in_err-types-clause-err : goal.returns-in_err-types-clause-err
returns-in_err-types-clause-err c =
    let is : c.from_residual-in_err-types.result ≡ Err c.in_err-types.field-0.0 = search rules in
    rw is (unknown_reported c.args.component.now c.args.mentioned.now
    c.in_ok-refuse_duplicate.ensures.ok c.in_err-types.field-0.0
    (unknown_by c.args.component.now c.args.mentioned.now
    (λ P. IsRefusal 402 P c.in_err-types.field-0.0) c.as_slice-names.ensures
    (c.as_slice.ensures ∙ c.in_ok-heads.ensures) c.in_err-types.ensures.err))

pub returns-in_err-refuse_broken-clause-err : goal.returns-in_err-refuse_broken-clause-err
returns-in_err-refuse_broken-clause-err c =
    let is : c.from_residual-in_err-refuse_broken.result ≡ Err c.in_err-refuse_broken.field-0.0 =
    search rules in
    rw is (sentence_reported c.args.component.now c.args.mentioned.now
    c.in_ok-refuse_duplicate.ensures.ok
    (unknown_by c.args.component.now c.args.mentioned.now (λ P. IsFirst P None)
    c.as_slice-names.ensures (c.as_slice.ensures
    ∙ c.in_ok-heads.ensures) c.in_ok-types.ensures.ok)
    c.in_err-refuse_broken.field-0.0
    (sentences_by c.args.component.now
    (λ h places. IsSentenceRefusal h places c.in_err-refuse_broken.field-0.0)
    (c.as_slice-4.ensures
    ∙ types_by c.args.component.now c.in_ok-types.ensures.types c.as_slice-names.ensures
    (c.as_slice.ensures ∙ c.in_ok-heads.ensures))
    (c.as_slice-3.ensures ∙ c.in_ok-heads.ensures) c.in_err-refuse_broken.ensures.err))

pub returns-clause-ok : goal.returns-clause-ok
returns-clause-ok c =
    let heads = c.as_slice.ensures ∙ c.in_ok-heads.ensures in
    let types =
    types_by c.args.component.now c.in_ok-types.ensures.types c.as_slice-names.ensures heads in
    record {
      kept = none_broken c.args.component.now c.args.mentioned.now
          c.in_ok-refuse_duplicate.ensures.ok
          (unknown_by c.args.component.now c.args.mentioned.now (λ P. IsFirst P None)
          c.as_slice-names.ensures heads c.in_ok-types.ensures.ok)
          (sentences_by c.args.component.now (λ h places. IsLowestFrom h places 403 None)
          (c.as_slice-4.ensures ∙ types) (c.as_slice-3.ensures
          ∙ c.in_ok-heads.ensures) c.in_ok-refuse_broken.ensures.ok);
      rows = subst (λ h. HasRows h c.in_ok-table.table) (c.as_slice-2.ensures
          ∙ types) c.in_ok-table.ensures;
      names = c.in_ok-spellings.ensures
          ∙ names_by c.args.component.now c.as_slice-names.ensures (c.as_slice-5.ensures
          ∙ c.in_ok-heads.ensures);
      bodies = c.in_ok-bodies.ensures ∙ ap (λ
          (hs : List TypeHead). replicate TYPE_COUNT None ++ map head_body hs)
          (c.as_slice-6.ensures ∙ c.in_ok-heads.ensures);
      few = few_declared c.args.component.now c.len.result (let l = c.if-len-gt-MOST_TYPES.false
          in omega arith) (c.len.ensures ∙ ap (λ
          (hs : List TypeHead). length hs) c.in_ok-heads.ensures);
    }
