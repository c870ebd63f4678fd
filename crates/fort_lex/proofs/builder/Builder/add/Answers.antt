use Rattle.std.proofs.Common.{refl, ap, ◌∙◌, ◌++◌, ◌∷◌, []}
use Rattle.fort_base.specs.declared.refusal.Place.{Place}
use Rattle.fort_base.specs.declared.refusal.Gap.{Gap}
use Rattle.fort_lex_scan.specs.Places.{place_after, gap_kind}
use Rattle.fort_lex.proofs.FileLaws.{holds_last}
use Rattle.fort_lex.proofs.builder.Builder.add.Goals as goal

pub returns-clause-held : goal.returns-clause-held
returns-clause-held c = λ ps h.
    let old = c.args.self.now in
    let mid = c.kind_of.new.self in
    let gap = c.args.gap.now in
    let k = c.in_ok-kind.kind in
    holds_last ps old mid _ gap c.args.word.now k h c.in_ok-kind.ensures
    (c.in_ok-push.ensures.ok
    ∙ ap (λ (g : Gap). mid.list ++ record { kind = k; gap = g; place = c.place_after-place.result }
    ∷ []) c.gap_kind.ensures
    ∙ ap (λ (q : Place). mid.list ++ record { kind = k; gap = gap_kind gap; place = q } ∷ [])
    c.place_after-place.ensures.value)
    refl refl
    (c.place_after-self.ensures.value ∙ ap (λ
    (q : Place). place_after q c.args.word.now) c.place_after-place.ensures.value)
