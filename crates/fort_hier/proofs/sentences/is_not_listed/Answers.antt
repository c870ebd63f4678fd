use Rattle.std.proofs.Common.{◌↔◌, IsTrue, subst, refl, sym, ap, ◌∙◌}
use Rattle.std.proofs.lemmas.Option.{slice_get_read}
use Rattle.fort_types.specs.declared.hierarchy.DeclaredType.{DeclaredType}
use Rattle.fort_hier.specs.Walks.{SomeUnlisted}
use Rattle.fort_hier.proofs.ByRows.{unlisted_told}
use Rattle.fort_hier.proofs.sentences.is_not_listed.Goals as goal

pub returns : goal.returns
returns c =
    unlisted_told _ _ c.index-types-a.result _
    (slice_get_read _ _ _ _ refl c.requires.inside c.index-types-a.is)
    (subst (λ z. IsTrue c.any_unlisted.result
    ↔ SomeUnlisted c.args.types.now z c.args.a) (c.as_slice.ensures ∙ ap (λ
    (d : DeclaredType). d.extends) (sym c.index-types-a.is)) c.any_unlisted.ensures)
