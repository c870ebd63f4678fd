use Rattle.std.proofs.Common.{subst}
use Rattle.fort_tree.specs.Openers.{AllShallow, FirstDeep}
use Rattle.fort_parse_longest.specs.Parts.{IsPlaceAt, TooDeep, Syntax}
use Rattle.fort_parse_longest.proofs.NoParts.{no_type}
use Rattle.fort_parse_longest.proofs.parts.type_at.Goals as goal

pub returns-in-Some : goal.returns-in-Some
returns-in-Some c =
    TooDeep (subst (λ l. FirstDeep l c.in-Some.place) c.as_slice-list.ensures c.in-Some.ensures)

pub returns-in-None : goal.returns-in-None
returns-in-None c =
    Syntax (subst AllShallow c.as_slice-list.ensures c.in_default.ensures)
    (no_type c.args.tokens.now.names c.as_slice.result.now c.args.tokens.now.list
    c.as_slice-list.result.now c.args.at c.as_slice.ensures c.as_slice-list.ensures
    (rw c.in-None.is at c.in_ok-ty.ensures))
    (subst (λ l. IsPlaceAt l c.args.at c.place_at.result) c.as_slice-list.ensures
    c.place_at.ensures)
