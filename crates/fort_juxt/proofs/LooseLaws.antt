-- A list has at most one grouping or refusal, and the code finds it.
use Rattle.std.proofs.Common.{◌≡◌, ℕ, ◌+◌, List, [], ◌∷◌, take, drop, get_or, Ok, Err, refl, sym, ap, ◌∙◌}
use Rattle.fort_base.specs.declared.rules.TheConstants.{FUNCTION_AS_VALUE}
use Rattle.fort_base.specs.declared.refusal.CheckFault.TheVariants.{Refused}
use Rattle.fort_juxt.specs.declared.elements.Element.{Element}
use Rattle.fort_juxt.specs.declared.elements.Grouping.{Grouping}
use Rattle.fort_juxt.specs.Loose.{name_ends, chunk_groups, joined, Groups, name_alone, grouped, OneGrouping}
use Rattle.fort_juxt.specs.Walks.{IsAt, IsUnmet, chunks_of, groups_from}
use Rattle.fort_juxt.proofs.FirstLaws.{first_once, never_both, at_first, at_nowhere, drop_one}
use Rattle.fort_juxt.proofs.Divisions.{one_division, divided}

pub one_grouping : OneGrouping
one_grouping es r s (name_alone b t x h q) (name_alone c u y k p) =
    let o = first_once name_ends es b (x ∷ t) c (y ∷ u) h k in let i = o.1 in cc
one_grouping es r s (name_alone b t x h q) (grouped n cs d g i p) =
    absurd (never_both name_ends es b (x ∷ t) h n)
one_grouping es r s (grouped n cs d g i p) (name_alone b t x h q) =
    absurd (never_both name_ends es b (x ∷ t) h n)
one_grouping es r s (grouped n cs d g i q) (grouped m ds e h j p) =
    let o : g ∷ [] ≡ h ∷ [] =
    sym i ∙ (ap (λ xs. joined (chunk_groups 0 xs)) (one_division es cs ds d e) ∙ j) in cc

pub refuses_name : (es : List Element) (at : ℕ) (d : Element) → IsAt name_ends es at
    → Groups es (Err (Refused FUNCTION_AS_VALUE (get_or es at d).place))
refuses_name es at d h =
    name_alone (take at es) (drop (at + 1) es) (get_or es at d)
    (at_first name_ends es at _ h (drop_one es at d h.within)) refl

pub groups : (es : List Element) (g : Grouping) → IsUnmet name_ends es
    → joined (groups_from es 0) ≡ g ∷ [] → Groups es (Ok g)
groups es g n e = grouped (at_nowhere name_ends es refl n) (chunks_of es) (divided es) g e refl
