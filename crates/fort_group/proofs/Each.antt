-- The flat expressions before the one that is grouped next have their groupings.
use Rattle.std.proofs.Common.{◌≡◌, ℕ, ◌+◌, ◌<◌, List, [], ◌∷◌, ◌++◌, length, get_or, take, drop, suc, Result, Ok, Err, sym, ap, ◌∙◌, subst}
use Rattle.std.proofs.Math.Seq.{split_at}
use Rattle.std.proofs.lemmas.List.{take_more}
use Rattle.std.specs.List.{AllByRecursion}
use Rattle.std.specs.Result.{IsErr, IsErrAnd}
use Rattle.fort_base.specs.declared.refusal.CheckFault.{CheckFault}
use Rattle.fort_base.specs.declared.refusal.CheckFault.TheVariants.{Refused, Memory}
use Rattle.fort_tree.specs.declared.grouped.FlatGrouping.{FlatGrouping}
use Rattle.fort_tree.specs.declared.grouped.Row.{Row}
use Rattle.fort_group.specs.Answers.{IsGrouped, Answers}
use Rattle.fort_group.specs.Components.{HasGroups, BreaksNone, AnswersEach}
use Rattle.fort_group.proofs.Rules.{breaks_none}

behind : (rows : List Row) (groups : List FlatGrouping) (row : Row) (group : FlatGrouping)
    → HasGroups rows groups
    → group.place ≡ row.place → IsGrouped row group.grouped
    → HasGroups (rows ++ row ∷ []) (groups ++ group ∷ [])
behind [] [] row group h place it = (place, it, tt)
behind [] (g ∷ gs) row group h place it = absurd h
behind (r ∷ rs) [] row group h place it = absurd h
behind (r ∷ rs) (g ∷ gs) row group h place it = (h.0, h.1, behind rs gs row group h.2 place it)

kept : (rows : List Row) (groups : List FlatGrouping) → HasGroups rows groups
    → AllByRecursion BreaksNone rows
kept [] groups h = tt
kept (r ∷ rs) [] h = absurd h
kept (r ∷ rs) (g ∷ gs) h = (breaks_none r g.grouped h.1, kept rs gs h.2)

-- one more has its grouping
pub one_more : (rows : List Row) (i : ℕ) (row : Row) (groups : List FlatGrouping)
    (group : FlatGrouping) → i < length rows → row ≡ get_or rows i row
    → HasGroups (take i rows) groups → group.place ≡ row.place → IsGrouped row group.grouped
    → HasGroups (take (i + 1) rows) (groups ++ group ∷ [])
one_more rows i row groups group lt is h place it =
    let e : take (i + 1) rows ≡ take i rows ++ row ∷ [] =
    take_more rows i row lt ∙ ap (λ r. take i rows ++ r ∷ []) (sym is) in
    subst (λ rs. HasGroups rs (groups ++ group ∷ [])) (sym e)
    (behind (take i rows) groups row group h place it)

-- the first that breaks a rule is the answer
pub stopped : (rows : List Row) (i : ℕ) (row : Row) (groups : List FlatGrouping) → i < length rows
    → row ≡ get_or rows i row
    → HasGroups (take i rows) groups → (e : CheckFault) → Answers row (Err e)
    → AnswersEach rows (Err e)
stopped rows i row groups lt is h Memory breaks = tt
stopped rows i row groups lt is h (Refused rule place) breaks = record {
  earlier = take i rows;
  it = row;
  later = drop (suc i) rows;
  order = split_at rows i row lt ∙ ap (λ r. take i rows ++ r ∷ drop (suc i) rows) (sym is);
  kept = kept (take i rows) groups h;
  breaks = breaks;
}

-- what stopped the walk is the answer
pub answered : (rows : List Row) (r : Result (List FlatGrouping) CheckFault) (e : CheckFault)
    → IsErr r → IsErrAnd r (λ f. f ≡ e) → AnswersEach rows (Err e) → AnswersEach rows r
answered rows (Ok groups) e fails is answers = absurd (cc fails)
answered rows (Err f) e fails is answers = subst (λ v. AnswersEach rows (Err v)) (sym is) answers
