-- The names of a list, one by one.
use Rattle.std.proofs.Common.{◌≡◌, ℕ, suc, ◌+◌, ◌<◌, arith, List, [], ◌∷◌, ◌++◌, length, get_or, Option, Some, None, refl, sym, ap, ◌∙◌, append_assoc, drop}
use Rattle.std.proofs.Math.Seq.{drop-cons}
use Rattle.std.proofs.lemmas.List.{append-nil}
use Rattle.fort_tree.specs.declared.spot.Spot.{Spot}
use Rattle.fort_tree.specs.declared.spot.Name.{Name}
use Rattle.fort_tree.specs.declared.spot.NextName.{NextName}
use Rattle.fort_tree.specs.declared.expr.NextExpr.{NextExpr, out-NextExpr}
use Rattle.fort_parse_first.specs.Plain.{expr_name, next_names, join_names}

-- the names found before, and those of what is left
abbrev pub with_names : List NextName → Option (List NextName) → Option (List NextName)
with_names front None = None
with_names front (Some others) = Some (front ++ others)

pub no_names : (o : Option (List NextName)) → with_names [] o ≡ o
no_names None = refl
no_names (Some others) = refl

joined : (front : List NextName) (comma : Spot) (name : Name) (o : Option (List NextName))
    → with_names front (join_names comma (Some name) o)
    ≡ with_names (front ++ record { comma = comma; name = name } ∷ []) o
joined front comma name None = refl
joined front comma name (Some others) =
    ap Some (sym (append_assoc front (record { comma = comma; name = name } ∷ []) others))

at_next : (exprs : List NextExpr) (i : ℕ) (x : NextExpr) → i < length exprs → x ≡ get_or exprs i x
    → drop i exprs ≡ x ∷ drop (i + 1) exprs
at_next exprs i x lt is =
    let k : suc i ≡ i + 1 = omega arith
    in drop-cons exprs i x lt ∙ ap (λ
    (j : ℕ). get_or exprs i x ∷ drop j exprs) k ∙ ap (λ y. y ∷ drop (i + 1) exprs) (sym is)

pub one_more : (exprs : List NextExpr) (i : ℕ) (x : NextExpr) (name : Name) (front : List NextName)
    (total : Option (List NextName)) → i < length exprs → x ≡ get_or exprs i x
    → Some name ≡ expr_name (out-NextExpr x).expr
    → with_names front (next_names (drop i exprs)) ≡ total
    → with_names (front ++ record { comma = (out-NextExpr x).comma; name = name } ∷ [])
    (next_names (drop (i + 1) exprs)) ≡ total
unfolding next_names
one_more exprs i x name front total lt is named so_far =
    let e : with_names front (next_names (drop i exprs))
    ≡ with_names (front ++ record { comma = (out-NextExpr x).comma; name = name } ∷ [])
    (next_names (drop (i + 1) exprs)) =
    rw (at_next exprs i x lt is, ← named)
    (joined front (out-NextExpr x).comma name (next_names (drop (i + 1) exprs))) in
    sym e ∙ so_far

pub no_name : (exprs : List NextExpr) (i : ℕ) (x : NextExpr) (front : List NextName)
    (total : Option (List NextName)) → i < length exprs → x ≡ get_or exprs i x
    → None ≡ expr_name (out-NextExpr x).expr → with_names front (next_names (drop i exprs)) ≡ total
    → None ≡ total
unfolding next_names
no_name exprs i x front total lt is unnamed so_far =
    let e : with_names front (next_names (drop i exprs)) ≡ None =
    rw (at_next exprs i x lt is, ← unnamed) refl in
    sym e ∙ so_far

pub all_named : (front : List NextName) → with_names front (next_names []) ≡ Some front
unfolding next_names
all_named front = ap Some (append-nil front)
