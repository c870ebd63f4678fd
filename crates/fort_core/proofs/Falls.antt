-- What falls as picks are let go.
use Rattle.std.proofs.Common.{◌≡◌, ℕ, ◌+◌, ◌*◌, ◌<◌, List, [], ◌∷◌, ◌++◌, MatchOption, IsPermutation, sum_by, Option, Some, None, refl, arith, sym, ap, ◌∙◌}
use Rattle.std.proofs.lemmas.List.Sums.{sum_by-cons}
use Rattle.std.proofs.lemmas.List.Sorted.{sum_by-IsPermutation}
use Rattle.fort_core.specs.declared.pick.Pick.{Pick, Step, Attempt, fold-roll-Pick}
use Rattle.fort_core.specs.declared.pick.Pick.TheOpen.{Pick-F}
use Rattle.fort_core.specs.declared.pick.Pick.TheVariants.{rolls-Attempt, rolls-Step}
use Rattle.fort_core.specs.declared.path.Path.{Path}
use Rattle.fort_base.specs.declared.ids.Loc.{Loc}
use Rattle.fort_core.specs.Nodes.{nodes, all_nodes, work, nodes_step}

pub nodes-Attempt : (path : Path) (inner : List Pick)
    → nodes (Attempt path inner) ≡ 1 + all_nodes inner
nodes-Attempt path inner =
    ap nodes (sym (rolls-Attempt path inner))
    ∙ fold-roll-Pick ℕ nodes_step (Pick-F.Attempt path inner)

pub nodes-Step : (path : Path) (loc : Loc) → nodes (Step path loc) ≡ 1
nodes-Step path loc =
    ap nodes (sym (rolls-Step path loc)) ∙ fold-roll-Pick ℕ nodes_step (Pick-F.Step path loc)

pub all_nodes-last : (ps : List Pick) (p : Pick) → all_nodes (ps ++ p ∷ []) ≡ all_nodes ps + nodes p
all_nodes-last [] p = omega arith
all_nodes-last (q ∷ ps) p =
    let e : all_nodes ((q ∷ ps) ++ p ∷ []) ≡ nodes q + all_nodes (ps ++ p ∷ []) = refl in
    let f : all_nodes (q ∷ ps) ≡ nodes q + all_nodes ps = refl in
    omega (arith, all_nodes-last ps p)

all_nodes-sum_by : (ps : List Pick) → all_nodes ps ≡ sum_by nodes ps
all_nodes-sum_by [] = refl
all_nodes-sum_by (p ∷ ps) =
    let e : all_nodes (p ∷ ps) ≡ nodes p + all_nodes ps = refl in
    omega (arith, all_nodes-sum_by ps, sum_by-cons nodes p ps)

all_nodes-permutation : (ps qs : List Pick) → IsPermutation ps qs → all_nodes qs ≡ all_nodes ps
all_nodes-permutation ps qs e =
    all_nodes-sum_by qs ∙ sum_by-IsPermutation nodes ps qs e ∙ sym (all_nodes-sum_by ps)

squares : (a b : ℕ) → a ≡ b → a * a ≡ b * b
squares a b e = ap (λ n. n * n) e

pub work-first : (self next : Pick) (inner rest : List Pick) → nodes self ≡ 1 + all_nodes inner
    → inner ≡ rest ++ next ∷ [] → work next rest < work self []
work-first self next inner rest e f =
    let g : all_nodes inner ≡ all_nodes rest + nodes next =
    ap all_nodes f ∙ all_nodes-last rest next in
    let h : nodes self ≡ 1 + (nodes next + all_nodes rest) = omega arith in
    omega (arith, squares _ _ h)

-- the picks that wait stand in `held`, wherever it is among the others
pub work-swap : (self next held : Pick) (inner init held_last rest left : List Pick)
    → nodes self ≡ 1 + all_nodes inner → nodes held ≡ 1 + all_nodes left
    → inner ≡ init ++ next ∷ [] → held_last ≡ init ++ held ∷ [] → IsPermutation held_last rest
    → work next rest < work self left
work-swap self next held inner init held_last rest left e k f h p =
    let a : all_nodes inner ≡ all_nodes init + nodes next =
    ap all_nodes f ∙ all_nodes-last init next in
    let b : all_nodes rest ≡ all_nodes init + nodes held =
    all_nodes-permutation held_last rest p ∙ ap all_nodes h ∙ all_nodes-last init held in
    let same : nodes self + all_nodes left ≡ nodes next + all_nodes rest = omega arith in
    omega (arith, squares _ _ same)

pub work-popped : (self : Pick) (inner rest left : List Pick) (o : Option Pick)
    → nodes self ≡ 1 + all_nodes inner → left ≡ []
    → MatchOption o ((inner ≡ []) × (rest ≡ [])) (λ last. inner ≡ rest ++ last ∷ [])
    → MatchOption o (rest ≡ []) (λ next. work next rest < work self left)
work-popped self inner rest left None e n f = f.1
work-popped self inner rest left (Some next) e n f = rw n (work-first self next inner rest e f)

work-next-some : (self next : Pick) (left rest : List Pick) → nodes self ≡ 1
    → left ≡ rest ++ next ∷ [] → work next rest < work self left
work-next-some self next left rest e f =
    let g : all_nodes left ≡ all_nodes rest + nodes next = ap all_nodes f ∙ all_nodes-last rest next
    in
    let h : nodes self + all_nodes left ≡ 1 + (nodes next + all_nodes rest) = omega arith in
    omega (arith, squares _ _ h)

pub work-next : (self : Pick) (left rest : List Pick) (o : Option Pick) → nodes self ≡ 1
    → MatchOption o ((left ≡ []) × (rest ≡ [])) (λ last. left ≡ rest ++ last ∷ [])
    → MatchOption o (rest ≡ []) (λ next. work next rest < work self left)
work-next self left rest None e f = f.1
work-next self left rest (Some next) e f = work-next-some self next left rest e f
