-- What is left of a pick's attempts gets less.
use Rattle.std.proofs.Common.{◌≡◌, ℕ, ◌+◌, ◌*◌, ◌<◌, ◌≤◌, Bool, List, [], ◌∷◌, ◌++◌, length, length-append, drop, refl, ap, sym, ◌∙◌, subst, arith}
use Rattle.fort_core.specs.declared.pick.Pick.{Pick, Step, Attempt, out-Pick, roll-Pick, roll-out-Pick}
use Rattle.fort_core.specs.declared.pick.Pick.TheOpen.{Pick-F}
use Rattle.fort_core.specs.declared.pick.Pick.TheVariants.{rolls-Step, rolls-Attempt}
use Rattle.fort_core.specs.declared.program.Program.{Program}
use Rattle.fort_core.specs.Nodes.{nodes, all_nodes}
use Rattle.fort_core.proofs.Falls.{nodes-Step, nodes-Attempt}
use Rattle.fort_walk_course.specs.declared.course.Course.{Course}
use Rattle.fort_walk_course.specs.declared.course.Going.{Going}
use Rattle.fort_walk_course.specs.Courses.{around, held, inwards}
use Rattle.fort_walk_course.specs.Picked.{PicksAttempt}
use Rattle.fort_walk_course.proofs.Around.{last_is_first}
use Rattle.fort_plain.specs.Takes.{GoesOn, Begins, Leaves, LeavesBy}
use Rattle.fort_plain.specs.Within.{IsHere, IsLeft, IsSourceOf, LeavesLess, inmost, left_round, left_within}
use Rattle.fort_plain.specs.declared.act.Turn.{Turn}
use Rattle.fort_plain.specs.declared.take.Next.{Next}
use Rattle.fort_plain.specs.declared.take.Next.TheVariants as next
use Rattle.fort_plain.specs.declared.take.Source.{Source}
use Rattle.fort_plain.specs.declared.take.Within.{Within}

pick_some : (p : Pick) (y : Pick-F Pick) → out-Pick p ≡ y → 1 ≤ nodes p
pick_some p (Pick-F.Step path loc) e =
    let is : p ≡ Step path loc = sym (roll-out-Pick p) ∙ ap roll-Pick e ∙ rolls-Step path loc in
    let n : nodes p ≡ 1 = ap nodes is ∙ nodes-Step path loc in omega (arith, n)
pick_some p (Pick-F.Attempt path within) e =
    let is : p ≡ Attempt path within =
    sym (roll-out-Pick p) ∙ ap roll-Pick e ∙ rolls-Attempt path within in
    let n : nodes p ≡ 1 + all_nodes within = ap nodes is ∙ nodes-Attempt path within in
    omega (arith, n)

-- a pick counts
counts : (p : Pick) → 1 ≤ nodes p
counts p = pick_some p (out-Pick p) refl

behind_all : (xs ys : List Pick) → drop (length xs) (xs ++ ys) ≡ ys
behind_all [] ys = refl
behind_all (x ∷ xs) ys = behind_all xs ys

one_longer : (xs : List Pick) (x : Pick) → length (xs ++ x ∷ []) ≡ length xs + 1
one_longer xs x = length-append xs (x ∷ [])

append_one : (xs : List Pick) (x : Pick) (ys : List Pick) → (xs ++ x ∷ []) ++ ys ≡ xs ++ x ∷ ys
append_one [] x ys = refl
append_one (z ∷ xs) x ys = ap (λ zs. z ∷ zs) (append_one xs x ys)

-- what is left behind one more
behind_one : (xs : List Pick) (x : Pick) (ys all : List Pick) → all ≡ xs ++ x ∷ ys
    → drop (length xs + 1) all ≡ ys
behind_one xs x ys all e =
    (λ i. drop (sym (one_longer xs x) i) ((e ∙ sym (append_one xs x ys)) i))
    ∙ behind_all (xs ++ x ∷ []) ys

-- the innermost machine's picks before the next one
here_nodes : (w : Within) (pick : Pick) (last : Bool) (h : IsHere w pick last)
    → all_nodes (drop (length w.going.course.picks) w.source.picks.now)
    ≡ nodes pick + all_nodes h.behind
here_nodes w pick last h =
    ap (λ ps. all_nodes (drop (length w.going.course.picks) ps)) h.next
    ∙ ap all_nodes (behind_all w.going.course.picks (pick ∷ h.behind))

-- and behind it
next_nodes : (w : Within) (pick : Pick) (last : Bool) (h : IsHere w pick last) (n : ℕ)
    → n ≡ length w.going.course.picks + 1
    → all_nodes (drop n w.source.picks.now) ≡ all_nodes h.behind
next_nodes w pick last h n e =
    ap (λ m. all_nodes (drop m w.source.picks.now)) e
    ∙ ap all_nodes
    (behind_one w.going.course.picks pick h.behind w.source.picks.now h.next)

pub step_less : (p : Program) (w : Within) (turn : Turn) (pick : Pick) (last : Bool) (g : Going)
    → IsHere w pick last → GoesOn p w.going.course turn pick g
    → LeavesLess w (next.Goes (record { going = g; source = w.source; outer = w.outer }))
step_less p w turn pick last g h n =
    let old = here_nodes w pick last h in
    let new : all_nodes (drop (length g.course.picks) w.source.picks.now) ≡ all_nodes h.behind =
    next_nodes w pick last h (length g.course.picks) (ap length n.picks
    ∙ one_longer w.going.course.picks pick) in
    let round : left_round (around g.course) (inmost w.outer [])
    ≡ left_round (around w.going.course) (inmost w.outer []) =
    ap (λ os. left_round (inwards os []) (inmost w.outer [])) n.outer in
    let some = counts pick in
    omega (arith, old, new, round, some)

inmost_last : (os : List Source) (s : Source) (ss : List Source)
    → inmost (os ++ s ∷ []) ss ≡ s ∷ inmost os ss
inmost_last [] s ss = refl
inmost_last (o ∷ os) s ss = inmost_last os s (o ∷ ss)

pub open_less : (p : Program) (w : Within) (pick : Pick) (last end : Bool) (g : Going)
    (inner : Source) (outer : List Source) → IsHere w pick last → Begins p w.going.course pick g
    → IsSourceOf pick end inner → outer ≡ w.outer ++ w.source ∷ []
    → LeavesLess w (next.Goes (record { going = g; source = inner; outer = outer }))
open_less p w pick last end g inner outer h b s o =
    let q = s.1 in
    let count : nodes pick ≡ 1 + all_nodes inner.picks.now =
    ap nodes q.1 ∙ nodes-Attempt q.0 inner.picks.now in
    let old = here_nodes w pick last h in
    let own : all_nodes (drop (length g.course.picks) inner.picks.now)
    ≡ all_nodes inner.picks.now =
    ap (λ ps. all_nodes (drop (length ps) inner.picks.now)) b.picks in
    let back : all_nodes (drop (length b.waiting.picks + 1) w.source.picks.now)
    ≡ all_nodes h.behind =
    next_nodes w pick last h (length b.waiting.picks + 1)
    (ap (λ ps. length ps + 1) b.before) in
    let levels : around g.course ≡ held b.waiting ∷ around w.going.course =
    last_is_first g.course.outer w.going.course.outer b.waiting b.outer in
    let sources : inmost outer [] ≡ w.source ∷ inmost w.outer [] =
    ap (λ os. inmost os []) o ∙ inmost_last w.outer w.source [] in
    let round : left_round (around g.course) (inmost outer [])
    ≡ 1 + 2 * all_nodes (drop (length b.waiting.picks + 1) w.source.picks.now)
    + left_round (around w.going.course) (inmost w.outer []) =
    λ i. left_round (levels i) (sources i) in
    omega (arith, count, old, own, back, round)

pub left_less : (w : Within) (c : Course) (all : List Pick) (g : Going) (n : Next)
    → c ≡ w.going.course → PicksAttempt c all g.course → IsLeft g w.outer n → LeavesLess w n
left_less w c all g (next.Goes v) e k l =
    let levels : around w.going.course ≡ held k.waiting ∷ around g.course =
    ap around (sym e) ∙ last_is_first c.outer g.course.outer k.waiting k.outer in
    let sources : inmost w.outer [] ≡ v.source ∷ inmost v.outer [] =
    ap (λ os. inmost os []) l.1 ∙ inmost_last v.outer v.source [] in
    let old : left_round (around w.going.course) (inmost w.outer [])
    ≡ 1 + 2 * all_nodes (drop (length k.waiting.picks + 1) v.source.picks.now)
    + left_round (around g.course) (inmost v.outer []) =
    λ i. left_round (levels i) (sources i) in
    let count : length g.course.picks ≡ length k.waiting.picks + 1 =
    ap length k.picks
    ∙ one_longer k.waiting.picks (Attempt k.waiting.place.path all) in
    let own : all_nodes (drop (length v.going.course.picks) v.source.picks.now)
    ≡ all_nodes (drop (length k.waiting.picks + 1) v.source.picks.now) =
    ap (λ (x : Going). all_nodes (drop (length x.course.picks) v.source.picks.now)) l.0
    ∙ ap (λ m. all_nodes (drop m v.source.picks.now)) count in
    let round : left_round (around v.going.course) (inmost v.outer [])
    ≡ left_round (around g.course) (inmost v.outer []) =
    ap (λ (x : Going). left_round (around x.course) (inmost v.outer [])) l.0 in
    omega (arith, old, own, round)
left_less w c all g (next.Ends t) e k l = tt

pub leave_less : (p : Program) (w : Within) (pick : Pick) (turn : Turn) (g : Going) (n : Next)
    → LeavesBy p w.going.course turn pick g → IsLeft g w.outer n → LeavesLess w n
leave_less p w pick turn g n k l =
    left_less w w.going.course (w.going.course.picks ++ pick ∷ []) g n refl k.leaves.picked l

pub close_less : (p : Program) (w : Within) (g : Going) (n : Next)
    → Leaves p w.going.course w.going.course.picks g → IsLeft g w.outer n → LeavesLess w n
close_less p w g n k l = left_less w w.going.course w.going.course.picks g n refl k.picked l

-- what is left, at the end nothing
abbrev pub left_next : Next → ℕ
left_next (next.Goes w) = 1 + left_within w
left_next (next.Ends t) = 0

pub next_less : (w : Within) (m n : Next) → m ≡ next.Goes w → LeavesLess w n
    → left_next n < left_next m
next_less w m n e h = subst (λ x. left_next n < left_next x) (sym e) (go n h)
  where
    go : (x : Next) → LeavesLess w x → left_next x < 1 + left_within w
    go (next.Goes v) k = omega (arith, k)
    go (next.Ends t) k = omega arith
