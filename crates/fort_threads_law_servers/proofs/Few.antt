-- At most 64 serve at each time of a run.
use Rattle.std.proofs.Common.{◌≡◌, ℕ, ◌+◌, ◌≤◌, List, ap, sym, subst, arith, inl, inr}
use Rattle.fort_core.specs.declared.pick.Pick.{Pick}
use Rattle.fort_core.specs.declared.program.Program.{Program}
use Rattle.fort_machine.specs.Effects.{Store, Effect}
use Rattle.fort_threads_law_servers.specs.Prelude.{Names}
use Rattle.fort_threads_law_servers.specs.Trees.{Tree, unread, undivided, server, halves, over, count_of, Grows}
use Rattle.fort_threads_law_servers.specs.Roots.{Start, Root, made_first, all, Leads, Course, rests, goes_on}
use Rattle.fort_threads_law_servers.specs.Few.{room, FewServe, FewServers}

shrinks : (p : Program) (n : Names) (s : Store) (pick : Pick) (d : Effect) (tree next : Tree)
    → Grows p n s pick d tree next → room next ≤ room tree
shrinks p n s pick d unread (undivided items) h =
    let e : count_of items ≡ 64 = ap count_of h.0 in omega arith
shrinks p n s pick d (undivided items) (over t) h = omega arith
shrinks p n s pick d (undivided items) (server stage) h =
    let e : count_of items ≡ 1 = h.0 in omega arith
shrinks p n s pick d (undivided items) (halves m a k b) h =
    let e : room a ≡ count_of h.0 = ap room h.4 in
    let f : room b ≡ count_of h.1 = ap room h.6 in
    let g : count_of h.0 + count_of h.1 ≡ count_of items = h.2 in omega arith
shrinks p n s pick d (server stage) (server next) h = omega arith
shrinks p n s pick d (halves m a k b) (halves m2 a2 k2 b2) (inl (q, e, g, x, y, z)) =
    let i : room a2 ≤ room a = shrinks p n s q d a a2 g in
    let f : room b2 ≡ room b = ap room z in omega arith
shrinks p n s pick d (halves m a k b) (halves m2 a2 k2 b2) (inr (q, e, g, x, y, z)) =
    let i : room b2 ≤ room b = shrinks p n s q d b b2 g in
    let f : room a2 ≡ room a = ap room y in omega arith
shrinks p n s pick d (halves m a k b) (over t) h = omega arith
shrinks p n s pick d _ _ h = absurd h

few_next : (p : Program) (n : Names) (m : Start) (s : Store) (pick : Pick) (d : Effect)
    (root next : Root) → FewServe root → Leads p n m s pick d root next → FewServe next
few_next p n m s pick d (made_first l) (all k a stage b tree) h q =
    let e : room tree ≡ 64 = ap room q.4 in omega arith
few_next p n m s pick d (all l a stage b tree) (all k a2 next b2 grown) h
    (x, inl (q, e, f, y, z, w)) =
    let g : room grown ≡ room tree = ap room w in omega arith
few_next p n m s pick d (all l a stage b tree) (all k a2 next b2 grown) h
    (x, inr (q, e, f, y, z, w)) =
    let g : room grown ≤ room tree = shrinks p n s q d tree grown f in omega arith
few_next p n m s pick d _ (all k a stage b tree) h q = absurd q
few_next p n m s pick d _ _ h q = tt

few : {p : Program} {n : Names} {m : Start} {s : Store} {picks : List Pick} {from to : Root}
    {d : Effect} → Course p n m s picks from to d → FewServe from → FewServe to
few (rests a e c) h = subst FewServe (sym e) h
few {p = p} {n = n} {m = m} {s = s} {from = from} (goes_on next pick e f a l rest w) h =
    few rest (few_next p n m s pick e from next h l)

pub few_servers : FewServers
few_servers p n m s picks to d c = few c tt
