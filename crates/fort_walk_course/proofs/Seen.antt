-- What stands in the levels after something more was done, and what it cost.
use Rattle.std.proofs.Common.{◌≡◌, ℕ, ◌+◌, ◌<◌, ◌≤◌, List, Option, None, refl, ap, sym, ◌∙◌, subst, arith}
use Rattle.fort_core.specs.declared.pick.Pick.{Pick}
use Rattle.fort_core.specs.declared.program.Program.{Program}
use Rattle.fort_core.specs.declared.value.Value.{Value}
use Rattle.fort_machine.specs.Cells.{Cell, untouched, found, made, Fits, left_at}
use Rattle.fort_machine.specs.Effects.{Store, Effect, FitsAll, afterwards}
use Rattle.fort_machine.specs.Attempts.{Ended}
use Rattle.fort_machine.proofs.Runs.{runs_fit}
use Rattle.fort_store_effects.specs.Calls.{Adds}
use Rattle.fort_store_effects.specs.Levels.{Levels, seen, spent, added}
use Rattle.fort_walk_law_course.specs.Course.{Held, Comes, NothingFrom}
use Rattle.fort_walk_law_course.proofs.Bounds.{spent_added}
use Rattle.fort_walk_law_course.proofs.Store.{store_by, seen_base, seen_added}
use Rattle.fort_walk_course.specs.Taken.{MakesBelow}

-- nothing is left at a location that isn't there and isn't made
none_left : (c : Cell) (l n : ℕ) → n ≤ l → Fits c None → ((v : Option Value) → c ≡ made v → l < n)
    → left_at c None ≡ None
none_left untouched l n k f b = refl
none_left (found r w) l n k f b = absurd f
none_left (made w) l n k f b = let low = b w refl in let x : ⊥ = omega (arith, k, low) in absurd x

nothing_after : (e : Effect) (s : Store) (old new : ℕ) → old ≤ new → FitsAll e s → MakesBelow new e
    → NothingFrom old s → NothingFrom new (afterwards e s)
nothing_after e s old new k f b none l low =
    let here : s l ≡ None = none l (omega (arith, k, low)) in
    ap (left_at (e.cells l)) here
    ∙ none_left (e.cells l) l new low (subst (Fits (e.cells l)) here (f l)) (b l)

seen_after : (p : Program) (fuel : ℕ) (v : Levels) (picks : List Pick) (ws : List Held) (now : ℕ)
    (r : Ended) (e : Effect) → Comes p fuel v picks ws now r → FitsAll e (seen v)
    → seen (added e v) ≡ afterwards e (seen v)
seen_after p fuel v picks ws now r e c f =
    let runs = c.runs in
    let store : seen v ≡ store_by p c.root ws c.attempts =
    ap seen c.levels ∙ seen_base p now c.root ws c.attempts c.waiting in
    ap (λ x. seen (added e x)) c.levels
    ∙ seen_added p now c.root ws c.attempts e c.waiting (runs_fit _ _ _ _ _ runs)
    (subst (FitsAll e) store f)
    ∙ ap (afterwards e) (sym store)

pub nothing_seen : (p : Program) (fuel : ℕ) (v w : Levels) (picks : List Pick) (ws : List Held)
    (now : ℕ) (r : Ended) (e : Effect) (old new : ℕ) → Comes p fuel v picks ws now r → Adds e v w
    → old ≤ new → MakesBelow new e → NothingFrom old (seen v) → NothingFrom new (seen w)
nothing_seen p fuel v w picks ws now r e old new c a k b none =
    subst (NothingFrom new) (sym (ap seen a.is_new ∙ seen_after p fuel v picks ws now r e c a.fits))
    (nothing_after e (seen v) old new k a.fits b none)

-- what was spent
pub spent_adds : (e : Effect) (v w : Levels) → w ≡ added e v → spent w ≡ spent v + e.cost
spent_adds e v w q = ap spent q ∙ spent_added e v v.attempts
