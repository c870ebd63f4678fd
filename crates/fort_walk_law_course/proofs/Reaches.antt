-- Where a run has come is where machines come to.
use Rattle.std.proofs.Common.{◌≡◌, ℕ, List, [], ◌∷◌, refl, ap, ◌∙◌, subst}
use Rattle.fort_core.specs.declared.program.Program.{Program}
use Rattle.fort_machine.specs.Effects.{Effect}
use Rattle.fort_machine.specs.Proper.{Reached, at_first, by_run, in_attempt}
use Rattle.fort_machine.proofs.ProperRuns.{enters_bare}
use Rattle.fort_frames.specs.Frames.{frames, outward, rebuilt}
use Rattle.fort_frames.proofs.Same.{same_term}
use Rattle.fort_store_effects.specs.Levels.{seen}
use Rattle.fort_walk_law_course.specs.Course.{Held, base_of, AllWait, is_inner}
use Rattle.fort_walk_law_course.specs.Laws.{ReachedHere, BareHere}
use Rattle.fort_walk_law_course.proofs.Store.{store_by, seen_base, inner_is}

-- each machine's beginning
begun_here : (p : Program) (now : ℕ) (root : Effect) (ws : List Held) (es : List Effect)
    → AllWait p now root ws es
    → Reached p (base_of p root ws es).inner (base_of p root ws es).store
    (base_of p root ws es).first
begun_here p now root [] es k = at_first refl refl refl
begun_here p now root (w ∷ ws) [] k = absurd k
begun_here p now root (w ∷ ws) (e ∷ es) k =
    let waits = k.0 in
    in_attempt (outward w.clock (frames w.place.stack))
    (by_run (begun_here p w.clock root ws es k.2) waits.stage.runs refl)
    (same_term w.clock (frames w.place.stack) waits.form) waits.is_form refl

pub reached_here : ReachedHere
reached_here p fuel v picks ws now t c =
    let b = base_of p c.root ws c.attempts in
    let store : seen v ≡ store_by p c.root ws c.attempts =
    ap seen c.levels ∙ seen_base p now c.root ws c.attempts c.waiting in
    subst (λ i. Reached p i (seen v) t) (inner_is p now c.root ws c.attempts c.waiting)
    (by_run (begun_here p now c.root ws c.attempts c.waiting) c.runs store)

pub bare_here : BareHere
bare_here p w fuel v picks ws clock fresh place a c =
    enters_bare p w (is_inner ws) (seen v) (rebuilt clock (frames place.stack) a)
    (reached_here p fuel v picks ws clock (rebuilt clock (frames place.stack) a) c.comes)
    (outward clock (frames place.stack)) a (same_term clock (frames place.stack) a)
