-- The last pick of all, legal or begun, from within attempts out to the root's machine.
use Rattle.std.proofs.Common.{◌≡◌, ℕ, ◌+◌, ◌&&◌, Bool, true, false, List, [], ◌∷◌, ◌++◌, refl, ap, sym, ◌∙◌, subst, arith, append_assoc}
use Rattle.fort_core.specs.declared.pick.Pick.{Pick, Attempt}
use Rattle.fort_core.specs.declared.program.Program.{Program}
use Rattle.fort_core.specs.declared.term.Term.{Term}
use Rattle.fort_machine.specs.Effects.{Store, Effect, idle, both, afterwards, aborting}
use Rattle.fort_machine.specs.Attempts.{goes}
use Rattle.fort_machine.specs.Runs.{Runs, none, Begun}
use Rattle.fort_machine.specs.Journals.{MakesWithinBounds, opening_store}
use Rattle.fort_machine.proofs.Runs.{append, runs_fit}
use Rattle.fort_machine.proofs.WholeEffects.{afterwards_both, both_assoc, idle_both}
use Rattle.fort_frames.specs.Frames.{frames, rebuilt}
use Rattle.fort_store_effects.specs.declared.cell.Closing.TheVariants as closing
use Rattle.fort_walk_law_course.proofs.Picks.{attempt_is_begun, begun_within}
use Rattle.fort_walk_law_course.specs.Course.{Held, Base, root_base, base_of, Waits, AllWait}
use Rattle.fort_walk_law_course.proofs.Bounds.{both_bounded, closing_bounded}
use Rattle.fort_plain.specs.Legal.{AreLegal, a_run, begun_last}
use Rattle.fort_plain.specs.Within.{AreSources, is_none}
use Rattle.fort_plain.specs.declared.take.Source.{Source}
use Rattle.fort_plain.proofs.Within.{spent_before, spent_step}

pub join_legal : (p : Program) (ajar inner : Bool) (s : Store) (picks more : List Pick) (t u : Term)
    (d e : Effect) → Runs p inner true s picks t (goes u) d
    → AreLegal p ajar inner (afterwards d s) more u e
    → AreLegal p ajar inner s (picks ++ more) t (both d e)
join_legal p ajar inner s picks more t u d e k (a_run r g) =
    a_run r (append s picks t (goes u) d k u refl more r e g)
join_legal p ajar inner s picks more t u d e k (begun_last before last v d1 d2 o q g w z) =
    let store : afterwards (both d d1) s ≡ afterwards d1 (afterwards d s) =
    afterwards_both d d1 s (runs_fit s picks t (goes u) d k)
    (runs_fit (afterwards d s) before u (goes v) d1 g) in
    begun_last (picks ++ before) last v (both d d1) d2 o (ap (λ ps. picks ++ ps) q
    ∙ sym (append_assoc picks before (last ∷ [])))
    (append s picks t (goes u) d k u refl before (goes v) d1 g)
    (subst (λ x. Begun p true x last v d2) (sym store) w) (ap (both d) z ∙ sym (both_assoc d d1 d2))

begun_out : (p : Program) (b : Base) (now : ℕ) (h : Held) (within : List Pick) (d : Effect)
    → Waits p b now h → AreLegal p true true (afterwards b.done b.store) within h.body d
    → (t : Term)
    × Begun p true (afterwards b.done b.store) (Attempt h.place.path within) t (aborting d)
    × Runs p b.inner true b.store h.picks b.first (goes t) b.done
begun_out p b now h within d w (a_run r k) = (
  rebuilt h.clock (frames h.place.stack) w.form,
  attempt_is_begun p h.mode (afterwards b.done b.store) within h.body r d h.clock h.place
      w.form w.stage.reached w.is_form w.bare w.may k,
  w.stage.runs,
)
begun_out p b now h within d w (begun_last before last u d1 d2 o q k g z) =
    let here = rebuilt h.clock (frames h.place.stack) w.form in
    let begun =
    begun_within p h.mode (afterwards b.done b.store) before last h.body u d1 d2 h.clock h.place
    w.form w.stage.reached w.is_form w.bare w.may k g in (
      here,
      subst
          (λ ps. Begun p true (afterwards b.done b.store) (Attempt h.place.path ps) here
          (aborting d)) (sym q)
          (subst (λ x. Begun p true (afterwards b.done b.store)
          (Attempt h.place.path (before ++ last ∷ [])) here (aborting x)) (sym z) begun),
      w.stage.runs,
    )

open_level : (p : Program) (b : Base) (now : ℕ) (h : Held) (within : List Pick) (d : Effect)
    → Waits p b now h → AreLegal p true true (afterwards b.done b.store) within h.body d
    → AreLegal p true b.inner b.store (h.picks ++ Attempt h.place.path within ∷ []) b.first
    (both b.done (aborting d))
open_level p b now h within d w k =
    let g = begun_out p b now h within d w k in
    join_legal p true b.inner b.store h.picks (Attempt h.place.path within ∷ []) b.first g.0 b.done
    (aborting d) g.2
    (begun_last [] (Attempt h.place.path within) g.0 idle (aborting d) refl refl
    (none refl refl refl) g.1 (sym (idle_both (aborting d))))

-- the whole of the root's picks
pub record AllLegal (p : Program) (goal : List Pick) (cost : ℕ) : Type 0 where
  pub effect : Effect
  pub legal : AreLegal p true false (opening_store p) goal p.first effect
  pub bounded : MakesWithinBounds effect
  pub is_cost : cost ≡ effect.cost

done_bounded : (p : Program) (now : ℕ) (root : Effect) (hs : List Held) (es : List Effect)
    → AllWait p now root hs es → MakesWithinBounds root
    → MakesWithinBounds (base_of p root hs es).done
done_bounded p now root [] es k m = m
done_bounded p now root (h ∷ hs) [] k m = m
done_bounded p now root (h ∷ hs) (e ∷ es) k m = k.1

both_true : (a b : Bool) → (a && b) ≡ true → (a ≡ true) × (b ≡ true)
both_true true b e = (refl, e)
both_true false b e = absurd cc

none_is : (ps : List Pick) → is_none ps ≡ true → ps ≡ []
none_is [] e = refl
none_is (p ∷ ps) e = absurd cc

pub all_legal : (p : Program) (now : ℕ) (root : Effect) (goal : List Pick) (hs : List Held)
    (es : List Effect) (ss : List Source) (within : Source) (d : Effect) (cost : ℕ)
    → AllWait p now root hs es → MakesWithinBounds root → AreSources goal true hs ss within
    → within.ajar ≡ true
    → AreLegal p true (base_of p root hs es).inner (base_of p root hs es).store within.picks.now
    (base_of p root hs es).first d → MakesWithinBounds d → cost ≡ spent_before root hs es + d.cost
    → AllLegal p goal cost
all_legal p now root goal [] es ss within d cost k m s o l b c = absurd s
all_legal p now root goal (h ∷ hs) [] ss within d cost k m s o l b c = absurd k
all_legal p now root goal (h ∷ []) (e ∷ []) [] within d cost k m s o l b c = record {
  effect = both root (aborting d);
  legal = subst (λ ps. AreLegal p true false (opening_store p) ps p.first (both root (aborting d)))
      (sym s.are_picks) (open_level p (root_base p root) now h within.picks.now d k.0 l);
  bounded = both_bounded root (aborting d) m (closing_bounded closing.Aborted d b);
  is_cost = omega (arith, c);
}
all_legal p now root goal (h ∷ []) (e ∷ e2 ∷ es) [] within d cost k m s o l b c = absurd k.2
all_legal p now root goal (h ∷ h2 ∷ hs) (e ∷ es) [] within d cost k m s o l b c =
    let z = s.is_root in absurd cc
all_legal p now root goal (h ∷ hs) (e ∷ es) (s2 ∷ ss) within d cost k m s o l b c =
    let f = s.0 in
    let base = base_of p root hs es in
    let flags = both_true s2.ajar (is_none f.behind) (sym f.is_open ∙ o) in
    let list : s2.picks.now ≡ h.picks ++ Attempt h.place.path within.picks.now ∷ [] =
    f.are_picks
    ∙ ap (λ ps. h.picks ++ Attempt h.place.path within.picks.now ∷ ps)
    (none_is f.behind flags.1) in
    let next = both base.done (aborting d) in
    let step = spent_step p h.clock root hs es k.2 in
    all_legal p h.clock root goal hs es ss s2 next cost k.2 m s.1 flags.0
    (subst (λ ps. AreLegal p true base.inner base.store ps base.first next) (sym list)
    (open_level p base now h within.picks.now d k.0 l))
    (both_bounded base.done (aborting d) (done_bounded p h.clock root hs es k.2 m)
    (closing_bounded closing.Aborted d b)) (omega (arith, c, step))

-- the root's run before the last of its picks
front_is : (xs ys : List Pick) (x y : Pick) → xs ++ x ∷ [] ≡ ys ++ y ∷ [] → xs ≡ ys
front_is [] [] x y e = refl
front_is [] (z ∷ []) x y e = absurd cc
front_is [] (z ∷ w ∷ ys) x y e = absurd cc
front_is (z ∷ []) [] x y e = absurd cc
front_is (z ∷ w ∷ xs) [] x y e = absurd cc
front_is (z ∷ xs) (w ∷ ys) x y e =
    let h : z ≡ w = cc in
    let i = front_is xs ys x y (cc) in λ j. h j ∷ i j

pub root_run : (p : Program) (now : ℕ) (root : Effect) (before : List Pick) (pick : Pick)
    (ajar : Bool) (hs : List Held) (es : List Effect) (ss : List Source) (within : Source)
    → AllWait p now root hs es → AreSources (before ++ pick ∷ []) ajar hs ss within
    → (t : Term) × Runs p false true (opening_store p) before p.first (goes t) root
root_run p now root before pick ajar [] es ss within k s = absurd s
root_run p now root before pick ajar (h ∷ hs) [] ss within k s = absurd k
root_run p now root before pick ajar (h ∷ []) (e ∷ []) [] within k s =
    let w = k.0
    in (
      _,
      subst
          (λ ps. Runs p false true (opening_store p) ps p.first
          (goes (rebuilt h.clock (frames h.place.stack) w.form)) root)
          (sym (front_is before h.picks pick (Attempt h.place.path within.picks.now) s.are_picks))
          w.stage.runs,
    )
root_run p now root before pick ajar (h ∷ []) (e ∷ e2 ∷ es) [] within k s = absurd k.2
root_run p now root before pick ajar (h ∷ h2 ∷ hs) (e ∷ es) [] within k s =
    let z = s.is_root in absurd cc
root_run p now root before pick ajar (h ∷ hs) (e ∷ es) (s2 ∷ ss) within k s =
    root_run p h.clock root before pick ajar hs es ss s2 k.2 s.1
