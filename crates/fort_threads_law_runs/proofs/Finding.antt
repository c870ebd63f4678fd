-- What stretches find, one after the other and in attempts.
use Rattle.std.proofs.Common.{◌≡◌, ℕ, true, Option, Some, None, List, [], ◌∷◌, ◌++◌, refl, ap, sym, ◌∙◌, subst, ◌⊎◌, inl, inr}
use Rattle.fort_core.specs.declared.program.Program.{Program}
use Rattle.fort_core.specs.declared.value.Value.{Value, Truth}
use Rattle.fort_machine.specs.Cells.{Cell, untouched, found, made, Fits, left_at, joined, later, first_read, given_back, taken_away}
use Rattle.fort_machine.specs.Effects.{Store, Effect, both, idle, paid, completing, failing, aborting, FitsAll, afterwards}
use Rattle.fort_threads.specs.Threads.{Thread}
use Rattle.fort_threads_law_servers.specs.Prelude.{Names}
use Rattle.fort_threads_law_servers.specs.Roots.{Start}
use Rattle.fort_threads_law_worlds.specs.Worlds.{Spot, unused, for_all, of_prelude, World, FollowsAt}
use Rattle.fort_threads_law_worlds.specs.Stores.{AreStores}
use Rattle.fort_threads_law_worlds.specs.Effects.{FindsOpen}

-- a stretch that found nothing
pub finds_none : (m : Start) (w : World) (d : Effect) → ((l : ℕ) → d.cells l ≡ untouched)
    → FindsOpen m w d
finds_none m w d h l r v e = let z : untouched ≡ found r v = sym (h l) ∙ e in absurd cc

pub finds_paid : (m : Start) (w : World) (d : Effect) (cost : ℕ) → d ≡ paid cost → FindsOpen m w d
finds_paid m w d cost e = finds_none m w d (λ l. ap (λ (x : Effect). x.cells l) e)

-- an attempt found what its inner run found
found_back : (c : Cell) (r v : Option Value) → given_back c ≡ found r v
    → (u : Option Value) × (c ≡ found r u)
found_back untouched r v e = absurd cc
found_back (found q w) r v e = let z : q ≡ r = cc in (w, ap (λ x. found x w) z)
found_back (made w) r v e = absurd cc

found_away : (c : Cell) (r v : Option Value) → taken_away c ≡ found r v
    → (u : Option Value) × (c ≡ found r u)
found_away untouched r v e = absurd cc
found_away (found q w) r v e = let z : q ≡ r = cc in (w, ap (λ x. found x w) z)
found_away (made w) r v e = absurd cc

pub finds_completed : (m : Start) (w : World) (d : Effect) → FindsOpen m w d
    → FindsOpen m w (completing d)
finds_completed m w d h = h

pub finds_failed : (m : Start) (w : World) (d : Effect) → FindsOpen m w d
    → FindsOpen m w (failing d)
finds_failed m w d h l r v e = let q = found_back (d.cells l) r v e in h l r q.0 q.1

pub finds_aborted : (m : Start) (w : World) (d : Effect) → FindsOpen m w d
    → FindsOpen m w (aborting d)
finds_aborted m w d h l r v e = let q = found_away (d.cells l) r v e in h l r q.0 q.1

-- what two stretches found together
module _ (p : Program) (n : Names) (m : Start) (spot : Spot) (w x : World) (standing : List Thread)
    (s t : Store) (d e : Effect) (a : FollowsAt spot w x) (h : AreStores p n m w standing s t)
    (f : FitsAll e (afterwards d s)) (j : FindsOpen m w d) (k : FindsOpen m x e) where
  abbrev Open : ℕ → Option Value → Type 0
  Open l r = (w.serves l ≡ for_all)
      ⊎ ((l ≡ m.started) × ((y : Value) → r ≡ Some y → y ≡ Truth true))

  -- what the second one found alone was there before both
  was_there : (l : ℕ) (r v : Option Value) → d.cells l ≡ untouched → e.cells l ≡ found r v
      → w.serves l ≡ unused → ⊥
  was_there l r v q z u =
      subst (λ c. c) (λ i. Fits (z i) (left_at (q i) ((h.nothing l u).0 i))) (f l)

  shut : (l : ℕ) → l ≡ m.started → x.serves l ≡ for_all → ⊥
  shut l e q =
      let own : w.serves l ≡ of_prelude = ap w.serves e ∙ h.own.3 in
      let used : w.serves l ≡ unused → ⊥ =
      λ z. let y : of_prelude ≡ unused = sym own ∙ z in absurd cc in
      let y : of_prelude ≡ for_all = sym own ∙ sym (a.uses l used) ∙ q in absurd cc

  read_once : (l : ℕ) (r1 v1 r2 : Option Value) → l ≡ m.started
      → ((y : Value) → r1 ≡ Some y → y ≡ Truth true)
      → (x.serves l ≡ for_all) ⊎ ((l ≡ m.started) × ((y : Value) → r2 ≡ Some y → y ≡ Truth true))
      → (y : Value) → first_read r1 v1 r2 ≡ Some y → y ≡ Truth true
  read_once l (Some r1) v1 r2 q g i y z = g y z
  read_once l None (Some v1) r2 q g i y z = let e : None ≡ Some y = z in absurd cc
  read_once l None None r2 q g (inl i) y z = absurd (shut l q i)
  read_once l None None r2 q g (inr i) y z = i.1 y z

  open_read : (l : ℕ) (r1 v1 r2 : Option Value) → Open l r1
      → (x.serves l ≡ for_all) ⊎ ((l ≡ m.started) × ((y : Value) → r2 ≡ Some y → y ≡ Truth true))
      → Open l (first_read r1 v1 r2)
  open_read l r1 v1 r2 (inl q) i = inl q
  open_read l r1 v1 r2 (inr q) i = inr (q.0, read_once l r1 v1 r2 q.0 q.1 i)

  second : (l : ℕ) (r : Option Value) → (w.serves l ≡ unused → ⊥)
      → (x.serves l ≡ for_all) ⊎ ((l ≡ m.started) × ((y : Value) → r ≡ Some y → y ≡ Truth true))
      → Open l r
  second l r u (inl q) = inl (sym (a.uses l u) ∙ q)
  second l r u (inr q) = inr q

  at : (l : ℕ) (r v : Option Value) (b c : Cell) → d.cells l ≡ b → e.cells l ≡ c
      → joined b c ≡ found r v → Open l r
  at l r v untouched untouched q z y = absurd cc
  at l r v untouched (found r2 v2) q z y =
      let i : r2 ≡ r = cc in
      subst (Open l) i (second l r2 (was_there l r2 v2 q z) (k l r2 v2 z))
  at l r v untouched (made v2) q z y = absurd cc
  at l r v (found r1 v1) untouched q z y = let i : r1 ≡ r = cc in subst (Open l) i (j l r1 v1 q)
  at l r v (found r1 v1) (found r2 v2) q z y =
      let i : first_read r1 v1 r2 ≡ r = cc in
      subst (Open l) i (open_read l r1 v1 r2 (j l r1 v1 q) (k l r2 v2 z))
  at l r v (found r1 v1) (made v2) q z y = absurd cc
  at l r v (made v1) untouched q z y = absurd cc
  at l r v (made v1) (found r2 v2) q z y = absurd cc
  at l r v (made v1) (made v2) q z y = absurd cc

  pub finds_both : FindsOpen m w (both d e)
  finds_both l r v y = at l r v (d.cells l) (e.cells l) refl refl y
