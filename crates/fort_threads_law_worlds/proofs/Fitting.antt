-- What suits both stores, and what both stores have afterwards.
use Rattle.std.proofs.Common.{◌≡◌, ℕ, ◌+◌, ◌<◌, Bool, true, false, List, [], ◌∷◌, ◌++◌, Option, Some, None, if◌then◌else◌, refl, ap, sym, ◌∙◌, subst, rules, ◌⊎◌, inl, inr}
use Rattle.fort_core.specs.declared.program.Program.{Program}
use Rattle.fort_core.specs.declared.value.Value.{Value}
use Rattle.fort_machine.specs.Cells.{Cell, untouched, made, Fits, left_at}
use Rattle.fort_machine.specs.Effects.{Store, Effect, FitsAll, afterwards}
use Rattle.fort_machine.specs.Parts.{IsOneOf}
use Rattle.fort_threads.specs.Threads.{Thread, end_at, is_at, end_of}
use Rattle.fort_threads_law_servers.specs.Prelude.{Names}
use Rattle.fort_threads_law_servers.specs.Roots.{Start}
use Rattle.fort_threads_law_worlds.specs.Worlds.{Spot, unused, for_all, Object, object, World, HasNothing, IsGiven, FollowsAt, AllNew}
use Rattle.fort_threads_law_worlds.specs.Stores.{AreStores}
use Rattle.fort_threads_law_worlds.specs.Effects.{DoAlike}
use Rattle.fort_threads_law_worlds.specs.Laws.{FitsBoth}
use Rattle.fort_threads_law_worlds.proofs.Following.{ForAll, it_is, it_isnt, is_it, Standing, no_object, in_the_air, was_given, stands, open_before}

fits_made : (c : Cell) (v : Option Value) (o : Option Value) → c ≡ made v → o ≡ None → Fits c o
fits_made c v o e q =
    subst (λ x. Fits x o) (sym e) (subst (Fits (made v)) (sym q) tt)

module _ (p : Program) (n : Names) (m : Start) (w : World) (standing : List Thread) (s t : Store)
    (h : AreStores p n m w standing s t) where
  -- where it has nothing its store has none
  pub nothing_there : (l : ℕ) → HasNothing w l → t l ≡ None
  nothing_there l (inl e) = (h.nothing l e).1
  nothing_there l (inr k) = go (stands (w.object k.0))
    where
      part : (o : Object) × (w.object k.0 ≡ Some o) × (k.1 < 4) × (l ≡ k.0 + k.1)
      part = h.are_objects k.0 k.1 l k.2

      go : Standing (w.object k.0) → t l ≡ None
      go (no_object e) = let z : None ≡ Some part.0 = sym e ∙ part.1 in absurd cc
      go (in_the_air f spot e) = ap t part.3 ∙ (h.flying k.0 f spot e).1 k.1 part.2
      go (was_given f end e) = absurd (k.3 (f, end, e))

  -- both stores are the same where terms of the component look later
  pub same_before : {spot : Spot} {x : World} → FollowsAt spot w x → (l : ℕ)
      → x.serves l ≡ for_all → s l ≡ t l
  same_before a l e = go (open_before a l e)
    where
      go : (w.serves l ≡ for_all) ⊎ (w.serves l ≡ unused) → s l ≡ t l
      go (inl q) = h.agree l q
      go (inr q) = let z = h.nothing l q in z.0 ∙ sym z.1

  pub fit_both : {spot : Spot} {x : World} {d e : Effect} → FollowsAt spot w x → DoAlike w x d e
      → FitsAll d s → FitsAll e t
  fit_both {x = x} {d = d} {e = e} a k f l = go (is_it (x.serves l))
    where
      go : ForAll (x.serves l) → Fits (e.cells l) (t l)
      go (it_is q) =
          subst (Fits (e.cells l)) (same_before a l q)
          (subst (λ c. Fits c (s l)) (k.same l q) (f l))
      go (it_isnt q) = other (k.nothing_else l q)
        where
          other : (e.cells l ≡ untouched)
              ⊎ ((v : Option Value) × (e.cells l ≡ made v) × HasNothing w l)
              → Fits (e.cells l) (t l)
          other (inl z) = subst (λ c. Fits c (t l)) (sym z) tt
          other (inr z) = fits_made (e.cells l) z.0 (t l) z.1 (nothing_there l z.2)

  -- and so they are behind what was done alike
  pub agree_after : {spot : Spot} {x : World} {d e : Effect} → FollowsAt spot w x
      → DoAlike w x d e → (l : ℕ) → x.serves l ≡ for_all
      → afterwards d s l ≡ afterwards e t l
  agree_after a k l q = λ i. left_at (k.same l q i) (same_before a l q i)

pub fits_both : FitsBoth
fits_both p n m spot w x standing s t d e h a k f = fit_both p n m w standing s t h a k f

-- ---- ends of threads

at_same : (l : ℕ) (o : Option ℕ) → is_at l o ≡ true → o ≡ Some l
at_same l None e = absurd cc
at_same l (Some k) e = let q : k ≡ l = search (rules, e) in ap Some q

-- no thread of these has an object that wasn't given
pub no_end : (w : World) (us : List Thread)
    → ((u : Thread) (l : ℕ) → IsOneOf u us → u.object ≡ Some l → IsGiven w l)
    → (l : ℕ) → (IsGiven w l → ⊥) → end_of us l ≡ None
no_end w [] f l n = refl
no_end w (u ∷ us) f l n =
    go (is_at l u.object) refl (no_end w us (λ v k i e. f v k (inr i) e) l n)
  where
    go : (b : Bool) → is_at l u.object ≡ b → end_of us l ≡ None
        → (if b then end_at u.phase else end_of us l) ≡ None
    go true e ih = absurd (n (f u l (inl refl) (at_same l u.object e)))
    go false e ih = ih

new_end : (us : List Thread) → AllNew us → (l : ℕ) → end_of us l ≡ None
new_end [] h l = refl
new_end (u ∷ us) h l = go (is_at l u.object) (new_end us h.1 l)
  where
    go : (b : Bool) → end_of us l ≡ None → (if b then end_at u.phase else end_of us l) ≡ None
    go true ih = ap end_at h.0.1
    go false ih = ih

-- threads that have not begun change no end
pub same_end : (us ws : List Thread) → AllNew ws → (l : ℕ) → end_of (us ++ ws) l ≡ end_of us l
same_end [] ws h l = new_end ws h l
same_end (u ∷ us) ws h l =
    ap (λ x. if is_at l u.object then end_at u.phase else x) (same_end us ws h l)
