-- It isn't so that nobody may go on, the rule on sleeping forms kept.
use Rattle.std.proofs.Common.{◌≡◌, ℕ, Bool, true, false, List, [], ◌∷◌, refl, ap, sym, ◌∙◌, subst, inl, inr, ◌⊎◌}
use Rattle.fort_base.specs.declared.ty.Ty.{Ty}
use Rattle.fort_core.specs.declared.program.Program.{Program}
use Rattle.fort_core.specs.declared.term.Term.{Term}
use Rattle.fort_machine.specs.Attempts.{Awake, Sleeps, goes}
use Rattle.fort_machine.specs.Effects.{Store, idle, both, aborting}
use Rattle.fort_machine.specs.Ends.{open_yet, standing, Finished}
use Rattle.fort_machine.specs.Frames.{Frame, on, plug, passes, passed, trodden}
use Rattle.fort_core.specs.declared.pick.Pick.{Step, Attempt}
use Rattle.fort_machine.specs.Runs.{step, none as none_more, so_far, path_to, location}
use Rattle.fort_machine.specs.Proper.{Proper}
use Rattle.fort_machine.proofs.Places.{ready_open, plug_open}
use Rattle.fort_machine.proofs.Ready.{local_ready, stop_ready, form_ready}
use Rattle.fort_machine.proofs.Standing.{not_finished, or_false}
use Rattle.fort_machine.proofs.Properly.{plug_proper}
use Rattle.fort_machine.proofs.ProperRuns.{reached_is_proper}
use Rattle.fort_sound_typed.specs.Envs.{Sig, none}
use Rattle.fort_sound_typed.specs.Typing.{Has}
use Rattle.fort_sound_typed.specs.Sound.{Defined, StoreOk}
use Rattle.fort_sound_typed.specs.Goes.{Complete, Finite, Stands, at_step, at_abort, at_atomic, Goes, done, goes_at, steps_on, aborts_here, tries, NobodyMayGo, SomeoneMayGo, NextThere}
use Rattle.fort_sound_typed.proofs.Facts.{Facts}
use Rattle.fort_sound_typed.proofs.Frames.{plug_has}
use Rattle.fort_sound_typed.proofs.Progress.{progress}
use Rattle.fort_sound_typed.proofs.Reached.{reached_typed, reached_finite}
use Rattle.fort_sound_typed.proofs.Accepted.{facts}

module _ (k : Program) (o : Facts k) (def : Defined k) (all : Complete k) (inner : Bool) (S : Sig)
    (s : Store) (m : StoreOk k S s) (fin : Finite s) (t : Term) (T : Ty) (h : Has k S none t T)
    (p : Proper t)
    (nobody : NobodyMayGo k inner s t) where
  stands_open : (a : Term) → Stands k inner s a → standing a ≡ open_yet
  stands_open a (at_step loc b d l f) = ready_open a (local_ready k inner loc a b d l)
  stands_open a (at_abort i x) = ready_open a (stop_ready k a x)
  stands_open a (at_atomic mode body form bare) = ready_open a (form_ready a mode body form)

  -- a thread that is awake would go on
  awake_goes : (path : List ℕ) → Awake s t path → ⊥
  awake_goes path w =
      go (progress k o def all inner S s m fin
      (plug_has k o.transitive o.reflexive S none w.frames w.part T is_open
      (subst (λ u. Has k S none u T) w.is_term h)).part refl
      (plug_proper w.frames w.part is_open (subst Proper w.is_term p)).0)
    where
      is_open : standing w.part ≡ open_yet
      is_open = ready_open w.part w.ready

      itself : (a : Term) → w.part ≡ a → Stands k inner s a → ⊥
      itself a e (at_step loc b d l f) =
          nobody w.frames a (w.is_term
          ∙ ap (plug w.frames) e) (subst (λ u. passed w.frames u ≡ false) e w.reached)
          (steps_on loc b d l f)
      itself a e (at_abort i x) =
          nobody w.frames a (w.is_term
          ∙ ap (plug w.frames) e) (subst (λ u. passed w.frames u ≡ false) e w.reached)
          (aborts_here i x)
      itself a e (at_atomic mode body form bare) =
          nobody w.frames a (w.is_term
          ∙ ap (plug w.frames) e) (subst (λ u. passed w.frames u ≡ false) e w.reached)
          (tries mode body form bare (inl (λ z. w.sleepless (subst (Sleeps s) (sym e) z))))

      inside : (f : Frame) (fs : List Frame) (a : Term) → w.part ≡ on f (plug fs a)
          → passed (f ∷ fs) a ≡ false → Stands k inner s a → ⊥
      inside f fs a e r st = by (w.ready.no_part f (plug fs a) e)
        where
          by : Finished (plug fs a) ⊎ (passes f (plug fs a) ≡ true) → ⊥
          by (inl x) = not_finished (plug fs a) (plug_open fs a (stands_open a st)) x
          by (inr x) =
              let z : true ≡ false = sym x ∙ (or_false (passes f (plug fs a)) (passed fs a) r).0
              in cc

      go : Goes k inner s w.part → ⊥
      go (done f) = w.ready.unfinished f
      go (goes_at [] a e r st) = itself a e st
      go (goes_at (f ∷ fs) a e r st) = inside f fs a e r st

  pub someone : Goes k inner s t → (Finished t → ⊥) → ⊥
  someone (done f) n = n f
  someone (goes_at fs a e r (at_step loc b d l f)) n = nobody fs a e r (steps_on loc b d l f)
  someone (goes_at fs a e r (at_abort i x)) n = nobody fs a e r (aborts_here i x)
  someone (goes_at fs a e r (at_atomic mode body form bare)) n =
      nobody fs a e r (tries mode body form bare (inr (λ path w. absurd (awake_goes path w))))

pub someone_may_go : SomeoneMayGo
someone_may_go k o d all inner s t r n nobody =
    let h = reached_typed k (facts k o) r in
    let p = (reached_is_proper k all.written inner s t r).0 in
    let f = reached_finite k r in
    someone k (facts k o) d all inner h.1.types s h.1.store f t h.0 h.1.term p nobody
    (progress k (facts k o) d all inner h.1.types s h.1.store f h.1.term refl p) n

pub next_there : NextThere
next_there k o d all s t r n none_next = someone_may_go k o d all false s t r n nobody
  where
    nobody : NobodyMayGo k false s t
    nobody fs a e q (steps_on loc b d l f) =
        none_next (Step (path_to fs) (location loc)) (both d idle)
        (inl (goes (plug (trodden fs) b), step fs refl e q l f (none_more refl refl refl) refl))
    nobody fs a e q (aborts_here i x) = absurd cc
    nobody fs a e q (tries mode body form bare may) =
        none_next (Attempt (path_to fs) []) (aborting idle)
        (inr (so_far fs refl e q form bare may (none_more refl refl refl) refl))
