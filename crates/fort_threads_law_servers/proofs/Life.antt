-- What a server marks is the end of the thread whose function it has read.
use Rattle.std.proofs.Common.{◌≡◌, ℕ, refl, ap, sym, ◌∙◌, subst}
use Rattle.fort_core.specs.declared.pick.Pick.{Pick}
use Rattle.fort_core.specs.declared.program.Program.{Program}
use Rattle.fort_machine.specs.Effects.{Store, Effect}
use Rattle.fort_threads_law_servers.specs.Prelude.{Names}
use Rattle.fort_threads_law_servers.specs.Stages.{End, at_value, at_throw, end_term, Stage, called, asking, trying, got, refused, looking, sent, reads, runs, caught, lost, keeps, has_kept, marks, has_marked, leaves, counts, done, Follows}
use Rattle.fort_threads_law_servers.specs.Servers.{Serves, rests, goes_on, Alone, stays, picks, RanAlone, MarksAnEnd, MarksItsThread}

module _ (p : Program) (n : Names) (m : ℕ) (end : End) where
  -- what is so of a stage from which the mark is come to
  abbrev Comes : Stage → Type 0
  Comes (sent l) = (m ≡ l) × RanAlone p end
  Comes (reads l) = (m ≡ l) × RanAlone p end
  Comes (runs l t) = (m ≡ l) × Alone p t (end_term end)
  Comes (caught l v) = (m ≡ l) × (end ≡ at_throw v)
  Comes (keeps l e) = (m ≡ l) × (end ≡ e)
  Comes (has_kept l e) = (m ≡ l) × (end ≡ e)
  Comes (marks l e) = (m ≡ l) × (end ≡ e)
  Comes (has_marked l e) = (m ≡ l) × (end ≡ e)
  Comes (refused v) = ⊥
  Comes (lost v) = ⊥
  Comes leaves = ⊥
  Comes (counts form) = ⊥
  Comes (done t) = ⊥
  Comes _ = RanAlone p end

  back : (s : Store) (pick : Pick) (d : Effect) (stage next : Stage)
      → Follows p n s pick d stage next → Comes next → Comes stage
  back s pick d called asking h c = c
  back s pick d asking (trying form) h c = c
  back s pick d (trying form) (trying other) h c = c
  back s pick d (trying form) (got v) h c = c
  back s pick d (trying form) (refused v) h c = absurd c
  back s pick d (got v) (looking w) h c = c
  back s pick d (refused v) (done t) h c = absurd c
  back s pick d (looking v) (sent l) h c = c.1
  back s pick d (looking v) (done t) h c = absurd c
  back s pick d (sent l) (reads k) h c = (c.0 ∙ h.0, c.1)
  back s pick d (reads l) (runs k t) h c =
      (c.0 ∙ h.1, (h.0, subst (λ x. Alone p x (end_term end)) h.2 c.1))
  back s pick d (runs l t) (runs k u) h c = (c.0 ∙ h.0, picks u s pick d h.1 c.1)
  back s pick d (runs l t) (keeps k (at_value v)) h c =
      (c.0 ∙ h.0, stays (ap end_term c.1 ∙ sym h.1))
  back s pick d (runs l t) (caught k v) h c = (c.0 ∙ h.0, stays (ap end_term c.1 ∙ sym h.1))
  back s pick d (caught l v) (keeps k (at_throw w)) h c = (c.0 ∙ h.0, c.1 ∙ ap at_throw h.1)
  back s pick d (caught l v) (lost w) h c = absurd c
  back s pick d (keeps l e) (has_kept k x) h c = (c.0 ∙ h.0, c.1 ∙ h.1)
  back s pick d (has_kept l e) (marks k x) h c = (c.0 ∙ h.0, c.1 ∙ h.1)
  back s pick d (marks l e) (has_marked k x) h c = (c.0 ∙ h.0, c.1 ∙ h.1)
  back s pick d (has_marked l (at_value v)) leaves h c = absurd c
  back s pick d (has_marked l (at_throw v)) (counts form) h c = absurd c
  back s pick d leaves (counts form) h c = absurd c
  back s pick d (lost v) (done t) h c = absurd c
  back s pick d (counts form) (counts other) h c = absurd c
  back s pick d (counts form) (done t) h c = absurd c
  back s pick d _ _ h c = absurd h

  comes : {stage last : Stage} → Serves p n stage last → last ≡ has_marked m end → Comes stage
  comes (rests e) q = subst Comes (sym q ∙ e) (refl, refl)
  comes {stage = stage} (goes_on next s pick d h rest) q =
      back s pick d stage next h (comes rest q)

pub marks_an_end : MarksAnEnd
marks_an_end p n m end h = comes p n m end h refl

pub marks_its_thread : MarksItsThread
marks_its_thread p n l m end h = comes p n m end h refl
