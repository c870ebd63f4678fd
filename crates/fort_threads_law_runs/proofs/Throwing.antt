-- Where nothing is thrown but what may be, nothing else stands in a throw among frames.
use Rattle.std.proofs.Common.{◌≡◌, List, [], ◌∷◌, ◌++◌, refl, ap, sym, ◌∙◌}
use Rattle.fort_core.specs.declared.term.Term.{Term, Throw}
use Rattle.fort_machine.specs.Ends.{open_yet, standing}
use Rattle.fort_machine.specs.Frames.{Frame, in_throw, on, plug}
use Rattle.fort_machine.proofs.Runs.{plug_append}
use Rattle.fort_threads_law_servers.specs.Prelude.{Names}
use Rattle.fort_threads_law_servers.specs.Roots.{Start}
use Rattle.fort_threads_law_worlds.specs.Known.{Own}
use Rattle.fort_threads_law_matches.specs.Matches.{MayStandIn, ThrowsRightly}
use Rattle.fort_threads_law_runs.specs.Premises.{ThrowsFinely}

module _ (n : Names) (m : Start) (o : Own) where
  stands_in : (gs : List Frame) (f : Frame) (a : Term) → ThrowsFinely n m o (plug gs (on f a))
      → MayStandIn n m o f a
  stands_in gs in_throw a h = λ e. h gs a refl e
  stands_in gs _ a h = tt

  rightly : (gs fs : List Frame) (b : Term) → ThrowsFinely n m o (plug gs (plug fs b))
      → ThrowsRightly n m o fs b
  rightly gs [] b h = tt
  rightly gs (f ∷ fs) b h = (
    stands_in gs f (plug fs b) h,
    rightly (gs ++ f ∷ []) fs b
        (λ hs a e. h hs a (sym (plug_append gs (f ∷ []) (plug fs b)) ∙ e)),
  )

  pub throws_rightly : (fs : List Frame) (b : Term) → ThrowsFinely n m o (plug fs b)
      → ThrowsRightly n m o fs b
  throws_rightly fs b h = rightly [] fs b h
