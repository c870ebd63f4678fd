-- No run of an accepted program stops short.
use Rattle.std.proofs.Common.{◌≡◌, Bool, List, inl, inr, refl, sym, ◌∙◌, Some, None}
use Rattle.fort_core.specs.declared.program.Program.{Program}
use Rattle.fort_core.specs.declared.term.Term.{Term}
use Rattle.fort_machine.specs.Effects.{Store}
use Rattle.fort_machine.specs.Frames.{Frame}
use Rattle.fort_sound_typed.specs.Goes as typed
use Rattle.fort_sound_typed.specs.Goes.{SomeoneMayGo}
use Rattle.fort_sound_typed.specs.Sound.{StaysTyped}
use Rattle.fort_sound_typed.specs.Typing.{is_told}
use Rattle.fort_sound_typed.proofs.Accepted.{facts}
use Rattle.fort_walk_turns.specs.Stops.{MayGo, steps_on, aborts_here, tries, IsStuck, CannotGiveUp, StopsShort, stuck, cannot_give_up}
use Rattle.fort_sound.specs.Accepted.{IsFounded, AcceptedIsSound}
use Rattle.fort_sound_never.specs.Never.{AcceptedGoesThrough, AcceptedNeverStops, FoundedGoesThrough, FoundedNeverStops}
use Rattle.fort_sound_never.proofs.Ends.{is_at_end}

-- A thread that may go on by the words of fort_sound_typed may so by those of the walk.
may_go : (p : Program) (inner : Bool) (s : Store) (t : Term) (fs : List Frame) (a : Term)
    → typed.MayGo p inner s t fs a → MayGo p inner s t fs a
may_go p inner s t fs a (typed.MayGo.steps_on loc b d l f) = steps_on loc b d l f
may_go p inner s t fs a (typed.MayGo.aborts_here i e) = aborts_here i e
may_go p inner s t fs a (typed.MayGo.tries m body form bare may) = tries m body form bare may

module _ (stays : StaysTyped) (someone : SomeoneMayGo) (p : Program) (founded : IsFounded p) where
  not_stuck : IsStuck p → ⊥
  not_stuck k =
      someone p founded.sound founded.defined founded.complete k.inner k.store k.term k.reached
      (λ f. k.no_end
      (is_at_end stays p founded.sound founded.complete k.inner k.store k.term k.reached f))
      (λ fs a e q m. k.nobody fs a e q (may_go p k.inner k.store k.term fs a m))

  gives_up : CannotGiveUp p → ⊥
  gives_up k =
      let o = (founded.complete).singles p.built_in.try_atomic_failure
      (inr (inr (inr (inr (inr (inr (inl refl))))))) in
      let z : Some o.0 ≡ None = sym o.1 ∙ k.no_object in absurd cc

  pub never_short : StopsShort p → ⊥
  never_short (stuck k) = not_stuck k
  never_short (cannot_give_up k) = gives_up k

pub founded_never : StaysTyped → SomeoneMayGo → FoundedNeverStops
founded_never stays someone p founded stops = never_short stays someone p founded stops

pub accepted_never : AcceptedIsSound → FoundedNeverStops → AcceptedNeverStops
accepted_never sound never bytes tokens p file is stops =
    never p (sound bytes tokens p file is) stops

-- The rows of a sound program go through a third type.
pub founded_through : FoundedGoesThrough
founded_through p founded a b c x y = (facts p founded.sound).absorbs a b c (is_told x) y

pub goes_through : AcceptedIsSound → FoundedGoesThrough → AcceptedGoesThrough
goes_through sound through bytes tokens p file is = through p (sound bytes tokens p file is)
