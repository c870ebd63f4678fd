-- What is done looks at the store where it is nothing else.
use Rattle.std.proofs.Common.{◌≡◌, ℕ, List, refl}
use Rattle.fort_base.specs.declared.ids.Loc.{Loc}
use Rattle.fort_core.specs.declared.program.Program.{Program}
use Rattle.fort_core.specs.declared.term.Term.{Term}
use Rattle.fort_core.specs.declared.value.Value.{Value}
use Rattle.fort_step_deal.specs.declared.deal.Deal.{Deal}
use Rattle.fort_step_deal.specs.declared.deal.Deal.TheVariants as deal
use Rattle.fort_step_deal.specs.declared.deal.Goes.{Goes}
use Rattle.fort_step_deal.specs.declared.deal.Makes.{Makes}
use Rattle.fort_step_acting.specs.Only.{IsDealt}
use Rattle.fort_walk_turns.specs.Idles.{TouchesStore}

pub touches_store : (p : Program) (a : Term) (d : Deal) → IsDealt p a d → (d ≡ deal.Stuck → ⊥)
    → ((t : Term) (output : List ℕ) (cost : ℕ) → d ≡ deal.Turns t output cost → ⊥)
    → ((body t : Term) → d ≡ deal.Enters body t → ⊥) → TouchesStore d
touches_store p a deal.Stuck h s t e = absurd (s refl)
touches_store p a (deal.Turns next output cost) h s t e = absurd (t next output cost refl)
touches_store p a (deal.Enters body next) h s t e = absurd (e body next refl)
touches_store p a (deal.Calls set vs) h s t e = absurd h
touches_store p a (deal.Asks l g) h s t e = tt
touches_store p a (deal.Sets l v) h s t e = tt
touches_store p a (deal.Makes makes) h s t e = tt
touches_store p a deal.Ends h s t e = tt

pub no_other : (d : Deal) → TouchesStore d → ((l : Loc) (g : Goes) → d ≡ deal.Asks l g → ⊥)
    → ((l : Loc) (v : Value) → d ≡ deal.Sets l v → ⊥) → ((m : Makes) → d ≡ deal.Makes m → ⊥)
    → (d ≡ deal.Ends → ⊥) → ⊥
no_other deal.Stuck h a s m e = h
no_other (deal.Turns next output cost) h a s m e = h
no_other (deal.Enters body next) h a s m e = h
no_other (deal.Calls set vs) h a s m e = h
no_other (deal.Asks l g) h a s m e = a l g refl
no_other (deal.Sets l v) h a s m e = s l v refl
no_other (deal.Makes makes) h a s m e = m makes refl
no_other deal.Ends h a s m e = e refl
