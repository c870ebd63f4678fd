-- A generator's source, by what it gives.
use Rattle.std.proofs.Common.{◌≡◌, Option, Result, Ok, Err, OnOk, ap, ◌∙◌}
use Rattle.fort_base.specs.declared.ids.NameId.{NameId}
use Rattle.fort_base.specs.declared.refusal.Place.{Place}
use Rattle.fort_base.specs.declared.ty.Ty.{Ty}
use Rattle.fort_typing_known.specs.Known.{Facts}
use Rattle.fort_typing_meaning.specs.declared.frame.Valued.{Valued}
use Rattle.fort_typing_meaning.specs.declared.frame.Want.TheVariants as a_want
use Rattle.fort_typing_meaning.specs.Tests.{taken}
use Rattle.fort_typing_meaning.specs.Parts.{State, given_by, gives, take_source, with_frame}

pub source_taken : (k : Facts) (at : Place) (name : NameId) (place : Place) (s t u : State)
    (v : Valued) (given : Option Ty) {A E : Type 0} (r : Result A E)
    → v ≡ taken k a_want.Operand place s.seen s.found → given ≡ given_by v.node
    → t ≡ with_frame s.frame v.found s
    → OnOk r ((l : Facts) → u ≡ gives l at name place v.node given t)
    → OnOk r (u ≡ take_source k at name place s)
unfolding take_source
source_taken k at name place s t u v given (Err e) p q w h = tt
source_taken k at name place s t u v given (Ok a) p q w h =
    h k
    ∙ ap (λ (g : Option Ty). gives k at name place v.node g t) q
    ∙ ap (gives k at name place v.node (given_by v.node)) w
    ∙ ap (λ (x : Valued). gives k at name place x.node (given_by x.node)
    (with_frame s.frame x.found s)) p
