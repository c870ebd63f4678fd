use Rattle.std.proofs.Common.{◌≡◌, ◌∷◌, take}
use Rattle.std.specs.Prelude.{map}
use Rattle.fort_tree.specs.declared.spot.NextName.{NextName}
use Rattle.fort_form_meaning.specs.Forming.{binder}
use Rattle.fort_form_build.proofs.items.binders.Given as goal

abbrev pub invariant-loop-next : goal.invariant-loop-next
invariant-loop-next l =
    l.names ≡ binder l.first ∷ map (λ
    (next : NextName). binder next.name) (take l.next-index l.others)
