-- Facts by cases that have one proof at most.
use mathlib.Core.HLevel.{Π_prop}
use mathlib.Core.Path.{ap}
use Rattle.std.specs.Prelude.{ℕ, List, Option, Some, None}
use Rattle.std.proofs.Props.{props}
use Rattle.fort_hier.specs.declared.numbers.Numbers.{Numbers}
use Rattle.fort_hier.specs.Names.{Spelling}
use Rattle.fort_hier.specs.Numbers.{HoldsNumbers, NumberIs, numbered_as}

pub NumberIs-prop : (list : List Spelling) (s : Spelling) (o : Option ℕ)
    → IsProp (NumberIs list s o)
NumberIs-prop list s None = Prim.hlevel props
NumberIs-prop list s (Some n) = Prim.hlevel props

abbrev by_knowing : (list : List Spelling) (numbers : Numbers)
    → ((s : Spelling) → NumberIs list s (numbered_as numbers s)) → HoldsNumbers list numbers
by_knowing list numbers k = record { knows = k }

pub HoldsNumbers-prop : (list : List Spelling) (numbers : Numbers)
    → IsProp (HoldsNumbers list numbers)
HoldsNumbers-prop list numbers x y =
    ap (by_knowing list numbers)
    (Π_prop (λ s. NumberIs-prop list s (numbered_as numbers s)) x.knows y.knows)
