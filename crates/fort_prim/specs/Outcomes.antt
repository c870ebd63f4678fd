-- Chapter "Built-in declarations": what the code computes on numbers, as the definitions have it.
use Rattle.fort_machine.specs.Numbers.{Figure, number, too_large, by_zero, below_zero}
use Rattle.fort_prim.specs.declared.outcome.Outcome.{Outcome}
use Rattle.fort_prim.specs.declared.outcome.Outcome.TheVariants.{Number, TooLarge, ByZero, BelowZero}

-- What the code found, as a figure.
abbrev pub figure : Outcome → Figure
figure (Number n) = number n
figure TooLarge = too_large
figure ByZero = by_zero
figure BelowZero = below_zero
