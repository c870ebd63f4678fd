-- What the code's `Known` says.
use Rattle.fort_elab_meaning.specs.declared.given.Known.{Known}
use Rattle.fort_elab_meaning.specs.Parts.{Given}

-- what the code knows
abbrev pub given_of : Known → Given
given_of k = record { texts = k.texts.now; shapes = k.shapes.now; widen = k.widen }
