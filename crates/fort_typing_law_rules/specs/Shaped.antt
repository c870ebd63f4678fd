-- The chapter "Typing", which refusal comes: all expressions of the shapes that the grammar gives.
use Rattle.fort_form.specs.declared.form.Form.{Form}
use Rattle.fort_form.specs.Shapes.{IsShaped}
use Rattle.fort_typing_known.specs.Known.{Knows}
use Rattle.fort_typing_law_rules.specs.Deciding.{IsAccepted}
use Rattle.fort_typing_law_rules.specs.Written.{IsWritten}
use Rattle.fort_typing_law_rules.specs.Exact.{IsExactExpression}

-- Of an accepted component: an expression of a shape that the grammar gives answers exactly, where
-- the types that are written in it are the component's.
abbrev pub ShapedAreExact : Type 0
ShapedAreExact = (k : Knows) → IsAccepted k → (e : Form) → IsWritten k e → IsShaped e
    → IsExactExpression k e
