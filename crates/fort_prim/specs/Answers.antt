-- Chapter "Built-in declarations": the code's answer, by the definition's. They are one and the
-- same, but that nothing is no answer.
use Rattle.std.specs.Prelude.{◌≡◌, Option, Some, None}
use Rattle.fort_machine.specs.Primitives.{Answer, gives, makes_text, throws, prints, ends, nothing}
use Rattle.fort_prim.specs.declared.answer.Answer.{Answer as Given}
use Rattle.fort_prim.specs.declared.answer.Answer.TheVariants as code

-- What the code answers where the definition answers so: none where that answers nothing.
abbrev pub reply : Answer → Option Given
reply (gives v) = Some (code.Value v)
reply (makes_text t) = Some (code.Makes t)
reply (throws x) = Some (code.Throws x)
reply (prints t) = Some (code.Prints t)
reply ends = Some code.Ends
reply nothing = None

-- The code's answer is the definition's.
abbrev pub Replies : Given → Answer → Type 0
Replies r a = reply a ≡ Some r
