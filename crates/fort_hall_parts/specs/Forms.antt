-- The chapter "Terms and threads" of docs/MACHINE.md: forms by how many parts go one after the
-- other.
use Rattle.fort_core.specs.declared.term.Term.{Term}
use Rattle.fort_core.specs.declared.term.Term.TheOpen.{Term-F}
use Rattle.fort_core.specs.declared.value.Value.{Value}
use Rattle.fort_core.specs.declared.value.Closure.{Closure}

-- A form is none whose parts go one after the other, and no throw: at most one part goes before its
-- step, or all go beside each other.
abbrev pub IsOne : Term-F Term Value Closure → Type 0
IsOne (Term-F.Throw thrown) = ⊥
IsOne (Term-F.Operator set operands) = ⊥
IsOne (Term-F.Fill ty size value) = ⊥
IsOne (Term-F.WriteField object field value) = ⊥
IsOne (Term-F.ReadElement array index) = ⊥
IsOne (Term-F.WriteElement array index value) = ⊥
IsOne form = Unit {0}
