-- Chapter "Worked runs": what the fourth and the fifth of them share, a variable of ZZ32 at the
-- location 9.
use Rattle.std.specs.Prelude.{ℕ, List, [], pos}
use Rattle.fort_base.specs.declared.ty.Ty.{Ty, Tuple}
use Rattle.fort_base.specs.declared.ty.Ty.TheVariants.{Named}
use Rattle.fort_core.specs.declared.form.Slot.{Slot}
use Rattle.fort_core.specs.declared.form.Slot.TheVariants as slot
use Rattle.fort_core.specs.declared.path.Path.{Path}
use Rattle.fort_core.specs.declared.pick.Pick.{Pick, Step}
use Rattle.fort_core.specs.declared.program.CoreBody.TheVariants as body
use Rattle.fort_core.specs.declared.program.CoreDecl.{CoreDecl}
use Rattle.fort_core.specs.declared.term.Term.{Term}
use Rattle.fort_core.specs.declared.value.Value.{Value, Small}
use Rattle.fort_machine.specs.Runs.{location}
use Rattle.fort_machine.specs.Worked.{type}

-- A number of ZZ32.
abbrev pub number : ℕ → Value
number n = Small (pos n)

-- The type ZZ32.
abbrev pub number_type : Ty
number_type = Named (type 2)

-- A declaration without parameters, by its body.
abbrev pub plain_decl : Term → CoreDecl
plain_decl t = record { parameters = []; result = Tuple []; body = body.Plain t }

-- The variable as it is written.
abbrev pub written : Slot
written = slot.Variable 0

-- The same variable once it has its location.
abbrev pub nine : Slot
nine = slot.Location (location 9)

-- A thread by its path.
abbrev pub thread : List ℕ → Path
thread path = record { 0 = path }

-- A step of the root thread that makes no location.
abbrev pub onward : Pick
onward = Step (thread []) (location 0)

-- A step of the root thread that makes the location 9.
abbrev pub makes_nine : Pick
makes_nine = Step (thread []) (location 9)
