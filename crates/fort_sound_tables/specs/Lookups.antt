-- Chapter "The machine with threads": what single lookups in a program's tables say.
use Rattle.std.specs.Prelude.{◌≡◌, true, List, slice_get, Some}
use Rattle.fort_base.specs.declared.ids.DeclId.{DeclId}
use Rattle.fort_base.specs.declared.ty.Ty.{Ty}
use Rattle.fort_core.specs.declared.program.CoreBody.TheVariants as body
use Rattle.fort_core.specs.declared.program.CoreDecl.{CoreDecl}
use Rattle.fort_core.specs.declared.program.Program.{Program}
use Rattle.fort_core.specs.declared.term.Term.{Term}
use Rattle.fort_machine.specs.Types.{all_below}

-- A declaration takes these types, and goes on as this term.
pub record TakesText (p : Program) (d : DeclId) (types : List Ty) (t : Term) : Type 0 where
  pub declared : CoreDecl
  pub is_decl : slice_get p.decls d.0 ≡ Some declared
  pub takes : declared.parameters ≡ types
  pub text : declared.body ≡ body.Plain t

-- Where a declaration takes such types, and is as specific as another one, it is that one.
abbrev pub GivesWay : Program → List Ty → DeclId → CoreDecl → DeclId → Type 0
GivesWay p types d x e = (y : CoreDecl) → slice_get p.decls e.0 ≡ Some y
    → all_below p types y.parameters ≡ true → all_below p y.parameters x.parameters ≡ true
    → e ≡ d
