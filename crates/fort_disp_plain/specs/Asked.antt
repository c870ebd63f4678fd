-- Chapter "Calls": what the code asks of each declaration of a set. The chapter's sentence is
-- `Dispatches` of the machine's definitions, which the public contract cites; these are means to
-- meet it.
use Rattle.std.specs.Prelude.{◌==◌, Bool, true, false, not, ◌&&◌, ◌||◌, List, Option, Some, None, slice_get}
use Rattle.std.specs.List.{list_all}
use Rattle.fort_base.specs.declared.ids.DeclId.{DeclId}
use Rattle.fort_base.specs.declared.ty.Ty.{Ty}
use Rattle.fort_core.specs.declared.program.CoreDecl.{CoreDecl}
use Rattle.fort_core.specs.declared.program.Program.{Program}
use Rattle.fort_machine.specs.Types.{all_below}

-- What is asked of a declaration that is there, and the answer where it isn't.
abbrev pub asked : Option CoreDecl → Bool → (CoreDecl → Bool) → Bool
asked None b f = b
asked (Some decl) b f = f decl

-- A declaration gives way to another one where it is that one, isn't applicable, or is less
-- specific.
abbrev pub gives_way : Program → List Ty → CoreDecl → DeclId → DeclId → Bool
gives_way p ts decl d e =
    e.0 == d.0
    || asked (slice_get p.decls e.0) true (λ other. not (all_below p ts other.parameters)
    || all_below p decl.parameters other.parameters)

-- A declaration wins where it is applicable and all give way to it.
abbrev pub wins : Program → List DeclId → List Ty → DeclId → Bool
wins p ds ts d =
    asked (slice_get p.decls d.0) false (λ decl. all_below p ts decl.parameters
    && list_all (gives_way p ts decl d) ds)

-- A declaration is no rival where it is the one of the number, or doesn't win.
abbrev pub is_other : Program → List DeclId → List Ty → DeclId → DeclId → Bool
is_other p ds ts d e = e.0 == d.0 || not (wins p ds ts e)
