-- Chapter "Calls": the tables of a program. For each set they have a row: its declarations, a more
-- specific one before those that are above it, so that the first applicable one of a row is the
-- most specific one, where there is one.
use Rattle.std.specs.Prelude.{◌≡◌, IsTrue, List, [], ◌∷◌, Contains, slice_get, Some}
use Rattle.fort_base.specs.declared.ids.DeclId.{DeclId}
use Rattle.fort_base.specs.declared.ty.Ty.{Ty}
use Rattle.fort_core.specs.declared.program.CoreDecl.{CoreDecl}
use Rattle.fort_core.specs.declared.program.CoreSet.{CoreSet}
use Rattle.fort_core.specs.declared.program.Program.{Program}
use Rattle.fort_machine.specs.Types.{below}
use Rattle.fort_machine.specs.Calls.{IsMoreSpecific}
use Rattle.fort_disp.specs.declared.rows.Tables.{Tables}

-- A type below one that is below a third is below the third. The rows of each accepted program say
-- so.
abbrev pub GoesThrough : Program → Type 0
GoesThrough p = (a b c : Ty) → IsTrue (below p a b) → IsTrue (below p b c) → IsTrue (below p a c)

-- A declaration may stand before another one where that one isn't more specific, unless each is
-- more specific than the other.
abbrev pub MayPrecede : Program → DeclId → DeclId → Type 0
MayPrecede p d e = (decl other : CoreDecl) → slice_get p.decls d.0 ≡ Some decl
    → slice_get p.decls e.0 ≡ Some other → IsMoreSpecific p other decl → IsMoreSpecific p decl other

-- In a row in order each declaration may stand before those after it.
abbrev pub IsInOrder : Program → List DeclId → Type 0
IsInOrder p [] = Unit {0}
IsInOrder p (d ∷ ds) = ((e : DeclId) → Contains ds e → MayPrecede p d e) × IsInOrder p ds

-- The row of a set has its declarations and no others, and is in order.
pub record IsRow (p : Program) (members row : List DeclId) : Type 0 where
  pub all : (d : DeclId) → Contains members d → Contains row d
  pub only : (d : DeclId) → Contains row d → Contains members d
  pub in_order : GoesThrough p → IsInOrder p row

-- There is a row for each set, in the order of the sets.
abbrev pub AreRows : Program → List CoreSet → List (List DeclId) → Type 0
AreRows p [] [] = Unit {0}
AreRows p [] (row ∷ rows) = ⊥
AreRows p (set ∷ sets) [] = ⊥
AreRows p (set ∷ sets) (row ∷ rows) = IsRow p set.decls row × AreRows p sets rows

-- What is asked of tables before a declaration is picked by them: they are those of their program,
-- and below goes through a third type in it.
pub record MayPick (t : Tables) : Type 0 where
  pub rows : AreRows t.program.now t.program.now.sets t.rows
  pub through : GoesThrough t.program.now
