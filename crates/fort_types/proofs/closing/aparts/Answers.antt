use Rattle.std.proofs.Common.{sym, subst}
use Rattle.fort_types.specs.Hierarchy.{DeclaredApart}
use Rattle.fort_types.specs.Table.{IsExact}
use Rattle.fort_types.proofs.Closure.{closed_exact}
use Rattle.fort_types.proofs.closing.aparts.Goals as goal

pub returns : goal.returns
returns c =
    subst (IsExact (DeclaredApart _) _) (sym c.into_rows.ensures)
    (closed_exact _ _ c.grown.ensures.holds c.rounds-test.ensures.closed)
