-- The program of an accepted component is as it is written, and so that of accepted tokens.
use Rattle.fort_elab_law_matched.specs.Component.{ComponentIsWritten}
use Rattle.fort_spawn.specs.Laws.{RewrittenObeys, RewrittenStandsApart}
use Rattle.fort_front.proofs.Rewritten.{tokens_of, rewritten_is_tree, rewritten_apart}
use Rattle.fort_front.specs.Front.{known}
use Rattle.fort_front.specs.Written.{AcceptedIsWritten, AcceptedComponentIsWritten, AcceptedTreeIsWritten}

pub tree_written : ComponentIsWritten → AcceptedTreeIsWritten
tree_written written tokens c p apart tree a =
    let f = a.formed in
    written tokens c f.types f.members (record { list = f.groups }) (known c f) a.typed p apart tree
    f.typed f.belong a.has_types a.becomes

pub component_written : ComponentIsWritten → RewrittenObeys → RewrittenStandsApart
    → AcceptedComponentIsWritten
component_written written obeys stands tokens c p order tree a =
    let d = a.rewritten in
    tree_written written (tokens_of d) d p
    (rewritten_apart stands tokens c d tree order.apart order.lines a.becomes)
    (rewritten_is_tree obeys tokens c d tree order.named a.becomes) a.keeps

pub accepted_written : AcceptedComponentIsWritten → AcceptedIsWritten
accepted_written written tokens p order a = written tokens a.component p order a.is.tree a.keeps
