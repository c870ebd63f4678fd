-- What the laws say of the program of files that are accepted, linked.
use Rattle.std.proofs.Common.{ℕ, List}
use Rattle.fort_core.specs.declared.program.Program.{Program}
use Rattle.fort_machine.specs.Written.{WrittenProgram}
use Rattle.fort_front.specs.Written.{AcceptedComponentIsWritten}
use Rattle.fort_link_law_whole.specs.Laws.{WholeIsInOrder, tokens_of}
use Rattle.fort_sound.specs.Accepted.{AcceptedComponentIsSound, IsFounded}
use Rattle.fort_run.specs.Reply.{AreAcceptedAs}

pub is_written : WholeIsInOrder → AcceptedComponentIsWritten → (files : List (List ℕ))
    (p : Program) → AreAcceptedAs files p → WrittenProgram p
is_written in_order law files p is =
    let o = in_order files is.whole is.linked
    in law (tokens_of is.whole) is.whole p o.order o.tree is.accepted

pub founded : WholeIsInOrder → AcceptedComponentIsSound → (files : List (List ℕ)) (p : Program)
    → AreAcceptedAs files p → IsFounded p
founded in_order law files p is =
    let o = in_order files is.whole is.linked
    in law (tokens_of is.whole) is.whole p o.order o.numbers o.tree is.accepted
