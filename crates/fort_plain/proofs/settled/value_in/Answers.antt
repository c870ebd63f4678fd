use Rattle.std.proofs.Common.{ℕ, IfOk, subst, sym}
use Rattle.fort_core.specs.declared.term.Term.TheVariants as a_term
use Rattle.fort_machine.specs.Frames.{plug}
use Rattle.fort_frames.specs.Frames.{frames_of}
use Rattle.fort_plain.specs.Paths.{IsSettled}
use Rattle.fort_plain.proofs.settled.value_in.Goals as goal

pub returns-in-Node : goal.returns-in-Node
returns-in-Node c =
    subst (λ frame. IfOk c.value_in_node.result
    (λ form. (clock : ℕ) → IsSettled (plug (frames_of clock frame) (a_term.Value c.args.value)) form))
    (sym c.in-Node.is) c.value_in_node.ensures
