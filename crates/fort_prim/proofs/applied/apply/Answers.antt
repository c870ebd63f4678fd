use Rattle.std.proofs.Common.{◌≡◌, None, ◌∙◌, sym, ap}
use Rattle.fort_machine.specs.Primitives.{answer_of}
use Rattle.fort_prim.specs.Answers.{reply}
use Rattle.fort_prim.proofs.Replies.{nothing_from}
use Rattle.fort_prim.proofs.applied.apply.Goals as goal

pub unreachable-requires : goal.unreachable-requires
unreachable-requires c =
    let p = c.args.program.now in
    let vs = c.args.arguments.now in
    let none : None ≡ reply (answer_of p c.args.primitive vs) =
    sym c.in-None.is ∙ c.in_ok-answer.ensures ∙ sym (ap reply (c.operation.ensures p vs)) in
    c.requires (nothing_from (answer_of p c.args.primitive vs) none)
