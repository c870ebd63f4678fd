use Rattle.std.proofs.Common.{◌∙◌, ap}
use Rattle.fort_machine.specs.Plain.{put}
use Rattle.fort_store.specs.Held.{settled, written}
use Rattle.fort_store.proofs.Shares.{moved, same_under}
use Rattle.fort_store.proofs.store.Store.settle_last.Goals as goal

pub returns-in_err-put_settled-in-Some-clause-held :
    goal.returns-in_err-put_settled-in-Some-clause-held
returns-in_err-put_settled-in-Some-clause-held c =
    same_under (written c.args.self.now) (settled c.args.self.now.trees.items)
    (settled c.put_settled.new.trees.items) c.in_err-put_settled-in-Some.ensures.err

pub returns-clause-held : goal.returns-clause-held
returns-clause-held c =
    let kept = settled c.args.self.now.trees.items in
    moved (written c.args.self.now) _ kept (settled c.put_settled.new.trees.items)
    c.in-Some.loc.now c.in-Some.value.now c.in-Some.ensures.value
    (c.in_ok-put_settled-in-Some.ensures.ok
    ∙ ap (λ v. put c.in-Some.loc.now v kept) c.in_ok-share-in-Some.ensures)
    c.swap_remove.ensures.updates.0
