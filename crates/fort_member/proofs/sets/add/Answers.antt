use Rattle.fort_member.proofs.SetLaws.{put_known, put_new}
use Rattle.fort_member.proofs.sets.add.Goals as goal

pub returns-in_ok-push-in-Some : goal.returns-in_ok-push-in-Some
returns-in_ok-push-in-Some c =
    λ before h. put_known before c.args.entry c.as_slice.result.now c.args.sets.now.items
    c.in-Some.at c.index_mut.result.now c.push.new.self
    c.as_slice.ensures.value h c.in-Some.ensures c.index_mut.ensures.value
    c.in_ok-push-in-Some.ensures.ok

pub returns-in_ok-push-in-None : goal.returns-in_ok-push-in-None
returns-in_ok-push-in-None c =
    λ before h. put_new before c.args.entry c.as_slice.result.now c.args.sets.now.items
    c.push-in-None.new.self.items c.in_ok-set_of_one-in-None.field-0
    c.as_slice.ensures.value h c.in-None.ensures c.in_ok-set_of_one-in-None.ensures
    c.in_ok-push-in-None.ensures.items
