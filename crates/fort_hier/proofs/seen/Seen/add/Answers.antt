use Rattle.std.proofs.Common.{Some}
use Rattle.std.proofs.lemmas.Map.Text.{hash_map_updates_str}
use Rattle.fort_hier.proofs.SeenLaws.{clash_known, clash_nobody, held_again, held_new}
use Rattle.fort_hier.proofs.seen.Seen.add.Goals as goal

pub returns-in_ok-insert-in-Some-clause-clash : goal.returns-in_ok-insert-in-Some-clause-clash
returns-in_ok-insert-in-Some-clause-clash c =
    λ before h. clash_known before c.args.self.now c.args.spelling.now c.args.is_function _ _ h
    c.in-Some.ensures.value c.both-both.ensures

pub returns-in_ok-insert-in-Some-clause-held : goal.returns-in_ok-insert-in-Some-clause-held
returns-in_ok-insert-in-Some-clause-held c =
    λ before x h p g. held_again before x c.args.self.now _ c.args.spelling.now c.args.is_function _
    _ h c.in-Some.ensures.value c.both-both.ensures p g
    (λ v. hash_map_updates_str c.args.spelling.now c.args.self.now.known c.insert.new.self
    (Some c.both-both.result) c.in_ok-insert-in-Some.ensures.updates v)

pub returns-in_ok-insert-in-None-clause-clash : goal.returns-in_ok-insert-in-None-clause-clash
returns-in_ok-insert-in-None-clause-clash c =
    λ before h. clash_nobody before c.args.self.now c.args.spelling.now c.args.is_function h
    c.in-None.ensures.value

pub returns-in_ok-insert-in-None-clause-held : goal.returns-in_ok-insert-in-None-clause-held
returns-in_ok-insert-in-None-clause-held c =
    λ before x h p g. held_new before x c.args.self.now _ c.args.spelling.now c.args.is_function h
    c.in-None.ensures.value p g
    (λ v. hash_map_updates_str c.args.spelling.now c.args.self.now.known c.insert-in-None.new.self
    (Some c.args.is_function) c.in_ok-insert-in-None.ensures.updates v)
