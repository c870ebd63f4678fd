use Rattle.std.proofs.Common.{Some, ◌∙◌, sym}
use Rattle.std.proofs.lemmas.Map.Text.{hash_map_updates_str}
use Rattle.fort_link_table.proofs.Map.{again_held, new_held}
use Rattle.fort_link_table.proofs.numbers.Numbers.add.Goals as goal

pub returns-in_ok-insert : goal.returns-in_ok-insert
returns-in_ok-insert c =
    λ names h e. again_held names c.args.self.now
    (record { known = c.insert.new.self }) (record { known = c.insert-in-Some.new.self })
    c.args.spelling.now c.args.number _ h
    (sym c.in-Some.is ∙ c.in_ok-first.ensures.old)
    (λ v. hash_map_updates_str c.args.spelling.now c.args.self.now.known c.insert.new.self
    (Some c.args.number) c.in_ok-first.ensures.updates v)
    (λ v. hash_map_updates_str c.args.spelling.now c.insert.new.self c.insert-in-Some.new.self
    (Some c.in-Some.first) c.in_ok-insert.ensures.updates v)

pub returns-in_default : goal.returns-in_default
returns-in_default c =
    λ names h e. new_held names c.args.self.now (record { known = c.insert.new.self })
    c.args.spelling.now c.args.number h e
    (sym c.in_default.is ∙ c.in_ok-first.ensures.old)
    (λ v. hash_map_updates_str c.args.spelling.now c.args.self.now.known c.insert.new.self
    (Some c.args.number) c.in_ok-first.ensures.updates v)
