use Rattle.std.proofs.Common.{rules, ◌≡◌, List, [], ◌∷◌, Some, Option, sym, subst}
use Rattle.atomic_table.specs.Table.{opening}
use Rattle.fort_turn.specs.Rule.{Kept, opened}
use Rattle.fort_turn.proofs.Keeps.{opens}
use Rattle.fort_turn.proofs.open.new.Goals as goal

pub new-requires : goal.new-requires
new-requires g c =
    let items : c.push_reserved.new.self.items ≡ Some c.args.book ∷ [] = search rules in
    let about : c.of-about.result.value ≡ c.args.book = search rules in
    subst (λ (z : List (Option g.row.B.Denot)
    × g.row.B.Denot). Kept g.B.Grows.history g.B.Grows.origin g.B.Grows.by
    (opening (0 ∷ 0 ∷ []) z.0 (opened z.1))) (λ i. (sym items i, sym about i))
    (opens g.B.Grows.history g.B.Grows.origin g.B.Grows.by c.args.book c.requires)
