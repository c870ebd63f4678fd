use Rattle.std.proofs.Common.{◌≡◌, ◌+◌, List, [], ◌∷◌, ◌++◌, Option, Some, None, refl, sym, ap, ◌∙◌, length, arith}
use Rattle.std.specs.Prelude.{map, option_map}
use Rattle.fort_tree.specs.declared.expr.Head.{Head}
use Rattle.fort_form_meaning.specs.Formed.{formed_head}
use Rattle.fort_form_meaning.specs.Forming.{opened}
use Rattle.fort_form_tasks.specs.Tasks.{inside_head, inside_maybe_head}
use Rattle.fort_form_build.proofs.Giving.{by, nothing}
use Rattle.fort_form_build.proofs.expressions.maybe_headed.Goals as goal

pub returns-in-None : goal.returns-in-None
returns-in-None g c =
    let k = g.L.Lookup.source c.args.lookup.now in
    by (inside_maybe_head k) (λ
    (h : Option Head). opened (option_map (formed_head k) h) c.args.body) (sym c.in-None.is)
    (nothing refl)

pub returns-in_ok-headed-in-Some : goal.returns-in_ok-headed-in-Some
returns-in_ok-headed-in-Some g c =
    let k = g.L.Lookup.source c.args.lookup.now in
    by (inside_maybe_head k) (λ
    (h : Option Head). opened (option_map (formed_head k) h) c.args.body) (sym c.in-Some.is)
    (by (inside_head k) (λ
    (h : Head). formed_head k h c.args.body) c.get.ensures c.in_ok-headed-in-Some.ensures)
