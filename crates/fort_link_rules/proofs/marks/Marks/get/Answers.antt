use Rattle.std.proofs.Common.{◌≡◌, ℕ, Option, None, sym, ap, ◌∙◌}
use Rattle.std.specs.Prelude.{slice_get, unwrap_or}
use Rattle.std.specs.Option.{option_copied}
use Rattle.std.proofs.lemmas.Option.{unwrap_or-slice_get}
use Rattle.fort_link_rules.proofs.marks.Marks.get.Goals as goal

pub returns-in-None : goal.returns-in-None
returns-in-None c =
    let e : slice_get c.args.self.now.marks c.args.id.0 ≡ None =
    sym c.get.ensures.value ∙ ap (λ o. option_copied o) c.in-None.is in
    ap (λ (o : Option ℕ). unwrap_or o 0) (sym e)
    ∙ unwrap_or-slice_get c.args.self.now.marks c.args.id.0 0
