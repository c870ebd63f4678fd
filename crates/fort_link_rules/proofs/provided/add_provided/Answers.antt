use Rattle.std.proofs.Common.{List, ◌++◌, Option, sym, ap, ◌∙◌}
use Rattle.std.specs.Prelude.{option_to_list}
use Rattle.std.proofs.lemmas.List.{append-nil}
use Rattle.fort_link_rules.specs.declared.signatures.Signature.{Signature}
use Rattle.fort_link_rules.proofs.Gathering.{on_ok}
use Rattle.fort_link_rules.proofs.provided.add_provided.Goals as goal

pub returns-in-Some-clause-more : goal.returns-in-Some-clause-more
returns-in-Some-clause-more c =
    on_ok c.add.result (λ e. e ∙ ap (λ (l : List Signature). c.args.catalogue.now.signatures ++ l)
    (ap (λ (o : Option Signature). option_to_list o) (sym c.in-Some.is) ∙ c.in_ok-given.ensures))
    c.add.ensures.more

pub returns-in-None-clause-more : goal.returns-in-None-clause-more
returns-in-None-clause-more c =
    sym (append-nil c.args.catalogue.now.signatures)
    ∙ ap (λ (l : List Signature). c.args.catalogue.now.signatures ++ l)
    (ap (λ (o : Option Signature). option_to_list o) (sym c.in-None.is) ∙ c.in_ok-given.ensures)
