use Rattle.std.proofs.Common.{◌+◌, ◌∷◌, ◌++◌, [], List, Option, length, ap, sym, ◌∙◌}
use Rattle.std.specs.List.{flat_map}
use Rattle.fort_tree.specs.declared.declarations.NextParameter.{NextParameter}
use Rattle.fort_tree.specs.declared.declarations.Parameters.{Parameters}
use Rattle.fort_link_rules.specs.declared.symbols.Symbol.TheVariants as symbol
use Rattle.fort_link_rules.specs.Symbols.{parameters_symbols, type_symbols}
use Rattle.fort_link_rules.proofs.Steps.{by, one_added, three_added}
use Rattle.fort_link_rules.proofs.symbols.add_parameters.Goals as goal

pub returns-in_ok-add_next_parameters-in-Some : goal.returns-in_ok-add_next_parameters-in-Some
returns-in_ok-add_next_parameters-in-Some c =
    three_added _ (symbol.Tuple (1 + length c.as_slice-others.result.now) ∷ []) _ _
    c.in_ok-push-in-Some.ensures.ok c.in_ok-add_type-in-Some.ensures (by (λ
    (l : List NextParameter). flat_map (λ (x : NextParameter). type_symbols x.parameter.ty) l) _
    c.as_slice-others.ensures c.in_ok-add_next_parameters-in-Some.ensures)
    (ap (λ (o : Option Parameters). parameters_symbols o) c.in-Some.is ∙ ap (λ
    (l : List NextParameter). symbol.Tuple (1 + length l)
    ∷ (type_symbols c.in-Some.list.first.ty
    ++ flat_map (λ (x : NextParameter). type_symbols x.parameter.ty) c.in-Some.list.others))
    (sym c.as_slice-others.ensures))

pub returns-in_ok-push-in-None : goal.returns-in_ok-push-in-None
returns-in_ok-push-in-None c =
    one_added _ c.in_ok-push-in-None.ensures.ok
    (ap (λ (o : Option Parameters). parameters_symbols o) c.in-None.is)
