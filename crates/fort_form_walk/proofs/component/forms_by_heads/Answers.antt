use Rattle.std.proofs.Common.{List, ap, sym, ◌∙◌, subst}
use Rattle.fort_hier.specs.Names.{Spelling}
use Rattle.fort_hier.specs.Numbers.{HoldsNumbers, all_types}
use Rattle.fort_hier.proofs.NumberLaws.{all_long}
use Rattle.fort_form_walk.specs.FormsOf.{Tables, forms_by}
use Rattle.fort_form_walk.proofs.Tabled.{tables_are}
use Rattle.fort_form_walk.proofs.component.forms_by_heads.Goals as goal

pub invariant_of-tables-clause-sized : goal.invariant_of-tables-clause-sized
invariant_of-tables-clause-sized c = all_long _ _

pub invariant_of-tables-clause-holds : goal.invariant_of-tables-clause-holds
invariant_of-tables-clause-holds c =
    subst (λ (names : List Spelling). HoldsNumbers (all_types names c.args.heads.now)
    c.args.numbers.now) (sym c.as_slice-names.ensures) c.requires.numbers

pub returns : goal.returns
returns c = c.in_ok-forms.ensures
    ∙ ap (λ (n : Tables). forms_by n c.args.component.now)
    (tables_are c.args.component.now c.args.groups.now c.requires.heads c.as_slice-names.ensures
    (c.new.ensures ∙ c.as_slice.ensures))
