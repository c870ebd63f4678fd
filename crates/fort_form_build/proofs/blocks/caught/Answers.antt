use Rattle.std.proofs.Common.{◌≡◌, ◌+◌, List, [], ◌∷◌, ◌++◌, Option, Some, None, true, false, refl, sym, ap, ◌∙◌, length, arith, rules}
use Rattle.std.specs.Prelude.{map, option_map}
use Rattle.std.proofs.lemmas.List.{length-map}
use Rattle.fort_tree.specs.declared.delimited.Catch.{Catch, out-Catch}
use Rattle.fort_tree.specs.declared.delimited.TypeClause.{TypeClause}
use Rattle.fort_form_meaning.specs.Levels.{Catching}
use Rattle.fort_form_meaning.specs.Formed.{formed_catch, formed_type_clause}
use Rattle.fort_form_meaning.specs.Forming.{caught}
use Rattle.fort_form_meaning.proofs.FormsBlocks.{catch_forms}
use Rattle.fort_form_tasks.specs.Tasks.{inside_catch, type_clause_value}
use Rattle.fort_form_build.proofs.Giving.{by, named_as, nothing}
use Rattle.fort_form_build.proofs.blocks.caught.Goals as goal

pub returns-in-None : goal.returns-in-None
returns-in-None g c =
    let k = g.L.Lookup.source c.args.lookup.now in
    by (inside_catch k) (λ
    (o : Option Catch). caught (option_map (formed_catch k) o)) (sym c.in-None.is)
    (nothing c.new.ensures)

pub returns-in_ok-made-in-Some : goal.returns-in_ok-made-in-Some
returns-in_ok-made-in-Some g c =
    let k = g.L.Lookup.source c.args.lookup.now in
    by (inside_catch k) (λ
    (o : Option Catch). caught (option_map (formed_catch k) o)) (sym c.in-Some.is)
    (named_as
    (by (map (type_clause_value k)) (map (formed_type_clause k)) c.as_slice.ensures
    c.in_ok-made-in-Some.ensures) refl (ap (λ
    (x : Catching). x.clauses) (catch_forms k c.in-Some.catch)))
