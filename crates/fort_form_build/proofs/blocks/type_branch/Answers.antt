use Rattle.std.proofs.Common.{◌≡◌, ◌+◌, List, [], ◌∷◌, ◌++◌, Option, Some, None, true, false, refl, sym, ap, ◌∙◌, length, arith, rules}
use Rattle.std.specs.Prelude.{map, option_map}
use Rattle.std.proofs.lemmas.List.{length-map}
use Rattle.fort_base.specs.declared.refusal.Place.{Place}
use Rattle.fort_base.specs.declared.ty.Ty.{Ty}
use Rattle.fort_form.specs.declared.form.Form.{Form}
use Rattle.fort_form.specs.declared.form.Form.TheViews.{roll-TypeBranch}
use Rattle.fort_tree.specs.declared.delimited.TypeClause.{out-TypeClause}
use Rattle.fort_form_meaning.specs.Formed.{formed_expr}
use Rattle.fort_form_meaning.proofs.FormsBlocks.{type_clause_forms}
use Rattle.fort_form_build.proofs.Giving.{of_one, one}
use Rattle.fort_form_build.proofs.blocks.type_branch.Goals as goal

pub returns : goal.returns
returns g c =
    let k = g.L.Lookup.source c.args.lookup.now in
    of_one (λ
    (v : Form). roll-TypeBranch
    (record { place = c.type_place.result; ty = c.in_ok-ty.ty; value = v }))
    (one (formed_expr k (out-TypeClause c.args.clause.now).value) c.in_ok-value.ensures) refl
    (type_clause_forms k c.args.clause.now ∙ ap (λ
    (p : Place). roll-TypeBranch
    (record {
      place = p;
      ty = k.written (out-TypeClause c.args.clause.now).ty;
      value = formed_expr k (out-TypeClause c.args.clause.now).value;
    }))
    (sym c.type_place.ensures)
    ∙ ap (λ (t : Ty). roll-TypeBranch
    (record {
      place = c.type_place.result;
      ty = t;
      value = formed_expr k (out-TypeClause c.args.clause.now).value;
    })) (sym c.in_ok-ty.ensures))
