use Rattle.std.proofs.Common.{◌≡◌, ◌+◌, List, [], ◌∷◌, ◌++◌, Option, Some, None, true, false, refl, sym, ap, ◌∙◌, length, arith}
use Rattle.std.specs.Prelude.{map, option_map}
use Rattle.std.proofs.lemmas.List.{length-map}
use Rattle.fort_tree.specs.declared.delimited.Delimited.{Delimited}
use Rattle.fort_tree.specs.declared.expr.Atom.{Atom, out-Atom}
use Rattle.fort_tree.specs.declared.expr.FillSpots.{FillSpots}
use Rattle.fort_tree.specs.declared.types.TypeTree.{TypeTree}
use Rattle.fort_form.specs.declared.form.Form.TheVariants as a_form
use Rattle.fort_form_meaning.specs.Formed.{formed_atom, formed_delimited, formed_expr}
use Rattle.fort_form_meaning.proofs.FormsFlats.{forms-Name, forms-Number, forms-Text, forms-True, forms-False, forms-Self_, forms-Parens, forms-Delimited, forms-ArrayFill}
use Rattle.fort_form_tasks.specs.Tasks.{atom_at}
use Rattle.fort_form_tasks.proofs.Inside.{in-Name, in-Number, in-Text, in-True, in-False, in-Self_, in-Parens, in-Delimited, in-ArrayFill}
use Rattle.fort_form_build.proofs.Giving.{named_as, nothing, one}
use Rattle.fort_form_build.proofs.flats.atom.Goals as goal

pub returns-in-Name : goal.returns-in-Name
returns-in-Name g c =
    let k = g.L.Lookup.source c.args.lookup.now in
    named_as (nothing refl) (ap (λ
    (x : Atom). atom_at k (out-Atom x)) c.in-Name.is
    ∙ in-Name k _) (ap (formed_atom k) c.in-Name.is ∙ forms-Name k _)

pub returns-in-Number : goal.returns-in-Number
returns-in-Number g c =
    let k = g.L.Lookup.source c.args.lookup.now in
    named_as (nothing refl) (ap (λ
    (x : Atom). atom_at k (out-Atom x)) c.in-Number.is
    ∙ in-Number k _ _) (ap (formed_atom k) c.in-Number.is ∙ forms-Number k _ _)

pub returns-in-Text : goal.returns-in-Text
returns-in-Text g c =
    let k = g.L.Lookup.source c.args.lookup.now in
    named_as (nothing refl) (ap (λ
    (x : Atom). atom_at k (out-Atom x)) c.in-Text.is
    ∙ in-Text k _ _) (ap (formed_atom k) c.in-Text.is ∙ forms-Text k _ _)

pub returns-in-True : goal.returns-in-True
returns-in-True g c =
    let k = g.L.Lookup.source c.args.lookup.now in
    named_as (nothing refl) (ap (λ
    (x : Atom). atom_at k (out-Atom x)) c.in-True.is
    ∙ in-True k _) (ap (formed_atom k) c.in-True.is ∙ forms-True k _)

pub returns-in-False : goal.returns-in-False
returns-in-False g c =
    let k = g.L.Lookup.source c.args.lookup.now in
    named_as (nothing refl) (ap (λ
    (x : Atom). atom_at k (out-Atom x)) c.in-False.is
    ∙ in-False k _) (ap (formed_atom k) c.in-False.is ∙ forms-False k _)

pub returns-in-Self_ : goal.returns-in-Self_
returns-in-Self_ g c =
    let k = g.L.Lookup.source c.args.lookup.now in
    named_as (nothing refl) (ap (λ
    (x : Atom). atom_at k (out-Atom x)) c.in-Self_.is
    ∙ in-Self_ k _) (ap (formed_atom k) c.in-Self_.is ∙ forms-Self_ k _)

pub returns-in_ok-between-in-Parens : goal.returns-in_ok-between-in-Parens
returns-in_ok-between-in-Parens g c =
    let k = g.L.Lookup.source c.args.lookup.now in
    named_as (c.in_ok-between-in-Parens.ensures k) (ap (λ
    (x : Atom). atom_at k (out-Atom x)) c.in-Parens.is
    ∙ in-Parens k _ _ _) (ap (formed_atom k) c.in-Parens.is ∙ forms-Parens k _ _ _)

pub returns-in_ok-take-in-Delimited : goal.returns-in_ok-take-in-Delimited
returns-in_ok-take-in-Delimited g c =
    let k = g.L.Lookup.source c.args.lookup.now in
    named_as (one (formed_delimited k _) c.in_ok-take-in-Delimited.ensures) (ap (λ
    (x : Atom). atom_at k (out-Atom x)) c.in-Delimited.is
    ∙ in-Delimited k _) (ap (formed_atom k) c.in-Delimited.is ∙ forms-Delimited k _)

pub returns-in_ok-fill-in-ArrayFill : goal.returns-in_ok-fill-in-ArrayFill
returns-in_ok-fill-in-ArrayFill g c =
    let k = g.L.Lookup.source c.args.lookup.now in
    let size = formed_expr k c.in-ArrayFill.size in
    let value = formed_expr k c.in-ArrayFill.value in
    named_as (c.in_ok-fill-in-ArrayFill.ensures size value) (ap (λ
    (x : Atom). atom_at k (out-Atom x)) c.in-ArrayFill.is ∙ in-ArrayFill k _ _ _ _)
    (ap (formed_atom k) c.in-ArrayFill.is ∙ forms-ArrayFill k _ _ _ _ ∙ ap (λ
    (s : FillSpots). a_form.Fill s.array.place (k.written c.in-ArrayFill.element) size
    value) (sym c.get.ensures)
    ∙ ap (λ (t : TypeTree). a_form.Fill c.get.result.now.array.place (k.written t) size value)
    (sym c.get-in-ArrayFill.ensures))
