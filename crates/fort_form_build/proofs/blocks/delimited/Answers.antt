use Rattle.std.proofs.Common.{◌≡◌, List, [], ◌∷◌, ◌++◌, Option, Some, None, refl, sym, ap, ◌∙◌, length, arith}
use Rattle.std.specs.Prelude.{map, option_map}
use Rattle.std.specs.List.{flat_map}
use Rattle.std.proofs.lemmas.List.{length-map}
use Rattle.fort_base.specs.declared.ids.NameId.{NameId}
use Rattle.fort_base.specs.declared.refusal.Place.{Place}
use Rattle.fort_form.specs.declared.form.Branch.{Branch}
use Rattle.fort_form.specs.declared.form.Form.{Form}
use Rattle.fort_form.specs.declared.form.Form.TheVariants as a_form
use Rattle.fort_form.specs.declared.form.Form.TheViews.{roll-Branch}
use Rattle.fort_form.specs.declared.form.Generator.{Generator as FormGenerator}
use Rattle.fort_form.specs.declared.form.TypeBranch.{TypeBranch}
use Rattle.fort_tree.specs.declared.delimited.Delimited.{Delimited, out-Delimited}
use Rattle.fort_tree.specs.declared.delimited.NextGenerator.{NextGenerator}
use Rattle.fort_tree.specs.declared.expr.Generator.{Generator}
use Rattle.fort_form_meaning.specs.Formed.{formed_also, formed_case_clause, formed_catch, formed_delimited, formed_elif, formed_else_block, formed_else_clause, formed_finally, formed_flat, formed_generator, formed_next_generator, formed_type_clause}
use Rattle.fort_form_meaning.specs.Forming.{caught}
use Rattle.fort_form_meaning.proofs.FormsBlocks.{forms-Do, forms-If, forms-While, forms-For, forms-Case, forms-Typecase, forms-Try}
use Rattle.fort_form_tasks.specs.Tasks.{delimited_at, formed_block, inside_catch, next_source, source_form, type_clause_value}
use Rattle.fort_form_tasks.proofs.Inside.{in-Do, in-If, in-While, in-For, in-Case, in-Typecase, in-Try}
use Rattle.fort_form_build.proofs.Giving.{by, of_one, of_two, of_three, one}
use Rattle.fort_form_build.proofs.Parts.{case_forms, forms_of_else_block, forms_of_else_clause, forms_of_finally, has_form, if_forms}
use Rattle.fort_form_build.proofs.Splitting.{as_many, branches_as_many}
use Rattle.fort_form_build.proofs.blocks.delimited.Goals as goal

pub returns-in_ok-blocks-in-Do : goal.returns-in_ok-blocks-in-Do
returns-in_ok-blocks-in-Do g c = let k = g.L.Lookup.source c.args.lookup.now in
    of_one (a_form.Do c.in-Do.do_.place)
    (as_many (formed_block k c.in-Do.do_ c.in-Do.block ∷ map (formed_also k) c.in-Do.others)
    c.in_ok-blocks-in-Do.ensures.taken (let l = length-map c.in-Do.others (formed_also k)
    in let n = c.in_ok-blocks-in-Do.ensures.count in let s = ap length c.as_slice.ensures
    in omega arith))
    (ap (λ (x : Delimited). delimited_at k (out-Delimited x)) c.in-Do.is
    ∙ in-Do k _ _ _ _) (ap (formed_delimited k) c.in-Do.is ∙ forms-Do k _ _ _ _)

pub returns-in_ok-last-in-If : goal.returns-in_ok-last-in-If
returns-in_ok-last-in-If g c = let k = g.L.Lookup.source c.args.lookup.now in
    of_two (λ (bs : List Branch) (o : Option Form). a_form.If c.in-If.if_.place bs o)
    (branches_as_many
    (roll-Branch
    (record {
      test = formed_flat k c.in-If.condition;
      value = formed_block k c.in-If.then c.in-If.block;
    })
    ∷ map (formed_elif k) c.in-If.elifs) c.in_ok-branches-in-If.ensures.taken (let l =
    length-map c.in-If.elifs (formed_elif k) in let n = c.in_ok-branches-in-If.ensures.count
    in let s = ap length c.as_slice-in-If.ensures in omega arith))
    (c.in_ok-last-in-If.ensures (option_map (formed_else_block k) c.in-If.otherwise)
    (has_form (formed_else_block k) c.in-If.otherwise _ c.is_some.ensures))
    (ap (λ (x : Delimited). delimited_at k (out-Delimited x)) c.in-If.is ∙ in-If k _ _ _ _ _ _ _
    ∙ if_forms k _ _ c.in-If.elifs c.in-If.otherwise) (ap (formed_delimited k) c.in-If.is
    ∙ forms-If k _ _ _ _ _ _ _)

pub returns-in_ok-block-in-While : goal.returns-in_ok-block-in-While
returns-in_ok-block-in-While g c = let k = g.L.Lookup.source c.args.lookup.now in
    of_two (λ (t b : Form). a_form.While c.in-While.while_.place t b)
    (one (formed_flat k c.in-While.condition) c.in_ok-condition-in-While.ensures)
    (one (formed_block k c.in-While.do_ c.in-While.block) c.in_ok-block-in-While.ensures)
    (ap (λ (x : Delimited). delimited_at k (out-Delimited x)) c.in-While.is
    ∙ in-While k _ _ _ _ _) (ap (formed_delimited k) c.in-While.is
    ∙ forms-While k _ _ _ _ _)

pub returns-in_ok-block-in-For : goal.returns-in_ok-block-in-For
returns-in_ok-block-in-For g c = let k = g.L.Lookup.source c.args.lookup.now in
    of_two (λ (gs : List FormGenerator) (b : Form). a_form.For c.in-For.for_.place gs b)
    (by (λ (gs : List NextGenerator). source_form k c.in-For.generator ∷ map (next_source k) gs) (λ
    (gs : List NextGenerator). formed_generator k c.in-For.generator
    ∷ map (formed_next_generator k) gs) c.as_slice-in-For.ensures (by (λ
    (x : Generator). source_form k x ∷ map (next_source k) c.as_slice-in-For.result.now) (λ
    (x : Generator). formed_generator k x
    ∷ map (formed_next_generator k) c.as_slice-in-For.result.now) c.get.ensures
    (c.in_ok-binders-in-For.ensures k)))
    (one (formed_block k c.in-For.do_ c.in-For.block) c.in_ok-block-in-For.ensures)
    (ap (λ (x : Delimited). delimited_at k (out-Delimited x)) c.in-For.is
    ∙ in-For k _ _ _ _ _ _) (ap (formed_delimited k) c.in-For.is ∙ forms-For k _ _ _ _ _ _)

pub returns-in_ok-last-in-Case : goal.returns-in_ok-last-in-Case
returns-in_ok-last-in-Case g c = let k = g.L.Lookup.source c.args.lookup.now in
    of_three (λ
    (s : Form) (bs : List Branch) (o : Option Form). a_form.Case c.in-Case.case.place s bs
    o)
    (one (formed_flat k c.in-Case.subject) c.in_ok-subject-in-Case.ensures)
    (branches_as_many (map (formed_case_clause k) c.in-Case.clauses)
    c.in_ok-branches-in-Case.ensures.taken (let l =
    length-map c.in-Case.clauses (formed_case_clause k)
    in let n = c.in_ok-branches-in-Case.ensures.count in let m = c.len.ensures
    in omega arith))
    (c.in_ok-last-in-Case.ensures (option_map (formed_else_clause k) c.in-Case.otherwise)
    (has_form (formed_else_clause k) c.in-Case.otherwise _ c.is_some-in-Case.ensures))
    (ap (λ (x : Delimited). delimited_at k (out-Delimited x)) c.in-Case.is ∙ in-Case k _ _ _ _ _ _
    ∙ case_forms k _ c.in-Case.clauses c.in-Case.otherwise)
    (ap (formed_delimited k) c.in-Case.is ∙ forms-Case k _ _ _ _ _ _)

pub returns-in_ok-last-in-Typecase : goal.returns-in_ok-last-in-Typecase
returns-in_ok-last-in-Typecase g c = let k = g.L.Lookup.source c.args.lookup.now in
    of_three (λ
    (s : Form) (bs : List TypeBranch) (o : Option Form). a_form.Typecase
    c.in-Typecase.typecase.place c.in-Typecase.name.spot.place c.in-Typecase.name.id s bs o)
    (one (formed_flat k c.in-Typecase.subject) c.in_ok-subject-in-Typecase.ensures)
    (by (map (type_clause_value k)) (map (formed_type_clause k)) c.as_slice-in-Typecase.ensures
    c.in_ok-branches-in-Typecase.ensures)
    (c.in_ok-last-in-Typecase.ensures (option_map (formed_else_clause k) c.in-Typecase.otherwise)
    (has_form (formed_else_clause k) c.in-Typecase.otherwise _
    c.is_some-in-Typecase.ensures))
    (ap (λ (x : Delimited). delimited_at k (out-Delimited x)) c.in-Typecase.is
    ∙ in-Typecase k _ _ _ _ _ _ _ _
    ∙ ap (λ zs. formed_flat k c.in-Typecase.subject
    ∷ (map (type_clause_value k) c.in-Typecase.clauses ++ zs))
    (sym (forms_of_else_clause k c.in-Typecase.otherwise)))
    (ap (formed_delimited k) c.in-Typecase.is ∙ forms-Typecase k _ _ _ _ _ _ _ _)

pub returns-in_ok-last-in-Try : goal.returns-in_ok-last-in-Try
returns-in_ok-last-in-Try g c = let k = g.L.Lookup.source c.args.lookup.now in
    of_three (λ
    (b : Form) (bs : List TypeBranch) (o : Option Form). a_form.Try c.in-Try.try_.place b
    c.binder.result bs o)
    (one (formed_block k c.in-Try.try_ c.in-Try.block) c.in_ok-block-in-Try.ensures)
    c.in_ok-branches-in-Try.ensures
    (c.in_ok-last-in-Try.ensures (option_map (formed_finally k) c.in-Try.finally)
    (has_form (formed_finally k) c.in-Try.finally _ c.is_some-in-Try.ensures))
    (ap (λ (x : Delimited). delimited_at k (out-Delimited x)) c.in-Try.is ∙ in-Try k _ _ _ _ _
    ∙ ap (λ zs. formed_block k c.in-Try.try_ c.in-Try.block
    ∷ (inside_catch k c.in-Try.catch ++ zs)) (sym (forms_of_finally k c.in-Try.finally)))
    (ap (formed_delimited k) c.in-Try.is ∙ forms-Try k _ _ _ _ _ ∙ ap (λ
    (x : Option (Place × NameId)). a_form.Try c.in-Try.try_.place
    (formed_block k c.in-Try.try_ c.in-Try.block) x
    (caught (option_map (formed_catch k) c.in-Try.catch))
    (option_map (formed_finally k) c.in-Try.finally)) (sym (c.binder.ensures k)))
