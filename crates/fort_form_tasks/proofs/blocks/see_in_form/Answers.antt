use Rattle.std.proofs.Common.{List, [], ◌∷◌, ap, ◌∙◌}
use Rattle.std.specs.Prelude.{map}
use Rattle.std.specs.List.{flat_map}
use Rattle.fort_tree.specs.declared.expr.Generator.{Generator}
use Rattle.fort_tree.specs.declared.delimited.Delimited.{Delimited, out-Delimited}
use Rattle.fort_tree.specs.declared.delimited.BlockItem.{BlockItem}
use Rattle.fort_tree.specs.declared.delimited.Also.{Also}
use Rattle.fort_tree.specs.declared.delimited.Elif.{Elif}
use Rattle.fort_tree.specs.declared.delimited.NextGenerator.{NextGenerator}
use Rattle.fort_tree.specs.declared.delimited.CaseClause.{CaseClause}
use Rattle.fort_tree.specs.declared.delimited.TypeClause.{TypeClause}
use Rattle.fort_form_meaning.specs.Formed.{formed_also}
use Rattle.fort_form_tasks.specs.Tasks.{delimited_at, source_form, next_source, inside_elif, inside_case_clause, type_clause_value, formed_block}
use Rattle.fort_form_tasks.proofs.Inside.{in-Do, in-If, in-While, in-For, in-Case, in-Typecase, in-Try}
use Rattle.fort_form_tasks.proofs.Steps.{by, two_seen, three_seen, four_seen}
use Rattle.fort_form_tasks.proofs.blocks.see_in_form.Goals as goal

pub returns-in_ok-see_alsos-in-Do : goal.returns-in_ok-see_alsos-in-Do
returns-in_ok-see_alsos-in-Do c =
    λ k. two_seen k _ _ (by k (λ
    (l : List BlockItem). formed_block k c.in-Do.do_ l ∷ []) c.as_slice.ensures
    (c.in_ok-see-in-Do.ensures k)) (by k (λ
    (l : List Also). map (formed_also k) l) c.as_slice-in-Do.ensures
    (c.in_ok-see_alsos-in-Do.ensures k)) (ap (λ
    (x : Delimited). delimited_at k (out-Delimited x)) c.in-Do.is ∙ in-Do k _ _ _ _)

pub returns-in_ok-see_else_block-in-If : goal.returns-in_ok-see_else_block-in-If
returns-in_ok-see_else_block-in-If c =
    λ k. four_seen k _ _ _ _ (c.in_ok-see-in-If.ensures k) (by k (λ
    (l : List BlockItem). formed_block k c.in-If.then l ∷ []) c.as_slice-in-If.ensures
    (c.in_ok-see-in-If-2.ensures k)) (by k (λ
    (l : List Elif). flat_map (inside_elif k) l) c.as_slice-in-If-2.ensures
    (c.in_ok-see_in_elifs-in-If.ensures k)) (c.in_ok-see_else_block-in-If.ensures k) (ap (λ
    (x : Delimited). delimited_at k (out-Delimited x)) c.in-If.is ∙ in-If k _ _ _ _ _ _ _)

pub returns-in_ok-see-in-While-2 : goal.returns-in_ok-see-in-While-2
returns-in_ok-see-in-While-2 c =
    λ k. two_seen k _ _ (c.in_ok-see-in-While.ensures k) (by k (λ
    (l : List BlockItem). formed_block k c.in-While.do_ l ∷ []) c.as_slice-in-While.ensures
    (c.in_ok-see-in-While-2.ensures k)) (ap (λ
    (x : Delimited). delimited_at k (out-Delimited x)) c.in-While.is ∙ in-While k _ _ _ _ _)

pub returns-in_ok-see-in-For : goal.returns-in_ok-see-in-For
returns-in_ok-see-in-For c =
    λ k. three_seen k _ _ _ (by k (λ
    (x : Generator). source_form k x ∷ []) c.get.ensures (c.in_ok-see_source-in-For.ensures k))
    (by k (λ (l : List NextGenerator). map (next_source k) l) c.as_slice-in-For.ensures
    (c.in_ok-see_sources-in-For.ensures k)) (by k (λ
    (l : List BlockItem). formed_block k c.in-For.do_ l ∷ []) c.as_slice-in-For-2.ensures
    (c.in_ok-see-in-For.ensures k)) (ap (λ
    (x : Delimited). delimited_at k (out-Delimited x)) c.in-For.is ∙ in-For k _ _ _ _ _ _)

pub returns-in_ok-see_else_clause-in-Case : goal.returns-in_ok-see_else_clause-in-Case
returns-in_ok-see_else_clause-in-Case c =
    λ k. three_seen k _ _ _ (c.in_ok-see-in-Case.ensures k) (by k (λ
    (l : List CaseClause). flat_map (inside_case_clause k) l) c.as_slice-in-Case.ensures
    (c.in_ok-see_in_case_clauses-in-Case.ensures k)) (c.in_ok-see_else_clause-in-Case.ensures k)
    (ap (λ (x : Delimited). delimited_at k (out-Delimited x)) c.in-Case.is ∙ in-Case k _ _ _ _ _ _)

pub returns-in_ok-see_else_clause-in-Typecase : goal.returns-in_ok-see_else_clause-in-Typecase
returns-in_ok-see_else_clause-in-Typecase c =
    λ k. three_seen k _ _ _ (c.in_ok-see-in-Typecase.ensures k) (by k (λ
    (l : List TypeClause). map (type_clause_value k) l) c.as_slice-in-Typecase.ensures
    (c.in_ok-see_type_clauses-in-Typecase.ensures k))
    (c.in_ok-see_else_clause-in-Typecase.ensures k) (ap (λ
    (x : Delimited). delimited_at k (out-Delimited x)) c.in-Typecase.is
    ∙ in-Typecase k _ _ _ _ _ _ _ _)

pub returns-in_ok-see_finally-in-Try : goal.returns-in_ok-see_finally-in-Try
returns-in_ok-see_finally-in-Try c =
    λ k. three_seen k _ _ _ (by k (λ
    (l : List BlockItem). formed_block k c.in-Try.try_ l ∷ []) c.as_slice-in-Try.ensures
    (c.in_ok-see-in-Try.ensures k)) (c.in_ok-see_in_catch-in-Try.ensures k)
    (c.in_ok-see_finally-in-Try.ensures k) (ap (λ
    (x : Delimited). delimited_at k (out-Delimited x)) c.in-Try.is ∙ in-Try k _ _ _ _ _)
