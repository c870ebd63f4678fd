-- Types of a component, of which there is no list of fields more.
use Rattle.std.proofs.Common.{◌≡◌, ℕ, ◌≤◌, Bool, List, [], ◌∷◌, ◌++◌, drop, length, refl, sym, ap, ◌∙◌}
use Rattle.std.proofs.lemmas.List.{drop_all, append-nil}
use Rattle.fort_core.specs.declared.program.CoreShape.{CoreShape}
use Rattle.fort_types_sets.specs.declared.field.Field.{Field}
use Rattle.fort_types_sets.specs.declared.member.MemberSet.{MemberSet}
use Rattle.fort_elab_meaning.specs.Shapes.{Initial, own_shapes}

module _ (texts : List (List ℕ)) (is : List Initial) (sets : List MemberSet) where
  no_fields : (t l : ℕ) (os : List Bool) → own_shapes texts is sets t l os [] ≡ []
  no_fields t l [] = refl
  no_fields t l (o ∷ os) = refl

  -- all types are made
  pub no_more_fields : (t l i : ℕ) (os : List Bool) (fss : List (List Field))
      (made : List CoreShape) {whole : List CoreShape} → length fss ≤ i
      → made ++ own_shapes texts is sets t l (drop i os) (drop i fss) ≡ whole → made ≡ whole
  no_more_fields t l i os fss made le h = sym (append-nil made)
      ∙ ap (λ (us : List CoreShape). made ++ us)
      (sym (ap (λ
      (us : List (List Field)). own_shapes texts is sets t l (drop i os) us) (drop_all i fss le)
      ∙ no_fields t l (drop i os))) ∙ h
