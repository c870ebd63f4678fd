-- The form of a flat expression, by its grouping.
use Rattle.std.proofs.Common.{◌≡◌, ℕ, zero, suc, Bool, true, false, ◌&&◌, List, [], ◌∷◌, map, Option, Some, None, refl, ap, ◌∙◌, sym, subst}
use Rattle.std.specs.Prelude.{get_or}
use Rattle.std.specs.List.{AllByRecursion}
use Rattle.fort_base.specs.declared.ty.Ty.{Ty}
use Rattle.fort_ops.specs.declared.op.Op.{Op}
use Rattle.fort_tree.specs.declared.grouped.Grouped.{Grouped, roll-Grouped, map-Grouped, fold-roll-Grouped, ind-Grouped}
use Rattle.fort_tree.specs.declared.grouped.Grouped.TheOpen.{Grouped-F}
use Rattle.fort_tree.specs.declared.spot.Name.{Name}
use Rattle.fort_form.specs.declared.form.Form.{Form}
use Rattle.fort_form.specs.Shapes.{Shape, an_expression, a_postfix, no_shape, is_expression, expression_if, are_expressions, are_as_many, are_sides, shape}
use Rattle.fort_form_meaning.specs.Places.{place_of}
use Rattle.fort_form_meaning.specs.Source.{Source}
use Rattle.fort_form_meaning.specs.Forming.{unit_at, begins, form_grouped, grouped, grouped_by, form_flat}
use Rattle.fort_form_law_shapes.specs.Fits.{are_several, shape_grouped, grouping_shape, IsFitSource}
use Rattle.fort_form_law_shapes.proofs.Lists.{both, left, right}
use Rattle.fort_form_law_shapes.proofs.Made.{IsGood, good-Operator, good-Chain, good-Beside, all-expressions}

expression-then : (c : Bool) → expression_if c ≡ an_expression → c ≡ true
expression-then true e = refl
expression-then false e = absurd (let z : no_shape ≡ an_expression = e in cc)

expression-is : (s : Shape) → is_expression s ≡ true → s ≡ an_expression
expression-is an_expression e = refl
expression-is a_postfix e = absurd (let z : false ≡ true = e in cc)
expression-is no_shape e = absurd (let z : false ≡ true = e in cc)

module _ (P : Ty → Type 0) (first : Form) (rest : List Form) (G : IsGood P first)
    (R : AllByRecursion (IsGood P) rest) where
  get-good : (fs : List Form) (n : ℕ) → AllByRecursion (IsGood P) fs → IsGood P (get_or fs n first)
  get-good [] n g = G
  get-good (f ∷ fs) zero g = g.0
  get-good (f ∷ fs) (suc n) g = get-good fs n g.1

  unit-good : (n : ℕ) → IsGood P (unit_at first rest n)
  unit-good zero = G
  unit-good (suc n) = get-good rest n R

  units-good : (ns : List ℕ) → AllByRecursion (IsGood P) (map (unit_at first rest) ns)
  units-good [] = tt
  units-good (n ∷ ns) = (unit-good n, units-good ns)

  abbrev Shown : Grouped → Type 0
  Shown g = grouping_shape g ≡ an_expression → IsGood P (grouped first rest g)

  abbrev One : Type 0
  One = (g : Grouped) × Shown g

  abbrev parts : Grouped-F One → Grouped-F Grouped
  parts = map-Grouped One Grouped (λ e. e.0)

  grouped-shape : (l : Grouped-F Grouped)
      → grouping_shape (roll-Grouped l) ≡ shape_grouped (map-Grouped Grouped Shape grouping_shape l)
  unfolding grouping_shape
  grouped-shape l = fold-roll-Grouped Shape shape_grouped l

  grouped-form : (l : Grouped-F Grouped)
      → grouped first rest (roll-Grouped l)
      ≡ form_grouped first rest (map-Grouped Grouped Form (grouped first rest) l)
  unfolding grouped
  grouped-form l = fold-roll-Grouped Form (form_grouped first rest) l

  sides-good : (es : List One)
      → are_expressions (map grouping_shape (map (λ (e : One). e.0) es)) ≡ true
      → AllByRecursion (IsGood P) (map (grouped first rest) (map (λ (e : One). e.0) es))
  sides-good [] s = tt
  sides-good (e ∷ es) s = (
    e.1 (expression-is (grouping_shape e.0)
        (left (is_expression (grouping_shape e.0))
        (are_expressions (map grouping_shape (map (λ (e : One). e.0) es))) s)),
    sides-good es
        (right (is_expression (grouping_shape e.0))
        (are_expressions (map grouping_shape (map (λ (e : One). e.0) es))) s),
  )

  as-many : (ops : List Op) (es : List One)
      → are_as_many ops (map shape (map (grouped first rest) (map (λ (e : One). e.0) es)))
      ≡ are_as_many ops (map grouping_shape (map (λ (e : One). e.0) es))
  as-many [] [] = refl
  as-many [] (e ∷ es) = refl
  as-many (op ∷ ops) [] = refl
  as-many (op ∷ ops) (e ∷ es) = as-many ops es

  -- the sides of a chain
  chain-good : (ops : List Op) (es : List One)
      → are_sides ops (map grouping_shape (map (λ (e : One). e.0) es)) ≡ true
      → (are_sides ops (map shape (map (grouped first rest) (map (λ (e : One). e.0) es))) ≡ true)
      × AllByRecursion (IsGood P) (map (grouped first rest) (map (λ (e : One). e.0) es))
  chain-good ops [] s = absurd (let z : false ≡ true = s in cc)
  chain-good ops (d ∷ []) s = absurd (let z : false ≡ true = s in cc)
  chain-good ops (d ∷ e ∷ es) s =
      let many = are_as_many ops (map grouping_shape (map (λ (e : One). e.0) (e ∷ es))) in
      let all = are_expressions (map grouping_shape (map (λ (e : One). e.0) (d ∷ e ∷ es))) in
      let g = sides-good (d ∷ e ∷ es) (right many all s) in (
        both (as-many ops (e ∷ es)
            ∙ left many all s)
            (all-expressions P (map (grouped first rest) (map (λ (e : One). e.0) (d ∷ e ∷ es)))
            g),
        g,
      )

  level : (y : Grouped-F One)
      → shape_grouped (map-Grouped Grouped Shape grouping_shape (parts y)) ≡ an_expression
      → IsGood P (form_grouped first rest (map-Grouped Grouped Form (grouped first rest) (parts y)))
  level (Grouped-F.Unit n) s = unit-good n
  level (Grouped-F.Binary op l r) s =
      let z = expression-then (is_expression (grouping_shape l.0)
      && is_expression (grouping_shape r.0)) s in
      good-Operator P (place_of (grouped first rest l.0)) op
      (grouped first rest l.0 ∷ grouped first rest r.0 ∷ []) (
        l.1 (expression-is (grouping_shape l.0)
            (left (is_expression (grouping_shape l.0)) (is_expression (grouping_shape r.0)) z)),
        (
          r.1 (expression-is (grouping_shape r.0)
              (right (is_expression (grouping_shape l.0)) (is_expression (grouping_shape r.0))
              z)),
          tt,
        ),
      )
  level (Grouped-F.Chain ops es) s =
      let r = chain-good ops es
      (expression-then (are_sides ops (map grouping_shape (map (λ (e : One). e.0) es))) s) in
      good-Chain P (begins (map (grouped first rest) (map (λ (e : One). e.0) es))) ops
      (map (grouped first rest) (map (λ (e : One). e.0) es)) r.0 r.1
  level (Grouped-F.Juxt []) s = absurd (let z : no_shape ≡ an_expression = s in cc)
  level (Grouped-F.Juxt (n ∷ [])) s = absurd (let z : no_shape ≡ an_expression = s in cc)
  level (Grouped-F.Juxt (n ∷ m ∷ ns)) s =
      good-Beside P (begins (map (unit_at first rest) (n ∷ m ∷ ns))) (unit_at first rest n)
      (unit_at first rest m) (map (unit_at first rest) ns) (units-good (n ∷ m ∷ ns))

  step : (x : Grouped-F Grouped) (y : Grouped-F One) → parts y ≡ x → Shown (roll-Grouped x)
  step x y is =
      subst (λ x. Shown (roll-Grouped x)) is
      (λ h. subst (IsGood P) (sym (grouped-form (parts y)))
      (level y (sym (grouped-shape (parts y)) ∙ h)))

  shown : (g : Grouped) → Shown g
  shown = ind-Grouped Shown step

-- the form of a flat expression
pub grouped-good : (P : Ty → Type 0) (Known : Name → Type 0) (k : Source)
    (S : IsFitSource P Known k) (first : Form) (rest : List Form) → IsGood P first
    → AllByRecursion (IsGood P) rest
    → IsGood P (grouped_by first rest (k.grouping (place_of first)))
grouped-good P Known k S first rest G R = by (k.grouping (place_of first)) refl
  where
    by : (o : Option Grouped) → k.grouping (place_of first) ≡ o → IsGood P (grouped_by first rest o)
    by None e = G
    by (Some g) e = shown P first rest G R g (S.groupings (place_of first) g e)
