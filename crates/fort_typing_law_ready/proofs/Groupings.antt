-- The grouping of a flat expression has the shape that the grammar gives.
use Rattle.std.proofs.Common.{◌≡◌, ◌+◌, ℕ, Bool, true, false, cond, ◌&&◌, List, [], ◌∷◌, ◌++◌, length, map, Some, refl, sym, ap, ◌∙◌}
use Rattle.std.proofs.lemmas.List.{map-append}
use Rattle.fort_base.specs.declared.refusal.Place.{Place}
use Rattle.fort_ops.specs.declared.op.Op.{Op}
use Rattle.fort_tree.specs.declared.grouped.FlatGrouping.{FlatGrouping}
use Rattle.fort_tree.specs.declared.grouped.Grouped.{Grouped, roll-Grouped, map-Grouped, fold-roll-Grouped}
use Rattle.fort_tree.specs.declared.grouped.Grouped.TheOpen.{Grouped-F}
use Rattle.fort_tree.specs.declared.grouped.Grouped.TheVariants.{rolls-Unit, rolls-Binary, rolls-Chain, rolls-Juxt}
use Rattle.fort_tree.specs.declared.grouped.Joint.{Joint}
use Rattle.fort_tree.specs.declared.grouped.Row.{Row}
use Rattle.fort_group.specs.Components.{HasGroups}
use Rattle.fort_group.specs.Grouping.{IsJuxt, two, one_more, IsGrouping, unit, juxt, binary, chain, IsChain, first, next}
use Rattle.fort_form.specs.Shapes.{Shape, an_expression, is_expression, expression_if, are_expressions, are_as_many, are_sides}
use Rattle.fort_form_law_shapes.specs.Fits.{are_several, shape_grouped, grouping_shape}
use Rattle.fort_form_walk.specs.Groupings.{same_place, grouping_at}

-- ---- one more side, one more unit

many_more : (ops : List Op) (ss : List Shape) (op : Op) (s : Shape) → are_as_many ops ss ≡ true
    → are_as_many (ops ++ op ∷ []) (ss ++ s ∷ []) ≡ true
many_more [] [] op s e = refl
many_more [] (r ∷ ss) op s e = absurd (let z : false ≡ true = e in cc)
many_more (o ∷ ops) [] op s e = absurd (let z : false ≡ true = e in cc)
many_more (o ∷ ops) (r ∷ ss) op s e = many_more ops ss op s e

first_true : (a b : Bool) → a && b ≡ true → a ≡ true
first_true true b e = refl
first_true false b e = e

second_true : (a b : Bool) → a && b ≡ true → b ≡ true
second_true true b e = e
second_true false b e = absurd (let z : false ≡ true = e in cc)

both_true : (a b : Bool) → a ≡ true → b ≡ true → a && b ≡ true
both_true true b e f = f
both_true false b e f = e

expressions_more : (ss : List Shape) (s : Shape) → are_expressions ss ≡ true
    → is_expression s ≡ true → are_expressions (ss ++ s ∷ []) ≡ true
expressions_more [] s e f = both_true (is_expression s) true f refl
expressions_more (r ∷ ss) s e f =
    both_true (is_expression r) (are_expressions (ss ++ s ∷ []))
    (first_true (is_expression r) (are_expressions ss) e)
    (expressions_more ss s (second_true (is_expression r) (are_expressions ss) e) f)

sides_more : (ops : List Op) (ss : List Shape) (op : Op) (s : Shape) → are_sides ops ss ≡ true
    → is_expression s ≡ true → are_sides (ops ++ op ∷ []) (ss ++ s ∷ []) ≡ true
sides_more ops [] op s e f = absurd (let z : false ≡ true = e in cc)
sides_more ops (r ∷ []) op s e f = absurd (let z : false ≡ true = e in cc)
sides_more ops (r ∷ t ∷ ss) op s e f =
    let many = are_as_many ops (t ∷ ss) in
    let all = are_expressions (r ∷ t ∷ ss) in
    both_true (are_as_many (ops ++ op ∷ []) (t ∷ ss ++ s ∷ []))
    (are_expressions (r ∷ t ∷ ss ++ s ∷ []))
    (many_more ops (t ∷ ss) op s (first_true many all e))
    (expressions_more (r ∷ t ∷ ss) s (second_true many all e) f)

several_more : (ns : List ℕ) (n : ℕ) → are_several ns ≡ true → are_several (ns ++ n ∷ []) ≡ true
several_more [] n e = absurd (let z : false ≡ true = e in cc)
several_more (m ∷ []) n e = refl
several_more (m ∷ o ∷ ns) n e = refl

-- ---- groupings

level : (l : Grouped-F Grouped)
    → grouping_shape (roll-Grouped l) ≡ shape_grouped (map-Grouped Grouped Shape grouping_shape l)
unfolding grouping_shape
level l = fold-roll-Grouped Shape shape_grouped l

-- of two expressions
two_sides : (s r : Shape) → s ≡ an_expression → r ≡ an_expression
    → is_expression s && is_expression r ≡ true
two_sides s r e f =
    both_true (is_expression s) (is_expression r) (ap is_expression e) (ap is_expression f)

-- the sides of a chain of one operator
one_link : (op : Op) (s r : Shape) → s ≡ an_expression → r ≡ an_expression
    → are_sides (op ∷ []) (s ∷ r ∷ []) ≡ true
one_link op s r e f =
    both_true (is_expression s) (is_expression r
    && true) (ap is_expression e) (both_true (is_expression r) true (ap is_expression f) refl)

module _ (joints : List Joint) where
  juxt_several : (i j : ℕ) (units : List ℕ) → IsJuxt joints i j units → are_several units ≡ true
  juxt_several i j units (two e) = refl
  juxt_several i j units (one_more {k = k} {units = us} r e) =
      several_more us (k + 1) (juxt_several i k us r)

  mutual
    pub grouping_shaped : (i j : ℕ) (t : Grouped) → IsGrouping joints i j t
        → grouping_shape t ≡ an_expression
    grouping_shaped i j t unit = ap grouping_shape (sym (rolls-Unit i)) ∙ level (Grouped-F.Unit i)
    grouping_shaped i j t (juxt {units = us} r) =
        ap grouping_shape (sym (rolls-Juxt us)) ∙ level (Grouped-F.Juxt us)
        ∙ ap expression_if (juxt_several i j us r)
    grouping_shaped i j t (binary {k = k} {op = op} {left = l} {right = r} b f gl gr fl fr) =
        ap grouping_shape (sym (rolls-Binary op l r)) ∙ level (Grouped-F.Binary op l r)
        ∙ ap expression_if
        (two_sides (grouping_shape l) (grouping_shape r) (grouping_shaped i k l gl)
        (grouping_shaped (k + 1) j r gr))
    grouping_shaped i j t (chain {ops = ops} {parts = parts} c) =
        ap grouping_shape (sym (rolls-Chain ops parts)) ∙ level (Grouped-F.Chain ops parts)
        ∙ ap expression_if (chain_shaped i j ops parts c)

    chain_shaped : (i j : ℕ) (ops : List Op) (parts : List Grouped) → IsChain joints i j ops parts
        → are_sides ops (map grouping_shape parts) ≡ true
    chain_shaped i j ops parts (first {k = k} {op = op} {left = l} {right = r} b f gl gr fl fr) =
        one_link op (grouping_shape l) (grouping_shape r) (grouping_shaped i k l gl)
        (grouping_shaped (k + 1) j r gr)
    chain_shaped i j ops parts
        (next {k = k} {ops = os} {parts = ps} {op = op} {right = r} c b f gr fr) =
        ap (are_sides (os ++ op ∷ [])) (map-append grouping_shape ps (r ∷ []))
        ∙ sides_more os (map grouping_shape ps) op (grouping_shape r) (chain_shaped i k os ps c)
        (ap is_expression (grouping_shaped (k + 1) j r gr))

-- ---- the groupings of a component

abbrev IsShapedAt : List FlatGrouping → Place → Type 0
IsShapedAt groups p = (g : Grouped) → grouping_at groups p ≡ Some g
    → grouping_shape g ≡ an_expression

one_shaped : (x : Grouped) (groups : List FlatGrouping) (p : Place)
    → grouping_shape x ≡ an_expression → IsShapedAt groups p
    → (b : Bool) (g : Grouped) → cond b (Some x) (grouping_at groups p) ≡ Some g
    → grouping_shape g ≡ an_expression
one_shaped x groups p here later true g e = let q : x ≡ g = cc in ap grouping_shape (sym q) ∙ here
one_shaped x groups p here later false g e = later g e

pub all_shaped : (rows : List Row) (groups : List FlatGrouping) → HasGroups rows groups
    → (p : Place) → IsShapedAt groups p
all_shaped [] [] h p g e = absurd cc
all_shaped [] (x ∷ groups) h p g e = absurd h
all_shaped (row ∷ rows) [] h p g e = absurd h
all_shaped (row ∷ rows) (x ∷ groups) h p g e =
    one_shaped x.grouped groups p
    (grouping_shaped row.joints 0 (length row.joints) x.grouped h.1.only.0)
    (all_shaped rows groups h.2 p) (same_place x.place p) g e
