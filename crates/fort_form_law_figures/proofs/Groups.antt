-- The form of a flat expression, by its grouping.
use Rattle.std.proofs.Common.{◌≡◌, ◌≤◌, ◌+◌, ℕ, zero, suc, Bool, true, false, cond, List, [], ◌∷◌, ◌++◌, length, map, Option, Some, None, refl, ap, ◌∙◌, sym, subst, arith}
use Rattle.std.specs.Prelude.{get_or}
use Rattle.fort_base.specs.declared.refusal.Place.{Place}
use Rattle.fort_ops.specs.declared.op.Op.{Op}
use Rattle.fort_tree.specs.declared.grouped.FlatGrouping.{FlatGrouping}
use Rattle.fort_tree.specs.declared.grouped.Grouped.{Grouped, roll-Grouped, map-Grouped, fold-roll-Grouped}
use Rattle.fort_tree.specs.declared.grouped.Grouped.TheOpen.{Grouped-F}
use Rattle.fort_tree.specs.declared.grouped.Grouped.TheVariants.{rolls-Unit, rolls-Binary, rolls-Chain, rolls-Juxt}
use Rattle.fort_tree.specs.declared.grouped.Joint.{Joint}
use Rattle.fort_tree.specs.declared.grouped.Row.{Row}
use Rattle.fort_group.specs.Components.{HasGroups}
use Rattle.fort_group.specs.Grouping.{IsGrouping, unit, juxt, binary, chain, IsChain, first, next}
use Rattle.fort_form.specs.declared.form.Form.{Form}
use Rattle.fort_form_meaning.specs.Places.{place_of}
use Rattle.fort_form_meaning.specs.Source.{Source}
use Rattle.fort_form_meaning.specs.Forming.{unit_at, begins, form_grouped, grouped, grouped_by}
use Rattle.fort_form_walk.specs.Groupings.{same_place, grouping_at}
use Rattle.fort_sound_forms.specs.Figures.{HasFigures}
use Rattle.fort_form_law_figures.proofs.Made.{AllGood, good-Operator, good-Chain, good-Beside}

some : (n : ℕ) → 1 ≤ suc n
some n = search arith

one-more : (ops : List Op) (op : Op) → 1 ≤ length (ops ++ op ∷ [])
one-more [] op = some 0
one-more (o ∷ ops) op = some (length (ops ++ op ∷ []))

module _ (one : Form) (others : List Form) (G : HasFigures one) (R : AllGood others) where
  get-good : (fs : List Form) (n : ℕ) → AllGood fs → HasFigures (get_or fs n one)
  get-good [] n g = G
  get-good (f ∷ fs) zero g = g.0
  get-good (f ∷ fs) (suc n) g = get-good fs n g.1

  unit-good : (n : ℕ) → HasFigures (unit_at one others n)
  unit-good zero = G
  unit-good (suc n) = get-good others n R

  units-good : (ns : List ℕ) → AllGood (map (unit_at one others) ns)
  units-good [] = tt
  units-good (n ∷ ns) = (unit-good n, units-good ns)

  level : (l : Grouped-F Grouped)
      → grouped one others (roll-Grouped l)
      ≡ form_grouped one others (map-Grouped Grouped Form (grouped one others) l)
  unfolding grouped
  level l = fold-roll-Grouped Form (form_grouped one others) l

  more : (ps : List Grouped) (r : Grouped) → AllGood (map (grouped one others) ps)
      → HasFigures (grouped one others r)
      → AllGood (map (grouped one others) (ps ++ r ∷ []))
  more [] r g h = (h, tt)
  more (p ∷ ps) r g h = (g.0, more ps r g.1 h)

  module _ (joints : List Joint) where
    mutual
      pub group-good : (i j : ℕ) (t : Grouped) → IsGrouping joints i j t
          → HasFigures (grouped one others t)
      group-good i j t unit =
          subst HasFigures
          (sym (ap (grouped one others) (sym (rolls-Unit i)) ∙ level (Grouped-F.Unit i)))
          (unit-good i)
      group-good i j t (juxt {units = us} r) =
          subst HasFigures
          (sym (ap (grouped one others) (sym (rolls-Juxt us)) ∙ level (Grouped-F.Juxt us)))
          (good-Beside (begins (map (unit_at one others) us)) (map (unit_at one others) us)
          (units-good us))
      group-good i j t (binary {k = k} {op = op} {left = l} {right = r} b f gl gr fl fr) =
          subst HasFigures
          (sym (ap (grouped one others) (sym (rolls-Binary op l r))
          ∙ level (Grouped-F.Binary op l r)))
          (good-Operator (place_of (grouped one others l)) op
          (grouped one others l ∷ grouped one others r ∷ [])
          (group-good i k l gl, (group-good (k + 1) j r gr, tt)))
      group-good i j t (chain {ops = ops} {parts = parts} c) =
          let g = chain-good i j ops parts c in
          subst HasFigures
          (sym (ap (grouped one others) (sym (rolls-Chain ops parts))
          ∙ level (Grouped-F.Chain ops parts)))
          (good-Chain (begins (map (grouped one others) parts)) ops (map (grouped one others) parts)
          g.0 g.1)

      chain-good : (i j : ℕ) (ops : List Op) (parts : List Grouped) → IsChain joints i j ops parts
          → (1 ≤ length ops) × AllGood (map (grouped one others) parts)
      chain-good i j ops parts (first {k = k} {op = op} {left = l} {right = r} b f gl gr fl fr) =
          (some 0, (group-good i k l gl, (group-good (k + 1) j r gr, tt)))
      chain-good i j ops parts
          (next {k = k} {ops = os} {parts = ps} {op = op} {right = r} c b f gr fr) =
          (one-more os op, more ps r (chain-good i k os ps c).1 (group-good (k + 1) j r gr))

-- Each grouping is one of some joints.
abbrev pub IsGroupedSource : Source → Type 0
IsGroupedSource k = (p : Place) (g : Grouped) → k.grouping p ≡ Some g
    → (joints : List Joint) × (i : ℕ) × (j : ℕ) × IsGrouping joints i j g

-- the form of a flat expression
pub flat-good : (k : Source) → IsGroupedSource k → (one : Form) (others : List Form)
    → HasFigures one → AllGood others
    → HasFigures (grouped_by one others (k.grouping (place_of one)))
flat-good k S one others G R = by (k.grouping (place_of one)) refl
  where
    by : (o : Option Grouped) → k.grouping (place_of one) ≡ o → HasFigures (grouped_by one others o)
    by None e = G
    by (Some g) e = let s = S (place_of one) g e in group-good one others G R s.0 s.1 s.2 g s.3

-- ---- the groupings of a component

abbrev IsGroupedAt : List FlatGrouping → Place → Type 0
IsGroupedAt groups p = (g : Grouped) → grouping_at groups p ≡ Some g
    → (joints : List Joint) × (i : ℕ) × (j : ℕ) × IsGrouping joints i j g

one-grouped : (x : Grouped) (groups : List FlatGrouping) (p : Place)
    → (joints : List Joint) × (i : ℕ) × (j : ℕ) × IsGrouping joints i j x
    → IsGroupedAt groups p
    → (b : Bool) (g : Grouped) → cond b (Some x) (grouping_at groups p) ≡ Some g
    → (joints : List Joint) × (i : ℕ) × (j : ℕ) × IsGrouping joints i j g
one-grouped x groups p here later true g e =
    let q : x ≡ g = cc
    in subst (λ y. (joints : List Joint) × (i : ℕ) × (j : ℕ) × IsGrouping joints i j y) q here
one-grouped x groups p here later false g e = later g e

pub all-grouped : (rows : List Row) (groups : List FlatGrouping) → HasGroups rows groups
    → (p : Place) → IsGroupedAt groups p
all-grouped [] [] h p g e = absurd cc
all-grouped [] (x ∷ groups) h p g e = absurd h
all-grouped (row ∷ rows) [] h p g e = absurd h
all-grouped (row ∷ rows) (x ∷ groups) h p g e =
    one-grouped x.grouped groups p (row.joints, 0, length row.joints, h.1.only.0)
    (all-grouped rows groups h.2 p) (same_place x.place p) g e
