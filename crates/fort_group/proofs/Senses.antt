-- The walk over the chains of a tree tells whether each is good.
use Rattle.std.proofs.Common.{◌≡◌, zero, suc, Bool, true, false, not, ◌&&◌, ◌||◌, List, [], ◌∷◌, map, length, refl, sym, ap, ◌∙◌, arith, subst}
use Rattle.std.proofs.lemmas.Bool.{lt-ltb, ltb-true}
use Rattle.fort_ops.specs.declared.op.Op.{Op}
use Rattle.fort_ops.specs.declared.op.Sense.{Sense}
use Rattle.fort_ops.specs.declared.op.Sense.TheVariants.{Equal, Unequal, Rising, Falling, Other}
use Rattle.fort_ops.specs.Senses.{sense_of}
use Rattle.fort_tree.specs.declared.grouped.Grouped.{Grouped, out-Grouped, map-Grouped, fold_out-Grouped}
use Rattle.fort_tree.specs.declared.grouped.Grouped.TheOpen.{Grouped-F}
use Rattle.fort_group.specs.Nodes.{itself}
use Rattle.fort_group.specs.Chains.{HasSense, IsGoodChain, IsGoodNode, IsSensible}
use Rattle.fort_group.specs.Walks.{equal_senses, has_sense, good_chain, all_true, sensible_step, sensible}
use Rattle.fort_group.proofs.Trees.{Every, Parts, by_parts, everywhere, below}
use Rattle.fort_group.proofs.Agreement.{both_true, and_true}

equal_from : (a b : Sense) → equal_senses a b ≡ true → a ≡ b
equal_from Equal Equal e = refl
equal_from Unequal Unequal e = refl
equal_from Rising Rising e = refl
equal_from Falling Falling e = refl
equal_from Other Other e = refl
equal_from _ _ e = absurd (cc e)

equal_itself : (a : Sense) → equal_senses a a ≡ true
equal_itself Equal = refl
equal_itself _ = refl

has_from : (s : Sense) (ops : List Op) → has_sense s ops ≡ true → HasSense s ops
has_from s [] e = absurd (cc e)
has_from s (op ∷ ops) e = here (equal_senses (sense_of op) s) refl (has_from s ops) e
  where
    here : (b : Bool) → equal_senses (sense_of op) s ≡ b → (has_sense s ops ≡ true → HasSense s ops)
        → b || has_sense s ops ≡ true → HasSense s (op ∷ ops)
    here true f later g = (0, op, omega arith, refl, equal_from _ _ f)
    here false f later g = let h = later g in (suc h.0, h.1, omega (arith, h.2), h.3, h.4)

from_has : (s : Sense) (ops : List Op) → HasSense s ops → has_sense s ops ≡ true
from_has s [] (k, x, within, at, is) = absurd (omega arith)
from_has s (op ∷ ops) (zero, x, within, at, is) =
    ap (λ b. b
    || has_sense s ops)
    (subst (λ t. equal_senses (sense_of op) t
    ≡ true) (ap sense_of at ∙ is) (equal_itself (sense_of op)))
from_has s (op ∷ ops) (suc k, x, within, at, is) =
    or_true _ _ (from_has s ops (k, x, omega arith, at, is))
  where
    or_true : (a b : Bool) → b ≡ true → a || b ≡ true
    or_true true b e = refl
    or_true false b e = e

-- not both
not_both : (a b : Bool) → not (a && b) ≡ true → a ≡ true → b ≡ true → ⊥
not_both true true e f g = cc e
not_both true false e f g = cc g
not_both false b e f g = cc f

both_not : (a b : Bool) → (a ≡ true → b ≡ true → ⊥) → not (a && b) ≡ true
both_not true true f = absurd (f refl refl)
both_not true false f = refl
both_not false b f = refl

good_from : (ops : List Op) → good_chain ops ≡ true → IsGoodChain ops
good_from ops e =
    let p = both_true _ _ e in (
      λ rising falling. not_both _ _ p.0 (from_has Rising ops rising)
          (from_has Falling ops falling),
      λ two unequal. not_both _ _ p.1 (lt-ltb 1 (length ops) two) (from_has Unequal ops unequal),
    )

from_good : (ops : List Op) → IsGoodChain ops → good_chain ops ≡ true
from_good ops good =
    and_true _ _
    (both_not _ _
    (λ rising falling. good.0 (has_from Rising ops rising) (has_from Falling ops falling)))
    (both_not _ _
    (λ two unequal. good.1 (ltb-true 1 (length ops) two) (has_from Unequal ops unequal)))

-- the walk answers true exactly where each chain is good
pub record Tells (t : Grouped) : Type 0 where
  pub good : sensible t ≡ true → IsSensible t
  pub passes : IsSensible t → sensible t ≡ true

all_good : (ts : List Grouped) → Every Tells ts → all_true (map sensible ts) ≡ true
    → Every IsSensible ts
all_good [] every e = tt
all_good (t ∷ ts) every e = let p = both_true _ _ e in (every.0.good p.0, all_good ts every.1 p.1)

good_all : (ts : List Grouped) → Every Tells ts → Every IsSensible ts
    → all_true (map sensible ts) ≡ true
good_all [] every e = refl
good_all (t ∷ ts) every e = and_true _ _ (every.0.passes e.0) (good_all ts every.1 e.1)

abbrev walked : Grouped-F Grouped → Bool
walked x = sensible_step (map-Grouped Grouped Bool sensible x)

good_at : (x : Grouped-F Grouped) → Parts Tells x → walked x ≡ true
    → IsGoodNode x × Parts IsSensible x
good_at (Grouped-F.Unit n) parts e = (tt, tt)
good_at (Grouped-F.Juxt units) parts e = (tt, tt)
good_at (Grouped-F.Binary op l r) parts e =
    let p = both_true _ _ e in (tt, (parts.0.good p.0, parts.1.good p.1))
good_at (Grouped-F.Chain ops ts) parts e =
    let p = both_true _ _ e in (good_from ops p.0, all_good ts parts p.1)

passes_at : (x : Grouped-F Grouped) → Parts Tells x → IsGoodNode x → Parts IsSensible x
    → walked x ≡ true
passes_at (Grouped-F.Unit n) parts here below = refl
passes_at (Grouped-F.Juxt units) parts here below = refl
passes_at (Grouped-F.Binary op l r) parts here below =
    and_true _ _ (parts.0.passes below.0) (parts.1.passes below.1)
passes_at (Grouped-F.Chain ops ts) parts here below =
    and_true _ _ (from_good ops here) (good_all ts parts below)

pub tells : (t : Grouped) → Tells t
tells = by_parts Tells (λ t parts. record {
  good = λ e. let p =
      good_at (out-Grouped t) parts (sym (fold_out-Grouped Bool sensible_step t) ∙ e)
      in everywhere IsGoodNode t p.0 p.1;
  passes = λ all. fold_out-Grouped Bool sensible_step t
      ∙ passes_at (out-Grouped t) parts (all t (itself t)) (below IsGoodNode t all);
})
