-- One part more in a chain.
use Rattle.std.proofs.Common.{◌≡◌, ℕ, suc, Bool, true, false, not, ◌&&◌, ◌||◌, List, [], ◌∷◌, ◌++◌, length, take, get_or, ◌+◌, ◌<◌, refl, sym, ap, ◌∙◌, arith}
use Rattle.std.proofs.Math.Seq.{take-suc}
use Rattle.std.proofs.lemmas.List.{map-append}
use Rattle.fort_ops.specs.declared.op.Op.{Op}
use Rattle.fort_tree.specs.declared.grouped.Joint.{Joint}
use Rattle.fort_group.specs.declared.spacing.Spaced.{Spaced}
use Rattle.fort_tree.specs.declared.grouped.Grouped.{Grouped, fold-Grouped, fold-roll-Grouped}
use Rattle.fort_tree.specs.declared.grouped.Grouped as tree
use Rattle.fort_tree.specs.declared.grouped.Grouped.TheOpen.{Grouped-F}
use Rattle.fort_tree.specs.declared.grouped.Grouped.TheVariants.{rolls-Chain}
use Rattle.fort_group.specs.Spacing.{loose_before}
use Rattle.fort_group.specs.Walks.{chain_spaced, spaced_step, spaced, all_spaced, all_good, some_loose_part, some_loose, some_tight}

and_true : (a b c : Bool) → (a && b) && c ≡ a && (b && c)
and_true true b c = refl
and_true false b c = refl

or_true : (a b c : Bool) → (a || b) || c ≡ a || (b || c)
or_true true b c = refl
or_true false b c = refl

and_last : (b : Bool) → b && true ≡ b
and_last true = refl
and_last false = refl

or_last : (b : Bool) → b || false ≡ b
or_last true = refl
or_last false = refl

pub good_last : (ps : List Spaced) (p : Spaced) → all_good (ps ++ p ∷ []) ≡ all_good ps && p.good
good_last [] p = and_last p.good
good_last (q ∷ ps) p =
    ap (λ b. q.good && b) (good_last ps p) ∙ sym (and_true q.good (all_good ps) p.good)

pub loose_part_last : (ps : List Spaced) (p : Spaced)
    → some_loose_part (ps ++ p ∷ []) ≡ some_loose_part ps || p.loose
loose_part_last [] p = or_last p.loose
loose_part_last (q ∷ ps) p =
    ap (λ b. q.loose || b) (loose_part_last ps p)
    ∙ sym (or_true q.loose (some_loose_part ps) p.loose)

pub loose_last : (joints : List Joint) (ps : List Spaced) (p : Spaced)
    → some_loose joints (ps ++ p ∷ []) ≡ some_loose joints ps || loose_before joints p.first
loose_last joints [] p = or_last (loose_before joints p.first)
loose_last joints (q ∷ ps) p =
    ap (λ b. loose_before joints q.first || b) (loose_last joints ps p)
    ∙ sym (or_true (loose_before joints q.first) (some_loose joints ps)
    (loose_before joints p.first))

pub tight_last : (joints : List Joint) (ps : List Spaced) (p : Spaced)
    → some_tight joints (ps ++ p ∷ []) ≡ some_tight joints ps || not (loose_before joints p.first)
tight_last joints [] p = or_last (not (loose_before joints p.first))
tight_last joints (q ∷ ps) p =
    ap (λ b. not (loose_before joints q.first) || b) (tight_last joints ps p)
    ∙ sym (or_true (not (loose_before joints q.first)) (some_tight joints ps)
    (not (loose_before joints p.first)))

pub chain_law : (joints : List Joint) (ops : List Op) (parts : List Grouped)
    → spaced joints (tree.Chain ops parts) ≡ chain_spaced joints (all_spaced joints parts)
chain_law joints ops parts =
    ap (spaced joints) (sym (rolls-Chain ops parts))
    ∙ fold-roll-Grouped Spaced (spaced_step joints) (Grouped-F.Chain ops parts)

module _ (joints : List Joint) (head : Spaced) (xs : List Grouped) (i : ℕ) where
  abbrev done : ℕ → List Spaced
  done n = all_spaced joints (take n xs)

  one_taken : (x : Grouped) → i < length xs → x ≡ get_or xs i x
      → take (i + 1) xs ≡ take i xs ++ x ∷ []
  one_taken x lt e =
      let a : i + 1 ≡ suc i = omega arith
      in ap (λ n. take n xs) a ∙ take-suc xs i x lt ∙ ap (λ y. take i xs ++ y ∷ []) (sym e)

  one_done : (x : Grouped) (p : Spaced) → i < length xs → x ≡ get_or xs i x → p ≡ spaced joints x
      → done (i + 1) ≡ done i ++ p ∷ []
  one_done x p lt e s =
      ap (all_spaced joints) (one_taken x lt e) ∙ map-append (spaced joints) (take i xs) (x ∷ [])
      ∙ ap (λ q. done i ++ q ∷ []) (sym s)

  pub all_good_on : (x : Grouped) (p : Spaced) (g : Bool) → i < length xs → x ≡ get_or xs i x
      → p ≡ spaced joints x → g ≡ all_good (head ∷ done i)
      → g && p.good ≡ all_good (head ∷ done (i + 1))
  all_good_on x p g lt e s v =
      ap (λ b. b && p.good) v ∙ sym (good_last (head ∷ done i) p)
      ∙ ap (λ ps. all_good (head ∷ ps)) (sym (one_done x p lt e s))

  pub loose_parts_on : (x : Grouped) (p : Spaced) (g : Bool) → i < length xs → x ≡ get_or xs i x
      → p ≡ spaced joints x → g ≡ some_loose_part (head ∷ done i)
      → g || p.loose ≡ some_loose_part (head ∷ done (i + 1))
  loose_parts_on x p g lt e s v =
      ap (λ b. b || p.loose) v ∙ sym (loose_part_last (head ∷ done i) p)
      ∙ ap (λ ps. some_loose_part (head ∷ ps)) (sym (one_done x p lt e s))

  pub loose_on : (x : Grouped) (p : Spaced) (g b : Bool) → i < length xs → x ≡ get_or xs i x
      → p ≡ spaced joints x → b ≡ loose_before joints p.first → g ≡ some_loose joints (done i)
      → g || b ≡ some_loose joints (done (i + 1))
  loose_on x p g b lt e s w v =
      ap (λ c. c || b) v ∙ ap (λ c. some_loose joints (done i) || c) w
      ∙ sym (loose_last joints (done i) p) ∙ ap (some_loose joints) (sym (one_done x p lt e s))

  pub tight_on : (x : Grouped) (p : Spaced) (g b : Bool) → i < length xs → x ≡ get_or xs i x
      → p ≡ spaced joints x → b ≡ loose_before joints p.first → g ≡ some_tight joints (done i)
      → g || not b ≡ some_tight joints (done (i + 1))
  tight_on x p g b lt e s w v =
      ap (λ c. c || not b) v ∙ ap (λ c. some_tight joints (done i) || not c) w
      ∙ sym (tight_last joints (done i) p) ∙ ap (some_tight joints) (sym (one_done x p lt e s))
