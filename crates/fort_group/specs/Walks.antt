-- What the code computes in its walks over a tree. The laws that tie it to the rules stand in
-- proofs/Agreement.antt and proofs/Senses.antt.
use Rattle.std.specs.Prelude.{Bool, true, false, not, ◌&&◌, ◌||◌, nat_lt, List, [], ◌∷◌, length, map, slice_get}
use Rattle.fort_ops.specs.declared.op.Op.{Op}
use Rattle.fort_ops.specs.declared.op.Sense.{Sense}
use Rattle.fort_ops.specs.declared.op.Sense.TheVariants as a_sense
use Rattle.fort_ops.specs.Senses.{sense_of}
use Rattle.fort_tree.specs.declared.grouped.Joint.{Joint}
use Rattle.fort_group.specs.declared.spacing.Spaced.{Spaced}
use Rattle.fort_tree.specs.declared.grouped.Grouped.{Grouped, fold-Grouped}
use Rattle.fort_tree.specs.declared.grouped.Grouped.TheOpen.{Grouped-F}
use Rattle.fort_group.specs.Spacing.{loose_before, first_unit}

-- a binary node from its two children
abbrev pub binary_spaced : List Joint → Spaced → Spaced → Spaced
binary_spaced joints l r = record {
  first = l.first;
  loose = loose_before joints r.first;
  good = l.good && r.good && (loose_before joints r.first || not (l.loose || r.loose));
}

-- each part is good
abbrev pub all_good : List Spaced → Bool
all_good [] = true
all_good (p ∷ ps) = p.good && all_good ps

-- a part is loose
abbrev pub some_loose_part : List Spaced → Bool
some_loose_part [] = false
some_loose_part (p ∷ ps) = p.loose || some_loose_part ps

-- an operator before one of these parts is loose
abbrev pub some_loose : List Joint → List Spaced → Bool
some_loose joints [] = false
some_loose joints (p ∷ ps) = loose_before joints p.first || some_loose joints ps

-- an operator before one of these parts is tight
abbrev pub some_tight : List Joint → List Spaced → Bool
some_tight joints [] = false
some_tight joints (p ∷ ps) = not (loose_before joints p.first) || some_tight joints ps

-- the operators stand before all parts but the first; where one is tight, none is loose, and no
-- part
abbrev pub chain_spaced : List Joint → List Spaced → Spaced
chain_spaced joints [] = record { first = 0; loose = false; good = true }
chain_spaced joints (p ∷ ps) = record {
  first = p.first;
  loose = some_loose joints ps;
  good = all_good (p ∷ ps)
      && (not (some_tight joints ps) || not (some_loose joints ps || some_loose_part (p ∷ ps)));
}

-- a node from its children
abbrev pub spaced_step : List Joint → Grouped-F Spaced → Spaced
spaced_step joints (Grouped-F.Unit n) = record { first = n; loose = false; good = true }
spaced_step joints (Grouped-F.Juxt units) =
    record { first = first_unit (slice_get units 0); loose = true; good = true }
spaced_step joints (Grouped-F.Binary op l r) = binary_spaced joints l r
spaced_step joints (Grouped-F.Chain ops parts) = chain_spaced joints parts

-- the first unit of a tree, whether it is loose, and whether its spacing agrees with it
abbrev pub spaced : List Joint → Grouped → Spaced
spaced joints t = fold-Grouped Spaced (spaced_step joints) t

-- the same of each tree
abbrev pub all_spaced : List Joint → List Grouped → List Spaced
all_spaced joints ts = map (spaced joints) ts

-- the same sense
abbrev pub equal_senses : Sense → Sense → Bool
equal_senses a_sense.Equal a_sense.Equal = true
equal_senses a_sense.Other a_sense.Other = true
equal_senses a_sense.Unequal a_sense.Unequal = true
equal_senses a_sense.Rising a_sense.Rising = true
equal_senses a_sense.Falling a_sense.Falling = true
equal_senses _ _ = false

-- one of the operators has this sense
abbrev pub has_sense : Sense → List Op → Bool
has_sense s [] = false
has_sense s (op ∷ ops) = equal_senses (sense_of op) s || has_sense s ops

-- not rising and falling, and none of two or more unequal
abbrev pub good_chain : List Op → Bool
good_chain ops =
    not (has_sense a_sense.Rising ops && has_sense a_sense.Falling ops)
    && not (nat_lt 1 (length ops) && has_sense a_sense.Unequal ops)

-- all are true
abbrev pub all_true : List Bool → Bool
all_true [] = true
all_true (b ∷ bs) = b && all_true bs

-- a node from its children
abbrev pub sensible_step : Grouped-F Bool → Bool
sensible_step (Grouped-F.Unit n) = true
sensible_step (Grouped-F.Juxt units) = true
sensible_step (Grouped-F.Binary op l r) = l && r
sensible_step (Grouped-F.Chain ops parts) = good_chain ops && all_true parts

-- each chain of the tree is good
abbrev pub sensible : Grouped → Bool
sensible t = fold-Grouped Bool sensible_step t

-- each chain of each tree is good
abbrev pub all_sensible : List Grouped → Bool
all_sensible ts = all_true (map sensible ts)
