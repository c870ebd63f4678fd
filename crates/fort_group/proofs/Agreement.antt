-- The walk over a tree tells its first unit, whether it is loose, and whether its spacing agrees
-- with it.
use Rattle.std.proofs.Common.{◌≡◌, ℕ, Bool, true, false, not, ◌&&◌, ◌||◌, List, [], ◌∷◌, map, ◌⊎◌, inl, inr, refl, sym, ap, ◌∙◌}
use Rattle.std.specs.List.{All, list_any}
use Rattle.fort_tree.specs.declared.grouped.Joint.{Joint}
use Rattle.fort_group.specs.declared.spacing.Spaced.{Spaced}
use Rattle.fort_tree.specs.declared.grouped.Grouped.{Grouped, out-Grouped, map-Grouped, fold_out-Grouped}
use Rattle.fort_tree.specs.declared.grouped.Grouped.TheOpen.{Grouped-F}
use Rattle.fort_group.specs.Nodes.{itself}
use Rattle.fort_group.specs.Spacing.{loose_before, first_step, first_of, follows_loose, loose_at, is_loose, AgreesAt, Agrees}
use Rattle.fort_group.specs.Walks.{all_good, some_loose_part, some_loose, some_tight, spaced_step, spaced}
use Rattle.fort_group.proofs.Trees.{Every, Parts, all_from_every, every_from_all, by_parts, everywhere, below}

pub both_true : (a b : Bool) → a && b ≡ true → (a ≡ true) × (b ≡ true)
both_true true b e = (refl, e)
both_true false b e = absurd (cc e)

pub and_true : (a b : Bool) → a ≡ true → b ≡ true → a && b ≡ true
and_true true b e f = f
and_true false b e f = absurd (cc e)

neither : (a b : Bool) → a || b ≡ false → (a ≡ false) × (b ≡ false)
neither true b e = absurd (cc e)
neither false b e = (refl, e)

or_false : (a b : Bool) → a ≡ false → b ≡ false → a || b ≡ false
or_false true b e f = absurd (cc e)
or_false false b e f = f

-- a tight operator has no loose part
tight_test : (a b c : Bool) → a || not (b || c) ≡ true → a ≡ false → (b ≡ false) × (c ≡ false)
tight_test true b c e f = absurd (cc f)
tight_test false true c e f = absurd (cc e)
tight_test false false true e f = absurd (cc e)
tight_test false false false e f = (refl, refl)

tight_passes : (a b c : Bool) → (a ≡ false → (b ≡ false) × (c ≡ false)) → a || not (b || c) ≡ true
tight_passes true b c f = refl
tight_passes false b c f = let p = f refl in let d = or_false b c p.0 p.1 in ap not d

module _ (joints : List Joint) where
  -- what the walk tells of a tree
  pub record Tells (t : Grouped) : Type 0 where
    pub first : (spaced joints t).first ≡ first_of t
    pub loose : (spaced joints t).loose ≡ is_loose joints t
    pub agrees : (spaced joints t).good ≡ true → Agrees joints t
    pub good : Agrees joints t → (spaced joints t).good ≡ true

  abbrev walked : Grouped-F Grouped → Spaced
  walked x = spaced_step joints (map-Grouped Grouped Spaced (spaced joints) x)

  abbrev led : Grouped-F Grouped → ℕ
  led x = first_step (map-Grouped Grouped ℕ first_of x)

  spaced_out : (t : Grouped) → spaced joints t ≡ walked (out-Grouped t)
  spaced_out t = fold_out-Grouped Spaced (spaced_step joints) t

  first_out : (t : Grouped) → first_of t ≡ led (out-Grouped t)
  first_out t = fold_out-Grouped ℕ first_step t

  follows : (t : Grouped) → Tells t
      → loose_before joints (spaced joints t).first ≡ follows_loose joints t
  follows t tells = ap (loose_before joints) tells.first

  -- of the parts of a chain
  good_parts : (ts : List Grouped) → Every Tells ts → all_good (map (spaced joints) ts) ≡ true
      → Every (Agrees joints) ts
  good_parts [] every e = tt
  good_parts (t ∷ ts) every e =
      let p = both_true _ _ e in (every.0.agrees p.0, good_parts ts every.1 p.1)

  parts_good : (ts : List Grouped) → Every Tells ts → Every (Agrees joints) ts
      → all_good (map (spaced joints) ts) ≡ true
  parts_good [] every e = refl
  parts_good (t ∷ ts) every e = and_true _ _ (every.0.good e.0) (parts_good ts every.1 e.1)

  no_loose_part : (ts : List Grouped) → Every Tells ts
      → some_loose_part (map (spaced joints) ts) ≡ false → Every (λ p. is_loose joints p ≡ false) ts
  no_loose_part [] every e = tt
  no_loose_part (t ∷ ts) every e =
      let p = neither _ _ e in (sym every.0.loose ∙ p.0, no_loose_part ts every.1 p.1)

  loose_part_none : (ts : List Grouped) → Every Tells ts → Every (λ p. is_loose joints p ≡ false) ts
      → some_loose_part (map (spaced joints) ts) ≡ false
  loose_part_none [] every e = refl
  loose_part_none (t ∷ ts) every e =
      or_false _ _ (every.0.loose ∙ e.0) (loose_part_none ts every.1 e.1)

  all_tight : (ts : List Grouped) → Every Tells ts
      → some_loose joints (map (spaced joints) ts) ≡ false
      → Every (λ p. follows_loose joints p ≡ false) ts
  all_tight [] every e = tt
  all_tight (t ∷ ts) every e =
      let p = neither _ _ e in (sym (follows t every.0) ∙ p.0, all_tight ts every.1 p.1)

  tight_all : (ts : List Grouped) → Every Tells ts → Every (λ p. follows_loose joints p ≡ false) ts
      → some_loose joints (map (spaced joints) ts) ≡ false
  tight_all [] every e = refl
  tight_all (t ∷ ts) every e = or_false _ _ (follows t every.0 ∙ e.0) (tight_all ts every.1 e.1)

  turned : (b : Bool) → not b ≡ false → b ≡ true
  turned true e = refl
  turned false e = absurd (cc e)

  unturned : (b : Bool) → not b ≡ true → b ≡ false
  unturned true e = absurd (cc e)
  unturned false e = refl

  all_loose : (ts : List Grouped) → Every Tells ts
      → some_tight joints (map (spaced joints) ts) ≡ false
      → Every (λ p. follows_loose joints p ≡ true) ts
  all_loose [] every e = tt
  all_loose (t ∷ ts) every e =
      let p = neither _ _ e in (sym (follows t every.0) ∙ turned _ p.0, all_loose ts every.1 p.1)

  loose_all : (ts : List Grouped) → Every Tells ts → Every (λ p. follows_loose joints p ≡ true) ts
      → some_tight joints (map (spaced joints) ts) ≡ false
  loose_all [] every e = refl
  loose_all (t ∷ ts) every e =
      or_false _ _ (ap not (follows t every.0 ∙ e.0)) (loose_all ts every.1 e.1)

  some_follow : (ts : List Grouped) → Every Tells ts
      → some_loose joints (map (spaced joints) ts) ≡ list_any (follows_loose joints) ts
  some_follow [] every = refl
  some_follow (t ∷ ts) every =
      ap (λ b. b || some_loose joints (map (spaced joints) ts)) (follows t every.0)
      ∙ ap (λ b. follows_loose joints t || b) (some_follow ts every.1)

  -- a tight operator in the chain: all are, and no part is loose; else all are loose
  chain_test : (part : Grouped) (ts : List Grouped) → Every Tells (part ∷ ts) → (tight : Bool)
      → some_tight joints (map (spaced joints) ts) ≡ tight
      → not tight
      || not (some_loose joints (map (spaced joints) ts)
      || some_loose_part (map (spaced joints) (part ∷ ts))) ≡ true
      → All (λ p. follows_loose joints p ≡ true) ts
      ⊎ (All (λ p. follows_loose joints p ≡ false) ts
      × All (λ p. is_loose joints p ≡ false) (part ∷ ts))
  chain_test part ts every false e f = inl (all_from_every _ ts (all_loose ts every.1 e))
  chain_test part ts every true e f =
      let p = neither _ _ (unturned _ f) in
      inr (
        all_from_every _ ts (all_tight ts every.1 p.0),
        all_from_every _ (part ∷ ts) (no_loose_part (part ∷ ts) every p.1),
      )

  or_true : (a b : Bool) → b ≡ true → a || b ≡ true
  or_true true b e = refl
  or_true false b e = e

  chain_passes : (part : Grouped) (ts : List Grouped) → Every Tells (part ∷ ts)
      → All (λ p. follows_loose joints p ≡ true) ts
      ⊎ (All (λ p. follows_loose joints p ≡ false) ts
      × All (λ p. is_loose joints p ≡ false) (part ∷ ts))
      → not (some_tight joints (map (spaced joints) ts))
      || not (some_loose joints (map (spaced joints) ts)
      || some_loose_part (map (spaced joints) (part ∷ ts))) ≡ true
  chain_passes part ts every (inl all) =
      ap (λ b. not b
      || not (some_loose joints (map (spaced joints) ts)
      || some_loose_part (map (spaced joints) (part ∷ ts))))
      (loose_all ts every.1 (every_from_all _ ts all))
  chain_passes part ts every (inr h) =
      or_true _ _
      (ap not (or_false _ _ (tight_all ts every.1 (every_from_all _ ts h.0))
      (loose_part_none (part ∷ ts) every (every_from_all _ (part ∷ ts) h.1))))

  -- the same at each layer
  first_at : (x : Grouped-F Grouped) → Parts Tells x → (walked x).first ≡ led x
  first_at (Grouped-F.Unit n) parts = refl
  first_at (Grouped-F.Juxt units) parts = refl
  first_at (Grouped-F.Binary op l r) parts = parts.0.first
  first_at (Grouped-F.Chain ops []) parts = refl
  first_at (Grouped-F.Chain ops (t ∷ ts)) parts = parts.0.first

  loose_same : (x : Grouped-F Grouped) → Parts Tells x → (walked x).loose ≡ loose_at joints x
  loose_same (Grouped-F.Unit n) parts = refl
  loose_same (Grouped-F.Juxt units) parts = refl
  loose_same (Grouped-F.Binary op l r) parts = follows r parts.1
  loose_same (Grouped-F.Chain ops []) parts = refl
  loose_same (Grouped-F.Chain ops (t ∷ ts)) parts = some_follow ts parts.1

  agrees_at : (x : Grouped-F Grouped) → Parts Tells x → (walked x).good ≡ true
      → AgreesAt joints x × Parts (Agrees joints) x
  agrees_at (Grouped-F.Unit n) parts e = (tt, tt)
  agrees_at (Grouped-F.Juxt units) parts e = (tt, tt)
  agrees_at (Grouped-F.Binary op l r) parts e =
      let p = both_true _ _ e in
      let q = both_true _ _ p.0 in (
        λ tight. let h = tight_test _ _ _ p.1 (follows r parts.1 ∙ tight)
            in (sym parts.0.loose ∙ h.0, sym parts.1.loose ∙ h.1),
        (parts.0.agrees q.0, parts.1.agrees q.1),
      )
  agrees_at (Grouped-F.Chain ops []) parts e = (tt, tt)
  agrees_at (Grouped-F.Chain ops (t ∷ ts)) parts e =
      let p = both_true _ _ e in (
        chain_test t ts parts (some_tight joints (map (spaced joints) ts)) refl p.1,
        good_parts (t ∷ ts) parts p.0,
      )

  good_at : (x : Grouped-F Grouped) → Parts Tells x → AgreesAt joints x → Parts (Agrees joints) x
      → (walked x).good ≡ true
  good_at (Grouped-F.Unit n) parts here below = refl
  good_at (Grouped-F.Juxt units) parts here below = refl
  good_at (Grouped-F.Binary op l r) parts here below =
      and_true _ _ (and_true _ _ (parts.0.good below.0) (parts.1.good below.1))
      (tight_passes _ _ _ (λ tight. let h = here (sym (follows r parts.1) ∙ tight)
      in (parts.0.loose ∙ h.0, parts.1.loose ∙ h.1)))
  good_at (Grouped-F.Chain ops []) parts here below = refl
  good_at (Grouped-F.Chain ops (t ∷ ts)) parts here below =
      and_true _ _ (parts_good (t ∷ ts) parts below) (chain_passes t ts parts here)

  pub tells : (t : Grouped) → Tells t
  tells = by_parts Tells (λ t parts. record {
    first = ap (λ s. s.first) (spaced_out t) ∙ first_at (out-Grouped t) parts ∙ sym (first_out t);
    loose = ap (λ s. s.loose) (spaced_out t) ∙ loose_same (out-Grouped t) parts;
    agrees = λ e. let p =
        agrees_at (out-Grouped t) parts (sym (ap (λ s. s.good) (spaced_out t)) ∙ e)
        in everywhere (AgreesAt joints) t p.0 p.1;
    good = λ all. ap (λ s. s.good) (spaced_out t)
        ∙ good_at (out-Grouped t) parts (all t (itself t)) (below (AgreesAt joints) t all);
  })
