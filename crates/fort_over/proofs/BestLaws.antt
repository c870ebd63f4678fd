-- The first broken pair of what is walked: of one pair, of those behind each other, of all.
use Rattle.std.proofs.Common.{◌≡◌, ◌<◌, ◌+◌, ◌⊎◌, inl, inr, ℕ, List, Option, Some, None, length, refl, sym, ap, ◌∙◌, subst, arith}
use Rattle.std.specs.List.{slice_get}
use Rattle.std.proofs.lemmas.Option.{slice_get_within}
use Rattle.fort_base.specs.declared.table.TypeTable.{TypeTable}
use Rattle.fort_types.specs.Hierarchy.{DeclaredTypes, Sound}
use Rattle.fort_types.specs.Table.{HasRows}
use Rattle.fort_types_sets.specs.declared.member.Member.{Member}
use Rattle.fort_types_sets.specs.declared.member.MemberSet.{MemberSet}
use Rattle.fort_types_sets.specs.Pairs.{Passes}
use Rattle.fort_types_sets.specs.Rules.{StandsAt}
use Rattle.fort_over.specs.declared.places.BrokenPair.{BrokenPair}
use Rattle.fort_over.specs.Standing.{standing, Spot, ByPositions, Pairs, pairs_of}
use Rattle.fort_over.specs.Walks.{IsSooner, Keeps, IsJudged, IsBest, PairsAmong, PairAt, PairsWith, PairsIn, RowBest, SetBest, SetsBest}
use Rattle.fort_over.proofs.PairLaws.{passes_not_breaks}
use Rattle.fort_over.proofs.Order.{not_before_sooner, not_before_kept, not_before_itself, by_places, by_found}

near : (j n : ℕ) → j < n + 1 → (j < n) ⊎ (j ≡ n)
near j n b = grind arith

-- a pair of one more is one of those so far, or of the last
split : (Q : ℕ → Pairs) (to : ℕ) (spot : Spot) (s : MemberSet) (p q : Member)
    → PairsAmong Q (to + 1) spot s p q → PairsAmong Q to spot s p q ⊎ Q to spot s p q
split Q to spot s p q w =
    elim (near w.0 to w.1) as (λ _. PairsAmong Q to spot s p q ⊎ Q to spot s p q) [
      | inl b ↦ inl (w.0, b, w.2)
      | inr e ↦ inr (subst (λ z. Q z spot s p q) e w.2)
    ]

-- what stood among those so far stands among one more
wider : (Q : ℕ → Pairs) (to : ℕ) (spot : Spot) (s : MemberSet) (p q : Member)
    → PairsAmong Q to spot s p q → PairsAmong Q (to + 1) spot s p q
wider Q to spot s p q w = (w.0, let l = w.1 in omega arith, w.2)

last : (Q : ℕ → Pairs) (to : ℕ) (spot : Spot) (s : MemberSet) (p q : Member) → Q to spot s p q
    → PairsAmong Q (to + 1) spot s p q
last Q to spot s p q w = (to, omega arith, w)

pub best_none : (h : DeclaredTypes) (Q : ℕ → Pairs) → IsBest h (PairsAmong Q 0) None
best_none h Q spot s p q w = absurd (let l = w.1 in omega arith)

-- the same pairs by another name
pub best_all : (h : DeclaredTypes) (F G : Pairs) (best : Option BrokenPair)
    → ((spot : Spot) (s : MemberSet) (p q : Member) → G spot s p q → F spot s p q)
    → ((spot : Spot) (s : MemberSet) (p q : Member) → F spot s p q → G spot s p q) → IsBest h F best
    → IsBest h G best
best_all h F G None a b f = λ spot s p q w. f spot s p q (a spot s p q w)
best_all h F G (Some best) a b f = let w = f.3 in (
  f.0,
  f.1,
  f.2,
  record {
    s = w.s;
    p = w.p;
    q = w.q;
    asked = b f.0 w.s w.p w.q w.asked;
    breaks = w.breaks;
    none_before = λ other t x y number c. w.none_before other t x y number (a other t x y c);
  },
)

module _ (h : DeclaredTypes) (sound : Sound h) (Q : ℕ → Pairs) (to : ℕ) where
  -- those of the last stand behind those so far
  abbrev Behind : Type 0
  Behind = (a b : Spot) (s t : MemberSet) (p q x y : Member) → PairsAmong Q to a s p q
      → Q to b t x y → ByPositions a b

  -- the first one of the last, where each of those so far passes
  from_next : (next : BrokenPair) → IsBest h (PairsAmong Q to) None → IsBest h (Q to) (Some next)
      → IsBest h (PairsAmong Q (to + 1)) (Some next)
  from_next next f g = let w = g.3 in (
    g.0,
    g.1,
    g.2,
    record {
      s = w.s;
      p = w.p;
      q = w.q;
      asked = last Q to g.0 w.s w.p w.q w.asked;
      breaks = w.breaks;
      none_before = λ other t x y number c b d. elim (split Q to other t x y c) as (λ _. ⊥) [
        | inl e ↦ passes_not_breaks h sound t x y number (f other t x y e) b
        | inr e ↦ w.none_before other t x y number e b d
      ];
    },
  )

  -- the first one so far, where each of the last passes
  from_best : (best : BrokenPair) → IsBest h (PairsAmong Q to) (Some best) → IsBest h (Q to) None
      → IsBest h (PairsAmong Q (to + 1)) (Some best)
  from_best best f g = let w = f.3 in (
    f.0,
    f.1,
    f.2,
    record {
      s = w.s;
      p = w.p;
      q = w.q;
      asked = wider Q to f.0 w.s w.p w.q w.asked;
      breaks = w.breaks;
      none_before = λ other t x y number c b d. elim (split Q to other t x y c) as (λ _. ⊥) [
        | inl e ↦ w.none_before other t x y number e b d
        | inr e ↦ passes_not_breaks h sound t x y number (g other t x y e) b
      ];
    },
  )

  -- the first one of the last, whose places come before the first one's so far
  sooner_next : (best next : BrokenPair) → IsBest h (PairsAmong Q to) (Some best)
      → IsBest h (Q to) (Some next) → IsSooner next best
      → IsBest h (PairsAmong Q (to + 1)) (Some next)
  sooner_next best next f g k = let v = f.3 in let w = g.3 in (
    g.0,
    g.1,
    g.2,
    record {
      s = w.s;
      p = w.p;
      q = w.q;
      asked = last Q to g.0 w.s w.p w.q w.asked;
      breaks = w.breaks;
      none_before = λ other t x y number c b d. elim (split Q to other t x y c) as (λ _. ⊥) [
        | inl e ↦
            not_before_sooner g.0 f.0 other (by_places g.0 f.0 next best g.1 g.2 f.1 f.2 k)
            (v.none_before other t x y number e b) d
        | inr e ↦ w.none_before other t x y number e b d
      ];
    },
  )

  -- the first one so far, which no place of the last comes before
  sooner_best : Behind → (best next : BrokenPair) → IsBest h (PairsAmong Q to) (Some best)
      → IsBest h (Q to) (Some next) → (IsSooner next best → ⊥)
      → IsBest h (PairsAmong Q (to + 1)) (Some best)
  sooner_best after best next f g k = let v = f.3 in let w = g.3 in (
    f.0,
    f.1,
    f.2,
    record {
      s = v.s;
      p = v.p;
      q = v.q;
      asked = wider Q to f.0 v.s v.p v.q v.asked;
      breaks = v.breaks;
      none_before = λ other t x y number c b d. elim (split Q to other t x y c) as (λ _. ⊥) [
        | inl e ↦ v.none_before other t x y number e b d
        | inr e ↦
            not_before_kept other g.0 f.0 (λ l. k (by_found g.0 f.0 next best g.1 g.2 f.1 f.2 l))
            (w.none_before other t x y number e b)
            (after f.0 other v.s t v.p v.q x y v.asked e) d
      ];
    },
  )

  -- what is kept is the first one of all of them
  pub best_more : (best next kept : Option BrokenPair) → Behind → IsBest h (PairsAmong Q to) best
      → IsBest h (Q to) next → Keeps best next kept
      → IsBest h (PairsAmong Q (to + 1)) kept
  best_more None None kept after f g k = subst (IsBest h (PairsAmong Q (to + 1))) (sym k)
      (λ spot s p q w. elim (split Q to spot s p q w) as (λ _. Passes h s p q) [
        | inl e ↦
            f spot s p q e
        | inr e ↦ g spot s p q e
      ])
  best_more None (Some next) kept after f g k =
      subst (IsBest h (PairsAmong Q (to + 1))) (sym k) (from_next next f g)
  best_more (Some best) None kept after f g k =
      subst (IsBest h (PairsAmong Q (to + 1))) (sym k) (from_best best f g)
  best_more (Some best) (Some next) kept after f g (inl k) =
      subst (IsBest h (PairsAmong Q (to + 1))) (sym k.1) (sooner_next best next f g k.0)
  best_more (Some best) (Some next) kept after f g (inr k) =
      subst (IsBest h (PairsAmong Q (to + 1))) (sym k.1) (sooner_best after best next f g k.0)

-- ---- one pair

same_member : (t s : MemberSet) (k i : ℕ) (x p : Member) → t ≡ s → k ≡ i
    → slice_get t.members k ≡ Some x → slice_get s.members i ≡ Some p → x ≡ p
same_member t s k i x p e f g m =
    let a : slice_get t.members k ≡ slice_get s.members i =
    ap (λ (z : MemberSet). slice_get z.members k) e ∙ ap (slice_get s.members) f in cc

module _ (h : DeclaredTypes) (n : ℕ) (set : MemberSet) (later earlier : ℕ) (p q : Member)
    (pi : StandsAt set earlier p) (qi : StandsAt set later q) where
  first_is : (spot : Spot) (s : MemberSet) (x y : Member) → PairAt n set later earlier spot s x y
      → x ≡ p
  first_is spot s x y w = same_member s set spot.earlier earlier x p w.0 w.3 w.4.earlier pi

  second_is : (spot : Spot) (s : MemberSet) (x y : Member) → PairAt n set later earlier spot s x y
      → y ≡ q
  second_is spot s x y w = same_member s set spot.later later y q w.0 w.2 w.4.later qi

  -- the first one of one pair
  pub best_pair : (judged : Option BrokenPair) → earlier < later → IsJudged h set p q judged
      → IsBest h (PairAt n set later earlier) judged
  best_pair None l j = λ spot s x y w.
      subst (λ z. Passes h z x y) (sym w.0)
      (subst (λ z. Passes h set z y) (sym (first_is spot s x y w))
      (subst (λ z. Passes h set p z) (sym (second_is spot s x y w)) j))
  best_pair (Some b) l j =
      let spot : Spot =
      record {
        later_place = standing q.place;
        earlier_place = standing p.place;
        number = n;
        later = later;
        earlier = earlier;
      } in (
        spot,
        j.1,
        j.2,
        record {
          s = set;
          p = p;
          q = q;
          asked = (
            refl,
            refl,
            refl,
            refl,
            record {
              earlier = pi;
              later = qi;
              in_order = l;
              earlier_place = refl;
              later_place = refl;
            },
          );
          breaks = j.0;
          none_before = λ other t x y number c b d. not_before_itself other spot
              (c.4.later_place ∙ ap (λ (z : Member). standing z.place) (second_is other t x y c))
              (c.4.earlier_place ∙ ap (λ
              (z : Member). standing z.place) (first_is other t x y c)) c.1 c.2 c.3 d;
        },
      )

-- ---- a row, a set, all sets

pub row_none : (table : TypeTable) (set : MemberSet) (later : ℕ) → RowBest table set later 0 None
row_none table set later = record { told = λ h sound rows made n. best_none h (PairAt n set later) }

pub row_more : (table : TypeTable) (set : MemberSet) (later earlier : ℕ) (p q : Member)
    (best next kept : Option BrokenPair) → StandsAt set earlier p → StandsAt set later q
    → earlier < later
    → ((h : DeclaredTypes) → Sound h → HasRows h table → length p.parameters ≡ length q.parameters
    → IsJudged h set p q next) → Keeps best next kept
    → RowBest table set later earlier best → RowBest table set later (earlier + 1) kept
row_more table set later earlier p q best next kept a b l j k r = record {
  told = λ h sound rows made n. best_more h sound (PairAt n set later) earlier best next kept
      (behind n) (r.told h sound rows made n)
      (best_pair h n set later earlier p q a b next l
      (j h sound rows (made.width earlier later p q a b))) k;
}
  where
    behind : (n : ℕ) (a b : Spot) (s t : MemberSet) (p q x y : Member)
        → PairsAmong (PairAt n set later) earlier a s p q → PairAt n set later earlier b t x y
        → ByPositions a b
    behind n a b s t p q x y v w =
        let m = v.1 in let e = v.2.3 in let f = w.3
        in inr (v.2.1 ∙ sym w.1, inr (v.2.2 ∙ sym w.2, omega arith))

pub set_none : (table : TypeTable) (set : MemberSet) → SetBest table set 0 None
set_none table set = record { told = λ h sound rows made n. best_none h (PairsWith n set) }

pub set_more : (table : TypeTable) (set : MemberSet) (later : ℕ)
    (best next kept : Option BrokenPair) → RowBest table set later later next → Keeps best next kept
    → SetBest table set later best → SetBest table set (later + 1) kept
set_more table set later best next kept w k r = record {
  told = λ h sound rows made n. best_more h sound (PairsWith n set) later best next kept (behind n)
      (r.told h sound rows made n)
      (best_all h (PairsAmong (PairAt n set later) later) (PairsWith n set later) next (in_row n)
      (of_row n) (w.told h sound rows made n)) k;
}
  where
    in_row : (n : ℕ) (spot : Spot) (s : MemberSet) (p q : Member) → PairsWith n set later spot s p q
        → PairsAmong (PairAt n set later) later spot s p q
    in_row n spot s p q v = (
      spot.earlier,
      (let l = v.3.in_order in let e = v.2 in omega arith),
      (v.0, v.1, v.2, refl, v.3),
    )

    of_row : (n : ℕ) (spot : Spot) (s : MemberSet) (p q : Member)
        → PairsAmong (PairAt n set later) later spot s p q → PairsWith n set later spot s p q
    of_row n spot s p q v = (v.2.0, v.2.1, v.2.2, v.2.4)

    behind : (n : ℕ) (a b : Spot) (s t : MemberSet) (p q x y : Member)
        → PairsAmong (PairsWith n set) later a s p q → PairsWith n set later b t x y
        → ByPositions a b
    behind n a b s t p q x y v u =
        let m = v.1 in let e = v.2.2 in let f = u.2 in inr (v.2.1 ∙ sym u.1, inl (omega arith))

pub sets_none : (table : TypeTable) (sets : List MemberSet) → SetsBest table sets 0 None
sets_none table sets = record { told = λ h sound rows made. best_none h (PairsIn sets) }

pub sets_more : (table : TypeTable) (sets : List MemberSet) (n : ℕ) (set : MemberSet)
    (best next kept : Option BrokenPair) → slice_get sets n ≡ Some set
    → SetBest table set (length set.members) next → Keeps best next kept
    → SetsBest table sets n best → SetsBest table sets (n + 1) kept
sets_more table sets n set best next kept is w k r = record {
  told = λ h sound rows made. best_more h sound (PairsIn sets) n best next kept behind
      (r.told h sound rows made)
      (best_all h (PairsAmong (PairsWith n set) (length set.members)) (PairsIn sets n) next in_set
      of_set (w.told h sound rows (made n set is) n)) k;
}
  where
    in_set : (spot : Spot) (s : MemberSet) (p q : Member) → PairsIn sets n spot s p q
        → PairsAmong (PairsWith n set) (length set.members) spot s p q
    in_set spot s p q v = let e : s ≡ set = (let f = v.0 in cc) in (
      spot.later,
      subst (λ
          (z : MemberSet). spot.later
          < length z.members) e (slice_get_within s.members spot.later q v.2.later),
      (e, v.1, refl, v.2),
    )

    of_set : (spot : Spot) (s : MemberSet) (p q : Member)
        → PairsAmong (PairsWith n set) (length set.members) spot s p q → PairsIn sets n spot s p q
    of_set spot s p q v = (is ∙ ap (λ (z : MemberSet). Some z) (sym v.2.0), v.2.1, v.2.3)

    behind : (a b : Spot) (s t : MemberSet) (p q x y : Member) → PairsAmong (PairsIn sets) n a s p q
        → PairsIn sets n b t x y → ByPositions a b
    behind a b s t p q x y v u = let m = v.1 in let e = v.2.1 in let f = u.1 in inl (omega arith)

-- all pairs of all sets
pub sets_all : (h : DeclaredTypes) (sets : List MemberSet) (best : Option BrokenPair)
    → IsBest h (PairsAmong (PairsIn sets) (length sets)) best → IsBest h (pairs_of sets) best
sets_all h sets best w =
    best_all h (PairsAmong (PairsIn sets) (length sets)) (pairs_of sets) best within apart w
  where
    within : (spot : Spot) (s : MemberSet) (p q : Member) → pairs_of sets spot s p q
        → PairsAmong (PairsIn sets) (length sets) spot s p q
    within spot s p q v = (spot.number, slice_get_within sets spot.number s v.0, (v.0, refl, v.1))

    apart : (spot : Spot) (s : MemberSet) (p q : Member)
        → PairsAmong (PairsIn sets) (length sets) spot s p q → pairs_of sets spot s p q
    apart spot s p q v = (ap (slice_get sets) v.2.1 ∙ v.2.0, v.2.2)
