-- From the walks to the answers.
use Rattle.std.proofs.Common.{◌≡◌, List, Option, Some, None, length, refl, sym, ap, ◌∙◌, subst}
use Rattle.std.specs.List.{slice_get}
use Rattle.std.specs.Prelude.{get_or}
use Rattle.std.proofs.lemmas.Option.{slice_get_within}
use Rattle.fort_base.specs.declared.rules.TheConstants.{ABSTRACT_NOT_COVERED}
use Rattle.fort_base.specs.declared.refusal.Place.{Place}
use Rattle.fort_types.specs.Hierarchy.{DeclaredTypes}
use Rattle.fort_hier.specs.declared.accepted.Hierarchy.{Hierarchy}
use Rattle.fort_base.specs.Places.{IsFirst}
use Rattle.fort_types_sets.specs.declared.member.MemberSet.{MemberSet}
use Rattle.fort_types_sets.specs.declared.member.Members.{Members}
use Rattle.fort_over.specs.declared.places.BrokenPair.{BrokenPair}
use Rattle.fort_over.specs.Standing.{standing, Spot, pairs_of}
use Rattle.fort_over.specs.Answers.{AreOver, KeepAllRules, IsUncovered, IsPairFault, IsObjectFault}
use Rattle.fort_over.specs.Walks.{IsBest, UncoveredBy, PlacesAmong, SetsBest, SetsFirst}
use Rattle.fort_over.proofs.PairLaws.{passes_not_breaks}
use Rattle.fort_over.proofs.BestLaws.{sets_all}
use Rattle.fort_over.proofs.PlaceLaws.{first_turn}

module _ (h : DeclaredTypes) (hierarchy : Hierarchy) (m : Members)
    (over : AreOver h hierarchy m) where
  -- the pairs of all sets
  best_of : (sets : List MemberSet) (best : Option BrokenPair) → sets ≡ m.sets
      → SetsBest hierarchy.table sets (length sets) best → IsBest h (pairs_of m.sets) best
  best_of sets best e f =
      subst (λ z. IsBest h (pairs_of z) best) e
      (sets_all h sets best
      (f.told h over.sound over.rows
      (λ n s g. over.made n s (sym (ap (λ (z : List MemberSet). slice_get z n) e) ∙ g))))

  -- the objects of all sets
  first_of : (best : Option Place) → SetsFirst hierarchy.table m (length m.sets) best
      → IsFirst (IsUncovered h m) best
  first_of best f =
      first_turn (PlacesAmong (UncoveredBy h m) (length m.sets)) (IsUncovered h m) best
      (λ place w. (
        w.n,
        slice_get_within m.sets w.n w.s w.set_is,
        (
          w.s,
          w.set_is,
          (
            w.i,
            (
              w.d,
              w.stands,
              (
                w.at,
                w.t,
                w.is_abstract,
                (w.o.0, (w.o, refl, w.is_below, w.uncovered, w.place_is)),
              ),
            ),
          ),
        ),
      ))
      (λ place (n, l, (s, e, (i, (d, g, (at, t, a, (number, (o, q, b, c, p))))))). record {
        n = n;
        i = i;
        at = at;
        s = s;
        d = d;
        t = t;
        o = o;
        set_is = e;
        stands = g;
        is_abstract = a;
        is_below = b;
        uncovered = c;
        place_is = subst (λ z. place ≡ standing (get_or m.places z None)) (sym q) p;
      })
      (f.told h (over.rows, over.objects))

  -- a pair's fault
  pub pair_fault : (sets : List MemberSet) (pair : BrokenPair) → sets ≡ m.sets
      → SetsBest hierarchy.table sets (length sets) (Some pair)
      → IsPairFault h m pair.rule.0 pair.later
  pair_fault sets pair e f = let w = best_of sets (Some pair) e f in (w.0, w.1, w.3)

  -- an object's fault
  pub object_fault : (sets : List MemberSet) (place : Place) → sets ≡ m.sets
      → SetsBest hierarchy.table sets (length sets) None
      → SetsFirst hierarchy.table m (length m.sets) (Some place)
      → IsObjectFault h m ABSTRACT_NOT_COVERED.0 place
  object_fault sets place e f g = (
    refl,
    (λ spot s p q rule w b. passes_not_breaks h over.sound s p q rule
        (best_of sets None e f spot s p q w) b),
    first_of (Some place) g,
  )

  -- no fault
  pub all_kept : (sets : List MemberSet) → sets ≡ m.sets
      → SetsBest hierarchy.table sets (length sets) None
      → SetsFirst hierarchy.table m (length m.sets) None → KeepAllRules h m
  all_kept sets e f g = λ n s is. record {
    pairs = λ i j p q a b l.
        let spot : Spot =
        record {
          later_place = standing q.place;
          earlier_place = standing p.place;
          number = n;
          later = j;
          earlier = i;
        } in
        best_of sets None e f spot s p q (
          is,
          record {
            earlier = a;
            later = b;
            in_order = l;
            earlier_place = refl;
            later_place = refl;
          },
        );
    covered =
        λ i at d t o a b c. g.covered h (over.rows, over.objects) refl n i s d
        (slice_get_within m.sets n s is) is a at t o b c;
  }
