-- What is computed of two types and of a call is what the rules say of them, where the component is
-- accepted.
use Rattle.std.proofs.Common.{◌≡◌, ◌<◌, ◌↔◌, ◌⊎◌, inl, inr, ℕ, Bool, true, false, cond, IsTrue, List, length, replicate, Option, Some, None, refl, ap, ◌∙◌, sym, subst, arith}
use Rattle.std.specs.List.{slice_get}
use Rattle.fort_base.specs.declared.ids.SetId.{SetId}
use Rattle.fort_base.specs.declared.refusal.Rule.{Rule}
use Rattle.fort_base.specs.declared.rules.TheConstants.{NOT_APPLICABLE, WIDENING_UNCLEAR}
use Rattle.fort_base.specs.declared.ty.Ty.{Ty}
use Rattle.fort_types.proofs.Antisymmetry.{same, same_lists}
use Rattle.fort_types_sets.specs.declared.member.Member.{Member}
use Rattle.fort_types_sets.specs.declared.member.MemberSet.{MemberSet}
use Rattle.fort_types_sets.specs.Applicable.{IsApplicable, IsMoreSpecific}
use Rattle.fort_types_sets.specs.Best.{IsMostSpecific}
use Rattle.fort_types_sets.specs.Pairs.{Passes, aside, ordered, reversed, met}
use Rattle.fort_types_sets.specs.Rules.{StandsAt}
use Rattle.fort_typing_rules.specs.Widening.{IsApplicableWidened, WidensWithin, IsLeast, AreWidened}
use Rattle.fort_typing_known.specs.Known.{Knows}
use Rattle.fort_typing_call.specs.Fitting.{fits, goes_before, first_best, any_fits, positions, widened_types}
use Rattle.fort_typing_call.specs.Called.{called_wide, called_widened, called_plain, called_in, called}
use Rattle.fort_typing_call.specs.declared.called.Called.{Called}
use Rattle.fort_typing_call.specs.declared.called.Called.TheVariants as a_call
use Rattle.fort_typing_rules.specs.Calls.{to_zz64, ArePositions, set_at, Calls, plain, widening, CallBreaks, no_set, not_applicable, unclear, no_best, no_best_widened}
use Rattle.fort_typing_law_rules.specs.Deciding.{AreTypes, IsAccepted, IsDecided}
use Rattle.fort_typing_law_rules.proofs.Types.{below_is, along_is, parameters_are}
use Rattle.fort_typing_law_rules.proofs.Walks.{some_first, no_first, told_first, first_none, some_fits, fits_some, none_fits, fits_none}
use Rattle.fort_typing_law_rules.proofs.Widened.{contained_is, positions_long, positions_are, positions_once, are_wide, wide_once, wide_types, suit_is}

unequal : (k : Knows) (s : MemberSet) (p q : Member) → Passes k.declared s p q
    → p.parameters ≡ q.parameters → ⊥
unequal k s p q (aside n m) e = n e
unequal k s p q (ordered n m b) e = n e
unequal k s p q (reversed n m b) e = n e
unequal k s p q (met u a b c d) e = u.unequal e

three : (i j : ℕ) → (i < j) ⊎ ((j < i) ⊎ (i ≡ j))
three i j = grind arith

module _ (k : Knows) (A : IsAccepted k) (n : ℕ) (s : MemberSet)
    (at : slice_get k.facts.members.sets n ≡ Some s) where
  params : (i : ℕ) (d : Member) → slice_get s.members i ≡ Some d → AreTypes k d.parameters
  params i d e = parameters_are k A n s i d at e

  -- ---- what fits, and what goes before

  module _ (types : List Ty) (T : AreTypes k types) where
    abbrev Fits : Member → Type 0
    Fits d = IsApplicable k.declared d types

    abbrev Goes : Member → Member → Type 0
    Goes d e = IsMoreSpecific k.declared d e

    fit : (i : ℕ) (d : Member) → slice_get s.members i ≡ Some d
        → IsTrue (fits k.facts false types d) ↔ Fits d
    unfolding fits
    fit i d e = along_is k A types d.parameters T (params i d e)

    go : (i j : ℕ) (d e : Member) → slice_get s.members i ≡ Some d → slice_get s.members j ≡ Some e
        → IsTrue (goes_before k.facts false types d e) ↔ Goes d e
    unfolding goes_before
    go i j d e p q = along_is k A d.parameters e.parameters (params i d p) (params j e q)

    abbrev Wide : Member → Type 0
    Wide d = IsApplicableWidened k.declared to_zz64 d types

    abbrev Less : Member → Member → Type 0
    Less d e = WidensWithin to_zz64 types d e

    fit_wide : (i : ℕ) (d : Member) → slice_get s.members i ≡ Some d
        → IsTrue (fits k.facts true types d) ↔ Wide d
    unfolding fits
    fit_wide i d e = suit_is k A types d.parameters T (params i d e)

    go_wide : (i j : ℕ) (d e : Member) → slice_get s.members i ≡ Some d
        → slice_get s.members j ≡ Some e → IsTrue (goes_before k.facts true types d e) ↔ Less d e
    unfolding goes_before
    go_wide i j d e p q = contained_is types d.parameters e.parameters

    -- ---- the most specific declaration

    abbrev BestOne : Member → Type 0
    BestOne d = Fits d × ((j : ℕ) (e : Member) → slice_get s.members j ≡ Some e → Fits e → Goes d e)

    is_one : (i : ℕ) (m : IsMostSpecific k.declared s types i) → BestOne m.chosen
    is_one i m = (m.applicable, λ j e q f. m.least j e q f)

    one_is : (i : ℕ) (d : Member) → slice_get s.members i ≡ Some d → BestOne d
        → IsMostSpecific k.declared s types i
    one_is i d e b = record { chosen = d; is = e; applicable = b.0; least = λ j x q f. b.1 j x q f }

    same_one : (d e : Member) → Goes d e → Goes e d → d.parameters ≡ e.parameters
    same_one d e p q =
        same_lists d.parameters e.parameters p.0
        (λ j x y f g. same k.declared A.sound x y (p.1 j x y f g) (q.1 j y x g f))

    once : (i j : ℕ) (d e : Member) → slice_get s.members i ≡ Some d
        → slice_get s.members j ≡ Some e → BestOne d → BestOne e → d ≡ e
    once i j d e p q b c = by (three i j)
      where
        alike : d.parameters ≡ e.parameters
        alike = same_one d e (b.1 j e q c.0) (c.1 i d p b.0)

        by : (i < j) ⊎ ((j < i) ⊎ (i ≡ j)) → d ≡ e
        by (inl l) = absurd (unequal k s d e ((A.kept n s at).pairs i j d e p q l) alike)
        by (inr (inl l)) =
            absurd (unequal k s e d ((A.kept n s at).pairs j i e d q p l) (sym alike))
        by (inr (inr f)) = let g : Some d ≡ Some e = sym p ∙ ap (slice_get s.members) f ∙ q in cc

    first_is : (i : ℕ) (d : Member) → slice_get s.members i ≡ Some d → BestOne d
        → first_best k.facts false types s.members s.members ≡ Some d
    first_is i d e b =
        let f = some_first k.facts false types s.members Fits Goes fit go i d e b in
        f.1 ∙ ap (λ (x : Member). Some x) (once f.2.0 i f.0 d f.2.1 e f.2.2 b)

    most_specific : (i : ℕ) (d : Member) → IsMostSpecific k.declared s types i
        → slice_get s.members i ≡ Some d
        → first_best k.facts false types s.members s.members ≡ Some d
    most_specific i d m e = first_is i m.chosen m.is (is_one i m) ∙ sym m.is ∙ e

    no_most_specific : ((i : ℕ) → IsMostSpecific k.declared s types i → ⊥)
        → first_best k.facts false types s.members s.members ≡ None
    no_most_specific m =
        no_first k.facts false types s.members Fits Goes fit go
        (λ d f. m f.0 (one_is f.0 d f.1 f.2))

    none_applies : ((i : ℕ) × (d : Member) × StandsAt s i d × IsApplicable k.declared d types → ⊥)
        → any_fits k.facts false types s.members ≡ false
    none_applies m = none_fits k.facts false types s.members Fits Goes fit go m

    none_best : ((i : ℕ) × (d : Member) × StandsAt s i d × IsApplicable k.declared d types → ⊥)
        → first_best k.facts false types s.members s.members ≡ None
    none_best m = no_most_specific (λ i b. m (i, b.chosen, b.is, b.applicable))

    -- ---- the declaration that widens least

    abbrev LeastOne : Member → Type 0
    LeastOne d = Wide d
        × ((j : ℕ) (e : Member) → slice_get s.members j ≡ Some e → Wide e → Less d e)

    least_is : (i : ℕ) (d : Member) → slice_get s.members i ≡ Some d → LeastOne d
        → IsLeast k.declared to_zz64 s types i
    least_is i d e b =
        record { chosen = d; is = e; applicable = b.0; least = λ j x q f. b.1 j x q f }

    some_least : (i : ℕ) (m : IsLeast k.declared to_zz64 s types i)
        → (d : Member) × (first_best k.facts true types s.members s.members ≡ Some d) × (j : ℕ)
        × (slice_get s.members j ≡ Some d) × LeastOne d
    some_least i m =
        let f = some_first k.facts true types s.members Wide Less fit_wide go_wide i m.chosen m.is
        (m.applicable, λ j e q g. m.least j e q g) in (f.0, f.1, f.2.0, f.2.1, f.2.2)

    -- two that widen least widen the same positions
    as_wide : (p q : Member) → Less p q → Less q p → (wide : List Ty)
        → AreWidened to_zz64 p types wide → wide ≡ widened_types types q.parameters
    as_wide p q f g wide w =
        wide_once types q.parameters wide w.long
        (λ j t e. (λ m. (w.each j t e).0 (g j m), λ m. (w.each j t e).1 (λ a. m (f j a))))

    as_positions : (p q : Member) → Less p q → Less q p → (widened : List Bool)
        → ArePositions p types widened → widened ≡ positions types q.parameters
    as_positions p q f g widened w =
        positions_once types q.parameters widened w.long
        (λ j. (λ t. f j ((w.at j).0 t), λ m. (w.at j).1 (g j m)))

    positions_of : (p : Member) → ArePositions p types (positions types p.parameters)
    positions_of p =
        record {
          long = positions_long types p.parameters;
          at = λ j. positions_are types p.parameters j;
        }

  module _ (types : List Ty) (T : AreTypes k types) where
    -- ---- from the rules to what is computed

    abbrev Plain : Called
    Plain = called_plain k.facts s.members types
        (first_best k.facts false types s.members s.members)

    plainly : (i : ℕ) (d : Member) → IsMostSpecific k.declared s types i
        → slice_get s.members i ≡ Some d
        → Plain ≡ a_call.Result d.result (replicate (length types) false)
    plainly i d m e = ap (called_plain k.facts s.members types) (most_specific types T i d m e)

    -- none is applicable
    to_widening : ((i : ℕ) × (d : Member) × StandsAt s i d × IsApplicable k.declared d types → ⊥)
        → Plain ≡ called_widened k.facts s.members types
        (first_best k.facts true types s.members s.members)
    to_widening m = ap (called_plain k.facts s.members types) (none_best types T m)
        ∙ ap (λ c. cond c (a_call.Refused NOT_APPLICABLE)
        (called_widened k.facts s.members types
        (first_best k.facts true types s.members s.members))) (none_applies types T m)

    widely : (i : ℕ) (p : Member) (wide : List Ty)
        → ((i : ℕ) × (d : Member) × StandsAt s i d × IsApplicable k.declared d types → ⊥)
        → IsLeast k.declared to_zz64 s types i → StandsAt s i p
        → AreWidened to_zz64 p types wide
        → (q : Member) × Less types T p q × Less types T q p
        × (Plain ≡ called_wide (positions types q.parameters)
        (first_best k.facts false wide s.members s.members))
    widely i p wide m l e w =
        let f = some_least types T i l in
        let there : p ≡ l.chosen = (let g : Some p ≡ Some l.chosen = sym e ∙ l.is in cc) in
        let one : Less types T p f.0 =
        subst (λ (x : Member). Less types T x f.0) (sym there) (l.least f.2 f.0 f.3 f.4.0) in
        let two : Less types T f.0 p =
        subst (λ (x : Member). Less types T f.0 x) (sym there)
        (f.4.1 i l.chosen l.is l.applicable) in (
          f.0,
          one,
          two,
          to_widening m ∙ ap (called_widened k.facts s.members types) f.1
              ∙ ap (λ (ts : List Ty). called_wide (positions types f.0.parameters)
              (first_best k.facts false ts s.members s.members))
              (sym (as_wide types T p f.0 one two wide w)),
        )

    -- the types of a widened call are the component's
    wide_are : (p : Member) (wide : List Ty) → AreWidened to_zz64 p types wide → AreTypes k wide
    wide_are p wide w =
        subst (λ (ts : List Ty). AreTypes k ts)
        (sym (wide_once types p.parameters wide w.long w.each))
        (wide_types k A types p.parameters T)

    -- ---- from what is computed to the rules

    abbrev Told : SetId → Called → Type 0
    Told set (a_call.Result result widened) = Calls k set types result widened
    Told set (a_call.Refused rule) = CallBreaks k set types rule

    module _ (set : SetId) (here : set_at k set ≡ Some s) where
      abbrev NoneApplies : Type 0
      NoneApplies = (i : ℕ) × (d : Member) × StandsAt s i d × IsApplicable k.declared d types → ⊥

      tell_wide : (i : ℕ) (p : Member) → NoneApplies → slice_get s.members i ≡ Some p
          → LeastOne types T p → (o : Option Member)
          → first_best k.facts false (widened_types types p.parameters) s.members s.members ≡ o
          → Told set (called_wide (positions types p.parameters) o)
      tell_wide i p m e l (Some d) q =
          let wide = widened_types types p.parameters in
          let f = told_first k.facts false wide s.members
          (Fits wide (wide_types k A types p.parameters T))
          (Goes wide (wide_types k A types p.parameters T))
          (fit wide (wide_types k A types p.parameters T))
          (go wide (wide_types k A types p.parameters T)) d q in
          widening s i f.0 p d wide here m (least_is types T i p e l) e
          (are_wide types p.parameters)
          (one_is wide (wide_types k A types p.parameters T) f.0 d f.1 f.2) f.1 refl
          (positions_of types T p)
      tell_wide i p m e l None q =
          let wide = widened_types types p.parameters in
          no_best_widened s i p wide here m (least_is types T i p e l) e
          (are_wide types p.parameters)
          (λ j b. first_none k.facts false wide s.members
          (Fits wide (wide_types k A types p.parameters T))
          (Goes wide (wide_types k A types p.parameters T))
          (fit wide (wide_types k A types p.parameters T))
          (go wide (wide_types k A types p.parameters T)) q b.chosen
          (j, b.is, is_one wide (wide_types k A types p.parameters T) j b)) refl

      tell_any_wide : NoneApplies → ((i : ℕ) → IsLeast k.declared to_zz64 s types i → ⊥)
          → (c : Bool) → any_fits k.facts true types s.members ≡ c
          → Told set (cond c (a_call.Refused WIDENING_UNCLEAR) (a_call.Refused NOT_APPLICABLE))
      tell_any_wide m l true q =
          unclear s here m (
            fits_some k.facts true types s.members (Wide types T) (Less types T) (fit_wide types T)
                (go_wide types T) q,
            l,
          ) refl
      tell_any_wide m l false q =
          not_applicable s here m
          (fits_none k.facts true types s.members (Wide types T) (Less types T) (fit_wide types T)
          (go_wide types T) q) refl

      tell_least : NoneApplies → (o : Option Member)
          → first_best k.facts true types s.members s.members ≡ o
          → Told set (called_widened k.facts s.members types o)
      tell_least m (Some p) q =
          let f = told_first k.facts true types s.members (Wide types T) (Less types T)
          (fit_wide types T) (go_wide types T) p q in
          tell_wide f.0 p m f.1 f.2
          (first_best k.facts false (widened_types types p.parameters) s.members s.members) refl
      tell_least m None q =
          tell_any_wide m
          (λ i l. first_none k.facts true types s.members (Wide types T) (Less types T)
          (fit_wide types T) (go_wide types T) q l.chosen (
            i,
            l.is,
            (l.applicable, λ j e p f. l.least j e p f),
          ))
          (any_fits k.facts true types s.members) refl

      tell_any : ((i : ℕ) → IsMostSpecific k.declared s types i → ⊥) → (c : Bool)
          → any_fits k.facts false types s.members ≡ c
          → Told set
          (cond c (a_call.Refused NOT_APPLICABLE)
          (called_widened k.facts s.members types
          (first_best k.facts true types s.members s.members)))
      tell_any m true q =
          no_best s here (
            fits_some k.facts false types s.members (Fits types T) (Goes types T) (fit types T)
                (go types T) q,
            m,
          ) refl
      tell_any m false q =
          tell_least
          (fits_none k.facts false types s.members (Fits types T) (Goes types T) (fit types T)
          (go types T) q) (first_best k.facts true types s.members s.members) refl

      tell : (o : Option Member) → first_best k.facts false types s.members s.members ≡ o
          → Told set (called_plain k.facts s.members types o)
      tell (Some d) q =
          let f = told_first k.facts false types s.members (Fits types T) (Goes types T)
          (fit types T) (go types T) d q in
          plain s f.0 d here (one_is types T f.0 d f.1 f.2) f.1 refl refl
      tell None q =
          tell_any (λ i m. first_none k.facts false types s.members (Fits types T) (Goes types T)
          (fit types T) (go types T) q m.chosen (i, m.is, is_one types T i m))
          (any_fits k.facts false types s.members) refl

module _ (k : Knows) (A : IsAccepted k) (set : SetId) (types : List Ty) (T : AreTypes k types) where
  within : (s : MemberSet) → set_at k set ≡ Some s
      → called k.facts set types
      ≡ called_plain k.facts s.members types (first_best k.facts false types s.members s.members)
  unfolding called
  within s e = ap (called_in k.facts types) e

  without : set_at k set ≡ None → called k.facts set types ≡ a_call.Refused NOT_APPLICABLE
  unfolding called
  without e = ap (called_in k.facts types) e

  result_is : (a b : Ty) (v w : List Bool) → a ≡ b → v ≡ w → a_call.Result a v ≡ a_call.Result b w
  result_is a b v w p q =
      ap (λ (x : Ty). a_call.Result x v) p ∙ ap (λ (x : List Bool). a_call.Result b x) q

  calls_are : (result : Ty) (widened : List Bool) → Calls k set types result widened
      → called k.facts set types ≡ a_call.Result result widened
  calls_are result widened (plain s i d e m stands re we) =
      within s e ∙ plainly k A set.0 s e types T i d m stands
      ∙ result_is d.result result (replicate (length types) false) widened (sym re) (sym we)
  calls_are result widened (widening s i j p d wide e m l stands w b there re we) =
      let f = widely k A set.0 s e types T i p wide m l stands w in
      within s e ∙ f.3
      ∙ ap (called_wide (positions types f.0.parameters))
      (most_specific k A set.0 s e wide (wide_are k A set.0 s e types T p wide w) j d b there)
      ∙ result_is d.result result (positions types f.0.parameters) widened (sym re)
      (sym (as_positions k A set.0 s e types T p f.0 f.1 f.2 widened we))

  refuses_are : (rule : Rule) → CallBreaks k set types rule
      → called k.facts set types ≡ a_call.Refused rule
  refuses_are rule (no_set e re) = without e ∙ ap (λ (r : Rule). a_call.Refused r) (sym re)
  refuses_are rule (not_applicable s e m w re) = within s e ∙ to_widening k A set.0 s e types T m
      ∙ ap (called_widened k.facts s.members types)
      (no_first k.facts true types s.members (Wide k A set.0 s e types T)
      (Less k A set.0 s e types T) (fit_wide k A set.0 s e types T)
      (go_wide k A set.0 s e types T) (λ d f. w (f.0, d, f.1, f.2.0)))
      ∙ ap (λ c. cond c (a_call.Refused WIDENING_UNCLEAR) (a_call.Refused NOT_APPLICABLE))
      (none_fits k.facts true types s.members (Wide k A set.0 s e types T)
      (Less k A set.0 s e types T) (fit_wide k A set.0 s e types T)
      (go_wide k A set.0 s e types T) w)
      ∙ ap (λ (r : Rule). a_call.Refused r) (sym re)
  refuses_are rule (unclear s e m w re) = within s e ∙ to_widening k A set.0 s e types T m
      ∙ ap (called_widened k.facts s.members types)
      (no_first k.facts true types s.members (Wide k A set.0 s e types T)
      (Less k A set.0 s e types T) (fit_wide k A set.0 s e types T)
      (go_wide k A set.0 s e types T)
      (λ d f. w.1 f.0 (least_is k A set.0 s e types T f.0 d f.1 f.2)))
      ∙ ap (λ c. cond c (a_call.Refused WIDENING_UNCLEAR) (a_call.Refused NOT_APPLICABLE))
      (some_fits k.facts true types s.members (Wide k A set.0 s e types T)
      (Less k A set.0 s e types T) (fit_wide k A set.0 s e types T)
      (go_wide k A set.0 s e types T) w.0)
      ∙ ap (λ (r : Rule). a_call.Refused r) (sym re)
  refuses_are rule (no_best s e m re) = within s e
      ∙ ap (called_plain k.facts s.members types) (no_most_specific k A set.0 s e types T m.1)
      ∙ ap (λ c. cond c (a_call.Refused NOT_APPLICABLE)
      (called_widened k.facts s.members types
      (first_best k.facts true types s.members s.members)))
      (some_fits k.facts false types s.members (Fits k A set.0 s e types T)
      (Goes k A set.0 s e types T) (fit k A set.0 s e types T) (go k A set.0 s e types T)
      m.0)
      ∙ ap (λ (r : Rule). a_call.Refused r) (sym re)
  refuses_are rule (no_best_widened s i p wide e m l stands w b re) =
      let f = widely k A set.0 s e types T i p wide m l stands w in
      within s e ∙ f.3
      ∙ ap (called_wide (positions types f.0.parameters))
      (no_most_specific k A set.0 s e wide (wide_are k A set.0 s e types T p wide w) b)
      ∙ ap (λ (r : Rule). a_call.Refused r) (sym re)

  abbrev Tells : Called → Type 0
  Tells (a_call.Result result widened) = Calls k set types result widened
  Tells (a_call.Refused rule) = CallBreaks k set types rule

  told_in : (o : Option MemberSet) → set_at k set ≡ o → Tells (called_in k.facts types o)
  told_in (Some s) e =
      tell k A set.0 s e types T set e (first_best k.facts false types s.members s.members) refl
  told_in None e = no_set e refl

  tells : Tells (called k.facts set types)
  unfolding called
  tells = told_in (set_at k set) refl

pub is_decided : IsDecided
is_decided k A = record {
  below = λ a b p q h. (below_is k A a b p q).1 h;
  told = λ a b p q h. (below_is k A a b p q).0 h;
  calls = λ set types result widened T c. calls_are k A set types T result widened c;
  has_call =
      λ set types result widened T e. subst (λ
      (c : Called). Tells k A set types T c) e (tells k A set types T);
  refuses = λ set types rule T c. refuses_are k A set types T rule c;
  breaks_call =
      λ set types rule T e. subst (λ
      (c : Called). Tells k A set types T c) e (tells k A set types T);
}
