-- What an act must be to keep a type, and the acts of parts.
use Rattle.std.proofs.Common.{◌≡◌, ℕ, ◌+◌, Bool, true, false, List, [], ◌∷◌, map, Option, Some, None, refl, ap, ◌∙◌, subst}
use Rattle.std.specs.Prelude.{slice_get}
use Rattle.fort_base.specs.declared.ids.TypeId.{TypeId}
use Rattle.fort_base.specs.declared.ty.Ty.{Ty, Tuple, out-Ty}
use Rattle.fort_base.specs.declared.ty.Ty.TheVariants as ty
use Rattle.fort_base.specs.declared.ty.Ty.TheOpen.{Ty-F}
use Rattle.fort_core.specs.declared.term.Term.{Term}
use Rattle.fort_core.specs.declared.term.Term as term
use Rattle.fort_core.specs.declared.term.Term.TheOpen.{Value-F}
use Rattle.fort_core.specs.declared.value.Value.{Value, out-Value}
use Rattle.fort_core.specs.declared.value.Value as value
use Rattle.fort_core.specs.declared.value.Value.TheVariants.{outs-Tuple, outs-Small}
use Rattle.fort_core.specs.declared.value.Closure.{Closure}
use Rattle.std.specs.Prelude.{ℤ, option_map}
use Rattle.fort_core.specs.declared.program.Program.{Program}
use Rattle.fort_machine.specs.Ends.{Standing, at_value, at_throw, open_yet, standing, throw_of, has_stepped}
use Rattle.fort_machine.specs.Substitution.{paired, parts_paired, bound_to}
use Rattle.fort_machine.specs.Types.{domain_of}
use Rattle.fort_machine.specs.Acts.{Act, stuck, turns, enters, asks, sets, makes, calls, ends, unit, single, throws_object, throwing, by_standing, after, after_all, Together, at_values, leftmost, some_still, some_open, with_first, standing_together, by_together, once_all}
use Rattle.std.specs.Int.{w32}
use Rattle.fort_sound_typed.specs.Envs.{fixed, Sig, Env, none, fixed_all, named, plains}
use Rattle.fort_sound_typed.specs.Typing.{IsNumber, Below, unit_type, small_type, thrown_type, Called, Has, HasParts, parts0, parts1, HasV, HasVs, vs0, vs1}
use Rattle.fort_sound_typed.specs.Sound.{Up, opening, IsFailure}
use Rattle.fort_sound_typed.proofs.Shapes.{Shape}
use Rattle.fort_sound_typed.proofs.Facts.{Facts}
use Rattle.fort_sound_typed.proofs.Rules.{value_has, thrown_has, has_value, has_thrown, has_v_at, rule_v, sub}
use Rattle.fort_sound_typed.proofs.Grow.{grow_v}
use Rattle.fort_sound_typed.proofs.Made.{is_value, is_thrown}
use Rattle.fort_sound_typed.proofs.Owns.{sub_vs}

-- What an act must be, so that the term that it makes has a type.
abbrev pub Good : Program → Sig → Act → Ty → Type 0
Good k S stuck T = Unit {0}
Good k S (turns next output cost) T = Has k S none next T
Good k S (enters body next) T = Has k S none next T
Good k S (asks l next) T = (F : Ty) × (S l ≡ Some F)
    × ((v : Value) → HasV k S v F → Has k S none (next v) T)
Good k S (sets l v) T = (F : Ty) × (S l ≡ Some F) × HasV k S v F × Below k unit_type T
Good k S (makes vs next cost) T = (ws : List Ty) × HasVs k S vs ws
    × ((S' : Sig) (l : ℕ) → Up S S'
    → ((n : ℕ) (w : Ty) → slice_get ws n ≡ Some w → S' (l + n) ≡ Some w)
    → Has k S' none (next l) T)
Good k S (calls set vs) T = (As : List Ty) × (R : Ty) × Called k set As R × HasVs k S vs As
    × Below k R T
Good k S ends T = Unit {0}

module _ (k : Program) (o : Facts k) (S : Sig) (opens : Up (opening k) S) where
  pub good_sub : (x : Act) (A T : Ty) → Good k S x A → Below k A T → Good k S x T
  good_sub stuck A T g b = tt
  good_sub (turns next output cost) A T g b = sub k S o.transitive g b
  good_sub (enters body next) A T g b = sub k S o.transitive g b
  good_sub (asks l next) A T g b = (g.0, g.1, λ v h. sub k S o.transitive (g.2 v h) b)
  good_sub (sets l v) A T g b = (g.0, g.1, g.2, o.transitive unit_type A T g.3 b)
  good_sub (makes vs next cost) A T g b =
      (g.0, g.1, λ S' l u e. sub k S' o.transitive (g.2 S' l u e) b)
  good_sub (calls set vs) A T g b = (g.0, g.1, g.2, g.3, o.transitive g.1 A T g.4 b)
  good_sub ends A T g b = tt

  pub throw_good : {T : Ty} (v : Value) → HasV k S v (thrown_type k) → Has k S none (throw_of v) T
  throw_good v h = has_thrown k S o.reflexive h

  pub failing_good : (id : TypeId) (T : Ty) → IsFailure k id → Good k S (throwing k id) T
  failing_good id T f = go (single k id) refl
    where
      go : (v : Option Value) → single k id ≡ v → Good k S (throws_object v) T
      go None e = tt
      go (Some v) e = throw_good v (grow_v k (opening k) S opens (o.failures id v f e))

  -- a part from the left
  pub after_good : (T : Ty) (a : Term) (A : Ty) (f : Value → Act) → Has k S none a A
      → ((v : Value) → standing a ≡ at_value v → HasV k S v A → Good k S (f v) T)
      → Good k S (after a f) T
  after_good T a A f h g = go (standing a) refl
    where
      go : (st : Standing) → standing a ≡ st → Good k S (by_standing st f) T
      go open_yet e = tt
      go (at_value v) e =
          g v e (value_has k S o.transitive (subst (λ u. Has k S none u A) (is_value a v e) h))
      go (at_throw v) e =
          throw_good v
          (thrown_has k S o.transitive (subst (λ u. Has k S none u A) (is_thrown a v e) h))

  pub all_good : (T : Ty) (ts : List Term) (As : List Ty) (f : List Value → Act)
      → HasParts k S none ts (plains As) → ((vs : List Value) → HasVs k S vs As → Good k S (f vs) T)
      → Good k S (after_all ts f) T
  all_good T [] [] f h g = g [] vs0
  all_good T [] (A ∷ As) f h g = elim h [ ]
  all_good T (t ∷ ts) [] f h g = elim h [ ]
  all_good T (t ∷ ts) (A ∷ As) f (parts1 n h hs) g =
      after_good T t A (λ v. after_all ts (λ vs. f (v ∷ vs))) h
      (λ v e i. all_good T ts As (λ vs. f (v ∷ vs)) hs (λ vs j. g (v ∷ vs) (vs1 i j)))

  -- parts beside each other
  abbrev pub StandGood : Standing → Ty → Type 0
  StandGood (at_value v) A = HasV k S v A
  StandGood (at_throw v) A = HasV k S v (thrown_type k)
  StandGood open_yet A = Unit {0}

  abbrev pub AllGood : Together → List Ty → Type 0
  AllGood (at_values vs) As = HasVs k S vs As
  AllGood (leftmost v) As = HasV k S v (thrown_type k)
  AllGood _ As = Unit {0}

  stand_good : (t : Term) (A : Ty) → Has k S none t A → StandGood (standing t) A
  stand_good t A h = go (standing t) refl
    where
      go : (st : Standing) → standing t ≡ st → StandGood st A
      go open_yet e = tt
      go (at_value v) e =
          value_has k S o.transitive (subst (λ u. Has k S none u A) (is_value t v e) h)
      go (at_throw v) e =
          thrown_has k S o.transitive (subst (λ u. Has k S none u A) (is_thrown t v e) h)

  first_good : (st : Standing) (m : Bool) (g : Together) (A : Ty) (As : List Ty) → StandGood st A
      → AllGood g As → AllGood (with_first st m g) (A ∷ As)
  first_good (at_value v) m (at_values vs) A As h i = vs1 h i
  first_good (at_value v) m (leftmost w) A As h i = i
  first_good (at_value v) m some_still A As h i = tt
  first_good (at_value v) m some_open A As h i = tt
  first_good (at_throw v) m some_open A As h i = tt
  first_good (at_throw v) m (at_values vs) A As h i = h
  first_good (at_throw v) m (leftmost w) A As h i = h
  first_good (at_throw v) m some_still A As h i = h
  first_good open_yet true g A As h i = tt
  first_good open_yet false (at_values vs) A As h i = tt
  first_good open_yet false (leftmost w) A As h i = i
  first_good open_yet false some_still A As h i = tt
  first_good open_yet false some_open A As h i = tt

  pub together_good : (ts : List Term) (As : List Ty) → HasParts k S none ts (plains As)
      → AllGood (standing_together ts) As
  together_good [] [] h = vs0
  together_good [] (A ∷ As) h = elim h [ ]
  together_good (t ∷ ts) [] h = elim h [ ]
  together_good (t ∷ ts) (A ∷ As) (parts1 n h hs) =
      first_good (standing t) (has_stepped t) (standing_together ts) A As (stand_good t A h)
      (together_good ts As hs)

  pub once_good : (T : Ty) (ts : List Term) (As : List Ty) (f : List Value → Act)
      → HasParts k S none ts (plains As) → ((vs : List Value) → HasVs k S vs As → Good k S (f vs) T)
      → Good k S (once_all ts f) T
  once_good T ts As f h g = go (standing_together ts) (together_good ts As h)
    where
      go : (x : Together) → AllGood x As → Good k S (by_together x f) T
      go (at_values vs) i = g vs i
      go (leftmost v) i = throw_good v i
      go some_still i = tt
      go some_open i = tt

  pub unit_has : {G : Env} {T : Ty} → Below k unit_type T → Has k S G (term.Value unit) T
  unit_has b =
      has_value k S o.reflexive
      (has_v_at k S (outs-Tuple [])
      (record {
        own = unit_type;
        qs = [];
        ws = [];
        fits = refl;
        parts = parts0;
        values = vs0;
        below = b;
      }))

  pub small_has : (n : ℤ) → IsNumber w32 n → HasV k S (value.Small n) (small_type k)
  small_has n w =
      has_v_at k S (outs-Small n)
      (record {
        own = small_type k;
        qs = [];
        ws = [];
        fits = (refl, w);
        parts = parts0;
        values = vs0;
        below = o.reflexive _;
      })

  -- variables of a `let`, a function, with the values that are passed
  abbrev pub types_of : List (ℕ × Ty) → List Ty
  types_of xs = map (λ (x : ℕ × Ty). x.1) xs

  abbrev pub held_of : List (ℕ × Value) → List Value
  held_of hs = map (λ (h : ℕ × Value). h.1) hs

  abbrev pub Bound : List (ℕ × Ty) → List (ℕ × Value) → Type 0
  Bound xs hs = HasVs k S (held_of hs) (types_of xs) × (named hs (types_of xs) ≡ fixed_all xs)

  paired_has : (xs : List (ℕ × Ty)) (vs : List Value) (hs : List (ℕ × Value))
      → paired xs vs ≡ Some hs → HasVs k S vs (types_of xs) → Bound xs hs
  paired_has [] [] hs e h = let z : [] ≡ hs = cc in subst (λ u. Bound [] u) z (vs0, refl)
  paired_has [] (v ∷ vs) hs e h = absurd cc
  paired_has (x ∷ xs) [] hs e h = absurd cc
  paired_has (x ∷ xs) (v ∷ vs) hs e (vs1 i is) =
      go (paired xs vs) refl e (λ us q. paired_has xs vs us q is)
    where
      go : (p : Option (List (ℕ × Value))) → paired xs vs ≡ p
          → option_map (λ (us : List (ℕ × Value)). (x.0, v) ∷ us) p ≡ Some hs
          → ((us : List (ℕ × Value)) → paired xs vs ≡ Some us → Bound xs us) → Bound (x ∷ xs) hs
      go None q e r = absurd cc
      go (Some us) q e r =
          let z : (x.0, v) ∷ us ≡ hs = cc in let j = r us q
          in subst (λ u. Bound (x ∷ xs) u) z (vs1 i j.0, ap (λ r. (x.0, fixed x.1) ∷ r) j.1)

  pub shape_at : (A B : Ty) (a b : Ty-F Ty) → out-Ty A ≡ a → out-Ty B ≡ b → Below k A B
      → Shape k a b
  shape_at A B a b e f h =
      subst (λ z. Shape k z b) e (subst (λ z. Shape k (out-Ty A) z) f (o.shape A B h))

  tuple_parts : (v : Value) (Ts : List Ty) (vs : List Value) → out-Value v ≡ Value-F.Tuple vs
      → HasV k S v (Tuple Ts) → HasVs k S vs Ts
  tuple_parts v Ts vs e h = let r = rule_v k S e h in
      sub_vs k o S r.ws Ts r.values
      (shape_at r.own (Tuple Ts) (Ty-F.Tuple r.ws) (Ty-F.Tuple Ts) (ap out-Ty r.fits
      ∙ ty.outs-Tuple r.ws) (ty.outs-Tuple Ts) r.below)

  tuple_bound : (xs : List (ℕ × Ty)) (v : Value) (hs : List (ℕ × Value))
      (y : Value-F Term Value Closure) → out-Value v ≡ y → parts_paired xs y ≡ Some hs
      → HasV k S v (Tuple (types_of xs)) → Bound xs hs
  tuple_bound xs v hs (Value-F.Tuple vs) q e h =
      paired_has xs vs hs e (tuple_parts v (types_of xs) vs q h)
  tuple_bound xs v hs _ q e h = absurd cc

  pub bound_has : (xs : List (ℕ × Ty)) (v : Value) (hs : List (ℕ × Value)) → bound_to xs v ≡ Some hs
      → HasV k S v (domain_of xs) → Bound xs hs
  bound_has [] v hs e h = tuple_bound [] v hs (out-Value v) refl e h
  bound_has (x ∷ []) v hs e h =
      let z : (x.0, v) ∷ [] ≡ hs = cc in subst (λ u. Bound (x ∷ []) u) z (vs1 h vs0, refl)
  bound_has (x ∷ y ∷ xs) v hs e h = tuple_bound (x ∷ y ∷ xs) v hs (out-Value v) refl e h
