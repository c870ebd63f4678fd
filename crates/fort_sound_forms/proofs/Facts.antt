-- What a program that suits a component has: the order of types, and its calls.
use Rattle.std.proofs.Common.{◌≡◌, ℕ, zero, suc, Bool, true, false, ◌&&◌, IsTrue, List, [], ◌∷◌, length, Some, refl, sym, ap, ◌∙◌, subst, arith}
use Rattle.std.specs.Prelude.{slice_get, get_or, replicate}
use Rattle.fort_base.specs.declared.ids.SetId.{SetId}
use Rattle.fort_base.specs.declared.ids.TypeId.{TypeId}
use Rattle.fort_base.specs.declared.ty.Ty.{Ty, out-Ty, roll-Ty, roll-out-Ty}
use Rattle.fort_base.specs.declared.ty.Ty.TheVariants.{Named, Array, Arrow, Tuple, rolls-Named, rolls-Array, rolls-Arrow, rolls-Tuple}
use Rattle.fort_base.specs.declared.ty.Ty.TheOpen.{Ty-F}
use Rattle.fort_types_sets.specs.declared.member.Member.{Member}
use Rattle.fort_types_sets.specs.declared.member.MemberSet.{MemberSet}
use Rattle.fort_types_sets.specs.Applicable.{Along, IsApplicable}
use Rattle.fort_types_sets.specs.Rules.{StandsAt}
use Rattle.fort_types_sets.specs.Best.{IsMostSpecific}
use Rattle.fort_typing_rules.specs.Widening.{AreWidened}
use Rattle.fort_core.specs.declared.program.Program.{Program}
use Rattle.fort_core.specs.declared.term.Term.{Term}
use Rattle.fort_machine.specs.Types.{below, all_below}
use Rattle.fort_typing_known.specs.Known.{Knows}
use Rattle.fort_sound_typed.specs.Envs.{Env, plains}
use Rattle.fort_sound_typed.specs.Typing.{Below, is_told, Called, Has, HasParts, parts0, parts1}
use Rattle.fort_sound_typed.specs.Sound.{opening}
use Rattle.fort_sound_typed.proofs.Computed.{through}
use Rattle.fort_sound_typed.proofs.Order.{transitive}
use Rattle.fort_sound_typed.proofs.Rules.{Trans, never, one_part, two_parts}
use Rattle.fort_typing_rules.specs.Types.{zz32, zz64, IsBelow}
use Rattle.fort_typing_rules.specs.Calls.{ArePositions, set_at, to_zz64, Calls, plain, widening}
use Rattle.fort_typing_rules.specs.Elements.{chosen}
use Rattle.fort_typing_law_rules.specs.Deciding.{IsType, AreTypes, IsAccepted}
use Rattle.fort_typing_law_rules.proofs.Types.{built_in_type}
use Rattle.fort_elab_meaning.specs.Parts.{Given}
use Rattle.fort_elab_meaning.specs.Calls.{argument, widened, call, operation, operated}
use Rattle.fort_sound_forms.specs.Suits.{Suits}
use Rattle.fort_sound_forms.proofs.Built.{has-Call, has-Operator}

pub named_is : (A : Ty) (i : TypeId) → out-Ty A ≡ Ty-F.Named i → A ≡ Named i
named_is A i e = sym (roll-out-Ty A) ∙ ap roll-Ty e ∙ rolls-Named i

pub array_is : (A e : Ty) → out-Ty A ≡ Ty-F.Array e → A ≡ Array e
array_is A e q = sym (roll-out-Ty A) ∙ ap roll-Ty q ∙ rolls-Array e

pub arrow_is : (A d r : Ty) → out-Ty A ≡ Ty-F.Arrow d r → A ≡ Arrow d r
arrow_is A d r q = sym (roll-out-Ty A) ∙ ap roll-Ty q ∙ rolls-Arrow d r

pub tuple_is : (A : Ty) (ts : List Ty) → out-Ty A ≡ Ty-F.Tuple ts → A ≡ Tuple ts
tuple_is A ts q = sym (roll-out-Ty A) ∙ ap roll-Ty q ∙ rolls-Tuple ts

-- ---- widened types

-- one type, whether it is widened, and what it is then
abbrev pub One : Ty → Bool → Ty → Type 0
One T true W = (T ≡ zz32) × (W ≡ zz64)
One T false W = T ≡ W

abbrev pub WidenedTo : List Ty → List Bool → List Ty → Type 0
WidenedTo [] [] [] = Unit {0}
WidenedTo (T ∷ Ts) (w ∷ ws) (W ∷ Ws) = One T w W × WidenedTo Ts ws Ws
WidenedTo _ _ _ = ⊥

pub never_widened : (Ts : List Ty) → WidenedTo Ts (replicate (length Ts) false) Ts
never_widened [] = tt
never_widened (T ∷ Ts) = (refl, never_widened Ts)

by_places : (Ts : List Ty) (ws : List Bool) (Ws : List Ty) → length ws ≡ length Ts
    → length Ws ≡ length Ts
    → ((n : ℕ) (T : Ty) (w : Bool) (W : Ty) → slice_get Ts n ≡ Some T → slice_get ws n ≡ Some w
    → slice_get Ws n ≡ Some W → One T w W) → WidenedTo Ts ws Ws
by_places [] [] [] e f h = tt
by_places [] [] (W ∷ Ws) e f h = absurd (omega arith)
by_places [] (w ∷ ws) Ws e f h = absurd (omega arith)
by_places (T ∷ Ts) [] Ws e f h = absurd (omega arith)
by_places (T ∷ Ts) (w ∷ ws) [] e f h = absurd (omega arith)
by_places (T ∷ Ts) (w ∷ ws) (W ∷ Ws) e f h = (
  h 0 T w W refl refl refl,
  by_places Ts ws Ws (omega arith) (omega arith) (λ n X x Y a b c. h (suc n) X x Y a b c),
)

some_is : {A : Type 0} {x y : A} → Some x ≡ Some y → x ≡ y
some_is e = cc

got_at : (ws : List Bool) (n : ℕ) (w : Bool) → slice_get ws n ≡ Some w → get_or ws n false ≡ w
got_at [] n w e = absurd cc
got_at (x ∷ ws) zero w e = some_is e
got_at (x ∷ ws) (suc n) w e = got_at ws n w e

pub widened_so : (d : Member) (Ts : List Ty) (ws : List Bool) (Ws : List Ty) → ArePositions d Ts ws
    → AreWidened to_zz64 d Ts Ws → WidenedTo Ts ws Ws
widened_so d Ts ws Ws a b = by_places Ts ws Ws a.long b.long at_place
  where
    by : (n : ℕ) (T : Ty) (w : Bool) (W : Ty) → slice_get Ts n ≡ Some T → get_or ws n false ≡ w
        → slice_get Ws n ≡ Some W → One T w W
    by n T true W e f q =
        let x = (a.at n).0 f in
        let i = x.2 in let j = x.4 in
        (some_is (sym e ∙ i) ∙ named_is x.0 _ j.0, named_is W _ ((b.each n W q).0 x))
    by n T false W e f q =
        let x = (b.each n W q).1 (λ y. let z : false ≡ true = sym f ∙ (a.at n).1 y in absurd cc)
        in some_is (sym e ∙ x)

    at_place : (n : ℕ) (T : Ty) (w : Bool) (W : Ty) → slice_get Ts n ≡ Some T
        → slice_get ws n ≡ Some w → slice_get Ws n ≡ Some W → One T w W
    at_place n T w W e f q = by n T w W e (got_at ws n w f) q

module _ (k : Knows) (A : IsAccepted k) (g : Given) (p : Program) (U : Suits k g p) where
  -- ---- the order of types

  pub tr : Trans p
  tr X Y Z x y = transitive p (through p.types.below U.through) x y

  pub told : (a b : Ty) → IsType k a → IsBelow k a b → Below p a b
  told a b t h = is_told (U.told a b t h)

  and_both : (a b : Bool) → a ≡ true → b ≡ true → (a && b) ≡ true
  and_both a b e f = ap (λ c. c && b) e ∙ f

  all_told : (xs ys : List Ty) → AreTypes k xs → Along (IsBelow k) xs ys
      → IsTrue (all_below p xs ys)
  all_told [] [] t h = refl
  all_told [] (y ∷ ys) t h = absurd (let n = h.0 in omega arith)
  all_told (x ∷ xs) [] t h = absurd (let n = h.0 in omega arith)
  all_told (x ∷ xs) (y ∷ ys) t h =
      and_both (below p x y) (all_below p xs ys) (U.told x y t.0 (h.1 0 x y refl refl))
      (all_told xs ys t.1 (let n = h.0 in omega arith, λ i a b c d. h.1 (suc i) a b c d))

  -- ---- calls

  pub called : (set : SetId) (s : MemberSet) (i : ℕ) (d : Member) (types : List Ty)
      → set_at k set ≡ Some s → StandsAt s i d → IsApplicable k.declared d types → AreTypes k types
      → Called p set types d.result
  called set s i d types e at h t =
      let D = U.declared set s i d e at in (
        D.number,
        D.decl,
        record {
          members = D.members;
          is_set = D.is_set;
          is_member = D.is_member;
          is_decl = D.is_decl;
          applies =
              subst (λ ps. IsTrue (all_below p types ps)) (sym D.parameters)
              (all_told types d.parameters t h);
        },
        sym D.result,
      )

  zz64_type : IsType k zz64
  zz64_type = built_in_type k A 3 (omega arith)

  wide_types : (Ts : List Ty) (ws : List Bool) (Ws : List Ty) → WidenedTo Ts ws Ws → AreTypes k Ts
      → AreTypes k Ws
  wide_types [] [] [] h t = tt
  wide_types [] [] (W ∷ Ws) h t = absurd h
  wide_types [] (w ∷ ws) Ws h t = absurd h
  wide_types (T ∷ Ts) [] Ws h t = absurd h
  wide_types (T ∷ Ts) (w ∷ ws) [] h t = absurd h
  wide_types (T ∷ Ts) (true ∷ ws) (W ∷ Ws) h t =
      (subst (IsType k) (sym h.0.1) zz64_type, wide_types Ts ws Ws h.1 t.1)
  wide_types (T ∷ Ts) (false ∷ ws) (W ∷ Ws) h t =
      (subst (IsType k) h.0 t.0, wide_types Ts ws Ws h.1 t.1)

  -- A call with arguments of these types, of which some are widened, has this result.
  pub record IsCall (set : SetId) (types : List Ty) (result : Ty) (ws : List Bool) : Type 0 where
    pub wide : List Ty
    pub widens : WidenedTo types ws wide
    pub called : Called p set wide result

  result_is : (s : MemberSet) (i : ℕ) (types : List Ty) (d : Member) (result : Ty)
      (m : IsMostSpecific k.declared s types i) → StandsAt s i d → result ≡ d.result
      → m.chosen.result ≡ result
  result_is s i types d result m at e =
      ap (λ (x : Member). x.result) (some_is (sym m.is ∙ at)) ∙ sym e

  pub call_is : (set : SetId) (types : List Ty) (result : Ty) (ws : List Bool) → AreTypes k types
      → Calls k set types result ws → IsCall set types result ws
  call_is set types result ws t (plain s i d e m at re we) = record {
    wide = types;
    widens = subst (λ x. WidenedTo types x types) (sym we) (never_widened types);
    called = subst (Called p set types) (result_is s i types d result m at re)
        (called set s i m.chosen types e m.is m.applicable t);
  }
  call_is set types result ws t (widening s i j q d wide e n l stands w m at re ps) =
      let W = widened_so q types ws wide ps w in record {
        wide = wide;
        widens = W;
        called = subst (Called p set wide) (result_is s j wide d result m at re)
            (called set s j m.chosen wide e m.is m.applicable (wide_types types ws wide W t));
      }

  -- ---- arguments

  has_argument : (G : Env) (t : Term) (T : Ty) (w : Bool) (W : Ty) → One T w W
      → Has p (opening p) G t T → Has p (opening p) G (argument g w t) W
  has_argument G t T true W h i = subst (λ X. Has p (opening p) G (argument g true t) X) (sym h.1)
      (has-Call p (opening p) g.widen (t ∷ []) (zz32 ∷ [])
      (one_part p (opening p) (subst (λ X. Has p (opening p) G t X) h.0 i)) U.widens)
  has_argument G t T false W h i = subst (λ X. Has p (opening p) G t X) h i

  pub has_arguments : (G : Env) (ts : List Term) (Ts : List Ty) (ws : List Bool) (Ws : List Ty)
      → WidenedTo Ts ws Ws → HasParts p (opening p) G ts (plains Ts)
      → HasParts p (opening p) G (widened g ws ts) (plains Ws)
  has_arguments G [] [] [] [] h i = parts0
  has_arguments G (t ∷ ts) [] ws Ws h i = elim i [ ]
  has_arguments G [] (T ∷ Ts) ws Ws h i = elim i [ ]
  has_arguments G ts [] [] (W ∷ Ws) h i = absurd h
  has_arguments G ts [] (w ∷ ws) Ws h i = absurd h
  has_arguments G ts (T ∷ Ts) [] Ws h i = absurd h
  has_arguments G ts (T ∷ Ts) (w ∷ ws) [] h i = absurd h
  has_arguments G (t ∷ ts) (T ∷ Ts) (w ∷ ws) (W ∷ Ws) h (parts1 n i is) =
      parts1 (never p (opening p) G) (has_argument G t T w W h.0 i)
      (has_arguments G ts Ts ws Ws h.1 is)

  pub has_call : (G : Env) (set : SetId) (types : List Ty) (result : Ty) (ws : List Bool)
      (ts : List Term) → IsCall set types result ws → HasParts p (opening p) G ts (plains types)
      → Has p (opening p) G (call g (chosen set ws) ts) result
  has_call G set types result ws ts c h =
      has-Call p (opening p) set (widened g ws ts) c.wide
      (has_arguments G ts types ws c.wide c.widens h) c.called

  pub has_operation : (G : Env) (set : SetId) (types : List Ty) (result : Ty) (ws : List Bool)
      (ts : List Term) → IsCall set types result ws → HasParts p (opening p) G ts (plains types)
      → Has p (opening p) G (operation g (chosen set ws) ts) result
  has_operation G set types result ws ts c h =
      has-Operator p (opening p) set (widened g ws ts) c.wide
      (has_arguments G ts types ws c.wide c.widens h) c.called

  pub has_operated : (G : Env) (set : SetId) (X Y result : Ty) (ws : List Bool) (a b : Term)
      → IsCall set (X ∷ Y ∷ []) result ws → Has p (opening p) G a X → Has p (opening p) G b Y
      → Has p (opening p) G (operated g (chosen set ws) a b) result
  has_operated G set X Y result ws a b c h i =
      has_operation G set (X ∷ Y ∷ []) result ws (a ∷ b ∷ []) c (two_parts p (opening p) h i)
