-- Which values have which types.
use Rattle.std.proofs.Common.{◌≡◌, ℕ, Bool, List, [], ◌∷◌, map, Some, refl, ap, sym, ◌∙◌, subst, inl, inr}
use Rattle.std.specs.Prelude.{ℤ, option_map}
use Rattle.fort_base.specs.declared.ids.Loc.{Loc}
use Rattle.fort_base.specs.declared.ids.NameId.{NameId}
use Rattle.fort_base.specs.declared.ids.TypeId.{TypeId}
use Rattle.fort_base.specs.declared.ty.Ty.{Ty, Tuple, Arrow, Array, out-Ty}
use Rattle.fort_base.specs.declared.ty.Ty.TheVariants.{Named}
use Rattle.fort_base.specs.declared.ty.Ty.TheVariants as ty
use Rattle.fort_base.specs.declared.ty.Ty.TheOpen.{Ty-F}
use Rattle.fort_core.specs.declared.term.Term.TheOpen.{Value-F}
use Rattle.fort_core.specs.declared.value.Closure.{Closure}
use Rattle.fort_core.specs.declared.value.Value.{Value, out-Value}
use Rattle.fort_core.specs.declared.program.Program.{Program}
use Rattle.fort_machine.specs.Primitives.{ValueKind}
use Rattle.fort_machine.specs.Substitution.{paired, parts_paired, bound_to}
use Rattle.fort_machine.specs.Types.{domain_of}
use Rattle.fort_sound_typed.specs.Envs.{Sig}
use Rattle.fort_sound_typed.specs.Typing.{Below, FieldOf, small_type, truth_type, thrown_type, HasV, HasVs, vs1}
use Rattle.fort_sound_typed.specs.Sound.{Up, opening}
use Rattle.fort_sound_typed.proofs.Shapes.{Shape}
use Rattle.fort_sound_typed.proofs.Facts.{Facts}
use Rattle.fort_sound_typed.specs.Goes.{IsBuiltIn, Complete}
use Rattle.fort_sound_typed.proofs.Order.{under_of}
use Rattle.fort_sound_typed.proofs.Rules.{rule_v}
use Rattle.fort_sound_typed.proofs.Owns.{sub_vs}
use Rattle.fort_sound_typed.proofs.Good.{shape_at}

module _ (k : Program) (o : Facts k) (all : Complete k) (S : Sig) (opens : Up (opening k) S) where
  -- a value's own type at a type that is named
  abbrev Kinded : ValueKind → TypeId → Type 0
  Kinded (Value-F.Small n) id = k.built_in.small ≡ id
  Kinded (Value-F.Large n) id = k.built_in.large ≡ id
  Kinded (Value-F.Truth b) id = k.built_in.truth ≡ id
  Kinded (Value-F.Text s) id = k.built_in.text ≡ id
  Kinded (Value-F.Range n m) id = k.built_in.range ≡ id
  Kinded _ id = ⊥

  kinded : (v : Value) (id : TypeId) → HasV k S v (Named id) → IsBuiltIn k id → (y : ValueKind)
      → out-Value v ≡ y → Kinded y id
  kinded v id h i (Value-F.Small n) e =
      let r = rule_v k S e h
      in all.only id k.built_in.small i
      (under_of k (subst (λ X. Below k X (Named id)) r.fits.0 r.below))
  kinded v id h i (Value-F.Large n) e =
      let r = rule_v k S e h
      in all.only id k.built_in.large i
      (under_of k (subst (λ X. Below k X (Named id)) r.fits.0 r.below))
  kinded v id h i (Value-F.Truth n) e =
      let r = rule_v k S e h
      in all.only id k.built_in.truth i
      (under_of k (subst (λ X. Below k X (Named id)) r.fits r.below))
  kinded v id h i (Value-F.Text n) e =
      let r = rule_v k S e h
      in all.only id k.built_in.text i
      (under_of k (subst (λ X. Below k X (Named id)) r.fits r.below))
  kinded v id h i (Value-F.Range n m) e =
      let r = rule_v k S e h
      in all.only id k.built_in.range i
      (under_of k (subst (λ X. Below k X (Named id)) r.fits.0 r.below))
  kinded v id h i (Value-F.Object j base) e = let r = rule_v k S e h in
      let q = all.only id j i (under_of k (subst (λ X. Below k X (Named id)) r.fits.1 r.below)) in
      all.unmade j r.fits.0.shape (subst (IsBuiltIn k) (sym q) i) r.fits.0.is_shape r.fits.0.is_made
  kinded v id h i (Value-F.Tuple vs) e =
      let r = rule_v k S e h
      in shape_at k o S opens r.own (Named id) (Ty-F.Tuple r.ws) (Ty-F.Named id) (ap out-Ty r.fits
      ∙ ty.outs-Tuple r.ws) (ty.outs-Named id) r.below
  kinded v id h i (Value-F.Array E base n) e =
      let r = rule_v k S e h
      in shape_at k o S opens r.own (Named id) (Ty-F.Array E) (Ty-F.Named id) (ap out-Ty r.fits.1
      ∙ ty.outs-Array E) (ty.outs-Named id) r.below
  kinded v id h i (Value-F.Function c) e = let r = rule_v k S e h in
      shape_at k o S opens r.own (Named id) (Ty-F.Arrow (domain_of c.parameters) c.result)
      (Ty-F.Named id) (ap out-Ty r.fits.2
      ∙ ty.outs-Arrow (domain_of c.parameters) c.result) (ty.outs-Named id) r.below

  pub small_is : (v : Value) → HasV k S v (small_type k) → (n : ℤ) × (out-Value v ≡ Value-F.Small n)
  small_is v h = go (out-Value v) refl
    where
      go : (y : ValueKind) → out-Value v ≡ y → (n : ℤ) × (out-Value v ≡ Value-F.Small n)
      go (Value-F.Small n) e = (n, e)
      go (Value-F.Large n) e =
          absurd (all.small_large
          (sym (kinded v k.built_in.small h (inl refl) (Value-F.Large n) e)))
      go (Value-F.Truth n) e =
          absurd (all.small_truth
          (sym (kinded v k.built_in.small h (inl refl) (Value-F.Truth n) e)))
      go (Value-F.Text n) e =
          absurd (all.small_text (sym (kinded v k.built_in.small h (inl refl) (Value-F.Text n) e)))
      go (Value-F.Range n m) e =
          absurd (all.small_range
          (sym (kinded v k.built_in.small h (inl refl) (Value-F.Range n m) e)))
      go (Value-F.Tuple vs) e = absurd (kinded v k.built_in.small h (inl refl) (Value-F.Tuple vs) e)
      go (Value-F.Object j b) e =
          absurd (kinded v k.built_in.small h (inl refl) (Value-F.Object j b) e)
      go (Value-F.Array E b n) e =
          absurd (kinded v k.built_in.small h (inl refl) (Value-F.Array E b n) e)
      go (Value-F.Function c) e =
          absurd (kinded v k.built_in.small h (inl refl) (Value-F.Function c) e)

  abbrev in_truth : IsBuiltIn k k.built_in.truth
  in_truth = inr (inr (inr (inl refl)))

  pub truth_is : (v : Value) → HasV k S v (truth_type k)
      → (b : Bool) × (out-Value v ≡ Value-F.Truth b)
  truth_is v h = go (out-Value v) refl
    where
      go : (y : ValueKind) → out-Value v ≡ y → (b : Bool) × (out-Value v ≡ Value-F.Truth b)
      go (Value-F.Truth n) e = (n, e)
      go (Value-F.Small n) e =
          absurd (all.small_truth (kinded v k.built_in.truth h in_truth (Value-F.Small n) e))
      go (Value-F.Large n) e =
          absurd (all.truth_large (sym (kinded v k.built_in.truth h in_truth (Value-F.Large n) e)))
      go (Value-F.Text n) e =
          absurd (all.truth_text (sym (kinded v k.built_in.truth h in_truth (Value-F.Text n) e)))
      go (Value-F.Range n m) e =
          absurd (all.truth_range
          (sym (kinded v k.built_in.truth h in_truth (Value-F.Range n m) e)))
      go (Value-F.Tuple vs) e = absurd (kinded v k.built_in.truth h in_truth (Value-F.Tuple vs) e)
      go (Value-F.Object j b) e =
          absurd (kinded v k.built_in.truth h in_truth (Value-F.Object j b) e)
      go (Value-F.Array E b n) e =
          absurd (kinded v k.built_in.truth h in_truth (Value-F.Array E b n) e)
      go (Value-F.Function c) e =
          absurd (kinded v k.built_in.truth h in_truth (Value-F.Function c) e)

  abbrev in_range : IsBuiltIn k k.built_in.range
  in_range = inr (inr (inr (inr refl)))

  pub large_is : (v : Value) → HasV k S v (Named k.built_in.large)
      → (n : ℤ) × (out-Value v ≡ Value-F.Large n)
  large_is v h = go (out-Value v) refl
    where
      go : (y : ValueKind) → out-Value v ≡ y → (n : ℤ) × (out-Value v ≡ Value-F.Large n)
      go (Value-F.Large n) e = (n, e)
      go (Value-F.Small n) e =
          absurd (all.small_large
          (kinded v k.built_in.large h (inr (inl refl)) (Value-F.Small n) e))
      go (Value-F.Truth b) e =
          absurd (all.truth_large
          (kinded v k.built_in.large h (inr (inl refl)) (Value-F.Truth b) e))
      go (Value-F.Text s) e =
          absurd (all.large_text
          (sym (kinded v k.built_in.large h (inr (inl refl)) (Value-F.Text s) e)))
      go (Value-F.Range n m) e =
          absurd (all.range_large
          (kinded v k.built_in.large h (inr (inl refl)) (Value-F.Range n m) e))
      go (Value-F.Tuple vs) e =
          absurd (kinded v k.built_in.large h (inr (inl refl)) (Value-F.Tuple vs) e)
      go (Value-F.Object j b) e =
          absurd (kinded v k.built_in.large h (inr (inl refl)) (Value-F.Object j b) e)
      go (Value-F.Array E b n) e =
          absurd (kinded v k.built_in.large h (inr (inl refl)) (Value-F.Array E b n) e)
      go (Value-F.Function c) e =
          absurd (kinded v k.built_in.large h (inr (inl refl)) (Value-F.Function c) e)

  pub text_is : (v : Value) → HasV k S v (Named k.built_in.text)
      → (s : List ℕ) × (out-Value v ≡ Value-F.Text s)
  text_is v h = go (out-Value v) refl
    where
      go : (y : ValueKind) → out-Value v ≡ y → (s : List ℕ) × (out-Value v ≡ Value-F.Text s)
      go (Value-F.Text s) e = (s, e)
      go (Value-F.Small n) e =
          absurd (all.small_text
          (kinded v k.built_in.text h (inr (inr (inl refl))) (Value-F.Small n) e))
      go (Value-F.Large n) e =
          absurd (all.large_text
          (kinded v k.built_in.text h (inr (inr (inl refl))) (Value-F.Large n) e))
      go (Value-F.Truth b) e =
          absurd (all.truth_text
          (kinded v k.built_in.text h (inr (inr (inl refl))) (Value-F.Truth b) e))
      go (Value-F.Range n m) e =
          absurd (all.range_text
          (kinded v k.built_in.text h (inr (inr (inl refl))) (Value-F.Range n m) e))
      go (Value-F.Tuple vs) e =
          absurd (kinded v k.built_in.text h (inr (inr (inl refl))) (Value-F.Tuple vs) e)
      go (Value-F.Object j b) e =
          absurd (kinded v k.built_in.text h (inr (inr (inl refl))) (Value-F.Object j b) e)
      go (Value-F.Array E b n) e =
          absurd (kinded v k.built_in.text h (inr (inr (inl refl))) (Value-F.Array E b n) e)
      go (Value-F.Function c) e =
          absurd (kinded v k.built_in.text h (inr (inr (inl refl))) (Value-F.Function c) e)

  pub range_is : (v : Value) → HasV k S v (Named k.built_in.range)
      → (n : ℤ) × (m : ℕ) × (out-Value v ≡ Value-F.Range n m)
  range_is v h = go (out-Value v) refl
    where
      go : (y : ValueKind) → out-Value v ≡ y → (n : ℤ) × (m : ℕ) × (out-Value v ≡ Value-F.Range n m)
      go (Value-F.Range n m) e = (n, m, e)
      go (Value-F.Small n) e =
          absurd (all.small_range (kinded v k.built_in.range h in_range (Value-F.Small n) e))
      go (Value-F.Large n) e =
          absurd (all.range_large (sym (kinded v k.built_in.range h in_range (Value-F.Large n) e)))
      go (Value-F.Text n) e =
          absurd (all.range_text (sym (kinded v k.built_in.range h in_range (Value-F.Text n) e)))
      go (Value-F.Truth n) e =
          absurd (all.truth_range (kinded v k.built_in.range h in_range (Value-F.Truth n) e))
      go (Value-F.Tuple vs) e = absurd (kinded v k.built_in.range h in_range (Value-F.Tuple vs) e)
      go (Value-F.Object j b) e =
          absurd (kinded v k.built_in.range h in_range (Value-F.Object j b) e)
      go (Value-F.Array E b n) e =
          absurd (kinded v k.built_in.range h in_range (Value-F.Array E b n) e)
      go (Value-F.Function c) e =
          absurd (kinded v k.built_in.range h in_range (Value-F.Function c) e)

  -- a named type is below no arrow, array or tuple, and those are below no named one
  named_not : (n : TypeId) (own T : Ty) (b : Ty-F Ty) → own ≡ Named n → out-Ty T ≡ b → Below k own T
      → Shape k (Ty-F.Named n) b
  named_not n own T b e q h =
      shape_at k o S opens own T (Ty-F.Named n) b (ap out-Ty e ∙ ty.outs-Named n) q h

  pub tuple_is : (v : Value) (Ts : List Ty) → HasV k S v (Tuple Ts)
      → (vs : List Value) × (out-Value v ≡ Value-F.Tuple vs) × HasVs k S vs Ts
  tuple_is v Ts h = go (out-Value v) refl
    where
      go : (y : ValueKind) → out-Value v ≡ y
          → (vs : List Value) × (out-Value v ≡ Value-F.Tuple vs) × HasVs k S vs Ts
      go (Value-F.Small n) e =
          let r = rule_v k S e h
          in absurd
          (named_not k.built_in.small r.own (Tuple Ts) (Ty-F.Tuple Ts) r.fits.0 (ty.outs-Tuple Ts)
          r.below)
      go (Value-F.Large n) e =
          let r = rule_v k S e h
          in absurd
          (named_not k.built_in.large r.own (Tuple Ts) (Ty-F.Tuple Ts) r.fits.0 (ty.outs-Tuple Ts)
          r.below)
      go (Value-F.Truth n) e =
          let r = rule_v k S e h
          in absurd
          (named_not k.built_in.truth r.own (Tuple Ts) (Ty-F.Tuple Ts) r.fits (ty.outs-Tuple Ts)
          r.below)
      go (Value-F.Text n) e =
          let r = rule_v k S e h
          in absurd
          (named_not k.built_in.text r.own (Tuple Ts) (Ty-F.Tuple Ts) r.fits (ty.outs-Tuple Ts)
          r.below)
      go (Value-F.Range n m) e =
          let r = rule_v k S e h
          in absurd
          (named_not k.built_in.range r.own (Tuple Ts) (Ty-F.Tuple Ts) r.fits.0 (ty.outs-Tuple Ts)
          r.below)
      go (Value-F.Object j base) e =
          let r = rule_v k S e h
          in absurd
          (named_not j r.own (Tuple Ts) (Ty-F.Tuple Ts) r.fits.1 (ty.outs-Tuple Ts) r.below)
      go (Value-F.Tuple vs) e = (
        vs,
        e,
        let r = rule_v k S e h
            in sub_vs k o S r.ws Ts r.values
            (shape_at k o S opens r.own (Tuple Ts) (Ty-F.Tuple r.ws) (Ty-F.Tuple Ts)
            (ap out-Ty r.fits ∙ ty.outs-Tuple r.ws) (ty.outs-Tuple Ts) r.below),
      )
      go (Value-F.Array E base n) e =
          let r = rule_v k S e h
          in absurd
          (shape_at k o S opens r.own (Tuple Ts) (Ty-F.Array E) (Ty-F.Tuple Ts) (ap out-Ty r.fits.1
          ∙ ty.outs-Array E) (ty.outs-Tuple Ts) r.below)
      go (Value-F.Function c) e =
          let r = rule_v k S e h
          in absurd
          (shape_at k o S opens r.own (Tuple Ts) (Ty-F.Arrow (domain_of c.parameters) c.result)
          (Ty-F.Tuple Ts) (ap out-Ty r.fits.2
          ∙ ty.outs-Arrow (domain_of c.parameters) c.result) (ty.outs-Tuple Ts) r.below)

  pub array_is : (v : Value) (A : Ty) → HasV k S v (Array A)
      → (E : Ty) × (base : Loc) × (n : ℕ) × (out-Value v ≡ Value-F.Array E base n)
  array_is v A h = go (out-Value v) refl
    where
      go : (y : ValueKind) → out-Value v ≡ y
          → (E : Ty) × (base : Loc) × (n : ℕ) × (out-Value v ≡ Value-F.Array E base n)
      go (Value-F.Small n) e =
          let r = rule_v k S e h
          in absurd
          (named_not k.built_in.small r.own (Array A) (Ty-F.Array A) r.fits.0 (ty.outs-Array A)
          r.below)
      go (Value-F.Large n) e =
          let r = rule_v k S e h
          in absurd
          (named_not k.built_in.large r.own (Array A) (Ty-F.Array A) r.fits.0 (ty.outs-Array A)
          r.below)
      go (Value-F.Truth n) e =
          let r = rule_v k S e h
          in absurd
          (named_not k.built_in.truth r.own (Array A) (Ty-F.Array A) r.fits (ty.outs-Array A)
          r.below)
      go (Value-F.Text n) e =
          let r = rule_v k S e h
          in absurd
          (named_not k.built_in.text r.own (Array A) (Ty-F.Array A) r.fits (ty.outs-Array A)
          r.below)
      go (Value-F.Range n m) e =
          let r = rule_v k S e h
          in absurd
          (named_not k.built_in.range r.own (Array A) (Ty-F.Array A) r.fits.0 (ty.outs-Array A)
          r.below)
      go (Value-F.Object j base) e =
          let r = rule_v k S e h
          in absurd (named_not j r.own (Array A) (Ty-F.Array A) r.fits.1 (ty.outs-Array A) r.below)
      go (Value-F.Tuple vs) e =
          let r = rule_v k S e h
          in absurd
          (shape_at k o S opens r.own (Array A) (Ty-F.Tuple r.ws) (Ty-F.Array A) (ap out-Ty r.fits
          ∙ ty.outs-Tuple r.ws) (ty.outs-Array A) r.below)
      go (Value-F.Array E base n) e = (E, base, n, e)
      go (Value-F.Function c) e =
          let r = rule_v k S e h
          in absurd
          (shape_at k o S opens r.own (Array A) (Ty-F.Arrow (domain_of c.parameters) c.result)
          (Ty-F.Array A) (ap out-Ty r.fits.2
          ∙ ty.outs-Arrow (domain_of c.parameters) c.result) (ty.outs-Array A) r.below)

  pub function_is : (v : Value) (A R : Ty) → HasV k S v (Arrow A R)
      → (c : Closure) × (out-Value v ≡ Value-F.Function c) × Below k A (domain_of c.parameters)
  function_is v A R h = go (out-Value v) refl
    where
      go : (y : ValueKind) → out-Value v ≡ y
          → (c : Closure) × (out-Value v ≡ Value-F.Function c) × Below k A (domain_of c.parameters)
      go (Value-F.Small n) e =
          let r = rule_v k S e h
          in absurd
          (named_not k.built_in.small r.own (Arrow A R) (Ty-F.Arrow A R) r.fits.0
          (ty.outs-Arrow A R) r.below)
      go (Value-F.Large n) e =
          let r = rule_v k S e h
          in absurd
          (named_not k.built_in.large r.own (Arrow A R) (Ty-F.Arrow A R) r.fits.0
          (ty.outs-Arrow A R) r.below)
      go (Value-F.Truth n) e =
          let r = rule_v k S e h
          in absurd
          (named_not k.built_in.truth r.own (Arrow A R) (Ty-F.Arrow A R) r.fits (ty.outs-Arrow A R)
          r.below)
      go (Value-F.Text n) e =
          let r = rule_v k S e h
          in absurd
          (named_not k.built_in.text r.own (Arrow A R) (Ty-F.Arrow A R) r.fits (ty.outs-Arrow A R)
          r.below)
      go (Value-F.Range n m) e =
          let r = rule_v k S e h
          in absurd
          (named_not k.built_in.range r.own (Arrow A R) (Ty-F.Arrow A R) r.fits.0
          (ty.outs-Arrow A R) r.below)
      go (Value-F.Object j base) e =
          let r = rule_v k S e h
          in absurd
          (named_not j r.own (Arrow A R) (Ty-F.Arrow A R) r.fits.1 (ty.outs-Arrow A R) r.below)
      go (Value-F.Tuple vs) e =
          let r = rule_v k S e h
          in absurd
          (shape_at k o S opens r.own (Arrow A R) (Ty-F.Tuple r.ws) (Ty-F.Arrow A R)
          (ap out-Ty r.fits ∙ ty.outs-Tuple r.ws) (ty.outs-Arrow A R) r.below)
      go (Value-F.Array E base n) e =
          let r = rule_v k S e h
          in absurd
          (shape_at k o S opens r.own (Arrow A R) (Ty-F.Array E) (Ty-F.Arrow A R)
          (ap out-Ty r.fits.1 ∙ ty.outs-Array E) (ty.outs-Arrow A R) r.below)
      go (Value-F.Function c) e = (
        c,
        e,
        let r = rule_v k S e h
            in (shape_at k o S opens r.own (Arrow A R)
            (Ty-F.Arrow (domain_of c.parameters) c.result) (Ty-F.Arrow A R) (ap out-Ty r.fits.2
            ∙ ty.outs-Arrow (domain_of c.parameters) c.result) (ty.outs-Arrow A R) r.below).0,
      )

  pub object_is : (v : Value) (id : TypeId) (f : NameId) (A : Ty) → HasV k S v (Named id)
      → FieldOf k id f A → (j : TypeId) × (base : Loc) × (out-Value v ≡ Value-F.Object j base)
  object_is v id f A h i = go (out-Value v) refl
    where
      go : (y : ValueKind) → out-Value v ≡ y
          → (j : TypeId) × (base : Loc) × (out-Value v ≡ Value-F.Object j base)
      go (Value-F.Object j base) e = (j, base, e)
      go (Value-F.Small n) e =
          let r = rule_v k S e h
          in absurd
          (all.fieldless k.built_in.small id f A (inl refl)
          (under_of k (subst (λ X. Below k X (Named id)) r.fits.0 r.below)) i)
      go (Value-F.Large n) e =
          let r = rule_v k S e h
          in absurd
          (all.fieldless k.built_in.large id f A (inr (inl refl))
          (under_of k (subst (λ X. Below k X (Named id)) r.fits.0 r.below)) i)
      go (Value-F.Text n) e =
          let r = rule_v k S e h
          in absurd
          (all.fieldless k.built_in.text id f A (inr (inr (inl refl)))
          (under_of k (subst (λ X. Below k X (Named id)) r.fits r.below)) i)
      go (Value-F.Truth n) e =
          let r = rule_v k S e h
          in absurd
          (all.fieldless k.built_in.truth id f A in_truth
          (under_of k (subst (λ X. Below k X (Named id)) r.fits r.below)) i)
      go (Value-F.Range n m) e =
          let r = rule_v k S e h
          in absurd
          (all.fieldless k.built_in.range id f A in_range
          (under_of k (subst (λ X. Below k X (Named id)) r.fits.0 r.below)) i)
      go (Value-F.Tuple vs) e =
          let r = rule_v k S e h
          in absurd
          (shape_at k o S opens r.own (Named id) (Ty-F.Tuple r.ws) (Ty-F.Named id) (ap out-Ty r.fits
          ∙ ty.outs-Tuple r.ws) (ty.outs-Named id) r.below)
      go (Value-F.Array E base n) e =
          let r = rule_v k S e h
          in absurd
          (shape_at k o S opens r.own (Named id) (Ty-F.Array E) (Ty-F.Named id) (ap out-Ty r.fits.1
          ∙ ty.outs-Array E) (ty.outs-Named id) r.below)
      go (Value-F.Function c) e = let r = rule_v k S e h in
          absurd (shape_at k o S opens r.own (Named id)
          (Ty-F.Arrow (domain_of c.parameters) c.result) (Ty-F.Named id) (ap out-Ty r.fits.2
          ∙ ty.outs-Arrow (domain_of c.parameters) c.result) (ty.outs-Named id) r.below)

  -- what is below `Exception` is an object
  pub exception_is : (v : Value) → HasV k S v (thrown_type k)
      → (j : TypeId) × (base : Loc) × (out-Value v ≡ Value-F.Object j base)
  exception_is v h = go (out-Value v) refl
    where
      X : Ty
      X = thrown_type k

      no_leaf : (b : TypeId) (own : Ty) → IsBuiltIn k b → own ≡ Named b → Below k own X → ⊥
      no_leaf b own i e w = all.unthrown b i (under_of k (subst (λ A. Below k A X) e w))

      go : (y : ValueKind) → out-Value v ≡ y
          → (j : TypeId) × (base : Loc) × (out-Value v ≡ Value-F.Object j base)
      go (Value-F.Object j base) e = (j, base, e)
      go (Value-F.Small n) e =
          let r = rule_v k S e h
          in absurd (no_leaf k.built_in.small r.own (inl refl) r.fits.0 r.below)
      go (Value-F.Large n) e =
          let r = rule_v k S e h
          in absurd (no_leaf k.built_in.large r.own (inr (inl refl)) r.fits.0 r.below)
      go (Value-F.Text n) e =
          let r = rule_v k S e h
          in absurd (no_leaf k.built_in.text r.own (inr (inr (inl refl))) r.fits r.below)
      go (Value-F.Truth n) e =
          let r = rule_v k S e h in absurd (no_leaf k.built_in.truth r.own in_truth r.fits r.below)
      go (Value-F.Range n m) e =
          let r = rule_v k S e h
          in absurd (no_leaf k.built_in.range r.own in_range r.fits.0 r.below)
      go (Value-F.Tuple vs) e =
          let r = rule_v k S e h
          in absurd
          (shape_at k o S opens r.own X (Ty-F.Tuple r.ws) (Ty-F.Named k.built_in.exception)
          (ap out-Ty r.fits ∙ ty.outs-Tuple r.ws) (ty.outs-Named k.built_in.exception) r.below)
      go (Value-F.Array E base n) e = let r = rule_v k S e h in
          absurd (shape_at k o S opens r.own X (Ty-F.Array E) (Ty-F.Named k.built_in.exception)
          (ap out-Ty r.fits.1
          ∙ ty.outs-Array E) (ty.outs-Named k.built_in.exception) r.below)
      go (Value-F.Function c) e = let r = rule_v k S e h in
          absurd (shape_at k o S opens r.own X (Ty-F.Arrow (domain_of c.parameters) c.result)
          (Ty-F.Named k.built_in.exception) (ap out-Ty r.fits.2
          ∙ ty.outs-Arrow (domain_of c.parameters) c.result)
          (ty.outs-Named k.built_in.exception) r.below)

  paired_is : (xs : List (ℕ × Ty)) (vs : List Value) → HasVs k S vs (map (λ (x : ℕ × Ty). x.1) xs)
      → (hs : List (ℕ × Value)) × (paired xs vs ≡ Some hs)
  paired_is [] [] h = ([], refl)
  paired_is [] (v ∷ vs) h = elim h [ ]
  paired_is (x ∷ xs) [] h = elim h [ ]
  paired_is (x ∷ xs) (v ∷ vs) (vs1 h hs) =
      let i = paired_is xs vs hs
      in ((x.0, v) ∷ i.0, ap (option_map (λ (us : List (ℕ × Value)). (x.0, v) ∷ us)) i.1)

  pub bound_is : (xs : List (ℕ × Ty)) (v : Value) → HasV k S v (domain_of xs)
      → (hs : List (ℕ × Value)) × (bound_to xs v ≡ Some hs)
  bound_is [] v h =
      let t = tuple_is v [] h in let i = paired_is [] t.0 t.2
      in (i.0, ap (parts_paired []) t.1 ∙ i.1)
  bound_is (x ∷ []) v h = ((x.0, v) ∷ [], refl)
  bound_is (x ∷ y ∷ xs) v h =
      let t = tuple_is v (map (λ (x : ℕ × Ty). x.1) (x ∷ y ∷ xs)) h
      in let i = paired_is (x ∷ y ∷ xs) t.0 t.2 in (i.0, ap (parts_paired (x ∷ y ∷ xs)) t.1 ∙ i.1)
