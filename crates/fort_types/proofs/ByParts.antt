-- Induction over types: from the parts to the whole.
use Rattle.std.proofs.Common.{◌≡◌, ℕ, zero, suc, List, [], ◌∷◌, map, Some, sym, ap, ◌∙◌, subst}
use Rattle.std.specs.List.{slice_get}
use Rattle.fort_base.specs.declared.ty.Ty.{Ty, out-Ty, roll-Ty, out-roll-Ty, roll-out-Ty, ind-Ty, map-Ty}
use Rattle.fort_base.specs.declared.ty.Ty.TheOpen.{Ty-F}

-- of each in a list
abbrev pub Each : (Ty → Type 0) → List Ty → Type 0
Each P ts = (k : ℕ) (t : Ty) → slice_get ts k ≡ Some t → P t

-- of the parts of a layer
abbrev pub Parts : (Ty → Type 0) → Ty-F Ty → Type 0
Parts P (Ty-F.Tuple ts) = Each P ts
Parts P (Ty-F.Arrow a b) = P a × P b
Parts P (Ty-F.Array a) = P a
Parts P _ = Unit {0}

-- types with one layer are one
pub same_layers : (a b : Ty) → out-Ty a ≡ out-Ty b → a ≡ b
same_layers a b e = sym (roll-out-Ty a) ∙ ap roll-Ty e ∙ roll-out-Ty b

module _ (P : Ty → Type 0) where
  every : (es : List ((t : Ty) × P t)) → Each P (map (λ (e : (t : Ty) × P t). e.0) es)
  every [] k t e = absurd cc
  every (e ∷ es) zero t q = let r : e.0 ≡ t = cc in subst P r e.1
  every (e ∷ es) (suc k) t q = every es k t q

  parts : (y : Ty-F ((t : Ty) × P t)) → Parts P (map-Ty ((t : Ty) × P t) Ty (λ e. e.0) y)
  parts (Ty-F.Tuple es) = every es
  parts (Ty-F.Arrow a b) = (a.1, b.1)
  parts (Ty-F.Array a) = a.1
  parts Ty-F.Nothing = tt
  parts Ty-F.Any = tt
  parts (Ty-F.Named i) = tt

  pub by_parts : ((t : Ty) → Parts P (out-Ty t) → P t) → (t : Ty) → P t
  by_parts k =
      ind-Ty P (λ x y e. k (roll-Ty x)
      (subst (Parts P) (sym (out-roll-Ty x)) (subst (Parts P) e (parts y))))

  pub part_of : (t : Ty) (xs : List Ty) → Parts P (out-Ty t) → out-Ty t ≡ Ty-F.Tuple xs → Each P xs
  part_of t xs h e = subst (Parts P) e h

  pub sides_of : (t a b : Ty) → Parts P (out-Ty t) → out-Ty t ≡ Ty-F.Arrow a b → P a × P b
  sides_of t a b h e = subst (Parts P) e h
