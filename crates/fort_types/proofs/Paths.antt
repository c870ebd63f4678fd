-- Paths of `extends`, and the numbers of declared types that are apart.
use Rattle.std.proofs.Common.{◌≡◌, ℕ, ◌<◌, ◌⊎◌, inl, inr, length, refl, subst}
use Rattle.std.proofs.lemmas.Option.{slice_get_within}
use Rattle.fort_types.specs.Hierarchy.{DeclaredTypes, Extends, Leaf, Path, stop, along, DeclaredApart, excluded, leaf, lower, comprised, flip, Sound}

pub joined : (h : DeclaredTypes) {a b c : ℕ} → Path h a b → Path h b c → Path h a c
joined h stop q = q
joined h (along e p) q = along e (joined h p q)

-- the last step of a path
pub last_step : (h : DeclaredTypes) {a c : ℕ} → Path h a c
    → (a ≡ c) ⊎ ((y : ℕ) × Path h a y × Extends h y c)
last_step h stop = inl refl
last_step h (along {a = a} {b = b} {c = c} e p) =
    elim (last_step h p) as (λ _. (a ≡ c) ⊎ ((y : ℕ) × Path h a y × Extends h y c))
    [ inl q ↦ inr (a, stop, subst (λ z. Extends h a z) q e) | inr w ↦ inr (w.0, along e w.1, w.2) ]

-- nothing else is below an object or a leaf
pub to_leaf : (h : DeclaredTypes) → Sound h → (x a : ℕ) → Leaf h a → Path h x a → x ≡ a
to_leaf h s x a l p =
    elim (last_step h p) as (λ _. x ≡ a) [ inl q ↦ q | inr w ↦ absurd (s.only_traits w.0 a w.2 l) ]

-- two that are below each other are one
pub both_ways : (h : DeclaredTypes) → Sound h → (a b : ℕ) → Path h a b → Path h b a → a ≡ b
both_ways h s a b stop q = refl
both_ways h s a b (along {b = c} e p) q = absurd (s.acyclic a c e (joined h p q))

-- a path that ends in the hierarchy begins there, and one that begins there ends there
pub start_inside : (h : DeclaredTypes) (a b : ℕ) → Path h a b → b < length h → a < length h
start_inside h a b stop l = l
start_inside h a b (along e p) l = slice_get_within h a e.0 e.1

pub end_inside : (h : DeclaredTypes) (a b : ℕ) → Path h a b → a < length h → b < length h
end_inside h a b stop l = l
end_inside h a b (along {b = c} e p) l = end_inside h c b p e.3

-- two that are apart are the hierarchy's
pub both_inside : (h : DeclaredTypes) (a b : ℕ) → DeclaredApart h a b
    → (a < length h) × (b < length h)
both_inside h a b (excluded s t e) = (slice_get_within h a s.0 s.1, slice_get_within h b t.0 t.1)
both_inside h a b (leaf s l _ _) = (slice_get_within h a s.0 s.1, l)
both_inside h a b (lower {c = c} p q) =
    let r = both_inside h c b q in (start_inside h a c p r.0, r.1)
both_inside h a b (comprised u t l k) =
    (slice_get_within h a t.0 t.1, (both_inside h u b (k u l)).1)
both_inside h a b (flip q) = let r = both_inside h b a q in (r.1, r.0)
