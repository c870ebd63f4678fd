-- What a sleeping form watches.
use Rattle.std.proofs.Common.{◌≡◌, ℕ, zero, suc, ◌+◌, ◌≤◌, [], ◌∷◌, take, length, Some, refl, ap, sym, ◌∙◌, subst, inl, inr, arith}
use Rattle.std.specs.Prelude.{slice_get}
use Rattle.fort_base.specs.declared.ids.Loc.{Loc}
use Rattle.fort_core.specs.declared.value.Value.{Value}
use Rattle.fort_machine.specs.Effects.{Store}
use Rattle.fort_machine.specs.Marked.{Marks, In}
use Rattle.fort_hall_books.specs.Legs.{AllThere}

pub one_there : (s : Store) (ms : Marks) (i : ℕ) (m : Loc × Value) → slice_get ms i ≡ Some m
    → AllThere s ms → s m.0.0 ≡ Some m.1
one_there s [] i m e h = absurd cc
one_there s (x ∷ ms) zero m e h =
    let z : x ≡ m = cc
    in h m.0.0 m.1
    (inl (ap (λ (y : Loc × Value). y.0.0) (sym z), ap (λ (y : Loc × Value). y.1) (sym z)))
one_there s (x ∷ ms) (suc i) m e h = one_there s ms i m e (λ l v k. h l v (inr k))

more_there : (s : Store) (ms : Marks) (i : ℕ) (m : Loc × Value) → slice_get ms i ≡ Some m
    → AllThere s (take i ms) → s m.0.0 ≡ Some m.1 → AllThere s (take (suc i) ms)
more_there s [] i m e h k l v q = absurd cc
more_there s (x ∷ ms) zero m e h k l v (inl q) =
    let z : x ≡ m = cc
    in ap s (q.0 ∙ ap (λ (y : Loc × Value). y.0.0) z) ∙ k
    ∙ ap Some (ap (λ (y : Loc × Value). y.1) (sym z) ∙ sym q.1)
more_there s (x ∷ ms) zero m e h k l v (inr q) = absurd q
more_there s (x ∷ ms) (suc i) m e h k l v (inl q) = h l v (inl q)
more_there s (x ∷ ms) (suc i) m e h k l v (inr q) =
    more_there s ms i m e (λ a b r. h a b (inr r)) k l v q

pub one_more : (s : Store) (ms : Marks) (i : ℕ) (m : Loc × Value) → slice_get ms i ≡ Some m
    → AllThere s (take i ms) → s m.0.0 ≡ Some m.1 → AllThere s (take (i + 1) ms)
one_more s ms i m e h k =
    let next : suc i ≡ i + 1 = omega arith
    in subst (λ n. AllThere s (take n ms)) next (more_there s ms i m e h k)

take_all : (ms : Marks) (i : ℕ) → length ms ≤ i → take i ms ≡ ms
take_all [] zero n = refl
take_all [] (suc i) n = refl
take_all (m ∷ ms) zero n = let f : ⊥ = omega (arith, n) in absurd f
take_all (m ∷ ms) (suc i) n = ap (λ r. m ∷ r) (take_all ms i (omega (arith, n)))

pub all_there : (s : Store) (ms : Marks) (i : ℕ) → length ms ≤ i → AllThere s (take i ms)
    → AllThere s ms
all_there s ms i n h = subst (AllThere s) (take_all ms i n) h
