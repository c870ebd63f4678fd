-- What a sleeping form watches.
use Rattle.std.proofs.Common.{◌≡◌, ℕ, zero, suc, ◌+◌, ◌≤◌, [], ◌∷◌, take, length, Some, refl, ap, sym, ◌∙◌, subst, inl, inr, arith}
use Rattle.std.specs.Prelude.{slice_get}
use Rattle.fort_base.specs.declared.ids.Loc.{Loc}
use Rattle.fort_core.specs.declared.term.Term.{Term, Asleep, out-Term}
use Rattle.fort_core.specs.declared.term.Term.TheOpen.{Term-F}
use Rattle.fort_core.specs.declared.term.Term.TheVariants.{outs-Asleep}
use Rattle.fort_core.specs.declared.value.Value.{Value}
use Rattle.fort_machine.specs.Effects.{Store}
use Rattle.fort_machine.specs.Marked.{Marks, In}
use Rattle.fort_machine.specs.Attempts.{Sleeps}

-- each of some marks has its value
abbrev pub AllThere : Store → Marks → Type 0
AllThere s ms = (l : ℕ) (v : Value) → In l v ms → s l ≡ Some v

pub one_there : (s : Store) (ms : Marks) (i : ℕ) (m : Loc × Value) → slice_get ms i ≡ Some m
    → AllThere s ms → s m.0.0 ≡ Some m.1
one_there s [] i m e h = absurd cc
one_there s (x ∷ ms) zero m e h =
    let z : x ≡ m = cc
    in h m.0.0 m.1
    (inl (ap (λ (y : Loc × Value). y.0.0) (sym z), ap (λ (y : Loc × Value). y.1) (sym z)))
one_there s (x ∷ ms) (suc i) m e h = one_there s ms i m e (λ l v k. h l v (inr k))

more_there : (s : Store) (ms : Marks) (i : ℕ) (m : Loc × Value) → slice_get ms i ≡ Some m
    → AllThere s (take i ms) → s m.0.0 ≡ Some m.1 → AllThere s (take (suc i) ms)
more_there s [] i m e h k l v q = absurd cc
more_there s (x ∷ ms) zero m e h k l v (inl q) =
    let z : x ≡ m = cc
    in ap s (q.0 ∙ ap (λ (y : Loc × Value). y.0.0) z) ∙ k
    ∙ ap Some (ap (λ (y : Loc × Value). y.1) (sym z) ∙ sym q.1)
more_there s (x ∷ ms) zero m e h k l v (inr q) = absurd q
more_there s (x ∷ ms) (suc i) m e h k l v (inl q) = h l v (inl q)
more_there s (x ∷ ms) (suc i) m e h k l v (inr q) =
    more_there s ms i m e (λ a b r. h a b (inr r)) k l v q

pub one_more : (s : Store) (ms : Marks) (i : ℕ) (m : Loc × Value) → slice_get ms i ≡ Some m
    → AllThere s (take i ms) → s m.0.0 ≡ Some m.1 → AllThere s (take (i + 1) ms)
one_more s ms i m e h k =
    let next : suc i ≡ i + 1 = omega arith
    in subst (λ n. AllThere s (take n ms)) next (more_there s ms i m e h k)

take_all : (ms : Marks) (i : ℕ) → length ms ≤ i → take i ms ≡ ms
take_all [] zero n = refl
take_all [] (suc i) n = refl
take_all (m ∷ ms) zero n = let f : ⊥ = omega (arith, n) in absurd f
take_all (m ∷ ms) (suc i) n = ap (λ r. m ∷ r) (take_all ms i (omega (arith, n)))

pub all_there : (s : Store) (ms : Marks) (i : ℕ) → length ms ≤ i → AllThere s (take i ms)
    → AllThere s ms
all_there s ms i n h = subst (AllThere s) (take_all ms i n) h

-- a sleeping form watches its marks
same_marks : (ms ns : Marks) (b d : Term) → Asleep ms b ≡ Asleep ns d → ms ≡ ns
same_marks ms ns b d e =
    let z : Term-F.Asleep ms b ≡ Term-F.Asleep ns d =
    sym (outs-Asleep ms b) ∙ ap out-Term e ∙ outs-Asleep ns d in cc

pub there_sleeps : (s : Store) (a : Term) (ms : Marks) (b : Term) → a ≡ Asleep ms b → AllThere s ms
    → Sleeps s a
there_sleeps s a ms b e h = record { marks = ms; body = b; is_asleep = e; unchanged = h }

pub sleeps_there : (s : Store) (a : Term) (ms : Marks) (b : Term) → a ≡ Asleep ms b → Sleeps s a
    → AllThere s ms
sleeps_there s a ms b e h =
    subst (AllThere s) (same_marks h.marks ms h.body b (sym h.is_asleep ∙ e)) h.unchanged
