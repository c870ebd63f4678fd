-- What two stretches do alike, they do alike together.
use Rattle.std.proofs.Common.{◌≡◌, ℕ, Option, ◌++◌, refl, ap, sym, ◌∙◌, subst, ◌⊎◌, inl, inr}
use Rattle.fort_core.specs.declared.value.Value.{Value}
use Rattle.fort_machine.specs.Cells.{Cell, untouched, found, made, later, joined}
use Rattle.fort_threads_law_worlds.specs.Worlds.{Spot, unused, for_all, World, HasNothing, FollowsAt}
use Rattle.fort_threads_law_worlds.specs.Laws.{DoAlikeTogether}
use Rattle.fort_threads_law_worlds.proofs.Following.{open_before, open_later, nothing_before}

pub joined_made : (c : Cell) (v : Option Value) → joined c (made v) ≡ made v
joined_made untouched v = refl
joined_made (found r w) v = refl
joined_made (made w) v = refl

pub made_joined : (v : Option Value) (c : Cell)
    → (u : Option Value) × (joined (made v) c ≡ made u)
made_joined v untouched = (v, refl)
made_joined v (found r w) = (later v w, refl)
made_joined v (made w) = (w, refl)

-- a cell that is left alone or made, where there is nothing
abbrev pub Spared : World → ℕ → Cell → Type 0
Spared w l c = (c ≡ untouched) ⊎ ((v : Option Value) × (c ≡ made v) × HasNothing w l)

spared_both : (w : World) (l : ℕ) (c d : Cell) → Spared w l c → Spared w l d
    → Spared w l (joined c d)
spared_both w l c d (inl e) h = subst (Spared w l) (sym (ap (λ x. joined x d) e)) h
spared_both w l c d (inr h) k =
    let j = made_joined h.0 d in inr (j.0, ap (λ x. joined x d) h.1 ∙ j.1, h.2)

spared_before : {spot : Spot} {w x : World} → FollowsAt spot w x → (l : ℕ) (c : Cell)
    → Spared x l c → Spared w l c
spared_before a l c (inl e) = inl e
spared_before a l c (inr h) = inr (h.0, h.1, nothing_before a l h.2)

pub do_alike_together : DoAlikeTogether
do_alike_together spot w x y d1 d2 e1 e2 a b h k = record {
  same = λ l e. same_at l e (open_before b l e);
  newly_made = λ l e u. made_at l u (open_before b l e) e;
  nothing_else = λ l n.
      spared_both w l (e1.cells l) (e2.cells l) (h.nothing_else l (λ e. n (open_later b l e)))
      (spared_before a l (e2.cells l) (k.nothing_else l n));
  lasting = λ l e i. joined (h.lasting l e i) (k.lasting l (a.lasting l ∙ e) i);
  output = λ i. h.output i ++ k.output i;
  unended = λ l f q.
      let z = h.unended l f q in let y = k.unended l f z.0 in
      (y.0, λ i. joined (z.1 i) (y.1 i));
}
  where
    same_at : (l : ℕ) → y.serves l ≡ for_all
        → (x.serves l ≡ for_all) ⊎ (x.serves l ≡ unused)
        → joined (d1.cells l) (d2.cells l) ≡ joined (e1.cells l) (e2.cells l)
    same_at l e (inl q) = λ i. joined (h.same l q i) (k.same l e i)
    same_at l e (inr q) =
        let m = k.newly_made l e q in
        ap (joined (d1.cells l)) m.1 ∙ joined_made (d1.cells l) m.0
        ∙ sym (ap (joined (e1.cells l)) (sym (k.same l e) ∙ m.1) ∙ joined_made (e1.cells l) m.0)

    made_at : (l : ℕ) → w.serves l ≡ unused
        → (x.serves l ≡ for_all) ⊎ (x.serves l ≡ unused) → y.serves l ≡ for_all
        → (v : Option Value) × (joined (d1.cells l) (d2.cells l) ≡ made v)
    made_at l u (inl q) e =
        let m = h.newly_made l q u in let j = made_joined m.0 (d2.cells l) in
        (j.0, ap (λ c. joined c (d2.cells l)) m.1 ∙ j.1)
    made_at l u (inr q) e =
        let m = k.newly_made l e q in
        (m.0, ap (joined (d1.cells l)) m.1 ∙ joined_made (d1.cells l) m.0)
