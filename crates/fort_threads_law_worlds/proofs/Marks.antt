-- Marks at locations for terms of the component.
use Rattle.std.proofs.Common.{◌≡◌, ℕ, Bool, true, false, [], ◌∷◌, if◌then◌else◌, Option, Some, refl, ap, sym, ◌∙◌, ◌⊎◌, inl, inr}
use Rattle.fort_core.specs.declared.value.Value.{Value, Truth}
use Rattle.fort_machine.specs.Attempts.{AllAbove, Rising}
use Rattle.fort_machine.specs.Cells.{untouched, found, made}
use Rattle.fort_machine.specs.Marked.{Marks, In}
use Rattle.fort_threads_law_servers.specs.Roots.{Start}
use Rattle.fort_threads_law_worlds.specs.Worlds.{unused, for_all, is_for_all, World, HasNothing}
use Rattle.fort_threads_law_worlds.specs.Effects.{open_marks}
use Rattle.fort_threads_law_worlds.specs.Laws.{OpenMarks, MarksAreOpen}
use Rattle.fort_threads_law_worlds.proofs.Following.{ForAll, it_is, it_isnt, is_it, open_at, at_open, open_before, open_later}

module _ (w : World) where
  pub in_open : (l : ℕ) (v : Value) (ms : Marks) → In l v (open_marks w ms)
      → In l v ms × (w.serves l ≡ for_all)
  in_open l v [] h = absurd h
  in_open l v (m ∷ ms) h = go (is_for_all (w.serves m.0.0)) refl h (in_open l v ms)
    where
      deeper : In l v ms × (w.serves l ≡ for_all) → In l v (m ∷ ms) × (w.serves l ≡ for_all)
      deeper i = (inr i.0, i.1)

      go : (b : Bool) → is_for_all (w.serves m.0.0) ≡ b
          → In l v (if b then m ∷ open_marks w ms else open_marks w ms)
          → (In l v (open_marks w ms) → In l v ms × (w.serves l ≡ for_all))
          → In l v (m ∷ ms) × (w.serves l ≡ for_all)
      go true e (inl q) ih = (inl q, open_at w l (ap (λ x. is_for_all (w.serves x)) q.0 ∙ e))
      go true e (inr k) ih = deeper (ih k)
      go false e k ih = deeper (ih k)

  pub open_in : (l : ℕ) (v : Value) (ms : Marks) → In l v ms → w.serves l ≡ for_all
      → In l v (open_marks w ms)
  open_in l v [] h e = absurd h
  open_in l v (m ∷ ms) h e =
      go (is_for_all (w.serves m.0.0)) refl h (λ k. open_in l v ms k e)
    where
      go : (b : Bool) → is_for_all (w.serves m.0.0) ≡ b → In l v (m ∷ ms)
          → (In l v ms → In l v (open_marks w ms))
          → In l v (if b then m ∷ open_marks w ms else open_marks w ms)
      go true q (inl k) ih = inl k
      go true q (inr k) ih = inr (ih k)
      go false q (inl k) ih =
          let z : false ≡ true =
          sym q ∙ ap (λ x. is_for_all (w.serves x)) (sym k.0) ∙ at_open w l e in absurd cc
      go false q (inr k) ih = ih k

  above_open : (l : ℕ) (ms : Marks) → AllAbove l ms → AllAbove l (open_marks w ms)
  above_open l [] h = tt
  above_open l (m ∷ ms) h = go (is_for_all (w.serves m.0.0)) (above_open l ms h.1)
    where
      go : (b : Bool) → AllAbove l (open_marks w ms)
          → AllAbove l (if b then m ∷ open_marks w ms else open_marks w ms)
      go true ih = (h.0, ih)
      go false ih = ih

  pub open_rising : (ms : Marks) → Rising ms → Rising (open_marks w ms)
  open_rising [] h = tt
  open_rising (m ∷ ms) h = go (is_for_all (w.serves m.0.0)) (open_rising ms h.1)
    where
      go : (b : Bool) → Rising (open_marks w ms)
          → Rising (if b then m ∷ open_marks w ms else open_marks w ms)
      go true ih = (above_open m.0.0 ms h.0, ih)
      go false ih = ih

pub open_marks_read : OpenMarks
open_marks_read spot w x d e marks a h r rising = (
  record {
    were_read = λ l v i.
        let j = in_open w l v marks i in let k = r.were_read l v j.0 in
        (k.0, sym (h.same l (open_later a l j.1)) ∙ k.1);
    are_all = λ l v u q. all l v u q (is_it (x.serves l));
  },
  open_rising w marks rising,
)
  where
    all : (l : ℕ) (v : Value) (u : Option Value) → e.cells l ≡ found (Some v) u
        → ForAll (x.serves l) → In l v (open_marks w marks)
    all l v u q (it_isnt n) = other (h.nothing_else l n)
      where
        other : (e.cells l ≡ untouched)
            ⊎ ((o : Option Value) × (e.cells l ≡ made o) × HasNothing w l)
            → In l v (open_marks w marks)
        other (inl z) = let y : untouched ≡ found (Some v) u = sym z ∙ q in absurd cc
        other (inr z) = let y : made z.0 ≡ found (Some v) u = sym z.1 ∙ q in absurd cc
    all l v u q (it_is o) = go (open_before a l o)
      where
        is_found : d.cells l ≡ found (Some v) u
        is_found = h.same l o ∙ q

        go : (w.serves l ≡ for_all) ⊎ (w.serves l ≡ unused) → In l v (open_marks w marks)
        go (inl z) = open_in w l v marks (r.are_all l v u is_found) z
        go (inr z) =
            let k = h.newly_made l o z in
            let y : made k.0 ≡ found (Some v) u = sym k.1 ∙ is_found in absurd cc

watched : (m : Start) (w : World) (l : ℕ) (v : Value)
    → (w.serves l ≡ for_all) ⊎ ((l ≡ m.started) × ((x : Value) → Some v ≡ Some x → x ≡ Truth true))
    → (w.serves l ≡ for_all) ⊎ ((l ≡ m.started) × (v ≡ Truth true))
watched m w l v (inl e) = inl e
watched m w l v (inr e) = inr (e.0, e.1 v refl)

pub marks_are_open : MarksAreOpen
marks_are_open m w d marks r f l v i =
    let k = r.were_read l v i in watched m w l v (f l (Some v) k.0 k.1)
