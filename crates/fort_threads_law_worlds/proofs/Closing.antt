-- Attempts whose inner runs do alike.
use Rattle.std.proofs.Common.{◌≡◌, ℕ, None, refl, ap, sym, ◌∙◌, inl, inr}
use Rattle.fort_machine.specs.Cells.{Cell, given_back, taken_away}
use Rattle.fort_machine.specs.Effects.{idle}
use Rattle.fort_threads_law_worlds.specs.Worlds.{unused, for_all, World}
use Rattle.fort_threads_law_worlds.specs.Effects.{DoAlike}
use Rattle.fort_threads_law_worlds.specs.Laws.{CompletedAlike, FailedAlike, AbortedAlike}
use Rattle.fort_threads_law_worlds.proofs.Following.{ForAll, it_is, it_isnt, is_it, Used, it_is_not, it_is_used, is_used, open_later}
use Rattle.fort_threads_law_worlds.proofs.Together.{Spared}

-- nothing is done alike
pub idle_alike : (w : World) → DoAlike w w idle idle
idle_alike w = record {
  same = λ l e. refl;
  newly_made = λ l e q. let z : for_all ≡ unused = sym e ∙ q in absurd cc;
  nothing_else = λ l n. inl refl;
  lasting = λ l e. refl;
  output = refl;
  unended = λ l f q. (q, refl);
}

pub completed_alike : CompletedAlike
completed_alike w x d e h = record {
  same = h.same;
  newly_made = h.newly_made;
  nothing_else = h.nothing_else;
  lasting = h.lasting;
  output = h.output;
  unended = h.unended;
}

spared_back : (w : World) (l : ℕ) (c : Cell) → Spared w l c → Spared w l (given_back c)
spared_back w l c (inl e) = inl (ap given_back e)
spared_back w l c (inr h) = inr (h.0, ap given_back h.1, h.2)

pub spared_away : (w : World) (l : ℕ) (c : Cell) → Spared w l c → Spared w l (taken_away c)
spared_away w l c (inl e) = inl (ap taken_away e)
spared_away w l c (inr h) = inr (None, ap taken_away h.1, h.2)

pub failed_alike : FailedAlike
failed_alike w x d e h = record {
  same = λ l q. ap given_back (h.same l q);
  newly_made = λ l q u. let m = h.newly_made l q u in (m.0, ap given_back m.1);
  nothing_else = λ l n. spared_back w l (e.cells l) (h.nothing_else l n);
  lasting = λ l q. ap given_back (h.lasting l q);
  output = refl;
  unended = λ l f q. let z = h.unended l f q in (z.0, ap given_back z.1);
}

pub aborted_alike : AbortedAlike
aborted_alike spot w x d e a h = record {
  same = λ l q. ap taken_away (h.same l (open_later a l q));
  newly_made = λ l q u. let z : for_all ≡ unused = sym q ∙ u in absurd cc;
  nothing_else = λ l n. away l n (is_it (x.serves l));
  lasting = λ l q. ap taken_away (h.lasting l q);
  output = refl;
  unended = λ l f q. (q, ap taken_away (h.unended l f q).1);
}
  where
    away : (l : ℕ) → (w.serves l ≡ for_all → ⊥) → ForAll (x.serves l)
        → Spared w l (taken_away (e.cells l))
    away l n (it_isnt k) = spared_away w l (e.cells l) (h.nothing_else l k)
    away l n (it_is q) = go (is_used (w.serves l))
      where
        go : Used (w.serves l) → Spared w l (taken_away (e.cells l))
        go (it_is_used u) = absurd (n (sym (a.uses l u) ∙ q))
        go (it_is_not u) =
            let m = h.newly_made l q u in
            inr (None, ap taken_away (sym (h.same l q) ∙ m.1), inl u)
