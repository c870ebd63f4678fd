-- Books that go on.
use Rattle.std.proofs.Common.{◌≡◌, List, [], ◌∷◌, ◌++◌, map, refl, ap, sym, ◌∙◌, append_assoc}
use Rattle.std.proofs.lemmas.List.{map-append, append-nil}
use mathlib.Core.List.{IsPrefix}
use Rattle.fort_machine.specs.Effects.{Effect, both}
use Rattle.fort_store_effects.specs.Levels.{effect_of}
use Rattle.fort_hall_books.specs.Answers.{Stays}
use Rattle.fort_hall_books.specs.Books.{did}
use Rattle.fort_hall_books.specs.declared.book.Book.{Book}
use Rattle.fort_hall_law_plays.specs.Histories.{Given, entry_of, done_by}
use Rattle.fort_hall_law_plays.specs.Laws.{GoesOn}

pub done_append : (d : Effect) (gs hs : List Given)
    → done_by d (gs ++ hs) ≡ done_by (done_by d gs) hs
done_append d [] hs = refl
done_append d (g ∷ gs) hs = done_append (both d (effect_of g.leg.done)) gs hs

-- what was printed stays, first
pub printed_first : (d : Effect) (gs : List Given) → IsPrefix d.output (done_by d gs).output
printed_first d [] = ([], append-nil d.output)
printed_first d (g ∷ gs) =
    let e = effect_of g.leg.done in
    let more = printed_first (both d e) gs in
    (e.output ++ more.0, sym (append_assoc d.output e.output more.0) ∙ more.1)

pub prefix_as : (d e : Effect) (gs : List Given) → e ≡ done_by d gs → IsPrefix d.output e.output
prefix_as d e gs q =
    let first = printed_first d gs in
    (first.0, first.1 ∙ ap (λ (x : Effect). x.output) (sym q))

-- none of two lists has anything
none_first : (gs hs : List Given) → gs ++ hs ≡ [] → gs ≡ []
none_first [] hs e = refl
none_first (g ∷ gs) hs e = absurd cc

none_then : (gs hs : List Given) → gs ++ hs ≡ [] → hs ≡ []
none_then [] hs e = e
none_then (g ∷ gs) hs e = absurd cc

pub stays_same : (x : Book) → Stays x x
stays_same x = record { entries = refl; term = refl; effect = refl }

pub still : (x : Book) → GoesOn [] x x
still x = record {
  same = record { origin = refl; bound = refl };
  entries = sym (append-nil x.entries);
  effect = refl;
  output = ([], append-nil (did x).output);
  by_none = λ e. stays_same x;
}

pub goes_far : (gs hs : List Given) (x y z : Book) → GoesOn gs x y → GoesOn hs y z
    → GoesOn (gs ++ hs) x z
goes_far gs hs x y z a b =
    let effect : did z ≡ done_by (did x) (gs ++ hs) =
    b.effect ∙ ap (λ d. done_by d hs) a.effect ∙ sym (done_append (did x) gs hs) in
    record {
      same = record {
        origin = b.same.origin ∙ a.same.origin;
        bound = b.same.bound ∙ a.same.bound;
      };
      entries = b.entries ∙ ap (λ es. es ++ map entry_of hs) a.entries
          ∙ append_assoc x.entries (map entry_of gs) (map entry_of hs)
          ∙ ap (λ es. x.entries ++ es) (sym (map-append entry_of gs hs));
      effect = effect;
      output = prefix_as (did x) (did z) (gs ++ hs) effect;
      by_none = λ e.
          let s = a.by_none (none_first gs hs e) in
          let t = b.by_none (none_then gs hs e) in
          record {
            entries = t.entries ∙ s.entries;
            term = t.term ∙ s.term;
            effect = t.effect ∙ s.effect;
          };
    }
