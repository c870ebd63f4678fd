-- What keeps a book.
use Rattle.std.proofs.Common.{◌≡◌, ℕ, ◌+◌, ◌≤◌, Bool, true, false, List, [], ◌∷◌, ◌++◌, map, Option, Some, None, refl, ap, sym, ◌∙◌, subst, append_assoc, arith}
use Rattle.std.specs.Prelude.{MatchOption}
use Rattle.std.proofs.lemmas.List.{append-nil}
use mathlib.Core.List.{IsPrefix}
use Rattle.fort_core.specs.declared.pick.Pick.{Pick}
use Rattle.fort_core.specs.declared.program.Program.{Program}
use Rattle.fort_core.specs.declared.term.Term.{Term}
use Rattle.fort_machine.specs.Attempts.{Sleeps, goes}
use Rattle.fort_machine.specs.Effects.{Store, Effect, both, idle}
use Rattle.fort_machine.specs.Ends.{has_stepped}
use Rattle.fort_machine.specs.Frames.{plug, trodden}
use Rattle.fort_machine.specs.Journals.{MakesWithinBounds}
use Rattle.fort_machine.specs.Marked.{Marks}
use Rattle.fort_machine.specs.Runs.{Runs}
use Rattle.fort_machine.specs.Threads.{under}
use Rattle.fort_store_effects.specs.Levels.{effect_of, levels_of, seen}
use Rattle.fort_store_effects.specs.declared.layer.Layer.{Layer}
use Rattle.fort_store_effects.specs.declared.layers.Layers.{Layers}
use Rattle.fort_walk_law_course.proofs.Bounds.{both_bounded}
use Rattle.fort_hall_law_books.specs.Books.{Origin}
use Rattle.fort_hall_law_books.specs.Legs.{Legs, no_leg}
use Rattle.fort_hall_law_books.specs.Puts.{IsPut}
use Rattle.fort_hall_law_books.specs.Taken.{IsStepped}
use Rattle.fort_hall_law_books.proofs.Books.{idle_bounded, output_grows}
use Rattle.fort_hall_law_books.proofs.Legs.{legs_run, legs_take_steps, legs_take_attempt}
use Rattle.fort_hall_books.specs.Answers.{IsAsleep, Suits}
use Rattle.fort_hall_books.specs.Books.{did, store_of, picks_of, IsKept, IsNew, IsClosed}
use Rattle.fort_hall_books.specs.Laws.{BookGrows, KeptIsBook}
use Rattle.fort_hall_books.specs.Legs.{Watches, IsTaken, steps, attempt, IsLegOf}
use Rattle.fort_hall_books.specs.declared.book.Book.{Book}
use Rattle.fort_hall_books.specs.declared.book.Closed.{Closed}
use Rattle.fort_hall_books.specs.declared.book.Entry.{Entry}
use Rattle.fort_hall_books.specs.declared.leg.Kind.{Kind}
use Rattle.fort_hall_books.specs.declared.leg.Kind.TheVariants as kind
use Rattle.fort_hall_books.specs.declared.leg.Leg.{Leg}

-- a book without a leg
pub begins : (p : Program) (x : Book) → did x ≡ idle → x.entries ≡ [] → x.term ≡ x.first
    → IsKept p x
begins p x done entries term = record {
  legs = no_leg (ap picks_of entries) (sym term) done;
  affords = subst (λ (d : Effect). d.cost ≤ x.most) (sym done) (omega arith);
  bounded = subst MakesWithinBounds (sym done) idle_bounded;
}

-- a new book
pub new_book : (inner : Bool) (view : Layers) (first : Term) (most : ℕ) (x : Book)
    → x.inner ≡ inner → x.view ≡ view → x.first ≡ first → x.most ≡ most → did x ≡ idle
    → x.entries ≡ [] → x.term ≡ first → IsNew inner view first most x
new_book inner view first most x a b c d done entries term = record {
  origin = λ i. record { inner = a i; store = seen (levels_of (b i)); first = c i };
  bound = d;
  entries = entries;
  effect = done;
  kept = λ p. begins p x done entries (term ∙ sym c);
}

-- what stands before the last of a list
pub but_last : (xs ys : List Entry) (x y : Entry) → xs ++ x ∷ [] ≡ ys ++ y ∷ [] → xs ≡ ys
but_last [] [] x y q = refl
but_last [] (z ∷ []) x y q = absurd cc
but_last [] (z ∷ w ∷ zs) x y q = absurd cc
but_last (z ∷ []) [] x y q = absurd cc
but_last (z ∷ w ∷ zs) [] x y q = absurd cc
but_last (a ∷ xs) (b ∷ ys) x y q =
    let first : a ≡ b = cc in
    let rest : xs ++ x ∷ [] ≡ ys ++ y ∷ [] = cc in
    let more : xs ≡ ys = but_last xs ys x y rest in
    ap (λ z. z ∷ xs) first ∙ ap (λ zs. b ∷ zs) more

not_nil : (xs : List Entry) (e : Entry) → xs ++ e ∷ [] ≡ [] → ⊥
not_nil [] e q = absurd cc
not_nil (x ∷ xs) e q = absurd cc

-- what was put at the end of a list is taken off it
pub popped : (xs new pushed : List Entry) (e : Entry) (r : Option Entry) → pushed ≡ xs ++ e ∷ []
    → MatchOption r ((pushed ≡ []) × (new ≡ [])) (λ last. pushed ≡ new ++ last ∷ []) → new ≡ xs
popped xs new pushed e None q h = absurd (not_nil xs e (sym q ∙ h.0))
popped xs new pushed e (Some last) q h = but_last new xs last e (sym h ∙ q)

-- picks of entries behind others
pub picks_behind : (xs ys : List Entry) → picks_of (xs ++ ys) ≡ picks_of xs ++ picks_of ys
picks_behind [] ys = refl
picks_behind (x ∷ xs) ys =
    ap (λ ps. x.picks ++ ps) (picks_behind xs ys)
    ∙ sym (append_assoc x.picks (picks_of xs) (picks_of ys))

pub one_behind : (xs : List Entry) (e : Entry) → picks_of (xs ++ e ∷ []) ≡ picks_of xs ++ e.picks
one_behind xs e =
    picks_behind xs (e ∷ []) ∙ ap (λ ps. picks_of xs ++ ps) (append-nil e.picks)

-- a form that was tried doesn't sleep
awake : (watched : Option Marks) (a : Term) (s : Store) → Watches watched a
    → (IsAsleep (kind.Attempt watched) s → ⊥) → Sleeps s a → ⊥
awake None a s w may h = w s h
awake (Some ms) a s w may h = may ((w s).0 h)

-- the legs of a book with one more
more_legs : (p : Program) (s : Store) (x : Book) (leg : Leg) (whole : Term) → IsKept p x
    → IsTaken p s leg → leg.inner ≡ x.inner → IsPut x.term leg.path.0 leg.part leg.term whole
    → has_stepped leg.part ≡ false
    → Suits x leg
    → Legs p x.inner (seen (levels_of x.view)) x.first
    (picks_of x.entries ++ map (under leg.path.0) leg.picks) whole
    (both (did x) (effect_of leg.done))
more_legs p s x leg whole b (steps k some l) inner put m may =
    let start = seen (levels_of x.view) in
    let d = did x in
    let e = effect_of leg.done in
    let own = subst (λ i. IsStepped p i s leg.part leg.picks
    (goes leg.term) e) inner l in
    let old = subst (λ u. Legs p x.inner start x.first (picks_of x.entries) u d) put.is_term b.legs in
    let new = legs_take_steps p x.inner start s x.first leg.part leg.term put.frames
    (picks_of x.entries) leg.picks d e old put.reached m some own may.fits in
    subst (λ u. Legs p x.inner start x.first (picks_of x.entries ++ map (under leg.path.0) leg.picks)
    u (both d e)) (sym put.is_new)
    (subst (λ ns. Legs p x.inner start x.first (picks_of x.entries ++ map (under ns) leg.picks)
    (plug (trodden put.frames) leg.term) (both d e)) put.is_path new)
more_legs p s x leg whole b (attempt watched form k l w) inner put m may =
    let start = seen (levels_of x.view) in
    let d = did x in
    let e = effect_of leg.done in
    let old = subst (λ u. Legs p x.inner start x.first (picks_of x.entries) u d) put.is_term b.legs in
    let new = legs_take_attempt p x.inner start s x.first leg.part form leg.term put.frames
    (picks_of x.entries) leg.picks d e old put.reached m l may.fits
    (awake watched form (store_of x) w
    (subst (λ y. IsAsleep y (store_of x) → ⊥) k may.wakes)) in
    subst (λ u. Legs p x.inner start x.first (picks_of x.entries ++ map (under leg.path.0) leg.picks)
    u (both d e)) (sym put.is_new)
    (subst (λ ns. Legs p x.inner start x.first (picks_of x.entries ++ map (under ns) leg.picks)
    (plug (trodden put.frames) leg.term) (both d e)) put.is_path new)

pub appended : (p : Program) (x y : Book) (leg : Leg) (whole : Term) (pass : ℕ)
    (picks : List Pick) → IsKept p x → IsLegOf p leg
    → IsPut x.term leg.path.0 leg.part leg.term whole → Suits x leg
    → y.inner ≡ x.inner → y.view ≡ x.view → y.first ≡ x.first → y.most ≡ x.most
    → picks ≡ map (under leg.path.0) leg.picks
    → y.entries ≡ x.entries ++ record { pass = pass; picks = picks } ∷ []
    → y.term ≡ whole → did y ≡ both (did x) (effect_of leg.done) → IsKept p y
appended p x y leg whole pass picks b l put may inner view first most own entries term done =
    let d = did x in
    let e = effect_of leg.done in
    let all : picks_of y.entries ≡ picks_of x.entries ++ map (under leg.path.0) leg.picks =
    ap picks_of entries ∙ one_behind x.entries (record { pass = pass; picks = picks })
    ∙ ap (λ ps. picks_of x.entries ++ ps) own in
    let legs = more_legs p l.store x leg whole b l.taken may.machine put l.unmarked may in
    record {
      legs =
          subst (λ i. Legs p i (seen (levels_of y.view)) y.first (picks_of y.entries) y.term (did y))
          (sym inner)
          (subst (λ v. Legs p x.inner (seen (levels_of v)) y.first (picks_of y.entries) y.term (did y))
          (sym view)
          (subst (λ t. Legs p x.inner (seen (levels_of x.view)) t (picks_of y.entries) y.term (did y))
          (sym first)
          (subst (λ ps. Legs p x.inner (seen (levels_of x.view)) x.first ps y.term (did y)) (sym all)
          (subst (λ u. Legs p x.inner (seen (levels_of x.view)) x.first
          (picks_of x.entries ++ map (under leg.path.0) leg.picks) u (did y)) (sym term)
          (subst (Legs p x.inner (seen (levels_of x.view)) x.first
          (picks_of x.entries ++ map (under leg.path.0) leg.picks) whole) (sym done) legs)))));
      affords = subst (λ (n : ℕ). (did y).cost ≤ n) (sym most)
          (subst (λ (made : Effect). made.cost ≤ x.most) (sym done) may.affords);
      bounded = subst MakesWithinBounds (sym done) (both_bounded d e b.bounded l.bounded);
    }

-- a book that stays as it is
pub stays_kept : (p : Program) (x y : Book) → IsKept p x → y.inner ≡ x.inner → y.view ≡ x.view
    → y.first ≡ x.first → y.most ≡ x.most → y.entries ≡ x.entries → y.term ≡ x.term
    → did y ≡ did x → IsKept p y
stays_kept p x y k inner view first most entries term done = record {
  legs =
      subst (λ i. Legs p i (seen (levels_of y.view)) y.first (picks_of y.entries) y.term (did y))
      (sym inner)
      (subst (λ v. Legs p x.inner (seen (levels_of v)) y.first (picks_of y.entries) y.term (did y))
      (sym view)
      (subst (λ t. Legs p x.inner (seen (levels_of x.view)) t (picks_of y.entries) y.term (did y))
      (sym first)
      (subst (λ es. Legs p x.inner (seen (levels_of x.view)) x.first (picks_of es) y.term (did y))
      (sym entries)
      (subst (λ u. Legs p x.inner (seen (levels_of x.view)) x.first (picks_of x.entries) u (did y))
      (sym term)
      (subst (Legs p x.inner (seen (levels_of x.view)) x.first (picks_of x.entries) x.term)
      (sym done) k.legs)))));
  affords = subst (λ (n : ℕ). (did y).cost ≤ n) (sym most)
      (subst (λ (d : Effect). d.cost ≤ x.most) (sym done) k.affords);
  bounded = subst MakesWithinBounds (sym done) k.bounded;
}

-- a book that is closed
pub closed : (p : Program) (x : Book) (c : Closed) → IsKept p x → c.view ≡ x.view
    → c.picks ≡ picks_of x.entries → c.term ≡ x.term → c.done ≡ x.done → IsClosed p x c
closed p x c k view picks term same = record {
  view = view;
  picks = picks;
  done = ap effect_of same;
  legs =
      subst (λ v. Legs p x.inner (seen (levels_of v)) x.first c.picks c.term (effect_of c.done))
      (sym view)
      (subst (λ ps. Legs p x.inner (seen (levels_of x.view)) x.first ps c.term (effect_of c.done))
      (sym picks)
      (subst (λ t. Legs p x.inner (seen (levels_of x.view)) x.first (picks_of x.entries) t
      (effect_of c.done)) (sym term)
      (subst (λ (l : Layer). Legs p x.inner (seen (levels_of x.view)) x.first
      (picks_of x.entries) x.term (effect_of l)) (sym same) k.legs)));
  affords = subst (λ (l : Layer). (effect_of l).cost ≤ x.most) (sym same) k.affords;
  bounded = subst (λ (l : Layer). MakesWithinBounds (effect_of l)) (sym same) k.bounded;
}

pub kept_is_book : KeptIsBook
kept_is_book p x k reached = record {
  reached = reached;
  runs = legs_run p x.inner (seen (levels_of x.view)) x.first x.term (picks_of x.entries) (did x)
      k.legs;
  bounded = k.bounded;
}

pub book_grows : BookGrows
book_grows p a b k n same prefix =
    let first = legs_run p a.inner (seen (levels_of a.view)) a.first a.term (picks_of a.entries) (did a)
    k.legs in
    let later = legs_run p b.inner (seen (levels_of b.view)) b.first b.term (picks_of b.entries) (did b)
    n.legs in
    let picks : picks_of b.entries ≡ picks_of a.entries ++ picks_of prefix.0 =
    ap picks_of (sym prefix.1) ∙ picks_behind a.entries prefix.0 in
    let here : Runs p a.inner true (seen (levels_of a.view))
    (picks_of a.entries ++ picks_of prefix.0) a.first (goes b.term) (did b) =
    subst (λ (o : Origin). Runs p o.inner
    true o.store (picks_of a.entries ++ picks_of prefix.0) o.first
    (goes b.term) (did b)) same
    (subst (λ ps. Runs p b.inner true (seen (levels_of b.view)) ps b.first
    (goes b.term) (did b)) picks later) in
    let grown = output_grows p a.inner (seen (levels_of a.view)) a.first (picks_of a.entries)
    (picks_of prefix.0) (goes a.term) (goes b.term) (did a) (did b) first here in
    (grown.0.output, sym (ap (λ (d : Effect). d.output) grown.1))
