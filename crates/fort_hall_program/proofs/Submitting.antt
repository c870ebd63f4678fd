-- A leg is submitted.
use Rattle.std.proofs.Common.{◌≡◌, ℕ, ◌≤◌, List, map, Option, Some, None, refl, ap, sym, ◌∙◌, subst}
use Rattle.std.specs.Prelude.{Result, Ok, Err, IfOk, IfSome}
use Rattle.fort_base.specs.declared.refusal.Memory.{Memory}
use Rattle.fort_core.specs.declared.program.Program.{Program}
use Rattle.fort_core.specs.declared.term.Term.{Term}
use Rattle.fort_machine.specs.Attempts.{goes}
use Rattle.fort_machine.specs.Effects.{Store, Effect, afterwards, both, FitsAll}
use Rattle.fort_machine.specs.Threads.{under}
use Rattle.fort_machine.proofs.Runs.{runs_fit}
use Rattle.fort_machine.proofs.WholeEffects.{afterwards_both}
use Rattle.fort_store_effects.specs.Again.{only_store, silent}
use Rattle.fort_store_effects.specs.Levels.{effect_of, levels_of, seen}
use Rattle.fort_store_effects.specs.declared.layers.Layers.{Layers}
use Rattle.fort_hall_machine.specs.Words.{OneMore}
use Rattle.fort_hall_law_books.specs.Books.{Origin, store_after}
use Rattle.fort_hall_law_books.specs.Puts.{IsPut}
use Rattle.fort_hall_law_books.proofs.Legs.{legs_run}
use Rattle.fort_hall_books.specs.Answers.{Appends, HasAnswered, Stays, Suits}
use Rattle.fort_hall_books.specs.Books.{did, origin_of, picks_of, store_of, IsKept, IsSame}
use Rattle.fort_hall_books.specs.declared.book.Book.{Book}
use Rattle.fort_hall_books.specs.declared.book.Entry.{Entry}
use Rattle.fort_hall_books.specs.declared.leg.Answer.{Answer}
use Rattle.fort_hall_books.specs.declared.leg.Answer.TheVariants.{Done, Stale}
use Rattle.fort_hall_books.specs.declared.leg.Cause.{Cause}
use Rattle.fort_hall_books.specs.declared.leg.Leg.{Leg}
use Rattle.fort_hall_program.specs.States.{HasAppended, IsAt, IsBookOf, StandsIn, pass_of}
use Rattle.fort_hall_program.specs.declared.book.TaskBook.{TaskBook}
use Rattle.fort_hall_program.proofs.Stores.{still_kept}

-- the store at hand suits a leg that suits the book
pub fits_here : (p : Program) (most : ℕ) (x : TaskBook) (leg : Leg) (d : Effect)
    → IsBookOf p most x → Suits x.book leg → d ≡ silent (effect_of leg.done)
    → IfSome x.at_hand (λ l. FitsAll d (seen (levels_of l)))
fits_here p most x leg d k suits is = go x.at_hand k.now
  where
    go : (o : Option Layers) → IfSome o (λ l. levels_of l ≡ only_store (store_of x.book))
        → IfSome o (λ l. FitsAll d (seen (levels_of l)))
    go None h = tt
    go (Some l) h =
        subst (λ v. FitsAll d (seen v)) (sym h)
        (subst (λ (e : Effect). FitsAll e (store_of x.book)) (sym is) suits.fits)

-- the store to which a book has come behind one leg more
pub store_behind : (x y : Book) (d : Effect) → origin_of y ≡ origin_of x → did y ≡ both (did x) d
    → FitsAll (did x) (origin_of x).store → FitsAll d (store_of x)
    → store_of y ≡ afterwards d (store_of x)
store_behind x y d same more fits then =
    ap (λ (o : Origin). afterwards (did y) o.store) same
    ∙ (ap (λ (e : Effect). afterwards e (origin_of x).store) more
    ∙ afterwards_both (did x) d (origin_of x).store fits then)

-- a silent effect is its own silent part
pub silent_is : (d e : Effect) → d ≡ silent e → d ≡ silent d
silent_is d e q = q ∙ sym (ap silent q)

-- the store at hand is a store alone
pub alone_here : (p : Program) (most : ℕ) (x : TaskBook) → IsBookOf p most x
    → IfSome x.at_hand (λ l. levels_of l ≡ only_store (seen (levels_of l)))
alone_here p most x k = go x.at_hand k.now
  where
    go : (o : Option Layers) → IfSome o (λ l. levels_of l ≡ only_store (store_of x.book))
        → IfSome o (λ l. levels_of l ≡ only_store (seen (levels_of l)))
    go None h = tt
    go (Some l) h = h ∙ ap only_store (sym (ap seen h))

-- a book that answered that a leg is stale
pub kept_still : (p : Program) (most : ℕ) (x y : TaskBook) → IsBookOf p most x → y.book ≡ x.book
    → y.at_hand ≡ x.at_hand → IsBookOf p most y
kept_still p most x y k same now =
    still_kept p most x y k same
    (subst (λ o. IfSome o (λ l. levels_of l ≡ only_store (store_of x.book))) (sym now) k.now)

-- what the book's legs did suits the store on which it began
did_fits : (p : Program) (most : ℕ) (x : TaskBook) → IsBookOf p most x
    → FitsAll (did x.book) (origin_of x.book).store
did_fits p most x k =
    let b = x.book in
    runs_fit (seen (levels_of b.view)) (picks_of b.entries) b.first (goes b.term) (did b)
    (legs_run p b.inner (seen (levels_of b.view)) b.first b.term (picks_of b.entries) (did b)
    k.kept.legs)

-- a book that appended a leg, which was done to the store at hand
pub kept_on : (p : Program) (most : ℕ) (x y : TaskBook) (b : Book) (leg : Leg) (pass : ℕ)
    (whole : Term) (d : Effect) → IsBookOf p most x → IsKept p b → IsSame x.book b
    → Appends leg pass whole x.book b → d ≡ silent (effect_of leg.done) → y.book ≡ b
    → IsAt d x.at_hand y.at_hand → IsBookOf p most y
kept_on p most x y b leg pass whole d k kept same appends is here at = record {
  kept = subst (IsKept p) (sym here) kept;
  within = subst (λ (c : Book). c.most ≤ most) (sym here)
      (subst (λ (c : ℕ). c ≤ most) (sym same.bound) k.within);
  stands = subst (λ (c : Book). StandsIn p (origin_of c)) (sym here)
      (subst (StandsIn p) (sym same.origin) k.stands);
  now = subst (λ (c : Book). IfSome y.at_hand (λ l. levels_of l ≡ only_store (store_of c)))
      (sym here) (go x.at_hand y.at_hand k.now at);
}
  where
    behind : store_of b ≡ afterwards d (store_of x.book)
    behind =
        store_behind x.book b (effect_of leg.done) same.origin appends.effect
        (did_fits p most x k) appends.suits.fits
        ∙ ap (λ (e : Effect). afterwards e (store_of x.book)) (sym is)

    go : (o n : Option Layers) → IfSome o (λ l. levels_of l ≡ only_store (store_of x.book))
        → IsAt d o n → IfSome n (λ l. levels_of l ≡ only_store (store_of b))
    go o None h a = tt
    go None (Some l) h a = absurd a
    go (Some before) (Some l) h a =
        a ∙ ap only_store (ap (λ v. afterwards d (seen v)) h ∙ sym behind)

-- a book for which memory was wanting
pub kept_stays : (p : Program) (most : ℕ) (x y : TaskBook) (b : Book) → IsBookOf p most x
    → IsKept p b → IsSame x.book b → Stays x.book b → y.book ≡ b → y.at_hand ≡ x.at_hand
    → IsBookOf p most y
kept_stays p most x y b k kept same stays here now = record {
  kept = subst (IsKept p) (sym here) kept;
  within = subst (λ (c : Book). c.most ≤ most) (sym here)
      (subst (λ (c : ℕ). c ≤ most) (sym same.bound) k.within);
  stands = subst (λ (c : Book). StandsIn p (origin_of c)) (sym here)
      (subst (StandsIn p) (sym same.origin) k.stands);
  now = subst (λ (c : Book). IfSome y.at_hand (λ l. levels_of l ≡ only_store (store_of c)))
      (sym here)
      (subst (λ o. IfSome o (λ l. levels_of l ≡ only_store (store_of b))) (sym now)
      (subst (λ (s : Store). IfSome x.at_hand (λ l. levels_of l ≡ only_store s)) (sym at) k.now));
}
  where
    at : store_of b ≡ store_of x.book
    at = λ i. store_after (same.origin i) (stays.effect i)

-- one entry more
pub one_more : (leg : Leg) (pass : ℕ) (whole : Term) (x b y : Book)
    → Appends leg pass whole x b → y ≡ b → OneMore pass_of pass x.entries y.entries
one_more leg pass whole x b y a here = (
  record { pass = pass; picks = map (under leg.path.0) leg.picks },
  refl,
  ap (λ (c : Book). c.entries) here ∙ a.entries,
)

-- no entry more, where memory was wanting
pub no_more : (pass : ℕ) (old new : List Entry) (r : Result Answer Memory) (e : Memory)
    → r ≡ Err e → new ≡ old → HasAppended pass old r new
no_more pass old new r e is same =
    subst (λ (z : Result Answer Memory). HasAppended pass old z new) (sym is) same

-- what a book answered, by its answer
pub has_done : (leg : Leg) (pass : ℕ) (whole : Term) (x y : Book) (a : Answer) (before : Term)
    → HasAnswered leg pass whole x (Ok a) y → a ≡ Done before → Appends leg pass whole x y
has_done leg pass whole x y a before h is =
    (subst (λ (z : Answer). HasAnswered leg pass whole x (Ok z) y) is h).0

pub has_stayed : (leg : Leg) (pass : ℕ) (whole : Term) (x y : Book) (a : Answer) (why : Cause)
    (back : Leg) → HasAnswered leg pass whole x (Ok a) y → a ≡ Stale why back → y ≡ x
has_stayed leg pass whole x y a why back h is =
    (subst (λ (z : Answer). HasAnswered leg pass whole x (Ok z) y) is h).2

-- the book's term with the leg's part put in
pub put_whole : (t t' part next next' : Term) (path path' : List ℕ)
    (r : Result (Option Term) Memory) → t ≡ t' → path ≡ path' → next ≡ next'
    → IfOk r (λ found. IfSome found (IsPut t path part next))
    → IfOk r (λ found. IfSome found (IsPut t' path' part next'))
put_whole t t' part next next' path path' r a b c h =
    subst (λ (n : Term). IfOk r (λ found. IfSome found (IsPut t' path' part n))) c
    (subst (λ ns. IfOk r (λ found. IfSome found (IsPut t' ns part next))) b
    (subst (λ (u : Term). IfOk r (λ found. IfSome found (IsPut u path part next))) a h))
