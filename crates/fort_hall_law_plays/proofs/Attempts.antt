-- An attempt is opened in a term of a run, and once it has ended it is a leg.
use Rattle.std.proofs.Common.{◌≡◌, Bool, true, false, List, [], ◌∷◌, ◌++◌, map, refl, ap, sym, ◌∙◌, subst}
use Rattle.fort_core.specs.declared.form.Mode.{Mode}
use Rattle.fort_core.specs.declared.pick.Pick.{Pick, Attempt}
use Rattle.fort_core.specs.declared.program.Program.{Program}
use Rattle.fort_core.specs.declared.term.Term.{Term, out-Term}
use Rattle.fort_core.specs.declared.term.Term.TheOpen.{Term-F}
use Rattle.fort_core.specs.declared.value.Closure.{Closure}
use Rattle.fort_core.specs.declared.value.Value.{Value}
use Rattle.fort_machine.specs.Attempts.{Form, Ended, goes, aborts, Closes, completed, failed, gave_up, fell_asleep}
use Rattle.fort_machine.specs.Effects.{Store, Effect, FitsAll}
use Rattle.fort_machine.specs.Ends.{has_stepped, is_mark}
use Rattle.fort_machine.specs.Frames.{Frame, plug, road, passed, trodden}
use Rattle.fort_machine.specs.Journals.{MakesWithinBounds}
use Rattle.fort_machine.specs.Marked.{Bare}
use Rattle.fort_machine.specs.Proper.{Proper, Reached, by_run, in_attempt, at_first, Resting, resting, RestsUntouched}
use Rattle.fort_machine.specs.Runs.{path_to}
use Rattle.fort_machine.specs.Threads.{under, round_after}
use Rattle.fort_machine.specs.Written.{WrittenProgram}
use Rattle.fort_machine.proofs.Places.{ready_open}
use Rattle.fort_machine.proofs.ProperRuns.{enters_bare, form_rests, reached_is_proper, written_proper}
use Rattle.fort_machine.proofs.Properly.{plug_proper}
use Rattle.fort_machine.proofs.Ready.{form_ready}
use Rattle.fort_machine.proofs.Runs.{plug_append, closes_fit, runs_fit}
use Rattle.fort_store_effects.specs.Levels.{effect_of}
use Rattle.fort_store_effects.specs.declared.cell.Closing.TheVariants.{Completed, Failed, Aborted}
use Rattle.fort_walk_law_course.proofs.Bounds.{closing_bounded}
use Rattle.fort_hall_law_books.specs.Books.{Origin, IsBook}
use Rattle.fort_hall_law_books.specs.Taken.{IsTried}
use Rattle.fort_hall_law_books.proofs.Books.{finished_is_tried, submits_steps}
use Rattle.fort_hall_law_books.proofs.Legs.{legs_lift, legs_run}
use Rattle.fort_hall_books.specs.Books.{origin_of, did, store_of, picks_of, IsKept}
use Rattle.fort_hall_books.specs.Legs.{IsTaken, steps, attempt, IsLegOf}
use Rattle.fort_hall_books.specs.declared.book.Book.{Book}
use Rattle.fort_hall_books.specs.declared.leg.Leg.{Leg}
use Rattle.fort_hall_books.proofs.Books.{kept_is_book}
use Rattle.fort_hall_law_plays.specs.Attempts.{StandsAt, LedTo, at_term, at_abort, IsWhole}
use Rattle.fort_hall_law_plays.specs.Laws.{ProgramBegan}
use Rattle.fort_hall_law_plays.specs.Worlds.{Opening, BeganIn}

-- ---- terms at rest are no marks

unmarked_at : (form : Term-F Term Value Closure) → RestsUntouched form → is_mark form ≡ false
unmarked_at (Term-F.Stepped a) k = absurd k
unmarked_at _ k = refl

unmarked : (t : Term) → Resting t → has_stepped t ≡ false
unmarked t (resting k a b c) = unmarked_at (out-Term t) k

pub program_began : ProgramBegan
program_began p written = record {
  around = [];
  reached = at_first refl refl refl;
  through = refl;
  unmarked = unmarked p.first (written_proper p written).first;
}

-- ---- an attempt is opened

-- where machines of the program come to, behind the legs of a book
pub record Comes (p : Program) (x : Book) : Type 0 where
  pub around : List Frame
  pub reached : Reached p x.inner (store_of x) (plug around x.term)

pub comes : (p : Program) (x : Book) → BeganIn p (origin_of x) → IsKept p x → Comes p x
comes p x b k =
    let o = origin_of x in
    record {
      around = round_after (picks_of x.entries) b.around;
      reached = by_run b.reached
          (legs_run p o.inner o.store (plug b.around o.first)
          (plug (round_after (picks_of x.entries) b.around) x.term)
          (map (under (road b.around)) (picks_of x.entries)) (did x)
          (legs_lift p o.inner b.around o.store o.first x.term (picks_of x.entries) (did x)
          b.through b.unmarked k.legs)) refl;
    }

-- what is so of the body of a form in a term of a run
pub record Opens (p : Program) (s : Store) (body : Term) : Type 0 where
  pub reached : Reached p true s body
  pub bare : Bare body
  pub unmarked : has_stepped body ≡ false

opens_in : (p : Program) → WrittenProgram p → (inner : Bool) (s : Store) (t : Term)
    → Reached p inner s t → (fs : List Frame) (a : Term) (m : Mode) (body : Term) → t ≡ plug fs a
    → Form a m body → Opens p s body
opens_in p written inner s t k fs a m body e form =
    let proper = (reached_is_proper p written inner s t k).0 in
    let rests = form_rests a body m form
    (plug_proper fs a (ready_open a (form_ready a m body form)) (subst Proper e proper)).0 in
    record {
      reached = in_attempt fs k e form refl;
      bare = (enters_bare p written inner s t k fs a e).1 m body form;
      unmarked = unmarked body rests;
    }

pub opens : (p : Program) → WrittenProgram p → (x : Book) (at : Opening) (body : Term)
    → BeganIn p (origin_of x) → IsKept p x → StandsAt x.term at → Form at.form at.mode body
    → Opens p (store_of x) body
opens p written x at body b k stands form =
    let c = comes p x b k in
    let whole : plug c.around x.term ≡ plug (c.around ++ (stands.around ++ at.frames)) at.form =
    ap (plug c.around) (stands.is_term ∙ ap (plug stands.around) stands.is_part
    ∙ sym (plug_append stands.around at.frames at.form))
    ∙ sym (plug_append c.around (stands.around ++ at.frames) at.form) in
    opens_in p written x.inner (store_of x) (plug c.around x.term) c.reached
    (c.around ++ (stands.around ++ at.frames)) at.form at.mode body whole form

-- ---- and is a leg

-- what an attempt's book keeps of where it was opened
pub record WasOpened (p : Program) (at : Opening) (o : Origin) : Type 0 where
  pub inner : o.inner ≡ true
  pub reached : Reached p o.inner o.store o.first
  pub unmarked : has_stepped at.part ≡ false
  pub is_part : at.part ≡ plug at.frames at.form
  pub through : passed at.frames at.form ≡ false
  pub is_form : Form at.form at.mode o.first
  pub bare : Bare o.first

closes_bounded : (p : Program) (m : Mode) (body b : Term) (r : Ended) (d e : Effect)
    → MakesWithinBounds d → Closes p m body r d b e → MakesWithinBounds e
closes_bounded p m body b r d e n (completed v a c q) =
    subst MakesWithinBounds (sym q) (closing_bounded Completed d n)
closes_bounded p m body b r d e n (failed v a c q) =
    subst MakesWithinBounds (sym q) (closing_bounded Failed d n)
closes_bounded p m body b r d e n (gave_up v a c f g q) =
    subst MakesWithinBounds (sym q) (closing_bounded Aborted d n)
closes_bounded p m body b r d e n (fell_asleep marks a c f g h q) =
    subst MakesWithinBounds (sym q) (closing_bounded Aborted d n)

-- what it led to is a book's end
led_is_book : (p : Program) (x : Book) (at : Opening) (picks : List Pick) (r : Ended) (d : Effect)
    → WasOpened p at (origin_of x) → IsKept p x → LedTo p x picks r d
    → IsBook p (origin_of x) picks r d
led_is_book p x at picks r d w k (at_term a b c) =
    subst (λ ps. IsBook p (origin_of x) ps r d) (sym a)
    (subst (λ q. IsBook p (origin_of x) (picks_of x.entries) q d) (sym b)
    (subst (λ (e : Effect). IsBook p (origin_of x) (picks_of x.entries) (goes x.term) e) (sym c)
    (kept_is_book p x k w.reached)))
led_is_book p x at picks r d w k
    (at_abort {s = s} {part = part} {more = more} {e = e} fs is free plain run fits bounded a b c) =
    let before = subst (λ t. IsBook p (origin_of x) (picks_of x.entries) (goes t) (did x)) is
    (kept_is_book p x k w.reached) in
    subst (λ ps. IsBook p (origin_of x) ps r d) (sym a)
    (subst (λ q. IsBook p (origin_of x) (picks_of x.entries ++ map (under (road fs)) more) q d)
    (sym b)
    (subst (λ (f : Effect). IsBook p (origin_of x)
    (picks_of x.entries ++ map (under (road fs)) more) aborts f) (sym c)
    (submits_steps p (origin_of x) (picks_of x.entries) more fs s part aborts (did x) e before
    free plain run fits bounded)))

pub whole_is_leg : (p : Program) (x : Book) (at : Opening) (leg : Leg)
    → WasOpened p at (origin_of x) → IsKept p x → IsWhole p x at leg → IsLegOf p leg
whole_is_leg p x at leg w k h =
    let o = origin_of x in
    let e = effect_of leg.done in
    let book = led_is_book p x at h.within h.ended h.done w k h.led in
    let tried : IsTried p o.store (plug at.frames at.form) at.form
    (Attempt (path_to at.frames) h.within ∷ []) (plug (trodden at.frames) h.becomes) e =
    finished_is_tried p o h.within h.ended h.done e at.frames at.mode at.form o.first h.becomes book
    w.inner refl w.bare w.is_form w.through h.closes in
    let of_part : IsTried p o.store leg.part at.form leg.picks leg.term e =
    subst (λ t. IsTried p o.store t at.form leg.picks leg.term e) (sym (h.is_part ∙ w.is_part))
    (subst (λ ps. IsTried p o.store (plug at.frames at.form) at.form ps leg.term e) (sym h.is_picks)
    (subst (λ u. IsTried p o.store (plug at.frames at.form) at.form
    (Attempt (path_to at.frames) h.within ∷ []) u e) (sym h.is_term) tried)) in
    record {
      store = o.store;
      taken = attempt h.watched at.form h.is_kind of_part h.watches;
      unmarked = ap has_stepped h.is_part ∙ w.unmarked;
      bounded = closes_bounded p at.mode o.first h.becomes h.ended h.done e book.bounded h.closes;
    }

-- ---- a leg suits the store on which it was taken

pub taken_fits : (p : Program) (s : Store) (leg : Leg) → IsTaken p s leg
    → FitsAll (effect_of leg.done) s
taken_fits p s leg (steps k some l) =
    runs_fit s leg.picks leg.part (goes leg.term) (effect_of leg.done) l.runs
taken_fits p s leg (attempt watched form k l w) =
    closes_fit p l.mode l.body l.becomes l.ended l.done (effect_of leg.done) s l.closes
    (runs_fit s l.within l.body l.ended l.done l.runs)
