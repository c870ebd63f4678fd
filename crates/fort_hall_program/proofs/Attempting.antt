-- An attempt is opened, and comes to its end.
use Rattle.std.proofs.Common.{◌≡◌, ℕ, ◌-◌, Bool, true, false, List, [], ◌∷◌, ◌++◌, Option, Some, refl, ap, sym, ◌∙◌, subst, arith}
use Rattle.std.specs.Prelude.{Result, Ok, Err, IfOk, IfSome}
use Rattle.fort_base.specs.declared.refusal.Memory.{Memory}
use Rattle.fort_core.specs.declared.path.Path.{Path}
use Rattle.fort_core.specs.declared.pick.Pick.{Pick}
use Rattle.fort_core.specs.declared.program.Program.{Program}
use Rattle.fort_core.specs.declared.term.Term.{Term, Stepped}
use Rattle.fort_machine.specs.Attempts.{goes}
use Rattle.fort_machine.specs.Effects.{Store, Effect, idle}
use Rattle.fort_machine.specs.Ends.{has_stepped}
use Rattle.fort_machine.specs.Frames.{Frame, plug, trodden}
use Rattle.fort_machine.specs.Journals.{MakesWithinBounds}
use Rattle.fort_machine.specs.Marked.{Marks}
use Rattle.fort_machine.specs.Proper.{Reached, in_attempt}
use Rattle.fort_machine.specs.Runs.{none, path_to}
use Rattle.fort_machine.specs.Written.{WrittenProgram}
use Rattle.fort_machine.proofs.Runs.{plug_append}
use Rattle.fort_machine_law_marks.specs.Marks.{LeavesPart}
use Rattle.fort_machine_law_marks.proofs.Kept.{marks_stand}
use Rattle.fort_store_effects.specs.Levels.{closing, effect_of, levels_of, seen}
use Rattle.fort_store_effects.specs.declared.layer.Layer.{Layer}
use Rattle.fort_store_effects.specs.declared.layers.Layers.{Layers}
use Rattle.fort_walk_law_course.proofs.Bounds.{closing_bounded}
use Rattle.fort_walk_legs.specs.Legs.{StandsInRun}
use Rattle.fort_hall_law_books.specs.Books.{Origin, IsBook}
use Rattle.fort_hall_law_books.specs.Legs.{Legs}
use Rattle.fort_hall_law_books.specs.Taken.{IsTried}
use Rattle.fort_hall_law_books.proofs.Books.{finished_is_tried}
use Rattle.fort_hall_law_books.proofs.Legs.{legs_run}
use Rattle.fort_hall_books.specs.Books.{origin_of, IsClosed}
use Rattle.fort_hall_books.specs.Legs.{Watches, attempt}
use Rattle.fort_hall_books.specs.declared.book.Closed.{Closed}
use Rattle.fort_hall_forms.specs.Forms.{EndsAt, IsAtForm, IsFirstForm, way}
use Rattle.fort_hall_forms.specs.declared.ended.Became.{Became}
use Rattle.fort_hall_forms.specs.declared.form.AtForm.{AtForm}
use Rattle.fort_hall_program.specs.States.{HasGoneTo, IsBookOf, IsGood, IsLegOfTask, IsNewBook, attempt_leg, only, opened_at, with_form}
use Rattle.fort_hall_program.specs.declared.book.TaskBook.{TaskBook}
use Rattle.fort_hall_program.specs.declared.state.State.{State}
use Rattle.fort_hall_program.specs.declared.state.TaskLeg.{TaskLeg}
use Rattle.fort_hall_program.proofs.Stores.{new_kept}

-- no machine of a written program comes to a mark as its whole term
no_frames : LeavesPart [] → ⊥
no_frames k = go k.outer k.are
  where
    go : (outer : List Frame) → [] ≡ outer ++ k.last ∷ [] → ⊥
    go [] e = absurd cc
    go (f ∷ fs) e = absurd cc

pub no_mark_at_root : (p : Program) (inner : Bool) (s : Store) (t a : Term) → WrittenProgram p
    → Reached p inner s t → t ≡ Stepped a → ⊥
no_mark_at_root p inner s t a written k e =
    no_frames (marks_stand p written inner s t k [] a e).0

-- machines of the program come to the body of a form of a part that is in reach
pub body_reached : (p : Program) (most : ℕ) (st : State) (f : AtForm) → IsGood p most st
    → IsAtForm st.part f → Reached p true (seen (levels_of st.view)) f.body
body_reached p most st f good at =
    let s = seen (levels_of st.view) in
    let here : StandsInRun p st.inner s st.part =
    good.reach [] st.part idle (record { runs = none refl refl refl; steps = tt }) in
    let whole : plug here.frames st.part ≡ plug (here.frames ++ way f) f.form =
    ap (plug here.frames) at.is_term ∙ sym (plug_append here.frames (way f) f.form) in
    in_attempt (here.frames ++ way f) here.reached whole at.is_form refl

-- the form at which a state stands
pub form_found : (p : Program) (most : ℕ) (st : State) (f : AtForm) → IsGood p most st
    → st.form ≡ Some f → IsFirstForm st.part (seen (levels_of st.view)) f
form_found p most st f good is =
    subst (λ o. IfSome o (IsFirstForm st.part (seen (levels_of st.view)))) is good.form

-- the body of a form of a part that is in reach is no mark
pub never_marked : (p : Program) (most : ℕ) (st : State) (f : AtForm) (a : Term) → WrittenProgram p
    → IsGood p most st → st.form ≡ Some f → f.body ≡ Stepped a → ⊥
never_marked p most st f a written good is e =
    no_mark_at_root p true (seen (levels_of st.view)) f.body a written
    (body_reached p most st f good (form_found p most st f good is).stands) e

-- an attempt's book
pub opens : (p : Program) (most : ℕ) (st : State) (f : AtForm) (x : TaskBook) (own : ℕ)
    → IsGood p most st → st.form ≡ Some f → has_stepped f.body ≡ false
    → IsNewBook true st.view f.body own x → own ≡ st.left - 1 → IsBookOf p most x
opens p most st f x own good is unmarked new may =
    new_kept p most true st.view f.body own x new (omega (arith, may, good.within)) (record {
      around = [];
      reached = body_reached p most st f good (form_found p most st f good is).stands;
      through = refl;
      unmarked = unmarked;
    })

-- the same of an answer
pub opened : (p : Program) (most : ℕ) (st : State) (f : AtForm) (own : ℕ) (v : Layers) (t : Term)
    (r : Result TaskBook Memory) → IsGood p most st → st.form ≡ Some f
    → has_stepped f.body ≡ false → v ≡ st.view → t ≡ f.body → own ≡ st.left - 1
    → IfOk r (IsNewBook true v t own) → IfOk r (IsBookOf p most)
opened p most st f own v t (Ok x) good is unmarked view_is body_is may new =
    opens p most st f x own good is unmarked
    (subst (λ (w : Layers). IsNewBook true w f.body own x) view_is
    (subst (λ (u : Term). IsNewBook true v u own x) body_is new)) may
opened p most st f own v t (Err e) good is unmarked view_is body_is may new = tt

-- what a closed book of an attempt came to
pub gone_to : (p : Program) (most : ℕ) (st : State) (f : AtForm) (x : TaskBook) (c : Closed)
    → IsBookOf p most x → origin_of x.book ≡ opened_at st f → IsClosed p x.book c
    → HasGoneTo p st f c
gone_to p most st f x c kept origin closed = record {
  legs =
      subst (λ (o : Origin). Legs p o.inner o.store o.first c.picks c.term (effect_of c.done))
      (ap (λ v. record { inner = x.book.inner; store = seen (levels_of v); first = x.book.first })
      closed.view ∙ origin) closed.legs;
  bounded = closed.bounded;
}

-- an attempt that has completed or failed is a leg
pub tried : (p : Program) (most : ℕ) (st : State) (f : AtForm) (c : Closed) (b : Became)
    (watched : Option Marks) (done : Layer) (path : Path) (picks : List Pick) (term : Term)
    (x : TaskLeg) → IsGood p most (with_form st f) → HasGoneTo p st f c
    → EndsAt c.term (Some b) → watched ≡ f.watched
    → effect_of done ≡ closing b.closing (effect_of c.done) → path ≡ f.place.path
    → picks ≡ only path c.picks → term ≡ plug (trodden (way f)) b.term
    → x ≡ attempt_leg st watched done picks term → IsLegOfTask p x
tried p most st f c b watched done path picks term x good gone ends same effect at_path own made
    whole =
    let s = seen (levels_of st.view) in
    let found : IsFirstForm st.part s f = good.form in
    let at = found.stands in
    let d = effect_of c.done in
    let book : IsBook p (opened_at st f) c.picks (goes c.term) d = record {
      reached = body_reached p most (with_form st f) f good at;
      runs = legs_run p true s f.body c.term c.picks d gone.legs;
      bounded = gone.bounded;
    } in
    let leg : IsTried p s (plug (way f) f.form) f.form (only (path_to (way f)) c.picks)
    (plug (trodden (way f)) b.term) (closing b.closing d) =
    finished_is_tried p (opened_at st f) c.picks (goes c.term) d (closing b.closing d)
    (way f) f.mode f.form f.body b.term book refl refl found.bare at.is_form at.reached
    (ends p f.mode f.body d) in
    let part : IsTried p s st.part f.form (only (path_to (way f)) c.picks)
    (plug (trodden (way f)) b.term) (closing b.closing d) =
    subst (λ t. IsTried p s t f.form (only (path_to (way f)) c.picks)
    (plug (trodden (way f)) b.term) (closing b.closing d)) (sym at.is_term) leg in
    let is_picks : picks ≡ only (path_to (way f)) c.picks =
    own ∙ ap (λ q. only q c.picks) (at_path ∙ at.is_path) in
    let with_picks : IsTried p s st.part f.form picks
    (plug (trodden (way f)) b.term) (closing b.closing d) =
    subst (λ ps. IsTried p s st.part f.form ps
    (plug (trodden (way f)) b.term) (closing b.closing d)) (sym is_picks) part in
    let with_term : IsTried p s st.part f.form picks term (closing b.closing d) =
    subst (λ t. IsTried p s st.part f.form picks t (closing b.closing d)) (sym made)
    with_picks in
    let with_effect : IsTried p s st.part f.form picks term (effect_of done) =
    subst (λ (e : Effect). IsTried p s st.part f.form picks term e) (sym effect) with_term in
    let is_leg : IsLegOfTask p (attempt_leg st watched done picks term) = record {
      leg = record {
        store = s;
        taken = attempt watched f.form refl with_effect
            (subst (λ w. Watches w f.form) (sym same) at.watched);
        unmarked = good.unmarked;
        bounded = subst MakesWithinBounds (sym effect)
            (closing_bounded b.closing d gone.bounded);
      };
      is_open = good.is_open;
    } in
    subst (IsLegOfTask p) (sym whole) is_leg
