-- What the calls of a machine are told and answer, by its own tables and its own bound, and as the
-- hall names them.
use Rattle.std.proofs.Common.{◌≡◌, ℕ, zero, suc, ◌<◌, Bool, List, [], ◌∷◌, drop, length, Option, Some, None, ap, sym, ◌∙◌, subst, arith}
use Rattle.std.specs.Prelude.{Result, Ok, Err, IfOk, IfSome}
use Rattle.fort_base.specs.declared.refusal.Memory.{Memory}
use Rattle.fort_core.specs.declared.program.Program.{Program}
use Rattle.fort_core.specs.declared.term.Term.{Term}
use Rattle.fort_machine.specs.Written.{WrittenProgram}
use Rattle.fort_disp.specs.declared.rows.Tables.{Tables}
use Rattle.fort_store_effects.specs.Levels.{levels_of, seen}
use Rattle.fort_store_effects.specs.declared.layers.Layers.{Layers}
use Rattle.fort_walk_turns.specs.Defined.{AlwaysOne}
use Rattle.fort_hall_machine.specs.Words.{IsFound, IsMade, IsSubmitted}
use Rattle.fort_hall_machine.specs.declared.parts.Found.{Found}
use Rattle.fort_hall_machine.specs.declared.parts.Made.{Made}
use Rattle.fort_hall_machine.specs.declared.parts.Submitted.{Submitted}
use Rattle.fort_hall_law_books.specs.Books.{Origin}
use Rattle.fort_hall_program.specs.Machines.{IsMachine}
use Rattle.fort_hall_books.specs.Books.{origin_of}
use Rattle.fort_hall_forms.specs.Forms.{IsFirstForm}
use Rattle.fort_hall_forms.specs.declared.form.AtForm.{AtForm}
use Rattle.fort_hall_program.specs.States.{IsBookOf, IsGood, IsLegOfTask, IsNewBook, form_at, form_of, opened_at, with_form}
use Rattle.fort_hall_program.specs.declared.book.TaskBook.{TaskBook}
use Rattle.fort_hall_program.specs.declared.state.State.{State}
use Rattle.fort_hall_program.specs.declared.state.TaskLeg.{TaskLeg}
use Rattle.fort_hall_program.specs.declared.state.Waste.{Waste}
use Rattle.fort_hall_program.proofs.Stores.{root_kept}

-- what holds of the program and of the bound holds of the machine's own
pub own : (p : Program) (start : Origin) (most : ℕ) (tables : Tables) (inner : Bool) (view : Layers)
    (first : Term) (bound : ℕ) (P : Program → ℕ → Type 0)
    → IsMachine p start most tables inner view first bound → P p most
    → P tables.program.now bound
own p start most tables inner view first bound P m k =
    subst (λ (q : Program). P q bound) (sym m.is_program)
    (subst (λ (c : ℕ). P p c) (sym m.is_bound) k)

-- and the other way round
pub named : (p : Program) (start : Origin) (most : ℕ) (tables : Tables) (inner : Bool)
    (view : Layers) (first : Term) (bound : ℕ) (P : Program → ℕ → Type 0)
    → IsMachine p start most tables inner view first bound → P tables.program.now bound
    → P p most
named p start most tables inner view first bound P m k =
    subst (λ (q : Program). P q most) m.is_program
    (subst (λ (c : ℕ). P tables.program.now c) m.is_bound k)

pub own_book : (p : Program) (start : Origin) (most : ℕ) (tables : Tables) (inner : Bool)
    (view : Layers) (first : Term) (bound : ℕ) (x : TaskBook)
    → IsMachine p start most tables inner view first bound → IsBookOf p most x
    → IsBookOf tables.program.now bound x
own_book p start most tables inner view first bound x m k =
    own p start most tables inner view first bound (λ q c. IsBookOf q c x) m k

pub named_book : (p : Program) (start : Origin) (most : ℕ) (tables : Tables) (inner : Bool)
    (view : Layers) (first : Term) (bound : ℕ) (x : TaskBook)
    → IsMachine p start most tables inner view first bound
    → IsBookOf tables.program.now bound x → IsBookOf p most x
named_book p start most tables inner view first bound x m k =
    named p start most tables inner view first bound (λ q c. IsBookOf q c x) m k

pub own_state : (p : Program) (start : Origin) (most : ℕ) (tables : Tables) (inner : Bool)
    (view : Layers) (first : Term) (bound : ℕ) (x : State)
    → IsMachine p start most tables inner view first bound → IsGood p most x
    → IsGood tables.program.now bound x
own_state p start most tables inner view first bound x m k =
    own p start most tables inner view first bound (λ q c. IsGood q c x) m k

pub named_state : (p : Program) (start : Origin) (most : ℕ) (tables : Tables) (inner : Bool)
    (view : Layers) (first : Term) (bound : ℕ) (x : State)
    → IsMachine p start most tables inner view first bound
    → IsGood tables.program.now bound x → IsGood p most x
named_state p start most tables inner view first bound x m k =
    named p start most tables inner view first bound (λ q c. IsGood q c x) m k

pub own_leg : (p : Program) (start : Origin) (most : ℕ) (tables : Tables) (inner : Bool)
    (view : Layers) (first : Term) (bound : ℕ) (x : TaskLeg)
    → IsMachine p start most tables inner view first bound → IsLegOfTask p x
    → IsLegOfTask tables.program.now x
own_leg p start most tables inner view first bound x m k =
    subst (λ (q : Program). IsLegOfTask q x) (sym m.is_program) k

pub named_leg : (p : Program) (start : Origin) (most : ℕ) (tables : Tables) (inner : Bool)
    (view : Layers) (first : Term) (bound : ℕ) (x : TaskLeg)
    → IsMachine p start most tables inner view first bound
    → IsLegOfTask tables.program.now x → IsLegOfTask p x
named_leg p start most tables inner view first bound x m k =
    subst (λ (q : Program). IsLegOfTask q x) m.is_program k

pub own_written : (p : Program) (start : Origin) (most : ℕ) (tables : Tables) (inner : Bool)
    (view : Layers) (first : Term) (bound : ℕ)
    → IsMachine p start most tables inner view first bound → WrittenProgram tables.program.now
own_written p start most tables inner view first bound m =
    subst WrittenProgram (sym m.is_program) m.written

pub own_one : (p : Program) (start : Origin) (most : ℕ) (tables : Tables) (inner : Bool)
    (view : Layers) (first : Term) (bound : ℕ)
    → IsMachine p start most tables inner view first bound → AlwaysOne tables.program.now
own_one p start most tables inner view first bound m = subst AlwaysOne (sym m.is_program) m.one

-- ---- whole answers

pub named_found : (p : Program) (start : Origin) (most : ℕ) (tables : Tables) (inner : Bool)
    (view : Layers) (first : Term) (bound : ℕ) (r : Result (Found State) Memory)
    → IsMachine p start most tables inner view first bound
    → IfOk r (IsFound (IsGood tables.program.now bound)) → IfOk r (IsFound (IsGood p most))
named_found p start most tables inner view first bound r m k =
    named p start most tables inner view first bound (λ q c. IfOk r (IsFound (IsGood q c))) m k

pub named_made : (p : Program) (start : Origin) (most : ℕ) (tables : Tables) (inner : Bool)
    (view : Layers) (first : Term) (bound : ℕ) (r : Result (Made TaskLeg State × ℕ) Memory)
    → IsMachine p start most tables inner view first bound
    → IfOk r (λ a. IsMade (IsLegOfTask tables.program.now)
    (IsGood tables.program.now bound) a.0)
    → IfOk r (λ a. IsMade (IsLegOfTask p) (IsGood p most) a.0)
named_made p start most tables inner view first bound r m k =
    named p start most tables inner view first bound
    (λ q c. IfOk r (λ a. IsMade (IsLegOfTask q) (IsGood q c) a.0)) m k

pub named_submitted : (p : Program) (start : Origin) (most : ℕ) (tables : Tables) (inner : Bool)
    (view : Layers) (first : Term) (bound : ℕ) (r : Result (Submitted State × Waste) Memory)
    → IsMachine p start most tables inner view first bound
    → IfOk r (λ a. IsSubmitted (IsGood tables.program.now bound) a.0)
    → IfOk r (λ a. IsSubmitted (IsGood p most) a.0)
named_submitted p start most tables inner view first bound r m k =
    named p start most tables inner view first bound
    (λ q c. IfOk r (λ a. IsSubmitted (IsGood q c) a.0)) m k

-- of a state that stands at no form the root's book is opened
pub begun_root : (p : Program) (start : Origin) (most : ℕ) (st : State)
    (r : Result TaskBook Memory) → st.form ≡ None
    → IfOk r (λ x. IsBookOf p most x × (origin_of x.book ≡ start) × (x.book.entries ≡ []))
    → IfOk r (λ x. IsBookOf p most x × (origin_of x.book ≡ form_of start st))
begun_root p start most st (Ok x) is h = (h.0, h.1 ∙ ap (form_at start st) (sym is))
begun_root p start most st (Err e) is h = tt

-- of one that stands at a form, the attempt's
pub begun : (p : Program) (start : Origin) (most : ℕ) (tables : Tables) (inner : Bool)
    (view : Layers) (first : Term) (bound : ℕ) (st : State) (f : AtForm)
    (r : Result TaskBook Memory)
    → IsMachine p start most tables inner view first bound → st.form ≡ Some f
    → IfOk r (IsBookOf tables.program.now bound) → IfOk r (λ x. origin_of x.book ≡ opened_at st f)
    → IfOk r (λ x. IsBookOf p most x × (origin_of x.book ≡ form_of start st))
begun p start most tables inner view first bound st f (Ok x) m is k o = (
  named_book p start most tables inner view first bound x m k,
  o ∙ ap (form_at start st) (sym is),
)
begun p start most tables inner view first bound st f (Err e) m is k o = tt

-- the root's book
pub rooted : (p : Program) (start : Origin) (most : ℕ) (tables : Tables) (inner : Bool)
    (view : Layers) (first : Term) (bound : ℕ) (v : Layers) (t : Term)
    (r : Result TaskBook Memory)
    → IsMachine p start most tables inner view first bound → v ≡ view → t ≡ first
    → IfOk r (IsNewBook inner v t bound)
    → IfOk r (λ x. IsBookOf p most x × (origin_of x.book ≡ start) × (x.book.entries ≡ []))
rooted p start most tables inner view first bound v t (Ok x) m seen_is first_is n =
    let new : IsNewBook inner view first bound x =
    subst (λ (w : Layers). IsNewBook inner w first bound x) seen_is
    (subst (λ (u : Term). IsNewBook inner v u bound x) first_is n) in (
      root_kept p start most tables inner view first bound x m new,
      new.origin ∙ sym m.is_start,
      new.entries,
    )
rooted p start most tables inner view first bound v t (Err e) m seen_is first_is n = tt

-- what is asked at the end of an attempt
pub own_finish_good : (p : Program) (start : Origin) (most : ℕ) (tables : Tables) (inner : Bool)
    (view : Layers) (first : Term) (bound : ℕ) (st : State) (f : AtForm)
    → IsMachine p start most tables inner view first bound → IsGood p most st
    → st.form ≡ Some f
    → IsGood tables.program.now bound (with_form (record st { form = None }) f)
own_finish_good p start most tables inner view first bound st f m good is =
    own_state p start most tables inner view first bound
    (with_form (record st { form = None }) f) m (record {
      reach = good.reach;
      unmarked = good.unmarked;
      is_open = good.is_open;
      alone = good.alone;
      within = good.within;
      form = subst (λ o. IfSome o (IsFirstForm st.part (seen (levels_of st.view)))) is good.form;
    })

pub finish_origin : (start o : Origin) (st : State) (f : AtForm) → o ≡ form_of start st
    → st.form ≡ Some f → o ≡ opened_at (record st { form = None }) f
finish_origin start o st f same is = same ∙ ap (form_at start st) is

pub named_finished : (p : Program) (start : Origin) (most : ℕ) (tables : Tables) (inner : Bool)
    (view : Layers) (first : Term) (bound : ℕ) (r : Result (Option TaskLeg) Memory)
    → IsMachine p start most tables inner view first bound
    → IfOk r (λ f. IfSome f (IsLegOfTask tables.program.now))
    → IfOk r (λ f. IfSome f (IsLegOfTask p))
named_finished p start most tables inner view first bound r m k =
    named p start most tables inner view first bound
    (λ q c. IfOk r (λ f. IfSome f (IsLegOfTask q))) m k

-- ---- bytes

pub more_behind : (n : ℕ) (xs : List ℕ) → n < length xs → 0 < length (drop n xs)
more_behind zero xs h = h
more_behind (suc n) [] h = let f : ⊥ = omega (arith, h) in absurd f
more_behind (suc n) (x ∷ xs) h = more_behind n xs (omega (arith, h))
