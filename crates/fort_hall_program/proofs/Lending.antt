-- A task is lent.
use Rattle.std.proofs.Common.{◌≡◌, ℕ, ◌-◌, ◌≤◌, List, Some, None, ap, sym, ◌∙◌, subst, arith}
use Rattle.std.specs.Prelude.{IfSome}
use Rattle.fort_core.specs.declared.program.Program.{Program}
use Rattle.fort_core.specs.declared.term.Term.{Term}
use Rattle.fort_store_effects.specs.Again.{only_store}
use Rattle.fort_store_effects.specs.Levels.{levels_of, seen}
use Rattle.fort_store_effects.specs.declared.layers.Layers.{Layers}
use Rattle.fort_walk_legs.specs.Legs.{IsInReach}
use Rattle.fort_walk_turns.specs.Defined.{AlwaysOne}
use Rattle.fort_hall_law_books.specs.Legs.{Legs}
use Rattle.fort_hall_law_books.proofs.Course.{task_may_go}
use Rattle.fort_hall_books.specs.Books.{did, picks_of, store_of}
use Rattle.fort_hall_parts.specs.Parts.{IsPartAt}
use Rattle.fort_hall_forms.specs.Forms.{IsFirstForm}
use Rattle.fort_hall_program.specs.States.{IsBookOf, IsGood}
use Rattle.fort_hall_program.specs.declared.book.TaskBook.{TaskBook}
use Rattle.fort_hall_program.specs.declared.state.State.{State}

-- the part of a task is in reach
pub in_reach : (p : Program) (most : ℕ) (x : TaskBook) (path : List ℕ) (part : Term) → AlwaysOne p
    → IsBookOf p most x → IsPartAt x.book.term path part
    → IsInReach p x.book.inner (store_of x.book) part
in_reach p most x path part one k found =
    let b = x.book in
    task_may_go p b.inner (seen (levels_of b.view)) b.first part (picks_of b.entries) (did b)
    k.stands.around found.frames one k.stands.reached k.stands.through k.stands.unmarked
    (subst (λ u. Legs p b.inner (seen (levels_of b.view)) b.first (picks_of b.entries) u (did b))
    found.is_term k.kept.legs) found.reached found.unmarked

-- what is lent is good
pub good_state : (p : Program) (most : ℕ) (x : TaskBook) (now view : Layers) (path : List ℕ)
    (t : Term) (st : State) → AlwaysOne p → IsBookOf p most x → x.at_hand ≡ Some now
    → levels_of view ≡ only_store (seen (levels_of now)) → t ≡ x.book.term
    → IsPartAt t path st.part
    → st.inner ≡ x.book.inner → st.view ≡ view → st.left ≡ x.book.most - (did x.book).cost
    → st.form ≡ None → IsGood p most st
good_state p most x now view path t st one k is shown whole at_path inner same left form =
    let found : IsPartAt x.book.term path st.part =
    subst (λ (u : Term). IsPartAt u path st.part) whole at_path in
    let at : levels_of now ≡ only_store (store_of x.book) =
    subst (λ o. IfSome o (λ l. levels_of l ≡ only_store (store_of x.book))) is k.now in
    let here : levels_of st.view ≡ only_store (store_of x.book) =
    ap levels_of same ∙ (shown ∙ ap (λ v. only_store (seen v)) at) in
    record {
      reach =
          subst (λ s. IsInReach p st.inner s st.part) (sym (ap seen here))
          (subst (λ i. IsInReach p i (store_of x.book) st.part) (sym inner)
          (in_reach p most x path st.part one k found));
      unmarked = found.unmarked;
      is_open = found.is_open;
      alone = ap (λ v. v.attempts) here;
      within = subst (λ (c : ℕ). c ≤ most) (sym left) (omega (arith, k.within));
      form = subst (λ o. IfSome o (IsFirstForm st.part (seen (levels_of st.view)))) (sym form) tt;
    }
