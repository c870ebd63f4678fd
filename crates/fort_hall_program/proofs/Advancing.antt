-- A leg of a task, or its form.
use Rattle.std.proofs.Common.{◌≢◌, ℕ, [], refl}
use Rattle.fort_core.specs.declared.program.Program.{Program}
use Rattle.fort_store_effects.specs.Levels.{levels_of, seen}
use Rattle.fort_walk_stretch.specs.Goes.{Goes}
use Rattle.fort_walk_stretch.specs.declared.leg.Leg.{Leg}
use Rattle.fort_walk_stretch.specs.declared.leg.Room.{Room}
use Rattle.fort_hall_books.specs.Legs.{steps}
use Rattle.fort_hall_books.specs.declared.leg.Kind.TheVariants.{Steps}
use Rattle.fort_hall_forms.specs.Forms.{IsFirstForm}
use Rattle.fort_hall_forms.specs.declared.form.AtForm.{AtForm}
use Rattle.fort_hall_program.specs.States.{IsGood, IsLegOfTask, with_form}
use Rattle.fort_hall_program.specs.declared.state.State.{State}

pub leg_of_steps : (p : Program) (most : ℕ) (st : State) (leg : Leg) (span : Room)
    → IsGood p most st → Goes p st.inner (seen (levels_of st.view)) st.part span leg → leg.picks ≢ []
    → IsLegOfTask p (record {
      task = st.task;
      leg = record {
        inner = st.inner;
        path = st.path;
        part = st.part;
        kind = Steps;
        done = leg.done;
        picks = leg.picks;
        term = leg.term;
      };
    })
leg_of_steps p most st leg span good goes some = record {
  leg = record {
    store = seen (levels_of st.view);
    taken = steps refl some (record { runs = goes.leg.runs; steps = goes.leg.steps });
    unmarked = good.unmarked;
    bounded = goes.bounded;
  };
  is_open = good.is_open;
}

pub at_found_form : (p : Program) (most : ℕ) (st : State) (form : AtForm) → IsGood p most st
    → IsFirstForm st.part (seen (levels_of st.view)) form → IsGood p most (with_form st form)
at_found_form p most st form good found = record {
  reach = good.reach;
  unmarked = good.unmarked;
  is_open = good.is_open;
  alone = good.alone;
  within = good.within;
  form = found;
}
