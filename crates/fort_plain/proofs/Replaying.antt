-- The picks of a journal, one after the other.
use Rattle.std.proofs.Common.{◌≡◌, ℕ, ◌+◌, ◌≤◌, false, [], ◌∷◌, ◌++◌, length, take, Some, ap, sym, ◌∙◌, subst, arith}
use Rattle.std.specs.Prelude.{slice_get}
use Rattle.std.proofs.lemmas.List.{length-take-le, take_all}
use Rattle.std.proofs.lemmas.Option.{slice_get_within}
use Rattle.fort_core.specs.declared.journal.Journal.{Journal}
use Rattle.fort_core.specs.declared.pick.Pick.{Pick}
use Rattle.fort_core.specs.declared.program.Program.{Program}
use Rattle.fort_walk_course.specs.declared.course.Going.{Going}
use Rattle.fort_walk_course.specs.Courses.{IsGoing}
use Rattle.fort_plain.specs.Legal.{NoRun}
use Rattle.fort_plain.specs.Replays.{BreaksAt, EndsAt, Replays}
use Rattle.fort_plain.specs.Within.{TakesPick}
use Rattle.fort_plain.specs.declared.journal.Replayed.{Replayed}
use Rattle.fort_plain.proofs.Ending.{breaks_at, replays_so}
use Rattle.fort_plain.proofs.Here.{next_of}

-- so many of its picks are taken
pub record StandsIn (p : Program) (j : Journal) (i : ℕ) (g : Going) : Type 0 where
  pub going : IsGoing p g
  pub fuel : g.course.fuel ≡ j.fuel
  pub outside : g.course.outer ≡ []
  pub picks : g.course.picks ≡ take i j.picks

pub goes_here : (p : Program) (j : Journal) (i : ℕ) (pick : Pick) (g h : Going) → StandsIn p j i g
    → slice_get j.picks i ≡ Some pick
    → TakesPick p g.course.fuel false (g.course.picks ++ pick ∷ []) h
    → StandsIn p j (i + 1) h
goes_here p j i pick g h k s t = record {
  going = t.going;
  fuel = t.fuel_is ∙ k.fuel;
  outside = t.outside;
  picks = t.are_picks ∙ ap (λ ps. ps ++ pick ∷ []) k.picks ∙ sym (next_of j.picks i pick s);
}

pub breaks_here : (p : Program) (j : Journal) (i n : ℕ) (pick : Pick) (g : Going) → StandsIn p j i g
    → slice_get j.picks i ≡ Some pick → n ≡ length g.course.picks
    → NoRun p false g.course.fuel (g.course.picks ++ pick ∷ []) → BreaksAt p j n
breaks_here p j i n pick g k s e barred =
    let low = slice_get_within j.picks i pick s in
    let at : i ≡ n = sym (e ∙ ap length k.picks ∙ length-take-le i j.picks (omega (arith, low))) in
    subst (BreaksAt p j) at
    (breaks_at p j g i pick k.going k.outside k.fuel k.picks low (next_of j.picks i pick s)
    barred)

pub ends_here : (p : Program) (j : Journal) (i : ℕ) (g : Going) → StandsIn p j i g
    → length j.picks ≤ i → (r : Replayed)
    → EndsAt p g.course.fuel g.course.picks j.ending (length j.picks) r → Replays p j r
ends_here p j i g k n r h =
    replays_so p j g r k.going k.outside k.fuel (k.picks ∙ take_all i j.picks n) h
