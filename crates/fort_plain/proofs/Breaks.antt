-- A journal that breaks is none of a run.
use Rattle.std.proofs.Common.{◌≡◌, ℕ, ◌+◌, ◌<◌, ◌≤◌, true, false, List, [], ◌∷◌, ◌++◌, length, take, drop, refl, ap, sym, subst, arith, ◌⊎◌, inl, inr}
use Rattle.std.proofs.lemmas.List.{take-append-drop}
use Rattle.fort_core.specs.declared.pick.Pick.{Pick}
use Rattle.fort_core.specs.declared.program.Program.{Program}
use Rattle.fort_core.specs.declared.term.Term.{Term}
use Rattle.fort_machine.specs.Effects.{Effect}
use Rattle.fort_machine.specs.Attempts.{goes}
use Rattle.fort_machine.specs.Runs.{Runs}
use Rattle.fort_machine.specs.Journals.{opening_store, MakesWithinBounds, IsRun, IsJournal}
use Rattle.fort_machine.proofs.Split.{runs_part}
use Rattle.fort_plain.specs.Replays.{RunsWithin, BrokenIsNone}
use Rattle.fort_plain.proofs.Bounded.{first_bounded}

append_nil : (xs : List Pick) → xs ++ [] ≡ xs
append_nil [] = refl
append_nil (x ∷ xs) = ap (λ ys. x ∷ ys) (append_nil xs)

by_rest : (p : Program) (fuel : ℕ) (front rest : List Pick) (t : Term) (d : Effect)
    → Runs p false true (opening_store p) (front ++ rest) p.first (goes t) d → MakesWithinBounds d
    → d.cost ≤ fuel → RunsWithin p fuel front
by_rest p fuel front [] t d r b c =
    record {
      term = t;
      effect = d;
      is_run = record {
        runs =
            subst (λ x. Runs p false true (opening_store p) x p.first (goes t) d)
            (append_nil front) r;
        bounded = b;
      };
      within_fuel = c;
    }
by_rest p fuel front (x ∷ xs) t d r b c =
    let i = runs_part p false true (opening_store p) front x xs p.first (goes t) d r in
    let whole : d.cost ≡ i.first.cost + i.second.cost = ap (λ (y : Effect). y.cost) i.is_both in
    record {
      term = i.middle;
      effect = i.first;
      is_run = record {
        runs = i.before;
        bounded = first_bounded i.first i.second (subst MakesWithinBounds i.is_both b);
      };
      within_fuel = omega (arith, whole, c);
    }

-- the first picks of a run
pub first_picks : (p : Program) (fuel m : ℕ) (picks : List Pick) (t : Term) (d : Effect)
    → IsRun p picks t d → d.cost ≤ fuel → RunsWithin p fuel (take m picks)
first_picks p fuel m picks t d r c =
    by_rest p fuel (take m picks) (drop m picks) t d
    (subst (λ x. Runs p false true (opening_store p) x p.first (goes t) d)
    (sym (take-append-drop m picks)) r.runs) r.bounded c

pub broken_is_none : BrokenIsNone
broken_is_none p j n b k = go b.cause
  where
    go : ((n < length j.picks) × (RunsWithin p j.fuel (take (n + 1) j.picks) → ⊥))
        ⊎ ((n ≡ length j.picks) × (IsJournal p j → ⊥)) → ⊥
    go (inl h) = h.1 (first_picks p j.fuel (n + 1) j.picks k.0 k.1.0 k.1.1.is_run k.1.1.within_fuel)
    go (inr h) = h.1 k
