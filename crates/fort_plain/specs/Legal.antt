-- Chapter "Runs": picks that are legal so far, and picks that aren't. The code takes one after the
-- other.
use Rattle.std.specs.Prelude.{◌≡◌, ℕ, ◌+◌, ◌≤◌, Bool, true, false, List, [], ◌∷◌, ◌++◌}
use Rattle.fort_core.specs.declared.pick.Pick.{Pick}
use Rattle.fort_core.specs.declared.program.Program.{Program}
use Rattle.fort_core.specs.declared.term.Term.{Term}
use Rattle.fort_machine.specs.Effects.{Store, Effect, afterwards, both}
use Rattle.fort_machine.specs.Attempts.{Ended, goes}
use Rattle.fort_machine.specs.Runs.{Runs, Begun}
use Rattle.fort_machine.specs.Journals.{opening_store, MakesWithinBounds}

-- Picks of a machine are legal from a term, on a store: they are a run; or, where that may be
-- (`ajar`), the last of them is an attempt that isn't finished.
pub data AreLegal (p : Program) (ajar inner : Bool) (s : Store) (picks : List Pick) (t : Term)
    (d : Effect) : Type 0 where
  a_run : (r : Ended) → Runs p inner true s picks t r d → AreLegal p ajar inner s picks t d
  begun_last : (before : List Pick) (last : Pick) (u : Term) (d1 d2 : Effect) → ajar ≡ true
      → picks ≡ before ++ last ∷ []
      → Runs p inner true s before t (goes u) d1 → Begun p true (afterwards d1 s) last u d2
      → d ≡ both d1 d2 → AreLegal p ajar inner s picks t d

-- Picks are not legal from a term, or make a location of 2 to the 64 or more, or with what was
-- spent before cost more than the fuel.
abbrev pub NoWay : Program → Bool → Bool → Store → Term → ℕ → ℕ → List Pick → Type 0
NoWay p ajar inner s t spent fuel picks = (d : Effect) → AreLegal p ajar inner s picks t d
    → MakesWithinBounds d → spent + d.cost ≤ fuel → ⊥

-- So it is with picks of the program, from its first term and its opening store.
abbrev pub NoRun : Program → Bool → ℕ → List Pick → Type 0
NoRun p ajar fuel picks = NoWay p ajar false (opening_store p) p.first 0 fuel picks
