-- The chapter "Juxtaposition", loose: the grouping that the judge computes, and the order of its
-- elements.
use Rattle.std.specs.Prelude.{◌≡◌, ℕ, suc, false, List, Result, Ok, Err}
use Rattle.fort_base.specs.declared.refusal.CheckFault.{CheckFault}
use Rattle.fort_base.specs.declared.refusal.CheckFault.TheVariants.{Refused, Memory}
use Rattle.fort_juxt.specs.declared.elements.Element.{Element}
use Rattle.fort_juxt.specs.declared.elements.Grouping.{Grouping, out-Grouping}
use Rattle.fort_juxt.specs.declared.elements.Grouping.TheOpen.{Grouping-F}
use Rattle.fort_typing_meaning.specs.Juxtaposing.{grouping_of}

-- an element that counts as an atom
abbrev pub atom : Element → Element
atom e = record {
  place = e.place;
  function = e.function;
  named = e.named;
  parens = e.parens;
  postfix = false;
}

-- The grouping that is computed, or its refusal; want of memory needs no cause.
abbrev pub IsGrouping : List Element → Result Grouping CheckFault → Type 0
IsGrouping es (Ok g) = grouping_of es ≡ Ok g
IsGrouping es (Err (Refused rule place)) = grouping_of es ≡ Err (Refused rule place)
IsGrouping es (Err Memory) = Unit {0}

-- A grouping has the elements from one number up to another, each once and in their order.
pub data IsOf : Grouping → ℕ → ℕ → Type 0 where
  of_one : {g : Grouping} {i j : ℕ} → out-Grouping g ≡ Grouping-F.One i → j ≡ suc i → IsOf g i j
  of_applied : {g : Grouping} {i j : ℕ} (a b : Grouping) (m : ℕ)
      → out-Grouping g ≡ Grouping-F.Apply a b → IsOf a i m → IsOf b m j → IsOf g i j
  of_joined : {g : Grouping} {i j : ℕ} (a b : Grouping) (m : ℕ)
      → out-Grouping g ≡ Grouping-F.Pair a b → IsOf a i m → IsOf b m j → IsOf g i j
