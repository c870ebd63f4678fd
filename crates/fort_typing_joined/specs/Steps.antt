-- The chapter "Typing", runs: one rewriting after another, as the code does them.
use Rattle.std.specs.Prelude.{◌≡◌, ℕ, List, [], ◌∷◌, take, drop, Option, Some, None}
use Rattle.fort_base.specs.declared.refusal.Place.{Place}
use Rattle.fort_typing_known.specs.declared.fault.Fault.{Fault}
use Rattle.fort_typing_known.specs.Known.{Facts}
use Rattle.fort_form_typed.specs.declared.typed_form.TypedForm.{TypedForm}
use Rattle.fort_typing_rules.specs.declared.part.Part.{Part}
use Rattle.fort_typing_rules.specs.declared.part.Meaning.{Meaning}
use Rattle.fort_typing_rules.specs.declared.part.Meaning.TheVariants as a_meaning
use Rattle.fort_typing_meaning.specs.declared.frame.Made.{Made}
use Rattle.fort_typing_meaning.specs.declared.frame.Made.TheVariants as a_made
use Rattle.fort_typing_meaning.specs.declared.frame.Outcome.{Outcome}
use Rattle.fort_typing_meaning.specs.Tests.{untyped}
use Rattle.fort_typing_meaning.specs.Joining.{Around, Further, on, stop, replaced, run_at}
use Rattle.fort_typing_joined.specs.declared.two.Pair.{Pair}
use Rattle.fort_typing_joined.specs.declared.two.Step.{Step}
use Rattle.fort_typing_joined.specs.declared.two.Step.TheVariants as a_step
use Rattle.fort_typing_joined.specs.declared.runs.Turned.{Turned}
use Rattle.fort_typing_joined.specs.declared.runs.Turned.TheVariants as a_turn

-- two elements from a number on, where there are two
abbrev pub two_of : ℕ → Option Pair → Option Around
two_of n (Some p) =
    Some (record { before = take n p.rest; one = p.one; other = p.other; after = drop n p.rest })
two_of n None = None

-- what an element is, of which this has come
abbrev pub meaning_from : Option TypedForm → Meaning
meaning_from (Some t) = a_meaning.Value t
meaning_from None = a_meaning.Unknown

-- what the code's `Step` says
abbrev pub further_of : Step → Further
further_of (a_step.On ps found) = on ps found
further_of (a_step.Stop found) = stop found

-- the typed form that came of two elements
abbrev pub typed_of : Made → Option TypedForm
typed_of (a_made.Gives t) = Some t
typed_of _ = None

-- the rule that was broken
abbrev pub fault_of : Made → Option Fault
fault_of (a_made.Breaks x) = Some x
fault_of _ = None

-- a broken rule takes the place of two elements, where there is one
abbrev pub replaced_else : List Part → Place → List Part → Option Fault → Option Fault → Further
replaced_else before place after (Some x) found =
    replaced before place after (a_made.Breaks x) found
replaced_else before place after None found = stop found

-- a run that has ended, of one element or of none
abbrev pub end_of : List Part → Option Fault → Outcome
end_of [] found = untyped found
end_of (p ∷ ps) found = record { seen = p.meaning; found = found }

-- what a run is after a turn
abbrev pub after_turn : (Option Fault → List Part → Outcome) → Turned → Outcome
after_turn next (a_turn.Ends o) = o
after_turn next (a_turn.Goes ps found) = next found ps

-- The turn is that of a run of these elements, whatever the rest of it comes to.
abbrev pub IsTurn : Facts → List Part → Option Fault → Turned → Type 0
IsTurn k ps found turned = (next : Option Fault → List Part → Outcome)
    → run_at next k found ps ≡ after_turn next turned
