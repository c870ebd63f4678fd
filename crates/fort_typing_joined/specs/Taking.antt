-- The chapter "Typing", juxtapositions: what comes of a grouping whose elements are taken off one
-- after another. It is what the judge says of the grouping, as each element stands in it once and
-- in its order.
use Rattle.std.specs.Prelude.{Bool, false, List, [], ◌∷◌, Option}
use Rattle.fort_juxt.specs.declared.elements.Grouping.{Grouping, fold-Grouping}
use Rattle.fort_juxt.specs.declared.elements.Grouping.TheOpen.{Grouping-F}
use Rattle.fort_typing_known.specs.declared.fault.Fault.{Fault}
use Rattle.fort_typing_known.specs.Known.{Facts}
use Rattle.fort_typing_rules.specs.declared.part.Part.{Part}
use Rattle.fort_typing_rules.specs.declared.part.Meaning.{Meaning}
use Rattle.fort_typing_rules.specs.declared.part.Meaning.TheVariants as a_meaning
use Rattle.fort_typing_rules.specs.Types.{type_of, is_nothing}
use Rattle.fort_typing_meaning.specs.declared.frame.Made.{Made}
use Rattle.fort_typing_meaning.specs.declared.frame.Made.TheVariants as a_made
use Rattle.fort_typing_meaning.specs.Faults.{breaks}
use Rattle.fort_typing_meaning.specs.Joining.{Grown, an_unknown, as_grown, grows_by, applied, joined}
use Rattle.fort_typing_joined.specs.declared.taking.Growth.{Growth}

-- what the code's `Growth` says
abbrev pub grown_of : Growth → Grown
grown_of g = record { part = g.part; found = g.found }

-- a value that is `Nothing`
abbrev pub is_never : Meaning → Bool
is_never (a_meaning.Value t) = is_nothing (type_of t)
is_never _ = false

-- the first broken rule so far, and what an element is, where this came of two elements
abbrev pub found_else : Made → Option Fault → Option Fault
found_else (a_made.Breaks x) found = breaks x.rule x.place found
found_else _ found = found

abbrev pub meaning_else : Made → Meaning
meaning_else (a_made.Gives t) = a_meaning.Value t
meaning_else _ = a_meaning.Unknown

-- what comes of a grouping, and the elements behind it
pub record Taken : Type 0 where
  pub grown : Grown
  pub rest : List Part

abbrev pub Takes : Type 0
Takes = List Part → Option Fault → Taken

abbrev pub takes_one : Takes
takes_one [] found =
    record { grown = an_unknown (record { line = 0; column = 0 }) found; rest = [] }
takes_one (p ∷ ps) found = record { grown = record { part = p; found = found }; rest = ps }

abbrev pub takes_both : (Part → Part → Made) → Grown → Taken → Taken
takes_both way p q = record { grown = grows_by way p (as_grown q.grown); rest = q.rest }

abbrev pub takes_then : (Part → Part → Made) → Takes → Taken → Taken
takes_then way b p = takes_both way (as_grown p.grown) (b p.rest (as_grown p.grown).found)

abbrev pub takes_two : (Part → Part → Made) → Takes → Takes → Takes
takes_two way a b ps found = takes_then way b (a ps found)

abbrev pub takes_at : Facts → Grouping-F Takes → Takes
takes_at k (Grouping-F.One i) = takes_one
takes_at k (Grouping-F.Apply a b) = takes_two (applied k) a b
takes_at k (Grouping-F.Pair a b) = takes_two (joined k) a b

-- what comes of a grouping of the next elements
unfoldable pub taking : Facts → Grouping → Takes
taking k = fold-Grouping Takes (takes_at k)
