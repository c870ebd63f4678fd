-- What was read and breaks no rule is linked, and how what was not is refused.
use Rattle.std.proofs.Common.{◌≡◌, ◌<◌, ◌≤◌, ℕ, List, length, Some, None, Ok, Err, refl, sym, ap, ap₂, subst, ◌∙◌, arith}
use Rattle.fort_tree.specs.Tokens.{Spellings}
use Rattle.fort_link_table.specs.Table.{empty_table}
use Rattle.fort_link_units.specs.declared.unit.Unit.{Unit}
use Rattle.fort_link_rules.specs.declared.reports.Broken.{Broken}
use Rattle.fort_link_rules.specs.Reports.{IsFirstBroken}
use Rattle.fort_link.specs.declared.answer.LinkFault.{LinkFault}
use Rattle.fort_link.specs.declared.answer.LinkFault.TheVariants as a_fault
use Rattle.fort_link.specs.declared.answer.Linked.{Linked}
use Rattle.fort_link.specs.declared.answer.Spot.{Spot}
use Rattle.fort_link.specs.declared.reading.Read.{Read}
use Rattle.fort_link.specs.Answer.{LinkAnswers, several}
use Rattle.fort_link.specs.Reading.{HasRead, ReadAnswers}
use Rattle.fort_link.specs.Spots.{StandsIn}
use Rattle.fort_link.specs.Whole.{IsWhole, components, main_head, last_end}
use Rattle.fort_link.proofs.Mains.{has_main, has_end}
use Rattle.fort_link.proofs.Spawning.{spawning}
use Rattle.fort_link.proofs.Units.{none_read}

-- ---- the whole

pub main_is_there : (names own : Spellings) (units us : List Unit) → own ≡ names → us ≡ units
    → 0 < length units → IsFirstBroken names units None
    → None ≡ main_head own (components us) → ⊥
main_is_there names own units us n u some keep h =
    has_main names units some keep
    (sym (h ∙ ap₂ (λ x y. main_head x (components y)) n u))

pub end_is_there : (names : Spellings) (units us : List Unit) → us ≡ units
    → 0 < length units → IsFirstBroken names units None → None ≡ last_end (components us) → ⊥
end_is_there names units us u some keep h =
    has_end names units some keep (sym (h ∙ ap (λ y. last_end (components y)) u))

-- ---- files

pub read_as : (files own : List (List ℕ)) (read : Read) → own ≡ files → HasRead own read
    → HasRead files read
read_as files own read e h = subst (λ z. HasRead z read) e h

pub some_read : (files own : List (List ℕ)) (read : Read) → own ≡ files → 1 ≤ length files
    → HasRead own read → 0 < length read.units
some_read files own read e some h =
    none_read empty_table files read.units read.table (read_as files own read e h).units
    (omega arith)

pub unread : (files own : List (List ℕ)) (fault : LinkFault) → own ≡ files
    → ReadAnswers own (Err fault) → LinkAnswers files (Err fault)
unread files own (a_fault.Refused rule spot) e h =
    subst (λ z. ReadAnswers z (Err (a_fault.Refused rule spot))) e h
unread files own a_fault.Memory e h = tt

pub broken_is : (files own : List (List ℕ)) (read : Read) (names : Spellings) (us : List Unit)
    (broken : Broken) (spot : Spot) → own ≡ files → HasRead own read
    → names ≡ read.table.names → us ≡ read.units → IsFirstBroken names us (Some broken)
    → StandsIn files broken.place spot
    → LinkAnswers files (Err (a_fault.Refused broken.rule spot))
broken_is files own read names us broken spot e h n u b stands =
    several read.units read.table broken (read_as files own read e h).units
    (subst (λ z. IsFirstBroken z read.units (Some broken)) n
    (subst (λ z. IsFirstBroken names z (Some broken)) u b))
    refl stands

pub kept_as : (read : Read) (names : Spellings) (us : List Unit) → names ≡ read.table.names
    → us ≡ read.units → IsFirstBroken names us None
    → IsFirstBroken read.table.names read.units None
kept_as read names us n u k =
    subst (λ z. IsFirstBroken z read.units None) n
    (subst (λ z. IsFirstBroken names z None) u k)

pub linked_is : (files own : List (List ℕ)) (read : Read) (it : Linked) → own ≡ files
    → HasRead own read → IsFirstBroken read.table.names read.units None
    → IsWhole read.table.names read.table.texts read.units it.parsed.component
    → it.spawns ≡ read.spawns → LinkAnswers files (Ok it)
linked_is files own read it e h keep whole spawns = (
  record {
    units = read.units;
    table = read.table;
    are = (read_as files own read e h).units;
    keep = keep;
    whole = whole;
  },
  spawns
      ∙ (h.spawns
      ∙ spawning read.table.names read.table.texts read.units it.parsed.component whole),
)
