-- Chapter "The text of a record" of docs/RECORDS.md: a journal and an output as bytes, and which
-- bytes begin a record. The code reads byte by byte; here a text is put together.
use Rattle.std.specs.Prelude.{◌≡◌, ℕ, ◌+◌, ◌<◌, ◌≤◌, ◌^◌, List, [], ◌∷◌, ◌++◌, length, take, map, codes, decimal}
use Rattle.fort_base.specs.declared.ids.Loc.{Loc}
use Rattle.fort_base.specs.declared.ids.TypeId.{TypeId}
use Rattle.fort_core.specs.declared.journal.Ending.{Ending}
use Rattle.fort_core.specs.declared.journal.Ending.TheVariants.{NotRun, Completed, Uncaught, OutOfFuel}
use Rattle.fort_core.specs.declared.journal.Journal.{Journal}
use Rattle.fort_core.specs.declared.path.Path.{Path}
use Rattle.fort_core.specs.declared.pick.Pick.{Pick, Step, Attempt, fold-Pick}
use Rattle.fort_core.specs.declared.pick.Pick.TheOpen.{Pick-F}
use Rattle.fort_core.specs.declared.term.Term.{Term}
use Rattle.fort_core.specs.declared.term.Term.TheOpen.{Value-F}
use Rattle.fort_core.specs.declared.value.Closure.{Closure}
use Rattle.fort_core.specs.declared.value.Value.{Value, Object, out-Value}
use Rattle.fort_audit_record.specs.declared.reading.AuditFault.{AuditFault}
use Rattle.fort_audit_record.specs.declared.reading.AuditFault.TheVariants as a_fault

-- ---- numbers, paths, picks

-- the numbers of a path behind the first, each behind a point
abbrev pub further : List ℕ → List ℕ
further [] = []
further (n ∷ ns) = 46 ∷ (decimal n ++ further ns)

-- a path: its numbers with points between them, or `-`
abbrev pub path_text : List ℕ → List ℕ
path_text [] = codes "-"
path_text (n ∷ ns) = decimal n ++ further ns

-- texts one after another
abbrev pub joined : List (List ℕ) → List ℕ
joined [] = []
joined (t ∷ ts) = t ++ joined ts

-- a step: its path and its location; an attempt: its path, its picks, and `z`
abbrev pub pick_layer : Pick-F (List ℕ) → List ℕ
pick_layer (Pick-F.Step path loc) =
    codes "s " ++ (path_text path.0 ++ (32 ∷ (decimal loc.0 ++ 10 ∷ [])))
pick_layer (Pick-F.Attempt path inner) =
    codes "a " ++ (path_text path.0 ++ (10 ∷ (joined inner ++ (122 ∷ 10 ∷ []))))

abbrev pub pick_text : Pick → List ℕ
pick_text = fold-Pick (List ℕ) pick_layer

abbrev pub picks_text : List Pick → List ℕ
picks_text ps = joined (map pick_text ps)

-- ---- endings and records

-- a thrown object, by its type and its base
abbrev pub thrown_text : Value-F Term Value Closure → List ℕ
thrown_text (Value-F.Object id loc) =
    codes "uncaught " ++ (decimal id.0 ++ (32 ∷ (decimal loc.0 ++ 10 ∷ [])))
thrown_text v = []

abbrev pub ending_text : Ending → List ℕ
ending_text NotRun = []
ending_text Completed = codes "completed" ++ 10 ∷ []
ending_text (Uncaught v) = thrown_text (out-Value v)
ending_text (OutOfFuel p) = codes "out" ++ 10 ∷ pick_text p

-- The text of a journal and an output.
abbrev pub record_text : Journal → List ℕ → List ℕ
record_text j output =
    codes "fortress record 1"
    ++ (10 ∷ (codes "fuel "
    ++ (decimal j.fuel
    ++ (10 ∷ (picks_text j.picks
    ++ (ending_text j.ending
    ++ (codes "output " ++ (decimal (length output) ++ (10 ∷ output)))))))))

-- ---- which journals and outputs have a text

-- Each number of a path is below 2 to the 32.
abbrev pub FitPath : List ℕ → Type 0
FitPath [] = Unit {0}
FitPath (n ∷ ns) = (n < 2 ^ 32) × FitPath ns

-- Each number in picks is within its bounds.
mutual
  pub data FitPick : Pick → Type 0 where
    fit_step : {p : Pick} (path : Path) (loc : Loc) → p ≡ Step path loc → FitPath path.0
        → loc.0 < 2 ^ 64 → FitPick p
    fit_attempt : {p : Pick} (path : Path) (inner : List Pick) → p ≡ Attempt path inner
        → FitPath path.0 → FitPicks inner → FitPick p

  pub data FitPicks : List Pick → Type 0 where
    fit_none : FitPicks []
    fit_more : {p : Pick} {ps : List Pick} → FitPick p → FitPicks ps → FitPicks (p ∷ ps)

-- What was thrown is an object.
pub record IsThrown (v : Value) : Type 0 where
  pub id : TypeId
  pub loc : Loc
  pub is_object : v ≡ Object id loc
  pub id_fits : id.0 < 2 ^ 32
  pub loc_fits : loc.0 < 2 ^ 64

-- A run has an ending, and one that is uncaught has an object that was thrown.
abbrev pub FitEnding : Ending → Type 0
FitEnding NotRun = ⊥
FitEnding Completed = Unit {0}
FitEnding (Uncaught v) = IsThrown v
FitEnding (OutOfFuel p) = FitPick p

-- An ending has a text: a run has one, and where it is uncaught, what was thrown is an object.
abbrev pub HasText : Ending → Type 0
HasText NotRun = ⊥
HasText Completed = Unit {0}
HasText (Uncaught v) = (id : TypeId) × (loc : Loc) × (v ≡ Object id loc)
HasText (OutOfFuel p) = Unit {0}

-- A journal and an output have a text.
pub record IsRecord (j : Journal) (output : List ℕ) : Type 0 where
  pub fuel : j.fuel < 2 ^ 64
  pub picks : FitPicks j.picks
  pub ending : FitEnding j.ending
  pub size : length output < 2 ^ 64

-- Bytes are the text of this journal and output.
pub record IsRecordText (bytes : List ℕ) (j : Journal) (output : List ℕ) : Type 0 where
  pub fits : IsRecord j output
  pub is_text : bytes ≡ record_text j output

-- Bytes begin a record.
pub record BeginsRecord (front : List ℕ) : Type 0 where
  pub more : List ℕ
  pub journal : Journal
  pub output : List ℕ
  pub whole : IsRecordText (front ++ more) journal output

-- The first byte, from 0, up to which and with which bytes begin no record; or their number, where
-- they begin one and are none.
pub record IsFormFault (bytes : List ℕ) (at : ℕ) : Type 0 where
  pub within : at ≤ length bytes
  pub begins : BeginsRecord (take at bytes)
  pub stops : at < length bytes → BeginsRecord (take (at + 1) bytes) → ⊥
  pub no_record : (j : Journal) (output : List ℕ) → IsRecordText bytes j output → ⊥

-- Why bytes aren't read.
abbrev pub IsFault : List ℕ → AuditFault → Type 0
IsFault bytes (a_fault.Form at) = IsFormFault bytes at
IsFault bytes a_fault.Memory = Unit {0}

-- Bytes are the text of one record at most.
abbrev pub OneRecord : Type 0
OneRecord = (bytes : List ℕ) (j k : Journal) (output other : List ℕ) → IsRecordText bytes j output
    → IsRecordText bytes k other → (j ≡ k) × (output ≡ other)
