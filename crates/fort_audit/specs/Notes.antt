-- The notes of a refused record. It restates the table of the chapter "Audits" of docs/RECORDS.md.
use Rattle.std.specs.Prelude.{ℕ, List, ◌++◌, codes, decimal}
use Rattle.fort_audit.specs.declared.refusal.Why.{Why}
use Rattle.fort_audit.specs.declared.refusal.Why.TheVariants.{Form, Pick, Output}

-- record refused: WHAT NUMBER
abbrev pub note_of : Why → List ℕ
note_of (Form at) = codes "record refused: " ++ codes "form at byte " ++ decimal at ++ codes "\n"
note_of (Pick at) = codes "record refused: " ++ codes "pick " ++ decimal at ++ codes "\n"
note_of (Output at) =
    codes "record refused: " ++ codes "output at byte " ++ decimal at ++ codes "\n"
