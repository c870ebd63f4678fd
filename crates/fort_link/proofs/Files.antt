-- A further file of those that were read.
use Rattle.std.proofs.Common.{◌≡◌, ◌<◌, ◌≤◌, ℕ, ◌+◌, ◌||◌, List, [], ◌∷◌, ◌++◌, length, map, sum, take, drop, get_or, Err, refl, sym, ap, subst, ◌∙◌, arith}
use Rattle.std.specs.List.{list_any}
use Rattle.std.proofs.lemmas.List.{take_more, length-take-le}
use Rattle.fort_base.specs.declared.refusal.CheckFault.{CheckFault}
use Rattle.fort_base.specs.declared.refusal.CheckFault.TheVariants as a_check
use Rattle.fort_base.specs.declared.refusal.Place.{Place}
use Rattle.fort_base.specs.declared.refusal.Rule.{Rule}
use Rattle.fort_lex_token.specs.declared.token.Token.{Token}
use Rattle.fort_lex_token.specs.declared.token.Tokens.{Tokens}
use Rattle.fort_lex.specs.Files.{HasTokens}
use Rattle.fort_spawn.specs.Rewritten.{has_spawn}
use Rattle.fort_link_table.specs.declared.table.Table.{Table}
use Rattle.fort_link_table.specs.Table.{empty_table, joined, after}
use Rattle.fort_link_units.specs.declared.unit.Unit.{Unit}
use Rattle.fort_link_units.specs.declared.unit.Unit.TheVariants as a_unit
use Rattle.fort_link_units.specs.Answer.{IsUnit, BreaksUnit}
use Rattle.fort_link_units.specs.Said.{HasUnit}
use Rattle.fort_link.specs.declared.reading.Read.{Read}
use Rattle.fort_link.specs.Answer.{one}
use Rattle.fort_link.specs.Lines.{lines}
use Rattle.fort_link.specs.Units.{AreUnits, BreaksFile, reading, place_in_file}
use Rattle.fort_link.specs.Reading.{HasRead, Adds, AddAnswers, ReadAnswers, in_file, spawns_by, unit_spawns}
use Rattle.fort_link.proofs.Sizes.{split_at, next_lines, one_small}
use Rattle.fort_link.proofs.Units.{one_more, any_last, lines_of}

-- ---- one file

spawns_same : (tokens : Tokens) (u : Unit) → HasUnit tokens u
    → spawns_by u tokens.list ≡ unit_spawns u
spawns_same tokens (a_unit.Component u) h = ap has_spawn (sym h.yields)
spawns_same tokens (a_unit.Api a) h = refl

pub adds : (old new : Read) (file : List ℕ) (list : List Token) (own whole : Tokens) (unit : Unit)
    (n : ℕ) → HasTokens file own → n ≡ lines file → whole ≡ joined old.table own
    → new.table ≡ after old.table own n → IsUnit whole unit → new.units ≡ old.units ++ unit ∷ []
    → list ≡ whole.list → new.spawns ≡ (old.spawns || spawns_by unit list)
    → Adds old file new
adds old new file list own whole unit n has e j a is units l spawns = record {
  tokens = own;
  unit = unit;
  is = record { has = has; is = subst (λ (ts : Tokens). IsUnit ts unit) j is };
  table = a ∙ ap (after old.table own) e;
  units = units;
  spawns = spawns
      ∙ ap (λ b. old.spawns || b) (ap (spawns_by unit) l ∙ spawns_same whole unit is.tree);
}

same_place : (before : ℕ) (f : Token → Token) (ts : List Token) (at : Place)
    → place_in_file before (map f ts) at ≡ place_in_file before ts at
same_place before f [] at = refl
same_place before f (t ∷ ts) at = refl

pub breaks : (table : Table) (file : List ℕ) (list : List Token) (own whole : Tokens) (rule : Rule)
    (at place : Place) → HasTokens file own → whole ≡ joined table own
    → BreaksUnit whole rule.0 at → list ≡ whole.list → place ≡ place_in_file table.lines list at
    → BreaksFile table file rule place
breaks table file list own whole rule at place has j b l p =
    reading own at has (subst (λ (ts : Tokens). BreaksUnit ts rule.0 at) j b)
    (p ∙ (ap (λ ts. place_in_file table.lines ts at) (l ∙ ap (λ (ts : Tokens). ts.list) j)
    ∙ same_place table.lines _ own.list at))

-- ---- all files

pub file_short : (files : List (List ℕ)) (i : ℕ) (file d : List ℕ) → i < length files
    → file ≡ get_or files i d → sum (map length files) ≤ 1048576 → length file ≤ 1048576
file_short files i file d l e small =
    let a = one_small files i d l in subst (λ z. length z ≤ 1048576) (sym e) (omega arith)

pub file_room : (files : List (List ℕ)) (i : ℕ) (file d : List ℕ) (read : Read) → i < length files
    → length files ≤ 64 → sum (map length files) ≤ 1048576 → file ≡ get_or files i d
    → HasRead (take i files) read → read.table.lines + lines file < 4294967296
file_room files i file d read l count small e h =
    let a = lines_of empty_table (take i files) read.units read.table h.units in
    let b = next_lines files i d l count small in
    subst (λ z. read.table.lines + lines z < 4294967296) (sym e) (omega arith)

pub read_more : (files : List (List ℕ)) (i : ℕ) (file d : List ℕ) (old new : Read)
    → i < length files → file ≡ get_or files i d → HasRead (take i files) old
    → Adds old file new → HasRead (take (i + 1) files) new
read_more files i file d old new l e h a = record {
  units = subst (λ z. AreUnits empty_table z new.units new.table)
      (ap (λ z. take i files ++ z ∷ []) e ∙ sym (take_more files i d l))
      (subst (λ us. AreUnits empty_table (take i files ++ file ∷ []) us new.table) (sym a.units)
      (subst (λ (t : Table). AreUnits empty_table (take i files ++ file ∷ [])
      (old.units ++ a.unit ∷ []) t) (sym a.table)
      (one_more empty_table (take i files) old.units old.table file a.tokens a.unit h.units a.is)));
  spawns = a.spawns
      ∙ (ap (λ b. b || unit_spawns a.unit) h.spawns
      ∙ (sym (any_last old.units a.unit) ∙ ap (list_any unit_spawns) (sym a.units)));
}

pub refused : (files : List (List ℕ)) (i : ℕ) (file d : List ℕ) (old new : Read)
    (fault : CheckFault) → i < length files → file ≡ get_or files i d
    → HasRead (take i files) old → AddAnswers old file new (Err fault)
    → ReadAnswers files (Err (in_file i fault))
refused files i file d old new (a_check.Refused rule place) l e h a =
    one (take i files) (get_or files i d) (drop (i + 1) files) old.units old.table
    (split_at files i d l) h.units (subst (λ z. BreaksFile old.table z rule place) e a)
    (sym (length-take-le i files (omega arith)))
refused files i file d old new a_check.Memory l e h a = tt
