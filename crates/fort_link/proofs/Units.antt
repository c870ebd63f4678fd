-- Units of files, one more at the end.
use Rattle.std.proofs.Common.{◌≡◌, ◌<◌, ℕ, ◌+◌, Bool, true, false, ◌||◌, List, [], ◌∷◌, ◌++◌, length, refl, sym, ap, subst, ◌∙◌, arith}
use Rattle.std.specs.List.{list_any}
use Rattle.fort_lex_token.specs.declared.token.Tokens.{Tokens}
use Rattle.fort_link_table.specs.declared.table.Table.{Table}
use Rattle.fort_link_table.specs.Table.{after}
use Rattle.fort_link_units.specs.declared.unit.Unit.{Unit}
use Rattle.fort_link.specs.Lines.{lines, all_lines}
use Rattle.fort_link.specs.Units.{IsUnitOf, AreUnits}
use Rattle.fort_link.specs.Reading.{unit_spawns}
use Rattle.fort_link.proofs.Sizes.{all_lines_cons}

pub one_more : (first : Table) (files : List (List ℕ)) (units : List Unit) (last : Table)
    (file : List ℕ) (tokens : Tokens) (unit : Unit) → AreUnits first files units last
    → IsUnitOf last file tokens unit
    → AreUnits first (files ++ file ∷ []) (units ++ unit ∷ []) (after last tokens (lines file))
one_more first [] units last file tokens unit h is =
    subst (λ z. AreUnits first (file ∷ []) (z ++ unit ∷ []) (after last tokens (lines file)))
    (sym h.0) (
      tokens,
      unit,
      [],
      refl,
      subst (λ (t : Table). IsUnitOf t file tokens unit) h.1 is,
      (refl, ap (λ (t : Table). after t tokens (lines file)) h.1),
    )
one_more first (x ∷ files) units last file tokens unit h is = (
  h.0,
  h.1,
  h.2 ++ unit ∷ [],
  ap (λ z. z ++ unit ∷ []) h.3,
  h.4,
  one_more (after first h.0 (lines x)) files h.2 last file tokens unit h.5 is,
)

pub any_last : (units : List Unit) (unit : Unit)
    → list_any unit_spawns (units ++ unit ∷ []) ≡ (list_any unit_spawns units || unit_spawns unit)
any_last [] unit = or_none (unit_spawns unit)
  where
    or_none : (b : Bool) → (b || false) ≡ b
    or_none true = refl
    or_none false = refl
any_last (u ∷ units) unit =
    ap (λ b. unit_spawns u || b) (any_last units unit)
    ∙ or_assoc (unit_spawns u) (list_any unit_spawns units) (unit_spawns unit)
  where
    or_assoc : (a b c : Bool) → (a || (b || c)) ≡ ((a || b) || c)
    or_assoc true b c = refl
    or_assoc false b c = refl

-- the lines of the table are those of the files
pub lines_of : (first : Table) (files : List (List ℕ)) (units : List Unit) (last : Table)
    → AreUnits first files units last → last.lines ≡ first.lines + all_lines files
lines_of first [] units last h = ap (λ (t : Table). t.lines) h.1 ∙ none
  where
    none : first.lines ≡ first.lines + all_lines []
    none = omega arith
lines_of first (x ∷ files) units last h =
    let e = lines_of (after first h.0 (lines x)) files h.2 last h.5 in
    let c = all_lines_cons x files in omega arith

pub none_read : (first : Table) (files : List (List ℕ)) (units : List Unit) (last : Table)
    → AreUnits first files units last → 0 < length files → 0 < length units
none_read first [] units last h l = absurd (omega (arith, l))
none_read first (x ∷ files) units last h l =
    subst (λ z. 0 < length z) (sym h.3) (omega arith)
