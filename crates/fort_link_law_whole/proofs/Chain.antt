-- What is so of the tokens of each of several files.
use Rattle.std.proofs.Common.{◌≡◌, ◌≤◌, ℕ, ◌+◌, true, List, [], ◌∷◌, ◌++◌, length, refl, sym, ap, ◌∙◌, arith, length-append}
use Rattle.std.specs.Prelude.{⊤}
use Rattle.std.specs.List.{AllByRecursion}
use Rattle.std.proofs.lemmas.Bool.{ltb-true, lt-ltb}
use Rattle.fort_ops.specs.declared.op.Op.TheVariants as op
use Rattle.fort_lex_token.specs.declared.token.Kind.{Kind}
use Rattle.fort_lex_token.specs.declared.token.Kind.TheVariants as kind
use Rattle.fort_lex_token.specs.declared.token.Token.{Token}
use Rattle.fort_lex_token.specs.declared.token.Tokens.{Tokens}
use Rattle.fort_lex.specs.Files.{HasTokens}
use Rattle.fort_link_table.specs.declared.table.Table.{Table}
use Rattle.fort_link_table.specs.Names.{Spelling, grown}
use Rattle.fort_link_table.specs.Table.{joined, after}
use Rattle.fort_link_table.specs.Laws.{NamesGoOn, JoinedNamesAreIn, JoinedNumbersFit, JoinedStandsApart, JoinedStandsBehind, StandApart, NamesAreIn, Fits, IsOnLines, name_is_in}
use Rattle.fort_link_units.specs.declared.unit.Unit.{Unit}
use Rattle.fort_link.specs.Lines.{lines}
use Rattle.fort_link.specs.Units.{AreUnits}

-- It is so of each token of the files in the whole.
abbrev pub AllOf : (P : Token → Type 0) (first : Table) (files : List (List ℕ)) (units : List Unit)
    (last : Table) → AreUnits first files units last → Type 0
AllOf P first [] units last h = ⊤
AllOf P first (f ∷ fs) units last h = AllByRecursion P (joined first h.0).list
    × AllOf P (after first h.0 (lines f)) fs h.2 last h.5

-- The tokens of each file stand apart in the whole, on its lines there.
abbrev pub ApartOf : (first : Table) (files : List (List ℕ)) (units : List Unit) (last : Table)
    → AreUnits first files units last → Type 0
ApartOf first [] units last h = ⊤
ApartOf first (f ∷ fs) units last h = StandApart (joined first h.0).list
    × AllByRecursion (IsOnLines (first.lines + 1) (first.lines + lines f)) (joined first h.0).list
    × ApartOf (after first h.0 (lines f)) fs h.2 last h.5

-- ---- names

-- the names of the first table are those at the front of the last
pub names_on : NamesGoOn → (first : Table) (files : List (List ℕ)) (units : List Unit)
    (last : Table) → AreUnits first files units last
    → (more : List Spelling) × (last.names ≡ first.names ++ more)
names_on on first [] units last h =
    ([], ap (λ (t : Table). t.names) h.1 ∙ sym (none first.names))
  where
    none : (xs : List Spelling) → xs ++ [] ≡ xs
    none [] = refl
    none (x ∷ xs) = ap (λ z. x ∷ z) (none xs)
names_on on first (f ∷ fs) units last h =
    let one = on first.names h.0.names in
    let rest = names_on on (after first h.0 (lines f)) fs h.2 last h.5 in (
      one.0 ++ rest.0,
      rest.1 ∙ (ap (λ z. z ++ rest.0) one.1 ∙ assoc first.names one.0 rest.0),
    )
  where
    assoc : (a b c : List Spelling) → (a ++ b) ++ c ≡ a ++ (b ++ c)
    assoc [] b c = refl
    assoc (t ∷ a) b c = ap (λ z. t ∷ z) (assoc a b c)

in_more : (n m : ℕ) → n ≤ m → (k : Kind) → name_is_in n k ≡ true → name_is_in m k ≡ true
in_more n m l (kind.Name id) e =
    let h = ltb-true id.0 n e in lt-ltb id.0 m (omega arith)
in_more n m l (kind.Op (op.Word w)) e = let h = ltb-true w n e in lt-ltb w m (omega arith)
in_more n m l _ e = refl

all_more : (n m : ℕ) → n ≤ m → (ts : List Token)
    → AllByRecursion (λ (t : Token). name_is_in n t.kind ≡ true) ts
    → AllByRecursion (λ (t : Token). name_is_in m t.kind ≡ true) ts
all_more n m l [] h = tt
all_more n m l (t ∷ ts) h = (in_more n m l t.kind h.0, all_more n m l ts h.1)

pub named_of : NamesGoOn → JoinedNamesAreIn
    → ((file : List ℕ) (tokens : Tokens) → HasTokens file tokens
    → NamesAreIn tokens.names tokens.list)
    → (first : Table) (files : List (List ℕ)) (units : List Unit) (last : Table)
    → (h : AreUnits first files units last)
    → AllOf (λ t. name_is_in (length last.names) t.kind ≡ true) first files units last h
named_of on keep file_named first [] units last h = tt
named_of on keep file_named first (f ∷ fs) units last h =
    let more = names_on on (after first h.0 (lines f)) fs h.2 last h.5 in
    let e = ap length more.1 in
    let l = length-append (grown first.names h.0.names) more.0 in (
      all_more (length (grown first.names h.0.names)) (length last.names) (omega arith)
          (joined first h.0).list (keep first h.0 (file_named f h.0 h.4.has)),
      named_of on keep file_named (after first h.0 (lines f)) fs h.2 last h.5,
    )

-- ---- numbers

pub fit_of : JoinedNumbersFit
    → ((file : List ℕ) (tokens : Tokens) → HasTokens file tokens
    → AllByRecursion Fits tokens.list)
    → (first : Table) (files : List (List ℕ)) (units : List Unit) (last : Table)
    → (h : AreUnits first files units last) → AllOf Fits first files units last h
fit_of keep file_fits first [] units last h = tt
fit_of keep file_fits first (f ∷ fs) units last h = (
  keep first h.0 (file_fits f h.0 h.4.has),
  fit_of keep file_fits (after first h.0 (lines f)) fs h.2 last h.5,
)

-- ---- places

both_lines : (n : ℕ) (ts : List Token) → AllByRecursion (λ (t : Token). 1 ≤ t.place.line) ts
    → AllByRecursion (λ (t : Token). t.place.line ≤ n) ts → AllByRecursion (IsOnLines 1 n) ts
both_lines n [] h k = tt
both_lines n (t ∷ ts) h k = ((h.0, k.0), both_lines n ts h.1 k.1)

pub apart_of : JoinedStandsApart → JoinedStandsBehind
    → ((file : List ℕ) (tokens : Tokens) → HasTokens file tokens → StandApart tokens.list)
    → ((file : List ℕ) (tokens : Tokens) → HasTokens file tokens
    → AllByRecursion (λ (t : Token). 1 ≤ t.place.line) tokens.list)
    → ((file : List ℕ) (tokens : Tokens) → HasTokens file tokens
    → AllByRecursion (λ (t : Token). t.place.line ≤ lines file) tokens.list)
    → (first : Table) (files : List (List ℕ)) (units : List Unit) (last : Table)
    → (h : AreUnits first files units last) → ApartOf first files units last h
apart_of apart behind file_apart from_one up_to first [] units last h = tt
apart_of apart behind file_apart from_one up_to first (f ∷ fs) units last h = (
  apart first h.0 (file_apart f h.0 h.4.has),
  behind first h.0 1 (lines f)
      (both_lines (lines f) h.0.list (from_one f h.0 h.4.has) (up_to f h.0 h.4.has)),
  apart_of apart behind file_apart from_one up_to (after first h.0 (lines f)) fs h.2 last h.5,
)

lines_from_one : (a b : ℕ) (ts : List Token) → AllByRecursion (IsOnLines (a + 1) b) ts
    → AllByRecursion (λ (t : Token). 1 ≤ t.place.line) ts
lines_from_one a b [] h = tt
lines_from_one a b (t ∷ ts) h = (let k = h.0.0 in omega arith, lines_from_one a b ts h.1)

pub lined_of : (first : Table) (files : List (List ℕ)) (units : List Unit) (last : Table)
    → (h : AreUnits first files units last) → ApartOf first files units last h
    → AllOf (λ t. 1 ≤ t.place.line) first files units last h
lined_of first [] units last h a = tt
lined_of first (f ∷ fs) units last h a = (
  lines_from_one first.lines (first.lines + lines f) (joined first h.0).list a.1,
  lined_of (after first h.0 (lines f)) fs h.2 last h.5 a.2,
)
