-- Where no part begins the tokens that are left at a token, none begins there.
use Rattle.std.proofs.Common.{◌≡◌, ℕ, ◌-◌, ◌≤◌, length, take, drop, sym, subst, arith}
use Rattle.std.specs.Prelude.{slice_range}
use Rattle.std.proofs.lemmas.List.{length-drop, take_rest}
use Rattle.fort_tree.specs.declared.expr.Expr.{Expr}
use Rattle.fort_tree.specs.declared.types.TypeTree.{TypeTree}
use Rattle.fort_tree.specs.Tokens.{Spellings}
use Rattle.fort_tree.specs.Said.{Said, elsewhere}
use Rattle.fort_tree.specs.Types.{said_type}
use Rattle.fort_tree.specs.Yield.{said_expr}
use Rattle.fort_tree.specs.Component.{HasExpr, HasType}
use Rattle.fort_parse_reading.specs.Parser.{Row}
use Rattle.fort_parse_reading.specs.Longest.{HasTree, NoPart}
use Rattle.fort_parse_longest.specs.Parts.{IsPart, BeginsNone}

module _ {A : Type 0} (names : Spellings) (said : A → Said) (Has : Row → A → Type 0)
    (to : (us : Row) (y : A) → Has us y → HasTree names elsewhere said us y) where
  -- the tokens of a part that begins at `at` are first ones of those left there
  part_left : (ts : Row) (at behind : ℕ) (y : A) → IsPart Has ts at behind y
      → (behind - at ≤ length (drop at ts))
      × HasTree names elsewhere said (take (behind - at) (drop at ts)) y
  part_left ts at behind y p =
      let size : length (drop at ts) ≡ length ts - at = length-drop at ts in
      let within : behind ≤ length ts = p.within in
      (omega arith, to _ y p.tree)

  -- where no part begins them, none begins at `at`
  none_stands : (ts : Row) (at : ℕ) → NoPart names elsewhere said (slice_range ts at (length ts))
      → BeginsNone Has ts at
  none_stands ts at none behind y p =
      let left = part_left ts at behind y p in
      (subst (λ
      (us : Row). NoPart names elsewhere said us) (take_rest ts at) none) (behind - at) y
      left.0 left.1

-- ---- expressions

to_expr : (names : Spellings) (us : Row) (y : Expr) → HasExpr names us y
    → HasTree names elsewhere said_expr us y
to_expr names us y h = record { tokens = sym h.0; obeys = h.1 }

pub no_expr : (names names' : Spellings) (ts ts' : Row) (at : ℕ) → names' ≡ names → ts' ≡ ts
    → NoPart names' elsewhere said_expr (slice_range ts' at (length ts'))
    → BeginsNone (HasExpr names) ts at
no_expr names names' ts ts' at e f none =
    none_stands names said_expr (HasExpr names) (to_expr names) ts at
    (subst (λ (us : Row). NoPart names elsewhere said_expr (slice_range us at (length us))) f
    (subst (λ
    (ns : Spellings). NoPart ns elsewhere said_expr (slice_range ts' at (length ts'))) e
    none))

-- ---- types

to_type : (names : Spellings) (us : Row) (y : TypeTree) → HasType names us y
    → HasTree names elsewhere said_type us y
to_type names us y h = record { tokens = sym h.0; obeys = h.1 }

pub no_type : (names names' : Spellings) (ts ts' : Row) (at : ℕ) → names' ≡ names → ts' ≡ ts
    → NoPart names' elsewhere said_type (slice_range ts' at (length ts'))
    → BeginsNone (HasType names) ts at
no_type names names' ts ts' at e f none =
    none_stands names said_type (HasType names) (to_type names) ts at
    (subst (λ (us : Row). NoPart names elsewhere said_type (slice_range us at (length us))) f
    (subst (λ
    (ns : Spellings). NoPart ns elsewhere said_type (slice_range ts' at (length ts'))) e
    none))
