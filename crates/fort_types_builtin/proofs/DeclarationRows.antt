-- The rows of the table of declarations that the code holds.
use Rattle.std.proofs.Common.{◌≡◌, ◌<◌, ◌+◌, ◌-◌, ℕ, zero, suc, Bool, true, cond, List, [], ◌∷◌, length, get_or, map, drop, Some, refl, sym, ap, ◌∙◌, subst, arith}
use Rattle.std.specs.Prelude.{filter}
use Rattle.std.specs.Borrow.{Bor}
use Rattle.std.specs.List.{slice_get}
use Rattle.std.proofs.lemmas.List.{at_drop_more}
use Rattle.std.proofs.lemmas.Option.{get_or_from_slice_get}
use Rattle.fort_core.specs.declared.primitive.Primitive.{Primitive}
use Rattle.fort_types_builtin.specs.declared.table.Simple.{Simple}
use Rattle.fort_types_builtin.specs.declared.table.TheConstants.{OPERATOR_COUNT, FUNCTION_COUNT}
use Rattle.fort_types_builtin.specs.Declarations.{declarations, declaration_of, declared_name, function_spellings, has, primitive_of}
use Rattle.fort_types_builtin.proofs.Lists.{get_mapped, get_dropped}

abbrev Row : Type 0
Row = Bor (List ℕ) × Bor (List Simple) × Simple × Primitive

pub functions_long : length function_spellings ≡ FUNCTION_COUNT
unfolding function_spellings declarations
functions_long = refl

pub function_within : (rows : List Row) (n : ℕ) (row : Row)
    → slice_get rows (OPERATOR_COUNT + n) ≡ Some row → map declaration_of rows ≡ declarations
    → row.0.now ≡ get_or function_spellings n []
unfolding function_spellings
function_within rows n row e t =
    sym (get_or_from_slice_get (map declared_name (drop OPERATOR_COUNT declarations)) n row.0.now []
    (get_mapped declared_name (drop OPERATOR_COUNT declarations) n (declaration_of row)
    (get_dropped declarations OPERATOR_COUNT n (OPERATOR_COUNT + n) (declaration_of row) refl
    (subst (λ z. slice_get z (OPERATOR_COUNT + n)
    ≡ Some (declaration_of row)) t
    (get_mapped declaration_of rows (OPERATOR_COUNT + n) row e)))))

-- ---- a walk over the rows

-- what the rows of a name and number of parameters are to the machine
abbrev Left : List ℕ → ℕ → List Row → List Primitive
Left name width rows = map primitive_of (filter (has name width) (map declaration_of rows))

left_first : (name : List ℕ) (width : ℕ) (row : Row) (rows : List Row) (n : ℕ) (r : Bool)
    → has name width (declaration_of row) ≡ r → r ≡ true
    → slice_get (Left name width (row ∷ rows)) (suc n) ≡ slice_get (Left name width rows) n
left_first name width row rows n r e q =
    ap (λ (b : Bool). slice_get
    (map primitive_of
    (cond b (declaration_of row ∷ filter (has name width) (map declaration_of rows))
    (filter (has name width) (map declaration_of rows)))) (suc n)) (e ∙ q)

pub next_taken : (name : List ℕ) (width : ℕ) (rows : List Row) (i left : ℕ) (d : Row) (r : Bool)
    → i < length rows → r ≡ has name width (declaration_of (get_or rows i d)) → r ≡ true
    → (left ≡ 0 → ⊥)
    → slice_get (Left name width (drop (i + 1) rows)) (left - 1)
    ≡ slice_get (Left name width (drop i rows)) left
next_taken name width rows i zero d r l e q n = absurd (n refl)
next_taken name width rows i (suc left) d r l e q n = let f : suc left - 1 ≡ left = omega arith in
    ap (λ k. slice_get (Left name width (drop (i + 1) rows)) k) f
    ∙ sym (left_first name width (get_or rows i d) (drop (i + 1) rows) left r (sym e) q)
    ∙ sym (at_drop_more (λ z. slice_get (Left name width z) (suc left)) rows i d l)
