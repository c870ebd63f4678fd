-- The chapter "Members", its table of built-in declarations, row by row. The code holds a row for
-- each declaration, with what it is to the machine.
use Rattle.std.specs.Prelude.{ℕ, List, [], ◌∷◌, ◌++◌, codes, map}
use Rattle.std.specs.List.{flat_map}
use Rattle.fort_base.specs.declared.ty.Ty.{Ty}
use Rattle.fort_base.specs.declared.ty.Ty.TheVariants as a_type
use Rattle.fort_types_builtin.specs.declared.table.BuiltInDeclaration.{BuiltInDeclaration}
use Rattle.fort_types_builtin.specs.declared.types.TheConstants.{ZZ32, ZZ64, STRING, BOOLEAN, RANGE}

-- What a declaration is but for what it does: its name, the types of its parameters, and the type
-- of its result.
pub record Signature : Type 0 where
  pub name : List ℕ
  pub parameters : List Ty
  pub result : Ty

abbrev pub signature_of : BuiltInDeclaration → Signature
signature_of d = record { name = d.name; parameters = d.parameters; result = d.result }

-- ---- the types

abbrev pub zz32 : Ty
zz32 = a_type.Named ZZ32

abbrev pub zz64 : Ty
zz64 = a_type.Named ZZ64

abbrev pub string : Ty
string = a_type.Named STRING

abbrev pub boolean : Ty
boolean = a_type.Named BOOLEAN

abbrev pub range : Ty
range = a_type.Named RANGE

abbrev pub unit : Ty
unit = a_type.Tuple []

-- ---- rows

abbrev pub row : List ℕ → List Ty → Ty → Signature
row name parameters result = record { name = name; parameters = parameters; result = result }

-- two of one type to a result
abbrev pub binary : Ty → Ty → List ℕ → Signature
binary t result name = row name (t ∷ t ∷ []) result

-- one to a result
abbrev pub unary : Ty → Ty → List ℕ → Signature
unary t result name = row name (t ∷ []) result

-- ---- names

abbrev pub number_operators : List (List ℕ)
number_operators =
    codes "+" ∷ codes "-" ∷ codes "TIMES" ∷ codes "DOT" ∷ codes "juxtaposition" ∷ codes "MAX"
    ∷ codes "MIN" ∷ codes "DIV" ∷ codes "REM" ∷ codes "MOD"
    ∷ codes "GCD" ∷ codes "LCM" ∷ codes "BITAND" ∷ codes "BITOR" ∷ codes "BITXOR" ∷ codes "LSHIFT"
    ∷ codes "RSHIFT" ∷ codes "^" ∷ []

abbrev pub comparisons : List (List ℕ)
comparisons = codes "=" ∷ codes "=/=" ∷ codes "<" ∷ codes "<=" ∷ codes ">" ∷ codes ">=" ∷ []

abbrev pub equalities : List (List ℕ)
equalities = codes "=" ∷ codes "=/=" ∷ []

abbrev pub junctions : List (List ℕ)
junctions = codes "AND" ∷ codes "OR" ∷ []

abbrev pub spans : List (List ℕ)
spans = codes ":" ∷ codes "#" ∷ []

abbrev pub printers : List (List ℕ)
printers = codes "println" ∷ codes "print" ∷ []

-- ---- all, in their order

-- on numbers of one type to one of it, each first on ZZ32 and then on ZZ64
abbrev pub number_rows : List ℕ → List Signature
number_rows name = binary zz32 zz32 name ∷ binary zz64 zz64 name ∷ []

-- numbers compared
abbrev pub comparison_rows : List ℕ → List Signature
comparison_rows name = binary zz32 boolean name ∷ binary zz64 boolean name ∷ []

-- texts and Booleans compared
abbrev pub equality_rows : List ℕ → List Signature
equality_rows name = binary string boolean name ∷ binary boolean boolean name ∷ []

-- the negative number
abbrev pub negation_rows : List Signature
negation_rows = unary zz32 zz32 (codes "-") ∷ unary zz64 zz64 (codes "-") ∷ []

-- texts joined
abbrev pub joining_rows : List Signature
joining_rows =
    row (codes "juxtaposition") (string ∷ a_type.Any ∷ []) string
    ∷ row (codes "juxtaposition") (a_type.Any ∷ string ∷ []) string
    ∷ row (codes "juxtaposition") (string ∷ string ∷ []) string ∷ []

-- functions beside the printing ones
abbrev pub function_rows : List Signature
function_rows =
    row (codes "abort") [] unit ∷ unary zz32 zz64 (codes "widen") ∷ unary zz64 zz32 (codes "narrow")
    ∷ unary string zz32 (codes "length") ∷ []

-- on numbers
abbrev pub all_number_rows : List Signature
all_number_rows =
    flat_map number_rows number_operators ++ (negation_rows ++ flat_map comparison_rows comparisons)

-- on texts, Booleans and all values
abbrev pub all_truth_rows : List Signature
all_truth_rows =
    flat_map equality_rows equalities ++ binary a_type.Any boolean (codes "===")
    ∷ (map (binary boolean boolean) junctions ++ unary boolean boolean (codes "NOT") ∷ [])

-- ranges and texts
abbrev pub all_text_rows : List Signature
all_text_rows = map (binary zz32 range) spans ++ joining_rows

-- functions
abbrev pub all_function_rows : List Signature
all_function_rows = map (unary a_type.Any unit) printers ++ function_rows

-- ranges, texts and functions
abbrev pub all_other_rows : List Signature
all_other_rows = all_text_rows ++ all_function_rows

abbrev pub all_rows : List Signature
all_rows = all_number_rows ++ (all_truth_rows ++ all_other_rows)
