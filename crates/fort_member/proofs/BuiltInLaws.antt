-- Each built-in declaration is well made.
use Rattle.std.proofs.Common.{◌≡◌, ◌≤◌, ℕ, true, false, List, [], ◌∷◌, ◌++◌, map, Some, None, sym, subst, arith}
use Rattle.std.specs.List.{flat_map, AllByRecursion}
use Rattle.fort_base.specs.declared.ty.Ty.{Ty}
use Rattle.fort_base.specs.declared.ty.Ty.TheVariants as a_type
use Rattle.fort_base.specs.declared.ids.TypeId.{TypeId}
use Rattle.fort_types.specs.Types.{IsNumbered}
use Rattle.fort_types_sets.specs.declared.member.MemberKind.TheVariants as a_kind
use Rattle.fort_types_sets.specs.Rules.{HasNamed}
use Rattle.fort_types_builtin.specs.declared.table.BuiltInDeclaration.{BuiltInDeclaration}
use Rattle.fort_types_builtin.specs.declared.types.TheConstants.{TYPE_COUNT, ZZ32, ZZ64, STRING, BOOLEAN, RANGE}
use Rattle.fort_types_builtin.specs.Declarations.{declarations}
use Rattle.fort_types_builtin.specs.Rows.{Signature, signature_of, zz32, zz64, string, boolean, range, unit, row, binary, unary, number_operators, comparisons, equalities, junctions, spans, printers, number_rows, comparison_rows, equality_rows, negation_rows, joining_rows, function_rows, all_number_rows, all_truth_rows, all_text_rows, all_function_rows, all_other_rows, all_rows}
use Rattle.fort_types_builtin.proofs.TableLaws.{has_rows}
use Rattle.fort_hier.specs.Names.{Spelling}
use Rattle.fort_member.specs.declared.entries.Entry.{Entry}
use Rattle.fort_member.specs.BuiltIn.{built_in_entry, built_in_entries}
use Rattle.fort_member.proofs.Numbered.{all_join, any_numbered, named_numbered, tuple_numbered}

-- What a set needs of each of its declarations, where the declared types have numbers below this.
pub record IsGood (n : ℕ) (e : Entry) : Type 0 where
  pub receiver : e.dotted ≡ true → (t : TypeId) × HasNamed e.member 0 t
  pub owner : (at : ℕ) (t : TypeId) → e.member.owner ≡ Some (at, t) → HasNamed e.member at t
  pub owned : e.member.kind ≡ a_kind.Abstract
      → (at : ℕ) × (t : TypeId) × (e.member.owner ≡ Some (at, t))
  pub parameters : AllByRecursion (IsNumbered n) e.member.parameters
  pub result : IsNumbered n e.member.result

all_mapped : {X Y : Type 0} (P : Y → Type 0) (f : X → Y) (xs : List X) → ((x : X) → P (f x))
    → AllByRecursion P (map f xs)
all_mapped P f [] h = tt
all_mapped P f (x ∷ xs) h = (h x, all_mapped P f xs h)

pub all_joined : {X Y : Type 0} (P : Y → Type 0) (f : X → List Y) (xs : List X)
    → ((x : X) → AllByRecursion P (f x)) → AllByRecursion P (flat_map f xs)
all_joined P f [] h = tt
all_joined P f (x ∷ xs) h = all_join P (f x) (flat_map f xs) (h x) (all_joined P f xs h)

-- a declaration by what its table says of it
abbrev entry_by : Signature → Entry
entry_by s =
    record {
      name = s.name;
      dotted = false;
      member = record {
        place = None;
        parameters = s.parameters;
        result = s.result;
        owner = None;
        kind = a_kind.BuiltIn;
      };
    }

module _ (n : ℕ) (many : TYPE_COUNT ≤ n) where
  abbrev Good : Signature → Type 0
  Good s = IsGood n (entry_by s)

  good_row : (name : Spelling) (parameters : List Ty) (result : Ty)
      → AllByRecursion (IsNumbered n) parameters → IsNumbered n result
      → Good (row name parameters result)
  good_row name parameters result h r = record {
    receiver = λ e. absurd cc;
    owner = λ at t e. absurd cc;
    owned = λ e. absurd cc;
    parameters = h;
    result = r;
  }

  short : IsNumbered n zz32
  short = named_numbered n ZZ32 (omega arith)

  long : IsNumbered n zz64
  long = named_numbered n ZZ64 (omega arith)

  text : IsNumbered n string
  text = named_numbered n STRING (omega arith)

  truth : IsNumbered n boolean
  truth = named_numbered n BOOLEAN (omega arith)

  span : IsNumbered n range
  span = named_numbered n RANGE (omega arith)

  nothing : IsNumbered n unit
  nothing = tuple_numbered n [] tt

  any : IsNumbered n a_type.Any
  any = any_numbered n

  two : (t r : Ty) → IsNumbered n t → IsNumbered n r → (name : Spelling) → Good (binary t r name)
  two t r h k name = good_row name (t ∷ t ∷ []) r (h, (h, tt)) k

  one : (t r : Ty) → IsNumbered n t → IsNumbered n r → (name : Spelling) → Good (unary t r name)
  one t r h k name = good_row name (t ∷ []) r (h, tt) k

  good_numbers : AllByRecursion Good all_number_rows
  good_numbers =
      all_join Good (flat_map number_rows number_operators)
      (negation_rows ++ flat_map comparison_rows comparisons)
      (all_joined Good number_rows number_operators
      (λ name. (two zz32 zz32 short short name, (two zz64 zz64 long long name, tt))))
      (all_join Good negation_rows (flat_map comparison_rows comparisons)
      (one zz32 zz32 short short _, (one zz64 zz64 long long _, tt))
      (all_joined Good comparison_rows comparisons
      (λ name. (
        two zz32 boolean short truth name,
        (two zz64 boolean long truth name, tt),
      ))))

  good_truths : AllByRecursion Good all_truth_rows
  good_truths =
      all_join Good (flat_map equality_rows equalities)
      (binary a_type.Any boolean _
      ∷ (map (binary boolean boolean) junctions ++ unary boolean boolean _ ∷ []))
      (all_joined Good equality_rows equalities
      (λ name. (
        two string boolean text truth name,
        (two boolean boolean truth truth name, tt),
      ))) (
        two a_type.Any boolean any truth _,
        all_join Good (map (binary boolean boolean) junctions) (unary boolean boolean _ ∷ [])
            (all_mapped Good (binary boolean boolean) junctions (two boolean boolean truth truth))
            (one boolean boolean truth truth _, tt),
      )

  good_texts : AllByRecursion Good all_text_rows
  good_texts =
      all_join Good (map (binary zz32 range) spans) joining_rows
      (all_mapped Good (binary zz32 range) spans (two zz32 range short span)) (
        good_row _ (string ∷ a_type.Any ∷ []) string (text, (any, tt)) text,
        (
          good_row _ (a_type.Any ∷ string ∷ []) string (any, (text, tt)) text,
          (good_row _ (string ∷ string ∷ []) string (text, (text, tt)) text, tt),
        ),
      )

  good_functions : AllByRecursion Good all_function_rows
  good_functions =
      all_join Good (map (unary a_type.Any unit) printers) function_rows
      (all_mapped Good (unary a_type.Any unit) printers (one a_type.Any unit any nothing)) (
        good_row _ [] unit tt nothing,
        (
          one zz32 zz64 short long _,
          (one zz64 zz32 long short _, (one string zz32 text short _, tt)),
        ),
      )

  good_rows : AllByRecursion Good all_rows
  good_rows = all_join Good all_number_rows (all_truth_rows ++ all_other_rows) good_numbers
      (all_join Good all_truth_rows all_other_rows good_truths
      (all_join Good all_text_rows all_function_rows good_texts good_functions))

  all_of : (ds : List BuiltInDeclaration) → AllByRecursion Good (map signature_of ds)
      → AllByRecursion (IsGood n) (map built_in_entry ds)
  all_of [] h = tt
  all_of (d ∷ ds) h = (h.0, all_of ds h.1)

  pub good_built_in : AllByRecursion (IsGood n) built_in_entries
  good_built_in = all_of declarations (subst (AllByRecursion Good) (sym has_rows) good_rows)
