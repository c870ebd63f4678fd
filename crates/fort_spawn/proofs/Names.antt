-- What a renamed declaration says differs in numbers of names alone.
use Rattle.std.proofs.Common.{◌≡◌, ℕ, Bool, true, false, ◌&&◌, List, [], ◌∷◌, ◌++◌, Option, Some, None, cond, map, refl, sym, ap, ap₂, ◌∙◌, length}
use Rattle.std.specs.Prelude.{option_map}
use Rattle.std.proofs.lemmas.List.{map-append}
use Rattle.fort_base.specs.declared.ids.NameId.{NameId}
use Rattle.fort_lex_token.specs.declared.marks.Mark.TheVariants as mark
use Rattle.fort_lex_token.specs.declared.token.Kind.{Kind}
use Rattle.fort_lex_token.specs.declared.token.Kind.TheVariants as kind
use Rattle.fort_lex_token.specs.declared.token.Token.{Token}
use Rattle.fort_tree.specs.declared.spot.Spot.{Spot}
use Rattle.fort_tree.specs.declared.declarations.Declaration.{Declaration}
use Rattle.fort_tree.specs.declared.declarations.Declaration.TheVariants as declaration
use Rattle.fort_tree.specs.declared.declarations.Declared.{Declared}
use Rattle.fort_tree.specs.declared.declarations.Function.{Function}
use Rattle.fort_tree.specs.declared.declarations.FunctionName.{FunctionName}
use Rattle.fort_tree.specs.declared.declarations.FunctionName.TheVariants as function_name
use Rattle.fort_tree.specs.Tokens.{Spellings, marked, colon, equals, is_line}
use Rattle.fort_tree.specs.Said.{Said, SaidEntry, tokens_of, gap_of, elsewhere, maybe_tokens, maybe_obeys, semicolon_tokens, entries_tokens, entries_obey, begins_apart}
use Rattle.fort_tree.specs.Types.{said_type, said_parameters, parameter_count}
use Rattle.fort_tree.specs.Yield.{said_expr}
use Rattle.fort_tree.specs.Declarations.{name_first, name_more, name_fits, said_function, said_declaration, said_declared}
use Rattle.fort_spawn.specs.Starts.{is_run}
use Rattle.fort_spawn.specs.Rewritten.{name_as, function_as, declaration_as, declared_as}
use Rattle.fort_spawn.proofs.Parts.{said_by}

-- ---- tokens without the numbers of names

abbrev pub nameless_kind : Kind → Kind
nameless_kind (kind.Name id) = kind.Name (record { 0 = 0 })
nameless_kind k = k

abbrev pub nameless : Token → Token
nameless t = record { kind = nameless_kind t.kind; gap = t.gap; place = t.place }

-- a function's name as another
abbrev as_if : NameId → Bool → FunctionName → FunctionName
as_if id b name = cond b (name_as id name) name

same_first : (id : NameId) (b : Bool) (name : FunctionName)
    → nameless (name_first (as_if id b name)) ≡ nameless (name_first name)
same_first id true (function_name.Name name) = refl
same_first id true (function_name.Operator opr sign) = refl
same_first id true (function_name.Juxtaposition opr name) = refl
same_first id false name = refl

same_more : (id : NameId) (b : Bool) (name : FunctionName)
    → name_more (as_if id b name) ≡ name_more name
same_more id true (function_name.Name name) = refl
same_more id true (function_name.Operator opr sign) = refl
same_more id true (function_name.Juxtaposition opr name) = refl
same_more id false name = refl

same_fits : (names : Spellings) (id : NameId) (b : Bool) (name : FunctionName) (count : ℕ)
    → name_fits names (as_if id b name) count ≡ name_fits names name count
same_fits names id true (function_name.Name name) count = refl
same_fits names id true (function_name.Operator opr sign) count = refl
same_fits names id true (function_name.Juxtaposition opr name) count = refl
same_fits names id false name count = refl

-- ---- tokens

module _ (id : NameId) (names : Spellings) where
  same_declaration : (d : Declaration)
      → map nameless (tokens_of (said_declaration (declaration_as id names d)))
      ≡ map nameless (tokens_of (said_declaration d))
  same_declaration (declaration.Variable variable) = refl
  same_declaration (declaration.Function f) =
      let rest = marked mark.OpenParen f.left
      ∷ (maybe_tokens (option_map said_parameters f.parameters) ++ marked mark.CloseParen f.right
      ∷ colon f.colon
      ∷ (tokens_of (said_type f.result) ++ equals f.equals ∷ tokens_of (said_expr f.body))) in
      ap₂ (λ x more. x ∷ map nameless (more ++ rest)) (same_first id (is_run names f) f.name)
      (same_more id (is_run names f) f.name)
  same_declaration (declaration.Trait tr) = refl
  same_declaration (declaration.Object object) = refl

  pub same_tokens : (ds : List Declared)
      → map nameless (said_by (map (declared_as id names) ds)) ≡ map nameless (said_by ds)
  same_tokens [] = refl
  same_tokens (d ∷ ds) =
      map-append nameless (tokens_of (said_declaration (declaration_as id names d.declaration)))
      (semicolon_tokens d.semicolon ++ said_by (map (declared_as id names) ds))
      ∙ (ap₂ (λ x y. x ++ y) (same_declaration d.declaration)
      (map-append nameless (semicolon_tokens d.semicolon)
      (said_by (map (declared_as id names) ds))
      ∙ (ap (λ y. map nameless (semicolon_tokens d.semicolon) ++ y) (same_tokens ds)
      ∙ sym (map-append nameless (semicolon_tokens d.semicolon) (said_by ds))))
      ∙ sym (map-append nameless (tokens_of (said_declaration d.declaration))
      (semicolon_tokens d.semicolon ++ said_by ds)))

  -- ---- rules

  same_gap : (d : Declaration)
      → gap_of (said_declaration (declaration_as id names d)) ≡ gap_of (said_declaration d)
  same_gap (declaration.Variable variable) = refl
  same_gap (declaration.Function f) =
      ap (λ (t : Token). t.gap) (same_first id (is_run names f) f.name)
  same_gap (declaration.Trait tr) = refl
  same_gap (declaration.Object object) = refl

  same_obeys : (wide : Spellings) (d : Declaration)
      → (said_declaration (declaration_as id names d)).obeys wide elsewhere
      ≡ (said_declaration d).obeys wide elsewhere
  same_obeys wide (declaration.Variable variable) = refl
  same_obeys wide (declaration.Function f) =
      ap (λ x. x && (maybe_obeys wide elsewhere (option_map said_parameters f.parameters)
      && ((said_type f.result).obeys wide elsewhere && (said_expr f.body).obeys wide elsewhere)))
      (same_fits wide id (is_run names f) f.name (parameter_count f.parameters))
  same_obeys wide (declaration.Trait tr) = refl
  same_obeys wide (declaration.Object object) = refl

  same_apart : (s : Option Spot) (ds : List Declared)
      → begins_apart s (map said_declared (map (declared_as id names) ds))
      ≡ begins_apart s (map said_declared ds)
  same_apart s [] = refl
  same_apart (Some s) (d ∷ ds) = refl
  same_apart None (d ∷ ds) = ap is_line (same_gap d.declaration)

  pub same_entries : (wide : Spellings) (ds : List Declared)
      → entries_obey wide (map said_declared (map (declared_as id names) ds))
      ≡ entries_obey wide (map said_declared ds)
  same_entries wide [] = refl
  same_entries wide (d ∷ ds) =
      ap₂ (λ x y. x && y) (same_obeys wide d.declaration)
      (ap₂ (λ x y. x && y) (same_apart d.semicolon ds) (same_entries wide ds))
