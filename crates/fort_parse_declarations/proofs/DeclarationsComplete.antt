-- The tokens of declarations and components are read as them.
use Rattle.std.proofs.Common.{◌≡◌, ℕ, Bool, true, false, List, [], ◌∷◌, ◌++◌, append_assoc, Option, Some, None, refl, sym, subst}
use Rattle.std.specs.Prelude.{map, option_map, ◌&&◌, ◌||◌}
use Rattle.fort_lex_token.specs.declared.token.Kind.{Kind}
use Rattle.fort_lex_token.specs.declared.token.Kind.TheVariants as kind
use Rattle.fort_lex_token.specs.declared.token.Token.{Token}
use Rattle.fort_lex_token.specs.declared.marks.Mark.TheVariants as mark
use Rattle.fort_lex_token.specs.declared.reserved.Reserved.{Reserved}
use Rattle.fort_lex_token.specs.declared.reserved.Reserved.TheVariants as reserved
use Rattle.fort_tree.specs.declared.spot.Spot.{Spot}
use Rattle.fort_tree.specs.declared.spot.Name.{Name}
use Rattle.fort_tree.specs.declared.declarations.Component.{Component}
use Rattle.fort_tree.specs.declared.declarations.Declaration.{Declaration}
use Rattle.fort_tree.specs.declared.declarations.Declaration.TheVariants as declaration
use Rattle.fort_tree.specs.declared.declarations.Declared.{Declared}
use Rattle.fort_tree.specs.declared.declarations.Export.{Export}
use Rattle.fort_tree.specs.declared.declarations.Extends.{Extends}
use Rattle.fort_tree.specs.declared.declarations.Function.{Function}
use Rattle.fort_tree.specs.declared.declarations.FunctionName.{FunctionName}
use Rattle.fort_tree.specs.declared.declarations.FunctionName.TheVariants as function_name
use Rattle.fort_tree.specs.declared.declarations.Method.{Method}
use Rattle.fort_tree.specs.declared.declarations.Object.{Object}
use Rattle.fort_tree.specs.declared.declarations.ObjectEntry.{ObjectEntry}
use Rattle.fort_tree.specs.declared.declarations.ObjectMember.{ObjectMember}
use Rattle.fort_tree.specs.declared.declarations.ObjectMember.TheVariants as object_member
use Rattle.fort_tree.specs.declared.declarations.Trait.{Trait}
use Rattle.fort_tree.specs.declared.declarations.TraitEntry.{TraitEntry}
use Rattle.fort_tree.specs.declared.declarations.TraitMember.{TraitMember}
use Rattle.fort_tree.specs.declared.declarations.TraitMember.TheVariants as trait_member
use Rattle.fort_tree.specs.declared.declarations.Variable.{Variable, roll-Variable}
use Rattle.fort_tree.specs.declared.expr.Expr.{Expr}
use Rattle.fort_tree.specs.declared.types.TypeTree.{TypeTree}
use Rattle.fort_tree.specs.declared.declarations.InitialSign.{InitialSign}
use Rattle.fort_tree.specs.declared.declarations.Comprises.{Comprises}
use Rattle.fort_tree.specs.declared.declarations.Excludes.{Excludes}
use Rattle.std.specs.Prelude.{codes}
use Rattle.fort_tree.specs.Tokens.{Spellings, marked, word, named, colon, is_spelled}
use Rattle.fort_tree.specs.Said.{Said, Allowed, SaidEntry, tokens_of, maybe_tokens, entries_tokens, entries_obey, semicolon_tokens, elsewhere, is_there}
use Rattle.fort_tree.specs.Types.{said_type}
use Rattle.fort_tree.specs.Blocks.{after_var, initial_token, variable_step}
use Rattle.fort_tree.specs.Yield.{said_variable, said_expr}
use Rattle.fort_tree.specs.Declarations.{name_first, name_more, is_opr, method_parameter_count, extends_tokens, excludes_tokens, comprises_tokens, said_object_parameters, said_function, said_method, said_trait_member, said_trait_entry, said_trait, said_object_member, said_object_entry, said_object, said_declaration, said_declared}
use Rattle.fort_tree.specs.Types.{parameter_count, said_parameters}
use Rattle.fort_tree.specs.Component.{export_tokens, export_obeys, yield, obeys}
use Rattle.fort_tree.proofs.CasesBlocks.{cases_variable}
use Rattle.fort_tree.proofs.SaysBlocks.{says_variable}
use Rattle.fort_parse_reading.specs.Parser.{Row, Read, and_then, next_of}
use Rattle.fort_parse_reading.specs.Words.{is_mark, is_word, is_called, same_word, sees}
use Rattle.fort_parse_reading.proofs.Laws.{Gets, reads, gets_then}
use Rattle.fort_parse_reading.proofs.Taking.{gets_name, gets_word, gets_colon, gets_called, not_word, not_mark}
use Rattle.fort_parse_reading.proofs.Yields.{left_true, right_true}
use Rattle.fort_parse_types.proofs.Complete.{complete_type_tree}
use Rattle.fort_parse.specs.Blocks.{is_ended}
use Rattle.fort_parse.proofs.Entries.{StopsAfter, stops_last, first_apart, gets_entries}
use Rattle.fort_parse_declarations.specs.Names.{opr_name}
use Rattle.fort_parse_declarations.specs.Methods.{operator_method_from}
use Rattle.fort_parse_first.specs.Declarations.{begins_trait_member, begins_object_member, begins_declaration_kind, begins_trait_entry, begins_object_entry, begins_declared}
use Rattle.fort_parse_declarations.specs.Declarations.{trait_field, trait_operator, trait_named, trait_member_at, trait_entry, trait_entries, trait_from, object_variable, object_var, object_operator, object_named, object_member_at, object_entry, object_entries, object_rest, object_from, variable_declaration, var_declaration, operator_declaration, named_declaration, declaration_at, declared, declarations, export_from, export, component}
use Rattle.fort_parse_declarations.proofs.Parts.{PartLaws}
use Rattle.fort_parse_declarations.proofs.Followers.{Follows, Ended, ended, declaration_follows, trait_follows, object_follows, end_follows, end_begins_no_declaration, end_begins_no_trait_member, end_begins_no_object_member}
use Rattle.fort_parse_declarations.proofs.NamesComplete.{name_no_word, sees_mark, sees_word, opr_of, complete_semicolon, complete_opr_name, complete_extends, complete_excludes, complete_comprises, complete_object_parameters}
use Rattle.fort_parse_declarations.proofs.MethodsComplete.{function_end, method_behind, method_tokens, complete_function_from, complete_operator_from, complete_method_from, complete_operator_method}

-- ---- what they begin with

named_begins_trait : (f : FunctionName) → begins_trait_member (name_first f).kind ≡ true
unfolding begins_trait_member
named_begins_trait (function_name.Name name) = refl
named_begins_trait (function_name.Operator opr sign) = refl
named_begins_trait (function_name.Juxtaposition opr name) = refl

named_begins_object : (f : FunctionName) → begins_object_member (name_first f).kind ≡ true
unfolding begins_object_member
named_begins_object (function_name.Name name) = refl
named_begins_object (function_name.Operator opr sign) = refl
named_begins_object (function_name.Juxtaposition opr name) = refl

named_begins : (f : FunctionName) → begins_declaration_kind (name_first f).kind ≡ true
unfolding begins_declaration_kind
named_begins (function_name.Name name) = refl
named_begins (function_name.Operator opr sign) = refl
named_begins (function_name.Juxtaposition opr name) = refl

var_begins_object : (var : Option Spot) (x : Name) (m : List Token) (f : Spellings → Allowed → Bool)
    → begins_object_member
    (after_var var (record { first = named x; more = m; obeys = f })).first.kind ≡ true
unfolding begins_object_member
var_begins_object None x m f = refl
var_begins_object (Some s) x m f = refl

var_begins : (var : Option Spot) (x : Name) (m : List Token) (f : Spellings → Allowed → Bool)
    → begins_declaration_kind
    (after_var var (record { first = named x; more = m; obeys = f })).first.kind ≡ true
unfolding begins_declaration_kind
var_begins None x m f = refl
var_begins (Some s) x m f = refl

variable_begins_object : (v : Variable) → begins_object_member (said_variable v).first.kind ≡ true
variable_begins_object =
    cases_variable (λ v. begins_object_member (said_variable v).first.kind
    ≡ true) (λ var name c ty sign value. rw (says_variable var name c ty sign value)
    (var_begins_object var name _ _))

variable_begins : (v : Variable) → begins_declaration_kind (said_variable v).first.kind ≡ true
variable_begins =
    cases_variable (λ v. begins_declaration_kind (said_variable v).first.kind
    ≡ true) (λ var name c ty sign value. rw (says_variable var name c ty sign value)
    (var_begins var name _ _))

trait_member_begins : (m : TraitMember)
    → begins_trait_member (said_trait_member m).first.kind ≡ true
unfolding begins_trait_member
trait_member_begins (trait_member.Field name c ty) = refl
trait_member_begins (trait_member.Method m) = named_begins_trait m.name

object_member_begins : (m : ObjectMember)
    → begins_object_member (said_object_member m).first.kind ≡ true
object_member_begins (object_member.Variable v) = variable_begins_object v
object_member_begins (object_member.Method m) = named_begins_object m.name

object_entry_begins : (names : Spellings) (e : ObjectEntry)
    → (said_object_entry e).item.obeys names elsewhere ≡ true
    → begins_object_member (said_object_entry e).item.first.kind ≡ true
object_entry_begins names e ob = object_member_begins e.member

declaration_begins : (d : Declaration)
    → begins_declaration_kind (said_declaration d).first.kind ≡ true
unfolding begins_declaration_kind
declaration_begins (declaration.Variable v) = variable_begins v
declaration_begins (declaration.Function f) = named_begins f.name
declaration_begins (declaration.Trait t) = refl
declaration_begins (declaration.Object o) = refl

declared_begins : (names : Spellings) (e : Declared)
    → (said_declared e).item.obeys names elsewhere ≡ true
    → begins_declaration_kind (said_declared e).item.first.kind ≡ true
declared_begins names e ob = declaration_begins e.declaration

trait_entry_begins : (names : Spellings) (e : TraitEntry)
    → (said_trait_entry e).item.obeys names elsewhere ≡ true
    → begins_trait_member (said_trait_entry e).item.first.kind ≡ true
trait_entry_begins names e ob = trait_member_begins e.member

-- ---- what follows heads

word_no_word : (v w : Reserved) (s : Spot) → same_word v w ≡ false
    → sees (is_word w) (Some (word v s)) ≡ false
unfolding sees is_word
word_no_word v w s e = e

word_no_paren : (v : Reserved) (s : Spot) → sees (is_mark mark.OpenParen) (Some (word v s)) ≡ false
unfolding sees is_mark
word_no_paren v s = refl

colon_no_paren : (s : Spot) → sees (is_mark mark.OpenParen) (Some (colon s)) ≡ false
unfolding sees is_mark
colon_no_paren s = refl

sees_at : (f : Kind → Bool) (t : Token) (b : Bool) → f t.kind ≡ b → sees f (Some t) ≡ b
unfolding sees
sees_at f t b e = e

-- behind a head, the items of a list or `end` are none of what the list's items can't begin with
after_entries : {A : Type 0} (names : Spellings) (said : A → SaidEntry) (f g : Kind → Bool)
    → ((x : A) → (said x).item.obeys names elsewhere ≡ true → f (said x).item.first.kind ≡ true)
    → ((k : Kind) → f k ≡ true → g k ≡ false) → g (kind.Word reserved.End) ≡ false
    → (xs : List A) (end : Spot) (rest : Row) → entries_obey names (map said xs) ≡ true
    → sees g (next_of (entries_tokens (map said xs) ++ word reserved.End end ∷ rest)) ≡ false
after_entries names said f g begins none no_end [] end rest ob =
    sees_at g (word reserved.End end) false no_end
after_entries names said f g begins none no_end (x ∷ xs) end rest ob =
    sees_at g (said x).item.first false
    (none (said x).item.first.kind (begins x (left_true _ _ ob)))

opr_first : (f : FunctionName) → is_opr f ≡ true → name_first f ≡ word reserved.Opr (opr_of f)
opr_first (function_name.Name name) e = absurd cc
opr_first (function_name.Operator opr sign) e = refl
opr_first (function_name.Juxtaposition opr name) e = refl

called_executable : (names : Spellings) (name : Name) → is_spelled "Executable" names name ≡ true
    → is_called (codes "Executable") names name ≡ true
unfolding is_called
called_executable names name e = e

-- a name, or an operator
is_name_or_operator : (f : FunctionName) (P : Type 0)
    → ((name : Name) → f ≡ function_name.Name name → P) → (is_opr f ≡ true → P) → P
is_name_or_operator (function_name.Name name) P g h = g name refl
is_name_or_operator (function_name.Operator opr sign) P g h = h refl
is_name_or_operator (function_name.Juxtaposition opr name) P g h = h refl

module _ (names : Spellings) (n : ℕ) (parts : PartLaws names n) where
  -- ---- traits

  -- a method whose name is an operator, behind `opr`
  operator_method : (optional : Bool) (m : Method) (rest : Row) → is_opr m.name ≡ true
      → (optional || is_there m.body) ≡ true → (said_method m).obeys names elsewhere ≡ true
      → Ended (next_of rest) → (A : Type 0) (f : Method → A)
      → Gets A (and_then
      ((opr_name names n (opr_of m.name)).run
      (name_more m.name ++ method_behind names n parts m rest))
      (λ name. λ mid. and_then ((operator_method_from names n optional name).run mid)
      (λ x. λ left. Read (f x) left))) (f m) rest
  operator_method optional m rest o e ob st A f =
      gets_then _
      (complete_opr_name names n m.name (method_parameter_count m.parameters) _
      (left_true _ _ ob) o)
      (gets_then _ (complete_operator_method names n parts optional m rest o e ob st) reads)

  complete_trait_method : (m : Method) (rest : Row) → (said_method m).obeys names elsewhere ≡ true
      → Ended (next_of rest)
      → Gets TraitMember
      ((trait_member_at names n).parser.run
      (name_first m.name ∷ (name_more m.name ++ method_behind names n parts m rest)))
      (trait_member.Method m) rest
  unfolding trait_member_at trait_operator trait_named
  complete_trait_method m rest ob st = is_name_or_operator m.name _
      (λ name is. subst (λ
      (f : FunctionName). Gets TraitMember
      ((trait_member_at names n).parser.run
      (name_first f ∷ (name_more f ++ method_behind names n parts m rest)))
      (trait_member.Method m) rest) (sym is)
      (rw (name_no_word reserved.Opr name)
      (gets_then _ (gets_name name _)
      (rw (sees_mark mark.OpenParen m.left)
      (gets_then _ (complete_method_from names n parts true m name rest is refl ob st)
      reads)))))
      (λ o. rw (opr_first m.name o, sees_word reserved.Opr (opr_of m.name))
      (gets_then _ (gets_word reserved.Opr (opr_of m.name) _)
      (operator_method true m rest o refl ob st TraitMember trait_member.Method)))

  complete_trait_member : (m : TraitMember) (rest : Row)
      → (said_trait_member m).obeys names elsewhere ≡ true → Ended (next_of rest)
      → Gets TraitMember
      ((trait_member_at names n).parser.run (tokens_of (said_trait_member m) ++ rest)) m rest
  unfolding trait_member_at trait_named trait_field
  complete_trait_member (trait_member.Field name c ty) rest ob st =
      rw (name_no_word reserved.Opr name)
      (gets_then _ (gets_name name _)
      (rw (colon_no_paren c)
      (gets_then _ (gets_colon c _)
      (gets_then _ (complete_type_tree names n ty rest ob st.type) reads))))
  complete_trait_member (trait_member.Method m) rest ob st =
      subst (λ (u : Row). Gets TraitMember ((trait_member_at names n).parser.run u)
      (trait_member.Method m) rest) (sym (method_tokens names n parts m rest))
      (complete_trait_method m rest ob st)

  complete_trait_entry : (x : TraitEntry) (rest : Row)
      → (said_trait_entry x).item.obeys names elsewhere ≡ true
      → StopsAfter Follows (said_trait_entry x).semicolon (next_of rest)
      → Gets TraitEntry
      ((trait_entry names n).parser.run
      (tokens_of (said_trait_entry x).item
      ++ (semicolon_tokens (said_trait_entry x).semicolon ++ rest))) x rest
  unfolding trait_entry
  complete_trait_entry x rest ob st =
      gets_then _
      (complete_trait_member x.member (semicolon_tokens x.semicolon ++ rest) ob
      (ended x.semicolon rest st))
      (gets_then _ (complete_semicolon names n x.semicolon rest st) reads)

  complete_trait_entries : (xs : List TraitEntry) (end : Spot) (rest : Row)
      → entries_obey names (map said_trait_entry xs) ≡ true
      → Gets (List TraitEntry)
      ((trait_entries names n).run
      (entries_tokens (map said_trait_entry xs) ++ word reserved.End end ∷ rest)) xs
      (word reserved.End end ∷ rest)
  unfolding trait_entries begins_trait_entry
  complete_trait_entries xs end rest ob =
      gets_entries Follows names said_trait_entry begins_trait_member (trait_entry_begins names)
      trait_follows (λ e. is_ended e.semicolon) (trait_entry names n) (λ x. refl)
      complete_trait_entry n true xs (word reserved.End end ∷ rest) ob
      (first_apart (map said_trait_entry xs))
      (stops_last Follows (map said_trait_entry xs) _ (end_follows end))
      (λ ready. end_begins_no_trait_member ready end)

  extends_no : (k : Kind) → begins_trait_member k ≡ true → is_word reserved.Extends k ≡ false
  unfolding begins_trait_member
  extends_no k e = not_word begins_trait_member reserved.Extends refl k e

  excludes_no : (k : Kind) → begins_trait_member k ≡ true → is_word reserved.Excludes k ≡ false
  unfolding begins_trait_member
  excludes_no k e = not_word begins_trait_member reserved.Excludes refl k e

  comprises_no : (k : Kind) → begins_trait_member k ≡ true → is_word reserved.Comprises k ≡ false
  unfolding begins_trait_member
  comprises_no k e = not_word begins_trait_member reserved.Comprises refl k e

  end_is_no : (w : Reserved) → same_word reserved.End w ≡ false
      → is_word w (kind.Word reserved.End) ≡ false
  unfolding is_word
  end_is_no w e = e

  -- the tokens behind the heads of a trait
  abbrev trait_end : List TraitEntry → Spot → Row → Row
  trait_end members end rest =
      entries_tokens (map said_trait_entry members) ++ word reserved.End end ∷ rest

  no_comprises : (xs : List TraitEntry) (end : Spot) (rest : Row)
      → entries_obey names (map said_trait_entry xs) ≡ true
      → sees (is_word reserved.Comprises) (next_of (trait_end xs end rest)) ≡ false
  unfolding same_word
  no_comprises xs end rest ob =
      after_entries names said_trait_entry begins_trait_member (is_word reserved.Comprises)
      (trait_entry_begins names) comprises_no (end_is_no reserved.Comprises refl) xs end rest ob

  no_excludes : (below : Option Comprises) (xs : List TraitEntry) (end : Spot) (rest : Row)
      → entries_obey names (map said_trait_entry xs) ≡ true
      → sees (is_word reserved.Excludes) (next_of (comprises_tokens below ++ trait_end xs end rest))
      ≡ false
  unfolding same_word
  no_excludes (Some c) xs end rest ob =
      word_no_word reserved.Comprises reserved.Excludes c.comprises refl
  no_excludes None xs end rest ob =
      after_entries names said_trait_entry begins_trait_member (is_word reserved.Excludes)
      (trait_entry_begins names) excludes_no (end_is_no reserved.Excludes refl) xs end rest ob

  no_extends : (apart : Option Excludes) (below : Option Comprises) (xs : List TraitEntry)
      (end : Spot) (rest : Row) → entries_obey names (map said_trait_entry xs) ≡ true
      → sees (is_word reserved.Extends)
      (next_of (excludes_tokens apart ++ (comprises_tokens below ++ trait_end xs end rest))) ≡ false
  unfolding same_word
  no_extends (Some x) below xs end rest ob =
      word_no_word reserved.Excludes reserved.Extends x.excludes refl
  no_extends None (Some c) xs end rest ob =
      word_no_word reserved.Comprises reserved.Extends c.comprises refl
  no_extends None None xs end rest ob =
      after_entries names said_trait_entry begins_trait_member (is_word reserved.Extends)
      (trait_entry_begins names) extends_no (end_is_no reserved.Extends refl) xs end rest ob

  complete_trait : (t : Trait) (rest : Row) → (said_trait t).obeys names elsewhere ≡ true
      → Gets Trait
      ((trait_from names n t.trait_).run
      (named t.name
      ∷ (extends_tokens t.extends
      ++ (excludes_tokens t.excludes
      ++ (comprises_tokens t.comprises ++ trait_end t.members t.end rest))))) t rest
  unfolding trait_from
  complete_trait t rest ob =
      gets_then _ (gets_name t.name _)
      (gets_then _
      (complete_extends names n t.extends _
      (no_extends t.excludes t.comprises t.members t.end rest ob))
      (gets_then _
      (complete_excludes names n t.excludes _
      (no_excludes t.comprises t.members t.end rest ob))
      (gets_then _ (complete_comprises names n t.comprises _ (no_comprises t.members t.end rest ob))
      (gets_then _ (complete_trait_entries t.members t.end rest ob)
      (gets_then _ (gets_word reserved.End t.end rest) reads)))))

  -- ---- objects

  -- a variable behind what stands before its name
  abbrev variable_end : Spot → TypeTree → InitialSign → Expr → Row → Row
  variable_end c ty sign value rest =
      colon c ∷ (tokens_of (said_type ty) ++ initial_token sign
      ∷ (tokens_of (said_expr value) ++ rest))

  var_obeys : (var : Option Spot) (x : Said) → (after_var var x).obeys names elsewhere ≡ true
      → x.obeys names elsewhere ≡ true
  var_obeys None x e = e
  var_obeys (Some s) x e = e

  object_variable_by : (var : Option Spot) (name : Name) (c : Spot) (ty : TypeTree)
      (sign : InitialSign) (value : Expr) (rest : Row) → (said_type ty).obeys names elsewhere ≡ true
      → (said_expr value).obeys names elsewhere ≡ true → Ended (next_of rest)
      → Gets ObjectMember
      ((object_member_at names n).parser.run
      (tokens_of
      (variable_step
      (record {
        var = var;
        name = name;
        colon = c;
        ty = ty;
        sign = sign;
        value = said_expr value;
      })) ++ rest))
      (object_member.Variable
      (roll-Variable
      (record { var = var; name = name; colon = c; ty = ty; sign = sign; value = value }))) rest
  unfolding object_member_at object_var object_named object_variable
  object_variable_by None name c ty sign value rest ot ov st =
      simp append_assoc
      (rw (name_no_word reserved.Var name, name_no_word reserved.Opr name)
      (gets_then _ (gets_name name _)
      (rw (colon_no_paren c)
      (gets_then _ (parts.complete_variable None name c ty sign value rest ot ov st.expr)
      reads))))
  object_variable_by (Some var) name c ty sign value rest ot ov st =
      simp append_assoc
      (rw (sees_word reserved.Var var)
      (gets_then _ (gets_word reserved.Var var _)
      (gets_then _ (gets_name name _)
      (gets_then _
      (parts.complete_variable (Some var) name c ty sign value rest ot ov st.expr) reads))))

  complete_object_method : (m : Method) (rest : Row) → is_there m.body ≡ true
      → (said_method m).obeys names elsewhere ≡ true → Ended (next_of rest)
      → Gets ObjectMember
      ((object_member_at names n).parser.run
      (name_first m.name ∷ (name_more m.name ++ method_behind names n parts m rest)))
      (object_member.Method m) rest
  unfolding object_member_at object_operator object_named same_word
  complete_object_method m rest e ob st = is_name_or_operator m.name _
      (λ name is. subst (λ
      (f : FunctionName). Gets ObjectMember
      ((object_member_at names n).parser.run
      (name_first f ∷ (name_more f ++ method_behind names n parts m rest)))
      (object_member.Method m) rest) (sym is)
      (rw (name_no_word reserved.Var name, name_no_word reserved.Opr name)
      (gets_then _ (gets_name name _)
      (rw (sees_mark mark.OpenParen m.left)
      (gets_then _ (complete_method_from names n parts false m name rest is e ob st)
      reads)))))
      (λ o. rw (
        opr_first m.name o,
        word_no_word reserved.Opr reserved.Var (opr_of m.name) refl,
        sees_word reserved.Opr (opr_of m.name),
      )
      (gets_then _ (gets_word reserved.Opr (opr_of m.name) _)
      (operator_method false m rest o e ob st ObjectMember object_member.Method)))

  complete_object_member : (m : ObjectMember) (rest : Row)
      → (said_object_member m).obeys names elsewhere ≡ true → Ended (next_of rest)
      → Gets ObjectMember
      ((object_member_at names n).parser.run (tokens_of (said_object_member m) ++ rest)) m rest
  complete_object_member (object_member.Variable v) rest =
      cases_variable (λ v. (said_variable v).obeys names elsewhere ≡ true → Ended (next_of rest)
      → Gets ObjectMember
      ((object_member_at names n).parser.run (tokens_of (said_variable v) ++ rest))
      (object_member.Variable v) rest)
      (λ var name c ty sign value ob st. let own = rw (says_variable var name c ty sign value) at ob
      in let both_parts = var_obeys var _ own in
      rw (says_variable var name c ty sign value)
      (object_variable_by var name c ty sign value rest (left_true _ _ both_parts)
      (right_true _ _ both_parts) st)) v
  complete_object_member (object_member.Method m) rest = λ ob st.
      subst (λ (u : Row). Gets ObjectMember ((object_member_at names n).parser.run u)
      (object_member.Method m) rest) (sym (method_tokens names n parts m rest))
      (complete_object_method m rest (left_true _ _ ob) (right_true _ _ ob) st)

  complete_object_entry : (x : ObjectEntry) (rest : Row)
      → (said_object_entry x).item.obeys names elsewhere ≡ true
      → StopsAfter Follows (said_object_entry x).semicolon (next_of rest)
      → Gets ObjectEntry
      ((object_entry names n).parser.run
      (tokens_of (said_object_entry x).item
      ++ (semicolon_tokens (said_object_entry x).semicolon ++ rest))) x rest
  unfolding object_entry
  complete_object_entry x rest ob st =
      gets_then _
      (complete_object_member x.member (semicolon_tokens x.semicolon ++ rest) ob
      (ended x.semicolon rest st))
      (gets_then _ (complete_semicolon names n x.semicolon rest st) reads)

  -- the tokens behind the heads of an object
  abbrev object_end : List ObjectEntry → Spot → Row → Row
  object_end members end rest =
      entries_tokens (map said_object_entry members) ++ word reserved.End end ∷ rest

  complete_object_entries : (xs : List ObjectEntry) (end : Spot) (rest : Row)
      → entries_obey names (map said_object_entry xs) ≡ true
      → Gets (List ObjectEntry) ((object_entries names n).run (object_end xs end rest)) xs
      (word reserved.End end ∷ rest)
  unfolding object_entries begins_object_entry
  complete_object_entries xs end rest ob =
      gets_entries Follows names said_object_entry begins_object_member (object_entry_begins names)
      object_follows (λ e. is_ended e.semicolon) (object_entry names n) (λ x. refl)
      complete_object_entry n true xs (word reserved.End end ∷ rest) ob
      (first_apart (map said_object_entry xs))
      (stops_last Follows (map said_object_entry xs) _ (end_follows end))
      (λ ready. end_begins_no_object_member ready end)

  object_extends_no : (k : Kind) → begins_object_member k ≡ true
      → is_word reserved.Extends k ≡ false
  unfolding begins_object_member
  object_extends_no k e = not_word begins_object_member reserved.Extends refl k e

  object_paren_no : (k : Kind) → begins_object_member k ≡ true → is_mark mark.OpenParen k ≡ false
  unfolding begins_object_member
  object_paren_no k e = not_mark begins_object_member mark.OpenParen refl k e

  end_no_paren : is_mark mark.OpenParen (kind.Word reserved.End) ≡ false
  unfolding is_mark
  end_no_paren = refl

  no_object_extends : (xs : List ObjectEntry) (end : Spot) (rest : Row)
      → entries_obey names (map said_object_entry xs) ≡ true
      → sees (is_word reserved.Extends) (next_of (object_end xs end rest)) ≡ false
  unfolding same_word
  no_object_extends xs end rest ob =
      after_entries names said_object_entry begins_object_member (is_word reserved.Extends)
      (object_entry_begins names) object_extends_no (end_is_no reserved.Extends refl) xs end rest ob

  no_parens : (above : Option Extends) (xs : List ObjectEntry) (end : Spot) (rest : Row)
      → entries_obey names (map said_object_entry xs) ≡ true
      → sees (is_mark mark.OpenParen) (next_of (extends_tokens above ++ object_end xs end rest))
      ≡ false
  no_parens (Some x) xs end rest ob = word_no_paren reserved.Extends x.extends
  no_parens None xs end rest ob =
      after_entries names said_object_entry begins_object_member (is_mark mark.OpenParen)
      (object_entry_begins names) object_paren_no end_no_paren xs end rest ob

  complete_object : (o : Object) (rest : Row) → (said_object o).obeys names elsewhere ≡ true
      → Gets Object
      ((object_from names n o.object).run
      (named o.name
      ∷ (maybe_tokens (option_map said_object_parameters o.parameters)
      ++ (extends_tokens o.extends ++ object_end o.members o.end rest)))) o rest
  unfolding object_from object_rest
  complete_object o rest ob =
      let members = right_true _ _ ob in
      gets_then _ (gets_name o.name _)
      (gets_then _
      (complete_object_parameters names n o.parameters _ (left_true _ _ ob)
      (no_parens o.extends o.members o.end rest members))
      (gets_then _
      (complete_extends names n o.extends _
      (no_object_extends o.members o.end rest members))
      (gets_then _ (complete_object_entries o.members o.end rest members)
      (gets_then _ (gets_word reserved.End o.end rest) reads))))

  -- ---- declarations

  declaration_variable_by : (var : Option Spot) (name : Name) (c : Spot) (ty : TypeTree)
      (sign : InitialSign) (value : Expr) (rest : Row) → (said_type ty).obeys names elsewhere ≡ true
      → (said_expr value).obeys names elsewhere ≡ true → Ended (next_of rest)
      → Gets Declaration
      ((declaration_at names n).parser.run
      (tokens_of
      (variable_step
      (record {
        var = var;
        name = name;
        colon = c;
        ty = ty;
        sign = sign;
        value = said_expr value;
      })) ++ rest))
      (declaration.Variable
      (roll-Variable
      (record { var = var; name = name; colon = c; ty = ty; sign = sign; value = value }))) rest
  unfolding declaration_at var_declaration named_declaration variable_declaration
  declaration_variable_by None name c ty sign value rest ot ov st =
      simp append_assoc
      (gets_then _ (gets_name name _)
      (rw (colon_no_paren c)
      (gets_then _ (parts.complete_variable None name c ty sign value rest ot ov st.expr)
      reads)))
  declaration_variable_by (Some var) name c ty sign value rest ot ov st =
      simp append_assoc
      (gets_then _ (gets_word reserved.Var var _)
      (gets_then _ (gets_name name _)
      (gets_then _
      (parts.complete_variable (Some var) name c ty sign value rest ot ov st.expr) reads)))

  -- what a function says behind its name
  abbrev function_behind : Function → Row → Row
  function_behind f rest =
      marked mark.OpenParen f.left
      ∷ (maybe_tokens (option_map said_parameters f.parameters) ++ marked mark.CloseParen f.right
      ∷ function_end names n parts f.colon f.result f.equals f.body rest)

  complete_function : (f : Function) (rest : Row) → (said_function f).obeys names elsewhere ≡ true
      → Ended (next_of rest)
      → Gets Declaration
      ((declaration_at names n).parser.run
      (name_first f.name ∷ (name_more f.name ++ function_behind f rest)))
      (declaration.Function f) rest
  unfolding declaration_at operator_declaration named_declaration
  complete_function f rest ob st = is_name_or_operator f.name _
      (λ name is. subst (λ
      (g : FunctionName). Gets Declaration
      ((declaration_at names n).parser.run
      (name_first g ∷ (name_more g ++ function_behind f rest))) (declaration.Function f)
      rest) (sym is)
      (gets_then _ (gets_name name _)
      (rw (sees_mark mark.OpenParen f.left)
      (gets_then _ (complete_function_from names n parts f name rest is ob st.expr)
      reads))))
      (λ o. rw (opr_first f.name o)
      (gets_then _ (gets_word reserved.Opr (opr_of f.name) _)
      (gets_then _
      (complete_opr_name names n f.name (parameter_count f.parameters) _ (left_true _ _ ob)
      o) (gets_then _ (complete_operator_from names n parts f rest o ob st.expr) reads))))

  complete_declaration : (d : Declaration) (rest : Row)
      → (said_declaration d).obeys names elsewhere ≡ true → Ended (next_of rest)
      → Gets Declaration
      ((declaration_at names n).parser.run (tokens_of (said_declaration d) ++ rest)) d rest
  unfolding declaration_at
  complete_declaration (declaration.Variable v) rest =
      cases_variable (λ v. (said_variable v).obeys names elsewhere ≡ true → Ended (next_of rest)
      → Gets Declaration
      ((declaration_at names n).parser.run (tokens_of (said_variable v) ++ rest))
      (declaration.Variable v) rest)
      (λ var name c ty sign value ob st. let own = rw (says_variable var name c ty sign value) at ob
      in let both_parts = var_obeys var _ own in
      rw (says_variable var name c ty sign value)
      (declaration_variable_by var name c ty sign value rest (left_true _ _ both_parts)
      (right_true _ _ both_parts) st)) v
  complete_declaration (declaration.Function f) rest =
      λ ob st. simp append_assoc (complete_function f rest ob st)
  complete_declaration (declaration.Trait t) rest =
      λ ob st. simp append_assoc
      (gets_then _ (gets_word reserved.Trait t.trait_ _)
      (gets_then _ (complete_trait t rest ob) reads))
  complete_declaration (declaration.Object o) rest =
      λ ob st. simp append_assoc
      (gets_then _ (gets_word reserved.Object o.object _)
      (gets_then _ (complete_object o rest ob) reads))

  complete_declared : (x : Declared) (rest : Row)
      → (said_declared x).item.obeys names elsewhere ≡ true
      → StopsAfter Follows (said_declared x).semicolon (next_of rest)
      → Gets Declared
      ((declared names n).parser.run
      (tokens_of (said_declared x).item
      ++ (semicolon_tokens (said_declared x).semicolon ++ rest))) x rest
  unfolding declared
  complete_declared x rest ob st =
      gets_then _
      (complete_declaration x.declaration (semicolon_tokens x.semicolon ++ rest) ob
      (ended x.semicolon rest st))
      (gets_then _ (complete_semicolon names n x.semicolon rest st) reads)

  -- ---- components

  -- the tokens behind the heads of a component
  abbrev component_end : List Declared → Spot → Row → Row
  component_end list end rest =
      entries_tokens (map said_declared list) ++ word reserved.End end ∷ rest

  complete_declarations : (xs : List Declared) (end : Spot) (rest : Row)
      → entries_obey names (map said_declared xs) ≡ true
      → Gets (List Declared) ((declarations names n).run (component_end xs end rest)) xs
      (word reserved.End end ∷ rest)
  unfolding declarations begins_declared
  complete_declarations xs end rest ob =
      gets_entries Follows names said_declared begins_declaration_kind (declared_begins names)
      declaration_follows (λ e. is_ended e.semicolon) (declared names n) (λ x. refl)
      complete_declared n true xs (word reserved.End end ∷ rest) ob
      (first_apart (map said_declared xs))
      (stops_last Follows (map said_declared xs) _ (end_follows end))
      (λ ready. end_begins_no_declaration ready end)

  export_no : (k : Kind) → begins_declaration_kind k ≡ true → is_word reserved.Export k ≡ false
  unfolding begins_declaration_kind
  export_no k e = not_word begins_declaration_kind reserved.Export refl k e

  complete_export : (x : Option Export) (xs : List Declared) (end : Spot) (rest : Row)
      → export_obeys names x ≡ true → entries_obey names (map said_declared xs) ≡ true
      → Gets (Option Export) ((export names n).run (export_tokens x ++ component_end xs end rest)) x
      (component_end xs end rest)
  unfolding export export_from same_word
  complete_export None xs end rest e ob =
      rw (after_entries names said_declared begins_declaration_kind (is_word reserved.Export)
      (declared_begins names) export_no (end_is_no reserved.Export refl) xs end rest ob) reads
  complete_export (Some x) xs end rest e ob =
      rw (sees_word reserved.Export x.export)
      (gets_then _ (gets_word reserved.Export x.export _)
      (gets_then _
      (gets_called (codes "Executable") names x.name _ (called_executable names x.name e))
      reads))

  pub complete_component : (c : Component) (rest : Row) → c.names ≡ names → obeys c ≡ true
      → Gets Component ((component names n c.texts).run (yield c ++ rest)) c rest
  unfolding component
  complete_component c rest same ob =
      let own : (export_obeys names c.export
      && entries_obey names (map said_declared c.declarations)) ≡ true = rw same at ob in
      simp append_assoc
      (gets_then _ (gets_word reserved.Component c.component _)
      (gets_then _ (gets_name c.name _)
      (gets_then _
      (complete_export c.export c.declarations c.end rest (left_true _ _ own)
      (right_true _ _ own))
      (gets_then _ (complete_declarations c.declarations c.end rest (right_true _ _ own))
      (gets_then _ (gets_word reserved.End c.end rest) (rw (← same) reads))))))
