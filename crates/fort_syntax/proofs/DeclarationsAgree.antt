-- The productions of declarations read alike over two such tables.
use Rattle.std.proofs.Common.{ℕ, Bool, true, false, Option, Some, None}
use Rattle.std.specs.Prelude.{codes}
use Rattle.fort_lex_token.specs.declared.token.Kind.{Kind}
use Rattle.fort_lex_token.specs.declared.token.Kind.TheVariants as kind
use Rattle.fort_lex_token.specs.declared.token.Token.{Token}
use Rattle.fort_lex_token.specs.declared.reserved.Reserved.{Reserved}
use Rattle.fort_lex_token.specs.declared.reserved.Reserved.TheVariants as reserved
use Rattle.fort_tree.specs.declared.spot.Spot.{Spot}
use Rattle.fort_tree.specs.declared.spot.Name.{Name}
use Rattle.fort_tree.specs.declared.declarations.Declared.{Declared}
use Rattle.fort_tree.specs.declared.declarations.FunctionName.TheVariants as function_name
use Rattle.fort_tree.specs.declared.declarations.ObjectEntry.{ObjectEntry}
use Rattle.fort_tree.specs.declared.declarations.ObjectParameters.{ObjectParameters}
use Rattle.fort_tree.specs.declared.declarations.TraitEntry.{TraitEntry}
use Rattle.fort_tree.specs.Tokens.{Spellings}
use Rattle.fort_parse_first.specs.Declarations.{begins_declared, begins_object_entry, begins_trait_entry}
use Rattle.fort_parse.specs.Blocks.{is_ended}
use Rattle.fort_parse_reading.specs.Parser.{Row, next_of}
use Rattle.fort_parse_declarations.specs.Declarations.{trait_field, trait_operator, trait_named, trait_member_at, trait_entry, trait_entries, trait_from, object_variable, object_var, object_operator, object_named, object_member_at, object_entry, object_entries, object_rest, object_from, variable_declaration, var_declaration, operator_declaration, named_declaration, word_declaration, declaration_for, declaration_by, declaration_at, declared, declarations, export_from, export}
use Rattle.fort_syntax.proofs.Agreeing.{GoesOn, Alike, agrees_read, agrees_failed, agrees_accept, agrees_called, agrees_then, agrees_if, agrees_many, same_called}
use Rattle.fort_syntax.proofs.TypesAgree.{same_type_tree}
use Rattle.fort_syntax.proofs.RunsAgree.{same_variable_at}
use Rattle.fort_syntax.proofs.NamesAgree.{same_semicolon, same_opr_name, same_extends, same_excludes, same_comprises, same_object_parameters}
use Rattle.fort_syntax.proofs.MethodsAgree.{same_function_from, same_operator_from, same_method_from, same_operator_method_from}

module _ (names wide : Spellings) (on : GoesOn names wide) (n : ℕ) where
  pub same_trait_field : (name : Name) (ts : Row)
      → Alike names ts ((trait_field names n name).run ts) ((trait_field wide n name).run ts)
  unfolding trait_field
  same_trait_field name ts all =
      agrees_then _ _ _ _ (agrees_accept _ ts all)
      (λ colon m1 h1. agrees_then _ _ _ _ (same_type_tree names wide on n m1 h1)
      (λ ty m2 h2. agrees_read h2))

  pub same_trait_operator : (ts : Row)
      → Alike names ts ((trait_operator names n).parser.run ts)
      ((trait_operator wide n).parser.run ts)
  unfolding trait_operator
  same_trait_operator ts all =
      agrees_then _ _ _ _ (agrees_accept _ ts all)
      (λ opr m1 h1. agrees_then _ _ _ _ (same_opr_name names wide on n opr m1 h1)
      (λ name m2 h2. agrees_then _ _ _ _
      (same_operator_method_from names wide on n true name m2 h2) (λ m m3 h3. agrees_read h3)))

  pub same_trait_named : (name : Name) (ts : Row)
      → Alike names ts ((trait_named names n name).run ts) ((trait_named wide n name).run ts)
  unfolding trait_named
  same_trait_named name ts all =
      agrees_if _ _ _ _ _
      (agrees_then _ _ _ _ (same_method_from names wide on n true (function_name.Name name) ts all)
      (λ m m1 h1. agrees_read h1)) (same_trait_field name ts all)

  pub same_trait_member_at : (ts : Row)
      → Alike names ts ((trait_member_at names n).parser.run ts)
      ((trait_member_at wide n).parser.run ts)
  unfolding trait_member_at
  same_trait_member_at ts all =
      agrees_if _ _ _ _ _ (same_trait_operator ts all)
      (agrees_then _ _ _ _ (agrees_accept _ ts all) (λ x1 m1 h1. same_trait_named x1 m1 h1))

  pub same_trait_entry : (ts : Row)
      → Alike names ts ((trait_entry names n).parser.run ts) ((trait_entry wide n).parser.run ts)
  unfolding trait_entry
  same_trait_entry ts all =
      agrees_then _ _ _ _ (same_trait_member_at ts all)
      (λ m m1 h1. agrees_then _ _ _ _ (same_semicolon names wide on n m1 h1)
      (λ s m2 h2. agrees_read h2))

  pub same_trait_entries : (ts : Row)
      → Alike names ts ((trait_entries names n).run ts) ((trait_entries wide n).run ts)
  unfolding trait_entries
  same_trait_entries ts all =
      agrees_many {A = TraitEntry} {S =
      Bool} begins_trait_entry (λ ready e. is_ended e.semicolon) (λ ready. trait_entry names n)
      (λ ready. trait_entry wide n) (λ ready m1 h1. same_trait_entry m1 h1) n true ts all

  pub same_trait_from : (at_trait : Spot) (ts : Row)
      → Alike names ts ((trait_from names n at_trait).run ts) ((trait_from wide n at_trait).run ts)
  unfolding trait_from
  same_trait_from at_trait ts all =
      agrees_then _ _ _ _ (agrees_accept _ ts all)
      (λ name m1 h1. agrees_then _ _ _ _ (same_extends names wide on n m1 h1)
      (λ above m2 h2. agrees_then _ _ _ _ (same_excludes names wide on n m2 h2)
      (λ apart m3 h3. agrees_then _ _ _ _ (same_comprises names wide on n m3 h3)
      (λ below m4 h4. agrees_then _ _ _ _ (same_trait_entries m4 h4)
      (λ members m5 h5. agrees_then _ _ _ _ (agrees_accept _ m5 h5)
      (λ end m6 h6. agrees_read h6))))))

  pub same_object_variable : (var : Option Spot) (name : Name) (ts : Row)
      → Alike names ts ((object_variable names n var name).run ts)
      ((object_variable wide n var name).run ts)
  unfolding object_variable
  same_object_variable var name ts all =
      agrees_then _ _ _ _ (same_variable_at names wide on n var name ts all)
      (λ v m1 h1. agrees_read h1)

  pub same_object_var : (ts : Row)
      → Alike names ts ((object_var names n).parser.run ts) ((object_var wide n).parser.run ts)
  unfolding object_var
  same_object_var ts all =
      agrees_then _ _ _ _ (agrees_accept _ ts all)
      (λ var m1 h1. agrees_then _ _ _ _ (agrees_accept _ m1 h1)
      (λ name m2 h2. same_object_variable (Some var) name m2 h2))

  pub same_object_operator : (ts : Row)
      → Alike names ts ((object_operator names n).parser.run ts)
      ((object_operator wide n).parser.run ts)
  unfolding object_operator
  same_object_operator ts all =
      agrees_then _ _ _ _ (agrees_accept _ ts all)
      (λ opr m1 h1. agrees_then _ _ _ _ (same_opr_name names wide on n opr m1 h1)
      (λ name m2 h2. agrees_then _ _ _ _
      (same_operator_method_from names wide on n false name m2 h2) (λ m m3 h3. agrees_read h3)))

  pub same_object_named : (name : Name) (ts : Row)
      → Alike names ts ((object_named names n name).run ts) ((object_named wide n name).run ts)
  unfolding object_named
  same_object_named name ts all =
      agrees_if _ _ _ _ _
      (agrees_then _ _ _ _ (same_method_from names wide on n false (function_name.Name name) ts all)
      (λ m m1 h1. agrees_read h1)) (same_object_variable None name ts all)

  pub same_object_member_at : (ts : Row)
      → Alike names ts ((object_member_at names n).parser.run ts)
      ((object_member_at wide n).parser.run ts)
  unfolding object_member_at
  same_object_member_at ts all =
      agrees_if _ _ _ _ _ (same_object_var ts all)
      (agrees_if _ _ _ _ _ (same_object_operator ts all)
      (agrees_then _ _ _ _ (agrees_accept _ ts all) (λ x1 m1 h1. same_object_named x1 m1 h1)))

  pub same_object_entry : (ts : Row)
      → Alike names ts ((object_entry names n).parser.run ts) ((object_entry wide n).parser.run ts)
  unfolding object_entry
  same_object_entry ts all =
      agrees_then _ _ _ _ (same_object_member_at ts all)
      (λ m m1 h1. agrees_then _ _ _ _ (same_semicolon names wide on n m1 h1)
      (λ s m2 h2. agrees_read h2))

  pub same_object_entries : (ts : Row)
      → Alike names ts ((object_entries names n).run ts) ((object_entries wide n).run ts)
  unfolding object_entries
  same_object_entries ts all =
      agrees_many {A = ObjectEntry} {S =
      Bool} begins_object_entry (λ ready e. is_ended e.semicolon)
      (λ ready. object_entry names n) (λ ready. object_entry wide n)
      (λ ready m1 h1. same_object_entry m1 h1) n true ts all

  pub same_object_rest : (at_object : Spot) (name : Name) (parameters : Option ObjectParameters)
      (ts : Row)
      → Alike names ts ((object_rest names n at_object name parameters).run ts)
      ((object_rest wide n at_object name parameters).run ts)
  unfolding object_rest
  same_object_rest at_object name parameters ts all =
      agrees_then _ _ _ _ (same_extends names wide on n ts all)
      (λ above m1 h1. agrees_then _ _ _ _ (same_object_entries m1 h1)
      (λ members m2 h2. agrees_then _ _ _ _ (agrees_accept _ m2 h2)
      (λ end m3 h3. agrees_read h3)))

  pub same_object_from : (at_object : Spot) (ts : Row)
      → Alike names ts ((object_from names n at_object).run ts)
      ((object_from wide n at_object).run ts)
  unfolding object_from
  same_object_from at_object ts all =
      agrees_then _ _ _ _ (agrees_accept _ ts all)
      (λ name m1 h1. agrees_then _ _ _ _ (same_object_parameters names wide on n m1 h1)
      (λ parameters m2 h2. same_object_rest at_object name parameters m2 h2))

  pub same_variable_declaration : (var : Option Spot) (name : Name) (ts : Row)
      → Alike names ts ((variable_declaration names n var name).run ts)
      ((variable_declaration wide n var name).run ts)
  unfolding variable_declaration
  same_variable_declaration var name ts all =
      agrees_then _ _ _ _ (same_variable_at names wide on n var name ts all)
      (λ v m1 h1. agrees_read h1)

  pub same_var_declaration : (ts : Row)
      → Alike names ts ((var_declaration names n).parser.run ts)
      ((var_declaration wide n).parser.run ts)
  unfolding var_declaration
  same_var_declaration ts all =
      agrees_then _ _ _ _ (agrees_accept _ ts all)
      (λ var m1 h1. agrees_then _ _ _ _ (agrees_accept _ m1 h1)
      (λ name m2 h2. same_variable_declaration (Some var) name m2 h2))

  pub same_operator_declaration : (ts : Row)
      → Alike names ts ((operator_declaration names n).parser.run ts)
      ((operator_declaration wide n).parser.run ts)
  unfolding operator_declaration
  same_operator_declaration ts all =
      agrees_then _ _ _ _ (agrees_accept _ ts all)
      (λ opr m1 h1. agrees_then _ _ _ _ (same_opr_name names wide on n opr m1 h1)
      (λ name m2 h2. agrees_then _ _ _ _ (same_operator_from names wide on n name m2 h2)
      (λ f m3 h3. agrees_read h3)))

  pub same_named_declaration : (name : Name) (ts : Row)
      → Alike names ts ((named_declaration names n name).run ts)
      ((named_declaration wide n name).run ts)
  unfolding named_declaration
  same_named_declaration name ts all =
      agrees_if _ _ _ _ _
      (agrees_then _ _ _ _ (same_function_from names wide on n (function_name.Name name) ts all)
      (λ f m1 h1. agrees_read h1)) (same_variable_declaration None name ts all)

  pub same_word_declaration : (a0 : Reserved) (ts : Row)
      → Alike names ts ((word_declaration names n a0).parser.run ts)
      ((word_declaration wide n a0).parser.run ts)
  same_word_declaration reserved.Var ts all = same_var_declaration ts all
  same_word_declaration reserved.Opr ts all = same_operator_declaration ts all
  same_word_declaration reserved.Trait ts all =
      agrees_then _ _ _ _ (agrees_accept _ ts all)
      (λ s m1 h1. agrees_then _ _ _ _ (same_trait_from s m1 h1) (λ t m2 h2. agrees_read h2))
  same_word_declaration reserved.Object ts all =
      agrees_then _ _ _ _ (agrees_accept _ ts all)
      (λ s m1 h1. agrees_then _ _ _ _ (same_object_from s m1 h1) (λ o m2 h2. agrees_read h2))
  same_word_declaration _ ts all = agrees_failed

  pub same_declaration_for : (a0 : Kind) (ts : Row)
      → Alike names ts ((declaration_for names n a0).parser.run ts)
      ((declaration_for wide n a0).parser.run ts)
  same_declaration_for (kind.Word w) ts all = same_word_declaration w ts all
  same_declaration_for (kind.Name v) ts all =
      agrees_then _ _ _ _ (agrees_accept _ ts all) (λ x1 m1 h1. same_named_declaration x1 m1 h1)
  same_declaration_for _ ts all = agrees_failed

  pub same_declaration_by : (a0 : Option Token) (ts : Row)
      → Alike names ts ((declaration_by names n a0).parser.run ts)
      ((declaration_by wide n a0).parser.run ts)
  same_declaration_by None ts all = agrees_failed
  same_declaration_by (Some t) ts all = same_declaration_for t.kind ts all

  pub same_declaration_at : (ts : Row)
      → Alike names ts ((declaration_at names n).parser.run ts)
      ((declaration_at wide n).parser.run ts)
  unfolding declaration_at
  same_declaration_at ts all = same_declaration_by (next_of ts) ts all

  pub same_declared : (ts : Row)
      → Alike names ts ((declared names n).parser.run ts) ((declared wide n).parser.run ts)
  unfolding declared
  same_declared ts all =
      agrees_then _ _ _ _ (same_declaration_at ts all)
      (λ d m1 h1. agrees_then _ _ _ _ (same_semicolon names wide on n m1 h1)
      (λ s m2 h2. agrees_read h2))

  pub same_declarations : (ts : Row)
      → Alike names ts ((declarations names n).run ts) ((declarations wide n).run ts)
  unfolding declarations
  same_declarations ts all =
      agrees_many {A = Declared} {S =
      Bool} begins_declared (λ ready d. is_ended d.semicolon) (λ ready. declared names n)
      (λ ready. declared wide n) (λ ready m1 h1. same_declared m1 h1) n true ts all

  pub same_export_from : (ts : Row)
      → Alike names ts ((export_from names n).run ts) ((export_from wide n).run ts)
  unfolding export_from
  same_export_from ts all =
      agrees_then _ _ _ _ (agrees_accept _ ts all)
      (λ s m1 h1. agrees_then _ _ _ _
      (agrees_called _ _ m1 h1 (same_called names wide on (codes "Executable")))
      (λ name m2 h2. agrees_read h2))

  pub same_export : (ts : Row) → Alike names ts ((export names n).run ts) ((export wide n).run ts)
  unfolding export
  same_export ts all = agrees_if _ _ _ _ _ (same_export_from ts all) (agrees_read all)
