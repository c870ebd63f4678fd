-- The productions of declarations and components as parsers.
use Rattle.std.specs.Prelude.{ℕ, Bool, true, false, List, Option, Some, None, codes}
use Rattle.fort_lex_token.specs.declared.token.Kind.{Kind}
use Rattle.fort_lex_token.specs.declared.token.Kind.TheVariants as kind
use Rattle.fort_lex_token.specs.declared.token.Token.{Token}
use Rattle.fort_lex_token.specs.declared.marks.Mark.TheVariants as mark
use Rattle.fort_lex_token.specs.declared.reserved.Reserved.{Reserved}
use Rattle.fort_lex_token.specs.declared.reserved.Reserved.TheVariants as reserved
use Rattle.fort_tree.specs.declared.spot.Spot.{Spot}
use Rattle.fort_tree.specs.declared.spot.Name.{Name}
use Rattle.fort_tree.specs.declared.declarations.Component.{Component}
use Rattle.fort_tree.specs.declared.declarations.Declaration.{Declaration}
use Rattle.fort_tree.specs.declared.declarations.Declaration.TheVariants as declaration
use Rattle.fort_tree.specs.declared.declarations.Declared.{Declared}
use Rattle.fort_tree.specs.declared.declarations.Export.{Export}
use Rattle.fort_tree.specs.declared.declarations.FunctionName.TheVariants as function_name
use Rattle.fort_tree.specs.declared.declarations.Object.{Object}
use Rattle.fort_tree.specs.declared.declarations.ObjectEntry.{ObjectEntry}
use Rattle.fort_tree.specs.declared.declarations.ObjectMember.{ObjectMember}
use Rattle.fort_tree.specs.declared.declarations.ObjectMember.TheVariants as object_member
use Rattle.fort_tree.specs.declared.declarations.ObjectParameters.{ObjectParameters}
use Rattle.fort_tree.specs.declared.declarations.Trait.{Trait}
use Rattle.fort_tree.specs.declared.declarations.TraitEntry.{TraitEntry}
use Rattle.fort_tree.specs.declared.declarations.TraitMember.{TraitMember}
use Rattle.fort_tree.specs.declared.declarations.TraitMember.TheVariants as trait_member
use Rattle.fort_tree.specs.Tokens.{Spellings}
use Rattle.fort_parse_reading.specs.Parser.{Parser, Eater, pure, wrong, ◌>>=◌, look, fork, fork_eater, token, accept, choose, no_eater, ◌>>|◌, chain, same_budget}
use Rattle.fort_parse_reading.specs.Words.{is_mark, is_word, is_range, spot_if, name_of, called_of, sees}
use Rattle.fort_parse_types.specs.Types.{type_tree}
use Rattle.fort_parse_first.specs.Declarations.{begins_trait_entry, begins_object_entry, begins_declared}
use Rattle.fort_parse.specs.Blocks.{is_ended}
use Rattle.fort_parse.specs.Runs.{variable_at}
use Rattle.fort_parse_declarations.specs.Names.{semicolon, opr_name, extends, excludes, comprises, object_parameters}
use Rattle.fort_parse_declarations.specs.Methods.{function_from, operator_from, method_from, operator_method_from}

module _ (names : Spellings) (n : ℕ) where
  -- ---- traits

  unfoldable pub trait_field : Name → Parser TraitMember n
  trait_field name = do
    colon ← accept (spot_if is_range)
    ty ← (type_tree names n).parser
    pure (trait_member.Field name colon ty)

  unfoldable pub trait_operator : Eater TraitMember n
  trait_operator = token (spot_if (is_word reserved.Opr)) >>| λ opr. do
    name ← opr_name names n opr
    m ← operator_method_from names n true name
    pure (trait_member.Method m)

  unfoldable pub trait_named : Name → Parser TraitMember n
  trait_named name = fork (sees (is_mark mark.OpenParen)) (do m ← method_from names n true (function_name.Name name); pure (trait_member.Method m)) (trait_field name)

  unfoldable pub trait_member_at : Eater TraitMember n
  trait_member_at =
      fork_eater (sees (is_word reserved.Opr)) trait_operator (token name_of >>| trait_named)

  unfoldable pub trait_entry : Eater TraitEntry n
  trait_entry = trait_member_at >>| λ m. do
    s ← semicolon names n
    pure (record { member = m; semicolon = s })

  unfoldable pub trait_entries : Parser (List TraitEntry) n
  trait_entries =
      chain n (same_budget n) begins_trait_entry (λ ready e. is_ended e.semicolon)
      (λ ready. trait_entry) true

  unfoldable pub trait_from : Spot → Parser Trait n
  trait_from at_trait = do
    name ← accept name_of
    above ← extends names n
    apart ← excludes names n
    below ← comprises names n
    members ← trait_entries
    end ← accept (spot_if (is_word reserved.End))
    pure (record {
      trait_ = at_trait;
      name = name;
      extends = above;
      excludes = apart;
      comprises = below;
      members = members;
      end = end;
    })

  -- ---- objects

  unfoldable pub object_variable : Option Spot → Name → Parser ObjectMember n
  object_variable var name = do
    v ← variable_at names n var name
    pure (object_member.Variable v)

  unfoldable pub object_var : Eater ObjectMember n
  object_var = token (spot_if (is_word reserved.Var)) >>| λ var. do
    name ← accept name_of
    object_variable (Some var) name

  unfoldable pub object_operator : Eater ObjectMember n
  object_operator = token (spot_if (is_word reserved.Opr)) >>| λ opr. do
    name ← opr_name names n opr
    m ← operator_method_from names n false name
    pure (object_member.Method m)

  unfoldable pub object_named : Name → Parser ObjectMember n
  object_named name = fork (sees (is_mark mark.OpenParen)) (do m ← method_from names n false (function_name.Name name); pure (object_member.Method m)) (object_variable None name)

  unfoldable pub object_member_at : Eater ObjectMember n
  object_member_at =
      fork_eater (sees (is_word reserved.Var)) object_var
      (fork_eater (sees (is_word reserved.Opr)) object_operator (token name_of >>| object_named))

  unfoldable pub object_entry : Eater ObjectEntry n
  object_entry = object_member_at >>| λ m. do
    s ← semicolon names n
    pure (record { member = m; semicolon = s })

  unfoldable pub object_entries : Parser (List ObjectEntry) n
  object_entries =
      chain n (same_budget n) begins_object_entry (λ ready e. is_ended e.semicolon)
      (λ ready. object_entry) true

  unfoldable pub object_rest : Spot → Name → Option ObjectParameters → Parser Object n
  object_rest at_object name parameters = do
    above ← extends names n
    members ← object_entries
    end ← accept (spot_if (is_word reserved.End))
    pure (record {
      object = at_object;
      name = name;
      parameters = parameters;
      extends = above;
      members = members;
      end = end;
    })

  unfoldable pub object_from : Spot → Parser Object n
  object_from at_object = do
    name ← accept name_of
    parameters ← object_parameters names n
    object_rest at_object name parameters

  -- ---- declarations

  unfoldable pub variable_declaration : Option Spot → Name → Parser Declaration n
  variable_declaration var name = do
    v ← variable_at names n var name
    pure (declaration.Variable v)

  unfoldable pub var_declaration : Eater Declaration n
  var_declaration = token (spot_if (is_word reserved.Var)) >>| λ var. do
    name ← accept name_of
    variable_declaration (Some var) name

  unfoldable pub operator_declaration : Eater Declaration n
  operator_declaration = token (spot_if (is_word reserved.Opr)) >>| λ opr. do
    name ← opr_name names n opr
    f ← operator_from names n name
    pure (declaration.Function f)

  unfoldable pub named_declaration : Name → Parser Declaration n
  named_declaration name = fork (sees (is_mark mark.OpenParen)) (do f ← function_from names n (function_name.Name name); pure (declaration.Function f)) (variable_declaration None name)

  abbrev pub word_declaration : Reserved → Eater Declaration n
  word_declaration reserved.Var = var_declaration
  word_declaration reserved.Opr = operator_declaration
  word_declaration reserved.Trait = token (spot_if (is_word reserved.Trait)) >>| λ s. do t ← trait_from s; pure (declaration.Trait t)
  word_declaration reserved.Object = token (spot_if (is_word reserved.Object)) >>| λ s. do o ← object_from s; pure (declaration.Object o)
  word_declaration _ = no_eater

  abbrev pub declaration_for : Kind → Eater Declaration n
  declaration_for (kind.Word w) = word_declaration w
  declaration_for (kind.Name v) = token name_of >>| named_declaration
  declaration_for _ = no_eater

  abbrev pub declaration_by : Option Token → Eater Declaration n
  declaration_by None = no_eater
  declaration_by (Some t) = declaration_for t.kind

  unfoldable pub declaration_at : Eater Declaration n
  declaration_at = choose declaration_by

  unfoldable pub declared : Eater Declared n
  declared = declaration_at >>| λ d. do
    s ← semicolon names n
    pure (record { declaration = d; semicolon = s })

  unfoldable pub declarations : Parser (List Declared) n
  declarations =
      chain n (same_budget n) begins_declared (λ ready d. is_ended d.semicolon) (λ ready. declared)
      true

  -- ---- components

  unfoldable pub export_from : Parser (Option Export) n
  export_from = do
    s ← accept (spot_if (is_word reserved.Export))
    name ← accept (called_of (codes "Executable") names)
    pure (Some (record { export = s; name = name }))

  unfoldable pub export : Parser (Option Export) n
  export = fork (sees (is_word reserved.Export)) export_from (pure None)

  -- a component with these texts, and what may follow it
  unfoldable pub component : List (List ℕ) → Parser Component n
  component texts = do
    at_component ← accept (spot_if (is_word reserved.Component))
    name ← accept name_of
    exported ← export
    list ← declarations
    end ← accept (spot_if (is_word reserved.End))
    pure (record {
      component = at_component;
      name = name;
      export = exported;
      declarations = list;
      end = end;
      names = names;
      texts = texts;
    })

  abbrev pub nothing_after : Component → Option Token → Parser Component n
  nothing_after c None = pure c
  nothing_after c (Some t) = wrong

  -- a component, and nothing after it
  unfoldable pub whole : List (List ℕ) → Parser Component n
  whole texts = component texts >>= λ c. look (nothing_after c)
