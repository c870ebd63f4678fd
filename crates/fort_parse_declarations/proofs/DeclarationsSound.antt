-- What declarations and components are read from is their tokens, and the rules on gaps and names
-- hold in them.
use Rattle.std.proofs.Common.{◌≡◌, ℕ, Bool, true, false, List, [], ◌∷◌, ◌++◌, append_assoc, Option, Some, None, refl, ap, ◌∙◌}
use Rattle.std.specs.Prelude.{map, option_map}
use Rattle.fort_lex_token.specs.declared.token.Kind.{Kind}
use Rattle.fort_lex_token.specs.declared.token.Kind.TheVariants as kind
use Rattle.fort_lex_token.specs.declared.token.Token.{Token}
use Rattle.fort_lex_token.specs.declared.marks.Mark.TheVariants as mark
use Rattle.fort_lex_token.specs.declared.reserved.Reserved.{Reserved}
use Rattle.fort_lex_token.specs.declared.reserved.Reserved.TheVariants as reserved
use Rattle.fort_tree.specs.declared.spot.Spot.{Spot}
use Rattle.fort_tree.specs.declared.spot.Name.{Name}
use Rattle.fort_tree.specs.declared.declarations.Component.{Component}
use Rattle.fort_tree.specs.declared.declarations.Declaration.{Declaration}
use Rattle.fort_tree.specs.declared.declarations.Declaration.TheVariants as declaration
use Rattle.fort_tree.specs.declared.declarations.Declared.{Declared}
use Rattle.fort_tree.specs.declared.declarations.Export.{Export}
use Rattle.fort_tree.specs.declared.declarations.Method.{Method}
use Rattle.fort_tree.specs.declared.declarations.Object.{Object}
use Rattle.fort_tree.specs.declared.declarations.ObjectEntry.{ObjectEntry}
use Rattle.fort_tree.specs.declared.declarations.ObjectMember.{ObjectMember}
use Rattle.fort_tree.specs.declared.declarations.ObjectMember.TheVariants as object_member
use Rattle.fort_tree.specs.declared.declarations.Trait.{Trait}
use Rattle.fort_tree.specs.declared.declarations.TraitEntry.{TraitEntry}
use Rattle.fort_tree.specs.declared.declarations.TraitMember.{TraitMember}
use Rattle.fort_tree.specs.declared.declarations.TraitMember.TheVariants as trait_member
use Rattle.fort_tree.specs.declared.declarations.Variable.{Variable}
use Rattle.std.specs.Prelude.{codes}
use Rattle.fort_tree.specs.Tokens.{Spellings, word, named, colon, is_spelled}
use Rattle.fort_tree.specs.Said.{Said, tokens_of, maybe_tokens, entries_tokens, semicolon_tokens, elsewhere}
use Rattle.fort_tree.specs.Yield.{said_variable}
use Rattle.fort_tree.specs.Declarations.{extends_tokens, excludes_tokens, comprises_tokens, said_object_parameters, said_trait_member, said_trait_entry, said_trait, said_object_member, said_object_entry, said_object, said_declaration, said_declared}
use Rattle.fort_tree.specs.Component.{export_tokens, export_obeys, yield, obeys}
use Rattle.fort_parse_reading.specs.Parser.{Row, next_of}
use Rattle.fort_parse_reading.specs.Words.{is_mark, is_word, is_called, sees}
use Rattle.fort_parse_reading.proofs.Laws.{Only, only_read, only_failed, only_then, only_if}
use Rattle.fort_parse_reading.proofs.Taking.{only_name, only_word, only_colon, only_called}
use Rattle.fort_parse_reading.proofs.Yields.{Yields, both}
use Rattle.fort_parse_types.proofs.Sound.{sound_type_tree}
use Rattle.fort_parse_first.specs.Beginnings.{begins_apart_of}
use Rattle.fort_parse.specs.Blocks.{is_ended}
use Rattle.fort_parse.proofs.Statements.{YieldsVariable}
use Rattle.fort_parse.proofs.Entries.{YieldsEntry, YieldsEntries, begun, only_entries}
use Rattle.fort_parse_first.specs.Declarations.{begins_trait_member, begins_object_member, begins_declaration_kind, begins_trait_entry, begins_object_entry, begins_declared}
use Rattle.fort_parse_declarations.specs.Declarations.{trait_field, trait_operator, trait_named, trait_member_at, trait_entry, trait_entries, trait_from, object_variable, object_var, object_operator, object_named, object_member_at, object_entry, object_entries, object_rest, object_from, variable_declaration, var_declaration, operator_declaration, named_declaration, word_declaration, declaration_for, declaration_at, declared, declarations, export_from, export, component}
use Rattle.fort_parse_declarations.proofs.Parts.{PartLaws}
use Rattle.fort_parse_declarations.proofs.NamesSound.{sound_semicolon, sound_opr_name, sound_extends, sound_excludes, sound_comprises, sound_object_parameters}
use Rattle.fort_parse_declarations.proofs.MethodsSound.{YieldsMethod, sound_function_from, sound_operator_from, sound_method_from, sound_operator_method}

spelled : (names : Spellings) (name : Name) → is_called (codes "Executable") names name ≡ true
    → is_spelled "Executable" names name ≡ true
unfolding is_called
spelled names name e = e

module _ (names : Spellings) (n : ℕ) (parts : PartLaws names n) where
  -- a member or declaration with its `;`
  entry_is : (names : Spellings) (f : Kind → Bool) (ready : Bool) (ts mid rest : Row) (x : Said)
      (s : Option Spot) → begins_apart_of f ready (next_of ts) ≡ true
      → Yields names x elsewhere ts mid → mid ≡ semicolon_tokens s ++ rest
      → YieldsEntry names ready (record { item = x; semicolon = s }) ts rest
  entry_is names f ready ts mid rest x s e h k =
      record {
        tokens = h.tokens ∙ ap (λ (u : Row). tokens_of x ++ u) k;
        obeys = h.obeys;
        apart = begun f ready ts mid x e h.tokens;
      }

  -- a method of an object has a body
  object_method : (m : Method) (ts rest : Row) → YieldsMethod names n parts false m ts rest
      → Yields names (said_object_member (object_member.Method m)) elsewhere ts rest
  object_method m ts rest h =
      record { tokens = h.said.tokens; obeys = both _ _ h.body h.said.obeys }

  -- ---- traits

  sound_trait_operator : (ts : Row)
      → Only TraitMember ((trait_operator names n).parser.run ts)
      (λ m rest. Yields names (said_trait_member m) elsewhere ts rest)
  unfolding trait_operator
  sound_trait_operator ts =
      only_then _ _ _ _ (only_word reserved.Opr ts) (λ opr mid h.
      only_then _ _ _ _ (sound_opr_name names n opr mid) (λ name mid1 k.
      rw (h, k.tokens)
      (only_then _ _ _ _ (sound_operator_method names n parts true name mid1 k.well)
      (λ m rest l. only_read _ (trait_member.Method m) rest l.said))))

  sound_trait_named : (name : Name) (ts : Row)
      → Only TraitMember ((trait_named names n name).run ts)
      (λ m rest. Yields names (said_trait_member m) elsewhere (named name ∷ ts) rest)
  unfolding trait_named trait_field
  sound_trait_named name ts =
      only_if (sees (is_mark mark.OpenParen) (next_of ts)) _ _ _
      (λ e. only_then _ _ _ _ (sound_method_from names n parts true name ts)
      (λ m rest l. only_read _ (trait_member.Method m) rest l.said))
      (λ e. only_then _ _ _ _ (only_colon ts)
      (λ c mid h. only_then _ _ _ _ (sound_type_tree names n mid) (λ ty rest k.
      only_read _ (trait_member.Field name c ty) rest
      (record {
        tokens =
            ap (λ (u : Row). named name ∷ u) (h ∙ ap (λ (u : Row). colon c ∷ u) k.tokens);
        obeys = k.obeys;
      }))))

  sound_trait_member : (ts : Row)
      → Only TraitMember ((trait_member_at names n).parser.run ts)
      (λ m rest. Yields names (said_trait_member m) elsewhere ts rest)
  unfolding trait_member_at
  sound_trait_member ts =
      only_if (sees (is_word reserved.Opr) (next_of ts)) _ _ _ (λ e. sound_trait_operator ts)
      (λ e. only_then _ _ _ _ (only_name ts) (λ name mid h. rw h (sound_trait_named name mid)))

  sound_trait_entry : (ready : Bool) (ts : Row)
      → begins_apart_of begins_trait_member ready (next_of ts) ≡ true
      → Only TraitEntry ((trait_entry names n).parser.run ts)
      (λ e rest. YieldsEntry names ready (said_trait_entry e) ts rest)
  unfolding trait_entry
  sound_trait_entry ready ts e =
      only_then _ _ _ _ (sound_trait_member ts) (λ m mid h.
      only_then _ _ _ _ (sound_semicolon names n mid) (λ s rest k.
      only_read _ _ rest
      (entry_is names begins_trait_member ready ts mid rest (said_trait_member m) s e h k)))

  sound_trait_entries : (ts : Row)
      → Only (List TraitEntry) ((trait_entries names n).run ts)
      (λ xs rest. YieldsEntries names true (map said_trait_entry xs) ts rest)
  unfolding trait_entries begins_trait_entry
  sound_trait_entries ts =
      only_entries names said_trait_entry (λ e. is_ended e.semicolon) begins_trait_member
      (trait_entry names n) (λ x. refl) sound_trait_entry n ts

  sound_trait_from : (s : Spot) (ts : Row)
      → Only Trait ((trait_from names n s).run ts)
      (λ t rest. Yields names (said_trait t) elsewhere (word reserved.Trait s ∷ ts) rest)
  unfolding trait_from
  sound_trait_from s ts =
      only_then _ _ _ _ (only_name ts) (λ name mid h.
      only_then _ _ _ _ (sound_extends names n mid) (λ above mid1 h1.
      only_then _ _ _ _ (sound_excludes names n mid1) (λ apart mid2 h2.
      only_then _ _ _ _ (sound_comprises names n mid2) (λ below mid3 h3.
      only_then _ _ _ _ (sound_trait_entries mid3) (λ members mid4 k.
      only_then _ _ _ _ (only_word reserved.End mid4) (λ end rest l.
      let after : ts
      ≡ named name
      ∷ (extends_tokens above
      ++ (excludes_tokens apart
      ++ (comprises_tokens below
      ++ (entries_tokens (map said_trait_entry members) ++ word reserved.End end
      ∷ rest)))) =
      h ∙ ap (λ
      (u : Row). named name ∷ u) (h1 ∙ ap (λ
      (u : Row). extends_tokens above ++ u) (h2 ∙ ap (λ
      (u : Row). excludes_tokens apart ++ u) (h3 ∙ ap (λ
      (u : Row). comprises_tokens below ++ u) (k.tokens ∙ ap (λ
      (u : Row). entries_tokens (map said_trait_entry members) ++ u) l)))) in
      only_read _ _ rest
      (record { tokens = rw after (simp append_assoc refl); obeys = k.obeys })))))))

  -- ---- objects

  sound_plain_variable : (name : Name) (ts : Row) (v : Variable) (rest : Row)
      → YieldsVariable names None name v ts rest
      → Yields names (said_variable v) elsewhere (named name ∷ ts) rest
  sound_plain_variable name ts v rest h = record { tokens = h.tokens; obeys = h.obeys }

  sound_var_variable : (var : Spot) (name : Name) (ts : Row) (v : Variable) (rest : Row)
      → YieldsVariable names (Some var) name v ts rest
      → Yields names (said_variable v) elsewhere (word reserved.Var var ∷ named name ∷ ts) rest
  sound_var_variable var name ts v rest h = record { tokens = h.tokens; obeys = h.obeys }

  sound_object_operator : (ts : Row)
      → Only ObjectMember ((object_operator names n).parser.run ts)
      (λ m rest. Yields names (said_object_member m) elsewhere ts rest)
  unfolding object_operator
  sound_object_operator ts =
      only_then _ _ _ _ (only_word reserved.Opr ts) (λ opr mid h.
      only_then _ _ _ _ (sound_opr_name names n opr mid) (λ name mid1 k.
      rw (h, k.tokens)
      (only_then _ _ _ _ (sound_operator_method names n parts false name mid1 k.well)
      (λ m rest l. only_read _ (object_member.Method m) rest (object_method m _ rest l)))))

  sound_object_var : (ts : Row)
      → Only ObjectMember ((object_var names n).parser.run ts)
      (λ m rest. Yields names (said_object_member m) elsewhere ts rest)
  unfolding object_var object_variable
  sound_object_var ts =
      only_then _ _ _ _ (only_word reserved.Var ts) (λ var mid h.
      only_then _ _ _ _ (only_name mid) (λ name mid1 k.
      rw (h, k)
      (only_then _ _ _ _ (parts.sound_variable (Some var) name mid1)
      (λ v rest l. only_read _ (object_member.Variable v) rest
      (sound_var_variable var name mid1 v rest l)))))

  sound_object_named : (name : Name) (ts : Row)
      → Only ObjectMember ((object_named names n name).run ts)
      (λ m rest. Yields names (said_object_member m) elsewhere (named name ∷ ts) rest)
  unfolding object_named object_variable
  sound_object_named name ts =
      only_if (sees (is_mark mark.OpenParen) (next_of ts)) _ _ _
      (λ e. only_then _ _ _ _ (sound_method_from names n parts false name ts)
      (λ m rest l. only_read _ (object_member.Method m) rest (object_method m _ rest l)))
      (λ e. only_then _ _ _ _ (parts.sound_variable None name ts)
      (λ v rest l. only_read _ (object_member.Variable v) rest
      (sound_plain_variable name ts v rest l)))

  sound_object_member : (ts : Row)
      → Only ObjectMember ((object_member_at names n).parser.run ts)
      (λ m rest. Yields names (said_object_member m) elsewhere ts rest)
  unfolding object_member_at
  sound_object_member ts =
      only_if (sees (is_word reserved.Var) (next_of ts)) _ _ _ (λ e. sound_object_var ts)
      (λ e. only_if (sees (is_word reserved.Opr) (next_of ts)) _ _ _ (λ f. sound_object_operator ts)
      (λ f. only_then _ _ _ _ (only_name ts) (λ name mid h. rw h (sound_object_named name mid))))

  sound_object_entry : (ready : Bool) (ts : Row)
      → begins_apart_of begins_object_member ready (next_of ts) ≡ true
      → Only ObjectEntry ((object_entry names n).parser.run ts)
      (λ e rest. YieldsEntry names ready (said_object_entry e) ts rest)
  unfolding object_entry
  sound_object_entry ready ts e =
      only_then _ _ _ _ (sound_object_member ts) (λ m mid h.
      only_then _ _ _ _ (sound_semicolon names n mid) (λ s rest k.
      only_read _ _ rest
      (entry_is names begins_object_member ready ts mid rest (said_object_member m) s e h k)))

  sound_object_entries : (ts : Row)
      → Only (List ObjectEntry) ((object_entries names n).run ts)
      (λ xs rest. YieldsEntries names true (map said_object_entry xs) ts rest)
  unfolding object_entries begins_object_entry
  sound_object_entries ts =
      only_entries names said_object_entry (λ e. is_ended e.semicolon) begins_object_member
      (object_entry names n) (λ x. refl) sound_object_entry n ts

  sound_object_from : (s : Spot) (ts : Row)
      → Only Object ((object_from names n s).run ts)
      (λ o rest. Yields names (said_object o) elsewhere (word reserved.Object s ∷ ts) rest)
  unfolding object_from object_rest
  sound_object_from s ts =
      only_then _ _ _ _ (only_name ts) (λ name mid h.
      only_then _ _ _ _ (sound_object_parameters names n mid) (λ p mid1 k1.
      only_then _ _ _ _ (sound_extends names n mid1) (λ above mid2 h2.
      only_then _ _ _ _ (sound_object_entries mid2) (λ members mid3 k.
      only_then _ _ _ _ (only_word reserved.End mid3) (λ end rest l.
      let after : ts
      ≡ named name
      ∷ (maybe_tokens (option_map said_object_parameters p)
      ++ (extends_tokens above
      ++ (entries_tokens (map said_object_entry members) ++ word reserved.End end
      ∷ rest))) =
      h ∙ ap (λ
      (u : Row). named name ∷ u) (k1.tokens ∙ ap (λ
      (u : Row). maybe_tokens (option_map said_object_parameters p) ++ u) (h2 ∙ ap (λ
      (u : Row). extends_tokens above ++ u) (k.tokens ∙ ap (λ
      (u : Row). entries_tokens (map said_object_entry members) ++ u) l))) in
      only_read _ _ rest
      (record {
        tokens = rw after (simp append_assoc refl);
        obeys = both _ _ k1.obeys k.obeys;
      }))))))

  -- ---- declarations

  sound_var_declaration : (ts : Row)
      → Only Declaration ((var_declaration names n).parser.run ts)
      (λ d rest. Yields names (said_declaration d) elsewhere ts rest)
  unfolding var_declaration variable_declaration
  sound_var_declaration ts =
      only_then _ _ _ _ (only_word reserved.Var ts) (λ var mid h.
      only_then _ _ _ _ (only_name mid) (λ name mid1 k.
      rw (h, k)
      (only_then _ _ _ _ (parts.sound_variable (Some var) name mid1)
      (λ v rest l. only_read _ (declaration.Variable v) rest
      (sound_var_variable var name mid1 v rest l)))))

  sound_operator_declaration : (ts : Row)
      → Only Declaration ((operator_declaration names n).parser.run ts)
      (λ d rest. Yields names (said_declaration d) elsewhere ts rest)
  unfolding operator_declaration
  sound_operator_declaration ts =
      only_then _ _ _ _ (only_word reserved.Opr ts) (λ opr mid h.
      only_then _ _ _ _ (sound_opr_name names n opr mid) (λ name mid1 k.
      rw (h, k.tokens)
      (only_then _ _ _ _ (sound_operator_from names n parts name mid1 k.well)
      (λ f rest l. only_read _ (declaration.Function f) rest l))))

  sound_named_declaration : (name : Name) (ts : Row)
      → Only Declaration ((named_declaration names n name).run ts)
      (λ d rest. Yields names (said_declaration d) elsewhere (named name ∷ ts) rest)
  unfolding named_declaration variable_declaration
  sound_named_declaration name ts =
      only_if (sees (is_mark mark.OpenParen) (next_of ts)) _ _ _
      (λ e. only_then _ _ _ _ (sound_function_from names n parts name ts)
      (λ f rest l. only_read _ (declaration.Function f) rest l))
      (λ e. only_then _ _ _ _ (parts.sound_variable None name ts)
      (λ v rest l. only_read _ (declaration.Variable v) rest
      (sound_plain_variable name ts v rest l)))

  sound_word_declaration : (w : Reserved) (ts : Row)
      → Only Declaration ((word_declaration names n w).parser.run ts)
      (λ d rest. Yields names (said_declaration d) elsewhere ts rest)
  sound_word_declaration reserved.Var ts = sound_var_declaration ts
  sound_word_declaration reserved.Opr ts = sound_operator_declaration ts
  sound_word_declaration reserved.Trait ts =
      only_then _ _ _ _ (only_word reserved.Trait ts)
      (λ s mid h. rw h
      (only_then _ _ _ _ (sound_trait_from s mid)
      (λ t rest k. only_read _ (declaration.Trait t) rest k)))
  sound_word_declaration reserved.Object ts =
      only_then _ _ _ _ (only_word reserved.Object ts)
      (λ s mid h. rw h
      (only_then _ _ _ _ (sound_object_from s mid)
      (λ o rest k. only_read _ (declaration.Object o) rest k)))
  sound_word_declaration _ ts = only_failed _ _ ts

  sound_declaration_for : (k : Kind) (ts : Row)
      → Only Declaration ((declaration_for names n k).parser.run ts)
      (λ d rest. Yields names (said_declaration d) elsewhere ts rest)
  sound_declaration_for (kind.Word w) ts = sound_word_declaration w ts
  sound_declaration_for (kind.Name v) ts =
      only_then _ _ _ _ (only_name ts) (λ name mid h. rw h (sound_named_declaration name mid))
  sound_declaration_for _ ts = only_failed _ _ ts

  sound_declaration : (ts : Row)
      → Only Declaration ((declaration_at names n).parser.run ts)
      (λ d rest. Yields names (said_declaration d) elsewhere ts rest)
  unfolding declaration_at
  sound_declaration [] = only_failed _ _ []
  sound_declaration (t ∷ ts) = sound_declaration_for t.kind (t ∷ ts)

  sound_declared : (ready : Bool) (ts : Row)
      → begins_apart_of begins_declaration_kind ready (next_of ts) ≡ true
      → Only Declared ((declared names n).parser.run ts)
      (λ e rest. YieldsEntry names ready (said_declared e) ts rest)
  unfolding declared
  sound_declared ready ts e =
      only_then _ _ _ _ (sound_declaration ts) (λ d mid h.
      only_then _ _ _ _ (sound_semicolon names n mid) (λ s rest k.
      only_read _ _ rest
      (entry_is names begins_declaration_kind ready ts mid rest (said_declaration d) s e h k)))

  sound_declarations : (ts : Row)
      → Only (List Declared) ((declarations names n).run ts)
      (λ xs rest. YieldsEntries names true (map said_declared xs) ts rest)
  unfolding declarations begins_declared
  sound_declarations ts =
      only_entries names said_declared (λ e. is_ended e.semicolon) begins_declaration_kind
      (declared names n) (λ x. refl) sound_declared n ts

  -- ---- components

  sound_export : (ts : Row)
      → Only (Option Export) ((export names n).run ts) (λ x rest. (ts ≡ export_tokens x ++ rest)
      × (export_obeys names x ≡ true))
  unfolding export export_from
  sound_export ts =
      only_if (sees (is_word reserved.Export) (next_of ts)) _ _ _
      (λ e. only_then _ _ _ _ (only_word reserved.Export ts)
      (λ s mid h. only_then _ _ _ _ (only_called (codes "Executable") names mid)
      (λ name rest k.
      only_read _ _ rest (
        h ∙ ap (λ
            (u : Row). word reserved.Export s ∷ u) k.0,
        spelled names name k.1,
      ))))
      (λ e. only_read _ None ts (refl, refl))

  -- ts is the tokens of the component and then rest, the rules hold in it, and it has these names
  -- and texts
  pub record YieldsComponent (texts : List (List ℕ)) (c : Component)
      (ts rest : List Token) : Type 0 where
    pub tokens : ts ≡ yield c ++ rest
    pub obeys : obeys c ≡ true
    pub spellings : c.names ≡ names
    pub texts_are : c.texts ≡ texts

  pub sound_component : (texts : List (List ℕ)) (ts : Row)
      → Only Component ((component names n texts).run ts)
      (λ c rest. YieldsComponent texts c ts rest)
  unfolding component
  sound_component texts ts =
      only_then _ _ _ _ (only_word reserved.Component ts) (λ at mid h.
      only_then _ _ _ _ (only_name mid) (λ name mid1 h1.
      only_then _ _ _ _ (sound_export mid1) (λ exported mid2 k1.
      only_then _ _ _ _ (sound_declarations mid2) (λ list mid3 k.
      only_then _ _ _ _ (only_word reserved.End mid3) (λ end rest l.
      let after : ts
      ≡ word reserved.Component at ∷ named name
      ∷ (export_tokens exported
      ++ (entries_tokens (map said_declared list) ++ word reserved.End end ∷ rest)) =
      h ∙ ap (λ
      (u : Row). word reserved.Component at ∷ u) (h1 ∙ ap (λ
      (u : Row). named name ∷ u) (k1.0 ∙ ap (λ
      (u : Row). export_tokens exported ++ u) (k.tokens ∙ ap (λ
      (u : Row). entries_tokens (map said_declared list) ++ u) l))) in
      only_read _ _ rest
      (record {
        tokens = rw after (simp append_assoc refl);
        obeys = both _ _ k1.1 k.obeys;
        spellings = refl;
        texts_are = refl;
      }))))))
