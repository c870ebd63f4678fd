-- What APIs are read from is their tokens, and the rules on gaps and names hold in them.
use Rattle.std.proofs.Common.{◌≡◌, ℕ, Bool, true, List, [], ◌∷◌, ◌++◌, append_assoc, Option, Some, None, refl, ap, ◌∙◌}
use Rattle.std.specs.Prelude.{map, option_map}
use Rattle.fort_lex_token.specs.declared.token.Token.{Token}
use Rattle.fort_lex_token.specs.declared.marks.Mark.TheVariants as mark
use Rattle.fort_lex_token.specs.declared.reserved.Reserved.TheVariants as reserved
use Rattle.fort_tree.specs.declared.spot.Spot.{Spot}
use Rattle.fort_tree.specs.declared.spot.Name.{Name}
use Rattle.fort_tree.specs.Tokens.{Spellings, word, marked, named, colon}
use Rattle.fort_tree.specs.Said.{Said, tokens_of, maybe_tokens, entries_tokens, semicolon_tokens, elsewhere}
use Rattle.fort_tree.specs.Types.{said_type, said_parameters}
use Rattle.fort_parse_reading.specs.Parser.{Row, next_of}
use Rattle.fort_parse_reading.specs.Words.{is_mark, is_word, sees}
use Rattle.fort_parse_reading.proofs.Laws.{Only, only_read, only_failed, only_then, only_if}
use Rattle.fort_parse_reading.proofs.Taking.{only_name, only_mark, only_word, only_colon}
use Rattle.fort_parse_reading.proofs.Yields.{Yields, both}
use Rattle.fort_parse_types.proofs.Sound.{sound_type_tree, sound_maybe_parameters}
use Rattle.fort_parse_first.specs.Beginnings.{begins_apart_of}
use Rattle.fort_parse.specs.Blocks.{is_ended}
use Rattle.fort_parse.proofs.Entries.{YieldsEntry, YieldsEntries, begun, only_entries}
use Rattle.fort_link_units.specs.declared.unit.Api.{Api}
use Rattle.fort_link_units.specs.declared.unit.ApiDeclaration.{ApiDeclaration}
use Rattle.fort_link_units.specs.declared.unit.ApiDeclaration.TheVariants as declaration
use Rattle.fort_link_units.specs.declared.unit.ApiDeclared.{ApiDeclared}
use Rattle.fort_link_units.specs.Said.{said_api_declaration, said_api_declared, api_tokens, api_obeys}
use Rattle.fort_link_units.specs.Apis.{begins_declaration, begins_declared, semicolon, variable, head_rest, head, named_declaration, trait_declaration, object_declaration, declaration_at, declared, declarations, api, nothing_after, whole}

module _ (names : Spellings) (n : ℕ) where
  sound_semicolon : (ts : Row)
      → Only (Option Spot) ((semicolon names n).run ts) (λ s rest. ts ≡ semicolon_tokens s ++ rest)
  unfolding semicolon
  sound_semicolon ts =
      only_if (sees (is_mark mark.Semicolon) (next_of ts)) _ _ _
      (λ e. only_then _ _ _ _ (only_mark mark.Semicolon ts)
      (λ s rest h. only_read _ (Some s) rest h))
      (λ e. only_read _ None ts refl)

  sound_variable : (name : Name) (ts : Row)
      → Only ApiDeclaration ((variable names n name).run ts)
      (λ d rest. Yields names (said_api_declaration d) elsewhere (named name ∷ ts) rest)
  unfolding variable
  sound_variable name ts =
      only_then _ _ _ _ (only_colon ts) (λ c mid h.
      only_then _ _ _ _ (sound_type_tree names n mid) (λ ty rest k.
      only_read _ (declaration.Variable name c ty) rest
      (record {
        tokens =
            ap (λ (u : Row). named name ∷ u) (h ∙ ap (λ (u : Row). colon c ∷ u) k.tokens);
        obeys = k.obeys;
      })))

  sound_head : (name : Name) (ts : Row)
      → Only ApiDeclaration ((head names n name).run ts)
      (λ d rest. Yields names (said_api_declaration d) elsewhere (named name ∷ ts) rest)
  unfolding head head_rest
  sound_head name ts =
      only_then _ _ _ _ (only_mark mark.OpenParen ts) (λ left mid h.
      only_then _ _ _ _ (sound_maybe_parameters names n mid) (λ p mid1 k.
      only_then _ _ _ _ (only_mark mark.CloseParen mid1) (λ right mid2 l.
      only_then _ _ _ _ (only_colon mid2) (λ c mid3 h1.
      only_then _ _ _ _ (sound_type_tree names n mid3) (λ result rest k1.
      let after : ts
      ≡ marked mark.OpenParen left
      ∷ (maybe_tokens (option_map said_parameters p) ++ marked mark.CloseParen right ∷ colon c
      ∷ (tokens_of (said_type result) ++ rest)) =
      h ∙ ap (λ
      (u : Row). marked mark.OpenParen left ∷ u) (k.tokens ∙ ap (λ
      (u : Row). maybe_tokens (option_map said_parameters p) ++ u) (l ∙ ap (λ
      (u : Row). marked mark.CloseParen right ∷ u) (h1 ∙ ap (λ
      (u : Row). colon c ∷ u) k1.tokens))) in
      only_read _ _ rest
      (record {
        tokens = rw after (simp append_assoc refl);
        obeys = both _ _ k.obeys k1.obeys;
      }))))))

  sound_named : (name : Name) (ts : Row)
      → Only ApiDeclaration ((named_declaration names n name).run ts)
      (λ d rest. Yields names (said_api_declaration d) elsewhere (named name ∷ ts) rest)
  unfolding named_declaration
  sound_named name ts =
      only_if (sees (is_mark mark.OpenParen) (next_of ts)) _ _ _ (λ e. sound_head name ts)
      (λ e. sound_variable name ts)

  sound_trait : (ts : Row)
      → Only ApiDeclaration ((trait_declaration names n).parser.run ts)
      (λ d rest. Yields names (said_api_declaration d) elsewhere ts rest)
  unfolding trait_declaration
  sound_trait ts =
      only_then _ _ _ _ (only_word reserved.Trait ts) (λ s mid h.
      only_then _ _ _ _ (only_name mid) (λ name rest k.
      only_read _ (declaration.Trait s name) rest
      (record { tokens = h ∙ ap (λ (u : Row). word reserved.Trait s ∷ u) k; obeys = refl })))

  sound_object : (ts : Row)
      → Only ApiDeclaration ((object_declaration names n).parser.run ts)
      (λ d rest. Yields names (said_api_declaration d) elsewhere ts rest)
  unfolding object_declaration
  sound_object ts =
      only_then _ _ _ _ (only_word reserved.Object ts) (λ s mid h.
      only_then _ _ _ _ (only_name mid) (λ name rest k.
      only_read _ (declaration.Object s name) rest
      (record { tokens = h ∙ ap (λ (u : Row). word reserved.Object s ∷ u) k; obeys = refl })))

  sound_declaration : (ts : Row)
      → Only ApiDeclaration ((declaration_at names n).parser.run ts)
      (λ d rest. Yields names (said_api_declaration d) elsewhere ts rest)
  unfolding declaration_at
  sound_declaration ts =
      only_if (sees (is_word reserved.Trait) (next_of ts)) _ _ _ (λ e. sound_trait ts)
      (λ e. only_if (sees (is_word reserved.Object) (next_of ts)) _ _ _ (λ f. sound_object ts)
      (λ f. only_then _ _ _ _ (only_name ts) (λ name mid h. rw h (sound_named name mid))))

  entry_is : (ready : Bool) (ts mid rest : Row) (x : Said) (s : Option Spot)
      → begins_apart_of begins_declaration ready (next_of ts) ≡ true
      → Yields names x elsewhere ts mid → mid ≡ semicolon_tokens s ++ rest
      → YieldsEntry names ready (record { item = x; semicolon = s }) ts rest
  entry_is ready ts mid rest x s e h k = record {
    tokens = h.tokens ∙ ap (λ (u : Row). tokens_of x ++ u) k;
    obeys = h.obeys;
    apart = begun begins_declaration ready ts mid x e h.tokens;
  }

  sound_declared : (ready : Bool) (ts : Row)
      → begins_apart_of begins_declaration ready (next_of ts) ≡ true
      → Only ApiDeclared ((declared names n).parser.run ts)
      (λ d rest. YieldsEntry names ready (said_api_declared d) ts rest)
  unfolding declared
  sound_declared ready ts e =
      only_then _ _ _ _ (sound_declaration ts) (λ d mid h.
      only_then _ _ _ _ (sound_semicolon mid) (λ s rest k.
      only_read _ _ rest (entry_is ready ts mid rest (said_api_declaration d) s e h k)))

  sound_declarations : (ts : Row)
      → Only (List ApiDeclared) ((declarations names n).run ts)
      (λ xs rest. YieldsEntries names true (map said_api_declared xs) ts rest)
  unfolding declarations begins_declared
  sound_declarations ts =
      only_entries names said_api_declared (λ d. is_ended d.semicolon) begins_declaration
      (declared names n) (λ x. refl) sound_declared n ts

  -- ts is the tokens of the API and then rest, and the rules hold in it
  pub record YieldsApi (a : Api) (ts rest : List Token) : Type 0 where
    pub tokens : ts ≡ api_tokens a ++ rest
    pub obeys : api_obeys names a ≡ true

  pub sound_api : (ts : Row)
      → Only Api ((api names n).run ts) (λ a rest. YieldsApi a ts rest)
  unfolding api
  sound_api ts =
      only_then _ _ _ _ (only_word reserved.Api ts) (λ at mid h.
      only_then _ _ _ _ (only_name mid) (λ name mid1 h1.
      only_then _ _ _ _ (sound_declarations mid1) (λ list mid2 k.
      only_then _ _ _ _ (only_word reserved.End mid2) (λ end rest l.
      let after : ts
      ≡ word reserved.Api at ∷ named name
      ∷ (entries_tokens (map said_api_declared list) ++ word reserved.End end ∷ rest) =
      h ∙ ap (λ
      (u : Row). word reserved.Api at ∷ u) (h1 ∙ ap (λ
      (u : Row). named name ∷ u) (k.tokens ∙ ap (λ
      (u : Row). entries_tokens (map said_api_declared list) ++ u) l)) in
      only_read _ _ rest
      (record { tokens = rw after (simp append_assoc refl); obeys = k.obeys })))))

  after_is : (ts : Row) (a : Api) (mid : Row) → YieldsApi a ts mid
      → Only Api ((nothing_after names n a (next_of mid)).run mid)
      (λ x rest. YieldsApi x ts [])
  after_is ts a [] h = only_read _ a [] h
  after_is ts a (t ∷ mid) h = only_failed _ _ (t ∷ mid)

  pub sound_whole : (ts : Row)
      → Only Api ((whole names n).run ts) (λ a rest. YieldsApi a ts [])
  unfolding whole
  sound_whole ts = only_then _ _ _ _ (sound_api ts) (λ a mid h. after_is ts a mid h)
