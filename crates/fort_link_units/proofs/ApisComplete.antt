-- The tokens of an API are read as it.
use Rattle.std.proofs.Common.{◌≡◌, ℕ, Bool, true, false, List, [], ◌∷◌, ◌++◌, append_assoc, Option, Some, None, refl}
use Rattle.std.specs.Prelude.{map, option_map, ◌||◌}
use Rattle.fort_lex_token.specs.declared.token.Kind.{Kind}
use Rattle.fort_lex_token.specs.declared.token.Token.{Token}
use Rattle.fort_lex_token.specs.declared.marks.Mark.{Mark}
use Rattle.fort_lex_token.specs.declared.marks.Mark.TheVariants as mark
use Rattle.fort_lex_token.specs.declared.reserved.Reserved.{Reserved}
use Rattle.fort_lex_token.specs.declared.reserved.Reserved.TheVariants as reserved
use Rattle.fort_tree.specs.declared.spot.Spot.{Spot}
use Rattle.fort_tree.specs.declared.spot.Name.{Name}
use Rattle.fort_tree.specs.Tokens.{Spellings, word, marked, named, colon, is_line}
use Rattle.fort_tree.specs.Said.{tokens_of, maybe_tokens, entries_tokens, entries_obey, semicolon_tokens, elsewhere}
use Rattle.fort_tree.specs.Types.{said_type, said_parameters}
use Rattle.fort_parse_reading.specs.Parser.{Row, next_of}
use Rattle.fort_parse_reading.specs.Words.{is_mark, is_word, same_mark, same_word, sees}
use Rattle.fort_parse_reading.proofs.Laws.{Gets, reads, gets_then}
use Rattle.fort_parse_reading.proofs.Taking.{gets_name, gets_mark, gets_word, gets_colon, is_mark_at, is_word_at, not_mark}
use Rattle.fort_parse_reading.proofs.Yields.{left_true, right_true, false_right}
use Rattle.fort_parse_types.proofs.Complete.{type_stops, type_stops_at, complete_type_tree, complete_maybe_parameters}
use Rattle.fort_parse_first.specs.Beginnings.{begins_apart_of}
use Rattle.fort_parse.specs.Blocks.{is_ended}
use Rattle.fort_parse.proofs.Entries.{StopsAfter, stops_last, first_apart, gets_entries}
use Rattle.fort_link_units.specs.declared.unit.Api.{Api}
use Rattle.fort_link_units.specs.declared.unit.ApiDeclaration.{ApiDeclaration}
use Rattle.fort_link_units.specs.declared.unit.ApiDeclaration.TheVariants as declaration
use Rattle.fort_link_units.specs.declared.unit.ApiDeclared.{ApiDeclared}
use Rattle.fort_link_units.specs.declared.unit.FunctionHead.{FunctionHead}
use Rattle.fort_link_units.specs.Said.{said_head, said_api_declaration, said_api_declared, api_tokens, api_obeys}
use Rattle.fort_link_units.specs.Apis.{begins_declaration, begins_declared, semicolon, variable, head_rest, head, named_declaration, trait_declaration, object_declaration, declaration_at, declared, declarations, api, whole}

-- ---- what they begin with, and what ends them

declaration_begins : (d : ApiDeclaration)
    → begins_declaration (said_api_declaration d).first.kind ≡ true
unfolding begins_declaration
declaration_begins (declaration.Variable name c ty) = refl
declaration_begins (declaration.Function f) = refl
declaration_begins (declaration.Trait s name) = refl
declaration_begins (declaration.Object s name) = refl

-- what ends a declaration
record Follows (next : Option Token) : Type 0 where
  pub type : type_stops next ≡ true
  pub semicolon : sees (is_mark mark.Semicolon) next ≡ false

sees_at : (f : Kind → Bool) (t : Token) (b : Bool) → f t.kind ≡ b → sees f (Some t) ≡ b
unfolding sees
sees_at f t b e = e

declaration_follows : (t : Token) → is_line t.gap ≡ true → begins_declaration t.kind ≡ true
    → Follows (Some t)
unfolding begins_declaration
declaration_follows t line e = record {
  type = type_stops_at t (not_mark begins_declaration mark.OpenStatic refl t.kind e)
      (not_mark begins_declaration mark.RightArrow refl t.kind e);
  semicolon = sees_at (is_mark mark.Semicolon) t false
      (not_mark begins_declaration mark.Semicolon refl t.kind e);
}

end_follows : (s : Spot) → Follows (Some (word reserved.End s))
unfolding sees is_mark
end_follows s = record { type = type_stops_at (word reserved.End s) refl refl; semicolon = refl }

-- a `;` ends what stands before it, too
ended : (s : Option Spot) (rest : Row) → StopsAfter Follows s (next_of rest)
    → type_stops (next_of (semicolon_tokens s ++ rest)) ≡ true
unfolding sees is_mark same_mark
ended None rest h = h.type
ended (Some s) rest h = type_stops_at (marked mark.Semicolon s) refl refl

end_begins_none : (ready : Bool) (s : Spot)
    → begins_apart_of begins_declaration ready (Some (word reserved.End s)) ≡ false
unfolding begins_apart_of begins_declaration
end_begins_none ready s = false_right (ready || is_line s.gap)

-- ---- the next token

sees_mark : (m : Mark) (s : Spot) → sees (is_mark m) (Some (marked m s)) ≡ true
unfolding sees
sees_mark m s = is_mark_at m

sees_word : (w : Reserved) (s : Spot) → sees (is_word w) (Some (word w s)) ≡ true
unfolding sees
sees_word w s = is_word_at w

name_no_word : (w : Reserved) (name : Name) → sees (is_word w) (Some (named name)) ≡ false
unfolding sees is_word
name_no_word w name = refl

object_no_trait : (s : Spot) → sees (is_word reserved.Trait) (Some (word reserved.Object s)) ≡ false
unfolding sees is_word same_word
object_no_trait s = refl

colon_no_paren : (s : Spot) → sees (is_mark mark.OpenParen) (Some (colon s)) ≡ false
unfolding sees is_mark
colon_no_paren s = refl

module _ (names : Spellings) (n : ℕ) where
  complete_semicolon : (s : Option Spot) (rest : Row) → StopsAfter Follows s (next_of rest)
      → Gets (Option Spot) ((semicolon names n).run (semicolon_tokens s ++ rest)) s rest
  unfolding semicolon
  complete_semicolon None rest h = rw h.semicolon reads
  complete_semicolon (Some s) rest h =
      rw (sees_mark mark.Semicolon s) (gets_then _ (gets_mark mark.Semicolon s rest) reads)

  complete_head : (f : FunctionHead) (rest : Row) → (said_head f).obeys names elsewhere ≡ true
      → type_stops (next_of rest) ≡ true
      → Gets ApiDeclaration
      ((head names n f.name).run
      (marked mark.OpenParen f.left
      ∷ (maybe_tokens (option_map said_parameters f.parameters)
      ++ marked mark.CloseParen f.right ∷ colon f.colon
      ∷ (tokens_of (said_type f.result) ++ rest))))
      (declaration.Function f) rest
  unfolding head head_rest
  complete_head f rest ob st =
      gets_then _ (gets_mark mark.OpenParen f.left _)
      (gets_then _ (complete_maybe_parameters names n f.parameters f.right _ (left_true _ _ ob))
      (gets_then _ (gets_mark mark.CloseParen f.right _)
      (gets_then _ (gets_colon f.colon _)
      (gets_then _ (complete_type_tree names n f.result rest (right_true _ _ ob) st) reads))))

  complete_declaration : (d : ApiDeclaration) (rest : Row)
      → (said_api_declaration d).obeys names elsewhere ≡ true → type_stops (next_of rest) ≡ true
      → Gets ApiDeclaration
      ((declaration_at names n).parser.run (tokens_of (said_api_declaration d) ++ rest)) d rest
  unfolding declaration_at named_declaration variable trait_declaration object_declaration
  complete_declaration (declaration.Variable name c ty) rest ob st =
      rw (name_no_word reserved.Trait name, name_no_word reserved.Object name)
      (gets_then _ (gets_name name _)
      (rw (colon_no_paren c)
      (gets_then _ (gets_colon c _)
      (gets_then _ (complete_type_tree names n ty rest ob st) reads))))
  complete_declaration (declaration.Function f) rest ob st =
      simp append_assoc
      (rw (name_no_word reserved.Trait f.name, name_no_word reserved.Object f.name)
      (gets_then _ (gets_name f.name _)
      (rw (sees_mark mark.OpenParen f.left) (complete_head f rest ob st))))
  complete_declaration (declaration.Trait s name) rest ob st =
      rw (sees_word reserved.Trait s)
      (gets_then _ (gets_word reserved.Trait s _) (gets_then _ (gets_name name _) reads))
  complete_declaration (declaration.Object s name) rest ob st =
      rw (object_no_trait s, sees_word reserved.Object s)
      (gets_then _ (gets_word reserved.Object s _) (gets_then _ (gets_name name _) reads))

  complete_declared : (x : ApiDeclared) (rest : Row)
      → (said_api_declared x).item.obeys names elsewhere ≡ true
      → StopsAfter Follows (said_api_declared x).semicolon (next_of rest)
      → Gets ApiDeclared
      ((declared names n).parser.run
      (tokens_of (said_api_declared x).item
      ++ (semicolon_tokens (said_api_declared x).semicolon ++ rest))) x rest
  unfolding declared
  complete_declared x rest ob st =
      gets_then _
      (complete_declaration x.declaration (semicolon_tokens x.semicolon ++ rest) ob
      (ended x.semicolon rest st))
      (gets_then _ (complete_semicolon x.semicolon rest st) reads)

  declared_begins : (x : ApiDeclared) → (said_api_declared x).item.obeys names elsewhere ≡ true
      → begins_declaration (said_api_declared x).item.first.kind ≡ true
  declared_begins x ob = declaration_begins x.declaration

  complete_declarations : (xs : List ApiDeclared) (end : Spot) (rest : Row)
      → entries_obey names (map said_api_declared xs) ≡ true
      → Gets (List ApiDeclared)
      ((declarations names n).run
      (entries_tokens (map said_api_declared xs) ++ word reserved.End end ∷ rest)) xs
      (word reserved.End end ∷ rest)
  unfolding declarations begins_declared
  complete_declarations xs end rest ob =
      gets_entries Follows names said_api_declared begins_declaration declared_begins
      declaration_follows (λ d. is_ended d.semicolon) (declared names n) (λ x. refl)
      complete_declared n true xs (word reserved.End end ∷ rest) ob
      (first_apart (map said_api_declared xs))
      (stops_last Follows (map said_api_declared xs) _ (end_follows end))
      (λ ready. end_begins_none ready end)

  complete_api : (a : Api) (rest : Row) → api_obeys names a ≡ true
      → Gets Api ((api names n).run (api_tokens a ++ rest)) a rest
  unfolding api
  complete_api a rest ob =
      simp append_assoc
      (gets_then _ (gets_word reserved.Api a.api _)
      (gets_then _ (gets_name a.name _)
      (gets_then _ (complete_declarations a.declarations a.end rest ob)
      (gets_then _ (gets_word reserved.End a.end rest) reads))))

  pub complete_whole : (a : Api) → api_obeys names a ≡ true
      → Gets Api ((whole names n).run (api_tokens a ++ [])) a []
  unfolding whole
  complete_whole a ob = gets_then _ (complete_api a [] ob) reads
