-- The chapter "Grammar", trees apart from places: a moved type says what the type says, moved.
use Rattle.std.proofs.Common.{◌≡◌, ◌&&◌, List, [], ◌∷◌, Option, Some, None, map, refl, ap, ◌∙◌, ◌++◌}
use Rattle.std.specs.Prelude.{option_map}
use Rattle.fort_base.specs.declared.refusal.Place.{Place}
use Rattle.fort_lex_token.specs.declared.token.Token.{Token}
use Rattle.fort_tree.specs.declared.declarations.NextParameter.{NextParameter}
use Rattle.fort_tree.specs.declared.declarations.Parameter.{Parameter}
use Rattle.fort_tree.specs.declared.declarations.Parameters.{Parameters}
use Rattle.fort_tree.specs.declared.types.TypeTree.{TypeTree}
use Rattle.fort_tree.specs.declared.types.SimpleType.TheOpen.{SimpleType-F, TypeTree-F, NextType-F, TypeList-F}
use Rattle.fort_tree.specs.declared.types.SimpleType.TheFolds.{map-SimpleType, map-TypeTree, map-NextType, map-TypeList}
use Rattle.fort_tree.specs.Tokens.{Spellings}
use Rattle.fort_tree.specs.Said.{Allowed, Said, elsewhere, tokens_of, all_tokens, all_obey, maybe_tokens, maybe_obeys}
use Rattle.fort_tree.specs.Types.{simple_type_step, type_tree_step, next_type_step, type_list_step, said_type, said_parameter, said_next_parameter, said_parameters}
use Rattle.fort_tree.specs.Flats.{maybe_parameters}
use Rattle.fort_tree_law_moved.specs.Spots.{moved_token}
use Rattle.fort_tree_law_moved.specs.TypesMoved.{simple_type_level, type_level, next_type_level, type_list_level, moved_type, moved_parameter, moved_next_parameter, moved_parameters}
use Rattle.fort_tree_law_moved.proofs.SaidMoved.{same_said, under, moved_said, whole, by_tree, behind, behind_by, all_move, maybe_move, all_hold, maybe_hold}
use Rattle.fort_tree_law_moved.proofs.TypeFolds.{fold_moved_type}

module _ (g : Place → Place) where
  -- one level of a simple type
  meets_simple_type : (l : SimpleType-F Said Said Said Said)
      → simple_type_step
      (simple_type_level g
      (map-SimpleType Said Said Said Said Said Said Said Said (moved_said g) (moved_said g)
      (moved_said g) (moved_said g) l)) ≡ moved_said g (simple_type_step l)
  meets_simple_type (SimpleType-F.Named n) = refl
  meets_simple_type (SimpleType-F.Array array left element comma index right) =
      same_said refl (under (whole g element _ refl)) (λ names allowed. refl)
  meets_simple_type (SimpleType-F.Parts left None right) =
      same_said refl refl (λ names allowed. maybe_hold g names elsewhere None)
  meets_simple_type (SimpleType-F.Parts left (Some parts) right) =
      same_said refl (whole g parts _ refl)
      (λ names allowed. maybe_hold g names elsewhere (Some parts))

  -- one level of a type
  meets_type : (l : TypeTree-F Said Said Said Said)
      → type_tree_step
      (type_level g
      (map-TypeTree Said Said Said Said Said Said Said Said (moved_said g) (moved_said g)
      (moved_said g) (moved_said g) l)) ≡ moved_said g (type_tree_step l)
  meets_type (TypeTree-F.Simple simple) = refl
  meets_type (TypeTree-F.Arrow domain arrow result) =
      same_said refl (behind g domain _ refl) (λ names allowed. refl)

  -- one level of a further type of a list
  meets_next_type : (l : NextType-F Said Said Said Said)
      → next_type_step
      (next_type_level g
      (map-NextType Said Said Said Said Said Said Said Said (moved_said g) (moved_said g)
      (moved_said g) (moved_said g) l)) ≡ moved_said g (next_type_step l)
  meets_next_type l = refl

  -- one level of a list of types
  meets_type_list : (l : TypeList-F Said Said Said Said)
      → type_list_step
      (type_list_level g
      (map-TypeList Said Said Said Said Said Said Said Said (moved_said g) (moved_said g)
      (moved_said g) (moved_said g) l)) ≡ moved_said g (type_list_step l)
  meets_type_list l =
      same_said refl (behind g l.first _ (all_move g l.others))
      (λ names allowed i. l.first.obeys names elsewhere && all_hold g names elsewhere l.others i)

  -- A moved type says what the type says, moved.
  pub said_type_moves : (t : TypeTree) → said_type (moved_type g t) ≡ moved_said g (said_type t)
  unfolding said_type
  said_type_moves =
      fold_moved_type g Said Said Said Said simple_type_step type_tree_step next_type_step
      type_list_step (moved_said g) (moved_said g) (moved_said g) (moved_said g) meets_simple_type
      meets_type meets_next_type meets_type_list

  -- its tokens
  pub type_tokens : (t : TypeTree)
      → tokens_of (said_type (moved_type g t)) ≡ map (moved_token g) (tokens_of (said_type t))
  type_tokens t = ap tokens_of (said_type_moves t)

  -- tokens behind them
  pub typed : (t : TypeTree) (ws : List Token) {zs : List Token} → zs ≡ map (moved_token g) ws
      → tokens_of (said_type (moved_type g t)) ++ zs
      ≡ map (moved_token g) (tokens_of (said_type t) ++ ws)
  typed t ws q = by_tree g (said_type (moved_type g t)) (said_type t) (said_type_moves t) ws q

  -- the rules in it
  pub type_holds : (t : TypeTree) (names : Spellings) (allowed : Allowed)
      → (said_type (moved_type g t)).obeys names allowed ≡ (said_type t).obeys names allowed
  type_holds t names allowed = ap (λ (x : Said). x.obeys names allowed) (said_type_moves t)

  -- ---- parameters

  -- a parameter
  pub parameter_moves : (p : Parameter)
      → said_parameter (moved_parameter g p) ≡ moved_said g (said_parameter p)
  parameter_moves p =
      same_said refl (under (type_tokens p.ty)) (λ names allowed. type_holds p.ty names elsewhere)

  -- a further parameter
  next_parameter_moves : (p : NextParameter)
      → said_next_parameter (moved_next_parameter g p) ≡ moved_said g (said_next_parameter p)
  next_parameter_moves p =
      same_said refl (ap tokens_of (parameter_moves p.parameter)) (λ names allowed. ap (λ
      (x : Said). x.obeys names allowed) (parameter_moves p.parameter))

  -- further parameters
  next_parameters_move : (ps : List NextParameter)
      → map said_next_parameter (map (moved_next_parameter g) ps)
      ≡ map (moved_said g) (map said_next_parameter ps)
  next_parameters_move [] = refl
  next_parameters_move (p ∷ ps) = λ i. next_parameter_moves p i ∷ next_parameters_move ps i

  -- a list of parameters
  pub parameters_move : (list : Parameters)
      → said_parameters (moved_parameters g list) ≡ moved_said g (said_parameters list)
  parameters_move list = same_said refl
      (behind_by g (said_parameter (moved_parameter g list.first)) (said_parameter list.first)
      (parameter_moves list.first) _ (ap all_tokens (next_parameters_move list.others)
      ∙ all_move g (map said_next_parameter list.others)))
      (λ names allowed i. (parameter_moves list.first i).obeys names allowed
      && (ap (all_obey names allowed) (next_parameters_move list.others)
      ∙ all_hold g names allowed (map said_next_parameter list.others)) i)

  -- parameters that may be left out
  pub maybe_parameters_move : (o : Option Parameters)
      → maybe_parameters (option_map (moved_parameters g) o)
      ≡ option_map (moved_said g) (maybe_parameters o)
  maybe_parameters_move None = refl
  maybe_parameters_move (Some list) = ap Some (parameters_move list)

  -- their tokens
  pub parameters_tokens : (o : Option Parameters)
      → maybe_tokens (maybe_parameters (option_map (moved_parameters g) o))
      ≡ map (moved_token g) (maybe_tokens (maybe_parameters o))
  parameters_tokens o =
      ap maybe_tokens (maybe_parameters_move o) ∙ maybe_move g (maybe_parameters o)

  -- the rules in them
  pub parameters_hold : (names : Spellings) (o : Option Parameters)
      → maybe_obeys names elsewhere (maybe_parameters (option_map (moved_parameters g) o))
      ≡ maybe_obeys names elsewhere (maybe_parameters o)
  parameters_hold names o =
      ap (maybe_obeys names elsewhere) (maybe_parameters_move o)
      ∙ maybe_hold g names elsewhere (maybe_parameters o)
