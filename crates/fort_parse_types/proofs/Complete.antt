-- The tokens of each type, and of each list of parameters, are read as it, where what follows them
-- does not continue it.
use Rattle.std.proofs.Common.{◌≡◌, ℕ, zero, suc, Bool, true, false, ◌∷◌, ◌++◌, append_assoc, Option, Some, None, refl}
use Rattle.std.specs.Prelude.{option_map, codes, ◌&&◌, not}
use Rattle.fort_lex_token.specs.declared.token.Kind.TheVariants as kind
use Rattle.fort_lex_token.specs.declared.token.Token.{Token}
use Rattle.fort_lex_token.specs.declared.marks.Mark.{Mark}
use Rattle.fort_lex_token.specs.declared.marks.Mark.TheVariants as mark
use Rattle.fort_tree.specs.declared.spot.Spot.{Spot}
use Rattle.fort_tree.specs.declared.spot.Name.{Name}
use Rattle.fort_tree.specs.declared.declarations.NextParameter.{NextParameter}
use Rattle.fort_tree.specs.declared.declarations.Parameter.{Parameter}
use Rattle.fort_tree.specs.declared.declarations.Parameters.{Parameters}
use Rattle.fort_tree.specs.declared.types.NextType.{NextType, out-NextType}
use Rattle.fort_tree.specs.declared.types.SimpleType.{SimpleType}
use Rattle.fort_tree.specs.declared.types.SimpleType.TheVariants as a_simple
use Rattle.fort_tree.specs.declared.types.TypeList.{TypeList, out-TypeList}
use Rattle.fort_tree.specs.declared.types.TypeTree.{TypeTree}
use Rattle.fort_tree.specs.Tokens.{Spellings, named, marked, is_spelled}
use Rattle.fort_tree.specs.Said.{tokens_of, maybe_tokens, maybe_obeys, elsewhere}
use Rattle.fort_tree.specs.Types.{said_simple_type, said_type, said_next_type, said_type_list, said_parameter, said_next_parameter, said_parameters}
use Rattle.fort_tree.proofs.CasesTypes.{cases_type, cases_simple_type, cases_type_list, cases_next_type}
use Rattle.fort_tree.proofs.SaysTypes.{says-Simple, says-Arrow, says-Named, says-Array, says-Parts, says_type_list, type_list_says, says_next_type, next_type_says}
use Rattle.fort_parse_reading.specs.Parser.{Row, next_of, Eater}
use Rattle.fort_parse_reading.specs.Words.{same_mark, is_mark, is_called, sees}
use Rattle.fort_parse_reading.proofs.Laws.{Gets, reads, ends, gets_then}
use Rattle.fort_parse_reading.proofs.Taking.{is_mark_at, not_mark, gets_mark, gets_name, gets_called, gets_colon}
use Rattle.fort_parse_reading.proofs.Yields.{left_true, right_true, is_not, next_stops, gets_list}
use Rattle.fort_parse_types.specs.Types.{begins_type, next_type, next_types, type_list, maybe_types, type_parts, array_index, array_type, named_by, named_type, simple_type, arrow_from, type_level, type_tree, typed, parameter, next_parameter, next_parameters, parameters, maybe_parameters}

-- ---- what ends a type

-- whether the next token does not continue a type: it is neither `[\` nor `->`
abbrev pub type_stops : Option Token → Bool
type_stops next =
    not (sees (is_mark mark.OpenStatic) next) && not (sees (is_mark mark.RightArrow) next)

pub type_stops_at : (t : Token) → is_mark mark.OpenStatic t.kind ≡ false
    → is_mark mark.RightArrow t.kind ≡ false → type_stops (Some t) ≡ true
unfolding sees
type_stops_at t e f = rw (e, f) refl

pub type_stops_nothing : type_stops None ≡ true
unfolding sees
type_stops_nothing = refl

pub stops_at_comma : (s : Spot) → type_stops (Some (marked mark.Comma s)) ≡ true
unfolding sees is_mark same_mark
stops_at_comma s = refl

pub stops_at_close : (s : Spot) → type_stops (Some (marked mark.CloseParen s)) ≡ true
unfolding sees is_mark same_mark
stops_at_close s = refl

stops_at_static : (s : Spot) → type_stops (Some (marked mark.CloseStatic s)) ≡ true
unfolding sees is_mark same_mark
stops_at_static s = refl

pub stops_bracket : (next : Option Token) → type_stops next ≡ true
    → sees (is_mark mark.OpenStatic) next ≡ false
stops_bracket next st = is_not (sees (is_mark mark.OpenStatic) next) (left_true _ _ st)

pub stops_arrow : (next : Option Token) → type_stops next ≡ true
    → sees (is_mark mark.RightArrow) next ≡ false
stops_arrow next st = is_not (sees (is_mark mark.RightArrow) next) (right_true _ _ st)

-- ---- the next token

sees_at : (m : Mark) (s : Spot) → sees (is_mark m) (Some (marked m s)) ≡ true
unfolding sees
sees_at m s = is_mark_at m

arrow_is_no_bracket : (s : Spot)
    → sees (is_mark mark.OpenStatic) (Some (marked mark.RightArrow s)) ≡ false
unfolding sees is_mark same_mark
arrow_is_no_bracket s = refl

close_is_no_comma : (s : Spot) → sees (is_mark mark.Comma) (Some (marked mark.CloseParen s)) ≡ false
unfolding sees is_mark same_mark
close_is_no_comma s = refl

-- ---- the first token of each tree

simple_type_begins : (x : SimpleType) → begins_type (said_simple_type x).first.kind ≡ true
unfolding begins_type
simple_type_begins = cases_simple_type (λ x. begins_type (said_simple_type x).first.kind ≡ true)
    (λ name. rw (says-Named name) refl)
    (λ array left element comma index right. rw (says-Array array left element comma index right)
    refl)
    (λ left parts right. rw (says-Parts left parts right) refl)

-- a type begins with a name or `(`
pub type_begins : (ty : TypeTree) → begins_type (said_type ty).first.kind ≡ true
type_begins = cases_type (λ ty. begins_type (said_type ty).first.kind ≡ true)
    (λ simple. rw (says-Simple simple) (simple_type_begins simple))
    (λ domain arrow result. rw (says-Arrow domain arrow result) (simple_type_begins domain))

list_begins : (list : TypeList) → begins_type (said_type_list list).first.kind ≡ true
list_begins list = rw (type_list_says list) (type_begins (out-TypeList list).first)

-- a symbol that begins no type is not the first token of one
type_is_no_mark : (m : Mark) (t : Token) → begins_type (kind.Mark m) ≡ false
    → begins_type t.kind ≡ true → sees (is_mark m) (Some t) ≡ false
unfolding sees
type_is_no_mark m t none e = not_mark begins_type m none t.kind e

close_begins_none : begins_type (kind.Mark mark.CloseParen) ≡ false
unfolding begins_type
close_begins_none = refl

-- a list of types does not begin with `)`
list_is_no_close : (list : TypeList)
    → sees (is_mark mark.CloseParen) (Some (said_type_list list).first) ≡ false
list_is_no_close list =
    type_is_no_mark mark.CloseParen (said_type_list list).first close_begins_none (list_begins list)

name_is_no_close : (name : Name) → sees (is_mark mark.CloseParen) (Some (named name)) ≡ false
unfolding sees is_mark
name_is_no_close name = refl

called : (names : Spellings) (name : Name) → is_spelled "Array" names name ≡ true
    → is_called (codes "Array") names name ≡ true
unfolding is_called
called names name e = e

index_called : (names : Spellings) (name : Name) → is_spelled "ZZ32" names name ≡ true
    → is_called (codes "ZZ32") names name ≡ true
unfolding is_called
index_called names name e = e

module _ (names : Spellings) {n : ℕ} (inner : Eater TypeTree n)
    (complete : (ty : TypeTree) (rest : Row) → (said_type ty).obeys names elsewhere ≡ true
    → type_stops (next_of rest) ≡ true
    → Gets TypeTree (inner.parser.run (tokens_of (said_type ty) ++ rest)) ty rest) where
  complete_next_type : (x : NextType) (rest : Row) → (said_next_type x).obeys names elsewhere ≡ true
      → type_stops (next_of rest) ≡ true
      → Gets NextType ((next_type names inner).parser.run (tokens_of (said_next_type x) ++ rest)) x
      rest
  unfolding next_type
  complete_next_type x rest = cases_next_type (λ x. (said_next_type x).obeys names elsewhere ≡ true
      → type_stops (next_of rest) ≡ true
      → Gets NextType
      ((next_type names inner).parser.run (tokens_of (said_next_type x) ++ rest)) x rest)
      (λ comma ty ob st. let own = rw (says_next_type comma ty) at ob in
      rw (says_next_type comma ty)
      (gets_then _ (gets_mark mark.Comma comma _)
      (gets_then _ (complete ty rest own st) reads))) x

  next_type_begins : (x : NextType) → (said_next_type x).obeys names elsewhere ≡ true
      → sees (is_mark mark.Comma) (Some (said_next_type x).first) ≡ true
  next_type_begins x ob = rw (next_type_says x) (sees_at mark.Comma (out-NextType x).comma)

  next_type_stops : (x : NextType) → (said_next_type x).obeys names elsewhere ≡ true
      → type_stops (Some (said_next_type x).first) ≡ true
  next_type_stops x ob = rw (next_type_says x) (stops_at_comma (out-NextType x).comma)

  complete_type_list : (list : TypeList) (rest : Row)
      → (said_type_list list).obeys names elsewhere ≡ true → type_stops (next_of rest) ≡ true
      → sees (is_mark mark.Comma) (next_of rest) ≡ false
      → Gets TypeList ((type_list names inner).parser.run (tokens_of (said_type_list list) ++ rest))
      list rest
  unfolding type_list next_types
  complete_type_list list rest =
      cases_type_list (λ list. (said_type_list list).obeys names elsewhere ≡ true
      → type_stops (next_of rest) ≡ true → sees (is_mark mark.Comma) (next_of rest) ≡ false
      → Gets TypeList
      ((type_list names inner).parser.run (tokens_of (said_type_list list) ++ rest)) list rest)
      (λ first others ob st none. let own = rw (says_type_list first others) at ob in
      rw (says_type_list first others)
      (simp append_assoc
      (gets_then _
      (complete first _ (left_true _ _ own)
      (next_stops names elsewhere said_next_type (λ next. type_stops next
      ≡ true) next_type_stops others rest (right_true _ _ own) st))
      (gets_then _
      (gets_list names elsewhere said_next_type (sees (is_mark mark.Comma))
      (next_type names inner) (λ next. type_stops next
      ≡ true) complete_next_type next_type_begins next_type_stops n others rest
      (right_true _ _ own) st none) reads)))) list

  complete_maybe_types : (parts : Option TypeList) (right : Spot) (rest : Row)
      → maybe_obeys names elsewhere (option_map said_type_list parts) ≡ true
      → Gets (Option TypeList)
      ((maybe_types names inner).run
      (maybe_tokens (option_map said_type_list parts) ++ (marked mark.CloseParen right ∷ rest)))
      parts (marked mark.CloseParen right ∷ rest)
  unfolding maybe_types
  complete_maybe_types None right rest ob = rw (sees_at mark.CloseParen right) reads
  complete_maybe_types (Some list) right rest ob =
      rw (list_is_no_close list)
      (gets_then _
      (complete_type_list list (marked mark.CloseParen right ∷ rest) ob
      (stops_at_close right) (close_is_no_comma right)) reads)

  complete_type_parts : (left : Spot) (parts : Option TypeList) (right : Spot) (rest : Row)
      → maybe_obeys names elsewhere (option_map said_type_list parts) ≡ true
      → Gets SimpleType
      ((type_parts names inner left).run
      (maybe_tokens (option_map said_type_list parts) ++ (marked mark.CloseParen right ∷ rest)))
      (a_simple.Parts left parts right) rest
  unfolding type_parts
  complete_type_parts left parts right rest ob =
      gets_then _ (complete_maybe_types parts right rest ob)
      (gets_then _ (gets_mark mark.CloseParen right rest) reads)

  complete_named_by : (name : Name) (b : Bool) (rest : Row)
      → sees (is_mark mark.OpenStatic) (next_of rest) ≡ false
      → Gets SimpleType ((named_by names inner name b).run rest) (a_simple.Named name) rest
  complete_named_by name true rest st = rw st reads
  complete_named_by name false rest st = reads

  complete_array : (array : Name) (left : Spot) (element : TypeTree) (comma : Spot) (index : Name)
      (right : Spot) (rest : Row)
      → is_called (codes "Array") names array ≡ true → is_called (codes "ZZ32") names index ≡ true
      → (said_type element).obeys names elsewhere ≡ true
      → Gets SimpleType
      ((named_type names inner array).run
      (marked mark.OpenStatic left
      ∷ (tokens_of (said_type element)
      ++ (marked mark.Comma comma ∷ named index ∷ marked mark.CloseStatic right ∷ rest))))
      (a_simple.Array array left element comma index right) rest
  unfolding named_type array_type array_index
  complete_array array left element comma index right rest is is_index ob =
      rw (is, sees_at mark.OpenStatic left)
      (gets_then _ (gets_mark mark.OpenStatic left _)
      (gets_then _ (complete element _ ob (stops_at_comma comma))
      (gets_then _ (gets_mark mark.Comma comma _)
      (gets_then _ (gets_called (codes "ZZ32") names index _ is_index)
      (gets_then _ (gets_mark mark.CloseStatic right rest) reads)))))

  pub complete_simple_type : (x : SimpleType) (rest : Row)
      → (said_simple_type x).obeys names elsewhere ≡ true
      → sees (is_mark mark.OpenStatic) (next_of rest) ≡ false
      → Gets SimpleType
      ((simple_type names inner).parser.run (tokens_of (said_simple_type x) ++ rest)) x rest
  unfolding simple_type named_type
  complete_simple_type x rest =
      cases_simple_type (λ x. (said_simple_type x).obeys names elsewhere ≡ true
      → sees (is_mark mark.OpenStatic) (next_of rest) ≡ false
      → Gets SimpleType
      ((simple_type names inner).parser.run (tokens_of (said_simple_type x) ++ rest)) x rest)
      (λ name ob st. rw (says-Named name)
      (gets_then _ (gets_name name rest)
      (complete_named_by name (is_called (codes "Array") names name) rest st)))
      (λ array left element comma index right ob st. let own =
      rw (says-Array array left element comma index right) at ob in
      let others = right_true _ _ own in
      rw (says-Array array left element comma index right)
      (simp append_assoc (gets_then _ (gets_name array _)
      (complete_array array left element comma index right rest
      (called names array (left_true _ _ own))
      (index_called names index (left_true _ _ others)) (right_true _ _ others)))))
      (λ left parts right ob st. let own = rw (says-Parts left parts right) at ob in
      rw (says-Parts left parts right)
      (simp append_assoc
      (gets_then _ (gets_mark mark.OpenParen left _)
      (complete_type_parts left parts right rest own)))) x

  pub complete_type_level : (ty : TypeTree) (rest : Row)
      → (said_type ty).obeys names elsewhere ≡ true → type_stops (next_of rest) ≡ true
      → Gets TypeTree ((type_level names inner).parser.run (tokens_of (said_type ty) ++ rest)) ty
      rest
  unfolding type_level arrow_from
  complete_type_level ty rest = cases_type (λ ty. (said_type ty).obeys names elsewhere ≡ true
      → type_stops (next_of rest) ≡ true
      → Gets TypeTree ((type_level names inner).parser.run (tokens_of (said_type ty) ++ rest))
      ty rest)
      (λ simple ob st. let own = rw (says-Simple simple) at ob in
      rw (says-Simple simple)
      (gets_then _ (complete_simple_type simple rest own (stops_bracket (next_of rest) st))
      (rw (stops_arrow (next_of rest) st) reads)))
      (λ domain arrow result ob st. let own = rw (says-Arrow domain arrow result) at ob in
      rw (says-Arrow domain arrow result)
      (simp append_assoc
      (gets_then _
      (complete_simple_type domain _ (left_true _ _ own) (arrow_is_no_bracket arrow))
      (rw (sees_at mark.RightArrow arrow)
      (gets_then _ (gets_mark mark.RightArrow arrow _)
      (gets_then _
      (complete_simple_type result rest (right_true _ _ own)
      (stops_bracket (next_of rest) st)) reads)))))) ty

-- the tokens of a type are read as it
pub complete_type_tree : (names : Spellings) (n : ℕ) (ty : TypeTree) (rest : Row)
    → (said_type ty).obeys names elsewhere ≡ true → type_stops (next_of rest) ≡ true
    → Gets TypeTree ((type_tree names n).parser.run (tokens_of (said_type ty) ++ rest)) ty rest
unfolding type_tree
complete_type_tree names zero ty rest ob st = ends
complete_type_tree names (suc n) ty rest ob st =
    complete_type_level names (type_tree names n) (complete_type_tree names n) ty rest ob st

-- the same of a parameter
pub complete_parameter : (names : Spellings) (n : ℕ) (p : Parameter) (rest : Row)
    → (said_parameter p).obeys names elsewhere ≡ true → type_stops (next_of rest) ≡ true
    → Gets Parameter ((parameter names n).parser.run (tokens_of (said_parameter p) ++ rest)) p rest
unfolding parameter typed
complete_parameter names n p rest ob st =
    gets_then _ (gets_name p.name _)
    (gets_then _ (gets_colon p.colon _)
    (gets_then _ (complete_type_tree names n p.ty rest ob st) reads))

-- the same of what follows the name of a parameter
pub complete_typed : (names : Spellings) (n : ℕ) (p : Parameter) (rest : Row)
    → (said_parameter p).obeys names elsewhere ≡ true → type_stops (next_of rest) ≡ true
    → Gets Parameter ((typed names n p.name).run ((said_parameter p).more ++ rest)) p rest
unfolding typed
complete_typed names n p rest ob st =
    gets_then _ (gets_colon p.colon _)
    (gets_then _ (complete_type_tree names n p.ty rest ob st) reads)

pub complete_next_parameter : (names : Spellings) (n : ℕ) (x : NextParameter) (rest : Row)
    → (said_next_parameter x).obeys names elsewhere ≡ true → type_stops (next_of rest) ≡ true
    → Gets NextParameter
    ((next_parameter names n).parser.run (tokens_of (said_next_parameter x) ++ rest)) x rest
unfolding next_parameter
complete_next_parameter names n x rest ob st =
    gets_then _ (gets_mark mark.Comma x.comma _)
    (gets_then _ (complete_parameter names n x.parameter rest ob st) reads)

-- the same of a list of parameters, where no further one follows
pub complete_parameters : (names : Spellings) (n : ℕ) (list : Parameters) (rest : Row)
    → (said_parameters list).obeys names elsewhere ≡ true → type_stops (next_of rest) ≡ true
    → sees (is_mark mark.Comma) (next_of rest) ≡ false
    → Gets Parameters ((parameters names n).parser.run (tokens_of (said_parameters list) ++ rest))
    list rest
unfolding parameters next_parameters
complete_parameters names n list rest ob st none =
    let stop =
    λ (x : NextParameter). λ (own : (said_next_parameter x).obeys names elsewhere
    ≡ true). stops_at_comma x.comma in
    simp append_assoc
    (gets_then _
    (complete_parameter names n list.first _ (left_true _ _ ob)
    (next_stops names elsewhere said_next_parameter (λ next. type_stops next
    ≡ true) stop list.others rest (right_true _ _ ob) st))
    (gets_then _
    (gets_list names elsewhere said_next_parameter (sees (is_mark mark.Comma))
    (next_parameter names n) (λ next. type_stops next
    ≡ true) (complete_next_parameter names n) (λ x own. sees_at mark.Comma x.comma) stop n
    list.others rest (right_true _ _ ob) st none) reads))

-- the same of a list of parameters that may be left out, before `)`
pub complete_maybe_parameters : (names : Spellings) (n : ℕ) (list : Option Parameters)
    (right : Spot) (rest : Row)
    → maybe_obeys names elsewhere (option_map said_parameters list) ≡ true
    → Gets (Option Parameters)
    ((maybe_parameters names n).run
    (maybe_tokens (option_map said_parameters list) ++ (marked mark.CloseParen right ∷ rest)))
    list (marked mark.CloseParen right ∷ rest)
unfolding maybe_parameters
complete_maybe_parameters names n None right rest ob = rw (sees_at mark.CloseParen right) reads
complete_maybe_parameters names n (Some list) right rest ob =
    rw (name_is_no_close list.first.name)
    (gets_then _
    (complete_parameters names n list (marked mark.CloseParen right ∷ rest) ob
    (stops_at_close right) (close_is_no_comma right)) reads)
