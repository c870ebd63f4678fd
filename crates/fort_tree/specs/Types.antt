-- The chapter "Grammar", types: what a type, and a list of parameters, says.
use Rattle.std.specs.Prelude.{ℕ, ◌+◌, true, ◌&&◌, [], ◌∷◌, ◌++◌, Option, Some, None, length, map}
use Rattle.fort_lex_token.specs.declared.marks.Mark.TheVariants as mark
use Rattle.fort_tree.specs.declared.declarations.NextParameter.{NextParameter}
use Rattle.fort_tree.specs.declared.declarations.Parameter.{Parameter}
use Rattle.fort_tree.specs.declared.declarations.Parameters.{Parameters}
use Rattle.fort_tree.specs.declared.types.NextType.{NextType}
use Rattle.fort_tree.specs.declared.types.SimpleType.{SimpleType}
use Rattle.fort_tree.specs.declared.types.TypeList.{TypeList}
use Rattle.fort_tree.specs.declared.types.TypeTree.{TypeTree}
use Rattle.fort_tree.specs.declared.types.SimpleType.TheOpen.{SimpleType-F, TypeTree-F, NextType-F, TypeList-F}
use Rattle.fort_tree.specs.declared.types.SimpleType.TheFolds.{fold-SimpleType, fold-TypeTree, fold-NextType, fold-TypeList}
use Rattle.fort_tree.specs.Tokens.{named, marked, colon, is_spelled}
use Rattle.fort_tree.specs.Said.{Said, tokens_of, all_tokens, all_obey, maybe_tokens, maybe_obeys, elsewhere}

-- what a simple type says: its words and brackets, and its parts between them
abbrev pub simple_type_step : SimpleType-F Said Said Said Said → Said
simple_type_step (SimpleType-F.Named n) =
    record { first = named n; more = []; obeys = λ names allowed. true }
simple_type_step (SimpleType-F.Array array left element comma index right) = record {
  first = named array;
  more = marked mark.OpenStatic left
      ∷ (tokens_of element ++ marked mark.Comma comma ∷ named index ∷ marked mark.CloseStatic right
      ∷ []);
  obeys = λ names allowed. is_spelled "Array" names array
      && (is_spelled "ZZ32" names index && element.obeys names elsewhere);
}
simple_type_step (SimpleType-F.Parts left parts right) = record {
  first = marked mark.OpenParen left;
  more = maybe_tokens parts ++ marked mark.CloseParen right ∷ [];
  obeys = λ names allowed. maybe_obeys names elsewhere parts;
}

-- what a type says: a simple type, or two with an arrow between them
abbrev pub type_tree_step : TypeTree-F Said Said Said Said → Said
type_tree_step (TypeTree-F.Simple simple) = simple
type_tree_step (TypeTree-F.Arrow domain arrow result) = record {
  first = domain.first;
  more = domain.more ++ marked mark.RightArrow arrow ∷ tokens_of result;
  obeys = λ names allowed. domain.obeys names elsewhere && result.obeys names elsewhere;
}

-- what a list of types says
abbrev pub type_list_step : TypeList-F Said Said Said Said → Said
type_list_step list = record {
  first = list.first.first;
  more = list.first.more ++ all_tokens list.others;
  obeys = λ names allowed. list.first.obeys names elsewhere && all_obey names elsewhere list.others;
}

-- what a further type of a list says: a comma, and it
abbrev pub next_type_step : NextType-F Said Said Said Said → Said
next_type_step next = record {
  first = marked mark.Comma next.comma;
  more = tokens_of next.ty;
  obeys = λ names allowed. next.ty.obeys names elsewhere;
}

-- what a simple type says, at every depth
unfoldable pub said_simple_type : SimpleType → Said
said_simple_type =
    fold-SimpleType Said Said Said Said simple_type_step type_tree_step next_type_step
    type_list_step

-- what a type says, at every depth
unfoldable pub said_type : TypeTree → Said
said_type =
    fold-TypeTree Said Said Said Said simple_type_step type_tree_step next_type_step type_list_step

-- the same of a further type of a list
unfoldable pub said_next_type : NextType → Said
said_next_type =
    fold-NextType Said Said Said Said simple_type_step type_tree_step next_type_step type_list_step

-- the same of a list of types
unfoldable pub said_type_list : TypeList → Said
said_type_list =
    fold-TypeList Said Said Said Said simple_type_step type_tree_step next_type_step type_list_step

-- ---- parameters

-- what a parameter says: its name, a colon, its type
abbrev pub said_parameter : Parameter → Said
said_parameter p = record {
  first = named p.name;
  more = colon p.colon ∷ tokens_of (said_type p.ty);
  obeys = λ names allowed. (said_type p.ty).obeys names elsewhere;
}

-- what a further parameter says: a comma, and it
abbrev pub said_next_parameter : NextParameter → Said
said_next_parameter next = record {
  first = marked mark.Comma next.comma;
  more = tokens_of (said_parameter next.parameter);
  obeys = (said_parameter next.parameter).obeys;
}

-- what a list of parameters says
abbrev pub said_parameters : Parameters → Said
said_parameters list = record {
  first = (said_parameter list.first).first;
  more = (said_parameter list.first).more ++ all_tokens (map said_next_parameter list.others);
  obeys = λ names allowed. (said_parameter list.first).obeys names allowed
      && all_obey names allowed (map said_next_parameter list.others);
}

-- the number of parameters
abbrev pub parameter_count : Option Parameters → ℕ
parameter_count None = 0
parameter_count (Some list) = 1 + length list.others
