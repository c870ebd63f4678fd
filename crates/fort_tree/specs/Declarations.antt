-- The chapter "Grammar", declarations and their members: what each says.
use Rattle.std.specs.Prelude.{ℕ, ◌+◌, ◌==◌, Bool, true, false, ◌&&◌, ◌||◌, not, List, [], ◌∷◌, ◌++◌, Option, Some, None, map, option_map, length}
use Rattle.fort_lex_token.specs.declared.token.Token.{Token}
use Rattle.fort_lex_token.specs.declared.marks.Mark.TheVariants as mark
use Rattle.fort_lex_token.specs.declared.reserved.Reserved.TheVariants as reserved
use Rattle.fort_tree.specs.declared.declarations.Comprises.{Comprises}
use Rattle.fort_tree.specs.declared.declarations.Declaration.{Declaration}
use Rattle.fort_tree.specs.declared.declarations.Declaration.TheVariants as declaration
use Rattle.fort_tree.specs.declared.declarations.Declared.{Declared}
use Rattle.fort_tree.specs.declared.declarations.Excludes.{Excludes}
use Rattle.fort_tree.specs.declared.declarations.Extends.{Extends}
use Rattle.fort_tree.specs.declared.declarations.Function.{Function}
use Rattle.fort_tree.specs.declared.declarations.FunctionName.{FunctionName}
use Rattle.fort_tree.specs.declared.declarations.FunctionName.TheVariants as function_name
use Rattle.fort_tree.specs.declared.declarations.Method.{Method}
use Rattle.fort_tree.specs.declared.declarations.MethodBody.{MethodBody}
use Rattle.fort_tree.specs.declared.declarations.MethodParameter.{MethodParameter}
use Rattle.fort_tree.specs.declared.declarations.MethodParameter.TheVariants as method_parameter
use Rattle.fort_tree.specs.declared.declarations.MethodParameters.{MethodParameters}
use Rattle.fort_tree.specs.declared.declarations.Names.{Names}
use Rattle.fort_tree.specs.declared.declarations.Names.TheVariants as names_of
use Rattle.fort_tree.specs.declared.declarations.NextMethodParameter.{NextMethodParameter}
use Rattle.fort_tree.specs.declared.declarations.NextObjectParameter.{NextObjectParameter}
use Rattle.fort_tree.specs.declared.declarations.Object.{Object}
use Rattle.fort_tree.specs.declared.declarations.ObjectEntry.{ObjectEntry}
use Rattle.fort_tree.specs.declared.declarations.ObjectMember.{ObjectMember}
use Rattle.fort_tree.specs.declared.declarations.ObjectMember.TheVariants as object_member
use Rattle.fort_tree.specs.declared.declarations.ObjectParameter.{ObjectParameter}
use Rattle.fort_tree.specs.declared.declarations.ObjectParameterList.{ObjectParameterList}
use Rattle.fort_tree.specs.declared.declarations.ObjectParameters.{ObjectParameters}
use Rattle.fort_tree.specs.declared.declarations.Trait.{Trait}
use Rattle.fort_tree.specs.declared.declarations.TraitEntry.{TraitEntry}
use Rattle.fort_tree.specs.declared.declarations.TraitMember.{TraitMember}
use Rattle.fort_tree.specs.declared.declarations.TraitMember.TheVariants as trait_member
use Rattle.fort_tree.specs.Tokens.{Spellings, word, marked, named, signed, colon, equals, may_declare, is_spelled}
use Rattle.fort_tree.specs.Said.{Said, SaidEntry, elsewhere, tokens_of, all_tokens, all_obey, maybe_tokens, maybe_obeys, is_there, entries_tokens, entries_obey}
use Rattle.fort_tree.specs.Types.{said_type, said_parameter, said_parameters, parameter_count}
use Rattle.fort_tree.specs.Blocks.{after_var, next_names_tokens}
use Rattle.fort_tree.specs.Yield.{said_variable, said_expr}

-- ---- names of functions and methods

-- the first token of a declaration's name
abbrev pub name_first : FunctionName → Token
name_first (function_name.Name name) = named name
name_first (function_name.Operator opr sign) = word reserved.Opr opr
name_first (function_name.Juxtaposition opr name) = word reserved.Opr opr

-- what follows `opr`
abbrev pub name_more : FunctionName → List Token
name_more (function_name.Name name) = []
name_more (function_name.Operator opr sign) = signed sign ∷ []
name_more (function_name.Juxtaposition opr name) = named name ∷ []

-- An `opr` has as many parameters as its operator wants; `juxtaposition` wants two.
abbrev pub name_fits : Spellings → FunctionName → ℕ → Bool
name_fits names (function_name.Name name) count = true
name_fits names (function_name.Operator opr sign) count = may_declare sign.op count
name_fits names (function_name.Juxtaposition opr name) count =
    is_spelled "juxtaposition" names name && (count == 2)

-- whether a name is declared by `opr`
abbrev pub is_opr : FunctionName → Bool
is_opr (function_name.Name name) = false
is_opr (function_name.Operator opr sign) = true
is_opr (function_name.Juxtaposition opr name) = true

-- ---- Fn

-- what a function says
abbrev pub said_function : Function → Said
said_function f = record {
  first = name_first f.name;
  more = name_more f.name ++ marked mark.OpenParen f.left
      ∷ (maybe_tokens (option_map said_parameters f.parameters) ++ marked mark.CloseParen f.right
      ∷ colon f.colon
      ∷ (tokens_of (said_type f.result) ++ equals f.equals ∷ tokens_of (said_expr f.body)));
  obeys = λ names allowed. name_fits names f.name (parameter_count f.parameters)
      && (maybe_obeys names elsewhere (option_map said_parameters f.parameters)
      && ((said_type f.result).obeys names elsewhere
      && (said_expr f.body).obeys names elsewhere));
}

-- ---- Method, MParam

-- what a parameter of a method says: a parameter, or `self`
abbrev pub said_method_parameter : MethodParameter → Said
said_method_parameter (method_parameter.Parameter parameter) = said_parameter parameter
said_method_parameter (method_parameter.Self_ s) =
    record { first = word reserved.Self_ s; more = []; obeys = λ names allowed. true }

-- what a further parameter of a method says: a comma, and it
abbrev pub said_next_method_parameter : NextMethodParameter → Said
said_next_method_parameter next = record {
  first = marked mark.Comma next.comma;
  more = tokens_of (said_method_parameter next.parameter);
  obeys = (said_method_parameter next.parameter).obeys;
}

-- what a list of parameters of a method says
abbrev pub said_method_parameters : MethodParameters → Said
said_method_parameters list = record {
  first = (said_method_parameter list.first).first;
  more = (said_method_parameter list.first).more
      ++ all_tokens (map said_next_method_parameter list.others);
  obeys = λ names allowed. (said_method_parameter list.first).obeys names allowed
      && all_obey names allowed (map said_next_method_parameter list.others);
}

-- 1 where a parameter is `self`
abbrev pub self_count : MethodParameter → ℕ
self_count (method_parameter.Parameter parameter) = 0
self_count (method_parameter.Self_ s) = 1

-- how many of further parameters are `self`
abbrev pub next_self_count : List NextMethodParameter → ℕ
next_self_count [] = 0
next_self_count (n ∷ ns) = self_count n.parameter + next_self_count ns

-- how often `self` stands in a list of parameters
abbrev pub selves : Option MethodParameters → ℕ
selves None = 0
selves (Some list) = self_count list.first + next_self_count list.others

-- the number of a method's parameters, `self` included
abbrev pub method_parameter_count : Option MethodParameters → ℕ
method_parameter_count None = 0
method_parameter_count (Some list) = 1 + length list.others

-- the tokens of a method's body with its `=`
abbrev pub body_tokens : Option MethodBody → List Token
body_tokens None = []
body_tokens (Some b) = equals b.equals ∷ tokens_of (said_expr b.body)

-- whether the rules hold in a method's body
abbrev pub body_obeys : Spellings → Option MethodBody → Bool
body_obeys names None = true
body_obeys names (Some b) = (said_expr b.body).obeys names elsewhere

-- `self` stands once at most in its parameters, and once in those of an `opr`.
abbrev pub selves_fit : FunctionName → ℕ → Bool
selves_fit name count = (count == 1) || ((count == 0) && not (is_opr name))

-- what a method says
abbrev pub said_method : Method → Said
said_method m = record {
  first = name_first m.name;
  more = name_more m.name ++ marked mark.OpenParen m.left
      ∷ (maybe_tokens (option_map said_method_parameters m.parameters)
      ++ marked mark.CloseParen m.right ∷ colon m.colon
      ∷ (tokens_of (said_type m.result) ++ body_tokens m.body));
  obeys = λ names allowed. name_fits names m.name (method_parameter_count m.parameters)
      && (selves_fit m.name (selves m.parameters)
      && (maybe_obeys names elsewhere (option_map said_method_parameters m.parameters)
      && ((said_type m.result).obeys names elsewhere && body_obeys names m.body)));
}

-- ---- Names, Ext, Exc, Com

-- the tokens of one name, or of names in braces
abbrev pub names_tokens : Names → List Token
names_tokens (names_of.One name) = named name ∷ []
names_tokens (names_of.Braces left first others right) =
    marked mark.OpenBrace left ∷ named first
    ∷ (next_names_tokens others ++ marked mark.CloseBrace right ∷ [])

-- the tokens of an `extends`
abbrev pub extends_tokens : Option Extends → List Token
extends_tokens None = []
extends_tokens (Some e) = word reserved.Extends e.extends ∷ names_tokens e.names

-- the tokens of an `excludes`
abbrev pub excludes_tokens : Option Excludes → List Token
excludes_tokens None = []
excludes_tokens (Some e) = word reserved.Excludes e.excludes ∷ names_tokens e.names

-- the tokens of a `comprises`
abbrev pub comprises_tokens : Option Comprises → List Token
comprises_tokens None = []
comprises_tokens (Some c) = word reserved.Comprises c.comprises ∷ names_tokens c.names

-- ---- Trait, TMember

-- what a member of a trait says
abbrev pub said_trait_member : TraitMember → Said
said_trait_member (trait_member.Field name at_colon ty) = record {
  first = named name;
  more = colon at_colon ∷ tokens_of (said_type ty);
  obeys = λ names allowed. (said_type ty).obeys names elsewhere;
}
said_trait_member (trait_member.Method method) = said_method method

-- what a member of a trait says, and its `;`
abbrev pub said_trait_entry : TraitEntry → SaidEntry
said_trait_entry e = record { item = said_trait_member e.member; semicolon = e.semicolon }

-- what a trait says
abbrev pub said_trait : Trait → Said
said_trait t = record {
  first = word reserved.Trait t.trait_;
  more = named t.name
      ∷ (extends_tokens t.extends ++ (excludes_tokens t.excludes ++ (comprises_tokens t.comprises
      ++ (entries_tokens (map said_trait_entry t.members) ++ word reserved.End t.end ∷ []))));
  obeys = λ names allowed. entries_obey names (map said_trait_entry t.members);
}

-- ---- Object, OParam, OMember

-- what a parameter of an object says
abbrev pub said_object_parameter : ObjectParameter → Said
said_object_parameter p = after_var p.var (record {
  first = named p.name;
  more = colon p.colon ∷ tokens_of (said_type p.ty);
  obeys = λ names allowed. (said_type p.ty).obeys names elsewhere;
})

-- what a further parameter of an object says: a comma, and it
abbrev pub said_next_object_parameter : NextObjectParameter → Said
said_next_object_parameter next = record {
  first = marked mark.Comma next.comma;
  more = tokens_of (said_object_parameter next.parameter);
  obeys = (said_object_parameter next.parameter).obeys;
}

-- what a list of parameters of an object says
abbrev pub said_object_parameter_list : ObjectParameterList → Said
said_object_parameter_list list = record {
  first = (said_object_parameter list.first).first;
  more = (said_object_parameter list.first).more
      ++ all_tokens (map said_next_object_parameter list.others);
  obeys = λ names allowed. (said_object_parameter list.first).obeys names allowed
      && all_obey names allowed (map said_next_object_parameter list.others);
}

-- what an object's parameters and their parentheses say
abbrev pub said_object_parameters : ObjectParameters → Said
said_object_parameters p = record {
  first = marked mark.OpenParen p.left;
  more = maybe_tokens (option_map said_object_parameter_list p.parameters)
      ++ marked mark.CloseParen p.right ∷ [];
  obeys = λ names allowed. maybe_obeys names allowed
      (option_map said_object_parameter_list p.parameters);
}

-- A method of an object has a body.
abbrev pub said_object_member : ObjectMember → Said
said_object_member (object_member.Variable variable) = said_variable variable
said_object_member (object_member.Method method) = record {
  first = (said_method method).first;
  more = (said_method method).more;
  obeys = λ names allowed. is_there method.body && (said_method method).obeys names allowed;
}

-- what a member of an object says, and its `;`
abbrev pub said_object_entry : ObjectEntry → SaidEntry
said_object_entry e = record { item = said_object_member e.member; semicolon = e.semicolon }

-- what an object says
abbrev pub said_object : Object → Said
said_object o = record {
  first = word reserved.Object o.object;
  more = named o.name
      ∷ (maybe_tokens (option_map said_object_parameters o.parameters) ++ (extends_tokens o.extends
      ++ (entries_tokens (map said_object_entry o.members) ++ word reserved.End o.end ∷ [])));
  obeys = λ names allowed. maybe_obeys names elsewhere
      (option_map said_object_parameters o.parameters)
      && entries_obey names (map said_object_entry o.members);
}

-- ---- Decl

-- what a declaration says
abbrev pub said_declaration : Declaration → Said
said_declaration (declaration.Variable variable) = said_variable variable
said_declaration (declaration.Function function) = said_function function
said_declaration (declaration.Trait tr) = said_trait tr
said_declaration (declaration.Object object) = said_object object

-- what a declaration says, and its `;`
abbrev pub said_declared : Declared → SaidEntry
said_declared d = record { item = said_declaration d.declaration; semicolon = d.semicolon }
