-- The chapter "Grammar", blocks and the forms that end with `end`: what one level of each says.
use Rattle.std.specs.Prelude.{Bool, true, false, ◌&&◌, ◌||◌, not, List, [], ◌∷◌, ◌++◌, Option, Some, None}
use Rattle.fort_lex_token.specs.declared.token.Token.{Token}
use Rattle.fort_lex_token.specs.declared.marks.Mark.TheVariants as mark
use Rattle.fort_lex_token.specs.declared.reserved.Reserved.{Reserved}
use Rattle.fort_lex_token.specs.declared.reserved.Reserved.TheVariants as reserved
use Rattle.fort_tree.specs.declared.spot.Spot.{Spot}
use Rattle.fort_tree.specs.declared.spot.NextName.{NextName}
use Rattle.fort_tree.specs.declared.declarations.InitialSign.{InitialSign}
use Rattle.fort_tree.specs.declared.declarations.InitialSign.TheVariants as initial_sign
use Rattle.fort_tree.specs.declared.delimited.Delimited.TheOpen.{Delimited-F, Item-F}
use Rattle.fort_tree.specs.Tokens.{word, marked, named, colon, equals, begins_declaration}
use Rattle.fort_tree.specs.Said.{Said, SaidEntry, SaidElse, elsewhere, before_do, tokens_of, all_tokens, all_obey, maybe_tokens, maybe_obeys, is_there, entries_tokens, entries_obey, has_entry, else_tokens, else_obeys}
use Rattle.fort_tree.specs.Types.{said_type}
use Rattle.fort_tree.specs.Levels.{OfDelimited, OfItem, OfVariable, OfAlso, OfBlockItem, OfCaseClause, OfCatch, OfElif, OfElseBlock, OfElseClause, OfFinally, OfNextGenerator, OfTypeClause}

-- ---- Var, Item

-- the sign before an initial
abbrev pub initial_token : InitialSign → Token
initial_token (initial_sign.Equals s) = equals s
initial_token (initial_sign.Becomes s) = marked mark.Becomes s

-- a part, with `var` before it where that stands
abbrev pub after_var : Option Spot → Said → Said
after_var None part = part
after_var (Some s) part =
    record { first = word reserved.Var s; more = tokens_of part; obeys = part.obeys }

-- what a declaration of a variable says
abbrev pub variable_step : OfVariable → Said
variable_step v = after_var v.var (record {
  first = named v.name;
  more = colon v.colon ∷ (tokens_of (said_type v.ty) ++ initial_token v.sign ∷ tokens_of v.value);
  obeys = λ names allowed. (said_type v.ty).obeys names elsewhere && v.value.obeys names elsewhere;
})

-- the tokens of further names of a list
abbrev pub next_names_tokens : List NextName → List Token
next_names_tokens [] = []
next_names_tokens (n ∷ ns) = marked mark.Comma n.comma ∷ named n.name ∷ next_names_tokens ns

-- whether a further name stands there
abbrev pub has_next_name : List NextName → Bool
has_next_name [] = false
has_next_name (n ∷ ns) = true

-- An item that is an expression doesn't begin as a declaration does.
abbrev pub item_step : OfItem → Said
item_step (Item-F.Variable variable) = variable
item_step (Item-F.Names left first others right at_colon ty at_equals value) = record {
  first = marked mark.OpenParen left;
  more = named first
      ∷ (next_names_tokens others ++ marked mark.CloseParen right ∷ colon at_colon
      ∷ (tokens_of (said_type ty) ++ equals at_equals ∷ tokens_of value));
  obeys = λ names allowed. has_next_name others
      && ((said_type ty).obeys names elsewhere && value.obeys names elsewhere);
}
item_step (Item-F.Expr expr) = record {
  first = expr.first;
  more = expr.more;
  obeys = λ names allowed. not (begins_declaration (tokens_of expr)) && expr.obeys names elsewhere;
}

-- what an item of a block says, and its `;`
abbrev pub block_item_step : OfBlockItem → SaidEntry
block_item_step entry = record { item = entry.item; semicolon = entry.semicolon }

-- ---- parts of the forms that end with `end`

-- a word and the block behind it
abbrev pub block_after : Reserved → Spot → List SaidEntry → Said
block_after w s block =
    record {
      first = word w s;
      more = entries_tokens block;
      obeys = λ names allowed. entries_obey names block;
    }

-- what a further block of a `do` says
abbrev pub also_step : OfAlso → Said
also_step a = record {
  first = word reserved.Also a.also;
  more = word reserved.Do a.do_ ∷ entries_tokens a.block;
  obeys = λ names allowed. entries_obey names a.block;
}

-- what an `elif` says
abbrev pub elif_step : OfElif → Said
elif_step e = record {
  first = word reserved.Elif e.elif;
  more = tokens_of e.condition ++ word reserved.Then e.then ∷ entries_tokens e.block;
  obeys = λ names allowed. e.condition.obeys names elsewhere && entries_obey names e.block;
}

-- what the `else` of an `if` says
abbrev pub else_block_step : OfElseBlock → Said
else_block_step e = block_after reserved.Else e.else_ e.block

-- what a `finally` says
abbrev pub finally_step : OfFinally → Said
finally_step f = block_after reserved.Finally f.finally f.block

-- what a further generator of a `for` says: a comma, and it
abbrev pub next_generator_step : OfNextGenerator → Said
next_generator_step next = record {
  first = marked mark.Comma next.comma;
  more = tokens_of next.generator;
  obeys = λ names allowed. next.generator.obeys names allowed;
}

-- what stands before the `=>` of a clause, and what it answers
abbrev pub clause : Said → Spot → Said → Said
clause subject arrow value = record {
  first = subject.first;
  more = subject.more ++ marked mark.DoubleArrow arrow ∷ tokens_of value;
  obeys = λ names allowed. subject.obeys names elsewhere && value.obeys names elsewhere;
}

-- what a clause of a `case` says, and its `;`
abbrev pub case_clause_step : OfCaseClause → SaidEntry
case_clause_step c = record { item = clause c.subject c.arrow c.value; semicolon = c.semicolon }

-- what a clause of a `typecase` or `catch` says, and its `;`
abbrev pub type_clause_step : OfTypeClause → SaidEntry
type_clause_step c =
    record { item = clause (said_type c.ty) c.arrow c.value; semicolon = c.semicolon }

-- what the `else` of a `case` or `typecase` says, and the second `;` before it
abbrev pub else_clause_step : OfElseClause → SaidElse
else_clause_step e = record {
  semicolon = e.semicolon;
  clause = record {
    first = word reserved.Else e.else_;
    more = marked mark.DoubleArrow e.arrow ∷ tokens_of e.value;
    obeys = λ names allowed. e.value.obeys names elsewhere;
  };
}

-- A `catch` has a clause at least.
abbrev pub catch_step : OfCatch → Said
catch_step c = record {
  first = word reserved.Catch c.catch;
  more = named c.name ∷ entries_tokens c.clauses;
  obeys = λ names allowed. has_entry c.clauses && entries_obey names c.clauses;
}

-- ---- Delim

-- A `do` is no atom of the flat expression before the `do` of a `while` or `for`. A `case` and a
-- `typecase` have a clause at least, and a `try` has a `catch` or a `finally`.
abbrev pub delimited_step : OfDelimited → Said
delimited_step (Delimited-F.Do at_do block others end) = record {
  first = word reserved.Do at_do;
  more = entries_tokens block ++ (all_tokens others ++ word reserved.End end ∷ []);
  obeys = λ names allowed. allowed.blocks
      && (entries_obey names block && all_obey names elsewhere others);
}
delimited_step (Delimited-F.If at_if condition then block elifs otherwise end) = record {
  first = word reserved.If at_if;
  more = tokens_of condition ++ word reserved.Then
      then ∷ (entries_tokens block
      ++ (all_tokens elifs ++ (maybe_tokens otherwise ++ word reserved.End end ∷ [])));
  obeys = λ names allowed. condition.obeys names elsewhere
      && (entries_obey names block
      && (all_obey names elsewhere elifs && maybe_obeys names elsewhere otherwise));
}
delimited_step (Delimited-F.While at_while condition at_do block end) = record {
  first = word reserved.While at_while;
  more = tokens_of condition ++ word reserved.Do at_do
      ∷ (entries_tokens block ++ word reserved.End end ∷ []);
  obeys = λ names allowed. condition.obeys names before_do && entries_obey names block;
}
delimited_step (Delimited-F.For at_for generator others at_do block end) = record {
  first = word reserved.For at_for;
  more = tokens_of generator
      ++ (all_tokens others ++ word reserved.Do at_do
      ∷ (entries_tokens block ++ word reserved.End end ∷ []));
  obeys = λ names allowed. generator.obeys names before_do
      && (all_obey names before_do others && entries_obey names block);
}
delimited_step (Delimited-F.Case at_case subject of clauses otherwise end) = record {
  first = word reserved.Case at_case;
  more = tokens_of subject ++ word reserved.Of of
      ∷ (entries_tokens clauses ++ (else_tokens otherwise ++ word reserved.End end ∷ []));
  obeys = λ names allowed. subject.obeys names elsewhere
      && (has_entry clauses && (entries_obey names clauses && else_obeys names clauses otherwise));
}
delimited_step (Delimited-F.Typecase at_typecase name at_equals subject of clauses otherwise end) =
    record {
      first = word reserved.Typecase at_typecase;
      more = named name ∷ equals at_equals
          ∷ (tokens_of subject ++ word reserved.Of of
          ∷ (entries_tokens clauses ++ (else_tokens otherwise ++ word reserved.End end ∷ [])));
      obeys = λ names allowed. subject.obeys names elsewhere
          && (has_entry clauses && (entries_obey names clauses && else_obeys names clauses otherwise));
    }
delimited_step (Delimited-F.Try at_try block catch finally end) = record {
  first = word reserved.Try at_try;
  more = entries_tokens block
      ++ (maybe_tokens catch ++ (maybe_tokens finally ++ word reserved.End end ∷ []));
  obeys = λ names allowed. (is_there catch || is_there finally)
      && (entries_obey names block
      && (maybe_obeys names elsewhere catch && maybe_obeys names elsewhere finally));
}
