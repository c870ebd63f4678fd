-- The chapter "Typing", forms: the form of each form that ends with `end`, and of each part of one,
-- by its level.
use Rattle.std.proofs.Common.{◌≡◌, List, Option, rules}
use Rattle.std.specs.Prelude.{map, option_map}
use Rattle.fort_tree.specs.declared.spot.Spot.{Spot}
use Rattle.fort_tree.specs.declared.spot.Name.{Name}
use Rattle.fort_tree.specs.declared.spot.NextName.{NextName}
use Rattle.fort_tree.specs.declared.types.TypeTree.{TypeTree}
use Rattle.fort_tree.specs.declared.delimited.Delimited.{the_lemmas}
use Rattle.fort_tree.specs.declared.delimited.Delimited.TheVariants as a_delimited
use Rattle.fort_tree.specs.declared.delimited.Item.TheVariants as an_item
use Rattle.fort_tree.specs.declared.expr.Expr.{Expr}
use Rattle.fort_tree.specs.declared.expr.Generator.{Generator}
use Rattle.fort_tree.specs.declared.declarations.Variable.{Variable, out-Variable}
use Rattle.fort_tree.specs.declared.delimited.Also.{Also, out-Also}
use Rattle.fort_tree.specs.declared.delimited.BlockItem.{BlockItem, out-BlockItem}
use Rattle.fort_tree.specs.declared.delimited.CaseClause.{CaseClause, out-CaseClause}
use Rattle.fort_tree.specs.declared.delimited.Catch.{Catch, out-Catch}
use Rattle.fort_tree.specs.declared.delimited.Elif.{Elif, out-Elif}
use Rattle.fort_tree.specs.declared.delimited.ElseBlock.{ElseBlock, out-ElseBlock}
use Rattle.fort_tree.specs.declared.delimited.ElseClause.{ElseClause, out-ElseClause}
use Rattle.fort_tree.specs.declared.delimited.Finally.{Finally, out-Finally}
use Rattle.fort_tree.specs.declared.delimited.NextGenerator.{NextGenerator, out-NextGenerator}
use Rattle.fort_tree.specs.declared.delimited.TypeClause.{TypeClause, out-TypeClause}
use Rattle.fort_tree.specs.declared.expr.Flat.{Flat}
use Rattle.fort_tree.specs.declared.delimited.Delimited.TheOpen.{Delimited-F, Item-F}
use Rattle.fort_form_meaning.specs.Source.{Source}
use Rattle.fort_form_meaning.specs.Formed.{formed_delimited, formed_item, formed_expr, formed_generator, formed_variable, formed_also, formed_block_item, formed_case_clause, formed_catch, formed_elif, formed_else_block, formed_else_clause, formed_finally, formed_next_generator, formed_type_clause, formed_flat}
use Rattle.fort_form_meaning.specs.Forming.{form_delimited, form_also, form_elif, form_else_block, form_next_generator, form_case_clause, form_type_clause, form_else_clause, form_catch, form_finally, form_block_item, form_item, form_variable}

-- ---- Delimited

pub forms-Do : (k : Source) (do_ : Spot) (block : List BlockItem) (others : List Also) (end : Spot)
    → formed_delimited k (a_delimited.Do do_ block others end)
    ≡ form_delimited
    (Delimited-F.Do do_ (map (formed_block_item k) block) (map (formed_also k) others) end)
unfolding formed_delimited formed_block_item formed_also
forms-Do k do_ block others end = search (rules, the_lemmas)

pub forms-If : (k : Source) (if_ : Spot) (condition : Flat) (then : Spot) (block : List BlockItem)
    (elifs : List Elif) (otherwise : Option ElseBlock) (end : Spot)
    → formed_delimited k (a_delimited.If if_ condition then block elifs otherwise end)
    ≡ form_delimited (Delimited-F.If if_ (formed_flat k condition)
    then (map (formed_block_item k) block) (map (formed_elif k) elifs)
    (option_map (formed_else_block k) otherwise) end)
unfolding formed_delimited formed_flat formed_block_item formed_elif formed_else_block
forms-If k if_ condition then block elifs otherwise end = search (rules, the_lemmas)

pub forms-While : (k : Source) (while_ : Spot) (condition : Flat) (do_ : Spot)
    (block : List BlockItem) (end : Spot)
    → formed_delimited k (a_delimited.While while_ condition do_ block end)
    ≡ form_delimited
    (Delimited-F.While while_ (formed_flat k condition) do_ (map (formed_block_item k) block) end)
unfolding formed_delimited formed_flat formed_block_item
forms-While k while_ condition do_ block end = search (rules, the_lemmas)

pub forms-For : (k : Source) (for_ : Spot) (generator : Generator) (others : List NextGenerator)
    (do_ : Spot) (block : List BlockItem) (end : Spot)
    → formed_delimited k (a_delimited.For for_ generator others do_ block end)
    ≡ form_delimited
    (Delimited-F.For for_ (formed_generator k generator) (map (formed_next_generator k) others) do_
    (map (formed_block_item k) block) end)
unfolding formed_delimited formed_generator formed_next_generator formed_block_item
forms-For k for_ generator others do_ block end = search (rules, the_lemmas)

pub forms-Case : (k : Source) (case : Spot) (subject : Flat) (of : Spot) (clauses : List CaseClause)
    (otherwise : Option ElseClause) (end : Spot)
    → formed_delimited k (a_delimited.Case case subject of clauses otherwise end)
    ≡ form_delimited
    (Delimited-F.Case case (formed_flat k subject) of (map (formed_case_clause k) clauses)
    (option_map (formed_else_clause k) otherwise) end)
unfolding formed_delimited formed_flat formed_case_clause formed_else_clause
forms-Case k case subject of clauses otherwise end = search (rules, the_lemmas)

pub forms-Typecase : (k : Source) (typecase : Spot) (name : Name) (equals : Spot) (subject : Flat)
    (of : Spot) (clauses : List TypeClause) (otherwise : Option ElseClause) (end : Spot)
    → formed_delimited k
    (a_delimited.Typecase typecase name equals subject of clauses otherwise end)
    ≡ form_delimited
    (Delimited-F.Typecase typecase name equals (formed_flat k subject) of
    (map (formed_type_clause k) clauses) (option_map (formed_else_clause k) otherwise) end)
unfolding formed_delimited formed_flat formed_type_clause formed_else_clause
forms-Typecase k typecase name equals subject of clauses otherwise end = search (rules, the_lemmas)

pub forms-Try : (k : Source) (try_ : Spot) (block : List BlockItem) (catch : Option Catch)
    (finally : Option Finally) (end : Spot)
    → formed_delimited k (a_delimited.Try try_ block catch finally end)
    ≡ form_delimited
    (Delimited-F.Try try_ (map (formed_block_item k) block) (option_map (formed_catch k) catch)
    (option_map (formed_finally k) finally) end)
unfolding formed_delimited formed_block_item formed_catch formed_finally
forms-Try k try_ block catch finally end = search (rules, the_lemmas)

-- ---- Also

pub also_forms : (k : Source) (x : Also)
    → formed_also k x
    ≡ form_also
    (record {
      also = (out-Also x).also;
      do_ = (out-Also x).do_;
      block = map (formed_block_item k) (out-Also x).block;
    })
unfolding formed_also formed_block_item
also_forms k x = search (rules, the_lemmas)

-- ---- Elif

pub elif_forms : (k : Source) (x : Elif)
    → formed_elif k x
    ≡ form_elif
    (record {
      elif = (out-Elif x).elif;
      condition = formed_flat k (out-Elif x).condition;
      then = (out-Elif x).then;
      block = map (formed_block_item k) (out-Elif x).block;
    })
unfolding formed_elif formed_flat formed_block_item
elif_forms k x = search (rules, the_lemmas)

-- ---- ElseBlock

pub else_block_forms : (k : Source) (x : ElseBlock)
    → formed_else_block k x
    ≡ form_else_block
    (record {
      else_ = (out-ElseBlock x).else_;
      block = map (formed_block_item k) (out-ElseBlock x).block;
    })
unfolding formed_else_block formed_block_item
else_block_forms k x = search (rules, the_lemmas)

-- ---- NextGenerator

pub next_generator_forms : (k : Source) (x : NextGenerator)
    → formed_next_generator k x
    ≡ form_next_generator
    (record {
      comma = (out-NextGenerator x).comma;
      generator = formed_generator k (out-NextGenerator x).generator;
    })
unfolding formed_next_generator formed_generator
next_generator_forms k x = search (rules, the_lemmas)

-- ---- CaseClause

pub case_clause_forms : (k : Source) (x : CaseClause)
    → formed_case_clause k x
    ≡ form_case_clause
    (record {
      subject = formed_flat k (out-CaseClause x).subject;
      arrow = (out-CaseClause x).arrow;
      value = formed_expr k (out-CaseClause x).value;
      semicolon = (out-CaseClause x).semicolon;
    })
unfolding formed_case_clause formed_flat formed_expr
case_clause_forms k x = search (rules, the_lemmas)

-- ---- TypeClause

pub type_clause_forms : (k : Source) (x : TypeClause)
    → formed_type_clause k x
    ≡ form_type_clause k
    (record {
      ty = (out-TypeClause x).ty;
      arrow = (out-TypeClause x).arrow;
      value = formed_expr k (out-TypeClause x).value;
      semicolon = (out-TypeClause x).semicolon;
    })
unfolding formed_type_clause formed_expr
type_clause_forms k x = search (rules, the_lemmas)

-- ---- ElseClause

pub else_clause_forms : (k : Source) (x : ElseClause)
    → formed_else_clause k x
    ≡ form_else_clause
    (record {
      semicolon = (out-ElseClause x).semicolon;
      else_ = (out-ElseClause x).else_;
      arrow = (out-ElseClause x).arrow;
      value = formed_expr k (out-ElseClause x).value;
    })
unfolding formed_else_clause formed_expr
else_clause_forms k x = search (rules, the_lemmas)

-- ---- Catch

pub catch_forms : (k : Source) (x : Catch)
    → formed_catch k x
    ≡ form_catch
    (record {
      catch = (out-Catch x).catch;
      name = (out-Catch x).name;
      clauses = map (formed_type_clause k) (out-Catch x).clauses;
    })
unfolding formed_catch formed_type_clause
catch_forms k x = search (rules, the_lemmas)

-- ---- Finally

pub finally_forms : (k : Source) (x : Finally)
    → formed_finally k x
    ≡ form_finally
    (record {
      finally = (out-Finally x).finally;
      block = map (formed_block_item k) (out-Finally x).block;
    })
unfolding formed_finally formed_block_item
finally_forms k x = search (rules, the_lemmas)

-- ---- BlockItem

pub block_item_forms : (k : Source) (x : BlockItem)
    → formed_block_item k x
    ≡ form_block_item
    (record {
      item = formed_item k (out-BlockItem x).item;
      semicolon = (out-BlockItem x).semicolon;
    })
unfolding formed_block_item formed_item
block_item_forms k x = search (rules, the_lemmas)

-- ---- Item

pub forms-Variable : (k : Source) (variable : Variable)
    → formed_item k (an_item.Variable variable)
    ≡ form_item k (Item-F.Variable (formed_variable k variable))
unfolding formed_item formed_variable
forms-Variable k variable = search (rules, the_lemmas)

pub forms-Names : (k : Source) (left : Spot) (first : Name) (others : List NextName)
    (right colon : Spot) (ty : TypeTree) (equals : Spot) (value : Expr)
    → formed_item k (an_item.Names left first others right colon ty equals value)
    ≡ form_item k (Item-F.Names left first others right colon ty equals (formed_expr k value))
unfolding formed_item formed_expr
forms-Names k left first others right colon ty equals value = search (rules, the_lemmas)

pub forms-Expr : (k : Source) (expr : Expr)
    → formed_item k (an_item.Expr expr) ≡ form_item k (Item-F.Expr (formed_expr k expr))
unfolding formed_item formed_expr
forms-Expr k expr = search (rules, the_lemmas)

-- ---- Variable

pub variable_forms : (k : Source) (x : Variable)
    → formed_variable k x
    ≡ form_variable k
    (record {
      var = (out-Variable x).var;
      name = (out-Variable x).name;
      colon = (out-Variable x).colon;
      ty = (out-Variable x).ty;
      sign = (out-Variable x).sign;
      value = formed_expr k (out-Variable x).value;
    })
unfolding formed_variable formed_expr
variable_forms k x = search (rules, the_lemmas)

pub ruleset block_levels = (
  forms-Do,
  forms-If,
  forms-While,
  forms-For,
  forms-Case,
  forms-Typecase,
  forms-Try,
  also_forms,
  elif_forms,
  else_block_forms,
  next_generator_forms,
  case_clause_forms,
  type_clause_forms,
  else_clause_forms,
  catch_forms,
  finally_forms,
  block_item_forms,
  forms-Variable,
  forms-Names,
  forms-Expr,
  variable_forms,
)
