-- The chapter "Types": the names that stand as types in each form that ends with `end`, and in each
-- part of one.
use Rattle.std.proofs.Common.{◌≡◌, List, Option, rules}
use Rattle.std.specs.Prelude.{map, option_map}
use Rattle.fort_tree.specs.declared.spot.Spot.{Spot}
use Rattle.fort_tree.specs.declared.spot.Name.{Name}
use Rattle.fort_tree.specs.declared.spot.NextName.{NextName}
use Rattle.fort_tree.specs.declared.types.TypeTree.{TypeTree}
use Rattle.fort_tree.specs.declared.delimited.Delimited.{the_lemmas}
use Rattle.fort_tree.specs.declared.delimited.Delimited.TheVariants as a_delimited
use Rattle.fort_tree.specs.declared.delimited.Item.TheVariants as an_item
use Rattle.fort_tree.specs.declared.expr.Expr.{Expr}
use Rattle.fort_tree.specs.declared.expr.Generator.{Generator}
use Rattle.fort_tree.specs.declared.declarations.Variable.{Variable, out-Variable}
use Rattle.fort_tree.specs.declared.delimited.Also.{Also, out-Also}
use Rattle.fort_tree.specs.declared.delimited.BlockItem.{BlockItem, out-BlockItem}
use Rattle.fort_tree.specs.declared.delimited.CaseClause.{CaseClause, out-CaseClause}
use Rattle.fort_tree.specs.declared.delimited.Catch.{Catch, out-Catch}
use Rattle.fort_tree.specs.declared.delimited.Elif.{Elif, out-Elif}
use Rattle.fort_tree.specs.declared.delimited.ElseBlock.{ElseBlock, out-ElseBlock}
use Rattle.fort_tree.specs.declared.delimited.ElseClause.{ElseClause, out-ElseClause}
use Rattle.fort_tree.specs.declared.delimited.Finally.{Finally, out-Finally}
use Rattle.fort_tree.specs.declared.delimited.NextGenerator.{NextGenerator, out-NextGenerator}
use Rattle.fort_tree.specs.declared.delimited.TypeClause.{TypeClause, out-TypeClause}
use Rattle.fort_tree.specs.declared.expr.Flat.{Flat}
use Rattle.fort_tree.specs.declared.delimited.Delimited.TheOpen.{Delimited-F, Item-F}
use Rattle.fort_tree_type_names.specs.Mentioning.{mentioned_delimited, mentioned_item, mentioned_expr, mentioned_generator, mentioned_variable, mentioned_also, mentioned_block_item, mentioned_case_clause, mentioned_catch, mentioned_elif, mentioned_else_block, mentioned_else_clause, mentioned_finally, mentioned_next_generator, mentioned_type_clause, mentioned_flat}
use Rattle.fort_tree_type_names.specs.Mentions.{mention_delimited, mention_also, mention_elif, mention_else_block, mention_next_generator, mention_case_clause, mention_type_clause, mention_else_clause, mention_catch, mention_finally, mention_block_item, mention_item, mention_variable}

-- ---- Delimited

pub mentions-Do : (do_ : Spot) (block : List BlockItem) (others : List Also) (end : Spot)
    → mentioned_delimited (a_delimited.Do do_ block others end)
    ≡ mention_delimited
    (Delimited-F.Do do_ (map mentioned_block_item block) (map mentioned_also others) end)
unfolding mentioned_delimited mentioned_block_item mentioned_also
mentions-Do do_ block others end = search (rules, the_lemmas)

pub mentions-If : (if_ : Spot) (condition : Flat) (then : Spot) (block : List BlockItem)
    (elifs : List Elif) (otherwise : Option ElseBlock) (end : Spot)
    → mentioned_delimited (a_delimited.If if_ condition then block elifs otherwise end)
    ≡ mention_delimited (Delimited-F.If if_ (mentioned_flat condition)
    then (map mentioned_block_item block) (map mentioned_elif elifs)
    (option_map mentioned_else_block otherwise) end)
unfolding mentioned_delimited mentioned_flat mentioned_block_item mentioned_elif
    mentioned_else_block
mentions-If if_ condition then block elifs otherwise end = search (rules, the_lemmas)

pub mentions-While : (while_ : Spot) (condition : Flat) (do_ : Spot) (block : List BlockItem)
    (end : Spot)
    → mentioned_delimited (a_delimited.While while_ condition do_ block end)
    ≡ mention_delimited
    (Delimited-F.While while_ (mentioned_flat condition) do_ (map mentioned_block_item block) end)
unfolding mentioned_delimited mentioned_flat mentioned_block_item
mentions-While while_ condition do_ block end = search (rules, the_lemmas)

pub mentions-For : (for_ : Spot) (generator : Generator) (others : List NextGenerator) (do_ : Spot)
    (block : List BlockItem) (end : Spot)
    → mentioned_delimited (a_delimited.For for_ generator others do_ block end)
    ≡ mention_delimited
    (Delimited-F.For for_ (mentioned_generator generator) (map mentioned_next_generator others) do_
    (map mentioned_block_item block) end)
unfolding mentioned_delimited mentioned_generator mentioned_next_generator mentioned_block_item
mentions-For for_ generator others do_ block end = search (rules, the_lemmas)

pub mentions-Case : (case : Spot) (subject : Flat) (of : Spot) (clauses : List CaseClause)
    (otherwise : Option ElseClause) (end : Spot)
    → mentioned_delimited (a_delimited.Case case subject of clauses otherwise end)
    ≡ mention_delimited
    (Delimited-F.Case case (mentioned_flat subject) of (map mentioned_case_clause clauses)
    (option_map mentioned_else_clause otherwise) end)
unfolding mentioned_delimited mentioned_flat mentioned_case_clause mentioned_else_clause
mentions-Case case subject of clauses otherwise end = search (rules, the_lemmas)

pub mentions-Typecase : (typecase : Spot) (name : Name) (equals : Spot) (subject : Flat) (of : Spot)
    (clauses : List TypeClause) (otherwise : Option ElseClause) (end : Spot)
    → mentioned_delimited
    (a_delimited.Typecase typecase name equals subject of clauses otherwise end)
    ≡ mention_delimited
    (Delimited-F.Typecase typecase name equals (mentioned_flat subject) of
    (map mentioned_type_clause clauses) (option_map mentioned_else_clause otherwise) end)
unfolding mentioned_delimited mentioned_flat mentioned_type_clause mentioned_else_clause
mentions-Typecase typecase name equals subject of clauses otherwise end = search (rules, the_lemmas)

pub mentions-Try : (try_ : Spot) (block : List BlockItem) (catch : Option Catch)
    (finally : Option Finally) (end : Spot)
    → mentioned_delimited (a_delimited.Try try_ block catch finally end)
    ≡ mention_delimited
    (Delimited-F.Try try_ (map mentioned_block_item block) (option_map mentioned_catch catch)
    (option_map mentioned_finally finally) end)
unfolding mentioned_delimited mentioned_block_item mentioned_catch mentioned_finally
mentions-Try try_ block catch finally end = search (rules, the_lemmas)

-- ---- Also

pub also_mentions : (x : Also)
    → mentioned_also x
    ≡ mention_also
    (record {
      also = (out-Also x).also;
      do_ = (out-Also x).do_;
      block = map mentioned_block_item (out-Also x).block;
    })
unfolding mentioned_also mentioned_block_item
also_mentions x = search (rules, the_lemmas)

-- ---- Elif

pub elif_mentions : (x : Elif)
    → mentioned_elif x
    ≡ mention_elif
    (record {
      elif = (out-Elif x).elif;
      condition = mentioned_flat (out-Elif x).condition;
      then = (out-Elif x).then;
      block = map mentioned_block_item (out-Elif x).block;
    })
unfolding mentioned_elif mentioned_flat mentioned_block_item
elif_mentions x = search (rules, the_lemmas)

-- ---- ElseBlock

pub else_block_mentions : (x : ElseBlock)
    → mentioned_else_block x
    ≡ mention_else_block
    (record {
      else_ = (out-ElseBlock x).else_;
      block = map mentioned_block_item (out-ElseBlock x).block;
    })
unfolding mentioned_else_block mentioned_block_item
else_block_mentions x = search (rules, the_lemmas)

-- ---- NextGenerator

pub next_generator_mentions : (x : NextGenerator)
    → mentioned_next_generator x
    ≡ mention_next_generator
    (record {
      comma = (out-NextGenerator x).comma;
      generator = mentioned_generator (out-NextGenerator x).generator;
    })
unfolding mentioned_next_generator mentioned_generator
next_generator_mentions x = search (rules, the_lemmas)

-- ---- CaseClause

pub case_clause_mentions : (x : CaseClause)
    → mentioned_case_clause x
    ≡ mention_case_clause
    (record {
      subject = mentioned_flat (out-CaseClause x).subject;
      arrow = (out-CaseClause x).arrow;
      value = mentioned_expr (out-CaseClause x).value;
      semicolon = (out-CaseClause x).semicolon;
    })
unfolding mentioned_case_clause mentioned_flat mentioned_expr
case_clause_mentions x = search (rules, the_lemmas)

-- ---- TypeClause

pub type_clause_mentions : (x : TypeClause)
    → mentioned_type_clause x
    ≡ mention_type_clause
    (record {
      ty = (out-TypeClause x).ty;
      arrow = (out-TypeClause x).arrow;
      value = mentioned_expr (out-TypeClause x).value;
      semicolon = (out-TypeClause x).semicolon;
    })
unfolding mentioned_type_clause mentioned_expr
type_clause_mentions x = search (rules, the_lemmas)

-- ---- ElseClause

pub else_clause_mentions : (x : ElseClause)
    → mentioned_else_clause x
    ≡ mention_else_clause
    (record {
      semicolon = (out-ElseClause x).semicolon;
      else_ = (out-ElseClause x).else_;
      arrow = (out-ElseClause x).arrow;
      value = mentioned_expr (out-ElseClause x).value;
    })
unfolding mentioned_else_clause mentioned_expr
else_clause_mentions x = search (rules, the_lemmas)

-- ---- Catch

pub catch_mentions : (x : Catch)
    → mentioned_catch x
    ≡ mention_catch
    (record {
      catch = (out-Catch x).catch;
      name = (out-Catch x).name;
      clauses = map mentioned_type_clause (out-Catch x).clauses;
    })
unfolding mentioned_catch mentioned_type_clause
catch_mentions x = search (rules, the_lemmas)

-- ---- Finally

pub finally_mentions : (x : Finally)
    → mentioned_finally x
    ≡ mention_finally
    (record {
      finally = (out-Finally x).finally;
      block = map mentioned_block_item (out-Finally x).block;
    })
unfolding mentioned_finally mentioned_block_item
finally_mentions x = search (rules, the_lemmas)

-- ---- BlockItem

pub block_item_mentions : (x : BlockItem)
    → mentioned_block_item x
    ≡ mention_block_item
    (record {
      item = mentioned_item (out-BlockItem x).item;
      semicolon = (out-BlockItem x).semicolon;
    })
unfolding mentioned_block_item mentioned_item
block_item_mentions x = search (rules, the_lemmas)

-- ---- Item

pub mentions-Variable : (variable : Variable)
    → mentioned_item (an_item.Variable variable)
    ≡ mention_item (Item-F.Variable (mentioned_variable variable))
unfolding mentioned_item mentioned_variable
mentions-Variable variable = search (rules, the_lemmas)

pub mentions-Names : (left : Spot) (first : Name) (others : List NextName) (right colon : Spot)
    (ty : TypeTree) (equals : Spot) (value : Expr)
    → mentioned_item (an_item.Names left first others right colon ty equals value)
    ≡ mention_item (Item-F.Names left first others right colon ty equals (mentioned_expr value))
unfolding mentioned_item mentioned_expr
mentions-Names left first others right colon ty equals value = search (rules, the_lemmas)

pub mentions-Expr : (expr : Expr)
    → mentioned_item (an_item.Expr expr) ≡ mention_item (Item-F.Expr (mentioned_expr expr))
unfolding mentioned_item mentioned_expr
mentions-Expr expr = search (rules, the_lemmas)

-- ---- Variable

pub variable_mentions : (x : Variable)
    → mentioned_variable x
    ≡ mention_variable
    (record {
      var = (out-Variable x).var;
      name = (out-Variable x).name;
      colon = (out-Variable x).colon;
      ty = (out-Variable x).ty;
      sign = (out-Variable x).sign;
      value = mentioned_expr (out-Variable x).value;
    })
unfolding mentioned_variable mentioned_expr
variable_mentions x = search (rules, the_lemmas)
