-- The chapter "Components and APIs": the names that stand as atoms in each form that ends with
-- `end`, and in each part of one.
use Rattle.std.proofs.Common.{◌≡◌, List, Option, rules}
use Rattle.std.specs.Prelude.{map, option_map}
use Rattle.fort_tree.specs.declared.spot.Spot.{Spot}
use Rattle.fort_tree.specs.declared.spot.Name.{Name}
use Rattle.fort_tree.specs.declared.spot.NextName.{NextName}
use Rattle.fort_tree.specs.declared.types.TypeTree.{TypeTree}
use Rattle.fort_tree.specs.declared.delimited.Delimited.{the_lemmas}
use Rattle.fort_tree.specs.declared.delimited.Delimited.TheVariants as a_delimited
use Rattle.fort_tree.specs.declared.delimited.Item.TheVariants as an_item
use Rattle.fort_tree.specs.declared.expr.Expr.{Expr}
use Rattle.fort_tree.specs.declared.expr.Generator.{Generator}
use Rattle.fort_tree.specs.declared.declarations.Variable.{Variable, out-Variable}
use Rattle.fort_tree.specs.declared.delimited.Also.{Also, out-Also}
use Rattle.fort_tree.specs.declared.delimited.BlockItem.{BlockItem, out-BlockItem}
use Rattle.fort_tree.specs.declared.delimited.CaseClause.{CaseClause, out-CaseClause}
use Rattle.fort_tree.specs.declared.delimited.Catch.{Catch, out-Catch}
use Rattle.fort_tree.specs.declared.delimited.Elif.{Elif, out-Elif}
use Rattle.fort_tree.specs.declared.delimited.ElseBlock.{ElseBlock, out-ElseBlock}
use Rattle.fort_tree.specs.declared.delimited.ElseClause.{ElseClause, out-ElseClause}
use Rattle.fort_tree.specs.declared.delimited.Finally.{Finally, out-Finally}
use Rattle.fort_tree.specs.declared.delimited.NextGenerator.{NextGenerator, out-NextGenerator}
use Rattle.fort_tree.specs.declared.delimited.TypeClause.{TypeClause, out-TypeClause}
use Rattle.fort_tree.specs.declared.expr.Flat.{Flat}
use Rattle.fort_tree.specs.declared.delimited.Delimited.TheOpen.{Delimited-F, Item-F}
use Rattle.fort_tree_atoms.specs.AtomsOf.{atoms_of_delimited, atoms_of_item, atoms_of_expr, atoms_of_generator, atoms_of_variable, atoms_of_also, atoms_of_block_item, atoms_of_case_clause, atoms_of_catch, atoms_of_elif, atoms_of_else_block, atoms_of_else_clause, atoms_of_finally, atoms_of_next_generator, atoms_of_type_clause, atoms_of_flat}
use Rattle.fort_tree_atoms.specs.Gathering.{gather_delimited, gather_also, gather_elif, gather_else_block, gather_next_generator, gather_case_clause, gather_type_clause, gather_else_clause, gather_catch, gather_finally, gather_block_item, gather_item, gather_variable}

-- ---- Delimited

pub gathers-Do : (do_ : Spot) (block : List BlockItem) (others : List Also) (end : Spot)
    → atoms_of_delimited (a_delimited.Do do_ block others end)
    ≡ gather_delimited
    (Delimited-F.Do do_ (map atoms_of_block_item block) (map atoms_of_also others) end)
unfolding atoms_of_delimited atoms_of_block_item atoms_of_also
gathers-Do do_ block others end = search (rules, the_lemmas)

pub gathers-If : (if_ : Spot) (condition : Flat) (then : Spot) (block : List BlockItem)
    (elifs : List Elif) (otherwise : Option ElseBlock) (end : Spot)
    → atoms_of_delimited (a_delimited.If if_ condition then block elifs otherwise end)
    ≡ gather_delimited (Delimited-F.If if_ (atoms_of_flat condition)
    then (map atoms_of_block_item block) (map atoms_of_elif elifs)
    (option_map atoms_of_else_block otherwise) end)
unfolding atoms_of_delimited atoms_of_flat atoms_of_block_item atoms_of_elif
    atoms_of_else_block
gathers-If if_ condition then block elifs otherwise end = search (rules, the_lemmas)

pub gathers-While : (while_ : Spot) (condition : Flat) (do_ : Spot) (block : List BlockItem)
    (end : Spot)
    → atoms_of_delimited (a_delimited.While while_ condition do_ block end)
    ≡ gather_delimited
    (Delimited-F.While while_ (atoms_of_flat condition) do_ (map atoms_of_block_item block) end)
unfolding atoms_of_delimited atoms_of_flat atoms_of_block_item
gathers-While while_ condition do_ block end = search (rules, the_lemmas)

pub gathers-For : (for_ : Spot) (generator : Generator) (others : List NextGenerator) (do_ : Spot)
    (block : List BlockItem) (end : Spot)
    → atoms_of_delimited (a_delimited.For for_ generator others do_ block end)
    ≡ gather_delimited
    (Delimited-F.For for_ (atoms_of_generator generator) (map atoms_of_next_generator others) do_
    (map atoms_of_block_item block) end)
unfolding atoms_of_delimited atoms_of_generator atoms_of_next_generator atoms_of_block_item
gathers-For for_ generator others do_ block end = search (rules, the_lemmas)

pub gathers-Case : (case : Spot) (subject : Flat) (of : Spot) (clauses : List CaseClause)
    (otherwise : Option ElseClause) (end : Spot)
    → atoms_of_delimited (a_delimited.Case case subject of clauses otherwise end)
    ≡ gather_delimited
    (Delimited-F.Case case (atoms_of_flat subject) of (map atoms_of_case_clause clauses)
    (option_map atoms_of_else_clause otherwise) end)
unfolding atoms_of_delimited atoms_of_flat atoms_of_case_clause atoms_of_else_clause
gathers-Case case subject of clauses otherwise end = search (rules, the_lemmas)

pub gathers-Typecase : (typecase : Spot) (name : Name) (equals : Spot) (subject : Flat) (of : Spot)
    (clauses : List TypeClause) (otherwise : Option ElseClause) (end : Spot)
    → atoms_of_delimited
    (a_delimited.Typecase typecase name equals subject of clauses otherwise end)
    ≡ gather_delimited
    (Delimited-F.Typecase typecase name equals (atoms_of_flat subject) of
    (map atoms_of_type_clause clauses) (option_map atoms_of_else_clause otherwise) end)
unfolding atoms_of_delimited atoms_of_flat atoms_of_type_clause atoms_of_else_clause
gathers-Typecase typecase name equals subject of clauses otherwise end = search (rules, the_lemmas)

pub gathers-Try : (try_ : Spot) (block : List BlockItem) (catch : Option Catch)
    (finally : Option Finally) (end : Spot)
    → atoms_of_delimited (a_delimited.Try try_ block catch finally end)
    ≡ gather_delimited
    (Delimited-F.Try try_ (map atoms_of_block_item block) (option_map atoms_of_catch catch)
    (option_map atoms_of_finally finally) end)
unfolding atoms_of_delimited atoms_of_block_item atoms_of_catch atoms_of_finally
gathers-Try try_ block catch finally end = search (rules, the_lemmas)

-- ---- Also

pub also_gathers : (x : Also)
    → atoms_of_also x
    ≡ gather_also
    (record {
      also = (out-Also x).also;
      do_ = (out-Also x).do_;
      block = map atoms_of_block_item (out-Also x).block;
    })
unfolding atoms_of_also atoms_of_block_item
also_gathers x = search (rules, the_lemmas)

-- ---- Elif

pub elif_gathers : (x : Elif)
    → atoms_of_elif x
    ≡ gather_elif
    (record {
      elif = (out-Elif x).elif;
      condition = atoms_of_flat (out-Elif x).condition;
      then = (out-Elif x).then;
      block = map atoms_of_block_item (out-Elif x).block;
    })
unfolding atoms_of_elif atoms_of_flat atoms_of_block_item
elif_gathers x = search (rules, the_lemmas)

-- ---- ElseBlock

pub else_block_gathers : (x : ElseBlock)
    → atoms_of_else_block x
    ≡ gather_else_block
    (record {
      else_ = (out-ElseBlock x).else_;
      block = map atoms_of_block_item (out-ElseBlock x).block;
    })
unfolding atoms_of_else_block atoms_of_block_item
else_block_gathers x = search (rules, the_lemmas)

-- ---- NextGenerator

pub next_generator_gathers : (x : NextGenerator)
    → atoms_of_next_generator x
    ≡ gather_next_generator
    (record {
      comma = (out-NextGenerator x).comma;
      generator = atoms_of_generator (out-NextGenerator x).generator;
    })
unfolding atoms_of_next_generator atoms_of_generator
next_generator_gathers x = search (rules, the_lemmas)

-- ---- CaseClause

pub case_clause_gathers : (x : CaseClause)
    → atoms_of_case_clause x
    ≡ gather_case_clause
    (record {
      subject = atoms_of_flat (out-CaseClause x).subject;
      arrow = (out-CaseClause x).arrow;
      value = atoms_of_expr (out-CaseClause x).value;
      semicolon = (out-CaseClause x).semicolon;
    })
unfolding atoms_of_case_clause atoms_of_flat atoms_of_expr
case_clause_gathers x = search (rules, the_lemmas)

-- ---- TypeClause

pub type_clause_gathers : (x : TypeClause)
    → atoms_of_type_clause x
    ≡ gather_type_clause
    (record {
      ty = (out-TypeClause x).ty;
      arrow = (out-TypeClause x).arrow;
      value = atoms_of_expr (out-TypeClause x).value;
      semicolon = (out-TypeClause x).semicolon;
    })
unfolding atoms_of_type_clause atoms_of_expr
type_clause_gathers x = search (rules, the_lemmas)

-- ---- ElseClause

pub else_clause_gathers : (x : ElseClause)
    → atoms_of_else_clause x
    ≡ gather_else_clause
    (record {
      semicolon = (out-ElseClause x).semicolon;
      else_ = (out-ElseClause x).else_;
      arrow = (out-ElseClause x).arrow;
      value = atoms_of_expr (out-ElseClause x).value;
    })
unfolding atoms_of_else_clause atoms_of_expr
else_clause_gathers x = search (rules, the_lemmas)

-- ---- Catch

pub catch_gathers : (x : Catch)
    → atoms_of_catch x
    ≡ gather_catch
    (record {
      catch = (out-Catch x).catch;
      name = (out-Catch x).name;
      clauses = map atoms_of_type_clause (out-Catch x).clauses;
    })
unfolding atoms_of_catch atoms_of_type_clause
catch_gathers x = search (rules, the_lemmas)

-- ---- Finally

pub finally_gathers : (x : Finally)
    → atoms_of_finally x
    ≡ gather_finally
    (record {
      finally = (out-Finally x).finally;
      block = map atoms_of_block_item (out-Finally x).block;
    })
unfolding atoms_of_finally atoms_of_block_item
finally_gathers x = search (rules, the_lemmas)

-- ---- BlockItem

pub block_item_gathers : (x : BlockItem)
    → atoms_of_block_item x
    ≡ gather_block_item
    (record {
      item = atoms_of_item (out-BlockItem x).item;
      semicolon = (out-BlockItem x).semicolon;
    })
unfolding atoms_of_block_item atoms_of_item
block_item_gathers x = search (rules, the_lemmas)

-- ---- Item

pub gathers-Variable : (variable : Variable)
    → atoms_of_item (an_item.Variable variable)
    ≡ gather_item (Item-F.Variable (atoms_of_variable variable))
unfolding atoms_of_item atoms_of_variable
gathers-Variable variable = search (rules, the_lemmas)

pub gathers-Names : (left : Spot) (first : Name) (others : List NextName) (right colon : Spot)
    (ty : TypeTree) (equals : Spot) (value : Expr)
    → atoms_of_item (an_item.Names left first others right colon ty equals value)
    ≡ gather_item (Item-F.Names left first others right colon ty equals (atoms_of_expr value))
unfolding atoms_of_item atoms_of_expr
gathers-Names left first others right colon ty equals value = search (rules, the_lemmas)

pub gathers-Expr : (expr : Expr)
    → atoms_of_item (an_item.Expr expr) ≡ gather_item (Item-F.Expr (atoms_of_expr expr))
unfolding atoms_of_item atoms_of_expr
gathers-Expr expr = search (rules, the_lemmas)

-- ---- Variable

pub variable_gathers : (x : Variable)
    → atoms_of_variable x
    ≡ gather_variable
    (record {
      var = (out-Variable x).var;
      name = (out-Variable x).name;
      colon = (out-Variable x).colon;
      ty = (out-Variable x).ty;
      sign = (out-Variable x).sign;
      value = atoms_of_expr (out-Variable x).value;
    })
unfolding atoms_of_variable atoms_of_expr
variable_gathers x = search (rules, the_lemmas)
