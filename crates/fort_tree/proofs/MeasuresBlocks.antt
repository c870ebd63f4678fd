-- The chapter "Grammar", limits: what each form that ends with `end`, and each part of one,
-- measures.
use Rattle.std.proofs.Common.{◌≡◌, List, Option, rules}
use Rattle.std.specs.Prelude.{map, option_map}
use Rattle.fort_tree.specs.declared.spot.Spot.{Spot}
use Rattle.fort_tree.specs.declared.spot.Name.{Name}
use Rattle.fort_tree.specs.declared.spot.NextName.{NextName}
use Rattle.fort_tree.specs.declared.declarations.InitialSign.{InitialSign}
use Rattle.fort_tree.specs.declared.types.TypeTree.{TypeTree}
use Rattle.fort_tree.specs.declared.delimited.Delimited.{the_lemmas}
use Rattle.fort_tree.specs.declared.delimited.Delimited.TheVariants as a_delimited
use Rattle.fort_tree.specs.declared.delimited.Item.{Item}
use Rattle.fort_tree.specs.declared.delimited.Item.TheVariants as an_item
use Rattle.fort_tree.specs.declared.expr.Expr.{Expr}
use Rattle.fort_tree.specs.declared.expr.Generator.{Generator}
use Rattle.fort_tree.specs.declared.declarations.Variable.{Variable, out-Variable, roll-Variable}
use Rattle.fort_tree.specs.declared.delimited.Also.{Also, out-Also, roll-Also}
use Rattle.fort_tree.specs.declared.delimited.BlockItem.{BlockItem, out-BlockItem, roll-BlockItem}
use Rattle.fort_tree.specs.declared.delimited.CaseClause.{CaseClause, out-CaseClause, roll-CaseClause}
use Rattle.fort_tree.specs.declared.delimited.Catch.{Catch, out-Catch, roll-Catch}
use Rattle.fort_tree.specs.declared.delimited.Elif.{Elif, out-Elif, roll-Elif}
use Rattle.fort_tree.specs.declared.delimited.ElseBlock.{ElseBlock, out-ElseBlock, roll-ElseBlock}
use Rattle.fort_tree.specs.declared.delimited.ElseClause.{ElseClause, out-ElseClause, roll-ElseClause}
use Rattle.fort_tree.specs.declared.delimited.Finally.{Finally, out-Finally, roll-Finally}
use Rattle.fort_tree.specs.declared.delimited.NextGenerator.{NextGenerator, out-NextGenerator, roll-NextGenerator}
use Rattle.fort_tree.specs.declared.delimited.TypeClause.{TypeClause, out-TypeClause, roll-TypeClause}
use Rattle.fort_tree.specs.declared.expr.Flat.{Flat}
use Rattle.fort_tree.specs.declared.delimited.Delimited.TheOpen.{Delimited-F, Item-F}
use Rattle.fort_tree.specs.Measuring.{measured_delimited, measured_item, measured_expr, measured_generator, measured_variable, measured_also, measured_block_item, measured_case_clause, measured_catch, measured_elif, measured_else_block, measured_else_clause, measured_finally, measured_next_generator, measured_type_clause, measured_flat}
use Rattle.fort_tree.specs.Measures.{measure_delimited, measure_also, measure_elif, measure_else_block, measure_next_generator, measure_case_clause, measure_type_clause, measure_else_clause, measure_catch, measure_finally, measure_block_item, measure_item, measure_variable}

-- ---- Delimited

pub measures-Do : (do_ : Spot) (block : List BlockItem) (others : List Also) (end : Spot)
    → measured_delimited (a_delimited.Do do_ block others end)
    ≡ measure_delimited
    (Delimited-F.Do do_ (map measured_block_item block) (map measured_also others) end)
unfolding measured_delimited measured_block_item measured_also
measures-Do do_ block others end = search (rules, the_lemmas)

pub measures-If : (if_ : Spot) (condition : Flat) (then : Spot) (block : List BlockItem)
    (elifs : List Elif) (otherwise : Option ElseBlock) (end : Spot)
    → measured_delimited (a_delimited.If if_ condition then block elifs otherwise end)
    ≡ measure_delimited (Delimited-F.If if_ (measured_flat condition)
    then (map measured_block_item block) (map measured_elif elifs)
    (option_map measured_else_block otherwise) end)
unfolding measured_delimited measured_flat measured_block_item measured_elif measured_else_block
measures-If if_ condition then block elifs otherwise end = search (rules, the_lemmas)

pub measures-While : (while_ : Spot) (condition : Flat) (do_ : Spot) (block : List BlockItem)
    (end : Spot)
    → measured_delimited (a_delimited.While while_ condition do_ block end)
    ≡ measure_delimited
    (Delimited-F.While while_ (measured_flat condition) do_ (map measured_block_item block) end)
unfolding measured_delimited measured_flat measured_block_item
measures-While while_ condition do_ block end = search (rules, the_lemmas)

pub measures-For : (for_ : Spot) (generator : Generator) (others : List NextGenerator) (do_ : Spot)
    (block : List BlockItem) (end : Spot)
    → measured_delimited (a_delimited.For for_ generator others do_ block end)
    ≡ measure_delimited
    (Delimited-F.For for_ (measured_generator generator) (map measured_next_generator others) do_
    (map measured_block_item block) end)
unfolding measured_delimited measured_generator measured_next_generator measured_block_item
measures-For for_ generator others do_ block end = search (rules, the_lemmas)

pub measures-Case : (case : Spot) (subject : Flat) (of : Spot) (clauses : List CaseClause)
    (otherwise : Option ElseClause) (end : Spot)
    → measured_delimited (a_delimited.Case case subject of clauses otherwise end)
    ≡ measure_delimited
    (Delimited-F.Case case (measured_flat subject) of (map measured_case_clause clauses)
    (option_map measured_else_clause otherwise) end)
unfolding measured_delimited measured_flat measured_case_clause measured_else_clause
measures-Case case subject of clauses otherwise end = search (rules, the_lemmas)

pub measures-Typecase : (typecase : Spot) (name : Name) (equals : Spot) (subject : Flat) (of : Spot)
    (clauses : List TypeClause) (otherwise : Option ElseClause) (end : Spot)
    → measured_delimited
    (a_delimited.Typecase typecase name equals subject of clauses otherwise end)
    ≡ measure_delimited
    (Delimited-F.Typecase typecase name equals (measured_flat subject) of
    (map measured_type_clause clauses) (option_map measured_else_clause otherwise) end)
unfolding measured_delimited measured_flat measured_type_clause measured_else_clause
measures-Typecase typecase name equals subject of clauses otherwise end = search (rules, the_lemmas)

pub measures-Try : (try_ : Spot) (block : List BlockItem) (catch : Option Catch)
    (finally : Option Finally) (end : Spot)
    → measured_delimited (a_delimited.Try try_ block catch finally end)
    ≡ measure_delimited
    (Delimited-F.Try try_ (map measured_block_item block) (option_map measured_catch catch)
    (option_map measured_finally finally) end)
unfolding measured_delimited measured_block_item measured_catch measured_finally
measures-Try try_ block catch finally end = search (rules, the_lemmas)

-- ---- Also

pub measures_also : (also do_ : Spot) (block : List BlockItem)
    → measured_also (roll-Also (record { also = also; do_ = do_; block = block }))
    ≡ measure_also (record { also = also; do_ = do_; block = map measured_block_item block })
unfolding measured_also measured_block_item
measures_also also do_ block = search (rules, the_lemmas)

pub also_measures : (x : Also)
    → measured_also x
    ≡ measure_also
    (record {
      also = (out-Also x).also;
      do_ = (out-Also x).do_;
      block = map measured_block_item (out-Also x).block;
    })
unfolding measured_also measured_block_item
also_measures x = search (rules, the_lemmas)

-- ---- Elif

pub measures_elif : (elif : Spot) (condition : Flat) (then : Spot) (block : List BlockItem)
    → measured_elif
    (roll-Elif (record { elif = elif; condition = condition; then = then; block = block }))
    ≡ measure_elif
    (record {
      elif = elif;
      condition = measured_flat condition;
      then = then;
      block = map measured_block_item block;
    })
unfolding measured_elif measured_flat measured_block_item
measures_elif elif condition then block = search (rules, the_lemmas)

pub elif_measures : (x : Elif)
    → measured_elif x
    ≡ measure_elif
    (record {
      elif = (out-Elif x).elif;
      condition = measured_flat (out-Elif x).condition;
      then = (out-Elif x).then;
      block = map measured_block_item (out-Elif x).block;
    })
unfolding measured_elif measured_flat measured_block_item
elif_measures x = search (rules, the_lemmas)

-- ---- ElseBlock

pub measures_else_block : (else_ : Spot) (block : List BlockItem)
    → measured_else_block (roll-ElseBlock (record { else_ = else_; block = block }))
    ≡ measure_else_block (record { else_ = else_; block = map measured_block_item block })
unfolding measured_else_block measured_block_item
measures_else_block else_ block = search (rules, the_lemmas)

pub else_block_measures : (x : ElseBlock)
    → measured_else_block x
    ≡ measure_else_block
    (record {
      else_ = (out-ElseBlock x).else_;
      block = map measured_block_item (out-ElseBlock x).block;
    })
unfolding measured_else_block measured_block_item
else_block_measures x = search (rules, the_lemmas)

-- ---- NextGenerator

pub measures_next_generator : (comma : Spot) (generator : Generator)
    → measured_next_generator (roll-NextGenerator (record { comma = comma; generator = generator }))
    ≡ measure_next_generator (record { comma = comma; generator = measured_generator generator })
unfolding measured_next_generator measured_generator
measures_next_generator comma generator = search (rules, the_lemmas)

pub next_generator_measures : (x : NextGenerator)
    → measured_next_generator x
    ≡ measure_next_generator
    (record {
      comma = (out-NextGenerator x).comma;
      generator = measured_generator (out-NextGenerator x).generator;
    })
unfolding measured_next_generator measured_generator
next_generator_measures x = search (rules, the_lemmas)

-- ---- CaseClause

pub measures_case_clause : (subject : Flat) (arrow : Spot) (value : Expr) (semicolon : Option Spot)
    → measured_case_clause
    (roll-CaseClause
    (record { subject = subject; arrow = arrow; value = value; semicolon = semicolon }))
    ≡ measure_case_clause
    (record {
      subject = measured_flat subject;
      arrow = arrow;
      value = measured_expr value;
      semicolon = semicolon;
    })
unfolding measured_case_clause measured_flat measured_expr
measures_case_clause subject arrow value semicolon = search (rules, the_lemmas)

pub case_clause_measures : (x : CaseClause)
    → measured_case_clause x
    ≡ measure_case_clause
    (record {
      subject = measured_flat (out-CaseClause x).subject;
      arrow = (out-CaseClause x).arrow;
      value = measured_expr (out-CaseClause x).value;
      semicolon = (out-CaseClause x).semicolon;
    })
unfolding measured_case_clause measured_flat measured_expr
case_clause_measures x = search (rules, the_lemmas)

-- ---- TypeClause

pub measures_type_clause : (ty : TypeTree) (arrow : Spot) (value : Expr) (semicolon : Option Spot)
    → measured_type_clause
    (roll-TypeClause (record { ty = ty; arrow = arrow; value = value; semicolon = semicolon }))
    ≡ measure_type_clause
    (record { ty = ty; arrow = arrow; value = measured_expr value; semicolon = semicolon })
unfolding measured_type_clause measured_expr
measures_type_clause ty arrow value semicolon = search (rules, the_lemmas)

pub type_clause_measures : (x : TypeClause)
    → measured_type_clause x
    ≡ measure_type_clause
    (record {
      ty = (out-TypeClause x).ty;
      arrow = (out-TypeClause x).arrow;
      value = measured_expr (out-TypeClause x).value;
      semicolon = (out-TypeClause x).semicolon;
    })
unfolding measured_type_clause measured_expr
type_clause_measures x = search (rules, the_lemmas)

-- ---- ElseClause

pub measures_else_clause : (semicolon : Option Spot) (else_ arrow : Spot) (value : Expr)
    → measured_else_clause
    (roll-ElseClause
    (record { semicolon = semicolon; else_ = else_; arrow = arrow; value = value }))
    ≡ measure_else_clause
    (record { semicolon = semicolon; else_ = else_; arrow = arrow; value = measured_expr value })
unfolding measured_else_clause measured_expr
measures_else_clause semicolon else_ arrow value = search (rules, the_lemmas)

pub else_clause_measures : (x : ElseClause)
    → measured_else_clause x
    ≡ measure_else_clause
    (record {
      semicolon = (out-ElseClause x).semicolon;
      else_ = (out-ElseClause x).else_;
      arrow = (out-ElseClause x).arrow;
      value = measured_expr (out-ElseClause x).value;
    })
unfolding measured_else_clause measured_expr
else_clause_measures x = search (rules, the_lemmas)

-- ---- Catch

pub measures_catch : (catch : Spot) (name : Name) (clauses : List TypeClause)
    → measured_catch (roll-Catch (record { catch = catch; name = name; clauses = clauses }))
    ≡ measure_catch
    (record { catch = catch; name = name; clauses = map measured_type_clause clauses })
unfolding measured_catch measured_type_clause
measures_catch catch name clauses = search (rules, the_lemmas)

pub catch_measures : (x : Catch)
    → measured_catch x
    ≡ measure_catch
    (record {
      catch = (out-Catch x).catch;
      name = (out-Catch x).name;
      clauses = map measured_type_clause (out-Catch x).clauses;
    })
unfolding measured_catch measured_type_clause
catch_measures x = search (rules, the_lemmas)

-- ---- Finally

pub measures_finally : (finally : Spot) (block : List BlockItem)
    → measured_finally (roll-Finally (record { finally = finally; block = block }))
    ≡ measure_finally (record { finally = finally; block = map measured_block_item block })
unfolding measured_finally measured_block_item
measures_finally finally block = search (rules, the_lemmas)

pub finally_measures : (x : Finally)
    → measured_finally x
    ≡ measure_finally
    (record {
      finally = (out-Finally x).finally;
      block = map measured_block_item (out-Finally x).block;
    })
unfolding measured_finally measured_block_item
finally_measures x = search (rules, the_lemmas)

-- ---- BlockItem

pub measures_block_item : (item : Item) (semicolon : Option Spot)
    → measured_block_item (roll-BlockItem (record { item = item; semicolon = semicolon }))
    ≡ measure_block_item (record { item = measured_item item; semicolon = semicolon })
unfolding measured_block_item measured_item
measures_block_item item semicolon = search (rules, the_lemmas)

pub block_item_measures : (x : BlockItem)
    → measured_block_item x
    ≡ measure_block_item
    (record {
      item = measured_item (out-BlockItem x).item;
      semicolon = (out-BlockItem x).semicolon;
    })
unfolding measured_block_item measured_item
block_item_measures x = search (rules, the_lemmas)

-- ---- Item

pub measures-Variable : (variable : Variable)
    → measured_item (an_item.Variable variable)
    ≡ measure_item (Item-F.Variable (measured_variable variable))
unfolding measured_item measured_variable
measures-Variable variable = search (rules, the_lemmas)

pub measures-Names : (left : Spot) (first : Name) (others : List NextName) (right colon : Spot)
    (ty : TypeTree) (equals : Spot) (value : Expr)
    → measured_item (an_item.Names left first others right colon ty equals value)
    ≡ measure_item (Item-F.Names left first others right colon ty equals (measured_expr value))
unfolding measured_item measured_expr
measures-Names left first others right colon ty equals value = search (rules, the_lemmas)

pub measures-Expr : (expr : Expr)
    → measured_item (an_item.Expr expr) ≡ measure_item (Item-F.Expr (measured_expr expr))
unfolding measured_item measured_expr
measures-Expr expr = search (rules, the_lemmas)

-- ---- Variable

pub measures_variable : (var : Option Spot) (name : Name) (colon : Spot) (ty : TypeTree)
    (sign : InitialSign) (value : Expr)
    → measured_variable
    (roll-Variable
    (record { var = var; name = name; colon = colon; ty = ty; sign = sign; value = value }))
    ≡ measure_variable
    (record {
      var = var;
      name = name;
      colon = colon;
      ty = ty;
      sign = sign;
      value = measured_expr value;
    })
unfolding measured_variable measured_expr
measures_variable var name colon ty sign value = search (rules, the_lemmas)

pub variable_measures : (x : Variable)
    → measured_variable x
    ≡ measure_variable
    (record {
      var = (out-Variable x).var;
      name = (out-Variable x).name;
      colon = (out-Variable x).colon;
      ty = (out-Variable x).ty;
      sign = (out-Variable x).sign;
      value = measured_expr (out-Variable x).value;
    })
unfolding measured_variable measured_expr
variable_measures x = search (rules, the_lemmas)
