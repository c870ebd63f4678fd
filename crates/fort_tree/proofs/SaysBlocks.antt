-- The chapter "Grammar": what each form that ends with `end`, and each part of one, says, as one
-- level of it.
use Rattle.std.proofs.Common.{◌≡◌, List, Option, rules}
use Rattle.std.specs.Prelude.{map, option_map}
use Rattle.fort_tree.specs.declared.spot.Spot.{Spot}
use Rattle.fort_tree.specs.declared.spot.Name.{Name}
use Rattle.fort_tree.specs.declared.spot.NextName.{NextName}
use Rattle.fort_tree.specs.declared.declarations.InitialSign.{InitialSign}
use Rattle.fort_tree.specs.declared.types.TypeTree.{TypeTree}
use Rattle.fort_tree.specs.declared.delimited.Delimited.{the_lemmas}
use Rattle.fort_tree.specs.declared.delimited.Delimited.TheVariants as a_delimited
use Rattle.fort_tree.specs.declared.delimited.Item.{Item}
use Rattle.fort_tree.specs.declared.delimited.Item.TheVariants as an_item
use Rattle.fort_tree.specs.declared.expr.Expr.{Expr}
use Rattle.fort_tree.specs.declared.expr.Generator.{Generator}
use Rattle.fort_tree.specs.declared.declarations.Variable.{Variable, out-Variable, roll-Variable}
use Rattle.fort_tree.specs.declared.delimited.Also.{Also, out-Also, roll-Also}
use Rattle.fort_tree.specs.declared.delimited.BlockItem.{BlockItem, out-BlockItem, roll-BlockItem}
use Rattle.fort_tree.specs.declared.delimited.CaseClause.{CaseClause, out-CaseClause, roll-CaseClause}
use Rattle.fort_tree.specs.declared.delimited.Catch.{Catch, out-Catch, roll-Catch}
use Rattle.fort_tree.specs.declared.delimited.Elif.{Elif, out-Elif, roll-Elif}
use Rattle.fort_tree.specs.declared.delimited.ElseBlock.{ElseBlock, out-ElseBlock, roll-ElseBlock}
use Rattle.fort_tree.specs.declared.delimited.ElseClause.{ElseClause, out-ElseClause, roll-ElseClause}
use Rattle.fort_tree.specs.declared.delimited.Finally.{Finally, out-Finally, roll-Finally}
use Rattle.fort_tree.specs.declared.delimited.NextGenerator.{NextGenerator, out-NextGenerator, roll-NextGenerator}
use Rattle.fort_tree.specs.declared.delimited.TypeClause.{TypeClause, out-TypeClause, roll-TypeClause}
use Rattle.fort_tree.specs.declared.expr.Flat.{Flat}
use Rattle.fort_tree.specs.declared.delimited.Delimited.TheOpen.{Delimited-F, Item-F}
use Rattle.fort_tree.specs.Yield.{said_delimited, said_item, said_expr, said_generator, said_variable, said_also, said_block_item, said_case_clause, said_catch, said_elif, said_else_block, said_else_clause, said_finally, said_next_generator, said_type_clause, said_flat}
use Rattle.fort_tree.specs.Blocks.{delimited_step, also_step, elif_step, else_block_step, next_generator_step, case_clause_step, type_clause_step, else_clause_step, catch_step, finally_step, block_item_step, item_step, variable_step}

-- ---- Delimited

pub says-Do : (do_ : Spot) (block : List BlockItem) (others : List Also) (end : Spot)
    → said_delimited (a_delimited.Do do_ block others end)
    ≡ delimited_step (Delimited-F.Do do_ (map said_block_item block) (map said_also others) end)
unfolding said_delimited said_block_item said_also
says-Do do_ block others end = search (rules, the_lemmas)

pub says-If : (if_ : Spot) (condition : Flat) (then : Spot) (block : List BlockItem)
    (elifs : List Elif) (otherwise : Option ElseBlock) (end : Spot)
    → said_delimited (a_delimited.If if_ condition then block elifs otherwise end)
    ≡ delimited_step (Delimited-F.If if_ (said_flat condition)
    then (map said_block_item block) (map said_elif elifs)
    (option_map said_else_block otherwise) end)
unfolding said_delimited said_flat said_block_item said_elif said_else_block
says-If if_ condition then block elifs otherwise end = search (rules, the_lemmas)

pub says-While : (while_ : Spot) (condition : Flat) (do_ : Spot) (block : List BlockItem)
    (end : Spot)
    → said_delimited (a_delimited.While while_ condition do_ block end)
    ≡ delimited_step
    (Delimited-F.While while_ (said_flat condition) do_ (map said_block_item block) end)
unfolding said_delimited said_flat said_block_item
says-While while_ condition do_ block end = search (rules, the_lemmas)

pub says-For : (for_ : Spot) (generator : Generator) (others : List NextGenerator) (do_ : Spot)
    (block : List BlockItem) (end : Spot)
    → said_delimited (a_delimited.For for_ generator others do_ block end)
    ≡ delimited_step
    (Delimited-F.For for_ (said_generator generator) (map said_next_generator others) do_
    (map said_block_item block) end)
unfolding said_delimited said_generator said_next_generator said_block_item
says-For for_ generator others do_ block end = search (rules, the_lemmas)

pub says-Case : (case : Spot) (subject : Flat) (of : Spot) (clauses : List CaseClause)
    (otherwise : Option ElseClause) (end : Spot)
    → said_delimited (a_delimited.Case case subject of clauses otherwise end)
    ≡ delimited_step
    (Delimited-F.Case case (said_flat subject) of (map said_case_clause clauses)
    (option_map said_else_clause otherwise) end)
unfolding said_delimited said_flat said_case_clause said_else_clause
says-Case case subject of clauses otherwise end = search (rules, the_lemmas)

pub says-Typecase : (typecase : Spot) (name : Name) (equals : Spot) (subject : Flat) (of : Spot)
    (clauses : List TypeClause) (otherwise : Option ElseClause) (end : Spot)
    → said_delimited (a_delimited.Typecase typecase name equals subject of clauses otherwise end)
    ≡ delimited_step
    (Delimited-F.Typecase typecase name equals (said_flat subject) of (map said_type_clause clauses)
    (option_map said_else_clause otherwise) end)
unfolding said_delimited said_flat said_type_clause said_else_clause
says-Typecase typecase name equals subject of clauses otherwise end = search (rules, the_lemmas)

pub says-Try : (try_ : Spot) (block : List BlockItem) (catch : Option Catch)
    (finally : Option Finally) (end : Spot)
    → said_delimited (a_delimited.Try try_ block catch finally end)
    ≡ delimited_step
    (Delimited-F.Try try_ (map said_block_item block) (option_map said_catch catch)
    (option_map said_finally finally) end)
unfolding said_delimited said_block_item said_catch said_finally
says-Try try_ block catch finally end = search (rules, the_lemmas)

-- ---- Also

pub says_also : (also do_ : Spot) (block : List BlockItem)
    → said_also (roll-Also (record { also = also; do_ = do_; block = block }))
    ≡ also_step (record { also = also; do_ = do_; block = map said_block_item block })
unfolding said_also said_block_item
says_also also do_ block = search (rules, the_lemmas)

pub also_says : (x : Also)
    → said_also x
    ≡ also_step
    (record {
      also = (out-Also x).also;
      do_ = (out-Also x).do_;
      block = map said_block_item (out-Also x).block;
    })
unfolding said_also said_block_item
also_says x = search (rules, the_lemmas)

-- ---- Elif

pub says_elif : (elif : Spot) (condition : Flat) (then : Spot) (block : List BlockItem)
    → said_elif
    (roll-Elif (record { elif = elif; condition = condition; then = then; block = block }))
    ≡ elif_step
    (record {
      elif = elif;
      condition = said_flat condition;
      then = then;
      block = map said_block_item block;
    })
unfolding said_elif said_flat said_block_item
says_elif elif condition then block = search (rules, the_lemmas)

pub elif_says : (x : Elif)
    → said_elif x
    ≡ elif_step
    (record {
      elif = (out-Elif x).elif;
      condition = said_flat (out-Elif x).condition;
      then = (out-Elif x).then;
      block = map said_block_item (out-Elif x).block;
    })
unfolding said_elif said_flat said_block_item
elif_says x = search (rules, the_lemmas)

-- ---- ElseBlock

pub says_else_block : (else_ : Spot) (block : List BlockItem)
    → said_else_block (roll-ElseBlock (record { else_ = else_; block = block }))
    ≡ else_block_step (record { else_ = else_; block = map said_block_item block })
unfolding said_else_block said_block_item
says_else_block else_ block = search (rules, the_lemmas)

pub else_block_says : (x : ElseBlock)
    → said_else_block x
    ≡ else_block_step
    (record {
      else_ = (out-ElseBlock x).else_;
      block = map said_block_item (out-ElseBlock x).block;
    })
unfolding said_else_block said_block_item
else_block_says x = search (rules, the_lemmas)

-- ---- NextGenerator

pub says_next_generator : (comma : Spot) (generator : Generator)
    → said_next_generator (roll-NextGenerator (record { comma = comma; generator = generator }))
    ≡ next_generator_step (record { comma = comma; generator = said_generator generator })
unfolding said_next_generator said_generator
says_next_generator comma generator = search (rules, the_lemmas)

pub next_generator_says : (x : NextGenerator)
    → said_next_generator x
    ≡ next_generator_step
    (record {
      comma = (out-NextGenerator x).comma;
      generator = said_generator (out-NextGenerator x).generator;
    })
unfolding said_next_generator said_generator
next_generator_says x = search (rules, the_lemmas)

-- ---- CaseClause

pub says_case_clause : (subject : Flat) (arrow : Spot) (value : Expr) (semicolon : Option Spot)
    → said_case_clause
    (roll-CaseClause
    (record { subject = subject; arrow = arrow; value = value; semicolon = semicolon }))
    ≡ case_clause_step
    (record {
      subject = said_flat subject;
      arrow = arrow;
      value = said_expr value;
      semicolon = semicolon;
    })
unfolding said_case_clause said_flat said_expr
says_case_clause subject arrow value semicolon = search (rules, the_lemmas)

pub case_clause_says : (x : CaseClause)
    → said_case_clause x
    ≡ case_clause_step
    (record {
      subject = said_flat (out-CaseClause x).subject;
      arrow = (out-CaseClause x).arrow;
      value = said_expr (out-CaseClause x).value;
      semicolon = (out-CaseClause x).semicolon;
    })
unfolding said_case_clause said_flat said_expr
case_clause_says x = search (rules, the_lemmas)

-- ---- TypeClause

pub says_type_clause : (ty : TypeTree) (arrow : Spot) (value : Expr) (semicolon : Option Spot)
    → said_type_clause
    (roll-TypeClause (record { ty = ty; arrow = arrow; value = value; semicolon = semicolon }))
    ≡ type_clause_step
    (record { ty = ty; arrow = arrow; value = said_expr value; semicolon = semicolon })
unfolding said_type_clause said_expr
says_type_clause ty arrow value semicolon = search (rules, the_lemmas)

pub type_clause_says : (x : TypeClause)
    → said_type_clause x
    ≡ type_clause_step
    (record {
      ty = (out-TypeClause x).ty;
      arrow = (out-TypeClause x).arrow;
      value = said_expr (out-TypeClause x).value;
      semicolon = (out-TypeClause x).semicolon;
    })
unfolding said_type_clause said_expr
type_clause_says x = search (rules, the_lemmas)

-- ---- ElseClause

pub says_else_clause : (semicolon : Option Spot) (else_ arrow : Spot) (value : Expr)
    → said_else_clause
    (roll-ElseClause
    (record { semicolon = semicolon; else_ = else_; arrow = arrow; value = value }))
    ≡ else_clause_step
    (record { semicolon = semicolon; else_ = else_; arrow = arrow; value = said_expr value })
unfolding said_else_clause said_expr
says_else_clause semicolon else_ arrow value = search (rules, the_lemmas)

pub else_clause_says : (x : ElseClause)
    → said_else_clause x
    ≡ else_clause_step
    (record {
      semicolon = (out-ElseClause x).semicolon;
      else_ = (out-ElseClause x).else_;
      arrow = (out-ElseClause x).arrow;
      value = said_expr (out-ElseClause x).value;
    })
unfolding said_else_clause said_expr
else_clause_says x = search (rules, the_lemmas)

-- ---- Catch

pub says_catch : (catch : Spot) (name : Name) (clauses : List TypeClause)
    → said_catch (roll-Catch (record { catch = catch; name = name; clauses = clauses }))
    ≡ catch_step (record { catch = catch; name = name; clauses = map said_type_clause clauses })
unfolding said_catch said_type_clause
says_catch catch name clauses = search (rules, the_lemmas)

pub catch_says : (x : Catch)
    → said_catch x
    ≡ catch_step
    (record {
      catch = (out-Catch x).catch;
      name = (out-Catch x).name;
      clauses = map said_type_clause (out-Catch x).clauses;
    })
unfolding said_catch said_type_clause
catch_says x = search (rules, the_lemmas)

-- ---- Finally

pub says_finally : (finally : Spot) (block : List BlockItem)
    → said_finally (roll-Finally (record { finally = finally; block = block }))
    ≡ finally_step (record { finally = finally; block = map said_block_item block })
unfolding said_finally said_block_item
says_finally finally block = search (rules, the_lemmas)

pub finally_says : (x : Finally)
    → said_finally x
    ≡ finally_step
    (record {
      finally = (out-Finally x).finally;
      block = map said_block_item (out-Finally x).block;
    })
unfolding said_finally said_block_item
finally_says x = search (rules, the_lemmas)

-- ---- BlockItem

pub says_block_item : (item : Item) (semicolon : Option Spot)
    → said_block_item (roll-BlockItem (record { item = item; semicolon = semicolon }))
    ≡ block_item_step (record { item = said_item item; semicolon = semicolon })
unfolding said_block_item said_item
says_block_item item semicolon = search (rules, the_lemmas)

pub block_item_says : (x : BlockItem)
    → said_block_item x
    ≡ block_item_step
    (record { item = said_item (out-BlockItem x).item; semicolon = (out-BlockItem x).semicolon })
unfolding said_block_item said_item
block_item_says x = search (rules, the_lemmas)

-- ---- Item

pub says-Variable : (variable : Variable)
    → said_item (an_item.Variable variable) ≡ item_step (Item-F.Variable (said_variable variable))
unfolding said_item said_variable
says-Variable variable = search (rules, the_lemmas)

pub says-Names : (left : Spot) (first : Name) (others : List NextName) (right colon : Spot)
    (ty : TypeTree) (equals : Spot) (value : Expr)
    → said_item (an_item.Names left first others right colon ty equals value)
    ≡ item_step (Item-F.Names left first others right colon ty equals (said_expr value))
unfolding said_item said_expr
says-Names left first others right colon ty equals value = search (rules, the_lemmas)

pub says-Expr : (expr : Expr)
    → said_item (an_item.Expr expr) ≡ item_step (Item-F.Expr (said_expr expr))
unfolding said_item said_expr
says-Expr expr = search (rules, the_lemmas)

-- ---- Variable

pub says_variable : (var : Option Spot) (name : Name) (colon : Spot) (ty : TypeTree)
    (sign : InitialSign) (value : Expr)
    → said_variable
    (roll-Variable
    (record { var = var; name = name; colon = colon; ty = ty; sign = sign; value = value }))
    ≡ variable_step
    (record {
      var = var;
      name = name;
      colon = colon;
      ty = ty;
      sign = sign;
      value = said_expr value;
    })
unfolding said_variable said_expr
says_variable var name colon ty sign value = search (rules, the_lemmas)

pub variable_says : (x : Variable)
    → said_variable x
    ≡ variable_step
    (record {
      var = (out-Variable x).var;
      name = (out-Variable x).name;
      colon = (out-Variable x).colon;
      ty = (out-Variable x).ty;
      sign = (out-Variable x).sign;
      value = said_expr (out-Variable x).value;
    })
unfolding said_variable said_expr
variable_says x = search (rules, the_lemmas)
