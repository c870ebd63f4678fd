-- The forms that stand in each tree, by its variants.
use Rattle.std.proofs.Common.{◌≡◌, ℕ, List, Option, rules}
use Rattle.fort_form_meaning.specs.Source.{Source}
use Rattle.fort_ops.specs.declared.op.Op.{Op}
use Rattle.fort_tree.specs.declared.grouped.Grouped.{Grouped, out-Grouped}
use Rattle.fort_tree.specs.declared.grouped.Grouped.{the_lemmas as grouped_lemmas}
use Rattle.fort_tree.specs.declared.grouped.Grouped as a_grouping
use Rattle.fort_tree.specs.declared.grouped.Grouped.TheOpen.{Grouped-F}
use Rattle.fort_form_tasks.specs.Tasks.{group_at, atom_at, delimited_at, expr_at, head_at, item_at, postfix_at, source_at}
use Rattle.fort_tree.specs.declared.declarations.Parameters.{Parameters}
use Rattle.fort_tree.specs.declared.declarations.Variable.{Variable}
use Rattle.fort_tree.specs.declared.delimited.Also.{Also}
use Rattle.fort_tree.specs.declared.delimited.BlockItem.{BlockItem}
use Rattle.fort_tree.specs.declared.delimited.CaseClause.{CaseClause}
use Rattle.fort_tree.specs.declared.delimited.Catch.{Catch}
use Rattle.fort_tree.specs.declared.delimited.Delimited.{Delimited, out-Delimited, the_lemmas}
use Rattle.fort_tree.specs.declared.delimited.Delimited.TheOpen.{Atom-F, Delimited-F, Expr-F, Generator-F, Head-F, Item-F, Postfix-F}
use Rattle.fort_tree.specs.declared.delimited.Elif.{Elif}
use Rattle.fort_tree.specs.declared.delimited.ElseBlock.{ElseBlock}
use Rattle.fort_tree.specs.declared.delimited.ElseClause.{ElseClause}
use Rattle.fort_tree.specs.declared.delimited.Finally.{Finally}
use Rattle.fort_tree.specs.declared.delimited.NextGenerator.{NextGenerator}
use Rattle.fort_tree.specs.declared.delimited.TypeClause.{TypeClause}
use Rattle.fort_tree.specs.declared.expr.AssignSign.{AssignSign}
use Rattle.fort_tree.specs.declared.expr.Atom.{Atom, out-Atom}
use Rattle.fort_tree.specs.declared.expr.Big.{Big}
use Rattle.fort_tree.specs.declared.expr.Expr.{Expr, out-Expr}
use Rattle.fort_tree.specs.declared.expr.ExprList.{ExprList}
use Rattle.fort_tree.specs.declared.expr.FillSpots.{FillSpots}
use Rattle.fort_tree.specs.declared.expr.Flat.{Flat}
use Rattle.fort_tree.specs.declared.expr.Generator.{Generator, out-Generator}
use Rattle.fort_tree.specs.declared.expr.Head.{Head, out-Head}
use Rattle.fort_tree.specs.declared.expr.Postfix.{out-Postfix}
use Rattle.fort_tree.specs.declared.spot.Name.{Name}
use Rattle.fort_tree.specs.declared.spot.NextName.{NextName}
use Rattle.fort_tree.specs.declared.spot.Spot.{Spot}
use Rattle.fort_tree.specs.declared.types.TypeTree.{TypeTree}
use Rattle.fort_tree.specs.declared.delimited.Delimited.TheVariants as a_delimited
use Rattle.fort_tree.specs.declared.delimited.Item.TheVariants as an_item
use Rattle.fort_tree.specs.declared.expr.Atom.TheVariants as an_atom
use Rattle.fort_tree.specs.declared.expr.Expr.TheVariants as an_expr
use Rattle.fort_tree.specs.declared.expr.Generator.TheVariants as a_generator
use Rattle.fort_tree.specs.declared.expr.Head.TheVariants as a_head
use Rattle.fort_tree.specs.declared.expr.Postfix.TheVariants as a_postfix
use Rattle.fort_tree.specs.declared.delimited.Item.{out-Item}

pub in-Flat : (k : Source) (flat : Flat)
    → expr_at k (out-Expr (an_expr.Flat flat)) ≡ expr_at k (Expr-F.Flat flat)
in-Flat k flat = search (rules, the_lemmas)

pub in-Assign : (k : Source) (target : Flat) (sign : AssignSign) (head : Option Head) (value : Flat)
    → expr_at k (out-Expr (an_expr.Assign target sign head value))
    ≡ expr_at k (Expr-F.Assign target sign head value)
in-Assign k target sign head value = search (rules, the_lemmas)

pub in-Open : (k : Source) (head : Head) (body : Flat)
    → expr_at k (out-Expr (an_expr.Open head body)) ≡ expr_at k (Expr-F.Open head body)
in-Open k head body = search (rules, the_lemmas)

pub in-OpenAssign : (k : Source) (head : Head) (target : Flat) (sign : AssignSign) (value : Flat)
    → expr_at k (out-Expr (an_expr.OpenAssign head target sign value))
    ≡ expr_at k (Expr-F.OpenAssign head target sign value)
in-OpenAssign k head target sign value = search (rules, the_lemmas)

pub in-Atomic : (k : Source) (s : Spot)
    → head_at k (out-Head (a_head.Atomic s)) ≡ head_at k (Head-F.Atomic s)
in-Atomic k s = search (rules, the_lemmas)

pub in-Tryatomic : (k : Source) (s : Spot)
    → head_at k (out-Head (a_head.Tryatomic s)) ≡ head_at k (Head-F.Tryatomic s)
in-Tryatomic k s = search (rules, the_lemmas)

pub in-Throw : (k : Source) (s : Spot)
    → head_at k (out-Head (a_head.Throw s)) ≡ head_at k (Head-F.Throw s)
in-Throw k s = search (rules, the_lemmas)

pub in-Spawn : (k : Source) (s : Spot)
    → head_at k (out-Head (a_head.Spawn s)) ≡ head_at k (Head-F.Spawn s)
in-Spawn k s = search (rules, the_lemmas)

pub in-Fn : (k : Source) (fn_ left : Spot) (parameters : Option Parameters) (right arrow : Spot)
    → head_at k (out-Head (a_head.Fn fn_ left parameters right arrow))
    ≡ head_at k (Head-F.Fn fn_ left parameters right arrow)
in-Fn k fn_ left parameters right arrow = search (rules, the_lemmas)

pub in-Big : (k : Source) (big : Big) (left : Spot) (generator : Generator) (right : Spot)
    → head_at k (out-Head (a_head.Big big left generator right))
    ≡ head_at k (Head-F.Big big left generator right)
in-Big k big left generator right = search (rules, the_lemmas)

pub in-Parallel : (k : Source) (name : Name) (arrow : Spot) (source : Flat)
    → source_at k (out-Generator (a_generator.Parallel name arrow source))
    ≡ source_at k (Generator-F.Parallel name arrow source)
in-Parallel k name arrow source = search (rules, the_lemmas)

pub in-Sequential : (k : Source) (name : Name) (arrow seq left : Spot) (source : Flat)
    (right : Spot)
    → source_at k (out-Generator (a_generator.Sequential name arrow seq left source right))
    ≡ source_at k (Generator-F.Sequential name arrow seq left source right)
in-Sequential k name arrow seq left source right = search (rules, the_lemmas)

pub in-Subscript : (k : Source) (left : Spot) (index : Expr) (right : Spot)
    → postfix_at k (out-Postfix (a_postfix.Subscript left index right))
    ≡ postfix_at k (Postfix-F.Subscript left index right)
in-Subscript k left index right = search (rules, the_lemmas)

pub in-Power : (k : Source) (power : Spot) (exponent : Atom)
    → postfix_at k (out-Postfix (a_postfix.Power power exponent))
    ≡ postfix_at k (Postfix-F.Power power exponent)
in-Power k power exponent = search (rules, the_lemmas)

pub in-Field : (k : Source) (dot : Spot) (name : Name)
    → postfix_at k (out-Postfix (a_postfix.Field dot name))
    ≡ postfix_at k (Postfix-F.Field dot name)
in-Field k dot name = search (rules, the_lemmas)

pub in-Call : (k : Source) (dot : Spot) (name : Name) (left : Spot) (arguments : Option ExprList)
    (right : Spot)
    → postfix_at k (out-Postfix (a_postfix.Call dot name left arguments right))
    ≡ postfix_at k (Postfix-F.Call dot name left arguments right)
in-Call k dot name left arguments right = search (rules, the_lemmas)

pub in-Name : (k : Source) (name : Name)
    → atom_at k (out-Atom (an_atom.Name name)) ≡ atom_at k (Atom-F.Name name)
in-Name k name = search (rules, the_lemmas)

pub in-Number : (k : Source) (value : ℕ) (s : Spot)
    → atom_at k (out-Atom (an_atom.Number value s)) ≡ atom_at k (Atom-F.Number value s)
in-Number k value s = search (rules, the_lemmas)

pub in-Text : (k : Source) (text : ℕ) (s : Spot)
    → atom_at k (out-Atom (an_atom.Text text s)) ≡ atom_at k (Atom-F.Text text s)
in-Text k text s = search (rules, the_lemmas)

pub in-True : (k : Source) (s : Spot)
    → atom_at k (out-Atom (an_atom.True s)) ≡ atom_at k (Atom-F.True s)
in-True k s = search (rules, the_lemmas)

pub in-False : (k : Source) (s : Spot)
    → atom_at k (out-Atom (an_atom.False s)) ≡ atom_at k (Atom-F.False s)
in-False k s = search (rules, the_lemmas)

pub in-Self_ : (k : Source) (s : Spot)
    → atom_at k (out-Atom (an_atom.Self_ s)) ≡ atom_at k (Atom-F.Self_ s)
in-Self_ k s = search (rules, the_lemmas)

pub in-Parens : (k : Source) (left : Spot) (contents : Option ExprList) (right : Spot)
    → atom_at k (out-Atom (an_atom.Parens left contents right))
    ≡ atom_at k (Atom-F.Parens left contents right)
in-Parens k left contents right = search (rules, the_lemmas)

pub in-Delimited : (k : Source) (form : Delimited)
    → atom_at k (out-Atom (an_atom.Delimited form)) ≡ atom_at k (Atom-F.Delimited form)
in-Delimited k form = search (rules, the_lemmas)

pub in-ArrayFill : (k : Source) (spots : FillSpots) (element : TypeTree) (size value : Expr)
    → atom_at k (out-Atom (an_atom.ArrayFill spots element size value))
    ≡ atom_at k (Atom-F.ArrayFill spots element size value)
in-ArrayFill k spots element size value = search (rules, the_lemmas)

pub in-Do : (k : Source) (do_ : Spot) (block : List BlockItem) (others : List Also) (end : Spot)
    → delimited_at k (out-Delimited (a_delimited.Do do_ block others end))
    ≡ delimited_at k (Delimited-F.Do do_ block others end)
in-Do k do_ block others end = search (rules, the_lemmas)

pub in-If : (k : Source) (if_ : Spot) (condition : Flat) (then : Spot) (block : List BlockItem)
    (elifs : List Elif) (otherwise : Option ElseBlock) (end : Spot)
    → delimited_at k (out-Delimited (a_delimited.If if_ condition then block elifs otherwise end))
    ≡ delimited_at k (Delimited-F.If if_ condition then block elifs otherwise end)
in-If k if_ condition then block elifs otherwise end = search (rules, the_lemmas)

pub in-While : (k : Source) (while_ : Spot) (condition : Flat) (do_ : Spot) (block : List BlockItem)
    (end : Spot)
    → delimited_at k (out-Delimited (a_delimited.While while_ condition do_ block end))
    ≡ delimited_at k (Delimited-F.While while_ condition do_ block end)
in-While k while_ condition do_ block end = search (rules, the_lemmas)

pub in-For : (k : Source) (for_ : Spot) (generator : Generator) (others : List NextGenerator)
    (do_ : Spot) (block : List BlockItem) (end : Spot)
    → delimited_at k (out-Delimited (a_delimited.For for_ generator others do_ block end))
    ≡ delimited_at k (Delimited-F.For for_ generator others do_ block end)
in-For k for_ generator others do_ block end = search (rules, the_lemmas)

pub in-Case : (k : Source) (case : Spot) (subject : Flat) (of : Spot) (clauses : List CaseClause)
    (otherwise : Option ElseClause) (end : Spot)
    → delimited_at k (out-Delimited (a_delimited.Case case subject of clauses otherwise end))
    ≡ delimited_at k (Delimited-F.Case case subject of clauses otherwise end)
in-Case k case subject of clauses otherwise end = search (rules, the_lemmas)

pub in-Typecase : (k : Source) (typecase : Spot) (name : Name) (equals : Spot) (subject : Flat)
    (of : Spot) (clauses : List TypeClause) (otherwise : Option ElseClause) (end : Spot)
    → delimited_at k
    (out-Delimited (a_delimited.Typecase typecase name equals subject of clauses otherwise end))
    ≡ delimited_at k (Delimited-F.Typecase typecase name equals subject of clauses otherwise end)
in-Typecase k typecase name equals subject of clauses otherwise end = search (rules, the_lemmas)

pub in-Try : (k : Source) (try_ : Spot) (block : List BlockItem) (catch : Option Catch)
    (finally : Option Finally) (end : Spot)
    → delimited_at k (out-Delimited (a_delimited.Try try_ block catch finally end))
    ≡ delimited_at k (Delimited-F.Try try_ block catch finally end)
in-Try k try_ block catch finally end = search (rules, the_lemmas)

pub in-Variable : (k : Source) (variable : Variable)
    → item_at k (out-Item (an_item.Variable variable)) ≡ item_at k (Item-F.Variable variable)
in-Variable k variable = search (rules, the_lemmas)

pub in-Names : (k : Source) (left : Spot) (first : Name) (others : List NextName)
    (right colon : Spot) (ty : TypeTree) (equals : Spot) (value : Expr)
    → item_at k (out-Item (an_item.Names left first others right colon ty equals value))
    ≡ item_at k (Item-F.Names left first others right colon ty equals value)
in-Names k left first others right colon ty equals value = search (rules, the_lemmas)

pub in-Expr : (k : Source) (expr : Expr)
    → item_at k (out-Item (an_item.Expr expr)) ≡ item_at k (Item-F.Expr expr)
in-Expr k expr = search (rules, the_lemmas)

pub in-Unit : (k : Source) (flat : Flat) (n : ℕ)
    → group_at k flat (out-Grouped (a_grouping.Unit n)) ≡ group_at k flat (Grouped-F.Unit n)
in-Unit k flat n = search (rules, grouped_lemmas)

pub in-Binary : (k : Source) (flat : Flat) (op : Op) (left right : Grouped)
    → group_at k flat (out-Grouped (a_grouping.Binary op left right))
    ≡ group_at k flat (Grouped-F.Binary op left right)
in-Binary k flat op left right = search (rules, grouped_lemmas)

pub in-Chain : (k : Source) (flat : Flat) (ops : List Op) (parts : List Grouped)
    → group_at k flat (out-Grouped (a_grouping.Chain ops parts))
    ≡ group_at k flat (Grouped-F.Chain ops parts)
in-Chain k flat ops parts = search (rules, grouped_lemmas)

pub in-Juxt : (k : Source) (flat : Flat) (units : List ℕ)
    → group_at k flat (out-Grouped (a_grouping.Juxt units)) ≡ group_at k flat (Grouped-F.Juxt units)
in-Juxt k flat units = search (rules, grouped_lemmas)
