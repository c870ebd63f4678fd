-- Where the form of an atom, of a form that ends with `end`, of a run and of a unit begins.
use Rattle.std.proofs.Common.{◌≡◌, ℕ, List, Option, Some, None, ap, ◌∙◌}
use Rattle.std.specs.Prelude.{option_map}
use Rattle.fort_tree.specs.declared.delimited.Also.{Also}
use Rattle.fort_tree.specs.declared.delimited.BlockItem.{BlockItem}
use Rattle.fort_tree.specs.declared.delimited.CaseClause.{CaseClause}
use Rattle.fort_tree.specs.declared.delimited.Catch.{Catch}
use Rattle.fort_tree.specs.declared.delimited.Delimited.{Delimited}
use Rattle.fort_tree.specs.declared.delimited.Delimited.TheVariants as a_delimited
use Rattle.fort_tree.specs.declared.delimited.Elif.{Elif}
use Rattle.fort_tree.specs.declared.delimited.ElseBlock.{ElseBlock}
use Rattle.fort_tree.specs.declared.delimited.ElseClause.{ElseClause}
use Rattle.fort_tree.specs.declared.delimited.Finally.{Finally}
use Rattle.fort_tree.specs.declared.delimited.NextGenerator.{NextGenerator}
use Rattle.fort_tree.specs.declared.delimited.TypeClause.{TypeClause}
use Rattle.fort_tree.specs.declared.expr.Atom.TheVariants as an_atom
use Rattle.fort_tree.specs.declared.expr.Expr.{Expr}
use Rattle.fort_tree.specs.declared.expr.ExprList.{ExprList}
use Rattle.fort_tree.specs.declared.expr.FillSpots.{FillSpots}
use Rattle.fort_tree.specs.declared.expr.Flat.{Flat}
use Rattle.fort_tree.specs.declared.expr.Generator.{Generator}
use Rattle.fort_tree.specs.declared.expr.Operand.{Operand, out-Operand}
use Rattle.fort_tree.specs.declared.expr.Prefix.{Prefix}
use Rattle.fort_tree.specs.declared.expr.Prefix.TheVariants as a_prefix
use Rattle.fort_tree.specs.declared.expr.Run.{Run, out-Run}
use Rattle.fort_tree.specs.declared.spot.Name.{Name}
use Rattle.fort_tree.specs.declared.spot.Spot.{Spot}
use Rattle.fort_tree.specs.declared.types.TypeTree.{TypeTree}
use Rattle.fort_form_meaning.specs.Source.{Source}
use Rattle.fort_form_meaning.specs.Formed.{formed_atom, formed_delimited, formed_expr_list, formed_operand, formed_run}
use Rattle.fort_form_meaning.specs.Forming.{prefixed}
use Rattle.fort_form_meaning.specs.Places.{place_of}
use Rattle.fort_form_meaning.proofs.FormsBlocks.{forms-Do, forms-If, forms-While, forms-For, forms-Case, forms-Typecase, forms-Try}
use Rattle.fort_form_meaning.proofs.FormsFlats.{forms-Name, forms-Number, forms-Text, forms-True, forms-False, forms-Self_, forms-Parens, forms-Delimited, forms-ArrayFill, operand_forms, run_forms}
use Rattle.fort_form_walk.proofs.FormPlaces.{place-Name, place-Number, place-Text, place-Truth, place-Receiver, place-Operator, place-Fill, place-Do, place-If, place-While, place-For, place-Case, place-Typecase, place-Try, place_of_run, place_of_parentheses}

-- ---- atoms

pub name_begins : (k : Source) (name : Name)
    → place_of (formed_atom k (an_atom.Name name)) ≡ name.spot.place
name_begins k name = ap place_of (forms-Name k name) ∙ place-Name _ _

pub number_begins : (k : Source) (value : ℕ) (s : Spot)
    → place_of (formed_atom k (an_atom.Number value s)) ≡ s.place
number_begins k value s = ap place_of (forms-Number k value s) ∙ place-Number _ _

pub text_begins : (k : Source) (text : ℕ) (s : Spot)
    → place_of (formed_atom k (an_atom.Text text s)) ≡ s.place
text_begins k text s = ap place_of (forms-Text k text s) ∙ place-Text _ _

pub true_begins : (k : Source) (s : Spot) → place_of (formed_atom k (an_atom.True s)) ≡ s.place
true_begins k s = ap place_of (forms-True k s) ∙ place-Truth _ _

pub false_begins : (k : Source) (s : Spot) → place_of (formed_atom k (an_atom.False s)) ≡ s.place
false_begins k s = ap place_of (forms-False k s) ∙ place-Truth _ _

pub self_begins : (k : Source) (s : Spot) → place_of (formed_atom k (an_atom.Self_ s)) ≡ s.place
self_begins k s = ap place_of (forms-Self_ k s) ∙ place-Receiver _

pub parentheses_begin : (k : Source) (left : Spot) (contents : Option ExprList) (right : Spot)
    → place_of (formed_atom k (an_atom.Parens left contents right)) ≡ left.place
parentheses_begin k left contents right =
    ap place_of (forms-Parens k left contents right)
    ∙ place_of_parentheses left.place (option_map (formed_expr_list k) contents)

pub fill_begins : (k : Source) (spots : FillSpots) (element : TypeTree) (size value : Expr)
    → place_of (formed_atom k (an_atom.ArrayFill spots element size value)) ≡ spots.array.place
fill_begins k spots element size value =
    ap place_of (forms-ArrayFill k spots element size value) ∙ place-Fill _ _ _ _

pub form_begins : (k : Source) (form : Delimited)
    → place_of (formed_atom k (an_atom.Delimited form)) ≡ place_of (formed_delimited k form)
form_begins k form = ap place_of (forms-Delimited k form)

pub ruleset atom_places = (
  name_begins,
  number_begins,
  text_begins,
  true_begins,
  false_begins,
  self_begins,
  parentheses_begin,
  fill_begins,
  form_begins,
)

-- ---- forms that end with `end`

pub do_begins : (k : Source) (do_ : Spot) (block : List BlockItem) (others : List Also) (end : Spot)
    → place_of (formed_delimited k (a_delimited.Do do_ block others end)) ≡ do_.place
do_begins k do_ block others end = ap place_of (forms-Do k do_ block others end) ∙ place-Do _ _

pub if_begins : (k : Source) (if_ : Spot) (condition : Flat) (then : Spot) (block : List BlockItem)
    (elifs : List Elif) (otherwise : Option ElseBlock) (end : Spot)
    → place_of (formed_delimited k (a_delimited.If if_ condition then block elifs otherwise end))
    ≡ if_.place
if_begins k if_ condition
    then block elifs otherwise end =
    ap place_of (forms-If k if_ condition then block elifs otherwise end) ∙ place-If _ _ _

pub while_begins : (k : Source) (while_ : Spot) (condition : Flat) (do_ : Spot)
    (block : List BlockItem) (end : Spot)
    → place_of (formed_delimited k (a_delimited.While while_ condition do_ block end))
    ≡ while_.place
while_begins k while_ condition do_ block end =
    ap place_of (forms-While k while_ condition do_ block end) ∙ place-While _ _ _

pub for_begins : (k : Source) (for_ : Spot) (generator : Generator) (others : List NextGenerator)
    (do_ : Spot) (block : List BlockItem) (end : Spot)
    → place_of (formed_delimited k (a_delimited.For for_ generator others do_ block end))
    ≡ for_.place
for_begins k for_ generator others do_ block end =
    ap place_of (forms-For k for_ generator others do_ block end) ∙ place-For _ _ _

pub case_begins : (k : Source) (case : Spot) (subject : Flat) (of : Spot)
    (clauses : List CaseClause) (otherwise : Option ElseClause) (end : Spot)
    → place_of (formed_delimited k (a_delimited.Case case subject of clauses otherwise end))
    ≡ case.place
case_begins k case subject of clauses otherwise end =
    ap place_of (forms-Case k case subject of clauses otherwise end) ∙ place-Case _ _ _ _

pub typecase_begins : (k : Source) (typecase : Spot) (name : Name) (equals : Spot) (subject : Flat)
    (of : Spot) (clauses : List TypeClause) (otherwise : Option ElseClause) (end : Spot)
    → place_of
    (formed_delimited k
    (a_delimited.Typecase typecase name equals subject of clauses otherwise end))
    ≡ typecase.place
typecase_begins k typecase name equals subject of clauses otherwise end =
    ap place_of (forms-Typecase k typecase name equals subject of clauses otherwise end)
    ∙ place-Typecase _ _ _ _ _ _

pub try_begins : (k : Source) (try_ : Spot) (block : List BlockItem) (catch : Option Catch)
    (finally : Option Finally) (end : Spot)
    → place_of (formed_delimited k (a_delimited.Try try_ block catch finally end)) ≡ try_.place
try_begins k try_ block catch finally end =
    ap place_of (forms-Try k try_ block catch finally end) ∙ place-Try _ _ _ _ _

pub ruleset form_places =
    (do_begins, if_begins, while_begins, for_begins, case_begins, typecase_begins, try_begins)

-- ---- runs and units

pub run_begins : (k : Source) (run : Run)
    → place_of (formed_run k run) ≡ place_of (formed_atom k (out-Run run).first)
run_begins k run = ap place_of (run_forms k run) ∙ place_of_run _ _

-- a unit begins with its prefix operator, or with its run where it has none
pub unit_begins : (k : Source) (operand : Operand) (p : Option Prefix)
    → (out-Operand operand).prefix ≡ p
    → place_of (formed_operand k operand)
    ≡ place_of (prefixed p (formed_run k (out-Operand operand).run))
unit_begins k operand p e =
    ap place_of (operand_forms k operand) ∙ ap (λ
    (q : Option Prefix). place_of (prefixed q (formed_run k (out-Operand operand).run))) e

pub plain_begins : (k : Source) (operand : Operand) → (out-Operand operand).prefix ≡ None
    → place_of (formed_operand k operand) ≡ place_of (formed_run k (out-Operand operand).run)
plain_begins k operand e = unit_begins k operand None e

pub minus_begins : (k : Source) (operand : Operand) (s : Spot)
    → (out-Operand operand).prefix ≡ Some (a_prefix.Minus s)
    → place_of (formed_operand k operand) ≡ s.place
minus_begins k operand s e =
    unit_begins k operand (Some (a_prefix.Minus s)) e ∙ place-Operator _ _ _

pub not_begins : (k : Source) (operand : Operand) (s : Spot)
    → (out-Operand operand).prefix ≡ Some (a_prefix.Not s)
    → place_of (formed_operand k operand) ≡ s.place
not_begins k operand s e = unit_begins k operand (Some (a_prefix.Not s)) e ∙ place-Operator _ _ _

pub ruleset unit_places = (plain_begins, minus_begins, not_begins)
