-- The forms of trees: each is of a shape that the grammar gives, and the types that are written in
-- it are those of the tree.
use Rattle.std.proofs.Common.{◌≡◌, true, false, List, [], ◌∷◌, ◌++◌, map, Option, Some, None, refl, sym, subst}
use Rattle.std.specs.List.{AllByRecursion, flat_map}
use Rattle.fort_base.specs.declared.refusal.Place.{Place}
use Rattle.fort_base.specs.declared.ty.Ty.{Ty}
use Rattle.fort_ops.specs.declared.op.Op.TheVariants as an_op
use Rattle.fort_tree.specs.declared.delimited.Delimited.{Delimited}
use Rattle.fort_tree.specs.declared.delimited.Item.{Item as ItemTree}
use Rattle.fort_tree.specs.declared.expr.Atom.{Atom}
use Rattle.fort_tree.specs.declared.expr.Expr.{Expr}
use Rattle.fort_tree.specs.declared.expr.FlatPart.{FlatPart}
use Rattle.fort_tree.specs.declared.expr.Generator.{Generator as GeneratorTree}
use Rattle.fort_tree.specs.declared.expr.Head.{Head}
use Rattle.fort_tree.specs.declared.expr.Postfix.{Postfix}
use Rattle.fort_tree.specs.declared.expr.RunPart.{RunPart}
use Rattle.fort_tree.specs.declared.declarations.Variable.{Variable}
use Rattle.fort_tree.specs.declared.delimited.Also.{Also}
use Rattle.fort_tree.specs.declared.delimited.BlockItem.{BlockItem}
use Rattle.fort_tree.specs.declared.delimited.CaseClause.{CaseClause}
use Rattle.fort_tree.specs.declared.delimited.Catch.{Catch}
use Rattle.fort_tree.specs.declared.delimited.Elif.{Elif}
use Rattle.fort_tree.specs.declared.delimited.ElseBlock.{ElseBlock}
use Rattle.fort_tree.specs.declared.delimited.ElseClause.{ElseClause}
use Rattle.fort_tree.specs.declared.delimited.Finally.{Finally}
use Rattle.fort_tree.specs.declared.delimited.NextGenerator.{NextGenerator}
use Rattle.fort_tree.specs.declared.delimited.TypeClause.{TypeClause}
use Rattle.fort_tree.specs.declared.expr.ExprList.{ExprList}
use Rattle.fort_tree.specs.declared.expr.Flat.{Flat}
use Rattle.fort_tree.specs.declared.expr.NextExpr.{NextExpr}
use Rattle.fort_tree.specs.declared.expr.Operand.{Operand}
use Rattle.fort_tree.specs.declared.expr.Run.{Run}
use Rattle.fort_tree.specs.declared.delimited.Delimited.TheOpen.{Delimited-F, Item-F, Atom-F, Expr-F, FlatPart-F, Generator-F, Head-F, Postfix-F, RunPart-F, Variable-F, Also-F, BlockItem-F, CaseClause-F, Catch-F, Elif-F, ElseBlock-F, ElseClause-F, Finally-F, NextGenerator-F, TypeClause-F, ExprList-F, Flat-F, NextExpr-F, Operand-F, Run-F}
use Rattle.fort_tree.specs.declared.delimited.Delimited.TheFolds.{map-Delimited, fold-roll-Delimited, map-Item, fold-roll-Item, map-Atom, fold-roll-Atom, map-Expr, fold-roll-Expr, map-FlatPart, fold-roll-FlatPart, map-Generator, fold-roll-Generator, map-Head, fold-roll-Head, map-Postfix, fold-roll-Postfix, map-RunPart, fold-roll-RunPart, map-Variable, fold-roll-Variable, map-Also, fold-roll-Also, map-BlockItem, fold-roll-BlockItem, map-CaseClause, fold-roll-CaseClause, map-Catch, fold-roll-Catch, map-Elif, fold-roll-Elif, map-ElseBlock, fold-roll-ElseBlock, map-ElseClause, fold-roll-ElseClause, map-Finally, fold-roll-Finally, map-NextGenerator, fold-roll-NextGenerator, map-TypeClause, fold-roll-TypeClause, map-ExprList, fold-roll-ExprList, map-Flat, fold-roll-Flat, map-NextExpr, fold-roll-NextExpr, map-Operand, fold-roll-Operand, map-Run, fold-roll-Run, ind-Expr}
use Rattle.fort_tree.specs.declared.delimited.Delimited.TheViews.{roll-Delimited, roll-Item, roll-Atom, roll-Expr, roll-FlatPart, roll-Generator, roll-Head, roll-Postfix, roll-RunPart, roll-Variable, roll-Also, roll-BlockItem, roll-CaseClause, roll-Catch, roll-Elif, roll-ElseBlock, roll-ElseClause, roll-Finally, roll-NextGenerator, roll-TypeClause, roll-ExprList, roll-Flat, roll-NextExpr, roll-Operand, roll-Run}
use Rattle.fort_tree.specs.declared.declarations.NextParameter.{NextParameter}
use Rattle.fort_tree.specs.declared.declarations.Parameters.{Parameters}
use Rattle.fort_tree.specs.declared.expr.Prefix.{Prefix}
use Rattle.fort_tree.specs.declared.expr.Prefix.TheVariants as a_prefix
use Rattle.fort_tree.specs.declared.spot.Name.{Name}
use Rattle.fort_tree.specs.declared.spot.Spot.{Spot}
use Rattle.fort_tree_type_names.specs.Mentioned.{Mentioned, all_mentioned}
use Rattle.fort_tree_type_names.specs.Mentioning.{mentioned_delimited, mentioned_item, mentioned_atom, mentioned_expr, mentioned_flat_part, mentioned_generator, mentioned_head, mentioned_postfix, mentioned_run_part, mentioned_variable, mentioned_also, mentioned_block_item, mentioned_case_clause, mentioned_catch, mentioned_elif, mentioned_else_block, mentioned_else_clause, mentioned_finally, mentioned_next_generator, mentioned_type_clause, mentioned_expr_list, mentioned_flat, mentioned_next_expr, mentioned_operand, mentioned_run}
use Rattle.fort_tree_type_names.specs.Mentions.{mentioned_type, mentioned_parameters, mention_delimited, mention_item, mention_atom, mention_expr, mention_flat_part, mention_generator, mention_head, mention_postfix, mention_run_part, mention_variable, mention_also, mention_block_item, mention_case_clause, mention_catch, mention_elif, mention_else_block, mention_else_clause, mention_finally, mention_next_generator, mention_type_clause, mention_expr_list, mention_flat, mention_next_expr, mention_operand, mention_run}
use Rattle.fort_form.specs.declared.form.Form.{Form}
use Rattle.fort_form.specs.declared.form.Form.TheVariants as a_form
use Rattle.fort_form.specs.declared.form.Form.TheViews.{roll-Branch}
use Rattle.fort_form.specs.declared.form.Branch.{Branch}
use Rattle.fort_form.specs.declared.form.Generator.{Generator as FormGenerator}
use Rattle.fort_form.specs.declared.form.Parameter.{Parameter}
use Rattle.fort_form.specs.declared.form.TypeBranch.{TypeBranch}
use Rattle.fort_form_meaning.specs.Levels.{Placed, Catching, Opening, Listed}
use Rattle.fort_form_meaning.specs.Places.{place_of}
use Rattle.fort_form_meaning.specs.Source.{Source}
use Rattle.fort_form_meaning.specs.Formed.{formed_delimited, formed_item, formed_atom, formed_expr, formed_flat_part, formed_generator, formed_head, formed_postfix, formed_run_part, formed_variable, formed_also, formed_block_item, formed_case_clause, formed_catch, formed_elif, formed_else_block, formed_else_clause, formed_finally, formed_next_generator, formed_type_clause, formed_expr_list, formed_flat, formed_next_expr, formed_operand, formed_run}
use Rattle.fort_form_meaning.specs.Forming.{form_delimited, form_item, form_atom, form_expr, form_flat_part, form_generator, form_head, form_postfix, form_run_part, form_variable, form_also, form_block_item, form_case_clause, form_catch, form_elif, form_else_block, form_else_clause, form_finally, form_next_generator, form_type_clause, form_expr_list, form_flat, form_next_expr, form_operand, form_run, parameter, next_parameter, parameters, run_of, between, arguments_of, prefixed, unit_at, begins, grouped_by, assignment, opened, block, block_place, caught}
use Rattle.fort_form_law_shapes.specs.Fits.{IsFitSource}
use Rattle.fort_form_law_shapes.proofs.Lists.{all_left, all_right}
use Rattle.fort_form_law_shapes.proofs.Made.{IsGood, GoodElement, GoodItem, GoodBranch, GoodGenerator, GoodClause, as-element, good-Number, good-Text, good-Truth, good-Receiver, good-Name, good-Parens, good-Tuple, good-Operator, good-Run, element-Subscript, element-Power, element-Field, element-Method, good-Fill, good-Block, good-Do, good-If, good-While, good-For, good-Case, good-Typecase, good-Try, good-Atomic, good-Tryatomic, good-Throw, good-Spawn, good-Fn, good-Reduce, good-Assign, item-Local, item-Locals, item-Expression, good-branch, good-generator, good-clause}
use Rattle.fort_form_law_shapes.proofs.Groups.{grouped-good}

module _ (P : Ty → Type 0) (Known : Name → Type 0) (k : Source) (S : IsFitSource P Known k) where
  abbrev Known_in : Mentioned → Type 0
  Known_in names = AllByRecursion Known names

  front : (xs ys : Mentioned) → Known_in (xs ++ ys) → Known_in xs
  front xs ys h = all_left Known xs ys h

  back : (xs ys : Mentioned) → Known_in (xs ++ ys) → Known_in ys
  back xs ys h = all_right Known xs ys h

  abbrev GoodPlaced : Placed → Type 0
  GoodPlaced p = GoodItem P p.item

  abbrev GoodOpening : Opening → Type 0
  GoodOpening o = (body : Form) → IsGood P body → IsGood P (o body)

  abbrev GoodCatching : Catching → Type 0
  GoodCatching c = AllByRecursion (GoodClause P) c.clauses

  abbrev GoodList : Listed → Type 0
  GoodList fs = AllByRecursion (IsGood P) fs

  -- trees of which something is shown, and the names in them
  abbrev firsts : {T : Type 0} {G : T → Type 0} → List ((t : T) × G t) → List T
  firsts {T = T} {G = G} es = map (λ (e : (t : T) × G t). e.0) es

  abbrev names : {T : Type 0} {G : T → Type 0} → (T → Mentioned) → List ((t : T) × G t) → Mentioned
  names m es = all_mentioned (map m (firsts es))

  each : {T C : Type 0} (m : T → Mentioned) (f : T → C) (G : C → Type 0)
      (es : List ((t : T) × (Known_in (m t) → G (f t)))) → Known_in (names m es)
      → AllByRecursion G (map f (firsts es))
  each m f G [] h = tt
  each m f G (e ∷ es) h =
      (e.1 (front (m e.0) (names m es) h), each m f G es (back (m e.0) (names m es) h))

  -- ---- what a level makes of its parts

  placed-items : (ps : List Placed) → AllByRecursion GoodPlaced ps
      → AllByRecursion (GoodItem P) (map (λ (i : Placed). i.item) ps)
  placed-items [] g = tt
  placed-items (p ∷ ps) g = (g.0, placed-items ps g.1)

  block-good : (word : Spot) (ps : List Placed) → AllByRecursion GoodPlaced ps
      → IsGood P (block word ps)
  block-good word ps g =
      good-Block P (block_place word ps) (map (λ (i : Placed). i.item) ps) (placed-items ps g)

  between-good : (p : Place) (fs : List Form) → AllByRecursion (IsGood P) fs
      → IsGood P (between p (Some fs))
  between-good p [] g = good-Tuple P p [] tt
  between-good p (f ∷ []) g = good-Parens P p f g.0
  between-good p (f ∷ d ∷ fs) g = good-Tuple P p (f ∷ d ∷ fs) g

  run-good : (f : Form) (fs : List Form) → IsGood P f → AllByRecursion (GoodElement P) fs
      → IsGood P (run_of f fs)
  run-good f [] g h = g
  run-good f (d ∷ fs) g h = good-Run P (place_of f) f d fs g h

  prefixed-good : (o : Option Prefix) (f : Form) → IsGood P f → IsGood P (prefixed o f)
  prefixed-good None f g = g
  prefixed-good (Some (a_prefix.Minus s)) f g = good-Operator P s.place an_op.Minus (f ∷ []) (g, tt)
  prefixed-good (Some (a_prefix.Not s)) f g = good-Operator P s.place an_op.Not (f ∷ []) (g, tt)

  more-parameters : (ns : List NextParameter)
      → Known_in (flat_map (λ (next : NextParameter). mentioned_type next.parameter.ty) ns)
      → AllByRecursion (λ (q : Parameter). P q.ty) (map (next_parameter k) ns)
  more-parameters [] h = tt
  more-parameters (n ∷ ns) h = (
    S.types n.parameter.ty
        (front (mentioned_type n.parameter.ty) (flat_map (λ
        (next : NextParameter). mentioned_type next.parameter.ty) ns) h),
    more-parameters ns
        (back (mentioned_type n.parameter.ty) (flat_map (λ
        (next : NextParameter). mentioned_type next.parameter.ty) ns) h),
  )

  parameters-good : (list : Option Parameters) → Known_in (mentioned_parameters list)
      → AllByRecursion (λ (q : Parameter). P q.ty) (parameters k list)
  parameters-good None h = tt
  parameters-good (Some list) h = (
    S.types list.first.ty
        (front (mentioned_type list.first.ty) (flat_map (λ
        (next : NextParameter). mentioned_type next.parameter.ty) list.others) h),
    more-parameters list.others
        (back (mentioned_type list.first.ty) (flat_map (λ
        (next : NextParameter). mentioned_type next.parameter.ty) list.others) h),
  )

  -- ---- what is shown of each tree, and a tree of which it is shown

  abbrev IsDelimited : Delimited → Type 0
  IsDelimited t = Known_in (mentioned_delimited t) → IsGood P (formed_delimited k t)

  abbrev OneDelimited : Type 0
  OneDelimited = (t : Delimited) × IsDelimited t

  abbrev IsItem : ItemTree → Type 0
  IsItem t = Known_in (mentioned_item t) → GoodPlaced (formed_item k t)

  abbrev OneItem : Type 0
  OneItem = (t : ItemTree) × IsItem t

  abbrev IsAtom : Atom → Type 0
  IsAtom t = Known_in (mentioned_atom t) → IsGood P (formed_atom k t)

  abbrev OneAtom : Type 0
  OneAtom = (t : Atom) × IsAtom t

  abbrev IsExpr : Expr → Type 0
  IsExpr t = Known_in (mentioned_expr t) → IsGood P (formed_expr k t)

  abbrev OneExpr : Type 0
  OneExpr = (t : Expr) × IsExpr t

  abbrev IsFlatPart : FlatPart → Type 0
  IsFlatPart t = Known_in (mentioned_flat_part t) → IsGood P (formed_flat_part k t)

  abbrev OneFlatPart : Type 0
  OneFlatPart = (t : FlatPart) × IsFlatPart t

  abbrev IsGenerator : GeneratorTree → Type 0
  IsGenerator t = Known_in (mentioned_generator t) → GoodGenerator P (formed_generator k t)

  abbrev OneGenerator : Type 0
  OneGenerator = (t : GeneratorTree) × IsGenerator t

  abbrev IsHead : Head → Type 0
  IsHead t = Known_in (mentioned_head t) → GoodOpening (formed_head k t)

  abbrev OneHead : Type 0
  OneHead = (t : Head) × IsHead t

  abbrev IsPostfix : Postfix → Type 0
  IsPostfix t = Known_in (mentioned_postfix t) → GoodElement P (formed_postfix k t)

  abbrev OnePostfix : Type 0
  OnePostfix = (t : Postfix) × IsPostfix t

  abbrev IsRunPart : RunPart → Type 0
  IsRunPart t = Known_in (mentioned_run_part t) → GoodElement P (formed_run_part k t)

  abbrev OneRunPart : Type 0
  OneRunPart = (t : RunPart) × IsRunPart t

  abbrev IsVariable : Variable → Type 0
  IsVariable t = Known_in (mentioned_variable t) → GoodPlaced (formed_variable k t)

  abbrev OneVariable : Type 0
  OneVariable = (t : Variable) × IsVariable t

  abbrev IsAlso : Also → Type 0
  IsAlso t = Known_in (mentioned_also t) → IsGood P (formed_also k t)

  abbrev OneAlso : Type 0
  OneAlso = (t : Also) × IsAlso t

  abbrev IsBlockItem : BlockItem → Type 0
  IsBlockItem t = Known_in (mentioned_block_item t) → GoodPlaced (formed_block_item k t)

  abbrev OneBlockItem : Type 0
  OneBlockItem = (t : BlockItem) × IsBlockItem t

  abbrev IsCaseClause : CaseClause → Type 0
  IsCaseClause t = Known_in (mentioned_case_clause t) → GoodBranch P (formed_case_clause k t)

  abbrev OneCaseClause : Type 0
  OneCaseClause = (t : CaseClause) × IsCaseClause t

  abbrev IsCatch : Catch → Type 0
  IsCatch t = Known_in (mentioned_catch t) → GoodCatching (formed_catch k t)

  abbrev OneCatch : Type 0
  OneCatch = (t : Catch) × IsCatch t

  abbrev IsElif : Elif → Type 0
  IsElif t = Known_in (mentioned_elif t) → GoodBranch P (formed_elif k t)

  abbrev OneElif : Type 0
  OneElif = (t : Elif) × IsElif t

  abbrev IsElseBlock : ElseBlock → Type 0
  IsElseBlock t = Known_in (mentioned_else_block t) → IsGood P (formed_else_block k t)

  abbrev OneElseBlock : Type 0
  OneElseBlock = (t : ElseBlock) × IsElseBlock t

  abbrev IsElseClause : ElseClause → Type 0
  IsElseClause t = Known_in (mentioned_else_clause t) → IsGood P (formed_else_clause k t)

  abbrev OneElseClause : Type 0
  OneElseClause = (t : ElseClause) × IsElseClause t

  abbrev IsFinally : Finally → Type 0
  IsFinally t = Known_in (mentioned_finally t) → IsGood P (formed_finally k t)

  abbrev OneFinally : Type 0
  OneFinally = (t : Finally) × IsFinally t

  abbrev IsNextGenerator : NextGenerator → Type 0
  IsNextGenerator t = Known_in (mentioned_next_generator t)
      → GoodGenerator P (formed_next_generator k t)

  abbrev OneNextGenerator : Type 0
  OneNextGenerator = (t : NextGenerator) × IsNextGenerator t

  abbrev IsTypeClause : TypeClause → Type 0
  IsTypeClause t = Known_in (mentioned_type_clause t) → GoodClause P (formed_type_clause k t)

  abbrev OneTypeClause : Type 0
  OneTypeClause = (t : TypeClause) × IsTypeClause t

  abbrev IsExprList : ExprList → Type 0
  IsExprList t = Known_in (mentioned_expr_list t) → GoodList (formed_expr_list k t)

  abbrev OneExprList : Type 0
  OneExprList = (t : ExprList) × IsExprList t

  abbrev IsFlat : Flat → Type 0
  IsFlat t = Known_in (mentioned_flat t) → IsGood P (formed_flat k t)

  abbrev OneFlat : Type 0
  OneFlat = (t : Flat) × IsFlat t

  abbrev IsNextExpr : NextExpr → Type 0
  IsNextExpr t = Known_in (mentioned_next_expr t) → IsGood P (formed_next_expr k t)

  abbrev OneNextExpr : Type 0
  OneNextExpr = (t : NextExpr) × IsNextExpr t

  abbrev IsOperand : Operand → Type 0
  IsOperand t = Known_in (mentioned_operand t) → IsGood P (formed_operand k t)

  abbrev OneOperand : Type 0
  OneOperand = (t : Operand) × IsOperand t

  abbrev IsRun : Run → Type 0
  IsRun t = Known_in (mentioned_run t) → IsGood P (formed_run k t)

  abbrev OneRun : Type 0
  OneRun = (t : Run) × IsRun t

  -- ---- Delimited

  abbrev delimited_parts : Delimited-F OneDelimited OneItem OneAtom OneExpr OneFlatPart OneGenerator
      OneHead OnePostfix OneRunPart OneVariable OneAlso OneBlockItem OneCaseClause OneCatch OneElif
      OneElseBlock OneElseClause OneFinally OneNextGenerator OneTypeClause OneExprList OneFlat
      OneNextExpr OneOperand OneRun
      → Delimited-F Delimited ItemTree Atom Expr FlatPart GeneratorTree Head Postfix RunPart
      Variable Also BlockItem CaseClause Catch Elif ElseBlock ElseClause Finally NextGenerator
      TypeClause ExprList Flat NextExpr Operand Run
  delimited_parts =
      map-Delimited OneDelimited OneItem OneAtom OneExpr OneFlatPart OneGenerator OneHead OnePostfix
      OneRunPart OneVariable OneAlso OneBlockItem OneCaseClause OneCatch OneElif OneElseBlock
      OneElseClause OneFinally OneNextGenerator OneTypeClause OneExprList OneFlat OneNextExpr
      OneOperand OneRun Delimited ItemTree Atom Expr FlatPart GeneratorTree Head Postfix RunPart
      Variable Also BlockItem CaseClause Catch Elif ElseBlock ElseClause Finally NextGenerator
      TypeClause ExprList Flat NextExpr Operand Run (λ e. e.0) (λ e. e.0) (λ e. e.0) (λ e. e.0)
      (λ e. e.0) (λ e. e.0) (λ e. e.0) (λ e. e.0) (λ e. e.0) (λ e. e.0) (λ e. e.0) (λ e. e.0)
      (λ e. e.0) (λ e. e.0) (λ e. e.0) (λ e. e.0) (λ e. e.0) (λ e. e.0) (λ e. e.0) (λ e. e.0)
      (λ e. e.0) (λ e. e.0) (λ e. e.0) (λ e. e.0) (λ e. e.0)

  abbrev delimited_mentions : Delimited-F Delimited ItemTree Atom Expr FlatPart GeneratorTree Head
      Postfix RunPart Variable Also BlockItem CaseClause Catch Elif ElseBlock ElseClause Finally
      NextGenerator TypeClause ExprList Flat NextExpr Operand Run
      → Delimited-F Mentioned Mentioned Mentioned Mentioned Mentioned Mentioned Mentioned Mentioned
      Mentioned Mentioned Mentioned Mentioned Mentioned Mentioned Mentioned Mentioned Mentioned
      Mentioned Mentioned Mentioned Mentioned Mentioned Mentioned Mentioned Mentioned
  delimited_mentions =
      map-Delimited Delimited ItemTree Atom Expr FlatPart GeneratorTree Head Postfix RunPart
      Variable Also BlockItem CaseClause Catch Elif ElseBlock ElseClause Finally NextGenerator
      TypeClause ExprList Flat NextExpr Operand Run Mentioned Mentioned Mentioned Mentioned
      Mentioned Mentioned Mentioned Mentioned Mentioned Mentioned Mentioned Mentioned Mentioned
      Mentioned Mentioned Mentioned Mentioned Mentioned Mentioned Mentioned Mentioned Mentioned
      Mentioned Mentioned Mentioned mentioned_delimited mentioned_item mentioned_atom mentioned_expr
      mentioned_flat_part mentioned_generator mentioned_head mentioned_postfix mentioned_run_part
      mentioned_variable mentioned_also mentioned_block_item mentioned_case_clause mentioned_catch
      mentioned_elif mentioned_else_block mentioned_else_clause mentioned_finally
      mentioned_next_generator mentioned_type_clause mentioned_expr_list mentioned_flat
      mentioned_next_expr mentioned_operand mentioned_run

  abbrev delimited_forms : Delimited-F Delimited ItemTree Atom Expr FlatPart GeneratorTree Head
      Postfix RunPart Variable Also BlockItem CaseClause Catch Elif ElseBlock ElseClause Finally
      NextGenerator TypeClause ExprList Flat NextExpr Operand Run
      → Delimited-F Form Placed Form Form Form FormGenerator Opening Form Form Placed Form Placed
      Branch Catching Branch Form Form Form FormGenerator TypeBranch Listed Form Form Form Form
  delimited_forms =
      map-Delimited Delimited ItemTree Atom Expr FlatPart GeneratorTree Head Postfix RunPart
      Variable Also BlockItem CaseClause Catch Elif ElseBlock ElseClause Finally NextGenerator
      TypeClause ExprList Flat NextExpr Operand Run Form Placed Form Form Form FormGenerator Opening
      Form Form Placed Form Placed Branch Catching Branch Form Form Form FormGenerator TypeBranch
      Listed Form Form Form Form (formed_delimited k) (formed_item k) (formed_atom k)
      (formed_expr k) (formed_flat_part k) (formed_generator k) (formed_head k) (formed_postfix k)
      (formed_run_part k) (formed_variable k) (formed_also k) (formed_block_item k)
      (formed_case_clause k) (formed_catch k) (formed_elif k) (formed_else_block k)
      (formed_else_clause k) (formed_finally k) (formed_next_generator k) (formed_type_clause k)
      (formed_expr_list k) (formed_flat k) (formed_next_expr k) (formed_operand k) (formed_run k)

  delimited_mentioned : (l : Delimited-F Delimited ItemTree Atom Expr FlatPart GeneratorTree Head
      Postfix RunPart Variable Also BlockItem CaseClause Catch Elif ElseBlock ElseClause Finally
      NextGenerator TypeClause ExprList Flat NextExpr Operand Run)
      → mentioned_delimited (roll-Delimited l) ≡ mention_delimited (delimited_mentions l)
  unfolding mentioned_delimited mentioned_item mentioned_atom mentioned_expr mentioned_flat_part
      mentioned_generator mentioned_head mentioned_postfix mentioned_run_part mentioned_variable
      mentioned_also mentioned_block_item mentioned_case_clause mentioned_catch mentioned_elif
      mentioned_else_block mentioned_else_clause mentioned_finally mentioned_next_generator
      mentioned_type_clause mentioned_expr_list mentioned_flat mentioned_next_expr mentioned_operand
      mentioned_run
  delimited_mentioned l =
      fold-roll-Delimited Mentioned Mentioned Mentioned Mentioned Mentioned Mentioned Mentioned
      Mentioned Mentioned Mentioned Mentioned Mentioned Mentioned Mentioned Mentioned Mentioned
      Mentioned Mentioned Mentioned Mentioned Mentioned Mentioned Mentioned Mentioned Mentioned
      mention_delimited mention_item mention_atom mention_expr mention_flat_part mention_generator
      mention_head mention_postfix mention_run_part mention_variable mention_also mention_block_item
      mention_case_clause mention_catch mention_elif mention_else_block mention_else_clause
      mention_finally mention_next_generator mention_type_clause mention_expr_list mention_flat
      mention_next_expr mention_operand mention_run l

  delimited_formed : (l : Delimited-F Delimited ItemTree Atom Expr FlatPart GeneratorTree Head
      Postfix RunPart Variable Also BlockItem CaseClause Catch Elif ElseBlock ElseClause Finally
      NextGenerator TypeClause ExprList Flat NextExpr Operand Run)
      → formed_delimited k (roll-Delimited l) ≡ form_delimited (delimited_forms l)
  unfolding formed_delimited formed_item formed_atom formed_expr formed_flat_part formed_generator
      formed_head formed_postfix formed_run_part formed_variable formed_also formed_block_item
      formed_case_clause formed_catch formed_elif formed_else_block formed_else_clause
      formed_finally formed_next_generator formed_type_clause formed_expr_list formed_flat
      formed_next_expr formed_operand formed_run
  delimited_formed l =
      fold-roll-Delimited Form Placed Form Form Form FormGenerator Opening Form Form Placed Form
      Placed Branch Catching Branch Form Form Form FormGenerator TypeBranch Listed Form Form Form
      Form form_delimited (form_item k) (form_atom k) form_expr form_flat_part form_generator
      (form_head k) form_postfix form_run_part (form_variable k) form_also form_block_item
      form_case_clause form_catch form_elif form_else_block form_else_clause form_finally
      form_next_generator (form_type_clause k) form_expr_list (form_flat k) form_next_expr
      form_operand form_run l

  delimited_level : (y : Delimited-F OneDelimited OneItem OneAtom OneExpr OneFlatPart OneGenerator
      OneHead OnePostfix OneRunPart OneVariable OneAlso OneBlockItem OneCaseClause OneCatch
      OneElif OneElseBlock OneElseClause OneFinally OneNextGenerator OneTypeClause OneExprList
      OneFlat OneNextExpr OneOperand OneRun)
      → Known_in (mention_delimited (delimited_mentions (delimited_parts y)))
      → IsGood P (form_delimited (delimited_forms (delimited_parts y)))
  delimited_level (Delimited-F.Do at_do items others end) h =
      let a = names mentioned_block_item items in
      let b = names mentioned_also others in
      good-Do P at_do.place (block at_do (map (formed_block_item k) (firsts items)))
      (map (formed_also k) (firsts others)) (
        block-good at_do (map (formed_block_item k) (firsts items))
            (each mentioned_block_item (formed_block_item k) GoodPlaced items (front a b h)),
        each mentioned_also (formed_also k) (IsGood P) others (back a b h),
      )
  delimited_level (Delimited-F.If at_if condition then items elifs None end) h =
      let c = mentioned_flat condition.0 in
      let a = names mentioned_block_item items in
      let b = names mentioned_elif elifs in
      let m = back c (a ++ (b ++ [])) h in
      good-If P at_if.place
      (roll-Branch
      (record {
        test = formed_flat k condition.0;
        value = block
            then (map (formed_block_item k) (firsts items));
      })
      ∷ map (formed_elif k) (firsts elifs)) None (
        good-branch P (formed_flat k condition.0) (block
            then (map (formed_block_item k) (firsts items)))
            (condition.1 (front c (a ++ (b ++ [])) h))
            (block-good
            then (map (formed_block_item k) (firsts items))
            (each mentioned_block_item (formed_block_item k) GoodPlaced items
            (front a (b ++ []) m))),
        each mentioned_elif (formed_elif k) (GoodBranch P) elifs (front b [] (back a (b ++ []) m)),
      ) tt
  delimited_level (Delimited-F.If at_if condition then items elifs (Some o) end) h =
      let c = mentioned_flat condition.0 in
      let a = names mentioned_block_item items in
      let b = names mentioned_elif elifs in
      let d = mentioned_else_block o.0 in
      let m = back c (a ++ (b ++ d)) h in
      let n = back a (b ++ d) m in
      good-If P at_if.place
      (roll-Branch
      (record {
        test = formed_flat k condition.0;
        value = block
            then (map (formed_block_item k) (firsts items));
      })
      ∷ map (formed_elif k) (firsts elifs)) (Some (formed_else_block k o.0)) (
        good-branch P (formed_flat k condition.0) (block
            then (map (formed_block_item k) (firsts items)))
            (condition.1 (front c (a ++ (b ++ d)) h))
            (block-good
            then (map (formed_block_item k) (firsts items))
            (each mentioned_block_item (formed_block_item k) GoodPlaced items
            (front a (b ++ d) m))),
        each mentioned_elif (formed_elif k) (GoodBranch P) elifs (front b d n),
      ) (o.1 (back b d n))
  delimited_level (Delimited-F.While at_while condition at_do items end) h =
      let c = mentioned_flat condition.0 in
      let a = names mentioned_block_item items in
      good-While P at_while.place (formed_flat k condition.0)
      (block at_do (map (formed_block_item k) (firsts items))) (condition.1 (front c a h))
      (block-good at_do (map (formed_block_item k) (firsts items))
      (each mentioned_block_item (formed_block_item k) GoodPlaced items (back c a h)))
  delimited_level (Delimited-F.For at_for generator others at_do items end) h =
      let c = mentioned_generator generator.0 in
      let b = names mentioned_next_generator others in
      let a = names mentioned_block_item items in
      let m = back c (b ++ a) h in
      good-For P at_for.place
      (formed_generator k generator.0 ∷ map (formed_next_generator k) (firsts others))
      (block at_do (map (formed_block_item k) (firsts items))) (
        generator.1 (front c (b ++ a) h),
        each mentioned_next_generator (formed_next_generator k) (GoodGenerator P) others
            (front b a m),
      )
      (block-good at_do (map (formed_block_item k) (firsts items))
      (each mentioned_block_item (formed_block_item k) GoodPlaced items (back b a m)))
  delimited_level (Delimited-F.Case at_case subject of clauses None end) h =
      let c = mentioned_flat subject.0 in
      let b = names mentioned_case_clause clauses in
      good-Case P at_case.place (formed_flat k subject.0)
      (map (formed_case_clause k) (firsts clauses)) None (subject.1 (front c (b ++ []) h))
      (each mentioned_case_clause (formed_case_clause k) (GoodBranch P) clauses
      (front b [] (back c (b ++ []) h))) tt
  delimited_level (Delimited-F.Case at_case subject of clauses (Some o) end) h =
      let c = mentioned_flat subject.0 in
      let b = names mentioned_case_clause clauses in
      let d = mentioned_else_clause o.0 in
      let m = back c (b ++ d) h in
      good-Case P at_case.place (formed_flat k subject.0)
      (map (formed_case_clause k) (firsts clauses)) (Some (formed_else_clause k o.0))
      (subject.1 (front c (b ++ d) h))
      (each mentioned_case_clause (formed_case_clause k) (GoodBranch P) clauses (front b d m))
      (o.1 (back b d m))
  delimited_level (Delimited-F.Typecase at_typecase name equals subject of clauses None end) h =
      let c = mentioned_flat subject.0 in
      let b = names mentioned_type_clause clauses in
      good-Typecase P at_typecase.place name.spot.place name.id (formed_flat k subject.0)
      (map (formed_type_clause k) (firsts clauses)) None (subject.1 (front c (b ++ []) h))
      (each mentioned_type_clause (formed_type_clause k) (GoodClause P) clauses
      (front b [] (back c (b ++ []) h))) tt
  delimited_level (Delimited-F.Typecase at_typecase name equals subject of clauses (Some o) end) h =
      let c = mentioned_flat subject.0 in
      let b = names mentioned_type_clause clauses in
      let d = mentioned_else_clause o.0 in
      let m = back c (b ++ d) h in
      good-Typecase P at_typecase.place name.spot.place name.id (formed_flat k subject.0)
      (map (formed_type_clause k) (firsts clauses)) (Some (formed_else_clause k o.0))
      (subject.1 (front c (b ++ d) h))
      (each mentioned_type_clause (formed_type_clause k) (GoodClause P) clauses (front b d m))
      (o.1 (back b d m))
  delimited_level (Delimited-F.Try at_try items None None end) h =
      let a = names mentioned_block_item items in
      good-Try P at_try.place (block at_try (map (formed_block_item k) (firsts items))) None [] None
      (block-good at_try (map (formed_block_item k) (firsts items))
      (each mentioned_block_item (formed_block_item k) GoodPlaced items (front a [] h))) tt
      tt
  delimited_level (Delimited-F.Try at_try items None (Some f) end) h =
      let a = names mentioned_block_item items in
      let d = mentioned_finally f.0 in
      good-Try P at_try.place (block at_try (map (formed_block_item k) (firsts items))) None []
      (Some (formed_finally k f.0))
      (block-good at_try (map (formed_block_item k) (firsts items))
      (each mentioned_block_item (formed_block_item k) GoodPlaced items (front a d h))) tt
      (f.1 (back a d h))
  delimited_level (Delimited-F.Try at_try items (Some c) None end) h =
      let a = names mentioned_block_item items in
      let b = mentioned_catch c.0 in
      good-Try P at_try.place (block at_try (map (formed_block_item k) (firsts items)))
      (Some (formed_catch k c.0).binder) (formed_catch k c.0).clauses None
      (block-good at_try (map (formed_block_item k) (firsts items))
      (each mentioned_block_item (formed_block_item k) GoodPlaced items
      (front a (b ++ []) h))) (c.1 (front b [] (back a (b ++ []) h))) tt
  delimited_level (Delimited-F.Try at_try items (Some c) (Some f) end) h =
      let a = names mentioned_block_item items in
      let b = mentioned_catch c.0 in
      let d = mentioned_finally f.0 in
      let m = back a (b ++ d) h in
      good-Try P at_try.place (block at_try (map (formed_block_item k) (firsts items)))
      (Some (formed_catch k c.0).binder) (formed_catch k c.0).clauses
      (Some (formed_finally k f.0))
      (block-good at_try (map (formed_block_item k) (firsts items))
      (each mentioned_block_item (formed_block_item k) GoodPlaced items
      (front a (b ++ d) h))) (c.1 (front b d m)) (f.1 (back b d m))

  delimited_step : (x : Delimited-F Delimited ItemTree Atom Expr FlatPart GeneratorTree Head Postfix
      RunPart Variable Also BlockItem CaseClause Catch Elif ElseBlock ElseClause Finally
      NextGenerator TypeClause ExprList Flat NextExpr Operand Run)
      (y : Delimited-F OneDelimited OneItem OneAtom OneExpr OneFlatPart OneGenerator OneHead
      OnePostfix OneRunPart OneVariable OneAlso OneBlockItem OneCaseClause OneCatch OneElif
      OneElseBlock OneElseClause OneFinally OneNextGenerator OneTypeClause OneExprList OneFlat
      OneNextExpr OneOperand OneRun) → delimited_parts y ≡ x → IsDelimited (roll-Delimited x)
  delimited_step x y is =
      subst (λ x. IsDelimited (roll-Delimited x)) is
      (λ h. subst (IsGood P) (sym (delimited_formed (delimited_parts y)))
      (delimited_level y (subst (Known_in) (delimited_mentioned (delimited_parts y)) h)))

  -- ---- Item

  abbrev item_parts : Item-F OneDelimited OneItem OneAtom OneExpr OneFlatPart OneGenerator OneHead
      OnePostfix OneRunPart OneVariable OneAlso OneBlockItem OneCaseClause OneCatch OneElif
      OneElseBlock OneElseClause OneFinally OneNextGenerator OneTypeClause OneExprList OneFlat
      OneNextExpr OneOperand OneRun
      → Item-F Delimited ItemTree Atom Expr FlatPart GeneratorTree Head Postfix RunPart Variable
      Also BlockItem CaseClause Catch Elif ElseBlock ElseClause Finally NextGenerator TypeClause
      ExprList Flat NextExpr Operand Run
  item_parts =
      map-Item OneDelimited OneItem OneAtom OneExpr OneFlatPart OneGenerator OneHead OnePostfix
      OneRunPart OneVariable OneAlso OneBlockItem OneCaseClause OneCatch OneElif OneElseBlock
      OneElseClause OneFinally OneNextGenerator OneTypeClause OneExprList OneFlat OneNextExpr
      OneOperand OneRun Delimited ItemTree Atom Expr FlatPart GeneratorTree Head Postfix RunPart
      Variable Also BlockItem CaseClause Catch Elif ElseBlock ElseClause Finally NextGenerator
      TypeClause ExprList Flat NextExpr Operand Run (λ e. e.0) (λ e. e.0) (λ e. e.0) (λ e. e.0)
      (λ e. e.0) (λ e. e.0) (λ e. e.0) (λ e. e.0) (λ e. e.0) (λ e. e.0) (λ e. e.0) (λ e. e.0)
      (λ e. e.0) (λ e. e.0) (λ e. e.0) (λ e. e.0) (λ e. e.0) (λ e. e.0) (λ e. e.0) (λ e. e.0)
      (λ e. e.0) (λ e. e.0) (λ e. e.0) (λ e. e.0) (λ e. e.0)

  abbrev item_mentions : Item-F Delimited ItemTree Atom Expr FlatPart GeneratorTree Head Postfix
      RunPart Variable Also BlockItem CaseClause Catch Elif ElseBlock ElseClause Finally
      NextGenerator TypeClause ExprList Flat NextExpr Operand Run
      → Item-F Mentioned Mentioned Mentioned Mentioned Mentioned Mentioned Mentioned Mentioned
      Mentioned Mentioned Mentioned Mentioned Mentioned Mentioned Mentioned Mentioned Mentioned
      Mentioned Mentioned Mentioned Mentioned Mentioned Mentioned Mentioned Mentioned
  item_mentions =
      map-Item Delimited ItemTree Atom Expr FlatPart GeneratorTree Head Postfix RunPart Variable
      Also BlockItem CaseClause Catch Elif ElseBlock ElseClause Finally NextGenerator TypeClause
      ExprList Flat NextExpr Operand Run Mentioned Mentioned Mentioned Mentioned Mentioned Mentioned
      Mentioned Mentioned Mentioned Mentioned Mentioned Mentioned Mentioned Mentioned Mentioned
      Mentioned Mentioned Mentioned Mentioned Mentioned Mentioned Mentioned Mentioned Mentioned
      Mentioned mentioned_delimited mentioned_item mentioned_atom mentioned_expr mentioned_flat_part
      mentioned_generator mentioned_head mentioned_postfix mentioned_run_part mentioned_variable
      mentioned_also mentioned_block_item mentioned_case_clause mentioned_catch mentioned_elif
      mentioned_else_block mentioned_else_clause mentioned_finally mentioned_next_generator
      mentioned_type_clause mentioned_expr_list mentioned_flat mentioned_next_expr mentioned_operand
      mentioned_run

  abbrev item_forms : Item-F Delimited ItemTree Atom Expr FlatPart GeneratorTree Head Postfix
      RunPart Variable Also BlockItem CaseClause Catch Elif ElseBlock ElseClause Finally
      NextGenerator TypeClause ExprList Flat NextExpr Operand Run
      → Item-F Form Placed Form Form Form FormGenerator Opening Form Form Placed Form Placed Branch
      Catching Branch Form Form Form FormGenerator TypeBranch Listed Form Form Form Form
  item_forms =
      map-Item Delimited ItemTree Atom Expr FlatPart GeneratorTree Head Postfix RunPart Variable
      Also BlockItem CaseClause Catch Elif ElseBlock ElseClause Finally NextGenerator TypeClause
      ExprList Flat NextExpr Operand Run Form Placed Form Form Form FormGenerator Opening Form Form
      Placed Form Placed Branch Catching Branch Form Form Form FormGenerator TypeBranch Listed Form
      Form Form Form (formed_delimited k) (formed_item k) (formed_atom k) (formed_expr k)
      (formed_flat_part k) (formed_generator k) (formed_head k) (formed_postfix k)
      (formed_run_part k) (formed_variable k) (formed_also k) (formed_block_item k)
      (formed_case_clause k) (formed_catch k) (formed_elif k) (formed_else_block k)
      (formed_else_clause k) (formed_finally k) (formed_next_generator k) (formed_type_clause k)
      (formed_expr_list k) (formed_flat k) (formed_next_expr k) (formed_operand k) (formed_run k)

  item_mentioned : (l : Item-F Delimited ItemTree Atom Expr FlatPart GeneratorTree Head Postfix
      RunPart Variable Also BlockItem CaseClause Catch Elif ElseBlock ElseClause Finally
      NextGenerator TypeClause ExprList Flat NextExpr Operand Run)
      → mentioned_item (roll-Item l) ≡ mention_item (item_mentions l)
  unfolding mentioned_delimited mentioned_item mentioned_atom mentioned_expr mentioned_flat_part
      mentioned_generator mentioned_head mentioned_postfix mentioned_run_part mentioned_variable
      mentioned_also mentioned_block_item mentioned_case_clause mentioned_catch mentioned_elif
      mentioned_else_block mentioned_else_clause mentioned_finally mentioned_next_generator
      mentioned_type_clause mentioned_expr_list mentioned_flat mentioned_next_expr mentioned_operand
      mentioned_run
  item_mentioned l =
      fold-roll-Item Mentioned Mentioned Mentioned Mentioned Mentioned Mentioned Mentioned Mentioned
      Mentioned Mentioned Mentioned Mentioned Mentioned Mentioned Mentioned Mentioned Mentioned
      Mentioned Mentioned Mentioned Mentioned Mentioned Mentioned Mentioned Mentioned
      mention_delimited mention_item mention_atom mention_expr mention_flat_part mention_generator
      mention_head mention_postfix mention_run_part mention_variable mention_also mention_block_item
      mention_case_clause mention_catch mention_elif mention_else_block mention_else_clause
      mention_finally mention_next_generator mention_type_clause mention_expr_list mention_flat
      mention_next_expr mention_operand mention_run l

  item_formed : (l : Item-F Delimited ItemTree Atom Expr FlatPart GeneratorTree Head Postfix RunPart
      Variable Also BlockItem CaseClause Catch Elif ElseBlock ElseClause Finally NextGenerator
      TypeClause ExprList Flat NextExpr Operand Run)
      → formed_item k (roll-Item l) ≡ form_item k (item_forms l)
  unfolding formed_delimited formed_item formed_atom formed_expr formed_flat_part formed_generator
      formed_head formed_postfix formed_run_part formed_variable formed_also formed_block_item
      formed_case_clause formed_catch formed_elif formed_else_block formed_else_clause
      formed_finally formed_next_generator formed_type_clause formed_expr_list formed_flat
      formed_next_expr formed_operand formed_run
  item_formed l =
      fold-roll-Item Form Placed Form Form Form FormGenerator Opening Form Form Placed Form Placed
      Branch Catching Branch Form Form Form FormGenerator TypeBranch Listed Form Form Form Form
      form_delimited (form_item k) (form_atom k) form_expr form_flat_part form_generator
      (form_head k) form_postfix form_run_part (form_variable k) form_also form_block_item
      form_case_clause form_catch form_elif form_else_block form_else_clause form_finally
      form_next_generator (form_type_clause k) form_expr_list (form_flat k) form_next_expr
      form_operand form_run l

  item_level : (y : Item-F OneDelimited OneItem OneAtom OneExpr OneFlatPart OneGenerator OneHead
      OnePostfix OneRunPart OneVariable OneAlso OneBlockItem OneCaseClause OneCatch OneElif
      OneElseBlock OneElseClause OneFinally OneNextGenerator OneTypeClause OneExprList OneFlat
      OneNextExpr OneOperand OneRun) → Known_in (mention_item (item_mentions (item_parts y)))
      → GoodPlaced (form_item k (item_forms (item_parts y)))
  item_level (Item-F.Variable variable) h = variable.1 h
  item_level (Item-F.Names left first others right colon ty equals value) h =
      item-Locals P left.place _ (k.written ty) (formed_expr k value.0)
      (S.types ty (front (mentioned_type ty) (mentioned_expr value.0) h))
      (value.1 (back (mentioned_type ty) (mentioned_expr value.0) h))
  item_level (Item-F.Expr expr) h = item-Expression P (formed_expr k expr.0) (expr.1 h)

  item_step : (x : Item-F Delimited ItemTree Atom Expr FlatPart GeneratorTree Head Postfix RunPart
      Variable Also BlockItem CaseClause Catch Elif ElseBlock ElseClause Finally NextGenerator
      TypeClause ExprList Flat NextExpr Operand Run)
      (y : Item-F OneDelimited OneItem OneAtom OneExpr OneFlatPart OneGenerator OneHead OnePostfix
      OneRunPart OneVariable OneAlso OneBlockItem OneCaseClause OneCatch OneElif OneElseBlock
      OneElseClause OneFinally OneNextGenerator OneTypeClause OneExprList OneFlat OneNextExpr
      OneOperand OneRun) → item_parts y ≡ x → IsItem (roll-Item x)
  item_step x y is =
      subst (λ x. IsItem (roll-Item x)) is
      (λ h. subst (GoodPlaced) (sym (item_formed (item_parts y)))
      (item_level y (subst (Known_in) (item_mentioned (item_parts y)) h)))

  -- ---- Atom

  abbrev atom_parts : Atom-F OneDelimited OneItem OneAtom OneExpr OneFlatPart OneGenerator OneHead
      OnePostfix OneRunPart OneVariable OneAlso OneBlockItem OneCaseClause OneCatch OneElif
      OneElseBlock OneElseClause OneFinally OneNextGenerator OneTypeClause OneExprList OneFlat
      OneNextExpr OneOperand OneRun
      → Atom-F Delimited ItemTree Atom Expr FlatPart GeneratorTree Head Postfix RunPart Variable
      Also BlockItem CaseClause Catch Elif ElseBlock ElseClause Finally NextGenerator TypeClause
      ExprList Flat NextExpr Operand Run
  atom_parts =
      map-Atom OneDelimited OneItem OneAtom OneExpr OneFlatPart OneGenerator OneHead OnePostfix
      OneRunPart OneVariable OneAlso OneBlockItem OneCaseClause OneCatch OneElif OneElseBlock
      OneElseClause OneFinally OneNextGenerator OneTypeClause OneExprList OneFlat OneNextExpr
      OneOperand OneRun Delimited ItemTree Atom Expr FlatPart GeneratorTree Head Postfix RunPart
      Variable Also BlockItem CaseClause Catch Elif ElseBlock ElseClause Finally NextGenerator
      TypeClause ExprList Flat NextExpr Operand Run (λ e. e.0) (λ e. e.0) (λ e. e.0) (λ e. e.0)
      (λ e. e.0) (λ e. e.0) (λ e. e.0) (λ e. e.0) (λ e. e.0) (λ e. e.0) (λ e. e.0) (λ e. e.0)
      (λ e. e.0) (λ e. e.0) (λ e. e.0) (λ e. e.0) (λ e. e.0) (λ e. e.0) (λ e. e.0) (λ e. e.0)
      (λ e. e.0) (λ e. e.0) (λ e. e.0) (λ e. e.0) (λ e. e.0)

  abbrev atom_mentions : Atom-F Delimited ItemTree Atom Expr FlatPart GeneratorTree Head Postfix
      RunPart Variable Also BlockItem CaseClause Catch Elif ElseBlock ElseClause Finally
      NextGenerator TypeClause ExprList Flat NextExpr Operand Run
      → Atom-F Mentioned Mentioned Mentioned Mentioned Mentioned Mentioned Mentioned Mentioned
      Mentioned Mentioned Mentioned Mentioned Mentioned Mentioned Mentioned Mentioned Mentioned
      Mentioned Mentioned Mentioned Mentioned Mentioned Mentioned Mentioned Mentioned
  atom_mentions =
      map-Atom Delimited ItemTree Atom Expr FlatPart GeneratorTree Head Postfix RunPart Variable
      Also BlockItem CaseClause Catch Elif ElseBlock ElseClause Finally NextGenerator TypeClause
      ExprList Flat NextExpr Operand Run Mentioned Mentioned Mentioned Mentioned Mentioned Mentioned
      Mentioned Mentioned Mentioned Mentioned Mentioned Mentioned Mentioned Mentioned Mentioned
      Mentioned Mentioned Mentioned Mentioned Mentioned Mentioned Mentioned Mentioned Mentioned
      Mentioned mentioned_delimited mentioned_item mentioned_atom mentioned_expr mentioned_flat_part
      mentioned_generator mentioned_head mentioned_postfix mentioned_run_part mentioned_variable
      mentioned_also mentioned_block_item mentioned_case_clause mentioned_catch mentioned_elif
      mentioned_else_block mentioned_else_clause mentioned_finally mentioned_next_generator
      mentioned_type_clause mentioned_expr_list mentioned_flat mentioned_next_expr mentioned_operand
      mentioned_run

  abbrev atom_forms : Atom-F Delimited ItemTree Atom Expr FlatPart GeneratorTree Head Postfix
      RunPart Variable Also BlockItem CaseClause Catch Elif ElseBlock ElseClause Finally
      NextGenerator TypeClause ExprList Flat NextExpr Operand Run
      → Atom-F Form Placed Form Form Form FormGenerator Opening Form Form Placed Form Placed Branch
      Catching Branch Form Form Form FormGenerator TypeBranch Listed Form Form Form Form
  atom_forms =
      map-Atom Delimited ItemTree Atom Expr FlatPart GeneratorTree Head Postfix RunPart Variable
      Also BlockItem CaseClause Catch Elif ElseBlock ElseClause Finally NextGenerator TypeClause
      ExprList Flat NextExpr Operand Run Form Placed Form Form Form FormGenerator Opening Form Form
      Placed Form Placed Branch Catching Branch Form Form Form FormGenerator TypeBranch Listed Form
      Form Form Form (formed_delimited k) (formed_item k) (formed_atom k) (formed_expr k)
      (formed_flat_part k) (formed_generator k) (formed_head k) (formed_postfix k)
      (formed_run_part k) (formed_variable k) (formed_also k) (formed_block_item k)
      (formed_case_clause k) (formed_catch k) (formed_elif k) (formed_else_block k)
      (formed_else_clause k) (formed_finally k) (formed_next_generator k) (formed_type_clause k)
      (formed_expr_list k) (formed_flat k) (formed_next_expr k) (formed_operand k) (formed_run k)

  atom_mentioned : (l : Atom-F Delimited ItemTree Atom Expr FlatPart GeneratorTree Head Postfix
      RunPart Variable Also BlockItem CaseClause Catch Elif ElseBlock ElseClause Finally
      NextGenerator TypeClause ExprList Flat NextExpr Operand Run)
      → mentioned_atom (roll-Atom l) ≡ mention_atom (atom_mentions l)
  unfolding mentioned_delimited mentioned_item mentioned_atom mentioned_expr mentioned_flat_part
      mentioned_generator mentioned_head mentioned_postfix mentioned_run_part mentioned_variable
      mentioned_also mentioned_block_item mentioned_case_clause mentioned_catch mentioned_elif
      mentioned_else_block mentioned_else_clause mentioned_finally mentioned_next_generator
      mentioned_type_clause mentioned_expr_list mentioned_flat mentioned_next_expr mentioned_operand
      mentioned_run
  atom_mentioned l =
      fold-roll-Atom Mentioned Mentioned Mentioned Mentioned Mentioned Mentioned Mentioned Mentioned
      Mentioned Mentioned Mentioned Mentioned Mentioned Mentioned Mentioned Mentioned Mentioned
      Mentioned Mentioned Mentioned Mentioned Mentioned Mentioned Mentioned Mentioned
      mention_delimited mention_item mention_atom mention_expr mention_flat_part mention_generator
      mention_head mention_postfix mention_run_part mention_variable mention_also mention_block_item
      mention_case_clause mention_catch mention_elif mention_else_block mention_else_clause
      mention_finally mention_next_generator mention_type_clause mention_expr_list mention_flat
      mention_next_expr mention_operand mention_run l

  atom_formed : (l : Atom-F Delimited ItemTree Atom Expr FlatPart GeneratorTree Head Postfix RunPart
      Variable Also BlockItem CaseClause Catch Elif ElseBlock ElseClause Finally NextGenerator
      TypeClause ExprList Flat NextExpr Operand Run)
      → formed_atom k (roll-Atom l) ≡ form_atom k (atom_forms l)
  unfolding formed_delimited formed_item formed_atom formed_expr formed_flat_part formed_generator
      formed_head formed_postfix formed_run_part formed_variable formed_also formed_block_item
      formed_case_clause formed_catch formed_elif formed_else_block formed_else_clause
      formed_finally formed_next_generator formed_type_clause formed_expr_list formed_flat
      formed_next_expr formed_operand formed_run
  atom_formed l =
      fold-roll-Atom Form Placed Form Form Form FormGenerator Opening Form Form Placed Form Placed
      Branch Catching Branch Form Form Form FormGenerator TypeBranch Listed Form Form Form Form
      form_delimited (form_item k) (form_atom k) form_expr form_flat_part form_generator
      (form_head k) form_postfix form_run_part (form_variable k) form_also form_block_item
      form_case_clause form_catch form_elif form_else_block form_else_clause form_finally
      form_next_generator (form_type_clause k) form_expr_list (form_flat k) form_next_expr
      form_operand form_run l

  atom_level : (y : Atom-F OneDelimited OneItem OneAtom OneExpr OneFlatPart OneGenerator OneHead
      OnePostfix OneRunPart OneVariable OneAlso OneBlockItem OneCaseClause OneCatch OneElif
      OneElseBlock OneElseClause OneFinally OneNextGenerator OneTypeClause OneExprList OneFlat
      OneNextExpr OneOperand OneRun) → Known_in (mention_atom (atom_mentions (atom_parts y)))
      → IsGood P (form_atom k (atom_forms (atom_parts y)))
  atom_level (Atom-F.Name name) h = good-Name P name.spot.place name.id
  atom_level (Atom-F.Number value s) h = good-Number P s.place value
  atom_level (Atom-F.Text text s) h = good-Text P s.place text
  atom_level (Atom-F.True s) h = good-Truth P s.place true
  atom_level (Atom-F.False s) h = good-Truth P s.place false
  atom_level (Atom-F.Self_ s) h = good-Receiver P s.place
  atom_level (Atom-F.Parens left None right) h = good-Tuple P left.place [] tt
  atom_level (Atom-F.Parens left (Some c) right) h =
      between-good left.place (formed_expr_list k c.0) (c.1 h)
  atom_level (Atom-F.Delimited form) h = form.1 h
  atom_level (Atom-F.ArrayFill spots element size value) h =
      let a = mentioned_type element in
      let b = mentioned_expr size.0 in
      let c = mentioned_expr value.0 in
      let m = back a (b ++ c) h in
      good-Fill P spots.array.place (k.written element) (formed_expr k size.0)
      (formed_expr k value.0) (S.types element (front a (b ++ c) h)) (size.1 (front b c m))
      (value.1 (back b c m))

  atom_step : (x : Atom-F Delimited ItemTree Atom Expr FlatPart GeneratorTree Head Postfix RunPart
      Variable Also BlockItem CaseClause Catch Elif ElseBlock ElseClause Finally NextGenerator
      TypeClause ExprList Flat NextExpr Operand Run)
      (y : Atom-F OneDelimited OneItem OneAtom OneExpr OneFlatPart OneGenerator OneHead OnePostfix
      OneRunPart OneVariable OneAlso OneBlockItem OneCaseClause OneCatch OneElif OneElseBlock
      OneElseClause OneFinally OneNextGenerator OneTypeClause OneExprList OneFlat OneNextExpr
      OneOperand OneRun) → atom_parts y ≡ x → IsAtom (roll-Atom x)
  atom_step x y is =
      subst (λ x. IsAtom (roll-Atom x)) is
      (λ h. subst (IsGood P) (sym (atom_formed (atom_parts y)))
      (atom_level y (subst (Known_in) (atom_mentioned (atom_parts y)) h)))

  -- ---- Expr

  abbrev expr_parts : Expr-F OneDelimited OneItem OneAtom OneExpr OneFlatPart OneGenerator OneHead
      OnePostfix OneRunPart OneVariable OneAlso OneBlockItem OneCaseClause OneCatch OneElif
      OneElseBlock OneElseClause OneFinally OneNextGenerator OneTypeClause OneExprList OneFlat
      OneNextExpr OneOperand OneRun
      → Expr-F Delimited ItemTree Atom Expr FlatPart GeneratorTree Head Postfix RunPart Variable
      Also BlockItem CaseClause Catch Elif ElseBlock ElseClause Finally NextGenerator TypeClause
      ExprList Flat NextExpr Operand Run
  expr_parts =
      map-Expr OneDelimited OneItem OneAtom OneExpr OneFlatPart OneGenerator OneHead OnePostfix
      OneRunPart OneVariable OneAlso OneBlockItem OneCaseClause OneCatch OneElif OneElseBlock
      OneElseClause OneFinally OneNextGenerator OneTypeClause OneExprList OneFlat OneNextExpr
      OneOperand OneRun Delimited ItemTree Atom Expr FlatPart GeneratorTree Head Postfix RunPart
      Variable Also BlockItem CaseClause Catch Elif ElseBlock ElseClause Finally NextGenerator
      TypeClause ExprList Flat NextExpr Operand Run (λ e. e.0) (λ e. e.0) (λ e. e.0) (λ e. e.0)
      (λ e. e.0) (λ e. e.0) (λ e. e.0) (λ e. e.0) (λ e. e.0) (λ e. e.0) (λ e. e.0) (λ e. e.0)
      (λ e. e.0) (λ e. e.0) (λ e. e.0) (λ e. e.0) (λ e. e.0) (λ e. e.0) (λ e. e.0) (λ e. e.0)
      (λ e. e.0) (λ e. e.0) (λ e. e.0) (λ e. e.0) (λ e. e.0)

  abbrev expr_mentions : Expr-F Delimited ItemTree Atom Expr FlatPart GeneratorTree Head Postfix
      RunPart Variable Also BlockItem CaseClause Catch Elif ElseBlock ElseClause Finally
      NextGenerator TypeClause ExprList Flat NextExpr Operand Run
      → Expr-F Mentioned Mentioned Mentioned Mentioned Mentioned Mentioned Mentioned Mentioned
      Mentioned Mentioned Mentioned Mentioned Mentioned Mentioned Mentioned Mentioned Mentioned
      Mentioned Mentioned Mentioned Mentioned Mentioned Mentioned Mentioned Mentioned
  expr_mentions =
      map-Expr Delimited ItemTree Atom Expr FlatPart GeneratorTree Head Postfix RunPart Variable
      Also BlockItem CaseClause Catch Elif ElseBlock ElseClause Finally NextGenerator TypeClause
      ExprList Flat NextExpr Operand Run Mentioned Mentioned Mentioned Mentioned Mentioned Mentioned
      Mentioned Mentioned Mentioned Mentioned Mentioned Mentioned Mentioned Mentioned Mentioned
      Mentioned Mentioned Mentioned Mentioned Mentioned Mentioned Mentioned Mentioned Mentioned
      Mentioned mentioned_delimited mentioned_item mentioned_atom mentioned_expr mentioned_flat_part
      mentioned_generator mentioned_head mentioned_postfix mentioned_run_part mentioned_variable
      mentioned_also mentioned_block_item mentioned_case_clause mentioned_catch mentioned_elif
      mentioned_else_block mentioned_else_clause mentioned_finally mentioned_next_generator
      mentioned_type_clause mentioned_expr_list mentioned_flat mentioned_next_expr mentioned_operand
      mentioned_run

  abbrev expr_forms : Expr-F Delimited ItemTree Atom Expr FlatPart GeneratorTree Head Postfix
      RunPart Variable Also BlockItem CaseClause Catch Elif ElseBlock ElseClause Finally
      NextGenerator TypeClause ExprList Flat NextExpr Operand Run
      → Expr-F Form Placed Form Form Form FormGenerator Opening Form Form Placed Form Placed Branch
      Catching Branch Form Form Form FormGenerator TypeBranch Listed Form Form Form Form
  expr_forms =
      map-Expr Delimited ItemTree Atom Expr FlatPart GeneratorTree Head Postfix RunPart Variable
      Also BlockItem CaseClause Catch Elif ElseBlock ElseClause Finally NextGenerator TypeClause
      ExprList Flat NextExpr Operand Run Form Placed Form Form Form FormGenerator Opening Form Form
      Placed Form Placed Branch Catching Branch Form Form Form FormGenerator TypeBranch Listed Form
      Form Form Form (formed_delimited k) (formed_item k) (formed_atom k) (formed_expr k)
      (formed_flat_part k) (formed_generator k) (formed_head k) (formed_postfix k)
      (formed_run_part k) (formed_variable k) (formed_also k) (formed_block_item k)
      (formed_case_clause k) (formed_catch k) (formed_elif k) (formed_else_block k)
      (formed_else_clause k) (formed_finally k) (formed_next_generator k) (formed_type_clause k)
      (formed_expr_list k) (formed_flat k) (formed_next_expr k) (formed_operand k) (formed_run k)

  expr_mentioned : (l : Expr-F Delimited ItemTree Atom Expr FlatPart GeneratorTree Head Postfix
      RunPart Variable Also BlockItem CaseClause Catch Elif ElseBlock ElseClause Finally
      NextGenerator TypeClause ExprList Flat NextExpr Operand Run)
      → mentioned_expr (roll-Expr l) ≡ mention_expr (expr_mentions l)
  unfolding mentioned_delimited mentioned_item mentioned_atom mentioned_expr mentioned_flat_part
      mentioned_generator mentioned_head mentioned_postfix mentioned_run_part mentioned_variable
      mentioned_also mentioned_block_item mentioned_case_clause mentioned_catch mentioned_elif
      mentioned_else_block mentioned_else_clause mentioned_finally mentioned_next_generator
      mentioned_type_clause mentioned_expr_list mentioned_flat mentioned_next_expr mentioned_operand
      mentioned_run
  expr_mentioned l =
      fold-roll-Expr Mentioned Mentioned Mentioned Mentioned Mentioned Mentioned Mentioned Mentioned
      Mentioned Mentioned Mentioned Mentioned Mentioned Mentioned Mentioned Mentioned Mentioned
      Mentioned Mentioned Mentioned Mentioned Mentioned Mentioned Mentioned Mentioned
      mention_delimited mention_item mention_atom mention_expr mention_flat_part mention_generator
      mention_head mention_postfix mention_run_part mention_variable mention_also mention_block_item
      mention_case_clause mention_catch mention_elif mention_else_block mention_else_clause
      mention_finally mention_next_generator mention_type_clause mention_expr_list mention_flat
      mention_next_expr mention_operand mention_run l

  expr_formed : (l : Expr-F Delimited ItemTree Atom Expr FlatPart GeneratorTree Head Postfix RunPart
      Variable Also BlockItem CaseClause Catch Elif ElseBlock ElseClause Finally NextGenerator
      TypeClause ExprList Flat NextExpr Operand Run)
      → formed_expr k (roll-Expr l) ≡ form_expr (expr_forms l)
  unfolding formed_delimited formed_item formed_atom formed_expr formed_flat_part formed_generator
      formed_head formed_postfix formed_run_part formed_variable formed_also formed_block_item
      formed_case_clause formed_catch formed_elif formed_else_block formed_else_clause
      formed_finally formed_next_generator formed_type_clause formed_expr_list formed_flat
      formed_next_expr formed_operand formed_run
  expr_formed l =
      fold-roll-Expr Form Placed Form Form Form FormGenerator Opening Form Form Placed Form Placed
      Branch Catching Branch Form Form Form FormGenerator TypeBranch Listed Form Form Form Form
      form_delimited (form_item k) (form_atom k) form_expr form_flat_part form_generator
      (form_head k) form_postfix form_run_part (form_variable k) form_also form_block_item
      form_case_clause form_catch form_elif form_else_block form_else_clause form_finally
      form_next_generator (form_type_clause k) form_expr_list (form_flat k) form_next_expr
      form_operand form_run l

  expr_level : (y : Expr-F OneDelimited OneItem OneAtom OneExpr OneFlatPart OneGenerator OneHead
      OnePostfix OneRunPart OneVariable OneAlso OneBlockItem OneCaseClause OneCatch OneElif
      OneElseBlock OneElseClause OneFinally OneNextGenerator OneTypeClause OneExprList OneFlat
      OneNextExpr OneOperand OneRun) → Known_in (mention_expr (expr_mentions (expr_parts y)))
      → IsGood P (form_expr (expr_forms (expr_parts y)))
  expr_level (Expr-F.Flat flat) h = flat.1 h
  expr_level (Expr-F.Assign target sign None value) h =
      let a = mentioned_flat target.0 in
      let b = mentioned_flat value.0 in
      good-Assign P (place_of (formed_flat k target.0)) (formed_flat k target.0) _
      (formed_flat k value.0) (target.1 (front a ([] ++ b) h)) (value.1 (back a ([] ++ b) h))
  expr_level (Expr-F.Assign target sign (Some head) value) h =
      let a = mentioned_flat target.0 in
      let c = mentioned_head head.0 in
      let b = mentioned_flat value.0 in
      let m = back a (c ++ b) h in
      good-Assign P (place_of (formed_flat k target.0)) (formed_flat k target.0) _
      (formed_head k head.0 (formed_flat k value.0)) (target.1 (front a (c ++ b) h))
      (head.1 (front c b m) (formed_flat k value.0) (value.1 (back c b m)))
  expr_level (Expr-F.Open head body) h =
      let a = mentioned_head head.0 in
      let b = mentioned_flat body.0 in
      head.1 (front a b h) (formed_flat k body.0) (body.1 (back a b h))
  expr_level (Expr-F.OpenAssign head target sign value) h =
      let a = mentioned_head head.0 in
      let b = mentioned_flat target.0 in
      let c = mentioned_flat value.0 in
      let m = back a (b ++ c) h in
      head.1 (front a (b ++ c) h) (assignment (formed_flat k target.0) sign (formed_flat k value.0))
      (good-Assign P (place_of (formed_flat k target.0)) (formed_flat k target.0) _
      (formed_flat k value.0) (target.1 (front b c m)) (value.1 (back b c m)))

  expr_step : (x : Expr-F Delimited ItemTree Atom Expr FlatPart GeneratorTree Head Postfix RunPart
      Variable Also BlockItem CaseClause Catch Elif ElseBlock ElseClause Finally NextGenerator
      TypeClause ExprList Flat NextExpr Operand Run)
      (y : Expr-F OneDelimited OneItem OneAtom OneExpr OneFlatPart OneGenerator OneHead OnePostfix
      OneRunPart OneVariable OneAlso OneBlockItem OneCaseClause OneCatch OneElif OneElseBlock
      OneElseClause OneFinally OneNextGenerator OneTypeClause OneExprList OneFlat OneNextExpr
      OneOperand OneRun) → expr_parts y ≡ x → IsExpr (roll-Expr x)
  expr_step x y is =
      subst (λ x. IsExpr (roll-Expr x)) is
      (λ h. subst (IsGood P) (sym (expr_formed (expr_parts y)))
      (expr_level y (subst (Known_in) (expr_mentioned (expr_parts y)) h)))

  -- ---- FlatPart

  abbrev flat_part_parts : FlatPart-F OneDelimited OneItem OneAtom OneExpr OneFlatPart OneGenerator
      OneHead OnePostfix OneRunPart OneVariable OneAlso OneBlockItem OneCaseClause OneCatch OneElif
      OneElseBlock OneElseClause OneFinally OneNextGenerator OneTypeClause OneExprList OneFlat
      OneNextExpr OneOperand OneRun
      → FlatPart-F Delimited ItemTree Atom Expr FlatPart GeneratorTree Head Postfix RunPart Variable
      Also BlockItem CaseClause Catch Elif ElseBlock ElseClause Finally NextGenerator TypeClause
      ExprList Flat NextExpr Operand Run
  flat_part_parts =
      map-FlatPart OneDelimited OneItem OneAtom OneExpr OneFlatPart OneGenerator OneHead OnePostfix
      OneRunPart OneVariable OneAlso OneBlockItem OneCaseClause OneCatch OneElif OneElseBlock
      OneElseClause OneFinally OneNextGenerator OneTypeClause OneExprList OneFlat OneNextExpr
      OneOperand OneRun Delimited ItemTree Atom Expr FlatPart GeneratorTree Head Postfix RunPart
      Variable Also BlockItem CaseClause Catch Elif ElseBlock ElseClause Finally NextGenerator
      TypeClause ExprList Flat NextExpr Operand Run (λ e. e.0) (λ e. e.0) (λ e. e.0) (λ e. e.0)
      (λ e. e.0) (λ e. e.0) (λ e. e.0) (λ e. e.0) (λ e. e.0) (λ e. e.0) (λ e. e.0) (λ e. e.0)
      (λ e. e.0) (λ e. e.0) (λ e. e.0) (λ e. e.0) (λ e. e.0) (λ e. e.0) (λ e. e.0) (λ e. e.0)
      (λ e. e.0) (λ e. e.0) (λ e. e.0) (λ e. e.0) (λ e. e.0)

  abbrev flat_part_mentions : FlatPart-F Delimited ItemTree Atom Expr FlatPart GeneratorTree Head
      Postfix RunPart Variable Also BlockItem CaseClause Catch Elif ElseBlock ElseClause Finally
      NextGenerator TypeClause ExprList Flat NextExpr Operand Run
      → FlatPart-F Mentioned Mentioned Mentioned Mentioned Mentioned Mentioned Mentioned Mentioned
      Mentioned Mentioned Mentioned Mentioned Mentioned Mentioned Mentioned Mentioned Mentioned
      Mentioned Mentioned Mentioned Mentioned Mentioned Mentioned Mentioned Mentioned
  flat_part_mentions =
      map-FlatPart Delimited ItemTree Atom Expr FlatPart GeneratorTree Head Postfix RunPart Variable
      Also BlockItem CaseClause Catch Elif ElseBlock ElseClause Finally NextGenerator TypeClause
      ExprList Flat NextExpr Operand Run Mentioned Mentioned Mentioned Mentioned Mentioned Mentioned
      Mentioned Mentioned Mentioned Mentioned Mentioned Mentioned Mentioned Mentioned Mentioned
      Mentioned Mentioned Mentioned Mentioned Mentioned Mentioned Mentioned Mentioned Mentioned
      Mentioned mentioned_delimited mentioned_item mentioned_atom mentioned_expr mentioned_flat_part
      mentioned_generator mentioned_head mentioned_postfix mentioned_run_part mentioned_variable
      mentioned_also mentioned_block_item mentioned_case_clause mentioned_catch mentioned_elif
      mentioned_else_block mentioned_else_clause mentioned_finally mentioned_next_generator
      mentioned_type_clause mentioned_expr_list mentioned_flat mentioned_next_expr mentioned_operand
      mentioned_run

  abbrev flat_part_forms : FlatPart-F Delimited ItemTree Atom Expr FlatPart GeneratorTree Head
      Postfix RunPart Variable Also BlockItem CaseClause Catch Elif ElseBlock ElseClause Finally
      NextGenerator TypeClause ExprList Flat NextExpr Operand Run
      → FlatPart-F Form Placed Form Form Form FormGenerator Opening Form Form Placed Form Placed
      Branch Catching Branch Form Form Form FormGenerator TypeBranch Listed Form Form Form Form
  flat_part_forms =
      map-FlatPart Delimited ItemTree Atom Expr FlatPart GeneratorTree Head Postfix RunPart Variable
      Also BlockItem CaseClause Catch Elif ElseBlock ElseClause Finally NextGenerator TypeClause
      ExprList Flat NextExpr Operand Run Form Placed Form Form Form FormGenerator Opening Form Form
      Placed Form Placed Branch Catching Branch Form Form Form FormGenerator TypeBranch Listed Form
      Form Form Form (formed_delimited k) (formed_item k) (formed_atom k) (formed_expr k)
      (formed_flat_part k) (formed_generator k) (formed_head k) (formed_postfix k)
      (formed_run_part k) (formed_variable k) (formed_also k) (formed_block_item k)
      (formed_case_clause k) (formed_catch k) (formed_elif k) (formed_else_block k)
      (formed_else_clause k) (formed_finally k) (formed_next_generator k) (formed_type_clause k)
      (formed_expr_list k) (formed_flat k) (formed_next_expr k) (formed_operand k) (formed_run k)

  flat_part_mentioned : (l : FlatPart-F Delimited ItemTree Atom Expr FlatPart GeneratorTree Head
      Postfix RunPart Variable Also BlockItem CaseClause Catch Elif ElseBlock ElseClause Finally
      NextGenerator TypeClause ExprList Flat NextExpr Operand Run)
      → mentioned_flat_part (roll-FlatPart l) ≡ mention_flat_part (flat_part_mentions l)
  unfolding mentioned_delimited mentioned_item mentioned_atom mentioned_expr mentioned_flat_part
      mentioned_generator mentioned_head mentioned_postfix mentioned_run_part mentioned_variable
      mentioned_also mentioned_block_item mentioned_case_clause mentioned_catch mentioned_elif
      mentioned_else_block mentioned_else_clause mentioned_finally mentioned_next_generator
      mentioned_type_clause mentioned_expr_list mentioned_flat mentioned_next_expr mentioned_operand
      mentioned_run
  flat_part_mentioned l =
      fold-roll-FlatPart Mentioned Mentioned Mentioned Mentioned Mentioned Mentioned Mentioned
      Mentioned Mentioned Mentioned Mentioned Mentioned Mentioned Mentioned Mentioned Mentioned
      Mentioned Mentioned Mentioned Mentioned Mentioned Mentioned Mentioned Mentioned Mentioned
      mention_delimited mention_item mention_atom mention_expr mention_flat_part mention_generator
      mention_head mention_postfix mention_run_part mention_variable mention_also mention_block_item
      mention_case_clause mention_catch mention_elif mention_else_block mention_else_clause
      mention_finally mention_next_generator mention_type_clause mention_expr_list mention_flat
      mention_next_expr mention_operand mention_run l

  flat_part_formed : (l : FlatPart-F Delimited ItemTree Atom Expr FlatPart GeneratorTree Head
      Postfix RunPart Variable Also BlockItem CaseClause Catch Elif ElseBlock ElseClause Finally
      NextGenerator TypeClause ExprList Flat NextExpr Operand Run)
      → formed_flat_part k (roll-FlatPart l) ≡ form_flat_part (flat_part_forms l)
  unfolding formed_delimited formed_item formed_atom formed_expr formed_flat_part formed_generator
      formed_head formed_postfix formed_run_part formed_variable formed_also formed_block_item
      formed_case_clause formed_catch formed_elif formed_else_block formed_else_clause
      formed_finally formed_next_generator formed_type_clause formed_expr_list formed_flat
      formed_next_expr formed_operand formed_run
  flat_part_formed l =
      fold-roll-FlatPart Form Placed Form Form Form FormGenerator Opening Form Form Placed Form
      Placed Branch Catching Branch Form Form Form FormGenerator TypeBranch Listed Form Form Form
      Form form_delimited (form_item k) (form_atom k) form_expr form_flat_part form_generator
      (form_head k) form_postfix form_run_part (form_variable k) form_also form_block_item
      form_case_clause form_catch form_elif form_else_block form_else_clause form_finally
      form_next_generator (form_type_clause k) form_expr_list (form_flat k) form_next_expr
      form_operand form_run l

  flat_part_level : (y : FlatPart-F OneDelimited OneItem OneAtom OneExpr OneFlatPart OneGenerator
      OneHead OnePostfix OneRunPart OneVariable OneAlso OneBlockItem OneCaseClause OneCatch
      OneElif OneElseBlock OneElseClause OneFinally OneNextGenerator OneTypeClause OneExprList
      OneFlat OneNextExpr OneOperand OneRun)
      → Known_in (mention_flat_part (flat_part_mentions (flat_part_parts y)))
      → IsGood P (form_flat_part (flat_part_forms (flat_part_parts y)))
  flat_part_level (FlatPart-F.Run run) h = run.1 h
  flat_part_level (FlatPart-F.Infix sign operand) h = operand.1 h

  flat_part_step : (x : FlatPart-F Delimited ItemTree Atom Expr FlatPart GeneratorTree Head Postfix
      RunPart Variable Also BlockItem CaseClause Catch Elif ElseBlock ElseClause Finally
      NextGenerator TypeClause ExprList Flat NextExpr Operand Run)
      (y : FlatPart-F OneDelimited OneItem OneAtom OneExpr OneFlatPart OneGenerator OneHead
      OnePostfix OneRunPart OneVariable OneAlso OneBlockItem OneCaseClause OneCatch OneElif
      OneElseBlock OneElseClause OneFinally OneNextGenerator OneTypeClause OneExprList OneFlat
      OneNextExpr OneOperand OneRun) → flat_part_parts y ≡ x → IsFlatPart (roll-FlatPart x)
  flat_part_step x y is =
      subst (λ x. IsFlatPart (roll-FlatPart x)) is
      (λ h. subst (IsGood P) (sym (flat_part_formed (flat_part_parts y)))
      (flat_part_level y (subst (Known_in) (flat_part_mentioned (flat_part_parts y)) h)))

  -- ---- Generator

  abbrev generator_parts : Generator-F OneDelimited OneItem OneAtom OneExpr OneFlatPart OneGenerator
      OneHead OnePostfix OneRunPart OneVariable OneAlso OneBlockItem OneCaseClause OneCatch OneElif
      OneElseBlock OneElseClause OneFinally OneNextGenerator OneTypeClause OneExprList OneFlat
      OneNextExpr OneOperand OneRun
      → Generator-F Delimited ItemTree Atom Expr FlatPart GeneratorTree Head Postfix RunPart
      Variable Also BlockItem CaseClause Catch Elif ElseBlock ElseClause Finally NextGenerator
      TypeClause ExprList Flat NextExpr Operand Run
  generator_parts =
      map-Generator OneDelimited OneItem OneAtom OneExpr OneFlatPart OneGenerator OneHead OnePostfix
      OneRunPart OneVariable OneAlso OneBlockItem OneCaseClause OneCatch OneElif OneElseBlock
      OneElseClause OneFinally OneNextGenerator OneTypeClause OneExprList OneFlat OneNextExpr
      OneOperand OneRun Delimited ItemTree Atom Expr FlatPart GeneratorTree Head Postfix RunPart
      Variable Also BlockItem CaseClause Catch Elif ElseBlock ElseClause Finally NextGenerator
      TypeClause ExprList Flat NextExpr Operand Run (λ e. e.0) (λ e. e.0) (λ e. e.0) (λ e. e.0)
      (λ e. e.0) (λ e. e.0) (λ e. e.0) (λ e. e.0) (λ e. e.0) (λ e. e.0) (λ e. e.0) (λ e. e.0)
      (λ e. e.0) (λ e. e.0) (λ e. e.0) (λ e. e.0) (λ e. e.0) (λ e. e.0) (λ e. e.0) (λ e. e.0)
      (λ e. e.0) (λ e. e.0) (λ e. e.0) (λ e. e.0) (λ e. e.0)

  abbrev generator_mentions : Generator-F Delimited ItemTree Atom Expr FlatPart GeneratorTree Head
      Postfix RunPart Variable Also BlockItem CaseClause Catch Elif ElseBlock ElseClause Finally
      NextGenerator TypeClause ExprList Flat NextExpr Operand Run
      → Generator-F Mentioned Mentioned Mentioned Mentioned Mentioned Mentioned Mentioned Mentioned
      Mentioned Mentioned Mentioned Mentioned Mentioned Mentioned Mentioned Mentioned Mentioned
      Mentioned Mentioned Mentioned Mentioned Mentioned Mentioned Mentioned Mentioned
  generator_mentions =
      map-Generator Delimited ItemTree Atom Expr FlatPart GeneratorTree Head Postfix RunPart
      Variable Also BlockItem CaseClause Catch Elif ElseBlock ElseClause Finally NextGenerator
      TypeClause ExprList Flat NextExpr Operand Run Mentioned Mentioned Mentioned Mentioned
      Mentioned Mentioned Mentioned Mentioned Mentioned Mentioned Mentioned Mentioned Mentioned
      Mentioned Mentioned Mentioned Mentioned Mentioned Mentioned Mentioned Mentioned Mentioned
      Mentioned Mentioned Mentioned mentioned_delimited mentioned_item mentioned_atom mentioned_expr
      mentioned_flat_part mentioned_generator mentioned_head mentioned_postfix mentioned_run_part
      mentioned_variable mentioned_also mentioned_block_item mentioned_case_clause mentioned_catch
      mentioned_elif mentioned_else_block mentioned_else_clause mentioned_finally
      mentioned_next_generator mentioned_type_clause mentioned_expr_list mentioned_flat
      mentioned_next_expr mentioned_operand mentioned_run

  abbrev generator_forms : Generator-F Delimited ItemTree Atom Expr FlatPart GeneratorTree Head
      Postfix RunPart Variable Also BlockItem CaseClause Catch Elif ElseBlock ElseClause Finally
      NextGenerator TypeClause ExprList Flat NextExpr Operand Run
      → Generator-F Form Placed Form Form Form FormGenerator Opening Form Form Placed Form Placed
      Branch Catching Branch Form Form Form FormGenerator TypeBranch Listed Form Form Form Form
  generator_forms =
      map-Generator Delimited ItemTree Atom Expr FlatPart GeneratorTree Head Postfix RunPart
      Variable Also BlockItem CaseClause Catch Elif ElseBlock ElseClause Finally NextGenerator
      TypeClause ExprList Flat NextExpr Operand Run Form Placed Form Form Form FormGenerator Opening
      Form Form Placed Form Placed Branch Catching Branch Form Form Form FormGenerator TypeBranch
      Listed Form Form Form Form (formed_delimited k) (formed_item k) (formed_atom k)
      (formed_expr k) (formed_flat_part k) (formed_generator k) (formed_head k) (formed_postfix k)
      (formed_run_part k) (formed_variable k) (formed_also k) (formed_block_item k)
      (formed_case_clause k) (formed_catch k) (formed_elif k) (formed_else_block k)
      (formed_else_clause k) (formed_finally k) (formed_next_generator k) (formed_type_clause k)
      (formed_expr_list k) (formed_flat k) (formed_next_expr k) (formed_operand k) (formed_run k)

  generator_mentioned : (l : Generator-F Delimited ItemTree Atom Expr FlatPart GeneratorTree Head
      Postfix RunPart Variable Also BlockItem CaseClause Catch Elif ElseBlock ElseClause Finally
      NextGenerator TypeClause ExprList Flat NextExpr Operand Run)
      → mentioned_generator (roll-Generator l) ≡ mention_generator (generator_mentions l)
  unfolding mentioned_delimited mentioned_item mentioned_atom mentioned_expr mentioned_flat_part
      mentioned_generator mentioned_head mentioned_postfix mentioned_run_part mentioned_variable
      mentioned_also mentioned_block_item mentioned_case_clause mentioned_catch mentioned_elif
      mentioned_else_block mentioned_else_clause mentioned_finally mentioned_next_generator
      mentioned_type_clause mentioned_expr_list mentioned_flat mentioned_next_expr mentioned_operand
      mentioned_run
  generator_mentioned l =
      fold-roll-Generator Mentioned Mentioned Mentioned Mentioned Mentioned Mentioned Mentioned
      Mentioned Mentioned Mentioned Mentioned Mentioned Mentioned Mentioned Mentioned Mentioned
      Mentioned Mentioned Mentioned Mentioned Mentioned Mentioned Mentioned Mentioned Mentioned
      mention_delimited mention_item mention_atom mention_expr mention_flat_part mention_generator
      mention_head mention_postfix mention_run_part mention_variable mention_also mention_block_item
      mention_case_clause mention_catch mention_elif mention_else_block mention_else_clause
      mention_finally mention_next_generator mention_type_clause mention_expr_list mention_flat
      mention_next_expr mention_operand mention_run l

  generator_formed : (l : Generator-F Delimited ItemTree Atom Expr FlatPart GeneratorTree Head
      Postfix RunPart Variable Also BlockItem CaseClause Catch Elif ElseBlock ElseClause Finally
      NextGenerator TypeClause ExprList Flat NextExpr Operand Run)
      → formed_generator k (roll-Generator l) ≡ form_generator (generator_forms l)
  unfolding formed_delimited formed_item formed_atom formed_expr formed_flat_part formed_generator
      formed_head formed_postfix formed_run_part formed_variable formed_also formed_block_item
      formed_case_clause formed_catch formed_elif formed_else_block formed_else_clause
      formed_finally formed_next_generator formed_type_clause formed_expr_list formed_flat
      formed_next_expr formed_operand formed_run
  generator_formed l =
      fold-roll-Generator Form Placed Form Form Form FormGenerator Opening Form Form Placed Form
      Placed Branch Catching Branch Form Form Form FormGenerator TypeBranch Listed Form Form Form
      Form form_delimited (form_item k) (form_atom k) form_expr form_flat_part form_generator
      (form_head k) form_postfix form_run_part (form_variable k) form_also form_block_item
      form_case_clause form_catch form_elif form_else_block form_else_clause form_finally
      form_next_generator (form_type_clause k) form_expr_list (form_flat k) form_next_expr
      form_operand form_run l

  generator_level : (y : Generator-F OneDelimited OneItem OneAtom OneExpr OneFlatPart OneGenerator
      OneHead OnePostfix OneRunPart OneVariable OneAlso OneBlockItem OneCaseClause OneCatch
      OneElif OneElseBlock OneElseClause OneFinally OneNextGenerator OneTypeClause OneExprList
      OneFlat OneNextExpr OneOperand OneRun)
      → Known_in (mention_generator (generator_mentions (generator_parts y)))
      → GoodGenerator P (form_generator (generator_forms (generator_parts y)))
  generator_level (Generator-F.Parallel name arrow source) h =
      good-generator P name.spot.place name.id false (formed_flat k source.0) (source.1 h)
  generator_level (Generator-F.Sequential name arrow seq left source right) h =
      good-generator P name.spot.place name.id true (formed_flat k source.0) (source.1 h)

  generator_step : (x : Generator-F Delimited ItemTree Atom Expr FlatPart GeneratorTree Head Postfix
      RunPart Variable Also BlockItem CaseClause Catch Elif ElseBlock ElseClause Finally
      NextGenerator TypeClause ExprList Flat NextExpr Operand Run)
      (y : Generator-F OneDelimited OneItem OneAtom OneExpr OneFlatPart OneGenerator OneHead
      OnePostfix OneRunPart OneVariable OneAlso OneBlockItem OneCaseClause OneCatch OneElif
      OneElseBlock OneElseClause OneFinally OneNextGenerator OneTypeClause OneExprList OneFlat
      OneNextExpr OneOperand OneRun) → generator_parts y ≡ x → IsGenerator (roll-Generator x)
  generator_step x y is =
      subst (λ x. IsGenerator (roll-Generator x)) is
      (λ h. subst (GoodGenerator P) (sym (generator_formed (generator_parts y)))
      (generator_level y (subst (Known_in) (generator_mentioned (generator_parts y)) h)))

  -- ---- Head

  abbrev head_parts : Head-F OneDelimited OneItem OneAtom OneExpr OneFlatPart OneGenerator OneHead
      OnePostfix OneRunPart OneVariable OneAlso OneBlockItem OneCaseClause OneCatch OneElif
      OneElseBlock OneElseClause OneFinally OneNextGenerator OneTypeClause OneExprList OneFlat
      OneNextExpr OneOperand OneRun
      → Head-F Delimited ItemTree Atom Expr FlatPart GeneratorTree Head Postfix RunPart Variable
      Also BlockItem CaseClause Catch Elif ElseBlock ElseClause Finally NextGenerator TypeClause
      ExprList Flat NextExpr Operand Run
  head_parts =
      map-Head OneDelimited OneItem OneAtom OneExpr OneFlatPart OneGenerator OneHead OnePostfix
      OneRunPart OneVariable OneAlso OneBlockItem OneCaseClause OneCatch OneElif OneElseBlock
      OneElseClause OneFinally OneNextGenerator OneTypeClause OneExprList OneFlat OneNextExpr
      OneOperand OneRun Delimited ItemTree Atom Expr FlatPart GeneratorTree Head Postfix RunPart
      Variable Also BlockItem CaseClause Catch Elif ElseBlock ElseClause Finally NextGenerator
      TypeClause ExprList Flat NextExpr Operand Run (λ e. e.0) (λ e. e.0) (λ e. e.0) (λ e. e.0)
      (λ e. e.0) (λ e. e.0) (λ e. e.0) (λ e. e.0) (λ e. e.0) (λ e. e.0) (λ e. e.0) (λ e. e.0)
      (λ e. e.0) (λ e. e.0) (λ e. e.0) (λ e. e.0) (λ e. e.0) (λ e. e.0) (λ e. e.0) (λ e. e.0)
      (λ e. e.0) (λ e. e.0) (λ e. e.0) (λ e. e.0) (λ e. e.0)

  abbrev head_mentions : Head-F Delimited ItemTree Atom Expr FlatPart GeneratorTree Head Postfix
      RunPart Variable Also BlockItem CaseClause Catch Elif ElseBlock ElseClause Finally
      NextGenerator TypeClause ExprList Flat NextExpr Operand Run
      → Head-F Mentioned Mentioned Mentioned Mentioned Mentioned Mentioned Mentioned Mentioned
      Mentioned Mentioned Mentioned Mentioned Mentioned Mentioned Mentioned Mentioned Mentioned
      Mentioned Mentioned Mentioned Mentioned Mentioned Mentioned Mentioned Mentioned
  head_mentions =
      map-Head Delimited ItemTree Atom Expr FlatPart GeneratorTree Head Postfix RunPart Variable
      Also BlockItem CaseClause Catch Elif ElseBlock ElseClause Finally NextGenerator TypeClause
      ExprList Flat NextExpr Operand Run Mentioned Mentioned Mentioned Mentioned Mentioned Mentioned
      Mentioned Mentioned Mentioned Mentioned Mentioned Mentioned Mentioned Mentioned Mentioned
      Mentioned Mentioned Mentioned Mentioned Mentioned Mentioned Mentioned Mentioned Mentioned
      Mentioned mentioned_delimited mentioned_item mentioned_atom mentioned_expr mentioned_flat_part
      mentioned_generator mentioned_head mentioned_postfix mentioned_run_part mentioned_variable
      mentioned_also mentioned_block_item mentioned_case_clause mentioned_catch mentioned_elif
      mentioned_else_block mentioned_else_clause mentioned_finally mentioned_next_generator
      mentioned_type_clause mentioned_expr_list mentioned_flat mentioned_next_expr mentioned_operand
      mentioned_run

  abbrev head_forms : Head-F Delimited ItemTree Atom Expr FlatPart GeneratorTree Head Postfix
      RunPart Variable Also BlockItem CaseClause Catch Elif ElseBlock ElseClause Finally
      NextGenerator TypeClause ExprList Flat NextExpr Operand Run
      → Head-F Form Placed Form Form Form FormGenerator Opening Form Form Placed Form Placed Branch
      Catching Branch Form Form Form FormGenerator TypeBranch Listed Form Form Form Form
  head_forms =
      map-Head Delimited ItemTree Atom Expr FlatPart GeneratorTree Head Postfix RunPart Variable
      Also BlockItem CaseClause Catch Elif ElseBlock ElseClause Finally NextGenerator TypeClause
      ExprList Flat NextExpr Operand Run Form Placed Form Form Form FormGenerator Opening Form Form
      Placed Form Placed Branch Catching Branch Form Form Form FormGenerator TypeBranch Listed Form
      Form Form Form (formed_delimited k) (formed_item k) (formed_atom k) (formed_expr k)
      (formed_flat_part k) (formed_generator k) (formed_head k) (formed_postfix k)
      (formed_run_part k) (formed_variable k) (formed_also k) (formed_block_item k)
      (formed_case_clause k) (formed_catch k) (formed_elif k) (formed_else_block k)
      (formed_else_clause k) (formed_finally k) (formed_next_generator k) (formed_type_clause k)
      (formed_expr_list k) (formed_flat k) (formed_next_expr k) (formed_operand k) (formed_run k)

  head_mentioned : (l : Head-F Delimited ItemTree Atom Expr FlatPart GeneratorTree Head Postfix
      RunPart Variable Also BlockItem CaseClause Catch Elif ElseBlock ElseClause Finally
      NextGenerator TypeClause ExprList Flat NextExpr Operand Run)
      → mentioned_head (roll-Head l) ≡ mention_head (head_mentions l)
  unfolding mentioned_delimited mentioned_item mentioned_atom mentioned_expr mentioned_flat_part
      mentioned_generator mentioned_head mentioned_postfix mentioned_run_part mentioned_variable
      mentioned_also mentioned_block_item mentioned_case_clause mentioned_catch mentioned_elif
      mentioned_else_block mentioned_else_clause mentioned_finally mentioned_next_generator
      mentioned_type_clause mentioned_expr_list mentioned_flat mentioned_next_expr mentioned_operand
      mentioned_run
  head_mentioned l =
      fold-roll-Head Mentioned Mentioned Mentioned Mentioned Mentioned Mentioned Mentioned Mentioned
      Mentioned Mentioned Mentioned Mentioned Mentioned Mentioned Mentioned Mentioned Mentioned
      Mentioned Mentioned Mentioned Mentioned Mentioned Mentioned Mentioned Mentioned
      mention_delimited mention_item mention_atom mention_expr mention_flat_part mention_generator
      mention_head mention_postfix mention_run_part mention_variable mention_also mention_block_item
      mention_case_clause mention_catch mention_elif mention_else_block mention_else_clause
      mention_finally mention_next_generator mention_type_clause mention_expr_list mention_flat
      mention_next_expr mention_operand mention_run l

  head_formed : (l : Head-F Delimited ItemTree Atom Expr FlatPart GeneratorTree Head Postfix RunPart
      Variable Also BlockItem CaseClause Catch Elif ElseBlock ElseClause Finally NextGenerator
      TypeClause ExprList Flat NextExpr Operand Run)
      → formed_head k (roll-Head l) ≡ form_head k (head_forms l)
  unfolding formed_delimited formed_item formed_atom formed_expr formed_flat_part formed_generator
      formed_head formed_postfix formed_run_part formed_variable formed_also formed_block_item
      formed_case_clause formed_catch formed_elif formed_else_block formed_else_clause
      formed_finally formed_next_generator formed_type_clause formed_expr_list formed_flat
      formed_next_expr formed_operand formed_run
  head_formed l =
      fold-roll-Head Form Placed Form Form Form FormGenerator Opening Form Form Placed Form Placed
      Branch Catching Branch Form Form Form FormGenerator TypeBranch Listed Form Form Form Form
      form_delimited (form_item k) (form_atom k) form_expr form_flat_part form_generator
      (form_head k) form_postfix form_run_part (form_variable k) form_also form_block_item
      form_case_clause form_catch form_elif form_else_block form_else_clause form_finally
      form_next_generator (form_type_clause k) form_expr_list (form_flat k) form_next_expr
      form_operand form_run l

  head_level : (y : Head-F OneDelimited OneItem OneAtom OneExpr OneFlatPart OneGenerator OneHead
      OnePostfix OneRunPart OneVariable OneAlso OneBlockItem OneCaseClause OneCatch OneElif
      OneElseBlock OneElseClause OneFinally OneNextGenerator OneTypeClause OneExprList OneFlat
      OneNextExpr OneOperand OneRun) → Known_in (mention_head (head_mentions (head_parts y)))
      → GoodOpening (form_head k (head_forms (head_parts y)))
  head_level (Head-F.Atomic s) h = λ body g. good-Atomic P s.place body g
  head_level (Head-F.Tryatomic s) h = λ body g. good-Tryatomic P s.place body g
  head_level (Head-F.Throw s) h = λ body g. good-Throw P s.place body g
  head_level (Head-F.Spawn s) h = λ body g. good-Spawn P k.spawning s.place body g
  head_level (Head-F.Fn s left list right arrow) h =
      λ body g. good-Fn P s.place (parameters k list) body (parameters-good list h) g
  head_level (Head-F.Big big left generator right) h =
      λ body g. good-Reduce P _ _ (formed_generator k generator.0) body (generator.1 h) g

  head_step : (x : Head-F Delimited ItemTree Atom Expr FlatPart GeneratorTree Head Postfix RunPart
      Variable Also BlockItem CaseClause Catch Elif ElseBlock ElseClause Finally NextGenerator
      TypeClause ExprList Flat NextExpr Operand Run)
      (y : Head-F OneDelimited OneItem OneAtom OneExpr OneFlatPart OneGenerator OneHead OnePostfix
      OneRunPart OneVariable OneAlso OneBlockItem OneCaseClause OneCatch OneElif OneElseBlock
      OneElseClause OneFinally OneNextGenerator OneTypeClause OneExprList OneFlat OneNextExpr
      OneOperand OneRun) → head_parts y ≡ x → IsHead (roll-Head x)
  head_step x y is =
      subst (λ x. IsHead (roll-Head x)) is
      (λ h. subst (GoodOpening) (sym (head_formed (head_parts y)))
      (head_level y (subst (Known_in) (head_mentioned (head_parts y)) h)))

  -- ---- Postfix

  abbrev postfix_parts : Postfix-F OneDelimited OneItem OneAtom OneExpr OneFlatPart OneGenerator
      OneHead OnePostfix OneRunPart OneVariable OneAlso OneBlockItem OneCaseClause OneCatch OneElif
      OneElseBlock OneElseClause OneFinally OneNextGenerator OneTypeClause OneExprList OneFlat
      OneNextExpr OneOperand OneRun
      → Postfix-F Delimited ItemTree Atom Expr FlatPart GeneratorTree Head Postfix RunPart Variable
      Also BlockItem CaseClause Catch Elif ElseBlock ElseClause Finally NextGenerator TypeClause
      ExprList Flat NextExpr Operand Run
  postfix_parts =
      map-Postfix OneDelimited OneItem OneAtom OneExpr OneFlatPart OneGenerator OneHead OnePostfix
      OneRunPart OneVariable OneAlso OneBlockItem OneCaseClause OneCatch OneElif OneElseBlock
      OneElseClause OneFinally OneNextGenerator OneTypeClause OneExprList OneFlat OneNextExpr
      OneOperand OneRun Delimited ItemTree Atom Expr FlatPart GeneratorTree Head Postfix RunPart
      Variable Also BlockItem CaseClause Catch Elif ElseBlock ElseClause Finally NextGenerator
      TypeClause ExprList Flat NextExpr Operand Run (λ e. e.0) (λ e. e.0) (λ e. e.0) (λ e. e.0)
      (λ e. e.0) (λ e. e.0) (λ e. e.0) (λ e. e.0) (λ e. e.0) (λ e. e.0) (λ e. e.0) (λ e. e.0)
      (λ e. e.0) (λ e. e.0) (λ e. e.0) (λ e. e.0) (λ e. e.0) (λ e. e.0) (λ e. e.0) (λ e. e.0)
      (λ e. e.0) (λ e. e.0) (λ e. e.0) (λ e. e.0) (λ e. e.0)

  abbrev postfix_mentions : Postfix-F Delimited ItemTree Atom Expr FlatPart GeneratorTree Head
      Postfix RunPart Variable Also BlockItem CaseClause Catch Elif ElseBlock ElseClause Finally
      NextGenerator TypeClause ExprList Flat NextExpr Operand Run
      → Postfix-F Mentioned Mentioned Mentioned Mentioned Mentioned Mentioned Mentioned Mentioned
      Mentioned Mentioned Mentioned Mentioned Mentioned Mentioned Mentioned Mentioned Mentioned
      Mentioned Mentioned Mentioned Mentioned Mentioned Mentioned Mentioned Mentioned
  postfix_mentions =
      map-Postfix Delimited ItemTree Atom Expr FlatPart GeneratorTree Head Postfix RunPart Variable
      Also BlockItem CaseClause Catch Elif ElseBlock ElseClause Finally NextGenerator TypeClause
      ExprList Flat NextExpr Operand Run Mentioned Mentioned Mentioned Mentioned Mentioned Mentioned
      Mentioned Mentioned Mentioned Mentioned Mentioned Mentioned Mentioned Mentioned Mentioned
      Mentioned Mentioned Mentioned Mentioned Mentioned Mentioned Mentioned Mentioned Mentioned
      Mentioned mentioned_delimited mentioned_item mentioned_atom mentioned_expr mentioned_flat_part
      mentioned_generator mentioned_head mentioned_postfix mentioned_run_part mentioned_variable
      mentioned_also mentioned_block_item mentioned_case_clause mentioned_catch mentioned_elif
      mentioned_else_block mentioned_else_clause mentioned_finally mentioned_next_generator
      mentioned_type_clause mentioned_expr_list mentioned_flat mentioned_next_expr mentioned_operand
      mentioned_run

  abbrev postfix_forms : Postfix-F Delimited ItemTree Atom Expr FlatPart GeneratorTree Head Postfix
      RunPart Variable Also BlockItem CaseClause Catch Elif ElseBlock ElseClause Finally
      NextGenerator TypeClause ExprList Flat NextExpr Operand Run
      → Postfix-F Form Placed Form Form Form FormGenerator Opening Form Form Placed Form Placed
      Branch Catching Branch Form Form Form FormGenerator TypeBranch Listed Form Form Form Form
  postfix_forms =
      map-Postfix Delimited ItemTree Atom Expr FlatPart GeneratorTree Head Postfix RunPart Variable
      Also BlockItem CaseClause Catch Elif ElseBlock ElseClause Finally NextGenerator TypeClause
      ExprList Flat NextExpr Operand Run Form Placed Form Form Form FormGenerator Opening Form Form
      Placed Form Placed Branch Catching Branch Form Form Form FormGenerator TypeBranch Listed Form
      Form Form Form (formed_delimited k) (formed_item k) (formed_atom k) (formed_expr k)
      (formed_flat_part k) (formed_generator k) (formed_head k) (formed_postfix k)
      (formed_run_part k) (formed_variable k) (formed_also k) (formed_block_item k)
      (formed_case_clause k) (formed_catch k) (formed_elif k) (formed_else_block k)
      (formed_else_clause k) (formed_finally k) (formed_next_generator k) (formed_type_clause k)
      (formed_expr_list k) (formed_flat k) (formed_next_expr k) (formed_operand k) (formed_run k)

  postfix_mentioned : (l : Postfix-F Delimited ItemTree Atom Expr FlatPart GeneratorTree Head
      Postfix RunPart Variable Also BlockItem CaseClause Catch Elif ElseBlock ElseClause Finally
      NextGenerator TypeClause ExprList Flat NextExpr Operand Run)
      → mentioned_postfix (roll-Postfix l) ≡ mention_postfix (postfix_mentions l)
  unfolding mentioned_delimited mentioned_item mentioned_atom mentioned_expr mentioned_flat_part
      mentioned_generator mentioned_head mentioned_postfix mentioned_run_part mentioned_variable
      mentioned_also mentioned_block_item mentioned_case_clause mentioned_catch mentioned_elif
      mentioned_else_block mentioned_else_clause mentioned_finally mentioned_next_generator
      mentioned_type_clause mentioned_expr_list mentioned_flat mentioned_next_expr mentioned_operand
      mentioned_run
  postfix_mentioned l =
      fold-roll-Postfix Mentioned Mentioned Mentioned Mentioned Mentioned Mentioned Mentioned
      Mentioned Mentioned Mentioned Mentioned Mentioned Mentioned Mentioned Mentioned Mentioned
      Mentioned Mentioned Mentioned Mentioned Mentioned Mentioned Mentioned Mentioned Mentioned
      mention_delimited mention_item mention_atom mention_expr mention_flat_part mention_generator
      mention_head mention_postfix mention_run_part mention_variable mention_also mention_block_item
      mention_case_clause mention_catch mention_elif mention_else_block mention_else_clause
      mention_finally mention_next_generator mention_type_clause mention_expr_list mention_flat
      mention_next_expr mention_operand mention_run l

  postfix_formed : (l : Postfix-F Delimited ItemTree Atom Expr FlatPart GeneratorTree Head Postfix
      RunPart Variable Also BlockItem CaseClause Catch Elif ElseBlock ElseClause Finally
      NextGenerator TypeClause ExprList Flat NextExpr Operand Run)
      → formed_postfix k (roll-Postfix l) ≡ form_postfix (postfix_forms l)
  unfolding formed_delimited formed_item formed_atom formed_expr formed_flat_part formed_generator
      formed_head formed_postfix formed_run_part formed_variable formed_also formed_block_item
      formed_case_clause formed_catch formed_elif formed_else_block formed_else_clause
      formed_finally formed_next_generator formed_type_clause formed_expr_list formed_flat
      formed_next_expr formed_operand formed_run
  postfix_formed l =
      fold-roll-Postfix Form Placed Form Form Form FormGenerator Opening Form Form Placed Form
      Placed Branch Catching Branch Form Form Form FormGenerator TypeBranch Listed Form Form Form
      Form form_delimited (form_item k) (form_atom k) form_expr form_flat_part form_generator
      (form_head k) form_postfix form_run_part (form_variable k) form_also form_block_item
      form_case_clause form_catch form_elif form_else_block form_else_clause form_finally
      form_next_generator (form_type_clause k) form_expr_list (form_flat k) form_next_expr
      form_operand form_run l

  postfix_level : (y : Postfix-F OneDelimited OneItem OneAtom OneExpr OneFlatPart OneGenerator
      OneHead OnePostfix OneRunPart OneVariable OneAlso OneBlockItem OneCaseClause OneCatch
      OneElif OneElseBlock OneElseClause OneFinally OneNextGenerator OneTypeClause OneExprList
      OneFlat OneNextExpr OneOperand OneRun)
      → Known_in (mention_postfix (postfix_mentions (postfix_parts y)))
      → GoodElement P (form_postfix (postfix_forms (postfix_parts y)))
  postfix_level (Postfix-F.Subscript left index right) h =
      element-Subscript P left.place (formed_expr k index.0) (index.1 h)
  postfix_level (Postfix-F.Power power exponent) h =
      element-Power P power.place (formed_atom k exponent.0) (exponent.1 h)
  postfix_level (Postfix-F.Field dot name) h = element-Field P dot.place name.spot.place name.id
  postfix_level (Postfix-F.Call dot name left None right) h =
      element-Method P dot.place name.spot.place name.id [] tt
  postfix_level (Postfix-F.Call dot name left (Some c) right) h =
      element-Method P dot.place name.spot.place name.id (formed_expr_list k c.0) (c.1 h)

  postfix_step : (x : Postfix-F Delimited ItemTree Atom Expr FlatPart GeneratorTree Head Postfix
      RunPart Variable Also BlockItem CaseClause Catch Elif ElseBlock ElseClause Finally
      NextGenerator TypeClause ExprList Flat NextExpr Operand Run)
      (y : Postfix-F OneDelimited OneItem OneAtom OneExpr OneFlatPart OneGenerator OneHead
      OnePostfix OneRunPart OneVariable OneAlso OneBlockItem OneCaseClause OneCatch OneElif
      OneElseBlock OneElseClause OneFinally OneNextGenerator OneTypeClause OneExprList OneFlat
      OneNextExpr OneOperand OneRun) → postfix_parts y ≡ x → IsPostfix (roll-Postfix x)
  postfix_step x y is =
      subst (λ x. IsPostfix (roll-Postfix x)) is
      (λ h. subst (GoodElement P) (sym (postfix_formed (postfix_parts y)))
      (postfix_level y (subst (Known_in) (postfix_mentioned (postfix_parts y)) h)))

  -- ---- RunPart

  abbrev run_part_parts : RunPart-F OneDelimited OneItem OneAtom OneExpr OneFlatPart OneGenerator
      OneHead OnePostfix OneRunPart OneVariable OneAlso OneBlockItem OneCaseClause OneCatch OneElif
      OneElseBlock OneElseClause OneFinally OneNextGenerator OneTypeClause OneExprList OneFlat
      OneNextExpr OneOperand OneRun
      → RunPart-F Delimited ItemTree Atom Expr FlatPart GeneratorTree Head Postfix RunPart Variable
      Also BlockItem CaseClause Catch Elif ElseBlock ElseClause Finally NextGenerator TypeClause
      ExprList Flat NextExpr Operand Run
  run_part_parts =
      map-RunPart OneDelimited OneItem OneAtom OneExpr OneFlatPart OneGenerator OneHead OnePostfix
      OneRunPart OneVariable OneAlso OneBlockItem OneCaseClause OneCatch OneElif OneElseBlock
      OneElseClause OneFinally OneNextGenerator OneTypeClause OneExprList OneFlat OneNextExpr
      OneOperand OneRun Delimited ItemTree Atom Expr FlatPart GeneratorTree Head Postfix RunPart
      Variable Also BlockItem CaseClause Catch Elif ElseBlock ElseClause Finally NextGenerator
      TypeClause ExprList Flat NextExpr Operand Run (λ e. e.0) (λ e. e.0) (λ e. e.0) (λ e. e.0)
      (λ e. e.0) (λ e. e.0) (λ e. e.0) (λ e. e.0) (λ e. e.0) (λ e. e.0) (λ e. e.0) (λ e. e.0)
      (λ e. e.0) (λ e. e.0) (λ e. e.0) (λ e. e.0) (λ e. e.0) (λ e. e.0) (λ e. e.0) (λ e. e.0)
      (λ e. e.0) (λ e. e.0) (λ e. e.0) (λ e. e.0) (λ e. e.0)

  abbrev run_part_mentions : RunPart-F Delimited ItemTree Atom Expr FlatPart GeneratorTree Head
      Postfix RunPart Variable Also BlockItem CaseClause Catch Elif ElseBlock ElseClause Finally
      NextGenerator TypeClause ExprList Flat NextExpr Operand Run
      → RunPart-F Mentioned Mentioned Mentioned Mentioned Mentioned Mentioned Mentioned Mentioned
      Mentioned Mentioned Mentioned Mentioned Mentioned Mentioned Mentioned Mentioned Mentioned
      Mentioned Mentioned Mentioned Mentioned Mentioned Mentioned Mentioned Mentioned
  run_part_mentions =
      map-RunPart Delimited ItemTree Atom Expr FlatPart GeneratorTree Head Postfix RunPart Variable
      Also BlockItem CaseClause Catch Elif ElseBlock ElseClause Finally NextGenerator TypeClause
      ExprList Flat NextExpr Operand Run Mentioned Mentioned Mentioned Mentioned Mentioned Mentioned
      Mentioned Mentioned Mentioned Mentioned Mentioned Mentioned Mentioned Mentioned Mentioned
      Mentioned Mentioned Mentioned Mentioned Mentioned Mentioned Mentioned Mentioned Mentioned
      Mentioned mentioned_delimited mentioned_item mentioned_atom mentioned_expr mentioned_flat_part
      mentioned_generator mentioned_head mentioned_postfix mentioned_run_part mentioned_variable
      mentioned_also mentioned_block_item mentioned_case_clause mentioned_catch mentioned_elif
      mentioned_else_block mentioned_else_clause mentioned_finally mentioned_next_generator
      mentioned_type_clause mentioned_expr_list mentioned_flat mentioned_next_expr mentioned_operand
      mentioned_run

  abbrev run_part_forms : RunPart-F Delimited ItemTree Atom Expr FlatPart GeneratorTree Head Postfix
      RunPart Variable Also BlockItem CaseClause Catch Elif ElseBlock ElseClause Finally
      NextGenerator TypeClause ExprList Flat NextExpr Operand Run
      → RunPart-F Form Placed Form Form Form FormGenerator Opening Form Form Placed Form Placed
      Branch Catching Branch Form Form Form FormGenerator TypeBranch Listed Form Form Form Form
  run_part_forms =
      map-RunPart Delimited ItemTree Atom Expr FlatPart GeneratorTree Head Postfix RunPart Variable
      Also BlockItem CaseClause Catch Elif ElseBlock ElseClause Finally NextGenerator TypeClause
      ExprList Flat NextExpr Operand Run Form Placed Form Form Form FormGenerator Opening Form Form
      Placed Form Placed Branch Catching Branch Form Form Form FormGenerator TypeBranch Listed Form
      Form Form Form (formed_delimited k) (formed_item k) (formed_atom k) (formed_expr k)
      (formed_flat_part k) (formed_generator k) (formed_head k) (formed_postfix k)
      (formed_run_part k) (formed_variable k) (formed_also k) (formed_block_item k)
      (formed_case_clause k) (formed_catch k) (formed_elif k) (formed_else_block k)
      (formed_else_clause k) (formed_finally k) (formed_next_generator k) (formed_type_clause k)
      (formed_expr_list k) (formed_flat k) (formed_next_expr k) (formed_operand k) (formed_run k)

  run_part_mentioned : (l : RunPart-F Delimited ItemTree Atom Expr FlatPart GeneratorTree Head
      Postfix RunPart Variable Also BlockItem CaseClause Catch Elif ElseBlock ElseClause Finally
      NextGenerator TypeClause ExprList Flat NextExpr Operand Run)
      → mentioned_run_part (roll-RunPart l) ≡ mention_run_part (run_part_mentions l)
  unfolding mentioned_delimited mentioned_item mentioned_atom mentioned_expr mentioned_flat_part
      mentioned_generator mentioned_head mentioned_postfix mentioned_run_part mentioned_variable
      mentioned_also mentioned_block_item mentioned_case_clause mentioned_catch mentioned_elif
      mentioned_else_block mentioned_else_clause mentioned_finally mentioned_next_generator
      mentioned_type_clause mentioned_expr_list mentioned_flat mentioned_next_expr mentioned_operand
      mentioned_run
  run_part_mentioned l =
      fold-roll-RunPart Mentioned Mentioned Mentioned Mentioned Mentioned Mentioned Mentioned
      Mentioned Mentioned Mentioned Mentioned Mentioned Mentioned Mentioned Mentioned Mentioned
      Mentioned Mentioned Mentioned Mentioned Mentioned Mentioned Mentioned Mentioned Mentioned
      mention_delimited mention_item mention_atom mention_expr mention_flat_part mention_generator
      mention_head mention_postfix mention_run_part mention_variable mention_also mention_block_item
      mention_case_clause mention_catch mention_elif mention_else_block mention_else_clause
      mention_finally mention_next_generator mention_type_clause mention_expr_list mention_flat
      mention_next_expr mention_operand mention_run l

  run_part_formed : (l : RunPart-F Delimited ItemTree Atom Expr FlatPart GeneratorTree Head Postfix
      RunPart Variable Also BlockItem CaseClause Catch Elif ElseBlock ElseClause Finally
      NextGenerator TypeClause ExprList Flat NextExpr Operand Run)
      → formed_run_part k (roll-RunPart l) ≡ form_run_part (run_part_forms l)
  unfolding formed_delimited formed_item formed_atom formed_expr formed_flat_part formed_generator
      formed_head formed_postfix formed_run_part formed_variable formed_also formed_block_item
      formed_case_clause formed_catch formed_elif formed_else_block formed_else_clause
      formed_finally formed_next_generator formed_type_clause formed_expr_list formed_flat
      formed_next_expr formed_operand formed_run
  run_part_formed l =
      fold-roll-RunPart Form Placed Form Form Form FormGenerator Opening Form Form Placed Form
      Placed Branch Catching Branch Form Form Form FormGenerator TypeBranch Listed Form Form Form
      Form form_delimited (form_item k) (form_atom k) form_expr form_flat_part form_generator
      (form_head k) form_postfix form_run_part (form_variable k) form_also form_block_item
      form_case_clause form_catch form_elif form_else_block form_else_clause form_finally
      form_next_generator (form_type_clause k) form_expr_list (form_flat k) form_next_expr
      form_operand form_run l

  run_part_level : (y : RunPart-F OneDelimited OneItem OneAtom OneExpr OneFlatPart OneGenerator
      OneHead OnePostfix OneRunPart OneVariable OneAlso OneBlockItem OneCaseClause OneCatch
      OneElif OneElseBlock OneElseClause OneFinally OneNextGenerator OneTypeClause OneExprList
      OneFlat OneNextExpr OneOperand OneRun)
      → Known_in (mention_run_part (run_part_mentions (run_part_parts y)))
      → GoodElement P (form_run_part (run_part_forms (run_part_parts y)))
  run_part_level (RunPart-F.Atom atom) h = as-element P (formed_atom k atom.0) (atom.1 h)
  run_part_level (RunPart-F.Postfix postfix) h = postfix.1 h

  run_part_step : (x : RunPart-F Delimited ItemTree Atom Expr FlatPart GeneratorTree Head Postfix
      RunPart Variable Also BlockItem CaseClause Catch Elif ElseBlock ElseClause Finally
      NextGenerator TypeClause ExprList Flat NextExpr Operand Run)
      (y : RunPart-F OneDelimited OneItem OneAtom OneExpr OneFlatPart OneGenerator OneHead
      OnePostfix OneRunPart OneVariable OneAlso OneBlockItem OneCaseClause OneCatch OneElif
      OneElseBlock OneElseClause OneFinally OneNextGenerator OneTypeClause OneExprList OneFlat
      OneNextExpr OneOperand OneRun) → run_part_parts y ≡ x → IsRunPart (roll-RunPart x)
  run_part_step x y is =
      subst (λ x. IsRunPart (roll-RunPart x)) is
      (λ h. subst (GoodElement P) (sym (run_part_formed (run_part_parts y)))
      (run_part_level y (subst (Known_in) (run_part_mentioned (run_part_parts y)) h)))

  -- ---- Variable

  abbrev variable_parts : Variable-F OneDelimited OneItem OneAtom OneExpr OneFlatPart OneGenerator
      OneHead OnePostfix OneRunPart OneVariable OneAlso OneBlockItem OneCaseClause OneCatch OneElif
      OneElseBlock OneElseClause OneFinally OneNextGenerator OneTypeClause OneExprList OneFlat
      OneNextExpr OneOperand OneRun
      → Variable-F Delimited ItemTree Atom Expr FlatPart GeneratorTree Head Postfix RunPart Variable
      Also BlockItem CaseClause Catch Elif ElseBlock ElseClause Finally NextGenerator TypeClause
      ExprList Flat NextExpr Operand Run
  variable_parts =
      map-Variable OneDelimited OneItem OneAtom OneExpr OneFlatPart OneGenerator OneHead OnePostfix
      OneRunPart OneVariable OneAlso OneBlockItem OneCaseClause OneCatch OneElif OneElseBlock
      OneElseClause OneFinally OneNextGenerator OneTypeClause OneExprList OneFlat OneNextExpr
      OneOperand OneRun Delimited ItemTree Atom Expr FlatPart GeneratorTree Head Postfix RunPart
      Variable Also BlockItem CaseClause Catch Elif ElseBlock ElseClause Finally NextGenerator
      TypeClause ExprList Flat NextExpr Operand Run (λ e. e.0) (λ e. e.0) (λ e. e.0) (λ e. e.0)
      (λ e. e.0) (λ e. e.0) (λ e. e.0) (λ e. e.0) (λ e. e.0) (λ e. e.0) (λ e. e.0) (λ e. e.0)
      (λ e. e.0) (λ e. e.0) (λ e. e.0) (λ e. e.0) (λ e. e.0) (λ e. e.0) (λ e. e.0) (λ e. e.0)
      (λ e. e.0) (λ e. e.0) (λ e. e.0) (λ e. e.0) (λ e. e.0)

  abbrev variable_mentions : Variable-F Delimited ItemTree Atom Expr FlatPart GeneratorTree Head
      Postfix RunPart Variable Also BlockItem CaseClause Catch Elif ElseBlock ElseClause Finally
      NextGenerator TypeClause ExprList Flat NextExpr Operand Run
      → Variable-F Mentioned Mentioned Mentioned Mentioned Mentioned Mentioned Mentioned Mentioned
      Mentioned Mentioned Mentioned Mentioned Mentioned Mentioned Mentioned Mentioned Mentioned
      Mentioned Mentioned Mentioned Mentioned Mentioned Mentioned Mentioned Mentioned
  variable_mentions =
      map-Variable Delimited ItemTree Atom Expr FlatPart GeneratorTree Head Postfix RunPart Variable
      Also BlockItem CaseClause Catch Elif ElseBlock ElseClause Finally NextGenerator TypeClause
      ExprList Flat NextExpr Operand Run Mentioned Mentioned Mentioned Mentioned Mentioned Mentioned
      Mentioned Mentioned Mentioned Mentioned Mentioned Mentioned Mentioned Mentioned Mentioned
      Mentioned Mentioned Mentioned Mentioned Mentioned Mentioned Mentioned Mentioned Mentioned
      Mentioned mentioned_delimited mentioned_item mentioned_atom mentioned_expr mentioned_flat_part
      mentioned_generator mentioned_head mentioned_postfix mentioned_run_part mentioned_variable
      mentioned_also mentioned_block_item mentioned_case_clause mentioned_catch mentioned_elif
      mentioned_else_block mentioned_else_clause mentioned_finally mentioned_next_generator
      mentioned_type_clause mentioned_expr_list mentioned_flat mentioned_next_expr mentioned_operand
      mentioned_run

  abbrev variable_forms : Variable-F Delimited ItemTree Atom Expr FlatPart GeneratorTree Head
      Postfix RunPart Variable Also BlockItem CaseClause Catch Elif ElseBlock ElseClause Finally
      NextGenerator TypeClause ExprList Flat NextExpr Operand Run
      → Variable-F Form Placed Form Form Form FormGenerator Opening Form Form Placed Form Placed
      Branch Catching Branch Form Form Form FormGenerator TypeBranch Listed Form Form Form Form
  variable_forms =
      map-Variable Delimited ItemTree Atom Expr FlatPart GeneratorTree Head Postfix RunPart Variable
      Also BlockItem CaseClause Catch Elif ElseBlock ElseClause Finally NextGenerator TypeClause
      ExprList Flat NextExpr Operand Run Form Placed Form Form Form FormGenerator Opening Form Form
      Placed Form Placed Branch Catching Branch Form Form Form FormGenerator TypeBranch Listed Form
      Form Form Form (formed_delimited k) (formed_item k) (formed_atom k) (formed_expr k)
      (formed_flat_part k) (formed_generator k) (formed_head k) (formed_postfix k)
      (formed_run_part k) (formed_variable k) (formed_also k) (formed_block_item k)
      (formed_case_clause k) (formed_catch k) (formed_elif k) (formed_else_block k)
      (formed_else_clause k) (formed_finally k) (formed_next_generator k) (formed_type_clause k)
      (formed_expr_list k) (formed_flat k) (formed_next_expr k) (formed_operand k) (formed_run k)

  variable_mentioned : (l : Variable-F Delimited ItemTree Atom Expr FlatPart GeneratorTree Head
      Postfix RunPart Variable Also BlockItem CaseClause Catch Elif ElseBlock ElseClause Finally
      NextGenerator TypeClause ExprList Flat NextExpr Operand Run)
      → mentioned_variable (roll-Variable l) ≡ mention_variable (variable_mentions l)
  unfolding mentioned_delimited mentioned_item mentioned_atom mentioned_expr mentioned_flat_part
      mentioned_generator mentioned_head mentioned_postfix mentioned_run_part mentioned_variable
      mentioned_also mentioned_block_item mentioned_case_clause mentioned_catch mentioned_elif
      mentioned_else_block mentioned_else_clause mentioned_finally mentioned_next_generator
      mentioned_type_clause mentioned_expr_list mentioned_flat mentioned_next_expr mentioned_operand
      mentioned_run
  variable_mentioned l =
      fold-roll-Variable Mentioned Mentioned Mentioned Mentioned Mentioned Mentioned Mentioned
      Mentioned Mentioned Mentioned Mentioned Mentioned Mentioned Mentioned Mentioned Mentioned
      Mentioned Mentioned Mentioned Mentioned Mentioned Mentioned Mentioned Mentioned Mentioned
      mention_delimited mention_item mention_atom mention_expr mention_flat_part mention_generator
      mention_head mention_postfix mention_run_part mention_variable mention_also mention_block_item
      mention_case_clause mention_catch mention_elif mention_else_block mention_else_clause
      mention_finally mention_next_generator mention_type_clause mention_expr_list mention_flat
      mention_next_expr mention_operand mention_run l

  variable_formed : (l : Variable-F Delimited ItemTree Atom Expr FlatPart GeneratorTree Head Postfix
      RunPart Variable Also BlockItem CaseClause Catch Elif ElseBlock ElseClause Finally
      NextGenerator TypeClause ExprList Flat NextExpr Operand Run)
      → formed_variable k (roll-Variable l) ≡ form_variable k (variable_forms l)
  unfolding formed_delimited formed_item formed_atom formed_expr formed_flat_part formed_generator
      formed_head formed_postfix formed_run_part formed_variable formed_also formed_block_item
      formed_case_clause formed_catch formed_elif formed_else_block formed_else_clause
      formed_finally formed_next_generator formed_type_clause formed_expr_list formed_flat
      formed_next_expr formed_operand formed_run
  variable_formed l =
      fold-roll-Variable Form Placed Form Form Form FormGenerator Opening Form Form Placed Form
      Placed Branch Catching Branch Form Form Form FormGenerator TypeBranch Listed Form Form Form
      Form form_delimited (form_item k) (form_atom k) form_expr form_flat_part form_generator
      (form_head k) form_postfix form_run_part (form_variable k) form_also form_block_item
      form_case_clause form_catch form_elif form_else_block form_else_clause form_finally
      form_next_generator (form_type_clause k) form_expr_list (form_flat k) form_next_expr
      form_operand form_run l

  variable_level : (y : Variable-F OneDelimited OneItem OneAtom OneExpr OneFlatPart OneGenerator
      OneHead OnePostfix OneRunPart OneVariable OneAlso OneBlockItem OneCaseClause OneCatch
      OneElif OneElseBlock OneElseClause OneFinally OneNextGenerator OneTypeClause OneExprList
      OneFlat OneNextExpr OneOperand OneRun)
      → Known_in (mention_variable (variable_mentions (variable_parts y)))
      → GoodPlaced (form_variable k (variable_forms (variable_parts y)))
  variable_level y h =
      item-Local P _ _ _ (k.written y.ty) (formed_expr k y.value.0)
      (S.types y.ty (front (mentioned_type y.ty) (mentioned_expr y.value.0) h))
      (y.value.1 (back (mentioned_type y.ty) (mentioned_expr y.value.0) h))

  variable_step : (x : Variable-F Delimited ItemTree Atom Expr FlatPart GeneratorTree Head Postfix
      RunPart Variable Also BlockItem CaseClause Catch Elif ElseBlock ElseClause Finally
      NextGenerator TypeClause ExprList Flat NextExpr Operand Run)
      (y : Variable-F OneDelimited OneItem OneAtom OneExpr OneFlatPart OneGenerator OneHead
      OnePostfix OneRunPart OneVariable OneAlso OneBlockItem OneCaseClause OneCatch OneElif
      OneElseBlock OneElseClause OneFinally OneNextGenerator OneTypeClause OneExprList OneFlat
      OneNextExpr OneOperand OneRun) → variable_parts y ≡ x → IsVariable (roll-Variable x)
  variable_step x y is =
      subst (λ x. IsVariable (roll-Variable x)) is
      (λ h. subst (GoodPlaced) (sym (variable_formed (variable_parts y)))
      (variable_level y (subst (Known_in) (variable_mentioned (variable_parts y)) h)))

  -- ---- Also

  abbrev also_parts : Also-F OneDelimited OneItem OneAtom OneExpr OneFlatPart OneGenerator OneHead
      OnePostfix OneRunPart OneVariable OneAlso OneBlockItem OneCaseClause OneCatch OneElif
      OneElseBlock OneElseClause OneFinally OneNextGenerator OneTypeClause OneExprList OneFlat
      OneNextExpr OneOperand OneRun
      → Also-F Delimited ItemTree Atom Expr FlatPart GeneratorTree Head Postfix RunPart Variable
      Also BlockItem CaseClause Catch Elif ElseBlock ElseClause Finally NextGenerator TypeClause
      ExprList Flat NextExpr Operand Run
  also_parts =
      map-Also OneDelimited OneItem OneAtom OneExpr OneFlatPart OneGenerator OneHead OnePostfix
      OneRunPart OneVariable OneAlso OneBlockItem OneCaseClause OneCatch OneElif OneElseBlock
      OneElseClause OneFinally OneNextGenerator OneTypeClause OneExprList OneFlat OneNextExpr
      OneOperand OneRun Delimited ItemTree Atom Expr FlatPart GeneratorTree Head Postfix RunPart
      Variable Also BlockItem CaseClause Catch Elif ElseBlock ElseClause Finally NextGenerator
      TypeClause ExprList Flat NextExpr Operand Run (λ e. e.0) (λ e. e.0) (λ e. e.0) (λ e. e.0)
      (λ e. e.0) (λ e. e.0) (λ e. e.0) (λ e. e.0) (λ e. e.0) (λ e. e.0) (λ e. e.0) (λ e. e.0)
      (λ e. e.0) (λ e. e.0) (λ e. e.0) (λ e. e.0) (λ e. e.0) (λ e. e.0) (λ e. e.0) (λ e. e.0)
      (λ e. e.0) (λ e. e.0) (λ e. e.0) (λ e. e.0) (λ e. e.0)

  abbrev also_mentions : Also-F Delimited ItemTree Atom Expr FlatPart GeneratorTree Head Postfix
      RunPart Variable Also BlockItem CaseClause Catch Elif ElseBlock ElseClause Finally
      NextGenerator TypeClause ExprList Flat NextExpr Operand Run
      → Also-F Mentioned Mentioned Mentioned Mentioned Mentioned Mentioned Mentioned Mentioned
      Mentioned Mentioned Mentioned Mentioned Mentioned Mentioned Mentioned Mentioned Mentioned
      Mentioned Mentioned Mentioned Mentioned Mentioned Mentioned Mentioned Mentioned
  also_mentions =
      map-Also Delimited ItemTree Atom Expr FlatPart GeneratorTree Head Postfix RunPart Variable
      Also BlockItem CaseClause Catch Elif ElseBlock ElseClause Finally NextGenerator TypeClause
      ExprList Flat NextExpr Operand Run Mentioned Mentioned Mentioned Mentioned Mentioned Mentioned
      Mentioned Mentioned Mentioned Mentioned Mentioned Mentioned Mentioned Mentioned Mentioned
      Mentioned Mentioned Mentioned Mentioned Mentioned Mentioned Mentioned Mentioned Mentioned
      Mentioned mentioned_delimited mentioned_item mentioned_atom mentioned_expr mentioned_flat_part
      mentioned_generator mentioned_head mentioned_postfix mentioned_run_part mentioned_variable
      mentioned_also mentioned_block_item mentioned_case_clause mentioned_catch mentioned_elif
      mentioned_else_block mentioned_else_clause mentioned_finally mentioned_next_generator
      mentioned_type_clause mentioned_expr_list mentioned_flat mentioned_next_expr mentioned_operand
      mentioned_run

  abbrev also_forms : Also-F Delimited ItemTree Atom Expr FlatPart GeneratorTree Head Postfix
      RunPart Variable Also BlockItem CaseClause Catch Elif ElseBlock ElseClause Finally
      NextGenerator TypeClause ExprList Flat NextExpr Operand Run
      → Also-F Form Placed Form Form Form FormGenerator Opening Form Form Placed Form Placed Branch
      Catching Branch Form Form Form FormGenerator TypeBranch Listed Form Form Form Form
  also_forms =
      map-Also Delimited ItemTree Atom Expr FlatPart GeneratorTree Head Postfix RunPart Variable
      Also BlockItem CaseClause Catch Elif ElseBlock ElseClause Finally NextGenerator TypeClause
      ExprList Flat NextExpr Operand Run Form Placed Form Form Form FormGenerator Opening Form Form
      Placed Form Placed Branch Catching Branch Form Form Form FormGenerator TypeBranch Listed Form
      Form Form Form (formed_delimited k) (formed_item k) (formed_atom k) (formed_expr k)
      (formed_flat_part k) (formed_generator k) (formed_head k) (formed_postfix k)
      (formed_run_part k) (formed_variable k) (formed_also k) (formed_block_item k)
      (formed_case_clause k) (formed_catch k) (formed_elif k) (formed_else_block k)
      (formed_else_clause k) (formed_finally k) (formed_next_generator k) (formed_type_clause k)
      (formed_expr_list k) (formed_flat k) (formed_next_expr k) (formed_operand k) (formed_run k)

  also_mentioned : (l : Also-F Delimited ItemTree Atom Expr FlatPart GeneratorTree Head Postfix
      RunPart Variable Also BlockItem CaseClause Catch Elif ElseBlock ElseClause Finally
      NextGenerator TypeClause ExprList Flat NextExpr Operand Run)
      → mentioned_also (roll-Also l) ≡ mention_also (also_mentions l)
  unfolding mentioned_delimited mentioned_item mentioned_atom mentioned_expr mentioned_flat_part
      mentioned_generator mentioned_head mentioned_postfix mentioned_run_part mentioned_variable
      mentioned_also mentioned_block_item mentioned_case_clause mentioned_catch mentioned_elif
      mentioned_else_block mentioned_else_clause mentioned_finally mentioned_next_generator
      mentioned_type_clause mentioned_expr_list mentioned_flat mentioned_next_expr mentioned_operand
      mentioned_run
  also_mentioned l =
      fold-roll-Also Mentioned Mentioned Mentioned Mentioned Mentioned Mentioned Mentioned Mentioned
      Mentioned Mentioned Mentioned Mentioned Mentioned Mentioned Mentioned Mentioned Mentioned
      Mentioned Mentioned Mentioned Mentioned Mentioned Mentioned Mentioned Mentioned
      mention_delimited mention_item mention_atom mention_expr mention_flat_part mention_generator
      mention_head mention_postfix mention_run_part mention_variable mention_also mention_block_item
      mention_case_clause mention_catch mention_elif mention_else_block mention_else_clause
      mention_finally mention_next_generator mention_type_clause mention_expr_list mention_flat
      mention_next_expr mention_operand mention_run l

  also_formed : (l : Also-F Delimited ItemTree Atom Expr FlatPart GeneratorTree Head Postfix RunPart
      Variable Also BlockItem CaseClause Catch Elif ElseBlock ElseClause Finally NextGenerator
      TypeClause ExprList Flat NextExpr Operand Run)
      → formed_also k (roll-Also l) ≡ form_also (also_forms l)
  unfolding formed_delimited formed_item formed_atom formed_expr formed_flat_part formed_generator
      formed_head formed_postfix formed_run_part formed_variable formed_also formed_block_item
      formed_case_clause formed_catch formed_elif formed_else_block formed_else_clause
      formed_finally formed_next_generator formed_type_clause formed_expr_list formed_flat
      formed_next_expr formed_operand formed_run
  also_formed l =
      fold-roll-Also Form Placed Form Form Form FormGenerator Opening Form Form Placed Form Placed
      Branch Catching Branch Form Form Form FormGenerator TypeBranch Listed Form Form Form Form
      form_delimited (form_item k) (form_atom k) form_expr form_flat_part form_generator
      (form_head k) form_postfix form_run_part (form_variable k) form_also form_block_item
      form_case_clause form_catch form_elif form_else_block form_else_clause form_finally
      form_next_generator (form_type_clause k) form_expr_list (form_flat k) form_next_expr
      form_operand form_run l

  also_level : (y : Also-F OneDelimited OneItem OneAtom OneExpr OneFlatPart OneGenerator OneHead
      OnePostfix OneRunPart OneVariable OneAlso OneBlockItem OneCaseClause OneCatch OneElif
      OneElseBlock OneElseClause OneFinally OneNextGenerator OneTypeClause OneExprList OneFlat
      OneNextExpr OneOperand OneRun) → Known_in (mention_also (also_mentions (also_parts y)))
      → IsGood P (form_also (also_forms (also_parts y)))
  also_level y h =
      block-good y.do_ (map (formed_block_item k) (firsts y.block))
      (each mentioned_block_item (formed_block_item k) GoodPlaced y.block h)

  also_step : (x : Also-F Delimited ItemTree Atom Expr FlatPart GeneratorTree Head Postfix RunPart
      Variable Also BlockItem CaseClause Catch Elif ElseBlock ElseClause Finally NextGenerator
      TypeClause ExprList Flat NextExpr Operand Run)
      (y : Also-F OneDelimited OneItem OneAtom OneExpr OneFlatPart OneGenerator OneHead OnePostfix
      OneRunPart OneVariable OneAlso OneBlockItem OneCaseClause OneCatch OneElif OneElseBlock
      OneElseClause OneFinally OneNextGenerator OneTypeClause OneExprList OneFlat OneNextExpr
      OneOperand OneRun) → also_parts y ≡ x → IsAlso (roll-Also x)
  also_step x y is =
      subst (λ x. IsAlso (roll-Also x)) is
      (λ h. subst (IsGood P) (sym (also_formed (also_parts y)))
      (also_level y (subst (Known_in) (also_mentioned (also_parts y)) h)))

  -- ---- BlockItem

  abbrev block_item_parts : BlockItem-F OneDelimited OneItem OneAtom OneExpr OneFlatPart
      OneGenerator OneHead OnePostfix OneRunPart OneVariable OneAlso OneBlockItem OneCaseClause
      OneCatch OneElif OneElseBlock OneElseClause OneFinally OneNextGenerator OneTypeClause
      OneExprList OneFlat OneNextExpr OneOperand OneRun
      → BlockItem-F Delimited ItemTree Atom Expr FlatPart GeneratorTree Head Postfix RunPart
      Variable Also BlockItem CaseClause Catch Elif ElseBlock ElseClause Finally NextGenerator
      TypeClause ExprList Flat NextExpr Operand Run
  block_item_parts =
      map-BlockItem OneDelimited OneItem OneAtom OneExpr OneFlatPart OneGenerator OneHead OnePostfix
      OneRunPart OneVariable OneAlso OneBlockItem OneCaseClause OneCatch OneElif OneElseBlock
      OneElseClause OneFinally OneNextGenerator OneTypeClause OneExprList OneFlat OneNextExpr
      OneOperand OneRun Delimited ItemTree Atom Expr FlatPart GeneratorTree Head Postfix RunPart
      Variable Also BlockItem CaseClause Catch Elif ElseBlock ElseClause Finally NextGenerator
      TypeClause ExprList Flat NextExpr Operand Run (λ e. e.0) (λ e. e.0) (λ e. e.0) (λ e. e.0)
      (λ e. e.0) (λ e. e.0) (λ e. e.0) (λ e. e.0) (λ e. e.0) (λ e. e.0) (λ e. e.0) (λ e. e.0)
      (λ e. e.0) (λ e. e.0) (λ e. e.0) (λ e. e.0) (λ e. e.0) (λ e. e.0) (λ e. e.0) (λ e. e.0)
      (λ e. e.0) (λ e. e.0) (λ e. e.0) (λ e. e.0) (λ e. e.0)

  abbrev block_item_mentions : BlockItem-F Delimited ItemTree Atom Expr FlatPart GeneratorTree Head
      Postfix RunPart Variable Also BlockItem CaseClause Catch Elif ElseBlock ElseClause Finally
      NextGenerator TypeClause ExprList Flat NextExpr Operand Run
      → BlockItem-F Mentioned Mentioned Mentioned Mentioned Mentioned Mentioned Mentioned Mentioned
      Mentioned Mentioned Mentioned Mentioned Mentioned Mentioned Mentioned Mentioned Mentioned
      Mentioned Mentioned Mentioned Mentioned Mentioned Mentioned Mentioned Mentioned
  block_item_mentions =
      map-BlockItem Delimited ItemTree Atom Expr FlatPart GeneratorTree Head Postfix RunPart
      Variable Also BlockItem CaseClause Catch Elif ElseBlock ElseClause Finally NextGenerator
      TypeClause ExprList Flat NextExpr Operand Run Mentioned Mentioned Mentioned Mentioned
      Mentioned Mentioned Mentioned Mentioned Mentioned Mentioned Mentioned Mentioned Mentioned
      Mentioned Mentioned Mentioned Mentioned Mentioned Mentioned Mentioned Mentioned Mentioned
      Mentioned Mentioned Mentioned mentioned_delimited mentioned_item mentioned_atom mentioned_expr
      mentioned_flat_part mentioned_generator mentioned_head mentioned_postfix mentioned_run_part
      mentioned_variable mentioned_also mentioned_block_item mentioned_case_clause mentioned_catch
      mentioned_elif mentioned_else_block mentioned_else_clause mentioned_finally
      mentioned_next_generator mentioned_type_clause mentioned_expr_list mentioned_flat
      mentioned_next_expr mentioned_operand mentioned_run

  abbrev block_item_forms : BlockItem-F Delimited ItemTree Atom Expr FlatPart GeneratorTree Head
      Postfix RunPart Variable Also BlockItem CaseClause Catch Elif ElseBlock ElseClause Finally
      NextGenerator TypeClause ExprList Flat NextExpr Operand Run
      → BlockItem-F Form Placed Form Form Form FormGenerator Opening Form Form Placed Form Placed
      Branch Catching Branch Form Form Form FormGenerator TypeBranch Listed Form Form Form Form
  block_item_forms =
      map-BlockItem Delimited ItemTree Atom Expr FlatPart GeneratorTree Head Postfix RunPart
      Variable Also BlockItem CaseClause Catch Elif ElseBlock ElseClause Finally NextGenerator
      TypeClause ExprList Flat NextExpr Operand Run Form Placed Form Form Form FormGenerator Opening
      Form Form Placed Form Placed Branch Catching Branch Form Form Form FormGenerator TypeBranch
      Listed Form Form Form Form (formed_delimited k) (formed_item k) (formed_atom k)
      (formed_expr k) (formed_flat_part k) (formed_generator k) (formed_head k) (formed_postfix k)
      (formed_run_part k) (formed_variable k) (formed_also k) (formed_block_item k)
      (formed_case_clause k) (formed_catch k) (formed_elif k) (formed_else_block k)
      (formed_else_clause k) (formed_finally k) (formed_next_generator k) (formed_type_clause k)
      (formed_expr_list k) (formed_flat k) (formed_next_expr k) (formed_operand k) (formed_run k)

  block_item_mentioned : (l : BlockItem-F Delimited ItemTree Atom Expr FlatPart GeneratorTree Head
      Postfix RunPart Variable Also BlockItem CaseClause Catch Elif ElseBlock ElseClause Finally
      NextGenerator TypeClause ExprList Flat NextExpr Operand Run)
      → mentioned_block_item (roll-BlockItem l) ≡ mention_block_item (block_item_mentions l)
  unfolding mentioned_delimited mentioned_item mentioned_atom mentioned_expr mentioned_flat_part
      mentioned_generator mentioned_head mentioned_postfix mentioned_run_part mentioned_variable
      mentioned_also mentioned_block_item mentioned_case_clause mentioned_catch mentioned_elif
      mentioned_else_block mentioned_else_clause mentioned_finally mentioned_next_generator
      mentioned_type_clause mentioned_expr_list mentioned_flat mentioned_next_expr mentioned_operand
      mentioned_run
  block_item_mentioned l =
      fold-roll-BlockItem Mentioned Mentioned Mentioned Mentioned Mentioned Mentioned Mentioned
      Mentioned Mentioned Mentioned Mentioned Mentioned Mentioned Mentioned Mentioned Mentioned
      Mentioned Mentioned Mentioned Mentioned Mentioned Mentioned Mentioned Mentioned Mentioned
      mention_delimited mention_item mention_atom mention_expr mention_flat_part mention_generator
      mention_head mention_postfix mention_run_part mention_variable mention_also mention_block_item
      mention_case_clause mention_catch mention_elif mention_else_block mention_else_clause
      mention_finally mention_next_generator mention_type_clause mention_expr_list mention_flat
      mention_next_expr mention_operand mention_run l

  block_item_formed : (l : BlockItem-F Delimited ItemTree Atom Expr FlatPart GeneratorTree Head
      Postfix RunPart Variable Also BlockItem CaseClause Catch Elif ElseBlock ElseClause Finally
      NextGenerator TypeClause ExprList Flat NextExpr Operand Run)
      → formed_block_item k (roll-BlockItem l) ≡ form_block_item (block_item_forms l)
  unfolding formed_delimited formed_item formed_atom formed_expr formed_flat_part formed_generator
      formed_head formed_postfix formed_run_part formed_variable formed_also formed_block_item
      formed_case_clause formed_catch formed_elif formed_else_block formed_else_clause
      formed_finally formed_next_generator formed_type_clause formed_expr_list formed_flat
      formed_next_expr formed_operand formed_run
  block_item_formed l =
      fold-roll-BlockItem Form Placed Form Form Form FormGenerator Opening Form Form Placed Form
      Placed Branch Catching Branch Form Form Form FormGenerator TypeBranch Listed Form Form Form
      Form form_delimited (form_item k) (form_atom k) form_expr form_flat_part form_generator
      (form_head k) form_postfix form_run_part (form_variable k) form_also form_block_item
      form_case_clause form_catch form_elif form_else_block form_else_clause form_finally
      form_next_generator (form_type_clause k) form_expr_list (form_flat k) form_next_expr
      form_operand form_run l

  block_item_level : (y : BlockItem-F OneDelimited OneItem OneAtom OneExpr OneFlatPart OneGenerator
      OneHead OnePostfix OneRunPart OneVariable OneAlso OneBlockItem OneCaseClause OneCatch
      OneElif OneElseBlock OneElseClause OneFinally OneNextGenerator OneTypeClause OneExprList
      OneFlat OneNextExpr OneOperand OneRun)
      → Known_in (mention_block_item (block_item_mentions (block_item_parts y)))
      → GoodPlaced (form_block_item (block_item_forms (block_item_parts y)))
  block_item_level y h = y.item.1 h

  block_item_step : (x : BlockItem-F Delimited ItemTree Atom Expr FlatPart GeneratorTree Head
      Postfix RunPart Variable Also BlockItem CaseClause Catch Elif ElseBlock ElseClause Finally
      NextGenerator TypeClause ExprList Flat NextExpr Operand Run)
      (y : BlockItem-F OneDelimited OneItem OneAtom OneExpr OneFlatPart OneGenerator OneHead
      OnePostfix OneRunPart OneVariable OneAlso OneBlockItem OneCaseClause OneCatch OneElif
      OneElseBlock OneElseClause OneFinally OneNextGenerator OneTypeClause OneExprList OneFlat
      OneNextExpr OneOperand OneRun) → block_item_parts y ≡ x → IsBlockItem (roll-BlockItem x)
  block_item_step x y is =
      subst (λ x. IsBlockItem (roll-BlockItem x)) is
      (λ h. subst (GoodPlaced) (sym (block_item_formed (block_item_parts y)))
      (block_item_level y (subst (Known_in) (block_item_mentioned (block_item_parts y)) h)))

  -- ---- CaseClause

  abbrev case_clause_parts : CaseClause-F OneDelimited OneItem OneAtom OneExpr OneFlatPart
      OneGenerator OneHead OnePostfix OneRunPart OneVariable OneAlso OneBlockItem OneCaseClause
      OneCatch OneElif OneElseBlock OneElseClause OneFinally OneNextGenerator OneTypeClause
      OneExprList OneFlat OneNextExpr OneOperand OneRun
      → CaseClause-F Delimited ItemTree Atom Expr FlatPart GeneratorTree Head Postfix RunPart
      Variable Also BlockItem CaseClause Catch Elif ElseBlock ElseClause Finally NextGenerator
      TypeClause ExprList Flat NextExpr Operand Run
  case_clause_parts =
      map-CaseClause OneDelimited OneItem OneAtom OneExpr OneFlatPart OneGenerator OneHead
      OnePostfix OneRunPart OneVariable OneAlso OneBlockItem OneCaseClause OneCatch OneElif
      OneElseBlock OneElseClause OneFinally OneNextGenerator OneTypeClause OneExprList OneFlat
      OneNextExpr OneOperand OneRun Delimited ItemTree Atom Expr FlatPart GeneratorTree Head Postfix
      RunPart Variable Also BlockItem CaseClause Catch Elif ElseBlock ElseClause Finally
      NextGenerator TypeClause ExprList Flat NextExpr Operand Run (λ e. e.0) (λ e. e.0) (λ e. e.0)
      (λ e. e.0) (λ e. e.0) (λ e. e.0) (λ e. e.0) (λ e. e.0) (λ e. e.0) (λ e. e.0) (λ e. e.0)
      (λ e. e.0) (λ e. e.0) (λ e. e.0) (λ e. e.0) (λ e. e.0) (λ e. e.0) (λ e. e.0) (λ e. e.0)
      (λ e. e.0) (λ e. e.0) (λ e. e.0) (λ e. e.0) (λ e. e.0) (λ e. e.0)

  abbrev case_clause_mentions : CaseClause-F Delimited ItemTree Atom Expr FlatPart GeneratorTree
      Head Postfix RunPart Variable Also BlockItem CaseClause Catch Elif ElseBlock ElseClause
      Finally NextGenerator TypeClause ExprList Flat NextExpr Operand Run
      → CaseClause-F Mentioned Mentioned Mentioned Mentioned Mentioned Mentioned Mentioned Mentioned
      Mentioned Mentioned Mentioned Mentioned Mentioned Mentioned Mentioned Mentioned Mentioned
      Mentioned Mentioned Mentioned Mentioned Mentioned Mentioned Mentioned Mentioned
  case_clause_mentions =
      map-CaseClause Delimited ItemTree Atom Expr FlatPart GeneratorTree Head Postfix RunPart
      Variable Also BlockItem CaseClause Catch Elif ElseBlock ElseClause Finally NextGenerator
      TypeClause ExprList Flat NextExpr Operand Run Mentioned Mentioned Mentioned Mentioned
      Mentioned Mentioned Mentioned Mentioned Mentioned Mentioned Mentioned Mentioned Mentioned
      Mentioned Mentioned Mentioned Mentioned Mentioned Mentioned Mentioned Mentioned Mentioned
      Mentioned Mentioned Mentioned mentioned_delimited mentioned_item mentioned_atom mentioned_expr
      mentioned_flat_part mentioned_generator mentioned_head mentioned_postfix mentioned_run_part
      mentioned_variable mentioned_also mentioned_block_item mentioned_case_clause mentioned_catch
      mentioned_elif mentioned_else_block mentioned_else_clause mentioned_finally
      mentioned_next_generator mentioned_type_clause mentioned_expr_list mentioned_flat
      mentioned_next_expr mentioned_operand mentioned_run

  abbrev case_clause_forms : CaseClause-F Delimited ItemTree Atom Expr FlatPart GeneratorTree Head
      Postfix RunPart Variable Also BlockItem CaseClause Catch Elif ElseBlock ElseClause Finally
      NextGenerator TypeClause ExprList Flat NextExpr Operand Run
      → CaseClause-F Form Placed Form Form Form FormGenerator Opening Form Form Placed Form Placed
      Branch Catching Branch Form Form Form FormGenerator TypeBranch Listed Form Form Form Form
  case_clause_forms =
      map-CaseClause Delimited ItemTree Atom Expr FlatPart GeneratorTree Head Postfix RunPart
      Variable Also BlockItem CaseClause Catch Elif ElseBlock ElseClause Finally NextGenerator
      TypeClause ExprList Flat NextExpr Operand Run Form Placed Form Form Form FormGenerator Opening
      Form Form Placed Form Placed Branch Catching Branch Form Form Form FormGenerator TypeBranch
      Listed Form Form Form Form (formed_delimited k) (formed_item k) (formed_atom k)
      (formed_expr k) (formed_flat_part k) (formed_generator k) (formed_head k) (formed_postfix k)
      (formed_run_part k) (formed_variable k) (formed_also k) (formed_block_item k)
      (formed_case_clause k) (formed_catch k) (formed_elif k) (formed_else_block k)
      (formed_else_clause k) (formed_finally k) (formed_next_generator k) (formed_type_clause k)
      (formed_expr_list k) (formed_flat k) (formed_next_expr k) (formed_operand k) (formed_run k)

  case_clause_mentioned : (l : CaseClause-F Delimited ItemTree Atom Expr FlatPart GeneratorTree Head
      Postfix RunPart Variable Also BlockItem CaseClause Catch Elif ElseBlock ElseClause Finally
      NextGenerator TypeClause ExprList Flat NextExpr Operand Run)
      → mentioned_case_clause (roll-CaseClause l) ≡ mention_case_clause (case_clause_mentions l)
  unfolding mentioned_delimited mentioned_item mentioned_atom mentioned_expr mentioned_flat_part
      mentioned_generator mentioned_head mentioned_postfix mentioned_run_part mentioned_variable
      mentioned_also mentioned_block_item mentioned_case_clause mentioned_catch mentioned_elif
      mentioned_else_block mentioned_else_clause mentioned_finally mentioned_next_generator
      mentioned_type_clause mentioned_expr_list mentioned_flat mentioned_next_expr mentioned_operand
      mentioned_run
  case_clause_mentioned l =
      fold-roll-CaseClause Mentioned Mentioned Mentioned Mentioned Mentioned Mentioned Mentioned
      Mentioned Mentioned Mentioned Mentioned Mentioned Mentioned Mentioned Mentioned Mentioned
      Mentioned Mentioned Mentioned Mentioned Mentioned Mentioned Mentioned Mentioned Mentioned
      mention_delimited mention_item mention_atom mention_expr mention_flat_part mention_generator
      mention_head mention_postfix mention_run_part mention_variable mention_also mention_block_item
      mention_case_clause mention_catch mention_elif mention_else_block mention_else_clause
      mention_finally mention_next_generator mention_type_clause mention_expr_list mention_flat
      mention_next_expr mention_operand mention_run l

  case_clause_formed : (l : CaseClause-F Delimited ItemTree Atom Expr FlatPart GeneratorTree Head
      Postfix RunPart Variable Also BlockItem CaseClause Catch Elif ElseBlock ElseClause Finally
      NextGenerator TypeClause ExprList Flat NextExpr Operand Run)
      → formed_case_clause k (roll-CaseClause l) ≡ form_case_clause (case_clause_forms l)
  unfolding formed_delimited formed_item formed_atom formed_expr formed_flat_part formed_generator
      formed_head formed_postfix formed_run_part formed_variable formed_also formed_block_item
      formed_case_clause formed_catch formed_elif formed_else_block formed_else_clause
      formed_finally formed_next_generator formed_type_clause formed_expr_list formed_flat
      formed_next_expr formed_operand formed_run
  case_clause_formed l =
      fold-roll-CaseClause Form Placed Form Form Form FormGenerator Opening Form Form Placed Form
      Placed Branch Catching Branch Form Form Form FormGenerator TypeBranch Listed Form Form Form
      Form form_delimited (form_item k) (form_atom k) form_expr form_flat_part form_generator
      (form_head k) form_postfix form_run_part (form_variable k) form_also form_block_item
      form_case_clause form_catch form_elif form_else_block form_else_clause form_finally
      form_next_generator (form_type_clause k) form_expr_list (form_flat k) form_next_expr
      form_operand form_run l

  case_clause_level : (y : CaseClause-F OneDelimited OneItem OneAtom OneExpr OneFlatPart
      OneGenerator OneHead OnePostfix OneRunPart OneVariable OneAlso OneBlockItem OneCaseClause
      OneCatch OneElif OneElseBlock OneElseClause OneFinally OneNextGenerator OneTypeClause
      OneExprList OneFlat OneNextExpr OneOperand OneRun)
      → Known_in (mention_case_clause (case_clause_mentions (case_clause_parts y)))
      → GoodBranch P (form_case_clause (case_clause_forms (case_clause_parts y)))
  case_clause_level y h =
      let a = mentioned_flat y.subject.0 in
      let b = mentioned_expr y.value.0 in
      good-branch P (formed_flat k y.subject.0) (formed_expr k y.value.0)
      (y.subject.1 (front a b h)) (y.value.1 (back a b h))

  case_clause_step : (x : CaseClause-F Delimited ItemTree Atom Expr FlatPart GeneratorTree Head
      Postfix RunPart Variable Also BlockItem CaseClause Catch Elif ElseBlock ElseClause Finally
      NextGenerator TypeClause ExprList Flat NextExpr Operand Run)
      (y : CaseClause-F OneDelimited OneItem OneAtom OneExpr OneFlatPart OneGenerator OneHead
      OnePostfix OneRunPart OneVariable OneAlso OneBlockItem OneCaseClause OneCatch OneElif
      OneElseBlock OneElseClause OneFinally OneNextGenerator OneTypeClause OneExprList OneFlat
      OneNextExpr OneOperand OneRun) → case_clause_parts y ≡ x
      → IsCaseClause (roll-CaseClause x)
  case_clause_step x y is =
      subst (λ x. IsCaseClause (roll-CaseClause x)) is
      (λ h. subst (GoodBranch P) (sym (case_clause_formed (case_clause_parts y)))
      (case_clause_level y (subst (Known_in) (case_clause_mentioned (case_clause_parts y)) h)))

  -- ---- Catch

  abbrev catch_parts : Catch-F OneDelimited OneItem OneAtom OneExpr OneFlatPart OneGenerator OneHead
      OnePostfix OneRunPart OneVariable OneAlso OneBlockItem OneCaseClause OneCatch OneElif
      OneElseBlock OneElseClause OneFinally OneNextGenerator OneTypeClause OneExprList OneFlat
      OneNextExpr OneOperand OneRun
      → Catch-F Delimited ItemTree Atom Expr FlatPart GeneratorTree Head Postfix RunPart Variable
      Also BlockItem CaseClause Catch Elif ElseBlock ElseClause Finally NextGenerator TypeClause
      ExprList Flat NextExpr Operand Run
  catch_parts =
      map-Catch OneDelimited OneItem OneAtom OneExpr OneFlatPart OneGenerator OneHead OnePostfix
      OneRunPart OneVariable OneAlso OneBlockItem OneCaseClause OneCatch OneElif OneElseBlock
      OneElseClause OneFinally OneNextGenerator OneTypeClause OneExprList OneFlat OneNextExpr
      OneOperand OneRun Delimited ItemTree Atom Expr FlatPart GeneratorTree Head Postfix RunPart
      Variable Also BlockItem CaseClause Catch Elif ElseBlock ElseClause Finally NextGenerator
      TypeClause ExprList Flat NextExpr Operand Run (λ e. e.0) (λ e. e.0) (λ e. e.0) (λ e. e.0)
      (λ e. e.0) (λ e. e.0) (λ e. e.0) (λ e. e.0) (λ e. e.0) (λ e. e.0) (λ e. e.0) (λ e. e.0)
      (λ e. e.0) (λ e. e.0) (λ e. e.0) (λ e. e.0) (λ e. e.0) (λ e. e.0) (λ e. e.0) (λ e. e.0)
      (λ e. e.0) (λ e. e.0) (λ e. e.0) (λ e. e.0) (λ e. e.0)

  abbrev catch_mentions : Catch-F Delimited ItemTree Atom Expr FlatPart GeneratorTree Head Postfix
      RunPart Variable Also BlockItem CaseClause Catch Elif ElseBlock ElseClause Finally
      NextGenerator TypeClause ExprList Flat NextExpr Operand Run
      → Catch-F Mentioned Mentioned Mentioned Mentioned Mentioned Mentioned Mentioned Mentioned
      Mentioned Mentioned Mentioned Mentioned Mentioned Mentioned Mentioned Mentioned Mentioned
      Mentioned Mentioned Mentioned Mentioned Mentioned Mentioned Mentioned Mentioned
  catch_mentions =
      map-Catch Delimited ItemTree Atom Expr FlatPart GeneratorTree Head Postfix RunPart Variable
      Also BlockItem CaseClause Catch Elif ElseBlock ElseClause Finally NextGenerator TypeClause
      ExprList Flat NextExpr Operand Run Mentioned Mentioned Mentioned Mentioned Mentioned Mentioned
      Mentioned Mentioned Mentioned Mentioned Mentioned Mentioned Mentioned Mentioned Mentioned
      Mentioned Mentioned Mentioned Mentioned Mentioned Mentioned Mentioned Mentioned Mentioned
      Mentioned mentioned_delimited mentioned_item mentioned_atom mentioned_expr mentioned_flat_part
      mentioned_generator mentioned_head mentioned_postfix mentioned_run_part mentioned_variable
      mentioned_also mentioned_block_item mentioned_case_clause mentioned_catch mentioned_elif
      mentioned_else_block mentioned_else_clause mentioned_finally mentioned_next_generator
      mentioned_type_clause mentioned_expr_list mentioned_flat mentioned_next_expr mentioned_operand
      mentioned_run

  abbrev catch_forms : Catch-F Delimited ItemTree Atom Expr FlatPart GeneratorTree Head Postfix
      RunPart Variable Also BlockItem CaseClause Catch Elif ElseBlock ElseClause Finally
      NextGenerator TypeClause ExprList Flat NextExpr Operand Run
      → Catch-F Form Placed Form Form Form FormGenerator Opening Form Form Placed Form Placed Branch
      Catching Branch Form Form Form FormGenerator TypeBranch Listed Form Form Form Form
  catch_forms =
      map-Catch Delimited ItemTree Atom Expr FlatPart GeneratorTree Head Postfix RunPart Variable
      Also BlockItem CaseClause Catch Elif ElseBlock ElseClause Finally NextGenerator TypeClause
      ExprList Flat NextExpr Operand Run Form Placed Form Form Form FormGenerator Opening Form Form
      Placed Form Placed Branch Catching Branch Form Form Form FormGenerator TypeBranch Listed Form
      Form Form Form (formed_delimited k) (formed_item k) (formed_atom k) (formed_expr k)
      (formed_flat_part k) (formed_generator k) (formed_head k) (formed_postfix k)
      (formed_run_part k) (formed_variable k) (formed_also k) (formed_block_item k)
      (formed_case_clause k) (formed_catch k) (formed_elif k) (formed_else_block k)
      (formed_else_clause k) (formed_finally k) (formed_next_generator k) (formed_type_clause k)
      (formed_expr_list k) (formed_flat k) (formed_next_expr k) (formed_operand k) (formed_run k)

  catch_mentioned : (l : Catch-F Delimited ItemTree Atom Expr FlatPart GeneratorTree Head Postfix
      RunPart Variable Also BlockItem CaseClause Catch Elif ElseBlock ElseClause Finally
      NextGenerator TypeClause ExprList Flat NextExpr Operand Run)
      → mentioned_catch (roll-Catch l) ≡ mention_catch (catch_mentions l)
  unfolding mentioned_delimited mentioned_item mentioned_atom mentioned_expr mentioned_flat_part
      mentioned_generator mentioned_head mentioned_postfix mentioned_run_part mentioned_variable
      mentioned_also mentioned_block_item mentioned_case_clause mentioned_catch mentioned_elif
      mentioned_else_block mentioned_else_clause mentioned_finally mentioned_next_generator
      mentioned_type_clause mentioned_expr_list mentioned_flat mentioned_next_expr mentioned_operand
      mentioned_run
  catch_mentioned l =
      fold-roll-Catch Mentioned Mentioned Mentioned Mentioned Mentioned Mentioned Mentioned
      Mentioned Mentioned Mentioned Mentioned Mentioned Mentioned Mentioned Mentioned Mentioned
      Mentioned Mentioned Mentioned Mentioned Mentioned Mentioned Mentioned Mentioned Mentioned
      mention_delimited mention_item mention_atom mention_expr mention_flat_part mention_generator
      mention_head mention_postfix mention_run_part mention_variable mention_also mention_block_item
      mention_case_clause mention_catch mention_elif mention_else_block mention_else_clause
      mention_finally mention_next_generator mention_type_clause mention_expr_list mention_flat
      mention_next_expr mention_operand mention_run l

  catch_formed : (l : Catch-F Delimited ItemTree Atom Expr FlatPart GeneratorTree Head Postfix
      RunPart Variable Also BlockItem CaseClause Catch Elif ElseBlock ElseClause Finally
      NextGenerator TypeClause ExprList Flat NextExpr Operand Run)
      → formed_catch k (roll-Catch l) ≡ form_catch (catch_forms l)
  unfolding formed_delimited formed_item formed_atom formed_expr formed_flat_part formed_generator
      formed_head formed_postfix formed_run_part formed_variable formed_also formed_block_item
      formed_case_clause formed_catch formed_elif formed_else_block formed_else_clause
      formed_finally formed_next_generator formed_type_clause formed_expr_list formed_flat
      formed_next_expr formed_operand formed_run
  catch_formed l =
      fold-roll-Catch Form Placed Form Form Form FormGenerator Opening Form Form Placed Form Placed
      Branch Catching Branch Form Form Form FormGenerator TypeBranch Listed Form Form Form Form
      form_delimited (form_item k) (form_atom k) form_expr form_flat_part form_generator
      (form_head k) form_postfix form_run_part (form_variable k) form_also form_block_item
      form_case_clause form_catch form_elif form_else_block form_else_clause form_finally
      form_next_generator (form_type_clause k) form_expr_list (form_flat k) form_next_expr
      form_operand form_run l

  catch_level : (y : Catch-F OneDelimited OneItem OneAtom OneExpr OneFlatPart OneGenerator OneHead
      OnePostfix OneRunPart OneVariable OneAlso OneBlockItem OneCaseClause OneCatch OneElif
      OneElseBlock OneElseClause OneFinally OneNextGenerator OneTypeClause OneExprList OneFlat
      OneNextExpr OneOperand OneRun) → Known_in (mention_catch (catch_mentions (catch_parts y)))
      → GoodCatching (form_catch (catch_forms (catch_parts y)))
  catch_level y h = each mentioned_type_clause (formed_type_clause k) (GoodClause P) y.clauses h

  catch_step : (x : Catch-F Delimited ItemTree Atom Expr FlatPart GeneratorTree Head Postfix RunPart
      Variable Also BlockItem CaseClause Catch Elif ElseBlock ElseClause Finally NextGenerator
      TypeClause ExprList Flat NextExpr Operand Run)
      (y : Catch-F OneDelimited OneItem OneAtom OneExpr OneFlatPart OneGenerator OneHead OnePostfix
      OneRunPart OneVariable OneAlso OneBlockItem OneCaseClause OneCatch OneElif OneElseBlock
      OneElseClause OneFinally OneNextGenerator OneTypeClause OneExprList OneFlat OneNextExpr
      OneOperand OneRun) → catch_parts y ≡ x → IsCatch (roll-Catch x)
  catch_step x y is =
      subst (λ x. IsCatch (roll-Catch x)) is
      (λ h. subst (GoodCatching) (sym (catch_formed (catch_parts y)))
      (catch_level y (subst (Known_in) (catch_mentioned (catch_parts y)) h)))

  -- ---- Elif

  abbrev elif_parts : Elif-F OneDelimited OneItem OneAtom OneExpr OneFlatPart OneGenerator OneHead
      OnePostfix OneRunPart OneVariable OneAlso OneBlockItem OneCaseClause OneCatch OneElif
      OneElseBlock OneElseClause OneFinally OneNextGenerator OneTypeClause OneExprList OneFlat
      OneNextExpr OneOperand OneRun
      → Elif-F Delimited ItemTree Atom Expr FlatPart GeneratorTree Head Postfix RunPart Variable
      Also BlockItem CaseClause Catch Elif ElseBlock ElseClause Finally NextGenerator TypeClause
      ExprList Flat NextExpr Operand Run
  elif_parts =
      map-Elif OneDelimited OneItem OneAtom OneExpr OneFlatPart OneGenerator OneHead OnePostfix
      OneRunPart OneVariable OneAlso OneBlockItem OneCaseClause OneCatch OneElif OneElseBlock
      OneElseClause OneFinally OneNextGenerator OneTypeClause OneExprList OneFlat OneNextExpr
      OneOperand OneRun Delimited ItemTree Atom Expr FlatPart GeneratorTree Head Postfix RunPart
      Variable Also BlockItem CaseClause Catch Elif ElseBlock ElseClause Finally NextGenerator
      TypeClause ExprList Flat NextExpr Operand Run (λ e. e.0) (λ e. e.0) (λ e. e.0) (λ e. e.0)
      (λ e. e.0) (λ e. e.0) (λ e. e.0) (λ e. e.0) (λ e. e.0) (λ e. e.0) (λ e. e.0) (λ e. e.0)
      (λ e. e.0) (λ e. e.0) (λ e. e.0) (λ e. e.0) (λ e. e.0) (λ e. e.0) (λ e. e.0) (λ e. e.0)
      (λ e. e.0) (λ e. e.0) (λ e. e.0) (λ e. e.0) (λ e. e.0)

  abbrev elif_mentions : Elif-F Delimited ItemTree Atom Expr FlatPart GeneratorTree Head Postfix
      RunPart Variable Also BlockItem CaseClause Catch Elif ElseBlock ElseClause Finally
      NextGenerator TypeClause ExprList Flat NextExpr Operand Run
      → Elif-F Mentioned Mentioned Mentioned Mentioned Mentioned Mentioned Mentioned Mentioned
      Mentioned Mentioned Mentioned Mentioned Mentioned Mentioned Mentioned Mentioned Mentioned
      Mentioned Mentioned Mentioned Mentioned Mentioned Mentioned Mentioned Mentioned
  elif_mentions =
      map-Elif Delimited ItemTree Atom Expr FlatPart GeneratorTree Head Postfix RunPart Variable
      Also BlockItem CaseClause Catch Elif ElseBlock ElseClause Finally NextGenerator TypeClause
      ExprList Flat NextExpr Operand Run Mentioned Mentioned Mentioned Mentioned Mentioned Mentioned
      Mentioned Mentioned Mentioned Mentioned Mentioned Mentioned Mentioned Mentioned Mentioned
      Mentioned Mentioned Mentioned Mentioned Mentioned Mentioned Mentioned Mentioned Mentioned
      Mentioned mentioned_delimited mentioned_item mentioned_atom mentioned_expr mentioned_flat_part
      mentioned_generator mentioned_head mentioned_postfix mentioned_run_part mentioned_variable
      mentioned_also mentioned_block_item mentioned_case_clause mentioned_catch mentioned_elif
      mentioned_else_block mentioned_else_clause mentioned_finally mentioned_next_generator
      mentioned_type_clause mentioned_expr_list mentioned_flat mentioned_next_expr mentioned_operand
      mentioned_run

  abbrev elif_forms : Elif-F Delimited ItemTree Atom Expr FlatPart GeneratorTree Head Postfix
      RunPart Variable Also BlockItem CaseClause Catch Elif ElseBlock ElseClause Finally
      NextGenerator TypeClause ExprList Flat NextExpr Operand Run
      → Elif-F Form Placed Form Form Form FormGenerator Opening Form Form Placed Form Placed Branch
      Catching Branch Form Form Form FormGenerator TypeBranch Listed Form Form Form Form
  elif_forms =
      map-Elif Delimited ItemTree Atom Expr FlatPart GeneratorTree Head Postfix RunPart Variable
      Also BlockItem CaseClause Catch Elif ElseBlock ElseClause Finally NextGenerator TypeClause
      ExprList Flat NextExpr Operand Run Form Placed Form Form Form FormGenerator Opening Form Form
      Placed Form Placed Branch Catching Branch Form Form Form FormGenerator TypeBranch Listed Form
      Form Form Form (formed_delimited k) (formed_item k) (formed_atom k) (formed_expr k)
      (formed_flat_part k) (formed_generator k) (formed_head k) (formed_postfix k)
      (formed_run_part k) (formed_variable k) (formed_also k) (formed_block_item k)
      (formed_case_clause k) (formed_catch k) (formed_elif k) (formed_else_block k)
      (formed_else_clause k) (formed_finally k) (formed_next_generator k) (formed_type_clause k)
      (formed_expr_list k) (formed_flat k) (formed_next_expr k) (formed_operand k) (formed_run k)

  elif_mentioned : (l : Elif-F Delimited ItemTree Atom Expr FlatPart GeneratorTree Head Postfix
      RunPart Variable Also BlockItem CaseClause Catch Elif ElseBlock ElseClause Finally
      NextGenerator TypeClause ExprList Flat NextExpr Operand Run)
      → mentioned_elif (roll-Elif l) ≡ mention_elif (elif_mentions l)
  unfolding mentioned_delimited mentioned_item mentioned_atom mentioned_expr mentioned_flat_part
      mentioned_generator mentioned_head mentioned_postfix mentioned_run_part mentioned_variable
      mentioned_also mentioned_block_item mentioned_case_clause mentioned_catch mentioned_elif
      mentioned_else_block mentioned_else_clause mentioned_finally mentioned_next_generator
      mentioned_type_clause mentioned_expr_list mentioned_flat mentioned_next_expr mentioned_operand
      mentioned_run
  elif_mentioned l =
      fold-roll-Elif Mentioned Mentioned Mentioned Mentioned Mentioned Mentioned Mentioned Mentioned
      Mentioned Mentioned Mentioned Mentioned Mentioned Mentioned Mentioned Mentioned Mentioned
      Mentioned Mentioned Mentioned Mentioned Mentioned Mentioned Mentioned Mentioned
      mention_delimited mention_item mention_atom mention_expr mention_flat_part mention_generator
      mention_head mention_postfix mention_run_part mention_variable mention_also mention_block_item
      mention_case_clause mention_catch mention_elif mention_else_block mention_else_clause
      mention_finally mention_next_generator mention_type_clause mention_expr_list mention_flat
      mention_next_expr mention_operand mention_run l

  elif_formed : (l : Elif-F Delimited ItemTree Atom Expr FlatPart GeneratorTree Head Postfix RunPart
      Variable Also BlockItem CaseClause Catch Elif ElseBlock ElseClause Finally NextGenerator
      TypeClause ExprList Flat NextExpr Operand Run)
      → formed_elif k (roll-Elif l) ≡ form_elif (elif_forms l)
  unfolding formed_delimited formed_item formed_atom formed_expr formed_flat_part formed_generator
      formed_head formed_postfix formed_run_part formed_variable formed_also formed_block_item
      formed_case_clause formed_catch formed_elif formed_else_block formed_else_clause
      formed_finally formed_next_generator formed_type_clause formed_expr_list formed_flat
      formed_next_expr formed_operand formed_run
  elif_formed l =
      fold-roll-Elif Form Placed Form Form Form FormGenerator Opening Form Form Placed Form Placed
      Branch Catching Branch Form Form Form FormGenerator TypeBranch Listed Form Form Form Form
      form_delimited (form_item k) (form_atom k) form_expr form_flat_part form_generator
      (form_head k) form_postfix form_run_part (form_variable k) form_also form_block_item
      form_case_clause form_catch form_elif form_else_block form_else_clause form_finally
      form_next_generator (form_type_clause k) form_expr_list (form_flat k) form_next_expr
      form_operand form_run l

  elif_level : (y : Elif-F OneDelimited OneItem OneAtom OneExpr OneFlatPart OneGenerator OneHead
      OnePostfix OneRunPart OneVariable OneAlso OneBlockItem OneCaseClause OneCatch OneElif
      OneElseBlock OneElseClause OneFinally OneNextGenerator OneTypeClause OneExprList OneFlat
      OneNextExpr OneOperand OneRun) → Known_in (mention_elif (elif_mentions (elif_parts y)))
      → GoodBranch P (form_elif (elif_forms (elif_parts y)))
  elif_level y h =
      let a = mentioned_flat y.condition.0 in
      let b = names mentioned_block_item y.block in
      good-branch P (formed_flat k y.condition.0)
      (block y.then (map (formed_block_item k) (firsts y.block))) (y.condition.1 (front a b h))
      (block-good y.then (map (formed_block_item k) (firsts y.block))
      (each mentioned_block_item (formed_block_item k) GoodPlaced y.block (back a b h)))

  elif_step : (x : Elif-F Delimited ItemTree Atom Expr FlatPart GeneratorTree Head Postfix RunPart
      Variable Also BlockItem CaseClause Catch Elif ElseBlock ElseClause Finally NextGenerator
      TypeClause ExprList Flat NextExpr Operand Run)
      (y : Elif-F OneDelimited OneItem OneAtom OneExpr OneFlatPart OneGenerator OneHead OnePostfix
      OneRunPart OneVariable OneAlso OneBlockItem OneCaseClause OneCatch OneElif OneElseBlock
      OneElseClause OneFinally OneNextGenerator OneTypeClause OneExprList OneFlat OneNextExpr
      OneOperand OneRun) → elif_parts y ≡ x → IsElif (roll-Elif x)
  elif_step x y is =
      subst (λ x. IsElif (roll-Elif x)) is
      (λ h. subst (GoodBranch P) (sym (elif_formed (elif_parts y)))
      (elif_level y (subst (Known_in) (elif_mentioned (elif_parts y)) h)))

  -- ---- ElseBlock

  abbrev else_block_parts : ElseBlock-F OneDelimited OneItem OneAtom OneExpr OneFlatPart
      OneGenerator OneHead OnePostfix OneRunPart OneVariable OneAlso OneBlockItem OneCaseClause
      OneCatch OneElif OneElseBlock OneElseClause OneFinally OneNextGenerator OneTypeClause
      OneExprList OneFlat OneNextExpr OneOperand OneRun
      → ElseBlock-F Delimited ItemTree Atom Expr FlatPart GeneratorTree Head Postfix RunPart
      Variable Also BlockItem CaseClause Catch Elif ElseBlock ElseClause Finally NextGenerator
      TypeClause ExprList Flat NextExpr Operand Run
  else_block_parts =
      map-ElseBlock OneDelimited OneItem OneAtom OneExpr OneFlatPart OneGenerator OneHead OnePostfix
      OneRunPart OneVariable OneAlso OneBlockItem OneCaseClause OneCatch OneElif OneElseBlock
      OneElseClause OneFinally OneNextGenerator OneTypeClause OneExprList OneFlat OneNextExpr
      OneOperand OneRun Delimited ItemTree Atom Expr FlatPart GeneratorTree Head Postfix RunPart
      Variable Also BlockItem CaseClause Catch Elif ElseBlock ElseClause Finally NextGenerator
      TypeClause ExprList Flat NextExpr Operand Run (λ e. e.0) (λ e. e.0) (λ e. e.0) (λ e. e.0)
      (λ e. e.0) (λ e. e.0) (λ e. e.0) (λ e. e.0) (λ e. e.0) (λ e. e.0) (λ e. e.0) (λ e. e.0)
      (λ e. e.0) (λ e. e.0) (λ e. e.0) (λ e. e.0) (λ e. e.0) (λ e. e.0) (λ e. e.0) (λ e. e.0)
      (λ e. e.0) (λ e. e.0) (λ e. e.0) (λ e. e.0) (λ e. e.0)

  abbrev else_block_mentions : ElseBlock-F Delimited ItemTree Atom Expr FlatPart GeneratorTree Head
      Postfix RunPart Variable Also BlockItem CaseClause Catch Elif ElseBlock ElseClause Finally
      NextGenerator TypeClause ExprList Flat NextExpr Operand Run
      → ElseBlock-F Mentioned Mentioned Mentioned Mentioned Mentioned Mentioned Mentioned Mentioned
      Mentioned Mentioned Mentioned Mentioned Mentioned Mentioned Mentioned Mentioned Mentioned
      Mentioned Mentioned Mentioned Mentioned Mentioned Mentioned Mentioned Mentioned
  else_block_mentions =
      map-ElseBlock Delimited ItemTree Atom Expr FlatPart GeneratorTree Head Postfix RunPart
      Variable Also BlockItem CaseClause Catch Elif ElseBlock ElseClause Finally NextGenerator
      TypeClause ExprList Flat NextExpr Operand Run Mentioned Mentioned Mentioned Mentioned
      Mentioned Mentioned Mentioned Mentioned Mentioned Mentioned Mentioned Mentioned Mentioned
      Mentioned Mentioned Mentioned Mentioned Mentioned Mentioned Mentioned Mentioned Mentioned
      Mentioned Mentioned Mentioned mentioned_delimited mentioned_item mentioned_atom mentioned_expr
      mentioned_flat_part mentioned_generator mentioned_head mentioned_postfix mentioned_run_part
      mentioned_variable mentioned_also mentioned_block_item mentioned_case_clause mentioned_catch
      mentioned_elif mentioned_else_block mentioned_else_clause mentioned_finally
      mentioned_next_generator mentioned_type_clause mentioned_expr_list mentioned_flat
      mentioned_next_expr mentioned_operand mentioned_run

  abbrev else_block_forms : ElseBlock-F Delimited ItemTree Atom Expr FlatPart GeneratorTree Head
      Postfix RunPart Variable Also BlockItem CaseClause Catch Elif ElseBlock ElseClause Finally
      NextGenerator TypeClause ExprList Flat NextExpr Operand Run
      → ElseBlock-F Form Placed Form Form Form FormGenerator Opening Form Form Placed Form Placed
      Branch Catching Branch Form Form Form FormGenerator TypeBranch Listed Form Form Form Form
  else_block_forms =
      map-ElseBlock Delimited ItemTree Atom Expr FlatPart GeneratorTree Head Postfix RunPart
      Variable Also BlockItem CaseClause Catch Elif ElseBlock ElseClause Finally NextGenerator
      TypeClause ExprList Flat NextExpr Operand Run Form Placed Form Form Form FormGenerator Opening
      Form Form Placed Form Placed Branch Catching Branch Form Form Form FormGenerator TypeBranch
      Listed Form Form Form Form (formed_delimited k) (formed_item k) (formed_atom k)
      (formed_expr k) (formed_flat_part k) (formed_generator k) (formed_head k) (formed_postfix k)
      (formed_run_part k) (formed_variable k) (formed_also k) (formed_block_item k)
      (formed_case_clause k) (formed_catch k) (formed_elif k) (formed_else_block k)
      (formed_else_clause k) (formed_finally k) (formed_next_generator k) (formed_type_clause k)
      (formed_expr_list k) (formed_flat k) (formed_next_expr k) (formed_operand k) (formed_run k)

  else_block_mentioned : (l : ElseBlock-F Delimited ItemTree Atom Expr FlatPart GeneratorTree Head
      Postfix RunPart Variable Also BlockItem CaseClause Catch Elif ElseBlock ElseClause Finally
      NextGenerator TypeClause ExprList Flat NextExpr Operand Run)
      → mentioned_else_block (roll-ElseBlock l) ≡ mention_else_block (else_block_mentions l)
  unfolding mentioned_delimited mentioned_item mentioned_atom mentioned_expr mentioned_flat_part
      mentioned_generator mentioned_head mentioned_postfix mentioned_run_part mentioned_variable
      mentioned_also mentioned_block_item mentioned_case_clause mentioned_catch mentioned_elif
      mentioned_else_block mentioned_else_clause mentioned_finally mentioned_next_generator
      mentioned_type_clause mentioned_expr_list mentioned_flat mentioned_next_expr mentioned_operand
      mentioned_run
  else_block_mentioned l =
      fold-roll-ElseBlock Mentioned Mentioned Mentioned Mentioned Mentioned Mentioned Mentioned
      Mentioned Mentioned Mentioned Mentioned Mentioned Mentioned Mentioned Mentioned Mentioned
      Mentioned Mentioned Mentioned Mentioned Mentioned Mentioned Mentioned Mentioned Mentioned
      mention_delimited mention_item mention_atom mention_expr mention_flat_part mention_generator
      mention_head mention_postfix mention_run_part mention_variable mention_also mention_block_item
      mention_case_clause mention_catch mention_elif mention_else_block mention_else_clause
      mention_finally mention_next_generator mention_type_clause mention_expr_list mention_flat
      mention_next_expr mention_operand mention_run l

  else_block_formed : (l : ElseBlock-F Delimited ItemTree Atom Expr FlatPart GeneratorTree Head
      Postfix RunPart Variable Also BlockItem CaseClause Catch Elif ElseBlock ElseClause Finally
      NextGenerator TypeClause ExprList Flat NextExpr Operand Run)
      → formed_else_block k (roll-ElseBlock l) ≡ form_else_block (else_block_forms l)
  unfolding formed_delimited formed_item formed_atom formed_expr formed_flat_part formed_generator
      formed_head formed_postfix formed_run_part formed_variable formed_also formed_block_item
      formed_case_clause formed_catch formed_elif formed_else_block formed_else_clause
      formed_finally formed_next_generator formed_type_clause formed_expr_list formed_flat
      formed_next_expr formed_operand formed_run
  else_block_formed l =
      fold-roll-ElseBlock Form Placed Form Form Form FormGenerator Opening Form Form Placed Form
      Placed Branch Catching Branch Form Form Form FormGenerator TypeBranch Listed Form Form Form
      Form form_delimited (form_item k) (form_atom k) form_expr form_flat_part form_generator
      (form_head k) form_postfix form_run_part (form_variable k) form_also form_block_item
      form_case_clause form_catch form_elif form_else_block form_else_clause form_finally
      form_next_generator (form_type_clause k) form_expr_list (form_flat k) form_next_expr
      form_operand form_run l

  else_block_level : (y : ElseBlock-F OneDelimited OneItem OneAtom OneExpr OneFlatPart OneGenerator
      OneHead OnePostfix OneRunPart OneVariable OneAlso OneBlockItem OneCaseClause OneCatch
      OneElif OneElseBlock OneElseClause OneFinally OneNextGenerator OneTypeClause OneExprList
      OneFlat OneNextExpr OneOperand OneRun)
      → Known_in (mention_else_block (else_block_mentions (else_block_parts y)))
      → IsGood P (form_else_block (else_block_forms (else_block_parts y)))
  else_block_level y h =
      block-good y.else_ (map (formed_block_item k) (firsts y.block))
      (each mentioned_block_item (formed_block_item k) GoodPlaced y.block h)

  else_block_step : (x : ElseBlock-F Delimited ItemTree Atom Expr FlatPart GeneratorTree Head
      Postfix RunPart Variable Also BlockItem CaseClause Catch Elif ElseBlock ElseClause Finally
      NextGenerator TypeClause ExprList Flat NextExpr Operand Run)
      (y : ElseBlock-F OneDelimited OneItem OneAtom OneExpr OneFlatPart OneGenerator OneHead
      OnePostfix OneRunPart OneVariable OneAlso OneBlockItem OneCaseClause OneCatch OneElif
      OneElseBlock OneElseClause OneFinally OneNextGenerator OneTypeClause OneExprList OneFlat
      OneNextExpr OneOperand OneRun) → else_block_parts y ≡ x → IsElseBlock (roll-ElseBlock x)
  else_block_step x y is =
      subst (λ x. IsElseBlock (roll-ElseBlock x)) is
      (λ h. subst (IsGood P) (sym (else_block_formed (else_block_parts y)))
      (else_block_level y (subst (Known_in) (else_block_mentioned (else_block_parts y)) h)))

  -- ---- ElseClause

  abbrev else_clause_parts : ElseClause-F OneDelimited OneItem OneAtom OneExpr OneFlatPart
      OneGenerator OneHead OnePostfix OneRunPart OneVariable OneAlso OneBlockItem OneCaseClause
      OneCatch OneElif OneElseBlock OneElseClause OneFinally OneNextGenerator OneTypeClause
      OneExprList OneFlat OneNextExpr OneOperand OneRun
      → ElseClause-F Delimited ItemTree Atom Expr FlatPart GeneratorTree Head Postfix RunPart
      Variable Also BlockItem CaseClause Catch Elif ElseBlock ElseClause Finally NextGenerator
      TypeClause ExprList Flat NextExpr Operand Run
  else_clause_parts =
      map-ElseClause OneDelimited OneItem OneAtom OneExpr OneFlatPart OneGenerator OneHead
      OnePostfix OneRunPart OneVariable OneAlso OneBlockItem OneCaseClause OneCatch OneElif
      OneElseBlock OneElseClause OneFinally OneNextGenerator OneTypeClause OneExprList OneFlat
      OneNextExpr OneOperand OneRun Delimited ItemTree Atom Expr FlatPart GeneratorTree Head Postfix
      RunPart Variable Also BlockItem CaseClause Catch Elif ElseBlock ElseClause Finally
      NextGenerator TypeClause ExprList Flat NextExpr Operand Run (λ e. e.0) (λ e. e.0) (λ e. e.0)
      (λ e. e.0) (λ e. e.0) (λ e. e.0) (λ e. e.0) (λ e. e.0) (λ e. e.0) (λ e. e.0) (λ e. e.0)
      (λ e. e.0) (λ e. e.0) (λ e. e.0) (λ e. e.0) (λ e. e.0) (λ e. e.0) (λ e. e.0) (λ e. e.0)
      (λ e. e.0) (λ e. e.0) (λ e. e.0) (λ e. e.0) (λ e. e.0) (λ e. e.0)

  abbrev else_clause_mentions : ElseClause-F Delimited ItemTree Atom Expr FlatPart GeneratorTree
      Head Postfix RunPart Variable Also BlockItem CaseClause Catch Elif ElseBlock ElseClause
      Finally NextGenerator TypeClause ExprList Flat NextExpr Operand Run
      → ElseClause-F Mentioned Mentioned Mentioned Mentioned Mentioned Mentioned Mentioned Mentioned
      Mentioned Mentioned Mentioned Mentioned Mentioned Mentioned Mentioned Mentioned Mentioned
      Mentioned Mentioned Mentioned Mentioned Mentioned Mentioned Mentioned Mentioned
  else_clause_mentions =
      map-ElseClause Delimited ItemTree Atom Expr FlatPart GeneratorTree Head Postfix RunPart
      Variable Also BlockItem CaseClause Catch Elif ElseBlock ElseClause Finally NextGenerator
      TypeClause ExprList Flat NextExpr Operand Run Mentioned Mentioned Mentioned Mentioned
      Mentioned Mentioned Mentioned Mentioned Mentioned Mentioned Mentioned Mentioned Mentioned
      Mentioned Mentioned Mentioned Mentioned Mentioned Mentioned Mentioned Mentioned Mentioned
      Mentioned Mentioned Mentioned mentioned_delimited mentioned_item mentioned_atom mentioned_expr
      mentioned_flat_part mentioned_generator mentioned_head mentioned_postfix mentioned_run_part
      mentioned_variable mentioned_also mentioned_block_item mentioned_case_clause mentioned_catch
      mentioned_elif mentioned_else_block mentioned_else_clause mentioned_finally
      mentioned_next_generator mentioned_type_clause mentioned_expr_list mentioned_flat
      mentioned_next_expr mentioned_operand mentioned_run

  abbrev else_clause_forms : ElseClause-F Delimited ItemTree Atom Expr FlatPart GeneratorTree Head
      Postfix RunPart Variable Also BlockItem CaseClause Catch Elif ElseBlock ElseClause Finally
      NextGenerator TypeClause ExprList Flat NextExpr Operand Run
      → ElseClause-F Form Placed Form Form Form FormGenerator Opening Form Form Placed Form Placed
      Branch Catching Branch Form Form Form FormGenerator TypeBranch Listed Form Form Form Form
  else_clause_forms =
      map-ElseClause Delimited ItemTree Atom Expr FlatPart GeneratorTree Head Postfix RunPart
      Variable Also BlockItem CaseClause Catch Elif ElseBlock ElseClause Finally NextGenerator
      TypeClause ExprList Flat NextExpr Operand Run Form Placed Form Form Form FormGenerator Opening
      Form Form Placed Form Placed Branch Catching Branch Form Form Form FormGenerator TypeBranch
      Listed Form Form Form Form (formed_delimited k) (formed_item k) (formed_atom k)
      (formed_expr k) (formed_flat_part k) (formed_generator k) (formed_head k) (formed_postfix k)
      (formed_run_part k) (formed_variable k) (formed_also k) (formed_block_item k)
      (formed_case_clause k) (formed_catch k) (formed_elif k) (formed_else_block k)
      (formed_else_clause k) (formed_finally k) (formed_next_generator k) (formed_type_clause k)
      (formed_expr_list k) (formed_flat k) (formed_next_expr k) (formed_operand k) (formed_run k)

  else_clause_mentioned : (l : ElseClause-F Delimited ItemTree Atom Expr FlatPart GeneratorTree Head
      Postfix RunPart Variable Also BlockItem CaseClause Catch Elif ElseBlock ElseClause Finally
      NextGenerator TypeClause ExprList Flat NextExpr Operand Run)
      → mentioned_else_clause (roll-ElseClause l) ≡ mention_else_clause (else_clause_mentions l)
  unfolding mentioned_delimited mentioned_item mentioned_atom mentioned_expr mentioned_flat_part
      mentioned_generator mentioned_head mentioned_postfix mentioned_run_part mentioned_variable
      mentioned_also mentioned_block_item mentioned_case_clause mentioned_catch mentioned_elif
      mentioned_else_block mentioned_else_clause mentioned_finally mentioned_next_generator
      mentioned_type_clause mentioned_expr_list mentioned_flat mentioned_next_expr mentioned_operand
      mentioned_run
  else_clause_mentioned l =
      fold-roll-ElseClause Mentioned Mentioned Mentioned Mentioned Mentioned Mentioned Mentioned
      Mentioned Mentioned Mentioned Mentioned Mentioned Mentioned Mentioned Mentioned Mentioned
      Mentioned Mentioned Mentioned Mentioned Mentioned Mentioned Mentioned Mentioned Mentioned
      mention_delimited mention_item mention_atom mention_expr mention_flat_part mention_generator
      mention_head mention_postfix mention_run_part mention_variable mention_also mention_block_item
      mention_case_clause mention_catch mention_elif mention_else_block mention_else_clause
      mention_finally mention_next_generator mention_type_clause mention_expr_list mention_flat
      mention_next_expr mention_operand mention_run l

  else_clause_formed : (l : ElseClause-F Delimited ItemTree Atom Expr FlatPart GeneratorTree Head
      Postfix RunPart Variable Also BlockItem CaseClause Catch Elif ElseBlock ElseClause Finally
      NextGenerator TypeClause ExprList Flat NextExpr Operand Run)
      → formed_else_clause k (roll-ElseClause l) ≡ form_else_clause (else_clause_forms l)
  unfolding formed_delimited formed_item formed_atom formed_expr formed_flat_part formed_generator
      formed_head formed_postfix formed_run_part formed_variable formed_also formed_block_item
      formed_case_clause formed_catch formed_elif formed_else_block formed_else_clause
      formed_finally formed_next_generator formed_type_clause formed_expr_list formed_flat
      formed_next_expr formed_operand formed_run
  else_clause_formed l =
      fold-roll-ElseClause Form Placed Form Form Form FormGenerator Opening Form Form Placed Form
      Placed Branch Catching Branch Form Form Form FormGenerator TypeBranch Listed Form Form Form
      Form form_delimited (form_item k) (form_atom k) form_expr form_flat_part form_generator
      (form_head k) form_postfix form_run_part (form_variable k) form_also form_block_item
      form_case_clause form_catch form_elif form_else_block form_else_clause form_finally
      form_next_generator (form_type_clause k) form_expr_list (form_flat k) form_next_expr
      form_operand form_run l

  else_clause_level : (y : ElseClause-F OneDelimited OneItem OneAtom OneExpr OneFlatPart
      OneGenerator OneHead OnePostfix OneRunPart OneVariable OneAlso OneBlockItem OneCaseClause
      OneCatch OneElif OneElseBlock OneElseClause OneFinally OneNextGenerator OneTypeClause
      OneExprList OneFlat OneNextExpr OneOperand OneRun)
      → Known_in (mention_else_clause (else_clause_mentions (else_clause_parts y)))
      → IsGood P (form_else_clause (else_clause_forms (else_clause_parts y)))
  else_clause_level y h = y.value.1 h

  else_clause_step : (x : ElseClause-F Delimited ItemTree Atom Expr FlatPart GeneratorTree Head
      Postfix RunPart Variable Also BlockItem CaseClause Catch Elif ElseBlock ElseClause Finally
      NextGenerator TypeClause ExprList Flat NextExpr Operand Run)
      (y : ElseClause-F OneDelimited OneItem OneAtom OneExpr OneFlatPart OneGenerator OneHead
      OnePostfix OneRunPart OneVariable OneAlso OneBlockItem OneCaseClause OneCatch OneElif
      OneElseBlock OneElseClause OneFinally OneNextGenerator OneTypeClause OneExprList OneFlat
      OneNextExpr OneOperand OneRun) → else_clause_parts y ≡ x
      → IsElseClause (roll-ElseClause x)
  else_clause_step x y is =
      subst (λ x. IsElseClause (roll-ElseClause x)) is
      (λ h. subst (IsGood P) (sym (else_clause_formed (else_clause_parts y)))
      (else_clause_level y (subst (Known_in) (else_clause_mentioned (else_clause_parts y)) h)))

  -- ---- Finally

  abbrev finally_parts : Finally-F OneDelimited OneItem OneAtom OneExpr OneFlatPart OneGenerator
      OneHead OnePostfix OneRunPart OneVariable OneAlso OneBlockItem OneCaseClause OneCatch OneElif
      OneElseBlock OneElseClause OneFinally OneNextGenerator OneTypeClause OneExprList OneFlat
      OneNextExpr OneOperand OneRun
      → Finally-F Delimited ItemTree Atom Expr FlatPart GeneratorTree Head Postfix RunPart Variable
      Also BlockItem CaseClause Catch Elif ElseBlock ElseClause Finally NextGenerator TypeClause
      ExprList Flat NextExpr Operand Run
  finally_parts =
      map-Finally OneDelimited OneItem OneAtom OneExpr OneFlatPart OneGenerator OneHead OnePostfix
      OneRunPart OneVariable OneAlso OneBlockItem OneCaseClause OneCatch OneElif OneElseBlock
      OneElseClause OneFinally OneNextGenerator OneTypeClause OneExprList OneFlat OneNextExpr
      OneOperand OneRun Delimited ItemTree Atom Expr FlatPart GeneratorTree Head Postfix RunPart
      Variable Also BlockItem CaseClause Catch Elif ElseBlock ElseClause Finally NextGenerator
      TypeClause ExprList Flat NextExpr Operand Run (λ e. e.0) (λ e. e.0) (λ e. e.0) (λ e. e.0)
      (λ e. e.0) (λ e. e.0) (λ e. e.0) (λ e. e.0) (λ e. e.0) (λ e. e.0) (λ e. e.0) (λ e. e.0)
      (λ e. e.0) (λ e. e.0) (λ e. e.0) (λ e. e.0) (λ e. e.0) (λ e. e.0) (λ e. e.0) (λ e. e.0)
      (λ e. e.0) (λ e. e.0) (λ e. e.0) (λ e. e.0) (λ e. e.0)

  abbrev finally_mentions : Finally-F Delimited ItemTree Atom Expr FlatPart GeneratorTree Head
      Postfix RunPart Variable Also BlockItem CaseClause Catch Elif ElseBlock ElseClause Finally
      NextGenerator TypeClause ExprList Flat NextExpr Operand Run
      → Finally-F Mentioned Mentioned Mentioned Mentioned Mentioned Mentioned Mentioned Mentioned
      Mentioned Mentioned Mentioned Mentioned Mentioned Mentioned Mentioned Mentioned Mentioned
      Mentioned Mentioned Mentioned Mentioned Mentioned Mentioned Mentioned Mentioned
  finally_mentions =
      map-Finally Delimited ItemTree Atom Expr FlatPart GeneratorTree Head Postfix RunPart Variable
      Also BlockItem CaseClause Catch Elif ElseBlock ElseClause Finally NextGenerator TypeClause
      ExprList Flat NextExpr Operand Run Mentioned Mentioned Mentioned Mentioned Mentioned Mentioned
      Mentioned Mentioned Mentioned Mentioned Mentioned Mentioned Mentioned Mentioned Mentioned
      Mentioned Mentioned Mentioned Mentioned Mentioned Mentioned Mentioned Mentioned Mentioned
      Mentioned mentioned_delimited mentioned_item mentioned_atom mentioned_expr mentioned_flat_part
      mentioned_generator mentioned_head mentioned_postfix mentioned_run_part mentioned_variable
      mentioned_also mentioned_block_item mentioned_case_clause mentioned_catch mentioned_elif
      mentioned_else_block mentioned_else_clause mentioned_finally mentioned_next_generator
      mentioned_type_clause mentioned_expr_list mentioned_flat mentioned_next_expr mentioned_operand
      mentioned_run

  abbrev finally_forms : Finally-F Delimited ItemTree Atom Expr FlatPart GeneratorTree Head Postfix
      RunPart Variable Also BlockItem CaseClause Catch Elif ElseBlock ElseClause Finally
      NextGenerator TypeClause ExprList Flat NextExpr Operand Run
      → Finally-F Form Placed Form Form Form FormGenerator Opening Form Form Placed Form Placed
      Branch Catching Branch Form Form Form FormGenerator TypeBranch Listed Form Form Form Form
  finally_forms =
      map-Finally Delimited ItemTree Atom Expr FlatPart GeneratorTree Head Postfix RunPart Variable
      Also BlockItem CaseClause Catch Elif ElseBlock ElseClause Finally NextGenerator TypeClause
      ExprList Flat NextExpr Operand Run Form Placed Form Form Form FormGenerator Opening Form Form
      Placed Form Placed Branch Catching Branch Form Form Form FormGenerator TypeBranch Listed Form
      Form Form Form (formed_delimited k) (formed_item k) (formed_atom k) (formed_expr k)
      (formed_flat_part k) (formed_generator k) (formed_head k) (formed_postfix k)
      (formed_run_part k) (formed_variable k) (formed_also k) (formed_block_item k)
      (formed_case_clause k) (formed_catch k) (formed_elif k) (formed_else_block k)
      (formed_else_clause k) (formed_finally k) (formed_next_generator k) (formed_type_clause k)
      (formed_expr_list k) (formed_flat k) (formed_next_expr k) (formed_operand k) (formed_run k)

  finally_mentioned : (l : Finally-F Delimited ItemTree Atom Expr FlatPart GeneratorTree Head
      Postfix RunPart Variable Also BlockItem CaseClause Catch Elif ElseBlock ElseClause Finally
      NextGenerator TypeClause ExprList Flat NextExpr Operand Run)
      → mentioned_finally (roll-Finally l) ≡ mention_finally (finally_mentions l)
  unfolding mentioned_delimited mentioned_item mentioned_atom mentioned_expr mentioned_flat_part
      mentioned_generator mentioned_head mentioned_postfix mentioned_run_part mentioned_variable
      mentioned_also mentioned_block_item mentioned_case_clause mentioned_catch mentioned_elif
      mentioned_else_block mentioned_else_clause mentioned_finally mentioned_next_generator
      mentioned_type_clause mentioned_expr_list mentioned_flat mentioned_next_expr mentioned_operand
      mentioned_run
  finally_mentioned l =
      fold-roll-Finally Mentioned Mentioned Mentioned Mentioned Mentioned Mentioned Mentioned
      Mentioned Mentioned Mentioned Mentioned Mentioned Mentioned Mentioned Mentioned Mentioned
      Mentioned Mentioned Mentioned Mentioned Mentioned Mentioned Mentioned Mentioned Mentioned
      mention_delimited mention_item mention_atom mention_expr mention_flat_part mention_generator
      mention_head mention_postfix mention_run_part mention_variable mention_also mention_block_item
      mention_case_clause mention_catch mention_elif mention_else_block mention_else_clause
      mention_finally mention_next_generator mention_type_clause mention_expr_list mention_flat
      mention_next_expr mention_operand mention_run l

  finally_formed : (l : Finally-F Delimited ItemTree Atom Expr FlatPart GeneratorTree Head Postfix
      RunPart Variable Also BlockItem CaseClause Catch Elif ElseBlock ElseClause Finally
      NextGenerator TypeClause ExprList Flat NextExpr Operand Run)
      → formed_finally k (roll-Finally l) ≡ form_finally (finally_forms l)
  unfolding formed_delimited formed_item formed_atom formed_expr formed_flat_part formed_generator
      formed_head formed_postfix formed_run_part formed_variable formed_also formed_block_item
      formed_case_clause formed_catch formed_elif formed_else_block formed_else_clause
      formed_finally formed_next_generator formed_type_clause formed_expr_list formed_flat
      formed_next_expr formed_operand formed_run
  finally_formed l =
      fold-roll-Finally Form Placed Form Form Form FormGenerator Opening Form Form Placed Form
      Placed Branch Catching Branch Form Form Form FormGenerator TypeBranch Listed Form Form Form
      Form form_delimited (form_item k) (form_atom k) form_expr form_flat_part form_generator
      (form_head k) form_postfix form_run_part (form_variable k) form_also form_block_item
      form_case_clause form_catch form_elif form_else_block form_else_clause form_finally
      form_next_generator (form_type_clause k) form_expr_list (form_flat k) form_next_expr
      form_operand form_run l

  finally_level : (y : Finally-F OneDelimited OneItem OneAtom OneExpr OneFlatPart OneGenerator
      OneHead OnePostfix OneRunPart OneVariable OneAlso OneBlockItem OneCaseClause OneCatch
      OneElif OneElseBlock OneElseClause OneFinally OneNextGenerator OneTypeClause OneExprList
      OneFlat OneNextExpr OneOperand OneRun)
      → Known_in (mention_finally (finally_mentions (finally_parts y)))
      → IsGood P (form_finally (finally_forms (finally_parts y)))
  finally_level y h =
      block-good y.finally (map (formed_block_item k) (firsts y.block))
      (each mentioned_block_item (formed_block_item k) GoodPlaced y.block h)

  finally_step : (x : Finally-F Delimited ItemTree Atom Expr FlatPart GeneratorTree Head Postfix
      RunPart Variable Also BlockItem CaseClause Catch Elif ElseBlock ElseClause Finally
      NextGenerator TypeClause ExprList Flat NextExpr Operand Run)
      (y : Finally-F OneDelimited OneItem OneAtom OneExpr OneFlatPart OneGenerator OneHead
      OnePostfix OneRunPart OneVariable OneAlso OneBlockItem OneCaseClause OneCatch OneElif
      OneElseBlock OneElseClause OneFinally OneNextGenerator OneTypeClause OneExprList OneFlat
      OneNextExpr OneOperand OneRun) → finally_parts y ≡ x → IsFinally (roll-Finally x)
  finally_step x y is =
      subst (λ x. IsFinally (roll-Finally x)) is
      (λ h. subst (IsGood P) (sym (finally_formed (finally_parts y)))
      (finally_level y (subst (Known_in) (finally_mentioned (finally_parts y)) h)))

  -- ---- NextGenerator

  abbrev next_generator_parts : NextGenerator-F OneDelimited OneItem OneAtom OneExpr OneFlatPart
      OneGenerator OneHead OnePostfix OneRunPart OneVariable OneAlso OneBlockItem OneCaseClause
      OneCatch OneElif OneElseBlock OneElseClause OneFinally OneNextGenerator OneTypeClause
      OneExprList OneFlat OneNextExpr OneOperand OneRun
      → NextGenerator-F Delimited ItemTree Atom Expr FlatPart GeneratorTree Head Postfix RunPart
      Variable Also BlockItem CaseClause Catch Elif ElseBlock ElseClause Finally NextGenerator
      TypeClause ExprList Flat NextExpr Operand Run
  next_generator_parts =
      map-NextGenerator OneDelimited OneItem OneAtom OneExpr OneFlatPart OneGenerator OneHead
      OnePostfix OneRunPart OneVariable OneAlso OneBlockItem OneCaseClause OneCatch OneElif
      OneElseBlock OneElseClause OneFinally OneNextGenerator OneTypeClause OneExprList OneFlat
      OneNextExpr OneOperand OneRun Delimited ItemTree Atom Expr FlatPart GeneratorTree Head Postfix
      RunPart Variable Also BlockItem CaseClause Catch Elif ElseBlock ElseClause Finally
      NextGenerator TypeClause ExprList Flat NextExpr Operand Run (λ e. e.0) (λ e. e.0) (λ e. e.0)
      (λ e. e.0) (λ e. e.0) (λ e. e.0) (λ e. e.0) (λ e. e.0) (λ e. e.0) (λ e. e.0) (λ e. e.0)
      (λ e. e.0) (λ e. e.0) (λ e. e.0) (λ e. e.0) (λ e. e.0) (λ e. e.0) (λ e. e.0) (λ e. e.0)
      (λ e. e.0) (λ e. e.0) (λ e. e.0) (λ e. e.0) (λ e. e.0) (λ e. e.0)

  abbrev next_generator_mentions : NextGenerator-F Delimited ItemTree Atom Expr FlatPart
      GeneratorTree Head Postfix RunPart Variable Also BlockItem CaseClause Catch Elif ElseBlock
      ElseClause Finally NextGenerator TypeClause ExprList Flat NextExpr Operand Run
      → NextGenerator-F Mentioned Mentioned Mentioned Mentioned Mentioned Mentioned Mentioned
      Mentioned Mentioned Mentioned Mentioned Mentioned Mentioned Mentioned Mentioned Mentioned
      Mentioned Mentioned Mentioned Mentioned Mentioned Mentioned Mentioned Mentioned Mentioned
  next_generator_mentions =
      map-NextGenerator Delimited ItemTree Atom Expr FlatPart GeneratorTree Head Postfix RunPart
      Variable Also BlockItem CaseClause Catch Elif ElseBlock ElseClause Finally NextGenerator
      TypeClause ExprList Flat NextExpr Operand Run Mentioned Mentioned Mentioned Mentioned
      Mentioned Mentioned Mentioned Mentioned Mentioned Mentioned Mentioned Mentioned Mentioned
      Mentioned Mentioned Mentioned Mentioned Mentioned Mentioned Mentioned Mentioned Mentioned
      Mentioned Mentioned Mentioned mentioned_delimited mentioned_item mentioned_atom mentioned_expr
      mentioned_flat_part mentioned_generator mentioned_head mentioned_postfix mentioned_run_part
      mentioned_variable mentioned_also mentioned_block_item mentioned_case_clause mentioned_catch
      mentioned_elif mentioned_else_block mentioned_else_clause mentioned_finally
      mentioned_next_generator mentioned_type_clause mentioned_expr_list mentioned_flat
      mentioned_next_expr mentioned_operand mentioned_run

  abbrev next_generator_forms : NextGenerator-F Delimited ItemTree Atom Expr FlatPart GeneratorTree
      Head Postfix RunPart Variable Also BlockItem CaseClause Catch Elif ElseBlock ElseClause
      Finally NextGenerator TypeClause ExprList Flat NextExpr Operand Run
      → NextGenerator-F Form Placed Form Form Form FormGenerator Opening Form Form Placed Form
      Placed Branch Catching Branch Form Form Form FormGenerator TypeBranch Listed Form Form Form
      Form
  next_generator_forms =
      map-NextGenerator Delimited ItemTree Atom Expr FlatPart GeneratorTree Head Postfix RunPart
      Variable Also BlockItem CaseClause Catch Elif ElseBlock ElseClause Finally NextGenerator
      TypeClause ExprList Flat NextExpr Operand Run Form Placed Form Form Form FormGenerator Opening
      Form Form Placed Form Placed Branch Catching Branch Form Form Form FormGenerator TypeBranch
      Listed Form Form Form Form (formed_delimited k) (formed_item k) (formed_atom k)
      (formed_expr k) (formed_flat_part k) (formed_generator k) (formed_head k) (formed_postfix k)
      (formed_run_part k) (formed_variable k) (formed_also k) (formed_block_item k)
      (formed_case_clause k) (formed_catch k) (formed_elif k) (formed_else_block k)
      (formed_else_clause k) (formed_finally k) (formed_next_generator k) (formed_type_clause k)
      (formed_expr_list k) (formed_flat k) (formed_next_expr k) (formed_operand k) (formed_run k)

  next_generator_mentioned : (l : NextGenerator-F Delimited ItemTree Atom Expr FlatPart
      GeneratorTree Head Postfix RunPart Variable Also BlockItem CaseClause Catch Elif ElseBlock
      ElseClause Finally NextGenerator TypeClause ExprList Flat NextExpr Operand Run)
      → mentioned_next_generator (roll-NextGenerator l)
      ≡ mention_next_generator (next_generator_mentions l)
  unfolding mentioned_delimited mentioned_item mentioned_atom mentioned_expr mentioned_flat_part
      mentioned_generator mentioned_head mentioned_postfix mentioned_run_part mentioned_variable
      mentioned_also mentioned_block_item mentioned_case_clause mentioned_catch mentioned_elif
      mentioned_else_block mentioned_else_clause mentioned_finally mentioned_next_generator
      mentioned_type_clause mentioned_expr_list mentioned_flat mentioned_next_expr mentioned_operand
      mentioned_run
  next_generator_mentioned l =
      fold-roll-NextGenerator Mentioned Mentioned Mentioned Mentioned Mentioned Mentioned Mentioned
      Mentioned Mentioned Mentioned Mentioned Mentioned Mentioned Mentioned Mentioned Mentioned
      Mentioned Mentioned Mentioned Mentioned Mentioned Mentioned Mentioned Mentioned Mentioned
      mention_delimited mention_item mention_atom mention_expr mention_flat_part mention_generator
      mention_head mention_postfix mention_run_part mention_variable mention_also mention_block_item
      mention_case_clause mention_catch mention_elif mention_else_block mention_else_clause
      mention_finally mention_next_generator mention_type_clause mention_expr_list mention_flat
      mention_next_expr mention_operand mention_run l

  next_generator_formed : (l : NextGenerator-F Delimited ItemTree Atom Expr FlatPart GeneratorTree
      Head Postfix RunPart Variable Also BlockItem CaseClause Catch Elif ElseBlock ElseClause
      Finally NextGenerator TypeClause ExprList Flat NextExpr Operand Run)
      → formed_next_generator k (roll-NextGenerator l)
      ≡ form_next_generator (next_generator_forms l)
  unfolding formed_delimited formed_item formed_atom formed_expr formed_flat_part formed_generator
      formed_head formed_postfix formed_run_part formed_variable formed_also formed_block_item
      formed_case_clause formed_catch formed_elif formed_else_block formed_else_clause
      formed_finally formed_next_generator formed_type_clause formed_expr_list formed_flat
      formed_next_expr formed_operand formed_run
  next_generator_formed l =
      fold-roll-NextGenerator Form Placed Form Form Form FormGenerator Opening Form Form Placed Form
      Placed Branch Catching Branch Form Form Form FormGenerator TypeBranch Listed Form Form Form
      Form form_delimited (form_item k) (form_atom k) form_expr form_flat_part form_generator
      (form_head k) form_postfix form_run_part (form_variable k) form_also form_block_item
      form_case_clause form_catch form_elif form_else_block form_else_clause form_finally
      form_next_generator (form_type_clause k) form_expr_list (form_flat k) form_next_expr
      form_operand form_run l

  next_generator_level : (y : NextGenerator-F OneDelimited OneItem OneAtom OneExpr OneFlatPart
      OneGenerator OneHead OnePostfix OneRunPart OneVariable OneAlso OneBlockItem OneCaseClause
      OneCatch OneElif OneElseBlock OneElseClause OneFinally OneNextGenerator OneTypeClause
      OneExprList OneFlat OneNextExpr OneOperand OneRun)
      → Known_in (mention_next_generator (next_generator_mentions (next_generator_parts y)))
      → GoodGenerator P (form_next_generator (next_generator_forms (next_generator_parts y)))
  next_generator_level y h = y.generator.1 h

  next_generator_step : (x : NextGenerator-F Delimited ItemTree Atom Expr FlatPart GeneratorTree
      Head Postfix RunPart Variable Also BlockItem CaseClause Catch Elif ElseBlock ElseClause
      Finally NextGenerator TypeClause ExprList Flat NextExpr Operand Run)
      (y : NextGenerator-F OneDelimited OneItem OneAtom OneExpr OneFlatPart OneGenerator OneHead
      OnePostfix OneRunPart OneVariable OneAlso OneBlockItem OneCaseClause OneCatch OneElif
      OneElseBlock OneElseClause OneFinally OneNextGenerator OneTypeClause OneExprList OneFlat
      OneNextExpr OneOperand OneRun) → next_generator_parts y ≡ x
      → IsNextGenerator (roll-NextGenerator x)
  next_generator_step x y is =
      subst (λ x. IsNextGenerator (roll-NextGenerator x)) is
      (λ h. subst (GoodGenerator P) (sym (next_generator_formed (next_generator_parts y)))
      (next_generator_level y
      (subst (Known_in) (next_generator_mentioned (next_generator_parts y)) h)))

  -- ---- TypeClause

  abbrev type_clause_parts : TypeClause-F OneDelimited OneItem OneAtom OneExpr OneFlatPart
      OneGenerator OneHead OnePostfix OneRunPart OneVariable OneAlso OneBlockItem OneCaseClause
      OneCatch OneElif OneElseBlock OneElseClause OneFinally OneNextGenerator OneTypeClause
      OneExprList OneFlat OneNextExpr OneOperand OneRun
      → TypeClause-F Delimited ItemTree Atom Expr FlatPart GeneratorTree Head Postfix RunPart
      Variable Also BlockItem CaseClause Catch Elif ElseBlock ElseClause Finally NextGenerator
      TypeClause ExprList Flat NextExpr Operand Run
  type_clause_parts =
      map-TypeClause OneDelimited OneItem OneAtom OneExpr OneFlatPart OneGenerator OneHead
      OnePostfix OneRunPart OneVariable OneAlso OneBlockItem OneCaseClause OneCatch OneElif
      OneElseBlock OneElseClause OneFinally OneNextGenerator OneTypeClause OneExprList OneFlat
      OneNextExpr OneOperand OneRun Delimited ItemTree Atom Expr FlatPart GeneratorTree Head Postfix
      RunPart Variable Also BlockItem CaseClause Catch Elif ElseBlock ElseClause Finally
      NextGenerator TypeClause ExprList Flat NextExpr Operand Run (λ e. e.0) (λ e. e.0) (λ e. e.0)
      (λ e. e.0) (λ e. e.0) (λ e. e.0) (λ e. e.0) (λ e. e.0) (λ e. e.0) (λ e. e.0) (λ e. e.0)
      (λ e. e.0) (λ e. e.0) (λ e. e.0) (λ e. e.0) (λ e. e.0) (λ e. e.0) (λ e. e.0) (λ e. e.0)
      (λ e. e.0) (λ e. e.0) (λ e. e.0) (λ e. e.0) (λ e. e.0) (λ e. e.0)

  abbrev type_clause_mentions : TypeClause-F Delimited ItemTree Atom Expr FlatPart GeneratorTree
      Head Postfix RunPart Variable Also BlockItem CaseClause Catch Elif ElseBlock ElseClause
      Finally NextGenerator TypeClause ExprList Flat NextExpr Operand Run
      → TypeClause-F Mentioned Mentioned Mentioned Mentioned Mentioned Mentioned Mentioned Mentioned
      Mentioned Mentioned Mentioned Mentioned Mentioned Mentioned Mentioned Mentioned Mentioned
      Mentioned Mentioned Mentioned Mentioned Mentioned Mentioned Mentioned Mentioned
  type_clause_mentions =
      map-TypeClause Delimited ItemTree Atom Expr FlatPart GeneratorTree Head Postfix RunPart
      Variable Also BlockItem CaseClause Catch Elif ElseBlock ElseClause Finally NextGenerator
      TypeClause ExprList Flat NextExpr Operand Run Mentioned Mentioned Mentioned Mentioned
      Mentioned Mentioned Mentioned Mentioned Mentioned Mentioned Mentioned Mentioned Mentioned
      Mentioned Mentioned Mentioned Mentioned Mentioned Mentioned Mentioned Mentioned Mentioned
      Mentioned Mentioned Mentioned mentioned_delimited mentioned_item mentioned_atom mentioned_expr
      mentioned_flat_part mentioned_generator mentioned_head mentioned_postfix mentioned_run_part
      mentioned_variable mentioned_also mentioned_block_item mentioned_case_clause mentioned_catch
      mentioned_elif mentioned_else_block mentioned_else_clause mentioned_finally
      mentioned_next_generator mentioned_type_clause mentioned_expr_list mentioned_flat
      mentioned_next_expr mentioned_operand mentioned_run

  abbrev type_clause_forms : TypeClause-F Delimited ItemTree Atom Expr FlatPart GeneratorTree Head
      Postfix RunPart Variable Also BlockItem CaseClause Catch Elif ElseBlock ElseClause Finally
      NextGenerator TypeClause ExprList Flat NextExpr Operand Run
      → TypeClause-F Form Placed Form Form Form FormGenerator Opening Form Form Placed Form Placed
      Branch Catching Branch Form Form Form FormGenerator TypeBranch Listed Form Form Form Form
  type_clause_forms =
      map-TypeClause Delimited ItemTree Atom Expr FlatPart GeneratorTree Head Postfix RunPart
      Variable Also BlockItem CaseClause Catch Elif ElseBlock ElseClause Finally NextGenerator
      TypeClause ExprList Flat NextExpr Operand Run Form Placed Form Form Form FormGenerator Opening
      Form Form Placed Form Placed Branch Catching Branch Form Form Form FormGenerator TypeBranch
      Listed Form Form Form Form (formed_delimited k) (formed_item k) (formed_atom k)
      (formed_expr k) (formed_flat_part k) (formed_generator k) (formed_head k) (formed_postfix k)
      (formed_run_part k) (formed_variable k) (formed_also k) (formed_block_item k)
      (formed_case_clause k) (formed_catch k) (formed_elif k) (formed_else_block k)
      (formed_else_clause k) (formed_finally k) (formed_next_generator k) (formed_type_clause k)
      (formed_expr_list k) (formed_flat k) (formed_next_expr k) (formed_operand k) (formed_run k)

  type_clause_mentioned : (l : TypeClause-F Delimited ItemTree Atom Expr FlatPart GeneratorTree Head
      Postfix RunPart Variable Also BlockItem CaseClause Catch Elif ElseBlock ElseClause Finally
      NextGenerator TypeClause ExprList Flat NextExpr Operand Run)
      → mentioned_type_clause (roll-TypeClause l) ≡ mention_type_clause (type_clause_mentions l)
  unfolding mentioned_delimited mentioned_item mentioned_atom mentioned_expr mentioned_flat_part
      mentioned_generator mentioned_head mentioned_postfix mentioned_run_part mentioned_variable
      mentioned_also mentioned_block_item mentioned_case_clause mentioned_catch mentioned_elif
      mentioned_else_block mentioned_else_clause mentioned_finally mentioned_next_generator
      mentioned_type_clause mentioned_expr_list mentioned_flat mentioned_next_expr mentioned_operand
      mentioned_run
  type_clause_mentioned l =
      fold-roll-TypeClause Mentioned Mentioned Mentioned Mentioned Mentioned Mentioned Mentioned
      Mentioned Mentioned Mentioned Mentioned Mentioned Mentioned Mentioned Mentioned Mentioned
      Mentioned Mentioned Mentioned Mentioned Mentioned Mentioned Mentioned Mentioned Mentioned
      mention_delimited mention_item mention_atom mention_expr mention_flat_part mention_generator
      mention_head mention_postfix mention_run_part mention_variable mention_also mention_block_item
      mention_case_clause mention_catch mention_elif mention_else_block mention_else_clause
      mention_finally mention_next_generator mention_type_clause mention_expr_list mention_flat
      mention_next_expr mention_operand mention_run l

  type_clause_formed : (l : TypeClause-F Delimited ItemTree Atom Expr FlatPart GeneratorTree Head
      Postfix RunPart Variable Also BlockItem CaseClause Catch Elif ElseBlock ElseClause Finally
      NextGenerator TypeClause ExprList Flat NextExpr Operand Run)
      → formed_type_clause k (roll-TypeClause l) ≡ form_type_clause k (type_clause_forms l)
  unfolding formed_delimited formed_item formed_atom formed_expr formed_flat_part formed_generator
      formed_head formed_postfix formed_run_part formed_variable formed_also formed_block_item
      formed_case_clause formed_catch formed_elif formed_else_block formed_else_clause
      formed_finally formed_next_generator formed_type_clause formed_expr_list formed_flat
      formed_next_expr formed_operand formed_run
  type_clause_formed l =
      fold-roll-TypeClause Form Placed Form Form Form FormGenerator Opening Form Form Placed Form
      Placed Branch Catching Branch Form Form Form FormGenerator TypeBranch Listed Form Form Form
      Form form_delimited (form_item k) (form_atom k) form_expr form_flat_part form_generator
      (form_head k) form_postfix form_run_part (form_variable k) form_also form_block_item
      form_case_clause form_catch form_elif form_else_block form_else_clause form_finally
      form_next_generator (form_type_clause k) form_expr_list (form_flat k) form_next_expr
      form_operand form_run l

  type_clause_level : (y : TypeClause-F OneDelimited OneItem OneAtom OneExpr OneFlatPart
      OneGenerator OneHead OnePostfix OneRunPart OneVariable OneAlso OneBlockItem OneCaseClause
      OneCatch OneElif OneElseBlock OneElseClause OneFinally OneNextGenerator OneTypeClause
      OneExprList OneFlat OneNextExpr OneOperand OneRun)
      → Known_in (mention_type_clause (type_clause_mentions (type_clause_parts y)))
      → GoodClause P (form_type_clause k (type_clause_forms (type_clause_parts y)))
  type_clause_level y h =
      let a = mentioned_type y.ty in
      let b = mentioned_expr y.value.0 in
      good-clause P _ (k.written y.ty) (formed_expr k y.value.0) (S.types y.ty (front a b h))
      (y.value.1 (back a b h))

  type_clause_step : (x : TypeClause-F Delimited ItemTree Atom Expr FlatPart GeneratorTree Head
      Postfix RunPart Variable Also BlockItem CaseClause Catch Elif ElseBlock ElseClause Finally
      NextGenerator TypeClause ExprList Flat NextExpr Operand Run)
      (y : TypeClause-F OneDelimited OneItem OneAtom OneExpr OneFlatPart OneGenerator OneHead
      OnePostfix OneRunPart OneVariable OneAlso OneBlockItem OneCaseClause OneCatch OneElif
      OneElseBlock OneElseClause OneFinally OneNextGenerator OneTypeClause OneExprList OneFlat
      OneNextExpr OneOperand OneRun) → type_clause_parts y ≡ x
      → IsTypeClause (roll-TypeClause x)
  type_clause_step x y is =
      subst (λ x. IsTypeClause (roll-TypeClause x)) is
      (λ h. subst (GoodClause P) (sym (type_clause_formed (type_clause_parts y)))
      (type_clause_level y (subst (Known_in) (type_clause_mentioned (type_clause_parts y)) h)))

  -- ---- ExprList

  abbrev expr_list_parts : ExprList-F OneDelimited OneItem OneAtom OneExpr OneFlatPart OneGenerator
      OneHead OnePostfix OneRunPart OneVariable OneAlso OneBlockItem OneCaseClause OneCatch OneElif
      OneElseBlock OneElseClause OneFinally OneNextGenerator OneTypeClause OneExprList OneFlat
      OneNextExpr OneOperand OneRun
      → ExprList-F Delimited ItemTree Atom Expr FlatPart GeneratorTree Head Postfix RunPart Variable
      Also BlockItem CaseClause Catch Elif ElseBlock ElseClause Finally NextGenerator TypeClause
      ExprList Flat NextExpr Operand Run
  expr_list_parts =
      map-ExprList OneDelimited OneItem OneAtom OneExpr OneFlatPart OneGenerator OneHead OnePostfix
      OneRunPart OneVariable OneAlso OneBlockItem OneCaseClause OneCatch OneElif OneElseBlock
      OneElseClause OneFinally OneNextGenerator OneTypeClause OneExprList OneFlat OneNextExpr
      OneOperand OneRun Delimited ItemTree Atom Expr FlatPart GeneratorTree Head Postfix RunPart
      Variable Also BlockItem CaseClause Catch Elif ElseBlock ElseClause Finally NextGenerator
      TypeClause ExprList Flat NextExpr Operand Run (λ e. e.0) (λ e. e.0) (λ e. e.0) (λ e. e.0)
      (λ e. e.0) (λ e. e.0) (λ e. e.0) (λ e. e.0) (λ e. e.0) (λ e. e.0) (λ e. e.0) (λ e. e.0)
      (λ e. e.0) (λ e. e.0) (λ e. e.0) (λ e. e.0) (λ e. e.0) (λ e. e.0) (λ e. e.0) (λ e. e.0)
      (λ e. e.0) (λ e. e.0) (λ e. e.0) (λ e. e.0) (λ e. e.0)

  abbrev expr_list_mentions : ExprList-F Delimited ItemTree Atom Expr FlatPart GeneratorTree Head
      Postfix RunPart Variable Also BlockItem CaseClause Catch Elif ElseBlock ElseClause Finally
      NextGenerator TypeClause ExprList Flat NextExpr Operand Run
      → ExprList-F Mentioned Mentioned Mentioned Mentioned Mentioned Mentioned Mentioned Mentioned
      Mentioned Mentioned Mentioned Mentioned Mentioned Mentioned Mentioned Mentioned Mentioned
      Mentioned Mentioned Mentioned Mentioned Mentioned Mentioned Mentioned Mentioned
  expr_list_mentions =
      map-ExprList Delimited ItemTree Atom Expr FlatPart GeneratorTree Head Postfix RunPart Variable
      Also BlockItem CaseClause Catch Elif ElseBlock ElseClause Finally NextGenerator TypeClause
      ExprList Flat NextExpr Operand Run Mentioned Mentioned Mentioned Mentioned Mentioned Mentioned
      Mentioned Mentioned Mentioned Mentioned Mentioned Mentioned Mentioned Mentioned Mentioned
      Mentioned Mentioned Mentioned Mentioned Mentioned Mentioned Mentioned Mentioned Mentioned
      Mentioned mentioned_delimited mentioned_item mentioned_atom mentioned_expr mentioned_flat_part
      mentioned_generator mentioned_head mentioned_postfix mentioned_run_part mentioned_variable
      mentioned_also mentioned_block_item mentioned_case_clause mentioned_catch mentioned_elif
      mentioned_else_block mentioned_else_clause mentioned_finally mentioned_next_generator
      mentioned_type_clause mentioned_expr_list mentioned_flat mentioned_next_expr mentioned_operand
      mentioned_run

  abbrev expr_list_forms : ExprList-F Delimited ItemTree Atom Expr FlatPart GeneratorTree Head
      Postfix RunPart Variable Also BlockItem CaseClause Catch Elif ElseBlock ElseClause Finally
      NextGenerator TypeClause ExprList Flat NextExpr Operand Run
      → ExprList-F Form Placed Form Form Form FormGenerator Opening Form Form Placed Form Placed
      Branch Catching Branch Form Form Form FormGenerator TypeBranch Listed Form Form Form Form
  expr_list_forms =
      map-ExprList Delimited ItemTree Atom Expr FlatPart GeneratorTree Head Postfix RunPart Variable
      Also BlockItem CaseClause Catch Elif ElseBlock ElseClause Finally NextGenerator TypeClause
      ExprList Flat NextExpr Operand Run Form Placed Form Form Form FormGenerator Opening Form Form
      Placed Form Placed Branch Catching Branch Form Form Form FormGenerator TypeBranch Listed Form
      Form Form Form (formed_delimited k) (formed_item k) (formed_atom k) (formed_expr k)
      (formed_flat_part k) (formed_generator k) (formed_head k) (formed_postfix k)
      (formed_run_part k) (formed_variable k) (formed_also k) (formed_block_item k)
      (formed_case_clause k) (formed_catch k) (formed_elif k) (formed_else_block k)
      (formed_else_clause k) (formed_finally k) (formed_next_generator k) (formed_type_clause k)
      (formed_expr_list k) (formed_flat k) (formed_next_expr k) (formed_operand k) (formed_run k)

  expr_list_mentioned : (l : ExprList-F Delimited ItemTree Atom Expr FlatPart GeneratorTree Head
      Postfix RunPart Variable Also BlockItem CaseClause Catch Elif ElseBlock ElseClause Finally
      NextGenerator TypeClause ExprList Flat NextExpr Operand Run)
      → mentioned_expr_list (roll-ExprList l) ≡ mention_expr_list (expr_list_mentions l)
  unfolding mentioned_delimited mentioned_item mentioned_atom mentioned_expr mentioned_flat_part
      mentioned_generator mentioned_head mentioned_postfix mentioned_run_part mentioned_variable
      mentioned_also mentioned_block_item mentioned_case_clause mentioned_catch mentioned_elif
      mentioned_else_block mentioned_else_clause mentioned_finally mentioned_next_generator
      mentioned_type_clause mentioned_expr_list mentioned_flat mentioned_next_expr mentioned_operand
      mentioned_run
  expr_list_mentioned l =
      fold-roll-ExprList Mentioned Mentioned Mentioned Mentioned Mentioned Mentioned Mentioned
      Mentioned Mentioned Mentioned Mentioned Mentioned Mentioned Mentioned Mentioned Mentioned
      Mentioned Mentioned Mentioned Mentioned Mentioned Mentioned Mentioned Mentioned Mentioned
      mention_delimited mention_item mention_atom mention_expr mention_flat_part mention_generator
      mention_head mention_postfix mention_run_part mention_variable mention_also mention_block_item
      mention_case_clause mention_catch mention_elif mention_else_block mention_else_clause
      mention_finally mention_next_generator mention_type_clause mention_expr_list mention_flat
      mention_next_expr mention_operand mention_run l

  expr_list_formed : (l : ExprList-F Delimited ItemTree Atom Expr FlatPart GeneratorTree Head
      Postfix RunPart Variable Also BlockItem CaseClause Catch Elif ElseBlock ElseClause Finally
      NextGenerator TypeClause ExprList Flat NextExpr Operand Run)
      → formed_expr_list k (roll-ExprList l) ≡ form_expr_list (expr_list_forms l)
  unfolding formed_delimited formed_item formed_atom formed_expr formed_flat_part formed_generator
      formed_head formed_postfix formed_run_part formed_variable formed_also formed_block_item
      formed_case_clause formed_catch formed_elif formed_else_block formed_else_clause
      formed_finally formed_next_generator formed_type_clause formed_expr_list formed_flat
      formed_next_expr formed_operand formed_run
  expr_list_formed l =
      fold-roll-ExprList Form Placed Form Form Form FormGenerator Opening Form Form Placed Form
      Placed Branch Catching Branch Form Form Form FormGenerator TypeBranch Listed Form Form Form
      Form form_delimited (form_item k) (form_atom k) form_expr form_flat_part form_generator
      (form_head k) form_postfix form_run_part (form_variable k) form_also form_block_item
      form_case_clause form_catch form_elif form_else_block form_else_clause form_finally
      form_next_generator (form_type_clause k) form_expr_list (form_flat k) form_next_expr
      form_operand form_run l

  expr_list_level : (y : ExprList-F OneDelimited OneItem OneAtom OneExpr OneFlatPart OneGenerator
      OneHead OnePostfix OneRunPart OneVariable OneAlso OneBlockItem OneCaseClause OneCatch
      OneElif OneElseBlock OneElseClause OneFinally OneNextGenerator OneTypeClause OneExprList
      OneFlat OneNextExpr OneOperand OneRun)
      → Known_in (mention_expr_list (expr_list_mentions (expr_list_parts y)))
      → GoodList (form_expr_list (expr_list_forms (expr_list_parts y)))
  expr_list_level y h =
      let a = mentioned_expr y.first.0 in
      let b = names mentioned_next_expr y.others in (
        y.first.1 (front a b h),
        each mentioned_next_expr (formed_next_expr k) (IsGood P) y.others (back a b h),
      )

  expr_list_step : (x : ExprList-F Delimited ItemTree Atom Expr FlatPart GeneratorTree Head Postfix
      RunPart Variable Also BlockItem CaseClause Catch Elif ElseBlock ElseClause Finally
      NextGenerator TypeClause ExprList Flat NextExpr Operand Run)
      (y : ExprList-F OneDelimited OneItem OneAtom OneExpr OneFlatPart OneGenerator OneHead
      OnePostfix OneRunPart OneVariable OneAlso OneBlockItem OneCaseClause OneCatch OneElif
      OneElseBlock OneElseClause OneFinally OneNextGenerator OneTypeClause OneExprList OneFlat
      OneNextExpr OneOperand OneRun) → expr_list_parts y ≡ x → IsExprList (roll-ExprList x)
  expr_list_step x y is =
      subst (λ x. IsExprList (roll-ExprList x)) is
      (λ h. subst (GoodList) (sym (expr_list_formed (expr_list_parts y)))
      (expr_list_level y (subst (Known_in) (expr_list_mentioned (expr_list_parts y)) h)))

  -- ---- Flat

  abbrev flat_parts : Flat-F OneDelimited OneItem OneAtom OneExpr OneFlatPart OneGenerator OneHead
      OnePostfix OneRunPart OneVariable OneAlso OneBlockItem OneCaseClause OneCatch OneElif
      OneElseBlock OneElseClause OneFinally OneNextGenerator OneTypeClause OneExprList OneFlat
      OneNextExpr OneOperand OneRun
      → Flat-F Delimited ItemTree Atom Expr FlatPart GeneratorTree Head Postfix RunPart Variable
      Also BlockItem CaseClause Catch Elif ElseBlock ElseClause Finally NextGenerator TypeClause
      ExprList Flat NextExpr Operand Run
  flat_parts =
      map-Flat OneDelimited OneItem OneAtom OneExpr OneFlatPart OneGenerator OneHead OnePostfix
      OneRunPart OneVariable OneAlso OneBlockItem OneCaseClause OneCatch OneElif OneElseBlock
      OneElseClause OneFinally OneNextGenerator OneTypeClause OneExprList OneFlat OneNextExpr
      OneOperand OneRun Delimited ItemTree Atom Expr FlatPart GeneratorTree Head Postfix RunPart
      Variable Also BlockItem CaseClause Catch Elif ElseBlock ElseClause Finally NextGenerator
      TypeClause ExprList Flat NextExpr Operand Run (λ e. e.0) (λ e. e.0) (λ e. e.0) (λ e. e.0)
      (λ e. e.0) (λ e. e.0) (λ e. e.0) (λ e. e.0) (λ e. e.0) (λ e. e.0) (λ e. e.0) (λ e. e.0)
      (λ e. e.0) (λ e. e.0) (λ e. e.0) (λ e. e.0) (λ e. e.0) (λ e. e.0) (λ e. e.0) (λ e. e.0)
      (λ e. e.0) (λ e. e.0) (λ e. e.0) (λ e. e.0) (λ e. e.0)

  abbrev flat_mentions : Flat-F Delimited ItemTree Atom Expr FlatPart GeneratorTree Head Postfix
      RunPart Variable Also BlockItem CaseClause Catch Elif ElseBlock ElseClause Finally
      NextGenerator TypeClause ExprList Flat NextExpr Operand Run
      → Flat-F Mentioned Mentioned Mentioned Mentioned Mentioned Mentioned Mentioned Mentioned
      Mentioned Mentioned Mentioned Mentioned Mentioned Mentioned Mentioned Mentioned Mentioned
      Mentioned Mentioned Mentioned Mentioned Mentioned Mentioned Mentioned Mentioned
  flat_mentions =
      map-Flat Delimited ItemTree Atom Expr FlatPart GeneratorTree Head Postfix RunPart Variable
      Also BlockItem CaseClause Catch Elif ElseBlock ElseClause Finally NextGenerator TypeClause
      ExprList Flat NextExpr Operand Run Mentioned Mentioned Mentioned Mentioned Mentioned Mentioned
      Mentioned Mentioned Mentioned Mentioned Mentioned Mentioned Mentioned Mentioned Mentioned
      Mentioned Mentioned Mentioned Mentioned Mentioned Mentioned Mentioned Mentioned Mentioned
      Mentioned mentioned_delimited mentioned_item mentioned_atom mentioned_expr mentioned_flat_part
      mentioned_generator mentioned_head mentioned_postfix mentioned_run_part mentioned_variable
      mentioned_also mentioned_block_item mentioned_case_clause mentioned_catch mentioned_elif
      mentioned_else_block mentioned_else_clause mentioned_finally mentioned_next_generator
      mentioned_type_clause mentioned_expr_list mentioned_flat mentioned_next_expr mentioned_operand
      mentioned_run

  abbrev flat_forms : Flat-F Delimited ItemTree Atom Expr FlatPart GeneratorTree Head Postfix
      RunPart Variable Also BlockItem CaseClause Catch Elif ElseBlock ElseClause Finally
      NextGenerator TypeClause ExprList Flat NextExpr Operand Run
      → Flat-F Form Placed Form Form Form FormGenerator Opening Form Form Placed Form Placed Branch
      Catching Branch Form Form Form FormGenerator TypeBranch Listed Form Form Form Form
  flat_forms =
      map-Flat Delimited ItemTree Atom Expr FlatPart GeneratorTree Head Postfix RunPart Variable
      Also BlockItem CaseClause Catch Elif ElseBlock ElseClause Finally NextGenerator TypeClause
      ExprList Flat NextExpr Operand Run Form Placed Form Form Form FormGenerator Opening Form Form
      Placed Form Placed Branch Catching Branch Form Form Form FormGenerator TypeBranch Listed Form
      Form Form Form (formed_delimited k) (formed_item k) (formed_atom k) (formed_expr k)
      (formed_flat_part k) (formed_generator k) (formed_head k) (formed_postfix k)
      (formed_run_part k) (formed_variable k) (formed_also k) (formed_block_item k)
      (formed_case_clause k) (formed_catch k) (formed_elif k) (formed_else_block k)
      (formed_else_clause k) (formed_finally k) (formed_next_generator k) (formed_type_clause k)
      (formed_expr_list k) (formed_flat k) (formed_next_expr k) (formed_operand k) (formed_run k)

  flat_mentioned : (l : Flat-F Delimited ItemTree Atom Expr FlatPart GeneratorTree Head Postfix
      RunPart Variable Also BlockItem CaseClause Catch Elif ElseBlock ElseClause Finally
      NextGenerator TypeClause ExprList Flat NextExpr Operand Run)
      → mentioned_flat (roll-Flat l) ≡ mention_flat (flat_mentions l)
  unfolding mentioned_delimited mentioned_item mentioned_atom mentioned_expr mentioned_flat_part
      mentioned_generator mentioned_head mentioned_postfix mentioned_run_part mentioned_variable
      mentioned_also mentioned_block_item mentioned_case_clause mentioned_catch mentioned_elif
      mentioned_else_block mentioned_else_clause mentioned_finally mentioned_next_generator
      mentioned_type_clause mentioned_expr_list mentioned_flat mentioned_next_expr mentioned_operand
      mentioned_run
  flat_mentioned l =
      fold-roll-Flat Mentioned Mentioned Mentioned Mentioned Mentioned Mentioned Mentioned Mentioned
      Mentioned Mentioned Mentioned Mentioned Mentioned Mentioned Mentioned Mentioned Mentioned
      Mentioned Mentioned Mentioned Mentioned Mentioned Mentioned Mentioned Mentioned
      mention_delimited mention_item mention_atom mention_expr mention_flat_part mention_generator
      mention_head mention_postfix mention_run_part mention_variable mention_also mention_block_item
      mention_case_clause mention_catch mention_elif mention_else_block mention_else_clause
      mention_finally mention_next_generator mention_type_clause mention_expr_list mention_flat
      mention_next_expr mention_operand mention_run l

  flat_formed : (l : Flat-F Delimited ItemTree Atom Expr FlatPart GeneratorTree Head Postfix RunPart
      Variable Also BlockItem CaseClause Catch Elif ElseBlock ElseClause Finally NextGenerator
      TypeClause ExprList Flat NextExpr Operand Run)
      → formed_flat k (roll-Flat l) ≡ form_flat k (flat_forms l)
  unfolding formed_delimited formed_item formed_atom formed_expr formed_flat_part formed_generator
      formed_head formed_postfix formed_run_part formed_variable formed_also formed_block_item
      formed_case_clause formed_catch formed_elif formed_else_block formed_else_clause
      formed_finally formed_next_generator formed_type_clause formed_expr_list formed_flat
      formed_next_expr formed_operand formed_run
  flat_formed l =
      fold-roll-Flat Form Placed Form Form Form FormGenerator Opening Form Form Placed Form Placed
      Branch Catching Branch Form Form Form FormGenerator TypeBranch Listed Form Form Form Form
      form_delimited (form_item k) (form_atom k) form_expr form_flat_part form_generator
      (form_head k) form_postfix form_run_part (form_variable k) form_also form_block_item
      form_case_clause form_catch form_elif form_else_block form_else_clause form_finally
      form_next_generator (form_type_clause k) form_expr_list (form_flat k) form_next_expr
      form_operand form_run l

  flat_level : (y : Flat-F OneDelimited OneItem OneAtom OneExpr OneFlatPart OneGenerator OneHead
      OnePostfix OneRunPart OneVariable OneAlso OneBlockItem OneCaseClause OneCatch OneElif
      OneElseBlock OneElseClause OneFinally OneNextGenerator OneTypeClause OneExprList OneFlat
      OneNextExpr OneOperand OneRun) → Known_in (mention_flat (flat_mentions (flat_parts y)))
      → IsGood P (form_flat k (flat_forms (flat_parts y)))
  flat_level y h =
      let a = mentioned_operand y.first.0 in
      let b = names mentioned_flat_part y.rest in
      grouped-good P Known k S (formed_operand k y.first.0)
      (map (formed_flat_part k) (firsts y.rest)) (y.first.1 (front a b h))
      (each mentioned_flat_part (formed_flat_part k) (IsGood P) y.rest (back a b h))

  flat_step : (x : Flat-F Delimited ItemTree Atom Expr FlatPart GeneratorTree Head Postfix RunPart
      Variable Also BlockItem CaseClause Catch Elif ElseBlock ElseClause Finally NextGenerator
      TypeClause ExprList Flat NextExpr Operand Run)
      (y : Flat-F OneDelimited OneItem OneAtom OneExpr OneFlatPart OneGenerator OneHead OnePostfix
      OneRunPart OneVariable OneAlso OneBlockItem OneCaseClause OneCatch OneElif OneElseBlock
      OneElseClause OneFinally OneNextGenerator OneTypeClause OneExprList OneFlat OneNextExpr
      OneOperand OneRun) → flat_parts y ≡ x → IsFlat (roll-Flat x)
  flat_step x y is =
      subst (λ x. IsFlat (roll-Flat x)) is
      (λ h. subst (IsGood P) (sym (flat_formed (flat_parts y)))
      (flat_level y (subst (Known_in) (flat_mentioned (flat_parts y)) h)))

  -- ---- NextExpr

  abbrev next_expr_parts : NextExpr-F OneDelimited OneItem OneAtom OneExpr OneFlatPart OneGenerator
      OneHead OnePostfix OneRunPart OneVariable OneAlso OneBlockItem OneCaseClause OneCatch OneElif
      OneElseBlock OneElseClause OneFinally OneNextGenerator OneTypeClause OneExprList OneFlat
      OneNextExpr OneOperand OneRun
      → NextExpr-F Delimited ItemTree Atom Expr FlatPart GeneratorTree Head Postfix RunPart Variable
      Also BlockItem CaseClause Catch Elif ElseBlock ElseClause Finally NextGenerator TypeClause
      ExprList Flat NextExpr Operand Run
  next_expr_parts =
      map-NextExpr OneDelimited OneItem OneAtom OneExpr OneFlatPart OneGenerator OneHead OnePostfix
      OneRunPart OneVariable OneAlso OneBlockItem OneCaseClause OneCatch OneElif OneElseBlock
      OneElseClause OneFinally OneNextGenerator OneTypeClause OneExprList OneFlat OneNextExpr
      OneOperand OneRun Delimited ItemTree Atom Expr FlatPart GeneratorTree Head Postfix RunPart
      Variable Also BlockItem CaseClause Catch Elif ElseBlock ElseClause Finally NextGenerator
      TypeClause ExprList Flat NextExpr Operand Run (λ e. e.0) (λ e. e.0) (λ e. e.0) (λ e. e.0)
      (λ e. e.0) (λ e. e.0) (λ e. e.0) (λ e. e.0) (λ e. e.0) (λ e. e.0) (λ e. e.0) (λ e. e.0)
      (λ e. e.0) (λ e. e.0) (λ e. e.0) (λ e. e.0) (λ e. e.0) (λ e. e.0) (λ e. e.0) (λ e. e.0)
      (λ e. e.0) (λ e. e.0) (λ e. e.0) (λ e. e.0) (λ e. e.0)

  abbrev next_expr_mentions : NextExpr-F Delimited ItemTree Atom Expr FlatPart GeneratorTree Head
      Postfix RunPart Variable Also BlockItem CaseClause Catch Elif ElseBlock ElseClause Finally
      NextGenerator TypeClause ExprList Flat NextExpr Operand Run
      → NextExpr-F Mentioned Mentioned Mentioned Mentioned Mentioned Mentioned Mentioned Mentioned
      Mentioned Mentioned Mentioned Mentioned Mentioned Mentioned Mentioned Mentioned Mentioned
      Mentioned Mentioned Mentioned Mentioned Mentioned Mentioned Mentioned Mentioned
  next_expr_mentions =
      map-NextExpr Delimited ItemTree Atom Expr FlatPart GeneratorTree Head Postfix RunPart Variable
      Also BlockItem CaseClause Catch Elif ElseBlock ElseClause Finally NextGenerator TypeClause
      ExprList Flat NextExpr Operand Run Mentioned Mentioned Mentioned Mentioned Mentioned Mentioned
      Mentioned Mentioned Mentioned Mentioned Mentioned Mentioned Mentioned Mentioned Mentioned
      Mentioned Mentioned Mentioned Mentioned Mentioned Mentioned Mentioned Mentioned Mentioned
      Mentioned mentioned_delimited mentioned_item mentioned_atom mentioned_expr mentioned_flat_part
      mentioned_generator mentioned_head mentioned_postfix mentioned_run_part mentioned_variable
      mentioned_also mentioned_block_item mentioned_case_clause mentioned_catch mentioned_elif
      mentioned_else_block mentioned_else_clause mentioned_finally mentioned_next_generator
      mentioned_type_clause mentioned_expr_list mentioned_flat mentioned_next_expr mentioned_operand
      mentioned_run

  abbrev next_expr_forms : NextExpr-F Delimited ItemTree Atom Expr FlatPart GeneratorTree Head
      Postfix RunPart Variable Also BlockItem CaseClause Catch Elif ElseBlock ElseClause Finally
      NextGenerator TypeClause ExprList Flat NextExpr Operand Run
      → NextExpr-F Form Placed Form Form Form FormGenerator Opening Form Form Placed Form Placed
      Branch Catching Branch Form Form Form FormGenerator TypeBranch Listed Form Form Form Form
  next_expr_forms =
      map-NextExpr Delimited ItemTree Atom Expr FlatPart GeneratorTree Head Postfix RunPart Variable
      Also BlockItem CaseClause Catch Elif ElseBlock ElseClause Finally NextGenerator TypeClause
      ExprList Flat NextExpr Operand Run Form Placed Form Form Form FormGenerator Opening Form Form
      Placed Form Placed Branch Catching Branch Form Form Form FormGenerator TypeBranch Listed Form
      Form Form Form (formed_delimited k) (formed_item k) (formed_atom k) (formed_expr k)
      (formed_flat_part k) (formed_generator k) (formed_head k) (formed_postfix k)
      (formed_run_part k) (formed_variable k) (formed_also k) (formed_block_item k)
      (formed_case_clause k) (formed_catch k) (formed_elif k) (formed_else_block k)
      (formed_else_clause k) (formed_finally k) (formed_next_generator k) (formed_type_clause k)
      (formed_expr_list k) (formed_flat k) (formed_next_expr k) (formed_operand k) (formed_run k)

  next_expr_mentioned : (l : NextExpr-F Delimited ItemTree Atom Expr FlatPart GeneratorTree Head
      Postfix RunPart Variable Also BlockItem CaseClause Catch Elif ElseBlock ElseClause Finally
      NextGenerator TypeClause ExprList Flat NextExpr Operand Run)
      → mentioned_next_expr (roll-NextExpr l) ≡ mention_next_expr (next_expr_mentions l)
  unfolding mentioned_delimited mentioned_item mentioned_atom mentioned_expr mentioned_flat_part
      mentioned_generator mentioned_head mentioned_postfix mentioned_run_part mentioned_variable
      mentioned_also mentioned_block_item mentioned_case_clause mentioned_catch mentioned_elif
      mentioned_else_block mentioned_else_clause mentioned_finally mentioned_next_generator
      mentioned_type_clause mentioned_expr_list mentioned_flat mentioned_next_expr mentioned_operand
      mentioned_run
  next_expr_mentioned l =
      fold-roll-NextExpr Mentioned Mentioned Mentioned Mentioned Mentioned Mentioned Mentioned
      Mentioned Mentioned Mentioned Mentioned Mentioned Mentioned Mentioned Mentioned Mentioned
      Mentioned Mentioned Mentioned Mentioned Mentioned Mentioned Mentioned Mentioned Mentioned
      mention_delimited mention_item mention_atom mention_expr mention_flat_part mention_generator
      mention_head mention_postfix mention_run_part mention_variable mention_also mention_block_item
      mention_case_clause mention_catch mention_elif mention_else_block mention_else_clause
      mention_finally mention_next_generator mention_type_clause mention_expr_list mention_flat
      mention_next_expr mention_operand mention_run l

  next_expr_formed : (l : NextExpr-F Delimited ItemTree Atom Expr FlatPart GeneratorTree Head
      Postfix RunPart Variable Also BlockItem CaseClause Catch Elif ElseBlock ElseClause Finally
      NextGenerator TypeClause ExprList Flat NextExpr Operand Run)
      → formed_next_expr k (roll-NextExpr l) ≡ form_next_expr (next_expr_forms l)
  unfolding formed_delimited formed_item formed_atom formed_expr formed_flat_part formed_generator
      formed_head formed_postfix formed_run_part formed_variable formed_also formed_block_item
      formed_case_clause formed_catch formed_elif formed_else_block formed_else_clause
      formed_finally formed_next_generator formed_type_clause formed_expr_list formed_flat
      formed_next_expr formed_operand formed_run
  next_expr_formed l =
      fold-roll-NextExpr Form Placed Form Form Form FormGenerator Opening Form Form Placed Form
      Placed Branch Catching Branch Form Form Form FormGenerator TypeBranch Listed Form Form Form
      Form form_delimited (form_item k) (form_atom k) form_expr form_flat_part form_generator
      (form_head k) form_postfix form_run_part (form_variable k) form_also form_block_item
      form_case_clause form_catch form_elif form_else_block form_else_clause form_finally
      form_next_generator (form_type_clause k) form_expr_list (form_flat k) form_next_expr
      form_operand form_run l

  next_expr_level : (y : NextExpr-F OneDelimited OneItem OneAtom OneExpr OneFlatPart OneGenerator
      OneHead OnePostfix OneRunPart OneVariable OneAlso OneBlockItem OneCaseClause OneCatch
      OneElif OneElseBlock OneElseClause OneFinally OneNextGenerator OneTypeClause OneExprList
      OneFlat OneNextExpr OneOperand OneRun)
      → Known_in (mention_next_expr (next_expr_mentions (next_expr_parts y)))
      → IsGood P (form_next_expr (next_expr_forms (next_expr_parts y)))
  next_expr_level y h = y.expr.1 h

  next_expr_step : (x : NextExpr-F Delimited ItemTree Atom Expr FlatPart GeneratorTree Head Postfix
      RunPart Variable Also BlockItem CaseClause Catch Elif ElseBlock ElseClause Finally
      NextGenerator TypeClause ExprList Flat NextExpr Operand Run)
      (y : NextExpr-F OneDelimited OneItem OneAtom OneExpr OneFlatPart OneGenerator OneHead
      OnePostfix OneRunPart OneVariable OneAlso OneBlockItem OneCaseClause OneCatch OneElif
      OneElseBlock OneElseClause OneFinally OneNextGenerator OneTypeClause OneExprList OneFlat
      OneNextExpr OneOperand OneRun) → next_expr_parts y ≡ x → IsNextExpr (roll-NextExpr x)
  next_expr_step x y is =
      subst (λ x. IsNextExpr (roll-NextExpr x)) is
      (λ h. subst (IsGood P) (sym (next_expr_formed (next_expr_parts y)))
      (next_expr_level y (subst (Known_in) (next_expr_mentioned (next_expr_parts y)) h)))

  -- ---- Operand

  abbrev operand_parts : Operand-F OneDelimited OneItem OneAtom OneExpr OneFlatPart OneGenerator
      OneHead OnePostfix OneRunPart OneVariable OneAlso OneBlockItem OneCaseClause OneCatch OneElif
      OneElseBlock OneElseClause OneFinally OneNextGenerator OneTypeClause OneExprList OneFlat
      OneNextExpr OneOperand OneRun
      → Operand-F Delimited ItemTree Atom Expr FlatPart GeneratorTree Head Postfix RunPart Variable
      Also BlockItem CaseClause Catch Elif ElseBlock ElseClause Finally NextGenerator TypeClause
      ExprList Flat NextExpr Operand Run
  operand_parts =
      map-Operand OneDelimited OneItem OneAtom OneExpr OneFlatPart OneGenerator OneHead OnePostfix
      OneRunPart OneVariable OneAlso OneBlockItem OneCaseClause OneCatch OneElif OneElseBlock
      OneElseClause OneFinally OneNextGenerator OneTypeClause OneExprList OneFlat OneNextExpr
      OneOperand OneRun Delimited ItemTree Atom Expr FlatPart GeneratorTree Head Postfix RunPart
      Variable Also BlockItem CaseClause Catch Elif ElseBlock ElseClause Finally NextGenerator
      TypeClause ExprList Flat NextExpr Operand Run (λ e. e.0) (λ e. e.0) (λ e. e.0) (λ e. e.0)
      (λ e. e.0) (λ e. e.0) (λ e. e.0) (λ e. e.0) (λ e. e.0) (λ e. e.0) (λ e. e.0) (λ e. e.0)
      (λ e. e.0) (λ e. e.0) (λ e. e.0) (λ e. e.0) (λ e. e.0) (λ e. e.0) (λ e. e.0) (λ e. e.0)
      (λ e. e.0) (λ e. e.0) (λ e. e.0) (λ e. e.0) (λ e. e.0)

  abbrev operand_mentions : Operand-F Delimited ItemTree Atom Expr FlatPart GeneratorTree Head
      Postfix RunPart Variable Also BlockItem CaseClause Catch Elif ElseBlock ElseClause Finally
      NextGenerator TypeClause ExprList Flat NextExpr Operand Run
      → Operand-F Mentioned Mentioned Mentioned Mentioned Mentioned Mentioned Mentioned Mentioned
      Mentioned Mentioned Mentioned Mentioned Mentioned Mentioned Mentioned Mentioned Mentioned
      Mentioned Mentioned Mentioned Mentioned Mentioned Mentioned Mentioned Mentioned
  operand_mentions =
      map-Operand Delimited ItemTree Atom Expr FlatPart GeneratorTree Head Postfix RunPart Variable
      Also BlockItem CaseClause Catch Elif ElseBlock ElseClause Finally NextGenerator TypeClause
      ExprList Flat NextExpr Operand Run Mentioned Mentioned Mentioned Mentioned Mentioned Mentioned
      Mentioned Mentioned Mentioned Mentioned Mentioned Mentioned Mentioned Mentioned Mentioned
      Mentioned Mentioned Mentioned Mentioned Mentioned Mentioned Mentioned Mentioned Mentioned
      Mentioned mentioned_delimited mentioned_item mentioned_atom mentioned_expr mentioned_flat_part
      mentioned_generator mentioned_head mentioned_postfix mentioned_run_part mentioned_variable
      mentioned_also mentioned_block_item mentioned_case_clause mentioned_catch mentioned_elif
      mentioned_else_block mentioned_else_clause mentioned_finally mentioned_next_generator
      mentioned_type_clause mentioned_expr_list mentioned_flat mentioned_next_expr mentioned_operand
      mentioned_run

  abbrev operand_forms : Operand-F Delimited ItemTree Atom Expr FlatPart GeneratorTree Head Postfix
      RunPart Variable Also BlockItem CaseClause Catch Elif ElseBlock ElseClause Finally
      NextGenerator TypeClause ExprList Flat NextExpr Operand Run
      → Operand-F Form Placed Form Form Form FormGenerator Opening Form Form Placed Form Placed
      Branch Catching Branch Form Form Form FormGenerator TypeBranch Listed Form Form Form Form
  operand_forms =
      map-Operand Delimited ItemTree Atom Expr FlatPart GeneratorTree Head Postfix RunPart Variable
      Also BlockItem CaseClause Catch Elif ElseBlock ElseClause Finally NextGenerator TypeClause
      ExprList Flat NextExpr Operand Run Form Placed Form Form Form FormGenerator Opening Form Form
      Placed Form Placed Branch Catching Branch Form Form Form FormGenerator TypeBranch Listed Form
      Form Form Form (formed_delimited k) (formed_item k) (formed_atom k) (formed_expr k)
      (formed_flat_part k) (formed_generator k) (formed_head k) (formed_postfix k)
      (formed_run_part k) (formed_variable k) (formed_also k) (formed_block_item k)
      (formed_case_clause k) (formed_catch k) (formed_elif k) (formed_else_block k)
      (formed_else_clause k) (formed_finally k) (formed_next_generator k) (formed_type_clause k)
      (formed_expr_list k) (formed_flat k) (formed_next_expr k) (formed_operand k) (formed_run k)

  operand_mentioned : (l : Operand-F Delimited ItemTree Atom Expr FlatPart GeneratorTree Head
      Postfix RunPart Variable Also BlockItem CaseClause Catch Elif ElseBlock ElseClause Finally
      NextGenerator TypeClause ExprList Flat NextExpr Operand Run)
      → mentioned_operand (roll-Operand l) ≡ mention_operand (operand_mentions l)
  unfolding mentioned_delimited mentioned_item mentioned_atom mentioned_expr mentioned_flat_part
      mentioned_generator mentioned_head mentioned_postfix mentioned_run_part mentioned_variable
      mentioned_also mentioned_block_item mentioned_case_clause mentioned_catch mentioned_elif
      mentioned_else_block mentioned_else_clause mentioned_finally mentioned_next_generator
      mentioned_type_clause mentioned_expr_list mentioned_flat mentioned_next_expr mentioned_operand
      mentioned_run
  operand_mentioned l =
      fold-roll-Operand Mentioned Mentioned Mentioned Mentioned Mentioned Mentioned Mentioned
      Mentioned Mentioned Mentioned Mentioned Mentioned Mentioned Mentioned Mentioned Mentioned
      Mentioned Mentioned Mentioned Mentioned Mentioned Mentioned Mentioned Mentioned Mentioned
      mention_delimited mention_item mention_atom mention_expr mention_flat_part mention_generator
      mention_head mention_postfix mention_run_part mention_variable mention_also mention_block_item
      mention_case_clause mention_catch mention_elif mention_else_block mention_else_clause
      mention_finally mention_next_generator mention_type_clause mention_expr_list mention_flat
      mention_next_expr mention_operand mention_run l

  operand_formed : (l : Operand-F Delimited ItemTree Atom Expr FlatPart GeneratorTree Head Postfix
      RunPart Variable Also BlockItem CaseClause Catch Elif ElseBlock ElseClause Finally
      NextGenerator TypeClause ExprList Flat NextExpr Operand Run)
      → formed_operand k (roll-Operand l) ≡ form_operand (operand_forms l)
  unfolding formed_delimited formed_item formed_atom formed_expr formed_flat_part formed_generator
      formed_head formed_postfix formed_run_part formed_variable formed_also formed_block_item
      formed_case_clause formed_catch formed_elif formed_else_block formed_else_clause
      formed_finally formed_next_generator formed_type_clause formed_expr_list formed_flat
      formed_next_expr formed_operand formed_run
  operand_formed l =
      fold-roll-Operand Form Placed Form Form Form FormGenerator Opening Form Form Placed Form
      Placed Branch Catching Branch Form Form Form FormGenerator TypeBranch Listed Form Form Form
      Form form_delimited (form_item k) (form_atom k) form_expr form_flat_part form_generator
      (form_head k) form_postfix form_run_part (form_variable k) form_also form_block_item
      form_case_clause form_catch form_elif form_else_block form_else_clause form_finally
      form_next_generator (form_type_clause k) form_expr_list (form_flat k) form_next_expr
      form_operand form_run l

  operand_level : (y : Operand-F OneDelimited OneItem OneAtom OneExpr OneFlatPart OneGenerator
      OneHead OnePostfix OneRunPart OneVariable OneAlso OneBlockItem OneCaseClause OneCatch
      OneElif OneElseBlock OneElseClause OneFinally OneNextGenerator OneTypeClause OneExprList
      OneFlat OneNextExpr OneOperand OneRun)
      → Known_in (mention_operand (operand_mentions (operand_parts y)))
      → IsGood P (form_operand (operand_forms (operand_parts y)))
  operand_level y h = prefixed-good y.prefix (formed_run k y.run.0) (y.run.1 h)

  operand_step : (x : Operand-F Delimited ItemTree Atom Expr FlatPart GeneratorTree Head Postfix
      RunPart Variable Also BlockItem CaseClause Catch Elif ElseBlock ElseClause Finally
      NextGenerator TypeClause ExprList Flat NextExpr Operand Run)
      (y : Operand-F OneDelimited OneItem OneAtom OneExpr OneFlatPart OneGenerator OneHead
      OnePostfix OneRunPart OneVariable OneAlso OneBlockItem OneCaseClause OneCatch OneElif
      OneElseBlock OneElseClause OneFinally OneNextGenerator OneTypeClause OneExprList OneFlat
      OneNextExpr OneOperand OneRun) → operand_parts y ≡ x → IsOperand (roll-Operand x)
  operand_step x y is =
      subst (λ x. IsOperand (roll-Operand x)) is
      (λ h. subst (IsGood P) (sym (operand_formed (operand_parts y)))
      (operand_level y (subst (Known_in) (operand_mentioned (operand_parts y)) h)))

  -- ---- Run

  abbrev run_parts : Run-F OneDelimited OneItem OneAtom OneExpr OneFlatPart OneGenerator OneHead
      OnePostfix OneRunPart OneVariable OneAlso OneBlockItem OneCaseClause OneCatch OneElif
      OneElseBlock OneElseClause OneFinally OneNextGenerator OneTypeClause OneExprList OneFlat
      OneNextExpr OneOperand OneRun
      → Run-F Delimited ItemTree Atom Expr FlatPart GeneratorTree Head Postfix RunPart Variable Also
      BlockItem CaseClause Catch Elif ElseBlock ElseClause Finally NextGenerator TypeClause ExprList
      Flat NextExpr Operand Run
  run_parts =
      map-Run OneDelimited OneItem OneAtom OneExpr OneFlatPart OneGenerator OneHead OnePostfix
      OneRunPart OneVariable OneAlso OneBlockItem OneCaseClause OneCatch OneElif OneElseBlock
      OneElseClause OneFinally OneNextGenerator OneTypeClause OneExprList OneFlat OneNextExpr
      OneOperand OneRun Delimited ItemTree Atom Expr FlatPart GeneratorTree Head Postfix RunPart
      Variable Also BlockItem CaseClause Catch Elif ElseBlock ElseClause Finally NextGenerator
      TypeClause ExprList Flat NextExpr Operand Run (λ e. e.0) (λ e. e.0) (λ e. e.0) (λ e. e.0)
      (λ e. e.0) (λ e. e.0) (λ e. e.0) (λ e. e.0) (λ e. e.0) (λ e. e.0) (λ e. e.0) (λ e. e.0)
      (λ e. e.0) (λ e. e.0) (λ e. e.0) (λ e. e.0) (λ e. e.0) (λ e. e.0) (λ e. e.0) (λ e. e.0)
      (λ e. e.0) (λ e. e.0) (λ e. e.0) (λ e. e.0) (λ e. e.0)

  abbrev run_mentions : Run-F Delimited ItemTree Atom Expr FlatPart GeneratorTree Head Postfix
      RunPart Variable Also BlockItem CaseClause Catch Elif ElseBlock ElseClause Finally
      NextGenerator TypeClause ExprList Flat NextExpr Operand Run
      → Run-F Mentioned Mentioned Mentioned Mentioned Mentioned Mentioned Mentioned Mentioned
      Mentioned Mentioned Mentioned Mentioned Mentioned Mentioned Mentioned Mentioned Mentioned
      Mentioned Mentioned Mentioned Mentioned Mentioned Mentioned Mentioned Mentioned
  run_mentions =
      map-Run Delimited ItemTree Atom Expr FlatPart GeneratorTree Head Postfix RunPart Variable Also
      BlockItem CaseClause Catch Elif ElseBlock ElseClause Finally NextGenerator TypeClause ExprList
      Flat NextExpr Operand Run Mentioned Mentioned Mentioned Mentioned Mentioned Mentioned
      Mentioned Mentioned Mentioned Mentioned Mentioned Mentioned Mentioned Mentioned Mentioned
      Mentioned Mentioned Mentioned Mentioned Mentioned Mentioned Mentioned Mentioned Mentioned
      Mentioned mentioned_delimited mentioned_item mentioned_atom mentioned_expr mentioned_flat_part
      mentioned_generator mentioned_head mentioned_postfix mentioned_run_part mentioned_variable
      mentioned_also mentioned_block_item mentioned_case_clause mentioned_catch mentioned_elif
      mentioned_else_block mentioned_else_clause mentioned_finally mentioned_next_generator
      mentioned_type_clause mentioned_expr_list mentioned_flat mentioned_next_expr mentioned_operand
      mentioned_run

  abbrev run_forms : Run-F Delimited ItemTree Atom Expr FlatPart GeneratorTree Head Postfix RunPart
      Variable Also BlockItem CaseClause Catch Elif ElseBlock ElseClause Finally NextGenerator
      TypeClause ExprList Flat NextExpr Operand Run
      → Run-F Form Placed Form Form Form FormGenerator Opening Form Form Placed Form Placed Branch
      Catching Branch Form Form Form FormGenerator TypeBranch Listed Form Form Form Form
  run_forms =
      map-Run Delimited ItemTree Atom Expr FlatPart GeneratorTree Head Postfix RunPart Variable Also
      BlockItem CaseClause Catch Elif ElseBlock ElseClause Finally NextGenerator TypeClause ExprList
      Flat NextExpr Operand Run Form Placed Form Form Form FormGenerator Opening Form Form Placed
      Form Placed Branch Catching Branch Form Form Form FormGenerator TypeBranch Listed Form Form
      Form Form (formed_delimited k) (formed_item k) (formed_atom k) (formed_expr k)
      (formed_flat_part k) (formed_generator k) (formed_head k) (formed_postfix k)
      (formed_run_part k) (formed_variable k) (formed_also k) (formed_block_item k)
      (formed_case_clause k) (formed_catch k) (formed_elif k) (formed_else_block k)
      (formed_else_clause k) (formed_finally k) (formed_next_generator k) (formed_type_clause k)
      (formed_expr_list k) (formed_flat k) (formed_next_expr k) (formed_operand k) (formed_run k)

  run_mentioned : (l : Run-F Delimited ItemTree Atom Expr FlatPart GeneratorTree Head Postfix
      RunPart Variable Also BlockItem CaseClause Catch Elif ElseBlock ElseClause Finally
      NextGenerator TypeClause ExprList Flat NextExpr Operand Run)
      → mentioned_run (roll-Run l) ≡ mention_run (run_mentions l)
  unfolding mentioned_delimited mentioned_item mentioned_atom mentioned_expr mentioned_flat_part
      mentioned_generator mentioned_head mentioned_postfix mentioned_run_part mentioned_variable
      mentioned_also mentioned_block_item mentioned_case_clause mentioned_catch mentioned_elif
      mentioned_else_block mentioned_else_clause mentioned_finally mentioned_next_generator
      mentioned_type_clause mentioned_expr_list mentioned_flat mentioned_next_expr mentioned_operand
      mentioned_run
  run_mentioned l =
      fold-roll-Run Mentioned Mentioned Mentioned Mentioned Mentioned Mentioned Mentioned Mentioned
      Mentioned Mentioned Mentioned Mentioned Mentioned Mentioned Mentioned Mentioned Mentioned
      Mentioned Mentioned Mentioned Mentioned Mentioned Mentioned Mentioned Mentioned
      mention_delimited mention_item mention_atom mention_expr mention_flat_part mention_generator
      mention_head mention_postfix mention_run_part mention_variable mention_also mention_block_item
      mention_case_clause mention_catch mention_elif mention_else_block mention_else_clause
      mention_finally mention_next_generator mention_type_clause mention_expr_list mention_flat
      mention_next_expr mention_operand mention_run l

  run_formed : (l : Run-F Delimited ItemTree Atom Expr FlatPart GeneratorTree Head Postfix RunPart
      Variable Also BlockItem CaseClause Catch Elif ElseBlock ElseClause Finally NextGenerator
      TypeClause ExprList Flat NextExpr Operand Run)
      → formed_run k (roll-Run l) ≡ form_run (run_forms l)
  unfolding formed_delimited formed_item formed_atom formed_expr formed_flat_part formed_generator
      formed_head formed_postfix formed_run_part formed_variable formed_also formed_block_item
      formed_case_clause formed_catch formed_elif formed_else_block formed_else_clause
      formed_finally formed_next_generator formed_type_clause formed_expr_list formed_flat
      formed_next_expr formed_operand formed_run
  run_formed l =
      fold-roll-Run Form Placed Form Form Form FormGenerator Opening Form Form Placed Form Placed
      Branch Catching Branch Form Form Form FormGenerator TypeBranch Listed Form Form Form Form
      form_delimited (form_item k) (form_atom k) form_expr form_flat_part form_generator
      (form_head k) form_postfix form_run_part (form_variable k) form_also form_block_item
      form_case_clause form_catch form_elif form_else_block form_else_clause form_finally
      form_next_generator (form_type_clause k) form_expr_list (form_flat k) form_next_expr
      form_operand form_run l

  run_level : (y : Run-F OneDelimited OneItem OneAtom OneExpr OneFlatPart OneGenerator OneHead
      OnePostfix OneRunPart OneVariable OneAlso OneBlockItem OneCaseClause OneCatch OneElif
      OneElseBlock OneElseClause OneFinally OneNextGenerator OneTypeClause OneExprList OneFlat
      OneNextExpr OneOperand OneRun) → Known_in (mention_run (run_mentions (run_parts y)))
      → IsGood P (form_run (run_forms (run_parts y)))
  run_level y h =
      let a = mentioned_atom y.first.0 in
      let b = names mentioned_run_part y.rest in
      run-good (formed_atom k y.first.0) (map (formed_run_part k) (firsts y.rest))
      (y.first.1 (front a b h))
      (each mentioned_run_part (formed_run_part k) (GoodElement P) y.rest (back a b h))

  run_step : (x : Run-F Delimited ItemTree Atom Expr FlatPart GeneratorTree Head Postfix RunPart
      Variable Also BlockItem CaseClause Catch Elif ElseBlock ElseClause Finally NextGenerator
      TypeClause ExprList Flat NextExpr Operand Run)
      (y : Run-F OneDelimited OneItem OneAtom OneExpr OneFlatPart OneGenerator OneHead OnePostfix
      OneRunPart OneVariable OneAlso OneBlockItem OneCaseClause OneCatch OneElif OneElseBlock
      OneElseClause OneFinally OneNextGenerator OneTypeClause OneExprList OneFlat OneNextExpr
      OneOperand OneRun) → run_parts y ≡ x → IsRun (roll-Run x)
  run_step x y is =
      subst (λ x. IsRun (roll-Run x)) is
      (λ h. subst (IsGood P) (sym (run_formed (run_parts y)))
      (run_level y (subst (Known_in) (run_mentioned (run_parts y)) h)))

  -- an expression, where the names in it are known
  pub expr_good : (e : Expr) → IsExpr e
  expr_good =
      ind-Expr IsDelimited IsItem IsAtom IsExpr IsFlatPart IsGenerator IsHead IsPostfix IsRunPart
      IsVariable IsAlso IsBlockItem IsCaseClause IsCatch IsElif IsElseBlock IsElseClause IsFinally
      IsNextGenerator IsTypeClause IsExprList IsFlat IsNextExpr IsOperand IsRun delimited_step
      item_step atom_step expr_step flat_part_step generator_step head_step postfix_step
      run_part_step variable_step also_step block_item_step case_clause_step catch_step elif_step
      else_block_step else_clause_step finally_step next_generator_step type_clause_step
      expr_list_step flat_step next_expr_step operand_step run_step
