-- The forms of trees: their figures are as the grammar has them, where the tokens are a file's.
use Rattle.std.proofs.Common.{◌≡◌, ◌≤◌, ℕ, suc, true, false, List, [], ◌∷◌, length, map, Option, Some, None, sym, subst, arith}
use Rattle.std.specs.List.{AllByRecursion}
use Rattle.fort_base.specs.declared.refusal.Place.{Place}
use Rattle.fort_ops.specs.declared.op.Op.TheVariants as an_op
use Rattle.fort_tree.specs.declared.delimited.Delimited.{Delimited}
use Rattle.fort_tree.specs.declared.delimited.Item.{Item as ItemTree}
use Rattle.fort_tree.specs.declared.expr.Atom.{Atom}
use Rattle.fort_tree.specs.declared.expr.Expr.{Expr}
use Rattle.fort_tree.specs.declared.expr.FlatPart.{FlatPart}
use Rattle.fort_tree.specs.declared.expr.Generator.{Generator as GeneratorTree}
use Rattle.fort_tree.specs.declared.expr.Head.{Head}
use Rattle.fort_tree.specs.declared.expr.Postfix.{Postfix}
use Rattle.fort_tree.specs.declared.expr.RunPart.{RunPart}
use Rattle.fort_tree.specs.declared.declarations.Variable.{Variable}
use Rattle.fort_tree.specs.declared.delimited.Also.{Also}
use Rattle.fort_tree.specs.declared.delimited.BlockItem.{BlockItem}
use Rattle.fort_tree.specs.declared.delimited.CaseClause.{CaseClause}
use Rattle.fort_tree.specs.declared.delimited.Catch.{Catch}
use Rattle.fort_tree.specs.declared.delimited.Elif.{Elif}
use Rattle.fort_tree.specs.declared.delimited.ElseBlock.{ElseBlock}
use Rattle.fort_tree.specs.declared.delimited.ElseClause.{ElseClause}
use Rattle.fort_tree.specs.declared.delimited.Finally.{Finally}
use Rattle.fort_tree.specs.declared.delimited.NextGenerator.{NextGenerator}
use Rattle.fort_tree.specs.declared.delimited.TypeClause.{TypeClause}
use Rattle.fort_tree.specs.declared.expr.ExprList.{ExprList}
use Rattle.fort_tree.specs.declared.expr.Flat.{Flat}
use Rattle.fort_tree.specs.declared.expr.NextExpr.{NextExpr}
use Rattle.fort_tree.specs.declared.expr.Operand.{Operand}
use Rattle.fort_tree.specs.declared.expr.Run.{Run}
use Rattle.fort_tree.specs.declared.delimited.Delimited.TheOpen.{Delimited-F, Item-F, Atom-F, Expr-F, FlatPart-F, Generator-F, Head-F, Postfix-F, RunPart-F, Variable-F, Also-F, BlockItem-F, CaseClause-F, Catch-F, Elif-F, ElseBlock-F, ElseClause-F, Finally-F, NextGenerator-F, TypeClause-F, ExprList-F, Flat-F, NextExpr-F, Operand-F, Run-F}
use Rattle.fort_tree.specs.declared.delimited.Delimited.TheFolds.{map-Delimited, fold-roll-Delimited, map-Item, fold-roll-Item, map-Atom, fold-roll-Atom, map-Expr, fold-roll-Expr, map-FlatPart, fold-roll-FlatPart, map-Generator, fold-roll-Generator, map-Head, fold-roll-Head, map-Postfix, fold-roll-Postfix, map-RunPart, fold-roll-RunPart, map-Variable, fold-roll-Variable, map-Also, fold-roll-Also, map-BlockItem, fold-roll-BlockItem, map-CaseClause, fold-roll-CaseClause, map-Catch, fold-roll-Catch, map-Elif, fold-roll-Elif, map-ElseBlock, fold-roll-ElseBlock, map-ElseClause, fold-roll-ElseClause, map-Finally, fold-roll-Finally, map-NextGenerator, fold-roll-NextGenerator, map-TypeClause, fold-roll-TypeClause, map-ExprList, fold-roll-ExprList, map-Flat, fold-roll-Flat, map-NextExpr, fold-roll-NextExpr, map-Operand, fold-roll-Operand, map-Run, fold-roll-Run, ind-Expr}
use Rattle.fort_tree.specs.declared.delimited.Delimited.TheViews.{roll-Delimited, roll-Item, roll-Atom, roll-Expr, roll-FlatPart, roll-Generator, roll-Head, roll-Postfix, roll-RunPart, roll-Variable, roll-Also, roll-BlockItem, roll-CaseClause, roll-Catch, roll-Elif, roll-ElseBlock, roll-ElseClause, roll-Finally, roll-NextGenerator, roll-TypeClause, roll-ExprList, roll-Flat, roll-NextExpr, roll-Operand, roll-Run}
use Rattle.fort_tree.specs.declared.expr.Prefix.{Prefix}
use Rattle.fort_tree.specs.declared.expr.Prefix.TheVariants as a_prefix
use Rattle.fort_tree.specs.declared.spot.Spot.{Spot}
use Rattle.fort_form.specs.declared.form.Form.{Form}
use Rattle.fort_form.specs.declared.form.Branch.{Branch}
use Rattle.fort_form.specs.declared.form.Generator.{Generator as FormGenerator}
use Rattle.fort_form.specs.declared.form.TypeBranch.{TypeBranch}
use Rattle.fort_form_meaning.specs.Levels.{Placed, Catching, Opening, Listed}
use Rattle.fort_form_meaning.specs.Places.{place_of}
use Rattle.fort_form_meaning.specs.Source.{Source}
use Rattle.fort_form_meaning.specs.Formed.{formed_delimited, formed_item, formed_atom, formed_expr, formed_flat_part, formed_generator, formed_head, formed_postfix, formed_run_part, formed_variable, formed_also, formed_block_item, formed_case_clause, formed_catch, formed_elif, formed_else_block, formed_else_clause, formed_finally, formed_next_generator, formed_type_clause, formed_expr_list, formed_flat, formed_next_expr, formed_operand, formed_run}
use Rattle.fort_form_meaning.specs.Forming.{binder, form_delimited, form_item, form_atom, form_expr, form_flat_part, form_generator, form_head, form_postfix, form_run_part, form_variable, form_also, form_block_item, form_case_clause, form_catch, form_elif, form_else_block, form_else_clause, form_finally, form_next_generator, form_type_clause, form_expr_list, form_flat, form_next_expr, form_operand, form_run, run_of, between, prefixed, block, block_place}
use Rattle.fort_tree.specs.declared.spot.NextName.{NextName}
use Rattle.fort_tree.specs.Tokens.{Spellings}
use Rattle.fort_tree.specs.Said.{Said, SaidEntry, SaidElse}
use Rattle.fort_tree.specs.Flats.{atom_step, expr_step, flat_part_step, generator_step, head_step, postfix_step, run_part_step, expr_list_step, flat_step, next_expr_step, operand_step, run_step}
use Rattle.fort_tree.specs.Blocks.{has_next_name, delimited_step, item_step, variable_step, also_step, block_item_step, case_clause_step, catch_step, elif_step, else_block_step, else_clause_step, finally_step, next_generator_step, type_clause_step}
use Rattle.fort_tree.specs.Yield.{said_delimited, said_item, said_atom, said_expr, said_flat_part, said_generator, said_head, said_postfix, said_run_part, said_variable, said_also, said_block_item, said_case_clause, said_catch, said_elif, said_else_block, said_else_clause, said_finally, said_next_generator, said_type_clause, said_expr_list, said_flat, said_next_expr, said_operand, said_run}
use Rattle.fort_sound_forms.specs.Figures.{HasFigures}
use Rattle.fort_form_law_figures.proofs.Parts.{Reads, ReadsEntry, ReadsElse, DelimitedReads, delimited-parts, ItemReads, item-parts, AtomReads, atom-parts, ExprReads, expr-parts, FlatPartReads, flat-part-parts, GeneratorReads, generator-parts, HeadReads, head-parts, PostfixReads, postfix-parts, RunPartReads, run-part-parts, VariableReads, variable-parts, AlsoReads, also-parts, BlockItemReads, block-item-parts, CaseClauseReads, case-clause-parts, CatchReads, catch-parts, ElifReads, elif-parts, ElseBlockReads, else-block-parts, ElseClauseReads, else-clause-parts, FinallyReads, finally-parts, NextGeneratorReads, next-generator-parts, TypeClauseReads, type-clause-parts, ExprListReads, expr-list-parts, FlatReads, flat-parts, NextExprReads, next-expr-parts, OperandReads, operand-parts, RunReads, run-parts}
use Rattle.fort_form_law_figures.proofs.Made.{GoodItem, GoodBranch, GoodGenerator, GoodClause, AllGood, good-Number, good-Text, good-Truth, good-Receiver, good-Name, good-Parens, good-Tuple, good-Operator, good-Run, good-Subscript, good-Power, good-Field, good-Method, good-Fill, good-Block, good-Do, good-If, good-While, good-For, good-Case, good-Typecase, good-Try, good-Atomic, good-Tryatomic, good-Throw, good-Spawn, good-Fn, good-Reduce, good-Assign, item-Local, item-Locals, item-Expression, good-branch, good-generator, good-clause}
use Rattle.fort_form_law_figures.proofs.Groups.{IsGroupedSource, flat-good}

module _ (names : Spellings) (k : Source) (S : IsGroupedSource k) where
  abbrev GoodPlaced : Placed → Type 0
  GoodPlaced p = GoodItem p.item

  abbrev GoodOpening : Opening → Type 0
  GoodOpening o = (body : Form) → HasFigures body → HasFigures (o body)

  abbrev GoodCatching : Catching → Type 0
  GoodCatching c = AllByRecursion GoodClause c.clauses

  -- trees of which something is shown
  abbrev firsts : {T : Type 0} {G : T → Type 0} → List ((t : T) × G t) → List T
  firsts {T = T} {G = G} es = map (λ (e : (t : T) × G t). e.0) es

  each : {T D C : Type 0} (R : D → Type 0) (m : T → D) (f : T → C) (G : C → Type 0)
      (es : List ((t : T) × (R (m t) → G (f t)))) → AllByRecursion R (map m (firsts es))
      → AllByRecursion G (map f (firsts es))
  each R m f G [] h = tt
  each R m f G (e ∷ es) h = (e.1 h.0, each R m f G es h.1)

  -- ---- what a level makes of its parts

  placed-items : (ps : List Placed) → AllByRecursion GoodPlaced ps
      → AllByRecursion GoodItem (map (λ (i : Placed). i.item) ps)
  placed-items [] g = tt
  placed-items (p ∷ ps) g = (g.0, placed-items ps g.1)

  block-good : (word : Spot) (ps : List Placed) → AllByRecursion GoodPlaced ps
      → HasFigures (block word ps)
  block-good word ps g =
      good-Block (block_place word ps) (map (λ (i : Placed). i.item) ps) (placed-items ps g)

  between-good : (p : Place) (fs : List Form) → AllGood fs → HasFigures (between p (Some fs))
  between-good p [] g = good-Tuple p [] tt
  between-good p (f ∷ []) g = good-Parens p f g.0
  between-good p (f ∷ d ∷ fs) g = good-Tuple p (f ∷ d ∷ fs) g

  run-good : (f : Form) (fs : List Form) → HasFigures f → AllGood fs → HasFigures (run_of f fs)
  run-good f [] g h = g
  run-good f (d ∷ fs) g h = good-Run (place_of f) (f ∷ d ∷ fs) (g, h)

  prefixed-good : (o : Option Prefix) (f : Form) → HasFigures f → HasFigures (prefixed o f)
  prefixed-good None f g = g
  prefixed-good (Some (a_prefix.Minus s)) f g = good-Operator s.place an_op.Minus (f ∷ []) (g, tt)
  prefixed-good (Some (a_prefix.Not s)) f g = good-Operator s.place an_op.Not (f ∷ []) (g, tt)

  two : (n : ℕ) → 2 ≤ suc (suc n)
  two n = search arith

  two-names : {A : Type 0} (b : A) (f : NextName → A) (ns : List NextName) → has_next_name ns ≡ true
      → 2 ≤ length (b ∷ map f ns)
  two-names b f [] e = absurd (let z : false ≡ true = e in cc)
  two-names b f (n ∷ ns) e = two (length (map f ns))

  -- ---- what is shown of each tree, and a tree of which it is shown

  abbrev IsDelimited : Delimited → Type 0
  IsDelimited t = Reads names (said_delimited t) → HasFigures (formed_delimited k t)

  abbrev OneDelimited : Type 0
  OneDelimited = (t : Delimited) × IsDelimited t

  abbrev IsItem : ItemTree → Type 0
  IsItem t = Reads names (said_item t) → GoodPlaced (formed_item k t)

  abbrev OneItem : Type 0
  OneItem = (t : ItemTree) × IsItem t

  abbrev IsAtom : Atom → Type 0
  IsAtom t = Reads names (said_atom t) → HasFigures (formed_atom k t)

  abbrev OneAtom : Type 0
  OneAtom = (t : Atom) × IsAtom t

  abbrev IsExpr : Expr → Type 0
  IsExpr t = Reads names (said_expr t) → HasFigures (formed_expr k t)

  abbrev OneExpr : Type 0
  OneExpr = (t : Expr) × IsExpr t

  abbrev IsFlatPart : FlatPart → Type 0
  IsFlatPart t = Reads names (said_flat_part t) → HasFigures (formed_flat_part k t)

  abbrev OneFlatPart : Type 0
  OneFlatPart = (t : FlatPart) × IsFlatPart t

  abbrev IsGenerator : GeneratorTree → Type 0
  IsGenerator t = Reads names (said_generator t) → GoodGenerator (formed_generator k t)

  abbrev OneGenerator : Type 0
  OneGenerator = (t : GeneratorTree) × IsGenerator t

  abbrev IsHead : Head → Type 0
  IsHead t = Reads names (said_head t) → GoodOpening (formed_head k t)

  abbrev OneHead : Type 0
  OneHead = (t : Head) × IsHead t

  abbrev IsPostfix : Postfix → Type 0
  IsPostfix t = Reads names (said_postfix t) → HasFigures (formed_postfix k t)

  abbrev OnePostfix : Type 0
  OnePostfix = (t : Postfix) × IsPostfix t

  abbrev IsRunPart : RunPart → Type 0
  IsRunPart t = Reads names (said_run_part t) → HasFigures (formed_run_part k t)

  abbrev OneRunPart : Type 0
  OneRunPart = (t : RunPart) × IsRunPart t

  abbrev IsVariable : Variable → Type 0
  IsVariable t = Reads names (said_variable t) → GoodPlaced (formed_variable k t)

  abbrev OneVariable : Type 0
  OneVariable = (t : Variable) × IsVariable t

  abbrev IsAlso : Also → Type 0
  IsAlso t = Reads names (said_also t) → HasFigures (formed_also k t)

  abbrev OneAlso : Type 0
  OneAlso = (t : Also) × IsAlso t

  abbrev IsBlockItem : BlockItem → Type 0
  IsBlockItem t = ReadsEntry names (said_block_item t) → GoodPlaced (formed_block_item k t)

  abbrev OneBlockItem : Type 0
  OneBlockItem = (t : BlockItem) × IsBlockItem t

  abbrev IsCaseClause : CaseClause → Type 0
  IsCaseClause t = ReadsEntry names (said_case_clause t) → GoodBranch (formed_case_clause k t)

  abbrev OneCaseClause : Type 0
  OneCaseClause = (t : CaseClause) × IsCaseClause t

  abbrev IsCatch : Catch → Type 0
  IsCatch t = Reads names (said_catch t) → GoodCatching (formed_catch k t)

  abbrev OneCatch : Type 0
  OneCatch = (t : Catch) × IsCatch t

  abbrev IsElif : Elif → Type 0
  IsElif t = Reads names (said_elif t) → GoodBranch (formed_elif k t)

  abbrev OneElif : Type 0
  OneElif = (t : Elif) × IsElif t

  abbrev IsElseBlock : ElseBlock → Type 0
  IsElseBlock t = Reads names (said_else_block t) → HasFigures (formed_else_block k t)

  abbrev OneElseBlock : Type 0
  OneElseBlock = (t : ElseBlock) × IsElseBlock t

  abbrev IsElseClause : ElseClause → Type 0
  IsElseClause t = ReadsElse names (said_else_clause t) → HasFigures (formed_else_clause k t)

  abbrev OneElseClause : Type 0
  OneElseClause = (t : ElseClause) × IsElseClause t

  abbrev IsFinally : Finally → Type 0
  IsFinally t = Reads names (said_finally t) → HasFigures (formed_finally k t)

  abbrev OneFinally : Type 0
  OneFinally = (t : Finally) × IsFinally t

  abbrev IsNextGenerator : NextGenerator → Type 0
  IsNextGenerator t = Reads names (said_next_generator t)
      → GoodGenerator (formed_next_generator k t)

  abbrev OneNextGenerator : Type 0
  OneNextGenerator = (t : NextGenerator) × IsNextGenerator t

  abbrev IsTypeClause : TypeClause → Type 0
  IsTypeClause t = ReadsEntry names (said_type_clause t) → GoodClause (formed_type_clause k t)

  abbrev OneTypeClause : Type 0
  OneTypeClause = (t : TypeClause) × IsTypeClause t

  abbrev IsExprList : ExprList → Type 0
  IsExprList t = Reads names (said_expr_list t) → AllGood (formed_expr_list k t)

  abbrev OneExprList : Type 0
  OneExprList = (t : ExprList) × IsExprList t

  abbrev IsFlat : Flat → Type 0
  IsFlat t = Reads names (said_flat t) → HasFigures (formed_flat k t)

  abbrev OneFlat : Type 0
  OneFlat = (t : Flat) × IsFlat t

  abbrev IsNextExpr : NextExpr → Type 0
  IsNextExpr t = Reads names (said_next_expr t) → HasFigures (formed_next_expr k t)

  abbrev OneNextExpr : Type 0
  OneNextExpr = (t : NextExpr) × IsNextExpr t

  abbrev IsOperand : Operand → Type 0
  IsOperand t = Reads names (said_operand t) → HasFigures (formed_operand k t)

  abbrev OneOperand : Type 0
  OneOperand = (t : Operand) × IsOperand t

  abbrev IsRun : Run → Type 0
  IsRun t = Reads names (said_run t) → HasFigures (formed_run k t)

  abbrev OneRun : Type 0
  OneRun = (t : Run) × IsRun t

  each_block_item : (es : List OneBlockItem)
      → AllByRecursion (ReadsEntry names) (map said_block_item (firsts es))
      → AllByRecursion GoodPlaced (map (formed_block_item k) (firsts es))
  each_block_item es h =
      each (ReadsEntry names) said_block_item (formed_block_item k) GoodPlaced es h

  each_also : (es : List OneAlso) → AllByRecursion (Reads names) (map said_also (firsts es))
      → AllByRecursion HasFigures (map (formed_also k) (firsts es))
  each_also es h = each (Reads names) said_also (formed_also k) HasFigures es h

  each_elif : (es : List OneElif) → AllByRecursion (Reads names) (map said_elif (firsts es))
      → AllByRecursion GoodBranch (map (formed_elif k) (firsts es))
  each_elif es h = each (Reads names) said_elif (formed_elif k) GoodBranch es h

  each_next_generator : (es : List OneNextGenerator)
      → AllByRecursion (Reads names) (map said_next_generator (firsts es))
      → AllByRecursion GoodGenerator (map (formed_next_generator k) (firsts es))
  each_next_generator es h =
      each (Reads names) said_next_generator (formed_next_generator k) GoodGenerator es h

  each_case_clause : (es : List OneCaseClause)
      → AllByRecursion (ReadsEntry names) (map said_case_clause (firsts es))
      → AllByRecursion GoodBranch (map (formed_case_clause k) (firsts es))
  each_case_clause es h =
      each (ReadsEntry names) said_case_clause (formed_case_clause k) GoodBranch es h

  each_type_clause : (es : List OneTypeClause)
      → AllByRecursion (ReadsEntry names) (map said_type_clause (firsts es))
      → AllByRecursion GoodClause (map (formed_type_clause k) (firsts es))
  each_type_clause es h =
      each (ReadsEntry names) said_type_clause (formed_type_clause k) GoodClause es h

  each_next_expr : (es : List OneNextExpr)
      → AllByRecursion (Reads names) (map said_next_expr (firsts es))
      → AllByRecursion HasFigures (map (formed_next_expr k) (firsts es))
  each_next_expr es h = each (Reads names) said_next_expr (formed_next_expr k) HasFigures es h

  each_flat_part : (es : List OneFlatPart)
      → AllByRecursion (Reads names) (map said_flat_part (firsts es))
      → AllByRecursion HasFigures (map (formed_flat_part k) (firsts es))
  each_flat_part es h = each (Reads names) said_flat_part (formed_flat_part k) HasFigures es h

  each_run_part : (es : List OneRunPart)
      → AllByRecursion (Reads names) (map said_run_part (firsts es))
      → AllByRecursion HasFigures (map (formed_run_part k) (firsts es))
  each_run_part es h = each (Reads names) said_run_part (formed_run_part k) HasFigures es h

  blocked : (word : Spot) (es : List OneBlockItem)
      → AllByRecursion (ReadsEntry names) (map said_block_item (firsts es))
      → HasFigures (block word (map (formed_block_item k) (firsts es)))
  blocked word es h = block-good word (map (formed_block_item k) (firsts es)) (each_block_item es h)

  -- ---- Delimited

  abbrev delimited_parts : Delimited-F OneDelimited OneItem OneAtom OneExpr OneFlatPart OneGenerator
      OneHead OnePostfix OneRunPart OneVariable OneAlso OneBlockItem OneCaseClause OneCatch OneElif
      OneElseBlock OneElseClause OneFinally OneNextGenerator OneTypeClause OneExprList OneFlat
      OneNextExpr OneOperand OneRun
      → Delimited-F Delimited ItemTree Atom Expr FlatPart GeneratorTree Head Postfix RunPart
      Variable Also BlockItem CaseClause Catch Elif ElseBlock ElseClause Finally NextGenerator
      TypeClause ExprList Flat NextExpr Operand Run
  delimited_parts =
      map-Delimited OneDelimited OneItem OneAtom OneExpr OneFlatPart OneGenerator OneHead OnePostfix
      OneRunPart OneVariable OneAlso OneBlockItem OneCaseClause OneCatch OneElif OneElseBlock
      OneElseClause OneFinally OneNextGenerator OneTypeClause OneExprList OneFlat OneNextExpr
      OneOperand OneRun Delimited ItemTree Atom Expr FlatPart GeneratorTree Head Postfix RunPart
      Variable Also BlockItem CaseClause Catch Elif ElseBlock ElseClause Finally NextGenerator
      TypeClause ExprList Flat NextExpr Operand Run (λ e. e.0) (λ e. e.0) (λ e. e.0) (λ e. e.0)
      (λ e. e.0) (λ e. e.0) (λ e. e.0) (λ e. e.0) (λ e. e.0) (λ e. e.0) (λ e. e.0) (λ e. e.0)
      (λ e. e.0) (λ e. e.0) (λ e. e.0) (λ e. e.0) (λ e. e.0) (λ e. e.0) (λ e. e.0) (λ e. e.0)
      (λ e. e.0) (λ e. e.0) (λ e. e.0) (λ e. e.0) (λ e. e.0)

  abbrev delimited_saids : Delimited-F Delimited ItemTree Atom Expr FlatPart GeneratorTree Head
      Postfix RunPart Variable Also BlockItem CaseClause Catch Elif ElseBlock ElseClause Finally
      NextGenerator TypeClause ExprList Flat NextExpr Operand Run
      → Delimited-F Said Said Said Said Said Said Said Said Said Said Said SaidEntry SaidEntry Said
      Said Said SaidElse Said Said SaidEntry Said Said Said Said Said
  delimited_saids =
      map-Delimited Delimited ItemTree Atom Expr FlatPart GeneratorTree Head Postfix RunPart
      Variable Also BlockItem CaseClause Catch Elif ElseBlock ElseClause Finally NextGenerator
      TypeClause ExprList Flat NextExpr Operand Run Said Said Said Said Said Said Said Said Said
      Said Said SaidEntry SaidEntry Said Said Said SaidElse Said Said SaidEntry Said Said Said Said
      Said said_delimited said_item said_atom said_expr said_flat_part said_generator said_head
      said_postfix said_run_part said_variable said_also said_block_item said_case_clause said_catch
      said_elif said_else_block said_else_clause said_finally said_next_generator said_type_clause
      said_expr_list said_flat said_next_expr said_operand said_run

  abbrev delimited_forms : Delimited-F Delimited ItemTree Atom Expr FlatPart GeneratorTree Head
      Postfix RunPart Variable Also BlockItem CaseClause Catch Elif ElseBlock ElseClause Finally
      NextGenerator TypeClause ExprList Flat NextExpr Operand Run
      → Delimited-F Form Placed Form Form Form FormGenerator Opening Form Form Placed Form Placed
      Branch Catching Branch Form Form Form FormGenerator TypeBranch Listed Form Form Form Form
  delimited_forms =
      map-Delimited Delimited ItemTree Atom Expr FlatPart GeneratorTree Head Postfix RunPart
      Variable Also BlockItem CaseClause Catch Elif ElseBlock ElseClause Finally NextGenerator
      TypeClause ExprList Flat NextExpr Operand Run Form Placed Form Form Form FormGenerator Opening
      Form Form Placed Form Placed Branch Catching Branch Form Form Form FormGenerator TypeBranch
      Listed Form Form Form Form (formed_delimited k) (formed_item k) (formed_atom k)
      (formed_expr k) (formed_flat_part k) (formed_generator k) (formed_head k) (formed_postfix k)
      (formed_run_part k) (formed_variable k) (formed_also k) (formed_block_item k)
      (formed_case_clause k) (formed_catch k) (formed_elif k) (formed_else_block k)
      (formed_else_clause k) (formed_finally k) (formed_next_generator k) (formed_type_clause k)
      (formed_expr_list k) (formed_flat k) (formed_next_expr k) (formed_operand k) (formed_run k)

  delimited_said : (l : Delimited-F Delimited ItemTree Atom Expr FlatPart GeneratorTree Head Postfix
      RunPart Variable Also BlockItem CaseClause Catch Elif ElseBlock ElseClause Finally
      NextGenerator TypeClause ExprList Flat NextExpr Operand Run)
      → said_delimited (roll-Delimited l) ≡ delimited_step (delimited_saids l)
  unfolding said_delimited said_item said_atom said_expr said_flat_part said_generator said_head
      said_postfix said_run_part said_variable said_also said_block_item said_case_clause said_catch
      said_elif said_else_block said_else_clause said_finally said_next_generator said_type_clause
      said_expr_list said_flat said_next_expr said_operand said_run
  delimited_said l =
      fold-roll-Delimited Said Said Said Said Said Said Said Said Said Said Said SaidEntry SaidEntry
      Said Said Said SaidElse Said Said SaidEntry Said Said Said Said Said delimited_step item_step
      atom_step expr_step flat_part_step generator_step head_step postfix_step run_part_step
      variable_step also_step block_item_step case_clause_step catch_step elif_step else_block_step
      else_clause_step finally_step next_generator_step type_clause_step expr_list_step flat_step
      next_expr_step operand_step run_step l

  delimited_formed : (l : Delimited-F Delimited ItemTree Atom Expr FlatPart GeneratorTree Head
      Postfix RunPart Variable Also BlockItem CaseClause Catch Elif ElseBlock ElseClause Finally
      NextGenerator TypeClause ExprList Flat NextExpr Operand Run)
      → formed_delimited k (roll-Delimited l) ≡ form_delimited (delimited_forms l)
  unfolding formed_delimited formed_item formed_atom formed_expr formed_flat_part formed_generator
      formed_head formed_postfix formed_run_part formed_variable formed_also formed_block_item
      formed_case_clause formed_catch formed_elif formed_else_block formed_else_clause
      formed_finally formed_next_generator formed_type_clause formed_expr_list formed_flat
      formed_next_expr formed_operand formed_run
  delimited_formed l =
      fold-roll-Delimited Form Placed Form Form Form FormGenerator Opening Form Form Placed Form
      Placed Branch Catching Branch Form Form Form FormGenerator TypeBranch Listed Form Form Form
      Form form_delimited (form_item k) (form_atom k) form_expr form_flat_part form_generator
      (form_head k) form_postfix form_run_part (form_variable k) form_also form_block_item
      form_case_clause form_catch form_elif form_else_block form_else_clause form_finally
      form_next_generator (form_type_clause k) form_expr_list (form_flat k) form_next_expr
      form_operand form_run l

  delimited_level : (y : Delimited-F OneDelimited OneItem OneAtom OneExpr OneFlatPart OneGenerator
      OneHead OnePostfix OneRunPart OneVariable OneAlso OneBlockItem OneCaseClause OneCatch
      OneElif OneElseBlock OneElseClause OneFinally OneNextGenerator OneTypeClause OneExprList
      OneFlat OneNextExpr OneOperand OneRun)
      → DelimitedReads names (delimited_saids (delimited_parts y))
      → HasFigures (form_delimited (delimited_forms (delimited_parts y)))
  delimited_level (Delimited-F.Do at_do items others end) h =
      good-Do _ _ (blocked at_do items h.0, each_also others h.1)
  delimited_level (Delimited-F.If at_if condition then items elifs None end) h =
      good-If _ _ None (
        good-branch _ _ (condition.1 h.0) (blocked then items h.1),
        each_elif elifs h.2,
      ) tt
  delimited_level (Delimited-F.If at_if condition then items elifs (Some o) end) h =
      good-If _ _ (Some _) (
        good-branch _ _ (condition.1 h.0) (blocked then items h.1),
        each_elif elifs h.2,
      ) (o.1 h.3)
  delimited_level (Delimited-F.While at_while condition at_do items end) h =
      good-While _ _ _ (condition.1 h.0) (blocked at_do items h.1)
  delimited_level (Delimited-F.For at_for generator others at_do items end) h =
      good-For _ _ _ (generator.1 h.0, each_next_generator others h.1) (blocked at_do items h.2)
  delimited_level (Delimited-F.Case at_case subject of clauses None end) h =
      good-Case _ _ _ None (subject.1 h.0) (each_case_clause clauses h.1) tt
  delimited_level (Delimited-F.Case at_case subject of clauses (Some o) end) h =
      good-Case _ _ _ (Some _) (subject.1 h.0) (each_case_clause clauses h.1) (o.1 h.2)
  delimited_level (Delimited-F.Typecase at_typecase name equals subject of clauses None end) h =
      good-Typecase _ _ _ _ _ None (subject.1 h.0) (each_type_clause clauses h.1) tt
  delimited_level (Delimited-F.Typecase at_typecase name equals subject of clauses (Some o) end) h =
      good-Typecase _ _ _ _ _ (Some _) (subject.1 h.0) (each_type_clause clauses h.1) (o.1 h.2)
  delimited_level (Delimited-F.Try at_try items None None end) h =
      good-Try _ _ _ [] None (blocked at_try items h.0) tt tt
  delimited_level (Delimited-F.Try at_try items None (Some f) end) h =
      good-Try _ _ _ [] (Some _) (blocked at_try items h.0) tt (f.1 h.2)
  delimited_level (Delimited-F.Try at_try items (Some c) None end) h =
      good-Try _ _ _ _ None (blocked at_try items h.0) (c.1 h.1) tt
  delimited_level (Delimited-F.Try at_try items (Some c) (Some f) end) h =
      good-Try _ _ _ _ (Some _) (blocked at_try items h.0) (c.1 h.1) (f.1 h.2)

  delimited_shown : (x : Delimited-F Delimited ItemTree Atom Expr FlatPart GeneratorTree Head
      Postfix RunPart Variable Also BlockItem CaseClause Catch Elif ElseBlock ElseClause Finally
      NextGenerator TypeClause ExprList Flat NextExpr Operand Run)
      (y : Delimited-F OneDelimited OneItem OneAtom OneExpr OneFlatPart OneGenerator OneHead
      OnePostfix OneRunPart OneVariable OneAlso OneBlockItem OneCaseClause OneCatch OneElif
      OneElseBlock OneElseClause OneFinally OneNextGenerator OneTypeClause OneExprList OneFlat
      OneNextExpr OneOperand OneRun) → delimited_parts y ≡ x → IsDelimited (roll-Delimited x)
  delimited_shown x y is =
      subst (λ x. IsDelimited (roll-Delimited x)) is
      (λ h. subst HasFigures (sym (delimited_formed (delimited_parts y)))
      (delimited_level y
      (delimited-parts names (delimited_saids (delimited_parts y))
      (subst (Reads names) (delimited_said (delimited_parts y)) h))))

  -- ---- Item

  abbrev item_parts : Item-F OneDelimited OneItem OneAtom OneExpr OneFlatPart OneGenerator OneHead
      OnePostfix OneRunPart OneVariable OneAlso OneBlockItem OneCaseClause OneCatch OneElif
      OneElseBlock OneElseClause OneFinally OneNextGenerator OneTypeClause OneExprList OneFlat
      OneNextExpr OneOperand OneRun
      → Item-F Delimited ItemTree Atom Expr FlatPart GeneratorTree Head Postfix RunPart Variable
      Also BlockItem CaseClause Catch Elif ElseBlock ElseClause Finally NextGenerator TypeClause
      ExprList Flat NextExpr Operand Run
  item_parts =
      map-Item OneDelimited OneItem OneAtom OneExpr OneFlatPart OneGenerator OneHead OnePostfix
      OneRunPart OneVariable OneAlso OneBlockItem OneCaseClause OneCatch OneElif OneElseBlock
      OneElseClause OneFinally OneNextGenerator OneTypeClause OneExprList OneFlat OneNextExpr
      OneOperand OneRun Delimited ItemTree Atom Expr FlatPart GeneratorTree Head Postfix RunPart
      Variable Also BlockItem CaseClause Catch Elif ElseBlock ElseClause Finally NextGenerator
      TypeClause ExprList Flat NextExpr Operand Run (λ e. e.0) (λ e. e.0) (λ e. e.0) (λ e. e.0)
      (λ e. e.0) (λ e. e.0) (λ e. e.0) (λ e. e.0) (λ e. e.0) (λ e. e.0) (λ e. e.0) (λ e. e.0)
      (λ e. e.0) (λ e. e.0) (λ e. e.0) (λ e. e.0) (λ e. e.0) (λ e. e.0) (λ e. e.0) (λ e. e.0)
      (λ e. e.0) (λ e. e.0) (λ e. e.0) (λ e. e.0) (λ e. e.0)

  abbrev item_saids : Item-F Delimited ItemTree Atom Expr FlatPart GeneratorTree Head Postfix
      RunPart Variable Also BlockItem CaseClause Catch Elif ElseBlock ElseClause Finally
      NextGenerator TypeClause ExprList Flat NextExpr Operand Run
      → Item-F Said Said Said Said Said Said Said Said Said Said Said SaidEntry SaidEntry Said Said
      Said SaidElse Said Said SaidEntry Said Said Said Said Said
  item_saids =
      map-Item Delimited ItemTree Atom Expr FlatPart GeneratorTree Head Postfix RunPart Variable
      Also BlockItem CaseClause Catch Elif ElseBlock ElseClause Finally NextGenerator TypeClause
      ExprList Flat NextExpr Operand Run Said Said Said Said Said Said Said Said Said Said Said
      SaidEntry SaidEntry Said Said Said SaidElse Said Said SaidEntry Said Said Said Said Said
      said_delimited said_item said_atom said_expr said_flat_part said_generator said_head
      said_postfix said_run_part said_variable said_also said_block_item said_case_clause said_catch
      said_elif said_else_block said_else_clause said_finally said_next_generator said_type_clause
      said_expr_list said_flat said_next_expr said_operand said_run

  abbrev item_forms : Item-F Delimited ItemTree Atom Expr FlatPart GeneratorTree Head Postfix
      RunPart Variable Also BlockItem CaseClause Catch Elif ElseBlock ElseClause Finally
      NextGenerator TypeClause ExprList Flat NextExpr Operand Run
      → Item-F Form Placed Form Form Form FormGenerator Opening Form Form Placed Form Placed Branch
      Catching Branch Form Form Form FormGenerator TypeBranch Listed Form Form Form Form
  item_forms =
      map-Item Delimited ItemTree Atom Expr FlatPart GeneratorTree Head Postfix RunPart Variable
      Also BlockItem CaseClause Catch Elif ElseBlock ElseClause Finally NextGenerator TypeClause
      ExprList Flat NextExpr Operand Run Form Placed Form Form Form FormGenerator Opening Form Form
      Placed Form Placed Branch Catching Branch Form Form Form FormGenerator TypeBranch Listed Form
      Form Form Form (formed_delimited k) (formed_item k) (formed_atom k) (formed_expr k)
      (formed_flat_part k) (formed_generator k) (formed_head k) (formed_postfix k)
      (formed_run_part k) (formed_variable k) (formed_also k) (formed_block_item k)
      (formed_case_clause k) (formed_catch k) (formed_elif k) (formed_else_block k)
      (formed_else_clause k) (formed_finally k) (formed_next_generator k) (formed_type_clause k)
      (formed_expr_list k) (formed_flat k) (formed_next_expr k) (formed_operand k) (formed_run k)

  item_said : (l : Item-F Delimited ItemTree Atom Expr FlatPart GeneratorTree Head Postfix RunPart
      Variable Also BlockItem CaseClause Catch Elif ElseBlock ElseClause Finally NextGenerator
      TypeClause ExprList Flat NextExpr Operand Run)
      → said_item (roll-Item l) ≡ item_step (item_saids l)
  unfolding said_delimited said_item said_atom said_expr said_flat_part said_generator said_head
      said_postfix said_run_part said_variable said_also said_block_item said_case_clause said_catch
      said_elif said_else_block said_else_clause said_finally said_next_generator said_type_clause
      said_expr_list said_flat said_next_expr said_operand said_run
  item_said l =
      fold-roll-Item Said Said Said Said Said Said Said Said Said Said Said SaidEntry SaidEntry Said
      Said Said SaidElse Said Said SaidEntry Said Said Said Said Said delimited_step item_step
      atom_step expr_step flat_part_step generator_step head_step postfix_step run_part_step
      variable_step also_step block_item_step case_clause_step catch_step elif_step else_block_step
      else_clause_step finally_step next_generator_step type_clause_step expr_list_step flat_step
      next_expr_step operand_step run_step l

  item_formed : (l : Item-F Delimited ItemTree Atom Expr FlatPart GeneratorTree Head Postfix RunPart
      Variable Also BlockItem CaseClause Catch Elif ElseBlock ElseClause Finally NextGenerator
      TypeClause ExprList Flat NextExpr Operand Run)
      → formed_item k (roll-Item l) ≡ form_item k (item_forms l)
  unfolding formed_delimited formed_item formed_atom formed_expr formed_flat_part formed_generator
      formed_head formed_postfix formed_run_part formed_variable formed_also formed_block_item
      formed_case_clause formed_catch formed_elif formed_else_block formed_else_clause
      formed_finally formed_next_generator formed_type_clause formed_expr_list formed_flat
      formed_next_expr formed_operand formed_run
  item_formed l =
      fold-roll-Item Form Placed Form Form Form FormGenerator Opening Form Form Placed Form Placed
      Branch Catching Branch Form Form Form FormGenerator TypeBranch Listed Form Form Form Form
      form_delimited (form_item k) (form_atom k) form_expr form_flat_part form_generator
      (form_head k) form_postfix form_run_part (form_variable k) form_also form_block_item
      form_case_clause form_catch form_elif form_else_block form_else_clause form_finally
      form_next_generator (form_type_clause k) form_expr_list (form_flat k) form_next_expr
      form_operand form_run l

  item_level : (y : Item-F OneDelimited OneItem OneAtom OneExpr OneFlatPart OneGenerator OneHead
      OnePostfix OneRunPart OneVariable OneAlso OneBlockItem OneCaseClause OneCatch OneElif
      OneElseBlock OneElseClause OneFinally OneNextGenerator OneTypeClause OneExprList OneFlat
      OneNextExpr OneOperand OneRun) → ItemReads names (item_saids (item_parts y))
      → GoodPlaced (form_item k (item_forms (item_parts y)))
  item_level (Item-F.Variable variable) h = variable.1 h
  item_level (Item-F.Names left first others right colon ty equals value) h =
      item-Locals _ _ _ _ (two-names (binder first) (λ
      (next : NextName). binder next.name) others h.0) (value.1 h.1)
  item_level (Item-F.Expr expr) h = item-Expression _ (expr.1 h)

  item_shown : (x : Item-F Delimited ItemTree Atom Expr FlatPart GeneratorTree Head Postfix RunPart
      Variable Also BlockItem CaseClause Catch Elif ElseBlock ElseClause Finally NextGenerator
      TypeClause ExprList Flat NextExpr Operand Run)
      (y : Item-F OneDelimited OneItem OneAtom OneExpr OneFlatPart OneGenerator OneHead OnePostfix
      OneRunPart OneVariable OneAlso OneBlockItem OneCaseClause OneCatch OneElif OneElseBlock
      OneElseClause OneFinally OneNextGenerator OneTypeClause OneExprList OneFlat OneNextExpr
      OneOperand OneRun) → item_parts y ≡ x → IsItem (roll-Item x)
  item_shown x y is =
      subst (λ x. IsItem (roll-Item x)) is (λ h. subst GoodPlaced (sym (item_formed (item_parts y)))
      (item_level y
      (item-parts names (item_saids (item_parts y))
      (subst (Reads names) (item_said (item_parts y)) h))))

  -- ---- Atom

  abbrev atom_parts : Atom-F OneDelimited OneItem OneAtom OneExpr OneFlatPart OneGenerator OneHead
      OnePostfix OneRunPart OneVariable OneAlso OneBlockItem OneCaseClause OneCatch OneElif
      OneElseBlock OneElseClause OneFinally OneNextGenerator OneTypeClause OneExprList OneFlat
      OneNextExpr OneOperand OneRun
      → Atom-F Delimited ItemTree Atom Expr FlatPart GeneratorTree Head Postfix RunPart Variable
      Also BlockItem CaseClause Catch Elif ElseBlock ElseClause Finally NextGenerator TypeClause
      ExprList Flat NextExpr Operand Run
  atom_parts =
      map-Atom OneDelimited OneItem OneAtom OneExpr OneFlatPart OneGenerator OneHead OnePostfix
      OneRunPart OneVariable OneAlso OneBlockItem OneCaseClause OneCatch OneElif OneElseBlock
      OneElseClause OneFinally OneNextGenerator OneTypeClause OneExprList OneFlat OneNextExpr
      OneOperand OneRun Delimited ItemTree Atom Expr FlatPart GeneratorTree Head Postfix RunPart
      Variable Also BlockItem CaseClause Catch Elif ElseBlock ElseClause Finally NextGenerator
      TypeClause ExprList Flat NextExpr Operand Run (λ e. e.0) (λ e. e.0) (λ e. e.0) (λ e. e.0)
      (λ e. e.0) (λ e. e.0) (λ e. e.0) (λ e. e.0) (λ e. e.0) (λ e. e.0) (λ e. e.0) (λ e. e.0)
      (λ e. e.0) (λ e. e.0) (λ e. e.0) (λ e. e.0) (λ e. e.0) (λ e. e.0) (λ e. e.0) (λ e. e.0)
      (λ e. e.0) (λ e. e.0) (λ e. e.0) (λ e. e.0) (λ e. e.0)

  abbrev atom_saids : Atom-F Delimited ItemTree Atom Expr FlatPart GeneratorTree Head Postfix
      RunPart Variable Also BlockItem CaseClause Catch Elif ElseBlock ElseClause Finally
      NextGenerator TypeClause ExprList Flat NextExpr Operand Run
      → Atom-F Said Said Said Said Said Said Said Said Said Said Said SaidEntry SaidEntry Said Said
      Said SaidElse Said Said SaidEntry Said Said Said Said Said
  atom_saids =
      map-Atom Delimited ItemTree Atom Expr FlatPart GeneratorTree Head Postfix RunPart Variable
      Also BlockItem CaseClause Catch Elif ElseBlock ElseClause Finally NextGenerator TypeClause
      ExprList Flat NextExpr Operand Run Said Said Said Said Said Said Said Said Said Said Said
      SaidEntry SaidEntry Said Said Said SaidElse Said Said SaidEntry Said Said Said Said Said
      said_delimited said_item said_atom said_expr said_flat_part said_generator said_head
      said_postfix said_run_part said_variable said_also said_block_item said_case_clause said_catch
      said_elif said_else_block said_else_clause said_finally said_next_generator said_type_clause
      said_expr_list said_flat said_next_expr said_operand said_run

  abbrev atom_forms : Atom-F Delimited ItemTree Atom Expr FlatPart GeneratorTree Head Postfix
      RunPart Variable Also BlockItem CaseClause Catch Elif ElseBlock ElseClause Finally
      NextGenerator TypeClause ExprList Flat NextExpr Operand Run
      → Atom-F Form Placed Form Form Form FormGenerator Opening Form Form Placed Form Placed Branch
      Catching Branch Form Form Form FormGenerator TypeBranch Listed Form Form Form Form
  atom_forms =
      map-Atom Delimited ItemTree Atom Expr FlatPart GeneratorTree Head Postfix RunPart Variable
      Also BlockItem CaseClause Catch Elif ElseBlock ElseClause Finally NextGenerator TypeClause
      ExprList Flat NextExpr Operand Run Form Placed Form Form Form FormGenerator Opening Form Form
      Placed Form Placed Branch Catching Branch Form Form Form FormGenerator TypeBranch Listed Form
      Form Form Form (formed_delimited k) (formed_item k) (formed_atom k) (formed_expr k)
      (formed_flat_part k) (formed_generator k) (formed_head k) (formed_postfix k)
      (formed_run_part k) (formed_variable k) (formed_also k) (formed_block_item k)
      (formed_case_clause k) (formed_catch k) (formed_elif k) (formed_else_block k)
      (formed_else_clause k) (formed_finally k) (formed_next_generator k) (formed_type_clause k)
      (formed_expr_list k) (formed_flat k) (formed_next_expr k) (formed_operand k) (formed_run k)

  atom_said : (l : Atom-F Delimited ItemTree Atom Expr FlatPart GeneratorTree Head Postfix RunPart
      Variable Also BlockItem CaseClause Catch Elif ElseBlock ElseClause Finally NextGenerator
      TypeClause ExprList Flat NextExpr Operand Run)
      → said_atom (roll-Atom l) ≡ atom_step (atom_saids l)
  unfolding said_delimited said_item said_atom said_expr said_flat_part said_generator said_head
      said_postfix said_run_part said_variable said_also said_block_item said_case_clause said_catch
      said_elif said_else_block said_else_clause said_finally said_next_generator said_type_clause
      said_expr_list said_flat said_next_expr said_operand said_run
  atom_said l =
      fold-roll-Atom Said Said Said Said Said Said Said Said Said Said Said SaidEntry SaidEntry Said
      Said Said SaidElse Said Said SaidEntry Said Said Said Said Said delimited_step item_step
      atom_step expr_step flat_part_step generator_step head_step postfix_step run_part_step
      variable_step also_step block_item_step case_clause_step catch_step elif_step else_block_step
      else_clause_step finally_step next_generator_step type_clause_step expr_list_step flat_step
      next_expr_step operand_step run_step l

  atom_formed : (l : Atom-F Delimited ItemTree Atom Expr FlatPart GeneratorTree Head Postfix RunPart
      Variable Also BlockItem CaseClause Catch Elif ElseBlock ElseClause Finally NextGenerator
      TypeClause ExprList Flat NextExpr Operand Run)
      → formed_atom k (roll-Atom l) ≡ form_atom k (atom_forms l)
  unfolding formed_delimited formed_item formed_atom formed_expr formed_flat_part formed_generator
      formed_head formed_postfix formed_run_part formed_variable formed_also formed_block_item
      formed_case_clause formed_catch formed_elif formed_else_block formed_else_clause
      formed_finally formed_next_generator formed_type_clause formed_expr_list formed_flat
      formed_next_expr formed_operand formed_run
  atom_formed l =
      fold-roll-Atom Form Placed Form Form Form FormGenerator Opening Form Form Placed Form Placed
      Branch Catching Branch Form Form Form FormGenerator TypeBranch Listed Form Form Form Form
      form_delimited (form_item k) (form_atom k) form_expr form_flat_part form_generator
      (form_head k) form_postfix form_run_part (form_variable k) form_also form_block_item
      form_case_clause form_catch form_elif form_else_block form_else_clause form_finally
      form_next_generator (form_type_clause k) form_expr_list (form_flat k) form_next_expr
      form_operand form_run l

  atom_level : (y : Atom-F OneDelimited OneItem OneAtom OneExpr OneFlatPart OneGenerator OneHead
      OnePostfix OneRunPart OneVariable OneAlso OneBlockItem OneCaseClause OneCatch OneElif
      OneElseBlock OneElseClause OneFinally OneNextGenerator OneTypeClause OneExprList OneFlat
      OneNextExpr OneOperand OneRun) → AtomReads names (atom_saids (atom_parts y))
      → HasFigures (form_atom k (atom_forms (atom_parts y)))
  atom_level (Atom-F.Name name) h = good-Name _ _
  atom_level (Atom-F.Number value s) h = good-Number _ _ h
  atom_level (Atom-F.Text text s) h = good-Text _ _
  atom_level (Atom-F.True s) h = good-Truth _ _
  atom_level (Atom-F.False s) h = good-Truth _ _
  atom_level (Atom-F.Self_ s) h = good-Receiver _
  atom_level (Atom-F.Parens left None right) h = good-Tuple _ [] tt
  atom_level (Atom-F.Parens left (Some c) right) h =
      between-good left.place (formed_expr_list k c.0) (c.1 h)
  atom_level (Atom-F.Delimited form) h = form.1 h
  atom_level (Atom-F.ArrayFill spots element size value) h =
      good-Fill _ _ _ _ (size.1 h.0) (value.1 h.1)

  atom_shown : (x : Atom-F Delimited ItemTree Atom Expr FlatPart GeneratorTree Head Postfix RunPart
      Variable Also BlockItem CaseClause Catch Elif ElseBlock ElseClause Finally NextGenerator
      TypeClause ExprList Flat NextExpr Operand Run)
      (y : Atom-F OneDelimited OneItem OneAtom OneExpr OneFlatPart OneGenerator OneHead OnePostfix
      OneRunPart OneVariable OneAlso OneBlockItem OneCaseClause OneCatch OneElif OneElseBlock
      OneElseClause OneFinally OneNextGenerator OneTypeClause OneExprList OneFlat OneNextExpr
      OneOperand OneRun) → atom_parts y ≡ x → IsAtom (roll-Atom x)
  atom_shown x y is =
      subst (λ x. IsAtom (roll-Atom x)) is (λ h. subst HasFigures (sym (atom_formed (atom_parts y)))
      (atom_level y
      (atom-parts names (atom_saids (atom_parts y))
      (subst (Reads names) (atom_said (atom_parts y)) h))))

  -- ---- Expr

  abbrev expr_parts : Expr-F OneDelimited OneItem OneAtom OneExpr OneFlatPart OneGenerator OneHead
      OnePostfix OneRunPart OneVariable OneAlso OneBlockItem OneCaseClause OneCatch OneElif
      OneElseBlock OneElseClause OneFinally OneNextGenerator OneTypeClause OneExprList OneFlat
      OneNextExpr OneOperand OneRun
      → Expr-F Delimited ItemTree Atom Expr FlatPart GeneratorTree Head Postfix RunPart Variable
      Also BlockItem CaseClause Catch Elif ElseBlock ElseClause Finally NextGenerator TypeClause
      ExprList Flat NextExpr Operand Run
  expr_parts =
      map-Expr OneDelimited OneItem OneAtom OneExpr OneFlatPart OneGenerator OneHead OnePostfix
      OneRunPart OneVariable OneAlso OneBlockItem OneCaseClause OneCatch OneElif OneElseBlock
      OneElseClause OneFinally OneNextGenerator OneTypeClause OneExprList OneFlat OneNextExpr
      OneOperand OneRun Delimited ItemTree Atom Expr FlatPart GeneratorTree Head Postfix RunPart
      Variable Also BlockItem CaseClause Catch Elif ElseBlock ElseClause Finally NextGenerator
      TypeClause ExprList Flat NextExpr Operand Run (λ e. e.0) (λ e. e.0) (λ e. e.0) (λ e. e.0)
      (λ e. e.0) (λ e. e.0) (λ e. e.0) (λ e. e.0) (λ e. e.0) (λ e. e.0) (λ e. e.0) (λ e. e.0)
      (λ e. e.0) (λ e. e.0) (λ e. e.0) (λ e. e.0) (λ e. e.0) (λ e. e.0) (λ e. e.0) (λ e. e.0)
      (λ e. e.0) (λ e. e.0) (λ e. e.0) (λ e. e.0) (λ e. e.0)

  abbrev expr_saids : Expr-F Delimited ItemTree Atom Expr FlatPart GeneratorTree Head Postfix
      RunPart Variable Also BlockItem CaseClause Catch Elif ElseBlock ElseClause Finally
      NextGenerator TypeClause ExprList Flat NextExpr Operand Run
      → Expr-F Said Said Said Said Said Said Said Said Said Said Said SaidEntry SaidEntry Said Said
      Said SaidElse Said Said SaidEntry Said Said Said Said Said
  expr_saids =
      map-Expr Delimited ItemTree Atom Expr FlatPart GeneratorTree Head Postfix RunPart Variable
      Also BlockItem CaseClause Catch Elif ElseBlock ElseClause Finally NextGenerator TypeClause
      ExprList Flat NextExpr Operand Run Said Said Said Said Said Said Said Said Said Said Said
      SaidEntry SaidEntry Said Said Said SaidElse Said Said SaidEntry Said Said Said Said Said
      said_delimited said_item said_atom said_expr said_flat_part said_generator said_head
      said_postfix said_run_part said_variable said_also said_block_item said_case_clause said_catch
      said_elif said_else_block said_else_clause said_finally said_next_generator said_type_clause
      said_expr_list said_flat said_next_expr said_operand said_run

  abbrev expr_forms : Expr-F Delimited ItemTree Atom Expr FlatPart GeneratorTree Head Postfix
      RunPart Variable Also BlockItem CaseClause Catch Elif ElseBlock ElseClause Finally
      NextGenerator TypeClause ExprList Flat NextExpr Operand Run
      → Expr-F Form Placed Form Form Form FormGenerator Opening Form Form Placed Form Placed Branch
      Catching Branch Form Form Form FormGenerator TypeBranch Listed Form Form Form Form
  expr_forms =
      map-Expr Delimited ItemTree Atom Expr FlatPart GeneratorTree Head Postfix RunPart Variable
      Also BlockItem CaseClause Catch Elif ElseBlock ElseClause Finally NextGenerator TypeClause
      ExprList Flat NextExpr Operand Run Form Placed Form Form Form FormGenerator Opening Form Form
      Placed Form Placed Branch Catching Branch Form Form Form FormGenerator TypeBranch Listed Form
      Form Form Form (formed_delimited k) (formed_item k) (formed_atom k) (formed_expr k)
      (formed_flat_part k) (formed_generator k) (formed_head k) (formed_postfix k)
      (formed_run_part k) (formed_variable k) (formed_also k) (formed_block_item k)
      (formed_case_clause k) (formed_catch k) (formed_elif k) (formed_else_block k)
      (formed_else_clause k) (formed_finally k) (formed_next_generator k) (formed_type_clause k)
      (formed_expr_list k) (formed_flat k) (formed_next_expr k) (formed_operand k) (formed_run k)

  expr_said : (l : Expr-F Delimited ItemTree Atom Expr FlatPart GeneratorTree Head Postfix RunPart
      Variable Also BlockItem CaseClause Catch Elif ElseBlock ElseClause Finally NextGenerator
      TypeClause ExprList Flat NextExpr Operand Run)
      → said_expr (roll-Expr l) ≡ expr_step (expr_saids l)
  unfolding said_delimited said_item said_atom said_expr said_flat_part said_generator said_head
      said_postfix said_run_part said_variable said_also said_block_item said_case_clause said_catch
      said_elif said_else_block said_else_clause said_finally said_next_generator said_type_clause
      said_expr_list said_flat said_next_expr said_operand said_run
  expr_said l =
      fold-roll-Expr Said Said Said Said Said Said Said Said Said Said Said SaidEntry SaidEntry Said
      Said Said SaidElse Said Said SaidEntry Said Said Said Said Said delimited_step item_step
      atom_step expr_step flat_part_step generator_step head_step postfix_step run_part_step
      variable_step also_step block_item_step case_clause_step catch_step elif_step else_block_step
      else_clause_step finally_step next_generator_step type_clause_step expr_list_step flat_step
      next_expr_step operand_step run_step l

  expr_formed : (l : Expr-F Delimited ItemTree Atom Expr FlatPart GeneratorTree Head Postfix RunPart
      Variable Also BlockItem CaseClause Catch Elif ElseBlock ElseClause Finally NextGenerator
      TypeClause ExprList Flat NextExpr Operand Run)
      → formed_expr k (roll-Expr l) ≡ form_expr (expr_forms l)
  unfolding formed_delimited formed_item formed_atom formed_expr formed_flat_part formed_generator
      formed_head formed_postfix formed_run_part formed_variable formed_also formed_block_item
      formed_case_clause formed_catch formed_elif formed_else_block formed_else_clause
      formed_finally formed_next_generator formed_type_clause formed_expr_list formed_flat
      formed_next_expr formed_operand formed_run
  expr_formed l =
      fold-roll-Expr Form Placed Form Form Form FormGenerator Opening Form Form Placed Form Placed
      Branch Catching Branch Form Form Form FormGenerator TypeBranch Listed Form Form Form Form
      form_delimited (form_item k) (form_atom k) form_expr form_flat_part form_generator
      (form_head k) form_postfix form_run_part (form_variable k) form_also form_block_item
      form_case_clause form_catch form_elif form_else_block form_else_clause form_finally
      form_next_generator (form_type_clause k) form_expr_list (form_flat k) form_next_expr
      form_operand form_run l

  expr_level : (y : Expr-F OneDelimited OneItem OneAtom OneExpr OneFlatPart OneGenerator OneHead
      OnePostfix OneRunPart OneVariable OneAlso OneBlockItem OneCaseClause OneCatch OneElif
      OneElseBlock OneElseClause OneFinally OneNextGenerator OneTypeClause OneExprList OneFlat
      OneNextExpr OneOperand OneRun) → ExprReads names (expr_saids (expr_parts y))
      → HasFigures (form_expr (expr_forms (expr_parts y)))
  expr_level (Expr-F.Flat flat) h = flat.1 h
  expr_level (Expr-F.Assign target sign None value) h =
      good-Assign _ _ _ _ (target.1 h.0) (value.1 h.2)
  expr_level (Expr-F.Assign target sign (Some head) value) h =
      good-Assign _ _ _ _ (target.1 h.0) (head.1 h.1 _ (value.1 h.2))
  expr_level (Expr-F.Open head body) h = head.1 h.0 _ (body.1 h.1)
  expr_level (Expr-F.OpenAssign head target sign value) h =
      head.1 h.0 _ (good-Assign _ _ _ _ (target.1 h.1) (value.1 h.2))

  expr_shown : (x : Expr-F Delimited ItemTree Atom Expr FlatPart GeneratorTree Head Postfix RunPart
      Variable Also BlockItem CaseClause Catch Elif ElseBlock ElseClause Finally NextGenerator
      TypeClause ExprList Flat NextExpr Operand Run)
      (y : Expr-F OneDelimited OneItem OneAtom OneExpr OneFlatPart OneGenerator OneHead OnePostfix
      OneRunPart OneVariable OneAlso OneBlockItem OneCaseClause OneCatch OneElif OneElseBlock
      OneElseClause OneFinally OneNextGenerator OneTypeClause OneExprList OneFlat OneNextExpr
      OneOperand OneRun) → expr_parts y ≡ x → IsExpr (roll-Expr x)
  expr_shown x y is =
      subst (λ x. IsExpr (roll-Expr x)) is (λ h. subst HasFigures (sym (expr_formed (expr_parts y)))
      (expr_level y
      (expr-parts names (expr_saids (expr_parts y))
      (subst (Reads names) (expr_said (expr_parts y)) h))))

  -- ---- FlatPart

  abbrev flat_part_parts : FlatPart-F OneDelimited OneItem OneAtom OneExpr OneFlatPart OneGenerator
      OneHead OnePostfix OneRunPart OneVariable OneAlso OneBlockItem OneCaseClause OneCatch OneElif
      OneElseBlock OneElseClause OneFinally OneNextGenerator OneTypeClause OneExprList OneFlat
      OneNextExpr OneOperand OneRun
      → FlatPart-F Delimited ItemTree Atom Expr FlatPart GeneratorTree Head Postfix RunPart Variable
      Also BlockItem CaseClause Catch Elif ElseBlock ElseClause Finally NextGenerator TypeClause
      ExprList Flat NextExpr Operand Run
  flat_part_parts =
      map-FlatPart OneDelimited OneItem OneAtom OneExpr OneFlatPart OneGenerator OneHead OnePostfix
      OneRunPart OneVariable OneAlso OneBlockItem OneCaseClause OneCatch OneElif OneElseBlock
      OneElseClause OneFinally OneNextGenerator OneTypeClause OneExprList OneFlat OneNextExpr
      OneOperand OneRun Delimited ItemTree Atom Expr FlatPart GeneratorTree Head Postfix RunPart
      Variable Also BlockItem CaseClause Catch Elif ElseBlock ElseClause Finally NextGenerator
      TypeClause ExprList Flat NextExpr Operand Run (λ e. e.0) (λ e. e.0) (λ e. e.0) (λ e. e.0)
      (λ e. e.0) (λ e. e.0) (λ e. e.0) (λ e. e.0) (λ e. e.0) (λ e. e.0) (λ e. e.0) (λ e. e.0)
      (λ e. e.0) (λ e. e.0) (λ e. e.0) (λ e. e.0) (λ e. e.0) (λ e. e.0) (λ e. e.0) (λ e. e.0)
      (λ e. e.0) (λ e. e.0) (λ e. e.0) (λ e. e.0) (λ e. e.0)

  abbrev flat_part_saids : FlatPart-F Delimited ItemTree Atom Expr FlatPart GeneratorTree Head
      Postfix RunPart Variable Also BlockItem CaseClause Catch Elif ElseBlock ElseClause Finally
      NextGenerator TypeClause ExprList Flat NextExpr Operand Run
      → FlatPart-F Said Said Said Said Said Said Said Said Said Said Said SaidEntry SaidEntry Said
      Said Said SaidElse Said Said SaidEntry Said Said Said Said Said
  flat_part_saids =
      map-FlatPart Delimited ItemTree Atom Expr FlatPart GeneratorTree Head Postfix RunPart Variable
      Also BlockItem CaseClause Catch Elif ElseBlock ElseClause Finally NextGenerator TypeClause
      ExprList Flat NextExpr Operand Run Said Said Said Said Said Said Said Said Said Said Said
      SaidEntry SaidEntry Said Said Said SaidElse Said Said SaidEntry Said Said Said Said Said
      said_delimited said_item said_atom said_expr said_flat_part said_generator said_head
      said_postfix said_run_part said_variable said_also said_block_item said_case_clause said_catch
      said_elif said_else_block said_else_clause said_finally said_next_generator said_type_clause
      said_expr_list said_flat said_next_expr said_operand said_run

  abbrev flat_part_forms : FlatPart-F Delimited ItemTree Atom Expr FlatPart GeneratorTree Head
      Postfix RunPart Variable Also BlockItem CaseClause Catch Elif ElseBlock ElseClause Finally
      NextGenerator TypeClause ExprList Flat NextExpr Operand Run
      → FlatPart-F Form Placed Form Form Form FormGenerator Opening Form Form Placed Form Placed
      Branch Catching Branch Form Form Form FormGenerator TypeBranch Listed Form Form Form Form
  flat_part_forms =
      map-FlatPart Delimited ItemTree Atom Expr FlatPart GeneratorTree Head Postfix RunPart Variable
      Also BlockItem CaseClause Catch Elif ElseBlock ElseClause Finally NextGenerator TypeClause
      ExprList Flat NextExpr Operand Run Form Placed Form Form Form FormGenerator Opening Form Form
      Placed Form Placed Branch Catching Branch Form Form Form FormGenerator TypeBranch Listed Form
      Form Form Form (formed_delimited k) (formed_item k) (formed_atom k) (formed_expr k)
      (formed_flat_part k) (formed_generator k) (formed_head k) (formed_postfix k)
      (formed_run_part k) (formed_variable k) (formed_also k) (formed_block_item k)
      (formed_case_clause k) (formed_catch k) (formed_elif k) (formed_else_block k)
      (formed_else_clause k) (formed_finally k) (formed_next_generator k) (formed_type_clause k)
      (formed_expr_list k) (formed_flat k) (formed_next_expr k) (formed_operand k) (formed_run k)

  flat_part_said : (l : FlatPart-F Delimited ItemTree Atom Expr FlatPart GeneratorTree Head Postfix
      RunPart Variable Also BlockItem CaseClause Catch Elif ElseBlock ElseClause Finally
      NextGenerator TypeClause ExprList Flat NextExpr Operand Run)
      → said_flat_part (roll-FlatPart l) ≡ flat_part_step (flat_part_saids l)
  unfolding said_delimited said_item said_atom said_expr said_flat_part said_generator said_head
      said_postfix said_run_part said_variable said_also said_block_item said_case_clause said_catch
      said_elif said_else_block said_else_clause said_finally said_next_generator said_type_clause
      said_expr_list said_flat said_next_expr said_operand said_run
  flat_part_said l =
      fold-roll-FlatPart Said Said Said Said Said Said Said Said Said Said Said SaidEntry SaidEntry
      Said Said Said SaidElse Said Said SaidEntry Said Said Said Said Said delimited_step item_step
      atom_step expr_step flat_part_step generator_step head_step postfix_step run_part_step
      variable_step also_step block_item_step case_clause_step catch_step elif_step else_block_step
      else_clause_step finally_step next_generator_step type_clause_step expr_list_step flat_step
      next_expr_step operand_step run_step l

  flat_part_formed : (l : FlatPart-F Delimited ItemTree Atom Expr FlatPart GeneratorTree Head
      Postfix RunPart Variable Also BlockItem CaseClause Catch Elif ElseBlock ElseClause Finally
      NextGenerator TypeClause ExprList Flat NextExpr Operand Run)
      → formed_flat_part k (roll-FlatPart l) ≡ form_flat_part (flat_part_forms l)
  unfolding formed_delimited formed_item formed_atom formed_expr formed_flat_part formed_generator
      formed_head formed_postfix formed_run_part formed_variable formed_also formed_block_item
      formed_case_clause formed_catch formed_elif formed_else_block formed_else_clause
      formed_finally formed_next_generator formed_type_clause formed_expr_list formed_flat
      formed_next_expr formed_operand formed_run
  flat_part_formed l =
      fold-roll-FlatPart Form Placed Form Form Form FormGenerator Opening Form Form Placed Form
      Placed Branch Catching Branch Form Form Form FormGenerator TypeBranch Listed Form Form Form
      Form form_delimited (form_item k) (form_atom k) form_expr form_flat_part form_generator
      (form_head k) form_postfix form_run_part (form_variable k) form_also form_block_item
      form_case_clause form_catch form_elif form_else_block form_else_clause form_finally
      form_next_generator (form_type_clause k) form_expr_list (form_flat k) form_next_expr
      form_operand form_run l

  flat_part_level : (y : FlatPart-F OneDelimited OneItem OneAtom OneExpr OneFlatPart OneGenerator
      OneHead OnePostfix OneRunPart OneVariable OneAlso OneBlockItem OneCaseClause OneCatch
      OneElif OneElseBlock OneElseClause OneFinally OneNextGenerator OneTypeClause OneExprList
      OneFlat OneNextExpr OneOperand OneRun)
      → FlatPartReads names (flat_part_saids (flat_part_parts y))
      → HasFigures (form_flat_part (flat_part_forms (flat_part_parts y)))
  flat_part_level (FlatPart-F.Run run) h = run.1 h
  flat_part_level (FlatPart-F.Infix sign operand) h = operand.1 h

  flat_part_shown : (x : FlatPart-F Delimited ItemTree Atom Expr FlatPart GeneratorTree Head Postfix
      RunPart Variable Also BlockItem CaseClause Catch Elif ElseBlock ElseClause Finally
      NextGenerator TypeClause ExprList Flat NextExpr Operand Run)
      (y : FlatPart-F OneDelimited OneItem OneAtom OneExpr OneFlatPart OneGenerator OneHead
      OnePostfix OneRunPart OneVariable OneAlso OneBlockItem OneCaseClause OneCatch OneElif
      OneElseBlock OneElseClause OneFinally OneNextGenerator OneTypeClause OneExprList OneFlat
      OneNextExpr OneOperand OneRun) → flat_part_parts y ≡ x → IsFlatPart (roll-FlatPart x)
  flat_part_shown x y is =
      subst (λ x. IsFlatPart (roll-FlatPart x)) is
      (λ h. subst HasFigures (sym (flat_part_formed (flat_part_parts y)))
      (flat_part_level y
      (flat-part-parts names (flat_part_saids (flat_part_parts y))
      (subst (Reads names) (flat_part_said (flat_part_parts y)) h))))

  -- ---- Generator

  abbrev generator_parts : Generator-F OneDelimited OneItem OneAtom OneExpr OneFlatPart OneGenerator
      OneHead OnePostfix OneRunPart OneVariable OneAlso OneBlockItem OneCaseClause OneCatch OneElif
      OneElseBlock OneElseClause OneFinally OneNextGenerator OneTypeClause OneExprList OneFlat
      OneNextExpr OneOperand OneRun
      → Generator-F Delimited ItemTree Atom Expr FlatPart GeneratorTree Head Postfix RunPart
      Variable Also BlockItem CaseClause Catch Elif ElseBlock ElseClause Finally NextGenerator
      TypeClause ExprList Flat NextExpr Operand Run
  generator_parts =
      map-Generator OneDelimited OneItem OneAtom OneExpr OneFlatPart OneGenerator OneHead OnePostfix
      OneRunPart OneVariable OneAlso OneBlockItem OneCaseClause OneCatch OneElif OneElseBlock
      OneElseClause OneFinally OneNextGenerator OneTypeClause OneExprList OneFlat OneNextExpr
      OneOperand OneRun Delimited ItemTree Atom Expr FlatPart GeneratorTree Head Postfix RunPart
      Variable Also BlockItem CaseClause Catch Elif ElseBlock ElseClause Finally NextGenerator
      TypeClause ExprList Flat NextExpr Operand Run (λ e. e.0) (λ e. e.0) (λ e. e.0) (λ e. e.0)
      (λ e. e.0) (λ e. e.0) (λ e. e.0) (λ e. e.0) (λ e. e.0) (λ e. e.0) (λ e. e.0) (λ e. e.0)
      (λ e. e.0) (λ e. e.0) (λ e. e.0) (λ e. e.0) (λ e. e.0) (λ e. e.0) (λ e. e.0) (λ e. e.0)
      (λ e. e.0) (λ e. e.0) (λ e. e.0) (λ e. e.0) (λ e. e.0)

  abbrev generator_saids : Generator-F Delimited ItemTree Atom Expr FlatPart GeneratorTree Head
      Postfix RunPart Variable Also BlockItem CaseClause Catch Elif ElseBlock ElseClause Finally
      NextGenerator TypeClause ExprList Flat NextExpr Operand Run
      → Generator-F Said Said Said Said Said Said Said Said Said Said Said SaidEntry SaidEntry Said
      Said Said SaidElse Said Said SaidEntry Said Said Said Said Said
  generator_saids =
      map-Generator Delimited ItemTree Atom Expr FlatPart GeneratorTree Head Postfix RunPart
      Variable Also BlockItem CaseClause Catch Elif ElseBlock ElseClause Finally NextGenerator
      TypeClause ExprList Flat NextExpr Operand Run Said Said Said Said Said Said Said Said Said
      Said Said SaidEntry SaidEntry Said Said Said SaidElse Said Said SaidEntry Said Said Said Said
      Said said_delimited said_item said_atom said_expr said_flat_part said_generator said_head
      said_postfix said_run_part said_variable said_also said_block_item said_case_clause said_catch
      said_elif said_else_block said_else_clause said_finally said_next_generator said_type_clause
      said_expr_list said_flat said_next_expr said_operand said_run

  abbrev generator_forms : Generator-F Delimited ItemTree Atom Expr FlatPart GeneratorTree Head
      Postfix RunPart Variable Also BlockItem CaseClause Catch Elif ElseBlock ElseClause Finally
      NextGenerator TypeClause ExprList Flat NextExpr Operand Run
      → Generator-F Form Placed Form Form Form FormGenerator Opening Form Form Placed Form Placed
      Branch Catching Branch Form Form Form FormGenerator TypeBranch Listed Form Form Form Form
  generator_forms =
      map-Generator Delimited ItemTree Atom Expr FlatPart GeneratorTree Head Postfix RunPart
      Variable Also BlockItem CaseClause Catch Elif ElseBlock ElseClause Finally NextGenerator
      TypeClause ExprList Flat NextExpr Operand Run Form Placed Form Form Form FormGenerator Opening
      Form Form Placed Form Placed Branch Catching Branch Form Form Form FormGenerator TypeBranch
      Listed Form Form Form Form (formed_delimited k) (formed_item k) (formed_atom k)
      (formed_expr k) (formed_flat_part k) (formed_generator k) (formed_head k) (formed_postfix k)
      (formed_run_part k) (formed_variable k) (formed_also k) (formed_block_item k)
      (formed_case_clause k) (formed_catch k) (formed_elif k) (formed_else_block k)
      (formed_else_clause k) (formed_finally k) (formed_next_generator k) (formed_type_clause k)
      (formed_expr_list k) (formed_flat k) (formed_next_expr k) (formed_operand k) (formed_run k)

  generator_said : (l : Generator-F Delimited ItemTree Atom Expr FlatPart GeneratorTree Head Postfix
      RunPart Variable Also BlockItem CaseClause Catch Elif ElseBlock ElseClause Finally
      NextGenerator TypeClause ExprList Flat NextExpr Operand Run)
      → said_generator (roll-Generator l) ≡ generator_step (generator_saids l)
  unfolding said_delimited said_item said_atom said_expr said_flat_part said_generator said_head
      said_postfix said_run_part said_variable said_also said_block_item said_case_clause said_catch
      said_elif said_else_block said_else_clause said_finally said_next_generator said_type_clause
      said_expr_list said_flat said_next_expr said_operand said_run
  generator_said l =
      fold-roll-Generator Said Said Said Said Said Said Said Said Said Said Said SaidEntry SaidEntry
      Said Said Said SaidElse Said Said SaidEntry Said Said Said Said Said delimited_step item_step
      atom_step expr_step flat_part_step generator_step head_step postfix_step run_part_step
      variable_step also_step block_item_step case_clause_step catch_step elif_step else_block_step
      else_clause_step finally_step next_generator_step type_clause_step expr_list_step flat_step
      next_expr_step operand_step run_step l

  generator_formed : (l : Generator-F Delimited ItemTree Atom Expr FlatPart GeneratorTree Head
      Postfix RunPart Variable Also BlockItem CaseClause Catch Elif ElseBlock ElseClause Finally
      NextGenerator TypeClause ExprList Flat NextExpr Operand Run)
      → formed_generator k (roll-Generator l) ≡ form_generator (generator_forms l)
  unfolding formed_delimited formed_item formed_atom formed_expr formed_flat_part formed_generator
      formed_head formed_postfix formed_run_part formed_variable formed_also formed_block_item
      formed_case_clause formed_catch formed_elif formed_else_block formed_else_clause
      formed_finally formed_next_generator formed_type_clause formed_expr_list formed_flat
      formed_next_expr formed_operand formed_run
  generator_formed l =
      fold-roll-Generator Form Placed Form Form Form FormGenerator Opening Form Form Placed Form
      Placed Branch Catching Branch Form Form Form FormGenerator TypeBranch Listed Form Form Form
      Form form_delimited (form_item k) (form_atom k) form_expr form_flat_part form_generator
      (form_head k) form_postfix form_run_part (form_variable k) form_also form_block_item
      form_case_clause form_catch form_elif form_else_block form_else_clause form_finally
      form_next_generator (form_type_clause k) form_expr_list (form_flat k) form_next_expr
      form_operand form_run l

  generator_level : (y : Generator-F OneDelimited OneItem OneAtom OneExpr OneFlatPart OneGenerator
      OneHead OnePostfix OneRunPart OneVariable OneAlso OneBlockItem OneCaseClause OneCatch
      OneElif OneElseBlock OneElseClause OneFinally OneNextGenerator OneTypeClause OneExprList
      OneFlat OneNextExpr OneOperand OneRun)
      → GeneratorReads names (generator_saids (generator_parts y))
      → GoodGenerator (form_generator (generator_forms (generator_parts y)))
  generator_level (Generator-F.Parallel name arrow source) h = good-generator _ _ _ _ (source.1 h)
  generator_level (Generator-F.Sequential name arrow seq left source right) h =
      good-generator _ _ _ _ (source.1 h)

  generator_shown : (x : Generator-F Delimited ItemTree Atom Expr FlatPart GeneratorTree Head
      Postfix RunPart Variable Also BlockItem CaseClause Catch Elif ElseBlock ElseClause Finally
      NextGenerator TypeClause ExprList Flat NextExpr Operand Run)
      (y : Generator-F OneDelimited OneItem OneAtom OneExpr OneFlatPart OneGenerator OneHead
      OnePostfix OneRunPart OneVariable OneAlso OneBlockItem OneCaseClause OneCatch OneElif
      OneElseBlock OneElseClause OneFinally OneNextGenerator OneTypeClause OneExprList OneFlat
      OneNextExpr OneOperand OneRun) → generator_parts y ≡ x → IsGenerator (roll-Generator x)
  generator_shown x y is =
      subst (λ x. IsGenerator (roll-Generator x)) is
      (λ h. subst GoodGenerator (sym (generator_formed (generator_parts y)))
      (generator_level y
      (generator-parts names (generator_saids (generator_parts y))
      (subst (Reads names) (generator_said (generator_parts y)) h))))

  -- ---- Head

  abbrev head_parts : Head-F OneDelimited OneItem OneAtom OneExpr OneFlatPart OneGenerator OneHead
      OnePostfix OneRunPart OneVariable OneAlso OneBlockItem OneCaseClause OneCatch OneElif
      OneElseBlock OneElseClause OneFinally OneNextGenerator OneTypeClause OneExprList OneFlat
      OneNextExpr OneOperand OneRun
      → Head-F Delimited ItemTree Atom Expr FlatPart GeneratorTree Head Postfix RunPart Variable
      Also BlockItem CaseClause Catch Elif ElseBlock ElseClause Finally NextGenerator TypeClause
      ExprList Flat NextExpr Operand Run
  head_parts =
      map-Head OneDelimited OneItem OneAtom OneExpr OneFlatPart OneGenerator OneHead OnePostfix
      OneRunPart OneVariable OneAlso OneBlockItem OneCaseClause OneCatch OneElif OneElseBlock
      OneElseClause OneFinally OneNextGenerator OneTypeClause OneExprList OneFlat OneNextExpr
      OneOperand OneRun Delimited ItemTree Atom Expr FlatPart GeneratorTree Head Postfix RunPart
      Variable Also BlockItem CaseClause Catch Elif ElseBlock ElseClause Finally NextGenerator
      TypeClause ExprList Flat NextExpr Operand Run (λ e. e.0) (λ e. e.0) (λ e. e.0) (λ e. e.0)
      (λ e. e.0) (λ e. e.0) (λ e. e.0) (λ e. e.0) (λ e. e.0) (λ e. e.0) (λ e. e.0) (λ e. e.0)
      (λ e. e.0) (λ e. e.0) (λ e. e.0) (λ e. e.0) (λ e. e.0) (λ e. e.0) (λ e. e.0) (λ e. e.0)
      (λ e. e.0) (λ e. e.0) (λ e. e.0) (λ e. e.0) (λ e. e.0)

  abbrev head_saids : Head-F Delimited ItemTree Atom Expr FlatPart GeneratorTree Head Postfix
      RunPart Variable Also BlockItem CaseClause Catch Elif ElseBlock ElseClause Finally
      NextGenerator TypeClause ExprList Flat NextExpr Operand Run
      → Head-F Said Said Said Said Said Said Said Said Said Said Said SaidEntry SaidEntry Said Said
      Said SaidElse Said Said SaidEntry Said Said Said Said Said
  head_saids =
      map-Head Delimited ItemTree Atom Expr FlatPart GeneratorTree Head Postfix RunPart Variable
      Also BlockItem CaseClause Catch Elif ElseBlock ElseClause Finally NextGenerator TypeClause
      ExprList Flat NextExpr Operand Run Said Said Said Said Said Said Said Said Said Said Said
      SaidEntry SaidEntry Said Said Said SaidElse Said Said SaidEntry Said Said Said Said Said
      said_delimited said_item said_atom said_expr said_flat_part said_generator said_head
      said_postfix said_run_part said_variable said_also said_block_item said_case_clause said_catch
      said_elif said_else_block said_else_clause said_finally said_next_generator said_type_clause
      said_expr_list said_flat said_next_expr said_operand said_run

  abbrev head_forms : Head-F Delimited ItemTree Atom Expr FlatPart GeneratorTree Head Postfix
      RunPart Variable Also BlockItem CaseClause Catch Elif ElseBlock ElseClause Finally
      NextGenerator TypeClause ExprList Flat NextExpr Operand Run
      → Head-F Form Placed Form Form Form FormGenerator Opening Form Form Placed Form Placed Branch
      Catching Branch Form Form Form FormGenerator TypeBranch Listed Form Form Form Form
  head_forms =
      map-Head Delimited ItemTree Atom Expr FlatPart GeneratorTree Head Postfix RunPart Variable
      Also BlockItem CaseClause Catch Elif ElseBlock ElseClause Finally NextGenerator TypeClause
      ExprList Flat NextExpr Operand Run Form Placed Form Form Form FormGenerator Opening Form Form
      Placed Form Placed Branch Catching Branch Form Form Form FormGenerator TypeBranch Listed Form
      Form Form Form (formed_delimited k) (formed_item k) (formed_atom k) (formed_expr k)
      (formed_flat_part k) (formed_generator k) (formed_head k) (formed_postfix k)
      (formed_run_part k) (formed_variable k) (formed_also k) (formed_block_item k)
      (formed_case_clause k) (formed_catch k) (formed_elif k) (formed_else_block k)
      (formed_else_clause k) (formed_finally k) (formed_next_generator k) (formed_type_clause k)
      (formed_expr_list k) (formed_flat k) (formed_next_expr k) (formed_operand k) (formed_run k)

  head_said : (l : Head-F Delimited ItemTree Atom Expr FlatPart GeneratorTree Head Postfix RunPart
      Variable Also BlockItem CaseClause Catch Elif ElseBlock ElseClause Finally NextGenerator
      TypeClause ExprList Flat NextExpr Operand Run)
      → said_head (roll-Head l) ≡ head_step (head_saids l)
  unfolding said_delimited said_item said_atom said_expr said_flat_part said_generator said_head
      said_postfix said_run_part said_variable said_also said_block_item said_case_clause said_catch
      said_elif said_else_block said_else_clause said_finally said_next_generator said_type_clause
      said_expr_list said_flat said_next_expr said_operand said_run
  head_said l =
      fold-roll-Head Said Said Said Said Said Said Said Said Said Said Said SaidEntry SaidEntry Said
      Said Said SaidElse Said Said SaidEntry Said Said Said Said Said delimited_step item_step
      atom_step expr_step flat_part_step generator_step head_step postfix_step run_part_step
      variable_step also_step block_item_step case_clause_step catch_step elif_step else_block_step
      else_clause_step finally_step next_generator_step type_clause_step expr_list_step flat_step
      next_expr_step operand_step run_step l

  head_formed : (l : Head-F Delimited ItemTree Atom Expr FlatPart GeneratorTree Head Postfix RunPart
      Variable Also BlockItem CaseClause Catch Elif ElseBlock ElseClause Finally NextGenerator
      TypeClause ExprList Flat NextExpr Operand Run)
      → formed_head k (roll-Head l) ≡ form_head k (head_forms l)
  unfolding formed_delimited formed_item formed_atom formed_expr formed_flat_part formed_generator
      formed_head formed_postfix formed_run_part formed_variable formed_also formed_block_item
      formed_case_clause formed_catch formed_elif formed_else_block formed_else_clause
      formed_finally formed_next_generator formed_type_clause formed_expr_list formed_flat
      formed_next_expr formed_operand formed_run
  head_formed l =
      fold-roll-Head Form Placed Form Form Form FormGenerator Opening Form Form Placed Form Placed
      Branch Catching Branch Form Form Form FormGenerator TypeBranch Listed Form Form Form Form
      form_delimited (form_item k) (form_atom k) form_expr form_flat_part form_generator
      (form_head k) form_postfix form_run_part (form_variable k) form_also form_block_item
      form_case_clause form_catch form_elif form_else_block form_else_clause form_finally
      form_next_generator (form_type_clause k) form_expr_list (form_flat k) form_next_expr
      form_operand form_run l

  head_level : (y : Head-F OneDelimited OneItem OneAtom OneExpr OneFlatPart OneGenerator OneHead
      OnePostfix OneRunPart OneVariable OneAlso OneBlockItem OneCaseClause OneCatch OneElif
      OneElseBlock OneElseClause OneFinally OneNextGenerator OneTypeClause OneExprList OneFlat
      OneNextExpr OneOperand OneRun) → HeadReads names (head_saids (head_parts y))
      → GoodOpening (form_head k (head_forms (head_parts y)))
  head_level (Head-F.Atomic s) h = λ body g. good-Atomic _ body g
  head_level (Head-F.Tryatomic s) h = λ body g. good-Tryatomic _ body g
  head_level (Head-F.Throw s) h = λ body g. good-Throw _ body g
  head_level (Head-F.Spawn s) h = λ body g. good-Spawn _ _ body g
  head_level (Head-F.Fn s left list right arrow) h = λ body g. good-Fn _ _ body g
  head_level (Head-F.Big big left generator right) h =
      λ body g. good-Reduce _ _ _ body (generator.1 h) g

  head_shown : (x : Head-F Delimited ItemTree Atom Expr FlatPart GeneratorTree Head Postfix RunPart
      Variable Also BlockItem CaseClause Catch Elif ElseBlock ElseClause Finally NextGenerator
      TypeClause ExprList Flat NextExpr Operand Run)
      (y : Head-F OneDelimited OneItem OneAtom OneExpr OneFlatPart OneGenerator OneHead OnePostfix
      OneRunPart OneVariable OneAlso OneBlockItem OneCaseClause OneCatch OneElif OneElseBlock
      OneElseClause OneFinally OneNextGenerator OneTypeClause OneExprList OneFlat OneNextExpr
      OneOperand OneRun) → head_parts y ≡ x → IsHead (roll-Head x)
  head_shown x y is =
      subst (λ x. IsHead (roll-Head x)) is
      (λ h. subst GoodOpening (sym (head_formed (head_parts y)))
      (head_level y
      (head-parts names (head_saids (head_parts y))
      (subst (Reads names) (head_said (head_parts y)) h))))

  -- ---- Postfix

  abbrev postfix_parts : Postfix-F OneDelimited OneItem OneAtom OneExpr OneFlatPart OneGenerator
      OneHead OnePostfix OneRunPart OneVariable OneAlso OneBlockItem OneCaseClause OneCatch OneElif
      OneElseBlock OneElseClause OneFinally OneNextGenerator OneTypeClause OneExprList OneFlat
      OneNextExpr OneOperand OneRun
      → Postfix-F Delimited ItemTree Atom Expr FlatPart GeneratorTree Head Postfix RunPart Variable
      Also BlockItem CaseClause Catch Elif ElseBlock ElseClause Finally NextGenerator TypeClause
      ExprList Flat NextExpr Operand Run
  postfix_parts =
      map-Postfix OneDelimited OneItem OneAtom OneExpr OneFlatPart OneGenerator OneHead OnePostfix
      OneRunPart OneVariable OneAlso OneBlockItem OneCaseClause OneCatch OneElif OneElseBlock
      OneElseClause OneFinally OneNextGenerator OneTypeClause OneExprList OneFlat OneNextExpr
      OneOperand OneRun Delimited ItemTree Atom Expr FlatPart GeneratorTree Head Postfix RunPart
      Variable Also BlockItem CaseClause Catch Elif ElseBlock ElseClause Finally NextGenerator
      TypeClause ExprList Flat NextExpr Operand Run (λ e. e.0) (λ e. e.0) (λ e. e.0) (λ e. e.0)
      (λ e. e.0) (λ e. e.0) (λ e. e.0) (λ e. e.0) (λ e. e.0) (λ e. e.0) (λ e. e.0) (λ e. e.0)
      (λ e. e.0) (λ e. e.0) (λ e. e.0) (λ e. e.0) (λ e. e.0) (λ e. e.0) (λ e. e.0) (λ e. e.0)
      (λ e. e.0) (λ e. e.0) (λ e. e.0) (λ e. e.0) (λ e. e.0)

  abbrev postfix_saids : Postfix-F Delimited ItemTree Atom Expr FlatPart GeneratorTree Head Postfix
      RunPart Variable Also BlockItem CaseClause Catch Elif ElseBlock ElseClause Finally
      NextGenerator TypeClause ExprList Flat NextExpr Operand Run
      → Postfix-F Said Said Said Said Said Said Said Said Said Said Said SaidEntry SaidEntry Said
      Said Said SaidElse Said Said SaidEntry Said Said Said Said Said
  postfix_saids =
      map-Postfix Delimited ItemTree Atom Expr FlatPart GeneratorTree Head Postfix RunPart Variable
      Also BlockItem CaseClause Catch Elif ElseBlock ElseClause Finally NextGenerator TypeClause
      ExprList Flat NextExpr Operand Run Said Said Said Said Said Said Said Said Said Said Said
      SaidEntry SaidEntry Said Said Said SaidElse Said Said SaidEntry Said Said Said Said Said
      said_delimited said_item said_atom said_expr said_flat_part said_generator said_head
      said_postfix said_run_part said_variable said_also said_block_item said_case_clause said_catch
      said_elif said_else_block said_else_clause said_finally said_next_generator said_type_clause
      said_expr_list said_flat said_next_expr said_operand said_run

  abbrev postfix_forms : Postfix-F Delimited ItemTree Atom Expr FlatPart GeneratorTree Head Postfix
      RunPart Variable Also BlockItem CaseClause Catch Elif ElseBlock ElseClause Finally
      NextGenerator TypeClause ExprList Flat NextExpr Operand Run
      → Postfix-F Form Placed Form Form Form FormGenerator Opening Form Form Placed Form Placed
      Branch Catching Branch Form Form Form FormGenerator TypeBranch Listed Form Form Form Form
  postfix_forms =
      map-Postfix Delimited ItemTree Atom Expr FlatPart GeneratorTree Head Postfix RunPart Variable
      Also BlockItem CaseClause Catch Elif ElseBlock ElseClause Finally NextGenerator TypeClause
      ExprList Flat NextExpr Operand Run Form Placed Form Form Form FormGenerator Opening Form Form
      Placed Form Placed Branch Catching Branch Form Form Form FormGenerator TypeBranch Listed Form
      Form Form Form (formed_delimited k) (formed_item k) (formed_atom k) (formed_expr k)
      (formed_flat_part k) (formed_generator k) (formed_head k) (formed_postfix k)
      (formed_run_part k) (formed_variable k) (formed_also k) (formed_block_item k)
      (formed_case_clause k) (formed_catch k) (formed_elif k) (formed_else_block k)
      (formed_else_clause k) (formed_finally k) (formed_next_generator k) (formed_type_clause k)
      (formed_expr_list k) (formed_flat k) (formed_next_expr k) (formed_operand k) (formed_run k)

  postfix_said : (l : Postfix-F Delimited ItemTree Atom Expr FlatPart GeneratorTree Head Postfix
      RunPart Variable Also BlockItem CaseClause Catch Elif ElseBlock ElseClause Finally
      NextGenerator TypeClause ExprList Flat NextExpr Operand Run)
      → said_postfix (roll-Postfix l) ≡ postfix_step (postfix_saids l)
  unfolding said_delimited said_item said_atom said_expr said_flat_part said_generator said_head
      said_postfix said_run_part said_variable said_also said_block_item said_case_clause said_catch
      said_elif said_else_block said_else_clause said_finally said_next_generator said_type_clause
      said_expr_list said_flat said_next_expr said_operand said_run
  postfix_said l =
      fold-roll-Postfix Said Said Said Said Said Said Said Said Said Said Said SaidEntry SaidEntry
      Said Said Said SaidElse Said Said SaidEntry Said Said Said Said Said delimited_step item_step
      atom_step expr_step flat_part_step generator_step head_step postfix_step run_part_step
      variable_step also_step block_item_step case_clause_step catch_step elif_step else_block_step
      else_clause_step finally_step next_generator_step type_clause_step expr_list_step flat_step
      next_expr_step operand_step run_step l

  postfix_formed : (l : Postfix-F Delimited ItemTree Atom Expr FlatPart GeneratorTree Head Postfix
      RunPart Variable Also BlockItem CaseClause Catch Elif ElseBlock ElseClause Finally
      NextGenerator TypeClause ExprList Flat NextExpr Operand Run)
      → formed_postfix k (roll-Postfix l) ≡ form_postfix (postfix_forms l)
  unfolding formed_delimited formed_item formed_atom formed_expr formed_flat_part formed_generator
      formed_head formed_postfix formed_run_part formed_variable formed_also formed_block_item
      formed_case_clause formed_catch formed_elif formed_else_block formed_else_clause
      formed_finally formed_next_generator formed_type_clause formed_expr_list formed_flat
      formed_next_expr formed_operand formed_run
  postfix_formed l =
      fold-roll-Postfix Form Placed Form Form Form FormGenerator Opening Form Form Placed Form
      Placed Branch Catching Branch Form Form Form FormGenerator TypeBranch Listed Form Form Form
      Form form_delimited (form_item k) (form_atom k) form_expr form_flat_part form_generator
      (form_head k) form_postfix form_run_part (form_variable k) form_also form_block_item
      form_case_clause form_catch form_elif form_else_block form_else_clause form_finally
      form_next_generator (form_type_clause k) form_expr_list (form_flat k) form_next_expr
      form_operand form_run l

  postfix_level : (y : Postfix-F OneDelimited OneItem OneAtom OneExpr OneFlatPart OneGenerator
      OneHead OnePostfix OneRunPart OneVariable OneAlso OneBlockItem OneCaseClause OneCatch
      OneElif OneElseBlock OneElseClause OneFinally OneNextGenerator OneTypeClause OneExprList
      OneFlat OneNextExpr OneOperand OneRun)
      → PostfixReads names (postfix_saids (postfix_parts y))
      → HasFigures (form_postfix (postfix_forms (postfix_parts y)))
  postfix_level (Postfix-F.Subscript left index right) h = good-Subscript _ _ (index.1 h)
  postfix_level (Postfix-F.Power power exponent) h = good-Power _ _ (exponent.1 h)
  postfix_level (Postfix-F.Field dot name) h = good-Field _ _ _
  postfix_level (Postfix-F.Call dot name left None right) h = good-Method _ _ _ [] tt
  postfix_level (Postfix-F.Call dot name left (Some c) right) h = good-Method _ _ _ _ (c.1 h)

  postfix_shown : (x : Postfix-F Delimited ItemTree Atom Expr FlatPart GeneratorTree Head Postfix
      RunPart Variable Also BlockItem CaseClause Catch Elif ElseBlock ElseClause Finally
      NextGenerator TypeClause ExprList Flat NextExpr Operand Run)
      (y : Postfix-F OneDelimited OneItem OneAtom OneExpr OneFlatPart OneGenerator OneHead
      OnePostfix OneRunPart OneVariable OneAlso OneBlockItem OneCaseClause OneCatch OneElif
      OneElseBlock OneElseClause OneFinally OneNextGenerator OneTypeClause OneExprList OneFlat
      OneNextExpr OneOperand OneRun) → postfix_parts y ≡ x → IsPostfix (roll-Postfix x)
  postfix_shown x y is =
      subst (λ x. IsPostfix (roll-Postfix x)) is
      (λ h. subst HasFigures (sym (postfix_formed (postfix_parts y)))
      (postfix_level y
      (postfix-parts names (postfix_saids (postfix_parts y))
      (subst (Reads names) (postfix_said (postfix_parts y)) h))))

  -- ---- RunPart

  abbrev run_part_parts : RunPart-F OneDelimited OneItem OneAtom OneExpr OneFlatPart OneGenerator
      OneHead OnePostfix OneRunPart OneVariable OneAlso OneBlockItem OneCaseClause OneCatch OneElif
      OneElseBlock OneElseClause OneFinally OneNextGenerator OneTypeClause OneExprList OneFlat
      OneNextExpr OneOperand OneRun
      → RunPart-F Delimited ItemTree Atom Expr FlatPart GeneratorTree Head Postfix RunPart Variable
      Also BlockItem CaseClause Catch Elif ElseBlock ElseClause Finally NextGenerator TypeClause
      ExprList Flat NextExpr Operand Run
  run_part_parts =
      map-RunPart OneDelimited OneItem OneAtom OneExpr OneFlatPart OneGenerator OneHead OnePostfix
      OneRunPart OneVariable OneAlso OneBlockItem OneCaseClause OneCatch OneElif OneElseBlock
      OneElseClause OneFinally OneNextGenerator OneTypeClause OneExprList OneFlat OneNextExpr
      OneOperand OneRun Delimited ItemTree Atom Expr FlatPart GeneratorTree Head Postfix RunPart
      Variable Also BlockItem CaseClause Catch Elif ElseBlock ElseClause Finally NextGenerator
      TypeClause ExprList Flat NextExpr Operand Run (λ e. e.0) (λ e. e.0) (λ e. e.0) (λ e. e.0)
      (λ e. e.0) (λ e. e.0) (λ e. e.0) (λ e. e.0) (λ e. e.0) (λ e. e.0) (λ e. e.0) (λ e. e.0)
      (λ e. e.0) (λ e. e.0) (λ e. e.0) (λ e. e.0) (λ e. e.0) (λ e. e.0) (λ e. e.0) (λ e. e.0)
      (λ e. e.0) (λ e. e.0) (λ e. e.0) (λ e. e.0) (λ e. e.0)

  abbrev run_part_saids : RunPart-F Delimited ItemTree Atom Expr FlatPart GeneratorTree Head Postfix
      RunPart Variable Also BlockItem CaseClause Catch Elif ElseBlock ElseClause Finally
      NextGenerator TypeClause ExprList Flat NextExpr Operand Run
      → RunPart-F Said Said Said Said Said Said Said Said Said Said Said SaidEntry SaidEntry Said
      Said Said SaidElse Said Said SaidEntry Said Said Said Said Said
  run_part_saids =
      map-RunPart Delimited ItemTree Atom Expr FlatPart GeneratorTree Head Postfix RunPart Variable
      Also BlockItem CaseClause Catch Elif ElseBlock ElseClause Finally NextGenerator TypeClause
      ExprList Flat NextExpr Operand Run Said Said Said Said Said Said Said Said Said Said Said
      SaidEntry SaidEntry Said Said Said SaidElse Said Said SaidEntry Said Said Said Said Said
      said_delimited said_item said_atom said_expr said_flat_part said_generator said_head
      said_postfix said_run_part said_variable said_also said_block_item said_case_clause said_catch
      said_elif said_else_block said_else_clause said_finally said_next_generator said_type_clause
      said_expr_list said_flat said_next_expr said_operand said_run

  abbrev run_part_forms : RunPart-F Delimited ItemTree Atom Expr FlatPart GeneratorTree Head Postfix
      RunPart Variable Also BlockItem CaseClause Catch Elif ElseBlock ElseClause Finally
      NextGenerator TypeClause ExprList Flat NextExpr Operand Run
      → RunPart-F Form Placed Form Form Form FormGenerator Opening Form Form Placed Form Placed
      Branch Catching Branch Form Form Form FormGenerator TypeBranch Listed Form Form Form Form
  run_part_forms =
      map-RunPart Delimited ItemTree Atom Expr FlatPart GeneratorTree Head Postfix RunPart Variable
      Also BlockItem CaseClause Catch Elif ElseBlock ElseClause Finally NextGenerator TypeClause
      ExprList Flat NextExpr Operand Run Form Placed Form Form Form FormGenerator Opening Form Form
      Placed Form Placed Branch Catching Branch Form Form Form FormGenerator TypeBranch Listed Form
      Form Form Form (formed_delimited k) (formed_item k) (formed_atom k) (formed_expr k)
      (formed_flat_part k) (formed_generator k) (formed_head k) (formed_postfix k)
      (formed_run_part k) (formed_variable k) (formed_also k) (formed_block_item k)
      (formed_case_clause k) (formed_catch k) (formed_elif k) (formed_else_block k)
      (formed_else_clause k) (formed_finally k) (formed_next_generator k) (formed_type_clause k)
      (formed_expr_list k) (formed_flat k) (formed_next_expr k) (formed_operand k) (formed_run k)

  run_part_said : (l : RunPart-F Delimited ItemTree Atom Expr FlatPart GeneratorTree Head Postfix
      RunPart Variable Also BlockItem CaseClause Catch Elif ElseBlock ElseClause Finally
      NextGenerator TypeClause ExprList Flat NextExpr Operand Run)
      → said_run_part (roll-RunPart l) ≡ run_part_step (run_part_saids l)
  unfolding said_delimited said_item said_atom said_expr said_flat_part said_generator said_head
      said_postfix said_run_part said_variable said_also said_block_item said_case_clause said_catch
      said_elif said_else_block said_else_clause said_finally said_next_generator said_type_clause
      said_expr_list said_flat said_next_expr said_operand said_run
  run_part_said l =
      fold-roll-RunPart Said Said Said Said Said Said Said Said Said Said Said SaidEntry SaidEntry
      Said Said Said SaidElse Said Said SaidEntry Said Said Said Said Said delimited_step item_step
      atom_step expr_step flat_part_step generator_step head_step postfix_step run_part_step
      variable_step also_step block_item_step case_clause_step catch_step elif_step else_block_step
      else_clause_step finally_step next_generator_step type_clause_step expr_list_step flat_step
      next_expr_step operand_step run_step l

  run_part_formed : (l : RunPart-F Delimited ItemTree Atom Expr FlatPart GeneratorTree Head Postfix
      RunPart Variable Also BlockItem CaseClause Catch Elif ElseBlock ElseClause Finally
      NextGenerator TypeClause ExprList Flat NextExpr Operand Run)
      → formed_run_part k (roll-RunPart l) ≡ form_run_part (run_part_forms l)
  unfolding formed_delimited formed_item formed_atom formed_expr formed_flat_part formed_generator
      formed_head formed_postfix formed_run_part formed_variable formed_also formed_block_item
      formed_case_clause formed_catch formed_elif formed_else_block formed_else_clause
      formed_finally formed_next_generator formed_type_clause formed_expr_list formed_flat
      formed_next_expr formed_operand formed_run
  run_part_formed l =
      fold-roll-RunPart Form Placed Form Form Form FormGenerator Opening Form Form Placed Form
      Placed Branch Catching Branch Form Form Form FormGenerator TypeBranch Listed Form Form Form
      Form form_delimited (form_item k) (form_atom k) form_expr form_flat_part form_generator
      (form_head k) form_postfix form_run_part (form_variable k) form_also form_block_item
      form_case_clause form_catch form_elif form_else_block form_else_clause form_finally
      form_next_generator (form_type_clause k) form_expr_list (form_flat k) form_next_expr
      form_operand form_run l

  run_part_level : (y : RunPart-F OneDelimited OneItem OneAtom OneExpr OneFlatPart OneGenerator
      OneHead OnePostfix OneRunPart OneVariable OneAlso OneBlockItem OneCaseClause OneCatch
      OneElif OneElseBlock OneElseClause OneFinally OneNextGenerator OneTypeClause OneExprList
      OneFlat OneNextExpr OneOperand OneRun)
      → RunPartReads names (run_part_saids (run_part_parts y))
      → HasFigures (form_run_part (run_part_forms (run_part_parts y)))
  run_part_level (RunPart-F.Atom atom) h = atom.1 h
  run_part_level (RunPart-F.Postfix postfix) h = postfix.1 h

  run_part_shown : (x : RunPart-F Delimited ItemTree Atom Expr FlatPart GeneratorTree Head Postfix
      RunPart Variable Also BlockItem CaseClause Catch Elif ElseBlock ElseClause Finally
      NextGenerator TypeClause ExprList Flat NextExpr Operand Run)
      (y : RunPart-F OneDelimited OneItem OneAtom OneExpr OneFlatPart OneGenerator OneHead
      OnePostfix OneRunPart OneVariable OneAlso OneBlockItem OneCaseClause OneCatch OneElif
      OneElseBlock OneElseClause OneFinally OneNextGenerator OneTypeClause OneExprList OneFlat
      OneNextExpr OneOperand OneRun) → run_part_parts y ≡ x → IsRunPart (roll-RunPart x)
  run_part_shown x y is =
      subst (λ x. IsRunPart (roll-RunPart x)) is
      (λ h. subst HasFigures (sym (run_part_formed (run_part_parts y)))
      (run_part_level y
      (run-part-parts names (run_part_saids (run_part_parts y))
      (subst (Reads names) (run_part_said (run_part_parts y)) h))))

  -- ---- Variable

  abbrev variable_parts : Variable-F OneDelimited OneItem OneAtom OneExpr OneFlatPart OneGenerator
      OneHead OnePostfix OneRunPart OneVariable OneAlso OneBlockItem OneCaseClause OneCatch OneElif
      OneElseBlock OneElseClause OneFinally OneNextGenerator OneTypeClause OneExprList OneFlat
      OneNextExpr OneOperand OneRun
      → Variable-F Delimited ItemTree Atom Expr FlatPart GeneratorTree Head Postfix RunPart Variable
      Also BlockItem CaseClause Catch Elif ElseBlock ElseClause Finally NextGenerator TypeClause
      ExprList Flat NextExpr Operand Run
  variable_parts =
      map-Variable OneDelimited OneItem OneAtom OneExpr OneFlatPart OneGenerator OneHead OnePostfix
      OneRunPart OneVariable OneAlso OneBlockItem OneCaseClause OneCatch OneElif OneElseBlock
      OneElseClause OneFinally OneNextGenerator OneTypeClause OneExprList OneFlat OneNextExpr
      OneOperand OneRun Delimited ItemTree Atom Expr FlatPart GeneratorTree Head Postfix RunPart
      Variable Also BlockItem CaseClause Catch Elif ElseBlock ElseClause Finally NextGenerator
      TypeClause ExprList Flat NextExpr Operand Run (λ e. e.0) (λ e. e.0) (λ e. e.0) (λ e. e.0)
      (λ e. e.0) (λ e. e.0) (λ e. e.0) (λ e. e.0) (λ e. e.0) (λ e. e.0) (λ e. e.0) (λ e. e.0)
      (λ e. e.0) (λ e. e.0) (λ e. e.0) (λ e. e.0) (λ e. e.0) (λ e. e.0) (λ e. e.0) (λ e. e.0)
      (λ e. e.0) (λ e. e.0) (λ e. e.0) (λ e. e.0) (λ e. e.0)

  abbrev variable_saids : Variable-F Delimited ItemTree Atom Expr FlatPart GeneratorTree Head
      Postfix RunPart Variable Also BlockItem CaseClause Catch Elif ElseBlock ElseClause Finally
      NextGenerator TypeClause ExprList Flat NextExpr Operand Run
      → Variable-F Said Said Said Said Said Said Said Said Said Said Said SaidEntry SaidEntry Said
      Said Said SaidElse Said Said SaidEntry Said Said Said Said Said
  variable_saids =
      map-Variable Delimited ItemTree Atom Expr FlatPart GeneratorTree Head Postfix RunPart Variable
      Also BlockItem CaseClause Catch Elif ElseBlock ElseClause Finally NextGenerator TypeClause
      ExprList Flat NextExpr Operand Run Said Said Said Said Said Said Said Said Said Said Said
      SaidEntry SaidEntry Said Said Said SaidElse Said Said SaidEntry Said Said Said Said Said
      said_delimited said_item said_atom said_expr said_flat_part said_generator said_head
      said_postfix said_run_part said_variable said_also said_block_item said_case_clause said_catch
      said_elif said_else_block said_else_clause said_finally said_next_generator said_type_clause
      said_expr_list said_flat said_next_expr said_operand said_run

  abbrev variable_forms : Variable-F Delimited ItemTree Atom Expr FlatPart GeneratorTree Head
      Postfix RunPart Variable Also BlockItem CaseClause Catch Elif ElseBlock ElseClause Finally
      NextGenerator TypeClause ExprList Flat NextExpr Operand Run
      → Variable-F Form Placed Form Form Form FormGenerator Opening Form Form Placed Form Placed
      Branch Catching Branch Form Form Form FormGenerator TypeBranch Listed Form Form Form Form
  variable_forms =
      map-Variable Delimited ItemTree Atom Expr FlatPart GeneratorTree Head Postfix RunPart Variable
      Also BlockItem CaseClause Catch Elif ElseBlock ElseClause Finally NextGenerator TypeClause
      ExprList Flat NextExpr Operand Run Form Placed Form Form Form FormGenerator Opening Form Form
      Placed Form Placed Branch Catching Branch Form Form Form FormGenerator TypeBranch Listed Form
      Form Form Form (formed_delimited k) (formed_item k) (formed_atom k) (formed_expr k)
      (formed_flat_part k) (formed_generator k) (formed_head k) (formed_postfix k)
      (formed_run_part k) (formed_variable k) (formed_also k) (formed_block_item k)
      (formed_case_clause k) (formed_catch k) (formed_elif k) (formed_else_block k)
      (formed_else_clause k) (formed_finally k) (formed_next_generator k) (formed_type_clause k)
      (formed_expr_list k) (formed_flat k) (formed_next_expr k) (formed_operand k) (formed_run k)

  variable_said : (l : Variable-F Delimited ItemTree Atom Expr FlatPart GeneratorTree Head Postfix
      RunPart Variable Also BlockItem CaseClause Catch Elif ElseBlock ElseClause Finally
      NextGenerator TypeClause ExprList Flat NextExpr Operand Run)
      → said_variable (roll-Variable l) ≡ variable_step (variable_saids l)
  unfolding said_delimited said_item said_atom said_expr said_flat_part said_generator said_head
      said_postfix said_run_part said_variable said_also said_block_item said_case_clause said_catch
      said_elif said_else_block said_else_clause said_finally said_next_generator said_type_clause
      said_expr_list said_flat said_next_expr said_operand said_run
  variable_said l =
      fold-roll-Variable Said Said Said Said Said Said Said Said Said Said Said SaidEntry SaidEntry
      Said Said Said SaidElse Said Said SaidEntry Said Said Said Said Said delimited_step item_step
      atom_step expr_step flat_part_step generator_step head_step postfix_step run_part_step
      variable_step also_step block_item_step case_clause_step catch_step elif_step else_block_step
      else_clause_step finally_step next_generator_step type_clause_step expr_list_step flat_step
      next_expr_step operand_step run_step l

  variable_formed : (l : Variable-F Delimited ItemTree Atom Expr FlatPart GeneratorTree Head Postfix
      RunPart Variable Also BlockItem CaseClause Catch Elif ElseBlock ElseClause Finally
      NextGenerator TypeClause ExprList Flat NextExpr Operand Run)
      → formed_variable k (roll-Variable l) ≡ form_variable k (variable_forms l)
  unfolding formed_delimited formed_item formed_atom formed_expr formed_flat_part formed_generator
      formed_head formed_postfix formed_run_part formed_variable formed_also formed_block_item
      formed_case_clause formed_catch formed_elif formed_else_block formed_else_clause
      formed_finally formed_next_generator formed_type_clause formed_expr_list formed_flat
      formed_next_expr formed_operand formed_run
  variable_formed l =
      fold-roll-Variable Form Placed Form Form Form FormGenerator Opening Form Form Placed Form
      Placed Branch Catching Branch Form Form Form FormGenerator TypeBranch Listed Form Form Form
      Form form_delimited (form_item k) (form_atom k) form_expr form_flat_part form_generator
      (form_head k) form_postfix form_run_part (form_variable k) form_also form_block_item
      form_case_clause form_catch form_elif form_else_block form_else_clause form_finally
      form_next_generator (form_type_clause k) form_expr_list (form_flat k) form_next_expr
      form_operand form_run l

  variable_level : (y : Variable-F OneDelimited OneItem OneAtom OneExpr OneFlatPart OneGenerator
      OneHead OnePostfix OneRunPart OneVariable OneAlso OneBlockItem OneCaseClause OneCatch
      OneElif OneElseBlock OneElseClause OneFinally OneNextGenerator OneTypeClause OneExprList
      OneFlat OneNextExpr OneOperand OneRun)
      → VariableReads names (variable_saids (variable_parts y))
      → GoodPlaced (form_variable k (variable_forms (variable_parts y)))
  variable_level y h = item-Local _ _ _ _ _ (y.value.1 h)

  variable_shown : (x : Variable-F Delimited ItemTree Atom Expr FlatPart GeneratorTree Head Postfix
      RunPart Variable Also BlockItem CaseClause Catch Elif ElseBlock ElseClause Finally
      NextGenerator TypeClause ExprList Flat NextExpr Operand Run)
      (y : Variable-F OneDelimited OneItem OneAtom OneExpr OneFlatPart OneGenerator OneHead
      OnePostfix OneRunPart OneVariable OneAlso OneBlockItem OneCaseClause OneCatch OneElif
      OneElseBlock OneElseClause OneFinally OneNextGenerator OneTypeClause OneExprList OneFlat
      OneNextExpr OneOperand OneRun) → variable_parts y ≡ x → IsVariable (roll-Variable x)
  variable_shown x y is =
      subst (λ x. IsVariable (roll-Variable x)) is
      (λ h. subst GoodPlaced (sym (variable_formed (variable_parts y)))
      (variable_level y
      (variable-parts names (variable_saids (variable_parts y))
      (subst (Reads names) (variable_said (variable_parts y)) h))))

  -- ---- Also

  abbrev also_parts : Also-F OneDelimited OneItem OneAtom OneExpr OneFlatPart OneGenerator OneHead
      OnePostfix OneRunPart OneVariable OneAlso OneBlockItem OneCaseClause OneCatch OneElif
      OneElseBlock OneElseClause OneFinally OneNextGenerator OneTypeClause OneExprList OneFlat
      OneNextExpr OneOperand OneRun
      → Also-F Delimited ItemTree Atom Expr FlatPart GeneratorTree Head Postfix RunPart Variable
      Also BlockItem CaseClause Catch Elif ElseBlock ElseClause Finally NextGenerator TypeClause
      ExprList Flat NextExpr Operand Run
  also_parts =
      map-Also OneDelimited OneItem OneAtom OneExpr OneFlatPart OneGenerator OneHead OnePostfix
      OneRunPart OneVariable OneAlso OneBlockItem OneCaseClause OneCatch OneElif OneElseBlock
      OneElseClause OneFinally OneNextGenerator OneTypeClause OneExprList OneFlat OneNextExpr
      OneOperand OneRun Delimited ItemTree Atom Expr FlatPart GeneratorTree Head Postfix RunPart
      Variable Also BlockItem CaseClause Catch Elif ElseBlock ElseClause Finally NextGenerator
      TypeClause ExprList Flat NextExpr Operand Run (λ e. e.0) (λ e. e.0) (λ e. e.0) (λ e. e.0)
      (λ e. e.0) (λ e. e.0) (λ e. e.0) (λ e. e.0) (λ e. e.0) (λ e. e.0) (λ e. e.0) (λ e. e.0)
      (λ e. e.0) (λ e. e.0) (λ e. e.0) (λ e. e.0) (λ e. e.0) (λ e. e.0) (λ e. e.0) (λ e. e.0)
      (λ e. e.0) (λ e. e.0) (λ e. e.0) (λ e. e.0) (λ e. e.0)

  abbrev also_saids : Also-F Delimited ItemTree Atom Expr FlatPart GeneratorTree Head Postfix
      RunPart Variable Also BlockItem CaseClause Catch Elif ElseBlock ElseClause Finally
      NextGenerator TypeClause ExprList Flat NextExpr Operand Run
      → Also-F Said Said Said Said Said Said Said Said Said Said Said SaidEntry SaidEntry Said Said
      Said SaidElse Said Said SaidEntry Said Said Said Said Said
  also_saids =
      map-Also Delimited ItemTree Atom Expr FlatPart GeneratorTree Head Postfix RunPart Variable
      Also BlockItem CaseClause Catch Elif ElseBlock ElseClause Finally NextGenerator TypeClause
      ExprList Flat NextExpr Operand Run Said Said Said Said Said Said Said Said Said Said Said
      SaidEntry SaidEntry Said Said Said SaidElse Said Said SaidEntry Said Said Said Said Said
      said_delimited said_item said_atom said_expr said_flat_part said_generator said_head
      said_postfix said_run_part said_variable said_also said_block_item said_case_clause said_catch
      said_elif said_else_block said_else_clause said_finally said_next_generator said_type_clause
      said_expr_list said_flat said_next_expr said_operand said_run

  abbrev also_forms : Also-F Delimited ItemTree Atom Expr FlatPart GeneratorTree Head Postfix
      RunPart Variable Also BlockItem CaseClause Catch Elif ElseBlock ElseClause Finally
      NextGenerator TypeClause ExprList Flat NextExpr Operand Run
      → Also-F Form Placed Form Form Form FormGenerator Opening Form Form Placed Form Placed Branch
      Catching Branch Form Form Form FormGenerator TypeBranch Listed Form Form Form Form
  also_forms =
      map-Also Delimited ItemTree Atom Expr FlatPart GeneratorTree Head Postfix RunPart Variable
      Also BlockItem CaseClause Catch Elif ElseBlock ElseClause Finally NextGenerator TypeClause
      ExprList Flat NextExpr Operand Run Form Placed Form Form Form FormGenerator Opening Form Form
      Placed Form Placed Branch Catching Branch Form Form Form FormGenerator TypeBranch Listed Form
      Form Form Form (formed_delimited k) (formed_item k) (formed_atom k) (formed_expr k)
      (formed_flat_part k) (formed_generator k) (formed_head k) (formed_postfix k)
      (formed_run_part k) (formed_variable k) (formed_also k) (formed_block_item k)
      (formed_case_clause k) (formed_catch k) (formed_elif k) (formed_else_block k)
      (formed_else_clause k) (formed_finally k) (formed_next_generator k) (formed_type_clause k)
      (formed_expr_list k) (formed_flat k) (formed_next_expr k) (formed_operand k) (formed_run k)

  also_said : (l : Also-F Delimited ItemTree Atom Expr FlatPart GeneratorTree Head Postfix RunPart
      Variable Also BlockItem CaseClause Catch Elif ElseBlock ElseClause Finally NextGenerator
      TypeClause ExprList Flat NextExpr Operand Run)
      → said_also (roll-Also l) ≡ also_step (also_saids l)
  unfolding said_delimited said_item said_atom said_expr said_flat_part said_generator said_head
      said_postfix said_run_part said_variable said_also said_block_item said_case_clause said_catch
      said_elif said_else_block said_else_clause said_finally said_next_generator said_type_clause
      said_expr_list said_flat said_next_expr said_operand said_run
  also_said l =
      fold-roll-Also Said Said Said Said Said Said Said Said Said Said Said SaidEntry SaidEntry Said
      Said Said SaidElse Said Said SaidEntry Said Said Said Said Said delimited_step item_step
      atom_step expr_step flat_part_step generator_step head_step postfix_step run_part_step
      variable_step also_step block_item_step case_clause_step catch_step elif_step else_block_step
      else_clause_step finally_step next_generator_step type_clause_step expr_list_step flat_step
      next_expr_step operand_step run_step l

  also_formed : (l : Also-F Delimited ItemTree Atom Expr FlatPart GeneratorTree Head Postfix RunPart
      Variable Also BlockItem CaseClause Catch Elif ElseBlock ElseClause Finally NextGenerator
      TypeClause ExprList Flat NextExpr Operand Run)
      → formed_also k (roll-Also l) ≡ form_also (also_forms l)
  unfolding formed_delimited formed_item formed_atom formed_expr formed_flat_part formed_generator
      formed_head formed_postfix formed_run_part formed_variable formed_also formed_block_item
      formed_case_clause formed_catch formed_elif formed_else_block formed_else_clause
      formed_finally formed_next_generator formed_type_clause formed_expr_list formed_flat
      formed_next_expr formed_operand formed_run
  also_formed l =
      fold-roll-Also Form Placed Form Form Form FormGenerator Opening Form Form Placed Form Placed
      Branch Catching Branch Form Form Form FormGenerator TypeBranch Listed Form Form Form Form
      form_delimited (form_item k) (form_atom k) form_expr form_flat_part form_generator
      (form_head k) form_postfix form_run_part (form_variable k) form_also form_block_item
      form_case_clause form_catch form_elif form_else_block form_else_clause form_finally
      form_next_generator (form_type_clause k) form_expr_list (form_flat k) form_next_expr
      form_operand form_run l

  also_level : (y : Also-F OneDelimited OneItem OneAtom OneExpr OneFlatPart OneGenerator OneHead
      OnePostfix OneRunPart OneVariable OneAlso OneBlockItem OneCaseClause OneCatch OneElif
      OneElseBlock OneElseClause OneFinally OneNextGenerator OneTypeClause OneExprList OneFlat
      OneNextExpr OneOperand OneRun) → AlsoReads names (also_saids (also_parts y))
      → HasFigures (form_also (also_forms (also_parts y)))
  also_level y h = blocked y.do_ y.block h

  also_shown : (x : Also-F Delimited ItemTree Atom Expr FlatPart GeneratorTree Head Postfix RunPart
      Variable Also BlockItem CaseClause Catch Elif ElseBlock ElseClause Finally NextGenerator
      TypeClause ExprList Flat NextExpr Operand Run)
      (y : Also-F OneDelimited OneItem OneAtom OneExpr OneFlatPart OneGenerator OneHead OnePostfix
      OneRunPart OneVariable OneAlso OneBlockItem OneCaseClause OneCatch OneElif OneElseBlock
      OneElseClause OneFinally OneNextGenerator OneTypeClause OneExprList OneFlat OneNextExpr
      OneOperand OneRun) → also_parts y ≡ x → IsAlso (roll-Also x)
  also_shown x y is =
      subst (λ x. IsAlso (roll-Also x)) is (λ h. subst HasFigures (sym (also_formed (also_parts y)))
      (also_level y
      (also-parts names (also_saids (also_parts y))
      (subst (Reads names) (also_said (also_parts y)) h))))

  -- ---- BlockItem

  abbrev block_item_parts : BlockItem-F OneDelimited OneItem OneAtom OneExpr OneFlatPart
      OneGenerator OneHead OnePostfix OneRunPart OneVariable OneAlso OneBlockItem OneCaseClause
      OneCatch OneElif OneElseBlock OneElseClause OneFinally OneNextGenerator OneTypeClause
      OneExprList OneFlat OneNextExpr OneOperand OneRun
      → BlockItem-F Delimited ItemTree Atom Expr FlatPart GeneratorTree Head Postfix RunPart
      Variable Also BlockItem CaseClause Catch Elif ElseBlock ElseClause Finally NextGenerator
      TypeClause ExprList Flat NextExpr Operand Run
  block_item_parts =
      map-BlockItem OneDelimited OneItem OneAtom OneExpr OneFlatPart OneGenerator OneHead OnePostfix
      OneRunPart OneVariable OneAlso OneBlockItem OneCaseClause OneCatch OneElif OneElseBlock
      OneElseClause OneFinally OneNextGenerator OneTypeClause OneExprList OneFlat OneNextExpr
      OneOperand OneRun Delimited ItemTree Atom Expr FlatPart GeneratorTree Head Postfix RunPart
      Variable Also BlockItem CaseClause Catch Elif ElseBlock ElseClause Finally NextGenerator
      TypeClause ExprList Flat NextExpr Operand Run (λ e. e.0) (λ e. e.0) (λ e. e.0) (λ e. e.0)
      (λ e. e.0) (λ e. e.0) (λ e. e.0) (λ e. e.0) (λ e. e.0) (λ e. e.0) (λ e. e.0) (λ e. e.0)
      (λ e. e.0) (λ e. e.0) (λ e. e.0) (λ e. e.0) (λ e. e.0) (λ e. e.0) (λ e. e.0) (λ e. e.0)
      (λ e. e.0) (λ e. e.0) (λ e. e.0) (λ e. e.0) (λ e. e.0)

  abbrev block_item_saids : BlockItem-F Delimited ItemTree Atom Expr FlatPart GeneratorTree Head
      Postfix RunPart Variable Also BlockItem CaseClause Catch Elif ElseBlock ElseClause Finally
      NextGenerator TypeClause ExprList Flat NextExpr Operand Run
      → BlockItem-F Said Said Said Said Said Said Said Said Said Said Said SaidEntry SaidEntry Said
      Said Said SaidElse Said Said SaidEntry Said Said Said Said Said
  block_item_saids =
      map-BlockItem Delimited ItemTree Atom Expr FlatPart GeneratorTree Head Postfix RunPart
      Variable Also BlockItem CaseClause Catch Elif ElseBlock ElseClause Finally NextGenerator
      TypeClause ExprList Flat NextExpr Operand Run Said Said Said Said Said Said Said Said Said
      Said Said SaidEntry SaidEntry Said Said Said SaidElse Said Said SaidEntry Said Said Said Said
      Said said_delimited said_item said_atom said_expr said_flat_part said_generator said_head
      said_postfix said_run_part said_variable said_also said_block_item said_case_clause said_catch
      said_elif said_else_block said_else_clause said_finally said_next_generator said_type_clause
      said_expr_list said_flat said_next_expr said_operand said_run

  abbrev block_item_forms : BlockItem-F Delimited ItemTree Atom Expr FlatPart GeneratorTree Head
      Postfix RunPart Variable Also BlockItem CaseClause Catch Elif ElseBlock ElseClause Finally
      NextGenerator TypeClause ExprList Flat NextExpr Operand Run
      → BlockItem-F Form Placed Form Form Form FormGenerator Opening Form Form Placed Form Placed
      Branch Catching Branch Form Form Form FormGenerator TypeBranch Listed Form Form Form Form
  block_item_forms =
      map-BlockItem Delimited ItemTree Atom Expr FlatPart GeneratorTree Head Postfix RunPart
      Variable Also BlockItem CaseClause Catch Elif ElseBlock ElseClause Finally NextGenerator
      TypeClause ExprList Flat NextExpr Operand Run Form Placed Form Form Form FormGenerator Opening
      Form Form Placed Form Placed Branch Catching Branch Form Form Form FormGenerator TypeBranch
      Listed Form Form Form Form (formed_delimited k) (formed_item k) (formed_atom k)
      (formed_expr k) (formed_flat_part k) (formed_generator k) (formed_head k) (formed_postfix k)
      (formed_run_part k) (formed_variable k) (formed_also k) (formed_block_item k)
      (formed_case_clause k) (formed_catch k) (formed_elif k) (formed_else_block k)
      (formed_else_clause k) (formed_finally k) (formed_next_generator k) (formed_type_clause k)
      (formed_expr_list k) (formed_flat k) (formed_next_expr k) (formed_operand k) (formed_run k)

  block_item_said : (l : BlockItem-F Delimited ItemTree Atom Expr FlatPart GeneratorTree Head
      Postfix RunPart Variable Also BlockItem CaseClause Catch Elif ElseBlock ElseClause Finally
      NextGenerator TypeClause ExprList Flat NextExpr Operand Run)
      → said_block_item (roll-BlockItem l) ≡ block_item_step (block_item_saids l)
  unfolding said_delimited said_item said_atom said_expr said_flat_part said_generator said_head
      said_postfix said_run_part said_variable said_also said_block_item said_case_clause said_catch
      said_elif said_else_block said_else_clause said_finally said_next_generator said_type_clause
      said_expr_list said_flat said_next_expr said_operand said_run
  block_item_said l =
      fold-roll-BlockItem Said Said Said Said Said Said Said Said Said Said Said SaidEntry SaidEntry
      Said Said Said SaidElse Said Said SaidEntry Said Said Said Said Said delimited_step item_step
      atom_step expr_step flat_part_step generator_step head_step postfix_step run_part_step
      variable_step also_step block_item_step case_clause_step catch_step elif_step else_block_step
      else_clause_step finally_step next_generator_step type_clause_step expr_list_step flat_step
      next_expr_step operand_step run_step l

  block_item_formed : (l : BlockItem-F Delimited ItemTree Atom Expr FlatPart GeneratorTree Head
      Postfix RunPart Variable Also BlockItem CaseClause Catch Elif ElseBlock ElseClause Finally
      NextGenerator TypeClause ExprList Flat NextExpr Operand Run)
      → formed_block_item k (roll-BlockItem l) ≡ form_block_item (block_item_forms l)
  unfolding formed_delimited formed_item formed_atom formed_expr formed_flat_part formed_generator
      formed_head formed_postfix formed_run_part formed_variable formed_also formed_block_item
      formed_case_clause formed_catch formed_elif formed_else_block formed_else_clause
      formed_finally formed_next_generator formed_type_clause formed_expr_list formed_flat
      formed_next_expr formed_operand formed_run
  block_item_formed l =
      fold-roll-BlockItem Form Placed Form Form Form FormGenerator Opening Form Form Placed Form
      Placed Branch Catching Branch Form Form Form FormGenerator TypeBranch Listed Form Form Form
      Form form_delimited (form_item k) (form_atom k) form_expr form_flat_part form_generator
      (form_head k) form_postfix form_run_part (form_variable k) form_also form_block_item
      form_case_clause form_catch form_elif form_else_block form_else_clause form_finally
      form_next_generator (form_type_clause k) form_expr_list (form_flat k) form_next_expr
      form_operand form_run l

  block_item_level : (y : BlockItem-F OneDelimited OneItem OneAtom OneExpr OneFlatPart OneGenerator
      OneHead OnePostfix OneRunPart OneVariable OneAlso OneBlockItem OneCaseClause OneCatch
      OneElif OneElseBlock OneElseClause OneFinally OneNextGenerator OneTypeClause OneExprList
      OneFlat OneNextExpr OneOperand OneRun)
      → BlockItemReads names (block_item_saids (block_item_parts y))
      → GoodPlaced (form_block_item (block_item_forms (block_item_parts y)))
  block_item_level y h = y.item.1 h

  block_item_shown : (x : BlockItem-F Delimited ItemTree Atom Expr FlatPart GeneratorTree Head
      Postfix RunPart Variable Also BlockItem CaseClause Catch Elif ElseBlock ElseClause Finally
      NextGenerator TypeClause ExprList Flat NextExpr Operand Run)
      (y : BlockItem-F OneDelimited OneItem OneAtom OneExpr OneFlatPart OneGenerator OneHead
      OnePostfix OneRunPart OneVariable OneAlso OneBlockItem OneCaseClause OneCatch OneElif
      OneElseBlock OneElseClause OneFinally OneNextGenerator OneTypeClause OneExprList OneFlat
      OneNextExpr OneOperand OneRun) → block_item_parts y ≡ x → IsBlockItem (roll-BlockItem x)
  block_item_shown x y is =
      subst (λ x. IsBlockItem (roll-BlockItem x)) is
      (λ h. subst GoodPlaced (sym (block_item_formed (block_item_parts y)))
      (block_item_level y
      (block-item-parts names (block_item_saids (block_item_parts y))
      (subst (ReadsEntry names) (block_item_said (block_item_parts y)) h))))

  -- ---- CaseClause

  abbrev case_clause_parts : CaseClause-F OneDelimited OneItem OneAtom OneExpr OneFlatPart
      OneGenerator OneHead OnePostfix OneRunPart OneVariable OneAlso OneBlockItem OneCaseClause
      OneCatch OneElif OneElseBlock OneElseClause OneFinally OneNextGenerator OneTypeClause
      OneExprList OneFlat OneNextExpr OneOperand OneRun
      → CaseClause-F Delimited ItemTree Atom Expr FlatPart GeneratorTree Head Postfix RunPart
      Variable Also BlockItem CaseClause Catch Elif ElseBlock ElseClause Finally NextGenerator
      TypeClause ExprList Flat NextExpr Operand Run
  case_clause_parts =
      map-CaseClause OneDelimited OneItem OneAtom OneExpr OneFlatPart OneGenerator OneHead
      OnePostfix OneRunPart OneVariable OneAlso OneBlockItem OneCaseClause OneCatch OneElif
      OneElseBlock OneElseClause OneFinally OneNextGenerator OneTypeClause OneExprList OneFlat
      OneNextExpr OneOperand OneRun Delimited ItemTree Atom Expr FlatPart GeneratorTree Head Postfix
      RunPart Variable Also BlockItem CaseClause Catch Elif ElseBlock ElseClause Finally
      NextGenerator TypeClause ExprList Flat NextExpr Operand Run (λ e. e.0) (λ e. e.0) (λ e. e.0)
      (λ e. e.0) (λ e. e.0) (λ e. e.0) (λ e. e.0) (λ e. e.0) (λ e. e.0) (λ e. e.0) (λ e. e.0)
      (λ e. e.0) (λ e. e.0) (λ e. e.0) (λ e. e.0) (λ e. e.0) (λ e. e.0) (λ e. e.0) (λ e. e.0)
      (λ e. e.0) (λ e. e.0) (λ e. e.0) (λ e. e.0) (λ e. e.0) (λ e. e.0)

  abbrev case_clause_saids : CaseClause-F Delimited ItemTree Atom Expr FlatPart GeneratorTree Head
      Postfix RunPart Variable Also BlockItem CaseClause Catch Elif ElseBlock ElseClause Finally
      NextGenerator TypeClause ExprList Flat NextExpr Operand Run
      → CaseClause-F Said Said Said Said Said Said Said Said Said Said Said SaidEntry SaidEntry Said
      Said Said SaidElse Said Said SaidEntry Said Said Said Said Said
  case_clause_saids =
      map-CaseClause Delimited ItemTree Atom Expr FlatPart GeneratorTree Head Postfix RunPart
      Variable Also BlockItem CaseClause Catch Elif ElseBlock ElseClause Finally NextGenerator
      TypeClause ExprList Flat NextExpr Operand Run Said Said Said Said Said Said Said Said Said
      Said Said SaidEntry SaidEntry Said Said Said SaidElse Said Said SaidEntry Said Said Said Said
      Said said_delimited said_item said_atom said_expr said_flat_part said_generator said_head
      said_postfix said_run_part said_variable said_also said_block_item said_case_clause said_catch
      said_elif said_else_block said_else_clause said_finally said_next_generator said_type_clause
      said_expr_list said_flat said_next_expr said_operand said_run

  abbrev case_clause_forms : CaseClause-F Delimited ItemTree Atom Expr FlatPart GeneratorTree Head
      Postfix RunPart Variable Also BlockItem CaseClause Catch Elif ElseBlock ElseClause Finally
      NextGenerator TypeClause ExprList Flat NextExpr Operand Run
      → CaseClause-F Form Placed Form Form Form FormGenerator Opening Form Form Placed Form Placed
      Branch Catching Branch Form Form Form FormGenerator TypeBranch Listed Form Form Form Form
  case_clause_forms =
      map-CaseClause Delimited ItemTree Atom Expr FlatPart GeneratorTree Head Postfix RunPart
      Variable Also BlockItem CaseClause Catch Elif ElseBlock ElseClause Finally NextGenerator
      TypeClause ExprList Flat NextExpr Operand Run Form Placed Form Form Form FormGenerator Opening
      Form Form Placed Form Placed Branch Catching Branch Form Form Form FormGenerator TypeBranch
      Listed Form Form Form Form (formed_delimited k) (formed_item k) (formed_atom k)
      (formed_expr k) (formed_flat_part k) (formed_generator k) (formed_head k) (formed_postfix k)
      (formed_run_part k) (formed_variable k) (formed_also k) (formed_block_item k)
      (formed_case_clause k) (formed_catch k) (formed_elif k) (formed_else_block k)
      (formed_else_clause k) (formed_finally k) (formed_next_generator k) (formed_type_clause k)
      (formed_expr_list k) (formed_flat k) (formed_next_expr k) (formed_operand k) (formed_run k)

  case_clause_said : (l : CaseClause-F Delimited ItemTree Atom Expr FlatPart GeneratorTree Head
      Postfix RunPart Variable Also BlockItem CaseClause Catch Elif ElseBlock ElseClause Finally
      NextGenerator TypeClause ExprList Flat NextExpr Operand Run)
      → said_case_clause (roll-CaseClause l) ≡ case_clause_step (case_clause_saids l)
  unfolding said_delimited said_item said_atom said_expr said_flat_part said_generator said_head
      said_postfix said_run_part said_variable said_also said_block_item said_case_clause said_catch
      said_elif said_else_block said_else_clause said_finally said_next_generator said_type_clause
      said_expr_list said_flat said_next_expr said_operand said_run
  case_clause_said l =
      fold-roll-CaseClause Said Said Said Said Said Said Said Said Said Said Said SaidEntry
      SaidEntry Said Said Said SaidElse Said Said SaidEntry Said Said Said Said Said delimited_step
      item_step atom_step expr_step flat_part_step generator_step head_step postfix_step
      run_part_step variable_step also_step block_item_step case_clause_step catch_step elif_step
      else_block_step else_clause_step finally_step next_generator_step type_clause_step
      expr_list_step flat_step next_expr_step operand_step run_step l

  case_clause_formed : (l : CaseClause-F Delimited ItemTree Atom Expr FlatPart GeneratorTree Head
      Postfix RunPart Variable Also BlockItem CaseClause Catch Elif ElseBlock ElseClause Finally
      NextGenerator TypeClause ExprList Flat NextExpr Operand Run)
      → formed_case_clause k (roll-CaseClause l) ≡ form_case_clause (case_clause_forms l)
  unfolding formed_delimited formed_item formed_atom formed_expr formed_flat_part formed_generator
      formed_head formed_postfix formed_run_part formed_variable formed_also formed_block_item
      formed_case_clause formed_catch formed_elif formed_else_block formed_else_clause
      formed_finally formed_next_generator formed_type_clause formed_expr_list formed_flat
      formed_next_expr formed_operand formed_run
  case_clause_formed l =
      fold-roll-CaseClause Form Placed Form Form Form FormGenerator Opening Form Form Placed Form
      Placed Branch Catching Branch Form Form Form FormGenerator TypeBranch Listed Form Form Form
      Form form_delimited (form_item k) (form_atom k) form_expr form_flat_part form_generator
      (form_head k) form_postfix form_run_part (form_variable k) form_also form_block_item
      form_case_clause form_catch form_elif form_else_block form_else_clause form_finally
      form_next_generator (form_type_clause k) form_expr_list (form_flat k) form_next_expr
      form_operand form_run l

  case_clause_level : (y : CaseClause-F OneDelimited OneItem OneAtom OneExpr OneFlatPart
      OneGenerator OneHead OnePostfix OneRunPart OneVariable OneAlso OneBlockItem OneCaseClause
      OneCatch OneElif OneElseBlock OneElseClause OneFinally OneNextGenerator OneTypeClause
      OneExprList OneFlat OneNextExpr OneOperand OneRun)
      → CaseClauseReads names (case_clause_saids (case_clause_parts y))
      → GoodBranch (form_case_clause (case_clause_forms (case_clause_parts y)))
  case_clause_level y h = good-branch _ _ (y.subject.1 h.0) (y.value.1 h.1)

  case_clause_shown : (x : CaseClause-F Delimited ItemTree Atom Expr FlatPart GeneratorTree Head
      Postfix RunPart Variable Also BlockItem CaseClause Catch Elif ElseBlock ElseClause Finally
      NextGenerator TypeClause ExprList Flat NextExpr Operand Run)
      (y : CaseClause-F OneDelimited OneItem OneAtom OneExpr OneFlatPart OneGenerator OneHead
      OnePostfix OneRunPart OneVariable OneAlso OneBlockItem OneCaseClause OneCatch OneElif
      OneElseBlock OneElseClause OneFinally OneNextGenerator OneTypeClause OneExprList OneFlat
      OneNextExpr OneOperand OneRun) → case_clause_parts y ≡ x
      → IsCaseClause (roll-CaseClause x)
  case_clause_shown x y is =
      subst (λ x. IsCaseClause (roll-CaseClause x)) is
      (λ h. subst GoodBranch (sym (case_clause_formed (case_clause_parts y)))
      (case_clause_level y
      (case-clause-parts names (case_clause_saids (case_clause_parts y))
      (subst (ReadsEntry names) (case_clause_said (case_clause_parts y)) h))))

  -- ---- Catch

  abbrev catch_parts : Catch-F OneDelimited OneItem OneAtom OneExpr OneFlatPart OneGenerator OneHead
      OnePostfix OneRunPart OneVariable OneAlso OneBlockItem OneCaseClause OneCatch OneElif
      OneElseBlock OneElseClause OneFinally OneNextGenerator OneTypeClause OneExprList OneFlat
      OneNextExpr OneOperand OneRun
      → Catch-F Delimited ItemTree Atom Expr FlatPart GeneratorTree Head Postfix RunPart Variable
      Also BlockItem CaseClause Catch Elif ElseBlock ElseClause Finally NextGenerator TypeClause
      ExprList Flat NextExpr Operand Run
  catch_parts =
      map-Catch OneDelimited OneItem OneAtom OneExpr OneFlatPart OneGenerator OneHead OnePostfix
      OneRunPart OneVariable OneAlso OneBlockItem OneCaseClause OneCatch OneElif OneElseBlock
      OneElseClause OneFinally OneNextGenerator OneTypeClause OneExprList OneFlat OneNextExpr
      OneOperand OneRun Delimited ItemTree Atom Expr FlatPart GeneratorTree Head Postfix RunPart
      Variable Also BlockItem CaseClause Catch Elif ElseBlock ElseClause Finally NextGenerator
      TypeClause ExprList Flat NextExpr Operand Run (λ e. e.0) (λ e. e.0) (λ e. e.0) (λ e. e.0)
      (λ e. e.0) (λ e. e.0) (λ e. e.0) (λ e. e.0) (λ e. e.0) (λ e. e.0) (λ e. e.0) (λ e. e.0)
      (λ e. e.0) (λ e. e.0) (λ e. e.0) (λ e. e.0) (λ e. e.0) (λ e. e.0) (λ e. e.0) (λ e. e.0)
      (λ e. e.0) (λ e. e.0) (λ e. e.0) (λ e. e.0) (λ e. e.0)

  abbrev catch_saids : Catch-F Delimited ItemTree Atom Expr FlatPart GeneratorTree Head Postfix
      RunPart Variable Also BlockItem CaseClause Catch Elif ElseBlock ElseClause Finally
      NextGenerator TypeClause ExprList Flat NextExpr Operand Run
      → Catch-F Said Said Said Said Said Said Said Said Said Said Said SaidEntry SaidEntry Said Said
      Said SaidElse Said Said SaidEntry Said Said Said Said Said
  catch_saids =
      map-Catch Delimited ItemTree Atom Expr FlatPart GeneratorTree Head Postfix RunPart Variable
      Also BlockItem CaseClause Catch Elif ElseBlock ElseClause Finally NextGenerator TypeClause
      ExprList Flat NextExpr Operand Run Said Said Said Said Said Said Said Said Said Said Said
      SaidEntry SaidEntry Said Said Said SaidElse Said Said SaidEntry Said Said Said Said Said
      said_delimited said_item said_atom said_expr said_flat_part said_generator said_head
      said_postfix said_run_part said_variable said_also said_block_item said_case_clause said_catch
      said_elif said_else_block said_else_clause said_finally said_next_generator said_type_clause
      said_expr_list said_flat said_next_expr said_operand said_run

  abbrev catch_forms : Catch-F Delimited ItemTree Atom Expr FlatPart GeneratorTree Head Postfix
      RunPart Variable Also BlockItem CaseClause Catch Elif ElseBlock ElseClause Finally
      NextGenerator TypeClause ExprList Flat NextExpr Operand Run
      → Catch-F Form Placed Form Form Form FormGenerator Opening Form Form Placed Form Placed Branch
      Catching Branch Form Form Form FormGenerator TypeBranch Listed Form Form Form Form
  catch_forms =
      map-Catch Delimited ItemTree Atom Expr FlatPart GeneratorTree Head Postfix RunPart Variable
      Also BlockItem CaseClause Catch Elif ElseBlock ElseClause Finally NextGenerator TypeClause
      ExprList Flat NextExpr Operand Run Form Placed Form Form Form FormGenerator Opening Form Form
      Placed Form Placed Branch Catching Branch Form Form Form FormGenerator TypeBranch Listed Form
      Form Form Form (formed_delimited k) (formed_item k) (formed_atom k) (formed_expr k)
      (formed_flat_part k) (formed_generator k) (formed_head k) (formed_postfix k)
      (formed_run_part k) (formed_variable k) (formed_also k) (formed_block_item k)
      (formed_case_clause k) (formed_catch k) (formed_elif k) (formed_else_block k)
      (formed_else_clause k) (formed_finally k) (formed_next_generator k) (formed_type_clause k)
      (formed_expr_list k) (formed_flat k) (formed_next_expr k) (formed_operand k) (formed_run k)

  catch_said : (l : Catch-F Delimited ItemTree Atom Expr FlatPart GeneratorTree Head Postfix RunPart
      Variable Also BlockItem CaseClause Catch Elif ElseBlock ElseClause Finally NextGenerator
      TypeClause ExprList Flat NextExpr Operand Run)
      → said_catch (roll-Catch l) ≡ catch_step (catch_saids l)
  unfolding said_delimited said_item said_atom said_expr said_flat_part said_generator said_head
      said_postfix said_run_part said_variable said_also said_block_item said_case_clause said_catch
      said_elif said_else_block said_else_clause said_finally said_next_generator said_type_clause
      said_expr_list said_flat said_next_expr said_operand said_run
  catch_said l =
      fold-roll-Catch Said Said Said Said Said Said Said Said Said Said Said SaidEntry SaidEntry
      Said Said Said SaidElse Said Said SaidEntry Said Said Said Said Said delimited_step item_step
      atom_step expr_step flat_part_step generator_step head_step postfix_step run_part_step
      variable_step also_step block_item_step case_clause_step catch_step elif_step else_block_step
      else_clause_step finally_step next_generator_step type_clause_step expr_list_step flat_step
      next_expr_step operand_step run_step l

  catch_formed : (l : Catch-F Delimited ItemTree Atom Expr FlatPart GeneratorTree Head Postfix
      RunPart Variable Also BlockItem CaseClause Catch Elif ElseBlock ElseClause Finally
      NextGenerator TypeClause ExprList Flat NextExpr Operand Run)
      → formed_catch k (roll-Catch l) ≡ form_catch (catch_forms l)
  unfolding formed_delimited formed_item formed_atom formed_expr formed_flat_part formed_generator
      formed_head formed_postfix formed_run_part formed_variable formed_also formed_block_item
      formed_case_clause formed_catch formed_elif formed_else_block formed_else_clause
      formed_finally formed_next_generator formed_type_clause formed_expr_list formed_flat
      formed_next_expr formed_operand formed_run
  catch_formed l =
      fold-roll-Catch Form Placed Form Form Form FormGenerator Opening Form Form Placed Form Placed
      Branch Catching Branch Form Form Form FormGenerator TypeBranch Listed Form Form Form Form
      form_delimited (form_item k) (form_atom k) form_expr form_flat_part form_generator
      (form_head k) form_postfix form_run_part (form_variable k) form_also form_block_item
      form_case_clause form_catch form_elif form_else_block form_else_clause form_finally
      form_next_generator (form_type_clause k) form_expr_list (form_flat k) form_next_expr
      form_operand form_run l

  catch_level : (y : Catch-F OneDelimited OneItem OneAtom OneExpr OneFlatPart OneGenerator OneHead
      OnePostfix OneRunPart OneVariable OneAlso OneBlockItem OneCaseClause OneCatch OneElif
      OneElseBlock OneElseClause OneFinally OneNextGenerator OneTypeClause OneExprList OneFlat
      OneNextExpr OneOperand OneRun) → CatchReads names (catch_saids (catch_parts y))
      → GoodCatching (form_catch (catch_forms (catch_parts y)))
  catch_level y h = each_type_clause y.clauses h

  catch_shown : (x : Catch-F Delimited ItemTree Atom Expr FlatPart GeneratorTree Head Postfix
      RunPart Variable Also BlockItem CaseClause Catch Elif ElseBlock ElseClause Finally
      NextGenerator TypeClause ExprList Flat NextExpr Operand Run)
      (y : Catch-F OneDelimited OneItem OneAtom OneExpr OneFlatPart OneGenerator OneHead OnePostfix
      OneRunPart OneVariable OneAlso OneBlockItem OneCaseClause OneCatch OneElif OneElseBlock
      OneElseClause OneFinally OneNextGenerator OneTypeClause OneExprList OneFlat OneNextExpr
      OneOperand OneRun) → catch_parts y ≡ x → IsCatch (roll-Catch x)
  catch_shown x y is =
      subst (λ x. IsCatch (roll-Catch x)) is
      (λ h. subst GoodCatching (sym (catch_formed (catch_parts y)))
      (catch_level y
      (catch-parts names (catch_saids (catch_parts y))
      (subst (Reads names) (catch_said (catch_parts y)) h))))

  -- ---- Elif

  abbrev elif_parts : Elif-F OneDelimited OneItem OneAtom OneExpr OneFlatPart OneGenerator OneHead
      OnePostfix OneRunPart OneVariable OneAlso OneBlockItem OneCaseClause OneCatch OneElif
      OneElseBlock OneElseClause OneFinally OneNextGenerator OneTypeClause OneExprList OneFlat
      OneNextExpr OneOperand OneRun
      → Elif-F Delimited ItemTree Atom Expr FlatPart GeneratorTree Head Postfix RunPart Variable
      Also BlockItem CaseClause Catch Elif ElseBlock ElseClause Finally NextGenerator TypeClause
      ExprList Flat NextExpr Operand Run
  elif_parts =
      map-Elif OneDelimited OneItem OneAtom OneExpr OneFlatPart OneGenerator OneHead OnePostfix
      OneRunPart OneVariable OneAlso OneBlockItem OneCaseClause OneCatch OneElif OneElseBlock
      OneElseClause OneFinally OneNextGenerator OneTypeClause OneExprList OneFlat OneNextExpr
      OneOperand OneRun Delimited ItemTree Atom Expr FlatPart GeneratorTree Head Postfix RunPart
      Variable Also BlockItem CaseClause Catch Elif ElseBlock ElseClause Finally NextGenerator
      TypeClause ExprList Flat NextExpr Operand Run (λ e. e.0) (λ e. e.0) (λ e. e.0) (λ e. e.0)
      (λ e. e.0) (λ e. e.0) (λ e. e.0) (λ e. e.0) (λ e. e.0) (λ e. e.0) (λ e. e.0) (λ e. e.0)
      (λ e. e.0) (λ e. e.0) (λ e. e.0) (λ e. e.0) (λ e. e.0) (λ e. e.0) (λ e. e.0) (λ e. e.0)
      (λ e. e.0) (λ e. e.0) (λ e. e.0) (λ e. e.0) (λ e. e.0)

  abbrev elif_saids : Elif-F Delimited ItemTree Atom Expr FlatPart GeneratorTree Head Postfix
      RunPart Variable Also BlockItem CaseClause Catch Elif ElseBlock ElseClause Finally
      NextGenerator TypeClause ExprList Flat NextExpr Operand Run
      → Elif-F Said Said Said Said Said Said Said Said Said Said Said SaidEntry SaidEntry Said Said
      Said SaidElse Said Said SaidEntry Said Said Said Said Said
  elif_saids =
      map-Elif Delimited ItemTree Atom Expr FlatPart GeneratorTree Head Postfix RunPart Variable
      Also BlockItem CaseClause Catch Elif ElseBlock ElseClause Finally NextGenerator TypeClause
      ExprList Flat NextExpr Operand Run Said Said Said Said Said Said Said Said Said Said Said
      SaidEntry SaidEntry Said Said Said SaidElse Said Said SaidEntry Said Said Said Said Said
      said_delimited said_item said_atom said_expr said_flat_part said_generator said_head
      said_postfix said_run_part said_variable said_also said_block_item said_case_clause said_catch
      said_elif said_else_block said_else_clause said_finally said_next_generator said_type_clause
      said_expr_list said_flat said_next_expr said_operand said_run

  abbrev elif_forms : Elif-F Delimited ItemTree Atom Expr FlatPart GeneratorTree Head Postfix
      RunPart Variable Also BlockItem CaseClause Catch Elif ElseBlock ElseClause Finally
      NextGenerator TypeClause ExprList Flat NextExpr Operand Run
      → Elif-F Form Placed Form Form Form FormGenerator Opening Form Form Placed Form Placed Branch
      Catching Branch Form Form Form FormGenerator TypeBranch Listed Form Form Form Form
  elif_forms =
      map-Elif Delimited ItemTree Atom Expr FlatPart GeneratorTree Head Postfix RunPart Variable
      Also BlockItem CaseClause Catch Elif ElseBlock ElseClause Finally NextGenerator TypeClause
      ExprList Flat NextExpr Operand Run Form Placed Form Form Form FormGenerator Opening Form Form
      Placed Form Placed Branch Catching Branch Form Form Form FormGenerator TypeBranch Listed Form
      Form Form Form (formed_delimited k) (formed_item k) (formed_atom k) (formed_expr k)
      (formed_flat_part k) (formed_generator k) (formed_head k) (formed_postfix k)
      (formed_run_part k) (formed_variable k) (formed_also k) (formed_block_item k)
      (formed_case_clause k) (formed_catch k) (formed_elif k) (formed_else_block k)
      (formed_else_clause k) (formed_finally k) (formed_next_generator k) (formed_type_clause k)
      (formed_expr_list k) (formed_flat k) (formed_next_expr k) (formed_operand k) (formed_run k)

  elif_said : (l : Elif-F Delimited ItemTree Atom Expr FlatPart GeneratorTree Head Postfix RunPart
      Variable Also BlockItem CaseClause Catch Elif ElseBlock ElseClause Finally NextGenerator
      TypeClause ExprList Flat NextExpr Operand Run)
      → said_elif (roll-Elif l) ≡ elif_step (elif_saids l)
  unfolding said_delimited said_item said_atom said_expr said_flat_part said_generator said_head
      said_postfix said_run_part said_variable said_also said_block_item said_case_clause said_catch
      said_elif said_else_block said_else_clause said_finally said_next_generator said_type_clause
      said_expr_list said_flat said_next_expr said_operand said_run
  elif_said l =
      fold-roll-Elif Said Said Said Said Said Said Said Said Said Said Said SaidEntry SaidEntry Said
      Said Said SaidElse Said Said SaidEntry Said Said Said Said Said delimited_step item_step
      atom_step expr_step flat_part_step generator_step head_step postfix_step run_part_step
      variable_step also_step block_item_step case_clause_step catch_step elif_step else_block_step
      else_clause_step finally_step next_generator_step type_clause_step expr_list_step flat_step
      next_expr_step operand_step run_step l

  elif_formed : (l : Elif-F Delimited ItemTree Atom Expr FlatPart GeneratorTree Head Postfix RunPart
      Variable Also BlockItem CaseClause Catch Elif ElseBlock ElseClause Finally NextGenerator
      TypeClause ExprList Flat NextExpr Operand Run)
      → formed_elif k (roll-Elif l) ≡ form_elif (elif_forms l)
  unfolding formed_delimited formed_item formed_atom formed_expr formed_flat_part formed_generator
      formed_head formed_postfix formed_run_part formed_variable formed_also formed_block_item
      formed_case_clause formed_catch formed_elif formed_else_block formed_else_clause
      formed_finally formed_next_generator formed_type_clause formed_expr_list formed_flat
      formed_next_expr formed_operand formed_run
  elif_formed l =
      fold-roll-Elif Form Placed Form Form Form FormGenerator Opening Form Form Placed Form Placed
      Branch Catching Branch Form Form Form FormGenerator TypeBranch Listed Form Form Form Form
      form_delimited (form_item k) (form_atom k) form_expr form_flat_part form_generator
      (form_head k) form_postfix form_run_part (form_variable k) form_also form_block_item
      form_case_clause form_catch form_elif form_else_block form_else_clause form_finally
      form_next_generator (form_type_clause k) form_expr_list (form_flat k) form_next_expr
      form_operand form_run l

  elif_level : (y : Elif-F OneDelimited OneItem OneAtom OneExpr OneFlatPart OneGenerator OneHead
      OnePostfix OneRunPart OneVariable OneAlso OneBlockItem OneCaseClause OneCatch OneElif
      OneElseBlock OneElseClause OneFinally OneNextGenerator OneTypeClause OneExprList OneFlat
      OneNextExpr OneOperand OneRun) → ElifReads names (elif_saids (elif_parts y))
      → GoodBranch (form_elif (elif_forms (elif_parts y)))
  elif_level y h = good-branch _ _ (y.condition.1 h.0) (blocked y.then y.block h.1)

  elif_shown : (x : Elif-F Delimited ItemTree Atom Expr FlatPart GeneratorTree Head Postfix RunPart
      Variable Also BlockItem CaseClause Catch Elif ElseBlock ElseClause Finally NextGenerator
      TypeClause ExprList Flat NextExpr Operand Run)
      (y : Elif-F OneDelimited OneItem OneAtom OneExpr OneFlatPart OneGenerator OneHead OnePostfix
      OneRunPart OneVariable OneAlso OneBlockItem OneCaseClause OneCatch OneElif OneElseBlock
      OneElseClause OneFinally OneNextGenerator OneTypeClause OneExprList OneFlat OneNextExpr
      OneOperand OneRun) → elif_parts y ≡ x → IsElif (roll-Elif x)
  elif_shown x y is =
      subst (λ x. IsElif (roll-Elif x)) is (λ h. subst GoodBranch (sym (elif_formed (elif_parts y)))
      (elif_level y
      (elif-parts names (elif_saids (elif_parts y))
      (subst (Reads names) (elif_said (elif_parts y)) h))))

  -- ---- ElseBlock

  abbrev else_block_parts : ElseBlock-F OneDelimited OneItem OneAtom OneExpr OneFlatPart
      OneGenerator OneHead OnePostfix OneRunPart OneVariable OneAlso OneBlockItem OneCaseClause
      OneCatch OneElif OneElseBlock OneElseClause OneFinally OneNextGenerator OneTypeClause
      OneExprList OneFlat OneNextExpr OneOperand OneRun
      → ElseBlock-F Delimited ItemTree Atom Expr FlatPart GeneratorTree Head Postfix RunPart
      Variable Also BlockItem CaseClause Catch Elif ElseBlock ElseClause Finally NextGenerator
      TypeClause ExprList Flat NextExpr Operand Run
  else_block_parts =
      map-ElseBlock OneDelimited OneItem OneAtom OneExpr OneFlatPart OneGenerator OneHead OnePostfix
      OneRunPart OneVariable OneAlso OneBlockItem OneCaseClause OneCatch OneElif OneElseBlock
      OneElseClause OneFinally OneNextGenerator OneTypeClause OneExprList OneFlat OneNextExpr
      OneOperand OneRun Delimited ItemTree Atom Expr FlatPart GeneratorTree Head Postfix RunPart
      Variable Also BlockItem CaseClause Catch Elif ElseBlock ElseClause Finally NextGenerator
      TypeClause ExprList Flat NextExpr Operand Run (λ e. e.0) (λ e. e.0) (λ e. e.0) (λ e. e.0)
      (λ e. e.0) (λ e. e.0) (λ e. e.0) (λ e. e.0) (λ e. e.0) (λ e. e.0) (λ e. e.0) (λ e. e.0)
      (λ e. e.0) (λ e. e.0) (λ e. e.0) (λ e. e.0) (λ e. e.0) (λ e. e.0) (λ e. e.0) (λ e. e.0)
      (λ e. e.0) (λ e. e.0) (λ e. e.0) (λ e. e.0) (λ e. e.0)

  abbrev else_block_saids : ElseBlock-F Delimited ItemTree Atom Expr FlatPart GeneratorTree Head
      Postfix RunPart Variable Also BlockItem CaseClause Catch Elif ElseBlock ElseClause Finally
      NextGenerator TypeClause ExprList Flat NextExpr Operand Run
      → ElseBlock-F Said Said Said Said Said Said Said Said Said Said Said SaidEntry SaidEntry Said
      Said Said SaidElse Said Said SaidEntry Said Said Said Said Said
  else_block_saids =
      map-ElseBlock Delimited ItemTree Atom Expr FlatPart GeneratorTree Head Postfix RunPart
      Variable Also BlockItem CaseClause Catch Elif ElseBlock ElseClause Finally NextGenerator
      TypeClause ExprList Flat NextExpr Operand Run Said Said Said Said Said Said Said Said Said
      Said Said SaidEntry SaidEntry Said Said Said SaidElse Said Said SaidEntry Said Said Said Said
      Said said_delimited said_item said_atom said_expr said_flat_part said_generator said_head
      said_postfix said_run_part said_variable said_also said_block_item said_case_clause said_catch
      said_elif said_else_block said_else_clause said_finally said_next_generator said_type_clause
      said_expr_list said_flat said_next_expr said_operand said_run

  abbrev else_block_forms : ElseBlock-F Delimited ItemTree Atom Expr FlatPart GeneratorTree Head
      Postfix RunPart Variable Also BlockItem CaseClause Catch Elif ElseBlock ElseClause Finally
      NextGenerator TypeClause ExprList Flat NextExpr Operand Run
      → ElseBlock-F Form Placed Form Form Form FormGenerator Opening Form Form Placed Form Placed
      Branch Catching Branch Form Form Form FormGenerator TypeBranch Listed Form Form Form Form
  else_block_forms =
      map-ElseBlock Delimited ItemTree Atom Expr FlatPart GeneratorTree Head Postfix RunPart
      Variable Also BlockItem CaseClause Catch Elif ElseBlock ElseClause Finally NextGenerator
      TypeClause ExprList Flat NextExpr Operand Run Form Placed Form Form Form FormGenerator Opening
      Form Form Placed Form Placed Branch Catching Branch Form Form Form FormGenerator TypeBranch
      Listed Form Form Form Form (formed_delimited k) (formed_item k) (formed_atom k)
      (formed_expr k) (formed_flat_part k) (formed_generator k) (formed_head k) (formed_postfix k)
      (formed_run_part k) (formed_variable k) (formed_also k) (formed_block_item k)
      (formed_case_clause k) (formed_catch k) (formed_elif k) (formed_else_block k)
      (formed_else_clause k) (formed_finally k) (formed_next_generator k) (formed_type_clause k)
      (formed_expr_list k) (formed_flat k) (formed_next_expr k) (formed_operand k) (formed_run k)

  else_block_said : (l : ElseBlock-F Delimited ItemTree Atom Expr FlatPart GeneratorTree Head
      Postfix RunPart Variable Also BlockItem CaseClause Catch Elif ElseBlock ElseClause Finally
      NextGenerator TypeClause ExprList Flat NextExpr Operand Run)
      → said_else_block (roll-ElseBlock l) ≡ else_block_step (else_block_saids l)
  unfolding said_delimited said_item said_atom said_expr said_flat_part said_generator said_head
      said_postfix said_run_part said_variable said_also said_block_item said_case_clause said_catch
      said_elif said_else_block said_else_clause said_finally said_next_generator said_type_clause
      said_expr_list said_flat said_next_expr said_operand said_run
  else_block_said l =
      fold-roll-ElseBlock Said Said Said Said Said Said Said Said Said Said Said SaidEntry SaidEntry
      Said Said Said SaidElse Said Said SaidEntry Said Said Said Said Said delimited_step item_step
      atom_step expr_step flat_part_step generator_step head_step postfix_step run_part_step
      variable_step also_step block_item_step case_clause_step catch_step elif_step else_block_step
      else_clause_step finally_step next_generator_step type_clause_step expr_list_step flat_step
      next_expr_step operand_step run_step l

  else_block_formed : (l : ElseBlock-F Delimited ItemTree Atom Expr FlatPart GeneratorTree Head
      Postfix RunPart Variable Also BlockItem CaseClause Catch Elif ElseBlock ElseClause Finally
      NextGenerator TypeClause ExprList Flat NextExpr Operand Run)
      → formed_else_block k (roll-ElseBlock l) ≡ form_else_block (else_block_forms l)
  unfolding formed_delimited formed_item formed_atom formed_expr formed_flat_part formed_generator
      formed_head formed_postfix formed_run_part formed_variable formed_also formed_block_item
      formed_case_clause formed_catch formed_elif formed_else_block formed_else_clause
      formed_finally formed_next_generator formed_type_clause formed_expr_list formed_flat
      formed_next_expr formed_operand formed_run
  else_block_formed l =
      fold-roll-ElseBlock Form Placed Form Form Form FormGenerator Opening Form Form Placed Form
      Placed Branch Catching Branch Form Form Form FormGenerator TypeBranch Listed Form Form Form
      Form form_delimited (form_item k) (form_atom k) form_expr form_flat_part form_generator
      (form_head k) form_postfix form_run_part (form_variable k) form_also form_block_item
      form_case_clause form_catch form_elif form_else_block form_else_clause form_finally
      form_next_generator (form_type_clause k) form_expr_list (form_flat k) form_next_expr
      form_operand form_run l

  else_block_level : (y : ElseBlock-F OneDelimited OneItem OneAtom OneExpr OneFlatPart OneGenerator
      OneHead OnePostfix OneRunPart OneVariable OneAlso OneBlockItem OneCaseClause OneCatch
      OneElif OneElseBlock OneElseClause OneFinally OneNextGenerator OneTypeClause OneExprList
      OneFlat OneNextExpr OneOperand OneRun)
      → ElseBlockReads names (else_block_saids (else_block_parts y))
      → HasFigures (form_else_block (else_block_forms (else_block_parts y)))
  else_block_level y h = blocked y.else_ y.block h

  else_block_shown : (x : ElseBlock-F Delimited ItemTree Atom Expr FlatPart GeneratorTree Head
      Postfix RunPart Variable Also BlockItem CaseClause Catch Elif ElseBlock ElseClause Finally
      NextGenerator TypeClause ExprList Flat NextExpr Operand Run)
      (y : ElseBlock-F OneDelimited OneItem OneAtom OneExpr OneFlatPart OneGenerator OneHead
      OnePostfix OneRunPart OneVariable OneAlso OneBlockItem OneCaseClause OneCatch OneElif
      OneElseBlock OneElseClause OneFinally OneNextGenerator OneTypeClause OneExprList OneFlat
      OneNextExpr OneOperand OneRun) → else_block_parts y ≡ x → IsElseBlock (roll-ElseBlock x)
  else_block_shown x y is =
      subst (λ x. IsElseBlock (roll-ElseBlock x)) is
      (λ h. subst HasFigures (sym (else_block_formed (else_block_parts y)))
      (else_block_level y
      (else-block-parts names (else_block_saids (else_block_parts y))
      (subst (Reads names) (else_block_said (else_block_parts y)) h))))

  -- ---- ElseClause

  abbrev else_clause_parts : ElseClause-F OneDelimited OneItem OneAtom OneExpr OneFlatPart
      OneGenerator OneHead OnePostfix OneRunPart OneVariable OneAlso OneBlockItem OneCaseClause
      OneCatch OneElif OneElseBlock OneElseClause OneFinally OneNextGenerator OneTypeClause
      OneExprList OneFlat OneNextExpr OneOperand OneRun
      → ElseClause-F Delimited ItemTree Atom Expr FlatPart GeneratorTree Head Postfix RunPart
      Variable Also BlockItem CaseClause Catch Elif ElseBlock ElseClause Finally NextGenerator
      TypeClause ExprList Flat NextExpr Operand Run
  else_clause_parts =
      map-ElseClause OneDelimited OneItem OneAtom OneExpr OneFlatPart OneGenerator OneHead
      OnePostfix OneRunPart OneVariable OneAlso OneBlockItem OneCaseClause OneCatch OneElif
      OneElseBlock OneElseClause OneFinally OneNextGenerator OneTypeClause OneExprList OneFlat
      OneNextExpr OneOperand OneRun Delimited ItemTree Atom Expr FlatPart GeneratorTree Head Postfix
      RunPart Variable Also BlockItem CaseClause Catch Elif ElseBlock ElseClause Finally
      NextGenerator TypeClause ExprList Flat NextExpr Operand Run (λ e. e.0) (λ e. e.0) (λ e. e.0)
      (λ e. e.0) (λ e. e.0) (λ e. e.0) (λ e. e.0) (λ e. e.0) (λ e. e.0) (λ e. e.0) (λ e. e.0)
      (λ e. e.0) (λ e. e.0) (λ e. e.0) (λ e. e.0) (λ e. e.0) (λ e. e.0) (λ e. e.0) (λ e. e.0)
      (λ e. e.0) (λ e. e.0) (λ e. e.0) (λ e. e.0) (λ e. e.0) (λ e. e.0)

  abbrev else_clause_saids : ElseClause-F Delimited ItemTree Atom Expr FlatPart GeneratorTree Head
      Postfix RunPart Variable Also BlockItem CaseClause Catch Elif ElseBlock ElseClause Finally
      NextGenerator TypeClause ExprList Flat NextExpr Operand Run
      → ElseClause-F Said Said Said Said Said Said Said Said Said Said Said SaidEntry SaidEntry Said
      Said Said SaidElse Said Said SaidEntry Said Said Said Said Said
  else_clause_saids =
      map-ElseClause Delimited ItemTree Atom Expr FlatPart GeneratorTree Head Postfix RunPart
      Variable Also BlockItem CaseClause Catch Elif ElseBlock ElseClause Finally NextGenerator
      TypeClause ExprList Flat NextExpr Operand Run Said Said Said Said Said Said Said Said Said
      Said Said SaidEntry SaidEntry Said Said Said SaidElse Said Said SaidEntry Said Said Said Said
      Said said_delimited said_item said_atom said_expr said_flat_part said_generator said_head
      said_postfix said_run_part said_variable said_also said_block_item said_case_clause said_catch
      said_elif said_else_block said_else_clause said_finally said_next_generator said_type_clause
      said_expr_list said_flat said_next_expr said_operand said_run

  abbrev else_clause_forms : ElseClause-F Delimited ItemTree Atom Expr FlatPart GeneratorTree Head
      Postfix RunPart Variable Also BlockItem CaseClause Catch Elif ElseBlock ElseClause Finally
      NextGenerator TypeClause ExprList Flat NextExpr Operand Run
      → ElseClause-F Form Placed Form Form Form FormGenerator Opening Form Form Placed Form Placed
      Branch Catching Branch Form Form Form FormGenerator TypeBranch Listed Form Form Form Form
  else_clause_forms =
      map-ElseClause Delimited ItemTree Atom Expr FlatPart GeneratorTree Head Postfix RunPart
      Variable Also BlockItem CaseClause Catch Elif ElseBlock ElseClause Finally NextGenerator
      TypeClause ExprList Flat NextExpr Operand Run Form Placed Form Form Form FormGenerator Opening
      Form Form Placed Form Placed Branch Catching Branch Form Form Form FormGenerator TypeBranch
      Listed Form Form Form Form (formed_delimited k) (formed_item k) (formed_atom k)
      (formed_expr k) (formed_flat_part k) (formed_generator k) (formed_head k) (formed_postfix k)
      (formed_run_part k) (formed_variable k) (formed_also k) (formed_block_item k)
      (formed_case_clause k) (formed_catch k) (formed_elif k) (formed_else_block k)
      (formed_else_clause k) (formed_finally k) (formed_next_generator k) (formed_type_clause k)
      (formed_expr_list k) (formed_flat k) (formed_next_expr k) (formed_operand k) (formed_run k)

  else_clause_said : (l : ElseClause-F Delimited ItemTree Atom Expr FlatPart GeneratorTree Head
      Postfix RunPart Variable Also BlockItem CaseClause Catch Elif ElseBlock ElseClause Finally
      NextGenerator TypeClause ExprList Flat NextExpr Operand Run)
      → said_else_clause (roll-ElseClause l) ≡ else_clause_step (else_clause_saids l)
  unfolding said_delimited said_item said_atom said_expr said_flat_part said_generator said_head
      said_postfix said_run_part said_variable said_also said_block_item said_case_clause said_catch
      said_elif said_else_block said_else_clause said_finally said_next_generator said_type_clause
      said_expr_list said_flat said_next_expr said_operand said_run
  else_clause_said l =
      fold-roll-ElseClause Said Said Said Said Said Said Said Said Said Said Said SaidEntry
      SaidEntry Said Said Said SaidElse Said Said SaidEntry Said Said Said Said Said delimited_step
      item_step atom_step expr_step flat_part_step generator_step head_step postfix_step
      run_part_step variable_step also_step block_item_step case_clause_step catch_step elif_step
      else_block_step else_clause_step finally_step next_generator_step type_clause_step
      expr_list_step flat_step next_expr_step operand_step run_step l

  else_clause_formed : (l : ElseClause-F Delimited ItemTree Atom Expr FlatPart GeneratorTree Head
      Postfix RunPart Variable Also BlockItem CaseClause Catch Elif ElseBlock ElseClause Finally
      NextGenerator TypeClause ExprList Flat NextExpr Operand Run)
      → formed_else_clause k (roll-ElseClause l) ≡ form_else_clause (else_clause_forms l)
  unfolding formed_delimited formed_item formed_atom formed_expr formed_flat_part formed_generator
      formed_head formed_postfix formed_run_part formed_variable formed_also formed_block_item
      formed_case_clause formed_catch formed_elif formed_else_block formed_else_clause
      formed_finally formed_next_generator formed_type_clause formed_expr_list formed_flat
      formed_next_expr formed_operand formed_run
  else_clause_formed l =
      fold-roll-ElseClause Form Placed Form Form Form FormGenerator Opening Form Form Placed Form
      Placed Branch Catching Branch Form Form Form FormGenerator TypeBranch Listed Form Form Form
      Form form_delimited (form_item k) (form_atom k) form_expr form_flat_part form_generator
      (form_head k) form_postfix form_run_part (form_variable k) form_also form_block_item
      form_case_clause form_catch form_elif form_else_block form_else_clause form_finally
      form_next_generator (form_type_clause k) form_expr_list (form_flat k) form_next_expr
      form_operand form_run l

  else_clause_level : (y : ElseClause-F OneDelimited OneItem OneAtom OneExpr OneFlatPart
      OneGenerator OneHead OnePostfix OneRunPart OneVariable OneAlso OneBlockItem OneCaseClause
      OneCatch OneElif OneElseBlock OneElseClause OneFinally OneNextGenerator OneTypeClause
      OneExprList OneFlat OneNextExpr OneOperand OneRun)
      → ElseClauseReads names (else_clause_saids (else_clause_parts y))
      → HasFigures (form_else_clause (else_clause_forms (else_clause_parts y)))
  else_clause_level y h = y.value.1 h

  else_clause_shown : (x : ElseClause-F Delimited ItemTree Atom Expr FlatPart GeneratorTree Head
      Postfix RunPart Variable Also BlockItem CaseClause Catch Elif ElseBlock ElseClause Finally
      NextGenerator TypeClause ExprList Flat NextExpr Operand Run)
      (y : ElseClause-F OneDelimited OneItem OneAtom OneExpr OneFlatPart OneGenerator OneHead
      OnePostfix OneRunPart OneVariable OneAlso OneBlockItem OneCaseClause OneCatch OneElif
      OneElseBlock OneElseClause OneFinally OneNextGenerator OneTypeClause OneExprList OneFlat
      OneNextExpr OneOperand OneRun) → else_clause_parts y ≡ x
      → IsElseClause (roll-ElseClause x)
  else_clause_shown x y is =
      subst (λ x. IsElseClause (roll-ElseClause x)) is
      (λ h. subst HasFigures (sym (else_clause_formed (else_clause_parts y)))
      (else_clause_level y
      (else-clause-parts names (else_clause_saids (else_clause_parts y))
      (subst (ReadsElse names) (else_clause_said (else_clause_parts y)) h))))

  -- ---- Finally

  abbrev finally_parts : Finally-F OneDelimited OneItem OneAtom OneExpr OneFlatPart OneGenerator
      OneHead OnePostfix OneRunPart OneVariable OneAlso OneBlockItem OneCaseClause OneCatch OneElif
      OneElseBlock OneElseClause OneFinally OneNextGenerator OneTypeClause OneExprList OneFlat
      OneNextExpr OneOperand OneRun
      → Finally-F Delimited ItemTree Atom Expr FlatPart GeneratorTree Head Postfix RunPart Variable
      Also BlockItem CaseClause Catch Elif ElseBlock ElseClause Finally NextGenerator TypeClause
      ExprList Flat NextExpr Operand Run
  finally_parts =
      map-Finally OneDelimited OneItem OneAtom OneExpr OneFlatPart OneGenerator OneHead OnePostfix
      OneRunPart OneVariable OneAlso OneBlockItem OneCaseClause OneCatch OneElif OneElseBlock
      OneElseClause OneFinally OneNextGenerator OneTypeClause OneExprList OneFlat OneNextExpr
      OneOperand OneRun Delimited ItemTree Atom Expr FlatPart GeneratorTree Head Postfix RunPart
      Variable Also BlockItem CaseClause Catch Elif ElseBlock ElseClause Finally NextGenerator
      TypeClause ExprList Flat NextExpr Operand Run (λ e. e.0) (λ e. e.0) (λ e. e.0) (λ e. e.0)
      (λ e. e.0) (λ e. e.0) (λ e. e.0) (λ e. e.0) (λ e. e.0) (λ e. e.0) (λ e. e.0) (λ e. e.0)
      (λ e. e.0) (λ e. e.0) (λ e. e.0) (λ e. e.0) (λ e. e.0) (λ e. e.0) (λ e. e.0) (λ e. e.0)
      (λ e. e.0) (λ e. e.0) (λ e. e.0) (λ e. e.0) (λ e. e.0)

  abbrev finally_saids : Finally-F Delimited ItemTree Atom Expr FlatPart GeneratorTree Head Postfix
      RunPart Variable Also BlockItem CaseClause Catch Elif ElseBlock ElseClause Finally
      NextGenerator TypeClause ExprList Flat NextExpr Operand Run
      → Finally-F Said Said Said Said Said Said Said Said Said Said Said SaidEntry SaidEntry Said
      Said Said SaidElse Said Said SaidEntry Said Said Said Said Said
  finally_saids =
      map-Finally Delimited ItemTree Atom Expr FlatPart GeneratorTree Head Postfix RunPart Variable
      Also BlockItem CaseClause Catch Elif ElseBlock ElseClause Finally NextGenerator TypeClause
      ExprList Flat NextExpr Operand Run Said Said Said Said Said Said Said Said Said Said Said
      SaidEntry SaidEntry Said Said Said SaidElse Said Said SaidEntry Said Said Said Said Said
      said_delimited said_item said_atom said_expr said_flat_part said_generator said_head
      said_postfix said_run_part said_variable said_also said_block_item said_case_clause said_catch
      said_elif said_else_block said_else_clause said_finally said_next_generator said_type_clause
      said_expr_list said_flat said_next_expr said_operand said_run

  abbrev finally_forms : Finally-F Delimited ItemTree Atom Expr FlatPart GeneratorTree Head Postfix
      RunPart Variable Also BlockItem CaseClause Catch Elif ElseBlock ElseClause Finally
      NextGenerator TypeClause ExprList Flat NextExpr Operand Run
      → Finally-F Form Placed Form Form Form FormGenerator Opening Form Form Placed Form Placed
      Branch Catching Branch Form Form Form FormGenerator TypeBranch Listed Form Form Form Form
  finally_forms =
      map-Finally Delimited ItemTree Atom Expr FlatPart GeneratorTree Head Postfix RunPart Variable
      Also BlockItem CaseClause Catch Elif ElseBlock ElseClause Finally NextGenerator TypeClause
      ExprList Flat NextExpr Operand Run Form Placed Form Form Form FormGenerator Opening Form Form
      Placed Form Placed Branch Catching Branch Form Form Form FormGenerator TypeBranch Listed Form
      Form Form Form (formed_delimited k) (formed_item k) (formed_atom k) (formed_expr k)
      (formed_flat_part k) (formed_generator k) (formed_head k) (formed_postfix k)
      (formed_run_part k) (formed_variable k) (formed_also k) (formed_block_item k)
      (formed_case_clause k) (formed_catch k) (formed_elif k) (formed_else_block k)
      (formed_else_clause k) (formed_finally k) (formed_next_generator k) (formed_type_clause k)
      (formed_expr_list k) (formed_flat k) (formed_next_expr k) (formed_operand k) (formed_run k)

  finally_said : (l : Finally-F Delimited ItemTree Atom Expr FlatPart GeneratorTree Head Postfix
      RunPart Variable Also BlockItem CaseClause Catch Elif ElseBlock ElseClause Finally
      NextGenerator TypeClause ExprList Flat NextExpr Operand Run)
      → said_finally (roll-Finally l) ≡ finally_step (finally_saids l)
  unfolding said_delimited said_item said_atom said_expr said_flat_part said_generator said_head
      said_postfix said_run_part said_variable said_also said_block_item said_case_clause said_catch
      said_elif said_else_block said_else_clause said_finally said_next_generator said_type_clause
      said_expr_list said_flat said_next_expr said_operand said_run
  finally_said l =
      fold-roll-Finally Said Said Said Said Said Said Said Said Said Said Said SaidEntry SaidEntry
      Said Said Said SaidElse Said Said SaidEntry Said Said Said Said Said delimited_step item_step
      atom_step expr_step flat_part_step generator_step head_step postfix_step run_part_step
      variable_step also_step block_item_step case_clause_step catch_step elif_step else_block_step
      else_clause_step finally_step next_generator_step type_clause_step expr_list_step flat_step
      next_expr_step operand_step run_step l

  finally_formed : (l : Finally-F Delimited ItemTree Atom Expr FlatPart GeneratorTree Head Postfix
      RunPart Variable Also BlockItem CaseClause Catch Elif ElseBlock ElseClause Finally
      NextGenerator TypeClause ExprList Flat NextExpr Operand Run)
      → formed_finally k (roll-Finally l) ≡ form_finally (finally_forms l)
  unfolding formed_delimited formed_item formed_atom formed_expr formed_flat_part formed_generator
      formed_head formed_postfix formed_run_part formed_variable formed_also formed_block_item
      formed_case_clause formed_catch formed_elif formed_else_block formed_else_clause
      formed_finally formed_next_generator formed_type_clause formed_expr_list formed_flat
      formed_next_expr formed_operand formed_run
  finally_formed l =
      fold-roll-Finally Form Placed Form Form Form FormGenerator Opening Form Form Placed Form
      Placed Branch Catching Branch Form Form Form FormGenerator TypeBranch Listed Form Form Form
      Form form_delimited (form_item k) (form_atom k) form_expr form_flat_part form_generator
      (form_head k) form_postfix form_run_part (form_variable k) form_also form_block_item
      form_case_clause form_catch form_elif form_else_block form_else_clause form_finally
      form_next_generator (form_type_clause k) form_expr_list (form_flat k) form_next_expr
      form_operand form_run l

  finally_level : (y : Finally-F OneDelimited OneItem OneAtom OneExpr OneFlatPart OneGenerator
      OneHead OnePostfix OneRunPart OneVariable OneAlso OneBlockItem OneCaseClause OneCatch
      OneElif OneElseBlock OneElseClause OneFinally OneNextGenerator OneTypeClause OneExprList
      OneFlat OneNextExpr OneOperand OneRun)
      → FinallyReads names (finally_saids (finally_parts y))
      → HasFigures (form_finally (finally_forms (finally_parts y)))
  finally_level y h = blocked y.finally y.block h

  finally_shown : (x : Finally-F Delimited ItemTree Atom Expr FlatPart GeneratorTree Head Postfix
      RunPart Variable Also BlockItem CaseClause Catch Elif ElseBlock ElseClause Finally
      NextGenerator TypeClause ExprList Flat NextExpr Operand Run)
      (y : Finally-F OneDelimited OneItem OneAtom OneExpr OneFlatPart OneGenerator OneHead
      OnePostfix OneRunPart OneVariable OneAlso OneBlockItem OneCaseClause OneCatch OneElif
      OneElseBlock OneElseClause OneFinally OneNextGenerator OneTypeClause OneExprList OneFlat
      OneNextExpr OneOperand OneRun) → finally_parts y ≡ x → IsFinally (roll-Finally x)
  finally_shown x y is =
      subst (λ x. IsFinally (roll-Finally x)) is
      (λ h. subst HasFigures (sym (finally_formed (finally_parts y)))
      (finally_level y
      (finally-parts names (finally_saids (finally_parts y))
      (subst (Reads names) (finally_said (finally_parts y)) h))))

  -- ---- NextGenerator

  abbrev next_generator_parts : NextGenerator-F OneDelimited OneItem OneAtom OneExpr OneFlatPart
      OneGenerator OneHead OnePostfix OneRunPart OneVariable OneAlso OneBlockItem OneCaseClause
      OneCatch OneElif OneElseBlock OneElseClause OneFinally OneNextGenerator OneTypeClause
      OneExprList OneFlat OneNextExpr OneOperand OneRun
      → NextGenerator-F Delimited ItemTree Atom Expr FlatPart GeneratorTree Head Postfix RunPart
      Variable Also BlockItem CaseClause Catch Elif ElseBlock ElseClause Finally NextGenerator
      TypeClause ExprList Flat NextExpr Operand Run
  next_generator_parts =
      map-NextGenerator OneDelimited OneItem OneAtom OneExpr OneFlatPart OneGenerator OneHead
      OnePostfix OneRunPart OneVariable OneAlso OneBlockItem OneCaseClause OneCatch OneElif
      OneElseBlock OneElseClause OneFinally OneNextGenerator OneTypeClause OneExprList OneFlat
      OneNextExpr OneOperand OneRun Delimited ItemTree Atom Expr FlatPart GeneratorTree Head Postfix
      RunPart Variable Also BlockItem CaseClause Catch Elif ElseBlock ElseClause Finally
      NextGenerator TypeClause ExprList Flat NextExpr Operand Run (λ e. e.0) (λ e. e.0) (λ e. e.0)
      (λ e. e.0) (λ e. e.0) (λ e. e.0) (λ e. e.0) (λ e. e.0) (λ e. e.0) (λ e. e.0) (λ e. e.0)
      (λ e. e.0) (λ e. e.0) (λ e. e.0) (λ e. e.0) (λ e. e.0) (λ e. e.0) (λ e. e.0) (λ e. e.0)
      (λ e. e.0) (λ e. e.0) (λ e. e.0) (λ e. e.0) (λ e. e.0) (λ e. e.0)

  abbrev next_generator_saids : NextGenerator-F Delimited ItemTree Atom Expr FlatPart GeneratorTree
      Head Postfix RunPart Variable Also BlockItem CaseClause Catch Elif ElseBlock ElseClause
      Finally NextGenerator TypeClause ExprList Flat NextExpr Operand Run
      → NextGenerator-F Said Said Said Said Said Said Said Said Said Said Said SaidEntry SaidEntry
      Said Said Said SaidElse Said Said SaidEntry Said Said Said Said Said
  next_generator_saids =
      map-NextGenerator Delimited ItemTree Atom Expr FlatPart GeneratorTree Head Postfix RunPart
      Variable Also BlockItem CaseClause Catch Elif ElseBlock ElseClause Finally NextGenerator
      TypeClause ExprList Flat NextExpr Operand Run Said Said Said Said Said Said Said Said Said
      Said Said SaidEntry SaidEntry Said Said Said SaidElse Said Said SaidEntry Said Said Said Said
      Said said_delimited said_item said_atom said_expr said_flat_part said_generator said_head
      said_postfix said_run_part said_variable said_also said_block_item said_case_clause said_catch
      said_elif said_else_block said_else_clause said_finally said_next_generator said_type_clause
      said_expr_list said_flat said_next_expr said_operand said_run

  abbrev next_generator_forms : NextGenerator-F Delimited ItemTree Atom Expr FlatPart GeneratorTree
      Head Postfix RunPart Variable Also BlockItem CaseClause Catch Elif ElseBlock ElseClause
      Finally NextGenerator TypeClause ExprList Flat NextExpr Operand Run
      → NextGenerator-F Form Placed Form Form Form FormGenerator Opening Form Form Placed Form
      Placed Branch Catching Branch Form Form Form FormGenerator TypeBranch Listed Form Form Form
      Form
  next_generator_forms =
      map-NextGenerator Delimited ItemTree Atom Expr FlatPart GeneratorTree Head Postfix RunPart
      Variable Also BlockItem CaseClause Catch Elif ElseBlock ElseClause Finally NextGenerator
      TypeClause ExprList Flat NextExpr Operand Run Form Placed Form Form Form FormGenerator Opening
      Form Form Placed Form Placed Branch Catching Branch Form Form Form FormGenerator TypeBranch
      Listed Form Form Form Form (formed_delimited k) (formed_item k) (formed_atom k)
      (formed_expr k) (formed_flat_part k) (formed_generator k) (formed_head k) (formed_postfix k)
      (formed_run_part k) (formed_variable k) (formed_also k) (formed_block_item k)
      (formed_case_clause k) (formed_catch k) (formed_elif k) (formed_else_block k)
      (formed_else_clause k) (formed_finally k) (formed_next_generator k) (formed_type_clause k)
      (formed_expr_list k) (formed_flat k) (formed_next_expr k) (formed_operand k) (formed_run k)

  next_generator_said : (l : NextGenerator-F Delimited ItemTree Atom Expr FlatPart GeneratorTree
      Head Postfix RunPart Variable Also BlockItem CaseClause Catch Elif ElseBlock ElseClause
      Finally NextGenerator TypeClause ExprList Flat NextExpr Operand Run)
      → said_next_generator (roll-NextGenerator l) ≡ next_generator_step (next_generator_saids l)
  unfolding said_delimited said_item said_atom said_expr said_flat_part said_generator said_head
      said_postfix said_run_part said_variable said_also said_block_item said_case_clause said_catch
      said_elif said_else_block said_else_clause said_finally said_next_generator said_type_clause
      said_expr_list said_flat said_next_expr said_operand said_run
  next_generator_said l =
      fold-roll-NextGenerator Said Said Said Said Said Said Said Said Said Said Said SaidEntry
      SaidEntry Said Said Said SaidElse Said Said SaidEntry Said Said Said Said Said delimited_step
      item_step atom_step expr_step flat_part_step generator_step head_step postfix_step
      run_part_step variable_step also_step block_item_step case_clause_step catch_step elif_step
      else_block_step else_clause_step finally_step next_generator_step type_clause_step
      expr_list_step flat_step next_expr_step operand_step run_step l

  next_generator_formed : (l : NextGenerator-F Delimited ItemTree Atom Expr FlatPart GeneratorTree
      Head Postfix RunPart Variable Also BlockItem CaseClause Catch Elif ElseBlock ElseClause
      Finally NextGenerator TypeClause ExprList Flat NextExpr Operand Run)
      → formed_next_generator k (roll-NextGenerator l)
      ≡ form_next_generator (next_generator_forms l)
  unfolding formed_delimited formed_item formed_atom formed_expr formed_flat_part formed_generator
      formed_head formed_postfix formed_run_part formed_variable formed_also formed_block_item
      formed_case_clause formed_catch formed_elif formed_else_block formed_else_clause
      formed_finally formed_next_generator formed_type_clause formed_expr_list formed_flat
      formed_next_expr formed_operand formed_run
  next_generator_formed l =
      fold-roll-NextGenerator Form Placed Form Form Form FormGenerator Opening Form Form Placed Form
      Placed Branch Catching Branch Form Form Form FormGenerator TypeBranch Listed Form Form Form
      Form form_delimited (form_item k) (form_atom k) form_expr form_flat_part form_generator
      (form_head k) form_postfix form_run_part (form_variable k) form_also form_block_item
      form_case_clause form_catch form_elif form_else_block form_else_clause form_finally
      form_next_generator (form_type_clause k) form_expr_list (form_flat k) form_next_expr
      form_operand form_run l

  next_generator_level : (y : NextGenerator-F OneDelimited OneItem OneAtom OneExpr OneFlatPart
      OneGenerator OneHead OnePostfix OneRunPart OneVariable OneAlso OneBlockItem OneCaseClause
      OneCatch OneElif OneElseBlock OneElseClause OneFinally OneNextGenerator OneTypeClause
      OneExprList OneFlat OneNextExpr OneOperand OneRun)
      → NextGeneratorReads names (next_generator_saids (next_generator_parts y))
      → GoodGenerator (form_next_generator (next_generator_forms (next_generator_parts y)))
  next_generator_level y h = y.generator.1 h

  next_generator_shown : (x : NextGenerator-F Delimited ItemTree Atom Expr FlatPart GeneratorTree
      Head Postfix RunPart Variable Also BlockItem CaseClause Catch Elif ElseBlock ElseClause
      Finally NextGenerator TypeClause ExprList Flat NextExpr Operand Run)
      (y : NextGenerator-F OneDelimited OneItem OneAtom OneExpr OneFlatPart OneGenerator OneHead
      OnePostfix OneRunPart OneVariable OneAlso OneBlockItem OneCaseClause OneCatch OneElif
      OneElseBlock OneElseClause OneFinally OneNextGenerator OneTypeClause OneExprList OneFlat
      OneNextExpr OneOperand OneRun) → next_generator_parts y ≡ x
      → IsNextGenerator (roll-NextGenerator x)
  next_generator_shown x y is =
      subst (λ x. IsNextGenerator (roll-NextGenerator x)) is
      (λ h. subst GoodGenerator (sym (next_generator_formed (next_generator_parts y)))
      (next_generator_level y
      (next-generator-parts names (next_generator_saids (next_generator_parts y))
      (subst (Reads names) (next_generator_said (next_generator_parts y)) h))))

  -- ---- TypeClause

  abbrev type_clause_parts : TypeClause-F OneDelimited OneItem OneAtom OneExpr OneFlatPart
      OneGenerator OneHead OnePostfix OneRunPart OneVariable OneAlso OneBlockItem OneCaseClause
      OneCatch OneElif OneElseBlock OneElseClause OneFinally OneNextGenerator OneTypeClause
      OneExprList OneFlat OneNextExpr OneOperand OneRun
      → TypeClause-F Delimited ItemTree Atom Expr FlatPart GeneratorTree Head Postfix RunPart
      Variable Also BlockItem CaseClause Catch Elif ElseBlock ElseClause Finally NextGenerator
      TypeClause ExprList Flat NextExpr Operand Run
  type_clause_parts =
      map-TypeClause OneDelimited OneItem OneAtom OneExpr OneFlatPart OneGenerator OneHead
      OnePostfix OneRunPart OneVariable OneAlso OneBlockItem OneCaseClause OneCatch OneElif
      OneElseBlock OneElseClause OneFinally OneNextGenerator OneTypeClause OneExprList OneFlat
      OneNextExpr OneOperand OneRun Delimited ItemTree Atom Expr FlatPart GeneratorTree Head Postfix
      RunPart Variable Also BlockItem CaseClause Catch Elif ElseBlock ElseClause Finally
      NextGenerator TypeClause ExprList Flat NextExpr Operand Run (λ e. e.0) (λ e. e.0) (λ e. e.0)
      (λ e. e.0) (λ e. e.0) (λ e. e.0) (λ e. e.0) (λ e. e.0) (λ e. e.0) (λ e. e.0) (λ e. e.0)
      (λ e. e.0) (λ e. e.0) (λ e. e.0) (λ e. e.0) (λ e. e.0) (λ e. e.0) (λ e. e.0) (λ e. e.0)
      (λ e. e.0) (λ e. e.0) (λ e. e.0) (λ e. e.0) (λ e. e.0) (λ e. e.0)

  abbrev type_clause_saids : TypeClause-F Delimited ItemTree Atom Expr FlatPart GeneratorTree Head
      Postfix RunPart Variable Also BlockItem CaseClause Catch Elif ElseBlock ElseClause Finally
      NextGenerator TypeClause ExprList Flat NextExpr Operand Run
      → TypeClause-F Said Said Said Said Said Said Said Said Said Said Said SaidEntry SaidEntry Said
      Said Said SaidElse Said Said SaidEntry Said Said Said Said Said
  type_clause_saids =
      map-TypeClause Delimited ItemTree Atom Expr FlatPart GeneratorTree Head Postfix RunPart
      Variable Also BlockItem CaseClause Catch Elif ElseBlock ElseClause Finally NextGenerator
      TypeClause ExprList Flat NextExpr Operand Run Said Said Said Said Said Said Said Said Said
      Said Said SaidEntry SaidEntry Said Said Said SaidElse Said Said SaidEntry Said Said Said Said
      Said said_delimited said_item said_atom said_expr said_flat_part said_generator said_head
      said_postfix said_run_part said_variable said_also said_block_item said_case_clause said_catch
      said_elif said_else_block said_else_clause said_finally said_next_generator said_type_clause
      said_expr_list said_flat said_next_expr said_operand said_run

  abbrev type_clause_forms : TypeClause-F Delimited ItemTree Atom Expr FlatPart GeneratorTree Head
      Postfix RunPart Variable Also BlockItem CaseClause Catch Elif ElseBlock ElseClause Finally
      NextGenerator TypeClause ExprList Flat NextExpr Operand Run
      → TypeClause-F Form Placed Form Form Form FormGenerator Opening Form Form Placed Form Placed
      Branch Catching Branch Form Form Form FormGenerator TypeBranch Listed Form Form Form Form
  type_clause_forms =
      map-TypeClause Delimited ItemTree Atom Expr FlatPart GeneratorTree Head Postfix RunPart
      Variable Also BlockItem CaseClause Catch Elif ElseBlock ElseClause Finally NextGenerator
      TypeClause ExprList Flat NextExpr Operand Run Form Placed Form Form Form FormGenerator Opening
      Form Form Placed Form Placed Branch Catching Branch Form Form Form FormGenerator TypeBranch
      Listed Form Form Form Form (formed_delimited k) (formed_item k) (formed_atom k)
      (formed_expr k) (formed_flat_part k) (formed_generator k) (formed_head k) (formed_postfix k)
      (formed_run_part k) (formed_variable k) (formed_also k) (formed_block_item k)
      (formed_case_clause k) (formed_catch k) (formed_elif k) (formed_else_block k)
      (formed_else_clause k) (formed_finally k) (formed_next_generator k) (formed_type_clause k)
      (formed_expr_list k) (formed_flat k) (formed_next_expr k) (formed_operand k) (formed_run k)

  type_clause_said : (l : TypeClause-F Delimited ItemTree Atom Expr FlatPart GeneratorTree Head
      Postfix RunPart Variable Also BlockItem CaseClause Catch Elif ElseBlock ElseClause Finally
      NextGenerator TypeClause ExprList Flat NextExpr Operand Run)
      → said_type_clause (roll-TypeClause l) ≡ type_clause_step (type_clause_saids l)
  unfolding said_delimited said_item said_atom said_expr said_flat_part said_generator said_head
      said_postfix said_run_part said_variable said_also said_block_item said_case_clause said_catch
      said_elif said_else_block said_else_clause said_finally said_next_generator said_type_clause
      said_expr_list said_flat said_next_expr said_operand said_run
  type_clause_said l =
      fold-roll-TypeClause Said Said Said Said Said Said Said Said Said Said Said SaidEntry
      SaidEntry Said Said Said SaidElse Said Said SaidEntry Said Said Said Said Said delimited_step
      item_step atom_step expr_step flat_part_step generator_step head_step postfix_step
      run_part_step variable_step also_step block_item_step case_clause_step catch_step elif_step
      else_block_step else_clause_step finally_step next_generator_step type_clause_step
      expr_list_step flat_step next_expr_step operand_step run_step l

  type_clause_formed : (l : TypeClause-F Delimited ItemTree Atom Expr FlatPart GeneratorTree Head
      Postfix RunPart Variable Also BlockItem CaseClause Catch Elif ElseBlock ElseClause Finally
      NextGenerator TypeClause ExprList Flat NextExpr Operand Run)
      → formed_type_clause k (roll-TypeClause l) ≡ form_type_clause k (type_clause_forms l)
  unfolding formed_delimited formed_item formed_atom formed_expr formed_flat_part formed_generator
      formed_head formed_postfix formed_run_part formed_variable formed_also formed_block_item
      formed_case_clause formed_catch formed_elif formed_else_block formed_else_clause
      formed_finally formed_next_generator formed_type_clause formed_expr_list formed_flat
      formed_next_expr formed_operand formed_run
  type_clause_formed l =
      fold-roll-TypeClause Form Placed Form Form Form FormGenerator Opening Form Form Placed Form
      Placed Branch Catching Branch Form Form Form FormGenerator TypeBranch Listed Form Form Form
      Form form_delimited (form_item k) (form_atom k) form_expr form_flat_part form_generator
      (form_head k) form_postfix form_run_part (form_variable k) form_also form_block_item
      form_case_clause form_catch form_elif form_else_block form_else_clause form_finally
      form_next_generator (form_type_clause k) form_expr_list (form_flat k) form_next_expr
      form_operand form_run l

  type_clause_level : (y : TypeClause-F OneDelimited OneItem OneAtom OneExpr OneFlatPart
      OneGenerator OneHead OnePostfix OneRunPart OneVariable OneAlso OneBlockItem OneCaseClause
      OneCatch OneElif OneElseBlock OneElseClause OneFinally OneNextGenerator OneTypeClause
      OneExprList OneFlat OneNextExpr OneOperand OneRun)
      → TypeClauseReads names (type_clause_saids (type_clause_parts y))
      → GoodClause (form_type_clause k (type_clause_forms (type_clause_parts y)))
  type_clause_level y h = good-clause _ _ _ (y.value.1 h)

  type_clause_shown : (x : TypeClause-F Delimited ItemTree Atom Expr FlatPart GeneratorTree Head
      Postfix RunPart Variable Also BlockItem CaseClause Catch Elif ElseBlock ElseClause Finally
      NextGenerator TypeClause ExprList Flat NextExpr Operand Run)
      (y : TypeClause-F OneDelimited OneItem OneAtom OneExpr OneFlatPart OneGenerator OneHead
      OnePostfix OneRunPart OneVariable OneAlso OneBlockItem OneCaseClause OneCatch OneElif
      OneElseBlock OneElseClause OneFinally OneNextGenerator OneTypeClause OneExprList OneFlat
      OneNextExpr OneOperand OneRun) → type_clause_parts y ≡ x
      → IsTypeClause (roll-TypeClause x)
  type_clause_shown x y is =
      subst (λ x. IsTypeClause (roll-TypeClause x)) is
      (λ h. subst GoodClause (sym (type_clause_formed (type_clause_parts y)))
      (type_clause_level y
      (type-clause-parts names (type_clause_saids (type_clause_parts y))
      (subst (ReadsEntry names) (type_clause_said (type_clause_parts y)) h))))

  -- ---- ExprList

  abbrev expr_list_parts : ExprList-F OneDelimited OneItem OneAtom OneExpr OneFlatPart OneGenerator
      OneHead OnePostfix OneRunPart OneVariable OneAlso OneBlockItem OneCaseClause OneCatch OneElif
      OneElseBlock OneElseClause OneFinally OneNextGenerator OneTypeClause OneExprList OneFlat
      OneNextExpr OneOperand OneRun
      → ExprList-F Delimited ItemTree Atom Expr FlatPart GeneratorTree Head Postfix RunPart Variable
      Also BlockItem CaseClause Catch Elif ElseBlock ElseClause Finally NextGenerator TypeClause
      ExprList Flat NextExpr Operand Run
  expr_list_parts =
      map-ExprList OneDelimited OneItem OneAtom OneExpr OneFlatPart OneGenerator OneHead OnePostfix
      OneRunPart OneVariable OneAlso OneBlockItem OneCaseClause OneCatch OneElif OneElseBlock
      OneElseClause OneFinally OneNextGenerator OneTypeClause OneExprList OneFlat OneNextExpr
      OneOperand OneRun Delimited ItemTree Atom Expr FlatPart GeneratorTree Head Postfix RunPart
      Variable Also BlockItem CaseClause Catch Elif ElseBlock ElseClause Finally NextGenerator
      TypeClause ExprList Flat NextExpr Operand Run (λ e. e.0) (λ e. e.0) (λ e. e.0) (λ e. e.0)
      (λ e. e.0) (λ e. e.0) (λ e. e.0) (λ e. e.0) (λ e. e.0) (λ e. e.0) (λ e. e.0) (λ e. e.0)
      (λ e. e.0) (λ e. e.0) (λ e. e.0) (λ e. e.0) (λ e. e.0) (λ e. e.0) (λ e. e.0) (λ e. e.0)
      (λ e. e.0) (λ e. e.0) (λ e. e.0) (λ e. e.0) (λ e. e.0)

  abbrev expr_list_saids : ExprList-F Delimited ItemTree Atom Expr FlatPart GeneratorTree Head
      Postfix RunPart Variable Also BlockItem CaseClause Catch Elif ElseBlock ElseClause Finally
      NextGenerator TypeClause ExprList Flat NextExpr Operand Run
      → ExprList-F Said Said Said Said Said Said Said Said Said Said Said SaidEntry SaidEntry Said
      Said Said SaidElse Said Said SaidEntry Said Said Said Said Said
  expr_list_saids =
      map-ExprList Delimited ItemTree Atom Expr FlatPart GeneratorTree Head Postfix RunPart Variable
      Also BlockItem CaseClause Catch Elif ElseBlock ElseClause Finally NextGenerator TypeClause
      ExprList Flat NextExpr Operand Run Said Said Said Said Said Said Said Said Said Said Said
      SaidEntry SaidEntry Said Said Said SaidElse Said Said SaidEntry Said Said Said Said Said
      said_delimited said_item said_atom said_expr said_flat_part said_generator said_head
      said_postfix said_run_part said_variable said_also said_block_item said_case_clause said_catch
      said_elif said_else_block said_else_clause said_finally said_next_generator said_type_clause
      said_expr_list said_flat said_next_expr said_operand said_run

  abbrev expr_list_forms : ExprList-F Delimited ItemTree Atom Expr FlatPart GeneratorTree Head
      Postfix RunPart Variable Also BlockItem CaseClause Catch Elif ElseBlock ElseClause Finally
      NextGenerator TypeClause ExprList Flat NextExpr Operand Run
      → ExprList-F Form Placed Form Form Form FormGenerator Opening Form Form Placed Form Placed
      Branch Catching Branch Form Form Form FormGenerator TypeBranch Listed Form Form Form Form
  expr_list_forms =
      map-ExprList Delimited ItemTree Atom Expr FlatPart GeneratorTree Head Postfix RunPart Variable
      Also BlockItem CaseClause Catch Elif ElseBlock ElseClause Finally NextGenerator TypeClause
      ExprList Flat NextExpr Operand Run Form Placed Form Form Form FormGenerator Opening Form Form
      Placed Form Placed Branch Catching Branch Form Form Form FormGenerator TypeBranch Listed Form
      Form Form Form (formed_delimited k) (formed_item k) (formed_atom k) (formed_expr k)
      (formed_flat_part k) (formed_generator k) (formed_head k) (formed_postfix k)
      (formed_run_part k) (formed_variable k) (formed_also k) (formed_block_item k)
      (formed_case_clause k) (formed_catch k) (formed_elif k) (formed_else_block k)
      (formed_else_clause k) (formed_finally k) (formed_next_generator k) (formed_type_clause k)
      (formed_expr_list k) (formed_flat k) (formed_next_expr k) (formed_operand k) (formed_run k)

  expr_list_said : (l : ExprList-F Delimited ItemTree Atom Expr FlatPart GeneratorTree Head Postfix
      RunPart Variable Also BlockItem CaseClause Catch Elif ElseBlock ElseClause Finally
      NextGenerator TypeClause ExprList Flat NextExpr Operand Run)
      → said_expr_list (roll-ExprList l) ≡ expr_list_step (expr_list_saids l)
  unfolding said_delimited said_item said_atom said_expr said_flat_part said_generator said_head
      said_postfix said_run_part said_variable said_also said_block_item said_case_clause said_catch
      said_elif said_else_block said_else_clause said_finally said_next_generator said_type_clause
      said_expr_list said_flat said_next_expr said_operand said_run
  expr_list_said l =
      fold-roll-ExprList Said Said Said Said Said Said Said Said Said Said Said SaidEntry SaidEntry
      Said Said Said SaidElse Said Said SaidEntry Said Said Said Said Said delimited_step item_step
      atom_step expr_step flat_part_step generator_step head_step postfix_step run_part_step
      variable_step also_step block_item_step case_clause_step catch_step elif_step else_block_step
      else_clause_step finally_step next_generator_step type_clause_step expr_list_step flat_step
      next_expr_step operand_step run_step l

  expr_list_formed : (l : ExprList-F Delimited ItemTree Atom Expr FlatPart GeneratorTree Head
      Postfix RunPart Variable Also BlockItem CaseClause Catch Elif ElseBlock ElseClause Finally
      NextGenerator TypeClause ExprList Flat NextExpr Operand Run)
      → formed_expr_list k (roll-ExprList l) ≡ form_expr_list (expr_list_forms l)
  unfolding formed_delimited formed_item formed_atom formed_expr formed_flat_part formed_generator
      formed_head formed_postfix formed_run_part formed_variable formed_also formed_block_item
      formed_case_clause formed_catch formed_elif formed_else_block formed_else_clause
      formed_finally formed_next_generator formed_type_clause formed_expr_list formed_flat
      formed_next_expr formed_operand formed_run
  expr_list_formed l =
      fold-roll-ExprList Form Placed Form Form Form FormGenerator Opening Form Form Placed Form
      Placed Branch Catching Branch Form Form Form FormGenerator TypeBranch Listed Form Form Form
      Form form_delimited (form_item k) (form_atom k) form_expr form_flat_part form_generator
      (form_head k) form_postfix form_run_part (form_variable k) form_also form_block_item
      form_case_clause form_catch form_elif form_else_block form_else_clause form_finally
      form_next_generator (form_type_clause k) form_expr_list (form_flat k) form_next_expr
      form_operand form_run l

  expr_list_level : (y : ExprList-F OneDelimited OneItem OneAtom OneExpr OneFlatPart OneGenerator
      OneHead OnePostfix OneRunPart OneVariable OneAlso OneBlockItem OneCaseClause OneCatch
      OneElif OneElseBlock OneElseClause OneFinally OneNextGenerator OneTypeClause OneExprList
      OneFlat OneNextExpr OneOperand OneRun)
      → ExprListReads names (expr_list_saids (expr_list_parts y))
      → AllGood (form_expr_list (expr_list_forms (expr_list_parts y)))
  expr_list_level y h = (y.first.1 h.0, each_next_expr y.others h.1)

  expr_list_shown : (x : ExprList-F Delimited ItemTree Atom Expr FlatPart GeneratorTree Head Postfix
      RunPart Variable Also BlockItem CaseClause Catch Elif ElseBlock ElseClause Finally
      NextGenerator TypeClause ExprList Flat NextExpr Operand Run)
      (y : ExprList-F OneDelimited OneItem OneAtom OneExpr OneFlatPart OneGenerator OneHead
      OnePostfix OneRunPart OneVariable OneAlso OneBlockItem OneCaseClause OneCatch OneElif
      OneElseBlock OneElseClause OneFinally OneNextGenerator OneTypeClause OneExprList OneFlat
      OneNextExpr OneOperand OneRun) → expr_list_parts y ≡ x → IsExprList (roll-ExprList x)
  expr_list_shown x y is =
      subst (λ x. IsExprList (roll-ExprList x)) is
      (λ h. subst AllGood (sym (expr_list_formed (expr_list_parts y)))
      (expr_list_level y
      (expr-list-parts names (expr_list_saids (expr_list_parts y))
      (subst (Reads names) (expr_list_said (expr_list_parts y)) h))))

  -- ---- Flat

  abbrev flat_parts : Flat-F OneDelimited OneItem OneAtom OneExpr OneFlatPart OneGenerator OneHead
      OnePostfix OneRunPart OneVariable OneAlso OneBlockItem OneCaseClause OneCatch OneElif
      OneElseBlock OneElseClause OneFinally OneNextGenerator OneTypeClause OneExprList OneFlat
      OneNextExpr OneOperand OneRun
      → Flat-F Delimited ItemTree Atom Expr FlatPart GeneratorTree Head Postfix RunPart Variable
      Also BlockItem CaseClause Catch Elif ElseBlock ElseClause Finally NextGenerator TypeClause
      ExprList Flat NextExpr Operand Run
  flat_parts =
      map-Flat OneDelimited OneItem OneAtom OneExpr OneFlatPart OneGenerator OneHead OnePostfix
      OneRunPart OneVariable OneAlso OneBlockItem OneCaseClause OneCatch OneElif OneElseBlock
      OneElseClause OneFinally OneNextGenerator OneTypeClause OneExprList OneFlat OneNextExpr
      OneOperand OneRun Delimited ItemTree Atom Expr FlatPart GeneratorTree Head Postfix RunPart
      Variable Also BlockItem CaseClause Catch Elif ElseBlock ElseClause Finally NextGenerator
      TypeClause ExprList Flat NextExpr Operand Run (λ e. e.0) (λ e. e.0) (λ e. e.0) (λ e. e.0)
      (λ e. e.0) (λ e. e.0) (λ e. e.0) (λ e. e.0) (λ e. e.0) (λ e. e.0) (λ e. e.0) (λ e. e.0)
      (λ e. e.0) (λ e. e.0) (λ e. e.0) (λ e. e.0) (λ e. e.0) (λ e. e.0) (λ e. e.0) (λ e. e.0)
      (λ e. e.0) (λ e. e.0) (λ e. e.0) (λ e. e.0) (λ e. e.0)

  abbrev flat_saids : Flat-F Delimited ItemTree Atom Expr FlatPart GeneratorTree Head Postfix
      RunPart Variable Also BlockItem CaseClause Catch Elif ElseBlock ElseClause Finally
      NextGenerator TypeClause ExprList Flat NextExpr Operand Run
      → Flat-F Said Said Said Said Said Said Said Said Said Said Said SaidEntry SaidEntry Said Said
      Said SaidElse Said Said SaidEntry Said Said Said Said Said
  flat_saids =
      map-Flat Delimited ItemTree Atom Expr FlatPart GeneratorTree Head Postfix RunPart Variable
      Also BlockItem CaseClause Catch Elif ElseBlock ElseClause Finally NextGenerator TypeClause
      ExprList Flat NextExpr Operand Run Said Said Said Said Said Said Said Said Said Said Said
      SaidEntry SaidEntry Said Said Said SaidElse Said Said SaidEntry Said Said Said Said Said
      said_delimited said_item said_atom said_expr said_flat_part said_generator said_head
      said_postfix said_run_part said_variable said_also said_block_item said_case_clause said_catch
      said_elif said_else_block said_else_clause said_finally said_next_generator said_type_clause
      said_expr_list said_flat said_next_expr said_operand said_run

  abbrev flat_forms : Flat-F Delimited ItemTree Atom Expr FlatPart GeneratorTree Head Postfix
      RunPart Variable Also BlockItem CaseClause Catch Elif ElseBlock ElseClause Finally
      NextGenerator TypeClause ExprList Flat NextExpr Operand Run
      → Flat-F Form Placed Form Form Form FormGenerator Opening Form Form Placed Form Placed Branch
      Catching Branch Form Form Form FormGenerator TypeBranch Listed Form Form Form Form
  flat_forms =
      map-Flat Delimited ItemTree Atom Expr FlatPart GeneratorTree Head Postfix RunPart Variable
      Also BlockItem CaseClause Catch Elif ElseBlock ElseClause Finally NextGenerator TypeClause
      ExprList Flat NextExpr Operand Run Form Placed Form Form Form FormGenerator Opening Form Form
      Placed Form Placed Branch Catching Branch Form Form Form FormGenerator TypeBranch Listed Form
      Form Form Form (formed_delimited k) (formed_item k) (formed_atom k) (formed_expr k)
      (formed_flat_part k) (formed_generator k) (formed_head k) (formed_postfix k)
      (formed_run_part k) (formed_variable k) (formed_also k) (formed_block_item k)
      (formed_case_clause k) (formed_catch k) (formed_elif k) (formed_else_block k)
      (formed_else_clause k) (formed_finally k) (formed_next_generator k) (formed_type_clause k)
      (formed_expr_list k) (formed_flat k) (formed_next_expr k) (formed_operand k) (formed_run k)

  flat_said : (l : Flat-F Delimited ItemTree Atom Expr FlatPart GeneratorTree Head Postfix RunPart
      Variable Also BlockItem CaseClause Catch Elif ElseBlock ElseClause Finally NextGenerator
      TypeClause ExprList Flat NextExpr Operand Run)
      → said_flat (roll-Flat l) ≡ flat_step (flat_saids l)
  unfolding said_delimited said_item said_atom said_expr said_flat_part said_generator said_head
      said_postfix said_run_part said_variable said_also said_block_item said_case_clause said_catch
      said_elif said_else_block said_else_clause said_finally said_next_generator said_type_clause
      said_expr_list said_flat said_next_expr said_operand said_run
  flat_said l =
      fold-roll-Flat Said Said Said Said Said Said Said Said Said Said Said SaidEntry SaidEntry Said
      Said Said SaidElse Said Said SaidEntry Said Said Said Said Said delimited_step item_step
      atom_step expr_step flat_part_step generator_step head_step postfix_step run_part_step
      variable_step also_step block_item_step case_clause_step catch_step elif_step else_block_step
      else_clause_step finally_step next_generator_step type_clause_step expr_list_step flat_step
      next_expr_step operand_step run_step l

  flat_formed : (l : Flat-F Delimited ItemTree Atom Expr FlatPart GeneratorTree Head Postfix RunPart
      Variable Also BlockItem CaseClause Catch Elif ElseBlock ElseClause Finally NextGenerator
      TypeClause ExprList Flat NextExpr Operand Run)
      → formed_flat k (roll-Flat l) ≡ form_flat k (flat_forms l)
  unfolding formed_delimited formed_item formed_atom formed_expr formed_flat_part formed_generator
      formed_head formed_postfix formed_run_part formed_variable formed_also formed_block_item
      formed_case_clause formed_catch formed_elif formed_else_block formed_else_clause
      formed_finally formed_next_generator formed_type_clause formed_expr_list formed_flat
      formed_next_expr formed_operand formed_run
  flat_formed l =
      fold-roll-Flat Form Placed Form Form Form FormGenerator Opening Form Form Placed Form Placed
      Branch Catching Branch Form Form Form FormGenerator TypeBranch Listed Form Form Form Form
      form_delimited (form_item k) (form_atom k) form_expr form_flat_part form_generator
      (form_head k) form_postfix form_run_part (form_variable k) form_also form_block_item
      form_case_clause form_catch form_elif form_else_block form_else_clause form_finally
      form_next_generator (form_type_clause k) form_expr_list (form_flat k) form_next_expr
      form_operand form_run l

  flat_level : (y : Flat-F OneDelimited OneItem OneAtom OneExpr OneFlatPart OneGenerator OneHead
      OnePostfix OneRunPart OneVariable OneAlso OneBlockItem OneCaseClause OneCatch OneElif
      OneElseBlock OneElseClause OneFinally OneNextGenerator OneTypeClause OneExprList OneFlat
      OneNextExpr OneOperand OneRun) → FlatReads names (flat_saids (flat_parts y))
      → HasFigures (form_flat k (flat_forms (flat_parts y)))
  flat_level y h =
      flat-good k S (formed_operand k y.first.0) (map (formed_flat_part k) (firsts y.rest))
      (y.first.1 h.0) (each_flat_part y.rest h.1)

  flat_shown : (x : Flat-F Delimited ItemTree Atom Expr FlatPart GeneratorTree Head Postfix RunPart
      Variable Also BlockItem CaseClause Catch Elif ElseBlock ElseClause Finally NextGenerator
      TypeClause ExprList Flat NextExpr Operand Run)
      (y : Flat-F OneDelimited OneItem OneAtom OneExpr OneFlatPart OneGenerator OneHead OnePostfix
      OneRunPart OneVariable OneAlso OneBlockItem OneCaseClause OneCatch OneElif OneElseBlock
      OneElseClause OneFinally OneNextGenerator OneTypeClause OneExprList OneFlat OneNextExpr
      OneOperand OneRun) → flat_parts y ≡ x → IsFlat (roll-Flat x)
  flat_shown x y is =
      subst (λ x. IsFlat (roll-Flat x)) is (λ h. subst HasFigures (sym (flat_formed (flat_parts y)))
      (flat_level y
      (flat-parts names (flat_saids (flat_parts y))
      (subst (Reads names) (flat_said (flat_parts y)) h))))

  -- ---- NextExpr

  abbrev next_expr_parts : NextExpr-F OneDelimited OneItem OneAtom OneExpr OneFlatPart OneGenerator
      OneHead OnePostfix OneRunPart OneVariable OneAlso OneBlockItem OneCaseClause OneCatch OneElif
      OneElseBlock OneElseClause OneFinally OneNextGenerator OneTypeClause OneExprList OneFlat
      OneNextExpr OneOperand OneRun
      → NextExpr-F Delimited ItemTree Atom Expr FlatPart GeneratorTree Head Postfix RunPart Variable
      Also BlockItem CaseClause Catch Elif ElseBlock ElseClause Finally NextGenerator TypeClause
      ExprList Flat NextExpr Operand Run
  next_expr_parts =
      map-NextExpr OneDelimited OneItem OneAtom OneExpr OneFlatPart OneGenerator OneHead OnePostfix
      OneRunPart OneVariable OneAlso OneBlockItem OneCaseClause OneCatch OneElif OneElseBlock
      OneElseClause OneFinally OneNextGenerator OneTypeClause OneExprList OneFlat OneNextExpr
      OneOperand OneRun Delimited ItemTree Atom Expr FlatPart GeneratorTree Head Postfix RunPart
      Variable Also BlockItem CaseClause Catch Elif ElseBlock ElseClause Finally NextGenerator
      TypeClause ExprList Flat NextExpr Operand Run (λ e. e.0) (λ e. e.0) (λ e. e.0) (λ e. e.0)
      (λ e. e.0) (λ e. e.0) (λ e. e.0) (λ e. e.0) (λ e. e.0) (λ e. e.0) (λ e. e.0) (λ e. e.0)
      (λ e. e.0) (λ e. e.0) (λ e. e.0) (λ e. e.0) (λ e. e.0) (λ e. e.0) (λ e. e.0) (λ e. e.0)
      (λ e. e.0) (λ e. e.0) (λ e. e.0) (λ e. e.0) (λ e. e.0)

  abbrev next_expr_saids : NextExpr-F Delimited ItemTree Atom Expr FlatPart GeneratorTree Head
      Postfix RunPart Variable Also BlockItem CaseClause Catch Elif ElseBlock ElseClause Finally
      NextGenerator TypeClause ExprList Flat NextExpr Operand Run
      → NextExpr-F Said Said Said Said Said Said Said Said Said Said Said SaidEntry SaidEntry Said
      Said Said SaidElse Said Said SaidEntry Said Said Said Said Said
  next_expr_saids =
      map-NextExpr Delimited ItemTree Atom Expr FlatPart GeneratorTree Head Postfix RunPart Variable
      Also BlockItem CaseClause Catch Elif ElseBlock ElseClause Finally NextGenerator TypeClause
      ExprList Flat NextExpr Operand Run Said Said Said Said Said Said Said Said Said Said Said
      SaidEntry SaidEntry Said Said Said SaidElse Said Said SaidEntry Said Said Said Said Said
      said_delimited said_item said_atom said_expr said_flat_part said_generator said_head
      said_postfix said_run_part said_variable said_also said_block_item said_case_clause said_catch
      said_elif said_else_block said_else_clause said_finally said_next_generator said_type_clause
      said_expr_list said_flat said_next_expr said_operand said_run

  abbrev next_expr_forms : NextExpr-F Delimited ItemTree Atom Expr FlatPart GeneratorTree Head
      Postfix RunPart Variable Also BlockItem CaseClause Catch Elif ElseBlock ElseClause Finally
      NextGenerator TypeClause ExprList Flat NextExpr Operand Run
      → NextExpr-F Form Placed Form Form Form FormGenerator Opening Form Form Placed Form Placed
      Branch Catching Branch Form Form Form FormGenerator TypeBranch Listed Form Form Form Form
  next_expr_forms =
      map-NextExpr Delimited ItemTree Atom Expr FlatPart GeneratorTree Head Postfix RunPart Variable
      Also BlockItem CaseClause Catch Elif ElseBlock ElseClause Finally NextGenerator TypeClause
      ExprList Flat NextExpr Operand Run Form Placed Form Form Form FormGenerator Opening Form Form
      Placed Form Placed Branch Catching Branch Form Form Form FormGenerator TypeBranch Listed Form
      Form Form Form (formed_delimited k) (formed_item k) (formed_atom k) (formed_expr k)
      (formed_flat_part k) (formed_generator k) (formed_head k) (formed_postfix k)
      (formed_run_part k) (formed_variable k) (formed_also k) (formed_block_item k)
      (formed_case_clause k) (formed_catch k) (formed_elif k) (formed_else_block k)
      (formed_else_clause k) (formed_finally k) (formed_next_generator k) (formed_type_clause k)
      (formed_expr_list k) (formed_flat k) (formed_next_expr k) (formed_operand k) (formed_run k)

  next_expr_said : (l : NextExpr-F Delimited ItemTree Atom Expr FlatPart GeneratorTree Head Postfix
      RunPart Variable Also BlockItem CaseClause Catch Elif ElseBlock ElseClause Finally
      NextGenerator TypeClause ExprList Flat NextExpr Operand Run)
      → said_next_expr (roll-NextExpr l) ≡ next_expr_step (next_expr_saids l)
  unfolding said_delimited said_item said_atom said_expr said_flat_part said_generator said_head
      said_postfix said_run_part said_variable said_also said_block_item said_case_clause said_catch
      said_elif said_else_block said_else_clause said_finally said_next_generator said_type_clause
      said_expr_list said_flat said_next_expr said_operand said_run
  next_expr_said l =
      fold-roll-NextExpr Said Said Said Said Said Said Said Said Said Said Said SaidEntry SaidEntry
      Said Said Said SaidElse Said Said SaidEntry Said Said Said Said Said delimited_step item_step
      atom_step expr_step flat_part_step generator_step head_step postfix_step run_part_step
      variable_step also_step block_item_step case_clause_step catch_step elif_step else_block_step
      else_clause_step finally_step next_generator_step type_clause_step expr_list_step flat_step
      next_expr_step operand_step run_step l

  next_expr_formed : (l : NextExpr-F Delimited ItemTree Atom Expr FlatPart GeneratorTree Head
      Postfix RunPart Variable Also BlockItem CaseClause Catch Elif ElseBlock ElseClause Finally
      NextGenerator TypeClause ExprList Flat NextExpr Operand Run)
      → formed_next_expr k (roll-NextExpr l) ≡ form_next_expr (next_expr_forms l)
  unfolding formed_delimited formed_item formed_atom formed_expr formed_flat_part formed_generator
      formed_head formed_postfix formed_run_part formed_variable formed_also formed_block_item
      formed_case_clause formed_catch formed_elif formed_else_block formed_else_clause
      formed_finally formed_next_generator formed_type_clause formed_expr_list formed_flat
      formed_next_expr formed_operand formed_run
  next_expr_formed l =
      fold-roll-NextExpr Form Placed Form Form Form FormGenerator Opening Form Form Placed Form
      Placed Branch Catching Branch Form Form Form FormGenerator TypeBranch Listed Form Form Form
      Form form_delimited (form_item k) (form_atom k) form_expr form_flat_part form_generator
      (form_head k) form_postfix form_run_part (form_variable k) form_also form_block_item
      form_case_clause form_catch form_elif form_else_block form_else_clause form_finally
      form_next_generator (form_type_clause k) form_expr_list (form_flat k) form_next_expr
      form_operand form_run l

  next_expr_level : (y : NextExpr-F OneDelimited OneItem OneAtom OneExpr OneFlatPart OneGenerator
      OneHead OnePostfix OneRunPart OneVariable OneAlso OneBlockItem OneCaseClause OneCatch
      OneElif OneElseBlock OneElseClause OneFinally OneNextGenerator OneTypeClause OneExprList
      OneFlat OneNextExpr OneOperand OneRun)
      → NextExprReads names (next_expr_saids (next_expr_parts y))
      → HasFigures (form_next_expr (next_expr_forms (next_expr_parts y)))
  next_expr_level y h = y.expr.1 h

  next_expr_shown : (x : NextExpr-F Delimited ItemTree Atom Expr FlatPart GeneratorTree Head Postfix
      RunPart Variable Also BlockItem CaseClause Catch Elif ElseBlock ElseClause Finally
      NextGenerator TypeClause ExprList Flat NextExpr Operand Run)
      (y : NextExpr-F OneDelimited OneItem OneAtom OneExpr OneFlatPart OneGenerator OneHead
      OnePostfix OneRunPart OneVariable OneAlso OneBlockItem OneCaseClause OneCatch OneElif
      OneElseBlock OneElseClause OneFinally OneNextGenerator OneTypeClause OneExprList OneFlat
      OneNextExpr OneOperand OneRun) → next_expr_parts y ≡ x → IsNextExpr (roll-NextExpr x)
  next_expr_shown x y is =
      subst (λ x. IsNextExpr (roll-NextExpr x)) is
      (λ h. subst HasFigures (sym (next_expr_formed (next_expr_parts y)))
      (next_expr_level y
      (next-expr-parts names (next_expr_saids (next_expr_parts y))
      (subst (Reads names) (next_expr_said (next_expr_parts y)) h))))

  -- ---- Operand

  abbrev operand_parts : Operand-F OneDelimited OneItem OneAtom OneExpr OneFlatPart OneGenerator
      OneHead OnePostfix OneRunPart OneVariable OneAlso OneBlockItem OneCaseClause OneCatch OneElif
      OneElseBlock OneElseClause OneFinally OneNextGenerator OneTypeClause OneExprList OneFlat
      OneNextExpr OneOperand OneRun
      → Operand-F Delimited ItemTree Atom Expr FlatPart GeneratorTree Head Postfix RunPart Variable
      Also BlockItem CaseClause Catch Elif ElseBlock ElseClause Finally NextGenerator TypeClause
      ExprList Flat NextExpr Operand Run
  operand_parts =
      map-Operand OneDelimited OneItem OneAtom OneExpr OneFlatPart OneGenerator OneHead OnePostfix
      OneRunPart OneVariable OneAlso OneBlockItem OneCaseClause OneCatch OneElif OneElseBlock
      OneElseClause OneFinally OneNextGenerator OneTypeClause OneExprList OneFlat OneNextExpr
      OneOperand OneRun Delimited ItemTree Atom Expr FlatPart GeneratorTree Head Postfix RunPart
      Variable Also BlockItem CaseClause Catch Elif ElseBlock ElseClause Finally NextGenerator
      TypeClause ExprList Flat NextExpr Operand Run (λ e. e.0) (λ e. e.0) (λ e. e.0) (λ e. e.0)
      (λ e. e.0) (λ e. e.0) (λ e. e.0) (λ e. e.0) (λ e. e.0) (λ e. e.0) (λ e. e.0) (λ e. e.0)
      (λ e. e.0) (λ e. e.0) (λ e. e.0) (λ e. e.0) (λ e. e.0) (λ e. e.0) (λ e. e.0) (λ e. e.0)
      (λ e. e.0) (λ e. e.0) (λ e. e.0) (λ e. e.0) (λ e. e.0)

  abbrev operand_saids : Operand-F Delimited ItemTree Atom Expr FlatPart GeneratorTree Head Postfix
      RunPart Variable Also BlockItem CaseClause Catch Elif ElseBlock ElseClause Finally
      NextGenerator TypeClause ExprList Flat NextExpr Operand Run
      → Operand-F Said Said Said Said Said Said Said Said Said Said Said SaidEntry SaidEntry Said
      Said Said SaidElse Said Said SaidEntry Said Said Said Said Said
  operand_saids =
      map-Operand Delimited ItemTree Atom Expr FlatPart GeneratorTree Head Postfix RunPart Variable
      Also BlockItem CaseClause Catch Elif ElseBlock ElseClause Finally NextGenerator TypeClause
      ExprList Flat NextExpr Operand Run Said Said Said Said Said Said Said Said Said Said Said
      SaidEntry SaidEntry Said Said Said SaidElse Said Said SaidEntry Said Said Said Said Said
      said_delimited said_item said_atom said_expr said_flat_part said_generator said_head
      said_postfix said_run_part said_variable said_also said_block_item said_case_clause said_catch
      said_elif said_else_block said_else_clause said_finally said_next_generator said_type_clause
      said_expr_list said_flat said_next_expr said_operand said_run

  abbrev operand_forms : Operand-F Delimited ItemTree Atom Expr FlatPart GeneratorTree Head Postfix
      RunPart Variable Also BlockItem CaseClause Catch Elif ElseBlock ElseClause Finally
      NextGenerator TypeClause ExprList Flat NextExpr Operand Run
      → Operand-F Form Placed Form Form Form FormGenerator Opening Form Form Placed Form Placed
      Branch Catching Branch Form Form Form FormGenerator TypeBranch Listed Form Form Form Form
  operand_forms =
      map-Operand Delimited ItemTree Atom Expr FlatPart GeneratorTree Head Postfix RunPart Variable
      Also BlockItem CaseClause Catch Elif ElseBlock ElseClause Finally NextGenerator TypeClause
      ExprList Flat NextExpr Operand Run Form Placed Form Form Form FormGenerator Opening Form Form
      Placed Form Placed Branch Catching Branch Form Form Form FormGenerator TypeBranch Listed Form
      Form Form Form (formed_delimited k) (formed_item k) (formed_atom k) (formed_expr k)
      (formed_flat_part k) (formed_generator k) (formed_head k) (formed_postfix k)
      (formed_run_part k) (formed_variable k) (formed_also k) (formed_block_item k)
      (formed_case_clause k) (formed_catch k) (formed_elif k) (formed_else_block k)
      (formed_else_clause k) (formed_finally k) (formed_next_generator k) (formed_type_clause k)
      (formed_expr_list k) (formed_flat k) (formed_next_expr k) (formed_operand k) (formed_run k)

  operand_said : (l : Operand-F Delimited ItemTree Atom Expr FlatPart GeneratorTree Head Postfix
      RunPart Variable Also BlockItem CaseClause Catch Elif ElseBlock ElseClause Finally
      NextGenerator TypeClause ExprList Flat NextExpr Operand Run)
      → said_operand (roll-Operand l) ≡ operand_step (operand_saids l)
  unfolding said_delimited said_item said_atom said_expr said_flat_part said_generator said_head
      said_postfix said_run_part said_variable said_also said_block_item said_case_clause said_catch
      said_elif said_else_block said_else_clause said_finally said_next_generator said_type_clause
      said_expr_list said_flat said_next_expr said_operand said_run
  operand_said l =
      fold-roll-Operand Said Said Said Said Said Said Said Said Said Said Said SaidEntry SaidEntry
      Said Said Said SaidElse Said Said SaidEntry Said Said Said Said Said delimited_step item_step
      atom_step expr_step flat_part_step generator_step head_step postfix_step run_part_step
      variable_step also_step block_item_step case_clause_step catch_step elif_step else_block_step
      else_clause_step finally_step next_generator_step type_clause_step expr_list_step flat_step
      next_expr_step operand_step run_step l

  operand_formed : (l : Operand-F Delimited ItemTree Atom Expr FlatPart GeneratorTree Head Postfix
      RunPart Variable Also BlockItem CaseClause Catch Elif ElseBlock ElseClause Finally
      NextGenerator TypeClause ExprList Flat NextExpr Operand Run)
      → formed_operand k (roll-Operand l) ≡ form_operand (operand_forms l)
  unfolding formed_delimited formed_item formed_atom formed_expr formed_flat_part formed_generator
      formed_head formed_postfix formed_run_part formed_variable formed_also formed_block_item
      formed_case_clause formed_catch formed_elif formed_else_block formed_else_clause
      formed_finally formed_next_generator formed_type_clause formed_expr_list formed_flat
      formed_next_expr formed_operand formed_run
  operand_formed l =
      fold-roll-Operand Form Placed Form Form Form FormGenerator Opening Form Form Placed Form
      Placed Branch Catching Branch Form Form Form FormGenerator TypeBranch Listed Form Form Form
      Form form_delimited (form_item k) (form_atom k) form_expr form_flat_part form_generator
      (form_head k) form_postfix form_run_part (form_variable k) form_also form_block_item
      form_case_clause form_catch form_elif form_else_block form_else_clause form_finally
      form_next_generator (form_type_clause k) form_expr_list (form_flat k) form_next_expr
      form_operand form_run l

  operand_level : (y : Operand-F OneDelimited OneItem OneAtom OneExpr OneFlatPart OneGenerator
      OneHead OnePostfix OneRunPart OneVariable OneAlso OneBlockItem OneCaseClause OneCatch
      OneElif OneElseBlock OneElseClause OneFinally OneNextGenerator OneTypeClause OneExprList
      OneFlat OneNextExpr OneOperand OneRun)
      → OperandReads names (operand_saids (operand_parts y))
      → HasFigures (form_operand (operand_forms (operand_parts y)))
  operand_level y h = prefixed-good y.prefix (formed_run k y.run.0) (y.run.1 h)

  operand_shown : (x : Operand-F Delimited ItemTree Atom Expr FlatPart GeneratorTree Head Postfix
      RunPart Variable Also BlockItem CaseClause Catch Elif ElseBlock ElseClause Finally
      NextGenerator TypeClause ExprList Flat NextExpr Operand Run)
      (y : Operand-F OneDelimited OneItem OneAtom OneExpr OneFlatPart OneGenerator OneHead
      OnePostfix OneRunPart OneVariable OneAlso OneBlockItem OneCaseClause OneCatch OneElif
      OneElseBlock OneElseClause OneFinally OneNextGenerator OneTypeClause OneExprList OneFlat
      OneNextExpr OneOperand OneRun) → operand_parts y ≡ x → IsOperand (roll-Operand x)
  operand_shown x y is =
      subst (λ x. IsOperand (roll-Operand x)) is
      (λ h. subst HasFigures (sym (operand_formed (operand_parts y)))
      (operand_level y
      (operand-parts names (operand_saids (operand_parts y))
      (subst (Reads names) (operand_said (operand_parts y)) h))))

  -- ---- Run

  abbrev run_parts : Run-F OneDelimited OneItem OneAtom OneExpr OneFlatPart OneGenerator OneHead
      OnePostfix OneRunPart OneVariable OneAlso OneBlockItem OneCaseClause OneCatch OneElif
      OneElseBlock OneElseClause OneFinally OneNextGenerator OneTypeClause OneExprList OneFlat
      OneNextExpr OneOperand OneRun
      → Run-F Delimited ItemTree Atom Expr FlatPart GeneratorTree Head Postfix RunPart Variable Also
      BlockItem CaseClause Catch Elif ElseBlock ElseClause Finally NextGenerator TypeClause ExprList
      Flat NextExpr Operand Run
  run_parts =
      map-Run OneDelimited OneItem OneAtom OneExpr OneFlatPart OneGenerator OneHead OnePostfix
      OneRunPart OneVariable OneAlso OneBlockItem OneCaseClause OneCatch OneElif OneElseBlock
      OneElseClause OneFinally OneNextGenerator OneTypeClause OneExprList OneFlat OneNextExpr
      OneOperand OneRun Delimited ItemTree Atom Expr FlatPart GeneratorTree Head Postfix RunPart
      Variable Also BlockItem CaseClause Catch Elif ElseBlock ElseClause Finally NextGenerator
      TypeClause ExprList Flat NextExpr Operand Run (λ e. e.0) (λ e. e.0) (λ e. e.0) (λ e. e.0)
      (λ e. e.0) (λ e. e.0) (λ e. e.0) (λ e. e.0) (λ e. e.0) (λ e. e.0) (λ e. e.0) (λ e. e.0)
      (λ e. e.0) (λ e. e.0) (λ e. e.0) (λ e. e.0) (λ e. e.0) (λ e. e.0) (λ e. e.0) (λ e. e.0)
      (λ e. e.0) (λ e. e.0) (λ e. e.0) (λ e. e.0) (λ e. e.0)

  abbrev run_saids : Run-F Delimited ItemTree Atom Expr FlatPart GeneratorTree Head Postfix RunPart
      Variable Also BlockItem CaseClause Catch Elif ElseBlock ElseClause Finally NextGenerator
      TypeClause ExprList Flat NextExpr Operand Run
      → Run-F Said Said Said Said Said Said Said Said Said Said Said SaidEntry SaidEntry Said Said
      Said SaidElse Said Said SaidEntry Said Said Said Said Said
  run_saids =
      map-Run Delimited ItemTree Atom Expr FlatPart GeneratorTree Head Postfix RunPart Variable Also
      BlockItem CaseClause Catch Elif ElseBlock ElseClause Finally NextGenerator TypeClause ExprList
      Flat NextExpr Operand Run Said Said Said Said Said Said Said Said Said Said Said SaidEntry
      SaidEntry Said Said Said SaidElse Said Said SaidEntry Said Said Said Said Said said_delimited
      said_item said_atom said_expr said_flat_part said_generator said_head said_postfix
      said_run_part said_variable said_also said_block_item said_case_clause said_catch said_elif
      said_else_block said_else_clause said_finally said_next_generator said_type_clause
      said_expr_list said_flat said_next_expr said_operand said_run

  abbrev run_forms : Run-F Delimited ItemTree Atom Expr FlatPart GeneratorTree Head Postfix RunPart
      Variable Also BlockItem CaseClause Catch Elif ElseBlock ElseClause Finally NextGenerator
      TypeClause ExprList Flat NextExpr Operand Run
      → Run-F Form Placed Form Form Form FormGenerator Opening Form Form Placed Form Placed Branch
      Catching Branch Form Form Form FormGenerator TypeBranch Listed Form Form Form Form
  run_forms =
      map-Run Delimited ItemTree Atom Expr FlatPart GeneratorTree Head Postfix RunPart Variable Also
      BlockItem CaseClause Catch Elif ElseBlock ElseClause Finally NextGenerator TypeClause ExprList
      Flat NextExpr Operand Run Form Placed Form Form Form FormGenerator Opening Form Form Placed
      Form Placed Branch Catching Branch Form Form Form FormGenerator TypeBranch Listed Form Form
      Form Form (formed_delimited k) (formed_item k) (formed_atom k) (formed_expr k)
      (formed_flat_part k) (formed_generator k) (formed_head k) (formed_postfix k)
      (formed_run_part k) (formed_variable k) (formed_also k) (formed_block_item k)
      (formed_case_clause k) (formed_catch k) (formed_elif k) (formed_else_block k)
      (formed_else_clause k) (formed_finally k) (formed_next_generator k) (formed_type_clause k)
      (formed_expr_list k) (formed_flat k) (formed_next_expr k) (formed_operand k) (formed_run k)

  run_said : (l : Run-F Delimited ItemTree Atom Expr FlatPart GeneratorTree Head Postfix RunPart
      Variable Also BlockItem CaseClause Catch Elif ElseBlock ElseClause Finally NextGenerator
      TypeClause ExprList Flat NextExpr Operand Run)
      → said_run (roll-Run l) ≡ run_step (run_saids l)
  unfolding said_delimited said_item said_atom said_expr said_flat_part said_generator said_head
      said_postfix said_run_part said_variable said_also said_block_item said_case_clause said_catch
      said_elif said_else_block said_else_clause said_finally said_next_generator said_type_clause
      said_expr_list said_flat said_next_expr said_operand said_run
  run_said l =
      fold-roll-Run Said Said Said Said Said Said Said Said Said Said Said SaidEntry SaidEntry Said
      Said Said SaidElse Said Said SaidEntry Said Said Said Said Said delimited_step item_step
      atom_step expr_step flat_part_step generator_step head_step postfix_step run_part_step
      variable_step also_step block_item_step case_clause_step catch_step elif_step else_block_step
      else_clause_step finally_step next_generator_step type_clause_step expr_list_step flat_step
      next_expr_step operand_step run_step l

  run_formed : (l : Run-F Delimited ItemTree Atom Expr FlatPart GeneratorTree Head Postfix RunPart
      Variable Also BlockItem CaseClause Catch Elif ElseBlock ElseClause Finally NextGenerator
      TypeClause ExprList Flat NextExpr Operand Run)
      → formed_run k (roll-Run l) ≡ form_run (run_forms l)
  unfolding formed_delimited formed_item formed_atom formed_expr formed_flat_part formed_generator
      formed_head formed_postfix formed_run_part formed_variable formed_also formed_block_item
      formed_case_clause formed_catch formed_elif formed_else_block formed_else_clause
      formed_finally formed_next_generator formed_type_clause formed_expr_list formed_flat
      formed_next_expr formed_operand formed_run
  run_formed l =
      fold-roll-Run Form Placed Form Form Form FormGenerator Opening Form Form Placed Form Placed
      Branch Catching Branch Form Form Form FormGenerator TypeBranch Listed Form Form Form Form
      form_delimited (form_item k) (form_atom k) form_expr form_flat_part form_generator
      (form_head k) form_postfix form_run_part (form_variable k) form_also form_block_item
      form_case_clause form_catch form_elif form_else_block form_else_clause form_finally
      form_next_generator (form_type_clause k) form_expr_list (form_flat k) form_next_expr
      form_operand form_run l

  run_level : (y : Run-F OneDelimited OneItem OneAtom OneExpr OneFlatPart OneGenerator OneHead
      OnePostfix OneRunPart OneVariable OneAlso OneBlockItem OneCaseClause OneCatch OneElif
      OneElseBlock OneElseClause OneFinally OneNextGenerator OneTypeClause OneExprList OneFlat
      OneNextExpr OneOperand OneRun) → RunReads names (run_saids (run_parts y))
      → HasFigures (form_run (run_forms (run_parts y)))
  run_level y h =
      run-good (formed_atom k y.first.0) (map (formed_run_part k) (firsts y.rest)) (y.first.1 h.0)
      (each_run_part y.rest h.1)

  run_shown : (x : Run-F Delimited ItemTree Atom Expr FlatPart GeneratorTree Head Postfix RunPart
      Variable Also BlockItem CaseClause Catch Elif ElseBlock ElseClause Finally NextGenerator
      TypeClause ExprList Flat NextExpr Operand Run)
      (y : Run-F OneDelimited OneItem OneAtom OneExpr OneFlatPart OneGenerator OneHead OnePostfix
      OneRunPart OneVariable OneAlso OneBlockItem OneCaseClause OneCatch OneElif OneElseBlock
      OneElseClause OneFinally OneNextGenerator OneTypeClause OneExprList OneFlat OneNextExpr
      OneOperand OneRun) → run_parts y ≡ x → IsRun (roll-Run x)
  run_shown x y is =
      subst (λ x. IsRun (roll-Run x)) is (λ h. subst HasFigures (sym (run_formed (run_parts y)))
      (run_level y
      (run-parts names (run_saids (run_parts y))
      (subst (Reads names) (run_said (run_parts y)) h))))

  -- an expression, where its tokens are a file's
  pub expr-good : (e : Expr) → IsExpr e
  expr-good =
      ind-Expr IsDelimited IsItem IsAtom IsExpr IsFlatPart IsGenerator IsHead IsPostfix IsRunPart
      IsVariable IsAlso IsBlockItem IsCaseClause IsCatch IsElif IsElseBlock IsElseClause IsFinally
      IsNextGenerator IsTypeClause IsExprList IsFlat IsNextExpr IsOperand IsRun delimited_shown
      item_shown atom_shown expr_shown flat_part_shown generator_shown head_shown postfix_shown
      run_part_shown variable_shown also_shown block_item_shown case_clause_shown catch_shown
      elif_shown else_block_shown else_clause_shown finally_shown next_generator_shown
      type_clause_shown expr_list_shown flat_shown next_expr_shown operand_shown run_shown
