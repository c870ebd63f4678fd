-- The chapter "Grammar", trees apart from places: a moved expression or block says what it says,
-- moved.
use Rattle.std.proofs.Common.{◌≡◌, ◌&&◌, ◌||◌, not, Some, None, refl, ap, ◌∙◌}
use Rattle.std.specs.Prelude.{option_map}
use Rattle.fort_base.specs.declared.refusal.Place.{Place}
use Rattle.fort_tree.specs.declared.spot.Spot.{Spot}
use Rattle.fort_tree.specs.declared.declarations.Variable.{Variable}
use Rattle.fort_tree.specs.declared.expr.Expr.{Expr}
use Rattle.fort_tree.specs.declared.delimited.Delimited.TheOpen.{Delimited-F, Item-F, Atom-F, Expr-F, FlatPart-F, Generator-F, Head-F, Postfix-F, RunPart-F, Variable-F, Also-F, BlockItem-F, CaseClause-F, Catch-F, Elif-F, ElseBlock-F, ElseClause-F, Finally-F, NextGenerator-F, TypeClause-F, ExprList-F, Flat-F, NextExpr-F, Operand-F, Run-F}
use Rattle.fort_tree.specs.declared.delimited.Delimited.TheFolds.{map-Delimited, map-Item, map-Atom, map-Expr, map-FlatPart, map-Generator, map-Head, map-Postfix, map-RunPart, map-Variable, map-Also, map-BlockItem, map-CaseClause, map-Catch, map-Elif, map-ElseBlock, map-ElseClause, map-Finally, map-NextGenerator, map-TypeClause, map-ExprList, map-Flat, map-NextExpr, map-Operand, map-Run}
use Rattle.fort_tree.specs.Tokens.{is_empty, is_spelled}
use Rattle.fort_tree.specs.Said.{Said, SaidEntry, SaidElse, in_brackets, elsewhere, before_do, tokens_of, else_tokens}
use Rattle.fort_tree.specs.Types.{said_type}
use Rattle.fort_tree.specs.Flats.{atom_step, expr_step, flat_part_step, generator_step, head_step, postfix_step, run_part_step, expr_list_step, flat_step, next_expr_step, operand_step, run_step}
use Rattle.fort_tree.specs.Blocks.{clause, delimited_step, item_step, variable_step, also_step, block_item_step, case_clause_step, catch_step, elif_step, else_block_step, else_clause_step, finally_step, next_generator_step, type_clause_step}
use Rattle.fort_tree.specs.Yield.{said_expr, said_variable}
use Rattle.fort_tree_law_moved.specs.Spots.{moved_spot}
use Rattle.fort_tree_law_moved.specs.TreesMoved.{delimited_level, item_level, atom_level, expr_level, flat_part_level, generator_level, head_level, postfix_level, run_part_level, variable_level, also_level, block_item_level, case_clause_level, catch_level, elif_level, else_block_level, else_clause_level, finally_level, next_generator_level, type_clause_level, expr_list_level, flat_level, next_expr_level, operand_level, run_level, moved_expr, moved_variable}
use Rattle.fort_tree_law_moved.proofs.SaidMoved.{same_said, under, cons, moved_said, moved_entry, moved_else, piece, whole, behind, all_move, entries_move, else_move, names_move, initial_move, assign_move, big_first_move, big_more_move, var_move, prefix_move, all_hold, maybe_hold, entries_hold, there_hold, has_hold, next_name_hold, else_hold, calls_hold, begins_hold}
use Rattle.fort_tree_law_moved.proofs.TypesSaid.{said_type_moves, typed, type_holds, parameters_tokens, parameters_hold}
use Rattle.fort_tree_law_moved.proofs.TreeFolds.{fold_moved_expr, fold_moved_variable}

module _ (g : Place → Place) where
  -- a clause of a `case`, a `typecase` or a `catch`
  clause_meets : (x : Said) (arrow : Spot) (value : Said)
      → clause (moved_said g x) (moved_spot g arrow) (moved_said g value)
      ≡ moved_said g (clause x arrow value)
  clause_meets x arrow value = same_said refl (behind g x _ refl) (λ names allowed. refl)

  -- one level of a form that ends with `end`
  meets_delimited : (l : Delimited-F Said Said Said Said Said Said Said Said Said Said Said
      SaidEntry SaidEntry Said Said Said SaidElse Said Said SaidEntry Said Said Said Said Said)
      → delimited_step
      (delimited_level g
      (map-Delimited Said Said Said Said Said Said Said Said Said Said Said SaidEntry SaidEntry
      Said Said Said SaidElse Said Said SaidEntry Said Said Said Said Said Said Said Said Said
      Said Said Said Said Said Said Said SaidEntry SaidEntry Said Said Said SaidElse Said Said
      SaidEntry Said Said Said Said Said (moved_said g) (moved_said g) (moved_said g)
      (moved_said g) (moved_said g) (moved_said g) (moved_said g) (moved_said g) (moved_said g)
      (moved_said g) (moved_said g) (moved_entry g) (moved_entry g) (moved_said g)
      (moved_said g) (moved_said g) (moved_else g) (moved_said g) (moved_said g) (moved_entry g)
      (moved_said g) (moved_said g) (moved_said g) (moved_said g) (moved_said g) l))
      ≡ moved_said g (delimited_step l)
  meets_delimited (Delimited-F.Do at_do block others end) =
      same_said refl (piece g _ _ (entries_move g block) (piece g _ _ (all_move g others) refl))
      (λ names allowed i. allowed.blocks
      && (entries_hold g names block i && all_hold g names elsewhere others i))
  meets_delimited (Delimited-F.If at_if condition then block elifs None end) =
      same_said refl
      (whole g condition _
      (under (piece g _ _ (entries_move g block) (piece g _ _ (all_move g elifs) refl))))
      (λ names allowed i. condition.obeys names elsewhere
      && (entries_hold g names block i
      && (all_hold g names elsewhere elifs i && maybe_hold g names elsewhere None i)))
  meets_delimited (Delimited-F.If at_if condition then block elifs (Some otherwise) end) =
      same_said refl
      (whole g condition _
      (under (piece g _ _ (entries_move g block)
      (piece g _ _ (all_move g elifs) (whole g otherwise _ refl)))))
      (λ names allowed i. condition.obeys names elsewhere
      && (entries_hold g names block i
      && (all_hold g names elsewhere elifs i
      && maybe_hold g names elsewhere (Some otherwise) i)))
  meets_delimited (Delimited-F.While at_while condition at_do block end) =
      same_said refl (whole g condition _ (under (piece g _ _ (entries_move g block) refl)))
      (λ names allowed i. condition.obeys names before_do && entries_hold g names block i)
  meets_delimited (Delimited-F.For at_for generator others at_do block end) =
      same_said refl
      (whole g generator _
      (piece g _ _ (all_move g others) (under (piece g _ _ (entries_move g block) refl))))
      (λ names allowed i. generator.obeys names before_do
      && (all_hold g names before_do others i && entries_hold g names block i))
  meets_delimited (Delimited-F.Case at_case subject of clauses None end) =
      same_said refl (whole g subject _ (under (piece g _ _ (entries_move g clauses) refl)))
      (λ names allowed i. subject.obeys names elsewhere
      && (has_hold g clauses i
      && (entries_hold g names clauses i && else_hold g names clauses None i)))
  meets_delimited (Delimited-F.Case at_case subject of clauses (Some otherwise) end) =
      same_said refl
      (whole g subject _
      (under (piece g _ _ (entries_move g clauses)
      (piece g (else_tokens (Some otherwise)) _ (else_move g (Some otherwise)) refl))))
      (λ names allowed i. subject.obeys names elsewhere
      && (has_hold g clauses i
      && (entries_hold g names clauses i && else_hold g names clauses (Some otherwise) i)))
  meets_delimited (Delimited-F.Typecase at_typecase name at_equals subject of clauses None end) =
      same_said refl
      (under (under (whole g subject _ (under (piece g _ _ (entries_move g clauses) refl)))))
      (λ names allowed i. subject.obeys names elsewhere
      && (has_hold g clauses i
      && (entries_hold g names clauses i && else_hold g names clauses None i)))
  meets_delimited
      (Delimited-F.Typecase at_typecase name at_equals subject of clauses (Some otherwise) end) =
      same_said refl
      (under (under
      (whole g subject _
      (under (piece g _ _ (entries_move g clauses)
      (piece g (else_tokens (Some otherwise)) _ (else_move g (Some otherwise)) refl))))))
      (λ names allowed i. subject.obeys names elsewhere
      && (has_hold g clauses i
      && (entries_hold g names clauses i && else_hold g names clauses (Some otherwise) i)))
  meets_delimited (Delimited-F.Try at_try block None None end) =
      same_said refl (piece g _ _ (entries_move g block) (refl))
      (λ names allowed i. (there_hold g (moved_said g) None i || there_hold g (moved_said g) None i)
      && (entries_hold g names block i
      && (maybe_hold g names elsewhere None i && maybe_hold g names elsewhere None i)))
  meets_delimited (Delimited-F.Try at_try block None (Some finally) end) =
      same_said refl (piece g _ _ (entries_move g block) ((whole g finally _ refl)))
      (λ names allowed i. (there_hold g (moved_said g) None i
      || there_hold g (moved_said g) (Some finally) i)
      && (entries_hold g names block i
      && (maybe_hold g names elsewhere None i
      && maybe_hold g names elsewhere (Some finally) i)))
  meets_delimited (Delimited-F.Try at_try block (Some catch) None end) =
      same_said refl (piece g _ _ (entries_move g block) (whole g catch _ refl))
      (λ names allowed i. (there_hold g (moved_said g) (Some catch) i
      || there_hold g (moved_said g) None i)
      && (entries_hold g names block i
      && (maybe_hold g names elsewhere (Some catch) i
      && maybe_hold g names elsewhere None i)))
  meets_delimited (Delimited-F.Try at_try block (Some catch) (Some finally) end) =
      same_said refl (piece g _ _ (entries_move g block) (whole g catch _ (whole g finally _ refl)))
      (λ names allowed i. (there_hold g (moved_said g) (Some catch) i
      || there_hold g (moved_said g) (Some finally) i)
      && (entries_hold g names block i
      && (maybe_hold g names elsewhere (Some catch) i
      && maybe_hold g names elsewhere (Some finally) i)))

  -- one level of an item of a block
  meets_item : (l : Item-F Said Said Said Said Said Said Said Said Said Said Said SaidEntry
      SaidEntry Said Said Said SaidElse Said Said SaidEntry Said Said Said Said Said)
      → item_step
      (item_level g
      (map-Item Said Said Said Said Said Said Said Said Said Said Said SaidEntry SaidEntry Said
      Said Said SaidElse Said Said SaidEntry Said Said Said Said Said Said Said Said Said Said
      Said Said Said Said Said Said SaidEntry SaidEntry Said Said Said SaidElse Said Said
      SaidEntry Said Said Said Said Said (moved_said g) (moved_said g) (moved_said g)
      (moved_said g) (moved_said g) (moved_said g) (moved_said g) (moved_said g) (moved_said g)
      (moved_said g) (moved_said g) (moved_entry g) (moved_entry g) (moved_said g)
      (moved_said g) (moved_said g) (moved_else g) (moved_said g) (moved_said g) (moved_entry g)
      (moved_said g) (moved_said g) (moved_said g) (moved_said g) (moved_said g) l))
      ≡ moved_said g (item_step l)
  meets_item (Item-F.Variable variable) = refl
  meets_item (Item-F.Names left first others right at_colon ty at_equals value) =
      same_said refl (under (piece g _ _ (names_move g others) (under (under (typed g ty _ refl)))))
      (λ names allowed i. next_name_hold g others i
      && (type_holds g ty names elsewhere i && value.obeys names elsewhere))
  meets_item (Item-F.Expr expr) =
      same_said refl refl (λ names allowed i. not (begins_hold g (tokens_of expr) i)
      && expr.obeys names elsewhere)

  -- one level of an atom
  meets_atom : (l : Atom-F Said Said Said Said Said Said Said Said Said Said Said SaidEntry
      SaidEntry Said Said Said SaidElse Said Said SaidEntry Said Said Said Said Said)
      → atom_step
      (atom_level g
      (map-Atom Said Said Said Said Said Said Said Said Said Said Said SaidEntry SaidEntry Said
      Said Said SaidElse Said Said SaidEntry Said Said Said Said Said Said Said Said Said Said
      Said Said Said Said Said Said SaidEntry SaidEntry Said Said Said SaidElse Said Said
      SaidEntry Said Said Said Said Said (moved_said g) (moved_said g) (moved_said g)
      (moved_said g) (moved_said g) (moved_said g) (moved_said g) (moved_said g) (moved_said g)
      (moved_said g) (moved_said g) (moved_entry g) (moved_entry g) (moved_said g)
      (moved_said g) (moved_said g) (moved_else g) (moved_said g) (moved_said g) (moved_entry g)
      (moved_said g) (moved_said g) (moved_said g) (moved_said g) (moved_said g) l))
      ≡ moved_said g (atom_step l)
  meets_atom (Atom-F.Name name) = refl
  meets_atom (Atom-F.Number value s) = refl
  meets_atom (Atom-F.Text text s) = refl
  meets_atom (Atom-F.True s) = refl
  meets_atom (Atom-F.False s) = refl
  meets_atom (Atom-F.Self_ s) = refl
  meets_atom (Atom-F.Parens left None right) =
      same_said refl refl (λ names allowed. maybe_hold g names in_brackets None)
  meets_atom (Atom-F.Parens left (Some contents) right) =
      same_said refl (whole g contents _ refl)
      (λ names allowed. maybe_hold g names in_brackets (Some contents))
  meets_atom (Atom-F.Delimited form) = refl
  meets_atom (Atom-F.ArrayFill spots element size value) =
      same_said refl
      (under (typed g element _
      (under (under (whole g size _ (under (under (under (under (whole g value _ refl))))))))))
      (λ names allowed i. (is_empty spots.left.gap
      && (is_empty spots.size_left.gap
      && (is_empty spots.dot.gap
      && (is_empty spots.fill.spot.gap && is_empty spots.value_left.gap))))
      && (is_spelled "fill" names spots.fill
      && (type_holds g element names elsewhere i
      && (size.obeys names in_brackets && value.obeys names in_brackets))))

  -- one level of an expression
  meets_expr : (l : Expr-F Said Said Said Said Said Said Said Said Said Said Said SaidEntry
      SaidEntry Said Said Said SaidElse Said Said SaidEntry Said Said Said Said Said)
      → expr_step
      (expr_level g
      (map-Expr Said Said Said Said Said Said Said Said Said Said Said SaidEntry SaidEntry Said
      Said Said SaidElse Said Said SaidEntry Said Said Said Said Said Said Said Said Said Said
      Said Said Said Said Said Said SaidEntry SaidEntry Said Said Said SaidElse Said Said
      SaidEntry Said Said Said Said Said (moved_said g) (moved_said g) (moved_said g)
      (moved_said g) (moved_said g) (moved_said g) (moved_said g) (moved_said g) (moved_said g)
      (moved_said g) (moved_said g) (moved_entry g) (moved_entry g) (moved_said g)
      (moved_said g) (moved_said g) (moved_else g) (moved_said g) (moved_said g) (moved_entry g)
      (moved_said g) (moved_said g) (moved_said g) (moved_said g) (moved_said g) l))
      ≡ moved_said g (expr_step l)
  meets_expr (Expr-F.Flat flat) = refl
  meets_expr (Expr-F.Assign target sign None value) =
      same_said refl (behind g target _ (cons (assign_move g sign) refl))
      (λ names allowed i. target.obeys names elsewhere
      && (maybe_hold g names elsewhere None i && value.obeys names elsewhere))
  meets_expr (Expr-F.Assign target sign (Some head) value) =
      same_said refl (behind g target _ (cons (assign_move g sign) (whole g head _ refl)))
      (λ names allowed i. target.obeys names elsewhere
      && (maybe_hold g names elsewhere (Some head) i && value.obeys names elsewhere))
  meets_expr (Expr-F.Open head body) = same_said refl (behind g head _ refl) (λ names allowed. refl)
  meets_expr (Expr-F.OpenAssign head target sign value) =
      same_said refl (behind g head _ (whole g target _ (cons (assign_move g sign) refl)))
      (λ names allowed. refl)

  -- one level of a further part of a flat expression
  meets_flat_part : (l : FlatPart-F Said Said Said Said Said Said Said Said Said Said Said SaidEntry
      SaidEntry Said Said Said SaidElse Said Said SaidEntry Said Said Said Said Said)
      → flat_part_step
      (flat_part_level g
      (map-FlatPart Said Said Said Said Said Said Said Said Said Said Said SaidEntry SaidEntry
      Said Said Said SaidElse Said Said SaidEntry Said Said Said Said Said Said Said Said Said
      Said Said Said Said Said Said Said SaidEntry SaidEntry Said Said Said SaidElse Said Said
      SaidEntry Said Said Said Said Said (moved_said g) (moved_said g) (moved_said g)
      (moved_said g) (moved_said g) (moved_said g) (moved_said g) (moved_said g) (moved_said g)
      (moved_said g) (moved_said g) (moved_entry g) (moved_entry g) (moved_said g)
      (moved_said g) (moved_said g) (moved_else g) (moved_said g) (moved_said g) (moved_entry g)
      (moved_said g) (moved_said g) (moved_said g) (moved_said g) (moved_said g) l))
      ≡ moved_said g (flat_part_step l)
  meets_flat_part (FlatPart-F.Run run) = refl
  meets_flat_part (FlatPart-F.Infix sign operand) = refl

  -- one level of a generator
  meets_generator : (l : Generator-F Said Said Said Said Said Said Said Said Said Said Said
      SaidEntry SaidEntry Said Said Said SaidElse Said Said SaidEntry Said Said Said Said Said)
      → generator_step
      (generator_level g
      (map-Generator Said Said Said Said Said Said Said Said Said Said Said SaidEntry SaidEntry
      Said Said Said SaidElse Said Said SaidEntry Said Said Said Said Said Said Said Said Said
      Said Said Said Said Said Said Said SaidEntry SaidEntry Said Said Said SaidElse Said Said
      SaidEntry Said Said Said Said Said (moved_said g) (moved_said g) (moved_said g)
      (moved_said g) (moved_said g) (moved_said g) (moved_said g) (moved_said g) (moved_said g)
      (moved_said g) (moved_said g) (moved_entry g) (moved_entry g) (moved_said g)
      (moved_said g) (moved_said g) (moved_else g) (moved_said g) (moved_said g) (moved_entry g)
      (moved_said g) (moved_said g) (moved_said g) (moved_said g) (moved_said g) l))
      ≡ moved_said g (generator_step l)
  meets_generator (Generator-F.Parallel name arrow source) = refl
  meets_generator (Generator-F.Sequential name arrow seq left source right) =
      same_said refl (under (under (under (whole g source _ refl)))) (λ names allowed. refl)

  -- one level of a head
  meets_head : (l : Head-F Said Said Said Said Said Said Said Said Said Said Said SaidEntry
      SaidEntry Said Said Said SaidElse Said Said SaidEntry Said Said Said Said Said)
      → head_step
      (head_level g
      (map-Head Said Said Said Said Said Said Said Said Said Said Said SaidEntry SaidEntry Said
      Said Said SaidElse Said Said SaidEntry Said Said Said Said Said Said Said Said Said Said
      Said Said Said Said Said Said SaidEntry SaidEntry Said Said Said SaidElse Said Said
      SaidEntry Said Said Said Said Said (moved_said g) (moved_said g) (moved_said g)
      (moved_said g) (moved_said g) (moved_said g) (moved_said g) (moved_said g) (moved_said g)
      (moved_said g) (moved_said g) (moved_entry g) (moved_entry g) (moved_said g)
      (moved_said g) (moved_said g) (moved_else g) (moved_said g) (moved_said g) (moved_entry g)
      (moved_said g) (moved_said g) (moved_said g) (moved_said g) (moved_said g) l))
      ≡ moved_said g (head_step l)
  meets_head (Head-F.Atomic s) = refl
  meets_head (Head-F.Tryatomic s) = refl
  meets_head (Head-F.Throw s) = refl
  meets_head (Head-F.Spawn s) = refl
  meets_head (Head-F.Fn s left parameters right arrow) =
      same_said refl (under (piece g _ _ (parameters_tokens g parameters) refl))
      (λ names allowed. parameters_hold g names parameters)
  meets_head (Head-F.Big big left generator right) =
      same_said (big_first_move g big)
      (piece g _ _ (big_more_move g big) (under (whole g generator _ refl))) (λ names allowed. refl)

  -- one level of a postfix
  meets_postfix : (l : Postfix-F Said Said Said Said Said Said Said Said Said Said Said SaidEntry
      SaidEntry Said Said Said SaidElse Said Said SaidEntry Said Said Said Said Said)
      → postfix_step
      (postfix_level g
      (map-Postfix Said Said Said Said Said Said Said Said Said Said Said SaidEntry SaidEntry
      Said Said Said SaidElse Said Said SaidEntry Said Said Said Said Said Said Said Said Said
      Said Said Said Said Said Said Said SaidEntry SaidEntry Said Said Said SaidElse Said Said
      SaidEntry Said Said Said Said Said (moved_said g) (moved_said g) (moved_said g)
      (moved_said g) (moved_said g) (moved_said g) (moved_said g) (moved_said g) (moved_said g)
      (moved_said g) (moved_said g) (moved_entry g) (moved_entry g) (moved_said g)
      (moved_said g) (moved_said g) (moved_else g) (moved_said g) (moved_said g) (moved_entry g)
      (moved_said g) (moved_said g) (moved_said g) (moved_said g) (moved_said g) l))
      ≡ moved_said g (postfix_step l)
  meets_postfix (Postfix-F.Subscript left index right) =
      same_said refl (whole g index _ refl) (λ names allowed. refl)
  meets_postfix (Postfix-F.Power power exponent) = refl
  meets_postfix (Postfix-F.Field dot name) = refl
  meets_postfix (Postfix-F.Call dot name left None right) =
      same_said refl (under (under refl)) (λ names allowed i. is_empty name.spot.gap
      && (is_empty left.gap && maybe_hold g names in_brackets None i))
  meets_postfix (Postfix-F.Call dot name left (Some arguments) right) =
      same_said refl (under (under (whole g arguments _ refl)))
      (λ names allowed i. is_empty name.spot.gap
      && (is_empty left.gap && maybe_hold g names in_brackets (Some arguments) i))

  -- one level of a further part of a run
  meets_run_part : (l : RunPart-F Said Said Said Said Said Said Said Said Said Said Said SaidEntry
      SaidEntry Said Said Said SaidElse Said Said SaidEntry Said Said Said Said Said)
      → run_part_step
      (run_part_level g
      (map-RunPart Said Said Said Said Said Said Said Said Said Said Said SaidEntry SaidEntry
      Said Said Said SaidElse Said Said SaidEntry Said Said Said Said Said Said Said Said Said
      Said Said Said Said Said Said Said SaidEntry SaidEntry Said Said Said SaidElse Said Said
      SaidEntry Said Said Said Said Said (moved_said g) (moved_said g) (moved_said g)
      (moved_said g) (moved_said g) (moved_said g) (moved_said g) (moved_said g) (moved_said g)
      (moved_said g) (moved_said g) (moved_entry g) (moved_entry g) (moved_said g)
      (moved_said g) (moved_said g) (moved_else g) (moved_said g) (moved_said g) (moved_entry g)
      (moved_said g) (moved_said g) (moved_said g) (moved_said g) (moved_said g) l))
      ≡ moved_said g (run_part_step l)
  meets_run_part (RunPart-F.Atom atom) = refl
  meets_run_part (RunPart-F.Postfix postfix) = refl

  -- one level of a declaration of a variable
  meets_variable : (l : Variable-F Said Said Said Said Said Said Said Said Said Said Said SaidEntry
      SaidEntry Said Said Said SaidElse Said Said SaidEntry Said Said Said Said Said)
      → variable_step
      (variable_level g
      (map-Variable Said Said Said Said Said Said Said Said Said Said Said SaidEntry SaidEntry
      Said Said Said SaidElse Said Said SaidEntry Said Said Said Said Said Said Said Said Said
      Said Said Said Said Said Said Said SaidEntry SaidEntry Said Said Said SaidElse Said Said
      SaidEntry Said Said Said Said Said (moved_said g) (moved_said g) (moved_said g)
      (moved_said g) (moved_said g) (moved_said g) (moved_said g) (moved_said g) (moved_said g)
      (moved_said g) (moved_said g) (moved_entry g) (moved_entry g) (moved_said g)
      (moved_said g) (moved_said g) (moved_else g) (moved_said g) (moved_said g) (moved_entry g)
      (moved_said g) (moved_said g) (moved_said g) (moved_said g) (moved_said g) l))
      ≡ moved_said g (variable_step l)
  meets_variable l =
      var_move g l.var _ _
      (same_said refl (under (typed g l.ty _ (cons (initial_move g l.sign) refl)))
      (λ names allowed i. type_holds g l.ty names elsewhere i && l.value.obeys names elsewhere))

  -- one level of an `also` with its block
  meets_also : (l : Also-F Said Said Said Said Said Said Said Said Said Said Said SaidEntry
      SaidEntry Said Said Said SaidElse Said Said SaidEntry Said Said Said Said Said)
      → also_step
      (also_level g
      (map-Also Said Said Said Said Said Said Said Said Said Said Said SaidEntry SaidEntry Said
      Said Said SaidElse Said Said SaidEntry Said Said Said Said Said Said Said Said Said Said
      Said Said Said Said Said Said SaidEntry SaidEntry Said Said Said SaidElse Said Said
      SaidEntry Said Said Said Said Said (moved_said g) (moved_said g) (moved_said g)
      (moved_said g) (moved_said g) (moved_said g) (moved_said g) (moved_said g) (moved_said g)
      (moved_said g) (moved_said g) (moved_entry g) (moved_entry g) (moved_said g)
      (moved_said g) (moved_said g) (moved_else g) (moved_said g) (moved_said g) (moved_entry g)
      (moved_said g) (moved_said g) (moved_said g) (moved_said g) (moved_said g) l))
      ≡ moved_said g (also_step l)
  meets_also l =
      same_said refl (under (entries_move g l.block))
      (λ names allowed. entries_hold g names l.block)

  -- one level of an item of a block with its `;`
  meets_block_item : (l : BlockItem-F Said Said Said Said Said Said Said Said Said Said Said
      SaidEntry SaidEntry Said Said Said SaidElse Said Said SaidEntry Said Said Said Said Said)
      → block_item_step
      (block_item_level g
      (map-BlockItem Said Said Said Said Said Said Said Said Said Said Said SaidEntry SaidEntry
      Said Said Said SaidElse Said Said SaidEntry Said Said Said Said Said Said Said Said Said
      Said Said Said Said Said Said Said SaidEntry SaidEntry Said Said Said SaidElse Said Said
      SaidEntry Said Said Said Said Said (moved_said g) (moved_said g) (moved_said g)
      (moved_said g) (moved_said g) (moved_said g) (moved_said g) (moved_said g) (moved_said g)
      (moved_said g) (moved_said g) (moved_entry g) (moved_entry g) (moved_said g)
      (moved_said g) (moved_said g) (moved_else g) (moved_said g) (moved_said g) (moved_entry g)
      (moved_said g) (moved_said g) (moved_said g) (moved_said g) (moved_said g) l))
      ≡ moved_entry g (block_item_step l)
  meets_block_item l = refl

  -- one level of a clause of a `case`
  meets_case_clause : (l : CaseClause-F Said Said Said Said Said Said Said Said Said Said Said
      SaidEntry SaidEntry Said Said Said SaidElse Said Said SaidEntry Said Said Said Said Said)
      → case_clause_step
      (case_clause_level g
      (map-CaseClause Said Said Said Said Said Said Said Said Said Said Said SaidEntry SaidEntry
      Said Said Said SaidElse Said Said SaidEntry Said Said Said Said Said Said Said Said Said
      Said Said Said Said Said Said Said SaidEntry SaidEntry Said Said Said SaidElse Said Said
      SaidEntry Said Said Said Said Said (moved_said g) (moved_said g) (moved_said g)
      (moved_said g) (moved_said g) (moved_said g) (moved_said g) (moved_said g) (moved_said g)
      (moved_said g) (moved_said g) (moved_entry g) (moved_entry g) (moved_said g)
      (moved_said g) (moved_said g) (moved_else g) (moved_said g) (moved_said g) (moved_entry g)
      (moved_said g) (moved_said g) (moved_said g) (moved_said g) (moved_said g) l))
      ≡ moved_entry g (case_clause_step l)
  meets_case_clause l =
      λ i. record {
        item = clause_meets l.subject l.arrow l.value i;
        semicolon = option_map (moved_spot g) l.semicolon;
      }

  -- one level of a `catch`
  meets_catch : (l : Catch-F Said Said Said Said Said Said Said Said Said Said Said SaidEntry
      SaidEntry Said Said Said SaidElse Said Said SaidEntry Said Said Said Said Said)
      → catch_step
      (catch_level g
      (map-Catch Said Said Said Said Said Said Said Said Said Said Said SaidEntry SaidEntry Said
      Said Said SaidElse Said Said SaidEntry Said Said Said Said Said Said Said Said Said Said
      Said Said Said Said Said Said SaidEntry SaidEntry Said Said Said SaidElse Said Said
      SaidEntry Said Said Said Said Said (moved_said g) (moved_said g) (moved_said g)
      (moved_said g) (moved_said g) (moved_said g) (moved_said g) (moved_said g) (moved_said g)
      (moved_said g) (moved_said g) (moved_entry g) (moved_entry g) (moved_said g)
      (moved_said g) (moved_said g) (moved_else g) (moved_said g) (moved_said g) (moved_entry g)
      (moved_said g) (moved_said g) (moved_said g) (moved_said g) (moved_said g) l))
      ≡ moved_said g (catch_step l)
  meets_catch l =
      same_said refl (under (entries_move g l.clauses)) (λ names allowed i. has_hold g l.clauses i
      && entries_hold g names l.clauses i)

  -- one level of an `elif`
  meets_elif : (l : Elif-F Said Said Said Said Said Said Said Said Said Said Said SaidEntry
      SaidEntry Said Said Said SaidElse Said Said SaidEntry Said Said Said Said Said)
      → elif_step
      (elif_level g
      (map-Elif Said Said Said Said Said Said Said Said Said Said Said SaidEntry SaidEntry Said
      Said Said SaidElse Said Said SaidEntry Said Said Said Said Said Said Said Said Said Said
      Said Said Said Said Said Said SaidEntry SaidEntry Said Said Said SaidElse Said Said
      SaidEntry Said Said Said Said Said (moved_said g) (moved_said g) (moved_said g)
      (moved_said g) (moved_said g) (moved_said g) (moved_said g) (moved_said g) (moved_said g)
      (moved_said g) (moved_said g) (moved_entry g) (moved_entry g) (moved_said g)
      (moved_said g) (moved_said g) (moved_else g) (moved_said g) (moved_said g) (moved_entry g)
      (moved_said g) (moved_said g) (moved_said g) (moved_said g) (moved_said g) l))
      ≡ moved_said g (elif_step l)
  meets_elif l =
      same_said refl (whole g l.condition _ (under (entries_move g l.block)))
      (λ names allowed i. l.condition.obeys names elsewhere && entries_hold g names l.block i)

  -- one level of the `else` of an `if`
  meets_else_block : (l : ElseBlock-F Said Said Said Said Said Said Said Said Said Said Said
      SaidEntry SaidEntry Said Said Said SaidElse Said Said SaidEntry Said Said Said Said Said)
      → else_block_step
      (else_block_level g
      (map-ElseBlock Said Said Said Said Said Said Said Said Said Said Said SaidEntry SaidEntry
      Said Said Said SaidElse Said Said SaidEntry Said Said Said Said Said Said Said Said Said
      Said Said Said Said Said Said Said SaidEntry SaidEntry Said Said Said SaidElse Said Said
      SaidEntry Said Said Said Said Said (moved_said g) (moved_said g) (moved_said g)
      (moved_said g) (moved_said g) (moved_said g) (moved_said g) (moved_said g) (moved_said g)
      (moved_said g) (moved_said g) (moved_entry g) (moved_entry g) (moved_said g)
      (moved_said g) (moved_said g) (moved_else g) (moved_said g) (moved_said g) (moved_entry g)
      (moved_said g) (moved_said g) (moved_said g) (moved_said g) (moved_said g) l))
      ≡ moved_said g (else_block_step l)
  meets_else_block l =
      same_said refl (entries_move g l.block) (λ names allowed. entries_hold g names l.block)

  -- one level of the `else` of a `case` or `typecase`
  meets_else_clause : (l : ElseClause-F Said Said Said Said Said Said Said Said Said Said Said
      SaidEntry SaidEntry Said Said Said SaidElse Said Said SaidEntry Said Said Said Said Said)
      → else_clause_step
      (else_clause_level g
      (map-ElseClause Said Said Said Said Said Said Said Said Said Said Said SaidEntry SaidEntry
      Said Said Said SaidElse Said Said SaidEntry Said Said Said Said Said Said Said Said Said
      Said Said Said Said Said Said Said SaidEntry SaidEntry Said Said Said SaidElse Said Said
      SaidEntry Said Said Said Said Said (moved_said g) (moved_said g) (moved_said g)
      (moved_said g) (moved_said g) (moved_said g) (moved_said g) (moved_said g) (moved_said g)
      (moved_said g) (moved_said g) (moved_entry g) (moved_entry g) (moved_said g)
      (moved_said g) (moved_said g) (moved_else g) (moved_said g) (moved_said g) (moved_entry g)
      (moved_said g) (moved_said g) (moved_said g) (moved_said g) (moved_said g) l))
      ≡ moved_else g (else_clause_step l)
  meets_else_clause l = refl

  -- one level of a `finally`
  meets_finally : (l : Finally-F Said Said Said Said Said Said Said Said Said Said Said SaidEntry
      SaidEntry Said Said Said SaidElse Said Said SaidEntry Said Said Said Said Said)
      → finally_step
      (finally_level g
      (map-Finally Said Said Said Said Said Said Said Said Said Said Said SaidEntry SaidEntry
      Said Said Said SaidElse Said Said SaidEntry Said Said Said Said Said Said Said Said Said
      Said Said Said Said Said Said Said SaidEntry SaidEntry Said Said Said SaidElse Said Said
      SaidEntry Said Said Said Said Said (moved_said g) (moved_said g) (moved_said g)
      (moved_said g) (moved_said g) (moved_said g) (moved_said g) (moved_said g) (moved_said g)
      (moved_said g) (moved_said g) (moved_entry g) (moved_entry g) (moved_said g)
      (moved_said g) (moved_said g) (moved_else g) (moved_said g) (moved_said g) (moved_entry g)
      (moved_said g) (moved_said g) (moved_said g) (moved_said g) (moved_said g) l))
      ≡ moved_said g (finally_step l)
  meets_finally l =
      same_said refl (entries_move g l.block) (λ names allowed. entries_hold g names l.block)

  -- one level of a further generator of a `for`
  meets_next_generator : (l : NextGenerator-F Said Said Said Said Said Said Said Said Said Said Said
      SaidEntry SaidEntry Said Said Said SaidElse Said Said SaidEntry Said Said Said Said Said)
      → next_generator_step
      (next_generator_level g
      (map-NextGenerator Said Said Said Said Said Said Said Said Said Said Said SaidEntry
      SaidEntry Said Said Said SaidElse Said Said SaidEntry Said Said Said Said Said Said Said
      Said Said Said Said Said Said Said Said Said SaidEntry SaidEntry Said Said Said SaidElse
      Said Said SaidEntry Said Said Said Said Said (moved_said g) (moved_said g) (moved_said g)
      (moved_said g) (moved_said g) (moved_said g) (moved_said g) (moved_said g) (moved_said g)
      (moved_said g) (moved_said g) (moved_entry g) (moved_entry g) (moved_said g)
      (moved_said g) (moved_said g) (moved_else g) (moved_said g) (moved_said g) (moved_entry g)
      (moved_said g) (moved_said g) (moved_said g) (moved_said g) (moved_said g) l))
      ≡ moved_said g (next_generator_step l)
  meets_next_generator l = refl

  -- one level of a clause of a `typecase` or `catch`
  meets_type_clause : (l : TypeClause-F Said Said Said Said Said Said Said Said Said Said Said
      SaidEntry SaidEntry Said Said Said SaidElse Said Said SaidEntry Said Said Said Said Said)
      → type_clause_step
      (type_clause_level g
      (map-TypeClause Said Said Said Said Said Said Said Said Said Said Said SaidEntry SaidEntry
      Said Said Said SaidElse Said Said SaidEntry Said Said Said Said Said Said Said Said Said
      Said Said Said Said Said Said Said SaidEntry SaidEntry Said Said Said SaidElse Said Said
      SaidEntry Said Said Said Said Said (moved_said g) (moved_said g) (moved_said g)
      (moved_said g) (moved_said g) (moved_said g) (moved_said g) (moved_said g) (moved_said g)
      (moved_said g) (moved_said g) (moved_entry g) (moved_entry g) (moved_said g)
      (moved_said g) (moved_said g) (moved_else g) (moved_said g) (moved_said g) (moved_entry g)
      (moved_said g) (moved_said g) (moved_said g) (moved_said g) (moved_said g) l))
      ≡ moved_entry g (type_clause_step l)
  meets_type_clause l = λ i. record {
    item = (ap (λ x. clause x (moved_spot g l.arrow) (moved_said g l.value))
        (said_type_moves g l.ty) ∙ clause_meets (said_type l.ty) l.arrow l.value) i;
    semicolon = option_map (moved_spot g) l.semicolon;
  }

  -- one level of a list of expressions
  meets_expr_list : (l : ExprList-F Said Said Said Said Said Said Said Said Said Said Said SaidEntry
      SaidEntry Said Said Said SaidElse Said Said SaidEntry Said Said Said Said Said)
      → expr_list_step
      (expr_list_level g
      (map-ExprList Said Said Said Said Said Said Said Said Said Said Said SaidEntry SaidEntry
      Said Said Said SaidElse Said Said SaidEntry Said Said Said Said Said Said Said Said Said
      Said Said Said Said Said Said Said SaidEntry SaidEntry Said Said Said SaidElse Said Said
      SaidEntry Said Said Said Said Said (moved_said g) (moved_said g) (moved_said g)
      (moved_said g) (moved_said g) (moved_said g) (moved_said g) (moved_said g) (moved_said g)
      (moved_said g) (moved_said g) (moved_entry g) (moved_entry g) (moved_said g)
      (moved_said g) (moved_said g) (moved_else g) (moved_said g) (moved_said g) (moved_entry g)
      (moved_said g) (moved_said g) (moved_said g) (moved_said g) (moved_said g) l))
      ≡ moved_said g (expr_list_step l)
  meets_expr_list l =
      same_said refl (behind g l.first _ (all_move g l.others))
      (λ names allowed i. l.first.obeys names allowed && all_hold g names allowed l.others i)

  -- one level of a flat expression
  meets_flat : (l : Flat-F Said Said Said Said Said Said Said Said Said Said Said SaidEntry
      SaidEntry Said Said Said SaidElse Said Said SaidEntry Said Said Said Said Said)
      → flat_step
      (flat_level g
      (map-Flat Said Said Said Said Said Said Said Said Said Said Said SaidEntry SaidEntry Said
      Said Said SaidElse Said Said SaidEntry Said Said Said Said Said Said Said Said Said Said
      Said Said Said Said Said Said SaidEntry SaidEntry Said Said Said SaidElse Said Said
      SaidEntry Said Said Said Said Said (moved_said g) (moved_said g) (moved_said g)
      (moved_said g) (moved_said g) (moved_said g) (moved_said g) (moved_said g) (moved_said g)
      (moved_said g) (moved_said g) (moved_entry g) (moved_entry g) (moved_said g)
      (moved_said g) (moved_said g) (moved_else g) (moved_said g) (moved_said g) (moved_entry g)
      (moved_said g) (moved_said g) (moved_said g) (moved_said g) (moved_said g) l))
      ≡ moved_said g (flat_step l)
  meets_flat l =
      same_said refl (behind g l.first _ (all_move g l.rest))
      (λ names allowed i. l.first.obeys names allowed && all_hold g names allowed l.rest i)

  -- one level of a further expression of a list
  meets_next_expr : (l : NextExpr-F Said Said Said Said Said Said Said Said Said Said Said SaidEntry
      SaidEntry Said Said Said SaidElse Said Said SaidEntry Said Said Said Said Said)
      → next_expr_step
      (next_expr_level g
      (map-NextExpr Said Said Said Said Said Said Said Said Said Said Said SaidEntry SaidEntry
      Said Said Said SaidElse Said Said SaidEntry Said Said Said Said Said Said Said Said Said
      Said Said Said Said Said Said Said SaidEntry SaidEntry Said Said Said SaidElse Said Said
      SaidEntry Said Said Said Said Said (moved_said g) (moved_said g) (moved_said g)
      (moved_said g) (moved_said g) (moved_said g) (moved_said g) (moved_said g) (moved_said g)
      (moved_said g) (moved_said g) (moved_entry g) (moved_entry g) (moved_said g)
      (moved_said g) (moved_said g) (moved_else g) (moved_said g) (moved_said g) (moved_entry g)
      (moved_said g) (moved_said g) (moved_said g) (moved_said g) (moved_said g) l))
      ≡ moved_said g (next_expr_step l)
  meets_next_expr l = refl

  -- one level of a unit
  meets_operand : (l : Operand-F Said Said Said Said Said Said Said Said Said Said Said SaidEntry
      SaidEntry Said Said Said SaidElse Said Said SaidEntry Said Said Said Said Said)
      → operand_step
      (operand_level g
      (map-Operand Said Said Said Said Said Said Said Said Said Said Said SaidEntry SaidEntry
      Said Said Said SaidElse Said Said SaidEntry Said Said Said Said Said Said Said Said Said
      Said Said Said Said Said Said Said SaidEntry SaidEntry Said Said Said SaidElse Said Said
      SaidEntry Said Said Said Said Said (moved_said g) (moved_said g) (moved_said g)
      (moved_said g) (moved_said g) (moved_said g) (moved_said g) (moved_said g) (moved_said g)
      (moved_said g) (moved_said g) (moved_entry g) (moved_entry g) (moved_said g)
      (moved_said g) (moved_said g) (moved_else g) (moved_said g) (moved_said g) (moved_entry g)
      (moved_said g) (moved_said g) (moved_said g) (moved_said g) (moved_said g) l))
      ≡ moved_said g (operand_step l)
  meets_operand l = prefix_move g l.prefix l.run

  -- one level of a run
  meets_run : (l : Run-F Said Said Said Said Said Said Said Said Said Said Said SaidEntry SaidEntry
      Said Said Said SaidElse Said Said SaidEntry Said Said Said Said Said)
      → run_step
      (run_level g
      (map-Run Said Said Said Said Said Said Said Said Said Said Said SaidEntry SaidEntry Said
      Said Said SaidElse Said Said SaidEntry Said Said Said Said Said Said Said Said Said Said
      Said Said Said Said Said Said SaidEntry SaidEntry Said Said Said SaidElse Said Said
      SaidEntry Said Said Said Said Said (moved_said g) (moved_said g) (moved_said g)
      (moved_said g) (moved_said g) (moved_said g) (moved_said g) (moved_said g) (moved_said g)
      (moved_said g) (moved_said g) (moved_entry g) (moved_entry g) (moved_said g)
      (moved_said g) (moved_said g) (moved_else g) (moved_said g) (moved_said g) (moved_entry g)
      (moved_said g) (moved_said g) (moved_said g) (moved_said g) (moved_said g) l))
      ≡ moved_said g (run_step l)
  meets_run l =
      same_said refl (behind g l.first _ (all_move g l.rest))
      (λ names allowed i. l.first.obeys names allowed
      && (all_hold g names allowed l.rest i && calls_hold g l.rest i))

  -- A moved expression says what the expression says, moved.
  pub said_expr_moves : (t : Expr) → said_expr (moved_expr g t) ≡ moved_said g (said_expr t)
  unfolding said_expr
  said_expr_moves =
      fold_moved_expr g Said Said Said Said Said Said Said Said Said Said Said SaidEntry SaidEntry
      Said Said Said SaidElse Said Said SaidEntry Said Said Said Said Said delimited_step item_step
      atom_step expr_step flat_part_step generator_step head_step postfix_step run_part_step
      variable_step also_step block_item_step case_clause_step catch_step elif_step else_block_step
      else_clause_step finally_step next_generator_step type_clause_step expr_list_step flat_step
      next_expr_step operand_step run_step (moved_said g) (moved_said g) (moved_said g)
      (moved_said g) (moved_said g) (moved_said g) (moved_said g) (moved_said g) (moved_said g)
      (moved_said g) (moved_said g) (moved_entry g) (moved_entry g) (moved_said g) (moved_said g)
      (moved_said g) (moved_else g) (moved_said g) (moved_said g) (moved_entry g) (moved_said g)
      (moved_said g) (moved_said g) (moved_said g) (moved_said g) meets_delimited meets_item
      meets_atom meets_expr meets_flat_part meets_generator meets_head meets_postfix meets_run_part
      meets_variable meets_also meets_block_item meets_case_clause meets_catch meets_elif
      meets_else_block meets_else_clause meets_finally meets_next_generator meets_type_clause
      meets_expr_list meets_flat meets_next_expr meets_operand meets_run

  -- A moved declaration of a variable says what the declaration says, moved.
  pub said_variable_moves : (t : Variable)
      → said_variable (moved_variable g t) ≡ moved_said g (said_variable t)
  unfolding said_variable
  said_variable_moves =
      fold_moved_variable g Said Said Said Said Said Said Said Said Said Said Said SaidEntry
      SaidEntry Said Said Said SaidElse Said Said SaidEntry Said Said Said Said Said delimited_step
      item_step atom_step expr_step flat_part_step generator_step head_step postfix_step
      run_part_step variable_step also_step block_item_step case_clause_step catch_step elif_step
      else_block_step else_clause_step finally_step next_generator_step type_clause_step
      expr_list_step flat_step next_expr_step operand_step run_step (moved_said g) (moved_said g)
      (moved_said g) (moved_said g) (moved_said g) (moved_said g) (moved_said g) (moved_said g)
      (moved_said g) (moved_said g) (moved_said g) (moved_entry g) (moved_entry g) (moved_said g)
      (moved_said g) (moved_said g) (moved_else g) (moved_said g) (moved_said g) (moved_entry g)
      (moved_said g) (moved_said g) (moved_said g) (moved_said g) (moved_said g) meets_delimited
      meets_item meets_atom meets_expr meets_flat_part meets_generator meets_head meets_postfix
      meets_run_part meets_variable meets_also meets_block_item meets_case_clause meets_catch
      meets_elif meets_else_block meets_else_clause meets_finally meets_next_generator
      meets_type_clause meets_expr_list meets_flat meets_next_expr meets_operand meets_run
