-- The chapter "Grammar", trees apart from places: a moved expression or block measures what it
-- measures, moved.
use Rattle.std.proofs.Common.{◌≡◌, ◌+◌, [], ◌∷◌, ◌++◌, Some, None, map, length, refl, ap, ◌∙◌}
use Rattle.std.proofs.lemmas.List.{length-map}
use Rattle.fort_base.specs.declared.refusal.Place.{Place}
use Rattle.fort_tree.specs.declared.declarations.Variable.{Variable}
use Rattle.fort_tree.specs.declared.expr.Expr.{Expr}
use Rattle.fort_tree.specs.declared.delimited.Delimited.TheOpen.{Delimited-F, Item-F, Atom-F, Expr-F, FlatPart-F, Generator-F, Head-F, Postfix-F, RunPart-F, Variable-F, Also-F, BlockItem-F, CaseClause-F, Catch-F, Elif-F, ElseBlock-F, ElseClause-F, Finally-F, NextGenerator-F, TypeClause-F, ExprList-F, Flat-F, NextExpr-F, Operand-F, Run-F}
use Rattle.fort_tree.specs.declared.delimited.Delimited.TheFolds.{map-Delimited, map-Item, map-Atom, map-Expr, map-FlatPart, map-Generator, map-Head, map-Postfix, map-RunPart, map-Variable, map-Also, map-BlockItem, map-CaseClause, map-Catch, map-Elif, map-ElseBlock, map-ElseClause, map-Finally, map-NextGenerator, map-TypeClause, map-ExprList, map-Flat, map-NextExpr, map-Operand, map-Run}
use Rattle.fort_tree.specs.Measured.{Measured, Joined, Listed, MeasuredFlat, all_flats, all_crowded, listed_parts, maybe_measured, block_measured, over, most_parameters, most_tuple_parts, most_generators, most_units, most_elements, most_also_blocks, most_clauses}
use Rattle.fort_tree.specs.Measures.{spot_of, var_spot, measured_type, measured_parameters, measure_delimited, measure_item, measure_atom, measure_expr, measure_flat_part, measure_generator, measure_head, measure_postfix, measure_run_part, measure_variable, measure_also, measure_block_item, measure_case_clause, measure_catch, measure_elif, measure_else_block, measure_else_clause, measure_finally, measure_next_generator, measure_type_clause, measure_expr_list, measure_flat, measure_next_expr, measure_operand, measure_run}
use Rattle.fort_tree.specs.Types.{parameter_count}
use Rattle.fort_tree.specs.Flats.{big_first}
use Rattle.fort_tree.specs.Measuring.{measured_expr, measured_variable}
use Rattle.fort_tree_law_moved.specs.Spots.{moved_spot}
use Rattle.fort_tree_law_moved.specs.TreesMoved.{delimited_level, item_level, atom_level, expr_level, flat_part_level, generator_level, head_level, postfix_level, run_part_level, variable_level, also_level, block_item_level, case_clause_level, catch_level, elif_level, else_block_level, else_clause_level, finally_level, next_generator_level, type_clause_level, expr_list_level, flat_level, next_expr_level, operand_level, run_level, moved_expr, moved_variable}
use Rattle.fort_tree_law_moved.proofs.SaidMoved.{big_first_move}
use Rattle.fort_tree_law_moved.proofs.MeasuredMoved.{moved_row, moved_measured, moved_joined, moved_listed, flats_move, crowded_move, together, next, gathered, maybe_moves, listed_moves, listed_length, one_more, over_moves, made_moves, block_moves, units_move, joints_move, prefix_spot_moves, var_spot_moves}
use Rattle.fort_tree_law_moved.proofs.TypesMeasured.{measured_type_moves, parameters_counted, measured_parameters_move}
use Rattle.fort_tree_law_moved.proofs.TreeFolds.{fold_moved_expr, fold_moved_variable}

module _ (g : Place → Place) where
  -- the units of a flat expression
  units : (l : MeasuredFlat)
      → (moved_measured g l.first ∷ map (λ (j : Joined). j.unit) (map (moved_joined g) l.rest))
      ≡ map (moved_measured g) (l.first ∷ map (λ (j : Joined). j.unit) l.rest)
  units l = next g l.first _ (units_move g l.rest)

  -- one level of a form that ends with `end`
  meets_delimited : (l : Delimited-F Measured Measured Measured Measured Joined Measured Measured
      Measured Measured Measured Measured Measured Measured Listed Measured Measured Measured
      Measured Measured Measured Listed Measured Measured Measured Measured)
      → measure_delimited
      (delimited_level g
      (map-Delimited Measured Measured Measured Measured Joined Measured Measured Measured
      Measured Measured Measured Measured Measured Listed Measured Measured Measured Measured
      Measured Measured Listed Measured Measured Measured Measured Measured Measured Measured
      Measured Joined Measured Measured Measured Measured Measured Measured Measured Measured
      Listed Measured Measured Measured Measured Measured Measured Listed Measured Measured
      Measured Measured (moved_measured g) (moved_measured g) (moved_measured g)
      (moved_measured g) (moved_joined g) (moved_measured g) (moved_measured g)
      (moved_measured g) (moved_measured g) (moved_measured g) (moved_measured g)
      (moved_measured g) (moved_measured g) (moved_listed g) (moved_measured g)
      (moved_measured g) (moved_measured g) (moved_measured g) (moved_measured g)
      (moved_measured g) (moved_listed g) (moved_measured g) (moved_measured g)
      (moved_measured g) (moved_measured g) l)) ≡ moved_measured g (measure_delimited l)
  meets_delimited (Delimited-F.Do at_do block others end) =
      made_moves g at_do (over most_also_blocks (1 + length others) at_do.place)
      (block_measured block ++ others) refl
      (over_moves g most_also_blocks at_do.place (one_more g (moved_measured g) others) refl)
      (together g _ others (block_moves g block) refl)
  meets_delimited (Delimited-F.If at_if condition then block elifs None end) =
      made_moves g at_if [] (condition ∷ (block_measured block ++ (elifs ++ maybe_measured None)))
      refl refl
      (next g _ _
      (together g _ _ (block_moves g block)
      (together g elifs (maybe_measured None) refl (maybe_moves g None))))
  meets_delimited (Delimited-F.If at_if condition then block elifs (Some otherwise) end) =
      made_moves g at_if []
      (condition ∷ (block_measured block ++ (elifs ++ maybe_measured (Some otherwise)))) refl refl
      (next g _ _
      (together g _ _ (block_moves g block)
      (together g elifs (maybe_measured (Some otherwise)) refl
      (maybe_moves g (Some otherwise)))))
  meets_delimited (Delimited-F.While at_while condition at_do block end) =
      made_moves g at_while [] (condition ∷ block_measured block) refl refl
      (next g _ _ (block_moves g block))
  meets_delimited (Delimited-F.For at_for generator others at_do block end) =
      made_moves g at_for (over most_generators (1 + length others) at_for.place)
      (generator ∷ (others ++ block_measured block)) refl
      (over_moves g most_generators at_for.place (one_more g (moved_measured g) others) refl)
      (next g _ _ (together g others _ refl (block_moves g block)))
  meets_delimited (Delimited-F.Case at_case subject of clauses None end) =
      made_moves g at_case (over most_clauses (length clauses) at_case.place)
      (subject ∷ (clauses ++ maybe_measured None)) refl
      (over_moves g most_clauses at_case.place (length-map clauses (moved_measured g)) refl)
      (next g _ _ (together g clauses (maybe_measured None) refl (maybe_moves g None)))
  meets_delimited (Delimited-F.Case at_case subject of clauses (Some otherwise) end) =
      made_moves g at_case (over most_clauses (length clauses) at_case.place)
      (subject ∷ (clauses ++ maybe_measured (Some otherwise))) refl
      (over_moves g most_clauses at_case.place (length-map clauses (moved_measured g)) refl)
      (next g _ _
      (together g clauses (maybe_measured (Some otherwise)) refl
      (maybe_moves g (Some otherwise))))
  meets_delimited (Delimited-F.Typecase at_typecase name at_equals subject of clauses None end) =
      made_moves g at_typecase (over most_clauses (length clauses) at_typecase.place)
      (subject ∷ (clauses ++ maybe_measured None)) refl
      (over_moves g most_clauses at_typecase.place (length-map clauses (moved_measured g)) refl)
      (next g _ _ (together g clauses (maybe_measured None) refl (maybe_moves g None)))
  meets_delimited
      (Delimited-F.Typecase at_typecase name at_equals subject of clauses (Some otherwise) end) =
      made_moves g at_typecase (over most_clauses (length clauses) at_typecase.place)
      (subject ∷ (clauses ++ maybe_measured (Some otherwise))) refl
      (over_moves g most_clauses at_typecase.place (length-map clauses (moved_measured g)) refl)
      (next g _ _
      (together g clauses (maybe_measured (Some otherwise)) refl
      (maybe_moves g (Some otherwise))))
  meets_delimited (Delimited-F.Try at_try block None None end) =
      made_moves g at_try (over most_clauses (length (listed_parts None)) at_try.place)
      (block_measured block ++ (listed_parts None ++ maybe_measured None)) refl
      (over_moves g most_clauses at_try.place (listed_length g None) refl)
      (together g _ _ (block_moves g block)
      (together g (listed_parts None) (maybe_measured None) (listed_moves g None)
      (maybe_moves g None)))
  meets_delimited (Delimited-F.Try at_try block None (Some finally) end) =
      made_moves g at_try (over most_clauses (length (listed_parts None)) at_try.place)
      (block_measured block ++ (listed_parts None ++ maybe_measured (Some finally))) refl
      (over_moves g most_clauses at_try.place (listed_length g None) refl)
      (together g _ _ (block_moves g block)
      (together g (listed_parts None) (maybe_measured (Some finally)) (listed_moves g None)
      (maybe_moves g (Some finally))))
  meets_delimited (Delimited-F.Try at_try block (Some catch) None end) =
      made_moves g at_try (over most_clauses (length (listed_parts (Some catch))) at_try.place)
      (block_measured block ++ (listed_parts (Some catch) ++ maybe_measured None)) refl
      (over_moves g most_clauses at_try.place (listed_length g (Some catch)) refl)
      (together g _ _ (block_moves g block)
      (together g (listed_parts (Some catch)) (maybe_measured None)
      (listed_moves g (Some catch)) (maybe_moves g None)))
  meets_delimited (Delimited-F.Try at_try block (Some catch) (Some finally) end) =
      made_moves g at_try (over most_clauses (length (listed_parts (Some catch))) at_try.place)
      (block_measured block ++ (listed_parts (Some catch) ++ maybe_measured (Some finally))) refl
      (over_moves g most_clauses at_try.place (listed_length g (Some catch)) refl)
      (together g _ _ (block_moves g block)
      (together g (listed_parts (Some catch)) (maybe_measured (Some finally))
      (listed_moves g (Some catch)) (maybe_moves g (Some finally))))

  -- one level of an item of a block
  meets_item : (l : Item-F Measured Measured Measured Measured Joined Measured Measured Measured
      Measured Measured Measured Measured Measured Listed Measured Measured Measured Measured
      Measured Measured Listed Measured Measured Measured Measured)
      → measure_item
      (item_level g
      (map-Item Measured Measured Measured Measured Joined Measured Measured Measured Measured
      Measured Measured Measured Measured Listed Measured Measured Measured Measured Measured
      Measured Listed Measured Measured Measured Measured Measured Measured Measured Measured
      Joined Measured Measured Measured Measured Measured Measured Measured Measured Listed
      Measured Measured Measured Measured Measured Measured Listed Measured Measured Measured
      Measured (moved_measured g) (moved_measured g) (moved_measured g) (moved_measured g)
      (moved_joined g) (moved_measured g) (moved_measured g) (moved_measured g)
      (moved_measured g) (moved_measured g) (moved_measured g) (moved_measured g)
      (moved_measured g) (moved_listed g) (moved_measured g) (moved_measured g)
      (moved_measured g) (moved_measured g) (moved_measured g) (moved_measured g)
      (moved_listed g) (moved_measured g) (moved_measured g) (moved_measured g)
      (moved_measured g) l)) ≡ moved_measured g (measure_item l)
  meets_item (Item-F.Variable variable) = refl
  meets_item (Item-F.Names left first others right at_colon ty at_equals value) =
      made_moves g left [] (measured_type ty ∷ value ∷ []) refl refl
      (λ i. measured_type_moves g ty i ∷ moved_measured g value ∷ [])
  meets_item (Item-F.Expr expr) = refl

  -- one level of an atom
  meets_atom : (l : Atom-F Measured Measured Measured Measured Joined Measured Measured Measured
      Measured Measured Measured Measured Measured Listed Measured Measured Measured Measured
      Measured Measured Listed Measured Measured Measured Measured)
      → measure_atom
      (atom_level g
      (map-Atom Measured Measured Measured Measured Joined Measured Measured Measured Measured
      Measured Measured Measured Measured Listed Measured Measured Measured Measured Measured
      Measured Listed Measured Measured Measured Measured Measured Measured Measured Measured
      Joined Measured Measured Measured Measured Measured Measured Measured Measured Listed
      Measured Measured Measured Measured Measured Measured Listed Measured Measured Measured
      Measured (moved_measured g) (moved_measured g) (moved_measured g) (moved_measured g)
      (moved_joined g) (moved_measured g) (moved_measured g) (moved_measured g)
      (moved_measured g) (moved_measured g) (moved_measured g) (moved_measured g)
      (moved_measured g) (moved_listed g) (moved_measured g) (moved_measured g)
      (moved_measured g) (moved_measured g) (moved_measured g) (moved_measured g)
      (moved_listed g) (moved_measured g) (moved_measured g) (moved_measured g)
      (moved_measured g) l)) ≡ moved_measured g (measure_atom l)
  meets_atom (Atom-F.Name name) = refl
  meets_atom (Atom-F.Number value s) = refl
  meets_atom (Atom-F.Text text s) = refl
  meets_atom (Atom-F.True s) = refl
  meets_atom (Atom-F.False s) = refl
  meets_atom (Atom-F.Self_ s) = refl
  meets_atom (Atom-F.Parens left None right) =
      made_moves g left (over most_tuple_parts (length (listed_parts None)) left.place)
      (listed_parts None) refl
      (over_moves g most_tuple_parts left.place (listed_length g None) refl) (listed_moves g None)
  meets_atom (Atom-F.Parens left (Some contents) right) =
      made_moves g left (over most_tuple_parts (length (listed_parts (Some contents))) left.place)
      (listed_parts (Some contents)) refl
      (over_moves g most_tuple_parts left.place (listed_length g (Some contents)) refl)
      (listed_moves g (Some contents))
  meets_atom (Atom-F.Delimited form) = refl
  meets_atom (Atom-F.ArrayFill spots element size value) =
      made_moves g spots.array [] (measured_type element ∷ size ∷ value ∷ []) refl refl
      (λ i. measured_type_moves g element i ∷ moved_measured g size ∷ moved_measured g value ∷ [])

  -- one level of an expression
  meets_expr : (l : Expr-F Measured Measured Measured Measured Joined Measured Measured Measured
      Measured Measured Measured Measured Measured Listed Measured Measured Measured Measured
      Measured Measured Listed Measured Measured Measured Measured)
      → measure_expr
      (expr_level g
      (map-Expr Measured Measured Measured Measured Joined Measured Measured Measured Measured
      Measured Measured Measured Measured Listed Measured Measured Measured Measured Measured
      Measured Listed Measured Measured Measured Measured Measured Measured Measured Measured
      Joined Measured Measured Measured Measured Measured Measured Measured Measured Listed
      Measured Measured Measured Measured Measured Measured Listed Measured Measured Measured
      Measured (moved_measured g) (moved_measured g) (moved_measured g) (moved_measured g)
      (moved_joined g) (moved_measured g) (moved_measured g) (moved_measured g)
      (moved_measured g) (moved_measured g) (moved_measured g) (moved_measured g)
      (moved_measured g) (moved_listed g) (moved_measured g) (moved_measured g)
      (moved_measured g) (moved_measured g) (moved_measured g) (moved_measured g)
      (moved_listed g) (moved_measured g) (moved_measured g) (moved_measured g)
      (moved_measured g) l)) ≡ moved_measured g (measure_expr l)
  meets_expr (Expr-F.Flat flat) = refl
  meets_expr (Expr-F.Assign target sign None value) =
      made_moves g target.spot [] (target ∷ (maybe_measured None ++ value ∷ [])) refl refl
      (next g target (maybe_measured None ++ value ∷ [])
      (together g (maybe_measured None) (value ∷ []) (maybe_moves g None) refl))
  meets_expr (Expr-F.Assign target sign (Some head) value) =
      made_moves g target.spot [] (target ∷ (maybe_measured (Some head) ++ value ∷ [])) refl refl
      (next g target (maybe_measured (Some head) ++ value ∷ [])
      (together g (maybe_measured (Some head)) (value ∷ []) (maybe_moves g (Some head)) refl))
  meets_expr (Expr-F.Open head body) = made_moves g head.spot [] (head ∷ body ∷ []) refl refl refl
  meets_expr (Expr-F.OpenAssign head target sign value) =
      made_moves g head.spot [] (head ∷ target ∷ value ∷ []) refl refl refl

  -- one level of a further part of a flat expression
  meets_flat_part : (l : FlatPart-F Measured Measured Measured Measured Joined Measured Measured
      Measured Measured Measured Measured Measured Measured Listed Measured Measured Measured
      Measured Measured Measured Listed Measured Measured Measured Measured)
      → measure_flat_part
      (flat_part_level g
      (map-FlatPart Measured Measured Measured Measured Joined Measured Measured Measured
      Measured Measured Measured Measured Measured Listed Measured Measured Measured Measured
      Measured Measured Listed Measured Measured Measured Measured Measured Measured Measured
      Measured Joined Measured Measured Measured Measured Measured Measured Measured Measured
      Listed Measured Measured Measured Measured Measured Measured Listed Measured Measured
      Measured Measured (moved_measured g) (moved_measured g) (moved_measured g)
      (moved_measured g) (moved_joined g) (moved_measured g) (moved_measured g)
      (moved_measured g) (moved_measured g) (moved_measured g) (moved_measured g)
      (moved_measured g) (moved_measured g) (moved_listed g) (moved_measured g)
      (moved_measured g) (moved_measured g) (moved_measured g) (moved_measured g)
      (moved_measured g) (moved_listed g) (moved_measured g) (moved_measured g)
      (moved_measured g) (moved_measured g) l)) ≡ moved_joined g (measure_flat_part l)
  meets_flat_part (FlatPart-F.Run run) = refl
  meets_flat_part (FlatPart-F.Infix sign operand) = refl

  -- one level of a generator
  meets_generator : (l : Generator-F Measured Measured Measured Measured Joined Measured Measured
      Measured Measured Measured Measured Measured Measured Listed Measured Measured Measured
      Measured Measured Measured Listed Measured Measured Measured Measured)
      → measure_generator
      (generator_level g
      (map-Generator Measured Measured Measured Measured Joined Measured Measured Measured
      Measured Measured Measured Measured Measured Listed Measured Measured Measured Measured
      Measured Measured Listed Measured Measured Measured Measured Measured Measured Measured
      Measured Joined Measured Measured Measured Measured Measured Measured Measured Measured
      Listed Measured Measured Measured Measured Measured Measured Listed Measured Measured
      Measured Measured (moved_measured g) (moved_measured g) (moved_measured g)
      (moved_measured g) (moved_joined g) (moved_measured g) (moved_measured g)
      (moved_measured g) (moved_measured g) (moved_measured g) (moved_measured g)
      (moved_measured g) (moved_measured g) (moved_listed g) (moved_measured g)
      (moved_measured g) (moved_measured g) (moved_measured g) (moved_measured g)
      (moved_measured g) (moved_listed g) (moved_measured g) (moved_measured g)
      (moved_measured g) (moved_measured g) l)) ≡ moved_measured g (measure_generator l)
  meets_generator (Generator-F.Parallel name arrow source) =
      made_moves g name.spot [] (source ∷ []) refl refl refl
  meets_generator (Generator-F.Sequential name arrow seq left source right) =
      made_moves g name.spot [] (source ∷ []) refl refl refl

  -- one level of a head
  meets_head : (l : Head-F Measured Measured Measured Measured Joined Measured Measured Measured
      Measured Measured Measured Measured Measured Listed Measured Measured Measured Measured
      Measured Measured Listed Measured Measured Measured Measured)
      → measure_head
      (head_level g
      (map-Head Measured Measured Measured Measured Joined Measured Measured Measured Measured
      Measured Measured Measured Measured Listed Measured Measured Measured Measured Measured
      Measured Listed Measured Measured Measured Measured Measured Measured Measured Measured
      Joined Measured Measured Measured Measured Measured Measured Measured Measured Listed
      Measured Measured Measured Measured Measured Measured Listed Measured Measured Measured
      Measured (moved_measured g) (moved_measured g) (moved_measured g) (moved_measured g)
      (moved_joined g) (moved_measured g) (moved_measured g) (moved_measured g)
      (moved_measured g) (moved_measured g) (moved_measured g) (moved_measured g)
      (moved_measured g) (moved_listed g) (moved_measured g) (moved_measured g)
      (moved_measured g) (moved_measured g) (moved_measured g) (moved_measured g)
      (moved_listed g) (moved_measured g) (moved_measured g) (moved_measured g)
      (moved_measured g) l)) ≡ moved_measured g (measure_head l)
  meets_head (Head-F.Atomic s) = refl
  meets_head (Head-F.Tryatomic s) = refl
  meets_head (Head-F.Throw s) = refl
  meets_head (Head-F.Spawn s) = refl
  meets_head (Head-F.Fn s left parameters right arrow) =
      made_moves g s (over most_parameters (parameter_count parameters) s.place)
      (measured_parameters parameters) refl
      (over_moves g most_parameters s.place (parameters_counted g parameters) refl)
      (measured_parameters_move g parameters)
  meets_head (Head-F.Big big left generator right) =
      made_moves g (spot_of (big_first big)) [] (generator ∷ []) (ap spot_of (big_first_move g big))
      refl refl

  -- one level of a postfix
  meets_postfix : (l : Postfix-F Measured Measured Measured Measured Joined Measured Measured
      Measured Measured Measured Measured Measured Measured Listed Measured Measured Measured
      Measured Measured Measured Listed Measured Measured Measured Measured)
      → measure_postfix
      (postfix_level g
      (map-Postfix Measured Measured Measured Measured Joined Measured Measured Measured
      Measured Measured Measured Measured Measured Listed Measured Measured Measured Measured
      Measured Measured Listed Measured Measured Measured Measured Measured Measured Measured
      Measured Joined Measured Measured Measured Measured Measured Measured Measured Measured
      Listed Measured Measured Measured Measured Measured Measured Listed Measured Measured
      Measured Measured (moved_measured g) (moved_measured g) (moved_measured g)
      (moved_measured g) (moved_joined g) (moved_measured g) (moved_measured g)
      (moved_measured g) (moved_measured g) (moved_measured g) (moved_measured g)
      (moved_measured g) (moved_measured g) (moved_listed g) (moved_measured g)
      (moved_measured g) (moved_measured g) (moved_measured g) (moved_measured g)
      (moved_measured g) (moved_listed g) (moved_measured g) (moved_measured g)
      (moved_measured g) (moved_measured g) l)) ≡ moved_measured g (measure_postfix l)
  meets_postfix (Postfix-F.Subscript left index right) =
      made_moves g left [] (index ∷ []) refl refl refl
  meets_postfix (Postfix-F.Power power exponent) =
      made_moves g power [] (exponent ∷ []) refl refl refl
  meets_postfix (Postfix-F.Field dot name) = refl
  meets_postfix (Postfix-F.Call dot name left None right) =
      made_moves g dot [] (listed_parts None) refl refl (listed_moves g None)
  meets_postfix (Postfix-F.Call dot name left (Some arguments) right) =
      made_moves g dot [] (listed_parts (Some arguments)) refl refl
      (listed_moves g (Some arguments))

  -- one level of a further part of a run
  meets_run_part : (l : RunPart-F Measured Measured Measured Measured Joined Measured Measured
      Measured Measured Measured Measured Measured Measured Listed Measured Measured Measured
      Measured Measured Measured Listed Measured Measured Measured Measured)
      → measure_run_part
      (run_part_level g
      (map-RunPart Measured Measured Measured Measured Joined Measured Measured Measured
      Measured Measured Measured Measured Measured Listed Measured Measured Measured Measured
      Measured Measured Listed Measured Measured Measured Measured Measured Measured Measured
      Measured Joined Measured Measured Measured Measured Measured Measured Measured Measured
      Listed Measured Measured Measured Measured Measured Measured Listed Measured Measured
      Measured Measured (moved_measured g) (moved_measured g) (moved_measured g)
      (moved_measured g) (moved_joined g) (moved_measured g) (moved_measured g)
      (moved_measured g) (moved_measured g) (moved_measured g) (moved_measured g)
      (moved_measured g) (moved_measured g) (moved_listed g) (moved_measured g)
      (moved_measured g) (moved_measured g) (moved_measured g) (moved_measured g)
      (moved_measured g) (moved_listed g) (moved_measured g) (moved_measured g)
      (moved_measured g) (moved_measured g) l)) ≡ moved_measured g (measure_run_part l)
  meets_run_part (RunPart-F.Atom atom) = refl
  meets_run_part (RunPart-F.Postfix postfix) = refl

  -- one level of a declaration of a variable
  meets_variable : (l : Variable-F Measured Measured Measured Measured Joined Measured Measured
      Measured Measured Measured Measured Measured Measured Listed Measured Measured Measured
      Measured Measured Measured Listed Measured Measured Measured Measured)
      → measure_variable
      (variable_level g
      (map-Variable Measured Measured Measured Measured Joined Measured Measured Measured
      Measured Measured Measured Measured Measured Listed Measured Measured Measured Measured
      Measured Measured Listed Measured Measured Measured Measured Measured Measured Measured
      Measured Joined Measured Measured Measured Measured Measured Measured Measured Measured
      Listed Measured Measured Measured Measured Measured Measured Listed Measured Measured
      Measured Measured (moved_measured g) (moved_measured g) (moved_measured g)
      (moved_measured g) (moved_joined g) (moved_measured g) (moved_measured g)
      (moved_measured g) (moved_measured g) (moved_measured g) (moved_measured g)
      (moved_measured g) (moved_measured g) (moved_listed g) (moved_measured g)
      (moved_measured g) (moved_measured g) (moved_measured g) (moved_measured g)
      (moved_measured g) (moved_listed g) (moved_measured g) (moved_measured g)
      (moved_measured g) (moved_measured g) l)) ≡ moved_measured g (measure_variable l)
  meets_variable l =
      made_moves g (var_spot l.var l.name.spot) [] (measured_type l.ty ∷ l.value ∷ [])
      (var_spot_moves g l.var l.name.spot) refl
      (λ i. measured_type_moves g l.ty i ∷ moved_measured g l.value ∷ [])

  -- one level of an `also` with its block
  meets_also : (l : Also-F Measured Measured Measured Measured Joined Measured Measured Measured
      Measured Measured Measured Measured Measured Listed Measured Measured Measured Measured
      Measured Measured Listed Measured Measured Measured Measured)
      → measure_also
      (also_level g
      (map-Also Measured Measured Measured Measured Joined Measured Measured Measured Measured
      Measured Measured Measured Measured Listed Measured Measured Measured Measured Measured
      Measured Listed Measured Measured Measured Measured Measured Measured Measured Measured
      Joined Measured Measured Measured Measured Measured Measured Measured Measured Listed
      Measured Measured Measured Measured Measured Measured Listed Measured Measured Measured
      Measured (moved_measured g) (moved_measured g) (moved_measured g) (moved_measured g)
      (moved_joined g) (moved_measured g) (moved_measured g) (moved_measured g)
      (moved_measured g) (moved_measured g) (moved_measured g) (moved_measured g)
      (moved_measured g) (moved_listed g) (moved_measured g) (moved_measured g)
      (moved_measured g) (moved_measured g) (moved_measured g) (moved_measured g)
      (moved_listed g) (moved_measured g) (moved_measured g) (moved_measured g)
      (moved_measured g) l)) ≡ moved_measured g (measure_also l)
  meets_also l = made_moves g l.also [] (block_measured l.block) refl refl (block_moves g l.block)

  -- one level of an item of a block with its `;`
  meets_block_item : (l : BlockItem-F Measured Measured Measured Measured Joined Measured Measured
      Measured Measured Measured Measured Measured Measured Listed Measured Measured Measured
      Measured Measured Measured Listed Measured Measured Measured Measured)
      → measure_block_item
      (block_item_level g
      (map-BlockItem Measured Measured Measured Measured Joined Measured Measured Measured
      Measured Measured Measured Measured Measured Listed Measured Measured Measured Measured
      Measured Measured Listed Measured Measured Measured Measured Measured Measured Measured
      Measured Joined Measured Measured Measured Measured Measured Measured Measured Measured
      Listed Measured Measured Measured Measured Measured Measured Listed Measured Measured
      Measured Measured (moved_measured g) (moved_measured g) (moved_measured g)
      (moved_measured g) (moved_joined g) (moved_measured g) (moved_measured g)
      (moved_measured g) (moved_measured g) (moved_measured g) (moved_measured g)
      (moved_measured g) (moved_measured g) (moved_listed g) (moved_measured g)
      (moved_measured g) (moved_measured g) (moved_measured g) (moved_measured g)
      (moved_measured g) (moved_listed g) (moved_measured g) (moved_measured g)
      (moved_measured g) (moved_measured g) l)) ≡ moved_measured g (measure_block_item l)
  meets_block_item l = refl

  -- one level of a clause of a `case`
  meets_case_clause : (l : CaseClause-F Measured Measured Measured Measured Joined Measured Measured
      Measured Measured Measured Measured Measured Measured Listed Measured Measured Measured
      Measured Measured Measured Listed Measured Measured Measured Measured)
      → measure_case_clause
      (case_clause_level g
      (map-CaseClause Measured Measured Measured Measured Joined Measured Measured Measured
      Measured Measured Measured Measured Measured Listed Measured Measured Measured Measured
      Measured Measured Listed Measured Measured Measured Measured Measured Measured Measured
      Measured Joined Measured Measured Measured Measured Measured Measured Measured Measured
      Listed Measured Measured Measured Measured Measured Measured Listed Measured Measured
      Measured Measured (moved_measured g) (moved_measured g) (moved_measured g)
      (moved_measured g) (moved_joined g) (moved_measured g) (moved_measured g)
      (moved_measured g) (moved_measured g) (moved_measured g) (moved_measured g)
      (moved_measured g) (moved_measured g) (moved_listed g) (moved_measured g)
      (moved_measured g) (moved_measured g) (moved_measured g) (moved_measured g)
      (moved_measured g) (moved_listed g) (moved_measured g) (moved_measured g)
      (moved_measured g) (moved_measured g) l)) ≡ moved_measured g (measure_case_clause l)
  meets_case_clause l = made_moves g l.subject.spot [] (l.subject ∷ l.value ∷ []) refl refl refl

  -- one level of a `catch`
  meets_catch : (l : Catch-F Measured Measured Measured Measured Joined Measured Measured Measured
      Measured Measured Measured Measured Measured Listed Measured Measured Measured Measured
      Measured Measured Listed Measured Measured Measured Measured)
      → measure_catch
      (catch_level g
      (map-Catch Measured Measured Measured Measured Joined Measured Measured Measured Measured
      Measured Measured Measured Measured Listed Measured Measured Measured Measured Measured
      Measured Listed Measured Measured Measured Measured Measured Measured Measured Measured
      Joined Measured Measured Measured Measured Measured Measured Measured Measured Listed
      Measured Measured Measured Measured Measured Measured Listed Measured Measured Measured
      Measured (moved_measured g) (moved_measured g) (moved_measured g) (moved_measured g)
      (moved_joined g) (moved_measured g) (moved_measured g) (moved_measured g)
      (moved_measured g) (moved_measured g) (moved_measured g) (moved_measured g)
      (moved_measured g) (moved_listed g) (moved_measured g) (moved_measured g)
      (moved_measured g) (moved_measured g) (moved_measured g) (moved_measured g)
      (moved_listed g) (moved_measured g) (moved_measured g) (moved_measured g)
      (moved_measured g) l)) ≡ moved_listed g (measure_catch l)
  meets_catch l = refl

  -- one level of an `elif`
  meets_elif : (l : Elif-F Measured Measured Measured Measured Joined Measured Measured Measured
      Measured Measured Measured Measured Measured Listed Measured Measured Measured Measured
      Measured Measured Listed Measured Measured Measured Measured)
      → measure_elif
      (elif_level g
      (map-Elif Measured Measured Measured Measured Joined Measured Measured Measured Measured
      Measured Measured Measured Measured Listed Measured Measured Measured Measured Measured
      Measured Listed Measured Measured Measured Measured Measured Measured Measured Measured
      Joined Measured Measured Measured Measured Measured Measured Measured Measured Listed
      Measured Measured Measured Measured Measured Measured Listed Measured Measured Measured
      Measured (moved_measured g) (moved_measured g) (moved_measured g) (moved_measured g)
      (moved_joined g) (moved_measured g) (moved_measured g) (moved_measured g)
      (moved_measured g) (moved_measured g) (moved_measured g) (moved_measured g)
      (moved_measured g) (moved_listed g) (moved_measured g) (moved_measured g)
      (moved_measured g) (moved_measured g) (moved_measured g) (moved_measured g)
      (moved_listed g) (moved_measured g) (moved_measured g) (moved_measured g)
      (moved_measured g) l)) ≡ moved_measured g (measure_elif l)
  meets_elif l =
      made_moves g l.elif [] (l.condition ∷ block_measured l.block) refl refl
      (next g _ _ (block_moves g l.block))

  -- one level of the `else` of an `if`
  meets_else_block : (l : ElseBlock-F Measured Measured Measured Measured Joined Measured Measured
      Measured Measured Measured Measured Measured Measured Listed Measured Measured Measured
      Measured Measured Measured Listed Measured Measured Measured Measured)
      → measure_else_block
      (else_block_level g
      (map-ElseBlock Measured Measured Measured Measured Joined Measured Measured Measured
      Measured Measured Measured Measured Measured Listed Measured Measured Measured Measured
      Measured Measured Listed Measured Measured Measured Measured Measured Measured Measured
      Measured Joined Measured Measured Measured Measured Measured Measured Measured Measured
      Listed Measured Measured Measured Measured Measured Measured Listed Measured Measured
      Measured Measured (moved_measured g) (moved_measured g) (moved_measured g)
      (moved_measured g) (moved_joined g) (moved_measured g) (moved_measured g)
      (moved_measured g) (moved_measured g) (moved_measured g) (moved_measured g)
      (moved_measured g) (moved_measured g) (moved_listed g) (moved_measured g)
      (moved_measured g) (moved_measured g) (moved_measured g) (moved_measured g)
      (moved_measured g) (moved_listed g) (moved_measured g) (moved_measured g)
      (moved_measured g) (moved_measured g) l)) ≡ moved_measured g (measure_else_block l)
  meets_else_block l =
      made_moves g l.else_ [] (block_measured l.block) refl refl (block_moves g l.block)

  -- one level of the `else` of a `case` or `typecase`
  meets_else_clause : (l : ElseClause-F Measured Measured Measured Measured Joined Measured Measured
      Measured Measured Measured Measured Measured Measured Listed Measured Measured Measured
      Measured Measured Measured Listed Measured Measured Measured Measured)
      → measure_else_clause
      (else_clause_level g
      (map-ElseClause Measured Measured Measured Measured Joined Measured Measured Measured
      Measured Measured Measured Measured Measured Listed Measured Measured Measured Measured
      Measured Measured Listed Measured Measured Measured Measured Measured Measured Measured
      Measured Joined Measured Measured Measured Measured Measured Measured Measured Measured
      Listed Measured Measured Measured Measured Measured Measured Listed Measured Measured
      Measured Measured (moved_measured g) (moved_measured g) (moved_measured g)
      (moved_measured g) (moved_joined g) (moved_measured g) (moved_measured g)
      (moved_measured g) (moved_measured g) (moved_measured g) (moved_measured g)
      (moved_measured g) (moved_measured g) (moved_listed g) (moved_measured g)
      (moved_measured g) (moved_measured g) (moved_measured g) (moved_measured g)
      (moved_measured g) (moved_listed g) (moved_measured g) (moved_measured g)
      (moved_measured g) (moved_measured g) l)) ≡ moved_measured g (measure_else_clause l)
  meets_else_clause l = made_moves g l.else_ [] (l.value ∷ []) refl refl refl

  -- one level of a `finally`
  meets_finally : (l : Finally-F Measured Measured Measured Measured Joined Measured Measured
      Measured Measured Measured Measured Measured Measured Listed Measured Measured Measured
      Measured Measured Measured Listed Measured Measured Measured Measured)
      → measure_finally
      (finally_level g
      (map-Finally Measured Measured Measured Measured Joined Measured Measured Measured
      Measured Measured Measured Measured Measured Listed Measured Measured Measured Measured
      Measured Measured Listed Measured Measured Measured Measured Measured Measured Measured
      Measured Joined Measured Measured Measured Measured Measured Measured Measured Measured
      Listed Measured Measured Measured Measured Measured Measured Listed Measured Measured
      Measured Measured (moved_measured g) (moved_measured g) (moved_measured g)
      (moved_measured g) (moved_joined g) (moved_measured g) (moved_measured g)
      (moved_measured g) (moved_measured g) (moved_measured g) (moved_measured g)
      (moved_measured g) (moved_measured g) (moved_listed g) (moved_measured g)
      (moved_measured g) (moved_measured g) (moved_measured g) (moved_measured g)
      (moved_measured g) (moved_listed g) (moved_measured g) (moved_measured g)
      (moved_measured g) (moved_measured g) l)) ≡ moved_measured g (measure_finally l)
  meets_finally l =
      made_moves g l.finally [] (block_measured l.block) refl refl (block_moves g l.block)

  -- one level of a further generator of a `for`
  meets_next_generator : (l : NextGenerator-F Measured Measured Measured Measured Joined Measured
      Measured Measured Measured Measured Measured Measured Measured Listed Measured Measured
      Measured Measured Measured Measured Listed Measured Measured Measured Measured)
      → measure_next_generator
      (next_generator_level g
      (map-NextGenerator Measured Measured Measured Measured Joined Measured Measured Measured
      Measured Measured Measured Measured Measured Listed Measured Measured Measured Measured
      Measured Measured Listed Measured Measured Measured Measured Measured Measured Measured
      Measured Joined Measured Measured Measured Measured Measured Measured Measured Measured
      Listed Measured Measured Measured Measured Measured Measured Listed Measured Measured
      Measured Measured (moved_measured g) (moved_measured g) (moved_measured g)
      (moved_measured g) (moved_joined g) (moved_measured g) (moved_measured g)
      (moved_measured g) (moved_measured g) (moved_measured g) (moved_measured g)
      (moved_measured g) (moved_measured g) (moved_listed g) (moved_measured g)
      (moved_measured g) (moved_measured g) (moved_measured g) (moved_measured g)
      (moved_measured g) (moved_listed g) (moved_measured g) (moved_measured g)
      (moved_measured g) (moved_measured g) l)) ≡ moved_measured g (measure_next_generator l)
  meets_next_generator l = refl

  -- one level of a clause of a `typecase` or `catch`
  meets_type_clause : (l : TypeClause-F Measured Measured Measured Measured Joined Measured Measured
      Measured Measured Measured Measured Measured Measured Listed Measured Measured Measured
      Measured Measured Measured Listed Measured Measured Measured Measured)
      → measure_type_clause
      (type_clause_level g
      (map-TypeClause Measured Measured Measured Measured Joined Measured Measured Measured
      Measured Measured Measured Measured Measured Listed Measured Measured Measured Measured
      Measured Measured Listed Measured Measured Measured Measured Measured Measured Measured
      Measured Joined Measured Measured Measured Measured Measured Measured Measured Measured
      Listed Measured Measured Measured Measured Measured Measured Listed Measured Measured
      Measured Measured (moved_measured g) (moved_measured g) (moved_measured g)
      (moved_measured g) (moved_joined g) (moved_measured g) (moved_measured g)
      (moved_measured g) (moved_measured g) (moved_measured g) (moved_measured g)
      (moved_measured g) (moved_measured g) (moved_listed g) (moved_measured g)
      (moved_measured g) (moved_measured g) (moved_measured g) (moved_measured g)
      (moved_measured g) (moved_listed g) (moved_measured g) (moved_measured g)
      (moved_measured g) (moved_measured g) l)) ≡ moved_measured g (measure_type_clause l)
  meets_type_clause l =
      made_moves g (measured_type l.ty).spot [] (measured_type l.ty ∷ l.value ∷ []) (ap (λ
      (m : Measured). m.spot) (measured_type_moves g l.ty)) refl
      (λ i. measured_type_moves g l.ty i ∷ moved_measured g l.value ∷ [])

  -- one level of a list of expressions
  meets_expr_list : (l : ExprList-F Measured Measured Measured Measured Joined Measured Measured
      Measured Measured Measured Measured Measured Measured Listed Measured Measured Measured
      Measured Measured Measured Listed Measured Measured Measured Measured)
      → measure_expr_list
      (expr_list_level g
      (map-ExprList Measured Measured Measured Measured Joined Measured Measured Measured
      Measured Measured Measured Measured Measured Listed Measured Measured Measured Measured
      Measured Measured Listed Measured Measured Measured Measured Measured Measured Measured
      Measured Joined Measured Measured Measured Measured Measured Measured Measured Measured
      Listed Measured Measured Measured Measured Measured Measured Listed Measured Measured
      Measured Measured (moved_measured g) (moved_measured g) (moved_measured g)
      (moved_measured g) (moved_joined g) (moved_measured g) (moved_measured g)
      (moved_measured g) (moved_measured g) (moved_measured g) (moved_measured g)
      (moved_measured g) (moved_measured g) (moved_listed g) (moved_measured g)
      (moved_measured g) (moved_measured g) (moved_measured g) (moved_measured g)
      (moved_measured g) (moved_listed g) (moved_measured g) (moved_measured g)
      (moved_measured g) (moved_measured g) l)) ≡ moved_listed g (measure_expr_list l)
  meets_expr_list l = refl

  -- one level of a flat expression
  meets_flat : (l : Flat-F Measured Measured Measured Measured Joined Measured Measured Measured
      Measured Measured Measured Measured Measured Listed Measured Measured Measured Measured
      Measured Measured Listed Measured Measured Measured Measured)
      → measure_flat
      (flat_level g
      (map-Flat Measured Measured Measured Measured Joined Measured Measured Measured Measured
      Measured Measured Measured Measured Listed Measured Measured Measured Measured Measured
      Measured Listed Measured Measured Measured Measured Measured Measured Measured Measured
      Joined Measured Measured Measured Measured Measured Measured Measured Measured Listed
      Measured Measured Measured Measured Measured Measured Listed Measured Measured Measured
      Measured (moved_measured g) (moved_measured g) (moved_measured g) (moved_measured g)
      (moved_joined g) (moved_measured g) (moved_measured g) (moved_measured g)
      (moved_measured g) (moved_measured g) (moved_measured g) (moved_measured g)
      (moved_measured g) (moved_listed g) (moved_measured g) (moved_measured g)
      (moved_measured g) (moved_measured g) (moved_measured g) (moved_measured g)
      (moved_listed g) (moved_measured g) (moved_measured g) (moved_measured g)
      (moved_measured g) l)) ≡ moved_measured g (measure_flat l)
  meets_flat l = λ i. record {
    spot = moved_spot g l.first.spot;
    flats = record { place = g l.first.spot.place; joints = joints_move g l.rest i }
        ∷ (ap all_flats (units l) ∙ flats_move g (l.first ∷ map (λ (j : Joined). j.unit) l.rest)) i;
    crowded =
        gathered g _ _
        (over_moves g most_units l.first.spot.place (ap length (units l)
        ∙ length-map (l.first ∷ map (λ (j : Joined). j.unit) l.rest) (moved_measured g)) refl)
        (ap all_crowded (units l)
        ∙ crowded_move g (l.first ∷ map (λ (j : Joined). j.unit) l.rest)) i;
  }

  -- one level of a further expression of a list
  meets_next_expr : (l : NextExpr-F Measured Measured Measured Measured Joined Measured Measured
      Measured Measured Measured Measured Measured Measured Listed Measured Measured Measured
      Measured Measured Measured Listed Measured Measured Measured Measured)
      → measure_next_expr
      (next_expr_level g
      (map-NextExpr Measured Measured Measured Measured Joined Measured Measured Measured
      Measured Measured Measured Measured Measured Listed Measured Measured Measured Measured
      Measured Measured Listed Measured Measured Measured Measured Measured Measured Measured
      Measured Joined Measured Measured Measured Measured Measured Measured Measured Measured
      Listed Measured Measured Measured Measured Measured Measured Listed Measured Measured
      Measured Measured (moved_measured g) (moved_measured g) (moved_measured g)
      (moved_measured g) (moved_joined g) (moved_measured g) (moved_measured g)
      (moved_measured g) (moved_measured g) (moved_measured g) (moved_measured g)
      (moved_measured g) (moved_measured g) (moved_listed g) (moved_measured g)
      (moved_measured g) (moved_measured g) (moved_measured g) (moved_measured g)
      (moved_measured g) (moved_listed g) (moved_measured g) (moved_measured g)
      (moved_measured g) (moved_measured g) l)) ≡ moved_measured g (measure_next_expr l)
  meets_next_expr l = refl

  -- one level of a unit
  meets_operand : (l : Operand-F Measured Measured Measured Measured Joined Measured Measured
      Measured Measured Measured Measured Measured Measured Listed Measured Measured Measured
      Measured Measured Measured Listed Measured Measured Measured Measured)
      → measure_operand
      (operand_level g
      (map-Operand Measured Measured Measured Measured Joined Measured Measured Measured
      Measured Measured Measured Measured Measured Listed Measured Measured Measured Measured
      Measured Measured Listed Measured Measured Measured Measured Measured Measured Measured
      Measured Joined Measured Measured Measured Measured Measured Measured Measured Measured
      Listed Measured Measured Measured Measured Measured Measured Listed Measured Measured
      Measured Measured (moved_measured g) (moved_measured g) (moved_measured g)
      (moved_measured g) (moved_joined g) (moved_measured g) (moved_measured g)
      (moved_measured g) (moved_measured g) (moved_measured g) (moved_measured g)
      (moved_measured g) (moved_measured g) (moved_listed g) (moved_measured g)
      (moved_measured g) (moved_measured g) (moved_measured g) (moved_measured g)
      (moved_measured g) (moved_listed g) (moved_measured g) (moved_measured g)
      (moved_measured g) (moved_measured g) l)) ≡ moved_measured g (measure_operand l)
  meets_operand l =
      λ i. record {
        spot = prefix_spot_moves g l.prefix l.run.spot i;
        flats = map (moved_row g) l.run.flats;
        crowded = map g l.run.crowded;
      }

  -- one level of a run
  meets_run : (l : Run-F Measured Measured Measured Measured Joined Measured Measured Measured
      Measured Measured Measured Measured Measured Listed Measured Measured Measured Measured
      Measured Measured Listed Measured Measured Measured Measured)
      → measure_run
      (run_level g
      (map-Run Measured Measured Measured Measured Joined Measured Measured Measured Measured
      Measured Measured Measured Measured Listed Measured Measured Measured Measured Measured
      Measured Listed Measured Measured Measured Measured Measured Measured Measured Measured
      Joined Measured Measured Measured Measured Measured Measured Measured Measured Listed
      Measured Measured Measured Measured Measured Measured Listed Measured Measured Measured
      Measured (moved_measured g) (moved_measured g) (moved_measured g) (moved_measured g)
      (moved_joined g) (moved_measured g) (moved_measured g) (moved_measured g)
      (moved_measured g) (moved_measured g) (moved_measured g) (moved_measured g)
      (moved_measured g) (moved_listed g) (moved_measured g) (moved_measured g)
      (moved_measured g) (moved_measured g) (moved_measured g) (moved_measured g)
      (moved_listed g) (moved_measured g) (moved_measured g) (moved_measured g)
      (moved_measured g) l)) ≡ moved_measured g (measure_run l)
  meets_run l =
      made_moves g l.first.spot (over most_elements (1 + length l.rest) l.first.spot.place)
      (l.first ∷ l.rest) refl
      (over_moves g most_elements l.first.spot.place (one_more g (moved_measured g) l.rest) refl)
      refl

  -- A moved expression measures what the expression measures, moved.
  pub measured_expr_moves : (t : Expr)
      → measured_expr (moved_expr g t) ≡ moved_measured g (measured_expr t)
  unfolding measured_expr
  measured_expr_moves =
      fold_moved_expr g Measured Measured Measured Measured Joined Measured Measured Measured
      Measured Measured Measured Measured Measured Listed Measured Measured Measured Measured
      Measured Measured Listed Measured Measured Measured Measured measure_delimited measure_item
      measure_atom measure_expr measure_flat_part measure_generator measure_head measure_postfix
      measure_run_part measure_variable measure_also measure_block_item measure_case_clause
      measure_catch measure_elif measure_else_block measure_else_clause measure_finally
      measure_next_generator measure_type_clause measure_expr_list measure_flat measure_next_expr
      measure_operand measure_run (moved_measured g) (moved_measured g) (moved_measured g)
      (moved_measured g) (moved_joined g) (moved_measured g) (moved_measured g) (moved_measured g)
      (moved_measured g) (moved_measured g) (moved_measured g) (moved_measured g) (moved_measured g)
      (moved_listed g) (moved_measured g) (moved_measured g) (moved_measured g) (moved_measured g)
      (moved_measured g) (moved_measured g) (moved_listed g) (moved_measured g) (moved_measured g)
      (moved_measured g) (moved_measured g) meets_delimited meets_item meets_atom meets_expr
      meets_flat_part meets_generator meets_head meets_postfix meets_run_part meets_variable
      meets_also meets_block_item meets_case_clause meets_catch meets_elif meets_else_block
      meets_else_clause meets_finally meets_next_generator meets_type_clause meets_expr_list
      meets_flat meets_next_expr meets_operand meets_run

  -- A moved declaration of a variable measures what the declaration measures, moved.
  pub measured_variable_moves : (t : Variable)
      → measured_variable (moved_variable g t) ≡ moved_measured g (measured_variable t)
  unfolding measured_variable
  measured_variable_moves =
      fold_moved_variable g Measured Measured Measured Measured Joined Measured Measured Measured
      Measured Measured Measured Measured Measured Listed Measured Measured Measured Measured
      Measured Measured Listed Measured Measured Measured Measured measure_delimited measure_item
      measure_atom measure_expr measure_flat_part measure_generator measure_head measure_postfix
      measure_run_part measure_variable measure_also measure_block_item measure_case_clause
      measure_catch measure_elif measure_else_block measure_else_clause measure_finally
      measure_next_generator measure_type_clause measure_expr_list measure_flat measure_next_expr
      measure_operand measure_run (moved_measured g) (moved_measured g) (moved_measured g)
      (moved_measured g) (moved_joined g) (moved_measured g) (moved_measured g) (moved_measured g)
      (moved_measured g) (moved_measured g) (moved_measured g) (moved_measured g) (moved_measured g)
      (moved_listed g) (moved_measured g) (moved_measured g) (moved_measured g) (moved_measured g)
      (moved_measured g) (moved_measured g) (moved_listed g) (moved_measured g) (moved_measured g)
      (moved_measured g) (moved_measured g) meets_delimited meets_item meets_atom meets_expr
      meets_flat_part meets_generator meets_head meets_postfix meets_run_part meets_variable
      meets_also meets_block_item meets_case_clause meets_catch meets_elif meets_else_block
      meets_else_clause meets_finally meets_next_generator meets_type_clause meets_expr_list
      meets_flat meets_next_expr meets_operand meets_run
