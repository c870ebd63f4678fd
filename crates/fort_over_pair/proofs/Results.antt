-- From what a call answers to what its caller does, for each hierarchy whose rows a table has.
use Rattle.std.proofs.Common.{◌≡◌, inr, ℕ, List, [], ◌∷◌, length, map, Result, Ok, Err, IfOk, sym, ap, ◌∙◌, subst}
use Rattle.fort_base.specs.declared.refusal.Memory.{Memory}
use Rattle.fort_base.specs.declared.table.TypeTable.{TypeTable}
use Rattle.fort_base.specs.declared.ty.Ty.{Ty, out-Ty, out-roll-Ty}
use Rattle.fort_base.specs.declared.ty.Ty.TheVariants.{Tuple, rolls-Tuple}
use Rattle.fort_base.specs.declared.ty.Ty.TheOpen.{Ty-F}
use Rattle.fort_types.specs.Hierarchy.{DeclaredTypes, Sound}
use Rattle.fort_types.specs.Types.{Below}
use Rattle.fort_types.specs.Table.{HasRows}
use Rattle.fort_types_sets.specs.Meets.{Meet, IsChoice}
use Rattle.fort_over_pair.specs.Choices.{HasAll, HaveAll, Counts, CountsLayer, ListsLayer, products}
use Rattle.fort_over_pair.proofs.Counted.{layer_counted, layer_listed}
use Rattle.fort_over_pair.proofs.Products.{choices_listed}

module _ (table : TypeTable) where
  pub layer_count_result : (a b : Ty) (r : Result ℕ Memory)
      → ((h : DeclaredTypes) → HasRows h table → Below h a b → ⊥)
      → ((h : DeclaredTypes) → HasRows h table → Below h b a → ⊥)
      → IfOk r (λ n. (h : DeclaredTypes) → Sound h → HasRows h table
      → CountsLayer h (out-Ty a) (out-Ty b) n)
      → IfOk r (λ n. (h : DeclaredTypes) → Sound h → HasRows h table → Counts h a b n)
  layer_count_result a b (Ok n) p q w = λ h s t. layer_counted h a b n (p h t) (q h t) (w h s t)
  layer_count_result a b (Err m) p q w = tt

  pub layer_list_result : (a b : Ty) (r : Result (List Ty) Memory)
      → ((h : DeclaredTypes) → HasRows h table → Below h a b → ⊥)
      → ((h : DeclaredTypes) → HasRows h table → Below h b a → ⊥)
      → IfOk r (λ list. (h : DeclaredTypes) → Sound h → HasRows h table
      → ListsLayer h (out-Ty a) (out-Ty b) list)
      → IfOk r (λ list. (h : DeclaredTypes) → Sound h → HasRows h table → HasAll (Meet h a b) list)
  layer_list_result a b (Ok list) p q w = λ h s t. layer_listed h a b list (p h t) (q h t) (w h s t)
  layer_list_result a b (Err m) p q w = tt

  pub only_result : (a b x : Ty) (r : Result (List Ty) Memory)
      → ((h : DeclaredTypes) → Sound h → HasRows h table → HasAll (Meet h a b) (x ∷ []))
      → IfOk r (λ list. list ≡ x ∷ [])
      → IfOk r (λ list. (h : DeclaredTypes) → Sound h → HasRows h table → HasAll (Meet h a b) list)
  only_result a b x (Ok list) p e = λ h s t. subst (HasAll (Meet h a b)) (sym e) (p h s t)
  only_result a b x (Err m) p e = tt

  pub choices_result : (xs ys : List Ty) (lists shown : List (List Ty))
      (r : Result (List (List Ty)) Memory) → shown ≡ lists → length xs ≡ length ys
      → ((h : DeclaredTypes) → Sound h → HasRows h table → HaveAll h xs ys lists (length xs))
      → IfOk r (λ all. all ≡ products shown)
      → IfOk r (λ all. (h : DeclaredTypes) → Sound h → HasRows h table
      → HasAll (IsChoice h xs ys) all)
  choices_result xs ys lists shown (Ok all) e n p f =
      λ h s t. subst (HasAll (IsChoice h xs ys)) (sym (f ∙ ap products e))
      (choices_listed h xs ys lists n (p h s t))
  choices_result xs ys lists shown (Err m) e n p f = tt

  pub tuples_result : (xs ys : List Ty) (rows shown : List (List Ty)) (r : Result (List Ty) Memory)
      → shown ≡ rows → length xs ≡ length ys
      → ((h : DeclaredTypes) → Sound h → HasRows h table → HasAll (IsChoice h xs ys) rows)
      → IfOk r (λ list. list ≡ map Tuple shown)
      → IfOk r (λ list. (h : DeclaredTypes) → Sound h → HasRows h table
      → ListsLayer h (Ty-F.Tuple xs) (Ty-F.Tuple ys) list)
  tuples_result xs ys rows shown (Ok list) e n p f =
      λ h s t. inr (n, rows, p h s t, f ∙ ap (map Tuple) e)
  tuples_result xs ys rows shown (Err m) e n p f = tt

  pub list_at : (a b : Ty) (x y : Ty-F Ty) (r : Result (List Ty) Memory) → out-Ty a ≡ x
      → out-Ty b ≡ y
      → IfOk r (λ list. (h : DeclaredTypes) → Sound h → HasRows h table → ListsLayer h x y list)
      → IfOk r (λ list. (h : DeclaredTypes) → Sound h → HasRows h table
      → ListsLayer h (out-Ty a) (out-Ty b) list)
  list_at a b x y (Ok list) e f p =
      λ h s t. subst (λ z. ListsLayer h z (out-Ty b) list) (sym e)
      (subst (λ z. ListsLayer h x z list) (sym f) (p h s t))
  list_at a b x y (Err m) e f p = tt

pub out_tuple_at : (t : Ty) (xs shown : List Ty) → t ≡ Tuple xs → shown ≡ xs
    → out-Ty t ≡ Ty-F.Tuple shown
out_tuple_at t xs shown e f =
    ap out-Ty (e ∙ sym (rolls-Tuple xs)) ∙ out-roll-Ty (Ty-F.Tuple xs) ∙ ap (λ
    (z : List Ty). let y : Ty-F Ty = Ty-F.Tuple z in y) (sym f)
