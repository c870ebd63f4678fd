-- The names of a local tuple have the parts of its type, where there are as many.
use Rattle.std.proofs.Common.{◌≡◌, suc, List, [], ◌∷◌, ◌++◌, length, Option, Some, None, refl, ap, ◌∙◌, sym, map, rules}
use Rattle.std.proofs.lemmas.List.{append-nil}
use Rattle.fort_base.specs.declared.ids.NameId.{NameId}
use Rattle.fort_base.specs.declared.refusal.Place.{Place}
use Rattle.fort_base.specs.declared.ty.Ty.{Ty, out-Ty, the_lemmas}
use Rattle.fort_base.specs.declared.ty.Ty.TheOpen.{Ty-F}
use Rattle.fort_base.specs.declared.ty.Ty.TheVariants as a_type
use Rattle.fort_scope.specs.declared.binding.Binding.{Binding}
use Rattle.fort_typing_rules.specs.Typing.{binding, with_types, name_and_type, named_parts, named_parts_at}
use Rattle.fort_typing_tasks.specs.Tasks.{bindings_of}

as_many : (names : List (Place × NameId)) (types : List Ty) → length types ≡ length names
    → with_types names types ≡ Some (bindings_of names types)
as_many [] [] e = refl
as_many [] (t ∷ types) e = absurd cc
as_many (n ∷ names) [] e = absurd cc
as_many ((at, name) ∷ names) (t ∷ types) e =
    let i = as_many names types cc in
    ap (λ (o : Option (List Binding)). elim o [
      | Some bs ↦ Some (binding at name t ∷ bs)
      | None ↦ None
    ]) i

not_as_many : (names : List (Place × NameId)) (types : List Ty) → (length types ≡ length names → ⊥)
    → with_types names types ≡ None
not_as_many [] [] e = absurd (e refl)
not_as_many [] (t ∷ types) e = refl
not_as_many (n ∷ names) [] e = refl
not_as_many ((at, name) ∷ names) (t ∷ types) e =
    let i = not_as_many names types (λ h. e (ap suc h)) in
    ap (λ (o : Option (List Binding)). elim o [
      | Some bs ↦ Some (binding at name t ∷ bs)
      | None ↦ None
    ]) i

out_tuple : (ts : List Ty) → out-Ty (a_type.Tuple ts) ≡ Ty-F.Tuple ts
out_tuple ts = search (rules, the_lemmas)

by_parts : (names : List (Place × NameId)) (ty : Ty) (types : List Ty) → ty ≡ a_type.Tuple types
    → named_parts names ty ≡ with_types names types
by_parts names ty types e = ap (named_parts_at names) (ap out-Ty e ∙ out_tuple types)

-- a tuple of as many parts
pub tuple_names : (names : List (Place × NameId)) (ty : Ty) (types : List Ty)
    → ty ≡ a_type.Tuple types → length types ≡ length names
    → named_parts names ty ≡ Some (bindings_of names types)
tuple_names names ty types e l = by_parts names ty types e ∙ as_many names types l

-- a tuple of another number of parts
pub tuple_no_names : (names : List (Place × NameId)) (ty : Ty) (types : List Ty)
    → ty ≡ a_type.Tuple types → (length types ≡ length names → ⊥) → named_parts names ty ≡ None
tuple_no_names names ty types e l = by_parts names ty types e ∙ not_as_many names types l

no_types : (names : List (Place × NameId)) → bindings_of names [] ≡ []
no_types [] = refl
no_types (n ∷ names) = refl

none_left : (rest : List Ty) → length rest ≡ 0 → rest ≡ []
none_left [] e = refl
none_left (t ∷ rest) e = absurd cc

-- where no type is left, all are there
pub all_named : (list : List (NameId × Ty)) (names : List (Place × NameId)) (rest : List Ty)
    (all : List (NameId × Ty)) → length rest ≡ 0
    → list ++ map name_and_type (bindings_of names rest) ≡ all
    → list ≡ all
all_named list names rest all e h =
    sym (append-nil list) ∙ ap (λ bs. list ++ map name_and_type bs) (sym (no_types names))
    ∙ ap (λ ts. list ++ map name_and_type (bindings_of names ts)) (sym (none_left rest e)) ∙ h

pub ruleset named = (tuple_names, tuple_no_names)
