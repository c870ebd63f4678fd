-- The rows of the table of types that the code holds.
use Rattle.std.proofs.Common.{◌≡◌, ◌≤◌, ℕ, List, [], ◌++◌, length, get_or, map, take, drop, Option, Some, refl, sym, ap, ◌∙◌, subst}
use Rattle.std.specs.Borrow.{Bor}
use Rattle.std.specs.List.{slice_get}
use Rattle.std.proofs.lemmas.List.{append-nil, drop_all, take_all}
use Rattle.fort_base.specs.declared.ids.TypeId.{TypeId}
use Rattle.fort_types.specs.declared.hierarchy.TypeKind.{TypeKind}
use Rattle.fort_types_builtin.specs.declared.types.TheConstants.{TYPE_COUNT, TYPE_NAME_COUNT}
use Rattle.fort_core.specs.declared.program.CoreShape.{CoreShape}
use Rattle.fort_types_builtin.specs.Objects.{shapes_of, shapes_from}
use Rattle.fort_types_builtin.specs.Types.{BuiltInType, types, row_of, type_name_of, declared_spellings, any_spelling, type_spellings}
use Rattle.fort_types_builtin.proofs.Lists.{get_mapped, get_front}

abbrev Row : Type 0
Row = Bor (List ℕ) × TypeKind × Option TypeId

-- what a loop over the rows made, at its end
pub whole : {Y : Type 0} (g : BuiltInType → Y) (rows : List Row) (i : ℕ) (made : List Y)
    → length rows ≤ i → map row_of rows ≡ types → made ≡ map g (map row_of (take i rows))
    → made ≡ map g types
whole g rows i made l t e = e ∙ ap (λ z. map g (map row_of z)) (take_all i rows l) ∙ ap (map g) t

pub name_within : (rows : List Row) (n : ℕ) (row : Row) → slice_get rows n ≡ Some row
    → map row_of rows ≡ types → row.0.now ≡ get_or type_spellings n []
unfolding type_spellings declared_spellings
name_within rows n row e t = sym (get_front declared_spellings any_spelling n row.0.now
    (get_mapped type_name_of types n (row_of row)
    (subst (λ z. slice_get z n ≡ Some (row_of row)) t (get_mapped row_of rows n row e))))

pub names_long : length type_spellings ≡ TYPE_NAME_COUNT
unfolding type_spellings declared_spellings types
names_long = refl

any_last : any_spelling ≡ get_or type_spellings TYPE_COUNT []
unfolding type_spellings declared_spellings types
any_last = refl

pub any_at : (n : ℕ) → n ≡ TYPE_COUNT → any_spelling ≡ get_or type_spellings n []
any_at n e = subst (λ k. any_spelling ≡ get_or type_spellings k []) (sym e) any_last

pub shapes_whole : (rows : List Row) (i place first : ℕ) (made : List CoreShape) → length rows ≤ i
    → map row_of rows ≡ types
    → made ++ shapes_of (map row_of (drop i rows)) place ≡ shapes_of (map row_of rows) first
    → made ≡ shapes_from first
unfolding shapes_from
shapes_whole rows i place first made l t e =
    sym (append-nil made)
    ∙ ap (λ z. made ++ shapes_of (map row_of z) place) (sym (drop_all i rows l)) ∙ e
    ∙ ap (λ z. shapes_of z first) t
