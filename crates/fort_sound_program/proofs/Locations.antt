-- The locations of an opening store: one after another, each with its type.
use Rattle.std.proofs.Common.{◌≡◌, ℕ, zero, suc, ◌+◌, ◌==◌, Bool, true, false, if◌then◌else◌, cond, List, [], ◌∷◌, ◌++◌, length, Some, drop, append_assoc, refl, sym, ap, ◌∙◌, subst, arith}
use Rattle.std.specs.Prelude.{max}
use Rattle.std.specs.List.{slice_get, flat_map}
use Rattle.std.proofs.lemmas.Grind.{flat_map-append}
use Rattle.fort_base.specs.declared.ids.Loc.{Loc}
use Rattle.fort_base.specs.declared.ty.Ty.{Ty}
use Rattle.fort_types.specs.declared.hierarchy.TypeKind.{TypeKind}
use Rattle.fort_types.specs.declared.hierarchy.TypeKind.TheVariants as a_kind
use Rattle.fort_core.specs.declared.program.CoreField.{CoreField}
use Rattle.fort_core.specs.declared.program.CoreKind.TheVariants as kind
use Rattle.fort_core.specs.declared.program.CoreShape.{CoreShape}
use Rattle.fort_types_builtin.specs.declared.objects.TheConstants.{OBJECT_COUNT}
use Rattle.fort_types_builtin.specs.declared.types.TheConstants.{TYPE_COUNT}
use Rattle.fort_types_builtin.specs.Objects.{location, shape_at, place_behind, shapes_of, shapes_from}
use Rattle.fort_types_builtin.specs.Types.{BuiltInType, types}
use Rattle.fort_hier.proofs.NamesWalk.{as_long}
use Rattle.fort_types_sets.specs.declared.field.Field.{Field}
use Rattle.fort_types_sets.specs.declared.member.MemberSet.{MemberSet}
use Rattle.fort_types_sets.specs.declared.member.Members.{Members}
use Rattle.fort_member_fields.proofs.Items.{get_left}
use Rattle.fort_elab_law_matched.proofs.Shapes.{get_behind}
use Rattle.fort_sound_typed.specs.Sound.{typed_at}
use Rattle.fort_sound_typed.proofs.Bind.{Tells, alike, apart, tells, self_same}
use Rattle.fort_elab_meaning.specs.Shapes.{Initial, has_constructor, kind_of, core_field, places_of, shape_of, own_shapes, shapes, variable_types, field_types, types_at, types_by}
use Rattle.fort_sound_program.proofs.Order.{type_number}

-- ---- locations one after another

abbrev Cell : Type 0
Cell = Loc × Ty

-- from a number on
abbrev pub From : ℕ → List Cell → Type 0
From n [] = Unit {0}
From n (x ∷ xs) = (x.0.0 ≡ n) × From (n + 1) xs

pub from_both : (n : ℕ) (xs ys : List Cell) → From n xs → From (n + length xs) ys
    → From n (xs ++ ys)
from_both n [] ys h k = subst (λ z. From z ys) (let q : n + 0 ≡ n = omega arith in q) k
from_both n (x ∷ xs) ys h k = (
  h.0,
  from_both (n + 1) xs ys h.1 (subst (λ z. From z ys)
      (let q : n + suc (length xs) ≡ n + 1 + length xs = omega arith in q) k),
)

from_here : (n m : ℕ) (xs : List Cell) → n ≡ m → From n xs → From m xs
from_here n m xs e h = subst (λ z. From z xs) e h

-- the type at the place of an item
at_item : (n : ℕ) (xs : List Cell) (i : ℕ) (x : Cell) → From n xs → slice_get xs i ≡ Some x
    → (x.0.0 ≡ n + i) × (typed_at xs (n + i) ≡ Some x.1)
at_item n [] i x h e = absurd cc
at_item n (y ∷ xs) zero x h e =
    let same : y ≡ x = cc in
    let number : x.0.0 ≡ n + 0 = ap (λ (z : Cell). z.0.0) (sym same) ∙ h.0 ∙ omega arith in (
      number,
      ap (λ b. if b then Some y.1
          else typed_at xs (n + 0))
          (ap (λ z. y.0.0 == z) (sym number ∙ ap (λ (z : Cell). z.0.0) (sym same))
          ∙ self_same y.0.0) ∙ ap (λ (z : Cell). Some z.1) same,
    )
at_item n (y ∷ xs) (suc i) x h e =
    let w = at_item (n + 1) xs i x h.1 e in
    let number : n + 1 + i ≡ n + suc i = omega arith in
    (w.0 ∙ number, other (tells y.0.0 (n + suc i)) ∙ ap (typed_at xs) (sym number) ∙ w.1)
  where
    other : Tells y.0.0 (n + suc i) → typed_at (y ∷ xs) (n + suc i) ≡ typed_at xs (n + suc i)
    other (alike q b) = let z = h.0 in absurd (omega (arith, q))
    other (apart b c) = ap (λ b. if b then Some y.1 else typed_at xs (n + suc i)) b

pub typed_item : (xs : List Cell) (i : ℕ) (x : Cell) → From 0 xs → slice_get xs i ≡ Some x
    → typed_at xs x.0.0 ≡ Some x.1
typed_item xs i x h e = let w = at_item 0 xs i x h e in ap (typed_at xs) w.0 ∙ w.1

-- ---- variables and fields

pub variables_from_here : (l : ℕ) (fs : List Field) → From l (variable_types l fs)
variables_from_here l [] = tt
variables_from_here l (f ∷ fs) = (refl, variables_from_here (l + 1) fs)

pub variables_long : (l : ℕ) (fs : List Field) → length (variable_types l fs) ≡ length fs
variables_long l [] = refl
variables_long l (f ∷ fs) = ap suc (variables_long (l + 1) fs)

pub variable_at : (l : ℕ) (fs : List Field) (i : ℕ) (f : Field) → slice_get fs i ≡ Some f
    → slice_get (variable_types l fs) i ≡ Some (location (l + i), f.ty)
variable_at l [] i f e = absurd cc
variable_at l (g ∷ fs) zero f e =
    let same : g ≡ f = cc
    in ap (λ (z : Field). Some (location l, z.ty)) same ∙ ap (λ n. Some (location n, f.ty))
    (let q : l ≡ l + 0 = omega arith in q)
variable_at l (g ∷ fs) (suc i) f e =
    variable_at (l + 1) fs i f e ∙ ap (λ n. Some (location n, f.ty))
    (let q : l + 1 + i ≡ l + suc i = omega arith in q)

fields_from_here : (l : ℕ) (fs : List CoreField) → From l (field_types l fs)
fields_from_here l [] = tt
fields_from_here l (f ∷ fs) = (refl, fields_from_here (l + 1) fs)

fields_long : (l : ℕ) (fs : List CoreField) → length (field_types l fs) ≡ length fs
fields_long l [] = refl
fields_long l (f ∷ fs) = ap suc (fields_long (l + 1) fs)

field_at : (l : ℕ) (fs : List CoreField) (i : ℕ) (f : CoreField) → slice_get fs i ≡ Some f
    → slice_get (field_types l fs) i ≡ Some (location (l + i), f.ty)
field_at l [] i f e = absurd cc
field_at l (g ∷ fs) zero f e =
    let same : g ≡ f = cc
    in ap (λ (z : CoreField). Some (location l, z.ty)) same ∙ ap (λ n. Some (location n, f.ty))
    (let q : l ≡ l + 0 = omega arith in q)
field_at l (g ∷ fs) (suc i) f e = field_at (l + 1) fs i f e ∙ ap (λ n. Some (location n, f.ty))
    (let q : l + 1 + i ≡ l + suc i = omega arith in q)

-- ---- shapes

-- a single object at a base has its locations from there on
pub types_from_here : (l : ℕ) (fs : List CoreField)
    → From l (types_at (kind.Single (location l)) fs)
types_from_here l [] = (refl, tt)
types_from_here l (f ∷ fs) = fields_from_here l (f ∷ fs)

types_long : (l : Loc) (fs : List CoreField)
    → length (types_at (kind.Single l) fs) ≡ max (length fs) 1
types_long l [] = refl
types_long l (f ∷ fs) = let n = fields_long l.0 (f ∷ fs) in grind arith

pub type_at_field : (l : Loc) (fs : List CoreField) (i : ℕ) (f : CoreField)
    → slice_get fs i ≡ Some f
    → slice_get (types_at (kind.Single l) fs) i ≡ Some (location (l.0 + i), f.ty)
type_at_field l [] i f e = absurd cc
type_at_field l (g ∷ fs) i f e = field_at l.0 (g ∷ fs) i f e

built_in_stands : (l : ℕ) (k : TypeKind)
    → From l (types_by (shape_at l k)) × (l + length (types_by (shape_at l k)) ≡ place_behind l k)
built_in_stands l a_kind.Trait = (tt, omega arith)
built_in_stands l a_kind.Object = ((refl, tt), refl)
built_in_stands l a_kind.Leaf = (tt, omega arith)

from_list : (l : ℕ) (k : CoreShape) (rest : List Cell) (n : ℕ) → From l (types_by k)
    → l + length (types_by k) ≡ n → From n rest → From l (types_by k ++ rest)
from_list l k rest n h e r =
    from_both l (types_by k) rest h (from_here n (l + length (types_by k)) rest (sym e) r)

-- the end of built-in ones
abbrev behind_all : List BuiltInType → ℕ → ℕ
behind_all [] l = l
behind_all (row ∷ rows) l = behind_all rows (place_behind l row.kind)

rows_from_here : (rows : List BuiltInType) (l : ℕ) (rest : List Cell)
    → From (behind_all rows l) rest → From l (flat_map types_by (shapes_of rows l) ++ rest)
rows_from_here [] l rest r = r
rows_from_here (row ∷ rows) l rest r =
    let w = built_in_stands l row.kind in
    let more = flat_map types_by (shapes_of rows (place_behind l row.kind)) in
    subst (From l) (sym (append_assoc (types_by (shape_at l row.kind)) more rest))
    (from_list l (shape_at l row.kind) (more ++ rest) (place_behind l row.kind) w.0 w.1
    (rows_from_here rows (place_behind l row.kind) rest r))

module _ (texts : List (List ℕ)) (is : List Initial) (sets : List MemberSet) where
  by_constructor : (l : ℕ) (b : Bool) (fs : List CoreField)
      → let k = cond b kind.Object (kind.Single (location l)) in From l (types_at k fs)
      × (length (types_at k fs) ≡ places_of k (length fs))
  by_constructor l true fs = (tt, refl)
  by_constructor l false fs = (types_from_here l fs, types_long (location l) fs)

  by_object : (t l : ℕ) (o : Bool) (fs : List CoreField)
      → let k = kind_of sets (type_number t) l o in From l (types_at k fs)
      × (length (types_at k fs) ≡ places_of k (length fs))
  by_object t l false fs = (tt, refl)
  by_object t l true fs = by_constructor l (has_constructor sets (type_number t)) fs

  own_from_here : (t l : ℕ) (os : List Bool) (fss : List (List Field))
      → From l (flat_map types_by (own_shapes texts is sets t l os fss))
  own_from_here t l [] fss = tt
  own_from_here t l (o ∷ os) [] = tt
  own_from_here t l (o ∷ os) (fs ∷ fss) =
      let s = shape_of texts is sets (type_number t) l o fs in
      let w = by_object t l o s.fields in
      let n : length s.fields ≡ length fs = as_long (core_field texts is (type_number t)) fs in
      from_list l s
      (flat_map types_by
      (own_shapes texts is sets (t + 1) (l + places_of s.kind (length fs)) os fss))
      (l + places_of s.kind (length fs)) w.0
      (ap (λ k. l + k) (w.1 ∙ ap (places_of s.kind) n))
      (own_from_here (t + 1) (l + places_of s.kind (length fs)) os fss)

built_in_end : (l : ℕ) → behind_all types l ≡ l + OBJECT_COUNT
unfolding types
built_in_end l = omega arith

-- all shapes have their locations one after another
pub shapes_from_here : (texts : List (List ℕ)) (is : List Initial) (m : Members)
    → From (length m.variables) (flat_map types_by (shapes texts is m))
unfolding shapes shapes_from
shapes_from_here texts is m = let v = length m.variables in
    let own_list =
    own_shapes texts is m.sets TYPE_COUNT (v + OBJECT_COUNT) (drop TYPE_COUNT m.objects)
    (drop TYPE_COUNT m.fields) in
    subst (From v) (sym (flat_map-append types_by (shapes_of types v) own_list))
    (rows_from_here types v (flat_map types_by own_list)
    (from_here (v + OBJECT_COUNT) (behind_all types v) (flat_map types_by own_list)
    (sym (built_in_end v))
    (own_from_here texts is m.sets TYPE_COUNT (v + OBJECT_COUNT) (drop TYPE_COUNT m.objects)
    (drop TYPE_COUNT m.fields))))

-- an item of one list among those of all
pub in_flat : {X Y : Type 0} (f : X → List Y) (xs : List X) (n i : ℕ) (x : X) (y : Y)
    → slice_get xs n ≡ Some x → slice_get (f x) i ≡ Some y
    → (j : ℕ) × (slice_get (flat_map f xs) j ≡ Some y)
in_flat f [] n i x y e g = absurd cc
in_flat f (z ∷ xs) zero i x y e g =
    let same : z ≡ x = cc
    in (i, get_left (f z) (flat_map f xs) i y (ap (λ w. slice_get (f w) i) same ∙ g))
in_flat f (z ∷ xs) (suc n) i x y e g =
    let w = in_flat f xs n i x y e g
    in (length (f z) + w.0, get_behind (f z) (flat_map f xs) (length (f z) + w.0) w.0 refl ∙ w.1)
