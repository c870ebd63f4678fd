-- What typing keeps of bodies and initials, and that each declaration with a body has at its place
-- this body alone.
use Rattle.std.proofs.Common.{◌≡◌, ℕ, zero, suc, ◌+◌, ◌≤◌, Bool, true, false, List, [], ◌∷◌, length, map, Option, Some, None, refl, sym, ap, ◌∙◌, subst, arith}
use Rattle.std.specs.List.{slice_get, AllByRecursion}
use Rattle.fort_base.specs.declared.ids.NameId.{NameId}
use Rattle.fort_base.specs.declared.ids.TypeId.{TypeId}
use Rattle.fort_base.specs.declared.refusal.Place.{Place}
use Rattle.fort_base.specs.declared.ty.Ty.{Ty}
use Rattle.fort_core.specs.declared.program.CoreShape.{CoreShape}
use Rattle.fort_form.specs.declared.component.Forms.{Forms}
use Rattle.fort_form.specs.declared.component.InitialForm.{InitialForm}
use Rattle.fort_typing_known.specs.Known.{Knows}
use Rattle.fort_types_sets.specs.declared.member.MemberKind.{MemberKind}
use Rattle.fort_types_sets.specs.declared.member.MemberKind.TheVariants as a_kind
use Rattle.fort_member.specs.declared.entries.Entry.{Entry}
use Rattle.fort_member.proofs.Numbered.{all_left, all_right, all_items}
use Rattle.fort_form_typed.specs.declared.component.Typed.{Typed}
use Rattle.fort_form_typed.specs.declared.component.TypedBody.{TypedBody}
use Rattle.fort_typing_rules.specs.Components.{HasTypes, typed_initial, typed_body}
use Rattle.fort_elab_meaning.specs.Bodies.{width, same_place}
use Rattle.fort_elab_meaning.specs.Shapes.{Initial}
use Rattle.fort_elab_law_written.specs.Matching.{CountsAll, Fills, MatchesBy}
use Rattle.fort_elab_law_matched.proofs.Places.{one, same_itself, same_turned}
use Rattle.fort_elab_law_matched.proofs.Sets.{IsMatched}
use Rattle.fort_elab_law_matched.proofs.Counted.{Counted, counted_by, entry_counted, all_counted, form_counted, counts}

-- ---- one list beside another

pub same_mapped : {X Y Z : Type 0} (f : X → Z) (g : Y → Z) (xs : List X) (ys : List Y)
    → length xs ≡ length ys
    → ((n : ℕ) (y : Y) → slice_get ys n ≡ Some y
    → (x : X) × (slice_get xs n ≡ Some x) × (f x ≡ g y)) → map f xs ≡ map g ys
same_mapped f g [] [] l each = refl
same_mapped f g [] (y ∷ ys) l each = absurd (omega (arith, l))
same_mapped f g (x ∷ xs) [] l each = absurd (omega (arith, l))
same_mapped f g (x ∷ xs) (y ∷ ys) l each =
    let w = each 0 y refl in let s : w.0 ≡ x = first x xs w.0 w.1 in
    ap (λ z. z ∷ map f xs) (ap f (sym s) ∙ w.2)
    ∙ ap (λ zs. g y ∷ zs) (same_mapped f g xs ys (omega (arith, l)) (λ n v e. each (suc n) v e))
  where
    first : {X : Type 0} (x : X) (xs : List X) (w : X) → slice_get (x ∷ xs) 0 ≡ Some w → w ≡ x
    first x xs w e = cc

abbrev pub typed_counted : TypedBody → Counted
typed_counted b = (b.place, width b)

-- the owner and the name of an initial
abbrev pub Keyed : Type 0
Keyed = Option TypeId × NameId

abbrev pub typed_keyed : Initial → Keyed
typed_keyed i = (i.0, i.1)

abbrev pub form_keyed : InitialForm → Keyed
form_keyed i = (i.owner, i.name)

module _ (k : Knows) (forms : Forms) (typed : Typed) (types : HasTypes k forms typed) where
  pub bodies_same : map typed_counted typed.bodies ≡ map form_counted forms.bodies
  bodies_same =
      same_mapped typed_counted form_counted typed.bodies forms.bodies types.bodies
      (λ n b e. let w = types.each_body n b e in (typed_body b w.0, w.2, refl))

  pub initials_same : map typed_keyed typed.initials ≡ map form_keyed forms.initials
  initials_same =
      same_mapped typed_keyed form_keyed typed.initials forms.initials types.initials
      (λ n i e. let w = types.each_initial n i e in (typed_initial i w.0, w.2, refl))

-- ---- what stands at a place

-- what is counted at this place counts so many
abbrev pub AreAt : Place → ℕ → List Counted → Type 0
AreAt place n xs = AllByRecursion (λ (x : Counted). same_place x.0 place ≡ true → n ≤ x.1) xs

none_step : (place : Place) (n : ℕ) (x : Counted) (rest : ℕ) (b : Bool) → same_place place x.0 ≡ b
    → one b + rest ≡ 0 → same_place x.0 place ≡ true → n ≤ x.1
none_step place n x rest true e z s = absurd (omega (arith, z))
none_step place n x rest false e z s = let t = same_turned x.0 place s in absurd cc

none_at : (place : Place) (n : ℕ) (xs : List Counted) → counts place xs ≡ 0 → AreAt place n xs
none_at place n [] z = tt
none_at place n (x ∷ xs) z = (
  none_step place n x (counts place xs) (same_place place x.0) refl z,
  none_at place n xs (omega (arith, z)),
)

-- a place in a list is counted
is_counted : (xs : List Counted) (i : ℕ) (x : Counted) → slice_get xs i ≡ Some x → 1 ≤ counts x.0 xs
is_counted [] i x e = absurd cc
is_counted (y ∷ xs) zero x e =
    let s : y ≡ x = cc
    in let t : one (same_place x.0 y.0) ≡ 1 =
    ap one (subst (λ (z : Counted). same_place x.0 z.0 ≡ true) (sym s) (same_itself x.0))
    in omega arith
is_counted (y ∷ xs) (suc i) x e = let r = is_counted xs i x e in omega arith

-- Where each place stands once, what stands at an item's place is that item.
alone : (xs : List Counted) (i : ℕ) (x : Counted) → slice_get xs i ≡ Some x
    → ((p : Place) → counts p xs ≤ 1) → AreAt x.0 x.1 xs
alone [] i x e few = tt
alone (y ∷ xs) zero x e few = let s : y ≡ x = cc in (
  (λ q. subst (λ (z : Counted). x.1 ≤ z.1) (sym s) (omega arith)),
  none_at x.0 x.1 xs
      (let t : one (same_place x.0 y.0) ≡ 1 =
      ap one (subst (λ (z : Counted). same_place x.0 z.0 ≡ true) (sym s) (same_itself x.0))
      in let f = few x.0 in omega arith),
)
alone (y ∷ xs) (suc i) x e few = (
  (λ q. let t : one (same_place x.0 y.0) ≡ 1 = ap one (same_turned y.0 x.0 q) in let f = few x.0
      in let r = is_counted xs i x e in absurd (omega arith)),
  alone xs i x e (λ p. let f = few p in omega arith),
)

pub all_alone : (xs : List Counted) → ((p : Place) → counts p xs ≤ 1)
    → AllByRecursion (λ (x : Counted). AreAt x.0 x.1 xs) xs
all_alone xs few = all_items (λ (x : Counted). AreAt x.0 x.1 xs) xs (λ i x e. alone xs i x e few)

-- ---- what a declaration has

counts_all : (bs : List TypedBody) (place : Place) (parameters : List Ty)
    → AreAt place (length parameters) (map typed_counted bs) → CountsAll bs place parameters
counts_all [] place parameters h = tt
counts_all (b ∷ bs) place parameters h = (h.0, counts_all bs place parameters h.1)

-- the parameters of a constructor fill its type's fields
abbrev pub IsFilled : List CoreShape → MemberKind → List Ty → Type 0
IsFilled list (a_kind.Constructor t) parameters = Fills list t parameters
IsFilled list _ parameters = Unit {0}

module _ (list : List CoreShape) (bs : List TypedBody) where
  -- of what is counted, the bodies at its place count so many
  abbrev pub IsAlone : Counted → Type 0
  IsAlone x = AreAt x.0 x.1 (map typed_counted bs)

  by_kind : (kind : MemberKind) (place : Option Place) (parameters : List Ty)
      → AllByRecursion IsAlone (counted_by kind place (length parameters))
      → IsFilled list kind parameters → MatchesBy kind place parameters list bs
  by_kind a_kind.BuiltIn place parameters h k = tt
  by_kind (a_kind.Constructor t) place parameters h k = k
  by_kind a_kind.Concrete None parameters h k = tt
  by_kind a_kind.Concrete (Some place) parameters h k = counts_all bs place parameters h.0
  by_kind a_kind.Abstract place parameters h k = tt

  pub all_matched : (es : List Entry) → AllByRecursion IsAlone (all_counted es)
      → AllByRecursion (λ (e : Entry). IsFilled list e.member.kind e.member.parameters) es
      → AllByRecursion (IsMatched list bs) es
  all_matched [] h k = tt
  all_matched (e ∷ es) h k = (
    by_kind e.member.kind e.member.place e.member.parameters
        (all_left IsAlone (entry_counted e) (all_counted es) h) k.0,
    all_matched es (all_right IsAlone (entry_counted e) (all_counted es) h) k.1,
  )
