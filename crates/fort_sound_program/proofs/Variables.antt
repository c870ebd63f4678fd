-- The variables at the top have names of their own.
use Rattle.std.proofs.Common.{◌≡◌, ◌+◌, ℕ, zero, suc, Bool, true, false, ◌&&◌, List, [], ◌∷◌, ◌++◌, length, get_or, map, take, Some, refl, sym, ap, ◌∙◌, subst, append_assoc, arith}
use Rattle.std.specs.List.{slice_get, flat_map}
use Rattle.std.proofs.lemmas.List.{map-append}
use Rattle.fort_base.specs.declared.ids.NameId.{NameId}
use Rattle.fort_base.specs.declared.refusal.Place.{Place}
use Rattle.fort_tree.specs.declared.declarations.Component.{Component}
use Rattle.fort_tree.specs.declared.declarations.Declaration.{Declaration}
use Rattle.fort_tree.specs.declared.declarations.Declaration.TheVariants as declaration
use Rattle.fort_tree.specs.declared.declarations.Declared.{Declared}
use Rattle.fort_tree_type_names.specs.TypeNames.{type_names}
use Rattle.fort_hier.specs.declared.accepted.Hierarchy.{Hierarchy}
use Rattle.fort_hier.specs.declared.tops.Top.{Top}
use Rattle.fort_hier.specs.Hierarchies.{IsHierarchy, duplicate}
use Rattle.fort_hier.specs.Names.{Spelling, spelling, Called, built_in, called, IsDuplicate}
use Rattle.fort_hier.specs.Tops.{top_of, declared_top}
use Rattle.fort_types_sets.specs.declared.field.Field.{Field}
use Rattle.fort_member_fields.specs.Inherited.{EachOnce}
use Rattle.fort_member_fields.specs.Own.{variables_at, declared_variables, types_of, variables_of}
use Rattle.fort_member_fields.proofs.Items.{of_get}
use Rattle.fort_member.proofs.SetLaws.{get_of_mapped}
use Rattle.fort_elab_law_matched.proofs.Shapes.{get_behind}

some_of : {X : Type 0} {x y : X} → Some x ≡ Some y → x ≡ y
some_of e = cc

-- No name of a list clashes with one before it.
abbrev NoClash : List Called → Type 0
NoClash all = (place : Place) → IsDuplicate all place → ⊥

never : (b : Bool) → (b && false) ≡ false
never true = refl
never false = refl

get_here : {X : Type 0} (xs : List X) (y : X) (ys : List X)
    → slice_get (xs ++ y ∷ ys) (length xs) ≡ Some y
get_here [] y ys = refl
get_here (x ∷ xs) y ys = get_here xs y ys

-- an item stands among the first ones before a later place
among_first : {X : Type 0} (xs : List X) (y : X) (ys : List X) (m n : ℕ) → m ≡ length xs + suc n
    → slice_get (take m (xs ++ y ∷ ys)) (length xs) ≡ Some y
among_first [] y ys zero n e = absurd (omega (arith, e))
among_first [] y ys (suc m) n e = refl
among_first (x ∷ xs) y ys zero n e = absurd (omega (arith, e))
among_first (x ∷ xs) y ys (suc m) n e = among_first xs y ys m n (omega (arith, e))

module _ (list names : List Spelling) where
  -- a name at the top with the name of a variable
  abbrev TopOf : List Top → Field → Type 0
  TopOf tops f = (b : ℕ) × (t : Top) × (slice_get tops b ≡ Some t) × (t.name.id ≡ f.name)
      × (t.is_function ≡ false)

  top_right : (more tops : List Top) (f : Field) → TopOf tops f → TopOf (more ++ tops) f
  top_right more tops f (b, t, e, n, k) =
      (length more + b, t, get_behind more tops (length more + b) b refl ∙ e, n, k)

  top_step : (d : Declaration) (tops : List Top) (vs : List Field) (i : ℕ) (f : Field)
      → ((i : ℕ) → slice_get vs i ≡ Some f → TopOf tops f)
      → slice_get (variables_at list names d ++ vs) i ≡ Some f → TopOf (top_of d ++ tops) f
  top_step (declaration.Variable v) tops vs zero f h e =
      let same = some_of e
      in (
        0,
        record { name = v.name; is_function = false },
        refl,
        ap (λ
            (z : Field). z.name) same,
        refl,
      )
  top_step (declaration.Variable v) tops vs (suc i) f h e =
      top_right (top_of (declaration.Variable v)) tops f (h i e)
  top_step (declaration.Function g) tops vs i f h e =
      top_right (top_of (declaration.Function g)) tops f (h i e)
  top_step (declaration.Trait t) tops vs i f h e =
      top_right (top_of (declaration.Trait t)) tops f (h i e)
  top_step (declaration.Object o) tops vs i f h e =
      top_right (top_of (declaration.Object o)) tops f (h i e)

  variable_top : (ds : List Declared) (i : ℕ) (f : Field)
      → slice_get (flat_map (declared_variables list names) ds) i ≡ Some f
      → TopOf (flat_map declared_top ds) f
  variable_top [] i f e = absurd cc
  variable_top (d ∷ ds) i f e =
      top_step d.declaration (flat_map declared_top ds)
      (flat_map (declared_variables list names) ds) i f (λ j g. variable_top ds j f g) e

  -- a variable and a later name at the top differ
  clash : (before : List Called) (x : Top) (tops : List Top) → x.is_function ≡ false
      → NoClash (before ++ called names x ∷ map (called names) tops) → (f : Field) → TopOf tops f
      → x.name.id ≡ f.name → ⊥
  clash before x tops k none f (b, t, e, n, q) same =
      let y = called names x in
      let rest = map (called names) tops in
      let all = before ++ y ∷ rest in
      let at = length before + suc b in
      let stands : slice_get all at ≡ Some (called names t) =
      get_behind before (y ∷ rest) at (suc b) refl ∙ get_of_mapped (called names) tops b t e in
      let spelled : spelling names x.name ≡ spelling names t.name =
      ap (λ (z : NameId). get_or names z.0 []) (same ∙ sym n) in
      none t.name.spot.place (
        at,
        (
          called names t,
          stands,
          (
            y,
            of_get (take at all) (length before) y (among_first before y rest at b refl),
            spelled,
            ap (λ z. z && t.is_function) k,
          ),
          refl,
        ),
      )

  abbrev Once : List Top → List Field → Type 0
  Once tops vs = (before : List Called) → NoClash (before ++ map (called names) tops) → EachOnce vs

  pass : (before : List Called) (more tops : List Top) (vs : List Field) → Once tops vs
      → NoClash (before ++ map (called names) (more ++ tops)) → EachOnce vs
  pass before more tops vs h none = h (before ++ map (called names) more)
      (subst NoClash (ap (λ z. before ++ z) (map-append (called names) more tops)
      ∙ sym (append_assoc before (map (called names) more) (map (called names) tops))) none)

  once_step : (d : Declaration) (tops : List Top) (vs : List Field)
      → ((i : ℕ) (f : Field) → slice_get vs i ≡ Some f → TopOf tops f) → Once tops vs
      → Once (top_of d ++ tops) (variables_at list names d ++ vs)
  once_step (declaration.Variable v) tops vs each h before none = first
    where
      x : Top
      x = record { name = v.name; is_function = false }

      later : EachOnce vs
      later = h (before ++ called names x ∷ [])
          (subst NoClash (sym (append_assoc before (called names x ∷ []) (map (called names) tops)))
          none)

      first : EachOnce (variables_at list names (declaration.Variable v) ++ vs)
      first zero zero f g e k n = refl
      first zero (suc j) f g e k n =
          absurd (clash before x tops refl none g (each j g k) (ap (λ
          (z : Field). z.name) (some_of e) ∙ n))
      first (suc i) zero f g e k n =
          absurd (clash before x tops refl none f (each i f e) (ap (λ
          (z : Field). z.name) (some_of k) ∙ sym n))
      first (suc i) (suc j) f g e k n = ap suc (later i j f g e k n)
  once_step (declaration.Function w) tops vs each h before none =
      pass before (top_of (declaration.Function w)) tops vs h none
  once_step (declaration.Trait t) tops vs each h before none =
      pass before (top_of (declaration.Trait t)) tops vs h none
  once_step (declaration.Object o) tops vs each h before none =
      pass before (top_of (declaration.Object o)) tops vs h none

  none_once : Once [] []
  none_once before none i j f g e k n = absurd cc

  all_once : (ds : List Declared)
      → Once (flat_map declared_top ds) (flat_map (declared_variables list names) ds)
  all_once [] = none_once
  all_once (d ∷ ds) =
      once_step d.declaration (flat_map declared_top ds)
      (flat_map (declared_variables list names) ds) (variable_top ds) (all_once ds)

pub variables_once : (c : Component) (h : Hierarchy) → IsHierarchy c (type_names c) h
    → EachOnce (variables_of c)
variables_once c h is =
    all_once (types_of c) c.names c.declarations built_in
    (λ place w. is.kept 401 place (duplicate refl w))
