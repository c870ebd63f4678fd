-- The single objects that forms name are values of their types.
use Rattle.std.proofs.Common.{◌≡◌, ◌⊎◌, inl, inr, ◌<◌, ◌≤◌, ℕ, zero, suc, ◌+◌, ◌-◌, Bool, true, false, not, ◌&&◌, cond, List, [], ◌∷◌, Option, Some, None, refl, sym, ap, ◌∙◌, subst, arith}
use Rattle.std.specs.Prelude.{get_or}
use Rattle.std.specs.List.{slice_get}
use Rattle.std.proofs.lemmas.Option.{slice_get_within}
use Rattle.fort_base.specs.declared.ids.Loc.{Loc}
use Rattle.fort_base.specs.declared.ids.NameId.{NameId}
use Rattle.fort_base.specs.declared.ids.TypeId.{TypeId}
use Rattle.fort_base.specs.declared.ty.Ty.TheVariants.{Named}
use Rattle.fort_core.specs.declared.program.CoreKind.TheVariants as kind
use Rattle.fort_core.specs.declared.program.CoreShape.{CoreShape}
use Rattle.fort_core.specs.declared.program.Program.{Program}
use Rattle.fort_core.specs.declared.value.Value.{Object as ObjectValue}
use Rattle.fort_types.specs.declared.hierarchy.TypeKind.{TypeKind}
use Rattle.fort_types.specs.declared.hierarchy.TypeKind.TheVariants as a_kind
use Rattle.fort_lex_token.specs.declared.token.Tokens.{Tokens}
use Rattle.fort_tree.specs.declared.declarations.Component.{Component}
use Rattle.fort_tree.specs.declared.declarations.Declaration.TheVariants as declaration
use Rattle.fort_tree.specs.declared.grouped.Groups.{Groups}
use Rattle.fort_types_builtin.specs.declared.types.TheConstants.{TYPE_COUNT, MATCH_FAILURE, EMPTY_REDUCTION, EXCEPTION}
use Rattle.fort_types_builtin.specs.Objects.{location, kind_at, shape_at}
use Rattle.fort_types_builtin.specs.Types.{BuiltInType, types, declared_by_row}
use Rattle.fort_hier.specs.declared.accepted.Hierarchy.{Hierarchy}
use Rattle.fort_hier.specs.Hierarchies.{declares}
use Rattle.fort_hier.specs.Names.{Spelling, spelling}
use Rattle.fort_hier.specs.Numbers.{number_of}
use Rattle.fort_types_sets.specs.declared.member.Members.{Members}
use Rattle.fort_types_sets.specs.Leaves.{leaf_kind, is_leaf}
use Rattle.fort_member_fields.specs.Own.{types_of}
use Rattle.fort_member_fields.proofs.Items.{one}
use Rattle.fort_member.proofs.SetLaws.{get_mapped}
use Rattle.fort_typing_known.specs.Known.{Facts, facts_within}
use Rattle.fort_typing_known.specs.Names.{is_leaf_number, is_so, type_number as number_in_names, single}
use Rattle.fort_typing_known.specs.Sets.{has_name, any_set}
use Rattle.fort_typing_law_ready.specs.Fit.{known_of}
use Rattle.fort_form_typed.specs.declared.component.Typed.{Typed}
use Rattle.fort_sound_typed.specs.Typing.{ShapeOf, HasV}
use Rattle.fort_sound_typed.specs.Sound.{opening}
use Rattle.fort_elab_meaning.specs.Programs.{given}
use Rattle.fort_elab_meaning.specs.Shapes.{has_constructor}
use Rattle.fort_elab_meaning.specs.Values.{base_of, base_of_kind}
use Rattle.fort_elab_meaning.specs.Values as translation
use Rattle.fort_elab_law_matched.proofs.Types.{type_number as number_at}
use Rattle.fort_sound_program.specs.Checked.{Checked}
use Rattle.fort_sound_program.proofs.BuiltInSets.{and_both}
use Rattle.fort_sound_program.proofs.BuiltInTypes.{there}
use Rattle.fort_sound_program.proofs.BuiltIns.{ExceptionRow, exception12, exception13, shape_is, exception_single, exception_has}
use Rattle.fort_sound_program.proofs.Objects.{object_at}
use Rattle.fort_sound_program.proofs.Order.{type_number}
use Rattle.fort_sound_program.proofs.Placed.{nothing_plus}
use Rattle.fort_sound_program.proofs.Shapes.{own_shape, declared_row, rows_long}
use Rattle.fort_sound_program.proofs.Singles.{name_at, name_there, no_constructor}
use Rattle.fort_sound_program.proofs.Store.{single_has}

-- ---- leaves of the table have the numbers of leaves

abbrev Check : ℕ → List BuiltInType → Type 0
Check n [] = Unit {0}
Check n (row ∷ rows) = (row.kind ≡ a_kind.Leaf → is_leaf_number n ≡ true) × Check (n + 1) rows

leaves_told : Check 0 types
unfolding types
leaves_told = (
  (λ e. absurd cc),
  (
    (λ e. absurd cc),
    (
      (λ e. refl),
      (
        (λ e. refl),
        (
          (λ e. refl),
          (
            (λ e. refl),
            (
              (λ e. refl),
              (
                (λ e. absurd cc),
                (
                  (λ e. absurd cc),
                  (
                    (λ e. absurd cc),
                    (
                      (λ e. absurd cc),
                      (
                        (λ e. absurd cc),
                        (
                          (λ e. absurd cc),
                          (
                            (λ e. absurd cc),
                            ((λ e. absurd cc), ((λ e. absurd cc), ((λ e. absurd cc), tt))),
                          ),
                        ),
                      ),
                    ),
                  ),
                ),
              ),
            ),
          ),
        ),
      ),
    ),
  ),
)

check_at : (n : ℕ) (rows : List BuiltInType) → Check n rows → (i : ℕ) (row : BuiltInType)
    → slice_get rows i ≡ Some row → row.kind ≡ a_kind.Leaf → is_leaf_number (n + i) ≡ true
check_at n [] h i row e k = absurd cc
check_at n (r ∷ rows) h zero row e k =
    let same : r ≡ row = cc in ap is_leaf_number
    (let q : n + 0 ≡ n = omega arith in q) ∙ h.0 (ap (λ (z : BuiltInType). z.kind) same ∙ k)
check_at n (r ∷ rows) h (suc i) row e k = ap is_leaf_number
    (let q : n + suc i ≡ n + 1 + i = omega arith in q) ∙ check_at (n + 1) rows h.1 i row e k

object_kind : (n : ℕ) (row : BuiltInType) (k : TypeKind) → row.kind ≡ k → leaf_kind k ≡ true
    → (k ≡ a_kind.Leaf → is_leaf_number n ≡ true) → is_leaf_number n ≡ false → k ≡ a_kind.Object
object_kind n row a_kind.Trait q e f g = absurd cc
object_kind n row a_kind.Object q e f g = refl
object_kind n row a_kind.Leaf q e f g = absurd (let z : true ≡ false = sym (f refl) ∙ g in cc)

not_told : (b : Bool) → not b ≡ true → b ≡ false
not_told true e = absurd cc
not_told false e = refl

so_told : (o : Option Bool) → is_so o ≡ true → o ≡ Some true
so_told None e = absurd cc
so_told (Some b) e = ap Some e

which : (n : ℕ) → (n < TYPE_COUNT) ⊎ ((k : ℕ) × (n ≡ TYPE_COUNT + k))
which n =
    elim (less n) as (λ _. (n < TYPE_COUNT)
    ⊎ ((k : ℕ) × (n ≡ TYPE_COUNT + k))) [
      | inl l ↦ inl l
      | inr l ↦ inr (n - TYPE_COUNT, omega arith)
    ]
  where
    less : (n : ℕ) → (n < TYPE_COUNT) ⊎ (TYPE_COUNT ≤ n)
    less n = grind arith

-- what the name of a single object tells
function_step : (b : Bool) (o t : Option TypeId) (u : TypeId) → cond b None t ≡ Some u
    → (b ≡ false) × (t ≡ Some u)
function_step true o t u e = absurd cc
function_step false o t u e = (refl, e)

object_step : (b : Bool) (n : ℕ) (u : TypeId) → cond b (Some (type_number n)) None ≡ Some u
    → (b ≡ true) × (n ≡ u.0)
object_step true n u e = let z : type_number n ≡ u = cc in (refl, ap (λ (x : TypeId). x.0) z)
object_step false n u e = absurd cc

kind_step : (b : Bool) (l : Loc) → b ≡ false → cond b kind.Object (kind.Single l) ≡ kind.Single l
kind_step true l e = absurd cc
kind_step false l e = refl

module _ (tokens : Tokens) (c : Component) (h : Hierarchy) (m : Members) (groups : Groups)
    (typed : Typed) (p : Program) (ok : Checked tokens c h m groups typed p) where
  -- the value of a type's single object
  value_is : (t : TypeId) (s : CoreShape) (l : Loc) → ShapeOf p t s → s.kind ≡ kind.Single l
      → translation.single (given m c.texts typed) t ≡ ObjectValue t l
  value_is t s l e k =
      ap (λ z. ObjectValue t (base_of (slice_get z t.0))) (sym ok.program.shapes)
      ∙ ap (λ z. ObjectValue t (base_of z)) e ∙ ap (λ z. ObjectValue t (base_of_kind z)) k

  has_its : (t : TypeId) (s : CoreShape) (l : Loc) → ShapeOf p t s → s.kind ≡ kind.Single l
      → HasV p (opening p) (translation.single (given m c.texts typed) t) (Named t)
  has_its t s l e k =
      subst (λ v. HasV p (opening p) v (Named t)) (sym (value_is t s l e k))
      (single_has tokens c h m groups typed p ok t s l e k)

  thrown : (t : TypeId) → ExceptionRow t.0
      → HasV p (opening p) (translation.single (given m c.texts typed) t) (Named EXCEPTION)
  thrown t r = let x = exception_single tokens c h m groups typed p ok t r in
      subst (λ v. HasV p (opening p) v (Named EXCEPTION)) (sym (value_is t x.1 x.0 x.2 x.3))
      (exception_has tokens c h m groups typed p ok t r x.1 x.0 x.2 x.3)

  pub no_match : HasV p (opening p) (translation.single (given m c.texts typed) MATCH_FAILURE)
      (Named EXCEPTION)
  no_match = thrown MATCH_FAILURE exception13

  pub no_item : HasV p (opening p) (translation.single (given m c.texts typed) EMPTY_REDUCTION)
      (Named EXCEPTION)
  no_item = thrown EMPTY_REDUCTION exception12

  -- ---- by name

  module _ (owner : Option TypeId) (name : NameId) where
    abbrev F : Facts
    F = let k = known_of c h m in facts_within k.facts owner

    abbrev spelled : Spelling
    spelled = get_or c.names name.0 []

    built_in_single : (o : TypeId) → o.0 < TYPE_COUNT → slice_get m.objects o.0 ≡ Some true
        → is_leaf_number o.0 ≡ false
        → HasV p (opening p) (translation.single (given m c.texts typed) o) (Named o)
    built_in_single o l e f =
        let n = rows_long in
        let r = there types o.0 (omega (arith, n, l)) in
        let at = declared_row c o.0 r.0 r.1 in
        let d = get_mapped is_leaf (declares c) o.0 true
        (ap (λ z. slice_get z o.0) (sym ok.members.objects) ∙ e) in
        let same : declared_by_row r.0 ≡ d.0 = one (declares c) o.0 d.0 (declared_by_row r.0) d.1 at
        in
        let kind_is =
        object_kind o.0 r.0 r.0.kind refl (ap is_leaf same
        ∙ d.2) (λ k. ap is_leaf_number (sym (nothing_plus o.0))
        ∙ check_at 0 types leaves_told o.0 r.0 r.1 k) f in
        let s = shape_is tokens c h m groups typed p ok o.0 r.0 r.1 in
        has_its o (shape_at s.0 r.0.kind) (location s.0) s.1 (ap (kind_at s.0) kind_is)

    own_single : (o : TypeId) (k : ℕ) → o.0 ≡ TYPE_COUNT + k → slice_get m.objects o.0 ≡ Some true
        → number_in_names h.names spelled ≡ o.0 → any_set (has_name spelled false) m.sets ≡ false
        → HasV p (opening p) (translation.single (given m c.texts typed) o) (Named o)
    own_single o k q e named none =
        let x = object_at c m ok.members o.0 k q e in
        let number_is : number_of (types_of c) (spelling c.names x.0.name) ≡ o.0 =
        number_at c h ok.hierarchy k (declaration.Object x.0) x.1 ∙ sym q in
        let at = name_at c h ok.hierarchy k x.0 x.1 in
        let l = slice_get_within h.names (TYPE_COUNT + k) (spelling c.names x.0.name) at in
        let again = name_there h.names spelled o.0 named (omega (arith, q, l)) in
        let spelled_so : spelling c.names x.0.name ≡ spelled =
        one h.names o.0 spelled (spelling c.names x.0.name) again (ap (slice_get h.names) q
        ∙ at) in
        let without : has_constructor m.sets (type_number o.0) ≡ false =
        ap (λ z. has_constructor m.sets (type_number z)) (sym number_is)
        ∙ no_constructor c h ok.hierarchy m ok.members k x.0 x.1 spelled spelled_so none in
        let many = slice_get_within m.objects o.0 true e in
        let long = ok.members.fields.fields.number in
        let d = get_mapped is_leaf (declares c) o.0 true
        (ap (λ z. slice_get z o.0) (sym ok.members.objects) ∙ e) in
        let inside = slice_get_within (declares c) o.0 d.0 d.1 in
        let fs = there m.fields o.0 (omega (arith, long, inside)) in
        let s = own_shape c m ok.members c.texts typed.initials o.0 k true fs.0 q e fs.1 in
        has_its o s.0 (location s.2.base) (ap (λ z. slice_get z o.0) ok.program.shapes ∙ s.1) (ap (λ
        (z : CoreShape). z.kind) s.2.is_shape
        ∙ kind_step (has_constructor m.sets (type_number o.0)) (location s.2.base) without)

    by_number : (o : TypeId) → (o.0 < TYPE_COUNT) ⊎ ((k : ℕ) × (o.0 ≡ TYPE_COUNT + k))
        → slice_get m.objects o.0 ≡ Some true → is_leaf_number o.0 ≡ false
        → number_in_names h.names spelled ≡ o.0 → any_set (has_name spelled false) m.sets ≡ false
        → HasV p (opening p) (translation.single (given m c.texts typed) o) (Named o)
    by_number o (inl l) e f g none = built_in_single o l e f
    by_number o (inr w) e f g none = own_single o w.0 w.1 e g none

    pub single_is_value : (o : TypeId) → single F name ≡ Some o
        → HasV p (opening p) (translation.single (given m c.texts typed) o) (Named o)
    single_is_value o e =
        let n = number_in_names h.names spelled in
        let a = function_step (any_set (has_name spelled false) m.sets) None
        (cond (is_so (slice_get m.objects n)
        && not (is_leaf_number n)) (Some (type_number n)) None) o e in
        let b = object_step (is_so (slice_get m.objects n) && not (is_leaf_number n)) n o a.1 in
        let d = and_both (is_so (slice_get m.objects n)) (not (is_leaf_number n)) b.0 in
        by_number o (which o.0) (ap (slice_get m.objects) (sym b.1)
        ∙ so_told (slice_get m.objects n) d.0) (ap is_leaf_number (sym b.1)
        ∙ not_told (is_leaf_number n) d.1) b.1 a.0
