-- The program of a component that keeps all the rules is sound and complete, and keeps the rules on
-- overloading.
use Rattle.std.proofs.Common.{◌≡◌, ◌≢◌, inl, inr, ℕ, suc, ◌+◌, Bool, true, false, ◌&&◌, cond, List, [], ◌∷◌, length, Some, refl, sym, ap, ◌∙◌, subst, eqb-true, arith, IsTrue}
use Rattle.std.specs.Prelude.{codes, nat_eq, Contains}
use Rattle.std.specs.Bool.{beq}
use Rattle.std.specs.Str.{bytes_eq}
use Rattle.std.specs.List.{slice_get, AllByRecursion}
use Rattle.std.proofs.lemmas.Option.{slice_get_within}
use Rattle.fort_base.specs.declared.ids.DeclId.{DeclId}
use Rattle.fort_base.specs.declared.ids.SetId.{SetId}
use Rattle.fort_base.specs.declared.ids.TypeId.{TypeId}
use Rattle.fort_base.specs.declared.ty.Ty.{Ty}
use Rattle.fort_core.specs.declared.primitive.Primitive.{Primitive}
use Rattle.fort_core.specs.declared.program.BuiltIn.{BuiltIn}
use Rattle.fort_core.specs.declared.program.CoreBody.TheVariants as body
use Rattle.fort_core.specs.declared.program.CoreDecl.{CoreDecl}
use Rattle.fort_core.specs.declared.program.CoreSet.{CoreSet}
use Rattle.fort_core.specs.declared.program.CoreShape.{CoreShape}
use Rattle.fort_core.specs.declared.program.Program.{Program}
use Rattle.fort_core.specs.declared.term.Term.TheVariants.{outs-Call}
use Rattle.fort_types.specs.Relation.{relation}
use Rattle.fort_types.specs.Types as types
use Rattle.fort_types.specs.Types.{IsNumbered, Solid}
use Rattle.fort_machine.specs.Calls.{IsApplicable, IsMoreSpecific}
use Rattle.fort_machine.specs.Types.{all_below}
use Rattle.fort_machine.specs.Written.{WrittenProgram, IsDeclared}
use Rattle.fort_lex_token.specs.declared.token.Tokens.{Tokens}
use Rattle.fort_tree.specs.declared.declarations.Component.{Component}
use Rattle.fort_tree.specs.declared.declarations.Declaration.TheVariants as declaration
use Rattle.fort_tree.specs.declared.grouped.Groups.{Groups}
use Rattle.fort_types_builtin.specs.declared.types.TheConstants.{BUILT_IN, TYPE_COUNT}
use Rattle.fort_types_builtin.specs.Types.{types as table_of_types}
use Rattle.fort_hier.specs.declared.accepted.Hierarchy.{Hierarchy}
use Rattle.fort_hier.specs.Hierarchies.{declares}
use Rattle.fort_types_sets.specs.declared.member.Member.{Member}
use Rattle.fort_types_sets.specs.declared.member.MemberSet.{MemberSet}
use Rattle.fort_types_sets.specs.declared.member.Members.{Members}
use Rattle.fort_types_sets.specs.Applicable as members
use Rattle.fort_types_sets.specs.Rules.{StandsAt, IsWellMade}
use Rattle.fort_member_fields.proofs.Items.{one}
use Rattle.fort_member.proofs.FirstLaws.{built_ins_first}
use Rattle.fort_member.proofs.WellMadeLaws.{sets_well_made}
use Rattle.fort_typing_law_ready.specs.Fit.{known_of}
use Rattle.fort_typing_law_ready.proofs.AcceptedLaws.{keepers_accepted}
use Rattle.fort_typing_known.specs.Sets.{width_of, is_set_of, first_set, set_of}
use Rattle.fort_typing_law_rules.specs.Deciding.{IsAccepted}
use Rattle.fort_form_typed.specs.declared.component.Typed.{Typed}
use Rattle.fort_sound_typed.specs.Envs.{none}
use Rattle.fort_sound_typed.specs.Typing.{Below, is_same, unit_type, ShapeOf, Makes, Called, Has, parts0, vs0}
use Rattle.fort_sound_typed.specs.Sound.{opening, Under, NewFits, Sound}
use Rattle.fort_sound_typed.specs.Goes.{Complete}
use Rattle.fort_sound_typed.specs.Signatures.{parameters_of, result_of}
use Rattle.fort_sound_typed.proofs.OneSided.{lists}
use Rattle.fort_sound_typed.proofs.Rules.{has_at}
use Rattle.fort_sound_defined.specs.Sets.{SetsKeep, ValuesAreLeaves}
use Rattle.fort_elab_meaning.specs.Programs.{function_set}
use Rattle.fort_elab_law_matched.proofs.Types.{type_number as number_at}
use Rattle.fort_sound_program.specs.Checked.{Checked}
use Rattle.fort_sound_program.specs.Laws.{BodiesHave}
use Rattle.fort_sound_program.proofs.BuiltIns.{is_leaf, only_leaf, unmade, fieldless, unthrown, failure_single, failure_has}
use Rattle.fort_sound_program.proofs.BuiltInSets.{and_both}
use Rattle.fort_sound_program.proofs.Calls.{called}
use Rattle.fort_sound_program.proofs.Constructors.{MadeBy, MakesIt, all_made, constructor_kind, new_fits}
use Rattle.fort_sound_program.proofs.Declared.{table, Of, member_of, set_at, Both, both, comes_from}
use Rattle.fort_sound_program.proofs.Entries.{of_members}
use Rattle.fort_sound_program.proofs.FieldsBelow.{fields_below}
use Rattle.fort_sound_program.proofs.Objects.{object_true}
use Rattle.fort_sound_program.proofs.Order.{type_number, sound, rows_through, only_itself, below, computed, told_above}
use Rattle.fort_sound_program.proofs.Parameters.{component_solid}
use Rattle.fort_sound_program.proofs.Placed.{Placed}
use Rattle.fort_sound_program.proofs.Primitives.{primitive_signed}
use Rattle.fort_sound_program.proofs.Results.{results_below}
use Rattle.fort_sound_program.proofs.Shapes.{Told, built_in, own, made_leaf, makes_object, rows_long}
use Rattle.fort_sound_program.proofs.Store.{told_at, shape_constant, store_opens}

-- the first set that meets a test meets it
meets_step : (test : MemberSet → Bool) (x : MemberSet) (ss : List MemberSet) (s : MemberSet)
    (b : Bool) → test x ≡ b → (slice_get ss (first_set test ss) ≡ Some s → test s ≡ true)
    → slice_get (x ∷ ss) (cond b 0 (suc (first_set test ss))) ≡ Some s → test s ≡ true
meets_step test x ss s true q rest e = let same : x ≡ s = cc in ap test (sym same) ∙ q
meets_step test x ss s false q rest e = rest e

first_meets : (test : MemberSet → Bool) (ss : List MemberSet) (s : MemberSet)
    → slice_get ss (first_set test ss) ≡ Some s → test s ≡ true
first_meets test [] s e = absurd cc
first_meets test (x ∷ ss) s e = meets_step test x ss s (test x) refl (first_meets test ss s) e

no_more : (ts : List Ty) → length ts ≡ 0 → ts ≡ []
no_more [] e = refl
no_more (t ∷ ts) e = absurd (omega (arith, e))

none_wide : (ms : List Member) (i : ℕ) (d : Member) → slice_get ms i ≡ Some d → width_of ms ≡ 0
    → ((i j : ℕ) (x y : Member) → slice_get ms i ≡ Some x → slice_get ms j ≡ Some y
    → length x.parameters ≡ length y.parameters) → d.parameters ≡ []
none_wide [] i d e w all = absurd cc
none_wide (x ∷ ms) i d e w all = no_more d.parameters (all i 0 d x e refl ∙ w)

module _ (tokens : Tokens) (c : Component) (h : Hierarchy) (m : Members) (groups : Groups)
    (typed : Typed) (p : Program) (ok : Checked tokens c h m groups typed p) where
  accepted : IsAccepted (known_of c h m)
  accepted = keepers_accepted c h m ok.hierarchy ok.members ok.ruled

  pub made_well : (n : ℕ) (s : MemberSet) → slice_get m.sets n ≡ Some s → IsWellMade (declares c) s
  made_well n s e = sets_well_made c h ok.hierarchy m ok.members n s e

  -- ---- types

  leaf : (i j : TypeId) (s : CoreShape) → ShapeOf p j s → Makes s.kind → Under p i j → i ≡ j
  leaf i j s e made (inl q) = q
  leaf i j s e made (inr set) =
      ap type_number
      (only_itself c h ok.hierarchy p ok.program.types i.0 j.0
      (made_leaf c m ok.members c.texts typed.initials j.0 s
      (told_at tokens c h m groups typed p ok j.0 s e) made) set)

  -- ---- results

  more_out : (s : MemberSet) → IsWellMade (declares c) s → (i j : ℕ) (x y : Member) → StandsAt s i x
      → StandsAt s j y → IsTrue (all_below p x.parameters y.parameters)
      → members.IsMoreSpecific (declares c) x y
  more_out s made i j x y st tu b =
      (lists (relation p.types.below) true (types.Below (declares c)) x.parameters y.parameters
      (λ k t u e f. (
        told_above c h ok.hierarchy p ok.program.types t u (made.parameters j k y u tu f),
        computed c h ok.hierarchy p ok.program.types t u (made.parameters i k x t st e),
      ))).0 b

  results_by : (k : ℕ) (core : CoreSet)
      (w : Placed (table h m c.texts typed p ok.program) 0 m.sets k core) (d e : DeclId)
      (decl other : CoreDecl) → Both h m c.texts typed p ok.program k core w d decl
      → Both h m c.texts typed p ok.program k core w e other
      → IsMoreSpecific p decl other → Below p decl.result other.result
  results_by k core w d e decl other x y more =
      let made = made_well k w.set w.is_set in
      let below_it =
      results_below (declares c) (sound c h ok.hierarchy p ok.program.types) w.set made
      (ok.ruled k w.set w.is_set)
      (of_members c m ok.members (λ
      (z : Member). AllByRecursion Solid z.parameters) (component_solid c) k w.set w.is_set)
      x.at y.at x.member y.member x.stands y.stands
      (more_out w.set made x.at y.at x.member y.member x.stands y.stands
      (subst (λ ts. IsTrue (all_below p ts y.member.parameters)) x.became_it.parameters
      (subst (λ us. IsTrue (all_below p decl.parameters us)) y.became_it.parameters more)))
      in
      subst (λ T. Below p decl.result T) (sym y.became_it.result)
      (subst (λ T. Below p T y.member.result) (sym x.became_it.result)
      (below c h ok.hierarchy p ok.program.types x.member.result y.member.result
      (made.results x.at x.member x.stands) below_it))

  results : (set : SetId) (ts us : List Ty) (d e : DeclId) (decl other : CoreDecl)
      → IsApplicable p set ts d decl → IsApplicable p set us e other → IsMoreSpecific p decl other
      → Below p decl.result other.result
  results set ts us d e decl other a b more =
      let w = set_at h m c.texts typed p ok.program set a.members a.is_set in
      let same : b.members ≡ a.members = one p.sets set.0 a.members b.members a.is_set b.is_set in
      results_by set.0 a.members w d e decl other
      (both h m c.texts typed p ok.program set.0 a.members w d decl a.is_member a.is_decl)
      (both h m c.texts typed p ok.program set.0 a.members w e other (subst (λ
      (z : CoreSet). Contains z.decls e) same b.is_member) b.is_decl) more

  -- ---- declarations

  primitives : (d : DeclId) (decl : CoreDecl) (f : Primitive) → slice_get p.decls d.0 ≡ Some decl
      → decl.body ≡ body.Primitive f
      → (decl.parameters ≡ parameters_of p f) × (decl.result ≡ result_of p f)
  primitives d decl f e q =
      let o = member_of h m c.texts typed p ok.program d decl e in
      primitive_signed p ok.program.built_in (table h m c.texts typed p ok.program) o.set
      (built_ins_first c m ok.members o.number o.set o.is_set) o.at o.member decl f o.stands
      o.became_it q

  made_by : (decl : CoreDecl) (id : TypeId) → (o : Of h m c.texts typed p ok.program decl)
      → decl.body ≡ body.New id → MadeBy c o.member id
  made_by decl id o q =
      of_members c m ok.members (MakesIt c) (all_made c) o.number o.set o.is_set o.at o.member
      o.stands id
      (constructor_kind (table h m c.texts typed p ok.program) o.set o.at o.member o.member.kind id
      (o.became_it.body_is ∙ ap Some q))

  makes : (id : TypeId) (k : ℕ) → id.0 ≡ TYPE_COUNT + k → slice_get m.objects id.0 ≡ Some true
      → (s : CoreShape) → Told c m ok.members c.texts typed.initials id.0 s → Makes s.kind
  makes id k q object s (built_in row b e r) =
      let l = slice_get_within table_of_types id.0 row e in let n = rows_long
      in absurd (omega (arith, l, n, q))
  makes id k q object s (own j r o fs e g w) =
      let yes : o ≡ true = one m.objects id.0 true o object e in
      subst (λ (z : CoreShape). Makes z.kind) (sym w.is_shape)
      (makes_object m.sets (type_number id.0) w.base o yes)

  constructors : WrittenProgram p → (d : DeclId) (decl : CoreDecl) (id : TypeId)
      → slice_get p.decls d.0 ≡ Some decl → decl.body ≡ body.New id → NewFits p id decl
  constructors written d decl id e q =
      let o = member_of h m c.texts typed p ok.program d decl e in
      let b = made_by decl id o q in
      let number_is : id.0 ≡ TYPE_COUNT + b.k =
      ap (λ (z : TypeId). z.0) b.type_is
      ∙ number_at c h ok.hierarchy b.k (declaration.Object b.object) b.stands in
      let object = object_true c m ok.members id.0 b.k number_is b.object b.stands in
      let told_it : (s : CoreShape) → slice_get p.shapes id.0 ≡ Some s
      → Told c m ok.members c.texts typed.initials id.0 s =
      told_at tokens c h m groups typed p ok id.0 in
      new_fits p id decl (subst (IsDeclared p decl.parameters) q (written.declarations d decl e))
      (λ s f. makes id b.k number_is object s (told_it s f))
      (λ s f i g a v w. shape_constant tokens c h m groups typed p ok id.0 s (told_it s f)
      (makes id b.k number_is object s (told_it s f)) i g a v w) (o.became_it.result
      ∙ b.result_is)

  -- ---- `run`

  runs : Called p (function_set m (codes "run") 0) [] unit_type
  unfolding set_of
  runs =
      let r = ok.types.runs in
      let test = is_set_of (codes "run") false 0 in
      let meets = first_meets test m.sets r.set r.is in
      let width =
      eqb-true (width_of r.set.members) 0
      (and_both (bytes_eq r.set.name (codes "run")
      && beq r.set.dotted false) (nat_eq (width_of r.set.members) 0) meets).1 in
      let made = made_well (first_set test m.sets) r.set r.is in
      called tokens c h m groups typed p ok (function_set m (codes "run") 0) r.set r.at
      r.declaration [] unit_type r.is r.stands
      (none_wide r.set.members r.at r.declaration r.stands width
      (λ i j x y e f. made.width i j x y e f)) r.result tt

  first : Has p (opening p) none p.first unit_type
  first = subst (λ t. Has p (opening p) none t unit_type) (sym ok.program.first)
      (has_at p (opening p) (outs-Call (function_set m (codes "run") 0) []) (record {
        own = unit_type;
        qs = [];
        ws = [];
        fits = ([], refl, runs);
        parts = parts0;
        values = vs0;
        below = is_same refl;
      }))

  -- ---- the program

  pub is_sound : WrittenProgram p → BodiesHave p → Sound p
  is_sound written bodies = record {
    through = rows_through c h ok.hierarchy p ok.program.types;
    leaf = leaf;
    fields = fields_below c h ok.hierarchy m ok.members p ok.program.types accepted.fields c.texts
        typed.initials ok.program.shapes;
    results = results;
    bodies = bodies;
    primitives = primitives;
    constructors = constructors written;
    opened = store_opens tokens c h m groups typed p ok;
    first = first;
    failures = failure_has tokens c h m groups typed p ok;
  }

  -- two built-in types differ
  apart : (f g : BuiltIn → TypeId) → ((f BUILT_IN).0 ≡ (g BUILT_IN).0 → ⊥)
      → f p.built_in ≢ g p.built_in
  apart f g n e =
      n (ap (λ (z : TypeId). z.0) (sym (ap f ok.program.built_in) ∙ e ∙ ap g ok.program.built_in))

  pub is_complete : WrittenProgram p → Complete p
  is_complete written = record {
    written = written;
    singles = failure_single tokens c h m groups typed p ok;
    only = only_leaf tokens c h m groups typed p ok;
    unmade = unmade tokens c h m groups typed p ok;
    fieldless = fieldless tokens c h m groups typed p ok;
    unthrown = unthrown tokens c h m groups typed p ok;
    small_large = apart (λ b. b.small) (λ b. b.large) (λ e. absurd (omega (arith, e)));
    small_text = apart (λ b. b.small) (λ b. b.text) (λ e. absurd (omega (arith, e)));
    small_truth = apart (λ b. b.small) (λ b. b.truth) (λ e. absurd (omega (arith, e)));
    small_range = apart (λ b. b.small) (λ b. b.range) (λ e. absurd (omega (arith, e)));
    truth_large = apart (λ b. b.truth) (λ b. b.large) (λ e. absurd (omega (arith, e)));
    truth_text = apart (λ b. b.truth) (λ b. b.text) (λ e. absurd (omega (arith, e)));
    truth_range = apart (λ b. b.truth) (λ b. b.range) (λ e. absurd (omega (arith, e)));
    range_large = apart (λ b. b.range) (λ b. b.large) (λ e. absurd (omega (arith, e)));
    range_text = apart (λ b. b.range) (λ b. b.text) (λ e. absurd (omega (arith, e)));
    large_text = apart (λ b. b.large) (λ b. b.text) (λ e. absurd (omega (arith, e)));
  }

  -- ---- dispatch

  pub values_are_leaves : ValuesAreLeaves (declares c) p
  values_are_leaves id (inl w) = is_leaf tokens c h m groups typed p ok id w
  values_are_leaves id (inr w) =
      made_leaf c m ok.members c.texts typed.initials id.0 w.0
      (told_at tokens c h m groups typed p ok id.0 w.0 w.1) w.2

  pub sets_keep : SetsKeep (declares c) p
  sets_keep set core e =
      let w = set_at h m c.texts typed p ok.program set core e in (
        w.set,
        made_well set.0 w.set w.is_set,
        ok.ruled set.0 w.set w.is_set,
        comes_from h m c.texts typed p ok.program set.0 core w,
      )
