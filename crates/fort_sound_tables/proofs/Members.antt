-- What a program's tables say one by one, from what single lookups say.
use Rattle.std.proofs.Common.{◌≡◌, ℕ, ◌+◌, ◌<◌, ◌≤◌, ◌==◌, true, false, List, [], ◌∷◌, length, Option, Some, None, refl, ap, sym, ◌∙◌, subst, ◌⊎◌, inl, inr, arith}
use Rattle.std.specs.Prelude.{slice_get, filter_map, option_and_then, pos}
use Rattle.std.specs.List.{AllByRecursion, cons_option}
use Rattle.std.proofs.lemmas.Bool.{cases_lt}
use Rattle.std.proofs.lemmas.Option.{slice_get_past}
use Rattle.fort_base.specs.declared.ids.DeclId.{DeclId}
use Rattle.fort_base.specs.declared.ids.SetId.{SetId}
use Rattle.fort_base.specs.declared.ids.TypeId.{TypeId}
use Rattle.fort_base.specs.declared.ids.Loc.{Loc}
use Rattle.fort_core.specs.declared.program.CoreDecl.{CoreDecl}
use Rattle.fort_core.specs.declared.program.CoreField.{CoreField}
use Rattle.fort_core.specs.declared.program.CoreKind.{CoreKind}
use Rattle.fort_core.specs.declared.program.CoreKind.TheVariants as kind
use Rattle.fort_core.specs.declared.program.CoreSet.{CoreSet}
use Rattle.fort_core.specs.declared.program.CoreShape.{CoreShape}
use Rattle.fort_core.specs.declared.program.Program.{Program}
use Rattle.fort_core.specs.declared.value.Value.{Value, Small, Object}
use Rattle.fort_machine.specs.Acts.{unit, object_of, single}
use Rattle.fort_machine.specs.Calls.{constants}
use Rattle.fort_machine.specs.Scopes.{is_among}
use Rattle.fort_threads.specs.Known as threads
use Rattle.fort_threads_law_servers.specs.Prelude.{Names}
use Rattle.fort_threads_law_tables.specs.Tabled.{HasOne, HasFields, IsField, HasConstant}
use Rattle.fort_threads_law_private.specs.Private.{no_values, one_more_value}
use Rattle.fort_sound_tables.specs.declared.numbers.Numbers.{Numbers}
use Rattle.fort_sound_tables.specs.Numbers.{known}
use Rattle.fort_sound_tables.specs.Leaves.{own_sets, known_decls, AllLeaveValues, LeavesValue, LeavesBody}
use Rattle.fort_sound_tables.specs.Threads.{LeavesField, LeavesMember, LeavesSet, LeavesShape}
use Rattle.fort_sound_tables.proofs.CallsRun.{same_decl}
use Rattle.fort_sound_tables.proofs.Lists.{one_of, some_is}

module _ (p : Program) (x : Numbers) where
  pub member_known : (d : DeclId) → is_among d.0 (known_decls x) ≡ true → LeavesMember p x d
  member_known d h c q =
      inl (one_of (λ (e : DeclId). e.0) same_decl d (threads.known (known x)) h)

  pub member_none : (d : DeclId) → slice_get p.decls d.0 ≡ None → LeavesMember p x d
  member_none d h c q = let z : None ≡ Some c = sym h ∙ q in absurd cc

  pub member_body : (d : DeclId) (found : CoreDecl) → slice_get p.decls d.0 ≡ Some found
      → LeavesBody p x found.body → LeavesMember p x d
  member_body d found h b c q =
      inr (subst (λ (e : CoreDecl). LeavesBody p x e.body) (some_is found c (sym h ∙ q)) b)

  pub set_own : (i : ℕ) → is_among i (own_sets x) ≡ true → LeavesSet p x i
  set_own i h e = let z : true ≡ false = sym h ∙ e in absurd cc

  pub set_none : (i : ℕ) → slice_get p.sets i ≡ None → LeavesSet p x i
  set_none i h e m q = let z : None ≡ Some m = sym h ∙ q in absurd cc

  pub set_members : (i : ℕ) (found : CoreSet) → slice_get p.sets i ≡ Some found
      → AllByRecursion (LeavesMember p x) found.decls → LeavesSet p x i
  set_members i found h a e m q =
      subst (λ (s : CoreSet). AllByRecursion (LeavesMember p x) s.decls)
      (some_is found m (sym h ∙ q)) a

  pub sets_past : (n : ℕ) → length p.sets ≤ n → ((k : ℕ) → k < n → LeavesSet p x k) → (k : ℕ)
      → LeavesSet p x k
  sets_past n l h k = go (cases_lt k n)
    where
      go : (k < n) ⊎ (n ≤ k) → LeavesSet p x k
      go (inl q) = h k q
      go (inr q) = set_none k (slice_get_past p.sets k (omega (arith, l, q)))

  pub shapes_more : (n : ℕ) → ((k : ℕ) → k < n → LeavesShape p x k) → LeavesShape p x n → (k : ℕ)
      → k < n + 1 → LeavesShape p x k
  shapes_more n h e k l = go (cases_lt k n)
    where
      go : (k < n) ⊎ (n ≤ k) → LeavesShape p x k
      go (inl q) = h k q
      go (inr q) =
          let w : n ≡ k = omega (arith, l, q) in subst (λ m. LeavesShape p x m) w e

  pub shape_none : (i : ℕ) → slice_get p.shapes i ≡ None → LeavesShape p x i
  shape_none i h s q = let z : None ≡ Some s = sym h ∙ q in absurd cc

  pub shapes_past : (n : ℕ) → length p.shapes ≤ n → ((k : ℕ) → k < n → LeavesShape p x k)
      → (k : ℕ) → LeavesShape p x k
  shapes_past n l h k = go (cases_lt k n)
    where
      go : (k < n) ⊎ (n ≤ k) → LeavesShape p x k
      go (inl q) = h k q
      go (inr q) = shape_none k (slice_get_past p.shapes k (omega (arith, l, q)))

  -- the constants of fields
  held : (fs : List CoreField) → AllByRecursion (LeavesField p x) fs
      → AllLeaveValues p x (filter_map (λ (f : CoreField). f.initial) fs)
  held [] h = no_values
  held (f ∷ fs) h = go f.initial (λ v e. h.0 v e) (held fs h.1)
    where
      go : (o : Option Value) → ((v : Value) → o ≡ Some v → LeavesValue p x v)
          → AllLeaveValues p x (filter_map (λ (f : CoreField). f.initial) fs)
          → AllLeaveValues p x (cons_option o (filter_map (λ (f : CoreField). f.initial) fs))
      go None k rest = rest
      go (Some v) k rest = one_more_value (k v refl) rest

  pub shape_by : (i : ℕ) (found : CoreShape) → slice_get p.shapes i ≡ Some found
      → AllByRecursion (LeavesField p x) found.fields
      → ((v : Value) → object_of (record { 0 = i }) found ≡ Some v → LeavesValue p x v)
      → LeavesShape p x i
  shape_by i found h a b s q =
      subst (λ (s : CoreShape). AllLeaveValues p x (constants s)
      × ((v : Value) → object_of (record { 0 = i }) s ≡ Some v → LeavesValue p x v))
      (some_is found s (sym h ∙ q)) (held found.fields a, b)

-- the only declaration of a set
pub one_by : (p : Program) (set : SetId) (d : DeclId) (members : CoreSet) (o : DeclId)
    → slice_get p.sets set.0 ≡ Some members → members.decls ≡ o ∷ [] → o ≡ d → (x : CoreDecl)
    → slice_get p.decls d.0 ≡ Some x → HasOne p set d x
one_by p set d members o e q w x k =
    record {
      is_set = e ∙ ap (λ ds. Some (made ds)) (q ∙ ap (λ (z : DeclId). z ∷ []) w);
      is_decl
          = k;
    }
  where
    made : List DeclId → CoreSet
    made ds = record { decls = ds }

-- the fields of `Thread'`
pub fields_by : (p : Program) (n : Names) (s : CoreShape) (a b c d : CoreField)
    → slice_get p.shapes n.thread.0 ≡ Some s → s.fields ≡ a ∷ b ∷ c ∷ d ∷ []
    → IsField a n.body → HasConstant b n.state (Small (pos 0)) → HasConstant c n.value unit
    → HasConstant d n.next unit
    → ((n.body.0 == n.state.0) ≡ false) × ((n.body.0 == n.value.0) ≡ false)
    × ((n.body.0 == n.next.0) ≡ false) × ((n.state.0 == n.value.0) ≡ false)
    × ((n.state.0 == n.next.0) ≡ false) × ((n.value.0 == n.next.0) ≡ false)
    → HasFields p n
fields_by p n s a b c d e q f g h i k = record {
  shape = s;
  is_shape = e;
  body = a;
  state = b;
  value = c;
  next = d;
  are_fields = q;
  is_body = f;
  is_state = g;
  is_value = h;
  is_next = i;
  apart = k;
}

-- the value of a single object's type
pub object_is : (id : TypeId) (s : CoreShape) (base : Loc) → s.kind ≡ kind.Single base
    → object_of id s ≡ Some (Object id base)
object_is id s base e = ap (λ (k : CoreKind). object_of id (made k)) e
  where
    made : CoreKind → CoreShape
    made k = record { kind = k; fields = s.fields }

pub single_by : (p : Program) (id : TypeId) (s : CoreShape) (base : Loc)
    → slice_get p.shapes id.0 ≡ Some s → s.kind ≡ kind.Single base
    → single p id ≡ Some (Object id base)
single_by p id s base e q = ap (option_and_then (object_of id)) e ∙ object_is id s base q
