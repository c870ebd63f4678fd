-- The worked program is accepted.
use Rattle.std.proofs.Common.{◌⊎◌, ◌≡◌, ◌≢◌, ℕ, ◌==◌, Bool, true, false, not, ◌&&◌, ◌||◌, if◌then◌else◌, List, [], ◌∷◌, ◌++◌, map, Option, Some, None, refl, ap, sym, ◌∙◌, subst, inl, inr, arith, IsTrue, ℤ, pos}
use Rattle.std.specs.Prelude.{slice_get, Contains, nat_lt}
use Rattle.std.specs.List.{list_any, concat}
use Rattle.std.specs.Int.{w32}
use Rattle.fort_base.specs.declared.ids.DeclId.{DeclId}
use Rattle.fort_base.specs.declared.ids.NameId.{NameId}
use Rattle.fort_base.specs.declared.ids.SetId.{SetId}
use Rattle.fort_base.specs.declared.ids.TypeId.{TypeId}
use Rattle.fort_base.specs.declared.ty.Ty.{Ty, out-Ty}
use Rattle.fort_base.specs.declared.ty.Ty.TheVariants.{Any, Named, outs-Named, outs-Any}
use Rattle.fort_base.specs.declared.ty.Ty.TheOpen.{Ty-F}
use Rattle.fort_core.specs.declared.form.Mode.TheVariants as mode
use Rattle.fort_core.specs.declared.primitive.Primitive.{Primitive}
use Rattle.fort_core.specs.declared.primitive.Primitive.TheVariants.{Println, AddSmall}
use Rattle.fort_core.specs.declared.program.CoreBody.TheVariants as body
use Rattle.fort_core.specs.declared.program.CoreDecl.{CoreDecl}
use Rattle.fort_core.specs.declared.program.CoreField.{CoreField}
use Rattle.fort_core.specs.declared.program.CoreKind.{CoreKind}
use Rattle.fort_core.specs.declared.program.CoreKind.TheVariants as kind
use Rattle.fort_core.specs.declared.program.CoreSet.{CoreSet}
use Rattle.fort_core.specs.declared.program.CoreShape.{CoreShape}
use Rattle.fort_core.specs.declared.term.Term.{Term, Call, Operator, ReadField, WriteField, Let, Then, Try, Atomic}
use Rattle.fort_core.specs.declared.term.Term as term
use Rattle.fort_core.specs.declared.term.Term.TheVariants.{Variable, outs-Variable, outs-Call, outs-Operator, outs-ReadField, outs-WriteField, outs-Let, outs-Then, outs-Try, outs-Atomic}
use Rattle.fort_core.specs.declared.value.Value.{Value, Small, Object}
use Rattle.fort_core.specs.declared.value.Value.TheVariants.{outs-Small, outs-Tuple, outs-Object}
use Rattle.fort_types.specs.Table.{is_set}
use Rattle.fort_machine.specs.Types.{below}
use Rattle.fort_machine.specs.Acts.{unit, single}
use Rattle.fort_machine.specs.Calls.{IsApplicable}
use Rattle.fort_machine.specs.Journals.{value_in}
use Rattle.fort_machine.specs.Scopes.{is_among}
use Rattle.fort_machine.specs.Runs.{location}
use Rattle.fort_machine.specs.Worked.{type, set, decl, println_decl}
use Rattle.fort_machine.specs.Written.{Constructs, end_of_terms, StandOnce, constants_of, functions_in_value, AllWrittenValues, end_of_values, first_value, WrittenProgram}
use Rattle.fort_machine_law_worked.specs.Overflow.{plus_decl, plain}
use Rattle.fort_machine_law_worked.proofs.WrittenForms.{plain_at, plain-Then, plain-Atomic, Plain, none, next, plain_unit, plain_number, plain-Value, plain-Call, plain-Operator, plain-Try, declared}
use Rattle.fort_sound_typed.specs.Envs.{Sig, Env, Part, bound, plains}
use Rattle.fort_sound_typed.specs.Envs as envs
use Rattle.fort_sound_typed.specs.Typing.{Below, is_same, is_told, unit_type, IsNumber, Makes, FieldOf, Has, parts0, parts1, HasV, vs0}
use Rattle.fort_sound_typed.specs.Signatures.{parameters_of, result_of}
use Rattle.fort_sound_typed.specs.Sound.{opening, typed_at, IsFailure, NewFits, StoreOk, Under, Sound}
use Rattle.fort_sound_typed.specs.Sound as sound
use Rattle.fort_sound_typed.specs.Goes.{IsBuiltIn, Complete}
use Rattle.fort_sound_typed.specs.Overloads.{KeepsRules}
use Rattle.fort_sound_typed.proofs.Computed.{told, told_out}
use Rattle.fort_sound_typed.proofs.Rules.{has_at, has_v_at, has_value}
use Rattle.fort_sound_typed.proofs.Laws.{no_run_is_stuck}
use Rattle.fort_sound_typed.proofs.Overloads.{rules_define}
use Rattle.fort_machine_law_worked.specs.Guarded.{rows, locations, holding, typed, single_at, count_name, number, count, counter, counter_type, shapes, figure, making, reading, adding, setting, printing, counting, counter_decl, guarded_body, run_decl, guarded, GuardedIsAccepted, GuardedGoesOn}
use Rattle.fort_machine_law_worked.proofs.Finding.{each, one_member, all_set, found, passes, then_holds, equal_is, through_rows}

-- types
named_told : (i j : TypeId) → is_set rows i.0 j.0 ≡ true
    → IsTrue (below guarded (Named i) (Named j))
named_told i j h =
    told_out rows (Named i) (Named j) true
    ∙ ap (λ z. told rows z true (out-Ty (Named j))) (outs-Named i)
    ∙ ap (λ z. told rows (Ty-F.Named i) true z) (outs-Named j) ∙ h

any_told : (i : TypeId) → IsTrue (below guarded (Named i) Any)
any_told i =
    told_out rows (Named i) Any true ∙ ap (λ z. told rows z true (out-Ty Any)) (outs-Named i)
    ∙ ap (λ z. told rows (Ty-F.Named i) true z) outs-Any

self : (A : Ty) → Below guarded A A
self A = is_same refl

abbrev small : Ty
small = Named (type 2)

-- values
unit_has : (S : Sig) → HasV guarded S unit unit_type
unit_has S =
    has_v_at guarded S (outs-Tuple [])
    (record {
      own = unit_type;
      qs = [];
      ws = [];
      fits = refl;
      parts = parts0;
      values = vs0;
      below = is_same refl;
    })

number_has : (S : Sig) (n : ℤ) → IsNumber w32 n → HasV guarded S (Small n) small
number_has S n w =
    has_v_at guarded S (outs-Small n)
    (record {
      own = small;
      qs = [];
      ws = [];
      fits = (refl, w);
      parts = parts0;
      values = vs0;
      below = is_same refl;
    })

-- declarations
sum_applies : IsApplicable guarded (set 2) (small ∷ small ∷ []) (decl 2) plus_decl
sum_applies = record {
  members = record { decls = decl 2 ∷ [] };
  is_set = refl;
  is_member = (0, omega arith, refl);
  is_decl = refl;
  applies =
      ap (λ b. b && (below guarded small small && true)) (named_told (type 2) (type 2) refl)
      ∙ ap (λ b. b && true) (named_told (type 2) (type 2) refl);
}

println_applies : IsApplicable guarded (set 1) (small ∷ []) (decl 1) println_decl
println_applies =
    record {
      members = record { decls = decl 1 ∷ [] };
      is_set = refl;
      is_member = (0, omega arith, refl);
      is_decl = refl;
      applies = ap (λ b. b && true) (any_told (type 2));
    }

run_applies : IsApplicable guarded (set 0) [] (decl 0) run_decl
run_applies =
    record {
      members = record { decls = decl 0 ∷ [] };
      is_set = refl;
      is_member = (0, omega arith, refl);
      is_decl = refl;
      applies = refl;
    }

counter_applies : IsApplicable guarded (set 3) (small ∷ []) (decl 3) counter_decl
counter_applies =
    record {
      members = record { decls = decl 3 ∷ [] };
      is_set = refl;
      is_member = (0, omega arith, refl);
      is_decl = refl;
      applies = ap (λ b. b && true) (named_told (type 2) (type 2) refl);
    }

abbrev count_field : FieldOf guarded (type 17) count_name small
count_field =
    record {
      shape = counter;
      place = 0;
      field = count;
      is_shape = refl;
      is_place = refl;
      is_field = refl;
      is_type = refl;
    }

-- the terms
fresh : (G : Env) → envs.Fresh [] G
fresh G z B e = refl

module _ (S : Sig) where
  abbrev G : Env
  G = envs.binds (envs.fixed_all ((0, counter_type) ∷ [])) envs.none

  figure_has : {G : Env} (n : ℕ) → IsNumber w32 (pos n) → Has guarded S G (figure n) small
  figure_has n w = has_value guarded S self (number_has S (pos n) w)

  making_has : Has guarded S envs.none making counter_type
  making_has = has_at guarded S (outs-Call (set 3) _) (record {
    own = counter_type;
    qs = plains (small ∷ []);
    ws = [];
    fits = (small ∷ [], refl, (decl 3, counter_decl, counter_applies, refl));
    parts = parts1 (fresh envs.none) (figure_has 2147483647 refl) parts0;
    values = vs0;
    below = is_same refl;
  })

  variable_has : Has guarded S G (Variable 0) counter_type
  variable_has =
      has_at guarded S (outs-Variable 0)
      (record {
        own = counter_type;
        qs = [];
        ws = [];
        fits = refl;
        parts = parts0;
        values = vs0;
        below = is_same refl;
      })

  reading_has : Has guarded S G reading small
  reading_has = has_at guarded S (outs-ReadField (Variable 0) count_name) (record {
    own = small;
    qs = envs.plain counter_type ∷ [];
    ws = [];
    fits = (type 17, count_field, refl);
    parts = parts1 (fresh G) variable_has parts0;
    values = vs0;
    below = is_same refl;
  })

  adding_has : Has guarded S G adding small
  adding_has = has_at guarded S (outs-Operator (set 2) _) (record {
    own = small;
    qs = plains (small ∷ small ∷ []);
    ws = [];
    fits = (small ∷ small ∷ [], refl, (decl 2, plus_decl, sum_applies, refl));
    parts = parts1 (fresh G) reading_has (parts1 (fresh G) (figure_has 1 refl) parts0);
    values = vs0;
    below = is_same refl;
  })

  writing_has : Has guarded S G (WriteField (Variable 0) count_name adding) unit_type
  writing_has = has_at guarded S (outs-WriteField (Variable 0) count_name adding) (record {
    own = unit_type;
    qs = envs.plain counter_type ∷ envs.plain small ∷ [];
    ws = [];
    fits = (type 17, small, count_field, tt, refl, refl);
    parts = parts1 (fresh G) variable_has (parts1 (fresh G) adding_has parts0);
    values = vs0;
    below = is_same refl;
  })

  setting_has : Has guarded S G setting unit_type
  setting_has =
      has_at guarded S (outs-Atomic mode.Atomic _)
      (record {
        own = unit_type;
        qs = envs.plain unit_type ∷ [];
        ws = [];
        fits = refl;
        parts = parts1 (fresh G) writing_has parts0;
        values = vs0;
        below = is_same refl;
      })

  printing_has : Has guarded S G printing unit_type
  printing_has = has_at guarded S (outs-Call (set 1) _) (record {
    own = unit_type;
    qs = plains (small ∷ []);
    ws = [];
    fits = (small ∷ [], refl, (decl 1, println_decl, println_applies, refl));
    parts = parts1 (fresh G) reading_has parts0;
    values = vs0;
    below = is_same refl;
  })

  both_has : Has guarded S G (Then setting printing) unit_type
  both_has = has_at guarded S (outs-Then setting printing) (record {
    own = unit_type;
    qs = envs.plain unit_type ∷ envs.plain unit_type ∷ [];
    ws = [];
    fits = (unit_type, refl);
    parts = parts1 (fresh G) setting_has (parts1 (fresh G) printing_has parts0);
    values = vs0;
    below = is_same refl;
  })

  counting_has : Has guarded S envs.none counting unit_type
  counting_has =
      has_at guarded S (outs-Let ((0, counter_type) ∷ []) making (Then setting printing)) (record {
        own = unit_type;
        qs = envs.plain counter_type ∷ record {
          vars = envs.fixed_all ((0, counter_type) ∷ []);
          type = unit_type;
        } ∷ [];
        ws = [];
        fits = (refl, (refl, tt));
        parts = parts1 (fresh envs.none) making_has (parts1 (λ z B e. absurd cc) both_has parts0);
        values = vs0;
        below = is_same refl;
      })

body_has : (S : Sig) → Has guarded S envs.none guarded_body unit_type
body_has S =
    has_at guarded S (outs-Try counting 1 ((term.Value unit, Named (type 7)) ∷ []) None) (record {
      own = unit_type;
      qs = envs.plain unit_type ∷ bound 1 (Named (type 7)) unit_type ∷ [];
      ws = [];
      fits = (unit_type, refl);
      parts = parts1 (fresh envs.none) (counting_has S)
          (parts1 (λ z B e. absurd cc) (has_value guarded S self (unit_has S)) parts0);
      values = vs0;
      below = is_same refl;
    })

first_has : (S : Sig) → Has guarded S envs.none (Call (set 0) []) unit_type
first_has S =
    has_at guarded S (outs-Call (set 0) [])
    (record {
      own = unit_type;
      qs = [];
      ws = [];
      fits = ([], refl, (decl 0, run_decl, run_applies, refl));
      parts = parts0;
      values = vs0;
      below = is_same refl;
    })

-- the opening store
module _ (S : Sig) where
  held : (ns : List ℕ) (l : ℕ) (F : Ty) → typed_at (map typed ns) l ≡ Some F
      → (v : Value) × (value_in (map holding ns) l ≡ Some v) × HasV guarded S v F
  held [] l F e = absurd cc
  held (n ∷ ns) l F e = go (n == l) e (λ q. held ns l F q)
    where
      go : (b : Bool) → (if b then Some unit_type else typed_at (map typed ns) l) ≡ Some F
          → (typed_at (map typed ns) l ≡ Some F
          → (v : Value) × (value_in (map holding ns) l ≡ Some v) × HasV guarded S v F)
          → (v : Value) × ((if b then Some unit else value_in (map holding ns) l) ≡ Some v)
          × HasV guarded S v F
      go true e k =
          let z : unit_type ≡ F = cc in (unit, refl, subst (HasV guarded S unit) z (unit_has S))
      go false e k = k e

covered : (ns : List ℕ) (l : ℕ) (v : Value) → value_in (map holding ns) l ≡ Some v
    → (F : Ty) × (typed_at (map typed ns) l ≡ Some F)
covered [] l v e = absurd cc
covered (n ∷ ns) l v e = go (n == l) e (λ q. covered ns l v q)
  where
    go : (b : Bool) → (if b then Some unit else value_in (map holding ns) l) ≡ Some v
        → (value_in (map holding ns) l ≡ Some v → (F : Ty) × (typed_at (map typed ns) l ≡ Some F))
        → (F : Ty) × ((if b then Some unit_type else typed_at (map typed ns) l) ≡ Some F)
    go true e k = (unit_type, refl)
    go false e k = k e

store_ok : StoreOk guarded (opening guarded) (value_in (map holding locations))
store_ok =
    record {
      opened = λ l F e. e;
      holds = λ l F e. held (opening guarded) locations l F e;
      covers = λ l v e. covered locations l v e;
    }

-- types above which nothing stands
abbrev is_low : CoreKind → Bool
is_low kind.Trait = false
is_low _ = true

abbrev low_of : Option CoreShape → Bool
low_of (Some s) = is_low s.kind
low_of None = false

abbrev alone_at : (ℕ × ℕ) → Bool
alone_at a = not (low_of (slice_get shapes a.1)) || a.0 == a.1

under_low : (i j : TypeId) → low_of (slice_get shapes j.0) ≡ true → Under guarded i j → i ≡ j
under_low i j h (inl e) = e
under_low i j h (inr e) =
    let a = passes alone_at (all_set 0 rows) refl (i.0, j.0) (found rows i.0 j.0 e) in
    ap (λ (n : ℕ). type n)
    (equal_is i.0 j.0 (then_holds (low_of (slice_get shapes j.0)) (i.0 == j.0) a h))

made_low : (s : CoreShape) → Makes s.kind → (o : Option CoreShape) → o ≡ Some s → low_of o ≡ true
made_low s m None e = absurd cc
made_low s m (Some r) e =
    let z : r ≡ s = cc in ap (λ (x : CoreShape). is_low x.kind) z ∙ by (s.kind) m
  where
    by : (k : CoreKind) → Makes k → is_low k ≡ true
    by kind.Trait m = absurd m
    by kind.Leaf m = refl
    by kind.Object m = refl
    by (kind.Single base) m = refl

-- only `Counter` has a field
abbrev IsBare : CoreShape → Type 0
IsBare s = (s.fields ≡ []) ⊎ (s ≡ counter)

has_counter : (id : TypeId) (f : NameId) (A : Ty) (i : FieldOf guarded id f A) → i.shape ≡ counter
has_counter id f A i =
    go (each IsBare shapes (
      inl refl,
      (
        inl refl,
        (
          inl refl,
          (
            inl refl,
            (
              inl refl,
              (
                inl refl,
                (
                  inl refl,
                  (
                    inl refl,
                    (
                      inl refl,
                      (
                        inl refl,
                        (
                          inl refl,
                          (
                            inl refl,
                            (inl refl, (inl refl, (inl refl, (inl refl, (inl refl, (inr refl, tt)))))),
                          ),
                        ),
                      ),
                    ),
                  ),
                ),
              ),
            ),
          ),
        ),
      ),
    ) id.0
    i.shape i.is_shape)
  where
    go : IsBare i.shape → i.shape ≡ counter
    go (inl none_of) =
        let z : slice_get [] i.place ≡ Some i.field =
        ap (λ (fs : List CoreField). slice_get fs i.place) (sym none_of) ∙ i.is_field in absurd cc
    go (inr e) = e

field_low : (id : TypeId) (f : NameId) (A : Ty) → FieldOf guarded id f A
    → low_of (slice_get shapes id.0) ≡ true
field_low id f A i =
    ap low_of i.is_shape ∙ ap (λ (s : CoreShape). is_low s.kind) (has_counter id f A i)

-- each set has one declaration
abbrev IsAlone : CoreSet → Type 0
IsAlone s = (d : DeclId) × (s.decls ≡ d ∷ [])

alone : (n : SetId) (members : CoreSet) (d e : DeclId) → slice_get guarded.sets n.0 ≡ Some members
    → Contains members.decls d → Contains members.decls e → d ≡ e
alone n members d e q c b =
    let a = each IsAlone guarded.sets (
      (decl 0, refl),
      ((decl 1, refl), ((decl 2, refl), ((decl 3, refl), tt))),
    ) n.0 members q in
    sym (one_member a.0 d (subst (λ ds. Contains ds d) a.1 c))
    ∙ one_member a.0 e (subst (λ ds. Contains ds e) a.1 b)

one_decl : (n : SetId) (ts us : List Ty) (d e : DeclId) (x y : CoreDecl)
    → IsApplicable guarded n ts d x → IsApplicable guarded n us e y → (d ≡ e) × (x ≡ y)
one_decl n ts us d e x y a b =
    let z : Some a.members ≡ Some b.members = sym a.is_set ∙ b.is_set in
    let m : a.members ≡ b.members = cc in
    let q = alone n b.members d e b.is_set (subst (λ
    (s : CoreSet). Contains s.decls d) m a.is_member) b.is_member in
    let w : Some x ≡ Some y =
    sym a.is_decl ∙ ap (λ (i : DeclId). slice_get guarded.decls i.0) q ∙ b.is_decl in
    let v : x ≡ y = cc in (q, v)

concrete : (d : DeclId) (x : CoreDecl) → slice_get guarded.decls d.0 ≡ Some x
    → x.body ≢ body.Abstract
concrete d x e =
    each (λ (c : CoreDecl). c.body ≢ body.Abstract) guarded.decls (
      (λ q. cc),
      ((λ q. cc), ((λ q. cc), ((λ q. cc), tt))),
    ) d.0 x e

keeps_rules : KeepsRules guarded
keeps_rules n ts d x vs a = record {
  number = d;
  decl = x;
  most_specific =
      record {
        applicable = a;
        over_others = λ e other b q. absurd (q (one_decl n ts ts e d other x b a).0);
      };
  no_other = λ e other m. (one_decl n ts ts e d other x m.applicable a).0;
  concrete = concrete d x a.is_decl;
}

-- the exceptions
module _ (P : TypeId → Type 0) where
  by_failure : P (type 7) → P (type 8) → P (type 9) → P (type 10) → P (type 11) → P (type 14)
      → P (type 15) → P (type 16) → (id : TypeId) → IsFailure guarded id → P id
  by_failure a b c d e f g h id (inl q) = subst P (sym q) a
  by_failure a b c d e f g h id (inr (inl q)) = subst P (sym q) b
  by_failure a b c d e f g h id (inr (inr (inl q))) = subst P (sym q) c
  by_failure a b c d e f g h id (inr (inr (inr (inl q)))) = subst P (sym q) d
  by_failure a b c d e f g h id (inr (inr (inr (inr (inl q))))) = subst P (sym q) e
  by_failure a b c d e f g h id (inr (inr (inr (inr (inr (inl q)))))) = subst P (sym q) f
  by_failure a b c d e f g h id (inr (inr (inr (inr (inr (inr (inl q))))))) = subst P (sym q) g
  by_failure a b c d e f g h id (inr (inr (inr (inr (inr (inr (inr q))))))) = subst P (sym q) h

  by_leaf : P (type 2) → P (type 3) → P (type 4) → P (type 5) → P (type 6) → (id : TypeId)
      → IsBuiltIn guarded id → P id
  by_leaf a b c d e id (inl q) = subst P (sym q) a
  by_leaf a b c d e id (inr (inl q)) = subst P (sym q) b
  by_leaf a b c d e id (inr (inr (inl q))) = subst P (sym q) c
  by_leaf a b c d e id (inr (inr (inr (inl q)))) = subst P (sym q) d
  by_leaf a b c d e id (inr (inr (inr (inr q)))) = subst P (sym q) e

abbrev Thrown : TypeId → Type 0
Thrown id = (v : Value) → single guarded id ≡ Some v
    → HasV guarded (opening guarded) v (Named (type 1))

thrown : (n m : ℕ) → slice_get shapes n ≡ Some (single_at m)
    → single guarded (type n) ≡ Some (Object (type n) (location m)) → is_set rows n 1 ≡ true
    → Thrown (type n)
thrown n m e q r v w =
    let z : Some (Object (type n) (location m)) ≡ Some v = sym q ∙ w in
    let y : Object (type n) (location m) ≡ v = cc in
    subst (λ u. HasV guarded (opening guarded) u (Named (type 1))) y
    (has_v_at guarded (opening guarded) (outs-Object (type n) (location m)) (record {
      own = Named (type n);
      qs = [];
      ws = [];
      fits = (
        record {
          shape = single_at m;
          is_shape = e;
          is_made = tt;
          located = λ i c x. absurd cc;
        },
        refl,
      );
      parts = parts0;
      values = vs0;
      below = is_told (named_told (type n) (type 1) r);
    }))

failures : (id : TypeId) (v : Value) → IsFailure guarded id → single guarded id ≡ Some v
    → HasV guarded (opening guarded) v (Named (type 1))
failures id v f =
    by_failure Thrown (thrown 7 0 refl refl refl) (thrown 8 1 refl refl refl)
    (thrown 9 2 refl refl refl) (thrown 10 3 refl refl refl) (thrown 11 4 refl refl refl)
    (thrown 14 7 refl refl refl) (thrown 15 8 refl refl refl) (thrown 16 9 refl refl refl) id f v

abbrev HasSingle : TypeId → Type 0
HasSingle id = (v : Value) × (single guarded id ≡ Some v)

singles : (id : TypeId) → IsFailure guarded id → HasSingle id
singles =
    by_failure HasSingle (_, refl) (_, refl) (_, refl) (_, refl) (_, refl) (_, refl) (_, refl) (
      _,
      refl,
    )

-- the declarations
abbrev BodyHas : CoreDecl → Type 0
BodyHas c = (t : Term) → c.body ≡ body.Plain t
    → Has guarded (opening guarded) (envs.binds (sound.numbered 0 c.parameters) envs.none) t
    c.result

bodies : (d : DeclId) (c : CoreDecl) (t : Term) → slice_get guarded.decls d.0 ≡ Some c
    → c.body ≡ body.Plain t
    → Has guarded (opening guarded) (envs.binds (sound.numbered 0 c.parameters) envs.none) t
    c.result
bodies d c t e q = each BodyHas guarded.decls (
  (λ t q. let z : guarded_body ≡ t = cc
      in subst (λ u. Has guarded (opening guarded) envs.none u unit_type) z
      (body_has (opening guarded))),
  ((λ t q. absurd cc), ((λ t q. absurd cc), ((λ t q. absurd cc), tt))),
) d.0 c e t q

abbrev HasSignature : CoreDecl → Type 0
HasSignature c = (f : Primitive) → c.body ≡ body.Primitive f
    → (c.parameters ≡ parameters_of guarded f) × (c.result ≡ result_of guarded f)

primitives : (d : DeclId) (c : CoreDecl) (f : Primitive) → slice_get guarded.decls d.0 ≡ Some c
    → c.body ≡ body.Primitive f
    → (c.parameters ≡ parameters_of guarded f) × (c.result ≡ result_of guarded f)
primitives d c f e q = each HasSignature guarded.decls (
  (λ f q. absurd cc),
  (
    (λ f q. let z : Println ≡ f = cc
        in subst (λ g. (println_decl.parameters ≡ parameters_of guarded g)
        × (println_decl.result ≡ result_of guarded g)) z (refl, refl)),
    (
      (λ f q. let z : AddSmall ≡ f = cc
          in subst (λ g. (plus_decl.parameters ≡ parameters_of guarded g)
          × (plus_decl.result ≡ result_of guarded g)) z (refl, refl)),
      ((λ f q. absurd cc), tt),
    ),
  ),
) d.0 c e f q

abbrev Makers : CoreDecl → Type 0
Makers c = (id : TypeId) → c.body ≡ body.New id → NewFits guarded id c

counter_made : NewFits guarded (type 17) counter_decl
counter_made =
    record {
      shape = counter;
      is_shape = refl;
      is_made = tt;
      types = [];
      constants_have = vs0;
      fields = refl;
      result = is_same refl;
    }

constructors : (d : DeclId) (c : CoreDecl) (id : TypeId) → slice_get guarded.decls d.0 ≡ Some c
    → c.body ≡ body.New id → NewFits guarded id c
constructors d c id e q = each Makers guarded.decls (
  (λ id q. absurd cc),
  (
    (λ id q. absurd cc),
    (
      (λ id q. absurd cc),
      (
        (λ id q. let z : type 17 ≡ id = cc
            in subst (λ (i : TypeId). NewFits guarded i counter_decl) z counter_made),
        tt,
      ),
    ),
  ),
) d.0 c e id q

guarded_is_sound : Sound guarded
guarded_is_sound = record {
  through = through_rows rows refl;
  leaf = λ i j s e m h. under_low i j (made_low s m (slice_get shapes j.0) e) h;
  fields = λ i j f A s x e m h. (
    A,
    subst (λ
        (t : TypeId). FieldOf guarded t f A) (sym (under_low i j (field_low j f A x) h)) x,
    is_same refl,
  );
  results =
      λ n ts us d e x y a b h. subst (λ
      (c : CoreDecl). Below guarded x.result c.result) (one_decl n ts us d e x y a b).1
      (is_same refl);
  bodies = bodies;
  primitives = primitives;
  constructors = constructors;
  opened = store_ok;
  first = first_has (opening guarded);
  failures = failures;
}

-- as it is written
figure_is : (n : ℕ) → Plain (figure n) []
figure_is n = plain-Value _ (plain_number (pos n))

variable_is : Plain (Variable 0) []
variable_is =
    plain_at (Variable 0) _ [] (outs-Variable 0)
    (record { before_runs = tt; no_value = tt; unnested = (tt, refl) }) end_of_terms end_of_values
    refl refl

reading_is : Plain reading []
reading_is = let ps = next variable_is none in
    plain_at reading _ [] (outs-ReadField (Variable 0) count_name)
    (record { before_runs = tt; no_value = tt; unnested = (tt, refl) }) ps.are_written
    end_of_values (ap concat ps.binders) ps.functions

adding_is : Plain adding []
adding_is = plain-Operator (set 2) _ (next reading_is (next (figure_is 1) none))

writing_is : Plain (WriteField (Variable 0) count_name adding) []
writing_is = let ps = next variable_is (next adding_is none) in
    plain_at _ _ [] (outs-WriteField (Variable 0) count_name adding)
    (record { before_runs = tt; no_value = tt; unnested = (tt, refl) }) ps.are_written
    end_of_values (ap concat ps.binders) ps.functions

both_is : Plain (Then setting printing) []
both_is =
    plain-Then setting printing (plain-Atomic mode.Atomic _ writing_is)
    (plain-Call (set 1) _ (next reading_is none))

counting_is : Plain counting (0 ∷ [])
counting_is =
    let ps = next (plain-Call (set 3) _ (next (figure_is 2147483647) none)) (next both_is none)
    in let bs = next both_is none in
    plain_at counting _ (0 ∷ []) (outs-Let ((0, counter_type) ∷ []) making (Then setting printing))
    (record {
      before_runs = tt;
      no_value = tt;
      unnested =
          ((refl, tt), ap (λ zs. list_any (λ n. is_among n zs) (0 ∷ [])) (ap concat bs.binders));
    })
    ps.are_written end_of_values (ap (λ zs. 0 ∷ concat zs) ps.binders) ps.functions

body_is : Plain guarded_body (1 ∷ 0 ∷ [])
body_is =
    plain-Try counting 1 (term.Value unit) (Named (type 7)) counting_is
    (plain-Value unit plain_unit) refl

counter_is : Constructs guarded (type 17) (number ∷ [])
counter_is =
    record {
      shape = counter;
      is_shape = refl;
      awaited = count ∷ [];
      constant = [];
      are_fields = refl;
      have_none = (refl, tt);
      have_constants = tt;
      are_parameters = refl;
    }

units_written : (ns : List ℕ) → AllWrittenValues (map (λ (n : ℕ). unit) ns)
units_written [] = end_of_values
units_written (n ∷ ns) = first_value plain_unit.is_written (units_written ns)

ten_written : AllWrittenValues (constants_of guarded)
ten_written = units_written locations

no_functions : concat (map functions_in_value (constants_of guarded)) ≡ []
no_functions = go locations
  where
    go : (ns : List ℕ) → concat (map functions_in_value (map (λ (n : ℕ). unit) ns)) ≡ []
    go [] = refl
    go (n ∷ ns) =
        ap (λ z. z ++ concat (map functions_in_value (map (λ (n : ℕ). unit) ns)))
        plain_unit.functions ∙ go ns

guarded_is_written : WrittenProgram guarded
guarded_is_written =
    let ps = next (plain-Call (set 0) [] none) (next body_is none) in
    record {
      terms = ps.are_written;
      values = ten_written;
      numbers =
          subst StandOnce
          (sym (ap (λ z. z ++ concat (map functions_in_value (constants_of guarded))) ps.functions
          ∙ no_functions)) tt;
      declarations =
          λ d c e. declared guarded guarded.decls (
            ap (list_any (λ n. nat_lt n 0)) body_is.binders,
            (tt, (tt, (counter_is, tt))),
          ) d.0 c e;
    }

-- and complete
abbrev IsLeaf : TypeId → Type 0
IsLeaf b = slice_get shapes b.0 ≡ Some (plain kind.Leaf)

leaf_shape : (b : TypeId) → IsBuiltIn guarded b → IsLeaf b
leaf_shape = by_leaf IsLeaf refl refl refl refl refl

differ : (n m : ℕ) → (n ≡ m → ⊥) → type n ≢ type m
differ n m h e = h (ap (λ (t : TypeId). t.0) e)

-- no leaf is an exception
abbrev is_leaf : CoreKind → Bool
is_leaf kind.Leaf = true
is_leaf _ = false

abbrev leaf_there : Option CoreShape → Bool
leaf_there (Some s) = is_leaf s.kind
leaf_there None = false

abbrev unthrown_at : (ℕ × ℕ) → Bool
unthrown_at a = not (leaf_there (slice_get shapes a.0)) || not (a.1 == 1)

unthrown : (b : TypeId) → IsBuiltIn guarded b → Under guarded b guarded.built_in.exception → ⊥
unthrown b h (inl e) =
    let z : Some (plain kind.Leaf) ≡ Some (plain kind.Trait) =
    sym (leaf_shape b h) ∙ ap (λ (t : TypeId). slice_get shapes t.0) e in
    absurd (let k : is_leaf kind.Leaf ≡ is_leaf kind.Trait = ap leaf_there z
    in let q : true ≡ false = k in cc)
unthrown b h (inr e) =
    let a = passes unthrown_at (all_set 0 rows) refl (b.0, 1) (found rows b.0 1 e) in
    absurd (let q : false ≡ true =
    then_holds (leaf_there (slice_get shapes b.0)) false a (ap leaf_there (leaf_shape b h))
    in cc)

guarded_is_complete : Complete guarded
guarded_is_complete = record {
  written = guarded_is_written;
  singles = singles;
  only = λ b i h u. under_low i b (ap low_of (leaf_shape b h)) u;
  unmade = λ b s h e m. let z : Some (plain kind.Leaf) ≡ Some s = sym (leaf_shape b h) ∙ e
      in let y : plain kind.Leaf ≡ s = cc in subst (λ (x : CoreShape). Makes x.kind) (sym y) m;
  fieldless = λ b i f A h u x.
      let e = under_low b i (field_low i f A x) u in
      let z : Some (plain kind.Leaf) ≡ Some counter =
      sym (leaf_shape b h) ∙ ap (λ
      (t : TypeId). slice_get shapes t.0) e ∙ x.is_shape ∙ ap Some (has_counter i f A x) in
      let y : plain kind.Leaf ≡ counter = cc in
      let k : kind.Leaf ≡ kind.Object = ap (λ (s : CoreShape). s.kind) y in cc;
  unthrown = unthrown;
  small_large = differ 2 3 (λ e. omega (arith, e));
  small_text = differ 2 4 (λ e. omega (arith, e));
  small_truth = differ 2 5 (λ e. omega (arith, e));
  small_range = differ 2 6 (λ e. omega (arith, e));
  truth_large = differ 5 3 (λ e. omega (arith, e));
  truth_text = differ 5 4 (λ e. omega (arith, e));
  truth_range = differ 5 6 (λ e. omega (arith, e));
  range_large = differ 6 3 (λ e. omega (arith, e));
  range_text = differ 6 4 (λ e. omega (arith, e));
  large_text = differ 3 4 (λ e. omega (arith, e));
}

pub guarded_is_accepted : GuardedIsAccepted
guarded_is_accepted = (guarded_is_sound, keeps_rules, guarded_is_complete)

pub guarded_goes_on : GuardedGoesOn
guarded_goes_on inner s t r =
    no_run_is_stuck guarded guarded_is_sound (rules_define guarded guarded_is_sound keeps_rules)
    guarded_is_complete inner s t r
