-- The worked program is sound.
use Rattle.std.proofs.Common.{◌≡◌, ℕ, zero, suc, ◌+◌, ◌==◌, ◌&&◌, ◌||◌, Bool, true, false, not, if◌then◌else◌, List, [], ◌∷◌, ◌++◌, map, Option, Some, None, pos, refl, ap, sym, ◌∙◌, subst, inl, inr}
use Rattle.std.specs.Prelude.{slice_get, Contains}
use Rattle.fort_base.specs.declared.ids.DeclId.{DeclId}
use Rattle.fort_base.specs.declared.ids.Loc.{Loc}
use Rattle.fort_base.specs.declared.ids.NameId.{NameId}
use Rattle.fort_base.specs.declared.ids.SetId.{SetId}
use Rattle.fort_base.specs.declared.ids.TypeId.{TypeId}
use Rattle.fort_base.specs.declared.ty.Ty.{Ty}
use Rattle.fort_base.specs.declared.ty.Ty.TheVariants.{Named}
use Rattle.fort_core.specs.declared.primitive.Primitive.{Primitive}
use Rattle.fort_core.specs.declared.program.CoreBody.{CoreBody}
use Rattle.fort_core.specs.declared.program.CoreBody.TheVariants as body
use Rattle.fort_core.specs.declared.program.CoreDecl.{CoreDecl}
use Rattle.fort_core.specs.declared.program.CoreField.{CoreField}
use Rattle.fort_core.specs.declared.program.CoreKind.{CoreKind}
use Rattle.fort_core.specs.declared.program.CoreKind.TheVariants as kind
use Rattle.fort_core.specs.declared.program.CoreSet.{CoreSet}
use Rattle.fort_core.specs.declared.program.CoreShape.{CoreShape}
use Rattle.fort_core.specs.declared.term.Term.{Term}
use Rattle.fort_core.specs.declared.value.Value.{Value, Small, Truth, Object}
use Rattle.fort_machine.specs.Acts.{unit, single}
use Rattle.fort_machine.specs.Calls.{IsApplicable, IsMoreSpecific}
use Rattle.fort_machine.specs.Journals.{value_in}
use Rattle.fort_machine.specs.Parts.{IsOneOf}
use Rattle.fort_machine.specs.Runs.{location}
use Rattle.fort_machine.specs.Types.{all_below}
use Rattle.fort_machine.specs.Worked.{type}
use Rattle.fort_machine_law_worked.proofs.Finding.{Each, each, all_set, found, passes, then_holds, equal_is, through_rows}
use Rattle.fort_sound_typed.specs.Envs.{binds}
use Rattle.fort_sound_typed.specs.Envs as envs
use Rattle.fort_sound_typed.specs.Typing.{Below, is_same, Makes, FieldOf, Has, HasV, vs0, vs1}
use Rattle.fort_sound_typed.specs.Signatures.{parameters_of, result_of}
use Rattle.fort_sound_typed.specs.Sound.{opening, typed_at, numbered, IsFailure, NewFits, StoreOk, Under, Sound}
use Rattle.fort_threads_law_worked.specs.Bodies.{decls, own_decls, thread_decl}
use Rattle.fort_threads_law_worked.specs.Builtin.{built_ins, sets}
use Rattle.fort_threads_law_worked.specs.Types.{rows, shapes, thread_shape, single_at, locations, holding}
use Rattle.fort_threads_law_worked.specs.Types as types
use Rattle.fort_threads_law_worked.specs.Worked.{worked}
use Rattle.fort_threads_law_worked.proofs.Codes.{Code, any, named, to, ty_of, is_below, are_below, all_are}
use Rattle.fort_threads_law_worked.proofs.Codes as code
use Rattle.fort_threads_law_worked.proofs.Forms.{Form, calls, term_of, wait_form, ready_form, val_form, spawn_form, take_form, go_form, serve_form, main_form, run_form, own_form}
use Rattle.fort_threads_law_worked.proofs.Calls.{agree, some_is, member, takes, gives, typed_as}
use Rattle.fort_threads_law_worked.proofs.Writing.{both}
use Rattle.fort_threads_law_worked.proofs.Typing.{Context, env_of, fits, S, told, typed, number_has, truth_has, unit_has, single_has}
use Rattle.fort_threads_law_worked.proofs.Apart.{IsBare, shape_is, unended_held, count_held, started_held, objects_held}

-- types above which nothing stands
abbrev is_low : CoreKind → Bool
is_low kind.Trait = false
is_low _ = true

abbrev pub low_of : Option CoreShape → Bool
low_of (Some s) = is_low s.kind
low_of None = false

abbrev alone_at : (ℕ × ℕ) → Bool
alone_at a = not (low_of (slice_get shapes a.1)) || a.0 == a.1

pub under_low : (i j : TypeId) → low_of (slice_get shapes j.0) ≡ true → Under worked i j → i ≡ j
under_low i j h (inl e) = e
under_low i j h (inr e) =
    let a = passes alone_at (all_set 0 rows) refl (i.0, j.0) (found rows i.0 j.0 e) in
    ap (λ (n : ℕ). type n)
    (equal_is i.0 j.0 (then_holds (low_of (slice_get shapes j.0)) (i.0 == j.0) a h))

made_low : (s : CoreShape) → Makes s.kind → (o : Option CoreShape) → o ≡ Some s → low_of o ≡ true
made_low s m None e = absurd cc
made_low s m (Some r) e =
    let z : r ≡ s = cc in ap (λ (x : CoreShape). is_low x.kind) z ∙ by (s.kind) m
  where
    by : (k : CoreKind) → Makes k → is_low k ≡ true
    by kind.Trait m = absurd m
    by kind.Leaf m = refl
    by kind.Object m = refl
    by (kind.Single base) m = refl

-- only `Thread'` has fields
pub has_thread : (id : TypeId) (f : NameId) (A : Ty) (i : FieldOf worked id f A)
    → i.shape ≡ thread_shape
has_thread id f A i = go (shape_is id.0 i.shape i.is_shape)
  where
    go : IsBare i.shape → i.shape ≡ thread_shape
    go (inl none_of) =
        let z : slice_get [] i.place ≡ Some i.field =
        ap (λ (fs : List CoreField). slice_get fs i.place) (sym none_of) ∙ i.is_field in absurd cc
    go (inr e) = e

pub field_low : (id : TypeId) (f : NameId) (A : Ty) → FieldOf worked id f A
    → low_of (slice_get shapes id.0) ≡ true
field_low id f A i =
    ap low_of i.is_shape ∙ ap (λ (s : CoreShape). is_low s.kind) (has_thread id f A i)

-- results go with parameters
abbrev good_pair : DeclId → DeclId → Bool
good_pair d e = not (are_below (takes d.0) (takes e.0)) || is_below (gives d.0) (gives e.0)

abbrev good_row : DeclId → List DeclId → Bool
good_row d [] = true
good_row d (e ∷ es) = good_pair d e && good_row d es

abbrev good_rows : List DeclId → List DeclId → Bool
good_rows [] es = true
good_rows (d ∷ ds) es = good_row d es && good_rows ds es

abbrev good_sets : List CoreSet → Bool
good_sets [] = true
good_sets (s ∷ ss) = good_rows s.decls s.decls && good_sets ss

in_row : (d e : DeclId) (es : List DeclId) → good_row d es ≡ true → IsOneOf e es
    → good_pair d e ≡ true
in_row d e [] h i = absurd i
in_row d e (x ∷ es) h (inl q) = ap (good_pair d) q ∙ (both (good_pair d x) (good_row d es) h).0
in_row d e (x ∷ es) h (inr i) = in_row d e es (both (good_pair d x) (good_row d es) h).1 i

in_rows : (d : DeclId) (ds es : List DeclId) → good_rows ds es ≡ true → IsOneOf d ds
    → good_row d es ≡ true
in_rows d [] es h i = absurd i
in_rows d (x ∷ ds) es h (inl q) =
    ap (λ y. good_row y es) q ∙ (both (good_row x es) (good_rows ds es) h).0
in_rows d (x ∷ ds) es h (inr i) = in_rows d ds es (both (good_row x es) (good_rows ds es) h).1 i

in_sets : (ss : List CoreSet) (n : ℕ) (s : CoreSet) → good_sets ss ≡ true → slice_get ss n ≡ Some s
    → good_rows s.decls s.decls ≡ true
in_sets [] n s h e = absurd cc
in_sets (t ∷ ss) zero s h e =
    ap (λ (x : CoreSet). good_rows x.decls x.decls) (sym (some_is t s e))
    ∙ (both (good_rows t.decls t.decls) (good_sets ss) h).0
in_sets (t ∷ ss) (suc n) s h e =
    in_sets ss n s (both (good_rows t.decls t.decls) (good_sets ss) h).1 e

results : (s : SetId) (ts us : List Ty) (d e : DeclId) (x y : CoreDecl)
    → IsApplicable worked s ts d x → IsApplicable worked s us e y → IsMoreSpecific worked x y
    → Below worked x.result y.result
results s ts us d e x y a b more =
    let q = some_is b.members a.members (sym b.is_set ∙ a.is_set) in
    let p = in_row d e a.members.decls
    (in_rows d a.members.decls a.members.decls (in_sets sets s.0 a.members refl a.is_set)
    (member a.members.decls d a.is_member))
    (member a.members.decls e (subst (λ (m : CoreSet). Contains m.decls e) q b.is_member)) in
    let t = typed_as d.0 x a.is_decl in
    let u = typed_as e.0 y b.is_decl in
    let w : are_below (takes d.0) (takes e.0) ≡ true =
    sym (all_are (takes d.0) (takes e.0))
    ∙ ap (λ zs. all_below worked zs (code.tys_of (takes e.0))) (sym t.0)
    ∙ ap (λ zs. all_below worked x.parameters zs) (sym u.0) ∙ more in
    subst (λ z. Below worked z y.result) (sym t.1)
    (subst (λ z. Below worked (ty_of (gives d.0)) z) (sym u.1)
    (told (gives d.0) (gives e.0)
    (then_holds (are_below (takes d.0) (takes e.0)) (is_below (gives d.0) (gives e.0)) p w)))

-- what holds of the built-in declarations, and of the others
abbrev pub is_primitive : CoreBody → Bool
is_primitive (body.Primitive f) = true
is_primitive _ = false

built_in_is : (n : ℕ) (x : CoreDecl) → slice_get built_ins n ≡ Some x → is_primitive x.body ≡ true
built_in_is n x e =
    (agree (λ (d : CoreDecl). is_primitive d.body) (λ (d : CoreDecl). true) built_ins built_ins
    refl
    n x e).2

each_of : (P : CoreDecl → Type 0) (xs ys : List CoreDecl)
    → ((n : ℕ) (x : CoreDecl) → slice_get xs n ≡ Some x → P x) → Each P ys → (n : ℕ)
    (x : CoreDecl) → slice_get (xs ++ ys) n ≡ Some x → P x
each_of P [] ys h hs n x e = each P ys hs n x e
each_of P (z ∷ xs) ys h hs zero x e = h zero x e
each_of P (z ∷ xs) ys h hs (suc n) x e = each_of P xs ys (λ m y q. h (suc m) y q) hs n x e

pub of_each : (P : CoreDecl → Type 0)
    → ((x : CoreDecl) → is_primitive x.body ≡ true → P x) → Each P own_decls → (n : ℕ)
    (x : CoreDecl) → slice_get decls n ≡ Some x → P x
of_each P h hs n x e = each_of P built_ins own_decls (λ m y q. h y (built_in_is m y q)) hs n x e

-- bodies
abbrev BodyHas : CoreDecl → Type 0
BodyHas c = (t : Term) → c.body ≡ body.Plain t
    → Has worked (opening worked) (binds (numbered 0 c.parameters) envs.none) t c.result

has_body : (bs : Context) (f : Form) (A : Code) → fits bs f A ≡ true → (t : Term)
    → body.Plain (term_of f) ≡ body.Plain t → Has worked S (env_of bs) t (ty_of A)
has_body bs f A h t q =
    let z : term_of f ≡ t = cc in subst (λ u. Has worked S (env_of bs) u (ty_of A)) z
    (typed bs f A h)

no_body : (x : CoreDecl) → is_primitive x.body ≡ true → BodyHas x
no_body x h t q =
    let z : true ≡ false = sym h ∙ ap is_primitive q in absurd cc

abbrev one : Context
one = (0, named 19) ∷ []

bodies : (d : DeclId) (x : CoreDecl) (t : Term) → slice_get decls d.0 ≡ Some x
    → x.body ≡ body.Plain t
    → Has worked (opening worked) (binds (numbered 0 x.parameters) envs.none) t x.result
bodies d x t e q =
    of_each BodyHas no_body (
      (λ t q. absurd cc),
      (
        has_body one wait_form code.nothing refl,
        (
          (λ t q. absurd cc),
          (
            has_body one ready_form (named 5) refl,
            (
              (λ t q. absurd cc),
              (
                has_body one val_form any refl,
                (
                  (λ t q. absurd cc),
                  (
                    has_body ((0, to code.nothing any) ∷ []) spawn_form (named 18) refl,
                    (
                      has_body [] take_form any refl,
                      (
                        has_body one go_form code.nothing refl,
                        (
                          has_body [] serve_form code.nothing refl,
                          (
                            has_body ((0, to code.nothing code.nothing) ∷ []) main_form code.nothing refl,
                            (
                              has_body [] run_form code.nothing refl,
                              (has_body [] own_form code.nothing refl, tt),
                            ),
                          ),
                        ),
                      ),
                    ),
                  ),
                ),
              ),
            ),
          ),
        ),
      ),
    )
    d.0 x e t q

-- built-in declarations
abbrev Signature : Type 0
Signature = Option (List Ty × Ty)

abbrev of_body : CoreBody → Signature
of_body (body.Primitive f) = Some (parameters_of worked f, result_of worked f)
of_body _ = None

abbrev of_decl : CoreBody → List Ty → Ty → Signature
of_decl (body.Primitive f) ps r = Some (ps, r)
of_decl _ ps r = None

signatures_agree : map (λ (d : CoreDecl). of_body d.body) decls
    ≡ map (λ (d : CoreDecl). of_decl d.body d.parameters d.result) decls
signatures_agree = refl

primitives : (d : DeclId) (x : CoreDecl) (f : Primitive) → slice_get decls d.0 ≡ Some x
    → x.body ≡ body.Primitive f
    → (x.parameters ≡ parameters_of worked f) × (x.result ≡ result_of worked f)
primitives d x f e q =
    let a = agree (λ (d : CoreDecl). of_body d.body)
    (λ (d : CoreDecl). of_decl d.body d.parameters d.result) decls decls signatures_agree d.0 x
    e in
    let y = some_is a.0 x (sym a.1 ∙ e) in
    let z : Some (parameters_of worked f, result_of worked f) ≡ Some (x.parameters, x.result) =
    sym (ap of_body q) ∙ a.2 ∙ ap (λ (d : CoreDecl). of_decl d.body d.parameters d.result) y
    ∙ ap (λ b. of_decl b x.parameters x.result) q in
    let w = some_is (parameters_of worked f, result_of worked f) (x.parameters, x.result) z in
    (sym (ap (λ (s : List Ty × Ty). s.0) w), sym (ap (λ (s : List Ty × Ty). s.1) w))

-- the constructor
abbrev Makers : CoreDecl → Type 0
Makers c = (id : TypeId) → c.body ≡ body.New id → NewFits worked id c

no_maker : (x : CoreDecl) → is_primitive x.body ≡ true → Makers x
no_maker x h id q = let z : true ≡ false = sym h ∙ ap is_primitive q in absurd cc

thread_made : NewFits worked (type 19) thread_decl
thread_made =
    record {
      shape = thread_shape;
      is_shape = refl;
      is_made = tt;
      types = ty_of (named 2) ∷ ty_of any ∷ ty_of any ∷ [];
      constants_have =
          vs1 (number_has 0 refl (named 2) refl)
          (vs1 (unit_has any refl) (vs1 (unit_has any refl) vs0));
      fields = refl;
      result = is_same refl;
    }

make_thread : Makers thread_decl
make_thread id q =
    let z : type 19 ≡ id = cc in subst (λ (i : TypeId). NewFits worked i thread_decl) z thread_made

constructors : (d : DeclId) (x : CoreDecl) (id : TypeId) → slice_get decls d.0 ≡ Some x
    → x.body ≡ body.New id → NewFits worked id x
constructors d x id e q =
    of_each Makers no_maker (
      (λ id q. absurd cc),
      (
        (λ id q. absurd cc),
        (
          (λ id q. absurd cc),
          (
            (λ id q. absurd cc),
            (
              (λ id q. absurd cc),
              (
                (λ id q. absurd cc),
                (
                  make_thread,
                  (
                    (λ id q. absurd cc),
                    (
                      (λ id q. absurd cc),
                      (
                        (λ id q. absurd cc),
                        (
                          (λ id q. absurd cc),
                          (
                            (λ id q. absurd cc),
                            (
                              (λ id q. absurd cc),
                              ((λ id q. absurd cc), tt),
                            ),
                          ),
                        ),
                      ),
                    ),
                  ),
                ),
              ),
            ),
          ),
        ),
      ),
    )
    d.0 x e id q

-- the opening store
abbrev Held : List (Loc × Value) → List (Loc × Ty) → ℕ → Ty → Type 0
Held vs ts l F = typed_at ts l ≡ Some F
    → (v : Value) × (value_in vs l ≡ Some v) × HasV worked S v F

holds : (n : ℕ) (v : Value) (A : Ty) (vs : List (Loc × Value)) (ts : List (Loc × Ty)) (l : ℕ)
    (F : Ty) → HasV worked S v A → Held vs ts l F
    → Held ((location n, v) ∷ vs) ((location n, A) ∷ ts) l F
holds n v A vs ts l F a k h = go (n == l) h
  where
    go : (b : Bool) → (if b then Some A else typed_at ts l) ≡ Some F
        → (w : Value) × ((if b then Some v else value_in vs l) ≡ Some w) × HasV worked S w F
    go true e = (v, refl, subst (HasV worked S v) (some_is A F e) a)
    go false e = k e

held : (ns : List ℕ) (l : ℕ) (F : Ty) → Held (map holding ns) (map types.typed ns) l F
held [] l F e = absurd cc
held (n ∷ ns) l F e =
    holds n unit types.unit_type (map holding ns) (map types.typed ns) l F
    (unit_has code.nothing refl) (held ns l F) e

abbrev Covered : List (Loc × Value) → List (Loc × Ty) → ℕ → Value → Type 0
Covered vs ts l v = value_in vs l ≡ Some v → (F : Ty) × (typed_at ts l ≡ Some F)

covers : (n : ℕ) (w : Value) (A : Ty) (vs : List (Loc × Value)) (ts : List (Loc × Ty)) (l : ℕ)
    (v : Value) → Covered vs ts l v → Covered ((location n, w) ∷ vs) ((location n, A) ∷ ts) l v
covers n w A vs ts l v k h = go (n == l) h
  where
    go : (b : Bool) → (if b then Some w else value_in vs l) ≡ Some v
        → (F : Ty) × ((if b then Some A else typed_at ts l) ≡ Some F)
    go true e = (A, refl)
    go false e = k e

covered : (ns : List ℕ) (l : ℕ) (v : Value) → Covered (map holding ns) (map types.typed ns) l v
covered [] l v e = absurd cc
covered (n ∷ ns) l v e =
    covers n unit types.unit_type (map holding ns) (map types.typed ns) l v (covered ns l v) e

abbrev queue_typed : Loc × Ty
queue_typed = (location 0, ty_of any)

abbrev unended_typed : Loc × Ty
unended_typed = (location 1, ty_of (named 2))

abbrev count_typed : Loc × Ty
count_typed = (location 2, ty_of (named 2))

abbrev started_typed : Loc × Ty
started_typed = (location 3, ty_of (named 5))

abbrev objects_typed : List (Loc × Ty)
objects_typed = map types.typed locations

store_holds : (l : ℕ) (F : Ty) → Held types.opening types.opening_types l F
store_holds l F e =
    holds 0 unit (ty_of any) (unended_held ∷ count_held ∷ started_held ∷ objects_held)
    (unended_typed ∷ count_typed ∷ started_typed ∷ objects_typed) l F (unit_has any refl)
    (holds 1 (Small (pos 0)) (ty_of (named 2)) (count_held ∷ started_held ∷ objects_held)
    (count_typed ∷ started_typed ∷ objects_typed) l F (number_has 0 refl (named 2) refl)
    (holds 2 (Small (pos 0)) (ty_of (named 2)) (started_held ∷ objects_held)
    (started_typed ∷ objects_typed) l F (number_has 0 refl (named 2) refl)
    (holds 3 (Truth false) (ty_of (named 5)) objects_held objects_typed l F
    (truth_has false (named 5) refl) (held locations l F)))) e

store_covers : (l : ℕ) (v : Value) → Covered types.opening types.opening_types l v
store_covers l v e =
    covers 0 unit (ty_of any) (unended_held ∷ count_held ∷ started_held ∷ objects_held)
    (unended_typed ∷ count_typed ∷ started_typed ∷ objects_typed) l v
    (covers 1 (Small (pos 0)) (ty_of (named 2)) (count_held ∷ started_held ∷ objects_held)
    (count_typed ∷ started_typed ∷ objects_typed) l v
    (covers 2 (Small (pos 0)) (ty_of (named 2)) (started_held ∷ objects_held)
    (started_typed ∷ objects_typed) l v
    (covers 3 (Truth false) (ty_of (named 5)) objects_held objects_typed l v
    (covered locations l v)))) e

store_ok : StoreOk worked (opening worked) (value_in types.opening)
store_ok = record { opened = λ l F e. e; holds = store_holds; covers = store_covers }

-- the exceptions
module _ (P : TypeId → Type 0) where
  pub by_failure : P (type 7) → P (type 8) → P (type 9) → P (type 10) → P (type 11) → P (type 14)
      → P (type 15) → P (type 16) → (id : TypeId) → IsFailure worked id → P id
  by_failure a b c d e f g h id (inl q) = subst P (sym q) a
  by_failure a b c d e f g h id (inr (inl q)) = subst P (sym q) b
  by_failure a b c d e f g h id (inr (inr (inl q))) = subst P (sym q) c
  by_failure a b c d e f g h id (inr (inr (inr (inl q)))) = subst P (sym q) d
  by_failure a b c d e f g h id (inr (inr (inr (inr (inl q))))) = subst P (sym q) e
  by_failure a b c d e f g h id (inr (inr (inr (inr (inr (inl q)))))) = subst P (sym q) f
  by_failure a b c d e f g h id (inr (inr (inr (inr (inr (inr (inl q))))))) = subst P (sym q) g
  by_failure a b c d e f g h id (inr (inr (inr (inr (inr (inr (inr q))))))) = subst P (sym q) h

abbrev Thrown : TypeId → Type 0
Thrown id = (v : Value) → single worked id ≡ Some v → HasV worked S v (Named (type 1))

thrown : (n m : ℕ) → slice_get shapes n ≡ Some (single_at m)
    → single worked (type n) ≡ Some (Object (type n) (location m))
    → is_below (named n) (named 1) ≡ true → Thrown (type n)
thrown n m e q r v w =
    subst (λ u. HasV worked S u (Named (type 1)))
    (some_is (Object (type n) (location m)) v (sym q ∙ w)) (single_has n m e (named 1) r)

failures : (id : TypeId) (v : Value) → IsFailure worked id → single worked id ≡ Some v
    → HasV worked S v (Named (type 1))
failures id v f =
    by_failure Thrown (thrown 7 4 refl refl refl) (thrown 8 5 refl refl refl)
    (thrown 9 6 refl refl refl) (thrown 10 7 refl refl refl) (thrown 11 8 refl refl refl)
    (thrown 14 11 refl refl refl) (thrown 15 12 refl refl refl)
    (thrown 16 13 refl refl refl) id f v

pub worked_sound : Sound worked
worked_sound = record {
  through = through_rows rows refl;
  leaf = λ i j s e m h. under_low i j (made_low s m (slice_get shapes j.0) e) h;
  fields = λ i j f A s x e m h. (
    A,
    subst (λ
        (t : TypeId). FieldOf worked t f A) (sym (under_low i j (field_low j f A x) h)) x,
    is_same refl,
  );
  results = results;
  bodies = bodies;
  primitives = primitives;
  constructors = constructors;
  opened = store_ok;
  first = typed [] (calls 46 81) code.nothing refl;
  failures = failures;
}
