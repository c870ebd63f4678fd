-- The worked program keeps the prelude's own names to the prelude.
use Rattle.std.proofs.Common.{◌≡◌, ℕ, zero, suc, ◌+◌, ◌==◌, ◌&&◌, ◌||◌, Bool, true, false, if◌then◌else◌, List, [], ◌∷◌, map, Option, Some, None, refl, ap, sym, ◌∙◌, subst, ◌⊎◌, inl, inr, arith, rules}
use Rattle.std.specs.Prelude.{slice_get, option_map, option_and_then, filter_map, pos}
use Rattle.fort_base.specs.declared.ids.DeclId.{DeclId}
use Rattle.fort_base.specs.declared.ids.Loc.{Loc}
use Rattle.fort_base.specs.declared.ids.NameId.{NameId}
use Rattle.fort_base.specs.declared.ids.SetId.{SetId}
use Rattle.fort_base.specs.declared.ids.TypeId.{TypeId}
use Rattle.fort_core.specs.declared.program.CoreBody.{CoreBody}
use Rattle.fort_core.specs.declared.program.CoreBody.TheVariants as body
use Rattle.fort_core.specs.declared.program.CoreDecl.{CoreDecl}
use Rattle.fort_core.specs.declared.program.CoreField.{CoreField}
use Rattle.fort_core.specs.declared.program.CoreKind.{CoreKind}
use Rattle.fort_core.specs.declared.program.CoreKind.TheVariants as kind
use Rattle.fort_core.specs.declared.program.CoreSet.{CoreSet}
use Rattle.fort_core.specs.declared.program.CoreShape.{CoreShape}
use Rattle.fort_core.specs.declared.term.Term.{Term, Call, Operator}
use Rattle.fort_core.specs.declared.term.Term as term
use Rattle.fort_core.specs.declared.term.Term.TheVariants.{Variable, outs-Variable, outs-Call, outs-Operator, outs-Let}
use Rattle.fort_core.specs.declared.term.Term.TheOpen.{Value-F}
use Rattle.fort_core.specs.declared.value.Value.{Value, Small, Truth, Object}
use Rattle.fort_core.specs.declared.value.Value.TheVariants.{outs-Object}
use Rattle.fort_machine.specs.Acts.{unit, object_of, single}
use Rattle.fort_machine.specs.Calls.{Dispatches, constants}
use Rattle.fort_machine.specs.Forms.{place_of, field_of}
use Rattle.fort_machine.specs.Journals.{value_in}
use Rattle.fort_machine.specs.Parts.{IsOneOf}
use Rattle.fort_machine.specs.Runs.{location}
use Rattle.fort_machine.specs.Scopes.{is_among}
use Rattle.fort_machine.specs.Worked.{type, set, decl}
use Rattle.fort_machine_law_worked.proofs.Finding.{Each, each, equal_is}
use Rattle.fort_threads.specs.Known.{known}
use Rattle.fort_threads_law_private.specs.Apart.{IsPrivateBody, KeepsApart}
use Rattle.fort_threads_law_private.specs.Private.{IsSecretSet, IsSecretField, Private, no_terms, one_more, PrivateValue, AllPrivateValues, no_values, one_more_value}
use Rattle.fort_threads_law_private.proofs.Values.{private_at, private_value_at, term_private, small_private, truth_private, unit_private, function_value_private}
use Rattle.fort_threads_law_worked.specs.Bodies.{decls, own_body, own_decl, product, figure, function}
use Rattle.fort_threads_law_worked.specs.Builtin.{sets}
use Rattle.fort_threads_law_worked.specs.Types.{name, shapes, thread_shape, any_thread, small_type, locations, holding, opening}
use Rattle.fort_threads_law_worked.specs.Worked.{worked, worked_names, worked_start, worked_known, worked_ground}
use Rattle.fort_threads_law_worked.proofs.Calls.{member, some_is}
use Rattle.fort_threads_law_worked.proofs.Writing.{both}

abbrev Fine : Term → Type 0
Fine = Private worked worked_names worked_start worked_ground

abbrev FineValue : Value → Type 0
FineValue = PrivateValue worked worked_names worked_start worked_ground

abbrev AllFineValues : List Value → Type 0
AllFineValues = AllPrivateValues worked worked_names worked_start worked_ground

-- the prelude's own sets, by their numbers
abbrev secret : List ℕ
secret = 44 ∷ 42 ∷ 43 ∷ 40 ∷ 45 ∷ []

self_equal : (n : ℕ) → (n == n) ≡ true
self_equal n = search rules

among : (k : ℕ) (ks : List ℕ) → IsOneOf (set k) (map (λ (n : ℕ). set n) ks) → is_among k ks ≡ true
among k [] i = absurd i
among k (n ∷ ks) (inl e) =
    ap (λ (s : SetId). k == s.0 || is_among k ks) (sym e)
    ∙ ap (λ b. b || is_among k ks) (self_equal k)
among k (n ∷ ks) (inr i) = ap (λ b. k == n || b) (among k ks i) ∙ or_true (k == n)
  where
    or_true : (b : Bool) → (b || true) ≡ true
    or_true true = refl
    or_true false = refl

not_secret : (k : ℕ) → is_among k secret ≡ false
    → IsSecretSet worked_names worked_start (set k) → ⊥
not_secret k h i = let z : true ≡ false = sym (among k secret i) ∙ h in cc

-- the body of the component's own `run`
figure_fine : (n : ℕ) → Fine (figure n)
figure_fine n = term_private (small_private _)

product_fine : FineValue product
product_fine =
    function_value_private (function 1 small_type (Operator (set 4) (figure 6 ∷ figure 7 ∷ [])))
    (private_at _ _ (outs-Operator (set 4) (figure 6 ∷ figure 7 ∷ [])) (not_secret 4 refl)
    (one_more (figure_fine 6) (one_more (figure_fine 7) no_terms)) no_values)
    no_values

variable_fine : (x : ℕ) → Fine (Variable x)
variable_fine x = private_at _ _ (outs-Variable x) tt no_terms no_values

pub own_is_fine : Fine own_body
own_is_fine =
    private_at _ _
    (outs-Let ((0, any_thread) ∷ []) (Call (set 41) (term.Value product ∷ []))
    (Call (set 31) (Call (set 39) (Variable 0 ∷ []) ∷ [])))
    tt
    (one_more
    (private_at _ _ (outs-Call (set 41) (term.Value product ∷ [])) (not_secret 41 refl)
    (one_more (term_private product_fine) no_terms) no_values)
    (one_more
    (private_at _ _ (outs-Call (set 31) (Call (set 39) (Variable 0 ∷ []) ∷ []))
    (not_secret 31 refl)
    (one_more
    (private_at _ _ (outs-Call (set 39) (Variable 0 ∷ [])) (not_secret 39 refl)
    (one_more (variable_fine 0) no_terms) no_values) no_terms)
    no_values) no_terms))
    no_values

-- what a call of another set runs: the prelude's, a built-in or an abstract one, or the own `run`
abbrev is_known : ℕ → Bool
is_known d = is_among d (81 ∷ 76 ∷ 70 ∷ 74 ∷ 72 ∷ [])

abbrev bare_body : CoreBody → Bool
bare_body (body.Primitive f) = true
bare_body body.Abstract = true
bare_body _ = false

abbrev bare_at : Option CoreDecl → Bool
bare_at None = false
bare_at (Some d) = bare_body d.body

abbrev good_member : ℕ → DeclId → Bool
good_member n d =
    is_among n secret || (is_known d.0 || (d.0 == 82 || bare_at (slice_get decls d.0)))

abbrev good_members : ℕ → List DeclId → Bool
good_members n [] = true
good_members n (d ∷ ds) = good_member n d && good_members n ds

abbrev good_sets : ℕ → List CoreSet → Bool
good_sets n [] = true
good_sets n (s ∷ ss) = good_members n s.decls && good_sets (n + 1) ss

in_members : (n : ℕ) (ds : List DeclId) (d : DeclId) → good_members n ds ≡ true → IsOneOf d ds
    → good_member n d ≡ true
in_members n [] d h i = absurd i
in_members n (e ∷ ds) d h (inl q) =
    ap (good_member n) q ∙ (both (good_member n e) (good_members n ds) h).0
in_members n (e ∷ ds) d h (inr i) =
    in_members n ds d (both (good_member n e) (good_members n ds) h).1 i

in_sets : (k : ℕ) (ss : List CoreSet) (n : ℕ) (s : CoreSet) (m : ℕ) → m ≡ k + n
    → good_sets k ss ≡ true → slice_get ss n ≡ Some s → good_members m s.decls ≡ true
in_sets k [] n s m q h e = absurd cc
in_sets k (t ∷ ss) zero s m q h e =
    let z : t ≡ s = cc in
    let w : m ≡ k = omega (arith, q) in
    ap (λ x. good_members x s.decls) w ∙ ap (λ (x : CoreSet). good_members k x.decls) (sym z)
    ∙ (both (good_members k t.decls) (good_sets (k + 1) ss) h).0
in_sets k (t ∷ ss) (suc n) s m q h e =
    in_sets (k + 1) ss n s m (omega (arith, q))
    (both (good_members k t.decls) (good_sets (k + 1) ss) h).1 e

one_known : (d : ℕ) → is_known d ≡ true → IsOneOf (decl d) (known worked_known)
one_known d h =
    go (d == 81) refl (d == 76) refl (d == 70) refl (d == 74) refl (d == 72) refl h
  where
    is : (n : ℕ) → (d == n) ≡ true → decl d ≡ decl n
    is n e = ap (λ (x : ℕ). decl x) (equal_is d n e)

    go : (a : Bool) → d == 81 ≡ a → (b : Bool) → d == 76 ≡ b → (c : Bool) → d == 70 ≡ c
        → (e : Bool) → d == 74 ≡ e → (f : Bool) → d == 72 ≡ f
        → (a || (b || (c || (e || (f || false))))) ≡ true
        → IsOneOf (decl d) (known worked_known)
    go true q b q1 c q2 e q3 f q4 h = inl (is 81 q)
    go false q true q1 c q2 e q3 f q4 h = inr (inl (is 76 q1))
    go false q false q1 true q2 e q3 f q4 h = inr (inr (inl (is 70 q2)))
    go false q false q1 false q2 true q3 f q4 h = inr (inr (inr (inl (is 74 q3))))
    go false q false q1 false q2 false q3 true q4 h = inr (inr (inr (inr (inl (is 72 q4)))))
    go false q false q1 false q2 false q3 false q4 h = absurd cc

abbrev FineBody : CoreBody → Type 0
FineBody = IsPrivateBody worked worked_names worked_start worked_ground

bare_fine : (b : CoreBody) → bare_body b ≡ true → FineBody b
bare_fine (body.Plain t) h = absurd cc
bare_fine (body.Primitive f) h = tt
bare_fine body.Abstract h = tt
bare_fine (body.New id) h = absurd cc

secret_is : (n : ℕ) → is_among n secret ≡ true → IsSecretSet worked_names worked_start (set n)
secret_is n h =
    go (n == 44) refl (n == 42) refl (n == 43) refl (n == 40) refl (n == 45) refl h
  where
    is : (m : ℕ) → (n == m) ≡ true → set n ≡ set m
    is m e = ap (λ (x : ℕ). set x) (equal_is n m e)

    go : (a : Bool) → n == 44 ≡ a → (b : Bool) → n == 42 ≡ b → (c : Bool) → n == 43 ≡ c
        → (e : Bool) → n == 40 ≡ e → (f : Bool) → n == 45 ≡ f
        → (a || (b || (c || (e || (f || false))))) ≡ true
        → IsSecretSet worked_names worked_start (set n)
    go true q b q1 c q2 e q3 f q4 h = inl (is 44 q)
    go false q true q1 c q2 e q3 f q4 h = inr (inl (is 42 q1))
    go false q false q1 true q2 e q3 f q4 h = inr (inr (inl (is 43 q2)))
    go false q false q1 false q2 true q3 f q4 h = inr (inr (inr (inl (is 40 q3))))
    go false q false q1 false q2 false q3 true q4 h = inr (inr (inr (inr (inl (is 45 q4)))))
    go false q false q1 false q2 false q3 false q4 h = absurd cc

runs_fine : (s : SetId) (values : List Value) (c : DeclId) (d : CoreDecl)
    → (IsSecretSet worked_names worked_start s → ⊥) → Dispatches worked s values c d
    → IsOneOf c (known worked_known) ⊎ FineBody d.body
runs_fine s values c d spares r =
    let i = r.most_specific.applicable in
    let g = in_sets 0 sets s.0 i.members s.0 (omega arith) refl i.is_set in
    let h = in_members s.0 i.members.decls c g (member i.members.decls c i.is_member) in
    go (is_among s.0 secret) refl (is_known c.0) refl (c.0 == 82) refl i.is_decl h
  where
    own_fine : (x : CoreDecl) → x ≡ own_decl → FineBody x.body
    own_fine x e = subst (λ (y : CoreDecl). FineBody y.body) (sym e) own_is_fine

    go : (a : Bool) → is_among s.0 secret ≡ a → (b : Bool) → is_known c.0 ≡ b → (e : Bool)
        → (c.0 == 82) ≡ e → slice_get decls c.0 ≡ Some d
        → (a || (b || (e || bare_at (slice_get decls c.0)))) ≡ true
        → IsOneOf c (known worked_known) ⊎ FineBody d.body
    go true q b q1 e q2 w h = absurd (spares (secret_is s.0 q))
    go false q true q1 e q2 w h = inl (one_known c.0 q1)
    go false q false q1 true q2 w h =
        inr (own_fine d
        (some_is d own_decl (sym w ∙ ap (λ n. slice_get decls n) (equal_is c.0 82 q2))))
    go false q false q1 false q2 w h = inr (bare_fine d.body (ap bare_at (sym w) ∙ h))

-- shapes: one type has fields
abbrev pub IsBare : CoreShape → Type 0
IsBare s = (s.fields ≡ []) ⊎ (s ≡ thread_shape)

bare_shapes : Each IsBare shapes
bare_shapes = (
  inl refl,
  (
    inl refl,
    (
      inl refl,
      (
        inl refl,
        (
          inl refl,
          (
            inl refl,
            (
              inl refl,
              (
                inl refl,
                (
                  inl refl,
                  (
                    inl refl,
                    (
                      inl refl,
                      (
                        inl refl,
                        (
                          inl refl,
                          (
                            inl refl,
                            (
                              inl refl,
                              (
                                inl refl,
                                (
                                  inl refl,
                                  (
                                    inl refl,
                                    (
                                      inl refl,
                                      (inr refl, tt),
                                    ),
                                  ),
                                ),
                              ),
                            ),
                          ),
                        ),
                      ),
                    ),
                  ),
                ),
              ),
            ),
          ),
        ),
      ),
    ),
  ),
)

pub shape_is : (i : ℕ) (s : CoreShape) → slice_get shapes i ≡ Some s → IsBare s
shape_is i s e = each IsBare shapes bare_shapes i s e

constants_fine : (i : TypeId) (s : CoreShape) → slice_get shapes i.0 ≡ Some s
    → AllFineValues (constants s)
constants_fine i s e = go (shape_is i.0 s e)
  where
    go : IsBare s → AllFineValues (constants s)
    go (inl q) =
        subst (λ (fs : List CoreField). AllFineValues
        (filter_map (λ (f : CoreField). f.initial) fs)) (sym q) no_values
    go (inr q) =
        subst (λ (x : CoreShape). AllFineValues (constants x)) (sym q)
        (one_more_value (small_private (pos 0))
        (one_more_value unit_private (one_more_value unit_private no_values)))

-- single objects
pub single_kind : (id : TypeId) (k : CoreKind) (fs : List CoreField) (v : Value)
    → object_of id (record { kind = k; fields = fs }) ≡ Some v
    → (base : Loc) × (k ≡ kind.Single base) × (v ≡ Object id base)
single_kind id (kind.Single base) fs v e = (base, refl, some_is v (Object id base) (sym e))
single_kind id kind.Trait fs v e = absurd cc
single_kind id kind.Leaf fs v e = absurd cc
single_kind id kind.Object fs v e = absurd cc

no_field : (id : TypeId) (base : Loc) (s : CoreShape) (f : NameId) (l : ℕ)
    → slice_get shapes id.0 ≡ Some s → s.fields ≡ []
    → field_of worked f (Value-F.Object id base) ≡ Some l → ⊥
no_field id base s f l e q h =
    let z : None ≡ Some l =
    sym (ap (λ (o : Option CoreShape). option_and_then (λ
    (x : CoreShape). option_map (λ n. base.0 + n) (place_of f x.fields)) o) e
    ∙ ap (λ (fs : List CoreField). option_map (λ n. base.0 + n) (place_of f fs)) q) ∙ h in
    absurd cc

single_fine : (id : TypeId) (v : Value) → single worked id ≡ Some v → FineValue v
single_fine id v e = go (slice_get shapes id.0) refl e
  where
    thread_kind : (s : CoreShape) → s ≡ thread_shape → (base : Loc) → s.kind ≡ kind.Single base → ⊥
    thread_kind s q base w =
        let z : kind.Object ≡ kind.Single base =
        sym (ap (λ (x : CoreShape). x.kind) q) ∙ w in absurd cc

    no_thread : (s : CoreShape) → slice_get shapes id.0 ≡ Some s → s.fields ≡ [] → id ≡ type 19 → ⊥
    no_thread s w q i =
        let z : thread_shape ≡ s =
        some_is thread_shape s (ap (λ (x : TypeId). slice_get shapes x.0) (sym i) ∙ w) in
        let y : thread_shape.fields ≡ [] = ap (λ (x : CoreShape). x.fields) z ∙ q in absurd cc

    by : (s : CoreShape) → slice_get shapes id.0 ≡ Some s → IsBare s
        → (base : Loc) × (s.kind ≡ kind.Single base) × (v ≡ Object id base) → FineValue v
    by s w (inl q) k =
        subst FineValue (sym k.2)
        (private_value_at (Object id k.0) _ (outs-Object id k.0) (
          (λ f l n h. absurd (no_field id k.0 s f l w q h)),
          (λ i. absurd (no_thread s w q i)),
        ) no_terms no_values)
    by s w (inr q) k = absurd (thread_kind s q k.0 k.1)

    go : (o : Option CoreShape) → slice_get shapes id.0 ≡ o
        → option_and_then (object_of id) o ≡ Some v → FineValue v
    go None w h = absurd cc
    go (Some s) w h = by s w (shape_is id.0 s w) (single_kind id s.kind s.fields v h)

-- the opening store
pub value_of : (P : Value → Type 0) (e : Loc × Value) (es : List (Loc × Value)) (l : ℕ) (v : Value)
    → P e.1 → (value_in es l ≡ Some v → P v) → value_in (e ∷ es) l ≡ Some v → P v
value_of P e es l v a k h = go (e.0.0 == l) h
  where
    go : (b : Bool) → (if b then Some e.1 else value_in es l) ≡ Some v → P v
    go true q = subst P (some_is e.1 v q) a
    go false q = k q

held_fine : (ns : List ℕ) (l : ℕ) (v : Value) → value_in (map holding ns) l ≡ Some v → FineValue v
held_fine [] l v h = absurd cc
held_fine (n ∷ ns) l v h =
    value_of FineValue (holding n) (map holding ns) l v unit_private (λ q. held_fine ns l v q) h

-- its entries, and what stands behind each
abbrev pub queue_held : Loc × Value
queue_held = (location 0, unit)

abbrev pub unended_held : Loc × Value
unended_held = (location 1, Small (pos 0))

abbrev pub count_held : Loc × Value
count_held = (location 2, Small (pos 0))

abbrev pub started_held : Loc × Value
started_held = (location 3, Truth false)

abbrev pub objects_held : List (Loc × Value)
objects_held = map holding locations

store_fine : (l : ℕ) (v : Value) → value_in opening l ≡ Some v → FineValue v
store_fine l v h =
    value_of FineValue queue_held (unended_held ∷ count_held ∷ started_held ∷ objects_held) l v
    unit_private
    (value_of FineValue unended_held (count_held ∷ started_held ∷ objects_held) l v
    (small_private (pos 0))
    (value_of FineValue count_held (started_held ∷ objects_held) l v (small_private (pos 0))
    (value_of FineValue started_held objects_held l v (truth_private false)
    (held_fine locations l v)))) h

no_other : (f : NameId) (base : Loc) → (IsSecretField worked_names f → ⊥)
    → field_of worked f (Value-F.Object worked_names.thread base) ≡ None
no_other f base spares =
    go (19 == f.0) refl (20 == f.0) refl (21 == f.0) refl (22 == f.0) refl
  where
    is : (n : ℕ) → (n == f.0) ≡ true → f ≡ name n
    is n e = ap (λ (x : ℕ). name x) (sym (equal_is n f.0 e))

    go : (a : Bool) → 19 == f.0 ≡ a → (b : Bool) → 20 == f.0 ≡ b → (c : Bool) → 21 == f.0 ≡ c
        → (d : Bool) → 22 == f.0 ≡ d
        → option_map (λ n. base.0 + n)
        (if a then Some 0 else option_map (λ n. n + 1)
        (if b then Some 0 else option_map (λ n. n + 1)
        (if c then Some 0 else option_map (λ n. n + 1)
        (if d then Some 0 else option_map (λ n. n + 1) None)))) ≡ None
    go true q b q1 c q2 d q3 = absurd (spares (inl (is 19 q)))
    go false q true q1 c q2 d q3 = absurd (spares (inr (inl (is 20 q1))))
    go false q false q1 true q2 d q3 = absurd (spares (inr (inr (inl (is 21 q2)))))
    go false q false q1 false q2 true q3 = absurd (spares (inr (inr (inr (inl (is 22 q3))))))
    go false q false q1 false q2 false q3 = refl

pub worked_keeps_apart : KeepsApart worked worked_names worked_start worked_known worked_ground
worked_keeps_apart =
    record {
      bodies = runs_fine;
      fields = constants_fine;
      singles = single_fine;
      opening = λ l v o h. store_fine l v h;
      no_other_field = no_other;
    }
