-- The terms of the worked program have their types.
use Rattle.std.proofs.Common.{◌≡◌, ℕ, zero, suc, ◌==◌, ◌&&◌, ◌||◌, Bool, true, false, not, if◌then◌else◌, List, [], ◌∷◌, Option, Some, None, pos, refl, ap, sym, ◌∙◌, subst, inl, arith, rules}
use Rattle.std.specs.Prelude.{slice_get, Contains}
use Rattle.std.specs.Int.{w32}
use Rattle.fort_base.specs.declared.ids.DeclId.{DeclId}
use Rattle.fort_base.specs.declared.ty.Ty.{Ty}
use Rattle.fort_base.specs.declared.ty.Ty.TheVariants.{Named}
use Rattle.fort_core.specs.declared.form.Mode.TheVariants as mode
use Rattle.fort_core.specs.declared.form.Order.TheVariants as order
use Rattle.fort_core.specs.declared.form.Span.TheVariants as span
use Rattle.fort_core.specs.declared.program.CoreDecl.{CoreDecl}
use Rattle.fort_core.specs.declared.program.CoreSet.{CoreSet}
use Rattle.fort_core.specs.declared.program.CoreShape.{CoreShape}
use Rattle.fort_core.specs.declared.term.Term.TheVariants.{outs-Throw, outs-Variable, outs-Call, outs-Operator, outs-Apply, outs-Let, outs-Read, outs-Write, outs-ReadField, outs-WriteField, outs-Then, outs-If, outs-Typecase, outs-For, outs-Also, outs-Try, outs-Atomic}
use Rattle.fort_core.specs.declared.value.Value.{Small, Truth, Object}
use Rattle.fort_core.specs.declared.value.Value.TheVariants.{outs-Small, outs-Truth, outs-Tuple, outs-Object, outs-Function}
use Rattle.fort_machine.specs.Acts.{unit}
use Rattle.fort_machine.specs.Numbers.{is_within}
use Rattle.fort_machine.specs.Runs.{location}
use Rattle.fort_machine.specs.Types.{all_below}
use Rattle.fort_machine.specs.Worked.{type, set, decl}
use Rattle.fort_sound_typed.specs.Envs.{Sort, fixed, Sig, Env, bind, binds, Fresh}
use Rattle.fort_sound_typed.specs.Envs as envs
use Rattle.fort_sound_typed.specs.Typing.{Below, is_same, is_told, FieldOf, Makes, Called, Has, parts0, parts1, HasV, vs0}
use Rattle.fort_sound_typed.specs.Sound.{opening}
use Rattle.fort_sound_typed.proofs.Rules.{has_at, has_v_at, has_value, never}
use Rattle.fort_threads_law_worked.specs.Bodies.{at, function, decls}
use Rattle.fort_threads_law_worked.specs.Builtin.{sets}
use Rattle.fort_threads_law_worked.specs.Types.{name, thread_shape, body_field, state_field, value_field, next_field, single_at}
use Rattle.fort_threads_law_worked.specs.Worked.{worked}
use Rattle.fort_threads_law_worked.proofs.Codes.{Code, any, named, to, ty_of, tys_of, is_below, below_is, are_below, all_are}
use Rattle.fort_threads_law_worked.proofs.Codes as code
use Rattle.fort_threads_law_worked.proofs.Forms.{Form, variable, value, number, truth, nothing, spent, fn, throw, calls, call, operator, apply, read, write, field, set_field, seq, choice, typecase, loop, also, catching, atomic, term_of}
use Rattle.fort_threads_law_worked.proofs.Forms as form
use Rattle.fort_threads_law_worked.proofs.Calls.{takes, gives, typed_as}
use Rattle.fort_threads_law_worked.proofs.Writing.{both, not_true}

-- variables that are bound, with their types
abbrev pub Context : Type 0
Context = List (ℕ × Code)

abbrev pub env_of : Context → Env
env_of [] = envs.none
env_of (b ∷ bs) = bind b.0 (fixed (ty_of b.1)) (env_of bs)

abbrev look : ℕ → Context → Option Code
look x [] = None
look x (b ∷ bs) = if b.0 == x then Some b.1 else look x bs

abbrev bound_there : ℕ → Context → Bool
bound_there x [] = false
bound_there x (b ∷ bs) = x == b.0 || bound_there x bs

looked : (bs : Context) (x : ℕ) (A : Code) → look x bs ≡ Some A
    → env_of bs x ≡ Some (fixed (ty_of A))
looked [] x A e = absurd cc
looked (b ∷ bs) x A e = go (b.0 == x) e (λ h. looked bs x A h)
  where
    go : (q : Bool) → (if q then Some b.1 else look x bs) ≡ Some A
        → (look x bs ≡ Some A → env_of bs x ≡ Some (fixed (ty_of A)))
        → (if q then Some (fixed (ty_of b.1)) else env_of bs x) ≡ Some (fixed (ty_of A))
    go true h k = let z : b.1 ≡ A = cc in ap (λ (C : Code). Some (fixed (ty_of C))) z
    go false h k = k h

split_or : (a b : Bool) → (a || b) ≡ false → (a ≡ false) × (b ≡ false)
split_or false b e = (refl, e)
split_or true b e = absurd cc

pub equal_is : (n m : ℕ) → (n == m) ≡ true → n ≡ m
equal_is n m e = search (rules, e)

fresh_one : (x : ℕ) (s : Sort) (bs : Context) → bound_there x bs ≡ false
    → Fresh ((x, s) ∷ []) (env_of bs)
fresh_one x s [] h z B e = absurd cc
fresh_one x s (b ∷ bs) h z B e =
    let q = split_or (x == b.0) (bound_there x bs) h in
    go (b.0 == z) refl q.0 (λ i. fresh_one x s bs q.1 z B i) e
  where
    go : (r : Bool) → b.0 == z ≡ r → x == b.0 ≡ false
        → (env_of bs z ≡ Some B → binds ((x, s) ∷ []) envs.none z ≡ None)
        → (if r then Some (fixed (ty_of b.1)) else env_of bs z) ≡ Some B
        → binds ((x, s) ∷ []) envs.none z ≡ None
    go true w q k i =
        ap (λ (r : Bool). if r then Some s else None)
        (ap (λ (y : ℕ). x == y) (sym (equal_is b.0 z w)) ∙ q)
    go false w q k i = k i

-- the types of the variables at the top and of the fields of `Thread'`
abbrev top : ℕ → Code
top zero = any
top (suc zero) = named 2
top (suc (suc zero)) = named 2
top _ = named 5

abbrev is_top : ℕ → Bool
is_top zero = true
is_top (suc zero) = true
is_top (suc (suc zero)) = true
is_top (suc (suc (suc zero))) = true
is_top _ = false

top_has : (l : ℕ) → is_top l ≡ true → opening worked l ≡ Some (ty_of (top l))
top_has zero h = refl
top_has (suc zero) h = refl
top_has (suc (suc zero)) h = refl
top_has (suc (suc (suc zero))) h = refl
top_has (suc (suc (suc (suc l)))) h = absurd cc

abbrev field_type : ℕ → Code
field_type f = if f == 19 then to code.nothing any else (if f == 20 then named 2 else any)

abbrev is_field : ℕ → Bool
is_field f = f == 19 || (f == 20 || (f == 21 || f == 22))

abbrev body_has : FieldOf worked (type 19) (name 19) (ty_of (to code.nothing any))
body_has =
    record {
      shape = thread_shape;
      place = 0;
      field = body_field;
      is_shape = refl;
      is_place = refl;
      is_field = refl;
      is_type = refl;
    }

abbrev state_has : FieldOf worked (type 19) (name 20) (ty_of (named 2))
state_has =
    record {
      shape = thread_shape;
      place = 1;
      field = state_field;
      is_shape = refl;
      is_place = refl;
      is_field = refl;
      is_type = refl;
    }

abbrev value_has : FieldOf worked (type 19) (name 21) (ty_of any)
value_has =
    record {
      shape = thread_shape;
      place = 2;
      field = value_field;
      is_shape = refl;
      is_place = refl;
      is_field = refl;
      is_type = refl;
    }

abbrev next_has : FieldOf worked (type 19) (name 22) (ty_of any)
next_has =
    record {
      shape = thread_shape;
      place = 3;
      field = next_field;
      is_shape = refl;
      is_place = refl;
      is_field = refl;
      is_type = refl;
    }

abbrev HasField : ℕ → Type 0
HasField f = (i : FieldOf worked (type 19) (name f) (ty_of (field_type f)))
    × (i.shape ≡ thread_shape)

field_has : (f : ℕ) → is_field f ≡ true → HasField f
field_has f h = go (f == 19) refl (f == 20) refl (f == 21) refl (f == 22) refl h
  where
    go : (a : Bool) → f == 19 ≡ a → (b : Bool) → f == 20 ≡ b → (c : Bool) → f == 21 ≡ c
        → (d : Bool) → f == 22 ≡ d → (a || (b || (c || d))) ≡ true → HasField f
    go true e b e1 c e2 d e3 h = subst HasField (sym (equal_is f 19 e)) (body_has, refl)
    go false e true e1 c e2 d e3 h = subst HasField (sym (equal_is f 20 e1)) (state_has, refl)
    go false e false e1 true e2 d e3 h = subst HasField (sym (equal_is f 21 e2)) (value_has, refl)
    go false e false e1 false e2 true e3 h =
        subst HasField (sym (equal_is f 22 e3)) (next_has, refl)
    go false e false e1 false e2 false e3 h = absurd cc

-- a declaration stands in a set
abbrev stands : DeclId → List DeclId → Bool
stands d [] = false
stands d (e ∷ es) = e.0 == d.0 || stands d es

stands_in : (d : ℕ) (es : List DeclId) → stands (decl d) es ≡ true → Contains es (decl d)
stands_in d [] h = absurd cc
stands_in d (e ∷ es) h = go (e.0 == d) refl h (λ k. stands_in d es k)
  where
    go : (b : Bool) → e.0 == d ≡ b → (b || stands (decl d) es) ≡ true
        → (stands (decl d) es ≡ true → Contains es (decl d)) → Contains (e ∷ es) (decl d)
    go true q h k = (0, omega arith, ap (λ (n : ℕ). decl n) (equal_is e.0 d q))
    go false q h k = let i = k h in (suc i.0, omega (arith, i.1), i.2)

abbrev set_has : Option CoreSet → ℕ → Bool
set_has None d = false
set_has (Some m) d = stands (decl d) m.decls

abbrev is_there : Option CoreDecl → Bool
is_there None = false
is_there (Some d) = true

-- the set has the declaration, which takes these
abbrev runs : ℕ → ℕ → List Code → Bool
runs s d cs =
    set_has (slice_get sets s) d && (is_there (slice_get decls d) && are_below cs (takes d))

called : (s d : ℕ) (cs : List Code) → runs s d cs ≡ true
    → Called worked (set s) (tys_of cs) (ty_of (gives d))
called s d cs h =
    let p = both (set_has (slice_get sets s) d)
    (is_there (slice_get decls d) && are_below cs (takes d)) h in
    let q = both (is_there (slice_get decls d)) (are_below cs (takes d)) p.1 in
    go (slice_get sets s) refl p.0 (slice_get decls d) refl q.0 q.1
  where
    go : (o : Option CoreSet) → slice_get sets s ≡ o → set_has o d ≡ true → (r : Option CoreDecl)
        → slice_get decls d ≡ r → is_there r ≡ true → are_below cs (takes d) ≡ true
        → Called worked (set s) (tys_of cs) (ty_of (gives d))
    go None e a r f b c = absurd cc
    go (Some m) e a None f b c = absurd cc
    go (Some m) e a (Some x) f b c =
        let t = typed_as d x f in (
          decl d,
          x,
          record {
            members = m;
            is_set = e;
            is_member = stands_in d m.decls a;
            is_decl = f;
            applies =
                ap (λ us. all_below worked (tys_of cs) us) t.0 ∙ all_are cs (takes d) ∙ c;
          },
          sym t.1,
        )

-- the parameters of a declaration
abbrev first_of : List Code → Code
first_of [] = any
first_of (a ∷ cs) = a

abbrev second_of : List Code → Code
second_of [] = any
second_of (a ∷ cs) = first_of cs

abbrev looks_like : Option Code → Code → Bool
looks_like None A = false
looks_like (Some B) A = is_below B A

-- whether a form has a type
abbrev pub fits : Context → Form → Code → Bool
fits bs (variable x) A = looks_like (look x bs) A
fits bs (value v) A = false
fits bs (number n) A = is_within w32 (pos n) && is_below (named 2) A
fits bs (truth b) A = is_below (named 5) A
fits bs nothing A = is_below code.nothing A
fits bs spent A = is_below (named 17) A
fits bs (fn n R a) A = fits [] a R && is_below (to code.nothing R) A
fits bs (throw a) A = fits bs a (named 1)
fits bs (calls s d) A = runs s d [] && is_below (gives d) A
fits bs (call s d a) A =
    runs s d (first_of (takes d) ∷ [])
    && (fits bs a (first_of (takes d)) && is_below (gives d) A)
fits bs (operator s d a b) A =
    runs s d (first_of (takes d) ∷ second_of (takes d) ∷ [])
    && (fits bs a (first_of (takes d))
    && (fits bs b (second_of (takes d)) && is_below (gives d) A))
fits bs (apply a b) A = fits bs a (to code.nothing A) && fits bs b code.nothing
fits bs (form.bind x B a b) A = not (bound_there x bs) && (fits bs a B && fits ((x, B) ∷ bs) b A)
fits bs (read l) A = is_top l && is_below (top l) A
fits bs (write l a) A = is_top l && (fits bs a (top l) && is_below code.nothing A)
fits bs (field a f) A = is_field f && (fits bs a (named 19) && is_below (field_type f) A)
fits bs (set_field a f b) A =
    is_field f
    && (fits bs a (named 19) && (fits bs b (field_type f) && is_below code.nothing A))
fits bs (seq a b) A = fits bs a any && fits bs b A
fits bs (choice c a b) A = fits bs c (named 5) && (fits bs a A && fits bs b A)
fits bs (typecase x a b B c) A =
    not (bound_there x bs)
    && (fits bs a any && (fits ((x, any) ∷ bs) c A && fits ((x, B) ∷ bs) b A))
fits bs (loop x a b) A =
    not (bound_there x bs)
    && (fits bs a (named 6)
    && (fits ((x, named 2) ∷ bs) b code.nothing && is_below code.nothing A))
fits bs (also a b) A = fits bs a any && (fits bs b any && is_below code.nothing A)
fits bs (catching a x b B) A =
    not (bound_there x bs) && (fits bs a A && fits ((x, B) ∷ bs) b A)
fits bs (atomic a) A = fits bs a A

abbrev pub S : Sig
S = opening worked

pub told : (A B : Code) → is_below A B ≡ true → Below worked (ty_of A) (ty_of B)
told A B h = is_told (below_is A B ∙ h)

itself : (A : Ty) → Below worked A A
itself A = is_same refl

abbrev Typed : Context → Form → Code → Type 0
Typed bs f A = Has worked S (env_of bs) (term_of f) (ty_of A)

-- values
pub number_has : (n : ℕ) → is_within w32 (pos n) ≡ true → (A : Code) → is_below (named 2) A ≡ true
    → HasV worked S (Small (pos n)) (ty_of A)
number_has n w A h =
    has_v_at worked S (outs-Small (pos n))
    (record {
      own = ty_of (named 2);
      qs = [];
      ws = [];
      fits = (refl, w);
      parts = parts0;
      values = vs0;
      below = told (named 2) A h;
    })

pub truth_has : (b : Bool) (A : Code) → is_below (named 5) A ≡ true → HasV worked S (Truth b)
    (ty_of A)
truth_has b A h =
    has_v_at worked S (outs-Truth b)
    (record {
      own = ty_of (named 5);
      qs = [];
      ws = [];
      fits = refl;
      parts = parts0;
      values = vs0;
      below = told (named 5) A h;
    })

pub unit_has : (A : Code) → is_below code.nothing A ≡ true → HasV worked S unit (ty_of A)
unit_has A h =
    has_v_at worked S (outs-Tuple [])
    (record {
      own = ty_of code.nothing;
      qs = [];
      ws = [];
      fits = refl;
      parts = parts0;
      values = vs0;
      below = told code.nothing A h;
    })

pub single_has : (i m : ℕ) → slice_get worked.shapes i ≡ Some (single_at m) → (A : Code)
    → is_below (named i) A ≡ true → HasV worked S (Object (type i) (location m)) (ty_of A)
single_has i m e A h = has_v_at worked S (outs-Object (type i) (location m)) (record {
  own = Named (type i);
  qs = [];
  ws = [];
  fits = (
    record {
      shape = single_at m;
      is_shape = e;
      is_made = tt;
      located = λ n c x. absurd cc;
    },
    refl,
  );
  parts = parts0;
  values = vs0;
  below = told (named i) A h;
})

-- forms
pub typed : (bs : Context) (f : Form) (A : Code) → fits bs f A ≡ true → Typed bs f A
typed bs (variable x) A h = go (look x bs) refl h
  where
    go : (o : Option Code) → look x bs ≡ o → looks_like o A ≡ true → Typed bs (variable x) A
    go None e h = absurd cc
    go (Some B) e h =
        has_at worked S (outs-Variable x)
        (record {
          own = ty_of B;
          qs = [];
          ws = [];
          fits = looked bs x B e;
          parts = parts0;
          values = vs0;
          below = told B A h;
        })
typed bs (value v) A h = absurd cc
typed bs (number n) A h =
    let p = both (is_within w32 (pos n)) (is_below (named 2) A) h
    in has_value worked S itself (number_has n p.0 A p.1)
typed bs (truth b) A h = has_value worked S itself (truth_has b A h)
typed bs nothing A h = has_value worked S itself (unit_has A h)
typed bs spent A h = has_value worked S itself (single_has 17 14 refl A h)
typed bs (fn n R a) A h =
    let p = both (fits [] a R) (is_below (to code.nothing R) A) h in
    has_value worked S itself
    (has_v_at worked S (outs-Function (function n (ty_of R) (term_of a)))
    (record {
      own = ty_of (to code.nothing R);
      qs = record { vars = []; type = ty_of R } ∷ [];
      ws = [];
      fits = (refl, tt, refl);
      parts = parts1 (never worked S envs.none) (typed [] a R p.0) parts0;
      values = vs0;
      below = told (to code.nothing R) A p.1;
    }))
typed bs (throw a) A h =
    has_at worked S (outs-Throw (term_of a))
    (record {
      own = ty_of A;
      qs = envs.plain (ty_of (named 1)) ∷ [];
      ws = [];
      fits = refl;
      parts = parts1 (never worked S (env_of bs)) (typed bs a (named 1) h) parts0;
      values = vs0;
      below = is_same refl;
    })
typed bs (calls s d) A h =
    let p = both (runs s d []) (is_below (gives d) A) h in
    has_at worked S (outs-Call (set s) [])
    (record {
      own = ty_of (gives d);
      qs = [];
      ws = [];
      fits = ([], refl, called s d [] p.0);
      parts = parts0;
      values = vs0;
      below = told (gives d) A p.1;
    })
typed bs (call s d a) A h =
    let P = first_of (takes d) in
    let p = both (runs s d (P ∷ [])) (fits bs a P && is_below (gives d) A) h in
    let q = both (fits bs a P) (is_below (gives d) A) p.1 in
    has_at worked S (outs-Call (set s) (term_of a ∷ []))
    (record {
      own = ty_of (gives d);
      qs = envs.plains (ty_of P ∷ []);
      ws = [];
      fits = (ty_of P ∷ [], refl, called s d (P ∷ []) p.0);
      parts = parts1 (never worked S (env_of bs)) (typed bs a P q.0) parts0;
      values = vs0;
      below = told (gives d) A q.1;
    })
typed bs (operator s d a b) A h =
    let P = first_of (takes d) in let Q = second_of (takes d) in
    let p = both (runs s d (P ∷ Q ∷ []))
    (fits bs a P && (fits bs b Q && is_below (gives d) A)) h in
    let q = both (fits bs a P) (fits bs b Q && is_below (gives d) A) p.1 in
    let r = both (fits bs b Q) (is_below (gives d) A) q.1 in
    has_at worked S (outs-Operator (set s) (term_of a ∷ term_of b ∷ []))
    (record {
      own = ty_of (gives d);
      qs = envs.plains (ty_of P ∷ ty_of Q ∷ []);
      ws = [];
      fits = (ty_of P ∷ ty_of Q ∷ [], refl, called s d (P ∷ Q ∷ []) p.0);
      parts =
          parts1 (never worked S (env_of bs)) (typed bs a P q.0)
          (parts1 (never worked S (env_of bs)) (typed bs b Q r.0) parts0);
      values = vs0;
      below = told (gives d) A r.1;
    })
typed bs (apply a b) A h =
    let p = both (fits bs a (to code.nothing A)) (fits bs b code.nothing) h in
    has_at worked S (outs-Apply (term_of a) (term_of b))
    (record {
      own = ty_of A;
      qs = envs.plain (ty_of (to code.nothing A)) ∷ envs.plain (ty_of code.nothing) ∷ [];
      ws = [];
      fits = (ty_of code.nothing, refl);
      parts =
          parts1 (never worked S (env_of bs)) (typed bs a (to code.nothing A) p.0)
          (parts1 (never worked S (env_of bs)) (typed bs b code.nothing p.1) parts0);
      values = vs0;
      below = is_same refl;
    })
typed bs (form.bind x B a b) A h =
    let p = both (not (bound_there x bs)) (fits bs a B && fits ((x, B) ∷ bs) b A) h in
    let q = both (fits bs a B) (fits ((x, B) ∷ bs) b A) p.1 in
    has_at worked S (outs-Let ((x, ty_of B) ∷ []) (term_of a) (term_of b))
    (record {
      own = ty_of A;
      qs = envs.plain (ty_of B)
          ∷ record { vars = envs.fixed_all ((x, ty_of B) ∷ []); type = ty_of A } ∷ [];
      ws = [];
      fits = (refl, (refl, tt));
      parts =
          parts1 (never worked S (env_of bs)) (typed bs a B q.0)
          (parts1 (fresh_one x (fixed (ty_of B)) bs (not_true (bound_there x bs) p.0))
          (typed ((x, B) ∷ bs) b A q.1) parts0);
      values = vs0;
      below = is_same refl;
    })
typed bs (read l) A h =
    let p = both (is_top l) (is_below (top l) A) h in
    has_at worked S (outs-Read (at l))
    (record {
      own = ty_of (top l);
      qs = [];
      ws = [];
      fits = top_has l p.0;
      parts = parts0;
      values = vs0;
      below = told (top l) A p.1;
    })
typed bs (write l a) A h =
    let p = both (is_top l) (fits bs a (top l) && is_below code.nothing A) h in
    let q = both (fits bs a (top l)) (is_below code.nothing A) p.1 in
    has_at worked S (outs-Write (at l) (term_of a))
    (record {
      own = ty_of code.nothing;
      qs = envs.plain (ty_of (top l)) ∷ [];
      ws = [];
      fits = (ty_of (top l), top_has l p.0, refl, refl);
      parts = parts1 (never worked S (env_of bs)) (typed bs a (top l) q.0) parts0;
      values = vs0;
      below = told code.nothing A q.1;
    })
typed bs (field a f) A h =
    let p = both (is_field f) (fits bs a (named 19) && is_below (field_type f) A) h in
    let q = both (fits bs a (named 19)) (is_below (field_type f) A) p.1 in
    has_at worked S (outs-ReadField (term_of a) (name f))
    (record {
      own = ty_of (field_type f);
      qs = envs.plain (ty_of (named 19)) ∷ [];
      ws = [];
      fits = (type 19, (field_has f p.0).0, refl);
      parts = parts1 (never worked S (env_of bs)) (typed bs a (named 19) q.0) parts0;
      values = vs0;
      below = told (field_type f) A q.1;
    })
typed bs (set_field a f b) A h =
    let p = both (is_field f)
    (fits bs a (named 19) && (fits bs b (field_type f) && is_below code.nothing A)) h in
    let q = both (fits bs a (named 19)) (fits bs b (field_type f)
    && is_below code.nothing A) p.1 in
    let r = both (fits bs b (field_type f)) (is_below code.nothing A) q.1 in
    let i = field_has f p.0 in
    has_at worked S (outs-WriteField (term_of a) (name f) (term_of b))
    (record {
      own = ty_of code.nothing;
      qs = envs.plain (ty_of (named 19)) ∷ envs.plain (ty_of (field_type f)) ∷ [];
      ws = [];
      fits = (
        type 19,
        ty_of (field_type f),
        i.0,
        subst (λ (s : CoreShape). Makes s.kind) (sym i.1) tt,
        refl,
        refl,
      );
      parts =
          parts1 (never worked S (env_of bs)) (typed bs a (named 19) q.0)
          (parts1 (never worked S (env_of bs)) (typed bs b (field_type f) r.0) parts0);
      values = vs0;
      below = told code.nothing A r.1;
    })
typed bs (seq a b) A h =
    let p = both (fits bs a any) (fits bs b A) h in
    has_at worked S (outs-Then (term_of a) (term_of b))
    (record {
      own = ty_of A;
      qs = envs.plain (ty_of any) ∷ envs.plain (ty_of A) ∷ [];
      ws = [];
      fits = (ty_of any, refl);
      parts =
          parts1 (never worked S (env_of bs)) (typed bs a any p.0)
          (parts1 (never worked S (env_of bs)) (typed bs b A p.1) parts0);
      values = vs0;
      below = is_same refl;
    })
typed bs (choice c a b) A h =
    let p = both (fits bs c (named 5)) (fits bs a A && fits bs b A) h in
    let q = both (fits bs a A) (fits bs b A) p.1 in
    has_at worked S (outs-If (term_of c) (term_of a) (term_of b))
    (record {
      own = ty_of A;
      qs = envs.plain (ty_of (named 5)) ∷ envs.plain (ty_of A) ∷ envs.plain (ty_of A) ∷ [];
      ws = [];
      fits = refl;
      parts =
          parts1 (never worked S (env_of bs)) (typed bs c (named 5) p.0)
          (parts1 (never worked S (env_of bs)) (typed bs a A q.0)
          (parts1 (never worked S (env_of bs)) (typed bs b A q.1) parts0));
      values = vs0;
      below = is_same refl;
    })
typed bs (typecase x a b B c) A h =
    let p = both (not (bound_there x bs))
    (fits bs a any && (fits ((x, any) ∷ bs) c A && fits ((x, B) ∷ bs) b A)) h in
    let q = both (fits bs a any) (fits ((x, any) ∷ bs) c A && fits ((x, B) ∷ bs) b A) p.1 in
    let r = both (fits ((x, any) ∷ bs) c A) (fits ((x, B) ∷ bs) b A) q.1 in
    let z = not_true (bound_there x bs) p.0 in
    has_at worked S (outs-Typecase x (term_of a) ((term_of b, ty_of B) ∷ []) (term_of c))
    (record {
      own = ty_of A;
      qs = envs.plain (ty_of any) ∷ envs.bound x (ty_of any) (ty_of A)
          ∷ envs.bound x (ty_of B) (ty_of A) ∷ [];
      ws = [];
      fits = (ty_of any, refl);
      parts =
          parts1 (never worked S (env_of bs)) (typed bs a any q.0)
          (parts1 (fresh_one x (fixed (ty_of any)) bs z) (typed ((x, any) ∷ bs) c A r.0)
          (parts1 (fresh_one x (fixed (ty_of B)) bs z) (typed ((x, B) ∷ bs) b A r.1) parts0));
      values = vs0;
      below = is_same refl;
    })
typed bs (loop x a b) A h =
    let p = both (not (bound_there x bs))
    (fits bs a (named 6) && (fits ((x, named 2) ∷ bs) b code.nothing && is_below code.nothing A)) h
    in
    let q = both (fits bs a (named 6))
    (fits ((x, named 2) ∷ bs) b code.nothing && is_below code.nothing A) p.1 in
    let r = both (fits ((x, named 2) ∷ bs) b code.nothing) (is_below code.nothing A) q.1 in
    has_at worked S (outs-For order.Parallel span.Whole x (term_of a) (term_of b))
    (record {
      own = ty_of code.nothing;
      qs = envs.plain (ty_of (named 6))
          ∷ envs.bound x (ty_of (named 2)) (ty_of code.nothing) ∷ [];
      ws = [];
      fits = (ty_of (named 6), ty_of (named 2), inl (refl, refl), tt, refl, refl);
      parts =
          parts1 (never worked S (env_of bs)) (typed bs a (named 6) q.0)
          (parts1 (fresh_one x (fixed (ty_of (named 2))) bs (not_true (bound_there x bs) p.0))
          (typed ((x, named 2) ∷ bs) b code.nothing r.0) parts0);
      values = vs0;
      below = told code.nothing A r.1;
    })
typed bs (also a b) A h =
    let p = both (fits bs a any) (fits bs b any && is_below code.nothing A) h in
    let q = both (fits bs b any) (is_below code.nothing A) p.1 in
    has_at worked S (outs-Also (term_of a ∷ term_of b ∷ []))
    (record {
      own = ty_of code.nothing;
      qs = envs.plains (ty_of any ∷ ty_of any ∷ []);
      ws = [];
      fits = (ty_of any ∷ ty_of any ∷ [], refl, refl);
      parts =
          parts1 (never worked S (env_of bs)) (typed bs a any p.0)
          (parts1 (never worked S (env_of bs)) (typed bs b any q.0) parts0);
      values = vs0;
      below = told code.nothing A q.1;
    })
typed bs (catching a x b B) A h =
    let p = both (not (bound_there x bs)) (fits bs a A && fits ((x, B) ∷ bs) b A) h in
    let q = both (fits bs a A) (fits ((x, B) ∷ bs) b A) p.1 in
    has_at worked S (outs-Try (term_of a) x ((term_of b, ty_of B) ∷ []) None)
    (record {
      own = ty_of A;
      qs = envs.plain (ty_of A) ∷ envs.bound x (ty_of B) (ty_of A) ∷ [];
      ws = [];
      fits = (ty_of code.nothing, refl);
      parts =
          parts1 (never worked S (env_of bs)) (typed bs a A q.0)
          (parts1 (fresh_one x (fixed (ty_of B)) bs (not_true (bound_there x bs) p.0))
          (typed ((x, B) ∷ bs) b A q.1) parts0);
      values = vs0;
      below = is_same refl;
    })
typed bs (atomic a) A h =
    has_at worked S (outs-Atomic mode.Atomic (term_of a))
    (record {
      own = ty_of A;
      qs = envs.plain (ty_of A) ∷ [];
      ws = [];
      fits = refl;
      parts = parts1 (never worked S (env_of bs)) (typed bs a A h) parts0;
      values = vs0;
      below = is_same refl;
    })
