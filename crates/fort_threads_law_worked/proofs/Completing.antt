-- The worked program is complete: as it is written, and with its leaves and exceptions.
use Rattle.std.proofs.Common.{◌≡◌, ◌≢◌, ℕ, ◌==◌, ◌&&◌, ◌||◌, Bool, true, false, not, List, [], ◌∷◌, ◌++◌, map, Option, Some, None, pos, refl, ap, sym, ◌∙◌, subst, inl, inr, arith}
use Rattle.std.specs.Prelude.{slice_get, nat_lt}
use Rattle.std.specs.List.{list_any, concat}
use Rattle.fort_base.specs.declared.ids.DeclId.{DeclId}
use Rattle.fort_base.specs.declared.ids.TypeId.{TypeId}
use Rattle.fort_core.specs.declared.program.CoreBody.{CoreBody}
use Rattle.fort_core.specs.declared.program.CoreBody.TheVariants as body
use Rattle.fort_core.specs.declared.program.CoreDecl.{CoreDecl}
use Rattle.fort_core.specs.declared.program.CoreKind.{CoreKind}
use Rattle.fort_core.specs.declared.program.CoreKind.TheVariants as kind
use Rattle.fort_core.specs.declared.program.CoreShape.{CoreShape}
use Rattle.fort_core.specs.declared.value.Value.{Value}
use Rattle.fort_machine.specs.Acts.{single}
use Rattle.fort_machine.specs.Worked.{type}
use Rattle.fort_machine.specs.Written.{all_binders, Constructs, terms_of, constants_of, StandOnce, AllWrittenValues, end_of_values, first_value, functions_in_value, IsDeclared, WrittenProgram}
use Rattle.fort_machine_law_worked.proofs.Finding.{all_set, found, passes, then_holds}
use Rattle.fort_machine_law_worked.proofs.WrittenForms.{PlainValue, plain_unit, plain_number}
use Rattle.fort_sound_typed.specs.Typing.{Makes}
use Rattle.fort_sound_typed.specs.Sound.{IsFailure, Under}
use Rattle.fort_sound_typed.specs.Goes.{IsBuiltIn, Complete}
use Rattle.fort_threads_law_worked.specs.Bodies.{decls}
use Rattle.fort_threads_law_worked.specs.Types.{rows, plain, shapes, thread_shape, any_function, body_field, state_field, value_field, next_field, locations, holding}
use Rattle.fort_threads_law_worked.specs.Worked.{worked}
use Rattle.fort_threads_law_worked.proofs.Calls.{some_is}
use Rattle.fort_threads_law_worked.proofs.Forms.{Form, calls, term_of, wait_form, ready_form, val_form, spawn_form, take_form, go_form, serve_form, main_form, run_form, own_form}
use Rattle.fort_threads_law_worked.proofs.Writing.{Wrotes, none, next, binders_of, functions_of, binds_once, both, wrote, truth_plain_value}
use Rattle.fort_threads_law_worked.proofs.Sounding.{low_of, under_low, has_thread, field_low, is_primitive, of_each, by_failure}

-- the terms
abbrev forms : List Form
forms = calls 46 81 ∷ wait_form ∷ ready_form ∷ val_form ∷ spawn_form ∷ take_form ∷ go_form
    ∷ serve_form ∷ main_form ∷ run_form ∷ own_form ∷ []

abbrev bind_once : List Form → Bool
bind_once [] = true
bind_once (f ∷ fs) = binds_once f && bind_once fs

all_wrote : (fs : List Form) → bind_once fs ≡ true
    → Wrotes (map term_of fs) (map binders_of fs) (map functions_of fs)
all_wrote [] h = none
all_wrote (f ∷ fs) h =
    let q = both (binds_once f) (bind_once fs) h in next (wrote f q.0) (all_wrote fs q.1)

bodies_are : Wrotes (terms_of worked) (map binders_of forms) (map functions_of forms)
bodies_are = all_wrote forms refl

-- the values
pub record PlainValues (vs : List Value) : Type 0 where
  pub are_written : AllWrittenValues vs
  pub functions : concat (map functions_in_value vs) ≡ []

no_values : PlainValues []
no_values = record { are_written = end_of_values; functions = refl }

next_value : {v : Value} {vs : List Value} → PlainValue v → PlainValues vs → PlainValues (v ∷ vs)
next_value {v} {vs} h hs = record {
  are_written = first_value h.is_written hs.are_written;
  functions =
      ap (λ z. z ++ concat (map functions_in_value vs)) h.functions ∙ hs.functions;
}

units : (ns : List ℕ) (vs : List Value) → PlainValues vs
    → PlainValues (map (λ (n : ℕ). (holding n).1) ns ++ vs)
units [] vs h = h
units (n ∷ ns) vs h = next_value plain_unit (units ns vs h)

values_are : PlainValues (constants_of worked)
values_are =
    next_value plain_unit
    (next_value (plain_number (pos 0))
    (next_value (plain_number (pos 0))
    (next_value (truth_plain_value false)
    (units locations _
    (next_value (plain_number (pos 0)) (next_value plain_unit
    (next_value plain_unit no_values)))))))

-- the declarations
abbrev Declared : CoreDecl → Type 0
Declared d = IsDeclared worked d.parameters d.body

primitive_declared : (x : CoreDecl) → is_primitive x.body ≡ true → Declared x
primitive_declared x h = go x.body h
  where
    go : (b : CoreBody) → is_primitive b ≡ true → IsDeclared worked x.parameters b
    go (body.Primitive f) e = tt
    go (body.Plain t) e = absurd cc
    go body.Abstract e = absurd cc
    go (body.New id) e = absurd cc

thread_is : Constructs worked (type 19) (any_function ∷ [])
thread_is =
    record {
      shape = thread_shape;
      is_shape = refl;
      awaited = body_field ∷ [];
      constant = state_field ∷ value_field ∷ next_field ∷ [];
      are_fields = refl;
      have_none = (refl, tt);
      have_constants = ((_, refl), ((_, refl), ((_, refl), tt)));
      are_parameters = refl;
    }

past : (n : ℕ) (f : Form) → binds_once f ≡ true
    → list_any (λ k. nat_lt k n) (binders_of f) ≡ false
    → list_any (λ k. nat_lt k n) (all_binders (term_of f)) ≡ false
past n f h e = ap (list_any (λ k. nat_lt k n)) (wrote f h).binders ∙ e

declarations : (d : DeclId) (x : CoreDecl) → slice_get decls d.0 ≡ Some x → Declared x
declarations d x e =
    of_each Declared primitive_declared (
      tt,
      (
        past 1 wait_form refl refl,
        (
          tt,
          (
            past 1 ready_form refl refl,
            (
              tt,
              (
                past 1 val_form refl refl,
                (
                  thread_is,
                  (
                    past 1 spawn_form refl refl,
                    (
                      past 0 take_form refl refl,
                      (
                        past 1 go_form refl refl,
                        (
                          past 0 serve_form refl refl,
                          (
                            past 1 main_form refl refl,
                            (
                              past 0 run_form refl refl,
                              (past 0 own_form refl refl, tt),
                            ),
                          ),
                        ),
                      ),
                    ),
                  ),
                ),
              ),
            ),
          ),
        ),
      ),
    )
    d.0 x e

pub worked_is_written : WrittenProgram worked
worked_is_written = record {
  terms = bodies_are.are_written;
  values = values_are.are_written;
  numbers =
      subst StandOnce
      (sym (ap (λ z. concat z ++ concat (map functions_in_value (constants_of worked)))
      bodies_are.functions
      ∙ ap (λ z. 0 ∷ 1 ∷ z) values_are.functions)) (refl, (refl, tt));
  declarations = declarations;
}

-- the leaves
module _ (P : TypeId → Type 0) where
  by_leaf : P (type 2) → P (type 3) → P (type 4) → P (type 5) → P (type 6) → (id : TypeId)
      → IsBuiltIn worked id → P id
  by_leaf a b c d e id (inl q) = subst P (sym q) a
  by_leaf a b c d e id (inr (inl q)) = subst P (sym q) b
  by_leaf a b c d e id (inr (inr (inl q))) = subst P (sym q) c
  by_leaf a b c d e id (inr (inr (inr (inl q)))) = subst P (sym q) d
  by_leaf a b c d e id (inr (inr (inr (inr q)))) = subst P (sym q) e

abbrev IsLeaf : TypeId → Type 0
IsLeaf b = slice_get shapes b.0 ≡ Some (plain kind.Leaf)

leaf_shape : (b : TypeId) → IsBuiltIn worked b → IsLeaf b
leaf_shape = by_leaf IsLeaf refl refl refl refl refl

abbrev HasSingle : TypeId → Type 0
HasSingle id = (v : Value) × (single worked id ≡ Some v)

singles : (id : TypeId) → IsFailure worked id → HasSingle id
singles =
    by_failure HasSingle (_, refl) (_, refl) (_, refl) (_, refl) (_, refl) (_, refl) (_, refl) (
      _,
      refl,
    )

differ : (n m : ℕ) → (n ≡ m → ⊥) → type n ≢ type m
differ n m h e = h (ap (λ (t : TypeId). t.0) e)

abbrev is_leaf : CoreKind → Bool
is_leaf kind.Leaf = true
is_leaf _ = false

abbrev leaf_there : Option CoreShape → Bool
leaf_there (Some s) = is_leaf s.kind
leaf_there None = false

abbrev unthrown_at : (ℕ × ℕ) → Bool
unthrown_at a = not (leaf_there (slice_get shapes a.0)) || not (a.1 == 1)

unthrown : (b : TypeId) → IsBuiltIn worked b → Under worked b worked.built_in.exception → ⊥
unthrown b h (inl e) =
    let z : Some (plain kind.Leaf) ≡ Some (plain kind.Trait) =
    sym (leaf_shape b h) ∙ ap (λ (t : TypeId). slice_get shapes t.0) e in
    absurd (let k : is_leaf kind.Leaf ≡ is_leaf kind.Trait = ap leaf_there z
    in let q : true ≡ false = k in cc)
unthrown b h (inr e) =
    let a = passes unthrown_at (all_set 0 rows) refl (b.0, 1) (found rows b.0 1 e) in
    absurd (let q : false ≡ true =
    then_holds (leaf_there (slice_get shapes b.0)) false a (ap leaf_there (leaf_shape b h))
    in cc)

pub worked_complete : Complete worked
worked_complete = record {
  written = worked_is_written;
  singles = singles;
  only = λ b i h u. under_low i b (ap low_of (leaf_shape b h)) u;
  unmade = λ b s h e m.
      let y = some_is (plain kind.Leaf) s (sym (leaf_shape b h) ∙ e)
      in subst (λ (x : CoreShape). Makes x.kind) (sym y) m;
  fieldless = λ b i f A h u x.
      let e = under_low b i (field_low i f A x) u in
      let y = some_is (plain kind.Leaf) thread_shape
      (sym (leaf_shape b h) ∙ ap (λ (t : TypeId). slice_get shapes t.0) e ∙ x.is_shape
      ∙ ap Some (has_thread i f A x)) in
      let k : kind.Leaf ≡ kind.Object = ap (λ (s : CoreShape). s.kind) y in cc;
  unthrown = unthrown;
  small_large = differ 2 3 (λ e. omega (arith, e));
  small_text = differ 2 4 (λ e. omega (arith, e));
  small_truth = differ 2 5 (λ e. omega (arith, e));
  small_range = differ 2 6 (λ e. omega (arith, e));
  truth_large = differ 5 3 (λ e. omega (arith, e));
  truth_text = differ 5 4 (λ e. omega (arith, e));
  truth_range = differ 5 6 (λ e. omega (arith, e));
  range_large = differ 6 3 (λ e. omega (arith, e));
  range_text = differ 6 4 (λ e. omega (arith, e));
  large_text = differ 3 4 (λ e. omega (arith, e));
}
