-- Chapter "Programs as written": which terms and programs are as a component's text gives them,
-- before any step. The translation makes no others; a run's terms have more.
use Rattle.std.specs.Prelude.{◌≡◌, ℕ, false, List, [], ◌∷◌, ◌++◌, map, flat_map, length, slice_get, Some, None, nat_lt}
use Rattle.std.specs.List.{list_any, concat}
use Rattle.fort_base.specs.declared.ids.DeclId.{DeclId}
use Rattle.fort_base.specs.declared.ids.Loc.{Loc}
use Rattle.fort_base.specs.declared.ids.TypeId.{TypeId}
use Rattle.fort_base.specs.declared.ty.Ty.{Ty}
use Rattle.fort_core.specs.declared.form.Span.TheVariants as span
use Rattle.fort_core.specs.declared.program.CoreBody.{CoreBody}
use Rattle.fort_core.specs.declared.program.CoreBody.TheVariants as body
use Rattle.fort_core.specs.declared.program.CoreDecl.{CoreDecl}
use Rattle.fort_core.specs.declared.program.CoreField.{CoreField}
use Rattle.fort_core.specs.declared.program.CoreShape.{CoreShape}
use Rattle.fort_core.specs.declared.program.Program.{Program}
use Rattle.fort_core.specs.declared.term.Term.{Term, Group, Fn, out-Term, fold-Term}
use Rattle.fort_core.specs.declared.term.Term.TheOpen.{Term-F, Value-F, Closure-F}
use Rattle.fort_core.specs.declared.value.Closure.{Closure}
use Rattle.fort_core.specs.declared.value.Value.{Value, out-Value, fold-Value}
use Rattle.fort_machine.specs.Ends.{group}
use Rattle.fort_machine.specs.Parts.{in_clauses, parts_of, terms_in, values_in, values_of, bodies_of}
use Rattle.fort_machine.specs.Scopes.{variables, is_among, function}
use Rattle.fort_machine.specs.Calls.{constants}
use Rattle.fort_machine.specs.Marked.{Bare}

-- No form stands that only a run makes: none asleep, no halves, no part of a generator that runs,
-- no mark.
abbrev pub IsBeforeRuns : {A B C : Type 0} → Term-F A B C → Type 0
IsBeforeRuns (Term-F.For order s x a b) = s ≡ span.Whole
IsBeforeRuns (Term-F.ForHalves a b) = ⊥
IsBeforeRuns (Term-F.Reduce order s set empty x a b) = s ≡ span.Whole
IsBeforeRuns (Term-F.ReduceHalves set a b) = ⊥
IsBeforeRuns (Term-F.Asleep marks a) = ⊥
IsBeforeRuns (Term-F.Stepped a) = ⊥
IsBeforeRuns _ = Unit {0}

-- What could be a value is no form: up to the greatest depth a tuple of values is that value, and
-- so is a function that holds all that it needs.
abbrev pub IsNoValue : Term-F Term Value Closure → Type 0
IsNoValue (Term-F.Group ts) = group ts ≡ Group ts
IsNoValue (Term-F.Fn c) = function c ≡ Fn c
IsNoValue _ = Unit {0}

-- The variables that a form binds; a function's are its closure's.
abbrev pub binders_of : {A B C : Type 0} → Term-F A B C → List ℕ
binders_of (Term-F.Let xs a b) = variables xs
binders_of (Term-F.Mutable x ty a b) = x ∷ []
binders_of (Term-F.Typecase x a cs b) = x ∷ []
binders_of (Term-F.For order s x a b) = x ∷ []
binders_of (Term-F.Reduce order s set empty x a b) = x ∷ []
binders_of (Term-F.Try a x cs last) = x ∷ []
binders_of _ = []

-- The terms of a form in which its variables are bound.
abbrev pub bound_in : {A B C : Type 0} → Term-F A B C → List A
bound_in (Term-F.Let xs a b) = b ∷ []
bound_in (Term-F.Mutable x ty a b) = b ∷ []
bound_in (Term-F.Typecase x a cs b) = b ∷ in_clauses cs
bound_in (Term-F.For order s x a b) = b ∷ []
bound_in (Term-F.Reduce order s set empty x a b) = b ∷ []
bound_in (Term-F.Try a x cs last) = in_clauses cs
bound_in _ = []

-- The variables that a function binds: its parameters, and what it holds.
abbrev pub closure_binders : {A B C : Type 0} → Closure-F A B C → List ℕ
closure_binders c = variables c.parameters ++ variables c.held

-- All variables that are bound in a form, a function's by its closure.
abbrev pub all_binders_at : Term-F (List ℕ) (Unit {0}) (List ℕ) → List ℕ
all_binders_at (Term-F.Fn c) = c
all_binders_at form = binders_of form ++ concat (parts_of form)

-- All variables that are bound in a term, bodies of functions included; values are closed.
abbrev pub all_binders : Term → List ℕ
all_binders =
    fold-Term (List ℕ) (Unit {0}) (List ℕ) all_binders_at (λ v. tt)
    (λ c. closure_binders c ++ c.body)

-- No number of one list stands in another one.
abbrev pub AreApart : List ℕ → List ℕ → Type 0
AreApart ns ms = list_any (λ n. is_among n ms) ns ≡ false

-- Each number of a list stands in it once.
abbrev pub StandOnce : List ℕ → Type 0
StandOnce [] = Unit {0}
StandOnce (n ∷ ns) = (is_among n ns ≡ false) × StandOnce ns

-- Variables are bound in terms once: they differ, and no binder of theirs stands in those terms.
abbrev pub BindsOnce : List ℕ → List Term → Type 0
BindsOnce xs ts = StandOnce xs × AreApart xs (concat (map all_binders ts))

-- No binder stands inside another one of its number.
abbrev pub IsUnnested : Term-F Term Value Closure → Type 0
IsUnnested (Term-F.Fn c) = BindsOnce (variables c.parameters ++ variables c.held) (c.body ∷ [])
IsUnnested form = BindsOnce (binders_of form) (bound_in form)

-- A form is as it is written, but for what stands in it.
pub record IsWritten (form : Term-F Term Value Closure) : Type 0 where
  pub before_runs : IsBeforeRuns form
  pub no_value : IsNoValue form
  pub unnested : IsUnnested form

-- Nothing in a value but a function's variables is written: they are bound once.
abbrev pub IsWrittenValue : Value-F Term Value Closure → Type 0
IsWrittenValue (Value-F.Function c) =
    BindsOnce (variables c.parameters ++ variables c.held) (c.body ∷ [])
IsWrittenValue _ = Unit {0}

-- A term is as it is written where each form in it is, bodies of functions and what stands in
-- values included.
mutual
  pub data Written : Term → Type 0 where
    written : {t : Term} → IsWritten (out-Term t) → AllWritten (terms_in (out-Term t))
        → AllWrittenValues (values_in (out-Term t)) → Written t

  pub data AllWritten : List Term → Type 0 where
    end_of_terms : AllWritten []
    first_term : {t : Term} {ts : List Term} → Written t → AllWritten ts → AllWritten (t ∷ ts)

  pub data WrittenValue : Value → Type 0 where
    written_value : {v : Value} → IsWrittenValue (out-Value v)
        → AllWritten (bodies_of (out-Value v)) → AllWrittenValues (values_of (out-Value v))
        → WrittenValue v

  pub data AllWrittenValues : List Value → Type 0 where
    end_of_values : AllWrittenValues []
    first_value : {v : Value} {vs : List Value} → WrittenValue v → AllWrittenValues vs
        → AllWrittenValues (v ∷ vs)

-- The numbers of the functions in a form.
abbrev pub functions_at : Term-F (List ℕ) (List ℕ) (List ℕ) → List ℕ
functions_at (Term-F.Value v) = v
functions_at (Term-F.Fn c) = c
functions_at form = concat (parts_of form)

-- The numbers of the functions in a value, by its kind.
abbrev pub value_functions_at : Value-F (List ℕ) (List ℕ) (List ℕ) → List ℕ
value_functions_at (Value-F.Tuple vs) = concat vs
value_functions_at (Value-F.Function c) = c
value_functions_at _ = []

-- The number of a function, and those of the functions in it.
abbrev pub closure_functions_at : Closure-F (List ℕ) (List ℕ) (List ℕ) → List ℕ
closure_functions_at c = c.number ∷ (c.body ++ concat (map (λ (h : ℕ × List ℕ). h.1) c.held))

-- The numbers of the functions in a term.
abbrev pub functions_in : Term → List ℕ
functions_in =
    fold-Term (List ℕ) (List ℕ) (List ℕ) functions_at value_functions_at closure_functions_at

-- The numbers of the functions in a value.
abbrev pub functions_in_value : Value → List ℕ
functions_in_value =
    fold-Value (List ℕ) (List ℕ) (List ℕ) functions_at value_functions_at closure_functions_at

-- The term as which a body goes on, where it is one.
abbrev pub term_of : CoreBody → List Term
term_of (body.Plain t) = t ∷ []
term_of _ = []

-- The terms of a program: the first one, and the bodies of its declarations.
abbrev pub terms_of : Program → List Term
terms_of p = p.first ∷ flat_map (λ (d : CoreDecl). term_of d.body) p.decls

-- The values of a program: those of the opening store, and the constants of fields.
abbrev pub constants_of : Program → List Value
constants_of p = map (λ (e : Loc × Value). e.1) p.opening ++ flat_map constants p.shapes

-- The numbers of a program's functions, each as often as it is written.
abbrev pub all_functions : Program → List ℕ
all_functions p =
    concat (map functions_in (terms_of p)) ++ concat (map functions_in_value (constants_of p))

-- No binder in a declaration's body has the number of a parameter.
abbrev pub BindsPast : List Ty → Term → Type 0
BindsPast parameters t = list_any (λ n. nat_lt n (length parameters)) (all_binders t) ≡ false

-- Fields without a constant.
abbrev pub HaveNone : List CoreField → Type 0
HaveNone [] = Unit {0}
HaveNone (f ∷ fs) = (f.initial ≡ None) × HaveNone fs

-- Fields with constants.
abbrev pub HaveConstants : List CoreField → Type 0
HaveConstants [] = Unit {0}
HaveConstants (f ∷ fs) = ((v : Value) × (f.initial ≡ Some v)) × HaveConstants fs

-- A constructor takes a value for each field of its type that has no constant, in their order;
-- these fields come first.
pub record Constructs (p : Program) (id : TypeId) (parameters : List Ty) : Type 0 where
  pub shape : CoreShape
  pub is_shape : slice_get p.shapes id.0 ≡ Some shape
  pub awaited : List CoreField
  pub constant : List CoreField
  pub are_fields : shape.fields ≡ awaited ++ constant
  pub have_none : HaveNone awaited
  pub have_constants : HaveConstants constant
  pub are_parameters : map (λ (f : CoreField). f.ty) awaited ≡ parameters

-- A declaration is as it is written: a body's parameters are the variables from 0 on, bound nowhere
-- in it; a constructor has its parameters.
abbrev pub IsDeclared : Program → List Ty → CoreBody → Type 0
IsDeclared p parameters (body.Plain t) = BindsPast parameters t
IsDeclared p parameters (body.New id) = Constructs p id parameters
IsDeclared p parameters _ = Unit {0}

-- A program is as it is written where its terms and values are, two functions at two places differ
-- by their numbers, and each declaration is.
pub record WrittenProgram (p : Program) : Type 0 where
  pub terms : AllWritten (terms_of p)
  pub values : AllWrittenValues (constants_of p)
  pub numbers : StandOnce (all_functions p)
  pub declarations : (d : DeclId) (decl : CoreDecl) → slice_get p.decls d.0 ≡ Some decl
      → IsDeclared p decl.parameters decl.body

-- In a term as it is written no form sleeps.
abbrev pub WrittenIsBare : Type 0
WrittenIsBare = (t : Term) → Written t → Bare t
