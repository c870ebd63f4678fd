-- Chapter "Types of closed terms": types of terms and values, over a program and the types of the
-- locations. There is one rule for all forms; it says by the form what its parts and its values
-- must have. No code types a term of a run.
use Rattle.std.specs.Prelude.{◌≡◌, ℕ, ℤ, pos, ◌+ℤ◌, true, ◌+◌, ◌<◌, ◌≤◌, ◌⊎◌, IsTrue, List, [], ◌∷◌, ◌++◌, slice_get, Option, Some, None}
use Rattle.std.specs.Int.{Width, w32, w64}
use Rattle.fort_base.specs.declared.ids.DeclId.{DeclId}
use Rattle.fort_base.specs.declared.ids.Loc.{Loc}
use Rattle.fort_base.specs.declared.ids.NameId.{NameId}
use Rattle.fort_base.specs.declared.ids.SetId.{SetId}
use Rattle.fort_base.specs.declared.ids.TypeId.{TypeId}
use Rattle.fort_base.specs.declared.ty.Ty.{Ty, Tuple, Arrow, Array}
use Rattle.fort_base.specs.declared.ty.Ty.TheVariants.{Named}
use Rattle.fort_core.specs.declared.form.Slot.{Slot}
use Rattle.fort_core.specs.declared.form.Slot.TheVariants as slot
use Rattle.fort_core.specs.declared.form.Span.{Span}
use Rattle.fort_core.specs.declared.form.Span.TheVariants as span
use Rattle.fort_core.specs.declared.program.CoreDecl.{CoreDecl}
use Rattle.fort_core.specs.declared.program.CoreField.{CoreField}
use Rattle.fort_core.specs.declared.program.CoreKind.{CoreKind}
use Rattle.fort_core.specs.declared.program.CoreKind.TheVariants as kind
use Rattle.fort_core.specs.declared.program.CoreShape.{CoreShape}
use Rattle.fort_core.specs.declared.program.Program.{Program}
use Rattle.fort_core.specs.declared.term.Term.{Term, out-Term}
use Rattle.fort_core.specs.declared.term.Term as term
use Rattle.fort_core.specs.declared.term.Term.TheOpen.{Term-F, Value-F}
use Rattle.fort_core.specs.declared.value.Closure.{Closure}
use Rattle.fort_core.specs.declared.value.Value.{Value, out-Value}
use Rattle.fort_machine.specs.Types.{below, domain_of}
use Rattle.fort_machine.specs.Numbers.{is_within}
use Rattle.fort_machine.specs.Parts.{terms_in, values_in, values_of, bodies_of}
use Rattle.fort_machine.specs.Calls.{IsApplicable}
use Rattle.fort_machine.specs.Forms.{place_of}
use Rattle.fort_machine.specs.Generators.{Items, numbers_from, elements_from, no_items, items_at}
use Rattle.fort_sound_typed.specs.Envs.{Sort, fixed, cell, Sig, Env, none, binds, Distinct, Fresh, fixed_all, named, Part, plain, bound, plains}

-- One type is below another: it is that type; or it is below it as a run computes from the rows; or
-- both are tuples of such. The rows say nothing of a type that the program doesn't number, so what
-- a run computes isn't reflexive.
mutual
  pub data Below (p : Program) : Ty → Ty → Type 0 where
    is_same : {A B : Ty} → A ≡ B → Below p A B
    is_told : {A B : Ty} → IsTrue (below p A B) → Below p A B
    is_rows : {A B : Ty} {As Bs : List Ty} → A ≡ Tuple As → B ≡ Tuple Bs → EachBelow p As Bs
        → Below p A B

  pub data EachBelow (p : Program) : List Ty → List Ty → Type 0 where
    each0 : EachBelow p [] []
    each1 : {A B : Ty} {As Bs : List Ty} → Below p A B → EachBelow p As Bs
        → EachBelow p (A ∷ As) (B ∷ Bs)

-- The type of `()`.
abbrev pub unit_type : Ty
unit_type = Tuple []

-- The type ZZ32.
abbrev pub small_type : Program → Ty
small_type p = Named p.built_in.small

-- The type Boolean.
abbrev pub truth_type : Program → Ty
truth_type p = Named p.built_in.truth

-- The type of all that is thrown, `Exception`.
abbrev pub thrown_type : Program → Ty
thrown_type p = Named p.built_in.exception

-- The shape of a declared type.
abbrev pub ShapeOf : Program → TypeId → CoreShape → Type 0
ShapeOf p id s = slice_get p.shapes id.0 ≡ Some s

-- Some values are of that type, and of no type below it.
abbrev pub Makes : CoreKind → Type 0
Makes kind.Object = Unit {0}
Makes (kind.Single base) = Unit {0}
Makes _ = ⊥

-- A declared type has a field of a name, at a place among its fields, and of a type.
pub record FieldOf (p : Program) (id : TypeId) (f : NameId) (A : Ty) : Type 0 where
  pub shape : CoreShape
  pub place : ℕ
  pub field : CoreField
  pub is_shape : ShapeOf p id shape
  pub is_place : place_of f shape.fields ≡ Some place
  pub is_field : slice_get shape.fields place ≡ Some field
  pub is_type : field.ty ≡ A

-- The locations of an object have the types of its fields.
pub record ObjectFits (p : Program) (S : Sig) (id : TypeId) (base : ℕ) : Type 0 where
  pub shape : CoreShape
  pub is_shape : ShapeOf p id shape
  pub is_made : Makes shape.kind
  pub located : (n : ℕ) (c : CoreField) → slice_get shape.fields n ≡ Some c
      → S (base + n) ≡ Some c.ty

-- The variables of a function's body: its parameters, and what it holds, at these types.
abbrev pub vars_of : Closure → List Ty → List (ℕ × Sort)
vars_of c ws = fixed_all c.parameters ++ named c.held ws

-- A function's body has the result's type; its variables stand once; it has the type from what it
-- takes to its result.
abbrev pub ClosureFits : Closure → List Part → List Ty → Ty → Type 0
ClosureFits c qs ws R = (qs ≡ record { vars = vars_of c ws; type = c.result } ∷ [])
    × Distinct (vars_of c ws) × (R ≡ Arrow (domain_of c.parameters) c.result)

-- A mutable variable holds what is of a type.
abbrev pub SlotHas : Sig → Env → Slot → Ty → Type 0
SlotHas S G (slot.Variable x) A = G x ≡ Some (cell A)
SlotHas S G (slot.Location l) A = S l.0 ≡ Some A

-- The items of a source of that type.
abbrev pub ItemsOf : Program → Ty → Ty → Type 0
ItemsOf p A I = ((A ≡ Named p.built_in.range) × (I ≡ small_type p)) ⊎ (A ≡ Array I)

-- How many items there are.
abbrev pub count_of : Items → ℕ
count_of (numbers_from first count) = count
count_of (elements_from base count) = count
count_of no_items = 0

-- A part of a generator that runs lies within its source, which is a value.
abbrev pub SpanFits : Span → Term → Type 0
SpanFits span.Whole a = Unit {0}
SpanFits (span.Part n m) a = (source : Value) × (a ≡ term.Value source)
    × (n + m ≤ count_of (items_at (out-Value source)))

-- What clauses have, each with the variable at the clause's type.
abbrev pub clauses : {A : Type 0} → ℕ → List (A × Ty) → Ty → List Part
clauses x [] R = []
clauses x (c ∷ cs) R = bound x c.1 R ∷ clauses x cs R

-- What a `finally` has, where there is one: any type.
abbrev pub last_parts : {A : Type 0} → Option A → Ty → List Part
last_parts None L = []
last_parts (Some t) L = plain L ∷ []

-- What a sleeping form read, at the types of the locations.
abbrev pub MarksFit : Sig → List (Loc × Value) → List Ty → Type 0
MarksFit S [] [] = Unit {0}
MarksFit S (m ∷ ms) (w ∷ ws) = (S m.0.0 ≡ Some w) × MarksFit S ms ws
MarksFit S _ _ = ⊥

-- Some declaration of a set is applicable to types, with that result.
abbrev pub Called : Program → SetId → List Ty → Ty → Type 0
Called p set As R = (d : DeclId) × (decl : CoreDecl) × IsApplicable p set As d decl
    × (R ≡ decl.result)

-- What the parts and the values of a form must have, for it to have a type.
abbrev pub Fits : Program → Sig → Env → Term-F Term Value Closure → List Part → List Ty → Ty
    → Type 0
Fits p S G (Term-F.Value v) qs ws R = (qs ≡ []) × (ws ≡ R ∷ [])
Fits p S G (Term-F.Throw a) qs ws R = qs ≡ plain (thrown_type p) ∷ []
Fits p S G (Term-F.Variable x) qs ws R = G x ≡ Some (fixed R)
Fits p S G (Term-F.Group parts) qs ws R = (As : List Ty) × (qs ≡ plains As) × (R ≡ Tuple As)
Fits p S G (Term-F.Fn c) qs ws R = ClosureFits c qs ws R
Fits p S G (Term-F.Call set arguments) qs ws R = (As : List Ty) × (qs ≡ plains As)
    × Called p set As R
Fits p S G (Term-F.Operator set operands) qs ws R = (As : List Ty) × (qs ≡ plains As)
    × Called p set As R
Fits p S G (Term-F.Apply f a) qs ws R = (A : Ty) × (qs ≡ plain (Arrow A R) ∷ plain A ∷ [])
Fits p S G (Term-F.Fill ty n v) qs ws R = (qs ≡ plain (small_type p) ∷ plain ty ∷ [])
    × (R ≡ Array ty)
Fits p S G (Term-F.Let xs a b) qs ws R =
    (qs ≡ plain (domain_of xs) ∷ record { vars = fixed_all xs; type = R } ∷ [])
    × Distinct (fixed_all xs)
Fits p S G (Term-F.Mutable x ty a b) qs ws R =
    qs ≡ plain ty ∷ record { vars = (x, cell ty) ∷ []; type = R } ∷ []
Fits p S G (Term-F.Read x) qs ws R = SlotHas S G x R
Fits p S G (Term-F.Write x a) qs ws R = (A : Ty) × SlotHas S G x A × (qs ≡ plain A ∷ [])
    × (R ≡ unit_type)
Fits p S G (Term-F.ReadField o f) qs ws R = (id : TypeId) × FieldOf p id f R
    × (qs ≡ plain (Named id) ∷ [])
Fits p S G (Term-F.WriteField o f a) qs ws R = (id : TypeId) × (A : Ty) × (i : FieldOf p id f A)
    × Makes i.shape.kind × (qs ≡ plain (Named id) ∷ plain A ∷ []) × (R ≡ unit_type)
Fits p S G (Term-F.ReadElement a i) qs ws R = qs ≡ plain (Array R) ∷ plain (small_type p) ∷ []
Fits p S G (Term-F.WriteElement a i b) qs ws R = (A : Ty)
    × (qs ≡ plain (Array A) ∷ plain (small_type p) ∷ plain A ∷ []) × (R ≡ unit_type)
Fits p S G (Term-F.Size a) qs ws R = (A : Ty) × (qs ≡ plain (Array A) ∷ []) × (R ≡ small_type p)
Fits p S G (Term-F.Then a b) qs ws R = (A : Ty) × (qs ≡ plain A ∷ plain R ∷ [])
Fits p S G (Term-F.If c a b) qs ws R = qs ≡ plain (truth_type p) ∷ plain R ∷ plain R ∷ []
Fits p S G (Term-F.While c b) qs ws R = (B : Ty) × (qs ≡ plain (truth_type p) ∷ plain B ∷ [])
    × (R ≡ unit_type)
Fits p S G (Term-F.Typecase x a cs b) qs ws R = (A : Ty)
    × (qs ≡ plain A ∷ bound x A R ∷ clauses x cs R)
Fits p S G (Term-F.For o s x a b) qs ws R = (A : Ty) × (I : Ty) × ItemsOf p A I × SpanFits s a
    × (qs ≡ plain A ∷ bound x I unit_type ∷ []) × (R ≡ unit_type)
Fits p S G (Term-F.ForHalves a b) qs ws R = (A : Ty) × (B : Ty) × (qs ≡ plain A ∷ plain B ∷ [])
    × (R ≡ unit_type)
Fits p S G (Term-F.Reduce o s set empty x a b) qs ws R =
    (A : Ty) × (I : Ty) × (C : Ty) × ItemsOf p A I × SpanFits s a
    × (qs ≡ plain R ∷ plain A ∷ bound x I R ∷ []) × Called p set (R ∷ R ∷ []) C × Below p C R
Fits p S G (Term-F.ReduceHalves set a b) qs ws R = (A : Ty) × (B : Ty)
    × (qs ≡ plain A ∷ plain B ∷ []) × Called p set (A ∷ B ∷ []) R
Fits p S G (Term-F.Also blocks) qs ws R = (As : List Ty) × (qs ≡ plains As) × (R ≡ unit_type)
Fits p S G (Term-F.Try a x cs last) qs ws R = (L : Ty)
    × (qs ≡ plain R ∷ (last_parts last L ++ clauses x cs R))
Fits p S G (Term-F.Atomic mode a) qs ws R = qs ≡ plain R ∷ []
Fits p S G (Term-F.Asleep marks a) qs ws R = (qs ≡ plain R ∷ []) × MarksFit S marks ws
Fits p S G (Term-F.Stepped a) qs ws R = qs ≡ plain R ∷ []

-- A number is one of ZZ32, or of ZZ64.
abbrev pub IsNumber : Width → ℤ → Type 0
IsNumber w n = is_within w n ≡ true

-- Each number of a range is one of ZZ32.
abbrev pub RangeFits : ℤ → ℕ → Type 0
RangeFits first count = IsNumber w32 first × ((n : ℕ) → n < count → IsNumber w32 (first +ℤ pos n))

-- Each location of an array has its elements' type, and its size is a ZZ32.
abbrev pub ArrayFits : Sig → Ty → ℕ → ℕ → Type 0
ArrayFits S e base size = ((n : ℕ) → n < size → S (base + n) ≡ Some e) × IsNumber w32 (pos size)

-- The same of a value.
abbrev pub FitsV : Program → Sig → Value-F Term Value Closure → List Part → List Ty → Ty → Type 0
FitsV p S (Value-F.Small n) qs ws R = (R ≡ small_type p) × IsNumber w32 n
FitsV p S (Value-F.Large n) qs ws R = (R ≡ Named p.built_in.large) × IsNumber w64 n
FitsV p S (Value-F.Truth b) qs ws R = R ≡ truth_type p
FitsV p S (Value-F.Text s) qs ws R = R ≡ Named p.built_in.text
FitsV p S (Value-F.Tuple vs) qs ws R = R ≡ Tuple ws
FitsV p S (Value-F.Range first count) qs ws R = (R ≡ Named p.built_in.range) × RangeFits first count
FitsV p S (Value-F.Object id base) qs ws R = ObjectFits p S id base.0 × (R ≡ Named id)
FitsV p S (Value-F.Array e base size) qs ws R = ArrayFits S e base.0 size × (R ≡ Array e)
FitsV p S (Value-F.Function c) qs ws R = ClosureFits c qs ws R

-- A term has a type: its form's, or one above that. So do the parts of a form, each with the
-- variables that the form binds in it, values, and lists of values.
mutual
  pub data Has (p : Program) (S : Sig) : Env → Term → Ty → Type 0 where
    has : {G : Env} {t : Term} {T : Ty} (R : Ty) (qs : List Part) (ws : List Ty)
        → Fits p S G (out-Term t) qs ws R
        → HasParts p S G (terms_in (out-Term t)) qs → HasVs p S (values_in (out-Term t)) ws
        → Below p R T → Has p S G t T

  pub data HasParts (p : Program) (S : Sig) : Env → List Term → List Part → Type 0 where
    parts0 : {G : Env} → HasParts p S G [] []
    parts1 : {G : Env} {t : Term} {ts : List Term} {q : Part} {qs : List Part} → Fresh q.vars G
        → Has p S (binds q.vars G) t q.type
        → HasParts p S G ts qs → HasParts p S G (t ∷ ts) (q ∷ qs)

  pub data HasV (p : Program) (S : Sig) : Value → Ty → Type 0 where
    has_v : {v : Value} {T : Ty} (R : Ty) (qs : List Part) (ws : List Ty)
        → FitsV p S (out-Value v) qs ws R
        → HasParts p S none (bodies_of (out-Value v)) qs → HasVs p S (values_of (out-Value v)) ws
        → Below p R T → HasV p S v T

  pub data HasVs (p : Program) (S : Sig) : List Value → List Ty → Type 0 where
    vs0 : HasVs p S [] []
    vs1 : {v : Value} {vs : List Value} {A : Ty} {As : List Ty} → HasV p S v A → HasVs p S vs As
        → HasVs p S (v ∷ vs) (A ∷ As)
