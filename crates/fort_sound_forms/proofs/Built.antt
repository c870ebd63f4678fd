-- Each form of a term: its type from those of its parts.
use Rattle.std.proofs.Common.{◌≡◌, ℕ, List, [], ◌∷◌, ◌++◌, Option, Some, refl}
use Rattle.std.specs.Prelude.{option_to_list}
use Rattle.fort_base.specs.declared.ids.NameId.{NameId}
use Rattle.fort_base.specs.declared.ids.SetId.{SetId}
use Rattle.fort_base.specs.declared.ids.TypeId.{TypeId}
use Rattle.fort_base.specs.declared.ty.Ty.{Ty, Arrow, Array}
use Rattle.fort_base.specs.declared.ty.Ty.TheVariants.{Named}
use Rattle.fort_core.specs.declared.form.Mode.{Mode}
use Rattle.fort_core.specs.declared.form.Order.{Order}
use Rattle.fort_core.specs.declared.form.Slot.{Slot}
use Rattle.fort_core.specs.declared.form.Span.TheVariants as span
use Rattle.fort_core.specs.declared.program.Program.{Program}
use Rattle.fort_core.specs.declared.term.Term.{Term, out-Term, Throw, Variable, Call, Operator, Apply, Fill, Let, Mutable, Read, Write, ReadField, WriteField, ReadElement, WriteElement, Size, Then, If, While, Typecase, For, Reduce, Also, Try, Atomic}
use Rattle.fort_core.specs.declared.term.Term.TheVariants.{outs-Throw, outs-Variable, outs-Call, outs-Operator, outs-Apply, outs-Fill, outs-Let, outs-Mutable, outs-Read, outs-Write, outs-ReadField, outs-WriteField, outs-ReadElement, outs-WriteElement, outs-Size, outs-Then, outs-If, outs-While, outs-Typecase, outs-For, outs-Reduce, outs-Also, outs-Try, outs-Atomic}
use Rattle.fort_core.specs.declared.term.Term.TheOpen.{Term-F}
use Rattle.fort_core.specs.declared.value.Closure.{Closure}
use Rattle.fort_core.specs.declared.value.Value.{Value}
use Rattle.fort_machine.specs.Types.{domain_of}
use Rattle.fort_machine.specs.Parts.{terms_in, values_in, in_clauses}
use Rattle.fort_sound_typed.specs.Envs.{Sig, Env, fixed, cell, bind, binds, Distinct, Fresh, fixed_all, Part, plain, bound, plains}
use Rattle.fort_sound_typed.specs.Typing.{Below, is_same, unit_type, small_type, truth_type, thrown_type, Makes, FieldOf, SlotHas, ItemsOf, clauses, last_parts, Called, Fits, Has, HasParts, parts0, parts1, HasVs, vs0}
use Rattle.fort_sound_typed.proofs.Rules.{has_at, never, one_part, two_parts, three_parts}

module _ (p : Program) (S : Sig) where
  put : {G : Env} {t : Term} {T : Ty} {l : Term-F Term Value Closure} → out-Term t ≡ l
      → (qs : List Part) → Fits p S G l qs [] T → HasParts p S G (terms_in l) qs
      → HasVs p S (values_in l) [] → Has p S G t T
  put {T = T} e qs f ps vs =
      has_at p S e
      (record {
        own = T;
        qs = qs;
        ws = [];
        fits = f;
        parts = ps;
        values = vs;
        below = is_same refl;
      })

  pub has-Throw : {G : Env} {a : Term} (T : Ty) → Has p S G a (thrown_type p)
      → Has p S G (Throw a) T
  has-Throw {a = a} T h = put (outs-Throw a) (plain (thrown_type p) ∷ []) refl (one_part p S h) vs0

  pub has-Variable : {G : Env} {T : Ty} (x : ℕ) → G x ≡ Some (fixed T) → Has p S G (Variable x) T
  has-Variable x e = put (outs-Variable x) [] e parts0 vs0

  pub has-Call : {G : Env} {T : Ty} (set : SetId) (ts : List Term) (As : List Ty)
      → HasParts p S G ts (plains As) → Called p set As T → Has p S G (Call set ts) T
  has-Call set ts As h c = put (outs-Call set ts) (plains As) (As, refl, c) h vs0

  pub has-Operator : {G : Env} {T : Ty} (set : SetId) (ts : List Term) (As : List Ty)
      → HasParts p S G ts (plains As) → Called p set As T → Has p S G (Operator set ts) T
  has-Operator set ts As h c = put (outs-Operator set ts) (plains As) (As, refl, c) h vs0

  pub has-Apply : {G : Env} {f a : Term} {A T : Ty} → Has p S G f (Arrow A T) → Has p S G a A
      → Has p S G (Apply f a) T
  has-Apply {f = f} {a = a} {A = A} {T = T} h i =
      put (outs-Apply f a) (plain (Arrow A T) ∷ plain A ∷ []) (A, refl) (two_parts p S h i) vs0

  pub has-Fill : {G : Env} {n v : Term} (ty : Ty) → Has p S G n (small_type p) → Has p S G v ty
      → Has p S G (Fill ty n v) (Array ty)
  has-Fill {n = n} {v = v} ty h i =
      put (outs-Fill ty n v) (plain (small_type p) ∷ plain ty ∷ []) (refl, refl) (two_parts p S h i)
      vs0

  pub has-Let : {G : Env} {a b : Term} {T : Ty} (xs : List (ℕ × Ty)) → Distinct (fixed_all xs)
      → Fresh (fixed_all xs) G → Has p S G a (domain_of xs) → Has p S (binds (fixed_all xs) G) b T
      → Has p S G (Let xs a b) T
  has-Let {G} {a} {b} {T} xs d n h i =
      put (outs-Let xs a b) (plain (domain_of xs) ∷ record { vars = fixed_all xs; type = T } ∷ [])
      (refl, d) (parts1 (never p S G) h (parts1 n i parts0)) vs0

  pub has-Mutable : {G : Env} {a b : Term} {T : Ty} (x : ℕ) (ty : Ty) → Fresh ((x, cell ty) ∷ []) G
      → Has p S G a ty → Has p S (bind x (cell ty) G) b T → Has p S G (Mutable x ty a b) T
  has-Mutable {G} {a} {b} {T} x ty n h i =
      put (outs-Mutable x ty a b) (plain ty ∷ record { vars = (x, cell ty) ∷ []; type = T } ∷ [])
      refl (parts1 (never p S G) h (parts1 n i parts0)) vs0

  pub has-Read : {G : Env} {T : Ty} (x : Slot) → SlotHas S G x T → Has p S G (Read x) T
  has-Read x e = put (outs-Read x) [] e parts0 vs0

  pub has-Write : {G : Env} {a : Term} {A : Ty} (x : Slot) → SlotHas S G x A → Has p S G a A
      → Has p S G (Write x a) unit_type
  has-Write {a = a} {A = A} x e h =
      put (outs-Write x a) (plain A ∷ []) (A, e, refl, refl) (one_part p S h) vs0

  pub has-ReadField : {G : Env} {o : Term} {T : Ty} (id : TypeId) (f : NameId) → FieldOf p id f T
      → Has p S G o (Named id) → Has p S G (ReadField o f) T
  has-ReadField {o = o} id f i h =
      put (outs-ReadField o f) (plain (Named id) ∷ []) (id, i, refl) (one_part p S h) vs0

  pub has-WriteField : {G : Env} {o a : Term} {A : Ty} (id : TypeId) (f : NameId)
      (i : FieldOf p id f A) → Makes i.shape.kind → Has p S G o (Named id) → Has p S G a A
      → Has p S G (WriteField o f a) unit_type
  has-WriteField {o = o} {a = a} {A = A} id f i m h j =
      put (outs-WriteField o f a) (plain (Named id) ∷ plain A ∷ []) (id, A, i, m, refl, refl)
      (two_parts p S h j) vs0

  pub has-ReadElement : {G : Env} {a i : Term} {T : Ty} → Has p S G a (Array T)
      → Has p S G i (small_type p) → Has p S G (ReadElement a i) T
  has-ReadElement {a = a} {i = i} {T = T} h j =
      put (outs-ReadElement a i) (plain (Array T) ∷ plain (small_type p) ∷ []) refl
      (two_parts p S h j) vs0

  pub has-WriteElement : {G : Env} {a i b : Term} {A : Ty} → Has p S G a (Array A)
      → Has p S G i (small_type p) → Has p S G b A → Has p S G (WriteElement a i b) unit_type
  has-WriteElement {a = a} {i = i} {b = b} {A = A} h j l =
      put (outs-WriteElement a i b) (plain (Array A) ∷ plain (small_type p) ∷ plain A ∷ []) (
        A,
        refl,
        refl,
      ) (three_parts p S h j l) vs0

  pub has-Size : {G : Env} {a : Term} (A : Ty) → Has p S G a (Array A)
      → Has p S G (Size a) (small_type p)
  has-Size {a = a} A h =
      put (outs-Size a) (plain (Array A) ∷ []) (A, refl, refl) (one_part p S h) vs0

  pub has-Then : {G : Env} {a b : Term} {A T : Ty} → Has p S G a A → Has p S G b T
      → Has p S G (Then a b) T
  has-Then {a = a} {b = b} {A = A} {T = T} h i =
      put (outs-Then a b) (plain A ∷ plain T ∷ []) (A, refl) (two_parts p S h i) vs0

  pub has-If : {G : Env} {c a b : Term} {T : Ty} → Has p S G c (truth_type p) → Has p S G a T
      → Has p S G b T → Has p S G (If c a b) T
  has-If {c = c} {a = a} {b = b} {T = T} h i j =
      put (outs-If c a b) (plain (truth_type p) ∷ plain T ∷ plain T ∷ []) refl
      (three_parts p S h i j) vs0

  pub has-While : {G : Env} {c b : Term} {B : Ty} → Has p S G c (truth_type p) → Has p S G b B
      → Has p S G (While c b) unit_type
  has-While {c = c} {b = b} {B = B} h i =
      put (outs-While c b) (plain (truth_type p) ∷ plain B ∷ []) (B, refl, refl) (two_parts p S h i)
      vs0

  pub has-Typecase : {G : Env} {a b : Term} {A T : Ty} (x : ℕ) (cs : List (Term × Ty))
      → Fresh ((x, fixed A) ∷ []) G → Has p S G a A → Has p S (bind x (fixed A) G) b T
      → HasParts p S G (in_clauses cs) (clauses x cs T) → Has p S G (Typecase x a cs b) T
  has-Typecase {G} {a} {b} {A} {T} x cs n h i j =
      put (outs-Typecase x a cs b) (plain A ∷ bound x A T ∷ clauses x cs T) (A, refl)
      (parts1 (never p S G) h (parts1 n i j)) vs0

  pub has-For : {G : Env} {a b : Term} {A I : Ty} (o : Order) (x : ℕ) → ItemsOf p A I
      → Fresh ((x, fixed I) ∷ []) G → Has p S G a A → Has p S (bind x (fixed I) G) b unit_type
      → Has p S G (For o span.Whole x a b) unit_type
  has-For {G} {a} {b} {A} {I} o x s n h i =
      put (outs-For o span.Whole x a b) (plain A ∷ bound x I unit_type ∷ []) (
        A,
        I,
        s,
        tt,
        refl,
        refl,
      ) (parts1 (never p S G) h (parts1 n i parts0)) vs0

  pub has-Reduce : {G : Env} {empty a b : Term} {A I C T : Ty} (o : Order) (set : SetId) (x : ℕ)
      → ItemsOf p A I → Fresh ((x, fixed I) ∷ []) G → Called p set (T ∷ T ∷ []) C → Below p C T
      → Has p S G empty T → Has p S G a A → Has p S (bind x (fixed I) G) b T
      → Has p S G (Reduce o span.Whole set empty x a b) T
  has-Reduce {G} {empty} {a} {b} {A} {I} {C} {T} o set x s n c w e h i =
      put (outs-Reduce o span.Whole set empty x a b) (plain T ∷ plain A ∷ bound x I T ∷ []) (
        A,
        I,
        C,
        s,
        tt,
        refl,
        c,
        w,
      )
      (parts1 (never p S G) e (parts1 (never p S G) h (parts1 n i parts0))) vs0

  pub has-Also : {G : Env} (ts : List Term) (As : List Ty) → HasParts p S G ts (plains As)
      → Has p S G (Also ts) unit_type
  has-Also ts As h = put (outs-Also ts) (plains As) (As, refl, refl) h vs0

  pub has-Try : {G : Env} {a : Term} {T : Ty} (L : Ty) (x : ℕ) (cs : List (Term × Ty))
      (last : Option Term) → Has p S G a T
      → HasParts p S G (option_to_list last ++ in_clauses cs) (last_parts last L ++ clauses x cs T)
      → Has p S G (Try a x cs last) T
  has-Try {G} {a} {T} L x cs last h i =
      put (outs-Try a x cs last) (plain T ∷ (last_parts last L ++ clauses x cs T)) (L, refl)
      (parts1 (never p S G) h i) vs0

  pub has-Atomic : {G : Env} {a : Term} {T : Ty} (mode : Mode) → Has p S G a T
      → Has p S G (Atomic mode a) T
  has-Atomic {a = a} {T = T} mode h =
      put (outs-Atomic mode a) (plain T ∷ []) refl (one_part p S h) vs0
