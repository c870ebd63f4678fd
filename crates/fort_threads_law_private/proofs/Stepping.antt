-- What a call does of a declaration that leaves the prelude's own names alone.
use Rattle.std.proofs.Common.{◌≡◌, ℕ, ◌+◌, ◌<◌, ◌≤◌, ◌==◌, Bool, true, false, ◌&&◌, List, [], ◌∷◌, ◌++◌, map, length, Option, Some, None, refl, ap, sym, ◌∙◌, subst, if◌then◌else◌, arith, ◌⊎◌, inl, inr, IsTrue, length-append}
use Rattle.std.proofs.lemmas.List.{length-map}
use Rattle.std.specs.Prelude.{option_map, option_and_then, slice_get, filter_map}
use Rattle.std.specs.List.{cons_option}
use Rattle.fort_base.specs.declared.ids.DeclId.{DeclId}
use Rattle.fort_base.specs.declared.ids.NameId.{NameId}
use Rattle.fort_base.specs.declared.ids.SetId.{SetId}
use Rattle.fort_base.specs.declared.ids.TypeId.{TypeId}
use Rattle.fort_base.specs.declared.ty.Ty.{Ty}
use Rattle.fort_core.specs.declared.program.CoreBody.{CoreBody}
use Rattle.fort_core.specs.declared.program.CoreBody.TheVariants as body
use Rattle.fort_core.specs.declared.program.CoreDecl.{CoreDecl}
use Rattle.fort_core.specs.declared.program.CoreField.{CoreField}
use Rattle.fort_core.specs.declared.program.CoreShape.{CoreShape}
use Rattle.fort_core.specs.declared.program.Program.{Program}
use Rattle.fort_core.specs.declared.term.Term.{Term}
use Rattle.fort_core.specs.declared.term.Term.TheOpen.{Value-F}
use Rattle.fort_core.specs.declared.value.Value.{Value, Object}
use Rattle.fort_core.specs.declared.value.Value.TheVariants.{outs-Object}
use Rattle.fort_types.specs.Relation.{Relation, each_below, relation}
use Rattle.fort_machine.specs.Types.{type_of}
use Rattle.fort_machine.specs.Primitives.{Answer, gives, makes_text, throws, prints, ends, nothing, answer_of}
use Rattle.fort_machine.specs.Acts.{Act, single}
use Rattle.fort_machine.specs.Calls.{Dispatches, by_number, by_answer, constants, constructing, by_body}
use Rattle.fort_machine.specs.Forms.{place_of, field_of}
use Rattle.fort_machine.specs.Parts.{IsOneOf}
use Rattle.fort_machine.specs.Steps.{Acts, by_itself, by_call, or_unit}
use Rattle.fort_machine.specs.Written.{HaveConstants, Constructs, IsDeclared, WrittenProgram}
use Rattle.fort_threads.specs.Known.{Known, known, Calls}
use Rattle.fort_threads_law_servers.specs.Prelude.{Names}
use Rattle.fort_threads_law_servers.specs.Roots.{Start}
use Rattle.fort_threads_law_private.specs.Grounds.{Ground, Open, AreOpen, Grows}
use Rattle.fort_threads_law_private.specs.Private.{IsSecretSet, Private, PrivateValue, AllPrivateValues, no_terms, no_values, one_more_value}
use Rattle.fort_threads_law_private.specs.Fine.{Fine}
use Rattle.fort_threads_law_private.specs.Apart.{IsPrivateBody, KeepsApart}
use Rattle.fort_threads_law_private.proofs.Growing.{private_grows, value_grows, values_grow}
use Rattle.fort_threads_law_private.proofs.Values.{private_value_at, term_private, small_private, large_private, truth_private, text_private, range_private, unit_private}
use Rattle.fort_threads_law_private.proofs.Substituting.{private_with}
use Rattle.fort_threads_law_private.proofs.Answered.{AnswerHas, answer_has}
use Rattle.fort_threads_law_private.proofs.Acting.{append_private, or_unit_longer, fine_throwing, acts_fine}

-- ---- a new object has a location for each field

place_below : (f : NameId) (cs : List CoreField) (i : ℕ) → place_of f cs ≡ Some i → i < length cs
place_below f [] i e = absurd cc
place_below f (c ∷ cs) i e = go (c.name.0 == f.0) e (place_of f cs) refl (place_below f cs)
  where
    go : (b : Bool)
        → (if b then Some 0 else option_map (λ (n : ℕ). n + 1) (place_of f cs)) ≡ Some i
        → (o : Option ℕ) → place_of f cs ≡ o
        → ((j : ℕ) → place_of f cs ≡ Some j → j < length cs) → i < length (c ∷ cs)
    go true q o r ih = let z : 0 ≡ i = cc in omega (arith, z)
    go false q None r ih =
        let z : None ≡ Some i = sym (ap (option_map (λ (n : ℕ). n + 1)) r) ∙ q in absurd cc
    go false q (Some j) r ih =
        let y : Some (j + 1) ≡ Some i = sym (ap (option_map (λ (n : ℕ). n + 1)) r) ∙ q in
        let z : j + 1 ≡ i = cc in let h = ih j r in omega (arith, z, h)

-- fields with constants have as many
constants_at_least : (fs gs : List CoreField) → HaveConstants gs
    → length gs ≤ length (filter_map (λ (f : CoreField). f.initial) (fs ++ gs))
constants_at_least [] [] h = omega arith
constants_at_least [] (g ∷ gs) h =
    let i = constants_at_least [] gs h.1 in
    subst (λ z. length (g ∷ gs)
    ≤ length (cons_option z (filter_map (λ (f : CoreField). f.initial) gs))) (sym h.0.1)
    (longer h.0.0 (filter_map (λ (f : CoreField). f.initial) gs) i)
  where
    longer : (v : Value) (vs : List Value) → length gs ≤ length vs
        → length (g ∷ gs) ≤ length (v ∷ vs)
    longer v vs q = omega (arith, q)
constants_at_least (f ∷ fs) gs h =
    go f.initial (filter_map (λ (f : CoreField). f.initial) (fs ++ gs)) (constants_at_least fs gs h)
  where
    go : (o : Option Value) (vs : List Value) → length gs ≤ length vs
        → length gs ≤ length (cons_option o vs)
    go None vs q = q
    go (Some v) vs q = omega (arith, q)

-- as many values are passed as there are parameters
as_many : (rs : List Relation) (up : Bool) (ts : List Ty) → IsTrue (each_below rs up ts)
    → length rs ≡ length ts
as_many [] up [] h = refl
as_many [] up (t ∷ ts) h = absurd cc
as_many (r ∷ rs) up [] h = absurd cc
as_many (r ∷ rs) up (t ∷ ts) h = go (r up t) (as_many rs up ts) h
  where
    go : (b : Bool) → (IsTrue (each_below rs up ts) → length rs ≡ length ts)
        → IsTrue (b && each_below rs up ts) → length (r ∷ rs) ≡ length (t ∷ ts)
    go true f q = let e = f q in omega (arith, e)
    go false f q = absurd cc

all_fields : (p : Program) → WrittenProgram p → (set : SetId) (values : List Value) (d : DeclId)
    (decl : CoreDecl) → Dispatches p set values d decl → (id : TypeId) → decl.body ≡ body.New id
    → (s : CoreShape) → slice_get p.shapes id.0 ≡ Some s
    → length s.fields ≤ length (values ++ constants s)
all_fields p w set values d decl k id e s q =
    let c : Constructs p id decl.parameters =
    subst (IsDeclared p decl.parameters) e
    (w.declarations d decl k.most_specific.applicable.is_decl) in
    let z : Some s ≡ Some c.shape = sym q ∙ c.is_shape in
    let y : s ≡ c.shape = cc in
    let f : s.fields ≡ c.awaited ++ c.constant =
    ap (λ (s : CoreShape). s.fields) y ∙ c.are_fields in
    let one = ap length f ∙ length-append c.awaited c.constant in
    let two = constants_at_least c.awaited c.constant c.have_constants in
    let three = ap (λ fs. length (filter_map (λ (f : CoreField). f.initial) fs)) f in
    let four = length-append values (constants s) in
    let five = ap length c.are_parameters in
    let six = length-map c.awaited (λ (f : CoreField). f.ty) in
    let types = map (type_of p) values in
    let seven =
    as_many (map (relation p.types.below) types) true decl.parameters
    k.most_specific.applicable.applies in
    let eight = length-map types (relation p.types.below) in
    let nine = length-map values (type_of p) in
    omega (arith, one, two, three, four, five, six, seven, eight, nine)

-- ---- what a built-in declaration, a constructor and a body do

module _ (p : Program) (n : Names) (m : Start) (g : Ground)
    (singles : (id : TypeId) (v : Value) → single p id ≡ Some v → PrivateValue p n m g v) where
  fine_answer : (a : Answer) → AnswerHas (PrivateValue p n m g) a → Fine p n m g (by_answer p a)
  fine_answer (gives v) h = term_private h
  fine_answer (makes_text s) h = term_private (text_private s)
  fine_answer (throws id) h = fine_throwing p n m g singles id
  fine_answer (prints s) h = term_private unit_private
  fine_answer ends h = tt
  fine_answer nothing h = tt

  by_number_private : (k : ℕ) (vs : List Value) → AllPrivateValues p n m g vs
      → AllPrivateValues p n m g (map (λ (h : ℕ × Value). h.1) (by_number k vs))
  by_number_private k [] h = no_values
  by_number_private k (v ∷ vs) (one_more_value h hs) =
      one_more_value h (by_number_private (k + 1) vs hs)

  -- an object whose fields stand in a row that is open
  field_in_row : (h : Ground) (id : TypeId) (s : CoreShape) (l count : ℕ) (f : NameId) (k : ℕ)
      → slice_get p.shapes id.0 ≡ Some s → length s.fields ≤ count → AreOpen h l count
      → field_of p f (Value-F.Object id (record { 0 = l })) ≡ Some k → Open h k
  field_in_row h id s l count f k e q o r = go (place_of f s.fields) refl
    where
      go : (o : Option ℕ) → place_of f s.fields ≡ o → Open h k
      go None t =
          let z : None ≡ Some k =
          sym (ap (option_and_then (λ
          (s : CoreShape). option_map (λ (n : ℕ). l + n) (place_of f s.fields))) e
          ∙ ap (option_map (λ (n : ℕ). l + n)) t) ∙ r
          in absurd cc
      go (Some i) t =
          let z : Some (l + i) ≡ Some k =
          sym (ap (option_and_then (λ
          (s : CoreShape). option_map (λ (n : ℕ). l + n) (place_of f s.fields))) e
          ∙ ap (option_map (λ (n : ℕ). l + n)) t) ∙ r
          in
          let y : l + i ≡ k = cc in
          let b = place_below f s.fields i t in
          subst (Open h) y (o i (omega (arith, b, q)))

  object_private : (h : Ground) (id : TypeId) (s : CoreShape) (l count : ℕ)
      → slice_get p.shapes id.0 ≡ Some s → length s.fields ≤ count → (id ≡ n.thread → ⊥)
      → AreOpen h l count → PrivateValue p n m h (Object id (record { 0 = l }))
  object_private h id s l count e q other o =
      private_value_at (Object id (record { 0 = l })) _ (outs-Object id (record { 0 = l }))
      (λ f k secret r. field_in_row h id s l count f k e q o r, λ r. absurd (other r)) no_terms
      no_values

  fine_new : (id : TypeId) (vs : List Value) (o : Option CoreShape) → slice_get p.shapes id.0 ≡ o
      → AllPrivateValues p n m g vs
      → ((s : CoreShape) → slice_get p.shapes id.0 ≡ Some s
      → AllPrivateValues p n m g (constants s))
      → ((s : CoreShape) → slice_get p.shapes id.0 ≡ Some s
      → length s.fields ≤ length (vs ++ constants s))
      → (id ≡ n.thread → ⊥) → Fine p n m g (constructing id vs o)
  fine_new id vs (Some s) e h fields count other = (
    append_private h (fields s e),
    λ l i grows o. term_private
        (object_private i id s l (length (or_unit (vs ++ constants s))) e
        (let a = count s e in
        let b = or_unit_longer (vs ++ constants s) in omega (arith, a, b)) other o),
  )
  fine_new id vs None e h fields count other = tt

  fine_body : (b : CoreBody) (vs : List Value) → AllPrivateValues p n m g vs
      → IsPrivateBody p n m g b
      → ((id : TypeId) (s : CoreShape) → slice_get p.shapes id.0 ≡ Some s
      → AllPrivateValues p n m g (constants s))
      → ((id : TypeId) → b ≡ body.New id → (s : CoreShape) → slice_get p.shapes id.0 ≡ Some s
      → length s.fields ≤ length (vs ++ constants s))
      → Fine p n m g (by_body p b vs)
  fine_body (body.Plain t) vs h i fields count =
      private_with (by_number 0 vs) t (by_number_private 0 vs h) i
  fine_body (body.Primitive f) vs h i fields count =
      fine_answer (answer_of p f vs)
      (answer_has (PrivateValue p n m g) small_private large_private truth_private range_private p
      f vs)
  fine_body body.Abstract vs h i fields count = tt
  fine_body (body.New id) vs h i fields count =
      fine_new id vs (slice_get p.shapes id.0) refl h (fields id) (count id refl) i

-- a body on a ground on which more is open
body_grows : (p : Program) (n : Names) (m : Start) (first g : Ground) → Grows first g
    → (b : CoreBody) → IsPrivateBody p n m first b → IsPrivateBody p n m g b
body_grows p n m first g k (body.Plain t) h = private_grows h k
body_grows p n m first g k (body.Primitive f) h = tt
body_grows p n m first g k body.Abstract h = tt
body_grows p n m first g k (body.New id) h = h

-- each act of a form, but a call of what the prelude declares, is fine
pub acts_private : (p : Program) (n : Names) (m : Start) (k : Known) (first g : Ground)
    → WrittenProgram p → KeepsApart p n m k first → Grows first g → (a : Term) → Private p n m g a
    → ((c : DeclId) (values : List Value) → IsOneOf c (known k) → Calls p a c values → ⊥)
    → (x : Act) → Acts p a x → Fine p n m g x
acts_private p n m k first g written apart grown a h not_known x (by_itself e) =
    subst (Fine p n m g) e
    (acts_fine p n m g (λ id v q. value_grows (apart.singles id v q) grown) a h)
acts_private p n m k first g written apart grown a h not_known x
    (by_call {set = set} {values = values} {d = d} {decl = decl} e dispatches is) =
    subst (Fine p n m g) is (go (apart.bodies set values d decl called.0 dispatches))
  where
    singles : (id : TypeId) (v : Value) → single p id ≡ Some v → PrivateValue p n m g v
    singles id v q = value_grows (apart.singles id v q) grown

    called : (IsSecretSet n m set → ⊥) × AllPrivateValues p n m g values
    called = subst (Fine p n m g) e (acts_fine p n m g singles a h)

    go : IsOneOf d (known k) ⊎ IsPrivateBody p n m first decl.body
        → Fine p n m g (by_body p decl.body values)
    go (inl i) =
        absurd
        (not_known d values i
        (record { set = set; declared = decl; is_call = e; dispatches = dispatches }))
    go (inr i) =
        fine_body p n m g singles decl.body values called.1
        (body_grows p n m first g grown decl.body i)
        (λ id s q. values_grow (apart.fields id s q) grown)
        (λ id r s q. all_fields p written set values d decl dispatches id r s q)
