-- A program whose tables say so has the prelude.
use Rattle.std.proofs.Common.{◌≡◌, ℕ, suc, ◌+◌, ◌==◌, Bool, true, if◌then◌else◌, List, [], ◌∷◌, map, Option, Some, None, pos, refl, ap, ◌∙◌, arith, rules}
use Rattle.std.specs.Prelude.{option_map, option_and_then, filter_map}
use Rattle.fort_base.specs.declared.ids.DeclId.{DeclId}
use Rattle.fort_base.specs.declared.ids.NameId.{NameId}
use Rattle.fort_base.specs.declared.ids.SetId.{SetId}
use Rattle.fort_base.specs.declared.ty.Ty.{Ty}
use Rattle.fort_core.specs.declared.primitive.Primitive.{Primitive}
use Rattle.fort_core.specs.declared.primitive.Primitive.TheVariants.{AddSmall, SubtractSmall, EqualSmall, UnequalSmall, GreaterSmall, RangeCount, Abort}
use Rattle.fort_core.specs.declared.program.CoreBody.TheVariants as body
use Rattle.fort_core.specs.declared.program.CoreDecl.{CoreDecl}
use Rattle.fort_core.specs.declared.program.CoreField.{CoreField}
use Rattle.fort_core.specs.declared.program.CoreShape.{CoreShape}
use Rattle.fort_core.specs.declared.program.Program.{Program}
use Rattle.fort_core.specs.declared.term.Term.{Term}
use Rattle.fort_core.specs.declared.term.Term as term
use Rattle.fort_core.specs.declared.value.Value.{Value, Small, out-Value}
use Rattle.fort_core.specs.declared.value.Value.TheVariants.{outs-Object}
use Rattle.fort_machine.specs.Acts.{Act, enters, makes, unit}
use Rattle.fort_machine.specs.Calls.{Dispatches, by_body, constants, constructing}
use Rattle.fort_machine.specs.Forms.{place_of, field_of}
use Rattle.fort_machine.specs.Runs.{location}
use Rattle.fort_machine.specs.Types.{type_of}
use Rattle.fort_threads.specs.Moves.{opening_fields}
use Rattle.fort_threads_law_servers.specs.Prelude.{Names, object_of, LeadsTo, HasPrelude}
use Rattle.fort_threads_law_worlds.specs.Known.{Counts}
use Rattle.fort_threads_law_tables.specs.Tabled.{RunsText, RunsPrimitive, HasFields, Tabled, two_small, one_thread, TabledHasThePrelude}
use Rattle.fort_threads_law_tables.proofs.Forms.{Form, term_of, put, put_is, wait_form, go_form}
use Rattle.fort_threads_law_tables.proofs.Calls.{runs_one, one_runs, small_is, object_is}
use Rattle.fort_threads_law_tables.proofs.Numbers.{adds, takes_away, compares, tells, is_more, counts}
use Rattle.fort_threads_law_tables.proofs.Objects.{is_object}

module _ (p : Program) (n : Names) where
  -- two small numbers, and an object
  numbers_are : (a b : ℕ) → map (type_of p) (Small (pos a) ∷ Small (pos b) ∷ []) ≡ two_small p
  numbers_are a b = λ i. small_is p (pos a) i ∷ small_is p (pos b) i ∷ []

  pub objects_are : (l : ℕ) → map (type_of p) (object_of n l ∷ []) ≡ one_thread n
  objects_are l = ap (λ t. t ∷ []) (object_is p n.thread (location l))

  -- a body that goes on as a term, with a value in place of its parameter, or with none
  pub enters_put : (f : Form) (v : Value) (d : CoreDecl) → d.body ≡ body.Plain (term_of f)
      → by_body p d.body (v ∷ []) ≡ enters (term_of f) (term_of (put 0 v f))
  enters_put f v d e =
      ap (λ b. by_body p b (v ∷ [])) e ∙ ap (enters (term_of f)) (put_is 0 v f)

  leads_with : (set : SetId) (f : Form) (v : Value) (types : List Ty)
      → map (type_of p) (v ∷ []) ≡ types → RunsText p set types (term_of f)
      → LeadsTo p set (v ∷ []) (term_of (put 0 v f))
  leads_with set f v types e t c d r =
      let q = runs_one p set types t.number t.declared (v ∷ []) e t.runs c d r in
      (term_of f, enters_put f v d (ap (λ (x : CoreDecl). x.body) q.1 ∙ t.text))

  leads_to : (set : SetId) (t : Term) → RunsText p set [] t → LeadsTo p set [] t
  leads_to set t h c d r =
      let q = runs_one p set [] h.number h.declared [] refl h.runs c d r in
      (t, ap (λ b. by_body p b []) (ap (λ (x : CoreDecl). x.body) q.1 ∙ h.text))

  -- a built-in declaration
  answers : (set : SetId) (types : List Ty) (values : List Value) (f : Primitive) (a : Act)
      → map (type_of p) values ≡ types → RunsPrimitive p set types f
      → by_body p (body.Primitive f) values ≡ a → (c : DeclId) (d : CoreDecl)
      → Dispatches p set values c d → by_body p d.body values ≡ a
  answers set types values f a e h w c d r =
      let q = runs_one p set types h.number h.declared values e h.runs c d r in
      ap (λ b. by_body p b values) (ap (λ (x : CoreDecl). x.body) q.1 ∙ h.primitive) ∙ w

  -- the fields of an object, by which of its names is asked for
  abbrev placed : Bool → Bool → Bool → Bool → Option ℕ
  placed a b c d =
      if a then Some 0 else option_map (λ k. k + 1)
      (if b then Some 0 else option_map (λ k. k + 1)
      (if c then Some 0 else option_map (λ k. k + 1)
      (if d then Some 0 else option_map (λ k. k + 1) None)))

  self_equal : (k : ℕ) → (k == k) ≡ true
  self_equal k = search rules

  module _ (h : HasFields p n) where
    place_is : (f : NameId) → place_of f h.shape.fields
        ≡ placed (n.body.0 == f.0) (n.state.0 == f.0) (n.value.0 == f.0) (n.next.0 == f.0)
    place_is f =
        ap (place_of f) h.are_fields
        ∙ (λ i. placed ((h.is_body.0 i).0 == f.0) ((h.is_state.0 i).0 == f.0)
        ((h.is_value.0 i).0 == f.0) ((h.is_next.0 i).0 == f.0))

    stands_at : (f : NameId) (k l : ℕ)
        → placed (n.body.0 == f.0) (n.state.0 == f.0) (n.value.0 == f.0) (n.next.0 == f.0) ≡ Some k
        → field_of p f (out-Value (object_of n l)) ≡ Some (l + k)
    stands_at f k l e =
        ap (field_of p f) (outs-Object n.thread (location l))
        ∙ ap (λ (o : Option CoreShape). option_and_then (λ
        (s : CoreShape). option_map (λ j. l + j) (place_of f s.fields)) o) h.is_shape
        ∙ ap (option_map (λ j. l + j)) (place_is f ∙ e)

    body_at : (l : ℕ) → field_of p n.body (out-Value (object_of n l)) ≡ Some l
    body_at l =
        stands_at n.body 0 l
        (ap (λ a. placed a (n.state.0 == n.body.0) (n.value.0 == n.body.0) (n.next.0 == n.body.0))
        (self_equal n.body.0)) ∙ ap Some (plus_zero l)
      where
        plus_zero : (k : ℕ) → k + 0 ≡ k
        plus_zero k = omega arith

    state_at : (l : ℕ) → field_of p n.state (out-Value (object_of n l)) ≡ Some (l + 1)
    state_at l =
        stands_at n.state 1 l
        (λ i. placed (h.apart.0 i) (self_equal n.state.0 i) (n.value.0 == n.state.0)
        (n.next.0 == n.state.0))

    value_at : (l : ℕ) → field_of p n.value (out-Value (object_of n l)) ≡ Some (l + 2)
    value_at l =
        stands_at n.value 2 l
        (λ i. placed (h.apart.1 i) (h.apart.3 i) (self_equal n.value.0 i) (n.next.0 == n.value.0))

    next_at : (l : ℕ) → field_of p n.next (out-Value (object_of n l)) ≡ Some (l + 3)
    next_at l =
        stands_at n.next 3 l
        (λ i. placed (h.apart.2 i) (h.apart.4 i) (h.apart.5 i) (self_equal n.next.0 i))

    constants_are : constants h.shape ≡ Small (pos 0) ∷ unit ∷ unit ∷ []
    constants_are =
        ap (λ (fs : List CoreField). filter_map (λ (f : CoreField). f.initial) fs) h.are_fields
        ∙ (λ i. filter_map (λ (o : Option Value). o)
        (h.is_body.1 i ∷ h.is_state.1 i ∷ h.is_value.1 i ∷ h.is_next.1 i ∷ []))

    made : (f : Value)
        → by_body p (body.New n.thread) (f ∷ [])
        ≡ makes (opening_fields f) (λ l. term.Value (object_of n l)) 1
    made f =
        ap (constructing n.thread (f ∷ [])) h.is_shape
        ∙ ap (λ vs. makes (f ∷ vs) (λ l. term.Value (object_of n l)) 1) constants_are

  pub has_the_prelude : Tabled p n → HasPrelude p n
  has_the_prelude t = record {
    serves = leads_to n.serve _ t.serve;
    takes = leads_to n.take _ t.take;
    goes = λ l. leads_with n.go (go_form n) (object_of n l) (one_thread n) (objects_are l) t.go;
    waits = λ l.
        leads_with n.wait (wait_form n) (object_of n l) (one_thread n) (objects_are l) t.wait;
    makes_threads = λ f c d r.
        let q = one_runs p n.make t.maker t.made t.make (f ∷ []) c d r in
        ap (λ b. by_body p b (f ∷ [])) (ap (λ (x : CoreDecl). x.body) q.1 ∙ t.makes)
        ∙ made t.fields f;
    has_body = body_at t.fields;
    has_state = state_at t.fields;
    has_value = value_at t.fields;
    has_next = next_at t.fields;
    are_threads = is_object p n t.stands;
    counts_up =
        answers n.hash (two_small p) (Small (pos 0) ∷ Small (pos 64) ∷ []) RangeCount _
        (numbers_are 0 64) t.hash (counts p);
    equals = λ a b i j.
        answers n.equal (two_small p) (Small (pos a) ∷ Small (pos b) ∷ []) EqualSmall _
        (numbers_are a b) t.equal (compares p a b);
    tells_apart = λ a i.
        answers n.differs (two_small p) (Small (pos a) ∷ Small (pos 0) ∷ []) UnequalSmall _
        (numbers_are a 0) t.differs (tells p a 0);
    adds_one = λ a i.
        answers n.plus (two_small p) (Small (pos a) ∷ Small (pos 1) ∷ []) AddSmall _
        (numbers_are a 1) t.plus (adds p a i);
    apart = t.apart;
    aborts = answers n.abort [] [] Abort _ refl t.abort refl;
  }

  pub has_counts : Tabled p n → Counts p n
  has_counts t = record {
    greater = λ a i.
        answers n.greater (two_small p) (Small (pos a) ∷ Small (pos 0) ∷ []) GreaterSmall _
        (numbers_are a 0) t.greater (is_more p a 0);
    takes_one = λ a i.
        answers n.minus (two_small p) (Small (pos (suc a)) ∷ Small (pos 1) ∷ []) SubtractSmall _
        (numbers_are (suc a) 1) t.minus (takes_away p a i);
  }

pub tabled_has_the_prelude : TabledHasThePrelude
tabled_has_the_prelude p n t = (has_the_prelude p n t, has_counts p n t)
