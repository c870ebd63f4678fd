-- What is done for a form makes the term that the form has.
use Rattle.std.proofs.Common.{◌≡◌, ℕ, suc, ◌+◌, true, false, List, [], ◌∷◌, ◌++◌, drop, take, length, map, Option, Some, None, refl, sym, ap, ◌∙◌, arith, append_assoc}
use Rattle.std.specs.Prelude.{option_map}
use Rattle.std.proofs.lemmas.List.{drop-drop, append-nil, length-map, reverse-append}
use Rattle.fort_base.specs.declared.ids.NameId.{NameId}
use Rattle.fort_base.specs.declared.ids.SetId.{SetId}
use Rattle.fort_base.specs.declared.ty.Ty.{Ty}
use Rattle.fort_core.specs.declared.term.Term.{Term, Let, Typecase, Also}
use Rattle.fort_machine.specs.Ends.{group}
use Rattle.fort_form.specs.declared.form.Parameter.{Parameter}
use Rattle.fort_form_typed.specs.declared.typed_form.Chosen.{Chosen}
use Rattle.fort_form_typed.specs.declared.typed_form.TypedForm.{TypedForm, out-TypedForm, map-TypedForm, fold_out-TypedForm}
use Rattle.fort_form_typed.specs.declared.typed_form.TypedForm.TheOpen.{TypedForm-F}
use Rattle.fort_elab_meaning.specs.Making.{Scope, Maker, with_name, after, still, many, letting, in_turn}
use Rattle.fort_elab_meaning.specs.Parts.{Given, Part, maker_of, field, element}
use Rattle.fort_elab_meaning.specs.Values.{unit_term, no_match}
use Rattle.fort_elab_meaning.specs.Calls.{chain, call, operation}
use Rattle.fort_elab_meaning.specs.Choices.{clauses, cases, typecase, trying, with_types}
use Rattle.fort_elab_meaning.specs.Items.{typed_variables, with_names, block, before, bindings, parameter, within_function, fn}
use Rattle.fort_elab_meaning.specs.Targets.{assigned, updated}
use Rattle.fort_elab_meaning.specs.Translated.{part, part_at, made_at, role_at, type_at, type_of, translated}
use Rattle.fort_elab_tasks.specs.declared.state.State.{State}
use Rattle.fort_elab_tasks.specs.declared.build.Leaf.TheVariants as a_leaf
use Rattle.fort_elab_tasks.specs.States.{scope_of, next, said, opened, each, onto, gathered, latest, by_number, by_list, named, all_named, function_numbered, left, bound_from, on_one, on_two}
use Rattle.fort_elab_tasks.specs.Builds.{function_term}
use Rattle.fort_elab_tasks.specs.Tasks.{parts, makers, other}
use Rattle.fort_elab_tasks.specs.Forms.{does, listed, chain_done, locals_done, item_done, fn_done, case_done, else_done, types_done, catches, caught, released, try_done, assigns, updates, see}

-- names get their numbers as the scope says
pub in_scope : (n : ℕ) (xs : List (NameId × Ty)) (s : Scope)
    → with_names n xs s ≡ record { names = bound_from n xs s.names; receiver = s.receiver }
in_scope n [] s = refl
in_scope n (x ∷ xs) s = in_scope (n + 1) xs (with_name x.0 n s)

-- names that came into scope go
pub out_of_scope : (n : ℕ) (xs : List (NameId × Ty)) (names : List (NameId × ℕ))
    → drop (length xs) (bound_from n xs names) ≡ names
out_of_scope n [] names = refl
out_of_scope n (x ∷ xs) names =
    let e : suc (length xs) ≡ length xs + 1 = omega arith
    in let all = bound_from (n + 1) xs ((x.0, n) ∷ names) in
    ap (λ (k : ℕ). drop k all) e ∙ sym (drop-drop 1 (length xs) all) ∙ ap (λ
    (ys : List (NameId × ℕ)). drop 1 ys) (out_of_scope (n + 1) xs ((x.0, n) ∷ names))

-- ---- lists

onto_none : (ls : List (List Term)) → onto [] ls ≡ ls
onto_none [] = refl
onto_none (l ∷ ls) = ap (λ (m : List Term). m ∷ ls) (append-nil l)

onto_onto : (ts us : List Term) (ls : List (List Term)) → onto us (onto ts ls) ≡ onto (ts ++ us) ls
onto_onto ts us [] = refl
onto_onto ts us (l ∷ ls) = ap (λ (m : List Term). m ∷ ls) (append_assoc l ts us)

pub none_each : (s : State) → each [] s ≡ s
none_each s = ap (λ (ls : List (List Term)). record s { lists = ls }) (onto_none s.lists)

pub more_each : (f : Maker) (fs : List Maker) (s : State)
    → each (f ∷ fs) s ≡ each fs (gathered (said f s))
more_each f fs s = let m = f (scope_of s) s.counter in let ms = in_turn fs (scope_of s) m.counter in
    sym (ap (λ
    (ls : List (List Term)). record s { counter = ms.counter; lists = ls })
    (onto_onto (m.term ∷ []) ms.terms s.lists))

-- ---- numbers

-- one side more
pub more_latest : (k n : ℕ) (ns : List ℕ) → latest (k + 1) (n ∷ ns) ≡ latest k ns ++ n ∷ []
more_latest k n ns = let e : k + 1 ≡ suc k = omega arith in
    ap (λ (j : ℕ). latest j (n ∷ ns)) e ∙ reverse-append (n ∷ []) (take k ns)

-- ---- names

-- locals for the parts of a tuple
locals_are : (xs : List (NameId × Ty)) (initial rest : Maker) (s : State)
    → locals_done xs (said rest) (said initial s) ≡ said (bindings xs initial rest) s
locals_are xs initial rest s =
    let m = initial (scope_of s) s.counter in let n = m.counter.variable
    in let c = after (length xs) m.counter in
    let sc : Scope = record { names = bound_from n xs s.names; receiver = s.receiver } in
    ap (λ (ns : List (NameId × ℕ)). record s {
      names = ns;
      counter = (rest sc c).counter;
      terms = Let (typed_variables n xs) m.term (rest sc c).term ∷ s.terms;
    })
    (out_of_scope n xs s.names)
    ∙ ap (λ (sc1 : Scope). record s {
      counter = (rest sc1 c).counter;
      terms = Let (typed_variables n xs) m.term (rest sc1 c).term ∷ s.terms;
    })
    (sym (in_scope n xs (scope_of s)))

-- a function's parameters
abbrev fn_by : ℕ → List (NameId × Ty) → Ty → Maker → State → State
fn_by k xs ty body s =
    by_number (λ first. by_number (λ n. on_one (function_term n first xs ty)))
    (left k (said body (all_named xs (function_numbered s))))

fn_is : (xs : List (NameId × Ty)) (ty : Ty) (body : Maker) (s : State)
    → fn_by (length xs) xs ty body s ≡ said (fn xs ty body) s
fn_is xs ty body s = let n = next s in let c = after (length xs) (within_function s.counter) in
    let sc : Scope = record { names = bound_from n xs s.names; receiver = s.receiver } in
    ap (λ (ns : List (NameId × ℕ)). record s {
      names = ns;
      counter = (body sc c).counter;
      terms = function_term s.counter.function n xs ty (body sc c).term ∷ s.terms;
    })
    (out_of_scope n xs s.names)
    ∙ ap (λ (sc1 : Scope). record s {
      counter = (body sc1 c).counter;
      terms = function_term s.counter.function n xs ty (body sc1 c).term ∷ s.terms;
    })
    (sym (in_scope n xs (scope_of s)))

module _ (g : Given) where
  -- one level of a form, its parts as parts
  abbrev pub level : TypedForm-F TypedForm → TypedForm-F Part
  level x = map-TypedForm TypedForm Part (part g) x

  pub part_is : (f : TypedForm) → part g f ≡ part_at g (level (out-TypedForm f))
  unfolding part
  part_is f = fold_out-TypedForm Part (part_at g) f

  makers_are : (fs : List TypedForm) → map maker_of (parts g fs) ≡ makers g fs
  makers_are [] = refl
  makers_are (f ∷ fs) = ap (λ (ms : List Maker). translated g f ∷ ms) (makers_are fs)

  listed_is : (fs : List TypedForm) (f : List Term → Term) (s : State)
      → listed g fs f s ≡ said (many f (map maker_of (parts g fs))) s
  listed_is fs f s = ap (λ (ms : List Maker). said (many f ms) s) (sym (makers_are fs))

  chain_is : (set : SetId) (cs : List Chosen) (fs : List TypedForm) (s : State)
      → chain_done g set cs fs s ≡ said (chain g set cs (parts g fs)) s
  chain_is set [] fs s = refl
  chain_is set (c ∷ []) fs s = listed_is fs (operation g c) s
  chain_is set (c ∷ d ∷ cs) fs s = refl

  -- what stands behind `else`
  pub unit_else : (e : Option TypedForm) (s : State)
      → else_done g a_leaf.Unit e s ≡ said (other g e unit_term) s
  unit_else None s = refl
  unit_else (Some f) s = refl

  pub throw_else : (e : Option TypedForm) (s : State)
      → else_done g a_leaf.NoMatch e s ≡ said (other g e (no_match g)) s
  throw_else None s = refl
  throw_else (Some f) s = refl

  types_are : (name : NameId) (subject : TypedForm) (types : List Ty) (vs : List TypedForm)
      (e : Option TypedForm) (s : State)
      → types_done g name subject types vs e s
      ≡ said (typecase g name (part g subject) types (parts g vs) (option_map (part g) e)) s
  types_are name subject types vs None s =
      ap (λ (ms : List Maker). by_number
      (λ n. by_list (λ ts. on_two (λ a b. Typecase n a (with_types ts types) b)))
      (left 1 (else_done g a_leaf.NoMatch None (each ms (opened (named name (see g subject s)))))))
      (sym (makers_are vs))
  types_are name subject types vs (Some f) s =
      ap (λ (ms : List Maker). by_number
      (λ n. by_list (λ ts. on_two (λ a b. Typecase n a (with_types ts types) b)))
      (left 1 (else_done g a_leaf.NoMatch (Some f)
      (each ms (opened (named name (see g subject s))))))) (sym (makers_are vs))

  catches_are : (b : TypedForm) (name : Option NameId) (types : List Ty) (vs : List TypedForm)
      (last : Option TypedForm) (s : State)
      → catches g b name types vs last s
      ≡ said (trying (part g b) name types (parts g vs) (option_map (part g) last)) s
  catches_are b None types vs None s =
      ap (λ (ms : List Maker). try_done g types None
      (released None (each ms (opened (caught None (see g b s)))))) (sym (makers_are vs))
  catches_are b (Some name) types vs None s =
      ap (λ (ms : List Maker). try_done g types None
      (released (Some name) (each ms (opened (caught (Some name) (see g b s))))))
      (sym (makers_are vs))
  catches_are b None types vs (Some f) s =
      ap (λ (ms : List Maker). try_done g types (Some f)
      (released None (each ms (opened (caught None (see g b s)))))) (sym (makers_are vs))
  catches_are b (Some name) types vs (Some f) s =
      ap (λ (ms : List Maker). try_done g types (Some f)
      (released (Some name) (each ms (opened (caught (Some name) (see g b s))))))
      (sym (makers_are vs))

  type_level : (x : TypedForm-F TypedForm) → type_at (level x) ≡ type_at x
  type_level (TypedForm-F.Number ty n) = refl
  type_level (TypedForm-F.Text ty n) = refl
  type_level (TypedForm-F.Truth ty b) = refl
  type_level (TypedForm-F.Tuple ty fs) = refl
  type_level (TypedForm-F.Local ty name mutable) = refl
  type_level (TypedForm-F.Top ty n) = refl
  type_level (TypedForm-F.Single ty t) = refl
  type_level (TypedForm-F.Receiver ty) = refl
  type_level (TypedForm-F.ReadField ty o f) = refl
  type_level (TypedForm-F.ReadElement ty a i) = refl
  type_level (TypedForm-F.Size ty a) = refl
  type_level (TypedForm-F.Fill ty t n v) = refl
  type_level (TypedForm-F.Call ty c fs) = refl
  type_level (TypedForm-F.Operation ty c fs) = refl
  type_level (TypedForm-F.Chain ty set cs fs) = refl
  type_level (TypedForm-F.Apply ty f a) = refl
  type_level (TypedForm-F.Fn ty xs e) = refl
  type_level (TypedForm-F.Block ty fs) = refl
  type_level (TypedForm-F.Bind ty name mutable written e) = refl
  type_level (TypedForm-F.Binds ty xs e) = refl
  type_level (TypedForm-F.Also ty fs) = refl
  type_level (TypedForm-F.If ty cs bs e) = refl
  type_level (TypedForm-F.While ty c b) = refl
  type_level (TypedForm-F.For ty xs fs b) = refl
  type_level (TypedForm-F.Case ty subject cs ts vs e) = refl
  type_level (TypedForm-F.Typecase ty name subject types vs e) = refl
  type_level (TypedForm-F.Try ty b name types vs last) = refl
  type_level (TypedForm-F.Atomic ty e) = refl
  type_level (TypedForm-F.Tryatomic ty e) = refl
  type_level (TypedForm-F.Throw ty e) = refl
  type_level (TypedForm-F.Reduce ty r set name sequential p b) = refl
  type_level (TypedForm-F.Assign ty t e) = refl
  type_level (TypedForm-F.Update ty t c e) = refl

  pub part_type : (f : TypedForm) → (part g f).ty ≡ type_of f
  part_type f = ap (λ (p : Part). p.ty) (part_is f) ∙ type_level (out-TypedForm f)

  fn_is_done : (ps : List Parameter) (e : TypedForm) (s : State)
      → fn_done g ps e s ≡ said (fn (map parameter ps) (part g e).ty (translated g e)) s
  fn_is_done ps e s =
      ap (λ (k : ℕ). fn_by k (map parameter ps) (type_of e) (translated g e) s)
      (sym (length-map ps parameter))
      ∙ ap (λ (ty : Ty). fn_by (length (map parameter ps)) (map parameter ps) ty (translated g e) s)
      (sym (part_type e))
      ∙ fn_is (map parameter ps) (part g e).ty (translated g e) s

  case_is : (subject : TypedForm) (cs : List Chosen) (ts vs : List TypedForm) (e : Option TypedForm)
      (s : State)
      → case_done g subject cs ts vs e s
      ≡ said (cases g (part g subject) cs (parts g ts) (parts g vs) (option_map (part g) e)) s
  case_is subject cs ts vs e s =
      ap (λ (ty : Ty). said
      (letting ty (translated g subject)
      (clauses g cs (parts g ts) (parts g vs) (other g e (no_match g)))) s)
      (sym (part_type subject))

  item_level : (f : TypedForm) (rest : List TypedForm) (x : TypedForm-F TypedForm) (s : State)
      → item_done g f rest x s
      ≡ said (before (role_at (level x)) (translated g f) (block (parts g rest))) s
  item_level h rest (TypedForm-F.Number ty n) s = refl
  item_level h rest (TypedForm-F.Text ty n) s = refl
  item_level h rest (TypedForm-F.Truth ty b) s = refl
  item_level h rest (TypedForm-F.Tuple ty fs) s = refl
  item_level h rest (TypedForm-F.Local ty name mutable) s = refl
  item_level h rest (TypedForm-F.Top ty n) s = refl
  item_level h rest (TypedForm-F.Single ty t) s = refl
  item_level h rest (TypedForm-F.Receiver ty) s = refl
  item_level h rest (TypedForm-F.ReadField ty o f) s = refl
  item_level h rest (TypedForm-F.ReadElement ty a i) s = refl
  item_level h rest (TypedForm-F.Size ty a) s = refl
  item_level h rest (TypedForm-F.Fill ty t n v) s = refl
  item_level h rest (TypedForm-F.Call ty c fs) s = refl
  item_level h rest (TypedForm-F.Operation ty c fs) s = refl
  item_level h rest (TypedForm-F.Chain ty set cs fs) s = refl
  item_level h rest (TypedForm-F.Apply ty f a) s = refl
  item_level h rest (TypedForm-F.Fn ty xs e) s = refl
  item_level h rest (TypedForm-F.Block ty fs) s = refl
  item_level f rest (TypedForm-F.Bind ty name true written e) s = refl
  item_level f rest (TypedForm-F.Bind ty name false written e) s = refl
  item_level f rest (TypedForm-F.Binds ty xs e) s =
      locals_are xs (translated g e) (block (parts g rest)) s
  item_level h rest (TypedForm-F.Also ty fs) s = refl
  item_level h rest (TypedForm-F.If ty cs bs e) s = refl
  item_level h rest (TypedForm-F.While ty c b) s = refl
  item_level h rest (TypedForm-F.For ty xs fs b) s = refl
  item_level h rest (TypedForm-F.Case ty subject cs ts vs e) s = refl
  item_level h rest (TypedForm-F.Typecase ty name subject types vs e) s = refl
  item_level h rest (TypedForm-F.Try ty b name types vs last) s = refl
  item_level h rest (TypedForm-F.Atomic ty e) s = refl
  item_level h rest (TypedForm-F.Tryatomic ty e) s = refl
  item_level h rest (TypedForm-F.Throw ty e) s = refl
  item_level h rest (TypedForm-F.Reduce ty r set name sequential p b) s = refl
  item_level h rest (TypedForm-F.Assign ty t e) s = refl
  item_level h rest (TypedForm-F.Update ty t c e) s = refl

  pub item_is : (f r : TypedForm) (rest : List TypedForm) (s : State)
      → item_done g f (r ∷ rest) (out-TypedForm f) s ≡ said (block (parts g (f ∷ r ∷ rest))) s
  item_is f r rest s =
      item_level f (r ∷ rest) (out-TypedForm f) s ∙ ap (λ
      (p : Part). said (before p.role (translated g f) (block (parts g (r ∷ rest)))) s)
      (sym (part_is f))

  assigns_level : (e : TypedForm) (x : TypedForm-F TypedForm) (s : State)
      → assigns g e x s ≡ said (assigned (role_at (level x)) (translated g e)) s
  assigns_level e (TypedForm-F.Number ty n) s = refl
  assigns_level e (TypedForm-F.Text ty n) s = refl
  assigns_level e (TypedForm-F.Truth ty b) s = refl
  assigns_level e (TypedForm-F.Tuple ty fs) s = refl
  assigns_level e (TypedForm-F.Local ty name mutable) s = refl
  assigns_level e (TypedForm-F.Top ty n) s = refl
  assigns_level e (TypedForm-F.Single ty t) s = refl
  assigns_level e (TypedForm-F.Receiver ty) s = refl
  assigns_level e (TypedForm-F.ReadField ty o f) s = refl
  assigns_level e (TypedForm-F.ReadElement ty a i) s = refl
  assigns_level e (TypedForm-F.Size ty a) s = refl
  assigns_level e (TypedForm-F.Fill ty t n v) s = refl
  assigns_level e (TypedForm-F.Call ty c fs) s = refl
  assigns_level e (TypedForm-F.Operation ty c fs) s = refl
  assigns_level e (TypedForm-F.Chain ty set cs fs) s = refl
  assigns_level e (TypedForm-F.Apply ty f a) s = refl
  assigns_level e (TypedForm-F.Fn ty xs e1) s = refl
  assigns_level e (TypedForm-F.Block ty fs) s = refl
  assigns_level e (TypedForm-F.Bind ty name mutable written e1) s = refl
  assigns_level e (TypedForm-F.Binds ty xs e1) s = refl
  assigns_level e (TypedForm-F.Also ty fs) s = refl
  assigns_level e (TypedForm-F.If ty cs bs e1) s = refl
  assigns_level e (TypedForm-F.While ty c b) s = refl
  assigns_level e (TypedForm-F.For ty xs fs b) s = refl
  assigns_level e (TypedForm-F.Case ty subject cs ts vs e1) s = refl
  assigns_level e (TypedForm-F.Typecase ty name subject types vs e1) s = refl
  assigns_level e (TypedForm-F.Try ty b name types vs last) s = refl
  assigns_level e (TypedForm-F.Atomic ty e1) s = refl
  assigns_level e (TypedForm-F.Tryatomic ty e1) s = refl
  assigns_level e (TypedForm-F.Throw ty e1) s = refl
  assigns_level e (TypedForm-F.Reduce ty r set name sequential p b) s = refl
  assigns_level e (TypedForm-F.Assign ty t e1) s = refl
  assigns_level e (TypedForm-F.Update ty t c e1) s = refl

  assigns_are : (e t : TypedForm) (s : State)
      → assigns g e (out-TypedForm t) s ≡ said (assigned (part g t).role (translated g e)) s
  assigns_are e t s =
      assigns_level e (out-TypedForm t) s ∙ ap (λ
      (p : Part). said (assigned p.role (translated g e)) s) (sym (part_is t))

  updates_level : (c : Chosen) (e : TypedForm) (x : TypedForm-F TypedForm) (s : State)
      → updates g c e x s ≡ said (updated g c (role_at (level x)) (translated g e)) s
  updates_level c e (TypedForm-F.Number ty n) s = refl
  updates_level c e (TypedForm-F.Text ty n) s = refl
  updates_level c e (TypedForm-F.Truth ty b) s = refl
  updates_level c e (TypedForm-F.Tuple ty fs) s = refl
  updates_level c e (TypedForm-F.Local ty name mutable) s = refl
  updates_level c e (TypedForm-F.Top ty n) s = refl
  updates_level c e (TypedForm-F.Single ty t) s = refl
  updates_level c e (TypedForm-F.Receiver ty) s = refl
  updates_level c e (TypedForm-F.ReadField ty o f) s =
      ap (λ (t : Ty). said (updated g c (field t (translated g o) f) (translated g e)) s)
      (sym (part_type o))
  updates_level c e (TypedForm-F.ReadElement ty a i) s =
      ap (λ (t : Ty). said
      (updated g c (element t (translated g a) (type_of i) (translated g i)) (translated g e))
      s) (sym (part_type a))
      ∙ ap (λ (t : Ty). said
      (updated g c (element (part g a).ty (translated g a) t (translated g i)) (translated g e))
      s) (sym (part_type i))
  updates_level c e (TypedForm-F.Size ty a) s = refl
  updates_level c e (TypedForm-F.Fill ty t n v) s = refl
  updates_level c e (TypedForm-F.Call ty c1 fs) s = refl
  updates_level c e (TypedForm-F.Operation ty c1 fs) s = refl
  updates_level c e (TypedForm-F.Chain ty set cs1 fs) s = refl
  updates_level c e (TypedForm-F.Apply ty f a) s = refl
  updates_level c e (TypedForm-F.Fn ty xs e1) s = refl
  updates_level c e (TypedForm-F.Block ty fs) s = refl
  updates_level c e (TypedForm-F.Bind ty name mutable written e1) s = refl
  updates_level c e (TypedForm-F.Binds ty xs e1) s = refl
  updates_level c e (TypedForm-F.Also ty fs) s = refl
  updates_level c e (TypedForm-F.If ty cs1 bs e1) s = refl
  updates_level c e (TypedForm-F.While ty c1 b) s = refl
  updates_level c e (TypedForm-F.For ty xs fs b) s = refl
  updates_level c e (TypedForm-F.Case ty subject cs1 ts vs e1) s = refl
  updates_level c e (TypedForm-F.Typecase ty name subject types vs e1) s = refl
  updates_level c e (TypedForm-F.Try ty b name types vs last) s = refl
  updates_level c e (TypedForm-F.Atomic ty e1) s = refl
  updates_level c e (TypedForm-F.Tryatomic ty e1) s = refl
  updates_level c e (TypedForm-F.Throw ty e1) s = refl
  updates_level c e (TypedForm-F.Reduce ty r set name sequential p b) s = refl
  updates_level c e (TypedForm-F.Assign ty t e1) s = refl
  updates_level c e (TypedForm-F.Update ty t c1 e1) s = refl

  updates_are : (c : Chosen) (e t : TypedForm) (s : State)
      → updates g c e (out-TypedForm t) s ≡ said (updated g c (part g t).role (translated g e)) s
  updates_are c e t s =
      updates_level c e (out-TypedForm t) s ∙ ap (λ
      (p : Part). said (updated g c p.role (translated g e)) s) (sym (part_is t))

  does_level : (x : TypedForm-F TypedForm) (s : State) → does g x s ≡ said (made_at g (level x)) s
  does_level (TypedForm-F.Number ty n) s = refl
  does_level (TypedForm-F.Text ty n) s = refl
  does_level (TypedForm-F.Truth ty b) s = refl
  does_level (TypedForm-F.Tuple ty fs) s = listed_is fs group s
  does_level (TypedForm-F.Local ty name mutable) s = refl
  does_level (TypedForm-F.Top ty n) s = refl
  does_level (TypedForm-F.Single ty t) s = refl
  does_level (TypedForm-F.Receiver ty) s = refl
  does_level (TypedForm-F.ReadField ty o f) s = refl
  does_level (TypedForm-F.ReadElement ty a i) s = refl
  does_level (TypedForm-F.Size ty a) s = refl
  does_level (TypedForm-F.Fill ty t n v) s = refl
  does_level (TypedForm-F.Call ty c fs) s = listed_is fs (call g c) s
  does_level (TypedForm-F.Operation ty c fs) s = listed_is fs (operation g c) s
  does_level (TypedForm-F.Chain ty set cs fs) s = chain_is set cs fs s
  does_level (TypedForm-F.Apply ty f a) s = refl
  does_level (TypedForm-F.Fn ty xs e) s = fn_is_done xs e s
  does_level (TypedForm-F.Block ty fs) s = refl
  does_level (TypedForm-F.Bind ty name false written e) s = refl
  does_level (TypedForm-F.Bind ty name true written e) s = refl
  does_level (TypedForm-F.Binds ty xs e) s = locals_are xs (translated g e) (still unit_term) s
  does_level (TypedForm-F.Also ty fs) s = listed_is fs Also s
  does_level (TypedForm-F.If ty cs bs None) s = refl
  does_level (TypedForm-F.If ty cs bs (Some e)) s = refl
  does_level (TypedForm-F.While ty c b) s = refl
  does_level (TypedForm-F.For ty xs fs b) s = refl
  does_level (TypedForm-F.Case ty subject cs ts vs None) s = case_is subject cs ts vs None s
  does_level (TypedForm-F.Case ty subject cs ts vs (Some e)) s = case_is subject cs ts vs (Some e) s
  does_level (TypedForm-F.Typecase ty name subject types vs None) s =
      types_are name subject types vs None s
  does_level (TypedForm-F.Typecase ty name subject types vs (Some e)) s =
      types_are name subject types vs (Some e) s
  does_level (TypedForm-F.Try ty b name types vs None) s = catches_are b name types vs None s
  does_level (TypedForm-F.Try ty b name types vs (Some last)) s =
      catches_are b name types vs (Some last) s
  does_level (TypedForm-F.Atomic ty e) s = refl
  does_level (TypedForm-F.Tryatomic ty e) s = refl
  does_level (TypedForm-F.Throw ty e) s = refl
  does_level (TypedForm-F.Reduce ty r set name sequential p b) s = refl
  does_level (TypedForm-F.Assign ty t e) s = assigns_are e t s
  does_level (TypedForm-F.Update ty t c e) s = updates_are c e t s

  -- what is done for a form finishes it
  pub sees : (f : TypedForm) (s : State) → does g (out-TypedForm f) s ≡ see g f s
  sees f s = does_level (out-TypedForm f) s ∙ ap (λ (p : Part). said p.maker s) (sym (part_is f))
