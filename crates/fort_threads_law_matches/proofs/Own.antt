-- Forms of their own, and what is none.
use Rattle.std.proofs.Common.{◌≡◌, ℕ, List, [], ◌∷◌, ◌++◌, map, Some, refl, ap, sym, ◌∙◌, subst, ◌⊎◌, inl, inr}
use Rattle.fort_base.specs.declared.ids.DeclId.{DeclId}
use Rattle.fort_base.specs.declared.ty.Ty.{Ty}
use Rattle.fort_core.specs.declared.form.Mode.{Mode}
use Rattle.fort_core.specs.declared.form.Mode.TheVariants as mode
use Rattle.fort_core.specs.declared.program.CoreDecl.{CoreDecl}
use Rattle.fort_core.specs.declared.program.Program.{Program}
use Rattle.fort_core.specs.declared.term.Term.{Term, Call, ReadField, Atomic, out-Term}
use Rattle.fort_core.specs.declared.term.Term as term
use Rattle.fort_core.specs.declared.term.Term.TheVariants.{Variable, outs-Value, outs-Variable, outs-Operator, outs-Let, outs-ReadField, outs-WriteField, outs-Then, outs-If, outs-Atomic, outs-Asleep, outs-Stepped}
use Rattle.fort_core.specs.declared.term.Term.TheOpen.{Term-F}
use Rattle.fort_core.specs.declared.value.Closure.{Closure}
use Rattle.fort_core.specs.declared.value.Value.{Value, Object}
use Rattle.fort_machine.specs.Acts.{enters}
use Rattle.fort_machine.specs.Calls.{by_body}
use Rattle.fort_machine.specs.Ends.{open_yet, standing_at, standing, Finished, stepped}
use Rattle.fort_machine.specs.Ends as ends
use Rattle.fort_machine.specs.Frames.{Frame, in_throw, in_operand, in_field, in_let, in_then, in_stepped, on}
use Rattle.fort_machine.specs.Runs.{location}
use Rattle.fort_machine.proofs.Standing.{decide, not_finished, stepped_open, stepped_finished}
use Rattle.fort_machine.proofs.Places.{on_layer}
use Rattle.fort_threads.specs.Known.{Known, object_at, IsBody}
use Rattle.fort_threads.specs.Known as known
use Rattle.fort_threads.specs.Threads.{Paths}
use Rattle.fort_threads_law_servers.specs.Prelude.{Names, object_of, number, adding_it, waiting}
use Rattle.fort_threads_law_servers.specs.Calls.{spawning, getting, asking, mark_at, telling, comparing}
use Rattle.fort_threads_law_servers.specs.Roots.{Start}
use Rattle.fort_threads_law_private.specs.Grounds.{Ground}
use Rattle.fort_threads_law_private.specs.Private.{Private, no_terms, no_values}
use Rattle.fort_threads_law_private.proofs.Values.{private_at, privates_as, first_of, rest_of}
use Rattle.fort_threads_law_private.proofs.Shut.{not_spawning, not_waiting, not_getting, not_asking}
use Rattle.fort_threads_law_worlds.specs.Worlds.{Spot, World, ground_of}
use Rattle.fort_threads_law_worlds.specs.Known.{Own, AreSame}
use Rattle.fort_threads_law_matches.specs.Ways.{IsUnderWay, spawns, waits, gets, asks, starts}
use Rattle.fort_threads_law_matches.specs.Matches.{IsInOrder, Many, of_group, of_call, of_block, Pair, of_apply, of_halves, of_reduced, many_term, pair_term, Matches, same, sleeps, under_way, ahead, within, many, pair}
use Rattle.fort_threads_law_matches.proofs.Nodes.{IsNoMark, out_line, IsMany, form, value, is_many, many_layer, pair_layer, out_pair}

-- the body of a declaration is one
pub one_body : (p : Program) (d : DeclId) (values : List Value) (a b : Term) → IsBody p d values a
    → IsBody p d values b → a ≡ b
one_body p d values a b h k =
    let e : Some h.declared ≡ Some k.declared = sym h.is_declared ∙ k.is_declared in
    let q : h.declared ≡ k.declared = cc in
    let z : enters h.text a ≡ enters k.text b =
    sym h.is_body ∙ ap (λ (c : CoreDecl). by_body p c.body values) q ∙ k.is_body in cc

-- the four forms
pub data IsOwnForm (n : Names) (a : Term) : Type 0 where
  is_spawning : (f : Value) → a ≡ spawning n (Call n.make (term.Value f ∷ [])) → IsOwnForm n a
  is_waiting : (l : ℕ) → a ≡ Atomic mode.Atomic (waiting n l) → IsOwnForm n a
  is_getting : (l : ℕ) → a ≡ getting n l (Call n.wait (term.Value (object_of n l) ∷ []))
      → IsOwnForm n a
  is_asking : (l : ℕ) → a ≡ asking n (mark_at n l) → IsOwnForm n a

module _ {p : Program} {n : Names} {m : Start} {o : Own} {k : Known} (are : AreSame p n m o k) where
  pub same_object : (l : ℕ) → object_at k l ≡ object_of n l
  same_object l = ap (λ id. Object id (location l)) are.thread

  pub own_form : (a : Term) → known.Own p k a → IsOwnForm n a
  own_form a (known.Own.spawning f h) =
      is_spawning f (one_body p k.spawn (f ∷ []) a _ h (are.spawns f))
  own_form a (known.Own.waiting l h) =
      is_waiting l (one_body p k.wait (object_of n l ∷ []) a _
      (subst (λ x. IsBody p k.wait (x ∷ []) a) (same_object l) h) (are.waits l))
  own_form a (known.Own.getting l h) =
      is_getting l (one_body p k.val (object_of n l ∷ []) a _
      (subst (λ x. IsBody p k.val (x ∷ []) a) (same_object l) h) (are.gets l))
  own_form a (known.Own.asking l h) =
      is_asking l (one_body p k.ready (object_of n l ∷ []) a _
      (subst (λ x. IsBody p k.ready (x ∷ []) a) (same_object l) h) (are.asks l))

  pub form_own : (a : Term) → IsOwnForm n a → known.Own p k a
  form_own a (is_spawning f e) =
      known.Own.spawning f (subst (IsBody p k.spawn (f ∷ [])) (sym e) (are.spawns f))
  form_own a (is_waiting l e) =
      known.Own.waiting l
      (subst (λ x. IsBody p k.wait (x ∷ []) a) (sym (same_object l))
      (subst (IsBody p k.wait (object_of n l ∷ [])) (sym e) (are.waits l)))
  form_own a (is_getting l e) =
      known.Own.getting l
      (subst (λ x. IsBody p k.val (x ∷ []) a) (sym (same_object l))
      (subst (IsBody p k.val (object_of n l ∷ [])) (sym e) (are.gets l)))
  form_own a (is_asking l e) =
      known.Own.asking l
      (subst (λ x. IsBody p k.ready (x ∷ []) a) (sym (same_object l))
      (subst (IsBody p k.ready (object_of n l ∷ [])) (sym e) (are.asks l)))

-- none leaves the prelude's own names alone
pub form_not_private : {p : Program} {n : Names} {m : Start} {g : Ground} (a : Term)
    → IsOwnForm n a → Private p n m g a → ⊥
form_not_private {p} {n} {m} {g} a (is_spawning f e) h =
    not_spawning f (subst (Private p n m g) e h)
form_not_private {p} {n} {m} {g} a (is_waiting l e) h =
    not_waiting l (subst (Private p n m g) e h)
form_not_private {p} {n} {m} {g} a (is_getting l e) h =
    not_getting l (subst (Private p n m g) e h)
form_not_private {p} {n} {m} {g} a (is_asking l e) h = not_asking l (subst (Private p n m g) e h)

-- each is open
pub form_out : (n : Names) (a : Term) → IsOwnForm n a → standing a ≡ open_yet
form_out n a (is_spawning f e) = ap standing e ∙ ap standing_at (outs-Let _ _ _)
form_out n a (is_waiting l e) = ap standing e ∙ ap standing_at (outs-Atomic _ _)
form_out n a (is_getting l e) = ap standing e ∙ ap standing_at (outs-Then _ _)
form_out n a (is_asking l e) = ap standing e ∙ ap standing_at (outs-Operator _ _)

-- so no form of its own does; what is closed is none
pub not_own : {p : Program} {n : Names} {m : Start} {o : Own} {k : Known} {g : Ground}
    → AreSame p n m o k → (a : Term) → (standing a ≡ open_yet → Private p n m g a)
    → known.Own p k a → ⊥
not_own {n = n} are a h own =
    let i = own_form are a own in form_not_private a i (h (form_out n a i))

-- the forms that they have
abbrev IsShape : Term-F Term Value Closure → Type 0
IsShape (Term-F.Let xs a b) = Unit {0}
IsShape (Term-F.Atomic d a) = Unit {0}
IsShape (Term-F.Then a b) = Unit {0}
IsShape (Term-F.Operator set ts) = Unit {0}
IsShape _ = ⊥

form_shape : (n : Names) (a : Term) → IsOwnForm n a → IsShape (out-Term a)
form_shape n a (is_spawning f e) =
    subst IsShape (sym (ap out-Term e ∙ outs-Let _ _ _)) tt
form_shape n a (is_waiting l e) = subst IsShape (sym (ap out-Term e ∙ outs-Atomic _ _)) tt
form_shape n a (is_getting l e) = subst IsShape (sym (ap out-Term e ∙ outs-Then _ _)) tt
form_shape n a (is_asking l e) = subst IsShape (sym (ap out-Term e ∙ outs-Operator _ _)) tt

pub not_shape : (n : Names) (a : Term) (y : Term-F Term Value Closure) → out-Term a ≡ y
    → (IsShape y → ⊥) → IsOwnForm n a → ⊥
not_shape n a y e none h = none (subst IsShape e (form_shape n a h))

-- a part with its mark is none
pub stepped_not_form : (n : Names) (b : Term) → IsOwnForm n (stepped b) → ⊥
stepped_not_form n b h = go (decide b)
  where
    go : (standing b ≡ open_yet) ⊎ Finished b → ⊥
    go (inl ob) =
        not_shape n (stepped b) _ (ap out-Term (stepped_open b ob) ∙ outs-Stepped b) (λ z. z) h
    go (inr f) =
        not_finished (stepped b) (form_out n (stepped b) h)
        (subst Finished (sym (stepped_finished b f)) f)

-- nor is a parallel node
pub many_not_form : (n : Names) (y : Many) (ts : List Term) → IsOwnForm n (many_term y ts) → ⊥
many_not_form n y ts h = go (is_many y ts)
  where
    none : (y : Many) → IsShape (many_layer y ts) → ⊥
    none of_group z = z
    none (of_call set) z = z
    none of_block z = z

    go : IsMany y ts → ⊥
    go (form e) = not_shape n (many_term y ts) _ e (none y) h
    go (value x e) =
        not_finished (many_term y ts) (form_out n (many_term y ts) h) (ends.Finished.value x e)

pub pair_not_form : (n : Names) (y : Pair) (a b : Term) → IsOwnForm n (pair_term y a b) → ⊥
pair_not_form n y a b h = not_shape n (pair_term y a b) _ (out_pair y a b) (none y) h
  where
    none : (y : Pair) → IsShape (pair_layer y a b) → ⊥
    none of_apply z = z
    none of_halves z = z
    none (of_reduced set) z = z

-- a mark that is read isn't what matches
module _ {p : Program} {n : Names} {m : Start} {g : Ground} where
  not_mark : (l : ℕ) → Private p n m g (mark_at n l) → ⊥
  not_mark l h =
      (privates_as _ (outs-ReadField (term.Value (object_of n l)) n.state) h).keeps (inr (inl refl))

  pub not_adding : (t : Term) → Private p n m g (adding_it n t) → ⊥
  not_adding t h =
      let a = first_of (rest_of (privates_as _ (outs-Then _ _) h).terms) in
      let b = first_of (rest_of (privates_as _ (outs-Then _ _) a).terms) in
      let c = first_of (rest_of (privates_as _ (outs-Then _ _) b).terms) in
      let d = first_of (privates_as _ (outs-Then _ _) c).terms in
      (privates_as _ (outs-WriteField _ _ _) d).keeps (inr (inr (inr (inl refl))))

  not_telling : (l : ℕ) → Private p n m g (telling n l (comparing n (mark_at n l))) → ⊥
  not_telling l h =
      let test = first_of (privates_as _ (outs-If _ _ _) h).terms in
      not_mark l (first_of (privates_as _ (outs-Operator n.equal _) test).terms)

  var_private : Private p n m g (Variable 0)
  var_private = private_at (Variable 0) _ (outs-Variable 0) tt no_terms no_values

-- what may stand round a part that leaves the prelude's own names alone
abbrev Round : Program → Names → Start → Ground → Frame → Type 0
Round p n m g f = (t : Term) → Private p n m g t → Private p n m g (on f t)

module _ (p : Program) (n : Names) (m : Start) (g : Ground) where
  round_let : (f : Frame) (b x y : Term) (xs : List (ℕ × Ty)) → Round p n m g f
      → on_layer f b ≡ Term-F.Let xs x y → Private p n m g y
  round_let (in_let ys rest) b x y xs r q =
      let z : rest ≡ y = cc in
      subst (Private p n m g) z
      (first_of (rest_of (privates_as _ (outs-Let _ _ _) (r (Variable 0) var_private)).terms))
  round_let in_throw b x y xs r q = absurd cc
  round_let _ b x y xs r q = absurd cc

  round_then : (f : Frame) (b x y : Term) → Round p n m g f → on_layer f b ≡ Term-F.Then x y
      → Private p n m g y
  round_then (in_then rest) b x y r q =
      let z : rest ≡ y = cc in
      subst (Private p n m g) z
      (first_of (rest_of (privates_as _ (outs-Then _ _) (r (Variable 0) var_private)).terms))
  round_then in_throw b x y r q = absurd cc
  round_then _ b x y r q = absurd cc

  round_atomic : (f : Frame) (b x : Term) (d : Mode) → on_layer f b ≡ Term-F.Atomic d x → ⊥
  round_atomic in_throw b x d q = cc
  round_atomic _ b x d q = cc

  round_field : (f : Frame) (b x : Term) → Round p n m g f
      → on_layer f b ≡ Term-F.ReadField x n.state → ⊥
  round_field (in_field field) b x r q =
      let z : field ≡ n.state = cc in
      (privates_as _ (outs-ReadField _ _) (r (Variable 0) var_private)).keeps (inr (inl z))
  round_field in_throw b x r q = cc
  round_field _ b x r q = cc

  value_no_mark : (l : ℕ) (x : Value) → term.Value x ≡ mark_at n l → ⊥
  value_no_mark l x e =
      let z = sym (outs-Value x) ∙ ap out-Term e ∙ outs-ReadField _ _ in cc

  operand_mark : (before : List Value) (b : Term) (behind : List Term) (l : ℕ)
      → map term.Value before ++ b ∷ behind ≡ mark_at n l ∷ number 0 ∷ [] → b ≡ mark_at n l
  operand_mark [] b behind l e = cc
  operand_mark (x ∷ before) b behind l e = absurd (value_no_mark l x cc)

  round_operand : (f : Frame) (b : Term) (l : ℕ)
      → on_layer f b ≡ Term-F.Operator n.differs (mark_at n l ∷ number 0 ∷ []) → b ≡ mark_at n l
  round_operand (in_operand set before behind) b l q = operand_mark before b behind l cc
  round_operand in_throw b l q = absurd cc
  round_operand _ b l q = absurd cc

  -- a form in order is none, where what stands in it is no mark that is read
  plain_not_form : (f : Frame) (b : Term) → IsInOrder f → IsNoMark f → Round p n m g f
      → ((l : ℕ) → b ≡ mark_at n l → ⊥) → IsOwnForm n (on f b) → ⊥
  plain_not_form f b line nm r none (is_spawning x e) =
      let z = round_let f b _ _ _ r
      (sym (out_line f b line nm) ∙ ap out-Term e ∙ outs-Let _ _ _) in
      let a = first_of (privates_as _ (outs-Then _ _) z).terms in
      not_adding (Variable 1) (first_of (privates_as _ (outs-Atomic _ _) a).terms)
  plain_not_form f b line nm r none (is_waiting l e) =
      round_atomic f b _ _ (sym (out_line f b line nm) ∙ ap out-Term e ∙ outs-Atomic _ _)
  plain_not_form f b line nm r none (is_getting l e) =
      not_telling l (round_then f b _ _ r
      (sym (out_line f b line nm) ∙ ap out-Term e ∙ outs-Then _ _))
  plain_not_form f b line nm r none (is_asking l e) =
      none l (round_operand f b l
      (sym (out_line f b line nm) ∙ ap out-Term e ∙ outs-Operator _ _))

  pub line_not_form : (f : Frame) (b : Term) → IsInOrder f → Round p n m g f
      → ((l : ℕ) → b ≡ mark_at n l → ⊥) → IsOwnForm n (on f b) → ⊥
  line_not_form in_stepped b line r none h = stepped_not_form n b h
  line_not_form f b line r none h = plain_not_form f b line tt r none h

  mark_open : (l : ℕ) → standing (mark_at n l) ≡ open_yet
  mark_open l = ap standing_at (outs-ReadField _ _)

  stepped_no_mark : (l : ℕ) (b : Term) → stepped b ≡ mark_at n l → ⊥
  stepped_no_mark l b e = go (decide b)
    where
      go : (standing b ≡ open_yet) ⊎ Finished b → ⊥
      go (inl ob) =
          let z = sym (ap out-Term (stepped_open b ob) ∙ outs-Stepped b) ∙ ap out-Term e
          ∙ outs-ReadField _ _ in cc
      go (inr f) =
          not_finished (mark_at n l) (mark_open l)
          (subst Finished (sym (stepped_finished b f) ∙ e) f)

  line_no_mark : (f : Frame) (b : Term) (l : ℕ) → IsInOrder f → Round p n m g f
      → on f b ≡ mark_at n l → ⊥
  line_no_mark in_stepped b l line r e = stepped_no_mark l b e
  line_no_mark f b l line r e =
      round_field f b _ r (sym (out_line f b line tt) ∙ ap out-Term e ∙ outs-ReadField _ _)

  many_no_mark : (y : Many) (ts : List Term) (l : ℕ) → many_term y ts ≡ mark_at n l → ⊥
  many_no_mark y ts l e = go (is_many y ts)
    where
      none : (y : Many) → many_layer y ts ≡ Term-F.ReadField (term.Value (object_of n l)) n.state
          → ⊥
      none of_group z = cc
      none (of_call set) z = cc
      none of_block z = cc

      go : IsMany y ts → ⊥
      go (form q) = none y (sym q ∙ ap out-Term e ∙ outs-ReadField _ _)
      go (value x q) = value_no_mark l x (sym q ∙ e)

  pair_no_mark : (y : Pair) (a b : Term) (l : ℕ) → pair_term y a b ≡ mark_at n l → ⊥
  pair_no_mark y a b l e = none y (sym (out_pair y a b) ∙ ap out-Term e ∙ outs-ReadField _ _)
    where
      none : (y : Pair)
          → pair_layer y a b ≡ Term-F.ReadField (term.Value (object_of n l)) n.state → ⊥
      none of_apply z = cc
      none of_halves z = cc
      none (of_reduced set) z = cc

-- no mark that is read matches, but within a call
module _ {p : Program} {n : Names} {m : Start} {o : Own} {w : World} where
  way_no_mark : (spot : Spot) (u v : Term) (l : ℕ) → IsUnderWay p n m o w spot u v
      → v ≡ mark_at n l → ⊥
  way_no_mark spot u v l (spawns f place h e q) z =
      let y = sym (outs-Let _ _ _) ∙ ap out-Term (sym q ∙ z) ∙ outs-ReadField _ _ in cc
  way_no_mark spot u v l (waits k g h j q) z =
      let y = sym (outs-Atomic _ _) ∙ ap out-Term (sym q ∙ z) ∙ outs-ReadField _ _ in cc
  way_no_mark spot u v l (gets k place g h e q) z =
      let y = sym (outs-Then _ _) ∙ ap out-Term (sym q ∙ z) ∙ outs-ReadField _ _ in cc
  way_no_mark spot u v l (asks k g e q) z =
      let y = sym (outs-Operator _ _) ∙ ap out-Term (sym q ∙ z) ∙ outs-ReadField _ _ in cc
  way_no_mark spot u v l (starts place e q h t) z =
      not_mark l (subst (Private p n m (ground_of w)) (sym q ∙ z) h)

  pub no_mark : {here : Spot} {asked : Paths} {path : List ℕ} {u v : Term} (l : ℕ)
      → Matches p n m o w here asked path u v → v ≡ mark_at n l → ⊥
  no_mark l (same e h) z = not_mark l (subst (Private p n m (ground_of w)) (e ∙ z) h)
  no_mark l (sleeps marks body e f h hs used q) z =
      let y = sym (outs-Asleep _ _) ∙ ap out-Term (sym f ∙ z) ∙ outs-ReadField _ _ in cc
  no_mark {here} {asked} {path} {u} {v} l (under_way h) z = way_no_mark (path ∷ here) u v l h z
  no_mark l (ahead x h e k) z = value_no_mark p n m (ground_of w) l x (sym e ∙ z)
  no_mark l (within f a b line rest oa may e q h) z =
      line_no_mark p n m (ground_of w) f b l line rest (sym q ∙ z)
  no_mark l (many y us vs off e q hs) z =
      many_no_mark p n m (ground_of w) y vs l (sym q ∙ z)
  no_mark l (pair y a b c d off e q h k) z =
      pair_no_mark p n m (ground_of w) y c d l (sym q ∙ z)

-- in each call under way but that of `run` stands such a form in the machine with threads
pub way_form : {p : Program} {n : Names} {m : Start} {o : Own} {w : World} {spot : Spot}
    {u v : Term} → IsUnderWay p n m o w spot u v
    → IsOwnForm n v ⊎ ((v ≡ o.body) × Private p n m (ground_of w) v)
way_form (spawns f place h e q) = inl (is_spawning f q)
way_form (waits l g h k q) = inl (is_waiting l q)
way_form (gets l place g h e q) = inl (is_getting l q)
way_form (asks l g e q) = inl (is_asking l q)
way_form {p} {n} {m} {o} {w} (starts place e q h t) =
    inr (q, subst (Private p n m (ground_of w)) (sym q) h)
