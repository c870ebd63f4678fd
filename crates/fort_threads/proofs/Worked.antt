-- The worked run: each of its steps, and that none of its other forms is one of its own.
use Rattle.std.proofs.Common.{◌≡◌, ℕ, zero, suc, ◌+◌, ◌==◌, ◌<◌, ◌≤◌, ◌^◌, Bool, true, false, ◌&&◌, ◌||◌, List, [], ◌∷◌, ◌++◌, map, length, Option, Some, None, if◌then◌else◌, refl, ap, sym, ◌∙◌, subst, arith, inl, inr, lt_of_lt_of_le}
use Rattle.std.specs.Prelude.{slice_get, IsTrue, Contains}
use Rattle.std.specs.List.{slice_index_or}
use Rattle.fort_base.specs.declared.ids.DeclId.{DeclId}
use Rattle.fort_base.specs.declared.ids.SetId.{SetId}
use Rattle.fort_base.specs.declared.ty.Ty.{Ty, out-Ty, fold_out-Ty}
use Rattle.fort_base.specs.declared.ty.Ty.TheVariants.{Any, outs-Any}
use Rattle.fort_base.specs.declared.ty.Ty.TheOpen.{Ty-F}
use Rattle.fort_core.specs.declared.pick.Pick.{Step}
use Rattle.fort_core.specs.declared.pick.Pick.TheVariants.{outs-Step}
use Rattle.fort_core.specs.declared.program.CoreDecl.{CoreDecl}
use Rattle.fort_core.specs.declared.program.CoreSet.{CoreSet}
use Rattle.fort_core.specs.declared.term.Term.{Term, Call, Then, Size, ReadField, Apply, out-Term, fold-roll-Term}
use Rattle.fort_core.specs.declared.term.Term as term
use Rattle.fort_core.specs.declared.term.Term.TheVariants.{Variable, outs-Variable, outs-Call, outs-Then, outs-Size, outs-ReadField, outs-Apply, rolls-Value, rolls-Variable, rolls-Size, rolls-ReadField}
use Rattle.fort_core.specs.declared.term.Term.TheOpen.{Term-F}
use Rattle.fort_core.specs.declared.value.Closure.{Closure}
use Rattle.fort_core.specs.declared.value.Value.{Value, Function}
use Rattle.fort_core.specs.declared.value.Value.TheVariants.{outs-Function, outs-Tuple}
use Rattle.fort_types.specs.Relation.{Relation, below_at, relation}
use Rattle.fort_machine.specs.Types.{all_below, type_of}
use Rattle.fort_machine.specs.Cells.{Cell, untouched, made, joined, Fits}
use Rattle.fort_machine.specs.Effects.{Store, Effect, idle, paid, making, made_from, both, FitsAll, afterwards}
use Rattle.fort_machine.specs.Ends.{Finished, at_value, standing, has_stepped}
use Rattle.fort_machine.specs.Ends as ends_of
use Rattle.fort_machine.specs.Acts.{enters, calls, becomes, unit, by_standing, with_first, at_values, by_together}
use Rattle.fort_machine.specs.Attempts.{goes}
use Rattle.fort_machine.specs.Forms.{act_at, act, applying, applying_to, entering}
use Rattle.fort_machine.specs.Frames.{Frame, in_then, plug, passed, trodden}
use Rattle.fort_machine.specs.Calls.{IsApplicable, Dispatches, by_body}
use Rattle.fort_machine.specs.Marked.{dozes_at, dozes, Bare}
use Rattle.fort_machine.specs.Parts.{IsOneOf}
use Rattle.fort_machine.specs.Steps.{by_call, Local, steps}
use Rattle.fort_machine.specs.Steps as steps_of
use Rattle.fort_machine.specs.Substitution.{substituted, with_value, parts_paired}
use Rattle.fort_machine.specs.Journals.{opening_store, MakesWithinBounds}
use Rattle.fort_machine.specs.Runs.{path_to, location}
use Rattle.fort_machine.specs.Worked.{set, decl}
use Rattle.fort_machine.proofs.Effects.{made_in_row}
use Rattle.fort_machine.proofs.Cells.{joined_untouched}
use Rattle.fort_machine.proofs.Less.{substituted_out, values_by, closures_by}
use Rattle.fort_machine.proofs.Standing.{standing-Value}
use Rattle.fort_machine.proofs.Substituted.{pairs}
use Rattle.fort_threads.specs.Known.{object_at, IsBody, Own, spawning, waiting, getting, asking, Outside}
use Rattle.fort_threads.specs.Threads.{Phase, new, going, over, Thread, thread, Done, only, both_done, noted_at, noted_by}
use Rattle.fort_threads.specs.Moves.{opening_fields, spawns, waits, Moves, by_itself, comes, as_ever}
use Rattle.fort_threads.specs.Runs.{Runs, none, step}
use Rattle.fort_threads.specs.Machine.{Event, takes, applied, Goes, rests, goes_on, begun, ended, alone}
use Rattle.fort_threads.specs.Worked.{two_known, spawn_decl, state, wait_decl, nothing, spawned, waiting_for_it, spawning_program, at_root, nine_events, both_over, SpawnsAndWaits}

-- ---- the bodies of both declarations

variable_is : (v : Value) → substituted 0 v (Variable 0) ≡ term.Value v
variable_is v =
    substituted_out 0 v (Variable 0)
    ∙ ap (λ x. with_value 0 v (pairs (substituted 0 v) (values_by 0 v) (closures_by 0 v) x))
    (outs-Variable 0)

spawn_form : (v : Value) → substituted 0 v (Size (Variable 0)) ≡ Size (term.Value v)
spawn_form v =
    substituted_out 0 v (Size (Variable 0))
    ∙ ap (λ x. with_value 0 v (pairs (substituted 0 v) (values_by 0 v) (closures_by 0 v) x))
    (outs-Size (Variable 0))
    ∙ rolls-Size (substituted 0 v (Variable 0)) ∙ ap Size (variable_is v)

wait_form : (v : Value)
    → substituted 0 v (ReadField (Variable 0) state) ≡ ReadField (term.Value v) state
wait_form v =
    substituted_out 0 v (ReadField (Variable 0) state)
    ∙ ap (λ x. with_value 0 v (pairs (substituted 0 v) (values_by 0 v) (closures_by 0 v) x))
    (outs-ReadField (Variable 0) state)
    ∙ rolls-ReadField (substituted 0 v (Variable 0)) state
    ∙ ap (λ x. ReadField x state) (variable_is v)

-- no form sleeps in them
bare_Value : (v : Value) → Bare (term.Value v)
bare_Value v =
    ap dozes (sym (rolls-Value v))
    ∙ fold-roll-Term Bool (Unit {0}) Bool dozes_at (λ w. tt) (λ c. c.body) (Term-F.Value v)

bare_Variable : Bare (Variable 0)
bare_Variable =
    ap dozes (sym (rolls-Variable 0))
    ∙ fold-roll-Term Bool (Unit {0}) Bool dozes_at (λ w. tt) (λ c. c.body) (Term-F.Variable 0)

bare_Size : Bare (Size (Variable 0))
bare_Size =
    ap dozes (sym (rolls-Size (Variable 0)))
    ∙ fold-roll-Term Bool (Unit {0}) Bool dozes_at (λ w. tt) (λ c. c.body)
    (Term-F.Size (Variable 0)) ∙ ap (λ b. b || false) bare_Variable

bare_ReadField : Bare (ReadField (Variable 0) state)
bare_ReadField =
    ap dozes (sym (rolls-ReadField (Variable 0) state))
    ∙ fold-roll-Term Bool (Unit {0}) Bool dozes_at (λ w. tt) (λ c. c.body)
    (Term-F.ReadField (Variable 0) state) ∙ ap (λ b. b || false) bare_Variable

spawn_body : (v : Value) → IsBody spawning_program (decl 0) (v ∷ []) (Size (term.Value v))
spawn_body v =
    record {
      declared = spawn_decl;
      text = Size (Variable 0);
      is_declared = refl;
      is_body = ap (enters (Size (Variable 0))) (spawn_form v);
    }

wait_body : (v : Value)
    → IsBody spawning_program (decl 1) (v ∷ []) (ReadField (term.Value v) state)
wait_body v =
    record {
      declared = wait_decl;
      text = ReadField (Variable 0) state;
      is_declared = refl;
      is_body = ap (enters (ReadField (Variable 0) state)) (wait_form v);
    }

-- ---- the forms of their own are these alone

some_is : (x y : CoreDecl) → Some x ≡ Some y → x ≡ y
some_is x y e = cc

none_is : (x : CoreDecl) → None ≡ Some x → ⊥
none_is x e = cc

entered : (t u a b : Term) → enters t a ≡ enters u b → a ≡ b
entered t u a b e = cc

own_spawn : (v : Value) (a : Term) → IsBody spawning_program (decl 0) (v ∷ []) a
    → a ≡ Size (term.Value v)
own_spawn v a h =
    let e : by_body spawning_program spawn_decl.body (v ∷ []) ≡ enters h.text a =
    ap (λ (c : CoreDecl). by_body spawning_program c.body (v ∷ []))
    (some_is spawn_decl h.declared h.is_declared) ∙ h.is_body in
    sym (entered (Size (Variable 0)) h.text (substituted 0 v (Size (Variable 0))) a e)
    ∙ spawn_form v

own_wait : (v : Value) (a : Term) → IsBody spawning_program (decl 1) (v ∷ []) a
    → a ≡ ReadField (term.Value v) state
own_wait v a h =
    let e : by_body spawning_program wait_decl.body (v ∷ []) ≡ enters h.text a =
    ap (λ (c : CoreDecl). by_body spawning_program c.body (v ∷ []))
    (some_is wait_decl h.declared h.is_declared) ∙ h.is_body in
    sym (entered (ReadField (Variable 0) state) h.text
    (substituted 0 v (ReadField (Variable 0) state)) a e) ∙ wait_form v

abbrev is_own : Term-F Term Value Closure → Bool
is_own (Term-F.Size a) = true
is_own (Term-F.ReadField a f) = true
is_own _ = false

own_shape : (a : Term) → Own spawning_program two_known a → is_own (out-Term a) ≡ true
own_shape a (spawning f h) =
    ap (λ x. is_own (out-Term x)) (own_spawn f a h) ∙ ap is_own (outs-Size (term.Value f))
own_shape a (waiting l h) =
    ap (λ x. is_own (out-Term x)) (own_wait (object_at two_known l) a h)
    ∙ ap is_own (outs-ReadField (term.Value (object_at two_known l)) state)
own_shape a (getting l h) = absurd (none_is h.declared h.is_declared)
own_shape a (asking l h) = absurd (none_is h.declared h.is_declared)

not_own : (a : Term) → is_own (out-Term a) ≡ false → Own spawning_program two_known a → ⊥
not_own a e own = let z : true ≡ false = sym (own_shape a own) ∙ e in cc

then_not_own : (a b : Term) → Own spawning_program two_known (Then a b) → ⊥
then_not_own a b = not_own (Then a b) (ap is_own (outs-Then a b))

call_not_own : (n : ℕ) (ts : List Term) → Own spawning_program two_known (Call (set n) ts) → ⊥
call_not_own n ts = not_own (Call (set n) ts) (ap is_own (outs-Call (set n) ts))

apply_not_own : (a b : Term) → Own spawning_program two_known (Apply a b) → ⊥
apply_not_own a b = not_own (Apply a b) (ap is_own (outs-Apply a b))

no_frames : (gs hs : List Frame) (f : Frame) → [] ≡ gs ++ f ∷ hs → ⊥
no_frames [] hs f e = cc
no_frames (g ∷ gs) hs f e = cc

frames_tail : (f g : Frame) (fs gs : List Frame) → f ∷ fs ≡ g ∷ gs → fs ≡ gs
frames_tail f g fs gs e = cc

outside_root : (a : Term) → Outside spawning_program two_known [] a
outside_root a gs hs f e own = no_frames gs hs f e

outside_then : (w a : Term) → Outside spawning_program two_known (in_then w ∷ []) a
outside_then w a [] hs f e own =
    then_not_own a w (subst (λ fs. Own spawning_program two_known (plug fs a)) (sym e) own)
outside_then w a (g ∷ gs) hs f e own =
    no_frames gs hs f (frames_tail (in_then w) g [] (gs ++ f ∷ hs) e)

-- ---- calls

one_member : (d e : DeclId) (n : ℕ) → n < 1 → slice_index_or (d ∷ []) n e ≡ e → e ≡ d
one_member d e zero h q = sym q
one_member d e (suc n) h q = absurd (omega arith)

some_set : (x y : CoreSet) → Some x ≡ Some y → x ≡ y
some_set x y e = cc

only_one : (n : ℕ) (d : DeclId)
    → slice_get spawning_program.sets n ≡ Some (record { decls = d ∷ [] })
    → (ts : List Ty) (e : DeclId) (other : CoreDecl)
    → IsApplicable spawning_program (set n) ts e other → e ≡ d
only_one n d q ts e other a =
    let z : Some (record { decls = d ∷ [] }) ≡ Some a.members = sym q ∙ a.is_set in
    let w : a.members.decls ≡ d ∷ [] = ap (λ (m : CoreSet). m.decls) (sym (some_set _ _ z)) in
    let i = subst (λ ds. Contains ds e) w a.is_member in
    one_member d e i.0 i.1 i.2

dispatches : (n : ℕ) (d : DeclId) (c : CoreDecl) (vs : List Value)
    → slice_get spawning_program.sets n ≡ Some (record { decls = d ∷ [] })
    → slice_get spawning_program.decls d.0 ≡ Some c
    → IsTrue (all_below spawning_program (map (type_of spawning_program) vs) c.parameters)
    → Dispatches spawning_program (set n) vs d c
dispatches n d c vs q r h = record {
  most_specific = record {
    applicable =
        record {
          members = record { decls = d ∷ [] };
          is_set = q;
          is_member = (0, omega arith, refl);
          is_decl = r;
          applies = h;
        };
    over_others = λ e other a ne. absurd (ne (only_one n d q _ e other a));
  };
  no_other = λ e other m. only_one n d q _ e other m.applicable;
}

-- all types are below `Any`
layer_below : (x : Ty-F Relation) → below_at [] x true Ty-F.Any ≡ true
layer_below Ty-F.Nothing = refl
layer_below Ty-F.Any = refl
layer_below (Ty-F.Named i) = refl
layer_below (Ty-F.Tuple rs) = refl
layer_below (Ty-F.Arrow a b) = refl
layer_below (Ty-F.Array a) = refl

by_layer : (r : Relation) (x : Ty-F Relation) → r ≡ (λ up b. below_at [] x up (out-Ty b))
    → r true Any ≡ true
by_layer r x e = ap (λ (q : Relation). q true Any) e ∙ ap (below_at [] x true) outs-Any
    ∙ layer_below x

below_any : (t : Ty) → relation [] t true Any ≡ true
below_any t = by_layer (relation [] t) _
    (fold_out-Ty Relation (λ layer up b. below_at [] layer up (out-Ty b)) t)

fits_any : (v : Value)
    → all_below spawning_program (map (type_of spawning_program) (v ∷ [])) (Any ∷ []) ≡ true
fits_any v = ap (λ b. b && true) (below_any (type_of spawning_program v))

calls_one : (n : ℕ) (v : Value)
    → act spawning_program (Call (set n) (term.Value v ∷ [])) ≡ calls (set n) (v ∷ [])
calls_one n v =
    ap (act_at spawning_program) (outs-Call (set n) (term.Value v ∷ []))
    ∙ ap (λ st. by_together (with_first st (has_stepped (term.Value v)) (at_values []))
    (calls (set n))) (standing-Value v)

-- ---- the steps

abbrev Steps : List Thread → ℕ → Term → Term → Done → Type 0
Steps us l a b d = Moves spawning_program two_known false us l a b d

abbrev coming : Done
coming = record { effect = paid 1; added = []; came = true }

calls_spawn : (us : List Thread) (v : Value)
    → Steps us 0 (Call (set 0) (term.Value v ∷ [])) (Size (term.Value v)) coming
calls_spawn us v =
    let found = dispatches 0 (decl 0) spawn_decl (v ∷ []) refl refl (fits_any v) in
    comes (paid 1) (decl 0) (v ∷ []) (call_not_own 0 (term.Value v ∷ [])) (inl refl)
    (record {
      set = set 0;
      declared = spawn_decl;
      is_call = calls_one 0 v;
      dispatches = found;
    })
    (steps (enters (Size (Variable 0)) (Size (term.Value v)))
    (by_call (calls_one 0 v) found (ap (enters (Size (Variable 0))) (spawn_form v)))
    (bare_Size, refl, refl, refl)) refl

calls_wait : (us : List Thread) (v : Value)
    → Steps us 0 (Call (set 1) (term.Value v ∷ [])) (ReadField (term.Value v) state) coming
calls_wait us v =
    let found = dispatches 1 (decl 1) wait_decl (v ∷ []) refl refl (fits_any v) in
    comes (paid 1) (decl 1) (v ∷ []) (call_not_own 1 (term.Value v ∷ [])) (inr (inl refl))
    (record {
      set = set 1;
      declared = wait_decl;
      is_call = calls_one 1 v;
      dispatches = found;
    })
    (steps (enters (ReadField (Variable 0) state) (ReadField (term.Value v) state))
    (by_call (calls_one 1 v) found (ap (enters (ReadField (Variable 0) state)) (wait_form v)))
    (bare_ReadField, refl, refl, refl)) refl

abbrev with_thread : Done
with_thread =
    record {
      effect = making 9 (opening_fields (Function nothing)) 1;
      added = thread (Some 9) (new (Function nothing)) ∷ [];
      came = true;
    }

adds_thread : (u : Thread)
    → Steps (u ∷ []) 9 (Size (term.Value (Function nothing))) (term.Value spawned) with_thread
adds_thread u =
    let few : length (u ∷ []) ≤ 64 = omega arith in
    by_itself (spawns (Function nothing) (spawn_body (Function nothing)) few refl refl)

acts_then : (v : Value) (w : Term)
    → act spawning_program (Then (term.Value v) w) ≡ becomes w
acts_then v w =
    ap (act_at spawning_program) (outs-Then (term.Value v) w)
    ∙ ap (λ st. by_standing st (λ u. becomes w)) (standing-Value v)

no_turn_calls : (t : Term) (s : SetId) (vs : List Value) → becomes t ≡ calls s vs → ⊥
no_turn_calls t s vs e = cc

no_entry_calls : (t u : Term) (s : SetId) (vs : List Value) → enters t u ≡ calls s vs → ⊥
no_entry_calls t u s vs e = cc

goes_behind : (us : List Thread) (v : Value) (w : Term)
    → Steps us 0 (Then (term.Value v) w) w (only (paid 1))
goes_behind us v w =
    as_ever (paid 1) (then_not_own (term.Value v) w)
    (λ c vs i h. no_turn_calls w h.set vs (sym (acts_then v w) ∙ h.is_call))
    (steps (becomes w) (steps_of.by_itself (acts_then v w)) (refl, refl, refl)) refl

acts_apply : act spawning_program (applied (Function nothing))
    ≡ enters (term.Value unit) (term.Value unit)
acts_apply =
    let f : Term = term.Value (Function nothing) in
    let a : Term = term.Value unit in
    ap (act_at spawning_program) (outs-Apply f a)
    ∙ ap (λ st. by_together (with_first st (has_stepped f)
    (with_first (standing a) (has_stepped a) (at_values []))) applying)
    (standing-Value (Function nothing))
    ∙ ap (λ st. by_together (with_first (at_value (Function nothing)) (has_stepped f)
    (with_first st (has_stepped a) (at_values []))) applying) (standing-Value unit)
    ∙ ap (λ x. applying_to x unit) (outs-Function nothing)
    ∙ ap (λ x. entering nothing (parts_paired [] x)) (outs-Tuple [])

runs_nothing : (us : List Thread)
    → Steps us 0 (applied (Function nothing)) (term.Value unit) (only (paid 1))
runs_nothing us =
    as_ever (paid 1) (apply_not_own (term.Value (Function nothing)) (term.Value unit))
    (λ c vs i h. no_entry_calls (term.Value unit) (term.Value unit) h.set vs
    (sym acts_apply ∙ h.is_call))
    (steps (enters (term.Value unit) (term.Value unit)) (steps_of.by_itself acts_apply)
    (bare_Value unit, refl, refl, refl)) refl

abbrev ended_thread : Thread
ended_thread = thread (Some 9) (over (term.Value unit))

has_waited : (t : Term)
    → Steps (thread None (going t []) ∷ ended_thread ∷ []) 0 (ReadField (term.Value spawned) state)
    (term.Value unit) (only (paid 1))
has_waited t = by_itself (waits 9 (term.Value unit) (wait_body spawned) refl refl refl refl)

-- ---- the run

one_pick : (beside us : List Thread) (s : Store) (fs : List Frame) (a b : Term) (l : ℕ) (d : Done)
    → passed fs a ≡ false → Outside spawning_program two_known fs a → Steps us l a b d
    → FitsAll d.effect s
    → Runs spawning_program two_known false beside us [] s (Step (path_to fs) (location l) ∷ [])
    (plug fs a) (goes (plug (trodden fs) b)) (both_done d (only idle))
one_pick beside us s fs a b l d reached out move fit =
    step fs refl refl reached out move fit (none refl refl refl) refl

noted_root : (l : ℕ) (came : Bool) → noted_by (at_root l) came [] ≡ []
noted_root l came = ap (λ x. noted_at x came []) (outs-Step (path_to []) (location l))

one_event : (before behind later : List Thread) (object : Option ℕ) (t u : Term) (l : ℕ)
    (s : Store) (rest : List Event) (d : Done) (e : Effect)
    → Runs spawning_program two_known false (before ++ behind)
    (before ++ thread object (going t []) ∷ behind) [] s (at_root l ∷ []) t (goes u) d
    → Goes spawning_program two_known (before ++ thread object (going u [])
    ∷ (behind ++ d.added)) (afterwards d.effect s) rest later e
    → Goes spawning_program two_known (before ++ thread object (going t []) ∷ behind) s
    (takes (length before) (at_root l) ∷ rest) later (both d.effect e)
one_event before behind later object t u l s rest d e run on =
    goes_on before behind object refl refl run
    (subst (λ x. Goes spawning_program two_known
    (before ++ thread object (going u x) ∷ (behind ++ d.added)) (afterwards d.effect s) rest later
    e) (sym (noted_root l d.came)) on) refl

none_there : (m : ℕ) (vs : List Value) (l : ℕ) → Fits (made_from m vs l) None
none_there m [] l = tt
none_there m (v ∷ vs) l = go (m == l) (none_there (m + 1) vs l)
  where
    go : (b : Bool) → Fits (made_from (m + 1) vs l) None
        → Fits (if b then made (Some v) else made_from (m + 1) vs l) None
    go true h = tt
    go false h = h

abbrev one : Effect
one = both (paid 1) idle

abbrev fields : Effect
fields = both (making 9 (opening_fields (Function nothing)) 1) idle

abbrev all_done : Effect
all_done = both one (both fields (both one (both one (both one (both one idle)))))

is_at_end : Finished (term.Value unit)
is_at_end = ends_of.Finished.value unit refl

abbrev first_form : Term
first_form = Size (term.Value (Function nothing))

abbrev last_form : Term
last_form = ReadField (term.Value spawned) state

abbrev new_thread : Phase → List Thread
new_thread phase = thread (Some 9) phase ∷ []

waits_in_nine : Goes spawning_program two_known (alone spawning_program.first)
    (opening_store spawning_program) nine_events both_over all_done
waits_in_nine =
    one_event [] [] both_over None spawning_program.first (Then first_form waiting_for_it) 0 _ _ _ _
    (one_pick [] _ _ (in_then waiting_for_it ∷ []) _ first_form 0 coming refl
    (outside_then waiting_for_it _) (calls_spawn _ (Function nothing)) (λ l. tt))
    (one_event [] [] both_over None (Then first_form waiting_for_it)
    (Then (term.Value spawned) waiting_for_it) 9 _ _ _ _
    (one_pick [] _ _ (in_then waiting_for_it ∷ []) first_form (term.Value spawned) 9 with_thread
    refl
    (outside_then waiting_for_it _) (adds_thread _)
    (λ l. none_there 9 (opening_fields (Function nothing)) l))
    (one_event [] (new_thread (new (Function nothing))) both_over None
    (Then (term.Value spawned) waiting_for_it) waiting_for_it 0 _ _ _ _
    (one_pick _ _ _ [] (Then (term.Value spawned) waiting_for_it) waiting_for_it 0 (only (paid 1))
    refl (outside_root _) (goes_behind _ spawned waiting_for_it) (λ l. tt))
    (one_event [] (new_thread (new (Function nothing))) both_over None waiting_for_it last_form 0
    _ _ _ _
    (one_pick _ _ _ [] waiting_for_it last_form 0 coming refl (outside_root _)
    (calls_wait _ spawned) (λ l. tt))
    (begun (alone last_form) [] (Some 9) (Function nothing) refl refl
    (one_event (alone last_form) [] both_over (Some 9) (applied (Function nothing))
    (term.Value unit) 0 _ _ _ _
    (one_pick _ _ _ [] (applied (Function nothing)) (term.Value unit) 0 (only (paid 1)) refl
    (outside_root _) (runs_nothing _) (λ l. tt))
    (ended (alone last_form) [] (Some 9) [] refl refl is_at_end
    (one_event [] (ended_thread ∷ []) both_over None last_form (term.Value unit) 0 _ _ _ _
    (one_pick _ _ _ [] last_form (term.Value unit) 0 (only (paid 1)) refl (outside_root _)
    (has_waited last_form) (λ l. tt))
    (ended [] (ended_thread ∷ []) None [] refl refl is_at_end (rests refl refl refl)))))))))

stays_in_bounds : MakesWithinBounds all_done
stays_in_bounds l v e =
    let c : Cell = made_from 9 (opening_fields (Function nothing)) l in
    let q : c ≡ made v = sym (joined_untouched (joined c untouched) ∙ joined_untouched c) ∙ e in
    let row = made_in_row 9 (opening_fields (Function nothing)) l v q in
    let far : 13 ≤ 2 ^ 64 = omega arith in
    lt_of_lt_of_le row.1 far

all_over : (u : Thread) → IsOneOf u (ended_thread ∷ []) → (t : Term) × (u.phase ≡ over t)
all_over u (inl e) = (term.Value unit, ap (λ (x : Thread). x.phase) e)
all_over u (inr i) = absurd i

pub spawns_and_waits : SpawnsAndWaits
spawns_and_waits = (
  all_done,
  record { goes = waits_in_nine; bounded = stays_in_bounds },
  record { others = ended_thread ∷ []; are_all = refl; all_over = all_over },
  refl,
  refl,
)
