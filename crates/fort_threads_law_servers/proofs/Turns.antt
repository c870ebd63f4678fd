-- One pick of a term, and where it stands: under frames of forms that go from left to right.
use Rattle.std.proofs.Common.{◌≡◌, ℕ, Bool, true, false, List, [], ◌∷◌, ◌++◌, map, refl, ap, sym, ◌∙◌, subst, ◌⊎◌, inl, inr}
use Rattle.fort_base.specs.declared.ids.DeclId.{DeclId}
use Rattle.fort_base.specs.declared.ids.NameId.{NameId}
use Rattle.fort_base.specs.declared.ids.SetId.{SetId}
use Rattle.fort_base.specs.declared.ty.Ty.{Ty}
use Rattle.fort_core.specs.declared.form.Mode.{Mode}
use Rattle.fort_core.specs.declared.pick.Pick.{Pick, Step, Attempt}
use Rattle.fort_core.specs.declared.program.CoreDecl.{CoreDecl}
use Rattle.fort_core.specs.declared.program.Program.{Program}
use Rattle.fort_core.specs.declared.term.Term.{Term, Atomic, Asleep, out-Term}
use Rattle.fort_core.specs.declared.term.Term as term
use Rattle.fort_core.specs.declared.term.Term.TheVariants.{outs-Atomic, outs-Asleep, outs-Then, outs-Let, outs-Try, outs-Write, outs-WriteField, outs-Operator, outs-Typecase, outs-If, outs-For}
use Rattle.fort_core.specs.declared.term.Term.TheOpen.{Term-F}
use Rattle.fort_core.specs.declared.value.Closure.{Closure}
use Rattle.fort_core.specs.declared.value.Value.{Value}
use Rattle.fort_machine.specs.Acts.{Act, stuck, turns, enters, asks, sets, makes, calls}
use Rattle.fort_machine.specs.Acts as acts
use Rattle.fort_machine.specs.Attempts.{Ready, Form, fresh, slept, Ended, goes, Closes}
use Rattle.fort_machine.specs.Calls.{Dispatches, by_body}
use Rattle.fort_machine.specs.Effects.{Store, Effect, idle, paid, writing, both, FitsAll}
use Rattle.fort_machine.specs.Ends.{open_yet, standing, Finished}
use Rattle.fort_machine.specs.Ends as ends
use Rattle.fort_machine.specs.Forms.{act}
use Rattle.fort_machine.specs.Frames.{Frame, in_then, in_let, in_try, in_write, in_field_target, in_field_value, in_operand, in_subject, in_test, in_source, in_throw, on, plug, road, passes, passed, trodden}
use Rattle.fort_machine.specs.Marked.{Bare}
use Rattle.fort_machine.specs.Runs.{Runs, none, step, stop, attempt, path_to, location}
use Rattle.fort_machine.specs.Steps.{by_itself, by_call, Does, Local, steps}
use Rattle.fort_machine.proofs.Standing.{standing-Value, not_finished, or_false}
use Rattle.fort_machine.proofs.Places.{on_layer, out_on, plug_open, ready_open}
use Rattle.fort_machine.proofs.Ready.{acts_ready, local_ready, form_ready}
use Rattle.fort_machine.proofs.WholeEffects.{both_idle}
use Rattle.fort_threads_law_servers.specs.Prelude.{LeadsTo}

-- ---- frames of forms that go from left to right

abbrev pub IsSerial : Frame → Type 0
IsSerial (in_then rest) = Unit {0}
IsSerial (in_let xs rest) = Unit {0}
IsSerial (in_try x clauses last) = Unit {0}
IsSerial (in_write place) = Unit {0}
IsSerial (in_subject x clauses other) = Unit {0}
IsSerial (in_field_value o f) = Unit {0}
IsSerial (in_operand set [] behind) = Unit {0}
IsSerial (in_test one two) = Unit {0}
IsSerial (in_source o s x body) = Unit {0}
IsSerial _ = ⊥

abbrev pub AllSerial : List Frame → Type 0
AllSerial [] = Unit {0}
AllSerial (f ∷ fs) = IsSerial f × AllSerial fs

never_passes : (f : Frame) (t : Term) → IsSerial f → passes f t ≡ false
never_passes (in_then rest) t h = refl
never_passes (in_let xs rest) t h = refl
never_passes (in_try x clauses last) t h = refl
never_passes (in_write place) t h = refl
never_passes (in_subject x clauses other) t h = refl
never_passes (in_field_value o f) t h = refl
never_passes (in_operand set [] behind) t h = refl
never_passes (in_operand set (v ∷ before) behind) t h = absurd h
never_passes (in_test one two) t h = refl
never_passes (in_source o s x body) t h = refl
never_passes _ t h = absurd h

peel_then : (rest x : Term) (g : Frame) (y : Term) → Term-F.Then x rest ≡ on_layer g y
    → (g ≡ in_then rest) × (x ≡ y)
peel_then rest x in_throw y e = absurd cc
peel_then rest x (in_then r) y e = (cc, cc)
peel_then rest x _ y e = absurd cc

peel_let : (xs : List (ℕ × Ty)) (rest x : Term) (g : Frame) (y : Term)
    → Term-F.Let xs x rest ≡ on_layer g y → (g ≡ in_let xs rest) × (x ≡ y)
peel_let xs rest x in_throw y e = absurd cc
peel_let xs rest x (in_let zs r) y e = (cc, cc)
peel_let xs rest x _ y e = absurd cc

never_open : (v : Value) → standing (term.Value v) ≡ open_yet → ⊥
never_open v e =
    let z : ends.Standing.at_value v ≡ open_yet = sym (standing-Value v) ∙ e in cc

same_value : (v w : Value) → term.Value v ≡ term.Value w → v ≡ w
same_value v w e =
    let z : ends.Standing.at_value v ≡ ends.Standing.at_value w =
    sym (standing-Value v) ∙ ap standing e ∙ standing-Value w in cc

peel_value : {w a : Value} {f b : NameId} {x y : Term} → term.Value w ≡ term.Value a → f ≡ b
    → x ≡ y → (in_field_value a b ≡ in_field_value w f) × (x ≡ y)
peel_value {w = w} {a = a} c d e = (λ i. in_field_value (sym (same_value w a c) i) (sym d i), e)

peel_operand : (set : SetId) (behind : List Term) (x : Term) (g : Frame) (y : Term)
    → standing x ≡ open_yet → Term-F.Operator set (x ∷ behind) ≡ on_layer g y
    → (g ≡ in_operand set [] behind) × (x ≡ y)
peel_operand set behind x in_throw y o e = absurd cc
peel_operand set behind x (in_operand s [] b) y o e =
    let q : x ∷ behind ≡ y ∷ b = cc in
    let r : behind ≡ b = cc in
    let z : set ≡ s = cc in (cc, cc)
peel_operand set behind x (in_operand s (v ∷ before) b) y o e =
    let q : x ∷ behind ≡ term.Value v ∷ (map term.Value before ++ y ∷ b) = cc in
    let z : x ≡ term.Value v = cc in absurd (never_open v (ap standing (sym z) ∙ o))
peel_operand set behind x _ y o e = absurd cc

peel : (f g : Frame) (x y : Term) → IsSerial f → standing x ≡ open_yet → standing y ≡ open_yet
    → on f x ≡ on g y → (g ≡ f) × (x ≡ y)
peel (in_then rest) g x y h o q e =
    peel_then rest x g y (sym (outs-Then x rest) ∙ ap out-Term e ∙ out_on g y q)
peel (in_let xs rest) g x y h o q e =
    peel_let xs rest x g y (sym (outs-Let xs x rest) ∙ ap out-Term e ∙ out_on g y q)
peel (in_try v clauses last) g x y h o q e =
    go g (sym (outs-Try x v clauses last) ∙ ap out-Term e ∙ out_on g y q)
  where
    go : (k : Frame) → Term-F.Try x v clauses last ≡ on_layer k y
        → (k ≡ in_try v clauses last) × (x ≡ y)
    go in_throw z = absurd cc
    go (in_try w cs l) z = (cc, cc)
    go _ z = absurd cc
peel (in_write place) g x y h o q e = go g (sym (outs-Write place x) ∙ ap out-Term e ∙ out_on g y q)
  where
    go : (k : Frame) → Term-F.Write place x ≡ on_layer k y → (k ≡ in_write place) × (x ≡ y)
    go in_throw z = absurd cc
    go (in_write a) z = (cc, cc)
    go _ z = absurd cc
peel (in_field_value w f) g x y h o q e =
    go g (sym (outs-WriteField (term.Value w) f x) ∙ ap out-Term e ∙ out_on g y q)
  where
    go : (k : Frame) → Term-F.WriteField (term.Value w) f x ≡ on_layer k y
        → (k ≡ in_field_value w f) × (x ≡ y)
    go in_throw z = absurd cc
    go (in_field_target a b) z =
        let c : term.Value w ≡ y = cc in absurd (never_open w (ap standing c ∙ q))
    go (in_field_value a b) z =
        let c : term.Value w ≡ term.Value a = cc in
        let d : f ≡ b = cc in
        let r : x ≡ y = cc in peel_value c d r
    go _ z = absurd cc
peel (in_operand set [] behind) g x y h o q e =
    peel_operand set behind x g y o (sym (outs-Operator set (x ∷ behind)) ∙ ap out-Term e ∙ out_on g y q)
peel (in_operand set (v ∷ before) behind) g x y h o q e = absurd h
peel (in_subject v cs other) g x y h o q e =
    go g (sym (outs-Typecase v x cs other) ∙ ap out-Term e ∙ out_on g y q)
  where
    go : (k : Frame) → Term-F.Typecase v x cs other ≡ on_layer k y
        → (k ≡ in_subject v cs other) × (x ≡ y)
    go in_throw z = absurd cc
    go (in_subject a b c) z = (cc, cc)
    go _ z = absurd cc
peel (in_test one two) g x y h o q e =
    go g (sym (outs-If x one two) ∙ ap out-Term e ∙ out_on g y q)
  where
    go : (k : Frame) → Term-F.If x one two ≡ on_layer k y → (k ≡ in_test one two) × (x ≡ y)
    go in_throw z = absurd cc
    go (in_test a b) z = (cc, cc)
    go _ z = absurd cc
peel (in_source w s v body) g x y h o q e =
    go g (sym (outs-For w s v x body) ∙ ap out-Term e ∙ out_on g y q)
  where
    go : (k : Frame) → Term-F.For w s v x body ≡ on_layer k y
        → (k ≡ in_source w s v body) × (x ≡ y)
    go in_throw z = absurd cc
    go (in_source a b c f) z = (cc, cc)
    go _ z = absurd cc
peel _ g x y h o q e = absurd h

-- what is there is no place of a thread below it
not_below : (f : Frame) (fs : List Frame) (a b : Term) → Ready a → Ready b → a ≡ on f (plug fs b)
    → passes f (plug fs b) ≡ false → ⊥
not_below f fs a b ra rb e n = go (ra.no_part f (plug fs b) e)
  where
    go : Finished (plug fs b) ⊎ (passes f (plug fs b) ≡ true) → ⊥
    go (inl h) = not_finished (plug fs b) (plug_open fs b (ready_open b rb)) h
    go (inr h) = let z : true ≡ false = sym h ∙ n in cc

-- A ready part under such frames is the only place.
pub sole : (fs gs : List Frame) (a b : Term) → AllSerial fs → plug fs a ≡ plug gs b → Ready a
    → Ready b → passed gs b ≡ false → (gs ≡ fs) × (b ≡ a)
sole [] [] a b h e ra rb n = (refl, sym e)
sole [] (g ∷ gs) a b h e ra rb n =
    absurd (not_below g gs a b ra rb e (or_false (passes g (plug gs b)) (passed gs b) n).0)
sole (f ∷ fs) [] a b h e ra rb n =
    absurd (not_below f fs b a rb ra (sym e) (never_passes f (plug fs a) h.0))
sole (f ∷ fs) (g ∷ gs) a b h e ra rb n =
    let i = peel f g (plug fs a) (plug gs b) h.0 (plug_open fs a (ready_open a ra))
    (plug_open gs b (ready_open b rb)) e in
    let k = sole fs gs a b h.1 i.1 ra rb
    (or_false (passes g (plug gs b)) (passed gs b) n).1 in
    (cc (i.0, k.0), k.1)

-- Under such frames an open part has all places.
pub record Within (fs gs : List Frame) (t b : Term) : Type 0 where
  pub frames : List Frame
  pub are : gs ≡ fs ++ frames
  pub is_part : t ≡ plug frames b

pub inside : (fs gs : List Frame) (t b : Term) → AllSerial fs → standing t ≡ open_yet
    → plug fs t ≡ plug gs b → Ready b → Within fs gs t b
inside [] gs t b h o e rb = record { frames = gs; are = refl; is_part = e }
inside (f ∷ fs) [] t b h o e rb =
    absurd (go (rb.no_part f (plug fs t) (sym e)))
  where
    go : Finished (plug fs t) ⊎ (passes f (plug fs t) ≡ true) → ⊥
    go (inl k) = not_finished (plug fs t) (plug_open fs t o) k
    go (inr k) = let z : true ≡ false = sym k ∙ never_passes f (plug fs t) h.0 in cc
inside (f ∷ fs) (g ∷ gs) t b h o e rb =
    let i = peel f g (plug fs t) (plug gs b) h.0 (plug_open fs t o)
    (plug_open gs b (ready_open b rb)) e in
    let w = inside fs gs t b h.1 o i.1 rb in
    record { frames = w.frames; are = cc (i.0, w.are); is_part = w.is_part }

pub trodden_serial : (fs gs : List Frame) → AllSerial fs → trodden (fs ++ gs) ≡ fs ++ trodden gs
trodden_serial [] gs h = refl
trodden_serial (in_then rest ∷ fs) gs h = ap (λ x. in_then rest ∷ x) (trodden_serial fs gs h.1)
trodden_serial (in_let xs rest ∷ fs) gs h = ap (λ x. in_let xs rest ∷ x) (trodden_serial fs gs h.1)
trodden_serial (in_try v cs l ∷ fs) gs h = ap (λ x. in_try v cs l ∷ x) (trodden_serial fs gs h.1)
trodden_serial (in_write a ∷ fs) gs h = ap (λ x. in_write a ∷ x) (trodden_serial fs gs h.1)
trodden_serial (in_operand s [] b ∷ fs) gs h =
    ap (λ x. in_operand s [] b ∷ x) (trodden_serial fs gs h.1)
trodden_serial (in_operand s (v ∷ c) b ∷ fs) gs h = absurd h.0
trodden_serial (in_field_value o f ∷ fs) gs h =
    ap (λ x. in_field_value o f ∷ x) (trodden_serial fs gs h.1)
trodden_serial (in_subject v c b ∷ fs) gs h =
    ap (λ x. in_subject v c b ∷ x) (trodden_serial fs gs h.1)
trodden_serial (in_test a b ∷ fs) gs h = ap (λ x. in_test a b ∷ x) (trodden_serial fs gs h.1)
trodden_serial (in_source o s v b ∷ fs) gs h =
    ap (λ x. in_source o s v b ∷ x) (trodden_serial fs gs h.1)
trodden_serial (_ ∷ fs) gs h = absurd h.0

pub road_serial : (fs gs : List Frame) → AllSerial fs → road (fs ++ gs) ≡ road gs
road_serial [] gs h = refl
road_serial (in_then rest ∷ fs) gs h = road_serial fs gs h.1
road_serial (in_let xs rest ∷ fs) gs h = road_serial fs gs h.1
road_serial (in_try v cs l ∷ fs) gs h = road_serial fs gs h.1
road_serial (in_write a ∷ fs) gs h = road_serial fs gs h.1
road_serial (in_operand s [] b ∷ fs) gs h = road_serial fs gs h.1
road_serial (in_operand s (v ∷ c) b ∷ fs) gs h = absurd h.0
road_serial (in_field_value o f ∷ fs) gs h = road_serial fs gs h.1
road_serial (in_subject v c b ∷ fs) gs h = road_serial fs gs h.1
road_serial (in_test a b ∷ fs) gs h = road_serial fs gs h.1
road_serial (in_source o s v b ∷ fs) gs h = road_serial fs gs h.1
road_serial (_ ∷ fs) gs h = absurd h.0

pub passed_behind : (fs gs : List Frame) (b : Term) → passed (fs ++ gs) b ≡ false
    → passed gs b ≡ false
passed_behind [] gs b e = e
passed_behind (f ∷ fs) gs b e =
    passed_behind fs gs b (or_false (passes f (plug (fs ++ gs) b)) (passed (fs ++ gs) b) e).1

-- ---- one pick

pub data Taken (p : Program) (inner : Bool) (s : Store) (pick : Pick) (fs : List Frame) (a b : Term)
    (d : Effect) : Type 0 where
  a_step : (loc : ℕ) → pick ≡ Step (path_to fs) (location loc) → Local p inner loc a b d
      → FitsAll d s → Taken p inner s pick fs a b d
  an_attempt : (m : Mode) (body : Term) (within : List Pick) (ended : Ended) (e : Effect)
      → pick ≡ Attempt (path_to fs) within → Form a m body → Bare body
      → Runs p true true s within body ended e → Closes p m body ended e b d
      → Taken p inner s pick fs a b d

pub taken_ready : {p : Program} {inner : Bool} {s : Store} {pick : Pick} {fs : List Frame}
    {a b : Term} {d : Effect} → Taken p inner s pick fs a b d → Ready a
taken_ready {p = p} {inner = inner} {a = a} {b = b} {d = d} (a_step loc e l f) =
    local_ready p inner loc a b d l
taken_ready {a = a} (an_attempt m body within ended e q form bare k close) =
    form_ready a m body form

-- A pick, at its place.
pub record At (p : Program) (inner : Bool) (s : Store) (pick : Pick) (t u : Term) (d : Effect)
    : Type 0 where
  pub frames : List Frame
  pub part : Term
  pub next : Term
  pub is_term : t ≡ plug frames part
  pub reached : passed frames part ≡ false
  pub taken : Taken p inner s pick frames part next d
  pub becomes : u ≡ plug (trodden frames) next

nothing_more : {p : Program} {inner strict : Bool} {s : Store} {rest : List Pick} {t u : Term}
    {d : Effect} → rest ≡ [] → Runs p inner strict s rest t (goes u) d → (u ≡ t) × (d ≡ idle)
nothing_more e (none a b c) = (cc, c)
nothing_more e (step fs a b c l f k w) = absurd cc
nothing_more e (stop fs a b c n h x w) = absurd cc
nothing_more e (attempt fs a b c l bare may k close k2 w) = absurd cc

tail_none : (x y : Pick) (rest : List Pick) → x ∷ [] ≡ y ∷ rest → rest ≡ []
tail_none x y rest e = cc

head_same : (x y : Pick) (rest : List Pick) → x ∷ [] ≡ y ∷ rest → x ≡ y
head_same x y rest e = cc

pub pick_at : {p : Program} {inner strict : Bool} {s : Store} {pick : Pick} {t u : Term}
    {d : Effect} → Runs p inner strict s (pick ∷ []) t (goes u) d → At p inner s pick t u d
pick_at (none a b c) = absurd cc
pick_at {p = p} {inner = inner} {s = s}
    (step {a = a} {b = b} {d1 = d1} {d2 = d2} {loc = loc} fs e c n l f k w) =
    let z = nothing_more (tail_none _ _ _ e) k in
    let q = w ∙ ap (both d1) z.1 ∙ both_idle d1 in
    record {
      frames = fs;
      part = a;
      next = b;
      is_term = c;
      reached = n;
      taken = a_step loc (head_same _ _ _ e)
          (subst (λ x. Local p inner loc a b x) (sym q) l)
          (subst (λ x. FitsAll x s) (sym q) f);
      becomes = z.0;
    }
pick_at (stop fs a b c n h x w) = absurd cc
pick_at {p = p}
    (attempt {m = m} {within = within} {a = a} {b = b} {body = body} {ended = ended} {d1 = d1}
    {d2 = d2} {d3 = d3} fs e c n form bare may k close k2 w) =
    let z = nothing_more (tail_none _ _ _ e) k2 in
    let q = w ∙ ap (both d2) z.1 ∙ both_idle d2 in
    record {
      frames = fs;
      part = a;
      next = b;
      is_term = c;
      reached = n;
      taken = an_attempt m body within ended d1 (head_same _ _ _ e) form bare k
          (subst (λ x. Closes p m body ended d1 b x) (sym q) close);
      becomes = z.0;
    }

-- a pick at a place is a run, where the rule on sleeping forms is left aside
pub run_of : {p : Program} {inner : Bool} {s : Store} {pick : Pick} (fs : List Frame) {a b : Term}
    {d : Effect} → passed fs a ≡ false → Taken p inner s pick fs a b d
    → Runs p inner false s (pick ∷ []) (plug fs a) (goes (plug (trodden fs) b)) d
run_of fs {d = d} n (a_step loc e l f) =
    step fs (ap (λ x. x ∷ []) e) refl n l f (none refl refl refl) (sym (both_idle d))
run_of fs {d = d} n (an_attempt m body within ended e q form bare k close) =
    attempt fs (ap (λ x. x ∷ []) q) refl n form bare tt k close (none refl refl refl)
    (sym (both_idle d))

-- A pick of a term with a ready part under such frames is one of the part.
pub pick_sole : {p : Program} {inner strict : Bool} {s : Store} {pick : Pick} {u : Term}
    {d : Effect} (fs : List Frame) (a : Term) → AllSerial fs → Ready a
    → Runs p inner strict s (pick ∷ []) (plug fs a) (goes u) d
    → (b : Term) × (u ≡ plug fs b) × Taken p inner s pick fs a b d
pick_sole {p = p} {inner = inner} {s = s} {pick = pick} {u = u} {d = d} fs a h ra k =
    let i = pick_at k in
    let e = sole fs i.frames a i.part h i.is_term ra (taken_ready i.taken) i.reached in
    let same : trodden i.frames ≡ fs =
    ap trodden e.0 ∙ sym (ap trodden (nil fs)) ∙ trodden_serial fs [] h ∙ nil fs in (
      i.next,
      i.becomes ∙ ap (λ gs. plug gs i.next) same,
      subst (λ x. Taken p inner s pick fs x i.next d) e.1
          (subst (λ gs. Taken p inner s pick gs i.part i.next d) e.0 i.taken),
    )
  where
    nil : (gs : List Frame) → gs ++ [] ≡ gs
    nil [] = refl
    nil (g ∷ gs) = ap (λ x. g ∷ x) (nil gs)

-- A pick of a term with an open part under such frames is one of the part alone.
pub pick_inside : {p : Program} {inner strict : Bool} {s : Store} {pick : Pick} {u : Term}
    {d : Effect} (fs : List Frame) (t : Term) → AllSerial fs → standing t ≡ open_yet
    → Runs p inner strict s (pick ∷ []) (plug fs t) (goes u) d
    → (v : Term) × (u ≡ plug fs v) × Runs p inner false s (pick ∷ []) t (goes v) d
pick_inside {p = p} {inner = inner} {s = s} {pick = pick} {u = u} {d = d} fs t h o k =
    let i = pick_at k in
    let w = inside fs i.frames t i.part h o i.is_term (taken_ready i.taken) in
    let hs = w.frames in
    let same : trodden i.frames ≡ fs ++ trodden hs = ap trodden w.are ∙ trodden_serial fs hs h in
    let free : passed hs i.part ≡ false =
    passed_behind fs hs i.part (subst (λ gs. passed gs i.part ≡ false) w.are i.reached) in
    let way : path_to i.frames ≡ path_to hs =
    ap (λ x. record { 0 = x }) (ap road w.are ∙ road_serial fs hs h) in (
      plug (trodden hs) i.next,
      i.becomes ∙ ap (λ gs. plug gs i.next) same ∙ plugged fs (trodden hs) i.next,
      subst (λ x. Runs p inner false s (pick ∷ []) x (goes (plug (trodden hs) i.next)) d)
          (sym w.is_part) (run_of hs free (moved way i.taken)),
    )
  where
    plugged : (gs hs : List Frame) (x : Term) → plug (gs ++ hs) x ≡ plug gs (plug hs x)
    plugged [] hs x = refl
    plugged (g ∷ gs) hs x = ap (on g) (plugged gs hs x)

    moved : {gs hs : List Frame} {a b : Term} → path_to gs ≡ path_to hs
        → Taken p inner s pick gs a b d → Taken p inner s pick hs a b d
    moved e (a_step loc q l f) = a_step loc (q ∙ ap (λ x. Step x (location loc)) e) l f
    moved e (an_attempt m body within ended c q form bare r close) =
        an_attempt m body within ended c (q ∙ ap (λ x. Attempt x within) e) form bare r close

-- ---- what a form does

abbrev pub IsPlain : Act → Type 0
IsPlain stuck = ⊥
IsPlain (calls set values) = ⊥
IsPlain _ = Unit {0}

no_call : (x : Act) (set : SetId) (vs : List Value) → IsPlain x → x ≡ calls set vs → ⊥
no_call x set vs h e = subst IsPlain e h

not_stuck : (x : Act) → IsPlain x → x ≡ stuck → ⊥
not_stuck x h e = subst IsPlain e h

pub ready_by : (p : Program) (a : Term) (x : Act) → act p a ≡ x → IsPlain x → Ready a
ready_by p a x e h = acts_ready p a (λ q. not_stuck x h (sym e ∙ q))

pub ready_call : (p : Program) (a : Term) (set : SetId) (vs : List Value)
    → act p a ≡ calls set vs → Ready a
ready_call p a set vs e = acts_ready p a (λ q. let z : calls set vs ≡ stuck = sym e ∙ q in cc)

pub does : (p : Program) (inner : Bool) (loc : ℕ) (a b : Term) (d : Effect) (x : Act)
    → act p a ≡ x → IsPlain x → Local p inner loc a b d → Does p inner loc x b d
does p inner loc a b d x e h (steps y (by_itself q) k) =
    subst (λ z. Does p inner loc z b d) (sym q ∙ e) k
does p inner loc a b d x e h (steps y (by_call {set = set} {values = vs} q r w) k) =
    absurd (no_call x set vs h (sym e ∙ q))

pub stuck_no_step : (p : Program) (loc : ℕ) (a b : Term) (d : Effect) → act p a ≡ stuck
    → Local p false loc a b d → ⊥
stuck_no_step p loc a b d q (steps x (by_itself w) k) =
    subst (λ z. Does p false loc z b d) (sym w ∙ q) k
stuck_no_step p loc a b d q (steps x (by_call {set = set} {values = vs} w r z) k) =
    let c : calls set vs ≡ stuck = sym w ∙ q in cc

-- an atomic form has no step, and a form that has one is none
abbrev pub is_atomic : Term-F Term Value Closure → Bool
is_atomic (Term-F.Atomic m a) = true
is_atomic (Term-F.Asleep marks a) = true
is_atomic _ = false

form_is : (a : Term) (m : Mode) (body : Term) → Form a m body → is_atomic (out-Term a) ≡ true
form_is a m body (fresh e) = ap is_atomic (ap out-Term e ∙ outs-Atomic m body)
form_is a m body (slept marks n e) = ap is_atomic (ap out-Term e ∙ outs-Asleep marks body)

pub stepped_at : {p : Program} {inner : Bool} {s : Store} {pick : Pick} {fs : List Frame}
    {a b : Term} {d : Effect} (y : Term-F Term Value Closure) → out-Term a ≡ y
    → is_atomic y ≡ false → Taken p inner s pick fs a b d
    → (loc : ℕ) × Local p inner loc a b d × FitsAll d s
stepped_at y e n (a_step loc q l f) = (loc, l, f)
stepped_at {a = a} y e n (an_attempt m body within ended c q form bare k close) =
    let z : true ≡ false = sym (form_is a m body form) ∙ ap is_atomic e ∙ n in absurd cc

-- ---- calls

-- A call that has a step runs some declaration.
pub record CalledWith (p : Program) (inner : Bool) (loc : ℕ) (b : Term) (d : Effect) (set : SetId)
    (vs : List Value) : Type 0 where
  pub declaration : DeclId
  pub declared : CoreDecl
  pub dispatches : Dispatches p set vs declaration declared
  pub does : Does p inner loc (by_body p declared.body vs) b d

pub called_with : (p : Program) (inner : Bool) (loc : ℕ) (a b : Term) (d : Effect) (set : SetId)
    (vs : List Value) → act p a ≡ calls set vs → Local p inner loc a b d
    → CalledWith p inner loc b d set vs
called_with p inner loc a b d set vs e (steps y (by_itself q) k) =
    absurd (subst (λ z. Does p inner loc z b d) (sym q ∙ e) k)
called_with p inner loc a b d set vs e
    (steps y (by_call {set = set'} {values = vs'} {d = c} {decl = decl} q r w) k) =
    let z : calls set' vs' ≡ calls set vs = sym q ∙ e in
    let e1 : set' ≡ set = cc in
    let e2 : vs' ≡ vs = cc in
    record {
      declaration = c;
      declared = decl;
      dispatches = subst (λ x. Dispatches p x vs c decl) e1
          (subst (λ x. Dispatches p set' x c decl) e2 r);
      does = subst (λ x. Does p inner loc x b d) (sym w ∙ ap (by_body p decl.body) e2) k;
    }

pub called_to : (p : Program) (inner : Bool) (loc : ℕ) (a b t : Term) (d : Effect) (set : SetId)
    (vs : List Value) → act p a ≡ calls set vs → LeadsTo p set vs t → Local p inner loc a b d
    → (b ≡ t) × (d ≡ paid 1)
called_to p inner loc a b t d set vs e l k =
    let c = called_with p inner loc a b d set vs e k in
    let w = l c.declaration c.declared c.dispatches in
    let z : Does p inner loc (enters w.0 t) b d =
    subst (λ x. Does p inner loc x b d) w.1 c.does in (z.2, z.3)

-- ---- a pick of a form under such frames, by what the form does

pub record Turned (p : Program) (inner : Bool) (fs : List Frame) (x : Act) (u : Term) (d : Effect)
    : Type 0 where
  pub loc : ℕ
  pub next : Term
  pub becomes : u ≡ plug fs next
  pub does : Does p inner loc x next d

module _ {p : Program} {inner strict : Bool} {s : Store} {pick : Pick} {u : Term} {d : Effect}
    (fs : List Frame) (a : Term) (y : Term-F Term Value Closure) (h : AllSerial fs) (e : out-Term a ≡ y)
    (n : is_atomic y ≡ false) where
  pub turn : (x : Act) → act p a ≡ x → IsPlain x
      → Runs p inner strict s (pick ∷ []) (plug fs a) (goes u) d → Turned p inner fs x u d
  turn x q w k =
      let i = pick_sole fs a h (ready_by p a x q w) k in
      let j = stepped_at y e n i.2 in
      record {
        loc = j.0;
        next = i.0;
        becomes = i.1;
        does = does p inner j.0 a i.0 d x q w j.1;
      }

  pub moves_to : (t : Term) → act p a ≡ acts.becomes t
      → Runs p inner strict s (pick ∷ []) (plug fs a) (goes u) d → (u ≡ plug fs t) × (d ≡ paid 1)
  moves_to t q k =
      let i = turn (acts.becomes t) q tt k in
      let w : Does p inner i.loc (acts.becomes t) i.next d = i.does in
      (i.becomes ∙ ap (plug fs) w.1, w.2)

  pub writes_to : (l : ℕ) (v : Value) → act p a ≡ sets l v
      → Runs p inner strict s (pick ∷ []) (plug fs a) (goes u) d
      → (u ≡ plug fs (term.Value acts.unit)) × (d ≡ writing l v)
  writes_to l v q k =
      let i = turn (sets l v) q tt k in
      let w : Does p inner i.loc (sets l v) i.next d = i.does in
      (i.becomes ∙ ap (plug fs) w.1, w.2)

  pub calls_to : (set : SetId) (vs : List Value) (t : Term) → act p a ≡ calls set vs
      → LeadsTo p set vs t
      → Runs p inner strict s (pick ∷ []) (plug fs a) (goes u) d → (u ≡ plug fs t) × (d ≡ paid 1)
  calls_to set vs t q l k =
      let i = pick_sole fs a h (ready_call p a set vs q) k in
      let j = stepped_at y e n i.2 in
      let r = called_to p inner j.0 a i.0 t d set vs q l j.1 in
      (i.1 ∙ ap (plug fs) r.0, r.1)
