-- One pick of a form of two parts beside each other.
use Rattle.std.proofs.Common.{◌≡◌, ℕ, Bool, true, false, List, [], ◌∷◌, ◌++◌, refl, ap, sym, ◌∙◌, subst, ◌⊎◌, inl, inr}
use Rattle.fort_core.specs.declared.pick.Pick.{Pick, Step, Attempt}
use Rattle.fort_core.specs.declared.program.Program.{Program}
use Rattle.fort_core.specs.declared.term.Term.{Term, ForHalves, Also, out-Term}
use Rattle.fort_core.specs.declared.term.Term as term
use Rattle.fort_core.specs.declared.term.Term.TheVariants.{outs-ForHalves, outs-Also, outs-Stepped}
use Rattle.fort_core.specs.declared.term.Term.TheOpen.{Term-F}
use Rattle.fort_core.specs.declared.value.Value.{Value}
use Rattle.fort_core.specs.declared.value.Closure.{Closure}
use Rattle.fort_machine.specs.Acts.{becomes, unit, Together, with_first, at_values, leftmost, some_still, some_open, standing_together, by_together}
use Rattle.fort_machine.specs.Attempts.{Ready, goes}
use Rattle.fort_machine.specs.Effects.{Store, Effect, paid}
use Rattle.fort_machine.specs.Ends.{Standing, open_yet, standing, throw_of, Finished, is_mark, has_stepped, stepped}
use Rattle.fort_machine.specs.Ends as ends
use Rattle.fort_machine.specs.Forms.{act_at, act}
use Rattle.fort_machine.specs.Frames.{Frame, in_block, in_first_half, in_second_half, in_stepped, in_throw, on, plug, part_number, road, passes, passed, with_mark, trodden}
use Rattle.fort_machine.specs.Runs.{Runs, path_to, location}
use Rattle.fort_machine.specs.Steps.{Does, Local}
use Rattle.fort_machine.specs.Threads.{under}
use Rattle.fort_machine.proofs.Standing.{stepped_open, stepped_finished, decide, not_finished, or_false}
use Rattle.fort_machine.proofs.Places.{on_layer, out_on, plug_open, ready_open}
use Rattle.fort_machine.proofs.Runs.{under-Step, under-Attempt}
use Rattle.fort_machine.proofs.Resting.{is_value, is_throw}
use Rattle.fort_threads_law_servers.specs.Trees.{with_step, IsOver, are_values, first_threw, second_threw}
use Rattle.fort_threads_law_servers.proofs.Turns.{Taken, a_step, an_attempt, taken_ready, pick_at, run_of, is_atomic, stepped_at, does, stuck_no_step}

-- ---- a part with its mark, or without

abbrev Unmarked : List Frame → Type 0
Unmarked (in_stepped ∷ fs) = ⊥
Unmarked _ = Unit {0}

no_mark : (hs : List Frame) (t b : Term) → t ≡ plug hs b → Ready b → has_stepped t ≡ false
    → Unmarked (trodden hs)
no_mark [] t b e rb m = tt
no_mark (in_stepped ∷ hs) t b e rb m =
    let o = plug_open hs b (ready_open b rb) in
    let z : true ≡ false =
    sym (ap is_mark (ap out-Term e ∙ out_on in_stepped (plug hs b) o)) ∙ m in cc
no_mark (h ∷ hs) t b e rb m = tt

marks_it : (k : ℕ) (fs : List Frame) → Unmarked fs → with_mark (k ∷ []) fs ≡ in_stepped ∷ fs
marks_it k [] u = refl
marks_it k (in_stepped ∷ fs) u = absurd u
marks_it k (f ∷ fs) u = refl

peel_stepped : (t : Term) (h : Frame) (y : Term) → Term-F.Stepped t ≡ on_layer h y
    → (h ≡ in_stepped) × (t ≡ y)
peel_stepped t in_throw y e = absurd cc
peel_stepped t in_stepped y e = (refl, cc)
peel_stepped t _ y e = absurd cc

-- A place in a part is one of its term, and a step there marks the part.
pub record PartAt (k : ℕ) (hs : List Frame) (t b : Term) : Type 0 where
  pub frames : List Frame
  pub is_part : t ≡ plug frames b
  pub same_road : road hs ≡ road frames
  pub marked : (x : Term)
      → plug (with_mark (k ∷ []) (trodden hs)) x ≡ stepped (plug (trodden frames) x)
  pub reached : passed hs b ≡ false → passed frames b ≡ false

pub part_at : (k : ℕ) (m : Bool) (t : Term) (hs : List Frame) (b : Term) → has_stepped t ≡ false
    → with_step m t ≡ plug hs b → Ready b → PartAt k hs t b
part_at k false t hs b n e rb =
    record {
      frames = hs;
      is_part = e;
      same_road = refl;
      marked = λ x. ap (λ fs. plug fs x) (marks_it k (trodden hs) (no_mark hs t b e rb n));
      reached = λ h. h;
    }
part_at k true t hs b n e rb = go hs (decide t) e
  where
    go : (fs : List Frame) → (standing t ≡ open_yet) ⊎ Finished t → stepped t ≡ plug fs b
        → PartAt k fs t b
    go fs (inr h) q =
        absurd (not_finished t
        (ap standing (sym (stepped_finished t h) ∙ q) ∙ plug_open fs b (ready_open b rb)) h)
    go [] (inl o) q = absurd (none (rb.no_part in_stepped t (sym q)))
      where
        none : Finished t ⊎ (passes in_stepped t ≡ true) → ⊥
        none (inl h) = not_finished t o h
        none (inr h) = cc
    go (f ∷ fs) (inl o) q =
        let w = plug_open fs b (ready_open b rb) in
        let i = peel_stepped t f (plug fs b)
        (sym (outs-Stepped t) ∙ ap out-Term (sym (stepped_open t o) ∙ q)
        ∙ out_on f (plug fs b) w) in
        found f fs i.0 i.1
      where
        found : (g : Frame) (gs : List Frame) → g ≡ in_stepped → t ≡ plug gs b
            → PartAt k (g ∷ gs) t b
        found g gs r z =
            subst (λ x. PartAt k (x ∷ gs) t b) (sym r)
            (record {
              frames = gs;
              is_part = z;
              same_road = refl;
              marked = λ x. refl;
              reached = λ h. (or_false (passes in_stepped (plug gs b)) (passed gs b) h).1;
            })

-- A pick of a part is one of the whole with the part's number before its own.
lower : {p : Program} {inner : Bool} {s : Store} {pick : Pick} {g : Frame} {hs gs : List Frame}
    {b c : Term} {d : Effect} (k : ℕ) → part_number g ≡ k ∷ [] → road hs ≡ road gs
    → Taken p inner s pick (g ∷ hs) b c d
    → (q : Pick) × (pick ≡ under (k ∷ []) q) × Taken p inner s q gs b c d
lower {g = g} {hs = hs} {gs = gs} k e r (a_step loc q l f) = (
  Step (path_to gs) (location loc),
  q ∙ ap (λ x. Step (record { 0 = x }) (location loc))
      ((λ i. (e i) ++ (r i))) ∙ sym (under-Step (k ∷ []) (road gs) (location loc)),
  a_step loc refl l f,
)
lower {g = g} {hs = hs} {gs = gs} k e r (an_attempt m body within ended c q form bare z close) = (
  Attempt (path_to gs) within,
  q ∙ ap (λ x. Attempt (record { 0 = x }) within)
      ((λ i. (e i) ++ (r i))) ∙ sym (under-Attempt (k ∷ []) (road gs) within),
  an_attempt m body within ended c refl form bare z close,
)

-- ---- two parts

-- A pick of a form of two parts: the form is over, or one part takes it.
pub data OfTwo (p : Program) (s : Store) (pick : Pick) (node : Term → Term → Term) (x y : Term)
    (m k : Bool) (u : Term) (d : Effect) : Type 0 where
  closes : IsOver (with_step m x) (with_step k y) u → d ≡ paid 1 → OfTwo p s pick node x y m k u d
  of_first : (q : Pick) (z : Term) → pick ≡ under (0 ∷ []) q
      → Runs p false false s (q ∷ []) x (goes z) d
      → u ≡ node (stepped z) (with_step k y) → OfTwo p s pick node x y m k u d
  of_second : (q : Pick) (z : Term) → pick ≡ under (1 ∷ []) q
      → Runs p false false s (q ∷ []) y (goes z) d
      → u ≡ node (with_step m x) (stepped z) → OfTwo p s pick node x y m k u d

-- Which frame leaves out which part.
pub data Left (node : Term → Term → Term) (one two : Term → Frame) (v w : Term) (g : Frame)
    (z : Term) : Type 0 where
  first : g ≡ one w → v ≡ z → Left node one two v w g z
  second : g ≡ two v → w ≡ z → Left node one two v w g z

-- how two parts stand, of which all are values, or the leftmost throw is known
abbrev both_stand : Standing → Bool → Standing → Bool → Together
both_stand a m b k = with_first a m (with_first b k (at_values []))

abbrev AtValue : Standing → Type 0
AtValue a = (x : Value) × (a ≡ ends.at_value x)

abbrev AtThrow : Standing → Type 0
AtThrow a = (x : Value) × (a ≡ ends.at_throw x)

two_values : (a : Standing) (m : Bool) (b : Standing) (k : Bool) (vs : List Value)
    → both_stand a m b k ≡ at_values vs → AtValue a × AtValue b
two_values (ends.at_value x) m (ends.at_value y) k vs e = ((x, refl), (y, refl))
two_values (ends.at_value x) m (ends.at_throw y) k vs e = absurd cc
two_values (ends.at_value x) m open_yet true vs e = absurd cc
two_values (ends.at_value x) m open_yet false vs e = absurd cc
two_values (ends.at_throw x) m (ends.at_value y) k vs e = absurd cc
two_values (ends.at_throw x) m (ends.at_throw y) k vs e = absurd cc
two_values (ends.at_throw x) m open_yet true vs e = absurd cc
two_values (ends.at_throw x) m open_yet false vs e = absurd cc
two_values open_yet true b k vs e = absurd cc
two_values open_yet false (ends.at_value y) k vs e = absurd cc
two_values open_yet false (ends.at_throw y) k vs e = absurd cc
two_values open_yet false open_yet true vs e = absurd cc
two_values open_yet false open_yet false vs e = absurd cc

one_throws : (a : Standing) (m : Bool) (b : Standing) (k : Bool) (z : Value)
    → both_stand a m b k ≡ leftmost z → AtThrow a ⊎ AtThrow b
one_throws (ends.at_throw x) m b k z e = inl (x, refl)
one_throws (ends.at_value x) m (ends.at_throw y) k z e = inr (y, refl)
one_throws (ends.at_value x) m (ends.at_value y) k z e = absurd cc
one_throws (ends.at_value x) m open_yet true z e = absurd cc
one_throws (ends.at_value x) m open_yet false z e = absurd cc
one_throws open_yet true b k z e = absurd cc
one_throws open_yet false (ends.at_throw y) k z e = inr (y, refl)
one_throws open_yet false (ends.at_value y) k z e = absurd cc
one_throws open_yet false open_yet true z e = absurd cc
one_throws open_yet false open_yet false z e = absurd cc

closing : (p : Program) (loc : ℕ) (v w a b : Term) (d : Effect) (g : Together)
    → standing_together (v ∷ w ∷ []) ≡ g
    → act p a ≡ by_together g (λ vs. becomes (term.Value unit)) → Local p false loc a b d
    → IsOver v w b × (d ≡ paid 1)
closing p loc v w a b d (at_values vs) h e l =
    let z : Does p false loc (becomes (term.Value unit)) b d =
    does p false loc a b d (becomes (term.Value unit)) e tt l in
    let q = two_values (standing v) (has_stepped v) (standing w) (has_stepped w) vs h in
    (are_values q.0.0 q.1.0 (is_value v q.0.0 q.0.1) (is_value w q.1.0 q.1.1) z.1, z.2)
closing p loc v w a b d (leftmost x) h e l =
    let z : Does p false loc (becomes (throw_of x)) b d =
    does p false loc a b d (becomes (throw_of x)) e tt l in
    (go z.1 (one_throws (standing v) (has_stepped v) (standing w) (has_stepped w) x h), z.2)
  where
    go : b ≡ throw_of x → AtThrow (standing v) ⊎ AtThrow (standing w) → IsOver v w b
    go q (inl i) = first_threw i.0 x (is_throw v i.0 i.1) q
    go q (inr i) = second_threw i.0 x (is_throw w i.0 i.1) q
closing p loc v w a b d some_still h e l = absurd (stuck_no_step p loc a b d e l)
closing p loc v w a b d some_open h e l = absurd (stuck_no_step p loc a b d e l)

-- what is over is finished
pub over_finished : (v w t : Term) → IsOver v w t → Finished t
over_finished v w t (are_values x y a b c) = ends.Finished.value unit c
over_finished v w t (first_threw x y a c) = ends.Finished.throw y c
over_finished v w t (second_threw x y a c) = ends.Finished.throw y c

module _ (node : Term → Term → Term) (one two : Term → Frame)
    (layer : Term → Term → Term-F Term Value Closure)
    (out : (v w : Term) → out-Term (node v w) ≡ layer v w)
    (no_atom : (v w : Term) → is_atomic (layer v w) ≡ false)
    (closed : (p : Program) (v w : Term)
    → act p (node v w) ≡ by_together (standing_together (v ∷ w ∷ [])) (λ vs. becomes (term.Value unit)))
    (left : (v w : Term) (g : Frame) (z : Term) → layer v w ≡ on_layer g z
    → Left node one two v w g z)
    (on_one : (w z : Term) → on (one w) z ≡ node z w)
    (on_two : (v z : Term) → on (two v) z ≡ node v z)
    (number_one : (w : Term) → part_number (one w) ≡ 0 ∷ [])
    (number_two : (v : Term) → part_number (two v) ≡ 1 ∷ []) where
  pub two_parts : {p : Program} {strict : Bool} {s : Store} {pick : Pick} {u : Term} {d : Effect}
      (x y : Term) (m k : Bool) → has_stepped x ≡ false → has_stepped y ≡ false
      → Runs p false strict s (pick ∷ []) (node (with_step m x) (with_step k y)) (goes u) d
      → OfTwo p s pick node x y m k u d
  two_parts {p = p} {s = s} {pick = pick} {u = u} {d = d} x y m k nx ny run =
      let i = pick_at run in
      go i.frames i.part i.next i.is_term i.reached i.taken i.becomes
    where
      v : Term
      v = with_step m x

      w : Term
      w = with_step k y

      below : (g : Frame) (hs : List Frame) (b c : Term) → passed (g ∷ hs) b ≡ false
          → Taken p false s pick (g ∷ hs) b c d → u ≡ plug (trodden (g ∷ hs)) c
          → Left node one two v w g (plug hs b) → OfTwo p s pick node x y m k u d
      below g hs b c n t e (first q r) =
          let a = part_at 0 m x hs b nx r (taken_ready t) in
          let z = lower 0 (ap part_number q ∙ number_one w) a.same_road t in
          of_first z.0 (plug (trodden a.frames) c) z.1
          (subst (λ h. Runs p false false s (z.0 ∷ []) h (goes (plug (trodden a.frames) c)) d)
          (sym a.is_part)
          (run_of a.frames (a.reached (or_false (passes g (plug hs b)) (passed hs b) n).1) z.2))
          (e ∙ (λ j. on (q j) (plug (with_mark ((ap part_number q ∙ number_one w) j) (trodden hs)) c))
          ∙ on_one w (plug (with_mark (0 ∷ []) (trodden hs)) c)
          ∙ ap (λ h. node h w) (a.marked c))
      below g hs b c n t e (second q r) =
          let a = part_at 1 k y hs b ny r (taken_ready t) in
          let z = lower 1 (ap part_number q ∙ number_two v) a.same_road t in
          of_second z.0 (plug (trodden a.frames) c) z.1
          (subst (λ h. Runs p false false s (z.0 ∷ []) h (goes (plug (trodden a.frames) c)) d)
          (sym a.is_part)
          (run_of a.frames (a.reached (or_false (passes g (plug hs b)) (passed hs b) n).1) z.2))
          (e ∙ (λ j. on (q j) (plug (with_mark ((ap part_number q ∙ number_two v) j) (trodden hs)) c))
          ∙ on_two v (plug (with_mark (1 ∷ []) (trodden hs)) c)
          ∙ ap (λ h. node v h) (a.marked c))

      go : (fs : List Frame) (b c : Term) → node v w ≡ plug fs b → passed fs b ≡ false
          → Taken p false s pick fs b c d → u ≡ plug (trodden fs) c
          → OfTwo p s pick node x y m k u d
      go [] b c q n t e =
          let j = stepped_at (layer v w) (ap out-Term (sym q) ∙ out v w) (no_atom v w) t in
          let r = closing p j.0 v w b c d (standing_together (v ∷ w ∷ [])) refl
          (ap (act p) (sym q) ∙ closed p v w) j.1 in
          closes (subst (IsOver v w) (sym e) r.0) r.1
      go (g ∷ hs) b c q n t e =
          below g hs b c n t e
          (left v w g (plug hs b)
          (sym (out v w) ∙ ap out-Term q
          ∙ out_on g (plug hs b) (plug_open hs b (ready_open b (taken_ready t)))))

-- ---- halves, and blocks

left_halves : (v w : Term) (g : Frame) (z : Term) → Term-F.ForHalves v w ≡ on_layer g z
    → Left ForHalves in_first_half in_second_half v w g z
left_halves v w in_throw z e = absurd cc
left_halves v w (in_first_half a) z e = first (cc) (cc)
left_halves v w (in_second_half a) z e = second (cc) (cc)
left_halves v w _ z e = absurd cc

pub of_halves : {p : Program} {strict : Bool} {s : Store} {pick : Pick} {u : Term} {d : Effect}
    (x y : Term) (m k : Bool) → has_stepped x ≡ false → has_stepped y ≡ false
    → Runs p false strict s (pick ∷ []) (ForHalves (with_step m x) (with_step k y)) (goes u) d
    → OfTwo p s pick ForHalves x y m k u d
of_halves =
    two_parts ForHalves in_first_half in_second_half Term-F.ForHalves outs-ForHalves
    (λ v w. refl) (λ p v w. ap (act_at p) (outs-ForHalves v w)) left_halves (λ w z. refl)
    (λ v z. refl) (λ w. refl) (λ v. refl)

abbrev pub both_blocks : Term → Term → Term
both_blocks v w = Also (v ∷ w ∷ [])

abbrev block_one : Term → Frame
block_one w = in_block [] (w ∷ [])

abbrev block_two : Term → Frame
block_two v = in_block (v ∷ []) []

no_blocks : (xs ys : List Term) (z : Term) → [] ≡ xs ++ z ∷ ys → ⊥
no_blocks [] ys z e = cc
no_blocks (x ∷ xs) ys z e = cc

left_blocks : (v w : Term) (g : Frame) (z : Term) → Term-F.Also (v ∷ w ∷ []) ≡ on_layer g z
    → Left both_blocks block_one block_two v w g z
left_blocks v w in_throw z e = absurd cc
left_blocks v w (in_block [] behind) z e =
    let q : v ∷ w ∷ [] ≡ z ∷ behind = cc in first (let r : w ∷ [] ≡ behind = cc in cc) (cc)
left_blocks v w (in_block (a ∷ []) behind) z e =
    let q : v ∷ w ∷ [] ≡ a ∷ z ∷ behind = cc in
    let r : w ∷ [] ≡ z ∷ behind = cc in second (cc) (cc)
left_blocks v w (in_block (a ∷ b ∷ before) behind) z e =
    let q : v ∷ w ∷ [] ≡ a ∷ b ∷ (before ++ z ∷ behind) = cc in
    let r : w ∷ [] ≡ b ∷ (before ++ z ∷ behind) = cc in
    let h : [] ≡ before ++ z ∷ behind = cc in absurd (no_blocks before behind z h)
left_blocks v w _ z e = absurd cc

pub of_blocks : {p : Program} {strict : Bool} {s : Store} {pick : Pick} {u : Term} {d : Effect}
    (x y : Term) (m k : Bool) → has_stepped x ≡ false → has_stepped y ≡ false
    → Runs p false strict s (pick ∷ []) (both_blocks (with_step m x) (with_step k y)) (goes u) d
    → OfTwo p s pick both_blocks x y m k u d
of_blocks =
    two_parts both_blocks block_one block_two (λ v w. Term-F.Also (v ∷ w ∷ []))
    (λ v w. outs-Also (v ∷ w ∷ [])) (λ v w. refl)
    (λ p v w. ap (act_at p) (outs-Also (v ∷ w ∷ []))) left_blocks (λ w z. refl) (λ v z. refl)
    (λ w. refl) (λ v. refl)
