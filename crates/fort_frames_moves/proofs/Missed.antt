-- Moves miss no thread.
use Rattle.std.proofs.Common.{◌≡◌, ℕ, zero, suc, ◌+◌, ◌<◌, ◌≤◌, Bool, true, false, ◌||◌, ◌&&◌, List, [], ◌∷◌, ◌++◌, length, take, drop, Some, rules, refl, ap, sym, ◌∙◌, subst, arith, ◌⊎◌, inl, inr}
use Rattle.std.specs.Prelude.{slice_get, slice_set, nat_lt}
use Rattle.std.specs.List.{list_any}
use Rattle.fort_core.specs.declared.term.Term.{Term, Stepped, out-Term}
use Rattle.fort_core.specs.declared.term.Term.TheVariants.{outs-Group, outs-Call, outs-Apply, outs-ForHalves, outs-ReduceHalves, outs-Also}
use Rattle.fort_machine.specs.Ends.{open_yet, standing, value_at, Finished, stepped, is_still, is_thrown}
use Rattle.fort_machine.specs.Frames.{Frame, in_stepped, on, plug, beside, passes, passed}
use Rattle.fort_machine.specs.Parts.{IsOneOf}
use Rattle.fort_machine.specs.Attempts.{Ready}
use Rattle.fort_machine.proofs.Standing.{not_finished, or_false, stepped_finished}
use Rattle.fort_machine.proofs.Places.{out_on, on_open, plug_open, ready_open}
use Rattle.fort_frames.specs.Heads.{suits, form_of, frame_at}
use Rattle.fort_frames.specs.declared.head.Head.{Head}
use Rattle.fort_frames.specs.declared.head.Head.TheVariants as head
use Rattle.fort_frames.specs.Frames.{IsInOrder, frame_of, mark_if}
use Rattle.fort_frames.specs.declared.frame.Frame as code
use Rattle.fort_frames.proofs.Heads.{on_frame_at, beside_at}
use Rattle.fort_frames_moves.specs.Turns.{IsOver, AreOver, IsPart, IsNext, raw_form}
use Rattle.fort_frames_moves.specs.declared.across.Next.{Next}
use Rattle.fort_frames_moves.specs.Sweeps.{AllMet, IsMet, AreMet, IsLeft}
use Rattle.fort_frames_moves.proofs.Waits.{Kind, lone, between, kind_of, sides_of, beside_is, serial, parallel, next_at, by_kind, next_on, at_middle, in_middle, take_middle, drop_sides, lone_order}
use Rattle.fort_frames_moves.proofs.Parts.{part_in, not_passed_part, open_form}

-- the threads of a form that goes on by one part, or of a mark, are those of its part
not_passing : (f : Frame) (t : Term) → kind_of f ≡ lone → passes f t ≡ true → ⊥
not_passing f t k h =
    let q : passes f t ≡ false =
    ap (λ xs. list_any is_thrown xs && is_still t) (beside_is f ∙ ap sides_of k) in
    let z : true ≡ false = sym h ∙ q in cc

not_waiting : (f : Frame) (t : Term) → standing t ≡ open_yet → kind_of f ≡ lone
    → Finished t ⊎ (passes f t ≡ true) → ⊥
not_waiting f t o k (inl h) = not_finished t o h
not_waiting f t o k (inr h) = not_passing f t k h

lone_part : (k : Kind) (y t : Term) → by_kind y k ≡ serial t → t ≡ y
lone_part lone y t e = cc
lone_part (between before behind) y t e = absurd cc

inner_thread : (met : List Term) (g : Frame) (t : Term) → standing t ≡ open_yet → kind_of g ≡ lone
    → AllMet met t
    → (fs : List Frame) (a : Term) → on g t ≡ plug fs a → passed fs a ≡ false → Ready a
    → IsOneOf a met
inner_thread met g t o k h [] a e p r = absurd (not_waiting g t o k (r.no_part g t (sym e)))
inner_thread met g t o k h (f ∷ gs) a e p r =
    let y : standing (plug gs a) ≡ open_yet = plug_open gs a (ready_open a r) in
    let q : by_kind (plug gs a) (kind_of f) ≡ serial t =
    sym (next_on f (plug gs a) (ap value_at y))
    ∙ ap next_at (sym (out_on f (plug gs a) y) ∙ ap out-Term (sym e) ∙ out_on g t o)
    ∙ next_on g t (ap value_at o) ∙ ap (by_kind t) k in
    h.all gs a (lone_part (kind_of f) (plug gs a) t q)
    (or_false (passes f (plug gs a)) (passed gs a) p).1 r

inner_all : (met : List Term) (g : Frame) (t : Term) → standing t ≡ open_yet → kind_of g ≡ lone
    → AllMet met t → AllMet met (on g t)
inner_all met g t o k h = record { all = inner_thread met g t o k h }

pub left_inner : (met : List Term) (f : code.Frame) (t u : Term) → IsInOrder f
    → u ≡ on (frame_of f) t → IsLeft met t → IsLeft met u
left_inner met f t u i e h =
    subst (IsLeft met) (sym e)
    (record {
      is_open = on_open (frame_of f) t h.is_open;
      all_met = inner_all met (frame_of f) t h.is_open (lone_order f i) h.all_met;
    })

marked_all : (met : List Term) (t : Term) → IsLeft met t → AllMet met (stepped t)
marked_all met t h = inner_all met in_stepped t h.is_open refl h.all_met

-- the threads of a parallel form are those of its parts that aren't passed over
not_over : (f : Frame) (before behind : List Term) (y : Term) → kind_of f ≡ between before behind
    → standing y ≡ open_yet → passes f y ≡ false
    → Finished y
    ⊎ ((list_any is_thrown
    (take (length before) (before ++ y ∷ behind)
    ++ drop (length before + 1) (before ++ y ∷ behind)) && is_still y) ≡ true) → ⊥
not_over f before behind y k o n (inl h) = not_finished y o h
not_over f before behind y k o n (inr h) =
    let same : take (length before) (before ++ y ∷ behind)
    ++ drop (length before + 1) (before ++ y ∷ behind) ≡ beside f =
    (λ i. take_middle before behind y i ++ drop_sides before behind y i)
    ∙ sym (beside_is f ∙ ap sides_of k) in
    let z : true ≡ false = sym h ∙ ap (λ xs. list_any is_thrown xs && is_still y) same ∙ n in cc

part_thread : (met : List Term) (f : Frame) (before behind : List Term) (y a : Term)
    (gs : List Frame) → y ≡ plug gs a → kind_of f ≡ between before behind → standing y ≡ open_yet
    → passes f y ≡ false → passed gs a ≡ false → Ready a
    → IsMet met (before ++ y ∷ behind) (length before) → IsOneOf a met
part_thread met f before behind y a gs z k o n p r (inl h) =
    absurd (not_over f before behind y k o n (h y (at_middle before behind y)))
part_thread met f before behind y a gs z k o n p r (inr h) =
    (h y (at_middle before behind y)).all gs a z p r

same_parts : (xs ys : List Term) → parallel xs ≡ parallel ys → xs ≡ ys
same_parts xs ys e = cc

beside_thread : (met ts : List Term) (f : Frame) (k : Kind) (y a : Term) (gs : List Frame)
    → y ≡ plug gs a → kind_of f ≡ k → by_kind y k ≡ parallel ts → standing y ≡ open_yet
    → passes f y ≡ false → passed gs a ≡ false → Ready a → AreMet met ts (length ts) → IsOneOf a met
beside_thread met ts f lone y a gs z k q o n p r h = absurd cc
beside_thread met ts f (between before behind) y a gs z k q o n p r h =
    let w : AreMet met (before ++ y ∷ behind) (length (before ++ y ∷ behind)) =
    subst (λ xs. AreMet met xs (length xs)) (sym (same_parts (before ++ y ∷ behind) ts q)) h in
    part_thread met f before behind y a gs z k o n p r
    (w.each (length before) (in_middle before behind y))

outer_thread : (met ts : List Term) (u : Term) → next_at (out-Term u) ≡ parallel ts → (Ready u → ⊥)
    → AreMet met ts (length ts)
    → (fs : List Frame) (a : Term) → u ≡ plug fs a → passed fs a ≡ false → Ready a → IsOneOf a met
outer_thread met ts u q n h [] a e p r = absurd (n (subst Ready (sym e) r))
outer_thread met ts u q n h (f ∷ gs) a e p r =
    let y : standing (plug gs a) ≡ open_yet = plug_open gs a (ready_open a r) in
    let w : by_kind (plug gs a) (kind_of f) ≡ parallel ts =
    sym (next_on f (plug gs a) (ap value_at y))
    ∙ ap next_at (sym (out_on f (plug gs a) y) ∙ ap out-Term (sym e)) ∙ q in
    let o = or_false (passes f (plug gs a)) (passed gs a) p in
    beside_thread met ts f (kind_of f) (plug gs a) a gs refl refl w y o.0 o.1 r h

node_next : (h : Head) (ts : List Term) → suits h ts ≡ true
    → next_at (out-Term (raw_form h ts)) ≡ parallel ts
node_next head.Group ts e = ap next_at (outs-Group ts)
node_next (head.Call set) ts e = ap next_at (outs-Call set ts)
node_next head.Also ts e = ap next_at (outs-Also ts)
node_next head.Apply [] e = absurd cc
node_next head.Apply (a ∷ []) e = absurd cc
node_next head.Apply (a ∷ b ∷ []) e = ap next_at (outs-Apply a b)
node_next head.Apply (a ∷ b ∷ c ∷ ts) e = absurd cc
node_next head.ForHalves [] e = absurd cc
node_next head.ForHalves (a ∷ []) e = absurd cc
node_next head.ForHalves (a ∷ b ∷ []) e = ap next_at (outs-ForHalves a b)
node_next head.ForHalves (a ∷ b ∷ c ∷ ts) e = absurd cc
node_next (head.ReduceHalves set) [] e = absurd cc
node_next (head.ReduceHalves set) (a ∷ []) e = absurd cc
node_next (head.ReduceHalves set) (a ∷ b ∷ []) e = ap next_at (outs-ReduceHalves set a b)
node_next (head.ReduceHalves set) (a ∷ b ∷ c ∷ ts) e = absurd cc

-- a form with a part that may go on is no thread
record Holds (h : Head) (ts : List Term) : Type 0 where
  frame : Frame
  part : Term
  is_form : on frame part ≡ form_of h ts
  is_open : standing part ≡ open_yet
  not_passed : passes frame part ≡ false

holds_next : (h : Head) (ts : List Term) (n : Next) → suits h ts ≡ true → IsNext ts n → Holds h ts
holds_next h ts n s k =
    let before = take n.«at» ts in
    let behind = drop (n.«at» + 1) ts in
    let whole : before ++ plug (mark_if n.stepped) n.part ∷ behind ≡ ts =
    part_in before behind n.part n.stepped ts k.is_part in
    let suiting : suits h (before ++ plug (mark_if n.stepped) n.part ∷ behind) ≡ true =
    ap (suits h) whole ∙ s in
    let clear : passed (frame_at h before behind ∷ mark_if n.stepped) n.part ≡ false =
    not_passed_part (frame_at h before behind) before behind n.part n.stepped ts
    (beside_at h before behind (plug (mark_if n.stepped) n.part) suiting) k.is_part in
    record {
      frame = frame_at h before behind;
      part = plug (mark_if n.stepped) n.part;
      is_form =
          on_frame_at h before behind (plug (mark_if n.stepped) n.part) suiting
          ∙ ap (form_of h) whole;
      is_open = plug_open (mark_if n.stepped) n.part k.is_open;
      not_passed =
          (or_false (passes (frame_at h before behind) (plug (mark_if n.stepped) n.part))
          (passed (mark_if n.stepped) n.part) clear).0;
    }

held_back : (f : Frame) (t : Term) → standing t ≡ open_yet → passes f t ≡ false
    → Finished t ⊎ (passes f t ≡ true) → ⊥
held_back f t o n (inl h) = not_finished t o h
held_back f t o n (inr h) = let z : true ≡ false = sym h ∙ n in cc

no_thread : (h : Head) (ts : List Term) (u : Term) → Holds h ts → u ≡ form_of h ts → Ready u → ⊥
no_thread h ts u k e r =
    held_back k.frame k.part k.is_open k.not_passed (r.no_part k.frame k.part (e ∙ sym k.is_form))

pub left_node : (met : List Term) (h : Head) (ts : List Term) (n : Next) (u : Term)
    → suits h ts ≡ true → IsNext ts n → u ≡ raw_form h ts → AreMet met ts (length ts) → IsLeft met u
left_node met h ts n u s k e m =
    let q : u ≡ form_of h ts = e ∙ open_form h ts n k in
    let holds = holds_next h ts n s k in
    record {
      is_open = ap standing (q ∙ sym holds.is_form) ∙ on_open holds.frame holds.part holds.is_open;
      all_met =
          record {
            all =
                outer_thread met ts u (ap (λ x. next_at (out-Term x)) e
                ∙ node_next h ts s) (no_thread h ts u holds q) m;
          };
    }

-- parts to the left
pub none_met : (met ts : List Term) → AreMet met ts 0
none_met met ts = record { each = λ i low. let f : ⊥ = omega (arith, low) in absurd f }

pub met_on : (met ts : List Term) (from to : ℕ) → AreMet met ts from → AreOver ts from to
    → AreMet met ts to
met_on met ts from to h k = record { each = λ i low. go i low (nat_lt i from) refl }
  where
    go : (i : ℕ) → i < to → (b : Bool) → nat_lt i from ≡ b → IsMet met ts i
    go i low true e = h.each i (search (rules, e))
    go i low false e = inl (k i (search (rules, e)) low)

-- another part in the place of one that is no throw leaves those to its left over
or_true : (a : Bool) → (a || true) ≡ true
or_true true = refl
or_true false = refl

any_set : (p : Term → Bool) (ts : List Term) (k : ℕ) (x : Term)
    → ((t : Term) → slice_get ts k ≡ Some t → p t ≡ false) → list_any p ts ≡ true
    → list_any p (slice_set ts k x) ≡ true
any_set p [] k x n h = absurd cc
any_set p (y ∷ ys) zero x n h =
    let q : p y ≡ false = n y refl in
    let w : list_any p ys ≡ true = ap (λ b. b || list_any p ys) (sym q) ∙ h in
    ap (λ b. p x || b) w ∙ or_true (p x)
any_set p (y ∷ ys) (suc k) x n h = go (p y) refl (λ w. any_set p ys k x n w)
  where
    go : (b : Bool) → p y ≡ b → (list_any p ys ≡ true → list_any p (slice_set ys k x) ≡ true)
        → (p y || list_any p (slice_set ys k x)) ≡ true
    go true q rest = ap (λ b. b || list_any p (slice_set ys k x)) q
    go false q rest =
        ap (λ b. b || list_any p (slice_set ys k x)) q
        ∙ rest (ap (λ b. b || list_any p ys) (sym q) ∙ h)

others_suc : (p : Term → Bool) (ts : List Term) (i k : ℕ) (x : Term)
    → ((t : Term) → slice_get ts k ≡ Some t → p t ≡ false) → i < k
    → list_any p (take i ts ++ drop (suc i) ts) ≡ true
    → list_any p (take i (slice_set ts k x) ++ drop (suc i) (slice_set ts k x)) ≡ true
others_suc p [] zero k x n low h = absurd cc
others_suc p [] (suc i) k x n low h = absurd cc
others_suc p (y ∷ ys) i zero x n low h = let f : ⊥ = omega (arith, low) in absurd f
others_suc p (y ∷ ys) zero (suc k) x n low h = any_set p ys k x n h
others_suc p (y ∷ ys) (suc i) (suc k) x n low h =
    go (p y) refl (λ w. others_suc p ys i k x n (omega (arith, low)) w)
  where
    go : (b : Bool) → p y ≡ b
        → (list_any p (take i ys ++ drop (suc i) ys) ≡ true
        → list_any p (take i (slice_set ys k x) ++ drop (suc i) (slice_set ys k x)) ≡ true)
        → (p y || list_any p (take i (slice_set ys k x) ++ drop (suc i) (slice_set ys k x))) ≡ true
    go true q rest =
        ap (λ b. b || list_any p (take i (slice_set ys k x) ++ drop (suc i) (slice_set ys k x))) q
    go false q rest =
        ap (λ b. b || list_any p (take i (slice_set ys k x) ++ drop (suc i) (slice_set ys k x))) q
        ∙ rest (ap (λ b. b || list_any p (take i ys ++ drop (suc i) ys)) (sym q) ∙ h)

one_up : (i : ℕ) → suc i ≡ i + 1
one_up i = omega arith

others : (p : Term → Bool) (ts : List Term) (i k : ℕ) (x : Term)
    → ((t : Term) → slice_get ts k ≡ Some t → p t ≡ false) → i < k
    → list_any p (take i ts ++ drop (i + 1) ts) ≡ true
    → list_any p (take i (slice_set ts k x) ++ drop (i + 1) (slice_set ts k x)) ≡ true
others p ts i k x n low h =
    subst (λ m. list_any p (take i (slice_set ts k x) ++ drop m (slice_set ts k x))
    ≡ true) (one_up i)
    (others_suc p ts i k x n low
    (subst (λ m. list_any p (take i ts ++ drop m ts) ≡ true) (sym (one_up i)) h))

get_other : (ts : List Term) (i k : ℕ) (x : Term) → i < k
    → slice_get (slice_set ts k x) i ≡ slice_get ts i
get_other [] i k x low = refl
get_other (y ∷ ys) i zero x low = let f : ⊥ = omega (arith, low) in absurd f
get_other (y ∷ ys) zero (suc k) x low = refl
get_other (y ∷ ys) (suc i) (suc k) x low = get_other ys i k x (omega (arith, low))

pub get_same : (ts : List Term) (k : ℕ) (x t : Term) → slice_get (slice_set ts k x) k ≡ Some t
    → t ≡ x
get_same [] zero x t e = absurd cc
get_same [] (suc k) x t e = absurd cc
get_same (y ∷ ys) zero x t e = cc
get_same (y ∷ ys) (suc k) x t e = get_same ys k x t e

and_both : (a b : Bool) → (a && b) ≡ true → (a ≡ true) × (b ≡ true)
and_both true b e = (refl, e)
and_both false b e = absurd cc

over_set : (ts : List Term) (i k : ℕ) (x : Term)
    → ((t : Term) → slice_get ts k ≡ Some t → is_thrown t ≡ false) → i < k → IsOver ts i
    → IsOver (slice_set ts k x) i
over_set ts i k x n low h u q = go (h u (sym (get_other ts i k x low) ∙ q))
  where
    go : Finished u ⊎ ((list_any is_thrown (take i ts ++ drop (i + 1) ts) && is_still u) ≡ true)
        → Finished u
        ⊎ ((list_any is_thrown (take i (slice_set ts k x) ++ drop (i + 1) (slice_set ts k x))
        && is_still u) ≡ true)
    go (inl f) = inl f
    go (inr b) =
        let w = and_both (list_any is_thrown (take i ts ++ drop (i + 1) ts)) (is_still u) b
        in inr (λ j. others is_thrown ts i k x n low w.0 j && w.1 j)

left_set : (met ts : List Term) (i k : ℕ) (x : Term)
    → ((t : Term) → slice_get ts k ≡ Some t → is_thrown t ≡ false) → i < k → IsMet met ts i
    → IsMet met (slice_set ts k x) i
left_set met ts i k x n low (inl h) = inl (over_set ts i k x n low h)
left_set met ts i k x n low (inr h) = inr (λ t q. h t (sym (get_other ts i k x low) ∙ q))

-- a part back in its place
back_finished : (part x : Term) (b : Bool) → x ≡ plug (mark_if b) part → Finished part → Finished x
back_finished part x true e h = subst Finished (sym (e ∙ stepped_finished part h)) h
back_finished part x false e h = subst Finished (sym e) h

back_left : (met : List Term) (part x : Term) (b : Bool) → x ≡ plug (mark_if b) part
    → IsLeft met part → AllMet met x
back_left met part x true e h = subst (AllMet met) (sym e) (marked_all met part h)
back_left met part x false e h = subst (AllMet met) (sym e) h.all_met

back_part : (met ts : List Term) (k : ℕ) (part x : Term) (b : Bool) → x ≡ plug (mark_if b) part
    → Finished part ⊎ IsLeft met part → IsMet met (slice_set ts k x) k
back_part met ts k part x b e (inl h) =
    inl (λ u q. inl (subst Finished (sym (get_same ts k x u q)) (back_finished part x b e h)))
back_part met ts k part x b e (inr h) =
    inr (λ u q. subst (AllMet met) (sym (get_same ts k x u q)) (back_left met part x b e h))

pub back_met : (met ts : List Term) (k : ℕ) (part x : Term) (b : Bool) → x ≡ plug (mark_if b) part
    → Finished part ⊎ IsLeft met part
    → AreMet met ts k → ((t : Term) → slice_get ts k ≡ Some t → is_thrown t ≡ false)
    → AreMet met (slice_set ts k x) (k + 1)
back_met met ts k part x b e h m n = record { each = λ i low. go i low (nat_lt i k) refl }
  where
    go : (i : ℕ) → i < k + 1 → (c : Bool) → nat_lt i k ≡ c → IsMet met (slice_set ts k x) i
    go i low true q =
        let less : i < k = search (rules, q) in left_set met ts i k x n less (m.each i less)
    go i low false q =
        let not_less : k ≤ i = search (rules, q) in
        let same : k ≡ i = omega (arith, not_less, low) in
        subst (IsMet met (slice_set ts k x)) same (back_part met ts k part x b e h)
