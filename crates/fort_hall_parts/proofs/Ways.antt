-- Ways to parts: how one begins, and how one is made longer.
use Rattle.std.proofs.Common.{◌≡◌, ◌≢◌, ℕ, suc, ◌+◌, ◌<◌, ◌≤◌, Bool, true, false, ◌&&◌, ◌||◌, List, [], ◌∷◌, ◌++◌, length, refl, ap, sym, ◌∙◌, subst, arith}
use Rattle.std.specs.List.{list_any}
use Rattle.fort_core.specs.declared.term.Term.{Term, Apply, ForHalves, ReduceHalves, out-Term}
use Rattle.fort_core.specs.declared.term.Term.TheVariants.{outs-Group, outs-Call, outs-Apply, outs-ForHalves, outs-ReduceHalves, outs-Also}
use Rattle.fort_machine.specs.Ends.{open_yet, standing, stepped, has_stepped, is_mark, is_still, is_thrown}
use Rattle.fort_machine.specs.Frames.{Frame, in_stepped, on, plug, part_number, road, passes, passed}
use Rattle.fort_machine.proofs.Places.{on_layer, out_on, plug_open}
use Rattle.fort_machine.proofs.Runs.{plug_append, road_append}
use Rattle.fort_machine.proofs.Standing.{or_false, stepped_open}
use Rattle.fort_frames.specs.Frames.{frame_of, mark_if}
use Rattle.fort_frames.specs.Heads.{are_two, of_two, suits}
use Rattle.fort_frames.specs.declared.head.Head.{Head}
use Rattle.fort_frames.specs.declared.head.Head.TheVariants as head
use Rattle.fort_frames.proofs.Same.{passed_append}
use Rattle.fort_frames_moves.specs.Turns.{IsNext, raw_form}
use Rattle.fort_frames_moves.specs.declared.across.Next.{Next}
use Rattle.fort_frames_moves.proofs.Parts.{open_form}
use Rattle.fort_frames_moves.proofs.Waits.{between, kind_of, sides_of, beside_is, serial, parallel, next_at, by_kind, take_middle, drop_sides, in_middle}
use Rattle.fort_hall_parts.specs.Parts.{IsWay, here, through, into, IsPartAt, IsNode, IsPlain, IsGoing, GoesNowhere, IsNoNode, HasNoPlain, LeadsNowhere}
use Rattle.fort_hall_parts.specs.declared.node.InOrder.{InOrder}
use Rattle.fort_hall_parts.specs.declared.node.ParallelForm.{ParallelForm}
use Rattle.fort_hall_parts.proofs.Forms.{order_number, order_beside, order_no_mark, sides, coming_on, coming_lone, same_next}
use Rattle.fort_hall_parts.proofs.Plain.{plain_same}
use Rattle.fort_hall_parts.proofs.Rounds.{node_frame, round, round_part, round_passed, round_road, number_here}

-- no way is empty but that to the form itself
nothing_before : (n : ℕ) (ns : List ℕ) → n ∷ ns ≡ [] → ⊥
nothing_before n ns e = absurd cc

pub no_road : {fs : List Frame} → IsWay fs → road fs ≡ [] → fs ≡ []
no_road (here e) p = e
no_road (through f gs e n m g w) p =
    absurd (g (no_road w (sym (ap (λ ns. ns ++ road gs) n) ∙ sym (ap road e) ∙ p)))
no_road (into f n s gs e q w) p =
    absurd (nothing_before n (road (mark_if s ++ gs))
    (sym (ap (λ ns. ns ++ road (mark_if s ++ gs)) q) ∙ sym (ap road e) ∙ p))

-- what a way leads to from a form that is no mark
mark_only : (f : Frame) (a : Term) → f ≢ in_stepped → is_mark (on_layer f a) ≡ false
mark_only in_stepped a m = absurd (m refl)
mark_only _ a m = refl

on_unmarked : (f : Frame) (a : Term) → f ≢ in_stepped → standing a ≡ open_yet
    → has_stepped (on f a) ≡ false
on_unmarked f a m o = ap is_mark (out_on f a o) ∙ mark_only f a m

numbered_no_mark : (f : Frame) (n : ℕ) → part_number f ≡ n ∷ [] → f ≢ in_stepped
numbered_no_mark f n e q =
    nothing_before n [] (sym e ∙ ap part_number q)

pub way_unmarked : {fs : List Frame} (a : Term) → IsWay fs → standing a ≡ open_yet
    → has_stepped a ≡ false → has_stepped (plug fs a) ≡ false
way_unmarked a (here e) o u = ap (λ gs. has_stepped (plug gs a)) e ∙ u
way_unmarked a (through f gs e n m g w) o u =
    ap (λ hs. has_stepped (plug hs a)) e ∙ on_unmarked f (plug gs a) m (plug_open gs a o)
way_unmarked a (into f n s gs e q w) o u =
    ap (λ hs. has_stepped (plug hs a)) e
    ∙ on_unmarked f (plug (mark_if s ++ gs) a) (numbered_no_mark f n q)
    (plug_open (mark_if s ++ gs) a o)

-- how a way with a number begins
data Begins (t : Term) (i : ℕ) (path : List ℕ) (part : Term) (long : ℕ) : Type 0 where
  begins_through : (f : Frame) (a : Term) → part_number f ≡ [] → f ≢ in_stepped
      → standing a ≡ open_yet → has_stepped a ≡ false → t ≡ on f a
      → (k : IsPartAt a (i ∷ path) part) → length k.frames < long → Begins t i path part long
  begins_into : (f : Frame) (s : Bool) (a : Term) → part_number f ≡ i ∷ []
      → standing a ≡ open_yet → has_stepped a ≡ false → t ≡ on f (plug (mark_if s) a)
      → passed (f ∷ mark_if s) a ≡ false → (k : IsPartAt a path part) → length k.frames < long
      → Begins t i path part long

passed_split : (fs gs : List Frame) (t : Term) → passed (fs ++ gs) t ≡ false
    → (passed fs (plug gs t) ≡ false) × (passed gs t ≡ false)
passed_split [] gs t e = (refl, e)
passed_split (f ∷ fs) gs t e =
    let h = or_false (passes f (plug (fs ++ gs) t)) (passed (fs ++ gs) t) e in
    let r = passed_split fs gs t h.1 in
    ((λ i. (ap (passes f) (sym (plug_append fs gs t)) ∙ h.0) i || r.0 i), r.1)

road_mark : (s : Bool) (gs : List Frame) → road (mark_if s ++ gs) ≡ road gs
road_mark true gs = refl
road_mark false gs = refl

long_mark : (s : Bool) (gs : List Frame) → length gs ≤ length (mark_if s ++ gs)
long_mark true gs = omega arith
long_mark false gs = omega arith

same_number : (n i : ℕ) (ns ms : List ℕ) → n ∷ ns ≡ i ∷ ms → (n ≡ i) × (ns ≡ ms)
same_number n i ns ms e = (cc, cc)

begins_by : (t : Term) (i : ℕ) (path : List ℕ) (part : Term) (k : IsPartAt t (i ∷ path) part)
    (fs : List Frame) → k.frames ≡ fs → IsWay fs → Begins t i path part (length k.frames)
begins_by t i path part k fs z (here e) =
    absurd (nothing_before i path (sym k.is_path ∙ ap road (z ∙ e)))
begins_by t i path part k fs z (through f gs e n m g w) =
    let a = plug gs part in
    let o = plug_open gs part k.is_open in
    let is_path : road gs ≡ i ∷ path =
    sym (ap (λ ns. ns ++ road gs) n) ∙ sym (ap road (z ∙ e)) ∙ k.is_path in
    let reached = passed_split (f ∷ []) gs part (ap (λ hs. passed hs part) (sym (z ∙ e)) ∙ k.reached) in
    let long : length k.frames ≡ suc (length gs) = ap length (z ∙ e) in
    let inner : IsPartAt a (i ∷ path) part = record {
      frames = gs;
      way = w;
      is_term = refl;
      is_path = is_path;
      reached = reached.1;
      is_open = k.is_open;
      unmarked = k.unmarked;
    } in
    begins_through f a n m o (way_unmarked part w k.is_open k.unmarked)
    (k.is_term ∙ ap (λ hs. plug hs part) (z ∙ e)) inner (omega (arith, long))
begins_by t i path part k fs z (into f n s gs e q w) =
    let a = plug gs part in
    let o = plug_open gs part k.is_open in
    let whole : n ∷ road (mark_if s ++ gs) ≡ i ∷ path =
    sym (ap (λ ns. ns ++ road (mark_if s ++ gs)) q) ∙ sym (ap road (z ∙ e)) ∙ k.is_path in
    let same = same_number n i (road (mark_if s ++ gs)) path whole in
    let reached = passed_split (f ∷ mark_if s) gs part
    (ap (λ hs. passed hs part) (sym (z ∙ e)) ∙ k.reached) in
    let long : length k.frames ≡ suc (length (mark_if s ++ gs)) = ap length (z ∙ e) in
    let more = long_mark s gs in
    let inner : IsPartAt a path part = record {
      frames = gs;
      way = w;
      is_term = refl;
      is_path = sym (road_mark s gs) ∙ same.1;
      reached = reached.1;
      is_open = k.is_open;
      unmarked = k.unmarked;
    } in
    begins_into f s a (q ∙ ap (λ j. j ∷ []) same.0) o (way_unmarked part w k.is_open k.unmarked)
    (k.is_term ∙ ap (λ hs. plug hs part) (z ∙ e) ∙ ap (on f) (plug_append (mark_if s) gs part)) reached.0
    inner (omega (arith, long, more))

begins : (t : Term) (i : ℕ) (path : List ℕ) (part : Term) (k : IsPartAt t (i ∷ path) part)
    → Begins t i path part (length k.frames)
begins t i path part k = begins_by t i path part k k.frames refl k.way

-- the parts of a parallel form
two_coming : (c : Term → Term → Term) → ((a b : Term) → next_at (out-Term (c a b)) ≡ parallel (a ∷ b ∷ []))
    → (ts : List Term) → are_two ts ≡ true
    → next_at (out-Term (of_two c ts)) ≡ parallel ts
two_coming c h [] s = absurd cc
two_coming c h (a ∷ []) s = absurd cc
two_coming c h (a ∷ b ∷ []) s = h a b
two_coming c h (a ∷ b ∷ d ∷ ts) s = absurd cc

node_coming : (h : Head) (ts : List Term) → suits h ts ≡ true
    → next_at (out-Term (raw_form h ts)) ≡ parallel ts
node_coming head.Group ts s = ap next_at (outs-Group ts)
node_coming (head.Call set) ts s = ap next_at (outs-Call set ts)
node_coming head.Also ts s = ap next_at (outs-Also ts)
node_coming head.Apply ts s = two_coming Apply (λ a b. ap next_at (outs-Apply a b)) ts s
node_coming head.ForHalves ts s = two_coming ForHalves (λ a b. ap next_at (outs-ForHalves a b)) ts s
node_coming (head.ReduceHalves set) ts s =
    two_coming (ReduceHalves set) (λ a b. ap next_at (outs-ReduceHalves set a b)) ts s

coming_node : (t : Term) (node : ParallelForm) → IsNode t node
    → next_at (out-Term t) ≡ parallel node.parts
coming_node t node k =
    ap (λ x. next_at (out-Term x)) (sym k.is_form) ∙ node_coming node.head node.parts k.suits

-- a part between others
middle_next : (f : Frame) (before behind : List Term) (s : Bool) (a : Term)
    → kind_of f ≡ between before behind → standing a ≡ open_yet → passed (f ∷ mark_if s) a ≡ false
    → IsNext (before ++ plug (mark_if s) a ∷ behind)
    (record { «at» = length before; part = a; stepped = s })
middle_next f before behind true a e o p = record {
  within = in_middle before behind (stepped a);
  is_open = o;
  is_part = (
    (λ i. take_middle before behind (stepped a) i
        ++ sym (stepped_open a o) i ∷ drop_sides before behind (stepped a) i),
    o,
  );
}
middle_next f before behind false a e o p = record {
  within = in_middle before behind a;
  is_open = o;
  is_part = (
    (λ i. take_middle before behind a i ++ a ∷ drop_sides before behind a i),
    (λ i. list_any is_thrown
        (take_middle before behind a i ++ drop_sides before behind a i) && is_still a)
        ∙ (λ i. list_any is_thrown (sym (beside_is f ∙ ap sides_of e) i) && is_still a)
        ∙ (or_false (passes f a) false p).0,
  );
}

same_parts : (xs ys : List Term) → parallel xs ≡ parallel ys → xs ≡ ys
same_parts xs ys e = cc

-- the part that a numbered frame leaves out may go on
pub plain_of : (t : Term) (node : ParallelForm) → IsNode t node → (f : Frame) (i : ℕ) (s : Bool)
    (a : Term) → part_number f ≡ i ∷ [] → standing a ≡ open_yet → has_stepped a ≡ false
    → t ≡ on f (plug (mark_if s) a) → passed (f ∷ mark_if s) a ≡ false
    → IsPlain node.parts (record { «at» = i; part = a; stepped = s })
plain_of t node k f i s a n o u e p =
    let h = sides f i n in
    let there = plug (mark_if s) a in
    let same : h.0 ++ there ∷ h.1 ≡ node.parts =
    same_parts (h.0 ++ there ∷ h.1) node.parts
    (sym (coming_on t f there (plug_open (mark_if s) a o) e ∙ ap (by_kind there) h.2)
    ∙ coming_node t node k) in
    let next : IsNext (h.0 ++ there ∷ h.1) (record { «at» = length h.0; part = a; stepped = s }) =
    middle_next f h.0 h.1 s a h.2 o p in
    record {
      next = subst (λ j. IsNext node.parts (record { «at» = j; part = a; stepped = s })) h.3
          (subst (λ ts. IsNext ts (record { «at» = length h.0; part = a; stepped = s })) same next);
      unmarked = u;
    }

serial_no_node : (a : Term) (ts : List Term) → serial a ≡ parallel ts → ⊥
serial_no_node a ts e = absurd cc

-- one form isn't both
node_no_order : (t : Term) (node : ParallelForm) → IsNode t node → (f : Frame) (a : Term)
    → part_number f ≡ [] → standing a ≡ open_yet → t ≡ on f a → ⊥
node_no_order t node k f a n o e =
    serial_no_node a node.parts (sym (coming_lone t f a n o e) ∙ coming_node t node k)

order_no_node : (t : Term) (f g : Frame) (a b : Term) (i : ℕ) → part_number f ≡ []
    → part_number g ≡ i ∷ [] → standing a ≡ open_yet → standing b ≡ open_yet → t ≡ on f a
    → t ≡ on g b → ⊥
order_no_node t f g a b i n m o q e h =
    let s = sides g i m in
    serial_no_node a (s.0 ++ b ∷ s.1)
    (sym (coming_lone t f a n o e) ∙ coming_on t g b q h ∙ ap (by_kind b) s.2)

-- the part of a way's first number
pub plain_first : (t : Term) (node : ParallelForm) (i : ℕ) (path : List ℕ) (part : Term)
    → IsNode t node → IsPartAt t (i ∷ path) part
    → (n : Next) × IsPlain node.parts n × (n.«at» ≡ i)
plain_first t node i path part d k = go (begins t i path part k)
  where
    go : Begins t i path part (length k.frames) → (n : Next) × IsPlain node.parts n × (n.«at» ≡ i)
    go (begins_through f a n m o u e l lt) = absurd (node_no_order t node d f a n o e)
    go (begins_into f s a n o u e r l lt) =
        (record { «at» = i; part = a; stepped = s }, plain_of t node d f i s a n o u e r, refl)

-- no way begins
no_begin : (t : Term) (i : ℕ) (path : List ℕ) (part : Term) (long : ℕ) → GoesNowhere t
    → IsNoNode t → Begins t i path part long → ⊥
no_begin t i path part long g p (begins_through f a n m o u e k lt) = g.none f a n m o u e
no_begin t i path part long g p (begins_into f s a n o u e r k lt) =
    p.none f i (plug (mark_if s) a) n (plug_open (mark_if s) a o) e

pub no_node_nowhere : (t : Term) (i : ℕ) → GoesNowhere t → IsNoNode t → LeadsNowhere t i
no_node_nowhere t i g p = record {
  none = λ path part k. no_begin t i path part (length k.frames) g p (begins t i path part k);
}

pub no_plain_nowhere : (t : Term) (node : ParallelForm) (i : ℕ) → IsNode t node
    → HasNoPlain node.parts i → LeadsNowhere t i
no_plain_nowhere t node i d h = record {
  none = λ path part k.
      let p = plain_first t node i path part d k in h.none p.0 p.1 p.2;
}

-- what is left of a way behind its first form
pub below_through : (t : Term) (form : InOrder) (i : ℕ) (path : List ℕ) (part : Term)
    → IsGoing t form → (k : IsPartAt t (i ∷ path) part)
    → (l : IsPartAt form.part (i ∷ path) part) × (length l.frames < length k.frames)
below_through t form i path part g k = go (begins t i path part k)
  where
    go : Begins t i path part (length k.frames)
        → (l : IsPartAt form.part (i ∷ path) part) × (length l.frames < length k.frames)
    go (begins_through f a n m o u e l lt) =
        subst (λ x. (j : IsPartAt x (i ∷ path) part) × (length j.frames < length k.frames))
        (same_next t f (frame_of form.frame) a form.part n (order_number form.frame g.in_order) o
        g.is_open e (sym g.is_form)) (l, lt)
    go (begins_into f s a n o u e r l lt) =
        absurd (order_no_node t (frame_of form.frame) f form.part (plug (mark_if s) a) i
        (order_number form.frame g.in_order) n g.is_open (plug_open (mark_if s) a o)
        (sym g.is_form) e)

pub below_into : (t : Term) (node : ParallelForm) (next : Next) (i : ℕ) (path : List ℕ)
    (part : Term) → IsNode t node → IsPlain node.parts next → next.«at» ≡ i
    → (k : IsPartAt t (i ∷ path) part)
    → (l : IsPartAt next.part path part) × (length l.frames < length k.frames)
below_into t node next i path part d p q k = go (begins t i path part k)
  where
    go : Begins t i path part (length k.frames)
        → (l : IsPartAt next.part path part) × (length l.frames < length k.frames)
    go (begins_through f a n m o u e l lt) = absurd (node_no_order t node d f a n o e)
    go (begins_into f s a n o u e r l lt) =
        subst (λ x. (j : IsPartAt x path part) × (length j.frames < length k.frames))
        (plain_same node.parts (record { «at» = i; part = a; stepped = s }) next
        (plain_of t node d f i s a n o u e r) p (sym q)) (l, lt)

-- a way made longer by one form
empty_road : (fs : List Frame) → fs ≡ [] → road fs ≡ []
empty_road fs e = ap road e

pub part_through : (t : Term) (form : InOrder) (i : ℕ) (path : List ℕ) (part : Term)
    → IsGoing t form → IsPartAt form.part (i ∷ path) part → IsPartAt t (i ∷ path) part
part_through t form i path part g k =
    let f = frame_of form.frame in
    let n = order_number form.frame g.in_order in
    record {
      frames = f ∷ k.frames;
      way = through f k.frames refl n (order_no_mark form.frame g.in_order)
          (λ e. nothing_before i path (sym k.is_path ∙ empty_road k.frames e)) k.way;
      is_term = sym g.is_form ∙ ap (on f) k.is_term;
      is_path = ap (λ ns. ns ++ road k.frames) n ∙ k.is_path;
      reached =
          λ j. (list_any is_thrown (order_beside form.frame g.in_order j)
          && is_still (plug k.frames part)) || k.reached j;
      is_open = k.is_open;
      unmarked = k.unmarked;
    }

pub part_into : (t : Term) (node : ParallelForm) (next : Next) (i : ℕ) (path : List ℕ)
    (part : Term) → IsNode t node → IsPlain node.parts next → next.«at» ≡ i
    → IsPartAt next.part path part → IsPartAt t (i ∷ path) part
part_into t node next i path part d p q k =
    let h = node.head in
    let ts = node.parts in
    let fs = round h ts next in
    record {
      frames = fs ++ k.frames;
      way = into (node_frame h ts next) next.«at» next.stepped k.frames refl
          (number_here h ts next d.suits p.next) k.way;
      is_term =
          sym d.is_form ∙ open_form h ts next p.next ∙ sym (round_part h ts next d.suits p.next)
          ∙ ap (plug fs) k.is_term ∙ sym (plug_append fs k.frames part);
      is_path =
          road_append fs k.frames
          ∙ (λ j. round_road h ts next d.suits p.next j ++ k.is_path j)
          ∙ ap (λ j. j ∷ path) q;
      reached = passed_append fs k.frames part
          (ap (passed fs) (sym k.is_term) ∙ round_passed h ts next d.suits p.next) k.reached;
      is_open = k.is_open;
      unmarked = k.unmarked;
    }
