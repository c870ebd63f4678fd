-- The parts of a parallel form: into one, and back.
use Rattle.std.proofs.Common.{◌≡◌, ◌≢◌, ℕ, zero, suc, ◌+◌, ◌<◌, ◌≤◌, Bool, true, false, ◌||◌, ◌&&◌, List, [], ◌∷◌, ◌++◌, length, take, drop, Option, Some, None, refl, ap, sym, ◌∙◌, subst, arith, rules, ◌⊎◌, inl, inr}
use Rattle.std.specs.Prelude.{slice_get, slice_set, nat_lt}
use Rattle.std.specs.List.{list_any}
use Rattle.fort_core.specs.declared.term.Term.{Term, Group, Stepped, out-Term}
use Rattle.fort_core.specs.declared.term.Term as term
use Rattle.fort_core.specs.declared.term.Term.TheVariants.{outs-Stepped}
use Rattle.fort_machine.specs.Ends.{standing_at, throw_of, throws_by, Standing, at_value, at_throw, open_yet, standing, Finished, group, stepped, has_stepped, is_mark, is_still, still_by, is_thrown}
use Rattle.fort_machine.specs.Ends as ends
use Rattle.fort_machine.specs.Ends.{values_of}
use Rattle.fort_core.specs.declared.value.Value.{Value}
use Rattle.fort_machine.proofs.Standing.{standing-Value, standing-throw}
use Rattle.fort_machine.specs.Frames.{in_stepped, on, plug, beside, passes, passed}
use Rattle.fort_machine.specs.Frames as machine
use Rattle.fort_machine.proofs.Standing.{values_open, group_open, stepped_open, stepped_finished, still_stepped}
use Rattle.fort_frames.specs.Heads.{are_two, suits, form_of, frame_at}
use Rattle.fort_frames.specs.declared.head.Head.{Head}
use Rattle.fort_frames.specs.declared.head.Head.TheVariants as head
use Rattle.fort_frames.specs.Frames.{frame_of_node, is_trodden, mark_if, frames_of, frames, rebuilt, Reaches}
use Rattle.fort_frames.specs.States.{Stands}
use Rattle.fort_frames.specs.declared.node.Node.{Node}
use Rattle.fort_frames.specs.declared.frame.Frame.{Frame}
use Rattle.fort_frames.specs.declared.frame.Frame.TheVariants as frame
use Rattle.fort_frames.specs.declared.place.Place.{Place}
use Rattle.fort_frames.specs.declared.state.At.TheVariants as at
use Rattle.fort_frames.proofs.Heads.{put_back, suits_set, beside_at}
use Rattle.fort_frames.proofs.Same.{node_suits, node_is_form}
use Rattle.fort_frames_moves.specs.Turns.{IsOver, AreOver, IsPart, IsNext, raw_form}
use Rattle.fort_frames_moves.specs.Stands.{IsStand, IsThrownStand}
use Rattle.fort_frames_moves.specs.declared.stand.Stand.{Stand}
use Rattle.fort_frames_moves.specs.declared.stand.Stand.TheVariants as a_stand
use Rattle.fort_frames_moves.specs.declared.across.Next.{Next}

one_more : (i : ℕ) → suc i ≡ i + 1
one_more i = omega arith

-- a part in its own place
own_suc : (ts : List Term) (i : ℕ) (t : Term) → slice_get ts i ≡ Some t
    → take i ts ++ t ∷ drop (suc i) ts ≡ ts
own_suc [] zero t e = absurd cc
own_suc [] (suc i) t e = absurd cc
own_suc (x ∷ xs) zero t e = let q : x ≡ t = cc in ap (λ y. y ∷ xs) (sym q)
own_suc (x ∷ xs) (suc i) t e = ap (λ ys. x ∷ ys) (own_suc xs i t e)

pub own_place : (ts : List Term) (i : ℕ) (t : Term) → slice_get ts i ≡ Some t
    → take i ts ++ t ∷ drop (i + 1) ts ≡ ts
own_place ts i t e = subst (λ n. take i ts ++ t ∷ drop n ts ≡ ts) (one_more i) (own_suc ts i t e)

within : (ts : List Term) (i : ℕ) (t : Term) → slice_get ts i ≡ Some t → i < length ts
within [] zero t e = absurd cc
within [] (suc i) t e = absurd cc
within (x ∷ xs) zero t e = omega arith
within (x ∷ xs) (suc i) t e = let h = within xs i t e in omega (arith, h)

-- parts that are over
pub nothing_there : (ts : List Term) (i : ℕ) → slice_get ts i ≡ None → IsOver ts i
nothing_there ts i e t q = let z : None ≡ Some t = sym e ∙ q in absurd cc

over_finished : (ts : List Term) (i : ℕ) (t : Term) → slice_get ts i ≡ Some t → Finished t
    → IsOver ts i
over_finished ts i t e f u q = let z : t ≡ u = cc in inl (subst Finished z f)

pub over_value : (ts : List Term) (i : ℕ) (t : Term) → slice_get ts i ≡ Some t
    → ((v : Value) × (t ≡ term.Value v)) → IsOver ts i
over_value ts i t e h = over_finished ts i t e (ends.Finished.value h.0 h.1)

pub over_throw : (ts : List Term) (i : ℕ) (t : Term) → slice_get ts i ≡ Some t
    → ((v : Value) × (t ≡ throw_of v)) → IsOver ts i
over_throw ts i t e h = over_finished ts i t e (ends.Finished.throw h.0 h.1)

-- one more of them is over
pub over_next : (ts : List Term) (from to : ℕ) → AreOver ts from to → IsOver ts to
    → AreOver ts from (to + 1)
over_next ts from to h k i low high = go (nat_lt i to) refl
  where
    go : (b : Bool) → nat_lt i to ≡ b → IsOver ts i
    go true e = let less : i < to = search (rules, e) in h i low less
    go false e =
        let not_less : to ≤ i = search (rules, e)
        in let same : to ≡ i = omega (arith, not_less, high) in subst (IsOver ts) same k

-- what is found at a number, those before it being over
pub found_at : (ts : List Term) (from i : ℕ) (n : Next) → AreOver ts from i → IsNext ts n
    → n.«at» ≡ i → IsNext ts n × AreOver ts from n.«at»
found_at ts from i n h k e = (k, subst (AreOver ts from) (sym e) h)

pub over_end : (ts : List Term) (from i : ℕ) → AreOver ts from i → length ts ≤ i
    → AreOver ts from (length ts)
over_end ts from i h e k low high = h k low (omega (arith, e, high))

pub none_over : (ts : List Term) (from : ℕ) → AreOver ts from from
none_over ts from i low high = let f : ⊥ = omega (arith, low, high) in absurd f

any_suc : (p : Term → Bool) (ts : List Term) (i : ℕ) (t : Term) → slice_get ts i ≡ Some t
    → p t ≡ false → list_any p ts ≡ true → list_any p (take i ts ++ drop (suc i) ts) ≡ true
any_suc p [] zero t e n h = absurd cc
any_suc p [] (suc i) t e n h = absurd cc
any_suc p (x ∷ xs) zero t e n h =
    let q : x ≡ t = cc in ap (λ b. b || list_any p xs) (sym n ∙ ap p (sym q)) ∙ h
any_suc p (x ∷ xs) (suc i) t e n h = go (p x) refl (λ k. any_suc p xs i t e n k)
  where
    go : (b : Bool) → p x ≡ b
        → (list_any p xs ≡ true → list_any p (take i xs ++ drop (suc i) xs) ≡ true)
        → (p x || list_any p (take i xs ++ drop (suc i) xs)) ≡ true
    go true q rest = ap (λ b. b || list_any p (take i xs ++ drop (suc i) xs)) q
    go false q rest =
        ap (λ b. b || list_any p (take i xs ++ drop (suc i) xs)) q
        ∙ rest (ap (λ b. b || list_any p xs) (sym q) ∙ h)

any_beside : (p : Term → Bool) (ts : List Term) (i : ℕ) (t : Term) → slice_get ts i ≡ Some t
    → p t ≡ false → list_any p ts ≡ true → list_any p (take i ts ++ drop (i + 1) ts) ≡ true
any_beside p ts i t e n h =
    subst (λ m. list_any p (take i ts ++ drop m ts) ≡ true) (one_more i) (any_suc p ts i t e n h)

pub over_passed : (ts : List Term) (i : ℕ) (t : Term) → slice_get ts i ≡ Some t
    → standing t ≡ open_yet → has_stepped t ≡ false → list_any is_thrown ts ≡ true → IsOver ts i
over_passed ts i t e o m h u q =
    let z : t ≡ u = cc in
    let still : is_still t ≡ true = (λ j. still_by (o j) (m j)) in
    inr (subst (λ x. (list_any is_thrown (take i ts ++ drop (i + 1) ts) && is_still x)
    ≡ true) z (λ j. any_beside is_thrown ts i t e (ap throws_by o) h j && still j))

or_falses : (a b : Bool) → (a || b) ≡ false → (a ≡ false) × (b ≡ false)
or_falses true b e = absurd cc
or_falses false b e = (refl, e)

any_append : (p : Term → Bool) (xs ys : List Term) → list_any p xs ≡ false → list_any p ys ≡ false
    → list_any p (xs ++ ys) ≡ false
any_append p [] ys e q = q
any_append p (x ∷ xs) ys e q =
    let h = or_falses (p x) (list_any p xs) e in λ i. h.0 i || any_append p xs ys h.1 q i

any_take : (p : Term → Bool) (i : ℕ) (ts : List Term) → list_any p ts ≡ false
    → list_any p (take i ts) ≡ false
any_take p zero ts e = refl
any_take p (suc i) [] e = refl
any_take p (suc i) (t ∷ ts) e =
    let h = or_falses (p t) (list_any p ts) e in λ j. h.0 j || any_take p i ts h.1 j

any_drop : (p : Term → Bool) (i : ℕ) (ts : List Term) → list_any p ts ≡ false
    → list_any p (drop i ts) ≡ false
any_drop p zero ts e = e
any_drop p (suc i) [] e = refl
any_drop p (suc i) (t ∷ ts) e = any_drop p i ts (or_falses (p t) (list_any p ts) e).1

and_left : (a b : Bool) → a ≡ false → (a && b) ≡ false
and_left a b e = ap (λ x. x && b) e

and_right : (a b : Bool) → b ≡ false → (a && b) ≡ false
and_right true b e = e
and_right false b e = refl

-- a part without a mark, no part a throw
pub unmarked_next : (ts : List Term) (i : ℕ) (t : Term) → slice_get ts i ≡ Some t
    → standing t ≡ open_yet → list_any is_thrown ts ≡ false
    → IsNext ts (record { «at» = i; part = t; stepped = false })
unmarked_next ts i t e o n = record {
  within = within ts i t e;
  is_open = o;
  is_part = (
    own_place ts i t e,
    and_left _ _
        (any_append is_thrown (take i ts) (drop (i + 1) ts) (any_take is_thrown i ts n)
        (any_drop is_thrown (i + 1) ts n)),
  );
}

-- a marked part that is open
pub marked_next : (ts : List Term) (i : ℕ) (t u : Term) → slice_get ts i ≡ Some t → t ≡ Stepped u
    → standing u ≡ open_yet → IsNext ts (record { «at» = i; part = u; stepped = true })
marked_next ts i t u e q o =
    record {
      within = within ts i t e;
      is_part = (ap (λ x. take i ts ++ x ∷ drop (i + 1) ts) (sym q) ∙ own_place ts i t e, o);
      is_open = o;
    }

not_still : (t : Term) → standing t ≡ open_yet → has_stepped t ≡ true → is_still t ≡ false
not_still t o m = ap (λ s. still_by s (has_stepped t)) o ∙ ap (still_by open_yet) m

-- a mark round what is finished, which takes no step
pub mark_alone_next : (ts : List Term) (i : ℕ) (t u : Term) → slice_get ts i ≡ Some t
    → t ≡ Stepped u → IsNext ts (record { «at» = i; part = t; stepped = false })
mark_alone_next ts i t u e q =
    let o : standing t ≡ open_yet = ap standing q ∙ ap standing_at (outs-Stepped u) in
    let m : has_stepped t ≡ true = ap has_stepped q ∙ ap is_mark (outs-Stepped u) in record {
      within = within ts i t e;
      is_part = (
        own_place ts i t e,
        and_right (list_any is_thrown (take i ts ++ drop (i + 1) ts)) (is_still t)
            (not_still t o m),
      );
      is_open = o;
    }

-- the frames round a part that is gone into
since_now : (clock : ℕ) (b : Bool) → (b || nat_lt clock clock) ≡ b
since_now clock b =
    let f : nat_lt clock clock ≡ false = search rules in ap (λ x. b || x) f ∙ or_none b
  where
    or_none : (b : Bool) → (b || false) ≡ b
    or_none true = refl
    or_none false = refl

-- how a throw stands
pub thrown_stand : (t u : Term) (r : Stand) → t ≡ term.Throw u → IsThrownStand u r → IsStand t r
thrown_stand t u a_stand.Value e h = absurd h
thrown_stand t u a_stand.Throw e h = (h.0, e ∙ ap term.Throw h.1)
thrown_stand t u a_stand.Open e h = ap standing e ∙ h

-- how a term stands, and whether it is thrown
pub value_not_thrown : (t : Term) → ((v : Value) × (t ≡ term.Value v)) → is_thrown t ≡ false
value_not_thrown t h = ap is_thrown h.1 ∙ ap throws_by (standing-Value h.0)

pub throw_thrown : (t : Term) → ((v : Value) × (t ≡ throw_of v)) → is_thrown t ≡ true
throw_thrown t h = ap is_thrown h.1 ∙ ap throws_by (standing-throw h.0)

pub open_not_thrown : (t : Term) → standing t ≡ open_yet → is_thrown t ≡ false
open_not_thrown t o = ap throws_by o

-- marks
pub marked_open : (t : Term) → standing t ≡ open_yet → Stepped t ≡ stepped t
marked_open t o = sym (stepped_open t o)

pub marked_value : (t : Term) → ((v : Value) × (t ≡ term.Value v)) → t ≡ stepped t
marked_value t h = sym (stepped_finished t (ends.Finished.value h.0 h.1))

pub marked_throw : (t : Term) → ((v : Value) × (t ≡ throw_of v)) → t ≡ stepped t
marked_throw t h = sym (stepped_finished t (ends.Finished.throw h.0 h.1))

-- a part put back into its node
pub put_part : (clock : ℕ) (n : Node) (u x : Term) → x ≡ plug (mark_if (is_trodden clock n)) u
    → form_of n.head (slice_set n.parts n.«at» x) ≡ plug (frames_of clock (frame.Node n)) u
put_part clock n u x e =
    ap (form_of n.head) (sym (put_back n.parts n.«at» x n.within)) ∙ sym (node_is_form n x)
    ∙ ap (on (frame_of_node n)) e

pub suits_back : (h : Head) (ts : List Term) (i : ℕ) (t : Term) → suits h ts ≡ true
    → suits h (slice_set ts i t) ≡ true
suits_back h ts i t e = suits_set h ts i t ∙ e

pub reaches_back : (clock : ℕ) (n : Node) (u x : Term) (fs : List Frame)
    → x ≡ plug (mark_if (is_trodden clock n)) u
    → Reaches clock fs (plug (frames_of clock (frame.Node n)) u)
    → Reaches clock fs (form_of n.head (slice_set n.parts n.«at» x))
reaches_back clock n u x fs e r = subst (Reaches clock fs) (sym (put_part clock n u x e)) r

-- a tuple with an open part is a form
part_open : (before behind : List Term) (t : Term) (b : Bool) (ts : List Term)
    → IsPart before behind t b ts → standing t ≡ open_yet → group ts ≡ Group ts
part_open before behind t true ts h o =
    let m : standing (Stepped t) ≡ open_yet = ap standing_at (outs-Stepped t) in
    group_open ts (sym (ap values_of h.0) ∙ values_open before behind (Stepped t) m)
part_open before behind t false ts h o =
    group_open ts (sym (ap values_of h.0) ∙ values_open before behind t o)

pub open_group : (ts : List Term) (n : Next) → IsNext ts n → group ts ≡ Group ts
open_group ts n h =
    part_open (take n.«at» ts) (drop (n.«at» + 1) ts) n.part n.stepped ts h.is_part h.is_open

pub open_form : (h : Head) (ts : List Term) (n : Next) → IsNext ts n → raw_form h ts ≡ form_of h ts
open_form head.Group ts n k = sym (open_group ts n k)
open_form (head.Call set) ts n k = refl
open_form head.Apply ts n k = refl
open_form head.Also ts n k = refl
open_form head.ForHalves ts n k = refl
open_form (head.ReduceHalves set) ts n k = refl

pub node_form : (h : Head) (ts : List Term) → h ≢ head.Group → raw_form h ts ≡ form_of h ts
node_form head.Group ts n = absurd (n refl)
node_form (head.Call set) ts n = refl
node_form head.Apply ts n = refl
node_form head.Also ts n = refl
node_form head.ForHalves ts n = refl
node_form (head.ReduceHalves set) ts n = refl

pub two_parts : (ts : List Term) (a b : Term) → are_two ts ≡ true → slice_get ts 0 ≡ Some a
    → slice_get ts 1 ≡ Some b → ts ≡ a ∷ b ∷ []
two_parts [] a b e p q = absurd cc
two_parts (x ∷ []) a b e p q = absurd cc
two_parts (x ∷ y ∷ []) a b e p q = let h : x ≡ a = cc in let k : y ≡ b = cc in λ i. h i ∷ k i ∷ []
two_parts (x ∷ y ∷ z ∷ ts) a b e p q = absurd cc

pub raw_two : (h : Head) (ts : List Term) (a b : Term) → ts ≡ a ∷ b ∷ []
    → raw_form h ts ≡ raw_form h (a ∷ b ∷ [])
raw_two h ts a b e = ap (raw_form h) e

-- a form is left
pub left_form : (clock : ℕ) (place : Place) (h : Head) (ts : List Term) (n : Next) (u : Term)
    → IsNext ts n → u ≡ raw_form h ts → Reaches clock (frames place.stack) (form_of h ts)
    → Stands clock (rebuilt clock (frames place.stack) (form_of h ts))
    (record { place = place; «at» = at.Left u })
left_form clock place h ts n u k e r =
    let q : u ≡ form_of h ts = e ∙ open_form h ts n k in record {
      is_term = ap (rebuilt clock (frames place.stack)) q;
      reached = subst (Reaches clock (frames place.stack)) (sym q) r;
    }

-- the part that is gone into
pub part_in : (before behind : List Term) (t : Term) (b : Bool) (ts : List Term)
    → IsPart before behind t b ts → before ++ plug (mark_if b) t ∷ behind ≡ ts
part_in before behind t true ts h = ap (λ x. before ++ x ∷ behind) (stepped_open t h.1) ∙ h.0
part_in before behind t false ts h = h.0

pub not_passed_part : (f : machine.Frame) (before behind : List Term) (t : Term) (b : Bool)
    (ts : List Term) → beside f ≡ before ++ behind → IsPart before behind t b ts
    → passed (f ∷ mark_if b) t ≡ false
not_passed_part f before behind t true ts e h =
    λ i. and_right (list_any is_thrown (beside f)) (is_still (stepped t)) (still_stepped t) i
    || false
not_passed_part f before behind t false ts e h =
    λ i. (ap (λ xs. list_any is_thrown xs && is_still t) e ∙ h.1) i || false

pub entered : (clock : ℕ) (place inner : Place) (n : Node) (t : Term)
    → IsNext n.parts (record { «at» = n.«at»; part = t; stepped = n.stepped }) → n.since ≡ clock
    → Reaches clock (frames place.stack) (form_of n.head n.parts)
    → frames inner.stack ≡ frame.Node n ∷ frames place.stack
    → Stands clock (rebuilt clock (frames place.stack) (form_of n.head n.parts))
    (record { place = inner; «at» = at.Form t })
entered clock place inner n t h s r e =
    let flag : is_trodden clock n ≡ n.stepped =
    ap (λ c. n.stepped || nat_lt c clock) s ∙ since_now clock n.stepped in
    let before = take n.«at» n.parts in
    let behind = drop (n.«at» + 1) n.parts in
    let whole : on (frame_of_node n) (plug (mark_if (is_trodden clock n)) t)
    ≡ form_of n.head n.parts =
    ap (λ b. on (frame_of_node n) (plug (mark_if b) t)) flag
    ∙ node_is_form n (plug (mark_if n.stepped) t)
    ∙ ap (form_of n.head) (part_in before behind t n.stepped n.parts h.is_part) in
    let sides : beside (frame_of_node n) ≡ before ++ behind =
    beside_at n.head before behind t (node_suits n t) in
    record {
      is_term = ap (λ fs. rebuilt clock fs t) e ∙ ap (rebuilt clock (frames place.stack)) whole;
      reached = subst (λ fs. Reaches clock fs t) (sym e) (
        ap (λ b. passed (frame_of_node n ∷ mark_if b) t) flag
            ∙ not_passed_part (frame_of_node n) before behind t n.stepped n.parts sides h.is_part,
        omega (arith, s),
        subst (Reaches clock (frames place.stack)) (sym whole) r,
      );
    }
