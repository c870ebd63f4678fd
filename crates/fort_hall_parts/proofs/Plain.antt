-- Parts that may go on, by their numbers.
use Rattle.std.proofs.Common.{◌≡◌, ℕ, ◌+◌, Bool, true, false, ◌&&◌, List, ◌++◌, length, take, drop, Some, None, refl, ap, sym, ◌∙◌, subst, ◌⊎◌, inl, inr}
use Rattle.std.specs.Prelude.{slice_get}
use Rattle.std.specs.List.{list_any}
use Rattle.fort_core.specs.declared.term.Term.{Term, Stepped, out-Term}
use Rattle.fort_core.specs.declared.term.Term.TheVariants.{outs-Stepped}
use Rattle.fort_core.specs.declared.term.Term.TheOpen.{Term-F}
use Rattle.fort_core.specs.declared.value.Value.{Value}
use Rattle.fort_core.specs.declared.value.Closure.{Closure}
use Rattle.fort_machine.specs.Ends.{Finished, open_yet, standing, stepped, has_stepped, is_mark, is_still, is_thrown}
use Rattle.fort_machine.specs.Frames.{plug}
use Rattle.fort_machine.proofs.Standing.{not_finished, stepped_open}
use Rattle.fort_frames.specs.Frames.{mark_if}
use Rattle.fort_frames_moves.specs.Turns.{IsNext, IsOver, IsPart}
use Rattle.fort_frames_moves.specs.declared.across.Next.{Next}
use Rattle.fort_frames_moves.proofs.Parts.{marked_next, part_in}
use Rattle.fort_frames_moves.proofs.Waits.{at_middle}
use Rattle.fort_hall_parts.specs.Parts.{HasNoPlain, IsPlain}
use Rattle.fort_hall_parts.proofs.Forms.{not_still, still_open, still_unmarked}
use Rattle.fort_hall_parts.proofs.Rounds.{long_as}

-- what stands at a part's number
pub plain_there : (ts : List Term) (n : Next) → IsNext ts n
    → slice_get ts n.«at» ≡ Some (plug (mark_if n.stepped) n.part)
plain_there ts n k =
    let before = take n.«at» ts in
    let behind = drop (n.«at» + 1) ts in
    let there = plug (mark_if n.stepped) n.part in
    ap (slice_get ts) (sym (long_as ts n.«at» k.within))
    ∙ ap (λ xs. slice_get xs (length before)) (sym (part_in before behind n.part n.stepped ts k.is_part))
    ∙ at_middle before behind there

marked_mark : (t : Term) → has_stepped (Stepped t) ≡ true
marked_mark t = ap is_mark (outs-Stepped t)

inside_layer : (x y : Term) (a b : Term-F Term Value Closure) → a ≡ Term-F.Stepped x
    → b ≡ Term-F.Stepped y → a ≡ b → x ≡ y
inside_layer x y a b e q h = let z : Term-F.Stepped x ≡ Term-F.Stepped y = sym e ∙ h ∙ q in cc

same_marked : (x y : Term) → Stepped x ≡ Stepped y → x ≡ y
same_marked x y e =
    inside_layer x y (out-Term (Stepped x)) (out-Term (Stepped y)) (outs-Stepped x) (outs-Stepped y)
    (ap out-Term e)

no_marked : (x y : Term) → has_stepped y ≡ false → Stepped x ≡ y → ⊥
no_marked x y m e =
    let z : true ≡ false = sym (marked_mark x) ∙ ap has_stepped e ∙ m in absurd cc

-- the mark and the part without it
same_inside : (s r : Bool) (x y : Term) → standing x ≡ open_yet → standing y ≡ open_yet
    → has_stepped x ≡ false → has_stepped y ≡ false
    → plug (mark_if s) x ≡ plug (mark_if r) y → x ≡ y
same_inside true true x y o q m n e =
    same_marked x y (sym (stepped_open x o) ∙ e ∙ stepped_open y q)
same_inside true false x y o q m n e = absurd (no_marked x y n (sym (stepped_open x o) ∙ e))
same_inside false true x y o q m n e =
    absurd (no_marked y x m (sym (stepped_open y q) ∙ sym e))
same_inside false false x y o q m n e = e

the_same : (a b : Term) → Some a ≡ Some b → a ≡ b
the_same a b e = cc

-- a number has one part
pub plain_same : (ts : List Term) (a b : Next) → IsPlain ts a → IsPlain ts b → a.«at» ≡ b.«at»
    → a.part ≡ b.part
plain_same ts a b k l e =
    same_inside a.stepped b.stepped a.part b.part k.next.is_open l.next.is_open k.unmarked l.unmarked
    (the_same (plug (mark_if a.stepped) a.part) (plug (mark_if b.stepped) b.part)
    (sym (plain_there ts a k.next) ∙ ap (slice_get ts) e ∙ plain_there ts b l.next))

-- the part at a number, as it stands there
part_there : (ts : List Term) (i : ℕ) (t : Term) (n : Next) → slice_get ts i ≡ Some t
    → IsNext ts n → n.«at» ≡ i → t ≡ plug (mark_if n.stepped) n.part
part_there ts i t n e k q =
    the_same t (plug (mark_if n.stepped) n.part)
    (sym e ∙ ap (slice_get ts) (sym q) ∙ plain_there ts n k)

nothing_some : (t : Term) → None ≡ Some t → ⊥
nothing_some t e = absurd cc

pub no_part : (ts : List Term) (i : ℕ) → slice_get ts i ≡ None → HasNoPlain ts i
no_part ts i e = record {
  none = λ n k q.
      nothing_some (plug (mark_if n.stepped) n.part)
      (sym e ∙ ap (slice_get ts) (sym q) ∙ plain_there ts n k.next);
}

-- a part without a mark
unmarked_inside : (b : Bool) (t a : Term) → has_stepped t ≡ false → standing a ≡ open_yet
    → t ≡ plug (mark_if b) a → (b ≡ false) × (t ≡ a)
unmarked_inside true t a m o e = absurd (no_marked a t m (sym (stepped_open a o) ∙ sym e))
unmarked_inside false t a m o e = (refl, e)

pub unmarked_plain : (ts : List Term) (i : ℕ) (t : Term) (n : Next) → slice_get ts i ≡ Some t
    → has_stepped t ≡ false → IsNext ts n → n.«at» ≡ i → IsPlain ts n
unmarked_plain ts i t n e m k q =
    let h = unmarked_inside n.stepped t n.part m k.is_open (part_there ts i t n e k q)
    in record { next = k; unmarked = ap has_stepped (sym h.1) ∙ m }

passed_here : (ts : List Term) (n : Next) (b : Bool) → n.stepped ≡ b → IsNext ts n → b ≡ false
    → (list_any is_thrown (take n.«at» ts ++ drop (n.«at» + 1) ts) && is_still n.part) ≡ false
passed_here ts n b e k f = go n.stepped (e ∙ f) k.is_part
  where
    go : (s : Bool) → s ≡ false
        → IsPart (take n.«at» ts) (drop (n.«at» + 1) ts) n.part s ts
        → (list_any is_thrown (take n.«at» ts ++ drop (n.«at» + 1) ts) && is_still n.part) ≡ false
    go true q h = absurd cc
    go false q h = h.1

no_truth : false ≡ true → ⊥
no_truth e = absurd cc

over_none : (ts : List Term) (i : ℕ) (t : Term) → slice_get ts i ≡ Some t → has_stepped t ≡ false
    → Finished t ⊎ ((list_any is_thrown (take i ts ++ drop (i + 1) ts) && is_still t) ≡ true)
    → (n : Next) → IsPlain ts n → n.«at» ≡ i → ⊥
over_none ts i t e m (inl f) n k q =
    let h = unmarked_inside n.stepped t n.part m k.next.is_open (part_there ts i t n e k.next q) in
    not_finished t (ap standing h.1 ∙ k.next.is_open) f
over_none ts i t e m (inr p) n k q =
    let h = unmarked_inside n.stepped t n.part m k.next.is_open (part_there ts i t n e k.next q) in
    no_truth (sym (passed_here ts n n.stepped refl k.next h.0)
    ∙ (λ j. list_any is_thrown (take (q j) ts ++ drop (q j + 1) ts) && is_still (sym h.1 j)) ∙ p)

pub over_not_plain : (ts : List Term) (i : ℕ) (t : Term) → slice_get ts i ≡ Some t
    → has_stepped t ≡ false → IsOver ts i → HasNoPlain ts i
over_not_plain ts i t e m over = record { none = λ n k q. over_none ts i t e m (over t e) n k q }

-- a part with its mark
pub marked_plain : (ts : List Term) (i : ℕ) (t u a : Term) → slice_get ts i ≡ Some t
    → t ≡ Stepped u → is_still u ≡ true → a ≡ u
    → IsPlain ts (record { «at» = i; part = a; stepped = true }) × (i ≡ i)
marked_plain ts i t u a e q s same = (
  subst (λ x. IsPlain ts (record { «at» = i; part = x; stepped = true })) (sym same)
      (record { next = marked_next ts i t u e q (still_open u s); unmarked = still_unmarked u s }),
  refl,
)

mark_none : (u a : Term) (b : Bool) → is_still u ≡ false → standing a ≡ open_yet
    → has_stepped a ≡ false → Stepped u ≡ plug (mark_if b) a → ⊥
mark_none u a true s o m h =
    let same = same_marked u a (h ∙ stepped_open a o) in
    not_still u s (ap standing same ∙ o) (ap has_stepped same ∙ m)
mark_none u a false s o m h = no_marked u a m h

pub marked_not_plain : (ts : List Term) (i : ℕ) (t u : Term) → slice_get ts i ≡ Some t
    → t ≡ Stepped u → is_still u ≡ false → HasNoPlain ts i
marked_not_plain ts i t u e q s = record {
  none = λ n k p.
      mark_none u n.part n.stepped s k.next.is_open k.unmarked
      (sym q ∙ part_there ts i t n e k.next p);
}
