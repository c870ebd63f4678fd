-- The part at a path, and that there is none.
use Rattle.std.proofs.Common.{◌≡◌, ◌↔◌, ℕ, ◌+◌, Bool, ◌<◌, ◌≤◌, true, false, List, [], ◌∷◌, length, Option, Some, None, Result, Ok, Err, IfOk, IfSome, IfNone, refl, ap, sym, ◌∙◌, subst, arith}
use Rattle.std.specs.Prelude.{IsTrue}
use Rattle.fort_base.specs.declared.refusal.Memory.{Memory}
use Rattle.fort_core.specs.declared.term.Term.{Term}
use Rattle.fort_machine.specs.Ends.{standing, has_stepped, is_still}
use Rattle.fort_machine.specs.Frames.{Frame, plug, road}
use Rattle.fort_frames_moves.specs.declared.across.Next.{Next}
use Rattle.fort_hall_parts.specs.Parts.{here, IsPartAt, IsNotAt, HasNoneAt, IsNode, IsPlain, IsGoing, LeadsNowhere}
use Rattle.fort_hall_parts.specs.declared.node.InOrder.{InOrder}
use Rattle.fort_hall_parts.specs.declared.node.ParallelForm.{ParallelForm}
use Rattle.fort_hall_parts.proofs.Forms.{not_still, still_open, still_unmarked}
use Rattle.fort_hall_parts.proofs.Ways.{no_road, below_through, below_into, part_through, part_into}

pub no_path : (path : List ℕ) → length path ≡ 0 → path ≡ []
no_path [] e = refl
no_path (n ∷ ns) e = let f : ⊥ = omega (arith, e) in absurd f

-- the empty path is the term's own
itself : (t part : Term) (path : List ℕ) → length path ≡ 0 → IsPartAt t path part → t ≡ part
itself t part path e k =
    k.is_term ∙ ap (λ fs. plug fs part) (no_road k.way (k.is_path ∙ no_path path e))

pub part_here : (t : Term) (path : List ℕ) → length path ≡ 0 → is_still t ≡ true
    → IsPartAt t path t
part_here t path e s = record {
  frames = [];
  way = here refl;
  is_term = refl;
  is_path = sym (no_path path e);
  reached = refl;
  is_open = still_open t s;
  unmarked = still_unmarked t s;
}

pub none_here : (t : Term) (path : List ℕ) (depth : ℕ) → length path ≡ 0 → is_still t ≡ false
    → HasNoneAt t path depth
none_here t path depth e s = record {
  none = λ part. record {
    none = λ k lt.
        let same = itself t part path e k in
        not_still t s (ap standing same ∙ k.is_open) (ap has_stepped same ∙ k.unmarked);
  };
}

no_truth : false ≡ true → ⊥
no_truth e = absurd cc

pub not_here : (t part : Term) (path : List ℕ) (depth : ℕ) (b : Bool) → length path ≡ 0
    → (IsTrue b ↔ (t ≡ part)) → b ≡ false → IsNotAt t path part depth
not_here t part path depth b e other f = record {
  none = λ k lt. no_truth (sym f ∙ other.1 (itself t part path e k));
}

-- the same term
pub not_same : (t t' part : Term) (path path' : List ℕ) (depth : ℕ) → t ≡ t' → path' ≡ path
    → IsNotAt t path part depth → IsNotAt t' path' part depth
not_same t t' part path path' depth e q k =
    subst (λ x. IsNotAt x path' part depth) e (subst (λ x. IsNotAt t x part depth) (sym q) k)

-- too deep
pub no_frames : (fs : List Frame) → length fs ≤ 0 → fs ≡ []
no_frames [] e = refl
no_frames (f ∷ fs) e = let z : ⊥ = omega (arith, e) in absurd z

pub no_numbers : (n : ℕ) (ns : List ℕ) → [] ≡ n ∷ ns → ⊥
no_numbers n ns e = absurd cc

pub not_below : (t part : Term) (path : List ℕ) (n : ℕ) (ns : List ℕ) (depth : ℕ)
    → path ≡ n ∷ ns → depth ≡ 0 → IsNotAt t path part depth
not_below t part path n ns depth e d = record {
  none = λ k lt.
      let empty : k.frames ≡ [] = no_frames k.frames (omega (arith, lt, d)) in
      no_numbers n ns (sym (ap road empty) ∙ k.is_path ∙ e);
}

pub none_below : (t : Term) (path : List ℕ) (n : ℕ) (ns : List ℕ) (depth : ℕ) → path ≡ n ∷ ns
    → depth ≡ 0 → HasNoneAt t path depth
none_below t path n ns depth e d = record {
  none = λ part. not_below t part path n ns depth e d;
}

-- no way begins
pub not_onward : (t part : Term) (path : List ℕ) (n : ℕ) (ns : List ℕ) (depth : ℕ)
    → path ≡ n ∷ ns → LeadsNowhere t n → IsNotAt t path part depth
not_onward t part path n ns depth e h = record {
  none = λ k lt. h.none ns part (subst (λ p. IsPartAt t p part) e k);
}

pub none_onward : (t : Term) (path : List ℕ) (n : ℕ) (ns : List ℕ) (depth : ℕ) → path ≡ n ∷ ns
    → LeadsNowhere t n → HasNoneAt t path depth
none_onward t path n ns depth e h = record {
  none = λ part. not_onward t part path n ns depth e h;
}

-- in a form that goes from left to right
pub at_path : {t part : Term} {path other : List ℕ} → path ≡ other → (k : IsPartAt t path part)
    → (l : IsPartAt t other part) × (length l.frames ≡ length k.frames)
at_path e k = (
  record {
    frames = k.frames;
    way = k.way;
    is_term = k.is_term;
    is_path = k.is_path ∙ e;
    reached = k.reached;
    is_open = k.is_open;
    unmarked = k.unmarked;
  },
  refl,
)

pub not_through : (t part : Term) (form : InOrder) (path : List ℕ) (n : ℕ) (ns : List ℕ)
    (depth less : ℕ) → IsGoing t form → path ≡ n ∷ ns → less + 1 ≡ depth
    → IsNotAt form.part path part less → IsNotAt t path part depth
not_through t part form path n ns depth less g e d h = record {
  none = λ k lt.
      let k' = at_path e k in
      let l = below_through t form n ns part g k'.0 in
      let l' = at_path (sym e) l.0 in
      let shorter = l.1 in
      let as_long = k'.1 in
      let still_long = l'.1 in
      h.none l'.0 (omega (arith, shorter, as_long, still_long, lt, d));
}

pub none_through : (t : Term) (form : InOrder) (path : List ℕ) (n : ℕ) (ns : List ℕ)
    (depth less : ℕ) → IsGoing t form → path ≡ n ∷ ns → less + 1 ≡ depth
    → HasNoneAt form.part path less → HasNoneAt t path depth
none_through t form path n ns depth less g e d h = record {
  none = λ part. not_through t part form path n ns depth less g e d (h.none part);
}

pub found_through : (t part : Term) (form : InOrder) (path : List ℕ) (n : ℕ) (ns : List ℕ)
    → IsGoing t form → path ≡ n ∷ ns → IsPartAt form.part path part → IsPartAt t path part
found_through t part form path n ns g e k =
    subst (λ p. IsPartAt t p part) (sym e)
    (part_through t form n ns part g (subst (λ p. IsPartAt form.part p part) e k))

-- in a part of a parallel form
pub not_into : (t part : Term) (node : ParallelForm) (next : Next) (path : List ℕ) (n : ℕ)
    (ns : List ℕ) (depth less : ℕ) → IsNode t node → IsPlain node.parts next → next.«at» ≡ n
    → path ≡ n ∷ ns → less + 1 ≡ depth → IsNotAt next.part ns part less
    → IsNotAt t path part depth
not_into t part node next path n ns depth less d p q e s h = record {
  none = λ k lt.
      let k' = at_path e k in
      let l = below_into t node next n ns part d p q k'.0 in
      let shorter = l.1 in
      let as_long = k'.1 in
      h.none l.0 (omega (arith, shorter, as_long, lt, s));
}

pub none_into : (t : Term) (node : ParallelForm) (next : Next) (path : List ℕ) (n : ℕ)
    (ns : List ℕ) (depth less : ℕ) → IsNode t node → IsPlain node.parts next → next.«at» ≡ n
    → path ≡ n ∷ ns → less + 1 ≡ depth → HasNoneAt next.part ns less → HasNoneAt t path depth
none_into t node next path n ns depth less d p q e s h = record {
  none = λ part. not_into t part node next path n ns depth less d p q e s (h.none part);
}

pub found_into : (t part : Term) (node : ParallelForm) (next : Next) (path : List ℕ) (n : ℕ)
    (ns : List ℕ) → IsNode t node → IsPlain node.parts next → next.«at» ≡ n → path ≡ n ∷ ns
    → IsPartAt next.part ns part → IsPartAt t path part
found_into t part node next path n ns d p q e k =
    subst (λ x. IsPartAt t x part) (sym e) (part_into t node next n ns part d p q k)

-- the same of what a call answers
pub found_through_all : (r : Result (Option Term) Memory) (t : Term) (form : InOrder)
    (path : List ℕ) (n : ℕ) (ns : List ℕ) → IsGoing t form → path ≡ n ∷ ns
    → IfOk r (λ found. IfSome found (IsPartAt form.part path))
    → IfOk r (λ found. IfSome found (IsPartAt t path))
found_through_all (Ok None) t form path n ns g e h = tt
found_through_all (Ok (Some part)) t form path n ns g e h = found_through t part form path n ns g e h
found_through_all (Err m) t form path n ns g e h = tt

pub none_through_all : (r : Result (Option Term) Memory) (t : Term) (form : InOrder)
    (path : List ℕ) (n : ℕ) (ns : List ℕ) (depth less : ℕ) → IsGoing t form → path ≡ n ∷ ns
    → less + 1 ≡ depth → IfOk r (λ found. IfNone found (HasNoneAt form.part path less))
    → IfOk r (λ found. IfNone found (HasNoneAt t path depth))
none_through_all (Ok None) t form path n ns depth less g e d h =
    none_through t form path n ns depth less g e d h
none_through_all (Ok (Some part)) t form path n ns depth less g e d h = tt
none_through_all (Err m) t form path n ns depth less g e d h = tt

-- a path with a number, by its length
pub not_through_by : (t part : Term) (form : InOrder) (path : List ℕ) (depth less : ℕ)
    → IsGoing t form → 0 < length path → less + 1 ≡ depth → IsNotAt form.part path part less
    → IsNotAt t path part depth
not_through_by t part form [] depth less g lt d h = absurd (omega (arith, lt))
not_through_by t part form (n ∷ ns) depth less g lt d h =
    not_through t part form (n ∷ ns) n ns depth less g refl d h
