-- The way to a part and the way in it, with their marks.
use Rattle.std.proofs.Common.{◌≡◌, ℕ, true, false, List, [], ◌∷◌, ◌++◌, refl, ap, sym, ◌∙◌}
use Rattle.fort_core.specs.declared.term.Term.{Term, out-Term}
use Rattle.fort_machine.specs.Ends.{open_yet, standing, has_stepped, is_mark}
use Rattle.fort_machine.specs.Frames.{Frame, in_stepped, plug, part_number, passed, with_mark, trodden}
use Rattle.fort_machine.proofs.Places.{plug_open, out_on}
use Rattle.fort_machine.proofs.Runs.{passed_trodden, plug_append}

-- frames that begin with no mark
abbrev pub Unmarked : List Frame → Type 0
Unmarked (in_stepped ∷ fs) = ⊥
Unmarked _ = Unit {0}

mark_append : (ns : List ℕ) (fs gs : List Frame) → Unmarked gs
    → with_mark ns (fs ++ gs) ≡ with_mark ns fs ++ gs
mark_append [] fs gs u = refl
mark_append (n ∷ ns) [] [] u = refl
mark_append (n ∷ ns) [] (in_stepped ∷ gs) u = absurd u
mark_append (n ∷ ns) [] (g ∷ gs) u = refl
mark_append (n ∷ ns) (in_stepped ∷ fs) gs u = refl
mark_append (n ∷ ns) (f ∷ fs) gs u = refl

trodden_append : (fs gs : List Frame) → Unmarked (trodden gs)
    → trodden (fs ++ gs) ≡ trodden fs ++ trodden gs
trodden_append [] gs u = refl
trodden_append (f ∷ fs) gs u =
    ap (λ x. f ∷ x) (ap (with_mark (part_number f)) (trodden_append fs gs u)
    ∙ mark_append (part_number f) (trodden fs) (trodden gs) u)

-- the way in a term that is no mark
pub no_mark : (gs : List Frame) (a t : Term) → t ≡ plug gs a → standing a ≡ open_yet
    → has_stepped t ≡ false → Unmarked (trodden gs)
no_mark [] a t e o m = tt
no_mark (in_stepped ∷ gs) a t e o m =
    let z : true ≡ false =
    sym (ap is_mark (ap out-Term e ∙ out_on in_stepped (plug gs a) (plug_open gs a o))) ∙ m
    in absurd cc
no_mark (g ∷ gs) a t e o m = tt

pub after_first : (fs gs : List Frame) (b : Term) → Unmarked (trodden gs)
    → plug (trodden fs) (plug (trodden gs) b) ≡ plug (trodden (fs ++ gs)) b
after_first fs gs b u =
    sym (ap (λ hs. plug hs b) (trodden_append fs gs u) ∙ plug_append (trodden fs) (trodden gs) b)

-- what stands behind frames that are trodden
same_tail : (f g : Frame) (fs gs : List Frame) → f ∷ fs ≡ g ∷ gs → fs ≡ gs
same_tail f g fs gs e = cc

tail_trodden : (ns : List ℕ) (fs : List Frame) → with_mark ns (trodden fs) ≡ fs → trodden fs ≡ fs
tail_trodden [] fs e = e
tail_trodden (n ∷ ns) [] e = absurd cc
tail_trodden (n ∷ ns) (in_stepped ∷ fs) e = e
tail_trodden (n ∷ ns) (f ∷ fs) e = absurd cc

mark_behind : (ns : List ℕ) (fs gs : List Frame) → with_mark ns (trodden fs) ≡ fs
    → with_mark ns (fs ++ gs) ≡ fs ++ gs
mark_behind [] fs gs e = refl
mark_behind (n ∷ ns) [] gs e = absurd cc
mark_behind (n ∷ ns) (in_stepped ∷ fs) gs e = refl
mark_behind (n ∷ ns) (f ∷ fs) gs e = absurd cc

pub trodden_behind : (fs gs : List Frame) → trodden fs ≡ fs
    → trodden (fs ++ gs) ≡ fs ++ trodden gs
trodden_behind [] gs e = refl
trodden_behind (f ∷ fs) gs e =
    let q = same_tail f f (with_mark (part_number f) (trodden fs)) fs e in
    ap (λ x. f ∷ x)
    (ap (with_mark (part_number f)) (trodden_behind fs gs (tail_trodden (part_number f) fs q))
    ∙ mark_behind (part_number f) fs (trodden gs) q)

-- nothing behind a trodden way is passed over
pub reached_here : (fs : List Frame) → trodden fs ≡ fs → (t : Term) → passed fs t ≡ false
reached_here fs e t = ap (λ x. passed x t) (sym e) ∙ passed_trodden fs t
