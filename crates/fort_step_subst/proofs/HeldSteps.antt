-- One pair more, as the pairs of a function are gone over.
use Rattle.std.proofs.Common.{◌≡◌, ℕ, ◌<◌, ◌≤◌, Bool, List, [], ◌∷◌, ◌++◌, append_assoc, ap, sym, ◌∙◌, if◌then◌else◌}
use Rattle.std.proofs.lemmas.Bool.{lt-ltb, le-ltb}
use Rattle.std.proofs.lemmas.List.{append-nil}
use Rattle.fort_core.specs.declared.value.Value.{Value}
use Rattle.fort_machine.specs.Substitution.{put_held}

abbrev Pair : Type 0
Pair = ℕ × Value

pub passed : (ps rest : List Pair) (h : Pair) (x : ℕ) (v : Value)
    → (ps ++ h ∷ []) ++ rest ≡ ps ++ (h ∷ rest)
passed ps rest h x v = append_assoc ps (h ∷ []) rest

pub before : (ps rest : List Pair) (h : Pair) (x : ℕ) (v : Value) → h.0 ≤ x
    → (ps ++ h ∷ []) ++ put_held x v rest ≡ ps ++ put_held x v (h ∷ rest)
before ps rest h x v le =
    append_assoc ps (h ∷ []) (put_held x v rest)
    ∙ ap (λ (b : Bool). ps ++ (if b then (x, v) ∷ h ∷ rest else h ∷ put_held x v rest))
    (sym (le-ltb x h.0 le))

pub here : (ps rest : List Pair) (h : Pair) (x : ℕ) (v : Value) → x < h.0
    → ((ps ++ (x, v) ∷ []) ++ h ∷ []) ++ rest ≡ ps ++ put_held x v (h ∷ rest)
here ps rest h x v lt =
    append_assoc (ps ++ (x, v) ∷ []) (h ∷ []) rest ∙ append_assoc ps ((x, v) ∷ []) (h ∷ rest)
    ∙ ap (λ (b : Bool). ps ++ (if b then (x, v) ∷ h ∷ rest else h ∷ put_held x v rest))
    (sym (lt-ltb x h.0 lt))

pub ends : (ps : List Pair) → ps ++ [] ≡ ps
ends ps = append-nil ps

pub ruleset steps = (passed, before, here)
