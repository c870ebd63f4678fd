-- One part more of a tuple, or of what a function holds.
use Rattle.std.proofs.Common.{◌≡◌, ℕ, ◌+◌, ◌-◌, ◌<◌, ◌≤◌, max, Bool, true, false, arith, refl, ap, sym, ◌∙◌, map}
use mathlib.Core.List.{map-map}
use Rattle.std.specs.Prelude.{nat_le}
use Rattle.fort_core.specs.declared.term.Term.TheOpen.{Value-F}
use Rattle.fort_core.specs.declared.value.Closure.{Closure, fold_out-Closure}
use Rattle.fort_core.specs.declared.value.Value.{Value, Function, fold-roll-Value}
use Rattle.fort_core.specs.declared.value.Value.TheVariants.{rolls-Function}
use Rattle.fort_machine.specs.Texts.{depth, closure_depth, greatest, depth_at, closure_depth_at}
use Rattle.fort_step_closed.specs.Closed.{depth_of_held}
use Rattle.std.proofs.lemmas.Bool.{le-leb, leb-true, leb-false, lt-leb}

up_to : (n g most : ℕ) (b : Bool) → 0 < most → n ≤ most - 1 → nat_le (1 + g) most ≡ b
    → nat_le (1 + max n g) most ≡ b
up_to n g most true h l e =
    let k : 1 + g ≤ most = leb-true (1 + g) most e in le-leb (1 + max n g) most (omega arith)
up_to n g most false h l e =
    let k : most < 1 + g = leb-false (1 + g) most e in lt-leb (1 + max n g) most (omega arith)

pub deeper : (n g most : ℕ) → 0 < most → nat_le n (most - 1) ≡ true
    → nat_le (1 + max n g) most ≡ nat_le (1 + g) most
deeper n g most h e = up_to n g most (nat_le (1 + g) most) h (leb-true n (most - 1) e) refl

pub too_deep : (n g most : ℕ) → 0 < most → nat_le n (most - 1) ≡ false
    → nat_le (1 + max n g) most ≡ false
too_deep n g most h e =
    let k : most - 1 < n = leb-false n (most - 1) e in lt-leb (1 + max n g) most (omega arith)

pub shallow_enough : (most : ℕ) → 0 < most → nat_le (1 + 0) most ≡ true
shallow_enough most h = le-leb (1 + 0) most (omega arith)

pub none_shallow : (g : ℕ) → nat_le (1 + g) 0 ≡ false
none_shallow g = lt-leb (1 + g) 0 (omega arith)

-- a function is 1 deeper than the deepest value that it holds
pub depth_closure : (c : Closure) → closure_depth c ≡ 1 + greatest (map depth_of_held c.held)
depth_closure c =
    fold_out-Closure (Unit {0}) ℕ ℕ (λ t. tt) depth_at closure_depth_at c
    ∙ ap (λ ns. 1 + greatest ns) (map-map (λ (h : ℕ × ℕ). h.1) (λ
    (h : ℕ × Value). (h.0, depth h.1)) c.held)

-- the value that it is, likewise
pub depth_function : (c : Closure) → depth (Function c) ≡ 1 + greatest (map depth_of_held c.held)
depth_function c =
    ap depth (sym (rolls-Function c))
    ∙ fold-roll-Value (Unit {0}) ℕ ℕ (λ t. tt) depth_at closure_depth_at (Value-F.Function c)
    ∙ depth_closure c
