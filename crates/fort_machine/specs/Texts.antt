-- Chapter "Values": the text of a value, when two values are the same, and how deep a value is. The
-- code writes into one buffer and goes down by calls.
use Rattle.std.specs.Prelude.{ℕ, ◌+◌, ◌==◌, max, Bool, true, false, ◌&&◌, not, if◌then◌else◌, List, [], ◌∷◌, ◌++◌, map, slice_get, unwrap_or, codes, decimal, bytes_eq}
use Rattle.std.specs.Fmt.{signed_decimal}
use Rattle.std.specs.Ordering.{int_eq}
use Rattle.fort_base.specs.declared.ty.Ty.{Ty, out-Ty, fold-Ty}
use Rattle.fort_base.specs.declared.ty.Ty.TheOpen.{Ty-F}
use Rattle.fort_core.specs.declared.term.Term.{Term}
use Rattle.fort_core.specs.declared.term.Term.TheOpen.{Value-F, Closure-F}
use Rattle.fort_core.specs.declared.value.Closure.{Closure, fold-Closure}
use Rattle.fort_core.specs.declared.value.Value.{Value, out-Value, fold-Value}
use Rattle.fort_core.specs.declared.program.Program.{Program}

-- Texts in a row, with a comma and a space between them.
abbrev pub with_commas : List (List ℕ) → List ℕ
with_commas [] = []
with_commas (s ∷ []) = s
with_commas (s ∷ ss) = s ++ (codes ", " ++ with_commas ss)

-- A value's text by its kind: numbers in decimal, a tuple's parts in parentheses, an object by its
-- type's name.
abbrev pub text_at : Program → Value-F (Unit {0}) (List ℕ) (Unit {0}) → List ℕ
text_at p (Value-F.Small n) = signed_decimal n
text_at p (Value-F.Large n) = signed_decimal n
text_at p (Value-F.Truth b) = if b then codes "true" else codes "false"
text_at p (Value-F.Text s) = s
text_at p (Value-F.Tuple ss) = codes "(" ++ (with_commas ss ++ codes ")")
text_at p (Value-F.Range first count) = signed_decimal first ++ (codes "#" ++ decimal count)
text_at p (Value-F.Object id base) = unwrap_or (slice_get p.type_names id.0) []
text_at p (Value-F.Array element base size) = codes "array of " ++ decimal size
text_at p (Value-F.Function c) = codes "function"

-- The text of a value, as its bytes.
abbrev pub text : Program → Value → List ℕ
text p = fold-Value (Unit {0}) (List ℕ) (Unit {0}) (λ t. tt) (text_at p) (λ c. tt)

-- Two lists pass where they have one length and each pair in its place passes.
abbrev pub each_same : {A B : Type 0} → (A → B → Bool) → List A → List B → Bool
each_same f [] [] = true
each_same f [] (b ∷ bs) = false
each_same f (a ∷ more) [] = false
each_same f (a ∷ more) (b ∷ bs) = f a b && each_same f more bs

-- Two types are written alike.
abbrev pub same_type_at : Ty-F (Ty → Bool) → Ty-F Ty → Bool
same_type_at Ty-F.Nothing Ty-F.Nothing = true
same_type_at Ty-F.Any Ty-F.Any = true
same_type_at (Ty-F.Named i) (Ty-F.Named j) = i.0 == j.0
same_type_at (Ty-F.Tuple fs) (Ty-F.Tuple bs) = each_same (λ (f : Ty → Bool) b. f b) fs bs
same_type_at (Ty-F.Arrow f g) (Ty-F.Arrow c d) = f c && g d
same_type_at (Ty-F.Array f) (Ty-F.Array e) = f e
same_type_at _ _ = false

-- Whether two types are written alike.
abbrev pub same_type : Ty → Ty → Bool
same_type = fold-Ty (Ty → Bool) (λ layer b. same_type_at layer (out-Ty b))

-- Two values are the same where they are of one kind and made of the same; functions never are.
abbrev pub same_at : Value-F (Unit {0}) (Value → Bool) (Unit {0}) → Value-F Term Value Closure
    → Bool
same_at (Value-F.Small n) (Value-F.Small m) = int_eq n m
same_at (Value-F.Large n) (Value-F.Large m) = int_eq n m
same_at (Value-F.Truth true) (Value-F.Truth b) = b
same_at (Value-F.Truth false) (Value-F.Truth b) = not b
same_at (Value-F.Text s) (Value-F.Text r) = bytes_eq s r
same_at (Value-F.Tuple fs) (Value-F.Tuple vs) = each_same (λ (f : Value → Bool) v. f v) fs vs
same_at (Value-F.Range n i) (Value-F.Range m j) = int_eq n m && i == j
same_at (Value-F.Object i l) (Value-F.Object j k) = i.0 == j.0 && l.0 == k.0
same_at (Value-F.Array s l i) (Value-F.Array t k j) = same_type s t && (l.0 == k.0 && i == j)
same_at _ _ = false

-- Whether two values are the same, as `===` asks.
abbrev pub same : Value → Value → Bool
same = fold-Value (Unit {0}) (Value
    → Bool) (Unit {0}) (λ t. tt) (λ layer v. same_at layer (out-Value v)) (λ c. tt)

-- The greatest number of a list, or 0.
abbrev pub greatest : List ℕ → ℕ
greatest [] = 0
greatest (n ∷ ns) = max n (greatest ns)

-- A tuple is 1 deeper than its deepest part, a function than the deepest value that it holds; other
-- values have depth 0.
abbrev pub depth_at : Value-F (Unit {0}) ℕ ℕ → ℕ
depth_at (Value-F.Tuple ns) = 1 + greatest ns
depth_at (Value-F.Function n) = n
depth_at _ = 0

-- A closure's depth by what it holds.
abbrev pub closure_depth_at : Closure-F (Unit {0}) ℕ ℕ → ℕ
closure_depth_at c = 1 + greatest (map (λ (h : ℕ × ℕ). h.1) c.held)

-- How deep a value is.
abbrev pub depth : Value → ℕ
depth = fold-Value (Unit {0}) ℕ ℕ (λ t. tt) depth_at closure_depth_at

-- How deep a closure is as a function.
abbrev pub closure_depth : Closure → ℕ
closure_depth = fold-Closure (Unit {0}) ℕ ℕ (λ t. tt) depth_at closure_depth_at

-- A value may be as deep as this.
abbrev pub deepest : ℕ
deepest = 100
