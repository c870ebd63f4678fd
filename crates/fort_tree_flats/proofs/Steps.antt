-- A walk that adds the flat expressions of one part after another.
use Rattle.std.proofs.Common.{◌≡◌, List, [], ◌++◌, sym, ap, ◌∙◌, append_assoc}
use Rattle.std.proofs.lemmas.List.{append-nil}
use Rattle.fort_tree.specs.declared.grouped.Row.{Row}

-- the same part by another name
pub by : {A : Type 0} (f : A → List Row) {x y : A} (old : List Row) {new : List Row} → x ≡ y
    → new ≡ old ++ f x → new ≡ old ++ f y
by f old e step = step ∙ ap (λ v. old ++ f v) e

pub nothing_added : (old : List Row) {all : List Row} → all ≡ [] → old ≡ old ++ all
nothing_added old e = sym (append-nil old) ∙ ap (λ (u : List Row). old ++ u) (sym e)

pub one_added : (old : List Row) {new a all : List Row} → new ≡ old ++ a → all ≡ a
    → new ≡ old ++ all
one_added old p e = p ∙ ap (λ (u : List Row). old ++ u) (sym e)

both : (old a b : List Row) {mid new : List Row} → mid ≡ old ++ a → new ≡ mid ++ b
    → new ≡ old ++ (a ++ b)
both old a b p q = q ∙ ap (λ (u : List Row). u ++ b) p ∙ append_assoc old a b

pub two_added : (old a b : List Row) {mid new all : List Row} → mid ≡ old ++ a → new ≡ mid ++ b
    → all ≡ a ++ b → new ≡ old ++ all
two_added old a b p q e = one_added old (both old a b p q) e

pub three_added : (old a b c : List Row) {mid mid' new all : List Row} → mid ≡ old ++ a
    → mid' ≡ mid ++ b → new ≡ mid' ++ c → all ≡ a ++ (b ++ c) → new ≡ old ++ all
three_added old a b c {mid = mid} p q r e =
    one_added old (both old a (b ++ c) p (both mid b c q r)) e

pub four_added : (old a b c d : List Row) {mid mid' mid'' new all : List Row} → mid ≡ old ++ a
    → mid' ≡ mid ++ b → mid'' ≡ mid' ++ c → new ≡ mid'' ++ d → all ≡ a ++ (b ++ (c ++ d))
    → new ≡ old ++ all
four_added old a b c d {mid = mid} {mid' = mid'} p q r s e =
    one_added old (both old a (b ++ (c ++ d)) p (both mid b (c ++ d) q (both mid' c d r s))) e
