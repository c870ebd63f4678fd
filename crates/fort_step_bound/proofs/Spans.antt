-- A `for` and a reduction by the place of the first item and by how many there are.
use Rattle.std.proofs.Common.{◌≡◌, ℕ, Some, None, refl, ap}
use Rattle.fort_base.specs.declared.ids.SetId.{SetId}
use Rattle.fort_core.specs.declared.form.Order.{Order}
use Rattle.fort_core.specs.declared.form.Span.{Span}
use Rattle.fort_core.specs.declared.form.Span.TheVariants as span
use Rattle.fort_core.specs.declared.term.Term.{Term}
use Rattle.fort_core.specs.declared.value.Value.{Value, out-Value}
use Rattle.fort_machine.specs.Acts.{Act, stuck}
use Rattle.fort_machine.specs.Generators.{Items, numbers_from, elements_from, no_items, items_at, spanned, generating, reducing, for_items, reduce_items}
use Rattle.fort_step_bound.specs.Items.{place_in}

none_spanned : (s : Span) (items : Items) (f : ℕ → ℕ → Act) → None ≡ place_in s items
    → spanned s items f ≡ stuck
none_spanned (span.Part k n) items f e = absurd cc
none_spanned span.Whole (numbers_from first count) f e = absurd cc
none_spanned span.Whole (elements_from base count) f e = absurd cc
none_spanned span.Whole no_items f e = refl

one_spanned : (s : Span) (items : Items) (f : ℕ → ℕ → Act) (p : ℕ × ℕ) → Some p ≡ place_in s items
    → spanned s items f ≡ f p.0 p.1
one_spanned (span.Part k n) items f p e = let q : (k, n) ≡ p = cc in ap (λ (r : ℕ × ℕ). f r.0 r.1) q
one_spanned span.Whole (numbers_from first count) f p e =
    let q : (0, count) ≡ p = cc in ap (λ (r : ℕ × ℕ). f r.0 r.1) q
one_spanned span.Whole (elements_from base count) f p e =
    let q : (0, count) ≡ p = cc in ap (λ (r : ℕ × ℕ). f r.0 r.1) q
one_spanned span.Whole no_items f p e = absurd cc

pub no_for : (o : Order) (s : Span) (x : ℕ) (v : Value) (b : Term)
    → None ≡ place_in s (items_at (out-Value v)) → generating o s x v b ≡ stuck
no_for o s x v b e =
    none_spanned s (items_at (out-Value v)) (λ k n. for_items o (items_at (out-Value v)) k n x v b)
    e

pub a_for : (o : Order) (s : Span) (x : ℕ) (v : Value) (b : Term) (p : ℕ × ℕ)
    → Some p ≡ place_in s (items_at (out-Value v))
    → generating o s x v b ≡ for_items o (items_at (out-Value v)) p.0 p.1 x v b
a_for o s x v b p e =
    one_spanned s (items_at (out-Value v)) (λ k n. for_items o (items_at (out-Value v)) k n x v b) p
    e

pub ruleset fors = (no_for, a_for)

pub no_reduction : (o : Order) (s : Span) (set : SetId) (empty : Term) (x : ℕ) (v : Value)
    (b : Term) → None ≡ place_in s (items_at (out-Value v)) → reducing o s set empty x v b ≡ stuck
no_reduction o s set empty x v b e =
    none_spanned s (items_at (out-Value v))
    (λ k n. reduce_items o (items_at (out-Value v)) k n set empty x v b) e

pub a_reduction : (o : Order) (s : Span) (set : SetId) (empty : Term) (x : ℕ) (v : Value) (b : Term)
    (p : ℕ × ℕ) → Some p ≡ place_in s (items_at (out-Value v))
    → reducing o s set empty x v b ≡ reduce_items o (items_at (out-Value v)) p.0 p.1 set empty x v b
a_reduction o s set empty x v b p e =
    one_spanned s (items_at (out-Value v))
    (λ k n. reduce_items o (items_at (out-Value v)) k n set empty x v b) p e

pub ruleset reductions = (no_reduction, a_reduction)
