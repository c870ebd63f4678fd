-- A `for` and a reduction by how many items there are.
use Rattle.std.proofs.Common.{◌≡◌, ℕ, zero, suc, ◌+◌, ◌-◌, ◌<◌, ◌≤◌, arith, refl, ap}
use Rattle.fort_base.specs.declared.ids.SetId.{SetId}
use Rattle.fort_core.specs.declared.form.Order.{Order}
use Rattle.fort_core.specs.declared.form.Order.TheVariants as order
use Rattle.fort_core.specs.declared.form.Span.TheVariants as span
use Rattle.fort_core.specs.declared.term.Term.{Term, For, ForHalves, Reduce}
use Rattle.fort_core.specs.declared.term.Term as term
use Rattle.fort_core.specs.declared.value.Value.{Value}
use Rattle.fort_step_deal.specs.declared.deal.Goes.TheVariants.{Body, First}
use Rattle.fort_machine.specs.Acts.{becomes, unit}
use Rattle.fort_machine.specs.Generators.{Items, first_half, rest_half, for_items, reduce_items, reduced_halves}
use Rattle.fort_step_bound.specs.Items.{going}

pub for_none : (o : Order) (items : Items) (k n x : ℕ) (v : Value) (b : Term) → n ≡ 0
    → for_items o items k n x v b ≡ becomes (term.Value unit)
for_none o items k n x v b e = ap (λ m. for_items o items k m x v b) e

pub for_turn : (items : Items) (k n x : ℕ) (v : Value) (b : Term) → 0 < n
    → for_items order.Seq items k n x v b
    ≡ going items k (First x b (For order.Seq (span.Part (k + 1) (n - 1)) x (term.Value v) b))
unfolding going
for_turn items k zero x v b h = absurd (omega arith)
for_turn items k (suc n) x v b h =
    let e : n ≡ suc n - 1 = omega arith
    in ap (λ m. going items k
    (First x b (For order.Seq (span.Part (k + 1) m) x (term.Value v) b))) e

pub for_one : (items : Items) (k n x : ℕ) (v : Value) (b : Term) → n ≡ 1
    → for_items order.Parallel items k n x v b ≡ going items k (Body x b)
unfolding going
for_one items k n x v b e = ap (λ m. for_items order.Parallel items k m x v b) e

pub for_more : (items : Items) (k n x : ℕ) (v : Value) (b : Term) → 2 ≤ n
    → for_items order.Parallel items k n x v b
    ≡ becomes
    (ForHalves (For order.Parallel (span.Part k (first_half n)) x (term.Value v) b)
    (For order.Parallel (span.Part (k + first_half n) (rest_half n)) x (term.Value v) b))
for_more items k zero x v b h = absurd (omega arith)
for_more items k (suc zero) x v b h = absurd (omega arith)
for_more items k (suc (suc n)) x v b h = refl

pub ruleset fors = (for_none, for_turn, for_one, for_more)

pub reduce_none : (o : Order) (items : Items) (k n : ℕ) (set : SetId) (empty : Term) (x : ℕ)
    (v : Value) (b : Term) → n ≡ 0 → reduce_items o items k n set empty x v b ≡ becomes empty
reduce_none o items k n set empty x v b e = ap (λ m. reduce_items o items k m set empty x v b) e

pub reduce_one : (o : Order) (items : Items) (k n : ℕ) (set : SetId) (empty : Term) (x : ℕ)
    (v : Value) (b : Term) → n ≡ 1
    → reduce_items o items k n set empty x v b ≡ going items k (Body x b)
unfolding going
reduce_one o items k n set empty x v b e = ap (λ m. reduce_items o items k m set empty x v b) e

pub reduce_more : (o : Order) (items : Items) (k n : ℕ) (set : SetId) (empty : Term) (x : ℕ)
    (v : Value) (b : Term) → 2 ≤ n
    → reduce_items o items k n set empty x v b
    ≡ becomes
    (reduced_halves o set (Reduce o (span.Part k (first_half n)) set empty x (term.Value v) b)
    (Reduce o (span.Part (k + first_half n) (rest_half n)) set empty x (term.Value v) b))
reduce_more o items k zero set empty x v b h = absurd (omega arith)
reduce_more o items k (suc zero) set empty x v b h = absurd (omega arith)
reduce_more o items k (suc (suc n)) set empty x v b h = refl

pub ruleset reductions = (reduce_none, reduce_one, reduce_more)
