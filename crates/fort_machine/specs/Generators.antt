-- Chapter "Steps and costs": generators and reductions, and how they are divided. The code keeps
-- what is left of a generator as two numbers, as the terms here do.
use Rattle.std.specs.Prelude.{ℕ, zero, suc, ◌+◌, ◌/◌, [], ◌∷◌, ℤ, pos, ◌+ℤ◌}
use Rattle.fort_base.specs.declared.ids.SetId.{SetId}
use Rattle.fort_core.specs.declared.form.Order.{Order}
use Rattle.fort_core.specs.declared.form.Order.TheVariants as order
use Rattle.fort_core.specs.declared.form.Span.{Span}
use Rattle.fort_core.specs.declared.form.Span.TheVariants as span
use Rattle.fort_core.specs.declared.term.Term.{Term, Operator, Then, For, ForHalves, Reduce, ReduceHalves}
use Rattle.fort_core.specs.declared.term.Term as term
use Rattle.fort_core.specs.declared.term.Term.TheOpen.{Value-F}
use Rattle.fort_core.specs.declared.value.Closure.{Closure}
use Rattle.fort_core.specs.declared.value.Value.{Value, Small, out-Value}
use Rattle.fort_machine.specs.Substitution.{substituted}
use Rattle.fort_machine.specs.Acts.{Act, stuck, asks, becomes, unit}

-- What a generator goes over: consecutive numbers, or the elements of an array, which stand at
-- consecutive locations.
pub data Items : Type 0 where
  numbers_from : (first : ℤ) (count : ℕ) → Items
  elements_from : (base count : ℕ) → Items
  no_items : Items

-- The items of a range or an array.
abbrev pub items_at : Value-F Term Value Closure → Items
items_at (Value-F.Range first count) = numbers_from first count
items_at (Value-F.Array element base size) = elements_from base.0 size
items_at _ = no_items

-- Goes on by the item of a number: a number is known, an element is read.
abbrev pub by_item : Items → ℕ → (Value → Term) → Act
by_item (numbers_from first count) k next = becomes (next (Small (first +ℤ pos k)))
by_item (elements_from base count) k next = asks (base + k) next
by_item no_items k next = stuck

-- The first half of a count, rounded up, and the rest.
abbrev pub first_half : ℕ → ℕ
first_half n = (n + 1) / 2

-- What the first half leaves of a count.
abbrev pub rest_half : ℕ → ℕ
rest_half n = n / 2

-- A `for` over items from a number on, by how many there are: none, one, more; in `seq` one after
-- the other.
abbrev pub for_items : Order → Items → ℕ → ℕ → ℕ → Value → Term → Act
for_items o items k zero x source body = becomes (term.Value unit)
for_items order.Seq items k (suc n) x source body =
    by_item items k
    (λ item. Then (substituted x item body)
    (For order.Seq (span.Part (k + 1) n) x (term.Value source) body))
for_items order.Parallel items k (suc zero) x source body =
    by_item items k (λ item. substituted x item body)
for_items order.Parallel items k (suc (suc n)) x source body =
    let h = first_half (suc (suc n)) in
    becomes (ForHalves (For order.Parallel (span.Part k h) x (term.Value source) body)
    (For order.Parallel (span.Part (k + h) (rest_half (suc (suc n)))) x (term.Value source) body))

-- Both halves of a reduction: a parallel node, or in `seq` the operands of its operator.
abbrev pub reduced_halves : Order → SetId → Term → Term → Term
reduced_halves order.Parallel set a b = ReduceHalves set a b
reduced_halves order.Seq set a b = Operator set (a ∷ b ∷ [])

-- A reduction over items from a number on, by how many there are: none, one, more.
abbrev pub reduce_items : Order → Items → ℕ → ℕ → SetId → Term → ℕ → Value → Term → Act
reduce_items o items k zero set empty x source body = becomes empty
reduce_items o items k (suc zero) set empty x source body =
    by_item items k (λ item. substituted x item body)
reduce_items o items k (suc (suc n)) set empty x source body =
    let h = first_half (suc (suc n)) in
    becomes (reduced_halves o set (Reduce o (span.Part k h) set empty x (term.Value source) body)
    (Reduce o (span.Part (k + h) (rest_half (suc (suc n)))) set empty x (term.Value source) body))

-- Goes on by the number of the first item and by how many there are: all of them, or those of a
-- part.
abbrev pub spanned : Span → Items → (ℕ → ℕ → Act) → Act
spanned (span.Part k n) items f = f k n
spanned span.Whole (numbers_from first count) f = f 0 count
spanned span.Whole (elements_from base count) f = f 0 count
spanned span.Whole no_items f = stuck

-- A `for` whose source is a value.
abbrev pub generating : Order → Span → ℕ → Value → Term → Act
generating o s x source body =
    let items = items_at (out-Value source)
    in spanned s items (λ k n. for_items o items k n x source body)

-- A reduction whose source is a value.
abbrev pub reducing : Order → Span → SetId → Term → ℕ → Value → Term → Act
reducing o s set empty x source body =
    let items = items_at (out-Value source)
    in spanned s items (λ k n. reduce_items o items k n set empty x source body)
