-- What a thread's form does, as a step of a leg.
use Rattle.std.proofs.Common.{◌≡◌, ◌≢◌, ℕ, ◌+◌, ◌<◌, ◌≤◌, ◌^◌, ◌==◌, Bool, true, false, not, List, length, Option, Some, None, refl, ap, sym, ◌∙◌, subst, arith, rules}
use Rattle.std.specs.Prelude.{IsSome, IsTrue, is_some}
use Rattle.std.specs.Borrow.{Bor}
use Rattle.std.specs.Option.{option_copied}
use Rattle.fort_core.specs.declared.program.Program.{Program}
use Rattle.fort_core.specs.declared.term.Term.{Term}
use Rattle.fort_core.specs.declared.value.Value.{Value}
use Rattle.fort_machine.specs.Effects.{Store, afterwards, both, making}
use Rattle.fort_machine.specs.Steps.{or_unit}
use Rattle.fort_step_deal.specs.declared.deal.Deal.{Deal}
use Rattle.fort_step_deal.specs.declared.deal.Deal.TheVariants as deal
use Rattle.fort_step_deal.specs.declared.deal.Makes.{Makes}
use Rattle.fort_step_deal.specs.Deals.{making_cost, made_by, new_values}
use Rattle.fort_store_effects.specs.Calls.{AreFree}
use Rattle.fort_store_effects.specs.Levels.{effect_of}
use Rattle.fort_store_effects.specs.declared.layer.Layer.{Layer}
use Rattle.fort_frames.specs.declared.place.Place.{Place}
use Rattle.fort_walk_stretch.specs.Stretches.{AreLeft, HasNumbers, HasRoom, IsOn, IsPicked, MayTake, price}
use Rattle.fort_walk_stretch.specs.declared.leg.Room.{Room}
use Rattle.fort_walk_stretch.specs.declared.stretch.Stretch.{Stretch}
use Rattle.fort_walk_stretch.proofs.Taking.{Adds, makes_adds, takes}

-- ---- whether there is room

-- there is room where the cost is afforded, and the numbers are left
pub room_is : (s : Store) (room : Room) (x : Stretch) (d : Deal) (cost : ℕ) (b : Bool)
    → (IsTrue b → (effect_of x.done).cost + cost ≤ room.cost) → cost ≡ price d → b ≡ true
    → HasNumbers (afterwards (effect_of x.done) s) x.fresh room.until d → HasRoom s room x d
room_is s room x d cost b covers is_price is_true numbers = record {
  affords = subst (λ n. (effect_of x.done).cost + n ≤ room.cost) is_price (covers is_true);
  numbers = numbers;
}

-- the numbers for new locations are left
pub made_numbers : (s : Store) (fresh until : ℕ) (d : Deal) (m : Makes) (count : ℕ) (b : Bool)
    → d ≡ deal.Makes m → count ≡ length (or_unit (new_values m))
    → (IsTrue b → AreLeft s fresh count until) → not b ≡ false → HasNumbers s fresh until d
made_numbers s fresh until d m count true is is_count h has =
    subst (HasNumbers s fresh until) (sym is)
    (subst (λ n. AreLeft s fresh n until) is_count (h refl))
made_numbers s fresh until d m count false is is_count h has =
    let z : true ≡ false = has in absurd cc

-- none of no numbers is a location's
pub none_there : (l : ℕ) (s : Store) → AreFree l 0 s
none_there l s n low = absurd (omega (arith, low))

-- one number more is none's
pub one_free : (l count : ℕ) (s : Store) → AreFree l count s → s (l + count) ≡ None
    → AreFree l (count + 1) s
one_free l count s h k n low = go (n == count) refl
  where
    go : (b : Bool) → (n == count) ≡ b → s (l + n) ≡ None
    go true q = let same : n ≡ count = search (rules, q)
        in subst (λ i. s (l + i) ≡ None) (sym same) k
    go false q = let apart : n ≢ count = search (rules, q) in h n (omega (arith, low, apart))

-- the numbers up to one that isn't below the last
pub all_free : (l done count : ℕ) (s : Store) → AreFree l done s → (done < count → ⊥)
    → AreFree l count s
all_free l done count s h past n low = h n (omega (arith, low, past))

-- no numbers are asked for where nothing is made
pub no_numbers : (s : Store) (fresh until : ℕ) (d : Deal) → ((m : Makes) → d ≡ deal.Makes m → ⊥)
    → HasNumbers s fresh until d
no_numbers s fresh until deal.Stuck h = tt
no_numbers s fresh until (deal.Turns next output cost) h = tt
no_numbers s fresh until (deal.Enters body next) h = tt
no_numbers s fresh until (deal.Asks l g) h = tt
no_numbers s fresh until (deal.Sets l v) h = tt
no_numbers s fresh until (deal.Makes m) h = absurd (h m refl)
no_numbers s fresh until (deal.Calls set vs) h = tt
no_numbers s fresh until deal.Ends h = tt

-- ---- the room of a deal

pub afforded : (s : Store) (room : Room) (x : Stretch) (d e : Deal) → d ≡ e → HasRoom s room x d
    → (effect_of x.done).cost + price e ≤ room.cost
afforded s room x d e is h = subst (λ y. (effect_of x.done).cost + price y ≤ room.cost) is h.affords

pub numbered : (s : Store) (room : Room) (x : Stretch) (d e : Deal) → d ≡ e → HasRoom s room x d
    → HasNumbers (afterwards (effect_of x.done) s) x.fresh room.until e
numbered s room x d e is h =
    subst (HasNumbers (afterwards (effect_of x.done) s) x.fresh room.until) is h.numbers

-- ---- past a step, and on by it

-- the same form, told otherwise
pub same_on : (p : Program) (inner : Bool) (s : Store) (room : Room) (x : Stretch) (place : Place)
    (a b : Term) → b ≡ a → IsOn p inner s room x place a → IsOn p inner s room x place b
same_on p inner s room x place a b is h = subst (IsOn p inner s room x place) (sym is) h

-- a location is there
pub some_seen : (o : Option (Bor Value)) (s : Option Value) (b : Bool) → option_copied o ≡ s
    → is_some o ≡ not b → b ≡ false → IsSome s
some_seen None s b e k t = let z : false ≡ true = k ∙ ap not t in absurd cc
some_seen (Some v) s b e k t = subst IsSome e refl

-- new locations are made
pub makes_takes : (p : Program) (inner : Bool) (s : Store) (room : Room) (x y : Stretch)
    (place : Place) (m : Makes) (next : Term) (vs : List Value) (cost count : ℕ) (done : Layer)
    → MayTake p inner s room x place x.fresh (made_by m x.fresh)
    (making x.fresh (or_unit (new_values m)) (making_cost m))
    → (effect_of x.done).cost + making_cost m ≤ room.cost
    → x.fresh + length (or_unit (new_values m)) ≤ 2 ^ 64
    → AreFree x.fresh (length (or_unit (new_values m))) (afterwards (effect_of x.done) s)
    → cost ≡ making_cost m → count ≡ length (or_unit (new_values m))
    → vs ≡ or_unit (new_values m) → next ≡ made_by m x.fresh
    → effect_of done ≡ both (effect_of x.done) (making x.fresh vs cost)
    → IsPicked (record x { done = done; fresh = x.fresh + count }) place x.fresh y
    → IsOn p inner s room y place next × (y.first ≡ x.first)
makes_takes p inner s room x y place m next vs cost count done may affords bound free is_cost
    is_count values is_next did picked =
    let us = or_unit (new_values m) in
    let b = made_by m x.fresh in
    let e = making x.fresh us (making_cost m) in
    let mid = record x { done = done; fresh = x.fresh + count } in
    let all : effect_of done ≡ both (effect_of x.done) e =
    subst (λ n. effect_of done ≡ both (effect_of x.done) (making x.fresh us n)) is_cost
    (subst (λ ws. effect_of done ≡ both (effect_of x.done) (making x.fresh ws cost)) values did) in
    let adds : Adds room x s (x.fresh + count) e =
    subst (λ n. Adds room x s (x.fresh + n) e) (sym is_count)
    (makes_adds room x s us (making_cost m) free bound affords) in
    let h = takes p inner s room x mid y place x.fresh b e may adds all refl refl refl picked in
    (same_on p inner s room y place b next is_next h.0, h.1)
