-- Chapter "Steps and costs": what a generator goes over, as the code has it. These are means to
-- meet the chapter's words.
use Rattle.std.specs.Prelude.{ℕ, Option, Some, None}
use Rattle.fort_core.specs.declared.form.Span.{Span}
use Rattle.fort_core.specs.declared.form.Span.TheVariants as span
use Rattle.fort_machine.specs.Acts.{Act}
use Rattle.fort_machine.specs.Generators as machine
use Rattle.fort_step_deal.specs.declared.deal.Goes.{Goes}
use Rattle.fort_step_deal.specs.Deals.{next_by}
use Rattle.fort_step_bound.specs.declared.items.Items.{Items}
use Rattle.fort_step_bound.specs.declared.items.Items.TheVariants.{Numbers, Elements, Nothing}

-- What a generator goes over.
abbrev pub items_of : Items → machine.Items
items_of (Numbers first count) = machine.numbers_from first count
items_of (Elements base count) = machine.elements_from base.0 count
items_of Nothing = machine.no_items

-- The number of the first item and how many there are: all of them, or those of a part.
abbrev pub place_in : Span → machine.Items → Option (ℕ × ℕ)
place_in (span.Part k n) items = Some (k, n)
place_in span.Whole (machine.numbers_from first count) = Some (0, count)
place_in span.Whole (machine.elements_from base count) = Some (0, count)
place_in span.Whole machine.no_items = None

-- Goes on by the item of a number, as the data say.
unfoldable pub going : machine.Items → ℕ → Goes → Act
going items k g = machine.by_item items k (λ v. next_by g v)
