-- What comes of two groupings, one behind the other.
use Rattle.std.proofs.Common.{◌≡◌, List, Option, Ok, Err, ap, ◌∙◌, sym}
use Rattle.std.specs.Prelude.{Result, OnOk}
use Rattle.fort_juxt.specs.declared.elements.Grouping.{Grouping}
use Rattle.fort_juxt.specs.declared.elements.Grouping.TheVariants as a_grouping
use Rattle.fort_typing_known.specs.declared.fault.Fault.{Fault}
use Rattle.fort_typing_known.specs.Known.{Facts}
use Rattle.fort_typing_rules.specs.declared.part.Part.{Part}
use Rattle.fort_typing_meaning.specs.declared.frame.Made.{Made}
use Rattle.fort_typing_meaning.specs.Joining.{Grown, as_grown, grows_by, applied, joined}
use Rattle.fort_typing_joined.specs.Taking.{Taken, Takes, takes_two, taking}
use Rattle.fort_typing_joined.proofs.InOrder.{taking_apply, taking_pair}

pub on_ok : {T E P : Type 0} (r : Result T E) → P → OnOk r P
on_ok (Ok x) p = p
on_ok (Err e) p = tt

abbrev a_taken : Grown → List Part → Taken
a_taken g ps = record { grown = g; rest = ps }

both_are : (way : Part → Part → Made) (a b : Takes) (ps qs rs : List Part) (found : Option Fault)
    (p one q other : Grown) → p ≡ (a ps found).grown → qs ≡ (a ps found).rest
    → one ≡ as_grown p → q ≡ (b qs one.found).grown → rs ≡ (b qs one.found).rest
    → other ≡ as_grown q
    → takes_two way a b ps found ≡ record { grown = grows_by way one other; rest = rs }
both_are way a b ps qs rs found p one q other hp hqs ho hq hrs hr =
    let first = a ps found in
    let e : one ≡ as_grown first.grown = ho ∙ ap as_grown hp in
    let second : b qs one.found ≡ b first.rest (as_grown first.grown).found =
    ap (λ (us : List Part). b us one.found) hqs ∙ ap (λ (g : Grown). b first.rest g.found) e in
    let f : other ≡ as_grown (b first.rest (as_grown first.grown).found).grown =
    hr ∙ ap as_grown (hq ∙ ap (λ (t : Taken). t.grown) second) in
    let g : rs ≡ (b first.rest (as_grown first.grown).found).rest =
    hrs ∙ ap (λ (t : Taken). t.rest) second in
    sym (ap (λ (x : Grown). a_taken (grows_by way x other) rs) e
    ∙ ap (λ (x : Grown). a_taken (grows_by way (as_grown first.grown) x) rs) f
    ∙ ap (λ (us : List Part). a_taken
    (grows_by way (as_grown first.grown)
    (as_grown (b first.rest (as_grown first.grown).found).grown)) us) g)

module _ (k : Facts) (g a b : Grouping) (ps qs rs : List Part) (found : Option Fault)
    (p one q other : Grown) where
  pub both_applied : g ≡ a_grouping.Apply a b → p ≡ (taking k a ps found).grown
      → qs ≡ (taking k a ps found).rest → one ≡ as_grown p → q ≡ (taking k b qs one.found).grown
      → rs ≡ (taking k b qs one.found).rest → other ≡ as_grown q
      → taking k g ps found ≡ record { grown = grows_by (applied k) one other; rest = rs }
  both_applied i hp hqs ho hq hrs hr =
      ap (λ (h : Grouping). taking k h ps found) i
      ∙ ap (λ (t : Takes). t ps found) (taking_apply k a b)
      ∙ both_are (applied k) (taking k a) (taking k b) ps qs rs found p one q other hp hqs ho hq hrs
      hr

  pub both_joined : g ≡ a_grouping.Pair a b → p ≡ (taking k a ps found).grown
      → qs ≡ (taking k a ps found).rest → one ≡ as_grown p → q ≡ (taking k b qs one.found).grown
      → rs ≡ (taking k b qs one.found).rest → other ≡ as_grown q
      → taking k g ps found ≡ record { grown = grows_by (joined k) one other; rest = rs }
  both_joined i hp hqs ho hq hrs hr =
      ap (λ (h : Grouping). taking k h ps found) i
      ∙ ap (λ (t : Takes). t ps found) (taking_pair k a b)
      ∙ both_are (joined k) (taking k a) (taking k b) ps qs rs found p one q other hp hqs ho hq hrs
      hr
