-- What the next rewriting of a run comes to, by what it is; and what comes of the two elements that
-- it takes.
use Rattle.std.proofs.Common.{◌≡◌, ◌≢◌, ℕ, zero, suc, ◌-◌, List, Option, Some, None, Ok, Err, refl, arith, ap, ◌∙◌, sym}
use Rattle.fort_base.specs.declared.refusal.CheckFault.TheVariants as a_fault
use Rattle.fort_base.specs.declared.refusal.Place.{Place}
use Rattle.fort_base.specs.declared.refusal.Rule.{Rule}
use Rattle.fort_juxt.specs.declared.elements.Tight.TheVariants as a_rewriting
use Rattle.fort_typing_known.specs.declared.fault.Fault.{Fault}
use Rattle.fort_typing_known.specs.Known.{Facts}
use Rattle.fort_typing_rules.specs.declared.part.Part.{Part}
use Rattle.fort_typing_rules.specs.Elements.{elements}
use Rattle.fort_typing_meaning.specs.declared.frame.Made.{Made}
use Rattle.fort_typing_meaning.specs.Faults.{breaks}
use Rattle.fort_typing_meaning.specs.Juxtaposing.{next_rewriting}
use Rattle.fort_typing_meaning.specs.Joining.{Around, stop, around, replaced, replaced_in, rewritten_by, rewritten}
use Rattle.fort_typing_joined.specs.declared.way.Way.TheVariants as a_way
use Rattle.fort_typing_joined.specs.Ways.{put_together}

-- ---- the next rewriting

pub is_applied : (k : Facts) (ps : List Part) (n : ℕ) (found : Option Fault)
    → next_rewriting (elements ps) ≡ Ok (a_rewriting.Apply n)
    → rewritten k ps found ≡ replaced_in (put_together k a_way.Apply) (around n ps) found
unfolding rewritten
is_applied k ps n found e = ap (λ r. rewritten_by k ps r found) e

by_postfix : (k : Facts) (ps : List Part) (n : ℕ) (found : Option Fault) → n ≢ 0
    → rewritten_by k ps (Ok (a_rewriting.Postfix n)) found
    ≡ replaced_in (put_together k a_way.Follow) (around (n - 1) ps) found
by_postfix k ps zero found h = absurd (h refl)
by_postfix k ps (suc n) found h =
    let e : suc n - 1 ≡ n = omega arith
    in ap (λ (m : ℕ). replaced_in (put_together k a_way.Follow) (around m ps) found) (sym e)

pub is_followed : (k : Facts) (ps : List Part) (n : ℕ) (found : Option Fault)
    → next_rewriting (elements ps) ≡ Ok (a_rewriting.Postfix n) → n ≢ 0
    → rewritten k ps found ≡ replaced_in (put_together k a_way.Follow) (around (n - 1) ps) found
unfolding rewritten
is_followed k ps n found e h = ap (λ r. rewritten_by k ps r found) e ∙ by_postfix k ps n found h

pub nothing_followed : (k : Facts) (ps : List Part) (n : ℕ) (found : Option Fault)
    → next_rewriting (elements ps) ≡ Ok (a_rewriting.Postfix n) → n ≡ 0
    → rewritten k ps found ≡ stop found
unfolding rewritten
nothing_followed k ps n found e h =
    ap (λ r. rewritten_by k ps r found) e ∙ ap (λ
    (m : ℕ). rewritten_by k ps (Ok (a_rewriting.Postfix m)) found) h

pub is_joined : (k : Facts) (ps : List Part) (found : Option Fault)
    → next_rewriting (elements ps) ≡ Ok a_rewriting.Left
    → rewritten k ps found ≡ replaced_in (put_together k a_way.Join) (around 0 ps) found
unfolding rewritten
is_joined k ps found e = ap (λ r. rewritten_by k ps r found) e

pub is_left : (k : Facts) (ps : List Part) (found : Option Fault)
    → next_rewriting (elements ps) ≡ Ok a_rewriting.Whole → rewritten k ps found ≡ stop found
unfolding rewritten
is_left k ps found e = ap (λ r. rewritten_by k ps r found) e

pub is_refused : (k : Facts) (ps : List Part) (rule : Rule) (place : Place) (found : Option Fault)
    → next_rewriting (elements ps) ≡ Err (a_fault.Refused rule place)
    → rewritten k ps found ≡ stop (breaks rule place found)
unfolding rewritten
is_refused k ps rule place found e = ap (λ r. rewritten_by k ps r found) e

pub is_lost : (k : Facts) (ps : List Part) (found : Option Fault)
    → next_rewriting (elements ps) ≡ Err a_fault.Memory → rewritten k ps found ≡ stop found
unfolding rewritten
is_lost k ps found e = ap (λ r. rewritten_by k ps r found) e

-- ---- the two elements

pub none_there : (way : Part → Part → Made) (n : ℕ) (ps : List Part) (found : Option Fault)
    → None ≡ around n ps → replaced_in way (around n ps) found ≡ stop found
none_there way n ps found e = ap (λ (a : Option Around). replaced_in way a found) (sym e)

pub two_there : (way : Part → Part → Made) (n : ℕ) (ps before after : List Part) (one other : Part)
    (found : Option Fault)
    → Some (record { before = before; one = one; other = other; after = after }) ≡ around n ps
    → replaced_in way (around n ps) found ≡ replaced before one.place after (way one other) found
two_there way n ps before after one other found e =
    ap (λ (a : Option Around). replaced_in way a found) (sym e)
