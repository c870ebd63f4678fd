-- What leaves the prelude's own names alone does so still, where more locations are open.
use Rattle.std.proofs.Common.{◌+◌}
use Rattle.fort_core.specs.declared.form.Slot.{Slot}
use Rattle.fort_core.specs.declared.form.Slot.TheVariants as slot
use Rattle.fort_core.specs.declared.program.Program.{Program}
use Rattle.fort_core.specs.declared.term.Term.{Term, out-Term}
use Rattle.fort_core.specs.declared.term.Term.TheOpen.{Term-F, Value-F}
use Rattle.fort_core.specs.declared.value.Closure.{Closure}
use Rattle.fort_core.specs.declared.value.Value.{Value, out-Value}
use Rattle.std.specs.Prelude.{List}
use Rattle.fort_threads_law_servers.specs.Prelude.{Names}
use Rattle.fort_threads_law_servers.specs.Roots.{Start}
use Rattle.fort_threads_law_private.specs.Grounds.{Ground, Grows}
use Rattle.fort_threads_law_private.specs.Private.{SlotIsOpen, KeepsOff, LeadsToOpen, Private, private, AllPrivate, no_terms, one_more, PrivateValue, private_value, AllPrivateValues, no_values, one_more_value}

-- grounds
pub grows_itself : (g : Ground) → Grows g g
grows_itself g = record { stay_open = λ l o. o; stay = λ l f e. e }

pub grows_on : {g h i : Ground} → Grows g h → Grows h i → Grows g i
grows_on j k = record {
  stay_open = λ l o. k.stay_open l (j.stay_open l o);
  stay = λ l f e. k.stay l f (j.stay l f e);
}

module _ (p : Program) (n : Names) (m : Start) (g h : Ground) (k : Grows g h) where
  slot_grows : (x : Slot) → SlotIsOpen g x → SlotIsOpen h x
  slot_grows (slot.Location l) o = k.stay_open l.0 o
  slot_grows (slot.Variable x) o = tt

  keeps_grow : (y : Term-F Term Value Closure) → KeepsOff n m g y → KeepsOff n m h y
  keeps_grow (Term-F.Read x) o = slot_grows x o
  keeps_grow (Term-F.Write x a) o = slot_grows x o
  keeps_grow (Term-F.Asleep marks a) o = λ l v i. k.stay_open l (o l v i)
  keeps_grow form o = o

  leads_grow : (y : Value-F Term Value Closure) → LeadsToOpen p n g y → LeadsToOpen p n h y
  leads_grow (Value-F.Object id base) o = (
    λ f l s e. k.stay_open l (o.0 f l s e),
    λ e. let i = o.1 e in (i.0, k.stay base.0 i.0 i.1),
  )
  leads_grow (Value-F.Array element base size) o = λ i q. k.stay_open (base.0 + i) (o i q)
  leads_grow kind o = o

  mutual
    grows_private : {t : Term} → Private p n m g t → Private p n m h t
    grows_private {t} (private o ts vs) =
        private (keeps_grow (out-Term t) o) (grow_all ts) (grow_values vs)

    grow_all : {ts : List Term} → AllPrivate p n m g ts → AllPrivate p n m h ts
    grow_all no_terms = no_terms
    grow_all (one_more a rest) = one_more (grows_private a) (grow_all rest)

    grow_value : {v : Value} → PrivateValue p n m g v → PrivateValue p n m h v
    grow_value {v} (private_value o ts vs) =
        private_value (leads_grow (out-Value v) o) (grow_all ts) (grow_values vs)

    grow_values : {vs : List Value} → AllPrivateValues p n m g vs → AllPrivateValues p n m h vs
    grow_values no_values = no_values
    grow_values (one_more_value a rest) = one_more_value (grow_value a) (grow_values rest)

-- terms and values, and lists of them
module _ {p : Program} {n : Names} {m : Start} {g h : Ground} where
  pub private_grows : {t : Term} → Private p n m g t → Grows g h → Private p n m h t
  private_grows a k = grows_private p n m g h k a

  pub all_grow : {ts : List Term} → AllPrivate p n m g ts → Grows g h → AllPrivate p n m h ts
  all_grow a k = grow_all p n m g h k a

  pub value_grows : {v : Value} → PrivateValue p n m g v → Grows g h → PrivateValue p n m h v
  value_grows a k = grow_value p n m g h k a

  pub values_grow : {vs : List Value} → AllPrivateValues p n m g vs → Grows g h
      → AllPrivateValues p n m h vs
  values_grow a k = grow_values p n m g h k a
