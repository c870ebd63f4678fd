-- Clauses leave it as it was whether the scope is known.
use Rattle.std.proofs.Common.{◌≡◌, Bool, true, false, cond, List, [], ◌∷◌, Option, Some, None, refl, ap, ◌∙◌, sym}
use Rattle.fort_base.specs.declared.ids.NameId.{NameId}
use Rattle.fort_base.specs.declared.refusal.Place.{Place}
use Rattle.fort_base.specs.declared.ty.Ty.{Ty}
use Rattle.fort_form_typed.specs.declared.typed_form.TypedForm.{TypedForm}
use Rattle.fort_typing_known.specs.Known.{Facts}
use Rattle.fort_typing_meaning.specs.declared.frame.Frame.{Frame}
use Rattle.fort_typing_meaning.specs.declared.frame.Slot.{Slot}
use Rattle.fort_typing_meaning.specs.declared.frame.Slot.TheVariants as a_slot
use Rattle.fort_typing_meaning.specs.declared.frame.Want.{Want}
use Rattle.fort_typing_meaning.specs.declared.frame.Want.TheVariants as a_want
use Rattle.fort_typing_meaning.specs.Tests.{taken}
use Rattle.fort_typing_meaning.specs.Parts.{Judge, Clause, State, said, ask, ask_with, take_part, kept_if, cases, unless_lost, else_with, with_bindings}
use Rattle.fort_typing_rules.specs.Typing.{with_clause}
use Rattle.fort_typing_tasks.specs.Tasks.{on_otherwise}

kept_lost : (slot : Slot) (node_ : Option TypedForm) (w : Frame)
    → (kept_if slot node_ w).lost ≡ w.lost
kept_lost slot None w = refl
kept_lost a_slot.Head (Some t) w = refl
kept_lost a_slot.First (Some t) w = refl
kept_lost a_slot.Second (Some t) w = refl
kept_lost a_slot.Last (Some t) w = refl

module _ (k : Facts) (name : Option (Place × NameId)) where
  with_lost : (ty : Ty) (slot : Slot) (j : Judge) (s : State)
      → (ask_with k name ty slot j s).frame.lost ≡ s.frame.lost
  unfolding ask_with ask take_part said
  with_lost ty slot j s =
      let u = said j (with_bindings (with_clause s.bindings name ty) s)
      in kept_lost slot (taken k a_want.Value j.place u.seen u.found).node s.frame

  cases_lost : (cs : List Clause) (s : State) → (cases k name cs s).frame.lost ≡ s.frame.lost
  unfolding cases
  cases_lost [] s = refl
  cases_lost (c ∷ cs) s =
      cases_lost cs (ask_with k name c.ty a_slot.Second c.value s)
      ∙ with_lost c.ty a_slot.Second c.value s

  -- where the first of two wasn't kept from being asked, the second isn't
  second_known : (f g : State → State) (s : State) (lost : Bool) → s.frame.lost ≡ lost
      → ((t : State) → (f t).frame.lost ≡ t.frame.lost)
      → unless_lost g (unless_lost f s) ≡ unless_lost (λ t. g (f t)) s
  second_known f g s true e h = search e
  second_known f g s false e h = let l : (f s).frame.lost ≡ false = h s ∙ e in search (e, l)

  -- clauses and then an `else`
  pub both_known : (cs : List Clause) (other : Option Judge) (s : State)
      → on_otherwise k name other (unless_lost (cases k name cs) s)
      ≡ unless_lost (λ t. else_with k name other (cases k name cs t)) s
  both_known cs None s = refl
  both_known cs (Some j) s =
      second_known (cases k name cs) (else_with k name (Some j)) s s.frame.lost refl (cases_lost cs)
