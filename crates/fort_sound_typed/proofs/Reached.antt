-- What holds wherever the machines of an accepted program come to.
use Rattle.std.proofs.Common.{◌≡◌, ℕ, ◌+◌, ◌≤◌, ◌==◌, Bool, if◌then◌else◌, List, [], ◌∷◌, Some, None, arith, refl, ap, sym, ◌∙◌, subst}
use Rattle.fort_base.specs.declared.ids.Loc.{Loc}
use Rattle.fort_base.specs.declared.ty.Ty.{Ty}
use Rattle.fort_core.specs.declared.program.Program.{Program}
use Rattle.fort_core.specs.declared.term.Term.{Term}
use Rattle.fort_core.specs.declared.value.Value.{Value}
use Rattle.fort_machine.specs.Effects.{Store}
use Rattle.fort_machine.specs.Journals.{value_in}
use Rattle.fort_machine.specs.Proper.{Reached, at_first, by_run, in_attempt}
use Rattle.fort_machine.proofs.Places.{ready_open}
use Rattle.fort_machine.proofs.Ready.{form_ready}
use Rattle.fort_sound_typed.specs.Envs.{none}
use Rattle.fort_sound_typed.specs.Typing.{unit_type, Has}
use Rattle.fort_sound_typed.specs.Sound.{opening, StoreOk, Typed}
use Rattle.fort_sound_typed.proofs.Facts.{Facts}
use Rattle.fort_sound_typed.specs.Goes.{Finite}
use Rattle.fort_sound_typed.proofs.Bind.{Tells, alike, apart, tells}
use Rattle.fort_sound_typed.proofs.Frames.{plug_has}
use Rattle.fort_sound_typed.proofs.Runs.{form_has, keeps}
use Rattle.fort_sound_typed.proofs.Finite.{runs_finite}

pub reached_typed : (k : Program) → Facts k → {inner : Bool} {s : Store} {t : Term}
    → Reached k inner s t → (T : Ty) × Typed k t s T
reached_typed k o (at_first a b c) = (
  unit_type,
  record {
    types = opening k;
    store = subst (StoreOk k (opening k)) (sym b) o.opened;
    term = subst (λ u. Has k (opening k) none u unit_type) (sym c) o.first;
  },
)
reached_typed k o (by_run {t' = t'} r w e) =
    let h = reached_typed k o r
    in (h.0, subst (λ x. Typed k t' x h.0) (sym e) (keeps k o h.0 h.1 w))
reached_typed k o (in_attempt {a = a} {body = body} {m = m} fs r c form n) =
    let h = reached_typed k o r in
    let p = plug_has k o.transitive o.reflexive h.1.types none fs a h.0
    (ready_open a (form_ready a m body form))
    (subst (λ u. Has k h.1.types none u h.0) c h.1.term) in (
      p.type,
      record {
        types = h.1.types;
        store = h.1.store;
        term = form_has k o h.1.types a body m p.type form p.part;
      },
    )

-- the opening store is finite
list_finite : (es : List (Loc × Value)) → Finite (value_in es)
list_finite [] = (0, λ l h. refl)
list_finite (e ∷ es) =
    let i = list_finite es
    in (e.0.0 + i.0 + 1, λ l h. go l i.0 h (i.1 l (omega arith)) (tells e.0.0 l))
  where
    go : (l n : ℕ) → e.0.0 + n + 1 ≤ l → value_in es l ≡ None → Tells e.0.0 l
        → (if e.0.0 == l then Some e.1 else value_in es l) ≡ None
    go l n h i (alike q b) = absurd (omega (arith, q, h))
    go l n h i (apart b c) = ap (λ x. if x then Some e.1 else value_in es l) b ∙ i

pub reached_finite : (k : Program) → {inner : Bool} {s : Store} {t : Term} → Reached k inner s t
    → Finite s
reached_finite k (at_first a b c) = subst Finite (sym b) (list_finite k.opening)
reached_finite k (by_run r w e) = subst Finite (sym e) (runs_finite (reached_finite k r) w)
reached_finite k (in_attempt fs r c form n) = reached_finite k r
