-- Which forms sleep, and what they watch.
use Rattle.std.proofs.Common.{◌≡◌, Bool, true, false, None, Some, refl, ap, sym, ◌∙◌, subst}
use Rattle.std.specs.Prelude.{◌↔◌, IsTrue}
use Rattle.fort_core.specs.declared.form.Mode.{Mode}
use Rattle.fort_core.specs.declared.form.Mode.TheVariants as mode
use Rattle.fort_core.specs.declared.term.Term.{Term, Asleep, Atomic, out-Term}
use Rattle.fort_core.specs.declared.term.Term.TheOpen.{Term-F}
use Rattle.fort_core.specs.declared.term.Term.TheVariants.{outs-Asleep, outs-Atomic}
use Rattle.fort_machine.specs.Attempts.{Form, fresh, slept}
use Rattle.fort_machine.specs.Effects.{Store}
use Rattle.fort_machine.specs.Marked.{Marks}
use Rattle.fort_hall_books.specs.Legs.{AllThere, Watches}
use Rattle.fort_hall_forms.specs.Sought.{HasSleepless, IsSleepless}

-- a form before an attempt never sleeps
pub fresh_wakes : (a : Term) (m : Mode) (body : Term) → a ≡ Atomic m body → Watches None a
fresh_wakes a m body e s h =
    let z : Term-F.Atomic m body ≡ Term-F.Asleep h.marks h.body =
    sym (outs-Atomic m body) ∙ ap out-Term (sym e ∙ h.is_asleep) ∙ outs-Asleep h.marks h.body in cc

same_marks : (ms ns : Marks) (b d : Term) → Asleep ms b ≡ Asleep ns d → ms ≡ ns
same_marks ms ns b d e =
    let z : Term-F.Asleep ms b ≡ Term-F.Asleep ns d =
    sym (outs-Asleep ms b) ∙ ap out-Term e ∙ outs-Asleep ns d in cc

-- one that slept watches its marks
pub marks_watch : (a : Term) (ms : Marks) (body : Term) → a ≡ Asleep ms body
    → Watches (Some ms) a
marks_watch a ms body e s = (
  λ h. subst (AllThere s) (same_marks h.marks ms h.body body (sym h.is_asleep ∙ e)) h.unchanged,
  λ h. record { marks = ms; body = body; is_asleep = e; unchanged = h },
)

-- ---- what a form is

pub is_fresh : (a : Term) (s : Store) (m : Mode) (body b : Term) → a ≡ Atomic m body → b ≡ body
    → IsSleepless a s (record { mode = m; body = b; watched = None })
is_fresh a s m body b e same = record {
  is_form = fresh (e ∙ ap (Atomic m) (sym same));
  watched = fresh_wakes a m body e;
  awake = fresh_wakes a m body e s;
}

-- where a mark hasn't its value the form doesn't sleep
pub is_slept : (a : Term) (s : Store) (ms ns : Marks) (body b : Term) (there : Bool)
    → a ≡ Asleep ms body → b ≡ body → ns ≡ ms → IsTrue there ↔ AllThere s ms → there ≡ false
    → IsSleepless a s (record { mode = mode.Atomic; body = b; watched = Some ns })
is_slept a s ms ns body b there e same marks k isnt = record {
  is_form = slept ms refl (e ∙ ap (Asleep ms) (sym same));
  watched = subst (λ xs. Watches (Some xs) a) (sym marks) (marks_watch a ms body e);
  awake = λ h. let z : true ≡ false = sym (k.1 ((marks_watch a ms body e s).0 h)) ∙ isnt in cc;
}

-- where each has its value it sleeps
pub still_sleeps : (a : Term) (s : Store) (ms : Marks) (body : Term) (there : Bool)
    → a ≡ Asleep ms body → IsTrue there ↔ AllThere s ms → there ≡ true → HasSleepless a s None
still_sleeps a s ms body there e k is m b f =
    record { marks = ms; body = body; is_asleep = e; unchanged = k.0 is }

-- another term is no atomic form
no_form : (a : Term) (m : Mode) (body : Term) → ((k : Mode) (b : Term) → a ≡ Atomic k b → ⊥)
    → ((ms : Marks) (b : Term) → a ≡ Asleep ms b → ⊥) → Form a m body → ⊥
no_form a m body f g (fresh e) = f m body e
no_form a m body f g (slept ms q e) = g ms body e

pub not_atomic : (a : Term) (s : Store) → ((k : Mode) (b : Term) → a ≡ Atomic k b → ⊥)
    → ((ms : Marks) (b : Term) → a ≡ Asleep ms b → ⊥) → HasSleepless a s None
not_atomic a s f g m b h = absurd (no_form a m b f g h)
