-- The sides of a chain.
use Rattle.std.proofs.Common.{◌≡◌, ℕ, ◌+◌, List, [], ◌∷◌, ◌++◌, refl, sym, ap, ◌∙◌}
use Rattle.fort_base.specs.declared.ids.SetId.{SetId}
use Rattle.fort_base.specs.declared.ty.Ty.{Ty}
use Rattle.fort_form_typed.specs.declared.typed_form.Chosen.{Chosen}
use Rattle.fort_form_typed.specs.declared.typed_form.TypedForm.{TypedForm}
use Rattle.fort_elab_meaning.specs.Making.{letting}
use Rattle.fort_elab_meaning.specs.Parts.{Given}
use Rattle.fort_elab_meaning.specs.Calls.{sides}
use Rattle.fort_elab_meaning.specs.Translated.{translated, type_of}
use Rattle.fort_elab_tasks.specs.declared.state.State.{State}
use Rattle.fort_elab_tasks.specs.States.{by_number, latest, next, numbered, on_two, said}
use Rattle.fort_elab_tasks.specs.Builds.{local}
use Rattle.fort_elab_tasks.specs.Forms.{see}
use Rattle.fort_elab_tasks.specs.Tasks.{parts}
use Rattle.fort_elab_tasks.proofs.Done.{more_latest, part_type}

-- a side is a local, and the others have one side more before them
pub next_side : (g : Given) (set : SetId) (cs : List Chosen) (k : ℕ) (f : TypedForm)
    (fs : List TypedForm) (s : State)
    → by_number (λ n. on_two (local n (type_of f)))
    (said (sides g set cs (parts g fs) (latest (k + 1) (numbered (see g f s)).numbers))
    (numbered (see g f s)))
    ≡ said (sides g set cs (parts g (f ∷ fs)) (latest k s.numbers)) s
next_side g set cs k f fs s = let n = next (see g f s) in
    ap (λ (ns : List ℕ). by_number (λ m. on_two (local m (type_of f)))
    (said (sides g set cs (parts g fs) ns) (numbered (see g f s))))
    (more_latest k n s.numbers)
    ∙ ap (λ (ty : Ty). said
    (letting ty (translated g f)
    (λ m. sides g set cs (parts g fs) (latest k s.numbers ++ m ∷ []))) s) (sym (part_type g f))
