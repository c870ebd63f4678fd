-- Chapter "Steps and costs": where a form's location is, as the code finds it. These are means to
-- meet the chapter's words.
use Rattle.std.specs.Prelude.{ℕ, ◌+◌, ◌==◌, ℤ, pos, negsuc, List, [], ◌∷◌, Option, Some, None, if◌then◌else◌}
use Rattle.fort_base.specs.declared.ids.Loc.{Loc}
use Rattle.fort_base.specs.declared.ids.NameId.{NameId}
use Rattle.fort_core.specs.declared.program.CoreField.{CoreField}
use Rattle.fort_core.specs.declared.program.Program.{Program}
use Rattle.fort_machine.specs.Acts.{Act, stuck, throwing}
use Rattle.fort_step_forms.specs.declared.arrays.Element.{Element}
use Rattle.fort_step_forms.specs.declared.arrays.Element.TheVariants.{At, Outside, Nowhere}

-- A number that isn't below 0.
abbrev pub natural_of : ℤ → Option ℕ
natural_of (pos n) = Some n
natural_of (negsuc n) = None

-- The number of a location, where there is one.
abbrev pub number_of : Option Loc → Option ℕ
number_of None = None
number_of (Some l) = Some l.0

-- What a form does by an array's element: it goes on by its location, throws, or has no step.
abbrev pub element_act : Program → Element → (Option ℕ → Act) → Act
element_act p (At l) f = f (Some l.0)
element_act p Outside f = throwing p p.built_in.index_out_of_range
element_act p Nowhere f = stuck

-- The place of a field among those of its type, counted from a number on.
abbrev pub place_from : NameId → List CoreField → ℕ → Option ℕ
place_from f [] n = None
place_from f (c ∷ cs) n = if c.name.0 == f.0 then Some n else place_from f cs (n + 1)
