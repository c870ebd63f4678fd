-- The chapter "Typing", reductions: one part alone.
use Rattle.std.specs.Prelude.{List, [], ◌∷◌, Option, Some, None}
use Rattle.fort_form_typed.specs.declared.typed_form.TypedForm.{TypedForm}

-- the one of some parts, where there is one alone
abbrev pub one : List TypedForm → Option TypedForm
one (t ∷ []) = Some t
one _ = None
