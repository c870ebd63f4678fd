-- The chapter "Typing", forms: the figures of a component's forms, from its tokens and the
-- groupings of its flat expressions.
use Rattle.std.specs.List.{AllByRecursion}
use Rattle.fort_lex_token.specs.declared.token.Tokens.{Tokens}
use Rattle.fort_tree.specs.declared.declarations.Component.{Component}
use Rattle.fort_tree.specs.declared.grouped.Groups.{Groups}
use Rattle.fort_tree.specs.Component.{HasTree}
use Rattle.fort_tree.specs.Limits.{flats}
use Rattle.fort_group.specs.Components.{HasGroups}
use Rattle.fort_lex_law_tokens.specs.Numerals.{Fits}
use Rattle.fort_form.specs.declared.component.BodyForm.{BodyForm}
use Rattle.fort_form.specs.declared.component.InitialForm.{InitialForm}
use Rattle.fort_form_walk.specs.FormsOf.{forms_of}
use Rattle.fort_sound_forms.specs.Figures.{HasFigures}

-- Where tokens are a component's, each number among them is a ZZ64, and its flat expressions have
-- these groupings: the figures of each initial and of each body are as the grammar has them.
abbrev pub FormsHaveFigures : Type 0
FormsHaveFigures = (tokens : Tokens) (c : Component) (groups : Groups) → HasTree tokens c
    → AllByRecursion Fits tokens.list → HasGroups (flats c) groups.list
    → let forms = forms_of c groups
    in AllByRecursion (λ (i : InitialForm). HasFigures i.value) forms.initials
    × AllByRecursion (λ (b : BodyForm). HasFigures b.body) forms.bodies
