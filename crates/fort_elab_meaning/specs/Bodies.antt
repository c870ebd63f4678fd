-- "Programs" of docs/TRANSLATION.md: the bodies of functions and methods, in the order of their
-- places.
use Rattle.std.specs.Prelude.{ℕ, ◌+◌, nat_le, nat_eq, Bool, ◌&&◌, cond, List, [], ◌∷◌, length, Option, Some, None, unwrap_or}
use Rattle.fort_base.specs.declared.ids.NameId.{NameId}
use Rattle.fort_base.specs.declared.refusal.Place.{Place}
use Rattle.fort_form.specs.declared.form.Parameter.{Parameter}
use Rattle.fort_core.specs.declared.term.Term.{Term}
use Rattle.fort_form_typed.specs.declared.component.TypedBody.{TypedBody}
use Rattle.fort_elab_meaning.specs.declared.counter.Counter.{Counter}
use Rattle.fort_elab_meaning.specs.Making.{Scope, Made}
use Rattle.fort_elab_meaning.specs.Parts.{Given}
use Rattle.fort_elab_meaning.specs.Translated.{translated}

-- The i-th parameter of a declaration is the variable i; a receiver is a parameter without a name,
-- and the names behind it stand one further.
abbrev pub position : Option ℕ → ℕ → ℕ
position None n = n
position (Some r) n = cond (nat_le r n) (n + 1) n

-- Names get the positions of their parameters.
abbrev pub parameter_names : Option ℕ → ℕ → List Parameter → List (NameId × ℕ) → List (NameId × ℕ)
parameter_names r n [] names = names
parameter_names r n (p ∷ ps) names = parameter_names r (n + 1) ps ((p.name, position r n) ∷ names)

abbrev pub scope_of : TypedBody → Scope
scope_of b =
    record {
      names = parameter_names b.receiver 0 b.parameters [];
      receiver = unwrap_or b.receiver 0;
    }

-- How many parameters a declaration has: those with names, and the receiver where it has one. The
-- next variables have the numbers from there on.
abbrev pub width : TypedBody → ℕ
width b = position b.receiver (length b.parameters)

-- The term of a body, where its first function gets this number.
abbrev pub body_made : Given → ℕ → TypedBody → Made
body_made g next b =
    translated g b.body (scope_of b) (record { variable = width b; function = next })

-- The terms of bodies, with the places of their declarations; the numbers of functions go on from
-- body to body, so that no two functions of a program have one.
abbrev pub bodies : Given → ℕ → List TypedBody → List (Place × Term)
bodies g next [] = []
bodies g next (b ∷ bs) =
    let m = body_made g next b in (b.place, m.term) ∷ bodies g m.counter.function bs

-- Two places are one.
abbrev pub same_place : Place → Place → Bool
same_place a b = nat_eq a.line b.line && nat_eq a.column b.column

-- The term of the body whose declaration stands at a place.
abbrev pub body_at : List (Place × Term) → Place → Option Term
body_at [] place = None
body_at (x ∷ xs) place = cond (same_place x.0 place) (Some x.1) (body_at xs place)
