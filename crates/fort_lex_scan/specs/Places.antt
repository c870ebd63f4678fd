-- The chapter "Tokens", lines, columns and kinds of gap. The code counts on from token to token.
use Rattle.std.specs.Prelude.{ℕ, ◌+◌, Bool, true, false, cond, ◌==◌, List, [], ◌∷◌, take}
use Rattle.fort_base.specs.declared.refusal.Place.{Place}
use Rattle.fort_base.specs.declared.refusal.Gap.{Gap}
use Rattle.fort_base.specs.declared.refusal.Gap.TheVariants.{Empty, Space, Line}

-- the place behind the characters, where they begin at a place
abbrev pub place_after : Place → List ℕ → Place
place_after p [] = p
place_after p (c ∷ cs) =
    place_after
    (cond (c == 10) (record { line = p.line + 1; column = 1 })
    (record { line = p.line; column = p.column + 1 })) cs

-- where a text begins
abbrev pub the_start : Place
the_start = record { line = 1; column = 1 }

-- the place of a text's character, counted from 0
abbrev pub place_at : List ℕ → ℕ → Place
place_at text at = place_after the_start (take at text)

abbrev pub has_line_feed : List ℕ → Bool
has_line_feed [] = false
has_line_feed (c ∷ cs) = cond (c == 10) true (has_line_feed cs)

-- Empty where nothing stands, Line where a line feed stands in it, Space else
abbrev pub gap_kind : List ℕ → Gap
gap_kind [] = Empty
gap_kind (c ∷ cs) = cond (has_line_feed (c ∷ cs)) Line Space
