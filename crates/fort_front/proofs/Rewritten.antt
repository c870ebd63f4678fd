-- A component whose threads are rewritten is the tree of its own tokens, which stand apart.
use Rattle.std.proofs.Common.{◌≡◌, ◌≤◌, List, [], ◌∷◌, map, refl, sym, subst}
use Rattle.std.specs.List.{AllByRecursion}
use Rattle.fort_base.specs.declared.refusal.Place.{Place}
use Rattle.fort_lex_token.specs.declared.token.Token.{Token}
use Rattle.fort_lex_token.specs.declared.token.Tokens.{Tokens}
use Rattle.fort_tree.specs.declared.declarations.Component.{Component}
use Rattle.fort_tree.specs.Component.{HasTree, yield}
use Rattle.fort_elab_law_matched.specs.Component as written
use Rattle.fort_elab_law_written.specs.Matching as matching
use Rattle.fort_syntax.specs.Answer.{NamesAreIn}
use Rattle.fort_spawn.specs.Rewritten.{IsRewritten}
use Rattle.fort_spawn.specs.Laws as spawn
use Rattle.fort_spawn.specs.Laws.{RewrittenObeys, RewrittenStandsApart}

-- the tokens of a component, over its names and texts
abbrev pub tokens_of : Component → Tokens
tokens_of c = record { list = yield c; names = c.names; texts = c.texts }

pub rewritten_is_tree : RewrittenObeys → (tokens : Tokens) (c d : Component) → HasTree tokens c
    → NamesAreIn tokens.names tokens.list → IsRewritten c d → HasTree (tokens_of d) d
rewritten_is_tree obeys tokens c d tree named is = record {
  yields = refl;
  names = refl;
  texts = refl;
  obeys = obeys c d is
      (subst (λ ns. NamesAreIn ns (yield c)) (sym tree.names)
      (subst (NamesAreIn tokens.names) (sym tree.yields) named))
      tree.obeys;
}

-- no place twice, in the words of both crates
to_spawn : (ps : List Place) → matching.PlacesOnce ps → spawn.PlacesOnce ps
to_spawn [] h = tt
to_spawn (p ∷ ps) h = (h.0, to_spawn ps h.1)

from_spawn : (ps : List Place) → spawn.PlacesOnce ps → matching.PlacesOnce ps
from_spawn [] h = tt
from_spawn (p ∷ ps) h = (h.0, from_spawn ps h.1)

pub rewritten_apart : RewrittenStandsApart → (tokens : Tokens) (c d : Component) → HasTree tokens c
    → written.StandApart tokens.list → AllByRecursion (λ (t : Token). 1 ≤ t.place.line) tokens.list
    → IsRewritten c d → written.StandApart (yield d)
rewritten_apart stands tokens c d tree apart lines is =
    from_spawn (map written.token_place (yield d))
    (stands c d is
    (to_spawn (map written.token_place (yield c)) (subst written.StandApart (sym tree.yields) apart))
    (subst (AllByRecursion (λ (t : Token). 1 ≤ t.place.line)) (sym tree.yields) lines))
