-- The chapter "Threads that are spawned": what a component keeps when it gets the prelude.
use Rattle.std.specs.Prelude.{◌≡◌, ◌≤◌, ℕ, Bool, false, ◌&&◌, List, [], ◌∷◌, map, nat_eq}
use Rattle.std.specs.List.{list_any, AllByRecursion}
use Rattle.fort_base.specs.declared.refusal.Place.{Place}
use Rattle.fort_lex_token.specs.declared.token.Kind.{Kind}
use Rattle.fort_lex_token.specs.declared.token.Kind.TheVariants as kind
use Rattle.fort_lex_token.specs.declared.token.Token.{Token}
use Rattle.fort_tree.specs.declared.declarations.Component.{Component}
use Rattle.fort_tree.specs.Component.{Obeys, yield}
use Rattle.fort_syntax.specs.Answer.{NamesAreIn}
use Rattle.fort_spawn.specs.Rewritten.{IsRewritten}

-- ---- there is one

-- A component is rewritten as one component.
abbrev pub OneRewriting : Type 0
OneRewriting = (c d e : Component) → IsRewritten c d → IsRewritten c e → d ≡ e

-- ---- gaps and names

-- Where the numbers of names among its tokens are in its table, the rules on gaps and names that
-- hold in a component hold in the rewritten one.
abbrev pub RewrittenObeys : Type 0
RewrittenObeys = (c d : Component) → IsRewritten c d → NamesAreIn c.names (yield c)
    → Obeys c → Obeys d

-- ---- places

-- whether two places are one
abbrev pub same_place : Place → Place → Bool
same_place a b = nat_eq a.line b.line && nat_eq a.column b.column

-- Each place of a list stands in it once.
abbrev pub PlacesOnce : List Place → Type 0
PlacesOnce [] = Unit {0}
PlacesOnce (x ∷ xs) = (list_any (same_place x) xs ≡ false) × PlacesOnce xs

abbrev pub token_place : Token → Place
token_place t = t.place

-- No two tokens stand at one place.
abbrev pub StandApart : List Token → Type 0
StandApart ts = PlacesOnce (map token_place ts)

-- A token stands on a line from 1 on, as all of a file do.
abbrev pub IsOnLine : Token → Type 0
IsOnLine t = 1 ≤ t.place.line

-- Where the tokens of a component stand apart, and on lines from 1 on, those of the rewritten one
-- stand apart.
abbrev pub RewrittenStandsApart : Type 0
RewrittenStandsApart = (c d : Component) → IsRewritten c d → StandApart (yield c)
    → AllByRecursion IsOnLine (yield c) → StandApart (yield d)

-- ---- numbers

-- A token that is a number is a ZZ64.
abbrev pub FitsKind : Kind → Type 0
FitsKind (kind.Number n) = n ≤ 9223372036854775807
FitsKind _ = Unit {0}

abbrev pub Fits : Token → Type 0
Fits t = FitsKind t.kind

-- Where the numbers of a component are ZZ64, those of the rewritten one are.
abbrev pub RewrittenNumbersFit : Type 0
RewrittenNumbersFit = (c d : Component) → IsRewritten c d → AllByRecursion Fits (yield c)
    → AllByRecursion Fits (yield d)
