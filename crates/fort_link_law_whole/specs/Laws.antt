-- The chapter "Components and APIs": what the whole of files is.
use Rattle.std.specs.Prelude.{◌≡◌, ℕ, List, [], ◌∷◌, Some}
use Rattle.std.specs.List.{AllByRecursion}
use Rattle.fort_lex_token.specs.declared.token.Tokens.{Tokens}
use Rattle.fort_lex.specs.Files.{HasTokens}
use Rattle.fort_tree.specs.declared.declarations.Component.{Component}
use Rattle.fort_tree.specs.declared.declarations.Export.{Export}
use Rattle.fort_tree.specs.Component.{HasTree, yield}
use Rattle.fort_syntax.specs.Answer.{IsComponent}
use Rattle.fort_lex_law_tokens.specs.Numerals.{Fits}
use Rattle.fort_front.specs.Written.{AreInOrder}
use Rattle.fort_link.specs.Answer.{IsLinked}

-- the tokens of a component, over its names and texts
abbrev pub tokens_of : Component → Tokens
tokens_of c = record { list = yield c; names = c.names; texts = c.texts }

-- A component is the tree of its own tokens, which are in order and whose numbers are ZZ64.
pub record IsOrderly (c : Component) : Type 0 where
  pub tree : HasTree (tokens_of c) c
  pub order : AreInOrder (tokens_of c)
  pub numbers : AllByRecursion Fits (yield c)

-- The whole of files is.
abbrev pub WholeIsInOrder : Type 0
WholeIsInOrder = (files : List (List ℕ)) (c : Component) → IsLinked files c → IsOrderly c

-- The whole of one file that is a component with `export Executable` is this component.
abbrev pub OneFileIsItself : Type 0
OneFileIsItself = (file : List ℕ) (tokens : Tokens) (c whole : Component) (e : Export)
    → HasTokens file tokens → IsComponent tokens c → c.export ≡ Some e
    → IsLinked (file ∷ []) whole → whole ≡ c
