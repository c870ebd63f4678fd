-- The chapter "Grammar", trees apart from places: the places of a tree's tokens moved, each by one
-- map of places; the parts that stand in trees. No code: a law joins the definitions.
use Rattle.fort_base.specs.declared.refusal.Place.{Place}
use Rattle.fort_lex_token.specs.declared.token.Token.{Token}
use Rattle.fort_tree.specs.declared.spot.Spot.{Spot}
use Rattle.fort_tree.specs.declared.spot.Name.{Name}
use Rattle.fort_tree.specs.declared.spot.Sign.{Sign}
use Rattle.fort_tree.specs.declared.spot.NextName.{NextName}
use Rattle.fort_tree.specs.declared.declarations.InitialSign.{InitialSign}
use Rattle.fort_tree.specs.declared.declarations.InitialSign.TheVariants as initial_sign
use Rattle.fort_tree.specs.declared.expr.AssignSign.{AssignSign}
use Rattle.fort_tree.specs.declared.expr.AssignSign.TheVariants as assign_sign
use Rattle.fort_tree.specs.declared.expr.Big.{Big}
use Rattle.fort_tree.specs.declared.expr.Big.TheVariants as big_word
use Rattle.fort_tree.specs.declared.expr.FillSpots.{FillSpots}
use Rattle.fort_tree.specs.declared.expr.Prefix.{Prefix}
use Rattle.fort_tree.specs.declared.expr.Prefix.TheVariants as a_prefix

module _ (g : Place → Place) where
  -- a token, its place moved; its kind and the gap before it stay
  abbrev pub moved_token : Token → Token
  moved_token t = record { kind = t.kind; gap = t.gap; place = g t.place }

  -- where a token stands
  abbrev pub moved_spot : Spot → Spot
  moved_spot s = record { gap = s.gap; place = g s.place }

  -- a name
  abbrev pub moved_name : Name → Name
  moved_name n = record { id = n.id; spot = moved_spot n.spot }

  -- an operator
  abbrev pub moved_sign : Sign → Sign
  moved_sign s = record { op = s.op; spot = moved_spot s.spot }

  -- a further name of a list
  abbrev pub moved_next_name : NextName → NextName
  moved_next_name n = record { comma = moved_spot n.comma; name = moved_name n.name }

  -- the sign before an initial
  abbrev pub moved_initial : InitialSign → InitialSign
  moved_initial (initial_sign.Equals s) = initial_sign.Equals (moved_spot s)
  moved_initial (initial_sign.Becomes s) = initial_sign.Becomes (moved_spot s)

  -- the sign of an assignment
  abbrev pub moved_assign : AssignSign → AssignSign
  moved_assign (assign_sign.Becomes s) = assign_sign.Becomes (moved_spot s)
  moved_assign (assign_sign.AddBecomes s) = assign_sign.AddBecomes (moved_spot s)
  moved_assign (assign_sign.SubtractBecomes s) = assign_sign.SubtractBecomes (moved_spot s)

  -- the words of a reduction
  abbrev pub moved_big : Big → Big
  moved_big (big_word.Sum s) = big_word.Sum (moved_spot s)
  moved_big (big_word.Prod s) = big_word.Prod (moved_spot s)
  moved_big (big_word.Max s t) = big_word.Max (moved_spot s) (moved_spot t)
  moved_big (big_word.Min s t) = big_word.Min (moved_spot s) (moved_spot t)
  moved_big (big_word.And s t) = big_word.And (moved_spot s) (moved_spot t)
  moved_big (big_word.Or s t) = big_word.Or (moved_spot s) (moved_spot t)

  -- the word, the marks and the name of an array's fill
  abbrev pub moved_fill : FillSpots → FillSpots
  moved_fill s = record {
    array = moved_spot s.array;
    left = moved_spot s.left;
    right = moved_spot s.right;
    size_left = moved_spot s.size_left;
    size_right = moved_spot s.size_right;
    dot = moved_spot s.dot;
    fill = moved_name s.fill;
    value_left = moved_spot s.value_left;
    value_right = moved_spot s.value_right;
  }

  -- a prefix operator
  abbrev pub moved_prefix : Prefix → Prefix
  moved_prefix (a_prefix.Minus s) = a_prefix.Minus (moved_spot s)
  moved_prefix (a_prefix.Not s) = a_prefix.Not (moved_spot s)
