-- A unit that is one name, or two or more names in parentheses, and nothing else: what a
-- declaration of locals begins with.
use Rattle.std.specs.Prelude.{List, [], ◌∷◌, Option, Some, None}
use Rattle.fort_tree.specs.declared.spot.Spot.{Spot}
use Rattle.fort_tree.specs.declared.spot.Name.{Name}
use Rattle.fort_tree.specs.declared.spot.NextName.{NextName}
use Rattle.fort_tree.specs.declared.expr.Prefix.{Prefix}
use Rattle.fort_tree.specs.declared.expr.Atom.{Atom}
use Rattle.fort_tree.specs.declared.expr.Expr.{Expr}
use Rattle.fort_tree.specs.declared.expr.FlatPart.{FlatPart}
use Rattle.fort_tree.specs.declared.expr.Generator.{Generator}
use Rattle.fort_tree.specs.declared.expr.Head.{Head}
use Rattle.fort_tree.specs.declared.expr.Postfix.{Postfix}
use Rattle.fort_tree.specs.declared.expr.RunPart.{RunPart}
use Rattle.fort_tree.specs.declared.declarations.Variable.{Variable}
use Rattle.fort_tree.specs.declared.delimited.Also.{Also}
use Rattle.fort_tree.specs.declared.delimited.BlockItem.{BlockItem}
use Rattle.fort_tree.specs.declared.delimited.CaseClause.{CaseClause}
use Rattle.fort_tree.specs.declared.delimited.Catch.{Catch}
use Rattle.fort_tree.specs.declared.delimited.Delimited.{Delimited}
use Rattle.fort_tree.specs.declared.delimited.Elif.{Elif}
use Rattle.fort_tree.specs.declared.delimited.ElseBlock.{ElseBlock}
use Rattle.fort_tree.specs.declared.delimited.ElseClause.{ElseClause}
use Rattle.fort_tree.specs.declared.delimited.Finally.{Finally}
use Rattle.fort_tree.specs.declared.delimited.Item.{Item}
use Rattle.fort_tree.specs.declared.delimited.NextGenerator.{NextGenerator}
use Rattle.fort_tree.specs.declared.delimited.TypeClause.{TypeClause}
use Rattle.fort_tree.specs.declared.expr.ExprList.{ExprList}
use Rattle.fort_tree.specs.declared.expr.Flat.{Flat}
use Rattle.fort_tree.specs.declared.expr.NextExpr.{NextExpr}
use Rattle.fort_tree.specs.declared.expr.Operand.{Operand}
use Rattle.fort_tree.specs.declared.expr.Run.{Run}
use Rattle.fort_tree.specs.declared.delimited.Delimited.TheOpen.{Atom-F, Expr-F}
use Rattle.fort_tree.specs.declared.delimited.Delimited.TheViews.{out-Atom, out-Expr, out-ExprList, out-Flat, out-NextExpr, out-Operand, out-Run}
use Rattle.fort_parse_first.specs.declared.plain.PlainNames.{PlainNames}

-- one level of an atom, its parts as they are
abbrev pub AnAtom : Type 0
AnAtom = Atom-F Delimited Item Atom Expr FlatPart Generator Head Postfix RunPart Variable Also
    BlockItem CaseClause Catch Elif ElseBlock ElseClause Finally NextGenerator TypeClause ExprList
    Flat NextExpr Operand Run

-- one level of an expression, its parts as they are
abbrev pub AnExpr : Type 0
AnExpr = Expr-F Delimited Item Atom Expr FlatPart Generator Head Postfix RunPart Variable Also
    BlockItem CaseClause Catch Elif ElseBlock ElseClause Finally NextGenerator TypeClause ExprList
    Flat NextExpr Operand Run

-- ---- a unit that is one atom

-- the first atom of a run, where nothing follows it
abbrev pub lone_run : Atom → List RunPart → Option Atom
lone_run a [] = Some a
lone_run a (p ∷ ps) = None

-- the atom of a unit, where it is nothing else
abbrev pub lone_unit : Option Prefix → Run → Option Atom
lone_unit None r = lone_run (out-Run r).first (out-Run r).rest
lone_unit (Some p) r = None

-- the atom that a unit is, where it is nothing else
unfoldable pub lone_atom : Operand → Option Atom
lone_atom o = lone_unit (out-Operand o).prefix (out-Operand o).run

-- ---- one name

-- the name that an atom is
abbrev pub atom_name : AnAtom → Option Name
atom_name (Atom-F.Name name) = Some name
atom_name _ = None

-- the name that may be an atom
abbrev pub maybe_name : Option Atom → Option Name
maybe_name None = None
maybe_name (Some a) = atom_name (out-Atom a)

-- the name that a unit is
unfoldable pub plain_name : Operand → Option Name
plain_name o = maybe_name (lone_atom o)

-- the name that a flat expression is
abbrev pub flat_name : Operand → List FlatPart → Option Name
flat_name o [] = plain_name o
flat_name o (p ∷ ps) = None

-- the name that one level of an expression is
abbrev pub level_name : AnExpr → Option Name
level_name (Expr-F.Flat flat) = flat_name (out-Flat flat).first (out-Flat flat).rest
level_name _ = None

-- the name that an expression is
unfoldable pub expr_name : Expr → Option Name
expr_name e = level_name (out-Expr e)

-- ---- two or more names in parentheses

-- one more name of a list
abbrev pub join_names : Spot → Option Name → Option (List NextName) → Option (List NextName)
join_names comma (Some name) (Some others) = Some (record { comma = comma; name = name } ∷ others)
join_names comma (Some name) None = None
join_names comma None others = None

-- the names that further expressions of a list are
unfoldable pub next_names : List NextExpr → Option (List NextName)
next_names [] = Some []
next_names (e ∷ es) =
    join_names (out-NextExpr e).comma (expr_name (out-NextExpr e).expr) (next_names es)

-- names in parentheses, where each is there and there are two or more
abbrev pub names_between : Spot → Spot → Option Name → Option (List NextName) → Option PlainNames
names_between left right (Some first) (Some []) = None
names_between left right (Some first) (Some (n ∷ ns)) =
    Some (record { left = left; first = first; others = n ∷ ns; right = right })
names_between left right (Some first) None = None
names_between left right None others = None

-- the names that an atom is
abbrev pub atom_names : AnAtom → Option PlainNames
atom_names (Atom-F.Parens left (Some list) right) =
    names_between left right (expr_name (out-ExprList list).first)
    (next_names (out-ExprList list).others)
atom_names (Atom-F.Parens left None right) = None
atom_names _ = None

-- the names that may be an atom
abbrev pub maybe_names : Option Atom → Option PlainNames
maybe_names None = None
maybe_names (Some a) = atom_names (out-Atom a)

-- the names that a unit is
unfoldable pub plain_names : Operand → Option PlainNames
plain_names o = maybe_names (lone_atom o)
