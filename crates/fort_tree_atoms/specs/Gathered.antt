-- The chapter "Components and APIs": the names that stand as atoms in parts of a tree. The code
-- puts them at the end of one list as it walks.
use Rattle.std.specs.Prelude.{List, [], Option, Some, None}
use Rattle.std.specs.List.{flat_map}
use Rattle.fort_tree.specs.declared.spot.Name.{Name}
use Rattle.fort_tree.specs.declared.delimited.Delimited.TheOpen.{Delimited-F, Item-F, Atom-F, Expr-F, FlatPart-F, Generator-F, Head-F, Postfix-F, RunPart-F, Variable-F, Also-F, BlockItem-F, CaseClause-F, Catch-F, Elif-F, ElseBlock-F, ElseClause-F, Finally-F, NextGenerator-F, TypeClause-F, ExprList-F, Flat-F, NextExpr-F, Operand-F, Run-F}

-- The names that stand as atoms in a tree, in the order of the text.
abbrev pub Atoms : Type 0
Atoms = List Name

-- the names of several trees, one after the other
abbrev pub all_atoms : List Atoms → Atoms
all_atoms parts = flat_map (λ part. part) parts

-- the names of what may be left out
abbrev pub maybe_atoms : Option Atoms → Atoms
maybe_atoms None = []
maybe_atoms (Some names) = names

-- ---- one level of each tree that a block may stand in

-- one level of a form that ends with `end`, with the names of its parts in their places
abbrev pub GatheredDelimited : Type 0
GatheredDelimited =
    Delimited-F Atoms Atoms Atoms Atoms Atoms Atoms Atoms Atoms
    Atoms Atoms Atoms Atoms Atoms Atoms Atoms Atoms Atoms
    Atoms Atoms Atoms Atoms Atoms Atoms Atoms Atoms

-- one level of an item of a block, with the names of its parts in their places
abbrev pub GatheredItem : Type 0
GatheredItem =
    Item-F Atoms Atoms Atoms Atoms Atoms Atoms Atoms Atoms Atoms
    Atoms Atoms Atoms Atoms Atoms Atoms Atoms Atoms Atoms
    Atoms Atoms Atoms Atoms Atoms Atoms Atoms

-- one level of an atom, with the names of its parts in their places
abbrev pub GatheredAtom : Type 0
GatheredAtom =
    Atom-F Atoms Atoms Atoms Atoms Atoms Atoms Atoms Atoms Atoms
    Atoms Atoms Atoms Atoms Atoms Atoms Atoms Atoms Atoms
    Atoms Atoms Atoms Atoms Atoms Atoms Atoms

-- one level of an expression, with the names of its parts in their places
abbrev pub GatheredExpr : Type 0
GatheredExpr =
    Expr-F Atoms Atoms Atoms Atoms Atoms Atoms Atoms Atoms Atoms
    Atoms Atoms Atoms Atoms Atoms Atoms Atoms Atoms Atoms
    Atoms Atoms Atoms Atoms Atoms Atoms Atoms

-- one level of a further part of a flat expression, with the names of its parts in their places
abbrev pub GatheredFlatPart : Type 0
GatheredFlatPart =
    FlatPart-F Atoms Atoms Atoms Atoms Atoms Atoms Atoms Atoms
    Atoms Atoms Atoms Atoms Atoms Atoms Atoms Atoms Atoms
    Atoms Atoms Atoms Atoms Atoms Atoms Atoms Atoms

-- one level of a generator, with the names of its parts in their places
abbrev pub GatheredGenerator : Type 0
GatheredGenerator =
    Generator-F Atoms Atoms Atoms Atoms Atoms Atoms Atoms Atoms
    Atoms Atoms Atoms Atoms Atoms Atoms Atoms Atoms Atoms
    Atoms Atoms Atoms Atoms Atoms Atoms Atoms Atoms

-- one level of a head, with the names of its parts in their places
abbrev pub GatheredHead : Type 0
GatheredHead =
    Head-F Atoms Atoms Atoms Atoms Atoms Atoms Atoms Atoms Atoms
    Atoms Atoms Atoms Atoms Atoms Atoms Atoms Atoms Atoms
    Atoms Atoms Atoms Atoms Atoms Atoms Atoms

-- one level of a postfix, with the names of its parts in their places
abbrev pub GatheredPostfix : Type 0
GatheredPostfix =
    Postfix-F Atoms Atoms Atoms Atoms Atoms Atoms Atoms Atoms
    Atoms Atoms Atoms Atoms Atoms Atoms Atoms Atoms Atoms
    Atoms Atoms Atoms Atoms Atoms Atoms Atoms Atoms

-- one level of a further part of a run, with the names of its parts in their places
abbrev pub GatheredRunPart : Type 0
GatheredRunPart =
    RunPart-F Atoms Atoms Atoms Atoms Atoms Atoms Atoms Atoms
    Atoms Atoms Atoms Atoms Atoms Atoms Atoms Atoms Atoms
    Atoms Atoms Atoms Atoms Atoms Atoms Atoms Atoms

-- one level of a declaration of a variable, with the names of its parts in their places
abbrev pub GatheredVariable : Type 0
GatheredVariable =
    Variable-F Atoms Atoms Atoms Atoms Atoms Atoms Atoms Atoms
    Atoms Atoms Atoms Atoms Atoms Atoms Atoms Atoms Atoms
    Atoms Atoms Atoms Atoms Atoms Atoms Atoms Atoms

-- one level of an `also` with its block, with the names of its parts in their places
abbrev pub GatheredAlso : Type 0
GatheredAlso =
    Also-F Atoms Atoms Atoms Atoms Atoms Atoms Atoms Atoms Atoms
    Atoms Atoms Atoms Atoms Atoms Atoms Atoms Atoms Atoms
    Atoms Atoms Atoms Atoms Atoms Atoms Atoms

-- one level of an item of a block with its `;`, with the names of its parts in their places
abbrev pub GatheredBlockItem : Type 0
GatheredBlockItem =
    BlockItem-F Atoms Atoms Atoms Atoms Atoms Atoms Atoms Atoms
    Atoms Atoms Atoms Atoms Atoms Atoms Atoms Atoms Atoms
    Atoms Atoms Atoms Atoms Atoms Atoms Atoms Atoms

-- one level of a clause of a `case`, with the names of its parts in their places
abbrev pub GatheredCaseClause : Type 0
GatheredCaseClause =
    CaseClause-F Atoms Atoms Atoms Atoms Atoms Atoms Atoms Atoms
    Atoms Atoms Atoms Atoms Atoms Atoms Atoms Atoms Atoms
    Atoms Atoms Atoms Atoms Atoms Atoms Atoms Atoms

-- one level of a `catch`, with the names of its parts in their places
abbrev pub GatheredCatch : Type 0
GatheredCatch =
    Catch-F Atoms Atoms Atoms Atoms Atoms Atoms Atoms Atoms
    Atoms Atoms Atoms Atoms Atoms Atoms Atoms Atoms Atoms
    Atoms Atoms Atoms Atoms Atoms Atoms Atoms Atoms

-- one level of an `elif`, with the names of its parts in their places
abbrev pub GatheredElif : Type 0
GatheredElif =
    Elif-F Atoms Atoms Atoms Atoms Atoms Atoms Atoms Atoms Atoms
    Atoms Atoms Atoms Atoms Atoms Atoms Atoms Atoms Atoms
    Atoms Atoms Atoms Atoms Atoms Atoms Atoms

-- one level of the `else` of an `if`, with the names of its parts in their places
abbrev pub GatheredElseBlock : Type 0
GatheredElseBlock =
    ElseBlock-F Atoms Atoms Atoms Atoms Atoms Atoms Atoms Atoms
    Atoms Atoms Atoms Atoms Atoms Atoms Atoms Atoms Atoms
    Atoms Atoms Atoms Atoms Atoms Atoms Atoms Atoms

-- one level of the `else` of a `case` or `typecase`, with the names of its parts in their places
abbrev pub GatheredElseClause : Type 0
GatheredElseClause =
    ElseClause-F Atoms Atoms Atoms Atoms Atoms Atoms Atoms Atoms
    Atoms Atoms Atoms Atoms Atoms Atoms Atoms Atoms Atoms
    Atoms Atoms Atoms Atoms Atoms Atoms Atoms Atoms

-- one level of a `finally`, with the names of its parts in their places
abbrev pub GatheredFinally : Type 0
GatheredFinally =
    Finally-F Atoms Atoms Atoms Atoms Atoms Atoms Atoms Atoms
    Atoms Atoms Atoms Atoms Atoms Atoms Atoms Atoms Atoms
    Atoms Atoms Atoms Atoms Atoms Atoms Atoms Atoms

-- one level of a further generator of a `for`, with the names of its parts in their places
abbrev pub GatheredNextGenerator : Type 0
GatheredNextGenerator =
    NextGenerator-F Atoms Atoms Atoms Atoms Atoms Atoms Atoms Atoms
    Atoms Atoms Atoms Atoms Atoms Atoms Atoms Atoms Atoms
    Atoms Atoms Atoms Atoms Atoms Atoms Atoms Atoms

-- one level of a clause of a `typecase` or `catch`, with the names of its parts in their places
abbrev pub GatheredTypeClause : Type 0
GatheredTypeClause =
    TypeClause-F Atoms Atoms Atoms Atoms Atoms Atoms Atoms Atoms
    Atoms Atoms Atoms Atoms Atoms Atoms Atoms Atoms Atoms
    Atoms Atoms Atoms Atoms Atoms Atoms Atoms Atoms

-- one level of a list of expressions, with the names of its parts in their places
abbrev pub GatheredExprList : Type 0
GatheredExprList =
    ExprList-F Atoms Atoms Atoms Atoms Atoms Atoms Atoms Atoms
    Atoms Atoms Atoms Atoms Atoms Atoms Atoms Atoms Atoms
    Atoms Atoms Atoms Atoms Atoms Atoms Atoms Atoms

-- one level of a flat expression, with the names of its parts in their places
abbrev pub GatheredFlat : Type 0
GatheredFlat =
    Flat-F Atoms Atoms Atoms Atoms Atoms Atoms Atoms Atoms Atoms
    Atoms Atoms Atoms Atoms Atoms Atoms Atoms Atoms Atoms
    Atoms Atoms Atoms Atoms Atoms Atoms Atoms

-- one level of a further expression of a list, with the names of its parts in their places
abbrev pub GatheredNextExpr : Type 0
GatheredNextExpr =
    NextExpr-F Atoms Atoms Atoms Atoms Atoms Atoms Atoms Atoms
    Atoms Atoms Atoms Atoms Atoms Atoms Atoms Atoms Atoms
    Atoms Atoms Atoms Atoms Atoms Atoms Atoms Atoms

-- one level of a unit, with the names of its parts in their places
abbrev pub GatheredOperand : Type 0
GatheredOperand =
    Operand-F Atoms Atoms Atoms Atoms Atoms Atoms Atoms Atoms
    Atoms Atoms Atoms Atoms Atoms Atoms Atoms Atoms Atoms
    Atoms Atoms Atoms Atoms Atoms Atoms Atoms Atoms

-- one level of a run, with the names of its parts in their places
abbrev pub GatheredRun : Type 0
GatheredRun =
    Run-F Atoms Atoms Atoms Atoms Atoms Atoms Atoms Atoms Atoms
    Atoms Atoms Atoms Atoms Atoms Atoms Atoms Atoms Atoms
    Atoms Atoms Atoms Atoms Atoms Atoms Atoms
