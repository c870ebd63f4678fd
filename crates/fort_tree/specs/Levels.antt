-- The chapter "Grammar": one level of each tree that a block may stand in, with what its parts say
-- in their places.
use Rattle.fort_tree.specs.declared.delimited.Delimited.TheOpen.{Delimited-F, Item-F, Atom-F, Expr-F, FlatPart-F, Generator-F, Head-F, Postfix-F, RunPart-F, Variable-F, Also-F, BlockItem-F, CaseClause-F, Catch-F, Elif-F, ElseBlock-F, ElseClause-F, Finally-F, NextGenerator-F, TypeClause-F, ExprList-F, Flat-F, NextExpr-F, Operand-F, Run-F}
use Rattle.fort_tree.specs.Said.{Said, SaidEntry, SaidElse}

-- one level of a form that ends with `end`, with what its parts say in their places
abbrev pub OfDelimited : Type 0
OfDelimited =
    Delimited-F Said Said Said Said Said Said Said Said Said Said Said SaidEntry SaidEntry Said Said
    Said SaidElse Said Said SaidEntry Said Said Said Said Said

-- one level of an item of a block, with what its parts say in their places
abbrev pub OfItem : Type 0
OfItem = Item-F Said Said Said Said Said Said Said Said Said Said Said SaidEntry SaidEntry Said Said
    Said SaidElse Said Said SaidEntry Said Said Said Said Said

-- one level of an atom, with what its parts say in their places
abbrev pub OfAtom : Type 0
OfAtom = Atom-F Said Said Said Said Said Said Said Said Said Said Said SaidEntry SaidEntry Said Said
    Said SaidElse Said Said SaidEntry Said Said Said Said Said

-- one level of an expression, with what its parts say in their places
abbrev pub OfExpr : Type 0
OfExpr = Expr-F Said Said Said Said Said Said Said Said Said Said Said SaidEntry SaidEntry Said Said
    Said SaidElse Said Said SaidEntry Said Said Said Said Said

-- one level of a further part of a flat expression, with what its parts say in their places
abbrev pub OfFlatPart : Type 0
OfFlatPart =
    FlatPart-F Said Said Said Said Said Said Said Said Said Said Said SaidEntry SaidEntry Said Said
    Said SaidElse Said Said SaidEntry Said Said Said Said Said

-- one level of a generator, with what its parts say in their places
abbrev pub OfGenerator : Type 0
OfGenerator =
    Generator-F Said Said Said Said Said Said Said Said Said Said Said SaidEntry SaidEntry Said Said
    Said SaidElse Said Said SaidEntry Said Said Said Said Said

-- one level of a head, with what its parts say in their places
abbrev pub OfHead : Type 0
OfHead = Head-F Said Said Said Said Said Said Said Said Said Said Said SaidEntry SaidEntry Said Said
    Said SaidElse Said Said SaidEntry Said Said Said Said Said

-- one level of a postfix, with what its parts say in their places
abbrev pub OfPostfix : Type 0
OfPostfix =
    Postfix-F Said Said Said Said Said Said Said Said Said Said Said SaidEntry SaidEntry Said Said
    Said SaidElse Said Said SaidEntry Said Said Said Said Said

-- one level of a further part of a run, with what its parts say in their places
abbrev pub OfRunPart : Type 0
OfRunPart =
    RunPart-F Said Said Said Said Said Said Said Said Said Said Said SaidEntry SaidEntry Said Said
    Said SaidElse Said Said SaidEntry Said Said Said Said Said

-- one level of a declaration of a variable, with what its parts say in their places
abbrev pub OfVariable : Type 0
OfVariable =
    Variable-F Said Said Said Said Said Said Said Said Said Said Said SaidEntry SaidEntry Said Said
    Said SaidElse Said Said SaidEntry Said Said Said Said Said

-- one level of an `also` with its block, with what its parts say in their places
abbrev pub OfAlso : Type 0
OfAlso = Also-F Said Said Said Said Said Said Said Said Said Said Said SaidEntry SaidEntry Said Said
    Said SaidElse Said Said SaidEntry Said Said Said Said Said

-- one level of an item of a block with its `;`, with what its parts say in their places
abbrev pub OfBlockItem : Type 0
OfBlockItem =
    BlockItem-F Said Said Said Said Said Said Said Said Said Said Said SaidEntry SaidEntry Said Said
    Said SaidElse Said Said SaidEntry Said Said Said Said Said

-- one level of a clause of a `case`, with what its parts say in their places
abbrev pub OfCaseClause : Type 0
OfCaseClause =
    CaseClause-F Said Said Said Said Said Said Said Said Said Said Said SaidEntry SaidEntry Said
    Said Said SaidElse Said Said SaidEntry Said Said Said Said Said

-- one level of a `catch`, with what its parts say in their places
abbrev pub OfCatch : Type 0
OfCatch =
    Catch-F Said Said Said Said Said Said Said Said Said Said Said SaidEntry SaidEntry Said Said
    Said SaidElse Said Said SaidEntry Said Said Said Said Said

-- one level of an `elif`, with what its parts say in their places
abbrev pub OfElif : Type 0
OfElif = Elif-F Said Said Said Said Said Said Said Said Said Said Said SaidEntry SaidEntry Said Said
    Said SaidElse Said Said SaidEntry Said Said Said Said Said

-- one level of the `else` of an `if`, with what its parts say in their places
abbrev pub OfElseBlock : Type 0
OfElseBlock =
    ElseBlock-F Said Said Said Said Said Said Said Said Said Said Said SaidEntry SaidEntry Said Said
    Said SaidElse Said Said SaidEntry Said Said Said Said Said

-- one level of the `else` of a `case` or `typecase`, with what its parts say in their places
abbrev pub OfElseClause : Type 0
OfElseClause =
    ElseClause-F Said Said Said Said Said Said Said Said Said Said Said SaidEntry SaidEntry Said
    Said Said SaidElse Said Said SaidEntry Said Said Said Said Said

-- one level of a `finally`, with what its parts say in their places
abbrev pub OfFinally : Type 0
OfFinally =
    Finally-F Said Said Said Said Said Said Said Said Said Said Said SaidEntry SaidEntry Said Said
    Said SaidElse Said Said SaidEntry Said Said Said Said Said

-- one level of a further generator of a `for`, with what its parts say in their places
abbrev pub OfNextGenerator : Type 0
OfNextGenerator =
    NextGenerator-F Said Said Said Said Said Said Said Said Said Said Said SaidEntry SaidEntry Said
    Said Said SaidElse Said Said SaidEntry Said Said Said Said Said

-- one level of a clause of a `typecase` or `catch`, with what its parts say in their places
abbrev pub OfTypeClause : Type 0
OfTypeClause =
    TypeClause-F Said Said Said Said Said Said Said Said Said Said Said SaidEntry SaidEntry Said
    Said Said SaidElse Said Said SaidEntry Said Said Said Said Said

-- one level of a list of expressions, with what its parts say in their places
abbrev pub OfExprList : Type 0
OfExprList =
    ExprList-F Said Said Said Said Said Said Said Said Said Said Said SaidEntry SaidEntry Said Said
    Said SaidElse Said Said SaidEntry Said Said Said Said Said

-- one level of a flat expression, with what its parts say in their places
abbrev pub OfFlat : Type 0
OfFlat = Flat-F Said Said Said Said Said Said Said Said Said Said Said SaidEntry SaidEntry Said Said
    Said SaidElse Said Said SaidEntry Said Said Said Said Said

-- one level of a further expression of a list, with what its parts say in their places
abbrev pub OfNextExpr : Type 0
OfNextExpr =
    NextExpr-F Said Said Said Said Said Said Said Said Said Said Said SaidEntry SaidEntry Said Said
    Said SaidElse Said Said SaidEntry Said Said Said Said Said

-- one level of a unit, with what its parts say in their places
abbrev pub OfOperand : Type 0
OfOperand =
    Operand-F Said Said Said Said Said Said Said Said Said Said Said SaidEntry SaidEntry Said Said
    Said SaidElse Said Said SaidEntry Said Said Said Said Said

-- one level of a run, with what its parts say in their places
abbrev pub OfRun : Type 0
OfRun = Run-F Said Said Said Said Said Said Said Said Said Said Said SaidEntry SaidEntry Said Said
    Said SaidElse Said Said SaidEntry Said Said Said Said Said
