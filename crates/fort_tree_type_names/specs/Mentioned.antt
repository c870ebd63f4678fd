-- The chapter "Types": the names that stand as types in parts of a tree. The code puts them at the
-- end of one list as it walks.
use Rattle.std.specs.Prelude.{List, [], Option, Some, None}
use Rattle.std.specs.List.{flat_map}
use Rattle.fort_tree.specs.declared.spot.Name.{Name}
use Rattle.fort_tree.specs.declared.delimited.Delimited.TheOpen.{Delimited-F, Item-F, Atom-F, Expr-F, FlatPart-F, Generator-F, Head-F, Postfix-F, RunPart-F, Variable-F, Also-F, BlockItem-F, CaseClause-F, Catch-F, Elif-F, ElseBlock-F, ElseClause-F, Finally-F, NextGenerator-F, TypeClause-F, ExprList-F, Flat-F, NextExpr-F, Operand-F, Run-F}

-- The names that stand as types in a tree, in the order of the text.
abbrev pub Mentioned : Type 0
Mentioned = List Name

-- the names of several trees, one after the other
abbrev pub all_mentioned : List Mentioned → Mentioned
all_mentioned parts = flat_map (λ part. part) parts

-- the names of what may be left out
abbrev pub maybe_mentioned : Option Mentioned → Mentioned
maybe_mentioned None = []
maybe_mentioned (Some names) = names

-- ---- one level of each tree that a block may stand in, with the names of its parts in their places

-- one level of a form that ends with `end`, with the names of its parts in their places
abbrev pub MentionedDelimited : Type 0
MentionedDelimited =
    Delimited-F Mentioned Mentioned Mentioned Mentioned Mentioned Mentioned Mentioned Mentioned
    Mentioned Mentioned Mentioned Mentioned Mentioned Mentioned Mentioned Mentioned Mentioned
    Mentioned Mentioned Mentioned Mentioned Mentioned Mentioned Mentioned Mentioned

-- one level of an item of a block, with the names of its parts in their places
abbrev pub MentionedItem : Type 0
MentionedItem =
    Item-F Mentioned Mentioned Mentioned Mentioned Mentioned Mentioned Mentioned Mentioned Mentioned
    Mentioned Mentioned Mentioned Mentioned Mentioned Mentioned Mentioned Mentioned Mentioned
    Mentioned Mentioned Mentioned Mentioned Mentioned Mentioned Mentioned

-- one level of an atom, with the names of its parts in their places
abbrev pub MentionedAtom : Type 0
MentionedAtom =
    Atom-F Mentioned Mentioned Mentioned Mentioned Mentioned Mentioned Mentioned Mentioned Mentioned
    Mentioned Mentioned Mentioned Mentioned Mentioned Mentioned Mentioned Mentioned Mentioned
    Mentioned Mentioned Mentioned Mentioned Mentioned Mentioned Mentioned

-- one level of an expression, with the names of its parts in their places
abbrev pub MentionedExpr : Type 0
MentionedExpr =
    Expr-F Mentioned Mentioned Mentioned Mentioned Mentioned Mentioned Mentioned Mentioned Mentioned
    Mentioned Mentioned Mentioned Mentioned Mentioned Mentioned Mentioned Mentioned Mentioned
    Mentioned Mentioned Mentioned Mentioned Mentioned Mentioned Mentioned

-- one level of a further part of a flat expression, with the names of its parts in their places
abbrev pub MentionedFlatPart : Type 0
MentionedFlatPart =
    FlatPart-F Mentioned Mentioned Mentioned Mentioned Mentioned Mentioned Mentioned Mentioned
    Mentioned Mentioned Mentioned Mentioned Mentioned Mentioned Mentioned Mentioned Mentioned
    Mentioned Mentioned Mentioned Mentioned Mentioned Mentioned Mentioned Mentioned

-- one level of a generator, with the names of its parts in their places
abbrev pub MentionedGenerator : Type 0
MentionedGenerator =
    Generator-F Mentioned Mentioned Mentioned Mentioned Mentioned Mentioned Mentioned Mentioned
    Mentioned Mentioned Mentioned Mentioned Mentioned Mentioned Mentioned Mentioned Mentioned
    Mentioned Mentioned Mentioned Mentioned Mentioned Mentioned Mentioned Mentioned

-- one level of a head, with the names of its parts in their places
abbrev pub MentionedHead : Type 0
MentionedHead =
    Head-F Mentioned Mentioned Mentioned Mentioned Mentioned Mentioned Mentioned Mentioned Mentioned
    Mentioned Mentioned Mentioned Mentioned Mentioned Mentioned Mentioned Mentioned Mentioned
    Mentioned Mentioned Mentioned Mentioned Mentioned Mentioned Mentioned

-- one level of a postfix, with the names of its parts in their places
abbrev pub MentionedPostfix : Type 0
MentionedPostfix =
    Postfix-F Mentioned Mentioned Mentioned Mentioned Mentioned Mentioned Mentioned Mentioned
    Mentioned Mentioned Mentioned Mentioned Mentioned Mentioned Mentioned Mentioned Mentioned
    Mentioned Mentioned Mentioned Mentioned Mentioned Mentioned Mentioned Mentioned

-- one level of a further part of a run, with the names of its parts in their places
abbrev pub MentionedRunPart : Type 0
MentionedRunPart =
    RunPart-F Mentioned Mentioned Mentioned Mentioned Mentioned Mentioned Mentioned Mentioned
    Mentioned Mentioned Mentioned Mentioned Mentioned Mentioned Mentioned Mentioned Mentioned
    Mentioned Mentioned Mentioned Mentioned Mentioned Mentioned Mentioned Mentioned

-- one level of a declaration of a variable, with the names of its parts in their places
abbrev pub MentionedVariable : Type 0
MentionedVariable =
    Variable-F Mentioned Mentioned Mentioned Mentioned Mentioned Mentioned Mentioned Mentioned
    Mentioned Mentioned Mentioned Mentioned Mentioned Mentioned Mentioned Mentioned Mentioned
    Mentioned Mentioned Mentioned Mentioned Mentioned Mentioned Mentioned Mentioned

-- one level of an `also` with its block, with the names of its parts in their places
abbrev pub MentionedAlso : Type 0
MentionedAlso =
    Also-F Mentioned Mentioned Mentioned Mentioned Mentioned Mentioned Mentioned Mentioned Mentioned
    Mentioned Mentioned Mentioned Mentioned Mentioned Mentioned Mentioned Mentioned Mentioned
    Mentioned Mentioned Mentioned Mentioned Mentioned Mentioned Mentioned

-- one level of an item of a block with its `;`, with the names of its parts in their places
abbrev pub MentionedBlockItem : Type 0
MentionedBlockItem =
    BlockItem-F Mentioned Mentioned Mentioned Mentioned Mentioned Mentioned Mentioned Mentioned
    Mentioned Mentioned Mentioned Mentioned Mentioned Mentioned Mentioned Mentioned Mentioned
    Mentioned Mentioned Mentioned Mentioned Mentioned Mentioned Mentioned Mentioned

-- one level of a clause of a `case`, with the names of its parts in their places
abbrev pub MentionedCaseClause : Type 0
MentionedCaseClause =
    CaseClause-F Mentioned Mentioned Mentioned Mentioned Mentioned Mentioned Mentioned Mentioned
    Mentioned Mentioned Mentioned Mentioned Mentioned Mentioned Mentioned Mentioned Mentioned
    Mentioned Mentioned Mentioned Mentioned Mentioned Mentioned Mentioned Mentioned

-- one level of a `catch`, with the names of its parts in their places
abbrev pub MentionedCatch : Type 0
MentionedCatch =
    Catch-F Mentioned Mentioned Mentioned Mentioned Mentioned Mentioned Mentioned Mentioned
    Mentioned Mentioned Mentioned Mentioned Mentioned Mentioned Mentioned Mentioned Mentioned
    Mentioned Mentioned Mentioned Mentioned Mentioned Mentioned Mentioned Mentioned

-- one level of an `elif`, with the names of its parts in their places
abbrev pub MentionedElif : Type 0
MentionedElif =
    Elif-F Mentioned Mentioned Mentioned Mentioned Mentioned Mentioned Mentioned Mentioned Mentioned
    Mentioned Mentioned Mentioned Mentioned Mentioned Mentioned Mentioned Mentioned Mentioned
    Mentioned Mentioned Mentioned Mentioned Mentioned Mentioned Mentioned

-- one level of the `else` of an `if`, with the names of its parts in their places
abbrev pub MentionedElseBlock : Type 0
MentionedElseBlock =
    ElseBlock-F Mentioned Mentioned Mentioned Mentioned Mentioned Mentioned Mentioned Mentioned
    Mentioned Mentioned Mentioned Mentioned Mentioned Mentioned Mentioned Mentioned Mentioned
    Mentioned Mentioned Mentioned Mentioned Mentioned Mentioned Mentioned Mentioned

-- one level of the `else` of a `case` or `typecase`, with the names of its parts in their places
abbrev pub MentionedElseClause : Type 0
MentionedElseClause =
    ElseClause-F Mentioned Mentioned Mentioned Mentioned Mentioned Mentioned Mentioned Mentioned
    Mentioned Mentioned Mentioned Mentioned Mentioned Mentioned Mentioned Mentioned Mentioned
    Mentioned Mentioned Mentioned Mentioned Mentioned Mentioned Mentioned Mentioned

-- one level of a `finally`, with the names of its parts in their places
abbrev pub MentionedFinally : Type 0
MentionedFinally =
    Finally-F Mentioned Mentioned Mentioned Mentioned Mentioned Mentioned Mentioned Mentioned
    Mentioned Mentioned Mentioned Mentioned Mentioned Mentioned Mentioned Mentioned Mentioned
    Mentioned Mentioned Mentioned Mentioned Mentioned Mentioned Mentioned Mentioned

-- one level of a further generator of a `for`, with the names of its parts in their places
abbrev pub MentionedNextGenerator : Type 0
MentionedNextGenerator =
    NextGenerator-F Mentioned Mentioned Mentioned Mentioned Mentioned Mentioned Mentioned Mentioned
    Mentioned Mentioned Mentioned Mentioned Mentioned Mentioned Mentioned Mentioned Mentioned
    Mentioned Mentioned Mentioned Mentioned Mentioned Mentioned Mentioned Mentioned

-- one level of a clause of a `typecase` or `catch`, with the names of its parts in their places
abbrev pub MentionedTypeClause : Type 0
MentionedTypeClause =
    TypeClause-F Mentioned Mentioned Mentioned Mentioned Mentioned Mentioned Mentioned Mentioned
    Mentioned Mentioned Mentioned Mentioned Mentioned Mentioned Mentioned Mentioned Mentioned
    Mentioned Mentioned Mentioned Mentioned Mentioned Mentioned Mentioned Mentioned

-- one level of a list of expressions, with the names of its parts in their places
abbrev pub MentionedExprList : Type 0
MentionedExprList =
    ExprList-F Mentioned Mentioned Mentioned Mentioned Mentioned Mentioned Mentioned Mentioned
    Mentioned Mentioned Mentioned Mentioned Mentioned Mentioned Mentioned Mentioned Mentioned
    Mentioned Mentioned Mentioned Mentioned Mentioned Mentioned Mentioned Mentioned

-- one level of a flat expression, with the names of its parts in their places
abbrev pub MentionedFlat : Type 0
MentionedFlat =
    Flat-F Mentioned Mentioned Mentioned Mentioned Mentioned Mentioned Mentioned Mentioned Mentioned
    Mentioned Mentioned Mentioned Mentioned Mentioned Mentioned Mentioned Mentioned Mentioned
    Mentioned Mentioned Mentioned Mentioned Mentioned Mentioned Mentioned

-- one level of a further expression of a list, with the names of its parts in their places
abbrev pub MentionedNextExpr : Type 0
MentionedNextExpr =
    NextExpr-F Mentioned Mentioned Mentioned Mentioned Mentioned Mentioned Mentioned Mentioned
    Mentioned Mentioned Mentioned Mentioned Mentioned Mentioned Mentioned Mentioned Mentioned
    Mentioned Mentioned Mentioned Mentioned Mentioned Mentioned Mentioned Mentioned

-- one level of a unit, with the names of its parts in their places
abbrev pub MentionedOperand : Type 0
MentionedOperand =
    Operand-F Mentioned Mentioned Mentioned Mentioned Mentioned Mentioned Mentioned Mentioned
    Mentioned Mentioned Mentioned Mentioned Mentioned Mentioned Mentioned Mentioned Mentioned
    Mentioned Mentioned Mentioned Mentioned Mentioned Mentioned Mentioned Mentioned

-- one level of a run, with the names of its parts in their places
abbrev pub MentionedRun : Type 0
MentionedRun =
    Run-F Mentioned Mentioned Mentioned Mentioned Mentioned Mentioned Mentioned Mentioned Mentioned
    Mentioned Mentioned Mentioned Mentioned Mentioned Mentioned Mentioned Mentioned Mentioned
    Mentioned Mentioned Mentioned Mentioned Mentioned Mentioned Mentioned
