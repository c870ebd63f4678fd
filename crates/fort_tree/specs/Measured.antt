-- The chapter "Grammar", limits: what a tree measures, the places of its flat expressions and of
-- its crowded forms.
use Rattle.std.specs.Prelude.{ℕ, cond, nat_lt, List, [], ◌∷◌, ◌++◌, Option, Some, None, length}
use Rattle.fort_base.specs.declared.refusal.Place.{Place}
use Rattle.fort_tree.specs.declared.grouped.Joint.{Joint}
use Rattle.fort_tree.specs.declared.grouped.Row.{Row}
use Rattle.fort_tree.specs.declared.spot.Spot.{Spot}
use Rattle.fort_tree.specs.declared.delimited.Delimited.TheOpen.{Delimited-F, Item-F, Atom-F, Expr-F, FlatPart-F, Generator-F, Head-F, Postfix-F, RunPart-F, Variable-F, Also-F, BlockItem-F, CaseClause-F, Catch-F, Elif-F, ElseBlock-F, ElseClause-F, Finally-F, NextGenerator-F, TypeClause-F, ExprList-F, Flat-F, NextExpr-F, Operand-F, Run-F}

-- ---- the limits

-- parameters of a declaration, a method or a `fn`, `self` included
abbrev pub most_parameters : ℕ
most_parameters = 8

-- parts of a list of expressions or of types in parentheses
abbrev pub most_tuple_parts : ℕ
most_tuple_parts = 8

-- generators of a `for`
abbrev pub most_generators : ℕ
most_generators = 8

-- units of a flat expression
abbrev pub most_units : ℕ
most_units = 64

-- atoms and postfixes of a run
abbrev pub most_elements : ℕ
most_elements = 64

-- blocks of a `do`, those behind `also` included
abbrev pub most_also_blocks : ℕ
most_also_blocks = 64

-- clauses of a form, without its `else`
abbrev pub most_clauses : ℕ
most_clauses = 256

-- items of a block
abbrev pub most_items : ℕ
most_items = 4096

-- declarations of a component, and members of its traits and objects
abbrev pub most_declarations : ℕ
most_declarations = 4096

-- traits and objects of a component
abbrev pub most_types : ℕ
most_types = 1024

-- names of one `extends`, `excludes` or `comprises`
abbrev pub most_names : ℕ
most_names = 32

-- ---- what a tree measures

-- What a tree measures.
pub record Measured : Type 0 where
  -- where its first token stands
  pub spot : Spot
  -- the flat expressions in it, itself included, in the order of their first tokens
  pub flats : List Row
  -- the places of the forms in it that have too many parts
  pub crowded : List Place

-- what a further unit of a flat expression measures, and how it stands to the one before it
pub record Joined : Type 0 where
  pub joint : Joint
  pub unit : Measured

-- the flat expressions of several trees
abbrev pub all_flats : List Measured → List Row
all_flats [] = []
all_flats (m ∷ ms) = m.flats ++ all_flats ms

-- the crowded forms of several trees
abbrev pub all_crowded : List Measured → List Place
all_crowded [] = []
all_crowded (m ∷ ms) = m.crowded ++ all_crowded ms

-- the place of a form with more parts than it may have
abbrev pub over : ℕ → ℕ → Place → List Place
over most count place = cond (nat_lt most count) (place ∷ []) []

-- what a form measures that begins there, by its own crowding and its parts
abbrev pub made_of : Spot → List Place → List Measured → Measured
made_of spot own parts =
    record { spot = spot; flats = all_flats parts; crowded = own ++ all_crowded parts }

-- the same of a type, in which no flat expression stands
abbrev pub made_in_type : Spot → List Place → List Measured → Measured
made_in_type spot own parts = record { spot = spot; flats = []; crowded = own ++ all_crowded parts }

-- what may be left out, as a list
abbrev pub maybe_measured : Option Measured → List Measured
maybe_measured None = []
maybe_measured (Some m) = m ∷ []

-- a block, which stands at its first item
abbrev pub block_measured : List Measured → List Measured
block_measured [] = []
block_measured (m ∷ ms) =
    made_of m.spot (over most_items (length (m ∷ ms)) m.spot.place) (m ∷ ms) ∷ []

-- a list of expressions or types, or the clauses of a `catch`, as its parts
pub record Listed : Type 0 where
  pub parts : List Measured

-- the parts of a list that may be left out
abbrev pub listed_parts : Option Listed → List Measured
listed_parts None = []
listed_parts (Some l) = l.parts

-- ---- one level of each tree that a block may stand in, with what its parts measure in their places

-- one level of a form that ends with `end`, with what its parts measure in their places
abbrev pub MeasuredDelimited : Type 0
MeasuredDelimited =
    Delimited-F Measured Measured Measured Measured Joined Measured Measured Measured Measured
    Measured Measured Measured Measured Listed Measured Measured Measured Measured Measured Measured
    Listed Measured Measured Measured Measured

-- one level of an item of a block, with what its parts measure in their places
abbrev pub MeasuredItem : Type 0
MeasuredItem =
    Item-F Measured Measured Measured Measured Joined Measured Measured Measured Measured Measured
    Measured Measured Measured Listed Measured Measured Measured Measured Measured Measured Listed
    Measured Measured Measured Measured

-- one level of an atom, with what its parts measure in their places
abbrev pub MeasuredAtom : Type 0
MeasuredAtom =
    Atom-F Measured Measured Measured Measured Joined Measured Measured Measured Measured Measured
    Measured Measured Measured Listed Measured Measured Measured Measured Measured Measured Listed
    Measured Measured Measured Measured

-- one level of an expression, with what its parts measure in their places
abbrev pub MeasuredExpr : Type 0
MeasuredExpr =
    Expr-F Measured Measured Measured Measured Joined Measured Measured Measured Measured Measured
    Measured Measured Measured Listed Measured Measured Measured Measured Measured Measured Listed
    Measured Measured Measured Measured

-- one level of a further part of a flat expression, with what its parts measure in their places
abbrev pub MeasuredFlatPart : Type 0
MeasuredFlatPart =
    FlatPart-F Measured Measured Measured Measured Joined Measured Measured Measured Measured
    Measured Measured Measured Measured Listed Measured Measured Measured Measured Measured Measured
    Listed Measured Measured Measured Measured

-- one level of a generator, with what its parts measure in their places
abbrev pub MeasuredGenerator : Type 0
MeasuredGenerator =
    Generator-F Measured Measured Measured Measured Joined Measured Measured Measured Measured
    Measured Measured Measured Measured Listed Measured Measured Measured Measured Measured Measured
    Listed Measured Measured Measured Measured

-- one level of a head, with what its parts measure in their places
abbrev pub MeasuredHead : Type 0
MeasuredHead =
    Head-F Measured Measured Measured Measured Joined Measured Measured Measured Measured Measured
    Measured Measured Measured Listed Measured Measured Measured Measured Measured Measured Listed
    Measured Measured Measured Measured

-- one level of a postfix, with what its parts measure in their places
abbrev pub MeasuredPostfix : Type 0
MeasuredPostfix =
    Postfix-F Measured Measured Measured Measured Joined Measured Measured Measured Measured
    Measured Measured Measured Measured Listed Measured Measured Measured Measured Measured Measured
    Listed Measured Measured Measured Measured

-- one level of a further part of a run, with what its parts measure in their places
abbrev pub MeasuredRunPart : Type 0
MeasuredRunPart =
    RunPart-F Measured Measured Measured Measured Joined Measured Measured Measured Measured
    Measured Measured Measured Measured Listed Measured Measured Measured Measured Measured Measured
    Listed Measured Measured Measured Measured

-- one level of a declaration of a variable, with what its parts measure in their places
abbrev pub MeasuredVariable : Type 0
MeasuredVariable =
    Variable-F Measured Measured Measured Measured Joined Measured Measured Measured Measured
    Measured Measured Measured Measured Listed Measured Measured Measured Measured Measured Measured
    Listed Measured Measured Measured Measured

-- one level of an `also` with its block, with what its parts measure in their places
abbrev pub MeasuredAlso : Type 0
MeasuredAlso =
    Also-F Measured Measured Measured Measured Joined Measured Measured Measured Measured Measured
    Measured Measured Measured Listed Measured Measured Measured Measured Measured Measured Listed
    Measured Measured Measured Measured

-- one level of an item of a block with its `;`, with what its parts measure in their places
abbrev pub MeasuredBlockItem : Type 0
MeasuredBlockItem =
    BlockItem-F Measured Measured Measured Measured Joined Measured Measured Measured Measured
    Measured Measured Measured Measured Listed Measured Measured Measured Measured Measured Measured
    Listed Measured Measured Measured Measured

-- one level of a clause of a `case`, with what its parts measure in their places
abbrev pub MeasuredCaseClause : Type 0
MeasuredCaseClause =
    CaseClause-F Measured Measured Measured Measured Joined Measured Measured Measured Measured
    Measured Measured Measured Measured Listed Measured Measured Measured Measured Measured Measured
    Listed Measured Measured Measured Measured

-- one level of a `catch`, with what its parts measure in their places
abbrev pub MeasuredCatch : Type 0
MeasuredCatch =
    Catch-F Measured Measured Measured Measured Joined Measured Measured Measured Measured Measured
    Measured Measured Measured Listed Measured Measured Measured Measured Measured Measured Listed
    Measured Measured Measured Measured

-- one level of an `elif`, with what its parts measure in their places
abbrev pub MeasuredElif : Type 0
MeasuredElif =
    Elif-F Measured Measured Measured Measured Joined Measured Measured Measured Measured Measured
    Measured Measured Measured Listed Measured Measured Measured Measured Measured Measured Listed
    Measured Measured Measured Measured

-- one level of the `else` of an `if`, with what its parts measure in their places
abbrev pub MeasuredElseBlock : Type 0
MeasuredElseBlock =
    ElseBlock-F Measured Measured Measured Measured Joined Measured Measured Measured Measured
    Measured Measured Measured Measured Listed Measured Measured Measured Measured Measured Measured
    Listed Measured Measured Measured Measured

-- one level of the `else` of a `case` or `typecase`, with what its parts measure in their places
abbrev pub MeasuredElseClause : Type 0
MeasuredElseClause =
    ElseClause-F Measured Measured Measured Measured Joined Measured Measured Measured Measured
    Measured Measured Measured Measured Listed Measured Measured Measured Measured Measured Measured
    Listed Measured Measured Measured Measured

-- one level of a `finally`, with what its parts measure in their places
abbrev pub MeasuredFinally : Type 0
MeasuredFinally =
    Finally-F Measured Measured Measured Measured Joined Measured Measured Measured Measured
    Measured Measured Measured Measured Listed Measured Measured Measured Measured Measured Measured
    Listed Measured Measured Measured Measured

-- one level of a further generator of a `for`, with what its parts measure in their places
abbrev pub MeasuredNextGenerator : Type 0
MeasuredNextGenerator =
    NextGenerator-F Measured Measured Measured Measured Joined Measured Measured Measured Measured
    Measured Measured Measured Measured Listed Measured Measured Measured Measured Measured Measured
    Listed Measured Measured Measured Measured

-- one level of a clause of a `typecase` or `catch`, with what its parts measure in their places
abbrev pub MeasuredTypeClause : Type 0
MeasuredTypeClause =
    TypeClause-F Measured Measured Measured Measured Joined Measured Measured Measured Measured
    Measured Measured Measured Measured Listed Measured Measured Measured Measured Measured Measured
    Listed Measured Measured Measured Measured

-- one level of a list of expressions, with what its parts measure in their places
abbrev pub MeasuredExprList : Type 0
MeasuredExprList =
    ExprList-F Measured Measured Measured Measured Joined Measured Measured Measured Measured
    Measured Measured Measured Measured Listed Measured Measured Measured Measured Measured Measured
    Listed Measured Measured Measured Measured

-- one level of a flat expression, with what its parts measure in their places
abbrev pub MeasuredFlat : Type 0
MeasuredFlat =
    Flat-F Measured Measured Measured Measured Joined Measured Measured Measured Measured Measured
    Measured Measured Measured Listed Measured Measured Measured Measured Measured Measured Listed
    Measured Measured Measured Measured

-- one level of a further expression of a list, with what its parts measure in their places
abbrev pub MeasuredNextExpr : Type 0
MeasuredNextExpr =
    NextExpr-F Measured Measured Measured Measured Joined Measured Measured Measured Measured
    Measured Measured Measured Measured Listed Measured Measured Measured Measured Measured Measured
    Listed Measured Measured Measured Measured

-- one level of a unit, with what its parts measure in their places
abbrev pub MeasuredOperand : Type 0
MeasuredOperand =
    Operand-F Measured Measured Measured Measured Joined Measured Measured Measured Measured
    Measured Measured Measured Measured Listed Measured Measured Measured Measured Measured Measured
    Listed Measured Measured Measured Measured

-- one level of a run, with what its parts measure in their places
abbrev pub MeasuredRun : Type 0
MeasuredRun =
    Run-F Measured Measured Measured Measured Joined Measured Measured Measured Measured Measured
    Measured Measured Measured Listed Measured Measured Measured Measured Measured Measured Listed
    Measured Measured Measured Measured
