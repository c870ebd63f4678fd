-- The chapter "Types": below as a truth that is computed from the rows, which is what a run asks.
-- It goes down the first type and asks which way round; the code goes down both types together.
use Rattle.std.specs.Prelude.{ℕ, Bool, true, false, not, ◌&&◌, List, [], ◌∷◌}
use Rattle.fort_base.specs.declared.ty.Ty.{Ty, out-Ty, fold-Ty}
use Rattle.fort_base.specs.declared.ty.Ty.TheOpen.{Ty-F}
use Rattle.fort_types.specs.Table.{is_set}

-- Which way round two types are asked: the first below the second at `true`, the second below the
-- first at `false`.
abbrev pub named_below : List (List Bool) → Bool → ℕ → ℕ → Bool
named_below rows true i j = is_set rows i j
named_below rows false i j = is_set rows j i

-- What is to be known of a type: whether it is below another one, or that one below it.
abbrev pub Relation : Type 0
Relation = Bool → Ty → Bool

-- Lists of types go place by place, and have one length.
abbrev pub each_below : List Relation → Bool → List Ty → Bool
each_below [] up [] = true
each_below [] up (b ∷ bs) = false
each_below (r ∷ rs) up [] = false
each_below (r ∷ rs) up (b ∷ bs) = r up b && each_below rs up bs

-- Nothing is below all types and `Any` above all; declared types go by their rows, tuples by their
-- parts, arrows with the domain turned round, arrays by elements that are below each other.
abbrev pub below_at : List (List Bool) → Ty-F Relation → Bool → Ty-F Ty → Bool
below_at rows Ty-F.Nothing true b = true
below_at rows Ty-F.Nothing false Ty-F.Nothing = true
below_at rows Ty-F.Nothing false _ = false
below_at rows Ty-F.Any true Ty-F.Any = true
below_at rows Ty-F.Any true _ = false
below_at rows Ty-F.Any false b = true
below_at rows (Ty-F.Named i) true Ty-F.Any = true
below_at rows (Ty-F.Named i) false Ty-F.Nothing = true
below_at rows (Ty-F.Named i) up (Ty-F.Named j) = named_below rows up i.0 j.0
below_at rows (Ty-F.Named i) up _ = false
below_at rows (Ty-F.Tuple rs) true Ty-F.Any = true
below_at rows (Ty-F.Tuple rs) false Ty-F.Nothing = true
below_at rows (Ty-F.Tuple rs) up (Ty-F.Tuple bs) = each_below rs up bs
below_at rows (Ty-F.Tuple rs) up _ = false
below_at rows (Ty-F.Arrow domain result) true Ty-F.Any = true
below_at rows (Ty-F.Arrow domain result) false Ty-F.Nothing = true
below_at rows (Ty-F.Arrow domain result) up (Ty-F.Arrow c d) = domain (not up) c && result up d
below_at rows (Ty-F.Arrow domain result) up _ = false
below_at rows (Ty-F.Array element) true Ty-F.Any = true
below_at rows (Ty-F.Array element) false Ty-F.Nothing = true
below_at rows (Ty-F.Array element) up (Ty-F.Array e) = element up e && element (not up) e
below_at rows (Ty-F.Array element) up _ = false

-- What a type is to another one, the way round that is asked.
abbrev pub relation : List (List Bool) → Ty → Relation
relation rows = fold-Ty Relation (λ layer up b. below_at rows layer up (out-Ty b))
