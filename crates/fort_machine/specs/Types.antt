-- Chapter "Values": which type is below which, by the rows of a program, and the type of a value.
use Rattle.std.specs.Prelude.{ℕ, Bool, true, List, [], ◌∷◌, map}
use Rattle.fort_base.specs.declared.ty.Ty.{Ty, Tuple, Arrow, Array}
use Rattle.fort_base.specs.declared.ty.Ty.TheVariants.{Named}
use Rattle.fort_core.specs.declared.term.Term.TheOpen.{Value-F}
use Rattle.fort_core.specs.declared.value.Value.{Value, fold-Value}
use Rattle.fort_core.specs.declared.program.BuiltIn.{BuiltIn}
use Rattle.fort_core.specs.declared.program.Program.{Program}
use Rattle.fort_types.specs.Relation.{each_below, relation}

-- Whether one type is below another.
abbrev pub below : Program → Ty → Ty → Bool
below p a b = relation p.types.below a true b

-- Whether each type of a list is below the one in its place of another list.
abbrev pub all_below : Program → List Ty → List Ty → Bool
all_below p ts us = each_below (map (relation p.types.below) ts) true us

-- What a function takes: its one parameter's type, else the tuple of its parameters' types.
abbrev pub domain_of : List (ℕ × Ty) → Ty
domain_of (x ∷ []) = x.1
domain_of xs = Tuple (map (λ (x : ℕ × Ty). x.1) xs)

-- A value's type by its kind: an object's is the one that it names, a tuple's that of its parts, a
-- function's an arrow.
abbrev pub type_at : BuiltIn → Value-F (Unit {0}) Ty Ty → Ty
type_at b (Value-F.Small n) = Named b.small
type_at b (Value-F.Large n) = Named b.large
type_at b (Value-F.Truth t) = Named b.truth
type_at b (Value-F.Text s) = Named b.text
type_at b (Value-F.Tuple ts) = Tuple ts
type_at b (Value-F.Range first count) = Named b.range
type_at b (Value-F.Object id base) = Named id
type_at b (Value-F.Array element base size) = Array element
type_at b (Value-F.Function t) = t

-- The type of a value.
abbrev pub type_of : Program → Value → Ty
type_of p =
    fold-Value (Unit {0}) Ty Ty (λ t. tt) (type_at p.built_in)
    (λ c. Arrow (domain_of c.parameters) c.result)

-- Whether a value has a type: its own is below that one.
abbrev pub has_type : Program → Value → Ty → Bool
has_type p v t = below p (type_of p v) t
