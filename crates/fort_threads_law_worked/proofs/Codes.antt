-- Types of the worked program as data that is computed with.
use Rattle.std.proofs.Common.{◌≡◌, ℕ, ◌&&◌, Bool, true, false, not, List, [], ◌∷◌, refl, ap, ◌∙◌}
use Rattle.fort_base.specs.declared.ty.Ty.{Ty, Tuple, Arrow, out-Ty}
use Rattle.fort_base.specs.declared.ty.Ty.TheVariants.{Any, Named, outs-Any, outs-Named, outs-Tuple, outs-Arrow}
use Rattle.fort_base.specs.declared.ty.Ty.TheOpen.{Ty-F}
use Rattle.fort_types.specs.Relation.{relation}
use Rattle.fort_types.specs.Table.{is_set}
use Rattle.fort_machine.specs.Types.{below, all_below}
use Rattle.fort_machine.specs.Worked.{type}
use Rattle.fort_sound_typed.proofs.Computed.{told, told_out}
use Rattle.fort_threads_law_worked.specs.Types.{rows}
use Rattle.fort_threads_law_worked.specs.Worked.{worked}

-- the types that stand in it
pub data Code : Type 0 where
  any : Code
  nothing : Code
  named : (id : ℕ) → Code
  to : (domain result : Code) → Code

abbrev pub ty_of : Code → Ty
ty_of any = Any
ty_of nothing = Tuple []
ty_of (named i) = Named (type i)
ty_of (to a b) = Arrow (ty_of a) (ty_of b)

abbrev pub layer_of : Code → Ty-F Ty
layer_of any = Ty-F.Any
layer_of nothing = Ty-F.Tuple []
layer_of (named i) = Ty-F.Named (type i)
layer_of (to a b) = Ty-F.Arrow (ty_of a) (ty_of b)

pub out_code : (a : Code) → out-Ty (ty_of a) ≡ layer_of a
out_code any = outs-Any
out_code nothing = outs-Tuple []
out_code (named i) = outs-Named (type i)
out_code (to a b) = outs-Arrow (ty_of a) (ty_of b)

-- which is below which: the first below the second at `true`, else the second below the first
abbrev pub goes : Bool → Code → Code → Bool
goes true any any = true
goes true any _ = false
goes false any b = true
goes true nothing any = true
goes up nothing nothing = true
goes up nothing _ = false
goes true (named i) any = true
goes true (named i) (named j) = is_set rows i j
goes false (named i) (named j) = is_set rows j i
goes up (named i) _ = false
goes true (to a b) any = true
goes up (to a b) (to c d) = goes (not up) a c && goes up b d
goes up (to a b) _ = false

abbrev pub is_below : Code → Code → Bool
is_below a b = goes true a b

layers : (a b : Code) (up : Bool) → relation rows (ty_of a) up (ty_of b)
    ≡ told rows (layer_of a) up (layer_of b)
layers a b up =
    told_out rows (ty_of a) (ty_of b) up
    ∙ ap (λ z. told rows z up (out-Ty (ty_of b))) (out_code a)
    ∙ ap (λ z. told rows (layer_of a) up z) (out_code b)

related : (a b : Code) (up : Bool) → relation rows (ty_of a) up (ty_of b) ≡ goes up a b
related any any true = layers any any true
related any any false = layers any any false
related any nothing true = layers any nothing true
related any nothing false = layers any nothing false
related any (named j) true = layers any (named j) true
related any (named j) false = layers any (named j) false
related any (to c d) true = layers any (to c d) true
related any (to c d) false = layers any (to c d) false
related nothing any true = layers nothing any true
related nothing any false = layers nothing any false
related nothing nothing true = layers nothing nothing true
related nothing nothing false = layers nothing nothing false
related nothing (named j) true = layers nothing (named j) true
related nothing (named j) false = layers nothing (named j) false
related nothing (to c d) true = layers nothing (to c d) true
related nothing (to c d) false = layers nothing (to c d) false
related (named i) any true = layers (named i) any true
related (named i) any false = layers (named i) any false
related (named i) nothing true = layers (named i) nothing true
related (named i) nothing false = layers (named i) nothing false
related (named i) (named j) true = layers (named i) (named j) true
related (named i) (named j) false = layers (named i) (named j) false
related (named i) (to c d) true = layers (named i) (to c d) true
related (named i) (to c d) false = layers (named i) (to c d) false
related (to a b) any true = layers (to a b) any true
related (to a b) any false = layers (to a b) any false
related (to a b) nothing true = layers (to a b) nothing true
related (to a b) nothing false = layers (to a b) nothing false
related (to a b) (named j) true = layers (to a b) (named j) true
related (to a b) (named j) false = layers (to a b) (named j) false
related (to a b) (to c d) true =
    layers (to a b) (to c d) true
    ∙ ap (λ z. z && relation rows (ty_of b) true (ty_of d)) (related a c false)
    ∙ ap (λ z. goes false a c && z) (related b d true)
related (to a b) (to c d) false =
    layers (to a b) (to c d) false
    ∙ ap (λ z. z && relation rows (ty_of b) false (ty_of d)) (related a c true)
    ∙ ap (λ z. goes true a c && z) (related b d false)

pub below_is : (a b : Code) → below worked (ty_of a) (ty_of b) ≡ is_below a b
below_is a b = related a b true

-- lists of them
abbrev pub tys_of : List Code → List Ty
tys_of [] = []
tys_of (a ∷ cs) = ty_of a ∷ tys_of cs

abbrev pub are_below : List Code → List Code → Bool
are_below [] [] = true
are_below [] (b ∷ bs) = false
are_below (a ∷ cs) [] = false
are_below (a ∷ cs) (b ∷ bs) = is_below a b && are_below cs bs

pub all_are : (cs bs : List Code) → all_below worked (tys_of cs) (tys_of bs) ≡ are_below cs bs
all_are [] [] = refl
all_are [] (b ∷ bs) = refl
all_are (a ∷ cs) [] = refl
all_are (a ∷ cs) (b ∷ bs) =
    ap (λ z. z && all_below worked (tys_of cs) (tys_of bs)) (below_is a b)
    ∙ ap (λ z. is_below a b && z) (all_are cs bs)
