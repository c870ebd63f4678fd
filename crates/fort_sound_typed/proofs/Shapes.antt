-- What stands below what, one level deep.
use Rattle.std.specs.Prelude.{List, [], ◌∷◌}
use Rattle.fort_base.specs.declared.ty.Ty.{Ty}
use Rattle.fort_base.specs.declared.ty.Ty.TheOpen.{Ty-F}
use Rattle.fort_core.specs.declared.program.Program.{Program}
use Rattle.fort_sound_typed.specs.Typing.{Below}

-- one list of types below another, place by place.
abbrev pub AllBelow : Program → List Ty → List Ty → Type 0
AllBelow k [] [] = Unit {0}
AllBelow k (A ∷ As) (B ∷ Bs) = Below k A B × AllBelow k As Bs
AllBelow k _ _ = ⊥

abbrev pub Shape : Program → Ty-F Ty → Ty-F Ty → Type 0
Shape k Ty-F.Nothing b = Unit {0}
Shape k a Ty-F.Any = Unit {0}
Shape k (Ty-F.Named i) (Ty-F.Named j) = Unit {0}
Shape k (Ty-F.Tuple As) (Ty-F.Tuple Bs) = AllBelow k As Bs
Shape k (Ty-F.Arrow A B) (Ty-F.Arrow C D) = Below k C A × Below k B D
Shape k (Ty-F.Array A) (Ty-F.Array B) = Below k A B × Below k B A
Shape k _ _ = ⊥
