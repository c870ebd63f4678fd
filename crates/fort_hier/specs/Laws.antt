-- The chapter "Types", what an accepted hierarchy keeps: what acceptance is worth. The code does
-- nothing for these laws.
use Rattle.std.specs.Prelude.{List}
use Rattle.fort_base.specs.declared.ty.Ty.{Ty}
use Rattle.fort_tree.specs.declared.declarations.Component.{Component}
use Rattle.fort_tree.specs.declared.spot.Name.{Name}
use Rattle.fort_types.specs.Hierarchy.{Sound}
use Rattle.fort_types.specs.Types.{Below, Apart, Solid}
use Rattle.fort_hier.specs.declared.accepted.Hierarchy.{Hierarchy}
use Rattle.fort_hier.specs.Hierarchies.{declares, IsHierarchy}

-- The declared types of an accepted component, built-in ones among them, are a sound hierarchy.
abbrev pub AcceptedIsSound : Type 0
AcceptedIsSound = (c : Component) (mentioned : List Name) (h : Hierarchy)
    → IsHierarchy c mentioned h → Sound (declares c)

-- In an accepted component no solid type is below two types that are apart.
abbrev pub NeverBelowTwo : Type 0
NeverBelowTwo = (c : Component) (mentioned : List Name) (h : Hierarchy) → IsHierarchy c mentioned h
    → (a b x : Ty) → Apart (declares c) a b → Solid x → Below (declares c) x a
    → Below (declares c) x b → ⊥
