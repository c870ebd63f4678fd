-- The places of declarations and of their members.
use Rattle.std.proofs.Common.{◌≡◌, [], ◌∷◌, List, map, refl, ap, ◌∙◌}
use Rattle.fort_base.specs.declared.refusal.Place.{Place}
use Rattle.fort_tree.specs.Limits.{declaration_places, measured_declaration, measured_object_member, measured_trait_member, members_of}
use Rattle.fort_tree.specs.Measured.{Measured}
use Rattle.fort_tree.specs.declared.declarations.Declaration.{Declaration}
use Rattle.fort_tree.specs.declared.declarations.Declaration.TheVariants as declaration
use Rattle.fort_tree.specs.declared.declarations.Declared.{Declared}
use Rattle.fort_tree.specs.declared.declarations.Function.{Function}
use Rattle.fort_tree.specs.declared.declarations.Object.{Object}
use Rattle.fort_tree.specs.declared.declarations.ObjectEntry.{ObjectEntry}
use Rattle.fort_tree.specs.declared.declarations.Trait.{Trait}
use Rattle.fort_tree.specs.declared.declarations.TraitEntry.{TraitEntry}
use Rattle.fort_tree.specs.declared.declarations.Variable.{Variable}

-- the place of a declaration, without those of its members
abbrev pub own_place : Declared → Place
own_place d = (measured_declaration d.declaration).spot.place

mapped_twice : {A B C : Type 0} (g : B → C) (f : A → B) (xs : List A)
    → map g (map f xs) ≡ map (λ x. g (f x)) xs
mapped_twice g f [] = refl
mapped_twice {C = C} g f (x ∷ xs) = ap (λ (l : List C). g (f x) ∷ l) (mapped_twice g f xs)

-- by what the declaration is
members_by : (d : Declared) (x : Declaration) → d.declaration ≡ x
    → declaration_places d ≡ own_place d ∷ map (λ m. m.spot.place) (members_of x)
members_by d x e =
    ap (λ y. own_place d ∷ map (λ (m : Measured). m.spot.place) (members_of y)) e

pub of_variable : (d : Declared) (v : Variable) → d.declaration ≡ declaration.Variable v
    → declaration_places d ≡ own_place d ∷ []
of_variable d v e = members_by d (declaration.Variable v) e

pub of_function : (d : Declared) (f : Function) → d.declaration ≡ declaration.Function f
    → declaration_places d ≡ own_place d ∷ []
of_function d f e = members_by d (declaration.Function f) e

pub of_trait : (d : Declared) (t : Trait) → d.declaration ≡ declaration.Trait t
    → declaration_places d
    ≡ own_place d ∷ map (λ e. (measured_trait_member e.member).spot.place) t.members
of_trait d t e =
    members_by d (declaration.Trait t) e ∙ ap (λ (l : List Place). own_place d ∷ l)
    (mapped_twice (λ (m : Measured). m.spot.place)
    (λ (x : TraitEntry). measured_trait_member x.member) t.members)

pub of_object : (d : Declared) (o : Object) → d.declaration ≡ declaration.Object o
    → declaration_places d
    ≡ own_place d ∷ map (λ e. (measured_object_member e.member).spot.place) o.members
of_object d o e =
    members_by d (declaration.Object o) e ∙ ap (λ (l : List Place). own_place d ∷ l)
    (mapped_twice (λ (m : Measured). m.spot.place)
    (λ (x : ObjectEntry). measured_object_member x.member) o.members)
