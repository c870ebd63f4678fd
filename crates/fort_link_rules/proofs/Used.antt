-- Names that a component uses, by marks.
use Rattle.std.proofs.Common.{◌≡◌, ◌++◌, [], ◌⊎◌, inl, inr, Bool, true, false, not, ◌&&◌, List, IsTrue, IsFalse, sym, ◌∙◌, subst}
use Rattle.std.specs.Prelude.{Any, if◌then◌else◌, map}
use Rattle.std.specs.List.{flat_map}
use Rattle.std.proofs.lemmas.Bool.{and_parts, and_from, not-true, not_from_false}
use Rattle.std.proofs.lemmas.List.{append-nil}
use Rattle.std.proofs.lemmas.List.Elements.{Contains-append_left, Contains-append_right, Contains-append_cases}
use Rattle.fort_base.specs.declared.refusal.Place.{Place}
use Rattle.fort_tree.specs.declared.declarations.Declared.{Declared}
use Rattle.fort_tree.specs.declared.spot.Name.{Name}
use Rattle.fort_tree_atoms.specs.AtomNames.{atom_names}
use Rattle.fort_tree_type_names.specs.TypeNames.{type_names}
use Rattle.fort_link_units.specs.declared.unit.Api.{Api}
use Rattle.fort_link_units.specs.declared.unit.ApiDeclared.{ApiDeclared}
use Rattle.fort_link_units.specs.declared.unit.ComponentUnit.{ComponentUnit}
use Rattle.fort_link_units.specs.declared.unit.Unit.{Unit}
use Rattle.fort_link_units.specs.declared.unit.Unit.TheVariants as a_unit
use Rattle.fort_link_rules.specs.declared.marks.Marks.{Marks}
use Rattle.fort_link_rules.specs.Imported.{api_name, declared_names, names_declared, names_declared_in, names_imported_from, names_known, names_of_api, UsesUnknown}
use Rattle.fort_link_rules.specs.Marks.{is_marked, HasMarks, IsStranger, MarksNames}
use Rattle.fort_link_rules.specs.Places.{Gathers, IsThere}
use Rattle.fort_link_rules.specs.Units.{has_name, imports}
use Rattle.fort_link_rules.proofs.Gathering.{gathers_both, gathers_by, gathers_same}
use Rattle.fort_link_rules.proofs.Marking.{has_more, has_none, marks_none}

-- ---- some item of two lists

any_left : {X : Type 0} (P : X → Type 0) (xs ys : List X) → Any P xs → Any P (xs ++ ys)
any_left P xs ys w =
    let c = Contains-append_left xs ys w.1 (w.0, w.2, w.3) in (c.0, w.1, c.1, c.2, w.4)

any_right : {X : Type 0} (P : X → Type 0) (xs ys : List X) → Any P ys → Any P (xs ++ ys)
any_right P xs ys w =
    let c = Contains-append_right xs ys w.1 (w.0, w.2, w.3) in (c.0, w.1, c.1, c.2, w.4)

any_cases : {X : Type 0} (P : X → Type 0) (xs ys : List X) → Any P (xs ++ ys)
    → Any P xs ⊎ Any P ys
any_cases P xs ys w =
    elim (Contains-append_cases xs ys w.1 (w.0, w.2, w.3)) as (λ _. Any P xs ⊎ Any P ys) [
      | inl c ↦ inl (c.0, w.1, c.1, c.2, w.4)
      | inr c ↦ inr (c.0, w.1, c.1, c.2, w.4)
    ]

any_by : {X : Type 0} (P Q : X → Type 0) (xs : List X) → ((x : X) → P x → Q x) → Any P xs
    → Any Q xs
any_by P Q xs f w = (w.0, w.1, w.2, w.3, f w.1 w.4)

-- ---- the marks on known names

pub first_known : (c : ComponentUnit) (old new : Marks) {slice : List Declared} → old.marks ≡ []
    → slice ≡ c.parsed.component.declarations
    → MarksNames (flat_map (λ d. declared_names d.declaration) slice) old new
    → HasMarks (names_declared c.parsed.component ++ []) new
first_known c old new e s m =
    subst (λ l. HasMarks l new) (sym (append-nil (names_declared c.parsed.component)))
    (has_more [] (names_declared c.parsed.component) old new (has_none old e) (subst (λ ds. MarksNames
    (flat_map (λ (d : Declared). declared_names d.declaration) ds) old new) s m))

-- ---- strangers

-- a name is a stranger where the test says so
pub stranger_where : (known declared : Marks) (name : Name) (r : Bool) (old new : List Place)
    → r ≡ (not (is_marked known name) && is_marked declared name)
    → Gathers (IsThere r name.spot.place) old new → Gathers (IsStranger known declared name) old new
stranger_where known declared name r old new e g =
    gathers_by (IsThere r name.spot.place) (IsStranger known declared name) old new
    (λ place w. let p = and_parts (not (is_marked known name)) (is_marked declared name)
    (sym e ∙ w.0) in (not-true (is_marked known name) p.0, p.1, w.1))
    (λ place w. (
      e ∙ and_from (not (is_marked known name)) (is_marked declared name)
          (not_from_false (is_marked known name) w.0) w.1,
      w.2,
    )) g

-- ---- strangers among atoms and types are the unknown names that are used

module _ (known declared : Marks) (k d : List Name) where
  abbrev Strange : Place → Name → Type 0
  Strange place n = IsStranger known declared n place

  abbrev Unknown : Place → Name → Type 0
  Unknown place n =
      IsFalse (has_name k n) × IsTrue (has_name d n) × (n.spot.place ≡ place)

  told : HasMarks k known → HasMarks d declared → (place : Place) (n : Name) → Strange place n
      → Unknown place n
  told hk hd place n w = (sym (hk n) ∙ w.0, sym (hd n) ∙ w.1, w.2)

  asked : HasMarks k known → HasMarks d declared → (place : Place) (n : Name) → Unknown place n
      → Strange place n
  asked hk hd place n w = (hk n ∙ w.0, hd n ∙ w.1, w.2)

  pub unknown_used : (xs ys : List Name) (old mid new : List Place) → HasMarks k known
      → HasMarks d declared → Gathers (λ place. Any (λ n. IsStranger known declared n place) xs) old
      mid → Gathers (λ place. Any (λ n. IsStranger known declared n place) ys) mid new
      → Gathers (λ place. Any (λ n. IsFalse (has_name k n) × IsTrue (has_name d n)
      × (n.spot.place ≡ place)) (xs ++ ys)) old new
  unknown_used xs ys old mid new hk hd g h =
      gathers_by (λ place. Any (Strange place) xs ⊎ Any (Strange place) ys)
      (λ place. Any (Unknown place) (xs ++ ys)) old new to from
      (gathers_both (λ place. Any (Strange place) xs) (λ place. Any (Strange place) ys) old mid new
      g h)
    where
      to : (place : Place) → Any (Strange place) xs ⊎ Any (Strange place) ys
          → Any (Unknown place) (xs ++ ys)
      to place (inl w) = any_left (Unknown place) xs ys
          (any_by (Strange place) (Unknown place) xs (told hk hd place) w)
      to place (inr w) = any_right (Unknown place) xs ys
          (any_by (Strange place) (Unknown place) ys (told hk hd place) w)

      from : (place : Place) → Any (Unknown place) (xs ++ ys)
          → Any (Strange place) xs ⊎ Any (Strange place) ys
      from place w = elim (any_cases (Unknown place) xs ys w) as (λ _. Any (Strange place) xs
          ⊎ Any (Strange place) ys) [
            | inl c ↦ inl (any_by (Unknown place) (Strange place) xs (asked hk hd place) c)
            | inr c ↦ inr (any_by (Unknown place) (Strange place) ys (asked hk hd place) c)
          ]

-- ---- a unit

-- what a component uses
pub used_of_component : (units : List Unit) (c : ComponentUnit) (unit : Unit)
    (known declared : Marks) {atoms types : List Name} (old mid new : List Place)
    → unit ≡ a_unit.Component c → HasMarks (names_known units c) known
    → HasMarks (flat_map names_declared_in units) declared
    → atoms ≡ atom_names c.parsed.component → types ≡ type_names c.parsed.component
    → Gathers (λ place. Any (λ n. IsStranger known declared n place) atoms) old mid
    → Gathers (λ place. Any (λ n. IsStranger known declared n place) types) mid new
    → Gathers (UsesUnknown units unit) old new
used_of_component units c unit known declared old mid new e hk hd ea et g h =
    subst (λ u. Gathers (UsesUnknown units u) old new) (sym e) (unknown_used known declared
    (names_known units c) (flat_map names_declared_in units) (atom_names c.parsed.component)
    (type_names c.parsed.component) old mid new hk hd
    (subst (λ l. Gathers (λ place. Any (λ (n : Name). IsStranger known declared n place) l) old mid)
    ea g)
    (subst (λ l. Gathers (λ place. Any (λ (n : Name). IsStranger known declared n place) l) mid new)
    et h))

-- an API uses none
pub used_of_api : (units : List Unit) (a : Api) (unit : Unit) (old : List Place)
    → unit ≡ a_unit.Api a → Gathers (UsesUnknown units unit) old old
used_of_api units a unit old e =
    subst (λ u. Gathers (UsesUnknown units u) old old) (sym e)
    (gathers_same (UsesUnknown units (a_unit.Api a)) old (λ place w. w))

-- ---- what a component imports from a unit

pub imported_from_component : (c other : ComponentUnit) (unit : Unit) (old : Marks)
    → unit ≡ a_unit.Component other → MarksNames (names_imported_from c unit) old old
imported_from_component c other unit old e =
    subst (λ u. MarksNames (names_imported_from c u) old old) (sym e) (marks_none old)

pub imported_not : (c : ComponentUnit) (a : Api) (r : Bool) (old : Marks)
    → r ≡ imports a.name c → r ≡ false
    → MarksNames (if imports a.name c then names_of_api a else []) old old
imported_not c a r old i f =
    subst (λ b. MarksNames (if b then names_of_api a else []) old old) (sym f ∙ i) (marks_none old)

pub imported_all : (c : ComponentUnit) (a : Api) (r : Bool) (old new : Marks)
    {slice : List ApiDeclared} → r ≡ imports a.name c → r ≡ true → slice ≡ a.declarations
    → MarksNames (map (λ d. api_name d.declaration) slice) old new
    → MarksNames (if imports a.name c then names_of_api a else []) old new
imported_all c a r old new i t s m =
    subst (λ b. MarksNames (if b then names_of_api a else []) old new) (sym t ∙ i)
    (subst (λ ds. MarksNames (map (λ (d : ApiDeclared). api_name d.declaration) ds) old new) s m)

-- ---- what a unit declares

pub declared_in_component : (c : ComponentUnit) (unit : Unit) {slice : List Declared}
    (old new : Marks) → unit ≡ a_unit.Component c → slice ≡ c.parsed.component.declarations
    → MarksNames (flat_map (λ d. declared_names d.declaration) slice) old new
    → MarksNames (names_declared_in unit) old new
declared_in_component c unit old new e s m =
    subst (λ u. MarksNames (names_declared_in u) old new) (sym e)
    (subst (λ ds. MarksNames (flat_map (λ (d : Declared). declared_names d.declaration) ds) old new)
    s m)

pub declared_in_api : (a : Api) (unit : Unit) (old : Marks) → unit ≡ a_unit.Api a
    → MarksNames (names_declared_in unit) old old
declared_in_api a unit old e =
    subst (λ u. MarksNames (names_declared_in u) old old) (sym e) (marks_none old)
