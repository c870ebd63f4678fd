-- The chapter "Components and APIs", 704: what an API promises and its exporter doesn't provide.
-- The code looks among the exporter's signatures of the same name.
use Rattle.std.specs.Prelude.{◌≡◌, IsTrue, List, Contains, Any}
use Rattle.fort_base.specs.declared.refusal.Place.{Place}
use Rattle.fort_link_units.specs.declared.unit.ApiDeclared.{ApiDeclared}
use Rattle.fort_link_units.specs.declared.unit.Unit.{Unit}
use Rattle.fort_link_units.specs.declared.unit.Unit.TheVariants as a_unit
use Rattle.fort_link_rules.specs.declared.signatures.Signature.{Signature}
use Rattle.fort_link_rules.specs.Units.{exports}
use Rattle.fort_link_rules.specs.Signatures.{promised, promised_at, provided}

-- A declaration of an API stands at a place, and these signatures haven't the like of it.
abbrev pub IsMissingAt : List Signature → ApiDeclared → Place → Type 0
IsMissingAt signatures d place = (¬ (Contains signatures (promised d.declaration)))
    × (promised_at d.declaration ≡ place)

-- the same of some declaration
abbrev pub IsMissing : List Signature → List ApiDeclared → Place → Type 0
IsMissing signatures declarations place = Any (λ d. IsMissingAt signatures d place) declarations

-- A unit exports an API, and these signatures haven't what it promises there.
abbrev pub IsMissingIn : List Signature → Unit → Unit → Place → Type 0
IsMissingIn signatures exporter (a_unit.Component c) place = ⊥
IsMissingIn signatures exporter (a_unit.Api a) place = IsTrue (exports a.name exporter)
    × IsMissing signatures a.declarations place

-- A component doesn't provide what an API that it exports promises there.
abbrev pub LacksPromised : List Unit → Unit → Place → Type 0
LacksPromised units (a_unit.Component c) place = Any (λ u. IsMissingIn
    (provided c.parsed.component) (a_unit.Component c) u place) units
LacksPromised units (a_unit.Api a) place = ⊥

-- 704: an API's declaration has no top-level declaration in its exporter of the same name and kind,
-- for functions and variables with types written alike.
abbrev pub IsNotProvided : List Unit → Place → Type 0
IsNotProvided units place = Any (λ u. LacksPromised units u place) units
