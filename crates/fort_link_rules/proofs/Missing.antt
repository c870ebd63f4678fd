-- What an API promises and isn't provided.
use Rattle.std.proofs.Common.{◌≡◌, ◌↔◌, Bool, true, false, not, List, Contains, IsTrue, sym, ◌∙◌, subst}
use Rattle.std.specs.Prelude.{Any}
use Rattle.std.proofs.lemmas.Bool.{not-true, not_from_false, false_from_ne_true, false≢true}
use Rattle.fort_base.specs.declared.refusal.Place.{Place}
use Rattle.fort_link_units.specs.declared.unit.Api.{Api}
use Rattle.fort_link_units.specs.declared.unit.ApiDeclared.{ApiDeclared}
use Rattle.fort_link_units.specs.declared.unit.ComponentUnit.{ComponentUnit}
use Rattle.fort_link_units.specs.declared.unit.Unit.{Unit}
use Rattle.fort_link_units.specs.declared.unit.Unit.TheVariants as a_unit
use Rattle.fort_link_rules.specs.declared.signatures.Signature.{Signature}
use Rattle.fort_link_rules.specs.Places.{Gathers, IsThere}
use Rattle.fort_link_rules.specs.Provided.{IsMissing, IsMissingAt, IsMissingIn, LacksPromised}
use Rattle.fort_link_rules.specs.Signatures.{promised, promised_at, provided}
use Rattle.fort_link_rules.specs.Units.{exports}
use Rattle.fort_link_rules.proofs.Gathering.{gathers_by, gathers_same}

-- a promise is missing where the test finds none
pub missing_where : (signatures : List Signature) (d : ApiDeclared) (r : Bool)
    (signature : Signature) (at : Place) (old new : List Place)
    → signature ≡ promised d.declaration → at ≡ promised_at d.declaration
    → (IsTrue r ↔ Contains signatures signature) → Gathers (IsThere (not r) at) old new
    → Gathers (IsMissingAt signatures d) old new
missing_where signatures d r signature at old new e p t g =
    gathers_by (IsThere (not r) at) (IsMissingAt signatures d) old new (λ place w. (
      λ c. false≢true (sym (not-true r w.0) ∙ t.1 (subst (Contains signatures) (sym e) c)),
      sym p ∙ w.1,
    )) (λ place w. (
      not_from_false r (false_from_ne_true r (λ q. w.0 (subst
          (Contains signatures) e (t.0 q)))),
      p ∙ w.1,
    )) g

-- of all units, those of a component
pub lacks : (units : List Unit) (c : ComponentUnit) (signatures : List Signature) (unit : Unit)
    (old new : List Place) → unit ≡ a_unit.Component c → signatures ≡ provided c.parsed.component
    → Gathers (λ place. Any (λ u. IsMissingIn signatures unit u place) units) old new
    → Gathers (LacksPromised units unit) old new
lacks units c signatures unit old new e s g =
    subst (λ u. Gathers (LacksPromised units u) old new) (sym e) (subst (λ l. Gathers (λ place. Any
    (λ u. IsMissingIn l (a_unit.Component c) u place) units) old new) s (subst (λ w. Gathers
    (λ place. Any (λ u. IsMissingIn signatures w u place) units) old new) e g))

-- an API lacks nothing
pub lacks_none : (units : List Unit) (a : Api) (unit : Unit) (old : List Place)
    → unit ≡ a_unit.Api a → Gathers (LacksPromised units unit) old old
lacks_none units a unit old e =
    subst (λ u. Gathers (LacksPromised units u) old old) (sym e)
    (gathers_same (LacksPromised units (a_unit.Api a)) old (λ place w. w))

-- a component promises nothing
pub missing_none : (signatures : List Signature) (exporter : Unit) (c : ComponentUnit)
    (unit : Unit) (old : List Place) → unit ≡ a_unit.Component c
    → Gathers (IsMissingIn signatures exporter unit) old old
missing_none signatures exporter c unit old e =
    subst (λ u. Gathers (IsMissingIn signatures exporter u) old old) (sym e)
    (gathers_same (IsMissingIn signatures exporter (a_unit.Component c)) old (λ place w. w))

-- what isn't exported isn't asked
pub missing_unasked : (signatures : List Signature) (exporter : Unit) (a : Api) (r : Bool)
    (old : List Place) → r ≡ exports a.name exporter → r ≡ false
    → Gathers (IsMissingIn signatures exporter (a_unit.Api a)) old old
missing_unasked signatures exporter a r old x f =
    gathers_same (IsMissingIn signatures exporter (a_unit.Api a)) old (λ place w.
    false≢true (sym f ∙ x ∙ w.0))

-- what an exported API promises
pub missing_asked : (signatures : List Signature) (exporter : Unit) (a : Api) (r : Bool)
    (old new : List Place) {slice : List ApiDeclared} → r ≡ exports a.name exporter → r ≡ true
    → slice ≡ a.declarations → Gathers (IsMissing signatures slice) old new
    → Gathers (IsMissingIn signatures exporter (a_unit.Api a)) old new
missing_asked signatures exporter a r old new x t s g =
    gathers_by (IsMissing signatures a.declarations)
    (IsMissingIn signatures exporter (a_unit.Api a)) old new (λ place w. (sym x ∙ t, w)) (λ place w.
    w.1) (subst (λ l. Gathers (IsMissing signatures l) old new) s g)

-- an exported API, by its unit
pub missing_in_api : (signatures : List Signature) (exporter : Unit) (a : Api) (unit : Unit)
    (old new : List Place) → unit ≡ a_unit.Api a
    → Gathers (IsMissingIn signatures exporter (a_unit.Api a)) old new
    → Gathers (IsMissingIn signatures exporter unit) old new
missing_in_api signatures exporter a unit old new e g =
    subst (λ u. Gathers (IsMissingIn signatures exporter u) old new) (sym e) g
