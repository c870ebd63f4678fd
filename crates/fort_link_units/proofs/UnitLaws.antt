-- A token list has at most one unit, and none where it breaks a rule.
use Rattle.std.proofs.Common.{◌≡◌, ◌+◌, false, List, [], ◌∷◌, length, refl, sym, ap, ◌∙◌, subst, arith}
use Rattle.std.specs.List.{Contains}
use Rattle.fort_base.specs.declared.refusal.Place.{Place}
use Rattle.fort_lex_token.specs.declared.reserved.Reserved.TheVariants as reserved
use Rattle.fort_lex_token.specs.declared.token.Tokens.{Tokens}
use Rattle.fort_tree.specs.Tokens.{word, named}
use Rattle.fort_parse_reading.specs.declared.fault.Fault.TheVariants.{TooDeep as Deep}
use Rattle.fort_parse_reading.specs.Parser.{Row, Outcome, Failed}
use Rattle.fort_parse_reading.proofs.Laws.{Gets, reads, ends}
use Rattle.fort_syntax.specs.Answer.{AtMostOne}
use Rattle.fort_link_units.specs.declared.unit.ComponentUnit.{ComponentUnit}
use Rattle.fort_link_units.specs.declared.unit.Unit.{Unit}
use Rattle.fort_link_units.specs.declared.unit.Unit.TheVariants as a_unit
use Rattle.fort_link_units.specs.declared.heads.Heads.{Heads}
use Rattle.fort_link_units.specs.Said.{body_tokens, HasComponent}
use Rattle.fort_link_units.specs.Heads.{heads}
use Rattle.fort_link_units.specs.Limits.{unit_crowded}
use Rattle.fort_link_units.specs.Answer.{TooDeep, Syntax, TooMany, AtMostOneUnit, NeverBoth, begins_api}
use Rattle.fort_link_units.proofs.ComponentFiles.{unit_heads, gets_read, heads_of, plain_tree, same_unit, api_begins}
use Rattle.fort_link_units.proofs.ApiFiles.{one_api}

-- ---- one unit

two_heads : {o : Outcome Heads} {a b : Heads} {r s : Row} → Gets Heads o a r → Gets Heads o b s
    → ((left : Row) → o ≡ Failed Deep left → ⊥) → (a ≡ b) × (r ≡ s)
two_heads (reads {x = x} {rest = rest}) k deep =
    let g = gets_read x rest k refl in (sym g.0, sym g.1)
two_heads (ends {left = left}) k deep = absurd (deep left refl)

pub heads_not_deep : (ts new : Row) → (heads (length ts + 1)).run ts ≡ Failed Deep new → ⊥
heads_not_deep ts new h = let le = (heads (length ts + 1)).deep ts new h in omega arith

same_start : (u v : ComponentUnit) → heads_of u ≡ heads_of v
    → body_tokens u.parsed.component ≡ body_tokens v.parsed.component
    → word reserved.Component u.parsed.component.component ∷ named u.parsed.component.name
    ∷ body_tokens u.parsed.component
    ≡ word reserved.Component v.parsed.component.component ∷ named v.parsed.component.name
    ∷ body_tokens v.parsed.component
same_start u v e f =
    ap (λ (x : Heads). word reserved.Component x.component ∷ named x.name
    ∷ body_tokens u.parsed.component) e
    ∙ ap (λ (x : Row). word reserved.Component v.parsed.component.component
    ∷ named v.parsed.component.name ∷ x) f

two_components : AtMostOne → (tokens : Tokens) (u v : ComponentUnit) → HasComponent tokens u
    → HasComponent tokens v → a_unit.Component u ≡ a_unit.Component v
two_components one tokens u v has have =
    let n = length tokens.list + 1 in
    let g = two_heads (unit_heads n u tokens.list has.yields)
    (unit_heads n v tokens.list have.yields) (heads_not_deep tokens.list) in
    let list = word reserved.Component v.parsed.component.component
    ∷ named v.parsed.component.name ∷ body_tokens v.parsed.component in
    same_unit u.imports v.imports u.exports v.exports u.parsed.component v.parsed.component
    (ap (λ (x : Heads). x.imports) g.0) (ap (λ (x : Heads). x.exports) g.0)
    (one (record { list = list; names = tokens.names; texts = tokens.texts }) u.parsed.component
    v.parsed.component (plain_tree tokens u list has (same_start u v g.0 g.1))
    (plain_tree tokens v list have refl))

no_api_begins : (u : ComponentUnit) (tokens : Tokens) → HasComponent tokens u
    → begins_api tokens.list ≡ false
no_api_begins u tokens has = sym (ap begins_api has.yields)

pub one_unit_of : AtMostOne → AtMostOneUnit
one_unit_of one tokens (a_unit.Component u) (a_unit.Component v) has have =
    two_components one tokens u v has have
one_unit_of one tokens (a_unit.Component u) (a_unit.Api b) has have =
    absurd (api_begins b tokens.list have.yields (no_api_begins u tokens has))
one_unit_of one tokens (a_unit.Api a) (a_unit.Component v) has have =
    absurd (api_begins a tokens.list has.yields (no_api_begins v tokens have))
one_unit_of one tokens (a_unit.Api a) (a_unit.Api b) has have =
    ap a_unit.Api (one_api tokens a b has have)

-- ---- a unit breaks no rule

none_in : (places : List Place) (at : Place) → places ≡ [] → Contains places at → ⊥
none_in places at e h =
    let k = subst (λ (ps : List Place). Contains ps at) e h in omega (arith, k.1)

pub never : NeverBoth
never tokens u rule at is (TooDeep deep) =
    let low = is.shallow deep.front deep.token deep.rest deep.whole in
    let high = deep.deep in omega arith
never tokens u rule at is (Syntax low none fault) = none u is.tree
never tokens u rule at is (TooMany low v has limit) =
    none_in (unit_crowded u) at is.small
    (subst (λ (x : Unit). Contains (unit_crowded x) at) (is.only v has) limit.0)
