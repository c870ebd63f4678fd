-- Whether the word `spawn` stands in the whole.
use Rattle.std.proofs.Common.{◌≡◌, Bool, true, false, ◌||◌, List, [], ◌∷◌, ◌++◌, Option, Some, None, map, refl, sym, ap, ap₂, ◌∙◌}
use Rattle.std.specs.List.{list_any, flat_map}
use Rattle.std.proofs.lemmas.List.{map-append}
use Rattle.fort_lex_token.specs.declared.token.Token.{Token}
use Rattle.fort_tree.specs.declared.declarations.Component.{Component}
use Rattle.fort_tree.specs.declared.declarations.Declared.{Declared}
use Rattle.fort_tree.specs.declared.declarations.Export.{Export}
use Rattle.fort_tree.specs.declared.spot.Spot.{Spot}
use Rattle.fort_tree.specs.Said.{SaidEntry, tokens_of, semicolon_tokens, entries_tokens}
use Rattle.fort_tree.specs.Declarations.{said_declared}
use Rattle.fort_tree.specs.Tokens.{Spellings}
use Rattle.fort_tree.specs.Component.{yield}
use Rattle.fort_spawn.specs.Rewritten.{is_spawn, has_spawn, spawns}
use Rattle.fort_link_units.specs.declared.unit.ComponentUnit.{ComponentUnit}
use Rattle.fort_link_units.specs.declared.unit.Import.{Import}
use Rattle.fort_link_units.specs.declared.unit.Unit.{Unit}
use Rattle.fort_link_units.specs.declared.unit.Unit.TheVariants as a_unit
use Rattle.fort_link_units.specs.Said.{import_tokens, export_tokens, heads_tokens, body_tokens, component_tokens}
use Rattle.fort_link.specs.Whole.{IsWhole, components, closed, with_semicolon, declared_before, all_declared_before}
use Rattle.fort_link.specs.Reading.{unit_spawns}

pub any_append : (xs ys : List Token) → has_spawn (xs ++ ys) ≡ (has_spawn xs || has_spawn ys)
any_append [] ys = refl
any_append (x ∷ xs) ys =
    ap (λ b. is_spawn x || b) (any_append xs ys)
    ∙ or_assoc (is_spawn x) (has_spawn xs) (has_spawn ys)
  where
    or_assoc : (a b c : Bool) → (a || (b || c)) ≡ ((a || b) || c)
    or_assoc true b c = refl
    or_assoc false b c = refl

or_false : (b : Bool) → (b || false) ≡ b
or_false true = refl
or_false false = refl

-- the tokens of declarations
abbrev pub said_by : List Declared → List Token
said_by ds = entries_tokens (map said_declared ds)

pub entries_append : (xs ys : List SaidEntry)
    → entries_tokens (xs ++ ys) ≡ entries_tokens xs ++ entries_tokens ys
entries_append [] ys = refl
entries_append (x ∷ xs) ys =
    ap (λ z. tokens_of x.item ++ (semicolon_tokens x.semicolon ++ z)) (entries_append xs ys)
    ∙ (ap (λ z. tokens_of x.item ++ z)
    (sym (assoc (semicolon_tokens x.semicolon) (entries_tokens xs) (entries_tokens ys)))
    ∙ sym (assoc (tokens_of x.item) (semicolon_tokens x.semicolon ++ entries_tokens xs)
    (entries_tokens ys)))
  where
    assoc : (a b c : List Token) → (a ++ b) ++ c ≡ a ++ (b ++ c)
    assoc [] b c = refl
    assoc (t ∷ a) b c = ap (λ z. t ∷ z) (assoc a b c)

pub said_append : (xs ys : List Declared) → said_by (xs ++ ys) ≡ said_by xs ++ said_by ys
said_append xs ys =
    ap entries_tokens (map-append said_declared xs ys)
    ∙ entries_append (map said_declared xs) (map said_declared ys)

-- ---- a `;` more

one_closed : (s : Option Spot) (end : Spot) (rest : List Token)
    → has_spawn (semicolon_tokens (with_semicolon s end) ++ rest)
    ≡ has_spawn (semicolon_tokens s ++ rest)
one_closed (Some s) end rest = refl
one_closed None end rest = refl

closed_spawns : (ds : List Declared) (end : Spot)
    → has_spawn (said_by (closed ds end)) ≡ has_spawn (said_by ds)
closed_spawns [] end = refl
closed_spawns (d ∷ []) end =
    let item = tokens_of (said_declared d).item in
    any_append item (semicolon_tokens (with_semicolon d.semicolon end) ++ [])
    ∙ (ap (λ b. has_spawn item || b) (one_closed d.semicolon end [])
    ∙ sym (any_append item (semicolon_tokens d.semicolon ++ [])))
closed_spawns (d ∷ e ∷ ds) end =
    let item = tokens_of (said_declared d).item in
    let semi = semicolon_tokens d.semicolon in
    any_append item (semi ++ said_by (closed (e ∷ ds) end))
    ∙ (ap (λ b. has_spawn item || b) (any_append semi (said_by (closed (e ∷ ds) end))
    ∙ (ap (λ b. has_spawn semi || b) (closed_spawns (e ∷ ds) end)
    ∙ sym (any_append semi (said_by (e ∷ ds)))))
    ∙ sym (any_append item (semi ++ said_by (e ∷ ds))))

before_spawns : (u : ComponentUnit) (others : List Declared)
    → has_spawn (said_by (declared_before u others))
    ≡ (has_spawn (said_by u.parsed.component.declarations) || has_spawn (said_by others))
before_spawns u [] = sym (or_false (has_spawn (said_by u.parsed.component.declarations)))
before_spawns u (d ∷ others) =
    let c = u.parsed.component in
    ap has_spawn (said_append (closed c.declarations c.end) (d ∷ others))
    ∙ (any_append (said_by (closed c.declarations c.end)) (said_by (d ∷ others))
    ∙ ap (λ b. b || has_spawn (said_by (d ∷ others))) (closed_spawns c.declarations c.end))

-- ---- a component's own tokens

imports_none : (is : List Import) → has_spawn (flat_map import_tokens is) ≡ false
imports_none [] = refl
imports_none (i ∷ is) = imports_none is

exports_none : (es : List Export) → has_spawn (flat_map export_tokens es) ≡ false
exports_none [] = refl
exports_none (e ∷ es) = exports_none es

own_spawns : (u : ComponentUnit)
    → has_spawn (component_tokens u) ≡ has_spawn (said_by u.parsed.component.declarations)
own_spawns u =
    let c = u.parsed.component in
    any_append (heads_tokens u.imports u.exports) (body_tokens c)
    ∙ (ap₂ (λ a b. a || b)
    (any_append (flat_map import_tokens u.imports) (flat_map export_tokens u.exports)
    ∙ ap₂ (λ a b. a || b) (imports_none u.imports) (exports_none u.exports))
    (any_append (said_by c.declarations) _ ∙ or_false (has_spawn (said_by c.declarations))))

-- ---- the whole

all_spawn : (units : List Unit)
    → has_spawn (said_by (all_declared_before (components units) []))
    ≡ list_any unit_spawns units
all_spawn [] = refl
all_spawn (a_unit.Component u ∷ us) =
    before_spawns u (all_declared_before (components us) [])
    ∙ ap₂ (λ a b. a || b) (sym (own_spawns u)) (all_spawn us)
all_spawn (a_unit.Api a ∷ us) = all_spawn us

whole_spawns : (c : Component) (e : Export) → c.export ≡ Some e
    → spawns c ≡ has_spawn (said_by c.declarations)
whole_spawns c e h =
    ap (λ (x : Option Export). has_spawn (yield (with_export x))) h
    ∙ (any_append (said_by c.declarations) _ ∙ or_false (has_spawn (said_by c.declarations)))
  where
    with_export : Option Export → Component
    with_export x = record {
      component = c.component;
      name = c.name;
      export = x;
      declarations = c.declarations;
      end = c.end;
      names = c.names;
      texts = c.texts;
    }

pub spawning : (names texts : Spellings) (units : List Unit) (c : Component)
    → IsWhole names texts units c → list_any unit_spawns units ≡ spawns c
spawning names texts units c h =
    sym (whole_spawns c h.head.export (ap (λ (x : Component). x.export) h.is)
    ∙ (ap (λ (x : Component). has_spawn (said_by x.declarations)) h.is ∙ all_spawn units))
