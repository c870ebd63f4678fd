-- The tokens of the whole stand among those of its components.
use Rattle.std.proofs.Common.{◌≡◌, Bool, true, false, if◌then◌else◌, List, [], ◌∷◌, ◌++◌, Option, Some, None, map, inl, inr, refl, sym, ap, subst, ◌∙◌}
use Rattle.std.specs.Prelude.{option_map}
use Rattle.std.specs.List.{flat_map}
use Rattle.std.proofs.lemmas.List.{map-append}
use Rattle.fort_lex_token.specs.declared.token.Token.{Token}
use Rattle.fort_lex_token.specs.declared.reserved.Reserved.TheVariants as reserved
use Rattle.fort_tree.specs.declared.declarations.Component.{Component}
use Rattle.fort_tree.specs.declared.declarations.Declared.{Declared}
use Rattle.fort_tree.specs.declared.declarations.Export.{Export}
use Rattle.fort_tree.specs.declared.spot.Spot.{Spot}
use Rattle.fort_tree.specs.Tokens.{Spellings, word, named, is_spelled}
use Rattle.fort_tree.specs.Said.{SaidEntry, tokens_of, semicolon_tokens, entries_tokens}
use Rattle.fort_tree.specs.Declarations.{said_declared}
use Rattle.fort_tree.specs.Component.{yield}
use Rattle.fort_link_units.specs.declared.unit.ComponentUnit.{ComponentUnit}
use Rattle.fort_link_units.specs.declared.unit.Unit.{Unit}
use Rattle.fort_link_units.specs.Said.{import_tokens, export_tokens, heads_tokens, body_tokens, component_tokens}
use Rattle.fort_link.specs.declared.whole.Head.{Head}
use Rattle.fort_link.specs.Whole.{IsWhole, components, executable, head_of, closed, with_semicolon, declared_before, all_declared_before, last_end}
use Rattle.fort_link_law_whole.proofs.Sub.{Sub, sub_behind, sub_both, sub_same, sub_before}

assoc : {A : Type 0} (a b c : List A) → (a ++ b) ++ c ≡ a ++ (b ++ c)
assoc [] b c = refl
assoc (t ∷ a) b c = ap (λ z. t ∷ z) (assoc a b c)

-- the tokens of declarations
abbrev pub said_by : List Declared → List Token
said_by ds = entries_tokens (map said_declared ds)

pub entries_append : (xs ys : List SaidEntry)
    → entries_tokens (xs ++ ys) ≡ entries_tokens xs ++ entries_tokens ys
entries_append [] ys = refl
entries_append (x ∷ xs) ys =
    ap (λ z. tokens_of x.item ++ (semicolon_tokens x.semicolon ++ z)) (entries_append xs ys)
    ∙ (ap (λ z. tokens_of x.item ++ z)
    (sym (assoc (semicolon_tokens x.semicolon) (entries_tokens xs) (entries_tokens ys)))
    ∙ sym (assoc (tokens_of x.item) (semicolon_tokens x.semicolon ++ entries_tokens xs)
    (entries_tokens ys)))

pub said_append : (xs ys : List Declared) → said_by (xs ++ ys) ≡ said_by xs ++ said_by ys
said_append xs ys =
    ap entries_tokens (map-append said_declared xs ys)
    ∙ entries_append (map said_declared xs) (map said_declared ys)

-- an `end`, alone
abbrev pub end_tokens : Spot → List Token
end_tokens end = word reserved.End end ∷ []

-- ---- declarations with a `;` more

semicolon_sub : (s : Option Spot) (end : Spot)
    → Sub (semicolon_tokens (with_semicolon s end) ++ [])
    ((semicolon_tokens s ++ []) ++ end_tokens end)
semicolon_sub (Some s) end = inl (inl refl, tt)
semicolon_sub None end = inl (inr (end, refl, refl), tt)

closed_sub : (ds : List Declared) (end : Spot)
    → Sub (said_by (closed ds end)) (said_by ds ++ end_tokens end)
closed_sub [] end = tt
closed_sub (d ∷ []) end =
    let item = tokens_of (said_declared d).item in
    subst (Sub (item ++ (semicolon_tokens (with_semicolon d.semicolon end) ++ [])))
    (sym (assoc item (semicolon_tokens d.semicolon ++ []) (end_tokens end)))
    (sub_both item item _ _ (sub_same item) (semicolon_sub d.semicolon end))
closed_sub (d ∷ e ∷ ds) end =
    let item = tokens_of (said_declared d).item in
    let semi = semicolon_tokens d.semicolon in
    let rest = said_by (e ∷ ds) in
    subst (Sub (item ++ (semi ++ said_by (closed (e ∷ ds) end))))
    (sym (assoc item (semi ++ rest) (end_tokens end)
    ∙ ap (λ z. item ++ z) (assoc semi rest (end_tokens end))))
    (sub_both item item _ _ (sub_same item)
    (sub_both semi semi _ _ (sub_same semi) (closed_sub (e ∷ ds) end)))

-- ---- all declarations and the last `end`

-- the tokens of components behind their heads
abbrev pub bodies : List ComponentUnit → List Token
bodies us = flat_map (λ u. body_tokens u.parsed.component) us

before_sub : (u : ComponentUnit) (others : List Declared) (last : Spot) (more : List Token)
    → Sub (said_by others ++ end_tokens last) more
    → Sub (said_by (declared_before u others) ++ end_tokens last)
    (body_tokens u.parsed.component ++ more)
before_sub u [] last more h =
    let c = u.parsed.component in
    sub_both (said_by c.declarations) (body_tokens c) (end_tokens last) more
    (sub_before (said_by c.declarations) (said_by c.declarations) (end_tokens c.end)
    (sub_same (said_by c.declarations))) h
before_sub u (d ∷ others) last more h =
    let c = u.parsed.component in
    let own = closed c.declarations c.end in
    subst (λ z. Sub z (body_tokens c ++ more))
    (sym (ap (λ z. z ++ end_tokens last) (said_append own (d ∷ others))
    ∙ assoc (said_by own) (said_by (d ∷ others)) (end_tokens last)))
    (sub_both (said_by own) (body_tokens c) (said_by (d ∷ others) ++ end_tokens last) more
    (closed_sub c.declarations c.end) h)

pub all_sub_bodies : (us : List ComponentUnit) (last : Spot) → last_end us ≡ Some last
    → Sub (said_by (all_declared_before us []) ++ end_tokens last) (bodies us)
all_sub_bodies [] last e = absurd cc
all_sub_bodies (u ∷ []) last e =
    let is : u.parsed.component.end ≡ last = cc in
    let c = u.parsed.component in
    subst (λ s. Sub (said_by c.declarations ++ end_tokens s) (bodies (u ∷ []))) is
    (sub_before (body_tokens c) (body_tokens c) [] (sub_same (body_tokens c)))
all_sub_bodies (u ∷ v ∷ us) last e =
    before_sub u (all_declared_before (v ∷ us) []) last (bodies (v ∷ us))
    (all_sub_bodies (v ∷ us) last e)

-- ---- the head

-- the tokens of a head
abbrev pub head_tokens : Head → List Token
head_tokens h = word reserved.Component h.component ∷ named h.name ∷ export_tokens h.export

export_sub : (names : Spellings) (exports : List Export) (e : Export)
    → executable names exports ≡ Some e
    → Sub (export_tokens e) (flat_map export_tokens exports)
export_sub names [] e h = absurd cc
export_sub names (x ∷ xs) e h = at (is_spelled "Executable" names x.name) (export_sub names xs e) h
  where
    at : (b : Bool)
        → (executable names xs ≡ Some e → Sub (export_tokens e) (flat_map export_tokens xs))
        → (if b then Some x else executable names xs) ≡ Some e
        → Sub (export_tokens e) (export_tokens x ++ flat_map export_tokens xs)
    at true ih h =
        let is : x ≡ e = cc in
        subst (λ (y : Export). Sub (export_tokens y) (export_tokens x ++ flat_map export_tokens xs)) is
        (sub_before (export_tokens x) (export_tokens x) (flat_map export_tokens xs)
        (sub_same (export_tokens x)))
    at false ih h =
        sub_behind (export_tokens e) (export_tokens x) (flat_map export_tokens xs) (ih h)

-- a component's head and what is behind all its heads
pub head_sub : (names : Spellings) (u : ComponentUnit) (h : Head) → head_of names u ≡ Some h
    → Sub (head_tokens h ++ body_tokens u.parsed.component) (component_tokens u)
head_sub names u h e = at (executable names u.exports) refl e
  where
    at : (x : Option Export) → executable names u.exports ≡ x
        → option_map (λ (y : Export). record {
          component = u.parsed.component.component;
          name = u.parsed.component.name;
          export = y;
        }) x ≡ Some h
        → Sub (head_tokens h ++ body_tokens u.parsed.component) (component_tokens u)
    at None x e = absurd cc
    at (Some y) x e =
        let c = u.parsed.component in
        let is : ◌≡◌ {A = Head} (record { component = c.component; name = c.name; export = y }) h =
        cc in
        subst (λ (z : Head). Sub (head_tokens z ++ body_tokens c) (component_tokens u)) is
        (inl (
          inl refl,
          inl (
            inl refl,
            sub_both (export_tokens y) (heads_tokens u.imports u.exports) (body_tokens c)
                (body_tokens c)
                (sub_behind (export_tokens y) (flat_map import_tokens u.imports)
                (flat_map export_tokens u.exports) (export_sub names u.exports y x))
                (sub_same (body_tokens c)),
          ),
        ))

-- ---- the whole

-- the tokens of the whole are its head's and those behind
pub whole_tokens : (names texts : Spellings) (units : List Unit) (c : Component)
    → (w : IsWhole names texts units c)
    → yield c ≡ head_tokens w.head
    ++ (said_by (all_declared_before (components units) []) ++ end_tokens w.end)
whole_tokens names texts units c w = ap yield w.is
