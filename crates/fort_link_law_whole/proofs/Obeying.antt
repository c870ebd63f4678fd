-- The whole keeps the rules on gaps and names.
use Rattle.std.proofs.Common.{◌≡◌, ℕ, Bool, true, false, ◌&&◌, if◌then◌else◌, List, [], ◌∷◌, ◌++◌, Option, Some, None, length, map, inl, refl, sym, ap₂, subst, ◌∙◌}
use Rattle.std.specs.Prelude.{option_map}
use Rattle.std.specs.Option.{option_or}
use Rattle.std.specs.List.{AllByRecursion}
use Rattle.fort_lex_token.specs.declared.token.Tokens.{Tokens}
use Rattle.fort_lex_token.specs.declared.reserved.Reserved.TheVariants as reserved
use Rattle.fort_tree.specs.declared.declarations.Component.{Component}
use Rattle.fort_tree.specs.declared.declarations.Declared.{Declared}
use Rattle.fort_tree.specs.declared.declarations.Export.{Export}
use Rattle.fort_tree.specs.declared.spot.Spot.{Spot}
use Rattle.fort_tree.specs.Tokens.{Spellings, word, named, is_spelled}
use Rattle.fort_tree.specs.Said.{SaidEntry, elsewhere, begins_apart, entries_obey}
use Rattle.fort_tree.specs.Declarations.{said_declared}
use Rattle.fort_tree.specs.Component.{Obeys, yield, export_obeys, export_tokens}
use Rattle.fort_syntax.specs.Answer.{TreeGoesOver, NamesAreIn, name_is_in}
use Rattle.fort_link_table.specs.declared.table.Table.{Table}
use Rattle.fort_link_table.specs.Table.{joined, after}
use Rattle.fort_link_table.specs.Laws.{NamesGoOn, JoinedNamesAreIn}
use Rattle.fort_link_units.specs.declared.unit.ComponentUnit.{ComponentUnit}
use Rattle.fort_link_units.specs.declared.unit.Unit.{Unit}
use Rattle.fort_link_units.specs.declared.unit.Unit.TheVariants as a_unit
use Rattle.fort_link_units.specs.Said.{HasUnit, HasComponent, heads_tokens, body_tokens, component_tokens}
use Rattle.fort_lex.specs.Files.{HasTokens}
use Rattle.fort_link.specs.declared.whole.Head.{Head}
use Rattle.fort_link.specs.Lines.{lines}
use Rattle.fort_link.specs.Units.{AreUnits}
use Rattle.fort_link.specs.Whole.{IsWhole, components, executable, head_of, main_head, closed, with_semicolon, declared_before, all_declared_before}
use Rattle.fort_link_law_whole.proofs.Sub.{Sub, Seams, sub_behind, sub_same, all_sub}
use Rattle.fort_link_law_whole.proofs.Chain.{names_on}

both : (a b : Bool) → (a && b) ≡ true → (a ≡ true) × (b ≡ true)
both true b e = (refl, e)
both false b e = absurd cc

-- the rules hold in declarations
abbrev pub obey : Spellings → List Declared → Bool
obey names ds = entries_obey names (map said_declared ds)

-- ---- declarations of one component before others

some_apart : (s : Option Spot) (end : Spot) (es : List SaidEntry)
    → begins_apart (with_semicolon s end) es ≡ true
some_apart None end [] = refl
some_apart None end (e ∷ es) = refl
some_apart (Some s) end [] = refl
some_apart (Some s) end (e ∷ es) = refl

same_apart : (s : Option Spot) (d : Declared) (ds others : List Declared) (end : Spot)
    → begins_apart s (map said_declared (closed (d ∷ ds) end ++ others))
    ≡ begins_apart s (map said_declared (d ∷ ds))
same_apart None d [] others end = refl
same_apart None d (e ∷ ds) others end = refl
same_apart (Some s) d [] others end = refl
same_apart (Some s) d (e ∷ ds) others end = refl

closed_obey : (names : Spellings) (ds : List Declared) (end : Spot) (others : List Declared)
    → obey names ds ≡ true → obey names others ≡ true
    → obey names (closed ds end ++ others) ≡ true
closed_obey names [] end others h k = k
closed_obey names (d ∷ []) end others h k =
    let a = both ((said_declared d).item.obeys names elsewhere)
    (begins_apart d.semicolon [] && true) h in
    ap₂ (λ x y. x && y) a.0
    (ap₂ (λ x y. x && y) (some_apart d.semicolon end (map said_declared others)) k)
closed_obey names (d ∷ e ∷ ds) end others h k =
    let a = both ((said_declared d).item.obeys names elsewhere)
    (begins_apart d.semicolon (map said_declared (e ∷ ds)) && obey names (e ∷ ds)) h in
    let b = both (begins_apart d.semicolon (map said_declared (e ∷ ds))) (obey names (e ∷ ds)) a.1
    in
    ap₂ (λ x y. x && y) a.0
    (ap₂ (λ x y. x && y) (same_apart d.semicolon e ds others end ∙ b.0)
    (closed_obey names (e ∷ ds) end others b.1 k))

before_obey : (names : Spellings) (u : ComponentUnit) (others : List Declared)
    → obey names u.parsed.component.declarations ≡ true → obey names others ≡ true
    → obey names (declared_before u others) ≡ true
before_obey names u [] h k = h
before_obey names u (d ∷ others) h k =
    closed_obey names u.parsed.component.declarations u.parsed.component.end (d ∷ others) h k

-- each of the components keeps the rules over these names
abbrev Each : Spellings → List ComponentUnit → Type 0
Each names us =
    AllByRecursion (λ (u : ComponentUnit). obey names u.parsed.component.declarations ≡ true) us

all_obey : (names : Spellings) (us : List ComponentUnit) → Each names us
    → obey names (all_declared_before us []) ≡ true
all_obey names [] h = refl
all_obey names (u ∷ us) h =
    before_obey names u (all_declared_before us []) h.0 (all_obey names us h.1)

-- ---- each component over the last names

-- the tokens of a component without its imports and exports stand among all of its
plain_sub : (u : ComponentUnit) → u.parsed.component.export ≡ None
    → Sub (yield u.parsed.component) (component_tokens u)
plain_sub u e =
    let c = u.parsed.component in
    subst (λ x. Sub (word reserved.Component c.component ∷ named c.name
    ∷ (export_tokens x ++ body_tokens c)) (component_tokens u)) (sym e)
    (inl (
      inl refl,
      inl (
        inl refl,
        sub_behind (body_tokens c) (heads_tokens u.imports u.exports) (body_tokens c)
            (sub_same (body_tokens c)),
      ),
    ))

no_name : (n : ℕ) → Seams (λ t. name_is_in n t.kind ≡ true)
no_name n s h = refl

one_obeys : TreeGoesOver → (tokens : Tokens) (u : ComponentUnit) (more : Spellings)
    → HasComponent tokens u → NamesAreIn tokens.names tokens.list
    → obey (tokens.names ++ more) u.parsed.component.declarations ≡ true
one_obeys goes tokens u more has named =
    let c = u.parsed.component in
    let own : NamesAreIn c.names (yield c) =
    subst (λ names. NamesAreIn names (yield c)) (sym has.names)
    (all_sub (λ t. name_is_in (length tokens.names) t.kind ≡ true) (no_name (length tokens.names))
    (yield c) (component_tokens u) (plain_sub u has.plain)
    (subst (NamesAreIn tokens.names) (sym has.yields) named)) in
    let tree = goes (record { list = yield c; names = c.names; texts = c.texts }) more c.texts c own
    (record { yields = refl; names = refl; texts = refl; obeys = has.obeys }) in
    subst (λ names. obey (names ++ more) c.declarations ≡ true) has.names
    (both (export_obeys (c.names ++ more) c.export) (obey (c.names ++ more) c.declarations)
    tree.obeys).1

own_each : TreeGoesOver → (tokens : Tokens) (u : Unit) (us : List Unit) (more : Spellings)
    → HasUnit tokens u → NamesAreIn tokens.names tokens.list
    → Each (tokens.names ++ more) (components us) → Each (tokens.names ++ more) (components (u ∷ us))
own_each goes tokens (a_unit.Api a) us more has named rest = rest
own_each goes tokens (a_unit.Component u) us more has named rest =
    (one_obeys goes tokens u more has named, rest)

each_obeys : TreeGoesOver → NamesGoOn → JoinedNamesAreIn
    → ((file : List ℕ) (tokens : Tokens) → HasTokens file tokens
    → NamesAreIn tokens.names tokens.list)
    → (first : Table) (files : List (List ℕ)) (units : List Unit) (last : Table)
    → AreUnits first files units last → Each last.names (components units)
each_obeys goes on keep file_named first [] units last h =
    subst (λ us. Each last.names (components us)) (sym h.0) tt
each_obeys goes on keep file_named first (f ∷ fs) units last h =
    let next = after first h.0 (lines f) in
    let more = names_on on next fs h.2 last h.5 in
    let rest = each_obeys goes on keep file_named next fs h.2 last h.5 in
    subst (λ us. Each last.names (components us)) (sym h.3)
    (subst (λ names. Each names (components (h.1 ∷ h.2))) (sym more.1)
    (own_each goes (joined first h.0) h.1 h.2 more.0 h.4.is.tree
    (keep first h.0 (file_named f h.0 h.4.has))
    (subst (λ names. Each names (components h.2)) more.1 rest)))

-- ---- the head

is_executable : (names : Spellings) (exports : List Export) (e : Export)
    → executable names exports ≡ Some e → is_spelled "Executable" names e.name ≡ true
is_executable names [] e h = absurd cc
is_executable names (x ∷ xs) e h =
    at (is_spelled "Executable" names x.name) refl (is_executable names xs e) h
  where
    at : (b : Bool) → is_spelled "Executable" names x.name ≡ b
        → (executable names xs ≡ Some e → is_spelled "Executable" names e.name ≡ true)
        → (if b then Some x else executable names xs) ≡ Some e
        → is_spelled "Executable" names e.name ≡ true
    at true k ih h =
        let is : x ≡ e = cc in
        subst (λ (y : Export). is_spelled "Executable" names y.name ≡ true) is k
    at false k ih h = ih h

head_executable : (names : Spellings) (u : ComponentUnit) (head : Head)
    → head_of names u ≡ Some head → is_spelled "Executable" names head.export.name ≡ true
head_executable names u head e = at (executable names u.exports) refl e
  where
    at : (x : Option Export) → executable names u.exports ≡ x
        → option_map (λ (y : Export). record {
          component = u.parsed.component.component;
          name = u.parsed.component.name;
          export = y;
        }) x ≡ Some head
        → is_spelled "Executable" names head.export.name ≡ true
    at None x e = absurd cc
    at (Some y) x e =
        let is : y ≡ head.export = cc in
        subst (λ (z : Export). is_spelled "Executable" names z.name ≡ true) is
        (is_executable names u.exports y x)

main_executable : (names : Spellings) (us : List ComponentUnit) (head : Head)
    → main_head names us ≡ Some head → is_spelled "Executable" names head.export.name ≡ true
main_executable names [] head e = absurd cc
main_executable names (u ∷ us) head e =
    at (head_of names u) refl (main_executable names us head) e
  where
    at : (x : Option Head) → head_of names u ≡ x
        → (main_head names us ≡ Some head → is_spelled "Executable" names head.export.name ≡ true)
        → option_or x (main_head names us) ≡ Some head
        → is_spelled "Executable" names head.export.name ≡ true
    at None k ih e = ih e
    at (Some x) k ih e =
        let is : ◌≡◌ {A = Option Head} (Some x) (Some head) = e in
        head_executable names u head (k ∙ is)

pub whole_obeys : TreeGoesOver → NamesGoOn → JoinedNamesAreIn
    → ((file : List ℕ) (tokens : Tokens) → HasTokens file tokens
    → NamesAreIn tokens.names tokens.list)
    → (first : Table) (files : List (List ℕ)) (units : List Unit) (last : Table) (c : Component)
    → AreUnits first files units last → IsWhole last.names last.texts units c → Obeys c
whole_obeys goes on keep file_named first files units last c h w =
    subst Obeys (sym w.is)
    (ap₂ (λ x y. x && y) (main_executable last.names (components units) w.head w.begins)
    (all_obey last.names (components units)
    (each_obeys goes on keep file_named first files units last h)))
