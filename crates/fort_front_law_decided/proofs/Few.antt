-- A component that passes no limit has few types, its prelude's among them.
use Rattle.std.proofs.Common.{◌≡◌, ◌≤◌, ◌+◌, ◌^◌, ℕ, zero, suc, Bool, true, false, List, [], ◌∷◌, ◌++◌, length, map, take, drop, codes, refl, ap, arith}
use Rattle.std.specs.List.{flat_map}
use Rattle.std.proofs.Math.ListN.{length-append}
use Rattle.fort_base.specs.declared.ids.NameId.{NameId}
use Rattle.fort_tree.specs.declared.declarations.Component.{Component}
use Rattle.fort_tree.specs.declared.declarations.Declaration.{Declaration}
use Rattle.fort_tree.specs.declared.declarations.Declaration.TheVariants as declaration
use Rattle.fort_tree.specs.declared.declarations.Declared.{Declared}
use Rattle.fort_tree.specs.Declarations.{said_declared, said_declaration}
use Rattle.fort_tree.specs.Limits.{declaration_places, type_places, first_behind, measured_declarations, KeepsLimits}
use Rattle.fort_tree.specs.Measured.{all_crowded, most_declarations, most_types}
use Rattle.fort_tree.specs.Said.{semicolon_tokens, entries_tokens}
use Rattle.fort_tree.specs.Tokens.{Spellings}
use Rattle.fort_types_builtin.specs.declared.types.TheConstants.{TYPE_COUNT}
use Rattle.fort_hier.specs.Heads.{head_of, heads_from, heads_of}
use Rattle.fort_hier.specs.Hierarchies.{declares, places_of}
use Rattle.fort_hier.proofs.NamesWalk.{as_long}
use Rattle.fort_hier.specs.Heads.{head_place}
use Rattle.fort_member_fields.proofs.ComponentLaws.{fewer_places, first_place}
use Rattle.fort_spawn_prelude.specs.Numbers.{Spelling}
use Rattle.fort_spawn_prelude.specs.Prelude.{tokens_from, id_in, IsPrelude}
use Rattle.fort_spawn_prelude.specs.Table.{Entry, always, starting, table}
use Rattle.fort_spawn.specs.Starts.{starts}
use Rattle.fort_spawn.specs.Rewritten.{declaration_as, declared_as, renamed, renamed_over, names_with, IsRewritten, AsItIs, WithPrelude}
use Rattle.fort_front_law_decided.specs.Phases.{HasFewTypes}

-- ---- how many types declarations declare

abbrev type_count : List Declared → ℕ
type_count ds = length (flat_map (λ (d : Declared). type_places d.declaration) ds)

one_head : (body : ℕ) (d : Declaration) → length (head_of body d) ≡ length (type_places d)
one_head body (declaration.Variable v) = refl
one_head body (declaration.Function f) = refl
one_head body (declaration.Trait t) = refl
one_head body (declaration.Object o) = refl

heads_count : (body : ℕ) (ds : List Declared) → length (heads_from body ds) ≡ type_count ds
heads_count body [] = refl
heads_count body (d ∷ ds) =
    let a = length-append (head_of body d.declaration) (heads_from (body + 1) ds) in
    let b = length-append (type_places d.declaration)
    (flat_map (λ (d : Declared). type_places d.declaration) ds) in
    let e = one_head body d.declaration in let r = heads_count (body + 1) ds in omega arith

types_count : (c : Component) → length (declares c) ≡ TYPE_COUNT + type_count c.declarations
types_count c =
    let a = fewer_places c in let b = first_place c in
    let l : length (places_of c) ≡ length (heads_of c) = as_long head_place (heads_of c) in
    let r = heads_count 0 c.declarations in omega arith

count_both : (ds es : List Declared) → type_count (ds ++ es) ≡ type_count ds + type_count es
count_both [] es = omega arith
count_both (d ∷ ds) es =
    let a = length-append (type_places d.declaration)
    (flat_map (λ (d : Declared). type_places d.declaration) (ds ++ es)) in
    let b = length-append (type_places d.declaration)
    (flat_map (λ (d : Declared). type_places d.declaration) ds) in
    let r = count_both ds es in omega arith

-- ---- those of a component that passes no limit

none_both : {X : Type 0} (xs ys : List X) → xs ++ ys ≡ [] → (xs ≡ []) × (ys ≡ [])
none_both [] ys e = (refl, e)
none_both (x ∷ xs) ys e = absurd cc

none_behind : {X : Type 0} (n : ℕ) (xs : List X) → take 1 (drop n xs) ≡ [] → length xs ≤ n
none_behind zero [] e = omega arith
none_behind zero (x ∷ xs) e = absurd cc
none_behind (suc n) [] e = omega arith
none_behind (suc n) (x ∷ xs) e = let l = none_behind n xs e in omega arith

few_declared : (c : Component) → KeepsLimits c → type_count c.declarations ≤ most_types
few_declared c kept =
    let all = flat_map (λ (d : Declared). type_places d.declaration) c.declarations in
    let a = none_both (first_behind most_declarations (flat_map declaration_places c.declarations))
    (first_behind most_types all ++ all_crowded (measured_declarations c)) kept in
    let b = none_both (first_behind most_types all) (all_crowded (measured_declarations c)) a.1 in
    none_behind most_types all b.0

-- ---- those of the prelude

one_at_most : (d : Declaration) → length (type_places d) ≤ 1
one_at_most (declaration.Variable v) = omega arith
one_at_most (declaration.Function f) = omega arith
one_at_most (declaration.Trait t) = omega arith
one_at_most (declaration.Object o) = omega arith

fewer_than_tokens : (ds : List Declared)
    → type_count ds ≤ length (entries_tokens (map said_declared ds))
fewer_than_tokens [] = omega arith
fewer_than_tokens (d ∷ ds) =
    let rest = entries_tokens (map said_declared ds) in
    let a = length-append (type_places d.declaration)
    (flat_map (λ (d : Declared). type_places d.declaration) ds) in
    let o = one_at_most d.declaration in
    let b = length-append (said_declaration d.declaration).more
    (semicolon_tokens d.semicolon ++ rest) in
    let t = length-append (semicolon_tokens d.semicolon) rest in
    let r = fewer_than_tokens ds in omega arith

as_many_tokens : (id : Spelling → NameId) (n : ℕ) (es : List Entry)
    → length (tokens_from id n es) ≡ length es
as_many_tokens id n [] = refl
as_many_tokens id n (e ∷ es) = ap suc (as_many_tokens id (n + 1) es)

long_table : length (table true) ≡ 405
unfolding always starting
long_table = refl

short_table : length (table false) ≡ 388
unfolding always starting
short_table = refl

table_count : (starts : Bool) → length (table starts) ≤ 1024
table_count true = let e = long_table in omega arith
table_count false = let e = short_table in omega arith

few_in_prelude : (names : Spellings) (starts : Bool) (ds : List Declared)
    → IsPrelude names starts ds → type_count ds ≤ 1024
few_in_prelude names starts ds is =
    let a = fewer_than_tokens ds in let b = ap length is.tokens in
    let e = as_many_tokens (id_in names) 1 (table starts) in let t = table_count starts
    in omega arith

-- ---- those of a rewritten component

one_renamed : (id : NameId) (names : Spellings) (d : Declaration)
    → length (type_places (declaration_as id names d)) ≡ length (type_places d)
one_renamed id names (declaration.Variable v) = refl
one_renamed id names (declaration.Function f) = refl
one_renamed id names (declaration.Trait t) = refl
one_renamed id names (declaration.Object o) = refl

all_renamed : (id : NameId) (names : Spellings) (ds : List Declared)
    → type_count (map (declared_as id names) ds) ≡ type_count ds
all_renamed id names [] = refl
all_renamed id names (d ∷ ds) =
    let a = length-append (type_places (declaration_as id names d.declaration))
    (flat_map (λ (d : Declared). type_places d.declaration) (map (declared_as id names) ds)) in
    let b = length-append (type_places d.declaration)
    (flat_map (λ (d : Declared). type_places d.declaration) ds) in
    let o = one_renamed id names d.declaration in let r = all_renamed id names ds in omega arith

renamed_count : (starts : Bool) (all names : Spellings) (ds : List Declared)
    → type_count (renamed_over starts all names ds) ≡ type_count ds
renamed_count true all names ds = all_renamed (id_in all (codes "run'")) names ds
renamed_count false all names ds = refl

few_by : (c d : Component) → KeepsLimits c → type_count d.declarations ≤ 1024 + type_count c.declarations
    → HasFewTypes d
few_by c d kept l =
    let a = types_count d in let b = few_declared c kept in let t : TYPE_COUNT ≡ 17 = refl in
    let p : 2 ^ 32 ≡ 4294967296 = refl in omega arith

pub few_rewritten : (c d : Component) → KeepsLimits c → IsRewritten c d → HasFewTypes d
few_rewritten c d kept (AsItIs e q) =
    few_by c d kept (let r = ap (λ (z : Component). type_count z.declarations) q in omega arith)
few_rewritten c d kept (WithPrelude e prelude is q) =
    few_by c d kept (let r = ap (λ (z : Component). type_count z.declarations) q in
    let b = count_both prelude (renamed c) in
    let f = few_in_prelude (names_with c) (starts c) prelude is in
    let g = renamed_count (starts c) (names_with c) c.names c.declarations in omega arith)
