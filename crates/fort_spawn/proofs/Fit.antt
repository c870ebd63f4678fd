-- The numbers of a component with a prelude are ZZ64.
use Rattle.std.proofs.Common.{◌≡◌, ◌≤◌, ℕ, ◌+◌, Bool, true, false, ◌&&◌, List, [], ◌∷◌, ◌++◌, map, refl, sym, ap, subst, ◌∙◌}
use Rattle.std.specs.Prelude.{nat_le}
use Rattle.std.specs.List.{AllByRecursion}
use Rattle.std.proofs.lemmas.Bool.{leb-true}
use Rattle.std.proofs.lemmas.List.{map-append}
use Rattle.fort_base.specs.declared.ids.NameId.{NameId}
use Rattle.fort_lex_token.specs.declared.token.Kind.{Kind}
use Rattle.fort_lex_token.specs.declared.token.Kind.TheVariants as kind
use Rattle.fort_lex_token.specs.declared.token.Token.{Token}
use Rattle.fort_tree.specs.declared.declarations.Component.{Component}
use Rattle.fort_tree.specs.declared.declarations.Declared.{Declared}
use Rattle.fort_tree.specs.Component.{yield}
use Rattle.fort_spawn_prelude.specs.Table.{Part, Entry, Word, Name, Number, Operator, Symbol, table, always, starting}
use Rattle.fort_spawn_prelude.specs.Numbers.{Spelling}
use Rattle.fort_spawn_prelude.specs.Prelude.{IsPrelude, tokens_from, kind_of, id_in}
use Rattle.fort_spawn.specs.Starts.{starts}
use Rattle.fort_spawn.specs.Rewritten.{IsRewritten, AsItIs, WithPrelude, renamed, names_with, with_prelude}
use Rattle.fort_spawn.specs.Laws.{Fits, FitsKind, RewrittenNumbersFit}
use Rattle.fort_spawn.proofs.Parts.{before, after, said_by, yield_parts}
use Rattle.fort_spawn.proofs.Names.{nameless, nameless_kind}
use Rattle.fort_spawn.proofs.Renamed.{same_renamed}

-- ---- the table

abbrev fits_part : Part → Bool
fits_part (Number n) = nat_le n 9223372036854775807
fits_part _ = true

abbrev all_fit : List Entry → Bool
all_fit [] = true
all_fit (e ∷ es) = fits_part e.part && all_fit es

table_fits : (b : Bool) → all_fit (table b) ≡ true
unfolding always starting
table_fits true = refl
table_fits false = refl

fits_one : (id : Spelling → NameId) (p : Part) → fits_part p ≡ true → FitsKind (kind_of id p)
fits_one id (Word w) e = tt
fits_one id (Name s) e = tt
fits_one id (Number n) e = leb-true n 9223372036854775807 e
fits_one id (Operator o) e = tt
fits_one id (Symbol m) e = tt

both : (a b : Bool) → (a && b) ≡ true → (a ≡ true) × (b ≡ true)
both true b e = (refl, e)
both false b e = absurd cc

prelude_fits : (id : Spelling → NameId) (n : ℕ) (es : List Entry) → all_fit es ≡ true
    → AllByRecursion Fits (tokens_from id n es)
prelude_fits id n [] e = tt
prelude_fits id n (x ∷ es) e = let h = both (fits_part x.part) (all_fit es) e in
    (fits_one id x.part h.0, prelude_fits id (n + 1) es h.1)

-- ---- the numbers of names

to_kind : (k : Kind) → FitsKind k → FitsKind (nameless_kind k)
to_kind (kind.Name id) h = tt
to_kind (kind.Word w) h = h
to_kind (kind.Number n) h = h
to_kind (kind.Text n) h = h
to_kind (kind.Op o) h = h
to_kind (kind.Mark m) h = h

of_kind : (k : Kind) → FitsKind (nameless_kind k) → FitsKind k
of_kind (kind.Name id) h = tt
of_kind (kind.Word w) h = h
of_kind (kind.Number n) h = h
of_kind (kind.Text n) h = h
of_kind (kind.Op o) h = h
of_kind (kind.Mark m) h = h

to_nameless : (ts : List Token) → AllByRecursion Fits ts → AllByRecursion Fits (map nameless ts)
to_nameless [] h = tt
to_nameless (t ∷ ts) h = (to_kind t.kind h.0, to_nameless ts h.1)

of_nameless : (ts : List Token) → AllByRecursion Fits (map nameless ts) → AllByRecursion Fits ts
of_nameless [] h = tt
of_nameless (t ∷ ts) h = (of_kind t.kind h.0, of_nameless ts h.1)

-- ---- tokens one behind another

join : (xs ys : List Token) → AllByRecursion Fits xs → AllByRecursion Fits ys
    → AllByRecursion Fits (xs ++ ys)
join [] ys h k = k
join (x ∷ xs) ys h k = (h.0, join xs ys h.1 k)

front : (xs ys : List Token) → AllByRecursion Fits (xs ++ ys) → AllByRecursion Fits xs
front [] ys h = tt
front (x ∷ xs) ys h = (h.0, front xs ys h.1)

back : (xs ys : List Token) → AllByRecursion Fits (xs ++ ys) → AllByRecursion Fits ys
back [] ys h = h
back (x ∷ xs) ys h = back xs ys h.1

with_fits : (c : Component) (prelude : List Declared)
    → IsPrelude (names_with c) (starts c) prelude → AllByRecursion Fits (yield c)
    → AllByRecursion Fits (yield (with_prelude c prelude))
with_fits c prelude h fits =
    let rest = back (before c) (said_by c.declarations ++ after c) fits in
    let own = of_nameless (said_by (renamed c))
    (subst (AllByRecursion Fits) (sym (same_renamed c))
    (to_nameless (said_by c.declarations) (front (said_by c.declarations) (after c) rest))) in
    subst (AllByRecursion Fits) (sym (yield_parts c prelude))
    (join (before c) (said_by prelude ++ (said_by (renamed c) ++ after c))
    (front (before c) (said_by c.declarations ++ after c) fits)
    (join (said_by prelude) (said_by (renamed c) ++ after c)
    (subst (AllByRecursion Fits) (sym h.tokens)
    (prelude_fits (id_in (names_with c)) 1 (table (starts c)) (table_fits (starts c))))
    (join (said_by (renamed c)) (after c) own (back (said_by c.declarations) (after c) rest))))

pub fit : RewrittenNumbersFit
fit c d (AsItIs plain is) h = subst (λ (x : Component). AllByRecursion Fits (yield x)) (sym is) h
fit c d (WithPrelude has prelude p is) h =
    subst (λ (x : Component). AllByRecursion Fits (yield x)) (sym is) (with_fits c prelude p h)
