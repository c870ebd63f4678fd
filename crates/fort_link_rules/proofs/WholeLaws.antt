-- The whole's declarations, by those of its units.
use Rattle.std.proofs.Common.{◌≡◌, ◌<◌, ◌+◌, ◌-◌, ◌++◌, [], ◌∷◌, ◌⊎◌, ℕ, List, Contains, Option, Some, None, length, get_or, take, drop, map, refl, sym, ap, ◌∙◌, subst, append_assoc, arith}
use Rattle.std.specs.List.{flat_map, slice_get}
use Rattle.std.proofs.lemmas.Grind.{flat_map-append}
use Rattle.std.proofs.lemmas.List.{length-append, map-append, drop_at, take_at}
use Rattle.std.proofs.lemmas.Option.{none-some, same_Some}
use Rattle.fort_base.specs.Places.{IsFirst}
use Rattle.fort_base.specs.declared.refusal.Place.{Place}
use Rattle.fort_tree.specs.Limits.{declaration_places, type_places}
use Rattle.fort_tree.specs.Measured.{most_declarations, most_types}
use Rattle.fort_lex_token.specs.declared.reserved.Reserved.TheVariants as reserved
use Rattle.fort_lex_token.specs.declared.token.Token.{Token}
use Rattle.fort_tree.specs.Component.{export_tokens, yield}
use Rattle.fort_tree.specs.Tokens.{named, word}
use Rattle.fort_tree.specs.declared.declarations.Component.{Component}
use Rattle.fort_tree.specs.declared.declarations.Declared.{Declared}
use Rattle.fort_tree.specs.Declarations.{said_declared}
use Rattle.fort_tree.specs.Said.{SaidEntry, entries_tokens, tokens_of, semicolon_tokens}
use Rattle.fort_link_units.specs.declared.unit.Unit.{Unit}
use Rattle.fort_link_rules.specs.Places.{Gathers}
use Rattle.fort_link_rules.specs.TooMuch.{IsPassed, IsTooMuch, declarations_in, frame_tokens, most_tokens, token_places, whole_declarations}
use Rattle.fort_link_rules.proofs.Gathering.{first_of, gathers_both, gathers_by, gathers_one, gathers_same}
use Rattle.fort_link_rules.proofs.Steps.{parts_more}

-- one more unit
pub whole_more : (units : List Unit) (i : ℕ) (u : Unit) → i < length units → u ≡ get_or units i u
    → whole_declarations (take (i + 1) units)
    ≡ whole_declarations (take i units) ++ declarations_in u
whole_more units i u lt is = parts_more declarations_in units i u lt is

-- what each declaration adds, with one more unit
pub adds_more : {B : Type 0} (f : Declared → List B) (units : List Unit) (i : ℕ) (u : Unit)
    (at new : List B) {slice : List Declared} → i < length units → u ≡ get_or units i u
    → slice ≡ declarations_in u → at ≡ flat_map f (whole_declarations (take i units))
    → new ≡ at ++ flat_map f slice
    → new ≡ flat_map f (whole_declarations (take (i + 1) units))
adds_more {B} f units i u at new {slice = slice} lt is s so_far step =
    step ∙ ap (λ (l : List B). l ++ flat_map f slice) so_far
    ∙ ap (λ ds. flat_map f (whole_declarations (take i units)) ++ flat_map f ds) s
    ∙ sym (ap (flat_map f) (whole_more units i u lt is)
    ∙ flat_map-append f (whole_declarations (take i units)) (declarations_in u))

entries_append : (es fs : List SaidEntry)
    → entries_tokens (es ++ fs) ≡ entries_tokens es ++ entries_tokens fs
entries_append [] fs = refl
entries_append (e ∷ es) fs =
    ap (λ (l : List Token). tokens_of e.item ++ (semicolon_tokens e.semicolon ++ l))
    (entries_append es fs)
    ∙ ap (λ (l : List Token). tokens_of e.item ++ l)
    (sym (append_assoc (semicolon_tokens e.semicolon) (entries_tokens es) (entries_tokens fs)))
    ∙ sym (append_assoc (tokens_of e.item) (semicolon_tokens e.semicolon ++ entries_tokens es)
    (entries_tokens fs))

tokens_append : (ds es : List Declared)
    → token_places (ds ++ es) ≡ token_places ds ++ token_places es
tokens_append ds es =
    ap (λ l. map (λ (t : Token). t.place) (entries_tokens l)) (map-append said_declared ds es)
    ∙ ap (map (λ (t : Token). t.place))
    (entries_append (map said_declared ds) (map said_declared es))
    ∙ map-append (λ (t : Token). t.place) (entries_tokens (map said_declared ds))
    (entries_tokens (map said_declared es))

-- the tokens, with one more unit
pub tokens_more : (units : List Unit) (i : ℕ) (u : Unit) (at new : List Place)
    → i < length units → u ≡ get_or units i u → at ≡ token_places (whole_declarations (take i units))
    → new ≡ at ++ token_places (declarations_in u)
    → new ≡ token_places (whole_declarations (take (i + 1) units))
tokens_more units i u at new lt is so_far step =
    step ∙ ap (λ l. l ++ token_places (declarations_in u)) so_far
    ∙ sym (ap token_places (whole_more units i u lt is)
    ∙ tokens_append (whole_declarations (take i units)) (declarations_in u))

-- a component has as many tokens as stand before its declarations, as these have, and one
pub yield_length : (c : Component)
    → length (yield c)
    ≡ (2 + length (export_tokens c.export))
    + (length (entries_tokens (map said_declared c.declarations)) + 1)
yield_length c =
    let e = word reserved.End c.end in
    let ts = entries_tokens (map said_declared c.declarations) in
    let a = length-append (export_tokens c.export) (ts ++ e ∷ []) in
    let b = length-append ts (e ∷ []) in omega arith

-- without its frame a component's tokens are those of its declarations
pub without_frame_is : (c : Component) (n : ℕ) → n ≡ 2 + length (export_tokens c.export)
    → take (length (yield c) - 1 - n) (drop n (yield c))
    ≡ entries_tokens (map said_declared c.declarations)
without_frame_is c n e =
    let ts = entries_tokens (map said_declared c.declarations) in
    let last = word reserved.End c.end ∷ [] in
    let head = word reserved.Component c.component ∷ named c.name ∷ export_tokens c.export in
    let d : drop n (yield c) ≡ ts ++ last = drop_at head (ts ++ last) n (omega arith) in
    let l = yield_length c in
    ap (take (length (yield c) - 1 - n)) d
    ∙ take_at ts last (length (yield c) - 1 - n) (omega arith)

-- the first one too many
pub passed_one : (most : ℕ) (xs : List Place) (at : Place) (old new : List Place)
    → slice_get xs most ≡ Some at → new ≡ old ++ at ∷ [] → Gathers (IsPassed most xs) old new
passed_one most xs at old new e step =
    gathers_by (λ place. at ≡ place) (IsPassed most xs) old new (λ place w. e
    ∙ ap (λ p. Some p) w) (λ place w. same_Some at place (sym e ∙ w)) (gathers_one at old new step)

pub passed_none : (most : ℕ) (xs : List Place) (old : List Place) → slice_get xs most ≡ None
    → Gathers (IsPassed most xs) old old
passed_none most xs old e =
    gathers_same (IsPassed most xs) old (λ place w. none-some place (sym e ∙ w))

-- the first of what passes one of the three limits
pub whole_found : (units : List Unit) (declarations types tokens : List Place)
    (a b c d slice : List Place) (first : Option Place) → a ≡ []
    → declarations ≡ flat_map declaration_places (whole_declarations units)
    → types ≡ flat_map (λ d. type_places d.declaration) (whole_declarations units)
    → tokens ≡ token_places (whole_declarations units)
    → Gathers (IsPassed most_declarations declarations) a b → Gathers (IsPassed most_types types) b c
    → Gathers (IsPassed (most_tokens - frame_tokens) tokens) c d → slice ≡ d
    → IsFirst (Contains slice) first → IsFirst (IsTooMuch units) first
whole_found units declarations types tokens a b c d slice first e p q r f g h s w =
    first_of (IsTooMuch units) d first (subst (λ z. Gathers (IsTooMuch units) z d) e
    (gathers_both (IsPassed most_declarations (flat_map declaration_places (whole_declarations units)))
    (λ place. IsPassed most_types (flat_map (λ (d : Declared). type_places d.declaration)
    (whole_declarations units)) place
    ⊎ IsPassed (most_tokens - frame_tokens) (token_places (whole_declarations units)) place) a b d
    (subst (λ l. Gathers (IsPassed most_declarations l) a b) p f)
    (gathers_both (IsPassed most_types (flat_map (λ (d : Declared). type_places d.declaration)
    (whole_declarations units)))
    (IsPassed (most_tokens - frame_tokens) (token_places (whole_declarations units))) b c d
    (subst (λ l. Gathers (IsPassed most_types l) b c) q g)
    (subst (λ l. Gathers (IsPassed (most_tokens - frame_tokens) l) c d) r h))))
    (subst (λ l. IsFirst (Contains l) first) s w)
