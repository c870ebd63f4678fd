-- Files that don't begin with `api`: what their heads, and the tokens without them, say of them.
use Rattle.std.proofs.Common.{◌≡◌, ℕ, zero, suc, ◌-◌, ◌≤◌, Bool, true, false, List, [], ◌∷◌, ◌++◌, append_assoc, length, length-append, take, drop, Option, Some, None, Err, inl, inr, ◌⊎◌, refl, sym, ap, ◌∙◌, subst, arith}
use Rattle.std.specs.List.{AllPass}
use Rattle.std.specs.Prelude.{◌==◌}
use Rattle.std.proofs.lemmas.Bool.Decides.{nat_tests}
use Rattle.std.proofs.lemmas.List.{append_cancel_right, length-drop, take_all}
use Rattle.fort_base.specs.declared.rules.TheConstants.{SYNTAX}
use Rattle.fort_base.specs.declared.refusal.Place.{Place}
use Rattle.fort_base.specs.declared.refusal.CheckFault.{CheckFault}
use Rattle.fort_base.specs.declared.refusal.CheckFault.TheVariants as a_fault
use Rattle.fort_lex_token.specs.declared.reserved.Reserved.TheVariants as reserved
use Rattle.fort_lex_token.specs.declared.token.Token.{Token}
use Rattle.fort_lex_token.specs.declared.token.Tokens.{Tokens}
use Rattle.fort_tree.specs.declared.declarations.Component.{Component}
use Rattle.fort_tree.specs.declared.declarations.Export.{Export}
use Rattle.fort_tree.specs.Tokens.{Spellings, word, named}
use Rattle.fort_tree.specs.Component.{HasTree, NumbersAreIn, number_is_in, yield}
use Rattle.fort_tree.specs.Component.{export_tokens as one_export}
use Rattle.fort_tree.specs.Openers.{AllShallow, FirstDeep}
use Rattle.fort_parse_reading.specs.declared.fault.Fault.TheVariants.{Syntax as Because}
use Rattle.fort_parse_reading.specs.Parser.{Row, Outcome, Read, Failed, Locally, next_of}
use Rattle.fort_parse_reading.specs.Words.{is_word, sees}
use Rattle.fort_parse_reading.proofs.Laws.{Gets, reads, ends}
use Rattle.fort_parse_reading.proofs.Taking.{is_word_at}
use Rattle.fort_parse_declarations.specs.declared.parsed.Parsed.{Parsed}
use Rattle.fort_syntax.specs.Answer.{HasNone, BeginsNone, EndsAt, IsEmpty, IsFault, IsComponent, Breaks, TooDeep, Syntax, TooMany, Answers, last_token, place_or_first, fault_place}
use Rattle.fort_link_units.specs.declared.unit.Api.{Api}
use Rattle.fort_link_units.specs.declared.unit.ComponentUnit.{ComponentUnit}
use Rattle.fort_link_units.specs.declared.unit.Import.{Import}
use Rattle.fort_link_units.specs.declared.unit.Unit.{Unit}
use Rattle.fort_link_units.specs.declared.unit.Unit.TheVariants as a_unit
use Rattle.fort_link_units.specs.declared.heads.Heads.{Heads}
use Rattle.fort_link_units.specs.Said.{heads_tokens, body_tokens, component_tokens, api_tokens, HasComponent, HasUnit}
use Rattle.fort_link_units.specs.Heads.{heads}
use Rattle.fort_link_units.specs.Answer as unit_answer
use Rattle.fort_link_units.specs.Answer.{is_api, begins_api, opened, HasNoUnit, BeginsNoUnit, StopsUnitAt, IsUnitFault, IsUnit, BreaksUnit, UnitAnswers}
use Rattle.fort_link_units.proofs.HeadsRead.{front_tokens, YieldsHeads, sound_heads, complete_heads}
use Rattle.fort_link_units.proofs.Bodies.{body_no_import, body_no_export}
use Rattle.fort_link_units.proofs.HeadOpeners.{not_deep}

-- ---- the last token

ends_with : (t : Token) (ts : Row)
    → (front : Row) × (last : Token) × (t ∷ ts ≡ front ++ last ∷ [])
    × (last_token (t ∷ ts) ≡ Some last)
ends_with t [] = ([], t, refl, refl)
ends_with t (u ∷ us) = let h = ends_with u us in (t ∷ h.0, h.1, ap (λ (x : Row). t ∷ x) h.2, h.3)

last_of : (tokens : Tokens) (ts : Row) → tokens.list ≡ ts
    → EndsAt tokens (fault_place ts None) ⊎ IsEmpty tokens (fault_place ts None)
last_of tokens [] e = inr (record { none = e; place = refl })
last_of tokens (t ∷ ts) e =
    let h = ends_with t ts in
    inl (record { front = h.0; token = h.1; whole = e ∙ h.2; place = ap place_or_first (sym h.3) })

pub ends_early : (tokens : Tokens) → IsUnitFault tokens (fault_place tokens.list None)
ends_early tokens = inr (last_of tokens tokens.list refl)

-- ---- files that begin with `api`, or don't

pub own_tokens : (ts : Row) → begins_api ts ≡ false → opened ts ≡ ts
own_tokens ts e = rw e refl

pub api_begins : (a : Api) (ts : Row) → api_tokens a ≡ ts → begins_api ts ≡ false → ⊥
api_begins a ts e f = let g = ap begins_api e in absurd cc

pub same_begin : (front : Row) (t : Token) (m others : Row)
    → begins_api ((front ++ t ∷ []) ++ others) ≡ begins_api (front ++ t ∷ m)
same_begin [] t m others = refl
same_begin (u ∷ front) t m others = refl

-- ---- heads are read

gets_failed : {o : Outcome Heads} {h : Heads} {rest : Row} (left : Row) → Gets Heads o h rest
    → o ≡ Failed Because left → ⊥
gets_failed left reads e = absurd cc
gets_failed left ends e = absurd cc

pub gets_read : {o : Outcome Heads} {h : Heads} {rest : Row} (x : Heads) (left : Row)
    → Gets Heads o h rest → o ≡ Read x left → (h ≡ x) × (rest ≡ left)
gets_read x left reads e = (cc, cc)
gets_read x left ends e = absurd cc

-- the heads of a component with imports and exports
abbrev pub heads_of : ComponentUnit → Heads
heads_of u = record {
  component = u.parsed.component.component;
  name = u.parsed.component.name;
  imports = u.imports;
  exports = u.exports;
}

pub unit_heads : (n : ℕ) (u : ComponentUnit) (ts : Row) → component_tokens u ≡ ts
    → Gets Heads ((heads n).run ts) (heads_of u) (body_tokens u.parsed.component)
unit_heads n u ts e =
    subst (λ (x : Row). Gets Heads ((heads n).run x) (heads_of u)
    (body_tokens u.parsed.component)) e
    (complete_heads n (heads_of u) (body_tokens u.parsed.component)
    (body_no_import u.parsed.component) (body_no_export u.parsed.component))

-- ---- where the heads can't be read

fails_none : (tokens : Tokens) (n : ℕ) (left : Row) → begins_api tokens.list ≡ false
    → (heads n).run tokens.list ≡ Failed Because left → HasNoUnit tokens
fails_none tokens n left own e (a_unit.Component u) has =
    gets_failed left (unit_heads n u tokens.list has.yields) e
fails_none tokens n left own e (a_unit.Api a) has = api_begins a tokens.list has.yields own

heads_stop : (tokens : Tokens) (n : ℕ) (t : Token) (m : Row) → begins_api tokens.list ≡ false
    → (heads n).run tokens.list ≡ Failed Because (t ∷ m) → StopsUnitAt tokens t.place
heads_stop tokens n t m own e =
    let s = subst (λ o. Locally (heads n).run tokens.list o) e ((heads n).local tokens.list) in
    record {
      front = s.front;
      token = t;
      rest = m;
      whole = s.whole;
      place = refl;
      none = λ numbered more texts others. fails_none
          (record {
            list = (s.front ++ t ∷ []) ++ others;
            names = tokens.names ++ more;
            texts = texts;
          }) n (t ∷ others)
          (same_begin s.front t m others ∙ ap begins_api (sym s.whole) ∙ own)
          (ap (λ (u : Row). (heads n).run u) (append_assoc s.front (t ∷ []) others)
          ∙ s.same t m others refl);
    }

fails_at : (tokens : Tokens) (n : ℕ) (left : Row) → begins_api tokens.list ≡ false
    → (heads n).run tokens.list ≡ Failed Because left
    → IsUnitFault tokens (fault_place tokens.list (next_of left))
fails_at tokens n [] own e = ends_early tokens
fails_at tokens n (t ∷ m) own e = inl (heads_stop tokens n t m own e)

-- the tokens of a component, as they stand opened
abbrev Shallow : Tokens → Type 0
Shallow tokens = AllShallow (opened tokens.list)

pub heads_fail : (tokens : Tokens) (n : ℕ) (left : Row) → begins_api tokens.list ≡ false
    → Shallow tokens → (heads n).run tokens.list ≡ Failed Because left
    → BreaksUnit tokens SYNTAX.0 (fault_place tokens.list (next_of left))
heads_fail tokens n left own shallow e =
    unit_answer.Syntax shallow (fails_none tokens n left own e) (fails_at tokens n left own e)

-- ---- where nothing stands behind the heads

no_end : (front : Row) (t : Token) → front ++ t ∷ [] ≡ [] → ⊥
no_end [] t e = absurd cc
no_end (u ∷ front) t e = absurd cc

no_body : (tokens : Tokens) (n : ℕ) (h : Heads) → begins_api tokens.list ≡ false
    → (heads n).run tokens.list ≡ Read h [] → HasNoUnit tokens
no_body tokens n h own e (a_unit.Component u) has =
    no_end _ _ (gets_read h [] (unit_heads n u tokens.list has.yields) e).1
no_body tokens n h own e (a_unit.Api a) has = api_begins a tokens.list has.yields own

pub heads_alone : (tokens : Tokens) (n : ℕ) (h : Heads) → begins_api tokens.list ≡ false
    → Shallow tokens → (heads n).run tokens.list ≡ Read h []
    → BreaksUnit tokens SYNTAX.0 (fault_place tokens.list None)
heads_alone tokens n h own shallow e =
    unit_answer.Syntax shallow (no_body tokens n h own e) (ends_early tokens)

-- ---- numbers among the tokens

pass_behind : {A : Type 0} (p : A → Bool) (front rest : List A) → AllPass p (front ++ rest)
    → AllPass p rest
pass_behind p [] rest h = h
pass_behind p (x ∷ front) rest h = pass_behind p front rest (λ i d l. h (suc i) d (omega arith))

pass_more : {A : Type 0} (p : A → Bool) (x : A) (rest : List A) → p x ≡ true → AllPass p rest
    → AllPass p (x ∷ rest)
pass_more p x rest e h zero d l = e
pass_more p x rest e h (suc i) d l = h i d (omega arith)

pass_first : {A : Type 0} (p : A → Bool) (x : A) (rest : List A) → AllPass p (x ∷ rest) → p x ≡ true
pass_first p x rest h = h 0 x (omega arith)

-- numbers of the tokens with the heads are those without them, and more
without_heads : (names : Spellings) (texts : List (List ℕ)) (h : Heads) (rest : Row)
    → NumbersAreIn names texts (front_tokens h ++ rest)
    → NumbersAreIn names texts (word reserved.Component h.component ∷ named h.name ∷ rest)
without_heads names texts h rest all =
    let p = λ (t : Token). number_is_in (length names) (length texts) t.kind in
    let behind : AllPass p (named h.name ∷ (heads_tokens h.imports h.exports ++ rest)) =
    pass_behind p (word reserved.Component h.component ∷ [])
    (named h.name ∷ (heads_tokens h.imports h.exports ++ rest)) all in
    pass_more p (word reserved.Component h.component) (named h.name ∷ rest) refl
    (pass_more p (named h.name) rest
    (pass_first p (named h.name) (heads_tokens h.imports h.exports ++ rest) behind)
    (pass_behind p (front_tokens h) rest all))

-- ---- the tokens without the heads

head_parts : (a b c d : Token) (xs ys : Row) → a ∷ b ∷ xs ≡ c ∷ d ∷ ys
    → (a ≡ c) × (b ≡ d) × (xs ≡ ys)
head_parts a b c d xs ys e = (cc, cc, cc)

yields_plain : (c : Component) → c.export ≡ None
    → yield c ≡ word reserved.Component c.component ∷ named c.name ∷ body_tokens c
yields_plain c e = rw e refl

-- a component with imports and exports has the tree of the tokens without them
pub plain_tree : (tokens : Tokens) (u : ComponentUnit) (list : Row) → HasComponent tokens u
    → word reserved.Component u.parsed.component.component ∷ named u.parsed.component.name
    ∷ body_tokens u.parsed.component ≡ list
    → HasTree (record { list = list; names = tokens.names; texts = tokens.texts })
    u.parsed.component
plain_tree tokens u list has e = record {
  yields = yields_plain u.parsed.component has.plain ∙ e;
  names = has.names;
  texts = has.texts;
  obeys = has.obeys;
}

-- no unit begins with one token, or two, with which no component begins
one_none : (names : Spellings) (texts : List (List ℕ)) (token : Token) (others : Row)
    → is_api token.kind ≡ false
    → ((c : Component) (body : Row)
    → HasTree (record { list = token ∷ body; names = names; texts = texts }) c → ⊥)
    → HasNoUnit (record { list = token ∷ others; names = names; texts = texts })
one_none names texts token others own none (a_unit.Component v) has =
    let yields = has.yields in
    let first : word reserved.Component v.parsed.component.component ≡ token = cc in
    none v.parsed.component (named v.parsed.component.name ∷ body_tokens v.parsed.component)
    (plain_tree (record { list = token ∷ others; names = names; texts = texts }) v
    (token ∷ named v.parsed.component.name ∷ body_tokens v.parsed.component) has
    (ap (λ (x : Token). x ∷ named v.parsed.component.name ∷ body_tokens v.parsed.component) first))
one_none names texts token others own none (a_unit.Api a) has =
    api_begins a (token ∷ others) has.yields own

two_none : (names : Spellings) (texts : List (List ℕ)) (a token : Token) (others : Row)
    → is_api a.kind ≡ false
    → ((c : Component) (body : Row)
    → HasTree (record { list = a ∷ token ∷ body; names = names; texts = texts }) c → ⊥)
    → HasNoUnit (record { list = a ∷ token ∷ others; names = names; texts = texts })
two_none names texts a token others own none (a_unit.Component v) has =
    let parts = head_parts _ _ _ _ _ _ has.yields in
    none v.parsed.component (body_tokens v.parsed.component)
    (plain_tree (record { list = a ∷ token ∷ others; names = names; texts = texts }) v
    (a ∷ token ∷ body_tokens v.parsed.component) has
    (ap (λ (x : Token). x ∷ named v.parsed.component.name ∷ body_tokens v.parsed.component)
    parts.0 ∙ ap (λ (x : Token). a ∷ x ∷ body_tokens v.parsed.component) parts.1))
two_none names texts a token others own none (a_unit.Api b) has =
    api_begins b (a ∷ token ∷ others) has.yields own

pub same_unit : (a b : List Import) (x y : List Export) (p q : Component) → a ≡ b → x ≡ y → p ≡ q
    → a_unit.Component
    (record { imports = a; exports = x; parsed = record { component = p } })
    ≡ a_unit.Component
    (record { imports = b; exports = y; parsed = record { component = q } })
same_unit a b x y p q e f g = rw (e, f, g) refl

module _ (tokens : Tokens) (n : ℕ) (h : Heads) (t : Token) (m : Row)
    (own : begins_api tokens.list ≡ false) (read : (heads n).run tokens.list ≡ Read h (t ∷ m))
  where
    found : YieldsHeads n h tokens.list (t ∷ m)
    found = (sound_heads n tokens.list).holds h (t ∷ m) read

    -- the tokens without the heads
    abbrev bare : Tokens
    bare = record {
      list = word reserved.Component h.component ∷ named h.name ∷ t ∷ m;
      names = tokens.names;
      texts = tokens.texts;
    }

    -- the tokens up to these with the heads, or without
    abbrev with_heads : Row → Row
    with_heads f = front_tokens h ++ f

    abbrev begun : Row → Row
    begun f = word reserved.Component h.component ∷ named h.name ∷ f

    same_start : (u : ComponentUnit) (body : Row) → heads_of u ≡ h
        → body_tokens u.parsed.component ≡ body
        → word reserved.Component u.parsed.component.component ∷ named u.parsed.component.name
        ∷ body_tokens u.parsed.component ≡ begun body
    same_start u body e f =
        ap (λ (x : Heads). word reserved.Component x.component ∷ named x.name
        ∷ body_tokens u.parsed.component) e ∙ ap begun f

    tree_of : (u : ComponentUnit) → HasComponent tokens u
        → (heads_of u ≡ h) × HasTree bare u.parsed.component
    tree_of u has =
        let g = gets_read h (t ∷ m) (unit_heads n u tokens.list has.yields) read in
        (g.0, plain_tree tokens u bare.list has (same_start u (t ∷ m) g.0 g.1))

    -- ---- what the one tree of the tokens without the heads says

    no_export_here : (e : Export) (rest : Row) → one_export (Some e) ++ rest ≡ t ∷ m → ⊥
    unfolding sees
    no_export_here e rest is =
        let first : word reserved.Export e.export ≡ t = cc in
        let yes : is_word reserved.Export t.kind ≡ true =
        ap (λ (u : Token). is_word reserved.Export u.kind) (sym first)
        ∙ is_word_at reserved.Export in
        let no = found.stopped in absurd cc

    plain_behind : (o : Option Export) (rest : Row) → one_export o ++ rest ≡ t ∷ m
        → (o ≡ None) × (rest ≡ t ∷ m)
    plain_behind None rest e = (refl, e)
    plain_behind (Some x) rest e = absurd (no_export_here x rest e)

    unit_of : (p : Parsed) → HasTree bare p.component
        → HasUnit tokens
        (a_unit.Component (record { imports = h.imports; exports = h.exports; parsed = p }))
    unit_of p has =
        let parts = head_parts _ _ _ _ _ _ has.yields in
        let behind = plain_behind p.component.export (body_tokens p.component) parts.2 in
        record {
          yields = ap (λ (x : Token). x ∷ named p.component.name
              ∷ (heads_tokens h.imports h.exports ++ body_tokens p.component)) parts.0
              ∙ (ap (λ (x : Token). word reserved.Component h.component ∷ x
              ∷ (heads_tokens h.imports h.exports ++ body_tokens p.component)) parts.1
              ∙ (ap with_heads behind.1 ∙ sym found.tokens));
          names = has.names;
          texts = has.texts;
          plain = behind.0;
          obeys = has.obeys;
        }

    only_unit : (p : Parsed) → ((other : Component) → HasTree bare other → other ≡ p.component)
        → (other : Unit) → HasUnit tokens other
        → other
        ≡ a_unit.Component (record { imports = h.imports; exports = h.exports; parsed = p })
    only_unit p only (a_unit.Component v) has =
        let k = tree_of v has in
        same_unit v.imports h.imports v.exports h.exports v.parsed.component p.component
        (ap (λ (x : Heads). x.imports) k.0) (ap (λ (x : Heads). x.exports) k.0)
        (only v.parsed.component k.1)
    only_unit p only (a_unit.Api a) has = absurd (api_begins a tokens.list has.yields own)

    no_unit : HasNone bare → HasNoUnit tokens
    no_unit none (a_unit.Component v) has = none v.parsed.component (tree_of v has).1
    no_unit none (a_unit.Api a) has = api_begins a tokens.list has.yields own

    -- ---- where the tokens without the heads stop

    reads_on : (others : Row) → (heads n).run (with_heads (t ∷ others)) ≡ Read h (t ∷ others)
    reads_on others =
        let s = subst (λ o. Locally (heads n).run tokens.list o) read ((heads n).local tokens.list)
        in let front : front_tokens h ≡ s.front =
        append_cancel_right (front_tokens h) s.front (t ∷ m) (sym found.tokens ∙ s.whole) in
        subst (λ (f : Row). (heads n).run (f ++ t ∷ others) ≡ Read h (t ∷ others)) (sym front)
        (s.same t m others refl)

    -- tokens that go on from the same one
    goes_on : (f : Row) (token : Token) (rest others : Row) → t ∷ m ≡ f ++ token ∷ rest
        → (x : Row) × (f ++ token ∷ others ≡ t ∷ x)
    goes_on [] token rest others e =
        let is : t ≡ token = cc in (others, ap (λ (x : Token). x ∷ others) (sym is))
    goes_on (g ∷ f) token rest others e =
        let is : t ≡ g = cc in
        (f ++ token ∷ others, ap (λ (x : Token). x ∷ (f ++ token ∷ others)) (sym is))

    reads_at : (f : Row) (token : Token) (rest others : Row) → t ∷ m ≡ f ++ token ∷ rest
        → (heads n).run (with_heads (f ++ token ∷ others)) ≡ Read h (f ++ token ∷ others)
    reads_at f token rest others e =
        let x = goes_on f token rest others e in
        subst (λ (r : Row). (heads n).run (with_heads r) ≡ Read h r) (sym x.1) (reads_on x.0)

    moved : (f : Row) (token : Token) (others : Row)
        → (with_heads f ++ token ∷ []) ++ others ≡ with_heads (f ++ token ∷ others)
    moved f token others =
        append_assoc (with_heads f) (token ∷ []) others
        ∙ append_assoc (front_tokens h) f (token ∷ others)

    many_none : (f : Row) (token : Token) (rest : Row) → t ∷ m ≡ f ++ token ∷ rest
        → (more : Spellings) (texts : List (List ℕ)) (others : Row)
        → HasNone (record {
          list = begun (f ++ token ∷ []) ++ others;
          names = tokens.names ++ more;
          texts = texts;
        })
        → HasNoUnit (record {
          list = (with_heads f ++ token ∷ []) ++ others;
          names = tokens.names ++ more;
          texts = texts;
        })
    many_none f token rest e more texts others none (a_unit.Component v) has =
        let g = gets_read h (f ++ token ∷ others)
        (unit_heads n v (with_heads (f ++ token ∷ others)) (has.yields ∙ moved f token others))
        (reads_at f token rest others e) in
        none v.parsed.component
        (plain_tree
        (record {
          list = (with_heads f ++ token ∷ []) ++ others;
          names = tokens.names ++ more;
          texts = texts;
        }) v (begun (f ++ token ∷ []) ++ others) has
        (same_start v (f ++ token ∷ others) g.0 g.1
        ∙ ap begun (sym (append_assoc f (token ∷ []) others))))
    many_none f token rest e more texts others none (a_unit.Api a) has =
        api_begins a _ has.yields refl

    -- a token of those without the heads is one of those with them
    whole_at : (f : Row) (token : Token) (rest : Row) → t ∷ m ≡ f ++ token ∷ rest
        → tokens.list ≡ with_heads f ++ token ∷ rest
    whole_at f token rest e =
        found.tokens ∙ ap with_heads e ∙ sym (append_assoc (front_tokens h) f (token ∷ rest))

    numbered_at : (f : Row) (token : Token)
        → NumbersAreIn tokens.names tokens.texts (with_heads f ++ token ∷ [])
        → NumbersAreIn tokens.names tokens.texts (begun (f ++ token ∷ []))
    numbered_at f token all =
        without_heads tokens.names tokens.texts h (f ++ token ∷ [])
        (subst (λ (r : Row). NumbersAreIn tokens.names tokens.texts r)
        (append_assoc (front_tokens h) f (token ∷ [])) all)

    -- none of the components begins with these tokens
    abbrev Stops : Row → Token → Type 0
    Stops front token = NumbersAreIn tokens.names tokens.texts (front ++ token ∷ [])
        → BeginsNone bare (front ++ token ∷ [])

    stop_behind : (at : Place) (f : Row) (token : Token) (rest : Row) → t ∷ m ≡ f ++ token ∷ rest
        → Stops (begun f) token → token.place ≡ at → StopsUnitAt tokens at
    stop_behind at f token rest e none place = record {
      front = with_heads f;
      token = token;
      rest = rest;
      whole = whole_at f token rest e;
      place = place;
      none = λ all more texts others. many_none f token rest e more texts others
          (none (numbered_at f token all) more texts others);
    }

    stop_of : (at : Place) (front : Row) (token : Token) (rest : Row)
        → bare.list ≡ front ++ token ∷ rest → Stops front token → token.place ≡ at
        → StopsUnitAt tokens at
    stop_of at [] token rest is none place =
        let first : word reserved.Component h.component ≡ token = cc in
        record {
          front = [];
          token = token;
          rest = named h.name ∷ (heads_tokens h.imports h.exports ++ t ∷ m);
          whole = found.tokens ∙ ap (λ (x : Token). x ∷ named h.name
              ∷ (heads_tokens h.imports h.exports ++ t ∷ m)) first;
          place = place;
          none = λ all more texts others. one_none (tokens.names ++ more) texts token others
              (ap (λ (x : Token). is_api x.kind) (sym first))
              (λ c body has. none all more texts body c has);
        }
    stop_of at (a ∷ []) token rest is none place =
        let parts = head_parts _ _ _ _ _ _ is in
        record {
          front = a ∷ [];
          token = token;
          rest = heads_tokens h.imports h.exports ++ t ∷ m;
          whole = found.tokens ∙ (ap (λ (x : Token). x ∷ named h.name
              ∷ (heads_tokens h.imports h.exports ++ t ∷ m)) parts.0
              ∙ ap (λ (x : Token). a ∷ x ∷ (heads_tokens h.imports h.exports ++ t ∷ m)) parts.1);
          place = place;
          none = λ all more texts others. two_none (tokens.names ++ more) texts a token others
              (ap (λ (x : Token). is_api x.kind) (sym parts.0))
              (λ c body has. none all more texts body c has);
        }
    stop_of at (a ∷ b ∷ f) token rest is none place =
        let parts = head_parts _ _ _ _ _ _ is in
        let one : Stops (a ∷ named h.name ∷ f) token =
        subst (λ (x : Token). Stops (a ∷ x ∷ f) token) (sym parts.1) none in
        let two : Stops (begun f) token =
        subst (λ (x : Token). Stops (x ∷ named h.name ∷ f) token) (sym parts.0) one in
        stop_behind at f token rest parts.2 two place

    end_of : (at : Place) (front : Row) (token : Token) → bare.list ≡ front ++ token ∷ []
        → token.place ≡ at → EndsAt tokens at
    end_of at [] token is place = absurd cc
    end_of at (a ∷ []) token is place = absurd cc
    end_of at (a ∷ b ∷ f) token is place =
        let parts = head_parts _ _ _ _ _ _ is in
        record {
          front = with_heads f;
          token = token;
          whole = whole_at f token [] parts.2;
          place = place;
        }

    fault_of : (at : Place) → IsFault bare at → IsUnitFault tokens at
    fault_of at (inl s) = inl (stop_of at s.front s.token s.rest s.whole s.none s.place)
    fault_of at (inr (inl e)) = inr (inl (end_of at e.front e.token e.whole e.place))
    fault_of at (inr (inr e)) = let none = e.none in absurd cc

    -- ---- what is answered

    shallow_bare : Shallow tokens → (at : Place) → FirstDeep bare.list at → ⊥
    shallow_bare shallow at deep =
        let own_list : AllShallow tokens.list =
        subst AllShallow (own_tokens tokens.list own) shallow in
        not_deep h (t ∷ m) at (subst AllShallow found.tokens own_list) deep

    breaks_of : (rule : ℕ) (at : Place) → Shallow tokens → Breaks bare rule at
        → BreaksUnit tokens rule at
    breaks_of rule at shallow (TooDeep deep) = absurd (shallow_bare shallow at deep)
    breaks_of rule at shallow (Syntax low none fault) =
        unit_answer.Syntax shallow (no_unit none) (fault_of at fault)
    breaks_of rule at shallow (TooMany low c has limit) =
        unit_answer.TooMany shallow
        (a_unit.Component
        (record { imports = h.imports; exports = h.exports; parsed = record { component = c } }))
        (unit_of (record { component = c }) has) limit

    pub is_unit : (p : Parsed) → Shallow tokens → IsComponent bare p.component
        → IsUnit tokens
        (a_unit.Component (record { imports = h.imports; exports = h.exports; parsed = p }))
    is_unit p shallow is = record {
      shallow = shallow;
      tree = unit_of p is.tree;
      only = only_unit p is.only;
      small = is.small;
    }

    pub refused : (fault : CheckFault) → Shallow tokens → Answers bare (Err fault)
        → UnitAnswers tokens (Err fault)
    refused (a_fault.Refused rule at) shallow h = breaks_of rule.0 at shallow h
    refused a_fault.Memory shallow h = tt

-- ---- what stands behind the heads, a token at least

is_some_token : (rest : Row) → (rest ≡ [] → ⊥) → (t : Token) × (m : Row) × (rest ≡ t ∷ m)
is_some_token [] some = absurd (some refl)
is_some_token (t ∷ m) some = (t, m, refl)

module _ (tokens : Tokens) (n : ℕ) (h : Heads) (rest : Row) (some : rest ≡ [] → ⊥)
    (own : begins_api tokens.list ≡ false) (read : (heads n).run tokens.list ≡ Read h rest)
    (shallow : Shallow tokens) (plain : Tokens)
    (is : plain
    ≡ record {
      list = word reserved.Component h.component ∷ named h.name ∷ rest;
      names = tokens.names;
      texts = tokens.texts;
    }) where
  bare_at : (t : Token) (m : Row) → rest ≡ t ∷ m
      → plain
      ≡ record {
        list = word reserved.Component h.component ∷ named h.name ∷ t ∷ m;
        names = tokens.names;
        texts = tokens.texts;
      }
  bare_at t m e =
      is ∙ ap (λ (u : Row). record {
        list = word reserved.Component h.component ∷ named h.name ∷ u;
        names = tokens.names;
        texts = tokens.texts;
      }) e

  pub unit_behind : (p : Parsed) → IsComponent plain p.component
      → IsUnit tokens
      (a_unit.Component (record { imports = h.imports; exports = h.exports; parsed = p }))
  unit_behind p found =
      let k = is_some_token rest some in
      is_unit tokens n h k.0 k.1 own (read ∙ ap (λ (u : Row). Read h u) k.2) p shallow
      (subst (λ (u : Tokens). IsComponent u p.component) (bare_at k.0 k.1 k.2) found)

  pub refused_behind : (fault : CheckFault) → Answers plain (Err fault)
      → UnitAnswers tokens (Err fault)
  refused_behind fault found =
      let k = is_some_token rest some in
      refused tokens n h k.0 k.1 own (read ∙ ap (λ (u : Row). Read h u) k.2) fault shallow
      (subst (λ (u : Tokens). Answers u (Err fault)) (bare_at k.0 k.1 k.2) found)

-- ---- where the heads end

drop_front : (front rest : Row) → drop (length (front ++ rest) - length rest) (front ++ rest) ≡ rest
drop_front [] rest = let z : length rest - length rest ≡ 0 = omega arith in rw z refl
drop_front (x ∷ front) rest =
    let e : length (x ∷ (front ++ rest)) - length rest
    ≡ suc (length (front ++ rest) - length rest) = omega (arith, length-append front rest) in
    rw e (drop_front front rest)

-- the tokens behind the heads are the last ones
pub behind_is : (n : ℕ) (ts : Row) (h : Heads) (rest : Row) → (heads n).run ts ≡ Read h rest
    → drop (length ts - length rest) ts ≡ rest
behind_is n ts h rest e =
    let f = (sound_heads n ts).holds h rest e in
    subst (λ (u : Row). drop (length u - length rest) u ≡ rest) (sym f.tokens)
    (drop_front (front_tokens h) rest)

pub behind_low : (n : ℕ) (ts : Row) (h : Heads) (rest : Row) → (heads n).run ts ≡ Read h rest
    → length rest ≤ length ts
behind_low n ts h rest e =
    let f = (sound_heads n ts).holds h rest e in
    omega (arith, ap length f.tokens, length-append (front_tokens h) rest)

-- ---- what was read of the tokens

pub failed_heads : (tokens : Tokens) (cursor : Row) (n : ℕ) (new list : Row) (next : Option Token)
    (place : Place) → begins_api tokens.list ≡ false → Shallow tokens → cursor ≡ tokens.list
    → list ≡ tokens.list → next ≡ next_of new → place ≡ fault_place list next
    → (heads n).run cursor ≡ Failed Because new → BreaksUnit tokens SYNTAX.0 place
failed_heads tokens cursor n new list next place own shallow f l m p h =
    let at : place ≡ fault_place tokens.list (next_of new) =
    p ∙ (ap (λ (x : Row). fault_place x next) l ∙ ap (fault_place tokens.list) m) in
    subst (BreaksUnit tokens SYNTAX.0) (sym at)
    (heads_fail tokens n new own shallow
    (subst (λ (ts : Row). (heads n).run ts ≡ Failed Because new) f h))

pub ends_at_heads : (tokens : Tokens) (n : ℕ) (h : Heads) (rest list : Row) (place : Place)
    → begins_api tokens.list ≡ false → Shallow tokens → (heads n).run tokens.list ≡ Read h rest
    → rest ≡ [] → list ≡ tokens.list → place ≡ fault_place list None
    → BreaksUnit tokens SYNTAX.0 place
ends_at_heads tokens n h rest list place own shallow read empty l p =
    let at : place ≡ fault_place tokens.list None = p ∙ ap (λ (x : Row). fault_place x None) l in
    subst (BreaksUnit tokens SYNTAX.0) (sym at)
    (heads_alone tokens n h own shallow (read ∙ ap (λ (u : Row). Read h u) empty))

-- ---- the slice behind the heads

pub sliced : (end : ℕ) (list ts : Row) → list ≡ ts
    → take (length list - end) (drop end list) ≡ drop end ts
sliced end list ts e =
    take_all (length list - end) (drop end list) (omega (arith, length-drop end list))
    ∙ ap (λ (u : Row). drop end u) e

not_zero : (n : ℕ) → (suc n == 0) ≡ true → ⊥
not_zero n h = grind (arith, nat_tests)

is_zero : (n : ℕ) → n ≡ 0 → (n == 0) ≡ false → ⊥
is_zero n e h = grind (arith, nat_tests)

pub empty_is : (xs ys : Row) (b : Bool) → xs ≡ ys → b ≡ (length xs == 0) → b ≡ true → ys ≡ []
empty_is xs [] b e f g = refl
empty_is xs (y ∷ ys) b e f g =
    absurd (not_zero (length ys) (sym (ap (λ (u : Row). length u == 0) e) ∙ (sym f ∙ g)))

pub some_is : (xs ys : Row) (b : Bool) → xs ≡ ys → b ≡ (length xs == 0) → b ≡ false → ys ≡ []
    → ⊥
some_is xs ys b e f g z =
    is_zero (length ys) (ap length z)
    (sym (ap (λ (u : Row). length u == 0) e) ∙ (sym f ∙ g))
