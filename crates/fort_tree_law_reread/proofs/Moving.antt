-- A map of places that takes the tokens of one list to those of another, which has the same kinds
-- and gaps.
use Rattle.std.proofs.Common.{◌≡◌, ℕ, ◌≤◌, Bool, true, false, cond, List, [], ◌∷◌, ◌++◌, map, refl, sym, ap, subst, ◌∙◌, arith}
use Rattle.fort_base.specs.declared.refusal.Gap.{Gap}
use Rattle.fort_base.specs.declared.refusal.Place.{Place}
use Rattle.fort_lex_token.specs.declared.token.Kind.{Kind}
use Rattle.fort_lex_token.specs.declared.token.Token.{Token}
use Rattle.fort_tree.specs.Openers.{AllShallow, openers_round, open_behind, open_round, ends_with_also, turn, turned, is_also}
use Rattle.fort_lex_canonical.specs.Canonical.{without_first_gap}
use Rattle.fort_tree_law_moved.specs.Spots.{moved_token}
use Rattle.fort_tree_law_reread.proofs.Apart.{is_place, is_itself, NoneAt, AreApart}

-- where a place of the first tokens is among the second ones
abbrev pub place_in : List Token → List Token → Place → Place
place_in [] us p = p
place_in (t ∷ ts) [] p = p
place_in (t ∷ ts) (u ∷ us) p = cond (is_place t.place p) u.place (place_in ts us p)

-- at other places a token more plays no part
skipped : (t u : Token) (ts us vs : List Token) → NoneAt t.place vs
    → map (moved_token (place_in (t ∷ ts) (u ∷ us))) vs ≡ map (moved_token (place_in ts us)) vs
skipped t u ts us [] none = refl
skipped t u ts us (v ∷ vs) none =
    λ i. record {
      kind = v.kind;
      gap = v.gap;
      place = cond (none.0 i) u.place (place_in ts us v.place);
    } ∷ skipped t u ts us vs none.1 i

-- tokens by their parts
same_token : {t u : Token} → t.kind ≡ u.kind → t.gap ≡ u.gap → t.place ≡ u.place → t ≡ u
same_token k g p = λ i. record { kind = k i; gap = g i; place = p i }

-- the first of equal kinds
kinds_head : (t u : Token) (ts us : List Token)
    → map (λ (t : Token). t.kind) (u ∷ us) ≡ map (λ (t : Token). t.kind) (t ∷ ts)
    → (t.kind ≡ u.kind) × (map (λ (t : Token). t.kind) us ≡ map (λ (t : Token). t.kind) ts)
kinds_head t u ts us e = (cc, cc)

-- the first of equal gaps
gaps_head : (t u : Token) (ts us : List Token)
    → map (λ (t : Token). t.gap) (u ∷ us) ≡ map (λ (t : Token). t.gap) (t ∷ ts)
    → (t.gap ≡ u.gap) × (map (λ (t : Token). t.gap) us ≡ map (λ (t : Token). t.gap) ts)
gaps_head t u ts us e = (cc, cc)

-- The map takes each token to its fellow.
pub taken : (ts us : List Token) → AreApart ts
    → map (λ (t : Token). t.kind) us ≡ map (λ (t : Token). t.kind) ts
    → map (λ (t : Token). t.gap) us ≡ map (λ (t : Token). t.gap) ts
    → map (moved_token (place_in ts us)) ts ≡ us
taken [] [] apart kinds gaps = refl
taken [] (u ∷ us) apart kinds gaps = absurd cc
taken (t ∷ ts) [] apart kinds gaps = absurd cc
taken (t ∷ ts) (u ∷ us) apart kinds gaps =
    let k = kinds_head t u ts us kinds in
    let g = gaps_head t u ts us gaps in
    let here : moved_token (place_in (t ∷ ts) (u ∷ us)) t ≡ u =
    same_token k.0 g.0 (ap (λ b. cond b u.place (place_in ts us t.place)) (is_itself t.place))
    in
    let rest = skipped t u ts us ts apart.0 ∙ taken ts us apart.1 k.1 g.1 in
    λ i. here i ∷ rest i

-- the gap before the first token plays no part in places
pub apart_without : (ts : List Token) → AreApart ts → AreApart (without_first_gap ts)
apart_without [] apart = apart
apart_without (t ∷ ts) apart = apart

-- nor in kinds
pub kinds_without : (ts : List Token)
    → map (λ (t : Token). t.kind) (without_first_gap ts) ≡ map (λ (t : Token). t.kind) ts
kinds_without [] = refl
kinds_without (t ∷ ts) = refl

-- ---- how deep a token stands, by kinds

-- the kinds of tokens
abbrev kinds_of : List Token → List Kind
kinds_of ts = map (λ (t : Token). t.kind) ts

-- as many openers are open
open_same : (also : Bool) (depth : ℕ) (ts us : List Token) → kinds_of ts ≡ kinds_of us
    → open_behind also depth ts ≡ open_behind also depth us
open_same also depth [] [] e = refl
open_same also depth [] (u ∷ us) e = absurd cc
open_same also depth (t ∷ ts) [] e = absurd cc
open_same also depth (t ∷ ts) (u ∷ us) e =
    let k = kinds_head u t us ts e in
    ap (λ (x : Kind). open_behind (is_also x) (turned (turn also x) depth) ts) (sym k.0)
    ∙ open_same (is_also u.kind) (turned (turn also u.kind) depth) ts us k.1

-- The last is `also` as before.
also_same : (ts us : List Token) → kinds_of ts ≡ kinds_of us → ends_with_also ts ≡ ends_with_also us
also_same [] [] e = refl
also_same [] (u ∷ us) e = absurd cc
also_same (t ∷ ts) [] e = absurd cc
also_same (t ∷ []) (u ∷ []) e = ap is_also (sym (kinds_head u t [] [] e).0)
also_same (t ∷ []) (u ∷ v ∷ us) e = absurd cc
also_same (t ∷ s ∷ ts) (u ∷ []) e = absurd cc
also_same (t ∷ s ∷ ts) (u ∷ v ∷ us) e =
    also_same (s ∷ ts) (v ∷ us) (kinds_head u t (v ∷ us) (s ∷ ts) e).1

-- A token stands as deep as before.
round_same : (front others : List Token) (t u : Token) → kinds_of front ≡ kinds_of others
    → t.kind ≡ u.kind → openers_round front t ≡ openers_round others u
round_same front others t u e k =
    λ i. open_round (turn (also_same front others e i) (k i)) (open_same false 0 front others e i)

-- where tokens have the kinds of others, they split as these do
splits : (ts front rest : List Token) (t : Token) → kinds_of ts ≡ kinds_of (front ++ t ∷ rest)
    → (others : List Token) × (u : Token) × (more : List Token) × (ts ≡ others ++ u ∷ more)
    × (kinds_of front ≡ kinds_of others) × (t.kind ≡ u.kind)
splits [] [] rest t e = absurd cc
splits [] (f ∷ front) rest t e = absurd cc
splits (u ∷ ts) [] rest t e = ([], u, ts, refl, refl, (kinds_head t u rest ts e).0)
splits (u ∷ ts) (f ∷ front) rest t e =
    let k = kinds_head f u (front ++ t ∷ rest) ts e in
    let s = splits ts front rest t k.1 in
    (u ∷ s.0, s.1, s.2, ap (λ (xs : List Token). u ∷ xs) s.3, (λ i. k.0 i ∷ s.4 i), s.5)

-- Tokens of the same kinds stand as deep.
pub shallow_by_kinds : (ts us : List Token) → kinds_of us ≡ kinds_of ts → AllShallow ts
    → AllShallow us
shallow_by_kinds ts us e shallow front t rest whole =
    let s = splits ts front rest t (sym e ∙ ap kinds_of whole) in
    subst (λ n. n ≤ 100) (sym (round_same front s.0 t s.1 s.4 s.5)) (shallow s.0 s.1 s.2 s.3)
