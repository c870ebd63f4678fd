-- The chapter "Grammar", openers: how deep tokens stand, token by token.
use Rattle.std.proofs.Common.{◌≡◌, ℕ, ◌+◌, ◌<◌, ◌≤◌, Bool, false, List, [], ◌∷◌, ◌++◌, get_or, take, drop, length, refl, sym, ap, subst, ◌∙◌, arith, append_assoc}
use Rattle.std.proofs.lemmas.List.{take_more, take-append-drop}
use Rattle.fort_lex_token.specs.declared.token.Token.{Token}
use Rattle.fort_tree.specs.Openers.{Turn, Opens, Closes, Stays, AllShallow, FirstDeep, is_also, turn, turned, open_behind, ends_with_also, open_round, openers_round}

-- whether a token directly behind these follows `also`, by whether one directly behind the token
-- before them does
abbrev also_behind : Bool → List Token → Bool
also_behind behind [] = behind
also_behind behind (t ∷ ts) = also_behind (is_also t.kind) ts

ends-also : (ts : List Token) → ends_with_also ts ≡ also_behind false ts
ends-also [] = refl
ends-also (t ∷ []) = refl
ends-also (t ∷ u ∷ ts) = ends-also (u ∷ ts)

also-push : (behind : Bool) (ts : List Token) (t : Token)
    → also_behind behind (ts ++ t ∷ []) ≡ is_also t.kind
also-push behind [] t = refl
also-push behind (u ∷ ts) t = also-push (is_also u.kind) ts t

open-push : (behind : Bool) (depth : ℕ) (ts : List Token) (t : Token)
    → open_behind behind depth (ts ++ t ∷ [])
    ≡ turned (turn (also_behind behind ts) t.kind) (open_behind behind depth ts)
open-push behind depth [] t = refl
open-push behind depth (u ∷ ts) t =
    open-push (is_also u.kind) (turned (turn behind u.kind) depth) ts t

pub also_more : (ts : List Token) (i : ℕ) (d : Token) → i < length ts
    → ends_with_also (take (i + 1) ts) ≡ is_also (get_or ts i d).kind
also_more ts i d lt =
    ap ends_with_also (take_more ts i d lt) ∙ ends-also (take i ts ++ get_or ts i d ∷ [])
    ∙ also-push false (take i ts) (get_or ts i d)

open_more : (ts : List Token) (i : ℕ) (d : Token) → i < length ts
    → open_behind false 0 (take (i + 1) ts)
    ≡ turned (turn (ends_with_also (take i ts)) (get_or ts i d).kind)
    (open_behind false 0 (take i ts))
open_more ts i d lt =
    ap (open_behind false 0) (take_more ts i d lt) ∙ open-push false 0 (take i ts) (get_or ts i d)
    ∙ ap (λ b. turned (turn b (get_or ts i d).kind) (open_behind false 0 (take i ts)))
    (sym (ends-also (take i ts)))

-- how many openers are open behind one more token, as the code counts them
pub depth_more : (ts : List Token) (i : ℕ) (d : Token) (depth : ℕ) (behind : Bool) (does : Turn)
    (next : ℕ) → i < length ts → depth ≡ open_behind false 0 (take i ts)
    → behind ≡ ends_with_also (take i ts)
    → does ≡ turn behind (get_or ts i d).kind → next ≡ turned does depth
    → next ≡ open_behind false 0 (take (i + 1) ts)
depth_more ts i d depth behind does next lt is also turns moves = let e = open_more ts i d lt in cc

-- how many openers a token stands inside, as the code counts them
round_is : (front : List Token) (t : Token) (depth : ℕ) (behind : Bool) (does : Turn) (round : ℕ)
    → depth ≡ open_behind false 0 front → behind ≡ ends_with_also front
    → does ≡ turn behind t.kind → round ≡ open_round does depth → round ≡ openers_round front t
round_is front t depth behind does round is also turns rounds = cc

-- behind a token that stands shallow enough at most 101 openers are open
pub turned-low : (does : Turn) (depth : ℕ) → open_round does depth ≤ 100 → turned does depth ≤ 101
turned-low Opens depth h = omega arith
turned-low Closes depth h = omega arith
turned-low Stays depth h = omega arith

-- a place in a list with one more token is the last, or one in the list
data InMore (ts front : List Token) (t u : Token) : Type 0 where
  Last : ts ≡ front → t ≡ u → InMore ts front t u
  Within : (rest : List Token) → ts ≡ front ++ u ∷ rest → InMore ts front t u

within : (x : Token) (ts front : List Token) (t u : Token) → InMore ts front t u
    → InMore (x ∷ ts) (x ∷ front) t u
within x ts front t u (Last e f) = Last (ap (λ (s : List Token). x ∷ s) e) f
within x ts front t u (Within rest e) = Within rest (ap (λ (s : List Token). x ∷ s) e)

in_more : (ts front : List Token) (t u : Token) (rest : List Token)
    → ts ++ t ∷ [] ≡ front ++ u ∷ rest → InMore ts front t u
in_more [] [] t u rest e = Last refl (cc)
in_more [] (f ∷ front) t u rest e = absurd (none front (cc)) where
  none : (front : List Token) → [] ≡ front ++ u ∷ rest → ⊥
  none [] e = cc
  none (g ∷ front) e = cc
in_more (x ∷ ts) [] t u rest e = Within ts (cc)
in_more (x ∷ ts) (f ∷ front) t u rest e =
    let head : x ≡ f = cc in
    let tail : ts ++ t ∷ [] ≡ front ++ u ∷ rest = cc in
    subst (λ y. InMore (x ∷ ts) (y ∷ front) t u) head
    (within x ts front t u (in_more ts front t u rest tail))

shallow-push : (ts : List Token) (t : Token) → AllShallow ts → openers_round ts t ≤ 100
    → AllShallow (ts ++ t ∷ [])
shallow-push ts t shallow low front u rest e = of_case (in_more ts front t u rest e) where
  of_case : InMore ts front t u → openers_round front u ≤ 100
  of_case (Last same token) =
      subst (λ (f : List Token). openers_round f u
      ≤ 100) same (subst (λ v. openers_round ts v ≤ 100) token low)
  of_case (Within more whole) = shallow front u more whole

pub none_shallow : AllShallow []
none_shallow [] t rest e = absurd (cc)
none_shallow (f ∷ front) t rest e = absurd (cc)

shallow-more : (ts : List Token) (i : ℕ) (d : Token) → i < length ts → AllShallow (take i ts)
    → openers_round (take i ts) (get_or ts i d) ≤ 100 → AllShallow (take (i + 1) ts)
shallow-more ts i d lt shallow low =
    subst AllShallow (sym (take_more ts i d lt))
    (shallow-push (take i ts) (get_or ts i d) shallow low)

first-deep : (ts : List Token) (i : ℕ) (d : Token) → i < length ts → AllShallow (take i ts)
    → 100 < openers_round (take i ts) (get_or ts i d) → FirstDeep ts (get_or ts i d).place
first-deep ts i d lt shallow deep = record {
  front = take i ts;
  token = get_or ts i d;
  rest = drop (i + 1) ts;
  whole = sym (take-append-drop (i + 1) ts) ∙ ap (λ
      (f : List Token). f ++ drop (i + 1) ts) (take_more ts i d lt)
      ∙ append_assoc (take i ts) (get_or ts i d ∷ []) (drop (i + 1) ts);
  deep = deep;
  before = shallow;
  place = refl;
}

-- a token at which the code's count is passed is the first deep one, and else all tokens up to it
-- stand shallow
module _ (ts : List Token) (i : ℕ) (d : Token) (depth : ℕ) (behind : Bool) (does : Turn) (round : ℕ)
    (lt : i < length ts) (shallow : AllShallow (take i ts))
    (is : depth ≡ open_behind false 0 (take i ts)) (also : behind ≡ ends_with_also (take i ts))
    (turns : does ≡ turn behind (get_or ts i d).kind)
    (rounds : round ≡ open_round does depth) where
  pub deep_here : 100 < round → FirstDeep ts (get_or ts i d).place
  deep_here h =
      first-deep ts i d lt shallow
      (subst (λ n. 100
      < n) (round_is (take i ts) (get_or ts i d) depth behind does round is also turns rounds)
      h)

  pub shallow_here : round ≤ 100 → AllShallow (take (i + 1) ts)
  shallow_here h =
      shallow-more ts i d lt shallow
      (subst (λ n. n
      ≤ 100) (round_is (take i ts) (get_or ts i d) depth behind does round is also turns rounds)
      h)
