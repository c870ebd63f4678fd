-- No token list is neither one component that passes no limit, nor breaks a rule of the grammar.
use Rattle.std.proofs.Common.{◌≡◌, ◌<◌, ◌≤◌, ◌⊎◌, inl, inr, ℕ, List, [], ◌∷◌, ◌++◌, refl, sym, ap, subst, arith, append_assoc}
use Rattle.std.specs.List.{Contains}
use Rattle.std.proofs.lemmas.List.{append-nil}
use Rattle.fort_base.specs.declared.rules.TheConstants.{SYNTAX, TOO_DEEP, TOO_MANY}
use Rattle.fort_base.specs.declared.refusal.Place.{Place}
use Rattle.fort_lex_token.specs.declared.token.Token.{Token}
use Rattle.fort_lex_token.specs.declared.token.Tokens.{Tokens}
use Rattle.fort_tree.specs.declared.declarations.Component.{Component}
use Rattle.fort_tree.specs.Component.{HasTree}
use Rattle.fort_tree.specs.Limits.{crowded}
use Rattle.fort_tree.specs.Openers.{openers_round, AllShallow, FirstDeep}
use Rattle.fort_syntax.specs.Answer.{IsFault, AtMostOne, TooDeep, Syntax, TooMany}
use Rattle.fort_front_law_decided.specs.Phases.{GrammarDecides}
use Rattle.fort_front_law_decided.proofs.Order.{none_earliest}

-- ---- how deep tokens stand

-- a place in a list with one more token is the last, or one in the list
data InMore (ts front : List Token) (t u : Token) : Type 0 where
  last : ts ≡ front → t ≡ u → InMore ts front t u
  within : (rest : List Token) → ts ≡ front ++ u ∷ rest → InMore ts front t u

behind : (x : Token) (ts front : List Token) (t u : Token) → InMore ts front t u
    → InMore (x ∷ ts) (x ∷ front) t u
behind x ts front t u (last e f) = last (ap (λ (s : List Token). x ∷ s) e) f
behind x ts front t u (within rest e) = within rest (ap (λ (s : List Token). x ∷ s) e)

none_before : (u : Token) (front rest : List Token) → [] ≡ front ++ u ∷ rest → ⊥
none_before u [] rest e = cc
none_before u (g ∷ front) rest e = cc

in_more : (ts front : List Token) (t u : Token) (rest : List Token)
    → ts ++ t ∷ [] ≡ front ++ u ∷ rest → InMore ts front t u
in_more [] [] t u rest e = last refl (cc)
in_more [] (f ∷ front) t u rest e = absurd (none_before u front rest (cc))
in_more (x ∷ ts) [] t u rest e = within ts (cc)
in_more (x ∷ ts) (f ∷ front) t u rest e =
    let head : x ≡ f = cc in
    let tail : ts ++ t ∷ [] ≡ front ++ u ∷ rest = cc in
    subst (λ y. InMore (x ∷ ts) (y ∷ front) t u) head
    (behind x ts front t u (in_more ts front t u rest tail))

shallow_more : (ts : List Token) (t : Token) → AllShallow ts → openers_round ts t ≤ 100
    → AllShallow (ts ++ t ∷ [])
shallow_more ts t shallow low front u rest e = of_case (in_more ts front t u rest e)
  where
    of_case : InMore ts front t u → openers_round front u ≤ 100
    of_case (last same token) =
        subst (λ (f : List Token). openers_round f u
        ≤ 100) same (subst (λ v. openers_round ts v ≤ 100) token low)
    of_case (within more whole) = shallow front u more whole

low_or_deep : (n : ℕ) → (n ≤ 100) ⊎ (100 < n)
low_or_deep n = grind arith

abbrev HasDeep : List Token → Type 0
HasDeep ts = (at : Place) × FirstDeep ts at

-- where the first tokens stand shallow, all do, or there is a first one that doesn't
from_front : (front rest : List Token) → AllShallow front
    → AllShallow (front ++ rest) ⊎ HasDeep (front ++ rest)
from_front front [] s = inl (subst AllShallow (sym (append-nil front)) s)
from_front front (t ∷ rest) s =
    elim (low_or_deep (openers_round front t)) as
    (λ _. AllShallow (front ++ t ∷ rest) ⊎ HasDeep (front ++ t ∷ rest)) [
      | inl low ↦
          subst (λ z. AllShallow z ⊎ HasDeep z) (append_assoc front (t ∷ []) rest)
          (from_front (front ++ t ∷ []) rest (shallow_more front t s low))
      | inr deep ↦
          inr (
            t.place,
            record {
              front = front;
              token = t;
              rest = rest;
              whole = refl;
              deep = deep;
              before = s;
              place = refl;
            },
          )
    ]

none_shallow : AllShallow []
none_shallow front t rest e = absurd (none_before t front rest e)

-- ---- where a list ends

abbrev HasLast : List Token → Type 0
HasLast ts = (front : List Token) × (t : Token) × (ts ≡ front ++ t ∷ [])

last_behind : (t : Token) (ts : List Token) → (ts ≡ []) ⊎ HasLast ts → HasLast (t ∷ ts)
last_behind t ts (inl e) = ([], t, ap (λ z. t ∷ z) e)
last_behind t ts (inr l) = (t ∷ l.0, l.1, ap (λ z. t ∷ z) l.2)

none_or_last : (ts : List Token) → (ts ≡ []) ⊎ HasLast ts
none_or_last [] = inl refl
none_or_last (t ∷ ts) = inr (last_behind t ts (none_or_last ts))

fault_of : (tokens : Tokens) → (tokens.list ≡ []) ⊎ HasLast tokens.list
    → (at : Place) × IsFault tokens at
fault_of tokens (inl e) =
    (record { line = 1; column = 1 }, inr (inr (record { none = e; place = refl })))
fault_of tokens (inr l) =
    (l.1.place, inr (inl (record { front = l.0; token = l.1; whole = l.2; place = refl })))

-- ---- the grammar

pub component_or_break : AtMostOne → GrammarDecides
component_or_break once tokens none unbroken =
    elim (from_front [] tokens.list none_shallow) as (λ _. ⊥) [
      | inr d ↦ unbroken (TOO_DEEP, d.0, TooDeep d.1)
      | inl s ↦
          (let fault = fault_of tokens (none_or_last tokens.list)
          in unbroken (SYNTAX, fault.0, Syntax s (treeless s) fault.1))
    ]
  where
    limited : AllShallow tokens.list → (c : Component) → HasTree tokens c → (places : List Place)
        → crowded c ≡ places → ⊥
    limited s c tree [] e = none (record {
      component = c;
      is = record {
        shallow = s;
        tree = tree;
        only = λ other t. once tokens other c t tree;
        small = e;
      };
    })
    limited s c tree (p ∷ places) e =
        none_earliest (Contains (crowded c))
        (λ at first. unbroken (TOO_MANY, at, TooMany s c tree (first.breaks, λ other w b. first.none_before other w b)))
        p (subst (λ z. Contains z p) (sym e) (0, omega arith, refl))

    treeless : AllShallow tokens.list → (c : Component) → HasTree tokens c → ⊥
    treeless s c tree = limited s c tree (crowded c) refl
