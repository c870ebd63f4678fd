-- The chapter "Grammar", parts by themselves: what is answered of the longest expression, or type,
-- that begins at a token. `Has` says which tokens are which part, as `HasExpr` and `HasType` of
-- fort_tree do over the spellings of names. The code runs a parser that looks one token ahead;
-- where it fails it runs it again with fewer and fewer tokens.
use Rattle.std.specs.Prelude.{◌≡◌, ℕ, ◌≤◌, List, [], ◌∷◌, ◌++◌, length, slice_range, Result, Ok, Err}
use Rattle.fort_base.specs.declared.rules.TheConstants.{SYNTAX, TOO_DEEP}
use Rattle.fort_base.specs.declared.refusal.Place.{Place}
use Rattle.fort_base.specs.declared.refusal.CheckFault.{CheckFault}
use Rattle.fort_base.specs.declared.refusal.CheckFault.TheVariants as a_fault
use Rattle.fort_lex_token.specs.declared.token.Token.{Token}
use Rattle.fort_tree.specs.Openers.{AllShallow, FirstDeep}

-- The tokens from number `at` on, up to number `behind`, are this part.
pub record IsPart {A : Type 0} (Has : List Token → A → Type 0) (ts : List Token) (at behind : ℕ)
    (x : A) : Type 0 where
  pub forward : at ≤ behind
  pub within : behind ≤ length ts
  pub tree : Has (slice_range ts at behind) x

-- This is the longest part that begins at `at`: it ends before `behind`, it is the only one from
-- there to there, and no longer one begins there.
pub record IsLongest {A : Type 0} (Has : List Token → A → Type 0) (ts : List Token) (at behind : ℕ)
    (x : A) : Type 0 where
  pub part : IsPart Has ts at behind x
  pub only : (y : A) → IsPart Has ts at behind y → y ≡ x
  pub longest : (end : ℕ) (y : A) → IsPart Has ts at end y → end ≤ behind

-- No part begins at `at`.
abbrev pub BeginsNone : {A : Type 0} → (List Token → A → Type 0) → List Token → ℕ → Type 0
BeginsNone {A} Has ts at = (behind : ℕ) (y : A) → IsPart Has ts at behind y → ⊥

-- The place of the token with that number; of the last one, where the number is behind all; or 1:1,
-- where there are none.
pub data IsPlaceAt (ts : List Token) (at : ℕ) (place : Place) : Type 0 where
  of_token : (front : List Token) (t : Token) (rest : List Token) → ts ≡ front ++ t ∷ rest
      → length front ≡ at → t.place ≡ place → IsPlaceAt ts at place
  of_last : (front : List Token) (t : Token) → ts ≡ front ++ t ∷ [] → length ts ≡ at
      → t.place ≡ place → IsPlaceAt ts at place
  of_none : ts ≡ [] → place ≡ record { line = 1; column = 1 } → IsPlaceAt ts at place

-- The call on these tokens breaks this rule, at this place: 202 where a token of the list stands
-- too deep; else 201 where no part begins at `at`.
pub data Breaks {A : Type 0} (Has : List Token → A → Type 0) (ts : List Token) (at : ℕ) : ℕ → Place
    → Type 0 where
  TooDeep : {place : Place} → FirstDeep ts place → Breaks Has ts at TOO_DEEP.0 place
  Syntax : {place : Place} → AllShallow ts → BeginsNone Has ts at → IsPlaceAt ts at place
      → Breaks Has ts at SYNTAX.0 place

-- What is answered is the longest part with the number of the token behind it, or what is broken.
abbrev pub Answers : {A : Type 0} → (List Token → A → Type 0) → List Token → ℕ
    → Result (A × ℕ) CheckFault → Type 0
Answers Has ts at (Ok found) = AllShallow ts × IsLongest Has ts at found.1 found.0
Answers Has ts at (Err (a_fault.Refused rule place)) = Breaks Has ts at rule.0 place
Answers Has ts at (Err a_fault.Memory) = Unit {0}
