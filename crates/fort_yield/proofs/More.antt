-- One more tree of a list, put behind those before it; and other steps of printing.
use Rattle.std.proofs.Common.{◌≡◌, ℕ, ◌+◌, ◌<◌, List, [], ◌∷◌, ◌++◌, Option, Some, None, length, get_or, take, refl, sym, ap, ◌∙◌, append_assoc}
use Rattle.std.specs.Prelude.{map}
use Rattle.std.proofs.lemmas.List.{take_more, map-append, append-nil}
use Rattle.fort_lex_token.specs.declared.token.Token.{Token}
use Rattle.fort_lex_token.specs.declared.marks.Mark.TheVariants as mark
use Rattle.fort_tree.specs.declared.spot.Spot.{Spot}
use Rattle.fort_tree.specs.declared.spot.NextName.{NextName}
use Rattle.fort_tree.specs.declared.expr.Prefix.{Prefix}
use Rattle.fort_tree.specs.declared.expr.Prefix.TheVariants as a_prefix
use Rattle.fort_tree.specs.Tokens.{marked, named}
use Rattle.fort_tree.specs.Said.{Said, SaidEntry, tokens_of, all_tokens, semicolon_tokens, entries_tokens}
use Rattle.fort_tree.specs.Blocks.{after_var, next_names_tokens}
use Rattle.fort_tree.specs.Flats.{prefixed}
use Rattle.fort_yield.specs.Parts.{entry_tokens, var_tokens, prefix_tokens}

-- tokens that lists of trees give, where those of two lists stand one after another
module _ {A : Type 0} (all : List A → List Token) (own : A → List Token)
    (splits : (xs ys : List A) → all (xs ++ ys) ≡ all xs ++ all ys)
    (lone : (x : A) → all (x ∷ []) ≡ own x) where
  pub one_more_of : (xs : List A) (i : ℕ) (x : A) (old at new : List Token) → i < length xs
      → x ≡ get_or xs i x
      → at ≡ old ++ all (take i xs) → new ≡ at ++ own x → new ≡ old ++ all (take (i + 1) xs)
  one_more_of xs i x old at new lt is so_far step =
      let more : all (take (i + 1) xs) ≡ all (take i xs) ++ own x =
      ap all (take_more xs i x lt ∙ ap (λ y. take i xs ++ y ∷ []) (sym is))
      ∙ splits (take i xs) (x ∷ []) ∙ ap (λ (u : List Token). all (take i xs) ++ u) (lone x) in
      step ∙ ap (λ
      (u : List Token). u ++ own x) so_far ∙ append_assoc old (all (take i xs)) (own x)
      ∙ ap (λ (u : List Token). old ++ u) (sym more)

all_tokens-append : (xs ys : List Said) → all_tokens (xs ++ ys) ≡ all_tokens xs ++ all_tokens ys
all_tokens-append [] ys = refl
all_tokens-append (x ∷ xs) ys =
    ap (λ (u : List Token). tokens_of x ++ u) (all_tokens-append xs ys)
    ∙ sym (append_assoc (tokens_of x) (all_tokens xs) (all_tokens ys))

entries_tokens-append : (xs ys : List SaidEntry)
    → entries_tokens (xs ++ ys) ≡ entries_tokens xs ++ entries_tokens ys
entries_tokens-append [] ys = refl
entries_tokens-append (x ∷ xs) ys = rw (entries_tokens-append xs ys) (simp append_assoc)

next_names_tokens-append : (xs ys : List NextName)
    → next_names_tokens (xs ++ ys) ≡ next_names_tokens xs ++ next_names_tokens ys
next_names_tokens-append [] ys = refl
next_names_tokens-append (x ∷ xs) ys =
    ap (λ (u : List Token). marked mark.Comma x.comma ∷ named x.name ∷ u)
    (next_names_tokens-append xs ys)

pub one_more : {A : Type 0} (said : A → Said) (xs : List A) (i : ℕ) (x : A)
    (old at new : List Token) → i < length xs → x ≡ get_or xs i x
    → at ≡ old ++ all_tokens (map said (take i xs)) → new ≡ at ++ tokens_of (said x)
    → new ≡ old ++ all_tokens (map said (take (i + 1) xs))
one_more said = one_more_of (λ ys. all_tokens (map said ys)) (λ y. tokens_of (said y))
    (λ ys zs. ap all_tokens (map-append said ys zs)
    ∙ all_tokens-append (map said ys) (map said zs)) (λ y. append-nil (tokens_of (said y)))

pub one_more_entry : {A : Type 0} (said : A → SaidEntry) (xs : List A) (i : ℕ) (x : A)
    (old at new : List Token) → i < length xs → x ≡ get_or xs i x
    → at ≡ old ++ entries_tokens (map said (take i xs)) → new ≡ at ++ entry_tokens (said x)
    → new ≡ old ++ entries_tokens (map said (take (i + 1) xs))
one_more_entry said = one_more_of (λ ys. entries_tokens (map said ys)) (λ y. entry_tokens (said y))
    (λ ys zs. ap entries_tokens (map-append said ys zs)
    ∙ entries_tokens-append (map said ys) (map said zs))
    (λ y. ap (λ
    (u : List Token). tokens_of (said y).item ++ u)
    (append-nil (semicolon_tokens (said y).semicolon)))

pub one_more_name : (xs : List NextName) (i : ℕ) (x : NextName) (old at new : List Token)
    → i < length xs → x ≡ get_or xs i x
    → at ≡ old ++ next_names_tokens (take i xs)
    → new ≡ at ++ marked mark.Comma x.comma ∷ named x.name ∷ []
    → new ≡ old ++ next_names_tokens (take (i + 1) xs)
one_more_name =
    one_more_of next_names_tokens (λ y. marked mark.Comma y.comma ∷ named y.name ∷ [])
    next_names_tokens-append (λ y. refl)

-- a part with `var` before it, where that stands
pub after_var_tokens : (var : Option Spot) (part : Said)
    → tokens_of (after_var var part) ≡ var_tokens var ++ tokens_of part
after_var_tokens None part = refl
after_var_tokens (Some s) part = refl

-- a run behind its prefix operator, where it has one
pub prefixed_tokens : (prefix : Option Prefix) (run : Said)
    → tokens_of (prefixed prefix run) ≡ prefix_tokens prefix ++ tokens_of run
prefixed_tokens None run = refl
prefixed_tokens (Some (a_prefix.Minus s)) run = refl
prefixed_tokens (Some (a_prefix.Not s)) run = refl

-- what is put behind what was put before it
pub behind : (old at new xs ys : List Token) → new ≡ at ++ ys → at ≡ old ++ xs
    → new ≡ old ++ (xs ++ ys)
behind old at new xs ys last so_far =
    last ∙ ap (λ (u : List Token). u ++ ys) so_far ∙ append_assoc old xs ys
