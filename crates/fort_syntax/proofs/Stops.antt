-- Where reading stops at a token, it stops there over each table of names that goes on from the
-- file's own.
use Rattle.std.proofs.Common.{◌≡◌, ℕ, suc, ◌<◌, true, nat_lt, List, [], ◌∷◌, ◌++◌, length, refl, sym, subst, arith}
use Rattle.std.proofs.lemmas.Bool.{ltb-true}
use Rattle.std.proofs.lemmas.List.{get_or_append_left, append_cancel_right}
use Rattle.fort_lex_token.specs.declared.token.Kind.{Kind}
use Rattle.fort_lex_token.specs.declared.token.Kind.TheVariants as kind
use Rattle.fort_lex_token.specs.declared.token.Token.{Token}
use Rattle.fort_tree.specs.Tokens.{Spellings}
use Rattle.fort_tree.specs.Component.{NumbersAreIn, number_is_in}
use Rattle.fort_parse_reading.specs.declared.fault.Fault.TheVariants.{Syntax}
use Rattle.fort_parse_reading.specs.Parser.{Row, Failed, Locally}
use Rattle.fort_parse_declarations.specs.Declarations.{whole}
use Rattle.fort_syntax.proofs.Agreeing.{IsIn, AllIn}
use Rattle.fort_syntax.proofs.WholeAgrees.{whole_fails}

below : (n m : ℕ) → nat_lt n m ≡ true → n < m
below n m e = ltb-true n m e

is_in : (names texts : ℕ) (k : Kind) → number_is_in names texts k ≡ true → IsIn names k
is_in names texts (kind.Name id) e = below id.0 names e
is_in names texts _ e = tt

-- the numbers of names, token by token
pub all_in : (names : Spellings) (texts : List (List ℕ)) (ts : Row) → NumbersAreIn names texts ts
    → AllIn (length names) ts
all_in names texts [] h = tt
all_in names texts (t ∷ ts) h = (
  is_in (length names) (length texts) t.kind (h 0 t (omega arith)),
  all_in names texts ts (λ i d l. h (suc i) d (omega arith)),
)

-- Where reading stops at a token, it stops there over each table that goes on, with whatever texts
-- and whatever follows.
pub stops_over : (names more : Spellings) (n : ℕ) (texts other_texts : List (List ℕ))
    (front others : Row) (t : Token) → AllIn (length names) (front ++ t ∷ [])
    → ((rest : Row) → (whole names n texts).run (front ++ t ∷ rest) ≡ Failed Syntax (t ∷ rest))
    → (whole (names ++ more) n other_texts).run (front ++ t ∷ others) ≡ Failed Syntax (t ∷ others)
stops_over names more n texts other_texts front others t all stops =
    seen (whole_fails names (names ++ more) (λ id l. sym (get_or_append_left names more [] id l)) n
    texts other_texts (front ++ t ∷ []) (t ∷ []) Syntax all (stops []))
  where
    seen : (whole (names ++ more) n other_texts).run (front ++ t ∷ []) ≡ Failed Syntax (t ∷ [])
        → (whole (names ++ more) n other_texts).run (front ++ t ∷ others)
        ≡ Failed Syntax (t ∷ others)
    seen h =
        let s = subst (λ o. Locally (whole (names ++ more) n other_texts).run (front ++ t ∷ []) o) h
        ((whole (names ++ more) n other_texts).local (front ++ t ∷ [])) in
        let one : front ≡ s.front = append_cancel_right front s.front (t ∷ []) s.whole in
        subst (λ (f : Row). (whole (names ++ more) n other_texts).run (f ++ t ∷ others)
        ≡ Failed Syntax (t ∷ others)) (sym one) (s.same t [] others refl)
