-- Operators are written by their table, and places play no part in canonical text.
use lib.Utf8
use Rattle.std.specs.Prelude.{codes}
use Rattle.std.proofs.Common.{encode_utf8_all, ◌≡◌, ℕ, ◌<◌, List, [], ◌∷◌, ◌++◌, map, drop, length, get_or, refl, sym, ap, ◌∙◌, arith}
use Rattle.std.specs.List.{Contains, flat_map}
use Rattle.std.proofs.lemmas.List.{get_or-map}
use Rattle.fort_ops.specs.declared.op.Op.{Op}
use Rattle.fort_ops.specs.declared.op.Op.TheVariants as an_op
use Rattle.fort_ops.specs.Spellings.{table, spellings}
use Rattle.fort_base.specs.declared.refusal.Gap.TheVariants as gap
use Rattle.fort_lex_token.specs.declared.token.Token.{Token}
use Rattle.fort_lex_token.specs.declared.token.Tokens.{Tokens}
use Rattle.fort_lex_canonical.specs.Canonical.{operator_text, canonical, token_text, without_first_gap, kind_text, gap_text}
use Rattle.fort_lex_canonical.specs.Written.{last_spelling, WritesLast, WritesSpelling, IsAlike}

pub writes_spelling : WritesSpelling
unfolding lib.Utf8.encode
writes_spelling an_op.Juxt h = elim h [ ]
writes_spelling an_op.Times h = (codes "×", (1, omega arith, refl), refl)
writes_spelling an_op.Dot h = (codes "·", (3, omega arith, refl), refl)
writes_spelling an_op.Div h = (codes "DIV", (4, omega arith, refl), refl)
writes_spelling an_op.Rem h = (codes "REM", (5, omega arith, refl), refl)
writes_spelling an_op.Mod h = (codes "MOD", (6, omega arith, refl), refl)
writes_spelling an_op.Max h = (codes "MAX", (7, omega arith, refl), refl)
writes_spelling an_op.Min h = (codes "MIN", (8, omega arith, refl), refl)
writes_spelling an_op.Gcd h = (codes "GCD", (9, omega arith, refl), refl)
writes_spelling an_op.Lcm h = (codes "LCM", (10, omega arith, refl), refl)
writes_spelling an_op.Plus h = (codes "+", (11, omega arith, refl), refl)
writes_spelling an_op.Minus h = (codes "-", (12, omega arith, refl), refl)
writes_spelling an_op.BitAnd h = (codes "BITAND", (13, omega arith, refl), refl)
writes_spelling an_op.BitOr h = (codes "BITOR", (14, omega arith, refl), refl)
writes_spelling an_op.BitXor h = (codes "BITXOR", (15, omega arith, refl), refl)
writes_spelling an_op.LShift h = (codes "LSHIFT", (16, omega arith, refl), refl)
writes_spelling an_op.RShift h = (codes "RSHIFT", (17, omega arith, refl), refl)
writes_spelling an_op.Range h = (codes ":", (18, omega arith, refl), refl)
writes_spelling an_op.Count h = (codes "#", (19, omega arith, refl), refl)
writes_spelling an_op.Eq h = (codes "=", (20, omega arith, refl), refl)
writes_spelling an_op.Ne h = (codes "≠", (22, omega arith, refl), refl)
writes_spelling an_op.Lt h = (codes "<", (23, omega arith, refl), refl)
writes_spelling an_op.Le h = (codes "≤", (25, omega arith, refl), refl)
writes_spelling an_op.Gt h = (codes ">", (26, omega arith, refl), refl)
writes_spelling an_op.Ge h = (codes "≥", (28, omega arith, refl), refl)
writes_spelling an_op.Same h = (codes "≡", (30, omega arith, refl), refl)
writes_spelling an_op.And h = (codes "∧", (32, omega arith, refl), refl)
writes_spelling an_op.Or h = (codes "∨", (34, omega arith, refl), refl)
writes_spelling an_op.Not h = (codes "¬", (36, omega arith, refl), refl)
writes_spelling (an_op.Word n) h = elim h [ ]
writes_spelling an_op.Power h = (codes "^", (37, omega arith, refl), refl)

-- two lists of what functions give are equal: so are what they give of each element
at_each : {X Y : Type 0} (f g : X → Y) (xs : List X) (x : X) → map f xs ≡ map g xs → Contains xs x
    → f x ≡ g x
at_each f g xs x same (k, within, at) =
    ap f (sym at) ∙ sym (get_or-map f xs k x (g x) within) ∙ ap (λ ys. get_or ys k (g x)) same
    ∙ get_or-map g xs k x (g x) within ∙ ap g at

each_last : map (λ row. operator_text row.op) table
    ≡ map (λ row. encode_utf8_all (last_spelling row.spellings)) table
unfolding lib.Utf8.encode
each_last = refl

pub writes_last : WritesLast
writes_last row at =
    at_each (λ r. operator_text r.op) (λ r. encode_utf8_all (last_spelling r.spellings)) table row
    each_last at

-- tokens with the same kinds and gaps are written alike
same_rest : (names texts : List (List ℕ)) (ts us : List Token)
    → map (λ t. t.kind) ts ≡ map (λ t. t.kind) us → map (λ t. t.gap) ts ≡ map (λ t. t.gap) us
    → flat_map (token_text names texts) ts ≡ flat_map (token_text names texts) us
same_rest names texts [] [] k g = refl
same_rest names texts [] (u ∷ us) k g = absurd cc
same_rest names texts (t ∷ ts) [] k g = absurd cc
same_rest names texts (t ∷ ts) (u ∷ us) k g =
    let kind : t.kind ≡ u.kind = cc in
    let gap_is : t.gap ≡ u.gap = cc in
    let rest = same_rest names texts ts us (cc) (cc) in
    ap (λ x. (gap_text x ++ kind_text names texts t.kind) ++ flat_map (token_text names texts) ts)
    gap_is
    ∙ ap (λ x. (gap_text u.gap ++ kind_text names texts x) ++ flat_map (token_text names texts) ts)
    kind
    ∙ ap (λ x. token_text names texts u ++ x) rest

same_all : (names texts : List (List ℕ)) (ts us : List Token)
    → map (λ t. t.kind) ts ≡ map (λ t. t.kind) us
    → map (λ t. t.gap) (drop 1 ts) ≡ map (λ t. t.gap) (drop 1 us)
    → flat_map (token_text names texts) (without_first_gap ts)
    ≡ flat_map (token_text names texts) (without_first_gap us)
same_all names texts [] [] k g = refl
same_all names texts [] (u ∷ us) k g = absurd cc
same_all names texts (t ∷ ts) [] k g = absurd cc
same_all names texts (t ∷ ts) (u ∷ us) k g =
    let kind : t.kind ≡ u.kind = cc in
    let rest = same_rest names texts ts us (cc) g in
    ap (λ x. kind_text names texts x ++ flat_map (token_text names texts) ts) kind
    ∙ ap (λ x. kind_text names texts u.kind ++ x) rest

pub alike_shown : (ts us : Tokens) → IsAlike ts us → canonical ts ≡ canonical us
alike_shown ts us h =
    ap (λ x. x ++ 10 ∷ [])
    (same_all ts.names ts.texts ts.list us.list h.kinds h.gaps
    ∙ ap (λ x. flat_map (token_text x ts.texts) (without_first_gap us.list)) h.names
    ∙ ap (λ x. flat_map (token_text us.names x) (without_first_gap us.list)) h.texts)
