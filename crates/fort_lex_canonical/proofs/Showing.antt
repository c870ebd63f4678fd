-- Steps of showing: the first token, and the numbers of names and texts.
use Rattle.std.proofs.Common.{◌≡◌, ℕ, suc, ◌<◌, Bool, true, nat_lt, List, [], ◌∷◌, ◌++◌, length, ap, subst, refl, arith}
use Rattle.std.proofs.lemmas.Bool.Decides.{nat_tests}
use Rattle.std.specs.List.{flat_map}
use Rattle.fort_ops.specs.declared.op.Op.{Op}
use Rattle.fort_ops.specs.declared.op.Op.TheVariants as an_op
use Rattle.fort_lex_token.specs.declared.token.Kind.{Kind}
use Rattle.fort_lex_token.specs.declared.token.Kind.TheVariants as kind
use Rattle.fort_lex_token.specs.declared.token.Token.{Token}
use Rattle.fort_lex_token.specs.declared.token.Tokens.{Tokens}
use Rattle.fort_lex.specs.Files.{IsOpWithin, IsKindWithin, HasItsNumbers}
use Rattle.fort_tree.specs.Component.{number_is_in, NumbersAreIn, IsNumbered}
use Rattle.fort_lex_canonical.specs.Canonical.{token_text, kind_text, without_first_gap}

-- the first token has no gap, the others have theirs
pub first_shown : (names texts : List (List ℕ)) (list : List Token) (x : Token) (rest : List Token)
    → list ≡ x ∷ rest
    → flat_map (token_text names texts) (without_first_gap list)
    ≡ kind_text names texts x.kind ++ flat_map (token_text names texts) rest
first_shown names texts list x rest e =
    ap (λ l. flat_map (token_text names texts) (without_first_gap l)) e

-- the numbers of a list are those of its first token and of the rest
pub numbers_split : (names texts : List (List ℕ)) (list : List Token) (x : Token)
    (rest : List Token) → list ≡ x ∷ rest → NumbersAreIn names texts list
    → (number_is_in (length names) (length texts) x.kind ≡ true) × NumbersAreIn names texts rest
numbers_split names texts list x rest e h =
    let k = subst (NumbersAreIn names texts) e h
    in (k 0 x (omega arith), λ i d l. k (suc i) d (omega arith))

below : (n m : ℕ) → n < m → nat_lt n m ≡ true
below n m h = grind (arith, nat_tests)

op_in : (names texts : ℕ) (op : Op) → IsOpWithin names op
    → number_is_in names texts (kind.Op op) ≡ true
op_in names texts an_op.Juxt h = refl
op_in names texts an_op.Times h = refl
op_in names texts an_op.Dot h = refl
op_in names texts an_op.Div h = refl
op_in names texts an_op.Rem h = refl
op_in names texts an_op.Mod h = refl
op_in names texts an_op.Max h = refl
op_in names texts an_op.Min h = refl
op_in names texts an_op.Gcd h = refl
op_in names texts an_op.Lcm h = refl
op_in names texts an_op.Plus h = refl
op_in names texts an_op.Minus h = refl
op_in names texts an_op.BitAnd h = refl
op_in names texts an_op.BitOr h = refl
op_in names texts an_op.BitXor h = refl
op_in names texts an_op.LShift h = refl
op_in names texts an_op.RShift h = refl
op_in names texts an_op.Range h = refl
op_in names texts an_op.Count h = refl
op_in names texts an_op.Eq h = refl
op_in names texts an_op.Ne h = refl
op_in names texts an_op.Lt h = refl
op_in names texts an_op.Le h = refl
op_in names texts an_op.Gt h = refl
op_in names texts an_op.Ge h = refl
op_in names texts an_op.Same h = refl
op_in names texts an_op.And h = refl
op_in names texts an_op.Or h = refl
op_in names texts an_op.Not h = refl
op_in names texts an_op.Power h = refl
op_in names texts (an_op.Word n) h = below n names h

kind_in : (names texts : ℕ) (k : Kind) → IsKindWithin names texts k
    → number_is_in names texts k ≡ true
kind_in names texts (kind.Word r) h = refl
kind_in names texts (kind.Name n) h = below n.0 names h
kind_in names texts (kind.Number n) h = refl
kind_in names texts (kind.Text n) h = below n texts h
kind_in names texts (kind.Op op) h = op_in names texts op h
kind_in names texts (kind.Mark m) h = refl

-- The lexer's tokens have their numbers in the tables, as `shown` asks.
pub numbered : (ts : Tokens) → HasItsNumbers ts → IsNumbered ts
numbered ts h k d l = kind_in (length ts.names) (length ts.texts) _ (h k d l)
