-- The operators that may be declared: the infix ones, `^` and `NOT`.
use Rattle.std.proofs.Common.{◌≡◌, Bool, true, false, cond, List, [], ◌∷◌, Option, Some, None, refl, sym, ap, ◌∙◌}
use Rattle.fort_ops.specs.declared.op.Op.{Op}
use Rattle.fort_ops.specs.declared.op.Op.TheVariants as op
use Rattle.fort_lex_token.specs.declared.token.Kind.{Kind}
use Rattle.fort_lex_token.specs.declared.token.Kind.TheVariants as kind
use Rattle.fort_lex_token.specs.declared.token.Token.{Token}
use Rattle.fort_tree.specs.declared.spot.Spot.{Spot}
use Rattle.fort_tree.specs.declared.spot.Sign.{Sign}
use Rattle.fort_tree.specs.declared.expr.Prefix.TheVariants as a_prefix
use Rattle.fort_tree.specs.Tokens.{is_infix}
use Rattle.fort_parse_reading.specs.declared.fault.Fault.{Fault}
use Rattle.fort_parse_reading.specs.Parser.{Outcome, Read, Failed, taken, accept_run, next_of}
use Rattle.fort_parse_reading.specs.Words.{spot_of, spot_if, is_power, prefix_of, sign_of}
use Rattle.fort_parse_declarations.specs.Names.{is_declarable, declared_in, declared_of}

taken_fails : {A : Type 0} (r : Option A) (x : A) (t : Token) (ts : List Token) (e : Fault)
    (rest : List Token) → r ≡ Some x → taken r t ts ≡ Failed e rest → ⊥
taken_fails (Some y) x t ts e rest h k = absurd cc
taken_fails None x t ts e rest h k = absurd cc

never : {A : Type 0} (a : Token → Option A) (ts : List Token) (t : Token) (x : A) (e : Fault)
    (rest : List Token) → next_of ts ≡ Some t → a t ≡ Some x → accept_run a ts ≡ Failed e rest → ⊥
never a [] t x e rest n h k = absurd cc
never a (u ∷ us) t x e rest n h k =
    let is : u ≡ t = cc in taken_fails (a u) x u us e rest (ap a is ∙ h) k

some_if : (b : Bool) (x s : Sign) → cond b (Some x) None ≡ Some s → (b ≡ true) × (x ≡ s)
some_if true x s e = (refl, cc)
some_if false x s e = absurd cc

declared_is : (g : Spot) (k : Kind) (s : Sign) → declared_in g k ≡ Some s
    → (k ≡ kind.Op s.op) × (is_declarable s.op ≡ true)
declared_is g (kind.Op o) s e =
    let h = some_if (is_declarable o) (record { op = o; spot = g }) s e in rw (← h.1) (refl, h.0)
declared_is g (kind.Word v) s e = absurd cc
declared_is g (kind.Name v) s e = absurd cc
declared_is g (kind.Number v) s e = absurd cc
declared_is g (kind.Text v) s e = absurd cc
declared_is g (kind.Mark v) s e = absurd cc

infix_else : (o : Op) → is_declarable o ≡ true → (o ≡ op.Power → ⊥) → (o ≡ op.Not → ⊥)
    → is_infix o ≡ true
infix_else op.Juxt d p n = absurd cc
infix_else op.Times d p n = refl
infix_else op.Dot d p n = refl
infix_else op.Div d p n = refl
infix_else op.Rem d p n = refl
infix_else op.Mod d p n = refl
infix_else op.Max d p n = refl
infix_else op.Min d p n = refl
infix_else op.Gcd d p n = refl
infix_else op.Lcm d p n = refl
infix_else op.Plus d p n = refl
infix_else op.Minus d p n = refl
infix_else op.BitAnd d p n = refl
infix_else op.BitOr d p n = refl
infix_else op.BitXor d p n = refl
infix_else op.LShift d p n = refl
infix_else op.RShift d p n = refl
infix_else op.Range d p n = refl
infix_else op.Count d p n = refl
infix_else op.Eq d p n = refl
infix_else op.Ne d p n = refl
infix_else op.Lt d p n = refl
infix_else op.Le d p n = refl
infix_else op.Gt d p n = refl
infix_else op.Ge d p n = refl
infix_else op.Same d p n = refl
infix_else op.And d p n = refl
infix_else op.Or d p n = refl
infix_else op.Not d p n = absurd (n refl)
infix_else op.Power d p n = absurd (p refl)
infix_else (op.Word v) d p n = refl

module _ (ts : List Token) (t : Token) (s : Sign) (e : Fault) (rest : List Token)
    (n : next_of ts ≡ Some t) (d : declared_of t ≡ Some s) where
  kind_is : (t.kind ≡ kind.Op s.op) × (is_declarable s.op ≡ true)
  unfolding declared_of
  kind_is = declared_is (spot_of t) t.kind s d

  pub power_taken : s.op ≡ op.Power → accept_run (spot_if is_power) ts ≡ Failed e rest → ⊥
  unfolding is_power
  power_taken is = never (spot_if is_power) ts t (spot_of t) e rest n
      (let k : t.kind ≡ kind.Op op.Power = kind_is.0 ∙ ap kind.Op is in rw k refl)

  pub prefix_taken : s.op ≡ op.Not → accept_run prefix_of ts ≡ Failed e rest → ⊥
  unfolding prefix_of
  prefix_taken is = never prefix_of ts t (a_prefix.Not (spot_of t)) e rest n
      (let k : t.kind ≡ kind.Op op.Not = kind_is.0 ∙ ap kind.Op is in rw k refl)

  pub sign_taken : (s.op ≡ op.Power → ⊥) → (s.op ≡ op.Not → ⊥)
      → accept_run sign_of ts ≡ Failed e rest → ⊥
  unfolding sign_of
  sign_taken p not =
      never sign_of ts t (record { op = s.op; spot = spot_of t }) e rest n
      (rw (kind_is.0, infix_else s.op kind_is.1 p not) refl)
