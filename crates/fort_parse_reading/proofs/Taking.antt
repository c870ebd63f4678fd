-- The tokens that are taken one by one: what is taken is that token, and that token is taken.
use Rattle.std.proofs.Common.{◌≡◌, ℕ, Bool, true, false, cond, List, [], ◌∷◌, Option, Some, None, refl, sym, ap, ◌∙◌, rules}
use denote.Enum.Bare.{same_true}
use Rattle.fort_ops.specs.declared.op.Op.{Op}
use Rattle.fort_ops.specs.declared.op.Op.TheVariants as op
use Rattle.fort_lex_token.specs.declared.token.Kind.{Kind}
use Rattle.fort_lex_token.specs.declared.token.Kind.TheVariants as kind
use Rattle.fort_lex_token.specs.declared.token.Token.{Token}
use Rattle.fort_lex_token.specs.declared.marks.Mark.{Mark}
use Rattle.fort_lex_token.specs.declared.marks.Mark.TheVariants as mark
use Rattle.fort_lex_token.specs.contracts.marks.Mark as mark_contract
use Rattle.fort_lex_token.specs.declared.reserved.Reserved.{Reserved}
use Rattle.fort_lex_token.specs.declared.reserved.Reserved.TheVariants as reserved
use Rattle.fort_lex_token.specs.contracts.reserved.Reserved as reserved_contract
use Rattle.fort_tree.specs.declared.spot.Spot.{Spot}
use Rattle.fort_tree.specs.declared.spot.Name.{Name}
use Rattle.fort_tree.specs.declared.spot.Sign.{Sign}
use Rattle.fort_tree.specs.declared.expr.AssignSign.{AssignSign}
use Rattle.fort_tree.specs.declared.expr.AssignSign.TheVariants as assign_sign
use Rattle.fort_tree.specs.declared.expr.Big.{Big}
use Rattle.fort_tree.specs.declared.expr.Big.TheVariants as big_word
use Rattle.fort_tree.specs.declared.expr.Prefix.{Prefix}
use Rattle.fort_tree.specs.declared.expr.Prefix.TheVariants as a_prefix
use Rattle.fort_tree.specs.declared.declarations.InitialSign.{InitialSign}
use Rattle.fort_tree.specs.declared.declarations.InitialSign.TheVariants as initial_sign
use Rattle.fort_tree.specs.Tokens.{Spellings, token, word, marked, operator, named, signed, colon, equals, is_empty, is_infix}
use Rattle.fort_tree.specs.Flats.{assign_token, big_first, big_more}
use Rattle.fort_tree.specs.Blocks.{initial_token}
use Rattle.fort_parse_reading.specs.Parser.{Row, accept_run}
use Rattle.fort_parse_reading.specs.Words.{same_mark, same_word, is_mark, is_word, is_range, is_eq, is_power, spot_of, spot_if, tight, name_of, is_called, name_in, called_of, called_if, sign_of, sign_in, sign_if, prefix_of, prefix_in, prefix_op, assign_of, assign_in, assign_mark, initial_of, initial_in, initial_op, initial_mark, big_of, big_in, big_op}
use Rattle.fort_parse_reading.proofs.Laws.{Only, only_token, only_accept, Gets, gets_accept}

-- ---- kinds

pub same_mark_is : (k m : Mark) → same_mark k m ≡ true → k ≡ m
unfolding same_mark
same_mark_is k m e = same_true mark_contract.the_type (search rules) k m e

pub same_word_is : (k m : Reserved) → same_word k m ≡ true → k ≡ m
unfolding same_word
same_word_is k m e = same_true reserved_contract.the_type (search rules) k m e

pub same_mark_refl : (m : Mark) → same_mark m m ≡ true
unfolding same_mark
same_mark_refl mark.OpenStatic = refl
same_mark_refl mark.CloseStatic = refl
same_mark_refl mark.LeftArrow = refl
same_mark_refl mark.RightArrow = refl
same_mark_refl mark.DoubleArrow = refl
same_mark_refl mark.Becomes = refl
same_mark_refl mark.AddBecomes = refl
same_mark_refl mark.SubtractBecomes = refl
same_mark_refl mark.OpenParen = refl
same_mark_refl mark.CloseParen = refl
same_mark_refl mark.OpenBracket = refl
same_mark_refl mark.CloseBracket = refl
same_mark_refl mark.OpenBrace = refl
same_mark_refl mark.CloseBrace = refl
same_mark_refl mark.Comma = refl
same_mark_refl mark.Semicolon = refl
same_mark_refl mark.Dot = refl

pub same_word_refl : (w : Reserved) → same_word w w ≡ true
unfolding same_word
same_word_refl reserved.Component = refl
same_word_refl reserved.Export = refl
same_word_refl reserved.Import = refl
same_word_refl reserved.Api = refl
same_word_refl reserved.End = refl
same_word_refl reserved.Trait = refl
same_word_refl reserved.Object = refl
same_word_refl reserved.Extends = refl
same_word_refl reserved.Excludes = refl
same_word_refl reserved.Comprises = refl
same_word_refl reserved.Opr = refl
same_word_refl reserved.Self_ = refl
same_word_refl reserved.Var = refl
same_word_refl reserved.Do = refl
same_word_refl reserved.Also = refl
same_word_refl reserved.If = refl
same_word_refl reserved.Then = refl
same_word_refl reserved.Elif = refl
same_word_refl reserved.Else = refl
same_word_refl reserved.While = refl
same_word_refl reserved.For = refl
same_word_refl reserved.Seq = refl
same_word_refl reserved.Case = refl
same_word_refl reserved.Typecase = refl
same_word_refl reserved.Of = refl
same_word_refl reserved.Try = refl
same_word_refl reserved.Catch = refl
same_word_refl reserved.Finally = refl
same_word_refl reserved.Throw = refl
same_word_refl reserved.Fn = refl
same_word_refl reserved.Atomic = refl
same_word_refl reserved.Tryatomic = refl
same_word_refl reserved.Spawn = refl
same_word_refl reserved.True = refl
same_word_refl reserved.False = refl
same_word_refl reserved.Array = refl
same_word_refl reserved.Big = refl
same_word_refl reserved.Sum = refl
same_word_refl reserved.Prod = refl

pub is_mark_is : (m : Mark) (k : Kind) → is_mark m k ≡ true → k ≡ kind.Mark m
unfolding is_mark
is_mark_is m (kind.Mark k) e = ap kind.Mark (same_mark_is k m e)
is_mark_is m (kind.Word k) e = absurd cc
is_mark_is m (kind.Name k) e = absurd cc
is_mark_is m (kind.Number k) e = absurd cc
is_mark_is m (kind.Text k) e = absurd cc
is_mark_is m (kind.Op k) e = absurd cc

pub is_word_is : (w : Reserved) (k : Kind) → is_word w k ≡ true → k ≡ kind.Word w
unfolding is_word
is_word_is w (kind.Word k) e = ap kind.Word (same_word_is k w e)
is_word_is w (kind.Mark k) e = absurd cc
is_word_is w (kind.Name k) e = absurd cc
is_word_is w (kind.Number k) e = absurd cc
is_word_is w (kind.Text k) e = absurd cc
is_word_is w (kind.Op k) e = absurd cc

pub is_mark_at : (m : Mark) → is_mark m (kind.Mark m) ≡ true
unfolding is_mark
is_mark_at m = same_mark_refl m

pub is_word_at : (w : Reserved) → is_word w (kind.Word w) ≡ true
unfolding is_word
is_word_at w = same_word_refl w

pub is_range_is : (k : Kind) → is_range k ≡ true → k ≡ kind.Op op.Range
unfolding is_range
is_range_is (kind.Op op.Range) e = refl
is_range_is _ e = absurd cc

pub is_eq_is : (k : Kind) → is_eq k ≡ true → k ≡ kind.Op op.Eq
unfolding is_eq
is_eq_is (kind.Op op.Eq) e = refl
is_eq_is _ e = absurd cc

pub is_power_is : (k : Kind) → is_power k ≡ true → k ≡ kind.Op op.Power
unfolding is_power
is_power_is (kind.Op op.Power) e = refl
is_power_is _ e = absurd cc

pub is_range_at : is_range (kind.Op op.Range) ≡ true
unfolding is_range
is_range_at = refl

pub is_eq_at : is_eq (kind.Op op.Eq) ≡ true
unfolding is_eq
is_eq_at = refl

pub is_power_at : is_power (kind.Op op.Power) ≡ true
unfolding is_power
is_power_at = refl

not_true : (b : Bool) → (b ≡ true → ⊥) → b ≡ false
not_true true h = absurd (h refl)
not_true false h = refl

-- a kind that f has is none of those of g, where each that g has is k, which f hasn't
pub not_this : (f g : Kind → Bool) (k : Kind) → ((u : Kind) → g u ≡ true → u ≡ k) → f k ≡ false
    → (u : Kind) → f u ≡ true → g u ≡ false
not_this f g k is none u e = not_true (g u) (λ h. let c = ap f (is u h) in absurd cc)

pub not_mark : (f : Kind → Bool) (m : Mark) → f (kind.Mark m) ≡ false → (u : Kind) → f u ≡ true
    → is_mark m u ≡ false
not_mark f m none u e = not_this f (is_mark m) (kind.Mark m) (is_mark_is m) none u e

pub not_word : (f : Kind → Bool) (w : Reserved) → f (kind.Word w) ≡ false → (u : Kind) → f u ≡ true
    → is_word w u ≡ false
not_word f w none u e = not_this f (is_word w) (kind.Word w) (is_word_is w) none u e

-- ---- tokens of one kind

if_some : {B : Type 0} (b : Bool) (x y : B) → cond b (Some x) None ≡ Some y → (b ≡ true) × (x ≡ y)
if_some true x y e = (refl, cc)
if_some false x y e = absurd cc

if_some_of : {B : Type 0} (b : Bool) (x : Option B) (y : B) → cond b x None ≡ Some y
    → (b ≡ true) × (x ≡ Some y)
if_some_of true x y e = (refl, e)
if_some_of false x y e = absurd cc

spot_is : (f : Kind → Bool) (k : Kind) → ((u : Kind) → f u ≡ true → u ≡ k) → (t : Token) (s : Spot)
    → spot_if f t ≡ Some s → (t ≡ token k s) × Unit {0}
spot_is f k is t s e =
    let h = if_some (f t.kind) (spot_of t) s e in
    (ap (λ (u : Kind). token u (spot_of t)) (is t.kind h.0) ∙ ap (λ (x : Spot). token k x) h.1, tt)

pub only_spot : (f : Kind → Bool) (k : Kind) → ((u : Kind) → f u ≡ true → u ≡ k) → (ts : Row)
    → Only Spot (accept_run (spot_if f) ts) (λ s rest. ts ≡ token k s ∷ rest)
only_spot f k is ts =
    record {
      holds =
          λ s rest e. ((only_token (spot_if f) (token k) (λ s. Unit {0}) (spot_is f k is) ts).holds s
          rest e).0;
    }

pub gets_spot : (f : Kind → Bool) (k : Kind) → f k ≡ true → (s : Spot) (ts : Row)
    → Gets Spot (accept_run (spot_if f) (token k s ∷ ts)) s ts
gets_spot f k e s ts = gets_accept (spot_if f) (token k s) ts s (rw e refl)

pub only_mark : (m : Mark) (ts : Row)
    → Only Spot (accept_run (spot_if (is_mark m)) ts) (λ s rest. ts ≡ marked m s ∷ rest)
only_mark m ts = only_spot (is_mark m) (kind.Mark m) (is_mark_is m) ts

pub gets_mark : (m : Mark) (s : Spot) (ts : Row)
    → Gets Spot (accept_run (spot_if (is_mark m)) (marked m s ∷ ts)) s ts
gets_mark m s ts = gets_spot (is_mark m) (kind.Mark m) (is_mark_at m) s ts

pub only_word : (w : Reserved) (ts : Row)
    → Only Spot (accept_run (spot_if (is_word w)) ts) (λ s rest. ts ≡ word w s ∷ rest)
only_word w ts = only_spot (is_word w) (kind.Word w) (is_word_is w) ts

pub gets_word : (w : Reserved) (s : Spot) (ts : Row)
    → Gets Spot (accept_run (spot_if (is_word w)) (word w s ∷ ts)) s ts
gets_word w s ts = gets_spot (is_word w) (kind.Word w) (is_word_at w) s ts

pub only_colon : (ts : Row)
    → Only Spot (accept_run (spot_if is_range) ts) (λ s rest. ts ≡ colon s ∷ rest)
only_colon ts = only_spot is_range (kind.Op op.Range) is_range_is ts

pub gets_colon : (s : Spot) (ts : Row)
    → Gets Spot (accept_run (spot_if is_range) (colon s ∷ ts)) s ts
gets_colon s ts = gets_spot is_range (kind.Op op.Range) is_range_at s ts

pub only_equals : (ts : Row)
    → Only Spot (accept_run (spot_if is_eq) ts) (λ s rest. ts ≡ equals s ∷ rest)
only_equals ts = only_spot is_eq (kind.Op op.Eq) is_eq_is ts

pub gets_equals : (s : Spot) (ts : Row)
    → Gets Spot (accept_run (spot_if is_eq) (equals s ∷ ts)) s ts
gets_equals s ts = gets_spot is_eq (kind.Op op.Eq) is_eq_at s ts

pub only_power : (ts : Row)
    → Only Spot (accept_run (spot_if is_power) ts) (λ s rest. ts ≡ operator op.Power s ∷ rest)
only_power ts = only_spot is_power (kind.Op op.Power) is_power_is ts

pub gets_power : (s : Spot) (ts : Row)
    → Gets Spot (accept_run (spot_if is_power) (operator op.Power s ∷ ts)) s ts
gets_power s ts = gets_spot is_power (kind.Op op.Power) is_power_at s ts

-- ---- with no gap before them

tight_is : {B : Type 0} (a : Token → Option B) (says : B → Token) (Holds : B → Type 0)
    → ((t : Token) (b : B) → a t ≡ Some b → (t ≡ says b) × Holds b)
    → (t : Token) (b : B) → tight a t ≡ Some b
    → (t ≡ says b) × ((is_empty (says b).gap ≡ true) × Holds b)
tight_is a says Holds is t b e =
    let h = if_some_of (is_empty t.gap) (a t) b e in
    let k = is t b h.1 in
    (k.0, (ap (λ (u : Token). is_empty u.gap) (sym k.0) ∙ h.0, k.1))

pub only_tight_mark : (m : Mark) (ts : Row)
    → Only Spot (accept_run (tight (spot_if (is_mark m))) ts) (λ s rest. (ts ≡ marked m s ∷ rest)
    × (is_empty s.gap ≡ true))
only_tight_mark m ts =
    record {
      holds = λ s rest e. let h =
          (only_token (tight (spot_if (is_mark m))) (marked m) _
          (tight_is _ _ _ (spot_is (is_mark m) (kind.Mark m) (is_mark_is m))) ts).holds s rest e
          in (h.0, h.1.0);
    }

pub gets_tight_mark : (m : Mark) (s : Spot) (ts : Row) → is_empty s.gap ≡ true
    → Gets Spot (accept_run (tight (spot_if (is_mark m))) (marked m s ∷ ts)) s ts
gets_tight_mark m s ts e =
    gets_accept (tight (spot_if (is_mark m))) (marked m s) ts s (rw (e, is_mark_at m) refl)

-- ---- names

name_by : (k : Kind) (s : Spot) (x : Name) → name_in s k ≡ Some x → token k s ≡ named x
name_by (kind.Name v) s x e = let is : record { id = v; spot = s } ≡ x = cc in ap named is
name_by (kind.Op v) s x e = absurd cc
name_by (kind.Mark v) s x e = absurd cc
name_by (kind.Word v) s x e = absurd cc
name_by (kind.Number v) s x e = absurd cc
name_by (kind.Text v) s x e = absurd cc

name_is : (t : Token) (n : Name) → name_of t ≡ Some n → (t ≡ named n) × Unit {0}
unfolding name_of
name_is t n e = (name_by t.kind (spot_of t) n e, tt)

name_at : (n : Name) → name_of (named n) ≡ Some n
unfolding name_of
name_at n = refl

pub only_name : (ts : Row) → Only Name (accept_run name_of ts) (λ n rest. ts ≡ named n ∷ rest)
only_name ts =
    record {
      holds =
          λ n rest e. ((only_token name_of named (λ n. Unit {0}) name_is ts).holds n rest e).0;
    }

pub gets_name : (n : Name) (ts : Row) → Gets Name (accept_run name_of (named n ∷ ts)) n ts
gets_name n ts = gets_accept name_of (named n) ts n (name_at n)

pub only_tight_name : (ts : Row)
    → Only Name (accept_run (tight name_of) ts) (λ n rest. (ts ≡ named n ∷ rest)
    × (is_empty n.spot.gap ≡ true))
only_tight_name ts =
    record {
      holds = λ n rest e. let h =
          (only_token (tight name_of) named _ (tight_is _ _ _ name_is) ts).holds n rest e
          in (h.0, h.1.0);
    }

pub gets_tight_name : (n : Name) (ts : Row) → is_empty n.spot.gap ≡ true
    → Gets Name (accept_run (tight name_of) (named n ∷ ts)) n ts
gets_tight_name n ts e = gets_accept (tight name_of) (named n) ts n (rw (e, name_at n) refl)

called_in : (w : List ℕ) (names : Spellings) (t : Token) (o : Option Name) (n : Name)
    → name_of t ≡ o → called_if w names o ≡ Some n → (t ≡ named n) × (is_called w names n ≡ true)
called_in w names t None n is e = absurd cc
called_in w names t (Some m) n is e =
    let h = if_some (is_called w names m) m n e in
    ((name_is t n (is ∙ ap Some h.1)).0, ap (is_called w names) (sym h.1) ∙ h.0)

called_is : (w : List ℕ) (names : Spellings) (t : Token) (n : Name) → called_of w names t ≡ Some n
    → (t ≡ named n) × (is_called w names n ≡ true)
unfolding called_of
called_is w names t n e = called_in w names t (name_of t) n refl e

called_at : (w : List ℕ) (names : Spellings) (n : Name) → is_called w names n ≡ true
    → called_of w names (named n) ≡ Some n
unfolding called_of name_of
called_at w names n e = rw e refl

pub only_called : (w : List ℕ) (names : Spellings) (ts : Row)
    → Only Name (accept_run (called_of w names) ts) (λ n rest. (ts ≡ named n ∷ rest)
    × (is_called w names n ≡ true))
only_called w names ts =
    only_token (called_of w names) named (λ n. is_called w names n ≡ true) (called_is w names) ts

pub gets_called : (w : List ℕ) (names : Spellings) (n : Name) (ts : Row)
    → is_called w names n ≡ true → Gets Name (accept_run (called_of w names) (named n ∷ ts)) n ts
gets_called w names n ts e = gets_accept (called_of w names) (named n) ts n (called_at w names n e)

pub only_tight_called : (w : List ℕ) (names : Spellings) (ts : Row)
    → Only Name (accept_run (tight (called_of w names)) ts) (λ n rest. (ts ≡ named n ∷ rest)
    × ((is_empty n.spot.gap ≡ true) × (is_called w names n ≡ true)))
only_tight_called w names ts =
    only_token (tight (called_of w names)) named _ (tight_is _ _ _ (called_is w names)) ts

pub gets_tight_called : (w : List ℕ) (names : Spellings) (n : Name) (ts : Row)
    → is_empty n.spot.gap ≡ true → is_called w names n ≡ true
    → Gets Name (accept_run (tight (called_of w names)) (named n ∷ ts)) n ts
gets_tight_called w names n ts g e =
    gets_accept (tight (called_of w names)) (named n) ts n (rw (g, called_at w names n e) refl)

-- ---- operators

sign_in_op : (s : Spot) (o : Op) (x : Sign) → sign_if s o ≡ Some x
    → (operator o s ≡ signed x) × (is_infix x.op ≡ true)
sign_in_op s o x e =
    let h = if_some (is_infix o) (record { op = o; spot = s }) x e
    in (ap signed h.1, ap (λ (y : Sign). is_infix y.op) (sym h.1) ∙ h.0)

sign_by : (k : Kind) (s : Spot) (x : Sign) → sign_in s k ≡ Some x
    → (token k s ≡ signed x) × (is_infix x.op ≡ true)
sign_by (kind.Op v) s x e = sign_in_op s v x e
sign_by (kind.Mark v) s x e = absurd cc
sign_by (kind.Word v) s x e = absurd cc
sign_by (kind.Name v) s x e = absurd cc
sign_by (kind.Number v) s x e = absurd cc
sign_by (kind.Text v) s x e = absurd cc

sign_is : (t : Token) (x : Sign) → sign_of t ≡ Some x → (t ≡ signed x) × (is_infix x.op ≡ true)
unfolding sign_of
sign_is t x e = sign_by t.kind (spot_of t) x e

sign_at : (x : Sign) → is_infix x.op ≡ true → sign_of (signed x) ≡ Some x
unfolding sign_of
sign_at x e = rw e refl

pub only_sign : (ts : Row)
    → Only Sign (accept_run sign_of ts) (λ x rest. (ts ≡ signed x ∷ rest) × (is_infix x.op ≡ true))
only_sign ts = only_token sign_of signed (λ x. is_infix x.op ≡ true) sign_is ts

pub gets_sign : (x : Sign) (ts : Row) → is_infix x.op ≡ true
    → Gets Sign (accept_run sign_of (signed x ∷ ts)) x ts
gets_sign x ts e = gets_accept sign_of (signed x) ts x (sign_at x e)

-- the token of a prefix operator
abbrev pub prefix_token : Prefix → Token
prefix_token (a_prefix.Minus s) = operator op.Minus s
prefix_token (a_prefix.Not s) = operator op.Not s

prefix_in_op : (s : Spot) (o : Op) (x : Prefix) → prefix_op s o ≡ Some x
    → operator o s ≡ prefix_token x
prefix_in_op s op.Minus x e = let is : a_prefix.Minus s ≡ x = cc in ap prefix_token is
prefix_in_op s op.Not x e = let is : a_prefix.Not s ≡ x = cc in ap prefix_token is
prefix_in_op s _ x e = absurd cc

prefix_by : (k : Kind) (s : Spot) (x : Prefix) → prefix_in s k ≡ Some x → token k s ≡ prefix_token x
prefix_by (kind.Op v) s x e = prefix_in_op s v x e
prefix_by (kind.Mark v) s x e = absurd cc
prefix_by (kind.Word v) s x e = absurd cc
prefix_by (kind.Name v) s x e = absurd cc
prefix_by (kind.Number v) s x e = absurd cc
prefix_by (kind.Text v) s x e = absurd cc

prefix_is : (t : Token) (x : Prefix) → prefix_of t ≡ Some x → (t ≡ prefix_token x) × Unit {0}
unfolding prefix_of
prefix_is t x e = (prefix_by t.kind (spot_of t) x e, tt)

prefix_at : (x : Prefix) → prefix_of (prefix_token x) ≡ Some x
unfolding prefix_of
prefix_at (a_prefix.Minus s) = refl
prefix_at (a_prefix.Not s) = refl

pub only_prefix : (ts : Row)
    → Only Prefix (accept_run prefix_of ts) (λ x rest. ts ≡ prefix_token x ∷ rest)
only_prefix ts =
    record {
      holds =
          λ x rest e. ((only_token prefix_of prefix_token (λ x. Unit {0}) prefix_is ts).holds x rest
          e).0;
    }

pub gets_prefix : (x : Prefix) (ts : Row)
    → Gets Prefix (accept_run prefix_of (prefix_token x ∷ ts)) x ts
gets_prefix x ts = gets_accept prefix_of (prefix_token x) ts x (prefix_at x)

assign_in_mark : (s : Spot) (m : Mark) (x : AssignSign) → assign_mark s m ≡ Some x
    → marked m s ≡ assign_token x
assign_in_mark s mark.Becomes x e = let is : assign_sign.Becomes s ≡ x = cc in ap assign_token is
assign_in_mark s mark.AddBecomes x e =
    let is : assign_sign.AddBecomes s ≡ x = cc in ap assign_token is
assign_in_mark s mark.SubtractBecomes x e =
    let is : assign_sign.SubtractBecomes s ≡ x = cc in ap assign_token is
assign_in_mark s _ x e = absurd cc

assign_by : (k : Kind) (s : Spot) (x : AssignSign) → assign_in s k ≡ Some x
    → token k s ≡ assign_token x
assign_by (kind.Mark v) s x e = assign_in_mark s v x e
assign_by (kind.Op v) s x e = absurd cc
assign_by (kind.Word v) s x e = absurd cc
assign_by (kind.Name v) s x e = absurd cc
assign_by (kind.Number v) s x e = absurd cc
assign_by (kind.Text v) s x e = absurd cc

assign_is : (t : Token) (x : AssignSign) → assign_of t ≡ Some x → (t ≡ assign_token x) × Unit {0}
unfolding assign_of
assign_is t x e = (assign_by t.kind (spot_of t) x e, tt)

assign_at : (x : AssignSign) → assign_of (assign_token x) ≡ Some x
unfolding assign_of
assign_at (assign_sign.Becomes s) = refl
assign_at (assign_sign.AddBecomes s) = refl
assign_at (assign_sign.SubtractBecomes s) = refl

pub only_assign : (ts : Row)
    → Only AssignSign (accept_run assign_of ts) (λ x rest. ts ≡ assign_token x ∷ rest)
only_assign ts =
    record {
      holds =
          λ x rest e. ((only_token assign_of assign_token (λ x. Unit {0}) assign_is ts).holds x rest
          e).0;
    }

pub gets_assign : (x : AssignSign) (ts : Row)
    → Gets AssignSign (accept_run assign_of (assign_token x ∷ ts)) x ts
gets_assign x ts = gets_accept assign_of (assign_token x) ts x (assign_at x)

initial_in_op : (s : Spot) (o : Op) (x : InitialSign) → initial_op s o ≡ Some x
    → operator o s ≡ initial_token x
initial_in_op s op.Eq x e = let is : initial_sign.Equals s ≡ x = cc in ap initial_token is
initial_in_op s _ x e = absurd cc

initial_in_mark : (s : Spot) (m : Mark) (x : InitialSign) → initial_mark s m ≡ Some x
    → marked m s ≡ initial_token x
initial_in_mark s mark.Becomes x e = let is : initial_sign.Becomes s ≡ x = cc in ap initial_token is
initial_in_mark s _ x e = absurd cc

initial_by : (k : Kind) (s : Spot) (x : InitialSign) → initial_in s k ≡ Some x
    → token k s ≡ initial_token x
initial_by (kind.Op v) s x e = initial_in_op s v x e
initial_by (kind.Mark v) s x e = initial_in_mark s v x e
initial_by (kind.Word v) s x e = absurd cc
initial_by (kind.Name v) s x e = absurd cc
initial_by (kind.Number v) s x e = absurd cc
initial_by (kind.Text v) s x e = absurd cc

initial_is : (t : Token) (x : InitialSign) → initial_of t ≡ Some x
    → (t ≡ initial_token x) × Unit {0}
unfolding initial_of
initial_is t x e = (initial_by t.kind (spot_of t) x e, tt)

initial_at : (x : InitialSign) → initial_of (initial_token x) ≡ Some x
unfolding initial_of
initial_at (initial_sign.Equals s) = refl
initial_at (initial_sign.Becomes s) = refl

pub only_initial : (ts : Row)
    → Only InitialSign (accept_run initial_of ts) (λ x rest. ts ≡ initial_token x ∷ rest)
only_initial ts =
    record {
      holds =
          λ x rest e. ((only_token initial_of initial_token (λ x. Unit {0}) initial_is ts).holds x
          rest e).0;
    }

pub gets_initial : (x : InitialSign) (ts : Row)
    → Gets InitialSign (accept_run initial_of (initial_token x ∷ ts)) x ts
gets_initial x ts = gets_accept initial_of (initial_token x) ts x (initial_at x)

big_in_op : (b s : Spot) (o : Op) (x : Big) → big_op b s o ≡ Some x
    → (big_first x ≡ word reserved.Big b) × (big_more x ≡ operator o s ∷ [])
big_in_op b s op.Max x e =
    let is : big_word.Max b s ≡ x = cc in (ap big_first (sym is), ap big_more (sym is))
big_in_op b s op.Min x e =
    let is : big_word.Min b s ≡ x = cc in (ap big_first (sym is), ap big_more (sym is))
big_in_op b s op.And x e =
    let is : big_word.And b s ≡ x = cc in (ap big_first (sym is), ap big_more (sym is))
big_in_op b s op.Or x e =
    let is : big_word.Or b s ≡ x = cc in (ap big_first (sym is), ap big_more (sym is))
big_in_op b s _ x e = absurd cc

big_by : (b : Spot) (k : Kind) (s : Spot) (x : Big) → big_in b s k ≡ Some x
    → (big_first x ≡ word reserved.Big b) × (big_more x ≡ token k s ∷ [])
big_by b (kind.Op v) s x e = big_in_op b s v x e
big_by b (kind.Mark v) s x e = absurd cc
big_by b (kind.Word v) s x e = absurd cc
big_by b (kind.Name v) s x e = absurd cc
big_by b (kind.Number v) s x e = absurd cc
big_by b (kind.Text v) s x e = absurd cc

big_is : (b : Spot) (t : Token) (x : Big) → big_of b t ≡ Some x
    → (big_first x ≡ word reserved.Big b) × (big_more x ≡ t ∷ [])
unfolding big_of
big_is b t x e = big_by b t.kind (spot_of t) x e

-- what is read behind `BIG` is the rest of the reduction's words
pub only_big : (b : Spot) (ts : Row)
    → Only Big (accept_run (big_of b) ts) (λ x rest.
    (t : Token) × (ts ≡ t ∷ rest)
    × ((big_first x ≡ word reserved.Big b) × (big_more x ≡ t ∷ [])))
only_big b ts =
    record {
      holds = λ x rest e. let h = (only_accept (big_of b) ts).holds x rest e
          in (h.0, h.1, big_is b h.0 x h.2);
    }

pub gets_max : (b s : Spot) (ts : Row)
    → Gets Big (accept_run (big_of b) (operator op.Max s ∷ ts)) (big_word.Max b s) ts
unfolding big_of
gets_max b s ts = gets_accept (big_of b) (operator op.Max s) ts (big_word.Max b s) refl

pub gets_min : (b s : Spot) (ts : Row)
    → Gets Big (accept_run (big_of b) (operator op.Min s ∷ ts)) (big_word.Min b s) ts
unfolding big_of
gets_min b s ts = gets_accept (big_of b) (operator op.Min s) ts (big_word.Min b s) refl

pub gets_and : (b s : Spot) (ts : Row)
    → Gets Big (accept_run (big_of b) (operator op.And s ∷ ts)) (big_word.And b s) ts
unfolding big_of
gets_and b s ts = gets_accept (big_of b) (operator op.And s) ts (big_word.And b s) refl

pub gets_or : (b s : Spot) (ts : Row)
    → Gets Big (accept_run (big_of b) (operator op.Or s ∷ ts)) (big_word.Or b s) ts
unfolding big_of
gets_or b s ts = gets_accept (big_of b) (operator op.Or s) ts (big_word.Or b s) refl
