-- The tokens with which expressions begin, and which they can't be.
use Rattle.std.proofs.Common.{◌≡◌, Bool, true, false, Option, Some, None, refl}
use Rattle.std.specs.Prelude.{◌||◌}
use Rattle.fort_lex_token.specs.declared.token.Kind.{Kind}
use Rattle.fort_lex_token.specs.declared.token.Kind.TheVariants as kind
use Rattle.fort_lex_token.specs.declared.marks.Mark.{Mark}
use Rattle.fort_lex_token.specs.declared.marks.Mark.TheVariants as mark
use Rattle.fort_lex_token.specs.declared.reserved.Reserved.{Reserved}
use Rattle.fort_lex_token.specs.declared.reserved.Reserved.TheVariants as reserved
use Rattle.fort_tree.specs.declared.expr.Atom.{Atom}
use Rattle.fort_tree.specs.declared.expr.Big.{Big}
use Rattle.fort_tree.specs.declared.expr.Big.TheVariants as big_word
use Rattle.fort_tree.specs.declared.expr.Expr.{Expr}
use Rattle.fort_tree.specs.declared.expr.Head.{Head}
use Rattle.fort_tree.specs.declared.expr.Prefix.{Prefix}
use Rattle.fort_tree.specs.declared.expr.Prefix.TheVariants as a_prefix
use Rattle.fort_tree.specs.declared.expr.Flat.{Flat, out-Flat}
use Rattle.fort_tree.specs.declared.expr.Operand.{Operand, out-Operand}
use Rattle.fort_tree.specs.declared.expr.Run.{Run, out-Run}
use Rattle.fort_tree.specs.declared.delimited.Delimited.{Delimited}
use Rattle.fort_tree.specs.Tokens.{Spellings}
use Rattle.fort_tree.specs.Said.{Allowed}
use Rattle.fort_tree.specs.Flats.{big_first}
use Rattle.fort_tree.specs.Flats.{prefixed as with_prefix}
use Rattle.fort_tree.specs.Yield.{said_delimited, said_atom, said_expr, said_head, said_flat, said_operand, said_run}
use Rattle.fort_tree.proofs.CasesFlats.{cases_atom, cases_expr, cases_head}
use Rattle.fort_tree.proofs.CasesBlocks.{cases_delimited}
use Rattle.fort_tree.proofs.SaysFlats.{says-Flat, says-Assign, says-Open, says-OpenAssign, says-Atomic, says-Tryatomic, says-Throw, says-Spawn, says-Fn, says-Big, flat_says, operand_says, run_says, says-Name, says-Number, says-Text, says-True, says-False, says-Self_, says-Parens, says-Delimited, says-ArrayFill}
use Rattle.fort_tree.proofs.SaysBlocks.{says-Do, says-If, says-While, says-For, says-Case, says-Typecase, says-Try}
use Rattle.fort_parse_reading.proofs.Yields.{left_true, true_right}
use Rattle.fort_parse_first.specs.Beginnings.{word_begins_atom, begins_atom, begins_postfix, is_prefix, begins_unit, is_infix_kind, word_begins_head, begins_head, mark_assigns, assigns, begins_expr}
use Rattle.fort_parse.proofs.Statements.{allowing}

-- ---- what they begin with

pub delimited_begins : (names : Spellings) (allowed : Allowed) (d : Delimited)
    → (said_delimited d).obeys names allowed ≡ true
    → begins_atom allowed.blocks (said_delimited d).first.kind ≡ true
unfolding begins_atom
delimited_begins names allowed = cases_delimited (λ d. (said_delimited d).obeys names allowed ≡ true
    → begins_atom allowed.blocks (said_delimited d).first.kind ≡ true)
    (λ at b others end ob. let own = rw (says-Do at b others end) at ob
    in rw (says-Do at b others end) (left_true _ _ own))
    (λ at c then b others o end ob. rw (says-If at c then b others o end) refl)
    (λ at c d b end ob. rw (says-While at c d b end) refl)
    (λ at g others d b end ob. rw (says-For at g others d b end) refl)
    (λ at s of c o end ob. rw (says-Case at s of c o end) refl)
    (λ at n e s of c o end ob. rw (says-Typecase at n e s of c o end) refl)
    (λ at b c f end ob. rw (says-Try at b c f end) refl)

pub atom_begins : (names : Spellings) (allowed : Allowed) (a : Atom)
    → (said_atom a).obeys names allowed ≡ true
    → begins_atom allowed.blocks (said_atom a).first.kind ≡ true
unfolding begins_atom
atom_begins names allowed = cases_atom (λ a. (said_atom a).obeys names allowed ≡ true
    → begins_atom allowed.blocks (said_atom a).first.kind ≡ true)
    (λ w ob. rw (says-Name w) refl) (λ v s ob. rw (says-Number v s) refl)
    (λ v s ob. rw (says-Text v s) refl)
    (λ s ob. rw (says-True s) refl) (λ s ob. rw (says-False s) refl)
    (λ s ob. rw (says-Self_ s) refl)
    (λ left c right ob. rw (says-Parens left c right) refl)
    (λ d ob. rw (says-Delimited d) (delimited_begins names allowed d (rw (says-Delimited d) at ob)))
    (λ spots e s v ob. rw (says-ArrayFill spots e s v) refl)

pub run_begins : (names : Spellings) (allowed : Allowed) (r : Run)
    → (said_run r).obeys names allowed ≡ true
    → begins_atom allowed.blocks (said_run r).first.kind ≡ true
run_begins names allowed r ob =
    let own = rw (run_says r) at ob
    in rw (run_says r) (atom_begins names allowed (out-Run r).first (left_true _ _ own))

unit_begins : (names : Spellings) (allowed : Allowed) (prefix : Option Prefix) (r : Run)
    → (with_prefix prefix (said_run r)).obeys names allowed ≡ true
    → begins_unit allowed.blocks (with_prefix prefix (said_run r)).first.kind ≡ true
unfolding begins_unit begins_atom is_prefix
unit_begins names allowed None r ob = rw (run_begins names allowed r ob) refl
unit_begins names allowed (Some (a_prefix.Minus s)) r ob = refl
unit_begins names allowed (Some (a_prefix.Not s)) r ob = refl

pub operand_begins : (names : Spellings) (allowed : Allowed) (o : Operand)
    → (said_operand o).obeys names allowed ≡ true
    → begins_unit allowed.blocks (said_operand o).first.kind ≡ true
operand_begins names allowed o ob =
    let own = rw (operand_says o) at ob
    in rw (operand_says o)
    (unit_begins names allowed (out-Operand o).prefix (out-Operand o).run own)

pub flat_begins : (names : Spellings) (allowed : Allowed) (f : Flat)
    → (said_flat f).obeys names allowed ≡ true
    → begins_unit allowed.blocks (said_flat f).first.kind ≡ true
flat_begins names allowed f ob =
    let own = rw (flat_says f) at ob
    in rw (flat_says f) (operand_begins names allowed (out-Flat f).first (left_true _ _ own))

big_begins : (b : Big) → begins_head (big_first b).kind ≡ true
unfolding begins_head
big_begins (big_word.Sum s) = refl
big_begins (big_word.Prod s) = refl
big_begins (big_word.Max s t) = refl
big_begins (big_word.Min s t) = refl
big_begins (big_word.And s t) = refl
big_begins (big_word.Or s t) = refl

pub head_begins : (h : Head) → begins_head (said_head h).first.kind ≡ true
unfolding begins_head
head_begins = cases_head (λ h. begins_head (said_head h).first.kind ≡ true)
    (λ s. rw (says-Atomic s) refl) (λ s. rw (says-Tryatomic s) refl) (λ s. rw (says-Throw s) refl)
    (λ s. rw (says-Spawn s) refl)
    (λ s left p right arrow. rw (says-Fn s left p right arrow) refl)
    (λ b left g right. rw (says-Big b left g right) (big_begins b))

-- a unit begins an expression, and so does a head
unit_is_expr : (k : Kind) → begins_unit true k ≡ true → begins_expr k ≡ true
unfolding begins_expr
unit_is_expr k e = rw e refl

head_is_expr : (k : Kind) → begins_head k ≡ true → begins_expr k ≡ true
unfolding begins_expr
head_is_expr k e = rw e (true_right (begins_unit true k))

pub expr_begins : (names : Spellings) (lines : Bool) (e : Expr)
    → (said_expr e).obeys names (allowing lines true) ≡ true
    → begins_expr (said_expr e).first.kind ≡ true
expr_begins names lines = cases_expr (λ e. (said_expr e).obeys names (allowing lines true) ≡ true
    → begins_expr (said_expr e).first.kind ≡ true)
    (λ f ob. let own = rw (says-Flat f) at ob
    in rw (says-Flat f) (unit_is_expr _ (flat_begins names (allowing lines true) f own)))
    (λ t s h v ob. let own = rw (says-Assign t s h v) at ob
    in rw (says-Assign t s h v)
    (unit_is_expr _ (flat_begins names (allowing false true) t (left_true _ _ own))))
    (λ h b ob. rw (says-Open h b) (head_is_expr _ (head_begins h)))
    (λ h t s v ob. rw (says-OpenAssign h t s v) (head_is_expr _ (head_begins h)))

-- ---- what they can't begin with

pub close_no_expr : begins_expr (kind.Mark mark.CloseParen) ≡ false
unfolding begins_expr begins_unit begins_atom is_prefix begins_head
close_no_expr = refl

word_not_head : (blocks : Bool) (w : Reserved) → (word_begins_atom blocks w || false) ≡ true
    → word_begins_head w ≡ false
word_not_head blocks reserved.Atomic e = absurd cc
word_not_head blocks reserved.Tryatomic e = absurd cc
word_not_head blocks reserved.Throw e = absurd cc
word_not_head blocks reserved.Spawn e = absurd cc
word_not_head blocks reserved.Fn e = absurd cc
word_not_head blocks reserved.Sum e = absurd cc
word_not_head blocks reserved.Prod e = absurd cc
word_not_head blocks reserved.Big e = absurd cc
word_not_head blocks _ e = refl

-- a unit begins with no head
pub unit_not_head : (blocks : Bool) (k : Kind) → begins_unit blocks k ≡ true → begins_head k ≡ false
unfolding begins_unit begins_atom is_prefix begins_head
unit_not_head blocks (kind.Word w) e = word_not_head blocks w e
unit_not_head blocks (kind.Name v) e = refl
unit_not_head blocks (kind.Number v) e = refl
unit_not_head blocks (kind.Text v) e = refl
unit_not_head blocks (kind.Op o) e = refl
unit_not_head blocks (kind.Mark m) e = refl

pub flat_not_head : (names : Spellings) (allowed : Allowed) (f : Flat)
    → (said_flat f).obeys names allowed ≡ true → begins_head (said_flat f).first.kind ≡ false
flat_not_head names allowed f ob =
    unit_not_head allowed.blocks (said_flat f).first.kind (flat_begins names allowed f ob)

-- an atom begins with no prefix operator, no infix operator and no postfix
pub atom_not_prefix : (blocks : Bool) (k : Kind) → begins_atom blocks k ≡ true → is_prefix k ≡ false
unfolding begins_atom is_prefix
atom_not_prefix blocks (kind.Word w) e = refl
atom_not_prefix blocks (kind.Name v) e = refl
atom_not_prefix blocks (kind.Number v) e = refl
atom_not_prefix blocks (kind.Text v) e = refl
atom_not_prefix blocks (kind.Op o) e = absurd cc
atom_not_prefix blocks (kind.Mark m) e = refl

pub atom_not_infix : (blocks : Bool) (k : Kind) → begins_atom blocks k ≡ true
    → is_infix_kind k ≡ false
unfolding begins_atom is_infix_kind
atom_not_infix blocks (kind.Word w) e = refl
atom_not_infix blocks (kind.Name v) e = refl
atom_not_infix blocks (kind.Number v) e = refl
atom_not_infix blocks (kind.Text v) e = refl
atom_not_infix blocks (kind.Op o) e = absurd cc
atom_not_infix blocks (kind.Mark m) e = refl

mark_not_postfix : (m : Mark) → begins_atom true (kind.Mark m) ≡ true
    → begins_postfix (kind.Mark m) ≡ false
unfolding begins_atom begins_postfix
mark_not_postfix mark.OpenParen e = refl
mark_not_postfix _ e = absurd cc

pub atom_not_postfix : (blocks : Bool) (k : Kind) → begins_atom blocks k ≡ true
    → begins_postfix k ≡ false
unfolding begins_atom begins_postfix
atom_not_postfix blocks (kind.Word w) e = refl
atom_not_postfix blocks (kind.Name v) e = refl
atom_not_postfix blocks (kind.Number v) e = refl
atom_not_postfix blocks (kind.Text v) e = refl
atom_not_postfix blocks (kind.Op o) e = absurd cc
atom_not_postfix blocks (kind.Mark m) e = mark_not_postfix m e

-- the sign of an assignment begins no unit
mark_not_assigns : (m : Mark) → begins_atom true (kind.Mark m) ≡ true → mark_assigns m ≡ false
unfolding begins_atom
mark_not_assigns mark.OpenParen e = refl
mark_not_assigns _ e = absurd cc

pub atom_not_assigns : (blocks : Bool) (k : Kind) → begins_atom blocks k ≡ true → assigns k ≡ false
unfolding begins_atom assigns
atom_not_assigns blocks (kind.Word w) e = refl
atom_not_assigns blocks (kind.Name v) e = refl
atom_not_assigns blocks (kind.Number v) e = refl
atom_not_assigns blocks (kind.Text v) e = refl
atom_not_assigns blocks (kind.Op o) e = absurd cc
atom_not_assigns blocks (kind.Mark m) e = mark_not_assigns m e

pub infix_not_assigns : (k : Kind) → is_infix_kind k ≡ true → assigns k ≡ false
unfolding is_infix_kind assigns
infix_not_assigns (kind.Word w) e = refl
infix_not_assigns (kind.Name v) e = refl
infix_not_assigns (kind.Number v) e = refl
infix_not_assigns (kind.Text v) e = refl
infix_not_assigns (kind.Op o) e = refl
infix_not_assigns (kind.Mark m) e = absurd cc
