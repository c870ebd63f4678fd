-- The numbers of a file's names are in its table.
use Rattle.std.proofs.Common.{◌≡◌, ℕ, suc, ◌<◌, true, List, [], ◌∷◌, length, chars, Ok, refl, arith}
use Rattle.std.specs.Prelude.{All}
use Rattle.std.specs.List.{AllByRecursion}
use Rattle.std.proofs.lemmas.Bool.{lt-ltb}
use Rattle.fort_ops.specs.declared.op.Op.{Op}
use Rattle.fort_ops.specs.declared.op.Op.TheVariants as an_op
use Rattle.fort_lex_token.specs.declared.token.Kind.{Kind}
use Rattle.fort_lex_token.specs.declared.token.Kind.TheVariants as kind
use Rattle.fort_lex_token.specs.declared.token.Token.{Token}
use Rattle.fort_lex.specs.Files.{IsKindWithin, IsOpWithin}
use Rattle.fort_lex.proofs.NumberLaws.{text_numbers}
use Rattle.fort_syntax.specs.Answer.{name_is_in}
use Rattle.fort_lex_law_tokens.specs.Standing.{FileNamesAreIn}

op_in : (names : ℕ) (op : Op) → IsOpWithin names op → name_is_in names (kind.Op op) ≡ true
op_in names (an_op.Word n) h = lt-ltb n names h
op_in names _ h = refl

name_in : (names texts : ℕ) (k : Kind) → IsKindWithin names texts k → name_is_in names k ≡ true
name_in names texts (kind.Word r) h = refl
name_in names texts (kind.Name id) h = lt-ltb id.0 names h
name_in names texts (kind.Number n) h = refl
name_in names texts (kind.Text n) h = refl
name_in names texts (kind.Op op) h = op_in names op h
name_in names texts (kind.Mark m) h = refl

names_in : (names texts : ℕ) (ts : List Token) → All (λ t. IsKindWithin names texts t.kind) ts
    → AllByRecursion (λ (t : Token). name_is_in names t.kind ≡ true) ts
names_in names texts [] h = tt
names_in names texts (t ∷ ts) h = (
  name_in names texts t.kind (h 0 t (omega arith)),
  names_in names texts ts (λ i d l. h (suc i) d (omega arith)),
)

pub file_names_are_in : FileNamesAreIn
file_names_are_in bytes tokens h =
    names_in (length tokens.names) (length tokens.texts) tokens.list
    (text_numbers (chars bytes) (Ok tokens) (h.pieces, h.is, h.tokens))
