-- The chapter "Tokens", no definition of it: what the builder of a token list holds on the way. No
-- public clause cites it.
use Rattle.std.specs.Prelude.{◌≡◌, ◌⊎◌, ℕ, Bool, false, cond, List, [], ◌∷◌, ◌++◌, map, length, Option, None, Some, Result, Ok, Err, encode_utf8_all}
use Rattle.fort_base.specs.declared.refusal.CheckFault.{CheckFault}
use Rattle.fort_base.specs.declared.refusal.CheckFault.TheVariants as a_fault
use Rattle.fort_base.specs.declared.refusal.Memory.{Memory}
use Rattle.fort_base.specs.declared.refusal.Place.{Place}
use Rattle.fort_base.specs.declared.refusal.Rule.{Rule}
use Rattle.fort_lex_scan.specs.Lists.{among}
use Rattle.fort_lex_scan.specs.Places.{place_after, the_start}
use Rattle.fort_lex_scan.specs.Tokens.{Piece}
use Rattle.fort_lex_scan.specs.Faults.{IsList, IsFault, IsMany}
use Rattle.std.specs.Str.{bytes_eq}
use Rattle.fort_base.specs.declared.rules.TheConstants.{TOO_MANY_TOKENS}
use Rattle.indexmap.specs.IndexMap.{get_by}
use Rattle.fort_lex.specs.declared.names.NameTable.{NameTable}
use Rattle.fort_lex.specs.declared.builder.Builder.{Builder}
use Rattle.fort_ops.specs.declared.op.Op.TheVariants as an_op
use Rattle.fort_lex.specs.declared.meaning.Meaning.{Meaning}
use Rattle.fort_lex.specs.declared.meaning.Meaning.TheVariants as a_meaning
use Rattle.fort_lex_token.specs.declared.token.Kind.{Kind}
use Rattle.fort_lex_token.specs.declared.token.Kind.TheVariants as kind
use Rattle.fort_lex_token.specs.declared.token.Tokens.{Tokens}
use Rattle.fort_lex.specs.Meanings.{meaning_of, is_numbered, has_number, is_text_word, KindFor, Means, said}
use Rattle.fort_lex.specs.Files.{names_of, texts_of, AreTokens, StandsFor}

-- the words, and a new one at their end where it has a number and isn't among them
abbrev pub with_word : List (List ℕ) → List ℕ → Bool → List (List ℕ)
with_word words w numbered = cond numbered (cond (among words w) words (words ++ w ∷ [])) words

-- the words with one that may have a number
abbrev pub words_with : List (List ℕ) → List ℕ → List (List ℕ)
words_with words w = with_word words w (is_numbered (meaning_of w))

-- the kind of a word of that meaning, where its number would be n
abbrev pub KindAt : ℕ → Meaning → Kind → Type 0
KindAt n (a_meaning.Word r) k = k ≡ kind.Word r
KindAt n (a_meaning.Mark m) k = k ≡ kind.Mark m
KindAt n (a_meaning.Op op) k = k ≡ kind.Op op
KindAt n a_meaning.OperatorWord k = k ≡ kind.Op (an_op.Word n)
KindAt n a_meaning.Name k = k ≡ kind.Name (record { 0 = n })

-- what the map has for a word
abbrev pub known_kind : NameTable → List ℕ → Option Kind
known_kind n w = get_by (λ key. bytes_eq w key.now) n.known

-- The names are these words, and the map has the kind of each of them, and no wrong kind of any
-- word.
pub record HoldsNames (words : List (List ℕ)) (n : NameTable) : Type 0 where
  pub names : n.names ≡ map encode_utf8_all words
  pub sound : (w : List ℕ) (k : Kind) → known_kind n w ≡ Some k → KindFor words w (meaning_of w) k
  pub complete : (w : List ℕ) → known_kind n w ≡ None → among words w ≡ false

-- the place behind the pieces
abbrev pub end_of : Place → List Piece → Place
end_of place [] = place
end_of place (p ∷ ps) = end_of (place_after place (p.gap ++ p.word)) ps

-- The builder holds what the pieces stand for.
pub record Holds (pieces : List Piece) (b : Builder) : Type 0 where
  pub list : AreTokens (names_of pieces) the_start 0 pieces b.list
  pub names : HoldsNames (names_of pieces) b.names
  pub texts : b.texts ≡ texts_of pieces
  pub place : b.place ≡ end_of the_start pieces

-- The kind is what the word stands for, and the names and texts have gained what it adds.
pub record AddsWord (old new : Builder) (w : List ℕ) (k : Kind) : Type 0 where
  pub means : (words : List (List ℕ)) → HoldsNames words old.names
      → Means (with_word words w (has_number w)) (length old.texts) w k
  pub names : (words : List (List ℕ)) → HoldsNames words old.names
      → HoldsNames (with_word words w (has_number w)) new.names
  pub texts : new.texts ≡ old.texts ++ cond (is_text_word w) (encode_utf8_all (said w) ∷ []) []
  pub list : new.list ≡ old.list
  pub place : new.place ≡ old.place

abbrev pub OkKind : Builder → Builder → List ℕ → Result Kind Memory → Type 0
OkKind old new w (Ok k) = AddsWord old new w k
OkKind old new w (Err e) = Unit {0}

-- the rule of 102 to 107 that a text breaks
abbrev pub TextRefused : List ℕ → Rule → Place → Type 0
TextRefused text r place = IsFault text r place ⊎ ((r ≡ TOO_MANY_TOKENS) × IsMany text place)

-- what a text's characters answer
abbrev pub TextAnswers : List ℕ → Result Tokens CheckFault → Type 0
TextAnswers text (Ok ts) = (pieces : List Piece) × IsList text pieces × StandsFor pieces ts
TextAnswers text (Err (a_fault.Refused r place)) = TextRefused text r place
TextAnswers text (Err a_fault.Memory) = Unit {0}
