-- A tree over a table of names is one over each table that goes on.
use Rattle.std.proofs.Common.{◌≡◌, ℕ, ◌+◌, true, List, [], ◌∷◌, ◌++◌, length, refl, sym}
use Rattle.std.proofs.lemmas.Bool.{ltb-true}
use Rattle.std.proofs.lemmas.List.{get_or_append_left}
use Rattle.fort_lex_token.specs.declared.token.Kind.{Kind}
use Rattle.fort_lex_token.specs.declared.token.Kind.TheVariants as a_kind
use Rattle.fort_tree.specs.declared.declarations.Component.{Component}
use Rattle.fort_tree.specs.Tokens.{Spellings}
use Rattle.fort_parse_reading.specs.declared.fault.Fault.TheVariants.{TooDeep}
use Rattle.fort_parse_reading.specs.Parser.{Row, Outcome, Read, Failed}
use Rattle.fort_parse_reading.proofs.Laws.{Gets, reads, ends}
use Rattle.fort_syntax.specs.Answer.{TreeGoesOver, NamesAreIn, name_is_in, over}
use Rattle.fort_syntax.proofs.Agreeing.{IsIn, AllIn}
use Rattle.fort_syntax.proofs.Theorem.{whole_sound, whole_gets, not_deep}
use Rattle.fort_syntax.proofs.WholeAgrees.{whole_reads}

is_in : (names : ℕ) (k : Kind) → name_is_in names k ≡ true → IsIn names k
is_in names (a_kind.Name id) e = ltb-true id.0 names e
is_in names _ e = tt

-- the numbers of names, token by token
all_named : (names : Spellings) (ts : Row) → NamesAreIn names ts → AllIn (length names) ts
all_named names [] h = tt
all_named names (t ∷ ts) h = (is_in (length names) t.kind h.0, all_named names ts h.1)

-- what isn't too deep is read
was_read : {o : Outcome Component} {c : Component} {rest : Row} → Gets Component o c rest
    → ((left : Row) → o ≡ Failed TooDeep left → ⊥) → o ≡ Read c rest
was_read reads deep = refl
was_read (ends {left = left}) deep = absurd (deep left refl)

pub goes_over : TreeGoesOver
goes_over tokens more texts c named has =
    let wide = tokens.names ++ more in
    let n = length tokens.list + 1 in
    let read =
    was_read (whole_gets tokens.names n tokens.texts tokens.list c has)
    (not_deep tokens.names tokens.texts tokens.list) in
    (whole_sound wide n texts tokens.list).holds (over wide texts c) []
    (whole_reads tokens.names wide (λ id l. sym (get_or_append_left tokens.names more [] id l)) n
    tokens.texts texts tokens.list [] c (all_named tokens.names
    tokens.list named) read)
