use Rattle.std.proofs.Common.{◌≡◌, ℕ, List, Option, Some, sym, ap, subst, ◌∙◌, ◌↔◌, true}
use Rattle.std.specs.Str.{chars}
use Rattle.std.specs.Prelude.{encode_utf8_all}
use Rattle.std.proofs.Math.Utf8.{scalars}
use Rattle.std.proofs.lemmas.Str.{chars-encodes}
use Rattle.fort_ops.specs.declared.op.Op.{Op}
use Rattle.fort_ops.specs.Spellings.{Spells}
use Rattle.fort_lex.specs.Spellings.{operator_named}
use Rattle.fort_lex.proofs.MeaningLaws.{operator_is, by_reserved, by_mark, by_operator, by_form, by_name, by_small}
use Rattle.fort_lex.proofs.meaning.meaning_of.Goals as goal

operator_at : (w text : List ℕ) (r : Option Op) → text ≡ encode_utf8_all w → scalars w ≡ true
    → ((op : Op) → (r ≡ Some op) ↔ Spells op (chars text)) → r ≡ operator_named w
operator_at w text r e s h =
    operator_is w r (subst (λ t. (op : Op) → (r ≡ Some op)
    ↔ Spells op t) (ap chars e ∙ chars-encodes w s) h)

pub returns-in-Some : goal.returns-in-Some
returns-in-Some c =
    by_reserved c.args.word.now c.in-Some.reserved (sym c.reserved_named.ensures ∙ c.in-Some.is)

pub returns-in-Some-mark_named : goal.returns-in-Some-mark_named
returns-in-Some-mark_named c =
    by_mark c.args.word.now c.in-Some-mark_named.mark (sym c.reserved_named.ensures
    ∙ c.in_default.is) (sym c.mark_named.ensures ∙ c.in-Some-mark_named.is)

pub returns-in-Some-spelling_of : goal.returns-in-Some-spelling_of
returns-in-Some-spelling_of c =
    by_operator c.args.word.now c.in-Some-spelling_of.op (sym c.reserved_named.ensures
    ∙ c.in_default.is) (sym c.mark_named.ensures ∙ c.in_default-mark_named.is)
    (sym (operator_at c.args.word.now c.args.text.now c.spelling_of.result c.requires.same
    c.requires.scalars c.spelling_of.ensures) ∙ c.in-Some-spelling_of.is)

pub returns-then-has_operator_form : goal.returns-then-has_operator_form
returns-then-has_operator_form c =
    by_form c.args.word.now (sym c.reserved_named.ensures
    ∙ c.in_default.is) (sym c.mark_named.ensures ∙ c.in_default-mark_named.is)
    (sym (operator_at c.args.word.now c.args.text.now c.spelling_of.result c.requires.same
    c.requires.scalars c.spelling_of.ensures) ∙ c.in_default-spelling_of.is)
    (sym c.has_operator_form.ensures ∙ c.if-has_operator_form.true)

pub returns-else-has_operator_form : goal.returns-else-has_operator_form
returns-else-has_operator_form c =
    by_name c.args.word.now (sym c.reserved_named.ensures
    ∙ c.in_default.is) (sym c.mark_named.ensures ∙ c.in_default-mark_named.is)
    (sym (operator_at c.args.word.now c.args.text.now c.spelling_of.result c.requires.same
    c.requires.scalars c.spelling_of.ensures) ∙ c.in_default-spelling_of.is)
    (sym c.has_operator_form.ensures ∙ c.if-has_operator_form.false)

pub returns-then-begins_small : goal.returns-then-begins_small
returns-then-begins_small c =
    by_small c.args.word.now (sym c.reserved_named.ensures
    ∙ c.in_default.is) (sym c.begins_small.ensures ∙ c.if-begins_small.true)
