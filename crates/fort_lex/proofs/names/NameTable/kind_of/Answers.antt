use Rattle.std.proofs.Common.{[], ◌∷◌, ◌++◌, cond, length, Some, sym, ap, subst, ◌∙◌}
use Rattle.std.specs.Str.{bytes_eq}
use Rattle.std.specs.Prelude.{string_bytes}
use Rattle.std.proofs.lemmas.Map.Text.{hash_map_updates_str}
use Rattle.indexmap.specs.IndexMap.{get_by}
use Rattle.fort_lex.specs.Meanings.{meaning_of, is_numbered}
use Rattle.fort_lex.specs.Building.{KindAt}
use Rattle.fort_lex.proofs.NameLaws.{known_kind_is, known_held, new_kind_is, new_held}
use Rattle.fort_lex.proofs.names.NameTable.kind_of.Goals as goal

pub returns-in-Some-clause-kind : goal.returns-in-Some-clause-kind
returns-in-Some-clause-kind c =
    λ words h. known_kind_is words c.args.self.now c.args.word.now _ h (sym c.in-Some.ensures.value)

pub returns-in-Some-clause-held : goal.returns-in-Some-clause-held
returns-in-Some-clause-held c =
    λ words h. known_held words c.args.self.now c.args.word.now _ h (sym c.in-Some.ensures.value)

pub returns-clause-kind : goal.returns-clause-kind
returns-clause-kind c = λ words h.
    let a = subst (λ m. KindAt (length c.args.self.now.names) m c.in_ok-kind.kind)
    c.meaning_of.ensures c.in_ok-kind.ensures.kind in
    new_kind_is words c.args.self.now c.args.word.now c.in_ok-kind.kind h
    (sym c.in_default.ensures.value) a

pub returns-clause-held : goal.returns-clause-held
returns-clause-held c = λ words h.
    let w = c.args.word.now in
    let old = c.args.self.now in
    let k = c.in_ok-kind.kind in
    let a = subst (λ m. KindAt (length old.names) m k) c.meaning_of.ensures
    c.in_ok-kind.ensures.kind in
    let names =
    c.in_ok-kind.ensures.names
    ∙ ap (λ m. old.names ++ cond (is_numbered m) (string_bytes c.in_ok-text.text ∷ []) [])
    c.meaning_of.ensures
    ∙ ap (λ t. old.names ++ cond (is_numbered (meaning_of w)) (t ∷ []) []) c.in_ok-text.ensures in
    new_held words old _ w k h (sym c.in_default.ensures.value) a names
    (λ v. hash_map_updates_str w c.kind_for.new.self.known c.insert.new.self (Some k)
    c.in_ok-insert.ensures.updates v
    ∙ ap (λ m. cond (bytes_eq w v) (Some k) (get_by (λ key. bytes_eq v key.now) m))
    c.in_ok-kind.ensures.known)
