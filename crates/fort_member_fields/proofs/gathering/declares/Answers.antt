use Rattle.std.proofs.Common.{◌≡◌, refl, rules}
use Rattle.std.proofs.lemmas.Option.{slice_get_read}
use Rattle.fort_types_sets.specs.declared.field.Field.{Field}
use Rattle.fort_member_fields.proofs.Searches.{none_more, found_told, none_told}
use Rattle.fort_member_fields.proofs.gathering.declares.Goals as goal

pub loop-field-preserved : goal.loop-field-preserved
loop-field-preserved c =
    none_more (λ
    (f : Field). f.name
    ≡ c.args.name) c.args.own.now c.loop-field.field-index c.field-item.result
    (slice_get_read _ _ _ _ refl c.loop-field-test.true c.field-item.is)
    (λ p. search rules) c.loop-field.invariant

pub returns-then-eq : goal.returns-then-eq
returns-then-eq c =
    found_told (λ
    (f : Field). f.name
    ≡ c.args.name) c.args.own.now c.loop-field.field-index c.field-item.result
    (slice_get_read _ _ _ _ refl c.loop-field-test.true c.field-item.is) (search rules)

pub returns : goal.returns
returns c =
    none_told (λ
    (f : Field). f.name
    ≡ c.args.name) c.args.own.now c.loop-field.field-index c.loop-field-test.false
    c.loop-field.invariant
