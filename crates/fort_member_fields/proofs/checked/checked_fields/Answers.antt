use Rattle.std.proofs.Common.{◌≡◌, ◌≤◌, ◌∙◌, refl, sym, subst, length, None, IfOk, IfErr, OnOk}
use Rattle.fort_types.specs.Hierarchy.{Sound}
use Rattle.fort_types.specs.Table.{HasRows}
use Rattle.fort_base.specs.Places.{IsFirst}
use Rattle.fort_hier.proofs.AcceptedLaws.{accepted_sound}
use Rattle.fort_member_fields.specs.Gathering.{HasAll}
use Rattle.fort_member_fields.specs.Rules.{IsDuplicate, IsNotBelow, IsFieldRefusal}
use Rattle.fort_member_fields.proofs.ComponentLaws.{own_long, fewer_places, types_are, own_are, places_are}
use Rattle.fort_member_fields.proofs.ReportedLaws.{lists_by, lists_of, has_fields, all_reported}
use Rattle.fort_member_fields.proofs.checked.checked_fields.Goals as goal

pub kept_fields-requires-clause-rows : goal.kept_fields-requires-clause-rows
kept_fields-requires-clause-rows c = subst (λ z. HasRows z c.args.hierarchy.now.table)
    (sym (c.as_slice-2.ensures
    ∙ types_are c.args.component.now c.as_slice-names.ensures c.requires.heads
    c.requires.numbers refl c.in_ok-types.ensures)) c.requires.types.rows

pub kept_fields-requires-clause-sound : goal.kept_fields-requires-clause-sound
kept_fields-requires-clause-sound c = subst Sound
    (sym (c.as_slice-2.ensures
    ∙ types_are c.args.component.now c.as_slice-names.ensures c.requires.heads
    c.requires.numbers refl c.in_ok-types.ensures))
    (accepted_sound c.args.component.now _ c.args.hierarchy.now c.requires.types)

pub kept_fields-requires-clause-fewer : goal.kept_fields-requires-clause-fewer
kept_fields-requires-clause-fewer c =
    lists_of c.args.component.now (λ h own places. length places ≤ length h)
    (c.as_slice-2.ensures
    ∙ types_are c.args.component.now c.as_slice-names.ensures c.requires.heads
    c.requires.numbers refl c.in_ok-types.ensures)
    (c.as_slice-4.ensures
    ∙ own_are c.args.component.now c.as_slice-names.ensures c.requires.heads
    c.requires.numbers refl c.as_slice.ensures c.in_ok-own.ensures)
    (c.as_slice-3.ensures
    ∙ places_are c.args.component.now c.requires.heads c.in_ok-places.ensures)
    (fewer_places c.args.component.now)

pub kept_fields-requires-clause-own : goal.kept_fields-requires-clause-own
kept_fields-requires-clause-own c =
    lists_of c.args.component.now (λ h own places. length own ≡ length h)
    (c.as_slice-2.ensures
    ∙ types_are c.args.component.now c.as_slice-names.ensures c.requires.heads
    c.requires.numbers refl c.in_ok-types.ensures)
    (c.as_slice-4.ensures
    ∙ own_are c.args.component.now c.as_slice-names.ensures c.requires.heads
    c.requires.numbers refl c.as_slice.ensures c.in_ok-own.ensures)
    (c.as_slice-3.ensures
    ∙ places_are c.args.component.now c.requires.heads c.in_ok-places.ensures)
    (own_long c.args.component.now)

pub returns-clause-ok : goal.returns-clause-ok
returns-clause-ok c =
    let types =
    c.as_slice-2.ensures
    ∙ types_are c.args.component.now c.as_slice-names.ensures c.requires.heads
    c.requires.numbers refl c.in_ok-types.ensures in
    let own =
    c.as_slice-4.ensures
    ∙ own_are c.args.component.now c.as_slice-names.ensures c.requires.heads c.requires.numbers
    refl c.as_slice.ensures c.in_ok-own.ensures in
    let places =
    c.as_slice-3.ensures
    ∙ places_are c.args.component.now c.requires.heads c.in_ok-places.ensures in
    has_fields c.args.component.now c.kept_fields.result
    (lists_by c.args.component.now (λ h own places. IfOk c.kept_fields.result (HasAll h own)) types
    own places c.kept_fields.ensures.fields)
    (lists_by c.args.component.now
    (λ h own places. OnOk c.kept_fields.result (IsFirst (IsDuplicate h own places) None))
    types own places c.kept_fields.ensures.once)
    (lists_by c.args.component.now
    (λ h own places. OnOk c.kept_fields.result (IsFirst (IsNotBelow h own places) None))
    types own places c.kept_fields.ensures.below)

pub returns-clause-err : goal.returns-clause-err
returns-clause-err c = all_reported c.args.component.now c.kept_fields.result
    (lists_by c.args.component.now
    (λ h own places. IfErr c.kept_fields.result (IsFieldRefusal h own places))
    (c.as_slice-2.ensures
    ∙ types_are c.args.component.now c.as_slice-names.ensures c.requires.heads
    c.requires.numbers refl c.in_ok-types.ensures)
    (c.as_slice-4.ensures
    ∙ own_are c.args.component.now c.as_slice-names.ensures c.requires.heads
    c.requires.numbers refl c.as_slice.ensures c.in_ok-own.ensures)
    (c.as_slice-3.ensures
    ∙ places_are c.args.component.now c.requires.heads c.in_ok-places.ensures)
    c.kept_fields.ensures.err)
