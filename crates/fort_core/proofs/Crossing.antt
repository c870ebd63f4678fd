-- Terms, values and closures may go to other threads, and be read in several at once, since each
-- kind of part that they have may.
use mathlib.Core.List.{◌∷◌, []}
use denote.Builtin.{u8, u32}
use denote.RattleType.{RattleType}
use denote.Struct.Tuple.{Tuple}
use denote.Param.Send.{IsSend, IsSync, sendable}
use Rattle.std.specs.contracts.option.Option as option
use Rattle.fort_base.proofs.boxed.Boxed.TheSendSync as boxed
use Rattle.fort_base.proofs.ids.Loc.TheSendSync as loc
use Rattle.fort_base.proofs.list.List.TheSendSync as list
use Rattle.fort_base.proofs.shared.Shared.TheSendSync as shared
use Rattle.fort_base.proofs.ty.Ty.TheLaws.TheKnot as types
use Rattle.fort_base.specs.contracts.ids.Loc.{the_field as a_loc}
use Rattle.fort_base.specs.contracts.ids.NameId.{the_field as a_name}
use Rattle.fort_base.specs.contracts.ids.SetId.{the_field as a_set}
use Rattle.fort_base.specs.contracts.ids.TypeId.{the_field as a_type}
use Rattle.fort_base.specs.contracts.list.List.{the_row as list_of}
use Rattle.fort_base.specs.contracts.shared.Shared.{the_row as shared_of, the_field as a_shared}
use Rattle.fort_base.specs.contracts.ty.Ty.{the_row as ty, the_field as a_ty}
use Rattle.fort_core.proofs.term.Term.TheLaws.TheKnot as terms
use Rattle.fort_core.specs.contracts.form.Mode.{the_field as a_mode}
use Rattle.fort_core.specs.contracts.form.Order.{the_field as a_order}
use Rattle.fort_core.specs.contracts.form.Slot.{the_field as a_slot}
use Rattle.fort_core.specs.contracts.form.Span.{the_field as a_span}
use Rattle.fort_core.specs.contracts.term.Term as term
use Rattle.fort_core.specs.contracts.value.Closure as closure
use Rattle.fort_core.specs.contracts.value.Value as value

-- ---- numbers, pairs, what may be missing

u8_send : IsSend u8
u8_send = search sendable

u8_sync : IsSync u8
u8_sync = search sendable

u32_send : IsSend u32
u32_send = search sendable

u32_sync : IsSync u32
u32_sync = search sendable

pair_send : (A B : RattleType) → IsSend A → IsSend B → IsSend (Tuple (A ∷ B ∷ []))
pair_send A B a b = search sendable depth 9

option_send : (A : RattleType) → IsSend A → IsSend (option.the_row A)
option_send A a = search sendable depth 9

pair_sync : (A B : RattleType) → IsSync A → IsSync B → IsSync (Tuple (A ∷ B ∷ []))
pair_sync A B a b = search sendable depth 9

option_sync : (A : RattleType) → IsSync A → IsSync (option.the_row A)
option_sync A a = search sendable depth 9

-- ---- the small words, as they stand in terms

set_send : IsSend a_set.row
set_send = search sendable depth 9

set_sync : IsSync a_set.row
set_sync = search sendable depth 9

name_send : IsSend a_name.row
name_send = search sendable depth 9

name_sync : IsSync a_name.row
name_sync = search sendable depth 9

type_send : IsSend a_type.row
type_send = search sendable depth 9

type_sync : IsSync a_type.row
type_sync = search sendable depth 9

loc_send : IsSend a_loc.row
loc_send = search sendable depth 9

loc_sync : IsSync a_loc.row
loc_sync = search sendable depth 9

mode_send : IsSend a_mode.row
mode_send = search sendable depth 9

mode_sync : IsSync a_mode.row
mode_sync = search sendable depth 9

order_send : IsSend a_order.row
order_send = search sendable depth 9

order_sync : IsSync a_order.row
order_sync = search sendable depth 9

slot_send : IsSend a_slot.row
slot_send = search sendable depth 9

slot_sync : IsSync a_slot.row
slot_sync = search sendable depth 9

span_send : IsSend a_span.row
span_send = search sendable depth 9

span_sync : IsSync a_span.row
span_sync = search sendable depth 9

-- ---- types, and lists of variables with their types

ty_field_send : IsSend a_ty.row
ty_field_send = types.send-Ty type_send list.the_send boxed.the_send

ty_send : IsSend ty
ty_send = search (sendable, ty_field_send) depth 9

ty_field_sync : IsSync a_ty.row
ty_field_sync = types.sync-Ty type_sync list.the_sync boxed.the_sync

ty_sync : IsSync ty
ty_sync = search (sendable, ty_field_sync) depth 9

text_send : IsSend (list_of u8)
text_send = list.the_send u8 u8_send

text_sync : IsSync (list_of u8)
text_sync = list.the_sync u8 u8_sync

variables_send : IsSend (list_of (Tuple (u32 ∷ ty ∷ [])))
variables_send = list.the_send _ (pair_send u32 ty u32_send ty_send)

variables_sync : IsSync (list_of (Tuple (u32 ∷ ty ∷ [])))
variables_sync = list.the_sync _ (pair_sync u32 ty u32_sync ty_sync)

-- ---- parts that are shared, alone or with a type, and values with a number or a location

shared_ty_send : IsSend (a_shared ty).row
shared_ty_send = search (sendable, shared.the_send, ty_send, ty_sync) depth 9

shared_ty_sync : IsSync (a_shared ty).row
shared_ty_sync = search (sendable, shared.the_sync, ty_send, ty_sync) depth 9

shared_variables_send : IsSend (a_shared (list_of (Tuple (u32 ∷ ty ∷ [])))).row
shared_variables_send = search (sendable, shared.the_send, variables_send, variables_sync) depth 9

shared_variables_sync : IsSync (a_shared (list_of (Tuple (u32 ∷ ty ∷ [])))).row
shared_variables_sync = search (sendable, shared.the_sync, variables_send, variables_sync) depth 9

shared_text_send : IsSend (a_shared (list_of u8)).row
shared_text_send = search (sendable, shared.the_send, text_send, text_sync) depth 9

shared_text_sync : IsSync (a_shared (list_of u8)).row
shared_text_sync = search (sendable, shared.the_sync, text_send, text_sync) depth 9

part_send : (h : RattleType) → IsSend h → IsSync h → IsSend (list_of (shared_of h))
part_send h s y = list.the_send _ (shared.the_send h s y)

clause_send : (h : RattleType) → IsSend h → IsSync h
    → IsSend (list_of (Tuple (shared_of h ∷ shared_of ty ∷ [])))
clause_send h s y =
    list.the_send _ (pair_send _ _ (shared.the_send h s y) (shared.the_send ty ty_send ty_sync))

part_sync : (h : RattleType) → IsSend h → IsSync h → IsSync (list_of (shared_of h))
part_sync h s y = list.the_sync _ (shared.the_sync h s y)

clause_sync : (h : RattleType) → IsSend h → IsSync h
    → IsSync (list_of (Tuple (shared_of h ∷ shared_of ty ∷ [])))
clause_sync h s y =
    list.the_sync _ (pair_sync _ _ (shared.the_sync h s y) (shared.the_sync ty ty_send ty_sync))

-- ---- terms, values and closures: each kind of part, in the order in which they come

pub term_send : IsSend term.the_field.row
term_send =
    terms.both_send-Term
    shared.the_send shared.the_sync
    (search sendable) (search sendable)
    part_send part_sync
    set_send set_sync
    shared_ty_send shared_ty_sync
    shared_variables_send shared_variables_sync
    slot_send slot_sync
    name_send name_sync
    clause_send clause_sync
    order_send order_sync
    span_send span_sync
    (λ h s y. option_send _ (shared.the_send h s y))
    (λ h s y. option_sync _ (shared.the_sync h s y))
    mode_send mode_sync
    (λ h s y. list.the_send _ (pair_send _ h loc.the_send s))
    (λ h s y. list.the_sync _ (pair_sync _ h loc.the_sync y))
    (search sendable) (search sendable)
    (search sendable) (search sendable)
    (search sendable) (search sendable)
    shared_text_send shared_text_sync
    (λ h s y. shared.the_send _ (list.the_send h s) (list.the_sync h y))
    (λ h s y. shared.the_sync _ (list.the_send h s) (list.the_sync h y))
    (search sendable) (search sendable)
    type_send type_sync
    loc_send loc_sync
    (λ h s y. list.the_send _ (pair_send u32 h u32_send s))
    (λ h s y. list.the_sync _ (pair_sync u32 h u32_sync y))

pub term_sync : IsSync term.the_field.row
term_sync =
    terms.both_sync-Term
    shared.the_send shared.the_sync
    (search sendable) (search sendable)
    part_send part_sync
    set_send set_sync
    shared_ty_send shared_ty_sync
    shared_variables_send shared_variables_sync
    slot_send slot_sync
    name_send name_sync
    clause_send clause_sync
    order_send order_sync
    span_send span_sync
    (λ h s y. option_send _ (shared.the_send h s y))
    (λ h s y. option_sync _ (shared.the_sync h s y))
    mode_send mode_sync
    (λ h s y. list.the_send _ (pair_send _ h loc.the_send s))
    (λ h s y. list.the_sync _ (pair_sync _ h loc.the_sync y))
    (search sendable) (search sendable)
    (search sendable) (search sendable)
    (search sendable) (search sendable)
    shared_text_send shared_text_sync
    (λ h s y. shared.the_send _ (list.the_send h s) (list.the_sync h y))
    (λ h s y. shared.the_sync _ (list.the_send h s) (list.the_sync h y))
    (search sendable) (search sendable)
    type_send type_sync
    loc_send loc_sync
    (λ h s y. list.the_send _ (pair_send u32 h u32_send s))
    (λ h s y. list.the_sync _ (pair_sync u32 h u32_sync y))

pub value_send : IsSend value.the_field.row
value_send =
    terms.both_send-Value
    shared.the_send shared.the_sync
    (search sendable) (search sendable)
    part_send part_sync
    set_send set_sync
    shared_ty_send shared_ty_sync
    shared_variables_send shared_variables_sync
    slot_send slot_sync
    name_send name_sync
    clause_send clause_sync
    order_send order_sync
    span_send span_sync
    (λ h s y. option_send _ (shared.the_send h s y))
    (λ h s y. option_sync _ (shared.the_sync h s y))
    mode_send mode_sync
    (λ h s y. list.the_send _ (pair_send _ h loc.the_send s))
    (λ h s y. list.the_sync _ (pair_sync _ h loc.the_sync y))
    (search sendable) (search sendable)
    (search sendable) (search sendable)
    (search sendable) (search sendable)
    shared_text_send shared_text_sync
    (λ h s y. shared.the_send _ (list.the_send h s) (list.the_sync h y))
    (λ h s y. shared.the_sync _ (list.the_send h s) (list.the_sync h y))
    (search sendable) (search sendable)
    type_send type_sync
    loc_send loc_sync
    (λ h s y. list.the_send _ (pair_send u32 h u32_send s))
    (λ h s y. list.the_sync _ (pair_sync u32 h u32_sync y))

pub value_sync : IsSync value.the_field.row
value_sync =
    terms.both_sync-Value
    shared.the_send shared.the_sync
    (search sendable) (search sendable)
    part_send part_sync
    set_send set_sync
    shared_ty_send shared_ty_sync
    shared_variables_send shared_variables_sync
    slot_send slot_sync
    name_send name_sync
    clause_send clause_sync
    order_send order_sync
    span_send span_sync
    (λ h s y. option_send _ (shared.the_send h s y))
    (λ h s y. option_sync _ (shared.the_sync h s y))
    mode_send mode_sync
    (λ h s y. list.the_send _ (pair_send _ h loc.the_send s))
    (λ h s y. list.the_sync _ (pair_sync _ h loc.the_sync y))
    (search sendable) (search sendable)
    (search sendable) (search sendable)
    (search sendable) (search sendable)
    shared_text_send shared_text_sync
    (λ h s y. shared.the_send _ (list.the_send h s) (list.the_sync h y))
    (λ h s y. shared.the_sync _ (list.the_send h s) (list.the_sync h y))
    (search sendable) (search sendable)
    type_send type_sync
    loc_send loc_sync
    (λ h s y. list.the_send _ (pair_send u32 h u32_send s))
    (λ h s y. list.the_sync _ (pair_sync u32 h u32_sync y))

pub closure_send : IsSend closure.the_field.row
closure_send =
    terms.both_send-Closure
    shared.the_send shared.the_sync
    (search sendable) (search sendable)
    part_send part_sync
    set_send set_sync
    shared_ty_send shared_ty_sync
    shared_variables_send shared_variables_sync
    slot_send slot_sync
    name_send name_sync
    clause_send clause_sync
    order_send order_sync
    span_send span_sync
    (λ h s y. option_send _ (shared.the_send h s y))
    (λ h s y. option_sync _ (shared.the_sync h s y))
    mode_send mode_sync
    (λ h s y. list.the_send _ (pair_send _ h loc.the_send s))
    (λ h s y. list.the_sync _ (pair_sync _ h loc.the_sync y))
    (search sendable) (search sendable)
    (search sendable) (search sendable)
    (search sendable) (search sendable)
    shared_text_send shared_text_sync
    (λ h s y. shared.the_send _ (list.the_send h s) (list.the_sync h y))
    (λ h s y. shared.the_sync _ (list.the_send h s) (list.the_sync h y))
    (search sendable) (search sendable)
    type_send type_sync
    loc_send loc_sync
    (λ h s y. list.the_send _ (pair_send u32 h u32_send s))
    (λ h s y. list.the_sync _ (pair_sync u32 h u32_sync y))

pub closure_sync : IsSync closure.the_field.row
closure_sync =
    terms.both_sync-Closure
    shared.the_send shared.the_sync
    (search sendable) (search sendable)
    part_send part_sync
    set_send set_sync
    shared_ty_send shared_ty_sync
    shared_variables_send shared_variables_sync
    slot_send slot_sync
    name_send name_sync
    clause_send clause_sync
    order_send order_sync
    span_send span_sync
    (λ h s y. option_send _ (shared.the_send h s y))
    (λ h s y. option_sync _ (shared.the_sync h s y))
    mode_send mode_sync
    (λ h s y. list.the_send _ (pair_send _ h loc.the_send s))
    (λ h s y. list.the_sync _ (pair_sync _ h loc.the_sync y))
    (search sendable) (search sendable)
    (search sendable) (search sendable)
    (search sendable) (search sendable)
    shared_text_send shared_text_sync
    (λ h s y. shared.the_send _ (list.the_send h s) (list.the_sync h y))
    (λ h s y. shared.the_sync _ (list.the_send h s) (list.the_sync h y))
    (search sendable) (search sendable)
    type_send type_sync
    loc_send loc_sync
    (λ h s y. list.the_send _ (pair_send u32 h u32_send s))
    (λ h s y. list.the_sync _ (pair_sync u32 h u32_sync y))

-- ---- lists of them

pub terms_send : IsSend (list_of (shared_of term.the_row))
terms_send = search (sendable, list.the_send, shared.the_send, term_send, term_sync) depth 9

pub terms_sync : IsSync (list_of (shared_of term.the_row))
terms_sync = search (sendable, list.the_sync, shared.the_sync, term_send, term_sync) depth 9

pub values_send : IsSend (list_of value.the_row)
values_send = search (sendable, list.the_send, value_send) depth 9

pub values_sync : IsSync (list_of value.the_row)
values_sync = search (sendable, list.the_sync, value_sync) depth 9
