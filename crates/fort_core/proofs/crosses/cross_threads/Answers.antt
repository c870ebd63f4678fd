use denote.Param.Send.{sendable}
use Rattle.fort_core.proofs.Crossing.{term_send, term_sync, terms_send, terms_sync, value_send, value_sync, values_send, values_sync, closure_send, closure_sync}
use Rattle.fort_core.proofs.crosses.cross_threads.Goals as goal

pub crosses-requires-send-T : goal.crosses-requires-send-T
crosses-requires-send-T c = λ κs. search (sendable, term_send)

pub crosses-requires-sync-T : goal.crosses-requires-sync-T
crosses-requires-sync-T c = λ κs. search (sendable, term_sync)

pub crosses-requires-2-send-T : goal.crosses-requires-2-send-T
crosses-requires-2-send-T c = λ κs. search (sendable, terms_send)

pub crosses-requires-2-sync-T : goal.crosses-requires-2-sync-T
crosses-requires-2-sync-T c = λ κs. search (sendable, terms_sync)

pub crosses-requires-3-send-T : goal.crosses-requires-3-send-T
crosses-requires-3-send-T c = λ κs. search (sendable, value_send)

pub crosses-requires-3-sync-T : goal.crosses-requires-3-sync-T
crosses-requires-3-sync-T c = λ κs. search (sendable, value_sync)

pub crosses-requires-4-send-T : goal.crosses-requires-4-send-T
crosses-requires-4-send-T c = λ κs. search (sendable, values_send)

pub crosses-requires-4-sync-T : goal.crosses-requires-4-sync-T
crosses-requires-4-sync-T c = λ κs. search (sendable, values_sync)

pub crosses-requires-5-send-T : goal.crosses-requires-5-send-T
crosses-requires-5-send-T c = λ κs. search (sendable, closure_send)

pub crosses-requires-5-sync-T : goal.crosses-requires-5-sync-T
crosses-requires-5-sync-T c = λ κs. search (sendable, closure_sync)
