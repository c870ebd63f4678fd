use mir.Syntax.{named}
use denote.Exit.{no}
use denote.Param.{param}
use denote.Param.Send.{arg_send, arg_sync, param_send, param_sync}
use Rattle.fort_hall_legs.proofs.Crossing.{machine_send, machine_sync, state_send, task_book_send, task_leg_send, waste_send}
use Rattle.fort_hall_legs.proofs.legs.legs_of.Goals as goal

pub run-requires-send-M : goal.run-requires-send-M
run-requires-send-M g c κs within =
    let s = c.type_bounds.sync-G in search (param_send, arg_send, machine_send, s) depth 6

-- the machine lives as long as the last of the call's lifetimes
pub run-requires-sync-M : goal.run-requires-sync-M
run-requires-sync-M g c κs within =
    param_sync 0 _ (arg_sync _ no _
    (machine_sync (record { mir = named 10; lft = κs.1.1.1.1.1.1.1.1.1.1.0 }) (param 0 g.row.J) _ _
    c.type_bounds.sync-G))

pub run-requires-send-M-Book : goal.run-requires-send-M-Book
run-requires-send-M-Book g c κs within = param_send 3 _ (arg_send _ no _ task_book_send)

pub run-requires-send-M-State : goal.run-requires-send-M-State
run-requires-send-M-State g c κs within = param_send 4 _ (arg_send _ no _ state_send)

pub run-requires-send-M-Leg : goal.run-requires-send-M-Leg
run-requires-send-M-Leg g c κs within = param_send 5 _ (arg_send _ no _ task_leg_send)

pub run-requires-send-M-Waste : goal.run-requires-send-M-Waste
run-requires-send-M-Waste g c κs within = param_send 6 _ (arg_send _ no _ waste_send)
