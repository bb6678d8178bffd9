use mathlib.Core.List.{List, [], ◌∷◌}
use denote.RattleType.{RattleType}
use denote.Exit.{no}
use denote.Param.{param, copied}
use denote.Param.Send.{param_send, arg_send, sendable}
use Rattle.std.proofs.Crossing as std
use Rattle.std.specs.contracts.alloc.Global as Global
use Rattle.std.specs.contracts.option.Option as Option
use Rattle.rq_desk.proofs.Crossing.{shared_send, shared_sync}
use Rattle.rq_desk.proofs.slot.Slot.TheSendSync as slot
use Rattle.rq_desk.specs.contracts.mail.Shared as Shared
use Rattle.rq_desk.specs.contracts.slot.Slot as Slot
use Rattle.rq_serve.proofs.Closures.{closure_send, locked_send, option_send, arc, locked}
use Rattle.rq_serve.proofs.listening.start_worker.Goals as goal

-- what the worker takes along may go to its thread
pub start-requires-send-F : goal.start-requires-send-F
start-requires-send-F g c κs within =
    let b = c.type_bounds in
    let J : RattleType = param 4 g.row.J in
    let fault : RattleType = copied 8 g.row.L-Fault in
    let shared : RattleType = arc (Shared.the_row J g.J.Naming) in
    let shared_is = std.Arc-send (Shared.the_row J g.J.Naming) (shared_send J g.J.Naming) (shared_sync J g.J.Naming) in
    let slot_is = std.Arc-send (Slot.the_row J g.J.Naming) (search (slot.the_send, std.crosses, sendable) depth 60 fits 20000) (search (slot.the_sync, std.crosses, sendable) depth 60 fits 20000) in
    let taken : List RattleType =
    copied 7 g.row.H ∷ Global.the_row ∷ locked (param 2 g.row.L) ∷ shared ∷ arc (Slot.the_row J g.J.Naming)
    ∷ locked (param 5 g.row.R) ∷ locked (param 6 g.row.C) ∷ locked (Option.the_row fault) ∷ shared ∷ [] in
    param_send 3 _ (arg_send _ no _ (closure_send _ taken (
      search (b.send-H, sendable) depth 60 fits 20000,
      (
        std.send,
        (
          locked_send (param 2 g.row.L) b.send-L,
          (
            shared_is,
            (
              slot_is,
              (
                locked_send (param 5 g.row.R) b.send-R,
                (
                  locked_send (param 6 g.row.C) b.send-C,
                  (
                    locked_send (Option.the_row fault) (option_send fault (search (b.send-L-Fault, sendable) depth 60 fits 20000)),
                    (
                      shared_is,
                      tt,
                    ),
                  ),
                ),
              ),
            ),
          ),
        ),
      ),
    )))
