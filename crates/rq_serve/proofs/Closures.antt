-- What a closure takes along may go to another thread where each part may.
use mathlib.Core.List.{List, [], ◌∷◌}
use Prim.Native.Nat.{ℕ}
use denote.RattleType.{RattleType}
use denote.Param.Send.{IsSend, IsSync, AllSend, sendable}
use denote.Param.SendFields.{FieldsHave, declared_send, as_row_send}
use denote.Struct.Field.{row_field}
use denote.Struct.Tuple.{TupleAt, type_at, parts}
use Rattle.std.proofs.option.Option.TheSendSync as option
use Rattle.std.proofs.Crossing as std
use Rattle.std.specs.contracts.alloc.Global as Global
use Rattle.std.specs.contracts.impls.GlobalAllocator.TheImpl.{ghosts}
use Rattle.std.specs.contracts.option.Option as Option
use Rattle.std.specs.contracts.sync.Arc as Arc
use Rattle.std.specs.contracts.sync.Mutex as Mutex

parts_send : (Ts : List RattleType) → AllSend Ts → FieldsHave IsSend (parts Ts)
parts_send [] s = tt
parts_send (T ∷ Ts) s = (as_row_send (row_field T) s.0, parts_send Ts s.1)

pub closure_send : (name : List ℕ) (Ts : List RattleType) → AllSend Ts → IsSend (TupleAt name Ts)
closure_send name Ts s = declared_send (type_at name Ts) (parts_send Ts s)

-- what several threads have
abbrev pub arc : RattleType → RattleType
arc T = Arc.the_row T Global.the_row ghosts

-- what several threads lock
abbrev pub locked : RattleType → RattleType
locked T = arc (Mutex.the_row T)

mutex_send : (T : RattleType) → IsSend T → IsSend (Mutex.the_row T)
mutex_send T s = search (s, std.crosses, sendable) depth 60 fits 20000

mutex_sync : (T : RattleType) → IsSend T → IsSync (Mutex.the_row T)
mutex_sync T s = search (s, std.crosses, sendable) depth 60 fits 20000

pub locked_send : (T : RattleType) → IsSend T → IsSend (locked T)
locked_send T s = std.Arc-send (Mutex.the_row T) (mutex_send T s) (mutex_sync T s)

pub option_send : (T : RattleType) → IsSend T → IsSend (Option.the_row T)
option_send T s = search (s, option.the_send, sendable) depth 60 fits 20000
