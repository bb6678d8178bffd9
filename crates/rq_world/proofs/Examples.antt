-- Small runs that are computed: one node is elected and commits, and answers reads.
use Rattle.std.proofs.Common.{◌≡◌, ℕ, List, [], ◌∷◌, length, Option, Some, None, true, false, refl}
use Rattle.rq_wire.specs.declared.config.Member.{Member}
use Rattle.rq_values.specs.Spelling as spelling
use Rattle.rq_statement.specs.Statements.{Statements}
use Rattle.rq_engine.specs.Fold as engine
use Rattle.rq_request.specs.declared.say.Say.TheVariants.{Results, Queued, Refused}
use Rattle.rq_request.specs.declared.say.NodeRefusal.TheVariants.{Lost, Timeout, Stale}
use Rattle.rq_raft.specs.declared.role.Role.{Role}
use Rattle.rq_raft.specs.declared.role.Role.TheVariants.{Leader}
use Rattle.rq_request.specs.declared.ask.Level.TheVariants as level
use Rattle.rq_world.specs.World.{Op, Write, Queue, Read, Asked, Answered, NodeState, Running, Down, Ask, Elect, Beat, Flush, Apply, Compact, Deliver, Tick, At, Stop, Start, Idle, Run, First, Then, Clock, world, chosen}

-- a list of nothing
abbrev nothing : Statements
nothing = record { transaction = false; items = [] }

abbrev three : List Member
three = record { id = 97 ∷ []; voter = true; http = []; raft = [] } ∷ record { id = 98 ∷ []; voter = true; http = []; raft = [] } ∷ record { id = 99 ∷ []; voter = true; http = []; raft = [] } ∷ []

abbrev run4 : Run
run4 = Then (Then (Then First (Start (97 ∷ []) 0)) (Start (98 ∷ []) 0)) (At (97 ∷ []) Elect)

abbrev run6 : Run
run6 = Then (Then run4 (At (98 ∷ []) (Deliver 0))) (At (97 ∷ []) (Deliver 2))

abbrev run8 : Run
run8 = Then (Then run6 (At (98 ∷ []) (Deliver 3))) (At (97 ∷ []) (Deliver 5))

abbrev commit_of : NodeState → ℕ
commit_of (Running n) = n.raft.commit
commit_of (Down kept rest) = 0

abbrev role_of : NodeState → Option Role
role_of (Running n) = Some n.raft.role
role_of (Down kept rest) = None

asks : length (world three run4).sent ≡ 2
asks = refl

leads : role_of ((world three run6).nodes (97 ∷ [])) ≡ Some Leader
leads = refl

commits : commit_of ((world three run8).nodes (97 ∷ [])) ≡ 1
commits = refl

one : length (chosen three run8) ≡ 1
one = refl

-- ---- reads, of no query

abbrev linearizable : Op
linearizable = Read [] level.Linearizable None

-- asked before its least is applied: probes 6 and 7 go out
abbrev run9 : Run
run9 = Then run8 (At (97 ∷ []) (Ask 1 10000 linearizable))

-- the reply to the earlier append comes again: it counts for nothing
abbrev run10 : Run
run10 = Then run9 (At (97 ∷ []) (Deliver 5))

-- the probe is answered, but what was committed isn't applied
abbrev run12 : Run
run12 = Then (Then run10 (At (98 ∷ []) (Deliver 6))) (At (97 ∷ []) (Deliver 8))

waits : (world three run12).book ≡ Asked 1 (97 ∷ []) linearizable ∷ []
waits = refl

reads : (world three (Then run12 (At (97 ∷ []) Apply))).book ≡ Asked 1 (97 ∷ []) linearizable ∷ Answered 1 (Results []) 1 ∷ []
unfolding engine.answer engine.run
reads = refl

-- applied, but no probe was answered
early : (world three (Then run10 (At (97 ∷ []) Apply))).book ≡ Asked 1 (97 ∷ []) linearizable ∷ []
early = refl

-- a strong read is entry 2
abbrev strong : Op
strong = Read [] level.Strong None

abbrev run13 : Run
run13 = Then (Then (Then run8 (At (97 ∷ []) (Ask 1 10000 strong))) (At (98 ∷ []) (Deliver 6))) (At (97 ∷ []) (Deliver 7))

commits_strong : commit_of ((world three run13).nodes (97 ∷ [])) ≡ 2
unfolding spelling.u32_bytes
commits_strong = refl

reads_strong : (world three (Then (Then run13 (At (97 ∷ []) Apply)) (At (97 ∷ []) Apply))).book ≡ Asked 1 (97 ∷ []) strong ∷ Answered 1 (Results []) 2 ∷ []
unfolding spelling.u32_bytes engine.answer engine.run
reads_strong = refl

-- the other node stands for the next term: what waited at the old leader is lost
abbrev run14 : Run
run14 = Then (Then run9 (At (98 ∷ []) Elect)) (At (97 ∷ []) (Deliver 8))

loses : (world three run14).book ≡ Asked 1 (97 ∷ []) linearizable ∷ Answered 1 (Refused (Lost 1 2)) 0 ∷ []
loses = refl

-- freshness: node 98 heard of its leader at moment 0
abbrev fresh : ℕ → Run
fresh moment = Then (Then run8 (Clock moment)) (At (98 ∷ []) (Ask 1 10000 (Read [] level.None (Some 1000))))

within : (world three (fresh 1000)).book ≡ Asked 1 (98 ∷ []) (Read [] level.None (Some 1000)) ∷ Answered 1 (Results []) 0 ∷ []
unfolding engine.answer engine.run
within = refl

beyond : (world three (fresh 1001)).book ≡ Asked 1 (98 ∷ []) (Read [] level.None (Some 1000)) ∷ Answered 1 (Refused (Stale (Some 0) 1001 1000)) 0 ∷ []
beyond = refl

-- an ask that has waited as long as it may
times_out : (world three (Then (Then run9 (Clock 10000)) (At (97 ∷ []) Tick))).book ≡ Asked 1 (97 ∷ []) linearizable ∷ Answered 1 (Refused (Timeout 0 10000)) 0 ∷ []
times_out = refl

waits_still : (world three (Then (Then run9 (Clock 9999)) (At (97 ∷ []) Tick))).book ≡ Asked 1 (97 ∷ []) linearizable ∷ []
waits_still = refl

-- a node that is the one voter leads, commits and reads where it stands
abbrev alone : List Member
alone = record { id = 97 ∷ []; voter = true; http = []; raft = [] } ∷ []

abbrev run2 : Run
run2 = Then (Then First (Start (97 ∷ []) 0)) (At (97 ∷ []) Elect)

leads_alone : role_of ((world alone run2).nodes (97 ∷ [])) ≡ Some Leader
leads_alone = refl

commits_alone : commit_of ((world alone run2).nodes (97 ∷ [])) ≡ 1
commits_alone = refl

reads_alone : (world alone (Then (Then run2 (At (97 ∷ []) Apply)) (At (97 ∷ []) (Ask 1 10000 linearizable)))).book ≡ Asked 1 (97 ∷ []) linearizable ∷ Answered 1 (Results []) 1 ∷ []
unfolding engine.answer engine.run
reads_alone = refl

-- ---- a leader that another has followed, and doesn't know it

abbrev elected : Run
elected = Then (Then (Then (Then run8 (Start (99 ∷ []) 0)) (At (98 ∷ []) Elect)) (At (99 ∷ []) (Deliver 7))) (At (98 ∷ []) (Deliver 8))

abbrev followed : Run
followed = Then (Then (Then (Then elected (At (99 ∷ []) (Deliver 10))) (At (98 ∷ []) (Deliver 11))) (At (99 ∷ []) (Deliver 12))) (At (98 ∷ []) (Deliver 13))

commits_later : commit_of ((world three followed).nodes (98 ∷ [])) ≡ 2
commits_later = refl

abbrev wrote : Run
wrote = Then (Then (Then followed (At (98 ∷ []) (Ask 1 10000 (Write nothing false)))) (At (99 ∷ []) (Deliver 14))) (At (98 ∷ []) (Deliver 15))

commits_write : commit_of ((world three wrote).nodes (98 ∷ [])) ≡ 3
unfolding spelling.u32_bytes
commits_write = refl

-- the write is acknowledged at 3; the old leader, which has applied its one entry, reads
abbrev acknowledged : Run
acknowledged = Then (Then (Then (Then wrote (At (98 ∷ []) Apply)) (At (98 ∷ []) Apply)) (At (98 ∷ []) Apply)) (At (97 ∷ []) Apply)

abbrev asks_old : Run
asks_old = Then (Then acknowledged (At (97 ∷ []) (Ask 2 10000 linearizable))) (At (97 ∷ []) (Ask 3 10000 (Read [] level.Weak None)))

-- neither the replies of its own term that come again ..
abbrev replied_again : Run
replied_again = Then (Then asks_old (At (97 ∷ []) (Deliver 5))) (At (97 ∷ []) (Deliver 2))

-- .. nor time make the pass ready: the weak read answers the old value, the linearizable one is not answered
deposed : (world three (Then (Then replied_again (Clock 10000)) (At (97 ∷ []) Tick))).book
    ≡ Asked 1 (98 ∷ []) (Write nothing false) ∷ Answered 1 (Results []) 3 ∷ Asked 2 (97 ∷ []) linearizable ∷ Asked 3 (97 ∷ []) (Read [] level.Weak None) ∷ Answered 3 (Results []) 1 ∷ Answered 2 (Refused (Timeout 0 10000)) 1 ∷ []
unfolding spelling.u32_bytes engine.answer engine.run
deposed = refl

-- ---- a new leader's read waits for its term's first entry

abbrev first_write : Run
first_write = Then (Then (Then (Then (Then run8 (At (97 ∷ []) (Ask 1 10000 (Write nothing false)))) (At (98 ∷ []) (Deliver 6))) (At (97 ∷ []) (Deliver 7))) (At (97 ∷ []) Apply)) (At (97 ∷ []) Apply)

abbrev new_leader : Run
new_leader = Then (Then (Then (Then first_write (Start (99 ∷ []) 0)) (At (98 ∷ []) Elect)) (At (99 ∷ []) (Deliver 9))) (At (98 ∷ []) (Deliver 10))

not_yet : (world three (Then (Then (Then (Then new_leader (At (98 ∷ []) (Ask 2 10000 linearizable))) (At (99 ∷ []) (Deliver 14))) (At (98 ∷ []) (Deliver 15))) (At (98 ∷ []) Apply))).book
    ≡ Asked 1 (97 ∷ []) (Write nothing false) ∷ Answered 1 (Results []) 2 ∷ Asked 2 (98 ∷ []) linearizable ∷ []
unfolding spelling.u32_bytes engine.answer engine.run
not_yet = refl

-- ---- queued writes, at one voter

-- one without wait and one with it
abbrev queued2 : Run
queued2 = Then (Then (Then (Then (Then First (Start (97 ∷ []) 0)) (At (97 ∷ []) Elect)) (At (97 ∷ []) Apply)) (At (97 ∷ []) (Ask 1 10000 (Queue nothing false)))) (At (97 ∷ []) (Ask 2 10000 (Queue nothing true)))

immediate_answer : (world alone queued2).book ≡ Asked 1 (97 ∷ []) (Queue nothing false) ∷ Answered 1 (Queued 1) 1 ∷ Asked 2 (97 ∷ []) (Queue nothing true) ∷ []
unfolding spelling.u32_bytes
immediate_answer = refl

-- one entry more, and the second is answered at its apply
flushes : (world alone (Then (Then queued2 (At (97 ∷ []) Flush)) (At (97 ∷ []) Apply))).book ≡ Asked 1 (97 ∷ []) (Queue nothing false) ∷ Answered 1 (Queued 1) 1 ∷ Asked 2 (97 ∷ []) (Queue nothing true) ∷ Answered 2 (Queued 2) 2 ∷ []
unfolding spelling.u32_bytes
flushes = refl

batch : length (chosen alone (Then queued2 (At (97 ∷ []) Flush))) ≡ 2
unfolding spelling.u32_bytes
batch = refl

-- it times out, stays in the queue, and isn't answered again
late : (world alone (Then (Then (Then (Then queued2 (Clock 10000)) (At (97 ∷ []) Tick)) (At (97 ∷ []) Flush)) (At (97 ∷ []) Apply))).book ≡ Asked 1 (97 ∷ []) (Queue nothing false) ∷ Answered 1 (Queued 1) 1 ∷ Asked 2 (97 ∷ []) (Queue nothing true) ∷ Answered 2 (Refused (Timeout 0 10000)) 1 ∷ []
unfolding spelling.u32_bytes
late = refl

still_a_batch : length (chosen alone (Then (Then (Then queued2 (Clock 10000)) (At (97 ∷ []) Tick)) (At (97 ∷ []) Flush))) ≡ 2
unfolding spelling.u32_bytes
still_a_batch = refl

-- a stop before the flush loses both, and the numbers begin again
again : (world alone (Then (Then (Then (Then queued2 (Stop (97 ∷ []) Idle 0)) (Start (97 ∷ []) 0)) (At (97 ∷ []) Elect)) (At (97 ∷ []) (Ask 3 10000 (Queue nothing false))))).book ≡ Asked 1 (97 ∷ []) (Queue nothing false) ∷ Answered 1 (Queued 1) 1 ∷ Asked 2 (97 ∷ []) (Queue nothing true) ∷ Asked 3 (97 ∷ []) (Queue nothing false) ∷ Answered 3 (Queued 1) 0 ∷ []
unfolding spelling.u32_bytes
again = refl

-- ---- snapshots

abbrev base_of : NodeState → ℕ
base_of (Running n) = n.raft.base
base_of (Down kept rest) = kept.base

abbrev applied_of : NodeState → ℕ
applied_of (Running n) = n.raft.applied
applied_of (Down kept rest) = 0

-- a node that compacted and starts again has committed and applied what its snapshot has
abbrev compacted : Run
compacted = Then (Then (Then run2 (At (97 ∷ []) Apply)) (At (97 ∷ []) Compact)) (Stop (97 ∷ []) Idle 0)

starts_there : applied_of ((world alone (Then compacted (Start (97 ∷ []) 0))).nodes (97 ∷ [])) ≡ 1
starts_there = refl

-- a stop within the replacement leaves the old base
stops_before : base_of ((world alone (Then (Then run2 (At (97 ∷ []) Apply)) (Stop (97 ∷ []) Compact 0))).nodes (97 ∷ [])) ≡ 0
stops_before = refl

stops_behind : base_of ((world alone (Then (Then run2 (At (97 ∷ []) Apply)) (Stop (97 ∷ []) Compact 1))).nodes (97 ∷ [])) ≡ 1
stops_behind = refl

-- a third node comes late: the beat's packet to it is the snapshot
abbrev beaten : Run
beaten = Then (Then (Then (Then run8 (At (97 ∷ []) Apply)) (At (97 ∷ []) Compact)) (Start (99 ∷ []) 0)) (At (97 ∷ []) Beat)

installs : applied_of ((world three (Then beaten (At (99 ∷ []) (Deliver 7)))).nodes (99 ∷ [])) ≡ 1
installs = refl

-- its term and vote stand before the new base
half : base_of ((world three (Then beaten (Stop (99 ∷ []) (Deliver 7) 1))).nodes (99 ∷ [])) ≡ 0
half = refl

whole : base_of ((world three (Then beaten (Stop (99 ∷ []) (Deliver 7) 2))).nodes (99 ∷ [])) ≡ 1
whole = refl

-- its reply makes a pass ready: the read begun before the beat is answered by it
reads_by_snapshot : (world three (Then (Then (Then (Then (Then (Then (Then run8 (At (97 ∷ []) Apply)) (At (97 ∷ []) Compact)) (Start (99 ∷ []) 0)) (At (97 ∷ []) (Ask 1 10000 linearizable))) (At (97 ∷ []) Beat)) (At (99 ∷ []) (Deliver 9))) (At (97 ∷ []) (Deliver 10)))).book ≡ Asked 1 (97 ∷ []) linearizable ∷ Answered 1 (Results []) 1 ∷ []
unfolding engine.answer engine.run
reads_by_snapshot = refl
