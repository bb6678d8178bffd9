use Rattle.std.proofs.Common.{◌≡◌, ◌+◌, ◌∙◌, [], map, sym, refl}
use Rattle.rq_world.specs.Node.{replica_of}
use Rattle.rq_member.specs.Files.{stored_entry}
use Rattle.rq_member.specs.Held.{Held}
use Rattle.rq_member.proofs.Openings.{IsFrom, ok_more, kept_in, started_as, stored_as}
use Rattle.rq_member.proofs.node.State.started.Goals as goal

pub returns-in-Ok-copy-clause-from : goal.returns-in-Ok-copy-clause-from
returns-in-Ok-copy-clause-from g c =
    let first = c.args.first.now in
    let stored = c.args.stored in
    let log = c.in-Ok.log.items in
    let entries : stored.entries ≡ map stored_entry log = sym c.as_slice.ensures ∙ c.in-Ok.ensures.spelled in
    ok_more c.over.result
    (λ (s : Held). s.node ≡ record { raft = c.new.result.node; boot = stored.boot + 1; waiting = []; pending_reads = []; queue = []; last = 0; replica = replica_of first [] })
    (λ (s : Held). IsFrom first c.args.id stored s.node)
    (λ s is. (kept_in stored log, started_as first c.args.id stored log c.new.result.node s.node c.new.ensures.node is, refl, stored_as first stored log entries, c.in-Ok.ensures.readable, c.if-boot-ge-MOST_BOOTS.false))
    c.over.ensures.node
