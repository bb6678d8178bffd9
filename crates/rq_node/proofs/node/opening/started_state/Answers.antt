use Rattle.std.proofs.Common.{◌≡◌, ◌∙◌, ◌+◌, map, sym, arith}
use Rattle.rq_node.specs.Files.{stored_entry}
use Rattle.rq_node.specs.declared.role.Role.TheVariants.{Follower}
use Rattle.rq_node.proofs.node.opening.started_state.Goals as goal

pub returns-clause-from : goal.returns-clause-from
returns-clause-from c =
    let stored = c.args.stored in
    let entries : stored.entries ≡ map stored_entry c.in_ok-log.log.items = sym c.as_slice.ensures ∙ c.in_ok-log.ensures.spelled in (
      record { term = stored.term; vote = stored.vote; boot = stored.boot; log = c.in_ok-log.log.items },
      (λ i. record {
        id = c.args.id;
        term = stored.term;
        vote = stored.vote;
        boot = stored.boot + 1;
        log = c.in_ok-log.log.items;
        commit = 0;
        applied = 0;
        role = Follower;
        waiting = c.new.ensures.items i;
        replica = c.in_ok-replica.ensures i;
      }),
      λ base. λ i. record { base = base i; term = stored.term; vote = stored.vote; boot = stored.boot; entries = entries i },
      c.in_ok-log.ensures.readable,
      omega (arith, c.if-stored-ge-MOST_BOOTS.false),
    )
