use Rattle.std.proofs.Common.{◌≡◌, true, sym, subst}
use Rattle.rq_wire.specs.Config.{ids_rise}
use Rattle.rq_wire.proofs.Rising.{read_rises}
use Rattle.rq_wire.proofs.decoding.ConfigDecode.next.Goals as goal

pub rising-requires : goal.rising-requires
rising-requires c =
    subst (λ members. ids_rise members ≡ true) (sym c.from_vec.ensures)
    (read_rises c.args.limit c.args.bytes.now c.in_ok-members.members.items c.in_ok-members.rest.now c.in_ok-members.ensures)
