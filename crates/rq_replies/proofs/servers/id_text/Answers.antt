use Rattle.std.proofs.Common.{rules}
use Rattle.rq_replies.proofs.Ascii.{id_is_utf8}
use Rattle.rq_replies.proofs.servers.id_text.Goals as goal

pub from_utf8_unchecked-requires : goal.from_utf8_unchecked-requires
from_utf8_unchecked-requires c =
    let utf8 = id_is_utf8 c.args.id.now c.bytes.ensures.id in
    search rules
