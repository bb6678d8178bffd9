use Rattle.std.proofs.Common.{rules}
use Rattle.rq_replies.proofs.Ascii.{address_is_utf8}
use Rattle.rq_replies.proofs.servers.address_text.Goals as goal

pub from_utf8_unchecked-requires : goal.from_utf8_unchecked-requires
from_utf8_unchecked-requires c =
    let utf8 = address_is_utf8 c.args.address.now c.bytes.ensures.addr in
    search rules
