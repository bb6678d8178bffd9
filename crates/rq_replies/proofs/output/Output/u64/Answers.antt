use Rattle.std.proofs.Common.{rules}
use Rattle.json.proofs.Printed.Decimals.{IsNumber-decimal}
use Rattle.rq_replies.proofs.output.Output.u64.Goals as goal

pub token-requires : goal.token-requires
token-requires c = search (rules, IsNumber-decimal)
