use Rattle.std.proofs.Common.{◌<◌, ◌^◌, arith}
use Rattle.rq_values.specs.declared.limits.TheConstants.{MAX_COMMAND}
use Rattle.rq_command.proofs.Told.{all_bytes}
use Rattle.rq_command.proofs.AnyCommand.{taken, found}
use Rattle.rq_command.proofs.commands.decode_command.Goals as goal

pub returns-clause-ok : goal.returns-clause-ok
returns-clause-ok c = taken c.each_text_is_read_as_one.ensures.some MAX_COMMAND c.args.bytes.now (all_bytes c.args.bytes.now c.type_inv.bytes) c.decode_whole.result c.decode_whole.ensures

pub returns-clause-complete : goal.returns-clause-complete
returns-clause-complete c =
    let small : MAX_COMMAND < 2 ^ 32 = omega arith in
    found c.each_text_is_read_as_one.ensures.some MAX_COMMAND c.args.bytes.now (all_bytes c.args.bytes.now c.type_inv.bytes) c.each_text_is_read_as_one.ensures.one c.settled_text_is_read.ensures.read small c.decode_whole.result c.decode_whole.ensures
