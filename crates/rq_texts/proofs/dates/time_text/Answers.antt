use Rattle.rq_texts.proofs.TimeTexts.{time_read}
use Rattle.rq_texts.proofs.dates.time_text.Goals as goal

pub known_text-requires : goal.known_text-requires
known_text-requires c = time_read c.bytes-bytes.result.now c.args.text.now c.bytes-bytes.ensures.bytes c.bytes-bytes.ensures.text c.requires c.if-has_time.ensures
