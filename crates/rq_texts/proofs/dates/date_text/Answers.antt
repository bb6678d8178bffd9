use Rattle.rq_texts.proofs.TimeTexts.{ten_taken, date_read}
use Rattle.rq_texts.proofs.dates.date_text.Goals as goal

pub slice_bounds-known_text-end : goal.slice_bounds-known_text-end
slice_bounds-known_text-end c = ten_taken c.bytes-bytes.result.now c.args.text.now c.bytes-bytes.ensures.bytes c.requires

pub known_text-requires : goal.known_text-requires
known_text-requires c = date_read c.bytes-bytes.result.now c.args.text.now c.bytes-bytes.ensures.bytes c.bytes-bytes.ensures.text c.requires
