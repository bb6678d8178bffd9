use Rattle.std.proofs.Common.{sym, ◌∙◌, ap}
use Rattle.rq_tokens.proofs.Adding.{adds_moves}
use Rattle.rq_tokens.proofs.history.Known.add.Goals as goal

pub compare_exchange-found-requires : goal.compare_exchange-found-requires
compare_exchange-found-requires g c =
    let h = c.args.history.now.head_is in
    let pen = c.no_pen-pen.ensures in (
      ap (λ w. w.tracked) h,
      c.requires.book,
      pen.0 ∙ c.requires.book,
      c.args.planned.plain.0 ∙ sym c.args.self.now.alone,
      rw (ap (λ w. w.key) h, pen.1, c.args.planned.plain.1) (adds_moves c.args.self.now.seen.log c.args.planned.offer.ask c.args.self.now.number (sym c.args.self.now.counted)),
    )
