use Rattle.std.proofs.Common.{◌+◌, ◌++◌, List, ℕ, length, sym, subst, arith, inl, inr}
use Rattle.rq_cluster.specs.Feed.{After}
use Rattle.rq_cluster.proofs.Cutting.{bytes_held, over_out, between}
use Rattle.rq_cluster.proofs.feeding.hold.Goals as goal

pub returns-then-count-progress-clause-outside : goal.returns-then-count-progress-clause-outside
returns-then-count-progress-clause-outside c is rest read text w s =
    let sh = c.args.progress.now in
    over_out c.args.bytes.now rest read text w sh.number sh.held.items sh.read s c.requires (omega (arith, sh.within, c.if-count-progress.true)) (inr (omega (arith, sh.within, c.if-count-progress.true)))

pub returns-then-count-progress-clause-part : goal.returns-then-count-progress-clause-part
returns-then-count-progress-clause-part c rest read text w s =
    let sh = c.args.progress.now in
    between read text w sh.number sh.held.items sh.read s (c.args.bytes.now ++ rest)

pub returns-then-len-bytes-clause-outside : goal.returns-then-len-bytes-clause-outside
returns-then-len-bytes-clause-outside c is rest read text w s =
    let sh = c.args.progress.now in
    over_out c.args.bytes.now rest read text w sh.number sh.held.items sh.read s c.requires (omega (arith, sh.held.ok.0, c.len.ensures, c.if-len-bytes.true)) (inl (omega (arith, sh.held.ok.0, c.len.ensures, c.if-len-bytes.true)))

pub returns-then-len-bytes-clause-part : goal.returns-then-len-bytes-clause-part
returns-then-len-bytes-clause-part c rest read text w s =
    let sh = c.args.progress.now in
    between read text w sh.number sh.held.items sh.read s (c.args.bytes.now ++ rest)

pub returns-in-Err-clause-part : goal.returns-in-Err-clause-part
returns-in-Err-clause-part c rest read text w s =
    let sh = c.args.progress.now in
    between read text w sh.number sh.held.items sh.read s (c.args.bytes.now ++ rest)

pub returns-in-Ok-clause-ok : goal.returns-in-Ok-clause-ok
returns-in-Ok-clause-ok c read text w s =
    let sh = c.args.progress.now in
    let bytes = c.args.bytes.now in
    subst (λ (h : List ℕ). After (read ++ bytes) text w sh.number h (sh.read + length bytes)) (sym c.in-Ok.ensures.items) (bytes_held bytes read text w sh.number sh.held.items sh.read s c.requires)
