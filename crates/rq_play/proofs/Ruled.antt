-- Whatever a request asks for has a rule.
use Rattle.std.proofs.Common.{◌≡◌, Bool, true, false, if◌then◌else◌, List, refl}
use Rattle.std.specs.Prelude.{is_some}
use Rattle.rq_statement.specs.declared.item.Item.{Item}
use Rattle.rq_request.specs.declared.ask.Op.{Op as AskOp}
use Rattle.rq_route.specs.declared.path.Path.{Path}
use Rattle.rq_route.specs.declared.path.Path.TheVariants as path
use Rattle.rq_route.specs.declared.request.Request.{Request}
use Rattle.rq_asking.specs.Asked.{op_at, has_write, written, read_at}
use Rattle.rq_play.specs.Promise.{HasRule}

pub ruled : (p : Path) (q : Request) (items : List Item) → HasRule (op_at p q items)
ruled path.Execute q items = refl
ruled path.Query q items = refl
ruled path.Request q items = by (has_write items)
  where
    by : (b : Bool) → HasRule (if b then written q items true else read_at q items)
    by true = refl
    by false = refl
