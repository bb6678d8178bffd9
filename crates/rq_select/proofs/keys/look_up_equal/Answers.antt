use Rattle.rq_select.proofs.Tests.{tells_equal}
use Rattle.rq_select.proofs.keys.look_up_equal.Goals as goal

pub returns-in-Some : goal.returns-in-Some
returns-in-Some g c = tells_equal (g.T.TableView.means c.args.table.now) c.args.left.now c.args.right.now c.in-Some.place c.in-Some.value.now c.find.result c.in-Some.ensures c.find.ensures
