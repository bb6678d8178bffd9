use Rattle.std.proofs.Common.{◌≡◌, ℕ, ◌<◌}
use Rattle.rq_queue.proofs.queue.+drop_front.Given as goal

abbrev pub decreases-drop_front : goal.decreases-drop_front
decreases-drop_front g l = l.count
