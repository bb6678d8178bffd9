use Rattle.rq_moments.proofs.One.{one}
use Rattle.rq_moments.proofs.laws.each_moment_shows_one.Goals as goal

pub returns : goal.returns
returns c = one
