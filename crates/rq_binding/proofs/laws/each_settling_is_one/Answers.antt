use Rattle.rq_binding.proofs.Whole.{settled_one}
use Rattle.rq_binding.proofs.laws.each_settling_is_one.Goals as goal

pub returns : goal.returns
returns c = settled_one c.each_moment_shows_one.ensures
