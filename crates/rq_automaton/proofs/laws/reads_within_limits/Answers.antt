use Rattle.rq_automaton.proofs.Stops.{limited_sound, limited_stops}
use Rattle.rq_automaton.proofs.laws.reads_within_limits.Goals as goal

pub returns-clause-sound : goal.returns-clause-sound
returns-clause-sound c = limited_sound

pub returns-clause-stops : goal.returns-clause-stops
returns-clause-stops c = limited_stops
