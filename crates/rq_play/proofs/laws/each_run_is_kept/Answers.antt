use Rattle.rq_play.proofs.Numbering.{runs_are_counted, runs_are_numbered, have_places}
use Rattle.rq_play.proofs.laws.each_run_is_kept.Goals as goal

pub returns : goal.returns
returns c = λ words lines said cluster run.
    let counted = runs_are_counted words lines said cluster run in
    let places = c.each_write_has_its_place.ensures cluster.first cluster.run counted.apart in
    record {
      numbered = runs_are_numbered words lines said cluster run;
      apart = counted.apart;
      keeps = c.each_moment_is_kept.ensures cluster.first cluster.run counted.apart;
      places = places;
      acknowledged = have_places cluster counted.rising places;
      asked = c.each_list_was_asked.ensures cluster.first cluster.run;
      appends = c.each_ask_appends_once.ensures cluster.first cluster.run counted.apart;
      behind = (c.each_ask_is_answered_once.ensures cluster.first).1 cluster.run counted.apart;
      once = (c.each_ask_is_answered_once.ensures cluster.first).0 cluster.run counted.apart;
    }
