-- The laws of the rules, all together.
use Rattle.std.proofs.Common.{◌≡◌, refl, ◌∙◌}
use Rattle.rq_history.specs.History.{NodeId, History, now, IsEarlier}
use Rattle.rq_raft.specs.Node.{RaftNode, unchanged}
use Rattle.rq_raft.specs.Lead.{beat, propose}
use Rattle.rq_raft.specs.Deliver.{applied_next}
use Rattle.rq_raft.specs.Install.{compact}
use Rattle.rq_raft.specs.Laws.{AreMoves}
use Rattle.rq_raft.proofs.Installs.{compact_ok}
use Rattle.rq_raft.proofs.Given.{Given}
use Rattle.rq_raft.proofs.Steps.{FitsIn, voted_on, true_on, all_on}
use Rattle.rq_raft.proofs.Turns.{as_turn, quiet_rest}
use Rattle.rq_raft.proofs.Leads.{propose_ok, beat_ok, applied_ok}
use Rattle.rq_raft.proofs.Votes.{elect_ok}
use Rattle.rq_raft.proofs.Follows.{mended_term_is, mended_is}
use Rattle.rq_raft.proofs.Receives.{receive_ok, stop_ok}

module _ {E : Type 0} (g : Given E) where
  fits_on : (early late : History E) → IsEarlier early late → (i : NodeId) (n : RaftNode E) → now late i ≡ now early i → FitsIn g early i n → FitsIn g late i n
  fits_on early late later i n e f = record {
    id = f.id;
    is = e ∙ f.is;
    done = f.done;
    based = f.based;
    votes = λ a v q. voted_on early late v i n.term later (f.votes a v q);
    peers = λ a. true_on early late n.term n.log n.peers later (f.peers a);
    first = f.first;
  }

  pub are_moves : AreMoves g.entries g.first
  are_moves = record {
    elects = λ h i n l f. elect_ok g h i n l f;
    beats = λ h i n l f. as_turn g h i n (beat g.entries g.first n) l f (beat_ok g h i n l f);
    applies = λ h i n l f. as_turn g h i n (unchanged (applied_next n)) l f (applied_ok g h i n l f);
    compacts = λ h i n l f. as_turn g h i n (compact n) l f (compact_ok g h i n l f);
    idles = λ h i n l f. as_turn g h i n (unchanged n) l f (quiet_rest g h i n l f);
    proposes = λ h i n e l f term may. as_turn g h i n (propose g.entries g.first n e) l f (propose_ok g h i n e term may l f);
    receives = λ h i n moment p l f to packets_are_true. receive_ok g h i n moment p l f to packets_are_true;
    stops = λ h i n t boot k l f m. stop_ok g h i n (record { term = n.term; vote = n.vote; boot = boot; base = n.base; log = n.log }) t k l f (record { term_is = refl; vote_is = refl; base_is = refl; log_is = refl }) m;
    starts = λ h i kept f boot. record { id = f.id; is = f.is; done = f.done; based = f.based; votes = λ a. absurd (cc); peers = λ a. absurd (cc); first = λ a. absurd (cc) };
    stays = λ early late later. (λ ps a. all_on g.entries early late ps later a, λ i n e f. fits_on early late later i n e f);
    agrees = λ h i n p prev prev_term commit probe es l f packets_are_true le. (mended_term_is g h i n p prev prev_term commit es l f packets_are_true le, mended_is g h i n p prev prev_term commit es l f packets_are_true le);
  }
