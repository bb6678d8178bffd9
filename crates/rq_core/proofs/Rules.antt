-- A rule after another, and what a call leaves.
use Rattle.std.proofs.Common.{◌≡◌, Bool, true, false, cond, List, ◌∷◌, ap, sym, subst}
use Rattle.std.specs.Prelude.{◌==◌, ◌||◌, ◌-◌, ◌^◌, not}
use Rattle.rq_wire.specs.declared.config.Member.{Member}
use Rattle.rq_log.specs.declared.moves.Moves.{Moves}
use Rattle.rq_raft.specs.Entries.{Entries}
use Rattle.rq_raft.specs.Node.{RaftNode, RaftTurn, Packet, unchanged, is_leader, one_of}
use Rattle.rq_raft.specs.Lead.{voters_now}
use Rattle.rq_raft.specs.Vote.{elect, campaigns, becomes_candidate, counts, counted, vote_reply}
use Rattle.rq_log.specs.Views.{Gives}

module _ {E : Type 0} where
  pub gives_vote : (t : RaftTurn E) (n : RaftNode E) (m : Moves) (v : Bool) → Gives t n m → Gives t n (record m { vote = v })
  gives_vote t n m v g = record { node = g.node; stored = g.stored; packets = g.packets }

  pub gives_same : (t u : RaftTurn E) (n : RaftNode E) (m : Moves) → u ≡ t → Gives t n m → Gives u n m
  gives_same t u n m e g = subst (λ (x : RaftTurn E). Gives x n m) (sym e) g

module _ {E : Type 0} (entries : Entries E) (first : List Member) where
  pub elect_on : (n : RaftNode E) → (is_leader n.role || not (one_of (voters_now entries first n) n.id) || (n.term == 2 ^ 64 - 1)) ≡ false → elect entries first n ≡ campaigns entries first (becomes_candidate n)
  elect_on n f = ap (λ (b : Bool). cond b (unchanged n) (campaigns entries first (becomes_candidate n))) f

  pub vote_on : (n : RaftNode E) (p : Packet E) (granted : Bool) → counts entries first n p granted ≡ true → vote_reply entries first n p granted ≡ counted entries first (record n { votes = p.from ∷ n.votes })
  vote_on n p granted t = ap (λ (b : Bool). cond b (counted entries first (record n { votes = p.from ∷ n.votes })) (unchanged n)) t
