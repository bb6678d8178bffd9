-- A packet that comes in.
use Rattle.std.proofs.Common.{◌≡◌, ℕ, ◌<◌, ◌≤◌, ◌&&◌, not, Bool, true, false, cond, List, [], ◌∷◌, ◌++◌, length, Some, None, refl, sym, ap, ◌∙◌, subst, arith}
use Rattle.std.specs.Prelude.{◌==◌, nat_lt, nat_le, bytes_eq}
use Rattle.std.specs.Cmp.Lexicographic.{bytes_decides}
use Rattle.std.proofs.lemmas.Bool.Decides.{nat_tests}
use Rattle.rq_wire.specs.declared.config.Member.{Member}
use Rattle.rq_wire.specs.declared.entry.Entry.{Entry}
use Rattle.rq_log.specs.declared.packet.Packet.{Packet as InPacket}
use Rattle.rq_log.specs.declared.packet.Message.{Message as InMessage}
use Rattle.rq_log.specs.declared.packet.Message.TheVariants as message
use Rattle.rq_log.specs.Incoming.{packet_in, message_in}
use Rattle.rq_raft.specs.declared.peer.Peer.{Peer}
use Rattle.rq_raft.specs.Node.{RaftNode, RaftTurn, Packet, is_leader, has_peer, unchanged as raft_unchanged}
use Rattle.rq_raft.specs.Lead.{append_reply, replied, takes_reply}
use Rattle.rq_raft.specs.declared.role.Role.TheVariants.{Follower}
use Rattle.rq_raft.specs.Vote.{higher_term}
use Rattle.rq_raft.specs.Deliver as deliver
use Rattle.rq_world.specs.declared.log_entry.LogEntry.{LogEntry}
use Rattle.rq_world.specs.Node.{Node, Turn, log_entries, unchanged}
use Rattle.rq_world.specs.Rules.{counts, raft_turn, steps_down, stays_on, reads, receive, with_reads}
use Rattle.rq_member.specs.Counted.{IsCounted}
use Rattle.rq_member.specs.Files.{AreReadable}
use Rattle.rq_member.specs.Turned.{IsMessage, IsPacket}
use Rattle.rq_member.proofs.Rules.{IsMessageReadable}

-- the entries of what was read can be read again
pub message_readable : (p : InMessage Entry) (q : InMessage LogEntry) → IsMessage p q → IsMessageReadable q
message_readable (message.VoteAsk index term) q is = subst IsMessageReadable (sym is) tt
message_readable (message.VoteSay granted) q is = subst IsMessageReadable (sym is) tt
message_readable (message.AppendSay ok at probe) q is = subst IsMessageReadable (sym is) tt
message_readable (message.Append prev prev_term commit probe entries) q is = subst IsMessageReadable (sym is.1) is.3

-- a rule that leaves the term, the vote and the role, and stores nothing
pub record Rests (n : RaftNode LogEntry) (t : RaftTurn LogEntry) : Type 0 where
  pub term : t.node.term ≡ n.term
  pub vote : t.node.vote ≡ n.vote
  pub role : t.node.role ≡ n.role
  pub stored : t.stored ≡ []

both : (a b : Bool) → (a && b) ≡ true → (a ≡ true) × (b ≡ true)
both true b is = (refl, is)
both false b is = absurd (cc)

not_higher : (m n : ℕ) → (m == n) ≡ true → nat_lt n m ≡ false
not_higher m n is = grind (arith, nat_tests)

module _ (first : List Member) where
  rests_reply : (n : RaftNode LogEntry) (p : Packet LogEntry) (ok : Bool) (at probe : ℕ) → Rests n (append_reply log_entries first n p ok at probe)
  rests_reply n p ok at probe = by (is_leader n.role && takes_reply n p at) ok
    where
      by : (b ok : Bool) → Rests n (cond b (replied log_entries first n p.from ok at probe) (raft_unchanged n))
      by true true = record { term = refl; vote = refl; role = refl; stored = refl }
      by true false = record { term = refl; vote = refl; role = refl; stored = refl }
      by false ok = record { term = refl; vote = refl; role = refl; stored = refl }

  rests_say : (n : Node) (moment : ℕ) (p : InPacket LogEntry) (m : InMessage LogEntry) (ok : Bool) (at probe : ℕ) → m ≡ message.AppendSay ok at probe → (p.term == n.raft.term) ≡ true
      → Rests n.raft (deliver.receive log_entries first n.raft moment (record { term = p.term; from = p.from; to = p.to; message = message_in m }))
  rests_say n moment p m ok at probe is term =
      let q : Packet LogEntry = record { term = p.term; from = p.from; to = p.to; message = message_in (message.AppendSay ok at probe) } in
      subst (λ (s : InMessage LogEntry). Rests n.raft (deliver.receive log_entries first n.raft moment (record { term = p.term; from = p.from; to = p.to; message = message_in s }))) (sym is)
      (subst (λ (k : RaftNode LogEntry). Rests n.raft (append_reply log_entries first k q ok at probe)) (sym (raise (not_higher p.term n.raft.term term))) (rests_reply n.raft q ok at probe))
    where
      raise : nat_lt n.raft.term p.term ≡ false → higher_term n.raft p.term ≡ n.raft
      raise is = λ i. cond (is i) (record n.raft { term = p.term; vote = None; role = Follower; leader = None; votes = []; peers = [] }) n.raft

  pub counted_rests : (n : Node) (moment : ℕ) (p : InPacket LogEntry) → IsCounted first n p → Rests n.raft (deliver.receive log_entries first n.raft moment (packet_in p))
  counted_rests n moment p c =
      let one = both (is_leader n.raft.role) (takes_reply n.raft (packet_in p) c.at) c.counts in
      let two = term_of one.1 in
      rests_say n moment p p.message c.ok c.at c.probe c.says two
    where
      term_of : takes_reply n.raft (packet_in p) c.at ≡ true → (p.term == n.raft.term) ≡ true
      term_of is = (both (p.term == n.raft.term) (has_peer (λ (q : Peer). true) n.raft.peers p.from) (both ((p.term == n.raft.term) && has_peer (λ (q : Peer). true) n.raft.peers p.from) (nat_le c.at (length n.raft.log)) is).0).0

  -- it stays the leader that it is
  pub rests_on : (n : Node) (t : RaftTurn LogEntry) → is_leader n.raft.role ≡ true → Rests n.raft t → raft_turn n t ≡ stays_on n t
  rests_on n t leads rests =
      let on : is_leader t.node.role ≡ true = ap is_leader rests.role ∙ leads in
      ap (λ (b : Bool). cond (b && not (is_leader t.node.role)) (steps_down n t) (stays_on n t)) leads
      ∙ ap (λ (b : Bool). cond (not b) (steps_down n t) (stays_on n t)) on

  pub counted_leads : (n : Node) (p : InPacket LogEntry) → IsCounted first n p → is_leader n.raft.role ≡ true
  counted_leads n p c = (both (is_leader n.raft.role) (takes_reply n.raft (packet_in p) c.at) c.counts).0

  pub receive_is : (n : Node) (moment : ℕ) (p : InPacket LogEntry) (b : Bool) → p.to ≡ n.raft.id → ((t : Turn) → with_reads first n (packet_in p) (packet_in p).message t ≡ cond b (reads first t) t)
      → receive first n moment (Some (packet_in p)) ≡ cond b (reads first (raft_turn n (deliver.receive log_entries first n.raft moment (packet_in p)))) (raft_turn n (deliver.receive log_entries first n.raft moment (packet_in p)))
  receive_is n moment p b here so =
      let t = raft_turn n (deliver.receive log_entries first n.raft moment (packet_in p)) in
      ap (λ (x : Bool). cond x (with_reads first n (packet_in p) (packet_in p).message t) (unchanged n)) ((bytes_decides p.to n.raft.id).1 here) ∙ so t
