-- Send, Commit, and the rules of a leader: docs/RAFT.md, "Send", "Commit", "Propose", "Beat", "Leading", "Append reply".
use Rattle.std.specs.Prelude.{ℕ, ◌+◌, ◌-◌, ◌*◌, ◌==◌, nat_lt, nat_le, max, not, ◌&&◌, if◌then◌else◌, bytes_eq, Bool, true, false, Option, Some, None, List, [], ◌∷◌, ◌++◌, length, take, drop, count_by, map, filter}
use Rattle.rq_wire.specs.declared.config.Member.{Member}
use Rattle.rq_history.specs.History.{NodeId, term_at}
use Rattle.rq_history.specs.Configurations.{greatest}
use Rattle.rq_raft.specs.declared.role.Role.TheVariants.{Leader}
use Rattle.rq_raft.specs.Entries.{Entries, entry_view, voters, configuration}
use Rattle.rq_raft.specs.declared.peer.Peer.{Peer}
use Rattle.rq_raft.specs.Node.{RaftNode, Message, Append, Install, Packet, Splice, RaftTurn, unchanged, packet, is_leader, has_peer, with_peer}

-- ---- words of Send

-- the probe that each gets is in flight
abbrev pub in_flight : (Peer → Bool) → ℕ → List Peer → List Peer
in_flight wanted probe [] = []
in_flight wanted probe (p ∷ ps) = if wanted p then record p { flight = Some (probe + 1) } ∷ in_flight wanted (probe + 1) ps else p ∷ in_flight wanted probe ps

abbrev pub probe_after : (Peer → Bool) → ℕ → List Peer → ℕ
probe_after wanted probe [] = probe
probe_after wanted probe (p ∷ ps) = if wanted p then probe_after wanted (probe + 1) ps else probe_after wanted probe ps

-- nothing is in flight
abbrev pub is_idle : Option ℕ → Bool
is_idle None = true
is_idle (Some probe) = false

-- ---- words of Commit

-- more than half
abbrev pub is_quorum : List NodeId → (NodeId → Bool) → Bool
is_quorum vs in_set = nat_lt (length vs) (2 * count_by in_set vs)

-- the node itself holds its log, another voter up to its match
abbrev pub holds : {E : Type 0} → RaftNode E → ℕ → NodeId → Bool
holds n index v = if bytes_eq v n.id then true else has_peer (λ (p : Peer). nat_le index p.matched) n.peers v

-- ---- words of a leader's rules

-- an entry is appended
abbrev pub appended : {E : Type 0} → RaftNode E → E → RaftTurn E
appended n e = record { node = record n { log = n.log ++ e ∷ [] }; stored = Splice (length n.log + 1) (e ∷ []) ∷ []; packets = [] }

-- the tables of the other members
abbrev pub tables : NodeId → ℕ → List Member → List Peer
tables id next members = map (λ (m : Member). record { id = m.id; next = next; matched = 0; acked = 0; flight = None }) (filter (λ (m : Member). not (bytes_eq m.id id)) members)

-- what is known of a member: its table, or, where there is none, nothing yet
abbrev pub peer_for : ℕ → List Peer → NodeId → Peer
peer_for next [] m = record { id = m; next = next; matched = 0; acked = 0; flight = None }
peer_for next (p ∷ ps) m = if bytes_eq p.id m then p else peer_for next ps m

-- the tables of a leader that appends a configuration: who stays keeps its table, and who leaves has none
abbrev pub tables_for : NodeId → ℕ → List Peer → List Member → List Peer
tables_for id next peers members = map (λ (m : Member). peer_for next peers m.id) (filter (λ (m : Member). not (bytes_eq m.id id)) members)

-- that one appends an entry with these members, or with none
abbrev pub tables_after : NodeId → ℕ → List Peer → Option (List Member) → List Peer
tables_after id next peers None = peers
tables_after id next peers (Some members) = tables_for id next peers members

-- this probe is in flight
abbrev pub same_flight : Option ℕ → ℕ → Bool
same_flight None probe = false
same_flight (Some f) probe = f == probe

-- the peer has the log up to `at`
abbrev pub after_ok : ℕ → ℕ → Peer → Peer
after_ok at probe old = record old {
  next = max old.next (max old.matched at + 1);
  matched = max old.matched at;
  acked = max old.acked probe;
  flight = if same_flight old.flight probe then None else old.flight;
}

-- the peer has no more than the log up to `at`
abbrev pub after_no : ℕ → ℕ → Peer → Peer
after_no at probe old = record old {
  next = if same_flight old.flight probe then max (old.matched + 1) (at + 1) else old.next;
  acked = max old.acked probe;
}

-- it waits for nothing, and there is more to send
abbrev pub wants_more : NodeId → ℕ → Peer → Bool
wants_more from last p = bytes_eq p.id from && is_idle p.flight && nat_le p.next last

abbrev pub waits_for : NodeId → ℕ → Peer → Bool
waits_for from probe p = bytes_eq p.id from && same_flight p.flight probe

-- at a leader of that term, from another member, where `at` is within its log
abbrev pub takes_reply : {E : Type 0} → RaftNode E → Packet E → ℕ → Bool
takes_reply n p at = (p.term == n.term) && has_peer (λ (q : Peer). true) n.peers p.from && nat_le at (length n.log)

module _ {E : Type 0} (entries : Entries E) (first : List Member) where
  abbrev pub voters_now : RaftNode E → List NodeId
  voters_now n = voters (configuration entries first n.log)

  -- ---- Send

  -- what is sent to a peer: the entries from its next index on, as many as fit
  abbrev pub append_for : RaftNode E → ℕ → Peer → Message E
  append_for n probe p = Append (p.next - 1) (term_at (entry_view entries) n.log (p.next - 1)) n.commit probe (take (entries.fit (drop (p.next - 1) n.log)) (drop (p.next - 1) n.log))

  -- a peer that needs an entry of the snapshot gets the snapshot
  abbrev pub message_for : RaftNode E → ℕ → Peer → Message E
  message_for n probe p = if nat_lt (p.next - 1) n.base then Install probe (take n.base n.log) else append_for n probe p

  abbrev pub sends : RaftNode E → (Peer → Bool) → ℕ → List Peer → List (Packet E)
  sends n wanted probe [] = []
  sends n wanted probe (p ∷ ps) = if wanted p then packet n p.id (message_for n (probe + 1) p) ∷ sends n wanted (probe + 1) ps else sends n wanted probe ps

  -- Send to each peer that is wanted, in their order
  abbrev pub send : (Peer → Bool) → RaftTurn E → RaftTurn E
  send wanted t = record t {
    node = record t.node { probe = probe_after wanted t.node.probe t.node.peers; peers = in_flight wanted t.node.probe t.node.peers };
    packets = t.packets ++ sends t.node wanted t.node.probe t.node.peers;
  }

  -- ---- Commit

  abbrev pub may_commit : RaftNode E → ℕ → Bool
  may_commit n index = (term_at (entry_view entries) n.log index == n.term) && is_quorum (voters_now n) (holds n index)

  -- the greatest index of this term that a quorum holds
  abbrev pub committed : RaftTurn E → RaftTurn E
  committed t = record t { node = record t.node { commit = greatest (may_commit t.node) t.node.commit (length t.node.log - t.node.commit) } }

  -- ---- rules

  -- a leader's tables follow a configuration that it appends; the next index of who is new is the entry's
  abbrev pub followed : RaftNode E → E → RaftNode E
  followed n e = record n { peers = tables_after n.id (length n.log + 1) n.peers (entries.members_of e) }

  -- Propose: an entry of its term is appended at a leader, and goes to each peer that waits for none
  abbrev pub propose : RaftNode E → E → RaftTurn E
  propose n e = if is_leader n.role then committed (send (λ (p : Peer). is_idle p.flight) (appended (followed n e) e)) else unchanged n

  -- Beat: a leader sends to all
  abbrev pub beat : RaftNode E → RaftTurn E
  beat n = if is_leader n.role then send (λ p. true) (unchanged n) else unchanged n

  -- Leading: new tables, and the term's empty entry to all
  abbrev pub becomes_leader : RaftNode E → RaftNode E
  becomes_leader n = record n {
    role = Leader;
    leader = Some n.id;
    probe = 0;
    first_index = length n.log + 1;
    peers = tables n.id (length n.log + 1) (configuration entries first n.log);
  }

  abbrev pub leading : RaftNode E → RaftTurn E
  leading n = committed (send (λ p. true) (appended (becomes_leader n) (entries.empty n.term)))

  -- Append reply
  abbrev pub replied : RaftNode E → NodeId → Bool → ℕ → ℕ → RaftTurn E
  replied n from true at probe = send (wants_more from (length n.log)) (committed (unchanged (record n { peers = with_peer (after_ok at probe) from n.peers })))
  replied n from false at probe = send (waits_for from probe) (unchanged (record n { peers = with_peer (after_no at probe) from n.peers }))

  abbrev pub append_reply : RaftNode E → Packet E → Bool → ℕ → ℕ → RaftTurn E
  append_reply n p ok at probe = if is_leader n.role && takes_reply n p at then replied n p.from ok at probe else unchanged n
