-- Counts over members and peers, and to whom something is sent.
use Rattle.std.specs.Prelude.{ℕ, nat_lt, nat_le, max, bytes_eq, if◌then◌else◌, fold, Bool, true, false, List}
use Rattle.rq_history.specs.History.{NodeId}
use Rattle.rq_raft.specs.declared.peer.Peer.{Peer}
use Rattle.rq_log.specs.declared.recipients.Recipients.{Recipients}
use Rattle.rq_log.specs.declared.recipients.Recipients.TheVariants.{All, Idle, More, Waits}
use Rattle.rq_raft.specs.Node.{has_peer}
use Rattle.rq_raft.specs.Lead.{is_idle, wants_more, waits_for, after_ok, after_no}

abbrev pub holds_in : List Peer → NodeId → ℕ → NodeId → Bool
holds_in peers own index v = if bytes_eq v own then true else has_peer (λ (p : Peer). nat_le index p.matched) peers v

abbrev pub confirms_in : List Peer → NodeId → ℕ → NodeId → Bool
confirms_in peers own mark v = if bytes_eq v own then true else has_peer (λ (p : Peer). nat_lt mark p.acked) peers v

-- the greatest match below an index
abbrev pub lower_of : ℕ → ℕ → Peer → ℕ
lower_of index best p = if nat_lt p.matched index then max best p.matched else best

abbrev pub lower_match : ℕ → List Peer → ℕ
lower_match index ps = fold (lower_of index) 0 ps

abbrev pub wanted_by : Recipients → Peer → Bool
wanted_by All p = true
wanted_by Idle p = is_idle p.flight
wanted_by (More from last) p = wants_more from last p
wanted_by (Waits from probe) p = waits_for from probe p

-- what a reply makes of its peer
abbrev pub after_reply : Bool → ℕ → ℕ → Peer → Peer
after_reply true at probe p = after_ok at probe p
after_reply false at probe p = after_no at probe p
