-- What a leader sends is true.
use Rattle.std.specs.Prelude.{nat_lt}
use Rattle.std.proofs.Common.{◌≡◌, ℕ, ◌+◌, ◌-◌, ◌≤◌, Bool, List, [], ◌∷◌, length, take, drop, Some, refl, ap, sym, subst, arith}
use Rattle.std.proofs.lemmas.List.{length-take, length-take-le, length-drop, take_min}
use Rattle.rq_history.specs.History.{NodeId, History, Led}
use Rattle.rq_raft.specs.declared.role.Role.TheVariants.{Leader}
use Rattle.rq_raft.specs.declared.peer.Peer.{Peer}
use Rattle.rq_raft.specs.Node.{RaftNode, Message, Install, RaftTurn, packet}
use Rattle.rq_raft.specs.Lead.{append_for, message_for, sends, in_flight, send}
use Rattle.rq_raft.specs.Entries.{voters}
use Rattle.rq_raft.specs.Truth.{history_node, MessageIsTrue, PacketsAreTrue, AllTrue}
use Rattle.rq_raft.proofs.Tests.{if_case}
use Rattle.rq_raft.proofs.Given.{Given, Run}
use Rattle.rq_raft.proofs.Steps.{all_more, FitsIn, was_shown, leads_shown}

module _ {E : Type 0} (g : Given E) where
  take_exact : (xs : List E) (room : ℕ) → take room xs ≡ take (length (take room xs)) xs
  take_exact xs room = cc (ap (λ (k : ℕ). take k xs) (length-take room xs), take_min room xs)

  truly : (h : History E) (n : RaftNode E) (probe : ℕ) (p : Peer) → Led h n.id n.term (history_node n) → p.next ≤ length n.log + 1 → MessageIsTrue g.entries h (packet n p.id (append_for g.entries g.first n probe p)) (append_for g.entries g.first n probe p)
  truly h n probe p led next =
      let rest = drop (p.next - 1) n.log in
      record {
        leader = history_node n;
        led = led;
        fits = omega (arith, length-take (g.entries.fit rest) rest, length-drop (p.next - 1) n.log);
        at_prev = refl;
        are = take_exact rest (g.entries.fit rest);
        committed = omega arith;
      }

  -- a snapshot is of committed entries
  truly_all : (h : History E) (n : RaftNode E) (probe : ℕ) (p : Peer) → Led h n.id n.term (history_node n) → n.base ≤ n.commit → n.commit ≤ length n.log → p.next ≤ length n.log + 1 → MessageIsTrue g.entries h (packet n p.id (message_for g.entries g.first n probe p)) (message_for g.entries g.first n probe p)
  truly_all h n probe p led based fits next = if_case (λ (m : Message E). MessageIsTrue g.entries h (packet n p.id m) m) (nat_lt (p.next - 1) n.base) (Install probe (take n.base n.log)) (append_for g.entries g.first n probe p)
      (λ _.
      let exact = length-take-le n.base n.log (omega (arith, based, fits)) in
      record {
        leader = history_node n;
        led = led;
        fits = omega (arith, exact, based, fits);
        at_prev = refl;
        are = ap (λ (k : ℕ). take k n.log) (sym exact);
        committed = omega (arith, exact, based);
      })
      (λ _. truly h n probe p led next)

  all_truly : (h : History E) (n : RaftNode E) (wanted : Peer → Bool) (probe : ℕ) (ps : List Peer) → Led h n.id n.term (history_node n) → n.base ≤ n.commit → n.commit ≤ length n.log → AllTrue h n.term n.log ps → PacketsAreTrue g.entries h (sends g.entries g.first n wanted probe ps)
  all_truly h n wanted probe [] led based fits a = tt
  all_truly h n wanted probe (p ∷ ps) led based fits a = if_case (PacketsAreTrue g.entries h) (wanted p)
      (packet n p.id (message_for g.entries g.first n (probe + 1) p) ∷ sends g.entries g.first n wanted (probe + 1) ps) (sends g.entries g.first n wanted probe ps)
      (λ _. (truly_all h n (probe + 1) p led based fits a.0.next, all_truly h n wanted (probe + 1) ps led based fits a.1)) (λ _. all_truly h n wanted probe ps led based fits a.1)

  flown : (h : History E) (term : ℕ) (log : List E) (wanted : Peer → Bool) (probe : ℕ) (ps : List Peer) → AllTrue h term log ps → AllTrue h term log (in_flight wanted probe ps)
  flown h term log wanted probe [] a = tt
  flown h term log wanted probe (p ∷ ps) a = if_case (AllTrue h term log) (wanted p)
      (record p { flight = Some (probe + 1) } ∷ in_flight wanted (probe + 1) ps) (p ∷ in_flight wanted probe ps)
      (λ _. (record { copied = a.0.copied; next = a.0.next }, flown h term log wanted (probe + 1) ps a.1)) (λ _. (a.0, flown h term log wanted probe ps a.1))

  pub record Sent (h : History E) (i : NodeId) (t : RaftTurn E) : Type 0 where
    pub fits : FitsIn g h i t.node
    pub packets_are_true : PacketsAreTrue g.entries h t.packets

  pub sent : (h : History E) (i : NodeId) (wanted : Peer → Bool) (t : RaftTurn E) → Run g h → FitsIn g h i t.node → t.node.role ≡ Leader → PacketsAreTrue g.entries h t.packets → Sent h i (send g.entries g.first wanted t)
  sent h i wanted t l f r packets_are_true = record {
    fits = record { id = f.id; is = f.is; done = f.done; based = f.based; votes = f.votes; peers = λ q. flown h t.node.term t.node.log wanted t.node.probe t.node.peers (f.peers q); first = f.first };
    packets_are_true = all_more g.entries h t.packets (sends g.entries g.first t.node wanted t.node.probe t.node.peers) packets_are_true (all_truly h t.node wanted t.node.probe t.node.peers led (omega (arith, f.based, f.done)) commit_fits (f.peers r));
  }
    where
      commit_fits : t.node.commit ≤ length t.node.log
      commit_fits = (g.commits_are_backed (voters g.first) h l i (history_node t.node) (was_shown g h i t.node f)).fits

      led : Led h t.node.id t.node.term (history_node t.node)
      led = subst (λ (k : NodeId). Led h k t.node.term (history_node t.node)) (sym f.id) (leads_shown g h i t.node f r)
