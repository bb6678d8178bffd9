-- What a rule of consensus stores makes the log that its node has then.
use Rattle.std.proofs.Common.{◌≡◌, ℕ, zero, suc, ◌+◌, ◌-◌, ◌<◌, ◌≤◌, ◌&&◌, ◌||◌, not, Bool, true, false, cond, List, [], ◌∷◌, ◌++◌, length, take, drop, Option, Some, None, refl, sym, ap, ◌∙◌, subst, arith, inl, inr, length-drop}
use Rattle.std.specs.Prelude.{◌==◌, ◌^◌, min, nat_lt, nat_le, All}
use Rattle.std.proofs.lemmas.Bool.Decides.{nat_tests}
use Rattle.std.proofs.Math.Seq.{take-length}
use Rattle.std.proofs.lemmas.List.Elements.{All-append, All-take, All-drop}
use Rattle.rq_wire.specs.declared.config.Member.{Member}
use Rattle.rq_history.specs.History.{NodeId, term_at}
use Rattle.rq_log.specs.declared.moves.Moves.{Moves}
use Rattle.rq_log.specs.declared.packet.Packet.{Packet as InPacket}
use Rattle.rq_log.specs.declared.packet.Message.{Message as InMessage}
use Rattle.rq_log.specs.declared.packet.Message.TheVariants as message
use Rattle.rq_log.specs.Incoming.{packet_in, message_in}
use Rattle.rq_log.specs.Views.{Gives}
use Rattle.rq_raft.specs.Entries.{entry_view}
use Rattle.rq_raft.specs.declared.role.Role.TheVariants.{Follower}
use Rattle.rq_raft.specs.Node.{RaftNode, RaftTurn, Packet, unchanged, is_leader, one_of, say, AppendSay, VoteSay}
use Rattle.rq_raft.specs.Lead.{appended, becomes_leader, leading, propose, beat, append_reply, replied, takes_reply, followed, send, committed, is_idle, voters_now}
use Rattle.rq_raft.specs.Vote.{higher_term, becomes_candidate, campaigns, is_elected, vote_asks, elect, vote_request, vote_reply, grants, counted, counts}
use Rattle.rq_raft.specs.Append.{becomes_follower, with_commit, matching_count, corrected_term, corrected_entries, spliced, append_missing, has_prev, append_in_term, append}
use Rattle.rq_raft.specs.Deliver.{is_far, by_message, receive}
use Rattle.rq_world.specs.declared.log_entry.LogEntry.{LogEntry}
use Rattle.rq_world.specs.Node.{log_entries}
use Rattle.rq_member.specs.Files.{IsEntryReadable, IsReadable, AreReadable}
use Rattle.rq_member.specs.Keeping.{IsSpliced, StoresItsLog, IsKeeping, moved}

-- what the core's last call gave is the rule's turn
pub given : (t : RaftTurn LogEntry) (now : RaftNode LogEntry) (moves : Moves) → Gives t now moves → moved now moves ≡ t
given t now moves g = λ i. record { node = g.node i; stored = g.stored i; packets = g.packets i }

pub keeps_given : (n now : RaftNode LogEntry) (t : RaftTurn LogEntry) (moves : Moves) → Gives t now moves → IsKeeping n t → IsKeeping n (moved now moves)
keeps_given n now t moves g keeps = subst (λ (u : RaftTurn LogEntry). IsKeeping n u) (sym (given t now moves g)) keeps

pub keeps_rule : (n m now : RaftNode LogEntry) (rule : RaftTurn LogEntry) (moves : Moves) → m ≡ n → Gives rule now moves → IsKeeping n rule → IsKeeping m (moved now moves)
keeps_rule n m now rule moves same g keeps = subst (λ (k : RaftNode LogEntry). IsKeeping k (moved now moves)) (sym same) (keeps_given n now rule moves g keeps)

choose : (n : RaftNode LogEntry) (b : Bool) (x y : RaftTurn LogEntry) → IsKeeping n x → IsKeeping n y → IsKeeping n (cond b x y)
choose n true x y one two = one
choose n false x y one two = two

quiet : (n m : RaftNode LogEntry) → m.base ≡ n.base → m.log ≡ n.log → IsKeeping n (unchanged m)
quiet n m base log = record { base = base; stores = inl (refl, log) }

one_readable : (e : LogEntry) → IsReadable e.command → AreReadable (e ∷ [])
one_readable e here zero d less = here
one_readable e here (suc k) d less = absurd (omega arith)

-- an entry is appended
keeps_appended : (n m : RaftNode LogEntry) (e : LogEntry) → m.base ≡ n.base → m.log ≡ n.log → IsReadable e.command → IsKeeping n (appended m e)
keeps_appended n m e base log readable = record {
  base = base;
  stores = inr (
    length m.log + 1,
    e ∷ [],
    refl,
    record {
      first = omega arith;
      next = omega (arith, ap length log);
      some = omega arith;
      log = ap (λ (l : List LogEntry). l ++ e ∷ []) (log ∙ sym (taken n.log (length m.log) (ap length log)));
      readable = one_readable e readable;
    },
  );
}
  where
    taken : (l : List LogEntry) (k : ℕ) → k ≡ length l → take (k + 1 - 1) l ≡ l
    taken l k is = let e : k + 1 - 1 ≡ length l = omega (arith, is) in ap (λ (j : ℕ). take j l) e ∙ take-length l

module _ (first : List Member) where
  keeps_leading : (n m : RaftNode LogEntry) → m.base ≡ n.base → m.log ≡ n.log → IsKeeping n (leading log_entries first m)
  keeps_leading n m base log =
      let k = keeps_appended n (becomes_leader log_entries first m) (log_entries.empty m.term) base log tt in
      record { base = k.base; stores = k.stores }

  keeps_campaigns : (n m : RaftNode LogEntry) → m.base ≡ n.base → m.log ≡ n.log → IsKeeping n (campaigns log_entries first m)
  keeps_campaigns n m base log =
      choose n (is_elected log_entries first m) (leading log_entries first m) (vote_asks log_entries first m) (keeps_leading n m base log) (record { base = base; stores = inl (refl, log) })

  pub elect_keeps : (n : RaftNode LogEntry) → IsKeeping n (elect log_entries first n)
  elect_keeps n =
      choose n (is_leader n.role || not (one_of (voters_now log_entries first n) n.id) || (n.term == 2 ^ 64 - 1)) (unchanged n) (campaigns log_entries first (becomes_candidate n))
      (quiet n n refl refl) (keeps_campaigns n (becomes_candidate n) refl refl)

  pub beat_keeps : (n : RaftNode LogEntry) → IsKeeping n (beat log_entries first n)
  beat_keeps n = choose n (is_leader n.role) (send log_entries first (λ p. true) (unchanged n)) (unchanged n) (record { base = refl; stores = inl (refl, refl) }) (quiet n n refl refl)

  pub propose_keeps : (n : RaftNode LogEntry) (e : LogEntry) → IsReadable e.command → IsKeeping n (propose log_entries first n e)
  propose_keeps n e readable =
      let k = keeps_appended n (followed log_entries first n e) e refl refl readable in
      choose n (is_leader n.role) (committed log_entries first (send log_entries first (λ p. is_idle p.flight) (appended (followed log_entries first n e) e))) (unchanged n)
      (record { base = k.base; stores = k.stores }) (quiet n n refl refl)

  -- ---- a packet

  keeps_request : (n m : RaftNode LogEntry) (p : Packet LogEntry) (index term : ℕ) → m.base ≡ n.base → m.log ≡ n.log → IsKeeping n (vote_request log_entries first m p index term)
  keeps_request n m p index term base log =
      choose n (grants log_entries first m p index term) (say (unchanged (record m { vote = Some p.from })) p.from (VoteSay true)) (say (unchanged m) p.from (VoteSay false))
      (record { base = base; stores = inl (refl, log) }) (record { base = base; stores = inl (refl, log) })

  keeps_counted : (n m : RaftNode LogEntry) → m.base ≡ n.base → m.log ≡ n.log → IsKeeping n (counted log_entries first m)
  keeps_counted n m base log = choose n (is_elected log_entries first m) (leading log_entries first m) (unchanged m) (keeps_leading n m base log) (quiet n m base log)

  keeps_vote : (n m : RaftNode LogEntry) (p : Packet LogEntry) (granted : Bool) → m.base ≡ n.base → m.log ≡ n.log → IsKeeping n (vote_reply log_entries first m p granted)
  keeps_vote n m p granted base log =
      choose n (counts log_entries first m p granted) (counted log_entries first (record m { votes = p.from ∷ m.votes })) (unchanged m)
      (keeps_counted n (record m { votes = p.from ∷ m.votes }) base log) (quiet n m base log)

  keeps_replied : (n m : RaftNode LogEntry) (from : NodeId) (ok : Bool) (at probe : ℕ) → m.base ≡ n.base → m.log ≡ n.log → IsKeeping n (replied log_entries first m from ok at probe)
  keeps_replied n m from true at probe base log = record { base = base; stores = inl (refl, log) }
  keeps_replied n m from false at probe base log = record { base = base; stores = inl (refl, log) }

  keeps_reply : (n m : RaftNode LogEntry) (p : Packet LogEntry) (ok : Bool) (at probe : ℕ) → m.base ≡ n.base → m.log ≡ n.log → IsKeeping n (append_reply log_entries first m p ok at probe)
  keeps_reply n m p ok at probe base log =
      choose n (is_leader m.role && takes_reply m p at) (replied log_entries first m p.from ok at probe) (unchanged m) (keeps_replied n m p.from ok at probe base log) (quiet n m base log)

-- ---- an append

-- how many of the entries are there
record Matches (log : List LogEntry) (at : ℕ) (es : List LogEntry) (count : ℕ) : Type 0 where
  few : count ≤ length es
  within : at ≤ length log → at + count ≤ length log

matches : (log : List LogEntry) (at : ℕ) (es : List LogEntry) → Matches log at es (matching_count log_entries log at es)
matches log at [] = record { few = omega arith; within = λ less. omega (arith, less) }
matches log at (e ∷ es) = by (matches log (at + 1) es) (nat_lt at (length log) && (term_at (entry_view log_entries) log (at + 1) == e.term)) refl
  where
    low : (x : Bool) → (nat_lt at (length log) && x) ≡ true → at < length log
    low x is = grind (arith, nat_tests)

    by : Matches log (at + 1) es (matching_count log_entries log (at + 1) es) → (b : Bool) → (nat_lt at (length log) && (term_at (entry_view log_entries) log (at + 1) == e.term)) ≡ b → Matches log at (e ∷ es) (cond b (matching_count log_entries log (at + 1) es + 1) 0)
    by rest true is =
        let less = low (term_at (entry_view log_entries) log (at + 1) == e.term) is in
        record { few = omega (arith, rest.few); within = λ _. let in_ = rest.within (omega (arith, less)) in omega (arith, in_) }
    by rest false is = record { few = omega arith; within = λ less. omega (arith, less) }

corrected_readable : (n : RaftNode LogEntry) (prev : ℕ) (es : List LogEntry) → AreReadable n.log → AreReadable es → AreReadable (corrected_entries log_entries n prev es)
corrected_readable n prev es log all =
    All-append IsEntryReadable (take (length es) (take (n.commit - prev) (drop prev n.log))) (drop (n.commit - prev) es)
    (All-take IsEntryReadable (length es) (take (n.commit - prev) (drop prev n.log)) (All-take IsEntryReadable (n.commit - prev) (drop prev n.log) (All-drop IsEntryReadable prev n.log log)))
    (All-drop IsEntryReadable (n.commit - prev) es all)

keeps_missing : (n m : RaftNode LogEntry) (prev commit : ℕ) (es : List LogEntry) → m.base ≡ n.base → m.log ≡ n.log → prev ≤ length n.log → AreReadable es → IsKeeping n (append_missing log_entries m prev commit es)
keeps_missing n m prev commit es base log near all = by (matching_count log_entries m.log prev es == length es) refl
  where
    differ : (k l : ℕ) → (k == l) ≡ false → k ≤ l → k < l
    differ k l is less = grind (arith, nat_tests)

    by : (b : Bool) → (matching_count log_entries m.log prev es == length es) ≡ b
        → IsKeeping n (cond b (unchanged (with_commit m commit (prev + length es))) (spliced log_entries m prev commit es (matching_count log_entries m.log prev es)))
    by true is = quiet n (with_commit m commit (prev + length es)) base log
    by false is =
        let k = matching_count log_entries m.log prev es in
        let has = matches m.log prev es in
        let in_ = has.within (omega (arith, ap length log, near)) in
        let some = differ k (length es) is has.few in
        let at : prev + k + 1 - 1 ≡ prev + k = omega arith in
        record {
          base = base;
          stores = inr (
            prev + k + 1,
            drop k es,
            refl,
            record {
              first = omega arith;
              next = omega (arith, in_, ap length log);
              some = omega (arith, length-drop k es, some);
              log = (λ i. take (sym at i) (log i) ++ drop k es);
              readable = All-drop IsEntryReadable k es all;
            },
          );
        }

keeps_in_term : (n m : RaftNode LogEntry) (from : NodeId) (prev prev_term commit probe : ℕ) (es : List LogEntry) → m.base ≡ n.base → m.log ≡ n.log → AreReadable n.log → AreReadable es
    → IsKeeping n (append_in_term log_entries m from prev prev_term commit probe es)
keeps_in_term n m from prev prev_term commit probe es base log own all = by (has_prev log_entries m prev (corrected_term log_entries m prev prev_term)) refl
  where
    near : (l : ℕ) (x : Bool) → ((prev == 0) || (nat_le prev l && x)) ≡ true → prev ≤ l
    near l x is = grind (arith, nat_tests)

    by : (b : Bool) → has_prev log_entries m prev (corrected_term log_entries m prev prev_term) ≡ b
        → IsKeeping n (cond b (say (append_missing log_entries m prev commit (corrected_entries log_entries m prev es)) from (AppendSay true (prev + length es) probe)) (say (unchanged m) from (AppendSay false (min (prev - 1) (length m.log)) probe)))
    by true is =
        let less = near (length m.log) (term_at (entry_view log_entries) m.log prev == corrected_term log_entries m prev prev_term) is in
        let k = keeps_missing n m prev commit (corrected_entries log_entries m prev es) base log (omega (arith, less, ap length log)) (corrected_readable m prev es (subst AreReadable (sym log) own) all) in
        record { base = k.base; stores = k.stores }
    by false is = record { base = base; stores = inl (refl, log) }

keeps_append : (n m : RaftNode LogEntry) (moment : ℕ) (p : Packet LogEntry) (prev prev_term commit probe : ℕ) (es : List LogEntry) → m.base ≡ n.base → m.log ≡ n.log → AreReadable n.log → AreReadable es
    → IsKeeping n (append log_entries m moment p prev prev_term commit probe es)
keeps_append n m moment p prev prev_term commit probe es base log own all =
    choose n (nat_lt p.term m.term) (say (unchanged m) p.from (AppendSay false 0 0)) (cond (is_leader m.role) (unchanged m) (append_in_term log_entries (becomes_follower m p.from moment) p.from prev prev_term commit probe es))
    (record { base = base; stores = inl (refl, log) })
    (choose n (is_leader m.role) (unchanged m) (append_in_term log_entries (becomes_follower m p.from moment) p.from prev prev_term commit probe es) (quiet n m base log)
    (keeps_in_term n (becomes_follower m p.from moment) p.from prev prev_term commit probe es base log own all))

-- ---- all packets

-- the entries of an append can be read again
abbrev pub IsMessageReadable : InMessage LogEntry → Type 0
IsMessageReadable (message.VoteAsk index term) = Unit {0}
IsMessageReadable (message.VoteSay granted) = Unit {0}
IsMessageReadable (message.AppendSay ok at probe) = Unit {0}
IsMessageReadable (message.Append prev prev_term commit probe entries) = AreReadable entries

record SameLog (n m : RaftNode LogEntry) : Type 0 where
  base : m.base ≡ n.base
  log : m.log ≡ n.log

higher_same : (n : RaftNode LogEntry) (term : ℕ) → SameLog n (higher_term n term)
higher_same n term = by (nat_lt n.term term)
  where
    by : (b : Bool) → SameLog n (cond b (record n { term = term; vote = None; role = Follower; leader = None; votes = []; peers = [] }) n)
    by true = record { base = refl; log = refl }
    by false = record { base = refl; log = refl }

module _ (first : List Member) where
  keeps_message : (n m : RaftNode LogEntry) (moment : ℕ) (p : Packet LogEntry) (said : InMessage LogEntry) → m.base ≡ n.base → m.log ≡ n.log → AreReadable n.log → IsMessageReadable said
      → IsKeeping n (by_message log_entries first m moment p (message_in said))
  keeps_message n m moment p (message.VoteAsk index term) base log own readable = keeps_request first n m p index term base log
  keeps_message n m moment p (message.VoteSay granted) base log own readable = keeps_vote first n m p granted base log
  keeps_message n m moment p (message.AppendSay ok at probe) base log own readable = keeps_reply first n m p ok at probe base log
  keeps_message n m moment p (message.Append prev prev_term commit probe entries) base log own readable = keeps_append n m moment p prev prev_term commit probe entries base log own readable

  pub receive_keeps : (n : RaftNode LogEntry) (moment : ℕ) (q : InPacket LogEntry) → AreReadable n.log → IsMessageReadable q.message → IsKeeping n (receive log_entries first n moment (packet_in q))
  receive_keeps n moment q own readable =
      let same = higher_same n q.term in
      choose n (is_far (packet_in q).message) (unchanged n) (by_message log_entries first (higher_term n q.term) moment (packet_in q) (message_in q.message)) (quiet n n refl refl)
      (keeps_message n (higher_term n q.term) moment (packet_in q) q.message same.base same.log own readable)
