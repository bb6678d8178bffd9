-- What each rule of rq_raft makes of a log and sends comes from the log, from the packet, or is new.
use Rattle.std.proofs.Common.{◌≡◌, ◌<◌, ◌≤◌, ℕ, zero, suc, ◌+◌, ◌-◌, ◌==◌, ◌&&◌, ◌||◌, Bool, true, false, cond, Some, None, List, [], ◌∷◌, ◌++◌, length, take, drop, map, filter, slice_get, refl, sym, ◌∙◌, ap, subst, arith}
use Rattle.std.specs.Prelude.{⊤, nat_lt, nat_le, not, bytes_eq, min}
use Rattle.std.proofs.lemmas.Bool.Decides.{nat_tests}
use Rattle.std.proofs.lemmas.List.{length-take, length-drop}
use Rattle.rq_wire.specs.declared.config.Member.{Member}
use Rattle.rq_history.specs.History.{NodeId, term_at, last_term}
use Rattle.rq_statement.specs.declared.command.Command.TheVariants.{NoOp}
use Rattle.rq_raft.specs.declared.peer.Peer.{Peer}
use Rattle.rq_raft.specs.Entries.{entry_view}
use Rattle.rq_raft.specs.Node.{RaftNode, Message, VoteAsk, VoteSay, Append, AppendSay, Install, InstallSay, Packet, RaftTurn, Replace, unchanged, packet, say, is_leader, with_peer}
use Rattle.rq_raft.specs.Lead.{is_idle, wants_more, waits_for, takes_reply, after_ok, after_no, voters_now, append_for, message_for, sends, send, appended, committed, propose, beat, becomes_leader, leading, replied, append_reply}
use Rattle.rq_raft.specs.Vote.{higher_term, becomes_candidate, is_elected, vote_asks, campaigns, elect, grants, vote_request, counted, counts, vote_reply}
use Rattle.rq_raft.specs.Append.{becomes_follower, with_commit, matching_count, corrected_term, corrected_entries, spliced, append_missing, has_prev, append_in_term, append}
use Rattle.rq_raft.specs.Install.{compact, has_last, replaced, installs, install}
use Rattle.rq_raft.specs.Deliver.{is_far, by_message, receive}
use Rattle.rq_world.specs.declared.log_entry.LogEntry.{LogEntry}
use Rattle.rq_world.specs.Node.{log_entries}
use Rattle.rq_world.proofs.Tests.{if_case, and_true}
use Rattle.rq_world.proofs.Prefixes.{get_within}

get_take_back : {T : Type 0} (m : ℕ) (xs : List T) (k : ℕ) (x : T) → slice_get (take m xs) k ≡ Some x → slice_get xs k ≡ Some x
get_take_back zero xs k x e = absurd (cc)
get_take_back (suc m) [] k x e = e
get_take_back (suc m) (y ∷ xs) zero x e = e
get_take_back (suc m) (y ∷ xs) (suc k) x e = get_take_back m xs k x e

get_drop : {T : Type 0} (m : ℕ) (xs : List T) (k : ℕ) → slice_get (drop m xs) k ≡ slice_get xs (m + k)
get_drop zero xs k = let none : k ≡ 0 + k = omega arith in ap (slice_get xs) none
get_drop (suc m) [] k = refl
get_drop (suc m) (x ∷ xs) k = let next : suc (m + k) ≡ suc m + k = omega arith in get_drop m xs k ∙ ap (slice_get (x ∷ xs)) next

module _ (first : List Member) (P : ℕ → LogEntry → Type 0) (noop : (k term : ℕ) → P k (record { term = term; command = NoOp })) where
  -- the entries, the first of them behind so many others
  abbrev pub Has : ℕ → List LogEntry → Type 0
  Has at es = (k : ℕ) (e : LogEntry) → slice_get es k ≡ Some e → P (at + k) e

  at_same : (a b : ℕ) (e : LogEntry) → a ≡ b → P a e → P b e
  at_same a b e same = subst (λ (k : ℕ). P k e) same

  has_at : (a b : ℕ) (es : List LogEntry) → a ≡ b → Has a es → Has b es
  has_at a b es same = subst (λ (k : ℕ). Has k es) same

  pub has_take : (at m : ℕ) (es : List LogEntry) → Has at es → Has at (take m es)
  has_take at m es has k e get = has k e (get_take_back m es k e get)

  has_drop : (at m : ℕ) (es : List LogEntry) → Has at es → Has (at + m) (drop m es)
  has_drop at m es has k e get = let sum : at + (m + k) ≡ at + m + k = omega arith in at_same (at + (m + k)) (at + m + k) e sum (has (m + k) e (sym (get_drop m es k) ∙ get))

  has_both : (at : ℕ) (a b : List LogEntry) → Has at a → Has (at + length a) b → Has at (a ++ b)
  has_both at [] b one two k e get = let none : at + 0 + k ≡ at + k = omega arith in at_same (at + 0 + k) (at + k) e none (two k e get)
  has_both at (x ∷ a) b one two zero e get = one zero e get
  has_both at (x ∷ a) b one two (suc k) e get =
      let sum : at + 1 + k ≡ at + suc k = omega arith in
      at_same (at + 1 + k) (at + suc k) e sum (has_both (at + 1) a b
      (λ j y g. let s : at + suc j ≡ at + 1 + j = omega arith in at_same (at + suc j) (at + 1 + j) y s (one (suc j) y g))
      (λ j y g. let s : at + suc (length a) + j ≡ at + 1 + length a + j = omega arith in at_same (at + suc (length a) + j) (at + 1 + length a + j) y s (two j y g)) k e get)

  pub has_one : (log : List LogEntry) (e : LogEntry) → Has 0 log → P (length log) e → Has 0 (log ++ e ∷ [])
  has_one log e has new = has_both 0 log (e ∷ []) has one
    where
      one : Has (0 + length log) (e ∷ [])
      one zero x get = let s : length log ≡ 0 + length log + 0 = omega arith in at_same (length log) (0 + length log + 0) x s (subst (P (length log)) (same get) new)
        where
          same : Some e ≡ Some x → e ≡ x
          same q = cc
      one (suc k) x get = absurd (cc)

  -- ---- packets

  abbrev pub MessageHas : Message LogEntry → Type 0
  MessageHas (VoteAsk last_index last_term) = ⊤
  MessageHas (VoteSay granted) = ⊤
  MessageHas (Append prev prev_term commit probe es) = Has prev es
  MessageHas (AppendSay ok at probe) = ⊤
  MessageHas (Install probe list) = Has 0 list
  MessageHas (InstallSay at probe) = ⊤

  abbrev pub PacketsHave : List (Packet LogEntry) → Type 0
  PacketsHave [] = ⊤
  PacketsHave (p ∷ ps) = MessageHas p.message × PacketsHave ps

  pub packets_both : (a b : List (Packet LogEntry)) → PacketsHave a → PacketsHave b → PacketsHave (a ++ b)
  packets_both [] b one two = two
  packets_both (p ∷ a) b (here, more) two = (here, packets_both a b more two)

  pub packets_get : (ps : List (Packet LogEntry)) (k : ℕ) (p : Packet LogEntry) → PacketsHave ps → slice_get ps k ≡ Some p → MessageHas p.message
  packets_get [] k p all get = absurd (cc)
  packets_get (q ∷ ps) zero p (here, more) get = subst (λ (x : Packet LogEntry). MessageHas x.message) (same get) here
    where
      same : Some q ≡ Some p → q ≡ p
      same e = cc
  packets_get (q ∷ ps) (suc k) p (here, more) get = packets_get ps k p more get

  -- a turn's log and packets
  pub record Sourced (t : RaftTurn LogEntry) : Type 0 where
    pub log : Has 0 t.node.log
    pub packets : PacketsHave t.packets

  quiet : (n : RaftNode LogEntry) → Has 0 n.log → Sourced (unchanged n)
  quiet n has = record { log = has; packets = tt }

  says : (t : RaftTurn LogEntry) (to : NodeId) (m : Message LogEntry) → MessageHas m → Sourced t → Sourced (say t to m)
  says t to m has s = record { log = s.log; packets = packets_both t.packets (packet t.node to m ∷ []) s.packets (has, tt) }

  -- ---- Send

  message_has : (n : RaftNode LogEntry) (probe : ℕ) (p : Peer) → Has 0 n.log → MessageHas (message_for log_entries first n probe p)
  message_has n probe p has = if_case MessageHas (nat_lt (p.next - 1) n.base) (Install probe (take n.base n.log)) (append_for log_entries first n probe p)
      (λ _. has_take 0 n.base n.log has)
      (λ _. let none : 0 + (p.next - 1) ≡ p.next - 1 = omega arith in
      has_take (p.next - 1) (log_entries.fit (drop (p.next - 1) n.log)) (drop (p.next - 1) n.log) (has_at (0 + (p.next - 1)) (p.next - 1) (drop (p.next - 1) n.log) none (has_drop 0 (p.next - 1) n.log has)))

  sends_have : (n : RaftNode LogEntry) (wanted : Peer → Bool) (probe : ℕ) (ps : List Peer) → Has 0 n.log → PacketsHave (sends log_entries first n wanted probe ps)
  sends_have n wanted probe [] has = tt
  sends_have n wanted probe (p ∷ ps) has = if_case PacketsHave (wanted p) (packet n p.id (message_for log_entries first n (probe + 1) p) ∷ sends log_entries first n wanted (probe + 1) ps) (sends log_entries first n wanted probe ps)
      (λ _. (message_has n (probe + 1) p has, sends_have n wanted (probe + 1) ps has)) (λ _. sends_have n wanted probe ps has)

  sent : (wanted : Peer → Bool) (t : RaftTurn LogEntry) → Sourced t → Sourced (send log_entries first wanted t)
  sent wanted t s = record { log = s.log; packets = packets_both t.packets (sends log_entries first t.node wanted t.node.probe t.node.peers) s.packets (sends_have t.node wanted t.node.probe t.node.peers s.log) }

  committed_has : (t : RaftTurn LogEntry) → Sourced t → Sourced (committed log_entries first t)
  committed_has t s = record { log = s.log; packets = s.packets }

  appended_has : (n : RaftNode LogEntry) (e : LogEntry) → Has 0 n.log → P (length n.log) e → Sourced (appended n e)
  appended_has n e has new = record { log = has_one n.log e has new; packets = tt }

  pub propose_has : (n : RaftNode LogEntry) (e : LogEntry) → Has 0 n.log → P (length n.log) e → Sourced (propose log_entries first n e)
  propose_has n e has new = if_case Sourced (is_leader n.role) (committed log_entries first (send log_entries first (λ (p : Peer). is_idle p.flight) (appended n e))) (unchanged n)
      (λ _. committed_has (send log_entries first (λ (p : Peer). is_idle p.flight) (appended n e)) (sent (λ (p : Peer). is_idle p.flight) (appended n e) (appended_has n e has new))) (λ _. quiet n has)

  pub beat_has : (n : RaftNode LogEntry) → Has 0 n.log → Sourced (beat log_entries first n)
  beat_has n has = if_case Sourced (is_leader n.role) (send log_entries first (λ p. true) (unchanged n)) (unchanged n) (λ _. sent (λ p. true) (unchanged n) (quiet n has)) (λ _. quiet n has)

  leading_has : (n : RaftNode LogEntry) → Has 0 n.log → Sourced (leading log_entries first n)
  leading_has n has =
      let m = becomes_leader log_entries first n in
      let e = log_entries.empty n.term in
      committed_has (send log_entries first (λ p. true) (appended m e)) (sent (λ p. true) (appended m e) (appended_has m e has (noop (length n.log) n.term)))

  -- ---- elections

  asks_have : (n : RaftNode LogEntry) (m : Message LogEntry) → MessageHas m → (vs : List NodeId) → PacketsHave (map (λ (v : NodeId). packet n v m) vs)
  asks_have n m has [] = tt
  asks_have n m has (v ∷ vs) = (has, asks_have n m has vs)

  campaigns_have : (n : RaftNode LogEntry) → Has 0 n.log → Sourced (campaigns log_entries first n)
  campaigns_have n has = if_case Sourced (is_elected log_entries first n) (leading log_entries first n) (vote_asks log_entries first n) (λ _. leading_has n has)
      (λ _. record { log = has; packets = asks_have n (VoteAsk (length n.log) (last_term (entry_view log_entries) n.log)) tt (filter (λ (m : NodeId). not (bytes_eq m n.id)) (voters_now log_entries first n)) })

  pub elect_has : (n : RaftNode LogEntry) → Has 0 n.log → Sourced (elect log_entries first n)
  elect_has n has = if_case Sourced _ (unchanged n) (campaigns log_entries first (becomes_candidate n)) (λ _. quiet n has) (λ _. campaigns_have (becomes_candidate n) has)

  request_has : (n : RaftNode LogEntry) (p : Packet LogEntry) (last_index of_term : ℕ) → Has 0 n.log → Sourced (vote_request log_entries first n p last_index of_term)
  request_has n p last_index of_term has = if_case Sourced (grants log_entries first n p last_index of_term) (say (unchanged (record n { vote = Some p.from })) p.from (VoteSay true)) (say (unchanged n) p.from (VoteSay false))
      (λ _. says (unchanged (record n { vote = Some p.from })) p.from (VoteSay true) tt (quiet (record n { vote = Some p.from }) has)) (λ _. says (unchanged n) p.from (VoteSay false) tt (quiet n has))

  counted_has : (n : RaftNode LogEntry) → Has 0 n.log → Sourced (counted log_entries first n)
  counted_has n has = if_case Sourced (is_elected log_entries first n) (leading log_entries first n) (unchanged n) (λ _. leading_has n has) (λ _. quiet n has)

  vote_has : (n : RaftNode LogEntry) (p : Packet LogEntry) (granted : Bool) → Has 0 n.log → Sourced (vote_reply log_entries first n p granted)
  vote_has n p granted has = if_case Sourced (counts log_entries first n p granted) (counted log_entries first (record n { votes = p.from ∷ n.votes })) (unchanged n) (λ _. counted_has (record n { votes = p.from ∷ n.votes }) has) (λ _. quiet n has)

  -- ---- entries are taken over

  matching_within : (log : List LogEntry) (at : ℕ) (es : List LogEntry) → at ≤ length log → at + matching_count log_entries log at es ≤ length log
  matching_within log at [] le = omega (arith, le)
  matching_within log at (e ∷ es) le = if_case (λ (m : ℕ). at + m ≤ length log) (nat_lt at (length log) && (term_at (entry_view log_entries) log (at + 1) == log_entries.term_of e)) (matching_count log_entries log (at + 1) es + 1) 0
      (λ q. let lt : at < length log = below (and_true (nat_lt at (length log)) _ q).0 in let h = matching_within log (at + 1) es (omega (arith, lt)) in omega (arith, h))
      (λ _. omega (arith, le))
    where
      below : nat_lt at (length log) ≡ true → at < length log
      below q = grind (arith, nat_tests, q)

  corrected_has : (n : RaftNode LogEntry) (prev : ℕ) (es : List LogEntry) → Has 0 n.log → n.commit ≤ length n.log → Has prev es → Has prev (corrected_entries log_entries n prev es)
  corrected_has n prev es has within given = has_both prev own (drop (n.commit - prev) es) own_has rest_has
    where
      own : List LogEntry
      own = take (length es) (take (n.commit - prev) (drop prev n.log))

      own_has : Has prev own
      own_has = let none : 0 + prev ≡ prev = omega arith in
          has_take prev (length es) (take (n.commit - prev) (drop prev n.log)) (has_take prev (n.commit - prev) (drop prev n.log) (has_at (0 + prev) prev (drop prev n.log) none (has_drop 0 prev n.log has)))

      rest_has : Has (prev + length own) (drop (n.commit - prev) es)
      rest_has k e get =
          let in_rest = get_within (drop (n.commit - prev) es) k e get in
          let rest_long : length (drop (n.commit - prev) es) ≡ length es - (n.commit - prev) = length-drop (n.commit - prev) es in
          let inner : length (take (n.commit - prev) (drop prev n.log)) ≡ min (n.commit - prev) (length (drop prev n.log)) = length-take (n.commit - prev) (drop prev n.log) in
          let behind : length (drop prev n.log) ≡ length n.log - prev = length-drop prev n.log in
          let outer : length own ≡ min (length es) (length (take (n.commit - prev) (drop prev n.log))) = length-take (length es) (take (n.commit - prev) (drop prev n.log)) in
          let same : prev + (n.commit - prev) + k ≡ prev + length own + k = omega (arith, in_rest, rest_long, inner, behind, outer, within) in
          at_same (prev + (n.commit - prev) + k) (prev + length own + k) e same (has_drop prev (n.commit - prev) es given k e get)

  missing_has : (n : RaftNode LogEntry) (prev commit : ℕ) (es : List LogEntry) → Has 0 n.log → prev ≤ length n.log → Has prev es → Sourced (append_missing log_entries n prev commit es)
  missing_has n prev commit es has le given = if_case Sourced (matching_count log_entries n.log prev es == length es) (unchanged (with_commit n commit (prev + length es))) (spliced log_entries n prev commit es m)
      (λ _. quiet (with_commit n commit (prev + length es)) has)
      (λ _. record { log = has_both 0 (take (prev + m) n.log) (drop m es) (has_take 0 (prev + m) n.log has) (has_at (prev + m) (0 + length (take (prev + m) n.log)) (drop m es) upto (has_drop prev m es given)); packets = tt })
    where
      m : ℕ
      m = matching_count log_entries n.log prev es

      upto : prev + m ≡ 0 + length (take (prev + m) n.log)
      upto = let w = matching_within n.log prev es le in let t = length-take (prev + m) n.log in omega (arith, w, t)

  in_term_has : (n : RaftNode LogEntry) (from : NodeId) (prev prev_term commit probe : ℕ) (es : List LogEntry) → Has 0 n.log → n.commit ≤ length n.log → Has prev es → Sourced (append_in_term log_entries n from prev prev_term commit probe es)
  in_term_has n from prev prev_term commit probe es has within given =
      let mended = corrected_entries log_entries n prev es in
      if_case Sourced (has_prev log_entries n prev (corrected_term log_entries n prev prev_term)) (say (append_missing log_entries n prev commit mended) from (AppendSay true (prev + length es) probe)) (say (unchanged n) from (AppendSay false (min (prev - 1) (length n.log)) probe))
      (λ q. says (append_missing log_entries n prev commit mended) from (AppendSay true (prev + length es) probe) tt (missing_has n prev commit mended has (there q) (corrected_has n prev es has within given)))
      (λ _. says (unchanged n) from (AppendSay false (min (prev - 1) (length n.log)) probe) tt (quiet n has))
    where
      by : (a b c : Bool) → (a ≡ true → prev ≤ length n.log) → (b ≡ true → prev ≤ length n.log) → (a || (b && c)) ≡ true → prev ≤ length n.log
      by true b c f g q = f refl
      by false true c f g q = g refl
      by false false c f g q = absurd (cc)

      there : has_prev log_entries n prev (corrected_term log_entries n prev prev_term) ≡ true → prev ≤ length n.log
      there = by (prev == 0) (nat_le prev (length n.log)) _ (λ e. grind (arith, nat_tests, e)) (λ e. grind (arith, nat_tests, e))

  append_has : (n : RaftNode LogEntry) (moment : ℕ) (p : Packet LogEntry) (prev prev_term commit probe : ℕ) (es : List LogEntry) → Has 0 n.log → n.commit ≤ length n.log → Has prev es → Sourced (append log_entries n moment p prev prev_term commit probe es)
  append_has n moment p prev prev_term commit probe es has within given = if_case Sourced (nat_lt p.term n.term) (say (unchanged n) p.from (AppendSay false 0 0)) (cond (is_leader n.role) (unchanged n) (append_in_term log_entries (becomes_follower n p.from moment) p.from prev prev_term commit probe es))
      (λ _. says (unchanged n) p.from (AppendSay false 0 0) tt (quiet n has))
      (λ _. if_case Sourced (is_leader n.role) (unchanged n) (append_in_term log_entries (becomes_follower n p.from moment) p.from prev prev_term commit probe es) (λ _. quiet n has) (λ _. in_term_has (becomes_follower n p.from moment) p.from prev prev_term commit probe es has within given))

  reply_has : (n : RaftNode LogEntry) (p : Packet LogEntry) (ok : Bool) (at probe : ℕ) → Has 0 n.log → Sourced (append_reply log_entries first n p ok at probe)
  reply_has n p ok at probe has = if_case Sourced (is_leader n.role && takes_reply n p at) (replied log_entries first n p.from ok at probe) (unchanged n) (λ _. by ok) (λ _. quiet n has)
    where
      by : (ok : Bool) → Sourced (replied log_entries first n p.from ok at probe)
      by true =
          let m = record n { peers = with_peer (after_ok at probe) p.from n.peers } in
          sent (wants_more p.from (length n.log)) (committed log_entries first (unchanged m)) (committed_has (unchanged m) (quiet m has))
      by false =
          let m = record n { peers = with_peer (after_no at probe) p.from n.peers } in
          sent (waits_for p.from probe) (unchanged m) (quiet m has)

  installs_have : (n : RaftNode LogEntry) (list : List LogEntry) → Has 0 n.log → Has 0 list → Sourced (installs log_entries n list)
  installs_have n list has given = if_case Sourced (nat_le (length list) n.commit) (unchanged n) (replaced log_entries n list) (λ _. quiet n has)
      (λ _. record { log = has_both 0 list (cond (has_last log_entries n list) (drop (length list) n.log) []) given (if_case (Has (0 + length list)) (has_last log_entries n list) (drop (length list) n.log) [] (λ _. has_drop 0 (length list) n.log has) (λ _ k e get. absurd (cc))); packets = tt })

  install_has : (n : RaftNode LogEntry) (moment : ℕ) (p : Packet LogEntry) (probe : ℕ) (list : List LogEntry) → Has 0 n.log → Has 0 list → Sourced (install log_entries n moment p probe list)
  install_has n moment p probe list has given =
      let m = becomes_follower n p.from moment in
      let t = say (installs log_entries m list) p.from (InstallSay (length list) probe) in
      if_case Sourced (nat_lt p.term n.term) (say (unchanged n) p.from (InstallSay 0 0)) (cond (is_leader n.role) (unchanged n) t)
      (λ _. says (unchanged n) p.from (InstallSay 0 0) tt (quiet n has))
      (λ _. if_case Sourced (is_leader n.role) (unchanged n) t (λ _. quiet n has) (λ _. says (installs log_entries m list) p.from (InstallSay (length list) probe) tt (installs_have m list has given)))

  pub compact_has : (n : RaftNode LogEntry) → Has 0 n.log → Sourced (compact n)
  compact_has n has = if_case Sourced (nat_lt n.base n.applied) (record { node = record n { base = n.applied }; stored = Replace n.applied n.log ∷ []; packets = [] }) (unchanged n) (λ _. record { log = has; packets = tt }) (λ _. quiet n has)

  message_received : (n : RaftNode LogEntry) (moment : ℕ) (p : Packet LogEntry) (m : Message LogEntry) → Has 0 n.log → n.commit ≤ length n.log → MessageHas m → Sourced (by_message log_entries first n moment p m)
  message_received n moment p (VoteAsk last_index last_term) has within given = request_has n p last_index last_term has
  message_received n moment p (VoteSay granted) has within given = vote_has n p granted has
  message_received n moment p (Append prev prev_term commit probe es) has within given = append_has n moment p prev prev_term commit probe es has within given
  message_received n moment p (AppendSay ok at probe) has within given = reply_has n p ok at probe has
  message_received n moment p (Install probe list) has within given = install_has n moment p probe list has given
  message_received n moment p (InstallSay at probe) has within given = reply_has n p true at probe has

  pub receive_has : (n : RaftNode LogEntry) (moment : ℕ) (p : Packet LogEntry) → Has 0 n.log → n.commit ≤ length n.log → MessageHas p.message → Sourced (receive log_entries first n moment p)
  receive_has n moment p has within given = if_case Sourced (is_far p.message) (unchanged n) (by_message log_entries first (higher_term n p.term) moment p p.message) (λ _. quiet n has) (λ _. risen)
    where
      lower : RaftNode LogEntry
      lower = record n { term = p.term; vote = None; role = Rattle.rq_raft.specs.declared.role.Role.TheVariants.Follower; leader = None; votes = []; peers = [] }

      risen : Sourced (by_message log_entries first (higher_term n p.term) moment p p.message)
      risen = if_case (λ (m : RaftNode LogEntry). Sourced (by_message log_entries first m moment p p.message)) (nat_lt n.term p.term) lower n
          (λ _. message_received lower moment p p.message has within given) (λ _. message_received n moment p p.message has within given)
