-- A packet that comes in, and a read that begins, at a node over its files.
use Rattle.std.proofs.Common.{◌≡◌, ◌≢◌, ◌⊎◌, inl, inr, ℕ, ◌+◌, ◌-◌, ◌<◌, ◌≤◌, ◌&&◌, not, Bool, true, false, cond, IsTrue, List, [], ◌∷◌, ◌++◌, length, take, Option, Some, None, Result, Ok, Err, IfOk, IfErr, OnOk, OnErr, refl, sym, ap, ◌∙◌, subst, arith}
use Rattle.std.specs.Prelude.{bytes_eq, IsErrOf}
use Rattle.std.specs.Cmp.Lexicographic.{bytes_decides}
use Rattle.rq_outside.specs.declared.pair.DiskPair.{DiskPair}
use Rattle.rq_outside.specs.Disk.{DiskMeaning}
use Rattle.rq_wal.specs.declared.base.Base.{Base}
use Rattle.rq_wal.specs.declared.base.Stored.{Stored}
use Rattle.rq_wal.specs.declared.file.WalFile.{WalFile}
use Rattle.rq_wal.specs.Current.{IsCurrent, OnlyRoom, EachSinceGives}
use Rattle.rq_wire.specs.declared.config.Member.{Member}
use Rattle.rq_history.specs.History.{NodeId}
use Rattle.rq_wire.specs.declared.entry.Entry.{Entry}
use Rattle.rq_values.specs.declared.error.DecodeError.{DecodeError}
use Rattle.rq_log.specs.declared.packet.Packet.{Packet as InPacket}
use Rattle.rq_log.specs.declared.packet.Message.{Message as InMessage}
use Rattle.rq_log.specs.declared.packet.Message.TheVariants as message
use Rattle.rq_log.specs.declared.moves.Moves.{Moves}
use Rattle.rq_log.specs.Incoming.{packet_in, message_in}
use Rattle.rq_log.specs.Views.{Gives, spell}
use Rattle.rq_raft.specs.Node.{RaftNode, RaftTurn, StoredRecord, Splice, is_leader, all_stored, unchanged as raft_unchanged}
use Rattle.rq_raft.specs.Lead.{send}
use Rattle.rq_raft.specs.Vote.{higher_term}
use Rattle.rq_raft.specs.Deliver as deliver
use Rattle.rq_request.specs.declared.say.Answer.{Answer}
use Rattle.rq_world.specs.declared.log_entry.LogEntry.{LogEntry}
use Rattle.rq_request.specs.declared.say.Say.TheVariants.{Refused}
use Rattle.rq_request.specs.declared.say.NodeRefusal.TheVariants.{NoLeader}
use Rattle.rq_world.specs.Node.{Node, PendingRead, Turn, log_entries, persistent_of, says, unchanged}
use Rattle.rq_world.specs.Reads.{begin, pass_of}
use Rattle.rq_statement.specs.declared.item.Item.{Item}
use Rattle.rq_world.specs.Rules.{raft_turn, steps_down, stays_on, counts, reads, receive, with_reads, due_answers, if_leads, not_due, begun}
use Rattle.rq_member.specs.declared.event.Effects.{Effects}
use Rattle.rq_member.specs.declared.turn_error.TurnError.{TurnError}
use Rattle.rq_member.specs.declared.turn_error.TurnError.TheVariants as errors
use Rattle.rq_member.specs.Counted.{IsCounted}
use Rattle.rq_member.specs.Files.{AreReadable}
use Rattle.rq_member.specs.Reading.{IsUnreadable}
use Rattle.rq_member.specs.Held.{IsOpen}
use Rattle.rq_member.specs.Keeping.{IsKeeping, StoresItsLog}
use Rattle.rq_member.specs.Turned.{Brings, Did, DidApply, IsPacket, IsMessage, IsWrongMessage, IsWrongEntries, entry_refusal}
use Rattle.rq_member.proofs.Answering.{on_ok}
use Rattle.rq_member.proofs.Delivering.{Rests, counted_rests, counted_leads, rests_on, receive_is, message_readable}
use Rattle.rq_member.proofs.Openings.{ok_more}
use Rattle.rq_member.proofs.Resting.{IsOwn, did_rest, stores_none, own_is_no_disk}
use Rattle.rq_member.proofs.Asking.{RestsAt}
use Rattle.rq_member.proofs.Rules.{beat_keeps, receive_keeps}
use Rattle.rq_member.proofs.Ruling.{fails, did_rule, did_not_rule, no_memory_is_no_disk}
use Rattle.rq_member.proofs.Turning.{did_refuse, did_nothing}

-- a rule that rests and keeps its log leaves all that is kept
rests_log : (n : RaftNode LogEntry) (t : RaftTurn LogEntry) → Rests n t → IsKeeping n t → t.node.log ≡ n.log
rests_log n t rests keeps = by keeps.stores
  where
    by : StoresItsLog n t → t.node.log ≡ n.log
    by (inl none) = none.1
    by (inr some) = let no : [] ≡ Splice some.0 some.1 ∷ [] = sym rests.stored ∙ some.2 in absurd (cc)

rests_kept : (n : Node) (t : RaftTurn LogEntry) → Rests n.raft t → IsKeeping n.raft t → persistent_of (record n { raft = t.node }) ≡ persistent_of n
rests_kept n t rests keeps =
    let log = rests_log n.raft t rests keeps in
    λ i. record { term = rests.term i; vote = rests.vote i; boot = n.boot; base = keeps.base i; log = log i }

-- the effects of what was read behind a rule that rests
abbrev IsReadOn : List Member → Node → Moves → Effects → Type 0
IsReadOn first m moves effects = (effects.stored ≡ 0) × (effects.packets ≡ moves.packets) × (effects.answers ≡ due_answers first m m.pending_reads)

module _ {D F : Type 0} (first : List Member) (told : Bool) (means : D → DiskMeaning) where
  module _ (law : IsTrue told → (base : Base) (old new : DiskPair D F) (wal : WalFile) (stored : Stored) → IsCurrent means base old wal stored → OnlyRoom means old new wal → EachSinceGives means base old new stored) where
    -- the rule of consensus for a packet that comes in
    abbrev rule_of : Node → ℕ → InPacket LogEntry → RaftTurn LogEntry
    rule_of n moment p = deliver.receive log_entries first n.raft moment (packet_in p)

    counted_is : (n : Node) (moment : ℕ) (p : InPacket LogEntry) → p.to ≡ n.raft.id → ((t : Turn) → with_reads first n (packet_in p) (packet_in p).message t ≡ reads first t) → IsCounted first n p
        → receive first n moment (Some (packet_in p)) ≡ reads first (stays_on n (rule_of n moment p))
    counted_is n moment p here so c = receive_is first n moment p true here so ∙ ap (reads first) (rests_on first n (rule_of n moment p) (counted_leads first n p c) (counted_rests first n moment p c))

    pub did_read_on : (n : Node) (moment : ℕ) (p : InPacket LogEntry) (now : RaftNode LogEntry) (moves : Moves) (pair : DiskPair D F) (m node : Node) (file : Option WalFile) (result : Result Effects TurnError)
        → p.to ≡ n.raft.id → ((t : Turn) → with_reads first n (packet_in p) (packet_in p).message t ≡ reads first t) → IsCounted first n p → IsKeeping n.raft (rule_of n moment p) → Gives (rule_of n moment p) now moves
        → IsOpen first told means pair n file → m ≡ record n { raft = now } → OnOk result (node ≡ record m { pending_reads = not_due first m m.pending_reads }) → IfOk result (IsReadOn first m moves) → OnErr result (node ≡ n) → IfErr result IsOwn
        → Did first told means (receive first n moment (Some (packet_in p))) pair pair n node file result
    did_read_on n moment p now moves pair m node file result here so c keeps g opened is done brings back own =
        let rule = rule_of n moment p in
        let rests = counted_rests first n moment p c in
        let t = reads first (stays_on n rule) in
        let none = stores_none n.raft rule rests.term rests.vote rests.stored in
        let same : m ≡ (stays_on n rule).node = is ∙ ap (λ (r : RaftNode LogEntry). record n { raft = r }) g.node in
        subst (λ (u : Turn). Did first told means u pair pair n node file result) (sym (counted_is n moment p here so c))
        (did_rest first told means law t pair n node file result opened none (rests_kept n rule rests keeps)
        (on_ok result (node ≡ record m { pending_reads = not_due first m m.pending_reads }) (node ≡ t.node) (λ e. e ∙ ap (λ (k : Node). record k { pending_reads = not_due first k k.pending_reads }) same) done)
        (ok_more result (IsReadOn first m moves) (Brings t)
        (λ effects has. record {
          stored = has.0 ∙ sym (ap length none);
          packets = ap (spell rule.node.log) has.1 ∙ (λ i. spell (sym g.node i).log moves.packets) ∙ g.packets;
          answers = has.2 ∙ ap (λ (k : Node). due_answers first k k.pending_reads) same;
        })
        brings)
        back own)

    -- a packet that isn't taken in for want of memory
    pub did_not_receive : (n : Node) (moment : ℕ) (p : InPacket LogEntry) (counts : Bool) (pair : DiskPair D F) (node : Node) (file : Option WalFile) (e : TurnError)
        → p.to ≡ n.raft.id → ((t : Turn) → with_reads first n (packet_in p) (packet_in p).message t ≡ cond counts (reads first t) t) → (counts ≡ true → IsCounted first n p) → IsKeeping n.raft (rule_of n moment p)
        → IsOpen first told means pair n file → node ≡ n → IsOwn e → Did first told means (receive first n moment (Some (packet_in p))) pair pair n node file (Err e)
    did_not_receive n moment p true pair node file e here so c keeps opened same own =
        let rule = rule_of n moment p in
        let rests = counted_rests first n moment p (c refl) in
        subst (λ (u : Turn). Did first told means u pair pair n node file (Err e)) (sym (counted_is n moment p here so (c refl)))
        (did_rest first told means law (reads first (stays_on n rule)) pair n node file (Err e) opened (stores_none n.raft rule rests.term rests.vote rests.stored) (rests_kept n rule rests keeps) tt tt same own)
    did_not_receive n moment p false pair node file e here so c keeps opened same own =
        subst (λ (u : Turn). Did first told means u pair pair n node file (Err e)) (sym (receive_is first n moment p false here so))
        (did_not_rule first told means law (rule_of n moment p) pair n node file e opened keeps same (own_is_no_disk e own))

    pub did_starve_receive : (n : Node) (moment : ℕ) (p : InPacket LogEntry) (counts : Bool) (pair : DiskPair D F) (node : Node) (file had : Option WalFile) (result : Result Effects TurnError) → (e : TurnError) × (result ≡ Err e) × (e ≡ errors.NoMemory)
        → p.to ≡ n.raft.id → ((t : Turn) → with_reads first n (packet_in p) (packet_in p).message t ≡ cond counts (reads first t) t) → (counts ≡ true → IsCounted first n p) → IsKeeping n.raft (rule_of n moment p)
        → IsOpen first told means pair n had → file ≡ had → node ≡ n → Did first told means (receive first n moment (Some (packet_in p))) pair pair n node file result
    did_starve_receive n moment p counts pair node file had result refused here so c keeps opened same_file same =
        subst (λ (r : Result Effects TurnError). Did first told means (receive first n moment (Some (packet_in p))) pair pair n node file r) (sym (refused.1 ∙ ap fails refused.2))
        (did_not_receive n moment p counts pair node file errors.NoMemory here so c keeps (subst (λ (f : Option WalFile). IsOpen first told means pair n f) (sym same_file) opened) same (inl refl))

    pub did_take_in : (n : Node) (moment : ℕ) (p : InPacket LogEntry) (t : RaftTurn LogEntry) (m : Node) (old new : DiskPair D F) (node : Node) (file : Option WalFile) (result : Result Effects TurnError)
        → p.to ≡ n.raft.id → ((u : Turn) → with_reads first n (packet_in p) (packet_in p).message u ≡ u) → t ≡ rule_of n moment p → m ≡ n → Did first told means (raft_turn m t) old new m node file result
        → Did first told means (receive first n moment (Some (packet_in p))) old new n node file result
    did_take_in n moment p t m old new node file result here so given same did =
        subst (λ (u : Turn). Did first told means u old new n node file result) (sym (receive_is first n moment p false here so)) (did_rule first told means (rule_of n moment p) t n m old new node file result given same did)

-- ---- any packet

-- whether a packet is a reply that counts
record Counts (first : List Member) (n : Node) (p : InPacket LogEntry) : Type 0 where
  does : Bool
  reads_on : (t : Turn) → with_reads first n (packet_in p) (packet_in p).message t ≡ cond does (reads first t) t
  counted : does ≡ true → IsCounted first n p

count_of : (first : List Member) (n : Node) (term : ℕ) (from to : NodeId) (m : InMessage LogEntry) → Counts first n (record { term = term; from = from; to = to; message = m })
count_of first n term from to (message.VoteAsk index last) = record { does = false; reads_on = λ t. refl; counted = λ is. absurd (cc) }
count_of first n term from to (message.VoteSay granted) = record { does = false; reads_on = λ t. refl; counted = λ is. absurd (cc) }
count_of first n term from to (message.Append prev prev_term commit probe entries) = record { does = false; reads_on = λ t. refl; counted = λ is. absurd (cc) }
count_of first n term from to (message.AppendSay ok at probe) =
    let p = packet_in (record { term = term; from = from; to = to; message = message.AppendSay ok at probe }) in
    record { does = counts first n p at; reads_on = λ t. refl; counted = λ is. record { ok = ok; at = at; probe = probe; says = refl; counts = is } }

pub packet_keeps : (first : List Member) (n : Node) (moment : ℕ) (p : InPacket Entry) (q : InPacket LogEntry) → AreReadable n.raft.log → IsPacket p q → IsKeeping n.raft (deliver.receive log_entries first n.raft moment (packet_in q))
packet_keeps first n moment p q own is = receive_keeps first n.raft moment q own (message_readable p.message q.message is.says)

told_is_no_disk : (index : ℕ) (why : Option DecodeError) → entry_refusal index why ≡ errors.Disk → ⊥
told_is_no_disk index None is = absurd (cc)
told_is_no_disk index (Some error) is = absurd (cc)

entries_are_no_disk : (prev : ℕ) (entries : List Entry) (e : TurnError) → IsWrongEntries prev entries e → e ≢ errors.Disk
entries_are_no_disk prev entries e w = λ disk. told_is_no_disk w.0 w.1 (sym w.2 ∙ disk)

second : {A B : Type 0} → A × B → B
second p = p.1

wrong_is_no_disk : (m : InMessage Entry) (e : TurnError) → IsWrongMessage m e → e ≢ errors.Disk
wrong_is_no_disk (message.VoteAsk index term) e wrong = absurd wrong
wrong_is_no_disk (message.VoteSay granted) e wrong = absurd wrong
wrong_is_no_disk (message.AppendSay ok at probe) e wrong = absurd wrong
wrong_is_no_disk (message.Append prev prev_term commit probe entries) e wrong = entries_are_no_disk prev entries e (second wrong)

abbrev unread : TurnError → Result (InPacket LogEntry) TurnError
unread e = Err e

pub memory_alone : (e : TurnError) (q : InPacket LogEntry) → (unread e ≡ Ok q) ⊎ (unread e ≡ Err errors.NoMemory) → e ≡ errors.NoMemory
memory_alone e q (inl is) = absurd (cc)
memory_alone e q (inr is) = cc

-- a packet that wasn't read: no memory, or none of its log
pub not_read : (p : InPacket Entry) (e : TurnError) → (e ≡ errors.NoMemory) ⊎ IsWrongMessage p.message e → e ≢ errors.Disk
not_read p e (inl none) = λ disk. no_memory_is_no_disk (sym none ∙ disk)
not_read p e (inr wrong) = wrong_is_no_disk p.message e wrong

-- one that is too far, or was sent to another, does nothing
not_here : (first : List Member) (n : Node) (moment : ℕ) (p : InPacket LogEntry) → bytes_eq p.to n.raft.id ≡ false → receive first n moment (Some (packet_in p)) ≡ unchanged n
not_here first n moment p is = ap (λ (b : Bool). cond b (with_reads first n (packet_in p) (packet_in p).message (raft_turn n (deliver.receive log_entries first n.raft moment (packet_in p)))) (unchanged n)) is

unchanged_rests : (n : RaftNode LogEntry) → Rests n (raft_unchanged n)
unchanged_rests n = record { term = refl; vote = refl; role = refl; stored = refl }

rule_unchanged : (n : Node) → raft_turn n (raft_unchanged n.raft) ≡ unchanged n
rule_unchanged n = by (is_leader n.raft.role)
  where
    none : all_stored n.raft (raft_unchanged n.raft) ≡ []
    none = stores_none n.raft (raft_unchanged n.raft) refl refl refl

    by : (b : Bool) → cond (b && not b) (steps_down n (raft_unchanged n.raft)) (stays_on n (raft_unchanged n.raft)) ≡ unchanged n
    by true = λ i. record { node = n; stored = none i; packets = []; answers = [] }
    by false = λ i. record { node = n; stored = none i; packets = []; answers = [] }

too_far : (first : List Member) (n : Node) (moment : ℕ) (p : InPacket LogEntry) → deliver.is_far (message_in p.message) ≡ true → receive first n moment (Some (packet_in p)) ≡ unchanged n
too_far first n moment p far = by (bytes_eq p.to n.raft.id)
  where
    rule : deliver.receive log_entries first n.raft moment (packet_in p) ≡ raft_unchanged n.raft
    rule = ap (λ (b : Bool). cond b (raft_unchanged n.raft) (deliver.by_message log_entries first (higher_term n.raft p.term) moment (packet_in p) (message_in p.message))) far

    turn : raft_turn n (deliver.receive log_entries first n.raft moment (packet_in p)) ≡ unchanged n
    turn = ap (λ (t : RaftTurn LogEntry). raft_turn n t) rule ∙ rule_unchanged n

    reads_none : (m : InMessage LogEntry) → deliver.is_far (message_in m) ≡ true → (t : Turn) → with_reads first n (packet_in p) (message_in m) t ≡ t
    reads_none (message.VoteAsk index term) is t = refl
    reads_none (message.VoteSay granted) is t = refl
    reads_none (message.Append prev prev_term commit probe entries) is t = refl
    reads_none (message.AppendSay ok at probe) is t = absurd (cc)

    by : (b : Bool) → cond b (with_reads first n (packet_in p) (packet_in p).message (raft_turn n (deliver.receive log_entries first n.raft moment (packet_in p)))) (unchanged n) ≡ unchanged n
    by true = reads_none p.message far (raft_turn n (deliver.receive log_entries first n.raft moment (packet_in p))) ∙ turn
    by false = refl

pub skips_far : (first : List Member) (n : Node) (moment : ℕ) (p : InPacket Entry) (q : InPacket LogEntry) → IsPacket p q → ((m : InMessage LogEntry) → IsMessage p.message m → deliver.is_far (message_in m) ≡ true) → receive first n moment (Some (packet_in q)) ≡ unchanged n
skips_far first n moment p q is far = too_far first n moment q (far q.message is.says)

pub skips_elsewhere : (first : List Member) (n : Node) (moment : ℕ) (p : InPacket Entry) (q : InPacket LogEntry) → IsPacket p q → bytes_eq p.to n.raft.id ≡ false → receive first n moment (Some (packet_in q)) ≡ unchanged n
skips_elsewhere first n moment p q is other = not_here first n moment q (ap (λ (to : NodeId). bytes_eq to n.raft.id) is.receiver ∙ other)

pub does_nothing : (first : List Member) (n : Node) (moment : ℕ) (p : InPacket LogEntry) → (bytes_eq p.to n.raft.id ≡ false) ⊎ (deliver.is_far (message_in p.message) ≡ true) → receive first n moment (Some (packet_in p)) ≡ unchanged n
does_nothing first n moment p (inl is) = not_here first n moment p is
does_nothing first n moment p (inr is) = too_far first n moment p is

module _ {D F : Type 0} (first : List Member) (told : Bool) (means : D → DiskMeaning) where
  module _ (law : IsTrue told → (base : Base) (old new : DiskPair D F) (wal : WalFile) (stored : Stored) → IsCurrent means base old wal stored → OnlyRoom means old new wal → EachSinceGives means base old new stored) where
    -- a packet that is a packet of a log wasn't read for want of memory
    pub did_not_read : (n : Node) (moment : ℕ) (p : InPacket Entry) (q : InPacket LogEntry) (pair : DiskPair D F) (node : Node) (file : Option WalFile) (e : TurnError)
        → q.to ≡ n.raft.id → IsPacket p q → IsOpen first told means pair n file → node ≡ n → IsOwn e → Did first told means (receive first n moment (Some (packet_in q))) pair pair n node file (Err e)
    did_not_read n moment p q pair node file e here is opened same own =
        let c = count_of first n q.term q.from q.to q.message in
        did_not_receive first told means law n moment q c.does pair node file e here c.reads_on c.counted (packet_keeps first n moment p q opened.readable is) opened same own

    -- nothing was done
    pub did_not : (n : Node) (pair : DiskPair D F) (node : Node) (file : Option WalFile) (e : TurnError) → IsOpen first told means pair n file → node ≡ n → e ≢ errors.Disk → Did first told means (unchanged n) pair pair n node file (Err e)
    did_not n pair node file e opened same other = did_refuse first told means law (unchanged n) pair n node file e opened refl (λ k d less. absurd (omega arith)) same other

    pub did_apply_none : (most : ℕ) (n : Node) (pair : DiskPair D F) (node : Node) (file : Option WalFile) (e : TurnError) → IsOpen first told means pair n file → node ≡ n → e ≢ errors.Disk → DidApply first told means most pair pair n node file (Err e)
    did_apply_none most n pair node file e opened same other = record { count = 0; at_most = omega arith; some = λ one near none. absurd (cc); did = did_not n pair node file e opened same other }

    pub did_none : (t : Turn) (n : Node) (pair : DiskPair D F) (node : Node) (file : Option WalFile) (effects : Effects) → IsOpen first told means pair n file → node ≡ n → t ≡ unchanged n → Brings (unchanged n) effects → Did first told means t pair pair n node file (Ok effects)
    did_none t n pair node file effects opened same is brings =
        subst (λ (u : Turn). Did first told means u pair pair n node file (Ok effects)) (sym is) (did_nothing first told means law (unchanged n) pair n node file effects opened refl refl same brings)

-- ---- a read begins

module _ (first : List Member) where
  begin_rests : (n : RaftNode LogEntry) → Rests n (begin first n)
  begin_rests n = by (is_leader n.role)
    where
      by : (b : Bool) → Rests n (cond b (send log_entries first (λ p. true) (raft_unchanged n)) (raft_unchanged n))
      by true = record { term = refl; vote = refl; role = refl; stored = refl }
      by false = record { term = refl; vote = refl; role = refl; stored = refl }

  pub begun_stores_none : (n : RaftNode LogEntry) → all_stored n (begin first n) ≡ []
  begun_stores_none n = let rests = begin_rests n in stores_none n (begin first n) rests.term rests.vote rests.stored

  pub begun_kept : (n : Node) → IsKeeping n.raft (begin first n.raft) → persistent_of (record n { raft = (begin first n.raft).node }) ≡ persistent_of n
  begun_kept n keeps = rests_kept n (begin first n.raft) (begin_rests n.raft) keeps

  pub linearizable_rests : (n : Node) (number moment timeout : ℕ) (items : List Item) → RestsAt n (if_leads first n number (reads first (begun first n number moment timeout items (begin first n.raft))))
  linearizable_rests n number moment timeout items = by (is_leader n.raft.role)
    where
      begins : RestsAt n (reads first (begun first n number moment timeout items (begin first n.raft)))
      begins = record { stored = begun_stores_none n.raft; kept = begun_kept n (beat_keeps first n.raft) }

      by : (b : Bool) → RestsAt n (cond b (reads first (begun first n number moment timeout items (begin first n.raft))) (says n number (Refused (NoLeader n.raft.term))))
      by true = begins
      by false = record { stored = refl; kept = refl }
