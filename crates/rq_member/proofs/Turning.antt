-- A turn of a node over its files.
use Rattle.std.proofs.Common.{◌≡◌, ◌≢◌, ◌⊎◌, inl, inr, ◌+◌, ◌-◌, ◌<◌, ◌≤◌, ◌&&◌, not, ℕ, zero, suc, Bool, true, false, cond, IsTrue, List, [], ◌∷◌, ◌++◌, length, take, Some, None, Option, Result, Ok, Err, refl, sym, ◌∙◌, ap, subst, arith}
use Rattle.std.specs.Prelude.{◌==◌, ◌*◌, All, bytes_eq, IsErrOf, nat_le}
use Rattle.std.specs.Cmp.Lexicographic.{bytes_decides}
use Rattle.std.proofs.lemmas.Bool.Decides.{nat_tests}
use Rattle.std.proofs.lemmas.List.Elements.{All-append, All-take}
use Rattle.rq_outside.specs.declared.pair.DiskPair.{DiskPair}
use Rattle.rq_outside.specs.Disk.{DiskMeaning, Elapses, Stays}
use Rattle.rq_outside.specs.Pair.{other, disk_at}
use Rattle.rq_wal.specs.declared.base.Base.{Base}
use Rattle.rq_wal.specs.declared.base.Stored.{Stored}
use Rattle.rq_wal.specs.declared.file.WalFile.{WalFile}
use Rattle.rq_wal.specs.Current.{IsCurrent, OnlyRoom, EachSinceGives}
use Rattle.rq_wal.specs.WalFile.{wal_file}
use Rattle.rq_wal.proofs.Spending.{spends_none}
use Rattle.rq_wire.specs.declared.config.Member.{Member}
use Rattle.rq_history.specs.History.{NodeId}
use Rattle.rq_log.specs.declared.moves.Moves.{Moves}
use Rattle.rq_raft.specs.Node.{RaftNode, RaftTurn, Persistent, StoredRecord, Vote, Splice, Boot, Replace, persistent_with, persistent_after, all_stored, same_vote, is_leader}
use Rattle.rq_request.specs.declared.say.Answer.{Answer}
use Rattle.rq_world.specs.declared.log_entry.LogEntry.{LogEntry}
use Rattle.rq_world.specs.Node.{Node, Turn, persistent_of, unchanged}
use Rattle.rq_world.specs.Rules.{raft_turn, stays_on, steps_down, lost_all, waiting_numbers}
use Rattle.rq_member.specs.declared.event.Effects.{Effects}
use Rattle.rq_member.specs.declared.turn_error.TurnError.{TurnError}
use Rattle.rq_member.specs.declared.turn_error.TurnError.TheVariants as errors
use Rattle.rq_member.specs.Files.{IsEntryReadable, AreReadable, IsRecordReadable, CanBeRead, first_base, stored_of, Stands, Moments, HasFile}
use Rattle.rq_member.specs.Held.{Held, node_before, has_left, lost_answers, without_lost, IsOpen}
use Rattle.rq_member.specs.Keeping.{IsSpliced, StoresItsLog, IsKeeping, moved}
use Rattle.rq_member.specs.Storing.{refusal_in, FilesAre, SpentStoring, HasStored}
use Rattle.rq_member.specs.Turned.{Brings, Turned, Did}
use Rattle.rq_member.proofs.Storing.{none_since}

abbrev refused : TurnError → Result Effects TurnError
refused e = Err e

-- ---- what is kept

vote_is : (a b : Option NodeId) → same_vote a b ≡ true → a ≡ b
vote_is None None is = refl
vote_is None (Some b) is = absurd (cc)
vote_is (Some a) None is = absurd (cc)
vote_is (Some a) (Some b) is = ap (λ (v : NodeId). Some v) ((bytes_decides a b).0 is)

term_is : (a b : ℕ) → (a == b) ≡ true → a ≡ b
term_is a b is = grind (arith, nat_tests)

both_true : (a b : Bool) → (a && b) ≡ true → (a ≡ true) × (b ≡ true)
both_true true b is = (refl, is)
both_true false b is = absurd (cc)

-- a node's kept part, with a turn's term and vote
abbrev voted : Node → RaftTurn LogEntry → Persistent LogEntry
voted n t = record { term = t.node.term; vote = t.node.vote; boot = n.boot; base = n.raft.base; log = n.raft.log }

stored_rest : (n : Node) (t : RaftTurn LogEntry) → IsKeeping n.raft t → persistent_after (voted n t) t.stored ≡ persistent_of (record n { raft = t.node })
stored_rest n t keeps = by keeps.stores
  where
    by : StoresItsLog n.raft t → persistent_after (voted n t) t.stored ≡ persistent_of (record n { raft = t.node })
    by (inl none) =
        ap (λ (l : List (StoredRecord LogEntry)). persistent_after (voted n t) l) none.0
        ∙ (λ i. record { term = t.node.term; vote = t.node.vote; boot = n.boot; base = sym keeps.base i; log = sym none.1 i })
    by (inr some) =
        ap (λ (l : List (StoredRecord LogEntry)). persistent_after (voted n t) l) some.2
        ∙ (λ i. record { term = t.node.term; vote = t.node.vote; boot = n.boot; base = sym keeps.base i; log = sym some.3.log i })

stored_first : (n : Node) (t : RaftTurn LogEntry) → persistent_after (persistent_of n) (all_stored n.raft t) ≡ persistent_after (voted n t) t.stored
stored_first n t = by ((n.raft.term == t.node.term) && same_vote n.raft.vote t.node.vote) refl
  where
    by : (b : Bool) → ((n.raft.term == t.node.term) && same_vote n.raft.vote t.node.vote) ≡ b
        → persistent_after (persistent_of n) (cond b t.stored (Vote t.node.term t.node.vote ∷ t.stored)) ≡ persistent_after (voted n t) t.stored
    by true is =
        let parts = both_true (n.raft.term == t.node.term) (same_vote n.raft.vote t.node.vote) is in
        let term = term_is n.raft.term t.node.term parts.0 in
        let vote = vote_is n.raft.vote t.node.vote parts.1 in
        λ i. persistent_after (record { term = term i; vote = vote i; boot = n.boot; base = n.raft.base; log = n.raft.log }) t.stored
    by false is = refl

-- what a rule of consensus stores is what its node keeps
pub kept_all : (n : Node) (t : RaftTurn LogEntry) → IsKeeping n.raft t → persistent_of (record n { raft = t.node }) ≡ persistent_after (persistent_of n) (all_stored n.raft t)
kept_all n t keeps = sym (stored_first n t ∙ stored_rest n t keeps)

none_readable : All IsRecordReadable []
none_readable k d less = absurd (omega arith)

more_readable : (r : StoredRecord LogEntry) (records : List (StoredRecord LogEntry)) → IsRecordReadable r → All IsRecordReadable records → All IsRecordReadable (r ∷ records)
more_readable r records here more zero d less = here
more_readable r records here more (suc k) d less = more k d (omega arith)

-- and can be read again
pub all_readable : (n : RaftNode LogEntry) (t : RaftTurn LogEntry) → IsKeeping n t → All IsRecordReadable (all_stored n t)
all_readable n t keeps = voting ((n.term == t.node.term) && same_vote n.vote t.node.vote) (rest keeps.stores)
  where
    rest : StoresItsLog n t → All IsRecordReadable t.stored
    rest (inl none) = subst (λ (l : List (StoredRecord LogEntry)). All IsRecordReadable l) (sym none.0) none_readable
    rest (inr some) = subst (λ (l : List (StoredRecord LogEntry)). All IsRecordReadable l) (sym some.2) (more_readable (Splice some.0 some.1) [] some.3.readable none_readable)

    voting : (b : Bool) → All IsRecordReadable t.stored → All IsRecordReadable (cond b t.stored (Vote t.node.term t.node.vote ∷ t.stored))
    voting true more = more
    voting false more = more_readable (Vote t.node.term t.node.vote) t.stored tt more

-- what is kept then, none of it in a snapshot, can be read again
pub record Reads (kept : Persistent LogEntry) : Type 0 where
  pub base : kept.base ≡ 0
  pub log : AreReadable kept.log

reads_with : (kept : Persistent LogEntry) (r : StoredRecord LogEntry) → Reads kept → IsRecordReadable r → Reads (persistent_with kept r)
reads_with kept (Vote term vote) has one = record { base = has.base; log = has.log }
reads_with kept (Splice from entries) has one = record { base = has.base; log = All-append IsEntryReadable (take (from - 1) kept.log) entries (All-take IsEntryReadable (from - 1) kept.log has.log) one }
reads_with kept (Boot boot) has one = record { base = has.base; log = has.log }
reads_with kept (Replace base log) has one = absurd one

pub reads_after : (kept : Persistent LogEntry) (records : List (StoredRecord LogEntry)) → Reads kept → All IsRecordReadable records → Reads (persistent_after kept records)
reads_after kept [] has all = has
reads_after kept (r ∷ records) has all = reads_after (persistent_with kept r) records (reads_with kept r has (all 0 r (omega arith))) (λ k d less. all (suc k) d (omega arith))

module _ {D F : Type 0} (first : List Member) (told : Bool) (means : D → DiskMeaning) where
  -- ---- settling what a rule of consensus did

  pub did_settle : (h : Held) (moves : Moves) (old new : DiskPair D F) (before file : Option WalFile) (stored : ℕ) → IsKeeping h.before (moved h.node.raft moves) → IsOpen first told means old (node_before h) before
      → stored ≡ length (all_stored h.before (moved h.node.raft moves)) → HasStored first told means (persistent_of (node_before h)) (all_stored h.before (moved h.node.raft moves)) old new file None
      → Did first told means (raft_turn (node_before h) (moved h.node.raft moves)) old new (node_before h) (without_lost h) file (Ok (record { stored = stored; packets = moves.packets; answers = lost_answers h }))
  did_settle h moves old new before file stored keeps opened counts has = by (has_left h)
    where
      by : (b : Bool)
          → Did first told means (cond b (steps_down (node_before h) (moved h.node.raft moves)) (stays_on (node_before h) (moved h.node.raft moves))) old new (node_before h) (cond b (record h.node { waiting = []; pending_reads = [] }) h.node) file
          (Ok (record { stored = stored; packets = moves.packets; answers = cond b (lost_all h.before.term h.node.raft.term (waiting_numbers h.node)) [] }))
      by true = record {
        turned = (refl, record { stored = counts; packets = refl; answers = refl });
        kept = kept_all (node_before h) (moved h.node.raft moves) keeps;
        readable = record { base = opened.base; log = opened.readable; all = all_readable h.before (moved h.node.raft moves) keeps };
        stored = has;
      }
      by false = record {
        turned = (refl, record { stored = counts; packets = refl; answers = refl });
        kept = kept_all (node_before h) (moved h.node.raft moves) keeps;
        readable = record { base = opened.base; log = opened.readable; all = all_readable h.before (moved h.node.raft moves) keeps };
        stored = has;
      }

  -- where it was refused
  pub did_not_settle : (h : Held) (moves : Moves) (old new : DiskPair D F) (before file : Option WalFile) (node : Node) (e : TurnError) → IsKeeping h.before (moved h.node.raft moves) → IsOpen first told means old (node_before h) before
      → node ≡ node_before h → HasStored first told means (persistent_of (node_before h)) (all_stored h.before (moved h.node.raft moves)) old new file (Some e)
      → Did first told means (raft_turn (node_before h) (moved h.node.raft moves)) old new (node_before h) node file (Err e)
  did_not_settle h moves old new before file node e keeps opened same has = by (has_left h)
    where
      by : (b : Bool) → Did first told means (cond b (steps_down (node_before h) (moved h.node.raft moves)) (stays_on (node_before h) (moved h.node.raft moves))) old new (node_before h) node file (Err e)
      by true = record {
        turned = same;
        kept = kept_all (node_before h) (moved h.node.raft moves) keeps;
        readable = record { base = opened.base; log = opened.readable; all = all_readable h.before (moved h.node.raft moves) keeps };
        stored = has;
      }
      by false = record {
        turned = same;
        kept = kept_all (node_before h) (moved h.node.raft moves) keeps;
        readable = record { base = opened.base; log = opened.readable; all = all_readable h.before (moved h.node.raft moves) keeps };
        stored = has;
      }

  -- ---- nothing is stored

  only_room : (pair : DiskPair D F) (wal : WalFile) → OnlyRoom means pair pair wal
  only_room pair wal = record {
    other_file = refl;
    same = record { content = refl; no_more = λ c is. is; no_fewer = λ c is. is };
    time = record { later = omega arith; nothing_else = λ t c less is. inl is; keeps = λ t c less is. is };
  }

  -- a pair that was left stands for what is kept, whatever was to be stored
  pub rests : (IsTrue told → (base : Base) (old new : DiskPair D F) (wal : WalFile) (stored : Stored) → IsCurrent means base old wal stored → OnlyRoom means old new wal → EachSinceGives means base old new stored)
      → (pair : DiskPair D F) (kept : Persistent LogEntry) (records : List (StoredRecord LogEntry)) (file : Option WalFile) → HasFile first told means pair kept file → Moments first told means pair pair kept records
  rests law pair kept records None has = absurd has
  rests law pair kept records (Some wal) has = none_since first told means law pair pair wal kept records has (λ tells. only_room pair wal)

  -- a refusal for which nothing was stored
  pub stored_nothing : (IsTrue told → (base : Base) (old new : DiskPair D F) (wal : WalFile) (stored : Stored) → IsCurrent means base old wal stored → OnlyRoom means old new wal → EachSinceGives means base old new stored)
      → (pair : DiskPair D F) (kept : Persistent LogEntry) (records : List (StoredRecord LogEntry)) (file : Option WalFile) (e : TurnError) → e ≢ errors.Disk → HasFile first told means pair kept file → HasStored first told means kept records pair pair file (Some e)
  stored_nothing law pair kept records file errors.Disk other has = absurd (other refl)
  stored_nothing law pair kept records file errors.Engine other has = record { files = has; moments = rests law pair kept [] file has; spent = spends_none means pair }
  stored_nothing law pair kept records file errors.NoMemory other has = record { files = has; moments = rests law pair kept [] file has; spent = spends_none means pair }
  stored_nothing law pair kept records file (errors.Ended count) other has = record { files = has; moments = rests law pair kept [] file has; spent = spends_none means pair }
  stored_nothing law pair kept records file (errors.Packet index error) other has = record { files = has; moments = rests law pair kept [] file has; spent = spends_none means pair }
  stored_nothing law pair kept records file (errors.Config index) other has = record { files = has; moments = rests law pair kept [] file has; spent = spends_none means pair }

  -- a turn that stores nothing, and was made
  pub did_nothing : (IsTrue told → (base : Base) (old new : DiskPair D F) (wal : WalFile) (stored : Stored) → IsCurrent means base old wal stored → OnlyRoom means old new wal → EachSinceGives means base old new stored)
      → (t : Turn) (pair : DiskPair D F) (n node : Node) (file : Option WalFile) (effects : Effects) → IsOpen first told means pair n file → t.stored ≡ [] → persistent_of t.node ≡ persistent_of n → node ≡ t.node → Brings t effects
      → Did first told means t pair pair n node file (Ok effects)
  did_nothing law t pair n node file effects opened none same is brings = record {
    turned = (is, brings);
    kept = same ∙ sym (ap (λ (l : List (StoredRecord LogEntry)). persistent_after (persistent_of n) l) none);
    readable = record { base = opened.base; log = opened.readable; all = subst (λ (l : List (StoredRecord LogEntry)). All IsRecordReadable l) (sym none) none_readable };
    stored = subst (λ (l : List (StoredRecord LogEntry)). HasStored first told means (persistent_of n) l pair pair file None) (sym none) (record {
      files = opened.has;
      moments = rests law pair (persistent_of n) [] file opened.has;
      spent = spends_none means pair;
    });
  }

  -- a turn that was refused before anything was stored
  pub did_refuse : (IsTrue told → (base : Base) (old new : DiskPair D F) (wal : WalFile) (stored : Stored) → IsCurrent means base old wal stored → OnlyRoom means old new wal → EachSinceGives means base old new stored)
      → (t : Turn) (pair : DiskPair D F) (n node : Node) (file : Option WalFile) (e : TurnError) → IsOpen first told means pair n file → persistent_of t.node ≡ persistent_after (persistent_of n) t.stored → All IsRecordReadable t.stored → node ≡ n → e ≢ errors.Disk
      → Did first told means t pair pair n node file (Err e)
  did_refuse law t pair n node file e opened kept all is other = record {
    turned = is;
    kept = kept;
    readable = record { base = opened.base; log = opened.readable; all = all };
    stored = stored_nothing law pair (persistent_of n) t.stored file e other opened.has;
  }

  -- a turn that was refused without a disk's fault is none
  pub did_unchanged : (t : Turn) (old new : DiskPair D F) (n node : Node) (file : Option WalFile) (e : TurnError) → Did first told means t old new n node file (Err e)
      → (e ≡ errors.Disk) ⊎ Did first told means (unchanged n) old new n node file (Err e)
  did_unchanged t old new n node file errors.Disk did = inl refl
  did_unchanged t old new n node file errors.Engine did = inr (record {
    turned = did.turned;
    kept = refl;
    readable = record { base = did.readable.base; log = did.readable.log; all = none_readable };
    stored = record { files = did.stored.files; moments = did.stored.moments; spent = did.stored.spent };
  })
  did_unchanged t old new n node file errors.NoMemory did = inr (record {
    turned = did.turned;
    kept = refl;
    readable = record { base = did.readable.base; log = did.readable.log; all = none_readable };
    stored = record { files = did.stored.files; moments = did.stored.moments; spent = did.stored.spent };
  })
  did_unchanged t old new n node file (errors.Ended count) did = inr (record {
    turned = did.turned;
    kept = refl;
    readable = record { base = did.readable.base; log = did.readable.log; all = none_readable };
    stored = record { files = did.stored.files; moments = did.stored.moments; spent = did.stored.spent };
  })
  did_unchanged t old new n node file (errors.Packet index error) did = inr (record {
    turned = did.turned;
    kept = refl;
    readable = record { base = did.readable.base; log = did.readable.log; all = none_readable };
    stored = record { files = did.stored.files; moments = did.stored.moments; spent = did.stored.spent };
  })
  did_unchanged t old new n node file (errors.Config index) did = inr (record {
    turned = did.turned;
    kept = refl;
    readable = record { base = did.readable.base; log = did.readable.log; all = none_readable };
    stored = record { files = did.stored.files; moments = did.stored.moments; spent = did.stored.spent };
  })

  -- ---- the file behind a turn

  pub open_after : (t : Turn) (old new : DiskPair D F) (n node : Node) (file : Option WalFile) (result : Result Effects TurnError) → Did first told means t old new n node file result
      → IsErrOf result errors.Disk ⊎ IsOpen first told means new node file
  open_after t old new n node file (Ok effects) did =
      let has = reads_after (persistent_of n) t.stored (record { base = did.readable.base; log = did.readable.log }) did.readable.all in
      let here : persistent_after (persistent_of n) t.stored ≡ persistent_of node = sym did.kept ∙ ap (λ (m : Node). persistent_of m) (sym did.turned.0) in
      inr (record {
        has = subst (λ (k : Persistent LogEntry). HasFile first told means new k file) here did.stored.files;
        base = subst (λ (k : Persistent LogEntry). k.base ≡ 0) here has.base;
        readable = subst (λ (k : Persistent LogEntry). AreReadable k.log) here has.log;
      })
  open_after t old new n node file (Err e) did = by e did
    where
      same : (e : TurnError) → node ≡ n → HasFile first told means new (persistent_of n) file → CanBeRead (persistent_of n) t.stored → IsOpen first told means new node file
      same e is has can = subst (λ (m : Node). IsOpen first told means new m file) (sym is) (record { has = has; base = can.base; readable = can.log })

      by : (e : TurnError) → Did first told means t old new n node file (Err e) → IsErrOf (refused e) errors.Disk ⊎ IsOpen first told means new node file
      by errors.Disk did = inl refl
      by errors.Engine did = inr (same errors.Engine did.turned did.stored.files did.readable)
      by errors.NoMemory did = inr (same errors.NoMemory did.turned did.stored.files did.readable)
      by (errors.Ended count) did = inr (same (errors.Ended count) did.turned did.stored.files did.readable)
      by (errors.Packet index error) did = inr (same (errors.Packet index error) did.turned did.stored.files did.readable)
      by (errors.Config index) did = inr (same (errors.Config index) did.turned did.stored.files did.readable)

  pub open_at : (t : Turn) (old new : DiskPair D F) (n node : Node) (file : Option WalFile) (result : Result Effects TurnError) (now : List Member) → now ≡ first → Did first told means t old new n node file result
      → IsErrOf result errors.Disk ⊎ IsOpen now told means new node file
  open_at t old new n node file result now same did =
      subst (λ (f : List Member). IsErrOf result errors.Disk ⊎ IsOpen f told means new node file) (sym same) (open_after t old new n node file result did)
