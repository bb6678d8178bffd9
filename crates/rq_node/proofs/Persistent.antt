-- What is kept, and what a file stands for that has it.
use Rattle.std.proofs.Common.{◌≡◌, ◌+◌, ◌-◌, ℕ, List, [], ◌∷◌, ◌++◌, take, length, map, Result, Ok, Some, refl, sym, ◌∙◌, ap, arith}
use Rattle.std.proofs.lemmas.List.{map-append, take-map}
use Rattle.std.proofs.Math.Seq.{take-length}
use Rattle.rq_wal.specs.declared.base.Base.{Base}
use Rattle.rq_wal.specs.declared.base.Stored.{Stored}
use Rattle.rq_wal.specs.declared.error.OpenError.{OpenError}
use Rattle.rq_wire.specs.declared.frame.Frame.{Frame}
use Rattle.rq_wire.specs.declared.frame.Frame.TheVariants as shapes
use Rattle.rq_wal.specs.Stored.{applied, applied_all, started, stored_after}
use Rattle.rq_wal.specs.Current.{IsSome}
use Rattle.rq_statement.specs.declared.item.Item.{Item}
use Rattle.rq_statement.specs.Bytes.{execute_bytes}
use Rattle.rq_wire.specs.declared.entry.Body.TheVariants as body
use Rattle.rq_node.specs.declared.log_entry.LogEntry.{LogEntry}
use Rattle.rq_node.specs.declared.log_entry.Content.TheVariants.{NoOp, Execute}
use Rattle.rq_node.specs.Files.{stored_entry, stored_of, frame_of}
use Rattle.rq_node.specs.Node.{Node, Persistent, StoredRecord, Vote, Splice, Boot, persistent_of, persistent_with, persistent_after}
use Rattle.rq_node.specs.Rules.{led, taken_up, entry_in}
use Rattle.rq_node.specs.Recovery.{IsSomeOf}

spliced : (from : ℕ) (log entries : List LogEntry) → take (from - 0 - 1) (map stored_entry log) ++ map stored_entry entries ≡ map stored_entry (take (from - 1) log ++ entries)
spliced from log entries =
    let e : from - 0 - 1 ≡ from - 1 = omega arith in
    ap (λ (n : ℕ). take n (map stored_entry log) ++ map stored_entry entries) e
    ∙ ap (λ l. l ++ map stored_entry entries) (take-map stored_entry (from - 1) log)
    ∙ sym (map-append stored_entry (take (from - 1) log) entries)

-- one frame more is one thing more
stored_with : (id : List ℕ) (kept : Persistent) (item : StoredRecord) → applied (stored_of id kept) (frame_of item) ≡ stored_of id (persistent_with kept item)
stored_with id kept (Vote term vote) = refl
stored_with id kept (Splice from entries) = λ i. record (stored_of id kept) { entries = spliced from kept.log entries i }
stored_with id kept (Boot boot) = refl

-- and so are several
pub stored_after_kept : (id : List ℕ) (kept : Persistent) (items : List StoredRecord) → applied_all (stored_of id kept) (map frame_of items) ≡ stored_of id (persistent_after kept items)
stored_after_kept id kept [] = refl
stored_after_kept id kept (item ∷ items) =
    ap (λ (s : Stored). applied_all s (map frame_of items)) (stored_with id kept item) ∙ stored_after_kept id (persistent_with kept item) items

pub some_of : (id : List ℕ) (kept : Persistent) (items : List StoredRecord) (reading : Result Stored OpenError) → IsSome (stored_of id kept) (map frame_of items) reading → IsSomeOf id kept items reading
some_of id kept items reading some = (
  some.0,
  some.2 ∙ ap (λ (frames : List Frame). Ok (applied_all (stored_of id kept) frames)) (take-map frame_of some.0 items)
      ∙ ap (λ (s : Stored). Ok s) (stored_after_kept id kept (take some.0 items)),
)

-- a base stays
base_stays : (stored : Stored) (frames : List Frame) → (applied_all stored frames).base ≡ stored.base
base_stays stored [] = refl
base_stays stored (frame ∷ frames) = base_stays (applied stored frame) frames ∙ same stored frame
  where
    same : (stored : Stored) (frame : Frame) → (applied stored frame).base ≡ stored.base
    same stored (shapes.Vote term vote) = refl
    same stored (shapes.Splice from more) = refl
    same stored (shapes.Boot boot) = refl

pub base_is : (first : Base) (frames : List Frame) (stored : Stored) → stored_after first frames ≡ stored → stored.base ≡ first
base_is first frames stored folds = sym (ap (λ (s : Stored). s.base) folds) ∙ base_stays (started first) frames

-- one entry is appended
appends : (log : List LogEntry) (entry : LogEntry) → take (length log + 1 - 1) log ++ entry ∷ [] ≡ log ++ entry ∷ []
appends log entry =
    let e : length log + 1 - 1 ≡ length log = omega arith in
    ap (λ (n : ℕ). take n log ++ entry ∷ []) e ∙ ap (λ (l : List LogEntry). l ++ entry ∷ []) (take-length log)

pub kept_led : (n : Node) → persistent_after (persistent_of n) (led n).records ≡ persistent_of (led n).node
kept_led n = λ i. record (persistent_of (led n).node) { log = appends n.log (record { term = n.term + 1; content = NoOp }) i }

pub kept_taken : (n : Node) (number : ℕ) (items : List Item) → persistent_after (persistent_of n) (taken_up n number items).records ≡ persistent_of (taken_up n number items).node
kept_taken n number items = λ i. record (persistent_of (taken_up n number items).node) { log = appends n.log (entry_in n (Execute items)) i }

-- the frames of a rule are those of what it makes durable
pub led_frames : (n : Node) (vote splice : Frame) (index : ℕ) → vote ≡ shapes.Vote (n.term + 1) (Some n.id) → splice ≡ shapes.Splice index (record { term = n.term + 1; body = body.NoOp } ∷ []) → index ≡ length n.log + 1
    → vote ∷ splice ∷ [] ≡ map frame_of (led n).records
led_frames n vote splice index voted spliced at =
    let is : splice ≡ shapes.Splice (length n.log + 1) (record { term = n.term + 1; body = body.NoOp } ∷ []) = spliced ∙ ap (λ (k : ℕ). shapes.Splice k (record { term = n.term + 1; body = body.NoOp } ∷ [])) at in
    λ i. voted i ∷ is i ∷ []

pub taken_frames : (n : Node) (number : ℕ) (items : List Item) (splice : Frame) (index : ℕ) (command : List ℕ) → splice ≡ shapes.Splice index (record { term = n.term; body = body.Data command } ∷ []) → command ≡ execute_bytes items → index ≡ length n.log + 1
    → splice ∷ [] ≡ map frame_of (taken_up n number items).records
taken_frames n number items splice index command spliced spelled at =
    let is : splice ≡ shapes.Splice (length n.log + 1) (record { term = n.term; body = body.Data (execute_bytes items) } ∷ []) =
    spliced ∙ (λ i. shapes.Splice (at i) (record { term = n.term; body = body.Data (spelled i) } ∷ [])) in
    λ i. is i ∷ []
