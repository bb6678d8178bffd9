-- Entries that are read from a file or a packet again.
use Rattle.std.proofs.Common.{◌≡◌, ◌≢◌, ◌<◌, ◌≤◌, ◌+◌, ◌-◌, ℕ, zero, suc, List, [], ◌∷◌, ◌++◌, length, take, drop, map, get_or, Option, Some, None, Result, Ok, Err, IfErr, ◌⊎◌, inl, inr, refl, sym, ◌∙◌, ap, subst, arith}
use Rattle.std.specs.Prelude.{All}
use Rattle.std.proofs.lemmas.List.{map-append, length-map, take_all}
use Rattle.std.proofs.lemmas.List.Elements.{All-append}
use Rattle.rq_values.specs.declared.limits.TheConstants.{MAX_COMMAND}
use Rattle.rq_values.specs.declared.error.DecodeError.{DecodeError}
use Rattle.rq_values.specs.declared.error.DecodeError.TheVariants as decoding
use Rattle.rq_wire.specs.declared.entry.Entry.{Entry}
use Rattle.rq_wire.specs.declared.entry.Body.{Body}
use Rattle.rq_wire.specs.declared.entry.Body.TheVariants as body
use Rattle.rq_wire.specs.declared.config.Member.{Member}
use Rattle.rq_statement.specs.declared.command.Command.{Command}
use Rattle.rq_statement.specs.declared.command.Command.TheVariants.{NoOp, Config, Execute, Request, StrongQuery, Load, Batch, Once}
use Rattle.rq_statement.specs.Bytes.{command_bytes}
use Rattle.rq_command.specs.Commands.{IsDecoding, IsDecoded}
use Rattle.rq_world.specs.declared.log_entry.LogEntry.{LogEntry}
use Rattle.rq_member.specs.declared.reading.EntryError.{EntryError}
use Rattle.rq_member.specs.declared.reading.EntryError.TheVariants as errors
use Rattle.rq_member.specs.Files.{body_of, stored_entry, IsShort, IsReadable, IsEntryReadable, AreReadable}
use Rattle.rq_member.specs.Reading.{IsNoCommand, IsNoEntry, IsUnreadable}

-- ---- commands

abbrev fails : DecodeError → Result Command DecodeError
fails e = Err e

abbrev gives_entry : LogEntry → Result LogEntry EntryError
gives_entry e = Ok e

abbrev gives_fault : EntryError → Result LogEntry EntryError
gives_fault e = Err e

-- how the refusal of a command is told
abbrev pub IsFault : DecodeError → EntryError → Type 0
IsFault error e = ((error ≡ decoding.NoMemory) × (e ≡ errors.NoMemory)) ⊎ ((error ≢ decoding.NoMemory) × (e ≡ errors.Wrong (Some error)))

pub command_ok : (r : Result Command DecodeError) (found command : Command) → r ≡ Ok found → (r ≡ Ok command) ⊎ (r ≡ Err decoding.NoMemory) → found ≡ command
command_ok r found command is (inl same) = cc
command_ok r found command is (inr none) = absurd (cc)

pub command_refused : (r : Result Command DecodeError) (error : DecodeError) (e : EntryError) (command : Command) → r ≡ Err error → (r ≡ Ok command) ⊎ (r ≡ Err decoding.NoMemory) → IsFault error e → e ≡ errors.NoMemory
command_refused r error e command is (inl same) fault = absurd (cc)
command_refused r error e command is (inr none) (inl told) = told.1
command_refused r error e command is (inr none) (inr other) = absurd (other.0 (same error decoding.NoMemory (sym is ∙ none)))
  where
    same : (a b : DecodeError) → fails a ≡ fails b → a ≡ b
    same a b is = cc

-- an error that isn't want of memory is what the bytes say
decoded : (bytes : List ℕ) (e : DecodeError) → IsDecoding MAX_COMMAND bytes (Err e) → e ≢ decoding.NoMemory → IsDecoded MAX_COMMAND bytes (Err e)
decoded bytes (decoding.Short place) reads other = reads
decoded bytes (decoding.Kind place byte) reads other = reads
decoded bytes (decoding.Long place len) reads other = reads
decoded bytes (decoding.NotText place) reads other = reads
decoded bytes (decoding.Order place) reads other = reads
decoded bytes (decoding.Rule place) reads other = reads
decoded bytes (decoding.Text place) reads other = reads
decoded bytes (decoding.Trailing place) reads other = reads
decoded bytes decoding.NoMemory reads other = absurd (other refl)

pub command_wrong : (bytes : List ℕ) (r : Result Command DecodeError) (error : DecodeError) (e : EntryError) → IsDecoding MAX_COMMAND bytes r → r ≡ Err error → IsFault error e
    → (e ≡ errors.NoMemory) ⊎ ((why : DecodeError) × (e ≡ errors.Wrong (Some why)) × IsNoCommand bytes why)
command_wrong bytes r error e reads is (inl none) = inl none.1
command_wrong bytes r error e reads is (inr other) = inr (error, other.1, inr (decoded bytes error (subst (λ (x : Result Command DecodeError). IsDecoding MAX_COMMAND bytes x) is reads) other.0))

-- ---- bodies

pub data_is : (command : Command) → IsShort command → body.Data (command_bytes command) ≡ body_of command
data_is NoOp is = absurd (is.0)
data_is (Config ids) is = refl
data_is (Execute list) is = refl
data_is (Request list) is = refl
data_is (StrongQuery items) is = refl
data_is (Load items) is = refl
data_is (Batch lists) is = refl
data_is (Once id boot number list) is = refl

pub short_readable : (command : Command) → IsShort command → IsReadable command
short_readable NoOp is = absurd (is.0)
short_readable (Config ids) is = is
short_readable (Execute list) is = is
short_readable (Request list) is = is
short_readable (StrongQuery items) is = is
short_readable (Load items) is = is
short_readable (Batch lists) is = is
short_readable (Once id boot number list) is = is

pub record IsData (bytes : List ℕ) (command : Command) : Type 0 where
  pub short : IsShort command
  pub is : bytes ≡ command_bytes command

the_data : (a b : List ℕ) → body.Data a ≡ body.Data b → a ≡ b
the_data a b is = cc

pub data_of : (bytes : List ℕ) (command : Command) → IsReadable command → body.Data bytes ≡ body_of command → IsData bytes command
data_of bytes NoOp reads is = absurd (cc)
data_of bytes (Config ids) reads is = record { short = reads; is = the_data bytes (command_bytes (Config ids)) is }
data_of bytes (Execute list) reads is = record { short = reads; is = the_data bytes (command_bytes (Execute list)) is }
data_of bytes (Request list) reads is = record { short = reads; is = the_data bytes (command_bytes (Request list)) is }
data_of bytes (StrongQuery items) reads is = record { short = reads; is = the_data bytes (command_bytes (StrongQuery items)) is }
data_of bytes (Load items) reads is = record { short = reads; is = the_data bytes (command_bytes (Load items)) is }
data_of bytes (Batch lists) reads is = record { short = reads; is = the_data bytes (command_bytes (Batch lists)) is }
data_of bytes (Once id boot number list) reads is = record { short = reads; is = the_data bytes (command_bytes (Once id boot number list)) is }

pub empty_of : (command : Command) → body.NoOp ≡ body_of command → NoOp ≡ command
empty_of NoOp is = refl
empty_of (Config ids) is = absurd (cc)
empty_of (Execute list) is = absurd (cc)
empty_of (Request list) is = absurd (cc)
empty_of (StrongQuery items) is = absurd (cc)
empty_of (Load items) is = absurd (cc)
empty_of (Batch lists) is = absurd (cc)
empty_of (Once id boot number list) is = absurd (cc)

pub no_config : (config : List Member) (command : Command) → body.Config config ≡ body_of command → ⊥
no_config config NoOp is = absurd (cc)
no_config config (Config ids) is = absurd (cc)
no_config config (Execute list) is = absurd (cc)
no_config config (Request list) is = absurd (cc)
no_config config (StrongQuery items) is = absurd (cc)
no_config config (Load items) is = absurd (cc)
no_config config (Batch lists) is = absurd (cc)
no_config config (Once id boot number list) is = absurd (cc)

-- ---- logs

all_one : (entry : LogEntry) → IsReadable entry.command → AreReadable (entry ∷ [])
all_one entry here zero d less = here
all_one entry here (suc k) d less = absurd (omega arith)

pub readable_more : (log : List LogEntry) (entry : LogEntry) → AreReadable log → IsReadable entry.command → AreReadable (log ++ entry ∷ [])
readable_more log entry all one = All-append IsEntryReadable log (entry ∷ []) all (all_one entry one)

-- the entry at a place of the log
pub record Next (log : List LogEntry) (place : ℕ) : Type 0 where
  pub entry : LogEntry
  pub more : take (place + 1) log ≡ take place log ++ entry ∷ []
  pub stored : (found : Entry) → found ≡ get_or (map stored_entry log) place found → found ≡ stored_entry entry
  pub readable : AreReadable log → IsReadable entry.command

next : (log : List LogEntry) (place : ℕ) → place < length log → Next log place
next [] place less = absurd (omega arith)
next (x ∷ log) zero less = record { entry = x; more = refl; stored = λ found is. is; readable = λ all. all 0 x less }
next (x ∷ log) (suc p) less =
    let n = next log p (omega arith) in
    let e : suc p + 1 ≡ suc (p + 1) = omega arith in
    record {
      entry = n.entry;
      more = ap (λ (m : ℕ). take m (x ∷ log)) e ∙ ap (λ (l : List LogEntry). x ∷ l) n.more;
      stored = n.stored;
      readable = λ all. n.readable (λ k d low. all (suc k) d (omega arith));
    }

taken_more : (entries : List Entry) (place : ℕ) (found : Entry) → place < length entries → found ≡ get_or entries place found → take (place + 1) entries ≡ take place entries ++ found ∷ []
taken_more [] place found less is = absurd (omega arith)
taken_more (x ∷ entries) zero found less is = ap (λ (e : Entry). e ∷ []) (sym is)
taken_more (x ∷ entries) (suc p) found less is =
    let e : suc p + 1 ≡ suc (p + 1) = omega arith in
    ap (λ (m : ℕ). take m (x ∷ entries)) e ∙ ap (λ (l : List Entry). x ∷ l) (taken_more entries p found (omega arith) is)

pub spelled_more : (entries : List Entry) (place : ℕ) (found : Entry) (log : List LogEntry) (entry : LogEntry) → place < length entries → found ≡ get_or entries place found → found ≡ stored_entry entry
    → take place entries ≡ map stored_entry log → take (place + 1) entries ≡ map stored_entry (log ++ entry ∷ [])
spelled_more entries place found log entry less is spelled before =
    taken_more entries place found less is
    ∙ (λ i. before i ++ spelled i ∷ [])
    ∙ sym (map-append stored_entry log (entry ∷ []))

-- so far the log is the one that the entries spell
abbrev pub IsPrefixOf : List Entry → ℕ → List LogEntry → Type 0
IsPrefixOf entries place found = (log : List LogEntry) → AreReadable log → entries ≡ map stored_entry log → found ≡ take place log

pub place_in : (entries : List Entry) (log : List LogEntry) (place : ℕ) → entries ≡ map stored_entry log → place < length entries → Next log place
place_in entries log place is less = next log place (omega (arith, ap length is, length-map log stored_entry))

pub stored_at : (entries : List Entry) (log : List LogEntry) (place : ℕ) (is : entries ≡ map stored_entry log) (less : place < length entries) (found : Entry) → found ≡ get_or entries place found → found ≡ stored_entry (place_in entries log place is less).entry
stored_at entries log place is less found at = (place_in entries log place is less).stored found (at ∙ ap (λ (l : List Entry). get_or l place found) is)

the_entry : (a b : LogEntry) → (gives_entry a ≡ Ok b) ⊎ (gives_entry a ≡ Err errors.NoMemory) → a ≡ b
the_entry a b (inl is) = cc
the_entry a b (inr none) = absurd (cc)

pub prefix_more : (entries : List Entry) (place : ℕ) (before : List LogEntry) (found : Entry) (r : Result LogEntry EntryError) (entry : LogEntry) → r ≡ Ok entry → place < length entries → found ≡ get_or entries place found
    → ((kept : LogEntry) → IsReadable kept.command → found ≡ stored_entry kept → (r ≡ Ok kept) ⊎ (r ≡ Err errors.NoMemory)) → IsPrefixOf entries place before → IsPrefixOf entries (place + 1) (before ++ entry ∷ [])
prefix_more entries place before found r entry ok less at one prefix = λ log all is.
    let n = place_in entries log place is less in
    let e : entry ≡ n.entry = the_entry entry n.entry (subst (λ (x : Result LogEntry EntryError). (x ≡ Ok n.entry) ⊎ (x ≡ Err errors.NoMemory)) ok (one n.entry (n.readable all) (n.stored found (at ∙ ap (λ (l : List Entry). get_or l place found) is)))) in
    (λ i. prefix log all is i ++ e i ∷ []) ∙ sym n.more

the_fault : (e : EntryError) (b : LogEntry) → (gives_fault e ≡ Ok b) ⊎ (gives_fault e ≡ Err errors.NoMemory) → e ≡ errors.NoMemory
the_fault e b (inl some) = absurd (cc)
the_fault e b (inr is) = cc

-- an entry that is one of a log's is refused for want of memory alone
pub prefix_refused : (entries : List Entry) (place : ℕ) (found : Entry) (r : Result LogEntry EntryError) (e : EntryError) → r ≡ Err e → place < length entries → found ≡ get_or entries place found
    → ((kept : LogEntry) → IsReadable kept.command → found ≡ stored_entry kept → (r ≡ Ok kept) ⊎ (r ≡ Err errors.NoMemory)) → (log : List LogEntry) → AreReadable log → entries ≡ map stored_entry log → e ≡ errors.NoMemory
prefix_refused entries place found r e err less at one log all is =
    let n = place_in entries log place is less in
    the_fault e n.entry (subst (λ (x : Result LogEntry EntryError). (x ≡ Ok n.entry) ⊎ (x ≡ Err errors.NoMemory)) err (one n.entry (n.readable all) (n.stored found (at ∙ ap (λ (l : List Entry). get_or l place found) is))))

pub whole_prefix : (entries : List Entry) (place : ℕ) (found log : List LogEntry) → length entries ≤ place → IsPrefixOf entries place found → AreReadable log → entries ≡ map stored_entry log → found ≡ log
whole_prefix entries place found log at prefix all is =
    let size : length log ≤ place = omega (arith, ap length is, length-map log stored_entry, at) in
    prefix log all is ∙ take_all place log size

pub whole_spelled : (entries : List Entry) (place : ℕ) (found : List LogEntry) → length entries ≤ place → take place entries ≡ map stored_entry found → entries ≡ map stored_entry found
whole_spelled entries place found at spelled = sym (take_all place entries at) ∙ spelled

parted : (entries : List Entry) (place : ℕ) (found : Entry) → place < length entries → found ≡ get_or entries place found → entries ≡ take place entries ++ found ∷ drop (place + 1) entries
parted [] place found less is = absurd (omega arith)
parted (x ∷ entries) zero found less is = ap (λ (e : Entry). e ∷ entries) (sym is)
parted (x ∷ entries) (suc p) found less is =
    let e : suc p + 1 ≡ suc (p + 1) = omega arith in
    ap (λ (l : List Entry). x ∷ l) (parted entries p found (omega arith) is) ∙ ap (λ (m : ℕ). x ∷ (take p entries ++ found ∷ drop m (x ∷ entries))) (sym e)

taken_length : (entries : List Entry) (place : ℕ) → place ≤ length entries → length (take place entries) ≡ place
taken_length entries zero less = refl
taken_length [] (suc p) less = absurd (omega arith)
taken_length (x ∷ entries) (suc p) less = ap suc (taken_length entries p (omega arith))

-- an entry that is none of a log, behind those that are
pub unreadable : (behind : ℕ) (entries : List Entry) (place : ℕ) (found : Entry) (log : List LogEntry) (e : EntryError) → place < length entries → found ≡ get_or entries place found
    → take place entries ≡ map stored_entry log → AreReadable log
    → (e ≡ errors.NoMemory) ⊎ ((why : Option DecodeError) × (e ≡ errors.Wrong why) × IsNoEntry found.body why)
    → (e ≡ errors.NoMemory) ⊎ ((why : Option DecodeError) × (e ≡ errors.Wrong why) × IsUnreadable behind entries (behind + place + 1) why)
unreadable behind entries place found log e less at before readable (inl none) = inl none
unreadable behind entries place found log e less at before readable (inr wrong) =
    let size : length log ≡ place = sym (length-map log stored_entry) ∙ sym (ap length before) ∙ taken_length entries place (omega arith) in
    inr (
      wrong.0,
      wrong.1,
      record {
        log = log;
        entry = found;
        more = drop (place + 1) entries;
        split = parted entries place found less at ∙ ap (λ (l : List Entry). l ++ found ∷ drop (place + 1) entries) before;
        readable = readable;
        at = ap (λ (k : ℕ). behind + k + 1) (sym size);
        wrong = wrong.2;
      },
    )

pub err_more : {T E : Type 0} (r : Result T E) (P Q : E → Type 0) → ((e : E) → P e → Q e) → IfErr r P → IfErr r Q
err_more (Ok x) P Q more has = tt
err_more (Err e) P Q more has = more e has

-- a command that is refused is an entry that is
pub data_wrong : (bytes : List ℕ) (b : Body) (e : EntryError) → b ≡ body.Data bytes → (e ≡ errors.NoMemory) ⊎ ((error : DecodeError) × (e ≡ errors.Wrong (Some error)) × IsNoCommand bytes error)
    → (e ≡ errors.NoMemory) ⊎ ((why : Option DecodeError) × (e ≡ errors.Wrong why) × IsNoEntry b why)
data_wrong bytes b e is (inl none) = inl none
data_wrong bytes b e is (inr wrong) = inr (Some wrong.0, wrong.1, subst (λ (x : Body). IsNoEntry x (Some wrong.0)) (sym is) (wrong.0, refl, wrong.2))
