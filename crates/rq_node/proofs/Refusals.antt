-- Why what is stored starts no node.
use Rattle.std.proofs.Common.{◌≡◌, ◌≢◌, ◌<◌, ◌≤◌, ◌+◌, ◌-◌, ℕ, zero, suc, List, [], ◌∷◌, ◌++◌, length, take, drop, map, get_or, Result, Err, ◌⊎◌, inl, inr, refl, sym, ◌∙◌, ap, subst, arith}
use Rattle.std.proofs.lemmas.List.{length-map}
use Rattle.rq_wire.specs.declared.entry.Entry.{Entry}
use Rattle.rq_statement.specs.declared.item.Item.{Item}
use Rattle.rq_values.specs.declared.error.DecodeError.{DecodeError}
use Rattle.rq_values.specs.declared.error.DecodeError.TheVariants as commands
use Rattle.rq_command.specs.Whole.{Decodes, Reads}
use Rattle.rq_node.specs.declared.error.NodeError.{NodeError}
use Rattle.rq_node.specs.declared.error.NodeError.TheVariants as errors
use Rattle.rq_node.specs.declared.log_entry.LogEntry.{LogEntry}
use Rattle.rq_node.specs.Files.{stored_entry}
use Rattle.rq_node.specs.Opened.{IsNoCommand, IsNoEntry, IsNoLog}
use Rattle.rq_node.specs.Sound.{AreReadable, most_bytes}

-- an error that isn't want of memory is what the bytes say
decoded : (limit : ℕ) (bytes : List ℕ) (e : DecodeError) → Reads limit bytes (Err e) → e ≢ commands.NoMemory → Decodes limit bytes (Err e)
decoded limit bytes (commands.Short place) reads other = reads
decoded limit bytes (commands.Kind place byte) reads other = reads
decoded limit bytes (commands.Long place len) reads other = reads
decoded limit bytes (commands.NotText place) reads other = reads
decoded limit bytes (commands.Order place) reads other = reads
decoded limit bytes (commands.Rule place) reads other = reads
decoded limit bytes (commands.Text place) reads other = reads
decoded limit bytes (commands.Trailing place) reads other = reads
decoded limit bytes commands.NoMemory reads other = absurd (other refl)

pub no_command : (bytes : List ℕ) (index : ℕ) (r : Result (List Item) DecodeError) (error : DecodeError) (e : NodeError)
    → Reads most_bytes bytes r → r ≡ Err error
    → ((error ≡ commands.NoMemory) × (e ≡ errors.NoMemory)) ⊎ ((error ≢ commands.NoMemory) × (e ≡ errors.Command index error))
    → (e ≡ errors.NoMemory) ⊎ ((error : DecodeError) × (e ≡ errors.Command index error) × IsNoCommand bytes error)
no_command bytes index r error e reads is (inl none) = inl none.1
no_command bytes index r error e reads is (inr other) =
    inr (error, other.1, inr (decoded most_bytes bytes error (subst (λ (x : Result (List Item) DecodeError). Reads most_bytes bytes x) is reads) other.0))

parted : (entries : List Entry) (place : ℕ) (found : Entry) → place < length entries → found ≡ get_or entries place found → entries ≡ take place entries ++ found ∷ drop (place + 1) entries
parted [] place found less is = absurd (omega arith)
parted (x ∷ entries) zero found less is = ap (λ (e : Entry). e ∷ entries) (sym is)
parted (x ∷ entries) (suc p) found less is =
    let e : suc p + 1 ≡ suc (p + 1) = omega arith in
    ap (λ (l : List Entry). x ∷ l) (parted entries p found (omega arith) is) ∙ ap (λ (m : ℕ). x ∷ (take p entries ++ found ∷ drop m (x ∷ entries))) (sym e)

-- an entry that is none of a node's log, behind those that are
pub no_log : (entries : List Entry) (place : ℕ) (found : Entry) (log : List LogEntry) (e : NodeError) → place < length entries → found ≡ get_or entries place found
    → take place entries ≡ map stored_entry log → AreReadable log
    → (e ≡ errors.NoMemory) ⊎ IsNoEntry (place + 1) found.body e → (e ≡ errors.NoMemory) ⊎ IsNoLog entries e
no_log entries place found log e less at before readable (inl none) = inl none
no_log entries place found log e less at before readable (inr wrong) =
    let size : length log ≡ place = sym (length-map log stored_entry) ∙ sym (ap length before) ∙ taken_length entries place (omega arith) in
    inr (record {
      log = log;
      entry = found;
      more = drop (place + 1) entries;
      split = parted entries place found less at ∙ ap (λ (l : List Entry). l ++ found ∷ drop (place + 1) entries) before;
      readable = readable;
      wrong = subst (λ (n : ℕ). IsNoEntry (n + 1) found.body e) (sym size) wrong;
    })
  where
    taken_length : (entries : List Entry) (place : ℕ) → place ≤ length entries → length (take place entries) ≡ place
    taken_length entries zero less = refl
    taken_length [] (suc p) less = absurd (omega arith)
    taken_length (x ∷ entries) (suc p) less = ap suc (taken_length entries p (omega arith))
