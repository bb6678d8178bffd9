-- A frame is read exactly where the spelling of an allowed frame stands.
use Rattle.std.proofs.Common.{true, ◌≡◌, ℕ, zero, suc, ◌+◌, ◌≤◌, ◌<◌, ◌^◌, ◌==◌, List, [], ◌∷◌, ◌++◌, length, Option, None, Result, Ok, Err, cond, refl, sym, ap, subst, ◌∙◌, arith, append_assoc, length-append}
use Rattle.std.proofs.lemmas.Bool.Decides.{nat_tests}
use Rattle.std.specs.List.{flat_map}
use Rattle.rq_values.specs.declared.error.DecodeError.{DecodeError}
use Rattle.rq_values.specs.declared.error.DecodeError.TheVariants.{Kind, Rule}
use Rattle.rq_values.specs.Text.{is_id}
use Rattle.rq_values.specs.Spelling.{u32_bytes, u64_bytes, sized, option_bytes, list_bytes}
use Rattle.rq_values.specs.Reading.{◌>>=◌, made, checked, u8_at, u32_at, u64_at, id_at, option_at, many_at, sized_at}
use Rattle.rq_values.proofs.Local.{bind_ok, guard_ok, eq_true, is_eq}
use Rattle.rq_values.specs.Exact.{IsExact, IsNamed, IsNoneOr, AreProper}
use Rattle.rq_values.proofs.Exact.{exact_bind, exact_made, exact_checked, exact_same, exact_u8, exact_u32, exact_u64, exact_id, exact_option, exact_many}
use Rattle.rq_wire.specs.declared.entry.Entry.{Entry}
use Rattle.rq_wire.specs.Spelling.{entry_bytes}
use Rattle.rq_wire.specs.Reading.{entry_at}
use Rattle.rq_wire.specs.Exact.{IsEntry}
use Rattle.rq_wire.proofs.Exact.{exact_entry}
use Rattle.rq_wal.specs.declared.base.Stored.{Stored}
use Rattle.rq_wire.specs.declared.frame.Frame.{Frame}
use Rattle.rq_wire.specs.declared.frame.Frame.TheVariants.{Vote, Splice, Boot}
use Rattle.rq_wal.specs.Spelling.{kind_of, payload_bytes, frame_bytes}
use Rattle.rq_wal.specs.Reading.{text_limit, breaks, is_small, is_next, is_some, is_kind, some_entries_at, vote_at, splice_at, boot_at, payload_at, frame_at}
use Rattle.rq_wal.specs.Rules.{IsAllowed}

-- a length, and what fills it
pub exact_sized : {A : Type 0} (size : List ℕ → Result (ℕ × List ℕ) DecodeError) (number : ℕ → List ℕ) (Fits : ℕ → Type 0) (one : List ℕ → Result (A × List ℕ) DecodeError) (s : A → List ℕ) (P : A → Type 0) → IsExact size number Fits → IsExact one s P
    → IsExact (sized_at size one) (λ a. number (length (s a)) ++ s a) (λ a. P a × Fits (length (s a)))
unfolding sized_at
exact_sized {A} size number Fits one s P sizes exact = record {
  reads = λ a rest proper.
      let all = (number (length (s a)) ++ s a) ++ rest in
      let check : (length (s a ++ rest) == length (s a) + length rest) ≡ true = is_eq (length (s a ++ rest)) (length (s a) + length rest) (length-append (s a) rest) in
      ap (λ r. r >>= λ n. one n.1 >>= λ x. cond {A = Result (A × List ℕ) DecodeError} (length n.1 == n.0 + length x.1) (Ok x) (Err (Rule (length all)))) (ap size (append_assoc (number (length (s a))) (s a) rest) ∙ sizes.reads (length (s a)) (s a ++ rest) proper.1)
      ∙ ap (λ r. r >>= λ x. cond {A = Result (A × List ℕ) DecodeError} (length (s a ++ rest) == length (s a) + length x.1) (Ok x) (Err (Rule (length all)))) (exact.reads a rest proper.0)
      ∙ ap (λ b. cond {A = Result (A × List ℕ) DecodeError} b (Ok (a, rest)) (Err (Rule (length all)))) check;
  stood = λ bytes a rest all h.
      let len = bind_ok (size bytes) (λ n. one n.1 >>= λ x. cond {A = Result (A × List ℕ) DecodeError} (length n.1 == n.0 + length x.1) (Ok x) (Err (Rule (length bytes)))) (a, rest) h in
      let thing = bind_ok (one len.0.1) (λ x. cond {A = Result (A × List ℕ) DecodeError} (length len.0.1 == len.0.0 + length x.1) (Ok x) (Err (Rule (length bytes)))) (a, rest) len.2 in
      let passed = guard_ok (length len.0.1 == len.0.0 + length thing.0.1) thing.0 (a, rest) (Rule (length bytes)) thing.2 in
      let prefix = sizes.stood bytes len.0.0 len.0.1 all len.1 in
      let back = exact.stood len.0.1 a rest prefix.behind (thing.1 ∙ ap Ok passed.1) in
      let filled : length len.0.1 ≡ len.0.0 + length rest = eq_true _ _ passed.0 ∙ ap (λ x. len.0.0 + length x.1) passed.1 in
      let fits : len.0.0 ≡ length (s a) = omega (arith, filled, ap length back.is, length-append (s a) rest) in
      record {
        is = prefix.is ∙ ap (λ (l : List ℕ). number len.0.0 ++ l) back.is ∙ ap (λ (n : ℕ). number n ++ (s a ++ rest)) fits ∙ sym (append_assoc (number (length (s a))) (s a) rest);
        proper = (back.proper, subst Fits fits prefix.proper);
        behind = back.behind;
      };
}

-- ---- what a frame says

abbrev OfKind : Stored → ℕ → Frame → Type 0
OfKind stored kind frame = (kind_of frame ≡ kind) × IsAllowed stored frame

abbrev term_of : Frame → ℕ
term_of (Vote term vote) = term
term_of (Splice from entries) = from
term_of (Boot boot) = boot

abbrev vote_of : Frame → Option (List ℕ)
vote_of (Vote term vote) = vote
vote_of (Splice from entries) = None
vote_of (Boot boot) = None

abbrev entries_of : Frame → List Entry
entries_of (Vote term vote) = []
entries_of (Splice from entries) = entries
entries_of (Boot boot) = []

abbrev OfTerm : ℕ → Frame → Type 0
OfTerm term frame = (frame ≡ Vote term (vote_of frame)) × IsNoneOr (IsNamed is_id text_limit) (vote_of frame)

exact_vote : (stored : Stored) → IsExact vote_at payload_bytes (OfKind stored 1)
unfolding vote_at
exact_vote stored =
    exact_same vote_at (λ f. u64_bytes (term_of f) ++ option_bytes sized (vote_of f)) payload_bytes (λ f. (term_of f < 2 ^ 64) × OfTerm (term_of f) f) (OfKind stored 1)
    (exact_bind u64_at (λ term. made (option_at (id_at text_limit)) (Vote term)) u64_bytes (λ _ f. option_bytes sized (vote_of f)) (λ n. n < 2 ^ 64) OfTerm term_of exact_u64
    (λ term _. exact_made (option_at (id_at text_limit)) (option_bytes sized) (IsNoneOr (IsNamed is_id text_limit)) (Vote term) vote_of (OfTerm term) (exact_option (id_at text_limit) sized (IsNamed is_id text_limit) (exact_id text_limit))
    (λ f p. (p.1, sym p.0)) (λ vote p. ((refl, p), refl)))
    (λ term f q. ap term_of q.0))
    same there here
  where
    same : (f : Frame) → (term_of f < 2 ^ 64) × OfTerm (term_of f) f → u64_bytes (term_of f) ++ option_bytes sized (vote_of f) ≡ payload_bytes f
    same (Vote term vote) p = refl
    same (Splice from entries) p = absurd (omega (arith, ap kind_of p.1.0))
    same (Boot boot) p = absurd (omega (arith, ap kind_of p.1.0))

    there : (f : Frame) → (term_of f < 2 ^ 64) × OfTerm (term_of f) f → OfKind stored 1 f
    there (Vote term vote) p = (refl, (p.0, p.1.1))
    there (Splice from entries) p = absurd (omega (arith, ap kind_of p.1.0))
    there (Boot boot) p = absurd (omega (arith, ap kind_of p.1.0))

    here : (f : Frame) → OfKind stored 1 f → (term_of f < 2 ^ 64) × OfTerm (term_of f) f
    here (Vote term vote) p = (p.1.0, (refl, p.1.1))
    here (Splice from entries) p = absurd (omega (arith, p.0))
    here (Boot boot) p = absurd (omega (arith, p.0))

abbrev AreEntries : List Entry → Type 0
AreEntries entries = ((length entries < 2 ^ 32) × (is_some (length entries) ≡ true)) × AreProper (IsEntry text_limit) entries

exact_some_entries : IsExact some_entries_at (list_bytes entry_bytes) AreEntries
unfolding some_entries_at
exact_some_entries =
    exact_same some_entries_at (list_bytes entry_bytes) (list_bytes entry_bytes)
    (λ es. ((length es < 2 ^ 32) × (is_some (length es) ≡ true)) × ((length es ≡ length es) × AreProper (IsEntry text_limit) es)) AreEntries
    (exact_bind (checked u32_at is_some breaks) (many_at (entry_at text_limit)) u32_bytes (λ _. flat_map entry_bytes) (λ n. (n < 2 ^ 32) × (is_some n ≡ true)) (λ n es. (length es ≡ n) × AreProper (IsEntry text_limit) es) length
    (exact_checked u32_at u32_bytes (λ n. n < 2 ^ 32) is_some breaks exact_u32) (λ n _. exact_many (entry_at text_limit) entry_bytes (IsEntry text_limit) (exact_entry text_limit) n) (λ n es p. p.0))
    (λ es _. refl) (λ es p. (p.0, p.1.1)) (λ es p. (p.0, (refl, p.1)))

abbrev OfFrom : ℕ → Frame → Type 0
OfFrom from frame = (frame ≡ Splice from (entries_of frame)) × AreEntries (entries_of frame)

exact_splice : (stored : Stored) → IsExact (splice_at stored) payload_bytes (OfKind stored 2)
unfolding splice_at
exact_splice stored =
    exact_same (splice_at stored) (λ f. u64_bytes (term_of f) ++ list_bytes entry_bytes (entries_of f)) payload_bytes (λ f. ((term_of f < 2 ^ 64) × (is_next stored (term_of f) ≡ true)) × OfFrom (term_of f) f) (OfKind stored 2)
    (exact_bind (checked u64_at (is_next stored) breaks) (λ from. made some_entries_at (Splice from)) u64_bytes (λ _ f. list_bytes entry_bytes (entries_of f)) (λ n. (n < 2 ^ 64) × (is_next stored n ≡ true)) OfFrom term_of
    (exact_checked u64_at u64_bytes (λ n. n < 2 ^ 64) (is_next stored) breaks exact_u64)
    (λ from _. exact_made some_entries_at (list_bytes entry_bytes) AreEntries (Splice from) entries_of (OfFrom from) exact_some_entries (λ f p. (p.1, sym p.0)) (λ es p. ((refl, p), refl)))
    (λ from f q. ap term_of q.0))
    same there here
  where
    same : (f : Frame) → ((term_of f < 2 ^ 64) × (is_next stored (term_of f) ≡ true)) × OfFrom (term_of f) f → u64_bytes (term_of f) ++ list_bytes entry_bytes (entries_of f) ≡ payload_bytes f
    same (Vote term vote) p = absurd (omega (arith, ap kind_of p.1.0))
    same (Splice from entries) p = refl
    same (Boot boot) p = absurd (omega (arith, ap kind_of p.1.0))

    there : (f : Frame) → ((term_of f < 2 ^ 64) × (is_next stored (term_of f) ≡ true)) × OfFrom (term_of f) f → OfKind stored 2 f
    there (Vote term vote) p = absurd (omega (arith, ap kind_of p.1.0))
    there (Splice from entries) p = (refl, (p.0, p.1.1))
    there (Boot boot) p = absurd (omega (arith, ap kind_of p.1.0))

    here : (f : Frame) → OfKind stored 2 f → ((term_of f < 2 ^ 64) × (is_next stored (term_of f) ≡ true)) × OfFrom (term_of f) f
    here (Vote term vote) p = absurd (omega (arith, p.0))
    here (Splice from entries) p = (p.1.0, (refl, p.1.1))
    here (Boot boot) p = absurd (omega (arith, p.0))

exact_boot : (stored : Stored) → IsExact boot_at payload_bytes (OfKind stored 3)
unfolding boot_at
exact_boot stored =
    exact_same boot_at (λ f. u64_bytes (term_of f)) payload_bytes (OfKind stored 3) (OfKind stored 3)
    (exact_made (checked u64_at is_small breaks) u64_bytes (λ n. (n < 2 ^ 64) × (is_small n ≡ true)) Boot term_of (OfKind stored 3) (exact_checked u64_at u64_bytes (λ n. n < 2 ^ 64) is_small breaks exact_u64)
    there (λ n p. ((refl, p), refl)))
    same (λ f p. p) (λ f p. p)
  where
    there : (f : Frame) → OfKind stored 3 f → ((term_of f < 2 ^ 64) × (is_small (term_of f) ≡ true)) × (Boot (term_of f) ≡ f)
    there (Vote term vote) p = absurd (omega (arith, p.0))
    there (Splice from entries) p = absurd (omega (arith, p.0))
    there (Boot boot) p = (p.1, refl)

    same : (f : Frame) → OfKind stored 3 f → u64_bytes (term_of f) ≡ payload_bytes f
    same (Vote term vote) p = absurd (omega (arith, p.0))
    same (Splice from entries) p = absurd (omega (arith, p.0))
    same (Boot boot) p = refl

no_more : (kind : ℕ) → is_kind kind ≡ true → kind ≤ 3
no_more kind is = grind (arith, nat_tests)

exact_payload : (stored : Stored) (kind : ℕ) → (kind < 256) × (is_kind kind ≡ true) → IsExact (payload_at stored kind) payload_bytes (OfKind stored kind)
unfolding payload_at
exact_payload stored zero p = absurd (let q = p.1 in cc)
exact_payload stored (suc zero) p = exact_vote stored
exact_payload stored (suc (suc zero)) p = exact_splice stored
exact_payload stored (suc (suc (suc zero))) p = exact_boot stored
exact_payload stored (suc (suc (suc (suc n)))) p = absurd (omega (arith, no_more (suc (suc (suc (suc n)))) p.1))

abbrev IsWritable : Stored → Frame → Type 0
IsWritable stored frame = IsAllowed stored frame × (length (payload_bytes frame) < 2 ^ 32)

pub exact_frame : (stored : Stored) → IsExact (frame_at stored) frame_bytes (IsWritable stored)
unfolding frame_at
exact_frame stored =
    exact_same (frame_at stored) frame_bytes frame_bytes (λ f. ((kind_of f < 256) × (is_kind (kind_of f) ≡ true)) × (OfKind stored (kind_of f) f × (length (payload_bytes f) < 2 ^ 32))) (IsWritable stored)
    (exact_bind (checked u8_at is_kind Kind) (λ kind. sized_at u32_at (payload_at stored kind)) (λ kind. kind ∷ []) (λ _ f. sized (payload_bytes f)) (λ kind. (kind < 256) × (is_kind kind ≡ true)) (λ kind f. OfKind stored kind f × (length (payload_bytes f) < 2 ^ 32)) kind_of
    (exact_checked u8_at (λ kind. kind ∷ []) (λ kind. kind < 256) is_kind Kind exact_u8) (λ kind p. exact_sized u32_at u32_bytes (λ n. n < 2 ^ 32) (payload_at stored kind) payload_bytes (OfKind stored kind) exact_u32 (exact_payload stored kind p))
    (λ kind f q. q.0.0))
    (λ f _. refl) (λ f p. (p.1.0.1, p.1.1)) (λ f p. (ranked f, ((refl, p.0), p.1)))
  where
    ranked : (f : Frame) → (kind_of f < 256) × (is_kind (kind_of f) ≡ true)
    ranked (Vote term vote) = (omega arith, refl)
    ranked (Splice from entries) = (omega arith, refl)
    ranked (Boot boot) = (omega arith, refl)
