-- Packets are read exactly where their spellings stand.
use Rattle.std.proofs.Common.{Bool, true, ◌≡◌, ℕ, zero, suc, ◌≤◌, ◌<◌, ◌^◌, ◌==◌, List, [], ◌∷◌, ◌++◌, length, Result, nat_le, nat_lt, refl, sym, ap, arith}
use Rattle.std.proofs.lemmas.Bool.Decides.{nat_tests}
use Rattle.rq_values.specs.declared.error.DecodeError.{DecodeError}
use Rattle.rq_values.specs.declared.error.DecodeError.TheVariants.{Kind}
use Rattle.rq_values.specs.Text.{is_id}
use Rattle.rq_values.specs.Spelling.{bool_bytes, u64_bytes, sized, list_bytes}
use Rattle.rq_values.specs.Reading.{◌>>=◌, made, u8_at, kind_at, bool_at, u64_at, id_at, list_at}
use Rattle.rq_values.specs.Exact.{IsExact, IsNamed, IsKind, AreProper}
use Rattle.rq_values.proofs.Exact.{exact_bind, exact_made, exact_same, exact_checked, exact_u8, exact_kind, exact_bool, exact_u64, exact_id, exact_list}
use Rattle.rq_values.proofs.Local.{eq_true}
use Rattle.rq_wire.specs.declared.entry.Entry.{Entry}
use Rattle.rq_wire.specs.Spelling.{entry_bytes}
use Rattle.rq_wire.specs.Reading.{entry_at}
use Rattle.rq_wire.specs.Exact.{IsEntry}
use Rattle.rq_wire.proofs.Exact.{exact_entry}
use Rattle.rq_log.specs.declared.packet.Message.{Message}
use Rattle.rq_log.specs.declared.packet.Message.TheVariants as m
use Rattle.rq_log.specs.declared.packet.Packet.{Packet}
use Rattle.rq_packets.specs.Spelling.{kind_of, two_bytes, fields_bytes, header_bytes, header_of, packet_bytes}
use Rattle.rq_packets.specs.Reading.{both_at, two_at, format_at, packet_kind_at, header_at, append_at, append_say_at, message_at, packet_at}
use Rattle.rq_packets.specs.Exact.{AreTwo, IsMessage, IsPacket}

abbrev Reader : Type 0 → Type 0
Reader A = List ℕ → Result (A × List ℕ) DecodeError

within : (m n : ℕ) → nat_le m n ≡ true → m ≤ n
within m n h = grind (arith, nat_tests)

below : (m n : ℕ) → nat_lt m n ≡ true → m < n
below m n h = grind (arith, nat_tests)

-- ---- two things, and the header

exact_both : {A B : Type 0} (one : Reader A) (two : Reader B) (s : A → List ℕ) (t : B → List ℕ) (P : A → Type 0) (Q : B → Type 0)
    → IsExact one s P → IsExact two t Q → IsExact (both_at one two) (λ x. s x.0 ++ t x.1) (λ x. P x.0 × Q x.1)
exact_both {A} {B} one two s t P Q e f =
    exact_same (both_at one two) (λ (x : A × B). s x.0 ++ t x.1) (λ (x : A × B). s x.0 ++ t x.1) (λ (x : A × B). P x.0 × ((x.0 ≡ x.0) × Q x.1)) (λ (x : A × B). P x.0 × Q x.1)
    (exact_bind one (λ (a : A). made two (λ (y : B). (a, y))) s (λ _ x. t x.1) P (λ a x. (x.0 ≡ a) × Q x.1) (λ (x : A × B). x.0) e
    (λ a _. exact_made two t Q (λ (y : B). (a, y)) (λ (x : A × B). x.1) (λ (x : A × B). (x.0 ≡ a) × Q x.1) f
    (λ x p. (p.1, λ i. (sym p.0 i, x.1))) (λ y p. ((refl, p), refl)))
    (λ a x p. p.0))
    (λ x _. refl) (λ x p. (p.0, p.1.1)) (λ x p. (p.0, (refl, p.1)))

exact_two : IsExact two_at two_bytes AreTwo
unfolding two_at
exact_two = exact_both u64_at u64_at u64_bytes u64_bytes (λ n. n < 2 ^ 64) (λ n. n < 2 ^ 64) exact_u64 exact_u64

abbrev IsFormat : ℕ → Type 0
IsFormat byte = (byte < 256) × ((byte == 1) ≡ true)

exact_format : IsExact format_at (λ byte. byte ∷ []) IsFormat
unfolding format_at
exact_format = exact_checked u8_at (λ byte. byte ∷ []) (λ byte. byte < 256) (λ byte. byte == 1) Kind exact_u8

abbrev IsPacketKind : ℕ → Type 0
IsPacketKind kind = IsKind 4 kind × (nat_lt 0 kind ≡ true)

exact_packet_kind : IsExact packet_kind_at (λ kind. kind ∷ []) IsPacketKind
unfolding packet_kind_at
exact_packet_kind = exact_checked (kind_at 4) (λ kind. kind ∷ []) (IsKind 4) (λ kind. nat_lt 0 kind) Kind (exact_kind 4)

abbrev Header : Type 0
Header = ℕ × (ℕ × (ℕ × (List ℕ × List ℕ)))

abbrev IsHeader : ℕ → Header → Type 0
IsHeader limit h = IsFormat h.0 × (IsPacketKind h.1.0 × ((h.1.1.0 < 2 ^ 64) × (IsNamed is_id limit h.1.1.1.0 × IsNamed is_id limit h.1.1.1.1)))

exact_header : (limit : ℕ) → IsExact (header_at limit) header_bytes (IsHeader limit)
unfolding header_at
exact_header limit =
    let named = IsNamed is_id limit in
    let ids = exact_both (id_at limit) (id_at limit) sized sized named named (exact_id limit) (exact_id limit) in
    let term = exact_both u64_at (both_at (id_at limit) (id_at limit)) u64_bytes (λ x. sized x.0 ++ sized x.1) (λ n. n < 2 ^ 64) (λ x. named x.0 × named x.1) exact_u64 ids in
    let kind =
    exact_both packet_kind_at (both_at u64_at (both_at (id_at limit) (id_at limit))) (λ k. k ∷ []) (λ x. u64_bytes x.0 ++ (sized x.1.0 ++ sized x.1.1)) IsPacketKind
    (λ x. (x.0 < 2 ^ 64) × (named x.1.0 × named x.1.1)) exact_packet_kind term in
    exact_both format_at (both_at packet_kind_at (both_at u64_at (both_at (id_at limit) (id_at limit)))) (λ k. k ∷ []) (λ x. x.0 ∷ (u64_bytes x.1.0 ++ (sized x.1.1.0 ++ sized x.1.1.1))) IsFormat
    (λ x. IsPacketKind x.0 × ((x.1.0 < 2 ^ 64) × (named x.1.1.0 × named x.1.1.1))) exact_format kind

-- ---- messages, and their parts

abbrev numbers_of : {E : Type 0} → Message E → ℕ × ℕ
numbers_of (m.VoteAsk last_index last_term) = (last_index, last_term)
numbers_of (m.VoteSay granted) = (0, 0)
numbers_of (m.Append prev prev_term commit probe entries) = (prev, prev_term)
numbers_of (m.AppendSay ok at probe) = (at, probe)

abbrev later_numbers_of : {E : Type 0} → Message E → ℕ × ℕ
later_numbers_of (m.VoteAsk last_index last_term) = (0, 0)
later_numbers_of (m.VoteSay granted) = (0, 0)
later_numbers_of (m.Append prev prev_term commit probe entries) = (commit, probe)
later_numbers_of (m.AppendSay ok at probe) = (0, 0)

abbrev says : {E : Type 0} → Message E → Bool
says (m.VoteAsk last_index last_term) = true
says (m.VoteSay granted) = granted
says (m.Append prev prev_term commit probe entries) = true
says (m.AppendSay ok at probe) = ok

abbrev entries_of : {E : Type 0} → Message E → List E
entries_of (m.VoteAsk last_index last_term) = []
entries_of (m.VoteSay granted) = []
entries_of (m.Append prev prev_term commit probe entries) = entries
entries_of (m.AppendSay ok at probe) = []

module _ {E : Type 0} (one : Reader E) (spelled : E → List ℕ) (P : E → Type 0) where
  abbrev OfKind : ℕ → Message E → Type 0
  OfKind kind b = (kind_of b ≡ kind) × IsMessage P b

  exact_vote_ask : IsExact (made two_at (λ two. m.VoteAsk two.0 two.1)) (fields_bytes spelled) (OfKind 1)
  exact_vote_ask =
      exact_same (made two_at (λ two. m.VoteAsk two.0 two.1)) (λ b. two_bytes (numbers_of b)) (fields_bytes spelled) (OfKind 1) (OfKind 1)
      (exact_made two_at two_bytes AreTwo (λ two. m.VoteAsk two.0 two.1) numbers_of (OfKind 1) exact_two there (λ two p. ((refl, p), refl)))
      same (λ b p. p) (λ b p. p)
    where
      there : (b : Message E) → OfKind 1 b → AreTwo (numbers_of b) × (m.VoteAsk (numbers_of b).0 (numbers_of b).1 ≡ b)
      there (m.VoteAsk last_index last_term) p = (p.1, refl)
      there (m.VoteSay granted) p = absurd (omega (arith, p.0))
      there (m.Append prev prev_term commit probe entries) p = absurd (omega (arith, p.0))
      there (m.AppendSay ok at probe) p = absurd (omega (arith, p.0))

      same : (b : Message E) → OfKind 1 b → two_bytes (numbers_of b) ≡ fields_bytes spelled b
      same (m.VoteAsk last_index last_term) p = refl
      same (m.VoteSay granted) p = absurd (omega (arith, p.0))
      same (m.Append prev prev_term commit probe entries) p = absurd (omega (arith, p.0))
      same (m.AppendSay ok at probe) p = absurd (omega (arith, p.0))

  exact_vote_say : IsExact (made bool_at m.VoteSay) (fields_bytes spelled) (OfKind 2)
  exact_vote_say =
      exact_same (made bool_at m.VoteSay) (λ b. bool_bytes (says b)) (fields_bytes spelled) (OfKind 2) (OfKind 2)
      (exact_made bool_at bool_bytes (λ _. Unit {0}) m.VoteSay says (OfKind 2) exact_bool there (λ granted p. ((refl, p), refl)))
      same (λ b p. p) (λ b p. p)
    where
      there : (b : Message E) → OfKind 2 b → Unit {0} × (m.VoteSay (says b) ≡ b)
      there (m.VoteAsk last_index last_term) p = absurd (omega (arith, p.0))
      there (m.VoteSay granted) p = (p.1, refl)
      there (m.Append prev prev_term commit probe entries) p = absurd (omega (arith, p.0))
      there (m.AppendSay ok at probe) p = absurd (omega (arith, p.0))

      same : (b : Message E) → OfKind 2 b → bool_bytes (says b) ≡ fields_bytes spelled b
      same (m.VoteAsk last_index last_term) p = absurd (omega (arith, p.0))
      same (m.VoteSay granted) p = refl
      same (m.Append prev prev_term commit probe entries) p = absurd (omega (arith, p.0))
      same (m.AppendSay ok at probe) p = absurd (omega (arith, p.0))

  -- an append with these numbers
  abbrev WithFirst : ℕ × ℕ → Message E → Type 0
  WithFirst first b = (numbers_of b ≡ first) × OfKind 3 b

  abbrev WithBoth : ℕ × ℕ → ℕ × ℕ → Message E → Type 0
  WithBoth first second b = (later_numbers_of b ≡ second) × WithFirst first b

  exact_append : IsExact one spelled P → IsExact (append_at one) (fields_bytes spelled) (OfKind 3)
  unfolding append_at
  exact_append e =
      exact_same (append_at one) (λ b. two_bytes (numbers_of b) ++ (two_bytes (later_numbers_of b) ++ list_bytes spelled (entries_of b))) (fields_bytes spelled)
      (λ b. AreTwo (numbers_of b) × (AreTwo (later_numbers_of b) × WithBoth (numbers_of b) (later_numbers_of b) b)) (OfKind 3)
      (exact_bind two_at (λ first bytes. two_at bytes >>= λ second. made (list_at one) (m.Append first.0 first.1 second.0.0 second.0.1) second.1) two_bytes
      (λ _ b. two_bytes (later_numbers_of b) ++ list_bytes spelled (entries_of b)) AreTwo (λ first b. AreTwo (later_numbers_of b) × WithBoth first (later_numbers_of b) b) numbers_of exact_two
      (λ first p. exact_bind two_at (λ second. made (list_at one) (m.Append first.0 first.1 second.0 second.1)) two_bytes (λ _ b. list_bytes spelled (entries_of b)) AreTwo (WithBoth first) later_numbers_of exact_two
      (λ second q. exact_made (list_at one) (list_bytes spelled) (λ entries. (length entries < 2 ^ 32) × AreProper P entries) (m.Append first.0 first.1 second.0 second.1) entries_of (WithBoth first second) (exact_list one spelled P e)
      (there first second) (λ entries r. ((refl, (refl, (refl, (p, (q, r))))), refl)))
      (λ second b q. q.0))
      (λ first b p. p.1.1.0))
      same (λ b p. p.1.1.1.1) from
    where
      there : (first second : ℕ × ℕ) (b : Message E) → WithBoth first second b
          → ((length (entries_of b) < 2 ^ 32) × AreProper P (entries_of b)) × (m.Append first.0 first.1 second.0 second.1 (entries_of b) ≡ b)
      there first second (m.VoteAsk last_index last_term) p = absurd (omega (arith, p.1.1.0))
      there first second (m.VoteSay granted) p = absurd (omega (arith, p.1.1.0))
      there first second (m.Append prev prev_term commit probe entries) p = (p.1.1.1.1.1, λ i. m.Append (sym p.1.0 i).0 (sym p.1.0 i).1 (sym p.0 i).0 (sym p.0 i).1 entries)
      there first second (m.AppendSay ok at probe) p = absurd (omega (arith, p.1.1.0))

      same : (b : Message E) → AreTwo (numbers_of b) × (AreTwo (later_numbers_of b) × WithBoth (numbers_of b) (later_numbers_of b) b)
          → two_bytes (numbers_of b) ++ (two_bytes (later_numbers_of b) ++ list_bytes spelled (entries_of b)) ≡ fields_bytes spelled b
      same (m.VoteAsk last_index last_term) p = absurd (omega (arith, p.1.1.1.1.0))
      same (m.VoteSay granted) p = absurd (omega (arith, p.1.1.1.1.0))
      same (m.Append prev prev_term commit probe entries) p = refl
      same (m.AppendSay ok at probe) p = absurd (omega (arith, p.1.1.1.1.0))

      from : (b : Message E) → OfKind 3 b → AreTwo (numbers_of b) × (AreTwo (later_numbers_of b) × WithBoth (numbers_of b) (later_numbers_of b) b)
      from (m.VoteAsk last_index last_term) p = absurd (omega (arith, p.0))
      from (m.VoteSay granted) p = absurd (omega (arith, p.0))
      from (m.Append prev prev_term commit probe entries) p = (p.1.0, (p.1.1.0, (refl, (refl, p))))
      from (m.AppendSay ok at probe) p = absurd (omega (arith, p.0))

  -- an answer to an append that says so
  abbrev Saying : Bool → Message E → Type 0
  Saying ok b = (says b ≡ ok) × OfKind 4 b

  exact_append_say : IsExact append_say_at (fields_bytes spelled) (OfKind 4)
  unfolding append_say_at
  exact_append_say =
      exact_same append_say_at (λ b. bool_bytes (says b) ++ two_bytes (numbers_of b)) (fields_bytes spelled) (λ b. Unit {0} × Saying (says b) b) (OfKind 4)
      (exact_bind bool_at (λ ok. made two_at (λ two. m.AppendSay ok two.0 two.1)) bool_bytes (λ _ b. two_bytes (numbers_of b)) (λ _. Unit {0}) Saying says exact_bool
      (λ ok _. exact_made two_at two_bytes AreTwo (λ two. m.AppendSay ok two.0 two.1) numbers_of (Saying ok) exact_two (there ok) (λ two p. ((refl, (refl, p)), refl)))
      (λ ok b p. p.0))
      same (λ b p. p.1.1) (λ b p. (tt, (refl, p)))
    where
      there : (ok : Bool) (b : Message E) → Saying ok b → AreTwo (numbers_of b) × (m.AppendSay ok (numbers_of b).0 (numbers_of b).1 ≡ b)
      there ok (m.VoteAsk last_index last_term) p = absurd (omega (arith, p.1.0))
      there ok (m.VoteSay granted) p = absurd (omega (arith, p.1.0))
      there ok (m.Append prev prev_term commit probe entries) p = absurd (omega (arith, p.1.0))
      there ok (m.AppendSay said at probe) p = (p.1.1, λ i. m.AppendSay (sym p.0 i) at probe)

      same : (b : Message E) → Unit {0} × Saying (says b) b → bool_bytes (says b) ++ two_bytes (numbers_of b) ≡ fields_bytes spelled b
      same (m.VoteAsk last_index last_term) p = absurd (omega (arith, p.1.1.0))
      same (m.VoteSay granted) p = absurd (omega (arith, p.1.1.0))
      same (m.Append prev prev_term commit probe entries) p = absurd (omega (arith, p.1.1.0))
      same (m.AppendSay ok at probe) p = refl

  exact_message : IsExact one spelled P → (kind : ℕ) → IsPacketKind kind → IsExact (message_at one kind) (fields_bytes spelled) (OfKind kind)
  unfolding message_at
  exact_message e zero p = absurd (let q = below 0 0 p.1 in omega arith)
  exact_message e (suc zero) p = exact_vote_ask
  exact_message e (suc (suc zero)) p = exact_vote_say
  exact_message e (suc (suc (suc zero))) p = exact_append e
  exact_message e (suc (suc (suc (suc zero)))) p = exact_append_say
  exact_message e (suc (suc (suc (suc (suc n))))) p = absurd (let q = within (suc (suc (suc (suc (suc n))))) 4 p.0.1 in omega arith)

  -- ---- packets

  abbrev with_message : Header → Message E → Packet E
  with_message h message = record { term = h.1.1.0; from = h.1.1.1.0; to = h.1.1.1.1; message = message }

  abbrev OfHeader : Header → Packet E → Type 0
  OfHeader h p = (header_of p ≡ h) × IsMessage P p.message

  pub exact_packet : IsExact one spelled P → (limit : ℕ) → IsExact (packet_at one limit) (packet_bytes spelled) (IsPacket limit P)
  unfolding packet_at
  exact_packet e limit =
      exact_same (packet_at one limit) (packet_bytes spelled) (packet_bytes spelled) (λ p. IsHeader limit (header_of p) × OfHeader (header_of p) p) (IsPacket limit P)
      (exact_bind (header_at limit) (λ h. made (message_at one h.1.0) (with_message h)) header_bytes (λ _ p. fields_bytes spelled p.message) (IsHeader limit) OfHeader header_of (exact_header limit)
      (λ h proper. exact_made (message_at one h.1.0) (fields_bytes spelled) (OfKind h.1.0) (with_message h) (λ p. p.message) (OfHeader h) (exact_message e h.1.0 proper.1.0) (there h) (here h proper))
      (λ h p q. q.0))
      (λ p _. refl) (λ p q. record { term = q.0.1.1.0; from = q.0.1.1.1.0; to = q.0.1.1.1.1; message = q.1.1 })
      (λ p q. (((omega arith, refl), (ranked p.message, (q.term, (q.from, q.to)))), (refl, q.message)))
    where
      there : (h : Header) (p : Packet E) → OfHeader h p → OfKind h.1.0 p.message × (with_message h p.message ≡ p)
      there h p q = ((ap (λ (h : Header). h.1.0) q.0, q.1), λ i. with_message (sym q.0 i) p.message)

      here : (h : Header) → IsHeader limit h → (message : Message E) → OfKind h.1.0 message → OfHeader h (with_message h message) × (message ≡ message)
      here h proper message q = ((λ i. (sym (eq_true h.0 1 proper.0.1) i, (q.0 i, h.1.1)), q.1), refl)

      ranked : (b : Message E) → IsPacketKind (kind_of b)
      ranked (m.VoteAsk last_index last_term) = ((omega arith, refl), refl)
      ranked (m.VoteSay granted) = ((omega arith, refl), refl)
      ranked (m.Append prev prev_term commit probe entries) = ((omega arith, refl), refl)
      ranked (m.AppendSay ok at probe) = ((omega arith, refl), refl)

pub exact_wire_packet : (limit : ℕ) → IsExact (packet_at (entry_at limit) limit) (packet_bytes entry_bytes) (IsPacket limit (IsEntry limit))
exact_wire_packet limit = exact_packet (entry_at limit) entry_bytes (IsEntry limit) (exact_entry limit) limit
