-- Two answers that meet one contract are the same, and two quorums meet.
use Rattle.std.proofs.Common.{◌≡◌, ℕ, ◌+◌, ◌*◌, ◌/◌, ◌<◌, List, [], ◌++◌, Result, Ok, Err, refl, sym, ap, ◌∙◌, arith}
use Rattle.std.proofs.lemmas.Bool.{OnFalse_at}
use Rattle.rq_values.specs.declared.error.DecodeError.{DecodeError}
use Rattle.rq_values.specs.Agreement.{Agree}
use Rattle.rq_values.proofs.Local.{ok_is}
use Rattle.rq_values.specs.Place.{IsAnswer}
use Rattle.rq_wire.specs.declared.config.Member.{Member}
use Rattle.rq_wire.specs.declared.entry.Entry.{Entry}
use Rattle.rq_wire.specs.Config.{voters, quorum_of}
use Rattle.rq_wire.specs.Spelling.{entry_bytes}
use Rattle.rq_wire.specs.Reading.{entry_at}
use Rattle.rq_wire.specs.Exact.{IsEntry}
use Rattle.rq_wire.proofs.Exact.{exact_entry}

pub one_spelling : (limit : ℕ) (a b : Entry) → IsEntry limit a → IsEntry limit b → entry_bytes a ≡ entry_bytes b → a ≡ b
one_spelling limit a b p q e =
    let read : Ok (a, []) ≡ Ok (b, []) =
    sym ((exact_entry limit).reads a [] p) ∙ ap (λ (l : List ℕ). entry_at limit (l ++ [])) e ∙ (exact_entry limit).reads b [] q in
    ap (λ x. x.0) (ok_is (a, []) (b, []) (Ok (a, [])) refl read)

pub answers : {X : Type 0} (answer a b : Result X DecodeError) → IsAnswer a answer → IsAnswer b answer → Agree a b
answers answer (Ok x) (Ok y) h k p q = h ∙ sym k
answers answer (Ok x) (Err w) h k p q = h ∙ sym (OnFalse_at q k)
answers answer (Err w) (Ok y) h k p q = OnFalse_at p h ∙ sym k
answers answer (Err w) (Err v) h k p q = OnFalse_at p h ∙ sym (OnFalse_at q k)

pub quorums : (config : List Member) → voters config < quorum_of config + quorum_of config
quorums config = halves (voters config)
  where
    halves : (n : ℕ) → n < (n / 2 + 1) + (n / 2 + 1)
    halves n = omega arith
