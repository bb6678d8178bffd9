-- Reading members, configurations and entries, as docs/FORMATS.md, "Bytes", has them.
use Rattle.std.specs.Prelude.{ℕ, ◌==◌, List, Option, Result, Ok, if◌then◌else◌}
use Rattle.rq_values.specs.declared.error.DecodeError.{DecodeError}
use Rattle.rq_values.specs.declared.error.DecodeError.TheVariants.{Order}
use Rattle.rq_values.specs.Reading.{◌>>=◌, done, made, checked, kind_at, bool_at, u64_at, bytes_at, id_at, addr_at, rising_list_at}
use Rattle.rq_wire.specs.Config.{comes_after}
use Rattle.rq_wire.specs.declared.config.Member.{Member}
use Rattle.rq_wire.specs.declared.entry.Body.{Body}
use Rattle.rq_wire.specs.declared.entry.Body.TheVariants as bodies
use Rattle.rq_wire.specs.declared.entry.Entry.{Entry}

-- the id of the member behind that one
unfoldable pub id_after : ℕ → Option Member → List ℕ → Result (List ℕ × List ℕ) DecodeError
id_after limit last = checked (id_at limit) (comes_after last) (λ left _. Order left)

-- the rest of the member with that id
unfoldable pub member_rest : ℕ → List ℕ → List ℕ → Result (Member × List ℕ) DecodeError
member_rest limit id bytes = do
  voter ← bool_at bytes
  http ← addr_at limit voter.1
  raft ← addr_at limit http.1
  Ok (record { id = id; voter = voter.0; http = http.0; raft = raft.0 }, raft.1)

-- the member behind that one
unfoldable pub member_after : ℕ → Option Member → List ℕ → Result (Member × List ℕ) DecodeError
member_after limit last bytes = do
  id ← id_after limit last bytes
  member_rest limit id.0 id.1

-- a configuration: members in rising order of their ids
unfoldable pub config_at : ℕ → List ℕ → Result (List Member × List ℕ) DecodeError
config_at limit = rising_list_at (member_after limit)

-- what an entry does
unfoldable pub body_at : ℕ → List ℕ → Result (Body × List ℕ) DecodeError
body_at limit bytes = do
  kind ← kind_at 2 bytes
  if kind.0 == 0 then done bodies.NoOp kind.1
      else (if kind.0 == 1 then made (config_at limit) bodies.Config kind.1
      else made (bytes_at limit) bodies.Data kind.1)

-- an entry
unfoldable pub entry_at : ℕ → List ℕ → Result (Entry × List ℕ) DecodeError
entry_at limit bytes = do
  term ← u64_at bytes
  body ← body_at limit term.1
  Ok (record { term = term.0; body = body.0 }, body.1)
