-- How members, configurations and entries are spelled, as docs/FORMATS.md, "Bytes", has it.
use Rattle.std.specs.Prelude.{ℕ, List, [], ◌∷◌, ◌++◌}
use Rattle.rq_values.specs.Spelling.{bool_bytes, u64_bytes, sized, list_bytes}
use Rattle.rq_wire.specs.declared.config.Member.{Member}
use Rattle.rq_wire.specs.declared.entry.Body.{Body}
use Rattle.rq_wire.specs.declared.entry.Body.TheVariants as bodies
use Rattle.rq_wire.specs.declared.entry.Entry.{Entry}

-- a member is its id, the voter byte, its HTTP address and its Raft address
abbrev pub member_bytes : Member → List ℕ
member_bytes member = sized member.id ++ (bool_bytes member.voter ++ (sized member.http ++ sized member.raft))

-- a configuration is the list of its members
abbrev pub config_bytes : List Member → List ℕ
config_bytes config = list_bytes member_bytes config

-- what an entry does: 00 nothing, 01 and a configuration, 02 and the bytes of a command
abbrev pub body_bytes : Body → List ℕ
body_bytes bodies.NoOp = 0 ∷ []
body_bytes (bodies.Config config) = 1 ∷ config_bytes config
body_bytes (bodies.Data command) = 2 ∷ sized command

-- an entry is its term, and what it does
abbrev pub entry_bytes : Entry → List ℕ
entry_bytes entry = u64_bytes entry.term ++ body_bytes entry.body
