-- The server that the body of a join names, and the id in that of a removal, as docs/API.md has it, "Bodies".
use Rattle.std.specs.Prelude.{ℕ, Bool, if◌then◌else◌, List, Option, Some, None, Result, Ok, Err, codes, option_and_then}
use Rattle.serde_json.specs.Data.{Data}
use Rattle.serde_json.specs.Find.{get, as_str, as_bool}
use Rattle.rq_values.specs.Text.{is_id, is_addr}
use Rattle.rq_request.specs.declared.ask.Member.{Member}
use Rattle.rq_bodies.specs.declared.error.BodyError.{BodyError}
use Rattle.rq_bodies.specs.declared.error.BodyError.TheVariants.{NotJson, BadMember}
use Rattle.rq_bodies.specs.Body.{json_of, or_error}

abbrev pub id_if : List ℕ → Option (List ℕ)
id_if bytes = if is_id bytes then Some bytes else None

abbrev pub addr_if : List ℕ → Option (List ℕ)
addr_if bytes = if is_addr bytes then Some bytes else None

-- the text under a key of an object
abbrev pub text_at : List ℕ → Data → Option (List ℕ)
text_at key json = option_and_then as_str (get key json)

abbrev pub id_in : Data → Option (List ℕ)
id_in json = option_and_then id_if (text_at (codes "id") json)

abbrev pub voter_in : Data → Option Bool
voter_in json = option_and_then as_bool (get (codes "voter") json)

abbrev pub addr_at : List ℕ → Data → Option (List ℕ)
addr_at key json = option_and_then addr_if (text_at key json)

-- all four are there
abbrev pub member_if : Option (List ℕ) → Option Bool → Option (List ℕ) → Option (List ℕ) → Option Member
member_if (Some id) (Some voter) (Some http) (Some raft) = Some (record { id = id; voter = voter; http = http; raft = raft })
member_if _ _ _ _ = None

abbrev pub member_of : Data → Option Member
member_of json = member_if (id_in json) (voter_in json) (addr_at (codes "http") json) (addr_at (codes "raft") json)

-- what an object of the body names
abbrev pub named_by : {A : Type 0} → (Data → Option A) → Option Data → Result A BodyError
named_by f None = Err NotJson
named_by f (Some json) = or_error BadMember (f json)

abbrev pub joining : List ℕ → Result Member BodyError
joining body = named_by member_of (json_of body)

abbrev pub removing : List ℕ → Result (List ℕ) BodyError
removing body = named_by id_in (json_of body)
