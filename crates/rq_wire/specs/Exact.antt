-- Which configurations and entries can be spelled within a limit.
use Rattle.std.proofs.Common.{true, ◌≡◌, ℕ, ◌<◌, ◌^◌, List, length, Option, None}
use Rattle.rq_values.specs.Text.{is_id, is_addr}
use Rattle.rq_values.specs.Exact.{IsNamed, IsWithin, Follow}
use Rattle.rq_wire.specs.declared.config.Member.{Member}
use Rattle.rq_wire.specs.declared.entry.Body.{Body}
use Rattle.rq_wire.specs.declared.entry.Body.TheVariants as bodies
use Rattle.rq_wire.specs.declared.entry.Entry.{Entry}
use Rattle.rq_wire.specs.Config.{comes_after}

-- a member behind that one, whose parts can be spelled within the limit
pub record IsMember (limit : ℕ) (last : Option Member) (member : Member) : Type 0 where
  pub named : IsNamed is_id limit member.id
  pub rises : comes_after last member.id ≡ true
  pub http : IsNamed is_addr limit member.http
  pub raft : IsNamed is_addr limit member.raft

-- a configuration that can be spelled within the limit: ids rise
abbrev pub IsConfig : ℕ → List Member → Type 0
IsConfig limit config = (length config < 2 ^ 32) × Follow (IsMember limit) None config

-- what an entry does, within the limit
abbrev pub IsBody : ℕ → Body → Type 0
IsBody limit bodies.NoOp = Unit {0}
IsBody limit (bodies.Config config) = IsConfig limit config
IsBody limit (bodies.Data command) = IsWithin limit command

-- an entry that can be spelled within the limit
abbrev pub IsEntry : ℕ → Entry → Type 0
IsEntry limit entry = (entry.term < 2 ^ 64) × IsBody limit entry.body
