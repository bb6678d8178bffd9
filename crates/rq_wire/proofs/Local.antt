-- These readers depend on nothing behind what they read.
use Rattle.std.proofs.Common.{ℕ, ◌==◌, List, Option, Ok, cond}
use Rattle.rq_values.specs.declared.error.DecodeError.TheVariants.{Order}
use Rattle.rq_values.specs.Reading.{◌>>=◌, done, made, kind_at, bool_at, u64_at, bytes_at, id_at, addr_at}
use Rattle.rq_values.specs.Local.{IsLocal}
use Rattle.rq_values.proofs.Local.{local_bind, local_made, local_done, local_choice, local_checked, local_kind, local_bool, local_u64, local_bytes, local_id, local_addr, local_rising_list}
use Rattle.rq_wire.specs.declared.config.Member.{Member}
use Rattle.rq_wire.specs.declared.entry.Body.TheVariants as bodies
use Rattle.rq_wire.specs.Config.{comes_after}
use Rattle.rq_wire.specs.Reading.{id_after, member_rest, member_after, config_at, body_at, entry_at}

local_id_after : (limit : ℕ) (last : Option Member) → IsLocal (id_after limit last)
unfolding id_after
local_id_after limit last = local_checked (id_at limit) (comes_after last) (λ left _. Order left) (local_id limit)

local_member_rest : (limit : ℕ) (id : List ℕ) → IsLocal (member_rest limit id)
unfolding member_rest
local_member_rest limit id =
    local_bind bool_at (λ voter bytes. addr_at limit bytes >>= λ http. addr_at limit http.1 >>= λ raft. Ok (record { id = id; voter = voter; http = http.0; raft = raft.0 }, raft.1)) local_bool
    (λ voter. local_bind (addr_at limit) (λ http bytes. addr_at limit bytes >>= λ raft. Ok (record { id = id; voter = voter; http = http; raft = raft.0 }, raft.1)) (local_addr limit)
    (λ http. local_made (addr_at limit) (λ raft. record { id = id; voter = voter; http = http; raft = raft }) (local_addr limit)))

pub local_member : (limit : ℕ) (last : Option Member) → IsLocal (member_after limit last)
unfolding member_after
local_member limit last = local_bind (id_after limit last) (member_rest limit) (local_id_after limit last) (local_member_rest limit)

pub local_config : (limit : ℕ) → IsLocal (config_at limit)
unfolding config_at
local_config limit = local_rising_list (member_after limit) (local_member limit)

pub local_body : (limit : ℕ) → IsLocal (body_at limit)
unfolding body_at
local_body limit =
    let config = made (config_at limit) bodies.Config in
    let command = made (bytes_at limit) bodies.Data in
    local_bind (kind_at 2) (λ kind bytes. cond (kind == 0) (done bodies.NoOp bytes) (cond (kind == 1) (config bytes) (command bytes))) (local_kind 2)
    (λ kind. local_choice (kind == 0) (done bodies.NoOp) (λ bytes. cond (kind == 1) (config bytes) (command bytes)) (local_done bodies.NoOp)
    (local_choice (kind == 1) config command (local_made (config_at limit) bodies.Config (local_config limit)) (local_made (bytes_at limit) bodies.Data (local_bytes limit))))

pub local_entry : (limit : ℕ) → IsLocal (entry_at limit)
unfolding entry_at
local_entry limit =
    local_bind u64_at (λ term bytes. body_at limit bytes >>= λ body. Ok (record { term = term; body = body.0 }, body.1)) local_u64
    (λ term. local_made (body_at limit) (λ body. record { term = term; body = body }) (local_body limit))
