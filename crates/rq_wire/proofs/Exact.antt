-- Members, configurations and entries are read exactly where their spellings stand.
use Rattle.std.proofs.Common.{true, ◌≡◌, ℕ, Bool, zero, suc, ◌≤◌, ◌<◌, ◌^◌, ◌==◌, List, [], ◌∷◌, ◌++◌, Option, Result, nat_le, cond, refl, sym, ap, subst, arith}
use Rattle.std.proofs.lemmas.Bool.Decides.{nat_tests}
use Rattle.rq_values.specs.declared.error.DecodeError.{DecodeError}
use Rattle.rq_values.specs.declared.error.DecodeError.TheVariants.{Order}
use Rattle.rq_values.specs.Text.{is_id, is_addr}
use Rattle.rq_values.specs.Spelling.{bool_bytes, u64_bytes, sized}
use Rattle.rq_values.specs.Reading.{◌>>=◌, done, made, kind_at, bool_at, u64_at, bytes_at, id_at, addr_at}
use Rattle.rq_values.specs.Exact.{IsExact, IsNamed, IsWithin, IsKind}
use Rattle.rq_values.proofs.Exact.{exact_done, exact_bind, exact_made, exact_same, exact_checked, exact_kind, exact_bool, exact_u64, exact_bytes, exact_id, exact_addr, exact_rising_list}
use Rattle.rq_wire.specs.declared.config.Member.{Member}
use Rattle.rq_wire.specs.declared.entry.Body.{Body}
use Rattle.rq_wire.specs.declared.entry.Body.TheVariants as bodies
use Rattle.rq_wire.specs.declared.entry.Entry.{Entry}
use Rattle.rq_wire.specs.Spelling.{member_bytes, config_bytes, body_bytes, entry_bytes}
use Rattle.rq_wire.specs.Config.{comes_after}
use Rattle.rq_wire.specs.Reading.{id_after, member_rest, member_after, config_at, body_at, entry_at}
use Rattle.rq_wire.specs.Exact.{IsBody, IsConfig, IsEntry, IsMember}

within : (m n : ℕ) → nat_le m n ≡ true → m ≤ n
within m n h = grind (arith, nat_tests)

-- ---- members

exact_id_after : (limit : ℕ) (last : Option Member) → IsExact (id_after limit last) sized (λ id. IsNamed is_id limit id × (comes_after last id ≡ true))
unfolding id_after
exact_id_after limit last = exact_checked (id_at limit) sized (IsNamed is_id limit) (comes_after last) (λ left _. Order left) (exact_id limit)

-- a member with these parts
abbrev WithRaft : ℕ → List ℕ → Bool → List ℕ → Member → Type 0
WithRaft limit id voter http member = (member.id ≡ id) × (member.voter ≡ voter) × (member.http ≡ http) × IsNamed is_addr limit member.raft

abbrev WithHttp : ℕ → List ℕ → Bool → Member → Type 0
WithHttp limit id voter member = IsNamed is_addr limit member.http × WithRaft limit id voter member.http member

abbrev WithId : ℕ → List ℕ → Member → Type 0
WithId limit id member = Unit {0} × WithHttp limit id member.voter member

exact_raft : (limit : ℕ) (id : List ℕ) (voter : Bool) (http : List ℕ)
    → IsExact (made (addr_at limit) (λ raft. record { id = id; voter = voter; http = http; raft = raft })) (λ member. sized member.raft) (WithRaft limit id voter http)
exact_raft limit id voter http =
    exact_made (addr_at limit) sized (IsNamed is_addr limit) (λ raft. record { id = id; voter = voter; http = http; raft = raft }) (λ member. member.raft) (WithRaft limit id voter http) (exact_addr limit)
    (λ member p. (p.3, λ i. record { id = sym p.0 i; voter = sym p.1 i; http = sym p.2 i; raft = member.raft }))
    (λ raft p. ((refl, refl, refl, p), refl))

exact_member_rest : (limit : ℕ) (id : List ℕ) → IsExact (member_rest limit id) (λ member. bool_bytes member.voter ++ (sized member.http ++ sized member.raft)) (WithId limit id)
unfolding member_rest
exact_member_rest limit id =
    let with_raft = λ (voter : Bool) (http : List ℕ). made (addr_at limit) (λ raft. record { id = id; voter = voter; http = http; raft = raft }) in
    exact_bind bool_at (λ voter bytes. addr_at limit bytes >>= λ http. with_raft voter http.0 http.1) bool_bytes (λ _ member. sized member.http ++ sized member.raft) (λ _. Unit {0}) (WithHttp limit id) (λ member. member.voter) exact_bool
    (λ voter _. exact_bind (addr_at limit) (with_raft voter) sized (λ _ member. sized member.raft) (IsNamed is_addr limit) (WithRaft limit id voter) (λ member. member.http) (exact_addr limit)
    (λ http _. exact_raft limit id voter http) (λ http member p. p.2))
    (λ voter member p. p.1.1)

pub exact_member : (limit : ℕ) (last : Option Member) → IsExact (member_after limit last) member_bytes (IsMember limit last)
unfolding member_after
exact_member limit last =
    exact_same (member_after limit last) member_bytes member_bytes (λ member. (IsNamed is_id limit member.id × (comes_after last member.id ≡ true)) × WithId limit member.id member) (IsMember limit last)
    (exact_bind (id_after limit last) (member_rest limit) sized (λ _ member. bool_bytes member.voter ++ (sized member.http ++ sized member.raft)) (λ id. IsNamed is_id limit id × (comes_after last id ≡ true)) (WithId limit) (λ member. member.id)
    (exact_id_after limit last) (λ id _. exact_member_rest limit id) (λ id member p. p.1.1.0))
    (λ member _. refl)
    (λ member p. record { named = p.0.0; rises = p.0.1; http = p.1.1.0; raft = p.1.1.1.3 })
    (λ member p. ((p.named, p.rises), (tt, (p.http, (refl, refl, refl, p.raft)))))

pub exact_config : (limit : ℕ) → IsExact (config_at limit) config_bytes (IsConfig limit)
unfolding config_at
exact_config limit = exact_rising_list (member_after limit) member_bytes (IsMember limit) (exact_member limit)

-- ---- entries

rank_of : Body → ℕ
rank_of bodies.NoOp = 0
rank_of (bodies.Config config) = 1
rank_of (bodies.Data command) = 2

content_of : Body → List ℕ
content_of bodies.NoOp = []
content_of (bodies.Config config) = config_bytes config
content_of (bodies.Data command) = sized command

abbrev OfKind : ℕ → ℕ → Body → Type 0
OfKind limit kind body = (rank_of body ≡ kind) × IsBody limit body

members_of : Body → List Member
members_of bodies.NoOp = []
members_of (bodies.Config config) = config
members_of (bodies.Data command) = []

command_of : Body → List ℕ
command_of bodies.NoOp = []
command_of (bodies.Config config) = []
command_of (bodies.Data command) = command

exact_no_op : (limit : ℕ) → IsExact (done bodies.NoOp) content_of (OfKind limit 0)
unfolding rank_of content_of
exact_no_op limit = exact_same (done bodies.NoOp) (λ _. []) content_of (λ b. b ≡ bodies.NoOp) (OfKind limit 0) (exact_done bodies.NoOp) (λ b e. ap content_of (sym e)) (λ b e. subst (OfKind limit 0) (sym e) (refl, tt)) only
  where
    only : (b : Body) → OfKind limit 0 b → b ≡ bodies.NoOp
    only bodies.NoOp p = refl
    only (bodies.Config config) p = absurd (omega (arith, p.0))
    only (bodies.Data command) p = absurd (omega (arith, p.0))

exact_config_body : (limit : ℕ) → IsExact (made (config_at limit) bodies.Config) content_of (OfKind limit 1)
unfolding rank_of content_of members_of
exact_config_body limit =
    exact_same (made (config_at limit) bodies.Config) (λ b. config_bytes (members_of b)) content_of (OfKind limit 1) (OfKind limit 1)
    (exact_made (config_at limit) config_bytes (IsConfig limit) bodies.Config members_of (OfKind limit 1) (exact_config limit) there (λ config proper. ((refl, proper), refl)))
    same (λ b p. p) (λ b p. p)
  where
    there : (b : Body) → OfKind limit 1 b → IsConfig limit (members_of b) × (bodies.Config (members_of b) ≡ b)
    there bodies.NoOp p = absurd (omega (arith, p.0))
    there (bodies.Config config) p = (p.1, refl)
    there (bodies.Data command) p = absurd (omega (arith, p.0))

    same : (b : Body) → OfKind limit 1 b → config_bytes (members_of b) ≡ content_of b
    same bodies.NoOp p = absurd (omega (arith, p.0))
    same (bodies.Config config) p = refl
    same (bodies.Data command) p = absurd (omega (arith, p.0))

exact_command : (limit : ℕ) → IsExact (made (bytes_at limit) bodies.Data) content_of (OfKind limit 2)
unfolding rank_of content_of command_of
exact_command limit =
    exact_same (made (bytes_at limit) bodies.Data) (λ b. sized (command_of b)) content_of (OfKind limit 2) (OfKind limit 2)
    (exact_made (bytes_at limit) sized (IsWithin limit) bodies.Data command_of (OfKind limit 2) (exact_bytes limit) there (λ command proper. ((refl, proper), refl)))
    same (λ b p. p) (λ b p. p)
  where
    there : (b : Body) → OfKind limit 2 b → IsWithin limit (command_of b) × (bodies.Data (command_of b) ≡ b)
    there bodies.NoOp p = absurd (omega (arith, p.0))
    there (bodies.Config config) p = absurd (omega (arith, p.0))
    there (bodies.Data command) p = (p.1, refl)

    same : (b : Body) → OfKind limit 2 b → sized (command_of b) ≡ content_of b
    same bodies.NoOp p = absurd (omega (arith, p.0))
    same (bodies.Config config) p = absurd (omega (arith, p.0))
    same (bodies.Data command) p = refl

content_at : ℕ → ℕ → List ℕ → Result (Body × List ℕ) DecodeError
content_at limit kind bytes = cond (kind == 0) (done bodies.NoOp bytes) (cond (kind == 1) (made (config_at limit) bodies.Config bytes) (made (bytes_at limit) bodies.Data bytes))

exact_content : (limit kind : ℕ) → IsKind 2 kind → IsExact (content_at limit kind) content_of (OfKind limit kind)
unfolding content_at
exact_content limit zero p = exact_no_op limit
exact_content limit (suc zero) p = exact_config_body limit
exact_content limit (suc (suc zero)) p = exact_command limit
exact_content limit (suc (suc (suc n))) p = absurd (let q = within (suc (suc (suc n))) 2 p.1 in omega arith)

pub exact_body : (limit : ℕ) → IsExact (body_at limit) body_bytes (IsBody limit)
unfolding body_at content_at rank_of content_of
exact_body limit =
    exact_same (body_at limit) (λ b. rank_of b ∷ content_of b) body_bytes (λ b. IsKind 2 (rank_of b) × OfKind limit (rank_of b) b) (IsBody limit)
    (exact_bind (kind_at 2) (content_at limit) (λ kind. kind ∷ []) (λ _. content_of) (IsKind 2) (OfKind limit) rank_of (exact_kind 2) (exact_content limit) (λ kind b p. p.0))
    same (λ b p. p.1.1) (λ b p. (ranked b, (refl, p)))
  where
    same : (b : Body) → IsKind 2 (rank_of b) × OfKind limit (rank_of b) b → rank_of b ∷ content_of b ≡ body_bytes b
    same bodies.NoOp p = refl
    same (bodies.Config config) p = refl
    same (bodies.Data command) p = refl

    ranked : (b : Body) → IsKind 2 (rank_of b)
    ranked bodies.NoOp = (omega arith, refl)
    ranked (bodies.Config config) = (omega arith, refl)
    ranked (bodies.Data command) = (omega arith, refl)

abbrev OfTerm : ℕ → ℕ → Entry → Type 0
OfTerm limit term entry = (entry.term ≡ term) × IsBody limit entry.body

pub exact_entry : (limit : ℕ) → IsExact (entry_at limit) entry_bytes (IsEntry limit)
unfolding entry_at
exact_entry limit =
    exact_same (entry_at limit) entry_bytes entry_bytes (λ entry. (entry.term < 2 ^ 64) × OfTerm limit entry.term entry) (IsEntry limit)
    (exact_bind u64_at (λ term. made (body_at limit) (λ body. record { term = term; body = body })) u64_bytes (λ _ entry. body_bytes entry.body) (λ term. term < 2 ^ 64) (OfTerm limit) (λ entry. entry.term) exact_u64
    (λ term _. exact_made (body_at limit) body_bytes (IsBody limit) (λ body. record { term = term; body = body }) (λ entry. entry.body) (OfTerm limit term) (exact_body limit)
    (λ entry p. (p.1, λ i. record { term = sym p.0 i; body = entry.body })) (λ body p. ((refl, p), refl)))
    (λ term entry p. p.0))
    (λ entry _. refl) (λ entry p. (p.0, p.1.1)) (λ entry p. (p.0, (refl, p.1)))
