-- Runs keep what they promise.
use Rattle.std.proofs.Common.{◌≡◌, ℕ, zero, suc, ◌+◌, ◌-◌, nat_eq, List, [], ◌∷◌, ◌++◌, length, slice_get, Bool, true, false, if◌then◌else◌, Option, Some, None, refl, sym, ◌∙◌, ap, subst, arith}
use Rattle.std.specs.Prelude.{⊤}
use Rattle.std.proofs.lemmas.List.{length-append}
use Rattle.rq_wire.specs.declared.config.Member.{Member}
use Rattle.rq_request.specs.declared.say.Say.{Say}
use Rattle.rq_request.specs.declared.say.Say.TheVariants.{Results, Queued, Loaded, Backup, Nodes, Ready, Changed, Moved, Refused}
use Rattle.rq_statement.specs.declared.item.Item.{Item}
use Rattle.rq_statement.specs.declared.res.Res.{Res}
use Rattle.rq_request.specs.declared.say.Answer.{Answer}
use Rattle.rq_engine.specs.Fold.{answer, outcome_behind}
use Rattle.rq_statement.specs.Statements.{Statements}
use Rattle.rq_world.specs.declared.log_entry.LogEntry.{LogEntry}
use Rattle.rq_statement.specs.declared.command.Command.{Command}
use Rattle.rq_statement.specs.declared.command.Command.TheVariants.{StrongQuery}
use Rattle.rq_request.specs.declared.ask.Level.TheVariants as level
use Rattle.rq_world.specs.Node.{members, commands, replica_of}
use Rattle.rq_world.specs.Rules.{write_command}
use Rattle.rq_world.specs.World.{Op, Write, Queue, Read, Note, Asked, Answered, at_place}
use Rattle.rq_world.specs.Promise.{IsPrefix, op_of, IsOutcome, IsValue, IsInBatch, IsResults, IsQueued, IsRight}
use Rattle.rq_world.proofs.Prefixes.{begins_get, begins_take_same, get_within}

-- ---- notes

module _ (first : List Member) where
  -- what a note says is right
  abbrev pub RightNote : List LogEntry → List Note → Option Note → Type 0
  RightNote chosen book None = ⊤
  RightNote chosen book (Some (Asked number home op)) = ⊤
  RightNote chosen book (Some (Answered number say place)) = IsRight first chosen (op_of book number) say place

  abbrev pub AllRight : List LogEntry → List Note → List Note → Type 0
  AllRight chosen book [] = ⊤
  AllRight chosen book (note ∷ notes) = RightNote chosen book (Some note) × AllRight chosen book notes

  pub all_get : (chosen : List LogEntry) (book notes : List Note) (k : ℕ) → AllRight chosen book notes → RightNote chosen book (slice_get notes k)
  all_get chosen book [] k all = tt
  all_get chosen book (note ∷ notes) zero (one, rest) = one
  all_get chosen book (note ∷ notes) (suc k) (one, rest) = all_get chosen book notes k rest

  pub all_both : (chosen : List LogEntry) (book one two : List Note) → AllRight chosen book one → AllRight chosen book two → AllRight chosen book (one ++ two)
  all_both chosen book [] two none all = all
  all_both chosen book (note ∷ notes) two (one, rest) all = (one, all_both chosen book notes two rest all)

  pub right_op : (chosen : List LogEntry) (op : Option Op) (say : Say) (place : ℕ) → IsRight first chosen op say place → (o : Op) × (op ≡ Some o)
  right_op chosen None say place nothing = absurd nothing
  right_op chosen (Some o) say place right = (o, refl)

  outcome_more : (old new : List LogEntry) (place : ℕ) (command : Command) (results : List Res) → IsPrefix old new → IsOutcome first old place command results → IsOutcome first new place command results
  outcome_more old new place command results more right =
      let within = get_within old (place - 1) right.entry right.stands in
      record {
        counts = right.counts;
        entry = right.entry;
        stands = begins_get old new (place - 1) more within ∙ right.stands;
        is_command = right.is_command;
        outcome = ap (λ (l : List LogEntry). outcome_behind (members first) (commands l) command) (begins_take_same old new (place - 1) more (omega (arith, within))) ∙ right.outcome;
      }

  value_more : (old new : List LogEntry) (place : ℕ) (items : List Item) (results : List Res) → IsPrefix old new → IsValue first old place items results → IsValue first new place items results
  value_more old new place items results (r, is) (within, right) = (
    let counts : length new ≡ length old + length r = ap length (sym is) ∙ length-append old r in omega (arith, counts, within),
    right ∙ ap (λ (l : List LogEntry). answer (replica_of first l) items) (sym (begins_take_same old new place (r, is) within)),
  )

  results_more : (old new : List LogEntry) (op : Op) (place : ℕ) (results : List Res) → IsPrefix old new → IsResults first old op place results → IsResults first new op place results
  results_more old new (Write list mixed) place results more right = outcome_more old new place (write_command list mixed) results more right
  results_more old new (Queue list wait) place results more right = absurd right
  results_more old new (Read items level.None limit) place results more right = value_more old new place items results more right
  results_more old new (Read items level.Weak limit) place results more right = value_more old new place items results more right
  results_more old new (Read items level.Linearizable limit) place results more right = value_more old new place items results more right
  results_more old new (Read items level.Strong limit) place results more right = outcome_more old new place (StrongQuery items) results more right

  batch_more : (old new : List LogEntry) (place : ℕ) (list : Statements) → IsPrefix old new → IsInBatch first old place list → IsInBatch first new place list
  batch_more old new place list more right = record {
    counts = right.counts;
    entry = right.entry;
    stands = begins_get old new (place - 1) more (get_within old (place - 1) right.entry right.stands) ∙ right.stands;
    lists = right.lists;
    is_batch = right.is_batch;
    position = right.position;
    has = right.has;
  }

  queued_more : (old new : List LogEntry) (op : Op) (place : ℕ) → IsPrefix old new → IsQueued first old op place → IsQueued first new op place
  queued_more old new (Write list mixed) place more right = absurd right
  queued_more old new (Queue list true) place more right = batch_more old new place list more right
  queued_more old new (Queue list false) place more right = tt
  queued_more old new (Read items level limit) place more right = absurd right

  right_more : (old new : List LogEntry) (op : Option Op) (say : Say) (place : ℕ) → IsPrefix old new → IsRight first old op say place → IsRight first new op say place
  right_more old new None say place more nothing = absurd nothing
  right_more old new (Some op) (Results results) place more right = results_more old new op place results more right
  right_more old new (Some op) (Queued sequence) place more right = queued_more old new op place more right
  right_more old new (Some op) Loaded place more right = absurd right
  right_more old new (Some op) (Backup sql) place more right = absurd right
  right_more old new (Some op) (Nodes servers) place more right = absurd right
  right_more old new (Some op) Ready place more right = absurd right
  right_more old new (Some op) Changed place more right = absurd right
  right_more old new (Some op) (Moved address) place more right = absurd right
  right_more old new (Some op) (Refused refusal) place more right = tt

  pub all_chosen : (old new : List LogEntry) (book notes : List Note) → IsPrefix old new → AllRight old book notes → AllRight new book notes
  all_chosen old new book [] grows all = tt
  all_chosen old new book (Asked number home op ∷ notes) grows (one, rest) = (tt, all_chosen old new book notes grows rest)
  all_chosen old new book (Answered number say place ∷ notes) grows (one, rest) = (right_more old new (op_of book number) say place grows one, all_chosen old new book notes grows rest)

pub op_kept : (book more : List Note) (number : ℕ) (op : Op) → op_of book number ≡ Some op → op_of (book ++ more) number ≡ Some op
op_kept [] more number op is = absurd (cc)
op_kept (Asked k home o ∷ book) more number op is = at (λ rest. op_kept book more number op rest) (nat_eq k number) refl
  where
    at : (op_of book number ≡ Some op → op_of (book ++ more) number ≡ Some op) → (b : Bool) → nat_eq k number ≡ b → op_of (Asked k home o ∷ (book ++ more)) number ≡ Some op
    at on true same = ap (λ (b : Bool). if b then Some o else op_of (book ++ more) number) same ∙ sym (ap (λ (b : Bool). if b then Some o else op_of book number) same) ∙ is
    at on false other =
        ap (λ (b : Bool). if b then Some o else op_of (book ++ more) number) other
        ∙ on (sym (ap (λ (b : Bool). if b then Some o else op_of book number) other) ∙ is)
op_kept (Answered k say place ∷ book) more number op is = op_kept book more number op is

pub op_behind : (book more : List Note) (number : ℕ) → op_of book number ≡ None → op_of (book ++ more) number ≡ op_of more number
op_behind [] more number is = refl
op_behind (Asked k home o ∷ book) more number is = at (λ rest. op_behind book more number rest) (nat_eq k number) refl
  where
    at : (op_of book number ≡ None → op_of (book ++ more) number ≡ op_of more number) → (b : Bool) → nat_eq k number ≡ b → op_of (Asked k home o ∷ (book ++ more)) number ≡ op_of more number
    at on true same = let e = sym is ∙ ap (λ (b : Bool). if b then Some o else op_of book number) same in absurd (cc)
    at on false other =
        ap (λ (b : Bool). if b then Some o else op_of (book ++ more) number) other
        ∙ on (sym (ap (λ (b : Bool). if b then Some o else op_of book number) other) ∙ is)
op_behind (Answered k say place ∷ book) more number is = op_behind book more number is

module _ (first : List Member) where
  pub all_more : (old new : List LogEntry) (book more notes : List Note) → IsPrefix old new → AllRight first old book notes → AllRight first new (book ++ more) notes
  all_more old new book more [] grows all = tt
  all_more old new book more (Asked number home op ∷ notes) grows (one, rest) = (tt, all_more old new book more notes grows rest)
  all_more old new book more (Answered number say place ∷ notes) grows (one, rest) =
      let op = right_op first old (op_of book number) say place one in
      let same : op_of (book ++ more) number ≡ op_of book number = op_kept book more number op.0 op.1 ∙ sym op.1 in
      (subst (λ (o : Option Op). IsRight first new o say place) (sym same) (right_more first old new (op_of book number) say place grows one), all_more old new book more notes grows rest)

pub places_ask_nothing : (first : List Member) (place : ℕ) (said : List Answer) (number : ℕ) → op_of (at_place first place said) number ≡ None
places_ask_nothing first place [] number = refl
places_ask_nothing first place (answer ∷ said) number = places_ask_nothing first place said number

pub places_both : (first : List Member) (place : ℕ) (one two : List Answer) → at_place first place (one ++ two) ≡ at_place first place one ++ at_place first place two
places_both first place [] two = refl
places_both first place (a ∷ one) two = ap (λ (l : List Note). Answered a.number a.say place ∷ l) (places_both first place one two)
