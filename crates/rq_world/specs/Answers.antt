-- Each ask is answered once, and behind its note. docs/RAFT.md, "From the rules to one log".
use Rattle.std.specs.Prelude.{ℕ, ◌≡◌, Some, List, slice_get, take}
use Rattle.rq_wire.specs.declared.config.Member.{Member}
use Rattle.rq_request.specs.declared.say.Say.{Say}
use Rattle.rq_world.specs.World.{Op, Answered, Run, world}
use Rattle.rq_world.specs.Promise.{op_of, IsNumbered}

module _ (first : List Member) where
  -- two answers to one ask, whatever they say, are one note of the book
  abbrev pub EachAskIsAnsweredOnce : Type 0
  EachAskIsAnsweredOnce = (run : Run) → IsNumbered first run → (j k number place other : ℕ) (say more : Say)
      → slice_get (world first run).book j ≡ Some (Answered number say place) → slice_get (world first run).book k ≡ Some (Answered number more other) → j ≡ k

  -- what an answer answers was noted before it
  abbrev pub EachAnswerFollowsItsAsk : Type 0
  EachAnswerFollowsItsAsk = (run : Run) → IsNumbered first run → (k number place : ℕ) (say : Say)
      → slice_get (world first run).book k ≡ Some (Answered number say place) → (op : Op) × (op_of (take k (world first run).book) number ≡ Some op)
