-- What a log file stands for: its base, and then its frames in order, as docs/FORMATS.md, "The file pair", has it.
use Rattle.std.specs.Prelude.{◌-◌, ◌^◌, ◌<◌, List, [], ◌∷◌, ◌++◌, take}
use Rattle.rq_wal.specs.declared.base.Base.{Base}
use Rattle.rq_wal.specs.declared.base.Stored.{Stored}
use Rattle.rq_wire.specs.declared.frame.Frame.{Frame}
use Rattle.rq_wire.specs.declared.frame.Frame.TheVariants.{Vote, Splice, Boot}

-- a base alone
abbrev pub started : Base → Stored
started from = record { base = from; term = from.term; vote = from.vote; boot = from.boot; entries = [] }

-- one frame more
abbrev pub applied : Stored → Frame → Stored
applied stored (Vote term vote) = record stored { term = term; vote = vote }
applied stored (Splice from more) = record stored { entries = take (from - stored.base.index - 1) stored.entries ++ more }
applied stored (Boot boot) = record stored { boot = boot }

-- several frames more
abbrev pub applied_all : Stored → List Frame → Stored
applied_all stored [] = stored
applied_all stored (frame ∷ frames) = applied_all (applied stored frame) frames

-- a base and frames
abbrev pub stored_after : Base → List Frame → Stored
stored_after base frames = applied_all (started base) frames

-- A base has an index and a boot below 2 ^ 63.
pub record IsBase (base : Base) : Type 0 where
  pub boot : base.boot < 2 ^ 63
  pub index : base.index < 2 ^ 63
