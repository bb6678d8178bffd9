-- Two answers to one question.
use Rattle.std.specs.Prelude.{◌≡◌, Result}
use Rattle.rq_values.specs.declared.error.DecodeError.{DecodeError}
use Rattle.rq_values.specs.Reading.{NeedsNoMemory}

-- they are the same, unless one of them found no memory
abbrev pub Agree : {X : Type 0} → Result X DecodeError → Result X DecodeError → Type 0
Agree one other = NeedsNoMemory one → NeedsNoMemory other → one ≡ other
