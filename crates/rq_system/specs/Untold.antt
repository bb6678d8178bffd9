-- A disk that tells no content, and whose calls take no memory.
use Rattle.std.specs.Prelude.{ℕ, ◌^◌, []}
use Rattle.rq_outside.specs.Disk.{DiskMeaning}

-- it has failed so often
abbrev pub untold : ℕ → DiskMeaning
untold faults = record {
  content = [];
  images = λ c. Unit {0};
  moment = 0;
  since = λ t c. Unit {0};
  faults = faults;
  room_bytes = 2 ^ 64;
  room_calls = 2 ^ 32;
}
