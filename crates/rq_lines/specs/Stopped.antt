-- The last line of a script that stops before its end: docs/SCRIPT.md, "The end".
use Rattle.std.specs.Prelude.{ℕ, List, ◌++◌, codes, decimal}
use Rattle.rq_lines.specs.declared.writing.Stopped.{Stopped}
use Rattle.rq_lines.specs.declared.writing.Stopped.TheVariants as stopped

abbrev pub stopped_text : Stopped → List ℕ
stopped_text (stopped.Word place word) = codes "stopped: word " ++ decimal place ++ codes ": " ++ word.now ++ codes "\n"
stopped_text (stopped.Line number) = codes "stopped: line " ++ decimal number ++ codes "\n"
stopped_text stopped.ReadFault = codes "stopped: read fault\n"
stopped_text stopped.RandomWords = codes "stopped: random words\n"
