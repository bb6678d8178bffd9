-- What sources and sinks in memory tell.
use Rattle.std.specs.Prelude.{ℕ, List, drop}
use Rattle.rq_outside.specs.declared.in_memory.source.MemSource.{MemSource}
use Rattle.rq_outside.specs.declared.in_memory.source.SureSource.{SureSource}
use Rattle.rq_outside.specs.declared.in_memory.sink.MemSink.{MemSink}
use Rattle.rq_outside.specs.declared.in_memory.sink.SureSink.{SureSink}

-- the bytes left in a source
abbrev pub left_in_sure : SureSource → List ℕ
left_in_sure source = drop source.taken source.content.items

abbrev pub left_in_mem : MemSource → List ℕ
left_in_mem source = left_in_sure source.bytes

-- the bytes taken by a sink
abbrev pub taken_by_mem : MemSink → List ℕ
taken_by_mem sink = sink.content.items

abbrev pub taken_by_sure : SureSink → List ℕ
taken_by_sure sink = sink.content.items
