-- What files and a sink in memory show of themselves.
use Rattle.std.specs.Prelude.{ℕ, ◌<◌, List, drop, Option, All}
use Rattle.match_io.specs.declared.memory.MemoryFiles.{MemoryFiles}
use Rattle.match_io.specs.declared.memory.MemorySink.{MemorySink}
use Rattle.match_io.specs.declared.memory.SureFiles.{SureFiles}
use Rattle.match_io.specs.Counts.{next_count}
use Rattle.match_io.specs.Named.{held, file_from}

-- the bytes that lie under every name
abbrev pub sure_bytes : SureFiles → List ℕ
sure_bytes files = files.bytes.items

-- what is left to read
abbrev pub sure_left : SureFiles → List ℕ
sure_left files = drop files.at files.bytes.items

-- the bytes under a name
abbrev pub memory_holds : MemoryFiles → List ℕ → Option (List ℕ)
memory_holds files = held files.named.items

-- what is left of the file that was begun
abbrev pub memory_left : MemoryFiles → List ℕ
memory_left files = file_from files.named.items files.begun files.at

-- how many bytes a read gives at most
abbrev pub memory_step : MemoryFiles → ℕ
memory_step files = files.step

-- the numbers of the calls that are to fail
abbrev pub memory_failing : MemoryFiles → List ℕ
memory_failing files = files.failing.items

-- how many calls of `begin` and `read` were made
abbrev pub memory_calls : MemoryFiles → ℕ
memory_calls files = files.calls

-- how many of them failed
abbrev pub memory_faults : MemoryFiles → ℕ
memory_faults files = files.faults

-- no later call is listed: each number in the list is below that of the next call
abbrev pub memory_sure : MemoryFiles → Type 0
memory_sure files = All (λ n. n < next_count files.calls) files.failing.items

-- what was written
abbrev pub sink_bytes : MemorySink → List ℕ
sink_bytes sink = sink.taken.items

-- how many bytes it takes altogether
abbrev pub sink_room : MemorySink → ℕ
sink_room sink = sink.room

-- how many bytes a write takes at most
abbrev pub sink_step : MemorySink → ℕ
sink_step sink = sink.step

-- the numbers of the writes that are to fail
abbrev pub sink_failing : MemorySink → List ℕ
sink_failing sink = sink.failing.items

-- how many writes were made
abbrev pub sink_calls : MemorySink → ℕ
sink_calls sink = sink.calls

-- how many of them failed
abbrev pub sink_faults : MemorySink → ℕ
sink_faults sink = sink.faults
