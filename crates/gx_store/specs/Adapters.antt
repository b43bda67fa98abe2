-- What the adapters of std's readers and writers show of themselves: what they adapt, and their counts of faults.
use Rattle.std.specs.Prelude.{ℕ}
use Rattle.gx_store.specs.declared.std_sink.StdSink.{StdSink}
use Rattle.gx_store.specs.declared.std_source.StdSource.{StdSource}

-- the reader that a source adapts
abbrev pub reader_of : {R : Type 0} → StdSource R → R
reader_of source = source.inner

-- how many of its reads failed
abbrev pub read_faults : {R : Type 0} → StdSource R → ℕ
read_faults source = source.faults

-- the writer that a sink adapts
abbrev pub writer_of : {W : Type 0} → StdSink W → W
writer_of sink = sink.inner

-- how many of its writes failed
abbrev pub write_faults : {W : Type 0} → StdSink W → ℕ
write_faults sink = sink.faults
