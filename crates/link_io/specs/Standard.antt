-- What stands behind the standard input and output.
use Rattle.std.specs.Prelude.{ℕ, List}
use Rattle.std.specs.declared.option.Option.{Option}
use Rattle.link_io.specs.declared.standard.StdSource.{StdSource}
use Rattle.link_io.specs.declared.standard.StdSink.{StdSink}

-- the bytes that the reader behind a source has left
abbrev pub reader_left : {R : Type 0} → (R → Option (List ℕ)) → StdSource R → Option (List ℕ)
reader_left remaining s = remaining s.inner

-- the bytes that the writer behind a sink holds
abbrev pub writer_holds : {W : Type 0} → (W → Option (List ℕ)) → StdSink W → Option (List ℕ)
writer_holds contents s = contents s.inner

-- how often the reader has given an error
abbrev pub reader_faults : {R : Type 0} → StdSource R → ℕ
reader_faults s = s.faults

-- how often the writer has given an error, or taken nothing
abbrev pub writer_faults : {W : Type 0} → StdSink W → ℕ
writer_faults s = s.faults
