use Rattle.std.proofs.Common.{◌≡◌, take}
use Rattle.model.specs.Buffers.{laid}
use Rattle.model.specs.File.{entries_bytes}
use Rattle.file.proofs.puts.put_entries.Given as goal

-- the entries so far stand at the front
abbrev pub invariant-loop-i : goal.invariant-loop-i
invariant-loop-i l = l.buffer ≡ laid 0 (entries_bytes (take l.i l.entries)) l.initial.buffer
