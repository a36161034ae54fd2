use Rattle.std.proofs.Common.{◌≡◌, length, Ok}
use Rattle.model.specs.Sections.{read_all, section}
use Rattle.watch.specs.Readings.{reading_of, next_of}
use Rattle.watch.specs.Assembled.{bytes_of}
use Rattle.watch.proofs.sections.reading.read_all.Given as goal

-- the bytes that are left lead to the same end
abbrev pub invariant-loop-rest : goal.invariant-loop-rest
invariant-loop-rest l =
    read_all (next_of l.next) (reading_of (Ok l.progress) (bytes_of l.section)) l.rest
    ≡ read_all (next_of l.next) (section (bytes_of l.initial.section)) l.bytes

abbrev pub decreases-loop-rest : goal.decreases-loop-rest
decreases-loop-rest l = length l.rest
