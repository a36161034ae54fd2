-- The bytes of an open section.
use Rattle.std.specs.Prelude.{take}
use Rattle.model.specs.Packet.{Bytes}
use Rattle.watch.specs.declared.sections.section.Section.{Section}

abbrev pub bytes_of : Section → Bytes
bytes_of s = take s.len s.buffer
