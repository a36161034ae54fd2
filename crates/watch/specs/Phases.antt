-- The sections watch by what it remembers.
use Rattle.std.specs.Prelude.{cond, List, None}
use Rattle.model.specs.declared.entry.Entry.{Entry}
use Rattle.model.specs.Entries.{row_of}
use Rattle.model.specs.Packet.{pid}
use Rattle.model.specs.Watches.{Finding}
use Rattle.model.specs.Sections.{Phase, unstarted, carries, phase_from, advance, offence}
use Rattle.watch.specs.declared.sections.row.Row.{Row}
use Rattle.watch.specs.Tables.{at}
use Rattle.watch.specs.Readings.{phase_in}
use Rattle.watch.specs.Assembled.{bytes_of}

abbrev pub phase_of : Row → Phase
phase_of r = phase_in r.stage (bytes_of r.section)

-- what is found, each PID standing at the phase of its row
abbrev pub sections_from : List Entry → List Phase → Finding
sections_from es phases xs x =
    let q = pid x.bytes in
    let ph = phase_from es q (at phases unstarted (row_of es q)) xs in
    cond (carries es q x) (offence ph (advance ph x.bytes)) None
