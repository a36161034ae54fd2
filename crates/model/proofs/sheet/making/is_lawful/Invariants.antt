use Rattle.std.proofs.Common.{◌≡◌, drop}
use Rattle.model.specs.Entries.{lawful}
use Rattle.model.proofs.sheet.making.is_lawful.Given as goal

-- the entries so far are lawful beside all that follow: the rest decides
abbrev pub invariant-loop-i : goal.invariant-loop-i
invariant-loop-i l = lawful l.entries ≡ lawful (drop l.i l.entries)
