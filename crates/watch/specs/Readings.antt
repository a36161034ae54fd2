-- Where a reading and a PID stand, with the bytes of the open section.
use Rattle.std.specs.Prelude.{◌≡◌, ℕ, take, Some, None, Ok, Err, Option, Result}
use Rattle.model.specs.Packet.{Bytes}
use Rattle.model.specs.declared.rule.Rule.{Rule}
use Rattle.model.specs.Rules.{rule_number}
use Rattle.model.specs.Sections as model
use Rattle.model.specs.Sections.{section, ended, filling, wrong, unstarted, between, inside, offended}
use Rattle.watch.specs.declared.sections.progress.Progress.{Progress}
use Rattle.watch.specs.declared.sections.progress.Progress.TheVariants.{Open, Ended, Filling}
use Rattle.watch.specs.declared.sections.progress.Taken.{Taken}
use Rattle.watch.specs.declared.sections.progress.Next.{Next}
use Rattle.watch.specs.declared.sections.progress.Next.TheVariants.{Nothing, Stuffing, More}
use Rattle.watch.specs.declared.sections.progress.Stage.{Stage}
use Rattle.watch.specs.declared.sections.progress.Stage.TheVariants.{Unstarted, Between, Inside}

abbrev pub reading_of : Result Progress Rule → Bytes → model.Reading
reading_of (Ok Open) u = section u
reading_of (Ok Ended) u = ended
reading_of (Ok Filling) u = filling
reading_of (Err r) u = wrong (rule_number r)

-- a section that stood at u took on some bytes in front of bs, and stands at v; or a byte of bs breaks a rule
abbrev pub Takes : Bytes → Bytes → Result Taken Rule → Bytes → Type 0
Takes u bs (Ok t) v = (n : model.Next) → reading_of (Ok t.progress) v ≡ model.read_all n (section u) (take t.count bs)
Takes u bs (Err r) v = (n : model.Next) → wrong (rule_number r) ≡ model.read_all n (section u) bs

abbrev pub next_of : Next → model.Next
next_of Nothing = model.nothing
next_of Stuffing = model.stuffing
next_of More = model.more

abbrev pub phase_in : Result Stage Rule → Bytes → model.Phase
phase_in (Ok Unstarted) u = unstarted
phase_in (Ok Between) u = between
phase_in (Ok Inside) u = inside u
phase_in (Err r) u = offended (rule_number r)

-- the offence, if any
abbrev pub offence_in : {A : Type 0} → Result A Rule → Option ℕ
offence_in (Ok a) = None
offence_in (Err r) = Some (rule_number r)
