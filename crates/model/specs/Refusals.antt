-- The number of each refusal.
use Rattle.std.specs.Prelude.{ℕ, Some, None, Ok, Err, Option, Result}
use Rattle.model.specs.declared.refusal.Refusal.{Refusal}
use Rattle.model.specs.declared.refusal.Refusal.TheVariants.{Trailer, Distance, Count, Entries, Timing, Extent, Buffer, PastEnd, TooLong, GaveUp, NotApproved, RoundOpen, NoRound, WrongToken, AllSent, PacketsLeft, RoundsSpent}

abbrev pub refusal_number : Refusal → ℕ
refusal_number Trailer = 1
refusal_number Distance = 2
refusal_number Count = 3
refusal_number Entries = 4
refusal_number Timing = 5
refusal_number Extent = 6
refusal_number Buffer = 7
refusal_number PastEnd = 8
refusal_number TooLong = 9
refusal_number GaveUp = 10
refusal_number NotApproved = 11
refusal_number RoundOpen = 12
refusal_number NoRound = 13
refusal_number WrongToken = 14
refusal_number AllSent = 15
refusal_number PacketsLeft = 16
refusal_number RoundsSpent = 17

abbrev pub refused_by : Option Refusal → Option ℕ
refused_by None = None
refused_by (Some r) = Some (refusal_number r)

-- what a call answers: a value, as f reads it, or a refusal's number
abbrev pub outcome : {A B : Type 0} → (A → B) → Result A Refusal → Result B ℕ
outcome f (Ok a) = Ok (f a)
outcome f (Err r) = Err (refusal_number r)
