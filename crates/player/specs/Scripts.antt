-- Turns as a history.
use Rattle.std.specs.Prelude.{◌≡◌, ℕ, Bool, true, false, List, [], ◌∷◌, reverse, Some, None, Ok, Err, vec_items, Option, Result}
use Rattle.model.specs.declared.entry.Entry.{Entry}
use Rattle.model.specs.Packet.{Bytes}
use Rattle.model.specs.Runs.{Packets}
use Rattle.model.specs.Watches.{Finding}
use Rattle.model.specs.Breaches.{verdict}
use Rattle.model.specs.Refusals.{refusal_number}
use Rattle.model.specs.Player as rules
use Rattle.player.specs.declared.progress.script.Call.{Call}
use Rattle.player.specs.declared.progress.script.Call.TheVariants.{Check, Begin, Send, End, GiveUp, Question}
use Rattle.player.specs.declared.progress.script.Answer.{Answer}
use Rattle.player.specs.declared.progress.script.Answer.TheVariants.{Checked, Began, Sent, Ended, GaveUp as GivenUp, Counted}
use Rattle.player.specs.declared.progress.script.Turn.{Turn}
use Rattle.model.specs.declared.refusal.Refusal.{Refusal}
use Rattle.player.specs.Standings.{Checked as Seen, counts_of, approved_in}
use Rattle.verdict.specs.Verdicts.{breach_of}
use Rattle.player.specs.Players.{tallies_in, standing_of}
use Rattle.verdict.specs.Ledgers.{Tallied}
use Rattle.player.specs.declared.progress.player.Player.{Player}
use Rattle.model.specs.Sheets.{entries_of, round_of}
use Rattle.model.specs.declared.sheet.Sheet.{Sheet}

-- a call with its buffer
abbrev pub call_of : Call → Bytes → rules.Call
call_of Check b = rules.check
call_of Begin b = rules.begin
call_of Send b = rules.send b
call_of (End i) b = rules.finish i.unit i.round
call_of (GiveUp i) b = rules.give_up i.unit i.round
call_of Question b = rules.question

-- an answer with what the buffer then holds
abbrev pub answer_in : Result Answer Refusal → Bytes → rules.Answer
answer_in (Err r) b = rules.refused (refusal_number r)
answer_in (Ok (Checked v)) b = rules.checked (breach_of v)
answer_in (Ok (Began i)) b = rules.began i.unit i.round
answer_in (Ok Sent) b = rules.wrote b
answer_in (Ok Ended) b = rules.ended
answer_in (Ok GivenUp) b = rules.gave_up
answer_in (Ok (Counted c)) b = rules.counted (counts_of c)

-- the same of a turn, whose call may still have to be issued
abbrev pub answer_of : Option (Result Answer Refusal) → Bytes → rules.Answer
answer_of None b = rules.refused 0
answer_of (Some a) b = answer_in a b

abbrev pub event_of : Turn → Turn → rules.Event
event_of before after = record { call = call_of before.call (vec_items before.buffer); answer = answer_of after.answer (vec_items after.buffer) }

-- the turns in order, before and after
abbrev pub events : List Turn → List Turn → List rules.Event
events [] ys = []
events (x ∷ xs) [] = []
events (x ∷ xs) (y ∷ ys) = event_of x y ∷ events xs ys

abbrev pub history_of : List Turn → List Turn → rules.History
history_of xs ys = reverse (events xs ys)

abbrev pub is_sent : Result Answer Refusal → Bool
is_sent (Ok Sent) = true
is_sent (Err r) = false
is_sent (Ok (Checked v)) = false
is_sent (Ok (Began i)) = false
is_sent (Ok Ended) = false
is_sent (Ok GivenUp) = false
is_sent (Ok (Counted c)) = false

abbrev pub was_sent : Option (Result Answer Refusal) → Bool
was_sent None = false
was_sent (Some a) = is_sent a

-- a turn changes its answer, and its buffer where something was sent
pub record Answers (before after : Turn) : Type 0 where
  pub call : after.call ≡ before.call
  pub buffer : was_sent after.answer ≡ false → vec_items after.buffer ≡ vec_items before.buffer

-- each turn keeps its call, and its buffer where nothing was sent
abbrev pub Turned : List Turn → List Turn → Type 0
Turned [] ys = Unit {0}
Turned (x ∷ xs) [] = Unit {0}
Turned (x ∷ xs) (y ∷ ys) = Answers x y × Turned xs ys

-- what a player has seen of its reel ps by the check
pub record Sees (es : List Entry) (T : ℕ) (f : Finding) (ps : Packets) (seen : Option Seen) (g : Finding) : Type 0 where
  pub unseen : seen ≡ None → verdict es T g ps ≡ verdict es T f ps
  pub verdict_is : (c : Seen) → seen ≡ Some c → breach_of c ≡ verdict es T f ps
  pub tallied : approved_in seen ≡ true → Tallied es ps (tallies_in seen)

-- a player with what its reel and its watch mean
pub record View : Type 0 where
  pub sheet : Sheet
  pub packets : Packets
  pub unit : ℕ
  pub seen : Option Seen
  pub standing : rules.Standing
  pub finding : Finding

abbrev pub view : {S W : Type 0} → Player S W → Packets → Finding → View
view p qs g = record { sheet = p.sheet; packets = qs; unit = p.unit; seen = p.seen; standing = standing_of p; finding = g }

-- a player of sheet s, reel ps and unit number unit, after the calls of a history; f is what a new watch finds
pub record After (s : Sheet) (f : Finding) (ps : Packets) (unit : ℕ) (h : rules.History) (v : View) : Type 0 where
  pub lawful : rules.Lawful (entries_of s) (round_of s) f ps unit h
  pub sheet_is : v.sheet ≡ s
  pub packets_is : v.packets ≡ ps
  pub unit_is : v.unit ≡ unit
  pub stands : v.standing ≡ rules.standing h
  pub sees : Sees (entries_of s) (round_of s) f ps v.seen v.finding

-- a call with its answer carries every history on
abbrev pub Asked : View → View → rules.Call → rules.Answer → Type 0
Asked v w c a = (s : Sheet) (f : Finding) (ps : Packets) (unit : ℕ) (h : rules.History) → After s f ps unit h v → After s f ps unit ((record { call = c; answer = a }) ∷ h) w

-- the same of a player before and after, by what its reel and its watch mean
abbrev pub Goes : {S W : Type 0} → (S → Packets) → (W → Finding) → Player S W → Player S W → rules.Call → rules.Answer → Type 0
Goes packets finding p q c a = Asked (view p (packets p.reel) (finding p.watch)) (view q (packets q.reel) (finding q.watch)) c a
