-- What may be expected of a player over any list of calls.
use Rattle.std.specs.Prelude.{◌≡◌, ℕ, ◌+◌, ◌-◌, ◌*◌, ◌<◌, Bool, true, false, cond, not, ◌&&◌, List, [], ◌∷◌, ◌++◌, length, Some, None, Option, ◌==◌, nat_le, nat_lt}
use Rattle.model.specs.declared.entry.Entry.{Entry}
use Rattle.model.specs.Packet.{Bytes}
use Rattle.model.specs.Runs.{Packets, run, past}
use Rattle.model.specs.Watches.{Finding, breach}
use Rattle.model.specs.Breaches.{Breach, verdict, Decides}
use Rattle.model.specs.Tests.{first_broken}

-- a call with what the caller hands in: a buffer, or the unit and the round of a token
pub data Call : Type 0 where
  check : Call
  begin : Call
  send : Bytes → Call
  finish : ℕ → ℕ → Call
  give_up : ℕ → ℕ → Call
  question : Call

pub record Counts : Type 0 where
  pub begun : ℕ
  pub ended : ℕ
  pub given_up : ℕ
  pub packets : ℕ
  pub is_open : Bool

pub data Answer : Type 0 where
  refused : ℕ → Answer
  checked : Option Breach → Answer
  began : ℕ → ℕ → Answer
  wrote : Bytes → Answer
  ended : Answer
  gave_up : Answer
  counted : Counts → Answer

pub record Event : Type 0 where
  pub call : Call
  pub answer : Answer

-- the calls so far with their answers, the latest first
abbrev pub History : Type 0
History = List Event

abbrev pub tally_of : (Answer → Bool) → History → ℕ
tally_of f [] = 0
tally_of f (e ∷ h) = cond (f e.answer) 1 0 + tally_of f h

abbrev pub is_began : Answer → Bool
is_began (began u j) = true
is_began (refused n) = false
is_began (checked v) = false
is_began (wrote b) = false
is_began ended = false
is_began gave_up = false
is_began (counted c) = false

abbrev pub is_wrote : Answer → Bool
is_wrote (wrote b) = true
is_wrote (began u j) = false
is_wrote (refused n) = false
is_wrote (checked v) = false
is_wrote ended = false
is_wrote gave_up = false
is_wrote (counted c) = false

abbrev pub is_ended : Answer → Bool
is_ended ended = true
is_ended (wrote b) = false
is_ended (began u j) = false
is_ended (refused n) = false
is_ended (checked v) = false
is_ended gave_up = false
is_ended (counted c) = false

abbrev pub is_gave_up : Answer → Bool
is_gave_up gave_up = true
is_gave_up ended = false
is_gave_up (wrote b) = false
is_gave_up (began u j) = false
is_gave_up (refused n) = false
is_gave_up (checked v) = false
is_gave_up (counted c) = false

abbrev pub is_approval : Answer → Bool
is_approval (checked None) = true
is_approval (checked (Some b)) = false
is_approval gave_up = false
is_approval ended = false
is_approval (wrote b) = false
is_approval (began u j) = false
is_approval (refused n) = false
is_approval (counted c) = false

abbrev pub begins : History → ℕ
begins h = tally_of is_began h

abbrev pub ends : History → ℕ
ends h = tally_of is_ended h

abbrev pub gave_ups : History → ℕ
gave_ups h = tally_of is_gave_up h

abbrev pub sends : History → ℕ
sends h = tally_of is_wrote h

abbrev pub approved : History → Bool
approved h = nat_le 1 (tally_of is_approval h)

abbrev pub open? : History → Bool
open? h = nat_lt (ends h + gave_ups h) (begins h)

-- the packets sent since the last begin
abbrev pub sent_now : History → ℕ
sent_now [] = 0
sent_now (e ∷ h) = cond (is_began e.answer) 0 (cond (is_wrote e.answer) 1 0 + sent_now h)

-- how a player stands: whether a check has approved, the accepted calls of each kind, and the packets sent since the last begin
pub record Standing : Type 0 where
  pub approved : Bool
  pub begun : ℕ
  pub ended : ℕ
  pub given_up : ℕ
  pub place : ℕ

abbrev pub standing : History → Standing
standing h = record { approved = approved h; begun = begins h; ended = ends h; given_up = gave_ups h; place = sent_now h }

abbrev pub is_open : Standing → Bool
is_open s = nat_lt (s.ended + s.given_up) s.begun

-- whether a token of unit u and round j is that of the round begun last
abbrev pub ours : ℕ → ℕ → ℕ → ℕ → Bool
ours unit begun u j = u == unit && j + 1 == begun

-- the refusal that a call meets, on a reel of n packets
module _ (unit n : ℕ) where
  abbrev pub refusal : Standing → Call → Option ℕ
  refusal s check = None
  refusal s question = None
  refusal s begin = first_broken ((10, nat_le 1 s.given_up) ∷ (11, not s.approved) ∷ (12, is_open s) ∷ (17, nat_le 1000000 s.begun) ∷ [])
  refusal s (send b) = first_broken ((7, not (length b == 188)) ∷ (10, nat_le 1 s.given_up) ∷ (11, not s.approved) ∷ (13, not (is_open s)) ∷ (15, nat_le n s.place) ∷ [])
  refusal s (finish u j) = first_broken ((10, nat_le 1 s.given_up) ∷ (11, not s.approved) ∷ (13, not (is_open s)) ∷ (14, not (ours unit s.begun u j)) ∷ (16, nat_lt s.place n) ∷ [])
  refusal s (give_up u j) = first_broken ((10, nat_le 1 s.given_up) ∷ (11, not s.approved) ∷ (13, not (is_open s)) ∷ (14, not (ours unit s.begun u j)) ∷ [])

-- an accepted call's answer a, or the refusal
abbrev pub answered : Option ℕ → Answer → Answer
answered None a = a
answered (Some n) a = refused n

-- the packets sent in all, where rounds before the last were sent whole
abbrev pub sent_by : ℕ → Standing → ℕ
sent_by n s = (s.begun - 1) * n + s.place

abbrev pub counts : ℕ → Standing → Counts
counts n s = record { begun = s.begun; ended = s.ended; given_up = s.given_up; packets = sent_by n s; is_open = is_open s }

module _ (es : List Entry) (T : ℕ) (f : Finding) (ps : Packets) (unit : ℕ) where
  -- what an accepted call answers after the calls so far
  abbrev pub granted : History → Call → Answer
  granted h check = checked (verdict es T f ps)
  granted h begin = began unit (begins h)
  granted h (send b) = wrote (run es T ps (sends h))
  granted h (finish u j) = ended
  granted h (give_up u j) = gave_up
  granted h question = counted (record { begun = begins h; ended = ends h; given_up = gave_ups h; packets = sends h; is_open = open? h })

  abbrev pub due : History → Call → Answer
  due h c = answered (refusal unit (length ps) (standing h) c) (granted h c)

  -- each answer is the one that the calls before it call for
  abbrev pub Lawful : History → Type 0
  Lawful [] = Unit {0}
  Lawful (e ∷ h) = (e.answer ≡ due h e.call) × Lawful h

  abbrev pub output : Answer → List Bytes
  output (wrote b) = b ∷ []
  output (refused n) = []
  output (checked v) = []
  output (began u j) = []
  output ended = []
  output gave_up = []
  output (counted c) = []

  -- what accepted sends wrote, the latest first
  abbrev pub written : History → List Bytes
  written [] = []
  written (e ∷ h) = output e.answer ++ written h

  -- every history of a new player
  pub record Kept (h : History) : Type 0 where
    pub decides : Decides es T f ps (verdict es T f ps)
    pub lawful : Lawful h
    pub writes : written h ≡ past es T ps (sends h)
    pub unbroken : (k : ℕ) → k < sends h → breach es T f ps k ≡ None
    pub balanced : begins h ≡ ends h + gave_ups h + cond (open? h) 1 0
