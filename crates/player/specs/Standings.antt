-- How a player stands, by its fields.
use Rattle.std.specs.Prelude.{◌≡◌, ℕ, ◌+◌, Bool, true, false, not, List, [], ◌∷◌, Some, None, Ok, Err, Option, Result, nat_le}
use Rattle.model.specs.declared.refusal.Refusal.{Refusal}
use Rattle.model.specs.Refusals.{refusal_number}
use Rattle.model.specs.Player.{Standing, Answer, refused, began, is_open, Counts as C}
use Rattle.model.specs.Tests.{first_broken}
use Rattle.verdict.specs.declared.verdict.Breach.{Breach}
use Rattle.player.specs.declared.progress.Progress.{Progress}
use Rattle.player.specs.declared.progress.refusals.Standing.{Standing as S}
use Rattle.player.specs.declared.progress.Counts.{Counts}
use Rattle.player.specs.declared.progress.Token.{Token}

-- what a check came to: the tallies of an approved reel, or the first breach
abbrev pub Checked : Type 0
Checked = Result (List ℕ) Breach

-- whether a check was made and approved
abbrev pub approved_in : Option Checked → Bool
approved_in None = false
approved_in (Some (Ok ts)) = true
approved_in (Some (Err b)) = false

abbrev pub standing_at : Bool → Progress → Standing
standing_at b p = record { approved = b; begun = p.begun; ended = p.ended; given_up = p.given_up; place = p.place }

abbrev pub standing_by : S → Standing
standing_by s = standing_at s.approved s.progress

-- the refusals of every call about a round, and of one about the open round
abbrev pub live_refusal : Standing → Option ℕ
live_refusal s = first_broken ((10, nat_le 1 s.given_up) ∷ (11, not s.approved) ∷ [])

abbrev pub open_refusal : Standing → Option ℕ
open_refusal s = first_broken ((10, nat_le 1 s.given_up) ∷ (11, not s.approved) ∷ (13, not (is_open s)) ∷ [])

abbrev pub counts_of : Counts → C
counts_of c = record { begun = c.begun; ended = c.ended; given_up = c.given_up; packets = c.packets; is_open = c.«open» }

-- a begin's answer
abbrev pub began_of : Result Token Refusal → Answer
began_of (Ok t) = began t.id.unit t.id.round
began_of (Err r) = refused (refusal_number r)

abbrev pub after_begin : Bool → Progress → Progress
after_begin false p = p
after_begin true p = record { begun = p.begun + 1; ended = p.ended; given_up = p.given_up; place = 0 }

abbrev pub after_send : Bool → Progress → Progress
after_send false p = p
after_send true p = record { begun = p.begun; ended = p.ended; given_up = p.given_up; place = p.place + 1 }

abbrev pub after_end : Bool → Progress → Progress
after_end false p = p
after_end true p = record { begun = p.begun; ended = p.ended + 1; given_up = p.given_up; place = p.place }

abbrev pub after_give_up : Bool → Progress → Progress
after_give_up false p = p
after_give_up true p = record { begun = p.begun; ended = p.ended; given_up = p.given_up + 1; place = p.place }

abbrev pub granted? : Option ℕ → Bool
granted? None = true
granted? (Some n) = false

-- what closing a round answers, with the token t handed back where it is refused
abbrev pub closed_of : Answer → Result (Unit {0}) (Refusal × Token) → Answer
closed_of a (Ok u) = a
closed_of a (Err e) = refused (refusal_number e.0)

abbrev pub without_token : Result (Unit {0}) (Refusal × Token) → Result (Unit {0}) Refusal
without_token (Ok u) = Ok u
without_token (Err e) = Err e.0

abbrev pub Back : Token → Result (Unit {0}) (Refusal × Token) → Type 0
Back t (Ok u) = Unit {0}
Back t (Err e) = e.1 ≡ t

abbrev pub refusal_of : Result (Unit {0}) Refusal → Option ℕ
refusal_of (Ok u) = None
refusal_of (Err r) = Some (refusal_number r)
