-- Rounds of a reel, one after the other, as a reel.
use Rattle.std.specs.Prelude.{ℕ, zero, suc, ◌*◌, ◌/◌, ◌%◌, cond, List, [], ◌∷◌, ◌++◌, length, Ok, Err, Result, slice_index_or}
use Rattle.model.specs.declared.entry.Entry.{Entry}
use Rattle.model.specs.declared.refusal.Refusal.{Refusal}
use Rattle.model.specs.declared.sheet.Sheet.{Sheet}
use Rattle.model.specs.Packet.{Bytes}
use Rattle.model.specs.Refusals.{refusal_number}
use Rattle.model.specs.Runs.{Packets, run}
use Rattle.model.specs.Sheets.{entries_of, round_of}
use Rattle.verdict.specs.Tallies.{round_stamped}
use Rattle.verdict.specs.Fitting.{fit_rounds}
use Rattle.verdict.specs.declared.rounds.Rounds.{Rounds}

-- the first m packets of a run, in order
abbrev pub first_of : (ℕ → Bytes) → ℕ → Packets
first_of f zero = []
first_of f (suc m) = first_of f m ++ (f m ∷ [])

-- the packet at place k of the rounds, by a table of tallies
abbrev pub stamped_at : List Entry → ℕ → List ℕ → Packets → ℕ → Bytes
stamped_at es T ts ps k = round_stamped es T ts (k / length ps) (slice_index_or ps (k % length ps) [])

-- n rounds of ps, and the whole of ps where they do not fit
abbrev pub rounds_by : List Entry → ℕ → List ℕ → ℕ → Packets → Packets
rounds_by es T ts n ps = cond (fit_rounds n (length ps)) (first_of (stamped_at es T ts ps) (n * length ps)) ps

abbrev pub rounds_of : {R : Type 0} {b : _} → Rounds R b → Packets → Packets
rounds_of r ps = rounds_by (entries_of r.sheet) (round_of r.sheet) r.tallies r.rounds ps

-- what the constructor answers over a reel of packets ps: the first packets of the endless run, or refusal 6 and the reel
module _ {R : Type 0} (packets : R → Packets) where
  abbrev pub rounds_made : {b : _} → Result (Rounds R b) (Refusal × R) → Result Packets (ℕ × R)
  rounds_made (Ok r) = Ok (rounds_of r (packets r.below))
  rounds_made (Err e) = Err (refusal_number e.0, e.1)

  abbrev pub rounds_due : R → Sheet → ℕ → Result Packets (ℕ × R)
  rounds_due below s n =
      let ps = packets below in
      cond (fit_rounds n (length ps)) (Ok (first_of (run (entries_of s) (round_of s) ps) (n * length ps))) (Err (6, below))
