-- What a watch means, and the law that a watch of a looped reel keeps.
use Rattle.std.specs.Prelude.{◌≡◌, ℕ, ◌*◌, ◌<◌, ◌≤◌, cond, not, ◌&&◌, List, [], length, Some, None, Option, slice_index, slice_index_or}
use Rattle.model.specs.declared.entry.Entry.{Entry}
use Rattle.model.specs.Packet.{Bytes, payload}
use Rattle.model.specs.Form.{form, sound}
use Rattle.model.specs.Stamps.{starts_pes, stamped}
use Rattle.model.specs.Runs.{Packets, Placed, continues, is_observed, run, past, observed}
use Rattle.model.specs.Packet.{is_null}
use Rattle.model.specs.Tests.{or_else}

-- what is found, by the rule's number, at a packet after the packets told before it, in order
abbrev pub Finding : Type 0
Finding = List Placed → Placed → Option ℕ

-- the rule of form or continuity that p breaks after the packets before it, the latest first
abbrev pub basic : List Entry → List Bytes → Bytes → Option ℕ
basic es before p = or_else (form es p) (cond (not (is_null p) && not (continues es before p)) (Some 25) None)

-- what f finds at place k of the endless run
abbrev pub found : List Entry → ℕ → Finding → Packets → ℕ → Option ℕ
found es T f ps k = cond (is_observed es (past es T ps k) (run es T ps k)) (f (observed es T ps k) (record { place = k; bytes = run es T ps k })) None

-- what is broken first at place k of the endless run
abbrev pub breach : List Entry → ℕ → Finding → Packets → ℕ → Option ℕ
breach es T f ps k = or_else (basic es (past es T ps k) (run es T ps k)) (found es T f ps k)

-- packets of 188 bytes, at least one and not too many
pub record Whole (ps : Packets) : Type 0 where
  pub some : 1 ≤ length ps
  pub few : length ps ≤ 1000000000
  pub sized : (i : ℕ) → i < length ps → length (slice_index_or ps i []) ≡ 188
  pub small : (i k : ℕ) → i < length ps → k < 188 → slice_index (slice_index_or ps i []) k < 256

-- where rounds 0 and 1 break no rule of form or continuity and nothing is found in them, nothing is found in any round
abbrev pub RoundLaw : List Entry → ℕ → Finding → Type 0
RoundLaw es T f = (ps : Packets) → Whole ps → ((k : ℕ) → k < 2 * length ps → breach es T f ps k ≡ None) → (k : ℕ) → found es T f ps k ≡ None

-- two watches in one, the first's finding going before
abbrev pub bank : Finding → Finding → Finding
bank f g xs x = or_else (f xs x) (g xs x)

-- the stamps watch
abbrev pub stamps_finding : List Entry → Finding
stamps_finding es xs x = cond (sound es x.bytes && (starts_pes es x.bytes && not (stamped (payload x.bytes)))) (Some 30) None
