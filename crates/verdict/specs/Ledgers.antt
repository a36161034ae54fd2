-- What a ledger knows of the packets past.
use Rattle.std.specs.Prelude.{◌≡◌, ℕ, ◌+◌, ◌*◌, ◌%◌, ◌<◌, ◌≤◌, Bool, true, false, cond, not, ◌&&◌, ◌||◌, List, [], ◌∷◌, ◌++◌, length, get_or, Some, None, Ok, Option, Result, IfErr, ◌==◌, slice_index, slice_index_or}
use Rattle.verdict.specs.declared.verdict.Breach.{Breach}
use Rattle.verdict.specs.Verdicts.{fault_at}
use Rattle.model.specs.declared.entry.Entry.{Entry}
use Rattle.model.specs.Entries.{is_clock}
use Rattle.model.specs.Packet.{Bytes, pid, has_payload, continuity_counter, has_pcr}
use Rattle.model.specs.Form.{sound}
use Rattle.model.specs.Runs.{Packets, Placed, same, copy, counted, tally, past, observed, is_observed, run}
use Rattle.model.specs.Watches.{Finding, basic, breach}
use Rattle.model.specs.Breaches.{clocked, first_in}
use Rattle.model.specs.Rules.{numbered}
use Rattle.model.specs.declared.rule.Rule.{Rule}
use Rattle.verdict.specs.declared.ledger.Row.{Row}
use Rattle.verdict.specs.declared.ledger.Judged.{Judged}

-- the latest sound packet of PID q
abbrev pub last_of : List Entry → List Bytes → ℕ → Option Bytes
last_of es [] q = None
last_of es (p ∷ before) q = cond (sound es p && pid p == q) (Some p) (last_of es before q)

-- whether it is a copy
abbrev pub last_copy : List Entry → List Bytes → ℕ → Bool
last_copy es [] q = false
last_copy es (p ∷ before) q = cond (sound es p && pid p == q) (copy es before p) (last_copy es before q)

pub record RowKnows (es : List Entry) (before : List Bytes) (q : ℕ) (row : Row) : Type 0 where
  pub last : row.last ≡ last_of es before q
  pub copied : row.copied ≡ last_copy es before q
  pub tallied : row.tally ≡ counted es q before % 16
  pub clock : row.clocked ≡ clocked es before q

-- each entry's row tells of its PID
abbrev pub Knows : List Entry → List Bytes → List Row → Type 0
Knows es before rows = (i : ℕ) (e : Entry) (row : Row) → i < length es → RowKnows es before (get_or es i e).pid (slice_index_or rows i row)

-- what is judged of p after the packets before it
pub record Judges (es : List Entry) (before : List Bytes) (p : Bytes) (j : Judged) (rows : List Row) : Type 0 where
  pub rule : numbered j.rule ≡ basic es before p
  pub observed : j.observed ≡ is_observed es before p
  pub knows : Knows es (p ∷ before) rows

-- tallies of a reel, modulo 16
abbrev pub Tallied : List Entry → Packets → List ℕ → Type 0
Tallied es ps ts = (i : ℕ) (e : Entry) → i < length es → slice_index ts i ≡ tally es ps (get_or es i e).pid % 16

-- what is known before place k of the endless run: the rows know its past, and the watch, of meaning g, was told of it
pub record State (es : List Entry) (T : ℕ) (f : Finding) (ps : Packets) (k : ℕ) (rows : List Row) (g : Finding) : Type 0 where
  pub knows : Knows es (past es T ps k) rows
  pub heard : (xs : List Placed) (x : Placed) → g xs x ≡ f (observed es T ps k ++ xs) x

-- what is found at a packet that the watch may be told of
abbrev pub Looks : List Entry → ℕ → Bytes → List Row → Finding → Option Rule → List Row → Finding → Type 0
Looks es k p rows g r rows2 g2 =
    (f : Finding) (T : ℕ) (ps : Packets) → run es T ps k ≡ p → State es T f ps k rows g →
    (numbered r ≡ breach es T f ps k) × (r ≡ None → State es T f ps (k + 1) rows2 g2)

-- what is found in a round, where the tallies are those of the reel or the round is the first
abbrev pub Rounds : List Entry → ℕ → Finding → Packets → ℕ → List ℕ → List Row → Finding → Result (Unit {0}) Breach → List Row → Finding → Type 0
Rounds es T f ps j ts rows g r rows2 g2 =
    ((1 ≤ j) → Tallied es ps ts) → State es T f ps (j * length ps) rows g →
    (fault_at (j * length ps) r ≡ first_in es T f ps (j * length ps) (length ps)) × (IfErr r (λ b. b.round ≡ j) × (r ≡ Ok tt → State es T f ps (j * length ps + length ps) rows2 g2))

-- whether p is a copy, and whether its counter is right, by its predecessor and whether that is a copy
abbrev pub copy_of : Option Bytes → Bool → Bytes → Bool
copy_of None copied p = false
copy_of (Some q) copied p = same q p && (has_payload q && not copied)

abbrev pub right_of : Option Bytes → Bool → Bytes → Bool
right_of None copied p = true
right_of (Some q) copied p = cond (has_payload p) (continuity_counter p == (continuity_counter q + 1) % 16 || copy_of (Some q) copied p) (continuity_counter p == continuity_counter q)

abbrev pub copy_by : Row → Bytes → Bool
copy_by row p = copy_of row.last row.copied p

abbrev pub right_by : Row → Bytes → Bool
right_by row p = right_of row.last row.copied p

abbrev pub noted_by : Row → Bytes → Row
noted_by row p = record {
  last = Some p;
  copied = copy_by row p;
  tally = cond (has_payload p && not (copy_by row p)) ((row.tally + 1) % 16) row.tally;
  clocked = row.clocked || has_pcr p;
}

-- whether a PID of the clock kind had no clock value
abbrev pub lacks : Entry → Row → Bool
lacks e row = is_clock (Some e.kind) && not row.clocked
