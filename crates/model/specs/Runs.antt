-- The endless run of a reel: its rounds, one after another, each moved on.
use Rattle.std.specs.Prelude.{ℕ, zero, suc, ◌+◌, ◌*◌, ◌/◌, ◌%◌, Bool, true, false, cond, not, ◌&&◌, ◌||◌, List, [], ◌∷◌, ◌++◌, length, get_or, ◌==◌, slice_index_or}
use Rattle.model.specs.declared.entry.Entry.{Entry}
use Rattle.model.specs.Packet.{Bytes, pid, continuity_counter, has_payload, is_null}
use Rattle.model.specs.Form.{sound}
use Rattle.model.specs.Moves.{moved}

abbrev pub Packets : Type 0
Packets = List Bytes

-- a packet with its place in a run
pub record Placed : Type 0 where
  pub place : ℕ
  pub bytes : Bytes

abbrev pub same : Bytes → Bytes → Bool
same [] [] = true
same [] (b ∷ bs) = false
same (a ∷ r) [] = false
same (a ∷ r) (b ∷ bs) = a == b && same r bs

-- the packets before place k of a run, the latest first
abbrev pub before : (ℕ → Bytes) → ℕ → List Bytes
before f zero = []
before f (suc k) = f k ∷ before f k

module _ (es : List Entry) where
  -- whether q, earlier in the run, is of p's PID and sound
  abbrev pub precedes : Bytes → Bytes → Bool
  precedes q p = sound es q && pid q == pid p

  -- whether p is a copy, after the packets past, the latest first: it equals its predecessor in every byte,
  -- which has a payload and is no copy
  abbrev pub copy : List Bytes → Bytes → Bool
  copy [] p = false
  copy (q ∷ past) p = cond (precedes q p) (same q p && (has_payload q && not (copy past q))) (copy past p)

  -- whether p's counter is right after the packets past, the latest first
  abbrev pub continues : List Bytes → Bytes → Bool
  continues [] p = true
  continues (q ∷ past) p =
      cond (precedes q p)
      (cond (has_payload p)
      (continuity_counter p == (continuity_counter q + 1) % 16 || copy (q ∷ past) p)
      (continuity_counter p == continuity_counter q))
      (continues past p)

  -- whether p counts for its PID's tally, and whether the watches are told of it
  abbrev pub counts : List Bytes → Bytes → Bool
  counts past p = sound es p && (has_payload p && not (copy past p))

  abbrev pub is_observed : List Bytes → Bytes → Bool
  is_observed past p = sound es p && (not (is_null p) && not (copy past p))

  -- how many of the packets past, the latest first, count for PID q
  abbrev pub counted : ℕ → List Bytes → ℕ
  counted q [] = 0
  counted q (p ∷ past) = cond (pid p == q && counts past p) 1 0 + counted q past

  -- the tally of PID q over a reel
  abbrev pub tally : Packets → ℕ → ℕ
  tally ps q = counted q (before (λ k. get_or ps k []) (length ps))

  module _ (T : ℕ) (ps : Packets) where
    -- packet p of round j
    abbrev pub restamped : ℕ → Bytes → Bytes
    restamped j p = moved es (j * tally ps (pid p)) (j * T) p

    -- the packet at place k of the endless run
    unfoldable pub run : ℕ → Bytes
    run k = restamped (k / length ps) (slice_index_or ps (k % length ps) [])

    -- the packets before place k, the latest first
    abbrev pub past : ℕ → List Bytes
    past k = before run k

    -- what the watches are told before place k, in order
    abbrev pub observed : ℕ → List Placed
    observed zero = []
    observed (suc k) = cond (is_observed (past k) (run k)) (observed k ++ (record { place = k; bytes = run k }) ∷ []) (observed k)
