-- The check of a reel, and what it decides.
use Rattle.std.specs.Prelude.{◌≡◌, ℕ, zero, suc, ◌+◌, ◌-◌, ◌*◌, ◌<◌, Bool, true, false, cond, not, ◌&&◌, ◌||◌, ◌⊎◌, ◌↔◌, List, [], ◌∷◌, length, Some, None, Option, ◌==◌}
use Rattle.model.specs.declared.entry.Entry.{Entry}
use Rattle.model.specs.Entries.{is_clock}
use Rattle.model.specs.Packet.{pid, has_pcr}
use Rattle.model.specs.Form.{sound}
use Rattle.model.specs.Runs.{Packets}
use Rattle.model.specs.Watches.{Finding, breach}

-- whether some packet of ps carries a clock value of PID q
abbrev pub clocked : List Entry → Packets → ℕ → Bool
clocked es [] q = false
clocked es (p ∷ ps) q = (sound es p && (pid p == q && has_pcr p)) || clocked es ps q

-- rule 31: each PID of the clock kind carries a clock value
abbrev pub all_clocked : List Entry → List Entry → Packets → Bool
all_clocked es [] ps = true
all_clocked es (e ∷ rest) ps = (not (is_clock (Some e.kind)) || clocked es ps e.pid) && all_clocked es rest ps

pub record Breach : Type 0 where
  pub round : ℕ
  pub packet : ℕ
  pub rule : ℕ

module _ (es : List Entry) (T : ℕ) (f : Finding) (ps : Packets) where
  -- what stands at place k of the endless run, in the order of the check
  pub data Broken : Breach → Type 0 where
    at : (j i r : ℕ) → i < length ps → breach es T f ps (j * length ps + i) ≡ Some r → Broken (record { round = j; packet = i; rule = r })
    unclocked : all_clocked es es ps ≡ false → Broken (record { round = 0; packet = length ps; rule = 31 })

  -- n rounds break no rule
  abbrev pub Clean : ℕ → Type 0
  Clean n = (b : Breach) → Broken b → b.round < n → ⊥

  abbrev pub Later : Breach → Breach → Type 0
  Later a b = (a.round < b.round) ⊎ ((a.round ≡ b.round) × (a.packet < b.packet))

  abbrev pub first_or : Option ℕ → ℕ → Option (ℕ × ℕ) → Option (ℕ × ℕ)
  first_or (Some r) k later = Some (k, r)
  first_or None k later = later

  -- the place and the rule of the first breach among n places from k on
  abbrev pub first_in : ℕ → ℕ → Option (ℕ × ℕ)
  first_in k zero = None
  first_in k (suc n) = first_or (breach es T f ps k) k (first_in (suc k) n)

  abbrev pub in_round : ℕ → Option (ℕ × ℕ) → Option Breach → Option Breach
  in_round j (Some b) later = Some (record { round = j; packet = b.0 - j * length ps; rule = b.1 })
  in_round j None later = later

  -- what the check answers: round 0, then rule 31, then round 1
  abbrev pub verdict : Option Breach
  verdict = in_round 0 (first_in 0 (length ps))
      (cond (all_clocked es es ps) (in_round 1 (first_in (length ps) (length ps)) None) (Some (record { round = 0; packet = length ps; rule = 31 })))

  -- it approves exactly where no number of rounds breaks a rule, and otherwise names the first breach of all
  pub record Decides (v : Option Breach) : Type 0 where
    pub approves : (v ≡ None) ↔ ((n : ℕ) → Clean n)
    pub broken : (b : Breach) → v ≡ Some b → Broken b
    pub first : (b : Breach) → v ≡ Some b → (a : Breach) → Broken a → (a ≡ b) ⊎ Later b a
