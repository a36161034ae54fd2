-- The round law of the stamps watch.
use Rattle.std.proofs.Common.{◌≡◌, ℕ, ◌+◌, ◌*◌, ◌%◌, ◌<◌, List, [], length, None, arith}
use Rattle.model.specs.declared.entry.Entry.{Entry}
use Rattle.model.specs.Runs.{Packets, run}
use Rattle.model.specs.Watches.{Whole, Finding, found, breach, RoundLaw, stamps_finding}
use Rattle.laws.proofs.Rounds.{run_packet, on_sound, on_pes, on_stamped}
use Rattle.laws.proofs.Loop.{Fine, shift, law_from, or_else_none}

pub fine_from : (es : List Entry) (T : ℕ) (f : Finding) (ps : Packets) (w : Whole ps) (z : T % 300 ≡ 0) → ((k : ℕ) → k < 2 * length ps → breach es T f ps k ≡ None) → Fine es T ps w z
fine_from es T f ps w z h k l = (or_else_none _ _ (h k (omega arith))).0

pub found_from : (es : List Entry) (T : ℕ) (f : Finding) (ps : Packets) → ((k : ℕ) → k < 2 * length ps → breach es T f ps k ≡ None) → (k : ℕ) → k < length ps + length ps → found es T f ps k ≡ None
found_from es T f ps h k l = (or_else_none _ _ (h k (omega arith))).1

pub stamps_law : (es : List Entry) (T : ℕ) → T % 300 ≡ 0 → RoundLaw es T (stamps_finding es)
unfolding shift
stamps_law es T z ps w h =
    let fine = fine_from es T (stamps_finding es) ps w z h in
    law_from es T ps w z fine (stamps_finding es) (λ k l t. same fine k) (found_from es T (stamps_finding es) ps h)
  where
    same : (fine : Fine es T ps w z) (k : ℕ) → stamps_finding es [] (shift es T ps w z fine (record { place = k; bytes = run es T ps k })) ≡ stamps_finding es [] (record { place = k; bytes = run es T ps k })
    same fine k =
        let p = run es T ps k in
        let g = run_packet es T ps w z k in
        rw (on_sound es T ps w z p g, on_pes es T ps w z p g, on_stamped es T ps w z p g)
