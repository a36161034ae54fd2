use Rattle.std.proofs.Common.{◌≡◌, ℕ, ◌*◌, ◌%◌, ◌≤◌, true, false, List, length, replicate, Some, Ok, Err, refl, ap, ◌∙◌, subst, arith, rules}
use Rattle.model.specs.declared.entry.Entry.{Entry}
use Rattle.model.specs.declared.sheet.Sheet.{Sheet}
use Rattle.model.specs.Packet.{Bytes}
use Rattle.model.specs.Runs.{Packets, past}
use Rattle.model.specs.Watches.{Finding, Whole}
use Rattle.model.specs.Breaches.{all_clocked}
use Rattle.model.specs.Sheets.{entries_of, round_of}
use Rattle.verdict.specs.Ledgers.{State, Tallied, Rounds, Knows}
use Rattle.verdict.proofs.Sheets.{few_entries, whole_round}
use Rattle.verdict.proofs.Deciding.{mk, verdict_zero, verdict_unclocked, verdict_one, verdict_none, state_zero, state_one, knows_all, clocks_known, tallied}
use Rattle.verdict.proofs.check.check_with.Goals as goal

no_one : 1 ≤ 0 → ⊥
no_one h = omega arith

pub returns-in_err-first-clause-answers : goal.returns-in_err-first-clause-answers
returns-in_err-first-clause-answers g c =
    let s : Sheet = c.args.sheet.now in
    let es : List Entry = entries_of s in
    let T : ℕ = round_of s in
    let ps : Packets = g.R.Reel.packets c.args.reel.now in
    let f : Finding = g.W.Watch.finding c.args.watch.now in
    let few : length es ≤ 16 = few_entries s in
    let rows0 = c.new-ledger.result.rows in
    let s0 : State es T f ps (0 * length ps) rows0 f = state_zero es T f ps rows0 c.new-ledger.ensures.knows in
    let rows1 = c.check_round-first.new.ledger.rows in
    let g1 : Finding = g.W.Watch.finding c.check_round-first.new.watch in
    let x = c.in_err-first.field-0.0 in
    let a0 = subst (λ s. Rounds (entries_of s) (round_of s) f ps 0 (replicate 16 0) rows0 f (Err x) rows1 g1) c.new-ledger.ensures.sheet (subst (λ r. Rounds (entries_of c.new-ledger.result.sheet) (round_of c.new-ledger.result.sheet) f ps 0 (replicate 16 0) rows0 f r rows1 g1) c.in_err-first.was (c.check_round-first.ensures.finds f)) (λ h. absurd (no_one h)) s0 in
    let v = verdict_zero es T f ps x a0.1.0 a0.0 in
    search rules

pub returns-then-not-all_clocked-clause-answers : goal.returns-then-not-all_clocked-clause-answers
returns-then-not-all_clocked-clause-answers g c =
    let s : Sheet = c.args.sheet.now in
    let es : List Entry = entries_of s in
    let T : ℕ = round_of s in
    let ps : Packets = g.R.Reel.packets c.args.reel.now in
    let f : Finding = g.W.Watch.finding c.args.watch.now in
    let few : length es ≤ 16 = few_entries s in
    let rows0 = c.new-ledger.result.rows in
    let s0 : State es T f ps (0 * length ps) rows0 f = state_zero es T f ps rows0 c.new-ledger.ensures.knows in
    let rows1 = c.check_round-first.new.ledger.rows in
    let g1 : Finding = g.W.Watch.finding c.check_round-first.new.watch in
    let a0 = subst (λ x. Rounds (entries_of x) (round_of x) f ps 0 (replicate 16 0) rows0 f (Ok tt) rows1 g1) c.new-ledger.ensures.sheet (subst (λ r. Rounds (entries_of c.new-ledger.result.sheet) (round_of c.new-ledger.result.sheet) f ps 0 (replicate 16 0) rows0 f r rows1 g1) c.in_ok-first.was (c.check_round-first.ensures.finds f)) (λ h. absurd (no_one h)) s0 in
    let w : Whole ps = g.met.R.Reel.whole c.args.reel.now in
    let z : T % 300 ≡ 0 = whole_round s in
    let k1 : Knows es (past es T ps (length ps)) rows1 = knows_all es T f ps rows1 g1 (a0.1.1 refl) in
    let e1 : c.check_round-first.new.ledger.sheet ≡ s = c.check_round-first.ensures.same ∙ c.new-ledger.ensures.sheet in
    let cl = subst (λ x. (before : List Bytes) → Knows (entries_of x) before rows1 → false ≡ all_clocked (entries_of x) (entries_of x) before) e1 c.if-not-all_clocked.ensures (past es T ps (length ps)) k1 ∙ clocks_known es T ps w z in
    ap (λ x. Some (mk 0 x 31)) (c.count.ensures ∙ ap length c.check_round-first.ensures.keeps) ∙ verdict_unclocked es T f ps a0.0 cl

pub returns-in_err-check_round-clause-answers : goal.returns-in_err-check_round-clause-answers
returns-in_err-check_round-clause-answers g c =
    let s : Sheet = c.args.sheet.now in
    let es : List Entry = entries_of s in
    let T : ℕ = round_of s in
    let ps : Packets = g.R.Reel.packets c.args.reel.now in
    let f : Finding = g.W.Watch.finding c.args.watch.now in
    let few : length es ≤ 16 = few_entries s in
    let rows0 = c.new-ledger.result.rows in
    let s0 : State es T f ps (0 * length ps) rows0 f = state_zero es T f ps rows0 c.new-ledger.ensures.knows in
    let rows1 = c.check_round-first.new.ledger.rows in
    let g1 : Finding = g.W.Watch.finding c.check_round-first.new.watch in
    let a0 = subst (λ x. Rounds (entries_of x) (round_of x) f ps 0 (replicate 16 0) rows0 f (Ok tt) rows1 g1) c.new-ledger.ensures.sheet (subst (λ r. Rounds (entries_of c.new-ledger.result.sheet) (round_of c.new-ledger.result.sheet) f ps 0 (replicate 16 0) rows0 f r rows1 g1) c.in_ok-first.was (c.check_round-first.ensures.finds f)) (λ h. absurd (no_one h)) s0 in
    let w : Whole ps = g.met.R.Reel.whole c.args.reel.now in
    let z : T % 300 ≡ 0 = whole_round s in
    let k1 : Knows es (past es T ps (length ps)) rows1 = knows_all es T f ps rows1 g1 (a0.1.1 refl) in
    let e1 : c.check_round-first.new.ledger.sheet ≡ s = c.check_round-first.ensures.same ∙ c.new-ledger.ensures.sheet in
    let cl = subst (λ x. (before : List Bytes) → Knows (entries_of x) before rows1 → true ≡ all_clocked (entries_of x) (entries_of x) before) e1 c.if-not-all_clocked.ensures (past es T ps (length ps)) k1 ∙ clocks_known es T ps w z in
    let fault = c.in_err-check_round.field-0.0 in
    let ts : Tallied es ps c.tallies-tallies.result = tallied es T ps w z rows1 c.tallies-tallies.result few k1 c.tallies-tallies.ensures in
    let s1 = state_one es T f ps rows1 g1 (a0.1.1 refl) in
    let rows2 = c.check_round.new.ledger.rows in
    let g2 : Finding = g.W.Watch.finding c.check_round.new.watch in
    let b = subst (λ x. Rounds es T f x 1 c.tallies-tallies.result rows1 g1 (Err fault) rows2 g2) c.check_round-first.ensures.keeps
    (subst (λ x. Rounds (entries_of x) (round_of x) f (g.R.Reel.packets c.check_round-first.new.reel) 1 c.tallies-tallies.result rows1 g1 (Err fault) rows2 g2) e1 (c.in_err-check_round.ensures.finds f)) (λ _. ts) s1 in
    let v = verdict_one es T f ps a0.0 cl fault b.1.0 b.0 in
    search rules

pub returns-clause-answers : goal.returns-clause-answers
returns-clause-answers g c =
    let s : Sheet = c.args.sheet.now in
    let es : List Entry = entries_of s in
    let T : ℕ = round_of s in
    let ps : Packets = g.R.Reel.packets c.args.reel.now in
    let f : Finding = g.W.Watch.finding c.args.watch.now in
    let few : length es ≤ 16 = few_entries s in
    let rows0 = c.new-ledger.result.rows in
    let s0 : State es T f ps (0 * length ps) rows0 f = state_zero es T f ps rows0 c.new-ledger.ensures.knows in
    let rows1 = c.check_round-first.new.ledger.rows in
    let g1 : Finding = g.W.Watch.finding c.check_round-first.new.watch in
    let a0 = subst (λ x. Rounds (entries_of x) (round_of x) f ps 0 (replicate 16 0) rows0 f (Ok tt) rows1 g1) c.new-ledger.ensures.sheet (subst (λ r. Rounds (entries_of c.new-ledger.result.sheet) (round_of c.new-ledger.result.sheet) f ps 0 (replicate 16 0) rows0 f r rows1 g1) c.in_ok-first.was (c.check_round-first.ensures.finds f)) (λ h. absurd (no_one h)) s0 in
    let w : Whole ps = g.met.R.Reel.whole c.args.reel.now in
    let z : T % 300 ≡ 0 = whole_round s in
    let k1 : Knows es (past es T ps (length ps)) rows1 = knows_all es T f ps rows1 g1 (a0.1.1 refl) in
    let e1 : c.check_round-first.new.ledger.sheet ≡ s = c.check_round-first.ensures.same ∙ c.new-ledger.ensures.sheet in
    let cl = subst (λ x. (before : List Bytes) → Knows (entries_of x) before rows1 → true ≡ all_clocked (entries_of x) (entries_of x) before) e1 c.if-not-all_clocked.ensures (past es T ps (length ps)) k1 ∙ clocks_known es T ps w z in
    let ts : Tallied es ps c.tallies-tallies.result = tallied es T ps w z rows1 c.tallies-tallies.result few k1 c.tallies-tallies.ensures in
    let s1 = state_one es T f ps rows1 g1 (a0.1.1 refl) in
    let rows2 = c.check_round.new.ledger.rows in
    let g2 : Finding = g.W.Watch.finding c.check_round.new.watch in
    let b = subst (λ x. Rounds es T f x 1 c.tallies-tallies.result rows1 g1 (Ok tt) rows2 g2) c.check_round-first.ensures.keeps
    (subst (λ x. Rounds (entries_of x) (round_of x) f (g.R.Reel.packets c.check_round-first.new.reel) 1 c.tallies-tallies.result rows1 g1 (Ok tt) rows2 g2) e1 (c.in_ok-check_round.ensures.finds f)) (λ _. ts) s1 in
    verdict_none es T f ps a0.0 cl b.0

pub returns-clause-counts : goal.returns-clause-counts
returns-clause-counts g c =
    let s : Sheet = c.args.sheet.now in
    let es : List Entry = entries_of s in
    let T : ℕ = round_of s in
    let ps : Packets = g.R.Reel.packets c.args.reel.now in
    let f : Finding = g.W.Watch.finding c.args.watch.now in
    let few : length es ≤ 16 = few_entries s in
    let rows0 = c.new-ledger.result.rows in
    let s0 : State es T f ps (0 * length ps) rows0 f = state_zero es T f ps rows0 c.new-ledger.ensures.knows in
    let rows1 = c.check_round-first.new.ledger.rows in
    let g1 : Finding = g.W.Watch.finding c.check_round-first.new.watch in
    let a0 = subst (λ x. Rounds (entries_of x) (round_of x) f ps 0 (replicate 16 0) rows0 f (Ok tt) rows1 g1) c.new-ledger.ensures.sheet (subst (λ r. Rounds (entries_of c.new-ledger.result.sheet) (round_of c.new-ledger.result.sheet) f ps 0 (replicate 16 0) rows0 f r rows1 g1) c.in_ok-first.was (c.check_round-first.ensures.finds f)) (λ h. absurd (no_one h)) s0 in
    let w : Whole ps = g.met.R.Reel.whole c.args.reel.now in
    let z : T % 300 ≡ 0 = whole_round s in
    let k1 : Knows es (past es T ps (length ps)) rows1 = knows_all es T f ps rows1 g1 (a0.1.1 refl) in
    let e1 : c.check_round-first.new.ledger.sheet ≡ s = c.check_round-first.ensures.same ∙ c.new-ledger.ensures.sheet in
    let cl = subst (λ x. (before : List Bytes) → Knows (entries_of x) before rows1 → true ≡ all_clocked (entries_of x) (entries_of x) before) e1 c.if-not-all_clocked.ensures (past es T ps (length ps)) k1 ∙ clocks_known es T ps w z in
    tallied es T ps w z rows1 c.tallies-tallies.result few k1 c.tallies-tallies.ensures
