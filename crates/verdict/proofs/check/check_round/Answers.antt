use Rattle.std.proofs.Common.{◌≡◌, ℕ, ◌+◌, ◌*◌, ◌<◌, List, [], length, get_or, replicate, Some, None, Ok, Err, Result, sym, refl, ap, ◌∙◌, subst, add_assoc, arith, below_more}
use Rattle.model.specs.declared.entry.Entry.{Entry}
use Rattle.model.specs.Packet.{Bytes}
use Rattle.model.specs.Runs.{Packets, run}
use Rattle.model.specs.Reels.{filled}
use Rattle.model.specs.Rules.{rule_number}
use Rattle.model.specs.Watches.{breach}
use Rattle.model.specs.Sheets.{entries_of, round_of}
use Rattle.laws.proofs.ReelLaws.{writes_ok}
use Rattle.model.specs.declared.sheet.Sheet.{Sheet}
use Rattle.verdict.specs.declared.verdict.Breach.{Breach}
use Rattle.verdict.specs.Tallies.{restamped_by}
use Rattle.verdict.specs.Ledgers.{State, Looks}
use Rattle.verdict.specs.Going.{run_at, round_some, round_none}
use Rattle.verdict.proofs.check.check_round.Goals as goal

never : {b : Breach} → ◌≡◌ {A = Result (Unit {0}) Breach} (Err b) (Ok tt) → ⊥
never {b} h = let z : ◌≡◌ {A = ℕ} 0 1 = cc in omega arith

-- what a fetch and a move under a sheet leave in the buffer
stamped_there : (s s0 : Sheet) (qs ps : Packets) (ts : List ℕ) (j i : ℕ) (b p m : Bytes) → s ≡ s0 → qs ≡ ps → length b ≡ 188 → i < length ps → p ≡ filled qs i b → m ≡ restamped_by (entries_of s) (j * round_of s) ts j p → m ≡ restamped_by (entries_of s0) (j * round_of s0) ts j (get_or ps i [])
stamped_there s s0 qs ps ts j i b p m a e l h w q = q ∙ ap (λ x. restamped_by (entries_of x) (j * round_of x) ts j p) a ∙ ap (restamped_by (entries_of s0) (j * round_of s0) ts j) (w ∙ ap (λ x. filled x i b) e ∙ writes_ok ps i b l h)

pub returns-in-Some-clause-finds : goal.returns-in-Some-clause-finds
returns-in-Some-clause-finds g c =
    let s : Sheet = c.args.ledger.now.sheet in
    let es : List Entry = entries_of s in
    let T : ℕ = round_of s in
    let ps : Packets = g.R.Reel.packets c.args.reel.now in
    let j : ℕ = c.args.round in
    let n : ℕ = c.count-n.result in
    let i : ℕ = c.loop-i.i in
    let e : n ≡ length ps = c.count-n.ensures in
    let l : i < length ps = omega arith in
    λ f t z.
    let v = c.loop-i.invariant.2 f t (subst (λ x. State es T f ps (j * x) c.args.ledger.now.rows (g.W.Watch.finding c.args.watch.now)) (sym e) z) in
    let m = stamped_there c.sheet.result.now s (g.R.Reel.packets c.loop-i.reel) ps c.args.tallies.now j i (replicate 188 0) c.fetch.new.buffer c.restamp.new.packet c.sheet.ensures c.loop-i.invariant.1 refl l c.fetch.ensures.writes
    (c.restamp.ensures ∙ ap (λ x. restamped_by (entries_of c.sheet.result.now) (j * x) c.args.tallies.now j c.fetch.new.buffer) c.round_length.ensures) in
    let q : run es T ps (j * n + i) ≡ c.restamp.new.packet = run_at es T ps c.args.tallies.now j n e t i c.loop-i-test.true c.restamp.new.packet m in
    let k = subst (λ x. Looks (entries_of x) (j * n + i) c.restamp.new.packet c.loop-i.ledger.rows (g.W.Watch.finding c.loop-i.watch) (Some c.in-Some.rule) c.look.new.ledger.rows (g.W.Watch.finding c.look.new.watch)) c.loop-i.invariant.0 c.in-Some.ensures.looks in
    let b : Some (rule_number c.in-Some.rule) ≡ breach es T f ps (j * n + i) = (k f T ps q v.0).0 in (
      round_some es T f ps n e j i c.loop-i-test.true (rule_number c.in-Some.rule) v.1 b,
      (refl, λ z. absurd (never z)),
    )

pub loop-i-preserved : goal.loop-i-preserved
loop-i-preserved g c =
    let s : Sheet = c.args.ledger.now.sheet in
    let es : List Entry = entries_of s in
    let T : ℕ = round_of s in
    let ps : Packets = g.R.Reel.packets c.args.reel.now in
    let j : ℕ = c.args.round in
    let n : ℕ = c.count-n.result in
    let i : ℕ = c.loop-i.i in
    let e : n ≡ length ps = c.count-n.ensures in
    let l : i < length ps = omega arith in (
      c.look.ensures.same ∙ c.loop-i.invariant.0,
      c.fetch.ensures.keeps ∙ c.loop-i.invariant.1,
      λ f t z.
          let v = c.loop-i.invariant.2 f t z in
          let m = stamped_there c.sheet.result.now s (g.R.Reel.packets c.loop-i.reel) ps c.args.tallies.now j i (replicate 188 0) c.fetch.new.buffer c.restamp.new.packet c.sheet.ensures c.loop-i.invariant.1 refl l c.fetch.ensures.writes
          (c.restamp.ensures ∙ ap (λ x. restamped_by (entries_of c.sheet.result.now) (j * x) c.args.tallies.now j c.fetch.new.buffer) c.round_length.ensures) in
          let q : run es T ps (j * n + i) ≡ c.restamp.new.packet = run_at es T ps c.args.tallies.now j n e t i c.loop-i-test.true c.restamp.new.packet m in
          let k = subst (λ x. Looks (entries_of x) (j * n + i) c.restamp.new.packet c.loop-i.ledger.rows (g.W.Watch.finding c.loop-i.watch) None c.look.new.ledger.rows (g.W.Watch.finding c.look.new.watch)) c.loop-i.invariant.0 c.in_default.ensures.looks in
          let b = k f T ps q v.0 in (
            subst (λ x. State es T f ps x c.look.new.ledger.rows (g.W.Watch.finding c.look.new.watch)) (add_assoc (j * n) i 1) (b.1 refl),
            below_more (λ k. breach es T f ps (j * n + k) ≡ None) i v.1 (sym b.0),
          ),
    )

pub returns-clause-finds : goal.returns-clause-finds
returns-clause-finds g c =
    let s : Sheet = c.args.ledger.now.sheet in
    let es : List Entry = entries_of s in
    let T : ℕ = round_of s in
    let ps : Packets = g.R.Reel.packets c.args.reel.now in
    let j : ℕ = c.args.round in
    let n : ℕ = c.count-n.result in
    let i : ℕ = c.loop-i.i in
    let e : n ≡ length ps = c.count-n.ensures in
    let z : i ≡ length ps = omega arith in
    λ f t z0.
    let v = c.loop-i.invariant.2 f t (subst (λ x. State es T f ps (j * x) c.args.ledger.now.rows (g.W.Watch.finding c.args.watch.now)) (sym e) z0) in (
      round_none es T f ps n e j i c.loop-i-test.false v.1,
      (
        tt,
        λ _. subst (λ x. State es T f ps (j * length ps + x) c.loop-i.ledger.rows (g.W.Watch.finding c.loop-i.watch)) z
            (subst (λ x. State es T f ps (j * x + i) c.loop-i.ledger.rows (g.W.Watch.finding c.loop-i.watch)) e v.0),
      ),
    )
