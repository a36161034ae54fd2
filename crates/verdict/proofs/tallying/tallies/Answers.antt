use Rattle.std.proofs.Common.{◌≡◌, ℕ, ◌%◌, ◌<◌, false, List, [], ◌∷◌, length, get_or, replicate, None, sym, refl, ap, ◌∙◌, subst, add-one, arith}
use Rattle.model.specs.declared.entry.Entry.{Entry}
use Rattle.model.specs.Packet.{Bytes}
use Rattle.model.specs.Reels.{filled}
use Rattle.model.specs.Runs.{Packets, before, counted}
use Rattle.model.specs.Sheets.{entries_of}
use Rattle.laws.proofs.ReelLaws.{writes_ok}
use Rattle.verdict.specs.declared.ledger.Row.{Row}
use Rattle.verdict.specs.Ledgers.{Knows, Judges}
use Rattle.verdict.proofs.Sheets.{few_entries}
use Rattle.verdict.proofs.tallying.tallies.Goals as goal

pub loop-i-preserved : goal.loop-i-preserved
loop-i-preserved g c =
    let es : List Entry = entries_of c.args.sheet.now in
    let ps : Packets = g.R.Reel.packets c.args.reel.now in
    let i : ℕ = c.loop-i.i in
    let l : i < length ps = (let e = c.count-i-end.ensures in omega arith) in
    let p : c.fetch.new.buffer ≡ get_or ps i [] =
    c.fetch.ensures.writes ∙ ap (λ (x : Packets). filled x i (replicate 188 0)) c.loop-i.invariant.0 ∙ writes_ok ps i (replicate 188 0) refl l in
    let past : List Bytes = before (λ k. get_or ps k []) i in
    let s = c.loop-i.invariant.1.0 in
    let j = subst (λ s. (before : List Bytes) → Knows (entries_of s) before c.loop-i.ledger.rows → Judges (entries_of s) before c.fetch.new.buffer c.judge.result c.judge.new.self.rows) s c.judge.ensures.judges in
    let k : Knows es (c.fetch.new.buffer ∷ past) c.judge.new.self.rows = (j past c.loop-i.invariant.1.1).knows in (
      c.fetch.ensures.keeps ∙ c.loop-i.invariant.0,
      (
        c.judge.ensures.same ∙ s,
        subst (λ n. Knows es (before (λ k. get_or ps k []) n) c.judge.new.self.rows) (sym (add-one i)) (subst (λ (x : Bytes). Knows es (x ∷ past) c.judge.new.self.rows) p k),
      ),
    )

pub returns-clause-counts : goal.returns-clause-counts
returns-clause-counts g c =
    let es : List Entry = entries_of c.args.sheet.now in
    let ps : Packets = g.R.Reel.packets c.args.reel.now in
    let e : c.loop-i.i ≡ length ps = (let n = c.count-i-end.ensures in omega arith) in
    let blank : Row = record { last = None; copied = false; tally = 0; clocked = false } in
    λ i d l.
    (let s : i < 16 = (let f = few_entries c.args.sheet.now in omega arith) in
    c.tallies.ensures i blank s ∙ (c.loop-i.invariant.1.1 i d blank l).tallied ∙ ap (λ n. counted es (get_or es i d).pid (before (λ k. get_or ps k []) n) % 16) e)
