use Rattle.std.proofs.Common.{ℕ, ◌<◌, false, List, length, take, sym, refl, ap, ◌∙◌, subst, arith}
use Rattle.model.specs.declared.sheet.Sheet.{Sheet}
use Rattle.model.specs.Runs.{Packets}
use Rattle.model.specs.Watches.{Finding}
use Rattle.model.specs.Sheets.{entries_of, round_of}
use Rattle.model.specs.Player as rules
use Rattle.laws.proofs.Final.{decided}
use Rattle.player.specs.declared.progress.script.Turn.{Turn}
use Rattle.player.specs.Standings.{standing_at, approved_in}
use Rattle.player.specs.Scripts.{After, view, history_of}
use Rattle.verdict.proofs.Sheets.{whole_round}
use Rattle.player.proofs.Scripting.{rest_more, history_more, history_all, turned_more}
use Rattle.player.proofs.Keeping.{kept, new_sees}
use Rattle.player.proofs.progress.script.run.run_calls.Goals as goal

pub loop-turn-init : goal.loop-turn-init
loop-turn-init g c = (
  refl,
  tt,
  record {
    lawful = tt;
    sheet_is = refl;
    packets_is = refl;
    unit_is = c.new-player.ensures.holds.1.1;
    stands = ap (λ o. standing_at (approved_in o) c.new-player.result.progress) c.new-player.ensures.starts.0 ∙ ap (standing_at false) c.new-player.ensures.starts.1;
    sees = new_sees c.new-player.result.sheet (g.W.Watch.fresh c.new-player.result.sheet) (g.S.Reel.packets c.new-player.result.reel) c.new-player.result.seen (g.W.Watch.finding c.new-player.result.watch)
        c.new-player.ensures.starts.0
        (λ xs x. c.new-player.ensures.fresh xs x ∙ ap (λ s. g.W.Watch.fresh s xs x) (sym c.new-player.ensures.holds.1.0));
  },
)

pub loop-turn-preserved : goal.loop-turn-preserved
loop-turn-preserved g c =
    let xs : List Turn = c.args.turns.now in
    let ys : List Turn = c.loop-turn.turns in
    let i : ℕ = c.loop-turn.turn-index in
    let d : Turn = c.turn-item.result in
    let y : Turn = c.issue.new.turn in
    let l : i < length xs = c.loop-turn-test.true in
    let m : i < length ys = omega arith in
    let s : Sheet = c.new-player.result.sheet in
    let f : Finding = g.W.Watch.fresh s in
    let ps : Packets = g.S.Reel.packets c.new-player.result.reel in (
      rest_more xs ys i d y l m c.loop-turn.invariant.0,
      turned_more xs ys i d y l m c.loop-turn.invariant.0 c.loop-turn.invariant.1 c.issue.ensures.answers,
      subst (λ h. After s f ps c.args.unit h (view c.issue.new.player (g.S.Reel.packets c.issue.new.player.reel) (g.W.Watch.finding c.issue.new.player.watch)))
          (sym (history_more xs ys i d y l m c.loop-turn.invariant.0))
          (c.issue.ensures.after s f ps c.args.unit (history_of (take i xs) (take i ys)) c.loop-turn.invariant.2),
    )

pub returns-clause-kept : goal.returns-clause-kept
returns-clause-kept g c =
    let xs : List Turn = c.args.turns.now in
    let ys : List Turn = c.loop-turn.turns in
    let i : ℕ = c.loop-turn.turn-index in
    let s : Sheet = c.new-player.result.sheet in
    let P : Sheet → Packets → Type 0 = λ t qs. rules.Kept (entries_of t) (round_of t) (g.W.Watch.fresh t) qs c.args.unit (history_of xs ys) in
    let k : rules.Kept (entries_of s) (round_of s) (g.W.Watch.fresh s) (g.S.Reel.packets c.new-player.result.reel) c.args.unit (history_of xs ys) =
    kept (entries_of s) (round_of s) (g.W.Watch.fresh s) (g.S.Reel.packets c.new-player.result.reel) (g.met.S.Reel.whole c.new-player.result.reel) c.args.unit (history_of xs ys)
    (decided (entries_of s) (round_of s) (whole_round s) (g.W.Watch.fresh s) (g.met.W.Watch.rounds s) (g.S.Reel.packets c.new-player.result.reel) (g.met.S.Reel.whole c.new-player.result.reel))
    (subst (rules.Lawful (entries_of s) (round_of s) (g.W.Watch.fresh s) (g.S.Reel.packets c.new-player.result.reel) c.args.unit) (history_all xs ys i c.loop-turn-test.false c.loop-turn.auto.turns) c.loop-turn.invariant.2.lawful) in
    subst (λ qs. P c.args.sheet qs) (ap g.S.Reel.packets c.new-player.ensures.holds.0)
    (subst (λ t. P t (g.S.Reel.packets c.new-player.result.reel)) c.new-player.ensures.holds.1.0 k)
