use Rattle.std.proofs.Common.{◌≡◌, false, None, rules}
use Rattle.model.specs.Sheets.{entries_of}
use Rattle.verdict.proofs.Looking.{look_observed, next_observed, look_else, next_untold}
use Rattle.verdict.proofs.check.look.Goals as goal
use Rattle.verdict.proofs.check.look.Goals.{else-is_none-via-then-is_none+else-judged, else-is_none-via-else-is_none}

pub returns-then-judged-clause-looks : goal.returns-then-judged-clause-looks
returns-then-judged-clause-looks g c = λ f T ps q s. (
  look_observed (entries_of c.args.ledger.now.sheet) T f ps c.args.place c.args.ledger.now.rows (g.W.Watch.finding c.args.watch.now) s c.judge-judged.result c.judge-judged.new.self.rows c.args.packet.now q
      (c.judge-judged.ensures.judges _ s.knows) (search rules) c.if-judged.true _ c.observe.ensures.answers,
  λ e. next_observed (entries_of c.args.ledger.now.sheet) T f ps c.args.place c.args.ledger.now.rows (g.W.Watch.finding c.args.watch.now) s c.judge-judged.result c.judge-judged.new.self.rows c.args.packet.now q
      (c.judge-judged.ensures.judges _ s.knows) c.if-judged.true (g.W.Watch.finding c.observe.new.self) c.observe.ensures.learns,
)

pub returns-else-is_none-clause-looks : goal.returns-else-is_none-clause-looks
returns-else-is_none-clause-looks g c = λ f T ps q s.
    let h : c.judge-judged.result.rule ≡ None → c.judge-judged.result.observed ≡ false = elim c.else-is_none.branch [
      | else-is_none-via-then-is_none+else-judged w ↦ λ e. w.if-judged.false
      | else-is_none-via-else-is_none w ↦ λ e. search rules
    ] in (
      look_else (entries_of c.args.ledger.now.sheet) T f ps c.args.place c.args.ledger.now.rows (g.W.Watch.finding c.args.watch.now) s c.judge-judged.result c.judge-judged.new.self.rows c.args.packet.now q
          (c.judge-judged.ensures.judges _ s.knows) h,
      λ e. next_untold (entries_of c.args.ledger.now.sheet) T f ps c.args.place c.args.ledger.now.rows (g.W.Watch.finding c.args.watch.now) s c.judge-judged.result c.judge-judged.new.self.rows c.args.packet.now q
          (c.judge-judged.ensures.judges _ s.knows) (h e),
    )
