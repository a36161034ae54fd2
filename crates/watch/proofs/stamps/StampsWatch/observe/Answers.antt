use Rattle.std.proofs.Common.{Some, None, sym, ap, ◌∙◌, rules}
use Rattle.model.specs.Packet.{payload}
use Rattle.model.specs.Form.{sound}
use Rattle.model.specs.Stamps.{starts_pes, stamped}
use Rattle.model.specs.Sheets.{entries_of}
use Rattle.watch.proofs.Booleans.{found_since, none_since, none_right}
use Rattle.watch.proofs.stamps.StampsWatch.observe.Goals as goal
use Rattle.watch.proofs.stamps.StampsWatch.observe.Goals.{else-starts_pes-via-then-starts_pes+else-not-obeys_rule_30, else-starts_pes-via-else-starts_pes}

pub returns-then-not-obeys_rule_30 : goal.returns-then-not-obeys_rule_30
returns-then-not-obeys_rule_30 c =
    let p = c.args.packet.now in
    let es = entries_of c.args.self.now.sheet in
    record {
      answers = found_since (Some 30) None (sound es p) (starts_pes es p) (stamped (payload p))
          (sym c.starts_pes.ensures ∙ c.if-starts_pes.true)
          (sym (c.obeys_rule_30.ensures ∙ ap stamped c.payload_of.ensures) ∙ c.if-not-obeys_rule_30.true);
      learns = search rules;
    }

pub returns-else-starts_pes : goal.returns-else-starts_pes
returns-else-starts_pes c =
    let p = c.args.packet.now in
    let es = entries_of c.args.self.now.sheet in
    record {
      answers = elim c.else-starts_pes.branch [
        | else-starts_pes-via-then-starts_pes+else-not-obeys_rule_30 w ↦
            none_right (Some 30) None (sound es p) (starts_pes es p) (stamped (payload p))
            (sym (w.obeys_rule_30.ensures ∙ ap stamped w.payload_of.ensures) ∙ w.if-not-obeys_rule_30.false)
        | else-starts_pes-via-else-starts_pes w ↦
            none_since (Some 30) None (sound es p) (starts_pes es p) (stamped (payload p)) (sym c.starts_pes.ensures ∙ w.if-starts_pes.false)
      ];
      learns = search rules;
    }
