use Rattle.std.proofs.Common.{ℕ, ◌-◌, ◌*◌, List, ap, ◌∙◌}
use Rattle.model.specs.Sheets.{entries_of, round_of}
use Rattle.verdict.specs.Tallies.{restamped_by, at_row}
use Rattle.model.specs.Entries.{row_of}
use Rattle.model.specs.Packet.{pid}
use Rattle.verdict.specs.Going.{moved_ticks}
use Rattle.player.specs.Players.{tallies_in}
use Rattle.player.proofs.progress.player.Player.restamp_now.Goals as goal

pub returns : goal.returns
returns g c =
    let s = c.args.self.now in
    let es = entries_of s.sheet in
    let T = round_of s.sheet in
    let p = c.args.packet.now in
    let j = s.progress.begun - 1 in
    c.restamp.ensures
    ∙ ap (λ (ts : List ℕ). restamped_by es s.shift ts c.saturating_sub.result p) c.tallies-tallies.ensures
    ∙ ap (λ k. restamped_by es s.shift (tallies_in s.seen) k p) c.saturating_sub.ensures
    ∙ ap (λ t. restamped_by es t (tallies_in s.seen) j p) s.shifted
    ∙ moved_ticks es (j * at_row (tallies_in s.seen) (row_of es (pid p))) (j * T) p
