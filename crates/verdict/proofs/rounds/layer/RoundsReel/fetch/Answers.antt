use Rattle.std.proofs.Common.{◌≡◌, ℕ, ◌*◌, ◌/◌, ◌%◌, ◌<◌, List, [], length, get_or, sym, rules, ap, ◌∙◌, subst, arith}
use Rattle.model.specs.declared.entry.Entry.{Entry}
use Rattle.model.specs.Runs.{Packets}
use Rattle.model.specs.Sheets.{entries_of, round_of}
use Rattle.verdict.specs.RoundReels.{rounds_by}
use Rattle.verdict.specs.Tallies.{round_stamped}
use Rattle.laws.proofs.ReelLaws.{answers_ok, writes_ok}
use Rattle.verdict.specs.RoundLaws.{rounds_length, rounds_at}
use Rattle.verdict.proofs.rounds.layer.RoundsReel.fetch.Goals as goal

pub returns-in_err-allow_fetch-clause-answers : goal.returns-in_err-allow_fetch-clause-answers
returns-in_err-allow_fetch-clause-answers g c =
    let s = c.args.self.now in
    let ps : Packets = g.R.Reel.packets s.below in
    let n = rounds_length (entries_of s.sheet) (round_of s.sheet) s.tallies s.rounds ps s.fit ∙ ap (λ k. s.rounds * k) (sym c.count-count.ensures) in
    let a = c.in_err-allow_fetch.ensures.answers (rounds_by (entries_of s.sheet) (round_of s.sheet) s.tallies s.rounds ps) n in
    search rules

pub returns-in_err-allow_fetch-clause-writes : goal.returns-in_err-allow_fetch-clause-writes
returns-in_err-allow_fetch-clause-writes g c =
    let s = c.args.self.now in
    let ps : Packets = g.R.Reel.packets s.below in
    let n = rounds_length (entries_of s.sheet) (round_of s.sheet) s.tallies s.rounds ps s.fit ∙ ap (λ k. s.rounds * k) (sym c.count-count.ensures) in
    let a = c.in_err-allow_fetch.ensures.answers (rounds_by (entries_of s.sheet) (round_of s.sheet) s.tallies s.rounds ps) n in
    search rules

pub returns : goal.returns
returns g c =
    let s = c.args.self.now in
    let z = c.fetch_round.new.self in
    let ps : Packets = g.R.Reel.packets s.below in
    let es : List Entry = entries_of s.sheet in
    let qs : Packets = rounds_by es (round_of s.sheet) s.tallies s.rounds ps in
    let i : ℕ = c.args.place in
    let ok = s.fit in
    let n : length qs ≡ s.rounds * length ps = rounds_length es (round_of s.sheet) s.tallies s.rounds ps ok in
    let e = c.count-count.ensures in
    let k : i < s.rounds * length ps = subst (λ x. i < s.rounds * x) e c.in_ok-allow_fetch.ensures.within.1 in
    let l : length c.args.buffer.now ≡ 188 = c.in_ok-allow_fetch.ensures.within.0 in
    let h : i < length qs = omega arith in
    record {
      keeps =
          ap (λ x. rounds_by (entries_of x) (round_of x) z.tallies z.rounds (g.R.Reel.packets z.below)) c.fetch_round.ensures.same.0
          ∙ ap (λ (x : List ℕ). rounds_by es (round_of s.sheet) x z.rounds (g.R.Reel.packets z.below)) c.fetch_round.ensures.same.1.0
          ∙ ap (λ x. rounds_by es (round_of s.sheet) s.tallies x (g.R.Reel.packets z.below)) c.fetch_round.ensures.same.1.1
          ∙ ap (rounds_by es (round_of s.sheet) s.tallies s.rounds) c.fetch_round.ensures.keeps;
      answers = sym (answers_ok qs i _ l h);
      writes =
          c.copy_from_slice.ensures.after ∙ c.fetch_round.ensures.writes
          ∙ ap (λ x. round_stamped es (round_of s.sheet) s.tallies (i / x) (get_or ps (i % x) [])) e
          ∙ sym (rounds_at es (round_of s.sheet) s.tallies s.rounds ps ok i k) ∙ sym (writes_ok qs i c.args.buffer.now l h);
    }
