-- What a call that is asked leaves.
use Rattle.std.proofs.Common.{◌≡◌, ℕ, ◌+◌, ◌-◌, true, [], ◌∷◌, length, get_or, None, sym, refl, ap, ◌∙◌, subst, zero-add}
use Rattle.model.specs.declared.sheet.Sheet.{Sheet}
use Rattle.model.specs.Packet.{Bytes}
use Rattle.model.specs.Runs.{Packets, run}
use Rattle.model.specs.Watches.{Finding}
use Rattle.model.specs.Sheets.{entries_of, round_of}
use Rattle.model.specs.Player as rules
use Rattle.player.specs.Scripts.{View, After, Asked, Sees}
use Rattle.player.specs.Standings.{approved_in}
use Rattle.player.specs.Players.{tallies_in}
use Rattle.verdict.specs.Tallies.{round_stamped}
use Rattle.player.proofs.HistoryLaw.{inv}
use Rattle.player.proofs.Playing as playing
use Rattle.verdict.specs.Going.{run_at}

abbrev mk : rules.Call → rules.Answer → rules.Event
mk c a = record { call = c; answer = a }

pub still_counted : (h : rules.History) (c : rules.Call) (k : rules.Counts) → rules.standing (mk c (rules.counted k) ∷ h) ≡ rules.standing h
still_counted h c k =
    let a = zero-add (rules.tally_of rules.is_approval h) in let b = zero-add (rules.begins h) in let d = zero-add (rules.ends h) in let e = zero-add (rules.gave_ups h) in let p = zero-add (rules.sent_now h) in
    rw (a, b, d, e, p)

-- the same but for the standing, which an answer moves
module _ (v w : View) (sheet : w.sheet ≡ v.sheet) (packets : w.packets ≡ v.packets) (unit-same : w.unit ≡ v.unit) (seen : w.seen ≡ v.seen) (finding : w.finding ≡ v.finding) where
  pub asks : (c : rules.Call) (a : rules.Answer) →
      ((s : Sheet) (f : Finding) (ps : Packets) (unit : ℕ) (h : rules.History) → After s f ps unit h v → (a ≡ rules.due (entries_of s) (round_of s) f ps unit h c) × (w.standing ≡ rules.standing (mk c a ∷ h))) →
      Asked v w c a
  asks c a q s f ps unit h x =
      let y = q s f ps unit h x in
      record {
        lawful = (y.0, x.lawful);
        sheet_is = sheet ∙ x.sheet_is;
        packets_is = packets ∙ x.packets_is;
        unit_is = unit-same ∙ x.unit_is;
        stands = y.1;
        sees = subst (λ g. Sees (entries_of s) (round_of s) f ps w.seen g) (sym finding) (subst (λ o. Sees (entries_of s) (round_of s) f ps o v.finding) (sym seen) x.sees);
      }

-- a refusal by how the player stands is the one that is due
module _ (s : Sheet) (f : Finding) (ps : Packets) (unit : ℕ) (h : rules.History) (v : View) (x : After s f ps unit h v) where
  pub same_refusal : (c : rules.Call) → rules.refusal v.unit (length v.packets) v.standing c ≡ rules.refusal unit (length ps) (rules.standing h) c
  same_refusal c =
      ap (λ u. rules.refusal u (length v.packets) v.standing c) x.unit_is
      ∙ ap (λ qs. rules.refusal unit (length qs) v.standing c) x.packets_is
      ∙ ap (λ st. rules.refusal unit (length ps) st c) x.stands

  pub granted_due : (c : rules.Call) → None ≡ rules.refusal v.unit (length v.packets) v.standing c → rules.granted (entries_of s) (round_of s) f ps unit h c ≡ rules.due (entries_of s) (round_of s) f ps unit h c
  granted_due c e = ap (λ o. rules.answered o (rules.granted (entries_of s) (round_of s) f ps unit h c)) (e ∙ same_refusal c)

  pub counts_are : rules.counts (length v.packets) v.standing ≡ record { begun = rules.begins h; ended = rules.ends h; given_up = rules.gave_ups h; packets = rules.sends h; is_open = rules.open? h }
  counts_are =
      ap (λ qs. rules.counts (length qs) v.standing) x.packets_is
      ∙ ap (rules.counts (length ps)) x.stands
      ∙ ap (λ m. record { begun = rules.begins h; ended = rules.ends h; given_up = rules.gave_ups h; packets = m; is_open = rules.open? h }) (sym (inv (entries_of s) (round_of s) f ps unit h x.lawful).sent)

  -- what an accepted send writes
  pub packet_is : v.standing.approved ≡ approved_in v.seen → (b : Bytes) → None ≡ rules.refusal v.unit (length v.packets) v.standing (rules.send b) →
      round_stamped (entries_of v.sheet) (round_of v.sheet) (tallies_in v.seen) (v.standing.begun - 1) (get_or v.packets v.standing.place []) ≡ run (entries_of s) (round_of s) ps (rules.sends h)
  packet_is self b e =
      let p = playing.sends unit (length ps) (rules.standing h) b (e ∙ same_refusal (rules.send b)) in
      let ok : approved_in v.seen ≡ true = sym self ∙ ap (λ st. st.approved) x.stands ∙ p.approved in
      ap (λ t. round_stamped (entries_of t) (round_of t) (tallies_in v.seen) (v.standing.begun - 1) (get_or v.packets v.standing.place [])) x.sheet_is
      ∙ ap (λ qs. round_stamped (entries_of s) (round_of s) (tallies_in v.seen) (v.standing.begun - 1) (get_or qs v.standing.place [])) x.packets_is
      ∙ ap (λ st. round_stamped (entries_of s) (round_of s) (tallies_in v.seen) (st.begun - 1) (get_or ps st.place [])) x.stands
      ∙ sym (run_at (entries_of s) (round_of s) ps (tallies_in v.seen) (rules.begins h - 1) (length ps) refl (λ _. x.sees.tallied ok) (rules.sent_now h) p.left _ refl)
      ∙ ap (run (entries_of s) (round_of s) ps) (sym (inv (entries_of s) (round_of s) f ps unit h x.lawful).sent)

-- the standing after a packet
pub moved_wrote : (h : rules.History) (c : rules.Call) (b : Bytes) → rules.standing (mk c (rules.wrote b) ∷ h) ≡ record { approved = rules.approved h; begun = rules.begins h; ended = rules.ends h; given_up = rules.gave_ups h; place = 1 + rules.sent_now h }
moved_wrote h c b =
    let a = zero-add (rules.tally_of rules.is_approval h) in let d = zero-add (rules.begins h) in let e = zero-add (rules.ends h) in let p = zero-add (rules.gave_ups h) in
    rw (a, d, e, p)
