-- Lawful histories keep the whole statement.
use Rattle.std.proofs.Common.{◌≡◌, ℕ, ◌+◌, ◌*◌, ◌/◌, ◌%◌, cond, List, length, Some, None, Option, sym, refl, ap, ◌∙◌, inl, inr, mod-lt, add_comm, arith}
use mathlib.Core.Path.{fun_ext}
use Rattle.std.proofs.lemmas.Bool.{both_ways, cases_Bool, ltb-true, ltb-false}
use native.Mathlib.Nat.{mod-add-div'}
use Rattle.player.proofs.HistoryLaw.{inv}
use Rattle.model.specs.declared.entry.Entry.{Entry}
use Rattle.model.specs.declared.sheet.Sheet.{Sheet}
use Rattle.model.specs.Runs.{Packets, Placed}
use Rattle.model.specs.Watches.{Finding, breach, Whole}
use Rattle.model.specs.Breaches.{Breach, Broken, at, verdict, Decides}
use Rattle.model.specs.Sheets.{entries_of, round_of}
use Rattle.model.specs.Player as rules
use Rattle.player.specs.Standings.{Checked as Seen, approved_in}
use Rattle.player.specs.Scripts.{Sees}

never_seen : {c : Seen} → None ≡ Some c → ⊥
never_seen {c} h = let z : ◌≡◌ {A = ℕ} 0 1 = cc in omega arith

pub new_sees : (s : Sheet) (f : Finding) (ps : Packets) (seen : Option Seen) (g : Finding) → seen ≡ None → ((xs : List Placed) (x : Placed) → g xs x ≡ f xs x) → Sees (entries_of s) (round_of s) f ps seen g
new_sees s f ps seen g e h = record {
  unseen = λ _. ap (λ x. verdict (entries_of s) (round_of s) x ps) (fun_ext (λ xs. fun_ext (λ x. h xs x)));
  verdict_is = λ c k. absurd (never_seen (sym e ∙ k));
  tallied = λ k. absurd (both_ways (approved_in seen) (ap approved_in e) k);
}

module _ (es : List Entry) (T : ℕ) (f : Finding) (ps : Packets) (w : Whole ps) where
  clean : ((b : Breach) → Broken es T f ps b → ⊥) → (k : ℕ) (o : Option ℕ) → breach es T f ps k ≡ o → o ≡ None
  clean c k None e = refl
  clean c k (Some r) e =
      let q : k / length ps * length ps + k % length ps ≡ k = (add_comm (k / length ps * length ps) (k % length ps) ∙ mod-add-div' k (length ps)) in
      absurd (c _ (at (k / length ps) (k % length ps) r (mod-lt k w.some) (ap (breach es T f ps) q ∙ e)))

  pub kept : (unit : ℕ) (h : rules.History) → Decides es T f ps (verdict es T f ps) → rules.Lawful es T f ps unit h → rules.Kept es T f ps unit h
  kept unit h d l =
      let i = inv es T f ps unit h l in
      record {
        decides = d;
        lawful = l;
        writes = i.wrote_all;
        unbroken = λ k m. clean (λ b x. d.approves.0 (i.approves (i.quiet (omega arith))) (b.round + 1) b x (omega arith)) k (breach es T f ps k) refl;
        balanced = elim (cases_Bool (rules.open? h)) [
          | inl o ↦ let a = ltb-true (rules.ends h + rules.gave_ups h) (rules.begins h) o in let x = i.high in (let z : rules.begins h ≡ rules.ends h + rules.gave_ups h + 1 = omega arith in z) ∙ sym (ap (λ b. rules.ends h + rules.gave_ups h + cond b 1 0) o)
          | inr o ↦ let a = ltb-false (rules.ends h + rules.gave_ups h) (rules.begins h) o in let x = i.low in (let z : rules.begins h ≡ rules.ends h + rules.gave_ups h + 0 = omega arith in z) ∙ sym (ap (λ b. rules.ends h + rules.gave_ups h + cond b 1 0) o)
        ];
      }
