-- A round that was begun may be given up, and sending or a refused end leaves that so.
use Rattle.std.proofs.Common.{◌≡◌, ℕ, ◌+◌, ◌≤◌, Bool, true, false, not, ◌&&◌, [], ◌∷◌, Some, None, Ok, Err, Option, ◌==◌, nat_le, nat_lt, refl, sym, ap, ◌∙◌, subst, arith, eq-eqb}
use Rattle.std.proofs.lemmas.Bool.{lt-ltb}
use Rattle.model.specs.declared.refusal.Refusal.{Refusal}
use Rattle.model.specs.Refusals.{refusal_number}
use Rattle.model.specs.Tests.{first_broken}
use Rattle.model.specs.Player as rules
use Rattle.player.specs.declared.progress.Progress.{Progress}
use Rattle.player.specs.declared.progress.Token.{Token}
use Rattle.player.specs.declared.progress.player.Player.{Player}
use Rattle.player.specs.Players.{standing_of, Same}
use Rattle.player.specs.Standings.{Checked, standing_at, approved_in, after_begin, after_end, granted?, began_of, closed_of}
use Rattle.reelplay.specs.Giving.{MayGiveUp}

-- the refusal of giving up, by what a player's fields say
abbrev refused_by : ℕ → Option Checked → Progress → ℕ → ℕ → Option ℕ
refused_by unit seen p u j = rules.refusal unit 0 (standing_at (approved_in seen) p) (rules.give_up u j)

-- the same unit, check and refusal
moved_over : (a b : ℕ) (s z : Option Checked) (p q : Progress) (u j : ℕ) → b ≡ a → z ≡ s → q ≡ p → refused_by a s p u j ≡ None → refused_by b z q u j ≡ None
moved_over a b s z p q u j f g k h =
    let F : ℕ → Option Checked → Progress → Type 0 = λ n o r. refused_by n o r u j ≡ None in
    subst (λ n. F n z q) (sym f) (subst (λ o. F a o q) (sym g) (subst (λ r. F a s r) (sym k) h))

-- a begin that was granted tells unit and round
granted_begin : (o : Option ℕ) (u b k j : ℕ) → rules.began k j ≡ rules.answered o (rules.began u b) → (o ≡ None) × (k ≡ u) × (j ≡ b)
granted_begin None u b k j h = (refl, (cc), (cc))
granted_begin (Some n) u b k j h = absurd (cc)

-- what a granted begin has passed is what giving up asks, but for an open round and its token
passed : (a b c d x y : Bool) → first_broken ((10, a) ∷ (11, b) ∷ (12, c) ∷ (17, d) ∷ []) ≡ None → x ≡ true → y ≡ true → first_broken ((10, a) ∷ (11, b) ∷ (13, not x) ∷ (14, not y) ∷ []) ≡ None
passed true b c d x y h e f = absurd (cc)
passed false true c d x y h e f = absurd (cc)
passed false false c d true true h e f = refl
passed false false c d true false h e f = absurd (cc)
passed false false c d false y h e f = absurd (cc)

-- the round after a begin that was granted
may_now : (ok : Bool) (unit b e g : ℕ) → e + g ≤ b → first_broken ((10, nat_le 1 g) ∷ (11, not ok) ∷ (12, nat_lt (e + g) b) ∷ (17, nat_le 1000000 b) ∷ []) ≡ None → first_broken ((10, nat_le 1 g) ∷ (11, not ok) ∷ (13, not (nat_lt (e + g) (b + 1))) ∷ (14, not (unit == unit && b + 1 == b + 1)) ∷ []) ≡ None
may_now ok unit b e g h f =
    let o = lt-ltb (e + g) (b + 1) (omega arith) in
    let u = eq-eqb unit unit refl in
    let r = eq-eqb (b + 1) (b + 1) refl in
    passed (nat_le 1 g) (not ok) (nat_lt (e + g) b) (nat_le 1000000 b) (nat_lt (e + g) (b + 1)) (unit == unit && b + 1 == b + 1) f o (ap (λ v. v && b + 1 == b + 1) u ∙ r)

pub may_begin : {S W : Type 0} (p q : Player S W) (t : Token) (n : ℕ) → Same p q → began_of (Ok t) ≡ rules.answered (rules.refusal p.unit n (standing_of p) rules.begin) (rules.began p.unit p.progress.begun) → q.progress ≡ after_begin (granted? (rules.refusal p.unit n (standing_of p) rules.begin)) p.progress → p.progress.ended + p.progress.given_up ≤ p.progress.begun → MayGiveUp q t
may_begin p q t n s a m l =
    let r = p.progress in
    let o = rules.refusal p.unit n (standing_of p) rules.begin in
    let w = granted_begin o p.unit r.begun t.id.unit t.id.round a in
    let k : q.progress ≡ after_begin true r = m ∙ ap (λ v. after_begin (granted? v) r) w.0 in
    let F : ℕ → ℕ → Type 0 = λ u j. refused_by p.unit p.seen (after_begin true r) u j ≡ None in
    let h : F p.unit r.begun = may_now (approved_in p.seen) p.unit r.begun r.ended r.given_up l w.0 in
    moved_over p.unit q.unit p.seen q.seen (after_begin true r) q.progress t.id.unit t.id.round s.unit s.seen k
    (subst (λ u. F u t.id.round) (sym w.1) (subst (λ j. F p.unit j) (sym w.2) h))

-- an end that was refused says so, and changes nothing
refused_end : (o : Option ℕ) (k : ℕ) (p : Progress) → rules.refused k ≡ rules.answered o rules.ended → after_end (granted? o) p ≡ p
refused_end None k p h = absurd (cc)
refused_end (Some n) k p h = refl

pub may_end : {S W : Type 0} (p q : Player S W) (t : Token) (e : Refusal × Token) (n : ℕ) → Same p q → closed_of rules.ended (Err e) ≡ rules.answered (rules.refusal p.unit n (standing_of p) (rules.finish t.id.unit t.id.round)) rules.ended → q.progress ≡ after_end (granted? (rules.refusal p.unit n (standing_of p) (rules.finish t.id.unit t.id.round))) p.progress → e.1 ≡ t → MayGiveUp p t → MayGiveUp q e.1
may_end p q t e n s a m b h =
    let o = rules.refusal p.unit n (standing_of p) (rules.finish t.id.unit t.id.round) in
    let F : Token → Type 0 = λ x. MayGiveUp q x in
    subst F (sym b) (moved_over p.unit q.unit p.seen q.seen p.progress q.progress t.id.unit t.id.round s.unit s.seen (m ∙ refused_end o (refusal_number e.0) p.progress a) h)
