-- From the rounds to the verdict.
use Rattle.std.proofs.Common.{◌≡◌, ℕ, zero, suc, ◌+◌, ◌-◌, ◌*◌, ◌%◌, ◌<◌, ◌≤◌, Bool, true, false, cond, not, ◌&&◌, ◌||◌, eqb, List, [], ◌∷◌, ◌++◌, length, get_or, take, Some, None, Err, Option, sym, refl, ap, ◌∙◌, subst, one-mul, zero-mul, arith, take-suc}
use Rattle.std.proofs.lemmas.List.{take_all}
use Rattle.std.proofs.lemmas.Bool.{cond-true, cond-false}
use Rattle.model.specs.declared.entry.Entry.{Entry}
use Rattle.model.specs.Packet.{Bytes, pid, has_pcr}
use Rattle.model.specs.Entries.{is_clock}
use Rattle.model.specs.Form.{sound}
use Rattle.model.specs.Rules.{rule_number}
use Rattle.model.specs.Runs.{Packets, before, past, run, counted}
use Rattle.model.specs.Watches.{Finding, Whole}
use Rattle.model.specs.Breaches.{Breach, clocked, all_clocked, first_in, in_round, verdict}
use Rattle.laws.proofs.Rounds.{run_first}
use Rattle.verdict.specs.declared.ledger.Row.{Row}
use Rattle.verdict.specs.declared.verdict.Breach.{Breach as Broken}
use Rattle.verdict.specs.Verdicts.{fault_at}
use Rattle.verdict.specs.Ledgers.{Knows, Tallied, State}

abbrev pub mk : ℕ → ℕ → ℕ → Breach
mk j i r = record { round = j; packet = i; rule = r }

module _ (es : List Entry) (T : ℕ) (f : Finding) (ps : Packets) where
  abbrev n : ℕ
  n = length ps

  abbrev rest : Option Breach
  rest = cond (all_clocked es es ps) (in_round es T f ps 1 (first_in es T f ps n n) None) (Some (mk 0 n 31))

  zeroth : (o : Option (ℕ × ℕ)) → o ≡ first_in es T f ps (0 * n) n → first_in es T f ps 0 n ≡ o
  zeroth o h = ap (λ x. first_in es T f ps x n) (sym (zero-mul n)) ∙ sym h

  oneth : (o : Option (ℕ × ℕ)) → o ≡ first_in es T f ps (1 * n) n → first_in es T f ps n n ≡ o
  oneth o h = ap (λ x. first_in es T f ps x n) (sym (one-mul n)) ∙ sym h

  less : (a i : ℕ) → a + i - a ≡ i
  less a i = omega arith

  pub verdict_zero : (x : Broken) → x.round ≡ 0 → fault_at (0 * n) (Err x) ≡ first_in es T f ps (0 * n) n → Some (mk x.round x.packet (rule_number x.rule)) ≡ verdict es T f ps
  verdict_zero x r h = ap (λ j. Some (mk j x.packet (rule_number x.rule))) r
      ∙ sym (ap (λ o. in_round es T f ps 0 o rest) (zeroth (fault_at (0 * n) (Err x)) h) ∙ ap (λ i. Some (mk 0 i (rule_number x.rule))) (less (0 * n) x.packet))

  after_zero : None ≡ first_in es T f ps (0 * n) n → verdict es T f ps ≡ rest
  after_zero h = ap (λ o. in_round es T f ps 0 o rest) (zeroth None h)

  pub verdict_unclocked : None ≡ first_in es T f ps (0 * n) n → false ≡ all_clocked es es ps → Some (mk 0 n 31) ≡ verdict es T f ps
  verdict_unclocked h a = sym (after_zero h ∙ cond-false (all_clocked es es ps) (in_round es T f ps 1 (first_in es T f ps n n) None) (Some (mk 0 n 31)) (sym a))

  after_clocks : None ≡ first_in es T f ps (0 * n) n → true ≡ all_clocked es es ps → verdict es T f ps ≡ in_round es T f ps 1 (first_in es T f ps n n) None
  after_clocks h a = after_zero h ∙ cond-true (all_clocked es es ps) (in_round es T f ps 1 (first_in es T f ps n n) None) (Some (mk 0 n 31)) (sym a)

  pub verdict_one : None ≡ first_in es T f ps (0 * n) n → true ≡ all_clocked es es ps → (x : Broken) → x.round ≡ 1 → fault_at (1 * n) (Err x) ≡ first_in es T f ps (1 * n) n → Some (mk x.round x.packet (rule_number x.rule)) ≡ verdict es T f ps
  verdict_one h a x r k = ap (λ j. Some (mk j x.packet (rule_number x.rule))) r
      ∙ sym (after_clocks h a ∙ ap (λ o. in_round es T f ps 1 o None) (oneth (fault_at (1 * n) (Err x)) k) ∙ ap (λ i. Some (mk 1 i (rule_number x.rule))) (less (1 * n) x.packet))

  pub verdict_none : None ≡ first_in es T f ps (0 * n) n → true ≡ all_clocked es es ps → None ≡ first_in es T f ps (1 * n) n → None ≡ verdict es T f ps
  verdict_none h a k = sym (after_clocks h a ∙ ap (λ o. in_round es T f ps 1 o None) (oneth None k))

  pub state_zero : (rows : List Row) → Knows es [] rows → State es T f ps (0 * n) rows f
  state_zero rows k = subst (λ x. State es T f ps x rows f) (sym (zero-mul n)) (record { knows = k; heard = λ xs x. refl })

  pub state_one : (rows : List Row) (g : Finding) → State es T f ps (0 * n + n) rows g → State es T f ps (1 * n) rows g
  state_one rows g s = let e : 0 * n + n ≡ 1 * n = omega arith in subst (λ x. State es T f ps x rows g) e s

  pub knows_all : (rows : List Row) (g : Finding) → State es T f ps (0 * n + n) rows g → Knows es (past es T ps n) rows
  knows_all rows g s = let e : 0 * n + n ≡ n = omega arith in (subst (λ x. State es T f ps x rows g) e s).knows

before_same : (f g : ℕ → Bytes) (k : ℕ) → ((i : ℕ) → i < k → f i ≡ g i) → before f k ≡ before g k
before_same f g zero h = refl
before_same f g (suc k) h = let a = h k (omega arith) in let b = before_same f g k (λ i l. h i (omega arith)) in cc

abbrev test : List Entry → Bytes → ℕ → Bool
test es p q = sound es p && (eqb (pid p) q && has_pcr p)

or_swap : (a b c : Bool) → (a || (b || c)) ≡ (b || (a || c))
or_swap true true c = refl
or_swap true false c = refl
or_swap false true c = refl
or_swap false false c = refl

clocked_last : (es : List Entry) (xs : Packets) (p : Bytes) (q : ℕ) → clocked es (xs ++ p ∷ []) q ≡ (test es p q || clocked es xs q)
clocked_last es [] p q = refl
clocked_last es (x ∷ xs) p q = ap (λ v. test es x q || v) (clocked_last es xs p q) ∙ or_swap (test es x q) (test es p q) (clocked es xs q)

clocked_before : (es : List Entry) (ps : Packets) (q k : ℕ) → k ≤ length ps → clocked es (before (λ i. get_or ps i []) k) q ≡ clocked es (take k ps) q
clocked_before es ps q zero l = refl
clocked_before es ps q (suc k) l =
    ap (λ v. test es (get_or ps k []) q || v) (clocked_before es ps q k (omega arith))
    ∙ sym (ap (λ v. clocked es v q) (take-suc ps k [] l) ∙ clocked_last es (take k ps) (get_or ps k []) q)

all_same : (es os : List Entry) (xs ys : Packets) → ((q : ℕ) → clocked es xs q ≡ clocked es ys q) → all_clocked es os xs ≡ all_clocked es os ys
all_same es [] xs ys h = refl
all_same es (e ∷ os) xs ys h =
    ap (λ v. (not (is_clock (Some e.kind)) || v) && all_clocked es os xs) (h e.pid)
    ∙ ap (λ v. (not (is_clock (Some e.kind)) || clocked es ys e.pid) && v) (all_same es os xs ys h)

module _ (es : List Entry) (T : ℕ) (ps : Packets) (w : Whole ps) (z : T % 300 ≡ 0) where
  past_round : past es T ps (length ps) ≡ before (λ i. get_or ps i []) (length ps)
  past_round = before_same (run es T ps) (λ i. get_or ps i []) (length ps) (λ i l. run_first es T ps w z i l)

  pub clocks_known : all_clocked es es (past es T ps (length ps)) ≡ all_clocked es es ps
  clocks_known = ap (all_clocked es es) past_round
      ∙ all_same es es (before (λ i. get_or ps i []) (length ps)) ps (λ q. clocked_before es ps q (length ps) (omega arith) ∙ ap (λ v. clocked es v q) (take_all (length ps) ps (omega arith)))

  pub tallied : (rows : List Row) (ts : List ℕ) → length es ≤ 16 → Knows es (past es T ps (length ps)) rows → ((i : ℕ) (row : Row) → i < 16 → get_or ts i 0 ≡ (get_or rows i row).tally) → Tallied es ps ts
  tallied rows ts m k h i e l = let d : Row = record { last = None; copied = false; tally = 0; clocked = false } in
      h i d (omega arith) ∙ (k i e d l).tallied ∙ ap (λ v. counted es (get_or es i e).pid v % 16) past_round
