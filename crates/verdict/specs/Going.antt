-- Going through a round.
use Rattle.std.specs.Prelude.{◌≡◌, ℕ, zero, suc, ◌+◌, ◌-◌, ◌*◌, ◌/◌, ◌%◌, ◌<◌, ◌≤◌, false, List, [], ◌∷◌, length, get_or, Some, None, Option, ◌==◌, ◌≢◌, slice_index_or, refl}
use Rattle.std.proofs.Common.{sym, subst, ◌∙◌, inl, inr, suc-le-suc, zero-le, le_of_suc-le-suc, zero-mul, mod-eq_of_lt, add_comm, mul-add, mul_left_comm, zero-add, add-mul, one-mul, arith, add-one}
use Rattle.std.proofs.Math.Path.{ap}
use Rattle.std.proofs.Math.Nat.{div-eq_of_lt, add-mul-div_right, add-mul-mod_self_right}
use Rattle.model.specs.declared.entry.Kind.TheVariants.{Pes}
use Rattle.std.proofs.lemmas.Bool.{cases_Bool, cases_order, cases_lt, cond-true, cond-false, and_right, eqb-true, eq-eqb, ne_eqb}
use Rattle.model.specs.declared.entry.Entry.{Entry}
use Rattle.model.specs.Packet.{Bytes, pid, continuity_counter, pcr, payload}
use Rattle.model.specs.Stamps.{stamp}
use Rattle.model.specs.Entries.{row_of, next, kind_of, listed}
use Rattle.model.specs.Form.{sound}
use Rattle.model.specs.Moves.{moved, moves, move_header, move_stamps, W, stamps}
use Rattle.model.specs.Runs.{Packets, tally, run}
use Rattle.model.specs.Watches.{Finding, breach}
use Rattle.model.specs.Breaches.{first_in}
use Rattle.laws.proofs.CheckLaw.{first, none, some}
use Rattle.verdict.specs.Tallies.{at_row, restamped_by}
use Rattle.verdict.specs.Ledgers.{Tallied}

-- only a counter modulo 16 matters
add_mod_same : (a c d : ℕ) → c % 16 ≡ d % 16 → (a + c) % 16 ≡ (a + d) % 16
add_mod_same a c d h = omega arith

pub moved_alike : (es : List Entry) (c d t : ℕ) (p : Bytes) → c % 16 ≡ d % 16 → moved es c t p ≡ moved es d t p
unfolding moved move_header
moved_alike es c d t p h = rw (add_mod_same (continuity_counter p) c d h)

mod_W : (x t : ℕ) → (x + t % W) % W ≡ (x + t) % W
mod_W x t = omega arith

mod_stamps : (x t : ℕ) → (x + t % W / 300) % stamps ≡ (x + t / 300) % stamps
mod_stamps x t = omega arith

-- ticks count modulo the clock's values
pub moved_ticks : (es : List Entry) (c t : ℕ) (p : Bytes) → moved es c (t % W) p ≡ moved es c t p
unfolding moved move_header move_stamps
moved_ticks es c t p = rw (mod_W (pcr p) t, mod_stamps (stamp (payload p) 9) t, mod_stamps (stamp (payload p) 14) t)

-- a round more is a round length more
pub round_more : (j T : ℕ) → 1 ≤ j → ((j - 1) * T % W + T) % W ≡ j * T % W
round_more j T h =
    let e : j ≡ j - 1 + 1 = omega arith in
    let a : j * T ≡ (j - 1) * T + T = ap (λ x. x * T) e ∙ add-mul (j - 1) 1 T ∙ ap (λ x. (j - 1) * T + x) (one-mul T) in
    sum ((j - 1) * T) T ∙ ap (λ x. x % W) (sym a)
  where
    sum : (x y : ℕ) → (x % W + y) % W ≡ (x + y) % W
    sum x y = omega arith

-- a packet of no row stays
pub moved_stays : (es : List Entry) (c t : ℕ) (p : Bytes) → listed (kind_of es (pid p)) ≡ false → moved es c t p ≡ p
unfolding moved
moved_stays es c t p h = cond-false (moves es p) _ p (and_right (sound es p) (listed (kind_of es (pid p))) h)

row_next : (o : Option ℕ) (i : ℕ) → o ≡ Some i → next o ≡ Some (i + 1)
row_next o i h = ap next h

pub data RowOf (es : List Entry) (q : ℕ) : Type 0 where
  unlisted : row_of es q ≡ None → listed (kind_of es q) ≡ false → RowOf es q
  row : (i : ℕ) → row_of es q ≡ Some i → i < length es → ((e : Entry) → (get_or es i e).pid ≡ q) → RowOf es q

pub rows : (es : List Entry) (q : ℕ) → RowOf es q
rows [] q = unlisted refl refl
rows (e ∷ es) q = elim (cases_Bool (e.pid == q)) [
  | inl h ↦ row 0 (cond-true (e.pid == q) (Some 0) (next (row_of es q)) h) (suc-le-suc zero-le) (λ d. eqb-true e.pid q h)
  | inr h ↦ elim (rows es q) [
    | unlisted a b ↦ unlisted (cond-false (e.pid == q) (Some 0) (next (row_of es q)) h ∙ ap next a) (ap listed (cond-false (e.pid == q) (Some e.kind) (kind_of es q) h) ∙ b)
    | row i a l k ↦ row (suc i) (cond-false (e.pid == q) (Some 0) (next (row_of es q)) h ∙ ap next a ∙ ap Some (add-one i)) (suc-le-suc l) k
  ]
]

times_mod : (j y : ℕ) → j * y % 16 ≡ j * (y % 16) % 16
times_mod j y =
    let e : y ≡ y % 16 + 16 * (y / 16) = omega arith in
    let a : j * y ≡ j * (y % 16) + 16 * (j * (y / 16)) = ap (λ x. j * x) e ∙ mul-add j (y % 16) (16 * (y / 16)) ∙ ap (λ x. j * (y % 16) + x) (mul_left_comm j 16 (y / 16)) in
    ap (λ x. x % 16) a ∙ drops (j * (y % 16)) (j * (y / 16))
  where
    drops : (x w : ℕ) → (x + 16 * w) % 16 ≡ x % 16
    drops x w = omega arith

module _ (es : List Entry) (T : ℕ) (ps : Packets) (ts : List ℕ) (j : ℕ) (known : 1 ≤ j → Tallied es ps ts) where
  pub by_table : (p : Bytes) → moved es (j * tally es ps (pid p)) (j * T) p ≡ restamped_by es (j * T) ts j p
  by_table p = elim (rows es (pid p)) [
    | unlisted a b ↦ moved_stays es _ _ p b ∙ sym (moved_stays es _ _ p b)
    | row i a l h ↦ moved_alike es _ _ (j * T) p (same i a l h)
  ]
    where
      table : (i : ℕ) → row_of es (pid p) ≡ Some i → i < length es → ((e : Entry) → (get_or es i e).pid ≡ pid p) → 1 ≤ j → tally es ps (pid p) % 16 ≡ at_row ts (row_of es (pid p))
      table i a l h z =
          let d : Entry = record { pid = 0; kind = Pes } in
          sym (ap (at_row ts) a ∙ known z i d l ∙ ap (λ x. tally es ps x % 16) (h d))

      same : (i : ℕ) → row_of es (pid p) ≡ Some i → i < length es → ((e : Entry) → (get_or es i e).pid ≡ pid p) → j * tally es ps (pid p) % 16 ≡ j * at_row ts (row_of es (pid p)) % 16
      same i a l h = elim (cases_lt 0 j) [
        | inr z ↦ let e : j ≡ 0 = omega arith in ap (λ x. x * tally es ps (pid p) % 16) e ∙ ap (λ x. x % 16) (zero-mul (tally es ps (pid p)) ∙ sym (zero-mul (at_row ts (row_of es (pid p))))) ∙ sym (ap (λ x. x * at_row ts (row_of es (pid p)) % 16) e)
        | inl z ↦ times_mod j (tally es ps (pid p)) ∙ ap (λ x. j * x % 16) (table i a l h z)
      ]

module _ (es : List Entry) (T : ℕ) (ps : Packets) (j i : ℕ) (l : i < length ps) where
  pos : 0 < length ps
  pos = omega arith

  place_div : (j * length ps + i) / length ps ≡ j
  place_div = ap (λ x. x / length ps) (add_comm (j * length ps) i) ∙ add-mul-div_right i j pos ∙ ap (λ x. x + j) (div-eq_of_lt l) ∙ zero-add j

  place_mod : (j * length ps + i) % length ps ≡ i
  place_mod = ap (λ x. x % length ps) (add_comm (j * length ps) i) ∙ add-mul-mod_self_right i j (length ps) ∙ mod-eq_of_lt l

  pub run_there : run es T ps (j * length ps + i) ≡ moved es (j * tally es ps (pid (slice_index_or ps i []))) (j * T) (slice_index_or ps i [])
  unfolding run
  run_there =
      ap (λ x. moved es (x * tally es ps (pid (slice_index_or ps ((j * length ps + i) % length ps) []))) (x * T) (slice_index_or ps ((j * length ps + i) % length ps) [])) place_div
      ∙ ap (λ x. moved es (j * tally es ps (pid (slice_index_or ps x []))) (j * T) (slice_index_or ps x [])) place_mod

pub run_at : (es : List Entry) (T : ℕ) (ps : Packets) (ts : List ℕ) (j n : ℕ) → n ≡ length ps → (1 ≤ j → Tallied es ps ts) → (i : ℕ) → i < n → (q : Bytes) → q ≡ restamped_by es (j * T) ts j (slice_index_or ps i []) → run es T ps (j * n + i) ≡ q
run_at es T ps ts j n e known i l q h =
    ap (λ x. run es T ps (j * x + i)) e ∙ run_there es T ps j i (subst (λ x. i < x) e l) ∙ by_table es T ps ts j known (slice_index_or ps i []) ∙ sym h

module _ (es : List Entry) (T : ℕ) (f : Finding) (ps : Packets) where
  never : {r : ℕ} → Some r ≢ None
  never {r} h = let z : ◌≡◌ {A = ℕ} 0 1 = cc in omega arith

  abbrev broke : ℕ → Option ℕ
  broke = breach es T f ps

  some_same : (a b : ℕ) → Some a ≡ Some b → a ≡ b
  some_same a b h = cc

  lower : (m i : ℕ) → ((k : ℕ) → k < i → broke (m + k) ≡ None) → (k : ℕ) → m ≤ k → k < m + i → broke k ≡ None
  lower m i h k a b = let e : m + (k - m) ≡ k = omega arith in ap broke (sym e) ∙ h (k - m) (omega arith)

  pub first_some : (m i n r : ℕ) → ((k : ℕ) → k < i → broke (m + k) ≡ None) → Some r ≡ broke (m + i) → i < n → Some (m + i, r) ≡ first_in es T f ps m n
  first_some m i n r h e l = elim (first es T f ps n m) [
    | none a b ↦ absurd (never (e ∙ b (m + i) (omega arith) (omega arith)))
    | some k s a b c d g ↦ elim (cases_order k (m + i)) [
      | inl q ↦ let t : s ≡ r = some_same s r (sym d ∙ ap broke q ∙ sym e) in sym (a ∙ (let u : ◌≡◌ {A = Option (ℕ × ℕ)} (Some (k, s)) (Some (m + i, r)) = cc in u))
      | inr q ↦ elim q [
        | inl v ↦ absurd (never (sym d ∙ lower m i h k b v))
        | inr v ↦ absurd (never (e ∙ g (m + i) (omega arith) v))
      ]
    ]
  ]

  pub first_none : (m n : ℕ) → ((k : ℕ) → k < n → broke (m + k) ≡ None) → None ≡ first_in es T f ps m n
  first_none m n h = elim (first es T f ps n m) [
    | none a b ↦ sym a
    | some k s a b c d g ↦ absurd (never (sym d ∙ lower m n h k b c))
  ]

  -- in a round of n packets, told by its length
  module _ (n : ℕ) (e : n ≡ length ps) (j i : ℕ) where
    back : ((k : ℕ) → k < i → broke (j * n + k) ≡ None) → (k : ℕ) → k < i → broke (j * length ps + k) ≡ None
    back h k l = ap (λ x. broke (j * x + k)) (sym e) ∙ h k l

    pub round_some : i < n → (r : ℕ) → ((k : ℕ) → k < i → broke (j * n + k) ≡ None) → Some r ≡ broke (j * n + i) → Some (j * length ps + i, r) ≡ first_in es T f ps (j * length ps) (length ps)
    round_some l r h b = first_some (j * length ps) i (length ps) r (back h) (b ∙ ap (λ x. broke (j * x + i)) e) (subst (λ x. i < x) e l)

    pub round_none : n ≤ i → ((k : ℕ) → k < i → broke (j * n + k) ≡ None) → None ≡ first_in es T f ps (j * length ps) (length ps)
    round_none l h = first_none (j * length ps) (length ps) (λ k m. back h k (omega arith))

-- the row that a search from the front finds
pub row_first : (es : List Entry) (q i : ℕ) → i < length es → ((e : Entry) → (get_or es i e).pid ≡ q) → ((k : ℕ) (e : Entry) → k < i → (get_or es k e).pid ≢ q) → Some i ≡ row_of es q
row_first [] q i l h n = absurd (let z : i < 0 = l in omega arith)
row_first (e ∷ es) q zero l h n = sym (cond-true (e.pid == q) (Some 0) (next (row_of es q)) (eq-eqb e.pid q (h e)))
row_first (e ∷ es) q (suc i) l h n =
    sym (cond-false (e.pid == q) (Some 0) (next (row_of es q)) (ne_eqb e.pid q (n 0 e (suc-le-suc zero-le)))
    ∙ ap next (sym (row_first es q i (le_of_suc-le-suc l) h (λ k d m. n (suc k) d (suc-le-suc m)))) ∙ ap Some (add-one i))

pub row_none : (es : List Entry) (q : ℕ) → ((k : ℕ) (e : Entry) → k < length es → (get_or es k e).pid ≢ q) → None ≡ row_of es q
row_none [] q n = refl
row_none (e ∷ es) q n =
    sym (cond-false (e.pid == q) (Some 0) (next (row_of es q)) (ne_eqb e.pid q (n 0 e (suc-le-suc zero-le)))
    ∙ ap next (sym (row_none es q (λ k d m. n (suc k) d (suc-le-suc m)))))
