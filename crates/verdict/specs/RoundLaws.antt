-- Rounds of a reel are a reel: the first packets of the endless run.
use Rattle.std.specs.Prelude.{◌≡◌, ℕ, zero, suc, ◌+◌, ◌*◌, ◌/◌, ◌%◌, ◌<◌, ◌≤◌, true, false, List, [], ◌∷◌, ◌++◌, length, get_or, nat_le, slice_index, slice_index_or, refl}
use Rattle.std.proofs.Common.{sym, ap, subst, ◌∙◌, inl, inr, mod-lt, mul-pos, add-one, arith, length-append}
use Rattle.std.proofs.Math.ListN.{get_or-append}
use Rattle.std.proofs.Math.Seq.{get_or-append_seam}
use Rattle.std.proofs.lemmas.Bool.{cases_Bool, cases_lt, cond-true, cond-false, and_parts, leb-true}
use Rattle.model.specs.declared.entry.Entry.{Entry}
use Rattle.model.specs.Packet.{Bytes, pid}
use Rattle.model.specs.Moves.{moved}
use Rattle.model.specs.Runs.{Packets, run, tally}
use Rattle.model.specs.Watches.{Whole}
use Rattle.laws.specs.Theorems.{Sized}
use Rattle.laws.proofs.Final.{moves_lawfully}
use Rattle.laws.proofs.Rounds.{times300}
use Rattle.verdict.specs.Ledgers.{Tallied}
use Rattle.verdict.specs.Fitting.{fit_rounds}
use Rattle.verdict.specs.RoundReels.{first_of, stamped_at, rounds_by}
use Rattle.verdict.specs.Going.{by_table}

module _ (f : ℕ → Bytes) where
  pub first_length : (m : ℕ) → length (first_of f m) ≡ m
  first_length zero = refl
  first_length (suc m) = length-append (first_of f m) _ ∙ ap (λ k. k + 1) (first_length m) ∙ add-one m

  pub first_at : (m i : ℕ) → i < m → slice_index_or (first_of f m) i [] ≡ f i
  first_at zero i h = absurd (omega arith)
  first_at (suc m) i h = elim (cases_lt i m) [
    | inl l ↦ get_or-append (first_of f m) _ [] i (let n = first_length m in omega arith) ∙ first_at m i l
    | inr l ↦
        let e : i ≡ m = omega arith in
        ap (λ k. get_or (first_of f m ++ (f m ∷ [])) k []) (e ∙ sym (first_length m))
        ∙ get_or-append_seam (first_of f m) (f m) [] [] ∙ ap f (sym e)
  ]

-- two runs that agree
pub first_same : (f g : ℕ → Bytes) (m : ℕ) → ((k : ℕ) → k < m → f k ≡ g k) → first_of f m ≡ first_of g m
first_same f g zero h = refl
first_same f g (suc m) h =
    ap (λ (x : Packets). x ++ (f m ∷ [])) (first_same f g m (λ k l. h k (omega arith))) ∙ ap (λ (x : Bytes). first_of g m ++ (x ∷ [])) (h m (omega arith))

pub record Fits (n count : ℕ) : Type 0 where
  pub some : 1 ≤ n
  pub few : n ≤ 1000000
  pub short : n * count ≤ 1000000000

pub fits : (n count : ℕ) → fit_rounds n count ≡ true → Fits n count
fits n count h =
    let p = and_parts (nat_le 1 n) _ h in
    let q = and_parts (nat_le n 1000000) _ p.1 in
    record { some = leb-true 1 n p.0; few = leb-true n 1000000 q.0; short = leb-true (n * count) 1000000000 q.1 }

run_is : (es : List Entry) (T : ℕ) (ps : Packets) (k : ℕ) → run es T ps k ≡ moved es (k / length ps * tally es ps (pid (slice_index_or ps (k % length ps) []))) (k / length ps * T) (slice_index_or ps (k % length ps) [])
unfolding run
run_is es T ps k = refl

module _ (es : List Entry) (T : ℕ) (ts : List ℕ) (n : ℕ) (ps : Packets) where
  pub rounds_in : fit_rounds n (length ps) ≡ true → rounds_by es T ts n ps ≡ first_of (stamped_at es T ts ps) (n * length ps)
  rounds_in h = cond-true (fit_rounds n (length ps)) _ ps h

  pub rounds_out : fit_rounds n (length ps) ≡ false → rounds_by es T ts n ps ≡ ps
  rounds_out h = cond-false (fit_rounds n (length ps)) (first_of (stamped_at es T ts ps) (n * length ps)) ps h

  pub rounds_length : fit_rounds n (length ps) ≡ true → length (rounds_by es T ts n ps) ≡ n * length ps
  rounds_length h = ap length (rounds_in h) ∙ first_length (stamped_at es T ts ps) (n * length ps)

  pub rounds_at : fit_rounds n (length ps) ≡ true → (i : ℕ) → i < n * length ps → slice_index_or (rounds_by es T ts n ps) i [] ≡ stamped_at es T ts ps i
  rounds_at h i l = ap (λ (x : Packets). get_or x i []) (rounds_in h) ∙ first_at (stamped_at es T ts ps) (n * length ps) i l

  -- with the tallies of the reel they are those of the endless run
  pub rounds_run : fit_rounds n (length ps) ≡ true → Tallied es ps ts → rounds_by es T ts n ps ≡ first_of (run es T ps) (n * length ps)
  rounds_run h t = rounds_in h ∙ first_same (stamped_at es T ts ps) (run es T ps) (n * length ps) (λ k l. sym (at k))
    where
      at : (k : ℕ) → run es T ps k ≡ stamped_at es T ts ps k
      at k = run_is es T ps k ∙ by_table es T ps ts (k / length ps) (λ _. t) (slice_index_or ps (k % length ps) [])

  module _ (z : T % 300 ≡ 0) (w : Whole ps) where
    stamped_sized : (k : ℕ) → Sized (stamped_at es T ts ps k)
    stamped_sized k =
        let l : 0 < length ps = w.some in
        let i = mod-lt k l in
        (moves_lawfully es _ _ (times300 (k / length ps) T z) (slice_index_or ps (k % length ps) []) (record { long = w.sized (k % length ps) i; small = λ b h. w.small (k % length ps) b i h })).sized

    pub rounds_whole : Whole (rounds_by es T ts n ps)
    rounds_whole = elim (cases_Bool (fit_rounds n (length ps))) [
      | inr h ↦ subst Whole (sym (rounds_out h)) w
      | inl h ↦
          let g = fits n (length ps) h in
          let len = rounds_length h in
          record {
            some = (let p = mul-pos g.some w.some in omega arith);
            few = (let p = g.short in omega arith);
            sized = λ i l. (let k : i < n * length ps = omega arith in ap length (rounds_at h i k) ∙ (stamped_sized i).long);
            small = λ i b l m. (let k : i < n * length ps = omega arith in subst (λ (x : Bytes). slice_index x b < 256) (sym (rounds_at h i k)) ((stamped_sized i).small b m));
          }
    ]
